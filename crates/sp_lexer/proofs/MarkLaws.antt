-- Laws of operators and punctuators.
use Rattle.std.proofs.Common.{◌≡◌, ℕ, zero, suc, ◌<◌, ◌≤◌, Bool, true, false, not, ◌&&◌, List, [], ◌∷◌, ◌++◌, length, drop, slice_get, Some, None, refl, sym, ap, ◌∙◌, true≢false, ◌⊎◌, inl, inr, arith}
use Rattle.std.specs.Prelude.{◌==◌, nat_eq, nat_le, nat_lt}
use Rattle.std.specs.List.{find, starts_with}
use Rattle.std.proofs.lemmas.List.{nil_from_length}
use Rattle.std.proofs.lemmas.Slice.Eq.{starts_is}
use Rattle.std.proofs.lemmas.Bool.{eq-eqb, leb-true}
use Rattle.std.proofs.lemmas.Bool.Decides.{Decides-eqb}
use Rattle.sp_tree.specs.declared.token.Punct.{Punct}
use Rattle.sp_tree.specs.Spellings.{mark_spelling}
use Rattle.sp_lexer.specs.Bytes.{begins, is_letter, is_digit, is_quote}
use Rattle.sp_lexer.specs.Marks.{marks, marks_from, mark_among}
use Rattle.sp_lexer.proofs.Cases.{chosen, both, negated}
use Rattle.sp_lexer.proofs.WordLaws.{find-filter}
use Rattle.sp_lexer.proofs.MarkTable.{place_of, plain_mark}

-- what the test of a spelling says
pub record IsPlain (bytes : List ℕ) : Type 0 where
  pub long : 0 < length bytes
  pub letter : begins is_letter bytes ≡ false
  pub digit : begins is_digit bytes ≡ false
  pub quote : begins is_quote bytes ≡ false
  pub second : begins is_digit (drop 1 bytes) ≡ false

pub plain : (mark : Punct) → IsPlain (mark_spelling mark)
plain mark =
    let s : List ℕ = mark_spelling mark in
    let e = both (nat_lt 0 (length s) && not (begins is_letter s) && not (begins is_digit s) && not (begins is_quote s)) (not (begins is_digit (drop 1 s))) (plain_mark mark) in
    let d = both (nat_lt 0 (length s) && not (begins is_letter s) && not (begins is_digit s)) (not (begins is_quote s)) e.0 in
    let c = both (nat_lt 0 (length s) && not (begins is_letter s)) (not (begins is_digit s)) d.0 in
    let b = both (nat_lt 0 (length s)) (not (begins is_letter s)) c.0 in
    record { long = grind arith; letter = negated _ b.1; digit = negated _ c.1; quote = negated _ d.1; second = negated _ e.1 }

-- a text begins with a spelling exactly where the test says so
pub started : (text spelling : List ℕ) → starts_with nat_eq text spelling ≡ true → text ≡ spelling ++ drop (length spelling) text
started text spelling h = (starts_is Decides-eqb text spelling _ refl).0 h

pub starts : (text spelling rest : List ℕ) → text ≡ spelling ++ rest → starts_with nat_eq text spelling ≡ true
starts text spelling rest e = (starts_is Decides-eqb text spelling _ refl).1 rest e

-- the first byte of a spelling is the text's
pub begins-append : (p : ℕ → Bool) (xs ys : List ℕ) → 0 < length xs → begins p (xs ++ ys) ≡ begins p xs
begins-append p [] ys long = absurd (omega arith)
begins-append p (x ∷ xs) ys long = refl

-- the longest mark is found among those that begin with the text's first byte
pub mark-from : (first : ℕ) (rest text : List ℕ) → text ≡ first ∷ rest → mark_among text (marks_from first) ≡ mark_among text marks
unfolding marks_from
mark-from first rest text e = find-filter (λ m. starts_with nat_eq text (mark_spelling m)) (λ m. begins (λ b. b == first) (mark_spelling m)) marks heads
  where
    heads : (m : Punct) → starts_with nat_eq text (mark_spelling m) ≡ true → begins (λ b. b == first) (mark_spelling m) ≡ true
    heads m begun =
        let test : ℕ → Bool = λ b. b == first in
        sym (begins-append test (mark_spelling m) (drop (length (mark_spelling m)) text) (plain m).long) ∙ ap (begins test) (sym (started text (mark_spelling m) begun) ∙ e) ∙ eq-eqb first first refl

pub mark-none : (text : List ℕ) → length text ≡ 0 → None ≡ mark_among text marks
unfolding marks
mark-none text e = rw (nil_from_length text e) refl

-- whether sizes go down along a list, from a bound
abbrev falls : {X : Type 0} → (X → ℕ) → ℕ → List X → Bool
falls size bound [] = true
falls size bound (x ∷ xs) = nat_le (size x) bound && falls size (size x) xs

-- what is found in such a list
module _ {X : Type 0} (test : X → Bool) (size : X → ℕ) where
  bounded : (bound : ℕ) (xs : List X) (i : ℕ) (p : X) → falls size bound xs ≡ true → slice_get xs i ≡ Some p → size p ≤ bound
  bounded bound [] i p down at = cc
  bounded bound (x ∷ xs) i p down at = by i (both (nat_le (size x) bound) (falls size (size x) xs) down) at (λ j later. bounded (size x) xs j p (both (nat_le (size x) bound) (falls size (size x) xs) down).1 later)
    where
      by : (i : ℕ) → (nat_le (size x) bound ≡ true) × (falls size (size x) xs ≡ true) → slice_get (x ∷ xs) i ≡ Some p → ((j : ℕ) → slice_get xs j ≡ Some p → size p ≤ size x) → size p ≤ bound
      by zero h e later = let same : x ≡ p = cc in rw (← same) (leb-true (size x) bound h.0)
      by (suc j) h e later = omega (arith, leb-true (size x) bound h.0, later j e)

  -- none that passes is larger than the first that does
  largest : (bound : ℕ) (xs : List X) (m : X) (i : ℕ) (p : X) → falls size bound xs ≡ true → find test xs ≡ Some m → slice_get xs i ≡ Some p → test p ≡ true → size p ≤ size m
  largest bound [] m i p down is at passes = cc
  largest bound (x ∷ xs) m i p down is at passes =
      by i (chosen (test x) is) at (both (nat_le (size x) bound) (falls size (size x) xs) down).1 (λ j found e. largest (size x) xs m j p (both (nat_le (size x) bound) (falls size (size x) xs) down).1 found e passes)
    where
      by : (i : ℕ) → ((test x ≡ true) × (Some x ≡ Some m)) ⊎ ((test x ≡ false) × (find test xs ≡ Some m)) → slice_get (x ∷ xs) i ≡ Some p → falls size (size x) xs ≡ true → ((j : ℕ) → find test xs ≡ Some m → slice_get xs j ≡ Some p → size p ≤ size m) → size p ≤ size m
      by zero (inl h) e tail later = let one : x ≡ p = cc in let other : x ≡ m = cc in rw (← one, ← other) (omega arith)
      by (suc j) (inl h) e tail later = let other : x ≡ m = cc in rw (← other) (bounded (size x) xs j p tail e)
      by zero (inr h) e tail later = let one : x ≡ p = cc in absurd (true≢false (sym passes ∙ sym (ap test one) ∙ h.0))
      by (suc j) (inr h) e tail later = later j h.1 e

  none_passes : (xs : List X) (i : ℕ) (p : X) → find test xs ≡ None → slice_get xs i ≡ Some p → test p ≡ true → ⊥
  none_passes [] i p none at passes = cc
  none_passes (x ∷ xs) i p none at passes = by i (chosen (test x) none) at (λ j found e. none_passes xs j p found e passes)
    where
      by : (i : ℕ) → ((test x ≡ true) × (Some x ≡ None)) ⊎ ((test x ≡ false) × (find test xs ≡ None)) → slice_get (x ∷ xs) i ≡ Some p → ((j : ℕ) → find test xs ≡ None → slice_get xs j ≡ Some p → ⊥) → ⊥
      by i (inl h) e later = cc
      by zero (inr h) e later = let one : x ≡ p = cc in true≢false (sym passes ∙ sym (ap test one) ∙ h.0)
      by (suc j) (inr h) e later = later j h.1 e

  found_passes : (xs : List X) (m : X) → find test xs ≡ Some m → test m ≡ true
  found_passes [] m is = cc
  found_passes (x ∷ xs) m is = by (chosen (test x) is) (λ found. found_passes xs m found)
    where
      by : ((test x ≡ true) × (Some x ≡ Some m)) ⊎ ((test x ≡ false) × (find test xs ≡ Some m)) → (find test xs ≡ Some m → test m ≡ true) → test m ≡ true
      by (inl h) later = let one : x ≡ m = cc in sym (ap test one) ∙ h.0
      by (inr h) later = later h.1

-- the mark that is found begins the text, and no longer one does
pub mark-found : (text : List ℕ) (m : Punct) → mark_among text marks ≡ Some m → text ≡ mark_spelling m ++ drop (length (mark_spelling m)) text
mark-found text m is = started text (mark_spelling m) (found_passes (λ k. starts_with nat_eq text (mark_spelling k)) (λ k. length (mark_spelling k)) marks m is)

marks_fall : falls (λ k. length (mark_spelling k)) 3 marks ≡ true
unfolding marks
marks_fall = refl

pub mark-longest : (text : List ℕ) (m p : Punct) (rest : List ℕ) → mark_among text marks ≡ Some m → text ≡ mark_spelling p ++ rest → length (mark_spelling p) ≤ length (mark_spelling m)
mark-longest text m p rest is e = largest (λ k. starts_with nat_eq text (mark_spelling k)) (λ k. length (mark_spelling k)) 3 marks m (place_of p).0 p marks_fall is (place_of p).1 (starts text (mark_spelling p) rest e)

pub no_mark : (text : List ℕ) (p : Punct) (rest : List ℕ) → mark_among text marks ≡ None → text ≡ mark_spelling p ++ rest → ⊥
no_mark text p rest none e = none_passes (λ k. starts_with nat_eq text (mark_spelling k)) (λ k. length (mark_spelling k)) marks (place_of p).0 p none (place_of p).1 (starts text (mark_spelling p) rest e)
