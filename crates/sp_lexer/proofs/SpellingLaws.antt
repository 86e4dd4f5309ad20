-- Which spelling a text begins with, by its first byte: there is no longer one.
use Rattle.std.proofs.Common.{◌≡◌, ℕ, suc, ◌+◌, ◌<◌, ◌≤◌, Bool, true, false, cond, not, ◌&&◌, ◌||◌, List, [], ◌∷◌, ◌++◌, length, take, drop, Option, Some, None, refl, sym, ap, ◌∙◌, subst, ◌⊎◌, inl, inr, true≢false, append_assoc, take-append-drop, length-take, arith}
use Rattle.std.specs.Prelude.{◌==◌, nat_le}
use Rattle.std.specs.Option.{option_map}
use Rattle.std.specs.List.{list_all}
use Rattle.std.proofs.lemmas.Bool.{eqb-true, eq-eqb, leb-true}
use Rattle.sp_tree.specs.declared.token.Punct.{Punct}
use Rattle.sp_tree.specs.Spellings.{mark_spelling}
use Rattle.sp_lexer.specs.Bytes.{is_between, is_digit, is_letter, is_word_byte, is_quote, is_sign, is_exponent_letter, begins, front, after, is_empty}
use Rattle.sp_lexer.specs.Spelling.{is_run, closes, goes_on, runs_on, IsSpelling, spells_word, spells_run, spells_string, spells_character, spells_mark, BeginsWith, BeginsWithNone}
use Rattle.sp_lexer.specs.Extents.{before_quote, run_len, starts_run}
use Rattle.sp_lexer.specs.Marks.{marks, mark_among}
use Rattle.sp_lexer.proofs.Cases.{which, chosen, both, together, either, negated}
use Rattle.sp_lexer.proofs.ByteLaws.{front-after}
use Rattle.sp_lexer.proofs.MarkLaws.{plain, mark-found, mark-longest, no_mark}

-- ---- classes of bytes that don't meet

between : (low high b : ℕ) → is_between low high b ≡ true → (low ≤ b) × (b ≤ high)
unfolding is_between
between low high b h = let p = both (nat_le low b) (nat_le b high) h in (leb-true low b p.0, leb-true b high p.1)

-- the bounds of a digit, and of a letter
pub digit_bounds : (b : ℕ) → is_digit b ≡ true → (48 ≤ b) × (b ≤ 57)
unfolding is_digit
digit_bounds b h = between 48 57 b h

pub letter_bounds : (b : ℕ) → is_letter b ≡ true → 65 ≤ b
unfolding is_letter
letter_bounds b h = by (either (is_between 97 122 b || is_between 65 90 b) (b == 95) h)
  where
    by : ((is_between 97 122 b || is_between 65 90 b) ≡ true) ⊎ ((b == 95) ≡ true) → 65 ≤ b
    by (inr e) = omega (arith, eqb-true b 95 e)
    by (inl e) = elim (either (is_between 97 122 b) (is_between 65 90 b) e) [ inl k ↦ omega (arith, between 97 122 b k) | inr k ↦ omega (arith, between 65 90 b k) ]

pub quote_cases : (b : ℕ) → is_quote b ≡ true → (b ≡ 34) ⊎ (b ≡ 39)
unfolding is_quote
quote_cases b h = elim (either (b == 34) (b == 39) h) [ inl e ↦ inl (eqb-true b 34 e) | inr e ↦ inr (eqb-true b 39 e) ]

-- ---- what a spelling is by its first byte

-- the first byte of each form
pub data Opening (b : ℕ) (os : List ℕ) : Type 0 where
  opens_word : is_letter b ≡ true → list_all is_word_byte os ≡ true → Opening b os
  opens_run : starts_run (b ∷ os) ≡ true → runs_on b os ≡ true → Opening b os
  opens_literal : is_quote b ≡ true → closes false b os ≡ true → Opening b os
  opens_mark : (mark : Punct) → b ∷ os ≡ mark_spelling mark → Opening b os

pub opening : (b : ℕ) (os : List ℕ) → IsSpelling (b ∷ os) → Opening b os
unfolding is_quote
opening b os (spells_word h) = let p = both (is_letter b) (list_all is_word_byte os) h in opens_word p.0 p.1
opening b os (spells_run h) = let p = both (is_digit b || (b == 46 && begins is_digit os)) (runs_on b os) h in opens_run p.0 p.1
opening b os (spells_string h) =
    let p = both (b == 34) (closes false 34 os) h in
    let e = eqb-true b 34 p.0 in
    opens_literal (rw e refl) (rw e p.1)
opening b os (spells_character h) =
    let p = both (b == 39) (closes false 39 os) h in
    let e = eqb-true b 39 p.0 in
    opens_literal (rw e refl) (rw e p.1)
opening b os (spells_mark mark e) = opens_mark mark e

-- a byte at which a run may begin is no letter and no quote
run_bounds : (b : ℕ) (bs : List ℕ) → starts_run (b ∷ bs) ≡ true → (46 ≤ b) × (b ≤ 57)
run_bounds b bs h =
    elim (either (is_digit b) (b == 46 && begins is_digit bs) h)
    [ inl e ↦ let d = digit_bounds b e in (omega (arith, d.0), d.1) | inr e ↦ let p = eqb-true b 46 (both (b == 46) (begins is_digit bs) e).0 in (omega (arith, p), omega (arith, p)) ]

quote_bound : (b : ℕ) → is_quote b ≡ true → b < 46
quote_bound b h = elim (quote_cases b h) [ inl e ↦ omega (arith, e) | inr e ↦ omega (arith, e) ]

-- ---- how far each form reaches

-- bytes of a class at the front of a text are among its front of that class
pub front-covers : (p : ℕ → Bool) (xs ys : List ℕ) → list_all p xs ≡ true → length xs ≤ length (front p (xs ++ ys))
front-covers p [] ys h = omega arith
front-covers p (x ∷ xs) ys h =
    let parts = both (p x) (list_all p xs) h in
    rw parts.0 (omega (arith, front-covers p xs ys parts.1))

pub front-passes : (p : ℕ → Bool) (xs : List ℕ) → list_all p (front p xs) ≡ true
front-passes p [] = refl
front-passes p (x ∷ xs) = by (which (p x)) (front-passes p xs)
  where
    by : (p x ≡ true) ⊎ (p x ≡ false) → list_all p (front p xs) ≡ true → list_all p (cond (p x) (x ∷ front p xs) []) ≡ true
    by (inl h) rest = rw h (rw h rest)
    by (inr h) rest = rw h refl

-- the same of number runs
pub run-covers : (last : ℕ) (xs ys : List ℕ) → runs_on last xs ≡ true → length xs ≤ run_len last (xs ++ ys)
run-covers last [] ys h = omega arith
run-covers last (x ∷ xs) ys h =
    let parts = both (goes_on last x) (runs_on x xs) h in
    rw parts.0 (omega (arith, run-covers x xs ys parts.1))

pub run-passes : (last : ℕ) (xs : List ℕ) → runs_on last (take (run_len last xs) xs) ≡ true
run-passes last [] = refl
run-passes last (x ∷ xs) = by (which (goes_on last x)) (run-passes x xs)
  where
    by : (goes_on last x ≡ true) ⊎ (goes_on last x ≡ false) → runs_on x (take (run_len x xs) xs) ≡ true → runs_on last (take (cond (goes_on last x) (suc (run_len x xs)) 0) (x ∷ xs)) ≡ true
    by (inl h) rest = rw h (rw h rest)
    by (inr h) rest = rw h refl

-- one step of the search for the quote
more : (o : Option ℕ) (n : ℕ) → option_map suc o ≡ Some n → (m : ℕ) × (o ≡ Some m) × (n ≡ suc m)
more None n e = cc
more (Some m) n e = (m, refl, cc)

more_none : (o : Option ℕ) → option_map suc o ≡ None → o ≡ None
more_none None e = refl
more_none (Some m) e = cc

pub data Found (kept : Bool) (quote x : ℕ) (rest : Option ℕ) (n : ℕ) : Type 0 where
  found_here : (x == quote && not kept) ≡ true → x ≡ quote → n ≡ 0 → Found kept quote x rest n
  found_later : (m : ℕ) → (x == quote && not kept) ≡ false → (x == 10) ≡ false → rest ≡ Some m → n ≡ suc m → Found kept quote x rest n

found : (kept : Bool) (quote x : ℕ) (rest : Option ℕ) (n : ℕ) → cond (x == quote && not kept) (Some 0) (cond (x == 10) None (option_map suc rest)) ≡ Some n → Found kept quote x rest n
found kept quote x rest n e = by (chosen (x == quote && not kept) e)
  where
    later : (x == quote && not kept) ≡ false → ((x == 10) ≡ true) × (None ≡ Some n) ⊎ ((x == 10) ≡ false) × (option_map suc rest ≡ Some n) → Found kept quote x rest n
    later out (inl h) = cc
    later out (inr h) = let m = more rest n h.1 in found_later m.0 out h.0 m.1 m.2

    by : ((x == quote && not kept) ≡ true) × (Some 0 ≡ Some n) ⊎ ((x == quote && not kept) ≡ false) × (cond (x == 10) None (option_map suc rest) ≡ Some n) → Found kept quote x rest n
    by (inl h) = found_here h.0 (eqb-true x quote (both (x == quote) (not kept) h.0).0) (cc)
    by (inr h) = later h.0 (chosen (x == 10) h.1)

-- a literal that closes ends at the first quote that ends it
pub closes-at : (kept : Bool) (quote : ℕ) (xs ys : List ℕ) (n : ℕ) → closes kept quote xs ≡ true → before_quote kept quote (xs ++ ys) ≡ Some n → length xs ≡ n + 1
closes-at kept quote [] ys n h e = cc
closes-at kept quote (x ∷ xs) ys n h e = by h (found kept quote x _ n e) (λ m k f. closes-at (x == 92 && not kept) quote xs ys m k f)
  where
    empty : (zs : List ℕ) → is_empty zs ≡ true → length zs ≡ 0
    empty [] k = refl
    empty (z ∷ zs) k = cc

    by : cond (x == quote && not kept) (is_empty xs) (not (x == 10) && closes (x == 92 && not kept) quote xs) ≡ true → Found kept quote x (before_quote (x == 92 && not kept) quote (xs ++ ys)) n → ((m : ℕ) → closes (x == 92 && not kept) quote xs ≡ true → before_quote (x == 92 && not kept) quote (xs ++ ys) ≡ Some m → length xs ≡ m + 1) → length (x ∷ xs) ≡ n + 1
    by k (found_here is same none) rest = omega (arith, empty xs (rw is at k), none)
    by k (found_later m out line f is) rest = omega (arith, rest m (both (not (x == 10)) (closes (x == 92 && not kept) quote xs) (rw out at k)).1 f, is)

-- no quote stands here, and none is found later
lost : (kept : Bool) (quote x : ℕ) (rest : Option ℕ) → ◌≡◌ {A = Option ℕ} (cond (x == quote && not kept) (Some 0) (cond (x == 10) None (option_map suc rest))) None → ((x == quote && not kept) ≡ false) × (((x == 10) ≡ true) ⊎ (rest ≡ None))
lost kept quote x rest e = by (chosen (x == quote && not kept) e)
  where
    later : (x == quote && not kept) ≡ false → ((x == 10) ≡ true) × (◌≡◌ {A = Option ℕ} None None) ⊎ ((x == 10) ≡ false) × (option_map suc rest ≡ None) → ((x == quote && not kept) ≡ false) × (((x == 10) ≡ true) ⊎ (rest ≡ None))
    later out (inl h) = (out, inl h.0)
    later out (inr h) = (out, inr (more_none rest h.1))

    by : ((x == quote && not kept) ≡ true) × (◌≡◌ {A = Option ℕ} (Some 0) None) ⊎ ((x == quote && not kept) ≡ false) × (cond (x == 10) None (option_map suc rest) ≡ None) → ((x == quote && not kept) ≡ false) × (((x == 10) ≡ true) ⊎ (rest ≡ None))
    by (inl h) = cc
    by (inr h) = later h.0 (chosen (x == 10) h.1)

pub closes-somewhere : (kept : Bool) (quote : ℕ) (xs ys : List ℕ) → closes kept quote xs ≡ true → before_quote kept quote (xs ++ ys) ≡ None → ⊥
closes-somewhere kept quote [] ys h e = cc
closes-somewhere kept quote (x ∷ xs) ys h e = by (lost kept quote x _ e) h (λ k f. closes-somewhere (x == 92 && not kept) quote xs ys k f)
  where
    later : ((x == 10) ≡ true) ⊎ (before_quote (x == 92 && not kept) quote (xs ++ ys) ≡ None) → (not (x == 10) ≡ true) × (closes (x == 92 && not kept) quote xs ≡ true) → (closes (x == 92 && not kept) quote xs ≡ true → before_quote (x == 92 && not kept) quote (xs ++ ys) ≡ None → ⊥) → ⊥
    later (inl f) k rest = true≢false (sym f ∙ negated (x == 10) k.0)
    later (inr f) k rest = rest k.1 f

    by : ((x == quote && not kept) ≡ false) × (((x == 10) ≡ true) ⊎ (before_quote (x == 92 && not kept) quote (xs ++ ys) ≡ None)) → cond (x == quote && not kept) (is_empty xs) (not (x == 10) && closes (x == 92 && not kept) quote xs) ≡ true → (closes (x == 92 && not kept) quote xs ≡ true → before_quote (x == 92 && not kept) quote (xs ++ ys) ≡ None → ⊥) → ⊥
    by f k rest = later f.1 (both (not (x == 10)) (closes (x == 92 && not kept) quote xs) (rw f.0 at k)) rest

-- the bytes up to the quote close, and the quote stands after them
pub record Closed (kept : Bool) (quote : ℕ) (xs : List ℕ) (n : ℕ) : Type 0 where
  pub closed : closes kept quote (take n xs ++ quote ∷ []) ≡ true
  pub parts : xs ≡ take n xs ++ quote ∷ drop (n + 1) xs

pub quote-closes : (kept : Bool) (quote : ℕ) (xs : List ℕ) (n : ℕ) → before_quote kept quote xs ≡ Some n → Closed kept quote xs n
quote-closes kept quote [] n e = cc
quote-closes kept quote (x ∷ xs) n e = by (found kept quote x _ n e) (λ m f. quote-closes (x == 92 && not kept) quote xs m f)
  where
    by : Found kept quote x (before_quote (x == 92 && not kept) quote xs) n → ((m : ℕ) → before_quote (x == 92 && not kept) quote xs ≡ Some m → Closed (x == 92 && not kept) quote xs m) → Closed kept quote (x ∷ xs) n
    by (found_here is same none) rest =
        let here : (quote == quote && not kept) ≡ true = subst (λ z. (z == quote && not kept) ≡ true) same is in
        rw none (record { closed = rw here refl; parts = rw (← same) refl })
    by (found_later m out line f is) rest =
        let tail = rest m f in
        let one_more : suc m + 1 ≡ suc (m + 1) = omega arith in
        rw is (record { closed = rw (out, line) tail.closed; parts = ap (λ zs. x ∷ zs) (tail.parts ∙ (rw one_more refl)) })

-- ---- the longest spelling, by the first byte of the text

pub no_empty : IsSpelling [] → ⊥
no_empty (spells_word h) = cc
no_empty (spells_run h) = cc
no_empty (spells_string h) = cc
no_empty (spells_character h) = cc
no_empty (spells_mark m e) = let long : 0 < length (mark_spelling m) = (plain m).long in omega (arith, long, ap length e)

longest_by : (b : ℕ) (bs : List ℕ) (n : ℕ) → ((os rest : List ℕ) → bs ≡ os ++ rest → Opening b os → suc (length os) ≤ n) → (other rest : List ℕ) → b ∷ bs ≡ other ++ rest → IsSpelling other → length other ≤ n
longest_by b bs n bound [] rest e h = omega arith
longest_by b bs n bound (o ∷ os) rest e h =
    let head : b ≡ o = cc in
    let tail : bs ≡ os ++ rest = cc in
    bound os rest tail (subst (λ x. Opening x os) (sym head) (opening o os h))

none_by : (b : ℕ) (bs : List ℕ) → ((os rest : List ℕ) → bs ≡ os ++ rest → Opening b os → ⊥) → BeginsWithNone (b ∷ bs)
none_by b bs never [] rest e h = no_empty h
none_by b bs never (o ∷ os) rest e h =
    let head : b ≡ o = cc in
    let tail : bs ≡ os ++ rest = cc in
    never os rest tail (subst (λ x. Opening x os) (sym head) (opening o os h))

-- what a mark's first byte isn't
mark_letter : (b : ℕ) (os : List ℕ) (m : Punct) → b ∷ os ≡ mark_spelling m → is_letter b ≡ false
mark_letter b os m e = ap (begins is_letter) e ∙ (plain m).letter

mark_digit : (b : ℕ) (os : List ℕ) (m : Punct) → b ∷ os ≡ mark_spelling m → is_digit b ≡ false
mark_digit b os m e = ap (begins is_digit) e ∙ (plain m).digit

mark_quote : (b : ℕ) (os : List ℕ) (m : Punct) → b ∷ os ≡ mark_spelling m → is_quote b ≡ false
mark_quote b os m e = ap (begins is_quote) e ∙ (plain m).quote

pub letter-word : (b : ℕ) → is_letter b ≡ true → is_word_byte b ≡ true
unfolding is_word_byte
letter-word b h = rw h refl

pub word-begins : (b : ℕ) (bs : List ℕ) → is_letter b ≡ true → BeginsWith (b ∷ bs) (front is_word_byte (b ∷ bs)) (after is_word_byte (b ∷ bs))
word-begins b bs letter = record {
  whole = front-after is_word_byte (b ∷ bs);
  spelled = rw front_is (spells_word (together (is_letter b) (list_all is_word_byte (front is_word_byte bs)) letter (front-passes is_word_byte bs)));
  longest = longest_by b bs (length (front is_word_byte (b ∷ bs))) bound;
}
  where
    front_is : front is_word_byte (b ∷ bs) ≡ b ∷ front is_word_byte bs
    front_is = ap (λ t. cond t (b ∷ front is_word_byte bs) []) (letter-word b letter)

    bound : (os rest : List ℕ) → bs ≡ os ++ rest → Opening b os → suc (length os) ≤ length (front is_word_byte (b ∷ bs))
    bound os rest e (opens_word l a) = rw e (front-covers is_word_byte (b ∷ os) rest (together (is_word_byte b) (list_all is_word_byte os) (letter-word b l) a))
    bound os rest e (opens_run r a) = absurd (omega (arith, run_bounds b os r, letter_bounds b letter))
    bound os rest e (opens_literal q a) = absurd (omega (arith, quote_bound b q, letter_bounds b letter))
    bound os rest e (opens_mark m is) = absurd (true≢false (sym letter ∙ mark_letter b os m is))

digit-word : (b : ℕ) → is_digit b ≡ true → is_word_byte b ≡ true
unfolding is_word_byte
digit-word b h = by (is_letter b) h
  where
    by : (l : Bool) → is_digit b ≡ true → (l || is_digit b) ≡ true
    by true k = refl
    by false k = k

digit_goes_on : (last b : ℕ) → is_digit b ≡ true → goes_on last b ≡ true
digit_goes_on last b h = rw (digit-word b h) refl

first_goes_on : (b : ℕ) (bs : List ℕ) → starts_run (b ∷ bs) ≡ true → goes_on 48 b ≡ true
first_goes_on b bs h = elim (either (is_digit b) (b == 46 && begins is_digit bs) h) [ inl d ↦ digit_goes_on 48 b d | inr p ↦ point (is_word_byte b) ((both (b == 46) (begins is_digit bs) p).0) ]
  where
    point : (w : Bool) → (b == 46) ≡ true → (w || b == 46 || (is_sign b && is_exponent_letter 48)) ≡ true
    point true e = refl
    point false e = rw e refl

-- the digit after a point goes on
digit_stays : (last : ℕ) (bs : List ℕ) → begins is_digit bs ≡ true → begins is_digit (take (run_len last bs) bs) ≡ true
digit_stays last [] h = cc
digit_stays last (d ∷ ds) h = rw (digit_goes_on last d h) h

starts_run_on : (b : ℕ) (bs : List ℕ) → starts_run (b ∷ bs) ≡ true → starts_run (b ∷ take (run_len b bs) bs) ≡ true
starts_run_on b bs h = by (is_digit b) (either (is_digit b) (b == 46 && begins is_digit bs) h)
  where
    by : (d : Bool) → (d ≡ true) ⊎ ((b == 46 && begins is_digit bs) ≡ true) → (d || (b == 46 && begins is_digit (take (run_len b bs) bs))) ≡ true
    by true k = refl
    by false (inl k) = cc
    by false (inr k) = let p = both (b == 46) (begins is_digit bs) k in together (b == 46) (begins is_digit (take (run_len b bs) bs)) p.0 (digit_stays b bs p.1)

-- with more bytes behind it a run begins all the more
starts_run-append : (b : ℕ) (os rest : List ℕ) → starts_run (b ∷ os) ≡ true → starts_run (b ∷ os ++ rest) ≡ true
starts_run-append b os rest h = by (is_digit b) (either (is_digit b) (b == 46 && begins is_digit os) h)
  where
    longer : (os : List ℕ) → begins is_digit os ≡ true → begins is_digit (os ++ rest) ≡ true
    longer [] k = cc
    longer (o ∷ os) k = k

    by : (d : Bool) → (d ≡ true) ⊎ ((b == 46 && begins is_digit os) ≡ true) → (d || (b == 46 && begins is_digit (os ++ rest))) ≡ true
    by true k = refl
    by false (inl k) = cc
    by false (inr k) = let p = both (b == 46) (begins is_digit os) k in together (b == 46) (begins is_digit (os ++ rest)) p.0 (longer os p.1)

pub run_len-le : (last : ℕ) (xs : List ℕ) → run_len last xs ≤ length xs
run_len-le last [] = omega arith
run_len-le last (x ∷ xs) = by (goes_on last x) (run_len-le x xs)
  where
    by : (g : Bool) → run_len x xs ≤ length xs → cond {A = ℕ} g (suc (run_len x xs)) 0 ≤ suc (length xs)
    by true h = omega (arith, h)
    by false h = omega arith

length_is : (b : ℕ) (bs : List ℕ) → starts_run (b ∷ bs) ≡ true → run_len 48 (b ∷ bs) ≡ suc (run_len b bs)
length_is b bs starts = ap (λ t. cond {A = ℕ} t (suc (run_len b bs)) 0) (first_goes_on b bs starts)

pub run-spelled : (b : ℕ) (bs : List ℕ) → starts_run (b ∷ bs) ≡ true → is_run (take (run_len 48 (b ∷ bs)) (b ∷ bs)) ≡ true
run-spelled b bs starts = rw (length_is b bs starts) (together (starts_run (b ∷ take (run_len b bs) bs)) (runs_on b (take (run_len b bs) bs)) (starts_run_on b bs starts) (run-passes b bs))

pub run-begins : (b : ℕ) (bs : List ℕ) → starts_run (b ∷ bs) ≡ true → BeginsWith (b ∷ bs) (take (run_len 48 (b ∷ bs)) (b ∷ bs)) (drop (run_len 48 (b ∷ bs)) (b ∷ bs))
run-begins b bs starts = record {
  whole = sym (take-append-drop (run_len 48 (b ∷ bs)) (b ∷ bs));
  spelled = spells_run (run-spelled b bs starts);
  longest = longest_by b bs (length (take (run_len 48 (b ∷ bs)) (b ∷ bs))) bound;
}
  where
    mark_fits : (os rest : List ℕ) (m : Punct) → bs ≡ os ++ rest → b ∷ os ≡ mark_spelling m → suc (length os) ≤ suc (run_len b bs)
    mark_fits [] rest m e is = omega arith
    mark_fits (o ∷ os) rest m e is =
        let point = both (b == 46) (begins is_digit bs) (elim (either (is_digit b) (b == 46 && begins is_digit bs) starts) [ inl d ↦ absurd (true≢false (sym d ∙ mark_digit b (o ∷ os) m is)) | inr p ↦ p ]) in
        let digit : is_digit o ≡ true = sym (ap (begins is_digit) e) ∙ point.1 in
        let other : is_digit o ≡ false = ap (λ s. begins is_digit (drop 1 s)) is ∙ (plain m).second in
        absurd (true≢false (sym digit ∙ other))

    bound : (os rest : List ℕ) → bs ≡ os ++ rest → Opening b os → suc (length os) ≤ length (take (run_len 48 (b ∷ bs)) (b ∷ bs))
    bound os rest e h = rw (length_is b bs starts) (omega (arith, within os rest e h, length-take (run_len b bs) bs, run_len-le b bs))
      where
        within : (os rest : List ℕ) → bs ≡ os ++ rest → Opening b os → suc (length os) ≤ suc (run_len b bs)
        within os rest e (opens_word l a) = absurd (omega (arith, run_bounds b bs starts, letter_bounds b l))
        within os rest e (opens_run r a) = rw e (omega (arith, run-covers b os rest a))
        within os rest e (opens_literal q a) = absurd (omega (arith, run_bounds b bs starts, quote_bound b q))
        within os rest e (opens_mark m is) = mark_fits os rest m e is

-- a literal, where its quote is found
pub literal-begins : (q : ℕ) (bs : List ℕ) (n : ℕ) → is_quote q ≡ true → before_quote false q bs ≡ Some n → BeginsWith (q ∷ bs) (q ∷ take n bs ++ q ∷ []) (drop (n + 1) bs)
literal-begins q bs n quote at = record {
  whole = ap (λ zs. q ∷ zs) (closing.parts ∙ sym (append_assoc (take n bs) (q ∷ []) (drop (n + 1) bs)));
  spelled = spelled (quote_cases q quote);
  longest = longest_by q bs (length (q ∷ take n bs ++ q ∷ [])) bound;
}
  where
    closing : Closed false q bs n
    closing = quote-closes false q bs n at

    spelled : (q ≡ 34) ⊎ (q ≡ 39) → IsSpelling (q ∷ take n bs ++ q ∷ [])
    spelled (inl e) = spells_string (together (q == 34) (closes false 34 (take n bs ++ q ∷ [])) (eq-eqb q 34 e) (subst (λ k. closes false k (take n bs ++ q ∷ []) ≡ true) e closing.closed))
    spelled (inr e) = spells_character (together (q == 39) (closes false 39 (take n bs ++ q ∷ [])) (eq-eqb q 39 e) (subst (λ k. closes false k (take n bs ++ q ∷ []) ≡ true) e closing.closed))

    long : length (take n bs ++ q ∷ []) ≡ n + 1
    long = closes-at false q (take n bs ++ q ∷ []) (drop (n + 1) bs) n closing.closed (sym (ap (before_quote false q) (closing.parts ∙ sym (append_assoc (take n bs) (q ∷ []) (drop (n + 1) bs)))) ∙ at)

    bound : (os rest : List ℕ) → bs ≡ os ++ rest → Opening q os → suc (length os) ≤ length (q ∷ take n bs ++ q ∷ [])
    bound os rest e (opens_word l a) = absurd (omega (arith, quote_bound q quote, letter_bounds q l))
    bound os rest e (opens_run r a) = absurd (omega (arith, run_bounds q os r, quote_bound q quote))
    bound os rest e (opens_literal k a) = omega (arith, long, closes-at false q os rest n a (sym (ap (before_quote false q) e) ∙ at))
    bound os rest e (opens_mark m is) = absurd (true≢false (sym quote ∙ mark_quote q os m is))

-- no literal, where it isn't
pub no-literal-begins : (q : ℕ) (bs : List ℕ) → is_quote q ≡ true → before_quote false q bs ≡ None → BeginsWithNone (q ∷ bs)
no-literal-begins q bs quote none = none_by q bs never
  where
    never : (os rest : List ℕ) → bs ≡ os ++ rest → Opening q os → ⊥
    never os rest e (opens_word l a) = omega (arith, quote_bound q quote, letter_bounds q l)
    never os rest e (opens_run r a) = omega (arith, run_bounds q os r, quote_bound q quote)
    never os rest e (opens_literal k a) = closes-somewhere false q os rest a (sym (ap (before_quote false q) e) ∙ none)
    never os rest e (opens_mark m is) = true≢false (sym quote ∙ mark_quote q os m is)

-- a mark, at a byte that begins nothing else
pub mark-begins : (b : ℕ) (bs : List ℕ) (m : Punct) → is_letter b ≡ false → starts_run (b ∷ bs) ≡ false → is_quote b ≡ false → mark_among (b ∷ bs) marks ≡ Some m → BeginsWith (b ∷ bs) (mark_spelling m) (drop (length (mark_spelling m)) (b ∷ bs))
mark-begins b bs m letter run quote at = record {
  whole = mark-found (b ∷ bs) m at;
  spelled = spells_mark m refl;
  longest = longest_by b bs (length (mark_spelling m)) bound;
}
  where
    bound : (os rest : List ℕ) → bs ≡ os ++ rest → Opening b os → suc (length os) ≤ length (mark_spelling m)
    bound os rest e (opens_word l a) = absurd (true≢false (sym l ∙ letter))
    bound os rest e (opens_run r a) = absurd (true≢false (sym (starts_run-append b os rest r) ∙ sym (ap (λ zs. starts_run (b ∷ zs)) e) ∙ run))
    bound os rest e (opens_literal k a) = absurd (true≢false (sym k ∙ quote))
    bound os rest e (opens_mark p is) = rw (ap length is) (mark-longest (b ∷ bs) m p rest at (ap (λ zs. b ∷ zs) e ∙ ap (λ zs. zs ++ rest) is))

-- nothing begins at other bytes
pub nothing-begins : (b : ℕ) (bs : List ℕ) → is_letter b ≡ false → starts_run (b ∷ bs) ≡ false → is_quote b ≡ false → mark_among (b ∷ bs) marks ≡ None → BeginsWithNone (b ∷ bs)
nothing-begins b bs letter run quote none = none_by b bs never
  where
    never : (os rest : List ℕ) → bs ≡ os ++ rest → Opening b os → ⊥
    never os rest e (opens_word l a) = true≢false (sym l ∙ letter)
    never os rest e (opens_run r a) = true≢false (sym (starts_run-append b os rest r) ∙ sym (ap (λ zs. starts_run (b ∷ zs)) e) ∙ run)
    never os rest e (opens_literal k a) = true≢false (sym k ∙ quote)
    never os rest e (opens_mark p is) = no_mark (b ∷ bs) p rest none (ap (λ zs. b ∷ zs) e ∙ ap (λ zs. zs ++ rest) is)
