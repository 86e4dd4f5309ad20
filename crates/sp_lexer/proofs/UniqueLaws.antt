-- A text begins with one spelling, and a spelling has one reading.
use Rattle.std.proofs.Common.{◌≡◌, ℕ, ◌≤◌, Bool, true, false, cond, ◌&&◌, ◌||◌, List, [], ◌∷◌, ◌++◌, length, take, drop, Some, Result, Ok, Err, refl, sym, ap, ◌∙◌, subst, ◌⊎◌, inl, inr, true≢false, arith}
use Rattle.std.specs.Prelude.{◌==◌}
use Rattle.std.proofs.lemmas.List.{take_at, drop_at, append_cancel_right}
use Rattle.std.proofs.lemmas.Bool.{eqb-true}
use Rattle.sp_tree.specs.declared.fault.FaultKind.{FaultKind}
use Rattle.sp_tree.specs.declared.fault.FaultKind.TheVariants.{MalformedLiteral}
use Rattle.sp_tree.specs.declared.token.Punct.{Punct}
use Rattle.sp_tree.specs.Spellings.{mark_spelling}
use Rattle.sp_lexer.specs.Bytes.{is_between, is_digit, is_letter, is_quote, begins}
use Rattle.sp_lexer.specs.Spelling.{is_word, is_run, runs_on, BeginsWith, BeginsWithNone}
use Rattle.sp_lexer.specs.Numerals.{number_of}
use Rattle.sp_lexer.specs.Literals.{StandsFor, nothing, byte, signed_char}
use Rattle.sp_lexer.specs.Scan.{Lexeme, character, string, punctuator, word_of, as_number, Reads, reads_word, reads_number, reads_text, bad_text, reads_character, bad_character, reads_mark}
use Rattle.sp_lexer.proofs.Cases.{which, both, either}
use Rattle.sp_lexer.proofs.SpellingLaws.{digit_bounds, letter_bounds}
use Rattle.sp_lexer.proofs.LiteralLaws.{first_byte, no_more}
use Rattle.sp_lexer.specs.Marks.{marks, mark_among}
use Rattle.sp_lexer.proofs.MarkTable.{mark_itself}
use Rattle.sp_lexer.proofs.MarkLaws.{plain}

-- ---- spellings

pub one_spelling : (text f n g m : List ℕ) → BeginsWith text f n → BeginsWith text g m → (f ≡ g) × (n ≡ m)
one_spelling text f n g m a b =
    let size : length f ≡ length g = omega (arith, a.longest g m b.whole b.spelled, b.longest f n a.whole a.spelled) in (
      sym (take_at f n (length g) size) ∙ ap (take (length g)) (sym a.whole ∙ b.whole) ∙ take_at g m (length g) refl,
      sym (drop_at f n (length g) size) ∙ ap (drop (length g)) (sym a.whole ∙ b.whole) ∙ drop_at g m (length g) refl,
    )

pub not_none : (text f n : List ℕ) → BeginsWith text f n → BeginsWithNone text → ⊥
not_none text f n a none = none f n a.whole a.spelled

-- ---- bodies

pub one_body : (body values others : List ℕ) → StandsFor body values → StandsFor body others → values ≡ others
one_body body values others nothing h = sym (no_more others h)
one_body body (value ∷ values) others (byte {rest = rest} at h) k =
    let first = first_byte body rest others value at k in
    ap (λ vs. value ∷ vs) (one_body rest values first.0 h first.1) ∙ sym first.2

-- ---- readings, by what the spelling begins with

data Sort : Type 0 where
  a_word a_number a_string a_character a_mark : Sort

abbrev sort_of : List ℕ → Sort
sort_of front = cond (is_word front) a_word (cond (is_run front) a_number (cond (begins (λ b. b == 34) front) a_string (cond (begins (λ b. b == 39) front) a_character a_mark)))

-- the reading of a literal's body
data StringReads (body : List ℕ) (verdict : Result Lexeme FaultKind) : Type 0 where
  stands_for : (values : List ℕ) → StandsFor body values → verdict ≡ Ok (string values) → StringReads body verdict
  stands_for_none : ((values : List ℕ) → StandsFor body values → ⊥) → verdict ≡ Err MalformedLiteral → StringReads body verdict

data CharacterReads (body : List ℕ) (verdict : Result Lexeme FaultKind) : Type 0 where
  stands_for_one : (value : ℕ) → StandsFor body (value ∷ []) → verdict ≡ Ok (character (signed_char value)) → CharacterReads body verdict
  stands_for_no_one : ((value : ℕ) → StandsFor body (value ∷ []) → ⊥) → verdict ≡ Err MalformedLiteral → CharacterReads body verdict

abbrev Reading : Sort → List ℕ → List ℕ → Result Lexeme FaultKind → Type 0
Reading a_word front next verdict = verdict ≡ word_of front next
Reading a_number front next verdict = verdict ≡ as_number (number_of front)
Reading a_string front next verdict = (body : List ℕ) × (front ≡ 34 ∷ body ++ 34 ∷ []) × StringReads body verdict
Reading a_character front next verdict = (body : List ℕ) × (front ≡ 39 ∷ body ++ 39 ∷ []) × CharacterReads body verdict
Reading a_mark front next verdict = (mark : Punct) × (front ≡ mark_spelling mark) × (verdict ≡ Ok (punctuator mark))

-- a number run is no word
run_no_word : (front : List ℕ) → is_run front ≡ true → is_word front ≡ false
run_no_word [] h = cc
run_no_word (b ∷ bs) h = by (which (is_letter b))
  where
    low : b ≤ 57
    low = elim (either (is_digit b) (b == 46 && begins is_digit bs) (both (is_digit b || (b == 46 && begins is_digit bs)) (runs_on b bs) h).0) [ inl d ↦ (digit_bounds b d).1 | inr p ↦ omega (arith, eqb-true b 46 (both (b == 46) (begins is_digit bs) p).0) ]

    by : (is_letter b ≡ true) ⊎ (is_letter b ≡ false) → is_word (b ∷ bs) ≡ false
    by (inl l) = absurd (omega (arith, letter_bounds b l, low))
    by (inr l) = rw l refl

word_no_word : (front : List ℕ) → begins is_letter front ≡ false → is_word front ≡ false
word_no_word [] h = refl
word_no_word (b ∷ bs) h = rw h refl

mark_no_run : (front : List ℕ) → begins is_digit front ≡ false → begins is_digit (drop 1 front) ≡ false → is_run front ≡ false
mark_no_run [] h k = refl
mark_no_run (b ∷ bs) h k = by (b == 46)
  where
    by : (p : Bool) → ((is_digit b || (p && begins is_digit bs)) && runs_on b bs) ≡ false
    by true = rw (h, k) refl
    by false = rw h refl

no_quotes : (front : List ℕ) → begins is_quote front ≡ false → (begins (λ b. b == 34) front ≡ false) × (begins (λ b. b == 39) front ≡ false)
unfolding is_quote
no_quotes [] h = (refl, refl)
no_quotes (b ∷ bs) h = by (which (b == 34)) (which (b == 39))
  where
    by : ((b == 34) ≡ true) ⊎ ((b == 34) ≡ false) → ((b == 39) ≡ true) ⊎ ((b == 39) ≡ false) → ((b == 34) ≡ false) × ((b == 39) ≡ false)
    by (inr p) (inr q) = (p, q)
    by (inl p) q = absurd (true≢false (rw p at h))
    by (inr p) (inl q) = absurd (true≢false (rw (p, q) at h))

sorted : (front next : List ℕ) (verdict : Result Lexeme FaultKind) → Reads front next verdict → Reading (sort_of front) front next verdict
unfolding is_letter is_digit is_between
sorted front next verdict (reads_word h e) = rw h e
sorted front next verdict (reads_number h e) = rw (run_no_word front h, h) e
sorted front next verdict (reads_text body values e h k) = subst (λ f. Reading (sort_of f) f next verdict) (sym e) (body, refl, stands_for values h k)
sorted front next verdict (bad_text body e h k) = subst (λ f. Reading (sort_of f) f next verdict) (sym e) (body, refl, stands_for_none h k)
sorted front next verdict (reads_character body value e h k) = subst (λ f. Reading (sort_of f) f next verdict) (sym e) (body, refl, stands_for_one value h k)
sorted front next verdict (bad_character body e h k) = subst (λ f. Reading (sort_of f) f next verdict) (sym e) (body, refl, stands_for_no_one h k)
sorted front next verdict (reads_mark m e k) =
    let s = plain m in
    let q = no_quotes (mark_spelling m) s.quote in
    subst (λ f. Reading (sort_of f) f next verdict) (sym e) (rw (word_no_word (mark_spelling m) s.letter, mark_no_run (mark_spelling m) s.digit s.second, q.0, q.1) (m, refl, k))

-- ---- one reading

pub one_mark : (m p : Punct) → mark_spelling m ≡ mark_spelling p → m ≡ p
one_mark m p e =
    let same : Some m ≡ Some p = sym (mark_itself m) ∙ ap (λ t. mark_among t marks) e ∙ mark_itself p in
    cc

-- a body is what stands between the quotes
between : (q : ℕ) (a b : List ℕ) → q ∷ a ++ q ∷ [] ≡ q ∷ b ++ q ∷ [] → a ≡ b
between q a b e =
    let tails : a ++ q ∷ [] ≡ b ++ q ∷ [] = ap (drop 1) e in
    append_cancel_right a b (q ∷ []) tails

one_string : (body : List ℕ) (v w : Result Lexeme FaultKind) → StringReads body v → StringReads body w → v ≡ w
one_string body v w (stands_for a h e) (stands_for b k f) = e ∙ ap (λ vs. Ok (string vs)) (one_body body a b h k) ∙ sym f
one_string body v w (stands_for a h e) (stands_for_none k f) = absurd (k a h)
one_string body v w (stands_for_none h e) (stands_for b k f) = absurd (h b k)
one_string body v w (stands_for_none h e) (stands_for_none k f) = e ∙ sym f

one_character : (body : List ℕ) (v w : Result Lexeme FaultKind) → CharacterReads body v → CharacterReads body w → v ≡ w
one_character body v w (stands_for_one a h e) (stands_for_one b k f) =
    let same : a ∷ [] ≡ b ∷ [] = one_body body (a ∷ []) (b ∷ []) h k in
    let value : a ≡ b = cc in
    e ∙ ap (λ z. Ok (character (signed_char z))) value ∙ sym f
one_character body v w (stands_for_one a h e) (stands_for_no_one k f) = absurd (k a h)
one_character body v w (stands_for_no_one h e) (stands_for_one b k f) = absurd (h b k)
one_character body v w (stands_for_no_one h e) (stands_for_no_one k f) = e ∙ sym f

once : (sort : Sort) (front next : List ℕ) (v w : Result Lexeme FaultKind) → Reading sort front next v → Reading sort front next w → v ≡ w
once a_word front next v w h k = h ∙ sym k
once a_number front next v w h k = h ∙ sym k
once a_string front next v w h k = one_string h.0 v w h.2 (subst (λ b. StringReads b w) (between 34 k.0 h.0 (sym k.1 ∙ h.1)) k.2)
once a_character front next v w h k = one_character h.0 v w h.2 (subst (λ b. CharacterReads b w) (between 39 k.0 h.0 (sym k.1 ∙ h.1)) k.2)
once a_mark front next v w h k = h.2 ∙ ap (λ m. Ok (punctuator m)) (one_mark h.0 k.0 (sym h.1 ∙ k.1)) ∙ sym k.2

-- a spelling stands for one thing
pub one_reading : (front next : List ℕ) (v w : Result Lexeme FaultKind) → Reads front next v → Reads front next w → v ≡ w
one_reading front next v w h k = once (sort_of front) front next v w (sorted front next v h) (sorted front next w k)

-- so a text doesn't begin with a token and a fault
pub no_token_and_fault : (text f n g m : List ℕ) (lexeme : Lexeme) (kind : FaultKind) → BeginsWith text f n → Reads f n (Ok lexeme) → BeginsWith text g m → Reads g m (Err kind) → ⊥
no_token_and_fault text f n g m lexeme kind a h b k =
    let same = one_spelling text f n g m a b in
    let one : Ok lexeme ≡ Err kind = one_reading g m (Ok lexeme) (Err kind) (subst (λ x. Reads g x (Ok lexeme)) same.1 (subst (λ x. Reads x n (Ok lexeme)) same.0 h)) k in
    cc
