-- Laws of words.
use Rattle.std.proofs.Common.{◌≡◌, ℕ, Bool, true, false, cond, filter, List, [], ◌∷◌, length, Some, None, refl, sym, ap, ◌∙◌, true≢false}
use Rattle.std.specs.Prelude.{◌==◌, bytes_eq}
use Rattle.std.specs.List.{find}
use Rattle.std.proofs.lemmas.List.{nil_from_length}
use Rattle.std.proofs.lemmas.Slice.Eq.{bytes_eq-Decides}
use Rattle.std.proofs.lemmas.Bool.{eq-eqb}
use Rattle.sp_tree.specs.declared.token.Keyword.{Keyword}
use Rattle.sp_tree.specs.Spellings.{keyword_spelling}
use Rattle.sp_lexer.specs.Bytes.{begins}
use Rattle.sp_lexer.specs.Words.{keywords, keywords_from, keyword_of}

-- what passes a test is found among those that pass another one, where it passes that too
pub find-filter : {X : Type 0} (test narrow : X → Bool) (xs : List X) → ((x : X) → test x ≡ true → narrow x ≡ true) → find test (filter narrow xs) ≡ find test xs
find-filter test narrow [] h = refl
find-filter {X} test narrow (x ∷ xs) h = by (test x) (narrow x) refl refl (find-filter test narrow xs h)
  where
    by : (t n : Bool) → test x ≡ t → narrow x ≡ n → find test (filter narrow xs) ≡ find test xs → find test (cond (narrow x) (x ∷ filter narrow xs) (filter narrow xs)) ≡ cond (test x) (Some x) (find test xs)
    by t true is narrows e = rw narrows (ap (cond (test x) (Some x)) e)
    by true false is narrows e = absurd (true≢false (sym (h x is) ∙ narrows))
    by false false is narrows e = rw (narrows, is) e

-- a keyword is found among those that begin with its first byte
pub keyword-from : (first : ℕ) (rest word : List ℕ) → word ≡ first ∷ rest → find (λ k. bytes_eq (keyword_spelling k) word) (keywords_from first) ≡ keyword_of word
unfolding keywords_from keyword_of
keyword-from first rest word e = find-filter (λ k. bytes_eq (keyword_spelling k) word) (λ k. begins (λ b. b == first) (keyword_spelling k)) keywords (λ k same. by k ((bytes_eq-Decides (keyword_spelling k) word).0 same ∙ e))
  where
    by : (k : Keyword) → keyword_spelling k ≡ first ∷ rest → begins (λ b. b == first) (keyword_spelling k) ≡ true
    by k is = ap (begins (λ b. b == first)) is ∙ eq-eqb first first refl

pub keyword-none : (word : List ℕ) → length word ≡ 0 → None ≡ keyword_of word
unfolding keyword_of
keyword-none word e = rw (nil_from_length word e) refl
