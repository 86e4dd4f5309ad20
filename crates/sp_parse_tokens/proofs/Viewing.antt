-- What a token is where some names are type names, and where it stands.
use Rattle.std.proofs.Common.{◌≡◌, ◌≢◌, ℕ, ◌<◌, ◌==◌, Bool, true, false, List, [], ◌∷◌, refl, ap, ◌∙◌, subst, arith}
use Rattle.std.specs.List.{list_any}
use Rattle.std.specs.Prelude.{if◌then◌else◌}
use Rattle.sp_tree.specs.declared.token.Kind.TheVariants.{End}
use Rattle.sp_tree.specs.declared.token.Token.{Token}
use Rattle.sp_parse_grammar.specs.CTokens as tokens
use Rattle.sp_parse_grammar.specs.CTokens.{Sort, Mark, is_mark, view, number_of}
use Rattle.sp_parse_tokens.specs.Sorts.{sort_of}
use Rattle.sp_parse_tokens.specs.Ended.{IsEnded}

name_no_mark : (m : Mark) (n : ℕ) (b : Bool) → is_mark m (if b then tokens.named_type n else tokens.name n) ≡ false
name_no_mark m n true = refl
name_no_mark m n false = refl

-- a mark is one whichever names are type names
pub mark_viewed : (types : List ℕ) (m : Mark) (s : Sort) → is_mark m (view types s) ≡ is_mark m s
mark_viewed types m (tokens.name n) = name_no_mark m n (list_any (λ t. t == n) types)
mark_viewed types m (tokens.named_type n) = refl
mark_viewed types m tokens.constant = refl
mark_viewed types m tokens.text = refl
mark_viewed types m tokens.storage = refl
mark_viewed types m tokens.qualifier = refl
mark_viewed types m tokens.assigning = refl
mark_viewed types m (tokens.basic w) = refl
mark_viewed types m (tokens.binary k) = refl
mark_viewed types m (tokens.mark k) = refl

-- behind a token that isn't the last the tokens end in the same way
pub ended_behind : (x : Token) (xs : List Token) → IsEnded (x ∷ xs) → x.kind ≢ End → IsEnded xs
ended_behind x [] e other = absurd (other e)
ended_behind x (y ∷ ys) e other = e.1

-- a token of another sort than the end
pub ended_other : (x : Token) (xs : List Token) → IsEnded (x ∷ xs) → sort_of x.kind ≢ tokens.mark tokens.end → IsEnded xs
ended_other x xs e other = ended_behind x xs e (λ same. other (ap sort_of same))

pub ended_mark : (m : Mark) (x : Token) (xs : List Token) → number_of m < 34 → is_mark m (sort_of x.kind) ≡ true → IsEnded (x ∷ xs) → IsEnded xs
ended_mark m x xs less stands e = ended_other x xs e (λ same. no_end m less (subst (λ v. is_mark m v ≡ true) same stands))
  where
    no_end : (k : Mark) → number_of k < 34 → (number_of k == 34) ≡ true → ⊥
    no_end k small equal = grind (arith, small, equal)

text_no_end : (types : List ℕ) → tokens.text ≡ view types (tokens.mark tokens.end) → ⊥
text_no_end types e = let same : tokens.text ≡ tokens.mark tokens.end = e in cc

pub ended_text : (types : List ℕ) (x : Token) (xs : List Token) → tokens.text ≡ view types (sort_of x.kind) → IsEnded (x ∷ xs) → IsEnded xs
ended_text types x xs is e = ended_other x xs e (λ same. text_no_end types (is ∙ ap (view types) same))
