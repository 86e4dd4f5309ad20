-- Adjacent strings.
use Rattle.std.proofs.Common.{◌≡◌, ◌≢◌, ℕ, List, [], ◌∷◌, ◌++◌, map, Some, refl, ap, ◌∙◌}
use Rattle.sp_tree.specs.declared.token.Token.{Token}
use Rattle.sp_parse_tokens.specs.declared.sorts.Sort.{Sort as CodeSort}
use Rattle.sp_parse_tokens.specs.declared.sorts.Sort.TheVariants as sorts
use Rattle.sp_parse_grammar.specs.CTokens as tokens
use Rattle.sp_parse_grammar.specs.CTokens.{view}
use Rattle.sp_parse_grammar.specs.Table.{done, ask, Reads}
use Rattle.sp_parse_grammar.specs.CTable as grammar
use Rattle.sp_parse_grammar.specs.CTable.{Context, plan, at}
use Rattle.sp_parse_tokens.specs.Makers.{number_of}
use Rattle.sp_parse_tokens.specs.Sorts.{Terminal, terminal, sort_of, c_tokens}
use Rattle.sp_parse_tokens.specs.SyntaxTrees.{syntax_trees, c_table}
use Rattle.sp_parse_tokens.specs.Codes.{sort_seen}
use Rattle.sp_parse_expr_steps.specs.Reading.{IsStep}
use Rattle.sp_parse_expr_steps.proofs.Steps.{enter, took_token, last, finished}
use Rattle.sp_parse_expr_steps.proofs.Parts.{chosen}

abbrev pub numbers_of : List Terminal → List ℕ
numbers_of xs = map (λ x. number_of x.kind) (map (λ x. x.what) xs)

-- These strings were read, the first of them before the text.
pub record TextsSoFar (g : Context) (first : Token) (text : List Token) (numbers : List ℕ) (rest : List Token) : Type 0 where
  pub behind : List Terminal
  pub step : IsStep g (grammar.texts (terminal first ∷ [])) (grammar.texts (terminal first ∷ behind)) (λ a. a) text rest
  pub same : numbers_of (terminal first ∷ behind) ≡ numbers

numbers-more : (xs : List Terminal) (x : Token) → numbers_of (xs ++ terminal x ∷ []) ≡ numbers_of xs ++ number_of x.kind ∷ []
numbers-more [] x = refl
numbers-more (y ∷ ys) x = ap (λ v. number_of y.what.kind ∷ v) (numbers-more ys x)

pub text_more : (g : Context) (first x : Token) (text rest xs : List Token) (numbers : List ℕ) → TextsSoFar g first text numbers rest → rest ≡ x ∷ xs → tokens.text ≡ view g.types (sort_of x.kind) → TextsSoFar g first text (numbers ++ number_of x.kind ∷ []) xs
text_more g first x text rest xs numbers t e is = record {
  behind = t.behind ++ terminal x ∷ [];
  step = last (took_token (enter t.step (ap c_tokens e) (chosen g (grammar.texts (terminal first ∷ t.behind)) x tokens.text _ is refl)) (ap c_tokens e) refl);
  same = numbers-more (terminal first ∷ t.behind) x ∙ ap (λ v. v ++ number_of x.kind ∷ []) t.same;
}

-- any other token ends them
ends : (g : Context) (xs : List Terminal) (x : Terminal) (s : CodeSort) → s ≢ sorts.Text → plan {t = syntax_trees} g (grammar.texts xs) x (sort_seen s) ≡ Some (done xs)
ends g xs x sorts.Text other = absurd (other refl)
ends g xs x (sorts.Name n) other = refl
ends g xs x (sorts.NamedType n) other = refl
ends g xs x sorts.Constant other = refl
ends g xs x sorts.Storage other = refl
ends g xs x sorts.Qualifier other = refl
ends g xs x sorts.Assigning other = refl
ends g xs x (sorts.Basic w) other = refl
ends g xs x (sorts.Binary k) other = refl
ends g xs x (sorts.Mark m) other = refl

pub texts_read : (g : Context) (first x : Token) (text rest xs : List Token) (numbers : List ℕ) (s : CodeSort) → (t : TextsSoFar g first text numbers rest) → rest ≡ x ∷ xs → sort_seen s ≡ view g.types (sort_of x.kind) → s ≢ sorts.Text → Reads c_table (at g (grammar.texts (terminal first ∷ []))) (ask (at g (grammar.texts (terminal first ∷ [])))) (c_tokens text) (terminal first ∷ t.behind) (c_tokens rest)
texts_read g first x text rest xs numbers s t e is other =
    finished (enter t.step (ap c_tokens e) (chosen g (grammar.texts (terminal first ∷ t.behind)) x (sort_seen s) _ is (ends g (terminal first ∷ t.behind) (terminal x) s other)))
