-- Qualifiers behind a `*`.
use Rattle.std.proofs.Common.{◌≡◌, ℕ, ◌==◌, List, [], ◌∷◌, ◌++◌, map, true, false, Bool, Some, None, refl, ap, ◌∙◌}
use Rattle.std.specs.Prelude.{if◌then◌else◌}
use Rattle.std.specs.List.{list_any}
use Rattle.sp_tree.specs.declared.token.Keyword.{Keyword}
use Rattle.sp_tree.specs.declared.token.Keyword.TheVariants as words
use Rattle.sp_tree.specs.declared.token.Kind.{Kind}
use Rattle.sp_tree.specs.declared.token.Kind.TheVariants as kinds
use Rattle.sp_tree.specs.declared.token.Punct.{Punct}
use Rattle.sp_tree.specs.declared.token.Punct.TheVariants as puncts
use Rattle.sp_tree.specs.declared.token.Token.{Token}
use Rattle.sp_parse_grammar.specs.CTokens as tokens
use Rattle.sp_parse_grammar.specs.CTokens.{view}
use Rattle.sp_parse_grammar.specs.Table.{done, ask, Reads}
use Rattle.sp_parse_grammar.specs.CTable as grammar
use Rattle.sp_parse_grammar.specs.CTable.{Context, plan, at}
use Rattle.sp_parse_tokens.specs.Makers.{keyword_of}
use Rattle.sp_parse_tokens.specs.Sorts.{Terminal, terminal, sort_of, word_sort, punct_sort, c_tokens}
use Rattle.sp_parse_tokens.specs.SyntaxTrees.{syntax_trees, c_table}
use Rattle.sp_parse_tokens.specs.Ended.{IsEnded}
use Rattle.sp_parse_expr_steps.specs.Reading.{IsStep}
use Rattle.sp_parse_expr_steps.specs.Declaring.{qualifier_of}
use Rattle.sp_parse_expr_steps.proofs.Steps.{enter, took_token, last, finished}
use Rattle.sp_parse_expr_steps.proofs.Parts.{chosen}
use Rattle.sp_parse_tokens.proofs.Viewing.{ended_other}

abbrev pub words_of : List Terminal → List Keyword
words_of xs = map (λ q. keyword_of q.kind) (map (λ q. q.what) xs)

-- These qualifiers were read.
pub record QualifiersSoFar (g : Context) (text : List Token) (words : List Keyword) (rest : List Token) : Type 0 where
  pub all : List Terminal
  pub step : IsStep g (grammar.qualifiers []) (grammar.qualifiers all) (λ a. a) text rest
  pub same : words_of all ≡ words

words-more : (xs : List Terminal) (x : Token) → words_of (xs ++ terminal x ∷ []) ≡ words_of xs ++ keyword_of x.kind ∷ []
words-more [] x = refl
words-more (y ∷ ys) x = ap (λ v. keyword_of y.what.kind ∷ v) (words-more ys x)

-- what a qualifier is
word_stands : (types : List ℕ) (w k : Keyword) → qualifier_of (kinds.Word k) ≡ Some w → tokens.qualifier ≡ view types (word_sort k)
word_stands types w words.Const e = refl
word_stands types w words.Volatile e = refl
word_stands types w _ e = absurd cc

word_same : (w k : Keyword) → qualifier_of (kinds.Word k) ≡ Some w → k ≡ w
word_same w words.Const e = cc
word_same w words.Volatile e = cc
word_same w _ e = absurd cc

pub qualifier_stands : (types : List ℕ) (w : Keyword) (k : Kind) → qualifier_of k ≡ Some w → tokens.qualifier ≡ view types (sort_of k)
qualifier_stands types w (kinds.Word k) e = word_stands types w k e
qualifier_stands types w (kinds.Name n) e = absurd cc
qualifier_stands types w (kinds.Number n) e = absurd cc
qualifier_stands types w (kinds.Char z) e = absurd cc
qualifier_stands types w (kinds.Text n) e = absurd cc
qualifier_stands types w (kinds.Mark p) e = absurd cc
qualifier_stands types w kinds.End e = absurd cc

qualifier_same : (w : Keyword) (k : Kind) → qualifier_of k ≡ Some w → keyword_of k ≡ w
qualifier_same w (kinds.Word k) e = word_same w k e
qualifier_same w (kinds.Name n) e = absurd cc
qualifier_same w (kinds.Number n) e = absurd cc
qualifier_same w (kinds.Char z) e = absurd cc
qualifier_same w (kinds.Text n) e = absurd cc
qualifier_same w (kinds.Mark p) e = absurd cc
qualifier_same w kinds.End e = absurd cc

pub qualifier_more : (g : Context) (x : Token) (text rest xs : List Token) (words : List Keyword) (w : Keyword) → QualifiersSoFar g text words rest → rest ≡ x ∷ xs → qualifier_of x.kind ≡ Some w → QualifiersSoFar g text (words ++ w ∷ []) xs
qualifier_more g x text rest xs words w t e is = record {
  all = t.all ++ terminal x ∷ [];
  step = last (took_token (enter t.step (ap c_tokens e) (chosen g (grammar.qualifiers t.all) x tokens.qualifier _ (qualifier_stands g.types w x.kind is) refl)) (ap c_tokens e) refl);
  same = words-more t.all x ∙ (ap (λ v. v ++ keyword_of x.kind ∷ []) t.same ∙ ap (λ v. words ++ v ∷ []) (qualifier_same w x.kind is));
}

no_end : (types : List ℕ) → tokens.qualifier ≡ view types (tokens.mark tokens.end) → ⊥
no_end types e = let same : tokens.qualifier ≡ tokens.mark tokens.end = e in cc

pub ended_qualifier : (types : List ℕ) (x : Token) (xs : List Token) (w : Keyword) → qualifier_of x.kind ≡ Some w → IsEnded (x ∷ xs) → IsEnded xs
ended_qualifier types x xs w is e = ended_other x xs e (λ same. no_end types (qualifier_stands types w x.kind is ∙ ap (view types) same))

-- any other token ends them
module _ (g : Context) (xs : List Terminal) (x : Terminal) where
  ends_name : (n : ℕ) (b : Bool) → plan {t = syntax_trees} g (grammar.qualifiers xs) x (if b then tokens.named_type n else tokens.name n) ≡ Some (done xs)
  ends_name n true = refl
  ends_name n false = refl

  ends_word : (k : Keyword) → qualifier_of (kinds.Word k) ≡ None → plan {t = syntax_trees} g (grammar.qualifiers xs) x (view g.types (word_sort k)) ≡ Some (done xs)
  ends_word words.Const e = absurd cc
  ends_word words.Volatile e = absurd cc
  ends_word _ e = refl

  ends_punct : (p : Punct) → plan {t = syntax_trees} g (grammar.qualifiers xs) x (view g.types (punct_sort p)) ≡ Some (done xs)
  ends_punct puncts.Comma = refl
  ends_punct _ = refl

  ends : (k : Kind) → qualifier_of k ≡ None → plan {t = syntax_trees} g (grammar.qualifiers xs) x (view g.types (sort_of k)) ≡ Some (done xs)
  ends (kinds.Name n) e = ends_name n (list_any (λ t. t == n) g.types)
  ends (kinds.Word k) e = ends_word k e
  ends (kinds.Number n) e = refl
  ends (kinds.Char z) e = refl
  ends (kinds.Text n) e = refl
  ends (kinds.Mark p) e = ends_punct p
  ends kinds.End e = refl

pub qualifiers_read : (g : Context) (x : Token) (text rest xs : List Token) (words : List Keyword) → (t : QualifiersSoFar g text words rest) → rest ≡ x ∷ xs → qualifier_of x.kind ≡ None → Reads c_table (at g (grammar.qualifiers [])) (ask (at g (grammar.qualifiers []))) (c_tokens text) t.all (c_tokens rest)
qualifiers_read g x text rest xs words t e other =
    finished (enter t.step (ap c_tokens e) (chosen g (grammar.qualifiers t.all) x (view g.types (sort_of x.kind)) _ refl (ends g t.all (terminal x) x.kind other)))
