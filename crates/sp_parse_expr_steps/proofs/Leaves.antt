-- Names, constants and strings, over plain variables.
use Rattle.std.proofs.Common.{◌≡◌, ◌≢◌, ℕ, ◌==◌, Bool, true, false, List, [], ◌∷◌, refl, sym, arith}
use Rattle.std.specs.Prelude.{ℤ, if◌then◌else◌}
use Rattle.std.specs.List.{list_any}
use Rattle.sp_tree.specs.declared.token.Kind.{Kind}
use Rattle.sp_tree.specs.declared.token.Kind.TheVariants as kinds
use Rattle.sp_tree.specs.declared.token.Token.{Token}
use Rattle.sp_tree.specs.declared.fault.Place.{Place}
use Rattle.sp_parse_trees.specs.Syntax.{Expression, expression}
use Rattle.sp_parse_trees.specs.Depth.{depth as depth_of}
use Rattle.sp_parse_grammar.specs.CTokens as tokens
use Rattle.sp_parse_grammar.specs.CTokens.{view}
use Rattle.sp_parse_grammar.specs.CTable as grammar
use Rattle.sp_parse_grammar.specs.CTable.{Context, get}
use Rattle.sp_parse_grammar.specs.Table.{done}
use Rattle.sp_parse_tokens.specs.Makers.{constant_form, make_name, make_constant}
use Rattle.sp_parse_tokens.specs.Sorts.{terminal, sort_of, word_sort, punct_sort}
use Rattle.sp_tree.specs.declared.token.Keyword.{Keyword}
use Rattle.sp_tree.specs.declared.token.Keyword.TheVariants as words
use Rattle.sp_tree.specs.declared.token.Punct.{Punct}
use Rattle.sp_tree.specs.declared.token.Punct.TheVariants as puncts
use Rattle.sp_tree.specs.declared.token.Number.{Number}
use Rattle.sp_parse_tokens.specs.SyntaxTrees.{syntax_trees}
use Rattle.sp_parse_tokens.specs.Ended.{IsEnded}
use Rattle.sp_parse_expr_steps.specs.Reading.{IsRead, AreTexts, is_operand}
use Rattle.sp_parse_expr_steps.proofs.Steps.{got, finished}
use Rattle.sp_parse_expr_steps.proofs.ExpressionSteps.{built, first_taken}

constant_depth : (k : Kind) (p : Place) → depth_of (expression (constant_form k) p p) ≡ 1
constant_depth (kinds.Name n) p = refl
constant_depth (kinds.Word w) p = refl
constant_depth (kinds.Number n) p = refl
constant_depth (kinds.Char z) p = refl
constant_depth (kinds.Text n) p = refl
constant_depth (kinds.Mark m) p = refl
constant_depth kinds.End p = refl

module _ (g : Context) (x : Token) (rest : List Token) (ended : IsEnded rest) where
  pub constant_leaf : (tree : Expression) → tokens.constant ≡ view g.types (sort_of x.kind) → tree ≡ make_constant x → IsRead g grammar.primary 1 (x ∷ rest) tree 1 rest
  constant_leaf tree is same =
      built g grammar.primary 1 1 (x ∷ rest) rest (make_constant x) tree (finished (first_taken g grammar.primary (x ∷ rest) rest x tokens.constant refl is (λ y. done (syntax_trees.constant (terminal x))) refl)) same (sym (constant_depth x.kind x.place)) (omega arith) ended (omega arith)

  pub name_leaf : (n : ℕ) (tree : Expression) → tokens.name n ≡ view g.types (sort_of x.kind) → tree ≡ make_name x → IsRead g grammar.primary 1 (x ∷ rest) tree 1 rest
  name_leaf n tree is same =
      built g grammar.primary 1 1 (x ∷ rest) rest (make_name x) tree (finished (first_taken g grammar.primary (x ∷ rest) rest x (tokens.name n) refl is (λ y. done (syntax_trees.name (terminal x))) refl)) same refl (omega arith) ended (omega arith)

-- the strings behind the first
pub texts_leaf : (g : Context) (x : Token) (text rest : List Token) (tree : Expression) → tokens.text ≡ view g.types (sort_of x.kind) → AreTexts g x text tree rest → IsRead g grammar.primary 1 (x ∷ text) tree 1 rest
texts_leaf g x text rest tree is t =
    let on = first_taken g grammar.primary (x ∷ text) text x tokens.text refl is (λ y. get g (grammar.texts (terminal x ∷ [])) (λ xs. done (syntax_trees.texts xs))) refl in
    built g grammar.primary 1 1 (x ∷ text) rest (syntax_trees.texts t.all) tree (finished (got on t.reads)) t.makes refl (omega arith) t.ended (omega (arith, t.fewer))

-- a name that is no type name, where the token is no constant and no string
pub record IsPlainName (types : List ℕ) (k : Kind) : Type 0 where
  pub number : ℕ
  pub stands : tokens.name number ≡ view types (sort_of k)

plain_name : (types : List ℕ) (n : ℕ) (b : Bool) → b ≡ list_any (λ t. t == n) types → is_operand (if b then tokens.named_type n else tokens.name n) ≡ true → tokens.name n ≡ (if b then tokens.named_type n else tokens.name n)
plain_name types n true e h = absurd cc
plain_name types n false e h = refl

keyword_no_operand : (types : List ℕ) (k : Keyword) → is_operand (view types (word_sort k)) ≡ true → ⊥
keyword_no_operand types words.Auto h = cc
keyword_no_operand types _ h = cc

punct_no_operand : (types : List ℕ) (p : Punct) → is_operand (view types (punct_sort p)) ≡ true → ⊥
punct_no_operand types puncts.Comma h = cc
punct_no_operand types _ h = cc

pub name_of : (types : List ℕ) (k : Kind) → is_operand (view types (sort_of k)) ≡ true → ((n : ℕ) → k ≢ kinds.Text n) → ((n : Number) → k ≢ kinds.Number n) → ((z : ℤ) → k ≢ kinds.Char z) → IsPlainName types k
name_of types (kinds.Name n) h a b c = record { number = n; stands = plain_name types n (list_any (λ t. t == n) types) refl h }
name_of types (kinds.Word w) h a b c = absurd (keyword_no_operand types w h)
name_of types (kinds.Number n) h a b c = absurd (b n refl)
name_of types (kinds.Char z) h a b c = absurd (c z refl)
name_of types (kinds.Text n) h a b c = absurd (a n refl)
name_of types (kinds.Mark p) h a b c = absurd (punct_no_operand types p h)
name_of types kinds.End h a b c = absurd cc
