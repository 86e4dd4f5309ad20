-- Laws that every reader of a tree rests on.
use Rattle.std.specs.Prelude.{◌≡◌, suc, ℕ, ◌+◌, ◌≤◌, List, [], ◌∷◌, ◌++◌, length, map}
use Rattle.std.proofs.Common.{arith, length-append, ap, ◌∙◌, subst}
use Rattle.sp_tree.specs.declared.fault.Place.{Place}
use Rattle.sp_tree.specs.declared.token.Kind.{Kind}
use Rattle.sp_tree.specs.declared.token.Token.{Token}
use Rattle.sp_tree.specs.declared.token.Kind.TheVariants.{Name, Word, Number, Char, Text, Mark}
use Rattle.sp_tree.specs.declared.token.Keyword.TheVariants.{Sizeof}
use Rattle.sp_tree.specs.declared.token.Punct.TheVariants.{LeftBracket, RightBracket, LeftParenthesis, RightParenthesis, Dot, Arrow, Question, Colon, Comma}
use mathlib.Core.Path.{fun_ext}
use Rattle.sp_parse_trees.specs.Syntax.{Expression, expression, ExpressionForm, name, number, character, text, paren, index, call, member, arrow, after, unary, sizeof_expr, sizeof_type, cast, binary, choice, assign, comma}
use Rattle.sp_parse_trees.specs.Syntax.{StructSpec, struct_spec}
use Rattle.sp_parse_trees.specs.Syntax.{Declarator, declarator}
use Rattle.sp_parse_trees.specs.Syntax.{Init, one, list}
use Rattle.sp_parse_trees.specs.Syntax.{Statement, statement}
use Rattle.sp_parse_trees.specs.Spelling.{tokens_of, form_tokens, expressions_tokens, type_name_tokens}
use Rattle.sp_parse_trees.specs.Depth.{depth, declarator_depth, init_depth, struct_depth, statement_depth}
use Rattle.sp_parse_trees.specs.Places.{Placed, PlacedStatement, place_of, place_at, SpellsExpression}
use Rattle.sp_parse_trees.specs.Levels.{IsLevelled, IsLevelledForm, Scope}

-- ---- each part that counts is at least one deep

pub depth-positive : (e : Expression) → 1 ≤ depth e
depth-positive (expression f p m) = omega arith

pub declarator_depth-positive : (d : Declarator) → 1 ≤ declarator_depth d
declarator_depth-positive (declarator f p) = omega arith

pub init_depth-positive : (i : Init) → 1 ≤ init_depth i
init_depth-positive (one e) = omega arith
init_depth-positive (list is trailing) = omega arith

pub struct_depth-positive : (s : StructSpec) → 1 ≤ struct_depth s
struct_depth-positive (struct_spec union tag ms p) = omega arith

pub statement_depth-positive : (s : Statement) → 1 ≤ statement_depth s
statement_depth-positive (statement f p end) = omega arith

-- ---- the place of a part is that of its first token

pub first-expression : (tokens rest : List Token) (t : Token) (e : Expression) → SpellsExpression (t ∷ tokens) e rest → place_of e ≡ t.place
first-expression tokens rest t (expression f p m) h = h.1.0

-- ---- what spells a token at least

-- a list with a token in the middle has one
has_one : (front back : List Kind) (k : Kind) → 1 ≤ length (front ++ k ∷ back)
has_one front back k = omega (arith, length-append front (k ∷ back))

starts : (back : List Kind) (k : Kind) → 1 ≤ length (k ∷ back)
starts back k = omega arith

pub form-spells : (s : Scope) (f : ExpressionForm) → IsLevelledForm s f → 1 ≤ length (form_tokens f)
form-spells s (name n) h = starts [] (Name n)
form-spells s (number n) h = starts [] (Number n)
form-spells s (character z) h = starts [] (Char z)
form-spells s (text []) h = absurd h
form-spells s (text (n ∷ ns)) h = starts (map (λ k. Text k) ns) (Text n)
form-spells s (paren e) h = starts (tokens_of e ++ Mark RightParenthesis ∷ []) (Mark LeftParenthesis)
form-spells s (index e i) h = has_one (tokens_of e ++ Mark LeftBracket ∷ tokens_of i) [] (Mark RightBracket)
form-spells s (call e es) h = has_one (tokens_of e ++ Mark LeftParenthesis ∷ expressions_tokens [] es) [] (Mark RightParenthesis)
form-spells s (member e n) h = has_one (tokens_of e) (Name n ∷ []) (Mark Dot)
form-spells s (arrow e n) h = has_one (tokens_of e) (Name n ∷ []) (Mark Arrow)
form-spells s (after op e) h = has_one (tokens_of e) [] (Mark op)
form-spells s (unary op e) h = starts (tokens_of e) (Mark op)
form-spells s (sizeof_expr e) h = starts (tokens_of e) (Word Sizeof)
form-spells s (sizeof_type t) h = starts (Mark LeftParenthesis ∷ type_name_tokens t ++ Mark RightParenthesis ∷ []) (Word Sizeof)
form-spells s (cast t e) h = starts (type_name_tokens t ++ Mark RightParenthesis ∷ tokens_of e) (Mark LeftParenthesis)
form-spells s (binary op l r) h = has_one (tokens_of l) (tokens_of r) (Mark op)
form-spells s (choice c l r) h = has_one (tokens_of c ++ Mark Question ∷ tokens_of l) (tokens_of r) (Mark Colon)
form-spells s (assign op l r) h = has_one (tokens_of l) (tokens_of r) (Mark op)
form-spells s (comma l r) h = has_one (tokens_of l) (tokens_of r) (Mark Comma)

-- a levelled expression spells a token at least; only a list of no literals spells none
pub expression-spells : (s : Scope) (e : Expression) → IsLevelled s e → 1 ≤ length (tokens_of e)
expression-spells s (expression f p m) h = form-spells s f h

-- ---- only the places that are spoken of matter

pub same_places : (at to : ℕ → Place) (e : Expression) → ((i : ℕ) → at i ≡ to i) → Placed at e → Placed to e
same_places at to e h = subst (λ places. Placed places e) (fun_ext h)

pub statement-same_places : (at to : ℕ → Place) (s : Statement) → ((i : ℕ) → at i ≡ to i) → PlacedStatement at s → PlacedStatement to s
statement-same_places at to s h = subst (λ places. PlacedStatement places s) (fun_ext h)

-- the places behind some tokens of a list are those of the rest
step : (n i : ℕ) → suc n + i ≡ suc (n + i)
step n i = omega arith

pub place_at-past : (front rest : List Token) (i : ℕ) → place_at (front ++ rest) (length front + i) ≡ place_at rest i
place_at-past [] rest i = ap (place_at rest) (omega arith)
place_at-past (t ∷ ts) rest i = ap (place_at (t ∷ ts ++ rest)) (step (length ts) i) ∙ place_at-past ts rest i
