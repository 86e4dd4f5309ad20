-- Lists that go on at some tokens and end at any other, over plain variables: members, constants, declarators of members.
use Rattle.std.proofs.Common.{◌≡◌, Bool, true, false, List, [], ◌∷◌, ◌++◌, map, Some, refl, ap, ◌∙◌}
use Rattle.std.specs.Prelude.{if◌then◌else◌}
use Rattle.sp_tree.specs.declared.token.Token.{Token}
use Rattle.sp_parse_trees.specs.Syntax.{Declaration}
use Rattle.sp_parse_grammar.specs.CTokens as tokens
use Rattle.sp_parse_grammar.specs.CTokens.{view, is_mark}
use Rattle.sp_parse_grammar.specs.CTable as grammar
use Rattle.sp_parse_grammar.specs.CTable.{Context, Item, ItemAnswer, at, c_symbols, plan, get, next, begins_specifiers}
use Rattle.sp_parse_grammar.specs.CTrees.{TokenOf}
use Rattle.sp_parse_grammar.specs.Table.{Plan, done, ask, Reads}
use Rattle.sp_parse_tokens.specs.Sorts.{terminal, sort_of, c_tokens}
use Rattle.sp_parse_tokens.specs.SyntaxTrees.{syntax_trees, c_table}
use Rattle.sp_parse_tokens.specs.Makers.{Enumerator}
use Rattle.sp_parse_expr_steps.specs.Reading.{IsStep}
use Rattle.sp_parse_expr_steps.proofs.Steps.{enter, took_token, finished}
use Rattle.sp_parse_expr_steps.proofs.Parts.{IsOn, chosen}

-- a plan that one test chooses
module _ (g : Context) (i j : Item syntax_trees) (f : ItemAnswer j → ItemAnswer i) (text rest xs : List Token) (x : Token) (step : IsStep g i j f text rest) (e : rest ≡ x ∷ xs) (b : Bool) (a : ItemAnswer j) where
  pub choice_ends : (q : Plan (c_symbols syntax_trees) (at g j)) → plan g j (terminal x) (view g.types (sort_of x.kind)) ≡ (if b then Some q else Some (done a)) → b ≡ false → Reads c_table (at g i) (ask (at g i)) (c_tokens text) (f a) (c_tokens rest)
  choice_ends q p other = finished (enter step (ap c_tokens e) (chosen g j x (view g.types (sort_of x.kind)) (Some (done a)) refl (p ∙ ap (λ v. if v then Some q else Some (done a)) other)))

  pub choice_on : (q : Plan (c_symbols syntax_trees) (at g j)) → plan g j (terminal x) (view g.types (sort_of x.kind)) ≡ (if b then Some q else Some (done a)) → b ≡ true → IsOn g g i j f q text rest
  choice_on q p stands = enter step (ap c_tokens e) (chosen g j x (view g.types (sort_of x.kind)) (Some q) refl (p ∙ ap (λ v. if v then Some q else Some (done a)) stands))

  pub choice_taken : (k : TokenOf syntax_trees → Plan (c_symbols syntax_trees) (at g j)) → plan g j (terminal x) (view g.types (sort_of x.kind)) ≡ (if b then Some (next k) else Some (done a)) → b ≡ true → IsOn g g i j f (k (terminal x)) text xs
  choice_taken k p stands = took_token (choice_on (next k) p stands) (ap c_tokens e) refl

-- ---- members

abbrev pub members_more : (g : Context) (ds : List Declaration) (d : Declaration) → Plan (c_symbols syntax_trees) (at g (grammar.members ds))
members_more g ds d = get g (grammar.members (ds ++ d ∷ [])) (λ es. done es)

module _ (g : Context) (first ds : List Declaration) (text rest xs : List Token) (x : Token) (step : IsStep g (grammar.members first) (grammar.members ds) (λ a. a) text rest) (e : rest ≡ x ∷ xs) where
  pub members_on : begins_specifiers false g.inside (view g.types (sort_of x.kind)) ≡ true → IsOn g g (grammar.members first) (grammar.members ds) (λ a. a) (get g grammar.member (members_more g ds)) text rest
  members_on stands = choice_on g (grammar.members first) (grammar.members ds) (λ a. a) text rest xs x step e (begins_specifiers false g.inside (view g.types (sort_of x.kind))) ds (get g grammar.member (members_more g ds)) refl stands

-- ---- constants of enumerations

abbrev pub enumerators_more : (g : Context) (es : List Enumerator) (v : Enumerator) → Plan (c_symbols syntax_trees) (at g (grammar.enumerators es))
enumerators_more g es v = get g (grammar.enumerators (es ++ v ∷ [])) (λ fs. done fs)

module _ (g : Context) (first es : List Enumerator) (text rest xs : List Token) (x : Token) (step : IsStep g (grammar.enumerators first) (grammar.enumerators es) (λ a. a) text rest) (e : rest ≡ x ∷ xs) where
  pub enumerators_on : is_mark tokens.comma (view g.types (sort_of x.kind)) ≡ true → IsOn g g (grammar.enumerators first) (grammar.enumerators es) (λ a. a) (get g grammar.enumerator (enumerators_more g es)) text xs
  enumerators_on stands = choice_taken g (grammar.enumerators first) (grammar.enumerators es) (λ a. a) text rest xs x step e (is_mark tokens.comma (view g.types (sort_of x.kind))) es (λ y. get g grammar.enumerator (enumerators_more g es)) refl stands

pub map_more : {A B : Type 0} (f : A → B) (xs : List A) (x : A) → map f (xs ++ x ∷ []) ≡ map f xs ++ f x ∷ []
map_more f [] x = refl
map_more f (y ∷ ys) x = ap (λ v. f y ∷ v) (map_more f ys x)
