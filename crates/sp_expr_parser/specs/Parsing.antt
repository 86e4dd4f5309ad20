-- What the four parsers answer, said by levelled trees.
use Rattle.std.specs.Prelude.{◌≡◌, ◌==◌, length, ℕ, ◌^◌, ◌-◌, ◌<◌, ◌≤◌, true, false, ◌&&◌, List, [], ◌∷◌, ◌++◌, take, drop, Result, Ok, Err, ⊤, ◌⊎◌, Vec}
use Rattle.std.specs.List.{list_any}
use Rattle.std.specs.declared.alloc.Global.{Global}
use Rattle.sp_tree.specs.declared.fault.Fault.{Fault}
use Rattle.sp_tree.specs.declared.fault.FaultKind.{FaultKind}
use Rattle.sp_tree.specs.declared.fault.FaultKind.TheVariants.{NestingTooDeep, UnexpectedToken, OldStyleParameters, ImplicitInt, VariadicDefinition, BitField, GnuWord, TypedefAsOrdinaryName, LongLong}
use Rattle.sp_tree.specs.declared.token.Keyword.TheVariants.{Void}
use Rattle.sp_tree.specs.declared.token.Kind.{Kind}
use Rattle.sp_tree.specs.declared.token.Kind.TheVariants as kinds
use Rattle.sp_tree.specs.declared.token.Token.{Token}
use Rattle.sp_parse_trees.specs.declared.tree.Expr.{Expr}
use Rattle.sp_parse_trees.specs.declared.tree.TypeName.{TypeName}
use Rattle.sp_parse_trees.specs.declared.tree.Specifier.{Specifier}
use Rattle.sp_parse_trees.specs.declared.tree.Declarator.{Declarator}
use Rattle.sp_parse_trees.specs.View.{tree_of, type_name_of, specifiers_of, declarator_of}
use Rattle.sp_expr_parser.specs.declared.error.ParseError.{ParseError}
use Rattle.sp_expr_parser.specs.declared.error.ParseError.TheVariants as errors
use Rattle.sp_expr_parser.specs.declared.call.Call.{Call}
use Rattle.sp_expr_parser.specs.declared.call.Call.TheVariants as calls
use Rattle.sp_parse_grammar.specs.CTokens as tokens
use Rattle.sp_parse_grammar.specs.CTokens.{Sort, is_mark, is_name, view}
use Rattle.sp_parse_grammar.specs.CTable as grammar
use Rattle.sp_parse_grammar.specs.CTable.{Ask, Item, at}
use Rattle.sp_parse_grammar.specs.Table.{ask, Fails}
use Rattle.sp_parse_tokens.specs.Sorts.{c_tokens, sort_of}
use Rattle.sp_parse_tokens.specs.SyntaxTrees.{syntax_trees, c_table}
use Rattle.sp_parse_tokens.specs.Makers.{first_place}
use Rattle.sp_parse_tokens.specs.Faults.{Wanted, context_of, sort_there, begins_parameter, ends_with_dots, begins_declarator, is_type_name, is_long, ends_with_opening, ends_with_long}
use Rattle.sp_parse_laws.specs.Answers.{Language, kinds_of, expressions, type_names, specifier_lists, declarators, BeginsTree, IsFirstBad, IsLongest, IsNested, expression_ask, type_name_ask, specifiers_ask, declarator_ask}

-- ---- the kind of a fault

-- the least number that is no type name
pub record IsFree (types : List ℕ) (n : ℕ) : Type 0 where
  pub free : list_any (λ t. t == n) types ≡ false
  pub least : (m : ℕ) → m < n → list_any (λ t. t == m) types ≡ true

-- What was wanted at a failing token, the tokens before it, of which the first are no part of the tree, and the token.
pub record Failing : Type 0 where
  pub want : Wanted
  pub before : List Token
  pub front : List Token
  pub bad : Token

-- a token of this kind could be after these
abbrev pub CouldBe : Language → List ℕ → List Token → Kind → Type 0
CouldBe L types front k = BeginsTree L types (kinds_of front ++ k ∷ [])

-- its sort, where the grammar wanted something else
abbrev pub sort_wanted : Failing → Sort
sort_wanted f = sort_there f.want f.bad

-- a name where a parameter could begin
abbrev pub IsOldParameter : Failing → Type 0
IsOldParameter f = (begins_parameter f.want && is_name (sort_wanted f)) ≡ true

-- the head of a declarator where a specifier of a type could be
abbrev pub IsImplicitInt : Language → List ℕ → List Token → Token → Type 0
IsImplicitInt L types front bad = (begins_declarator (view types (sort_of bad.kind)) ≡ true) × CouldBe L types front (kinds.Word Void)

-- the `{` of a body after a declarator with `...`
abbrev pub IsVariadicBody : Failing → Type 0
IsVariadicBody f = (ends_with_dots f.want && is_mark tokens.brace (sort_wanted f)) ≡ true

-- a `:` in a struct
abbrev pub IsBitField : Failing → Type 0
IsBitField f = ((context_of f.want).members && is_mark tokens.colon (sort_wanted f)) ≡ true

-- a `{` directly after `(`
abbrev pub IsBlock : Failing → Type 0
IsBlock f = (ends_with_opening false (f.before ++ f.front) && is_mark tokens.brace (sort_of f.bad.kind)) ≡ true

-- a type name where a name that is none could be. (No part here is in a function, where `typedef` is such a fault too.)
pub record IsTypeForName (L : Language) (types : List ℕ) (front : List Token) (bad : Token) : Type 0 where
  pub is_type : is_type_name (view types (sort_of bad.kind)) ≡ true
  pub name : ℕ
  pub fits : name < 2 ^ 32 - 1
  pub free : IsFree types name
  pub could_be : CouldBe L types front (kinds.Name name)

-- a second `long`
abbrev pub IsLongLong : Failing → Type 0
IsLongLong f = (ends_with_long false (f.before ++ f.front) && is_long (sort_of f.bad.kind)) ≡ true

-- The kind is that of the first of these that holds, else UnexpectedToken.
abbrev pub IsKind : Language → List ℕ → Failing → FaultKind → Type 0
IsKind L types f OldStyleParameters = IsOldParameter f
IsKind L types f ImplicitInt = (¬ IsOldParameter f) × IsImplicitInt L types f.front f.bad
IsKind L types f VariadicDefinition = (¬ IsOldParameter f) × (¬ IsImplicitInt L types f.front f.bad) × IsVariadicBody f
IsKind L types f BitField = (¬ IsOldParameter f) × (¬ IsImplicitInt L types f.front f.bad) × (¬ IsVariadicBody f) × IsBitField f
IsKind L types f GnuWord = (¬ IsOldParameter f) × (¬ IsImplicitInt L types f.front f.bad) × (¬ IsVariadicBody f) × (¬ IsBitField f) × IsBlock f
IsKind L types f TypedefAsOrdinaryName = (¬ IsOldParameter f) × (¬ IsImplicitInt L types f.front f.bad) × (¬ IsVariadicBody f) × (¬ IsBitField f) × (¬ IsBlock f) × IsTypeForName L types f.front f.bad
IsKind L types f LongLong = (¬ IsOldParameter f) × (¬ IsImplicitInt L types f.front f.bad) × (¬ IsVariadicBody f) × (¬ IsBitField f) × (¬ IsBlock f) × (¬ IsTypeForName L types f.front f.bad) × IsLongLong f
IsKind L types f UnexpectedToken = (¬ IsOldParameter f) × (¬ IsImplicitInt L types f.front f.bad) × (¬ IsVariadicBody f) × (¬ IsBitField f) × (¬ IsBlock f) × (¬ IsTypeForName L types f.front f.bad) × (¬ IsLongLong f)
IsKind L types f _ = ⊥

-- ---- faults

-- After that many tokens is the failing one, where the grammar wanted something else, and its fault.
pub record IsFault (L : Language) (n : Ask syntax_trees) (types : List ℕ) (before tokens : List Token) (fault : FaultKind) (count : ℕ) : Type 0 where
  pub front : List Token
  pub bad : Token
  pub more : List Token
  pub whole : tokens ≡ front ++ bad ∷ more
  pub counted : count ≡ length front
  pub failing : IsFirstBad L types (kinds_of front) bad.kind
  pub want : Wanted
  pub fails : Fails c_table n (ask n) (c_tokens tokens) want (c_tokens (bad ∷ more))
  pub kind : IsKind L types (record { want = want; before = before; front = front; bad = bad }) fault

-- The fault after some of the tokens: that of the failing token, or that the depth is passed.
pub record IsRefused (L : Language) (n : Ask syntax_trees) (types : List ℕ) (depth : ℕ) (before tokens : List Token) (fault : Fault) : Type 0 where
  pub count : ℕ
  pub place : fault.place ≡ first_place (drop count tokens)
  pub why : IsFault L n types before tokens fault.kind count ⊎ ((fault.kind ≡ NestingTooDeep) × IsNested L types depth tokens count)

abbrev pub Refused : (L : Language) → Ask syntax_trees → List ℕ → ℕ → List Token → List Token → ParseError → Type 0
Refused L n types depth before tokens (errors.Fault fault) = IsRefused L n types depth before tokens fault
Refused L n types depth before tokens errors.NoMemory = ⊤

-- ---- the four calls

-- the trees of a call
abbrev pub language_of : Call → Language
language_of calls.Expression = expressions
language_of calls.TypeName = type_names
language_of calls.Specifiers = specifier_lists
language_of calls.Declarator = declarators

-- what it asks for
abbrev pub item_of : Call → Item syntax_trees
item_of calls.Expression = grammar.level 13
item_of calls.TypeName = grammar.type_name
item_of calls.Specifiers = grammar.optional_specifiers
item_of calls.Declarator = grammar.declarator grammar.concrete

abbrev pub ask_of : Call → List ℕ → Ask syntax_trees
ask_of call types = at (grammar.outside types) (item_of call)

-- the tree and the number of the token after it, from this first one
pub record IsParsed (L : Language) (types : List ℕ) (depth : ℕ) (tokens : List Token) (from : ℕ) (tree : L.Tree) (behind : ℕ) : Type 0 where
  pub forward : from ≤ behind
  pub longest : IsLongest L types depth tokens tree (behind - from)

-- What a call answers from the token of this number on.
abbrev pub ExpressionAnswers : List ℕ → ℕ → List Token → ℕ → Result (Expr × ℕ) ParseError → Type 0
ExpressionAnswers types depth tokens from (Ok read) = IsParsed expressions types depth (drop from tokens) from (tree_of read.0) read.1
ExpressionAnswers types depth tokens from (Err error) = Refused expressions (expression_ask types) types depth (take from tokens) (drop from tokens) error

abbrev pub TypeNameAnswers : List ℕ → ℕ → List Token → ℕ → Result (TypeName × ℕ) ParseError → Type 0
TypeNameAnswers types depth tokens from (Ok read) = IsParsed type_names types depth (drop from tokens) from (type_name_of read.0) read.1
TypeNameAnswers types depth tokens from (Err error) = Refused type_names (type_name_ask types) types depth (take from tokens) (drop from tokens) error

abbrev pub SpecifierAnswers : List ℕ → ℕ → List Token → ℕ → Result (Vec Specifier Global × ℕ) ParseError → Type 0
SpecifierAnswers types depth tokens from (Ok read) = IsParsed specifier_lists types depth (drop from tokens) from (specifiers_of read.0.items) read.1
SpecifierAnswers types depth tokens from (Err error) = Refused specifier_lists (specifiers_ask types) types depth (take from tokens) (drop from tokens) error

abbrev pub DeclaratorAnswers : List ℕ → ℕ → List Token → ℕ → Result (Declarator × ℕ) ParseError → Type 0
DeclaratorAnswers types depth tokens from (Ok read) = IsParsed declarators types depth (drop from tokens) from (declarator_of read.0) read.1
DeclaratorAnswers types depth tokens from (Err error) = Refused declarators (declarator_ask types) types depth (take from tokens) (drop from tokens) error
