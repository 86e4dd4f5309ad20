-- Each levelled tree is read from its tokens, before any token at which it may end: expressions, type names, specifiers, declarators.
use Rattle.std.proofs.Common.{◌≡◌, ℕ, ◌+◌, ◌-◌, ◌≤◌, Bool, true, false, List, [], ◌∷◌, ◌++◌, Option, Some, None, refl, sym, ap, ap₂, ◌∙◌, subst, arith, append_assoc, append-nil}
use Rattle.std.specs.Prelude.{if◌then◌else◌, is_some, ◌||◌, ◌&&◌, ◌==◌}
use Rattle.std.specs.List.{list_any, list_all}
use Rattle.sp_tree.specs.declared.token.Keyword.{Keyword}
use Rattle.sp_tree.specs.declared.token.Keyword.TheVariants as words
use Rattle.sp_tree.specs.declared.token.Kind.{Kind}
use Rattle.sp_tree.specs.declared.token.Kind.TheVariants as kinds
use Rattle.sp_tree.specs.declared.token.Punct.{Punct}
use Rattle.sp_tree.specs.declared.token.Punct.TheVariants as puncts
use Rattle.sp_parse_trees.specs.Words.{binary_level, is_step, is_unary, is_storage, is_typedef, is_qualifier, is_one_type}
use Rattle.sp_parse_trees.specs.Syntax as syntax
use Rattle.sp_parse_trees.specs.Syntax.{Expression, expression, Expressions, no_expressions, next_expression, MaybeExpression, no_expression, some_expression, Specifiers, no_specifiers, next_specifier, StructSpec, struct_spec, EnumSpec, enum_spec, Enumerators, no_enumerators, next_enumerator, Declarator, declarator, Param, param, Params, no_params, next_param, TypeName, type_name, InitDeclarators, no_items, next_item, init_declarator, no_init, some_init, Declaration, declaration, Declarations, no_declarations, next_declaration}
use Rattle.sp_parse_trees.specs.Spelling.{tokens_of, expressions_tokens, maybe_tokens, specifiers_tokens, members_tokens, constants_tokens, tag_tokens, enumerators_tokens, declarator_tokens, param_tokens, params_tokens, dots_tokens, type_name_tokens, items_tokens, declaration_tokens, declarations_tokens}
use Rattle.sp_parse_trees.specs.Levels.{level, storages, basics, wholes, is_specifier_list, most_one, may_declare, declared_name, is_absent, is_direct, has_params, has_members, has_constants, IsLevelled, AreLevelled, IsLevelledMaybe, AreLevelledSpecifiers, AreLevelledMembers, DeclareMembers, DeclaresMember, NameMembers, AreLevelledConstants, AreLevelledEnumerators, IsLevelledDeclarator, IsLevelledParam, AreLevelledParams, IsLevelledTypeName}
use Rattle.sp_parse_grammar.specs.CTokens as tokens
use Rattle.sp_parse_grammar.specs.CTokens.{Sort, view, nothing_seen}
use Rattle.sp_parse_grammar.specs.CTable.{Context, begins_expression, in_structure}
use Rattle.sp_parse_tokens.specs.Sorts.{Terminal, nowhere, sort_of, punct_sort}
use Rattle.sp_parse_laws.specs.Bare.{bare, bare_expressions, bare_maybe, bare_members, bare_constants, bare_enumerators, bare_declarator, bare_param, bare_params, bare_type_name, bare_items, bare_declaration, bare_declarations}
use Rattle.sp_parse_tokens.specs.Makers as make
use Rattle.sp_parse_laws.proofs.BareAnswers.{unplaced, unplaced_declarator}
use Rattle.sp_parse_laws.specs.Spelled.{kinds_at}
use Rattle.sp_parse_laws.proofs.Completing.{cut, head, sort_at}
use Rattle.sp_parse_laws.proofs.CompleteExpressions.{Complete, Begins, name_sort, name_complete, constant_complete, texts_complete, paren_complete, suffix_complete, index_step, call_step, member_step, after_step}
use Rattle.sp_parse_laws.proofs.CompleteOperators.{TypeComplete, step_complete, sign_complete, sizeof_complete, sizeof_type_complete, cast_complete, binary_complete, comma_complete, choice_complete, assign_complete}
use Rattle.sp_parse_laws.proofs.CompleteParts.{Arguments, no_arguments, some_arguments, MoreArguments, no_more_arguments, one_more_argument, word_of_type}
use Rattle.sp_parse_laws.proofs.CompleteSpecifiers.{Specifying, OneSpecifier, none_specifying, next_specifying, storage_one, typedef_one, qualifier_one, basic_one, named_one, struct_one, enum_one, from_nothing}
use Rattle.sp_parse_laws.proofs.CompleteDeclarators.{Declaring, absent_complete, named_complete, group_complete, pointer_complete, suffixed_complete, array_suffix, function_suffix, array_absent_complete, function_absent_complete, Length, no_length, some_length, Parametrising}
use Rattle.sp_parse_laws.proofs.CompleteLists.{type_complete, Parameter, parameter_complete, MoreParameters, no_more_parameters, dots_behind, one_more_parameter, no_parameters, some_parameters}
use Rattle.sp_parse_laws.proofs.CompleteMembers.{MoreMembers, no_more_members, one_more_member, Member, member_complete, Members, no_members, more_members, Structure, tag_alone, body_alone, tag_and_body, Constant, constant_alone, constant_valued, MoreConstants, no_more_constants, one_more_constant, Enumeration, enum_tag_alone, enum_body_alone, enum_tag_and_body}
use Rattle.sp_parse_laws.proofs.LevelledAnswers.{scope_of}
use Rattle.sp_parse_laws.proofs.LevelledSpecifiers.{kept_stored}

-- ---- the first token of an expression

unary_sort : (types : List ℕ) (p : Punct) → is_step p || is_unary p ≡ true → begins_expression (view types (punct_sort p)) ≡ true
unary_sort types puncts.Increment e = refl
unary_sort types puncts.Decrement e = refl
unary_sort types puncts.Ampersand e = refl
unary_sort types puncts.Star e = refl
unary_sort types puncts.Plus e = refl
unary_sort types puncts.Minus e = refl
unary_sort types puncts.Tilde e = refl
unary_sort types puncts.Exclamation e = refl
unary_sort types _ e = absurd cc

first_of : (g : Context) (ws : List Terminal) (k : Kind) (b : List Kind) → kinds_at ws ≡ k ∷ b → begins_expression (view g.types (sort_of k)) ≡ true → Begins g ws
first_of g ws k b is begins =
    let h = head ws k b is in
    record { first = h.first; rest = h.rest; whole = h.whole; begins = ap begins_expression (sort_at g.types h.first k h.first_is) ∙ begins }

first_before : (g : Context) (ws : List Terminal) (a b : List Kind) → kinds_at ws ≡ a ++ b → ((us : List Terminal) → kinds_at us ≡ a → Begins g us) → Begins g ws
first_before g ws a b is inner =
    let c = cut ws a b is in
    let f = inner c.left c.left_is in
    record { first = f.first; rest = f.rest ++ c.right; whole = c.whole ∙ ap (λ v. v ++ c.right) f.whole; begins = f.begins }

pub begins : (g : Context) (e : Expression) → IsLevelled (scope_of g) e → (ws : List Terminal) → kinds_at ws ≡ tokens_of e → Begins g ws
begins g (expression (syntax.name n) p m) h ws is = let x = head ws (kinds.Name n) [] is in record { first = x.first; rest = x.rest; whole = x.whole; begins = ap begins_expression (name_sort g.types x.first n x.first_is h) }
begins g (expression (syntax.number n) p m) h ws is = first_of g ws (kinds.Number n) [] is refl
begins g (expression (syntax.character z) p m) h ws is = first_of g ws (kinds.Char z) [] is refl
begins g (expression (syntax.text []) p m) h ws is = absurd h
begins g (expression (syntax.text (n ∷ ns)) p m) h ws is = first_of g ws (kinds.Text n) _ is refl
begins g (expression (syntax.paren e) p m) h ws is = first_of g ws (kinds.Mark puncts.LeftParenthesis) _ is refl
begins g (expression (syntax.index e i) p m) h ws is = first_before g ws (tokens_of e) (kinds.Mark puncts.LeftBracket ∷ (tokens_of i ++ kinds.Mark puncts.RightBracket ∷ [])) (is ∙ append_assoc (tokens_of e) (kinds.Mark puncts.LeftBracket ∷ tokens_of i) (kinds.Mark puncts.RightBracket ∷ [])) (λ us e1. begins g e h.1 us e1)
begins g (expression (syntax.call e es) p m) h ws is = first_before g ws (tokens_of e) (kinds.Mark puncts.LeftParenthesis ∷ (expressions_tokens [] es ++ kinds.Mark puncts.RightParenthesis ∷ [])) (is ∙ append_assoc (tokens_of e) (kinds.Mark puncts.LeftParenthesis ∷ expressions_tokens [] es) (kinds.Mark puncts.RightParenthesis ∷ [])) (λ us e1. begins g e h.1 us e1)
begins g (expression (syntax.member e n) p m) h ws is = first_before g ws (tokens_of e) _ is (λ us e1. begins g e h.1 us e1)
begins g (expression (syntax.arrow e n) p m) h ws is = first_before g ws (tokens_of e) _ is (λ us e1. begins g e h.1 us e1)
begins g (expression (syntax.after op e) p m) h ws is = first_before g ws (tokens_of e) _ is (λ us e1. begins g e h.2 us e1)
begins g (expression (syntax.unary op e) p m) h ws is = first_of g ws (kinds.Mark op) _ is (unary_sort g.types op h.0)
begins g (expression (syntax.sizeof_expr e) p m) h ws is = first_of g ws (kinds.Word words.Sizeof) _ is refl
begins g (expression (syntax.sizeof_type t) p m) h ws is = first_of g ws (kinds.Word words.Sizeof) _ is refl
begins g (expression (syntax.cast t e) p m) h ws is = first_of g ws (kinds.Mark puncts.LeftParenthesis) _ is refl
begins g (expression (syntax.binary op l r) p m) h ws is = first_before g ws (tokens_of l) _ is (λ us e1. begins g l h.3 us e1)
begins g (expression (syntax.choice c l r) p m) h ws is = first_before g ws (tokens_of c) (kinds.Mark puncts.Question ∷ (tokens_of l ++ kinds.Mark puncts.Colon ∷ tokens_of r)) (is ∙ append_assoc (tokens_of c) (kinds.Mark puncts.Question ∷ tokens_of l) (kinds.Mark puncts.Colon ∷ tokens_of r)) (λ us e1. begins g c h.2 us e1)
begins g (expression (syntax.assign op l r) p m) h ws is = first_before g ws (tokens_of l) _ is (λ us e1. begins g l h.3 us e1)
begins g (expression (syntax.comma l r) p m) h ws is = first_before g ws (tokens_of l) _ is (λ us e1. begins g l h.1 us e1)

-- ---- operators by their marks

step_sort : (p : Punct) → is_step p ≡ true → punct_sort p ≡ tokens.mark tokens.step
step_sort puncts.Increment e = refl
step_sort puncts.Decrement e = refl
step_sort _ e = absurd cc

level_small : (p : Punct) → binary_level p ≤ 12
level_small puncts.LeftBracket = omega arith
level_small puncts.RightBracket = omega arith
level_small puncts.LeftParenthesis = omega arith
level_small puncts.RightParenthesis = omega arith
level_small puncts.LeftBrace = omega arith
level_small puncts.RightBrace = omega arith
level_small puncts.Dot = omega arith
level_small puncts.Arrow = omega arith
level_small puncts.Increment = omega arith
level_small puncts.Decrement = omega arith
level_small puncts.Ampersand = omega arith
level_small puncts.Star = omega arith
level_small puncts.Plus = omega arith
level_small puncts.Minus = omega arith
level_small puncts.Tilde = omega arith
level_small puncts.Exclamation = omega arith
level_small puncts.Slash = omega arith
level_small puncts.Percent = omega arith
level_small puncts.ShiftLeft = omega arith
level_small puncts.ShiftRight = omega arith
level_small puncts.Less = omega arith
level_small puncts.Greater = omega arith
level_small puncts.LessEqual = omega arith
level_small puncts.GreaterEqual = omega arith
level_small puncts.EqualEqual = omega arith
level_small puncts.NotEqual = omega arith
level_small puncts.Caret = omega arith
level_small puncts.Bar = omega arith
level_small puncts.AndAnd = omega arith
level_small puncts.OrOr = omega arith
level_small puncts.Question = omega arith
level_small puncts.Colon = omega arith
level_small puncts.Semicolon = omega arith
level_small puncts.Ellipsis = omega arith
level_small puncts.Assign = omega arith
level_small puncts.StarAssign = omega arith
level_small puncts.SlashAssign = omega arith
level_small puncts.PercentAssign = omega arith
level_small puncts.PlusAssign = omega arith
level_small puncts.MinusAssign = omega arith
level_small puncts.ShiftLeftAssign = omega arith
level_small puncts.ShiftRightAssign = omega arith
level_small puncts.AmpersandAssign = omega arith
level_small puncts.CaretAssign = omega arith
level_small puncts.BarAssign = omega arith
level_small puncts.Comma = omega arith

unary_complete : (g : Context) (o e : Expression) (p : Punct) → tokens_of o ≡ kinds.Mark p ∷ tokens_of e → bare o ≡ unplaced (syntax.unary p (bare e)) → level o ≡ 14 → is_step p || is_unary p ≡ true → (if is_step p then 14 else 13) ≤ level e → Complete g e → Complete g o
unary_complete g o e puncts.Increment is bare_is high u deep inner = step_complete g o e (kinds.Mark puncts.Increment) is bare_is high refl deep inner
unary_complete g o e puncts.Decrement is bare_is high u deep inner = step_complete g o e (kinds.Mark puncts.Decrement) is bare_is high refl deep inner
unary_complete g o e puncts.Ampersand is bare_is high u deep inner = sign_complete g o e (kinds.Mark puncts.Ampersand) tokens.ampersand is bare_is high refl refl (λ x. refl) deep inner
unary_complete g o e puncts.Star is bare_is high u deep inner = sign_complete g o e (kinds.Mark puncts.Star) tokens.star is bare_is high refl refl (λ x. refl) deep inner
unary_complete g o e puncts.Plus is bare_is high u deep inner = sign_complete g o e (kinds.Mark puncts.Plus) tokens.additive is bare_is high refl refl (λ x. refl) deep inner
unary_complete g o e puncts.Minus is bare_is high u deep inner = sign_complete g o e (kinds.Mark puncts.Minus) tokens.additive is bare_is high refl refl (λ x. refl) deep inner
unary_complete g o e puncts.Tilde is bare_is high u deep inner = sign_complete g o e (kinds.Mark puncts.Tilde) tokens.tilde is bare_is high refl refl (λ x. refl) deep inner
unary_complete g o e puncts.Exclamation is bare_is high u deep inner = sign_complete g o e (kinds.Mark puncts.Exclamation) tokens.tilde is bare_is high refl refl (λ x. refl) deep inner
unary_complete g o e _ is bare_is high u deep inner = absurd cc

-- ---- specifiers by their words

storage_word : (g : Context) (k : Keyword) → is_storage k ≡ true → OneSpecifier g (syntax.storage k)
storage_word g words.Auto e = storage_one g words.Auto refl refl
storage_word g words.Extern e = storage_one g words.Extern refl refl
storage_word g words.Register e = storage_one g words.Register refl refl
storage_word g words.Static e = storage_one g words.Static refl refl
storage_word g words.Typedef e = typedef_one g
storage_word g _ e = absurd cc

qualifier_word : (g : Context) (k : Keyword) → is_qualifier k ≡ true → OneSpecifier g (syntax.qualifier k)
qualifier_word g words.Const e = qualifier_one g words.Const refl refl
qualifier_word g words.Volatile e = qualifier_one g words.Volatile refl refl
qualifier_word g _ e = absurd cc

and_second : (a b : Bool) → a && b ≡ true → b ≡ true
and_second true b e = e
and_second false b e = absurd cc

outside_true : (b : Bool) → (if b then true else true) ≡ true
outside_true true = refl
outside_true false = refl

-- a list without storage classes declares no types
pub none_declared : (g : Context) (ss : Specifiers) → storages ss ≡ [] → may_declare (scope_of g) ss ≡ true
none_declared g ss e = ap (λ v. if g.inside then list_all (λ k. if is_typedef k then false else true) v else true) e ∙ outside_true g.inside

one_type : (n m : ℕ) (ks js : List Keyword) → n ≡ m → ks ≡ js → is_one_type n ks ≡ true → is_one_type m js ≡ true
one_type n m ks js e f h = sym (ap₂ (λ a b. is_one_type a b) e f) ∙ h

pub of_list : (ss : Specifiers) → is_specifier_list ss ≡ true → is_one_type (0 + wholes ss) ([] ++ basics ss) ≡ true
of_list ss e = one_type (wholes ss) (0 + wholes ss) (basics ss) (basics ss) (omega arith) refl (and_second (most_one (storages ss)) (is_one_type (wholes ss) (basics ss)) e)

none_at : (d : Declarator) → is_absent d ≡ true → declarator_tokens d ≡ []
none_at (declarator syntax.absent p) e = refl
none_at (declarator (syntax.declared n) p) e = absurd cc
none_at (declarator (syntax.group d) p) e = absurd cc
none_at (declarator (syntax.pointer ks d) p) e = absurd cc
none_at (declarator (syntax.array d n) p) e = absurd cc
none_at (declarator (syntax.function d ps dots) p) e = absurd cc

none_named : (d : Declarator) → is_absent d ≡ true → declared_name d ≡ None
none_named (declarator syntax.absent p) e = refl
none_named (declarator (syntax.declared n) p) e = absurd cc
none_named (declarator (syntax.group d) p) e = absurd cc
none_named (declarator (syntax.pointer ks d) p) e = absurd cc
none_named (declarator (syntax.array d n) p) e = absurd cc
none_named (declarator (syntax.function d ps dots) p) e = absurd cc

none_bare : (d : Declarator) → is_absent d ≡ true → bare_declarator d ≡ make.make_absent
none_bare (declarator syntax.absent p) e = refl
none_bare (declarator (syntax.declared n) p) e = absurd cc
none_bare (declarator (syntax.group d) p) e = absurd cc
none_bare (declarator (syntax.pointer ks d) p) e = absurd cc
none_bare (declarator (syntax.array d n) p) e = absurd cc
none_bare (declarator (syntax.function d ps dots) p) e = absurd cc

array_by : (g : Context) (o d : Declarator) (ks : List Kind) (w : MaybeExpression) → bare_declarator o ≡ unplaced_declarator (syntax.array (bare_declarator d) w) → declarator_tokens o ≡ declarator_tokens d ++ kinds.Mark puncts.LeftBracket ∷ (ks ++ kinds.Mark puncts.RightBracket ∷ []) → is_direct o ≡ true → is_absent o ≡ false → declared_name o ≡ declared_name d → is_direct d ≡ true → Declaring g d → Length g ks w → (b : Bool) → is_absent d ≡ b → Declaring g o
array_by g o d ks w bare_is is direct some same inner_direct inner l true e = array_absent_complete g o ks w (bare_is ∙ ap (λ v. unplaced_declarator (syntax.array v w)) (none_bare d e)) (is ∙ ap (λ v. v ++ kinds.Mark puncts.LeftBracket ∷ (ks ++ kinds.Mark puncts.RightBracket ∷ [])) (none_at d e)) direct some nowhere (same ∙ none_named d e) l
array_by g o d ks w bare_is is direct some same inner_direct inner l false e = suffixed_complete g o d (kinds.Mark puncts.LeftBracket) (ks ++ kinds.Mark puncts.RightBracket ∷ []) (λ v. syntax.array v w) bare_is is direct some same inner_direct e inner (array_suffix g ks w l)

function_by : (g : Context) (o d : Declarator) (ks : List Kind) (w : Params × Bool) → bare_declarator o ≡ unplaced_declarator (syntax.function (bare_declarator d) w.0 w.1) → declarator_tokens o ≡ declarator_tokens d ++ kinds.Mark puncts.LeftParenthesis ∷ (ks ++ kinds.Mark puncts.RightParenthesis ∷ []) → is_direct o ≡ true → is_absent o ≡ false → declared_name o ≡ declared_name d → is_direct d ≡ true → Declaring g d → Parametrising g ks w → (b : Bool) → is_absent d ≡ b → Declaring g o
function_by g o d ks w bare_is is direct some same inner_direct inner l true e = function_absent_complete g o ks w (bare_is ∙ ap (λ v. unplaced_declarator (syntax.function v w.0 w.1)) (none_bare d e)) (is ∙ ap (λ v. v ++ kinds.Mark puncts.LeftParenthesis ∷ (ks ++ kinds.Mark puncts.RightParenthesis ∷ [])) (none_at d e)) direct some nowhere (same ∙ none_named d e) l
function_by g o d ks w bare_is is direct some same inner_direct inner l false e = suffixed_complete g o d (kinds.Mark puncts.LeftParenthesis) (ks ++ kinds.Mark puncts.RightParenthesis ∷ []) (λ v. syntax.function v w.0 w.1) bare_is is direct some same inner_direct e inner (function_suffix g ks w l)

-- ---- all trees

mutual
  pub complete : (g : Context) (e : Expression) → IsLevelled (scope_of g) e → Complete g e
  complete g (expression (syntax.name n) p m) h = name_complete g (expression (syntax.name n) p m) n refl refl (omega arith) h
  complete g (expression (syntax.number n) p m) h = constant_complete g (expression (syntax.number n) p m) (kinds.Number n) refl refl (omega arith) refl
  complete g (expression (syntax.character z) p m) h = constant_complete g (expression (syntax.character z) p m) (kinds.Char z) refl refl (omega arith) refl
  complete g (expression (syntax.text []) p m) h = absurd h
  complete g (expression (syntax.text (n ∷ ns)) p m) h = texts_complete g (expression (syntax.text (n ∷ ns)) p m) n ns refl refl (omega arith)
  complete g (expression (syntax.paren e) p m) h = paren_complete g (expression (syntax.paren e) p m) e refl refl (omega arith) (complete g e h) (begins g e h)
  complete g (expression (syntax.index e i) p m) h = suffix_complete g (expression (syntax.index e i) p m) e (kinds.Mark puncts.LeftBracket) (tokens_of i ++ kinds.Mark puncts.RightBracket ∷ []) tokens.bracket (append_assoc (tokens_of e) (kinds.Mark puncts.LeftBracket ∷ tokens_of i) (kinds.Mark puncts.RightBracket ∷ [])) (omega arith) h.0 (complete g e h.1) refl refl (index_step g (expression (syntax.index e i) p m) e i refl (complete g i h.2))
  complete g (expression (syntax.call e es) p m) h = suffix_complete g (expression (syntax.call e es) p m) e (kinds.Mark puncts.LeftParenthesis) (expressions_tokens [] es ++ kinds.Mark puncts.RightParenthesis ∷ []) tokens.opening (append_assoc (tokens_of e) (kinds.Mark puncts.LeftParenthesis ∷ expressions_tokens [] es) (kinds.Mark puncts.RightParenthesis ∷ [])) (omega arith) h.0 (complete g e h.1) refl refl (call_step g (expression (syntax.call e es) p m) e (expressions_tokens [] es) (bare_expressions es) refl (arguments g es h.2))
  complete g (expression (syntax.member e n) p m) h = suffix_complete g (expression (syntax.member e n) p m) e (kinds.Mark puncts.Dot) (kinds.Name n ∷ []) tokens.member refl (omega arith) h.0 (complete g e h.1) refl refl (member_step g (expression (syntax.member e n) p m) e (kinds.Mark puncts.Dot) n refl refl)
  complete g (expression (syntax.arrow e n) p m) h = suffix_complete g (expression (syntax.arrow e n) p m) e (kinds.Mark puncts.Arrow) (kinds.Name n ∷ []) tokens.member refl (omega arith) h.0 (complete g e h.1) refl refl (member_step g (expression (syntax.arrow e n) p m) e (kinds.Mark puncts.Arrow) n refl refl)
  complete g (expression (syntax.after op e) p m) h = suffix_complete g (expression (syntax.after op e) p m) e (kinds.Mark op) [] tokens.step refl (omega arith) h.1 (complete g e h.2) (step_sort op h.0) refl (after_step g (expression (syntax.after op e) p m) e (kinds.Mark op) refl (step_sort op h.0))
  complete g (expression (syntax.unary op e) p m) h = unary_complete g (expression (syntax.unary op e) p m) e op refl refl refl h.0 h.1 (complete g e h.2)
  complete g (expression (syntax.sizeof_expr e) p m) h = sizeof_complete g (expression (syntax.sizeof_expr e) p m) e refl refl refl h.0 (complete g e h.1)
  complete g (expression (syntax.sizeof_type t) p m) h = sizeof_type_complete g (expression (syntax.sizeof_type t) p m) (type_name_tokens t) (bare_type_name t) refl refl refl (type_of g t h)
  complete g (expression (syntax.cast t e) p m) h = cast_complete g (expression (syntax.cast t e) p m) e (type_name_tokens t) (bare_type_name t) refl refl refl (type_of g t h.0) h.1 (complete g e h.2)
  complete g (expression (syntax.binary op l r) p m) h = let small = level_small op in binary_complete g (expression (syntax.binary op l r) p m) l r op (12 - binary_level op) refl refl refl (omega (arith, small)) h.0 h.1 h.2 (complete g l h.3) (complete g r h.4)
  complete g (expression (syntax.choice c l r) p m) h = choice_complete g (expression (syntax.choice c l r) p m) c l r (append_assoc (tokens_of c) (kinds.Mark puncts.Question ∷ tokens_of l) (kinds.Mark puncts.Colon ∷ tokens_of r)) refl refl h.0 h.1 (complete g c h.2) (complete g l h.3) (complete g r h.4)
  complete g (expression (syntax.assign op l r) p m) h = assign_complete g (expression (syntax.assign op l r) p m) l r op refl refl refl h.0 h.1 h.2 (complete g l h.3) (complete g r h.4)
  complete g (expression (syntax.comma l r) p m) h = comma_complete g (expression (syntax.comma l r) p m) l r refl refl refl h.0 (complete g l h.1) (complete g r h.2)

  arguments : (g : Context) (es : Expressions) → AreLevelled (scope_of g) es → Arguments g (expressions_tokens [] es) (bare_expressions es)
  arguments g no_expressions h = no_arguments g
  arguments g (next_expression e es) h = some_arguments g e (expressions_tokens (kinds.Mark puncts.Comma ∷ []) es) (bare_expressions es) h.0 (complete g e h.1) (begins g e h.1) (more_arguments g es h.2)

  more_arguments : (g : Context) (es : Expressions) → AreLevelled (scope_of g) es → MoreArguments g (expressions_tokens (kinds.Mark puncts.Comma ∷ []) es) (bare_expressions es)
  more_arguments g no_expressions h = no_more_arguments g
  more_arguments g (next_expression e es) h = one_more_argument g e (expressions_tokens (kinds.Mark puncts.Comma ∷ []) es) (bare_expressions es) h.0 (complete g e h.1) (more_arguments g es h.2)

  length_of : (g : Context) (e : MaybeExpression) → IsLevelledMaybe (scope_of g) 2 e → Length g (maybe_tokens [] e) (bare_maybe e)
  length_of g no_expression h = no_length g
  length_of g (some_expression e) h = some_length g e h.0 (complete g e h.1) (begins g e h.1)

  type_of : (g : Context) (t : TypeName) → IsLevelledTypeName (scope_of g) t → TypeComplete g (type_name_tokens t) (bare_type_name t)
  type_of g (type_name ss d) h = type_complete g ss d (specifiers_of g ss h.2 0 [] (of_list ss h.1)) (from_nothing g false ss h.1 (λ e. h.0) (none_declared g ss h.0)) (declarator_of g d h.4) h.3

  pub specifiers_of : (g : Context) (ss : Specifiers) → AreLevelledSpecifiers (scope_of g) ss → (n : ℕ) (ks : List Keyword) → is_one_type (n + wholes ss) (ks ++ basics ss) ≡ true → Specifying g ss
  specifiers_of g no_specifiers h n ks e = none_specifying g
  specifiers_of g (next_specifier (syntax.storage k) ss) h n ks e = next_specifying g (syntax.storage k) ss (storage_word g k h.0) (specifiers_of g ss h.1 n ks (one_type (n + (0 + wholes ss)) (n + wholes ss) (ks ++ basics ss) (ks ++ basics ss) (omega arith) refl e))
  specifiers_of g (next_specifier (syntax.qualifier k) ss) h n ks e = next_specifying g (syntax.qualifier k) ss (qualifier_word g k h.0) (specifiers_of g ss h.1 n ks (one_type (n + (0 + wholes ss)) (n + wholes ss) (ks ++ basics ss) (ks ++ basics ss) (omega arith) refl e))
  specifiers_of g (next_specifier (syntax.basic k) ss) h n ks e =
      let w = word_of_type (n + (0 + wholes ss)) ks (basics ss) k e in
      next_specifying g (syntax.basic k) ss (basic_one g k w.0 w.1 w.2 (λ stored signed length base new. kept_stored stored w.0 signed length base new)) (specifiers_of g ss h.1 n (ks ++ k ∷ []) (one_type (n + (0 + wholes ss)) (n + wholes ss) (ks ++ k ∷ basics ss) ((ks ++ k ∷ []) ++ basics ss) (omega arith) (sym (append_assoc ks (k ∷ []) (basics ss))) e))
  specifiers_of g (next_specifier (syntax.named m) ss) h n ks e = next_specifying g (syntax.named m) ss (named_one g m h.0) (specifiers_of g ss h.1 (n + 1) ks (one_type (n + (1 + wholes ss)) (n + 1 + wholes ss) (ks ++ basics ss) (ks ++ basics ss) (omega arith) refl e))
  specifiers_of g (next_specifier (syntax.struct_specifier (struct_spec true tag ms p)) ss) h n ks e = next_specifying g (syntax.struct_specifier (struct_spec true tag ms p)) ss (struct_one g (struct_spec true tag ms p) (kinds.Word words.Union) (tag_tokens tag ++ members_tokens ms) tag (bare_members ms) refl refl refl (structure_of g tag ms h.0.0 h.0.1)) (specifiers_of g ss h.1 (n + 1) ks (one_type (n + (1 + wholes ss)) (n + 1 + wholes ss) (ks ++ basics ss) (ks ++ basics ss) (omega arith) refl e))
  specifiers_of g (next_specifier (syntax.struct_specifier (struct_spec false tag ms p)) ss) h n ks e = next_specifying g (syntax.struct_specifier (struct_spec false tag ms p)) ss (struct_one g (struct_spec false tag ms p) (kinds.Word words.Struct) (tag_tokens tag ++ members_tokens ms) tag (bare_members ms) refl refl refl (structure_of g tag ms h.0.0 h.0.1)) (specifiers_of g ss h.1 (n + 1) ks (one_type (n + (1 + wholes ss)) (n + 1 + wholes ss) (ks ++ basics ss) (ks ++ basics ss) (omega arith) refl e))
  specifiers_of g (next_specifier (syntax.enum_specifier (enum_spec tag cs p)) ss) h n ks e = next_specifying g (syntax.enum_specifier (enum_spec tag cs p)) ss (enum_one g (enum_spec tag cs p) (tag_tokens tag ++ constants_tokens cs) refl (enumeration_of g tag cs h.0.0 h.0.1)) (specifiers_of g ss h.1 (n + 1) ks (one_type (n + (1 + wholes ss)) (n + 1 + wholes ss) (ks ++ basics ss) (ks ++ basics ss) (omega arith) refl e))

  structure_of : (g : Context) (tag : Option ℕ) (ms : syntax.Members) → is_some tag || has_members ms ≡ true → AreLevelledMembers (scope_of g) ms → Structure g (tag_tokens tag ++ members_tokens ms) tag (bare_members ms)
  structure_of g None syntax.no_members e h = absurd cc
  structure_of g (Some n) syntax.no_members e h = tag_alone g n
  structure_of g tag (syntax.some_members no_declarations) e h = absurd (let f = h.0 in cc)
  structure_of g None (syntax.some_members (next_declaration d ds)) e h = body_alone g (declaration_tokens d) (declarations_tokens ds) (bare_declaration d) (bare_declarations ds) (member_of (in_structure g) d h.1.0) (members_of (in_structure g) ds h.1.1)
  structure_of g (Some n) (syntax.some_members (next_declaration d ds)) e h = tag_and_body g n (declaration_tokens d) (declarations_tokens ds) (bare_declaration d) (bare_declarations ds) (member_of (in_structure g) d h.1.0) (members_of (in_structure g) ds h.1.1)

  members_of : (g : Context) (ds : Declarations) → DeclareMembers (scope_of g) ds → Members g (declarations_tokens ds) (bare_declarations ds)
  members_of g no_declarations h = no_members g
  members_of g (next_declaration d ds) h = more_members g (declaration_tokens d) (declarations_tokens ds) (bare_declaration d) (bare_declarations ds) (member_of g d h.0) (members_of g ds h.1)

  member_of : (g : Context) (d : Declaration) → DeclaresMember (scope_of g) d → Member g (declaration_tokens d) (bare_declaration d)
  member_of g (declaration ss no_items p) h = absurd (let f = h.3 in cc)
  member_of g (declaration ss (next_item (init_declarator d (some_init i)) is) p) h = absurd h.4.0
  member_of g (declaration ss (next_item (init_declarator d no_init) is) p) h =
      let same : (specifiers_tokens ss ++ declarator_tokens d) ++ (items_tokens (kinds.Mark puncts.Comma ∷ []) is ++ kinds.Mark puncts.Semicolon ∷ []) ≡ declaration_tokens (declaration ss (next_item (init_declarator d no_init) is) p) = simp (append_assoc, append-nil) refl in
      subst (λ v. Member g v (bare_declaration (declaration ss (next_item (init_declarator d no_init) is) p))) same (member_complete g ss d (items_tokens (kinds.Mark puncts.Comma ∷ []) is) (bare_items is) (specifiers_of g ss h.2 0 [] (of_list ss h.1)) (from_nothing g false ss h.1 (λ e. h.0) (none_declared g ss h.0)) (declarator_of g d h.4.0.1) h.4.0.0 (more_members_of g is h.4.1))

  more_members_of : (g : Context) (is : InitDeclarators) → NameMembers (scope_of g) is → MoreMembers g (items_tokens (kinds.Mark puncts.Comma ∷ []) is) (bare_items is)
  more_members_of g no_items h = no_more_members g
  more_members_of g (next_item (init_declarator d (some_init i)) is) h = absurd h.0
  more_members_of g (next_item (init_declarator d no_init) is) h =
      let same : kinds.Mark puncts.Comma ∷ (declarator_tokens d ++ items_tokens (kinds.Mark puncts.Comma ∷ []) is) ≡ items_tokens (kinds.Mark puncts.Comma ∷ []) (next_item (init_declarator d no_init) is) = simp (append_assoc, append-nil) refl in
      subst (λ v. MoreMembers g v (bare_items (next_item (init_declarator d no_init) is))) same (one_more_member g d (items_tokens (kinds.Mark puncts.Comma ∷ []) is) (bare_items is) (declarator_of g d h.0.1) h.0.0 (more_members_of g is h.1))

  enumeration_of : (g : Context) (tag : Option ℕ) (cs : syntax.Constants) → is_some tag || has_constants cs ≡ true → AreLevelledConstants (scope_of g) cs → Enumeration g (tag_tokens tag ++ constants_tokens cs) tag (bare_constants cs)
  enumeration_of g None syntax.no_constants e h = absurd cc
  enumeration_of g (Some n) syntax.no_constants e h = enum_tag_alone g n
  enumeration_of g tag (syntax.some_constants no_enumerators) e h = absurd (let f = h.0 in cc)
  enumeration_of g None (syntax.some_constants (next_enumerator n p v es)) e h = enum_body_alone g (kinds.Name n ∷ maybe_tokens (kinds.Mark puncts.Assign ∷ []) v) (enumerators_tokens (kinds.Mark puncts.Comma ∷ []) es) (next_enumerator n nowhere (bare_maybe v) no_enumerators) (bare_enumerators es) (constant_of g n v h.1.0 h.1.1) (constants_of g es h.1.2)
  enumeration_of g (Some m) (syntax.some_constants (next_enumerator n p v es)) e h = enum_tag_and_body g m (kinds.Name n ∷ maybe_tokens (kinds.Mark puncts.Assign ∷ []) v) (enumerators_tokens (kinds.Mark puncts.Comma ∷ []) es) (next_enumerator n nowhere (bare_maybe v) no_enumerators) (bare_enumerators es) (constant_of g n v h.1.0 h.1.1) (constants_of g es h.1.2)

  constant_of : (g : Context) (n : ℕ) (v : MaybeExpression) → list_any (λ t. t == n) g.types ≡ false → IsLevelledMaybe (scope_of g) 2 v → Constant g (kinds.Name n ∷ maybe_tokens (kinds.Mark puncts.Assign ∷ []) v) (next_enumerator n nowhere (bare_maybe v) no_enumerators)
  constant_of g n no_expression free h = constant_alone g n free
  constant_of g n (some_expression e) free h = constant_valued g n e free h.0 (complete g e h.1)

  constants_of : (g : Context) (es : Enumerators) → AreLevelledEnumerators (scope_of g) es → MoreConstants g (enumerators_tokens (kinds.Mark puncts.Comma ∷ []) es) (bare_enumerators es)
  constants_of g no_enumerators h = no_more_constants g
  constants_of g (next_enumerator n p v es) h = one_more_constant g (kinds.Name n ∷ maybe_tokens (kinds.Mark puncts.Assign ∷ []) v) (enumerators_tokens (kinds.Mark puncts.Comma ∷ []) es) (next_enumerator n nowhere (bare_maybe v) no_enumerators) (bare_enumerators es) (constant_of g n v h.0 h.1) (constants_of g es h.2)

  pub declarator_of : (g : Context) (d : Declarator) → IsLevelledDeclarator (scope_of g) d → Declaring g d
  declarator_of g (declarator syntax.absent p) h = absent_complete g p
  declarator_of g (declarator (syntax.declared n) p) h = named_complete g n p h
  declarator_of g (declarator (syntax.group d) p) h = group_complete g d p h.0 (declarator_of g d h.1)
  declarator_of g (declarator (syntax.pointer ks d) p) h = pointer_complete g ks d p h.0 (declarator_of g d h.1)
  declarator_of g (declarator (syntax.array d e) p) h = array_by g (declarator (syntax.array d e) p) d (maybe_tokens [] e) (bare_maybe e) refl (append_assoc (declarator_tokens d) (kinds.Mark puncts.LeftBracket ∷ maybe_tokens [] e) (kinds.Mark puncts.RightBracket ∷ [])) refl refl refl h.0 (declarator_of g d h.1) (length_of g e h.2) (is_absent d) refl
  declarator_of g (declarator (syntax.function d ps dots) p) h =
      let same : ((declarator_tokens d ++ kinds.Mark puncts.LeftParenthesis ∷ params_tokens [] ps) ++ dots_tokens dots) ++ kinds.Mark puncts.RightParenthesis ∷ [] ≡ declarator_tokens d ++ kinds.Mark puncts.LeftParenthesis ∷ ((params_tokens [] ps ++ dots_tokens dots) ++ kinds.Mark puncts.RightParenthesis ∷ []) = simp append_assoc refl in
      function_by g (declarator (syntax.function d ps dots) p) d (params_tokens [] ps ++ dots_tokens dots) (bare_params ps, dots) refl same refl refl refl h.0 (declarator_of g d h.1) (parameters_of g ps dots h.2 h.3) (is_absent d) refl

  parameters_of : (g : Context) (ps : Params) (dots : Bool) → (dots ≡ true → has_params ps ≡ true) → AreLevelledParams (scope_of g) ps → Parametrising g (params_tokens [] ps ++ dots_tokens dots) (bare_params ps, dots)
  parameters_of g no_params true e h = absurd (let f = e refl in cc)
  parameters_of g no_params false e h = no_parameters g
  parameters_of g (next_param p ps) dots e h =
      let same : param_tokens p ++ (params_tokens (kinds.Mark puncts.Comma ∷ []) ps ++ dots_tokens dots) ≡ (param_tokens p ++ params_tokens (kinds.Mark puncts.Comma ∷ []) ps) ++ dots_tokens dots = sym (append_assoc (param_tokens p) (params_tokens (kinds.Mark puncts.Comma ∷ []) ps) (dots_tokens dots)) in
      subst (λ v. Parametrising g v (bare_params (next_param p ps), dots)) same (some_parameters g (param_tokens p) (params_tokens (kinds.Mark puncts.Comma ∷ []) ps ++ dots_tokens dots) (bare_param p) (bare_params ps, dots) (parameter_of g p h.0) (more_parameters_of g ps dots h.1))

  more_parameters_of : (g : Context) (ps : Params) (dots : Bool) → AreLevelledParams (scope_of g) ps → MoreParameters g (params_tokens (kinds.Mark puncts.Comma ∷ []) ps ++ dots_tokens dots) (bare_params ps, dots)
  more_parameters_of g no_params true h = dots_behind g
  more_parameters_of g no_params false h = no_more_parameters g
  more_parameters_of g (next_param p ps) dots h =
      let same : kinds.Mark puncts.Comma ∷ (param_tokens p ++ (params_tokens (kinds.Mark puncts.Comma ∷ []) ps ++ dots_tokens dots)) ≡ kinds.Mark puncts.Comma ∷ ((param_tokens p ++ params_tokens (kinds.Mark puncts.Comma ∷ []) ps) ++ dots_tokens dots) = ap (λ v. kinds.Mark puncts.Comma ∷ v) (sym (append_assoc (param_tokens p) (params_tokens (kinds.Mark puncts.Comma ∷ []) ps) (dots_tokens dots))) in
      subst (λ v. MoreParameters g v (bare_params (next_param p ps), dots)) same (one_more_parameter g (param_tokens p) (params_tokens (kinds.Mark puncts.Comma ∷ []) ps ++ dots_tokens dots) (bare_param p) (bare_params ps, dots) (parameter_of g p h.0) (more_parameters_of g ps dots h.1))

  parameter_of : (g : Context) (p : Param) → IsLevelledParam (scope_of g) p → Parameter g (param_tokens p) (bare_param p)
  parameter_of g (param ss d) h = parameter_complete g ss d (specifiers_of g ss h.2 0 [] (of_list ss h.0)) (from_nothing g true ss h.0 (λ e. absurd cc) h.1) (declarator_of g d h.3)
