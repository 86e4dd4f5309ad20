-- How deep the answers to each ask of C90's grammar are, and which token takes a tree past a depth.
--
-- The depth is that of the trees (specs/Depth.antt of sp_parse_trees). At each token `least` counts what must follow: an operand
-- behind an operator, an expression behind `(`, a declarator behind `*`. A chain deepens from the left, so its least depth with
-- one operator more is one more than that of its left part.
use Rattle.std.specs.Prelude.{ℕ, zero, suc, ◌+◌, max, Option, Some, if◌then◌else◌}
use Rattle.sp_parse_trees.specs.Depth as deep
use Rattle.sp_parse_trees.specs.Depth.{specifiers_depth}
use Rattle.sp_parse_trees.specs.View as view
use Rattle.sp_parse_grammar.specs.CTokens as tokens
use Rattle.sp_parse_grammar.specs.CTokens.{Sort, Seen, add, view as viewed}
use Rattle.sp_parse_grammar.specs.CTrees.{TokenOf}
use Rattle.sp_parse_grammar.specs.CTable as grammar
use Rattle.sp_parse_grammar.specs.CTable.{Context, Item, ItemAnswer, Ask, Answer, at, unit, whole, c_symbols, stands_behind}
use Rattle.sp_parse_grammar.specs.Depth.{Depths}
use Rattle.sp_parse_tokens.specs.Makers as make
use Rattle.sp_parse_tokens.specs.SyntaxTrees.{syntax_trees}

abbrev pub Part : Type 0
Part = Item syntax_trees

abbrev pub item_depth : (i : Part) → ItemAnswer i → ℕ
item_depth (grammar.level k) o = deep.depth o.tree
item_depth (grammar.after k l) o = deep.depth o.tree
item_depth (grammar.tail k l) o = deep.depth o.tree
item_depth (grammar.behind_open x) o = deep.depth o.tree
item_depth grammar.unary e = deep.depth e
item_depth grammar.primary e = deep.depth e
item_depth grammar.arguments es = deep.expressions_depth (view.expressions es)
item_depth (grammar.behind_sizeof x) e = deep.depth e
item_depth (grammar.inside_sizeof x y) e = deep.depth e
item_depth (grammar.texts xs) ys = 0
item_depth (grammar.suffixes f) e = deep.depth e
item_depth (grammar.more_arguments fs) es = deep.expressions_depth (view.expressions es)
item_depth grammar.type_name n = deep.type_name_depth n.tree
item_depth grammar.optional_specifiers sp = specifiers_depth (make.all_specifiers sp.all)
item_depth (grammar.specifiers stores seen s) sp = specifiers_depth (make.all_specifiers sp.all)
item_depth (grammar.behind_struct x) s = deep.specifier_depth s.tree
item_depth (grammar.behind_enum x) s = deep.specifier_depth s.tree
item_depth (grammar.struct_body x y) s = deep.specifier_depth s.tree
item_depth (grammar.enum_body x y) s = deep.specifier_depth s.tree
item_depth grammar.member d = deep.declaration_depth d
item_depth grammar.enumerator e = deep.maybe_depth (view.maybe_expression e.value)
item_depth grammar.value_of v = deep.maybe_depth (view.maybe_expression v)
item_depth (grammar.members es) ds = deep.declarations_depth (view.declarations ds)
item_depth (grammar.member_items js) is = deep.items_depth (make.all_items is.all)
item_depth (grammar.enumerators fs) es = deep.enumerators_depth (make.all_enumerators es)
item_depth (grammar.qualifiers xs) ys = 0
item_depth (grammar.declarator f) d = deep.declarator_depth d.tree
item_depth (grammar.direct f) d = deep.declarator_depth d.tree
item_depth (grammar.group f) d = deep.declarator_depth d.tree
item_depth (grammar.behind_group f x) d = deep.declarator_depth d.tree
item_depth (grammar.declarator_suffixes e) d = deep.declarator_depth d.tree
item_depth grammar.array_length v = deep.maybe_depth (view.maybe_expression v)
item_depth grammar.parameters ps = deep.params_depth (view.params ps.all)
item_depth grammar.parameter p = deep.param_depth p.tree
item_depth (grammar.more_parameters qs) ps = deep.params_depth (view.params ps.all)
item_depth (grammar.behind_comma c qs) ps = deep.params_depth (view.params ps.all)
item_depth grammar.init i = deep.init_depth i
item_depth (grammar.inits js) is = deep.inits_depth (view.inits is.all)
item_depth (grammar.behind_init_comma js) is = deep.inits_depth (view.inits is.all)
item_depth grammar.declaration d = deep.declaration_depth d
item_depth grammar.items is = deep.items_depth (make.all_items is.all)
item_depth grammar.item is = deep.items_depth (make.all_items is.all)
item_depth grammar.initial v = deep.maybe_init_depth (make.some_init v)
item_depth (grammar.declarations es) ds = deep.declarations_depth (view.declarations ds)
item_depth (grammar.more_items js) is = deep.items_depth (make.all_items is.all)
item_depth grammar.statement s = deep.statement_depth s
item_depth grammar.else_part s = deep.else_depth (make.some_statement s)
item_depth grammar.optional_expression v = deep.maybe_depth (view.maybe_expression v)
item_depth (grammar.behind_name x) s = deep.statement_depth s
item_depth (grammar.statements ts) ss = deep.statements_depth (make.all_statements ss)
item_depth grammar.external e = deep.external_depth e.tree
item_depth (grammar.external_items sp) e = deep.external_depth e.tree
item_depth (grammar.behind_declarator sp d) e = deep.external_depth e.tree

-- the least depth of an answer to the ask
abbrev pub item_low : Part → ℕ
item_low (grammar.level k) = 1
item_low (grammar.after k l) = deep.depth l.tree
item_low (grammar.tail k l) = deep.depth l.tree
item_low (grammar.behind_open x) = 2
item_low grammar.unary = 1
item_low grammar.primary = 1
item_low (grammar.behind_sizeof x) = 2
item_low (grammar.inside_sizeof x y) = 2
item_low (grammar.suffixes f) = deep.depth f
item_low (grammar.more_arguments es) = deep.expressions_depth (view.expressions es)
item_low grammar.type_name = 1
item_low (grammar.specifiers stores seen sp) = specifiers_depth (make.all_specifiers sp.all)
item_low (grammar.behind_struct x) = 1
item_low (grammar.struct_body x y) = 1
item_low grammar.member = 1
item_low (grammar.members ds) = deep.declarations_depth (view.declarations ds)
item_low (grammar.member_items is) = deep.items_depth (make.all_items is.all)
item_low (grammar.enumerators es) = deep.enumerators_depth (make.all_enumerators es)
item_low (grammar.declarator f) = 1
item_low (grammar.direct f) = 1
item_low (grammar.group f) = 1
item_low (grammar.behind_group f x) = 2
item_low (grammar.declarator_suffixes d) = deep.declarator_depth d.tree
item_low grammar.parameter = 1
item_low (grammar.more_parameters ps) = deep.params_depth (view.params ps.all)
item_low (grammar.behind_comma c ps) = deep.params_depth (view.params ps.all)
item_low grammar.init = 2
item_low (grammar.inits is) = deep.inits_depth (view.inits is)
item_low (grammar.behind_init_comma is) = deep.inits_depth (view.inits is)
item_low grammar.item = 1
item_low (grammar.declarations ds) = deep.declarations_depth (view.declarations ds)
item_low (grammar.more_items is) = deep.items_depth (make.all_items is.all)
item_low grammar.statement = 1
item_low (grammar.behind_name x) = 2
item_low (grammar.statements ss) = deep.statements_depth (make.all_statements ss)
item_low (grammar.external_items sp) = specifiers_depth (make.all_specifiers sp.all)
item_low (grammar.behind_declarator sp d) = max (specifiers_depth (make.all_specifiers sp.all)) (deep.declarator_depth d.tree)
item_low _ = 0

-- ---- the least depth of an answer that begins with a token

-- an operand before its operator, or a name, a constant or a text
abbrev pub operand_least : Sort → ℕ
operand_least (tokens.mark tokens.step) = 2
operand_least (tokens.mark tokens.star) = 2
operand_least (tokens.mark tokens.ampersand) = 2
operand_least (tokens.mark tokens.additive) = 2
operand_least (tokens.mark tokens.tilde) = 2
operand_least (tokens.mark tokens.sizeof) = 2
operand_least _ = 1

abbrev pub primary_least : Sort → ℕ
primary_least (tokens.mark tokens.opening) = 2
primary_least _ = 1

-- what goes on with this token is one deeper
abbrev pub suffix_least : ℕ → Sort → ℕ
suffix_least d (tokens.mark tokens.bracket) = 1 + d
suffix_least d (tokens.mark tokens.opening) = 1 + d
suffix_least d (tokens.mark tokens.member) = 1 + d
suffix_least d (tokens.mark tokens.step) = 1 + d
suffix_least d _ = d

-- a structure, where it may stand
abbrev pub specifiers_least : ℕ → Sort → Option Seen → ℕ
specifiers_least d (tokens.mark tokens.struct) (Some new) = max d 1
specifiers_least d _ _ = d

abbrev pub members_least : Sort → ℕ
members_least (tokens.mark tokens.brace) = 2
members_least _ = 1

abbrev pub declarator_least : Sort → ℕ
declarator_least (tokens.mark tokens.star) = 2
declarator_least _ = 1

abbrev pub direct_least : Sort → ℕ
direct_least (tokens.mark tokens.opening) = 2
direct_least _ = 1

abbrev pub group_least : Sort → ℕ
group_least (tokens.mark tokens.star) = 2
group_least (tokens.mark tokens.opening) = 2
group_least (tokens.mark tokens.bracket) = 2
group_least _ = 1

abbrev pub parts_least : ℕ → Sort → ℕ
parts_least d (tokens.mark tokens.bracket) = 1 + d
parts_least d (tokens.mark tokens.opening) = 1 + d
parts_least d _ = d

abbrev pub init_least : Sort → ℕ
init_least (tokens.mark tokens.brace) = 3
init_least _ = 2

-- at this mark at least so much
abbrev pub at_mark : tokens.Mark → ℕ → ℕ → Sort → ℕ
at_mark m d e s = if tokens.is_mark m s then d else e

-- a statement that may stand alone, or one with a part
abbrev pub statement_least : Sort → ℕ
statement_least (tokens.mark tokens.semicolon) = 1
statement_least (tokens.mark tokens.brace) = 1
statement_least (tokens.mark tokens.goto) = 1
statement_least (tokens.mark tokens.continue) = 1
statement_least (tokens.mark tokens.break) = 1
statement_least (tokens.mark tokens.return) = 1
statement_least _ = 2

abbrev pub item_least : Context → Part → Sort → ℕ
item_least g (grammar.level zero) s = primary_least s
item_least g (grammar.level (suc k)) s = 1
item_least g (grammar.after k l) s = if stands_behind k l.unary s then 1 + deep.depth l.tree else deep.depth l.tree
item_least g grammar.unary s = operand_least s
item_least g grammar.primary s = primary_least s
item_least g (grammar.suffixes f) s = suffix_least (deep.depth f) s
item_least g (grammar.specifiers stores seen sp) s = specifiers_least (specifiers_depth (make.all_specifiers sp.all)) s (add stores g.inside seen s)
item_least g (grammar.behind_struct x) s = members_least s
item_least g (grammar.struct_body x y) s = members_least s
item_least g grammar.value_of s = at_mark tokens.equal 1 0 s
item_least g (grammar.member_items is) s = at_mark tokens.comma (max (deep.items_depth (make.all_items is.all)) 1) (deep.items_depth (make.all_items is.all)) s
item_least g (grammar.declarator f) s = declarator_least s
item_least g (grammar.direct f) s = direct_least s
item_least g (grammar.group f) s = group_least s
item_least g (grammar.declarator_suffixes d) s = parts_least (deep.declarator_depth d.tree) s
item_least g grammar.init s = init_least s
item_least g grammar.initial s = at_mark tokens.equal 2 0 s
item_least g (grammar.more_items is) s = at_mark tokens.comma (max (deep.items_depth (make.all_items is.all)) 1) (deep.items_depth (make.all_items is.all)) s
item_least g grammar.statement s = statement_least s
item_least g grammar.else_part s = at_mark tokens.else_word 1 0 s
item_least g (grammar.behind_declarator sp d) s = max (specifiers_depth (make.all_specifiers sp.all)) (deep.declarator_depth d.tree)
item_least g i s = item_low i

-- ---- how much deeper than its part an answer is

abbrev pub below_unary : Part → ℕ
below_unary (grammar.level k) = 1
below_unary grammar.unary = 1
below_unary _ = 0

abbrev pub below_operator : Part → ℕ
below_operator (grammar.level k) = 1
below_operator _ = 0

abbrev pub below_suffix : Part → ℕ
below_suffix (grammar.suffixes f) = 0
below_suffix _ = 1

abbrev pub below_sizeof : Part → ℕ
below_sizeof (grammar.level k) = 2
below_sizeof _ = 1

abbrev pub below_structure : Part → ℕ
below_structure (grammar.struct_body x y) = 0
below_structure _ = 1

abbrev pub below_declarator : Part → ℕ
below_declarator (grammar.declarator f) = 1
below_declarator grammar.array_length = 1
below_declarator _ = 0

abbrev pub below_parts : Part → ℕ
below_parts (grammar.declarator_suffixes d) = 0
below_parts _ = 1

abbrev pub below_statement : Part → ℕ
below_statement (grammar.behind_name x) = 0
below_statement _ = 1

abbrev pub below_definition : Part → ℕ
below_definition (grammar.declarations ds) = 1
below_definition (grammar.statements ss) = 1
below_definition _ = 0

abbrev pub item_down : Part → Part → ℕ
item_down (grammar.after k l) i = below_operator i
item_down (grammar.behind_open x) i = below_suffix i
item_down grammar.unary i = below_unary i
item_down grammar.primary i = below_operator i
item_down (grammar.behind_sizeof x) i = below_unary i
item_down (grammar.inside_sizeof x y) i = below_sizeof i
item_down (grammar.suffixes f) i = below_suffix i
item_down (grammar.behind_struct x) i = below_structure i
item_down (grammar.struct_body x y) i = 1
item_down (grammar.declarator f) i = below_declarator i
item_down (grammar.group f) i = below_declarator i
item_down (grammar.behind_group f x) i = 1
item_down (grammar.declarator_suffixes d) i = below_parts i
item_down grammar.init i = 1
item_down grammar.statement i = below_statement i
item_down (grammar.behind_name x) i = 1
item_down (grammar.behind_declarator sp d) i = below_definition i
item_down _ i = 0

abbrev pub depth : (n : Ask syntax_trees) → Answer n → ℕ
depth (at g i) a = item_depth i a
depth (unit types) es = deep.unit_depth es
depth whole es = deep.unit_depth es

abbrev pub low : Ask syntax_trees → ℕ
low (at g i) = item_low i
low _ = 0

abbrev pub least : Ask syntax_trees → TokenOf syntax_trees → ℕ
least (at g i) x = item_least g i (viewed g.types x.sort)
least _ x = 0

abbrev pub down : Ask syntax_trees → Ask syntax_trees → ℕ
down (at g i) (at h j) = item_down i j
down _ _ = 0

abbrev pub c_depths : Depths (c_symbols syntax_trees)
c_depths = record { depth = depth; low = low; least = least; down = down }
