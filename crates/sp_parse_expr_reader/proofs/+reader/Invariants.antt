-- The readers end since each takes a token before it comes back to a looser part. In a loop the part that was read so far stands
-- for all that was read.
use Rattle.std.proofs.Common.{◌≡◌, ◌==◌, ◌+◌, ◌-◌, ◌*◌, ◌≤◌, true, false, length, map}
use Rattle.std.specs.Prelude.{is_some, if◌then◌else◌}
use Rattle.sp_parse_trees.specs.Syntax.{Declarator}
use Rattle.sp_parse_trees.specs.View.{tree_of, specifiers_of, declaration_of, declarator_of}
use Rattle.sp_parse_trees.specs.Depth.{depth as depth_of, specifiers_depth, declarator_depth}
use Rattle.sp_parse_grammar.specs.CTable as grammar
use Rattle.sp_parse_tokens.specs.Makers.{settle, first_place}
use Rattle.sp_parse_tokens.specs.Ended.{IsEnded}
use Rattle.sp_parse_tokens.specs.Scopes.{there}
use Rattle.sp_parse_expr_steps.specs.Reading.{IsRead, IsStep, operand_seen}
use Rattle.sp_parse_expr_steps.specs.Declaring.{declared_seen, constant_seen}
use Rattle.sp_parse_expr_steps.proofs.Lists.{SpecifiersSoFar, SuffixedSoFar}
use Rattle.sp_parse_expr_steps.proofs.StructureSteps.{inner}
use Rattle.sp_parse_expr_lists.specs.Bodies.{HasConstants, HasMembers}
use Rattle.sp_parse_expr_lists.specs.Items.{HasItems}
use Rattle.sp_parse_expr_lists.specs.Given.{HasArguments, HasParameters}
use Rattle.sp_parse_expr_reader.proofs.+reader.Given as goal

abbrev pub decreases-expressions::read_unary : goal.decreases-expressions::read_unary
decreases-expressions::read_unary l = 8 * length l.tokens.now + 1

abbrev pub decreases-expressions::read_cast : goal.decreases-expressions::read_cast
decreases-expressions::read_cast l = 8 * length l.tokens.now + 2

abbrev pub decreases-expressions::read_level : goal.decreases-expressions::read_level
decreases-expressions::read_level l = 8 * length l.tokens.now + 3

abbrev pub decreases-expressions::read_operators : goal.decreases-expressions::read_operators
decreases-expressions::read_operators l = 8 * length l.tokens.now + 1

abbrev pub decreases-expressions::read_arguments : goal.decreases-expressions::read_arguments
decreases-expressions::read_arguments l = 8 * length l.tokens.now + 4

abbrev pub decreases-expressions::read_suffix : goal.decreases-expressions::read_suffix
decreases-expressions::read_suffix l = 8 * length l.tokens.now + 6

abbrev pub decreases-expressions::read_suffixes : goal.decreases-expressions::read_suffixes
decreases-expressions::read_suffixes l = 8 * length l.tokens.now

abbrev pub decreases-expressions::read_after_sizeof : goal.decreases-expressions::read_after_sizeof
decreases-expressions::read_after_sizeof l = 8 * length l.tokens.now + 2

abbrev pub decreases-expressions::read_grouped : goal.decreases-expressions::read_grouped
decreases-expressions::read_grouped l = 8 * length l.tokens.now + 4

abbrev pub decreases-declarators::read_type_name : goal.decreases-declarators::read_type_name
decreases-declarators::read_type_name l = 8 * length l.tokens.now + 2

abbrev pub decreases-declarators::read_declarator : goal.decreases-declarators::read_declarator
decreases-declarators::read_declarator l = 8 * length l.tokens.now + 1

abbrev pub decreases-declarators::read_pointer : goal.decreases-declarators::read_pointer
decreases-declarators::read_pointer l = 8 * length l.tokens.now + 2

abbrev pub decreases-declarators::read_declarator_after_paren : goal.decreases-declarators::read_declarator_after_paren
decreases-declarators::read_declarator_after_paren l = 8 * length l.tokens.now + 4

abbrev pub decreases-declarators::read_group : goal.decreases-declarators::read_group
decreases-declarators::read_group l = 8 * length l.tokens.now

abbrev pub decreases-declarators::read_declarator_suffixes : goal.decreases-declarators::read_declarator_suffixes
decreases-declarators::read_declarator_suffixes l = 8 * length l.tokens.now

abbrev pub decreases-declarators::read_part : goal.decreases-declarators::read_part
decreases-declarators::read_part l = 8 * length l.tokens.now + 6

abbrev pub decreases-declarators::read_length : goal.decreases-declarators::read_length
decreases-declarators::read_length l = 8 * length l.tokens.now + 4

abbrev pub decreases-declarators::read_parameters : goal.decreases-declarators::read_parameters
decreases-declarators::read_parameters l = 8 * length l.tokens.now + 3

abbrev pub decreases-specifiers::read_specifiers : goal.decreases-specifiers::read_specifiers
decreases-specifiers::read_specifiers l = 8 * length l.tokens.now

abbrev pub decreases-specifiers::read_specifier : goal.decreases-specifiers::read_specifier
decreases-specifiers::read_specifier l = 8 * length l.tokens.now + 1

abbrev pub decreases-expressions::read_right_operand : goal.decreases-expressions::read_right_operand
decreases-expressions::read_right_operand l = 8 * length l.tokens.now

abbrev pub decreases-specifiers::read_members : goal.decreases-specifiers::read_members
decreases-specifiers::read_members l = 8 * length l.tokens.now

abbrev pub decreases-specifiers::read_member : goal.decreases-specifiers::read_member
decreases-specifiers::read_member l = 8 * length l.tokens.now + 2

abbrev pub decreases-specifiers::read_constants : goal.decreases-specifiers::read_constants
decreases-specifiers::read_constants l = 8 * length l.tokens.now

abbrev pub decreases-specifiers::read_constant : goal.decreases-specifiers::read_constant
decreases-specifiers::read_constant l = 8 * length l.tokens.now

-- ---- loops

abbrev pub invariant-expressions::read_level-levels : goal.invariant-expressions::read_level-levels
invariant-expressions::read_level-levels l = record {
  part : IsRead (there l.context.types.now l.context.scope) (grammar.level l.reached) l.depth l.fn.tokens (operand_seen l.part.tree) l.part.depth l.part.rest.now;
  below : l.reached ≤ l.level;
  same_level : l.level ≡ l.fn.level;
  same_depth : l.depth ≡ l.fn.depth;
  same_types : l.context.types.now ≡ l.fn.context.types.now;
  same_scope : l.context.scope ≡ l.fn.context.scope;
}

abbrev pub decreases-expressions::read_level-levels : goal.decreases-expressions::read_level-levels
decreases-expressions::read_level-levels l = l.level - l.reached

abbrev pub invariant-expressions::read_operators-operators : goal.invariant-expressions::read_operators-operators
invariant-expressions::read_operators-operators l = record {
  step : IsStep (there l.context.types.now l.context.scope) (grammar.after l.level (operand_seen l.fn.left)) (grammar.after l.level (record { tree = tree_of l.tree; unary = l.unary })) (λ a. a) l.fn.tokens l.rest;
  deep : l.reached ≡ depth_of (tree_of l.tree);
  shallow : l.reached ≤ l.depth;
  ended : IsEnded l.rest;
  fewer : length l.rest ≤ length l.fn.tokens;
  not_assigning : (l.fn.level == 12) ≡ false;
  not_choosing : (l.fn.level == 11) ≡ false;
  same_level : l.level ≡ l.fn.level;
  same_depth : l.depth ≡ l.fn.depth;
  same_types : l.context.types.now ≡ l.fn.context.types.now;
  same_scope : l.context.scope ≡ l.fn.context.scope;
}

abbrev pub decreases-expressions::read_operators-operators : goal.decreases-expressions::read_operators-operators
decreases-expressions::read_operators-operators l = length l.rest

abbrev pub invariant-expressions::read_suffixes-suffixes : goal.invariant-expressions::read_suffixes-suffixes
invariant-expressions::read_suffixes-suffixes l = record {
  step : IsStep (there l.context.types.now l.context.scope) (grammar.suffixes (tree_of l.fn.inner)) (grammar.suffixes (tree_of l.part.tree)) (λ a. a) l.fn.tokens l.part.rest.now;
  deep : l.part.depth ≡ depth_of (tree_of l.part.tree);
  shallow : l.part.depth ≤ l.depth;
  ended : IsEnded l.part.rest.now;
  fewer : length l.part.rest.now ≤ length l.fn.tokens;
  same_depth : l.depth ≡ l.fn.depth;
  same_types : l.context.types.now ≡ l.fn.context.types.now;
  same_scope : l.context.scope ≡ l.fn.context.scope;
}

abbrev pub decreases-expressions::read_suffixes-suffixes : goal.decreases-expressions::read_suffixes-suffixes
decreases-expressions::read_suffixes-suffixes l = length l.part.rest.now

-- ---- loops of specifiers and declarators

abbrev pub invariant-specifiers::read_specifiers-specifiers :
    goal.invariant-specifiers::read_specifiers-specifiers
invariant-specifiers::read_specifiers-specifiers l = record {
  so_far : SpecifiersSoFar (there l.context.types.now l.context.scope) l.fn.stores l.fn.tokens l.all.items l.typedefs l.seen.0 l.rest;
  deep : l.reached ≡ specifiers_depth (specifiers_of l.all.items);
  shallow : l.reached ≤ l.depth;
  ended : IsEnded l.rest;
  fewer : length l.rest ≤ length l.fn.tokens;
  same_stores : l.stores ≡ l.fn.stores;
  same_depth : l.depth ≡ l.fn.depth;
  same_types : l.context.types.now ≡ l.fn.context.types.now;
  same_scope : l.context.scope ≡ l.fn.context.scope;
}

abbrev pub decreases-specifiers::read_specifiers-specifiers :
    goal.decreases-specifiers::read_specifiers-specifiers
decreases-specifiers::read_specifiers-specifiers l = length l.rest

abbrev pub invariant-declarators::read_declarator_suffixes-suffixes :
    goal.invariant-declarators::read_declarator_suffixes-suffixes
invariant-declarators::read_declarator_suffixes-suffixes l = record {
  so_far : (pending : Declarator) → declarator_of l.fn.head.tree ≡ settle (first_place l.fn.tokens) pending → (is_some l.fn.head.declares ≡ true → pending ≡ declarator_of l.fn.head.tree) → SuffixedSoFar (there l.context.types.now l.context.scope) (declared_seen l.fn.head pending) l.fn.tokens l.part.tree l.part.rest.now;
  deep : l.part.depth ≡ declarator_depth (declarator_of l.part.tree.tree);
  shallow : l.part.depth ≤ l.depth;
  ended : IsEnded l.part.rest.now;
  fewer : length l.part.rest.now ≤ length l.fn.tokens;
  same_depth : l.depth ≡ l.fn.depth;
  same_types : l.context.types.now ≡ l.fn.context.types.now;
  same_scope : l.context.scope ≡ l.fn.context.scope;
}

abbrev pub decreases-declarators::read_declarator_suffixes-suffixes :
    goal.decreases-declarators::read_declarator_suffixes-suffixes
decreases-declarators::read_declarator_suffixes-suffixes l = length l.part.rest.now

-- ---- lists

abbrev pub invariant-expressions::read_arguments-arguments : goal.invariant-expressions::read_arguments-arguments
invariant-expressions::read_arguments-arguments l = record {
  so_far : HasArguments (there l.context.types.now l.context.scope) l.depth l.tokens l.arguments.more (map tree_of l.arguments.all.items) l.arguments.depth l.arguments.rest.now;
  same_tokens : l.tokens ≡ l.fn.tokens;
  same_depth : l.depth ≡ l.fn.depth;
  same_types : l.context.types.now ≡ l.fn.context.types.now;
  same_scope : l.context.scope ≡ l.fn.context.scope;
}

abbrev pub decreases-expressions::read_arguments-arguments : goal.decreases-expressions::read_arguments-arguments
decreases-expressions::read_arguments-arguments l = length l.arguments.rest.now

abbrev pub invariant-declarators::read_parameters-parameters :
    goal.invariant-declarators::read_parameters-parameters
invariant-declarators::read_parameters-parameters l = record {
  so_far : HasParameters (there l.context.types.now l.context.scope) l.depth l.tokens l.parameters.given l.parameters.more l.parameters.depth l.parameters.rest.now;
  same_tokens : l.tokens ≡ l.fn.tokens;
  same_depth : l.depth ≡ l.fn.depth;
  same_types : l.context.types.now ≡ l.fn.context.types.now;
  same_scope : l.context.scope ≡ l.fn.context.scope;
}

abbrev pub decreases-declarators::read_parameters-parameters :
    goal.decreases-declarators::read_parameters-parameters
decreases-declarators::read_parameters-parameters l = length l.parameters.rest.now

abbrev pub invariant-specifiers::read_members-members : goal.invariant-specifiers::read_members-members
invariant-specifiers::read_members-members l = record {
  so_far : HasMembers (there l.context.types.now l.context.scope) (inner l.context.scope) l.depth l.head.rest.now l.members.more (map declaration_of l.members.all.items) l.members.depth l.members.rest.now;
}

abbrev pub decreases-specifiers::read_members-members : goal.decreases-specifiers::read_members-members
decreases-specifiers::read_members-members l = length l.members.rest.now

abbrev pub invariant-specifiers::read_member-items : goal.invariant-specifiers::read_member-items
invariant-specifiers::read_member-items l = record {
  so_far : HasItems (there l.context.types.now l.context.scope) l.depth l.tokens l.member.specifiers.tree l.member.specifiers.depth l.member.specifiers.rest.now l.member.more l.member.declarators.all.items l.member.declarators.behind l.member.depth l.member.rest.now;
}

abbrev pub decreases-specifiers::read_member-items : goal.decreases-specifiers::read_member-items
decreases-specifiers::read_member-items l = (if l.member.more then 1 else 0) + length l.member.rest.now

abbrev pub invariant-specifiers::read_constants-constants : goal.invariant-specifiers::read_constants-constants
invariant-specifiers::read_constants-constants l = record {
  so_far : HasConstants (there l.context.types.now l.context.scope) l.context.scope l.depth l.head.rest.now l.constants.more (map constant_seen l.constants.all.items) l.constants.depth l.constants.rest.now;
}

abbrev pub decreases-specifiers::read_constants-constants :
    goal.decreases-specifiers::read_constants-constants
decreases-specifiers::read_constants-constants l = length l.constants.rest.now
