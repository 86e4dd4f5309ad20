-- The goals of the readers; their proofs stand in files of their own.
mod Operators
mod Operands
mod Declarators
mod Parameters
mod Specifiers
mod Lists
use Rattle.sp_parse_expr_reader.proofs.+reader.Answers.Operators as read_operators
use Rattle.sp_parse_expr_reader.proofs.+reader.Answers.Operands as read_operands
use Rattle.sp_parse_expr_reader.proofs.+reader.Answers.Declarators as read_declarators
use Rattle.sp_parse_expr_reader.proofs.+reader.Answers.Parameters as read_parameters
use Rattle.sp_parse_expr_reader.proofs.+reader.Answers.Specifiers as read_specifiers
use Rattle.sp_parse_expr_reader.proofs.+reader.Answers.Lists as read_lists
use Rattle.sp_parse_expr_reader.proofs.+reader.Goals as goal

pub expressions::read_level-returns-in_err-part : goal.expressions::read_level-returns-in_err-part
expressions::read_level-returns-in_err-part = read_operators.expressions::read_level-returns-in_err-part

pub expressions::read_level-returns-in_err-part-2 : goal.expressions::read_level-returns-in_err-part-2
expressions::read_level-returns-in_err-part-2 = read_operators.expressions::read_level-returns-in_err-part-2

pub expressions::read_level-levels-preserved : goal.expressions::read_level-levels-preserved
expressions::read_level-levels-preserved = read_operators.expressions::read_level-levels-preserved

pub expressions::read_operators-returns-then-reached-depth : goal.expressions::read_operators-returns-then-reached-depth
expressions::read_operators-returns-then-reached-depth = read_operators.expressions::read_operators-returns-then-reached-depth

pub expressions::read_operators-returns-in_err-right : goal.expressions::read_operators-returns-in_err-right
expressions::read_operators-returns-in_err-right = read_operators.expressions::read_operators-returns-in_err-right

pub expressions::read_operators-operators-preserved : goal.expressions::read_operators-operators-preserved
expressions::read_operators-operators-preserved = read_operators.expressions::read_operators-operators-preserved

pub expressions::read_operators-returns : goal.expressions::read_operators-returns
expressions::read_operators-returns = read_operators.expressions::read_operators-returns

pub expressions::read_cast-returns-then-depth-lt2 : goal.expressions::read_cast-returns-then-depth-lt2
expressions::read_cast-returns-then-depth-lt2 = read_operators.expressions::read_cast-returns-then-depth-lt2

pub expressions::read_cast-unary_operand-requires : goal.expressions::read_cast-unary_operand-requires
expressions::read_cast-unary_operand-requires = read_operators.expressions::read_cast-unary_operand-requires

pub expressions::read_cast-grouped_operand-requires : goal.expressions::read_cast-grouped_operand-requires
expressions::read_cast-grouped_operand-requires = read_operators.expressions::read_cast-grouped_operand-requires

pub expressions::read_cast-returns-then-not-is_specifier : goal.expressions::read_cast-returns-then-not-is_specifier
expressions::read_cast-returns-then-not-is_specifier = read_operators.expressions::read_cast-returns-then-not-is_specifier

pub expressions::read_cast-until_target-requires : goal.expressions::read_cast-until_target-requires
expressions::read_cast-until_target-requires = read_operators.expressions::read_cast-until_target-requires

pub expressions::read_cast-returns-in_err-target : goal.expressions::read_cast-returns-in_err-target
expressions::read_cast-returns-in_err-target = read_operators.expressions::read_cast-returns-in_err-target

pub expressions::read_cast-converted-requires : goal.expressions::read_cast-converted-requires
expressions::read_cast-converted-requires = read_operators.expressions::read_cast-converted-requires

pub expressions::read_cast-returns : goal.expressions::read_cast-returns
expressions::read_cast-returns = read_operators.expressions::read_cast-returns

pub expressions::read_grouped-closed_group-requires : goal.expressions::read_grouped-closed_group-requires
expressions::read_grouped-closed_group-requires = read_operators.expressions::read_grouped-closed_group-requires

pub expressions::read_grouped-returns-in_err-group : goal.expressions::read_grouped-returns-in_err-group
expressions::read_grouped-returns-in_err-group = read_operators.expressions::read_grouped-returns-in_err-group

pub expressions::read_grouped-read_suffixes-requires : goal.expressions::read_grouped-read_suffixes-requires
expressions::read_grouped-read_suffixes-requires = read_operators.expressions::read_grouped-read_suffixes-requires

pub expressions::read_grouped-returns : goal.expressions::read_grouped-returns
expressions::read_grouped-returns = read_operators.expressions::read_grouped-returns

pub expressions::read_right_operand-returns-then-not-continues_level : goal.expressions::read_right_operand-returns-then-not-continues_level
expressions::read_right_operand-returns-then-not-continues_level = read_operators.expressions::read_right_operand-returns-then-not-continues_level

pub expressions::read_right_operand-returns-then-inner-depth : goal.expressions::read_right_operand-returns-then-inner-depth
expressions::read_right_operand-returns-then-inner-depth = read_operators.expressions::read_right_operand-returns-then-inner-depth

pub expressions::read_suffixes-returns-then-part-depth : goal.expressions::read_suffixes-returns-then-part-depth
expressions::read_suffixes-returns-then-part-depth = read_operands.expressions::read_suffixes-returns-then-part-depth

pub expressions::read_suffixes-returns : goal.expressions::read_suffixes-returns
expressions::read_suffixes-returns = read_operands.expressions::read_suffixes-returns

pub expressions::read_suffix-returns : goal.expressions::read_suffix-returns
expressions::read_suffix-returns = read_operands.expressions::read_suffix-returns

pub expressions::read_unary-returns-then-begins_nested : goal.expressions::read_unary-returns-then-begins_nested
expressions::read_unary-returns-then-begins_nested = read_operands.expressions::read_unary-returns-then-begins_nested

pub expressions::read_unary-returns-then-is_mark : goal.expressions::read_unary-returns-then-is_mark
expressions::read_unary-returns-then-is_mark = read_operands.expressions::read_unary-returns-then-is_mark

pub expressions::read_unary-returns-then-is_mark-2 : goal.expressions::read_unary-returns-then-is_mark-2
expressions::read_unary-returns-then-is_mark-2 = read_operands.expressions::read_unary-returns-then-is_mark-2

pub expressions::read_unary-returns-in_err-part : goal.expressions::read_unary-returns-in_err-part
expressions::read_unary-returns-in_err-part = read_operands.expressions::read_unary-returns-in_err-part

pub expressions::read_unary-returns : goal.expressions::read_unary-returns
expressions::read_unary-returns = read_operands.expressions::read_unary-returns

pub expressions::read_suffix-indexed-requires : goal.expressions::read_suffix-indexed-requires
expressions::read_suffix-indexed-requires = read_operands.expressions::read_suffix-indexed-requires

pub expressions::read_suffix-called-requires : goal.expressions::read_suffix-called-requires
expressions::read_suffix-called-requires = read_operands.expressions::read_suffix-called-requires

pub expressions::read_unary-prefixed_unary-requires : goal.expressions::read_unary-prefixed_unary-requires
expressions::read_unary-prefixed_unary-requires = read_operands.expressions::read_unary-prefixed_unary-requires

pub expressions::read_unary-returns-then-is_mark-3 : goal.expressions::read_unary-returns-then-is_mark-3
expressions::read_unary-returns-then-is_mark-3 = read_operands.expressions::read_unary-returns-then-is_mark-3

pub expressions::read_unary-prefixed-requires : goal.expressions::read_unary-prefixed-requires
expressions::read_unary-prefixed-requires = read_operands.expressions::read_unary-prefixed-requires

pub expressions::read_unary-returns-then-is_prefix : goal.expressions::read_unary-returns-then-is_prefix
expressions::read_unary-returns-then-is_prefix = read_operands.expressions::read_unary-returns-then-is_prefix

pub expressions::read_after_sizeof-measured-requires : goal.expressions::read_after_sizeof-measured-requires
expressions::read_after_sizeof-measured-requires = read_operands.expressions::read_after_sizeof-measured-requires

pub expressions::read_after_sizeof-measured_group-requires : goal.expressions::read_after_sizeof-measured_group-requires
expressions::read_after_sizeof-measured_group-requires = read_operands.expressions::read_after_sizeof-measured_group-requires

pub expressions::read_after_sizeof-returns-then-not-is_specifier : goal.expressions::read_after_sizeof-returns-then-not-is_specifier
expressions::read_after_sizeof-returns-then-not-is_specifier = read_operands.expressions::read_after_sizeof-returns-then-not-is_specifier

pub expressions::read_after_sizeof-measured_type-requires : goal.expressions::read_after_sizeof-measured_type-requires
expressions::read_after_sizeof-measured_type-requires = read_operands.expressions::read_after_sizeof-measured_type-requires

pub expressions::read_after_sizeof-returns : goal.expressions::read_after_sizeof-returns
expressions::read_after_sizeof-returns = read_operands.expressions::read_after_sizeof-returns

pub declarators::read_type_name-returns-in_err-specifiers : goal.declarators::read_type_name-returns-in_err-specifiers
declarators::read_type_name-returns-in_err-specifiers = read_declarators.declarators::read_type_name-returns-in_err-specifiers

pub declarators::read_group-returns-then-begins_deeper : goal.declarators::read_group-returns-then-begins_deeper
declarators::read_group-returns-then-begins_deeper = read_declarators.declarators::read_group-returns-then-begins_deeper

pub declarators::read_group-returns-then-is_mark : goal.declarators::read_group-returns-then-is_mark
declarators::read_group-returns-then-is_mark = read_declarators.declarators::read_group-returns-then-is_mark

pub declarators::read_group-returns-in_err-head : goal.declarators::read_group-returns-in_err-head
declarators::read_group-returns-in_err-head = read_declarators.declarators::read_group-returns-in_err-head

pub declarators::read_group-returns-then-is_mark-2 : goal.declarators::read_group-returns-then-is_mark-2
declarators::read_group-returns-then-is_mark-2 = read_declarators.declarators::read_group-returns-then-is_mark-2

pub declarators::read_group-returns-in-Some : goal.declarators::read_group-returns-in-Some
declarators::read_group-returns-in-Some = read_declarators.declarators::read_group-returns-in-Some

pub declarators::read_group-returns-in_err-part : goal.declarators::read_group-returns-in_err-part
declarators::read_group-returns-in_err-part = read_declarators.declarators::read_group-returns-in_err-part

pub declarators::read_group-returns-then-begins_array : goal.declarators::read_group-returns-then-begins_array
declarators::read_group-returns-then-begins_array = read_declarators.declarators::read_group-returns-then-begins_array

pub declarators::read_group-returns : goal.declarators::read_group-returns
declarators::read_group-returns = read_declarators.declarators::read_group-returns

pub declarators::read_declarator_suffixes-returns-then-part-depth : goal.declarators::read_declarator_suffixes-returns-then-part-depth
declarators::read_declarator_suffixes-returns-then-part-depth = read_declarators.declarators::read_declarator_suffixes-returns-then-part-depth

pub declarators::read_declarator_suffixes-returns-in_err-part : goal.declarators::read_declarator_suffixes-returns-in_err-part
declarators::read_declarator_suffixes-returns-in_err-part = read_declarators.declarators::read_declarator_suffixes-returns-in_err-part

pub declarators::read_declarator_suffixes-suffixes-smaller : goal.declarators::read_declarator_suffixes-suffixes-smaller
declarators::read_declarator_suffixes-suffixes-smaller = read_declarators.declarators::read_declarator_suffixes-suffixes-smaller

pub declarators::read_declarator_suffixes-suffixes-preserved : goal.declarators::read_declarator_suffixes-suffixes-preserved
declarators::read_declarator_suffixes-suffixes-preserved = read_declarators.declarators::read_declarator_suffixes-suffixes-preserved

pub declarators::read_declarator_suffixes-returns : goal.declarators::read_declarator_suffixes-returns
declarators::read_declarator_suffixes-returns = read_declarators.declarators::read_declarator_suffixes-returns

pub declarators::read_group-read_declarator_suffixes-requires : goal.declarators::read_group-read_declarator_suffixes-requires
declarators::read_group-read_declarator_suffixes-requires = read_declarators.declarators::read_group-read_declarator_suffixes-requires

pub declarators::read_group-read_declarator_suffixes-requires-in-Some : goal.declarators::read_group-read_declarator_suffixes-requires-in-Some
declarators::read_group-read_declarator_suffixes-requires-in-Some = read_declarators.declarators::read_group-read_declarator_suffixes-requires-in-Some

pub declarators::read_group-read_declarator_suffixes-requires-then-begins_array : goal.declarators::read_group-read_declarator_suffixes-requires-then-begins_array
declarators::read_group-read_declarator_suffixes-requires-then-begins_array = read_declarators.declarators::read_group-read_declarator_suffixes-requires-then-begins_array

pub declarators::read_declarator-returns-then-begins_inner : goal.declarators::read_declarator-returns-then-begins_inner
declarators::read_declarator-returns-then-begins_inner = read_declarators.declarators::read_declarator-returns-then-begins_inner

pub declarators::read_declarator-returns-then-is_mark : goal.declarators::read_declarator-returns-then-is_mark
declarators::read_declarator-returns-then-is_mark = read_declarators.declarators::read_declarator-returns-then-is_mark

pub declarators::read_declarator-returns-in_err-head : goal.declarators::read_declarator-returns-in_err-head
declarators::read_declarator-returns-in_err-head = read_declarators.declarators::read_declarator-returns-in_err-head

pub declarators::read_declarator-returns-then-is_mark-2 : goal.declarators::read_declarator-returns-then-is_mark-2
declarators::read_declarator-returns-then-is_mark-2 = read_declarators.declarators::read_declarator-returns-then-is_mark-2

pub declarators::read_declarator-returns-in_err-head-2 : goal.declarators::read_declarator-returns-in_err-head-2
declarators::read_declarator-returns-in_err-head-2 = read_declarators.declarators::read_declarator-returns-in_err-head-2

pub declarators::read_declarator-returns : goal.declarators::read_declarator-returns
declarators::read_declarator-returns = read_declarators.declarators::read_declarator-returns

pub declarators::read_declarator-read_declarator_suffixes-requires : goal.declarators::read_declarator-read_declarator_suffixes-requires
declarators::read_declarator-read_declarator_suffixes-requires = read_declarators.declarators::read_declarator-read_declarator_suffixes-requires

pub declarators::read_declarator-read_declarator_suffixes-requires-2 : goal.declarators::read_declarator-read_declarator_suffixes-requires-2
declarators::read_declarator-read_declarator_suffixes-requires-2 = read_declarators.declarators::read_declarator-read_declarator_suffixes-requires-2

pub declarators::read_declarator_after_paren-absent_function-requires : goal.declarators::read_declarator_after_paren-absent_function-requires
declarators::read_declarator_after_paren-absent_function-requires = read_declarators.declarators::read_declarator_after_paren-absent_function-requires

pub declarators::read_declarator_after_paren-enclosed-requires : goal.declarators::read_declarator_after_paren-enclosed-requires
declarators::read_declarator_after_paren-enclosed-requires = read_declarators.declarators::read_declarator_after_paren-enclosed-requires

pub declarators::read_type_name-type_named-requires : goal.declarators::read_type_name-type_named-requires
declarators::read_type_name-type_named-requires = read_declarators.declarators::read_type_name-type_named-requires

pub declarators::read_pointer-pointing-requires : goal.declarators::read_pointer-pointing-requires
declarators::read_pointer-pointing-requires = read_declarators.declarators::read_pointer-pointing-requires

pub declarators::read_length-returns-then-not-begins_expression : goal.declarators::read_length-returns-then-not-begins_expression
declarators::read_length-returns-then-not-begins_expression = read_parameters.declarators::read_length-returns-then-not-begins_expression

pub declarators::read_part-returns-then-is_mark : goal.declarators::read_part-returns-then-is_mark
declarators::read_part-returns-then-is_mark = read_parameters.declarators::read_part-returns-then-is_mark

pub declarators::read_length-given_length-requires : goal.declarators::read_length-given_length-requires
declarators::read_length-given_length-requires = read_parameters.declarators::read_length-given_length-requires

pub declarators::read_part-parametered-requires : goal.declarators::read_part-parametered-requires
declarators::read_part-parametered-requires = read_parameters.declarators::read_part-parametered-requires

pub declarators::read_part-arrayed-requires : goal.declarators::read_part-arrayed-requires
declarators::read_part-arrayed-requires = read_parameters.declarators::read_part-arrayed-requires

pub specifiers::read_specifiers-returns-then-is_too_deep : goal.specifiers::read_specifiers-returns-then-is_too_deep
specifiers::read_specifiers-returns-then-is_too_deep = read_specifiers.specifiers::read_specifiers-returns-then-is_too_deep

pub specifiers::read_specifiers-returns-in_err-next : goal.specifiers::read_specifiers-returns-in_err-next
specifiers::read_specifiers-returns-in_err-next = read_specifiers.specifiers::read_specifiers-returns-in_err-next

pub specifiers::read_specifiers-specifiers-preserved : goal.specifiers::read_specifiers-specifiers-preserved
specifiers::read_specifiers-specifiers-preserved = read_specifiers.specifiers::read_specifiers-specifiers-preserved

pub specifiers::read_specifiers-returns-then-not-is_typed : goal.specifiers::read_specifiers-returns-then-not-is_typed
specifiers::read_specifiers-returns-then-not-is_typed = read_specifiers.specifiers::read_specifiers-returns-then-not-is_typed

pub specifiers::read_specifiers-returns : goal.specifiers::read_specifiers-returns
specifiers::read_specifiers-returns = read_specifiers.specifiers::read_specifiers-returns

pub expressions::read_arguments-read_level-next-requires : goal.expressions::read_arguments-read_level-next-requires
expressions::read_arguments-read_level-next-requires = read_lists.expressions::read_arguments-read_level-next-requires

pub expressions::read_arguments-with_argument-requires : goal.expressions::read_arguments-with_argument-requires
expressions::read_arguments-with_argument-requires = read_lists.expressions::read_arguments-with_argument-requires

pub expressions::read_arguments-returns-in_err-arguments : goal.expressions::read_arguments-returns-in_err-arguments
expressions::read_arguments-returns-in_err-arguments = read_lists.expressions::read_arguments-returns-in_err-arguments

pub expressions::read_arguments-arguments-smaller : goal.expressions::read_arguments-arguments-smaller
expressions::read_arguments-arguments-smaller = read_lists.expressions::read_arguments-arguments-smaller

pub expressions::read_arguments-arguments-preserved : goal.expressions::read_arguments-arguments-preserved
expressions::read_arguments-arguments-preserved = read_lists.expressions::read_arguments-arguments-preserved

pub expressions::read_arguments-returns : goal.expressions::read_arguments-returns
expressions::read_arguments-returns = read_lists.expressions::read_arguments-returns

pub declarators::read_parameters-read_specifiers-specifiers-requires : goal.declarators::read_parameters-read_specifiers-specifiers-requires
declarators::read_parameters-read_specifiers-specifiers-requires = read_lists.declarators::read_parameters-read_specifiers-specifiers-requires

pub declarators::read_parameters-returns-in_err-specifiers : goal.declarators::read_parameters-returns-in_err-specifiers
declarators::read_parameters-returns-in_err-specifiers = read_lists.declarators::read_parameters-returns-in_err-specifiers

pub declarators::read_parameters-read_declarator-declared-requires : goal.declarators::read_parameters-read_declarator-declared-requires
declarators::read_parameters-read_declarator-declared-requires = read_lists.declarators::read_parameters-read_declarator-declared-requires

pub declarators::read_parameters-parameter_named-next-requires : goal.declarators::read_parameters-parameter_named-next-requires
declarators::read_parameters-parameter_named-next-requires = read_lists.declarators::read_parameters-parameter_named-next-requires

pub declarators::read_parameters-with_parameter-requires : goal.declarators::read_parameters-with_parameter-requires
declarators::read_parameters-with_parameter-requires = read_lists.declarators::read_parameters-with_parameter-requires

pub declarators::read_parameters-returns-in_err-parameters : goal.declarators::read_parameters-returns-in_err-parameters
declarators::read_parameters-returns-in_err-parameters = read_lists.declarators::read_parameters-returns-in_err-parameters

pub declarators::read_parameters-parameters-smaller : goal.declarators::read_parameters-parameters-smaller
declarators::read_parameters-parameters-smaller = read_lists.declarators::read_parameters-parameters-smaller

pub declarators::read_parameters-parameters-preserved : goal.declarators::read_parameters-parameters-preserved
declarators::read_parameters-parameters-preserved = read_lists.declarators::read_parameters-parameters-preserved

pub declarators::read_parameters-returns : goal.declarators::read_parameters-returns
declarators::read_parameters-returns = read_lists.declarators::read_parameters-returns

pub specifiers::read_specifier-returns-in_err-head : goal.specifiers::read_specifier-returns-in_err-head
specifiers::read_specifier-returns-in_err-head = read_lists.specifiers::read_specifier-returns-in_err-head

pub specifiers::read_specifier-read_members-requires : goal.specifiers::read_specifier-read_members-requires
specifiers::read_specifier-read_members-requires = read_lists.specifiers::read_specifier-read_members-requires

pub specifiers::read_specifier-read_constants-requires : goal.specifiers::read_specifier-read_constants-requires
specifiers::read_specifier-read_constants-requires = read_lists.specifiers::read_specifier-read_constants-requires

pub specifiers::read_specifier-whole_specifier-requires : goal.specifiers::read_specifier-whole_specifier-requires
specifiers::read_specifier-whole_specifier-requires = read_lists.specifiers::read_specifier-whole_specifier-requires

pub specifiers::read_members-no_members-members-requires : goal.specifiers::read_members-no_members-members-requires
specifiers::read_members-no_members-members-requires = read_lists.specifiers::read_members-no_members-members-requires

pub specifiers::read_members-read_member-next-requires : goal.specifiers::read_members-read_member-next-requires
specifiers::read_members-read_member-next-requires = read_lists.specifiers::read_members-read_member-next-requires

pub specifiers::read_members-with_member-requires : goal.specifiers::read_members-with_member-requires
specifiers::read_members-with_member-requires = read_lists.specifiers::read_members-with_member-requires

pub specifiers::read_members-returns-in_err-members : goal.specifiers::read_members-returns-in_err-members
specifiers::read_members-returns-in_err-members = read_lists.specifiers::read_members-returns-in_err-members

pub specifiers::read_members-members-smaller : goal.specifiers::read_members-members-smaller
specifiers::read_members-members-smaller = read_lists.specifiers::read_members-members-smaller

pub specifiers::read_members-members-preserved : goal.specifiers::read_members-members-preserved
specifiers::read_members-members-preserved = read_lists.specifiers::read_members-members-preserved

pub specifiers::read_members-closed_structure-requires : goal.specifiers::read_members-closed_structure-requires
specifiers::read_members-closed_structure-requires = read_lists.specifiers::read_members-closed_structure-requires

pub specifiers::read_member-returns-in_err-specifiers : goal.specifiers::read_member-returns-in_err-specifiers
specifiers::read_member-returns-in_err-specifiers = read_lists.specifiers::read_member-returns-in_err-specifiers

pub specifiers::read_member-member_of-member-requires : goal.specifiers::read_member-member_of-member-requires
specifiers::read_member-member_of-member-requires = read_lists.specifiers::read_member-member_of-member-requires

pub specifiers::read_member-read_declarator-next-requires : goal.specifiers::read_member-read_declarator-next-requires
specifiers::read_member-read_declarator-next-requires = read_lists.specifiers::read_member-read_declarator-next-requires

pub specifiers::read_member-with_item-requires : goal.specifiers::read_member-with_item-requires
specifiers::read_member-with_item-requires = read_lists.specifiers::read_member-with_item-requires

pub specifiers::read_member-returns-in_err-member : goal.specifiers::read_member-returns-in_err-member
specifiers::read_member-returns-in_err-member = read_lists.specifiers::read_member-returns-in_err-member

pub specifiers::read_member-items-smaller : goal.specifiers::read_member-items-smaller
specifiers::read_member-items-smaller = read_lists.specifiers::read_member-items-smaller

pub specifiers::read_member-items-preserved : goal.specifiers::read_member-items-preserved
specifiers::read_member-items-preserved = read_lists.specifiers::read_member-items-preserved

pub specifiers::read_member-closed_member-requires : goal.specifiers::read_member-closed_member-requires
specifiers::read_member-closed_member-requires = read_lists.specifiers::read_member-closed_member-requires

pub specifiers::read_constants-no_constants-constants-requires : goal.specifiers::read_constants-no_constants-constants-requires
specifiers::read_constants-no_constants-constants-requires = read_lists.specifiers::read_constants-no_constants-constants-requires

pub specifiers::read_constants-read_constant-next-requires : goal.specifiers::read_constants-read_constant-next-requires
specifiers::read_constants-read_constant-next-requires = read_lists.specifiers::read_constants-read_constant-next-requires

pub specifiers::read_constants-with_constant-requires : goal.specifiers::read_constants-with_constant-requires
specifiers::read_constants-with_constant-requires = read_lists.specifiers::read_constants-with_constant-requires

pub specifiers::read_constants-returns-in_err-constants : goal.specifiers::read_constants-returns-in_err-constants
specifiers::read_constants-returns-in_err-constants = read_lists.specifiers::read_constants-returns-in_err-constants

pub specifiers::read_constants-constants-smaller : goal.specifiers::read_constants-constants-smaller
specifiers::read_constants-constants-smaller = read_lists.specifiers::read_constants-constants-smaller

pub specifiers::read_constants-constants-preserved : goal.specifiers::read_constants-constants-preserved
specifiers::read_constants-constants-preserved = read_lists.specifiers::read_constants-constants-preserved

pub specifiers::read_constants-closed_enumeration-requires : goal.specifiers::read_constants-closed_enumeration-requires
specifiers::read_constants-closed_enumeration-requires = read_lists.specifiers::read_constants-closed_enumeration-requires

pub specifiers::read_constant-returns-in_err-constant : goal.specifiers::read_constant-returns-in_err-constant
specifiers::read_constant-returns-in_err-constant = read_lists.specifiers::read_constant-returns-in_err-constant

pub specifiers::read_constant-returns-then-not-constant : goal.specifiers::read_constant-returns-then-not-constant
specifiers::read_constant-returns-then-not-constant = read_lists.specifiers::read_constant-returns-then-not-constant

pub specifiers::read_constant-read_level-value-requires : goal.specifiers::read_constant-read_level-value-requires
specifiers::read_constant-read_level-value-requires = read_lists.specifiers::read_constant-read_level-value-requires

pub specifiers::read_constant-valued-requires : goal.specifiers::read_constant-valued-requires
specifiers::read_constant-valued-requires = read_lists.specifiers::read_constant-valued-requires
