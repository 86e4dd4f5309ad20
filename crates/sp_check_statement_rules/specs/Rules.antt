-- What a statement does once its parts are checked (C90 6.6).
use Rattle.std.specs.Prelude.{ℤ, Bool, true, false, ◌||◌, Option, Some, None, is_some}
use Rattle.sp_tree.specs.declared.fault.FaultKind.TheVariants.{MisplacedJump, BadOperand, NotConvertible, NotAConstant}
use Rattle.sp_tree.specs.declared.fault.Place.{Place}
use Rattle.sp_types.specs.Types.{CType, integer}
use Rattle.sp_types.specs.declared.ctype.IntKind.{IntKind}
use Rattle.sp_types.specs.Typed.{Typed, of}
use Rattle.sp_types.specs.Statements.{TypedStatement, TypedStatementForm, switch_on, continue_loop, break_out}
use Rattle.sp_types.specs.Compatible.{convertible}
use Rattle.sp_base_checked.specs.Answers.{Checked, accepted, and_then, where_met, where_given}
use Rattle.sp_check_operands.specs.Conversions.{is_scalar, converted, promoted}
use Rattle.sp_check_constants.specs.Constants.{constant_of}
use Rattle.sp_check_statement_rules.specs.Cases.{distinct_cases}
use Rattle.sp_check_statement_rules.specs.Values.{as_kind}

-- what stands around a statement: the type that its function returns, the promoted type of the innermost switch, and whether it
-- stands in a loop
pub record Around : Type 0 where
  pub result : CType
  pub switch : Option IntKind
  pub loop : Bool

-- in the body of a function, outside of any loop and switch
abbrev pub in_function : CType → Around
in_function t = record { result = t; switch = None; loop = false }

abbrev pub in_loop : Around → Around
in_loop a = record a { loop = true }

abbrev pub integer_kind : CType → Option IntKind
integer_kind (integer k) = Some k
integer_kind _ = None

-- a switch on a value of this type
abbrev pub in_switch : Around → CType → Around
in_switch a t = record a { switch = integer_kind t }

-- 6.6.4.1, 6.6.5: a condition is a scalar; `at` is its place
abbrev pub condition : Place → Typed → Checked Typed
condition at e = where_met (is_scalar (of e)) BadOperand at (accepted e)

-- 6.6.4.2: a switch is on an integer, which is promoted
abbrev pub switch_value : Place → Typed → Checked Typed
switch_value at e = where_met (is_some (integer_kind (of e))) BadOperand at (accepted (promoted e))

-- its cases differ
abbrev pub switch_made : Typed → TypedStatement → Checked TypedStatementForm
switch_made e s = and_then (distinct_cases s) (λ u. accepted (switch_on e s))

-- 6.6.1: a case and a default stand in a switch
abbrev pub switch_around : Around → Place → Checked IntKind
switch_around a p = where_given a.switch MisplacedJump p (λ k. accepted k)

-- 6.6.4.2: the value of a case is an integer constant, which takes the switch's type
abbrev pub case_value : IntKind → Place → Typed → Checked ℤ
case_value k at e = where_given (constant_of e) NotAConstant at (λ z. accepted (as_kind k z))

-- 6.6.6.2, 6.6.6.3
abbrev pub continued : Around → Place → Checked TypedStatementForm
continued a p = where_met a.loop MisplacedJump p (accepted continue_loop)

abbrev pub broken : Around → Place → Checked TypedStatementForm
broken a p = where_met (is_some a.switch || a.loop) MisplacedJump p (accepted break_out)

-- 6.6.6.4: what is returned converts to the type of the function's result, as if by assignment; a void function returns nothing
abbrev pub returned : Around → Place → Typed → Checked Typed
returned a at e = where_met (convertible (of e) a.result) NotConvertible at (accepted (converted a.result e))
