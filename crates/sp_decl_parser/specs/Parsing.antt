-- What the parser of units answers, said by levelled units (specs/Answers.antt of sp_parse_laws).
use Rattle.std.specs.Prelude.{◌≡◌, ℕ, List, drop, Result, Ok, Err, ⊤, ◌⊎◌}
use Rattle.sp_tree.specs.declared.fault.Fault.{Fault}
use Rattle.sp_tree.specs.declared.fault.FaultKind.TheVariants.{NestingTooDeep}
use Rattle.sp_tree.specs.declared.token.Token.{Token}
use Rattle.sp_parse_trees.specs.declared.statement.Unit.{Unit as CodeUnit}
use Rattle.sp_parse_trees.specs.View.{externals_of}
use Rattle.sp_parse_tokens.specs.Makers.{first_place}
use Rattle.sp_parse_laws.specs.UnitAnswers.{IsUnit, IsUnitFault, IsUnitNested}
use Rattle.sp_expr_parser.specs.declared.error.ParseError.{ParseError}
use Rattle.sp_expr_parser.specs.declared.error.ParseError.TheVariants as errors

-- The fault behind some of the tokens: that of the failing token, or that the depth is passed.
pub record IsUnitRefused (depth : ℕ) (tokens : List Token) (fault : Fault) : Type 0 where
  pub count : ℕ
  pub place : fault.place ≡ first_place (drop count tokens)
  pub why : IsUnitFault tokens fault.kind count ⊎ ((fault.kind ≡ NestingTooDeep) × IsUnitNested depth tokens count)

abbrev pub UnitRefused : ℕ → List Token → ParseError → Type 0
UnitRefused depth tokens (errors.Fault fault) = IsUnitRefused depth tokens fault
UnitRefused depth tokens errors.NoMemory = ⊤

-- The one levelled unit that the tokens spell, or why they spell none within the depth.
abbrev pub UnitAnswers : ℕ → List Token → Result CodeUnit ParseError → Type 0
UnitAnswers depth tokens (Ok u) = IsUnit depth tokens (externals_of u.items.items)
UnitAnswers depth tokens (Err error) = UnitRefused depth tokens error
