-- Units: what the rules give of a translation unit, or the fault that stands (C90 6.7).
use Rattle.std.specs.Prelude.{ℕ, List, []}
use Rattle.sp_tree.specs.declared.fault.FaultKind.TheVariants.{IncompleteType, BadOperand}
use Rattle.sp_parse_trees.specs.Syntax.{External}
use Rattle.sp_base_checked.specs.Answers.{Checked, accepted, and_then}
use Rattle.sp_check_env.specs.Env.{Env, Tables, unit_start}
use Rattle.sp_check_statement_rules.specs.Repeats.{where_none}
use Rattle.sp_check_mentions.specs.Undefined.{undefined_function}
use Rattle.sp_base_checked.specs.Units.{CheckedUnit}
use Rattle.sp_decl_check.specs.Definitions.{externals_checked}
use Rattle.sp_decl_check.specs.Tentative.{open_tentative}

abbrev pub checked_unit : Tables → List ℕ → CheckedUnit
checked_unit t ns = record { structs = t.structs; objects = t.objects; functions = t.functions; constants = t.constants; definitions = ns; typings = t.typings }

-- at the end of a unit: each tentative definition has a complete type, and each internal function
-- that is mentioned has a body
abbrev pub unit_told : Env → List ℕ → List External → Checked CheckedUnit
unit_told env ns us =
    where_none (open_tentative env us) IncompleteType
    (where_none (undefined_function env.tables.objects env.tables.functions) BadOperand
    (accepted (checked_unit env.tables ns)))

-- its external declarations in order
abbrev pub unit_checked : List (List ℕ) → List External → Checked CheckedUnit
unit_checked names us = and_then (externals_checked names unit_start [] us) (λ x. unit_told x.1 x.0 us)
