-- How many a list of types or of typed expressions has.
use Rattle.std.proofs.Common.{◌≡◌, List, [], ◌∷◌, length, map, refl, arith}
use Rattle.sp_types.specs.View.{type_of, types}
use Rattle.sp_types.specs.TypedView.{typed_of, typed_list}
use Rattle.sp_types.specs.declared.ctype.CType.{CType as CodeType}
use Rattle.sp_types.specs.declared.typed.TypedExpr.{TypedExpr}
use Rattle.sp_check_binary_rules.specs.Rules.{types_count, typed_count}

pub types_count-types : (ts : List CodeType) → types_count (types (map type_of ts)) ≡ length ts
types_count-types [] = refl
types_count-types (t ∷ ts) = omega (arith, types_count-types ts)

pub typed_count-list : (ts : List TypedExpr) → typed_count (typed_list (map typed_of ts)) ≡ length ts
typed_count-list [] = refl
typed_count-list (t ∷ ts) = omega (arith, typed_count-list ts)

pub ruleset counted = (types_count-types, typed_count-list)
