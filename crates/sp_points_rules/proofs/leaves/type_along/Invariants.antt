use Rattle.std.proofs.Common.{◌≡◌, map, take, option_map}
use Rattle.sp_types.specs.View.{type_of, struct_of}
use Rattle.sp_base_region_laws.specs.Parts.{type_along}
use Rattle.sp_points_rules.proofs.leaves.type_along.Given as goal

abbrev pub invariant-loop-step : goal.invariant-loop-step
invariant-loop-step l = option_map (λ t. type_of t.now) l.at
    ≡ type_along (map struct_of l.structs) (option_map (λ t. type_of t.now) l.of) (take l.step-index l.path)
