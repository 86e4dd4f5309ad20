use Rattle.std.proofs.Common.{◌≡◌, ◌++◌, drop, map}
use Rattle.std.specs.Option.{option_map}
use Rattle.sp_types.specs.View.{type_of, struct_of}
use Rattle.sp_report.specs.Places.{path_text}
use Rattle.sp_report.proofs.places.add_path.Given as goal

abbrev pub invariant-loop-step : goal.invariant-loop-step
invariant-loop-step l =
    l.text.items ++ path_text l.legend.names.now (map struct_of l.legend.lowered.now.structs.items) (option_map (λ t. type_of t.now) l.at) (drop l.step-index l.path)
    ≡ l.initial.text.items ++ path_text l.legend.names.now (map struct_of l.legend.lowered.now.structs.items) (option_map (λ t. type_of t.now) l.initial.at) l.path
