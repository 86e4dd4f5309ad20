-- Arguments, with those that are typed already.
use Rattle.std.specs.Prelude.{List, [], ◌∷◌}
use Rattle.sp_types.specs.Typed.{Typed, TypedList, next_typed}
use Rattle.sp_base_checked.specs.Answers.{Checked, accepted, and_then}
use Rattle.sp_check_env.specs.Env.{Env}

abbrev pub onto : List Typed → TypedList → TypedList
onto [] es = es
onto (d ∷ ds) es = next_typed d (onto ds es)

-- what the rest gives, behind these
abbrev pub resumed : List Typed → Checked (TypedList × Env) → Checked (TypedList × Env)
resumed ds c = and_then c (λ y. accepted (onto ds y.0, y.1))
