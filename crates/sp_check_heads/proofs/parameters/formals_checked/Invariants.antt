use Rattle.std.proofs.Common.{◌≡◌, map, drop}
use Rattle.sp_parse_trees.specs.View.{param_of, params}
use Rattle.sp_check_env.specs.Views.{env_of}
use Rattle.sp_check_heads.specs.FormalsView.{read_of}
use Rattle.sp_check_heads.specs.Formals.{formals_checked, no_parameters}
use Rattle.sp_check_heads.proofs.parameters.formals_checked.Given as goal

abbrev pub invariant-params : goal.invariant-params
invariant-params l =
    formals_checked l.names (env_of l.env) l.alone (read_of l.read) (params (map param_of (drop l.i l.params)))
    ≡ formals_checked l.names (env_of l.initial.env) l.alone no_parameters (params (map param_of l.params))
