use Rattle.std.proofs.Common.{◌≡◌, drop}
use Rattle.sp_parse_trees.specs.View.{externals_of}
use Rattle.sp_check_env.specs.Views.{env_of}
use Rattle.sp_decl_check.specs.Tentative.{open_tentative}
use Rattle.sp_decl_check.proofs.tentative.open_tentative.Given as goal

abbrev pub invariant-loop-external : goal.invariant-loop-external
invariant-loop-external l =
    open_tentative (env_of l.env) (externals_of (drop l.external-index l.externals))
    ≡ open_tentative (env_of l.env) (externals_of l.externals)
