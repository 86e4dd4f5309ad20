use Rattle.std.proofs.Common.{◌≡◌, [], drop}
use Rattle.sp_parse_trees.specs.View.{externals_of}
use Rattle.sp_check_env.specs.Views.{env_of}
use Rattle.sp_decl_check.specs.Definitions.{externals_checked, SameOpen}
use Rattle.sp_decl_check.proofs.definitions.externals_checked.Given as goal

abbrev pub invariant-loop-external : goal.invariant-loop-external
invariant-loop-external l =
    (externals_checked l.names (env_of l.env) l.defined.items (externals_of (drop l.external-index l.externals))
    ≡ externals_checked l.names (env_of l.initial.env) [] (externals_of l.initial.externals))
    × SameOpen (externals_of l.externals) (externals_of l.initial.externals)
