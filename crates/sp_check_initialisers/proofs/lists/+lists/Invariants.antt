use Rattle.std.proofs.Common.{◌≡◌, map, drop}
use Rattle.sp_parse_trees.specs.View.{inits}
use Rattle.sp_check_env.specs.Views.{env_of}
use Rattle.sp_check_initialisers.specs.InitView.{init_of, progress_of}
use Rattle.sp_check_initialisers.specs.Initialisers.{filled, inits_of}
use Rattle.sp_check_initialisers.proofs.lists.+lists.Given as goal

abbrev pub invariant-filled-inits : goal.invariant-filled-inits
invariant-filled-inits l =
    filled l.names (env_of l.env) l.target (progress_of l.progress) (inits (map init_of (drop l.i l.next-items)))
    ≡ filled l.names (env_of l.initial.env) l.target (progress_of l.initial.progress) (inits_of (init_of l.init))
