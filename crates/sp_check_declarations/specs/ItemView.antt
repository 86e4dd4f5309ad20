-- What declarators with their initialisers stand for.
use Rattle.std.specs.Prelude.{Option, Some, None}
use Rattle.sp_parse_trees.specs.Syntax.{MaybeInit, no_init, some_init}
use Rattle.sp_parse_trees.specs.declared.tree.Init.{Init as CodeInit}
use Rattle.sp_check_initialisers.specs.InitView.{init_of}

abbrev pub start_of : Option CodeInit → MaybeInit
start_of None = no_init
start_of (Some i) = some_init (init_of i)
