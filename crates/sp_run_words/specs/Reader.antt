-- The command by which `clap` reads the words behind the first: the flags, and the FILEs.
use Rattle.std.specs.Prelude.{ℕ, List, true, codes, Some}
use Rattle.clap.specs.Walk.{Rule}
use Rattle.clap.specs.Simple.{App, new_app, new_rule, on_top, with_rule}
use Rattle.clap.specs.declared.builder.action.ArgAction.TheVariants.{Append, SetTrue}

abbrev pub flag_rule : List ℕ → Rule
flag_rule name = record (new_rule name) { long = Some name; action = Some SetTrue }

abbrev pub file_rule : Rule
file_rule = record (new_rule (codes "files")) { action = Some Append; required = true }

-- the words begin with the first argument, and no word asks for help or a version
abbrev pub bare_app : App
bare_app = on_top (λ s. record s {
  no_binary_name = true;
  disable_help_flag = true;
  disable_version_flag = true;
}) (new_app (codes "sparrow"))

abbrev pub reader_app : App
reader_app = with_rule (with_rule (with_rule (with_rule bare_app (flag_rule (codes "sharp")))
    (flag_rule (codes "values"))) (flag_rule (codes "nodes"))) file_rule
