use Rattle.std.proofs.Common.{◌≡◌, map, take}
use Rattle.sp_types.specs.TypedView.{statement_of}
use Rattle.sp_link_renaming.specs.Renaming.{renamed_statement}
use Rattle.sp_link_renaming.specs.View.{renaming_of}
use Rattle.sp_link_renaming.proofs.statements.+statement.Given as goal

abbrev pub invariant-all_renamed-statements : goal.invariant-all_renamed-statements
invariant-all_renamed-statements l = map statement_of l.all.items ≡ map (renamed_statement (renaming_of l.to)) (map statement_of (take l.i l.statements))
