use Rattle.std.proofs.Common.{◌≡◌, map, take}
use Rattle.sp_types.specs.TypedView.{typed_of}
use Rattle.sp_link_renaming.specs.Renaming.{renamed}
use Rattle.sp_link_renaming.specs.View.{renaming_of}
use Rattle.sp_link_renaming.proofs.expressions.+expression.Given as goal

abbrev pub invariant-all_renamed-es : goal.invariant-all_renamed-es
invariant-all_renamed-es l = map typed_of l.all.items ≡ map (renamed (renaming_of l.to)) (map typed_of (take l.i l.es))
