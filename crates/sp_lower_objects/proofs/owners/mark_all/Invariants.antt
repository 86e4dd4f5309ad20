use Rattle.std.proofs.Common.{◌≡◌, drop}
use Rattle.sp_lower_objects.specs.Owners.{marked}
use Rattle.sp_lower_objects.proofs.owners.mark_all.Given as goal

abbrev pub invariant-loop-place : goal.invariant-loop-place
invariant-loop-place l =
    marked l.by (drop l.place-index l.places) l.marks.items ≡ marked l.by l.places l.fn.marks.items
