use Rattle.std.proofs.Common.{◌≡◌, map, take}
use Rattle.sp_types.specs.TypedView.{typed_of}
use Rattle.sp_check_objects.proofs.copies.+copying.Given as goal

abbrev pub invariant-copy_all-list : goal.invariant-copy_all-list
invariant-copy_all-list l = map typed_of l.all.items ≡ map typed_of (take l.i l.list)
