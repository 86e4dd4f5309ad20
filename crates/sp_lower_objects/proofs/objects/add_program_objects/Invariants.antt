use Rattle.std.proofs.Common.{◌≡◌, ◌++◌, map, drop}
use Rattle.sp_types.specs.Programs as checked
use Rattle.sp_ir.specs.Programs.{object_of}
use Rattle.sp_lower_draft.specs.View.{context_of}
use Rattle.sp_lower_body.specs.View.{initial_view}
use Rattle.sp_lower_objects.specs.Objects.{program_objects}
use Rattle.sp_lower_objects.proofs.objects.add_program_objects.Given as goal

abbrev pub invariant-loop-k : goal.invariant-loop-k
invariant-loop-k l =
    map object_of l.all.items
    ++ program_objects (context_of l.scope) l.names l.functions l.owners
    (map initial_view l.initials) l.texts l.k (map checked.object_of (drop l.k l.object-items))
    ≡ map object_of l.fn.all.items
    ++ program_objects (context_of l.scope) l.names l.functions l.owners
    (map initial_view l.initials) 0 0 (map checked.object_of l.object-items)
