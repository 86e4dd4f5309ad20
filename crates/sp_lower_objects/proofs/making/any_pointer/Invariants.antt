use Rattle.std.proofs.Common.{◌≡◌, drop}
use Rattle.std.specs.List.{list_any}
use Rattle.sp_lower_draft.specs.Context.{has_pointer, object_type}
use Rattle.sp_lower_draft.specs.View.{context_of}
use Rattle.sp_lower_objects.proofs.making.any_pointer.Given as goal

abbrev pub invariant-loop-object : goal.invariant-loop-object
invariant-loop-object l =
    list_any (λ n. has_pointer (context_of l.scope).pointers (object_type (context_of l.scope) n)) (drop l.object-index l.objects)
    ≡ list_any (λ n. has_pointer (context_of l.scope).pointers (object_type (context_of l.scope) n)) l.objects
