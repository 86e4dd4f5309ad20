use Rattle.std.proofs.Common.{◌≡◌, drop}
use Rattle.sp_lower_draft.specs.View.{draft_of}
use Rattle.sp_lower_body.specs.Declarations.{declare_all}
use Rattle.sp_lower_body.specs.View.{frame_of}
use Rattle.sp_lower_statements.proofs.declarations.declare_all.Given as goal

abbrev pub invariant-loop-object : goal.invariant-loop-object
invariant-loop-object l =
    declare_all (frame_of l.frame) l.fn.objects (draft_of l.fn.draft)
    ≡ declare_all (frame_of l.frame) (drop l.object-index l.objects) (draft_of l.draft)
