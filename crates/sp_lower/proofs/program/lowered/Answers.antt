use Rattle.std.proofs.Common.{ℕ, Bool, List, Option, map}
use Rattle.sp_types.specs.Programs.{Program, program_of}
use Rattle.sp_ir.specs.Programs.{Object, object_of}
use Rattle.sp_ir.specs.declared.command.Routine.{Routine}
use Rattle.sp_lower_draft.specs.Draft.{Left, left}
use Rattle.sp_lower_draft.specs.View.{draft_of}
use Rattle.sp_lower_body.specs.Frames.{Initial}
use Rattle.sp_lower_body.specs.View.{initial_view}
use Rattle.sp_lower_functions.specs.Functions.{Part}
use Rattle.sp_lower_functions.specs.View.{part_of}
use Rattle.sp_lower.specs.Programs.{lowered_with}
use Rattle.sp_lower.specs.Answers.{EndsAt, Ends}
use Rattle.sp_lower.proofs.Endings.{ends, if-ok}
use Rattle.sp_lower.proofs.program.lowered.Goals as goal

pub returns : goal.returns
returns c =
    let p : Program = program_of c.args.program.now in
    let rs : List (Option Routine) = c.in_ok-begun.begun.known.routines.items in
    let ps : List Bool = c.in_ok-begun.begun.known.pointers.items in
    let is : List Initial = map initial_view c.in_ok-begun.begun.known.initials.items in
    let w : Left (List Part) = left (map part_of c.in_ok-numbered.numbered.functions.parts.items) (draft_of c.in_ok-numbered.numbered.functions.draft) in
    let os : List Object = map object_of c.in_ok-objects.objects.items in
    if-ok c.ended.result (EndsAt (lowered_with p os w)) (λ o. Ends p c.args.names.now o)
    (λ o end. ends p c.args.names.now rs ps is c.in_ok-begun.begun.due c.in_ok-numbered.numbered.first_site w os o (c.in_ok-begun.ensures.context, c.in_ok-begun.ensures.initials, c.in_ok-begun.ensures.due) c.in_ok-numbered.ensures c.in_ok-objects.ensures end)
    c.ended.ensures
