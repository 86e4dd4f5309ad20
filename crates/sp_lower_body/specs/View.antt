-- What contracts see of a frame and of a body.
use Rattle.std.specs.Prelude.{map, drop}
use Rattle.sp_types.specs.View.{type_of}
use Rattle.sp_lower_draft.specs.View.{context_of, draft_of}
use Rattle.sp_lower_body.specs.declared.frame.Frame.{Frame as CodeFrame}
use Rattle.sp_lower_body.specs.declared.frame.Initial.{Initial as CodeInitial}
use Rattle.sp_lower_body.specs.declared.body.Body.{Body as CodeBody}
use Rattle.sp_lower_body.specs.Frames.{Frame, Initial}
use Rattle.sp_lower_body.specs.Bodies.{Body}

abbrev pub initial_view : CodeInitial → Initial
initial_view i = record { cells = i.cells.items; zero = i.zero.items }

abbrev pub frame_of : CodeFrame → Frame
frame_of f = record {
  context = context_of f.scope;
  initials = map initial_view f.initials.now;
  result = f.result;
  result_type = type_of f.result_type.now;
}

abbrev pub body_of : CodeBody → Body
body_of b = record {
  draft = draft_of b.draft;
  breaks = b.breaks.items;
  continues = b.continues.items;
  returns = b.returns.items;
  gotos = b.gotos.items;
  labels = b.labels.items;
  cases = drop b.next_case b.cases.items;
  otherwise = b.otherwise;
}
