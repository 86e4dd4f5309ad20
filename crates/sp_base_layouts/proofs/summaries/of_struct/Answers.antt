use Rattle.std.proofs.Common.{sym}
use Rattle.sp_base_layouts.proofs.summaries.of_struct.Goals as goal

pub returns-in_ok-made-in-Some : goal.returns-in_ok-made-in-Some
returns-in_ok-made-in-Some c =
    rw (c.in-Some.is, sym c.as_slice.ensures.value) c.in_ok-made-in-Some.ensures
