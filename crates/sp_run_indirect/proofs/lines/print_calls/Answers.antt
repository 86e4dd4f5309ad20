use Rattle.std.proofs.Common.{rules, ◌<◌, ℕ, length}
use Rattle.sp_ir.specs.Programs.{lowered_of}
use Rattle.sp_base_sets.specs.Sets.{Ascends}
use Rattle.sp_base_sets.specs.Reached.{row}
use Rattle.sp_run_indirect.proofs.LineLaws.{all_in_order}
use Rattle.sp_run_indirect.proofs.lines.print_calls.Goals as goal

pub returns : goal.returns
returns c =
    let p = lowered_of c.args.lowered.now in
    let pre = c.in_ok-pre.pre in
    let each : (n : ℕ) → n < length p.nodes → Ascends (row pre.calls n) =
    rw c.calls.ensures at c.in_ok-text.ensures.in_order in
    record {
      points = row pre.rows;
      least = c.in_ok-pre.ensures.least;
      ascending = c.in_ok-pre.ensures.ascending;
      calls = pre.calls;
      exact = c.in_ok-pre.ensures.calls;
      in_order = all_in_order pre.calls (length p.nodes) c.in_ok-pre.ensures.calls.long each;
      bytes_are = search rules;
    }
