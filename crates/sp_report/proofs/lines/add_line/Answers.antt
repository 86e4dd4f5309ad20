use Rattle.std.proofs.Common.{◌≡◌, ℕ, List, map, ap, ◌∙◌, string_bytes}
use Rattle.std.specs.BTreeSet.{insert_key}
use Rattle.sp_report.specs.declared.lines.Line as code
use Rattle.sp_report.specs.Texts.{file_name}
use Rattle.sp_report.specs.Report.{Line, line_of, line_cmp, kind_rank}
use Rattle.sp_report.specs.Lines.{seen, rank_number}
use Rattle.sp_report.proofs.LineLaws.{map-insert_key, same_order}
use Rattle.sp_report.proofs.lines.add_line.Goals as goal

pub returns : goal.returns
returns c =
    let made : code.Line = record { name = c.name_of.result; line = c.args.alarm.place.line; column = c.args.alarm.place.column; rank = c.of.result; tail = c.in_ok-tail.tail } in
    let parts = λ (n : List ℕ) (r : ℕ) (t : List ℕ). let l : Line = record { name = n; line = c.args.alarm.place.line; column = c.args.alarm.place.column; rank = r; tail = t } in l in
    let same : seen made ≡ line_of c.args.names.now c.args.alarm =
    ap (λ n. parts n (rank_number c.of.result) (string_bytes c.in_ok-tail.tail)) c.name_of.ensures
    ∙ ap (λ r. parts (file_name c.args.names.now c.args.alarm.place) r (string_bytes c.in_ok-tail.tail)) c.of.ensures
    ∙ ap (λ t. parts (file_name c.args.names.now c.args.alarm.place) (kind_rank c.args.alarm.kind) t) c.in_ok-tail.ensures in
    ap (map seen) c.in_ok-insert.ensures.keys ∙ map-insert_key seen _ line_cmp same_order c.args.lines.now.keys made ∙ ap (insert_key line_cmp (map seen c.args.lines.now.keys)) same
