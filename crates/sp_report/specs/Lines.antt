-- What a contract sees of a line.
use Rattle.std.specs.Prelude.{ℕ, string_bytes}
use Rattle.sp_report.specs.declared.lines.Rank.{Rank}
use Rattle.sp_report.specs.declared.lines.Rank.TheVariants as ranks
use Rattle.sp_report.specs.declared.lines.Line as lines
use Rattle.sp_report.specs.Report.{Line}

abbrev pub rank_number : Rank → ℕ
rank_number ranks.Overrun = 0
rank_number ranks.Zero = 1
rank_number ranks.Pointer = 2
rank_number ranks.Punned = 3

abbrev pub seen : lines.Line → Line
seen l = record {
  name = l.name.now;
  line = l.line;
  column = l.column;
  rank = rank_number l.rank;
  tail = string_bytes l.tail;
}
