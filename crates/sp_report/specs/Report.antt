-- The report of alarms: their lines, sorted and each once, and how many these are.
use Rattle.std.specs.Prelude.{ℕ, ◌==◌, List, [], ◌++◌, length, map, fold, if◌then◌else◌, codes}
use Rattle.std.specs.List.{flat_map}
use Rattle.std.specs.Fmt.{decimal}
use Rattle.std.specs.BTreeSet.{insert_key}
use Rattle.std.specs.declared.cmp.Ordering.{Ordering}
use Rattle.std.specs.Ordering.{nat_cmp, ordering_then}
use Rattle.std.specs.Cmp.Lexicographic.{slice_cmp}
use Rattle.sp_effect_alarms.specs.declared.alarm.Alarm.{Alarm}
use Rattle.sp_effect_alarms.specs.declared.alarm.AlarmKind.{AlarmKind}
use Rattle.sp_effect_alarms.specs.declared.alarm.AlarmKind.TheVariants.{Overrun, Zero, Pointer, NoFunction, Punned}
use Rattle.sp_report.specs.Texts.{file_name, alarm_text}

-- the place of a kind in the order of lines
abbrev pub kind_rank : AlarmKind → ℕ
kind_rank (Overrun offset count size) = 0
kind_rank (Zero divisor) = 1
kind_rank (Pointer value) = 2
kind_rank NoFunction = 2
kind_rank (Punned access element) = 3

-- A line of the report: the name of its file, what it is sorted by, and what follows the name.
pub record Line : Type 0 where
  pub name : List ℕ
  pub line : ℕ
  pub column : ℕ
  pub rank : ℕ
  pub tail : List ℕ

abbrev pub line_of : List (List ℕ) → Alarm → Line
line_of names a = record {
  name = file_name names a.place;
  line = a.place.line;
  column = a.place.column;
  rank = kind_rank a.kind;
  tail = alarm_text a;
}

-- by name, line, column, kind, and then the line's bytes, which begin with the same name
abbrev pub line_cmp : Line → Line → Ordering
line_cmp x y = ordering_then (slice_cmp nat_cmp x.name y.name)
    (ordering_then (nat_cmp x.line y.line) (ordering_then (nat_cmp x.column y.column)
    (ordering_then (nat_cmp x.rank y.rank) (slice_cmp nat_cmp x.tail y.tail))))

-- the lines of alarms: in order, each once
abbrev pub lines_of : List (List ℕ) → List Alarm → List Line
lines_of names alarms = fold (insert_key line_cmp) [] (map (line_of names) alarms)

abbrev pub line_text : Line → List ℕ
line_text l = l.name ++ l.tail

abbrev pub count_text : ℕ → List ℕ
count_text n = if n == 1 then codes "1 alarm\n" else decimal n ++ codes " alarms\n"

abbrev pub text_of_lines : List Line → List ℕ
text_of_lines lines = flat_map line_text lines ++ count_text (length lines)

abbrev pub report_text : List (List ℕ) → List Alarm → List ℕ
report_text names alarms = text_of_lines (lines_of names alarms)

abbrev pub report_count : List (List ℕ) → List Alarm → ℕ
report_count names alarms = length (lines_of names alarms)
