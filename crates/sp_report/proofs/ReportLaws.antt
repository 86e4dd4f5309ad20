-- Reports by the set of their alarms.
use Rattle.std.proofs.Common.{◌≡◌, ◌<◌, ◌≤◌, ℕ, suc, List, [], ◌∷◌, length, map, fold, refl, ap, arith}
use Rattle.std.specs.List.Sorted.{IsStrictlySortedBy}
use Rattle.std.specs.BTreeSet.{insert_key}
use Rattle.std.specs.declared.cmp.Ordering.{Ordering}
use Rattle.std.specs.declared.cmp.Ordering.TheVariants.{Less, Equal, Greater}
use Rattle.std.specs.Ordering.{match_ordering}
use Rattle.sp_effect_alarms.specs.declared.alarm.Alarm.{Alarm}
use Rattle.sp_report.specs.Report.{line_cmp, line_of, lines_of, text_of_lines, report_count}
use Rattle.sp_report.specs.Laws.{HaveSameMembers, ReportLaws}
use Rattle.sp_report.proofs.SetLaws.{sorted_fold, same_fold}
use Rattle.sp_report.proofs.LineLaws.{line_total, line_exact}

ascending : (names : List (List ℕ)) (alarms : List Alarm) → IsStrictlySortedBy line_cmp (lines_of names alarms)
unfolding IsStrictlySortedBy
ascending names alarms = sorted_fold line_total (map (line_of names) alarms) [] tt

same_lines : (names : List (List ℕ)) (xs ys : List Alarm) → HaveSameMembers xs ys → lines_of names xs ≡ lines_of names ys
same_lines names xs ys h = same_fold line_total line_exact (line_of names) xs ys h

-- an insertion takes no key away, and leaves at least one
longer : {X : Type 0} (c : X → X → Ordering) (ks : List X) (k : X) → (length ks ≤ length (insert_key c ks k)) × (0 < length (insert_key c ks k))
longer c [] k = (omega arith, omega arith)
longer {X} c (x ∷ xs) k = by_order (c k x) (longer c xs k)
  where
    by_order : (o : Ordering) → (length xs ≤ length (insert_key c xs k)) × (0 < length (insert_key c xs k))
        → (suc (length xs) ≤ length (match_ordering o (k ∷ x ∷ xs) (x ∷ xs) (x ∷ insert_key c xs k))) × (0 < length (match_ordering o (k ∷ x ∷ xs) (x ∷ xs) (x ∷ insert_key c xs k)))
    by_order Less h = (omega arith, omega arith)
    by_order Equal h = (omega arith, omega arith)
    by_order Greater h = (omega (arith, h.0), omega arith)

all_longer : {X : Type 0} (c : X → X → Ordering) (rest ks : List X) → length ks ≤ length (fold (insert_key c) ks rest)
all_longer c [] ks = omega arith
all_longer c (k ∷ rest) ks = omega (arith, all_longer c rest (insert_key c ks k), (longer c ks k).0)

none : (names : List (List ℕ)) (alarms : List Alarm) → report_count names alarms ≡ 0 → alarms ≡ []
none names [] e = refl
none names (a ∷ rest) e = absurd (omega (arith, all_longer line_cmp (map (line_of names) rest) (insert_key line_cmp [] (line_of names a)), e))

pub report_laws : ReportLaws
report_laws = record {
  ascend = ascending;
  same_text = λ names xs ys h. ap text_of_lines (same_lines names xs ys h);
  same_count = λ names xs ys h. ap length (same_lines names xs ys h);
  clean = λ names alarms. (none names alarms, λ e. ap (report_count names) e);
}
