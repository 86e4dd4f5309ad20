-- The set of lines in code and the list of lines in the definition of a report are the same; and
-- the order of lines.
use Rattle.std.proofs.Common.{◌≡◌, ℕ, List, [], ◌∷◌, map, refl, ap}
use Rattle.std.specs.Cmp.{IsTotalOrder}
use Rattle.std.specs.Cmp.Lexicographic.{slice_cmp}
use Rattle.std.specs.declared.cmp.Ordering.{Ordering}
use Rattle.std.specs.declared.cmp.Ordering.TheVariants.{Less, Equal, Greater}
use Rattle.std.specs.Ordering.{nat_cmp, ordering_then, match_ordering}
use Rattle.std.specs.BTreeSet.{insert_key}
use Rattle.std.specs.String.{string_cmp}
use Rattle.std.proofs.lemmas.Cmp.{on_total, then_total, nat_cmp_total, nat_list_cmp_total}
use Rattle.std.proofs.lemmas.Map.Lookups.{CmpEqualImpliesEq, exact_unsigned, exact_bytes, exact_pairs}
use Rattle.sp_report.specs.contracts.lines.LineOrd.TheImpl as lines
use Rattle.sp_report.specs.contracts.lines.RankOrd.TheImpl as ranks
use Rattle.sp_report.specs.declared.lines.Rank.{Rank}
use Rattle.sp_report.specs.declared.lines.Rank.TheVariants.{Overrun, Zero, Pointer, Punned}
use Rattle.sp_report.specs.declared.lines.Line as code
use Rattle.sp_report.specs.Report.{Line, line_cmp}
use Rattle.sp_report.specs.Lines.{seen, rank_number}

-- a view that keeps the order keeps what an insertion makes
pub map-insert_key : {A B : Type 0} (view : A → B) (f : A → A → Ordering) (g : B → B → Ordering) → ((x y : A) → f x y ≡ g (view x) (view y)) → (ks : List A) (k : A) → map view (insert_key f ks k) ≡ insert_key g (map view ks) (view k)
map-insert_key view f g same [] k = refl
map-insert_key {A} {B} view f g same (x ∷ xs) k =
    rw (← same k x) (by_order (map-insert_key view f g same xs k) (f k x))
  where
    by_order : map view (insert_key f xs k) ≡ insert_key g (map view xs) (view k) → (o : Ordering) → map view (match_ordering o (k ∷ x ∷ xs) (x ∷ xs) (x ∷ insert_key f xs k)) ≡ match_ordering o (view k ∷ view x ∷ map view xs) (view x ∷ map view xs) (view x ∷ insert_key g (map view xs) (view k))
    by_order ih Less = refl
    by_order ih Equal = refl
    by_order ih Greater = ap (λ ys. view x ∷ ys) ih

same_ranks : (a b : Rank) → (ranks.cmp-value).it a b ≡ nat_cmp (rank_number a) (rank_number b)
same_ranks Overrun Overrun = refl
same_ranks Overrun Zero = refl
same_ranks Overrun Pointer = refl
same_ranks Overrun Punned = refl
same_ranks Zero Overrun = refl
same_ranks Zero Zero = refl
same_ranks Zero Pointer = refl
same_ranks Zero Punned = refl
same_ranks Pointer Overrun = refl
same_ranks Pointer Zero = refl
same_ranks Pointer Pointer = refl
same_ranks Pointer Punned = refl
same_ranks Punned Overrun = refl
same_ranks Punned Zero = refl
same_ranks Punned Pointer = refl
same_ranks Punned Punned = refl

pub same_order : (x y : code.Line) → (lines.cmp-value).it x y ≡ line_cmp (seen x) (seen y)
same_order x y = ap (λ o. ordering_then (slice_cmp nat_cmp x.name.now y.name.now) (ordering_then (nat_cmp x.line y.line) (ordering_then (nat_cmp x.column y.column) (ordering_then o (string_cmp x.tail y.tail))))) (same_ranks x.rank y.rank)

-- ---- the order of lines is total, and lines that compare as equal are the same

pub line_total : IsTotalOrder line_cmp
line_total =
    then_total (on_total (λ (l : Line). l.name) nat_list_cmp_total) (then_total (on_total (λ (l : Line). l.line) nat_cmp_total)
    (then_total (on_total (λ (l : Line). l.column) nat_cmp_total) (then_total (on_total (λ (l : Line). l.rank) nat_cmp_total) (on_total (λ (l : Line). l.tail) nat_list_cmp_total))))

pub line_exact : CmpEqualImpliesEq line_cmp
line_exact x y e =
    ap (λ (t : List ℕ × (ℕ × (ℕ × (ℕ × List ℕ)))). record { name = t.0; line = t.1.0; column = t.1.1.0; rank = t.1.1.1.0; tail = t.1.1.1.1 })
    (exact_pairs (slice_cmp nat_cmp) _ exact_bytes (exact_pairs nat_cmp _ exact_unsigned (exact_pairs nat_cmp _ exact_unsigned (exact_pairs nat_cmp (slice_cmp nat_cmp) exact_unsigned exact_bytes)))
    (x.name, (x.line, (x.column, (x.rank, x.tail)))) (y.name, (y.line, (y.column, (y.rank, y.tail)))) e)
