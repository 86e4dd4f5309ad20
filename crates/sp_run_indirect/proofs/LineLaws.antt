-- One more node, and the callees of all.
use Rattle.std.proofs.Common.{◌≡◌, ◌∙◌, ◌+◌, ◌<◌, ◌≤◌, ◌⊎◌, inl, inr, ℕ, zero, suc, arith}
use Rattle.std.proofs.Common.{List, [], ◌∷◌, ◌++◌, length, drop, map, get_or, refl, sym, ap, subst}
use Rattle.std.proofs.Common.{add-one, append_assoc}
use Rattle.std.proofs.lemmas.Bool.{cases_lt}
use Rattle.sp_ir.specs.Commands.{Node}
use Rattle.sp_ir.specs.Programs.{Lowered}
use Rattle.sp_base_sets.specs.Sets.{Ascends}
use Rattle.sp_base_sets.specs.Reached.{row}
use Rattle.sp_graph.specs.Calls.{Callees}
use Rattle.sp_run_indirect.specs.Texts.{node_text, lines_from}

mapped_from : {X Y : Type 0} (f : X → Y) (xs : List X) (k : ℕ) (d : X) → k < length xs
    → drop k (map f xs) ≡ f (get_or xs k d) ∷ drop (suc k) (map f xs)
mapped_from f [] k d low = absurd (omega (arith, low))
mapped_from f (x ∷ xs) zero d low = refl
mapped_from f (x ∷ xs) (suc k) d low = mapped_from f xs k d (omega (arith, low))

-- the lines so far with that of one more node, and those to come
pub lines_step : {X : Type 0} (f : X → Node) (names : List (List ℕ)) (p : Lowered) (calls : Callees)
    (k : ℕ) (d : X) (nodes : List X) (now : List ℕ) → k < length nodes
    → (now ++ node_text names p (f (get_or nodes k d)) (row calls k))
    ++ lines_from names p calls (k + 1) (drop (k + 1) (map f nodes))
    ≡ now ++ lines_from names p calls k (drop k (map f nodes))
lines_step f names p calls k d nodes now low =
    rw add-one (append_assoc now _ _
    ∙ ap (λ ns. now ++ lines_from names p calls k ns) (sym (mapped_from f nodes k d low)))

pub one_more : (P : ℕ → Type 0) (k : ℕ) → ((n : ℕ) → n < k → P n) → P k
    → (n : ℕ) → n < k + 1 → P n
one_more P k before last n low = go (cases_lt n k)
  where
    go : (n < k) ⊎ (k ≤ n) → P n
    go (inl less) = before n less
    go (inr past) = let same : k ≡ n = omega (arith, low, past) in subst P same last

-- past the last list there is none
row_past : (lists : List (List ℕ)) (n : ℕ) → length lists ≤ n → row lists n ≡ []
row_past [] n past = refl
row_past (x ∷ xs) zero past = absurd (omega (arith, past))
row_past (x ∷ xs) (suc n) past = row_past xs n (omega (arith, past))

nothing_ascends : Ascends []
nothing_ascends i j d less low = absurd (omega (arith, low))

-- where each list ascends, each row does
pub all_in_order : (calls : Callees) (count : ℕ) → length calls ≡ count
    → ((n : ℕ) → n < count → Ascends (row calls n)) → (n : ℕ) → Ascends (row calls n)
all_in_order calls count long each n = go (cases_lt n count)
  where
    go : (n < count) ⊎ (count ≤ n) → Ascends (row calls n)
    go (inl low) = each n low
    go (inr past) = subst Ascends (sym (row_past calls n (omega (arith, long, past)))) nothing_ascends
