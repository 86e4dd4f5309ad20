-- Location by location, which stands for which.
use Rattle.std.proofs.Common.{◌≡◌, ◌≢◌, ◌⊎◌, inl, inr, ◌↔◌, ℕ, zero, suc, ◌+◌, ◌<◌, ◌≤◌, true, false, List, [], ◌∷◌, ◌++◌, length, Some, None, refl, sym, ap, ◌∙◌, subst, arith}
use Rattle.std.specs.Prelude.{slice_get, slice_set}
use Rattle.sp_base_sets.specs.Sets.{has}
use Rattle.sp_base_sets.specs.Reached.{row, Reached, start, onward}
use Rattle.sp_effect_rows.proofs.Numbers.{which, side}
use Rattle.sp_graph.specs.Accessed.{AccessSets, stood_for, accesses}
use Rattle.sp_defuse.specs.StandIns.{StandFor}

none-some : {n : ℕ} → None ≡ Some n → ⊥
none-some e = cc

-- ---- lists

pub get-front : (xs ys : List ℕ) (k : ℕ) → k < length xs → slice_get (xs ++ ys) k ≡ slice_get xs k
get-front [] ys k low = absurd (omega arith)
get-front (x ∷ xs) ys zero low = refl
get-front (x ∷ xs) ys (suc k) low = get-front xs ys k (omega arith)

pub get-last : (xs : List ℕ) (n k : ℕ) → k ≡ length xs → slice_get (xs ++ n ∷ []) k ≡ Some n
get-last [] n zero e = refl
get-last [] n (suc k) e = absurd (omega (arith, e))
get-last (x ∷ xs) n zero e = absurd (omega (arith, e))
get-last (x ∷ xs) n (suc k) e = get-last xs n k (omega (arith, e))

pub get-past : (xs : List ℕ) (k : ℕ) → length xs ≤ k → slice_get xs k ≡ None
get-past [] k past = refl
get-past (x ∷ xs) zero past = absurd (omega arith)
get-past (x ∷ xs) (suc k) past = get-past xs k (omega arith)

pub get-low : (xs : List ℕ) (k n : ℕ) → slice_get xs k ≡ Some n → k < length xs
get-low [] k n h = absurd (none-some h)
get-low (x ∷ xs) zero n h = omega arith
get-low (x ∷ xs) (suc k) n h = omega (arith, get-low xs k n h)

pub get-there : (xs : List ℕ) (k : ℕ) → k < length xs → (n : ℕ) × (slice_get xs k ≡ Some n)
get-there [] k low = absurd (omega arith)
get-there (x ∷ xs) zero low = (x, refl)
get-there (x ∷ xs) (suc k) low = get-there xs k (omega arith)

pub row-set : (lists : List (List ℕ)) (k l : ℕ) (xs : List ℕ) → l ≢ k → row (slice_set lists k xs) l ≡ row lists l
row-set [] k l xs apart = refl
row-set (ys ∷ lists) zero zero xs apart = absurd (apart refl)
row-set (ys ∷ lists) zero (suc l) xs apart = refl
row-set (ys ∷ lists) (suc k) zero xs apart = refl
row-set (ys ∷ lists) (suc k) (suc l) xs apart = row-set lists k l xs (λ e. apart (ap suc e))

pub row-here : (lists : List (List ℕ)) (k : ℕ) → row (slice_set lists k []) k ≡ []
row-here [] k = refl
row-here (ys ∷ lists) zero = refl
row-here (ys ∷ lists) (suc k) = row-here lists k

pub set-long : (lists : List (List ℕ)) (k : ℕ) (xs : List ℕ) → length (slice_set lists k xs) ≡ length lists
set-long [] k xs = refl
set-long (ys ∷ lists) zero xs = refl
set-long (ys ∷ lists) (suc k) xs = ap suc (set-long lists k xs)

-- ---- one location after another

-- and the last that stands for itself
pub record SoFar (owners : List (List ℕ)) (count last : ℕ) (left : List (List ℕ)) (stand_ins : List ℕ) : Type 0 where
  pub stand : StandFor owners count left stand_ins
  pub stands : last < count → slice_get stand_ins last ≡ Some last

pub begun : (owners : List (List ℕ)) → SoFar owners 0 0 owners []
begun owners = record {
  stand = record { long = refl; told = refl; alike = λ l n e. absurd (none-some e); below = λ l n e. absurd (none-some e); fewer = λ l. inl refl; later = λ l past. refl };
  stands = λ low. absurd (omega (arith, low));
}

module _ (owners : List (List ℕ)) (i last : ℕ) (left : List (List ℕ)) (stand_ins : List ℕ) (so_far : SoFar owners i last left stand_ins) where
  s : StandFor owners i left stand_ins
  s = so_far.stand

  -- it stands for itself
  pub by-itself : SoFar owners (i + 1) i left (stand_ins ++ i ∷ [])
  by-itself = record {
    stand = record {
      long = s.long;
      told = grow stand_ins i ∙ ap suc s.told ∙ omega arith;
      alike = alike;
      below = λ l n e. below l n (side l i) e;
      fewer = s.fewer;
      later = λ l past. s.later l (omega (arith, past));
    };
    stands = λ low. get-last stand_ins i i (sym s.told);
  }
    where
      grow : (xs : List ℕ) (n : ℕ) → length (xs ++ n ∷ []) ≡ suc (length xs)
      grow [] n = refl
      grow (x ∷ xs) n = ap suc (grow xs n)

      known : (l n : ℕ) → (l < i) ⊎ (i ≤ l) → slice_get (stand_ins ++ i ∷ []) l ≡ Some n → (row left n ≡ row owners n) × (row owners n ≡ row owners l)
      known l n (inl low) e = s.alike l n (sym (get-front stand_ins (i ∷ []) l (omega (arith, low, s.told))) ∙ e)
      known l n (inr past) e = by (which l i)
        where
          some-same : {a b : ℕ} → Some a ≡ Some b → a ≡ b
          some-same h = cc

          by : (l ≡ i) ⊎ (l ≢ i) → (row left n ≡ row owners n) × (row owners n ≡ row owners l)
          by (inl same) =
              let is : i ≡ n = some-same (sym (get-last stand_ins i l (same ∙ sym s.told)) ∙ e) in
              (subst (λ m. row left m ≡ row owners m) is (s.later i (omega arith)), ap (row owners) (sym is ∙ sym same))
          by (inr apart) = absurd (none-some (sym (get-past (stand_ins ++ i ∷ []) l (omega (arith, past, apart, grow stand_ins i, s.told))) ∙ e))

      alike : (l n : ℕ) → slice_get (stand_ins ++ i ∷ []) l ≡ Some n → (row left n ≡ row owners n) × (row owners n ≡ row owners l)
      alike l n e = known l n (side l i) e

      below : (l n : ℕ) → (l < i) ⊎ (i ≤ l) → slice_get (stand_ins ++ i ∷ []) l ≡ Some n → n < i + 1
      below l n (inl low) e = omega (arith, s.below l n (sym (get-front stand_ins (i ∷ []) l (omega (arith, low, s.told))) ∙ e))
      below l n (inr past) e = by (which l i)
        where
          some-same : {a b : ℕ} → Some a ≡ Some b → a ≡ b
          some-same h = cc

          by : (l ≡ i) ⊎ (l ≢ i) → n < i + 1
          by (inl same) = omega (arith, some-same (sym (get-last stand_ins i l (same ∙ sym s.told)) ∙ e))
          by (inr apart) = absurd (none-some (sym (get-past (stand_ins ++ i ∷ []) l (omega (arith, past, apart, grow stand_ins i, s.told))) ∙ e))

  -- the last stands for it
  pub by-last : last < i → row left last ≡ row left i → SoFar owners (i + 1) last (slice_set left i []) (stand_ins ++ last ∷ [])
  by-last before same = record {
    stand = record {
      long = set-long left i [] ∙ s.long;
      told = grow stand_ins last ∙ ap suc s.told ∙ omega arith;
      alike = λ l n e. alike l n (side l i) e;
      below = λ l n e. below l n (side l i) e;
      fewer = λ l. fewer l (which l i);
      later = λ l past. row-set left i l [] (omega (arith, past)) ∙ s.later l (omega (arith, past));
    };
    stands = λ low. get-front stand_ins (last ∷ []) last (omega (arith, before, s.told)) ∙ so_far.stands before;
  }
    where
      grow : (xs : List ℕ) (n : ℕ) → length (xs ++ n ∷ []) ≡ suc (length xs)
      grow [] n = refl
      grow (x ∷ xs) n = ap suc (grow xs n)

      some-same : {a b : ℕ} → Some a ≡ Some b → a ≡ b
      some-same h = cc

      -- what stands for an earlier one is an earlier one
      earlier : (n l : ℕ) → n ≢ i → (row left n ≡ row owners n) × (row owners n ≡ row owners l) → (row (slice_set left i []) n ≡ row owners n) × (row owners n ≡ row owners l)
      earlier n l apart two = (row-set left i n [] apart ∙ two.0, two.1)

      alike : (l n : ℕ) → (l < i) ⊎ (i ≤ l) → slice_get (stand_ins ++ last ∷ []) l ≡ Some n → (row (slice_set left i []) n ≡ row owners n) × (row owners n ≡ row owners l)
      alike l n (inl low) e = earlier n l (omega (arith, s.below l n there)) (s.alike l n there)
        where
          there : slice_get stand_ins l ≡ Some n
          there = sym (get-front stand_ins (last ∷ []) l (omega (arith, low, s.told))) ∙ e
      alike l n (inr past) e = by (which l i)
        where
          by : (l ≡ i) ⊎ (l ≢ i) → (row (slice_set left i []) n ≡ row owners n) × (row owners n ≡ row owners l)
          by (inl at) =
              let is : last ≡ n = some-same (sym (get-last stand_ins last l (at ∙ sym s.told)) ∙ e) in
              let two = s.alike last last (so_far.stands before) in
              subst (λ m. (row (slice_set left i []) m ≡ row owners m) × (row owners m ≡ row owners l)) is
              (row-set left i last [] (omega (arith, before)) ∙ two.0, sym two.0 ∙ same ∙ s.later i (omega arith) ∙ ap (row owners) (sym at))
          by (inr apart) = absurd (none-some (sym (get-past (stand_ins ++ last ∷ []) l (omega (arith, past, apart, grow stand_ins last, s.told))) ∙ e))

      below : (l n : ℕ) → (l < i) ⊎ (i ≤ l) → slice_get (stand_ins ++ last ∷ []) l ≡ Some n → n < i + 1
      below l n (inl low) e = omega (arith, s.below l n (sym (get-front stand_ins (last ∷ []) l (omega (arith, low, s.told))) ∙ e))
      below l n (inr past) e = by (which l i)
        where
          by : (l ≡ i) ⊎ (l ≢ i) → n < i + 1
          by (inl at) = omega (arith, before, some-same (sym (get-last stand_ins last l (at ∙ sym s.told)) ∙ e))
          by (inr apart) = absurd (none-some (sym (get-past (stand_ins ++ last ∷ []) l (omega (arith, past, apart, grow stand_ins last, s.told))) ∙ e))

      fewer : (l : ℕ) → (l ≡ i) ⊎ (l ≢ i) → (row (slice_set left i []) l ≡ row owners l) ⊎ (row (slice_set left i []) l ≡ [])
      fewer l (inl at) = inr (ap (row (slice_set left i [])) at ∙ row-here left i)
      fewer l (inr apart) = by (s.fewer l)
        where
          by : (row left l ≡ row owners l) ⊎ (row left l ≡ []) → (row (slice_set left i []) l ≡ row owners l) ⊎ (row (slice_set left i []) l ≡ [])
          by (inl e) = inl (row-set left i l [] apart ∙ e)
          by (inr e) = inr (row-set left i l [] apart ∙ e)

-- ---- what comes of it

module _ (callers owners left : List (List ℕ)) (stand_ins : List ℕ) (s : StandFor owners (length owners) left stand_ins) where
  pub owners-low : (bound : ℕ) → ((l f : ℕ) → has f (row owners l) ≡ true → f < bound) → (l f : ℕ) → has f (row left l) ≡ true → f < bound
  owners-low bound low l f h = by (s.fewer l)
    where
      nothing : has f [] ≡ true → ⊥
      nothing e = cc

      by : (row left l ≡ row owners l) ⊎ (row left l ≡ []) → f < bound
      by (inl e) = low l f (sym (ap (has f) e) ∙ h)
      by (inr e) = absurd (nothing (sym (ap (has f) e) ∙ h))

  nowhere : (f : ℕ) → Reached callers [] f → ⊥
  nowhere f (start h) = nothing h
    where
      nothing : has f [] ≡ true → ⊥
      nothing e = cc
  nowhere f (onward {mid} r h) = nowhere mid r

  past-end : (lists : List (List ℕ)) (k : ℕ) → length lists ≤ k → row lists k ≡ []
  past-end [] k past = refl
  past-end (xs ∷ lists) zero past = absurd (omega arith)
  past-end (xs ∷ lists) (suc k) past = past-end lists k (omega arith)

  pub accessed-are : (sets : List (List ℕ)) (a : AccessSets) → a.stand_ins ≡ stand_ins → a.sets ≡ sets → ((f k : ℕ) → (has k (row sets f) ≡ true) ↔ Reached callers (row left k) f) → (f l : ℕ) → (accesses a f l ≡ true) ↔ Reached callers (row owners l) f
  accessed-are sets a these those exact f l = by (side l (length owners))
    where
      false-true : false ≡ true → ⊥
      false-true e = cc

      same-set : accesses a f l ≡ stood_for (row sets f) (slice_get stand_ins l)
      same-set = ap (λ xs. stood_for (row xs f) (slice_get a.stand_ins l)) those ∙ ap (λ ns. stood_for (row sets f) (slice_get ns l)) these

      by : (l < length owners) ⊎ (length owners ≤ l) → (accesses a f l ≡ true) ↔ Reached callers (row owners l) f
      by (inl low) =
          let one = get-there stand_ins l (omega (arith, low, s.told)) in
          let two = s.alike l one.0 one.1 in
          let is : accesses a f l ≡ has one.0 (row sets f) = same-set ∙ ap (stood_for (row sets f)) one.1 in
          let same : row left one.0 ≡ row owners l = two.0 ∙ two.1 in (
            λ h. subst (λ xs. Reached callers xs f) same ((exact f one.0).0 (sym is ∙ h)),
            λ r. is ∙ (exact f one.0).1 (subst (λ xs. Reached callers xs f) (sym same) r),
          )
      by (inr past) =
          let is : accesses a f l ≡ false = same-set ∙ ap (stood_for (row sets f)) (get-past stand_ins l (omega (arith, past, s.told))) in
          (λ h. absurd (false-true (sym is ∙ h)), λ r. absurd (nowhere f (subst (λ xs. Reached callers xs f) (past-end owners l past) r)))
