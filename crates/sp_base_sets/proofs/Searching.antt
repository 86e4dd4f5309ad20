-- Each step of a search for numbers that lead to themselves keeps what is known of it.
use Rattle.std.proofs.Common.{◌≡◌, ◌≢◌, ◌⊎◌, inl, inr, ℕ, zero, suc, ◌<◌, ◌≤◌, ◌+◌, ◌-◌, true, List, [], ◌∷◌, length, get_or, take, Some, refl, sym, ap, ◌∙◌, subst, arith, length-set, get_or-set_same, get_or-set_other}
use Rattle.std.proofs.lemmas.List.{get_or_append_left, get_or-append-add, get_or-take, length-take-le, length-append}
use Rattle.std.proofs.lemmas.Option.{get_or_from_slice_get, slice_get_past}
use Rattle.std.proofs.Math.Seq.{get_or-append_seam}
use Rattle.sp_base_sets.specs.Sets.{has}
use Rattle.sp_base_sets.specs.Reached.{row, Reached, start, onward, Leads}
use Rattle.sp_base_sets.specs.Circling.{State, no_part, stage_at, open_at, waiting_at, part_at, last_part, entered, AreOpen, Reaches, Looked, is_done, is_open, is_waiting, Source, IsSearchBut, IsSearch, Waits}
use Rattle.sp_base_sets.specs.declared.circles.Stage.{Stage}
use Rattle.sp_base_sets.specs.declared.circles.Stage.TheVariants.{New, Open, Done}
use Rattle.sp_base_sets.specs.declared.circles.Part.{Part}
use Rattle.sp_base_sets.proofs.Members.{which, below, has_there}
use Rattle.sp_base_sets.proofs.Images.{place_of}

-- ---- ways

module _ (lists : List (List ℕ)) where
  along : {xs : List ℕ} {m k : ℕ} → Reached lists xs m → Leads lists m k → Reached lists xs k
  along first (start h) = onward first h
  along first (onward r h) = onward (along first r) h

  pub leads_reaches : {xs : List ℕ} {m k : ℕ} → Reached lists xs m → Reaches lists m k → Reached lists xs k
  leads_reaches {xs} l (inl e) = subst (λ z. Reached lists xs z) e l
  leads_reaches l (inr more) = along l more

  pub reaches_leads : {n m k : ℕ} → Reaches lists n m → Leads lists m k → Leads lists n k
  reaches_leads {n} {m} {k} (inl e) l = subst (λ z. Leads lists z k) (sym e) l
  reaches_leads (inr more) l = along more l

-- ---- stages

pub data Kind (s : Stage) : Type 0 where
  new_kind : s ≡ New → Kind s
  open_kind : (p : ℕ) → s ≡ Open p → Kind s
  done_kind : s ≡ Done → Kind s

pub kind_of : (s : Stage) → Kind s
kind_of New = new_kind refl
kind_of (Open p) = open_kind p refl
kind_of Done = done_kind refl

pub same_open : {p q : ℕ} → Open p ≡ Open q → p ≡ q
same_open e = cc

pub new_not_open : {s : Stage} {p : ℕ} → s ≡ New → s ≡ Open p → ⊥
new_not_open e f = let g = sym e ∙ f in absurd cc

pub new_not_done : {s : Stage} → s ≡ New → s ≡ Done → ⊥
new_not_done e f = let g = sym e ∙ f in absurd cc

pub open_not_done : {s : Stage} {p : ℕ} → s ≡ Open p → s ≡ Done → ⊥
open_not_done e f = let g = sym e ∙ f in absurd cc

-- an open number has a list
pub stage_low : (stages : List Stage) (n p : ℕ) → get_or stages n New ≡ Open p → n < length stages
stage_low [] n p e = absurd (new_not_open refl e)
stage_low (s ∷ stages) zero p e = omega arith
stage_low (s ∷ stages) (suc n) p e = omega (arith, stage_low stages n p e)

-- two open numbers at two places are two
pub apart_places : (s : State) → AreOpen s → (p q : ℕ) → p < length s.path → q < length s.path → p ≢ q → open_at s p ≢ open_at s q
apart_places s are p q low high apart e = apart (same_open (sym (are.opened p low) ∙ ap (λ n. stage_at s n) e ∙ are.opened q high))

-- ---- the innermost part

pub record Last (s : State) (part : Part) : Type 0 where
  pub index : ℕ
  pub long : length s.parts ≡ index + 1
  pub is : part_at s index ≡ part

pub last_of : (s : State) (part : Part) → last_part s.parts ≡ Some part → Last s part
last_of s part e = by s.parts refl
  where
    by : (ps : List Part) → s.parts ≡ ps → Last s part
    by [] none =
        let past = slice_get_past s.parts (length s.parts - 1) (omega (arith, ap length none)) in
        let both = sym past ∙ e in
        absurd cc
    by (p ∷ ps) some = record {
      index = length s.parts - 1;
      long = omega (arith, ap length some);
      is = get_or_from_slice_get s.parts (length s.parts - 1) part no_part e;
    }

-- each part begins no later than the last
pub rises_to : (lists : List (List ℕ)) (s : State) {Else : ℕ → Type 0} → IsSearchBut lists s Else → (i j : ℕ) → i ≤ j → j < length s.parts → ((part_at s i).start ≤ (part_at s j).start) × ((part_at s i).waiting ≤ (part_at s j).waiting)
rises_to lists s is i j le low = by (which i j)
  where
    by : (i ≡ j) ⊎ (i ≢ j) → ((part_at s i).start ≤ (part_at s j).start) × ((part_at s i).waiting ≤ (part_at s j).waiting)
    by (inl e) = (omega (arith, ap (λ k. (part_at s k).start) e), omega (arith, ap (λ k. (part_at s k).waiting) e))
    by (inr apart) = let up = is.rises i j (omega (arith, apart)) low in (omega (arith, up.0), up.1)

-- where the last part begins there is an open number, which has a list
pub starts_there : (lists : List (List ℕ)) (s : State) (part : Part) → IsSearch lists s → last_part s.parts ≡ Some part → (part.start < length s.path) × (open_at s part.start < length lists)
starts_there lists s part is e =
    let last = last_of s part e in
    let within = is.within last.index (omega (arith, last.long)) in
    let low : part.start < length s.path = omega (arith, within.0, ap (λ p. p.start) last.is) in
    (low, omega (arith, stage_low s.stages (open_at s part.start) part.start (is.path.opened part.start low), is.long))

-- ---- a number that came last of those that wait

abbrev pub popped : State → State
popped s = record s { waiting = take (length s.waiting - 1) s.waiting }

-- an open number of the innermost part leads there
pub record From (lists : List (List ℕ)) (s : State) (n : ℕ) : Type 0 where
  pub place : ℕ
  pub low : place < length s.path
  pub leads : has n (row lists (open_at s place)) ≡ true
  pub last : (i : ℕ) → i < length s.parts → (part_at s i).start ≤ place

module _ (lists : List (List ℕ)) (s : State) (is : IsSearch lists s) (waits : Waits s) where
  last_waiting : ℕ
  last_waiting = waiting_at s (length s.waiting - 1)

  all_low : (i : ℕ) → i < length s.parts → (part_at s i).waiting ≤ length s.waiting - 1
  all_low i low =
      let last = last_of s waits.0 waits.1 in
      let up = rises_to lists s is i last.index (omega (arith, last.long)) (omega (arith, last.long)) in
      omega (arith, up.1, ap (λ p. p.waiting) last.is, waits.2)

  some : 0 < length s.waiting
  some = omega (arith, waits.2)

  long : length (popped s).waiting ≡ length s.waiting - 1
  long = length-take-le (length s.waiting - 1) s.waiting (omega (arith, some))

  kept : (k : ℕ) → k < length s.waiting - 1 → waiting_at (popped s) k ≡ waiting_at s k
  kept k low = get_or-take (length s.waiting - 1) s.waiting k 0 low

  looked : (i n : ℕ) → Looked s i n → Looked (popped s) i n ⊎ (n ≡ waiting_at s (length s.waiting - 1))
  looked i n (is_done e) = inl (is_done e)
  looked i n (is_open q e le) = inl (is_open q e le)
  looked i n (is_waiting k le low e) = by (which k (length s.waiting - 1))
    where
      by : (k ≡ length s.waiting - 1) ⊎ (k ≢ length s.waiting - 1) → Looked (popped s) i n ⊎ (n ≡ waiting_at s (length s.waiting - 1))
      by (inl f) = inr (sym e ∙ ap (λ j. waiting_at s j) f)
      by (inr apart) = let less : k < length s.waiting - 1 = omega (arith, low, apart) in inl (is_waiting k le (omega (arith, less, long)) (kept k less ∙ e))

  pub popped_search : IsSearchBut lists (popped s) (λ n. n ≡ waiting_at s (length s.waiting - 1))
  popped_search = record {
    path = record { placed = is.path.placed; opened = is.path.opened; marks_long = is.path.marks_long };
    long = is.long;
    done = is.done;
    marked = is.marked;
    rises = is.rises;
    within = λ i low. ((is.within i low).0, omega (arith, all_low i low, long));
    leads = is.leads;
    behind = λ i p n low le there h. elim (is.behind i p n low le there h) [
      | inl l ↦ looked i n l
      | inr never ↦ absurd never
    ];
    source = λ k low.
        let less : k < length s.waiting - 1 = omega (arith, low, long) in
        let old = is.source k (omega (arith, less)) in
        record { place = old.place; low = old.low; leads = ap (λ n. has n (row lists (open_at s old.place))) (kept k less) ∙ old.leads; behind = old.behind; before = old.before };
    covered = is.covered;
  }

  pub popped_from : From lists (popped s) (waiting_at s (length s.waiting - 1))
  popped_from =
      let old = is.source (length s.waiting - 1) (omega (arith, some)) in
      record { place = old.place; low = old.low; leads = old.leads; last = λ i low. old.behind i low (all_low i low) }

-- ---- a number that is done

pub done_search : (lists : List (List ℕ)) (s : State) (n : ℕ) → IsSearchBut lists s (λ m. m ≡ n) → stage_at s n ≡ Done → IsSearch lists s
done_search lists s n is done = record {
  path = is.path;
  long = is.long;
  done = is.done;
  marked = is.marked;
  rises = is.rises;
  within = is.within;
  leads = is.leads;
  behind = λ i p m low le there h. elim (is.behind i p m low le there h) [
    | inl l ↦ inl l
    | inr e ↦ inl (is_done (ap (λ k. stage_at s k) e ∙ done))
  ];
  source = is.source;
  covered = is.covered;
}

-- ---- a new number

module _ (lists : List (List ℕ)) (s : State) (n : ℕ) (low : n < length lists) (is : IsSearchBut lists s (λ m. m ≡ n)) (new : stage_at s n ≡ New) (to : (p : ℕ) → p < length s.path → Leads lists (open_at s p) n) where
  abbrev t : State
  t = entered lists s n

  stage_here : stage_at t n ≡ Open (length s.path)
  stage_here = get_or-set_same s.stages n (Open (length s.path)) New (omega (arith, low, is.long))

  stage_else : (m : ℕ) → m ≢ n → stage_at t m ≡ stage_at s m
  stage_else m apart = get_or-set_other s.stages n m (Open (length s.path)) New apart

  apart_open : (m p : ℕ) → stage_at s m ≡ Open p → m ≢ n
  apart_open m p e f = new_not_open (ap (λ k. stage_at s k) f ∙ new) e

  apart_done : (m : ℕ) → stage_at s m ≡ Done → m ≢ n
  apart_done m e f = new_not_done (ap (λ k. stage_at s k) f ∙ new) e

  open_long : length t.path ≡ length s.path + 1
  open_long = length-append s.path (n ∷ [])

  waiting_long : length t.waiting ≡ length s.waiting + length (row lists n)
  waiting_long = length-append s.waiting (row lists n)

  parts_long : length t.parts ≡ length s.parts + 1
  parts_long = length-append s.parts (record { start = length s.path; waiting = length s.waiting } ∷ [])

  open_old : (p : ℕ) → p < length s.path → open_at t p ≡ open_at s p
  open_old p h = get_or_append_left s.path (n ∷ []) 0 p h

  open_new : (p : ℕ) → p ≡ length s.path → open_at t p ≡ n
  open_new p e = ap (λ k. open_at t k) e ∙ get_or-append_seam s.path n [] 0

  waiting_old : (k : ℕ) → k < length s.waiting → waiting_at t k ≡ waiting_at s k
  waiting_old k h = get_or_append_left s.waiting (row lists n) 0 k h

  waiting_new : (j : ℕ) → waiting_at t (length s.waiting + j) ≡ get_or (row lists n) j 0
  waiting_new j = get_or-append-add s.waiting (row lists n) j 0

  part_old : (i : ℕ) → i < length s.parts → part_at t i ≡ part_at s i
  part_old i h = get_or_append_left s.parts (record { start = length s.path; waiting = length s.waiting } ∷ []) no_part i h

  part_new : (i : ℕ) → i ≡ length s.parts → part_at t i ≡ record { start = length s.path; waiting = length s.waiting }
  part_new i e = ap (λ k. part_at t k) e ∙ get_or-append_seam s.parts (record { start = length s.path; waiting = length s.waiting }) [] no_part

  start_old : (i : ℕ) → i < length s.parts → (part_at t i).start ≡ (part_at s i).start
  start_old i h = ap (λ p. p.start) (part_old i h)

  waits_old : (i : ℕ) → i < length s.parts → (part_at t i).waiting ≡ (part_at s i).waiting
  waits_old i h = ap (λ p. p.waiting) (part_old i h)

  start_new : (i : ℕ) → i ≡ length s.parts → (part_at t i).start ≡ length s.path
  start_new i h = ap (λ p. p.start) (part_new i h)

  waits_new : (i : ℕ) → i ≡ length s.parts → (part_at t i).waiting ≡ length s.waiting
  waits_new i h = ap (λ p. p.waiting) (part_new i h)

  -- of one more than so many
  side : (k m long : ℕ) → k < long → long ≡ m + 1 → (k < m) ⊎ (k ≡ m)
  side k m long h e = by (which k m)
    where
      by : (k ≡ m) ⊎ (k ≢ m) → (k < m) ⊎ (k ≡ m)
      by (inl f) = inr f
      by (inr apart) = inl (omega (arith, h, e, apart))

  entered_open : AreOpen t
  entered_open = record {
    placed = λ m p e. placed m p e (which m n);
    opened = λ p h. opened p (side p (length s.path) (length t.path) h open_long);
    marks_long = is.path.marks_long ∙ sym (length-set s.stages n (Open (length s.path)));
  }
    where
      placed : (m p : ℕ) → stage_at t m ≡ Open p → (m ≡ n) ⊎ (m ≢ n) → (p < length t.path) × (open_at t p ≡ m)
      placed m p e (inl f) =
          let here : length s.path ≡ p = same_open (sym stage_here ∙ ap (λ k. stage_at t k) (sym f) ∙ e) in
          (omega (arith, here, open_long), open_new p (sym here) ∙ sym f)
      placed m p e (inr apart) =
          let old = is.path.placed m p (sym (stage_else m apart) ∙ e) in
          (omega (arith, old.0, open_long), open_old p old.0 ∙ old.1)

      opened : (p : ℕ) → (p < length s.path) ⊎ (p ≡ length s.path) → stage_at t (open_at t p) ≡ Open p
      opened p (inl h) =
          let old = is.path.opened p h in
          ap (λ k. stage_at t k) (open_old p h) ∙ stage_else (open_at s p) (apart_open (open_at s p) p old) ∙ old
      opened p (inr e) = ap (λ k. stage_at t k) (open_new p e) ∙ stage_here ∙ ap (λ k. Open k) (sym e)

  entered_done : (m : ℕ) → stage_at t m ≡ Done → (m ≢ n) × (stage_at s m ≡ Done)
  entered_done m e = by (which m n)
    where
      by : (m ≡ n) ⊎ (m ≢ n) → (m ≢ n) × (stage_at s m ≡ Done)
      by (inl f) = absurd (open_not_done stage_here (ap (λ k. stage_at t k) (sym f) ∙ e))
      by (inr apart) = (apart, sym (stage_else m apart) ∙ e)

  entered_leads : (p q : ℕ) → ((i : ℕ) → i < length t.parts → (part_at t i).start ≤ p → (part_at t i).start ≤ q) → (p < length s.path) ⊎ (p ≡ length s.path) → (q < length s.path) ⊎ (q ≡ length s.path) → Reaches lists (open_at t p) (open_at t q)
  entered_leads p q up (inl h) (inl g) =
      let old = is.leads p q h g (λ i k le. let there = up i (omega (arith, k, parts_long)) (omega (arith, le, start_old i k)) in omega (arith, there, start_old i k)) in
      subst (λ v. Reaches lists v (open_at t q)) (sym (open_old p h)) (subst (λ v. Reaches lists (open_at s p) v) (sym (open_old q g)) old)
  entered_leads p q up (inl h) (inr e) = inr (subst (λ v. Leads lists v (open_at t q)) (sym (open_old p h)) (subst (λ v. Leads lists (open_at s p) v) (sym (open_new q e)) (to p h)))
  entered_leads p q up (inr e) (inl g) =
      let there = up (length s.parts) (omega (arith, parts_long)) (omega (arith, e, start_new (length s.parts) refl)) in
      absurd (omega (arith, there, g, start_new (length s.parts) refl))
  entered_leads p q up (inr e) (inr f) = inl (open_new p e ∙ sym (open_new q f))

  -- what the new number leads to waits
  own : (i m : ℕ) → (part_at t i).waiting ≤ length s.waiting → has m (row lists n) ≡ true → Looked t i m
  own i m le h =
      let one = place_of (row lists n) m h in
      is_waiting (length s.waiting + one.0) (omega (arith, le)) (omega (arith, one.1, waiting_long)) (waiting_new one.0 ∙ one.2)

  looked_still : (i m : ℕ) → i < length s.parts → Looked s i m → Looked t i m
  looked_still i m low (is_done e) = is_done (stage_else m (apart_done m e) ∙ e)
  looked_still i m low (is_open q e le) = is_open q (stage_else m (apart_open m q e) ∙ e) (omega (arith, le, start_old i low))
  looked_still i m low (is_waiting k le h e) = is_waiting k (omega (arith, le, waits_old i low)) (omega (arith, h, waiting_long)) (waiting_old k h ∙ e)

  here_now : (i m : ℕ) → i < length s.parts → m ≡ n → Looked t i m
  here_now i m low e = is_open (length s.path) (ap (λ k. stage_at t k) e ∙ stage_here) (omega (arith, (is.within i low).0, start_old i low))

  entered_behind : (i p m : ℕ) → (part_at t i).start ≤ p → has m (row lists (open_at t p)) ≡ true → (i < length s.parts) ⊎ (i ≡ length s.parts) → (p < length s.path) ⊎ (p ≡ length s.path) → Looked t i m
  entered_behind i p m le h (inl low) (inl there) =
      elim (is.behind i p m low (omega (arith, le, start_old i low)) there (sym (ap (λ k. has m (row lists k)) (open_old p there)) ∙ h)) [
        | inl l ↦ looked_still i m low l
        | inr e ↦ here_now i m low e
      ]
  entered_behind i p m le h (inl low) (inr e) = own i m (omega (arith, (is.within i low).1, waits_old i low)) (sym (ap (λ k. has m (row lists k)) (open_new p e)) ∙ h)
  entered_behind i p m le h (inr f) (inl there) = absurd (omega (arith, le, there, start_new i f))
  entered_behind i p m le h (inr f) (inr e) = own i m (omega (arith, waits_new i f)) (sym (ap (λ k. has m (row lists k)) (open_new p e)) ∙ h)

  source_old : (k : ℕ) → k < length s.waiting → Source lists t k
  source_old k h =
      let old = is.source k h in
      record {
        place = old.place;
        low = omega (arith, old.low, open_long);
        leads = ap (λ v. has v (row lists (open_at t old.place))) (waiting_old k h) ∙ ap (λ v. has (waiting_at s k) (row lists v)) (open_old old.place old.low) ∙ old.leads;
        behind = λ i low le. behind old i le (side i (length s.parts) (length t.parts) low parts_long);
        before = λ i low less. before old i less (side i (length s.parts) (length t.parts) low parts_long);
      }
    where
      behind : (old : Source lists s k) (i : ℕ) → (part_at t i).waiting ≤ k → (i < length s.parts) ⊎ (i ≡ length s.parts) → (part_at t i).start ≤ old.place
      behind old i le (inl low) = let there = old.behind i low (omega (arith, le, waits_old i low)) in omega (arith, there, start_old i low)
      behind old i le (inr e) = absurd (omega (arith, le, h, waits_new i e))

      before : (old : Source lists s k) (i : ℕ) → k < (part_at t i).waiting → (i < length s.parts) ⊎ (i ≡ length s.parts) → old.place < (part_at t i).start
      before old i less (inl low) = let there = old.before i low (omega (arith, less, waits_old i low)) in omega (arith, there, start_old i low)
      before old i less (inr e) = omega (arith, old.low, start_new i e)

  source_new : (j : ℕ) → j < length (row lists n) → Source lists t (length s.waiting + j)
  source_new j h = record {
    place = length s.path;
    low = omega (arith, open_long);
    leads = ap (λ v. has v (row lists (open_at t (length s.path)))) (waiting_new j) ∙ ap (λ v. has (get_or (row lists n) j 0) (row lists v)) (open_new (length s.path) refl) ∙ has_there (row lists n) (get_or (row lists n) j 0) j h refl;
    behind = λ i low le. behind i (side i (length s.parts) (length t.parts) low parts_long);
    before = λ i low less. absurd (before i less (side i (length s.parts) (length t.parts) low parts_long));
  }
    where
      behind : (i : ℕ) → (i < length s.parts) ⊎ (i ≡ length s.parts) → (part_at t i).start ≤ length s.path
      behind i (inl low) = omega (arith, (is.within i low).0, start_old i low)
      behind i (inr e) = omega (arith, start_new i e)

      before : (i : ℕ) → length s.waiting + j < (part_at t i).waiting → (i < length s.parts) ⊎ (i ≡ length s.parts) → ⊥
      before i less (inl low) = omega (arith, less, (is.within i low).1, waits_old i low)
      before i less (inr e) = omega (arith, less, waits_new i e)

  source_at : (k : ℕ) → k < length t.waiting → (k < length s.waiting) ⊎ (length s.waiting ≤ k) → Source lists t k
  source_at k h (inl low) = source_old k low
  source_at k h (inr le) = subst (λ v. Source lists t v) (omega (arith, le)) (source_new (k - length s.waiting) (omega (arith, h, le, waiting_long)))

  rises : (i j : ℕ) → i < j → (j < length s.parts) ⊎ (j ≡ length s.parts) → ((part_at t i).start < (part_at t j).start) × ((part_at t i).waiting ≤ (part_at t j).waiting)
  rises i j less (inl low) =
      let first : i < length s.parts = omega (arith, less, low) in
      let old = is.rises i j less low in
      (omega (arith, old.0, start_old i first, start_old j low), omega (arith, old.1, waits_old i first, waits_old j low))
  rises i j less (inr e) =
      let first : i < length s.parts = omega (arith, less, e) in
      let old = is.within i first in
      (omega (arith, old.0, start_old i first, start_new j e), omega (arith, old.1, waits_old i first, waits_new j e))

  within : (i : ℕ) → (i < length s.parts) ⊎ (i ≡ length s.parts) → ((part_at t i).start < length t.path) × ((part_at t i).waiting ≤ length t.waiting)
  within i (inl low) = let old = is.within i low in (omega (arith, old.0, open_long, start_old i low), omega (arith, old.1, waiting_long, waits_old i low))
  within i (inr e) = (omega (arith, open_long, start_new i e), omega (arith, waiting_long, waits_new i e))

  covered : (p : ℕ) → (p < length s.path) ⊎ (p ≡ length s.path) → (i : ℕ) × (i < length t.parts) × ((part_at t i).start ≤ p)
  covered p (inl h) = let old = is.covered p h in (old.0, omega (arith, old.1, parts_long), omega (arith, old.2, start_old old.0 old.1))
  covered p (inr e) = (length s.parts, omega (arith, parts_long), omega (arith, e, start_new (length s.parts) refl))

  pub entered_search : IsSearch lists (entered lists s n)
  entered_search = record {
    path = entered_open;
    long = length-set s.stages n (Open (length s.path)) ∙ is.long;
    done = λ m k e h.
        let old = entered_done m e in
        let there = is.done m k old.1 h in
        stage_else k (apart_done k there) ∙ there;
    marked = λ m e. is.marked m (entered_done m e).1;
    rises = λ i j less low. rises i j less (side j (length s.parts) (length t.parts) low parts_long);
    within = λ i low. within i (side i (length s.parts) (length t.parts) low parts_long);
    leads = λ p q h g up. entered_leads p q up (side p (length s.path) (length t.path) h open_long) (side q (length s.path) (length t.path) g open_long);
    behind = λ i p m low le there h. inl (entered_behind i p m le h (side i (length s.parts) (length t.parts) low parts_long) (side p (length s.path) (length t.path) there open_long));
    source = λ k h. source_at k h (below k (length s.waiting));
    covered = λ p h. covered p (side p (length s.path) (length t.path) h open_long);
  }

-- ---- an open number

module _ (lists : List (List ℕ)) (s : State) (n place : ℕ) (is : IsSearchBut lists s (λ m. m ≡ n)) (from : From lists s n) (there : stage_at s n ≡ Open place) (kept : ℕ) (few : kept ≤ length s.parts)
    (last : (i : ℕ) → i + 1 ≡ kept → (part_at s i).start ≤ place) (past : (i : ℕ) → kept ≤ i → i < length s.parts → place < (part_at s i).start) where
  abbrev j : State
  j = record s { parts = take kept s.parts }

  joined_long : length j.parts ≡ kept
  joined_long = length-take-le kept s.parts few

  part_same : (i : ℕ) → i < kept → part_at j i ≡ part_at s i
  part_same i low = get_or-take kept s.parts i no_part low

  start_same : (i : ℕ) → i < kept → (part_at j i).start ≡ (part_at s i).start
  start_same i low = ap (λ p. p.start) (part_same i low)

  waits_same : (i : ℕ) → i < kept → (part_at j i).waiting ≡ (part_at s i).waiting
  waits_same i low = ap (λ p. p.waiting) (part_same i low)

  -- the parts that are kept begin no later than the place, and only they
  early : (i : ℕ) → i < kept → (part_at s i).start ≤ place
  early i low =
      let up = rises_to lists s is i (kept - 1) (omega (arith, low)) (omega (arith, low, few)) in
      omega (arith, up.0, last (kept - 1) (omega (arith, low)))

  is_kept : (i : ℕ) → i < length s.parts → (part_at s i).start ≤ place → i < kept
  is_kept i low le = by (below i kept)
    where
      by : (i < kept) ⊎ (kept ≤ i) → i < kept
      by (inl h) = h
      by (inr h) = absurd (omega (arith, le, past i h low))

  here : (place < length s.path) × (open_at s place ≡ n)
  here = is.path.placed n place there

  joined_leads : (p q : ℕ) → p < length s.path → q < length s.path → ((i : ℕ) → i < kept → (part_at s i).start ≤ p → (part_at s i).start ≤ q) → (p < place) ⊎ (place ≤ p) → Reaches lists (open_at s p) (open_at s q)
  joined_leads p q h g up (inl less) = is.leads p q h g (λ i low le. up i (is_kept i low (omega (arith, le, less))) le)
  joined_leads p q h g up (inr le) =
      let first = is.leads p from.place h from.low (λ i low f. from.last i low) in
      let back : Leads lists (open_at s from.place) (open_at s place) = subst (λ v. Leads lists (open_at s from.place) v) (sym here.1) (start from.leads) in
      let onward = is.leads place q here.0 g (λ i low f. up i (is_kept i low f) (omega (arith, f, le))) in
      inr (leads_reaches lists (reaches_leads lists first back) onward)

  looked_joined : (i m : ℕ) → i < kept → Looked s i m ⊎ (m ≡ n) → Looked j i m
  looked_joined i m low (inl (is_done e)) = is_done e
  looked_joined i m low (inl (is_open q e le)) = is_open q e (omega (arith, le, start_same i low))
  looked_joined i m low (inl (is_waiting k le h e)) = is_waiting k (omega (arith, le, waits_same i low)) h e
  looked_joined i m low (inr e) = is_open place (ap (λ k. stage_at s k) e ∙ there) (omega (arith, early i low, start_same i low))

  joined_covered : (p : ℕ) → p < length s.path → (i : ℕ) × (i < kept) × ((part_at s i).start ≤ p)
  joined_covered p h =
      let old = is.covered p h in
      let at_place = is.covered place here.0 in
      let first = is_kept at_place.0 at_place.1 at_place.2 in
      by old.0 old.1 old.2 at_place.0 at_place.2 first (below old.0 kept)
    where
      by : (i : ℕ) → i < length s.parts → (part_at s i).start ≤ p → (k : ℕ) → (part_at s k).start ≤ place → k < kept → (i < kept) ⊎ (kept ≤ i) → (i : ℕ) × (i < kept) × ((part_at s i).start ≤ p)
      by i low le k f first (inl g) = (i, g, le)
      by i low le k f first (inr g) = (k, first, omega (arith, f, past i g low, le))

  pub joined_search : IsSearch lists (record s { parts = take kept s.parts })
  joined_search = record {
    path = record { placed = is.path.placed; opened = is.path.opened; marks_long = is.path.marks_long };
    long = is.long;
    done = is.done;
    marked = is.marked;
    rises = λ a b less low.
        let high : b < kept = omega (arith, low, joined_long) in
        let first : a < kept = omega (arith, less, high) in
        let old = is.rises a b less (omega (arith, high, few)) in
        (omega (arith, old.0, start_same a first, start_same b high), omega (arith, old.1, waits_same a first, waits_same b high));
    within = λ i low.
        let k : i < kept = omega (arith, low, joined_long) in
        let old = is.within i (omega (arith, k, few)) in
        (omega (arith, old.0, start_same i k), omega (arith, old.1, waits_same i k));
    leads = λ p q h g up. joined_leads p q h g (λ i k le. let there = up i (omega (arith, k, joined_long)) (omega (arith, le, start_same i k)) in omega (arith, there, start_same i k)) (below p place);
    behind = λ i p m low le h g.
        let k : i < kept = omega (arith, low, joined_long) in
        inl (looked_joined i m k (is.behind i p m (omega (arith, k, few)) (omega (arith, le, start_same i k)) h g));
    source = λ k h.
        let old = is.source k h in
        record {
          place = old.place;
          low = old.low;
          leads = old.leads;
          behind = λ i low le. let f : i < kept = omega (arith, low, joined_long) in let there = old.behind i (omega (arith, f, few)) (omega (arith, le, waits_same i f)) in omega (arith, there, start_same i f);
          before = λ i low less. let f : i < kept = omega (arith, low, joined_long) in let there = old.before i (omega (arith, f, few)) (omega (arith, less, waits_same i f)) in omega (arith, there, start_same i f);
        };
    covered = λ p h. let old = joined_covered p h in (old.0, omega (arith, old.1, joined_long), omega (arith, old.2, start_same old.0 old.1));
  }
