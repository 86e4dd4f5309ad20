-- The innermost part of a search ends: its numbers are done.
use Rattle.std.proofs.Common.{◌≡◌, ◌≢◌, ◌⊎◌, inl, inr, ◌↔◌, ℕ, zero, suc, ◌<◌, ◌≤◌, ◌+◌, ◌-◌, Bool, true, false, List, [], ◌∷◌, length, get_or, take, set, Some, refl, sym, ap, ◌∙◌, subst, arith, length-set, get_or-set_same, get_or-set_other}
use Rattle.std.proofs.lemmas.Bool.{false≢true}
use Rattle.std.proofs.lemmas.List.{get_or-take, length-take-le, take_all}
use Rattle.std.proofs.lemmas.List.Sums.{sum_by-set}
use Rattle.sp_base_sets.specs.Sets.{has}
use Rattle.sp_base_sets.specs.Reached.{row, Reached, start, onward, Leads}
use Rattle.sp_base_sets.specs.Circling.{State, no_part, stage_at, mark_at, open_at, waiting_at, part_at, last_part, weight, Settled, Ends, AreOpen, Reaches, Looked, is_done, is_open, is_waiting, Source, IsSearch, GoesOn}
use Rattle.sp_base_sets.specs.declared.circles.Stage.TheVariants.{New, Open, Done}
use Rattle.sp_base_sets.specs.declared.circles.Part.{Part}
use Rattle.sp_base_sets.proofs.Members.{which, below}
use Rattle.sp_base_sets.proofs.Searching.{leads_reaches, Kind, kind_of, new_kind, open_kind, done_kind, same_open, new_not_open, new_not_done, open_not_done, stage_low, apart_places, last_of, rises_to}

-- ---- numbers that are done one after another

module _ (m : ℕ) (mark : Bool) (old new : State) (are : AreOpen old) (is : Settled m mark old new) where
  -- what became of a number
  data Became (n : ℕ) : Type 0 where
    stayed : stage_at new n ≡ stage_at old n → mark_at new n ≡ mark_at old n → ((p : ℕ) → stage_at old n ≡ Open p → p < m) → Became n
    settled : (p : ℕ) → stage_at old n ≡ Open p → m ≤ p → stage_at new n ≡ Done → mark_at new n ≡ mark → Became n

  became : (n : ℕ) → Became n
  became n = by (kind_of (stage_at old n))
    where
      stays : ((p : ℕ) → stage_at old n ≡ Open p → p < m) → Became n
      stays before = let same = is.others n before in stayed same.0 same.1 before

      by_place : (p : ℕ) → stage_at old n ≡ Open p → (p < m) ⊎ (m ≤ p) → Became n
      by_place p e (inl less) = stays (λ q f. let same = same_open (sym e ∙ f) in omega (arith, less, same))
      by_place p e (inr le) = let now = is.settled n p e le in settled p e le now.0 now.1

      by : Kind (stage_at old n) → Became n
      by (new_kind e) = stays (λ p f. absurd (new_not_open e f))
      by (open_kind p e) = by_place p e (below p m)
      by (done_kind e) = stays (λ p f. absurd (open_not_done f e))

  -- what is open still
  still_open : (n p : ℕ) → stage_at new n ≡ Open p → (stage_at old n ≡ Open p) × (p < m)
  still_open n p e = by (became n)
    where
      by : Became n → (stage_at old n ≡ Open p) × (p < m)
      by (stayed same marks before) = let was = sym same ∙ e in (was, before p was)
      by (settled q was le now marks) = absurd (open_not_done e now)

  pub settled_goes_on : GoesOn old new
  settled_goes_on n known now = by (became n)
    where
      by : Became n → ⊥
      by (stayed same marks before) = known (sym same ∙ now)
      by (settled q was le there marks) = new_not_done now there

  module _ (few : m ≤ length old.path) where
    new_long : length new.path ≡ m
    new_long = ap length is.path ∙ length-take-le m old.path few

    open_same : (p : ℕ) → p < m → open_at new p ≡ open_at old p
    open_same p low = ap (λ xs. get_or xs p 0) is.path ∙ get_or-take m old.path p 0 low

    open_stays : (p : ℕ) → p < m → stage_at new (open_at old p) ≡ Open p
    open_stays p low =
        let was = are.opened p (omega (arith, low, few)) in
        (is.others (open_at old p) (λ q e. let same = same_open (sym was ∙ e) in omega (arith, low, same))).0 ∙ was

    pub settled_open : AreOpen new
    settled_open = record {
      placed = λ n p e.
          let was = still_open n p e in
          (omega (arith, was.1, new_long), open_same p was.1 ∙ (are.placed n p was.0).1);
      opened = λ p low. let h : p < m = omega (arith, low, new_long) in ap (λ k. stage_at new k) (open_same p h) ∙ open_stays p h;
      marks_long = is.marks_long ∙ are.marks_long ∙ sym is.long;
    }

pub settled_none : (mark : Bool) (s : State) → AreOpen s → Settled (length s.path) mark s s
settled_none mark s are = record {
  long = refl;
  marks_long = refl;
  path = sym (take_all (length s.path) s.path (omega arith));
  waiting = refl;
  settled = λ n p e le. absurd (omega (arith, le, (are.placed n p e).0));
  others = λ n before. (refl, refl);
  weighs = λ each. refl;
}

-- whatever the parts are
pub settled_parts : (m : ℕ) (mark : Bool) (a b : State) (ps : List Part) → Settled m mark a b → Settled m mark a (record b { parts = ps })
settled_parts m mark a b ps is = record { long = is.long; marks_long = is.marks_long; path = is.path; waiting = is.waiting; settled = is.settled; others = is.others; weighs = is.weighs }

-- the last, and then those before it
pub take_take : {A : Type 0} (i k : ℕ) (xs : List A) → i ≤ k → take i (take k xs) ≡ take i xs
take_take zero k xs le = refl
take_take (suc i) zero xs le = absurd (omega arith)
take_take (suc i) (suc k) [] le = refl
take_take (suc i) (suc k) (x ∷ xs) le = ap (λ ys. x ∷ ys) (take_take i k xs (omega arith))

pub settled_more : (m k : ℕ) (mark : Bool) (a b c : State) → AreOpen a → m ≤ k → k ≤ length a.path → Settled k mark a b → Settled m mark b c → Settled m mark a c
settled_more m k mark a b c are le few first second = record {
  long = second.long ∙ first.long;
  marks_long = second.marks_long ∙ first.marks_long;
  path = second.path ∙ ap (λ xs. take m xs) first.path ∙ take_take m k a.path le;
  waiting = second.waiting ∙ first.waiting;
  settled = λ n p e h. settled n p e h (below p k);
  others = λ n before.
      let one = first.others n (λ p e. let there = before p e in omega (arith, there, le)) in
      let two = second.others n (λ p e. before p (sym one.0 ∙ e)) in
      (two.0 ∙ one.0, two.1 ∙ one.1);
  weighs = λ each. second.weighs each ∙ first.weighs each;
}
  where
    settled : (n p : ℕ) → stage_at a n ≡ Open p → m ≤ p → (p < k) ⊎ (k ≤ p) → (stage_at c n ≡ Done) × (mark_at c n ≡ mark)
    settled n p e h (inl less) =
        let one = first.others n (λ q f. let same = same_open (sym e ∙ f) in omega (arith, less, same)) in
        second.settled n p (one.0 ∙ e) h
    settled n p e h (inr more) =
        let one = first.settled n p e more in
        let two = second.others n (λ q f. absurd (open_not_done f one.0)) in
        (two.0 ∙ one.0, two.1 ∙ one.1)

-- one number, the last of those that are open
pub settled_last : (mark : Bool) (s new : State) (n : ℕ) → AreOpen s → 0 < length s.path → n ≡ open_at s (length s.path - 1) → new ≡ record s { stages = set s.stages n Done; marks = set s.marks n mark; path = take (length s.path - 1) s.path } → Settled (length s.path - 1) mark s new
settled_last mark s new n are some at e = subst (λ t. Settled (length s.path - 1) mark s t) (sym e) (record {
  long = length-set s.stages n Done;
  marks_long = length-set s.marks n mark;
  path = refl;
  waiting = refl;
  settled = λ k p f le. settled k (is_last k p f le);
  others = λ k before. others k (λ f. let there = before (length s.path - 1) (ap (λ v. stage_at s v) f ∙ was) in omega (arith, there));
  weighs = λ each. let sum = sum_by-set (weight each) s.stages n Done New low in omega (arith, sum, ap (weight each) was);
})
  where
    was : stage_at s n ≡ Open (length s.path - 1)
    was = ap (λ k. stage_at s k) at ∙ are.opened (length s.path - 1) (omega (arith, some))

    low : n < length s.stages
    low = stage_low s.stages n (length s.path - 1) was

    is_last : (k p : ℕ) → stage_at s k ≡ Open p → length s.path - 1 ≤ p → k ≡ n
    is_last k p f le =
        let old = are.placed k p f in
        sym old.1 ∙ ap (λ v. open_at s v) (omega (arith, le, old.0)) ∙ sym at

    settled : (k : ℕ) → k ≡ n → (get_or (set s.stages n Done) k New ≡ Done) × (get_or (set s.marks n mark) k false ≡ mark)
    settled k f = (
      ap (λ v. get_or (set s.stages n Done) v New) f ∙ get_or-set_same s.stages n Done New low,
      ap (λ v. get_or (set s.marks n mark) v false) f ∙ get_or-set_same s.marks n mark false (omega (arith, low, are.marks_long)),
    )

    others : (k : ℕ) → k ≢ n → (get_or (set s.stages n Done) k New ≡ stage_at s k) × (get_or (set s.marks n mark) k false ≡ mark_at s k)
    others k apart = (get_or-set_other s.stages n k Done New apart, get_or-set_other s.marks n k mark false apart)

-- ---- the part

module _ (lists : List (List ℕ)) (s t : State) (part : Part) (is : IsSearch lists s) (e : last_part s.parts ≡ Some part) (none : length s.waiting ≤ part.waiting) (ends : Ends lists part s t) where
  abbrev top : ℕ
  top = (last_of s part e).index

  parts_long : length s.parts ≡ top + 1
  parts_long = (last_of s part e).long

  top_start : (part_at s top).start ≡ part.start
  top_start = ap (λ p. p.start) (last_of s part e).is

  top_waiting : (part_at s top).waiting ≡ part.waiting
  top_waiting = ap (λ p. p.waiting) (last_of s part e).is

  begins : part.start < length s.path
  begins = omega (arith, (is.within top (omega (arith, parts_long))).0, top_start)

  few : part.start ≤ length s.path
  few = omega (arith, begins)

  what : (n : ℕ) → Became part.start ends.mark s t is.path ends.settled n
  what n = became part.start ends.mark s t is.path ends.settled n

  ended_long : length t.path ≡ part.start
  ended_long = new_long part.start ends.mark s t is.path ends.settled few

  same_open_at : (p : ℕ) → p < part.start → open_at t p ≡ open_at s p
  same_open_at p low = open_same part.start ends.mark s t is.path ends.settled few p low

  ended_parts : length t.parts ≡ top
  ended_parts = ap length ends.parts ∙ length-take-le (length s.parts - 1) s.parts (omega arith) ∙ omega (arith, parts_long)

  part_same : (i : ℕ) → i < top → part_at t i ≡ part_at s i
  part_same i low = ap (λ ps. get_or ps i no_part) ends.parts ∙ get_or-take (length s.parts - 1) s.parts i no_part (omega (arith, low, parts_long))

  start_same : (i : ℕ) → i < top → (part_at t i).start ≡ (part_at s i).start
  start_same i low = ap (λ p. p.start) (part_same i low)

  waits_same : (i : ℕ) → i < top → (part_at t i).waiting ≡ (part_at s i).waiting
  waits_same i low = ap (λ p. p.waiting) (part_same i low)

  same_waiting : (k : ℕ) → waiting_at t k ≡ waiting_at s k
  same_waiting k = ap (λ ks. get_or ks k 0) ends.settled.waiting

  waiting_long : length t.waiting ≡ length s.waiting
  waiting_long = ap length ends.settled.waiting

  starts_low : (i : ℕ) → i < length s.parts → (part_at s i).start ≤ part.start
  starts_low i low = let up = rises_to lists s is i top (omega (arith, low, parts_long)) (omega (arith, parts_long)) in omega (arith, up.0, top_start)

  -- what was done is done
  done_still : (n : ℕ) → stage_at s n ≡ Done → stage_at t n ≡ Done
  done_still n was = by (what n)
    where
      by : Became part.start ends.mark s t is.path ends.settled n → stage_at t n ≡ Done
      by (stayed same marks before) = same ∙ was
      by (settled p f le now marks) = now

  open_done : (n p : ℕ) → stage_at s n ≡ Open p → part.start ≤ p → stage_at t n ≡ Done
  open_done n p was le = (ends.settled.settled n p was le).0

  -- in the part each number leads to each
  module _ (p q : ℕ) (low : p < length s.path) (high : q < length s.path) (p_le : part.start ≤ p) (q_le : part.start ≤ q) where
    within_part : Reaches lists (open_at s p) (open_at s q)
    within_part = is.leads p q low high (λ i h le. let up = starts_low i h in omega (arith, up, q_le))

  two_lead : (p q : ℕ) → p < length s.path → q < length s.path → part.start ≤ p → part.start ≤ q → p ≢ q → Leads lists (open_at s p) (open_at s p)
  two_lead p q low high p_le q_le apart = by (within_part p q low high p_le q_le)
    where
      by : Reaches lists (open_at s p) (open_at s q) → Leads lists (open_at s p) (open_at s p)
      by (inl f) = absurd (apart_places s is.path p q low high apart f)
      by (inr l) = leads_reaches lists l (within_part q p high low q_le p_le)

  circle_leads : (p : ℕ) → p < length s.path → part.start ≤ p → ends.mark ≡ true → Leads lists (open_at s p) (open_at s p)
  circle_leads p low le f = by (which p part.start)
    where
      several : p ≡ part.start → (1 < length s.path - part.start) ⊎ (has (open_at s part.start) (row lists (open_at s part.start)) ≡ true) → Leads lists (open_at s p) (open_at s p)
      several is_start (inl more) = two_lead p (part.start + 1) low (omega (arith, more)) le (omega arith) (λ g. absurd (omega (arith, is_start, g)))
      several is_start (inr own) = subst (λ k. Leads lists (open_at s k) (open_at s k)) (sym is_start) (start own)

      by : (p ≡ part.start) ⊎ (p ≢ part.start) → Leads lists (open_at s p) (open_at s p)
      by (inl is_start) = several is_start (ends.circle f)
      by (inr apart) = two_lead p part.start low begins le (omega arith) apart

  -- what is done leads to what is done
  all_done : (ks : List ℕ) → ((k : ℕ) → has k ks ≡ true → stage_at s k ≡ Done) → (n : ℕ) → Reached lists ks n → stage_at s n ≡ Done
  all_done ks first n (start h) = first n h
  all_done ks first n (onward {mid} r h) = is.done mid n (all_done ks first mid r) h

  -- what the numbers of the part lead to
  behind_part : (p n : ℕ) → p < length s.path → part.start ≤ p → has n (row lists (open_at s p)) ≡ true → (stage_at s n ≡ Done) ⊎ ((q : ℕ) × (stage_at s n ≡ Open q) × (part.start ≤ q))
  behind_part p n low le h = by (is.behind top p n (omega (arith, parts_long)) (omega (arith, le, top_start)) low h)
    where
      by : Looked s top n ⊎ ⊥ → (stage_at s n ≡ Done) ⊎ ((q : ℕ) × (stage_at s n ≡ Open q) × (part.start ≤ q))
      by (inl (is_done f)) = inl f
      by (inl (is_open q f g)) = inr (q, f, omega (arith, g, top_start))
      by (inl (is_waiting k f g x)) = absurd (omega (arith, f, g, none, top_waiting))
      by (inr never) = absurd never

  no_circle : (p : ℕ) → p < length s.path → part.start ≤ p → ends.mark ≡ false → Leads lists (open_at s p) (open_at s p) → ⊥
  no_circle p low le f l =
      let alone = ends.none f in
      let is_start : p ≡ part.start = omega (arith, alone.0, low, le) in
      let done = all_done (row lists (open_at s p)) (λ k h. first k h is_start alone.1 (behind_part p k low le h)) (open_at s p) l in
      open_not_done (is.path.opened p low) done
    where
      first : (k : ℕ) → has k (row lists (open_at s p)) ≡ true → p ≡ part.start → has (open_at s part.start) (row lists (open_at s part.start)) ≡ false → (stage_at s k ≡ Done) ⊎ ((q : ℕ) × (stage_at s k ≡ Open q) × (part.start ≤ q)) → stage_at s k ≡ Done
      first k h is_start lacks (inl g) = g
      first k h is_start lacks (inr x) =
          let old = is.path.placed k x.0 x.1 in
          let same : x.0 ≡ part.start = omega (arith, x.2, old.0, (ends.none f).0) in
          let here : k ≡ open_at s part.start = sym old.1 ∙ ap (λ v. open_at s v) same in
          let again = sym lacks ∙ ap (λ v. has v (row lists (open_at s part.start))) (sym here) ∙ ap (λ v. has k (row lists (open_at s v))) (sym is_start) ∙ h in
          absurd (false≢true again)

  ended_marked : (n : ℕ) → stage_at t n ≡ Done → (mark_at t n ≡ true) ↔ Leads lists n n
  ended_marked n now = by (what n)
    where
      of_part : (p : ℕ) → stage_at s n ≡ Open p → part.start ≤ p → (mark : Bool) → ends.mark ≡ mark → mark_at t n ≡ mark → (mark_at t n ≡ true) ↔ Leads lists n n
      of_part p was le true f g =
          let old = is.path.placed n p was in
          (λ h. subst (λ v. Leads lists v v) old.1 (circle_leads p old.0 le f), λ l. g)
      of_part p was le false f g =
          let old = is.path.placed n p was in
          (λ h. absurd (false≢true (sym g ∙ h)), λ l. absurd (no_circle p old.0 le f (subst (λ v. Leads lists v v) (sym old.1) l)))

      by : Became part.start ends.mark s t is.path ends.settled n → (mark_at t n ≡ true) ↔ Leads lists n n
      by (stayed same marks before) =
          let old = is.marked n (sym same ∙ now) in
          (λ h. old.0 (sym marks ∙ h), λ l. marks ∙ old.1 l)
      by (settled p was le there marks) = of_part p was le ends.mark refl marks

  ended_done : (n m : ℕ) → stage_at t n ≡ Done → has m (row lists n) ≡ true → stage_at t m ≡ Done
  ended_done n m now h = by (what n)
    where
      of_part : (stage_at s m ≡ Done) ⊎ ((q : ℕ) × (stage_at s m ≡ Open q) × (part.start ≤ q)) → stage_at t m ≡ Done
      of_part (inl f) = done_still m f
      of_part (inr x) = open_done m x.0 x.1 x.2

      by : Became part.start ends.mark s t is.path ends.settled n → stage_at t m ≡ Done
      by (stayed same marks before) = done_still m (is.done n m (sym same ∙ now) h)
      by (settled p was le there marks) =
          let old = is.path.placed n p was in
          of_part (behind_part p m old.0 le (ap (λ v. has m (row lists v)) old.1 ∙ h))

  looked_ended : (i m : ℕ) → i < top → Looked s i m ⊎ ⊥ → Looked t i m
  looked_ended i m low (inl (is_done f)) = is_done (done_still m f)
  looked_ended i m low (inl (is_open q f le)) = by (below q part.start)
    where
      by : (q < part.start) ⊎ (part.start ≤ q) → Looked t i m
      by (inl less) = is_open q ((ends.settled.others m (λ p g. let same = same_open (sym f ∙ g) in omega (arith, less, same))).0 ∙ f) (omega (arith, le, start_same i low))
      by (inr more) = is_done (open_done m q f more)
  looked_ended i m low (inl (is_waiting k le h f)) = is_waiting k (omega (arith, le, waits_same i low)) (omega (arith, h, waiting_long)) (same_waiting k ∙ f)
  looked_ended i m low (inr never) = absurd never

  ended_source : (k : ℕ) → k < length t.waiting → Source lists t k
  ended_source k h =
      let old = is.source k (omega (arith, h, waiting_long)) in
      let top_low : top < length s.parts = omega (arith, parts_long) in
      let before = old.before top top_low (omega (arith, h, waiting_long, none, top_waiting)) in
      let low : old.place < part.start = omega (arith, before, top_start) in
      record {
        place = old.place;
        low = omega (arith, low, ended_long);
        leads = ap (λ v. has v (row lists (open_at t old.place))) (same_waiting k) ∙ ap (λ v. has (waiting_at s k) (row lists v)) (same_open_at old.place low) ∙ old.leads;
        behind = λ i h le. let f : i < top = omega (arith, h, ended_parts) in let there = old.behind i (omega (arith, f, parts_long)) (omega (arith, le, waits_same i f)) in omega (arith, there, start_same i f);
        before = λ i h less. let f : i < top = omega (arith, h, ended_parts) in let there = old.before i (omega (arith, f, parts_long)) (omega (arith, less, waits_same i f)) in omega (arith, there, start_same i f);
      }

  ended_covered : (p : ℕ) → p < part.start → (i : ℕ) × (i < length t.parts) × ((part_at t i).start ≤ p)
  ended_covered p low =
      let old = is.covered p (omega (arith, low, begins)) in
      by old.0 old.1 old.2 (which old.0 top)
    where
      by : (i : ℕ) → i < length s.parts → (part_at s i).start ≤ p → (i ≡ top) ⊎ (i ≢ top) → (i : ℕ) × (i < length t.parts) × ((part_at t i).start ≤ p)
      by i h le (inl f) = absurd (omega (arith, le, low, top_start, ap (λ k. (part_at s k).start) f))
      by i h le (inr apart) = let f : i < top = omega (arith, h, apart, parts_long) in (i, omega (arith, f, ended_parts), omega (arith, le, start_same i f))

  pub ended_search : IsSearch lists t
  ended_search = record {
    path = settled_open part.start ends.mark s t is.path ends.settled few;
    long = ends.settled.long ∙ is.long;
    done = ended_done;
    marked = ended_marked;
    rises = λ a b less low.
        let high : b < top = omega (arith, low, ended_parts) in
        let first : a < top = omega (arith, less, high) in
        let old = is.rises a b less (omega (arith, high, parts_long)) in
        (omega (arith, old.0, start_same a first, start_same b high), omega (arith, old.1, waits_same a first, waits_same b high));
    within = λ i low.
        let f : i < top = omega (arith, low, ended_parts) in
        let old = is.within i (omega (arith, f, parts_long)) in
        let up = is.rises i top f (omega (arith, parts_long)) in
        (omega (arith, up.0, top_start, start_same i f, ended_long), omega (arith, old.1, waits_same i f, waiting_long));
    leads = λ p q h g up.
        let p_low : p < part.start = omega (arith, h, ended_long) in
        let q_low : q < part.start = omega (arith, g, ended_long) in
        subst (λ v. Reaches lists v (open_at t q)) (sym (same_open_at p p_low)) (subst (λ v. Reaches lists (open_at s p) v) (sym (same_open_at q q_low))
        (is.leads p q (omega (arith, p_low, begins)) (omega (arith, q_low, begins)) (λ i low le. all_up p q p_low up i le (which i top) low)));
    behind = λ i p m low le h g.
        let f : i < top = omega (arith, low, ended_parts) in
        let p_low : p < part.start = omega (arith, h, ended_long) in
        inl (looked_ended i m f (is.behind i p m (omega (arith, f, parts_long)) (omega (arith, le, start_same i f)) (omega (arith, p_low, begins)) (sym (ap (λ v. has m (row lists v)) (same_open_at p p_low)) ∙ g)));
    source = ended_source;
    covered = λ p h. ended_covered p (omega (arith, h, ended_long));
  }
    where
      all_up : (p q : ℕ) → p < part.start → ((i : ℕ) → i < length t.parts → (part_at t i).start ≤ p → (part_at t i).start ≤ q) → (i : ℕ) → (part_at s i).start ≤ p → (i ≡ top) ⊎ (i ≢ top) → i < length s.parts → (part_at s i).start ≤ q
      all_up p q p_low up i le (inl f) low = absurd (omega (arith, le, p_low, top_start, ap (λ k. (part_at s k).start) f))
      all_up p q p_low up i le (inr apart) low =
          let f : i < top = omega (arith, low, apart, parts_long) in
          let there = up i (omega (arith, f, ended_parts)) (omega (arith, le, start_same i f)) in
          omega (arith, there, start_same i f)
