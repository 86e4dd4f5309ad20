-- A search looks at the number that came last of those that wait.
use Rattle.std.specs.Prelude.{IsSome}
use Rattle.std.proofs.lemmas.Option.{slice_get-get_or, slice_get_past}
use Rattle.std.proofs.Common.{◌≡◌, ◌≢◌, ◌⊎◌, [], ◌∷◌, None, get_or-set_same, get_or-set_other, inl, inr, ℕ, ◌<◌, ◌-◌, true, List, length, get_or, Option, Some, refl, sym, ap, ◌∙◌, subst, arith}
use Rattle.sp_base_sets.specs.Sets.{has}
use Rattle.sp_base_sets.specs.Reached.{row, start, Leads}
use Rattle.sp_base_sets.specs.Circling.{State, stage_at, open_at, waiting_at, last_part, entered, Joins, IsSearchBut, IsSearch, IsIdle, Waits, GoesOn}
use Rattle.sp_base_sets.specs.declared.circles.Part.{Part}
use Rattle.sp_base_sets.specs.declared.circles.Stage.TheVariants.{New, Open, Done}
use Rattle.sp_base_sets.proofs.Members.{which}
use Rattle.sp_base_sets.proofs.Searching.{popped, popped_search, popped_from, From, reaches_leads, done_search, entered_search, joined_search, Kind, kind_of, new_kind, open_kind, done_kind}

pub last_popped : (xs : List ℕ) (long : ℕ) (r : Option ℕ) (n : ℕ) → long ≡ length xs → (IsSome r → 0 < long) → (0 < long → r ≡ Some (get_or xs (long - 1) 0)) → r ≡ Some n → n ≡ get_or xs (length xs - 1) 0
last_popped xs long r n e some value is =
    let found = some (subst (λ v. IsSome v) (sym is) refl) in
    let both = sym is ∙ value found in
    let here : n ≡ get_or xs (long - 1) 0 = cc in
    here ∙ ap (λ k. get_or xs (k - 1) 0) e

-- all open numbers lead to one to which the innermost part leads
all_lead : (lists : List (List ℕ)) (s : State) (n : ℕ) {Else : ℕ → Type 0} → IsSearchBut lists s Else → From lists s n → (p : ℕ) → p < length s.path → Leads lists (open_at s p) n
all_lead lists s n is from p low = reaches_leads lists (is.leads p from.place low from.low (λ i h le. from.last i h)) (start from.leads)

module _ (lists : List (List ℕ)) (s : State) (n : ℕ) (is : IsSearch lists s) (waits : Waits s) (at : n ≡ waiting_at s (length s.waiting - 1)) where
  but : IsSearchBut lists (popped s) (λ m. m ≡ n)
  but = subst (λ k. IsSearchBut lists (popped s) (λ m. m ≡ k)) (sym at) (popped_search lists s is waits)

  from : From lists (popped s) n
  from = subst (λ k. From lists (popped s) k) (sym at) (popped_from lists s is waits)

  -- it is in a list
  pub listed : (f : ℕ) × (has n (row lists f) ≡ true)
  listed = (open_at s from.place, from.leads)

  pub some_wait : 0 < length s.waiting
  some_wait = omega (arith, waits.2)

  pub new_search : n < length lists → stage_at s n ≡ New → IsSearch lists (entered lists (popped s) n)
  new_search low new = entered_search lists (popped s) n low but new (all_lead lists (popped s) n but from)

  pub open_search : (place : ℕ) (t : State) → stage_at s n ≡ Open place → Joins place (popped s) t → IsSearch lists t
  open_search place t there joins = subst (IsSearch lists) (sym joins.same) (joined_search lists (popped s) n place but from there joins.kept joins.few joins.last joins.past)

  pub known_search : stage_at s n ≡ Done → IsSearch lists (popped s)
  known_search done = done_search lists (popped s) n but done

-- ---- where nothing is open

idle_path : (lists : List (List ℕ)) (s : State) → IsIdle lists s → (p : ℕ) → p < length s.path → ⊥
idle_path lists s idle p low = let part = idle.0.covered p low in omega (arith, part.1, ap length idle.1)

pub first_search : (lists : List (List ℕ)) (s : State) (n : ℕ) → IsIdle lists s → n < length lists → stage_at s n ≡ New → IsSearch lists (entered lists s n)
first_search lists s n idle low new = entered_search lists s n low but new (λ p h. absurd (idle_path lists s idle p h))
  where
    is : IsSearch lists s
    is = idle.0

    but : IsSearchBut lists s (λ m. m ≡ n)
    but = record {
      path = is.path;
      long = is.long;
      done = is.done;
      marked = is.marked;
      rises = is.rises;
      within = is.within;
      leads = is.leads;
      behind = λ i p m h le there has_m. elim (is.behind i p m h le there has_m) [
        | inl l ↦ inl l
        | inr never ↦ absurd never
      ];
      source = is.source;
      covered = is.covered;
    }

pub no_parts : (ps : List Part) → last_part ps ≡ None → ps ≡ []
no_parts [] e = refl
no_parts (p ∷ ps) e =
    let there = slice_get-get_or (p ∷ ps) (length (p ∷ ps) - 1) p (omega arith) in
    let both = sym there ∙ e in
    absurd cc

-- what was seen is done
pub idle_done : (lists : List (List ℕ)) (s : State) (n : ℕ) → IsIdle lists s → stage_at s n ≢ New → stage_at s n ≡ Done
idle_done lists s n idle known = by (kind_of (stage_at s n))
  where
    by : Kind (stage_at s n) → stage_at s n ≡ Done
    by (new_kind e) = absurd (known e)
    by (open_kind p e) = absurd (idle_path lists s idle p (idle.0.path.placed n p e).0)
    by (done_kind e) = e

pub some_parts : (ps : List Part) (part : Part) → last_part ps ≡ Some part → 0 < length ps
some_parts [] part e =
    let past = slice_get_past {X = Part} [] (0 - 1) (omega arith) in
    let both = sym past ∙ e in
    absurd cc
some_parts (p ∷ ps) part e = omega arith

-- a number that was entered isn't new, and no other is again
pub entered_seen : (lists : List (List ℕ)) (s : State) (n : ℕ) → n < length s.stages → GoesOn s (entered lists s n) × (stage_at (entered lists s n) n ≢ New)
entered_seen lists s n low = (λ m known new. by m known new (which m n), λ new. open_not_new (sym here ∙ new))
  where
    here : stage_at (entered lists s n) n ≡ Open (length s.path)
    here = get_or-set_same s.stages n (Open (length s.path)) New low

    open_not_new : Open (length s.path) ≡ New → ⊥
    open_not_new e = absurd cc

    by : (m : ℕ) → stage_at s m ≢ New → stage_at (entered lists s n) m ≡ New → (m ≡ n) ⊎ (m ≢ n) → ⊥
    by m known new (inl e) = open_not_new (sym here ∙ ap (λ k. stage_at (entered lists s n) k) (sym e) ∙ new)
    by m known new (inr apart) = known (sym (get_or-set_other s.stages n m (Open (length s.path)) New apart) ∙ new)
