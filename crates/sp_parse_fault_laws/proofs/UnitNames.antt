-- At a failing token of a whole text that is a type name, the grammar's notes tell whether a name could be in its place.
use Rattle.std.proofs.Common.{◌≡◌, ◌≢◌, ℕ, zero, suc, ◌≤◌, ◌⊎◌, inl, inr, Bool, true, false, List, [], ◌∷◌, ◌++◌, length, Some, None, refl, sym, ap, ◌∙◌, subst, arith, append_assoc, length-append}
use Rattle.std.specs.Prelude.{if◌then◌else◌, ◌||◌}
use Rattle.std.proofs.lemmas.List.{append_cancel_right}
use Rattle.sp_parse_grammar.specs.CTokens as tokens
use Rattle.sp_parse_grammar.specs.CTokens.{view as viewed, is_mark, is_name}
use Rattle.sp_parse_grammar.specs.CTable as grammar
use Rattle.sp_parse_grammar.specs.CTable.{Context, Ask, Answer, at, unit, whole, c_symbols, begins_specifiers}
use Rattle.sp_parse_grammar.specs.Table.{Plan, done, take, call, ask, Heads, Reads, Fails, fail_take, fail_later, fail_ask, fail_inside, fail_behind, Opens}
use Rattle.sp_parse_grammar.proofs.Lists.{heads}
use Rattle.sp_parse_grammar.proofs.Readings.{front_of, fault_front, spelled, fault_spelled, fault_at_tokens, join_fails, ask_fails}
use Rattle.sp_parse_grammar.proofs.Moving.{fine, hollow, part_goes_on}
use Rattle.sp_parse_grammar.proofs.Completions.{Completed, completed_inside}
use Rattle.sp_parse_grammar.proofs.CEndings.{c90_checked}
use Rattle.sp_parse_tokens.specs.Sorts.{Terminal}
use Rattle.sp_parse_tokens.specs.SyntaxTrees.{syntax_trees, c_table}
use Rattle.sp_parse_tokens.specs.Faults.{Wanted, context_of}
use Rattle.sp_parse_fault_laws.proofs.Swaps.{FailClaim, at_once, none_at_once, no_fail, completed_after, completed_ask}
use Rattle.sp_parse_fault_laws.proofs.NameNotes.{name_notes, tells_name}
use Rattle.sp_parse_fault_laws.proofs.NamePeeks.{external_takes}
use Rattle.sp_parse_fault_laws.proofs.WantsOwn.{part_own}
use Rattle.sp_parse_fault_laws.proofs.PartNames.{PlaceClaim, Swapped, SwappedAt, part_fails}

abbrev External : List ℕ → Ask syntax_trees
External types = at (grammar.outside types) grammar.external

-- the plan of a unit that goes on
abbrev unit_plan : (types : List ℕ) → Plan (c_symbols syntax_trees) (unit types)
unit_plan types = call (External types) (λ e. call (unit (types ++ e.types)) (λ es. done (e.tree ∷ es)))

module _ (b x : Terminal) (kind number : ℕ) (is_name_b : is_name b.sort ≡ true) (is_name_x : is_name x.sort ≡ true) where
  external_claim : (types : List ℕ) → Swapped types b x kind number → {xs bad : List Terminal} {w : Wanted} (h : Fails c_table (External types) (ask (External types)) xs w bad) → Heads bad b → FailClaim c_table (name_notes types) x (ask (External types)) (fault_front h) w (at_once (fault_front h) false)
  external_claim types s h head = part_fails types grammar.external tt refl b x kind number is_name_b is_name_x s h head

  external_own : (types : List ℕ) {xs bad : List Terminal} {w : Wanted} → Fails c_table (External types) (ask (External types)) xs w bad → (context_of w).types ≡ types
  external_own types h = part_own types grammar.external tt h

  first_fails : (types : List ℕ) (q : Plan (c_symbols syntax_trees) (External types)) (y : Terminal) (rest bad : List Terminal) (w : Wanted) → c_table.predict (External types) y ≡ Some q → Opens c_table (External types) q y → Fails c_table (External types) (ask (External types)) (y ∷ rest) w bad → y ∷ rest ≡ bad → ⊥
  first_fails types q y rest bad w e opens (fail_ask f) alike = let apart : None ≡ Some q = sym f ∙ e in absurd cc
  first_fails types q y rest bad w e opens (fail_inside {q = p} f h) alike =
      let same : q ≡ p = cc in
      no_fail c_table (subst (λ v. Opens c_table (External types) v y) same opens) (subst (λ v. Fails c_table (External types) p (y ∷ rest) w v) (sym alike) h)
  first_fails types q y rest bad w e opens (fail_behind f r h) alike = elim h [ ]

  -- an external declaration doesn't fail at a type name at once
  not_at_once : (types : List ℕ) → Swapped types b x kind number → (xs bad : List Terminal) (w : Wanted) → Fails c_table (External types) (ask (External types)) xs w bad → Heads bad b → xs ≡ bad → ⊥
  not_at_once types s [] bad w h head same = absurd (subst (λ v. Heads v b) (sym same) head)
  not_at_once types s (y ∷ rest) bad w h head same =
      let type_b = λ (g : Context) (e : g.types ≡ types). subst (λ v. viewed v b.sort ≡ tokens.named_type kind) (sym e) s.type_b in
      let name_x = λ (g : Context) (e : g.types ≡ types). subst (λ v. viewed v x.sort ≡ tokens.name number) (sym e) s.name_x in
      let t = external_takes types b x kind number is_name_b is_name_x type_b name_x (grammar.outside types) refl in
      let is_b : y ≡ b = subst (λ v. Heads v b) (sym same) head in
      first_fails types t.0 y rest bad w (subst (λ v. c_table.predict (External types) v ≡ Some t.0) (sym is_b) t.1) (subst (λ v. Opens c_table (External types) t.0 v) (sym is_b) t.2) h same

  -- ---- units

  record UnitClaim (types : List ℕ) (front : List Terminal) (w : Wanted) : Type 0 where
    goes : Bool
    told : tells_name w ≡ goes
    some : front ≢ []
    stays : goes ≡ false → (zs : List Terminal) → Fails c_table (unit types) (ask (unit types)) (front ++ x ∷ zs) w (x ∷ zs)
    goes_on : goes ≡ true → Completed c_table (unit types) (ask (unit types)) (front ++ x ∷ [])

  module _ (w : Wanted) (swapped : (types : List ℕ) → (context_of w).types ≡ types → Swapped types b x kind number) where
    -- inside the first external declaration
    in_first : (types : List ℕ) (y : Terminal) (rest bad front : List Terminal) → c_table.predict (unit types) y ≡ Some (unit_plan types) → y ∷ rest ≡ front ++ bad → Heads bad b → Fails c_table (External types) (ask (External types)) (y ∷ rest) w bad → UnitClaim types front w
    in_first types y rest bad front e spelt head h = by_front front refl
      where
        by_front : (us : List Terminal) → front ≡ us → UnitClaim types front w
        by_front [] none = absurd (not_at_once types (swapped types (external_own types h)) (y ∷ rest) bad w h head (spelt ∙ ap (λ v. v ++ bad) none))
        by_front (v ∷ vs) some =
            let there : fault_front h ≡ v ∷ vs = append_cancel_right (fault_front h) (v ∷ vs) bad (sym (fault_spelled h) ∙ spelt ∙ ap (λ u. u ++ bad) some) in
            let is_v : y ≡ v = (let spelled_out : y ∷ rest ≡ (v ∷ vs) ++ bad = spelt ∙ ap (λ u. u ++ bad) some in cc) in
            let chosen : c_table.predict (unit types) v ≡ Some (unit_plan types) = subst (λ u. c_table.predict (unit types) u ≡ Some (unit_plan types)) is_v e in
            let own = external_own types h in
            let claim = external_claim types (swapped types own) h head in
            let moved : FailClaim c_table (name_notes types) x (ask (External types)) (v ∷ vs) w false = subst (λ u. FailClaim c_table (name_notes types) x (ask (External types)) u w false) there (subst (λ i. FailClaim c_table (name_notes types) x (ask (External types)) (fault_front h) w i) (none_at_once (fault_front h)) claim) in
            subst (λ u. UnitClaim types u w) (sym some) (record {
              goes = moved.goes;
              told = moved.told;
              some = λ f. cc;
              stays = λ f zs. fail_inside chosen (ask_fails (moved.stays f zs));
              goes_on = λ f. completed_inside c_table (c90_checked syntax_trees) (unit types) (λ a. done a) (unit_plan types) v (vs ++ x ∷ []) chosen (completed_ask c_table (c90_checked syntax_trees) (External types) (λ a. call (unit (types ++ a.types)) (λ es. done (a.tree ∷ es))) (v ∷ (vs ++ x ∷ [])) (moved.goes_on f));
            })

    -- behind the first external declaration
    behind_first : (types : List ℕ) (y : Terminal) (rest mid bad front later : List Terminal) (a : grammar.Declares syntax_trees) (q : Plan (c_symbols syntax_trees) (External types)) → c_table.predict (unit types) y ≡ Some (unit_plan types) → (e : c_table.predict (External types) y ≡ Some q) (r : Reads c_table (External types) q (y ∷ rest) a mid) → mid ≡ later ++ bad → front ≡ front_of r ++ later → UnitClaim (types ++ a.types) later w → UnitClaim types front w
    behind_first types y rest mid bad front later a q chosen e r there spelt s = by_later later refl
      where
        by_first : (us : List Terminal) → front_of r ≡ us → (v : Terminal) (vs : List Terminal) → later ≡ v ∷ vs → UnitClaim types front w
        by_first [] none v vs some = let shortest = hollow c_table (c90_checked syntax_trees) r none in let ending = ((fine c_table (c90_checked syntax_trees) (External types) y q e).hollow shortest.0).0 in absurd cc
        by_first (u ∷ us) first v vs some =
            let is_u : y ≡ u = (let spelled_out : y ∷ rest ≡ (u ∷ us) ++ mid = spelled r ∙ ap (λ t. t ++ mid) first in cc) in
            let chosen_u : c_table.predict (unit types) u ≡ Some (unit_plan types) = subst (λ t. c_table.predict (unit types) t ≡ Some (unit_plan types)) is_u chosen in
            let mid_head : Heads mid v = heads mid v (vs ++ bad) (there ∙ ap (λ t. t ++ bad) some) in
            let part = λ (zs : List Terminal). subst (λ t. Reads c_table (External types) (ask (External types)) (t ++ v ∷ zs) a (v ∷ zs)) first (part_goes_on c_table (c90_checked syntax_trees) e r v (inl mid_head) zs) in
            let moved : UnitClaim (types ++ a.types) (v ∷ vs) w = subst (λ t. UnitClaim (types ++ a.types) t w) some s in
            let order : front ≡ (u ∷ us) ++ v ∷ vs = spelt ∙ ap (λ t. t ++ later) first ∙ ap (λ t. (u ∷ us) ++ t) some in
            subst (λ t. UnitClaim types t w) (sym order) (record {
              goes = moved.goes;
              told = moved.told;
              some = λ f. cc;
              stays = λ f zs. fault_at_tokens (sym (append_assoc (u ∷ us) (v ∷ vs) (x ∷ zs))) (fail_inside chosen_u (join_fails (part (vs ++ x ∷ zs)) (ask_fails (moved.stays f zs))));
              goes_on = λ f. subst (λ t. Completed c_table (unit types) (ask (unit types)) t) (sym (append_assoc (u ∷ us) (v ∷ vs) (x ∷ [])))
                  (completed_inside c_table (c90_checked syntax_trees) (unit types) (λ a. done a) (unit_plan types) u (us ++ v ∷ (vs ++ x ∷ [])) chosen_u
                  (completed_after c_table (c90_checked syntax_trees) (External types) (λ i. call (unit (types ++ i.types)) (λ es. done (i.tree ∷ es))) a (u ∷ us) v (vs ++ x ∷ []) part
                  (completed_ask c_table (c90_checked syntax_trees) (unit (types ++ a.types)) (λ es. done (a.tree ∷ es)) (v ∷ (vs ++ x ∷ [])) (moved.goes_on f))));
            })

        by_later : (us : List Terminal) → later ≡ us → UnitClaim types front w
        by_later [] none = absurd (s.some none)
        by_later (v ∷ vs) some = by_first (front_of r) refl v vs some

  -- ---- any unit

  abbrev Swaps : Wanted → Type 0
  Swaps w = (types : List ℕ) → (context_of w).types ≡ types → Swapped types b x kind number

  never_none : {n : Ask syntax_trees} (c : Bool) (p q : Plan (c_symbols syntax_trees) n) → (if c then Some p else Some q) ≡ None → ⊥
  never_none true p q e = absurd cc
  never_none false p q e = absurd cc

  either_plan : {n : Ask syntax_trees} (c : Bool) (p q r : Plan (c_symbols syntax_trees) n) → (if c then Some p else Some q) ≡ Some r → (r ≡ p) ⊎ (r ≡ q)
  either_plan true p q r e = inl cc
  either_plan false p q r e = inr cc

  no_done : {n : Ask syntax_trees} {o : Answer n} {xs bad : List Terminal} {w : Wanted} → Fails c_table n (done o) xs w bad → ⊥
  no_done h = elim h [ ]

  asked_again : {m n : Ask syntax_trees} (f : Answer n → Answer m) {xs bad : List Terminal} {w : Wanted} → Fails c_table m (call n (λ a. done (f a))) xs w bad → Fails c_table n (ask n) xs w bad
  asked_again f (fail_ask e) = fail_ask e
  asked_again f (fail_inside e h) = fail_inside e h
  asked_again f (fail_behind e r h) = elim h [ ]

  reads_some : (types : List ℕ) (y : Terminal) (rest mid : List Terminal) (a : grammar.Declares syntax_trees) (q : Plan (c_symbols syntax_trees) (External types)) → c_table.predict (External types) y ≡ Some q → (r : Reads c_table (External types) q (y ∷ rest) a mid) → 1 ≤ length (front_of r)
  reads_some types y rest mid a q e r = by (front_of r) refl
    where
      by : (us : List Terminal) → front_of r ≡ us → 1 ≤ length (front_of r)
      by [] none = let shortest = hollow c_table (c90_checked syntax_trees) r none in let ending = ((fine c_table (c90_checked syntax_trees) (External types) y q e).hollow shortest.0).0 in absurd cc
      by (u ∷ us) some = let size : length (front_of r) ≡ length (u ∷ us) = ap length some in omega (arith, size)

  -- what is claimed of the rest of a unit, of fewer tokens
  abbrev Rest : ℕ → List Terminal → Wanted → Type 0
  Rest fuel bad w = (types : List ℕ) (xs front : List Terminal) → length xs ≤ fuel → xs ≡ front ++ bad → Fails c_table (unit types) (ask (unit types)) xs w bad → UnitClaim types front w

  plan_claim : (fuel : ℕ) (types : List ℕ) (y : Terminal) (rest bad front : List Terminal) (w : Wanted) → Swaps w → Rest fuel bad w → length (y ∷ rest) ≤ suc fuel → y ∷ rest ≡ front ++ bad → Heads bad b → c_table.predict (unit types) y ≡ Some (unit_plan types) → Fails c_table (unit types) (unit_plan types) (y ∷ rest) w bad → UnitClaim types front w
  plan_claim fuel types y rest bad front w swaps again small spelt head chosen (fail_ask e) = in_first w swaps types y rest bad front chosen spelt head (fail_ask e)
  plan_claim fuel types y rest bad front w swaps again small spelt head chosen (fail_inside e h1) = in_first w swaps types y rest bad front chosen spelt head (fail_inside e h1)
  plan_claim fuel types y rest bad front w swaps again small spelt head chosen (fail_behind {q = q} {ys = mid} {a = a} e r h1) =
      let h2 = asked_again (λ es. a.tree ∷ es) h1 in
      let later = fault_front h2 in
      let there = fault_spelled h2 in
      let size = ap length (spelled r) ∙ length-append (front_of r) mid in
      let some = reads_some types y rest mid a q e r in
      let order : front ≡ front_of r ++ later = append_cancel_right front (front_of r ++ later) bad (sym spelt ∙ spelled r ∙ ap (λ v. front_of r ++ v) there ∙ sym (append_assoc (front_of r) later bad)) in
      behind_first w swaps types y rest mid bad front later a q chosen e r there order (again (types ++ a.types) mid later (omega (arith, small, size, some)) there h2)

  ask_claim : (fuel : ℕ) (types : List ℕ) (y : Terminal) (rest bad front : List Terminal) (w : Wanted) → Swaps w → Rest fuel bad w → length (y ∷ rest) ≤ suc fuel → y ∷ rest ≡ front ++ bad → Heads bad b → Fails c_table (unit types) (ask (unit types)) (y ∷ rest) w bad → UnitClaim types front w
  ask_claim fuel types y rest bad front w swaps again small spelt head (fail_ask e) = absurd (never_none (is_mark tokens.semicolon (viewed types y.sort) || begins_specifiers true false (viewed types y.sort)) _ _ e)
  ask_claim fuel types y rest bad front w swaps again small spelt head (fail_inside {q = q} e h1) = elim (either_plan (is_mark tokens.semicolon (viewed types y.sort) || begins_specifiers true false (viewed types y.sort)) _ _ q e) [
    | inl same ↦ plan_claim fuel types y rest bad front w swaps again small spelt head (e ∙ ap (λ v. Some v) same) (subst (λ v. Fails c_table (unit types) v (y ∷ rest) w bad) same h1)
    | inr same ↦ absurd (no_done (subst (λ v. Fails c_table (unit types) v (y ∷ rest) w bad) same h1))
  ]
  ask_claim fuel types y rest bad front w swaps again small spelt head (fail_behind e r h1) = elim h1 [ ]

  unit_claim : (fuel : ℕ) (types : List ℕ) (xs bad front : List Terminal) (w : Wanted) → Swaps w → length xs ≤ fuel → xs ≡ front ++ bad → Heads bad b → Fails c_table (unit types) (ask (unit types)) xs w bad → UnitClaim types front w
  unit_claim fuel types [] bad front w swaps small spelt head h = elim h [ ]
  unit_claim zero types (y ∷ rest) bad front w swaps small spelt head h = absurd (omega arith)
  unit_claim (suc fuel) types (y ∷ rest) bad front w swaps small spelt head h = ask_claim fuel types y rest bad front w swaps (λ us xs later less there h2. unit_claim fuel us xs bad later w swaps less there head h2) small spelt head h

  -- ---- the whole text

  abbrev whole_plan : Plan (c_symbols syntax_trees) whole
  whole_plan = call (unit []) (λ es. take (grammar.only (grammar.outside []) grammar.for_external tokens.end) (λ z. done es))

  of_unit : (y : Terminal) (rest bad front : List Terminal) (w : Wanted) → y ∷ rest ≡ front ++ bad → UnitClaim [] front w → PlaceClaim whole x front w
  of_unit y rest bad [] w spelt s = absurd (s.some refl)
  of_unit y rest bad (v ∷ vs) w spelt s = record {
    goes = s.goes;
    told = s.told;
    stays = λ f zs. fail_inside refl (ask_fails (s.stays f zs));
    goes_on = λ f. completed_inside c_table (c90_checked syntax_trees) whole (λ a. done a) whole_plan v (vs ++ x ∷ []) refl (completed_ask c_table (c90_checked syntax_trees) (unit []) (λ es. take (grammar.only (grammar.outside []) grammar.for_external tokens.end) (λ z. done es)) (v ∷ (vs ++ x ∷ [])) (s.goes_on f));
  }

  -- behind a unit no type name is wanted
  end_wanted : (es : Answer {t = syntax_trees} (unit [])) (xs bad : List Terminal) (w : Wanted) → Fails c_table whole (take (grammar.only (grammar.outside []) grammar.for_external tokens.end) (λ z. done es)) xs w bad → (context_of w).types ≡ []
  end_wanted es xs bad w (fail_take e) = refl
  end_wanted es xs bad w (fail_later e h) = elim h [ ]

  none_viewed : (k : tokens.Sort) → is_name k ≡ true → (n : ℕ) → viewed [] k ≡ tokens.named_type n → ⊥
  none_viewed (tokens.name m) e n v = absurd cc
  none_viewed _ e n v = absurd cc

  plan_whole : (y : Terminal) (rest bad front : List Terminal) (w : Wanted) → Swaps w → y ∷ rest ≡ front ++ bad → Heads bad b → Fails c_table whole whole_plan (y ∷ rest) w bad → PlaceClaim whole x front w
  plan_whole y rest bad front w swaps spelt head (fail_ask e) = of_unit y rest bad front w spelt (unit_claim (length (y ∷ rest)) [] (y ∷ rest) bad front w swaps (omega arith) spelt head (fail_ask e))
  plan_whole y rest bad front w swaps spelt head (fail_inside e h) = of_unit y rest bad front w spelt (unit_claim (length (y ∷ rest)) [] (y ∷ rest) bad front w swaps (omega arith) spelt head (fail_inside e h))
  plan_whole y rest bad front w swaps spelt head (fail_behind {ys = mid} {a = a} e r h) = absurd (none_viewed b.sort is_name_b kind (swaps [] (end_wanted a mid bad w h)).type_b)

  ask_whole : (xs bad front : List Terminal) (w : Wanted) → Swaps w → xs ≡ front ++ bad → Heads bad b → Fails c_table whole (ask whole) xs w bad → PlaceClaim whole x front w
  ask_whole xs bad front w swaps spelt head (fail_ask e) = absurd cc
  ask_whole xs bad front w swaps spelt head (fail_inside {q = q} {x = y} {xs = rest} e h) = let same : q ≡ whole_plan = cc in plan_whole y rest bad front w swaps spelt head (subst (λ v. Fails c_table whole v (y ∷ rest) w bad) same h)
  ask_whole xs bad front w swaps spelt head (fail_behind e r h) = elim h [ ]

  -- Where a text fails at a type name, a name in its place goes on exactly where the note tells so.
  pub whole_claim : (front rest : List Terminal) (w : Wanted) → SwappedAt w b x kind number → Fails c_table whole (ask whole) (front ++ b ∷ rest) w (b ∷ rest) → PlaceClaim whole x front w
  whole_claim front rest w s h = ask_whole (front ++ b ∷ rest) (b ∷ rest) front w (λ types own. subst (λ v. Swapped v b x kind number) own s) refl refl h
