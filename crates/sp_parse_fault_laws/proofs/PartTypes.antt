-- At a failing token of a part that begins a declarator, the grammar's notes tell whether a type could be in its place.
use Rattle.std.proofs.Common.{◌≡◌, ◌⊎◌, inl, inr, ℕ, Bool, true, false, List, [], ◌∷◌, ◌++◌, refl, sym, ap, ◌∙◌, subst}
use Rattle.std.proofs.lemmas.List.{append_cancel_right}
use Rattle.sp_parse_grammar.specs.CTokens as tokens
use Rattle.sp_parse_grammar.specs.CTokens.{view as viewed}
use Rattle.sp_parse_grammar.specs.CTable as grammar
use Rattle.sp_parse_grammar.specs.CTable.{Context, Ask, at, unit, whole}
use Rattle.sp_parse_grammar.specs.Table.{ask, Heads, Fails}
use Rattle.sp_parse_grammar.proofs.Readings.{fault_front, fault_spelled}
use Rattle.sp_parse_grammar.proofs.Completions.{Completed}
use Rattle.sp_parse_grammar.proofs.CEndings.{c90_checked}
use Rattle.sp_parse_tokens.specs.Sorts.{Terminal}
use Rattle.sp_parse_tokens.specs.SyntaxTrees.{syntax_trees, c_table}
use Rattle.sp_parse_tokens.specs.Faults.{Wanted, context_of}
use Rattle.sp_parse_tokens.specs.Depths.{Part}
use Rattle.sp_parse_fault_laws.proofs.Swaps.{Noted, FailClaim, at_once, none_at_once}
use Rattle.sp_parse_fault_laws.proofs.Swapping.{fails}
use Rattle.sp_parse_fault_laws.proofs.TypeBehind.{known_behind}
use Rattle.sp_parse_fault_laws.proofs.TypeNotes.{Beginning, beginning, type_notes, covers_types, types_at_token, tells_type, carried_item, Fits, Within}
use Rattle.sp_parse_fault_laws.proofs.TypePeeks.{types_before}
use Rattle.sp_parse_fault_laws.proofs.TypeAsks.{types_peek}
use Rattle.sp_parse_fault_laws.proofs.TypeOwn.{part_own}

-- The ask of a text fails at x too, or goes on with it, as the note tells.
pub record PlaceClaim (n : Ask syntax_trees) (x : Terminal) (front : List Terminal) (w : Wanted) : Type 0 where
  pub goes : Bool
  pub told : tells_type w ≡ goes
  pub stays : goes ≡ false → (zs : List Terminal) → Fails c_table n (ask n) (front ++ x ∷ zs) w (x ∷ zs)
  pub goes_on : goes ≡ true → Completed c_table n (ask n) (front ++ x ∷ [])

-- the token begins a declarator where this is wanted
abbrev pub BeginsAt : Wanted → Terminal → Beginning → Type 0
BeginsAt w b j = viewed (context_of w).types b.sort ≡ beginning j

fits_within : (i : Part) → Fits i → Within i
fits_within (grammar.level k) h = h
fits_within (grammar.after k l) h = h
fits_within _ h = tt

at_covered : (types : List ℕ) (n : Ask syntax_trees) → types_at_token types n → covers_types types n
at_covered types (at g i) h = (h.0, fits_within i h.1)
at_covered types (unit us) h = absurd h
at_covered types whole h = absurd h

-- an ask never fails at once at a token that begins a declarator
abbrev pub NeverAtOnce : List ℕ → Part → Type 0
NeverAtOnce types i = (b : Terminal) (j : Beginning) → viewed types b.sort ≡ beginning j → (bad : List Terminal) (w : Wanted) → Heads bad b → Fails c_table (at (grammar.outside types) i) (ask (at (grammar.outside types) i)) bad w bad → ⊥

module _ (types : List ℕ) (i : Part) (within : Within i) (start : Fits i ⊎ NeverAtOnce types i) (plain : carried_item i ≡ false) where
  abbrev This : Ask syntax_trees
  This = at (grammar.outside types) i

  noted_first : (b x : Terminal) → Fits i → Noted c_table (type_notes types) b x [] (ask This) false
  noted_first b x fits = ((refl, fits), (λ f. let apart : true ≡ false = sym f ∙ plain in absurd cc), (λ f. absurd cc), (λ f. inr refl))

  noted_part : (b x : Terminal) (j : Beginning) → viewed types b.sort ≡ beginning j → {xs bad : List Terminal} {w : Wanted} (h : Fails c_table This (ask This) xs w bad) → Heads bad b → (us : List Terminal) → fault_front h ≡ us → Noted c_table (type_notes types) b x us (ask This) false
  noted_part b x j s {bad = bad} {w = w} h head [] none = elim start [
    | inl fits ↦ noted_first b x fits
    | inr never ↦ absurd (never b j s bad w head (subst (λ v. Fails c_table This (ask This) v w bad) (fault_spelled h ∙ ap (λ v. v ++ bad) none) h))
  ]
  noted_part b x j s h head (u ∷ us) some = ((refl, within), λ a k. (refl, tt))

  module _ (b x : Terminal) (j : Beginning) (is_x : x.sort ≡ tokens.basic tokens.float) where
    pub part_fails : viewed types b.sort ≡ beginning j → {xs bad : List Terminal} {w : Wanted} (h : Fails c_table This (ask This) xs w bad) → Heads bad b → FailClaim c_table (type_notes types) x (ask This) (fault_front h) w (at_once (fault_front h) false)
    part_fails s h head =
        let is_b = λ (g : Context) (e : g.types ≡ types). subst (λ v. viewed v b.sort ≡ beginning j) (sym e) s in
        fails c_table (c90_checked syntax_trees) (type_notes types) b x (λ n xs ys a c r. known_behind n xs ys a r) (λ n y c. types_before types b x j is_b is_x n y c) (at_covered types) (λ n c. types_peek types b x j is_b is_x n c)
        h head false (noted_part b x j s h head (fault_front h) refl)

    -- Where a part fails there, the word `float` in its place goes on exactly where the note tells so.
    pub part_claim : (front rest : List Terminal) (w : Wanted) → BeginsAt w b j → Fails c_table This (ask This) (front ++ b ∷ rest) w (b ∷ rest) → PlaceClaim This x front w
    part_claim front rest w s h =
        let there : fault_front h ≡ front = append_cancel_right (fault_front h) front (b ∷ rest) (sym (fault_spelled h)) in
        let own = part_own types i within h in
        let claim = part_fails (subst (λ v. viewed v b.sort ≡ beginning j) own s) h refl in
        let moved : FailClaim c_table (type_notes types) x (ask This) front w false = subst (λ u. FailClaim c_table (type_notes types) x (ask This) u w false) there (subst (λ v. FailClaim c_table (type_notes types) x (ask This) (fault_front h) w v) (none_at_once (fault_front h)) claim) in
        record { goes = moved.goes; told = moved.told; stays = moved.stays; goes_on = moved.goes_on }
