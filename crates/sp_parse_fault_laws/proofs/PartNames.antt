-- At a failing token of a part that is a type name, the grammar's notes tell whether a name could be in its place.
use Rattle.std.proofs.Common.{◌≡◌, inr, ℕ, Bool, true, false, List, [], ◌∷◌, ◌++◌, refl, sym, ◌∙◌, subst}
use Rattle.std.proofs.lemmas.List.{append_cancel_right}
use Rattle.sp_parse_grammar.specs.CTokens as tokens
use Rattle.sp_parse_grammar.specs.CTokens.{view as viewed, is_name}
use Rattle.sp_parse_grammar.specs.CTable as grammar
use Rattle.sp_parse_grammar.specs.CTable.{Context, Ask, at, unit, whole}
use Rattle.sp_parse_grammar.specs.Table.{ask, Heads, Fails}
use Rattle.sp_parse_grammar.proofs.Readings.{fault_front, fault_spelled}
use Rattle.sp_parse_grammar.proofs.Completions.{Completed}
use Rattle.sp_parse_grammar.proofs.CEndings.{c90_checked}
use Rattle.sp_parse_tokens.specs.Sorts.{Terminal}
use Rattle.sp_parse_tokens.specs.SyntaxTrees.{syntax_trees, c_table}
use Rattle.sp_parse_tokens.specs.Faults.{Wanted, context_of}
use Rattle.sp_parse_tokens.specs.Depths.{Part}
use Rattle.sp_parse_fault_laws.proofs.Swaps.{Noted, FailClaim, at_once, none_at_once}
use Rattle.sp_parse_fault_laws.proofs.Swapping.{fails}
use Rattle.sp_parse_fault_laws.proofs.KnownBehind.{known_behind}
use Rattle.sp_parse_fault_laws.proofs.NameNotes.{name_notes, covers_names, names_at_token, tells_name, carried_item, Fits, Within}
use Rattle.sp_parse_fault_laws.proofs.NamePeeks.{names_before, names_peek}
use Rattle.sp_parse_fault_laws.proofs.WantsOwn.{part_own}

-- The ask of a text fails at x too, or goes on with it, as the note tells.
pub record PlaceClaim (n : Ask syntax_trees) (x : Terminal) (front : List Terminal) (w : Wanted) : Type 0 where
  pub goes : Bool
  pub told : tells_name w ≡ goes
  pub stays : goes ≡ false → (zs : List Terminal) → Fails c_table n (ask n) (front ++ x ∷ zs) w (x ∷ zs)
  pub goes_on : goes ≡ true → Completed c_table n (ask n) (front ++ x ∷ [])

-- the token is a type name where these are, and the other one is a name that is none
pub record Swapped (types : List ℕ) (b x : Terminal) (kind number : ℕ) : Type 0 where
  pub type_b : viewed types b.sort ≡ tokens.named_type kind
  pub name_x : viewed types x.sort ≡ tokens.name number

-- ... where this is wanted
abbrev pub SwappedAt : Wanted → (b x : Terminal) (kind number : ℕ) → Type 0
SwappedAt w b x kind number = Swapped (context_of w).types b x kind number

fits_within : (i : Part) → Fits i → Within i
fits_within (grammar.level k) h = h
fits_within (grammar.after k l) h = h
fits_within _ h = tt

at_covered : (types : List ℕ) (n : Ask syntax_trees) → names_at_token types n → covers_names types n
at_covered types (at g i) h = (h.0, fits_within i h.1)
at_covered types (unit us) h = absurd h
at_covered types whole h = absurd h

module _ (types : List ℕ) (i : Part) (fits : Fits i) (plain : carried_item i ≡ false) where
  abbrev This : Ask syntax_trees
  This = at (grammar.outside types) i

  noted_part : (b x : Terminal) (us : List Terminal) → Noted c_table (name_notes types) b x us (ask This) false
  noted_part b x [] = ((refl, fits), (λ f. let apart : true ≡ false = sym f ∙ plain in absurd cc), (λ f. absurd cc), (λ f. inr refl))
  noted_part b x (u ∷ us) = ((refl, fits_within i fits), λ a k. (refl, tt))

  module _ (b x : Terminal) (kind number : ℕ) (is_name_b : is_name b.sort ≡ true) (is_name_x : is_name x.sort ≡ true) where
    pub part_fails : Swapped types b x kind number → {xs bad : List Terminal} {w : Wanted} (h : Fails c_table This (ask This) xs w bad) → Heads bad b → FailClaim c_table (name_notes types) x (ask This) (fault_front h) w (at_once (fault_front h) false)
    part_fails s h head =
        let type_b = λ (g : Context) (e : g.types ≡ types). subst (λ v. viewed v b.sort ≡ tokens.named_type kind) (sym e) s.type_b in
        let name_x = λ (g : Context) (e : g.types ≡ types). subst (λ v. viewed v x.sort ≡ tokens.name number) (sym e) s.name_x in
        fails c_table (c90_checked syntax_trees) (name_notes types) b x (λ n xs ys a c r. known_behind n xs ys a r) (λ n y c. names_before types b x kind number is_name_b is_name_x type_b name_x n y c) (at_covered types) (λ n c. names_peek types b x kind number is_name_b is_name_x type_b name_x n c)
        h head false (noted_part b x (fault_front h))

    -- Where a part fails at a type name, a name in its place goes on exactly where the note tells so.
    pub part_claim : (front rest : List Terminal) (w : Wanted) → SwappedAt w b x kind number → Fails c_table This (ask This) (front ++ b ∷ rest) w (b ∷ rest) → PlaceClaim This x front w
    part_claim front rest w s h =
        let there : fault_front h ≡ front = append_cancel_right (fault_front h) front (b ∷ rest) (sym (fault_spelled h)) in
        let own = part_own types i (fits_within i fits) h in
        let claim = part_fails (subst (λ v. Swapped v b x kind number) own s) h refl in
        let moved : FailClaim c_table (name_notes types) x (ask This) front w false = subst (λ u. FailClaim c_table (name_notes types) x (ask This) u w false) there (subst (λ v. FailClaim c_table (name_notes types) x (ask This) (fault_front h) w v) (none_at_once (fault_front h)) claim) in
        record { goes = moved.goes; told = moved.told; stays = moved.stays; goes_on = moved.goes_on }
