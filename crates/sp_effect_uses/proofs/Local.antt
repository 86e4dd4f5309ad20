-- Sets of the cells that are local to functions.
use Rattle.std.proofs.Common.{◌≡◌, ◌⊎◌, inl, inr, ℕ, zero, suc, ◌+◌, ◌<◌, ◌≤◌, Bool, true, false, nat_eq, ◌&&◌, ◌||◌, List, [], length, take, get_or, replicate, Option, Some, None, refl, sym, ap, ◌∙◌, subst, arith, eqb-true}
use Rattle.std.specs.Prelude.{slice_get}
use Rattle.std.specs.Option.{option_eq}
use Rattle.std.proofs.Props.{props}
use Rattle.std.proofs.Math.Logic.{∥∥₁_elim}
use Rattle.std.proofs.lemmas.Bool.{false≢true, or_cases, eq-eqb}
use Rattle.std.proofs.lemmas.List.{length-replicate}
use Rattle.std.proofs.lemmas.List.Folds.{list_any_more}
use Rattle.sp_lattice.specs.System.{has}
use Rattle.sp_base_sets.specs.Reached.{row}
use Rattle.sp_ir.specs.Regions.{Region, is_cell_at}
use Rattle.sp_ir.specs.Programs.{Lowered, Object}
use Rattle.sp_ir.specs.Formed.{IsFormed, HasOwner, is_local as is_local_kind}
use Rattle.sp_graph.specs.Rows.{Grows}
use Rattle.sp_effect_scene.specs.Analysed.{Analysed, locations_of, owner_of, owner_in, owner_at}
use Rattle.sp_effect_scene.specs.Whole.{IsAnalysed}
use Rattle.sp_effect_call.proofs.ReadCells.{cell-there, location-cell}
use Rattle.sp_effect_uses.specs.Locals.{AreLocals, is_local}
use Rattle.sp_effect_uses.proofs.Steps.{both-ways, or-true, take-whole}
use Rattle.sp_effect_uses.proofs.Picked.{both-true}

abbrev pub Sorted : (ℕ → Option ℕ) → List ℕ → List (List ℕ) → List (List ℕ) → Type 0
Sorted own xs old new = Grows (λ f k. (own k ≡ Some f) × (has k xs ≡ true)) old new

pub grows-begun : (own : ℕ → Option ℕ) (xs : List ℕ) (sets : List (List ℕ)) → Sorted own (take 0 xs) sets sets
grows-begun own xs sets = record {
  long = refl;
  kept = λ f k h. h;
  origin = λ f k h. inl h;
  all = λ f k low h. absurd (false≢true h.1);
}

pub grows-more : (own : ℕ → Option ℕ) (xs : List ℕ) (i : ℕ) (a b d : List (List ℕ)) → i < length xs → Sorted own (take i xs) a b → Grows (λ f k. (own (get_or xs i 0) ≡ Some f) × (nat_eq k (get_or xs i 0) ≡ true)) b d → Sorted own (take (i + 1) xs) a d
grows-more own xs i a b d low first second = record {
  long = second.long ∙ first.long;
  kept = λ f k h. second.kept f k (first.kept f k h);
  origin = λ f k h. from f k (second.origin f k h);
  all = λ f k f_low h. all f k f_low h.0 (or_cases (has k (take i xs)) (nat_eq k (get_or xs i 0)) (sym (more k) ∙ h.1));
}
  where
    more : (k : ℕ) → has k (take (i + 1) xs) ≡ (has k (take i xs) || nat_eq k (get_or xs i 0))
    more k = list_any_more (nat_eq k) xs i 0 low

    earlier : (f k : ℕ) → (has k (row a f) ≡ true) ⊎ ((own k ≡ Some f) × (has k (take i xs) ≡ true)) → (has k (row a f) ≡ true) ⊎ ((own k ≡ Some f) × (has k (take (i + 1) xs) ≡ true))
    earlier f k (inl h) = inl h
    earlier f k (inr h) = inr (h.0, more k ∙ ap (λ b. b || nat_eq k (get_or xs i 0)) h.1)

    from : (f k : ℕ) → (has k (row b f) ≡ true) ⊎ ((own (get_or xs i 0) ≡ Some f) × (nat_eq k (get_or xs i 0) ≡ true)) → (has k (row a f) ≡ true) ⊎ ((own k ≡ Some f) × (has k (take (i + 1) xs) ≡ true))
    from f k (inl h) = earlier f k (first.origin f k h)
    from f k (inr h) = inr (ap own (eqb-true k (get_or xs i 0) h.1) ∙ h.0, more k ∙ ap (λ b. has k (take i xs) || b) h.1 ∙ or-true (has k (take i xs)))

    all : (f k : ℕ) → f < length a → own k ≡ Some f → (has k (take i xs) ≡ true) ⊎ (nat_eq k (get_or xs i 0) ≡ true) → has k (row d f) ≡ true
    all f k f_low o (inl h) = second.kept f k (first.all f k f_low (o, h))
    all f k f_low o (inr e) = second.all f k (let same = first.long in omega (arith, f_low, same)) (sym (ap own (eqb-true k (get_or xs i 0) e)) ∙ o, e)

nothing : (n f k : ℕ) → has k (row (replicate n []) f) ≡ true → ⊥
nothing zero f k h = false≢true h
nothing (suc n) zero k h = false≢true h
nothing (suc n) (suc f) k h = nothing n f k h

-- ---- owners

some-is : (f : ℕ) (o : Option ℕ) → option_eq nat_eq o (Some f) ≡ true → o ≡ Some f
some-is f None h = absurd (false≢true h)
some-is f (Some g) h = ap Some (eqb-true g f h)

is-some : (f : ℕ) (o : Option ℕ) → o ≡ Some f → option_eq nat_eq o (Some f) ≡ true
is-some f o e = ap (λ x. option_eq nat_eq x (Some f)) e ∙ eq-eqb f f refl

owned-low : (p : Lowered) (o : Object) (f : ℕ) → o.function ≡ Some f → (b : Bool) → HasOwner p o b → f < length p.functions
owned-low p o f is true (k, k_is, low) = subst (λ n. n < length p.functions) (same (sym k_is ∙ is)) low
  where
    same : Some k ≡ Some f → k ≡ f
    same e = cc
owned-low p o f is false none = absurd (clash (sym none ∙ is))
  where
    clash : None ≡ Some f → ⊥
    clash e = cc

owner-low : (p : Lowered) → IsFormed p → (r f : ℕ) → owner_of p r ≡ Some f → f < length p.functions
owner-low p formed r f is = by (slice_get p.regions r) is
  where
    none-some : {x : ℕ} → None ≡ Some x → ⊥
    none-some e = cc

    at : (n : ℕ) (o : Option Object) → slice_get p.objects n ≡ o → owner_in o ≡ Some f → f < length p.functions
    at n None there h = absurd (none-some h)
    at n (Some o) there h = owned-low p o f h (is_local_kind o.kind) (formed.objects n o there).owned

    by : (x : Option Region) → owner_at p x ≡ Some f → f < length p.functions
    by None h = absurd (none-some h)
    by (Some x) h = at x.object (slice_get p.objects x.object) refl h

pub locals-made : (a : Analysed) → ∥ IsAnalysed a ∥₁ → (cells : List ℕ) (i n : ℕ) (none sets : List (List ℕ)) → cells ≡ locations_of a.program → length cells ≤ i → none ≡ replicate n [] → n ≡ length a.program.functions
    → Sorted (owner_of a.program) (take i cells) none sets → AreLocals a sets
locals-made a whole cells i n none sets cells_are past empty many grows f c =
    both-ways (has c (row sets f)) (is_local a.program f c) (λ h. from (grows.origin f c h)) to
  where
    all : take i cells ≡ locations_of a.program
    all = take-whole cells i past ∙ cells_are

    from : (has c (row none f) ≡ true) ⊎ ((owner_of a.program c ≡ Some f) × (has c (take i cells) ≡ true)) → is_local a.program f c ≡ true
    from (inl h) = absurd (nothing n f c (sym (ap (λ xs. has c (row xs f)) empty) ∙ h))
    from (inr h) =
        ap (λ b. b && option_eq nat_eq (owner_of a.program c) (Some f)) (location-cell a.program c (sym (ap (has c) all) ∙ h.1))
        ∙ is-some f (owner_of a.program c) h.0

    to : is_local a.program f c ≡ true → has c (row sets f) ≡ true
    to h =
        let two = both-true (is_cell_at a.program.regions c) (option_eq nat_eq (owner_of a.program c) (Some f)) h in
        let own : owner_of a.program c ≡ Some f = some-is f (owner_of a.program c) two.1 in
        let low : f < length a.program.functions = ∥∥₁_elim whole (hlevel props) (λ w. owner-low a.program w.formed c f own) in
        let long : length none ≡ n = ap length empty ∙ length-replicate n [] in
        grows.all f c (omega (arith, low, long, many)) (own, ap (has c) all ∙ cell-there a.program c two.0)
