-- The locations that accesses cut, as sets.
use Rattle.std.proofs.Common.{◌≡◌, ◌⊎◌, inl, inr, ℕ, ◌<◌, Bool, true, false, not, ◌&&◌, ◌||◌, nat_eq, List, [], ◌∷◌, length, refl, sym, ap, ◌∙◌, arith}
use Rattle.std.specs.List.{list_any}
use Rattle.std.proofs.lemmas.Bool.{false≢true, or_cases}
use Rattle.sp_lattice.specs.System.{has}
use Rattle.sp_ir.specs.Commands.{Command, start, entry, exit, skip, assign, copy, init, assume, eval, call, return, library, outside}
use Rattle.sp_effect_checks.specs.Cuts.{cut_names}
use Rattle.sp_effect_scene.specs.Analysed.{Analysed, scene_of}
use Rattle.sp_transfer.specs.Effects.{defined_by, written_by, accessed_by, cut_by}
use Rattle.sp_effect_uses.specs.Parts.{Adds, is_condition}
use Rattle.sp_effect_uses.proofs.Picked.{any-members}

-- a condition writes nothing, and each other command what it may change
writes : (a : Analysed) (n : ℕ) (c : Command) (l : ℕ) → written_by a n c l ≡ (not (is_condition c) && defined_by a n c l)
writes a n start l = refl
writes a n (entry f) l = refl
writes a n (exit f) l = refl
writes a n skip l = refl
writes a n (assign to e) l = refl
writes a n (copy to from) l = refl
writes a n (init o values zeros) l = refl
writes a n (assume e op f) l = refl
writes a n (eval e) l = refl
writes a n (call callee args) l = refl
writes a n (return c to) l = refl
writes a n (library which to args site) l = refl
writes a n (outside to args site) l = refl

and-true : (b : Bool) → (b && true) ≡ b
and-true true = refl
and-true false = refl

-- from an empty set
from-none : (test : ℕ → Bool) (none new : List ℕ) (l : ℕ) → none ≡ [] → Adds test none new → has l new ≡ test l
from-none test none new l empty adds = adds l ∙ ap (λ ns. has l ns || test l) empty

module _ (a : Analysed) (sharp : Bool) (n : ℕ) (c : Command) where
  pub cut-condition : (named none new : List ℕ) (l : ℕ) → is_condition c ≡ true → ((k : ℕ) → has k named ≡ cut_names (scene_of a) (accessed_by sharp c) k) → none ≡ [] → ((k : ℕ) → has k new ≡ (has k none || has k named)) → has l new ≡ cut_by a sharp n c l
  cut-condition named none new l is names empty adds =
      from-none (λ k. has k named) none new l empty adds ∙ names l ∙ sym (and-true (cut_names (scene_of a) (accessed_by sharp c) l))
      ∙ ap (λ b. cut_names (scene_of a) (accessed_by sharp c) l && not b) (sym (writes a n c l ∙ ap (λ b. not b && defined_by a n c l) is))

  pub cut-others : (own named none new : List ℕ) (l : ℕ) → is_condition c ≡ false → ((k : ℕ) → has k own ≡ defined_by a n c k) → ((k : ℕ) → has k named ≡ cut_names (scene_of a) (accessed_by sharp c) k) → none ≡ []
      → Adds (λ k. list_any (λ x. not (has x own) && nat_eq k x) named) none new → has l new ≡ cut_by a sharp n c l
  cut-others own named none new l is owns names empty adds =
      from-none (λ k. list_any (λ x. not (has x own) && nat_eq k x) named) none new l empty adds
      ∙ any-members (λ x. not (has x own)) l named
      ∙ ap (λ b. b && not (has l own)) (names l)
      ∙ ap (λ b. cut_names (scene_of a) (accessed_by sharp c) l && not b) (owns l ∙ sym (writes a n c l ∙ ap (λ b. not b && defined_by a n c l) is))

-- what is cut is among these
pub low-members : (bound : ℕ) (test : ℕ → Bool) (xs none new : List ℕ) → none ≡ [] → Adds test none new → ((k : ℕ) → test k ≡ true → has k xs ≡ true) → ((k : ℕ) → has k xs ≡ true → k < bound) → (l : ℕ) → has l new ≡ true → l < bound
low-members bound test xs none new empty adds among low l h = low l (among l (sym (from-none test none new l empty adds) ∙ h))

pub unwritten-among : (own named : List ℕ) (k : ℕ) → list_any (λ x. not (has x own) && nat_eq k x) named ≡ true → has k named ≡ true
unwritten-among own named k h = first (has k named) (not (has k own)) (sym (any-members (λ x. not (has x own)) k named) ∙ h)
  where
    first : (b c : Bool) → (b && c) ≡ true → b ≡ true
    first true c g = refl
    first false c g = absurd (false≢true g)

-- an empty set has nothing
pub none-there : (xs : List ℕ) (l : ℕ) → length xs ≡ 0 → has l xs ≡ false
none-there [] l h = refl
none-there (x ∷ xs) l h = absurd (omega (arith, h))

pub low-either : (bound : ℕ) (xs ys all : List ℕ) → ((k : ℕ) → has k all ≡ (has k xs || has k ys)) → ((k : ℕ) → has k xs ≡ true → k < bound) → ((k : ℕ) → has k ys ≡ true → k < bound) → (l : ℕ) → has l all ≡ true → l < bound
low-either bound xs ys all is first second l h = by (or_cases (has l xs) (has l ys) (sym (is l) ∙ h))
  where
    by : (has l xs ≡ true) ⊎ (has l ys ≡ true) → l < bound
    by (inl k) = first l k
    by (inr k) = second l k
