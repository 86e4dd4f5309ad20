-- The second induction: the sparse outputs, spread to every point as the join of those that reach it, lie above the
-- effects of their inputs. So they are the dense least solution.
use Rattle.std.proofs.Common.{◌≡◌, ℕ, zero, suc, ◌<◌, Bool, true, false, cond, sym, ap, ◌∙◌, subst, refl}
use Rattle.sp_lattice.specs.Lattice.{Order, IsLattice}
use Rattle.sp_lattice.specs.System.{Meaning, IsSystem, Below, Held, has, store_at, values_at}
use Rattle.sp_lattice.specs.Dense.{Table, input, Under, Above, BelowTable, IsLeast, Partial}
use Rattle.sp_lattice.specs.Dependency.{Passing, Path, direct, onward, IsDependencies}
use Rattle.sp_lattice.specs.Laws.{SolutionLaws}
use Rattle.sp_lattice.proofs.Tables.{edge_below}
use Rattle.sp_lattice.proofs.Stores.{written-values_at, written_elsewhere, effect_from_uses, kept_held}
use Rattle.sp_sparse.specs.inner.Sparse.{IsStanding, EqualsDense}

module _ {V : Type 0} (o : Order V) (m : Meaning V) (laws : IsLattice o) (sys : IsSystem o m) (known : SolutionLaws o m) (test : ℕ → ℕ → ℕ → Bool) (exact : IsDependencies m test) (ins outs : Table V) (done : IsStanding o m test ins outs) where
  -- the outputs at the definitions, and elsewhere what has come in so many steps
  abbrev spread : ℕ → Table V
  spread zero n l = o.bottom
  spread (suc k) n l = cond (has l (m.defs n)) (outs n l) (input o m (spread k) n l)

  spread_fine : (k : ℕ) → ((n : ℕ) → n < m.nodes → Held m (spread k n)) × Under o m (spread k)
  spread_fine zero = (λ n low l l_low. sys.bottom_held, λ n low l l_low. laws.bottom (m.ceiling l))
  spread_fine (suc k) = by (spread_fine k)
    where
      by : ((n : ℕ) → n < m.nodes → Held m (spread k n)) × Under o m (spread k) → ((n : ℕ) → n < m.nodes → Held m (spread (suc k) n)) × Under o m (spread (suc k))
      by so_far = (
        λ n low l l_low. either (m.held) n l (done.part.out_held n low l l_low) (known.inputs_held (spread k) so_far.0 so_far.1 n low l l_low),
        λ n low l l_low. either (λ v. o.le v (m.ceiling l) ≡ true) n l (done.part.out_under n low l l_low) (known.inputs_under (spread k) so_far.1 n low l l_low),
      )
        where
          either : (P : V → Type 0) (n l : ℕ) → P (outs n l) → P (input o m (spread k) n l) → P (cond (has l (m.defs n)) (outs n l) (input o m (spread k) n l))
          either P n l here passed = elim (has l (m.defs n)) as (λ b. P (cond b (outs n l) (input o m (spread k) n l))) [ true ↦ here | false ↦ passed ]

  spread_rises : (k : ℕ) → BelowTable o m (spread k) (spread (suc k))
  spread_rises zero n low l l_low = laws.bottom (spread (suc zero) n l)
  spread_rises (suc k) n low l l_low = by (has l (m.defs n)) (known.lessers_inputs (spread k) (spread (suc k)) (spread_rises k) n low l l_low)
    where
      by : (b : Bool) → o.le (input o m (spread k) n l) (input o m (spread (suc k)) n l) ≡ true → o.le (cond b (outs n l) (input o m (spread k) n l)) (cond b (outs n l) (input o m (spread (suc k)) n l)) ≡ true
      by true more = laws.reflexive (outs n l)
      by false more = more

  spread_below : (other : Table V) → Under o m other → Above o m other → (k : ℕ) → BelowTable o m (spread k) other
  spread_below other under above zero n low l l_low = laws.bottom (other n l)
  spread_below other under above (suc k) n low l l_low = by (has l (m.defs n)) refl (known.lessers_inputs (spread k) other (spread_below other under above k) n low l l_low)
    where
      by : (b : Bool) → has l (m.defs n) ≡ b → o.le (input o m (spread k) n l) (input o m other n l) ≡ true → o.le (cond b (outs n l) (input o m (spread k) n l)) (other n l) ≡ true
      by true is more = done.part.out_below other under above n low l l_low
      by false is more =
          laws.transitive (input o m (spread k) n l) (input o m other n l) (other n l) more
          (subst (λ v. o.le v (other n l) ≡ true) (sys.frame n l (input o m other n) low l_low (known.inputs_under other under n low) is) (above n low l l_low))

  -- what is above each output that has a path to a node is above what has come to the node
  reached : (k n l : ℕ) (v : V) → n < m.nodes → ((b : ℕ) → has l (m.defs b) ≡ true → Path m l b n → o.le (outs b l) v ≡ true) → o.le (input o m (spread k) n l) v ≡ true
  reached zero n l v low each = known.least_above (spread zero) n l v (λ p h passes. laws.bottom v)
  reached (suc k) n l v low each =
      known.least_above (spread (suc k)) n l v
      (λ p h passes.
      let step : Passing m l p n = record { there = low; edge = h; passes = passes } in
      by p (has l (m.defs p)) refl step (λ free. reached k p l v (edge_below o m laws sys n p low h) (λ b defined path. each b defined (onward path free step))))
    where
      by : (p : ℕ) (b : Bool) → has l (m.defs p) ≡ b → Passing m l p n → (has l (m.defs p) ≡ false → o.le (input o m (spread k) p l) v ≡ true) → o.le (cond b (outs p l) (input o m (spread k) p l)) v ≡ true
      by p true is step more = each p is (direct step)
      by p false is step more = more is

  -- so what comes to a use is below the sparse input there
  reached_use : (k n l : ℕ) → n < m.nodes → has l (m.uses n) ≡ true → o.le (input o m (spread k) n l) (ins n l) ≡ true
  reached_use k n l low used =
      reached k n l (ins n l) low (λ b defined path. done.sent b l n ((exact b l n).1 (record { defined = defined; used = used; path = path })))

  -- the values of a store at the uses of a node alone
  abbrev kept : ℕ → (ℕ → V) → ℕ → V
  kept n s = store_at o.bottom (m.uses n) (values_at s (m.uses n))

  kept_low : (n : ℕ) (s : ℕ → V) → ((u : ℕ) → has u (m.uses n) ≡ true → o.le (s u) (ins n u) ≡ true) → Below o m (kept n s) (ins n)
  kept_low n s below u u_low = by (has u (m.uses n)) refl
    where
      by : (b : Bool) → has u (m.uses n) ≡ b → o.le (kept n s u) (ins n u) ≡ true
      by true is = subst (λ v. o.le v (ins n u) ≡ true) (sym (written-values_at (λ k. o.bottom) s (m.uses n) u is)) (below u is)
      by false is = subst (λ v. o.le v (ins n u) ≡ true) (sym (written_elsewhere (λ k. o.bottom) (m.uses n) (values_at s (m.uses n)) u is)) (laws.bottom (ins n u))

  -- a store below the sparse inputs at the uses has an effect below the outputs at the definitions
  effect_below : (n l : ℕ) (s : ℕ → V) → n < m.nodes → l < m.locations → Held m s → Below o m s m.ceiling → ((u : ℕ) → has u (m.uses n) ≡ true → o.le (s u) (ins n u) ≡ true) → has l (m.defs n) ≡ true → o.le (m.effect n s l) (outs n l) ≡ true
  effect_below n l s low l_low held under below defined =
      subst (λ v. o.le v (outs n l) ≡ true) (effect_from_uses o m laws sys n l s low under defined)
      (laws.transitive (m.effect n (kept n s) l) (m.effect n (ins n) l) (outs n l)
      (sys.monotone n (kept n s) (ins n) low (kept_held o m laws sys s (m.uses n) held) (kept_low n s below) (done.part.in_under n low) l l_low)
      (done.evaluated n low l defined))

  -- the step at which the spread stands still
  still : (j : ℕ) × BelowTable o m (spread (suc j)) (spread j)
  still = known.chains_stand spread (λ k. (spread_fine k).0) (λ k. (spread_fine k).1) spread_rises

  module _ (j : ℕ) (stands : BelowTable o m (spread (suc j)) (spread j)) where
    spread_is : (n l : ℕ) → n < m.nodes → l < m.locations → spread j n l ≡ cond (has l (m.defs n)) (outs n l) (input o m (spread j) n l)
    spread_is n l low l_low = laws.antisymmetric (spread j n l) (spread (suc j) n l) (spread_rises j n low l l_low) (stands n low l l_low)

    spread_defined : (n l : ℕ) → n < m.nodes → l < m.locations → has l (m.defs n) ≡ true → spread j n l ≡ outs n l
    spread_defined n l low l_low is = spread_is n l low l_low ∙ ap (λ b. cond b (outs n l) (input o m (spread j) n l)) is

    spread_free : (n l : ℕ) → n < m.nodes → l < m.locations → has l (m.defs n) ≡ false → spread j n l ≡ input o m (spread j) n l
    spread_free n l low l_low is = spread_is n l low l_low ∙ ap (λ b. cond b (outs n l) (input o m (spread j) n l)) is

    spread_part : Partial o m (spread j)
    spread_part = record { held = (spread_fine j).0; under = (spread_fine j).1; below = λ other under above. spread_below other under above j }

    -- by frame off the definitions, by support and monotony on them
    spread_above : Above o m (spread j)
    spread_above n low l l_low = by (has l (m.defs n)) refl
      where
        reaches : Below o m (input o m (spread j) n) m.ceiling
        reaches = known.inputs_under (spread j) (spread_fine j).1 n low

        by : (b : Bool) → has l (m.defs n) ≡ b → o.le (m.effect n (input o m (spread j) n) l) (spread j n l) ≡ true
        by true is =
            subst (λ v. o.le (m.effect n (input o m (spread j) n) l) v ≡ true) (sym (spread_defined n l low l_low is))
            (effect_below n l (input o m (spread j) n) low l_low (known.inputs_held (spread j) (spread_fine j).0 (spread_fine j).1 n low) reaches (λ u used. reached_use j n u low used) is)
        by false is =
            subst (λ v. o.le (m.effect n (input o m (spread j) n) l) v ≡ true) (sym (spread_free n l low l_low is))
            (subst (λ v. o.le v (input o m (spread j) n l) ≡ true) (sym (sys.frame n l (input o m (spread j) n) low l_low reaches is)) (laws.reflexive (input o m (spread j) n l)))

    spread_least : IsLeast o m (spread j)
    spread_least = known.ends (spread j) spread_part spread_above

    spread_equals : EqualsDense o m ins outs
    spread_equals = record {
      dense = spread j;
      least = spread_least;
      inputs = λ n l low l_low used. laws.antisymmetric (ins n l) (input o m (spread j) n l) (done.part.in_below (spread j) (spread_fine j).1 spread_above n low l l_low) (reached_use j n l low used);
      outputs = λ n l low l_low defined. sym (spread_defined n l low l_low defined);
    }

  -- sparse equals dense
  pub equals_dense : EqualsDense o m ins outs
  equals_dense = spread_equals still.0 still.1
