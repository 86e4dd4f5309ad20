-- What the code computes on 128 bits is exact where the bounds are no wider than those of a product
-- with a size.
use Rattle.std.proofs.Common.{◌≡◌, ℕ, ◌<◌, ◌^◌, Bool, true, false, cond, ◌&&◌, ℤ, pos, negsuc, ◌+ℤ◌, ◌-ℤ◌, ◌≤ℤ◌, neg_ℤ, FitsSigned, refl, sym, ap, ◌∙◌, arith}
use Rattle.std.specs.Int.{w128, cast_signed, cast_unsigned, int_div_euclid}
use Rattle.std.specs.Ordering.{int_eq}
use Rattle.std.proofs.Math.Nat.{div-le_self}
use Rattle.std.proofs.lemmas.Bool.{false≢true}
use Rattle.std.proofs.lemmas.Int.{ints, to_z-of_z}
use Rattle.std.proofs.lemmas.Bool.Decides.{Decides-int_eq}
use Rattle.sp_lattice.specs.Ladder.{InBounds}
use Rattle.std.specs.Prelude.{int_le, int_lt}
use Rattle.sp_lattice.proofs.Snaps.{same_int, le_from_int_le, lt_from_int_lt}
use Rattle.sp_interval.specs.declared.interval.Interval.TheVariants.{Of}
use Rattle.sp_interval.specs.Interval.{turns, reduced, wrapped, ranged}
use Rattle.sp_interval.proofs.Machine.{machine}
use Rattle.sp_eval.specs.Numbers.{pointer_range, every, outward}

-- from -n to n
abbrev pub IsNear : ℕ → ℤ → Type 0
IsNear n z = (neg_ℤ (pos n) ≤ℤ z) × (z ≤ℤ pos n)

-- ---- sums and differences

module _ (a b : ℤ) (h : InBounds a) (g : IsNear (2 ^ 104) b) where
  pub sum_wide : machine (machine a +ℤ machine b) ≡ (a +ℤ b)
  sum_wide = let p = h.0 in let q = h.1 in let r = g.0 in let s = g.1 in omega (arith, ints)

  pub sum-near : IsNear (2 ^ 105) (a +ℤ b)
  sum-near = let p = h.0 in let q = h.1 in let r = g.0 in let s = g.1 in (omega (arith, ints), omega (arith, ints))

  pub difference_wide : machine (machine a -ℤ machine b) ≡ (a -ℤ b)
  difference_wide = let p = h.0 in let q = h.1 in let r = g.0 in let s = g.1 in omega (arith, ints)

  pub difference-near : IsNear (2 ^ 105) (a -ℤ b)
  difference-near = let p = h.0 in let q = h.1 in let r = g.0 in let s = g.1 in (omega (arith, ints), omega (arith, ints))

-- ---- division by a size

floor-near : (z : ℤ) (n q : ℕ) → IsNear n z → IsNear n (int_div_euclid z (pos q))
floor-near (pos a) n q h = let p = h.1 in let r = div-le_self a q in (omega (arith, ints), omega (arith, ints, r))
floor-near (negsuc a) n q h = let p = h.0 in let r = div-le_self a q in (omega (arith, ints, r), omega (arith, ints))

near-machine : (z : ℤ) → IsNear (2 ^ 105) z → machine z ≡ z
near-machine z h = let p = h.0 in let q = h.1 in omega (arith, ints)

negated-machine : (z : ℤ) → IsNear (2 ^ 105) z → machine (pos 0 -ℤ machine z) ≡ neg_ℤ z
negated-machine z h = let p = h.0 in let q = h.1 in omega (arith, ints)

negated-near : (z : ℤ) (n : ℕ) → IsNear n z → IsNear n (neg_ℤ z)
negated-near z n h = let p = h.0 in let q = h.1 in (omega (arith, ints), omega (arith, ints))

pub outward-exact : (size : ℕ) (a b q r s : ℤ) → size < 2 ^ 64 → s ≡ pos size → IsNear (2 ^ 105) a → IsNear (2 ^ 105) b
    → q ≡ int_div_euclid (machine a) (machine s) → r ≡ int_div_euclid (machine (pos 0 -ℤ machine b)) (machine s)
    → Of (machine q) (machine (pos 0 -ℤ machine r)) ≡ outward size (Of a b)
outward-exact size a b q r s fits is h g low high =
    let step : machine s ≡ pos size = omega (arith, ints, is, fits) in
    let low' : q ≡ int_div_euclid a (pos size) = low ∙ ap (λ z. int_div_euclid z (machine s)) (near-machine a h) ∙ ap (int_div_euclid a) step in
    let high' : r ≡ int_div_euclid (neg_ℤ b) (pos size) = high ∙ ap (λ z. int_div_euclid z (machine s)) (negated-machine b g) ∙ ap (int_div_euclid (neg_ℤ b)) step in
    let first : machine q ≡ int_div_euclid a (pos size) = ap machine low' ∙ near-machine (int_div_euclid a (pos size)) (floor-near a (2 ^ 105) size h) in
    let second : machine (pos 0 -ℤ machine r) ≡ neg_ℤ (int_div_euclid (neg_ℤ b) (pos size)) =
    ap (λ z. machine (pos 0 -ℤ machine z)) high' ∙ negated-machine (int_div_euclid (neg_ℤ b) (pos size)) (floor-near (neg_ℤ b) (2 ^ 105) size (negated-near b (2 ^ 105) g)) in
    ap (λ z. Of z (machine (pos 0 -ℤ machine r))) first ∙ ap (Of (int_div_euclid a (pos size))) second

-- ---- results of unsigned long past its range

-- two numbers of one word are one
pub same_word : (x y : ℤ) → FitsSigned w128 x → FitsSigned w128 y → cast_unsigned w128 x ≡ cast_unsigned w128 y → x ≡ y
same_word x y h g e = sym (to_z-of_z w128 x h) ∙ ap (λ n. machine_of n) e ∙ to_z-of_z w128 y g
  where
    machine_of : ℕ → ℤ
    machine_of n = cast_signed w128 n

pub wrapped-same : (a b : ℤ) → turns pointer_range a ≡ turns pointer_range b → Of (reduced pointer_range a) (reduced pointer_range b) ≡ wrapped pointer_range a b
wrapped-same a b e = by (int_eq (turns pointer_range a) (turns pointer_range b)) ((Decides-int_eq (turns pointer_range a) (turns pointer_range b)).1 e)
  where
    by : (t : Bool) → t ≡ true → Of (reduced pointer_range a) (reduced pointer_range b) ≡ cond t (Of (reduced pointer_range a) (reduced pointer_range b)) (every pointer_range)
    by true h = refl
    by false h = absurd (false≢true h)

pub wrapped-apart : (a b : ℤ) → (turns pointer_range a ≡ turns pointer_range b → ⊥) → every pointer_range ≡ wrapped pointer_range a b
wrapped-apart a b e = by (int_eq (turns pointer_range a) (turns pointer_range b)) refl
  where
    by : (t : Bool) → int_eq (turns pointer_range a) (turns pointer_range b) ≡ t → every pointer_range ≡ cond t (Of (reduced pointer_range a) (reduced pointer_range b)) (every pointer_range)
    by true h = absurd (e (same_int (turns pointer_range a) (turns pointer_range b) h))
    by false h = refl

-- past either end the range rule wraps
pub outside-low : (a b : ℤ) → int_lt a (pos 0) ≡ true → wrapped pointer_range a b ≡ ranged pointer_range (Of a b)
outside-low a b h = by (int_le (pos 0) a) refl
  where
    by : (t : Bool) → int_le (pos 0) a ≡ t → wrapped pointer_range a b ≡ cond (t && int_le b pointer_range.hi) (Of a b) (wrapped pointer_range a b)
    by true e = absurd (let k = lt_from_int_lt a (pos 0) h in let l = le_from_int_le (pos 0) a e in omega (arith, ints, k, l))
    by false e = refl

pub outside-high : (a b : ℤ) → int_le (pos (2 ^ 64)) b ≡ true → wrapped pointer_range a b ≡ ranged pointer_range (Of a b)
outside-high a b h = by (int_le (pos 0) a) (int_le b pointer_range.hi) refl
  where
    by : (s t : Bool) → int_le b pointer_range.hi ≡ t → wrapped pointer_range a b ≡ cond (s && t) (Of a b) (wrapped pointer_range a b)
    by true true e = absurd (let k = le_from_int_le (pos (2 ^ 64)) b h in let l = le_from_int_le b pointer_range.hi e in omega (arith, ints, k, l))
    by true false e = refl
    by false t e = refl
