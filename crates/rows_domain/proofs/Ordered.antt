-- Pairs each of which comes before the next ascend.
use Rattle.std.proofs.Common.{◌≡◌, ℕ, zero, suc, ◌+◌, ◌-◌, ◌<◌, ◌&&◌, ◌||◌, eqb, ltb, true, List, length, get_or, refl, subst, arith}
use Rattle.std.proofs.lemmas.Bool.Decides.{nat_tests}
use Rattle.sp_engine_keeping.specs.Triples.{is_before, Ascends}

before-through : (a b c d e f : ℕ) → (ltb a c || eqb a c && ltb b d) ≡ true → (ltb c e || eqb c e && ltb d f) ≡ true → (ltb a e || eqb a e && ltb b f) ≡ true
before-through a b c d e f g h = grind (arith, nat_tests)

module _ (xs : List (ℕ × ℕ)) (each : (k : ℕ) (d : ℕ × ℕ) → k + 1 < length xs → is_before (get_or xs k d) (get_or xs (k + 1) d) ≡ true) where
  before_by : (n i j : ℕ) (d : ℕ × ℕ) → j ≡ i + 1 + n → j < length xs → is_before (get_or xs i d) (get_or xs j d) ≡ true
  before_by zero i j d e low = subst (λ k. is_before (get_or xs i d) (get_or xs k d) ≡ true) (let s : i + 1 ≡ j = omega arith in s) (each i d (omega arith))
  before_by (suc n) i j d e low =
      let p = get_or xs i d in
      let q = get_or xs (i + 1 + n) d in
      let r = get_or xs (i + 1 + n + 1) d in
      let near : i + 1 + n < length xs = omega arith in
      let next : i + 1 + n + 1 < length xs = omega arith in
      subst (λ k. is_before p (get_or xs k d) ≡ true) (let s : i + 1 + n + 1 ≡ j = omega arith in s)
      (before-through p.0 p.1 q.0 q.1 r.0 r.1 (before_by n i (i + 1 + n) d refl near) (each (i + 1 + n) d next))

  pub ascends-from_each : Ascends xs
  ascends-from_each i j d less low = before_by (j - (i + 1)) i j d (omega arith) low
