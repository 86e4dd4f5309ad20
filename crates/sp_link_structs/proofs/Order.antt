-- The order of structs by unit and number, and the first of a list.
use Rattle.std.proofs.Common.{◌≡◌, ℕ, zero, suc, ◌+◌, ◌<◌, Bool, true, false, ◌&&◌, ◌||◌, ◌==◌, nat_lt, if◌then◌else◌, List, [], ◌∷◌, ◌++◌, Some, ◌⊎◌, inl, inr, refl, ap, sym, subst, ◌∙◌, true≢false, eqb-true, eq-eqb, arith}
use Rattle.std.proofs.lemmas.Bool.{ltb-true, lt-ltb}
use Rattle.std.specs.Prelude.{slice_get, ⊤}
use Rattle.sp_types.specs.Types.{Struct}
use Rattle.sp_link_structs.specs.Matched.{of_unit, of_units, IsFirst}
use Rattle.sp_link_structs.specs.Leading.{is_before, earlier, later}
use Rattle.sp_link_structs.proofs.Members.{Has, some_is, in_order, has_either, from_unit, from_units}

-- the same of numbers
abbrev pub Before : ℕ × ℕ → ℕ × ℕ → Type 0
Before x y = (x.0 < y.0) ⊎ ((x.0 ≡ y.0) × (x.1 < y.1))

or_parts : (a b : Bool) → (a || b) ≡ true → (a ≡ true) ⊎ (b ≡ true)
or_parts true b h = inl refl
or_parts false b h = inr h

or_left : (a b : Bool) → a ≡ true → (a || b) ≡ true
or_left true b h = refl
or_left false b h = absurd (true≢false (sym h))

or_right : (a b : Bool) → b ≡ true → (a || b) ≡ true
or_right true b h = refl
or_right false b h = h

and_parts : (a b : Bool) → (a && b) ≡ true → (a ≡ true) × (b ≡ true)
and_parts true b h = (refl, h)
and_parts false b h = absurd (true≢false (sym h))

pub before_is : (x y : ℕ × ℕ) → is_before x y ≡ true → Before x y
before_is x y h = by (or_parts (nat_lt x.0 y.0) (x.0 == y.0 && nat_lt x.1 y.1) h)
  where
    by : (nat_lt x.0 y.0 ≡ true) ⊎ ((x.0 == y.0 && nat_lt x.1 y.1) ≡ true) → Before x y
    by (inl e) = inl (ltb-true x.0 y.0 e)
    by (inr e) =
        let w : ((x.0 == y.0) ≡ true) × (nat_lt x.1 y.1 ≡ true) = and_parts (x.0 == y.0) (nat_lt x.1 y.1) e in
        inr (eqb-true x.0 y.0 w.0, ltb-true x.1 y.1 w.1)

pub is_before_from : (x y : ℕ × ℕ) → Before x y → is_before x y ≡ true
is_before_from x y (inl l) = or_left (nat_lt x.0 y.0) (x.0 == y.0 && nat_lt x.1 y.1) (lt-ltb x.0 y.0 l)
is_before_from x y (inr w) =
    or_right (nat_lt x.0 y.0) (x.0 == y.0 && nat_lt x.1 y.1) (λ i. eq-eqb x.0 y.0 w.0 i && lt-ltb x.1 y.1 w.1 i)

pub not_before : (x y : ℕ × ℕ) → (Before x y → ⊥) → is_before x y ≡ false
not_before x y n = by (is_before x y) refl
  where
    by : (b : Bool) → is_before x y ≡ b → b ≡ false
    by true e = absurd (n (before_is x y e))
    by false e = refl

pub before_not : (x y : ℕ × ℕ) → is_before x y ≡ false → Before x y → ⊥
before_not x y e h = true≢false (sym (is_before_from x y h) ∙ e)

pub never_both : (x y : ℕ × ℕ) → Before x y → Before y x → ⊥
never_both x y (inl a) (inl b) = omega (arith, a, b)
never_both x y (inl a) (inr b) = let e : y.0 ≡ x.0 = b.0 in omega (arith, a, e)
never_both x y (inr a) (inl b) = let e : x.0 ≡ y.0 = a.0 in omega (arith, e, b)
never_both x y (inr a) (inr b) = let l : x.1 < y.1 = a.1 in let m : y.1 < x.1 = b.1 in omega (arith, l, m)

pub never_itself : (x : ℕ × ℕ) → is_before x x ≡ false
never_itself x = not_before x x (λ h. never_both x x h h)

before_on : (x y z : ℕ × ℕ) → Before x y → Before y z → Before x z
before_on x y z (inl a) (inl b) = inl (omega (arith, a, b))
before_on x y z (inl a) (inr b) = let e : y.0 ≡ z.0 = b.0 in inl (omega (arith, a, e))
before_on x y z (inr a) (inl b) = let e : x.0 ≡ y.0 = a.0 in inl (omega (arith, e, b))
before_on x y z (inr a) (inr b) = let l : x.1 < y.1 = a.1 in let m : y.1 < z.1 = b.1 in inr (a.0 ∙ b.0, omega (arith, l, m))

-- x isn't before y, and z is at or before y: so x isn't before z
pub stays_behind : (x y z : ℕ × ℕ) → is_before x y ≡ false → is_before y z ≡ false → is_before x z ≡ false
stays_behind x y z p q = not_before x z (λ h. by h)
  where
    number : x.0 ≡ y.0 → Before x z → (x.1 < y.1) ⊎ ((x.1 ≡ y.1) ⊎ (y.1 < x.1)) → ⊥
    number e h (inl l) = before_not x y p (inr (e, l))
    number e h (inr (inl f)) = before_not y z q (subst (λ (w : ℕ × ℕ). Before w z) (λ i. (e i, f i)) h)
    number e h (inr (inr l)) = before_not y z q (before_on y x z (inr (sym e, l)) h)

    unit : Before x z → (x.0 < y.0) ⊎ ((x.0 ≡ y.0) ⊎ (y.0 < x.0)) → ⊥
    unit h (inl l) = before_not x y p (inl l)
    unit h (inr (inl e)) = number e h (in_order x.1 y.1)
    unit h (inr (inr l)) = before_not y z q (before_on y x z (inl l) h)

    by : Before x z → ⊥
    by h = unit h (in_order x.0 y.0)

-- ---- the list of all structs is in order

abbrev pub AreInOrder : List (ℕ × ℕ) → Type 0
AreInOrder [] = ⊤
AreInOrder (x ∷ xs) = ((i : ℕ) (y : ℕ × ℕ) → slice_get xs i ≡ Some y → Before x y) × AreInOrder xs

unit_in_order : (u k : ℕ) (ss : List Struct) → AreInOrder (of_unit u k ss)
unit_in_order u k [] = tt
unit_in_order u k (s ∷ ss) = ((λ i y e. by i y e), unit_in_order u (suc k) ss)
  where
    by : (i : ℕ) (y : ℕ × ℕ) → slice_get (of_unit u (suc k) ss) i ≡ Some y → Before (u, k) y
    by i y e =
        let w : (s : Struct) × (slice_get ss i ≡ Some s) × ((u, suc k + i) ≡ y) = from_unit u (suc k) ss i y e in
        subst (λ z. Before (u, k) z) w.2 (inr (refl, omega arith))

append_in_order : (xs ys : List (ℕ × ℕ)) → AreInOrder xs → AreInOrder ys
    → ((i j : ℕ) (x y : ℕ × ℕ) → slice_get xs i ≡ Some x → slice_get ys j ≡ Some y → Before x y) → AreInOrder (xs ++ ys)
append_in_order [] ys p q r = q
append_in_order (x ∷ xs) ys p q r = ((λ i y e. by i y e), append_in_order xs ys p.1 q (λ i j a b f g. r (suc i) j a b f g))
  where
    either : (y : ℕ × ℕ) → Has xs y ⊎ Has ys y → Before x y
    either y (inl w) = p.0 w.0 y w.1
    either y (inr w) = r zero w.0 x y refl w.1

    by : (i : ℕ) (y : ℕ × ℕ) → slice_get (xs ++ ys) i ≡ Some y → Before x y
    by i y e = either y (has_either xs ys y i e)

units_in_order : (u : ℕ) (us : List (List Struct)) → AreInOrder (of_units u us)
units_in_order u [] = tt
units_in_order u (ss ∷ us) = append_in_order (of_unit u 0 ss) (of_units (suc u) us) (unit_in_order u 0 ss) (units_in_order (suc u) us) by
  where
    by : (i j : ℕ) (x y : ℕ × ℕ) → slice_get (of_unit u 0 ss) i ≡ Some x → slice_get (of_units (suc u) us) j ≡ Some y → Before x y
    by i j x y e f =
        let v : (s : Struct) × (slice_get ss i ≡ Some s) × ((u, 0 + i) ≡ x) = from_unit u 0 ss i x e in
        let w : (j k : ℕ) × (ss : List Struct) × (s : Struct) × (slice_get us j ≡ Some ss) × (slice_get ss k ≡ Some s) × ((suc u + j, k) ≡ y) = from_units (suc u) us j y f in
        let low : u < suc u + w.0 = omega arith in
        subst (λ z. Before z y) v.2 (subst (λ z. Before (u, 0 + i) z) w.6 (inl low))

-- one of a list in order of which it holds is the first where it holds of none before it
first_in_order : (P : ℕ × ℕ → Type 0) (xs : List (ℕ × ℕ)) → AreInOrder xs → (r : ℕ × ℕ) (i : ℕ) → slice_get xs i ≡ Some r → P r → ((y : ℕ × ℕ) → P y → Before y r → ⊥) → IsFirst P xs (Some r)
first_in_order P [] order r i e h n = absurd (cc)
first_in_order P (x ∷ xs) order r zero e h n = let same : x ≡ r = some_is x r e in inl (subst P (sym same) h, ap Some (sym same))
first_in_order P (x ∷ xs) order r (suc i) e h n = inr ((λ p. n x p (order.0 i r e)), first_in_order P xs order.1 r i e h n)

pub first_of_units : (P : ℕ × ℕ → Type 0) (us : List (List Struct)) (r : ℕ × ℕ) → Has (of_units 0 us) r → P r → ((y : ℕ × ℕ) → P y → Before y r → ⊥) → IsFirst P (of_units 0 us) (Some r)
first_of_units P us r w h n = first_in_order P (of_units 0 us) (units_in_order 0 us) r w.0 w.1 h n

-- ---- of two

pub earlier_low : (x y : ℕ × ℕ) → is_before (later x y) (earlier x y) ≡ false
earlier_low x y = by (is_before y x) refl
  where
    by : (b : Bool) → is_before y x ≡ b → is_before (if b then x else y) (if b then y else x) ≡ false
    by true e = not_before x y (λ h. never_both x y h (before_is y x e))
    by false e = e
