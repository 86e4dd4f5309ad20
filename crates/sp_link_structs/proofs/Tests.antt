-- Tests that are true, equal structs, and what an answer gives.
use Rattle.std.proofs.Common.{◌≡◌, ℕ, Bool, true, false, ◌&&◌, ◌==◌, refl, sym, subst, ◌∙◌, true≢false, eqb-true, eq-eqb}
use Rattle.std.specs.Prelude.{Result, Ok, Err, IfOk}
use Rattle.sp_link_agreement.specs.Inner.{same_entity}

pub and_left : (a b : Bool) → (a && b) ≡ true → a ≡ true
and_left true b h = refl
and_left false b h = h

pub and_right : (a b : Bool) → (a && b) ≡ true → b ≡ true
and_right true b h = h
and_right false b h = cc

pub both : {a b : Bool} → a ≡ true → b ≡ true → (a && b) ≡ true
both p q = λ i. p i && q i

pub entity_is : (x y : ℕ × ℕ) → same_entity x y ≡ true → x ≡ y
entity_is x y h =
    let a : x.0 ≡ y.0 = eqb-true x.0 y.0 (and_left (x.0 == y.0) (x.1 == y.1) h) in
    let b : x.1 ≡ y.1 = eqb-true x.1 y.1 (and_right (x.0 == y.0) (x.1 == y.1) h) in
    λ i. (a i, b i)

pub entity_self : (x : ℕ × ℕ) → same_entity x x ≡ true
entity_self x = both (eq-eqb x.0 x.0 refl) (eq-eqb x.1 x.1 refl)

pub entity_turned : (x y : ℕ × ℕ) (b : Bool) → same_entity x y ≡ b → same_entity y x ≡ b
entity_turned x y true e = subst (λ z. same_entity z x ≡ true) (entity_is x y e) (entity_self x)
entity_turned x y false e = by (same_entity y x) refl
  where
    by : (c : Bool) → same_entity y x ≡ c → c ≡ false
    by true t = absurd (true≢false (sym (subst (λ z. same_entity x z ≡ true) (sym (entity_is y x t)) (entity_self x)) ∙ e))
    by false t = refl

pub if_ok : {T E : Type 0} (r : Result T E) (P Q : T → Type 0) → ((x : T) → P x → Q x) → IfOk r P → IfOk r Q
if_ok (Ok x) P Q f h = f x h
if_ok (Err e) P Q f h = tt
