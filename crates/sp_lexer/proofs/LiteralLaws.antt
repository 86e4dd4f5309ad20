-- Laws of what a body stands for.
use Rattle.std.proofs.Common.{◌≡◌, ℕ, ◌<◌, List, [], ◌∷◌, ◌++◌, length, Option, Some, None, append_assoc, refl, sym, ap, ◌∙◌, subst, arith}
use Rattle.std.specs.Option.{option_map, unwrap_or}
use Rattle.sp_lexer.specs.Literals.{StandsFor, nothing, byte, byte_at}

pub some_pair : (a b : ℕ) (x y : List ℕ) → ◌≡◌ {A = Option (ℕ × List ℕ)} (Some (a, x)) (Some (b, y)) → (a ≡ b) × (x ≡ y)
some_pair a b x y e =
    let first : Option (ℕ × List ℕ) → ℕ = λ o. unwrap_or (option_map (λ p. p.0) o) 0 in
    let second : Option (ℕ × List ℕ) → List ℕ = λ o. unwrap_or (option_map (λ p. p.1) o) [] in
    (ap first e, ap second e)

-- a body stands for its first byte and what the rest stands for
pub first_byte : (body rest all : List ℕ) (value : ℕ) → byte_at body ≡ Some (value, rest) → StandsFor body all → (others : List ℕ) × StandsFor rest others × (all ≡ value ∷ others)
first_byte [] rest [] value at nothing = cc
first_byte (_ ∷ _) rest [] value at h = elim h [ ]
first_byte body rest (v ∷ vs) value at (byte {rest = next} e h) =
    let same = some_pair v value next rest (sym e ∙ at) in
    (vs, subst (λ r. StandsFor r vs) same.1 h, ap (λ x. x ∷ vs) same.0)

-- a body that isn't empty and has no first byte stands for nothing
pub no_byte : (body all : List ℕ) → byte_at body ≡ None → 0 < length body → StandsFor body all → ⊥
no_byte [] [] at long nothing = omega arith
no_byte (_ ∷ _) [] at long h = elim h [ ]
no_byte body (v ∷ vs) at long (byte e h) = cc

pub no_more : (all : List ℕ) → StandsFor [] all → all ≡ []
no_more [] nothing = refl
no_more (v ∷ vs) (byte e h) = cc

-- a body that stands for one byte has it first, and nothing after it
pub one_byte : (body rest : List ℕ) (value : ℕ) → byte_at body ≡ Some (value, rest) → rest ≡ [] → StandsFor body (value ∷ [])
one_byte body rest value at none = byte at (subst (λ r. StandsFor r []) (sym none) nothing)

pub not_one_byte : (body rest : List ℕ) (value other : ℕ) → byte_at body ≡ Some (value, rest) → 0 < length rest → StandsFor body (other ∷ []) → ⊥
not_one_byte body rest value other at long h =
    let parts = first_byte body rest (other ∷ []) value at h in
    let none : [] ≡ parts.0 = cc in
    let empty : StandsFor rest [] = subst (StandsFor rest) (sym none) parts.1 in
    by rest long empty
  where
    by : (rest : List ℕ) → 0 < length rest → StandsFor rest [] → ⊥
    by [] long nothing = omega arith
    by (_ ∷ _) long h = elim h [ ]

-- the values so far, of a body with this rest
pub record Read (body rest values : List ℕ) : Type 0 where
  pub onward : (more : List ℕ) → StandsFor rest more → StandsFor body (values ++ more)
  pub only : (all : List ℕ) → StandsFor body all → (more : List ℕ) × StandsFor rest more × (all ≡ values ++ more)

pub read_none : (body : List ℕ) → Read body body []
read_none body = record { onward = λ more h. h; only = λ all h. (all, h, refl) }

pub read_more : (body rest values next : List ℕ) (value : ℕ) → byte_at rest ≡ Some (value, next) → Read body rest values → Read body next (values ++ value ∷ [])
read_more body rest values next value at so_far = record {
  onward = λ more h. rw append_assoc (so_far.onward (value ∷ more) (byte at h));
  only = λ all h.
      let before = so_far.only all h in
      let first = first_byte rest next before.0 value at before.1 in
      (first.0, first.1, before.2 ∙ ap (λ r. values ++ r) first.2 ∙ sym (append_assoc values (value ∷ []) first.0));
}
