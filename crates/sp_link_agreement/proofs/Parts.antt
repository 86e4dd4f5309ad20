-- Two structs agree exactly where they do apart from the structs inside, and those inside do.
use Rattle.std.proofs.Common.{◌≡◌, ℕ, Bool, true, false, ◌&&◌, ◌==◌, List, [], ◌∷◌, ◌++◌, Option, Some, refl, ap, sym, ◌∙◌}
use Rattle.std.specs.List.{list_all}
use Rattle.sp_types.specs.Types.{CType, void, integer, floating, pointer, array, structure, function, Signature, signature, Parameters, listed, CTypes, no_types, next_type, Struct}
use Rattle.sp_types.specs.Compatible.{same_kind, same_float, same_flag, lengths_agree}
use Rattle.sp_link_agreement.specs.Agreement.{compatible_by, signatures_compatible_by, parameters_compatible_by, all_compatible_by, members_agree, contents_agree, same_head}
use Rattle.sp_link_agreement.specs.Depths.{found_agree}
use Rattle.sp_link_agreement.specs.Inner.{any_two, inner, inner_of_signatures, inner_of_parameters, inner_of_types, inner_of_members, inner_of_contents, inner_of_structs}

-- ---- tests

pub both_and : {a b c d : Bool} → a ≡ b → c ≡ d → (a && c) ≡ (b && d)
both_and p q = λ i. p i && q i

pub and_left : (a b : Bool) → (a && b) ≡ true → a ≡ true
and_left true b h = refl
and_left false b h = h

pub and_right : (a b : Bool) → (a && b) ≡ true → b ≡ true
and_right true b h = h
and_right false b h = cc

and-true : (a : Bool) → (a && true) ≡ a
and-true true = refl
and-true false = refl

and_assoc : (a b c : Bool) → (a && (b && c)) ≡ ((a && b) && c)
and_assoc true b c = refl
and_assoc false b c = refl

and_between : (a b c d : Bool) → ((a && b) && (c && d)) ≡ ((a && c) && (b && d))
and_between false b c d = refl
and_between true true c d = refl
and_between true false true d = refl
and_between true false false d = refl

-- ---- each pair passes

abbrev pub passes : (ℕ → ℕ → Bool) → List (ℕ × ℕ) → Bool
passes agree qs = list_all (λ q. agree q.0 q.1) qs

passes-append : (agree : ℕ → ℕ → Bool) (xs ys : List (ℕ × ℕ)) → (passes agree xs && passes agree ys) ≡ passes agree (xs ++ ys)
passes-append agree [] ys = refl
passes-append agree (x ∷ xs) ys = sym (and_assoc (agree x.0 x.1) (passes agree xs) (passes agree ys)) ∙ ap (λ b. agree x.0 x.1 && b) (passes-append agree xs ys)

-- two parts, each with a test of its own and pairs, are one
joined : (agree : ℕ → ℕ → Bool) (a b : Bool) (xs ys : List (ℕ × ℕ)) {c d : Bool} → c ≡ (a && passes agree xs) → d ≡ (b && passes agree ys) → (c && d) ≡ ((a && b) && passes agree (xs ++ ys))
joined agree a b xs ys p q = both_and p q ∙ and_between a (passes agree xs) b (passes agree ys) ∙ ap (λ e. (a && b) && e) (passes-append agree xs ys)

-- a test before a part
before : (a b c : Bool) {d : Bool} → d ≡ (b && c) → (a && d) ≡ ((a && b) && c)
before a b c p = ap (λ e. a && e) p ∙ and_assoc a b c

-- ---- types

mutual
  pub types-parts : (agree : ℕ → ℕ → Bool) (t u : CType) → compatible_by agree t u ≡ (compatible_by any_two t u && passes agree (inner t u))
  types-parts agree void void = refl
  types-parts agree (integer a) (integer b) = sym (and-true (same_kind a b))
  types-parts agree (floating a) (floating b) = sym (and-true (same_float a b))
  types-parts agree (pointer a) (pointer b) = types-parts agree a b
  types-parts agree (array a n) (array b m) = before (lengths_agree n m) (compatible_by any_two a b) (passes agree (inner a b)) (types-parts agree a b)
  types-parts agree (structure a) (structure b) = sym (and-true (agree a b))
  types-parts agree (function a) (function b) = signatures-parts agree a b
  types-parts agree _ _ = refl

  signatures-parts : (agree : ℕ → ℕ → Bool) (s z : Signature) → signatures_compatible_by agree s z ≡ (signatures_compatible_by any_two s z && passes agree (inner_of_signatures s z))
  signatures-parts agree (signature r ps v) (signature q qs w) =
      joined agree (compatible_by any_two r q) (parameters_compatible_by any_two v w ps qs) (inner r q) (inner_of_parameters ps qs) (types-parts agree r q) (parameters-parts agree v w ps qs)

  parameters-parts : (agree : ℕ → ℕ → Bool) (v w : Bool) (ps qs : Parameters) → parameters_compatible_by agree v w ps qs ≡ (parameters_compatible_by any_two v w ps qs && passes agree (inner_of_parameters ps qs))
  parameters-parts agree v w (listed ts) (listed us) = before (same_flag v w) (all_compatible_by any_two ts us) (passes agree (inner_of_types ts us)) (all-parts agree ts us)
  parameters-parts agree v w _ _ = refl

  all-parts : (agree : ℕ → ℕ → Bool) (ts us : CTypes) → all_compatible_by agree ts us ≡ (all_compatible_by any_two ts us && passes agree (inner_of_types ts us))
  all-parts agree no_types no_types = refl
  all-parts agree (next_type t ts) (next_type u us) =
      joined agree (compatible_by any_two t u) (all_compatible_by any_two ts us) (inner t u) (inner_of_types ts us) (types-parts agree t u) (all-parts agree ts us)
  all-parts agree _ _ = refl

-- ---- structs

members-parts : (agree : ℕ → ℕ → Bool) (ms ks : List (ℕ × CType)) → members_agree agree ms ks ≡ (members_agree any_two ms ks && passes agree (inner_of_members ms ks))
members-parts agree [] [] = refl
members-parts agree (m ∷ ms) (k ∷ ks) =
    joined agree (m.0 == k.0 && compatible_by any_two m.1 k.1) (members_agree any_two ms ks) (inner m.1 k.1) (inner_of_members ms ks)
    (before (m.0 == k.0) (compatible_by any_two m.1 k.1) (passes agree (inner m.1 k.1)) (types-parts agree m.1 k.1))
    (members-parts agree ms ks)
members-parts agree _ _ = refl

contents-parts : (agree : ℕ → ℕ → Bool) (ms ks : Option (List (ℕ × CType))) → contents_agree agree ms ks ≡ (contents_agree any_two ms ks && passes agree (inner_of_contents ms ks))
contents-parts agree (Some ms) (Some ks) = members-parts agree ms ks
contents-parts agree _ _ = refl

pub found-parts : (agree : ℕ → ℕ → Bool) (s t : Option Struct) → found_agree agree s t ≡ (found_agree any_two s t && passes agree (inner_of_structs s t))
found-parts agree (Some s) (Some t) = before (same_head s t) (contents_agree any_two s.members t.members) (passes agree (inner_of_contents s.members t.members)) (contents-parts agree s.members t.members)
found-parts agree _ _ = refl
