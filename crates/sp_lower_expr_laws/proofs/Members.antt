-- Members of structs, through lvalues and through pointers (C90 6.3.2.3).
use Rattle.std.proofs.Common.{◌≡◌, inl, inr, ℕ, suc, ◌+◌, ◌≤◌, true, List, [], ◌∷◌, Some, if◌then◌else◌, refl, ap, sym, ◌∙◌, subst, arith}
use Rattle.std.specs.Prelude.{slice_get}
use Rattle.sp_tree.specs.declared.fault.Place.{Place}
use Rattle.sp_types.specs.Types.{CType, void, integer, floating, pointer, array, structure, function, Struct}
use Rattle.sp_types.specs.Structs.{IsFormed}
use Rattle.sp_ir.specs.Commands.{Expression, Lvalue, through, field, lvalue_type}
use Rattle.sp_ir.specs.Programs.{Object}
use Rattle.sp_ir.specs.Formed.{IsLvalue}
use Rattle.sp_ir.specs.Terrain.{size_of}
use Rattle.sp_lower_draft.specs.Context.{Context, pointee, member_of, member_named, members_of, known_members}
use Rattle.sp_check_typing.specs.Sorts.{agrees}
use Rattle.sp_check_typing.specs.Trees.{HasMember, HasMemberIn, PointsToMember}
use Rattle.sp_lower_expr_laws.specs.Stands.{table}
use Rattle.sp_lower_expr_laws.specs.Uses.{Designates}
use Rattle.sp_lower_expr_laws.proofs.Sorts.{agrees_struct, agrees_floating}
use Rattle.sp_lower_expr_laws.proofs.Loads.{place_sized, IsPointer}

-- the member that a look-up by its name finds, counted from k
record IsFound (ms : List (ℕ × CType)) (k : ℕ) (t : CType) (found : ℕ × CType) : Type 0 where
  index : ℕ
  name : ℕ
  there : slice_get ms index ≡ Some (name, found.1)
  number : found.0 ≡ k + index
  same : agrees found.1 t ≡ true

found_in : (name : ℕ) (t : CType) (k : ℕ) (ms : List (ℕ × CType)) → HasMemberIn ms name t → IsFound ms k t (member_named name k ms)
found_in name t k [] h = absurd h
found_in name t k (m ∷ ms) (inl h) =
    subst (λ b. IsFound (m ∷ ms) k t (if b then (k, m.1) else member_named name (k + 1) ms)) (sym h.0)
    (record { index = 0; name = m.0; there = refl; number = omega arith; same = h.1 })
found_in name t k (m ∷ ms) (inr h) =
    let f : IsFound ms (k + 1) t (member_named name (k + 1) ms) = found_in name t (k + 1) ms h.1 in
    subst (λ b. IsFound (m ∷ ms) k t (if b then (k, m.1) else member_named name (k + 1) ms)) (sym h.0)
    (record { index = suc f.index; name = f.name; there = f.there; number = omega (arith, f.number); same = f.same })

module _ (c : Context) (os : List Object) where
  abbrev IsTaken : CType → Lvalue → Type 0
  IsTaken t l = IsLvalue (table c os) (Some c.function) l × (agrees (lvalue_type l) t ≡ true)

  -- the member found, of an lvalue of just this struct
  field_good : (l : Lvalue) (k name : ℕ) (t : CType) (s : Struct) (ms : List (ℕ × CType)) → IsLvalue (table c os) (Some c.function) l → lvalue_type l ≡ structure k
      → slice_get c.structs k ≡ Some s → s.members ≡ Some ms → HasMemberIn ms name t
      → IsTaken t (field l (member_of c (structure k) name).0 (member_of c (structure k) name).1)
  field_good l k name t s ms h is there members found =
      let e : member_of c (structure k) name ≡ member_named name 0 ms = ap (λ o. member_named name 0 (members_of o)) there ∙ ap (λ o. member_named name 0 (known_members o)) members in
      let f : IsFound ms 0 t (member_named name 0 ms) = found_in name t 0 ms found in
      let at : slice_get ms (member_named name 0 ms).0 ≡ Some (f.name, (member_named name 0 ms).1) = ap (λ i. slice_get ms i) (omega (arith, f.number)) ∙ f.there in
      subst (λ m. IsTaken t (field l m.0 m.1)) (sym e)
      ((h, record { struct_number = k; struct = s; members = ms; name = f.name; named = is; there = there; complete = members; member = at }, agrees_floating (member_named name 0 ms).1 t f.same), f.same)

  pub member_good : (a : CType) (l : Lvalue) (name : ℕ) (t : CType) → HasMember c.structs a name t → Designates c os a l
      → IsTaken t (field l (member_of c a name).0 (member_of c a name).1)
  member_good (structure k) l name t h d =
      let is : lvalue_type l ≡ structure k = agrees_struct (lvalue_type l) k d.1 in
      field_good l k name t h.1.0 h.1.1 (place_sized c os l d.0 (subst (λ u. 1 ≤ size_of c.structs u) (sym is) h.0)) is h.1.2 h.1.3 h.1.4
  member_good void l name t h d = absurd h
  member_good (integer k) l name t h d = absurd h
  member_good (floating k) l name t h d = absurd h
  member_good (pointer u) l name t h d = absurd h
  member_good (array u n) l name t h d = absurd h
  member_good (function s) l name t h d = absurd h

  pub arrow_good : (a : CType) (v : Expression) (at : Place) (name : ℕ) (t : CType) → PointsToMember c.structs a name t → IsFormed c.structs a → IsPointer c os v
      → IsTaken t (field (through v (pointee a) at) (member_of c (pointee a) name).0 (member_of c (pointee a) name).1)
  arrow_good (pointer (structure k)) v at name t h f p =
      field_good (through v (structure k) at) k name t h.1.0 h.1.1 (p.0, p.1, h.0, refl, f) refl h.1.2 h.1.3 h.1.4
  arrow_good (pointer void) v at name t h f p = absurd h
  arrow_good (pointer (integer k)) v at name t h f p = absurd h
  arrow_good (pointer (floating k)) v at name t h f p = absurd h
  arrow_good (pointer (pointer u)) v at name t h f p = absurd h
  arrow_good (pointer (array u n)) v at name t h f p = absurd h
  arrow_good (pointer (function s)) v at name t h f p = absurd h
  arrow_good void v at name t h f p = absurd h
  arrow_good (integer k) v at name t h f p = absurd h
  arrow_good (floating k) v at name t h f p = absurd h
  arrow_good (array u n) v at name t h f p = absurd h
  arrow_good (structure k) v at name t h f p = absurd h
  arrow_good (function s) v at name t h f p = absurd h
