-- What operators ask of their operands' types holds of the types that stand for them.
use Rattle.std.proofs.Common.{◌≡◌, ℕ, ℤ, Bool, true, false, ◌==◌, List, [], ◌∷◌, sym, subst, ◌∙◌, true≢false, inl, inr}
use Rattle.sp_tree.specs.declared.token.Punct.{Punct}
use Rattle.sp_tree.specs.declared.token.Punct.TheVariants.{Ampersand, Star, Exclamation, Increment, Decrement, Plus, Minus, Tilde, Less, LessEqual, Greater, GreaterEqual, EqualEqual, NotEqual, AndAnd, OrOr, Assign}
use Rattle.sp_types.specs.Types.{CType, structure}
use Rattle.sp_types.specs.Typed.{Typed, of}
use Rattle.sp_ir.specs.Formed.{is_floating}
use Rattle.sp_link_renaming.specs.Renaming.{Renaming, number_in, renamed_type}
use Rattle.sp_check_typing.specs.Trees.{Scene, has_place, HasMemberIn, HasMember, PointsToMember, IsIndex, IsSum, IsDifference, AreCompared, AreIntegers, IsBinary, IsStep, IsSigned, IsUnary, Converts, IsChoice, IsAssigned, IsCalled, IsNumber}
use Rattle.sp_check_typing.specs.Sorts.{IsKnown, IsStored}
use Rattle.sp_check_typing.specs.Refines.{Refines, of_void, of_integer, of_floating, of_pointer, of_array, of_struct, of_open, of_function}
use Rattle.sp_link_renaming_laws.specs.Follows.{AreMembers, HasMembers, lacks_layout, Follows}
use Rattle.sp_link_renaming_laws.proofs.Types.{IsClosed, not_floating, agrees_through, agrees_renamed, known_closed, stored_known, stepped_known, integer_kept, pointer_kept, scalar_kept, value_kept, convertible_kept, exact_kept, some_size, sized_kept, stored_kept, stepped_kept}

-- ---- members

members_kept : (ns : List ℕ) (ms ws : List (ℕ × CType)) (n : ℕ) (t : CType) → AreMembers ns ms ws
    → HasMemberIn ms n t → HasMemberIn ws n (renamed_type ns t)
members_kept ns [] ws n t h k = absurd k
members_kept ns (m ∷ ms) [] n t h k = absurd h
members_kept ns (m ∷ ms) (w ∷ ws) n t h (inl k) =
    let fixed : is_floating m.1 ≡ false = not_floating m.1 t k.1 in
    inl (
      subst (λ i. (i == n) ≡ true) (sym h.0) k.0,
      agrees_through w.1 (renamed_type ns m.1) (renamed_type ns t) (h.1 fixed)
          (agrees_renamed ns m.1 t k.1),
    )
members_kept ns (m ∷ ms) (w ∷ ws) n t h (inr k) =
    inr (subst (λ i. (i == n) ≡ false) (sym h.0) k.0, members_kept ns ms ws n t h.2 k.1)

module _ (r : Renaming) (s p : Scene) (w : Follows r s p) where
  abbrev o : ℕ → Bool
  o = lacks_layout s.structs

  abbrev f : ℕ → ℕ
  f = number_in r.structs

  abbrev R : CType → CType → Type 0
  R t u = Refines o f t u

  closed : (t : CType) → IsKnown s.structs t → IsClosed o t
  closed t h = known_closed r s p w t h

  pub member_kept : (a b : CType) (n : ℕ) (t : CType) → R a b → HasMember s.structs a n t
      → HasMember p.structs b n (renamed_type r.structs t)
  member_kept a b n t (of_open k j c) h =
      absurd (true≢false (sym c ∙ closed (structure k) h.0))
  member_kept a b n t (of_struct k) h =
      let m : HasMembers r.structs p.structs (number_in r.structs k) h.1.1 = w.table.members k h.1.0 h.1.1 h.1.2 h.1.3 in (
        some_size r s p w (structure k) (structure (number_in r.structs k)) (of_struct k) h.0,
        (m.struct, m.members, m.there, m.told, members_kept r.structs h.1.1 m.members n t m.same h.1.4),
      )
  member_kept a b n t x h = absurd h

  pub pointed_kept : (a b : CType) (n : ℕ) (t : CType) → R a b → PointsToMember s.structs a n t
      → PointsToMember p.structs b n (renamed_type r.structs t)
  pointed_kept a b n t (of_pointer c d x) h = member_kept c d n t x h
  pointed_kept a b n t x h = absurd h

  -- ---- operators

  pub index_kept : (a b c d : CType) → R a b → R c d → IsIndex s.structs a c → IsIndex p.structs b d
  index_kept a b c d (of_pointer e g x) (of_integer k) h = sized_kept r s p w e g x h
  index_kept a b c d (of_integer k) (of_pointer e g y) h = sized_kept r s p w e g y h
  index_kept a b c d x y h = absurd h

  sum_kept : (a b c d t u : CType) → R a b → R c d → R t u → IsSum s.structs a c t → IsSum p.structs b d u
  sum_kept a b c d t u (of_integer j) (of_integer k) z h = integer_kept o f t u z h
  sum_kept a b c d t u (of_pointer e g x) (of_integer k) z h =
      (sized_kept r s p w e g x h.0, pointer_kept o f t u z h.1)
  sum_kept a b c d t u (of_integer k) (of_pointer e g y) z h =
      (sized_kept r s p w e g y h.0, pointer_kept o f t u z h.1)
  sum_kept a b c d t u x y z h = absurd h

  difference_kept : (a b c d t u : CType) → R a b → R c d → R t u → IsDifference s.structs a c t → IsDifference p.structs b d u
  difference_kept a b c d t u (of_integer j) (of_integer k) z h = integer_kept o f t u z h
  difference_kept a b c d t u (of_pointer e g x) (of_integer k) z h =
      (sized_kept r s p w e g x h.0, pointer_kept o f t u z h.1)
  difference_kept a b c d t u (of_pointer e g x) (of_pointer i j y) z h =
      (sized_kept r s p w e g x h.0, integer_kept o f t u z h.1)
  difference_kept a b c d t u x y z h = absurd h

  compared_kept : (a b c d t u : CType) → R a b → R c d → R t u → AreCompared a c t → AreCompared b d u
  compared_kept a b c d t u x y z h =
      (scalar_kept o f a b x h.0, scalar_kept o f c d y h.1, integer_kept o f t u z h.2)

  integers_kept : (a b c d t u : CType) → R a b → R c d → R t u → AreIntegers a c t → AreIntegers b d u
  integers_kept a b c d t u x y z h =
      (integer_kept o f a b x h.0, integer_kept o f c d y h.1, integer_kept o f t u z h.2)

  pub binary_kept : (op : Punct) (a b c d t u : CType) → R a b → R c d → R t u → IsBinary s.structs op a c t → IsBinary p.structs op b d u
  binary_kept Plus a b c d t u x y z h = sum_kept a b c d t u x y z h
  binary_kept Minus a b c d t u x y z h = difference_kept a b c d t u x y z h
  binary_kept Less a b c d t u x y z h = compared_kept a b c d t u x y z h
  binary_kept LessEqual a b c d t u x y z h = compared_kept a b c d t u x y z h
  binary_kept Greater a b c d t u x y z h = compared_kept a b c d t u x y z h
  binary_kept GreaterEqual a b c d t u x y z h = compared_kept a b c d t u x y z h
  binary_kept EqualEqual a b c d t u x y z h = compared_kept a b c d t u x y z h
  binary_kept NotEqual a b c d t u x y z h = compared_kept a b c d t u x y z h
  binary_kept AndAnd a b c d t u x y z h = compared_kept a b c d t u x y z h
  binary_kept OrOr a b c d t u x y z h = compared_kept a b c d t u x y z h
  binary_kept op a b c d t u x y z h = (h.0, integers_kept a b c d t u x y z h.1)

  -- what a place was, is one
  module _ (a b : Typed) (place : has_place a ≡ true → has_place b ≡ true) (x : R (of a) (of b)) where
    pub step_kept : (t u : CType) → R t u → IsStep s.structs a t → IsStep p.structs b u
    step_kept t u y h = (
      place h.0,
      value_kept o f (of a) (of b) t u x y (closed t (stepped_known r s p w t h.2)) h.1,
      stepped_kept r s p w t u y h.2,
    )

    signed_kept : (c d t u : CType) → R c d → R t u → IsSigned c t → IsSigned d u
    signed_kept c d t u (of_integer j) (of_integer k) h = h
    signed_kept c d t u (of_integer j) z h = absurd (true≢false (sym h.1))
    signed_kept c d t u y z h = absurd (true≢false (sym h.0))

    pub unary_kept : (op : Punct) (t u : CType) → R t u → IsUnary s.structs op a t → IsUnary p.structs op b u
    unary_kept Ampersand t u y h = (place h.0, pointer_kept o f t u y h.1)
    unary_kept Star t u y h = pointer_kept o f (of a) (of b) x h
    unary_kept Exclamation t u y h =
        (scalar_kept o f (of a) (of b) x h.0, integer_kept o f t u y h.1)
    unary_kept Increment t u y h = step_kept t u y h
    unary_kept Decrement t u y h = step_kept t u y h
    unary_kept Plus t u y h = signed_kept (of a) (of b) t u x y h
    unary_kept Minus t u y h = signed_kept (of a) (of b) t u x y h
    unary_kept Tilde t u y h = signed_kept (of a) (of b) t u x y h
    unary_kept op t u y h = absurd h

  pub converts_kept : (a b t u : CType) → R a b → R t u → IsKnown s.structs t → Converts a t
      → Converts b u
  converts_kept a b t u x of_void known h = tt
  converts_kept a b t u x (of_integer k) known h = convertible_kept o f a b t u x (of_integer k) tt h
  converts_kept a b t u x (of_floating k) known h = convertible_kept o f a b t u x (of_floating k) tt h
  converts_kept a b t u x (of_pointer c d y) known h = convertible_kept o f a b t u x (of_pointer c d y) tt h
  converts_kept a b t u x (of_array c d n m y l) known h = convertible_kept o f a b t u x (of_array c d n m y l) tt h
  converts_kept a b t u x (of_struct k) known h =
      convertible_kept o f a b t u x (of_struct k) (closed t known) h
  converts_kept a b t u x (of_open k j c) known h = absurd (true≢false (sym c ∙ closed t known))
  converts_kept a b t u x (of_function c d) known h = convertible_kept o f a b t u x (of_function c d) tt h

  pub choice_kept : (a b c d t u : CType) → R a b → R c d → R t u → IsChoice s.structs t a c → IsChoice p.structs u b d
  choice_kept a b c d t u x y of_void h = tt
  choice_kept a b c d t u x y (of_integer k) h = (
    tt,
    value_kept o f a b t u x (of_integer k) tt h.1,
    value_kept o f c d t u y (of_integer k) tt h.2,
    exact_kept o f t u a b (of_integer k) x h.3,
    exact_kept o f t u c d (of_integer k) y h.4,
  )
  choice_kept a b c d t u x y (of_pointer e g z) h =
      (tt, value_kept o f a b t u x (of_pointer e g z) tt h.1, value_kept o f c d t u y (of_pointer e g z) tt h.2, tt, tt)
  choice_kept a b c d t u x y (of_struct k) h = (
    stored_kept r s p w t u (of_struct k) h.0,
    value_kept o f a b t u x (of_struct k) (closed t h.0) h.1,
    value_kept o f c d t u y (of_struct k) (closed t h.0) h.2,
    tt,
    tt,
  )
  choice_kept a b c d t u x y (of_open k j e) h = absurd (true≢false (sym e ∙ closed t h.0))
  choice_kept a b c d t u x y z h = absurd h.0

  pub assigned_kept : (op : Punct) (a b t u : CType) → R a b → R t u → IsStored s.structs t
      → IsAssigned s.structs op t a → IsAssigned p.structs op u b
  assigned_kept Assign a b t u x y stored h =
      value_kept o f a b t u x y (closed t (stored_known r s p w t stored)) h
  assigned_kept op a b t u x y stored h = (stepped_kept r s p w t u y h.0, integer_kept o f a b x h.1)

  pub called_kept : (t u : CType) → R t u → IsCalled s.structs t → IsCalled p.structs u
  called_kept t u of_void h = tt
  called_kept t u (of_integer k) h = tt
  called_kept t u (of_pointer a b x) h = tt
  called_kept t u (of_struct k) h = stored_kept r s p w t u (of_struct k) h
  called_kept t u (of_open k j e) h = absurd (true≢false (sym e ∙ closed t h))
  called_kept t u x h = absurd h

  pub number_kept : (z : ℤ) (t u : CType) → R t u → IsNumber t z → IsNumber u z
  number_kept z t u (of_integer k) h = h
  number_kept z t u x h = absurd h
