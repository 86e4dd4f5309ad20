-- Types whose shapes are alike: the same but for their sizes and for the types of their leaves, which
-- are of one sort.
use Rattle.std.proofs.Common.{◌≡◌, ℕ, ◌*◌, ◌+◌, ◌-◌, ◌%◌, nat_lt, Bool, true, false, if◌then◌else◌, List, [], ◌∷◌, Option, Some, None, is_some, refl, ap, sym, subst, ◌∙◌, true≢false}
use Rattle.std.specs.Prelude.{slice_get, ⊤}
use Rattle.sp_types.specs.Types.{CType, void, integer, floating, pointer, array, structure, function, Struct}
use Rattle.sp_ir.specs.Shapes.{Shape, Shapes, scalar, floating_shape, union_of, array_of, struct_of, no_shapes, next_shape, HasShape, HaveShapes, has_integer, has_pointer, has_floating, has_array, has_struct, has_union, have_none, have_next, leaf_count, member_leaf_count}
use Rattle.sp_ir.specs.Formed.{is_scalar}
use Rattle.sp_ir.specs.Terrain.{size_of}
use Rattle.sp_check_typing.specs.Sorts.{same_value}
use Rattle.sp_check_typing.specs.Starts.{leaf_type, member_leaf_type}
use Rattle.sp_link_structs_laws.proofs.Lists.{some_is}
use Rattle.sp_link_shape_laws.specs.Shapes.{HasLeaves}

-- over these structs a type has a shape like this one
abbrev mutual
  pub IsLike : List Struct → Shape → CType → Type 0
  IsLike ss (scalar a n) (integer k) = same_value a (integer k) ≡ true
  IsLike ss (scalar a n) (pointer t) = same_value a (pointer t) ≡ true
  IsLike ss (floating_shape a n) (floating k) = is_scalar a ≡ false
  IsLike ss (union_of n s) (structure k) = (d : Struct) × (m : ℕ × CType) × (ms : List (ℕ × CType))
      × (slice_get ss k ≡ Some d) × (d.union ≡ true) × (d.members ≡ Some (m ∷ ms))
      × IsLike ss s m.1
  IsLike ss (array_of a n s c) (array t (Some i)) = (c ≡ i) × IsLike ss s t
  IsLike ss (struct_of a n rest) (structure k) = (d : Struct) × (ms : List (ℕ × CType))
      × (slice_get ss k ≡ Some d) × (d.union ≡ false) × (d.members ≡ Some ms)
      × AreLike ss rest ms
  IsLike ss _ _ = ⊥

  pub AreLike : List Struct → Shapes → List (ℕ × CType) → Type 0
  AreLike ss no_shapes [] = ⊤
  AreLike ss (next_shape s rest) (m ∷ ms) = IsLike ss s m.1 × AreLike ss rest ms
  AreLike ss _ _ = ⊥

-- ---- a type's own shape is like itself

module _ (ss : List Struct) (size : CType → ℕ) where
  mutual
    pub is_like : (t : CType) (s : Shape) → HasShape ss size t s → IsLike ss s t
    is_like void s h = elim h [ ]
    is_like (function r) s h = elim h [ ]
    is_like (array t None) s h = elim h [ ]
    is_like (integer k) s has_integer = refl
    is_like (floating k) s has_floating = refl
    is_like (pointer t) s has_pointer = refl
    is_like (array t (Some n)) s (has_array {s = inner} h) = (refl, is_like t inner h)
    is_like (structure k) s (has_struct {d = d} {members = ms} {ms = inner} at kind told h) =
        (d, ms, at, kind, told, are_like ms inner h)
    is_like (structure k) s
        (has_union {d = d} {first = m} {rest = ms} {s = inner} at kind told h) =
        (d, m, ms, at, kind, told, is_like m.1 inner h)

    are_like : (ms : List (ℕ × CType)) (rest : Shapes) → HaveShapes ss size ms rest
        → AreLike ss rest ms
    are_like [] rest have_none = tt
    are_like (m ∷ ms) rest (have_next {s = s} {ss = others} h g) =
        (is_like m.1 s h, are_like ms others g)

-- ---- shapes that are alike have one number of leaves, of the same sorts

abbrev HasLeaf : CType → Option CType → Type 0
HasLeaf a o = (b : CType) × (o ≡ Some b) × (same_value a b ≡ true)

-- the same of members
record HaveLeaves (ss : List Struct) (ms : List (ℕ × CType)) (others : Shapes) : Type 0 where
  shapes : Shapes
  shaped : HaveShapes ss (size_of ss) ms shapes
  count : member_leaf_count shapes ≡ member_leaf_count others
  leaves : (k : ℕ) (a : CType) → member_leaf_type others k ≡ Some a → is_scalar a ≡ true
      → HasLeaf a (member_leaf_type shapes k)

either_leaf : (b : Bool) (o p q r : Option CType) (a : CType) → (o ≡ Some a → HasLeaf a q)
    → (p ≡ Some a → HasLeaf a r) → (if b then o else p) ≡ Some a → HasLeaf a (if b then q else r)
either_leaf true o p q r a h g e = h e
either_leaf false o p q r a h g e = g e

module _ (ss : List Struct) where
  mutual
    pub has_leaves : (s : Shape) (t : CType) → IsLike ss s t → HasLeaves ss t s
    has_leaves (scalar a n) (integer k) h = record {
      shape = scalar (integer k) (size_of ss (integer k));
      shaped = has_integer;
      count = refl;
      leaves = λ j b e f.
          (integer k, refl, subst (λ z. same_value z (integer k) ≡ true) (some_is a b e) h);
    }
    has_leaves (scalar a n) (pointer t) h = record {
      shape = scalar (pointer t) (size_of ss (pointer t));
      shaped = has_pointer;
      count = refl;
      leaves = λ j b e f.
          (pointer t, refl, subst (λ z. same_value z (pointer t) ≡ true) (some_is a b e) h);
    }
    has_leaves (floating_shape a n) (floating k) h = record {
      shape = floating_shape (floating k) (size_of ss (floating k));
      shaped = has_floating;
      count = refl;
      leaves = λ j b e f.
          absurd (true≢false (sym f ∙ ap is_scalar (sym (some_is a b e)) ∙ h));
    }
    has_leaves (union_of n s) (structure k) h =
        let w = has_leaves s h.1.1 h.6 in
        record {
          shape = union_of (size_of ss (structure k)) w.shape;
          shaped = has_union h.3 h.4 h.5 w.shaped;
          count = w.count;
          leaves = w.leaves;
        }
    has_leaves (array_of a n s c) (array t (Some i)) h =
        let w = has_leaves s t h.1 in
        record {
          shape = array_of (array t (Some i)) (size_of ss (array t (Some i))) w.shape i;
          shaped = has_array w.shaped;
          count = λ j. sym h.0 j * w.count j;
          leaves = λ k b e f.
              let x = w.leaves (k % leaf_count s) b e f in
              (x.0, ap (λ z. leaf_type w.shape (k % z)) w.count ∙ x.1, x.2);
        }
    has_leaves (struct_of a n rest) (structure k) h =
        let w = have_leaves rest h.1 h.5 in
        record {
          shape = struct_of (structure k) (size_of ss (structure k)) w.shapes;
          shaped = has_struct h.2 h.3 h.4 w.shaped;
          count = w.count;
          leaves = w.leaves;
        }
    has_leaves _ _ h = absurd h

    have_leaves : (rest : Shapes) (ms : List (ℕ × CType)) → AreLike ss rest ms
        → HaveLeaves ss ms rest
    have_leaves no_shapes [] h = record {
      shapes = no_shapes;
      shaped = have_none;
      count = refl;
      leaves = λ k a e f. absurd (true≢false (sym (ap is_some e)));
    }
    have_leaves (next_shape s rest) (m ∷ ms) h =
        let x = has_leaves s m.1 h.0 in
        let y = have_leaves rest ms h.1 in
        record {
          shapes = next_shape x.shape y.shapes;
          shaped = have_next x.shaped y.shaped;
          count = λ i. x.count i + y.count i;
          leaves = λ k a e f.
              subst (λ n. HasLeaf a (if nat_lt k n then leaf_type x.shape k
              else member_leaf_type y.shapes (k - n))) (sym x.count)
              (either_leaf (nat_lt k (leaf_count s)) (leaf_type s k)
              (member_leaf_type rest (k - leaf_count s)) (leaf_type x.shape k)
              (member_leaf_type y.shapes (k - leaf_count s)) a
              (λ p. x.leaves k a p f) (λ p. y.leaves (k - leaf_count s) a p f) e);
        }
    have_leaves _ _ h = absurd h
