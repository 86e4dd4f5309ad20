-- Start values of a unit are start values in its program (C90 6.5.7).
use Rattle.std.proofs.Common.{◌≡◌, ℕ, ◌<◌, Bool, true, ◌||◌, map, List, [], ◌∷◌, Some, inl, inr, refl, ap, sym, subst, ◌∙◌, true≢false}
use Rattle.std.specs.Prelude.{slice_get, All}
use Rattle.sp_types.specs.Types.{CType, void, integer, floating, pointer, array, structure, function}
use Rattle.sp_types.specs.Typed.{Typed, of}
use Rattle.sp_types.specs.declared.program.Storage.{Storage}
use Rattle.sp_types.specs.declared.program.Storage.TheVariants.{Static, Outside, Text, Auto, Formal}
use Rattle.sp_ir.specs.Formed.{is_array, is_struct, is_scalar}
use Rattle.sp_ir.specs.Shapes.{Shape, HasShape}
use Rattle.sp_ir.specs.Terrain.{size_of}
use Rattle.sp_link_renaming.specs.Renaming.{Renaming, number_in, renamed_type, renamed}
use Rattle.sp_link_units.specs.Making.{start_renamed}
use Rattle.sp_check_typing.specs.Sorts.{same_value}
use Rattle.sp_check_typing.specs.Trees.{Scene}
use Rattle.sp_check_typing.specs.Starts.{leaf_type, IsLeafValue, AreApart, AreLeafValues, AreKnown, IsWholeValue, IsStarted}
use Rattle.sp_check_typing.specs.Statements.{IsEntered}
use Rattle.sp_check_typing.specs.Constants.{is_stored}
use Rattle.sp_check_typing.specs.Refines.{Refines, of_integer, of_pointer, of_struct, of_open}
use Rattle.sp_check_formed_laws.proofs.Lists.{nil_all, cons_all}
use Rattle.sp_link_structs_laws.proofs.Lists.{map_from, head_all, tail_all}
use Rattle.sp_link_shape_laws.specs.Shapes.{HasLeaves}
use Rattle.sp_link_renaming_laws.specs.Follows.{lacks_layout, Follows}
use Rattle.sp_link_renaming_laws.specs.Laws.{IsRenamed}
use Rattle.sp_link_renaming_laws.proofs.Types.{refines_self, value_kept, stored_kept, known_closed, stored_known}
use Rattle.sp_link_renaming_laws.proofs.Trees.{renamed_tree}
use Rattle.sp_link_renaming_laws.proofs.Constants.{stored_same}

all_mapped : {A B : Type 0} (P : A → Type 0) (Q : B → Type 0) (f : A → B) → ((x : A) → P x → Q (f x)) → (xs : List A)
    → All P xs → All Q (map f xs)
all_mapped P Q f h [] all = nil_all Q
all_mapped P Q f h (x ∷ xs) all =
    cons_all Q (f x) (map f xs) (h x (head_all P x xs all)) (all_mapped P Q f h xs (tail_all P x xs all))

-- what goes to a scalar goes there in the program too
scalar_refined : (o : ℕ → Bool) (f : ℕ → ℕ) (a b l : CType) → Refines o f a b → is_scalar l ≡ true → same_value a l ≡ true
    → same_value b l ≡ true
scalar_refined o f a b l (of_integer k) s h = h
scalar_refined o f a b (pointer l) (of_pointer t u x) s h = refl
scalar_refined o f a b void (of_pointer t u x) s h = absurd (true≢false (sym h))
scalar_refined o f a b (integer k) (of_pointer t u x) s h = absurd (true≢false (sym h))
scalar_refined o f a b (floating k) (of_pointer t u x) s h = absurd (true≢false (sym h))
scalar_refined o f a b (array l n) (of_pointer t u x) s h = absurd (true≢false (sym h))
scalar_refined o f a b (structure k) (of_pointer t u x) s h = absurd (true≢false (sym h))
scalar_refined o f a b (function q) (of_pointer t u x) s h = absurd (true≢false (sym h))
scalar_refined o f a b (structure j) (of_struct k) s h = absurd (true≢false (sym s))
scalar_refined o f a b (structure j) (of_open k i e) s h = absurd (true≢false (sym s))
scalar_refined o f a b l x s h = absurd (true≢false (sym h))

-- through a scalar
same_through : (a l b : CType) → is_scalar l ≡ true → same_value a l ≡ true → same_value l b ≡ true → same_value a b ≡ true
same_through (integer i) (integer j) (integer k) s h g = refl
same_through (pointer t) (pointer u) (pointer v) s h g = refl
same_through a (integer j) void s h g = absurd (true≢false (sym g))
same_through a (integer j) (floating k) s h g = absurd (true≢false (sym g))
same_through a (integer j) (pointer v) s h g = absurd (true≢false (sym g))
same_through a (integer j) (array v n) s h g = absurd (true≢false (sym g))
same_through a (integer j) (structure k) s h g = absurd (true≢false (sym g))
same_through a (integer j) (function q) s h g = absurd (true≢false (sym g))
same_through a (pointer u) void s h g = absurd (true≢false (sym g))
same_through a (pointer u) (integer k) s h g = absurd (true≢false (sym g))
same_through a (pointer u) (floating k) s h g = absurd (true≢false (sym g))
same_through a (pointer u) (array v n) s h g = absurd (true≢false (sym g))
same_through a (pointer u) (structure k) s h g = absurd (true≢false (sym g))
same_through a (pointer u) (function q) s h g = absurd (true≢false (sym g))
same_through a (structure j) b s h g = absurd (true≢false (sym s))
same_through a l b s h g = absurd (true≢false (sym h))

scalar_through : (l b : CType) → is_scalar l ≡ true → same_value l b ≡ true → is_scalar b ≡ true
scalar_through (integer j) (integer k) s h = refl
scalar_through (pointer t) (pointer u) s h = refl
scalar_through (structure j) b s h = absurd (true≢false (sym s))
scalar_through l b s h = absurd (true≢false (sym h))

module _ (r : Renaming) (s p : Scene) (w : Follows r s p) where
  abbrev here : CType → CType
  here t = renamed_type r.structs t

  module _ (shapes : (t : CType) (shape : Shape) → HasShape s.structs (size_of s.structs) t shape
      → HasLeaves p.structs (here t) shape) where
    leaf_kept : (t : CType) (shape : Shape) (x : HasLeaves p.structs t shape) (e : ℕ × Typed) → IsLeafValue s shape e
        → IsLeafValue p x.shape (e.0, renamed r e.1)
    leaf_kept t shape x e v =
        let y : IsRenamed (lacks_layout s.structs) r p e.1 = renamed_tree r s p w e.1 v.typed in
        let leaf : (b : CType) × (leaf_type x.shape e.0 ≡ Some b) × (same_value v.leaf b ≡ true) = x.leaves e.0 v.leaf v.there v.scalar in
        record {
          low = subst (λ n. e.0 < n) (sym x.count) v.low;
          typed = y.typed;
          leaf = leaf.0;
          there = leaf.1;
          scalar = scalar_through v.leaf leaf.0 v.scalar leaf.2;
          same = same_through (of (renamed r e.1)) v.leaf leaf.0 v.scalar
              (scalar_refined (lacks_layout s.structs) (number_in r.structs) (of e.1) (of (renamed r e.1)) v.leaf y.refines v.scalar v.same)
              leaf.2;
        }

    apart_kept : (es : List (ℕ × Typed)) → AreApart es → AreApart (start_renamed r es)
    apart_kept es h i j d e at there same =
        let a : (a : ℕ × Typed) × (slice_get es i ≡ Some a) × ((a.0, renamed r a.1) ≡ d) =
        map_from (λ z. (z.0, renamed r z.1)) es i d at in
        let b : (b : ℕ × Typed) × (slice_get es j ≡ Some b) × ((b.0, renamed r b.1) ≡ e) =
        map_from (λ z. (z.0, renamed r z.1)) es j e there in
        h i j a.0 b.0 a.1 b.1 (ap (λ z. z.0) a.2 ∙ same ∙ sym (ap (λ z. z.0) b.2))

    pub leaves_kept : (t : CType) (es : List (ℕ × Typed)) → AreLeafValues s t es → AreLeafValues p (here t) (start_renamed r es)
    leaves_kept t es h =
        let x : HasLeaves p.structs (here t) h.shape = shapes t h.shape h.shaped in
        record {
          shape = x.shape;
          shaped = x.shaped;
          values = all_mapped (IsLeafValue s h.shape) (IsLeafValue p x.shape) (λ z. (z.0, renamed r z.1))
              (λ z v. leaf_kept (here t) h.shape x z v) es h.values;
          apart = apart_kept es h.apart;
        }

    pub start_known : (t : CType) (es : List (ℕ × Typed)) → AreKnown s t es → AreKnown p (here t) (start_renamed r es)
    start_known t es h = record {
      values = leaves_kept t es h.values;
      constants = all_mapped (λ z. is_stored z.1 ≡ true) (λ z. is_stored z.1 ≡ true) (λ z. (z.0, renamed r z.1))
          (λ z k. stored_same r z.1 ∙ k) es h.constants;
    }

    whole_kept : (t : CType) (es : List (ℕ × Typed)) → IsWholeValue s t es → IsWholeValue p (here t) (start_renamed r es)
    whole_kept t [] h = absurd h
    whole_kept t (e ∷ es) h =
        let x : IsRenamed (lacks_layout s.structs) r p e.1 = renamed_tree r s p w e.1 h.1 in (
          ap (start_renamed r) h.0,
          x.typed,
          stored_kept r s p w t (here t) (refines_self (lacks_layout s.structs) r.structs t) h.2,
          value_kept (lacks_layout s.structs) (number_in r.structs) (of e.1) (of (renamed r e.1)) t (here t) x.refines
              (refines_self (lacks_layout s.structs) r.structs t)
              (known_closed r s p w t (stored_known r s p w t h.2)) h.3,
        )

    aggregate_kept : (t : CType) → (is_array t || is_struct t) ≡ true → (is_array (here t) || is_struct (here t)) ≡ true
    aggregate_kept void h = h
    aggregate_kept (integer k) h = h
    aggregate_kept (floating k) h = h
    aggregate_kept (pointer t) h = h
    aggregate_kept (array t n) h = h
    aggregate_kept (structure k) h = h
    aggregate_kept (function q) h = h

    started_kept : (t : CType) (es : List (ℕ × Typed)) → IsStarted s t es → IsStarted p (here t) (start_renamed r es)
    started_kept t [] h = tt
    started_kept t (e ∷ es) (inl h) = inl (whole_kept t (e ∷ es) h)
    started_kept t (e ∷ es) (inr h) = inr (aggregate_kept t h.0, leaves_kept t (e ∷ es) h.1)

    pub entered_kept : (k : Storage) (t : CType) (es : List (ℕ × Typed)) → IsEntered s k t es
        → IsEntered p k (here t) (start_renamed r es)
    entered_kept Auto t es h = started_kept t es h
    entered_kept Static t es h = tt
    entered_kept Outside t es h = tt
    entered_kept Text t es h = tt
    entered_kept Formal t es h = tt
