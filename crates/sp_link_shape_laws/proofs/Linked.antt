-- A type of a unit has in the program a shape like its own.
use Rattle.std.proofs.Common.{◌≡◌, ℕ, true, List, [], ◌∷◌, Option, Some, None, is_some, option_map, inl, inr, refl, ap, sym, subst, ◌∙◌, true≢false}
use Rattle.std.specs.Prelude.{slice_get, slice_index_or}
use Rattle.sp_types.specs.declared.extents.Extent.{Extent}
use Rattle.sp_types.specs.Types.{CType, integer, floating, pointer, array, structure, Struct}
use Rattle.sp_types.specs.Layout.{struct_extent}
use Rattle.sp_types.specs.Structs.{IsWhole}
use Rattle.sp_link_renaming.specs.Renaming.{number_in, renamed_type}
use Rattle.sp_link_structs.specs.Matching.{Matching}
use Rattle.sp_link_agreement.specs.Depths.{struct_of_table, struct_at}
use Rattle.sp_link_structs.specs.Joined.{has_members, is_complete, Joined, itself, onward, backward}
use Rattle.sp_link_structs.specs.Matched.{of_units, AreMatched}
use Rattle.sp_link_structs.specs.Laws.{StructsAreNumbered}
use Rattle.sp_link_units.specs.Making.{renamed_members, renamed_struct, struct_told}
use Rattle.sp_ir.specs.Shapes.{Shape, Shapes, scalar, floating_shape, union_of, array_of, struct_of, no_shapes, next_shape}
use Rattle.sp_ir.specs.Terrain.{size_of}
use Rattle.sp_link_structs_laws.specs.Tables.{program_struct, program_structs, AreTables}
use Rattle.sp_link_structs_laws.proofs.Lists.{first_there, some_is, map_got, index_got}
use Rattle.sp_link_structs_laws.proofs.Stays.{table_there}
use Rattle.sp_link_shape_laws.specs.Shapes.{LinkedTypesKeepLeaves}
use Rattle.sp_link_shape_laws.proofs.Like.{IsLike, AreLike, is_like, has_leaves}
use Rattle.sp_link_shape_laws.proofs.Meets.{IsLinked, like_on, pointer_on}

-- ---- complete structs

-- its table, its entry there, and its members
record InTable (us : List (List Struct)) (x : ℕ × ℕ) : Type 0 where
  table : List Struct
  entry : Struct
  members : List (ℕ × CType)
  table-is : slice_get us x.0 ≡ Some table
  entry-is : slice_get table x.1 ≡ Some entry
  told : entry.members ≡ Some members

some_there : {A : Type 0} (o : Option A) → is_some o ≡ true → (x : A) × (o ≡ Some x)
some_there None h = absurd (true≢false (sym h))
some_there (Some x) h = (x, refl)

in_table : (us : List (List Struct)) (x : ℕ × ℕ) → is_complete us x ≡ true → InTable us x
in_table us x c = by (struct_at us x) refl c
  where
    by : (o : Option Struct) → struct_at us x ≡ o → has_members o ≡ true → InTable us x
    by None e h = absurd (true≢false (sym h))
    by (Some s) e h =
        let t : (ss : List Struct) × (slice_get us x.0 ≡ Some ss) × (slice_get ss x.1 ≡ Some s) = table_there us x s e in
        let ms : (ms : List (ℕ × CType)) × (s.members ≡ Some ms) = some_there s.members h in
        record { table = t.0; entry = s; members = ms.0; table-is = t.1; entry-is = t.2; told = ms.1 }

joined_complete : (us : List (List Struct)) (x y : ℕ × ℕ) → Joined us x y → is_complete us x ≡ true
    → is_complete us y ≡ true
joined_complete us x y (itself e) h = subst (λ z. is_complete us z ≡ true) e h
joined_complete us x y (onward z j step) h = step.1
joined_complete us x y (backward z j step) h = step.0

-- the extent of a struct with members
extent_there : (ss : List Struct) (s : Struct) (o : Option (List (ℕ × CType))) (ms : List (ℕ × CType))
    → o ≡ Some ms → IsWhole ss s o → (e : Extent) × (s.extent ≡ Some e)
extent_there ss s o ms h w = let v : IsWhole ss s (Some ms) = subst (IsWhole ss s) h w in (v.1.0, v.1.1)

-- ---- along a chain

module _ (us : List (List Struct)) (tables : AreTables us) where
  step_like : (x y : ℕ × ℕ) (ss ts : List Struct) → slice_get us x.0 ≡ Some ss
      → slice_get us y.0 ≡ Some ts → is_complete us y ≡ true → IsLinked us x y → (s : Shape)
      → IsLike ss s (structure x.1) → IsLike ts s (structure y.1)
  step_like x y ss ts at-x at-y c linked s h =
      let w : InTable us y = in_table us y c in
      let same : w.table ≡ ts = some_is w.table ts (sym w.table-is ∙ at-y) in
      let there : slice_get ts y.1 ≡ Some w.entry = subst (λ z. slice_get z y.1 ≡ Some w.entry) same w.entry-is in
      let e : (e : Extent) × (w.entry.extent ≡ Some e) =
      extent_there ts w.entry w.entry.members w.members w.told (tables y.0 ts at-y y.1 w.entry there) in
      like_on us tables x.0 y.0 ss ts at-x at-y s (structure x.1) (structure y.1) h linked e.0
      (ap struct_extent there ∙ e.1)

  chain_like : (x y : ℕ × ℕ) (ss ts : List Struct) → slice_get us x.0 ≡ Some ss
      → slice_get us y.0 ≡ Some ts → Joined us x y → (s : Shape)
      → IsLike ss s (structure x.1) → IsLike ts s (structure y.1)
  chain_like x y ss ts at-x at-y (itself e) s h =
      let same : ss ≡ ts = some_is ss ts (sym at-x ∙ ap (λ z. slice_get us z.0) e ∙ at-y) in
      subst (λ z. IsLike z s (structure y.1)) same (subst (λ z. IsLike ss s (structure z.1)) e h)
  chain_like x y ss ts at-x at-y (onward z j step) s h =
      let w : InTable us z = in_table us z step.0 in
      step_like z y w.table ts w.table-is at-y step.1 (inl step.3) s
      (chain_like x z ss w.table at-x w.table-is j s h)
  chain_like x y ss ts at-x at-y (backward z j step) s h =
      let w : InTable us z = in_table us z step.1 in
      step_like z y w.table ts w.table-is at-y step.0 (inr step.3) s
      (chain_like x z ss w.table at-x w.table-is j s h)

-- ---- in the program

-- the struct that the program has for one of a unit: of which unit it is, and its number there
record Stands (us : List (List Struct)) (m : Matching) (x : ℕ × ℕ) : Type 0 where
  first : ℕ × ℕ
  table : List Struct
  table-is : slice_get us first.0 ≡ Some table
  joined : Joined us x first
  there : (t : Struct) → slice_get table first.1 ≡ Some t
      → slice_get (program_structs us m) (number_in (slice_index_or m.numbers x.0 []) x.1)
      ≡ Some (renamed_struct (slice_index_or m.numbers first.0 []) t)

module _ (us : List (List Struct)) (m : Matching) (matched : AreMatched us m) (tables : AreTables us)
    (numbered : StructsAreNumbered) where
  abbrev numbers : ℕ → List ℕ
  numbers u = slice_index_or m.numbers u []

  abbrev structs : List Struct
  structs = program_structs us m

  stands : (u : ℕ) (ss : List Struct) (k : ℕ) (d : Struct) (ms : List (ℕ × CType))
      → slice_get us u ≡ Some ss → slice_get ss k ≡ Some d → d.members ≡ Some ms → Stands us m (u, k)
  stands u ss k d ms at there told =
      let found : struct_at us (u, k) ≡ Some d = ap (λ o. struct_of_table o k) at ∙ there in
      let c : is_complete us (u, k) ≡ true = ap has_members found ∙ ap is_some told in
      let w = numbered us m (u, k) d matched found in
      let j : Joined us (u, k) w.1 = first_there (Joined us (u, k)) (of_units 0 us) w.1 (w.4 c) in
      let r : InTable us w.1 = in_table us w.1 (joined_complete us (u, k) w.1 j c) in
      record {
        first = w.1;
        table = r.table;
        table-is = r.table-is;
        joined = j;
        there = λ t e.
            ap (slice_get structs) (index_got (numbers u) k w.0 0 w.2)
            ∙ map_got (program_struct us m) m.structs w.0 w.1 w.3
            ∙ ap (λ o. Some (struct_told (numbers w.1.0) o))
            (ap (λ o. struct_of_table o w.1.1) r.table-is ∙ e);
      }

  mutual
    like_there : (s : Shape) (u : ℕ) (ss : List Struct) → slice_get us u ≡ Some ss → (t : CType)
        → IsLike ss s t → IsLike structs s (renamed_type (numbers u) t)
    like_there (scalar a n) u ss at (integer k) h = h
    like_there (scalar a n) u ss at (pointer t) h = pointer_on a t (renamed_type (numbers u) t) h
    like_there (floating_shape a n) u ss at (floating k) h = h
    like_there (array_of a n s c) u ss at (array t (Some i)) h = (h.0, like_there s u ss at t h.1)
    like_there (union_of n s) u ss at (structure k) h =
        let r : Stands us m (u, k) = stands u ss k h.0 (h.1 ∷ h.2) at h.3 h.5 in
        let w : IsLike r.table (union_of n s) (structure r.first.1) =
        chain_like us tables (u, k) r.first ss r.table at r.table-is r.joined (union_of n s) h in (
          renamed_struct (numbers r.first.0) w.0,
          (w.1.0, renamed_type (numbers r.first.0) w.1.1),
          renamed_members (numbers r.first.0) w.2,
          r.there w.0 w.3,
          w.4,
          ap (option_map (renamed_members (numbers r.first.0))) w.5,
          like_there s r.first.0 r.table r.table-is w.1.1 w.6,
        )
    like_there (struct_of a n rest) u ss at (structure k) h =
        let r : Stands us m (u, k) = stands u ss k h.0 h.1 at h.2 h.4 in
        let w : IsLike r.table (struct_of a n rest) (structure r.first.1) =
        chain_like us tables (u, k) r.first ss r.table at r.table-is r.joined (struct_of a n rest) h in (
          renamed_struct (numbers r.first.0) w.0,
          renamed_members (numbers r.first.0) w.1,
          r.there w.0 w.2,
          w.3,
          ap (option_map (renamed_members (numbers r.first.0))) w.4,
          all_there rest r.first.0 r.table r.table-is w.1 w.5,
        )
    like_there _ u ss at _ h = absurd h

    all_there : (rest : Shapes) (u : ℕ) (ss : List Struct) → slice_get us u ≡ Some ss
        → (ms : List (ℕ × CType)) → AreLike ss rest ms
        → AreLike structs rest (renamed_members (numbers u) ms)
    all_there no_shapes u ss at [] h = tt
    all_there (next_shape s rest) u ss at (k ∷ ks) h =
        (like_there s u ss at k.1 h.0, all_there rest u ss at ks h.1)
    all_there _ u ss at _ h = absurd h

pub leaves_kept : StructsAreNumbered → LinkedTypesKeepLeaves
leaves_kept numbered us m u ss t s matched tables at h =
    has_leaves (program_structs us m) s (renamed_type (slice_index_or m.numbers u []) t)
    (like_there us m matched tables numbered s u ss at t (is_like ss (size_of ss) t s h))
