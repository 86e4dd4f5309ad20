-- The structs of a program form a table where those of its units do.
use Rattle.std.proofs.Common.{◌≡◌, ℕ, zero, suc, ◌*◌, ◌^◌, ◌<◌, Bool, true, false, nat_le, if◌then◌else◌, get_or, length, List, [], ◌∷◌, Option, Some, None, is_some, option_map, ◌⊎◌, refl, ap, sym, subst, ◌∙◌, true≢false, arith}
use Rattle.std.proofs.lemmas.Bool.{leb-true}
use Rattle.std.specs.Prelude.{slice_get, slice_index_or, All}
use Rattle.sp_types.specs.Types.{CType, void, integer, floating, pointer, array, structure, function, Signature, signature, Parameters, untold, listed, CTypes, no_types, next_type, Struct}
use Rattle.sp_types.specs.Layout.{extent, layout, repeated, struct_extent}
use Rattle.sp_types.specs.Structs.{IsWhole, IsAbove, IsFormed, IsFormedSignature, AreFormedParameters, AreFormed, IsSmall, held, height_of, leaves_of, cells_of, times, with_member, with_members}
use Rattle.sp_types.specs.declared.extents.Extent.{Extent}
use Rattle.sp_link_renaming.specs.Renaming.{number_in, renamed_type, renamed_signature, renamed_parameters, renamed_types}
use Rattle.sp_link_structs.specs.Matching.{Matching}
use Rattle.sp_link_agreement.specs.Depths.{struct_of_table, struct_at, Agree}
use Rattle.sp_link_structs.specs.Joined.{has_members, is_complete, IsStep, Joined, itself, onward, backward}
use Rattle.sp_link_structs.specs.Matched.{of_units, IsFirst, AreMatched}
use Rattle.sp_link_structs.specs.Laws.{number_of, StructsAreNumbered, StructsAreThere}
use Rattle.sp_link_units.specs.Making.{renamed_members, renamed_struct, struct_told}
use Rattle.sp_link_structs_laws.specs.Tables.{program_struct, program_structs, AreTables, TablesStay}
use Rattle.sp_link_structs_laws.proofs.Lists.{first_there, some_is, none_some, head_all, tail_all, get_below, get_there, map_got, map_from, index_got}
use Rattle.sp_link_structs_laws.proofs.Same.{SameStruct, SameType, repeated_some, struct_some, member_some, AreSame, levels_same, leaf_counts_same, cell_counts_same, extents_same, whole_members, within}

-- ---- what is small

small_by : (b : Bool) (e : Extent) (n : ℕ) → nat_le (e.size * n) (2 ^ 40) ≡ b → IsSmall (if b then Some (extent (e.size * n) e.align) else None)
small_by true e n h = leb-true (e.size * n) (2 ^ 40) h
small_by false e n h = tt

repeated_small : (n : ℕ) (o : Option Extent) → IsSmall (repeated n o)
repeated_small n None = tt
repeated_small n (Some e) = small_by (nat_le (e.size * n) (2 ^ 40)) e n refl

nil_all : {X : Type 0} (P : X → Type 0) → All P []
nil_all P = λ k d low. absurd (omega arith)

cons_all : {X : Type 0} (P : X → Type 0) (x : X) (xs : List X) → P x → All P xs → All P (x ∷ xs)
cons_all {X = X} P x xs p rest = λ k d low. by k d low
  where
    by : (k : ℕ) (d : X) → k < length (x ∷ xs) → P (get_or (x ∷ xs) k d)
    by zero d low = p
    by (suc k) d low = rest k d (omega arith)

-- the table and the entry of a struct that is there
pub table_there : (us : List (List Struct)) (x : ℕ × ℕ) (s : Struct) → struct_at us x ≡ Some s → (ss : List Struct) × (slice_get us x.0 ≡ Some ss) × (slice_get ss x.1 ≡ Some s)
table_there us x s e = by (slice_get us x.0) refl e
  where
    by : (o : Option (List Struct)) → slice_get us x.0 ≡ o → struct_of_table o x.1 ≡ Some s → (ss : List Struct) × (slice_get us x.0 ≡ Some ss) × (slice_get ss x.1 ≡ Some s)
    by None g h = absurd (none_some s h)
    by (Some ss) g h = (ss, g, h)

pub found_some : (o : Option Struct) → is_some o ≡ true → (s : Struct) × (o ≡ Some s)
found_some None h = absurd (true≢false (sym h))
found_some (Some s) h = (s, refl)

-- a struct with members, in its table and with its extent
pub record InTable (us : List (List Struct)) (x : ℕ × ℕ) : Type 0 where
  table : List Struct
  entry : Struct
  whole : Extent
  table-is : slice_get us x.0 ≡ Some table
  entry-is : slice_get table x.1 ≡ Some entry
  whole-is : entry.extent ≡ Some whole

-- the entry that the program has for a struct of a unit
pub record Entry (us : List (List Struct)) (m : Matching) (x : ℕ × ℕ) (s : Struct) : Type 0 where
  number : ℕ
  entry : Struct
  named : number_in (slice_index_or m.numbers x.0 []) x.1 ≡ number
  there : slice_get (program_structs us m) number ≡ Some entry
  same : (e : Extent) → s.extent ≡ Some e → SameStruct entry s

module _ (us : List (List Struct)) (m : Matching) (matched : AreMatched us m) (tables : AreTables us) (numbered : StructsAreNumbered) (are_there : StructsAreThere) where
  told : (r : ℕ × ℕ) (t : Struct) → struct_at us r ≡ Some t → program_struct us m r ≡ renamed_struct (slice_index_or m.numbers r.0 []) t
  told r t e = ap (struct_told (slice_index_or m.numbers r.0 [])) e

  full : (o : Option Struct) → has_members o ≡ true → (t : Struct) × (o ≡ Some t) × (is_some t.members ≡ true)
  full None h = absurd (true≢false (sym h))
  full (Some t) h = (t, refl, h)

  sized : (ss : List Struct) (t : Struct) (ms : Option (List (ℕ × CType))) → is_some ms ≡ true → IsWhole ss t ms → (e : Extent) × (t.extent ≡ Some e)
  sized ss t None h w = absurd (true≢false (sym h))
  sized ss t (Some ms) h w = (w.1.0, w.1.1)

  in_table : (x : ℕ × ℕ) → is_complete us x ≡ true → InTable us x
  in_table x c =
      let t : (t : Struct) × (struct_at us x ≡ Some t) × (is_some t.members ≡ true) = full (struct_at us x) c in
      let w : (tt : List Struct) × (slice_get us x.0 ≡ Some tt) × (slice_get tt x.1 ≡ Some t.0) = table_there us x t.0 t.1 in
      let q : (f : Extent) × (t.0.extent ≡ Some f) = sized w.0 t.0 t.0.members t.2 (tables x.0 w.0 w.1 x.1 t.0 w.2) in
      record { table = w.0; entry = t.0; whole = q.0; table-is = w.1; entry-is = w.2; whole-is = q.1 }

  same_back : (s t : Struct) → SameStruct s t → SameStruct t s
  same_back s t h = record { extents = sym h.extents; levels = sym h.levels; leaf_counts = sym h.leaf_counts; cell_counts = sym h.cell_counts }

  same_on : (r s t : Struct) → SameStruct r s → SameStruct s t → SameStruct r t
  same_on r s t h g = record { extents = h.extents ∙ g.extents; levels = h.levels ∙ g.levels; leaf_counts = h.leaf_counts ∙ g.leaf_counts; cell_counts = h.cell_counts ∙ g.cell_counts }

  -- a step leads to a struct of the same size
  step_same : (x y : ℕ × ℕ) (s t : Struct) → IsStep us x y → struct_at us x ≡ Some s → struct_at us y ≡ Some t → SameStruct s t
  step_same x y s t step a b =
      let v : InTable us x = in_table x step.0 in
      let w : InTable us y = in_table y step.1 in
      let same : SameStruct v.entry w.entry =
      within us tables (suc v.entry.level) x y v.table w.table v.entry w.entry v.whole w.whole v.table-is w.table-is v.entry-is w.entry-is v.whole-is w.whole-is (omega arith) step.3 in
      let left : v.entry ≡ s = some_is v.entry s (sym (ap (λ o. struct_of_table o x.1) v.table-is ∙ v.entry-is) ∙ a) in
      let right : w.entry ≡ t = some_is w.entry t (sym (ap (λ o. struct_of_table o y.1) w.table-is ∙ w.entry-is) ∙ b) in
      subst (λ z. SameStruct z t) left (subst (SameStruct v.entry) right same)

  -- and so does a chain
  chain_same : (x y : ℕ × ℕ) (s t : Struct) → Joined us x y → struct_at us x ≡ Some s → struct_at us y ≡ Some t → SameStruct s t
  chain_same x y s t (itself e) a b =
      subst (SameStruct s) (some_is s t (sym a ∙ ap (struct_at us) e ∙ b)) (record { extents = refl; levels = refl; leaf_counts = refl; cell_counts = refl })
  chain_same x y s t (onward z j step) a b =
      let w : (r : Struct) × (struct_at us z ≡ Some r) × (is_some r.members ≡ true) = full (struct_at us z) step.0 in
      same_on s w.0 t (chain_same x z s w.0 j a w.1) (step_same z y w.0 t step w.1 b)
  chain_same x y s t (backward z j step) a b =
      let w : (r : Struct) × (struct_at us z ≡ Some r) × (is_some r.members ≡ true) = full (struct_at us z) step.1 in
      same_on s w.0 t (chain_same x z s w.0 j a w.1) (same_back t w.0 (step_same y z t w.0 step b w.1))

  another : (x r : ℕ × ℕ) (s : Struct) → struct_at us x ≡ Some s → is_complete us x ≡ true → Joined us x r → (t : Struct) × (struct_at us r ≡ Some t) → SameStruct (program_struct us m r) s
  another x r s a c j t =
      let same : SameStruct t.0 s = same_back s t.0 (chain_same x r s t.0 j a t.1) in
      subst (λ z. SameStruct z s) (sym (told r t.0 t.1)) (record { extents = same.extents; levels = same.levels; leaf_counts = same.leaf_counts; cell_counts = same.cell_counts })

  pub entry_of : (x : ℕ × ℕ) (ss : List Struct) (s : Struct) → slice_get us x.0 ≡ Some ss → slice_get ss x.1 ≡ Some s → Entry us m x s
  entry_of x ss s a b =
      let found : struct_at us x ≡ Some s = ap (λ o. struct_of_table o x.1) a ∙ b in
      let w : (n : ℕ) × (r : ℕ × ℕ) × (number_of m x ≡ Some n) × (slice_get m.structs n ≡ Some r) × (is_complete us x ≡ true → IsFirst (Joined us x) (of_units 0 us) (Some r)) × (is_complete us x ≡ false → (r ≡ x) ⊎ Agree us r x) =
      numbered us m x s matched found in
      record {
        number = w.0;
        entry = program_struct us m w.1;
        named = index_got (slice_index_or m.numbers x.0 []) x.1 w.0 0 w.2;
        there = map_got (program_struct us m) m.structs w.0 w.1 w.3;
        same = λ e p.
            let v : (ms : List (ℕ × CType)) × (s.members ≡ Some ms) × IsWhole ss s (Some ms) = whole_members ss s s.members e p (tables x.0 ss a x.1 s b) in
            let c : is_complete us x ≡ true = ap has_members found ∙ ap is_some v.1 in
            another x w.1 s found c (first_there (Joined us x) (of_units 0 us) w.1 (w.4 c))
            (found_some (struct_at us w.1) (are_there us m w.0 w.1 matched w.3));
      }

  -- ---- types of a unit

  module _ (u : ℕ) (ss : List Struct) (at : slice_get us u ≡ Some ss) where
    pub types_kept : (a : CType) (e : Extent) → layout ss a ≡ Some e → SameType (program_structs us m) (renamed_type (slice_index_or m.numbers u []) a) ss a
    types_kept (integer k) e p = record { layouts = refl; heights = refl; leaf_counts = refl; cell_counts = refl }
    types_kept (floating k) e p = record { layouts = refl; heights = refl; leaf_counts = refl; cell_counts = refl }
    types_kept (pointer a) e p = record { layouts = refl; heights = refl; leaf_counts = refl; cell_counts = refl }
    types_kept (array a None) e p = absurd (none_some e p)
    types_kept (array a (Some n)) e p =
        let x : (g : Extent) × (layout ss a ≡ Some g) = repeated_some n (layout ss a) e p in
        let w : SameType (program_structs us m) (renamed_type (slice_index_or m.numbers u []) a) ss a = types_kept a x.0 x.1 in
        record { layouts = ap (repeated n) w.layouts; heights = w.heights; leaf_counts = ap (times n) w.leaf_counts; cell_counts = w.cell_counts }
    types_kept (structure k) e p =
        let x : (s : Struct) × (slice_get ss k ≡ Some s) × (s.extent ≡ Some e) = struct_some (slice_get ss k) e p in
        let w : Entry us m (u, k) x.0 = entry_of (u, k) ss x.0 at x.1 in
        let found : slice_get (program_structs us m) (number_in (slice_index_or m.numbers u []) k) ≡ Some w.entry = ap (slice_get (program_structs us m)) w.named ∙ w.there in
        let same : SameStruct w.entry x.0 = w.same e x.2 in
        record {
          layouts = ap struct_extent found ∙ same.extents ∙ sym (ap struct_extent x.1);
          heights = ap height_of found ∙ same.levels ∙ sym (ap height_of x.1);
          leaf_counts = ap leaves_of found ∙ same.leaf_counts ∙ sym (ap leaves_of x.1);
          cell_counts = ap cells_of found ∙ same.cell_counts ∙ sym (ap cells_of x.1);
        }
    types_kept void e p = absurd (none_some e p)
    types_kept (function s) e p = absurd (none_some e p)

    mutual
      pub types_formed : (a : CType) → IsFormed ss a → IsFormed (program_structs us m) (renamed_type (slice_index_or m.numbers u []) a)
      types_formed void h = tt
      types_formed (integer k) h = tt
      types_formed (floating k) h = tt
      types_formed (pointer a) h = types_formed a h
      types_formed (array a None) h = types_formed a h
      types_formed (array a (Some n)) h =
          (types_formed a h.0, h.1, repeated_small n (layout (program_structs us m) (renamed_type (slice_index_or m.numbers u []) a)))
      types_formed (structure k) h =
          let x : (s : Struct) × (slice_get ss k ≡ Some s) = get_there ss k h in
          let w : Entry us m (u, k) x.0 = entry_of (u, k) ss x.0 at x.1 in
          subst (λ z. z < length (program_structs us m)) (sym w.named) (get_below (program_structs us m) w.number w.entry w.there)
      types_formed (function s) h = signatures_formed s h

      pub signatures_formed : (s : Signature) → IsFormedSignature ss s → IsFormedSignature (program_structs us m) (renamed_signature (slice_index_or m.numbers u []) s)
      signatures_formed (signature r ps v) h = (types_formed r h.0, parameters_formed ps h.1)

      parameters_formed : (ps : Parameters) → AreFormedParameters ss ps → AreFormedParameters (program_structs us m) (renamed_parameters (slice_index_or m.numbers u []) ps)
      parameters_formed untold h = tt
      parameters_formed (listed ts) h = all_formed ts h

      all_formed : (ts : CTypes) → AreFormed ss ts → AreFormed (program_structs us m) (renamed_types (slice_index_or m.numbers u []) ts)
      all_formed no_types h = tt
      all_formed (next_type t ts) h = (types_formed t h.0, all_formed ts h.1)

    pub types_above : (level : ℕ) (a : CType) (e : Extent) → layout ss a ≡ Some e → IsAbove ss level (held a) → IsAbove (program_structs us m) level (held (renamed_type (slice_index_or m.numbers u []) a))
    types_above level void e p h = tt
    types_above level (integer k) e p h = tt
    types_above level (floating k) e p h = tt
    types_above level (pointer a) e p h = tt
    types_above level (array a None) e p h = absurd (none_some e p)
    types_above level (array a (Some n)) e p h =
        let x : (g : Extent) × (layout ss a ≡ Some g) = repeated_some n (layout ss a) e p in
        types_above level a x.0 x.1 h
    types_above level (structure k) e p h =
        let x : (s : Struct) × (slice_get ss k ≡ Some s) × (s.extent ≡ Some e) = struct_some (slice_get ss k) e p in
        let w : Entry us m (u, k) x.0 = entry_of (u, k) ss x.0 at x.1 in
        let found : slice_get (program_structs us m) (number_in (slice_index_or m.numbers u []) k) ≡ Some w.entry = ap (slice_get (program_structs us m)) w.named ∙ w.there in
        let low : x.0.level < level = h x.0 x.1 in
        let same_level : w.entry.level ≡ x.0.level = (w.same e x.2).levels in
        let entry_low : w.entry.level < level = omega (arith, same_level, low) in
        λ s' g. subst (λ z. z.level < level) (sym (some_is s' w.entry (sym g ∙ found))) entry_low
    types_above level (function s) e p h = tt

    -- ---- members

    pub members_kept : (union : Bool) (whole : Extent) (ms : List (ℕ × CType)) (e : Extent) → with_members ss union whole ms ≡ Some e
        → AreSame (program_structs us m) ss (renamed_members (slice_index_or m.numbers u []) ms) ms
    members_kept union whole [] e p = tt
    members_kept union whole (k ∷ ks) e p =
        let a : (g : Extent) × (layout ss k.1 ≡ Some g) × (with_members ss union (with_member union whole g) ks ≡ Some e) = member_some ss union whole ks (layout ss k.1) e p in
        (types_kept k.1 a.0 a.1, members_kept union (with_member union whole a.0) ks e a.2)

    pub all_kept : (level : ℕ) (union : Bool) (whole : Extent) (ms : List (ℕ × CType)) (e : Extent) → with_members ss union whole ms ≡ Some e
        → All (λ m. IsFormed ss m.1 × IsAbove ss level (held m.1)) ms
        → All (λ k. IsFormed (program_structs us m) k.1 × IsAbove (program_structs us m) level (held k.1)) (renamed_members (slice_index_or m.numbers u []) ms)
    all_kept level union whole [] e p all = nil_all (λ k. IsFormed (program_structs us m) k.1 × IsAbove (program_structs us m) level (held k.1))
    all_kept level union whole (k ∷ ks) e p all =
        let a : (g : Extent) × (layout ss k.1 ≡ Some g) × (with_members ss union (with_member union whole g) ks ≡ Some e) = member_some ss union whole ks (layout ss k.1) e p in
        let formed : IsFormed ss k.1 × IsAbove ss level (held k.1) = head_all (λ m. IsFormed ss m.1 × IsAbove ss level (held m.1)) k ks all in
        cons_all (λ k. IsFormed (program_structs us m) k.1 × IsAbove (program_structs us m) level (held k.1))
        (k.0, renamed_type (slice_index_or m.numbers u []) k.1) (renamed_members (slice_index_or m.numbers u []) ks)
        (types_formed k.1 formed.0, types_above level k.1 a.0 a.1 formed.1)
        (all_kept level union (with_member union whole a.0) ks e a.2 (tail_all (λ m. IsFormed ss m.1 × IsAbove ss level (held m.1)) k ks all))

    -- ---- structs

    pub whole_kept : (s : Struct) (ms : Option (List (ℕ × CType))) → IsWhole ss s ms
        → IsWhole (program_structs us m) (renamed_struct (slice_index_or m.numbers u []) s) (option_map (renamed_members (slice_index_or m.numbers u [])) ms)
    whole_kept s None w = w
    whole_kept s (Some ms) w =
        let same : AreSame (program_structs us m) ss (renamed_members (slice_index_or m.numbers u []) ms) ms = members_kept s.union (extent 0 1) ms w.1.0 w.1.2 in (
          all_kept s.level s.union (extent 0 1) ms w.1.0 w.1.2 w.0,
          (w.1.0, w.1.1, extents_same (program_structs us m) ss s.union (extent 0 1) (renamed_members (slice_index_or m.numbers u []) ms) ms same ∙ w.1.2, w.1.3),
          w.2 ∙ sym (levels_same (program_structs us m) ss (renamed_members (slice_index_or m.numbers u []) ms) ms same),
          w.3 ∙ sym (leaf_counts_same (program_structs us m) ss s.union (renamed_members (slice_index_or m.numbers u []) ms) ms same),
          w.4 ∙ sym (cell_counts_same (program_structs us m) ss s.union (renamed_members (slice_index_or m.numbers u []) ms) ms same),
        )

  pub made_whole : (r : ℕ × ℕ) (s : Struct) → struct_at us r ≡ Some s → IsWhole (program_structs us m) (program_struct us m r) (program_struct us m r).members
  made_whole r s e =
      let w : (ss : List Struct) × (slice_get us r.0 ≡ Some ss) × (slice_get ss r.1 ≡ Some s) = table_there us r s e in
      subst (λ z. IsWhole (program_structs us m) z z.members) (sym (told r s e)) (whole_kept r.0 w.0 w.1 s s.members (tables r.0 w.0 w.1 r.1 s w.2))

pub tables_stay : StructsAreNumbered → StructsAreThere → TablesStay
tables_stay numbered there us m matched tables n t at =
    let w : (r : ℕ × ℕ) × (slice_get m.structs n ≡ Some r) × (program_struct us m r ≡ t) = map_from (program_struct us m) m.structs n t at in
    let s : (s : Struct) × (struct_at us w.0 ≡ Some s) = found_some (struct_at us w.0) (there us m n w.0 matched w.1) in
    subst (λ z. IsWhole (program_structs us m) z z.members) w.2 (made_whole us m matched tables numbered there w.0 s.0 s.1)
