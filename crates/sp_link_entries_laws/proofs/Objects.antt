-- Each object of a unit has an entry in the program, which the unit may name.
use Rattle.std.proofs.Common.{◌≡◌, ℕ, zero, suc, ◌+◌, ◌<◌, Bool, true, false, not, ◌&&◌, length, List, [], ◌∷◌, ◌++◌, Option, Some, None, is_some, ◌⊎◌, inl, inr, refl, ap, sym, subst, ◌∙◌, true≢false, arith}
use Rattle.std.specs.Prelude.{slice_get, slice_index_or, is_none}
use Rattle.sp_types.specs.declared.extents.Extent.{Extent}
use Rattle.sp_types.specs.declared.program.Storage.TheVariants.{Static, Outside}
use Rattle.sp_types.specs.Types.{CType, void, integer, floating, pointer, array, structure, function, Struct, result_of}
use Rattle.sp_types.specs.Layout.{layout, repeated, struct_extent}
use Rattle.sp_types.specs.Structs.{IsAbove, held}
use Rattle.sp_types.specs.Compatible.{lengths_agree}
use Rattle.sp_check_primaries.specs.Composite.{composite}
use Rattle.sp_types.specs.Programs.{Object as TypedObject, Function as TypedFunction}
use Rattle.sp_check_operands.specs.Conversions.{is_open_struct, is_function}
use Rattle.sp_check_env.specs.declared.env.Entity.TheVariants.{Object, Function}
use Rattle.sp_check_scopes.specs.Scopes.{entry}
use Rattle.sp_base_checked.specs.Units.{CheckedUnit}
use Rattle.sp_link_structs.specs.Matching.{Matching}
use Rattle.sp_link_agreement.specs.Agreement.{compatible_by}
use Rattle.sp_link_agreement.specs.Depths.{struct_at, agrees_within, TypesAgree}
use Rattle.sp_link_structs.specs.Joined.{has_members, is_complete, Joined as AreJoined, itself, onward, backward}
use Rattle.sp_link_structs.specs.Laws.{StructsAreNumbered, JoinedAreOne, StructsAreThere}
use Rattle.sp_link_conflicts.specs.Declarations.{Declaration, is_external, is_defined, object_declared, function_declared, unit_declared, declared_from, declarations}
use Rattle.sp_link_conflicts.specs.Conflicts.{AreCompatible, tables_of}
use Rattle.sp_link_conflicts.proofs.Pairs.{agreement_is_harmony}
use Rattle.sp_link_entries.specs.Entries.{ObjectEntry, FunctionEntry, Numbers, nothing_joined}
use Rattle.sp_link_entries.specs.Objects.{owned_by, is_dropped, object_entry}
use Rattle.sp_link_entries.specs.Functions.{function_entry}
use Rattle.sp_link_renaming.specs.Renaming.{number_in, renamed_type}
use Rattle.sp_check_typing.specs.Statements.{is_lasting}
use Rattle.sp_check_typing.specs.Refines.{MayName, Refines}
use Rattle.sp_link_structs_laws.specs.Tables.{program_structs}
use Rattle.sp_link_structs_laws.proofs.Lists.{none_some, map_got}
use Rattle.sp_link_structs_laws.proofs.Linked.{joined_structs}
use Rattle.sp_link_structs_laws.proofs.Same.{SameType, repeated_some, types_same, within}
use Rattle.sp_link_structs_laws.proofs.Stays.{types_kept}
use Rattle.sp_link_renaming_laws.specs.Follows.{lacks_layout}
use Rattle.sp_link_renaming_laws.proofs.Types.{refines_self}
use Rattle.sp_link_follow_laws.proofs.Structs.{one_number, complete_here}
use Rattle.sp_link_names_laws.specs.Names.{all_joined, HasOwnEntry, HasOwnFunction}
use Rattle.sp_link_names_laws.proofs.Numbered.{some_is}
use Rattle.sp_link_names_laws.proofs.Own.{others_stay_apart}
use Rattle.sp_link_names_laws.proofs.OwnFunctions.{static_functions_stay_apart}
use Rattle.sp_link_names_laws.proofs.Sources.{There, order, object_in_unit, function_in_unit, names_have_one_object, names_have_one_function}
use Rattle.sp_link_entries_laws.specs.Joined.{AreLinked, StandsFor, LinkedObjectsStand, FunctionStandsFor, LinkedFunctionsStand, OwnObjectsAreApart, HasElements, LinkedArraysAreComplete}
use Rattle.sp_link_entries_laws.proofs.Apart.{own_apart}
use Rattle.sp_link_entries_laws.proofs.Functions as functions
use Rattle.sp_link_entries_laws.proofs.Like.{Like, like_void, like_integer, like_floating, like_pointer, like_array, like_struct, like_function, FitsLength, self_fits, compatible_like, compatible_back, like_named, self_keeps}
use Rattle.sp_link_entries_laws.proofs.Told.{IsExternal, Meets, IsNamed, IsTold, AreNamed, HasTold, units_told, units_named}

-- ---- declarations of two units stand in their order

in_first : {A : Type 0} (xs ys : List A) (i : ℕ) (x : A) → slice_get xs i ≡ Some x
    → (i < length xs) × (slice_get (xs ++ ys) i ≡ Some x)
in_first [] ys i x e = absurd (none_some x e)
in_first (z ∷ zs) ys zero x e = (omega arith, e)
in_first (z ∷ zs) ys (suc i) x e =
    let w : (i < length zs) × (slice_get (zs ++ ys) i ≡ Some x) = in_first zs ys i x e in
    let low : i < length zs = w.0 in
    (omega arith, w.1)

in_second : {A : Type 0} (xs ys : List A) (i : ℕ) (x : A) → slice_get ys i ≡ Some x
    → slice_get (xs ++ ys) (length xs + i) ≡ Some x
in_second [] ys i x e =
    let same : i ≡ 0 + i = omega arith in
    subst (λ n. slice_get ys n ≡ Some x) same e
in_second {A} (z ∷ zs) ys i x e =
    let same : suc (length zs + i) ≡ length (z ∷ zs) + i = omega arith in
    subst (λ n. slice_get (z ∷ (zs ++ ys)) n ≡ Some x) same (in_second zs ys i x e)

-- where a declaration of a unit stands
record IsAt (ds : List Declaration) (low : ℕ) (d : Declaration) : Type 0 where
  place : ℕ
  there : slice_get ds place ≡ Some d
  above : low < suc place

from_on : (xs : List CheckedUnit) (from i at : ℕ) (x : CheckedUnit) (d : Declaration) → at ≡ from + i
    → slice_get xs i ≡ Some x → There (unit_declared at x) d → There (declared_from from xs) d
from_on [] from i at x d p e w = absurd (none_some x e)
from_on (z ∷ zs) from zero at x d p e w =
    let same : z ≡ x = some_is z x e in
    let place : at ≡ from = omega arith in
    let here : There (unit_declared from z) d =
    subst (λ y. There (unit_declared from y) d) (sym same) (subst (λ n. There (unit_declared n x) d) place w) in
    (here.0, (in_first (unit_declared from z) (declared_from (suc from) zs) here.0 d here.1).1)
from_on (z ∷ zs) from (suc i) at x d p e w =
    let later : There (declared_from (suc from) zs) d = from_on zs (suc from) i at x d (omega arith) e w in
    (length (unit_declared from z) + later.0, in_second (unit_declared from z) (declared_from (suc from) zs) later.0 d later.1)

record InOrder (ds : List Declaration) (d e : Declaration) : Type 0 where
  first : ℕ
  second : ℕ
  before : first < second
  first_is : slice_get ds first ≡ Some d
  second_is : slice_get ds second ≡ Some e

in_order : (xs : List CheckedUnit) (from i k u v : ℕ) (x y : CheckedUnit) (d e : Declaration) → i < k
    → u ≡ from + i → v ≡ from + k → slice_get xs i ≡ Some x → slice_get xs k ≡ Some y
    → There (unit_declared u x) d → There (unit_declared v y) e → InOrder (declared_from from xs) d e
in_order [] from i k u v x y d e low p q a b s t = absurd (none_some x a)
in_order (z ∷ zs) from zero zero u v x y d e low p q a b s t = absurd (omega (arith, low))
in_order (z ∷ zs) from zero (suc k) u v x y d e low p q a b s t =
    let same : z ≡ x = some_is z x a in
    let place : u ≡ from = omega arith in
    let here : There (unit_declared from z) d =
    subst (λ w. There (unit_declared from w) d) (sym same) (subst (λ n. There (unit_declared n x) d) place s) in
    let there : (here.0 < length (unit_declared from z)) × (slice_get (unit_declared from z ++ declared_from (suc from) zs) here.0 ≡ Some d) =
    in_first (unit_declared from z) (declared_from (suc from) zs) here.0 d here.1 in
    let below : here.0 < length (unit_declared from z) = there.0 in
    let later : There (declared_from (suc from) zs) e = from_on zs (suc from) k v y e (omega arith) b t in
    record {
      first = here.0;
      second = length (unit_declared from z) + later.0;
      before = omega (arith, below);
      first_is = there.1;
      second_is = in_second (unit_declared from z) (declared_from (suc from) zs) later.0 e later.1;
    }
in_order (z ∷ zs) from (suc i) zero u v x y d e low p q a b s t = absurd (omega (arith, low))
in_order (z ∷ zs) from (suc i) (suc k) u v x y d e low p q a b s t =
    let w : InOrder (declared_from (suc from) zs) d e =
    in_order zs (suc from) i k u v x y d e (omega (arith, low)) (omega (arith, p)) (omega (arith, q)) a b s t in
    let before : w.first < w.second = w.before in
    let n : ℕ = length (unit_declared from z) in
    record {
      first = n + w.first;
      second = n + w.second;
      before = omega (arith, before);
      first_is = in_second (unit_declared from z) (declared_from (suc from) zs) w.first d w.first_is;
      second_is = in_second (unit_declared from z) (declared_from (suc from) zs) w.second e w.second_is;
    }

-- ---- sizes of composites

composite_layout : (ss : List Struct) (a b : CType) (e : Extent) → layout ss a ≡ Some e → layout ss (composite a b) ≡ Some e
composite_layout ss (array a None) b e h = absurd (none_some e h)
composite_layout ss (array a (Some n)) (array b m) e h =
    let f : (f : Extent) × (layout ss a ≡ Some f) = repeated_some n (layout ss a) e h in
    ap (repeated n) (composite_layout ss a b f.0 f.1 ∙ sym f.1) ∙ h
composite_layout ss (pointer a) (pointer b) e h = h
composite_layout ss (function r) b e h = absurd (none_some e h)
composite_layout ss void b e h = absurd (none_some e h)
composite_layout ss a b e h = h

-- ---- structs of two units

-- a struct without members has no layout
open_lacks : (ss : List Struct) (k : ℕ) (o : Option Struct) → slice_get ss k ≡ o
    → ((s : Struct) → o ≡ Some s → s.extent ≡ None) → is_none (layout ss (structure k)) ≡ true
open_lacks ss k None e none = ap (λ z. is_none (struct_extent z)) e
open_lacks ss k (Some s) e none = ap (λ z. is_none (struct_extent z)) e ∙ ap is_none (none s refl)

not_some : (o : Option Extent) → is_none o ≡ true → not (is_some o) ≡ true
not_some None h = refl
not_some (Some e) h = absurd (true≢false (sym h))

no_extent : (o : Option Extent) → ((e : Extent) → o ≡ Some e → ⊥) → o ≡ None
no_extent None h = refl
no_extent (Some e) h = absurd (h e refl)

module _ (xs : List CheckedUnit) (m : Matching) (linked : AreLinked xs m)
    (numbered : StructsAreNumbered) (joined : JoinedAreOne) (are_there : StructsAreThere) where
  abbrev us : List (List Struct)
  us = tables_of xs

  abbrev numbers : ℕ → List ℕ
  numbers u = slice_index_or m.numbers u []

  table_is : (u : ℕ) (x : CheckedUnit) → slice_get xs u ≡ Some x → slice_get us u ≡ Some x.structs
  table_is u x at = map_got (λ z. z.structs) xs u x at

  lacks : (u : ℕ) (x : CheckedUnit) (k : ℕ) → slice_get xs u ≡ Some x → is_complete us (u, k) ≡ false
      → lacks_layout x.structs k ≡ true
  lacks u x k at none = open_lacks x.structs k (slice_get x.structs k) refl (λ s e. no_extent s.extent (λ f whole.
      true≢false (sym (complete_here us m linked.matched linked.tables numbered joined are_there u x.structs k s f (table_is u x at) e whole) ∙ none)))

  found : (u : ℕ) (k : ℕ) → is_complete us (u, k) ≡ true → (s : Struct) × (struct_at us (u, k) ≡ Some s)
  found u k c = by (struct_at us (u, k)) refl c
    where
      by : (o : Option Struct) → struct_at us (u, k) ≡ o → has_members o ≡ true → (s : Struct) × (struct_at us (u, k) ≡ Some s)
      by None e h = absurd (true≢false (sym h))
      by (Some s) e h = (s, e)

  -- of two structs that agree, one is incomplete, or they have one number
  meets : (u v : ℕ) (x y : CheckedUnit) (p : TypedObject) (k j : ℕ) → slice_get xs u ≡ Some x → slice_get xs v ≡ Some y
      → p.of ≡ structure j
      → (is_complete us (u, k) ≡ true → is_complete us (v, j) ≡ true → AreJoined us (u, k) (v, j))
      → Meets x.structs (numbers u) (object_entry y.structs (numbers v) v p) k (number_in (numbers v) j)
  meets u v x y p k j at there is step = by (is_complete us (u, k)) refl (is_complete us (v, j)) refl
    where
      by : (b : Bool) → is_complete us (u, k) ≡ b → (c : Bool) → is_complete us (v, j) ≡ c
          → Meets x.structs (numbers u) (object_entry y.structs (numbers v) v p) k (number_in (numbers v) j)
      by false e c g = inl (lacks u x k at e)
      by true e false g = inr (inl (ap (is_open_struct y.structs) is
          ∙ not_some (layout y.structs (structure j)) (lacks v y j there g)))
      by true e true g =
          let s : (s : Struct) × (struct_at us (u, k) ≡ Some s) = found u k e in
          let t : (t : Struct) × (struct_at us (v, j) ≡ Some t) = found v j g in
          inr (inr (sym (one_number us m linked.matched linked.tables numbered joined are_there (u, k) (v, j) s.0 t.0 s.1 t.1 e g (step e g))))

  -- ---- elements of arrays

  abbrev ps : List Struct
  ps = program_structs us m

  -- two types of one size in the program, the first as the unit has it
  record HasLayout (u : ℕ) (t c : CType) : Type 0 where
    extent : Extent
    there : layout ps c ≡ Some extent
    own : layout ps (renamed_type (numbers u) t) ≡ Some extent

  layout_kept : (u : ℕ) (x : CheckedUnit) (t : CType) (e : Extent) → slice_get xs u ≡ Some x → layout x.structs t ≡ Some e
      → layout ps (renamed_type (numbers u) t) ≡ Some e
  layout_kept u x t e at is =
      (types_kept us m linked.matched linked.tables numbered are_there u x.structs (table_is u x at) t e is).layouts ∙ is

  element_there : (ss : List Struct) (a : CType) (n : Option ℕ) → HasElements ss (array a n) → (e : Extent) × (layout ss a ≡ Some e)
  element_there ss a None h = h
  element_there ss a (Some n) h = repeated_some n (layout ss a) h.0 h.1

  elements_kept : (u : ℕ) (t a b : CType) → HasLayout u t a → HasLayout u t (composite a b)
  elements_kept u t a b h = record { extent = h.extent; there = composite_layout ps a b h.extent h.there; own = h.own }

  own_elements : (u : ℕ) (x : CheckedUnit) (k : ℕ) (o : TypedObject) → IsExternal xs u x k o → (a : CType) (n : Option ℕ)
      → o.of ≡ array a n → HasLayout u a (renamed_type (numbers u) a)
  own_elements u x k o g a n is =
      let e : (e : Extent) × (layout x.structs a ≡ Some e) =
      element_there x.structs a n (subst (HasElements x.structs) is ((linked.types u x g.unit).elements k o g.object g.external)) in
      record { extent = e.0; there = layout_kept u x a e.0 g.unit e.1; own = layout_kept u x a e.0 g.unit e.1 }

  type_holds : (u : ℕ) (x : CheckedUnit) (t : CType) → slice_get xs u ≡ Some x → HasElements x.structs t
      → HasElements ps (renamed_type (numbers u) t)
  type_holds u x (array t None) at h = (h.0, layout_kept u x t h.0 at h.1)
  type_holds u x (array t (Some n)) at h = (h.0, layout_kept u x (array t (Some n)) h.0 at h.1)
  type_holds u x void at h = tt
  type_holds u x (integer k) at h = tt
  type_holds u x (floating k) at h = tt
  type_holds u x (pointer t) at h = tt
  type_holds u x (structure k) at h = tt
  type_holds u x (function s) at h = tt

  held_first : (u : ℕ) (S : ℕ → ℕ → Type 0) (t b : CType) → Like FitsLength S (HasLayout u) t b
      → HasElements ps (renamed_type (numbers u) t) → HasElements ps b → HasElements ps (composite (renamed_type (numbers u) t) b)
  held_first u S t b (like_array a c None None l e) h g =
      (e.extent, composite_layout ps (renamed_type (numbers u) a) c e.extent e.own)
  held_first u S t b (like_array a c None (Some k) l e) h g =
      (g.0, ap (repeated k) (composite_layout ps (renamed_type (numbers u) a) c e.extent e.own ∙ sym e.there) ∙ g.1)
  held_first u S t b (like_array a c (Some n) k l e) h g =
      (h.0, ap (repeated n) (composite_layout ps (renamed_type (numbers u) a) c e.extent e.own ∙ sym e.own) ∙ h.1)
  held_first u S t b like_void h g = tt
  held_first u S t b (like_integer k) h g = tt
  held_first u S t b (like_floating k) h g = tt
  held_first u S t b (like_pointer a c) h g = tt
  held_first u S t b (like_struct k i x) h g = tt
  held_first u S t b (like_function r q) h g = tt

  held_second : (u : ℕ) (S : ℕ → ℕ → Type 0) (t b : CType) → Like FitsLength S (HasLayout u) t b
      → HasElements ps (renamed_type (numbers u) t) → HasElements ps b → HasElements ps (composite b (renamed_type (numbers u) t))
  held_second u S t b (like_array a c None None l e) h g =
      (e.extent, composite_layout ps c (renamed_type (numbers u) a) e.extent e.there)
  held_second u S t b (like_array a c (Some n) None l e) h g =
      (h.0, ap (repeated n) (composite_layout ps c (renamed_type (numbers u) a) e.extent e.there ∙ sym e.own) ∙ h.1)
  held_second u S t b (like_array a c n (Some k) l e) h g =
      (g.0, ap (repeated k) (composite_layout ps c (renamed_type (numbers u) a) e.extent e.there ∙ sym e.there) ∙ g.1)
  held_second u S t b like_void h g = tt
  held_second u S t b (like_integer k) h g = tt
  held_second u S t b (like_floating k) h g = tt
  held_second u S t b (like_pointer a c) h g = tt
  held_second u S t b (like_struct k i x) h g = tt
  held_second u S t b (like_function r q) h g = tt

  object_holds : (u : ℕ) (x : CheckedUnit) (k : ℕ) (o : TypedObject) → IsExternal xs u x k o
      → HasElements ps (renamed_type (numbers u) o.of)
  object_holds u x k o g = type_holds u x o.of g.unit ((linked.types u x g.unit).elements k o g.object g.external)

  -- types that agree and are complete have one size
  same_layout : (u v : ℕ) (x y : CheckedUnit) (a b : CType) (e f : Extent) → slice_get xs u ≡ Some x → slice_get xs v ≡ Some y
      → TypesAgree us (u, a) (v, b) → layout x.structs a ≡ Some e → layout y.structs b ≡ Some f → layout x.structs a ≡ layout y.structs b
  same_layout u v x y a b e f at there agree p q = (by (held a) refl).layouts
    where
      level_of : Option Struct → ℕ
      level_of None = 0
      level_of (Some s) = suc s.level

      by : (h : Option ℕ) → held a ≡ h → SameType x.structs a y.structs b
      by None is =
          types_same us u v x.structs y.structs 0
          (λ k j s t c d w z r i low agrees. within us linked.tables 0 (u, k) (v, j) x.structs y.structs s t c d
          (table_is u x at) (table_is v y there) w z r i low agrees)
          a b agree e f p q (subst (IsAbove x.structs 0) (sym is) tt)
      by (Some k) is =
          let level : ℕ = level_of (slice_get x.structs k) in
          types_same us u v x.structs y.structs level
          (λ k j s t c d w z r i low agrees. within us linked.tables level (u, k) (v, j) x.structs y.structs s t c d
          (table_is u x at) (table_is v y there) w z r i low agrees)
          a b agree e f p q (subst (IsAbove x.structs level) (sym is) (λ s found. above s found))
        where
          above : (s : Struct) → slice_get x.structs k ≡ Some s → s.level < level_of (slice_get x.structs k)
          above s found = subst (λ o. s.level < level_of o) (sym found) (omega arith)

  and_second : (a b : Bool) → (a && b) ≡ true → b ≡ true
  and_second true b h = h
  and_second false b h = absurd (true≢false (sym h))

  inner_agree : (u v : ℕ) (t w a b : CType) (n l : Option ℕ) → t ≡ array a n → w ≡ array b l → TypesAgree us (u, t) (v, w)
      → TypesAgree us (u, a) (v, b)
  inner_agree u v t w a b n l p q h i =
      and_second (lengths_agree n l) (compatible_by (λ k j. agrees_within i us (u, k) (v, j)) a b)
      (subst (λ z. compatible_by (λ k j. agrees_within i us (u, k) (v, j)) (array a n) z ≡ true) q
      (subst (λ z. compatible_by (λ k j. agrees_within i us (u, k) (v, j)) z w ≡ true) p (h i)))

  pair_elements : (u v : ℕ) (x y : CheckedUnit) (i k : ℕ) (o p : TypedObject) → IsExternal xs u x i o → IsExternal xs v y k p
      → (a b : CType) (n l : Option ℕ) → o.of ≡ array a n → p.of ≡ array b l
      → ((e f : Extent) → layout x.structs a ≡ Some e → layout y.structs b ≡ Some f → layout x.structs a ≡ layout y.structs b)
      → HasLayout u a (renamed_type (numbers v) b)
  pair_elements u v x y i k o p g h a b n l c d same =
      let e : (e : Extent) × (layout x.structs a ≡ Some e) =
      element_there x.structs a n (subst (HasElements x.structs) c ((linked.types u x g.unit).elements i o g.object g.external)) in
      let f : (f : Extent) × (layout y.structs b ≡ Some f) =
      element_there y.structs b l (subst (HasElements y.structs) d ((linked.types v y h.unit).elements k p h.object h.external)) in
      record {
        extent = e.0;
        there = layout_kept v y b f.0 h.unit f.1 ∙ sym f.1 ∙ sym (same e.0 f.0 e.1 f.1) ∙ e.1;
        own = layout_kept u x a e.0 g.unit e.1;
      }

  -- two declarations of one name
  abbrev Pair : (u v : ℕ) (x y : CheckedUnit) (o p : TypedObject) → Type 0
  Pair u v x y o p =
      Like FitsLength (Meets x.structs (numbers u) (object_entry y.structs (numbers v) v p)) (HasLayout u) o.of
      (renamed_type (numbers v) p.of)

  struct_agrees : (agree : ℕ → ℕ → Bool) (t u : CType) (k j : ℕ) → t ≡ structure k → u ≡ structure j
      → compatible_by agree t u ≡ true → agree k j ≡ true
  struct_agrees agree t u k j a b h = ap₂ (compatible_by agree) (sym a) (sym b) ∙ h
    where
      ap₂ : {A B C : Type 0} (f : A → B → C) {a b : A} {c d : B} → a ≡ b → c ≡ d → f a c ≡ f b d
      ap₂ f e g = λ i. f (e i) (g i)

  pairs : (u v : ℕ) (x y : CheckedUnit) (i k : ℕ) (o p : TypedObject) → IsExternal xs u x i o → IsExternal xs v y k p
      → o.name ≡ p.name → Pair u v x y o p
  pairs u v x y i k o p g h same = by (order u v)
    where
      d : There (unit_declared u x) (object_declared u o)
      d = object_in_unit u x i o g.object g.external

      e : There (unit_declared v y) (object_declared v p)
      e = object_in_unit v y k p h.object h.external

      by : (u < v) ⊎ ((v < u) ⊎ (u ≡ v)) → Pair u v x y o p
      by (inl low) =
          let w : InOrder (declarations xs) (object_declared u o) (object_declared v p) =
          in_order xs 0 u v u v x y (object_declared u o) (object_declared v p) low (omega arith) (omega arith) g.unit h.unit d e in
          let fits : AreCompatible us (object_declared u o) (object_declared v p) =
          ((agreement_is_harmony xs).0 linked.agree w.first w.second (object_declared u o) (object_declared v p) w.before w.first_is w.second_is same).0 in
          compatible_like (Meets x.structs (numbers u) (object_entry y.structs (numbers v) v p)) (HasLayout u) (numbers v)
          (λ a b. agrees_within zero us (u, a) (v, b)) o.of p.of
          (λ a b l r. meets u v x y p a b g.unit h.unit r (λ c f. onward (u, a) (itself refl)
          (c, f, low, λ n. struct_agrees (λ s t. agrees_within n us (u, s) (v, t)) o.of p.of a b l r (fits n))))
          (λ a b n l c d. pair_elements u v x y i k o p g h a b n l c d
          (λ e f q w. same_layout u v x y a b e f g.unit h.unit (inner_agree u v o.of p.of a b n l c d fits) q w)) (fits zero)
      by (inr (inl low)) =
          let w : InOrder (declarations xs) (object_declared v p) (object_declared u o) =
          in_order xs 0 v u v u y x (object_declared v p) (object_declared u o) low (omega arith) (omega arith) h.unit g.unit e d in
          let fits : AreCompatible us (object_declared v p) (object_declared u o) =
          ((agreement_is_harmony xs).0 linked.agree w.first w.second (object_declared v p) (object_declared u o) w.before w.first_is w.second_is (sym same)).0 in
          compatible_back (Meets x.structs (numbers u) (object_entry y.structs (numbers v) v p)) (HasLayout u) (numbers v)
          (λ a b. agrees_within zero us (v, a) (u, b)) o.of p.of
          (λ a b l r. meets u v x y p a b g.unit h.unit r (λ c f. backward (u, a) (itself refl)
          (f, c, low, λ n. struct_agrees (λ s t. agrees_within n us (v, s) (u, t)) p.of o.of b a r l (fits n))))
          (λ a b n l c d. pair_elements u v x y i k o p g h a b n l c d
          (λ e f q w. sym (same_layout v u y x b a f e h.unit g.unit (inner_agree v u p.of o.of b a l n d c fits) w q))) (fits zero)
      by (inr (inr one)) =
          let units : x ≡ y = some_is x y (sym g.unit ∙ ap (slice_get xs) one ∙ h.unit) in
          let there : slice_get x.objects k ≡ Some p = subst (λ z. slice_get z.objects k ≡ Some p) (sym units) h.object in
          let place : i ≡ k = (linked.names u x g.unit).apart i k o p g.object there g.external h.external same in
          let objects : o ≡ p = some_is o p (sym g.object ∙ ap (slice_get x.objects) place ∙ there) in
          subst (λ z. Pair u v x z o p) units
          (subst (λ z. Pair u v x x o z) objects
          (subst (λ n. Pair u n x x o o) one
          (self_fits (Meets x.structs (numbers u) (object_entry x.structs (numbers u) u o)) (HasLayout u) (numbers u)
          (λ n. inr (inr refl)) o.of (own_elements u x i o g))))

  lasts : (u : ℕ) (x : CheckedUnit) (k : ℕ) (o : TypedObject) → IsExternal xs u x k o → is_lasting o.storage ≡ true
  lasts u x k o g = by ((linked.names u x g.unit).stored k o g.object g.external)
    where
      by : (o.storage ≡ Static) ⊎ (o.storage ≡ Outside) → is_lasting o.storage ≡ true
      by (inl e) = ap is_lasting e
      by (inr e) = ap is_lasting e

  complete : (u : ℕ) (x : CheckedUnit) (k : ℕ) (o : TypedObject) → IsExternal xs u x k o
      → is_defined o.storage ≡ true → is_open_struct x.structs o.of ≡ false
  complete u x k o g e = (linked.types u x g.unit).complete k o g.object e

  none_named : AreNamed xs m.numbers HasLayout elements_kept own_elements (HasElements ps) object_holds held_first held_second pairs lasts complete nothing_joined
  none_named name n l = absurd (cc)

  in_place : (i : ℕ) (x : CheckedUnit) → slice_get xs i ≡ Some x → slice_get xs (0 + i) ≡ Some x
  in_place i x e = subst (λ n. slice_get xs n ≡ Some x) (omega arith) e

  all_named : AreNamed xs m.numbers HasLayout elements_kept own_elements (HasElements ps) object_holds held_first held_second pairs lasts complete (all_joined m.numbers xs).1
  all_named = units_named xs m.numbers HasLayout elements_kept own_elements (HasElements ps) object_holds held_first held_second pairs lasts complete xs ([], nothing_joined) in_place none_named

  -- ---- the numbers of structs that a unit has

  structs_are : (u : ℕ) (x : CheckedUnit) (ns : Numbers) → slice_get xs u ≡ Some x
      → slice_get (all_joined m.numbers xs).0 u ≡ Some ns → ns.structs ≡ numbers u
  structs_are u x ns at told =
      let w : (q : Numbers) × (slice_get (all_joined m.numbers xs).0 u ≡ Some q) × (q.structs ≡ numbers u) =
      joined_structs m.numbers xs ([], nothing_joined) u u x (omega arith) at in
      ap (λ z. z.structs) (some_is ns w.0 (sym told ∙ w.1)) ∙ w.2

  -- ---- what stands for an object

  module _ (u : ℕ) (x : CheckedUnit) (ns : Numbers) (k : ℕ) (o : TypedObject) (n : ℕ)
      (at : slice_get xs u ≡ Some x) (told : slice_get (all_joined m.numbers xs).0 u ≡ Some ns)
      (there : slice_get x.objects k ≡ Some o) (number : slice_get ns.objects k ≡ Some n)
      (kept : is_dropped (owned_by x.functions x.definitions) k o.storage ≡ false) where
    structs_is : ns.structs ≡ numbers u
    structs_is = structs_are u x ns at told

    whole_is : (s : ℕ) → lacks_layout x.structs s ≡ false → o.of ≡ structure s → is_open_struct x.structs o.of ≡ false
    whole_is s e is = ap (is_open_struct x.structs) is ∙ some_not (layout x.structs (structure s)) e
      where
        some_not : (l : Option Extent) → is_none l ≡ false → not (is_some l) ≡ false
        some_not None h = absurd (true≢false h)
        some_not (Some w) h = refl

    external_stands : is_external o.linkage ≡ true → StandsFor x ns.structs u o (all_joined m.numbers xs).1 n
    external_stands e =
        let it : IsExternal xs u x k o = record { unit = at; object = there; external = e } in
        let plain : (v : ℕ) (y : CheckedUnit) (i : ℕ) (q : TypedObject) → slice_get xs v ≡ Some y → slice_get y.objects i ≡ Some q → is_function q.of ≡ false =
        λ v y i q. λ a b. (linked.types v y a).plain i q b in
        let link : entry (all_joined m.numbers xs).1.links o.name ≡ Some (Object n) =
        names_have_one_object m.numbers xs linked.agree plain u x ns k o n at told there number e kept in
        let w : (d : ObjectEntry) × (slice_get (all_joined m.numbers xs).1.objects n ≡ Some d)
        × IsNamed xs m.numbers HasLayout elements_kept own_elements (HasElements ps) object_holds held_first held_second pairs lasts complete o.name d = all_named o.name n link in
        let t : HasTold xs m.numbers HasLayout elements_kept own_elements (HasElements ps) object_holds held_first held_second pairs lasts complete u x o (all_joined m.numbers xs).1 =
        units_told xs m.numbers HasLayout elements_kept own_elements (HasElements ps) object_holds held_first held_second pairs lasts complete xs ([], nothing_joined) in_place none_named u u x (omega arith) at k o it kept in
        let is : IsTold xs m.numbers HasLayout elements_kept own_elements (HasElements ps) object_holds held_first held_second pairs lasts complete u x o w.0 = t.told n w.0 (some_is t.entity (Object n) (sym t.link ∙ link)) w.1 in
        record {
          entry = w.0;
          there = w.1;
          name = w.2.name_is;
          named = subst (λ ss. MayName (lacks_layout x.structs) (number_in ss) o.of w.0.of) (sym structs_is)
              (like_named (Meets x.structs (numbers u) w.0) (HasLayout u) (lacks_layout x.structs) (numbers u) o.of w.0.of
              (λ a b a_is h. closed a b a_is w.0 is.whole h) is.named);
          lasting = λ h. w.2.lasting;
          own = λ f. absurd (true≢false (sym e ∙ f));
        }
      where
        closed : (a b : ℕ) → o.of ≡ structure a → (d : ObjectEntry)
            → (is_open_struct x.structs o.of ≡ false → d.incomplete ≡ false) → Meets x.structs (numbers u) d a b
            → (lacks_layout x.structs a ≡ true) ⊎ (b ≡ number_in (numbers u) a)
        closed a b is d whole (inl h) = inl h
        closed a b is d whole (inr (inr h)) = inr h
        closed a b is d whole (inr (inl h)) = by (lacks_layout x.structs a) refl
          where
            by : (c : Bool) → lacks_layout x.structs a ≡ c → (lacks_layout x.structs a ≡ true) ⊎ (b ≡ number_in (numbers u) a)
            by true l = inl l
            by false l = absurd (true≢false (sym h ∙ whole (whole_is a l is)))

    -- an array has elements as large, and is complete where its length is told
    array_stands : is_external o.linkage ≡ true → (e : ObjectEntry) → slice_get (all_joined m.numbers xs).1.objects n ≡ Some e
        → (a : CType) (l : Option ℕ) → o.of ≡ array a l
        → HasElements ps e.of × ((b : CType) × (i : Option ℕ) × (e.of ≡ array b i) × (layout ps b ≡ layout x.structs a))
    array_stands external e found a l is =
        let it : IsExternal xs u x k o = record { unit = at; object = there; external = external } in
        let plain : (v : ℕ) (y : CheckedUnit) (i : ℕ) (q : TypedObject) → slice_get xs v ≡ Some y → slice_get y.objects i ≡ Some q → is_function q.of ≡ false =
        λ v y i q. λ a b. (linked.types v y a).plain i q b in
        let link : entry (all_joined m.numbers xs).1.links o.name ≡ Some (Object n) =
        names_have_one_object m.numbers xs linked.agree plain u x ns k o n at told there number external kept in
        let w : (d : ObjectEntry) × (slice_get (all_joined m.numbers xs).1.objects n ≡ Some d)
        × IsNamed xs m.numbers HasLayout elements_kept own_elements (HasElements ps) object_holds held_first held_second pairs lasts complete o.name d = all_named o.name n link in
        let same : w.0 ≡ e = some_is w.0 e (sym w.1 ∙ found) in
        let fits : Like FitsLength (Meets x.structs (numbers u) w.0) (HasLayout u) o.of w.0.of = w.2.fits u x k o it refl in
        let first : (x0 : Extent) × (layout x.structs a ≡ Some x0) =
        element_there x.structs a l (subst (HasElements x.structs) is ((linked.types u x at).elements k o there external)) in (
          subst (λ z. HasElements ps z.of) same w.2.held,
          subst (λ z. (b : CType) × (i : Option ℕ) × (z.of ≡ array b i) × (layout ps b ≡ layout x.structs a)) same
              (array_of (Meets x.structs (numbers u) w.0) o.of w.0.of a l is fits
              (λ z. layout_kept u x a first.0 at first.1 ∙ sym first.1)),
        )
      where
        element_is : (c a : CType) (n l : Option ℕ) → array c n ≡ array a l → c ≡ a
        element_is c a n l e = cc

        array_of : (S : ℕ → ℕ → Type 0) (t z a : CType) (l : Option ℕ) → t ≡ array a l → Like FitsLength S (HasLayout u) t z
            → (Unit {0} → layout ps (renamed_type (numbers u) a) ≡ layout x.structs a)
            → (b : CType) × (i : Option ℕ) × (z ≡ array b i) × (layout ps b ≡ layout x.structs a)
        array_of S t z a l is (like_array c d n i f e) same =
            let element : c ≡ a = element_is c a n l is in
            (d, i, refl, e.there ∙ sym e.own ∙ ap (λ q. layout ps (renamed_type (numbers u) q)) element ∙ same tt)
        array_of S t z a l is like_void same = absurd (cc)
        array_of S t z a l is (like_integer q) same = absurd (cc)
        array_of S t z a l is (like_floating q) same = absurd (cc)
        array_of S t z a l is (like_pointer c d) same = absurd (cc)
        array_of S t z a l is (like_struct q i f) same = absurd (cc)
        array_of S t z a l is (like_function c d) same = absurd (cc)

    own_stands : is_external o.linkage ≡ false → StandsFor x ns.structs u o (all_joined m.numbers xs).1 n
    own_stands e =
        let w : HasOwnEntry (all_joined m.numbers xs).1 n (object_entry x.structs ns.structs u o) =
        others_stay_apart m.numbers xs u x ns k o n at told there number e kept in
        record {
          entry = object_entry x.structs ns.structs u o;
          there = w.at;
          name = refl;
          named = like_named (λ a b. b ≡ number_in ns.structs a) (λ a b. Unit {0}) (lacks_layout x.structs) ns.structs o.of
              (renamed_type ns.structs o.of) (λ a b a_is h. inr h)
              (self_keeps (λ a b. b ≡ number_in ns.structs a) (λ a b. Unit {0}) ns.structs (λ a. refl) o.of (λ a n e. tt));
          lasting = λ h. h;
          own = λ f. refl;
        }

    stands : StandsFor x ns.structs u o (all_joined m.numbers xs).1 n
    stands = by (is_external o.linkage) refl
      where
        by : (b : Bool) → is_external o.linkage ≡ b → StandsFor x ns.structs u o (all_joined m.numbers xs).1 n
        by true e = external_stands e
        by false e = own_stands e

  -- ---- functions

  both_true : (a b : Bool) → a ≡ true → b ≡ true → (a && b) ≡ true
  both_true true true h g = refl
  both_true true false h g = g
  both_true false b h g = h

  once : (u v : ℕ) (x y : CheckedUnit) (i k : ℕ) (f g : TypedFunction) → functions.IsExternal xs u x i f
      → functions.IsExternal xs v y k g → f.name ≡ g.name → is_some f.body ≡ true → is_some g.body ≡ true
      → (u ≡ v) × (f ≡ g)
  once u v x y i k f g a b same s t = by (order u v)
    where
      d : There (unit_declared u x) (function_declared u f)
      d = function_in_unit u x i f a.function a.external

      e : There (unit_declared v y) (function_declared v g)
      e = function_in_unit v y k g b.function b.external

      by : (u < v) ⊎ ((v < u) ⊎ (u ≡ v)) → (u ≡ v) × (f ≡ g)
      by (inl low) =
          let w : InOrder (declarations xs) (function_declared u f) (function_declared v g) =
          in_order xs 0 u v u v x y (function_declared u f) (function_declared v g) low (omega arith) (omega arith) a.unit b.unit d e in
          absurd (((agreement_is_harmony xs).0 linked.agree w.first w.second (function_declared u f) (function_declared v g) w.before w.first_is w.second_is same).1
          (both_true (is_some f.body) (is_some g.body) s t))
      by (inr (inl low)) =
          let w : InOrder (declarations xs) (function_declared v g) (function_declared u f) =
          in_order xs 0 v u v u y x (function_declared v g) (function_declared u f) low (omega arith) (omega arith) b.unit a.unit e d in
          absurd (((agreement_is_harmony xs).0 linked.agree w.first w.second (function_declared v g) (function_declared u f) w.before w.first_is w.second_is (sym same)).1
          (both_true (is_some g.body) (is_some f.body) t s))
      by (inr (inr one)) =
          let units : x ≡ y = some_is x y (sym a.unit ∙ ap (slice_get xs) one ∙ b.unit) in
          let there : slice_get x.functions k ≡ Some g = subst (λ z. slice_get z.functions k ≡ Some g) (sym units) b.function in
          let place : i ≡ k = (linked.names u x a.unit).functions i k f g a.function there same in
          (one, some_is f g (sym a.function ∙ ap (slice_get x.functions) place ∙ there))

  none_functions : functions.AreNamed xs m.numbers once nothing_joined
  none_functions name n l = absurd (cc)

  module _ (u : ℕ) (x : CheckedUnit) (ns : Numbers) (k : ℕ) (f : TypedFunction) (n : ℕ)
      (at : slice_get xs u ≡ Some x) (told : slice_get (all_joined m.numbers xs).0 u ≡ Some ns)
      (there : slice_get x.functions k ≡ Some f) (number : slice_get ns.functions k ≡ Some n) where
    numbers_are : ns.structs ≡ numbers u
    numbers_are = structs_are u x ns at told

    external_function : is_external f.linkage ≡ true → FunctionStandsFor x ns.structs u f (all_joined m.numbers xs).1 n
    external_function e =
        let it : functions.IsExternal xs u x k f = record { unit = at; function = there; external = e } in
        let plain : (v : ℕ) (y : CheckedUnit) (i : ℕ) (q : TypedObject) → slice_get xs v ≡ Some y → slice_get y.objects i ≡ Some q → is_function q.of ≡ false =
        λ v y i q. λ a b. (linked.types v y a).plain i q b in
        let link : entry (all_joined m.numbers xs).1.links f.name ≡ Some (Function n) =
        names_have_one_function m.numbers xs linked.agree plain u x ns k f n at told there number e in
        let w : (d : FunctionEntry) × (slice_get (all_joined m.numbers xs).1.functions n ≡ Some d) × (d.source.name ≡ f.name) =
        functions.units_named xs m.numbers once xs ([], nothing_joined) in_place none_functions f.name n link in
        let t : functions.HasTold xs m.numbers once u x f (all_joined m.numbers xs).1 =
        functions.units_told xs m.numbers once xs ([], nothing_joined) in_place none_functions u u x (omega arith) at k f it in
        let is : is_some f.body ≡ true → functions.IsTold xs m.numbers once u x f w.0 =
        t.told n w.0 (some_is t.entity (Function n) (sym t.link ∙ link)) w.1 in
        record {
          entry = w.0;
          there = w.1;
          name = w.2;
          own = λ f. absurd (true≢false (sym e ∙ f));
          source = λ b. (is b).source;
          unit = λ b. (is b).unit;
          result = λ b. subst (λ ss. Refines (lacks_layout x.structs) (number_in ss) (result_of f.of) (result_of w.0.of))
              (sym numbers_are) (is b).result;
        }

    own_function : is_external f.linkage ≡ false → FunctionStandsFor x ns.structs u f (all_joined m.numbers xs).1 n
    own_function e =
        let w : HasOwnFunction (all_joined m.numbers xs).1 n (function_entry ns.structs u f) =
        static_functions_stay_apart m.numbers xs u x ns k f n at told there number e in
        record {
          entry = function_entry ns.structs u f;
          there = w.at;
          name = refl;
          own = λ f. refl;
          source = λ b. refl;
          unit = λ b. refl;
          result = λ b. subst (Refines (lacks_layout x.structs) (number_in ns.structs) (result_of f.of))
              (sym (functions.renamed_result ns.structs f.of)) (refines_self (lacks_layout x.structs) ns.structs (result_of f.of));
        }

    function_stands : FunctionStandsFor x ns.structs u f (all_joined m.numbers xs).1 n
    function_stands = by (is_external f.linkage) refl
      where
        by : (b : Bool) → is_external f.linkage ≡ b → FunctionStandsFor x ns.structs u f (all_joined m.numbers xs).1 n
        by true e = external_function e
        by false e = own_function e

pub objects_stand : StructsAreNumbered → JoinedAreOne → StructsAreThere → LinkedObjectsStand
objects_stand numbered joined are_there xs m linked u x ns k o n of_unit told number =
    stands xs m linked numbered joined are_there u x ns k o n of_unit.unit told of_unit.object number of_unit.kept

pub functions_stand : StructsAreNumbered → JoinedAreOne → StructsAreThere → LinkedFunctionsStand
functions_stand numbered joined are_there xs m linked u x ns k f n at told there number =
    function_stands xs m linked numbered joined are_there u x ns k f n at told there number

pub own_objects_apart : OwnObjectsAreApart
own_objects_apart sss xs u v x y ns ms i k o p n a b s t told further number other =
    own_apart xs sss u v i k n
    (record { unit = x; numbers = ns; there = a.unit; told = told; number = number; own = record { object = o; there = a.object; private = s; kept = a.kept } })
    (record { unit = y; numbers = ms; there = b.unit; told = further; number = other; own = record { object = p; there = b.object; private = t; kept = b.kept } })

pub arrays_complete : StructsAreNumbered → JoinedAreOne → StructsAreThere → LinkedArraysAreComplete
arrays_complete numbered joined are_there xs m linked u x ns k o n e of_unit external told number found a l is =
    array_stands xs m linked numbered joined are_there u x ns k o n of_unit.unit told of_unit.object number of_unit.kept external e found a l is
