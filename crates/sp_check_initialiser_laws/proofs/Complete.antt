-- Complete types with their shapes, and the complete types that they are made of (C90 6.1.2.5).
use Rattle.std.proofs.Common.{ap, sym, true≢false, ◌≡◌, ◌⊎◌, inl, inr, ℕ, ◌^◌, ◌≤◌, Bool, true, false, List, [], ◌∷◌, Option, Some, None, refl, subst, ◌∙◌, arith}
use Rattle.std.specs.Prelude.{slice_get, All, ⊤}
use Rattle.sp_types.specs.declared.extents.Extent.{Extent}
use Rattle.sp_types.specs.Types.{CType, array, structure, Struct}
use Rattle.sp_types.specs.Layout.{extent, layout}
use Rattle.sp_types.specs.Structs.{IsTable, IsWhole, IsFormed, leaves, aligned, with_member, with_members}
use Rattle.sp_ir.specs.Shapes.{Shape, Shapes, union_of, array_of, struct_of, no_shapes, next_shape, HasShape, HaveShapes, has_array, has_struct, has_union, have_none, have_next, leaf_count}
use Rattle.sp_ir.specs.Terrain.{size_of}
use Rattle.sp_base_layouts.specs.Layouts.{layout_of}
use Rattle.sp_base_layout_laws.proofs.Shaped.{is-shaped, repeated-some}
use Rattle.sp_check_formed_laws.proofs.Lists.{none_some, some_is, head_all, tail_all}
use Rattle.sp_check_formed_laws.proofs.Longer.{type_longer}
use Rattle.sp_check_formed_laws.proofs.Stays.{Stays, type_stays, member_some}
use Rattle.sp_check_expr_laws.specs.Sound.{HasExtent, IsSound, AreSoundIn, AreSoundMembers}
use Rattle.sp_check_expr_laws.proofs.Types.{IsSoundTable, IsLaid, type_laid}
use Rattle.sp_check_expr_laws.proofs.Shapes.{shape_stays}
use Rattle.sp_check_initialiser_laws.proofs.Counts.{IsCounted, counted, HasMembers, has_members}

pub record IsWholeType (ss : List Struct) (t : CType) (s : Shape) : Type 0 where
  pub shaped : HasShape ss (size_of ss) t s
  pub formed : IsFormed ss t
  pub sound : IsSound t
  pub extent : Extent
  pub laid : layout ss t ≡ Some extent

abbrev pub AreWholeTypes : List Struct → List (ℕ × CType) → Shapes → Type 0
AreWholeTypes ss [] no_shapes = ⊤
AreWholeTypes ss (m ∷ ms) (next_shape s more) = IsWholeType ss m.1 s × AreWholeTypes ss ms more
AreWholeTypes ss ms _ = ⊥

-- ---- how many leaves

module _ (ss : List Struct) (k : IsSoundTable ss) (t : CType) (s : Shape)
    (h : IsWholeType ss t s) where
  pub leaves_counted : IsCounted (leaves ss t) (leaf_count s) h.extent.size
  leaves_counted = counted ss k t s h.extent h.shaped h.formed h.laid

  pub leaves_told : leaves ss t ≡ leaf_count s
  leaves_told = leaves_counted.same

  pub leaves_some : 1 ≤ leaf_count s
  leaves_some = leaves_counted.some

  pub leaves_low : leaf_count s ≤ 2 ^ 40
  leaves_low =
      let l : IsLaid h.extent = type_laid ss k t h.extent h.formed h.laid in
      omega (arith, leaves_counted.low, l.2)

-- ---- arrays

pub record HasElements (ss : List Struct) (t : CType) (n : Option ℕ) (s : Shape) : Type 0 where
  pub inner : Shape
  pub count : ℕ
  pub told : n ≡ Some count
  pub some : 1 ≤ count
  pub whole : IsWholeType ss t inner
  pub is : s ≡ array_of (array t n) (size_of ss (array t n)) inner count

pub elements_of : (ss : List Struct) (t : CType) (n : Option ℕ) (s : Shape)
    → IsWholeType ss (array t n) s → HasElements ss t n s
elements_of ss t None s h = elim h.shaped [ ]
elements_of ss t (Some n) s h = by s h.shaped
  where
    by : (s : Shape) → HasShape ss (size_of ss) (array t (Some n)) s
        → HasElements ss t (Some n) s
    by s (has_array {s = inner} x) =
        let e : (e : Extent) × (layout ss t ≡ Some e) =
        repeated-some n (layout ss t) h.extent h.laid in
        record {
          inner = inner;
          count = n;
          told = refl;
          some = h.formed.1;
          whole = record {
            shaped = x;
            formed = h.formed.0;
            sound = h.sound;
            extent = e.0;
            laid = e.1;
          };
          is = refl;
        }

-- ---- structs and unions

pub record HasFields (ss : List Struct) (j : ℕ) (s : Shape) : Type 0 where
  pub struct : Struct
  pub there : slice_get ss j ≡ Some struct
  pub kind : struct.union ≡ false
  pub members : List (ℕ × CType)
  pub known : struct.members ≡ Some members
  pub inner : Shapes
  pub whole : AreWholeTypes ss members inner
  pub is : s ≡ struct_of (structure j) (size_of ss (structure j)) inner

pub record HasFirst (ss : List Struct) (j : ℕ) (s : Shape) : Type 0 where
  pub struct : Struct
  pub there : slice_get ss j ≡ Some struct
  pub kind : struct.union ≡ true
  pub first : ℕ × CType
  pub rest : List (ℕ × CType)
  pub known : struct.members ≡ Some (first ∷ rest)
  pub inner : Shape
  pub whole : IsWholeType ss first.1 inner
  pub is : s ≡ union_of (size_of ss (structure j)) inner

members_whole : (ss : List Struct) (union : Bool) (from e : Extent) (ms : List (ℕ × CType))
    (inner : Shapes) → HaveShapes ss (size_of ss) ms inner → All (λ m. IsFormed ss m.1) ms
    → AreSoundIn ms → with_members ss union from ms ≡ Some e → AreWholeTypes ss ms inner
members_whole ss union from e [] inner have_none f sound p = tt
members_whole ss union from e (m ∷ ms) inner (have_next {s = s} {ss = rest} h g) f sound p =
    let x = member_some ss union from ms (layout ss m.1) e p in (
      record {
        shaped = h;
        formed = head_all (λ m. IsFormed ss m.1) m ms f;
        sound = sound.0;
        extent = x.0;
        laid = x.1;
      },
      members_whole ss union (with_member union from x.0) e ms rest g
          (tail_all (λ m. IsFormed ss m.1) m ms f) sound.1 x.2,
    )

-- the first member has a layout
first_laid : (ss : List Struct) (m : ℕ × CType) (ms : List (ℕ × CType)) (e : Extent)
    → with_members ss true (extent 0 1) (m ∷ ms) ≡ Some e
    → (f : Extent) × (layout ss m.1 ≡ Some f)
first_laid ss m ms e p =
    let x = member_some ss true (extent 0 1) ms (layout ss m.1) e p in (x.0, x.1)

pub members_of_struct : (ss : List Struct) (k : IsSoundTable ss) (j : ℕ) (s : Shape)
    → IsWholeType ss (structure j) s → HasFields ss j s ⊎ HasFirst ss j s
members_of_struct ss k j s h = by s h.shaped
  where
    by : (s : Shape) → HasShape ss (size_of ss) (structure j) s
        → HasFields ss j s ⊎ HasFirst ss j s
    by s (has_struct {d = d} {members = ms} {ms = inner} at kind known x) =
        let m : HasMembers ss false ms (leaves ss (structure j)) h.extent =
        has_members ss k j d false ms h.extent at kind known h.laid in
        let sound : AreSoundIn ms = subst AreSoundMembers known (k.structs j d at).1 in
        inl (record {
          struct = d;
          there = at;
          kind = kind;
          members = ms;
          known = known;
          inner = inner;
          whole = members_whole ss false (extent 0 1) h.extent ms inner x m.formed sound m.laid;
          is = refl;
        })
    by s (has_union {d = d} {first = m} {rest = ms} {s = inner} at kind known x) =
        let w : HasMembers ss true (m ∷ ms) (leaves ss (structure j)) h.extent =
        has_members ss k j d true (m ∷ ms) h.extent at kind known h.laid in
        let sound : AreSoundIn (m ∷ ms) = subst AreSoundMembers known (k.structs j d at).1 in
        let e : (f : Extent) × (layout ss m.1 ≡ Some f) = first_laid ss m ms h.extent w.laid in
        inr (record {
          struct = d;
          there = at;
          kind = kind;
          first = m;
          rest = ms;
          known = known;
          inner = inner;
          whole = record {
            shaped = x;
            formed = head_all (λ m. IsFormed ss m.1) m ms w.formed;
            sound = sound.0;
            extent = e.0;
            laid = e.1;
          };
          is = refl;
        })

-- ---- what is complete stays so

module _ (ss rs : List Struct) (table : IsTable ss) (stays : Stays ss rs) where
  pub whole_stays : (t : CType) (s : Shape) → IsWholeType ss t s → IsWholeType rs t s
  whole_stays t s h = record {
    shaped = shape_stays ss rs table stays t s h.shaped;
    formed = type_longer ss rs stays.longer t h.formed;
    sound = h.sound;
    extent = h.extent;
    laid = (type_stays ss rs stays t h.extent h.laid).layouts ∙ h.laid;
  }

  pub all_whole_stay : (ms : List (ℕ × CType)) (inner : Shapes) → AreWholeTypes ss ms inner
      → AreWholeTypes rs ms inner
  all_whole_stay [] no_shapes h = tt
  all_whole_stay (m ∷ ms) (next_shape s more) h =
      (whole_stays m.1 s h.0, all_whole_stay ms more h.1)
  all_whole_stay [] (next_shape s more) h = absurd h
  all_whole_stay (m ∷ ms) no_shapes h = absurd h

-- ---- what has a layout is complete

-- a struct without a member has no size
pub member_less : (ss : List Struct) (s : Struct) (o : Option (List (ℕ × CType))) → IsWhole ss s o
    → HasExtent s.extent → o ≡ Some [] → ⊥
member_less ss s None w h e = none_some [] e
member_less ss s (Some (m ∷ ms)) w h e = absurd (true≢false (ap (λ o. is_nil o) (sym e)))
  where
    is_nil : Option (List (ℕ × CType)) → Bool
    is_nil None = false
    is_nil (Some []) = true
    is_nil (Some (m ∷ ms)) = false
member_less ss s (Some []) w h e =
    let size : extent (aligned 0 1) 1 ≡ w.1.0 = some_is (extent (aligned 0 1) 1) w.1.0 w.1.2 in
    let big : 1 ≤ w.1.0.size = (subst HasExtent w.1.1 h).0 in
    let none : 0 ≡ w.1.0.size = ap (λ e. e.size) size in
    omega (arith, big, none)

pub whole_type : (ss : List Struct) (k : IsSoundTable ss) (t : CType) (e : Extent)
    → IsFormed ss t → IsSound t → layout ss t ≡ Some e → IsWholeType ss t (layout_of ss t)
whole_type ss k t e f sound p = record {
  shaped = is-shaped ss t k.table
      (λ j s at. member_less ss s s.members (k.table j s at) (k.structs j s at).0) e p;
  formed = f;
  sound = sound;
  extent = e;
  laid = p;
}
