-- The struct that members make is whole over the table in which they were read.
use Rattle.std.proofs.Common.{◌≡◌, ℕ, ◌≤◌, ◌<◌, ◌^◌, Bool, true, false, nat_le, if◌then◌else◌, List, [], ◌∷◌, Option, Some, None, refl, ap, sym, subst, ◌∙◌, arith}
use Rattle.std.proofs.lemmas.Int.{clamps}
use Rattle.std.proofs.lemmas.Bool.{leb-true}
use Rattle.std.specs.Prelude.{slice_get, All}
use Rattle.sp_tree.specs.declared.fault.Place.{Place}
use Rattle.sp_types.specs.Types.{CType, void, integer, floating, pointer, array, structure, function, Struct}
use Rattle.sp_types.specs.Layout.{extent, layout}
use Rattle.sp_types.specs.Structs.{IsWhole, IsAbove, IsFormed, held, height, height_of, level_above, with_member}
use Rattle.sp_types.specs.Structs as structs
use Rattle.sp_types.specs.declared.extents.Extent.{Extent}
use Rattle.sp_check_members.specs.Members.{fitting, closed, next_extent, members_extent, head_of, with_members}
use Rattle.sp_check_formed_laws.proofs.Lists.{some_is, none_some, Each, each_behind, nil_all, cons_all}
use Rattle.sp_check_formed_laws.proofs.After.{Gives, gives, gives_then, gives_met, gives_given, gives_more}

-- ---- levels

above_of : (ss : List Struct) (n : ℕ) (t : CType) → height ss t < n → IsAbove ss n (held t)
above_of ss n void h = tt
above_of ss n (integer k) h = tt
above_of ss n (floating k) h = tt
above_of ss n (pointer t) h = tt
above_of ss n (array t m) h = above_of ss n t h
above_of ss n (structure k) h = λ s at. subst (λ o. height_of o < n) at h
above_of ss n (function s) h = tt

all_above : (ss : List Struct) (n : ℕ) (ms : List (ℕ × CType)) → level_above ss ms ≤ n → Each (λ m. IsFormed ss m.1) ms → All (λ m. IsFormed ss m.1 × IsAbove ss n (held m.1)) ms
all_above ss n [] h formed = nil_all (λ m. IsFormed ss m.1 × IsAbove ss n (held m.1))
all_above ss n (m ∷ ms) h formed =
    cons_all (λ m. IsFormed ss m.1 × IsAbove ss n (held m.1)) m ms (formed 0 m refl, above_of ss n m.1 (omega (arith, clamps, h)))
    (all_above ss n ms (omega (arith, clamps, h)) (each_behind (λ m. IsFormed ss m.1) m ms formed))

-- ---- sizes

fitting_is : (e w : Extent) → fitting e ≡ Some w → (e ≡ w) × (w.size ≤ 2 ^ 40)
fitting_is e w h = by (nat_le e.size (2 ^ 40)) refl h
  where
    by : (b : Bool) → nat_le e.size (2 ^ 40) ≡ b → (if b then Some e else None) ≡ Some w → (e ≡ w) × (w.size ≤ 2 ^ 40)
    by true g h = (some_is e w h, subst (λ x. x.size ≤ 2 ^ 40) (some_is e w h) (leb-true e.size (2 ^ 40) g))
    by false g h = absurd (none_some w h)

module _ (ss : List Struct) (union : Bool) (p : Place) where
  abbrev Next : Extent → CType → Extent → Type 0
  Next whole t w = (e : Extent) × (layout ss t ≡ Some e) × (with_member union whole e ≡ w)

  next_is : (whole : Extent) (t : CType) → Gives (Next whole t) (next_extent ss union p whole t)
  next_is whole t =
      gives_given _ _ (λ e h. gives_given _ _ (λ w g. gives (e, h, (fitting_is (with_member union whole e) w g).0)))

  abbrev Measured : Extent → List (ℕ × CType) → Extent → Type 0
  Measured whole ms e = (structs.with_members ss union whole ms ≡ Some e) × (e.size ≤ 2 ^ 40)

  extents_are : (whole : Extent) (ms : List (ℕ × CType)) → Gives (Measured whole ms) (members_extent ss union p whole ms)
  extents_are whole [] =
      gives_given _ _ (λ e g. gives (ap (λ x. Some x) (fitting_is (closed whole) e g).0, (fitting_is (closed whole) e g).1))
  extents_are whole (m ∷ ms) =
      gives_then (next_is whole m.1) (λ w n. gives_more (more w n) (extents_are w ms))
    where
      more : (w : Extent) → Next whole m.1 w → (e : Extent) → Measured w ms e → Measured whole (m ∷ ms) e
      more w n e h = (
        ap (λ (o : Option Extent). elim o [ None ↦ None | Some x ↦ structs.with_members ss union (with_member union whole x) ms ]) n.1
            ∙ ap (λ x. structs.with_members ss union x ms) n.2 ∙ h.0,
        h.1,
      )

-- ---- the struct

pub record IsMade (ss : List Struct) (ms : List (ℕ × CType)) (s : Struct) : Type 0 where
  pub members : s.members ≡ Some ms
  pub whole : IsWhole ss s (Some ms)

pub struct_made : (ss : List Struct) (k : ℕ) (union : Bool) (p : Place) (ms : List (ℕ × CType)) (b : Struct) → slice_get ss k ≡ Some b → b.union ≡ union
    → Each (λ m. IsFormed ss m.1) ms → Gives (IsMade ss ms) (with_members ss k union p ms)
struct_made ss k union p ms b at same formed =
    gives_given _ _ (λ h e. gives_then (extents_are ss union p (extent 0 1) ms) (λ w g. gives_met _ _ (λ few. gives (made h e w g))))
  where
    made : (h : Option ℕ × Bool) → head_of (slice_get ss k) ≡ Some h → (w : Extent) → Measured ss union p (extent 0 1) ms w
        → IsMade ss ms (record { tag = h.0; union = h.1; members = Some ms; extent = Some w; level = level_above ss ms; leaves = structs.leaves_of_members ss union ms; cells = structs.cells_of_members ss union ms })
    made h e w g =
        let flag : h.1 ≡ union = ap (λ x. x.1) (some_is h (b.tag, b.union) (sym e ∙ ap head_of at)) ∙ same in
        let flags : union ≡ h.1 = sym flag in record {
          members = refl;
          whole = (
            all_above ss (level_above ss ms) ms (omega arith) formed,
            (w, refl, ap (λ f. structs.with_members ss f (extent 0 1) ms) flag ∙ g.0, g.1),
            refl,
            ap (λ f. structs.leaves_of_members ss f ms) flags,
            ap (λ f. structs.cells_of_members ss f ms) flags,
          );
        }
