-- What stands in the regions of lvalues, of formals and of results: elements of their types, or bytes.
use Rattle.std.proofs.Common.{◌≡◌, ◌⊎◌, inl, inr, ℕ, Bool, true, false, cond, not, nat_eq, ◌&&◌, [], ◌∷◌, Option, Some, None, is_some, refl, sym, ap, ◌∙◌, subst, eqb-true}
use Rattle.std.specs.Prelude.{slice_get, unwrap_or, ⊤}
use Rattle.std.proofs.lemmas.Bool.{false≢true, or_cases}
use Rattle.sp_types.specs.Types.{CType, void, integer, floating, pointer, array, structure, function}
use Rattle.sp_ir.specs.declared.region.Step.TheVariants.{Field}
use Rattle.sp_ir.specs.Regions.{Region, child_at}
use Rattle.sp_ir.specs.Commands.{Lvalue, direct, through, field, lvalue_type}
use Rattle.sp_ir.specs.Terrain.{Terrain, terrain_of, matches, element_accepts, region_accepts, is_bytes}
use Rattle.sp_ir.specs.Denoted.{PointsTo, cells_of, member_region}
use Rattle.sp_ir.specs.Programs.{Lowered, Object}
use Rattle.sp_ir.specs.Formed.{table_of, IsFormed, IsLvalue, is_pointer}
use Rattle.sp_base_sets.specs.Sets.{has}
use Rattle.sp_base_sets.proofs.Members.{eqb-refl}
use Rattle.sp_base_region_laws.specs.Parts.{Holds, HasPart}
use Rattle.sp_base_region_laws.specs.Laws.{Alike, StandsFor, Stands, HasRoot}
use Rattle.sp_base_region_laws.proofs.Members.{some_same}
use Rattle.sp_base_region_laws.proofs.Lvalues.{region_laws}
use Rattle.sp_points_rules.specs.Paths.{pointer_element, elements_pair, regions_pair, pairs}
use Rattle.sp_effect_assign.specs.Destinations.{bottom_regions, bottom_accepts, region_under}
use Rattle.sp_effect_scene.proofs.Closed.{under-cells}

-- ---- elements

-- elements of the type, or of one that an access of it matches; or bytes
abbrev pub FitsIn : Option CType → CType → Type 0
FitsIn None t = ⊤
FitsIn (Some e) t = (e ≡ t) ⊎ (matches e t ≡ true)

-- the region is there, and fits
pub record HasFit (p : Lowered) (r : ℕ) (t : CType) : Type 0 where
  pub region : Region
  pub there : slice_get p.regions r ≡ Some region
  pub fits : FitsIn region.element t

held-fits : (of : Option CType) (t : CType) → Holds of t → FitsIn of t
held-fits None t h = tt
held-fits (Some e) t h = inl h

accepted-fits : (of : Option CType) (t : CType) → element_accepts of t ≡ true → FitsIn of t
accepted-fits None t h = tt
accepted-fits (Some e) t h = inr h

-- where a pointer is accepted, pointers are held
pointer-matched : (e t : CType) → is_pointer t ≡ true → matches e t ≡ true → pointer_element true (Some e) ≡ true
pointer-matched (pointer v) t h g = refl
pointer-matched void t h g = absurd (false≢true g)
pointer-matched (integer k) void h g = absurd (false≢true h)
pointer-matched (integer k) (integer n) h g = absurd (false≢true h)
pointer-matched (integer k) (floating n) h g = absurd (false≢true h)
pointer-matched (integer k) (pointer v) h g = absurd (false≢true g)
pointer-matched (integer k) (array v n) h g = absurd (false≢true h)
pointer-matched (integer k) (structure n) h g = absurd (false≢true h)
pointer-matched (integer k) (function s) h g = absurd (false≢true h)
pointer-matched (floating k) t h g = absurd (false≢true g)
pointer-matched (array v n) void h g = absurd (false≢true h)
pointer-matched (array v n) (integer k) h g = absurd (false≢true h)
pointer-matched (array v n) (floating k) h g = absurd (false≢true h)
pointer-matched (array v n) (pointer w) h g = absurd (false≢true g)
pointer-matched (array v n) (array w m) h g = absurd (false≢true h)
pointer-matched (array v n) (structure m) h g = absurd (false≢true h)
pointer-matched (array v n) (function s) h g = absurd (false≢true h)
pointer-matched (structure n) void h g = absurd (false≢true h)
pointer-matched (structure n) (integer k) h g = absurd (false≢true h)
pointer-matched (structure n) (floating k) h g = absurd (false≢true h)
pointer-matched (structure n) (pointer w) h g = absurd (false≢true g)
pointer-matched (structure n) (array w m) h g = absurd (false≢true h)
pointer-matched (structure n) (structure m) h g = absurd (false≢true h)
pointer-matched (structure n) (function s) h g = absurd (false≢true h)
pointer-matched (function s) t h g = absurd (false≢true g)

a-pointer : (t : CType) → is_pointer t ≡ true → pointer_element true (Some t) ≡ true
a-pointer (pointer v) h = refl
a-pointer void h = absurd (false≢true h)
a-pointer (integer k) h = absurd (false≢true h)
a-pointer (floating k) h = absurd (false≢true h)
a-pointer (array v n) h = absurd (false≢true h)
a-pointer (structure n) h = absurd (false≢true h)
a-pointer (function s) h = absurd (false≢true h)

pub pointer-fits : (of : Option CType) (t : CType) → is_pointer t ≡ true → FitsIn of t → pointer_element true of ≡ true
pointer-fits None t h fits = refl
pointer-fits (Some e) t h (inl same) = a-pointer e (ap is_pointer same ∙ h)
pointer-fits (Some e) t h (inr g) = pointer-matched e t h g

-- ---- structs

-- the region is there, and has elements of this struct, or bytes
abbrev pub HoldsStruct : Option CType → ℕ → Type 0
HoldsStruct None n = ⊤
HoldsStruct (Some e) n = e ≡ structure n

pub record HasStruct (p : Lowered) (r n : ℕ) : Type 0 where
  pub region : Region
  pub there : slice_get p.regions r ≡ Some region
  pub holds : HoldsStruct region.element n

both-structs : (a b : Option CType) (n : ℕ) → HoldsStruct a n → HoldsStruct b n → elements_pair a b ≡ true
both-structs None b n h g = refl
both-structs (Some e) None n h g = refl
both-structs (Some e) (Some f) n h g = ap (λ t. matches t f) h ∙ ap (matches (structure n)) g ∙ eqb-refl n

pub struct-pairs : (p : Lowered) (q s n : ℕ) → HasStruct p q n → HasStruct p s n → pairs p q s ≡ true
struct-pairs p q s n x y =
    ap (λ o. regions_pair o (slice_get p.regions s)) x.there ∙ ap (regions_pair (Some x.region)) y.there
    ∙ both-structs x.region.element y.region.element n x.holds y.holds

stands-struct : (of : Option CType) (n : ℕ) → StandsFor of (structure n) → HoldsStruct of n
stands-struct None n h = tt
stands-struct (Some e) n h = h

held-struct : (of : Option CType) (n : ℕ) → Holds of (structure n) → HoldsStruct of n
held-struct None n h = tt
held-struct (Some e) n h = h

module _ (p : Lowered) (formed : IsFormed p) where
  abbrev g : Terrain
  g = terrain_of p

  -- wherever an lvalue of struct type may be
  pub lvalue-struct : (f : Option ℕ) (l : Lvalue) (n : ℕ) → IsLvalue (table_of p) f l → lvalue_type l ≡ structure n → (points : PointsTo) (r : ℕ) → has r (cells_of g points l) ≡ true → HasStruct p r n
  lvalue-struct f l n h is points r m =
      let x = subst (λ t. Stands p.regions r t) is ((region_laws p formed).lvalues f l h points r m) in
      record { region = x.region; there = x.there; holds = stands-struct x.region.element n x.stands }

  root-is : (o : ℕ) (object : Object) (x : HasRoot p o object) → g.root o ≡ x.root
  root-is o object x = ap (λ k. unwrap_or k 0) x.leads

  -- the root of an object of struct type
  pub root-struct : (o : ℕ) (object : Object) (n : ℕ) → slice_get p.objects o ≡ Some object → object.of ≡ Some (structure n) → HasStruct p (g.root o) n
  root-struct o object n at is =
      let x = (region_laws p formed).roots o object at in
      record {
        region = x.region;
        there = ap (λ r. slice_get p.regions r) (root-is o object x) ∙ x.there;
        holds = held-struct x.region.element n (x.holds (structure n) is);
      }

  -- ---- lvalues, by the bottom

  one-of : (x r : ℕ) → has r (x ∷ []) ≡ true → r ≡ x
  one-of x r h = by (or_cases (nat_eq r x) false h)
    where
      by : (nat_eq r x ≡ true) ⊎ (false ≡ true) → r ≡ x
      by (inl e) = eqb-true r x e
      by (inr k) = absurd (false≢true k)

  pub lvalue-fits : (f : Option ℕ) (l : Lvalue) → IsLvalue (table_of p) f l → (points : PointsTo) (r : ℕ) → has r (bottom_regions g points l) ≡ true → bottom_accepts g l r ≡ true → HasFit p (region_under g l r) (lvalue_type l)
  lvalue-fits f (direct o t) h points r m accepts =
      let x = (region_laws p formed).roots o h.object h.there in
      record {
        region = x.region;
        there = ap (λ k. slice_get p.regions k) (one-of (g.root o) r m ∙ root-is o h.object x) ∙ x.there;
        fits = held-fits x.region.element t (x.holds t h.of);
      }
  lvalue-fits f (through e t at) h points r m accepts = by (slice_get p.regions r) refl accepts
    where
      by : (o : Option Region) → slice_get p.regions r ≡ o → region_accepts o t ≡ true → HasFit p r t
      by None is k = absurd (false≢true k)
      by (Some x) is k = record { region = x; there = is; fits = accepted-fits x.element t k }
  lvalue-fits f (field l k t) h points r m accepts =
      let inside = under-cells g points l r m accepts in
      let x = (region_laws p formed).lvalues f l h.0 points (region_under g l r) inside in
      by (region_under g l r) x.region x.there x.region.element refl ((region_laws p formed).members f l k t h points (region_under g l r) inside x.region x.there)
    where
      by : (q : ℕ) (x : Region) → slice_get p.regions q ≡ Some x → (o : Option CType) → x.element ≡ o → (x.element ≡ None) ⊎ HasPart p.regions q (Field k) t → HasFit p (member_region g k q) t
      by q x there None e part =
          let bytes : is_bytes (slice_get p.regions q) ≡ true = ap is_bytes there ∙ ap (λ y. not (is_some y)) e in
          record {
            region = x;
            there = ap (λ b. slice_get p.regions (cond b q (g.member q k))) bytes ∙ there;
            fits = subst (λ y. FitsIn y t) (sym e) tt;
          }
      by q x there (Some v) e (inl none) = absurd (some-none (sym e ∙ none))
        where
          some-none : Some v ≡ None → ⊥
          some-none y = cc
      by q x there (Some v) e (inr part) =
          let elements : is_bytes (slice_get p.regions q) ≡ false = ap is_bytes there ∙ ap (λ y. not (is_some y)) e in
          record {
            region = part.region;
            there = ap (λ b. slice_get p.regions (cond b q (g.member q k))) elements ∙ ap (λ o. slice_get p.regions (unwrap_or o 0)) part.leads ∙ part.there;
            fits = held-fits part.region.element t part.holds;
          }
