-- Wherever an lvalue of a formed program may be, there is a region, and each step from there leads to one.
use Rattle.std.proofs.Common.{◌≡◌, ◌⊎◌, inl, inr, ℕ, Bool, true, false, cond, not, List, [], ◌∷◌, map, filter, Option, Some, None, is_some, refl, sym, ap, ◌∙◌, subst, nat_eq, eqb-true}
use Rattle.std.specs.Prelude.{slice_get, unwrap_or}
use Rattle.std.proofs.lemmas.Bool.{false≢true}
use Rattle.sp_types.specs.Types.{CType, void, integer, floating, pointer, array, structure, function}
use Rattle.sp_ir.specs.declared.region.Step.{Step}
use Rattle.sp_ir.specs.declared.region.Step.TheVariants.{Field, Element}
use Rattle.sp_ir.specs.Regions.{Region, child_at}
use Rattle.sp_ir.specs.Commands.{Lvalue, direct, through, field, lvalue_type}
use Rattle.sp_ir.specs.Terrain.{Terrain, terrain_of, matches, element_accepts, region_accepts, is_bytes}
use Rattle.sp_ir.specs.Denoted.{PointsTo, regions_of, cells_of, member_region}
use Rattle.sp_ir.specs.Programs.{Lowered}
use Rattle.sp_ir.specs.Formed.{table_of, IsFormed, IsLvalue, IsMember, is_array, is_floating}
use Rattle.sp_base_sets.specs.Sets.{has}
use Rattle.sp_base_sets.proofs.Images.{or-cases, or-left, or-right}
use Rattle.sp_base_sets.proofs.Members.{eqb-refl}
use Rattle.sp_base_region_laws.specs.Parts.{part_type, has_region, Holds, HasPart}
use Rattle.sp_base_region_laws.specs.Laws.{Alike, StandsFor, Stands, RegionLaws}
use Rattle.sp_base_region_laws.proofs.Members.{some_same}
use Rattle.sp_base_region_laws.proofs.Typing.{member-is}
use Rattle.sp_base_region_laws.proofs.AllRegions.{root-there, part-there}

-- ---- members of lists

has-first : (y : ℕ) (ys : List ℕ) → has y (y ∷ ys) ≡ true
has-first y ys = or-left (nat_eq y y) (has y ys) (eqb-refl y)

of-map : (f : ℕ → ℕ) (xs : List ℕ) (r : ℕ) → has r (map f xs) ≡ true → (x : ℕ) × (has x xs ≡ true) × (r ≡ f x)
of-map f [] r h = absurd (false≢true h)
of-map f (x ∷ xs) r h = by (or-cases (nat_eq r (f x)) (has r (map f xs)) h) (λ g. of-map f xs r g)
  where
    by : (nat_eq r (f x) ≡ true) ⊎ (has r (map f xs) ≡ true) → (has r (map f xs) ≡ true → (y : ℕ) × (has y xs ≡ true) × (r ≡ f y)) → (y : ℕ) × (has y (x ∷ xs) ≡ true) × (r ≡ f y)
    by (inl e) rest = (x, has-first x xs, eqb-true r (f x) e)
    by (inr g) rest = let one = rest g in (one.0, or-right (nat_eq one.0 x) (has one.0 xs) one.1, one.2)

of-filter : (f : ℕ → Bool) (xs : List ℕ) (r : ℕ) → has r (filter f xs) ≡ true → f r ≡ true
of-filter f [] r h = absurd (false≢true h)
of-filter f (x ∷ xs) r h = by (f x) refl h (λ g. of-filter f xs r g)
  where
    at : f x ≡ true → (has r (filter f xs) ≡ true → f r ≡ true) → (nat_eq r x ≡ true) ⊎ (has r (filter f xs) ≡ true) → f r ≡ true
    at e rest (inl is) = subst (λ y. f y ≡ true) (sym (eqb-true r x is)) e
    at e rest (inr k) = rest k

    by : (b : Bool) → f x ≡ b → has r (cond b (x ∷ filter f xs) (filter f xs)) ≡ true → (has r (filter f xs) ≡ true → f r ≡ true) → f r ≡ true
    by true e g rest = at e rest (or-cases (nat_eq r x) (has r (filter f xs)) g)
    by false e g rest = rest g

of-one : (x r : ℕ) → has r (x ∷ []) ≡ true → r ≡ x
of-one x r h = by (or-cases (nat_eq r x) false h)
  where
    by : (nat_eq r x ≡ true) ⊎ (false ≡ true) → r ≡ x
    by (inl e) = eqb-true r x e
    by (inr g) = absurd (false≢true g)

-- ---- types

alike-self : (t : CType) → Alike t t
alike-self void = tt
alike-self (integer k) = tt
alike-self (floating k) = tt
alike-self (pointer t) = tt
alike-self (array t n) = refl
alike-self (structure n) = refl
alike-self (function s) = tt

alike-match : (u t : CType) → matches u t ≡ true → Alike t u
alike-match u void h = tt
alike-match u (integer k) h = tt
alike-match u (floating k) h = tt
alike-match u (pointer t) h = tt
alike-match u (function s) h = tt
alike-match void (array t n) h = absurd (false≢true h)
alike-match (integer k) (array t n) h = absurd (false≢true h)
alike-match (floating k) (array t n) h = absurd (false≢true h)
alike-match (pointer v) (array t n) h = absurd (false≢true h)
alike-match (array v m) (array t n) h = refl
alike-match (structure k) (array t n) h = absurd (false≢true h)
alike-match (function s) (array t n) h = absurd (false≢true h)
alike-match void (structure n) h = absurd (false≢true h)
alike-match (integer k) (structure n) h = absurd (false≢true h)
alike-match (floating k) (structure n) h = absurd (false≢true h)
alike-match (pointer v) (structure n) h = absurd (false≢true h)
alike-match (array v m) (structure n) h = absurd (false≢true h)
alike-match (structure k) (structure n) h = ap structure (eqb-true k n h)
alike-match (function s) (structure n) h = absurd (false≢true h)

held-stands : (of : Option CType) (t : CType) → Holds of t → StandsFor of t
held-stands None t h = tt
held-stands (Some u) t h = subst (Alike t) (sym h) (alike-self t)

accepted-stands : (of : Option CType) (t : CType) → element_accepts of t ≡ true → StandsFor of t
accepted-stands None t h = tt
accepted-stands (Some u) t h = alike-match u t h

not-floating : (k : ℕ) (t : CType) → is_floating t ≡ false → has_region (Field k) t ≡ true
not-floating k void h = refl
not-floating k (integer i) h = refl
not-floating k (floating f) h = absurd (false≢true (sym h))
not-floating k (pointer t) h = refl
not-floating k (array t n) h = refl
not-floating k (structure n) h = refl
not-floating k (function s) h = refl

-- elements that are arrays
pub record HoldsArray (of : Option CType) : Type 0 where
  pub inner : CType
  pub long : Option ℕ
  pub is : of ≡ Some (array inner long)

an-array : (u : CType) → is_array u ≡ true → HoldsArray (Some u)
an-array void h = absurd (false≢true h)
an-array (integer k) h = absurd (false≢true h)
an-array (floating k) h = absurd (false≢true h)
an-array (pointer t) h = absurd (false≢true h)
an-array (array v m) h = record { inner = v; long = m; is = refl }
an-array (structure n) h = absurd (false≢true h)
an-array (function s) h = absurd (false≢true h)

of-arrays : (t : CType) (e : Option CType) → is_array t ≡ true → StandsFor e t → (e ≡ None) ⊎ HoldsArray e
of-arrays t None h s = inl refl
of-arrays void (Some u) h s = absurd (false≢true h)
of-arrays (integer k) (Some u) h s = absurd (false≢true h)
of-arrays (floating k) (Some u) h s = absurd (false≢true h)
of-arrays (pointer v) (Some u) h s = absurd (false≢true h)
of-arrays (array v n) (Some u) h s = inr (an-array u s)
of-arrays (structure n) (Some u) h s = absurd (false≢true h)
of-arrays (function g) (Some u) h s = absurd (false≢true h)

-- ---- lvalues

module _ (p : Lowered) (formed : IsFormed p) (points : PointsTo) where
  abbrev ground_of : Terrain
  ground_of = terrain_of p

  -- what a member of a struct is
  member-typed : (of t : CType) (k : ℕ) → (m : IsMember (table_of p) of k t) → (of ≡ structure m.struct_number) × (part_type p.structs (structure m.struct_number) (Field k) ≡ Some t)
  member-typed of t k m = (m.named, member-is p.structs m.struct_number k m.struct m.members (m.name, t) m.there m.complete m.member)

  -- a step to a member, from a region that stands for the struct
  pub member-on : (of t : CType) (k r : ℕ) → IsMember (table_of p) of k t → is_floating t ≡ false → (x : Stands p.regions r of) → (x.region.element ≡ None) ⊎ HasPart p.regions r (Field k) t
  member-on of t k r m whole x = by x.region.element refl x.stands
    where
      by : (e : Option CType) → x.region.element ≡ e → StandsFor e of → (x.region.element ≡ None) ⊎ HasPart p.regions r (Field k) t
      by None is h = inl is
      by (Some u) is h =
          let typed = member-typed of t k m in
          let same : u ≡ structure m.struct_number = subst (λ y. Alike y u) typed.0 h in
          inr (part-there p formed r x.region u t (Field k) x.there is (ap (λ y. part_type p.structs y (Field k)) same ∙ typed.1) (not-floating k t whole))

  -- a step to an element, from a region that stands for an array
  pub element-on : (of : CType) (r : ℕ) → is_array of ≡ true → (x : Stands p.regions r of) → (x.region.element ≡ None) ⊎ ((t : CType) × HasPart p.regions r Element t)
  element-on of r is_one x = by x.region.element refl (of-arrays of x.region.element is_one x.stands)
    where
      by : (e : Option CType) → x.region.element ≡ e → (e ≡ None) ⊎ HoldsArray e → (x.region.element ≡ None) ⊎ ((t : CType) × HasPart p.regions r Element t)
      by e is (inl none) = inl (is ∙ none)
      by e is (inr some) = inr (some.inner, part-there p formed r x.region (array some.inner some.long) some.inner Element x.there (is ∙ some.is) refl refl)

  -- what a step leads to
  stepped : (r : ℕ) (s : Step) (t : CType) (x : ℕ) → HasPart p.regions r s t → x ≡ unwrap_or (child_at p.regions r s) 0 → Stands p.regions x t
  stepped r s t x part is =
      let same : x ≡ part.child = is ∙ ap (λ o. unwrap_or o 0) part.leads in
      record { region = part.region; there = ap (λ n. slice_get p.regions n) same ∙ part.there; stands = held-stands part.region.element t part.holds }

  pub lvalue-stands : (f : Option ℕ) (l : Lvalue) → IsLvalue (table_of p) f l → (r : ℕ) → has r (cells_of ground_of points l) ≡ true → Stands p.regions r (lvalue_type l)
  lvalue-stands f (direct n t) h r there =
      let root = root-there p formed n h.object h.there in
      let same : r ≡ root.root = of-one (ground_of.root n) r there ∙ ap (λ o. unwrap_or o 0) root.leads in
      record { region = root.region; there = ap (λ k. slice_get p.regions k) same ∙ root.there; stands = held-stands root.region.element t (root.holds t h.of) }
  lvalue-stands f (through e t at) h r there = by (slice_get p.regions r) refl (of-filter (λ q. ground_of.accepts q t) (regions_of ground_of points e) r there)
    where
      by : (o : Option Region) → slice_get p.regions r ≡ o → region_accepts o t ≡ true → Stands p.regions r t
      by None is g = absurd (false≢true g)
      by (Some q) is g = record { region = q; there = is; stands = accepted-stands q.element t g }
  lvalue-stands f (field l k t) h r there =
      let from = of-map (member_region ground_of k) (cells_of ground_of points l) r there in
      let x = lvalue-stands f l h.0 from.0 from.1 in
      by from.0 from.2 x (member-on (lvalue_type l) t k from.0 h.1 h.2 x)
    where
      stays : (q : ℕ) → r ≡ member_region ground_of k q → (x : Stands p.regions q (lvalue_type l)) → x.region.element ≡ None → Stands p.regions r t
      stays q is x none =
          let bytes : is_bytes (slice_get p.regions q) ≡ true = ap is_bytes x.there ∙ ap (λ o. not (is_some o)) none in
          let same : r ≡ q = is ∙ ap (λ b. cond b q (ground_of.member q k)) bytes in
          record { region = x.region; there = ap (λ n. slice_get p.regions n) same ∙ x.there; stands = subst (λ o. StandsFor o t) (sym none) tt }

      goes : (q : ℕ) → r ≡ member_region ground_of k q → (x : Stands p.regions q (lvalue_type l)) → HasPart p.regions q (Field k) t → (o : Option CType) → x.region.element ≡ o → Stands p.regions r t
      goes q is x part None e = stays q is x e
      goes q is x part (Some u) e =
          let elements : is_bytes (slice_get p.regions q) ≡ false = ap is_bytes x.there ∙ ap (λ o. not (is_some o)) e in
          stepped q (Field k) t r part (is ∙ ap (λ b. cond b q (ground_of.member q k)) elements)

      by : (q : ℕ) → r ≡ member_region ground_of k q → (x : Stands p.regions q (lvalue_type l)) → (x.region.element ≡ None) ⊎ HasPart p.regions q (Field k) t → Stands p.regions r t
      by q is x (inl none) = stays q is x none
      by q is x (inr part) = goes q is x part x.region.element refl

  pub region_laws-members : (f : Option ℕ) (l : Lvalue) (k : ℕ) (t : CType) → IsLvalue (table_of p) f (field l k t) → (r : ℕ) → has r (cells_of ground_of points l) ≡ true
      → (q : Region) → slice_get p.regions r ≡ Some q → (q.element ≡ None) ⊎ HasPart p.regions r (Field k) t
  region_laws-members f l k t h r there q at =
      let x = lvalue-stands f l h.0 r there in
      subst (λ y. (y.element ≡ None) ⊎ HasPart p.regions r (Field k) t) (some_same (sym x.there ∙ at)) (member-on (lvalue_type l) t k r h.1 h.2 x)

  pub region_laws-elements : (f : Option ℕ) (l : Lvalue) → IsLvalue (table_of p) f l → is_array (lvalue_type l) ≡ true → (r : ℕ) → has r (cells_of ground_of points l) ≡ true
      → (q : Region) → slice_get p.regions r ≡ Some q → (q.element ≡ None) ⊎ ((t : CType) × HasPart p.regions r Element t)
  region_laws-elements f l h is_one r there q at =
      let x = lvalue-stands f l h r there in
      subst (λ y. (y.element ≡ None) ⊎ ((t : CType) × HasPart p.regions r Element t)) (some_same (sym x.there ∙ at)) (element-on (lvalue_type l) r is_one x)

pub region_laws : RegionLaws
region_laws p formed = record {
  roots = λ n o h. root-there p formed n o h;
  parts = λ r q t u s at element typed due. part-there p formed r q t u s at element typed due;
  lvalues = λ f l h points r there. lvalue-stands p formed points f l h r there;
  members = λ f l k t h points r there q at. region_laws-members p formed points f l k t h r there q at;
  elements = λ f l h is_one points r there q at. region_laws-elements p formed points f l h is_one r there q at;
}
