-- The regions of all objects of a formed program: each object has its own, and each part of what a region holds has one.
use Rattle.std.proofs.Common.{◌≡◌, inl, inr, ℕ, zero, suc, ◌+◌, ◌-◌, ◌≤◌, Bool, true, false, List, [], ◌∷◌, ◌++◌, Option, Some, None, refl, sym, ap, ◌∙◌, subst, arith, nat_eq, ◌&&◌, eqb-true}
use Rattle.std.specs.Prelude.{slice_get}
use Rattle.std.proofs.lemmas.Bool.{false≢true}
use Rattle.sp_types.specs.Types.{CType, function}
use Rattle.sp_ir.specs.declared.region.Step.{Step}
use Rattle.sp_ir.specs.Paths.{same_path}
use Rattle.sp_ir.specs.PathLaws.{path-decides}
use Rattle.sp_ir.specs.Regions.{Region, number_at, child_of, stands_at}
use Rattle.sp_ir.specs.Shapes.{regions}
use Rattle.sp_ir.specs.Terrain.{size_of}
use Rattle.sp_ir.specs.Programs.{Lowered, Object}
use Rattle.sp_ir.specs.Formed.{root_count, Table, table_of, IsFormed, HasRegions, of_function, of_no_type, of_no_layout, of_shape, HaveRegions, no_regions, next_regions}
use Rattle.sp_base_sets.proofs.Members.{eqb-refl}
use Rattle.sp_base_region_laws.specs.Parts.{part_type, part_of, type_along, has_region, Holds, HasPart}
use Rattle.sp_base_region_laws.specs.Laws.{HasRoot}
use Rattle.sp_base_region_laws.proofs.Members.{Within, within-left, within-right, Each, each-append, each-map, each-there, some_same}
use Rattle.sp_base_region_laws.proofs.Typing.{along-snoc, HoldsPart, shape-typed}
use Rattle.sp_base_region_laws.proofs.Children.{HasChildren, Covers, own, no-part, shape-children}

-- ---- what stands at a place is found

pub record Found (rs : List Region) (o : ℕ) (path : List Step) : Type 0 where
  pub number : ℕ
  pub leads : number_at rs o path ≡ Some number
  pub region : Region
  pub there : slice_get rs number ≡ Some region
  pub object : region.object ≡ o
  pub at : region.path ≡ path

stands : (o : ℕ) (path : List Step) (r : Region) → stands_at o path r ≡ true → (r.object ≡ o) × (r.path ≡ path)
stands o path r h = by (nat_eq o r.object) refl h
  where
    by : (b : Bool) → nat_eq o r.object ≡ b → (b && same_path path r.path) ≡ true → (r.object ≡ o) × (r.path ≡ path)
    by true e g = (sym (eqb-true o r.object e), sym ((path-decides path r.path).0 g))
    by false e g = absurd (false≢true g)

stands-there : (o : ℕ) (path : List Step) (r : Region) → r.object ≡ o → r.path ≡ path → stands_at o path r ≡ true
stands-there o path r e f =
    ap (λ n. nat_eq o n && same_path path r.path) e ∙ ap (λ b. b && same_path path r.path) (eqb-refl o) ∙ (path-decides path r.path).1 (sym f)

pub found : (rs : List Region) (o : ℕ) (path : List Step) → Within rs o path → Found rs o path
found [] o path h = absurd h
found (r ∷ rs) o path h = by (stands_at o path r) refl (λ g. found rs o path g)
  where
    later : Within (r ∷ rs) o path → stands_at o path r ≡ false → Within rs o path
    later (inl e) apart = absurd (false≢true (sym apart ∙ stands-there o path r e.0 e.1))
    later (inr g) apart = g

    behind : stands_at o path r ≡ false → (x : Found rs o path) → number_at (r ∷ rs) o path ≡ Some (suc x.number)
    behind apart x = grind (arith, apart, x.leads)

    by : (b : Bool) → stands_at o path r ≡ b → (Within rs o path → Found rs o path) → Found (r ∷ rs) o path
    by true here rest = let is = stands o path r here in record { number = 0; leads = grind (arith, here); region = r; there = refl; object = is.0; at = is.1 }
    by false apart rest =
        let x = rest (later h apart) in
        record { number = suc x.number; leads = behind apart x; region = x.region; there = x.there; object = x.object; at = x.at }

-- ---- one object

abbrev pub type_in : Option Object → Option CType
type_in None = None
type_in (Some o) = o.of

module _ (p : Table) where
  -- the region of an object is kept as bytes, or it holds a part of the object
  pub data IsPartOf (n : ℕ) (of : Option CType) (r : Region) : Type 0 where
    bytes : r.object ≡ n → r.element ≡ None → IsPartOf n of r
    part : {t : CType} → of ≡ Some t → HoldsPart p.structs (size_of p.structs) (Some t) n r → IsPartOf n of r

  object-is : {n : ℕ} {of : Option CType} {r : Region} → IsPartOf n of r → r.object ≡ n
  object-is (bytes e f) = e
  object-is (part e h) = h.object

  one-typed : {n : ℕ} {o : Object} {rs : List Region} → HasRegions p n o rs → Each (IsPartOf n o.of) rs
  one-typed {n} {o} (of_function {s = s} kind of) = (part of (record { object = refl; part = function s; leads = refl; holds = refl }), tt)
  one-typed (of_no_type of) = (bytes refl refl, tt)
  one-typed (of_no_layout kind of size) = (bytes refl refl, tt)
  one-typed {n} {o} (of_shape {t = t} {s = s} kind of size shape) =
      each-map (HoldsPart p.structs (size_of p.structs) (Some t) n) (IsPartOf n o.of) (λ r h. part of h) (regions n [] (root_count o.kind) s) (shape-typed p.structs (size_of p.structs) (Some t) n [] (root_count o.kind) t s shape refl)

  one-children : {n : ℕ} {o : Object} {rs : List Region} (all : List Region) → HasRegions p n o rs → Covers p.structs (size_of p.structs) all rs → Each (HasChildren p.structs (size_of p.structs) all) rs
  one-children all (of_function {s = s} kind of) cover = (λ a u x e h due. absurd (no-part p.structs (size_of p.structs) (function s) a u x e (λ y. refl) h), tt)
  one-children all (of_no_type of) cover = (λ a u x e h due. absurd (cc), tt)
  one-children all (of_no_layout kind of size) cover = (λ a u x e h due. absurd (cc), tt)
  one-children {n} {o} all (of_shape {t = t} {s = s} kind of size shape) cover =
      shape-children p.structs (size_of p.structs) all n [] (root_count o.kind) t s shape cover

  -- ---- the objects from a number on

  abbrev pub AllParts : ℕ → List Object → Region → Type 0
  AllParts n os r = (n ≤ r.object) × IsPartOf r.object (type_in (slice_get os (r.object - n))) r

  all-typed : {n : ℕ} {os : List Object} {rs : List Region} → HaveRegions p n os rs → Each (AllParts n os) rs
  all-typed no_regions = tt
  all-typed {n} (next_regions {o = o} {os = os} {rs = rs} {more = more} one others) =
      each-append (AllParts n (o ∷ os)) rs more
      (each-map (IsPartOf n o.of) (AllParts n (o ∷ os)) first rs (one-typed one))
      (each-map (AllParts (n + 1) os) (AllParts n (o ∷ os)) later more (all-typed others))
    where
      first : (r : Region) → IsPartOf n o.of r → AllParts n (o ∷ os) r
      first r h =
          let is = object-is h in
          let zeroth : r.object - n ≡ 0 = omega (arith, is) in
          (omega (arith, is), subst (λ m. IsPartOf m (type_in (slice_get (o ∷ os) (r.object - n))) r) (sym is) (subst (λ k. IsPartOf n (type_in (slice_get (o ∷ os) k)) r) (sym zeroth) h))

      later : (r : Region) → AllParts (n + 1) os r → AllParts n (o ∷ os) r
      later r h =
          let next : r.object - n ≡ suc (r.object - (n + 1)) = omega (arith, h.0) in
          (omega (arith, h.0), subst (λ k. IsPartOf r.object (type_in (slice_get (o ∷ os) k)) r) (sym next) h.1)

  all-children : {n : ℕ} {os : List Object} {rs : List Region} (all : List Region) → HaveRegions p n os rs → Covers p.structs (size_of p.structs) all rs → Each (HasChildren p.structs (size_of p.structs) all) rs
  all-children all no_regions cover = tt
  all-children all (next_regions {o = o} {os = os} {rs = rs} {more = more} one others) cover =
      each-append (HasChildren p.structs (size_of p.structs) all) rs more
      (one-children all one (λ o' path h. cover o' path (within-left rs more o' path h)))
      (all-children all others (λ o' path h. cover o' path (within-right rs more o' path h)))

  root-within : {n : ℕ} {o : Object} {rs : List Region} → HasRegions p n o rs → Within rs n []
  root-within (of_function kind of) = inl (refl, refl)
  root-within (of_no_type of) = inl (refl, refl)
  root-within (of_no_layout kind of size) = inl (refl, refl)
  root-within {n} {o} (of_shape {t = t} {s = s} kind of size shape) = own p.structs (size_of p.structs) n [] (root_count o.kind) t s shape

  all-roots : {n : ℕ} {os : List Object} {rs : List Region} (i : ℕ) (o : Object) → HaveRegions p n os rs → slice_get os i ≡ Some o → Within rs (n + i) []
  all-roots i o no_regions h = absurd (cc)
  all-roots {n} zero o (next_regions {rs = rs} {more = more} one others) h = within-left rs more (n + 0) [] (subst (λ k. Within rs k []) (omega arith) (root-within one))
  all-roots {n} (suc i) o (next_regions {rs = rs} {more = more} one others) h =
      within-right rs more (n + suc i) [] (subst (λ k. Within more k []) (omega arith) (all-roots i o others h))

-- ---- the program

module _ (p : Lowered) (formed : IsFormed p) where
  abbrev table : Table
  table = table_of p

  its-part : (r : ℕ) (q : Region) → slice_get p.regions r ≡ Some q → AllParts table 0 p.objects q
  its-part r q h = each-there (AllParts table 0 p.objects) p.regions r q (all-typed table formed.regions) h

  of-object : (q : Region) (o : Object) (n : ℕ) → AllParts table 0 p.objects q → q.object ≡ n → slice_get p.objects n ≡ Some o → IsPartOf table n o.of q
  of-object q o n h is at =
      subst (λ x. IsPartOf table n (type_in x) q) at (subst (λ k. IsPartOf table n (type_in (slice_get p.objects k)) q) (omega (arith, is)) (subst (λ k. IsPartOf table k (type_in (slice_get p.objects (q.object - 0))) q) is h.1))

  -- what a region of an object holds, by the type to which its path leads
  holds : (n : ℕ) (of : Option CType) (q : Region) (u : CType) → IsPartOf table n of q → type_along p.structs of q.path ≡ Some u → Holds q.element u
  holds n of q u (bytes e f) h = subst (λ x. Holds x u) (sym f) tt
  holds n of q u (part {t = t} e x) h = subst (Holds q.element) (some_same (sym x.leads ∙ ap (λ y. type_along p.structs y q.path) (sym e) ∙ h)) x.holds

  pub root-there : (n : ℕ) (o : Object) → slice_get p.objects n ≡ Some o → HasRoot p n o
  root-there n o at =
      let x = found p.regions n [] (subst (λ k. Within p.regions k []) (omega arith) (all-roots table n o formed.regions at)) in
      record {
        root = x.number;
        leads = x.leads;
        region = x.region;
        there = x.there;
        holds = λ t e. holds n o.of x.region t (of-object x.region o n (its-part x.number x.region x.there) x.object at) (ap (λ y. type_along p.structs o.of y) x.at ∙ e);
      }

  pub part-there : (r : ℕ) (q : Region) (t u : CType) (s : Step) → slice_get p.regions r ≡ Some q → q.element ≡ Some t → part_type p.structs t s ≡ Some u → has_region s u ≡ true → HasPart p.regions r s u
  part-there r q t u s at element typed due =
      let inside = each-there (HasChildren p.structs (size_of p.structs) p.regions) p.regions r q (all-children table p.regions formed.regions (λ o path h. h)) at in
      let x = found p.regions q.object (q.path ++ s ∷ []) (inside t u s element typed due) in
      record {
        child = x.number;
        leads = ap (λ y. child_of p.regions y s) at ∙ x.leads;
        region = x.region;
        there = x.there;
        holds = of-part x (its-part r q at) (its-part x.number x.region x.there);
      }
    where
      along : {of : Option CType} → IsPartOf table q.object of q → (type_along p.structs of q.path ≡ Some t)
      along (bytes e f) = absurd (cc)
      along (part {t = whole} e y) = ap (λ z. type_along p.structs z q.path) e ∙ y.leads ∙ ap Some (same y.part (subst (λ z. Holds z y.part) element y.holds))
        where
          same : (v : CType) → Holds (Some t) v → v ≡ t
          same v h = sym h

      of-part : (x : Found p.regions q.object (q.path ++ s ∷ [])) → AllParts table 0 p.objects q → AllParts table 0 p.objects x.region → Holds x.region.element u
      of-part x here there =
          let object : x.region.object ≡ q.object = x.object in
          let of : Option CType = type_in (slice_get p.objects (q.object - 0)) in
          let child : IsPartOf table q.object of x.region = subst (λ k. IsPartOf table k (type_in (slice_get p.objects (k - 0))) x.region) object there.1 in
          holds q.object of x.region u child (ap (λ y. type_along p.structs of y) x.at ∙ along-snoc p.structs of q.path s ∙ ap (λ y. part_of p.structs y s) (along here.1) ∙ typed)
