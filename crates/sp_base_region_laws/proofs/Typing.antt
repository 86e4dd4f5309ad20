-- Each region of an object holds the part to which its path leads.
use Rattle.std.proofs.Common.{◌≡◌, ℕ, suc, ◌+◌, cond, List, [], ◌∷◌, ◌++◌, Option, Some, refl, ap, ◌∙◌, arith}
use Rattle.std.specs.Prelude.{slice_get, option_map}
use Rattle.sp_types.specs.Types.{CType, structure, Struct}
use Rattle.sp_ir.specs.declared.region.Step.{Step}
use Rattle.sp_ir.specs.declared.region.Step.TheVariants.{Field, Element}
use Rattle.sp_ir.specs.Regions.{Region}
use Rattle.sp_ir.specs.Shapes.{Shape, Shapes, is_floating_shape, regions, member_regions, HasShape, has_integer, has_pointer, has_floating, has_array, has_struct, has_union, HaveShapes, have_none, have_next}
use Rattle.sp_base_region_laws.specs.Parts.{member_type, member_type_in, part_type, part_of, type_along, Holds}
use Rattle.sp_base_region_laws.proofs.Members.{Each, each-append, each-unless}

pub along-snoc : (ss : List Struct) (o : Option CType) (path : List Step) (s : Step) → type_along ss o (path ++ s ∷ []) ≡ part_of ss (type_along ss o path) s
along-snoc ss o [] s = refl
along-snoc ss o (u ∷ path) s = along-snoc ss (part_of ss o u) path s

-- the type of the member of this number
pub member-is : (ss : List Struct) (n k : ℕ) (d : Struct) (members : List (ℕ × CType)) (m : ℕ × CType) → slice_get ss n ≡ Some d → d.members ≡ Some members → slice_get members k ≡ Some m
    → part_type ss (structure n) (Field k) ≡ Some m.1
member-is ss n k d members m at complete there =
    ap (λ o. member_type o k) at ∙ ap (λ o. member_type_in o k) complete ∙ ap (λ o. option_map (λ (x : ℕ × CType). x.1) o) there

module _ (ss : List Struct) (size : CType → ℕ) (whole : Option CType) where
  -- the region is one of an object, and holds the part of the whole to which its path leads
  pub record HoldsPart (o : ℕ) (r : Region) : Type 0 where
    pub object : r.object ≡ o
    pub part : CType
    pub leads : type_along ss whole r.path ≡ Some part
    pub holds : Holds r.element part

  step-on : (path : List Step) (t u : CType) (s : Step) → type_along ss whole path ≡ Some t → part_type ss t s ≡ Some u → type_along ss whole (path ++ s ∷ []) ≡ Some u
  step-on path t u s h e = along-snoc ss whole path s ∙ ap (λ o. part_of ss o s) h ∙ e

  mutual
    pub shape-typed : (o : ℕ) (path : List Step) (n : Option ℕ) (t : CType) (s : Shape) → HasShape ss size t s → type_along ss whole path ≡ Some t → Each (HoldsPart o) (regions o path n s)
    shape-typed o path n t s has_integer h = (record { object = refl; part = t; leads = h; holds = refl }, tt)
    shape-typed o path n t s has_pointer h = (record { object = refl; part = t; leads = h; holds = refl }, tt)
    shape-typed o path n t s has_floating h = (record { object = refl; part = t; leads = h; holds = refl }, tt)
    shape-typed o path n t s (has_array {t = u} {n = k} {s = inner} one) h =
        (record { object = refl; part = t; leads = h; holds = refl }, shape-typed o (path ++ Element ∷ []) (Some k) u inner one (step-on path t u Element h refl))
    shape-typed o path n t s (has_struct {n = k} {d = d} {members = members} {ms = ms} at union complete all) h =
        (record { object = refl; part = t; leads = h; holds = refl }, members-typed o path 0 t members ms all (λ j m there. step-on path t m.1 (Field (0 + j)) h (ap (λ i. part_type ss (structure k) (Field i)) (omega arith) ∙ member-is ss k j d members m at complete there)))
    shape-typed o path n t s (has_union at union complete one) h = (record { object = refl; part = t; leads = h; holds = tt }, tt)

    members-typed : (o : ℕ) (path : List Step) (k : ℕ) (t : CType) (members : List (ℕ × CType)) (ms : Shapes) → HaveShapes ss size members ms
        → ((j : ℕ) (m : ℕ × CType) → slice_get members j ≡ Some m → type_along ss whole (path ++ Field (k + j) ∷ []) ≡ Some m.1) → Each (HoldsPart o) (member_regions o path k ms)
    members-typed o path k t members ms have_none h = tt
    members-typed o path k t members ms (have_next {m = m} {ms = rest} {s = s} {ss = more} one others) h =
        each-append (HoldsPart o) (cond (is_floating_shape s) [] (regions o (path ++ Field k ∷ []) (Some 1) s)) (member_regions o path (k + 1) more)
        (each-unless (HoldsPart o) (is_floating_shape s) (regions o (path ++ Field k ∷ []) (Some 1) s) (shape-typed o (path ++ Field k ∷ []) (Some 1) m.1 s one (ap (λ i. type_along ss whole (path ++ Field i ∷ [])) (omega arith) ∙ h 0 m refl)))
        (members-typed o path (k + 1) t rest more others (λ j x there. ap (λ i. type_along ss whole (path ++ Field i ∷ [])) (omega arith) ∙ h (suc j) x there))
