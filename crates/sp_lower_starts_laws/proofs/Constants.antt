-- The start value of a constant is formed outside of all functions, and is of its type's sort.
use Rattle.std.proofs.Common.{◌≡◌, ◌≢◌, arith, ℕ, Bool, true, false, ◌&&◌, ◌||◌, List, [], Option, Some, None, ℤ, is_some, if◌then◌else◌, refl, ap, sym, ◌∙◌, subst}
use Rattle.std.proofs.lemmas.Option.{none-some}
use Rattle.sp_tree.specs.declared.fault.Place.{Place}
use Rattle.sp_tree.specs.declared.token.Punct.TheVariants.{Ampersand, Star, Plus, Minus}
use Rattle.sp_types.specs.Types.{CType, void, integer, floating, pointer, array, structure, function, Struct}
use Rattle.sp_types.specs.Structs.{IsFormed}
use Rattle.sp_types.specs.Typed.{Typed, typed, TypedForm, of}
use Rattle.sp_types.specs.Typed as tree
use Rattle.sp_check_constants.specs.Constants.{constant_of}
use Rattle.sp_ir.specs.Commands.{Expression, number, convert, Lvalue, expression_type}
use Rattle.sp_ir.specs.Programs.{Object}
use Rattle.sp_ir.specs.Formed.{is_pointer, is_array, is_scalar, is_floating}
use Rattle.sp_lower_draft.specs.Context.{Context, is_void, kind_of}
use Rattle.sp_lower_draft.specs.Draft.{Left}
use Rattle.sp_lower_draft.specs.Adds.{adds, form_adds}
use Rattle.sp_lower_draft.specs.Steps.{loaded, element_at}
use Rattle.sp_lower_draft.specs.Expressions.{meaning}
use Rattle.sp_lower_starts.specs.Starts.{empty, plain_value, plain_place, start_value, start_with, start_place, start_part}
use Rattle.sp_check_typing.specs.Sorts.{is_function}
use Rattle.sp_check_typing.specs.Trees.{IsTyped, IsForm, IsNumber, PointsToMember, has_place, form_has_place}
use Rattle.sp_check_typing.specs.Constants.{is_constant, is_address, is_fixed, designates_fixed, is_stored}
use Rattle.sp_lower_expr_laws.specs.Stands.{table, scene, Fits, Holds}
use Rattle.sp_lower_expr_laws.specs.Uses.{Yields, IsValue, Designates, Gives, IsGood}
use Rattle.sp_lower_expr_laws.proofs.Sorts.{scalar_there, false_true, agrees_self}
use Rattle.sp_lower_expr_laws.proofs.Loads.{IsPointer, loaded_good, addressed_good}
use Rattle.sp_lower_expr_laws.proofs.Members.{member_good, arrow_good}
use Rattle.sp_lower_expr_laws.proofs.Operators.{pointer_value, scalar_value, operated_good, element_good}
use Rattle.sp_lower_expr_laws.proofs.Trees.{tree_formed, tree_floating, tree_good}
use Rattle.sp_lower_starts_laws.proofs.InKinds.{constant_in}
use Rattle.sp_lower_starts_laws.proofs.Steady.{and_first, and_second, at, value_same, place_same}
use Rattle.sp_lower_starts_laws.proofs.Everywhere.{expression_free}
use Rattle.sp_lower_starts_laws.proofs.Values.{IsFormedValue}

-- ---- sorts

constant_scalar : (e : Typed) → is_constant e ≡ true → is_scalar (of e) ≡ true
constant_scalar (typed f (integer k) p m) h = refl
constant_scalar (typed f (pointer t) p m) h = refl
constant_scalar (typed f void p m) h = h
constant_scalar (typed f (floating k) p m) h = h
constant_scalar (typed f (array t n) p m) h = h
constant_scalar (typed f (structure k) p m) h = h
constant_scalar (typed f (function s) p m) h = h

-- what is fixed has a place
fixed_placed : (f : TypedForm) (t : CType) → designates_fixed f ≡ true → form_has_place t f ≡ true
fixed_placed (tree.object n) t h = refl
fixed_placed (tree.function n) t h = refl
fixed_placed (tree.index a b) t h = refl
fixed_placed (tree.member a n) t h = refl
fixed_placed (tree.arrow a n) t h = refl
fixed_placed (tree.unary Star a) t h = refl
fixed_placed f t h = false_true h

pointed : (ss : List Struct) (a : CType) (n : ℕ) (t : CType) → PointsToMember ss a n t → is_pointer a ≡ true
pointed ss (pointer u) n t h = refl
pointed ss void n t h = absurd h
pointed ss (integer k) n t h = absurd h
pointed ss (floating k) n t h = absurd h
pointed ss (array u m) n t h = absurd h
pointed ss (structure k) n t h = absurd h
pointed ss (function s) n t h = absurd h

decays_there : (t : CType) → (is_array t || is_function t) ≡ true → is_void t ≡ false
decays_there (array t n) k = refl
decays_there (function s) k = refl
decays_there void k = false_true k
decays_there (integer j) k = refl
decays_there (floating j) k = refl
decays_there (pointer t) k = refl
decays_there (structure j) k = refl

decays_points : (c : Context) (t : CType) (v : Expression) → (is_array t || is_function t) ≡ true → Yields c t v → is_pointer (expression_type v) ≡ true
decays_points c (array t n) v k y = y
decays_points c (function s) v k y = y
decays_points c void v k y = false_true k
decays_points c (integer j) v k y = false_true k
decays_points c (floating j) v k y = false_true k
decays_points c (pointer t) v k y = false_true k
decays_points c (structure j) v k y = false_true k

-- ---- without nodes

module _ (c : Context) (os : List Object) (v : ℕ → Bool) (k : ℕ) (fits : Fits (at c k) os v) where
  nothing_holds : Holds (at c k) os empty
  nothing_holds = record { temporaries = λ i t e. absurd (none-some t e); sites = λ i x e. absurd (none-some x e) }

  abbrev Here : CType → Expression → Type 0
  Here t x = IsValue (at c k) os t x

  abbrev There : CType → Lvalue → Type 0
  There t l = Designates (at c k) os t l

  plain_good : (e : Typed) → IsTyped (scene c v) e → adds e ≡ false → is_void (of e) ≡ false → Here (of e) (plain_value c e)
  plain_good e h none there =
      let g : IsGood (at c k) os [] e (meaning (at c k) e) = tree_good (at c k) os [] v fits e h in
      let w : Gives (at c k) os [] (IsValue (at c k) os (of e)) empty ((meaning (at c k) e).value None empty) = g.value there None tt empty in
      subst (λ (r : Left Expression). Holds (at c k) os r.after → Here (of e) r.pure) (value_same c k e none None None empty empty) w.pure nothing_holds

  placed_good : (e : Typed) → IsTyped (scene c v) e → adds e ≡ false → has_place e ≡ true → There (of e) (plain_place c e)
  placed_good e h none there =
      let g : IsGood (at c k) os [] e (meaning (at c k) e) = tree_good (at c k) os [] v fits e h in
      let w : Gives (at c k) os [] (Designates (at c k) os (of e)) empty ((meaning (at c k) e).place empty) = g.place there empty in
      subst (λ (r : Left Lvalue). Holds (at c k) os r.after → There (of e) r.pure) (place_same c k e none empty empty) w.pure nothing_holds

  -- ---- with nodes

  numbered : (t : CType) (z : ℤ) → IsNumber t z → Here t (number z (kind_of t))
  numbered (integer j) z h = (h, refl)
  numbered void z h = absurd h
  numbered (floating j) z h = absurd h
  numbered (pointer t) z h = absurd h
  numbered (array t n) z h = absurd h
  numbered (structure j) z h = absurd h
  numbered (function s) z h = absurd h

  pointer_of : (t : CType) (x : Expression) → is_pointer t ≡ true → Here t x → IsPointer (at c k) os x
  pointer_of t x p h = (h.0, pointer_value (at c k) t x p h.1)

  converted : (a : Typed) (u : CType) (x : Expression) → is_constant a ≡ true → IsFormed c.structs (pointer u) → Here (of a) x → Here (pointer u) (convert (pointer u) x)
  converted a u x con formed h = ((h.0, scalar_value (at c k) (of a) x (constant_scalar a con) h.1, refl, formed), refl)

  -- a number, or what is made of the parts
  chosen : (f : TypedForm) (t : CType) (p m : Place) → IsTyped (scene c v) (typed f t p m) → is_constant (typed f t p m) ≡ true
      → ((u : CType) → t ≡ pointer u → is_address f ≡ true → Here (pointer u) (start_with c f (typed f (pointer u) p m)))
      → Here t (elim (constant_of (typed f t p m)) [ None ↦ start_with c f (typed f t p m) | Some z ↦ number z (kind_of t) ])
  chosen f t p m typing con h = by (constant_of (typed f t p m)) refl
    where
      none : (t : CType) → is_constant (typed f t p m) ≡ true → constant_of (typed f t p m) ≡ None
          → ((u : CType) → t ≡ pointer u → is_address f ≡ true → Here (pointer u) (start_with c f (typed f (pointer u) p m))) → Here t (start_with c f (typed f t p m))
      none (pointer u) con e h = h u refl con
      none (integer j) con e h = false_true (sym (ap (λ o. is_some o) e) ∙ con)
      none void con e h = false_true con
      none (floating j) con e h = false_true con
      none (array t n) con e h = false_true con
      none (structure j) con e h = false_true con
      none (function s) con e h = false_true con

      by : (o : Option ℤ) → constant_of (typed f t p m) ≡ o → Here t (elim o [ None ↦ start_with c f (typed f t p m) | Some z ↦ number z (kind_of t) ])
      by None e = none t con e h
      by (Some z) e = numbered t z (constant_in (scene c v) (typed f t p m) typing z e)

  mutual
    value_good : (e : Typed) → IsTyped (scene c v) e → is_constant e ≡ true → Here (of e) (start_value c e)
    value_good (typed f t p m) h con = by (form_adds f) refl (λ u is a. subst_form u is (with_good f u p m) a)
      where
        subst_form : (u : CType) → t ≡ pointer u
            → (IsFormed c.structs (pointer u) → IsForm (scene c v) (pointer u) f → is_address f ≡ true → Here (pointer u) (start_with c f (typed f (pointer u) p m)))
            → is_address f ≡ true → Here (pointer u) (start_with c f (typed f (pointer u) p m))
        subst_form u is g a = g (subst (λ w. IsFormed c.structs w) is h.1) (subst (λ w. IsForm (scene c v) w f) is h.2) a

        by : (b : Bool) → form_adds f ≡ b → ((u : CType) → t ≡ pointer u → is_address f ≡ true → Here (pointer u) (start_with c f (typed f (pointer u) p m)))
            → Here t (if b then (elim (constant_of (typed f t p m)) [ None ↦ start_with c f (typed f t p m) | Some z ↦ number z (kind_of t) ]) else plain_value c (typed f t p m))
        by false none g = plain_good (typed f t p m) h none (scalar_there t (constant_scalar (typed f t p m) con))
        by true some g = chosen f t p m h con g

    -- an address
    with_good : (f : TypedForm) (u : CType) (p m : Place) → IsFormed c.structs (pointer u) → IsForm (scene c v) (pointer u) f → is_address f ≡ true
        → Here (pointer u) (start_with c f (typed f (pointer u) p m))
    with_good (tree.decay a) u p m formed h con =
        let l : There (of a) (start_place c a) = place_good a h.0 con in
        let x : Here (of a) (loaded c (of a) (start_place c a)) = loaded_good (at c k) os (start_place c a) (of a) l (tree_formed c v a h.0) (decays_there (of a) h.2) (tree_floating c v a h.0) in
        (x.0, decays_points (at c k) (of a) (loaded c (of a) (start_place c a)) h.2 x.1)
    with_good (tree.unary Ampersand a) u p m formed h con =
        addressed_good (at c k) os (start_place c a) (pointer u) (place_good a h.0 con).0 refl formed
    with_good (tree.convert a) u p m formed h con = converted a u (start_value c a) con formed (value_good a h.0 con)
    with_good (tree.cast a) u p m formed h con = converted a u (start_value c a) con formed (value_good a h.0 con)
    with_good (tree.binary Plus a b) u p m formed h con =
        operated_good (at c k) os Plus (typed (tree.binary Plus a b) (pointer u) p m) a b (start_value c a) (start_value c b) h.2 refl
        (value_good a h.0 (and_first (is_constant a) (is_constant b) con)) (value_good b h.1 (and_second (is_constant a) (is_constant b) con))
    with_good (tree.binary Minus a b) u p m formed h con =
        operated_good (at c k) os Minus (typed (tree.binary Minus a b) (pointer u) p m) a b (start_value c a) (start_value c b) h.2 refl
        (value_good a h.0 (and_first (is_constant a) (is_constant b) con)) (value_good b h.1 (and_second (is_constant a) (is_constant b) con))
    with_good f u p m formed h con = false_true con

    place_good : (e : Typed) → IsTyped (scene c v) e → is_fixed e ≡ true → There (of e) (start_place c e)
    place_good (typed f t p m) h fixed = by (form_adds f) refl (part_good f t p m h.0 h.1 h.2 fixed)
      where
        by : (b : Bool) → form_adds f ≡ b → (form_adds f ≡ true → There t (start_part c f (typed f t p m)))
            → There t (if b then start_part c f (typed f t p m) else plain_place c (typed f t p m))
        by false none g = placed_good (typed f t p m) h none (fixed_placed f t fixed)
        by true some g = g some

    -- a part
    part_good : (f : TypedForm) (t : CType) (p m : Place) → is_floating t ≡ false → IsFormed c.structs t → IsForm (scene c v) t f → designates_fixed f ≡ true → form_adds f ≡ true
        → There t (start_part c f (typed f t p m))
    part_good (tree.index a b) t p m r formed h fixed some =
        let x : IsPointer (at c k) os (element_at c (of a) (of b) (start_value c a) (start_value c b)) =
        element_good (at c k) os (of a) (of b) (start_value c a) (start_value c b) h.2
        (value_good a h.0 (and_first (is_constant a) (is_constant b) fixed)) (value_good b h.1 (and_second (is_constant a) (is_constant b) fixed)) in
        ((x.0, x.1, r, formed), agrees_self t r)
    part_good (tree.member a n) t p m r formed h fixed some = member_good (at c k) os (of a) (start_place c a) n t h.1 (place_good a h.0 fixed)
    part_good (tree.arrow a n) t p m r formed h fixed some =
        arrow_good (at c k) os (of a) (start_value c a) p n t h.1 (tree_formed c v a h.0)
        (pointer_of (of a) (start_value c a) (pointed c.structs (of a) n t h.1) (value_good a h.0 fixed))
    part_good (tree.unary Star a) t p m r formed h fixed some =
        let x : IsPointer (at c k) os (start_value c a) = pointer_of (of a) (start_value c a) h.1 (value_good a h.0 fixed) in
        ((x.0, x.1, r, formed), agrees_self t r)
    part_good (tree.object n) t p m r formed h fixed some = false_true some
    part_good (tree.function n) t p m r formed h fixed some = false_true some
    part_good f t p m r formed h fixed some = false_true fixed

  -- ---- stored

  converts_to : (t u : CType) (x : Expression) → is_scalar t ≡ true → is_scalar u ≡ true → IsFormed c.structs u → Here t x
      → Here u (convert u x)
  converts_to t (integer j) x q l formed h = ((h.0, scalar_value (at c k) t x q h.1, refl, formed), refl)
  converts_to t (pointer u) x q l formed h = ((h.0, scalar_value (at c k) t x q h.1, refl, formed), refl)
  converts_to t void x q l formed h = false_true l
  converts_to t (floating j) x q l formed h = false_true l
  converts_to t (array u n) x q l formed h = false_true l
  converts_to t (structure j) x q l formed h = false_true l
  converts_to t (function s) x q l formed h = false_true l

  conversion_good : (a : Typed) (t : CType) (p m : Place) → IsTyped (scene c v) (typed (tree.convert a) t p m) → is_scalar t ≡ true
      → is_constant a ≡ true → Here t (start_value c (typed (tree.convert a) t p m))
  conversion_good a t p m h scalar con = by (form_adds (tree.convert a)) refl
    where
      whole : (o : Option ℤ) → constant_of (typed (tree.convert a) t p m) ≡ o
          → Here t (elim o [ None ↦ start_with c (tree.convert a) (typed (tree.convert a) t p m) | Some z ↦ number z (kind_of t) ])
      whole None e = converts_to (of a) t (start_value c a) (constant_scalar a con) scalar h.1 (value_good a h.2.0 con)
      whole (Some z) e = numbered t z (constant_in (scene c v) (typed (tree.convert a) t p m) h z e)

      by : (b : Bool) → form_adds (tree.convert a) ≡ b
          → Here t (if b then (elim (constant_of (typed (tree.convert a) t p m)) [ None ↦ start_with c (tree.convert a) (typed (tree.convert a) t p m) | Some z ↦ number z (kind_of t) ]) else plain_value c (typed (tree.convert a) t p m))
      by false none = plain_good (typed (tree.convert a) t p m) h none (scalar_there t scalar)
      by true some = whole (constant_of (typed (tree.convert a) t p m)) refl

  either_good : (a : Typed) (t : CType) (p m : Place) (b d : Bool) → is_constant (typed (tree.convert a) t p m) ≡ b
      → (is_scalar t && is_constant a) ≡ d → (b || d) ≡ true → IsTyped (scene c v) (typed (tree.convert a) t p m)
      → Here t (start_value c (typed (tree.convert a) t p m))
  either_good a t p m true d con both h typing = value_good (typed (tree.convert a) t p m) typing con
  either_good a t p m false true con both h typing =
      conversion_good a t p m typing (and_first (is_scalar t) (is_constant a) both) (and_second (is_scalar t) (is_constant a) both)
  either_good a t p m false false con both h typing = false_true h

  stored_good : (e : Typed) → IsTyped (scene c v) e → is_stored e ≡ true → Here (of e) (start_value c e)
  stored_good (typed (tree.convert a) t p m) h con =
      either_good a t p m (is_constant (typed (tree.convert a) t p m)) (is_scalar t && is_constant a) refl refl con h
  stored_good e h con = value_good e h con

-- ---- in none

pub start_value_good : (c : Context) (os : List Object) (v : ℕ → Bool) → ((k : ℕ) → Fits (record c { function = k }) os v)
    → (e : Typed) → IsTyped (scene c v) e → is_stored e ≡ true → IsFormedValue c os None (of e) (start_value c e)
start_value_good c os v fits e h con =
    let first : IsValue (at c 0) os (of e) (start_value c e) = stored_good c os v 0 (fits 0) e h con in
    let second : IsValue (at c 1) os (of e) (start_value c e) = stored_good c os v 1 (fits 1) e h con in
    (expression_free (table c os) 0 1 zero_one (start_value c e) first.0 second.0, first.1)
  where
    zero_one : ◌≢◌ {A = ℕ} 0 1
    zero_one e = omega (arith, e)
