-- The program's entry of a function is told by the unit that defines it (C90 6.1.2.6, 6.7.1).
use Rattle.std.proofs.Common.{◌≡◌, ◌≢◌, ℕ, zero, suc, ◌+◌, Bool, true, false, if◌then◌else◌, length, List, [], ◌∷◌, ◌++◌, Option, Some, None, is_some, ◌⊎◌, inl, inr, refl, ap, sym, subst, ◌∙◌, true≢false, arith}
use Rattle.std.specs.Prelude.{slice_get, slice_set, slice_index_or}
use Rattle.sp_types.specs.Types.{CType, pointer, array, function, Signature, signature, result_of, Struct}
use Rattle.sp_types.specs.Programs.{Object as TypedObject, Function as TypedFunction}
use Rattle.sp_check_scopes.specs.Scopes.{entry}
use Rattle.sp_check_env.specs.declared.env.Entity.{Entity}
use Rattle.sp_check_env.specs.declared.env.Entity.TheVariants.{Object, Function}
use Rattle.sp_base_checked.specs.Units.{CheckedUnit}
use Rattle.sp_check_primaries.specs.Composite.{told_length, composite, composite_signature}
use Rattle.sp_link_conflicts.specs.Declarations.{is_external}
use Rattle.sp_link_entries.specs.Entries.{ObjectEntry, FunctionEntry, Joined, Numbers, linked, with_link, with_object}
use Rattle.sp_link_entries.specs.Objects.{object_entry, object_met, object_apart, object_linked, object_joined, is_dropped, next_object, objects_joined}
use Rattle.sp_link_entries.specs.Functions.{function_entry, function_told, function_composed, function_met, function_apart, function_again, function_first, function_linked, function_joined, next_function, functions_joined}
use Rattle.sp_link_entries.specs.Units.{unit_joined, next_unit, units_joined}
use Rattle.sp_link_renaming.specs.Renaming.{number_in, renamed_type, renamed_signature}
use Rattle.sp_link_structs_laws.proofs.Lists.{none_some}
use Rattle.sp_check_typing.specs.Refines.{KeepsLength, Refines, of_void, of_integer, of_floating, of_pointer, of_array, of_struct, of_open, of_function}
use Rattle.sp_link_renaming_laws.specs.Follows.{lacks_layout}
use Rattle.sp_link_renaming_laws.proofs.Types.{refines_self}
use Rattle.sp_link_names_laws.proofs.Links.{inserted_same, inserted_other}
use Rattle.sp_link_names_laws.proofs.Numbered.{pushed_before, pushed_last, pushed_length, some_is, behind_objects}
use Rattle.sp_link_names_laws.proofs.Own.{set_other}
use Rattle.sp_link_names_laws.proofs.Sources.{inserted_key}
use Rattle.sp_link_entries_laws.proofs.Walk.{owned, AreBehind, first_behind, others_behind}
use Rattle.sp_link_entries_laws.proofs.Entries.{same_or_not}

-- an external function of one of the units
pub record IsExternal (xs : List CheckedUnit) (u : ℕ) (x : CheckedUnit) (k : ℕ) (f : TypedFunction) : Type 0 where
  pub unit : slice_get xs u ≡ Some x
  pub function : slice_get x.functions k ≡ Some f
  pub external : is_external f.linkage ≡ true

function_is : (k n : ℕ) → Function k ≡ Function n → k ≡ n
function_is k n e = cc

no_function : (k n : ℕ) → Object k ≡ Function n → ⊥
no_function k n e = absurd (cc)

-- ---- composites of the results

length_kept : (n m o : Option ℕ) → KeepsLength n m → KeepsLength n (told_length m o)
length_kept None m o h = tt
length_kept (Some n) (Some m) o h = h
length_kept (Some n) None o h = absurd (none_some n h)

refines_composite : (o : ℕ → Bool) (f : ℕ → ℕ) (t u v : CType) → Refines o f t u → Refines o f t (composite u v)
refines_composite o f t u (pointer v) (of_pointer a b x) = of_pointer a (composite b v) (refines_composite o f a b v x)
refines_composite o f t u (array v l) (of_array a b n m x k) =
    of_array a (composite b v) n (told_length m l) (refines_composite o f a b v x) (length_kept n m l k)
refines_composite o f t u (function s) (of_function r q) = of_function r (composite_signature q s)
refines_composite o f t u v (of_pointer a b x) = of_pointer a b x
refines_composite o f t u v (of_array a b n m x k) = of_array a b n m x k
refines_composite o f t u v (of_function r q) = of_function r q
refines_composite o f t u v of_void = of_void
refines_composite o f t u v (of_integer k) = of_integer k
refines_composite o f t u v (of_floating k) = of_floating k
refines_composite o f t u v (of_struct k) = of_struct k
refines_composite o f t u v (of_open k j e) = of_open k j e

composite_result : (s t : Signature) → result_of (composite_signature s t) ≡ composite (result_of s) (result_of t)
composite_result (signature r ps v) (signature q qs w) = refl

pub renamed_result : (ns : List ℕ) (s : Signature) → result_of (renamed_signature ns s) ≡ renamed_type ns (result_of s)
renamed_result ns (signature r ps v) = refl

-- of two external functions of one name that are defined, both are one
module _ (xs : List CheckedUnit) (sss : List (List ℕ))
    (once : (u v : ℕ) (x y : CheckedUnit) (i k : ℕ) (f g : TypedFunction) → IsExternal xs u x i f → IsExternal xs v y k g
    → f.name ≡ g.name → is_some f.body ≡ true → is_some g.body ≡ true → (u ≡ v) × (f ≡ g)) where
  abbrev numbers : ℕ → List ℕ
  numbers u = slice_index_or sss u []

  -- the entry is told by this function
  pub record IsTold (u : ℕ) (x : CheckedUnit) (f : TypedFunction) (e : FunctionEntry) : Type 0 where
    pub source : e.source ≡ f
    pub unit : e.unit ≡ u
    pub result : Refines (lacks_layout x.structs) (number_in (numbers u)) (result_of f.of) (result_of e.of)

  abbrev pub AreNamed : Joined → Type 0
  AreNamed j = (name n : ℕ) → entry j.links name ≡ Some (Function n)
      → (e : FunctionEntry) × (slice_get j.functions n ≡ Some e) × (e.source.name ≡ name)

  -- the name is linked; where to a function, the definition tells it
  pub record HasTold (u : ℕ) (x : CheckedUnit) (f : TypedFunction) (j : Joined) : Type 0 where
    pub entity : Entity
    pub link : entry j.links f.name ≡ Some entity
    pub told : (n : ℕ) (e : FunctionEntry) → entity ≡ Function n → slice_get j.functions n ≡ Some e
        → is_some f.body ≡ true → IsTold u x f e

  abbrev pub KeepsTold : Joined → Joined → Type 0
  KeepsTold j i = (u : ℕ) (x : CheckedUnit) (k : ℕ) (f : TypedFunction) → IsExternal xs u x k f → HasTold u x f j
      → HasTold u x f i

  -- ---- an external function is joined

  module _ (v : ℕ) (y : CheckedUnit) (m : ℕ) (p : TypedFunction) (h : IsExternal xs v y m p) where
    abbrev new : FunctionEntry
    new = function_entry (numbers v) v p

    own_result : Refines (lacks_layout y.structs) (number_in (numbers v)) (result_of p.of) (result_of new.of)
    own_result =
        subst (Refines (lacks_layout y.structs) (number_in (numbers v)) (result_of p.of)) (sym (renamed_result (numbers v) p.of))
        (refines_self (lacks_layout y.structs) (numbers v) (result_of p.of))

    new_told : IsTold v y p new
    new_told = record { source = refl; unit = refl; result = own_result }

    module _ (old : FunctionEntry) (was : old.source.name ≡ p.name) where
      composed_named : (b : Bool) → (if b then function_told new old else function_told old new).source.name ≡ p.name
      composed_named true = refl
      composed_named false = was

      new_first : IsTold v y p (function_told new old)
      new_first = record {
        source = refl;
        unit = refl;
        result = subst (Refines (lacks_layout y.structs) (number_in (numbers v)) (result_of p.of))
            (sym (composite_result new.of old.of))
            (refines_composite (lacks_layout y.structs) (number_in (numbers v)) (result_of p.of) (result_of new.of) (result_of old.of) own_result);
      }

      composed_told : (u : ℕ) (x : CheckedUnit) (k : ℕ) (f : TypedFunction) → IsExternal xs u x k f → f.name ≡ p.name
          → IsTold u x f old → is_some f.body ≡ true → (b : Bool) → is_some p.body ≡ b
          → IsTold u x f (if b then function_told new old else function_told old new)
      composed_told u x k f g same t body true e =
          let one : (u ≡ v) × (f ≡ p) = once u v x y k m f p g h same body e in
          let units : x ≡ y = some_is x y (sym g.unit ∙ ap (slice_get xs) one.0 ∙ h.unit) in
          subst (λ z. IsTold u x z (function_told new old)) (sym one.1)
          (subst (λ z. IsTold u z p (function_told new old)) (sym units)
          (subst (λ n. IsTold n y p (function_told new old)) (sym one.0) new_first))
      composed_told u x k f g same t body false e = record {
        source = t.source;
        unit = t.unit;
        result = subst (Refines (lacks_layout x.structs) (number_in (numbers u)) (result_of f.of))
            (sym (composite_result old.of new.of))
            (refines_composite (lacks_layout x.structs) (number_in (numbers u)) (result_of f.of) (result_of old.of) (result_of new.of) t.result);
      }

      new_composed : (b : Bool) → is_some p.body ≡ b → is_some p.body ≡ true
          → IsTold v y p (if b then function_told new old else function_told old new)
      new_composed true e body = new_first
      new_composed false e body = absurd (true≢false (sym body ∙ e))

  -- ---- into what is joined

  module _ (j : Joined) (good : AreNamed j) where
    pushed_named : (e : FunctionEntry) → AreNamed (function_apart j e).1
    pushed_named e name n l =
        let w : (d : FunctionEntry) × (slice_get j.functions n ≡ Some d) × (d.source.name ≡ name) = good name n l in
        (w.0, pushed_before j.functions e w.0 n w.1, w.2)

    stays_there : (e : FunctionEntry) (name n : ℕ) (d : FunctionEntry) → entry j.links name ≡ Some (Function n)
        → slice_get (j.functions ++ e ∷ []) n ≡ Some d → slice_get j.functions n ≡ Some d
    stays_there e name n d l at =
        let w : (c : FunctionEntry) × (slice_get j.functions n ≡ Some c) × (c.source.name ≡ name) = good name n l in
        w.1 ∙ sym (pushed_before j.functions e w.0 n w.1) ∙ at

    pushed_told : (e : FunctionEntry) → KeepsTold j (function_apart j e).1
    pushed_told e u x k f g t = record {
      entity = t.entity;
      link = t.link;
      told = λ n d is at. t.told n d is (stays_there e f.name n d (t.link ∙ ap Some is) at);
    }

    module _ (v : ℕ) (y : CheckedUnit) (m : ℕ) (p : TypedFunction) (h : IsExternal xs v y m p) where
      abbrev it : FunctionEntry
      it = function_entry (numbers v) v p

      -- the first of its name
      module _ (none : linked j p.name ≡ None) where
        first_named : AreNamed (function_first j it).1
        first_named name n l = by (inserted_key j.links p.name (Function (length j.functions)) name (Function n) l)
          where
            by : (entry j.links name ≡ Some (Function n)) ⊎ ((name ≡ p.name) × (Function (length j.functions) ≡ Function n))
                → (e : FunctionEntry) × (slice_get (j.functions ++ it ∷ []) n ≡ Some e) × (e.source.name ≡ name)
            by (inl old) = pushed_named it name n old
            by (inr w) =
                let same : length j.functions ≡ n = function_is (length j.functions) n w.1 in
                (it, subst (λ i. slice_get (j.functions ++ it ∷ []) i ≡ Some it) same (pushed_last j.functions it), sym w.0)

        first_told : KeepsTold j (function_first j it).1
        first_told u x k f g t = record {
          entity = t.entity;
          link = inserted_other j.links p.name (Function (length j.functions)) f.name t.entity none t.link;
          told = λ n d is at. t.told n d is (stays_there it f.name n d (t.link ∙ ap Some is) at);
        }

        first_new : HasTold v y p (function_first j it).1
        first_new = record {
          entity = Function (length j.functions);
          link = inserted_same j.links p.name (Function (length j.functions)) none;
          told = λ n d is at body. subst (IsTold v y p)
              (some_is it d (sym (pushed_last j.functions it)
              ∙ ap (slice_get (j.functions ++ it ∷ [])) (function_is (length j.functions) n is) ∙ at)) (new_told v y m p h);
        }

      -- a further one
      module _ (at : ℕ) (link : linked j p.name ≡ Some (Function at)) (old : FunctionEntry)
          (there : slice_get j.functions at ≡ Some old) where
        was : old.source.name ≡ p.name
        was =
            let w : (d : FunctionEntry) × (slice_get j.functions at ≡ Some d) × (d.source.name ≡ p.name) = good p.name at link in
            ap (λ z. z.source.name) (some_is old w.0 (sym there ∙ w.1)) ∙ w.2

        abbrev whole : FunctionEntry
        whole = function_composed old it

        set_there : slice_get (slice_set j.functions at whole) at ≡ Some whole
        set_there = set_same j.functions at whole old there
          where
            set_same : {A : Type 0} (zs : List A) (i : ℕ) (z w : A) → slice_get zs i ≡ Some w
                → slice_get (slice_set zs i z) i ≡ Some z
            set_same [] i z w e = absurd (cc)
            set_same (c ∷ cs) zero z w e = refl
            set_same (c ∷ cs) (suc i) z w e = set_same cs i z w e

        again_named : AreNamed (function_again j at it).1
        again_named = subst (λ c. AreNamed (function_met j at it c)) (sym there) named
          where
            named : AreNamed (function_met j at it (Some old))
            named name n l =
                let w : (d : FunctionEntry) × (slice_get j.functions n ≡ Some d) × (d.source.name ≡ name) = good name n l in
                by w (same_or_not at n)
              where
                by : (d : FunctionEntry) × (slice_get j.functions n ≡ Some d) × (d.source.name ≡ name) → (at ≡ n) ⊎ (at ≢ n)
                    → (e : FunctionEntry) × (slice_get (slice_set j.functions at whole) n ≡ Some e) × (e.source.name ≡ name)
                by w (inl same) =
                    let d_is : w.0 ≡ old = some_is w.0 old (sym w.1 ∙ ap (slice_get j.functions) (sym same) ∙ there) in
                    let name_is : p.name ≡ name = sym was ∙ ap (λ z. z.source.name) (sym d_is) ∙ w.2 in (
                      whole,
                      subst (λ i. slice_get (slice_set j.functions at whole) i ≡ Some whole) same set_there,
                      composed_named v y m p h old was (is_some p.body) ∙ name_is,
                    )
                by w (inr apart) = (w.0, set_other j.functions at whole n apart ∙ w.1, w.2)

        again_told : KeepsTold j (function_again j at it).1
        again_told = subst (λ c. KeepsTold j (function_met j at it c)) (sym there) keeps
          where
            keeps : KeepsTold j (function_met j at it (Some old))
            keeps u x k f g t = record {
              entity = t.entity;
              link = t.link;
              told = λ n d is now body. by n d is now body (same_or_not at n);
            }
              where
                by : (n : ℕ) (d : FunctionEntry) → t.entity ≡ Function n
                    → slice_get (slice_set j.functions at whole) n ≡ Some d → is_some f.body ≡ true
                    → (at ≡ n) ⊎ (at ≢ n) → IsTold u x f d
                by n d is now body (inl same) =
                    let w : (c : FunctionEntry) × (slice_get j.functions n ≡ Some c) × (c.source.name ≡ f.name) = good f.name n (t.link ∙ ap Some is) in
                    let c_is : w.0 ≡ old = some_is w.0 old (sym w.1 ∙ ap (slice_get j.functions) (sym same) ∙ there) in
                    let name_is : f.name ≡ p.name = sym w.2 ∙ ap (λ z. z.source.name) c_is ∙ was in
                    let before : IsTold u x f old = t.told n old is (ap (slice_get j.functions) (sym same) ∙ there) body in
                    let d_is : whole ≡ d = some_is whole d (sym set_there ∙ ap (slice_get (slice_set j.functions at whole)) same ∙ now) in
                    subst (IsTold u x f) d_is
                    (composed_told v y m p h old was u x k f g name_is before body (is_some p.body) refl)
                by n d is now body (inr apart) = t.told n d is (sym (set_other j.functions at whole n apart) ∙ now) body

        again_new : HasTold v y p (function_again j at it).1
        again_new = subst (λ c. HasTold v y p (function_met j at it c)) (sym there) (record {
          entity = Function at;
          link = link;
          told = λ n d is now body. subst (IsTold v y p)
              (some_is whole d (sym set_there ∙ ap (slice_get (slice_set j.functions at whole)) (function_is at n is) ∙ now))
              (new_composed v y m p h old was (is_some p.body) refl body);
        })

      -- ---- whatever the name is linked to

      linked_named : (l : Option Entity) → linked j p.name ≡ l → AreNamed (function_linked j it l).1
      linked_named None e = first_named e
      linked_named (Some (Function at)) e =
          let w : (d : FunctionEntry) × (slice_get j.functions at ≡ Some d) × (d.source.name ≡ p.name) = good p.name at e in
          again_named at e w.0 w.1
      linked_named (Some (Object k)) e = pushed_named it

      linked_told : (l : Option Entity) → linked j p.name ≡ l → KeepsTold j (function_linked j it l).1
      linked_told None e = first_told e
      linked_told (Some (Function at)) e =
          let w : (d : FunctionEntry) × (slice_get j.functions at ≡ Some d) × (d.source.name ≡ p.name) = good p.name at e in
          again_told at e w.0 w.1
      linked_told (Some (Object k)) e = pushed_told it

      linked_new : (l : Option Entity) → linked j p.name ≡ l → HasTold v y p (function_linked j it l).1
      linked_new None e = first_new e
      linked_new (Some (Function at)) e =
          let w : (d : FunctionEntry) × (slice_get j.functions at ≡ Some d) × (d.source.name ≡ p.name) = good p.name at e in
          again_new at e w.0 w.1
      linked_new (Some (Object k)) e =
          record { entity = Object k; link = e; told = λ n d is at. absurd (no_function k n is) }

      choice_named : (b : Bool) → b ≡ true
          → AreNamed (if b then function_linked j it (linked j p.name) else function_apart j it).1
      choice_named true e = linked_named (linked j p.name) refl
      choice_named false e = absurd (true≢false (sym e))

      choice_told : (b : Bool) → b ≡ true
          → KeepsTold j (if b then function_linked j it (linked j p.name) else function_apart j it).1
      choice_told true e = linked_told (linked j p.name) refl
      choice_told false e = absurd (true≢false (sym e))

      choice_new : (b : Bool) → b ≡ true
          → HasTold v y p (if b then function_linked j it (linked j p.name) else function_apart j it).1
      choice_new true e = linked_new (linked j p.name) refl
      choice_new false e = absurd (true≢false (sym e))

      external_named : AreNamed (function_joined j it).1
      external_named = choice_named (is_external p.linkage) h.external

      external_told : KeepsTold j (function_joined j it).1
      external_told = choice_told (is_external p.linkage) h.external

      external_new : HasTold v y p (function_joined j it).1
      external_new = choice_new (is_external p.linkage) h.external

    -- a function without external linkage
    module _ (e : FunctionEntry) where
      other_choice_named : (b : Bool) → b ≡ false
          → AreNamed (if b then function_linked j e (linked j e.source.name) else function_apart j e).1
      other_choice_named true f = absurd (true≢false f)
      other_choice_named false f = pushed_named e

      other_choice_told : (b : Bool) → b ≡ false
          → KeepsTold j (if b then function_linked j e (linked j e.source.name) else function_apart j e).1
      other_choice_told true f = absurd (true≢false f)
      other_choice_told false f = pushed_told e

      other_named : is_external e.source.linkage ≡ false → AreNamed (function_joined j e).1
      other_named f = other_choice_named (is_external e.source.linkage) f

      other_told : is_external e.source.linkage ≡ false → KeepsTold j (function_joined j e).1
      other_told f = other_choice_told (is_external e.source.linkage) f

  -- ---- an object is joined

  same_functions : (j i : Joined) → i.functions ≡ j.functions → i.links ≡ j.links → AreNamed j → AreNamed i
  same_functions j i os ls good name n l =
      let w : (d : FunctionEntry) × (slice_get j.functions n ≡ Some d) × (d.source.name ≡ name) =
      good name n (ap (λ z. entry z name) (sym ls) ∙ l) in
      (w.0, ap (λ z. slice_get z n) os ∙ w.1, w.2)

  same_told : (j i : Joined) → i.functions ≡ j.functions → i.links ≡ j.links → KeepsTold j i
  same_told j i os ls u x k f g t = record {
    entity = t.entity;
    link = ap (λ z. entry z f.name) ls ∙ t.link;
    told = λ n d is at. t.told n d is (ap (λ z. slice_get z n) (sym os) ∙ at);
  }

  module _ (j : Joined) (e : ObjectEntry) where
    object_met_named : (k : ℕ) (old : Option ObjectEntry) → AreNamed j → AreNamed (object_met j k e old)
    object_met_named k None good = good
    object_met_named k (Some old) good = same_functions j (object_met j k e (Some old)) refl refl good

    object_met_told : (k : ℕ) (old : Option ObjectEntry) → KeepsTold j (object_met j k e old)
    object_met_told k None u x i f g t = t
    object_met_told k (Some old) u x i f g t = same_told j (object_met j k e (Some old)) refl refl u x i f g t

    first_object_named : AreNamed j
        → AreNamed (with_link (with_object j e) e.source.name (Object (length j.objects)))
    first_object_named good name n l =
        by (inserted_key j.links e.source.name (Object (length j.objects)) name (Function n) l)
      where
        by : (entry j.links name ≡ Some (Function n)) ⊎ ((name ≡ e.source.name) × (Object (length j.objects) ≡ Function n))
            → (d : FunctionEntry) × (slice_get j.functions n ≡ Some d) × (d.source.name ≡ name)
        by (inl old) = good name n old
        by (inr w) = absurd (no_function (length j.objects) n w.1)

    object_linked_named : (l : Option Entity) → AreNamed j → AreNamed (object_linked j e l).1
    object_linked_named None good = first_object_named good
    object_linked_named (Some (Object k)) good = object_met_named k (slice_get j.objects k) good
    object_linked_named (Some (Function k)) good = same_functions j (object_apart j e).1 refl refl good

    object_linked_told : (l : Option Entity) → linked j e.source.name ≡ l → KeepsTold j (object_linked j e l).1
    object_linked_told None none u x k f g t = record {
      entity = t.entity;
      link = inserted_other j.links e.source.name (Object (length j.objects)) f.name t.entity none t.link;
      told = t.told;
    }
    object_linked_told (Some (Object n)) l u x k f g t = object_met_told n (slice_get j.objects n) u x k f g t
    object_linked_told (Some (Function n)) l u x k f g t = same_told j (object_apart j e).1 refl refl u x k f g t

    object_choice_named : (b : Bool) → AreNamed j
        → AreNamed (if b then object_linked j e (linked j e.source.name) else object_apart j e).1
    object_choice_named true good = object_linked_named (linked j e.source.name) good
    object_choice_named false good = same_functions j (object_apart j e).1 refl refl good

    object_choice_told : (b : Bool)
        → KeepsTold j (if b then object_linked j e (linked j e.source.name) else object_apart j e).1
    object_choice_told true = object_linked_told (linked j e.source.name) refl
    object_choice_told false = same_told j (object_apart j e).1 refl refl

    object_named : AreNamed j → AreNamed (object_joined j e).1
    object_named good = object_choice_named (is_external e.source.linkage) good

    object_told : KeepsTold j (object_joined j e).1
    object_told = object_choice_told (is_external e.source.linkage)

  module _ (ts : List Struct) (ss fs : List ℕ) (u : ℕ) where
    next_named : (y : List ℕ × Joined) (b : Bool) (o : TypedObject) → AreNamed y.1 → AreNamed (next_object ts ss u y b o).1
    next_named y true o good = good
    next_named y false o good = object_named y.1 (object_entry ts ss u o) good

    next_told : (y : List ℕ × Joined) (b : Bool) (o : TypedObject) → KeepsTold y.1 (next_object ts ss u y b o).1
    next_told y true o v x k f g t = t
    next_told y false o v x k f g t = object_told y.1 (object_entry ts ss u o) v x k f g t

    objects_named : (os : List TypedObject) (y : List ℕ × Joined) → AreNamed y.1 → AreNamed (objects_joined ts ss fs u y os).1
    objects_named [] y good = good
    objects_named (o ∷ os) y good =
        objects_named os (next_object ts ss u y (is_dropped fs (length y.0) o.storage) o)
        (next_named y (is_dropped fs (length y.0) o.storage) o good)

    objects_told : (os : List TypedObject) (y : List ℕ × Joined) → KeepsTold y.1 (objects_joined ts ss fs u y os).1
    objects_told [] y v x k f g t = t
    objects_told (o ∷ os) y v x k f g t =
        objects_told os (next_object ts ss u y (is_dropped fs (length y.0) o.storage) o) v x k f g
        (next_told y (is_dropped fs (length y.0) o.storage) o v x k f g t)

  -- ---- the functions of a unit

  module _ (u : ℕ) (x : CheckedUnit) (at : slice_get xs u ≡ Some x) where
    joined_named : (j : Joined) (f : TypedFunction) (k : ℕ) → slice_get x.functions k ≡ Some f → AreNamed j
        → (b : Bool) → is_external f.linkage ≡ b → AreNamed (function_joined j (function_entry (numbers u) u f)).1
    joined_named j f k there good true e =
        external_named j good u x k f (record { unit = at; function = there; external = e })
    joined_named j f k there good false e = other_named j good (function_entry (numbers u) u f) e

    joined_told : (j : Joined) (f : TypedFunction) (k : ℕ) → slice_get x.functions k ≡ Some f → AreNamed j
        → (b : Bool) → is_external f.linkage ≡ b → KeepsTold j (function_joined j (function_entry (numbers u) u f)).1
    joined_told j f k there good true e =
        external_told j good u x k f (record { unit = at; function = there; external = e })
    joined_told j f k there good false e = other_told j good (function_entry (numbers u) u f) e

    -- these are the functions behind those with numbers
    abbrev AreNext : List TypedFunction → List ℕ × Joined → Type 0
    AreNext fs y = (i : ℕ) (f : TypedFunction) → slice_get fs i ≡ Some f → slice_get x.functions (length y.0 + i) ≡ Some f

    abbrev behind : List ℕ × Joined → TypedFunction → List ℕ × Joined
    behind y f = next_function (numbers u) u y f

    first_next : (f : TypedFunction) (fs : List TypedFunction) (y : List ℕ × Joined) → AreNext (f ∷ fs) y
        → slice_get x.functions (length y.0) ≡ Some f
    first_next f fs y w = let place : length y.0 + 0 ≡ length y.0 = omega arith in
        subst (λ n. slice_get x.functions n ≡ Some f) place (w zero f refl)

    others_next : (f : TypedFunction) (fs : List TypedFunction) (y : List ℕ × Joined) → AreNext (f ∷ fs) y
        → AreNext fs (behind y f)
    others_next f fs y w i p e =
        let longer : length (behind y f).0 ≡ length y.0 + 1 =
        pushed_length y.0 (function_joined y.1 (function_entry (numbers u) u f)).0 in
        let place : length y.0 + suc i ≡ length (behind y f).0 + i = omega (arith, longer) in
        subst (λ n. slice_get x.functions n ≡ Some p) place (w (suc i) p e)

    one_named : (f : TypedFunction) (fs : List TypedFunction) (y : List ℕ × Joined) → AreNext (f ∷ fs) y → AreNamed y.1
        → AreNamed (behind y f).1
    one_named f fs y w good = joined_named y.1 f (length y.0) (first_next f fs y w) good (is_external f.linkage) refl

    functions_named : (fs : List TypedFunction) (y : List ℕ × Joined) → AreNext fs y → AreNamed y.1
        → AreNamed (functions_joined (numbers u) u y fs).1
    functions_named [] y w good = good
    functions_named (f ∷ fs) y w good =
        functions_named fs (behind y f) (others_next f fs y w) (one_named f fs y w good)

    functions_keep_told : (fs : List TypedFunction) (y : List ℕ × Joined) → AreNext fs y → AreNamed y.1
        → KeepsTold y.1 (functions_joined (numbers u) u y fs).1
    functions_keep_told [] y w good v z i p g t = t
    functions_keep_told (f ∷ fs) y w good v z i p g t =
        functions_keep_told fs (behind y f) (others_next f fs y w) (one_named f fs y w good) v z i p g
        (joined_told y.1 f (length y.0) (first_next f fs y w) good (is_external f.linkage) refl v z i p g t)

    functions_told : (fs : List TypedFunction) (y : List ℕ × Joined) → AreNext fs y → AreNamed y.1 → (i k : ℕ) (f : TypedFunction)
        → k ≡ length y.0 + i → slice_get fs i ≡ Some f → is_external f.linkage ≡ true
        → HasTold u x f (functions_joined (numbers u) u y fs).1
    functions_told [] y w good i k f p e t = absurd (cc)
    functions_told (z ∷ zs) y w good zero k f p e t =
        let same : z ≡ f = some_is z f e in
        let there : slice_get x.functions (length y.0) ≡ Some z = first_next z zs y w in
        let external : is_external z.linkage ≡ true = subst (λ q. is_external q.linkage ≡ true) (sym same) t in
        let it_is : IsExternal xs u x (length y.0) z = record { unit = at; function = there; external = external } in
        subst (λ q. HasTold u x q (functions_joined (numbers u) u y (z ∷ zs)).1) same
        (functions_keep_told zs (behind y z) (others_next z zs y w) (one_named z zs y w good) u x (length y.0) z it_is
        (external_new y.1 good u x (length y.0) z it_is))
    functions_told (z ∷ zs) y w good (suc i) k f p e t =
        let longer : length (behind y z).0 ≡ length y.0 + 1 =
        pushed_length y.0 (function_joined y.1 (function_entry (numbers u) u z)).0 in
        functions_told zs (behind y z) (others_next z zs y w) (one_named z zs y w good) i k f (omega (arith, longer, p)) e t

  -- ---- units

  module _ (u : ℕ) (x : CheckedUnit) (at : slice_get xs u ≡ Some x) (j : Joined) (good : AreNamed j) where
    abbrev joined_behind : Joined
    joined_behind = (behind_objects (numbers u) u j x).1

    all_next : AreNext u x at x.functions ([], joined_behind)
    all_next i f e = let place : i ≡ 0 + i = omega arith in subst (λ n. slice_get x.functions n ≡ Some f) place e

    behind_named : AreNamed joined_behind
    behind_named = objects_named x.structs (numbers u) (owned (numbers u) u x) u x.objects ([], j) good

    behind_told : KeepsTold j joined_behind
    behind_told = objects_told x.structs (numbers u) (owned (numbers u) u x) u x.objects ([], j)

    abbrev functions_behind : Joined
    functions_behind = (functions_joined (numbers u) u ([], joined_behind) x.functions).1

    unit_named : AreNamed (unit_joined (numbers u) u j x).1
    unit_named name n l = functions_named u x at x.functions ([], joined_behind) all_next behind_named name n l

    texts_told : KeepsTold functions_behind (unit_joined (numbers u) u j x).1
    texts_told = same_told functions_behind (unit_joined (numbers u) u j x).1 refl refl

    unit_keeps_told : KeepsTold j (unit_joined (numbers u) u j x).1
    unit_keeps_told v z i p g t =
        texts_told v z i p g
        (functions_keep_told u x at x.functions ([], joined_behind) all_next behind_named v z i p g (behind_told v z i p g t))

    unit_told : (k : ℕ) (f : TypedFunction) → IsExternal xs u x k f → HasTold u x f (unit_joined (numbers u) u j x).1
    unit_told k f g =
        texts_told u x k f g
        (functions_told u x at x.functions ([], joined_behind) all_next behind_named k k f (omega arith) g.function g.external)

  units_keep_told : (ws : List CheckedUnit) (y : List Numbers × Joined) → AreBehind xs sss ws y → AreNamed y.1
      → KeepsTold y.1 (units_joined sss y ws).1
  units_keep_told [] y w good v z i p g t = t
  units_keep_told (x ∷ ws) y w good v z i p g t =
      let here : slice_get xs (length y.0) ≡ Some x = first_behind xs sss x ws y w in
      units_keep_told ws (next_unit sss y x) (others_behind xs sss x ws y w) (unit_named (length y.0) x here y.1 good)
      v z i p g (unit_keeps_told (length y.0) x here y.1 good v z i p g t)

  pub units_named : (ws : List CheckedUnit) (y : List Numbers × Joined) → AreBehind xs sss ws y → AreNamed y.1
      → AreNamed (units_joined sss y ws).1
  units_named [] y w good = good
  units_named (x ∷ ws) y w good =
      units_named ws (next_unit sss y x) (others_behind xs sss x ws y w)
      (unit_named (length y.0) x (first_behind xs sss x ws y w) y.1 good)

  pub units_told : (ws : List CheckedUnit) (y : List Numbers × Joined) → AreBehind xs sss ws y → AreNamed y.1
      → (i u : ℕ) (x : CheckedUnit) → u ≡ length y.0 + i → slice_get ws i ≡ Some x
      → (k : ℕ) (f : TypedFunction) → IsExternal xs u x k f → HasTold u x f (units_joined sss y ws).1
  units_told [] y w good i u x p e k f g = absurd (cc)
  units_told (z ∷ ws) y w good zero u x p e k f g =
      let same : z ≡ x = some_is z x e in
      let place : length y.0 ≡ u = omega arith in
      let here : slice_get xs (length y.0) ≡ Some z = first_behind xs sss z ws y w in
      let it_is : IsExternal xs (length y.0) z k f =
      subst (λ n. IsExternal xs n z k f) (sym place) (subst (λ q. IsExternal xs u q k f) (sym same) g) in
      let now : HasTold (length y.0) z f (units_joined sss y (z ∷ ws)).1 =
      units_keep_told ws (next_unit sss y z) (others_behind xs sss z ws y w) (unit_named (length y.0) z here y.1 good)
      (length y.0) z k f it_is (unit_told (length y.0) z here y.1 good k f it_is) in
      subst (λ n. HasTold n x f (units_joined sss y (z ∷ ws)).1) place
      (subst (λ q. HasTold (length y.0) q f (units_joined sss y (z ∷ ws)).1) same now)
  units_told (z ∷ ws) y w good (suc i) u x p e k f g =
      let longer : length (next_unit sss y z).0 ≡ length y.0 + 1 =
      pushed_length y.0 (unit_joined (numbers (length y.0)) (length y.0) y.1 z).0 in
      units_told ws (next_unit sss y z) (others_behind xs sss z ws y w)
      (unit_named (length y.0) z (first_behind xs sss z ws y w) y.1 good) i u x (omega (arith, longer, p)) e k f g
