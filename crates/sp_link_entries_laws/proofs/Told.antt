-- What the program's entry of an external name tells of each object of that name (C90 6.1.2.6).
use Rattle.std.proofs.Common.{◌≡◌, ◌≢◌, ℕ, zero, suc, ◌+◌, Bool, true, false, not, ◌&&◌, ◌||◌, if◌then◌else◌, length, List, [], ◌∷◌, ◌++◌, Option, Some, None, ◌⊎◌, inl, inr, refl, ap, sym, subst, ◌∙◌, true≢false, arith}
use Rattle.std.specs.Prelude.{slice_get, slice_set, slice_index_or}
use Rattle.sp_types.specs.Types.{CType, array, Struct}
use Rattle.sp_types.specs.Programs.{Object as TypedObject, Function as TypedFunction}
use Rattle.sp_check_operands.specs.Conversions.{is_open_struct}
use Rattle.sp_check_scopes.specs.Scopes.{entry}
use Rattle.sp_check_env.specs.declared.env.Entity.{Entity}
use Rattle.sp_check_env.specs.declared.env.Entity.TheVariants.{Object, Function}
use Rattle.sp_base_checked.specs.Units.{CheckedUnit}
use Rattle.sp_check_primaries.specs.Composite.{composite}
use Rattle.sp_link_conflicts.specs.Declarations.{is_external, is_defined}
use Rattle.sp_link_entries.specs.Entries.{ObjectEntry, FunctionEntry, Joined, Numbers, linked, with_link, with_function}
use Rattle.sp_link_entries.specs.Objects.{owned_by, is_dropped, object_entry, tells_more, object_told, object_composed, object_met, object_apart, object_again, object_first, object_linked, object_joined, next_object, objects_joined}
use Rattle.sp_link_entries.specs.Functions.{function_entry, function_met, function_apart, function_linked, function_joined, next_function, functions_joined}
use Rattle.sp_link_entries.specs.Units.{unit_joined, next_unit, units_joined}
use Rattle.sp_link_renaming.specs.Renaming.{number_in, renamed_type}
use Rattle.sp_check_typing.specs.Refines.{KeepsLength}
use Rattle.sp_check_typing.specs.Statements.{is_lasting}
use Rattle.sp_link_renaming_laws.specs.Follows.{lacks_layout}
use Rattle.sp_link_names_laws.proofs.Links.{inserted_same, inserted_other}
use Rattle.sp_link_names_laws.proofs.Numbered.{pushed_before, pushed_last, pushed_length, some_is, next_longer, behind_objects}
use Rattle.sp_link_names_laws.proofs.Own.{set_other}
use Rattle.sp_link_names_laws.proofs.Sources.{inserted_key}
use Rattle.sp_link_entries_laws.proofs.Walk.{owned, AreNext, behind, first_next, others_next, AreBehind, first_behind, others_behind}
use Rattle.sp_link_entries_laws.proofs.Entries.{same_or_not}
use Rattle.sp_link_entries_laws.proofs.Like.{Like, FitsLength, like_composite, first_keeps, second_keeps, both_fit, self_keeps}

-- an external object of one of the units
pub record IsExternal (xs : List CheckedUnit) (u : ℕ) (x : CheckedUnit) (k : ℕ) (o : TypedObject) : Type 0 where
  pub unit : slice_get xs u ≡ Some x
  pub object : slice_get x.objects k ≡ Some o
  pub external : is_external o.linkage ≡ true

-- `ss` are the program's numbers of a unit's structs, and `ts` its structs: the entry's struct is the
-- unit's, or one of the two is incomplete
abbrev pub Meets : List Struct → List ℕ → ObjectEntry → ℕ → ℕ → Type 0
Meets ts ss e k j = (lacks_layout ts k ≡ true) ⊎ ((e.incomplete ≡ true) ⊎ (j ≡ number_in ss k))

both : (a b : Bool) → (a && b) ≡ true → (a ≡ true) × (b ≡ true)
both true b h = (refl, h)
both false b h = absurd (true≢false (sym h))

is_not : (a : Bool) → not a ≡ true → a ≡ false
is_not false h = refl
is_not true h = absurd (true≢false (sym h))

neither : (a b c : Bool) → (a || b && not c) ≡ false → c ≡ false → b ≡ false
neither true b c h e = absurd (true≢false h)
neither false false c h e = refl
neither false true true h e = absurd (true≢false e)
neither false true false h e = absurd (true≢false h)

object_is : (k n : ℕ) → Object k ≡ Object n → k ≡ n
object_is k n e = cc

no_object : (k n : ℕ) → Function k ≡ Object n → ⊥
no_object k n e = absurd (cc)

module _ (xs : List CheckedUnit) (sss : List (List ℕ))
    (E : ℕ → CType → CType → Type 0) (elements : (u : ℕ) (t a b : CType) → E u t a → E u t (composite a b))
    (own : (u : ℕ) (x : CheckedUnit) (k : ℕ) (o : TypedObject) → IsExternal xs u x k o → (a : CType) (n : Option ℕ)
    → o.of ≡ array a n → E u a (renamed_type (slice_index_or sss u []) a))
    (Holds : CType → Type 0)
    (holds : (u : ℕ) (x : CheckedUnit) (k : ℕ) (o : TypedObject) → IsExternal xs u x k o
    → Holds (renamed_type (slice_index_or sss u []) o.of))
    (held_first : (u : ℕ) (S : ℕ → ℕ → Type 0) (t b : CType) → Like FitsLength S (E u) t b
    → Holds (renamed_type (slice_index_or sss u []) t) → Holds b
    → Holds (composite (renamed_type (slice_index_or sss u []) t) b))
    (held_second : (u : ℕ) (S : ℕ → ℕ → Type 0) (t b : CType) → Like FitsLength S (E u) t b
    → Holds (renamed_type (slice_index_or sss u []) t) → Holds b
    → Holds (composite b (renamed_type (slice_index_or sss u []) t)))
    (pairs : (u v : ℕ) (x y : CheckedUnit) (i k : ℕ) (o p : TypedObject) → IsExternal xs u x i o → IsExternal xs v y k p
    → o.name ≡ p.name → Like FitsLength
    (Meets x.structs (slice_index_or sss u []) (object_entry y.structs (slice_index_or sss v []) v p)) (E u)
    o.of (renamed_type (slice_index_or sss v []) p.of))
    (lasts : (u : ℕ) (x : CheckedUnit) (k : ℕ) (o : TypedObject) → IsExternal xs u x k o → is_lasting o.storage ≡ true)
    (complete : (u : ℕ) (x : CheckedUnit) (k : ℕ) (o : TypedObject) → IsExternal xs u x k o
    → is_defined o.storage ≡ true → is_open_struct x.structs o.of ≡ false) where
  abbrev numbers : ℕ → List ℕ
  numbers u = slice_index_or sss u []

  -- the entry of a name; what has the name, has a type that fits the entry's
  pub record IsNamed (name : ℕ) (e : ObjectEntry) : Type 0 where
    pub name_is : e.source.name ≡ name
    pub lasting : is_lasting e.source.storage ≡ true
    pub fits : (u : ℕ) (x : CheckedUnit) (k : ℕ) (o : TypedObject) → IsExternal xs u x k o → o.name ≡ name
        → Like FitsLength (Meets x.structs (numbers u) e) (E u) o.of e.of
    pub held : Holds e.of

  -- behind an object of the name the entry tells its length, and the members of its struct
  pub record IsTold (u : ℕ) (x : CheckedUnit) (o : TypedObject) (e : ObjectEntry) : Type 0 where
    pub named : Like KeepsLength (Meets x.structs (numbers u) e) (E u) o.of e.of
    pub whole : is_open_struct x.structs o.of ≡ false → e.incomplete ≡ false

  -- each linked object has its entry
  abbrev pub AreNamed : Joined → Type 0
  AreNamed j = (name n : ℕ) → entry j.links name ≡ Some (Object n)
      → (e : ObjectEntry) × (slice_get j.objects n ≡ Some e) × IsNamed name e

  -- the name is linked; where to an object, that one tells
  pub record HasTold (u : ℕ) (x : CheckedUnit) (o : TypedObject) (j : Joined) : Type 0 where
    pub entity : Entity
    pub link : entry j.links o.name ≡ Some entity
    pub told : (n : ℕ) (e : ObjectEntry) → entity ≡ Object n → slice_get j.objects n ≡ Some e → IsTold u x o e

  abbrev pub KeepsTold : Joined → Joined → Type 0
  KeepsTold j i = (u : ℕ) (x : CheckedUnit) (k : ℕ) (o : TypedObject) → IsExternal xs u x k o → HasTold u x o j
      → HasTold u x o i

  -- ---- an external object is joined

  module _ (v : ℕ) (y : CheckedUnit) (m : ℕ) (p : TypedObject) (h : IsExternal xs v y m p) where
    abbrev new : ObjectEntry
    new = object_entry y.structs (numbers v) v p

    pair : (u : ℕ) (x : CheckedUnit) (k : ℕ) (o : TypedObject) → IsExternal xs u x k o → o.name ≡ p.name
        → Like FitsLength (Meets x.structs (numbers u) new) (E u) o.of new.of
    pair u x k o g same = pairs u v x y k m o p g h same

    new_named : IsNamed p.name new
    new_named = record {
      name_is = refl;
      lasting = lasts v y m p h;
      fits = λ u x k o g same. pair u x k o g same;
      held = holds v y m p h;
    }

    new_told : IsTold v y p new
    new_told = record {
      named = self_keeps (Meets y.structs (numbers v) new) (E v) (numbers v) (λ k. inr (inr refl)) p.of (own v y m p h);
      whole = λ e. e;
    }

    -- what tells more is complete where the other is
    more_whole : (old : ObjectEntry) → tells_more new old ≡ true → new.incomplete ≡ false
    more_whole old t = by (is_defined p.storage) refl t
      where
        by : (b : Bool) → is_defined p.storage ≡ b → (b || old.incomplete && not new.incomplete) ≡ true
            → new.incomplete ≡ false
        by true e f = complete v y m p h e
        by false e f = is_not new.incomplete (both old.incomplete (not new.incomplete) f).1

    module _ (old : ObjectEntry) (was : IsNamed p.name old) where
      composed_named : (b : Bool) → IsNamed p.name (if b then object_told new old else object_told old new)
      composed_named true = record {
        name_is = refl;
        lasting = lasts v y m p h;
        fits = λ u x k o g same. like_composite FitsLength FitsLength FitsLength (Meets x.structs (numbers u) new)
            (Meets x.structs (numbers u) old) (E u) both_fit (elements u) o.of new.of old.of (pair u x k o g same) (was.fits u x k o g same);
        held = held_first v (Meets y.structs (numbers v) old) p.of old.of (was.fits v y m p h refl) (holds v y m p h) was.held;
      }
      composed_named false = record {
        name_is = was.name_is;
        lasting = was.lasting;
        fits = λ u x k o g same. like_composite FitsLength FitsLength FitsLength (Meets x.structs (numbers u) old)
            (Meets x.structs (numbers u) new) (E u) both_fit (elements u) o.of old.of new.of (was.fits u x k o g same) (pair u x k o g same);
        held = held_second v (Meets y.structs (numbers v) old) p.of old.of (was.fits v y m p h refl) (holds v y m p h) was.held;
      }

      composed_told : (u : ℕ) (x : CheckedUnit) (k : ℕ) (o : TypedObject) → IsExternal xs u x k o → o.name ≡ p.name
          → IsTold u x o old → (b : Bool) → tells_more new old ≡ b
          → IsTold u x o (if b then object_told new old else object_told old new)
      composed_told u x k o g same t true e = record {
        named = like_composite FitsLength KeepsLength KeepsLength (Meets x.structs (numbers u) new)
            (Meets x.structs (numbers u) old) (E u) second_keeps (elements u) o.of new.of old.of (pair u x k o g same) t.named;
        whole = λ c. more_whole old e;
      }
      composed_told u x k o g same t false e = record {
        named = like_composite KeepsLength FitsLength KeepsLength (Meets x.structs (numbers u) old)
            (Meets x.structs (numbers u) new) (E u) first_keeps (elements u) o.of old.of new.of t.named (pair u x k o g same);
        whole = t.whole;
      }

      new_composed : (b : Bool) → tells_more new old ≡ b
          → IsTold v y p (if b then object_told new old else object_told old new)
      new_composed true e = record {
        named = like_composite KeepsLength FitsLength KeepsLength (Meets y.structs (numbers v) new)
            (Meets y.structs (numbers v) old) (E v) first_keeps (elements v) p.of new.of old.of new_told.named (was.fits v y m p h refl);
        whole = λ c. more_whole old e;
      }
      new_composed false e = record {
        named = like_composite FitsLength KeepsLength KeepsLength (Meets y.structs (numbers v) old)
            (Meets y.structs (numbers v) new) (E v) second_keeps (elements v) p.of old.of new.of (was.fits v y m p h refl) new_told.named;
        whole = λ c. neither (is_defined p.storage) old.incomplete new.incomplete e c;
      }

  -- ---- into what is joined

  module _ (j : Joined) (good : AreNamed j) where
    pushed_named : (e : ObjectEntry) → AreNamed (object_apart j e).1
    pushed_named e name n l =
        let w : (d : ObjectEntry) × (slice_get j.objects n ≡ Some d) × IsNamed name d = good name n l in
        (w.0, pushed_before j.objects e w.0 n w.1, w.2)

    -- what is behind a link stays
    stays_there : (e : ObjectEntry) (name n : ℕ) (d : ObjectEntry) → entry j.links name ≡ Some (Object n)
        → slice_get (j.objects ++ e ∷ []) n ≡ Some d → slice_get j.objects n ≡ Some d
    stays_there e name n d l at =
        let w : (c : ObjectEntry) × (slice_get j.objects n ≡ Some c) × IsNamed name c = good name n l in
        w.1 ∙ sym (pushed_before j.objects e w.0 n w.1) ∙ at

    pushed_told : (e : ObjectEntry) → KeepsTold j (object_apart j e).1
    pushed_told e u x k o g t = record {
      entity = t.entity;
      link = t.link;
      told = λ n d is at. t.told n d is (stays_there e o.name n d (t.link ∙ ap Some is) at);
    }

    module _ (v : ℕ) (y : CheckedUnit) (m : ℕ) (p : TypedObject) (h : IsExternal xs v y m p) where
      abbrev it : ObjectEntry
      it = object_entry y.structs (numbers v) v p

      -- the first of its name
      module _ (none : linked j p.name ≡ None) where
        first_named : AreNamed (object_first j it).1
        first_named name n l = by (inserted_key j.links p.name (Object (length j.objects)) name (Object n) l)
          where
            by : (entry j.links name ≡ Some (Object n)) ⊎ ((name ≡ p.name) × (Object (length j.objects) ≡ Object n))
                → (e : ObjectEntry) × (slice_get (j.objects ++ it ∷ []) n ≡ Some e) × IsNamed name e
            by (inl old) = pushed_named it name n old
            by (inr w) =
                let same : length j.objects ≡ n = object_is (length j.objects) n w.1 in (
                  it,
                  subst (λ i. slice_get (j.objects ++ it ∷ []) i ≡ Some it) same (pushed_last j.objects it),
                  subst (λ i. IsNamed i it) (sym w.0) (new_named v y m p h),
                )

        first_told : KeepsTold j (object_first j it).1
        first_told u x k o g t = record {
          entity = t.entity;
          link = inserted_other j.links p.name (Object (length j.objects)) o.name t.entity none t.link;
          told = λ n d is at. t.told n d is (stays_there it o.name n d (t.link ∙ ap Some is) at);
        }

        first_new : HasTold v y p (object_first j it).1
        first_new = record {
          entity = Object (length j.objects);
          link = inserted_same j.links p.name (Object (length j.objects)) none;
          told = λ n d is at. subst (IsTold v y p)
              (some_is it d (sym (pushed_last j.objects it)
              ∙ ap (slice_get (j.objects ++ it ∷ [])) (object_is (length j.objects) n is) ∙ at)) (new_told v y m p h);
        }

      -- a further one
      module _ (at : ℕ) (link : linked j p.name ≡ Some (Object at)) (old : ObjectEntry)
          (there : slice_get j.objects at ≡ Some old) where
        was : IsNamed p.name old
        was =
            let w : (d : ObjectEntry) × (slice_get j.objects at ≡ Some d) × IsNamed p.name d = good p.name at link in
            subst (IsNamed p.name) (some_is w.0 old (sym w.1 ∙ there)) w.2

        abbrev whole : ObjectEntry
        whole = object_composed old it

        set_there : slice_get (slice_set j.objects at whole) at ≡ Some whole
        set_there = set_same j.objects at whole old there
          where
            set_same : {A : Type 0} (zs : List A) (i : ℕ) (z w : A) → slice_get zs i ≡ Some w
                → slice_get (slice_set zs i z) i ≡ Some z
            set_same [] i z w e = absurd (cc)
            set_same (c ∷ cs) zero z w e = refl
            set_same (c ∷ cs) (suc i) z w e = set_same cs i z w e

        again_named : AreNamed (object_again j at it).1
        again_named = subst (λ c. AreNamed (object_met j at it c)) (sym there) named
          where
            named : AreNamed (object_met j at it (Some old))
            named name n l =
                let w : (d : ObjectEntry) × (slice_get j.objects n ≡ Some d) × IsNamed name d = good name n l in
                by w (same_or_not at n)
              where
                by : (d : ObjectEntry) × (slice_get j.objects n ≡ Some d) × IsNamed name d → (at ≡ n) ⊎ (at ≢ n)
                    → (e : ObjectEntry) × (slice_get (slice_set j.objects at whole) n ≡ Some e) × IsNamed name e
                by w (inl same) =
                    let d_is : w.0 ≡ old = some_is w.0 old (sym w.1 ∙ ap (slice_get j.objects) (sym same) ∙ there) in
                    let name_is : p.name ≡ name = sym was.name_is ∙ ap (λ z. z.source.name) (sym d_is) ∙ w.2.name_is in (
                      whole,
                      subst (λ i. slice_get (slice_set j.objects at whole) i ≡ Some whole) same set_there,
                      subst (λ i. IsNamed i whole) name_is (composed_named v y m p h old was (tells_more it old)),
                    )
                by w (inr apart) = (w.0, set_other j.objects at whole n apart ∙ w.1, w.2)

        again_told : KeepsTold j (object_again j at it).1
        again_told = subst (λ c. KeepsTold j (object_met j at it c)) (sym there) keeps
          where
            keeps : KeepsTold j (object_met j at it (Some old))
            keeps u x k o g t = record {
              entity = t.entity;
              link = t.link;
              told = λ n d is there_now. by n d is there_now (same_or_not at n);
            }
              where
                by : (n : ℕ) (d : ObjectEntry) → t.entity ≡ Object n
                    → slice_get (slice_set j.objects at whole) n ≡ Some d → (at ≡ n) ⊎ (at ≢ n) → IsTold u x o d
                by n d is now (inl same) =
                    let w : (c : ObjectEntry) × (slice_get j.objects n ≡ Some c) × IsNamed o.name c = good o.name n (t.link ∙ ap Some is) in
                    let c_is : w.0 ≡ old = some_is w.0 old (sym w.1 ∙ ap (slice_get j.objects) (sym same) ∙ there) in
                    let name_is : o.name ≡ p.name = sym w.2.name_is ∙ ap (λ z. z.source.name) c_is ∙ was.name_is in
                    let before : IsTold u x o old = t.told n old is (ap (slice_get j.objects) (sym same) ∙ there) in
                    let d_is : whole ≡ d = some_is whole d (sym set_there ∙ ap (slice_get (slice_set j.objects at whole)) same ∙ now) in
                    subst (IsTold u x o) d_is
                    (composed_told v y m p h old was u x k o g name_is before (tells_more it old) refl)
                by n d is now (inr apart) = t.told n d is (sym (set_other j.objects at whole n apart) ∙ now)

        again_new : HasTold v y p (object_again j at it).1
        again_new = subst (λ c. HasTold v y p (object_met j at it c)) (sym there) (record {
          entity = Object at;
          link = link;
          told = λ n d is now. subst (IsTold v y p)
              (some_is whole d (sym set_there ∙ ap (slice_get (slice_set j.objects at whole)) (object_is at n is) ∙ now))
              (new_composed v y m p h old was (tells_more it old) refl);
        })

      -- ---- whatever the name is linked to

      linked_named : (l : Option Entity) → linked j p.name ≡ l → AreNamed (object_linked j it l).1
      linked_named None e = first_named e
      linked_named (Some (Object at)) e =
          let w : (d : ObjectEntry) × (slice_get j.objects at ≡ Some d) × IsNamed p.name d = good p.name at e in
          again_named at e w.0 w.1
      linked_named (Some (Function k)) e = pushed_named it

      linked_told : (l : Option Entity) → linked j p.name ≡ l → KeepsTold j (object_linked j it l).1
      linked_told None e = first_told e
      linked_told (Some (Object at)) e =
          let w : (d : ObjectEntry) × (slice_get j.objects at ≡ Some d) × IsNamed p.name d = good p.name at e in
          again_told at e w.0 w.1
      linked_told (Some (Function k)) e = pushed_told it

      linked_new : (l : Option Entity) → linked j p.name ≡ l → HasTold v y p (object_linked j it l).1
      linked_new None e = first_new e
      linked_new (Some (Object at)) e =
          let w : (d : ObjectEntry) × (slice_get j.objects at ≡ Some d) × IsNamed p.name d = good p.name at e in
          again_new at e w.0 w.1
      linked_new (Some (Function k)) e =
          record { entity = Function k; link = e; told = λ n d is at. absurd (no_object k n is) }

      choice_named : (b : Bool) → b ≡ true
          → AreNamed (if b then object_linked j it (linked j p.name) else object_apart j it).1
      choice_named true e = linked_named (linked j p.name) refl
      choice_named false e = absurd (true≢false (sym e))

      choice_told : (b : Bool) → b ≡ true
          → KeepsTold j (if b then object_linked j it (linked j p.name) else object_apart j it).1
      choice_told true e = linked_told (linked j p.name) refl
      choice_told false e = absurd (true≢false (sym e))

      choice_new : (b : Bool) → b ≡ true
          → HasTold v y p (if b then object_linked j it (linked j p.name) else object_apart j it).1
      choice_new true e = linked_new (linked j p.name) refl
      choice_new false e = absurd (true≢false (sym e))

      external_named : AreNamed (object_joined j it).1
      external_named = choice_named (is_external p.linkage) h.external

      external_told : KeepsTold j (object_joined j it).1
      external_told = choice_told (is_external p.linkage) h.external

      external_new : HasTold v y p (object_joined j it).1
      external_new = choice_new (is_external p.linkage) h.external

    -- an object without external linkage
    module _ (e : ObjectEntry) where
      other_choice_named : (b : Bool) → b ≡ false
          → AreNamed (if b then object_linked j e (linked j e.source.name) else object_apart j e).1
      other_choice_named true f = absurd (true≢false f)
      other_choice_named false f = pushed_named e

      other_choice_told : (b : Bool) → b ≡ false
          → KeepsTold j (if b then object_linked j e (linked j e.source.name) else object_apart j e).1
      other_choice_told true f = absurd (true≢false f)
      other_choice_told false f = pushed_told e

      other_named : is_external e.source.linkage ≡ false → AreNamed (object_joined j e).1
      other_named f = other_choice_named (is_external e.source.linkage) f

      other_told : is_external e.source.linkage ≡ false → KeepsTold j (object_joined j e).1
      other_told f = other_choice_told (is_external e.source.linkage) f

  -- ---- a function is joined

  same_objects : (j i : Joined) → i.objects ≡ j.objects → i.links ≡ j.links → AreNamed j → AreNamed i
  same_objects j i os ls good name n l =
      let w : (d : ObjectEntry) × (slice_get j.objects n ≡ Some d) × IsNamed name d =
      good name n (ap (λ z. entry z name) (sym ls) ∙ l) in
      (w.0, ap (λ z. slice_get z n) os ∙ w.1, w.2)

  same_told : (j i : Joined) → i.objects ≡ j.objects → i.links ≡ j.links → KeepsTold j i
  same_told j i os ls u x k o g t = record {
    entity = t.entity;
    link = ap (λ z. entry z o.name) ls ∙ t.link;
    told = λ n d is at. t.told n d is (ap (λ z. slice_get z n) (sym os) ∙ at);
  }

  module _ (j : Joined) (e : FunctionEntry) where
    function_met_named : (k : ℕ) (old : Option FunctionEntry) → AreNamed j → AreNamed (function_met j k e old)
    function_met_named k None good = good
    function_met_named k (Some old) good = same_objects j (function_met j k e (Some old)) refl refl good

    function_met_told : (k : ℕ) (old : Option FunctionEntry) → KeepsTold j (function_met j k e old)
    function_met_told k None u x i o g t = t
    function_met_told k (Some old) u x i o g t = same_told j (function_met j k e (Some old)) refl refl u x i o g t

    first_function_named : AreNamed j
        → AreNamed (with_link (with_function j e) e.source.name (Function (length j.functions)))
    first_function_named good name n l =
        by (inserted_key j.links e.source.name (Function (length j.functions)) name (Object n) l)
      where
        by : (entry j.links name ≡ Some (Object n)) ⊎ ((name ≡ e.source.name) × (Function (length j.functions) ≡ Object n))
            → (d : ObjectEntry) × (slice_get j.objects n ≡ Some d) × IsNamed name d
        by (inl old) = good name n old
        by (inr w) = absurd (no_object (length j.functions) n w.1)

    function_linked_named : (l : Option Entity) → AreNamed j → AreNamed (function_linked j e l).1
    function_linked_named None good = first_function_named good
    function_linked_named (Some (Function k)) good = function_met_named k (slice_get j.functions k) good
    function_linked_named (Some (Object k)) good = same_objects j (function_apart j e).1 refl refl good

    function_linked_told : (l : Option Entity) → linked j e.source.name ≡ l → KeepsTold j (function_linked j e l).1
    function_linked_told None none u x k o g t = record {
      entity = t.entity;
      link = inserted_other j.links e.source.name (Function (length j.functions)) o.name t.entity none t.link;
      told = t.told;
    }
    function_linked_told (Some (Function n)) l u x k o g t = function_met_told n (slice_get j.functions n) u x k o g t
    function_linked_told (Some (Object n)) l u x k o g t = same_told j (function_apart j e).1 refl refl u x k o g t

    function_choice_named : (b : Bool) → AreNamed j
        → AreNamed (if b then function_linked j e (linked j e.source.name) else function_apart j e).1
    function_choice_named true good = function_linked_named (linked j e.source.name) good
    function_choice_named false good = same_objects j (function_apart j e).1 refl refl good

    function_choice_told : (b : Bool)
        → KeepsTold j (if b then function_linked j e (linked j e.source.name) else function_apart j e).1
    function_choice_told true = function_linked_told (linked j e.source.name) refl
    function_choice_told false = same_told j (function_apart j e).1 refl refl

    function_named : AreNamed j → AreNamed (function_joined j e).1
    function_named good = function_choice_named (is_external e.source.linkage) good

    function_told : KeepsTold j (function_joined j e).1
    function_told = function_choice_told (is_external e.source.linkage)

  -- ---- the objects of a unit

  module _ (u : ℕ) (x : CheckedUnit) (at : slice_get xs u ≡ Some x) where
    next_named : (y : List ℕ × Joined) (b : Bool) (o : TypedObject) (k : ℕ) → slice_get x.objects k ≡ Some o
        → AreNamed y.1 → AreNamed (next_object x.structs (numbers u) u y b o).1
    next_named y true o k there good = good
    next_named y false o k there good = by (is_external o.linkage) refl
      where
        by : (c : Bool) → is_external o.linkage ≡ c → AreNamed (object_joined y.1 (object_entry x.structs (numbers u) u o)).1
        by true e = external_named y.1 good u x k o (record { unit = at; object = there; external = e })
        by false e = other_named y.1 good (object_entry x.structs (numbers u) u o) e

    joined_told : (j : Joined) (o : TypedObject) (k : ℕ) → slice_get x.objects k ≡ Some o → AreNamed j
        → (b : Bool) → is_external o.linkage ≡ b
        → KeepsTold j (object_joined j (object_entry x.structs (numbers u) u o)).1
    joined_told j o k there good true e =
        external_told j good u x k o (record { unit = at; object = there; external = e })
    joined_told j o k there good false e = other_told j good (object_entry x.structs (numbers u) u o) e

    next_told : (y : List ℕ × Joined) (b : Bool) (o : TypedObject) (k : ℕ) → slice_get x.objects k ≡ Some o
        → AreNamed y.1 → KeepsTold y.1 (next_object x.structs (numbers u) u y b o).1
    next_told y true o k there good v z i p g t = t
    next_told y false o k there good v z i p g t =
        joined_told y.1 o k there good (is_external o.linkage) refl v z i p g t

    objects_named : (os : List TypedObject) (y : List ℕ × Joined) → AreNext (numbers u) u x os y → AreNamed y.1
        → AreNamed (objects_joined x.structs (numbers u) (owned (numbers u) u x) u y os).1
    objects_named [] y w good = good
    objects_named (o ∷ os) y w good =
        objects_named os (behind (numbers u) u x y o) (others_next (numbers u) u x o os y w)
        (next_named y (is_dropped (owned (numbers u) u x) (length y.0) o.storage) o (length y.0) (first_next (numbers u) u x o os y w) good)

    objects_keep_told : (os : List TypedObject) (y : List ℕ × Joined) → AreNext (numbers u) u x os y → AreNamed y.1
        → KeepsTold y.1 (objects_joined x.structs (numbers u) (owned (numbers u) u x) u y os).1
    objects_keep_told [] y w good v z i p g t = t
    objects_keep_told (o ∷ os) y w good v z i p g t =
        objects_keep_told os (behind (numbers u) u x y o) (others_next (numbers u) u x o os y w)
        (next_named y (is_dropped (owned (numbers u) u x) (length y.0) o.storage) o (length y.0) (first_next (numbers u) u x o os y w) good) v z i p g
        (next_told y (is_dropped (owned (numbers u) u x) (length y.0) o.storage) o (length y.0) (first_next (numbers u) u x o os y w) good v z i p g t)

    new_here : (o : TypedObject) (os : List TypedObject) (y : List ℕ × Joined) (b : Bool) → b ≡ false
        → slice_get x.objects (length y.0) ≡ Some o → is_external o.linkage ≡ true → AreNamed y.1
        → HasTold u x o (next_object x.structs (numbers u) u y b o).1
    new_here o os y true d there e good = absurd (true≢false d)
    new_here o os y false d there e good =
        external_new y.1 good u x (length y.0) o (record { unit = at; object = there; external = e })

    objects_told : (os : List TypedObject) (y : List ℕ × Joined) → AreNext (numbers u) u x os y → AreNamed y.1 → (i k : ℕ) (o : TypedObject)
        → k ≡ length y.0 + i → slice_get os i ≡ Some o → is_external o.linkage ≡ true → is_dropped (owned (numbers u) u x) k o.storage ≡ false
        → HasTold u x o (objects_joined x.structs (numbers u) (owned (numbers u) u x) u y os).1
    objects_told [] y w good i k o p e t d = absurd (cc)
    objects_told (z ∷ zs) y w good zero k o p e t d =
        let same : z ≡ o = some_is z o e in
        let place : k ≡ length y.0 = omega arith in
        let dropped : is_dropped (owned (numbers u) u x) (length y.0) z.storage ≡ false =
        subst (λ n. is_dropped (owned (numbers u) u x) n z.storage ≡ false) place (subst (λ q. is_dropped (owned (numbers u) u x) k q.storage ≡ false) (sym same) d) in
        let there : slice_get x.objects (length y.0) ≡ Some z = first_next (numbers u) u x z zs y w in
        let external : is_external z.linkage ≡ true = subst (λ q. is_external q.linkage ≡ true) (sym same) t in
        let it_is : IsExternal xs u x (length y.0) z = record { unit = at; object = there; external = external } in
        subst (λ q. HasTold u x q (objects_joined x.structs (numbers u) (owned (numbers u) u x) u y (z ∷ zs)).1) same
        (objects_keep_told zs (behind (numbers u) u x y z) (others_next (numbers u) u x z zs y w)
        (next_named y (is_dropped (owned (numbers u) u x) (length y.0) z.storage) z (length y.0) there good) u x (length y.0) z it_is
        (new_here z zs y (is_dropped (owned (numbers u) u x) (length y.0) z.storage) dropped there external good))
    objects_told (z ∷ zs) y w good (suc i) k o p e t d =
        let longer : length (behind (numbers u) u x y z).0 ≡ length y.0 + 1 =
        next_longer x.structs (numbers u) (owned (numbers u) u x) u y (is_dropped (owned (numbers u) u x) (length y.0) z.storage) z in
        objects_told zs (behind (numbers u) u x y z) (others_next (numbers u) u x z zs y w)
        (next_named y (is_dropped (owned (numbers u) u x) (length y.0) z.storage) z (length y.0) (first_next (numbers u) u x z zs y w) good)
        i k o (omega (arith, longer, p)) e t d

  -- ---- its functions, and units

  module _ (ss : List ℕ) (u : ℕ) where
    functions_named : (fs : List TypedFunction) (y : List ℕ × Joined) → AreNamed y.1
        → AreNamed (functions_joined ss u y fs).1
    functions_named [] y good = good
    functions_named (f ∷ fs) y good =
        functions_named fs (next_function ss u y f) (function_named y.1 (function_entry ss u f) good)

    functions_told : (fs : List TypedFunction) (y : List ℕ × Joined) → KeepsTold y.1 (functions_joined ss u y fs).1
    functions_told [] y v z i p g t = t
    functions_told (f ∷ fs) y v z i p g t =
        functions_told fs (next_function ss u y f) v z i p g (function_told y.1 (function_entry ss u f) v z i p g t)

  module _ (u : ℕ) (x : CheckedUnit) (at : slice_get xs u ≡ Some x) (j : Joined) (good : AreNamed j) where
    abbrev joined_behind : Joined
    joined_behind = (behind_objects (numbers u) u j x).1

    all_next : AreNext (numbers u) u x x.objects ([], j)
    all_next i o e = subst (λ n. slice_get x.objects n ≡ Some o) (omega arith) e

    behind_named : AreNamed joined_behind
    behind_named = objects_named u x at x.objects ([], j) all_next good

    unit_named : AreNamed (unit_joined (numbers u) u j x).1
    unit_named name n l = functions_named (numbers u) u x.functions ([], joined_behind) behind_named name n l

    functions_behind_told : KeepsTold joined_behind (unit_joined (numbers u) u j x).1
    functions_behind_told v z i p g t =
        same_told (functions_joined (numbers u) u ([], joined_behind) x.functions).1 (unit_joined (numbers u) u j x).1
        refl refl v z i p g (functions_told (numbers u) u x.functions ([], joined_behind) v z i p g t)

    unit_keeps_told : KeepsTold j (unit_joined (numbers u) u j x).1
    unit_keeps_told v z i p g t =
        functions_behind_told v z i p g (objects_keep_told u x at x.objects ([], j) all_next good v z i p g t)

    unit_told : (k : ℕ) (o : TypedObject) → IsExternal xs u x k o
        → is_dropped (owned_by x.functions x.definitions) k o.storage ≡ false
        → HasTold u x o (unit_joined (numbers u) u j x).1
    unit_told k o g d =
        functions_behind_told u x k o g
        (objects_told u x at x.objects ([], j) all_next good k k o (omega arith) g.object g.external d)

  units_keep_told : (ws : List CheckedUnit) (y : List Numbers × Joined) → AreBehind xs sss ws y → AreNamed y.1
      → KeepsTold y.1 (units_joined sss y ws).1
  units_keep_told [] y w good v z i p g t = t
  units_keep_told (x ∷ ws) y w good v z i p g t =
      let here : slice_get xs (length y.0) ≡ Some x = first_behind xs sss x ws y w in
      units_keep_told ws (next_unit sss y x) (others_behind xs sss x ws y w) (unit_named (length y.0) x here y.1 good)
      v z i p g (unit_keeps_told (length y.0) x here y.1 good v z i p g t)

  pub units_named : (ws : List CheckedUnit) (y : List Numbers × Joined) → AreBehind xs sss ws y → AreNamed y.1
      → AreNamed (units_joined sss y ws).1
  units_named [] y w good = good
  units_named (x ∷ ws) y w good =
      units_named ws (next_unit sss y x) (others_behind xs sss x ws y w)
      (unit_named (length y.0) x (first_behind xs sss x ws y w) y.1 good)

  pub units_told : (ws : List CheckedUnit) (y : List Numbers × Joined) → AreBehind xs sss ws y → AreNamed y.1
      → (i u : ℕ) (x : CheckedUnit) → u ≡ length y.0 + i → slice_get ws i ≡ Some x
      → (k : ℕ) (o : TypedObject) → IsExternal xs u x k o
      → is_dropped (owned_by x.functions x.definitions) k o.storage ≡ false
      → HasTold u x o (units_joined sss y ws).1
  units_told [] y w good i u x p e k o g d = absurd (cc)
  units_told (z ∷ ws) y w good zero u x p e k o g d =
      let same : z ≡ x = some_is z x e in
      let place : length y.0 ≡ u = omega arith in
      let here : slice_get xs (length y.0) ≡ Some z = first_behind xs sss z ws y w in
      let it_is : IsExternal xs (length y.0) z k o =
      subst (λ n. IsExternal xs n z k o) (sym place) (subst (λ q. IsExternal xs u q k o) (sym same) g) in
      let dropped : is_dropped (owned_by z.functions z.definitions) k o.storage ≡ false =
      subst (λ q. is_dropped (owned_by q.functions q.definitions) k o.storage ≡ false) (sym same) d in
      let now : HasTold (length y.0) z o (units_joined sss y (z ∷ ws)).1 =
      units_keep_told ws (next_unit sss y z) (others_behind xs sss z ws y w) (unit_named (length y.0) z here y.1 good)
      (length y.0) z k o it_is (unit_told (length y.0) z here y.1 good k o it_is dropped) in
      subst (λ n. HasTold n x o (units_joined sss y (z ∷ ws)).1) place
      (subst (λ q. HasTold (length y.0) q o (units_joined sss y (z ∷ ws)).1) same now)
  units_told (z ∷ ws) y w good (suc i) u x p e k o g d =
      let longer : length (next_unit sss y z).0 ≡ length y.0 + 1 =
      pushed_length y.0 (unit_joined (numbers (length y.0)) (length y.0) y.1 z).0 in
      units_told ws (next_unit sss y z) (others_behind xs sss z ws y w)
      (unit_named (length y.0) z (first_behind xs sss z ws y w) y.1 good) i u x (omega (arith, longer, p)) e k o g d
