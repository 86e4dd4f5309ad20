-- What units name is in their program.
use Rattle.std.proofs.Common.{◌≡◌, ℕ, zero, suc, ◌<◌, Bool, true, false, not, ◌&&◌, ◌||◌, length, map, nat_eq, List, [], ◌∷◌, ◌++◌, Some, None, ◌⊎◌, inl, inr, refl, ap, sym, subst, ◌∙◌, true≢false, eqb-true, eq-eqb, arith}
use Rattle.std.proofs.lemmas.List.{map-append}
use Rattle.std.specs.Prelude.{slice_get, slice_index_or}
use Rattle.std.specs.List.{list_any}
use Rattle.sp_types.specs.declared.program.Storage.{Storage}
use Rattle.sp_types.specs.declared.program.Storage.TheVariants.{Static, Outside, Text, Auto, Formal}
use Rattle.sp_types.specs.Types.{CType, void, integer, floating, pointer, array, structure, function, Struct}
use Rattle.sp_types.specs.Layout.{layout}
use Rattle.sp_types.specs.Structs.{IsFormed}
use Rattle.sp_types.specs.Programs.{Object, Function, Program}
use Rattle.sp_base_checked.specs.Units.{CheckedUnit}
use Rattle.sp_link_structs.specs.Matching.{Matching}
use Rattle.sp_link_structs.specs.Laws.{StructsAreThere}
use Rattle.sp_link_conflicts.specs.Declarations.{is_external}
use Rattle.sp_link_conflicts.specs.Conflicts.{tables_of}
use Rattle.sp_link_entries.specs.Entries.{ObjectEntry, Joined, Numbers, nothing_joined, renumbered}
use Rattle.sp_link_entries.specs.Objects.{own_objects, owned_by, is_passing, is_dropped, object_entry}
use Rattle.sp_link_units.specs.Making.{completed, final_types, renaming, no_renaming, renaming_of_unit, struct_made, object_made, object_renamed, function_made}
use Rattle.sp_link_units.specs.Linking.{renamings}
use Rattle.sp_link_renaming.specs.Renaming.{Renaming, number_in}
use Rattle.sp_check_typing.specs.Refines.{MayName, names_void, names_integer, names_floating, names_pointer, names_array, names_struct, names_open, names_function}
use Rattle.sp_check_typing.specs.Statements.{is_lasting}
use Rattle.sp_check_typing.specs.Programs.{lasts, sees, scene_of}
use Rattle.sp_check_unit_laws.specs.Units.{scene_in}
use Rattle.sp_link_structs_laws.specs.Tables.{program_struct, program_structs}
use Rattle.sp_link_structs_laws.proofs.Lists.{none_some, some_is, get_below, get_there, map_got, index_got}
use Rattle.sp_link_structs_laws.proofs.Linked.{joined_structs, made_is, map_same}
use Rattle.sp_link_renaming_laws.specs.Follows.{lacks_layout, IsObjectIn, StructsFollow, Follows}
use Rattle.sp_link_renaming_laws.proofs.Types.{repeated_small}
use Rattle.sp_link_follow_laws.specs.Laws.{LinkedStructsFollow}
use Rattle.sp_link_names_laws.specs.Names.{all_joined}
use Rattle.sp_check_expr_laws.proofs.Types.{or_left, or_right}
use Rattle.sp_link_entries_laws.specs.Joined.{IsObjectOf, StandsFor, LinkedObjectsStand, FunctionStandsFor, LinkedFunctionsStand, IsFrom, LinkedEntriesAreTold, ObjectsAreNumbered, FunctionsAreNumbered}
use Rattle.sp_link_typed_laws.proofs.Units.{linked_of, external_lasts}
use Rattle.sp_link_typed_laws.specs.Linked.{linked_program, AreTypedUnits, IsDefinedIn, LinkedUnitsFollow, LinkedStaticsFollow}

-- ---- types that are completed

completed_named : (o : ℕ → Bool) (f : ℕ → ℕ) (t u : CType) → MayName o f t u → MayName o f t (completed u)
completed_named o f t u names_void = names_void
completed_named o f t u (names_integer k) = names_integer k
completed_named o f t u (names_floating k) = names_floating k
completed_named o f t u (names_pointer a b) = names_pointer a b
completed_named o f t u (names_array a b n (Some m) k) = names_array a b n (Some m) k
completed_named o f t u (names_array a b None None k) = names_array a b None (Some 1) tt
completed_named o f t u (names_array a b (Some n) None k) = absurd (none_some n k)
completed_named o f t u (names_struct k) = names_struct k
completed_named o f t u (names_open k j e) = names_open k j e
completed_named o f t u (names_function r s) = names_function r s

pub completed_formed : (ss : List Struct) (t : CType) → IsFormed ss t → IsFormed ss (completed t)
completed_formed ss (array t None) h = (h, omega arith, repeated_small 1 (layout ss t))
completed_formed ss (array t (Some n)) h = h
completed_formed ss void h = h
completed_formed ss (integer k) h = h
completed_formed ss (floating k) h = h
completed_formed ss (pointer t) h = h
completed_formed ss (structure k) h = h
completed_formed ss (function s) h = h

-- ---- what lasts, and what a function owns

not_true : (b : Bool) → (b ≡ true → ⊥) → b ≡ false
not_true true h = absurd (h refl)
not_true false h = refl

pub lasting_stays : (s : Storage) → is_lasting s ≡ true → is_passing s ≡ false
lasting_stays Static h = refl
lasting_stays Outside h = refl
lasting_stays Text h = refl
lasting_stays Auto h = absurd (true≢false (sym h))
lasting_stays Formal h = absurd (true≢false (sym h))

pub and_none : (b : Bool) → (b && false) ≡ false
and_none true = refl
and_none false = refl

any_left : (p : ℕ → Bool) (xs ys : List ℕ) → list_any p xs ≡ true → list_any p (xs ++ ys) ≡ true
any_left p [] ys h = absurd (true≢false (sym h))
any_left p (x ∷ xs) ys h = by (p x) h (any_left p xs ys)
  where
    by : (b : Bool) → (b || list_any p xs) ≡ true → (list_any p xs ≡ true → list_any p (xs ++ ys) ≡ true)
        → (b || list_any p (xs ++ ys)) ≡ true
    by true g ih = refl
    by false g ih = ih g

any_right : (p : ℕ → Bool) (xs ys : List ℕ) → list_any p ys ≡ true → list_any p (xs ++ ys) ≡ true
any_right p [] ys h = h
any_right p (x ∷ xs) ys h = by (p x) (any_right p xs ys h)
  where
    by : (b : Bool) → list_any p (xs ++ ys) ≡ true → (b || list_any p (xs ++ ys)) ≡ true
    by true g = refl
    by false g = g

equal_self : (n : ℕ) → nat_eq n n ≡ true
equal_self n = eq-eqb n n refl

pub any_there : (n : ℕ) (xs : List ℕ) (i : ℕ) → slice_get xs i ≡ Some n → list_any (nat_eq n) xs ≡ true
any_there n [] i e = absurd (none_some n e)
any_there n (x ∷ xs) zero e = subst (λ z. (nat_eq n z || list_any (nat_eq n) xs) ≡ true) (some_is n x (sym e)) (first (nat_eq n n) (equal_self n))
  where
    first : (b : Bool) → b ≡ true → (b || list_any (nat_eq n) xs) ≡ true
    first true h = refl
    first false h = absurd (true≢false (sym h))
any_there n (x ∷ xs) (suc i) e = by (nat_eq n x) (any_there n xs i e)
  where
    by : (b : Bool) → list_any (nat_eq n) xs ≡ true → (b || list_any (nat_eq n) xs) ≡ true
    by true h = refl
    by false h = h

-- what one of the defined functions owns is owned
pub owned_there : (fs : List Function) (ds : List ℕ) (i d n : ℕ) (g : Function) → slice_get ds i ≡ Some d
    → slice_get fs d ≡ Some g → list_any (nat_eq n) (g.formals ++ g.locals) ≡ true
    → list_any (nat_eq n) (owned_by fs ds) ≡ true
owned_there fs [] i d n g e f h = absurd (none_some d e)
owned_there fs (c ∷ ds) zero d n g e f h =
    let own : own_objects (slice_get fs c) ≡ g.formals ++ g.locals = ap (λ z. own_objects (slice_get fs z)) (some_is c d e) ∙ ap own_objects f in
    any_left (nat_eq n) (own_objects (slice_get fs c)) (owned_by fs ds)
    (subst (λ ns. list_any (nat_eq n) ns ≡ true) (sym own) h)
owned_there fs (c ∷ ds) (suc i) d n g e f h =
    any_right (nat_eq n) (own_objects (slice_get fs c)) (owned_by fs ds) (owned_there fs ds i d n g e f h)

-- in the program's numbers
any_mapped : (ns : List ℕ) (n : ℕ) (xs : List ℕ) → list_any (nat_eq n) xs ≡ true
    → list_any (nat_eq (number_in ns n)) (map (number_in ns) xs) ≡ true
any_mapped ns n [] h = h
any_mapped ns n (x ∷ xs) h = by (nat_eq n x) refl h (any_mapped ns n xs)
  where
    by : (b : Bool) → nat_eq n x ≡ b → (b || list_any (nat_eq n) xs) ≡ true
        → (list_any (nat_eq n) xs ≡ true → list_any (nat_eq (number_in ns n)) (map (number_in ns) xs) ≡ true)
        → (nat_eq (number_in ns n) (number_in ns x) || list_any (nat_eq (number_in ns n)) (map (number_in ns) xs)) ≡ true
    by true e g ih =
        let same : nat_eq (number_in ns n) (number_in ns x) ≡ true =
        subst (λ z. nat_eq (number_in ns n) (number_in ns z) ≡ true) (eqb-true n x e) (equal_self (number_in ns n)) in
        ap (λ b. b || list_any (nat_eq (number_in ns n)) (map (number_in ns) xs)) same
    by false e g ih =
        or_right (nat_eq (number_in ns n) (number_in ns x))
        (list_any (nat_eq (number_in ns n)) (map (number_in ns) xs)) (ih g)

either : (a b : Bool) → (a || b) ≡ true → (a ≡ true) ⊎ (b ≡ true)
either true b h = inl refl
either false b h = inr h

module _ (xs : List CheckedUnit) (m : Matching) (main : ℕ) (h : AreTypedUnits xs m) (follow : LinkedStructsFollow) (are_there : StructsAreThere)
    (objects : LinkedObjectsStand) (functions : LinkedFunctionsStand) (entries : LinkedEntriesAreTold)
    (objects_numbered : ObjectsAreNumbered) (functions_numbered : FunctionsAreNumbered) where
  abbrev y : List Numbers × Joined
  y = all_joined m.numbers xs

  abbrev ts : List CType
  ts = final_types y.1.objects

  abbrev rs : List Renaming
  rs = renamings y.1 y.0

  abbrev p : Program
  p = linked_program xs m main

  pub structs_are : p.structs ≡ program_structs (tables_of xs) m
  structs_are = map_same (struct_made xs rs) (program_struct (tables_of xs) m) m.structs
      (λ i r at. made_is xs m r (are_there (tables_of xs) m i r (linked_of xs m h).matched at))

  entry_told : (n : ℕ) (e : ObjectEntry) → slice_get y.1.objects n ≡ Some e
      → IsFrom xs y.0 n e × IsFormed (program_structs (tables_of xs) m) e.of
  entry_told n e at =
      entries xs m (linked_of xs m h) (λ u x k o of. ((h.typed u x of.unit).objects k o of.object).formed) n e at

  -- ---- a unit

  module _ (u : ℕ) (x : CheckedUnit) (ns : Numbers) (at : slice_get xs u ≡ Some x) (told : slice_get y.0 u ≡ Some ns) where
    abbrev r : Renaming
    r = renaming ts ns

    pub numbers_are : ns.structs ≡ slice_index_or m.numbers u []
    numbers_are =
        let w : (q : Numbers) × (slice_get y.0 u ≡ Some q) × (q.structs ≡ slice_index_or m.numbers u []) =
        joined_structs m.numbers xs ([], nothing_joined) u u x (omega arith) at in
        ap (λ z. z.structs) (some_is ns w.0 (sym told ∙ w.1)) ∙ w.2

    pub renaming_is : renaming_of_unit rs u ≡ r
    renaming_is = index_got rs u r no_renaming (map_got (renaming ts) y.0 u ns told)

    table : StructsFollow r.structs x.structs p.structs
    table =
        subst (λ ps. StructsFollow ns.structs x.structs ps) (sym structs_are)
        (subst (λ ks. StructsFollow ks x.structs (program_structs (tables_of xs) m)) (sym numbers_are)
        (follow (tables_of xs) m u x.structs (linked_of xs m h).matched (linked_of xs m h).tables (map_got (λ z. z.structs) xs u x at)))

    -- the object that stands for a unit's
    object_in : (own : List ℕ) (n : ℕ) (o : Object) → IsObjectOf xs u x n o
        → (is_lasting o.storage ≡ true) ⊎ (list_any (nat_eq n) own ≡ true)
        → IsObjectIn r x.structs (scene_of p (map (number_in ns.objects) own)) n o.of
    object_in own n o it seen =
        let k : (k : ℕ) × (slice_get ns.objects n ≡ Some k) = objects_numbered m.numbers xs u x ns n o at told it.object in
        let w : StandsFor x ns.structs u o y.1 k.0 = objects xs m (linked_of xs m h) u x ns n o k.0 it told k.1 in
        let number : number_in ns.objects n ≡ k.0 = index_got ns.objects n k.0 0 k.1 in
        let there : slice_get p.objects (number_in ns.objects n) ≡ Some (object_made rs w.entry) =
        ap (slice_get p.objects) number ∙ map_got (object_made rs) y.1.objects k.0 w.entry w.there in
        record {
          object = object_made rs w.entry;
          there = there;
          visible = visible w.entry.source.storage there w.lasting seen;
          told = map_got (λ j. slice_index_or ts j void) ns.objects n k.0 k.1
              ∙ ap Some (index_got ts k.0 (completed w.entry.of) void (map_got (λ e. completed e.of) y.1.objects k.0 w.entry w.there));
          named = completed_named (lacks_layout x.structs) (number_in ns.structs) o.of w.entry.of w.named;
          formed = subst (λ ps. IsFormed ps (completed w.entry.of)) (sym structs_are)
              (completed_formed (program_structs (tables_of xs) m) w.entry.of (entry_told k.0 w.entry w.there).1);
        }
      where
        visible : (s : Storage) {z : Object} → slice_get p.objects (number_in ns.objects n) ≡ Some z
            → (is_lasting o.storage ≡ true → is_lasting z.storage ≡ true)
            → (is_lasting o.storage ≡ true) ⊎ (list_any (nat_eq n) own ≡ true)
            → sees p.objects (map (number_in ns.objects) own) (number_in ns.objects n) ≡ true
        visible s there lasting (inl e) =
            or_left (lasts (slice_get p.objects (number_in ns.objects n)))
            (list_any (nat_eq (number_in ns.objects n)) (map (number_in ns.objects) own)) (ap lasts there ∙ lasting e)
        visible s there lasting (inr e) =
            or_right (lasts (slice_get p.objects (number_in ns.objects n)))
            (list_any (nat_eq (number_in ns.objects n)) (map (number_in ns.objects) own)) (any_mapped ns.objects n own e)

    -- an object of the unit that doesn't last, as the program has it
    abbrev pub there_is : Object → Object
    there_is o = object_renamed r (object_entry x.structs ns.structs u o)

    pub own_there : (n : ℕ) (o : Object) → IsObjectOf xs u x n o → is_lasting o.storage ≡ false
        → slice_get p.objects (number_in ns.objects n) ≡ Some (there_is o)
    own_there n o it passes =
        let k : (k : ℕ) × (slice_get ns.objects n ≡ Some k) = objects_numbered m.numbers xs u x ns n o at told it.object in
        let w : StandsFor x ns.structs u o y.1 k.0 = objects xs m (linked_of xs m h) u x ns n o k.0 it told k.1 in
        let private : is_external o.linkage ≡ false =
        not_true (is_external o.linkage) (λ e. true≢false (sym (external_lasts x (h.typed u x at) n o it.object e) ∙ passes)) in
        let entry : w.entry ≡ object_entry x.structs ns.structs u o = w.own private in
        ap (slice_get p.objects) (index_got ns.objects n k.0 0 k.1)
        ∙ map_got (object_made rs) y.1.objects k.0 w.entry w.there
        ∙ ap (λ e. Some (object_made rs e)) entry
        ∙ ap (λ z. Some (object_renamed z (object_entry x.structs ns.structs u o)))
        renaming_is

    -- what sees these objects of its own, which the unit's functions own
    module _ (own : List ℕ) (owns : (n : ℕ) → list_any (nat_eq n) own ≡ true
        → list_any (nat_eq n) (owned_by x.functions x.definitions) ≡ true) where
      -- what may be named isn't dropped
      seen_kept : (n : ℕ) (o : Object) → (is_lasting o.storage ≡ true) ⊎ (list_any (nat_eq n) own ≡ true)
          → is_dropped (owned_by x.functions x.definitions) n o.storage ≡ false
      seen_kept n o (inl e) =
          ap (λ b. b && not (list_any (nat_eq n) (owned_by x.functions x.definitions))) (lasting_stays o.storage e)
      seen_kept n o (inr e) = ap (λ b. is_passing o.storage && not b) (owns n e) ∙ and_none (is_passing o.storage)

      seen_is : (n : ℕ) (o : Object) → slice_get x.objects n ≡ Some o → sees x.objects own n ≡ true
          → (is_lasting o.storage ≡ true) ⊎ (list_any (nat_eq n) own ≡ true)
      seen_is n o there e =
          either (is_lasting o.storage) (list_any (nat_eq n) own)
          (ap (λ z. lasts z || list_any (nat_eq n) own) (sym there) ∙ e)

      follows : Follows r (scene_in x own) (scene_of p (map (number_in ns.objects) own))
      follows = record {
        table = table;
        objects = λ n o there e. object_in own n o
            (record { unit = at; object = there; kept = seen_kept n o (seen_is n o there e) }) (seen_is n o there e);
        functions = λ n low. function_low n (get_there x.functions n low);
      }
        where
          function_low : (n : ℕ) → (f : Function) × (slice_get x.functions n ≡ Some f) → number_in ns.functions n < length p.functions
          function_low n f =
              let k : (k : ℕ) × (slice_get ns.functions n ≡ Some k) = functions_numbered m.numbers xs u x ns n f.0 at told f.1 in
              let w : FunctionStandsFor x ns.structs u f.0 y.1 k.0 = functions xs m (linked_of xs m h) u x ns n f.0 k.0 at told f.1 k.1 in
              subst (λ i. i < length p.functions) (sym (index_got ns.functions n k.0 0 k.1))
              (get_below p.functions k.0 (function_made rs w.entry) (map_got (function_made rs) y.1.functions k.0 w.entry w.there))

    pub statics_are_followed : Follows r (scene_in x []) (scene_of p [])
    statics_are_followed = follows [] (λ n e. absurd (true≢false (sym e)))

    pub unit_follows : (g : Function) → IsDefinedIn xs u x g
        → Follows r (scene_in x (g.formals ++ g.locals)) (scene_of p (renumbered ns.objects g.formals ++ renumbered ns.objects g.locals))
    unit_follows g def =
        subst (λ ks. Follows r (scene_in x (g.formals ++ g.locals)) (scene_of p ks)) (map-append (number_in ns.objects) g.formals g.locals)
        (follows (g.formals ++ g.locals)
        (λ n e. owned_there x.functions x.definitions def.index def.number n g def.defined def.function e))

pub units_follow : LinkedStructsFollow → StructsAreThere → LinkedObjectsStand → LinkedFunctionsStand → LinkedEntriesAreTold
    → ObjectsAreNumbered → FunctionsAreNumbered → LinkedUnitsFollow
units_follow follow are_there objects functions entries on fn xs m main h u x ns g def told =
    unit_follows xs m main h follow are_there objects functions entries on fn u x ns def.unit told g def

pub statics_follow : LinkedStructsFollow → StructsAreThere → LinkedObjectsStand → LinkedFunctionsStand → LinkedEntriesAreTold
    → ObjectsAreNumbered → FunctionsAreNumbered → LinkedStaticsFollow
statics_follow follow are_there objects functions entries on fn xs m main h u x ns at told =
    statics_are_followed xs m main h follow are_there objects functions entries on fn u x ns at told
