-- Each function is defined once in the program, and an object is one function's own.
use Rattle.std.proofs.Common.{◌≡◌, Bool, ℕ, ◌+◌, true, false, ◌&&◌, not, map, List, ◌++◌, Some, refl, is_some, ap, sym, subst, ◌∙◌, suc, if◌then◌else◌, [], ◌∷◌, true≢false, arith}
use Rattle.std.proofs.lemmas.List.{map-append}
use Rattle.std.specs.Prelude.{slice_get, unwrap_or, codes, bytes_eq}
use Rattle.sp_types.specs.Types.{CType, result_of}
use Rattle.sp_types.specs.Structs.{IsFormedSignature}
use Rattle.sp_types.specs.Programs.{Function, Program}
use Rattle.sp_base_checked.specs.Units.{CheckedUnit}
use Rattle.sp_link_structs.specs.Matching.{Matching}
use Rattle.sp_link_structs.specs.Laws.{StructsAreThere}
use Rattle.sp_link_conflicts.specs.Declarations.{is_external}
use Rattle.sp_link_conflicts.specs.Conflicts.{tables_of}
use Rattle.sp_link_entries.specs.Entries.{FunctionEntry, Joined, Numbers, renumbered}
use Rattle.sp_link_entries.specs.Objects.{owned_by, is_passing, is_dropped}
use Rattle.sp_link_units.specs.Making.{final_types, renaming, no_renaming, renaming_of_unit, struct_made, function_made}
use Rattle.sp_link_units.specs.Linking.{is_main, main_from, renamings}
use Rattle.sp_link_renaming.specs.Renaming.{Renaming, number_in}
use Rattle.sp_check_typing.specs.Refines.{Refines}
use Rattle.sp_check_typing.specs.Programs.{ListsIn, AreOwners}
use Rattle.sp_check_unit_laws.specs.Units.{IsTypedFunction}
use Rattle.sp_link_structs_laws.specs.Tables.{program_struct, program_structs}
use Rattle.sp_link_structs_laws.proofs.Lists.{none_some, some_is, map_got, map_from, index_got}
use Rattle.sp_link_structs_laws.proofs.Linked.{made_is, map_same}
use Rattle.sp_link_renaming_laws.specs.Follows.{lacks_layout}
use Rattle.sp_link_names_laws.specs.Names.{all_joined}
use Rattle.sp_link_entries_laws.specs.Joined.{FunctionStandsFor, LinkedFunctionsStand, LinkedFunctionsAreTold, OwnObjectsAreApart, definitions_before, IsDefinition, LinkedDefinitions, LinkedDefinitionsAreThere, IsFunctionFrom, ObjectsAreNumbered, FunctionsAreNumbered}
use Rattle.sp_link_typed_laws.proofs.Units.{IsOwnObject, bodies_of, linked_of}
use Rattle.sp_link_typed_laws.specs.Linked.{linked_program, AreTypedUnits, LinkedFunctionsAreFormed, LinkedDefinitionsAreApart, LinkedOwnersAreOne, LinkedMainIsDefined}
use Rattle.sp_link_typed_laws.proofs.Linked.{any_there, owned_there, and_none}

module _ (xs : List CheckedUnit) (m : Matching) (main : ℕ) (h : AreTypedUnits xs m) where
  abbrev y : List Numbers × Joined
  y = all_joined m.numbers xs

  abbrev ts : List CType
  ts = final_types y.1.objects

  abbrev rs : List Renaming
  rs = renamings y.1 y.0

  abbrev p : Program
  p = linked_program xs m main

  -- ---- types of functions

  module _ (are_there : StructsAreThere) (signatures : LinkedFunctionsAreTold) where
    formed : (n : ℕ) (f : Function) → slice_get p.functions n ≡ Some f → IsFormedSignature p.structs f.of
    formed n f at =
        let e : (e : FunctionEntry) × (slice_get y.1.functions n ≡ Some e) × (function_made rs e ≡ f) =
        map_from (function_made rs) y.1.functions n f at in
        let structs : p.structs ≡ program_structs (tables_of xs) m =
        map_same (struct_made xs rs) (program_struct (tables_of xs) m) m.structs
        (λ i r there. made_is xs m r (are_there (tables_of xs) m i r (linked_of xs m h).matched there)) in
        let is : IsFormedSignature (program_structs (tables_of xs) m) e.0.of =
        (signatures xs m (linked_of xs m h) (λ u x k g unit there. ((h.typed u x unit).functions k g there).0) n e.0 e.1).1 in
        subst (λ z. IsFormedSignature p.structs z.of) e.2
        (subst (λ ps. IsFormedSignature ps e.0.of) (sym structs) is)

  -- ---- definitions

  module _ (functions : LinkedFunctionsStand) (definitions : LinkedDefinitions) (functions_numbered : FunctionsAreNumbered) where
    -- the definition of the number k, with its function and that one's entry
    pub record IsMade (k n : ℕ) : Type 0 where
      pub is : IsDefinition xs y.0 k n
      pub function : Function
      pub there : slice_get is.checked.functions is.function ≡ Some function
      pub typed : IsTypedFunction is.checked function
      pub entry : FunctionEntry
      pub told : slice_get y.1.functions n ≡ Some entry
      pub source : entry.source ≡ function
      pub unit : entry.unit ≡ is.unit
      pub result : Refines (lacks_layout is.checked.structs) (number_in is.numbers.structs) (result_of function.of)
          (result_of entry.of)

    pub made : (k n : ℕ) → slice_get p.definitions k ≡ Some n → IsMade k n
    made k n at =
        let d : IsDefinition xs y.0 k n = definitions m.numbers xs k n at in
        let g : (g : Function) × (slice_get d.checked.functions d.function ≡ Some g) × IsTypedFunction d.checked g =
        (h.typed d.unit d.checked d.there).definitions d.index d.function d.defined in
        let body : is_some g.0.body ≡ true =
        (bodies_of d.checked (h.typed d.unit d.checked d.there)).bodies d.index d.function g.0 d.defined g.1 in
        let q : (q : ℕ) × (slice_get d.numbers.functions d.function ≡ Some q) =
        functions_numbered m.numbers xs d.unit d.checked d.numbers d.function g.0 d.there d.told g.1 in
        let number : q.0 ≡ n = sym (index_got d.numbers.functions d.function q.0 0 q.1) ∙ sym d.number in
        let w : FunctionStandsFor d.checked d.numbers.structs d.unit g.0 y.1 q.0 =
        functions xs m (linked_of xs m h) d.unit d.checked d.numbers d.function g.0 q.0 d.there d.told g.1 q.1 in
        record {
          is = d;
          function = g.0;
          there = g.1;
          typed = g.2;
          entry = w.entry;
          told = subst (λ i. slice_get y.1.functions i ≡ Some w.entry) number w.there;
          source = w.source body;
          unit = w.unit body;
          result = w.result body;
        }

    -- two definitions of one unit with one number there are one
    same_place : (j k n i : ℕ) (a : IsMade j n) (b : IsMade k i) → a.is.unit ≡ b.is.unit → a.is.index ≡ b.is.index → j ≡ k
    same_place j k n i a b units indices =
        a.is.place ∙ ap (λ u. definitions_before xs u + a.is.index) units
        ∙ ap (λ q. definitions_before xs b.is.unit + q) indices ∙ sym b.is.place

    apart : (j k n : ℕ) → slice_get p.definitions j ≡ Some n → slice_get p.definitions k ≡ Some n → j ≡ k
    apart j k n at there = by (made j n at) (made k n there)
      where
        by : IsMade j n → IsMade k n → j ≡ k
        by a b =
            let entries : a.entry ≡ b.entry = some_is a.entry b.entry (sym a.told ∙ b.told) in
            let units : a.is.unit ≡ b.is.unit = sym a.unit ∙ ap (λ e. e.unit) entries ∙ b.unit in
            let functions_same : a.function ≡ b.function = sym a.source ∙ ap (λ e. e.source) entries ∙ b.source in
            let checked : a.is.checked ≡ b.is.checked =
            some_is a.is.checked b.is.checked (sym a.is.there ∙ ap (slice_get xs) units ∙ b.is.there) in
            let other : slice_get a.is.checked.functions b.is.function ≡ Some b.function =
            subst (λ z. slice_get z.functions b.is.function ≡ Some b.function) (sym checked) b.there in
            let number : a.is.function ≡ b.is.function =
            ((linked_of xs m h).names a.is.unit a.is.checked a.is.there).functions a.is.function b.is.function a.function b.function a.there other
            (ap (λ f. f.name) functions_same) in
            let first : slice_get a.is.checked.definitions a.is.index ≡ Some b.is.function = a.is.defined ∙ ap Some number in
            let second : slice_get a.is.checked.definitions b.is.index ≡ Some b.is.function =
            subst (λ z. slice_get z.definitions b.is.index ≡ Some b.is.function) (sym checked) b.is.defined in
            same_place j k n n a b units ((h.typed a.is.unit a.is.checked a.is.there).distinct a.is.index b.is.index b.is.function first second)

    -- ---- owners

    module _ (own_apart : OwnObjectsAreApart) (objects_numbered : ObjectsAreNumbered) where
      -- what the program's function lists is the number of what the unit's lists
      record IsListed (k n : ℕ) : Type 0 where
        number : ℕ
        definition : IsMade k number
        index : ℕ
        object : ℕ
        listed : slice_get (definition.function.formals ++ definition.function.locals) index ≡ Some object
        named : slice_get definition.is.numbers.objects object ≡ Some n
        own : IsOwnObject definition.is.checked object
        kept : is_dropped (owned_by definition.is.checked.functions definition.is.checked.definitions) object own.object.storage ≡ false

      listed_is : (k n : ℕ) → ListsIn p.functions p.definitions k n → IsListed k n
      listed_is k n l = by (made k l.number l.defined)
        where
          by : IsMade k l.number → IsListed k n
          by a =
              let ns : Numbers = a.is.numbers in
              let g : Function = a.function in
              let function_is : l.function ≡ function_made rs a.entry =
              some_is l.function (function_made rs a.entry) (sym l.there ∙ map_got (function_made rs) y.1.functions l.number a.entry a.told) in
              let renaming_is : renaming_of_unit rs a.entry.unit ≡ renaming ts ns =
              ap (renaming_of_unit rs) a.unit
              ∙ index_got rs a.is.unit (renaming ts ns) no_renaming (map_got (renaming ts) y.0 a.is.unit ns a.is.told) in
              let lists : l.function.formals ++ l.function.locals ≡ map (number_in ns.objects) (g.formals ++ g.locals) =
              ap (λ z. z.formals ++ z.locals) function_is
              ∙ ap (λ z. renumbered z.objects a.entry.source.formals ++ renumbered z.objects a.entry.source.locals) renaming_is
              ∙ ap (λ z. renumbered ns.objects z.formals ++ renumbered ns.objects z.locals) a.source
              ∙ sym (map-append (number_in ns.objects) g.formals g.locals) in
              let o : (o : ℕ) × (slice_get (g.formals ++ g.locals) l.index ≡ Some o) × (number_in ns.objects o ≡ n) =
              map_from (number_in ns.objects) (g.formals ++ g.locals) l.index n (ap (λ z. slice_get z l.index) (sym lists) ∙ l.listed) in
              let own : IsOwnObject a.is.checked o.0 =
              (bodies_of a.is.checked (h.typed a.is.unit a.is.checked a.is.there)).owned a.is.index a.is.function l.index o.0 g a.is.defined a.there o.1 in
              let q : (q : ℕ) × (slice_get ns.objects o.0 ≡ Some q) =
              objects_numbered m.numbers xs a.is.unit a.is.checked ns o.0 own.object a.is.there a.is.told own.there in
              record {
                number = l.number;
                definition = a;
                index = l.index;
                object = o.0;
                listed = o.1;
                named = q.1 ∙ ap Some (sym (index_got ns.objects o.0 q.0 0 q.1) ∙ o.2);
                own = own;
                kept = ap (λ b. is_passing own.object.storage && not b)
                    (owned_there a.is.checked.functions a.is.checked.definitions a.is.index a.is.function o.0 g a.is.defined a.there
                    (any_there o.0 (g.formals ++ g.locals) l.index o.1))
                    ∙ and_none (is_passing own.object.storage);
              }

      owners : AreOwners p.functions p.definitions
      owners j k n a b = by (listed_is j n a) (listed_is k n b)
        where
          by : IsListed j n → IsListed k n → j ≡ k
          by l w =
              let d = l.definition in
              let e = w.definition in
              let same : (d.is.unit ≡ e.is.unit) × (l.object ≡ w.object) =
              own_apart m.numbers xs d.is.unit e.is.unit d.is.checked e.is.checked d.is.numbers e.is.numbers l.object w.object
              l.own.object w.own.object n (record { unit = d.is.there; object = l.own.there; kept = l.kept })
              (record { unit = e.is.there; object = w.own.there; kept = w.kept }) l.own.private w.own.private
              d.is.told e.is.told l.named w.named in
              let checked : d.is.checked ≡ e.is.checked =
              some_is d.is.checked e.is.checked (sym d.is.there ∙ ap (slice_get xs) same.0 ∙ e.is.there) in
              let first : ListsIn d.is.checked.functions d.is.checked.definitions d.is.index l.object =
              record { number = d.is.function; function = d.function; defined = d.is.defined; there = d.there; index = l.index; listed = l.listed } in
              let second : ListsIn e.is.checked.functions e.is.checked.definitions e.is.index w.object =
              record { number = e.is.function; function = e.function; defined = e.is.defined; there = e.there; index = w.index; listed = w.listed } in
              let other : ListsIn d.is.checked.functions d.is.checked.definitions e.is.index l.object =
              subst (λ i. ListsIn d.is.checked.functions d.is.checked.definitions e.is.index i) (sym same.1)
              (subst (λ z. ListsIn z.functions z.definitions e.is.index w.object) (sym checked) second) in
              same_place j k l.number w.number d e same.0
              ((h.typed d.is.unit d.is.checked d.is.there).owners d.is.index e.is.index l.object first other)

pub functions_formed : StructsAreThere → LinkedFunctionsAreTold → LinkedFunctionsAreFormed
functions_formed are_there signatures xs m main h n f at = formed xs m main h are_there signatures n f at

pub definitions_apart : LinkedFunctionsStand → LinkedDefinitions → FunctionsAreNumbered → LinkedDefinitionsAreApart
definitions_apart functions definitions fn xs m main h j k n a b = apart xs m main h functions definitions fn j k n a b

pub owners_are_one : LinkedFunctionsStand → LinkedDefinitions → FunctionsAreNumbered → OwnObjectsAreApart → ObjectsAreNumbered
    → LinkedOwnersAreOne
owners_are_one functions definitions fn own on xs m main h j k n a b =
    owners xs m main h functions definitions fn own on j k n a b

-- ---- main

main_there : (names : List (List ℕ)) (es : List FunctionEntry) (k n : ℕ) → main_from names k es ≡ Some n
    → (i : ℕ) × (n ≡ k + i) × ((e : FunctionEntry) × (slice_get es i ≡ Some e) × (is_main names e ≡ true))
main_there names [] k n h = absurd (none_some n h)
main_there names (e ∷ es) k n h = by (is_main names e) refl h (main_there names es (suc k) n)
  where
    by : (b : Bool) → is_main names e ≡ b → (if b then Some k else main_from names (suc k) es) ≡ Some n
        → (main_from names (suc k) es ≡ Some n
        → (i : ℕ) × (n ≡ suc k + i) × ((d : FunctionEntry) × (slice_get es i ≡ Some d) × (is_main names d ≡ true)))
        → (i : ℕ) × (n ≡ k + i) × ((d : FunctionEntry) × (slice_get (e ∷ es) i ≡ Some d) × (is_main names d ≡ true))
    by true g f ih = let same : k ≡ n = some_is k n f in (0, omega (arith, same), (e, refl, g))
    by false g f ih =
        let w = ih f in
        let place : n ≡ suc k + w.0 = w.1 in
        (suc w.0, omega (arith, place), w.2)

main_body : (names : List (List ℕ)) (e : FunctionEntry) → is_main names e ≡ true → is_some e.source.body ≡ true
main_body names e h = middle (is_external e.source.linkage) (is_some e.source.body) (bytes_eq (unwrap_or (slice_get names e.source.name) []) (codes "main")) h
  where
    middle : (a b c : Bool) → (a && b && c) ≡ true → b ≡ true
    middle true true c h = refl
    middle true false c h = h
    middle false b c h = absurd (true≢false (sym h))

pub main_defined : LinkedFunctionsAreTold → LinkedDefinitionsAreThere → LinkedMainIsDefined
main_defined told there names xs m main h found =
    let w = main_there names (all_joined m.numbers xs).1.functions 0 main found in
    let e : FunctionEntry = w.2.0 in
    let place : main ≡ 0 + w.0 = w.1 in
    let first : w.0 ≡ main = omega (arith, place) in
    let f : IsFunctionFrom xs (all_joined m.numbers xs).0 w.0 e =
    (told xs m (linked_of xs m h) (λ u x k g unit at. ((h.typed u x unit).functions k g at).0) w.0 e w.2.1).0 in
    let body : is_some f.function.body ≡ true = ap (λ z. is_some z.body) (sym f.source) ∙ main_body names e w.2.2 in
    let d : (i : ℕ) × (slice_get f.checked.definitions i ≡ Some f.number) =
    (bodies_of f.checked (h.typed f.unit f.checked f.of_unit)).defined f.number f.function f.there body in (
      definitions_before xs f.unit + d.0,
      there m.numbers xs f.unit f.checked f.numbers d.0 f.number f.of_unit f.told d.1
          ∙ ap Some (index_got f.numbers.functions f.number w.0 0 f.numbered ∙ first),
    )
