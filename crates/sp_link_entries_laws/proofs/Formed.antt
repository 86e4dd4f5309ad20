-- Each entry of a program comes from a unit, and has a type that is formed.
use Rattle.std.proofs.Common.{◌≡◌, ℕ, ◌+◌, Bool, true, false, if◌then◌else◌, List, [], Some, is_some, refl, subst, arith}
use Rattle.std.specs.Prelude.{slice_get, slice_index_or}
use Rattle.sp_types.specs.Types.{Struct}
use Rattle.sp_types.specs.Structs.{IsFormed, IsFormedSignature}
use Rattle.sp_types.specs.Programs.{Object as TypedObject, Function as TypedFunction}
use Rattle.sp_base_checked.specs.Units.{CheckedUnit}
use Rattle.sp_link_structs.specs.Matching.{Matching}
use Rattle.sp_link_conflicts.specs.Conflicts.{tables_of}
use Rattle.sp_link_structs.specs.Laws.{StructsAreNumbered, StructsAreThere}
use Rattle.sp_link_entries.specs.Entries.{ObjectEntry, FunctionEntry, Joined, Numbers, nothing_joined}
use Rattle.sp_link_entries.specs.Objects.{owned_by, is_dropped, object_entry, tells_more, object_told, object_composed}
use Rattle.sp_link_entries.specs.Functions.{function_entry, function_told, function_composed}
use Rattle.sp_check_formed_laws.proofs.Composites.{composite_formed, signature_composed}
use Rattle.sp_link_structs_laws.specs.Tables.{program_structs}
use Rattle.sp_link_structs_laws.proofs.Lists.{map_got}
use Rattle.sp_link_structs_laws.proofs.Stays.{types_formed, signatures_formed}
use Rattle.sp_link_names_laws.specs.Names.{all_joined}
use Rattle.sp_link_entries_laws.specs.Joined.{AreLinked, IsObjectOf, IsFrom, LinkedEntriesAreTold, IsFunctionFrom, LinkedFunctionsAreTold}
use Rattle.sp_link_entries_laws.proofs.Entries.{units_all}
use Rattle.sp_link_entries_laws.proofs.FunctionEntries.{all_functions}

module _ (xs : List CheckedUnit) (m : Matching) (h : AreLinked xs m) (numbered : StructsAreNumbered) (are_there : StructsAreThere) where
  abbrev ps : List Struct
  ps = program_structs (tables_of xs) m

  table_is : (u : ℕ) (x : CheckedUnit) → slice_get xs u ≡ Some x → slice_get (tables_of xs) u ≡ Some x.structs
  table_is u x at = map_got (λ z. z.structs) xs u x at

  -- ---- objects

  module _ (formed : (u : ℕ) (x : CheckedUnit) (k : ℕ) (o : TypedObject) → IsObjectOf xs u x k o → IsFormed x.structs o.of) where
    abbrev y : List Numbers × Joined
    y = all_joined m.numbers xs

    record Has (u k n : ℕ) : Type 0 where
      numbers : Numbers
      told : slice_get y.0 u ≡ Some numbers
      number : slice_get numbers.objects k ≡ Some n

    record Is (n : ℕ) (e : ObjectEntry) : Type 0 where
      from : IsFrom xs y.0 n e
      formed_is : IsFormed ps e.of

    fresh : (u : ℕ) (x : CheckedUnit) (k : ℕ) (o : TypedObject) (n : ℕ) → slice_get xs u ≡ Some x
        → slice_get x.objects k ≡ Some o → is_dropped (owned_by x.functions x.definitions) k o.storage ≡ false
        → Has u k n → Is n (object_entry x.structs (slice_index_or m.numbers u []) u o)
    fresh u x k o n at there kept has =
        let it : IsObjectOf xs u x k o = record { unit = at; object = there; kept = kept } in
        record {
          from = record {
            unit = u;
            checked = x;
            number = k;
            object = o;
            numbers = has.numbers;
            of_unit = it;
            told = has.told;
            numbered = has.number;
            source = refl;
            unit_is = refl;
          };
          formed_is = types_formed (tables_of xs) m h.matched h.tables numbered are_there u x.structs (table_is u x at) o.of (formed u x k o it);
        }

    told : (n : ℕ) (e other : ObjectEntry) → Is n e → Is n other → Is n (object_told e other)
    told n e other p q = record {
      from = record {
        unit = p.from.unit;
        checked = p.from.checked;
        number = p.from.number;
        object = p.from.object;
        numbers = p.from.numbers;
        of_unit = p.from.of_unit;
        told = p.from.told;
        numbered = p.from.numbered;
        source = p.from.source;
        unit_is = p.from.unit_is;
      };
      formed_is = composite_formed ps e.of other.of p.formed_is q.formed_is;
    }

    composed : (n : ℕ) (old new : ObjectEntry) → Is n old → Is n new → Is n (object_composed old new)
    composed n old new p q = by (tells_more new old)
      where
        by : (b : Bool) → Is n (if b then object_told new old else object_told old new)
        by true = told n new old q p
        by false = told n old new p q

    all_is : (n : ℕ) (e : ObjectEntry) → slice_get y.1.objects n ≡ Some e → Is n e
    all_is =
        units_all xs m.numbers Is Has fresh composed xs ([], nothing_joined)
        (λ i x e. (let place : i ≡ 0 + i = omega arith in subst (λ n. slice_get xs n ≡ Some x) place e))
        (λ n e at. absurd (none_there n e at))
        (λ u ns t k n g. record { numbers = ns; told = t; number = g })
      where
        none_there : (n : ℕ) (e : ObjectEntry) → slice_get [] n ≡ Some e → ⊥
        none_there n e at = absurd (cc)

  -- ---- functions

  module _ (formed : (u : ℕ) (x : CheckedUnit) (k : ℕ) (f : TypedFunction) → slice_get xs u ≡ Some x
      → slice_get x.functions k ≡ Some f → IsFormedSignature x.structs f.of) where
    abbrev z : List Numbers × Joined
    z = all_joined m.numbers xs

    record HasNumber (u k n : ℕ) : Type 0 where
      numbers : Numbers
      told : slice_get z.0 u ≡ Some numbers
      number : slice_get numbers.functions k ≡ Some n

    record IsFunction (n : ℕ) (e : FunctionEntry) : Type 0 where
      from : IsFunctionFrom xs z.0 n e
      formed_is : IsFormedSignature ps e.of

    fresh_function : (u : ℕ) (x : CheckedUnit) (k : ℕ) (f : TypedFunction) (n : ℕ) → slice_get xs u ≡ Some x
        → slice_get x.functions k ≡ Some f → HasNumber u k n → IsFunction n (function_entry (slice_index_or m.numbers u []) u f)
    fresh_function u x k f n at there has = record {
      from = record {
        unit = u;
        checked = x;
        number = k;
        function = f;
        numbers = has.numbers;
        of_unit = at;
        there = there;
        told = has.told;
        numbered = has.number;
        source = refl;
      };
      formed_is = signatures_formed (tables_of xs) m h.matched h.tables numbered are_there u x.structs (table_is u x at) f.of (formed u x k f at there);
    }

    function_told_is : (n : ℕ) (e other : FunctionEntry) → IsFunction n e → IsFunction n other → IsFunction n (function_told e other)
    function_told_is n e other p q = record {
      from = record {
        unit = p.from.unit;
        checked = p.from.checked;
        number = p.from.number;
        function = p.from.function;
        numbers = p.from.numbers;
        of_unit = p.from.of_unit;
        there = p.from.there;
        told = p.from.told;
        numbered = p.from.numbered;
        source = p.from.source;
      };
      formed_is = signature_composed ps e.of other.of p.formed_is q.formed_is;
    }

    function_composed_is : (n : ℕ) (old new : FunctionEntry) → IsFunction n old → IsFunction n new → IsFunction n (function_composed old new)
    function_composed_is n old new p q = by (is_some new.source.body)
      where
        by : (b : Bool) → IsFunction n (if b then function_told new old else function_told old new)
        by true = function_told_is n new old q p
        by false = function_told_is n old new p q

    all_functions_are : (n : ℕ) (e : FunctionEntry) → slice_get z.1.functions n ≡ Some e → IsFunction n e
    all_functions_are =
        all_functions xs m.numbers IsFunction HasNumber fresh_function function_composed_is xs ([], nothing_joined)
        (λ i x e. (let place : i ≡ 0 + i = omega arith in subst (λ n. slice_get xs n ≡ Some x) place e))
        (λ n e at. absurd (none_there n e at))
        (λ u ns t k n g. record { numbers = ns; told = t; number = g })
      where
        none_there : (n : ℕ) (e : FunctionEntry) → slice_get [] n ≡ Some e → ⊥
        none_there n e at = absurd (cc)

pub entries_told : StructsAreNumbered → StructsAreThere → LinkedEntriesAreTold
entries_told numbered are_there xs m h formed n e at =
    ((all_is xs m h numbered are_there formed n e at).from, (all_is xs m h numbered are_there formed n e at).formed_is)

pub functions_told : StructsAreNumbered → StructsAreThere → LinkedFunctionsAreTold
functions_told numbered are_there xs m h formed n e at = (
  (all_functions_are xs m h numbered are_there formed n e at).from,
  (all_functions_are xs m h numbered are_there formed n e at).formed_is,
)
