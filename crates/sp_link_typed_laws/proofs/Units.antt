-- What well-typed units give of their names, objects and functions (C90 6.1.2.2, 6.7).
use Rattle.std.proofs.Common.{◌≡◌, ℕ, zero, suc, true, false, not, List, [], ◌∷◌, ◌++◌, Option, Some, None, is_some, ◌⊎◌, inl, inr, refl, ap, sym, subst, ◌∙◌, true≢false, arith}
use Rattle.std.specs.Prelude.{◌≤◌, slice_get}
use Rattle.sp_types.specs.declared.extents.Extent.{Extent}
use Rattle.sp_types.specs.declared.program.Linkage.{Linkage}
use Rattle.sp_types.specs.declared.program.Linkage.TheVariants.{External, Internal, Inner}
use Rattle.sp_types.specs.declared.program.Storage.{Storage}
use Rattle.sp_types.specs.declared.program.Storage.TheVariants.{Static, Outside, Text, Auto, Formal}
use Rattle.sp_types.specs.Types.{CType, void, integer, floating, pointer, array, structure, function, Struct}
use Rattle.sp_types.specs.Layout.{layout}
use Rattle.sp_types.specs.Structs.{IsTable}
use Rattle.sp_types.specs.Programs.{Object, Function}
use Rattle.sp_check_operands.specs.Conversions.{is_open_struct}
use Rattle.sp_base_checked.specs.Units.{CheckedUnit}
use Rattle.sp_check_objects.specs.Objects.{has_linkage}
use Rattle.sp_link_structs.specs.Matching.{Matching}
use Rattle.sp_link_conflicts.specs.Declarations.{is_external, is_defined}
use Rattle.sp_link_conflicts.specs.Conflicts.{tables_of}
use Rattle.sp_ir.specs.Terrain.{size_in, size_of}
use Rattle.sp_check_typing.specs.Statements.{is_lasting}
use Rattle.sp_check_expr_laws.proofs.Types.{size_laid}
use Rattle.sp_check_expr_laws.specs.Sound.{KnowsElements}
use Rattle.sp_check_unit_laws.specs.Units.{IsUnmeasured, HasUnitStart, IsFormal, IsLocal, IsTypedFunction, IsTypedUnit}
use Rattle.sp_link_structs_laws.specs.Tables.{AreTables}
use Rattle.sp_link_structs_laws.proofs.Lists.{some_is, map_from}
use Rattle.sp_link_entries_laws.specs.Joined.{HasElements, HasProperNames, HasProperTypes, AreLinked}
use Rattle.sp_link_typed_laws.specs.Linked.{AreTypedUnits}

-- ---- names and functions

external_linked : (l : Linkage) → is_external l ≡ true → has_linkage l ≡ true
external_linked External h = refl
external_linked Internal h = absurd (true≢false (sym h))
external_linked Inner h = absurd (true≢false (sym h))

linkage_none : (l : Linkage) → has_linkage l ≡ false → is_external l ≡ false
linkage_none External h = absurd (true≢false h)
linkage_none Internal h = refl
linkage_none Inner h = refl

names_of : (x : CheckedUnit) → IsTypedUnit x → HasProperNames x
names_of x h = record {
  apart = λ i k o p a b e f n. h.apart i k o p a b (external_linked o.linkage e) (external_linked p.linkage f) n;
  stored = λ k o at e. (h.objects k o at).home (external_linked o.linkage e);
  functions = h.named;
}

-- the object of this number is one that a function may own: it has no external linkage, and what
-- passes is complete (C90 6.1.2.2, 6.5)
pub record IsOwnObject (x : CheckedUnit) (n : ℕ) : Type 0 where
  pub object : Object
  pub there : slice_get x.objects n ≡ Some object
  pub private : is_external object.linkage ≡ false
  pub sized : is_lasting object.storage ≡ false → 1 ≤ size_of x.structs object.of

-- the functions that a unit defines are those with bodies, and own what they list
pub record HasBodies (x : CheckedUnit) : Type 0 where
  pub bodies : (i d : ℕ) (g : Function) → slice_get x.definitions i ≡ Some d → slice_get x.functions d ≡ Some g
      → is_some g.body ≡ true
  pub defined : (d : ℕ) (g : Function) → slice_get x.functions d ≡ Some g → is_some g.body ≡ true
      → (i : ℕ) × (slice_get x.definitions i ≡ Some d)
  pub owned : (i d k n : ℕ) (g : Function) → slice_get x.definitions i ≡ Some d → slice_get x.functions d ≡ Some g
      → slice_get (g.formals ++ g.locals) k ≡ Some n → IsOwnObject x n

either_part : (ks ns : List ℕ) (k n : ℕ) → slice_get (ks ++ ns) k ≡ Some n
    → ((i : ℕ) × (slice_get ks i ≡ Some n)) ⊎ ((i : ℕ) × (slice_get ns i ≡ Some n))
either_part [] ns k n e = inr (k, e)
either_part (m ∷ ks) ns zero n e = inl (zero, e)
either_part (m ∷ ks) ns (suc k) n e = by (either_part ks ns k n e)
  where
    by : ((i : ℕ) × (slice_get ks i ≡ Some n)) ⊎ ((i : ℕ) × (slice_get ns i ≡ Some n))
        → ((i : ℕ) × (slice_get (m ∷ ks) i ≡ Some n)) ⊎ ((i : ℕ) × (slice_get ns i ≡ Some n))
    by (inl w) = inl (suc w.0, w.1)
    by (inr w) = inr w

own_of : (x : CheckedUnit) (g : Function) → IsTypedFunction x g → (k n : ℕ)
    → slice_get (g.formals ++ g.locals) k ≡ Some n → IsOwnObject x n
own_of x g h k n e = by (either_part g.formals g.locals k n e)
  where
    by : ((i : ℕ) × (slice_get g.formals i ≡ Some n)) ⊎ ((i : ℕ) × (slice_get g.locals i ≡ Some n)) → IsOwnObject x n
    by (inl w) =
        let f : IsFormal x n = h.formals w.0 n w.1 in
        record { object = f.object; there = f.there; private = linkage_none f.object.linkage f.private; sized = λ e. f.sized }
    by (inr w) =
        let l : IsLocal x n = h.locals w.0 n w.1 in
        record { object = l.object; there = l.there; private = linkage_none l.object.linkage l.private; sized = l.sized }

pub bodies_of : (x : CheckedUnit) → IsTypedUnit x → HasBodies x
bodies_of x h = record {
  bodies = λ i d g at there. by d g there (h.definitions i d at);
  defined = h.defined;
  owned = λ i d k n g at there e. own d g there (h.definitions i d at) k n e;
}
  where
    by : (d : ℕ) (g : Function) → slice_get x.functions d ≡ Some g
        → (f : Function) × (slice_get x.functions d ≡ Some f) × IsTypedFunction x f → is_some g.body ≡ true
    by d g there w = subst (λ f. is_some f.body ≡ true) (some_is w.0 g (sym w.1 ∙ there)) w.2.bodied

    own : (d : ℕ) (g : Function) → slice_get x.functions d ≡ Some g
        → (f : Function) × (slice_get x.functions d ≡ Some f) × IsTypedFunction x f
        → (k n : ℕ) → slice_get (g.formals ++ g.locals) k ≡ Some n → IsOwnObject x n
    own d g there w k n e = own_of x g (subst (IsTypedFunction x) (some_is w.0 g (sym w.1 ∙ there)) w.2) k n e

-- ---- types

-- what has a size isn't open
size_closed : (o : Option Extent) → 1 ≤ size_in o → not (is_some o) ≡ false
size_closed None h = absurd (omega (arith, h))
size_closed (Some e) h = refl

sized_closed : (ss : List Struct) (t : CType) → 1 ≤ size_of ss t → is_open_struct ss t ≡ false
sized_closed ss (structure k) h = size_closed (layout ss (structure k)) h
sized_closed ss void h = refl
sized_closed ss (integer k) h = refl
sized_closed ss (floating k) h = refl
sized_closed ss (pointer t) h = refl
sized_closed ss (array t n) h = refl
sized_closed ss (function s) h = refl

unmeasured_closed : (ss : List Struct) (t : CType) → IsUnmeasured ss t → is_open_struct ss t ≡ false
unmeasured_closed ss (array t n) h = refl
unmeasured_closed ss (structure k) h = absurd h
unmeasured_closed ss void h = refl
unmeasured_closed ss (integer k) h = refl
unmeasured_closed ss (floating k) h = refl
unmeasured_closed ss (pointer t) h = refl
unmeasured_closed ss (function s) h = refl

defined_closed : (x : CheckedUnit) (o : Object) (s : Storage) → HasUnitStart x o s → is_defined s ≡ true
    → is_open_struct x.structs o.of ≡ false
defined_closed x o Static (inl h) e = sized_closed x.structs o.of h.sized
defined_closed x o Static (inr h) e = unmeasured_closed x.structs o.of h.1
defined_closed x o Outside h e = absurd (true≢false (sym e))
defined_closed x o Text h e = absurd (true≢false (sym e))
defined_closed x o Auto h e = absurd (true≢false (sym e))
defined_closed x o Formal h e = absurd (true≢false (sym e))

-- ---- elements

some_there : (o : Option Extent) → is_some o ≡ true → (e : Extent) × (o ≡ Some e)
some_there None h = absurd (true≢false (sym h))
some_there (Some e) h = (e, refl)

sized_elements : (ss : List Struct) (t : CType) → 1 ≤ size_of ss t → HasElements ss t
sized_elements ss (array t None) h = absurd (omega (arith, h))
sized_elements ss (array t (Some n)) h = size_laid (layout ss (array t (Some n))) h
sized_elements ss void h = tt
sized_elements ss (integer k) h = tt
sized_elements ss (floating k) h = tt
sized_elements ss (pointer t) h = tt
sized_elements ss (structure k) h = tt
sized_elements ss (function s) h = tt

unmeasured_elements : (ss : List Struct) (t : CType) → IsUnmeasured ss t → HasElements ss t
unmeasured_elements ss (array t None) h = size_laid (layout ss t) h
unmeasured_elements ss (array t (Some n)) h = absurd h
unmeasured_elements ss void h = tt
unmeasured_elements ss (integer k) h = tt
unmeasured_elements ss (floating k) h = tt
unmeasured_elements ss (pointer t) h = tt
unmeasured_elements ss (structure k) h = tt
unmeasured_elements ss (function s) h = tt

known_elements : (ss : List Struct) (t : CType) → KnowsElements ss t → HasElements ss t
known_elements ss (array t None) h = some_there (layout ss t) h
known_elements ss (array t (Some n)) h = some_there (layout ss (array t (Some n))) h
known_elements ss void h = tt
known_elements ss (integer k) h = tt
known_elements ss (floating k) h = tt
known_elements ss (pointer t) h = tt
known_elements ss (structure k) h = tt
known_elements ss (function s) h = tt

elements_of : (x : CheckedUnit) (o : Object) (s : Storage) → HasUnitStart x o s → (s ≡ Static) ⊎ (s ≡ Outside)
    → HasElements x.structs o.of
elements_of x o Static (inl h) e = sized_elements x.structs o.of h.sized
elements_of x o Static (inr h) e = unmeasured_elements x.structs o.of h.1
elements_of x o Outside h e = known_elements x.structs o.of h.1
elements_of x o Text h (inl e) = absurd (cc)
elements_of x o Text h (inr e) = absurd (cc)
elements_of x o Auto h (inl e) = absurd (cc)
elements_of x o Auto h (inr e) = absurd (cc)
elements_of x o Formal h (inl e) = absurd (cc)
elements_of x o Formal h (inr e) = absurd (cc)

-- what has external linkage lasts
pub external_lasts : (x : CheckedUnit) → IsTypedUnit x → (k : ℕ) (o : Object) → slice_get x.objects k ≡ Some o
    → is_external o.linkage ≡ true → is_lasting o.storage ≡ true
external_lasts x h k o at e = by ((names_of x h).stored k o at e)
  where
    by : (o.storage ≡ Static) ⊎ (o.storage ≡ Outside) → is_lasting o.storage ≡ true
    by (inl s) = ap is_lasting s
    by (inr s) = ap is_lasting s

types_of : (x : CheckedUnit) → IsTypedUnit x → HasProperTypes x
types_of x h = record {
  plain = λ k o at. (h.objects k o at).plain;
  complete = λ k o at e. defined_closed x o o.storage (h.objects k o at).start e;
  elements = λ k o at e. elements_of x o o.storage (h.objects k o at).start ((names_of x h).stored k o at e);
}

tables_are : (xs : List CheckedUnit) → ((u : ℕ) (x : CheckedUnit) → slice_get xs u ≡ Some x → IsTypedUnit x)
    → AreTables (tables_of xs)
tables_are xs h u ss at =
    let w : (x : CheckedUnit) × (slice_get xs u ≡ Some x) × (x.structs ≡ ss) = map_from (λ x. x.structs) xs u ss at in
    subst IsTable w.2 (h u w.0 w.1).structs

pub linked_of : (xs : List CheckedUnit) (m : Matching) → AreTypedUnits xs m → AreLinked xs m
linked_of xs m h = record {
  agree = h.agree;
  matched = h.matched;
  tables = tables_are xs h.typed;
  names = λ u x at. names_of x (h.typed u x at);
  types = λ u x at. types_of x (h.typed u x at);
}
