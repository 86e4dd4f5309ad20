-- Each external name has one object or one function in all units of a program (C90 6.1.2.2).
use Rattle.std.specs.Prelude.{◌≡◌, ℕ, true, false, List, [], Some, slice_get}
use Rattle.sp_types.specs.Programs.{Object, Function}
use Rattle.sp_check_operands.specs.Conversions.{is_function}
use Rattle.sp_check_scopes.specs.Scopes.{entry}
use Rattle.sp_check_env.specs.declared.env.Entity.TheVariants as entities
use Rattle.sp_base_checked.specs.Units.{CheckedUnit}
use Rattle.sp_link_conflicts.specs.Declarations.{is_external}
use Rattle.sp_link_conflicts.specs.Conflicts.{AgreeOnNames}
use Rattle.sp_link_entries.specs.Entries.{ObjectEntry, FunctionEntry, Joined, Numbers, nothing_joined}
use Rattle.sp_link_entries.specs.Objects.{owned_by, is_dropped, object_entry}
use Rattle.sp_link_entries.specs.Functions.{function_entry}
use Rattle.sp_link_entries.specs.Units.{units_joined}

-- the units joined, with these numbers of their structs in the program
abbrev pub all_joined : List (List ℕ) → List CheckedUnit → List Numbers × Joined
all_joined sss xs = units_joined sss ([], nothing_joined) xs

-- no object of a unit has the type of a function
abbrev pub HaveObjectTypes : List CheckedUnit → Type 0
HaveObjectTypes xs =
    (u : ℕ) (x : CheckedUnit) (k : ℕ) (o : Object) → slice_get xs u ≡ Some x → slice_get x.objects k ≡ Some o → is_function o.of ≡ false

-- Where units agree on their names, an external object of a unit, that is no parameter of a
-- prototype, has in the program the number of its name. So those of one name are one object.
abbrev pub NamesHaveOneObject : Type 0
NamesHaveOneObject =
    (sss : List (List ℕ)) (xs : List CheckedUnit) → AgreeOnNames xs → HaveObjectTypes xs
    → (u : ℕ) (x : CheckedUnit) (m : Numbers) (k : ℕ) (o : Object) (n : ℕ)
    → slice_get xs u ≡ Some x → slice_get (all_joined sss xs).0 u ≡ Some m
    → slice_get x.objects k ≡ Some o → slice_get m.objects k ≡ Some n
    → is_external o.linkage ≡ true → is_dropped (owned_by x.functions x.definitions) k o.storage ≡ false
    → entry (all_joined sss xs).1.links o.name ≡ Some (entities.Object n)

-- the same of functions
abbrev pub NamesHaveOneFunction : Type 0
NamesHaveOneFunction =
    (sss : List (List ℕ)) (xs : List CheckedUnit) → AgreeOnNames xs → HaveObjectTypes xs
    → (u : ℕ) (x : CheckedUnit) (m : Numbers) (k : ℕ) (f : Function) (n : ℕ)
    → slice_get xs u ≡ Some x → slice_get (all_joined sss xs).0 u ≡ Some m
    → slice_get x.functions k ≡ Some f → slice_get m.functions k ≡ Some n
    → is_external f.linkage ≡ true
    → entry (all_joined sss xs).1.links f.name ≡ Some (entities.Function n)

-- this is the program's entry of this number, and no external name's
pub record HasOwnEntry (j : Joined) (n : ℕ) (e : ObjectEntry) : Type 0 where
  pub at : slice_get j.objects n ≡ Some e
  pub unlinked : (m : ℕ) → entry j.links m ≡ Some (entities.Object n) → ⊥

-- An object of a unit without external linkage has an entry of its own (6.1.2.2): static objects of
-- two units stay apart, as objects of blocks do.
abbrev pub OthersStayApart : Type 0
OthersStayApart =
    (sss : List (List ℕ)) (xs : List CheckedUnit) (u : ℕ) (x : CheckedUnit) (m : Numbers) (k : ℕ) (o : Object) (n : ℕ)
    → slice_get xs u ≡ Some x → slice_get (all_joined sss xs).0 u ≡ Some m
    → slice_get x.objects k ≡ Some o → slice_get m.objects k ≡ Some n
    → is_external o.linkage ≡ false → is_dropped (owned_by x.functions x.definitions) k o.storage ≡ false
    → HasOwnEntry (all_joined sss xs).1 n (object_entry x.structs m.structs u o)

-- the same of functions
pub record HasOwnFunction (j : Joined) (n : ℕ) (e : FunctionEntry) : Type 0 where
  pub at : slice_get j.functions n ≡ Some e
  pub unlinked : (m : ℕ) → entry j.links m ≡ Some (entities.Function n) → ⊥

-- Static functions of two units stay apart.
abbrev pub StaticFunctionsStayApart : Type 0
StaticFunctionsStayApart =
    (sss : List (List ℕ)) (xs : List CheckedUnit) (u : ℕ) (x : CheckedUnit) (m : Numbers) (k : ℕ) (f : Function) (n : ℕ)
    → slice_get xs u ≡ Some x → slice_get (all_joined sss xs).0 u ≡ Some m
    → slice_get x.functions k ≡ Some f → slice_get m.functions k ≡ Some n
    → is_external f.linkage ≡ false
    → HasOwnFunction (all_joined sss xs).1 n (function_entry m.structs u f)
