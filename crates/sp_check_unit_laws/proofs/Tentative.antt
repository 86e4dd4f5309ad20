-- The names of tentative definitions, and the objects that may be left open until the end of the
-- unit (C90 6.7.2).
use Rattle.std.proofs.Common.{◌≡◌, ℕ, zero, ◌||◌, nat_eq, Bool, true, false, if◌then◌else◌, List, [], ◌∷◌, ◌++◌, Option, Some, None, is_none, refl, ap, sym, ◌∙◌, true≢false, eqb-true}
use Rattle.std.specs.Prelude.{slice_get}
use Rattle.std.specs.List.{list_any}
use Rattle.sp_tree.specs.declared.fault.Place.{Place}
use Rattle.sp_tree.specs.declared.token.Keyword.{Keyword}
use Rattle.sp_parse_trees.specs.Places.{declarator_place}
use Rattle.sp_parse_trees.specs.Syntax.{InitDeclarator, init_declarator, no_init, some_init, InitDeclarators, no_items, next_item, declaration, External, definition, external_declaration, semicolon}
use Rattle.sp_types.specs.Programs.{Object}
use Rattle.sp_check_operands.specs.Conversions.{is_open_struct}
use Rattle.sp_check_scopes.specs.Scopes.{or_else}
use Rattle.sp_check_env.specs.declared.env.Entity.{Entity}
use Rattle.sp_check_env.specs.declared.env.Entity.TheVariants as entities
use Rattle.sp_check_env.specs.Env.{Env, linked, object_type}
use Rattle.sp_check_members.specs.Parameters.{declared_name}
use Rattle.sp_check_declarations.specs.Words.{storage_class}
use Rattle.sp_decl_check.specs.Tentative.{is_open, is_open_entity, open_name, open_item, open_items, open_external, open_tentative}
use Rattle.sp_check_formed_laws.proofs.Lists.{none_some, Each, each_pushed, each_behind}
use Rattle.sp_check_expr_laws.proofs.Types.{or_left, or_right}
use Rattle.sp_check_expr_laws.proofs.Envs.{KeepLinks}

-- ---- names, behind those before

abbrev pub name_after : List ℕ → Option (ℕ × Place) → List ℕ
name_after ts None = ts
name_after ts (Some n) = ts ++ n.0 ∷ []

-- a declarator without an initialiser, in a declaration without a storage class
abbrev pub item_after : List ℕ → Option Keyword → InitDeclarator → List ℕ
item_after ts None (init_declarator d no_init) = name_after ts (declared_name d)
item_after ts None (init_declarator d (some_init i)) = ts
item_after ts (Some k) i = ts

abbrev pub items_after : List ℕ → Option Keyword → InitDeclarators → List ℕ
items_after ts class no_items = ts
items_after ts class (next_item i is) = items_after (item_after ts class i) class is

abbrev pub external_after : List ℕ → External → List ℕ
external_after ts (definition ss d s) = ts
external_after ts (external_declaration (declaration ss is p)) =
    items_after ts (storage_class ss) is
external_after ts semicolon = ts

abbrev pub names_after : List ℕ → List External → List ℕ
names_after ts [] = ts
names_after ts (e ∷ es) = names_after (external_after ts e) es

-- ---- what may be left open

abbrev pub is_object : ℕ → Option Entity → Bool
is_object k None = false
is_object k (Some (entities.Object j)) = nat_eq j k
is_object k (Some (entities.Function j)) = false

-- one of these names is linked to the object
abbrev pub waits_in : List ℕ → Env → ℕ → Bool
waits_in ts env k = list_any (λ n. is_object k (linked env n)) ts

object_on : (env later : Env) (n k : ℕ) → KeepLinks env later
    → is_object k (linked env n) ≡ true → is_object k (linked later n) ≡ true
object_on env later n k g h = by (linked env n) refl h
  where
    by : (o : Option Entity) → linked env n ≡ o → is_object k o ≡ true
        → is_object k (linked later n) ≡ true
    by None e h = absurd (true≢false (sym h))
    by (Some (entities.Object j)) e h = ap (is_object k) (g n j e) ∙ h
    by (Some (entities.Function j)) e h = absurd (true≢false (sym h))

any_before : (p : ℕ → Bool) (xs ys : List ℕ) → list_any p xs ≡ true
    → list_any p (xs ++ ys) ≡ true
any_before p [] ys h = absurd (true≢false (sym h))
any_before p (x ∷ xs) ys h = by (p x) h (any_before p xs ys)
  where
    by : (b : Bool) → (b || list_any p xs) ≡ true
        → (list_any p xs ≡ true → list_any p (xs ++ ys) ≡ true)
        → (b || list_any p (xs ++ ys)) ≡ true
    by true h g = refl
    by false h g = g h

any_last : (p : ℕ → Bool) (xs : List ℕ) (x : ℕ) → p x ≡ true → list_any p (xs ++ x ∷ []) ≡ true
any_last p [] x h = or_left (p x) false h
any_last p (y ∷ ys) x h = or_right (p y) (list_any p (ys ++ x ∷ [])) (any_last p ys x h)

pub waits_on : (ts : List ℕ) (env later : Env) → KeepLinks env later → (k : ℕ)
    → waits_in ts env k ≡ true → waits_in ts later k ≡ true
waits_on [] env later g k h = absurd (true≢false (sym h))
waits_on (t ∷ ts) env later g k h =
    by (is_object k (linked env t)) refl h (waits_on ts env later g k)
  where
    by : (b : Bool) → is_object k (linked env t) ≡ b → (b || waits_in ts env k) ≡ true
        → (waits_in ts env k ≡ true → waits_in ts later k ≡ true)
        → (is_object k (linked later t) || waits_in ts later k) ≡ true
    by true e h f =
        or_left (is_object k (linked later t)) (waits_in ts later k) (object_on env later t k g e)
    by false e h f = or_right (is_object k (linked later t)) (waits_in ts later k) (f h)

pub waits_more : (ts : List ℕ) (o : Option (ℕ × Place)) (env : Env) (k : ℕ)
    → waits_in ts env k ≡ true → waits_in (name_after ts o) env k ≡ true
waits_more ts None env k h = h
waits_more ts (Some n) env k h = any_before (λ m. is_object k (linked env m)) ts (n.0 ∷ []) h

-- the object that the new name is linked to
pub waits_last : (ts : List ℕ) (n : ℕ) (env : Env) (j k : ℕ)
    → linked env n ≡ Some (entities.Object j) → nat_eq j k ≡ true
    → waits_in (ts ++ n ∷ []) env k ≡ true
waits_last ts n env j k e same =
    any_last (λ m. is_object k (linked env m)) ts n (ap (is_object k) e ∙ same)

-- ---- at the end of the unit none is open

abbrev pub IsClosedName : Env → ℕ → Type 0
IsClosedName env n = is_open_entity env (linked env n) ≡ false

or_none : (a b : Option Place) → or_else a b ≡ None → (a ≡ None) × (b ≡ None)
or_none None b h = (refl, h)
or_none (Some p) b h = absurd (none_some p (sym h))

module _ (env : Env) where
  name_closed : (ts : List ℕ) (at : Place) (o : Option (ℕ × Place)) → Each (IsClosedName env) ts
      → open_name env at o ≡ None → Each (IsClosedName env) (name_after ts o)
  name_closed ts at None h e = h
  name_closed ts at (Some n) h e =
      each_pushed (IsClosedName env) ts n.0 h (by (is_open_entity env (linked env n.0)) e)
    where
      by : (b : Bool) → (if b then Some at else None) ≡ None → b ≡ false
      by true e = absurd (none_some at (sym e))
      by false e = refl

  item_closed : (ts : List ℕ) (class : Option Keyword) (i : InitDeclarator)
      → Each (IsClosedName env) ts → (class ≡ None → open_item env i ≡ None)
      → Each (IsClosedName env) (item_after ts class i)
  item_closed ts None (init_declarator d no_init) h e =
      name_closed ts (declarator_place d) (declared_name d) h (e refl)
  item_closed ts None (init_declarator d (some_init i)) h e = h
  item_closed ts (Some k) i h e = h

  items_closed : (ts : List ℕ) (class : Option Keyword) (is : InitDeclarators)
      → Each (IsClosedName env) ts → (class ≡ None → open_items env is ≡ None)
      → Each (IsClosedName env) (items_after ts class is)
  items_closed ts class no_items h e = h
  items_closed ts class (next_item i is) h e =
      items_closed (item_after ts class i) class is
      (item_closed ts class i h (λ c. (or_none (open_item env i) (open_items env is) (e c)).0))
      (λ c. (or_none (open_item env i) (open_items env is) (e c)).1)

  external_closed : (ts : List ℕ) (e : External) → Each (IsClosedName env) ts
      → open_external env e ≡ None → Each (IsClosedName env) (external_after ts e)
  external_closed ts (definition ss d s) h e = h
  external_closed ts (external_declaration (declaration ss is p)) h e =
      items_closed ts (storage_class ss) is h
      (λ c. sym (ap (λ (o : Option Keyword). if is_none o then open_items env is else None) c) ∙ e)
  external_closed ts semicolon h e = h

  pub names_closed : (ts : List ℕ) (us : List External) → Each (IsClosedName env) ts
      → open_tentative env us ≡ None → Each (IsClosedName env) (names_after ts us)
  names_closed ts [] h e = h
  names_closed ts (u ∷ us) h e =
      let x : (open_external env u ≡ None) × (open_tentative env us ≡ None) =
      or_none (open_external env u) (open_tentative env us) e in
      names_closed (external_after ts u) us (external_closed ts u h x.0) x.1

  abbrev IsClosed : Object → Type 0
  IsClosed o = is_open_struct env.tables.structs o.of ≡ false

  -- so what waited is no open struct
  pub waiting_closed : (ts : List ℕ) (k : ℕ) (o : Object) → Each (IsClosedName env) ts
      → waits_in ts env k ≡ true → slice_get env.tables.objects k ≡ Some o
      → is_open_struct env.tables.structs o.of ≡ false
  waiting_closed [] k o h w at = absurd (true≢false (sym w))
  waiting_closed (t ∷ ts) k o h w at =
      by (linked env t) (h zero t refl) w
      (λ v. waiting_closed ts k o (each_behind (IsClosedName env) t ts h) v at)
    where
      same : (j : ℕ) (b : Bool) → nat_eq j k ≡ b
          → is_open env.tables.structs (object_type (slice_get env.tables.objects j)) ≡ false
          → (b || waits_in ts env k) ≡ true → (waits_in ts env k ≡ true → IsClosed o) → IsClosed o
      same j true e c w rest =
          ap (λ x. is_open env.tables.structs (object_type x))
          (sym (ap (slice_get env.tables.objects) (eqb-true j k e) ∙ at)) ∙ c
      same j false e c w rest = rest w

      by : (x : Option Entity) → is_open_entity env x ≡ false
          → (is_object k x || waits_in ts env k) ≡ true → (waits_in ts env k ≡ true → IsClosed o)
          → IsClosed o
      by None c w rest = rest w
      by (Some (entities.Object j)) c w rest = same j (nat_eq j k) refl c w rest
      by (Some (entities.Function j)) c w rest = rest w
