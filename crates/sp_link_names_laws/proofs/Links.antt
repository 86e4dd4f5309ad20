-- The links of external names: none is lost, and each declaration is linked.
use Rattle.std.proofs.Common.{◌≡◌, ℕ, Bool, true, false, cond, if◌then◌else◌, nat_eq, length, List, [], ◌∷◌, Option, Some, None, is_some, ◌⊎◌, inl, inr, refl, ap, sym, ◌∙◌, true≢false, eq-eqb}
use Rattle.std.specs.Prelude.{slice_get}
use Rattle.indexmap.specs.IndexMap.{insert_entry}
use Rattle.sp_check_scopes.specs.Scopes.{entry}
use Rattle.sp_check_env.specs.declared.env.Entity.{Entity}
use Rattle.sp_check_env.specs.declared.env.Entity.TheVariants.{Object, Function}
use Rattle.sp_link_conflicts.specs.Declarations.{is_external}
use Rattle.sp_link_entries.specs.Entries.{ObjectEntry, FunctionEntry, Joined, linked}
use Rattle.sp_link_entries.specs.Objects.{object_met, object_apart, object_linked, object_joined}
use Rattle.sp_link_entries.specs.Functions.{function_met, function_apart, function_linked, function_joined}

-- the program's object of this name has this number; or a function has the name
abbrev pub IsObjectOf : Joined → ℕ → ℕ → Type 0
IsObjectOf j name k = (entry j.links name ≡ Some (Object k)) ⊎ ((f : ℕ) × (entry j.links name ≡ Some (Function f)))

abbrev pub IsFunctionOf : Joined → ℕ → ℕ → Type 0
IsFunctionOf j name k = (entry j.links name ≡ Some (Function k)) ⊎ ((o : ℕ) × (entry j.links name ≡ Some (Object o)))

-- ---- maps

none_some : {A : Type 0} (x : A) → None ≡ Some x → ⊥
none_some x e = true≢false (sym (ap is_some e))

pub inserted_same : (es : List (ℕ × Entity)) (n : ℕ) (v : Entity) → entry es n ≡ None → entry (insert_entry nat_eq es n v) n ≡ Some v
inserted_same [] n v h = ap (λ b. cond b (Some v) None) (eq-eqb n n refl)
inserted_same (e ∷ es) n v h = by (nat_eq n e.0) refl h (inserted_same es n v)
  where
    by : (b : Bool) → nat_eq n e.0 ≡ b → cond b (Some e.1) (entry es n) ≡ None → (entry es n ≡ None → entry (insert_entry nat_eq es n v) n ≡ Some v) → entry (cond b ((e.0, v) ∷ es) (e ∷ insert_entry nat_eq es n v)) n ≡ Some v
    by true t g ih = absurd (none_some e.1 (sym g))
    by false t g ih = ap (λ b. cond b (Some e.1) (entry (insert_entry nat_eq es n v) n)) t ∙ ih g

pub inserted_other : (es : List (ℕ × Entity)) (n : ℕ) (v : Entity) (m : ℕ) (r : Entity) → entry es n ≡ None → entry es m ≡ Some r → entry (insert_entry nat_eq es n v) m ≡ Some r
inserted_other [] n v m r h g = absurd (none_some r g)
inserted_other (e ∷ es) n v m r h g = by (nat_eq n e.0) h (inserted_other es n v m r)
  where
    rest : (c : Bool) → entry es n ≡ None → cond c (Some e.1) (entry es m) ≡ Some r → (entry es n ≡ None → entry es m ≡ Some r → entry (insert_entry nat_eq es n v) m ≡ Some r) → cond c (Some e.1) (entry (insert_entry nat_eq es n v) m) ≡ Some r
    rest true k f ih = f
    rest false k f ih = ih k f

    by : (b : Bool) → cond b (Some e.1) (entry es n) ≡ None → (entry es n ≡ None → entry es m ≡ Some r → entry (insert_entry nat_eq es n v) m ≡ Some r) → entry (cond b ((e.0, v) ∷ es) (e ∷ insert_entry nat_eq es n v)) m ≡ Some r
    by true k ih = absurd (none_some e.1 (sym k))
    by false k ih = rest (nat_eq m e.0) k g ih

-- ---- links

-- none is lost
abbrev pub Extends : Joined → Joined → Type 0
Extends j i = (n : ℕ) (r : Entity) → entry j.links n ≡ Some r → entry i.links n ≡ Some r

pub object_later : (j i : Joined) (name k : ℕ) → Extends j i → IsObjectOf j name k → IsObjectOf i name k
object_later j i name k x (inl h) = inl (x name (Object k) h)
object_later j i name k x (inr h) = inr (h.0, x name (Function h.0) h.1)

pub function_later : (j i : Joined) (name k : ℕ) → Extends j i → IsFunctionOf j name k → IsFunctionOf i name k
function_later j i name k x (inl h) = inl (x name (Function k) h)
function_later j i name k x (inr h) = inr (h.0, x name (Object h.0) h.1)

module _ (j : Joined) (e : ObjectEntry) where
  object_met_extends : (k : ℕ) (o : Option ObjectEntry) → Extends j (object_met j k e o)
  object_met_extends k None n r h = h
  object_met_extends k (Some old) n r h = h

  object_linked_extends : (o : Option Entity) → linked j e.source.name ≡ o → Extends j (object_linked j e o).1
  object_linked_extends None g n r h = inserted_other j.links e.source.name (Object (length j.objects)) n r g h
  object_linked_extends (Some (Object k)) g n r h = object_met_extends k (slice_get j.objects k) n r h
  object_linked_extends (Some (Function k)) g n r h = h

  object_choice_extends : (b : Bool) → Extends j (if b then object_linked j e (linked j e.source.name) else object_apart j e).1
  object_choice_extends true n r h = object_linked_extends (linked j e.source.name) refl n r h
  object_choice_extends false n r h = h

  pub object_extends : Extends j (object_joined j e).1
  object_extends = object_choice_extends (is_external e.source.linkage)

  object_is_linked : (o : Option Entity) → linked j e.source.name ≡ o → IsObjectOf (object_linked j e o).1 e.source.name (object_linked j e o).0
  object_is_linked None g = inl (inserted_same j.links e.source.name (Object (length j.objects)) g)
  object_is_linked (Some (Object k)) g = inl (object_met_extends k (slice_get j.objects k) e.source.name (Object k) g)
  object_is_linked (Some (Function k)) g = inr (k, g)

  object_choice_linked : (b : Bool) → b ≡ true → IsObjectOf (if b then object_linked j e (linked j e.source.name) else object_apart j e).1 e.source.name (if b then object_linked j e (linked j e.source.name) else object_apart j e).0
  object_choice_linked true t = object_is_linked (linked j e.source.name) refl
  object_choice_linked false t = absurd (true≢false (sym t))

  pub object_named : is_external e.source.linkage ≡ true → IsObjectOf (object_joined j e).1 e.source.name (object_joined j e).0
  object_named t = object_choice_linked (is_external e.source.linkage) t

module _ (j : Joined) (e : FunctionEntry) where
  function_met_extends : (k : ℕ) (o : Option FunctionEntry) → Extends j (function_met j k e o)
  function_met_extends k None n r h = h
  function_met_extends k (Some old) n r h = h

  function_linked_extends : (o : Option Entity) → linked j e.source.name ≡ o → Extends j (function_linked j e o).1
  function_linked_extends None g n r h = inserted_other j.links e.source.name (Function (length j.functions)) n r g h
  function_linked_extends (Some (Function k)) g n r h = function_met_extends k (slice_get j.functions k) n r h
  function_linked_extends (Some (Object k)) g n r h = h

  function_choice_extends : (b : Bool) → Extends j (if b then function_linked j e (linked j e.source.name) else function_apart j e).1
  function_choice_extends true n r h = function_linked_extends (linked j e.source.name) refl n r h
  function_choice_extends false n r h = h

  pub function_extends : Extends j (function_joined j e).1
  function_extends = function_choice_extends (is_external e.source.linkage)

  function_is_linked : (o : Option Entity) → linked j e.source.name ≡ o → IsFunctionOf (function_linked j e o).1 e.source.name (function_linked j e o).0
  function_is_linked None g = inl (inserted_same j.links e.source.name (Function (length j.functions)) g)
  function_is_linked (Some (Function k)) g = inl (function_met_extends k (slice_get j.functions k) e.source.name (Function k) g)
  function_is_linked (Some (Object k)) g = inr (k, g)

  function_choice_linked : (b : Bool) → b ≡ true → IsFunctionOf (if b then function_linked j e (linked j e.source.name) else function_apart j e).1 e.source.name (if b then function_linked j e (linked j e.source.name) else function_apart j e).0
  function_choice_linked true t = function_is_linked (linked j e.source.name) refl
  function_choice_linked false t = absurd (true≢false (sym t))

  pub function_named : is_external e.source.linkage ≡ true → IsFunctionOf (function_joined j e).1 e.source.name (function_joined j e).0
  function_named t = function_choice_linked (is_external e.source.linkage) t
