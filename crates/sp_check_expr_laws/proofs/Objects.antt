-- What a table of objects gives where an entry is set (C90 6.1.2.6, 6.5.4.3).
use Rattle.std.proofs.Common.{None, Some, Option, ◌≡◌, ◌⊎◌, inl, inr, ℕ, zero, suc, ◌≤◌, ◌<◌, ◌||◌, Bool, true, false, length, List, [], ◌∷◌, Some, refl, ap, sym, subst, ◌∙◌, true≢false, arith}
use Rattle.std.specs.Prelude.{slice_get, slice_set}
use Rattle.sp_types.specs.Types.{CType, pointer, array, function, Struct}
use Rattle.sp_types.specs.Programs.{Object}
use Rattle.sp_types.specs.declared.program.Storage.TheVariants.{Formal}
use Rattle.sp_types.specs.Structs.{IsTable, IsFormed}
use Rattle.sp_check_operands.specs.Conversions.{is_function}
use Rattle.sp_check_scopes.specs.Meanings.{Meaning}
use Rattle.sp_check_scopes.specs.Meanings as means
use Rattle.sp_check_env.specs.declared.env.Entity.TheVariants as entities
use Rattle.sp_check_env.specs.Env.{Env, linked, set_object}
use Rattle.sp_check_primaries.specs.Composite.{composite, composite_signature, told_length}
use Rattle.sp_check_typing.specs.Refines.{Tells, names_void, names_integer, names_floating, names_pointer, names_array, names_struct, names_open, names_function, KeepsLength}
use Rattle.sp_check_typing.specs.Sorts.{agrees}
use Rattle.sp_check_objects.specs.Objects.{has_linkage}
use Rattle.sp_check_formed_laws.proofs.Lists.{none_some, some_is, each_set, get_below, set_there, set_other, set_length}
use Rattle.sp_check_formed_laws.proofs.Envs.{Goes, keeps_on}
use Rattle.sp_check_formed_laws.proofs.Updates.{goes_object_set}
use Rattle.sp_check_typing.specs.Statements.{is_lasting}
use Rattle.sp_check_typing.specs.Programs.{lasts}
use Rattle.sp_check_expr_laws.specs.Sound.{IsSound, is_seen, lasting_alone, scene_of}
use Rattle.sp_check_expr_laws.proofs.Types.{or_right}
use Rattle.sp_check_expr_laws.proofs.Named.{AreNamed}
use Rattle.sp_check_expr_laws.proofs.Envs.{IsFitting, IsFit, IsHome, IsKeptObject, Moves, SeesAll, KeepsStarts, Reaches}
use Rattle.sp_check_expr_laws.proofs.Starts.{HasStart, HaveStarts, IsAside, aside_start, IsCalm, start_stays}
use Rattle.sp_check_expr_laws.proofs.Grows.{IsStill, Grows}

-- ---- an entry is set

set_apart : {A : Type 0} (xs : List A) (i : ℕ) (y : A) (k : ℕ) → (i ≡ k → ⊥)
    → slice_get (slice_set xs i y) k ≡ slice_get xs k
set_apart [] i y k other = refl
set_apart (z ∷ zs) zero y zero other = absurd (other refl)
set_apart (z ∷ zs) zero y (suc k) other = refl
set_apart (z ∷ zs) (suc i) y zero other = refl
set_apart (z ∷ zs) (suc i) y (suc k) other = set_apart zs i y k (λ same. other (ap suc same))

pub same_or_apart : (i k : ℕ) → (i ≡ k) ⊎ (i ≡ k → ⊥)
same_or_apart i k = grind arith

-- the entry is seen, whether it was there or not
set_seen : (mine : Bool) (os : List Object) (i : ℕ) (o : Object)
    → (mine || is_lasting o.storage) ≡ true → (mine || lasts (slice_get os i)) ≡ true
    → (mine || lasts (slice_get (slice_set os i o) i)) ≡ true
set_seen mine [] i o h g = g
set_seen mine (z ∷ zs) zero o h g = h
set_seen mine (z ∷ zs) (suc i) o h g = set_seen mine zs i o h g

module _ (own : ℕ → Bool) (os : List Object) (i : ℕ) (o : Object)
    (seen : (own i || is_lasting o.storage) ≡ true) where
  pub seen_set : (k : ℕ) → is_seen own os k ≡ true → is_seen own (slice_set os i o) k ≡ true
  seen_set k h = by (same_or_apart i k)
    where
      by : (i ≡ k) ⊎ (i ≡ k → ⊥) → is_seen own (slice_set os i o) k ≡ true
      by (inl same) =
          subst (λ j. is_seen own (slice_set os i o) j ≡ true) same
          (set_seen (own i) os i o seen (subst (λ j. is_seen own os j ≡ true) (sym same) h))
      by (inr other) = subst (λ x. (own k || lasts x) ≡ true) (sym (set_apart os i o k other)) h

  fitting_set : (ss : List Struct) (m : Meaning) → IsFitting own ss os m
      → IsFitting own ss (slice_set os i o) m
  fitting_set ss (means.object k) h = seen_set k h
  fitting_set ss (means.function k) h = h
  fitting_set ss (means.constant z) h = h
  fitting_set ss (means.named t) h = h

-- an entry of the table where one is set
pub set_split : {A : Type 0} (xs : List A) (i : ℕ) (y : A) (k : ℕ) (x : A)
    → slice_get (slice_set xs i y) k ≡ Some x
    → ((i ≡ k) × (y ≡ x)) ⊎ ((i ≡ k → ⊥) × (slice_get xs k ≡ Some x))
set_split xs i y k x at = by (same_or_apart i k)
  where
    by : (i ≡ k) ⊎ (i ≡ k → ⊥)
        → ((i ≡ k) × (y ≡ x)) ⊎ ((i ≡ k → ⊥) × (slice_get xs k ≡ Some x))
    by (inl same) =
        let there : slice_get (slice_set xs i y) i ≡ Some x =
        subst (λ j. slice_get (slice_set xs i y) j ≡ Some x) (sym same) at in
        let low : i < length (slice_set xs i y) = get_below (slice_set xs i y) i x there in
        let count : length (slice_set xs i y) ≡ length xs = set_length xs i y in
        inl (
          same,
          some_is y x (sym (set_there xs i y (omega (arith, low, count))) ∙ there),
        )
    by (inr other) = inr (other, sym (set_apart xs i y k other) ∙ at)

-- the name of an entry that is set is linked to it
named_set : (later : Env) (k : ℕ) (o : Object)
    → (has_linkage o.linkage ≡ true → linked later o.name ≡ Some (entities.Object k))
    → AreNamed later → AreNamed (set_object later k o)
named_set later k o link h = (λ j x at. by j x (set_split later.tables.objects k o j x at), h.1)
  where
    by : (j : ℕ) (x : Object)
        → ((k ≡ j) × (o ≡ x)) ⊎ ((k ≡ j → ⊥) × (slice_get later.tables.objects j ≡ Some x))
        → has_linkage x.linkage ≡ true → linked later x.name ≡ Some (entities.Object j)
    by j x (inl y) =
        subst (λ z. has_linkage z.linkage ≡ true → linked later z.name ≡ Some (entities.Object j))
        y.1 (subst (λ i. has_linkage o.linkage ≡ true → linked later o.name
        ≡ Some (entities.Object i)) y.0 link)
    by j x (inr y) = h.0 j x y.1

-- an entry takes another object, where start values stay known
module _ (later : Env) (k : ℕ) (o : Object) where
  pub set_starts : (waits : ℕ → Bool) → IsTable later.tables.structs
      → Grows (scene_of lasting_alone later) (scene_of lasting_alone (set_object later k o))
      → HaveStarts waits later → HasStart waits (set_object later k o) k o o.storage
      → HaveStarts waits (set_object later k o)
  set_starts waits table grows h start j x at = by (set_split later.tables.objects k o j x at)
    where
      by : ((k ≡ j) × (o ≡ x)) ⊎ ((k ≡ j → ⊥) × (slice_get later.tables.objects j ≡ Some x))
          → HasStart waits (set_object later k o) j x x.storage
      by (inl y) =
          subst (λ z. HasStart waits (set_object later k o) j z z.storage) y.1
          (subst (λ i. HasStart waits (set_object later k o) i o o.storage) y.0 start)
      by (inr y) =
          start_stays waits later (set_object later k o) table grows j x x.storage (h j x y.1)

  -- where the entry passed before, no start value names it
  pub passing_grows : lasts (slice_get later.tables.objects k) ≡ false
      → Grows (scene_of lasting_alone later) (scene_of lasting_alone (set_object later k o))
  passing_grows passes = record {
    stays = record { longer = omega arith; complete = λ j s e at h. at };
    functions = omega arith;
    names = λ n x at seen. by n x at seen (same_or_apart k n);
  }
    where
      by : (n : ℕ) (x : Object) → slice_get later.tables.objects n ≡ Some x
          → lasts (slice_get later.tables.objects n) ≡ true → (k ≡ n) ⊎ (k ≡ n → ⊥)
          → IsStill (scene_of lasting_alone (set_object later k o)) n x
      by n x at seen (inl same) =
          absurd (true≢false (sym (ap (λ i. lasts (slice_get later.tables.objects i)) same ∙ seen)
          ∙ passes))
      by n x at seen (inr other) = record {
        object = x;
        there = set_other later.tables.objects k o n x other at;
        visible = ap lasts (set_apart later.tables.objects k o n other) ∙ seen;
        same = λ t h. h;
      }

-- a parameter takes its type
module _ (later : Env) (k : ℕ) (o : Object)
    (passes : lasts (slice_get later.tables.objects k) ≡ false) (formal : o.storage ≡ Formal) where
  pub formal_calm : (env : Env) → length env.tables.objects ≤ k → IsCalm env later
      → IsCalm env (set_object later k o)
  formal_calm env new calm j x at = by (set_split later.tables.objects k o j x at)
    where
      by : ((k ≡ j) × (o ≡ x)) ⊎ ((k ≡ j → ⊥) × (slice_get later.tables.objects j ≡ Some x))
          → (slice_get env.tables.objects j ≡ Some x)
          ⊎ ((length env.tables.objects ≤ j) × IsAside x)
      by (inl h) =
          inr (omega (arith, new, h.0), inr (ap (λ y. y.storage) (sym h.1) ∙ formal))
      by (inr h) = calm j x h.1

  pub formal_starts : (own : ℕ → Bool) (env : Env) → Reaches own env later
      → KeepsStarts own env (set_object later k o)
  formal_starts own env g waits w h =
      set_starts later k o waits g.fit.formed.table (passing_grows later k o passes)
      (g.starts waits w h) (aside_start waits (set_object later k o) k o (inr formal))

module _ (own : ℕ → Bool) (env later : Env) (k : ℕ) (o : Object) (g : Reaches own env later) where
  pub set_fit : (own k || is_lasting o.storage) ≡ true → IsFormed later.tables.structs o.of
      → is_function o.of ≡ false → IsSound o.of → IsFit own (set_object later k o)
  set_fit seen formed plain sound = record {
    formed = (goes_object_set later g.fit.formed k o (formed, plain)).formed;
    structs = g.fit.structs;
    objects = each_set (λ o. IsSound o.of) later.tables.objects k o g.fit.objects sound;
    functions = g.fit.functions;
    inner = λ j n at. fitting_set own later.tables.objects k o seen later.tables.structs n.1
        (g.fit.inner j n at);
    around = λ i s there j n at.
        fitting_set own later.tables.objects k o seen later.tables.structs n.1
        (g.fit.around i s there j n at);
  }

  -- ---- an object that wasn't there before

  pub reaches_set : IsHome o
      → (AreNamed later → has_linkage o.linkage ≡ true
      → linked later o.name ≡ Some (entities.Object k))
      → length env.tables.objects ≤ k
      → (own k || is_lasting o.storage) ≡ true
      → IsFormed later.tables.structs o.of → is_function o.of ≡ false → IsSound o.of
      → (SeesAll own → IsCalm env (set_object later k o))
      → (Moves env (set_object later k o) → KeepsStarts own env (set_object later k o))
      → Reaches own env (set_object later k o)
  reaches_set home named new seen formed plain sound calm starts =
      let to : Goes later (set_object later k o) =
      goes_object_set later g.fit.formed k o (formed, plain) in
      let m : Moves env (set_object later k o) = record {
        keeps =
            keeps_on env.tables later.tables (set_object later k o).tables g.moves.keeps to.keeps;
        objects = λ j x at.
            let y : IsKeptObject later.tables.objects j x = g.moves.objects j x at in record {
              object = y.object;
              there = set_other later.tables.objects k o j y.object (apart j x at) y.there;
              same = y.same;
              stored = y.stored;
              linkage = y.linkage;
              whole = y.whole;
            };
        homes = λ x. each_set IsHome later.tables.objects k o (g.moves.homes x) home;
        functions = g.moves.functions;
        kept = g.moves.kept;
        around = g.moves.around;
        links = g.moves.links;
        names = (
          λ x. named_set later k o (named (g.moves.names.0 x)) (g.moves.names.0 x),
          g.moves.names.1,
        );
      } in
      record {
        fit = set_fit seen formed plain sound;
        moves = m;
        calm = calm;
        starts = starts m;
      }
    where
      apart : (j : ℕ) (x : Object) → slice_get env.tables.objects j ≡ Some x → k ≡ j → ⊥
      apart j x at same =
          let low : j < length env.tables.objects = get_below env.tables.objects j x at in
          omega (arith, low, new, same)

-- ---- a further declaration of an object

-- the composite of a type and another agrees with what the type agrees with
pub composite_agrees : (a b t : CType) → agrees a t ≡ true → agrees (composite a b) t ≡ true
composite_agrees (pointer a) (pointer b) (pointer t) h = refl
composite_agrees (pointer a) (pointer b) t h = h
composite_agrees (array a n) (array b m) (array t l) h = refl
composite_agrees (array a n) (array b m) t h = h
composite_agrees (function r) (function s) (function t) h = refl
composite_agrees (function r) (function s) t h = h
composite_agrees a b t h = h

length_kept : (n m o : Option ℕ) → KeepsLength n m → KeepsLength n (told_length m o)
length_kept None m o h = tt
length_kept (Some n) None o h = absurd (none_some n h)
length_kept (Some n) (Some m) o h = h

-- so it tells at least what the type does
pub composite_tells : (a b t : CType) → Tells a t → Tells (composite a b) t
composite_tells a (pointer b) t (names_pointer u v) = names_pointer u (composite v b)
composite_tells a (array b o) t (names_array u v n m k) =
    names_array u (composite v b) n (told_length m o) (length_kept n m o k)
composite_tells a (function r) t (names_function p s) = names_function p (composite_signature s r)
composite_tells a b t names_void = names_void
composite_tells a b t (names_integer k) = names_integer k
composite_tells a b t (names_floating k) = names_floating k
composite_tells a b t (names_struct k) = names_struct k
composite_tells a b t (names_open k j e) = absurd (true≢false (sym e))
composite_tells a b t x = x

-- an object that tells all that the one that was there tells, where both last
pub reaches_replaced : (own : ℕ → Bool) (env later : Env) (k : ℕ) (was o : Object)
    → Reaches own env later → slice_get env.tables.objects k ≡ Some was
    → ((t : CType) → Tells was.of t → Tells o.of t)
    → is_lasting was.storage ≡ true → is_lasting o.storage ≡ true
    → IsHome o → o.name ≡ was.name → o.linkage ≡ was.linkage
    → IsFormed later.tables.structs o.of → is_function o.of ≡ false → IsSound o.of
    → (SeesAll own → IsCalm env (set_object later k o))
    → (Moves env (set_object later k o) → KeepsStarts own env (set_object later k o))
    → Reaches own env (set_object later k o)
reaches_replaced own env later k was o g at same lasts stays home name linkage formed plain sound
    calm starts =
    let to : Goes later (set_object later k o) =
    goes_object_set later g.fit.formed k o (formed, plain) in
    let m : Moves env (set_object later k o) = record {
      keeps =
          keeps_on env.tables later.tables (set_object later k o).tables g.moves.keeps to.keeps;
      objects = λ j x there. by j x there (same_or_apart k j);
      homes = λ x. each_set IsHome later.tables.objects k o (g.moves.homes x) home;
      functions = g.moves.functions;
      kept = g.moves.kept;
      around = g.moves.around;
      links = g.moves.links;
      names = (
        λ x.
            named_set later k o (λ mine.
            ap (λ n. linked later n) name
            ∙ g.moves.links was.name k (x.0 k was at (ap has_linkage (sym linkage) ∙ mine)))
            (g.moves.names.0 x),
        g.moves.names.1,
      );
    } in
    record {
      fit = set_fit own env later k o g (or_right (own k) (is_lasting o.storage) stays) formed plain
          sound;
      moves = m;
      calm = calm;
      starts = starts m;
    }
  where
    by : (j : ℕ) (x : Object) → slice_get env.tables.objects j ≡ Some x → (k ≡ j) ⊎ (k ≡ j → ⊥)
        → IsKeptObject (slice_set later.tables.objects k o) j x
    by j x there (inr other) =
        let y : IsKeptObject later.tables.objects j x = g.moves.objects j x there in record {
          object = y.object;
          there = set_other later.tables.objects k o j y.object other y.there;
          same = y.same;
          stored = y.stored;
          linkage = y.linkage;
          whole = y.whole;
        }
    by j x there (inl is) =
        let old : was ≡ x = some_is was x (sym at ∙ ap (slice_get env.tables.objects) is ∙ there) in
        let y : IsKeptObject later.tables.objects k was = g.moves.objects k was at in
        record {
          object = o;
          there = subst (λ i. slice_get (slice_set later.tables.objects k o) i ≡ Some o) is
              (set_there later.tables.objects k o
              (get_below later.tables.objects k y.object y.there));
          same = subst (λ y. (t : CType) → Tells y.of t → Tells o.of t) old same;
          stored = λ e. stays;
          linkage = linkage ∙ ap (λ z. z.linkage) old;
          whole = λ e. absurd
              (true≢false (sym lasts ∙ ap (λ y. is_lasting y.storage) old ∙ e));
        }
