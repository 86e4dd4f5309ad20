-- The environment behind initialisers is formed, and so is the type that they complete (C90 6.5.7).
use Rattle.std.proofs.Common.{◌≡◌, ℕ, zero, suc, ◌^◌, ◌-◌, ◌≤◌, nat_le, pos, Bool, true, false, ◌||◌, if◌then◌else◌, List, [], Option, Some, None, refl, arith}
use Rattle.sp_tree.specs.declared.fault.Place.{Place}
use Rattle.sp_tree.specs.declared.fault.FaultKind.TheVariants.{BadInitialiser}
use Rattle.sp_parse_trees.specs.Syntax.{Expression, Init, one, list, Inits, no_inits, next_init}
use Rattle.sp_types.specs.Types.{CType, void, integer, floating, pointer, array, structure, function}
use Rattle.sp_types.specs.Layout.{layout}
use Rattle.sp_types.specs.Structs.{leaves}
use Rattle.sp_types.specs.Typed.{Typed}
use Rattle.sp_base_checked.specs.Answers.{Checked, refused}
use Rattle.sp_check_operands.specs.Conversions.{is_function, is_complete}
use Rattle.sp_check_env.specs.Env.{Env}
use Rattle.sp_expr_check.specs.Specifiers.{stays}
use Rattle.sp_check_initialisers.specs.declared.targets.Target.{Target}
use Rattle.sp_check_initialisers.specs.Runs.{parts, taken as part_taken}
use Rattle.sp_check_initialisers.specs.Strings.{only_value, string_for, string_added}
use Rattle.sp_check_initialisers.specs.Initialisers.{leaf_given, one_given, only_given, is_aggregate, Progress, filled, given as init_given, struct_given, array_given, alone, initialised, how_many, last_leaf, measured, with_length, is_unmeasured, Started, started}
use Rattle.sp_check_formed_laws.proofs.Composites.{array_formed}
use Rattle.sp_check_formed_laws.proofs.Envs.{IsFormedEnv, Goes, goes_nowhere}
use Rattle.sp_check_formed_laws.proofs.After.{Any, Gives, gives, gives_met, gives_given, anything, After, done, after_none, next, taken, met, given, either, staying}
use Rattle.sp_check_formed_laws.proofs.Updates.{goes_constant}
use Rattle.sp_check_formed_laws.proofs.Braces.{IsType}
use Rattle.sp_check_formed_laws.proofs.Leaves.{type_kept}
use Rattle.sp_check_formed_laws.proofs.Expressions.{value_formed}

-- ---- values

module _ (names : List (List ℕ)) (env : Env) (w : Target) (h : IsFormedEnv env) where
  leaf_formed : (vs : List (ℕ × Typed)) (t : CType) (k : ℕ) (e : Expression) → After env Any (leaf_given names env w vs t k e)
  leaf_formed vs t k e = next (value_formed names env e h) (λ x g q. staying g.formed anything)

  one_formed : (vs : List (ℕ × Typed)) (t : CType) (k : ℕ) (e : Expression) → After env Any (one_given names env w vs t k e)
  one_formed vs t k e = by (string_for t (one e))
    where
      by : (o : Option Expression) → After env Any (elim o as (λ x. Checked (List (ℕ × Typed) × Env)) [ Some s ↦ stays env (string_added names vs t k w.name s) | None ↦ leaf_given names env w vs t k e ])
      by (Some s) = staying h anything
      by None = leaf_formed vs t k e

  only_formed : (vs : List (ℕ × Typed)) (t : CType) (k : ℕ) (is : Inits) → After env Any (only_given names env w vs t k is)
  only_formed vs t k is = given {o = only_value is} _ _ (λ e f. leaf_formed vs t k e)

  list_formed : (vs : List (ℕ × Typed)) (t : CType) (k : ℕ) (is : Inits) (o : Option Expression)
      → After env Any (filled names env w (record { runs = parts env.tables.structs t k; values = vs }) is)
      → After env Any (elim o as (λ x. Checked (List (ℕ × Typed) × Env)) [ Some s ↦ stays env (string_added names vs t k w.name s) | None ↦ if is_aggregate t then filled names env w (record { runs = parts env.tables.structs t k; values = vs }) is else only_given names env w vs t k is ])
  list_formed vs t k is (Some s) f = staying h anything
  list_formed vs t k is None f = either {b = is_aggregate t} (λ e. f) (λ e. only_formed vs t k is)

module _ (names : List (List ℕ)) where
  mutual
    filled_formed : (env : Env) (w : Target) (x : Progress) (is : Inits) → IsFormedEnv env → After env Any (filled names env w x is)
    filled_formed env w x no_inits h = done (goes_nowhere env h) tt
    filled_formed env w x (next_init i is) h =
        next (taken {P = Any} {c = part_taken env.tables.structs w.name x.runs i} anything (λ y r. next (given_formed env w x.values y.of y.from i h) (λ z g q. done (goes_nowhere z.1 g.formed) tt)))
        (λ y g q. filled_formed y.1 w y.0 is g.formed)

    given_formed : (env : Env) (w : Target) (vs : List (ℕ × Typed)) (t : CType) (k : ℕ) (i : Init) → IsFormedEnv env → After env Any (init_given names env w vs t k i)
    given_formed env w vs t k (one e) h = one_formed names env w h vs t k e
    given_formed env w vs t k (list is c) h =
        list_formed names env w h vs t k is (string_for t (list is c)) (filled_formed env w (record { runs = parts env.tables.structs t k; values = vs }) is h)

  struct_formed : (env : Env) (w : Target) (t : CType) (e : Expression) → IsFormedEnv env → After env Any (struct_given names env w t e)
  struct_formed env w t e h = next (value_formed names env e h) (λ x g q. staying g.formed anything)

  array_formed_by : (env : Env) (w : Target) (t : CType) (e : Expression) → IsFormedEnv env → After env Any (array_given names env w t e)
  array_formed_by env w t e h = by (string_for t (one e))
    where
      by : (o : Option Expression) → After env Any (elim o as (λ x. Checked (List (ℕ × Typed) × Env)) [ Some s ↦ stays env (string_added names [] t 0 w.name s) | None ↦ refused BadInitialiser w.name ])
      by (Some s) = staying h anything
      by None = after_none

  alone_formed : (env : Env) (w : Target) (t : CType) (e : Expression) → IsFormedEnv env → After env Any (alone names env w t e)
  alone_formed env w (structure j) e h = struct_formed env w (structure j) e h
  alone_formed env w (array t n) e h = array_formed_by env w (array t n) e h
  alone_formed env w void e h = one_formed names env w h [] void 0 e
  alone_formed env w (integer k) e h = one_formed names env w h [] (integer k) 0 e
  alone_formed env w (floating k) e h = one_formed names env w h [] (floating k) 0 e
  alone_formed env w (pointer t) e h = one_formed names env w h [] (pointer t) 0 e
  alone_formed env w (function s) e h = one_formed names env w h [] (function s) 0 e

  initialised_formed : (env : Env) (w : Target) (t : CType) (i : Init) → IsFormedEnv env → After env Any (initialised names env w t i)
  initialised_formed env w t (one e) h = alone_formed env w t e h
  initialised_formed env w t (list is c) h = given_formed env w [] t 0 (list is c) h

-- ---- the type that values complete

-- of an object
abbrev pub IsObjectType : CType → Env → Type 0
IsObjectType t env = IsType t env × (is_function t ≡ false)

pub object_type_kept : (env later : Env) → Goes env later → (t : CType) → IsObjectType t env → IsObjectType t later
object_type_kept env later g t h = (type_kept env later g t h.0, h.1)

some_elements : (last each : ℕ) → 1 ≤ how_many last each
some_elements last zero = omega arith
some_elements last (suc each) = omega arith

measured_formed : (env : Env) (at : Place) (vs : List (ℕ × Typed)) (t : CType) → IsObjectType t env → Gives (λ u. IsObjectType u env) (measured env.tables.structs at vs t)
measured_formed env at vs (array t None) h =
    gives_met {b = nat_le (how_many (last_leaf vs) (leaves env.tables.structs t)) (2 ^ 31 - 1)} _ _ (λ few.
    gives_given {o = layout env.tables.structs t} _ _ (λ e g. gives_met _ _ (λ fits.
    gives {x = array t (Some (how_many (last_leaf vs) (leaves env.tables.structs t)))}
    (array_formed env.tables.structs t (how_many (last_leaf vs) (leaves env.tables.structs t)) h.0 (some_elements (last_leaf vs) (leaves env.tables.structs t)), refl))))
measured_formed env at vs (array t (Some n)) h = gives {x = array t (Some n)} h
measured_formed env at vs void h = gives {x = void} h
measured_formed env at vs (integer k) h = gives {x = integer k} h
measured_formed env at vs (floating k) h = gives {x = floating k} h
measured_formed env at vs (pointer t) h = gives {x = pointer t} h
measured_formed env at vs (structure k) h = gives {x = structure k} h
measured_formed env at vs (function s) h = gives {x = function s} h

goes_lengthened : (env : Env) (b : Bool) (t : CType) → IsFormedEnv env → Goes env (with_length env b t)
goes_lengthened env true (array t (Some n)) h = goes_constant env h (pos n)
goes_lengthened env b t h = goes_nowhere env h

-- ---- whole objects

abbrev pub IsStarted : Started → Env → Type 0
IsStarted x env = IsObjectType x.of env

pub started_formed : (names : List (List ℕ)) (env : Env) (w : Target) (t : CType) (i : Init) → IsFormedEnv env → IsObjectType t env → After env IsStarted (started names env w t i)
started_formed names env w t i h f =
    met {b = is_unmeasured t || is_complete env.tables.structs t} _ _ (λ whole.
    next (initialised_formed names env w t i h) (λ x g q.
    taken (measured_formed x.1 w.declarator x.0 t (object_type_kept env x.1 g t f)) (λ u k.
    done (goes_lengthened x.1 (is_unmeasured t) u g.formed)
    (object_type_kept x.1 (with_length x.1 (is_unmeasured t) u) (goes_lengthened x.1 (is_unmeasured t) u g.formed) u k))))
