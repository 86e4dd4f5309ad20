-- The environment behind initialisers is sound, and so is the type that they complete (C90 6.5.7).
use Rattle.std.proofs.Common.{◌≡◌, ℕ, zero, suc, ◌^◌, ◌-◌, ◌≤◌, nat_le, pos, Bool, true, false, not, ◌||◌, if◌then◌else◌, List, [], ◌∷◌, Option, Some, None, refl, subst, arith, ◌*◌, is_some, ap, sym, true≢false, ◌∙◌}
use Rattle.sp_tree.specs.declared.fault.Place.{Place}
use Rattle.sp_tree.specs.declared.fault.FaultKind.TheVariants.{BadInitialiser}
use Rattle.sp_parse_trees.specs.Syntax.{Expression, Init, one, list, Inits, no_inits, next_init}
use Rattle.sp_parse_trees.specs.Places.{place_of}
use Rattle.sp_types.specs.Types.{CType, void, integer, floating, pointer, array, structure, function, Struct}
use Rattle.sp_types.specs.Structs.{leaves}
use Rattle.sp_types.specs.Typed.{Typed, of}
use Rattle.sp_types.specs.Compatible.{convertible}
use Rattle.sp_base_checked.specs.Answers.{Checked, refused}
use Rattle.sp_check_operands.specs.Conversions.{is_function, is_complete}
use Rattle.sp_check_env.specs.Env.{Env}
use Rattle.sp_expr_check.specs.Specifiers.{stays}
use Rattle.sp_check_initialisers.specs.declared.targets.Target.{Target}
use Rattle.sp_check_initialisers.specs.Runs.{parts, taken as part_taken}
use Rattle.sp_check_initialisers.specs.Strings.{only_value, string_for, string_added}
use Rattle.sp_check_initialisers.specs.Initialisers.{leaf_given, one_given, only_given, is_aggregate, Progress, filled, given as init_given, struct_whole, struct_given, array_given, alone, initialised, how_many, last_leaf, measured, with_length, is_unmeasured, Started, started}
use Rattle.sp_check_typing.specs.Refines.{Tells, names_array}
use Rattle.sp_check_formed_laws.proofs.Lists.{none_some, some_is, each_none}
use Rattle.sp_check_formed_laws.proofs.Composites.{array_formed}
use Rattle.sp_check_formed_laws.proofs.After.{Gives, gives, gives_met, gives_given, anything}
use Rattle.sp_check_written_laws.specs.Written.{IsWritten, IsWrittenInit, AreWrittenInits}
use Rattle.sp_check_written_laws.specs.Laws.{AreByteNames}
use Rattle.sp_check_expr_laws.specs.Sound.{lasting_alone, scene_of}
use Rattle.sp_check_expr_laws.proofs.Envs.{IsFit, Reaches, reaches_nowhere}
use Rattle.sp_check_expr_laws.proofs.After.{After, done, after_none, next, taken, met, given, either, staying}
use Rattle.sp_check_expr_laws.proofs.Updates.{reaches_constant}
use Rattle.sp_check_expr_laws.proofs.Leaves.{IsType, type_kept}
use Rattle.sp_check_expr_laws.proofs.Expressions.{checked_value}
use Rattle.sp_check_formed_laws.proofs.Stays.{Stays}
use Rattle.sp_check_expr_laws.proofs.Envs.{table_stays, scene_grows}
use Rattle.sp_check_expr_laws.proofs.Elements.{complete_stays, repeated_whole}
use Rattle.sp_types.specs.Layout.{layout, repeated}
use Rattle.sp_check_initialiser_laws.proofs.Values.{gives_both}
use Rattle.sp_check_initialiser_laws.proofs.Sets.{IsSet, AreSetIn, all_set_stay, leaf_set, string_set}

-- ---- values

pub only_written : (is : Inits) (e : Expression) → AreWrittenInits is → only_value is ≡ Some e
    → IsWritten e
only_written (next_init (one x) no_inits) e w h = subst IsWritten (some_is x e h) w.0
only_written (next_init (list is c) no_inits) e w h = absurd (none_some e h)
only_written (next_init i (next_init j is)) e w h = absurd (none_some e h)
only_written no_inits e w h = absurd (none_some e h)

set_on : {own : ℕ → Bool} {env later : Env} (w : Target) (vs : List (ℕ × Typed)) → IsFit own env
    → Reaches own env later → AreSetIn w vs env → AreSetIn w vs later
set_on {env = env} {later = later} w vs h g set fixed =
    all_set_stay (scene_of lasting_alone env) (scene_of lasting_alone later)
    (scene_grows lasting_alone env later g.moves h.formed) vs (set fixed)

module _ (names : List (List ℕ)) (low : AreByteNames names) (own : ℕ → Bool) (env : Env) (w : Target)
    (h : IsFit own env) where
  leaf_sound : (vs : List (ℕ × Typed)) (t : CType) (k : ℕ) (e : Expression) → IsWritten e
      → AreSetIn w vs env → After own env (AreSetIn w) (leaf_given names env w vs t k e)
  leaf_sound vs t k e r set =
      next (checked_value names low own env e h r) (λ x g q. staying g.fit
      (leaf_set own x.1 w (place_of e) vs t k x.0 q.tree.typed (set_on w vs h g set)))

  one_sound : (vs : List (ℕ × Typed)) (t : CType) (k : ℕ) (e : Expression) → IsWritten e
      → AreSetIn w vs env → After own env (AreSetIn w) (one_given names env w vs t k e)
  one_sound vs t k e r set = by (string_for t (one e))
    where
      by : (o : Option Expression)
          → After own env (AreSetIn w) (elim o as (λ x. Checked (List (ℕ × Typed) × Env)) [
            | Some s ↦ stays env (string_added names vs t k w.name s)
            | None ↦ leaf_given names env w vs t k e
          ])
      by (Some s) = staying h (string_set own env w names vs t k w.name s set)
      by None = leaf_sound vs t k e r set

  only_sound : (vs : List (ℕ × Typed)) (t : CType) (k : ℕ) (is : Inits) → AreWrittenInits is
      → AreSetIn w vs env → After own env (AreSetIn w) (only_given names env w vs t k is)
  only_sound vs t k is r set =
      given {o = only_value is} _ _ (λ e f. leaf_sound vs t k e (only_written is e r f) set)

  list_sound : (vs : List (ℕ × Typed)) (t : CType) (k : ℕ) (is : Inits) (o : Option Expression)
      → AreWrittenInits is → AreSetIn w vs env
      → After own env (AreSetIn w)
      (filled names env w (record { runs = parts env.tables.structs t k; values = vs }) is)
      → After own env (AreSetIn w) (elim o as (λ x. Checked (List (ℕ × Typed) × Env)) [
        | Some s ↦ stays env (string_added names vs t k w.name s)
        | None ↦
            if is_aggregate t
            then filled names env w (record { runs = parts env.tables.structs t k; values = vs }) is
            else only_given names env w vs t k is
      ])
  list_sound vs t k is (Some s) r set f =
      staying h (string_set own env w names vs t k w.name s set)
  list_sound vs t k is None r set f =
      either {b = is_aggregate t} (λ e. f) (λ e. only_sound vs t k is r set)

-- no values are set
pub none_set : (w : Target) (env : Env) → AreSetIn w [] env
none_set w env fixed = each_none (λ (x : ℕ × Typed). IsSet (scene_of lasting_alone env) x.1)

module _ (names : List (List ℕ)) (low : AreByteNames names) (own : ℕ → Bool) where
  abbrev SetIn : Target → Progress → Env → Type 0
  SetIn w x env = AreSetIn w x.values env

  mutual
    pub filled_sound : (env : Env) (w : Target) (x : Progress) (is : Inits) → IsFit own env
        → AreWrittenInits is → AreSetIn w x.values env
        → After own env (AreSetIn w) (filled names env w x is)
    filled_sound env w x no_inits h r set = done (reaches_nowhere own env h) set
    filled_sound env w x (next_init i is) h r set =
        next {Q = SetIn w}
        (taken {P = SetIn w} {c = part_taken env.tables.structs w.name x.runs i} anything
        (λ y u. next (given_sound env w x.values y.of y.from i h r.0 set)
        (λ z g q. done (reaches_nowhere own z.1 g.fit) q)))
        (λ y g q. filled_sound y.1 w y.0 is g.fit r.1 q)

    given_sound : (env : Env) (w : Target) (vs : List (ℕ × Typed)) (t : CType) (k : ℕ) (i : Init)
        → IsFit own env → IsWrittenInit i → AreSetIn w vs env
        → After own env (AreSetIn w) (init_given names env w vs t k i)
    given_sound env w vs t k (one e) h r set = one_sound names low own env w h vs t k e r set
    given_sound env w vs t k (list is c) h r set =
        list_sound names low own env w h vs t k is (string_for t (list is c)) r set
        (filled_sound env w (record { runs = parts env.tables.structs t k; values = vs }) is h r
        set)

  struct_set : (env : Env) (w : Target) (at : Place) (t : CType) (e : Typed)
      → Gives (λ vs. AreSetIn w vs env) (struct_whole w at t e)
  struct_set env w at t e =
      gives_met {b = convertible (of e) t} _ _ (λ fits.
      gives_met {b = not w.fixed} _ _ (λ automatic.
      gives {x = (0, e) ∷ []} (λ fixed.
      absurd (true≢false (sym automatic ∙ ap not fixed)))))

  struct_sound : (env : Env) (w : Target) (t : CType) (e : Expression) → IsFit own env
      → IsWritten e → After own env (AreSetIn w) (struct_given names env w t e)
  struct_sound env w t e h r =
      next (checked_value names low own env e h r) (λ x g q. staying g.fit
      (struct_set x.1 w (place_of e) t x.0))

  array_sound : (env : Env) (w : Target) (t : CType) (e : Expression) → IsFit own env
      → After own env (AreSetIn w) (array_given names env w t e)
  array_sound env w t e h = by (string_for t (one e))
    where
      by : (o : Option Expression)
          → After own env (AreSetIn w) (elim o as (λ x. Checked (List (ℕ × Typed) × Env)) [
            | Some s ↦ stays env (string_added names [] t 0 w.name s)
            | None ↦ refused BadInitialiser w.name
          ])
      by (Some s) = staying h (string_set own env w names [] t 0 w.name s (none_set w env))
      by None = after_none

  alone_sound : (env : Env) (w : Target) (t : CType) (e : Expression) → IsFit own env
      → IsWritten e → After own env (AreSetIn w) (alone names env w t e)
  alone_sound env w (structure j) e h r = struct_sound env w (structure j) e h r
  alone_sound env w (array t n) e h r = array_sound env w (array t n) e h
  alone_sound env w void e h r =
      one_sound names low own env w h [] void 0 e r (none_set w env)
  alone_sound env w (integer k) e h r =
      one_sound names low own env w h [] (integer k) 0 e r (none_set w env)
  alone_sound env w (floating k) e h r =
      one_sound names low own env w h [] (floating k) 0 e r (none_set w env)
  alone_sound env w (pointer t) e h r =
      one_sound names low own env w h [] (pointer t) 0 e r (none_set w env)
  alone_sound env w (function s) e h r =
      one_sound names low own env w h [] (function s) 0 e r (none_set w env)

  initialised_sound : (env : Env) (w : Target) (t : CType) (i : Init) → IsFit own env
      → IsWrittenInit i → After own env (AreSetIn w) (initialised names env w t i)
  initialised_sound env w t (one e) h r = alone_sound env w t e h r
  initialised_sound env w t (list is c) h r =
      given_sound env w [] t 0 (list is c) h r (none_set w env)

-- ---- the type that values complete

-- of an object
abbrev pub IsObjectType : CType → Env → Type 0
IsObjectType t env = IsType t env × (is_function t ≡ false)

pub object_type_kept : {own : ℕ → Bool} {env later : Env} → Reaches own env later → (t : CType)
    → IsObjectType t env → IsObjectType t later
object_type_kept g t h = (type_kept g t h.0, h.1)

some_elements : (last each : ℕ) → 1 ≤ how_many last each
some_elements last zero = omega arith
some_elements last (suc each) = omega arith

-- the second type tells all that the first does
abbrev pub Completes : CType → CType → Type 0
Completes t u = (v : CType) → Tells t v → Tells u v

abbrev IsMeasured : CType → Env → CType → Type 0
IsMeasured t env u = IsObjectType u env × Completes t u

array_completes : (t : CType) (m : Option ℕ) → Completes (array t None) (array t m)
array_completes t m v (names_array u w None o k) = names_array u t None m tt
array_completes t m v (names_array u w (Some n) o k) = absurd (none_some n k)

measured_sound : (env : Env) (at : Place) (vs : List (ℕ × Typed)) (t : CType) → IsObjectType t env
    → Gives (IsMeasured t env) (measured env.tables.structs at vs t)
measured_sound env at vs (array t None) h =
    let n : ℕ = how_many (last_leaf vs) (leaves env.tables.structs t) in
    gives_met {b = nat_le n (2 ^ 31 - 1)} _ _ (λ few.
    gives_given {o = layout env.tables.structs t} _ _ (λ e g. gives_met _ _ (λ fits.
    gives {x = array t (Some n)} (
      (
        (
          array_formed env.tables.structs t n h.0.0
              (some_elements (last_leaf vs) (leaves env.tables.structs t)),
          h.0.1,
        ),
        refl,
      ),
      array_completes t (Some n),
    ))))
measured_sound env at vs (array t (Some n)) h = gives {x = array t (Some n)} (h, λ v e. e)
measured_sound env at vs void h = gives {x = void} (h, λ v e. e)
measured_sound env at vs (integer k) h = gives {x = integer k} (h, λ v e. e)
measured_sound env at vs (floating k) h = gives {x = floating k} (h, λ v e. e)
measured_sound env at vs (pointer t) h = gives {x = pointer t} (h, λ v e. e)
measured_sound env at vs (structure k) h = gives {x = structure k} (h, λ v e. e)
measured_sound env at vs (function s) h = gives {x = function s} (h, λ v e. e)

reaches_lengthened : (own : ℕ → Bool) (env : Env) (b : Bool) (t : CType) → IsFit own env
    → Reaches own env (with_length env b t)
reaches_lengthened own env true (array t (Some n)) h = reaches_constant own env h (pos n)
reaches_lengthened own env b t h = reaches_nowhere own env h

-- ---- whole objects

-- what is measured is complete
measured_whole : (ss : List Struct) (at : Place) (vs : List (ℕ × Typed)) (t : CType)
    → (is_unmeasured t || is_complete ss t) ≡ true
    → Gives (λ u. is_complete ss u ≡ true) (measured ss at vs t)
measured_whole ss at vs (array t None) whole =
    let n : ℕ = how_many (last_leaf vs) (leaves ss t) in
    gives_met {b = nat_le n (2 ^ 31 - 1)} _ _ (λ few.
    gives_given {o = layout ss t} _ _ (λ e g. gives_met {b = nat_le (e.size * n) (2 ^ 40)} _ _
    (λ fits. gives {x = array t (Some n)}
    (ap (λ o. is_some (repeated n o)) g ∙ repeated_whole n e fits))))
measured_whole ss at vs (array t (Some n)) whole = gives {x = array t (Some n)} whole
measured_whole ss at vs void whole = gives {x = void} whole
measured_whole ss at vs (integer k) whole = gives {x = integer k} whole
measured_whole ss at vs (floating k) whole = gives {x = floating k} whole
measured_whole ss at vs (pointer t) whole = gives {x = pointer t} whole
measured_whole ss at vs (structure k) whole = gives {x = structure k} whole
measured_whole ss at vs (function s) whole = gives {x = function s} whole

still_whole : (ss rs : List Struct) → Stays ss rs → (t : CType)
    → (is_unmeasured t || is_complete ss t) ≡ true → (is_unmeasured t || is_complete rs t) ≡ true
still_whole ss rs stays t h = by (is_unmeasured t) h
  where
    by : (b : Bool) → (b || is_complete ss t) ≡ true → (b || is_complete rs t) ≡ true
    by true h = refl
    by false h = complete_stays ss rs stays t h

abbrev pub IsStartedType : CType → Started → Env → Type 0
IsStartedType t x env = IsObjectType x.of env × Completes t x.of
    × (is_complete env.tables.structs x.of ≡ true)

-- and its values, where it lasts
abbrev pub IsStartedSet : Target → CType → Started → Env → Type 0
IsStartedSet w t x env = IsStartedType t x env × AreSetIn w x.values env

pub started_sound : (names : List (List ℕ)) → AreByteNames names → (own : ℕ → Bool) (env : Env)
    (w : Target) (t : CType) (i : Init)
    → IsFit own env → IsObjectType t env → IsWrittenInit i
    → After own env (IsStartedSet w t) (started names env w t i)
started_sound names low own env w t i h f r =
    met {b = is_unmeasured t || is_complete env.tables.structs t} _ _ (λ whole.
    next (initialised_sound names low own env w t i h r) (λ x g q.
    taken (gives_both (measured_sound x.1 w.declarator x.0 t (object_type_kept g t f))
    (measured_whole x.1.tables.structs w.declarator x.0 t
    (still_whole env.tables.structs x.1.tables.structs (table_stays own env x.1 g.moves h.formed) t
    whole))) (λ u k.
    let l : Reaches own x.1 (with_length x.1 (is_unmeasured t) u) =
    reaches_lengthened own x.1 (is_unmeasured t) u g.fit in
    done l (
      (
        object_type_kept l u k.0.0,
        k.0.1,
        complete_stays x.1.tables.structs (with_length x.1 (is_unmeasured t) u).tables.structs
            (table_stays own x.1 (with_length x.1 (is_unmeasured t) u) l.moves g.fit.formed) u k.1,
      ),
      set_on w x.0 g.fit l q,
    ))))
