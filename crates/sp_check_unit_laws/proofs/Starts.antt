-- Start values of scalars, and of a struct as a whole, are typed (C90 6.5.7).
use Rattle.std.proofs.Common.{◌≡◌, inl, inr, ℕ, zero, suc, Bool, true, false, not, ◌||◌, List, [], ◌∷◌, Option, Some, None, refl, ap, sym, subst, ◌∙◌, true≢false, eqb-true, nat_le, ◌^◌, ◌-◌, arith}
use Rattle.std.specs.Prelude.{⊤}
use Rattle.sp_tree.specs.declared.fault.Place.{Place}
use Rattle.sp_parse_trees.specs.Syntax.{Expression, Init, one, list, Inits}
use Rattle.sp_parse_trees.specs.Places.{place_of}
use Rattle.sp_types.specs.Types.{CType, void, integer, floating, pointer, array, structure, function, Struct}
use Rattle.sp_types.specs.Typed.{Typed, of}
use Rattle.sp_types.specs.Layout.{layout}
use Rattle.sp_types.specs.Structs.{IsFormed, leaves}
use Rattle.sp_types.specs.Compatible.{convertible}
use Rattle.sp_types.specs.Programs.{Object}
use Rattle.sp_base_checked.specs.Answers.{accepted}
use Rattle.sp_check_operands.specs.Conversions.{converted, is_floating, is_complete, is_function}
use Rattle.sp_check_env.specs.Env.{Env}
use Rattle.sp_check_initialisers.specs.declared.targets.Target.{Target}
use Rattle.sp_check_initialisers.specs.StaticValues.{is_static}
use Rattle.sp_check_initialisers.specs.Strings.{only_value}
use Rattle.sp_check_initialisers.specs.Initialisers.{leaf_added, leaf_given, only_given, struct_whole, struct_given, initialised, how_many, last_leaf, measured, with_length, is_unmeasured, Started, started}
use Rattle.sp_ir.specs.Formed.{is_array, is_struct, is_scalar}
use Rattle.sp_ir.specs.Shapes.{scalar, HasShape, has_integer, has_pointer}
use Rattle.sp_ir.specs.Terrain.{size_of}
use Rattle.sp_check_typing.specs.Sorts.{same_value, IsStored, IsKnown}
use Rattle.sp_check_typing.specs.Trees.{Scene}
use Rattle.sp_check_typing.specs.Starts.{IsLeafValue, AreApart, AreLeafValues, IsWholeValue, IsStarted}
use Rattle.sp_check_formed_laws.proofs.Lists.{none_some, nil_all, cons_all}
use Rattle.sp_check_formed_laws.proofs.After.{accepted_is, Gives, gives, gives_then, gives_met, gives_given, anything}
use Rattle.sp_check_written_laws.specs.Written.{IsWritten, IsWrittenInit, AreWrittenInits}
use Rattle.sp_check_written_laws.specs.Laws.{AreByteNames}
use Rattle.sp_check_expr_laws.specs.Sound.{IsSound, scene_of}
use Rattle.sp_check_expr_laws.proofs.Operators.{IsGood}
use Rattle.sp_check_expr_laws.proofs.Trees.{IsValued, IsOf, tree_converted}
use Rattle.sp_check_expr_laws.proofs.Envs.{IsFit}
use Rattle.sp_check_expr_laws.proofs.After.{After, next, given, staying}
use Rattle.sp_check_expr_laws.proofs.Leaves.{IsType, type_kept}
use Rattle.sp_check_expr_laws.proofs.Expressions.{checked_value}
use Rattle.sp_check_expr_laws.proofs.Law.{fit_of}
use Rattle.sp_check_unit_laws.proofs.Started.{IsStart, StartsAreTyped}
use Rattle.sp_check_initialiser_laws.proofs.Values.{gives_after}
use Rattle.sp_check_initialiser_laws.proofs.Values.{kept_type}
use Rattle.sp_check_initialiser_laws.proofs.Literals.{literal_started}
use Rattle.sp_check_initialiser_laws.proofs.Initialisers.{only_written}
use Rattle.sp_check_initialiser_laws.proofs.Leaves.{leaves_are_typed}

-- ---- one value

struct_kept : (ss : List Struct) (t : CType) (j : ℕ) → convertible t (structure j) ≡ true
    → IsKnown ss t → IsStored ss (structure j) × (same_value t (structure j) ≡ true)
struct_kept ss (structure i) j h w =
    (subst (λ n. IsKnown ss (structure n)) (eqb-true i j h) w, h)
struct_kept ss t j h w = absurd (true≢false (sym h))

-- the value of a whole object has the number of its first leaf
abbrev IsFirst : List (ℕ × Typed) → Type 0
IsFirst [] = ⊤
IsFirst (e ∷ es) = e.0 ≡ 0

record IsOne (s : Scene) (t : CType) (vs : List (ℕ × Typed)) : Type 0 where
  whole : IsWholeValue s t vs
  first : IsFirst vs

module _ (s : Scene) (os : List Object) (w : Target) where
  leaf_good : (at : Place) (t : CType) (e : Typed) → IsGood s.structs t → IsValued s e
      → Gives (IsOne s t) (leaf_added os w at [] t 0 e)
  leaf_good at t e g h =
      gives_then {Q = λ v. IsWholeValue s t ((0, v) ∷ [])}
      (gives_met {b = not (is_floating t)} _ _ (λ kind.
      gives_met {b = convertible (of e) t} _ _ (λ fits.
      gives_met {b = not w.fixed || is_static os e} _ _ (λ known.
      let y : IsOf s t (converted t e) = tree_converted s t e h.tree g.0 g.1 fits in
      let z : IsStored s.structs t × (same_value t t ≡ true) =
      kept_type s.structs (of e) t fits h.value.known in
      gives {x = converted t e}
      (refl, y.tree.typed, z.0, ap (λ u. same_value u t) y.is ∙ z.1)))))
      (λ v q. gives {x = (0, v) ∷ []} (record { whole = q; first = refl }))

  struct_good : (at : Place) (j : ℕ) (e : Typed) → IsValued s e
      → Gives (λ vs. IsWholeValue s (structure j) vs × (w.fixed ≡ true → ⊥))
      (struct_whole w at (structure j) e)
  struct_good at j e h =
      gives_met {b = convertible (of e) (structure j)} _ _ (λ fits.
      gives_met {b = not w.fixed} _ _ (λ automatic.
      let z : IsStored s.structs (structure j) × (same_value (of e) (structure j) ≡ true) =
      struct_kept s.structs (of e) j fits h.value.known in
      gives {x = (0, e) ∷ []} (
        (refl, h.tree.typed, z.0, z.1),
        λ fixed. true≢false (sym automatic ∙ ap not fixed),
      )))

-- the one leaf of a scalar
scalar_leaf : (s : Scene) (t : CType) (vs : List (ℕ × Typed))
    → HasShape s.structs (size_of s.structs) t (scalar t (size_of s.structs t))
    → is_scalar t ≡ true → IsOne s t vs → AreLeafValues s t vs
scalar_leaf s t [] shaped kind h = absurd h.whole
scalar_leaf s t (e ∷ es) shaped kind h =
    subst (λ xs. AreLeafValues s t (e ∷ xs)) (sym h.whole.0) (record {
      shape = scalar t (size_of s.structs t);
      shaped = shaped;
      values = cons_all (IsLeafValue s (scalar t (size_of s.structs t))) e [] (record {
        low = omega (arith, h.first);
        typed = h.whole.1;
        leaf = t;
        there = refl;
        scalar = kind;
        same = h.whole.3;
      }) (nil_all (IsLeafValue s (scalar t (size_of s.structs t))));
      apart = only;
    })
  where
    only : AreApart (e ∷ [])
    only zero zero d x at there same = refl
    only zero (suc j) d x at there same = absurd (none_some x there)
    only (suc i) j d x at there same = absurd (none_some d at)

whole_leaves : (s : Scene) (t : CType) (vs : List (ℕ × Typed)) → is_struct t ≡ false → IsOne s t vs
    → AreLeafValues s t vs
whole_leaves s (integer k) vs plain h = scalar_leaf s (integer k) vs has_integer refl h
whole_leaves s (pointer u) vs plain h = scalar_leaf s (pointer u) vs has_pointer refl h
whole_leaves s (structure j) vs plain h = absurd (true≢false plain)
whole_leaves s void [] plain h = absurd h.whole
whole_leaves s void (v ∷ vs) plain h = absurd h.whole.2
whole_leaves s (floating k) [] plain h = absurd h.whole
whole_leaves s (floating k) (v ∷ vs) plain h = absurd h.whole.2
whole_leaves s (array u n) [] plain h = absurd h.whole
whole_leaves s (array u n) (v ∷ vs) plain h = absurd h.whole.2
whole_leaves s (function q) [] plain h = absurd h.whole
whole_leaves s (function q) (v ∷ vs) plain h = absurd h.whole.2

module _ (names : List (List ℕ)) (bytes : AreByteNames names) (own : ℕ → Bool) (env : Env)
    (w : Target) (h : IsFit own env) where
  abbrev IsOneIn : CType → List (ℕ × Typed) → Env → Type 0
  IsOneIn t vs later = IsOne (scene_of own later) t vs

  leaf_typed : (t : CType) (e : Expression) → IsType t env → IsWritten e
      → After own env (IsOneIn t) (leaf_given names env w [] t 0 e)
  leaf_typed t e f r =
      next (checked_value names bytes own env e h r) (λ x g q. staying g.fit
      (leaf_good (scene_of own x.1) x.1.tables.objects w (place_of e) t x.0 (type_kept g t f) q))

  only_typed : (t : CType) (is : Inits) → IsType t env → AreWrittenInits is
      → After own env (IsOneIn t) (only_given names env w [] t 0 is)
  only_typed t is f r =
      given {o = only_value is} _ _ (λ e o. leaf_typed t e f (only_written is e r o))

  abbrev IsStructIn : ℕ → List (ℕ × Typed) → Env → Type 0
  IsStructIn j vs later =
      IsWholeValue (scene_of own later) (structure j) vs × (w.fixed ≡ true → ⊥)

  struct_typed : (j : ℕ) (e : Expression) → IsWritten e
      → After own env (IsStructIn j) (struct_given names env w (structure j) e)
  struct_typed j e r =
      next (checked_value names bytes own env e h r) (λ x g q. staying g.fit
      (struct_good (scene_of own x.1) x.1.tables.objects w (place_of e) j x.0 q))

  whole_started : (s : Scene) (t : CType) (vs : List (ℕ × Typed)) → IsWholeValue s t vs
      → IsStarted s t vs
  whole_started s t [] q = tt
  whole_started s t (v ∷ vs) q = inl q

  -- ---- objects that take one value

  abbrev IsStartIn : Started × Env → Type 0
  IsStartIn x = IsStart own w x.1 x.0

  -- its type is as it was told
  abbrev IsMeasuredSo : CType → Type 0
  IsMeasuredSo t = (ss : List Struct) (at : Place) (vs : List (ℕ × Typed))
      → measured ss at vs t ≡ accepted t

  started_whole : {P : List (ℕ × Typed) → Env → Type 0} (t : CType) (i : Init)
      → is_unmeasured t ≡ false → IsMeasuredSo t
      → After own env P (initialised names env w t i)
      → ((vs : List (ℕ × Typed)) (later : Env) → P vs later
      → IsStart own w later (record { of = t; values = vs }))
      → Gives IsStartIn (started names env w t i)
  started_whole t i told so q start =
      gives_met {b = is_unmeasured t || is_complete env.tables.structs t} _ _ (λ whole.
      gives_after q (λ x g v.
      gives_then {Q = λ u. u ≡ t} (record {
        at = λ u e. sym (accepted_is t u (sym (so x.1.tables.structs w.declarator x.0) ∙ e));
      }) (λ u is. gives
      (subst (λ b. IsStart own w (with_length x.1 b u) (record { of = u; values = x.0 })) (sym told)
      (subst (λ u. IsStart own w (with_length x.1 false u) (record { of = u; values = x.0 }))
      (sym is) (start x.0 x.1 v))))))

  started_one : (t : CType) (i : Init) → is_unmeasured t ≡ false → is_struct t ≡ false
      → IsMeasuredSo t → After own env (IsOneIn t) (initialised names env w t i)
      → Gives IsStartIn (started names env w t i)
  started_one t i told plain so q =
      started_whole t i told so q (λ vs later v. record {
        automatic = λ passes. whole_started (scene_of own later) t vs v.whole;
        static = λ fixed. whole_leaves (scene_of own later) t vs plain v;
      })

  started_struct : (j : ℕ) (e : Expression) → IsWritten e
      → Gives IsStartIn (started names env w (structure j) (one e))
  started_struct j e r =
      started_whole (structure j) (one e) refl (λ ss at vs. refl) (struct_typed j e r)
      (λ vs later v. record {
        automatic = λ passes. whole_started (scene_of own later) (structure j) vs v.0;
        static = λ fixed. absurd (v.1 fixed);
      })

-- ---- objects whose leaves take values

leaves_started : (s : Scene) (t : CType) (vs : List (ℕ × Typed))
    → (is_array t || is_struct t) ≡ true → AreLeafValues s t vs → IsStarted s t vs
leaves_started s t [] a h = tt
leaves_started s t (v ∷ vs) a h = inr (a, h)

abbrev IsAggregate : CType → Type 0
IsAggregate t = (is_array t || is_struct t) ≡ true

array_measured : (ss : List Struct) (at : Place) (vs : List (ℕ × Typed)) (t : CType) (n : Option ℕ)
    → Gives IsAggregate (measured ss at vs (array t n))
array_measured ss at vs t (Some n) = gives {x = array t (Some n)} refl
array_measured ss at vs t None =
    gives_met {b = nat_le (how_many (last_leaf vs) (leaves ss t)) (2 ^ 31 - 1)} _ _ (λ few.
    gives_given {o = layout ss t} _ _ (λ e g. gives_met _ _ (λ fits.
    gives {x = array t (Some (how_many (last_leaf vs) (leaves ss t)))} refl)))

started_aggregate : (names : List (List ℕ)) (env : Env) (w : Target) (t : CType) (i : Init)
    → ((ss : List Struct) (vs : List (ℕ × Typed))
    → Gives IsAggregate (measured ss w.declarator vs t))
    → Gives (λ x. IsAggregate x.0.of) (started names env w t i)
started_aggregate names env w t i h =
    gives_met {b = is_unmeasured t || is_complete env.tables.structs t} _ _ (λ whole.
    gives_then {Q = λ x. ⊤} {c = initialised names env w t i} anything (λ x u.
    gives_then (h x.1.tables.structs x.0) (λ v q.
    gives {x = (record { of = v; values = x.0 }, with_length x.1 (is_unmeasured t) v)} q)))

-- ---- all

pub starts_typed : (names : List (List ℕ)) → AreByteNames names → StartsAreTyped names
starts_typed names bytes own env w t i s f plain sound r x e = by t i f plain sound r e
  where
    h : IsFit own env
    h = fit_of own env s

    of_leaves : (is_array x.0.of || is_struct x.0.of) ≡ true
        → AreLeafValues (scene_of own x.1) x.0.of x.0.values → IsStart own w x.1 x.0
    of_leaves kind v = record {
      automatic = λ passes. leaves_started (scene_of own x.1) x.0.of x.0.values kind v;
      static = λ fixed. v;
    }

    by : (t : CType) (i : Init) → IsFormed env.tables.structs t → is_function t ≡ false → IsSound t
        → IsWrittenInit i → started names env w t i ≡ accepted x → IsStart own w x.1 x.0
    by void (one a) f plain sound r e =
        (started_one names bytes own env w h void (one a) refl refl (λ ss at vs. refl)
        (leaf_typed names bytes own env w h void a (f, sound) r)).at x e
    by void (list is c) f plain sound r e =
        (started_one names bytes own env w h void (list is c) refl refl (λ ss at vs. refl)
        (only_typed names bytes own env w h void is (f, sound) r)).at x e
    by (integer k) (one a) f plain sound r e =
        (started_one names bytes own env w h (integer k) (one a) refl refl (λ ss at vs. refl)
        (leaf_typed names bytes own env w h (integer k) a (f, sound) r)).at x e
    by (integer k) (list is c) f plain sound r e =
        (started_one names bytes own env w h (integer k) (list is c) refl refl (λ ss at vs. refl)
        (only_typed names bytes own env w h (integer k) is (f, sound) r)).at x e
    by (floating k) (one a) f plain sound r e =
        (started_one names bytes own env w h (floating k) (one a) refl refl (λ ss at vs. refl)
        (leaf_typed names bytes own env w h (floating k) a (f, sound) r)).at x e
    by (floating k) (list is c) f plain sound r e =
        (started_one names bytes own env w h (floating k) (list is c) refl refl
        (λ ss at vs. refl) (only_typed names bytes own env w h (floating k) is (f, sound) r)).at x e
    by (pointer u) (one a) f plain sound r e =
        (started_one names bytes own env w h (pointer u) (one a) refl refl (λ ss at vs. refl)
        (leaf_typed names bytes own env w h (pointer u) a (f, sound) r)).at x e
    by (pointer u) (list is c) f plain sound r e =
        (started_one names bytes own env w h (pointer u) (list is c) refl refl (λ ss at vs. refl)
        (only_typed names bytes own env w h (pointer u) is (f, sound) r)).at x e
    by (structure j) (one a) f plain sound r e =
        (started_struct names bytes own env w h j a r).at x e
    by (structure j) (list is c) f plain sound r e =
        of_leaves ((started_aggregate names env w (structure j) (list is c)
        (λ ss vs. gives {x = structure j} refl)).at x e)
        (leaves_are_typed names own env w (structure j) (list is c) bytes s f plain sound r refl x
        e)
    by (array u n) (one a) f plain sound r e =
        of_leaves ((started_aggregate names env w (array u n) (one a)
        (λ ss vs. array_measured ss w.declarator vs u n)).at x e)
        ((literal_started names bytes own env w u n a).at x e)
    by (array u n) (list is c) f plain sound r e =
        of_leaves ((started_aggregate names env w (array u n) (list is c)
        (λ ss vs. array_measured ss w.declarator vs u n)).at x e)
        (leaves_are_typed names own env w (array u n) (list is c) bytes s f plain sound r refl x e)
    by (function q) i f plain sound r e = absurd (true≢false plain)
