-- The values between the braces of an array or a struct are typed (C90 6.5.7).
use Rattle.std.proofs.Common.{◌≡◌, ℕ, zero, suc, ◌+◌, ◌-◌, ◌*◌, ◌%◌, ◌/◌, ◌^◌, ◌≤◌, ◌<◌, nat_le, nat_lt, Bool, true, false, length, List, [], ◌∷◌, Option, Some, None, refl, ap, sym, subst, ◌∙◌, true≢false, arith}
use Rattle.std.specs.Prelude.{slice_get, get_or}
use Rattle.std.proofs.lemmas.Bool.{leb-true}
use Rattle.std.proofs.lemmas.Bool.Decides.{nat_tests}
use Rattle.std.proofs.lemmas.Option.{slice_get-get_or}
use Rattle.std.proofs.Math.Nat.{lt-mul-div-succ, mul_comm, mul-le-mul_left}
use Rattle.sp_tree.specs.declared.fault.Place.{Place}
use Rattle.sp_parse_trees.specs.Syntax.{Expression, list, Inits}
use Rattle.sp_types.specs.declared.extents.Extent.{Extent}
use Rattle.sp_types.specs.Types.{CType, void, integer, floating, pointer, array, structure, function}
use Rattle.sp_types.specs.Typed.{Typed}
use Rattle.sp_types.specs.Layout.{layout}
use Rattle.sp_types.specs.Structs.{IsFormed, leaves}
use Rattle.sp_base_checked.specs.Answers.{Checked, accepted, refused, and_then}
use Rattle.sp_check_operands.specs.Conversions.{is_complete}
use Rattle.sp_check_env.specs.Env.{Env}
use Rattle.sp_expr_check.specs.Specifiers.{stays}
use Rattle.sp_check_initialisers.specs.declared.targets.Target.{Target}
use Rattle.sp_check_initialisers.specs.Runs.{elements}
use Rattle.sp_check_initialisers.specs.Strings.{is_character_array, string_for, string_added}
use Rattle.sp_check_initialisers.specs.Initialisers.{filled, given, leaf_number, last_leaf, how_many, measured, with_length, is_unmeasured, Started, started}
use Rattle.sp_ir.specs.Shapes.{Shape, array_of, HasShape, has_array, leaf_count}
use Rattle.sp_ir.specs.Terrain.{size_of}
use Rattle.sp_base_layouts.specs.Layouts.{layout_of}
use Rattle.sp_check_typing.specs.Trees.{Scene}
use Rattle.sp_check_typing.specs.Starts.{leaf_type, IsLeafValue, AreApart, AreLeafValues}
use Rattle.sp_check_formed_laws.proofs.Lists.{Each, none_some, some_is, get_below}
use Rattle.sp_check_formed_laws.proofs.After.{Gives, gives, gives_none, gives_then, gives_met, gives_given}
use Rattle.sp_check_written_laws.specs.Written.{AreWrittenInits}
use Rattle.sp_check_written_laws.specs.Laws.{AreByteNames}
use Rattle.sp_check_expr_laws.specs.Sound.{IsSound, scene_of}
use Rattle.sp_check_expr_laws.proofs.Types.{IsSoundTable, complete_sized, size_laid}
use Rattle.sp_check_expr_laws.proofs.Envs.{IsFit, Reaches, grows_of, fit_table}
use Rattle.sp_check_expr_laws.proofs.After.{After}
use Rattle.sp_check_expr_laws.proofs.Law.{fit_of}
use Rattle.sp_check_initialiser_laws.specs.Leaves.{LeavesAreTyped}
use Rattle.sp_check_initialiser_laws.proofs.Values.{gives_after}
use Rattle.sp_check_initialiser_laws.proofs.Literals.{added_typed}
use Rattle.sp_check_initialiser_laws.proofs.Initialisers.{none_set, filled_sound}
use Rattle.sp_check_initialiser_laws.proofs.Sets.{AreSetIn}
use Rattle.sp_check_initialiser_laws.proofs.Spans.{limit, Places, AreAlike, CoversShape, CoversElements}
use Rattle.sp_check_initialiser_laws.proofs.Counts.{IsCounted}
use Rattle.sp_check_initialiser_laws.proofs.Complete.{IsWholeType, whole_type, whole_stays, leaves_counted, leaves_low}
use Rattle.sp_check_initialiser_laws.proofs.Ordered.{IsValue, AreValues, no_values}
use Rattle.sp_check_initialiser_laws.proofs.Filled.{string_taken, filled_values, given_values}
use Rattle.sp_check_initialiser_laws.proofs.Incomplete.{IsOpen, open_before, open_filled}

-- ---- values in order are apart

module _ (P : Places) (s : Scene) (end : ℕ) (vs : List (ℕ × Typed))
    (h : AreValues P s end vs) (low : Each (λ e. e.0 < limit) vs) where
  not_before : (i j : ℕ) (d e : ℕ × Typed) → slice_get vs i ≡ Some d → slice_get vs j ≡ Some e
      → d.0 ≡ e.0 → i < j → ⊥
  not_before i j d e at there same less =
      let up : suc d.0 ≤ e.0 = h.order i j d e less at there (low j e there) in
      omega (arith, up, same)

  are_apart : AreApart vs
  are_apart i j d e at there same = by (nat_lt i j) (nat_lt j i) refl refl
    where
      by : (b c : Bool) → nat_lt i j ≡ b → nat_lt j i ≡ c → i ≡ j
      by true c p q =
          absurd (not_before i j d e at there same (leb-true (suc i) j p))
      by false true p q =
          absurd (not_before j i e d there at (sym same) (leb-true (suc j) i q))
      by false false p q = grind (arith, nat_tests)

-- values of leaves of this shape, in order
module _ (P : Places) (s : Scene) (t : CType) (shape : Shape) (end : ℕ) (vs : List (ℕ × Typed))
    (shaped : HasShape s.structs (size_of s.structs) t shape)
    (few : leaf_count shape ≤ 2 ^ 40)
    (inside : (k : ℕ) (u : CType) → k < leaf_count shape → P k u → leaf_type shape k ≡ Some u)
    (h : AreValues P s end vs) (low : Each (λ e. e.0 < leaf_count shape) vs) where
  leaf_value : (e : ℕ × Typed) → IsValue P s e → e.0 < leaf_count shape
      → IsLeafValue s shape e
  leaf_value e v l = record {
    low = l;
    typed = v.typed;
    leaf = v.leaf;
    there = inside e.0 v.leaf l v.there;
    scalar = v.scalar;
    same = v.same;
  }

  are_leaf_values : AreLeafValues s t vs
  are_leaf_values = record {
    shape = shape;
    shaped = shaped;
    values = λ k d l.
        let at : slice_get vs k ≡ Some (get_or vs k d) = slice_get-get_or vs k d l in
        leaf_value (get_or vs k d) (h.values k (get_or vs k d) at) (low k (get_or vs k d) at);
    apart = are_apart P s end vs h (λ k e at. omega (arith, low k e at, few));
  }

-- ---- an object whose type is complete

-- the leaves of a shape
abbrev of_shape : Shape → Places
of_shape shape k u = (k < leaf_count shape) × (leaf_type shape k ≡ Some u)

abbrev AreLeavesIn : (ℕ → Bool) → Started × Env → Type 0
AreLeavesIn own x = AreLeafValues (scene_of own x.1) x.0.of x.0.values

abbrev measured_then : Target → CType → List (ℕ × Typed) × Env → Checked (Started × Env)
measured_then w t x = and_then (measured x.1.tables.structs w.declarator x.0 t) (λ u.
    accepted (record { of = u; values = x.0 }, with_length x.1 (is_unmeasured t) u))

module _ (names : List (List ℕ)) (bytes : AreByteNames names) (own : ℕ → Bool) (env : Env)
    (w : Target) (f : IsFit own env) where
  shape_alike : (shape : Shape) → leaf_count shape ≤ 2 ^ 40 → AreAlike (of_shape shape)
  shape_alike shape low j k t u far other h = absurd (omega (arith, far, h.0, low))

  all_covered : (shape : Shape) → CoversShape (of_shape shape) shape 0
  all_covered shape j t low e =
      let same : j ≡ 0 + j = omega arith in
      subst (λ n. of_shape shape n t) same (low, e)

  complete_typed : (t : CType) (shape : Shape) (is : Inits) (c : Bool) → AreWrittenInits is
      → IsWholeType env.tables.structs t shape
      → After own env (λ vs later. AreLeafValues (scene_of own later) t vs)
      (given names env w [] t 0 (list is c))
  complete_typed t shape is c r h = record {
    at = λ x e.
        let few : leaf_count shape ≤ 2 ^ 40 =
        leaves_low env.tables.structs (fit_table own env f) t shape h in
        let a = (given_values names bytes own (of_shape shape) (shape_alike shape few) env w [] t 0
        (leaf_count shape) (list is c) f r tt (record {
          shape = shape;
          whole = h;
          covers = all_covered shape;
          ends = omega arith;
          from = 0;
          after = λ low. omega arith;
          values = no_values (of_shape shape) (scene_of own env) 0;
        })).at x e in
        let later : IsWholeType x.1.tables.structs t shape =
        whole_stays env.tables.structs x.1.tables.structs f.formed.table
        (grows_of own env x.1 f a.0).stays t shape h in (
          a.0,
          are_leaf_values (of_shape shape) (scene_of own x.1) t shape (leaf_count shape) x.0
              later.shaped few (λ k u l q. q.1) a.1 (λ k v at. (a.1.values k v at).there.0),
        );
  }

  complete_shape : (t : CType) → IsFormed env.tables.structs t → IsSound t
      → is_complete env.tables.structs t ≡ true
      → IsWholeType env.tables.structs t (layout_of env.tables.structs t)
  complete_shape t formed sound h =
      let x : (e : Extent) × (layout env.tables.structs t ≡ Some e) =
      size_laid (layout env.tables.structs t)
      (complete_sized env.tables.structs (fit_table own env f) t formed h).0 in
      whole_type env.tables.structs (fit_table own env f) t x.0 formed sound x.1

  struct_typed : (j : ℕ) (is : Inits) (c : Bool) → IsFormed env.tables.structs (structure j)
      → AreWrittenInits is
      → Gives (AreLeavesIn own) (started names env w (structure j) (list is c))
  struct_typed j is c formed r =
      gives_met _ _ (λ whole.
      gives_after (complete_typed (structure j) (layout_of env.tables.structs (structure j)) is c r
      (complete_shape (structure j) formed tt whole)) (λ x g q.
      gives {x = (record { of = structure j; values = x.0 }, x.1)} q))

  array_typed : (t : CType) (n : ℕ) (is : Inits) (c : Bool)
      → IsFormed env.tables.structs (array t (Some n)) → IsSound t → AreWrittenInits is
      → Gives (AreLeavesIn own) (started names env w (array t (Some n)) (list is c))
  array_typed t n is c formed sound r =
      gives_met _ _ (λ whole.
      gives_after (complete_typed u (layout_of env.tables.structs u) is c r
      (complete_shape u formed sound whole)) (λ x g q.
      gives {x = (record { of = u; values = x.0 }, x.1)} q))
    where
      u : CType
      u = array t (Some n)

-- ---- an array whose length its values tell

-- the leaves of as many elements as there are values for
abbrev of_elements : Shape → Places
of_elements s k u = k < limit → leaf_type s (k % leaf_count s) ≡ Some u

elements_alike : (s : Shape) → AreAlike (of_elements s)
elements_alike s j k t u far other h = λ low. absurd (omega (arith, low, other))

elements_covered : (s : Shape) (n : ℕ) → CoversElements (of_elements s) s n 0
elements_covered s n j t low e = λ l.
    let same : 0 + j ≡ j = omega arith in
    ap (λ m. leaf_type s (m % leaf_count s)) same ∙ e

below_many : (last count : ℕ) → 1 ≤ count → last < how_many last count * count
below_many last zero some = absurd (omega (arith, some))
below_many last (suc count) some =
    let below : last < suc count * (last / suc count + 1) = lt-mul-div-succ last some in
    omega (arith, below, mul_comm (suc count) (last / suc count + 1))

-- the last value is that of the highest leaf
last_highest : (P : Places) (s : Scene) (end : ℕ) (vs : List (ℕ × Typed)) → AreValues P s end vs
    → last_leaf vs < limit → Each (λ e. e.0 ≤ last_leaf vs) vs
last_highest P s end vs h low k e at = by (nat_lt k (length vs - 1)) refl
  where
    there : k < length vs
    there = get_below vs k e at

    last : ℕ × Typed
    last = get_or vs (length vs - 1) e

    last_there : slice_get vs (length vs - 1) ≡ Some last
    last_there = slice_get-get_or vs (length vs - 1) e (omega (arith, there))

    is_last : last_leaf vs ≡ last.0
    is_last = ap leaf_number last_there

    alone : nat_lt k (length vs - 1) ≡ false → k ≡ length vs - 1
    alone p = grind (arith, nat_tests, there)

    by : (b : Bool) → nat_lt k (length vs - 1) ≡ b → e.0 ≤ last_leaf vs
    by true p =
        let up : suc e.0 ≤ last.0 =
        h.order k (length vs - 1) e last (leb-true (suc k) (length vs - 1) p) at last_there
        (omega (arith, low, is_last)) in
        omega (arith, up, is_last)
    by false p =
        let same : slice_get vs (length vs - 1) ≡ Some e =
        subst (λ n. slice_get vs n ≡ Some e) (alone p) at in
        let number : last_leaf vs ≡ e.0 = ap leaf_number same in
        omega (arith, number)

module _ (s : Scene) (table : IsSoundTable s.structs) (t : CType) (shape : Shape)
    (vs : List (ℕ × Typed)) (whole : IsWholeType s.structs t shape)
    (h : AreValues (of_elements shape) s limit vs) where
  abbrev many : ℕ
  many = how_many (last_leaf vs) (leaves s.structs t)

  all_below : (e : Extent) → layout s.structs t ≡ Some e → nat_le (e.size * many) (2 ^ 40) ≡ true
      → (last_leaf vs < many * leaf_count shape) × (many * leaf_count shape ≤ 2 ^ 40)
  all_below e laid fits =
      let c : IsCounted (leaves s.structs t) (leaf_count shape) whole.extent.size =
      leaves_counted s.structs table t shape whole in
      let is : whole.extent ≡ e = some_is whole.extent e (sym whole.laid ∙ laid) in
      let size : whole.extent.size ≡ e.size = ap (λ (x : Extent). x.size) is in
      let below : last_leaf vs < many * leaves s.structs t =
      below_many (last_leaf vs) (leaves s.structs t) (omega (arith, c.same, c.some)) in
      let each : many * leaf_count shape ≤ many * e.size =
      mul-le-mul_left many (omega (arith, c.low, size)) in
      let all : e.size * many ≤ 2 ^ 40 = leb-true (e.size * many) (2 ^ 40) fits in (
        subst (λ n. last_leaf vs < many * n) c.same below,
        omega (arith, each, all, mul_comm many e.size),
      )

  elements_measured : (at : Place)
      → Gives (λ u. AreLeafValues s u vs) (measured s.structs at vs (array t None))
  elements_measured at =
      gives_met {b = nat_le many (2 ^ 31 - 1)} _ _ (λ short.
      gives_given {o = layout s.structs t} _ _ (λ e laid. gives_met _ _ (λ fits.
      gives {x = array t (Some many)}
      (let low = all_below e laid fits in
      are_leaf_values (of_elements shape) s (array t (Some many))
      (array_of (array t (Some many)) (size_of s.structs (array t (Some many))) shape many)
      limit vs (has_array whole.shaped) low.1 (λ k u l q. q (omega (arith, l, low.1))) h
      (λ k v there. omega (
        arith,
        low.0,
        last_highest (of_elements shape) s limit vs h (omega (arith, low.0, low.1)) k v there,
      ))))))

module _ (names : List (List ℕ)) (bytes : AreByteNames names) (own : ℕ → Bool) (env : Env)
    (w : Target) (f : IsFit own env) where
  abbrev elements_filled : CType → Inits → Checked (List (ℕ × Typed) × Env)
  elements_filled t is =
      filled names env w (record { runs = elements t 0 None ∷ []; values = [] }) is

  abbrev AreElements : CType → Shape → List (ℕ × Typed) → Env → Type 0
  AreElements t shape vs later = IsWholeType later.tables.structs t shape
      × AreValues (of_elements shape) (scene_of own later) limit vs

  elements_typed : (t : CType) (shape : Shape) (is : Inits) → AreWrittenInits is
      → IsWholeType env.tables.structs t shape
      → After own env (AreElements t shape) (elements_filled t is)
  elements_typed t shape is r h = record {
    at = λ x e.
        let a = (filled_values names bytes own (of_elements shape) (elements_alike shape) env w
        (record { runs = elements t 0 None ∷ []; values = [] }) is limit f r (record {
          from = 0;
          runs = (
            limit,
            record {
              shape = shape;
              whole = h;
              after = λ low. omega arith;
              covers = λ m l. elements_covered shape m;
              ends = omega arith;
            },
            λ low. omega arith,
          );
          values = no_values (of_elements shape) (scene_of own env) 0;
        })).at x e in (
          a.0,
          (
            whole_stays env.tables.structs x.1.tables.structs f.formed.table
                (grows_of own env x.1 f a.0).stays t shape h,
            a.1,
          ),
        );
  }

  -- elements of a complete type
  complete_elements : (t : CType) (shape : Shape) (is : Inits) → AreWrittenInits is
      → IsWholeType env.tables.structs t shape
      → Gives (AreLeavesIn own) (and_then (elements_filled t is) (measured_then w (array t None)))
  complete_elements t shape is r h =
      gives_after (elements_typed t shape is r h) (λ x g q.
      gives_then (elements_measured (scene_of own x.1) (fit_table own x.1 g.fit) t shape x.0 q.0 q.1
      w.declarator) (λ u v.
      gives {x = (record { of = u; values = x.0 }, with_length x.1 true u)} (in_later x.1 u x.0 v)))
    where
      in_later : (later : Env) (u : CType) (vs : List (ℕ × Typed))
          → AreLeafValues (scene_of own later) u vs
          → AreLeafValues (scene_of own (with_length later true u)) u vs
      in_later later (array t (Some n)) vs v = v
      in_later later (array t None) vs v = v
      in_later later void vs v = v
      in_later later (integer k) vs v = v
      in_later later (floating k) vs v = v
      in_later later (pointer t) vs v = v
      in_later later (structure j) vs v = v
      in_later later (function r) vs v = v

  -- elements of an incomplete type take no value, so that it stays incomplete
  open_elements : (t : CType) (is : Inits) → AreWrittenInits is
      → layout env.tables.structs t ≡ None
      → Gives (AreLeavesIn own) (and_then (elements_filled t is) (measured_then w (array t None)))
  open_elements t is r h =
      by (elements_filled t is)
      (filled_sound names bytes own env w (record { runs = elements t 0 None ∷ []; values = [] })
      is f r (none_set w env))
      (λ g. open_filled names env w f.formed.table
      (record { runs = elements t 0 None ∷ []; values = [] }) is (g, tt))
    where
      incomplete : (later : Env) → Reaches own env later
          → (IsOpen env.tables.structs t → later ≡ env) → (e : Extent)
          → layout later.tables.structs t ≡ Some e → ⊥
      incomplete later g same e p =
          let is : later ≡ env =
          same (open_before env.tables.structs later.tables.structs
          (grows_of own env later f g).stays t e h p) in
          none_some e (sym h ∙ ap (λ (x : Env). layout x.tables.structs t) (sym is) ∙ p)

      by : (c : Checked (List (ℕ × Typed) × Env)) → After own env (AreSetIn w) c
          → (IsOpen env.tables.structs t → Gives (λ y. (y.0 ≡ []) × (y.1 ≡ env)) c)
          → Gives (AreLeavesIn own) (and_then c (measured_then w (array t None)))
      by (refused k p) a same = gives_none
      by (accepted x) a same =
          gives_then {Q = λ u. ⊥}
          (gives_met {b = nat_le (how_many (last_leaf x.0) (leaves x.1.tables.structs t))
          (2 ^ 31 - 1)} _ _ (λ few.
          gives_given {o = layout x.1.tables.structs t} _ _ (λ e g.
          absurd (incomplete x.1 (a.at x refl).0 (λ o. ((same o).at x refl).1) e g))))
          (λ u q. absurd q)

  literal_typed : (t : CType) (s : Expression) → is_character_array (array t None) ≡ true
      → Gives (AreLeavesIn own)
      (and_then (stays env (string_added names [] (array t None) 0 w.name s))
      (measured_then w (array t None)))
  literal_typed (integer k) s kind = added_typed names bytes own env w k None s kind
  literal_typed void s kind = absurd (true≢false (sym kind))
  literal_typed (floating k) s kind = absurd (true≢false (sym kind))
  literal_typed (pointer t) s kind = absurd (true≢false (sym kind))
  literal_typed (array t n) s kind = absurd (true≢false (sym kind))
  literal_typed (structure j) s kind = absurd (true≢false (sym kind))
  literal_typed (function r) s kind = absurd (true≢false (sym kind))

  unmeasured_typed : (t : CType) (is : Inits) (c : Bool) → IsFormed env.tables.structs t
      → IsSound t → AreWrittenInits is
      → Gives (AreLeavesIn own) (started names env w (array t None) (list is c))
  unmeasured_typed t is c formed sound r =
      by (string_for (array t None) (list is c)) refl
    where
      by_layout : (o : Option Extent) → layout env.tables.structs t ≡ o
          → Gives (AreLeavesIn own)
          (and_then (elements_filled t is) (measured_then w (array t None)))
      by_layout None p = open_elements t is r p
      by_layout (Some e) p =
          complete_elements t (layout_of env.tables.structs t) is r
          (whole_type env.tables.structs (fit_table own env f) t e formed sound p)

      by : (o : Option Expression) → string_for (array t None) (list is c) ≡ o
          → Gives (AreLeavesIn own)
          (and_then (elim o as (λ x. Checked (List (ℕ × Typed) × Env)) [
            | Some s ↦ stays env (string_added names [] (array t None) 0 w.name s)
            | None ↦ elements_filled t is
          ]) (measured_then w (array t None)))
      by (Some s) p = literal_typed t s (string_taken (array t None) (list is c) s p)
      by None p = by_layout (layout env.tables.structs t) refl

-- ---- all

pub leaves_are_typed : LeavesAreTyped
leaves_are_typed names own env w (structure j) (list is c) bytes s formed plain sound r l x e =
    (struct_typed names bytes own env w (fit_of own env s) j is c formed r).at x e
leaves_are_typed names own env w (array t (Some n)) (list is c) bytes s formed plain sound r l x e =
    (array_typed names bytes own env w (fit_of own env s) t n is c formed sound r).at x e
leaves_are_typed names own env w (array t None) (list is c) bytes s formed plain sound r l x e =
    (unmeasured_typed names bytes own env w (fit_of own env s) t is c formed sound r).at x e
leaves_are_typed names own env w t i bytes s formed plain sound r l x e =
    absurd (true≢false (sym l))
