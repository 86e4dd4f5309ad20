-- An object of a struct that is incomplete takes no value: a list between braces for it is empty,
-- and leaves the environment (C90 6.5.7).
use Rattle.std.proofs.Common.{◌≡◌, ℕ, zero, suc, Bool, true, false, if◌then◌else◌, List, [], ◌∷◌, ◌++◌, Option, Some, None, is_some, refl, ap, sym, subst, ◌∙◌}
use Rattle.std.specs.Prelude.{slice_get, option_map, ⊤}
use Rattle.sp_tree.specs.declared.fault.Place.{Place}
use Rattle.sp_parse_trees.specs.Syntax.{Expression, Init, one, list, Inits, no_inits, next_init}
use Rattle.sp_types.specs.declared.extents.Extent.{Extent}
use Rattle.sp_types.specs.Types.{CType, void, integer, floating, pointer, array, structure, function, Struct}
use Rattle.sp_types.specs.Typed.{Typed}
use Rattle.sp_types.specs.Layout.{layout, repeated, struct_extent}
use Rattle.sp_types.specs.Structs.{IsTable, IsWhole, height}
use Rattle.sp_base_checked.specs.Answers.{Checked}
use Rattle.sp_check_binary_rules.specs.Rules.{members_of}
use Rattle.sp_check_type_names.specs.Tags.{is_union}
use Rattle.sp_check_env.specs.Env.{Env}
use Rattle.sp_expr_check.specs.Specifiers.{stays}
use Rattle.sp_check_initialisers.specs.declared.targets.Target.{Target}
use Rattle.sp_check_initialisers.specs.Strings.{string_for, string_added}
use Rattle.sp_check_initialisers.specs.Runs.{Run, elements, members, Part, part, Step, step, has_more, elements_behind, numbered, member_numbered, member_next, next_in, or_part, next_part, first_member, struct_parts, parts, into_arrays, from_array, is_structure, into_struct, then_part, inwards, reached, taken}
use Rattle.sp_check_initialisers.specs.Initialisers.{Progress, filled, given}
use Rattle.sp_base_layout_laws.proofs.Shaped.{repeated-some}
use Rattle.sp_check_formed_laws.proofs.Lists.{none_some, some_is}
use Rattle.sp_check_formed_laws.proofs.Stays.{Stays, type_stays}
use Rattle.sp_check_formed_laws.proofs.After.{Gives, gives, gives_then, gives_given}

-- a struct without a layout, or an array of such
abbrev pub IsOpen : List Struct → CType → Type 0
IsOpen ss (structure j) = layout ss (structure j) ≡ None
IsOpen ss (array t (Some n)) = IsOpen ss t
IsOpen ss _ = ⊥

-- what has a layout later, and has none yet
pub open_before : (ss rs : List Struct) → Stays ss rs → (t : CType) (e : Extent)
    → layout ss t ≡ None → layout rs t ≡ Some e → IsOpen ss t
open_before ss rs kept (structure j) e h g = h
open_before ss rs kept (array t (Some n)) e h g =
    let x : (f : Extent) × (layout rs t ≡ Some f) = repeated-some n (layout rs t) e g in
    by (layout ss t) refl (λ q. open_before ss rs kept t x.0 q x.1)
  where
    by : (o : Option Extent) → layout ss t ≡ o → (layout ss t ≡ None → IsOpen ss t) → IsOpen ss t
    by None q inner = inner q
    by (Some f) q inner =
        absurd (none_some e (sym h ∙ ap (repeated n) (sym (type_stays ss rs kept t f q).layouts)
        ∙ g))
open_before ss rs kept void e h g = absurd (none_some e g)
open_before ss rs kept (integer c) e h g = absurd (none_some _ (sym h))
open_before ss rs kept (floating c) e h g = absurd (none_some _ (sym h))
open_before ss rs kept (pointer t) e h g = absurd (none_some _ (sym h))
open_before ss rs kept (array t None) e h g = absurd (none_some e g)
open_before ss rs kept (function r) e h g = absurd (none_some e g)

module _ (ss : List Struct) (table : IsTable ss) where
  -- it has no members yet
  memberless : (j i : ℕ) → layout ss (structure j) ≡ None → member_numbered ss j i ≡ None
  memberless j i h = by (slice_get ss j) refl h
    where
      none : (s : Struct) (o : Option (List (ℕ × CType))) → IsWhole ss s o → s.extent ≡ None
          → numbered o i ≡ None
      none s None w h = refl
      none s (Some ms) w h = absurd (none_some w.1.0 (sym h ∙ w.1.1))

      by : (o : Option Struct) → slice_get ss j ≡ o → struct_extent o ≡ None
          → numbered (members_of o) i ≡ None
      by None at h = refl
      by (Some s) at h = none s s.members (table j s at) h

  -- ---- runs

  abbrev IsOpenRun : Run → Type 0
  IsOpenRun (elements t k n) = IsOpen ss t
  IsOpenRun (members j i k) = layout ss (structure j) ≡ None

  abbrev pub AreOpen : List Run → Type 0
  AreOpen [] = ⊤
  AreOpen (r ∷ rs) = IsOpenRun r × AreOpen rs

  abbrev IsOpenPart : Part → Type 0
  IsOpenPart x = IsOpen ss x.of × AreOpen x.behind

  abbrev IsOpenStep : Step → Type 0
  IsOpenStep x = IsOpen ss x.of × IsOpenRun x.rest

  open_joined : (rs qs : List Run) → AreOpen rs → AreOpen qs → AreOpen (rs ++ qs)
  open_joined [] qs h g = g
  open_joined (r ∷ rs) qs h g = (h.0, open_joined rs qs h.1 g)

  open_step : (r : Run) (x : Step) → IsOpenRun r → next_in ss r ≡ Some x → IsOpenStep x
  open_step (elements t k n) x h p = by (has_more n) p
    where
      by : (b : Bool) → (if b then Some (step t k (elements_behind ss t k n)) else None) ≡ Some x
          → IsOpenStep x
      by true p = subst IsOpenStep (some_is (step t k (elements_behind ss t k n)) x p) (h, h)
      by false p = absurd (none_some x p)
  open_step (members j i k) x h p =
      absurd (none_some x (sym (ap (member_next ss j i k) (memberless j i h)) ∙ p))

  open_part : (rs : List Run) (x : Part) → AreOpen rs → next_part ss rs ≡ Some x → IsOpenPart x
  open_part [] x h p = absurd (none_some x p)
  open_part (r ∷ rs) x h p =
      by (next_in ss r) (λ y q. open_step r y h.0 q) (λ q. open_part rs x h.1 q) p
    where
      by : (o : Option Step) → ((y : Step) → o ≡ Some y → IsOpenStep y)
          → (next_part ss rs ≡ Some x → IsOpenPart x) → or_part o rs (next_part ss rs) ≡ Some x
          → IsOpenPart x
      by None first other p = other p
      by (Some y) first other p =
          let z : IsOpenStep y = first y refl in
          subst IsOpenPart (some_is (part y.of y.from (y.rest ∷ rs)) x p) (z.0, (z.1, h.1))

  open_struct_parts : (j k : ℕ) (o : Option Bool) → layout ss (structure j) ≡ None
      → AreOpen (struct_parts ss j k o)
  open_struct_parts j k None h = tt
  open_struct_parts j k (Some true) h =
      subst (λ o. AreOpen (first_member k o)) (sym (memberless j 0 h)) tt
  open_struct_parts j k (Some false) h = (h, tt)

  open_parts : (t : CType) (k : ℕ) → IsOpen ss t → AreOpen (parts ss t k)
  open_parts (structure j) k h = open_struct_parts j k (is_union (slice_get ss j)) h
  open_parts (array t (Some n)) k h = (h, tt)
  open_parts (array t None) k h = absurd h
  open_parts void k h = absurd h
  open_parts (integer c) k h = absurd h
  open_parts (floating c) k h = absurd h
  open_parts (pointer t) k h = absurd h
  open_parts (function r) k h = absurd h

  -- ---- inwards there is no scalar

  stringless : (t : CType) (n : Option ℕ) (i : Init) → IsOpen ss t
      → string_for (array t n) i ≡ None
  stringless (structure j) n i h = refl
  stringless (array t m) n i h = refl
  stringless void n i h = absurd h
  stringless (integer c) n i h = absurd h
  stringless (floating c) n i h = absurd h
  stringless (pointer t) n i h = absurd h
  stringless (function r) n i h = absurd h

  abbrev IsOpenStruct : Part → Type 0
  IsOpenStruct x = IsOpenPart x × (is_structure x.of ≡ true)

  open_arrays : (i : Init) (t : CType) (k : ℕ) (rs : List Run) → IsOpen ss t → AreOpen rs
      → IsOpenStruct (into_arrays ss i t k rs)
  open_arrays i (structure j) k rs h g = ((h, g), refl)
  open_arrays i (array t (Some n)) k rs h g =
      subst (λ (o : Option Expression). IsOpenStruct (if is_some o then part (array t (Some n)) k rs
      else into_arrays ss i t k (elements_behind ss t k (Some n) ∷ rs)))
      (sym (stringless t (Some n) i h))
      (open_arrays i t k (elements_behind ss t k (Some n) ∷ rs) h (h, g))
  open_arrays i (array t None) k rs h g = absurd h
  open_arrays i void k rs h g = absurd h
  open_arrays i (integer c) k rs h g = absurd h
  open_arrays i (floating c) k rs h g = absurd h
  open_arrays i (pointer t) k rs h g = absurd h
  open_arrays i (function r) k rs h g = absurd h

  nothing_inwards : (i : Init) (n : ℕ) (x : Part) → IsOpenStruct x → inwards ss i n x ≡ None
  nothing_inwards i zero x h =
      ap (λ b. if b then None else Some x) h.1
  nothing_inwards i (suc n) x h =
      ap (λ b. if b then then_part (into_struct ss i x) (λ y. inwards ss i n y) else Some x) h.1
      ∙ by (next_part ss (parts ss x.of x.from ++ x.behind)) (λ z q.
      nothing_inwards i n (from_array ss i z) (next_open z q))
    where
      next_open : (z : Part) → next_part ss (parts ss x.of x.from ++ x.behind) ≡ Some z
          → IsOpenStruct (from_array ss i z)
      next_open z q =
          let g : IsOpenPart z =
          open_part (parts ss x.of x.from ++ x.behind) z
          (open_joined (parts ss x.of x.from) x.behind (open_parts x.of x.from h.0.0) h.0.1) q in
          open_arrays i z.of z.from z.behind g.0 g.1

      by : (o : Option Part)
          → ((z : Part) → o ≡ Some z → inwards ss i n (from_array ss i z) ≡ None)
          → then_part (option_map (from_array ss i) o) (λ y. inwards ss i n y) ≡ None
      by None inner = refl
      by (Some z) inner = inner z refl

  nothing_reached : (e : Expression) (x : Part) → IsOpenPart x → reached ss (one e) x ≡ None
  nothing_reached e x h =
      nothing_inwards (one e) (height ss x.of) (from_array ss (one e) x)
      (open_arrays (one e) x.of x.from x.behind h.0 h.1)

  -- a list alone takes such a part
  abbrev IsList : Init → Type 0
  IsList (one e) = ⊥
  IsList (list is c) = ⊤

  open_taken : (name : Place) (rs : List Run) (i : Init) → AreOpen rs
      → Gives (λ x. IsOpenPart x × IsList i) (taken ss name rs i)
  open_taken name rs i h =
      gives_given {o = then_part (next_part ss rs) (λ x. reached ss i x)} _ _
      (λ y p. gives {x = y} (by y (next_part ss rs) refl p))
    where
      of_part : (i : Init) (x y : Part) → IsOpenPart x → reached ss i x ≡ Some y
          → IsOpenPart y × IsList i
      of_part (one e) x y g p = absurd (none_some y (sym (nothing_reached e x g) ∙ p))
      of_part (list is c) x y g p = (subst IsOpenPart (some_is x y p) g, tt)

      by : (y : Part) (o : Option Part) → next_part ss rs ≡ o
          → then_part o (λ x. reached ss i x) ≡ Some y → IsOpenPart y × IsList i
      by y None q p = absurd (none_some y p)
      by y (Some x) q p = of_part i x y (open_part rs x h q) p

-- ---- lists

module _ (names : List (List ℕ)) (env : Env) (w : Target)
    (table : IsTable env.tables.structs) where
  -- the values are as they were, and so is the environment
  abbrev IsSame : List (ℕ × Typed) → List (ℕ × Typed) × Env → Type 0
  IsSame vs y = (y.0 ≡ vs) × (y.1 ≡ env)

  abbrev IsStill : List (ℕ × Typed) → Progress × Env → Type 0
  IsStill vs y = AreOpen env.tables.structs table y.0.runs × (y.0.values ≡ vs) × (y.1 ≡ env)

  open_given : (vs : List (ℕ × Typed)) (t : CType) (k : ℕ) (is : Inits) (c : Bool)
      → IsOpen env.tables.structs t
      → Gives (IsSame vs)
      (filled names env w (record { runs = parts env.tables.structs t k; values = vs }) is)
      → Gives (IsSame vs) (given names env w vs t k (list is c))
  open_given vs (structure j) k is c h inner = inner
  open_given vs (array t (Some n)) k is c h inner =
      subst (λ o. Gives (IsSame vs) (elim o as (λ x. Checked (List (ℕ × Typed) × Env)) [
        | Some s ↦ stays env (string_added names vs (array t (Some n)) k w.name s)
        | None ↦
            filled names env w
            (record { runs = parts env.tables.structs (array t (Some n)) k; values = vs }) is
      ])) (sym (stringless env.tables.structs table t (Some n) (list is c) h)) inner
  open_given vs (array t None) k is c h inner = absurd h
  open_given vs void k is c h inner = absurd h
  open_given vs (integer n) k is c h inner = absurd h
  open_given vs (floating n) k is c h inner = absurd h
  open_given vs (pointer t) k is c h inner = absurd h
  open_given vs (function r) k is c h inner = absurd h

  mutual
    pub open_filled : (x : Progress) (is : Inits) → AreOpen env.tables.structs table x.runs
        → Gives (IsSame x.values) (filled names env w x is)
    open_filled x no_inits h = gives {x = (x.values, env)} (refl, refl)
    open_filled x (next_init i is) h =
        gives_then {Q = IsStill x.values}
        (gives_then (open_taken env.tables.structs table w.name x.runs i h) (λ y q.
        gives_then (part_given x.values y.of y.from i q.1 q.0.0) (λ z v.
        gives {x = (record { runs = y.behind; values = z.0 }, z.1)} (q.0.1, v.0, v.1))))
        (λ y q.
        subst (λ later. Gives (IsSame x.values) (filled names later w y.0 is)) (sym q.2)
        (subst (λ vs. Gives (IsSame vs) (filled names env w y.0 is)) q.1
        (open_filled y.0 is q.0)))

    part_given : (vs : List (ℕ × Typed)) (t : CType) (k : ℕ) (i : Init)
        → IsList env.tables.structs table i → IsOpen env.tables.structs t
        → Gives (IsSame vs) (given names env w vs t k i)
    part_given vs t k (one e) l h = absurd l
    part_given vs t k (list is c) l h =
        open_given vs t k is c h
        (open_filled (record { runs = parts env.tables.structs t k; values = vs }) is
        (open_parts env.tables.structs table t k h))
