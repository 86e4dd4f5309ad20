-- The parts of an aggregate, and the part that an initialiser takes, lie in the object (C90 6.5.7).
use Rattle.std.proofs.Common.{◌≡◌, ◌⊎◌, inl, inr, ℕ, zero, suc, ◌+◌, ◌*◌, ◌≤◌, ◌<◌, Bool, true, false, if◌then◌else◌, List, ◌∷◌, ◌++◌, Option, Some, None, is_some, refl, ap, sym, subst, ◌∙◌, arith}
use Rattle.std.specs.Prelude.{slice_get, option_map, nat_lt, ⊤}
use Rattle.std.proofs.lemmas.Bool.Decides.{nat_tests}
use Rattle.std.proofs.Math.Nat.{mul-le-mul_right}
use Rattle.sp_tree.specs.declared.fault.Place.{Place}
use Rattle.sp_parse_trees.specs.Syntax.{Init, one, list}
use Rattle.sp_types.specs.Types.{CType, void, integer, floating, pointer, array, structure, function, Struct}
use Rattle.sp_types.specs.Structs.{height}
use Rattle.sp_check_binary_rules.specs.Rules.{members_of}
use Rattle.sp_check_type_names.specs.Tags.{is_union}
use Rattle.sp_check_initialisers.specs.Strings.{string_for}
use Rattle.sp_check_initialisers.specs.Runs.{Run, elements, Part, part, has_more, elements_behind, numbered, member_numbered, next_part, struct_parts, parts, into_arrays, from_array, is_structure, into_struct, then_part, inwards, innermost, reached, taken}
use Rattle.sp_check_initialisers.specs.Runs as runs
use Rattle.sp_ir.specs.Shapes.{Shape, leaf_count}
use Rattle.sp_check_formed_laws.proofs.Lists.{none_some, some_is}
use Rattle.sp_check_formed_laws.proofs.After.{Gives, gives, gives_given}
use Rattle.sp_check_expr_laws.proofs.Types.{IsSoundTable}
use Rattle.sp_check_initialiser_laws.proofs.Spans.{Precedes, Places, AreAlike, CoversShape, CoversElements, only_element}
use Rattle.sp_check_initialiser_laws.proofs.Complete.{IsWholeType, HasElements, elements_of, HasFields, HasFirst, members_of_struct}
use Rattle.sp_check_initialiser_laws.proofs.Runs.{IsElements, AreRuns, IsStep, IsPart, runs_joined, elements_step, part_of}

fewer : (P : Places) (s : Shape) (n m k : ℕ) → m ≤ n → CoversElements P s n k
    → CoversElements P s m k
fewer P s n m k less h = λ j t low e.
    h j t (more j low) e
  where
    more : (j : ℕ) → j < m * leaf_count s → j < n * leaf_count s
    more j low =
        let all : m * leaf_count s ≤ n * leaf_count s = mul-le-mul_right (leaf_count s) less in
        omega (arith, all, low)

self : (k : ℕ) → Precedes k k
self k low = omega arith

-- a value without braces goes to no struct
abbrev pub IsFor : Init → CType → Type 0
IsFor (one v) t = is_structure t ≡ false
IsFor (list is c) t = ⊤

module _ (P : Places) (alike : AreAlike P) (ss : List Struct) (table : IsSoundTable ss) where
  -- ---- the parts of an aggregate

  counted_elements : (a e : ℕ) (t : CType) (k n : ℕ) (s : Shape) → IsWholeType ss t s
      → Precedes a k → CoversElements P s n k → Precedes (k + n * leaf_count s) e
      → IsElements P ss a e t k (Some n)
  counted_elements a e t k n s h after covers ends = record {
    shape = s;
    whole = h;
    after = after;
    covers = λ m less. fewer P s n m k less covers;
    ends = ends;
  }

  array_run : (a e : ℕ) (t : CType) (n : Option ℕ) (k : ℕ) (s : Shape)
      → IsWholeType ss (array t n) s → Precedes a k → CoversShape P s k
      → Precedes (k + leaf_count s) e
      → IsElements P ss a e t k n × (has_more n ≡ true)
  array_run a e t n k s h after covers ends =
      let x : HasElements ss t n s = elements_of ss t n s h in
      let there : CoversElements P x.inner x.count k =
      subst (λ s. CoversShape P s k) x.is covers in
      let end : Precedes (k + x.count * leaf_count x.inner) e =
      subst (λ s. Precedes (k + leaf_count s) e) x.is ends in (
        subst (IsElements P ss a e t k) (sym x.told)
            (counted_elements a e t k x.count x.inner x.whole after there end),
        ap has_more x.told ∙ positive x.count x.some,
      )
    where
      positive : (n : ℕ) → 1 ≤ n → nat_lt 0 n ≡ true
      positive n some = grind (arith, nat_tests)

  fields_run : (a e j k : ℕ) (s : Shape) → HasFields ss j s → Precedes a k → CoversShape P s k
      → Precedes (k + leaf_count s) e → AreRuns P ss a e (parts ss (structure j) k)
  fields_run a e j k s h after covers ends =
      let kind : is_union (slice_get ss j) ≡ Some false =
      ap is_union h.there ∙ ap (λ b. Some b) h.kind in
      subst (λ o. AreRuns P ss a e (struct_parts ss j k o)) (sym kind) (
        e,
        record {
          struct = h.struct;
          there = h.there;
          members = h.members;
          known = h.known;
          inner = h.inner;
          whole = h.whole;
          after = after;
          covers = subst (λ s. CoversShape P s k) h.is covers;
          ends = subst (λ s. Precedes (k + leaf_count s) e) h.is ends;
        },
        self e,
      )

  first_run : (a e j k : ℕ) (s : Shape) → HasFirst ss j s → Precedes a k → CoversShape P s k
      → Precedes (k + leaf_count s) e → AreRuns P ss a e (parts ss (structure j) k)
  first_run a e j k s h after covers ends =
      let kind : is_union (slice_get ss j) ≡ Some true =
      ap is_union h.there ∙ ap (λ b. Some b) h.kind in
      let first : member_numbered ss j 0 ≡ Some h.first.1 =
      ap (λ o. numbered (members_of o) 0) h.there ∙ ap (λ o. numbered o 0) h.known in
      let there : CoversShape P h.inner k = subst (λ s. CoversShape P s k) h.is covers in
      let end : Precedes (k + leaf_count h.inner) e =
      subst (λ s. Precedes (k + leaf_count s) e) h.is ends in
      subst (λ o. AreRuns P ss a e (struct_parts ss j k o)) (sym kind)
      (subst (λ o. AreRuns P ss a e (runs.first_member k o)) (sym first) (
        e,
        counted_elements a e h.first.1 k 1 h.inner h.whole after
            (only_element P h.inner k there) (λ low. omega (arith, end low)),
        self e,
      ))

  no_run : (a e k : ℕ) (s : Shape) → Precedes a k → Precedes (k + leaf_count s) e
      → Precedes a e
  no_run a e k s after ends = λ low.
      let all : k + leaf_count s ≤ e = ends low in
      let one : a ≤ k = after (omega (arith, all, low)) in
      omega (arith, all, one)

  pub parts_run : (a e : ℕ) (t : CType) (k : ℕ) (s : Shape) → IsWholeType ss t s
      → Precedes a k → CoversShape P s k → Precedes (k + leaf_count s) e
      → AreRuns P ss a e (parts ss t k)
  parts_run a e (array t n) k s h after covers ends =
      (e, (array_run a e t n k s h after covers ends).0, self e)
  parts_run a e (structure j) k s h after covers ends = by (members_of_struct ss table j s h)
    where
      by : HasFields ss j s ⊎ HasFirst ss j s → AreRuns P ss a e (parts ss (structure j) k)
      by (inl x) = fields_run a e j k s x after covers ends
      by (inr x) = first_run a e j k s x after covers ends
  parts_run a e void k s h after covers ends = no_run a e k s after ends
  parts_run a e (integer j) k s h after covers ends = no_run a e k s after ends
  parts_run a e (floating j) k s h after covers ends = no_run a e k s after ends
  parts_run a e (pointer t) k s h after covers ends = no_run a e k s after ends
  parts_run a e (function r) k s h after covers ends = no_run a e k s after ends

  -- ---- inwards

  pub arrays_entered : (i : Init) (a e : ℕ) (t : CType) (k : ℕ) (rs : List Run)
      → IsPart P ss a e (part t k rs) → IsPart P ss a e (into_arrays ss i t k rs)
  arrays_entered i a e (array t n) k rs h =
      by (is_some (string_for (array t n) i))
      (arrays_entered i a e t k (elements_behind ss t k n ∷ rs) inner)
    where
      run : IsElements P ss a (k + leaf_count h.shape) t k n × (has_more n ≡ true)
      run = array_run a (k + leaf_count h.shape) t n k h.shape h.whole h.after h.covers
          (self (k + leaf_count h.shape))

      first : IsStep P ss a (k + leaf_count h.shape) (runs.step t k (elements_behind ss t k n))
      first = elements_step P alike ss table a (k + leaf_count h.shape) t k n run.1 run.0

      inner : IsPart P ss a e (part t k (elements_behind ss t k n ∷ rs))
      inner = record {
        shape = first.shape;
        whole = first.whole;
        after = first.after;
        covers = first.covers;
        behind = (k + leaf_count h.shape, first.rest, h.behind);
      }

      by : (b : Bool)
          → IsPart P ss a e (into_arrays ss i t k (elements_behind ss t k n ∷ rs))
          → IsPart P ss a e (if b then part (array t n) k rs
          else into_arrays ss i t k (elements_behind ss t k n ∷ rs))
      by true further = h
      by false further = further
  arrays_entered i a e void k rs h = h
  arrays_entered i a e (integer j) k rs h = h
  arrays_entered i a e (floating j) k rs h = h
  arrays_entered i a e (pointer t) k rs h = h
  arrays_entered i a e (structure j) k rs h = h
  arrays_entered i a e (function r) k rs h = h

  abbrev IsInnermost : ℕ → ℕ → Part → Type 0
  IsInnermost a e y = IsPart P ss a e y × (is_structure y.of ≡ false)

  struct_entered : (i : Init) (a e : ℕ) (x y : Part) → IsPart P ss a e x
      → into_struct ss i x ≡ Some y → IsPart P ss a e y
  struct_entered i a e x y h p =
      by (next_part ss (parts ss x.of x.from ++ x.behind)) refl p
    where
      all : AreRuns P ss a e (parts ss x.of x.from ++ x.behind)
      all = runs_joined P ss a (x.from + leaf_count h.shape) e (parts ss x.of x.from) x.behind
          (parts_run a (x.from + leaf_count h.shape) x.of x.from h.shape h.whole h.after h.covers
          (self (x.from + leaf_count h.shape))) h.behind

      by : (o : Option Part) → next_part ss (parts ss x.of x.from ++ x.behind) ≡ o
          → option_map (from_array ss i) o ≡ Some y → IsPart P ss a e y
      by None q p = absurd (none_some y p)
      by (Some z) q p =
          subst (IsPart P ss a e) (some_is (from_array ss i z) y p)
          (arrays_entered i a e z.of z.from z.behind
          (part_of P alike ss table a e (parts ss x.of x.from ++ x.behind) z all q))

  pub inwards_part : (i : Init) (a e n : ℕ) (x y : Part) → IsPart P ss a e x
      → inwards ss i n x ≡ Some y → IsInnermost a e y
  inwards_part i a e zero x y h p = by (is_structure x.of) refl p
    where
      by : (b : Bool) → is_structure x.of ≡ b → (if b then None else Some x) ≡ Some y
          → IsInnermost a e y
      by true q p = absurd (none_some y p)
      by false q p = subst (IsInnermost a e) (some_is x y p) (h, q)
  inwards_part i a e (suc n) x y h p =
      by (is_structure x.of) refl
      (λ z q r. inwards_part i a e n z y (struct_entered i a e x z h q) r) p
    where
      further : (o : Option Part) → into_struct ss i x ≡ o
          → ((z : Part) → into_struct ss i x ≡ Some z → inwards ss i n z ≡ Some y
          → IsInnermost a e y)
          → then_part o (λ y. inwards ss i n y) ≡ Some y → IsInnermost a e y
      further None q more p = absurd (none_some y p)
      further (Some z) q more p = more z q p

      by : (b : Bool) → is_structure x.of ≡ b
          → ((z : Part) → into_struct ss i x ≡ Some z → inwards ss i n z ≡ Some y
          → IsInnermost a e y)
          → (if b then then_part (into_struct ss i x) (λ y. inwards ss i n y) else Some x) ≡ Some y
          → IsInnermost a e y
      by true q more p = further (into_struct ss i x) refl more p
      by false q more p = subst (IsInnermost a e) (some_is x y p) (h, q)

  reached_part : (i : Init) (a e : ℕ) (x y : Part) → IsPart P ss a e x → reached ss i x ≡ Some y
      → IsPart P ss a e y × IsFor i y.of
  reached_part (one v) a e x y h p =
      inwards_part (one v) a e (height ss x.of) (from_array ss (one v) x) y
      (arrays_entered (one v) a e x.of x.from x.behind h) p
  reached_part (list is c) a e x y h p = (subst (IsPart P ss a e) (some_is x y p) h, tt)

  pub taken_part : (a e : ℕ) (name : Place) (rs : List Run) (i : Init) → AreRuns P ss a e rs
      → Gives (λ x. IsPart P ss a e x × IsFor i x.of) (taken ss name rs i)
  taken_part a e name rs i h =
      gives_given {o = then_part (next_part ss rs) (λ x. reached ss i x)} _ _
      (λ y p. gives {x = y} (by y (next_part ss rs) refl p))
    where
      by : (y : Part) (o : Option Part) → next_part ss rs ≡ o
          → then_part o (λ x. reached ss i x) ≡ Some y → IsPart P ss a e y × IsFor i y.of
      by y None q p = absurd (none_some y p)
      by y (Some x) q p = reached_part i a e x y (part_of P alike ss table a e rs x h q) p
