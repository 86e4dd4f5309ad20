-- What is still to be initialised lies in its object, in order (C90 6.5.7).
--
-- The object has the leaves `P`. A run begins at `from` or behind it, and ends before `end`; its
-- parts have complete types, whose leaves are there.
use Rattle.std.proofs.Common.{◌≡◌, ℕ, zero, suc, ◌+◌, ◌*◌, ◌%◌, Bool, true, false, if◌then◌else◌, List, [], ◌∷◌, ◌++◌, Option, Some, None, refl, ap, sym, subst, ◌∙◌, arith}
use Rattle.std.specs.Prelude.{slice_get, drop, option_map}
use Rattle.sp_types.specs.Types.{CType, Struct}
use Rattle.sp_types.specs.Structs.{IsTable, leaves, plus}
use Rattle.sp_check_binary_rules.specs.Rules.{members_of}
use Rattle.sp_check_initialisers.specs.Runs.{Run, elements, members, Part, part, Step, step, has_more, one_less, elements_behind, numbered, member_numbered, member_next, next_in, or_part, next_part}
use Rattle.sp_ir.specs.Shapes.{Shape, Shapes, no_shapes, next_shape, leaf_count, member_leaf_count}
use Rattle.sp_ir.specs.Terrain.{size_of}
use Rattle.sp_check_typing.specs.Starts.{leaf_type, member_leaf_type}
use Rattle.sp_check_formed_laws.proofs.Lists.{none_some, some_is}
use Rattle.sp_check_formed_laws.proofs.Stays.{Stays}
use Rattle.sp_check_expr_laws.proofs.Types.{IsSoundTable}
use Rattle.sp_check_expr_laws.proofs.Shapes.{struct_same}
use Rattle.sp_check_initialiser_laws.proofs.Spans.{Precedes, Places, AreAlike, CoversShape, CoversShapes, CoversElements, HasCount, IsEnd, HasType, leaf_there, one_there, one_more, plus_below, end_behind, precedes_through, precedes_end, precedes_plus, first_element, other_elements, first_member, other_members, covers_plus}
use Rattle.sp_check_initialiser_laws.proofs.Complete.{IsWholeType, AreWholeTypes, leaves_told, leaves_some, leaves_low, whole_stays, all_whole_stay}

pub record IsElements (P : Places) (ss : List Struct) (from end : ℕ) (t : CType) (k : ℕ)
    (n : Option ℕ) : Type 0 where
  pub shape : Shape
  pub whole : IsWholeType ss t shape
  pub after : Precedes from k
  pub covers : (m : ℕ) → HasCount n m → CoversElements P shape m k
  pub ends : IsEnd n k (leaf_count shape) end

pub record IsMembers (P : Places) (ss : List Struct) (from end j i k : ℕ) : Type 0 where
  pub struct : Struct
  pub there : slice_get ss j ≡ Some struct
  pub members : List (ℕ × CType)
  pub known : struct.members ≡ Some members
  pub inner : Shapes
  pub whole : AreWholeTypes ss (drop i members) inner
  pub after : Precedes from k
  pub covers : CoversShapes P inner k
  pub ends : Precedes (k + member_leaf_count inner) end

abbrev pub IsRun : Places → List Struct → ℕ → ℕ → Run → Type 0
IsRun P ss from end (elements t k n) = IsElements P ss from end t k n
IsRun P ss from end (members j i k) = IsMembers P ss from end j i k

-- each behind the one before it
abbrev pub AreRuns : Places → List Struct → ℕ → ℕ → List Run → Type 0
AreRuns P ss from end [] = Precedes from end
AreRuns P ss from end (r ∷ rs) = (mid : ℕ) × IsRun P ss from mid r × AreRuns P ss mid end rs

-- the next part of a run, and the rest of the run
pub record IsStep (P : Places) (ss : List Struct) (from end : ℕ) (x : Step) : Type 0 where
  pub shape : Shape
  pub whole : IsWholeType ss x.of shape
  pub after : Precedes from x.from
  pub covers : CoversShape P shape x.from
  pub rest : IsRun P ss (x.from + leaf_count shape) end x.rest

-- a part that is about to get its value, and what is left behind it
pub record IsPart (P : Places) (ss : List Struct) (from end : ℕ) (x : Part) : Type 0 where
  pub shape : Shape
  pub whole : IsWholeType ss x.of shape
  pub after : Precedes from x.from
  pub covers : CoversShape P shape x.from
  pub behind : AreRuns P ss (x.from + leaf_count shape) end x.behind

-- ---- where runs begin

module _ (P : Places) (ss : List Struct) where
  run_before : (a b e : ℕ) (r : Run) → Precedes a b → IsRun P ss b e r → IsRun P ss a e r
  run_before a b e (elements t k n) p h = record {
    shape = h.shape;
    whole = h.whole;
    after = precedes_through a b k p h.after;
    covers = h.covers;
    ends = h.ends;
  }
  run_before a b e (members j i k) p h = record {
    struct = h.struct;
    there = h.there;
    members = h.members;
    known = h.known;
    inner = h.inner;
    whole = h.whole;
    after = precedes_through a b k p h.after;
    covers = h.covers;
    ends = h.ends;
  }

  pub runs_before : (a b e : ℕ) (rs : List Run) → Precedes a b → AreRuns P ss b e rs
      → AreRuns P ss a e rs
  runs_before a b e [] p h = precedes_through a b e p h
  runs_before a b e (r ∷ rs) p h = (h.0, run_before a b h.0 r p h.1, h.2)

  pub runs_joined : (a b e : ℕ) (rs qs : List Run) → AreRuns P ss a b rs → AreRuns P ss b e qs
      → AreRuns P ss a e (rs ++ qs)
  runs_joined a b e [] qs h g = runs_before a b e qs h g
  runs_joined a b e (r ∷ rs) qs h g = (h.0, h.1, runs_joined h.0 b e rs qs h.2 g)

  run_within : (a e : ℕ) (r : Run) → IsRun P ss a e r → Precedes a e
  run_within a e (elements t k n) h =
      precedes_end n a k (leaf_count h.shape) e h.after h.ends
  run_within a e (members j i k) h =
      precedes_end (Some 1) a k (member_leaf_count h.inner) e h.after
      (λ low. omega (arith, h.ends low))

  pub runs_within : (a e : ℕ) (rs : List Run) → AreRuns P ss a e rs → Precedes a e
  runs_within a e [] h = h
  runs_within a e (r ∷ rs) h =
      precedes_through a h.0 e (run_within a h.0 r h.1) (runs_within h.0 e rs h.2)

-- ---- the next part of a run

-- the first leaf of a part is there
first_there : (P : Places) (ss : List Struct) (k : IsSoundTable ss) (t : CType) (s : Shape)
    (from : ℕ) → IsWholeType ss t s → CoversShape P s from → (u : CType) × P from u
first_there P ss k t s from h c =
    let x : HasType (leaf_type s) 0 =
    leaf_there ss (size_of ss) t s 0 h.shaped (omega (arith, leaves_some ss k t s h)) in
    let same : from + 0 ≡ from = omega arith in
    (x.0, subst (λ j. P j x.0) same (c 0 x.0 (omega (arith, leaves_some ss k t s h)) x.1))

module _ (P : Places) (alike : AreAlike P) (ss : List Struct) (table : IsSoundTable ss) where
  pub elements_step : (a e : ℕ) (t : CType) (k : ℕ) (n : Option ℕ) → has_more n ≡ true
      → IsElements P ss a e t k n → IsStep P ss a e (step t k (elements_behind ss t k n))
  elements_step a e t k n more h =
      let one : CoversShape P h.shape k =
      first_element P h.shape 1 k (omega arith) (h.covers 1 (one_there n more)) in
      let x : (u : CType) × P k u = first_there P ss table t h.shape k h.whole one in
      record {
        shape = h.shape;
        whole = h.whole;
        after = h.after;
        covers = one;
        rest = subst (λ c. IsElements P ss (k + leaf_count h.shape) e t (plus k c) (one_less n))
            (sym (leaves_told ss table t h.shape h.whole)) (record {
              shape = h.shape;
              whole = h.whole;
              after = precedes_plus k (leaf_count h.shape);
              covers = λ m l.
                  covers_plus P (m * leaf_count h.shape)
                  (λ j. leaf_type h.shape (j % leaf_count h.shape)) k (leaf_count h.shape) x.0
                  alike (leaves_low ss table t h.shape h.whole) x.1
                  (other_elements P h.shape m k (h.covers (suc m) (one_more n m more l)));
              ends = end_behind n k (leaf_count h.shape) e more h.ends;
            });
      }

  -- the member of a number, before those from the next number on
  cut : (ms : List (ℕ × CType)) (i : ℕ) (t : CType)
      → option_map (λ (m : ℕ × CType). m.1) (slice_get ms i) ≡ Some t
      → (m : ℕ × CType) × (drop i ms ≡ m ∷ drop (i + 1) ms) × (m.1 ≡ t)
  cut [] i t e = absurd (none_some t e)
  cut (m ∷ ms) zero t e = (m, refl, some_is m.1 t e)
  cut (m ∷ ms) (suc i) t e =
      let x = cut ms i t e in
      let next : suc (i + 1) ≡ suc i + 1 = omega arith in
      let same : drop (i + 1) ms ≡ drop (suc i + 1) (m ∷ ms) =
      ap (λ n. drop n (m ∷ ms)) next in
      (x.0, x.1 ∙ ap (λ (ns : List (ℕ × CType)). x.0 ∷ ns) same, x.2)

  -- of these members the first
  first_step : (a e j i k : ℕ) (s : Struct) (ms : List (ℕ × CType)) (m : ℕ × CType)
      (inner : Shapes) → slice_get ss j ≡ Some s → s.members ≡ Some ms
      → AreWholeTypes ss (m ∷ drop (i + 1) ms) inner → Precedes a k → CoversShapes P inner k
      → Precedes (k + member_leaf_count inner) e
      → IsStep P ss a e (step m.1 k (members j (i + 1) (plus k (leaves ss m.1))))
  first_step a e j i k s ms m no_shapes at known whole after covers ends = absurd whole
  first_step a e j i k s ms m (next_shape shape more) at known whole after covers ends =
      let one : CoversShape P shape k = first_member P shape more k covers in
      let x : (u : CType) × P k u = first_there P ss table m.1 shape k whole.0 one in
      record {
        shape = shape;
        whole = whole.0;
        after = after;
        covers = one;
        rest = subst (λ c. IsMembers P ss (k + leaf_count shape) e j (i + 1) (plus k c))
            (sym (leaves_told ss table m.1 shape whole.0)) (record {
              struct = s;
              there = at;
              members = ms;
              known = known;
              inner = more;
              whole = whole.1;
              after = precedes_plus k (leaf_count shape);
              covers = covers_plus P (member_leaf_count more) (member_leaf_type more) k
                  (leaf_count shape) x.0 alike (leaves_low ss table m.1 shape whole.0) x.1
                  (other_members P shape more k covers);
              ends = λ low.
                  omega (arith, plus_below k (leaf_count shape), ends low);
            });
      }

  members_step : (a e j i k : ℕ) (t : CType) → member_numbered ss j i ≡ Some t
      → IsMembers P ss a e j i k
      → IsStep P ss a e (step t k (members j (i + 1) (plus k (leaves ss t))))
  members_step a e j i k t n h =
      let all : numbered (members_of (slice_get ss j)) i ≡ numbered (Some h.members) i =
      ap (λ o. numbered (members_of o) i) h.there ∙ ap (λ o. numbered o i) h.known in
      let x = cut h.members i t (sym all ∙ n) in
      subst (λ t. IsStep P ss a e (step t k (members j (i + 1) (plus k (leaves ss t))))) x.2
      (first_step a e j i k h.struct h.members x.0 h.inner h.there h.known
      (subst (λ ms. AreWholeTypes ss ms h.inner) x.1 h.whole) h.after h.covers h.ends)

  step_of : (a e : ℕ) (r : Run) (x : Step) → IsRun P ss a e r → next_in ss r ≡ Some x
      → IsStep P ss a e x
  step_of a e (elements t k n) x h p = by (has_more n) refl p
    where
      by : (b : Bool) → has_more n ≡ b
          → (if b then Some (step t k (elements_behind ss t k n)) else None) ≡ Some x
          → IsStep P ss a e x
      by true more p =
          subst (IsStep P ss a e) (some_is (step t k (elements_behind ss t k n)) x p)
          (elements_step a e t k n more h)
      by false more p = absurd (none_some x p)
  step_of a e (members j i k) x h p = by (member_numbered ss j i) refl p
    where
      by : (o : Option CType) → member_numbered ss j i ≡ o → member_next ss j i k o ≡ Some x
          → IsStep P ss a e x
      by None n p = absurd (none_some x p)
      by (Some t) n p =
          subst (IsStep P ss a e)
          (some_is (step t k (members j (i + 1) (plus k (leaves ss t)))) x p)
          (members_step a e j i k t n h)

  pub part_of : (a e : ℕ) (rs : List Run) (x : Part) → AreRuns P ss a e rs
      → next_part ss rs ≡ Some x → IsPart P ss a e x
  part_of a e [] x h p = absurd (none_some x p)
  part_of a e (r ∷ rs) x h p =
      by (next_in ss r) (λ y q. step_of a h.0 r y h.1 q)
      (λ q. part_of a e rs x (runs_before P ss a h.0 e rs (run_within P ss a h.0 r h.1) h.2) q) p
    where
      by : (o : Option Step) → ((y : Step) → o ≡ Some y → IsStep P ss a h.0 y)
          → (next_part ss rs ≡ Some x → IsPart P ss a e x)
          → or_part o rs (next_part ss rs) ≡ Some x → IsPart P ss a e x
      by None one other p = other p
      by (Some y) one other p =
          let z : IsStep P ss a h.0 y = one y refl in
          subst (IsPart P ss a e) (some_is (part y.of y.from (y.rest ∷ rs)) x p) (record {
            shape = z.shape;
            whole = z.whole;
            after = z.after;
            covers = z.covers;
            behind = (h.0, z.rest, h.2);
          })

-- ---- what is still to be initialised stays so

module _ (P : Places) (ss rs : List Struct) (table : IsTable ss) (stays : Stays ss rs) where
  run_stays : (a e : ℕ) (r : Run) → IsRun P ss a e r → IsRun P rs a e r
  run_stays a e (elements t k n) h = record {
    shape = h.shape;
    whole = whole_stays ss rs table stays t h.shape h.whole;
    after = h.after;
    covers = h.covers;
    ends = h.ends;
  }
  run_stays a e (members j i k) h = record {
    struct = h.struct;
    there = struct_same ss rs table stays j h.struct h.members h.there h.known;
    members = h.members;
    known = h.known;
    inner = h.inner;
    whole = all_whole_stay ss rs table stays (drop i h.members) h.inner h.whole;
    after = h.after;
    covers = h.covers;
    ends = h.ends;
  }

  pub runs_stay : (a e : ℕ) (qs : List Run) → AreRuns P ss a e qs → AreRuns P rs a e qs
  runs_stay a e [] h = h
  runs_stay a e (r ∷ qs) h = (h.0, run_stays a h.0 r h.1, runs_stay h.0 e qs h.2)
