-- The leaves that the table of structs counts of a type are those of its shape: each has a byte at
-- least, so that the count stays below the number where sums stop (C90 6.5.7).
use Rattle.std.proofs.Common.{◌≡◌, ℕ, suc, ◌+◌, ◌-◌, ◌*◌, ◌/◌, ◌^◌, ◌≤◌, ◌<◌, min, max, nat_le, Bool, true, false, if◌then◌else◌, length, List, [], ◌∷◌, Some, None, refl, ap, sym, subst, ◌∙◌, arith}
use Rattle.std.specs.Prelude.{slice_get, All}
use Rattle.std.proofs.lemmas.Bool.{leb-true}
use Rattle.std.proofs.lemmas.Int.{clamps}
use Rattle.std.proofs.Math.Nat.{lt-div-mul-add, mul-pos, mul-le-mul_left, mul_comm}
use Rattle.sp_types.specs.declared.extents.Extent.{Extent}
use Rattle.sp_types.specs.Types.{CType, void, integer, floating, pointer, array, structure, function, Struct}
use Rattle.sp_types.specs.Layout.{extent, layout, repeated, struct_extent}
use Rattle.sp_types.specs.Structs.{IsWhole, IsAbove, IsFormed, held, leaves, leaves_of, leaves_of_members, times, plus, sum_of, aligned, with_member, with_members}
use Rattle.sp_ir.specs.Shapes.{Shape, Shapes, HasShape, HaveShapes, has_integer, has_pointer, has_floating, has_array, has_struct, has_union, have_none, have_next, leaf_count, member_leaf_count}
use Rattle.sp_ir.specs.Terrain.{size_of}
use Rattle.sp_base_layout_laws.proofs.Shaped.{repeated-some}
use Rattle.sp_check_formed_laws.proofs.Lists.{none_some, some_is, head_all, tail_all}
use Rattle.sp_check_formed_laws.proofs.Stays.{member_some}
use Rattle.sp_check_expr_laws.proofs.Types.{IsSoundTable, IsLaid, type_laid}

-- the table counts as many as the shape has: one at least, and no more than bytes
pub record IsCounted (told count size : ℕ) : Type 0 where
  pub same : told ≡ count
  pub some : 1 ≤ count
  pub low : count ≤ size

-- ---- arrays

repeated_size : (n : ℕ) (f e : Extent) → repeated n (Some f) ≡ Some e
    → (e.size ≡ f.size * n) × (e.size ≤ 2 ^ 40)
repeated_size n f e p = by (nat_le (f.size * n) (2 ^ 40)) refl p
  where
    by : (b : Bool) → nat_le (f.size * n) (2 ^ 40) ≡ b
        → (if b then Some (extent (f.size * n) f.align) else None) ≡ Some e
        → (e.size ≡ f.size * n) × (e.size ≤ 2 ^ 40)
    by true q p =
        let is : e.size ≡ f.size * n =
        sym (ap (λ (x : Extent). x.size) (some_is (extent (f.size * n) f.align) e p)) in
        let low : f.size * n ≤ 2 ^ 40 = leb-true (f.size * n) (2 ^ 40) q in
        (is, omega (arith, is, low))
    by false q p = absurd (none_some e p)

below_limit : (n : ℕ) → n ≤ 2 ^ 40 → min n (2 ^ 64 - 1) ≡ n
below_limit n low = omega (arith, low)

times_counted : (n told count size all : ℕ) → 1 ≤ n → IsCounted told count size
    → all ≡ size * n → all ≤ 2 ^ 40 → IsCounted (times n told) (n * count) all
times_counted n told count size all some h is low =
    let each : n * count ≤ n * size = mul-le-mul_left n h.low in
    let fits : n * count ≤ all = omega (arith, each, mul_comm size n, is) in
    record {
      same = ap (times n) h.same ∙ below_limit (n * count) (omega (arith, fits, low));
      some = mul-pos some h.some;
      low = fits;
    }

-- ---- members

-- a member begins behind those before it
aligned_above : (n align : ℕ) → 1 ≤ align → n ≤ aligned n align
aligned_above n align some =
    let below : n + (align - 1) < (n + (align - 1)) / align * align + align =
    lt-div-mul-add some in
    omega (arith, below, some)

-- of so many members: one at least for each, and no more than bytes from here on
pub record AreCounted (many told count from size : ℕ) : Type 0 where
  pub same : told ≡ count
  pub some : many ≤ count
  pub low : from + count ≤ size

next_counted : (many t told c count from size align whole : ℕ) → 1 ≤ align
    → IsCounted t c size → AreCounted many told count (aligned from align + size) whole
    → whole ≤ 2 ^ 40 → AreCounted (suc many) (plus t told) (c + count) from whole
next_counted many t told c count from size align whole some h g low =
    let up : from ≤ aligned from align = aligned_above from align some in
    let fits : from + (c + count) ≤ whole = omega (arith, up, h.low, g.low) in
    let small : c + count ≤ 2 ^ 64 - 1 = omega (arith, fits, low) in
    let cut : min (c + count) (2 ^ 64 - 1) ≡ c + count = omega (arith, small) in
    record {
      same = (λ i. plus (h.same i) (g.same i)) ∙ cut;
      some = omega (arith, h.some, g.some);
      low = fits;
    }

all_formed : (A B : ℕ × CType → Type 0) (ms : List (ℕ × CType)) → All (λ m. A m × B m) ms
    → All A ms
all_formed A B ms h = λ k d low. (h k d low).0

-- an extent without members has no size
some_members : (ss : List Struct) (union : Bool) (ms : List (ℕ × CType)) (e : Extent)
    → 1 ≤ e.size → with_members ss union (extent 0 1) ms ≡ Some e → 1 ≤ length ms
some_members ss union [] e some h =
    let none : 0 ≡ e.size =
    ap (λ (x : Extent). x.size) (some_is (extent (aligned 0 1) 1) e h) in
    absurd (omega (arith, some, none))
some_members ss union (m ∷ ms) e some h = omega arith

-- ---- types

-- a struct with its members
pub record HasMembers (ss : List Struct) (union : Bool) (ms : List (ℕ × CType)) (count : ℕ)
    (e : Extent) : Type 0 where
  pub formed : All (λ m. IsFormed ss m.1) ms
  pub laid : with_members ss union (extent 0 1) ms ≡ Some e
  pub told : count ≡ leaves_of_members ss union ms

pub has_members : (ss : List Struct) (k : IsSoundTable ss) (j : ℕ) (d : Struct) (union : Bool)
    (ms : List (ℕ × CType)) (e : Extent) → slice_get ss j ≡ Some d → d.union ≡ union
    → d.members ≡ Some ms → layout ss (structure j) ≡ Some e
    → HasMembers ss union ms (leaves ss (structure j)) e
has_members ss k j d union ms e at kind members p =
    let w : IsWhole ss d (Some ms) = subst (IsWhole ss d) members (k.table j d at) in
    let is : w.1.0 ≡ e = some_is w.1.0 e (sym w.1.1 ∙ ap struct_extent (sym at) ∙ p) in
    record {
      formed = all_formed (λ m. IsFormed ss m.1) (λ m. IsAbove ss d.level (held m.1)) ms w.0;
      laid = ap (λ b. with_members ss b (extent 0 1) ms) (sym kind) ∙ w.1.2
          ∙ ap (λ x. Some x) is;
      told = ap leaves_of at ∙ w.3 ∙ ap (λ b. leaves_of_members ss b ms) kind;
    }

-- members of a union share its bytes
union_above : (ss : List Struct) (from : Extent) (ms : List (ℕ × CType)) (e : Extent)
    → 1 ≤ from.align → with_members ss true from ms ≡ Some e → from.size ≤ e.size
union_above ss from [] e some h =
    let up : from.size ≤ aligned from.size from.align = aligned_above from.size from.align some in
    let is : aligned from.size from.align ≡ e.size =
    ap (λ (x : Extent). x.size) (some_is (extent (aligned from.size from.align) from.align) e h) in
    omega (arith, up, is)
union_above ss from (m ∷ ms) e some h =
    let x = member_some ss true from ms (layout ss m.1) e h in
    let up : max from.size x.0.size ≤ e.size =
    union_above ss (with_member true from x.0) ms e (omega (arith, clamps, some)) x.2 in
    omega (arith, clamps, up)

struct_counted : (many told sum count size : ℕ) → told ≡ sum → 1 ≤ many
    → AreCounted many sum count 0 size → IsCounted told count size
struct_counted many told sum count size is some h = record {
  same = is ∙ h.same;
  some = omega (arith, some, h.some);
  low = omega (arith, h.low);
}

union_counted : (told first count size all : ℕ) → told ≡ first → IsCounted first count size
    → size ≤ all → IsCounted told count all
union_counted told first count size all is h up =
    record { same = is ∙ h.same; some = h.some; low = omega (arith, h.low, up) }

first_below : (size all : ℕ) → max 0 size ≤ all → size ≤ all
first_below size all h = omega (arith, clamps, h)

none_counted : (from align size : ℕ) → 1 ≤ align → aligned from align ≡ size
    → AreCounted 0 0 0 from size
none_counted from align size some is =
    let up : from ≤ aligned from align = aligned_above from align some in
    record { same = refl; some = omega arith; low = omega (arith, up, is) }

module _ (ss : List Struct) (k : IsSoundTable ss) where
  one_counted : (t : CType) (e : Extent) → IsFormed ss t → layout ss t ≡ Some e
      → IsCounted 1 1 e.size
  one_counted t e f p =
      let l : IsLaid e = type_laid ss k t e f p in
      record { same = refl; some = omega arith; low = l.0 }

  mutual
    pub counted : (t : CType) (s : Shape) (e : Extent) → HasShape ss (size_of ss) t s
        → IsFormed ss t → layout ss t ≡ Some e → IsCounted (leaves ss t) (leaf_count s) e.size
    counted void s e h f p = elim h [ ]
    counted (function r) s e h f p = elim h [ ]
    counted (array t None) s e h f p = elim h [ ]
    counted (integer j) s e has_integer f p = one_counted (integer j) e f p
    counted (floating j) s e has_floating f p = one_counted (floating j) e f p
    counted (pointer t) s e has_pointer f p = one_counted (pointer t) e f p
    counted (array t (Some n)) s e (has_array {s = inner} h) f p =
        let x : (g : Extent) × (layout ss t ≡ Some g) = repeated-some n (layout ss t) e p in
        let z : (e.size ≡ x.0.size * n) × (e.size ≤ 2 ^ 40) =
        repeated_size n x.0 e (ap (repeated n) (sym x.1) ∙ p) in
        times_counted n (leaves ss t) (leaf_count inner) x.0.size e.size f.1
        (counted t inner x.0 h f.0 x.1) z.0 z.1
    counted (structure j) s e (has_struct {d = d} {members = ms} {ms = inner} at kind members h)
        f p =
        let l : IsLaid e = type_laid ss k (structure j) e f p in
        let m : HasMembers ss false ms (leaves ss (structure j)) e =
        has_members ss k j d false ms e at kind members p in
        struct_counted (length ms) (leaves ss (structure j)) (sum_of (leaves ss) ms)
        (member_leaf_count inner) e.size m.told (some_members ss false ms e l.0 m.laid)
        (summed (extent 0 1) e ms inner h (omega arith) m.formed m.laid l.2)
    counted (structure j) s e
        (has_union {d = d} {first = m} {rest = ms} {s = inner} at kind members h) f p =
        let l : IsLaid e = type_laid ss k (structure j) e f p in
        let w : HasMembers ss true (m ∷ ms) (leaves ss (structure j)) e =
        has_members ss k j d true (m ∷ ms) e at kind members p in
        let x = member_some ss true (extent 0 1) ms (layout ss m.1) e w.laid in
        union_counted (leaves ss (structure j)) (leaves ss m.1) (leaf_count inner) x.0.size e.size
        w.told (counted m.1 inner x.0 h (head_all (λ m. IsFormed ss m.1) m ms w.formed) x.1)
        (first_below x.0.size e.size
        (union_above ss (with_member true (extent 0 1) x.0) ms e (omega (arith, clamps)) x.2))

    summed : (from e : Extent) (ms : List (ℕ × CType)) (inner : Shapes)
        → HaveShapes ss (size_of ss) ms inner → 1 ≤ from.align → All (λ m. IsFormed ss m.1) ms
        → with_members ss false from ms ≡ Some e → e.size ≤ 2 ^ 40
        → AreCounted (length ms) (sum_of (leaves ss) ms) (member_leaf_count inner) from.size e.size
    summed from e [] inner have_none some f p low =
        none_counted from.size from.align e.size some
        (ap (λ (x : Extent). x.size)
        (some_is (extent (aligned from.size from.align) from.align) e p))
    summed from e (m ∷ ms) inner (have_next {s = s} {ss = rest} h g) some f p low =
        let x = member_some ss false from ms (layout ss m.1) e p in
        let one : IsFormed ss m.1 = head_all (λ m. IsFormed ss m.1) m ms f in
        let l : IsLaid x.0 = type_laid ss k m.1 x.0 one x.1 in
        next_counted (length ms) (leaves ss m.1) (sum_of (leaves ss) ms) (leaf_count s)
        (member_leaf_count rest) from.size x.0.size x.0.align e.size l.1
        (counted m.1 s x.0 h one x.1)
        (summed (with_member false from x.0) e ms rest g (omega (arith, clamps, some))
        (tail_all (λ m. IsFormed ss m.1) m ms f) x.2 low) low
