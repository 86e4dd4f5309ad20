-- In a levelled table a struct's shape is made of those of its members, and summaries that agree
-- with one another are those of the shapes.
use Rattle.std.proofs.Common.{◌≡◌, ℕ, zero, suc, ◌+◌, ◌≤◌, ◌<◌, nat_lt, ◌==◌, Bool, true, false, ◌||◌, ◌&&◌, cond, List, [], ◌∷◌, length, Option, Some, None, slice_get, map, ◌⊎◌, inl, inr, refl, ap, sym, ◌∙◌, arith}
use Rattle.std.proofs.lemmas.Bool.Decides.{nat_tests}
use Rattle.std.proofs.lemmas.Bool.{and_parts, false≢true}
use Rattle.std.proofs.lemmas.Option.{none-some}
use Rattle.sp_types.specs.Types.{CType, void, integer, floating, pointer, array, structure, function, Struct}
use Rattle.sp_types.specs.Structs.{height, height_of}
use Rattle.sp_types.specs.View.{struct_of as struct_view}
use Rattle.sp_types.specs.declared.structs.StructType.{StructType}
use Rattle.sp_ir.specs.Formed.{points, members_point, is_floating}
use Rattle.sp_ir.specs.Shapes.{Shape, Shapes, array_of, struct_of, union_of, next_shape, region_count, member_region_count, leaf_count, member_leaf_count, is_floating_shape}
use Rattle.sp_ir.specs.Terrain.{size_of}
use Rattle.sp_base_layouts.specs.Layouts.{bare, shape_by, member_shapes, shape_of_members, shape_of_struct, struct_shape, shape_within, depth, layout_of}
use Rattle.sp_base_layouts.specs.Summaries.{summary, summary_of, summary_of_all, nothing, of_elements, with_member, of_members, whole, of_struct_members, of_struct, known_summary, summary_at, summary_by, same_flag, same_summary, are_below, are_levelled, is_summed, are_summed, AreSummaries, has_cell, member_has_cell}
use Rattle.sp_base_layouts.specs.declared.summaries.Summary.{Summary}

less : (n m : ℕ) → nat_lt n m ≡ true → n < m
less n m e = grind (arith, nat_tests)

-- ---- shapes of floating type

members-not-floating : (t : CType) (size : ℕ) (f : CType → Shape) (union : Bool) (o : Option (List (ℕ × CType)))
    → is_floating_shape (shape_of_members t size f union o) ≡ false
members-not-floating t size f union None = refl
members-not-floating t size f false (Some ms) = refl
members-not-floating t size f true (Some []) = refl
members-not-floating t size f true (Some (m ∷ ms)) = refl

found-not-floating : (t : CType) (size : ℕ) (f : CType → Shape) (o : Option Struct) → is_floating_shape (shape_of_struct t size f o) ≡ false
found-not-floating t size f None = refl
found-not-floating t size f (Some d) = members-not-floating t size f d.union d.members

struct-not-floating : (ss : List Struct) (n k : ℕ) → is_floating_shape (struct_shape ss n k) ≡ false
struct-not-floating ss zero k = refl
struct-not-floating ss (suc n) k = found-not-floating (structure k) (size_of ss (structure k)) (shape_by (size_of ss) (struct_shape ss n)) (slice_get ss k)

floating-shape : (ss : List Struct) (n : ℕ) (t : CType) → is_floating_shape (shape_within ss n t) ≡ is_floating t
floating-shape ss n (integer k) = refl
floating-shape ss n (floating k) = refl
floating-shape ss n (pointer t) = refl
floating-shape ss n (array t (Some k)) = refl
floating-shape ss n (array t None) = refl
floating-shape ss n (structure k) = struct-not-floating ss n k
floating-shape ss n void = refl
floating-shape ss n (function s) = refl

pub floating-laid : (ss : List Struct) (t : CType) → is_floating t ≡ is_floating_shape (layout_of ss t)
floating-laid ss t = sym (floating-shape ss (depth ss) t)

-- ---- levels

abbrev Levelled : List Struct → Type 0
Levelled ss = (k : ℕ) (d : Struct) → slice_get ss k ≡ Some d → are_levelled ss d.level d.members ≡ true

pub depth-above : (ss : List Struct) (k : ℕ) → height_of (slice_get ss k) ≤ depth ss
depth-above [] k = omega arith
depth-above (s ∷ ss) zero = omega arith
depth-above (s ∷ ss) (suc k) = let rest : height_of (slice_get ss k) ≤ depth ss = depth-above ss k in omega arith

-- members of a struct of level 0
no-members : (ss : List Struct) (level : ℕ) (ms : List (ℕ × CType)) → level ≤ 0 → are_levelled ss level (Some ms) ≡ true → ⊥
no-members ss level ms low e =
    let parts = and_parts (nat_lt 0 level) (are_below ss level ms) e in
    let high : 0 < level = less 0 level parts.0 in
    omega arith

-- ---- a struct's shape does not hang on how deep it goes down, from its level on

-- shapes of these types are the same
type-same : (ss : List Struct) (n m : ℕ) (t : CType)
    → ((k : ℕ) → height_of (slice_get ss k) ≤ n → height_of (slice_get ss k) ≤ m → struct_shape ss n k ≡ struct_shape ss m k)
    → height ss t ≤ n → height ss t ≤ m → shape_within ss n t ≡ shape_within ss m t
type-same ss n m (integer k) same a b = refl
type-same ss n m (floating k) same a b = refl
type-same ss n m (pointer t) same a b = refl
type-same ss n m (array t (Some k)) same a b =
    ap (λ (s : Shape). array_of (array t (Some k)) (size_of ss (array t (Some k))) s k) (type-same ss n m t same a b)
type-same ss n m (array t None) same a b = refl
type-same ss n m (structure k) same a b = same k a b
type-same ss n m void same a b = refl
type-same ss n m (function s) same a b = refl

members-same : (ss : List Struct) (f g : CType → Shape) (n level : ℕ) (ms : List (ℕ × CType))
    → ((t : CType) → height ss t ≤ n → f t ≡ g t) → level ≤ suc n → are_below ss level ms ≡ true
    → member_shapes f ms ≡ member_shapes g ms
members-same ss f g n level [] same low e = refl
members-same ss f g n level (m ∷ ms) same low e =
    let parts = and_parts (nat_lt (height ss m.1) level) (are_below ss level ms) e in
    let high : height ss m.1 < level = less (height ss m.1) level parts.0 in
    ap (λ x. next_shape x (member_shapes f ms)) (same m.1 (omega arith))
    ∙ ap (next_shape (g m.1)) (members-same ss f g n level ms same low parts.1)

found-same : (ss : List Struct) (f g : CType → Shape) (n level k : ℕ) (union : Bool) (o : Option (List (ℕ × CType)))
    → ((t : CType) → height ss t ≤ n → f t ≡ g t) → level ≤ suc n → are_levelled ss level o ≡ true
    → shape_of_members (structure k) (size_of ss (structure k)) f union o ≡ shape_of_members (structure k) (size_of ss (structure k)) g union o
found-same ss f g n level k union None same low e = refl
found-same ss f g n level k false (Some ms) same low e =
    let parts = and_parts (nat_lt 0 level) (are_below ss level ms) e in
    ap (struct_of (structure k) (size_of ss (structure k))) (members-same ss f g n level ms same low parts.1)
found-same ss f g n level k true (Some []) same low e = refl
found-same ss f g n level k true (Some (m ∷ ms)) same low e =
    let parts = and_parts (nat_lt 0 level) (are_below ss level (m ∷ ms)) e in
    let first = and_parts (nat_lt (height ss m.1) level) (are_below ss level ms) parts.1 in
    let high : height ss m.1 < level = less (height ss m.1) level first.0 in
    ap (union_of (size_of ss (structure k))) (same m.1 (omega arith))

-- at a struct that is there, or not
found-at : (ss : List Struct) (f g : CType → Shape) (n k : ℕ) (o : Option Struct)
    → ((d : Struct) → o ≡ Some d → are_levelled ss d.level d.members ≡ true)
    → ((t : CType) → height ss t ≤ n → f t ≡ g t) → height_of o ≤ suc n
    → shape_of_struct (structure k) (size_of ss (structure k)) f o ≡ shape_of_struct (structure k) (size_of ss (structure k)) g o
found-at ss f g n k None levels same low = refl
found-at ss f g n k (Some d) levels same low =
    found-same ss f g n d.level k d.union d.members same low (levels d refl)

-- of level 0 it has no members that are known
bare-members : (ss : List Struct) (f : CType → Shape) (level k : ℕ) (union : Bool) (o : Option (List (ℕ × CType)))
    → level ≤ 0 → are_levelled ss level o ≡ true
    → shape_of_members (structure k) (size_of ss (structure k)) f union o ≡ bare (structure k)
bare-members ss f level k union None low e = refl
bare-members ss f level k union (Some ms) low e = absurd (no-members ss level ms low e)

bare-at : (ss : List Struct) (f : CType → Shape) (k : ℕ) (o : Option Struct)
    → ((d : Struct) → o ≡ Some d → are_levelled ss d.level d.members ≡ true) → height_of o ≤ 0
    → shape_of_struct (structure k) (size_of ss (structure k)) f o ≡ bare (structure k)
bare-at ss f k None levels low = refl
bare-at ss f k (Some d) levels low = bare-members ss f d.level k d.union d.members low (levels d refl)

least : (a b : ℕ) → (a ≤ b) ⊎ (b ≤ a)
least a b = grind arith

stable : (ss : List Struct) → Levelled ss → (n m k : ℕ) → height_of (slice_get ss k) ≤ n → height_of (slice_get ss k) ≤ m
    → struct_shape ss n k ≡ struct_shape ss m k
stable ss levels zero zero k a b = refl
stable ss levels zero (suc m) k a b = sym (bare-at ss (shape_by (size_of ss) (struct_shape ss m)) k (slice_get ss k) (levels k) a)
stable ss levels (suc n) zero k a b = bare-at ss (shape_by (size_of ss) (struct_shape ss n)) k (slice_get ss k) (levels k) b
stable ss levels (suc n) (suc m) k a b =
    elim (least n m) [
      | inl low ↦ found-at ss (shape_within ss n) (shape_within ss m) n k (slice_get ss k) (levels k)
          (λ t h. type-same ss n m t (stable ss levels n m) h (omega arith)) a
      | inr low ↦ found-at ss (shape_within ss n) (shape_within ss m) m k (slice_get ss k) (levels k)
          (λ t h. type-same ss n m t (stable ss levels n m) (omega arith) h) b
    ]

unfolded : (ss : List Struct) → Levelled ss → (k : ℕ)
    → layout_of ss (structure k) ≡ shape_of_struct (structure k) (size_of ss (structure k)) (layout_of ss) (slice_get ss k)
unfolded ss levels k =
    let low : height_of (slice_get ss k) ≤ depth ss = depth-above ss k in
    stable ss levels (depth ss) (suc (depth ss)) k low (omega arith)

-- ---- summaries

abbrev Summed : List Struct → List Summary → Type 0
Summed ss all = (k : ℕ) → summary_at all k ≡ of_struct (summary_by all) (slice_get ss k)

members-sum : (ss : List Struct) (all : List Summary) (n level : ℕ) (ms : List (ℕ × CType))
    → ((t : CType) → height ss t ≤ n → summary_of (shape_within ss n t) ≡ summary_by all t)
    → level ≤ suc n → are_below ss level ms ≡ true
    → summary_of_all (member_shapes (shape_within ss n) ms) ≡ of_members (summary_by all) ms
members-sum ss all n level [] each low e = refl
members-sum ss all n level (m ∷ ms) each low e =
    let parts = and_parts (nat_lt (height ss m.1) level) (are_below ss level ms) e in
    let high : height ss m.1 < level = less (height ss m.1) level parts.0 in
    let s : Shape = shape_within ss n m.1 in
    let rest : Shapes = member_shapes (shape_within ss n) ms in
    ap (λ b. summary (cond b 0 (region_count s) + member_region_count rest) (leaf_count s + member_leaf_count rest) (points s || members_point rest) (has_cell s || member_has_cell rest)) (floating-shape ss n m.1)
    ∙ ap (λ x. with_member m.1 x (summary_of_all rest)) (each m.1 (omega arith))
    ∙ ap (with_member m.1 (summary_by all m.1)) (members-sum ss all n level ms each low parts.1)

found-sum : (ss : List Struct) (all : List Summary) (n level k size : ℕ) (union : Bool) (o : Option (List (ℕ × CType)))
    → ((t : CType) → height ss t ≤ n → summary_of (shape_within ss n t) ≡ summary_by all t)
    → level ≤ suc n → are_levelled ss level o ≡ true
    → summary_of (shape_of_members (structure k) size (shape_within ss n) union o) ≡ of_struct_members (summary_by all) union o
found-sum ss all n level k size union None each low e = refl
found-sum ss all n level k size false (Some ms) each low e =
    let parts = and_parts (nat_lt 0 level) (are_below ss level ms) e in
    ap whole (members-sum ss all n level ms each low parts.1)
found-sum ss all n level k size true (Some []) each low e = refl
found-sum ss all n level k size true (Some (m ∷ ms)) each low e =
    let parts = and_parts (nat_lt 0 level) (are_below ss level (m ∷ ms)) e in
    let first = and_parts (nat_lt (height ss m.1) level) (are_below ss level ms) parts.1 in
    let high : height ss m.1 < level = less (height ss m.1) level first.0 in
    ap (λ (x : Summary). summary 1 x.leaves x.points true) (each m.1 (omega arith))

at-sum : (ss : List Struct) (all : List Summary) (n k size : ℕ) (o : Option Struct)
    → ((d : Struct) → o ≡ Some d → are_levelled ss d.level d.members ≡ true)
    → ((t : CType) → height ss t ≤ n → summary_of (shape_within ss n t) ≡ summary_by all t) → height_of o ≤ suc n
    → summary_of (shape_of_struct (structure k) size (shape_within ss n) o) ≡ of_struct (summary_by all) o
at-sum ss all n k size None levels each low = refl
at-sum ss all n k size (Some d) levels each low = found-sum ss all n d.level k size d.union d.members each low (levels d refl)

none-members : (ss : List Struct) (all : List Summary) (level : ℕ) (union : Bool) (o : Option (List (ℕ × CType)))
    → level ≤ 0 → are_levelled ss level o ≡ true → nothing ≡ of_struct_members (summary_by all) union o
none-members ss all level union None low e = refl
none-members ss all level union (Some ms) low e = absurd (no-members ss level ms low e)

none-sum : (ss : List Struct) (all : List Summary) (o : Option Struct)
    → ((d : Struct) → o ≡ Some d → are_levelled ss d.level d.members ≡ true) → height_of o ≤ 0
    → nothing ≡ of_struct (summary_by all) o
none-sum ss all None levels low = refl
none-sum ss all (Some d) levels low = none-members ss all d.level d.union d.members low (levels d refl)

type-sum : (ss : List Struct) (all : List Summary) (n : ℕ) (t : CType)
    → ((k : ℕ) → height_of (slice_get ss k) ≤ n → summary_of (struct_shape ss n k) ≡ summary_at all k)
    → height ss t ≤ n → summary_of (shape_within ss n t) ≡ summary_by all t
type-sum ss all n (integer k) each low = refl
type-sum ss all n (floating k) each low = refl
type-sum ss all n (pointer t) each low = refl
type-sum ss all n (array t (Some k)) each low = ap (of_elements k) (type-sum ss all n t each low)
type-sum ss all n (array t None) each low = refl
type-sum ss all n (structure k) each low = each k low
type-sum ss all n void each low = refl
type-sum ss all n (function s) each low = refl

struct-sum : (ss : List Struct) (all : List Summary) → Levelled ss → Summed ss all → (n k : ℕ) → height_of (slice_get ss k) ≤ n
    → summary_of (struct_shape ss n k) ≡ summary_at all k
struct-sum ss all levels sums zero k low = none-sum ss all (slice_get ss k) (levels k) low ∙ sym (sums k)
struct-sum ss all levels sums (suc n) k low =
    at-sum ss all n k (size_of ss (structure k)) (slice_get ss k) (levels k) (λ t h. type-sum ss all n t (struct-sum ss all levels sums n) h) low
    ∙ sym (sums k)

-- the height of a type is within the depth
type-within : (ss : List Struct) (t : CType) → height ss t ≤ depth ss
type-within ss (integer k) = omega arith
type-within ss (floating k) = omega arith
type-within ss (pointer t) = omega arith
type-within ss (array t n) = type-within ss t
type-within ss (structure k) = depth-above ss k
type-within ss void = omega arith
type-within ss (function s) = omega arith

-- ---- the tests

flags-same : (a b : Bool) → same_flag a b ≡ true → a ≡ b
flags-same true true e = refl
flags-same true false e = absurd (false≢true e)
flags-same false true e = absurd (false≢true e)
flags-same false false e = refl

parts-same : (a b : Summary) → a.regions ≡ b.regions → a.leaves ≡ b.leaves → a.points ≡ b.points → a.cells ≡ b.cells → a ≡ b
parts-same a b r l p c =
    ap (λ x. summary x a.leaves a.points a.cells) r ∙ ap (λ x. summary b.regions x a.points a.cells) l
    ∙ ap (λ x. summary b.regions b.leaves x a.cells) p ∙ ap (λ x. summary b.regions b.leaves b.points x) c

numbers-same : (a b : ℕ) → (a == b) ≡ true → a ≡ b
numbers-same a b e = grind (arith, nat_tests)

summaries-same : (a b : Summary) → same_summary a b ≡ true → a ≡ b
summaries-same a b e =
    let first = and_parts (a.regions == b.regions) ((a.leaves == b.leaves) && (same_flag a.points b.points && same_flag a.cells b.cells)) e in
    let second = and_parts (a.leaves == b.leaves) (same_flag a.points b.points && same_flag a.cells b.cells) first.1 in
    let third = and_parts (same_flag a.points b.points) (same_flag a.cells b.cells) second.1 in
    parts-same a b (numbers-same a.regions b.regions first.0) (numbers-same a.leaves b.leaves second.0) (flags-same a.points b.points third.0) (flags-same a.cells b.cells third.1)

same-number : (ss : List Struct) (all : List Summary) (n m : ℕ) (d : Struct) → n ≡ m → is_summed ss all n d ≡ true → is_summed ss all m d ≡ true
same-number ss all n m d e h = ap (λ x. is_summed ss all x d) (sym e) ∙ h

same-struct : (ss : List Struct) (all : List Summary) (n : ℕ) (c d : Struct) → Some c ≡ Some d → is_summed ss all n c ≡ true → is_summed ss all n d ≡ true
same-struct ss all n c d e h = ap (λ x. is_summed ss all n x) (sym (some-same c d e)) ∙ h
  where
    some-same : (c d : Struct) → Some c ≡ Some d → c ≡ d
    some-same c d e = cc

one-summed : (ss : List Struct) (all : List Summary) (k j n : ℕ) (ds : List Struct) (d : Struct) → n ≡ k + j → are_summed ss all k ds ≡ true
    → slice_get ds j ≡ Some d → is_summed ss all n d ≡ true
one-summed ss all k j n [] d is e at = absurd (none-some d at)
one-summed ss all k zero n (x ∷ ds) d is e at =
    let parts = and_parts (is_summed ss all k x) (are_summed ss all (k + 1) ds) e in
    same-struct ss all n x d at (same-number ss all k n x (omega arith) parts.0)
one-summed ss all k (suc j) n (x ∷ ds) d is e at =
    let parts = and_parts (is_summed ss all k x) (are_summed ss all (k + 1) ds) e in
    one-summed ss all (k + 1) j n ds d (omega arith) parts.1 at

past : (ss : List Struct) (all : List Summary) (k : ℕ) → length all ≡ length ss → slice_get ss k ≡ None → slice_get all k ≡ None
past [] [] k e at = refl
past [] (a ∷ all) k e at = absurd (omega arith)
past (s ∷ ss) [] k e at = absurd (omega arith)
past (s ∷ ss) (a ∷ all) zero e at = absurd cc
past (s ∷ ss) (a ∷ all) (suc k) e at = past ss all k (omega arith) at

summed-at : (ss : List Struct) (all : List Summary) (k : ℕ) (o : Option Struct) → slice_get ss k ≡ o → length all ≡ length ss → are_summed ss all 0 ss ≡ true
    → summary_at all k ≡ of_struct (summary_by all) o
summed-at ss all k None at same e = ap known_summary (past ss all k same at)
summed-at ss all k (Some d) at same e =
    let parts = and_parts (are_levelled ss d.level d.members) (same_summary (summary_at all k) (of_struct (summary_by all) (Some d))) (one-summed ss all 0 k k ss d (omega arith) e at) in
    summaries-same (summary_at all k) (of_struct (summary_by all) (Some d)) parts.1

-- what the tests say
pub laid : (ss : List Struct) (all : List Summary) → length all ≡ length ss → are_summed ss all 0 ss ≡ true → AreSummaries ss all
laid ss all same e =
    let levels : Levelled ss = λ k d at. (and_parts (are_levelled ss d.level d.members) (same_summary (summary_at all k) (of_struct (summary_by all) (Some d))) (one-summed ss all 0 k k ss d (omega arith) e at)).0 in
    let sums : Summed ss all = λ k. summed-at ss all k (slice_get ss k) refl same e in
    record {
      shapes = unfolded ss levels;
      sums = λ t. sym (type-sum ss all (depth ss) t (struct-sum ss all levels sums (depth ss)) (type-within ss t));
    }

mapped-length : (ss : List StructType) → length (map struct_view ss) ≡ length ss
mapped-length [] = refl
mapped-length (s ∷ ss) = let rest : length (map struct_view ss) ≡ length ss = mapped-length ss in omega (arith, rest)

pub laid_by : (ss : List StructType) (all : List Summary) → length all ≡ length ss → are_summed (map struct_view ss) all 0 (map struct_view ss) ≡ true
    → AreSummaries (map struct_view ss) all
laid_by ss all same e = laid (map struct_view ss) all (same ∙ sym (mapped-length ss)) e

-- whether a struct has a leaf of pointer type
pub points_at : (ss : List Struct) (all : List Summary) (k : ℕ) → AreSummaries ss all → (summary_at all k).points ≡ points (layout_of ss (structure k))
points_at ss all k laid = ap (λ (s : Summary). s.points) (laid.sums (structure k))
