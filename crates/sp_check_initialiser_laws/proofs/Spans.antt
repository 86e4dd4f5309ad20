-- Spans of leaves of an object, each with its type: those of a part, and of parts in order.
--
-- The checks number leaves up to 2^64 - 1, where they stop to count. An array without a length may
-- have values up to there before it is refused, so what is said of a leaf from 2^62 on is void.
use Rattle.std.proofs.Common.{◌≡◌, ℕ, zero, suc, ◌+◌, ◌-◌, ◌*◌, ◌%◌, ◌^◌, ◌≤◌, ◌<◌, nat_lt, Bool, true, false, if◌then◌else◌, List, [], ◌∷◌, Option, Some, None, refl, ap, sym, subst, ◌∙◌, arith}
use Rattle.std.specs.Prelude.{⊤}
use Rattle.std.proofs.lemmas.Bool.{leb-true}
use Rattle.std.proofs.lemmas.Bool.Decides.{nat_tests}
use Rattle.std.proofs.Math.Nat.{mod-eq_of_lt, add-mod_left, mod-lt, mul-le-mul_right}
use Rattle.sp_types.specs.Types.{CType, void, integer, floating, pointer, array, structure, function, Struct}
use Rattle.sp_types.specs.Structs.{plus}
use Rattle.sp_check_initialisers.specs.Runs.{one_less, has_more}
use Rattle.sp_ir.specs.Shapes.{Shape, Shapes, next_shape, HasShape, HaveShapes, has_integer, has_pointer, has_floating, has_array, has_struct, has_union, have_none, have_next, leaf_count, member_leaf_count}
use Rattle.sp_check_typing.specs.Starts.{leaf_type, member_leaf_type}

abbrev pub limit : ℕ
limit = 2 ^ 62

-- the second leaf is not before the first
abbrev pub Precedes : ℕ → ℕ → Type 0
Precedes n k = k < limit → n ≤ k

-- which leaves an object has, and of which types
abbrev pub Places : Type 1
Places = ℕ → CType → Type 0

-- beyond the limit it has all or none
abbrev pub AreAlike : Places → Type 0
AreAlike P = (j k : ℕ) (t u : CType) → limit ≤ j → limit ≤ k → P j t → P k u

-- so many leaves from k on are there, with these types
abbrev pub Covers : Places → ℕ → (ℕ → Option CType) → ℕ → Type 0
Covers P count types k = (j : ℕ) (t : CType) → j < count → types j ≡ Some t → P (k + j) t

abbrev pub CoversShape : Places → Shape → ℕ → Type 0
CoversShape P s k = Covers P (leaf_count s) (leaf_type s) k

abbrev pub CoversShapes : Places → Shapes → ℕ → Type 0
CoversShapes P ss k = Covers P (member_leaf_count ss) (member_leaf_type ss) k

-- so many elements of this shape, the first from k on
abbrev pub CoversElements : Places → Shape → ℕ → ℕ → Type 0
CoversElements P s n k = Covers P (n * leaf_count s) (λ j. leaf_type s (j % leaf_count s)) k

-- ---- how many elements are left: None is any number

-- so many or more are left
abbrev pub HasCount : Option ℕ → ℕ → Type 0
HasCount None n = ⊤
HasCount (Some m) n = n ≤ m

-- the elements that are left, each of so many leaves, end before this leaf
abbrev pub IsEnd : Option ℕ → ℕ → ℕ → ℕ → Type 0
IsEnd None k count end = limit ≤ end
IsEnd (Some n) k count end = Precedes (k + n * count) end

pub one_there : (o : Option ℕ) → has_more o ≡ true → HasCount o 1
one_there None h = tt
one_there (Some n) h = leb-true 1 n h

pub one_more : (o : Option ℕ) (n : ℕ) → has_more o ≡ true → HasCount (one_less o) n
    → HasCount o (suc n)
one_more None n h l = tt
one_more (Some m) n h l =
    let some : 1 ≤ m = leb-true 1 m h in omega (arith, some, l)

pub plus_below : (k n : ℕ) → plus k n ≤ k + n
plus_below k n = omega arith

pub end_behind : (o : Option ℕ) (k count end : ℕ) → has_more o ≡ true → IsEnd o k count end
    → IsEnd (one_less o) (plus k count) count end
end_behind None k count end h e = e
end_behind (Some n) k count end h e = λ low.
    let some : 1 ≤ n = leb-true 1 n h in
    let all : k + n * count ≤ end = e low in
    let parts : n * count ≡ count + (n - 1) * count = less n some in
    omega (arith, plus_below k count, all, parts)
  where
    less : (n : ℕ) → 1 ≤ n → n * count ≡ count + (n - 1) * count
    less zero some = absurd (omega (arith, some))
    less (suc n) some = let one : suc n - 1 ≡ n = omega arith in rw one (omega arith)

-- ---- the order of leaves

pub precedes_through : (a b c : ℕ) → Precedes a b → Precedes b c → Precedes a c
precedes_through a b c h g = λ low.
    let one : b ≤ c = g low in
    let two : a ≤ b = h (omega (arith, one, low)) in
    omega (arith, one, two)

pub precedes_end : (o : Option ℕ) (a k count end : ℕ) → Precedes a k → IsEnd o k count end
    → Precedes a end
precedes_end None a k count end h e = λ low. absurd (omega (arith, low, e))
precedes_end (Some n) a k count end h e = λ low.
    let all : k + n * count ≤ end = e low in
    let one : a ≤ k = h (omega (arith, all, low)) in
    omega (arith, all, one)

pub precedes_plus : (k count : ℕ) → Precedes (k + count) (plus k count)
precedes_plus k count = λ low. omega (arith, low)

-- ---- parts of spans

pub first_element : (P : Places) (s : Shape) (n k : ℕ) → 1 ≤ n → CoversElements P s n k
    → CoversShape P s k
first_element P s n k some h = λ j t low e.
    h j t (inside j low) (ap (leaf_type s) (mod-eq_of_lt low) ∙ e)
  where
    inside : (j : ℕ) → j < leaf_count s → j < n * leaf_count s
    inside j low =
        let more : 1 * leaf_count s ≤ n * leaf_count s = mul-le-mul_right (leaf_count s) some in
        omega (arith, more, low)

pub other_elements : (P : Places) (s : Shape) (n k : ℕ) → CoversElements P s (suc n) k
    → CoversElements P s n (k + leaf_count s)
other_elements P s n k h = λ j t low e.
    subst (λ m. P m t) (omega arith)
    (h (leaf_count s + j) t (omega (arith, low))
    (ap (leaf_type s) (add-mod_left (leaf_count s) j) ∙ e))

pub only_element : (P : Places) (s : Shape) (k : ℕ) → CoversShape P s k → CoversElements P s 1 k
only_element P s k h = λ j t low e.
    let in_one : j < leaf_count s = omega (arith, low) in
    h j t in_one (ap (leaf_type s) (sym (mod-eq_of_lt in_one)) ∙ e)

is_less : (j n : ℕ) → j < n → nat_lt j n ≡ true
is_less j n low = grind (arith, nat_tests)

isnt_less : (n j : ℕ) → nat_lt (n + j) n ≡ false
isnt_less n j = grind (arith, nat_tests)

module _ (P : Places) (s : Shape) (ss : Shapes) (k : ℕ)
    (h : CoversShapes P (next_shape s ss) k) where
  pub first_member : CoversShape P s k
  first_member = λ j t low e. h j t (omega (arith, low)) (by j low ∙ e)
    where
      by : (j : ℕ) → j < leaf_count s → member_leaf_type (next_shape s ss) j ≡ leaf_type s j
      by j low =
          ap (λ b. if b then leaf_type s j else member_leaf_type ss (j - leaf_count s))
          (is_less j (leaf_count s) low)

  pub other_members : CoversShapes P ss (k + leaf_count s)
  other_members = λ j t low e.
      subst (λ m. P m t) (omega arith) (h (leaf_count s + j) t (omega (arith, low)) (by j ∙ e))
    where
      by : (j : ℕ) → member_leaf_type (next_shape s ss) (leaf_count s + j) ≡ member_leaf_type ss j
      by j =
          let back : leaf_count s + j - leaf_count s ≡ j = omega arith in
          ap (λ b. if b then leaf_type s (leaf_count s + j)
          else member_leaf_type ss (leaf_count s + j - leaf_count s)) (isnt_less (leaf_count s) j)
          ∙ ap (member_leaf_type ss) back

some_each : (n count j : ℕ) → j < n * count → 0 < count
some_each n zero j low = absurd (omega (arith, low))
some_each n (suc count) j low = omega arith

behind_first : (j count rest : ℕ) → nat_lt j count ≡ false → j < count + rest → j - count < rest
behind_first j count rest e low = let up : count ≤ j = above e in omega (arith, up, low)
  where
    above : nat_lt j count ≡ false → count ≤ j
    above e = grind (arith, nat_tests)

-- ---- each leaf has a type

abbrev pub HasType : (ℕ → Option CType) → ℕ → Type 0
HasType types j = (t : CType) × (types j ≡ Some t)

module _ (structs : List Struct) (size : CType → ℕ) where
  mutual
    pub leaf_there : (t : CType) (s : Shape) (j : ℕ) → HasShape structs size t s
        → j < leaf_count s → HasType (leaf_type s) j
    leaf_there void s j h low = elim h [ ]
    leaf_there (function r) s j h low = elim h [ ]
    leaf_there (array t None) s j h low = elim h [ ]
    leaf_there (integer k) s j has_integer low = (integer k, refl)
    leaf_there (floating k) s j has_floating low = (floating k, refl)
    leaf_there (pointer t) s j has_pointer low = (pointer t, refl)
    leaf_there (array t (Some n)) s j (has_array {s = inner} h) low =
        leaf_there t inner (j % leaf_count inner) h
        (mod-lt j (some_each n (leaf_count inner) j low))
    leaf_there (structure k) s j (has_struct {members = ms} {ms = inner} at kind members h) low =
        member_leaf_there ms inner j h low
    leaf_there (structure k) s j (has_union {first = m} {s = inner} at kind members h) low =
        leaf_there m.1 inner j h low

    pub member_leaf_there : (ms : List (ℕ × CType)) (ss : Shapes) (j : ℕ)
        → HaveShapes structs size ms ss → j < member_leaf_count ss
        → HasType (member_leaf_type ss) j
    member_leaf_there [] ss j have_none low = absurd (omega (arith, low))
    member_leaf_there (m ∷ ms) ss j (have_next {s = s} {ss = rest} h g) low =
        by (nat_lt j (leaf_count s)) refl (λ low. leaf_there m.1 s j h low)
        (λ low. member_leaf_there ms rest (j - leaf_count s) g low)
      where
        behind : ℕ
        behind = j - leaf_count s

        by : (b : Bool) → nat_lt j (leaf_count s) ≡ b
            → (j < leaf_count s → HasType (leaf_type s) j)
            → (behind < member_leaf_count rest → HasType (member_leaf_type rest) behind)
            → HasType (λ k. if b then leaf_type s k else member_leaf_type rest (k - leaf_count s)) j
        by true e first others = first (leb-true (suc j) (leaf_count s) e)
        by false e first others =
            others (behind_first j (leaf_count s) (member_leaf_count rest) e low)

-- ---- where the checks stop to count

-- what is behind a leaf is there, also where its number is cut off
pub covers_plus : (P : Places) (count : ℕ) (types : ℕ → Option CType) (k each : ℕ) (t : CType)
    → AreAlike P → each ≤ 2 ^ 40 → P k t → Covers P count types (k + each)
    → Covers P count types (plus k each)
covers_plus P count types k each t alike small here h = by (nat_lt k limit) refl
  where
    by : (b : Bool) → nat_lt k limit ≡ b → Covers P count types (plus k each)
    by true e =
        let low : k < limit = leb-true (suc k) limit e in
        let is : plus k each ≡ k + each = omega (arith, low, small) in
        subst (Covers P count types) (sym is) h
    by false e = λ j u low f. alike k (plus k each + j) t u (above e) (far e j) here
      where
        above : nat_lt k limit ≡ false → limit ≤ k
        above e = grind (arith, nat_tests)

        far : nat_lt k limit ≡ false → (j : ℕ) → limit ≤ plus k each + j
        far e j = let up : limit ≤ k = above e in omega (arith, up)
