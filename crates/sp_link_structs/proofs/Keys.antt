-- Structs that agree have the same keys, and what is found under a key.
use Rattle.std.proofs.Common.{◌≡◌, ℕ, ◌+◌, ◌*◌, ◌%◌, ◌^◌, Bool, true, false, ◌&&◌, ◌==◌, filter, cond, if◌then◌else◌, List, [], ◌∷◌, ◌++◌, Option, Some, None, is_some, refl, ap, sym, ◌∙◌, true≢false, eqb-true, eq-eqb}
use mathlib.Core.Bool.{beq}
use Rattle.std.specs.Option.{option_eq}
use Rattle.sp_types.specs.Types.{CType, Struct}
use Rattle.sp_types.specs.Compatible.{same_flag}
use Rattle.sp_link_agreement.specs.Agreement.{compatible_by, members_agree, contents_agree, same_head}
use Rattle.sp_link_agreement.specs.Depths.{struct_at, found_agree}
use Rattle.sp_link_structs.specs.Joined.{has_members, is_complete}
use Rattle.sp_link_structs.specs.Matched.{heads_agree}
use Rattle.std.specs.Prelude.{Vec}
use Rattle.std.specs.declared.alloc.Global.{Global}
use Rattle.indexmap.specs.IndexMap.{get}
use Rattle.sp_link_structs.specs.Groups.{Key, items_of, same_key, name_mark, members_mark, full_key, head_key, group, of_key, AreGroups}
use Rattle.sp_link_structs.specs.declared.groups.Groups.{Groups}
use Rattle.sp_link_structs.proofs.Tests.{and_left, and_right, both}

-- ---- keys

tag_is : (a b : Option ℕ) → option_eq (λ n m. n == m) a b ≡ true → a ≡ b
tag_is None None h = refl
tag_is (Some n) (Some m) h = ap Some (eqb-true n m h)
tag_is None (Some m) h = absurd (true≢false (sym h))
tag_is (Some n) None h = absurd (true≢false (sym h))

tag_self : (a : Option ℕ) → option_eq (λ n m. n == m) a a ≡ true
tag_self None = refl
tag_self (Some n) = eq-eqb n n refl

flag_is : (a b : Bool) → same_flag a b ≡ true → a ≡ b
flag_is true b h = sym h
flag_is false true h = absurd (true≢false (sym h))
flag_is false false h = refl

flag_self : (a : Bool) → same_flag a a ≡ true
flag_self true = refl
flag_self false = refl

kind_is : (a b : Bool) → beq a b ≡ true → a ≡ b
kind_is true true h = refl
kind_is true false h = absurd (true≢false (sym h))
kind_is false true h = absurd (true≢false (sym h))
kind_is false false h = refl

kind_self : (a : Bool) → beq a a ≡ true
kind_self true = refl
kind_self false = refl

pub key_self : (k : Key) → same_key k k ≡ true
key_self k = both (both (tag_self k.0) (kind_self k.1)) (eq-eqb k.2 k.2 refl)

pub key_is : (k j : Key) → same_key k j ≡ true → k ≡ j
key_is k j h =
    let front : (option_eq (λ n m. n == m) k.0 j.0 && beq k.1 j.1) ≡ true = and_left (option_eq (λ n m. n == m) k.0 j.0 && beq k.1 j.1) (k.2 == j.2) h in
    let a : k.0 ≡ j.0 = tag_is k.0 j.0 (and_left (option_eq (λ n m. n == m) k.0 j.0) (beq k.1 j.1) front) in
    let b : k.1 ≡ j.1 = kind_is k.1 j.1 (and_right (option_eq (λ n m. n == m) k.0 j.0) (beq k.1 j.1) front) in
    let c : k.2 ≡ j.2 = eqb-true k.2 j.2 (and_right (option_eq (λ n m. n == m) k.0 j.0 && beq k.1 j.1) (k.2 == j.2) h) in
    λ i. (a i, b i, c i)

-- a list of a key with one more
pub group_grown : (old new : Groups) (key : Key) (item : ℕ × ℕ) (v : Vec (ℕ × ℕ) Global)
    → v.items ≡ group old key ++ item ∷ []
    → ((q : Key) → get same_key new.lists q ≡ cond (same_key key q) (Some v) (get same_key old.lists q))
    → (k : Key) → group new k ≡ (if same_key key k then group old k ++ item ∷ [] else group old k)
group_grown old new key item v is more k = ap items_of (more k) ∙ by (same_key key k) refl
  where
    by : (b : Bool) → same_key key k ≡ b → items_of (cond b (Some v) (get same_key old.lists k)) ≡ (if b then group old k ++ item ∷ [] else group old k)
    by true e = is ∙ ap (λ q. group old q ++ item ∷ []) (key_is key k e)
    by false e = refl

twice : {V : Type 0} (b : Bool) (x y z : V) → cond b x (cond b y z) ≡ cond b x z
twice true x y z = refl
twice false x y z = refl

-- a list of a key that is taken out and put back with one more
pub group_put : (old out new : Groups) (key : Key) (item : ℕ × ℕ) (v : Vec (ℕ × ℕ) Global)
    → v.items ≡ group old key ++ item ∷ []
    → ((q : Key) → get same_key out.lists q ≡ cond (same_key key q) None (get same_key old.lists q))
    → ((q : Key) → get same_key new.lists q ≡ cond (same_key key q) (Some v) (get same_key out.lists q))
    → (k : Key) → group new k ≡ (if same_key key k then group old k ++ item ∷ [] else group old k)
group_put old out new key item v is less more =
    group_grown old new key item v is (λ q. more q ∙ ap (λ o. cond (same_key key q) (Some v) o) (less q) ∙ twice (same_key key q) (Some v) None (get same_key old.lists q))

-- ---- of structs that agree

marks : (agree : ℕ → ℕ → Bool) (ms ks : List (ℕ × CType)) (h : ℕ) → members_agree agree ms ks ≡ true → name_mark h ms ≡ name_mark h ks
marks agree [] [] h g = refl
marks agree [] (k ∷ ks) h g = absurd (true≢false (sym g))
marks agree (m ∷ ms) [] h g = absurd (true≢false (sym g))
marks agree (m ∷ ms) (k ∷ ks) h g =
    let front : (m.0 == k.0 && compatible_by agree m.1 k.1) ≡ true = and_left (m.0 == k.0 && compatible_by agree m.1 k.1) (members_agree agree ms ks) g in
    let name : m.0 ≡ k.0 = eqb-true m.0 k.0 (and_left (m.0 == k.0) (compatible_by agree m.1 k.1) front) in
    marks agree ms ks (((h * 31) % 2 ^ 32 + m.0) % 2 ^ 32) (and_right (m.0 == k.0 && compatible_by agree m.1 k.1) (members_agree agree ms ks) g)
    ∙ ap (λ n. name_mark (((h * 31) % 2 ^ 32 + n) % 2 ^ 32) ks) name

contents_marks : (agree : ℕ → ℕ → Bool) (ms ks : Option (List (ℕ × CType))) → is_some ms ≡ true → is_some ks ≡ true → contents_agree agree ms ks ≡ true → members_mark ms ≡ members_mark ks
contents_marks agree (Some ms) (Some ks) p q g = marks agree ms ks 0 g
contents_marks agree None ks p q g = absurd (true≢false (sym p))
contents_marks agree (Some ms) None p q g = absurd (true≢false (sym q))

pub tags : (s t : Struct) → same_head s t ≡ true → s.tag ≡ t.tag
tags s t h = tag_is s.tag t.tag (and_left (option_eq (λ n m. n == m) s.tag t.tag) (same_flag s.union t.union) h)

pub kinds : (s t : Struct) → same_head s t ≡ true → s.union ≡ t.union
kinds s t h = flag_is s.union t.union (and_right (option_eq (λ n m. n == m) s.tag t.tag) (same_flag s.union t.union) h)

pub full_keys : (agree : ℕ → ℕ → Bool) (s t : Option Struct) → has_members s ≡ true → has_members t ≡ true → found_agree agree s t ≡ true → full_key t ≡ full_key s
full_keys agree None t p q g = absurd (true≢false (sym p))
full_keys agree (Some s) None p q g = absurd (true≢false (sym q))
full_keys agree (Some s) (Some t) p q g =
    let h : same_head s t ≡ true = and_left (same_head s t) (contents_agree agree s.members t.members) g in
    let a : t.tag ≡ s.tag = sym (tags s t h) in
    let b : t.union ≡ s.union = sym (kinds s t h) in
    let c : members_mark t.members ≡ members_mark s.members = sym (contents_marks agree s.members t.members p q (and_right (same_head s t) (contents_agree agree s.members t.members) g)) in
    λ i. (a i, b i, c i)

-- ---- namesakes

pub some_false : (a : Bool) → (a && false) ≡ false
some_false true = refl
some_false false = refl

and_nothing : (a : Bool) → (a && true) ≡ a
and_nothing true = refl
and_nothing false = refl

flags : (a b : Bool) → beq a b ≡ same_flag a b
flags true true = refl
flags true false = refl
flags false true = refl
flags false false = refl

-- namesakes are those of one key
pub heads_same : (s t : Option Struct) → is_some t ≡ true → same_key (head_key s) (head_key t) ≡ heads_agree s t
heads_same s None p = absurd (true≢false (sym p))
heads_same None (Some t) p = some_false (option_eq (λ n m. n == m) None t.tag && beq false t.union)
heads_same (Some s) (Some t) p =
    and_nothing (option_eq (λ n m. n == m) s.tag t.tag && beq s.union t.union)
    ∙ ap (λ b. option_eq (λ n m. n == m) s.tag t.tag && b) (flags s.union t.union)

pub none_alike : (s t : Option Struct) → is_some t ≡ false → heads_agree s t ≡ false
none_alike s (Some t) p = absurd (true≢false p)
none_alike None None p = refl
none_alike (Some s) None p = refl

-- ---- one more

filter_pushed : {A : Type 0} (test : A → Bool) (xs : List A) (x : A) → filter test (xs ++ x ∷ []) ≡ (if test x then filter test xs ++ x ∷ [] else filter test xs)
filter_pushed test [] x = refl
filter_pushed test (y ∷ ys) x = by (test y) (test x) (filter_pushed test ys x)
  where
    by : (a b : Bool) → filter test (ys ++ x ∷ []) ≡ (if b then filter test ys ++ x ∷ [] else filter test ys)
        → cond a (y ∷ filter test (ys ++ x ∷ [])) (filter test (ys ++ x ∷ [])) ≡ (if b then cond a (y ∷ filter test ys) (filter test ys) ++ x ∷ [] else cond a (y ∷ filter test ys) (filter test ys))
    by true true e = ap (λ zs. y ∷ zs) e
    by true false e = ap (λ zs. y ∷ zs) e
    by false true e = e
    by false false e = e

module _ (us : List (List Struct)) (p : ℕ × ℕ) (old new : Groups) where
  pub groups_more : is_complete us p ≡ true
      → ((k : Key) → group new k ≡ (if same_key (full_key (struct_at us p)) k then group old k ++ p ∷ [] else group old k))
      → (xs : List (ℕ × ℕ)) → AreGroups us xs old → AreGroups us (xs ++ p ∷ []) new
  groups_more s new_is xs groups k =
      new_is k
      ∙ ap (λ ys. if same_key (full_key (struct_at us p)) k then ys ++ p ∷ [] else ys) (groups k)
      ∙ ap (λ b. if b && same_key (full_key (struct_at us p)) k then of_key us k xs ++ p ∷ [] else of_key us k xs) (sym s)
      ∙ sym (filter_pushed (λ x. is_complete us x && same_key (full_key (struct_at us x)) k) xs p)

pub groups_same : (us : List (List Struct)) (p : ℕ × ℕ) (g : Groups) → is_complete us p ≡ false → (xs : List (ℕ × ℕ)) → AreGroups us xs g → AreGroups us (xs ++ p ∷ []) g
groups_same us p g s xs groups k =
    groups k
    ∙ ap (λ b. if b && same_key (full_key (struct_at us p)) k then of_key us k xs ++ p ∷ [] else of_key us k xs) (sym s)
    ∙ sym (filter_pushed (λ x. is_complete us x && same_key (full_key (struct_at us x)) k) xs p)
