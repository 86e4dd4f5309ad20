-- Each struct of a unit has a number of the program, and the struct there is it or agrees with it.
use Rattle.std.proofs.Common.{◌≡◌, ℕ, zero, suc, ◌+◌, Bool, true, false, not, ◌&&◌, ◌==◌, cond, if◌then◌else◌, filter, map, List, [], ◌∷◌, ◌++◌, Option, Some, None, is_some, ◌⊎◌, inl, inr, refl, ap, sym, subst, ◌∙◌, true≢false, arith}
use Rattle.std.specs.Prelude.{slice_get, slice_index_or, unwrap_or}
use Rattle.std.specs.List.{position_from}
use Rattle.std.specs.Map.{lookup}
use Rattle.std.specs.Option.{option_eq}
use Rattle.sp_types.specs.Types.{CType, Struct}
use Rattle.sp_types.specs.Compatible.{same_flag}
use Rattle.sp_link_agreement.specs.Agreement.{contents_agree, same_head}
use Rattle.sp_link_agreement.specs.Depths.{struct_of_table, struct_at, found_agree, agrees_within, Agree}
use Rattle.sp_link_agreement.specs.Inner.{same_entity}
use Rattle.sp_link_structs.specs.Matching.{Matching}
use Rattle.sp_link_structs.specs.Joined.{has_members, is_complete, Joined}
use Rattle.sp_link_structs.specs.Matched.{of_unit, of_units, in_turn, heads_agree, are_namesakes, first_where, first_namesake, first_elsewhere, AreLeaders, IsFirst, stand_in, stand_in_of, open_stand_in, final_stand_in, stand_ins, representatives, number_among, numbers_of_units, matched}
use Rattle.sp_link_structs.specs.Laws.{number_of, StructsAreNumbered, JoinedAreOne, StructsAreThere}
use Rattle.sp_link_structs.proofs.Joining.{joined_on, joined_back, joined_keeps}
use Rattle.sp_link_structs.proofs.Keys.{tags, kinds}
use Rattle.sp_link_structs.proofs.Members.{Has, some_is, has_either, has_filtered, filtered_passes, at_unit, there_in, complete_there, of_filtered, from_units}
use Rattle.sp_link_structs.proofs.Standing.{leader_joined, leader_complete, leader_self, joined_one}
use Rattle.sp_link_structs.proofs.Tests.{and_left, both, entity_is, entity_self}

head_there : (s t : Option Struct) → heads_agree s t ≡ true → is_some s ≡ true
head_there None t h = absurd (true≢false (sym h))
head_there (Some s) t h = refl

-- ---- namesakes

same_heads : (r s t : Option Struct) → heads_agree s t ≡ true → heads_agree r s ≡ heads_agree r t
same_heads r None t h = absurd (true≢false (sym h))
same_heads r (Some s) None h = absurd (true≢false (sym h))
same_heads None (Some s) (Some t) h = refl
same_heads (Some r) (Some s) (Some t) h =
    λ i. option_eq (λ n m. n == m) r.tag (tags s t h i) && same_flag r.union (kinds s t h i)

heads_left : (s t x : Option Struct) → heads_agree s t ≡ true → heads_agree s x ≡ heads_agree t x
heads_left None t x h = absurd (true≢false (sym h))
heads_left (Some s) None x h = absurd (true≢false (sym h))
heads_left (Some s) (Some t) None h = refl
heads_left (Some s) (Some t) (Some x) h =
    λ i. option_eq (λ n m. n == m) (tags s t h i) x.tag && same_flag (kinds s t h i) x.union

contents_open : (agree : ℕ → ℕ → Bool) (ms ks : Option (List (ℕ × CType))) → is_some ks ≡ false → contents_agree agree ms ks ≡ true
contents_open agree None ks h = refl
contents_open agree (Some ms) None h = refl
contents_open agree (Some ms) (Some ks) h = absurd (true≢false h)

open_found : (agree : ℕ → ℕ → Bool) (s t : Option Struct) → has_members t ≡ false → heads_agree s t ≡ true → found_agree agree s t ≡ true
open_found agree None t q h = absurd (true≢false (sym h))
open_found agree (Some s) None q h = absurd (true≢false (sym h))
open_found agree (Some s) (Some t) q h = both h (contents_open agree s.members t.members q)

open_agrees : (us : List (List Struct)) (r x : ℕ × ℕ) → is_complete us x ≡ false → are_namesakes us r x ≡ true → Agree us r x
open_agrees us r x q h zero = refl
open_agrees us r x q h (suc n) = open_found (λ k j. agrees_within n us (r.0, k) (x.0, j)) (struct_at us r) (struct_at us x) q h

found_heads : (agree : ℕ → ℕ → Bool) (s t : Option Struct) → found_agree agree s t ≡ true → heads_agree s t ≡ true
found_heads agree None t h = absurd (true≢false (sym h))
found_heads agree (Some s) None h = absurd (true≢false (sym h))
found_heads agree (Some s) (Some t) h = and_left (same_head s t) (contents_agree agree s.members t.members) h

agree_heads : (us : List (List Struct)) (r y : ℕ × ℕ) → Agree us r y → are_namesakes us r y ≡ true
agree_heads us r y a = found_heads (λ k j. agrees_within zero us (r.0, k) (y.0, j)) (struct_at us r) (struct_at us y) (a (suc zero))

-- ---- the first that passes

first_passes : {A : Type 0} (test : A → Bool) (xs : List A) (z : A) → first_where test xs ≡ Some z → (test z ≡ true) × Has xs z
first_passes test [] z e = absurd (cc)
first_passes test (x ∷ xs) z e = by (test x) refl e (first_passes test xs z)
  where
    by : (b : Bool) → test x ≡ b → (if b then Some x else first_where test xs) ≡ Some z → (first_where test xs ≡ Some z → (test z ≡ true) × Has xs z) → (test z ≡ true) × Has (x ∷ xs) z
    by true t g ih = let same : x ≡ z = some_is x z g in (subst (λ w. test w ≡ true) same t, (zero, ap Some same))
    by false t g ih = let w : (test z ≡ true) × Has xs z = ih g in (w.0, (suc w.1.0, w.1.1))

first_misses : {A : Type 0} (test : A → Bool) (xs : List A) → first_where test xs ≡ None → (i : ℕ) (x : A) → slice_get xs i ≡ Some x → test x ≡ true → ⊥
first_misses test [] h i x e t = absurd (cc)
first_misses test (y ∷ ys) h i x e t = by (test y) refl h i e (λ g k f. first_misses test ys g k x f t)
  where
    by : (b : Bool) → test y ≡ b → (if b then Some y else first_where test ys) ≡ None → (i : ℕ) → slice_get (y ∷ ys) i ≡ Some x → (first_where test ys ≡ None → (k : ℕ) → slice_get ys k ≡ Some x → ⊥) → ⊥
    by true p g i e ih = true≢false (ap is_some g)
    by false p g zero e ih = true≢false (sym (subst (λ z. test z ≡ true) (sym (some_is y x e)) t) ∙ p)
    by false p g (suc i) e ih = ih g i e

first_before : {A : Type 0} (test : A → Bool) (xs ys : List A) (w : A) → first_where test xs ≡ Some w → first_where test (xs ++ ys) ≡ Some w
first_before test [] ys w e = absurd (cc)
first_before test (x ∷ xs) ys w e = by (test x) e (first_before test xs ys w)
  where
    by : (b : Bool) → (if b then Some x else first_where test xs) ≡ Some w → (first_where test xs ≡ Some w → first_where test (xs ++ ys) ≡ Some w) → (if b then Some x else first_where test (xs ++ ys)) ≡ Some w
    by true g ih = g
    by false g ih = ih g

-- where the first namesake has no members, none has
module _ (us : List (List Struct)) (test : ℕ × ℕ → Bool) (z : ℕ × ℕ) (first : first_where test (in_turn us) ≡ Some z) (bare : is_complete us z ≡ false) where
  none_full : (o : Option (ℕ × ℕ)) → first_where test (filter (is_complete us) (of_units 0 us)) ≡ o → first_where test (filter (is_complete us) (of_units 0 us)) ≡ None
  none_full None e = e
  none_full (Some w) e =
      let same : w ≡ z = some_is w z (sym (first_before test (filter (is_complete us) (of_units 0 us)) (filter (λ x. not (is_complete us x)) (of_units 0 us)) w e) ∙ first) in
      let p : (test w ≡ true) × Has (filter (is_complete us) (of_units 0 us)) w = first_passes test (filter (is_complete us) (of_units 0 us)) w e in
      absurd (true≢false (sym (filtered_passes (is_complete us) (of_units 0 us) w p.1.0 p.1.1) ∙ ap (is_complete us) same ∙ bare))

  all_open : (y : ℕ × ℕ) → test y ≡ true → Has (in_turn us) y → is_complete us y ≡ true → ⊥
  all_open y t w full = by (has_either (filter (is_complete us) (of_units 0 us)) (filter (λ x. not (is_complete us x)) (of_units 0 us)) y w.0 w.1)
    where
      by : Has (filter (is_complete us) (of_units 0 us)) y ⊎ Has (filter (λ x. not (is_complete us x)) (of_units 0 us)) y → ⊥
      by (inl v) = first_misses test (filter (is_complete us) (of_units 0 us)) (none_full (first_where test (filter (is_complete us) (of_units 0 us))) refl) v.0 y v.1 t
      by (inr v) = true≢false (sym (filtered_passes (λ x. not (is_complete us x)) (of_units 0 us) y v.0 v.1) ∙ ap not full)

-- ---- what stands for a struct

-- structs that are joined have the same namesakes
joined_heads : (us : List (List Struct)) (y z x : ℕ × ℕ) → Joined us y z → are_namesakes us y x ≡ are_namesakes us z x
joined_heads us y z x j =
    joined_keeps us (λ w. are_namesakes us w x)
    (λ v w s. heads_left (struct_at us v) (struct_at us w) (struct_at us x) (agree_heads us v w s.3)) y z j

-- It stands for itself. It leads the struct where that has members; else it is the struct or agrees with it.
pub record StandsFor (us : List (List Struct)) (leader : ℕ × ℕ → ℕ × ℕ) (x r : ℕ × ℕ) : Type 0 where
  pub self : final_stand_in us leader r ≡ r
  pub leads : is_complete us x ≡ true → r ≡ leader x
  pub related : is_complete us x ≡ false → (r ≡ x) ⊎ Agree us r x

module _ (us : List (List Struct)) (leader : ℕ × ℕ → ℕ × ℕ) (leaders : AreLeaders us leader) where
  of_complete : (x : ℕ × ℕ) → is_complete us x ≡ true → final_stand_in us leader x ≡ leader x
  of_complete x e = ap (λ b. if b then leader x else open_stand_in us leader x (first_elsewhere us x)) e

  of_open : (x : ℕ × ℕ) → is_complete us x ≡ false → final_stand_in us leader x ≡ open_stand_in us leader x (first_elsewhere us x)
  of_open x e = ap (λ b. if b then leader x else open_stand_in us leader x (first_elsewhere us x)) e

  complete_own : (y : ℕ × ℕ) → is_complete us y ≡ true → final_stand_in us leader (leader y) ≡ leader y
  complete_own y full = of_complete (leader y) (leader_complete us leader leaders y full) ∙ leader_self us leader leaders y full

  for_complete : (x : ℕ × ℕ) → is_complete us x ≡ true → StandsFor us leader x (leader x)
  for_complete x full = record { self = complete_own x full; leads = λ f. refl; related = λ f. absurd (true≢false (sym full ∙ f)) }

  -- of a namesake with members
  for_namesake : (x y : ℕ × ℕ) → is_complete us x ≡ false → is_complete us y ≡ true → are_namesakes us y x ≡ true → StandsFor us leader x (leader y)
  for_namesake x y bare full same = record {
    self = complete_own y full;
    leads = λ f. absurd (true≢false (sym f ∙ bare));
    related = λ f. inr (open_agrees us (leader y) x bare (sym (joined_heads us y (leader y) x (leader_joined us leader leaders y full)) ∙ same));
  }

  -- the first namesake, without members
  open_own : (x z : ℕ × ℕ) → first_namesake us x ≡ Some z → is_complete us z ≡ false → final_stand_in us leader z ≡ z
  open_own x z first bare = of_open z bare ∙ by (first_elsewhere us z) refl
    where
      p : (are_namesakes us z x ≡ true) × Has (in_turn us) z
      p = first_passes (λ y. are_namesakes us y x) (in_turn us) z first

      alike : (w : ℕ × ℕ) → are_namesakes us w z ≡ are_namesakes us w x
      alike w = same_heads (struct_at us w) (struct_at us z) (struct_at us x) p.0

      its : first_namesake us z ≡ Some z
      its = (λ i. first_where (λ w. alike w i) (in_turn us)) ∙ first

      own : (b : Bool) → is_complete us z ≡ b → (if b then leader z else z) ≡ z
      own true e = absurd (true≢false (sym e ∙ bare))
      own false e = refl

      next : (y : ℕ × ℕ) → first_elsewhere us z ≡ Some y → (b : Bool) → is_complete us y ≡ b → stand_in_of us leader z (if b then Some y else first_namesake us z) ≡ z
      next y e true full =
          let q : ((are_namesakes us y z && not (y.0 == z.0)) ≡ true) × Has (in_turn us) y = first_passes (λ y. are_namesakes us y z && not (y.0 == z.0)) (in_turn us) y e in
          absurd (all_open us (λ y. are_namesakes us y x) z first bare y (sym (alike y) ∙ and_left (are_namesakes us y z) (not (y.0 == z.0)) q.0) q.1 full)
      next y e false full = ap (stand_in_of us leader z) its ∙ own (is_complete us z) refl

      by : (o : Option (ℕ × ℕ)) → first_elsewhere us z ≡ o → open_stand_in us leader z o ≡ z
      by None e = refl
      by (Some y) e = next y e (is_complete us y) refl

  alone : (x : ℕ × ℕ) → is_complete us x ≡ false → final_stand_in us leader x ≡ x → StandsFor us leader x x
  alone x bare e = record { self = e; leads = λ f. absurd (true≢false (sym f ∙ bare)); related = λ f. inl refl }

  -- of a struct without members
  for_first : (x : ℕ × ℕ) → is_complete us x ≡ false → final_stand_in us leader x ≡ stand_in_of us leader x (first_namesake us x) → (o : Option (ℕ × ℕ)) → first_namesake us x ≡ o → StandsFor us leader x (stand_in_of us leader x o)
  for_first x bare is None e = alone x bare (is ∙ ap (stand_in_of us leader x) e)
  for_first x bare is (Some z) e = by (is_complete us z) refl
    where
      p : (are_namesakes us z x ≡ true) × Has (in_turn us) z
      p = first_passes (λ y. are_namesakes us y x) (in_turn us) z e

      by : (b : Bool) → is_complete us z ≡ b → StandsFor us leader x (if b then leader z else z)
      by true full = for_namesake x z bare full p.0
      by false bare-z = record { self = open_own x z e bare-z; leads = λ f. absurd (true≢false (sym f ∙ bare)); related = λ f. inr (open_agrees us z x bare p.0) }

  for_elsewhere : (x : ℕ × ℕ) → is_complete us x ≡ false → (o : Option (ℕ × ℕ)) → first_elsewhere us x ≡ o → StandsFor us leader x (open_stand_in us leader x o)
  for_elsewhere x bare None e = alone x bare (of_open x bare ∙ ap (open_stand_in us leader x) e)
  for_elsewhere x bare (Some y) e = by (is_complete us y) refl
    where
      p : ((are_namesakes us y x && not (y.0 == x.0)) ≡ true) × Has (in_turn us) y
      p = first_passes (λ y. are_namesakes us y x && not (y.0 == x.0)) (in_turn us) y e

      own : (b : Bool) → b ≡ true → StandsFor us leader x (leader y) → StandsFor us leader x (if b then leader y else y)
      own true f w = w
      own false f w = absurd (true≢false (sym f))

      by : (b : Bool) → is_complete us y ≡ b → StandsFor us leader x (stand_in_of us leader x (if b then Some y else first_namesake us x))
      by true full = own (is_complete us y) full (for_namesake x y bare full (and_left (are_namesakes us y x) (not (y.0 == x.0)) p.0))
      by false none =
          for_first x bare (of_open x bare ∙ ap (open_stand_in us leader x) e ∙ ap (λ b. stand_in_of us leader x (if b then Some y else first_namesake us x)) none) (first_namesake us x) refl

  pub stands_for : (x : ℕ × ℕ) (b : Bool) → is_complete us x ≡ b → StandsFor us leader x (final_stand_in us leader x)
  stands_for x true full = subst (StandsFor us leader x) (sym (of_complete x full)) (for_complete x full)
  stands_for x false bare = subst (StandsFor us leader x) (sym (of_open x bare)) (for_elsewhere x bare (first_elsewhere us x) refl)

-- ---- numbers

pair_mapped : (f : ℕ × ℕ → ℕ × ℕ) (xs : List (ℕ × ℕ)) (x : ℕ × ℕ) (i : ℕ) → slice_get xs i ≡ Some x → lookup (same_entity x) (map (λ y. (y, f y)) xs) ≡ Some (f x)
pair_mapped f [] x i e = absurd (cc)
pair_mapped f (y ∷ ys) x i e = by (same_entity x y) refl i e (λ k g. pair_mapped f ys x k g)
  where
    by : (b : Bool) → same_entity x y ≡ b → (i : ℕ) → slice_get (y ∷ ys) i ≡ Some x → ((k : ℕ) → slice_get ys k ≡ Some x → lookup (same_entity x) (map (λ y. (y, f y)) ys) ≡ Some (f x)) → cond b (Some (f y)) (lookup (same_entity x) (map (λ y. (y, f y)) ys)) ≡ Some (f x)
    by true t i e ih = ap (λ z. Some (f z)) (sym (entity_is x y t))
    by false t zero e ih = absurd (true≢false (sym (subst (λ z. same_entity x z ≡ true) (sym (some_is y x e)) (entity_self x)) ∙ t))
    by false t (suc i) e ih = ih i e

position_found : (r : ℕ × ℕ) (rs : List (ℕ × ℕ)) (a i : ℕ) → slice_get rs i ≡ Some r → (p : ℕ) × (position_from (same_entity r) a rs ≡ Some (a + p)) × (slice_get rs p ≡ Some r)
position_found r [] a i e = absurd (cc)
position_found r (y ∷ ys) a i e = by (same_entity r y) refl i e (λ k g. position_found r ys (a + 1) k g)
  where
    by : (b : Bool) → same_entity r y ≡ b → (i : ℕ) → slice_get (y ∷ ys) i ≡ Some r → ((k : ℕ) → slice_get ys k ≡ Some r → (p : ℕ) × (position_from (same_entity r) (a + 1) ys ≡ Some ((a + 1) + p)) × (slice_get ys p ≡ Some r)) → (p : ℕ) × (cond b (Some a) (position_from (same_entity r) (a + 1) ys) ≡ Some (a + p)) × (slice_get (y ∷ ys) p ≡ Some r)
    by true t i e ih = let same : a ≡ a + 0 = omega arith in (zero, ap Some same, ap Some (sym (entity_is r y t)))
    by false t zero e ih = absurd (true≢false (sym (subst (λ z. same_entity r z ≡ true) (sym (some_is y r e)) (entity_self r)) ∙ t))
    by false t (suc i) e ih =
        let w : (p : ℕ) × (position_from (same_entity r) (a + 1) ys ≡ Some ((a + 1) + p)) × (slice_get ys p ≡ Some r) = ih i e in
        let same : (a + 1) + w.0 ≡ a + suc w.0 = omega arith in
        (suc w.0, w.1 ∙ ap Some same, w.2)

map_got : {A B : Type 0} (f : A → B) (xs : List A) (i : ℕ) (x : A) → slice_get xs i ≡ Some x → slice_get (map f xs) i ≡ Some (f x)
map_got f [] i x e = absurd (cc)
map_got f (y ∷ ys) zero x e = ap (λ z. Some (f z)) (some_is y x e)
map_got f (y ∷ ys) (suc i) x e = map_got f ys i x e

numbers_got : (f : ℕ × ℕ → ℕ) (a : ℕ) (us : List (List Struct)) (i : ℕ) (ss : List Struct) → slice_get us i ≡ Some ss → slice_get (numbers_of_units f a us) i ≡ Some (map f (of_unit (a + i) 0 ss))
numbers_got f a [] i ss e = absurd (cc)
numbers_got f a (ts ∷ us) zero ss e = let same : a ≡ a + 0 = omega arith in λ i. Some (map f (of_unit (same i) 0 (some_is ts ss e i)))
numbers_got f a (ts ∷ us) (suc i) ss e = let next : suc a + i ≡ a + suc i = omega arith in numbers_got f (suc a) us i ss e ∙ ap (λ z. Some (map f (of_unit z 0 ss))) next

module _ (us : List (List Struct)) (leader : ℕ × ℕ → ℕ × ℕ) (leaders : AreLeaders us leader) where
  stand_in_is : (x : ℕ × ℕ) → Has (of_units 0 us) x → stand_in (stand_ins us leader) x ≡ final_stand_in us leader x
  stand_in_is x w = ap (λ o. unwrap_or o x) (pair_mapped (final_stand_in us leader) (of_units 0 us) x w.0 w.1)

  -- what stands for a struct is there
  there_still : (x r : ℕ × ℕ) → is_some (struct_at us x) ≡ true → StandsFor us leader x r → (b : Bool) → is_complete us x ≡ b → Has (of_units 0 us) r
  there_still x r there w true full =
      subst (Has (of_units 0 us)) (sym (w.leads full)) (there_in us (leader x) (complete_there (struct_at us (leader x)) (leader_complete us leader leaders x full)))
  there_still x r there w false bare = by (w.related bare)
    where
      by : (r ≡ x) ⊎ Agree us r x → Has (of_units 0 us) r
      by (inl same) = subst (Has (of_units 0 us)) (sym same) (there_in us x there)
      by (inr a) = there_in us r (head_there (struct_at us r) (struct_at us x) (agree_heads us r x a))

  pub numbered : (x : ℕ × ℕ) → is_some (struct_at us x) ≡ true
      → (p : ℕ) × (number_among (representatives us (stand_ins us leader)) (stand_ins us leader) x ≡ p) × (slice_get (representatives us (stand_ins us leader)) p ≡ Some (final_stand_in us leader x))
  numbered x there =
      let w : StandsFor us leader x (final_stand_in us leader x) = stands_for us leader leaders x (is_complete us x) refl in
      let has : Has (of_units 0 us) (final_stand_in us leader x) = there_still x (final_stand_in us leader x) there w (is_complete us x) refl in
      let self : stand_in (stand_ins us leader) (final_stand_in us leader x) ≡ final_stand_in us leader x = stand_in_is (final_stand_in us leader x) has ∙ w.self in
      let test : same_entity (stand_in (stand_ins us leader) (final_stand_in us leader x)) (final_stand_in us leader x) ≡ true = subst (λ z. same_entity z (final_stand_in us leader x) ≡ true) (sym self) (entity_self (final_stand_in us leader x)) in
      let in_list : Has (representatives us (stand_ins us leader)) (final_stand_in us leader x) =
      has_filtered (λ y. same_entity (stand_in (stand_ins us leader) y) y) (of_units 0 us) (final_stand_in us leader x) has.0 has.1 test in
      let found : (p : ℕ) × (position_from (same_entity (final_stand_in us leader x)) 0 (representatives us (stand_ins us leader)) ≡ Some (0 + p)) × (slice_get (representatives us (stand_ins us leader)) p ≡ Some (final_stand_in us leader x)) =
      position_found (final_stand_in us leader x) (representatives us (stand_ins us leader)) 0 in_list.0 in_list.1 in let left : 0 + found.0 ≡ found.0 = omega arith in (
        found.0,
        ap (λ z. unwrap_or (position_from (same_entity z) 0 (representatives us (stand_ins us leader))) 0) (stand_in_is x (there_in us x there))
            ∙ ap (λ o. unwrap_or o 0) found.1 ∙ left,
        found.2,
      )

index_got : {A : Type 0} (xs : List A) (i : ℕ) (x d : A) → slice_get xs i ≡ Some x → slice_index_or xs i d ≡ x
index_got [] i x d e = absurd (cc)
index_got (y ∷ ys) zero x d e = some_is y x e
index_got (y ∷ ys) (suc i) x d e = index_got ys i x d e

-- the table and the entry of a struct that is there
table_there : (us : List (List Struct)) (x : ℕ × ℕ) (s : Struct) → struct_at us x ≡ Some s → (ss : List Struct) × (slice_get us x.0 ≡ Some ss) × (slice_get ss x.1 ≡ Some s)
table_there us x s e = by (slice_get us x.0) refl e
  where
    by : (o : Option (List Struct)) → slice_get us x.0 ≡ o → struct_of_table o x.1 ≡ Some s → (ss : List Struct) × (slice_get us x.0 ≡ Some ss) × (slice_get ss x.1 ≡ Some s)
    by None g h = absurd (cc)
    by (Some ss) g h = (ss, g, h)

-- the number that the matching tells
told : (us : List (List Struct)) (m : Matching) (ps : List ((ℕ × ℕ) × (ℕ × ℕ))) → m ≡ matched us ps → (x : ℕ × ℕ) → is_some (struct_at us x) ≡ true
    → number_of m x ≡ Some (number_among (representatives us ps) ps x)
told us m ps m_is x there = by (struct_at us x) refl there
  where
    f : ℕ × ℕ → ℕ
    f = number_among (representatives us ps) ps

    by : (o : Option Struct) → struct_at us x ≡ o → is_some o ≡ true → number_of m x ≡ Some (f x)
    by None e p = absurd (true≢false (sym p))
    by (Some s) e p =
        let t : (ss : List Struct) × (slice_get us x.0 ≡ Some ss) × (slice_get ss x.1 ≡ Some s) = table_there us x s e in
        let zero_left : 0 + x.0 ≡ x.0 = omega arith in
        let zero_right : 0 + x.1 ≡ x.1 = omega arith in
        let ns : slice_index_or (numbers_of_units f 0 us) x.0 [] ≡ map f (of_unit x.0 0 t.0) =
        index_got (numbers_of_units f 0 us) x.0 (map f (of_unit x.0 0 t.0)) [] (numbers_got f 0 us x.0 t.0 t.1 ∙ ap (λ z. Some (map f (of_unit z 0 t.0))) zero_left) in
        ap (λ z. slice_get (slice_index_or z.numbers x.0 []) x.1) m_is
        ∙ ap (λ z. slice_get z x.1) ns
        ∙ map_got f (of_unit x.0 0 t.0) x.1 x (at_unit x.0 0 t.0 x.1 s t.2 ∙ (λ i. Some (x.0, zero_right i)))

pub structs_are_numbered : StructsAreNumbered
structs_are_numbered us m x s h there =
    let leader : ℕ × ℕ → ℕ × ℕ = h.1.0 in
    let leaders : AreLeaders us leader = h.1.1 in
    let m_is : m ≡ matched us (stand_ins us leader) = h.2 ∙ ap (λ ps. matched us ps) h.1.2 in
    let w : (p : ℕ) × (number_among (representatives us (stand_ins us leader)) (stand_ins us leader) x ≡ p) × (slice_get (representatives us (stand_ins us leader)) p ≡ Some (final_stand_in us leader x)) =
    numbered us leader leaders x (ap is_some there) in
    let r : StandsFor us leader x (final_stand_in us leader x) = stands_for us leader leaders x (is_complete us x) refl in (
      w.0,
      final_stand_in us leader x,
      told us m (stand_ins us leader) m_is x (ap is_some there) ∙ ap Some w.1,
      ap (λ z. slice_get z.structs w.0) m_is ∙ w.2,
      (λ full. subst (λ z. IsFirst (Joined us x) (of_units 0 us) (Some z)) (sym (r.leads full)) (leaders x full)),
      r.related,
    )

pub joined_are_one : JoinedAreOne
joined_are_one us m x y h full-x full-y = (to, from)
  where
    leader : ℕ × ℕ → ℕ × ℕ
    leader = h.1.0

    leaders : AreLeaders us leader
    leaders = h.1.1

    ps : List ((ℕ × ℕ) × (ℕ × ℕ))
    ps = stand_ins us leader

    m_is : m ≡ matched us ps
    m_is = h.2 ∙ ap (λ ps. matched us ps) h.1.2

    there-x : is_some (struct_at us x) ≡ true
    there-x = complete_there (struct_at us x) full-x

    there-y : is_some (struct_at us y) ≡ true
    there-y = complete_there (struct_at us y) full-y

    told-x : number_of m x ≡ Some (number_among (representatives us ps) ps x)
    told-x = told us m ps m_is x there-x

    told-y : number_of m y ≡ Some (number_among (representatives us ps) ps y)
    told-y = told us m ps m_is y there-y

    to : number_of m x ≡ number_of m y → Joined us x y
    to e =
        let v : (p : ℕ) × (number_among (representatives us ps) ps x ≡ p) × (slice_get (representatives us ps) p ≡ Some (final_stand_in us leader x)) = numbered us leader leaders x there-x in
        let w : (p : ℕ) × (number_among (representatives us ps) ps y ≡ p) × (slice_get (representatives us ps) p ≡ Some (final_stand_in us leader y)) = numbered us leader leaders y there-y in
        let place : v.0 ≡ w.0 = sym v.1 ∙ some_is (number_among (representatives us ps) ps x) (number_among (representatives us ps) ps y) (sym told-x ∙ e ∙ told-y) ∙ w.1 in
        let same : final_stand_in us leader x ≡ final_stand_in us leader y =
        some_is (final_stand_in us leader x) (final_stand_in us leader y) (sym v.2 ∙ ap (slice_get (representatives us ps)) place ∙ w.2) in
        let one : leader x ≡ leader y = sym (of_complete us leader leaders x full-x) ∙ same ∙ of_complete us leader leaders y full-y in
        joined_on us x (leader x) y (leader_joined us leader leaders x full-x)
        (subst (λ z. Joined us z y) (sym one) (joined_back us y (leader y) (leader_joined us leader leaders y full-y)))

    from : Joined us x y → number_of m x ≡ number_of m y
    from j =
        let one : stand_in ps x ≡ stand_in ps y =
        stand_in_is us leader leaders x (there_in us x there-x) ∙ of_complete us leader leaders x full-x ∙ joined_one us leader leaders x y full-x j
        ∙ sym (of_complete us leader leaders y full-y) ∙ sym (stand_in_is us leader leaders y (there_in us y there-y)) in
        told-x ∙ ap (λ z. Some (unwrap_or (position_from (same_entity z) 0 (representatives us ps)) 0)) one ∙ sym told-y

-- ---- those of the program are there

pub structs_are_there : StructsAreThere
structs_are_there us m n r h at =
    let listed : slice_get (representatives us h.0) n ≡ Some r = ap (λ z. slice_get z.structs n) (sym h.2) ∙ at in
    let w : Has (of_units 0 us) r = of_filtered (λ y. same_entity (stand_in h.0 y) y) (of_units 0 us) n r listed in
    let v : (j k : ℕ) × (ss : List Struct) × (s : Struct) × (slice_get us j ≡ Some ss) × (slice_get ss k ≡ Some s) × ((0 + j, k) ≡ r) = from_units 0 us w.0 r w.1 in
    let zero_on : v.0 ≡ 0 + v.0 = omega arith in
    subst (λ z. is_some (struct_at us z) ≡ true) ((λ i. (zero_on i, v.1)) ∙ v.6) (ap (λ o. is_some (struct_of_table o v.1)) v.4 ∙ ap is_some v.5)
