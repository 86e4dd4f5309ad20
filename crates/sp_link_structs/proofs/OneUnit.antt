-- In a program of one unit each struct stands for itself.
use Rattle.std.proofs.Common.{◌≡◌, ◌≢◌, ℕ, zero, suc, ◌+◌, ◌<◌, ◌≤◌, Bool, true, false, not, ◌&&◌, cond, filter, map, List, [], ◌∷◌, ◌++◌, append-nil, length, Some, None, if◌then◌else◌, ◌==◌, eq-eqb, refl, ap, sym, subst, ◌∙◌, arith, ne_eqb}
use Rattle.std.specs.Prelude.{⊤, slice_get, unwrap_or}
use Rattle.std.specs.List.{position_from}
use Rattle.std.specs.Map.{lookup}
use Rattle.sp_types.specs.Types.{Struct}
use Rattle.sp_link_agreement.specs.Inner.{same_entity}
use Rattle.sp_link_agreement.specs.Depths.{struct_at}
use Rattle.sp_link_structs.specs.Joined.{is_complete, IsStep, Joined}
use Rattle.sp_link_structs.specs.Matched.{of_unit, of_units, in_turn, are_namesakes, first_where, AreLeaders, stand_in, open_stand_in, final_stand_in, AreStandIns, representatives, number_among}
use Rattle.sp_link_structs.specs.Laws.{numbers_from, OneUnitStays}
use Rattle.sp_link_structs.proofs.Joining.{joined_keeps}
use Rattle.sp_link_structs.proofs.Keys.{some_false}
use Rattle.sp_link_structs.proofs.Members.{Has, there_in, complete_there, from_units}
use Rattle.sp_link_structs.proofs.Standing.{leader_joined}
use Rattle.sp_link_structs.proofs.Tests.{entity_is, entity_self}

-- of the first unit
abbrev AreHere : List (ℕ × ℕ) → Type 0
AreHere [] = ⊤
AreHere (x ∷ xs) = (x.0 ≡ 0) × AreHere xs

-- each stands for itself
abbrev AreOwn : List ((ℕ × ℕ) × (ℕ × ℕ)) → Type 0
AreOwn [] = ⊤
AreOwn (p ∷ ps) = (p.1 ≡ p.0) × AreOwn ps

stands_own : (ps : List ((ℕ × ℕ) × (ℕ × ℕ))) (x : ℕ × ℕ) → AreOwn ps → stand_in ps x ≡ x
stands_own [] x own = refl
stands_own (p ∷ ps) x own = by (same_entity x p.0) refl (stands_own ps x own.1)
  where
    by : (b : Bool) → same_entity x p.0 ≡ b → stand_in ps x ≡ x → unwrap_or (cond b (Some p.1) (lookup (same_entity x) ps)) x ≡ x
    by true e h = own.0 ∙ sym (entity_is x p.0 e)
    by false e h = h

here_unit : (k : ℕ) (ss : List Struct) → AreHere (of_unit 0 k ss)
here_unit k [] = tt
here_unit k (s ∷ ss) = (refl, here_unit (suc k) ss)

here_filter : (test : ℕ × ℕ → Bool) (xs : List (ℕ × ℕ)) → AreHere xs → AreHere (filter test xs)
here_filter test [] here = tt
here_filter test (x ∷ xs) here = by (test x) (here_filter test xs here.1)
  where
    by : (b : Bool) → AreHere (filter test xs) → AreHere (cond b (x ∷ filter test xs) (filter test xs))
    by true h = (here.0, h)
    by false h = h

here_append : (xs ys : List (ℕ × ℕ)) → AreHere xs → AreHere ys → AreHere (xs ++ ys)
here_append [] ys h g = g
here_append (x ∷ xs) ys h g = (h.0, here_append xs ys h.1 g)

here_turn : (ss : List Struct) → AreHere (in_turn (ss ∷ []))
here_turn ss =
    let all : AreHere (of_units 0 (ss ∷ [])) = subst AreHere (sym (append-nil (of_unit 0 0 ss))) (here_unit 0 ss) in
    here_append (filter (is_complete (ss ∷ [])) (of_units 0 (ss ∷ []))) (filter (λ x. not (is_complete (ss ∷ []) x)) (of_units 0 (ss ∷ [])))
    (here_filter (is_complete (ss ∷ [])) (of_units 0 (ss ∷ [])) all)
    (here_filter (λ x. not (is_complete (ss ∷ []) x)) (of_units 0 (ss ∷ [])) all)

-- none is of another unit
none_elsewhere : (us : List (List Struct)) (x : ℕ × ℕ) → x.0 ≡ 0 → (xs : List (ℕ × ℕ)) → AreHere xs → first_where (λ y. are_namesakes us y x && not (y.0 == x.0)) xs ≡ None
none_elsewhere us x own [] here = refl
none_elsewhere us x own (y ∷ ys) here =
    let same : (y.0 == x.0) ≡ true = eq-eqb y.0 x.0 (here.0 ∙ sym own) in
    ap (λ b. if are_namesakes us y x && not b then Some y else first_where (λ y. are_namesakes us y x && not (y.0 == x.0)) ys) same
    ∙ ap (λ b. if b then Some y else first_where (λ y. are_namesakes us y x && not (y.0 == x.0)) ys) (some_false (are_namesakes us y x))
    ∙ none_elsewhere us x own ys here.1

-- so none is joined with another
none_joined : (ss : List Struct) (x y : ℕ × ℕ) → Joined (ss ∷ []) x y → x ≡ y
none_joined ss x y j = joined_keeps (ss ∷ []) (λ z. z) (λ v w s. absurd (by v w s)) x y j
  where
    here : (v : ℕ × ℕ) → is_complete (ss ∷ []) v ≡ true → v.0 ≡ 0
    here v full =
        let w : Has (of_units 0 (ss ∷ [])) v = there_in (ss ∷ []) v (complete_there (struct_at (ss ∷ []) v) full) in
        let u : (j k : ℕ) × (tt : List Struct) × (s : Struct) × (slice_get (ss ∷ []) j ≡ Some tt) × (slice_get tt k ≡ Some s) × ((0 + j, k) ≡ v) = from_units 0 (ss ∷ []) w.0 v w.1 in
        only u.0 u.2 u.4 (ap (λ z. z.0) u.6)
      where
        only : (j : ℕ) (tt : List Struct) → slice_get (ss ∷ []) j ≡ Some tt → 0 + j ≡ v.0 → v.0 ≡ 0
        only zero tt e f = sym f
        only (suc j) tt e f = absurd (cc)

    by : (v w : ℕ × ℕ) → IsStep (ss ∷ []) v w → ⊥
    by v w s = let a : w.0 ≡ 0 = here w s.1 in let l : v.0 < w.0 = s.2 in omega (arith, a, l)

-- each leads itself
leads_own : (ss : List Struct) (leader : ℕ × ℕ → ℕ × ℕ) → AreLeaders (ss ∷ []) leader → (x : ℕ × ℕ) → is_complete (ss ∷ []) x ≡ true → leader x ≡ x
leads_own ss leader leaders x full = sym (none_joined ss x (leader x) (leader_joined (ss ∷ []) leader leaders x full))

-- each stands for itself
final_own : (ss : List Struct) (leader : ℕ × ℕ → ℕ × ℕ) → AreLeaders (ss ∷ []) leader → (x : ℕ × ℕ) → x.0 ≡ 0 → final_stand_in (ss ∷ []) leader x ≡ x
final_own ss leader leaders x here =
    ap (λ o. if is_complete (ss ∷ []) x then leader x else open_stand_in (ss ∷ []) leader x o) (none_elsewhere (ss ∷ []) x here (in_turn (ss ∷ [])) (here_turn ss))
    ∙ by (is_complete (ss ∷ []) x) refl
  where
    by : (b : Bool) → is_complete (ss ∷ []) x ≡ b → (if b then leader x else x) ≡ x
    by true full = leads_own ss leader leaders x full
    by false e = refl

pairs_own : (ss : List Struct) (leader : ℕ × ℕ → ℕ × ℕ) → AreLeaders (ss ∷ []) leader → (xs : List (ℕ × ℕ)) → AreHere xs → AreOwn (map (λ x. (x, final_stand_in (ss ∷ []) leader x)) xs)
pairs_own ss leader leaders [] here = tt
pairs_own ss leader leaders (x ∷ xs) here = (final_own ss leader leaders x here.0, pairs_own ss leader leaders xs here.1)

all_here : (ss : List Struct) → AreHere (of_units 0 (ss ∷ []))
all_here ss = subst AreHere (sym (append-nil (of_unit 0 0 ss))) (here_unit 0 ss)

own_stand_ins : (ss : List Struct) (ps : List ((ℕ × ℕ) × (ℕ × ℕ))) → AreStandIns (ss ∷ []) ps → AreOwn ps
own_stand_ins ss ps h = subst AreOwn (sym h.2) (pairs_own ss h.0 h.1 (of_units 0 (ss ∷ [])) (all_here ss))

filter_all : (test : ℕ × ℕ → Bool) (xs : List (ℕ × ℕ)) → ((x : ℕ × ℕ) → test x ≡ true) → filter test xs ≡ xs
filter_all test [] all = refl
filter_all test (x ∷ xs) all = ap (λ b. cond b (x ∷ filter test xs) (filter test xs)) (all x) ∙ ap (λ ys. x ∷ ys) (filter_all test xs all)

-- the place of a number of the unit
place : (ss : List Struct) (k n i j m : ℕ) → n ≡ k + j → m ≡ i + j → j < length ss → position_from (same_entity (0, n)) i (of_unit 0 k ss) ≡ Some m
place [] k n i j m e f l = absurd (omega arith)
place (s ∷ ss) k n i zero m e f l =
    let a : n ≡ k = omega arith in
    let b : m ≡ i = omega arith in
    ap (λ c. cond c (Some i) (position_from (same_entity (0, n)) (i + 1) (of_unit 0 (suc k) ss))) (subst (λ z. same_entity (0, n) (0, z) ≡ true) a (entity_self (0, n))) ∙ ap Some (sym b)
place (s ∷ ss) k n i (suc j) m e f l =
    let a : n ≢ k = omega arith in
    ap (λ c. cond (true && c) (Some i) (position_from (same_entity (0, n)) (i + 1) (of_unit 0 (suc k) ss))) (ne_eqb n k a)
    ∙ place ss (suc k) n (i + 1) j m (omega arith) (omega arith) (omega arith)

numbers : (number : ℕ × ℕ → ℕ) (ss : List Struct) (k : ℕ) → ((n : ℕ) → k ≤ n → n < k + length ss → number (0, n) ≡ n) → map number (of_unit 0 k ss) ≡ numbers_from k ss
numbers number [] k h = refl
numbers number (s ∷ ss) k h =
    ap (λ n. n ∷ map number (of_unit 0 (suc k) ss)) (h k (omega arith) (omega arith))
    ∙ ap (λ ns. k ∷ ns) (numbers number ss (suc k) (λ n l u. h n (omega arith) (omega arith)))

pub one_unit_stays : OneUnitStays
one_unit_stays ss m h =
    let own : AreOwn h.0 = own_stand_ins ss h.0 h.1 in
    let structs : representatives (ss ∷ []) h.0 ≡ of_unit 0 0 ss =
    filter_all (λ x. same_entity (stand_in h.0 x) x) (of_units 0 (ss ∷ [])) (λ x. subst (λ z. same_entity z x ≡ true) (sym (stands_own h.0 x own)) (entity_self x))
    ∙ append-nil (of_unit 0 0 ss) in
    let number : (n : ℕ) → 0 ≤ n → n < 0 + length ss → number_among (representatives (ss ∷ []) h.0) h.0 (0, n) ≡ n = λ n l u.
    ap (λ x. unwrap_or (position_from (same_entity x) 0 (representatives (ss ∷ []) h.0)) 0) (stands_own h.0 (0, n) own)
    ∙ ap (λ rs. unwrap_or (position_from (same_entity (0, n)) 0 rs) 0) structs
    ∙ ap (λ o. unwrap_or o 0) (place ss 0 n 0 n n (omega arith) (omega arith) (omega arith)) in
    (ap (λ z. z.structs) h.2 ∙ structs, ap (λ z. z.numbers) h.2 ∙ ap (λ ns. ns ∷ []) (numbers (number_among (representatives (ss ∷ []) h.0) h.0) ss 0 number))
