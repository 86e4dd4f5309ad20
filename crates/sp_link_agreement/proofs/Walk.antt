-- The pairs that are met: each rests on pairs that are met, and agrees where the first one does.
use Rattle.std.proofs.Common.{◌≡◌, ℕ, zero, suc, ◌+◌, ◌<◌, ◌≤◌, Bool, true, false, ◌&&◌, List, length, take, Some, ◌⊎◌, inl, inr, ⊎_elim, refl, ap, sym, subst, ◌∙◌, true≢false, arith, take_all}
use Rattle.std.proofs.lemmas.Bool.{cases_lt}
use Rattle.std.specs.Prelude.{slice_get, Result, Ok, Err, IfOk}
use Rattle.std.specs.List.{list_any}
use Rattle.indexmap.specs.IndexSet.{insert_key, insert_all}
use Rattle.sp_types.specs.Types.{Struct}
use Rattle.sp_link_agreement.specs.Depths.{struct_at, agrees_within, Agree, AllAgree}
use Rattle.sp_link_agreement.specs.Known.{NoneAgrees}
use Rattle.sp_link_agreement.specs.Inner.{Pair, is_alike, beside, inner_of_structs, inner_pairs, same_pair}
use Rattle.sp_link_agreement.proofs.Parts.{both_and, and_left, and_right, passes, found-parts}
use Rattle.sp_link_agreement.proofs.Members.{Has, found_has, get_below, get_map, map_get, passes_at, all_pass, key_has, key_from, key_longer, key_front, key_same, all_same, all_kept, all_has, all_from, all_longer, all_front}

-- the structs of the pair's units, compared to a depth
abbrev within : List (List Struct) → ℕ → Pair → ℕ → ℕ → Bool
within us n p k j = agrees_within n us (p.0.0, k) (p.1.0, j)

parts : (us : List (List Struct)) (n : ℕ) (p : Pair) → agrees_within (suc n) us p.0 p.1 ≡ (is_alike us p && passes (within us n p) (inner_of_structs (struct_at us p.0) (struct_at us p.1)))
parts us n p = found-parts (within us n p) (struct_at us p.0) (struct_at us p.1)

alike_of_agree : (us : List (List Struct)) (p : Pair) → Agree us p.0 p.1 → is_alike us p ≡ true
alike_of_agree us p a = and_left (is_alike us p) (passes (within us zero p) (inner_of_structs (struct_at us p.0) (struct_at us p.1))) (sym (parts us zero p) ∙ a (suc zero))

-- where something differs in a pair, it doesn't agree
pub differing : (us : List (List Struct)) (p : Pair) → is_alike us p ≡ false → Agree us p.0 p.1 → ⊥
differing us p f a = true≢false (sym (alike_of_agree us p a) ∙ f)

inner_agrees : (us : List (List Struct)) (p q : Pair) (i : ℕ) → Agree us p.0 p.1 → slice_get (inner_pairs us p) i ≡ Some q → Agree us q.0 q.1
inner_agrees us p q i a e n =
    let w : (x : ℕ × ℕ) × (slice_get (inner_of_structs (struct_at us p.0) (struct_at us p.1)) i ≡ Some x) × (beside p x ≡ q) = map_get (beside p) (inner_of_structs (struct_at us p.0) (struct_at us p.1)) i q e in
    let all : passes (within us n p) (inner_of_structs (struct_at us p.0) (struct_at us p.1)) ≡ true = and_right (is_alike us p) (passes (within us n p) (inner_of_structs (struct_at us p.0) (struct_at us p.1))) (sym (parts us n p) ∙ a (suc n)) in
    subst (λ z. agrees_within n us z.0 z.1 ≡ true) w.2 (passes_at (within us n p) (inner_of_structs (struct_at us p.0) (struct_at us p.1)) i w.0 all w.1)

-- it agrees, or nothing differs in it and it rests on pairs of the list
abbrev pub Rests : List (List Struct) → List Pair → Pair → Type 0
Rests us ks p = Agree us p.0 p.1 ⊎ ((is_alike us p ≡ true) × ((i : ℕ) (q : Pair) → slice_get (inner_pairs us p) i ≡ Some q → Has ks q))

one_deeper : (us : List (List Struct)) (ks : List Pair) (n : ℕ) (p : Pair) → ((i : ℕ) (q : Pair) → slice_get ks i ≡ Some q → agrees_within n us q.0 q.1 ≡ true) → Rests us ks p → agrees_within (suc n) us p.0 p.1 ≡ true
one_deeper us ks n p ih (inl a) = a (suc n)
one_deeper us ks n p ih (inr c) = parts us n p ∙ both_and c.0 (all_pass (within us n p) (inner_of_structs (struct_at us p.0) (struct_at us p.1)) inside)
  where
    inside : (i : ℕ) (x : ℕ × ℕ) → slice_get (inner_of_structs (struct_at us p.0) (struct_at us p.1)) i ≡ Some x → within us n p x.0 x.1 ≡ true
    inside i x e =
        let w : Has ks (beside p x) = c.1 i (beside p x) (get_map (beside p) (inner_of_structs (struct_at us p.0) (struct_at us p.1)) i x e) in
        ih w.0 (beside p x) w.1

all_agree : (us : List (List Struct)) (ks : List Pair) → ((i : ℕ) (p : Pair) → slice_get ks i ≡ Some p → Rests us ks p) → (n : ℕ) (i : ℕ) (p : Pair) → slice_get ks i ≡ Some p → agrees_within n us p.0 p.1 ≡ true
all_agree us ks h zero i p e = refl
all_agree us ks h (suc n) i p e = one_deeper us ks n p (all_agree us ks h n) (h i p e)

more_rests : (us : List (List Struct)) (ks xs : List Pair) (p : Pair) → Rests us ks p → Rests us (insert_all same_pair ks xs) p
more_rests us ks xs p (inl a) = inl a
more_rests us ks xs p (inr c) = inr (c.0, λ i q e. all_kept ks xs q (c.1 i q e))

some_is : (p q : Pair) → Some p ≡ Some q → p ≡ q
some_is p q e = cc

below : (i n : ℕ) → i < n + 1 → (i < n) ⊎ (i ≡ n)
below i n l = ⊎_elim (λ a. inl a) (λ a. inr (omega arith)) (cases_lt i n)

-- ---- the walk

-- `ks` are the pairs met, `old` those known before; those before the cursor are done
pub record Walked (us : List (List Struct)) (old : List Pair) (start : ℕ) (root : Pair) (ks : List Pair) (next : ℕ) : Type 0 where
  pub kept : take start ks ≡ old
  pub low : start ≤ length ks
  pub done : (i : ℕ) (p : Pair) → i < next → slice_get ks i ≡ Some p → Rests us ks p
  pub reached : (i : ℕ) (p : Pair) → slice_get ks i ≡ Some p → Agree us root.0 root.1 → Agree us p.0 p.1
  pub met : Has ks root

begun_reached : (us : List (List Struct)) (old : List Pair) (root : Pair) (i : ℕ) (p : Pair) → AllAgree us old → (slice_get old i ≡ Some p) ⊎ (root ≡ p) → Agree us root.0 root.1 → Agree us p.0 p.1
begun_reached us old root i p known (inl e) a = known i p e
begun_reached us old root i p known (inr e) a = subst (λ z. Agree us z.0 z.1) e a

pub begun : (us : List (List Struct)) (old : List Pair) (start : ℕ) (root : Pair) → start ≡ length old → AllAgree us old → Walked us old start root (insert_key same_pair old root) start
begun us old start root s known = record {
  kept = key_front old root start (omega arith) ∙ take_all start old (omega arith);
  low = (let longer : length old ≤ length (insert_key same_pair old root) = key_longer old root in omega arith);
  done = λ i p l e. inl (known i p (sym (key_same old root i (omega arith)) ∙ e));
  reached = λ i p e. begun_reached us old root i p known (key_from old root i p e);
  met = key_has old root;
}

module _ (us : List (List Struct)) (old : List Pair) (start : ℕ) (root : Pair) (ks : List Pair) (next : ℕ) (here : Pair)
    (w : Walked us old start root ks next) (here_is : slice_get ks next ≡ Some here) where
  -- where the pair at the cursor differs, the first pair does too
  pub failed : (Agree us here.0 here.1 → ⊥) → Agree us root.0 root.1 → ⊥
  failed f a = f (w.reached next here here_is a)

  done_more : is_alike us here ≡ true → (i : ℕ) (p : Pair) → (i < next) ⊎ (i ≡ next) → slice_get (insert_all same_pair ks (inner_pairs us here)) i ≡ Some p → Rests us (insert_all same_pair ks (inner_pairs us here)) p
  done_more t i p (inl l) e =
      let inside : next < length ks = get_below ks next here here_is in
      more_rests us ks (inner_pairs us here) p (w.done i p l (sym (all_same ks (inner_pairs us here) i (omega arith)) ∙ e))
  done_more t i p (inr l) e =
      let inside : next < length ks = get_below ks next here here_is in
      let low : i < length ks = omega arith in
      let now : slice_get ks next ≡ Some p = ap (slice_get ks) (sym l) ∙ sym (all_same ks (inner_pairs us here) i low) ∙ e in
      let same : here ≡ p = some_is here p (sym here_is ∙ now) in
      subst (Rests us (insert_all same_pair ks (inner_pairs us here))) same (inr (t, λ j q g. all_has ks (inner_pairs us here) j q g))

  reached_more : (i : ℕ) (p : Pair) → (slice_get ks i ≡ Some p) ⊎ Has (inner_pairs us here) p → Agree us root.0 root.1 → Agree us p.0 p.1
  reached_more i p (inl e) a = w.reached i p e a
  reached_more i p (inr v) a = inner_agrees us here p v.0 (w.reached next here here_is a) v.1

  -- else the pairs on which it rests are met too
  pub stepped : is_alike us here ≡ true → Walked us old start root (insert_all same_pair ks (inner_pairs us here)) (next + 1)
  stepped t = record {
    kept = all_front ks (inner_pairs us here) start w.low ∙ w.kept;
    low = (let longer : length ks ≤ length (insert_all same_pair ks (inner_pairs us here)) = all_longer ks (inner_pairs us here) in let l : start ≤ length ks = w.low in omega arith);
    done = λ i p l e. done_more t i p (below i next l) e;
    reached = λ i p e. reached_more i p (all_from ks (inner_pairs us here) i p e);
    met = all_kept ks (inner_pairs us here) root w.met;
  }

-- behind the last pair each agrees
pub ended : (us : List (List Struct)) (old : List Pair) (start : ℕ) (root : Pair) (ks : List Pair) (next : ℕ) → Walked us old start root ks next → length ks ≤ next → AllAgree us ks
ended us old start root ks next w past i p e n =
    all_agree us ks (λ i p e. w.done i p (let l : i < length ks = get_below ks i p e in omega arith) e) n i p e

pub root_agrees : (us : List (List Struct)) (old : List Pair) (start : ℕ) (root : Pair) (ks : List Pair) (next : ℕ) → Walked us old start root ks next → length ks ≤ next → Agree us root.0 root.1
root_agrees us old start root ks next w past = ended us old start root ks next w past w.met.0 root w.met.1

-- ---- pairs that differ

pub contained : (us : List (List Struct)) (ps : List Pair) (p : Pair) → NoneAgrees us ps → list_any (same_pair p) ps ≡ true → Agree us p.0 p.1 → ⊥
contained us ps p none h = let w : Has ps p = found_has ps p h in none w.0 p w.1

one_differs : (us : List (List Struct)) (ps : List Pair) (i : ℕ) (p q : Pair) → NoneAgrees us ps → (Agree us p.0 p.1 → ⊥) → (slice_get ps i ≡ Some q) ⊎ (p ≡ q) → Agree us q.0 q.1 → ⊥
one_differs us ps i p q none n (inl e) a = none i q e a
one_differs us ps i p q none n (inr e) a = n (subst (λ z. Agree us z.0 z.1) (sym e) a)

pub one_more_differs : (us : List (List Struct)) (ps : List Pair) (p : Pair) → NoneAgrees us ps → (Agree us p.0 p.1 → ⊥) → NoneAgrees us (insert_key same_pair ps p)
one_more_differs us ps p none n i q e = one_differs us ps i p q none n (key_from ps p i q e)

-- ---- answers

pub if_ok : {T E : Type 0} (r : Result T E) (P Q : T → Type 0) → ((x : T) → P x → Q x) → IfOk r P → IfOk r Q
if_ok (Ok x) P Q f h = f x h
if_ok (Err e) P Q f h = tt
