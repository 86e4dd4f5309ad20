use Rattle.std.proofs.Common.{◌≡◌, ◌∙◌, ◌<◌, ◌≤◌, ◌+◌, ℕ, true, false, nat_lt, nat_le, List, length, get_or, sym, ap, subst, rules, arith}
use Rattle.std.specs.Prelude.{slice_range}
use Rattle.std.specs.List.Sorted.{IsPartitionPoint, IsPartitionedBy, IsStrictlyIncreasing}
use Rattle.std.proofs.lemmas.List.{get_or_default}
use Rattle.std.proofs.lemmas.List.Sorted.{IsPartitionPoint-from_clause}
use Rattle.sp_lattice.specs.System.{has}
use Rattle.sp_sparse.proofs.Linking.{IsLinking, parted_below, parted_upto, in_order, own_used, place_low, linking_more, linking_done}
use Rattle.sp_sparse.proofs.links.links_from.Goals as goal

pub slice_bounds-own-count : goal.slice_bounds-own-count
slice_bounds-own-count g c =
    let pairs = c.args.pairs.now.items in
    let l = c.args.location in
    let first = c.partition_point-first.result in
    let end = c.partition_point-end.result in
    let first_low : first ≤ length pairs = omega (arith, c.partition_point-first.ensures.bound, ap length c.deref.ensures.value) in
    let end_low : end ≤ length pairs = omega (arith, c.partition_point-end.ensures.bound, ap length c.deref-2.ensures.value) in
    let lower : IsPartitionPoint (λ p. nat_lt p.0 l ≡ true) (λ p. nat_lt p.0 l ≡ false) pairs first =
    subst (λ xs. IsPartitionPoint (λ p. nat_lt p.0 l ≡ true) (λ p. nat_lt p.0 l ≡ false) xs first) c.deref.ensures.value
    (IsPartitionPoint-from_clause (λ p. nat_lt p.0 l) c.deref.result.now first c.partition_point-first.ensures.partitioned (subst (IsPartitionedBy (λ p. nat_lt p.0 l)) (sym c.deref.ensures.value) (parted_below pairs c.requires.ascends l)) (λ a r q k. search rules)) in
    let upper : IsPartitionPoint (λ p. nat_le p.0 l ≡ true) (λ p. nat_le p.0 l ≡ false) pairs end =
    subst (λ xs. IsPartitionPoint (λ p. nat_le p.0 l ≡ true) (λ p. nat_le p.0 l ≡ false) xs end) c.deref-2.ensures.value
    (IsPartitionPoint-from_clause (λ p. nat_le p.0 l) c.deref-2.result.now end c.partition_point-end.ensures.partitioned (subst (IsPartitionedBy (λ p. nat_le p.0 l)) (sym c.deref-2.ensures.value) (parted_upto pairs c.requires.ascends l)) (λ a r q k. search rules)) in
    in_order pairs c.requires.ascends l first end first_low end_low lower upper

pub slice_bounds-own-start : goal.slice_bounds-own-start
slice_bounds-own-start g c =
    let pairs = c.args.pairs.now.items in
    let l = c.args.location in
    let first = c.partition_point-first.result in
    let end = c.partition_point-end.result in
    let first_low : first ≤ length pairs = omega (arith, c.partition_point-first.ensures.bound, ap length c.deref.ensures.value) in
    let end_low : end ≤ length pairs = omega (arith, c.partition_point-end.ensures.bound, ap length c.deref-2.ensures.value) in
    let lower : IsPartitionPoint (λ p. nat_lt p.0 l ≡ true) (λ p. nat_lt p.0 l ≡ false) pairs first =
    subst (λ xs. IsPartitionPoint (λ p. nat_lt p.0 l ≡ true) (λ p. nat_lt p.0 l ≡ false) xs first) c.deref.ensures.value
    (IsPartitionPoint-from_clause (λ p. nat_lt p.0 l) c.deref.result.now first c.partition_point-first.ensures.partitioned (subst (IsPartitionedBy (λ p. nat_lt p.0 l)) (sym c.deref.ensures.value) (parted_below pairs c.requires.ascends l)) (λ a r q k. search rules)) in
    let upper : IsPartitionPoint (λ p. nat_le p.0 l ≡ true) (λ p. nat_le p.0 l ≡ false) pairs end =
    subst (λ xs. IsPartitionPoint (λ p. nat_le p.0 l ≡ true) (λ p. nat_le p.0 l ≡ false) xs end) c.deref-2.ensures.value
    (IsPartitionPoint-from_clause (λ p. nat_le p.0 l) c.deref-2.result.now end c.partition_point-end.ensures.partitioned (subst (IsPartitionedBy (λ p. nat_le p.0 l)) (sym c.deref-2.ensures.value) (parted_upto pairs c.requires.ascends l)) (λ a r q k. search rules)) in
    in_order pairs c.requires.ascends l first end first_low end_low lower upper

pub uses-requires : goal.uses-requires
uses-requires g c =
    let pairs = c.args.pairs.now.items in
    let l = c.args.location in
    let first = c.partition_point-first.result in
    let end = c.partition_point-end.result in
    let first_low : first ≤ length pairs = omega (arith, c.partition_point-first.ensures.bound, ap length c.deref.ensures.value) in
    let end_low : end ≤ length pairs = omega (arith, c.partition_point-end.ensures.bound, ap length c.deref-2.ensures.value) in
    let lower : IsPartitionPoint (λ p. nat_lt p.0 l ≡ true) (λ p. nat_lt p.0 l ≡ false) pairs first =
    subst (λ xs. IsPartitionPoint (λ p. nat_lt p.0 l ≡ true) (λ p. nat_lt p.0 l ≡ false) xs first) c.deref.ensures.value
    (IsPartitionPoint-from_clause (λ p. nat_lt p.0 l) c.deref.result.now first c.partition_point-first.ensures.partitioned (subst (IsPartitionedBy (λ p. nat_lt p.0 l)) (sym c.deref.ensures.value) (parted_below pairs c.requires.ascends l)) (λ a r q k. search rules)) in
    let upper : IsPartitionPoint (λ p. nat_le p.0 l ≡ true) (λ p. nat_le p.0 l ≡ false) pairs end =
    subst (λ xs. IsPartitionPoint (λ p. nat_le p.0 l ≡ true) (λ p. nat_le p.0 l ≡ false) xs end) c.deref-2.ensures.value
    (IsPartitionPoint-from_clause (λ p. nat_le p.0 l) c.deref-2.result.now end c.partition_point-end.ensures.partitioned (subst (IsPartitionedBy (λ p. nat_le p.0 l)) (sym c.deref-2.ensures.value) (parted_upto pairs c.requires.ascends l)) (λ a r q k. search rules)) in
    let own3 = slice_range c.deref-3.result.now first end in
    let own_same : own3 ≡ slice_range pairs first end = ap (λ (xs : List (ℕ × ℕ)). slice_range xs first end) c.deref-3.ensures.value in
    let m = g.S.System.meaning c.args.system.now in
    let sys = g.met.S.System.lawful c.args.system.now in
    let k = c.pairs.pair-index in
    let to = (get_or own3 k (0, 0)).1 in
    let k_low : k < length (slice_range pairs first end) = subst (λ (xs : List (ℕ × ℕ)). k < length xs) own_same c.pairs-test.true in
    let used = own_used m pairs c.requires.ascends l first end first_low end_low lower upper c.requires.used k (0, 0) k_low in
    let to_is : (get_or (slice_range pairs first end) k (0, 0)).1 ≡ to = ap (λ (xs : List (ℕ × ℕ)). (get_or xs k (0, 0)).1) (sym own_same) in
    let to_low : to < m.nodes = subst (λ t. t < m.nodes) to_is used.0 in
    let to_used : has l (m.uses to) ≡ true = subst (λ t. has l (m.uses t) ≡ true) to_is used.1 in
    to_low

pub place_of-place-requires-clause-ascends : goal.place_of-place-requires-clause-ascends
place_of-place-requires-clause-ascends g c =
    let pairs = c.args.pairs.now.items in
    let l = c.args.location in
    let first = c.partition_point-first.result in
    let end = c.partition_point-end.result in
    let first_low : first ≤ length pairs = omega (arith, c.partition_point-first.ensures.bound, ap length c.deref.ensures.value) in
    let end_low : end ≤ length pairs = omega (arith, c.partition_point-end.ensures.bound, ap length c.deref-2.ensures.value) in
    let lower : IsPartitionPoint (λ p. nat_lt p.0 l ≡ true) (λ p. nat_lt p.0 l ≡ false) pairs first =
    subst (λ xs. IsPartitionPoint (λ p. nat_lt p.0 l ≡ true) (λ p. nat_lt p.0 l ≡ false) xs first) c.deref.ensures.value
    (IsPartitionPoint-from_clause (λ p. nat_lt p.0 l) c.deref.result.now first c.partition_point-first.ensures.partitioned (subst (IsPartitionedBy (λ p. nat_lt p.0 l)) (sym c.deref.ensures.value) (parted_below pairs c.requires.ascends l)) (λ a r q k. search rules)) in
    let upper : IsPartitionPoint (λ p. nat_le p.0 l ≡ true) (λ p. nat_le p.0 l ≡ false) pairs end =
    subst (λ xs. IsPartitionPoint (λ p. nat_le p.0 l ≡ true) (λ p. nat_le p.0 l ≡ false) xs end) c.deref-2.ensures.value
    (IsPartitionPoint-from_clause (λ p. nat_le p.0 l) c.deref-2.result.now end c.partition_point-end.ensures.partitioned (subst (IsPartitionedBy (λ p. nat_le p.0 l)) (sym c.deref-2.ensures.value) (parted_upto pairs c.requires.ascends l)) (λ a r q k. search rules)) in
    let own3 = slice_range c.deref-3.result.now first end in
    let own_same : own3 ≡ slice_range pairs first end = ap (λ (xs : List (ℕ × ℕ)). slice_range xs first end) c.deref-3.ensures.value in
    let m = g.S.System.meaning c.args.system.now in
    let sys = g.met.S.System.lawful c.args.system.now in
    let k = c.pairs.pair-index in
    let to = (get_or own3 k (0, 0)).1 in
    let k_low : k < length (slice_range pairs first end) = subst (λ (xs : List (ℕ × ℕ)). k < length xs) own_same c.pairs-test.true in
    let used = own_used m pairs c.requires.ascends l first end first_low end_low lower upper c.requires.used k (0, 0) k_low in
    let to_is : (get_or (slice_range pairs first end) k (0, 0)).1 ≡ to = ap (λ (xs : List (ℕ × ℕ)). (get_or xs k (0, 0)).1) (sym own_same) in
    let to_low : to < m.nodes = subst (λ t. t < m.nodes) to_is used.0 in
    let to_used : has l (m.uses to) ≡ true = subst (λ t. has l (m.uses t) ≡ true) to_is used.1 in
    subst IsStrictlyIncreasing (sym c.uses.ensures) (sys.uses_ascend to to_low)

pub place_of-place-requires-clause-there : goal.place_of-place-requires-clause-there
place_of-place-requires-clause-there g c =
    let pairs = c.args.pairs.now.items in
    let l = c.args.location in
    let first = c.partition_point-first.result in
    let end = c.partition_point-end.result in
    let first_low : first ≤ length pairs = omega (arith, c.partition_point-first.ensures.bound, ap length c.deref.ensures.value) in
    let end_low : end ≤ length pairs = omega (arith, c.partition_point-end.ensures.bound, ap length c.deref-2.ensures.value) in
    let lower : IsPartitionPoint (λ p. nat_lt p.0 l ≡ true) (λ p. nat_lt p.0 l ≡ false) pairs first =
    subst (λ xs. IsPartitionPoint (λ p. nat_lt p.0 l ≡ true) (λ p. nat_lt p.0 l ≡ false) xs first) c.deref.ensures.value
    (IsPartitionPoint-from_clause (λ p. nat_lt p.0 l) c.deref.result.now first c.partition_point-first.ensures.partitioned (subst (IsPartitionedBy (λ p. nat_lt p.0 l)) (sym c.deref.ensures.value) (parted_below pairs c.requires.ascends l)) (λ a r q k. search rules)) in
    let upper : IsPartitionPoint (λ p. nat_le p.0 l ≡ true) (λ p. nat_le p.0 l ≡ false) pairs end =
    subst (λ xs. IsPartitionPoint (λ p. nat_le p.0 l ≡ true) (λ p. nat_le p.0 l ≡ false) xs end) c.deref-2.ensures.value
    (IsPartitionPoint-from_clause (λ p. nat_le p.0 l) c.deref-2.result.now end c.partition_point-end.ensures.partitioned (subst (IsPartitionedBy (λ p. nat_le p.0 l)) (sym c.deref-2.ensures.value) (parted_upto pairs c.requires.ascends l)) (λ a r q k. search rules)) in
    let own3 = slice_range c.deref-3.result.now first end in
    let own_same : own3 ≡ slice_range pairs first end = ap (λ (xs : List (ℕ × ℕ)). slice_range xs first end) c.deref-3.ensures.value in
    let m = g.S.System.meaning c.args.system.now in
    let sys = g.met.S.System.lawful c.args.system.now in
    let k = c.pairs.pair-index in
    let to = (get_or own3 k (0, 0)).1 in
    let k_low : k < length (slice_range pairs first end) = subst (λ (xs : List (ℕ × ℕ)). k < length xs) own_same c.pairs-test.true in
    let used = own_used m pairs c.requires.ascends l first end first_low end_low lower upper c.requires.used k (0, 0) k_low in
    let to_is : (get_or (slice_range pairs first end) k (0, 0)).1 ≡ to = ap (λ (xs : List (ℕ × ℕ)). (get_or xs k (0, 0)).1) (sym own_same) in
    let to_low : to < m.nodes = subst (λ t. t < m.nodes) to_is used.0 in
    let to_used : has l (m.uses to) ≡ true = subst (λ t. has l (m.uses t) ≡ true) to_is used.1 in
    ap (λ ls. has l ls) c.uses.ensures ∙ to_used

pub overflow_cast-place : goal.overflow_cast-place
overflow_cast-place g c =
    let pairs = c.args.pairs.now.items in
    let l = c.args.location in
    let first = c.partition_point-first.result in
    let end = c.partition_point-end.result in
    let first_low : first ≤ length pairs = omega (arith, c.partition_point-first.ensures.bound, ap length c.deref.ensures.value) in
    let end_low : end ≤ length pairs = omega (arith, c.partition_point-end.ensures.bound, ap length c.deref-2.ensures.value) in
    let lower : IsPartitionPoint (λ p. nat_lt p.0 l ≡ true) (λ p. nat_lt p.0 l ≡ false) pairs first =
    subst (λ xs. IsPartitionPoint (λ p. nat_lt p.0 l ≡ true) (λ p. nat_lt p.0 l ≡ false) xs first) c.deref.ensures.value
    (IsPartitionPoint-from_clause (λ p. nat_lt p.0 l) c.deref.result.now first c.partition_point-first.ensures.partitioned (subst (IsPartitionedBy (λ p. nat_lt p.0 l)) (sym c.deref.ensures.value) (parted_below pairs c.requires.ascends l)) (λ a r q k. search rules)) in
    let upper : IsPartitionPoint (λ p. nat_le p.0 l ≡ true) (λ p. nat_le p.0 l ≡ false) pairs end =
    subst (λ xs. IsPartitionPoint (λ p. nat_le p.0 l ≡ true) (λ p. nat_le p.0 l ≡ false) xs end) c.deref-2.ensures.value
    (IsPartitionPoint-from_clause (λ p. nat_le p.0 l) c.deref-2.result.now end c.partition_point-end.ensures.partitioned (subst (IsPartitionedBy (λ p. nat_le p.0 l)) (sym c.deref-2.ensures.value) (parted_upto pairs c.requires.ascends l)) (λ a r q k. search rules)) in
    let own3 = slice_range c.deref-3.result.now first end in
    let own_same : own3 ≡ slice_range pairs first end = ap (λ (xs : List (ℕ × ℕ)). slice_range xs first end) c.deref-3.ensures.value in
    let m = g.S.System.meaning c.args.system.now in
    let sys = g.met.S.System.lawful c.args.system.now in
    let k = c.pairs.pair-index in
    let to = (get_or own3 k (0, 0)).1 in
    let k_low : k < length (slice_range pairs first end) = subst (λ (xs : List (ℕ × ℕ)). k < length xs) own_same c.pairs-test.true in
    let used = own_used m pairs c.requires.ascends l first end first_low end_low lower upper c.requires.used k (0, 0) k_low in
    let to_is : (get_or (slice_range pairs first end) k (0, 0)).1 ≡ to = ap (λ (xs : List (ℕ × ℕ)). (get_or xs k (0, 0)).1) (sym own_same) in
    let to_low : to < m.nodes = subst (λ t. t < m.nodes) to_is used.0 in
    let to_used : has l (m.uses to) ≡ true = subst (λ t. has l (m.uses t) ≡ true) to_is used.1 in
    let rises = subst IsStrictlyIncreasing (sym c.uses.ensures) (sys.uses_ascend to to_low) in
    omega (arith, place_low c.uses.result.now c.place_of-place.result rises c.place_of-place.ensures.within, c.place_of-place.ensures.found, c.ranges.location)

pub pairs-preserved : goal.pairs-preserved
pairs-preserved g c =
    let pairs = c.args.pairs.now.items in
    let l = c.args.location in
    let first = c.partition_point-first.result in
    let end = c.partition_point-end.result in
    let first_low : first ≤ length pairs = omega (arith, c.partition_point-first.ensures.bound, ap length c.deref.ensures.value) in
    let end_low : end ≤ length pairs = omega (arith, c.partition_point-end.ensures.bound, ap length c.deref-2.ensures.value) in
    let lower : IsPartitionPoint (λ p. nat_lt p.0 l ≡ true) (λ p. nat_lt p.0 l ≡ false) pairs first =
    subst (λ xs. IsPartitionPoint (λ p. nat_lt p.0 l ≡ true) (λ p. nat_lt p.0 l ≡ false) xs first) c.deref.ensures.value
    (IsPartitionPoint-from_clause (λ p. nat_lt p.0 l) c.deref.result.now first c.partition_point-first.ensures.partitioned (subst (IsPartitionedBy (λ p. nat_lt p.0 l)) (sym c.deref.ensures.value) (parted_below pairs c.requires.ascends l)) (λ a r q k. search rules)) in
    let upper : IsPartitionPoint (λ p. nat_le p.0 l ≡ true) (λ p. nat_le p.0 l ≡ false) pairs end =
    subst (λ xs. IsPartitionPoint (λ p. nat_le p.0 l ≡ true) (λ p. nat_le p.0 l ≡ false) xs end) c.deref-2.ensures.value
    (IsPartitionPoint-from_clause (λ p. nat_le p.0 l) c.deref-2.result.now end c.partition_point-end.ensures.partitioned (subst (IsPartitionedBy (λ p. nat_le p.0 l)) (sym c.deref-2.ensures.value) (parted_upto pairs c.requires.ascends l)) (λ a r q k. search rules)) in
    let own3 = slice_range c.deref-3.result.now first end in
    let own_same : own3 ≡ slice_range pairs first end = ap (λ (xs : List (ℕ × ℕ)). slice_range xs first end) c.deref-3.ensures.value in
    let m = g.S.System.meaning c.args.system.now in
    let sys = g.met.S.System.lawful c.args.system.now in
    let k = c.pairs.pair-index in
    let to = (get_or own3 k (0, 0)).1 in
    let k_low : k < length (slice_range pairs first end) = subst (λ (xs : List (ℕ × ℕ)). k < length xs) own_same c.pairs-test.true in
    let used = own_used m pairs c.requires.ascends l first end first_low end_low lower upper c.requires.used k (0, 0) k_low in
    let to_is : (get_or (slice_range pairs first end) k (0, 0)).1 ≡ to = ap (λ (xs : List (ℕ × ℕ)). (get_or xs k (0, 0)).1) (sym own_same) in
    let to_low : to < m.nodes = subst (λ t. t < m.nodes) to_is used.0 in
    let to_used : has l (m.uses to) ≡ true = subst (λ t. has l (m.uses t) ≡ true) to_is used.1 in
    let place = c.place_of-place.result in
    let links = c.pairs.links.items in
    subst (λ ls. IsLinking m l own3 ls (k + 1)) (sym c.in_ok-push.ensures.items)
    (linking_more m l own3 links k to place c.pairs.invariant c.pairs-test.true (λ d. ap (λ (p : ℕ × ℕ). p.1) (get_or_default own3 k (0, 0) d c.pairs-test.true))
    (subst (λ ls. place < length ls) c.uses.ensures c.place_of-place.ensures.within)
    (ap (λ ls. get_or ls place 0) (sym c.uses.ensures) ∙ c.place_of-place.ensures.found))

pub returns : goal.returns
returns g c =
    let pairs = c.args.pairs.now.items in
    let l = c.args.location in
    let first = c.partition_point-first.result in
    let end = c.partition_point-end.result in
    let first_low : first ≤ length pairs = omega (arith, c.partition_point-first.ensures.bound, ap length c.deref.ensures.value) in
    let end_low : end ≤ length pairs = omega (arith, c.partition_point-end.ensures.bound, ap length c.deref-2.ensures.value) in
    let lower : IsPartitionPoint (λ p. nat_lt p.0 l ≡ true) (λ p. nat_lt p.0 l ≡ false) pairs first =
    subst (λ xs. IsPartitionPoint (λ p. nat_lt p.0 l ≡ true) (λ p. nat_lt p.0 l ≡ false) xs first) c.deref.ensures.value
    (IsPartitionPoint-from_clause (λ p. nat_lt p.0 l) c.deref.result.now first c.partition_point-first.ensures.partitioned (subst (IsPartitionedBy (λ p. nat_lt p.0 l)) (sym c.deref.ensures.value) (parted_below pairs c.requires.ascends l)) (λ a r q k. search rules)) in
    let upper : IsPartitionPoint (λ p. nat_le p.0 l ≡ true) (λ p. nat_le p.0 l ≡ false) pairs end =
    subst (λ xs. IsPartitionPoint (λ p. nat_le p.0 l ≡ true) (λ p. nat_le p.0 l ≡ false) xs end) c.deref-2.ensures.value
    (IsPartitionPoint-from_clause (λ p. nat_le p.0 l) c.deref-2.result.now end c.partition_point-end.ensures.partitioned (subst (IsPartitionedBy (λ p. nat_le p.0 l)) (sym c.deref-2.ensures.value) (parted_upto pairs c.requires.ascends l)) (λ a r q k. search rules)) in
    let own3 = slice_range c.deref-3.result.now first end in
    let own_same : own3 ≡ slice_range pairs first end = ap (λ (xs : List (ℕ × ℕ)). slice_range xs first end) c.deref-3.ensures.value in
    let m = g.S.System.meaning c.args.system.now in
    let count : c.pairs.pair-index ≡ length own3 = omega (arith, c.pairs-test.false, c.pairs.auto.pair-index-end) in
    linking_done m l pairs c.requires.ascends first end first_low end_low lower upper c.pairs.links.items
    (subst (λ (xs : List (ℕ × ℕ)). IsLinking m l xs c.pairs.links.items (length xs)) own_same (subst (λ n. IsLinking m l own3 c.pairs.links.items n) count c.pairs.invariant))
