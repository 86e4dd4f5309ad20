use Rattle.std.proofs.Common.{◌≡◌, ◌+◌, ◌<◌, ◌∙◌, sym, ap, drop, length, get_or, set, vec_len, arith}
use Rattle.sp_lattice.specs.System.{written}
use Rattle.sp_lattice.specs.Dense.{store_of}
use Rattle.sp_dense.proofs.Writing.{written_more, front_less, last_of_front}
use Rattle.sp_dense.proofs.evaluation.write_values.Goals as goal

pub values-preserved : goal.values-preserved
values-preserved g c =
    let places = c.args.places.now in
    let all = c.args.values.items in
    let n = vec_len c.values.values in
    let k = vec_len c.pop.new.self in
    let so_far = c.values.invariant in
    let size : k + 1 ≡ n = omega (arith, c.in-Some.ensures.cases) in
    let low : k < length places = omega (arith, so_far.few) in
    let all_low : k < length all = omega (arith, c.requires.values, c.args.values.ok.0) in
    record {
      long = so_far.long;
      few = omega arith;
      front = front_less all c.values.values.items c.pop.new.self.items n k size so_far.front c.in-Some.ensures.rest;
      done = λ l d l_low.
          let value = last_of_front all c.values.values.items n k c.in-Some.value d size so_far.front (c.in-Some.ensures.value d (omega arith)) in
          let before = so_far.done l d l_low in
          let within : l < length c.values.row.items = omega (arith, so_far.long, c.values.row.ok.0) in
          ap (λ p. store_of d (set c.values.row.items (get_or places p 0) c.in-Some.value) l) c.len.ensures
          ∙ written_more (store_of d c.args.row.now.items) c.values.row.items places all k l c.in-Some.value d low all_low value within (before ∙ ap (λ j. written (store_of d c.args.row.now.items) (drop j places) (drop j all) l) (sym size));
    }
