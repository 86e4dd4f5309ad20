use Rattle.std.proofs.Common.{◌≡◌, ◌-◌, length, take, sym, ap, ◌∙◌, subst, arith}
use Rattle.std.proofs.lemmas.List.{length-take-le}
use Rattle.sp_base_sets.specs.Circling.{state_of, Settled}
use Rattle.sp_base_sets.proofs.Endings.{settled_none, settled_more, settled_open, settled_parts}
use Rattle.sp_base_sets.proofs.Searching.{starts_there}
use Rattle.sp_base_sets.proofs.circles.end_part.Goals as goal

pub numbers-init : goal.numbers-init
numbers-init c = record {
  settled = settled_none c.is_circle-mark.result (state_of c.args.search.now) c.requires.search.path;
  parts = λ i. c.args.search.now.parts.items;
  few = omega arith;
  more = let there = starts_there c.args.lists.now (state_of c.args.search.now) c.args.part c.requires.search c.requires.last in omega (arith, there.0);
}

pub settle_last-requires : goal.settle_last-requires
settle_last-requires c =
    let i = c.numbers.invariant in
    settled_open (length c.numbers.search.path.items) c.is_circle-mark.result (state_of c.args.search.now) (state_of c.numbers.search) c.requires.search.path i.settled i.few

pub numbers-preserved : goal.numbers-preserved
numbers-preserved c =
    let i = c.numbers.invariant in
    let now = state_of c.numbers.search in
    let new = state_of c.settle_last.new.search in
    let last = c.settle_last.ensures.settled in
    let long : length new.path ≡ length now.path - 1 = ap length last.path ∙ length-take-le (length now.path - 1) now.path (omega arith) in
    record {
      settled = subst (λ m. Settled m c.is_circle-mark.result (state_of c.args.search.now) new) (sym long) (settled_more (length now.path - 1) (length now.path) c.is_circle-mark.result (state_of c.args.search.now) now new c.requires.search.path (omega arith) i.few i.settled last);
      parts = c.settle_last.ensures.parts ∙ i.parts;
      few = omega (arith, long, i.few);
      more = omega (arith, long, c.numbers-test.true, c.len.ensures, c.numbers.search.path.ok.0);
    }

pub returns : goal.returns
returns c =
    let i = c.numbers.invariant in
    let done : length c.numbers.search.path.items ≡ c.args.part.start = omega (arith, i.more, c.numbers-test.false, c.len.ensures, c.numbers.search.path.ok.0) in
    record {
      mark = c.is_circle-mark.result;
      settled = settled_parts c.args.part.start c.is_circle-mark.result (state_of c.args.search.now) (state_of c.numbers.search) c.pop.new.self.items (subst (λ m. Settled m c.is_circle-mark.result (state_of c.args.search.now) (state_of c.numbers.search)) done i.settled);
      parts = c.pop.ensures.rest ∙ ap (λ n. take (n - 1) c.numbers.search.parts.items) c.numbers.search.parts.ok.0 ∙ ap (λ ps. take (length ps - 1) ps) i.parts;
      circle = c.is_circle-mark.ensures.circle;
      none = c.is_circle-mark.ensures.none;
    }
