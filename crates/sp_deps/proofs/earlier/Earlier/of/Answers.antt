use Rattle.std.proofs.Common.{Contains, sym, subst}
use Rattle.sp_deps.proofs.earlier.Earlier.of.Goals as goal

pub returns-then-finding-node : goal.returns-then-finding-node
returns-then-finding-node c =
    let finding = c.in_ok-finding.finding.now in
    let h = c.in_ok-finding.ensures.lookup in
    record {
      finding = finding;
      there = subst (λ xs. Contains xs finding) c.deref.ensures.value (c.index.result.now, h.3.0, sym h.1);
      target = c.if-finding-node.true;
      is = sym c.deref-then-finding-node.ensures.value;
    }
