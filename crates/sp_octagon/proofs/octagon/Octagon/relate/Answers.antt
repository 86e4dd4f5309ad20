use Rattle.std.proofs.Common.{◌*◌, pos, sym, subst}
use Rattle.sp_lattice.specs.declared.relations.Relation.{Relation}
use Rattle.sp_octagon.specs.Changes.{difference_at_most, constrained}
use Rattle.sp_octagon.specs.Octagons.{entries, Becomes}
use Rattle.sp_octagon.proofs.Composing.{lowered_after}
use Rattle.sp_octagon.proofs.octagon.Octagon.relate.Goals as goal

pub returns-in-Equal : goal.returns-in-Equal
returns-in-Equal c =
    let m = entries c.args.self.now in
    let both = lowered_after c.args.self.now c.lower-in-Equal.new.self c.lower-in-Equal-2.new.self (2 * c.args.x) (2 * c.args.y) (pos 0) (difference_at_most m c.args.x c.args.y (pos 0)) c.lower-in-Equal.ensures.becomes c.lower-in-Equal-2.ensures.becomes in
    record { becomes = subst (λ (op : Relation). Becomes c.args.self.now c.lower-in-Equal-2.new.self (constrained m c.args.x op c.args.y)) (sym c.in-Equal.is) both }
