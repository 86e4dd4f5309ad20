use Rattle.sp_sparse.proofs.Linking.{IsLinking}
use Rattle.sp_sparse.proofs.links.links_from.Given as goal

abbrev pub invariant-pairs : goal.invariant-pairs
invariant-pairs g l = IsLinking (g.S.System.meaning l.system) l.location l.own l.links.items l.pair-index
