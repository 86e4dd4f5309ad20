-- The external declarations that were read stand for all that was read.
use Rattle.std.proofs.Common.{◌≡◌, ◌≤◌, length}
use Rattle.sp_parse_trees.specs.View.{externals_of}
use Rattle.sp_parse_trees.specs.Depth.{unit_depth}
use Rattle.sp_parse_tokens.specs.Ended.{IsEnded}
use Rattle.sp_decl_parser.proofs.UnitSteps.{UnitSoFar}
use Rattle.sp_decl_parser.proofs.units.read_externals.Given as goal

abbrev pub invariant-externals : goal.invariant-externals
invariant-externals l = record {
  so_far : UnitSoFar l.types (externals_of l.all.items) l.fn.tokens l.rest;
  deep : l.reached ≡ unit_depth (externals_of l.all.items);
  shallow : l.reached ≤ l.fn.depth;
  ended : IsEnded l.rest;
}

abbrev pub decreases-externals : goal.decreases-externals
decreases-externals l = length l.rest
