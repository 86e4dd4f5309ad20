use Rattle.std.proofs.Common.{◌≡◌, [], length, take}
use Rattle.sp_lattice.specs.System.{AllBelow}
use Rattle.sp_deps.specs.inner.Grouped.{grouped}
use Rattle.sp_deps.proofs.Using.{Using}
use Rattle.sp_deps.proofs.users.users.Given as goal

abbrev pub invariant-nodes : goal.invariant-nodes
invariant-nodes g l =
    let m = g.S.System.meaning l.system in
    record {
      low : AllBelow m.locations l.locations.items;
      paired : length l.nodes.items ≡ length l.locations.items;
      using : Using m (grouped m.locations l.locations.items l.nodes.items) l.node [];
    }

abbrev pub invariant-uses : goal.invariant-uses
invariant-uses g l =
    let m = g.S.System.meaning l.system in
    record {
      low : AllBelow m.locations l.locations.items;
      paired : length l.nodes.items ≡ length l.locations.items;
      using : Using m (grouped m.locations l.locations.items l.nodes.items) l.node (take l.location-index l.uses);
    }
