use Rattle.std.proofs.Common.{◌≡◌, [], length, take}
use Rattle.sp_lattice.specs.System.{AllBelow}
use Rattle.sp_deps.specs.inner.Grouped.{grouped}
use Rattle.sp_deps.proofs.Stretching.{Touching}
use Rattle.sp_deps.proofs.stretches.touching.Given as goal

abbrev pub invariant-nodes : goal.invariant-nodes
invariant-nodes g l =
    let m = g.S.System.meaning l.system in
    record {
      low : AllBelow m.locations l.locations.items;
      paired : length l.touching.items ≡ length l.locations.items;
      touching : Touching m l.heads (grouped m.locations l.locations.items l.touching.items) l.node [];
    }

abbrev pub invariant-defs : goal.invariant-defs
invariant-defs g l =
    let m = g.S.System.meaning l.system in
    record {
      low : AllBelow m.locations l.locations.items;
      paired : length l.touching.items ≡ length l.locations.items;
      touching : Touching m l.heads (grouped m.locations l.locations.items l.touching.items) l.node (take l.location-index l.defs);
    }

abbrev pub invariant-uses : goal.invariant-uses
invariant-uses g l =
    let m = g.S.System.meaning l.system in
    record {
      low : AllBelow m.locations l.locations.items;
      paired : length l.touching.items ≡ length l.locations.items;
      touching : Touching m l.heads (grouped m.locations l.locations.items l.touching.items) l.node (m.defs l.node);
    }
