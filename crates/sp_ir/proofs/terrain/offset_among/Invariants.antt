use Rattle.std.proofs.Common.{◌≡◌, ◌≤◌, ◌-◌, map, drop}
use Rattle.sp_types.specs.View.{type_of, struct_of}
use Rattle.sp_ir.specs.Terrain.{offset_among}
use Rattle.sp_ir.proofs.terrain.offset_among.Given as goal

-- the offset that is sought, among the members that are left
abbrev pub invariant-loop-i : goal.invariant-loop-i
invariant-loop-i l = (l.i ≤ l.number) × (offset_among (map struct_of l.structs) l.from (map (λ m. (m.0, type_of m.1)) (drop l.i l.members)) (l.number - l.i)
    ≡ offset_among (map struct_of l.structs) 0 (map (λ m. (m.0, type_of m.1)) l.members) l.number)
