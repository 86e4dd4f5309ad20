use Rattle.std.proofs.Common.{◌≡◌, ℕ, take}
use Rattle.sp_link_structs.specs.Leading.{leader_by, moved}
use Rattle.sp_link_structs.proofs.leaders.Leaders.move_all.Given as goal

abbrev pub invariant-list : goal.invariant-list
invariant-list l = (x : ℕ × ℕ) → leader_by l.self x ≡ moved (take l.i l.list) l.old l.new x (leader_by l.initial.self x)
