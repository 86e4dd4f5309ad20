use Rattle.std.proofs.Common.{◌≡◌, ℕ, take, nat_eq}
use Rattle.std.specs.List.{list_any}
use Rattle.sp_link_entries.proofs.objects.set_of.Given as goal

abbrev pub invariant-loop-number : goal.invariant-loop-number
invariant-loop-number l = (k : ℕ) → list_any (nat_eq k) l.set.keys ≡ list_any (nat_eq k) (take l.number-index l.numbers)
