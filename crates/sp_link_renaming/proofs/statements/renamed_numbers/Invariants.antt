use Rattle.std.proofs.Common.{◌≡◌, map, take}
use Rattle.sp_link_renaming.specs.Renaming.{number_in}
use Rattle.sp_link_renaming.proofs.statements.renamed_numbers.Given as goal

abbrev pub invariant-loop-number : goal.invariant-loop-number
invariant-loop-number l = l.all.items ≡ map (number_in l.objects) (take l.number-index l.numbers)
