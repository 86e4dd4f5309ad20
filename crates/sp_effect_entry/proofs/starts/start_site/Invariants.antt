use Rattle.std.proofs.Common.{◌≡◌, drop, map}
use Rattle.sp_ir.specs.Programs.{lowered_of, object_of}
use Rattle.sp_effect_entry.specs.Starts.{site_from, start_site}
use Rattle.sp_effect_entry.proofs.starts.start_site.Given as goal

-- none of the first objects is the site
abbrev pub invariant-loop-number : goal.invariant-loop-number
invariant-loop-number l = site_from l.number (map object_of (drop l.number l.lowered.objects.items)) ≡ start_site (lowered_of l.lowered)
