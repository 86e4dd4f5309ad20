use Rattle.std.proofs.Common.{◌≡◌, ◌++◌, map, drop}
use Rattle.sp_ir.specs.Programs.{object_of}
use Rattle.sp_lower_draft.specs.View.{site_of}
use Rattle.sp_lower_objects.specs.Objects.{site_object}
use Rattle.sp_lower_objects.proofs.making.add_sites.Given as goal

abbrev pub invariant-loop-site : goal.invariant-loop-site
invariant-loop-site l =
    map object_of l.all.items ++ map site_object (map site_of (drop l.site-index l.sites))
    ≡ map object_of l.fn.all.items ++ map site_object (map site_of l.sites)
