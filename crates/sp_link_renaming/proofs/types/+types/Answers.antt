use Rattle.std.proofs.Common.{◌∙◌, ap, map}
use Rattle.std.proofs.lemmas.List.{take_all}
use Rattle.sp_types.specs.View.{type_of, types}
use Rattle.sp_link_renaming.specs.Renaming.{renamed_type}
use Rattle.sp_link_renaming.proofs.Lists.{types_renamed}
use Rattle.sp_link_renaming.proofs.types.+types.Goals as goal

pub all_anew-returns : goal.all_anew-returns
all_anew-returns t c =
    ap types c.these.invariant
    ∙ ap (λ xs. types (map (renamed_type c.args.structs.now) (map type_of xs))) (take_all c.these.i c.args.these.now c.these-test.false)
    ∙ types_renamed c.args.structs.now (map type_of c.args.these.now)
