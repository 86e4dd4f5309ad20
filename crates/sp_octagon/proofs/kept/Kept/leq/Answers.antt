use Rattle.std.proofs.Common.{◌≡◌, ◌∙◌, ap, sym}
use Rattle.sp_octagon.specs.Kept.{half_of}
use Rattle.sp_octagon.proofs.HalfOrder.{sizes-same, list_le-kept}
use Rattle.sp_octagon.proofs.kept.Kept.leq.Goals as goal

pub is_within-requires : goal.is_within-requires
is_within-requires c =
    let mine = ap half_of (sym c.self.view_is) ∙ c.self.invariant.half ∙ sym c.as_slice.ensures.value in
    let theirs = ap half_of (sym c.other.view_is) ∙ c.other.invariant.half ∙ sym c.as_slice-2.ensures.value in
    sizes-same c.args.self.now c.args.other.now c.as_slice.result.now c.as_slice-2.result.now mine theirs c.requires

pub returns : goal.returns
returns c =
    let mine = ap half_of (sym c.self.view_is) ∙ c.self.invariant.half ∙ sym c.as_slice.ensures.value in
    let theirs = ap half_of (sym c.other.view_is) ∙ c.other.invariant.half ∙ sym c.as_slice-2.ensures.value in
    c.is_within.ensures ∙ list_le-kept c.args.self.now c.args.other.now c.as_slice.result.now c.as_slice-2.result.now mine theirs c.requires
