use Rattle.std.proofs.Common.{◌≡◌, ◌∙◌, ap, sym, subst, ℕ, length, arith}
use Rattle.std.specs.Prelude.{not}
use Rattle.std.proofs.lemmas.List.{with_items_is}
use Rattle.sp_octagon.specs.declared.octagon.Octagon.{Octagon}
use Rattle.sp_octagon.specs.Functions.{joined}
use Rattle.sp_octagon.specs.Kept.{half_of, whole, IsKept}
use Rattle.sp_octagon.proofs.Halves.{whole-half, half-kept}
use Rattle.sp_octagon.proofs.HalfOrder.{sizes-same, list_le-kept, greater-kept, joined-size}
use Rattle.sp_octagon.proofs.kept.Kept.join_into.Goals as goal

size_is : (o a : Octagon) (n : ℕ) → a ≡ o → a.size ≡ n → o.size ≡ n
size_is o a n e s = ap (λ (x : Octagon). x.size) (sym e) ∙ s

pub raise-requires : goal.raise-requires
raise-requires c =
    let mine = ap half_of (sym c.self.view_is) ∙ c.self.invariant.half ∙ sym c.as_mut_slice.ensures.value in
    let theirs = ap half_of (sym c.other.view_is) ∙ c.other.invariant.half ∙ sym c.as_slice.ensures.value in
    sizes-same c.args.self.now c.args.other.now c.as_mut_slice.result.now c.as_slice.result.now mine theirs c.requires

pub invariant_of-self : goal.invariant_of-self
invariant_of-self c =
    let a = c.args.self.now in
    let b = c.args.other.now in
    let mine = ap half_of (sym c.self.view_is) ∙ c.self.invariant.half ∙ sym c.as_mut_slice.ensures.value in
    let theirs = ap half_of (sym c.other.view_is) ∙ c.other.invariant.half ∙ sym c.as_slice.ensures.value in
    let room : length c.raise.new.bounds ≡ c.self.inside.bounds.len = omega (arith, c.raise.ensures.value.room, ap length c.as_mut_slice.ensures.value, c.self.inside.bounds.ok.0) in
    let is = with_items_is c.self.inside.bounds c.raise.new.bounds room ∙ greater-kept a b c.as_mut_slice.result.now c.as_slice.result.now c.raise.new.bounds mine theirs c.requires c.raise.ensures.value in
    let size = joined-size a b c.requires ∙ size_is a _ c.self.inside.size c.self.view_is c.self.invariant.sized in
    subst (IsKept c.self.inside.size) (sym is) (subst (λ (n : ℕ). IsKept n (half_of (joined a b))) size (half-kept (joined a b)))

pub returns-clause-value : goal.returns-clause-value
returns-clause-value c =
    let a = c.args.self.now in
    let b = c.args.other.now in
    let mine = ap half_of (sym c.self.view_is) ∙ c.self.invariant.half ∙ sym c.as_mut_slice.ensures.value in
    let theirs = ap half_of (sym c.other.view_is) ∙ c.other.invariant.half ∙ sym c.as_slice.ensures.value in
    let room : length c.raise.new.bounds ≡ c.self.inside.bounds.len = omega (arith, c.raise.ensures.value.room, ap length c.as_mut_slice.ensures.value, c.self.inside.bounds.ok.0) in
    let is = with_items_is c.self.inside.bounds c.raise.new.bounds room ∙ greater-kept a b c.as_mut_slice.result.now c.as_slice.result.now c.raise.new.bounds mine theirs c.requires c.raise.ensures.value in
    let size = joined-size a b c.requires ∙ size_is a _ c.self.inside.size c.self.view_is c.self.invariant.sized in
    ap (whole c.self.inside.size) is ∙ ap (λ n. whole n (half_of (joined a b))) (sym size) ∙ whole-half (joined a b)

pub returns-clause-grew : goal.returns-clause-grew
returns-clause-grew c =
    let mine = ap half_of (sym c.self.view_is) ∙ c.self.invariant.half ∙ sym c.as_mut_slice.ensures.value in
    let theirs = ap half_of (sym c.other.view_is) ∙ c.other.invariant.half ∙ sym c.as_slice.ensures.value in
    c.raise.ensures.grew ∙ ap not (list_le-kept c.args.other.now c.args.self.now c.as_slice.result.now c.as_mut_slice.result.now theirs mine (sym c.requires))
