use Rattle.std.proofs.Common.{◌≡◌, ℕ, ℤ, List, sym, ap, ◌∙◌, subst, arith}
use Rattle.sp_octagon.specs.declared.octagon.Octagon.{Octagon}
use Rattle.sp_octagon.specs.Octagons.{rows, entries}
use Rattle.sp_octagon.specs.Kept.{half_to, half_of, whole, IsKept}
use Rattle.sp_octagon.proofs.Halves.{rows_none, rows_more, half-kept, whole-half}
use Rattle.sp_octagon.proofs.kept.Kept.new.Goals as goal

pub rows-init : goal.rows-init
rows-init c = c.in_ok-bounds.ensures.items ∙ rows_none (entries c.args.octagon.now)

pub rows-preserved : goal.rows-preserved
rows-preserved c =
    rows_more c.rows.row (entries c.args.octagon.now) c.rows.bounds.items c.push_row.new.bounds.items c.rows.invariant c.in_ok-push_row.ensures

-- the rows of an octagon are all of it
all : (o : Octagon) (row : ℕ) (items : List ℤ) → row ≡ rows o → items ≡ half_to row (entries o) → items ≡ half_of o
all o row items end is = is ∙ ap (λ n. half_to n (entries o)) end

pub invariant_of-result : goal.invariant_of-result
invariant_of-result c =
    let o = c.args.octagon.now in
    let end : c.rows.row ≡ rows o = omega (arith, c.size-members.ensures, c.rows-test.false, c.rows.auto.row-end) in
    let items = all o c.rows.row c.rows.bounds.items end c.rows.invariant in
    subst (λ (n : ℕ). IsKept n c.rows.bounds.items) (sym c.size.ensures) (subst (IsKept o.size) (sym items) (half-kept o))

pub returns : goal.returns
returns c =
    let o = c.args.octagon.now in
    let end : c.rows.row ≡ rows o = omega (arith, c.size-members.ensures, c.rows-test.false, c.rows.auto.row-end) in
    let items = all o c.rows.row c.rows.bounds.items end c.rows.invariant in
    ap (λ n. whole n c.rows.bounds.items) c.size.ensures ∙ ap (whole o.size) items ∙ whole-half o
