use Rattle.std.proofs.Common.{◌≡◌, ◌∙◌, refl, sym, ap, subst}
use Rattle.sp_types.specs.View.{type_of}
use Rattle.sp_ir.specs.Commands.{address, decay, read, convert, move, through, field}
use Rattle.sp_ir.specs.Programs.{lowered_of}
use Rattle.sp_ir.specs.View.{expression_of, lvalue_of}
use Rattle.sp_ir.specs.Terrain.{terrain_of}
use Rattle.sp_ir.specs.declared.expr.Expr.TheFolds.{fold-roll-Expr, fold-roll-Lvalue}
use Rattle.sp_ir.specs.declared.expr.Expr.{Address, Decay, Read, Convert, Move}
use Rattle.sp_ir.specs.declared.expr.Expr.TheVariants.{rolls-Address, rolls-Decay, rolls-Read, rolls-Convert, rolls-Move}
use Rattle.sp_ir.specs.declared.expr.Lvalue.{Through, Field}
use Rattle.sp_ir.specs.declared.expr.Lvalue.TheVariants.{rolls-Through, rolls-Field}
use Rattle.sp_base_sets.specs.Sets.{has}
use Rattle.sp_points_expr.specs.Given.{Gives, Denotes, Stores, is_matched}
use Rattle.sp_points_expr.proofs.Held.{and-both}
use Rattle.sp_points_expr.proofs.given.+given.Goals as goal

pub designates-returns-in_ok-found-in-Through-clause-whole : goal.designates-returns-in_ok-found-in-Through-clause-whole
designates-returns-in_ok-found-in-Through-clause-whole t c u limited r h =
    let g = terrain_of (lowered_of c.args.lowered.now) in
    let makes : lvalue_of (Through c.in-Through.pointer c.in-Through.field-1 c.in-Through.field-2) ≡ through (expression_of c.in-Through.pointer.value) (type_of c.in-Through.field-1) c.in-Through.field-2 = rw (sym (rolls-Through c.in-Through.pointer c.in-Through.field-1 c.in-Through.field-2)) (rw fold-roll-Lvalue refl) in
    let one = subst (λ x. Denotes g u x r) (ap lvalue_of c.in-Through.is ∙ makes) h in
    c.in_ok-found-in-Through.ensures.whole u limited r (subst (λ x. Gives g u (expression_of x) r) (sym c.deref.ensures) one)

pub designates-returns-in_ok-found-in-Field-clause-whole : goal.designates-returns-in_ok-found-in-Field-clause-whole
designates-returns-in_ok-found-in-Field-clause-whole t c u limited r h =
    let g = terrain_of (lowered_of c.args.lowered.now) in
    let makes : lvalue_of (Field c.in-Field.base c.in-Field.member c.in-Field.field-2) ≡ field (lvalue_of c.in-Field.base.value) c.in-Field.member (type_of c.in-Field.field-2) = rw (sym (rolls-Field c.in-Field.base c.in-Field.member c.in-Field.field-2)) (rw fold-roll-Lvalue refl) in
    let one = subst (λ x. Denotes g u x r) (ap lvalue_of c.in-Field.is ∙ makes) h in
    let stored = subst (λ x. Stores g u (lvalue_of x) one.0) (sym c.deref-in-Field.ensures) (one.1, one.2) in
    c.in_ok-found-in-Field.ensures.all one.0 r (c.in_ok-regions-in-Field.ensures.whole u limited one.0 stored) one.3

pub gives-returns-in_ok-found-in-Address-clause-whole : goal.gives-returns-in_ok-found-in-Address-clause-whole
gives-returns-in_ok-found-in-Address-clause-whole t c u limited r h =
    let g = terrain_of (lowered_of c.args.lowered.now) in
    let makes : expression_of (Address c.in-Address.lvalue) ≡ address (lvalue_of c.in-Address.lvalue) = rw (sym (rolls-Address c.in-Address.lvalue)) (rw fold-roll-Expr refl) in
    let one = subst (λ x. Gives g u x r) (ap expression_of c.in-Address.is ∙ makes) h in
    c.in_ok-found-in-Address.ensures.whole u limited r one

pub gives-returns-in_ok-found-in-Decay-clause-whole : goal.gives-returns-in_ok-found-in-Decay-clause-whole
gives-returns-in_ok-found-in-Decay-clause-whole t c u limited r h =
    let g = terrain_of (lowered_of c.args.lowered.now) in
    let makes : expression_of (Decay c.in-Decay.lvalue) ≡ decay (lvalue_of c.in-Decay.lvalue) = rw (sym (rolls-Decay c.in-Decay.lvalue)) (rw fold-roll-Expr refl) in
    let one = subst (λ x. Gives g u x r) (ap expression_of c.in-Decay.is ∙ makes) h in
    c.in_ok-found-in-Decay.ensures.all one.0 r (c.in_ok-arrays-in-Decay.ensures.whole u limited one.0 (one.1, one.2)) one.3

pub gives-returns-in_ok-found-in-Read-clause-whole : goal.gives-returns-in_ok-found-in-Read-clause-whole
gives-returns-in_ok-found-in-Read-clause-whole t c u limited r h =
    let g = terrain_of (lowered_of c.args.lowered.now) in
    let makes : expression_of (Read c.in-Read.lvalue) ≡ read (lvalue_of c.in-Read.lvalue) = rw (sym (rolls-Read c.in-Read.lvalue)) (rw fold-roll-Expr refl) in
    let one = subst (λ x. Gives g u x r) (ap expression_of c.in-Read.is ∙ makes) h in
    let there = c.in_ok-cells-in-Read.ensures.whole u (λ k q m n. limited k q (c.in_ok-found-in-Read.ensures.seen k m) n) one.0 (one.1, one.2) in
    c.in_ok-found-in-Read.ensures.contents.all one.0 r there (limited one.0 r (c.in_ok-found-in-Read.ensures.saw one.0 there) one.3)

pub gives-returns-in_ok-found-in-Convert-clause-whole : goal.gives-returns-in_ok-found-in-Convert-clause-whole
gives-returns-in_ok-found-in-Convert-clause-whole t c u limited r h =
    let g = terrain_of (lowered_of c.args.lowered.now) in
    let makes : expression_of (Convert c.in-Convert.of c.in-Convert.value) ≡ convert (type_of c.in-Convert.of) (expression_of c.in-Convert.value.value) = rw (sym (rolls-Convert c.in-Convert.of c.in-Convert.value)) (rw fold-roll-Expr refl) in
    let one = subst (λ x. Gives g u x r) (ap expression_of c.in-Convert.is ∙ makes) h in
    c.in_ok-found-in-Convert.ensures.whole u limited r (subst (λ x. Gives g u (expression_of x) r) (sym c.deref.ensures) one.1)

pub gives-returns-in_ok-found-in-Move-clause-whole : goal.gives-returns-in_ok-found-in-Move-clause-whole
gives-returns-in_ok-found-in-Move-clause-whole t c u limited r h =
    let g = terrain_of (lowered_of c.args.lowered.now) in
    let makes : expression_of (Move c.in-Move.pointer c.in-Move.by c.in-Move.back c.in-Move.size) ≡ move (expression_of c.in-Move.pointer.value) (expression_of c.in-Move.by.value) c.in-Move.back c.in-Move.size = rw (sym (rolls-Move c.in-Move.pointer c.in-Move.by c.in-Move.back c.in-Move.size)) (rw fold-roll-Expr refl) in
    let one = subst (λ x. Gives g u x r) (ap expression_of c.in-Move.is ∙ makes) h in
    c.in_ok-found-in-Move.ensures.whole u limited r (subst (λ x. Gives g u (expression_of x) r) (sym c.deref-in-Move.ensures) one)

pub stores-returns-clause-whole : goal.stores-returns-clause-whole
stores-returns-clause-whole t c u limited r h =
    let g = terrain_of (lowered_of c.args.lowered.now) in
    let there = c.in_ok-regions.ensures.whole u limited r h.0 in
    c.in_ok-found.ensures r ∙ and-both (has r c.in_ok-regions.regions) (is_matched g (lvalue_of c.args.lvalue.now) r) there h.1
