use Rattle.std.proofs.Common.{◌≡◌, ℕ, map, sym, subst}
use Rattle.sp_ir.specs.View.{expression_of, leaf_of, command_of}
use Rattle.sp_effect_rows.specs.Rows.{applied}
use Rattle.sp_effect_rows.specs.Updates.{store_of}
use Rattle.sp_effect_scene.specs.View.{analysed_of}
use Rattle.sp_effect_entry.specs.Initials.{initialising}
use Rattle.sp_effect_call.specs.Passed.{calling}
use Rattle.sp_transfer.specs.Effects.{row_of}
use Rattle.sp_transfer.proofs.effects.change_by.Goals as goal

pub returns-in_ok-enter-in-Entry : goal.returns-in_ok-enter-in-Entry
returns-in_ok-enter-in-Entry g c = λ l h. subst (λ x. store_of c.args.places.now c.enter.new.row l ≡ applied (row_of (analysed_of c.args.analysis.now) c.args.node (command_of x) (λ (k : ℕ). g.V.View.store c.args.view.now k)) (λ (k : ℕ). store_of c.args.places.now c.args.row.now k) l) (sym c.in-Entry.is)
    (c.in_ok-enter-in-Entry.ensures (λ (k : ℕ). g.V.View.store c.args.view.now k) l h)

pub returns-in_ok-assign-in-Assign : goal.returns-in_ok-assign-in-Assign
returns-in_ok-assign-in-Assign g c = λ l h. subst (λ x. store_of c.args.places.now c.assign.new.row l ≡ applied (row_of (analysed_of c.args.analysis.now) c.args.node (command_of x) (λ (k : ℕ). g.V.View.store c.args.view.now k)) (λ (k : ℕ). store_of c.args.places.now c.args.row.now k) l) (sym c.in-Assign.is)
    (c.in_ok-assign-in-Assign.ensures l h)

pub returns-in_ok-copy-in-Copy : goal.returns-in_ok-copy-in-Copy
returns-in_ok-copy-in-Copy g c = λ l h. subst (λ x. store_of c.args.places.now c.copy.new.row l ≡ applied (row_of (analysed_of c.args.analysis.now) c.args.node (command_of x) (λ (k : ℕ). g.V.View.store c.args.view.now k)) (λ (k : ℕ). store_of c.args.places.now c.args.row.now k) l) (sym c.in-Copy.is)
    (c.in_ok-copy-in-Copy.ensures l h)

pub returns-in_ok-initialise-in-Init : goal.returns-in_ok-initialise-in-Init
returns-in_ok-initialise-in-Init g c = λ l h. subst (λ x. store_of c.args.places.now c.initialise.new.row l ≡ applied (row_of (analysed_of c.args.analysis.now) c.args.node (command_of x) (λ (k : ℕ). g.V.View.store c.args.view.now k)) (λ (k : ℕ). store_of c.args.places.now c.args.row.now k) l) (sym c.in-Init.is)
    (subst (λ vs. store_of c.args.places.now c.initialise.new.row l ≡ applied (initialising (analysed_of c.args.analysis.now) c.in-Init.object (map leaf_of vs) c.in-Init.zero.items (λ (k : ℕ). g.V.View.store c.args.view.now k)) (λ (k : ℕ). store_of c.args.places.now c.args.row.now k) l) c.deref.ensures.value
    (subst (λ zs. store_of c.args.places.now c.initialise.new.row l ≡ applied (initialising (analysed_of c.args.analysis.now) c.in-Init.object (map leaf_of c.deref.result.now) zs (λ (k : ℕ). g.V.View.store c.args.view.now k)) (λ (k : ℕ). store_of c.args.places.now c.args.row.now k) l) c.deref-in-Init.ensures.value
    (c.in_ok-initialise-in-Init.ensures l h)))

pub returns-in_ok-pass-in-Call : goal.returns-in_ok-pass-in-Call
returns-in_ok-pass-in-Call g c = λ l h. subst (λ x. store_of c.args.places.now c.pass.new.row l ≡ applied (row_of (analysed_of c.args.analysis.now) c.args.node (command_of x) (λ (k : ℕ). g.V.View.store c.args.view.now k)) (λ (k : ℕ). store_of c.args.places.now c.args.row.now k) l) (sym c.in-Call.is)
    (subst (λ es. store_of c.args.places.now c.pass.new.row l ≡ applied (calling (analysed_of c.args.analysis.now) c.args.node (map expression_of es) (λ (k : ℕ). g.V.View.store c.args.view.now k)) (λ (k : ℕ). store_of c.args.places.now c.args.row.now k) l) c.deref-in-Call.ensures.value
    (c.in_ok-pass-in-Call.ensures l h))
