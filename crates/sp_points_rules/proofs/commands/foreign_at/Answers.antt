use Rattle.std.proofs.Common.{◌≡◌, ◌<◌, ℕ, Some, map, length, get_or, sym, ap, subst, arith}
use Rattle.std.specs.Prelude.{slice_get}
use Rattle.std.proofs.lemmas.List.{length-map}
use Rattle.sp_ir.specs.Programs.{lowered_of, code_of}
use Rattle.sp_points_rules.specs.Gathered.{Adds}
use Rattle.sp_points_rules.specs.Foreign.{PutsForeignTo, PutsForeignAt}
use Rattle.sp_points_rules.proofs.Finding.{adds_nothing}
use Rattle.sp_points_rules.proofs.Cases.{mapped_at, foreign_at_adds, there_low}
use Rattle.sp_points_rules.proofs.commands.foreign_at.Goals as goal

pub returns-in_ok-foreign_each : goal.returns-in_ok-foreign_each
returns-in_ok-foreign_each c =
    let b = c.foreign_each.new.out in
    let main = subst (λ fs. slice_get (map code_of fs) c.args.facts.now.lowered.now.main ≡ Some (code_of c.in-Some.code.now)) c.deref.ensures.value (mapped_at code_of c.deref.result.now c.args.facts.now.lowered.now.main c.in-Some.code.now c.in-Some.ensures.lookup.3.0 c.in-Some.ensures.lookup.1) in
    let adds = subst (λ fs. Adds c.args.facts.now.rows.now (λ u x r. (k : ℕ) × (k < length fs) × PutsForeignTo (lowered_of c.args.facts.now.lowered.now) u c.args.number (get_or fs k 0) x r) c.args.out.now b) c.deref-in-Some.ensures.value c.in_ok-foreign_each.ensures in
    foreign_at_adds c.args.facts.now.rows.now c.args.out.now b (lowered_of c.args.facts.now.lowered.now) c.args.number c.args.kind (code_of c.in-Some.code.now) (sym c.if-is_foreign.ensures) main adds

pub returns-in_default : goal.returns-in_default
returns-in_default c =
    adds_nothing c.args.facts.now.rows.now (λ u x r. PutsForeignAt (lowered_of c.args.facts.now.lowered.now) u c.args.number c.args.kind x r) c.args.out.now
    (λ u x r h. let low = there_low (lowered_of c.args.facts.now.lowered.now).functions c.args.facts.now.lowered.now.main h.code h.main in let out = c.in_default.ensures.lookup.3 in omega (arith, low, out, length-map c.args.facts.now.lowered.now.functions.items code_of, ap length c.deref.ensures.value))
