use Rattle.std.proofs.Common.{◌≡◌, arith, ℕ, length, true, subst, ap}
use Rattle.sp_ir.specs.Programs.{lowered_of}
use Rattle.sp_base_sets.specs.Reached.{row}
use Rattle.sp_points_expr.specs.Tables.{Table, Limited}
use Rattle.sp_points_expr.specs.Growing.{Registers, Grows, in_puts}
use Rattle.sp_points_expr.proofs.Serving.{served}
use Rattle.sp_points_rules.specs.Puts.{rules_of}
use Rattle.sp_points_rules.proofs.Putting.{program_rules}
use Rattle.sp_pre.proofs.solve.serve.Goals as goal

pub returns-clause-working : goal.returns-clause-working
returns-clause-working c =
    let p = lowered_of c.args.lowered.now in
    let s = c.args.growing.now in
    let gathered = c.in_ok-gathered.gathered in
    let puts = gathered.puts.items in
    let registers = subst (λ xs. Registers xs c.args.node s c.register.new.growing) c.as_slice.ensures.numbers c.in_ok-register.ensures.readers in
    let grows = subst (λ ps. Grows (λ k r. in_puts ps k r ≡ true) c.register.new.growing c.put_each.new.growing) c.deref-2.ensures.value c.in_ok-put_each.ensures in
    let sound = subst (λ rows. (k r : ℕ) → in_puts puts k r ≡ true → rules_of p (row rows) c.args.node k r) c.deref.ensures.value c.in_ok-gathered.ensures.sound in
    let whole = subst (λ rows. (u : Table) → Limited rows gathered.seen u → (k r : ℕ) → rules_of p u c.args.node k r → in_puts puts k r ≡ true) c.deref.ensures.value c.in_ok-gathered.ensures.whole in
    served (rules_of p) (length p.regions) (length p.nodes) (program_rules p c.requires.formed) s c.register.new.growing c.put_each.new.growing c.args.node gathered.seen puts c.requires.working c.requires.node registers c.register.ensures.rows c.register.ensures.queue grows sound whole

pub put_each-requires-clause-there : goal.put_each-requires-clause-there
put_each-requires-clause-there c k r h =
    let p = lowered_of c.args.lowered.now in
    let s = c.args.growing.now in
    let puts = c.in_ok-gathered.gathered.puts.items in
    let sound = subst (λ rows. (k r : ℕ) → in_puts puts k r ≡ true → rules_of p (row rows) c.args.node k r) c.deref.ensures.value c.in_ok-gathered.ensures.sound in
    let put = subst (λ ps. in_puts ps k r ≡ true) c.deref-2.ensures.value h in
    let low = (program_rules p c.requires.formed).low (row s.rows.items) c.args.node k r c.requires.working.low (sound k r put) in
    omega (arith, low.0, c.requires.working.rows, ap (λ v. length v.items) c.register.ensures.rows)
