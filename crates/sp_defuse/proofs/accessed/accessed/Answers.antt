use Rattle.std.proofs.Common.{◌≡◌, ◌∙◌, ◌↔◌, ℕ, List, true, length, sym, ap, subst, arith}
use Rattle.sp_base_sets.specs.Sets.{has}
use Rattle.sp_base_sets.specs.Reached.{row, Reached}
use Rattle.sp_effect_scene.specs.View.{analysed_of}
use Rattle.sp_defuse.specs.Accessed.{is_called}
use Rattle.sp_defuse.proofs.StandFors.{owners-low, accessed-are}
use Rattle.sp_defuse.proofs.Touching.{locations-few, touched-low, called-low}
use Rattle.sp_defuse.proofs.accessed.accessed.Goals as goal

pub stand_ins_of-requires : goal.stand_ins_of-requires
stand_ins_of-requires c =
    let few = locations-few (analysed_of c.args.analysis.now) c.args.analysis.now.whole in
    omega (arith, few, c.in_ok-owners.ensures.long)

pub spread_all-requires-clause-few : goal.spread_all-requires-clause-few
spread_all-requires-clause-few c =
    let few = locations-few (analysed_of c.args.analysis.now) c.args.analysis.now.whole in
    omega (arith, few, ap length c.deref-2.ensures.value, c.in_ok-stand_ins.ensures.long, c.in_ok-owners.ensures.long)

pub spread_all-requires-clause-owners : goal.spread_all-requires-clause-owners
spread_all-requires-clause-owners c = λ l f h.
    let a = analysed_of c.args.analysis.now in
    let bound = length (a.program.functions) in
    let low = owners-low c.in_ok-callers.callers.items c.in_ok-owners.owners.items c.stand_ins_of.new.owners.items c.in_ok-stand_ins.stand_ins.items c.in_ok-stand_ins.ensures bound
    (λ k g there. touched-low a c.args.analysis.now.flow.nodes c.args.analysis.now.whole c.args.sharp k g (sym (c.in_ok-owners.ensures.touched k g) ∙ there))
    l f (sym (ap (λ (sets : List (List ℕ)). has f (row sets l)) c.deref-2.ensures.value) ∙ h) in
    omega (arith, low, ap length c.deref.ensures.value, c.in_ok-callers.ensures.long)

pub spread_all-requires-clause-callers : goal.spread_all-requires-clause-callers
spread_all-requires-clause-callers c = λ g f h.
    let a = analysed_of c.args.analysis.now in
    let low = called-low a c.nodes.result.now c.args.analysis.now.whole g f (sym (c.in_ok-callers.ensures.called g f) ∙ sym (ap (λ (sets : List (List ℕ)). has f (row sets g)) c.deref.ensures.value) ∙ h) in
    omega (arith, low, ap length c.deref.ensures.value, c.in_ok-callers.ensures.long)

pub returns : goal.returns
returns c =
    let a = analysed_of c.args.analysis.now in
    let sets = c.in_ok-sets.sets.items in
    record {
      callers = c.in_ok-callers.callers.items;
      owners = c.in_ok-owners.owners.items;
      called = λ g f. c.in_ok-callers.ensures.called g f ∙ ap (λ (ns : List ℕ). is_called a ns g f) c.nodes.ensures;
      touched = c.in_ok-owners.ensures.touched;
      found = accessed-are c.in_ok-callers.callers.items c.in_ok-owners.owners.items c.stand_ins_of.new.owners.items c.in_ok-stand_ins.stand_ins.items c.in_ok-stand_ins.ensures
          sets c.new.result c.new.ensures.stand_ins c.new.ensures.sets
          (subst (λ (xs : List (List ℕ)). (f l : ℕ) → (has l (row sets f) ≡ true) ↔ Reached xs (row c.stand_ins_of.new.owners.items l) f) c.deref.ensures.value
          (subst (λ (xs : List (List ℕ)). (f l : ℕ) → (has l (row sets f) ≡ true) ↔ Reached c.deref.result.now (row xs l) f) c.deref-2.ensures.value c.in_ok-sets.ensures));
    }
