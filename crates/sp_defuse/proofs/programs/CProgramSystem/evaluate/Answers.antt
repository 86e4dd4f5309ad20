use Rattle.std.proofs.Common.{ℕ, List, length, sym, ap, ◌∙◌, subst, arith}
use Rattle.std.specs.List.Sorted.{IsStrictlyIncreasing}
use Rattle.sp_lattice.specs.System.{values_at}
use Rattle.sp_base_sets.specs.Reached.{row}
use Rattle.sp_effect_rows.specs.Updates.{store_of}
use Rattle.sp_effect_scene.specs.View.{analysed_of}
use Rattle.sp_transfer.specs.Effects.{defined_at, effect_at}
use Rattle.sp_transfer.specs.Equations.{AreLocations, number_of}
use Rattle.sp_defuse.specs.Program.{equations_in}
use Rattle.sp_defuse.proofs.EquationLaws.{number-kept, defs-kept, uses-kept, defs-rise, defs-low, defs-are, uses-rise, cuts-known}
use Rattle.sp_defuse.proofs.programs.CProgramSystem.evaluate.Goals as goal

pub new-view-requires-clause-rises : goal.new-view-requires-clause-rises
new-view-requires-clause-rises g c =
    let s = c.args.self.now in
    subst IsStrictlyIncreasing (sym c.as_slice.ensures.value)
    (uses-rise (analysed_of s.analysis) s.sharp s.flow s.nodes.items s.sources.items c.args.node c.requires.node s.numbers c.index-at.result.now c.index-at.ensures s.equations)

pub effect-requires-clause-places : goal.effect-requires-clause-places
effect-requires-clause-places g c =
    let s = c.args.self.now in
    let a = analysed_of s.analysis in
    let x = c.index-at.result.now in
    subst (AreLocations a (defined_at a s.sharp x.number)) (sym c.as_slice-2.ensures.value) (record {
      ascend = defs-rise a s.sharp s.flow s.nodes.items s.sources.items c.args.node c.requires.node s.numbers x c.index-at.ensures s.equations;
      below = defs-low a s.sharp s.flow s.nodes.items s.sources.items c.args.node c.requires.node s.numbers x c.index-at.ensures s.equations;
      are = defs-are a s.sharp s.flow s.nodes.items s.sources.items c.args.node c.requires.node s.numbers x c.index-at.ensures s.equations;
    })

pub effect-requires-clause-cuts : goal.effect-requires-clause-cuts
effect-requires-clause-cuts g c =
    let s = c.args.self.now in
    cuts-known (analysed_of s.analysis) s.sharp s.analysis.flow.nodes s.nodes.items c.args.node c.index-at.result.now (omega (arith, c.requires.node, ap length s.same)) c.index-at.ensures s.made

pub returns-clause-values : goal.returns-clause-values
returns-clause-values g c =
    let s = c.args.self.now in
    let a = analysed_of s.analysis in
    let e = equations_in s in
    let k = c.args.node in
    let x = c.index-at.result.now in
    let defs = c.as_slice-2.ensures.value ∙ sym (defs-kept a s.sharp s.flow s.nodes.items s.sources.items k c.requires.node s.numbers x c.index-at.ensures) in
    let uses = c.new-view.ensures.places ∙ c.as_slice.ensures.value ∙ sym (uses-kept a s.sharp s.flow s.nodes.items s.sources.items k c.requires.node s.numbers x c.index-at.ensures) in
    let number = sym (number-kept a s.sharp s.flow s.nodes.items s.sources.items k c.requires.node s.numbers x c.index-at.ensures) in
    c.in_ok-effect.ensures.filled
    ∙ ap (λ (us : List ℕ). values_at (effect_at a s.sharp x.number (λ (l : ℕ). store_of us c.new-view.result.slots.now l)) c.as_slice-2.result.now) uses
    ∙ ap (λ ss. values_at (effect_at a s.sharp x.number (λ (l : ℕ). store_of (row e.uses k) ss l)) c.as_slice-2.result.now) c.new-view.ensures.slots
    ∙ ap (λ (n : ℕ). values_at (effect_at a s.sharp n (λ (l : ℕ). store_of (row e.uses k) c.args.input.now l)) c.as_slice-2.result.now) number
    ∙ ap (λ (ds : List ℕ). values_at (effect_at a s.sharp (number_of e k) (λ (l : ℕ). store_of (row e.uses k) c.args.input.now l)) ds) defs
