use Rattle.std.proofs.Common.{◌∙◌, ◌||◌, ap}
use Rattle.sp_lattice.specs.System.{has}
use Rattle.sp_ir.specs.View.{command_of}
use Rattle.sp_effect_rows.specs.Setting.{cell_of}
use Rattle.sp_effect_scene.specs.Analysed.{setting_of}
use Rattle.sp_effect_scene.specs.View.{analysed_of}
use Rattle.sp_effect_uses.specs.Parts.{reads_of, joins_at}
use Rattle.sp_effect_uses.proofs.Listed.{used-made, used-low}
use Rattle.sp_effect_uses.proofs.lists.used_by.Goals as goal

pub returns : goal.returns
returns c = record {
  places = used-made (analysed_of c.args.analysis.now) c.args.node (command_of c.args.command.now) c.args.definitions.now c.in_ok-places.places c.add_kept.new.places c.requires
      (λ l.
      let cell = cell_of (setting_of (analysed_of c.args.analysis.now)) l in
      let read = has cell (reads_of (analysed_of c.args.analysis.now) c.args.node (command_of c.args.command.now)) in
      c.in_ok-places.ensures.places l
      ∙ c.in_ok-add_joined.ensures l
      ∙ ap (λ b. b || joins_at (analysed_of c.args.analysis.now) (command_of c.args.command.now) l) (c.in_ok-add_reads.ensures cell ∙ ap (λ ns. has cell ns || read) c.new-regions.ensures))
      c.in_ok-add_kept.ensures;
  low = used-low (analysed_of c.args.analysis.now) c.args.node (command_of c.args.command.now) c.args.definitions.now c.in_ok-places.places c.add_kept.new.places c.requires c.in_ok-places.ensures.low c.in_ok-add_kept.ensures;
}
