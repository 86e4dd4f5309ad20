use Rattle.sp_effect_scene.proofs.AllLaws.{scene_laws}
use Rattle.sp_effect_scene.proofs.laws.scenes_are_lawful.Goals as goal

pub returns : goal.returns
returns c = record { laws = scene_laws }
