-- The equations of a program, as the layers above name them.
use Rattle.sp_effect_scene.specs.View.{analysed_of}
use Rattle.sp_transfer.specs.Equations.{Equations}
use Rattle.sp_defuse.specs.View.{equations_of}
use Rattle.sp_defuse.specs.declared.programs.CProgram.{CProgram}

abbrev pub equations_in : CProgram → Equations
equations_in s = equations_of (analysed_of s.analysis) s.sharp s.flow s.nodes.items s.sources.items
