use Rattle.sp_check_initialiser_laws.proofs.Alone.{static_alone}
use Rattle.sp_check_initialiser_laws.proofs.Constants.{static_constant}
use Rattle.sp_check_unit_laws.proofs.Units.{units_typed}
use Rattle.sp_check_unit_laws.proofs.laws.units_are_typed.Goals as goal

pub returns : goal.returns
returns c = record {
  typed = units_typed;
  statics = λ own env e h w. (static_constant env.tables.objects e h, static_alone own env e h w);
}
