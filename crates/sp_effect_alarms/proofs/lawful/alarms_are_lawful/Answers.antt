use Rattle.sp_effect_alarms.proofs.AgreeLaws.{alarms-agree, access-agrees}
use Rattle.sp_effect_alarms.proofs.NodeLaws.{node-agrees}
use Rattle.sp_effect_alarms.proofs.ProperCommands.{command-proper}
use Rattle.sp_effect_alarms.proofs.lawful.alarms_are_lawful.Goals as goal

pub returns : goal.returns
returns c = record {
  laws = record {
    expression_agrees = alarms-agree;
    access_agrees = access-agrees;
    node_agrees = node-agrees;
    proper = λ p formed n f c h. command-proper p formed f n c h;
  };
}
