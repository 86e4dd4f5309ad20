-- The laws of effects together.
use Rattle.sp_transfer.specs.Laws.{TransferLaws}
use Rattle.sp_transfer.proofs.EffectLaws.{effect-lawful}
use Rattle.sp_transfer.proofs.AlarmLaws.{alarms-agree}
use Rattle.sp_transfer.proofs.SystemLaws.{equations-system}

pub transfer_laws : TransferLaws
transfer_laws = record {
  effects = effect-lawful;
  alarms = alarms-agree;
  systems = equations-system;
}
