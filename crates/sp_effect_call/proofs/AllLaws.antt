-- The laws of copies, calls, returns and of what comes from outside together.
use Rattle.sp_effect_call.specs.Laws.{CallLaws}
use Rattle.sp_effect_call.proofs.CopyLaws.{copy-lawful}
use Rattle.sp_effect_call.proofs.OutsideLaws.{outside-lawful, outside-plain}
use Rattle.sp_effect_call.proofs.ReturnLaws.{return-lawful, return-plain}
use Rattle.sp_effect_call.proofs.PassedLaws.{call-lawful}

pub call_laws : CallLaws
call_laws = record {
  copied = copy-lawful;
  came = outside-lawful;
  returned = return-lawful;
  called = call-lawful;
  came_plain = outside-plain;
  returned_plain = return-plain;
}
