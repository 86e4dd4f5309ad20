use Rattle.std.proofs.Common.{bytes_eq, string_bytes, sym, ap, ◌∙◌, rules, tests}
use Rattle.std.proofs.lemmas.Iterator.{YieldsList-from_slice}
use Rattle.std.proofs.lemmas.Iterator.Search.{find_from_yields_List}
use Rattle.sp_outside.specs.Told.{held}
use Rattle.sp_outside.specs.Memory.{told_by}
use Rattle.sp_outside.proofs.memory.find_text.Goals as goal

pub returns-in_err-entry : goal.returns-in_err-entry
returns-in_err-entry c =
    let found = find_from_yields_List (λ entry. bytes_eq (string_bytes entry.0) c.args.name.now) _ _ c.find.result c.find.ensures.ran (YieldsList-from_slice c.args.texts.now cc) (λ x b q k. search (rules, tests)) in
    rw c.from_residual.ensures (sym (rw c.in_err-entry.was at (ap told_by found)))

pub returns : goal.returns
returns c =
    let found = find_from_yields_List (λ entry. bytes_eq (string_bytes entry.0) c.args.name.now) _ _ c.find.result c.find.ensures.ran (YieldsList-from_slice c.args.texts.now cc) (λ x b q k. search (rules, tests)) in
    sym (rw c.in_ok-entry.was at (ap told_by found)) ∙ ap held (sym c.as_slice.ensures.value)
