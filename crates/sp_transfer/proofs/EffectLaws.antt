-- Each node's row is lawful, and so its effect keeps the laws.
use Rattle.std.proofs.Common.{◌≡◌, ◌<◌, ℕ, Bool, false, not, refl, subst, sym}
use Rattle.std.proofs.Props.{props}
use Rattle.std.proofs.Math.Logic.{∥∥₁_elim}
use Rattle.sp_tree.specs.declared.token.Punct.{Punct}
use Rattle.sp_ir.specs.Commands.{Expression, Command, start, entry, exit, skip, assign, copy, init, assume, eval, call, return, library, outside}
use Rattle.sp_points_rules.specs.Puts.{command_at}
use Rattle.sp_effect_rows.specs.Rows.{Store, applied}
use Rattle.sp_effect_rows.specs.Setting.{count}
use Rattle.sp_effect_rows.specs.Laws.{IsLawful, IsEffect, UnderCeiling}
use Rattle.sp_effect_rows.proofs.AllLaws.{row_laws}
use Rattle.sp_effect_assign.proofs.AssignLaws.{assign_laws}
use Rattle.sp_effect_assume.specs.Conditions.{assume_defines, assume_uses}
use Rattle.sp_effect_assume.proofs.ConditionLaws.{condition_laws}
use Rattle.sp_effect_checks.specs.Cuts.{cut_names, cut_by_all}
use Rattle.sp_effect_checks.proofs.AllLaws.{check_laws}
use Rattle.sp_effect_assign.specs.Scene.{known_in_regions}
use Rattle.sp_value.specs.Tests.{first}
use Rattle.sp_effect_scene.specs.Analysed.{Analysed, setting_of, scene_of}
use Rattle.sp_effect_scene.specs.Whole.{IsAnalysed}
use Rattle.sp_effect_scene.proofs.AllLaws.{scene_laws}
use Rattle.sp_effect_entry.proofs.AllLaws.{entry_laws}
use Rattle.sp_effect_call.proofs.AllLaws.{call_laws}
use Rattle.sp_effect_library.proofs.AllLaws.{library_laws}
use Rattle.sp_transfer.specs.Effects.{assuming_by, row_of, defined_by, used_by, accessed_by, written_by, cut_by, own_at, row_at, defined_at, used_at, effect_at}
use Rattle.sp_transfer.proofs.AccessedLaws.{accessed-proper, accessed-used}
use Rattle.sp_transfer.proofs.Nodes.{formed-proper}

module _ (a : Analysed) (whole : IsAnalysed a) (n : ℕ) where
  abbrev IsLawfulRow : Command → Type 0
  IsLawfulRow c = IsLawful (setting_of a) (defined_by a n c) (used_by a n c) (row_of a n c)

  assume-lawful : (e : Expression) (op : Punct) (f : Expression) → command_at a.program n ≡ assume e op f → IsLawfulRow (assume e op f)
  assume-lawful e op f is =
      let found = (scene_laws a whole).conditions n e op f is in
      subst (λ o. IsLawful (setting_of a) (assume_defines (scene_of a) e f) (assume_uses (scene_of a) e f) (assuming_by a o e f)) (sym found.is)
      (condition_laws.lawful (scene_of a) (scene_laws a whole).scene e found.relation f found.left_proper found.right_proper)

  row-lawful : (c : Command) → command_at a.program n ≡ c → IsLawfulRow c
  row-lawful start is = entry_laws.started a whole n is
  row-lawful (entry f) is = entry_laws.entered a whole f
  row-lawful (exit f) is = (row_laws (setting_of a) (scene_laws a whole).scene.setting).untouched_lawful (used_by a n (exit f))
  row-lawful skip is = (row_laws (setting_of a) (scene_laws a whole).scene.setting).untouched_lawful (used_by a n skip)
  row-lawful (assign to e) is =
      let found = (scene_laws a whole).assigns n to e is in
      assign_laws.lawful (scene_of a) (scene_laws a whole).scene to e found.lvalue found.value found.closed
  row-lawful (copy to from) is = call_laws.copied a whole n to from is
  row-lawful (init o values zeros) is = entry_laws.initialised a whole n o values zeros is
  row-lawful (assume e op f) is = assume-lawful e op f is
  row-lawful (eval e) is = (row_laws (setting_of a) (scene_laws a whole).scene.setting).untouched_lawful (used_by a n (eval e))
  row-lawful (call callee args) is = call_laws.called a whole n callee args is
  row-lawful (return c to) is = call_laws.returned a whole n c to is
  row-lawful (library which to args site) is = library_laws a whole n which to args site is
  row-lawful (outside to args site) is = call_laws.came a whole n to args site is

-- behind the row of a node its accesses cut what the node uses
checked-lawful : (a : Analysed) (whole : IsAnalysed a) (sharp : Bool) (n : ℕ) → IsLawful (setting_of a) (defined_at a sharp n) (used_at a n) (row_at a sharp n)
checked-lawful a whole sharp n =
    let c = command_at a.program n in
    let xs = accessed_by sharp c in
    check_laws.cutting_lawful (setting_of a) (scene_laws a whole).scene.setting (defined_by a n c) (used_by a n c) (cut_by a sharp n c) (row_of a n c) (λ s. cut_by_all (scene_of a) (known_in_regions (scene_of a) s) xs)
    (row-lawful a whole n c refl)
    (check_laws.cuts_lawful (scene_of a) (scene_laws a whole).scene xs (used_by a n c) (accessed-proper a sharp c (formed-proper a whole n c refl)) (λ l h. accessed-used a n l sharp c h))
    (λ l h. accessed-used a n l sharp c (check_laws.named_read (scene_of a) xs l (first (cut_names (scene_of a) xs l) (not (written_by a n c l)) h)))

-- what a node's command doesn't define it leaves as it was
own-frame : (a : Analysed) → IsAnalysed a → (n : ℕ) (s : Store) (l : ℕ) → l < count (setting_of a) → UnderCeiling (setting_of a) s → own_at a n l ≡ false → applied (row_of a n (command_at a.program n) s) s l ≡ s l
own-frame a whole n s l low below other =
    let c = command_at a.program n in
    ((row_laws (setting_of a) (scene_laws a whole).scene.setting).effects (defined_by a n c) (used_by a n c) (row_of a n c) (row-lawful a whole n c refl)).frame s l low below other

pub own-kept : (a : Analysed) → ∥ IsAnalysed a ∥₁ → (n : ℕ) (s : Store) (l : ℕ) → l < count (setting_of a) → UnderCeiling (setting_of a) s → own_at a n l ≡ false → applied (row_of a n (command_at a.program n) s) s l ≡ s l
own-kept a whole n s l low below other = ∥∥₁_elim whole (hlevel props) (λ w. own-frame a w n s l low below other)

pub effect-lawful : (a : Analysed) → IsAnalysed a → (sharp : Bool) (n : ℕ) → IsEffect (setting_of a) (defined_at a sharp n) (used_at a n) (effect_at a sharp n)
effect-lawful a whole sharp n =
    (row_laws (setting_of a) (scene_laws a whole).scene.setting).effects (defined_at a sharp n) (used_at a n) (row_at a sharp n) (checked-lawful a whole sharp n)
