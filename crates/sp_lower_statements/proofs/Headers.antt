-- The header of a switch, made from the front.
use Rattle.std.proofs.Common.{ℕ, List, ◌++◌}
use Rattle.sp_lower_draft.specs.Draft.{Left, left}

-- these nodes before the others
abbrev pub with_nodes : List ℕ → Left (List ℕ) → Left (List ℕ)
with_nodes nodes others = left (nodes ++ others.pure) others.after
