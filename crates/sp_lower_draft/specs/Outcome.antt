-- How a call that lowers something ends, unless it wants memory.
use Rattle.std.specs.Prelude.{◌≡◌, Result, IfOk}
use Rattle.std.specs.declared.alloc.AllocError.{AllocError}
use Rattle.sp_lower_draft.specs.declared.draft.Ends.{Ends}
use Rattle.sp_lower_draft.specs.Draft.{Draft, Left, Branch}

-- the draft is this one
abbrev pub Leaves : {A : Type 0} → Result A AllocError → Draft → Draft → Type 0
Leaves result new expected = IfOk result (λ _. new ≡ expected)

-- and what is left is this
abbrev pub Gives : {A B : Type 0} → (A → B) → Result A AllocError → Draft → Left B → Type 0
Gives view result new expected =
    IfOk result (λ x. (new ≡ expected.after) × (view x ≡ expected.pure))

-- and the ends are these
abbrev pub GivesEnds : Result Ends AllocError → Draft → Branch → Type 0
GivesEnds result new expected = IfOk result (λ ends.
    (new ≡ expected.after) × (ends.yes.items ≡ expected.yes) × (ends.no.items ≡ expected.no))
