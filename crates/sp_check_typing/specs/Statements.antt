-- Which typed statements are well typed (C90 6.6).
use Rattle.std.specs.Prelude.{◌≡◌, ℕ, ◌≤◌, Bool, true, false, List, [], ◌∷◌, ◌++◌, Option, Some, None, slice_get, ⊤}
use Rattle.sp_types.specs.declared.ctype.IntKind.{IntKind}
use Rattle.sp_types.specs.declared.program.Storage.{Storage}
use Rattle.sp_types.specs.declared.program.Storage.TheVariants.{Static, Outside, Text, Auto, Formal}
use Rattle.sp_types.specs.Types.{CType, integer}
use Rattle.sp_types.specs.Typed.{Typed, of}
use Rattle.sp_types.specs.Statements.{TypedStatement, typed_statement, TypedStatementForm, label, case_of, default_of, block, empty, single, if_else, switch_on, while_loop, do_loop, for_loop, goto_name, continue_loop, break_out, return_value, MaybeTypedStatement, no_statement, some_statement, TypedStatements, no_statements, next_statement}
use Rattle.sp_types.specs.Programs.{Object}
use Rattle.sp_ir.specs.Formed.{InKind, is_scalar}
use Rattle.sp_ir.specs.Terrain.{size_of}
use Rattle.sp_check_typing.specs.Sorts.{same_value, IsStored}
use Rattle.sp_check_typing.specs.Trees.{Scene, IsTyped}
use Rattle.sp_check_typing.specs.Starts.{IsStarted}

-- ---- labels (C90 6.6.1)

abbrev mutual
  pub labels_in : TypedStatement → List ℕ
  labels_in (typed_statement f place end) = form_labels f

  pub form_labels : TypedStatementForm → List ℕ
  form_labels (label n s) = n ∷ labels_in s
  form_labels (case_of z s) = labels_in s
  form_labels (default_of s) = labels_in s
  form_labels (block ns ss) = all_labels ss
  form_labels empty = []
  form_labels (single e) = []
  form_labels (if_else e s other) = labels_in s ++ other_labels other
  form_labels (switch_on e s) = labels_in s
  form_labels (while_loop e s) = labels_in s
  form_labels (do_loop s e) = labels_in s
  form_labels (for_loop a e d s) = labels_in s
  form_labels (goto_name n) = []
  form_labels continue_loop = []
  form_labels break_out = []
  form_labels (return_value e) = []

  pub other_labels : MaybeTypedStatement → List ℕ
  other_labels no_statement = []
  other_labels (some_statement s) = labels_in s

  pub all_labels : TypedStatements → List ℕ
  all_labels no_statements = []
  all_labels (next_statement s ss) = labels_in s ++ all_labels ss

-- ---- what stands around a statement

-- what may be named, the labels of the function, and the type of its result
pub record Setting : Type 0 where
  pub scene : Scene
  pub labels : List ℕ
  pub result : CType

-- ---- parts

abbrev pub IsCondition : Scene → Typed → Type 0
IsCondition s e = IsTyped s e × (is_scalar (of e) ≡ true)

abbrev pub IsMaybeTyped : Scene → Option Typed → Type 0
IsMaybeTyped s None = ⊤
IsMaybeTyped s (Some e) = IsTyped s e

abbrev pub IsMaybeCondition : Scene → Option Typed → Type 0
IsMaybeCondition s None = ⊤
IsMaybeCondition s (Some e) = IsCondition s e

-- a value goes to the result as it stands (C90 6.6.6.4)
abbrev pub IsReturned : Setting → Option Typed → Type 0
IsReturned s None = ⊤
IsReturned s (Some e) = IsTyped s.scene e × IsStored s.scene.structs s.result × (same_value (of e) s.result ≡ true)

-- it lives as long as the program does (C90 6.1.2.4)
abbrev pub is_lasting : Storage → Bool
is_lasting Static = true
is_lasting Outside = true
is_lasting Text = true
is_lasting Auto = false
is_lasting Formal = false

-- an automatic object is initialised where its block is entered
abbrev pub IsEntered : Scene → Storage → CType → List (ℕ × Typed) → Type 0
IsEntered s Auto t es = IsStarted s t es
IsEntered s storage t es = ⊤

pub record IsDeclared (s : Scene) (n : ℕ) : Type 0 where
  pub object : Object
  pub there : slice_get s.objects n ≡ Some object
  pub visible : s.is_visible n ≡ true
  pub entered : IsEntered s object.storage object.of object.start
  -- what passes is complete (C90 6.5)
  pub sized : is_lasting object.storage ≡ false → 1 ≤ size_of s.structs object.of

-- the objects of a block
abbrev pub AreDeclared : Scene → List ℕ → Type 0
AreDeclared s [] = ⊤
AreDeclared s (n ∷ ns) = IsDeclared s n × AreDeclared s ns

-- ---- all forms

-- `k` is the kind of the innermost switch
abbrev mutual
  pub IsTypedStatement : Setting → Option IntKind → TypedStatement → Type 0
  IsTypedStatement s k (typed_statement f place end) = IsTypedForm s k f

  pub IsTypedForm : Setting → Option IntKind → TypedStatementForm → Type 0
  IsTypedForm s k (label n t) = IsTypedStatement s k t
  IsTypedForm s k (case_of z t) = ((j : IntKind) × (k ≡ Some j) × InKind j z) × IsTypedStatement s k t
  IsTypedForm s k (default_of t) = ((j : IntKind) × (k ≡ Some j)) × IsTypedStatement s k t
  IsTypedForm s k (block ns ts) = AreDeclared s.scene ns × AreTypedStatements s k ts
  IsTypedForm s k empty = ⊤
  IsTypedForm s k (single e) = IsTyped s.scene e
  IsTypedForm s k (if_else e t other) =
      IsCondition s.scene e × IsTypedStatement s k t × IsMaybeTypedStatement s k other
  IsTypedForm s k (switch_on e t) = IsTyped s.scene e × ((j : IntKind) × (of e ≡ integer j) × IsTypedStatement s (Some j) t)
  IsTypedForm s k (while_loop e t) = IsCondition s.scene e × IsTypedStatement s k t
  IsTypedForm s k (do_loop t e) = IsTypedStatement s k t × IsCondition s.scene e
  IsTypedForm s k (for_loop a e d t) = IsMaybeTyped s.scene a × IsMaybeCondition s.scene e
      × IsMaybeTyped s.scene d × IsTypedStatement s k t
  IsTypedForm s k (goto_name n) = (i : ℕ) × (slice_get s.labels i ≡ Some n)
  IsTypedForm s k continue_loop = ⊤
  IsTypedForm s k break_out = ⊤
  IsTypedForm s k (return_value e) = IsReturned s e

  pub IsMaybeTypedStatement : Setting → Option IntKind → MaybeTypedStatement → Type 0
  IsMaybeTypedStatement s k no_statement = ⊤
  IsMaybeTypedStatement s k (some_statement t) = IsTypedStatement s k t

  pub AreTypedStatements : Setting → Option IntKind → TypedStatements → Type 0
  AreTypedStatements s k no_statements = ⊤
  AreTypedStatements s k (next_statement t ts) = IsTypedStatement s k t × AreTypedStatements s k ts

-- a body with its own labels
abbrev pub IsTypedBody : Scene → CType → Option TypedStatement → Type 0
IsTypedBody s result None = ⊤
IsTypedBody s result (Some body) = IsTypedStatement (record { scene = s; labels = labels_in body; result = result }) None body
