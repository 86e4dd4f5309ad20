-- Scopes (C90 6.1.2.1), and in each the two spaces of names and of tags (6.1.2.3).
use Rattle.std.specs.Prelude.{ℕ, Bool, true, false, List, [], ◌∷◌, Option, Some, None, nat_eq, if◌then◌else◌}
use Rattle.std.specs.Map.{lookup}
use Rattle.indexmap.specs.IndexMap.{insert_entry}
use Rattle.sp_check_scopes.specs.declared.meaning.Tag.{Tag}
use Rattle.sp_check_scopes.specs.declared.scope.ScopeKind.{ScopeKind}
use Rattle.sp_check_scopes.specs.declared.scope.ScopeKind.TheVariants.{Block, Parameters}
use Rattle.sp_check_scopes.specs.Meanings.{Meaning}

-- what one block declares, the file, or a list of parameters, in the order of the text
pub record Scope : Type 0 where
  pub kind : ScopeKind
  pub names : List (ℕ × Meaning)
  pub tags : List (ℕ × Tag)

-- the innermost scope, and those around it, the next one first
pub record Scopes : Type 0 where
  pub inner : Scope
  pub around : List Scope

abbrev pub empty_scope : ScopeKind → Scope
empty_scope k = record { kind = k; names = []; tags = [] }

-- before the first declaration
abbrev pub file_scope : Scopes
file_scope = record { inner = empty_scope Block; around = [] }

abbrev pub is_empty : List Scope → Bool
is_empty [] = true
is_empty (s ∷ ss) = false

abbrev pub is_file_scope : Scopes → Bool
is_file_scope s = is_empty s.around

-- ---- what is visible

-- what a space has for a name
abbrev pub entry : {A : Type 0} → List (ℕ × A) → ℕ → Option A
entry es n = lookup (nat_eq n) es

abbrev pub or_else : {A : Type 0} → Option A → Option A → Option A
or_else (Some x) other = Some x
or_else None other = other

-- the innermost of these scopes that has the name tells its meaning
abbrev pub meaning_in : List Scope → ℕ → Option Meaning
meaning_in [] n = None
meaning_in (s ∷ ss) n = or_else (entry s.names n) (meaning_in ss n)

abbrev pub tag_in : List Scope → ℕ → Option Tag
tag_in [] n = None
tag_in (s ∷ ss) n = or_else (entry s.tags n) (tag_in ss n)

abbrev pub visible_meaning : Scopes → ℕ → Option Meaning
visible_meaning s n = meaning_in (s.inner ∷ s.around) n

abbrev pub visible_tag : Scopes → ℕ → Option Tag
visible_tag s n = tag_in (s.inner ∷ s.around) n

-- ---- what declarations and blocks do

-- a new name goes last; one that is there takes the meaning
abbrev pub name_added : Scope → ℕ → Meaning → Scope
name_added s n m = record s { names = insert_entry nat_eq s.names n m }

abbrev pub tag_added : Scope → ℕ → Tag → Scope
tag_added s n t = record s { tags = insert_entry nat_eq s.tags n t }

abbrev pub with_name : Scopes → ℕ → Meaning → Scopes
with_name s n m = record s { inner = name_added s.inner n m }

abbrev pub with_tag : Scopes → ℕ → Tag → Scopes
with_tag s n t = record s { inner = tag_added s.inner n t }

abbrev pub entered : ScopeKind → Scopes → Scopes
entered k s = record { inner = empty_scope k; around = s.inner ∷ s.around }

-- the scope of the file is never left
abbrev pub left_to : Scopes → List Scope → Scopes
left_to s [] = s
left_to s (t ∷ ts) = record { inner = t; around = ts }

abbrev pub left : Scopes → Scopes
left s = left_to s s.around

-- the scopes without the innermost one; in the place of the file's comes an empty one
abbrev pub set_aside : Scopes → Scopes
set_aside s = left_to file_scope s.around

-- a scope that was set aside is inside the others again, and from here on a block's
abbrev pub resumed : Scope → Scopes → Scopes
resumed t s = record { inner = record t { kind = Block }; around = s.inner ∷ s.around }

-- ---- the innermost block, or the file where there is none (6.1.2.1, 6.3.2.2): a list of parameters is no block

abbrev pub is_block : ScopeKind → Bool
is_block Block = true
is_block Parameters = false

abbrev pub block_meaning : List Scope → ℕ → Option Meaning
block_meaning [] n = None
block_meaning (s ∷ ss) n = if is_block s.kind then entry s.names n else block_meaning ss n

abbrev pub named_in_block : List Scope → ℕ → Meaning → List Scope
named_in_block [] n m = []
named_in_block (s ∷ ss) n m = if is_block s.kind then name_added s n m ∷ ss else s ∷ named_in_block ss n m

-- what it has for a name
abbrev pub meaning_in_block : Scopes → ℕ → Option Meaning
meaning_in_block s n = block_meaning (s.inner ∷ s.around) n

-- it gives a name its meaning
abbrev pub with_block_name : Scopes → ℕ → Meaning → Scopes
with_block_name s n m = if is_block s.inner.kind then with_name s n m else record s { around = named_in_block s.around n m }
