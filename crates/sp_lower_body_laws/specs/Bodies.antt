-- When all of a body is formed, and how a body goes on.
use Rattle.std.specs.Prelude.{◌≡◌, ℕ, ◌⊎◌, Bool, true, false, List, Option, Some, None, slice_get, All, ⊤}
use Rattle.sp_types.specs.declared.ctype.IntKind.{IntKind}
use Rattle.sp_types.specs.Statements.{TypedStatement}
use Rattle.sp_ir.specs.Commands.{Command, start, entry, exit, Node}
use Rattle.sp_ir.specs.Regions.{Region}
use Rattle.sp_ir.specs.Programs.{Object}
use Rattle.sp_lower_draft.specs.Context.{Context}
use Rattle.sp_lower_draft.specs.Draft.{Draft, Site}
use Rattle.sp_lower_body.specs.Frames.{Frame}
use Rattle.sp_lower_body.specs.Bodies.{Body}
use Rattle.sp_lower_body.specs.Statements.{lower_statement}
use Rattle.sp_check_typing.specs.Statements.{IsTypedStatement}
use Rattle.sp_lower_expr_laws.specs.Stands.{table, scene, Holds}
use Rattle.sp_lower_expr_laws.specs.Grown.{IsEnd, IsHead, AreEnds, IsReady}
use Rattle.sp_lower_expr_laws.specs.Sound.{IsSound}
use Rattle.sp_lower_body_laws.specs.Frames.{FitsFrame}

-- a command that stands inside of a function
abbrev pub is_inner : Command → Bool
is_inner start = false
is_inner (entry g) = false
is_inner (exit g) = false
is_inner x = true

-- a later draft: nodes stay under their numbers, those that are added are the function's own and
-- stand inside of it, sites stay, and what stands for the later one's names stands for the earlier one's
pub record IsLater (c : Context) (os : List Object) (s t : Draft) : Type 0 where
  pub nodes : (n : ℕ) (x : Node) → slice_get s.nodes n ≡ Some x → slice_get t.nodes n ≡ Some x
  pub added : (n : ℕ) (x : Node) → slice_get t.nodes n ≡ Some x
      → (slice_get s.nodes n ≡ Some x) ⊎ ((is_inner x.command ≡ true) × (x.function ≡ Some c.function))
  pub sites : (n : ℕ) (x : Site) → slice_get s.sites n ≡ Some x → slice_get t.sites n ≡ Some x
  pub holds : Holds c os t → Holds c os s

-- an end that goes to a label of the function
pub record IsGoto (nodes : List Node) (f : ℕ) (labels : List ℕ) (g : ℕ × ℕ) : Type 0 where
  pub end : IsEnd nodes f g.0
  pub index : ℕ
  pub there : slice_get labels index ≡ Some g.1

abbrev pub HasDefault : Context → Option IntKind → Body → Type 0
HasDefault c None b = ⊤
HasDefault c (Some k) b = IsEnd b.draft.nodes c.function b.otherwise

-- these are the labels of the function, and `k` is the kind of the innermost switch
pub record IsSoundBody (c : Context) (os : List Object) (rs : List Region) (told : List ℕ) (k : Option IntKind) (b : Body) : Type 0 where
  pub draft : IsSound (table c os) rs c.first_site b.draft
  pub ready : IsReady c b.draft
  pub breaks : AreEnds c b.draft b.breaks
  pub continues : AreEnds c b.draft b.continues
  pub returns : AreEnds c b.draft b.returns
  pub cases : AreEnds c b.draft b.cases
  pub otherwise : HasDefault c k b
  pub gotos : All (IsGoto b.draft.nodes c.function told) b.gotos
  pub labels : All (λ l. IsHead b.draft.nodes c.function l.1) b.labels

pub record Goes (c : Context) (os : List Object) (rs : List Region) (told : List ℕ) (k : Option IntKind) (b onto : Body) : Type 0 where
  pub later : IsLater c os b.draft onto.draft
  pub sound : Holds c os onto.draft → IsSoundBody c os rs told k b → IsSoundBody c os rs told k onto

-- the law: a well-typed statement adds what is formed
abbrev pub StatementsAreGood : Type 0
StatementsAreGood = (f : Frame) (os : List Object) (rs : List Region) (v : ℕ → Bool) (labels : List ℕ) → FitsFrame f os rs v
    → (k : Option IntKind) (t : TypedStatement)
    → IsTypedStatement (record { scene = scene f.context v; labels = labels; result = f.result_type }) k t
    → (b : Body) → Goes f.context os rs labels k b (lower_statement f t b)
