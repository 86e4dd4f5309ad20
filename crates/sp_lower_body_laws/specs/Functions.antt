-- When all of the functions of a program is formed.
use Rattle.std.specs.Prelude.{◌≡◌, ℕ, ◌+◌, ◌⊎◌, Bool, true, List, [], ◌∷◌, Some, slice_get, ⊤}
use Rattle.sp_types.specs.Types.{CType}
use Rattle.sp_types.specs.Structs.{IsFormed}
use Rattle.sp_types.specs.Programs.{Function}
use Rattle.sp_ir.specs.Commands.{Command, entry, exit, Node}
use Rattle.sp_ir.specs.Regions.{Region}
use Rattle.sp_ir.specs.Programs.{Object}
use Rattle.sp_lower_draft.specs.Context.{Context}
use Rattle.sp_lower_draft.specs.Draft.{Draft, Site, Left}
use Rattle.sp_lower_body.specs.Frames.{Frame, Initial}
use Rattle.sp_lower_functions.specs.Functions.{Part, result_count, frame_for, first_count, counts_behind, lower_functions}
use Rattle.sp_check_typing.specs.Statements.{IsTypedBody}
use Rattle.sp_lower_expr_laws.specs.Stands.{table, scene, Stands, IsSiteObject}
use Rattle.sp_lower_expr_laws.specs.Sound.{IsSound}
use Rattle.sp_lower_body_laws.specs.Frames.{FitsFrame}
use Rattle.sp_lower_body_laws.specs.Bodies.{is_inner}

pub record IsFit (f : Frame) (os : List Object) (rs : List Region) (v : ℕ → Bool) (g : Function) : Type 0 where
  pub frame : FitsFrame f os rs v
  pub body : IsTypedBody (scene f.context v) f.result_type g.body

-- each of the functions from the number k on, whose objects begin at `first`, by what it sees
abbrev pub AreFit : Context → List Initial → List Object → List Region → (ℕ → ℕ → Bool) → ℕ → ℕ → List Function → List ℕ → Type 0
AreFit c is os rs v k first [] ns = ⊤
AreFit c is os rs v k first (g ∷ gs) ns = IsFit (frame_for c is k first (first_count ns) g) os rs (v k) g
    × AreFit c is os rs v (k + 1) (first + first_count ns + result_count g) gs (counts_behind ns)

-- the temporaries of the functions stand under their numbers
abbrev pub TemporariesStand : List Object → ℕ → ℕ → List Function → List ℕ → List Part → Type 0
TemporariesStand os k first [] ns ps = ⊤
TemporariesStand os k first (g ∷ gs) ns [] = ⊤
TemporariesStand os k first (g ∷ gs) ns (p ∷ ps) =
    ((i : ℕ) (t : CType) → slice_get p.temporaries i ≡ Some t → Stands os k (first + i) t)
    × TemporariesStand os (k + 1) (first + first_count ns + result_count g) gs (counts_behind ns) ps

abbrev pub SitesStand : List Object → ℕ → List Site → Type 0
SitesStand os first sites = (i : ℕ) (x : Site) → slice_get sites i ≡ Some x → IsSiteObject os (first + i) x

-- where a node of the function j stands, whose part this is
pub data IsPlaced (j : ℕ) (p : Part) (n : ℕ) (x : Command) : Type 0 where
  first : n ≡ p.entry → x ≡ entry j → IsPlaced j p n x
  last : n ≡ p.exit → x ≡ exit j → IsPlaced j p n x
  inside : is_inner x ≡ true → IsPlaced j p n x

pub record IsOfPart (k : ℕ) (ps : List Part) (n : ℕ) (x : Node) : Type 0 where
  pub index : ℕ
  pub part : Part
  pub there : slice_get ps index ≡ Some part
  pub function : x.function ≡ Some (k + index)
  pub placed : IsPlaced (k + index) part n x.command

-- a node with this command, of the function j
pub record IsNodeOf (nodes : List Node) (j n : ℕ) (x : Command) : Type 0 where
  pub node : Node
  pub there : slice_get nodes n ≡ Some node
  pub command : node.command ≡ x
  pub function : node.function ≡ Some j

-- what lowering functions adds to a draft
pub record AreLowered (c : Context) (os : List Object) (rs : List Region) (k first : ℕ) (gs : List Function) (ns : List ℕ) (s : Draft) (r : Left (List Part)) : Type 0 where
  pub nodes : (n : ℕ) (x : Node) → slice_get s.nodes n ≡ Some x → slice_get r.after.nodes n ≡ Some x
  pub sites : (n : ℕ) (x : Site) → slice_get s.sites n ≡ Some x → slice_get r.after.sites n ≡ Some x
  pub added : (n : ℕ) (x : Node) → slice_get r.after.nodes n ≡ Some x → (slice_get s.nodes n ≡ Some x) ⊎ IsOfPart k r.pure n x
  pub entries : (i : ℕ) (p : Part) → slice_get r.pure i ≡ Some p → IsNodeOf r.after.nodes (k + i) p.entry (entry (k + i))
  pub exits : (i : ℕ) (p : Part) → slice_get r.pure i ≡ Some p → IsNodeOf r.after.nodes (k + i) p.exit (exit (k + i))
  pub sound : TemporariesStand os k first gs ns r.pure → SitesStand os c.first_site r.after.sites → IsSound (table c os) rs c.first_site s
      → IsSound (table c os) rs c.first_site r.after
  pub temporaries : TemporariesStand os k first gs ns r.pure → SitesStand os c.first_site r.after.sites → IsSound (table c os) rs c.first_site s
      → (i : ℕ) (p : Part) → slice_get r.pure i ≡ Some p → (j : ℕ) (t : CType) → slice_get p.temporaries j ≡ Some t → IsFormed c.structs t

-- the law
abbrev pub FunctionsAreGood : Type 0
FunctionsAreGood = (c : Context) (is : List Initial) (os : List Object) (rs : List Region) (v : ℕ → ℕ → Bool) (k first : ℕ)
    (gs : List Function) (ns : List ℕ) (s : Draft) → AreFit c is os rs v k first gs ns
    → AreLowered c os rs k first gs ns s (lower_functions c is k first gs ns s)
