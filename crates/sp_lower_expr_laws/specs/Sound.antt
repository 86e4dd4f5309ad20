-- When all of a draft is formed: its nodes, its edges, its calls with their returns, and its sites.
use Rattle.std.specs.Prelude.{◌≡◌, ℕ, ◌+◌, List, Option, Some, None, slice_get, All, ⊤}
use Rattle.sp_types.specs.Types.{CType, Struct}
use Rattle.sp_types.specs.Structs.{IsFormed}
use Rattle.sp_ir.specs.Commands.{Expression, Lvalue, call, return, Node}
use Rattle.sp_ir.specs.Regions.{Region}
use Rattle.sp_ir.specs.Formed.{Table, IsCommand, IsEdge, Returns}
use Rattle.sp_lower_draft.specs.Draft.{Draft, Site}
use Rattle.sp_lower_expr_laws.specs.Grown.{GivesSite}

-- the node of a site names its object, the one of number n
pub record IsSiteNode (nodes : List Node) (n : ℕ) (x : Site) : Type 0 where
  pub node : Node
  pub there : slice_get nodes x.node ≡ Some node
  pub names : GivesSite node.command n x.heap

abbrev pub IsFormedSite : List Struct → Option CType → Type 0
IsFormedSite ss None = ⊤
IsFormedSite ss (Some t) = IsFormed ss t

-- over these objects and regions; the first site is the object of this number
pub record IsSound (p : Table) (rs : List Region) (first_site : ℕ) (s : Draft) : Type 0 where
  pub nodes : (n : ℕ) (x : Node) → slice_get s.nodes n ≡ Some x → IsCommand p rs n x.function x.command
  pub edges : All (λ e. IsEdge s.nodes e.0 e.1) s.edges
  -- the return stands behind its call
  pub calls : (n : ℕ) (x : Node) (callee : Expression) (args : List Expression) → slice_get s.nodes n ≡ Some x
      → x.command ≡ call callee args → Returns s.nodes n (n + 1)
  pub returns : (n c : ℕ) (x : Node) (to : Option Lvalue) → slice_get s.nodes n ≡ Some x → x.command ≡ return c to
      → Returns s.nodes c n × (n ≡ c + 1)
  pub sites : (i : ℕ) (x : Site) → slice_get s.sites i ≡ Some x → IsSiteNode s.nodes (first_site + i) x
  -- the types of sites and temporaries are formed
  pub elements : (i : ℕ) (x : Site) → slice_get s.sites i ≡ Some x → IsFormedSite p.structs x.of
  pub temporaries : (i : ℕ) (t : CType) → slice_get s.temporaries i ≡ Some t → IsFormed p.structs t
