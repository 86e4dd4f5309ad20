-- How the declarations before one are looked up.
use Rattle.std.specs.Prelude.{◌≡◌, ℕ, List, [], map, filter, nat_eq, Option, Some, None, Vec}
use Rattle.std.specs.Borrow.{Bor}
use Rattle.std.specs.declared.alloc.Global.{Global}
use Rattle.indexmap.specs.IndexMap.{get}
use Rattle.sp_link_conflicts.specs.Declarations.{Declaration}
use Rattle.sp_link_conflicts.specs.Views.{seen_declaration}
use Rattle.sp_link_conflicts.specs.declared.declarations.Declaration.{Declaration as CodeDeclaration}
use Rattle.sp_link_conflicts.specs.declared.earlier.Earlier.{Earlier}

abbrev pub seen_items : Option (Vec (Bor CodeDeclaration) Global) → List Declaration
seen_items None = []
seen_items (Some v) = map seen_declaration v.items

-- those that are there under a name
abbrev pub group : Earlier → ℕ → List Declaration
group g n = seen_items (get nat_eq g.lists n)

-- those of a list, by their names
abbrev pub AreEarlier : List Declaration → Earlier → Type 0
AreEarlier ds g = (n : ℕ) → group g n ≡ filter (λ d. nat_eq d.name n) ds
