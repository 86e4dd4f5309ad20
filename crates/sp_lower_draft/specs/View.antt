-- What contracts see of a scope and of a draft.
use Rattle.std.specs.Prelude.{map}
use Rattle.std.specs.Option.{option_map}
use Rattle.sp_types.specs.View.{type_of, struct_of}
use Rattle.sp_types.specs.Programs.{object_of, function_of}
use Rattle.sp_ir.specs.View.{node_of}
use Rattle.sp_lower_draft.specs.declared.scope.Scope.{Scope}
use Rattle.sp_lower_draft.specs.declared.draft.Draft.{Draft as CodeDraft}
use Rattle.sp_lower_draft.specs.declared.draft.Site.{Site as CodeSite}
use Rattle.sp_lower_draft.specs.declared.draft.Ends.{Ends}
use Rattle.sp_lower_draft.specs.Context.{Context}
use Rattle.sp_lower_draft.specs.Draft.{Draft, Site, Branch}

abbrev pub context_of : Scope → Context
context_of s = record {
  structs = map struct_of s.structs.now;
  objects = map object_of s.objects.now;
  functions = map function_of s.functions.now;
  routines = s.routines.now;
  pointers = s.pointers.now;
  function = s.function;
  first_temporary = s.first_temporary;
  first_site = s.first_site;
}

abbrev pub site_of : CodeSite → Site
site_of s = record { node = s.node; of = option_map type_of s.of; heap = s.heap }

abbrev pub draft_of : CodeDraft → Draft
draft_of d = record {
  nodes = map node_of d.nodes.items;
  edges = d.edges.items;
  loose = d.loose.items;
  temporaries = map type_of d.temporaries.items;
  sites = map site_of d.sites.items;
}

-- a condition's ends behind a draft
abbrev pub branch_of : Ends → Draft → Branch
branch_of ends s = record { after = s; yes = ends.yes.items; no = ends.no.items }
