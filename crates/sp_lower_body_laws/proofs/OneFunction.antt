-- One function: its entry, its body and its exit.
use Rattle.std.proofs.Common.{◌≡◌, ◌⊎◌, inl, inr, ℕ, Bool, true, List, [], ◌∷◌, length, Option, Some, None, slice_get, refl, ap, sym}
use Rattle.std.proofs.lemmas.Option.{none-some}
use Rattle.std.proofs.lemmas.List.Elements.{All-nil, All-append}
use Rattle.sp_types.specs.Types.{CType}
use Rattle.sp_types.specs.Structs.{IsFormed}
use Rattle.sp_types.specs.Statements.{TypedStatement}
use Rattle.sp_types.specs.Programs.{Function}
use Rattle.sp_ir.specs.Commands.{entry, exit, Node}
use Rattle.sp_ir.specs.Regions.{Region}
use Rattle.sp_ir.specs.Programs.{Object}
use Rattle.sp_ir.specs.Formed.{IsEdge}
use Rattle.sp_lower_draft.specs.Context.{Context}
use Rattle.sp_lower_draft.specs.Draft.{Draft, next, add}
use Rattle.sp_lower_body.specs.Frames.{Frame}
use Rattle.sp_lower_body.specs.Bodies.{Body}
use Rattle.sp_lower_body.specs.Statements.{lower_statement}
use Rattle.sp_lower_functions.specs.Functions.{goto_edges, begun, lower_body, outside_functions, inside_function, lower_function}
use Rattle.sp_check_typing.specs.Statements.{labels_in, IsTypedBody}
use Rattle.sp_lower_expr_laws.specs.Stands.{table, scene, Holds}
use Rattle.sp_lower_expr_laws.specs.Grown.{IsEnd, IsReady}
use Rattle.sp_lower_expr_laws.specs.Sound.{IsSound}
use Rattle.sp_lower_expr_laws.proofs.Growing.{Before, before_all, pushed_last, new_end}
use Rattle.sp_lower_expr_laws.proofs.Sounds.{pushed_cases, sound_added, sound_pushed}
use Rattle.sp_lower_body_laws.specs.Bodies.{is_inner, IsLater, IsSoundBody, Goes}
use Rattle.sp_lower_body_laws.proofs.Later.{later_same}
use Rattle.sp_lower_body_laws.proofs.Statements.{statement_good}
use Rattle.sp_lower_body_laws.specs.Functions.{IsFit}
use Rattle.sp_lower_body_laws.proofs.Labels.{labels_named, gotos_good}

module _ (f : Frame) (os : List Object) (rs : List Region) (v : ℕ → Bool) (g : Function) (fit : IsFit f os rs v g) where
  abbrev here : Context
  here = f.context

  abbrev IsSoundHere : Draft → Type 0
  IsSoundHere s = IsSound (table f.context os) rs f.context.first_site s

  -- ---- a body

  begun_sound : (told : List ℕ) (s : Draft) → IsSoundHere s → IsReady f.context s → IsSoundBody f.context os rs told None (begun s)
  begun_sound told s h r = record {
    draft = h;
    ready = r;
    breaks = All-nil _;
    continues = All-nil _;
    returns = All-nil _;
    cases = All-nil _;
    otherwise = tt;
    gotos = All-nil _;
    labels = All-nil _;
  }

  -- what a body does to a draft
  record IsBodyOf (s t : Draft) : Type 0 where
    later : IsLater f.context os s t
    sound : Holds f.context os t → IsSoundHere s → IsReady f.context s → IsSoundHere t × IsReady f.context t

  body_good : (body : Option TypedStatement) (s : Draft) → IsTypedBody (scene f.context v) f.result_type body → IsBodyOf s (lower_body f body s)
  body_good None s typed = record { later = later_same f.context os s; sound = λ w h r. (h, r) }
  body_good (Some body) s typed =
      let told : List ℕ = labels_in body in
      let b : Body = lower_statement f body (begun s) in
      let g : Goes f.context os rs told None (begun s) b = statement_good f os rs v told fit.frame None body typed (begun s) in record {
        later = record { nodes = g.later.nodes; added = g.later.added; sites = g.later.sites; holds = λ w. g.later.holds (record { temporaries = w.temporaries; sites = w.sites }) };
        sound = λ w h r.
            let q : IsSoundBody f.context os rs told None b = g.sound (record { temporaries = w.temporaries; sites = w.sites }) (begun_sound told s h r) in (
              record {
                nodes = q.draft.nodes;
                calls = q.draft.calls;
                returns = q.draft.returns;
                sites = q.draft.sites;
                elements = q.draft.elements;
                temporaries = q.draft.temporaries;
                edges = All-append (λ e. IsEdge b.draft.nodes e.0 e.1) b.draft.edges (goto_edges b.labels b.gotos) q.draft.edges
                    (gotos_good b.draft.nodes f.context.function told b.labels b.gotos (sym (labels_named f body (begun s))) q.labels q.gotos);
              },
              All-append (IsEnd b.draft.nodes f.context.function) b.draft.loose b.returns q.ready q.returns,
            );
      }

  -- ---- the whole

  outside_sound : (s : Draft) → IsSoundHere s → IsSoundHere (outside_functions s)
  outside_sound s h = record { nodes = h.nodes; edges = h.edges; calls = h.calls; returns = h.returns; sites = h.sites; elements = h.elements; temporaries = λ i t e. absurd (none-some t e) }

  -- where a node of the function stands, whose body begins at the draft s
  pub data IsAt (s : Draft) (n : ℕ) (x : Node) : Type 0 where
    first : n ≡ next s → x.command ≡ entry f.context.function → IsAt s n x
    last : n ≡ next (inside_function f g s) → x.command ≡ exit f.context.function → IsAt s n x
    inside : is_inner x.command ≡ true → IsAt s n x

  pub record IsFunction (s : Draft) : Type 0 where
    pub nodes : Before s.nodes (lower_function f g s).nodes
    pub sites : Before s.sites (lower_function f g s).sites
    pub added : (n : ℕ) (x : Node) → slice_get (lower_function f g s).nodes n ≡ Some x → (slice_get s.nodes n ≡ Some x) ⊎ ((x.function ≡ Some f.context.function) × IsAt s n x)
    pub entry_node : slice_get (lower_function f g s).nodes (next s) ≡ Some (record { command = entry f.context.function; place = g.place; function = Some f.context.function })
    pub exit_node : slice_get (lower_function f g s).nodes (next (inside_function f g s)) ≡ Some (record { command = exit f.context.function; place = g.end; function = Some f.context.function })
    pub sound : Holds f.context os (inside_function f g s) → IsSoundHere s → IsSoundHere (lower_function f g s)
    pub temporaries : Holds f.context os (inside_function f g s) → IsSoundHere s → (i : ℕ) (t : CType) → slice_get (inside_function f g s).temporaries i ≡ Some t → IsFormed f.context.structs t

  -- the function's draft behind its entry, and before its exit
  abbrev start : Draft → Draft
  start s = add f.context (entry f.context.function) g.place (outside_functions s)

  abbrev inner : Draft → Draft
  inner s = inside_function f g s

  abbrev opening : Draft → Node
  opening s = record { command = entry f.context.function; place = g.place; function = Some f.context.function }

  abbrev closing : Draft → Node
  closing s = record { command = exit f.context.function; place = g.end; function = Some f.context.function }

  pub function_is : (s : Draft) → IsFunction s
  function_is s = record {
    nodes = λ n x e. before_all (inner s).nodes ((closing s) ∷ []) n x (body.later.nodes n x (before_all s.nodes ((opening s) ∷ []) n x e));
    sites = λ n x e. body.later.sites n x e;
    added = λ n x e. added n x (pushed_cases (inner s).nodes (closing s) n x e);
    entry_node = before_all (inner s).nodes ((closing s) ∷ []) (next s) (opening s) (body.later.nodes (next s) (opening s) (pushed_last s.nodes (opening s)));
    exit_node = pushed_last (inner s).nodes (closing s);
    sound = λ w h. let q : IsSoundHere (inner s) × IsReady f.context (inner s) = inside_sound w h in
        let z : IsSoundHere (add f.context (exit f.context.function) g.end (inner s)) = sound_added f.context os rs (inner s) (exit f.context.function) g.end q.0 q.1 refl refl refl refl in
        outside_sound (add f.context (exit f.context.function) g.end (inner s)) z;
    temporaries = λ w h. (inside_sound w h).0.temporaries;
  }
    where
      body : IsBodyOf (start s) (inner s)
      body = body_good g.body (start s) fit.body

      inside_sound : Holds f.context os (inner s) → IsSoundHere s → IsSoundHere (inner s) × IsReady f.context (inner s)
      inside_sound w h =
          let k : IsSoundHere (start s) = sound_pushed f.context os rs (outside_functions s) (entry f.context.function) g.place (outside_sound s h) refl refl refl (All-nil (λ e. IsEdge (start s).nodes e.0 e.1)) in
          body.sound w k (new_end f.context (outside_functions s) (entry f.context.function) g.place refl)

      added : (n : ℕ) (x : Node) → (slice_get (inner s).nodes n ≡ Some x) ⊎ ((n ≡ length (inner s).nodes) × (x ≡ (closing s))) → (slice_get s.nodes n ≡ Some x) ⊎ ((x.function ≡ Some f.context.function) × IsAt s n x)
      added n x (inr e) = inr (ap (λ z. z.function) e.1, last e.0 (ap (λ z. z.command) e.1))
      added n x (inl e) = by (body.later.added n x e)
        where
          early : (slice_get s.nodes n ≡ Some x) ⊎ ((n ≡ length s.nodes) × (x ≡ (opening s))) → (slice_get s.nodes n ≡ Some x) ⊎ ((x.function ≡ Some f.context.function) × IsAt s n x)
          early (inl e) = inl e
          early (inr e) = inr (ap (λ z. z.function) e.1, first e.0 (ap (λ z. z.command) e.1))

          by : (slice_get (start s).nodes n ≡ Some x) ⊎ ((is_inner x.command ≡ true) × (x.function ≡ Some f.context.function)) → (slice_get s.nodes n ≡ Some x) ⊎ ((x.function ≡ Some f.context.function) × IsAt s n x)
          by (inl e) = early (pushed_cases s.nodes (opening s) n x e)
          by (inr e) = inr (e.1, inside e.0)
