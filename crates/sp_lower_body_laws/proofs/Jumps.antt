-- Labels, jumps and returns (C90 6.6.1, 6.6.6).
use Rattle.std.proofs.Common.{◌≡◌, ℕ, Bool, false, List, [], ◌∷◌, ◌++◌, length, map, Option, Some, None, slice_get, refl, sym, subst}
use Rattle.std.specs.Prelude.{All}
use Rattle.std.proofs.lemmas.List.Elements.{All-nil, All-head, All-tail, All-append, All-map, All-weaker, All-push}
use Rattle.sp_tree.specs.declared.fault.Place.{Place}
use Rattle.sp_types.specs.declared.ctype.IntKind.{IntKind}
use Rattle.sp_types.specs.Types.{CType}
use Rattle.sp_types.specs.Typed.{Typed, of}
use Rattle.sp_ir.specs.Commands.{Expression, direct, skip, Node}
use Rattle.sp_ir.specs.Regions.{Region}
use Rattle.sp_ir.specs.Programs.{Object}
use Rattle.sp_ir.specs.Formed.{is_floating}
use Rattle.sp_lower_draft.specs.Context.{Context}
use Rattle.sp_lower_draft.specs.Draft.{Draft, Left, next, with_loose, add, stored}
use Rattle.sp_lower_draft.specs.Expressions.{operand, value_of}
use Rattle.sp_lower_body.specs.Frames.{Frame}
use Rattle.sp_lower_body.specs.Bodies.{Body, with_draft, leaving, gone, continued, broken, returned, labelled, marked, next_case, cases_behind, case_marked}
use Rattle.sp_lower_body.specs.Statements.{maybe_returned}
use Rattle.sp_check_typing.specs.Statements.{IsReturned}
use Rattle.sp_lower_expr_laws.specs.Stands.{scene}
use Rattle.sp_lower_expr_laws.specs.Grown.{IsEnd, IsHead, AreEnds, Grown, same, node}
use Rattle.sp_lower_expr_laws.specs.Uses.{IsValue, Gives}
use Rattle.sp_lower_expr_laws.proofs.Growing.{pushed_last}
use Rattle.sp_lower_expr_laws.proofs.Sorts.{agrees_self, stored_there}
use Rattle.sp_lower_expr_laws.proofs.Keeps.{stored_floating, value_as, direct_of, store_good, store_plain}
use Rattle.sp_lower_expr_laws.proofs.Assignments.{stored_as}
use Rattle.sp_lower_expr_laws.proofs.Trees.{tree_good}
use Rattle.sp_lower_body_laws.specs.Frames.{FitsFrame}
use Rattle.sp_lower_body_laws.specs.Bodies.{IsGoto, HasDefault, IsSoundBody, Goes}
use Rattle.sp_lower_body_laws.proofs.Later.{later_on, later_turned, later_added, body_turned, body_grown}

module _ (c : Context) (os : List Object) (rs : List Region) (told : List ℕ) where
  -- an edge may end at a node of its own
  pub skipped : (s : Draft) (at : Place) → Grown c os rs s (add c skip at s)
  skipped s at = node skip at same refl (λ w. tt)

  pub new_head : (s : Draft) (at : Place) → IsHead (add c skip at s).nodes c.function (next s)
  new_head s at = record { node = record { command = skip; place = at; function = Some c.function }; there = pushed_last s.nodes _; function = refl; ends = refl }

  -- ---- labels

  pub labelled_good : (k : Option IntKind) (n : ℕ) (at : Place) (b : Body) → Goes c os rs told k b (labelled c n at b)
  labelled_good k n at b = record {
    later = later_added c os b.draft skip at refl;
    sound = λ w h.
        let q : IsSoundBody c os rs told k (with_draft (add c skip at b.draft) b) = body_grown c os rs told k b (add c skip at b.draft) (skipped b.draft at) w h in
        record {
          draft = q.draft;
          ready = q.ready;
          breaks = q.breaks;
          continues = q.continues;
          returns = q.returns;
          cases = q.cases;
          otherwise = same_default k q.otherwise;
          gotos = q.gotos;
          labels = All-push (λ l. IsHead (add c skip at b.draft).nodes c.function l.1) b.labels (n, next b.draft) q.labels (new_head b.draft at);
        };
  }
    where
      same_default : (k : Option IntKind) → HasDefault c k (with_draft (add c skip at b.draft) b) → HasDefault c k (labelled c n at b)
      same_default None h = tt
      same_default (Some j) h = h

  -- a node that is reached also from this end
  marked_good : (k : Option IntKind) (from : ℕ) (at : Place) (b : Body) → (IsSoundBody c os rs told k b → IsEnd b.draft.nodes c.function from) → Goes c os rs told k b (marked c from at b)
  marked_good k from at b e =
      let ends : List ℕ = b.draft.loose ++ from ∷ [] in
      let begun : Draft = with_loose ends b.draft in record {
        later = later_on c os b.draft begun _ (later_turned c os b.draft ends) (later_added c os begun skip at refl);
        sound = λ w h. body_grown c os rs told k (with_draft begun b) (add c skip at begun) (skipped begun at) w
            (body_turned c os rs told k b ends (All-push (IsEnd b.draft.nodes c.function) b.draft.loose from h.ready (e h)) h);
      }

  pub default_good : (j : IntKind) (at : Place) (b : Body) → Goes c os rs told (Some j) b (marked c b.otherwise at b)
  default_good j at b = marked_good (Some j) b.otherwise at b (λ h. h.otherwise)

  next_end : (b : Body) (cases : List ℕ) (n : ℕ) → AreEnds c b.draft cases → IsEnd b.draft.nodes c.function n → IsEnd b.draft.nodes c.function (next_case cases n)
  next_end b [] n h e = e
  next_end b (m ∷ ms) n h e = All-head (IsEnd b.draft.nodes c.function) m ms h

  behind_ends : (nodes : List Node) (cases : List ℕ) → All (IsEnd nodes c.function) cases → All (IsEnd nodes c.function) (cases_behind cases)
  behind_ends nodes [] h = h
  behind_ends nodes (m ∷ ms) h = All-tail (IsEnd nodes c.function) m ms h

  pub case_good : (j : IntKind) (at : Place) (b : Body) → Goes c os rs told (Some j) b (case_marked c at b)
  case_good j at b =
      let g : Goes c os rs told (Some j) b (marked c (next_case b.cases b.otherwise) at b) =
      marked_good (Some j) (next_case b.cases b.otherwise) at b (λ h. next_end b b.cases b.otherwise h.cases h.otherwise) in record {
        later = g.later;
        sound = λ w h.
            let q : IsSoundBody c os rs told (Some j) (marked c (next_case b.cases b.otherwise) at b) = g.sound w h in record {
              draft = q.draft;
              ready = q.ready;
              breaks = q.breaks;
              continues = q.continues;
              returns = q.returns;
              otherwise = q.otherwise;
              gotos = q.gotos;
              labels = q.labels;
              cases = behind_ends (case_marked c at b).draft.nodes b.cases q.cases;
            };
      }

  -- ---- jumps

  module _ (k : Option IntKind) (b : Body) where
    left_good : IsSoundBody c os rs told k b → IsSoundBody c os rs told k (with_draft (leaving b.draft) b)
    left_good h = body_turned c os rs told k b [] (All-nil (IsEnd b.draft.nodes c.function)) h

    pub default_there : (d : Body) → d.draft.nodes ≡ b.draft.nodes → d.otherwise ≡ b.otherwise → HasDefault c k b → HasDefault c k d
    default_there d e o h = by k h
      where
        by : (k : Option IntKind) → HasDefault c k b → HasDefault c k d
        by None h = tt
        by (Some j) h = subst (λ n. IsEnd d.draft.nodes c.function n) (sym o) (subst (λ xs. IsEnd xs c.function b.otherwise) (sym e) h)

    pub gone_good : (n : ℕ) → ((i : ℕ) × (slice_get told i ≡ Some n)) → Goes c os rs told k b (gone n b)
    gone_good n l = record {
      later = later_turned c os b.draft [];
      sound = λ w h. let q : IsSoundBody c os rs told k (with_draft (leaving b.draft) b) = left_good h in record {
        draft = q.draft;
        ready = q.ready;
        breaks = q.breaks;
        continues = q.continues;
        returns = q.returns;
        cases = q.cases;
        otherwise = default_there (gone n b) refl refl h.otherwise;
        labels = q.labels;
        gotos = All-append (IsGoto b.draft.nodes c.function told) b.gotos (map (λ m. (m, n)) b.draft.loose) q.gotos
            (All-map (IsGoto b.draft.nodes c.function told) (λ m. (m, n)) b.draft.loose
            (All-weaker (IsEnd b.draft.nodes c.function) (λ m. IsGoto b.draft.nodes c.function told (m, n)) (λ m e. record { end = e; index = l.0; there = l.1 }) b.draft.loose h.ready));
      };
    }

    pub continued_good : Goes c os rs told k b (continued b)
    continued_good = record {
      later = later_turned c os b.draft [];
      sound = λ w h. let q : IsSoundBody c os rs told k (with_draft (leaving b.draft) b) = left_good h in record {
        draft = q.draft;
        ready = q.ready;
        breaks = q.breaks;
        returns = q.returns;
        cases = q.cases;
        otherwise = default_there (continued b) refl refl h.otherwise;
        gotos = q.gotos;
        labels = q.labels;
        continues = All-append (IsEnd b.draft.nodes c.function) b.continues b.draft.loose q.continues h.ready;
      };
    }

    pub broken_good : Goes c os rs told k b (broken b)
    broken_good = record {
      later = later_turned c os b.draft [];
      sound = λ w h. let q : IsSoundBody c os rs told k (with_draft (leaving b.draft) b) = left_good h in record {
        draft = q.draft;
        ready = q.ready;
        continues = q.continues;
        returns = q.returns;
        cases = q.cases;
        otherwise = default_there (broken b) refl refl h.otherwise;
        gotos = q.gotos;
        labels = q.labels;
        breaks = All-append (IsEnd b.draft.nodes c.function) b.breaks b.draft.loose q.breaks h.ready;
      };
    }

    pub returned_good : Goes c os rs told k b (returned b)
    returned_good = record {
      later = later_turned c os b.draft [];
      sound = λ w h. let q : IsSoundBody c os rs told k (with_draft (leaving b.draft) b) = left_good h in record {
        draft = q.draft;
        ready = q.ready;
        breaks = q.breaks;
        continues = q.continues;
        cases = q.cases;
        otherwise = default_there (returned b) refl refl h.otherwise;
        gotos = q.gotos;
        labels = q.labels;
        returns = All-append (IsEnd b.draft.nodes c.function) b.returns b.draft.loose q.returns h.ready;
      };
    }

-- the value of a `return`
module _ (f : Frame) (os : List Object) (rs : List Region) (v : ℕ → Bool) (fits : FitsFrame f os rs v) (told : List ℕ) where
  pub value_returned : (e : Option Typed) (at : Place) (s : Draft) → IsReturned (record { scene = scene f.context v; labels = told; result = f.result_type }) e → Grown f.context os rs s (maybe_returned f e at s)
  value_returned None at s h = same
  value_returned (Some e) at s h =
      let c : Context = f.context in
      let t : CType = f.result_type in
      let x : Left Expression = value_of (operand c e) s in
      let r : is_floating t ≡ false = stored_floating c t h.1 in
      let g : Gives c os rs (IsValue c os (of e)) s x = (tree_good c os rs v fits.names e h.0).value (stored_there c.structs (of e) (stored_as c (of e) t h.2 h.1)) None tt s in
      node (stored (direct f.result t) t x.pure) at g.grown (store_plain (direct f.result t) t x.pure)
      (λ q. store_good c os rs (length x.after.nodes) (direct f.result t) t x.pure (direct_of c os rs f.result t (fits.result h.1) r) (agrees_self t r) h.1
      ((g.pure q).0, value_as c (of e) t x.pure h.2 (g.pure q).1))
