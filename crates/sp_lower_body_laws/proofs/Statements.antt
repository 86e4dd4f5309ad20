-- A well-typed statement adds what is formed.
use Rattle.std.proofs.Common.{◌≡◌, ℕ, Bool, List, [], ◌∷◌, Option, Some, None, sym, subst}
use Rattle.std.specs.Prelude.{All}
use Rattle.std.proofs.lemmas.Option.{none-some}
use Rattle.std.proofs.lemmas.List.Elements.{All-nil, All-cons, All-append}
use Rattle.sp_tree.specs.declared.fault.Place.{Place}
use Rattle.sp_types.specs.declared.ctype.IntKind.{IntKind}
use Rattle.sp_types.specs.Typed.{Typed}
use Rattle.sp_types.specs.Statements.{TypedStatement, typed_statement, TypedStatementForm, label, case_of, default_of, block, empty, single, if_else, switch_on, while_loop, do_loop, for_loop, goto_name, continue_loop, break_out, return_value, MaybeTypedStatement, no_statement, some_statement, TypedStatements, no_statements, next_statement}
use Rattle.sp_ir.specs.Commands.{skip}
use Rattle.sp_ir.specs.Regions.{Region}
use Rattle.sp_ir.specs.Programs.{Object}
use Rattle.sp_ir.specs.Formed.{InKind}
use Rattle.sp_lower_draft.specs.Draft.{Draft, Branch, next, with_loose, add}
use Rattle.sp_lower_draft.specs.Expressions.{meaning}
use Rattle.sp_lower_body.specs.Frames.{Frame}
use Rattle.sp_lower_body.specs.Bodies.{Body, with_draft, labelled, case_marked, marked, in_loop, at_end, returned}
use Rattle.sp_lower_body.specs.Cases.{case_values, form_values, other_values, all_values, has_default}
use Rattle.sp_lower_body.specs.Declarations.{declare_all}
use Rattle.sp_lower_body.specs.Statements.{maybe_unused, maybe_branch, maybe_returned, begin_switch, lower_statement, lower_form, lower_other, lower_all}
use Rattle.sp_check_typing.specs.Trees.{IsTyped}
use Rattle.sp_check_typing.specs.Statements.{Setting, IsMaybeTyped, IsMaybeCondition, IsTypedStatement, IsTypedForm, IsMaybeTypedStatement, AreTypedStatements}
use Rattle.sp_lower_expr_laws.specs.Stands.{scene}
use Rattle.sp_lower_expr_laws.specs.Grown.{IsEnd, Grown, same, turned}
use Rattle.sp_lower_expr_laws.specs.Uses.{GivesEnds, IsGood}
use Rattle.sp_lower_expr_laws.proofs.Trees.{tree_good}
use Rattle.sp_lower_body_laws.specs.Frames.{FitsFrame}
use Rattle.sp_lower_body_laws.specs.Bodies.{Goes}
use Rattle.sp_lower_body_laws.proofs.Later.{goes_nowhere, goes_on, goes_grown}
use Rattle.sp_lower_body_laws.proofs.Declared.{declared_all}
use Rattle.sp_lower_body_laws.proofs.Jumps.{labelled_good, default_good, case_good, gone_good, continued_good, broken_good, returned_good, value_returned}
use Rattle.sp_lower_body_laws.proofs.Loops.{while_good, do_good, for_good, if_good}
use Rattle.sp_lower_body_laws.proofs.Switches.{switch_good}

some_is : {A : Type 0} (x y : A) → Some x ≡ Some y → x ≡ y
some_is x y e = cc

-- ---- the values of the cases of a switch are of its kind

module _ (s : Setting) (j : IntKind) where
  mutual
    cases_typed : (t : TypedStatement) → IsTypedStatement s (Some j) t → All (InKind j) (case_values t)
    cases_typed (typed_statement f place end) h = form_cases f h

    form_cases : (f : TypedStatementForm) → IsTypedForm s (Some j) f → All (InKind j) (form_values f)
    form_cases (label n t) h = cases_typed t h
    form_cases (case_of z t) h = All-cons (InKind j) z (case_values t) (subst (λ k. InKind k z) (sym (some_is j h.0.0 h.0.1)) h.0.2) (cases_typed t h.1)
    form_cases (default_of t) h = cases_typed t h.1
    form_cases (block ns ts) h = all_cases ts h.1
    form_cases empty h = All-nil (InKind j)
    form_cases (single e) h = All-nil (InKind j)
    form_cases (if_else e t other) h = All-append (InKind j) (case_values t) (other_values other) (cases_typed t h.1) (other_cases other h.2)
    form_cases (switch_on e t) h = All-nil (InKind j)
    form_cases (while_loop e t) h = cases_typed t h.1
    form_cases (do_loop t e) h = cases_typed t h.0
    form_cases (for_loop a e d t) h = cases_typed t h.3
    form_cases (goto_name n) h = All-nil (InKind j)
    form_cases continue_loop h = All-nil (InKind j)
    form_cases break_out h = All-nil (InKind j)
    form_cases (return_value e) h = All-nil (InKind j)

    other_cases : (t : MaybeTypedStatement) → IsMaybeTypedStatement s (Some j) t → All (InKind j) (other_values t)
    other_cases no_statement h = All-nil (InKind j)
    other_cases (some_statement t) h = cases_typed t h

    all_cases : (ts : TypedStatements) → AreTypedStatements s (Some j) ts → All (InKind j) (all_values ts)
    all_cases no_statements h = All-nil (InKind j)
    all_cases (next_statement t ts) h = All-append (InKind j) (case_values t) (all_values ts) (cases_typed t h.0) (all_cases ts h.1)

-- ---- all forms

module _ (f : Frame) (os : List Object) (rs : List Region) (v : ℕ → Bool) (told : List ℕ) (fits : FitsFrame f os rs v) where
  abbrev setting : Setting
  setting = record { scene = scene f.context v; labels = told; result = f.result_type }

  good : (e : Typed) → IsTyped (scene f.context v) e → IsGood f.context os rs e (meaning f.context e)
  good e h = tree_good f.context os rs v fits.names e h

  maybe_unused_good : (e : Option Typed) → IsMaybeTyped (scene f.context v) e → (s : Draft) → Grown f.context os rs s (maybe_unused f.context e s)
  maybe_unused_good None h s = same
  maybe_unused_good (Some e) h s = (good e h).unused s

  maybe_branch_good : (e : Option Typed) → IsMaybeCondition (scene f.context v) e → (s : Draft) → GivesEnds f.context os rs s (maybe_branch f.context e s)
  maybe_branch_good None h s = record { grown = turned [] same (λ r. All-nil (IsEnd s.nodes f.context.function)); yes = λ r. r; no = λ r. All-nil (IsEnd s.nodes f.context.function) }
  maybe_branch_good (Some e) h s = (good e h.0).branch h.1 s

  mutual
    pub statement_good : (k : Option IntKind) (t : TypedStatement) → IsTypedStatement setting k t → (b : Body) → Goes f.context os rs told k b (lower_statement f t b)
    statement_good k (typed_statement form place end) h b = form_good k form place h b

    form_good : (k : Option IntKind) (form : TypedStatementForm) (at : Place) → IsTypedForm setting k form → (b : Body) → Goes f.context os rs told k b (lower_form f form at b)
    form_good k (label n t) at h b =
        goes_on f.context os rs told k b (labelled f.context n at b) _ (labelled_good f.context os rs told k n at b) (statement_good k t h (labelled f.context n at b))
    form_good None (case_of z t) at h b = absurd (none-some h.0.0 h.0.1)
    form_good (Some j) (case_of z t) at h b =
        goes_on f.context os rs told (Some j) b (case_marked f.context at b) _ (case_good f.context os rs told j at b) (statement_good (Some j) t h.1 (case_marked f.context at b))
    form_good None (default_of t) at h b = absurd (none-some h.0.0 h.0.1)
    form_good (Some j) (default_of t) at h b =
        goes_on f.context os rs told (Some j) b (marked f.context b.otherwise at b) _ (default_good f.context os rs told j at b) (statement_good (Some j) t h.1 (marked f.context b.otherwise at b))
    form_good k (block ns ts) at h b =
        let begun : Body = with_draft (declare_all f ns b.draft) b in
        goes_on f.context os rs told k b begun _ (goes_grown f.context os rs told k b (declare_all f ns b.draft) (declared_all f os rs v fits ns h.0 b.draft)) (all_good k ts h.1 begun)
    form_good k empty at h b = goes_nowhere f.context os rs told k b
    form_good k (single e) at h b = goes_grown f.context os rs told k b ((meaning f.context e).unused b.draft) ((good e h).unused b.draft)
    form_good k (if_else e t other) at h b =
        let branch : Branch = (meaning f.context e).branch b.draft in
        let begun : Body = with_draft (with_loose branch.yes branch.after) b in
        let one : Body = lower_statement f t begun in
        let again : Body = with_draft (with_loose branch.no one.draft) one in
        if_good f.context os rs told k b one (lower_other f other again) branch ((good e h.0.0).branch h.0.1 b.draft) (statement_good k t h.1 begun) (other_good k other h.2 again)
    form_good k (switch_on e t) at h b =
        let begun : Body = begin_switch f.context e at (case_values t) b in
        switch_good f.context os rs told k h.1.0 e at (case_values t) (has_default t) b (lower_statement f t begun) h.1.1 (good e h.0) (cases_typed setting h.1.0 t h.1.2)
        (statement_good (Some h.1.0) t h.1.2 begun)
    form_good k (while_loop e t) at h b =
        let d : Draft = add f.context skip at b.draft in
        let branch : Branch = (meaning f.context e).branch d in
        let begun : Body = in_loop branch.yes branch.after b in
        while_good f.context os rs told k at b (lower_statement f t begun) branch ((good e h.0.0).branch h.0.1 d) (statement_good k t h.1 begun)
    form_good k (do_loop t e) at h b =
        let begun : Body = in_loop (next b.draft ∷ []) (add f.context skip at b.draft) b in
        let inside : Body = lower_statement f t begun in
        let behind : Draft = (at_end f.context at inside).draft in
        do_good f.context os rs told k at b inside ((meaning f.context e).branch behind) (statement_good k t h.0 begun) ((good e h.1.0).branch h.1.1 behind)
    form_good k (for_loop a e d t) at h b =
        let begun : Draft = maybe_unused f.context a b.draft in
        let head : Draft = add f.context skip at begun in
        let branch : Branch = maybe_branch f.context e head in
        let entered : Body = in_loop branch.yes branch.after b in
        let inside : Body = lower_statement f t entered in
        let behind : Draft = (at_end f.context at inside).draft in
        for_good f.context os rs told k at b inside begun branch (maybe_unused f.context d behind) (maybe_unused_good a h.0 b.draft) (maybe_branch_good e h.1 head)
        (statement_good k t h.3 entered) (maybe_unused_good d h.2 behind)
    form_good k (goto_name n) at h b = gone_good f.context os rs told k b n h
    form_good k continue_loop at h b = continued_good f.context os rs told k b
    form_good k break_out at h b = broken_good f.context os rs told k b
    form_good k (return_value e) at h b =
        let valued : Body = with_draft (maybe_returned f e at b.draft) b in
        goes_on f.context os rs told k b valued (returned valued) (goes_grown f.context os rs told k b (maybe_returned f e at b.draft) (value_returned f os rs v fits told e at b.draft h))
        (returned_good f.context os rs told k valued)

    other_good : (k : Option IntKind) (t : MaybeTypedStatement) → IsMaybeTypedStatement setting k t → (b : Body) → Goes f.context os rs told k b (lower_other f t b)
    other_good k no_statement h b = goes_nowhere f.context os rs told k b
    other_good k (some_statement t) h b = statement_good k t h b

    all_good : (k : Option IntKind) (ts : TypedStatements) → AreTypedStatements setting k ts → (b : Body) → Goes f.context os rs told k b (lower_all f ts b)
    all_good k no_statements h b = goes_nowhere f.context os rs told k b
    all_good k (next_statement t ts) h b = goes_on f.context os rs told k b (lower_statement f t b) _ (statement_good k t h.0 b) (all_good k ts h.1 (lower_statement f t b))
