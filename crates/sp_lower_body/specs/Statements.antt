-- The nodes and edges of statements (C90 6.6).
use Rattle.std.specs.Prelude.{ℕ, ℤ, List, [], ◌∷◌, Option, Some, None, length}
use Rattle.sp_tree.specs.declared.fault.Place.{Place}
use Rattle.sp_tree.specs.declared.token.Punct.TheVariants.{EqualEqual}
use Rattle.sp_types.specs.declared.ctype.IntKind.{IntKind}
use Rattle.sp_types.specs.Typed.{Typed, of, place_of}
use Rattle.sp_types.specs.Statements.{TypedStatement, typed_statement, TypedStatementForm, label, case_of, default_of, block, empty, single, if_else, switch_on, while_loop, do_loop, for_loop, goto_name, continue_loop, break_out, return_value, MaybeTypedStatement, no_statement, some_statement, TypedStatements, no_statements, next_statement}
use Rattle.sp_ir.specs.Commands.{Expression, number, direct, assume, skip}
use Rattle.sp_lower_draft.specs.Context.{Context, kind_of}
use Rattle.sp_lower_draft.specs.Draft.{Draft, Left, left, Branch, next, with_loose, add, stored}
use Rattle.sp_lower_draft.specs.Expressions.{operand, value_of, meaning}
use Rattle.sp_lower_body.specs.Frames.{Frame}
use Rattle.sp_lower_body.specs.Bodies.{Body, with_draft, meeting, gone, continued, broken, returned, labelled, marked, case_marked, in_loop, at_end, out_of_while, out_of_do, out_of_for, in_switch, out_of_switch}
use Rattle.sp_lower_body.specs.Cases.{case_values, has_default}
use Rattle.sp_lower_body.specs.Declarations.{declare_all}

-- ---- expressions in statements

abbrev pub maybe_unused : Context → Option Typed → Draft → Draft
maybe_unused c None s = s
maybe_unused c (Some e) s = (meaning c e).unused s

-- the branch of a `for`, where it has a condition
abbrev pub maybe_branch : Context → Option Typed → Draft → Branch
maybe_branch c None s = record { after = with_loose [] s; yes = s.loose; no = [] }
maybe_branch c (Some e) s = (meaning c e).branch s

-- the value of a `return` goes to the function's result
abbrev pub maybe_returned : Frame → Option Typed → Place → Draft → Draft
maybe_returned f None place s = s
maybe_returned f (Some e) place s =
    let v : Left Expression = value_of (operand f.context e) s in
    add f.context (stored (direct f.result f.result_type) f.result_type v.pure) place v.after

-- ---- the header of a switch

-- from the same ends one node for each value: the nodes
abbrev pub assume_each : Context → Expression → IntKind → Place → List ℕ → List ℤ → Draft
    → Left (List ℕ)
assume_each c v kind place ends [] s = left [] s
assume_each c v kind place ends (z ∷ zs) s =
    let rest : Left (List ℕ) = assume_each c v kind place ends zs
    (add c (assume v EqualEqual (number z kind)) place (with_loose ends s)) in
    left (length s.nodes ∷ rest.pure) rest.after

pub record Head : Type 0 where
  pub cases : List ℕ
  pub otherwise : ℕ

-- the values' nodes, then the default's, each from the ends of the switch expression. No end is
-- loose then.
abbrev pub switch_head : Context → Typed → Place → List ℤ → Draft → Left Head
switch_head c e place zs s =
    let v : Left Expression = value_of (operand c e) s in
    let each : Left (List ℕ) =
    assume_each c v.pure (kind_of (of e)) (place_of e) v.after.loose zs v.after in
    left (record { cases = each.pure; otherwise = next each.after })
    (with_loose [] (add c skip place (with_loose v.after.loose each.after)))

abbrev pub begin_switch : Context → Typed → Place → List ℤ → Body → Body
begin_switch c e place zs b =
    let head : Left Head = switch_head c e place zs b.draft in
    in_switch head.pure.cases head.pure.otherwise head.after b

-- ---- all forms

abbrev mutual
  pub lower_statement : Frame → TypedStatement → Body → Body
  lower_statement f (typed_statement form place end) b = lower_form f form place b

  pub lower_form : Frame → TypedStatementForm → Place → Body → Body
  lower_form f (label n s) place b = lower_statement f s (labelled f.context n place b)
  lower_form f (case_of z s) place b = lower_statement f s (case_marked f.context place b)
  lower_form f (default_of s) place b =
      lower_statement f s (marked f.context b.otherwise place b)
  lower_form f (block ns ss) place b = lower_all f ss (with_draft (declare_all f ns b.draft) b)
  lower_form f empty place b = b
  lower_form f (single e) place b = with_draft ((meaning f.context e).unused b.draft) b
  lower_form f (if_else e s other) place b =
      let branch : Branch = (meaning f.context e).branch b.draft in
      let one : Body = lower_statement f s (with_draft (with_loose branch.yes branch.after) b) in
      let two : Body = lower_other f other (with_draft (with_loose branch.no one.draft) one) in
      meeting one.draft.loose two
  lower_form f (switch_on e s) place b =
      let inside : Body =
      lower_statement f s (begin_switch f.context e place (case_values s) b) in
      out_of_switch b.breaks b.cases b.otherwise (has_default s) inside
  lower_form f (while_loop e s) place b =
      let branch : Branch = (meaning f.context e).branch (add f.context skip place b.draft) in
      let inside : Body = lower_statement f s (in_loop branch.yes branch.after b) in
      out_of_while b.breaks b.continues (next b.draft) branch.no inside
  lower_form f (do_loop s e) place b =
      let inside : Body = lower_statement f s
      (in_loop (next b.draft ∷ []) (add f.context skip place b.draft) b) in
      let behind : Body = at_end f.context place inside in
      let branch : Branch = (meaning f.context e).branch behind.draft in
      out_of_do b.breaks b.continues (next b.draft) branch behind
  lower_form f (for_loop first test step s) place b =
      let begun : Draft = maybe_unused f.context first b.draft in
      let branch : Branch = maybe_branch f.context test (add f.context skip place begun) in
      let inside : Body = lower_statement f s (in_loop branch.yes branch.after b) in
      let behind : Body = at_end f.context place inside in
      let last : Body = with_draft (maybe_unused f.context step behind.draft) behind in
      out_of_for b.breaks b.continues (next begun) branch.no last
  lower_form f (goto_name n) place b = gone n b
  lower_form f continue_loop place b = continued b
  lower_form f break_out place b = broken b
  lower_form f (return_value e) place b =
      returned (with_draft (maybe_returned f e place b.draft) b)

  pub lower_other : Frame → MaybeTypedStatement → Body → Body
  lower_other f no_statement b = b
  lower_other f (some_statement s) b = lower_statement f s b

  pub lower_all : Frame → TypedStatements → Body → Body
  lower_all f no_statements b = b
  lower_all f (next_statement s ss) b = lower_all f ss (lower_statement f s b)
