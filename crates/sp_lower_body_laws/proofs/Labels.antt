-- The labels of a body are those of its statements, and each goto of a sound body has its node.
use Rattle.std.proofs.Common.{◌≡◌, ℕ, zero, suc, ◌==◌, Bool, true, false, List, [], ◌∷◌, ◌++◌, map, Some, slice_get, if◌then◌else◌, refl, ap, sym, ◌∙◌, subst, eq-eqb}
use Rattle.std.specs.Prelude.{All}
use Rattle.std.proofs.lemmas.Option.{none-some}
use Rattle.std.proofs.lemmas.List.Elements.{All-head, All-tail, All-map, All-weaker}
use Rattle.sp_tree.specs.declared.fault.Place.{Place}
use Rattle.sp_types.specs.Statements.{TypedStatement, typed_statement, TypedStatementForm, label, case_of, default_of, block, empty, single, if_else, switch_on, while_loop, do_loop, for_loop, goto_name, continue_loop, break_out, return_value, MaybeTypedStatement, no_statement, some_statement, TypedStatements, no_statements, next_statement}
use Rattle.sp_ir.specs.Commands.{skip, Node}
use Rattle.sp_ir.specs.Formed.{IsEdge}
use Rattle.sp_lower_draft.specs.Draft.{Branch, next, with_loose, add}
use Rattle.sp_lower_draft.specs.Expressions.{meaning}
use Rattle.sp_lower_body.specs.Frames.{Frame}
use Rattle.sp_lower_body.specs.Bodies.{Body, with_draft, labelled, marked, case_marked, in_loop}
use Rattle.sp_lower_body.specs.Cases.{case_values}
use Rattle.sp_lower_body.specs.Declarations.{declare_all}
use Rattle.sp_lower_body.specs.Statements.{maybe_unused, maybe_branch, begin_switch, lower_statement, lower_form, lower_other, lower_all}
use Rattle.sp_lower_functions.specs.Functions.{label_node, goto_edges}
use Rattle.sp_check_typing.specs.Statements.{labels_in, form_labels, other_labels, all_labels}
use Rattle.sp_lower_expr_laws.specs.Grown.{IsHead}
use Rattle.sp_lower_expr_laws.proofs.Sorts.{false_true}
use Rattle.sp_lower_body_laws.specs.Bodies.{IsGoto}

-- ---- lists

append_nil : (xs : List ℕ) → xs ≡ xs ++ []
append_nil [] = refl
append_nil (x ∷ xs) = ap (λ ys. x ∷ ys) (append_nil xs)

append_more : (xs ys zs : List ℕ) → (xs ++ ys) ++ zs ≡ xs ++ (ys ++ zs)
append_more [] ys zs = refl
append_more (x ∷ xs) ys zs = ap (λ ws. x ∷ ws) (append_more xs ys zs)

names_more : (ls : List (ℕ × ℕ)) (l : ℕ × ℕ) → map (λ k. k.0) (ls ++ l ∷ []) ≡ map (λ k. k.0) ls ++ l.0 ∷ []
names_more [] l = refl
names_more (k ∷ ls) l = ap (λ ws. k.0 ∷ ws) (names_more ls l)

-- the labels that a body has
abbrev pub names : Body → List ℕ
names b = map (λ l. l.0) b.labels

-- behind two parts, one behind the other
both_named : (a b d : Body) (xs ys : List ℕ) → names b ≡ names a ++ xs → names d ≡ names b ++ ys → names d ≡ names a ++ (xs ++ ys)
both_named a b d xs ys h k = k ∙ ap (λ ws. ws ++ ys) h ∙ append_more (names a) xs ys

module _ (f : Frame) where
  mutual
    pub labels_named : (t : TypedStatement) (b : Body) → names (lower_statement f t b) ≡ names b ++ labels_in t
    labels_named (typed_statement form place end) b = form_named form place b

    form_named : (form : TypedStatementForm) (at : Place) (b : Body) → names (lower_form f form at b) ≡ names b ++ form_labels form
    form_named (label n t) at b =
        let begun : Body = labelled f.context n at b in
        both_named b begun (lower_statement f t begun) (n ∷ []) (labels_in t) (names_more b.labels (n, next b.draft)) (labels_named t begun)
    form_named (case_of z t) at b = labels_named t (case_marked f.context at b)
    form_named (default_of t) at b = labels_named t (marked f.context b.otherwise at b)
    form_named (block ns ts) at b = all_named ts (with_draft (declare_all f ns b.draft) b)
    form_named empty at b = append_nil (names b)
    form_named (single e) at b = append_nil (names b)
    form_named (if_else e t other) at b =
        let branch : Branch = (meaning f.context e).branch b.draft in
        let begun : Body = with_draft (with_loose branch.yes branch.after) b in
        let one : Body = lower_statement f t begun in
        let again : Body = with_draft (with_loose branch.no one.draft) one in
        both_named b one (lower_other f other again) (labels_in t) (other_labels other) (labels_named t begun) (other_named other again)
    form_named (switch_on e t) at b = labels_named t (begin_switch f.context e at (case_values t) b)
    form_named (while_loop e t) at b =
        let branch : Branch = (meaning f.context e).branch (add f.context skip at b.draft) in
        labels_named t (in_loop branch.yes branch.after b)
    form_named (do_loop t e) at b = labels_named t (in_loop (next b.draft ∷ []) (add f.context skip at b.draft) b)
    form_named (for_loop a e d t) at b =
        let branch : Branch = maybe_branch f.context e (add f.context skip at (maybe_unused f.context a b.draft)) in
        labels_named t (in_loop branch.yes branch.after b)
    form_named (goto_name n) at b = append_nil (names b)
    form_named continue_loop at b = append_nil (names b)
    form_named break_out at b = append_nil (names b)
    form_named (return_value e) at b = append_nil (names b)

    other_named : (t : MaybeTypedStatement) (b : Body) → names (lower_other f t b) ≡ names b ++ other_labels t
    other_named no_statement b = append_nil (names b)
    other_named (some_statement t) b = labels_named t b

    all_named : (ts : TypedStatements) (b : Body) → names (lower_all f ts b) ≡ names b ++ all_labels ts
    all_named no_statements b = append_nil (names b)
    all_named (next_statement t ts) b =
        let one : Body = lower_statement f t b in
        both_named b one (lower_all f ts one) (labels_in t) (all_labels ts) (labels_named t b) (all_named ts one)

-- ---- gotos

some_is : {A : Type 0} (x y : A) → Some x ≡ Some y → x ≡ y
some_is x y e = cc

-- the node of a label that is there
label_head : (nodes : List Node) (f : ℕ) (ls : List (ℕ × ℕ)) (n i : ℕ) → slice_get (map (λ l. l.0) ls) i ≡ Some n → All (λ l. IsHead nodes f l.1) ls → IsHead nodes f (label_node ls n)
label_head nodes f [] n i e h = absurd (none-some n e)
label_head nodes f (l ∷ ls) n i e h = by (l.0 == n) refl i e (λ j e. label_head nodes f ls n j e (All-tail (λ l. IsHead nodes f l.1) l ls h))
  where
    by : (b : Bool) → (l.0 == n) ≡ b → (i : ℕ) → slice_get (map (λ l. l.0) (l ∷ ls)) i ≡ Some n → ((j : ℕ) → slice_get (map (λ l. l.0) ls) j ≡ Some n → IsHead nodes f (label_node ls n))
        → IsHead nodes f (if b then l.1 else label_node ls n)
    by true k i e rest = All-head (λ l. IsHead nodes f l.1) l ls h
    by false k zero e rest = false_true (sym k ∙ eq-eqb l.0 n (some_is l.0 n e))
    by false k (suc i) e rest = rest i e

pub gotos_good : (nodes : List Node) (f : ℕ) (told : List ℕ) (ls gs : List (ℕ × ℕ)) → told ≡ map (λ l. l.0) ls → All (λ l. IsHead nodes f l.1) ls → All (IsGoto nodes f told) gs
    → All (λ e. IsEdge nodes e.0 e.1) (goto_edges ls gs)
gotos_good nodes f told ls gs same heads h =
    All-map (λ e. IsEdge nodes e.0 e.1) (λ (g : ℕ × ℕ). (g.0, label_node ls g.1)) gs
    (All-weaker (IsGoto nodes f told) (λ g. IsEdge nodes g.0 (label_node ls g.1))
    (λ g k. let w : IsHead nodes f (label_node ls g.1) = label_head nodes f ls g.1 k.index (subst (λ xs. slice_get xs k.index ≡ Some g.1) same k.there) heads in
    record { first = k.end.node; second = w.node; begins = k.end.there; ends = w.there; one_function = k.end.function ∙ sym w.function; leaves = k.end.begins; enters = w.ends }) gs h)
