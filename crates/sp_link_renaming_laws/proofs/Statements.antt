-- Well-typed bodies of a unit's functions are well typed in its program.
use Rattle.std.proofs.Common.{◌≡◌, ℕ, Bool, List, [], ◌∷◌, ◌++◌, map, Option, Some, None, refl, sym, ap, ap₂, subst}
use Rattle.std.specs.Prelude.{option_map}
use Rattle.sp_types.specs.declared.ctype.IntKind.{IntKind}
use Rattle.sp_types.specs.Types.{CType}
use Rattle.sp_types.specs.Typed.{Typed, of}
use Rattle.sp_types.specs.Statements.{TypedStatement, typed_statement, TypedStatementForm, label, case_of, default_of, block, empty, single, if_else, switch_on, while_loop, do_loop, for_loop, goto_name, continue_loop, break_out, return_value, MaybeTypedStatement, no_statement, some_statement, TypedStatements, no_statements, next_statement}
use Rattle.sp_link_renaming.specs.Renaming.{Renaming, number_in, renamed, renamed_statement, renamed_statement_form, renamed_other, all_renamed_statements}
use Rattle.sp_check_typing.specs.Trees.{Scene}
use Rattle.sp_check_typing.specs.Statements.{labels_in, form_labels, other_labels, all_labels, Setting, IsCondition, IsMaybeTyped, IsMaybeCondition, IsReturned, IsDeclared, AreDeclared, IsTypedStatement, IsTypedForm, IsMaybeTypedStatement, AreTypedStatements}
use Rattle.sp_check_typing.specs.Refines.{Refines}
use Rattle.sp_link_renaming_laws.specs.Follows.{lacks_layout, Follows}
use Rattle.sp_link_renaming_laws.specs.Laws.{IsRenamed, BodiesAreRenamed}
use Rattle.sp_link_renaming_laws.proofs.Types.{integer_is, scalar_kept, value_kept, stored_kept, known_closed, stored_known}
use Rattle.sp_link_renaming_laws.proofs.Trees.{renamed_tree}

-- ---- labels

module _ (r : Renaming) where
  mutual
    labels_kept : (x : TypedStatement) → labels_in (renamed_statement r x) ≡ labels_in x
    labels_kept (typed_statement f p e) = form_labels_kept f

    form_labels_kept : (f : TypedStatementForm) → form_labels (renamed_statement_form r f) ≡ form_labels f
    form_labels_kept (label n x) = ap (λ ls. n ∷ ls) (labels_kept x)
    form_labels_kept (case_of z x) = labels_kept x
    form_labels_kept (default_of x) = labels_kept x
    form_labels_kept (block ns xs) = all_labels_kept xs
    form_labels_kept empty = refl
    form_labels_kept (single e) = refl
    form_labels_kept (if_else e x other) = ap₂ (λ a b. a ++ b) (labels_kept x) (other_labels_kept other)
    form_labels_kept (switch_on e x) = labels_kept x
    form_labels_kept (while_loop e x) = labels_kept x
    form_labels_kept (do_loop x e) = labels_kept x
    form_labels_kept (for_loop a e d x) = labels_kept x
    form_labels_kept (goto_name n) = refl
    form_labels_kept continue_loop = refl
    form_labels_kept break_out = refl
    form_labels_kept (return_value e) = refl

    other_labels_kept : (o : MaybeTypedStatement) → other_labels (renamed_other r o) ≡ other_labels o
    other_labels_kept no_statement = refl
    other_labels_kept (some_statement x) = labels_kept x

    all_labels_kept : (xs : TypedStatements) → all_labels (all_renamed_statements r xs) ≡ all_labels xs
    all_labels_kept no_statements = refl
    all_labels_kept (next_statement x xs) = ap₂ (λ a b. a ++ b) (labels_kept x) (all_labels_kept xs)

-- ---- statements

module _ (r : Renaming) (s p : Scene) (w : Follows r s p) (t u : CType) (told : Refines (lacks_layout s.structs) (number_in r.structs) t u)
    (entered : (n : ℕ) → IsDeclared s n → IsDeclared p (number_in r.objects n)) (labels : List ℕ) where
  abbrev o : ℕ → Bool
  o = lacks_layout s.structs

  abbrev f : ℕ → ℕ
  f = number_in r.structs

  abbrev before : Setting
  before = record { scene = s; labels = labels; result = t }

  abbrev later : Setting
  later = record { scene = p; labels = labels; result = u }

  declared_kept : (ns : List ℕ) → AreDeclared s ns → AreDeclared p (map (number_in r.objects) ns)
  declared_kept [] h = tt
  declared_kept (n ∷ ns) h = (entered n h.0, declared_kept ns h.1)

  condition_kept : (e : Typed) → IsCondition s e → IsCondition p (renamed r e)
  condition_kept e h =
      let x : IsRenamed o r p e = renamed_tree r s p w e h.0 in
      (x.typed, scalar_kept o f (of e) (of (renamed r e)) x.refines h.1)

  maybe_kept : (e : Option Typed) → IsMaybeTyped s e → IsMaybeTyped p (option_map (renamed r) e)
  maybe_kept None h = tt
  maybe_kept (Some e) h = (renamed_tree r s p w e h).typed

  maybe_condition_kept : (e : Option Typed) → IsMaybeCondition s e → IsMaybeCondition p (option_map (renamed r) e)
  maybe_condition_kept None h = tt
  maybe_condition_kept (Some e) h = condition_kept e h

  returned_kept : (e : Option Typed) → IsReturned before e → IsReturned later (option_map (renamed r) e)
  returned_kept None h = tt
  returned_kept (Some e) h =
      let x : IsRenamed o r p e = renamed_tree r s p w e h.0 in (
        x.typed,
        stored_kept r s p w t u told h.1,
        value_kept o f (of e) (of (renamed r e)) t u x.refines told
            (known_closed r s p w t (stored_known r s p w t h.1)) h.2,
      )

  mutual
    statement_kept : (k : Option IntKind) (x : TypedStatement) → IsTypedStatement before k x
        → IsTypedStatement later k (renamed_statement r x)
    statement_kept k (typed_statement f q e) h = form_kept k f h

    form_kept : (k : Option IntKind) (f : TypedStatementForm) → IsTypedForm before k f
        → IsTypedForm later k (renamed_statement_form r f)
    form_kept k (label n x) h = statement_kept k x h
    form_kept k (case_of z x) h = (h.0, statement_kept k x h.1)
    form_kept k (default_of x) h = (h.0, statement_kept k x h.1)
    form_kept k (block ns xs) h = (declared_kept ns h.0, statements_kept k xs h.1)
    form_kept k empty h = tt
    form_kept k (single e) h = (renamed_tree r s p w e h).typed
    form_kept k (if_else e x other) h =
        (condition_kept e h.0, statement_kept k x h.1, other_kept k other h.2)
    form_kept k (switch_on e x) h =
        let y : IsRenamed o r p e = renamed_tree r s p w e h.0 in (
          y.typed,
          (
            h.1.0,
            integer_is o f h.1.0 (of e) (of (renamed r e)) y.refines h.1.1,
            statement_kept (Some h.1.0) x h.1.2,
          ),
        )
    form_kept k (while_loop e x) h = (condition_kept e h.0, statement_kept k x h.1)
    form_kept k (do_loop x e) h = (statement_kept k x h.0, condition_kept e h.1)
    form_kept k (for_loop a e d x) h =
        (maybe_kept a h.0, maybe_condition_kept e h.1, maybe_kept d h.2, statement_kept k x h.3)
    form_kept k (goto_name n) h = h
    form_kept k continue_loop h = tt
    form_kept k break_out h = tt
    form_kept k (return_value e) h = returned_kept e h

    other_kept : (k : Option IntKind) (o : MaybeTypedStatement) → IsMaybeTypedStatement before k o
        → IsMaybeTypedStatement later k (renamed_other r o)
    other_kept k no_statement h = tt
    other_kept k (some_statement x) h = statement_kept k x h

    statements_kept : (k : Option IntKind) (xs : TypedStatements) → AreTypedStatements before k xs
        → AreTypedStatements later k (all_renamed_statements r xs)
    statements_kept k no_statements h = tt
    statements_kept k (next_statement x xs) h = (statement_kept k x h.0, statements_kept k xs h.1)

  pub kept : (x : TypedStatement) → IsTypedStatement before None x → IsTypedStatement later None (renamed_statement r x)
  kept x h = statement_kept None x h

pub bodies_renamed : BodiesAreRenamed
bodies_renamed r s p t u body w told entered h =
    subst (λ ls. IsTypedStatement (record { scene = p; labels = ls; result = u }) None (renamed_statement r body)) (sym (labels_kept r body))
    (kept r s p w t u told entered (labels_in body) body h)
