-- What was typed stays so behind a rule: start values, objects of blocks, and statements.
use Rattle.std.proofs.Common.{◌≡◌, inl, inr, ℕ, Bool, true, false, List, [], ◌∷◌, Option, Some, None, refl, sym, subst, ◌∙◌, true≢false, ◌≤◌}
use Rattle.std.specs.Prelude.{slice_get}
use Rattle.sp_types.specs.declared.ctype.IntKind.{IntKind}
use Rattle.sp_types.specs.declared.program.Storage.{Storage}
use Rattle.sp_types.specs.declared.program.Storage.TheVariants.{Static, Outside, Text, Auto, Formal}
use Rattle.sp_types.specs.Types.{CType}
use Rattle.sp_types.specs.Typed.{Typed, of}
use Rattle.sp_types.specs.Structs.{IsTable}
use Rattle.sp_types.specs.Statements.{TypedStatement, typed_statement, TypedStatementForm, label, case_of, default_of, block, empty, single, if_else, switch_on, while_loop, do_loop, for_loop, goto_name, continue_loop, break_out, return_value, MaybeTypedStatement, no_statement, some_statement, TypedStatements, no_statements, next_statement}
use Rattle.sp_types.specs.Programs.{Object}
use Rattle.sp_ir.specs.Terrain.{size_of}
use Rattle.sp_check_typing.specs.Sorts.{same_value, IsStored}
use Rattle.sp_check_typing.specs.Trees.{Scene}
use Rattle.sp_check_typing.specs.Starts.{IsWholeValue, IsStarted}
use Rattle.sp_check_typing.specs.Statements.{Setting, IsCondition, IsMaybeTyped, IsMaybeCondition, IsReturned, IsEntered, IsDeclared, AreDeclared, IsTypedStatement, IsTypedForm, IsMaybeTypedStatement, AreTypedStatements, is_lasting}
use Rattle.sp_check_expr_laws.proofs.Grows.{has_size, IsStill, Grows, typed_stays, stored_stays}
use Rattle.sp_check_expr_laws.proofs.Starts.{leaves_stay}
use Rattle.sp_check_expr_laws.proofs.Envs.{IsKeptObject, KeepObjects}

-- what is declared, before it is known to be complete
pub record IsBegun (s : Scene) (n : ℕ) : Type 0 where
  pub object : Object
  pub there : slice_get s.objects n ≡ Some object
  pub visible : s.is_visible n ≡ true
  pub entered : IsEntered s object.storage object.of object.start

abbrev begun_of : (s : Scene) (n : ℕ) → IsDeclared s n → IsBegun s n
begun_of s n h = record { object = h.object; there = h.there; visible = h.visible; entered = h.entered }

pub lasting_entered : (r : Scene) (k : Storage) (t : CType) (es : List (ℕ × Typed))
    → is_lasting k ≡ true
    → IsEntered r k t es
lasting_entered r Auto t es h = absurd (true≢false (sym h))
lasting_entered r Static t es h = tt
lasting_entered r Outside t es h = tt
lasting_entered r Text t es h = tt
lasting_entered r Formal t es h = tt

-- ---- start values

module _ (s r : Scene) (table : IsTable s.structs) (g : Grows s r) where
  whole_stays : (t : CType) (es : List (ℕ × Typed)) → IsWholeValue s t es → IsWholeValue r t es
  whole_stays t [] h = absurd h
  whole_stays t (e ∷ es) h = (
    h.0,
    typed_stays s r g e.1 h.1,
    stored_stays s.structs r.structs g.stays t h.2,
    h.3,
  )

  pub started_stays : (t : CType) (es : List (ℕ × Typed)) → IsStarted s t es → IsStarted r t es
  started_stays t [] h = tt
  started_stays t (e ∷ es) (inl h) = inl (whole_stays t (e ∷ es) h)
  started_stays t (e ∷ es) (inr h) = inr (h.0, leaves_stay s r table g t (e ∷ es) h.1)

module _ (s r : Scene) (table : IsTable s.structs) (g : Grows s r)
    (kept : KeepObjects s.objects r.objects) where
  -- ---- objects of blocks

  entered_stays : (k : Storage) (t : CType) (es : List (ℕ × Typed)) → IsEntered s k t es
      → IsEntered r k t es
  entered_stays Auto t es h = started_stays s r table g t es h
  entered_stays Static t es h = tt
  entered_stays Outside t es h = tt
  entered_stays Text t es h = tt
  entered_stays Formal t es h = tt

  pub enters : (o x : Object) (b : Bool) → is_lasting o.storage ≡ b
      → (is_lasting o.storage ≡ true → is_lasting x.storage ≡ true)
      → (is_lasting o.storage ≡ false → x ≡ o) → IsEntered s o.storage o.of o.start
      → IsEntered r x.storage x.of x.start
  enters o x true e stored whole h = lasting_entered r x.storage x.of x.start (stored e)
  enters o x false e stored whole h =
      subst (λ y. IsEntered r y.storage y.of y.start) (sym (whole e))
      (entered_stays o.storage o.of o.start h)

  abbrev pub begun_stays : (n : ℕ) → IsBegun s n → IsBegun r n
  begun_stays n h =
      let x : IsKeptObject r.objects n h.object = kept n h.object h.there in
      let y : IsStill r n h.object = g.names n h.object h.there h.visible in
      record {
        object = x.object;
        there = x.there;
        visible = y.visible;
        entered = enters h.object x.object (is_lasting h.object.storage) refl x.stored x.whole
            h.entered;
      }

  -- its size stays where it doesn't last
  pub size_kept : (o x : Object) (b : Bool) → is_lasting o.storage ≡ b
      → (is_lasting o.storage ≡ true → is_lasting x.storage ≡ true)
      → (is_lasting o.storage ≡ false → x ≡ o)
      → (is_lasting o.storage ≡ false → 1 ≤ size_of s.structs o.of)
      → is_lasting x.storage ≡ false → 1 ≤ size_of r.structs x.of
  size_kept o x true e stored whole h passes = absurd (true≢false (sym (stored e) ∙ passes))
  size_kept o x false e stored whole h passes =
      subst (λ y. 1 ≤ size_of r.structs y.of) (sym (whole e)) (has_size s.structs r.structs g.stays o.of (h e))

  declared_stays : (n : ℕ) → IsDeclared s n → IsDeclared r n
  declared_stays n h =
      let x : IsKeptObject r.objects n h.object = kept n h.object h.there in
      let y : IsBegun r n = begun_stays n (begun_of s n h) in
      record {
        object = y.object;
        there = y.there;
        visible = y.visible;
        entered = y.entered;
        sized = size_kept h.object x.object (is_lasting h.object.storage) refl x.stored x.whole h.sized;
      }

  pub all_declared_stay : (ns : List ℕ) → AreDeclared s ns → AreDeclared r ns
  all_declared_stay [] h = tt
  all_declared_stay (n ∷ ns) h = (declared_stays n h.0, all_declared_stay ns h.1)

  -- ---- parts of statements

  pub condition_stays : (e : Typed) → IsCondition s e → IsCondition r e
  condition_stays e h = (typed_stays s r g e h.0, h.1)

  pub maybe_stays : (o : Option Typed) → IsMaybeTyped s o → IsMaybeTyped r o
  maybe_stays None h = tt
  maybe_stays (Some e) h = typed_stays s r g e h

  pub maybe_condition_stays : (o : Option Typed) → IsMaybeCondition s o → IsMaybeCondition r o
  maybe_condition_stays None h = tt
  maybe_condition_stays (Some e) h = condition_stays e h

  -- the result has a type to which goes what goes to the other
  module _ (labels : List ℕ) (t u : CType)
      (goes : (e : CType) → IsStored r.structs t × (same_value e t ≡ true)
      → IsStored r.structs u × (same_value e u ≡ true)) where
    abbrev before : Setting
    before = record { scene = s; labels = labels; result = t }

    abbrev behind : Setting
    behind = record { scene = r; labels = labels; result = u }

    returned_stays : (o : Option Typed) → IsReturned before o → IsReturned behind o
    returned_stays None h = tt
    returned_stays (Some e) h =
        let x = goes (of e) (stored_stays s.structs r.structs g.stays t h.1, h.2) in
        (typed_stays s r g e h.0, x.0, x.1)

    mutual
      pub statement_stays : (k : Option IntKind) (x : TypedStatement)
          → IsTypedStatement before k x → IsTypedStatement behind k x
      statement_stays k (typed_statement f place end) h = form_stays k f h

      form_stays : (k : Option IntKind) (f : TypedStatementForm) → IsTypedForm before k f
          → IsTypedForm behind k f
      form_stays k (label n x) h = statement_stays k x h
      form_stays k (case_of z x) h = (h.0, statement_stays k x h.1)
      form_stays k (default_of x) h = (h.0, statement_stays k x h.1)
      form_stays k (block ns xs) h = (all_declared_stay ns h.0, statements_stay k xs h.1)
      form_stays k empty h = tt
      form_stays k (single e) h = typed_stays s r g e h
      form_stays k (if_else e x other) h =
          (condition_stays e h.0, statement_stays k x h.1, other_stays k other h.2)
      form_stays k (switch_on e x) h =
          (typed_stays s r g e h.0, (h.1.0, h.1.1, statement_stays (Some h.1.0) x h.1.2))
      form_stays k (while_loop e x) h = (condition_stays e h.0, statement_stays k x h.1)
      form_stays k (do_loop x e) h = (statement_stays k x h.0, condition_stays e h.1)
      form_stays k (for_loop a e d x) h = (
        maybe_stays a h.0,
        maybe_condition_stays e h.1,
        maybe_stays d h.2,
        statement_stays k x h.3,
      )
      form_stays k (goto_name n) h = h
      form_stays k continue_loop h = tt
      form_stays k break_out h = tt
      form_stays k (return_value o) h = returned_stays o h

      other_stays : (k : Option IntKind) (x : MaybeTypedStatement)
          → IsMaybeTypedStatement before k x → IsMaybeTypedStatement behind k x
      other_stays k no_statement h = tt
      other_stays k (some_statement x) h = statement_stays k x h

      statements_stay : (k : Option IntKind) (xs : TypedStatements)
          → AreTypedStatements before k xs → AreTypedStatements behind k xs
      statements_stay k no_statements h = tt
      statements_stay k (next_statement x xs) h =
          (statement_stays k x h.0, statements_stay k xs h.1)
