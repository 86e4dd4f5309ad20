-- Calls (C90 6.3.2.2).
use Rattle.std.proofs.Common.{◌≡◌, ℕ, suc, ◌≤◌, ◌==◌, Bool, true, false, not, ◌&&◌, ◌||◌, List, [], ◌∷◌, length, Option, Some, None, if◌then◌else◌, refl, ap, sym, ◌∙◌, subst, eqb-true}
use Rattle.std.specs.Prelude.{⊤, All}
use Rattle.std.specs.List.{list_any}
use Rattle.std.proofs.lemmas.Option.{none-some}
use Rattle.std.proofs.lemmas.List.Elements.{All-nil, All-cons}
use Rattle.sp_types.specs.Types.{CType, void, integer, floating, pointer, array, structure, function}
use Rattle.sp_types.specs.Structs.{IsFormed}
use Rattle.sp_types.specs.Typed.{Typed, of, place_of}
use Rattle.sp_ir.specs.declared.command.Routine.{Routine}
use Rattle.sp_ir.specs.Commands.{Expression, Lvalue, library, outside, lvalue_type, expression_type}
use Rattle.sp_ir.specs.Regions.{Region}
use Rattle.sp_ir.specs.Programs.{Object}
use Rattle.sp_ir.specs.Formed.{IsExpression, IsScalar, IsResult, IsScalarResult, HasPointer, is_pointer, is_scalar, is_struct, is_floating, argument_count, allocates}
use Rattle.sp_ir.specs.Terrain.{size_of}
use Rattle.sp_lower_draft.specs.Context.{Context, is_void, pointee, pointee_size, has_pointer, routine_named}
use Rattle.sp_lower_draft.specs.Draft.{Draft, Left, left, with_loose, add, temporary, keep}
use Rattle.sp_lower_draft.specs.Adds.{adds}
use Rattle.sp_lower_draft.specs.Steps.{loaded}
use Rattle.sp_lower_draft.specs.Calls.{result_of, comes_back, next_site, with_site, element_given, library_called, outside_called, are_scalar, fits, if_fits, routine_called, undefined_by, defined_called, result_place}
use Rattle.sp_lower_draft.specs.Expressions.{Meaning, Operand, operand_of, value_of, plain, arguments, trees, callee_and_arguments, undefined_callee, called_by, called, call_place}
use Rattle.sp_lower_draft.specs.Expressions as forms
use Rattle.sp_check_typing.specs.Sorts.{IsStored}
use Rattle.sp_check_typing.specs.Trees.{has_place, IsCalled}
use Rattle.sp_lower_expr_laws.specs.Stands.{table, Fits, Holds, IsSiteObject}
use Rattle.sp_lower_expr_laws.specs.Grown.{IsEnd, Grown, IsMaybeFormed, IsNext}
use Rattle.sp_lower_expr_laws.specs.Grown as grown
use Rattle.sp_lower_expr_laws.specs.Uses.{IsValue, Designates, Gives, IsGood}
use Rattle.sp_lower_expr_laws.proofs.Growing.{before_all, onward, back, pushed_last}
use Rattle.sp_lower_expr_laws.proofs.Sorts.{false_true, agrees_self, pointer_scalar, scalar_there, scalar_stored, stored_there}
use Rattle.sp_lower_expr_laws.proofs.Loads.{loaded_good}
use Rattle.sp_lower_expr_laws.proofs.Keeps.{gives_made, stored_sized, stored_floating, IsKept, temporary_good, keep_good}
use Rattle.sp_lower_expr_laws.proofs.Operators.{pointer_value, scalar_value}
use Rattle.sp_lower_expr_laws.proofs.Plain.{compared_good}
use Rattle.sp_lower_expr_laws.proofs.Assignments.{kept_whole}

-- what each argument gives
abbrev pub AreValues : Context → List Object → List Operand → List Expression → Type 0
AreValues c os [] [] = ⊤
AreValues c os [] (v ∷ vs) = ⊥
AreValues c os (a ∷ es) [] = ⊥
AreValues c os (a ∷ es) (v ∷ vs) = IsValue c os (of a.tree) v × AreValues c os es vs

-- operands whose uses are good, and whose values can be kept
pub data AllGood (c : Context) (os : List Object) (rs : List Region) : List Operand → Type 0 where
  all_none : AllGood c os rs []
  all_next : {es : List Operand} (e : Typed) (m : Meaning) → IsGood c os rs e m → IsFormed c.structs (of e) → IsStored c.structs (of e) → AllGood c os rs es
      → AllGood c os rs (operand_of m e ∷ es)

module _ (c : Context) (os : List Object) (rs : List Region) where
  values_formed : (es : List Operand) (vs : List Expression) → AreValues c os es vs → All (IsExpression (table c os) (Some c.function)) vs
  values_formed [] [] h = All-nil (IsExpression (table c os) (Some c.function))
  values_formed [] (v ∷ vs) h = absurd h
  values_formed (a ∷ es) [] h = absurd h
  values_formed (a ∷ es) (v ∷ vs) h = All-cons (IsExpression (table c os) (Some c.function)) v vs h.0.0 (values_formed es vs h.1)

  both_true : (a b : Bool) → (a && b) ≡ true → (a ≡ true) × (b ≡ true)
  both_true true b h = (refl, h)
  both_true false b h = false_true h

  values_scalar : (es : List Operand) (vs : List Expression) → are_scalar (trees es) ≡ true → AreValues c os es vs → All (IsScalar (table c os) (Some c.function)) vs
  values_scalar [] [] k h = All-nil (IsScalar (table c os) (Some c.function))
  values_scalar [] (v ∷ vs) k h = absurd h
  values_scalar (a ∷ es) [] k h = absurd h
  values_scalar (a ∷ es) (v ∷ vs) k h =
      let w : (is_scalar (of a.tree) ≡ true) × (are_scalar (trees es) ≡ true) = both_true (is_scalar (of a.tree)) (are_scalar (trees es)) k in
      All-cons (IsScalar (table c os) (Some c.function)) v vs (h.0.0, scalar_value c (of a.tree) v w.0 h.0.1) (values_scalar es vs w.1 h.1)

  values_counted : (es : List Operand) (vs : List Expression) → AreValues c os es vs → length vs ≡ length (trees es)
  values_counted [] [] h = refl
  values_counted [] (v ∷ vs) h = absurd h
  values_counted (a ∷ es) [] h = absurd h
  values_counted (a ∷ es) (v ∷ vs) h = ap (λ n. suc n) (values_counted es vs h.1)

  pub arguments_good : (es : List Operand) → AllGood c os rs es → (s : Draft) → Gives c os rs (AreValues c os es) s (arguments c es s)
  arguments_good [] all_none s = record { grown = grown.same; pure = λ h. tt }
  arguments_good (a ∷ es) (all_next e m g f st gs) s =
      let later : Bool = list_any (λ (b : Operand). adds b.tree) es in
      let v : Left Expression = m.value None s in
      let kept : Left Expression = keep c later e v.pure v.after in
      let others : Left (List Expression) = arguments c es kept.after in
      let gv : Gives c os rs (IsValue c os (of e)) s v = g.value (stored_there c.structs (of e) st) None tt s in
      let gk : Gives c os rs (IsValue c os (of e)) v.after kept = keep_good c os rs later e v.pure v.after f st gv.pure in
      let go : Gives c os rs (AreValues c os es) kept.after others = arguments_good es gs kept.after in
      record { grown = onward gv.grown (onward gk.grown go.grown); pure = λ h. (gk.pure (back go.grown h), go.pure h) }

  -- ---- results

  -- where a result goes
  abbrev IsOutcome : CType → Bool → Option Lvalue → Type 0
  IsOutcome t used None = (used && not (is_void t)) ≡ false
  IsOutcome t used (Some l) = IsKept c os rs t l × IsStored c.structs t

  result_good : (used : Bool) (t : CType) (s : Draft) → IsCalled c.structs t → IsFormed c.structs t → Gives c os rs (IsOutcome t used) s (result_of c used t s)
  result_good used t s h f = by (used && not (is_void t)) refl
    where
      stored : (t : CType) → (used && not (is_void t)) ≡ true → IsCalled c.structs t → IsStored c.structs t
      stored void k h = false_true (sym (neither used) ∙ k)
        where
          neither : (b : Bool) → (b && false) ≡ false
          neither true = refl
          neither false = refl
      stored (integer i) k h = h
      stored (floating i) k h = h
      stored (pointer u) k h = h
      stored (array u n) k h = h
      stored (structure i) k h = h
      stored (function r) k h = h

      by : (b : Bool) → (used && not (is_void t)) ≡ b
          → Gives c os rs (IsOutcome t used) s (if b then (let made : Left Lvalue = temporary c t s in left (Some made.pure) made.after) else left None s)
      by true k =
          let st : IsStored c.structs t = stored t k h in
          let g : Gives c os rs (IsKept c os rs t) s (temporary c t s) = temporary_good c os rs t s f (stored_floating c t st) in
          record { grown = g.grown; pure = λ q. (g.pure q, st) }
      by false k = record { grown = grown.same; pure = λ q. k }

  -- it is a target of a return
  outcome_result : (t : CType) (used : Bool) (to : Option Lvalue) → IsOutcome t used to → IsResult (table c os) (Some c.function) to
  outcome_result t used None h = tt
  outcome_result t used (Some l) h =
      (h.0.0, subst (λ u. (is_scalar u || is_struct u) ≡ true) (sym h.0.1) (stored_sort t h.1), subst (λ u. 1 ≤ size_of c.structs u) (sym h.0.1) (stored_sized c t t (agrees_self t (stored_floating c t h.1)) h.1))
    where
      stored_sort : (t : CType) → IsStored c.structs t → (is_scalar t || is_struct t) ≡ true
      stored_sort (integer i) h = refl
      stored_sort (pointer u) h = refl
      stored_sort (structure i) h = refl
      stored_sort void h = absurd h
      stored_sort (floating i) h = absurd h
      stored_sort (array u n) h = absurd h
      stored_sort (function r) h = absurd h

  outcome_scalar : (t : CType) (used : Bool) (to : Option Lvalue) → (is_scalar t || is_void t) ≡ true → IsOutcome t used to → IsScalarResult (table c os) (Some c.function) to
  outcome_scalar t used None k h = tt
  outcome_scalar t used (Some l) k h = (h.0.0, subst (λ u. is_scalar u ≡ true) (sym h.0.1) (by t k h.1))
    where
      by : (t : CType) → (is_scalar t || is_void t) ≡ true → IsStored c.structs t → is_scalar t ≡ true
      by (integer i) k h = refl
      by (pointer u) k h = refl
      by (structure i) k h = k
      by void k h = absurd h
      by (floating i) k h = k
      by (array u n) k h = k
      by (function r) k h = k

  -- ---- defined functions

  defined_good : (e : Typed) (used : Bool) (callee : Expression) (args : List Expression) (s : Draft) → IsCalled c.structs (of e) → IsFormed c.structs (of e)
      → (Holds c os s → IsExpression (table c os) (Some c.function) callee × (is_pointer (expression_type callee) ≡ true) × All (IsExpression (table c os) (Some c.function)) args)
      → Gives c os rs (IsOutcome (of e) used) s (defined_called c e used callee args s)
  defined_good e used callee args s h f k =
      let to : Left (Option Lvalue) = result_of c used (of e) s in
      let g : Gives c os rs (IsOutcome (of e) used) s to = result_good used (of e) s h f in
      record {
        grown = grown.called callee args to.pure (place_of e) g.grown (λ q. k (back g.grown q)) (λ q. outcome_result (of e) used to.pure (g.pure q));
        pure = λ q. g.pure (record { temporaries = q.temporaries; sites = q.sites });
      }

  -- ---- outside functions

  -- a site at the next node
  site_at : (s : Draft) (of : Option CType) (heap : Bool) → Holds c os (with_site of heap s) → IsSiteObject os (next_site c s) (record { node = length s.nodes; of = of; heap = heap })
  site_at s of heap h = h.sites (length s.sites) (record { node = length s.nodes; of = of; heap = heap }) (pushed_last s.sites (record { node = length s.nodes; of = of; heap = heap }))

  unsited : (s : Draft) (of : Option CType) (heap : Bool) → Holds c os (with_site of heap s) → Holds c os s
  unsited s of heap h = record { temporaries = h.temporaries; sites = λ i x e. h.sites i x (before_all s.sites _ i x e) }

  module _ (v : ℕ → Bool) (stands : Fits c os v) where
    outside_good : (e : Typed) (used : Bool) (args : List Expression) (to : Option Lvalue) (s : Draft)
        → (Holds c os s → All (IsExpression (table c os) (Some c.function)) args × IsOutcome (of e) used to) → Grown c os rs s (outside_called c e args to s)
    outside_good e used args None s h = grown.node (outside None args None) (place_of e) grown.same refl (λ q. ((h q).0, refl))
    outside_good e used args (Some l) s h = by (has_pointer c.pointers (of e)) refl
      where
        target : Holds c os s → IsResult (table c os) (Some c.function) (Some l)
        target q = outcome_result (of e) used (Some l) (h q).1

        points : (b : Bool) → has_pointer c.pointers (of e) ≡ b → Holds c os s → HasPointer (table c os) (lvalue_type l) b
        points b k q =
            let st : IsStored c.structs (of e) = (h q).1.1 in
            subst (λ t. HasPointer (table c os) t b) (sym (h q).1.0.1)
            (subst (λ b. HasPointer (table c os) (of e) b) k (stands.pointers (of e) (stored_sized c (of e) (of e) (agrees_self (of e) (stored_floating c (of e) st)) st)))

        by : (b : Bool) → has_pointer c.pointers (of e) ≡ b
            → Grown c os rs s (add c (outside (Some l) args (if b then left (Some (next_site c s)) (with_site None false s) else left None s).pure) (place_of e)
            (if b then left (Some (next_site c s)) (with_site None false s) else left None s).after)
        by true k = grown.sited None false (outside (Some l) args (Some (next_site c s))) (place_of e) grown.same tt (refl, refl)
            (λ q. let w : Holds c os s = unsited s None false q in
            let o : IsSiteObject os (next_site c s) (record { node = length s.nodes; of = None; heap = false }) = site_at s None false q in
            ((h w).0, (target w, (true, points true k w, (refl, (o.object, o.there, o.kind))))))
        by false k = grown.node (outside (Some l) args None) (place_of e) grown.same refl (λ q. ((h q).0, (target q, (false, points false k q, refl))))

    -- ---- routines of the library

    element_formed : (to : Option CType) → IsMaybeFormed c to → IsMaybeFormed c (element_given c to)
    element_formed None h = tt
    element_formed (Some t) h = by t h (is_pointer t) refl
      where
        by : (t : CType) → IsFormed c.structs t → (b : Bool) → is_pointer t ≡ b → IsMaybeFormed c (if b then (if pointee_size c t == 0 then None else Some (pointee t)) else None)
        by t h false k = tt
        by (pointer u) h true k = sized (pointee_size c (pointer u) == 0)
          where
            sized : (b : Bool) → IsMaybeFormed c (if b then None else Some u)
            sized true = tt
            sized false = h
        by void h true k = false_true k
        by (integer i) h true k = false_true k
        by (floating i) h true k = false_true k
        by (array u n) h true k = false_true k
        by (structure i) h true k = false_true k
        by (function r) h true k = false_true k

    back_or_not : (which : Routine) (s made : Draft) → Grown c os rs s made → Grown c os rs s (if comes_back which then made else with_loose [] made)
    back_or_not which s made g = by (comes_back which)
      where
        by : (b : Bool) → Grown c os rs s (if b then made else with_loose [] made)
        by true = g
        by false = grown.turned [] g (λ r. All-nil (IsEnd made.nodes c.function))

    library_good : (which : Routine) (e : Typed) (to : Option CType) (args : List Expression) (result : Option Lvalue) (s : Draft) → IsMaybeFormed c to
        → (Holds c os s → IsScalarResult (table c os) (Some c.function) result × All (IsScalar (table c os) (Some c.function)) args × (length args ≡ argument_count which))
        → Grown c os rs s (library_called c which e to args result s)
    library_good which e to args result s f h = back_or_not which s _ (by (allocates which) refl)
      where
        by : (b : Bool) → allocates which ≡ b
            → Grown c os rs s (add c (library which result args (if b then left (Some (next_site c s)) (with_site (element_given c to) true s) else left None s).pure) (place_of e)
            (if b then left (Some (next_site c s)) (with_site (element_given c to) true s) else left None s).after)
        by true k = grown.sited (element_given c to) true (library which result args (Some (next_site c s))) (place_of e) grown.same (element_formed to f) (refl, refl)
            (λ q. let w : Holds c os s = unsited s (element_given c to) true q in
            let o : IsSiteObject os (next_site c s) (record { node = length s.nodes; of = element_given c to; heap = true }) = site_at s (element_given c to) true q in
            ((h w).0, (h w).1, (h w).2, (k, (o.object, o.there, o.kind))))
        by false k = grown.node (library which result args None) (place_of e) grown.same refl (λ q. ((h q).0, (h q).1, (h q).2, k))

    undefined_by_good : (r : Option Routine) (e : Typed) (to : Option CType) (used : Bool) (es : List Operand) (args : List Expression) (result : Option Lvalue) (s : Draft) → IsMaybeFormed c to
        → ((which : Routine) → r ≡ Some which → fits e (trees es) which ≡ true)
        → (Holds c os s → AreValues c os es args × IsOutcome (of e) used result) → Grown c os rs s (undefined_by c r e to args result s)
    undefined_by_good None e to used es args result s f k h = outside_good e used args result s (λ q. (values_formed es args (h q).0, (h q).1))
    undefined_by_good (Some which) e to used es args result s f k h =
        let w : (fits e (trees es) which ≡ true) = k which refl in
        let first = both_true ((length (trees es) == argument_count which) && are_scalar (trees es)) (is_scalar (of e) || is_void (of e)) w in
        let rest = both_true (length (trees es) == argument_count which) (are_scalar (trees es)) first.0 in
        library_good which e to args result s f
        (λ q. (outcome_scalar (of e) used result first.1 (h q).1, values_scalar es args rest.1 (h q).0, values_counted es args (h q).0 ∙ eqb-true (length (trees es)) (argument_count which) rest.0))

    some_is : {A : Type 0} (x y : A) → Some x ≡ Some y → x ≡ y
    some_is x y e = cc

    routine_fits : (e : Typed) (es : List Operand) (r : Option Routine) (which : Routine) → if_fits e (trees es) r ≡ Some which → fits e (trees es) which ≡ true
    routine_fits e es None which h = absurd (none-some which h)
    routine_fits e es (Some r) which h = by (fits e (trees es) r) refl h
      where
        by : (b : Bool) → fits e (trees es) r ≡ b → (if b then Some r else None) ≡ Some which → fits e (trees es) which ≡ true
        by true k h = subst (λ x. fits e (trees es) x ≡ true) (some_is r which h) k
        by false k h = absurd (none-some which h)

    -- ---- all calls

    module _ (e f : Typed) (mf : Meaning) (gf : IsGood c os rs f mf) (i : is_pointer (of f) ≡ true) (ff : IsFormed c.structs (of f)) (es : List Operand) (gs : AllGood c os rs es)
        (h : IsCalled c.structs (of e)) (fe : IsFormed c.structs (of e)) where
      called_good : (n : Option ℕ) (to : Option CType) (used : Bool) → IsMaybeFormed c to → (s : Draft)
          → Gives c os rs (IsOutcome (of e) used) s (called_by c n e to used (operand_of mf f) es s)
      called_good (Some n) to used w s =
          let args : Left (List Expression) = arguments c es s in
          let result : Left (Option Lvalue) = result_of c used (of e) args.after in
          let ga : Gives c os rs (AreValues c os es) s args = arguments_good es gs s in
          let gr : Gives c os rs (IsOutcome (of e) used) args.after result = result_good used (of e) args.after h fe in
          let gu : Grown c os rs result.after (undefined_by c (routine_called c n e (trees es)) e to args.pure result.pure result.after) =
          undefined_by_good (routine_called c n e (trees es)) e to used es args.pure result.pure result.after w (λ which k. routine_fits e es (routine_named c n) which k)
          (λ q. (ga.pure (back gr.grown q), gr.pure q)) in
          record { grown = onward ga.grown (onward gr.grown gu); pure = λ q. gr.pure (back gu q) }
      called_good None to used w s =
          let later : Bool = list_any (λ (b : Operand). adds b.tree) es in
          let x : Left Expression = mf.value None s in
          let kept : Left Expression = keep c later f x.pure x.after in
          let args : Left (List Expression) = arguments c es kept.after in
          let st : IsStored c.structs (of f) = scalar_stored c.structs (of f) (pointer_scalar (of f) i) in
          let gx : Gives c os rs (IsValue c os (of f)) s x = gf.value (stored_there c.structs (of f) st) None tt s in
          let gk : Gives c os rs (IsValue c os (of f)) x.after kept = keep_good c os rs later f x.pure x.after ff st gx.pure in
          let ga : Gives c os rs (AreValues c os es) kept.after args = arguments_good es gs kept.after in
          let gd : Gives c os rs (IsOutcome (of e) used) args.after (defined_called c e used kept.pure args.pure args.after) =
          defined_good e used kept.pure args.pure args.after h fe
          (λ q. let y : IsValue c os (of f) kept.pure = gk.pure (back ga.grown q) in (y.0, pointer_value c (of f) kept.pure i y.1, values_formed es args.pure (ga.pure q))) in
          record { grown = onward gx.grown (onward gk.grown (onward ga.grown gd.grown)); pure = gd.pure }

      -- a used call has a place
      placed : (t : CType) (r : Option Lvalue) → is_void t ≡ false → IsFormed c.structs t → IsOutcome t true r → Designates c os t (result_place t r)
      placed t None there f k = false_true (sym k ∙ ap not there)
      placed t (Some l) there f k = kept_whole c os rs t l k.1 k.0

      call_place_good : (to : Option CType) → IsMaybeFormed c to → is_void (of e) ≡ false → (s : Draft) → Gives c os rs (Designates c os (of e)) s (call_place c e to (operand_of mf f) es s)
      call_place_good to w there s =
          gives_made (result_place (of e) (called c e to true (operand_of mf f) es s).pure) (called_good (undefined_callee c f) to true w s)
          (λ k. placed (of e) (called c e to true (operand_of mf f) es s).pure there fe k)

      pub call_good : has_place e ≡ is_struct (of e) → is_floating (of e) ≡ false → IsGood c os rs e (forms.call c e (operand_of mf f) es)
      call_good q r = record {
        value = λ there to w s. gives_made (loaded c (of e) (call_place c e to (operand_of mf f) es s).pure) (call_place_good to w there s)
            (λ d. loaded_good c os (call_place c e to (operand_of mf f) es s).pure (of e) d fe there r);
        place = λ p s. call_place_good None tt (struct_there (of e) (sym q ∙ p)) s;
        unused = λ s. (called_good (undefined_callee c f) None false tt s).grown;
        branch = λ k s. compared_good c os rs e s _ k (gives_made (loaded c (of e) (call_place c e None (operand_of mf f) es s).pure) (call_place_good None tt (scalar_there (of e) k) s)
            (λ d. loaded_good c os (call_place c e None (operand_of mf f) es s).pure (of e) d fe (scalar_there (of e) k) r));
      }
        where
          struct_there : (t : CType) → is_struct t ≡ true → is_void t ≡ false
          struct_there (structure i) h = refl
          struct_there void h = sym h
          struct_there (integer i) h = refl
          struct_there (floating i) h = refl
          struct_there (pointer u) h = refl
          struct_there (array u n) h = refl
          struct_there (function r) h = refl
