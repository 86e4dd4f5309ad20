-- The objects of a block, with their start values (C90 6.5.7).
use Rattle.std.proofs.Common.{◌≡◌, inl, inr, ℕ, Bool, true, false, ◌&&◌, ◌||◌, List, [], ◌∷◌, length, Some, None, slice_get, if◌then◌else◌, refl, sym, subst}
use Rattle.std.specs.Prelude.{All}
use Rattle.std.proofs.lemmas.List.Elements.{All-head, All-tail}
use Rattle.sp_tree.specs.declared.fault.Place.{Place}
use Rattle.sp_types.specs.declared.program.Storage.{Storage}
use Rattle.sp_types.specs.declared.program.Storage.TheVariants.{Static, Outside, Text, Auto, Formal}
use Rattle.sp_types.specs.Types.{CType, void, integer, floating, pointer, array, structure, function}
use Rattle.sp_types.specs.Typed.{Typed, of}
use Rattle.sp_types.specs.Programs as program
use Rattle.sp_ir.specs.Commands.{Expression, direct, Leaf, init}
use Rattle.sp_ir.specs.Shapes.{Shape}
use Rattle.sp_ir.specs.Regions.{Region}
use Rattle.sp_ir.specs.Programs.{Object}
use Rattle.sp_ir.specs.Formed.{is_scalar, is_array, is_struct, is_floating}
use Rattle.sp_lower_draft.specs.Context.{Context}
use Rattle.sp_lower_draft.specs.Draft.{Draft, Left, stored, keep}
use Rattle.sp_lower_draft.specs.Expressions.{operand, value_of, meaning}
use Rattle.sp_lower_body.specs.Frames.{Frame, Initial, initial_of}
use Rattle.sp_lower_body.specs.Declarations.{cells_behind, any_start_adds, leaves, initialised, set_to, is_whole, started, is_automatic, declared, declare_all}
use Rattle.sp_check_typing.specs.Sorts.{same_value, IsStored}
use Rattle.sp_check_typing.specs.Trees.{IsTyped}
use Rattle.sp_check_typing.specs.Starts.{IsLeafValue, AreLeafValues, IsStarted}
use Rattle.sp_check_typing.specs.Statements.{IsEntered, IsDeclared, AreDeclared}
use Rattle.sp_lower_expr_laws.specs.Stands.{scene}
use Rattle.sp_lower_expr_laws.specs.Grown.{Grown, same, node}
use Rattle.sp_lower_expr_laws.specs.Uses.{IsValue, Gives, IsGood}
use Rattle.sp_lower_expr_laws.proofs.Growing.{onward, back}
use Rattle.sp_lower_expr_laws.proofs.Sorts.{false_true, agrees_self, scalar_there, stored_there, scalar_stored}
use Rattle.sp_lower_expr_laws.proofs.Keeps.{stored_floating, value_as, direct_of, store_good, store_plain, keep_good}
use Rattle.sp_lower_expr_laws.proofs.Assignments.{stored_as}
use Rattle.sp_lower_expr_laws.proofs.Trees.{tree_good, tree_formed}
use Rattle.sp_lower_body_laws.specs.Frames.{AreLeavesOf, FitsFrame}

-- ---- sorts

leaf_scalar : (u t : CType) → is_scalar t ≡ true → same_value u t ≡ true → is_scalar u ≡ true
leaf_scalar (integer j) t s h = refl
leaf_scalar (pointer u) t s h = refl
leaf_scalar (structure j) (structure k) s h = s
leaf_scalar (structure j) void s h = s
leaf_scalar (structure j) (integer k) s h = h
leaf_scalar (structure j) (floating k) s h = s
leaf_scalar (structure j) (pointer u) s h = h
leaf_scalar (structure j) (array u n) s h = s
leaf_scalar (structure j) (function r) s h = s
leaf_scalar void t s h = h
leaf_scalar (floating k) t s h = h
leaf_scalar (array u n) t s h = h
leaf_scalar (function r) t s h = h

-- a value that goes to the whole object
whole_is : (c : Context) (u t : CType) → IsStored c.structs t → same_value u t ≡ true → (is_scalar t || (is_struct t && is_struct u)) ≡ true
whole_is c u (integer k) st h = refl
whole_is c u (pointer v) st h = refl
whole_is c (structure j) (structure k) st h = refl
whole_is c void (structure k) st h = h
whole_is c (integer j) (structure k) st h = h
whole_is c (floating j) (structure k) st h = h
whole_is c (pointer v) (structure k) st h = h
whole_is c (array v n) (structure k) st h = h
whole_is c (function r) (structure k) st h = h
whole_is c u void st h = absurd st
whole_is c u (floating k) st h = absurd st
whole_is c u (array v n) st h = absurd st
whole_is c u (function r) st h = absurd st

-- values that go to leaves
parts_are : (t : CType) (e : Typed) (es : List (ℕ × Typed)) → (is_array t || is_struct t) ≡ true → is_scalar (of e) ≡ true → is_whole t e es ≡ false
parts_are (array t n) e [] k s = refl
parts_are (array t n) e (x ∷ xs) k s = refl
parts_are (structure j) e [] k s = by (of e) s
  where
    by : (u : CType) → is_scalar u ≡ true → is_struct u ≡ false
    by (integer i) s = refl
    by (pointer v) s = refl
    by void s = refl
    by (floating i) s = refl
    by (array v n) s = refl
    by (structure i) s = sym s
    by (function r) s = refl
parts_are (structure j) e (x ∷ xs) k s = refl
parts_are void e es k s = false_true k
parts_are (integer i) e es k s = false_true k
parts_are (floating i) e es k s = false_true k
parts_are (pointer t) e es k s = false_true k
parts_are (function r) e es k s = false_true k

parts_floating : (t : CType) → (is_array t || is_struct t) ≡ true → is_floating t ≡ false
parts_floating (array t n) k = refl
parts_floating (structure j) k = refl
parts_floating void k = refl
parts_floating (integer i) k = refl
parts_floating (floating i) k = sym k
parts_floating (pointer t) k = refl
parts_floating (function r) k = refl

module _ (f : Frame) (os : List Object) (rs : List Region) (v : ℕ → Bool) (fits : FitsFrame f os rs v) where
  good : (e : Typed) → IsTyped (scene f.context v) e → IsGood f.context os rs e (meaning f.context e)
  good e h = tree_good f.context os rs v fits.names e h

  leaves_good : (shape : Shape) (cells : List ℕ) (es : List (ℕ × Typed)) → All (IsLeafValue (scene f.context v) shape) es → (s : Draft)
      → Gives f.context os rs (AreLeavesOf f.context os cells es) s (leaves f.context cells es s)
  leaves_good shape cells [] h s = record { grown = same; pure = λ k. tt }
  leaves_good shape cells (e ∷ es) h s =
      let c : Context = f.context in
      let first : IsLeafValue (scene c v) shape e = All-head (IsLeafValue (scene c v) shape) e es h in
      let k : is_scalar (of e.1) ≡ true = leaf_scalar (of e.1) first.leaf first.scalar first.same in
      let x : Left Expression = value_of (operand c e.1) s in
      let kept : Left Expression = keep c (any_start_adds es) e.1 x.pure x.after in
      let rest : Left (List Leaf) = leaves c (cells_behind cells) es kept.after in
      let gx : Gives c os rs (IsValue c os (of e.1)) s x = (good e.1 first.typed).value (scalar_there (of e.1) k) None tt s in
      let gk : Gives c os rs (IsValue c os (of e.1)) x.after kept = keep_good c os rs (any_start_adds es) e.1 x.pure x.after (tree_formed c v e.1 first.typed) (scalar_stored c.structs (of e.1) k) gx.pure in
      let gr : Gives c os rs (AreLeavesOf c os (cells_behind cells) es) kept.after rest = leaves_good shape (cells_behind cells) es (All-tail (IsLeafValue (scene c v) shape) e es h) kept.after in
      record { grown = onward gx.grown (onward gk.grown gr.grown); pure = λ q. (refl, refl, gk.pure (back gr.grown q), gr.pure q) }

  set_good : (n : ℕ) (o : program.Object) → slice_get f.context.objects n ≡ Some o → v n ≡ true → (at : Place) (e : Typed) → IsTyped (scene f.context v) e → IsStored f.context.structs o.of
      → same_value (of e) o.of ≡ true → (s : Draft) → Grown f.context os rs s (set_to f.context n o.of at e s)
  set_good n o there seen at e h st w s =
      let c : Context = f.context in
      let t : CType = o.of in
      let x : Left Expression = value_of (operand c e) s in
      let r : is_floating t ≡ false = stored_floating c t st in
      let gx : Gives c os rs (IsValue c os (of e)) s x = (good e h).value (stored_there c.structs (of e) (stored_as c (of e) t w st)) None tt s in
      node (stored (direct n t) t x.pure) at gx.grown (store_plain (direct n t) t x.pure)
      (λ q. store_good c os rs (length x.after.nodes) (direct n t) t x.pure (direct_of c os rs n t (fits.names.objects n o there seen) r) (agrees_self t r) st
      ((gx.pure q).0, value_as c (of e) t x.pure w (gx.pure q).1))

  init_good : (n : ℕ) (o : program.Object) → slice_get f.context.objects n ≡ Some o → v n ≡ true → is_automatic o.storage ≡ true → (at : Place) → (is_array o.of || is_struct o.of) ≡ true
      → AreLeafValues (scene f.context v) o.of o.start → (s : Draft) → Grown f.context os rs s (initialised f.context (initial_of f n) n at o.start s)
  init_good n o there seen auto at k h s =
      let c : Context = f.context in
      let i : Initial = initial_of f n in
      let vs : Left (List Leaf) = leaves c i.cells o.start s in
      let g : Gives c os rs (AreLeavesOf c os i.cells o.start) s vs = leaves_good h.shape i.cells o.start h.values s in
      let a = fits.automatic n o there seen auto in
      node (init n vs.pure i.zero) at g.grown refl
      (λ q. (o.of, direct_of c os rs n o.of (fits.names.objects n o there seen) (parts_floating o.of k), (a.object, a.there, a.kind), k, fits.starts n o there seen auto h vs.pure (g.pure q)))

  started_good : (n : ℕ) (o : program.Object) → slice_get f.context.objects n ≡ Some o → v n ≡ true → is_automatic o.storage ≡ true → (at : Place) (es : List (ℕ × Typed)) → o.start ≡ es
      → IsStarted (scene f.context v) o.of es → (s : Draft) → Grown f.context os rs s (started f.context (initial_of f n) n o.of at es s)
  started_good n o there seen auto at [] is h s = same
  started_good n o there seen auto at (e ∷ es) is (inl h) s =
      subst (λ xs. Grown f.context os rs s (if is_whole o.of e.1 xs then set_to f.context n o.of at e.1 s else initialised f.context (initial_of f n) n at (e ∷ xs) s)) (sym h.0)
      (subst (λ b. Grown f.context os rs s (if b then set_to f.context n o.of at e.1 s else initialised f.context (initial_of f n) n at (e ∷ []) s)) (sym (whole_is f.context (of e.1) o.of h.2 h.3))
      (set_good n o there seen at e.1 h.1 h.2 h.3 s))
  started_good n o there seen auto at (e ∷ es) is (inr h) s =
      let first : IsLeafValue (scene f.context v) h.1.shape e = All-head (IsLeafValue (scene f.context v) h.1.shape) e es h.1.values in
      let k : is_scalar (of e.1) ≡ true = leaf_scalar (of e.1) first.leaf first.scalar first.same in
      subst (λ b. Grown f.context os rs s (if b then set_to f.context n o.of at e.1 s else initialised f.context (initial_of f n) n at (e ∷ es) s)) (sym (parts_are o.of e.1 es h.0 k))
      (subst (λ xs. AreLeafValues (scene f.context v) o.of xs → Grown f.context os rs s (initialised f.context (initial_of f n) n at xs s)) is
      (λ w. init_good n o there seen auto at h.0 w s) h.1)

  declared_good : (n : ℕ) → IsDeclared (scene f.context v) n → (s : Draft) → Grown f.context os rs s (declared f n (slice_get f.context.objects n) s)
  declared_good n h s = subst (λ o. Grown f.context os rs s (declared f n o s)) (sym h.there) (by h.object h.there (h.object.storage) refl h.entered)
    where
      entered_auto : (st : Storage) (t : CType) (es : List (ℕ × Typed)) → is_automatic st ≡ true → IsEntered (scene f.context v) st t es → IsStarted (scene f.context v) t es
      entered_auto Auto t es a e = e
      entered_auto Static t es a e = false_true a
      entered_auto Outside t es a e = false_true a
      entered_auto Text t es a e = false_true a
      entered_auto Formal t es a e = false_true a

      by : (o : program.Object) → slice_get f.context.objects n ≡ Some o → (st : Storage) → o.storage ≡ st → IsEntered (scene f.context v) o.storage o.of o.start
          → Grown f.context os rs s (if is_automatic o.storage then started f.context (initial_of f n) n o.of o.place o.start s else s)
      by o there st is e = decide (is_automatic o.storage) refl
        where
          decide : (b : Bool) → is_automatic o.storage ≡ b → Grown f.context os rs s (if b then started f.context (initial_of f n) n o.of o.place o.start s else s)
          decide true a = started_good n o there h.visible a o.place o.start refl (entered_auto o.storage o.of o.start a e) s
          decide false a = same

  pub declared_all : (ns : List ℕ) → AreDeclared (scene f.context v) ns → (s : Draft) → Grown f.context os rs s (declare_all f ns s)
  declared_all [] h s = same
  declared_all (n ∷ ns) h s = onward (declared_good n h.0 s) (declared_all ns h.1 (declared f n (slice_get f.context.objects n) s))
