-- Each use of a well-typed expression adds what is formed.
use Rattle.std.proofs.Common.{◌≡◌, ℕ, Bool, true, false, List, refl, ◌∙◌}
use Rattle.std.specs.Prelude.{pos}
use Rattle.sp_tree.specs.declared.fault.Place.{Place}
use Rattle.sp_tree.specs.declared.token.Punct.TheVariants.{Star}
use Rattle.sp_types.specs.Types.{CType}
use Rattle.sp_types.specs.Structs.{IsFormed}
use Rattle.sp_types.specs.Typed.{Typed, typed, TypedForm, TypedList, no_typed, next_typed, of}
use Rattle.sp_types.specs.Typed as tree
use Rattle.sp_ir.specs.Regions.{Region}
use Rattle.sp_ir.specs.Programs.{Object}
use Rattle.sp_ir.specs.Formed.{is_struct, is_floating}
use Rattle.sp_lower_draft.specs.Context.{Context}
use Rattle.sp_lower_draft.specs.Expressions.{meaning, form_meaning, operands}
use Rattle.sp_check_typing.specs.Trees.{IsTyped, IsForm, AreArguments, has_place, form_has_place}
use Rattle.sp_lower_expr_laws.specs.Stands.{scene, Fits}
use Rattle.sp_lower_expr_laws.specs.Uses.{IsGood}
use Rattle.sp_lower_expr_laws.proofs.Sorts.{one_sort, one_struct_too}
use Rattle.sp_lower_expr_laws.proofs.Plain.{constant_good, object_good, function_good}
use Rattle.sp_lower_expr_laws.proofs.Assignments.{assignment_good, step_after_good}
use Rattle.sp_lower_expr_laws.proofs.Forms.{conversion_good, decay_good, member_of_good, arrow_of_good, prefixed_good, index_of_good, binary_good, in_turn_good, struct_only}
use Rattle.sp_lower_expr_laws.proofs.Choices.{conditional_good}
use Rattle.sp_lower_expr_laws.proofs.Calls.{AllGood, all_none, all_next, call_good}

-- ---- what a well-typed tree says of its type

module _ (c : Context) (v : ℕ → Bool) where
  pub tree_formed : (e : Typed) → IsTyped (scene c v) e → IsFormed c.structs (of e)
  tree_formed (typed f t p m) h = h.1

  pub tree_floating : (e : Typed) → IsTyped (scene c v) e → is_floating (of e) ≡ false
  tree_floating (typed f t p m) h = h.0

  -- a struct has a place
  mutual
    struct_place : (e : Typed) → IsTyped (scene c v) e → is_struct (of e) ≡ true → has_place e ≡ true
    struct_place (typed f t p m) h s = struct_placed f t h.2 s

    struct_placed : (f : TypedForm) (t : CType) → IsForm (scene c v) t f → is_struct t ≡ true → form_has_place t f ≡ true
    struct_placed (tree.number n) t h s = s
    struct_placed (tree.character z) t h s = s
    struct_placed (tree.constant z) t h s = s
    struct_placed (tree.object n) t h s = refl
    struct_placed (tree.function n) t h s = refl
    struct_placed (tree.convert a) t h s = s
    struct_placed (tree.decay a) t h s = s
    struct_placed (tree.index a b) t h s = refl
    struct_placed (tree.call f es) t h s = s
    struct_placed (tree.member a n) t h s = refl
    struct_placed (tree.arrow a n) t h s = refl
    struct_placed (tree.after op a) t h s = s
    struct_placed (tree.unary Star a) t h s = refl
    struct_placed (tree.unary op a) t h s = s
    struct_placed (tree.cast a) t h s = s
    struct_placed (tree.binary op a b) t h s = s
    struct_placed (tree.choice a b d) t h s = s
    struct_placed (tree.assign op a b) t h s = s
    struct_placed (tree.comma a b) t h s = struct_place b h.1 (one_struct_too (one_sort (of b) t h.2) ∙ s)

-- ---- all forms

module _ (c : Context) (os : List Object) (rs : List Region) (v : ℕ → Bool) (stands : Fits c os v) where
  mutual
    pub tree_good : (e : Typed) → IsTyped (scene c v) e → IsGood c os rs e (meaning c e)
    tree_good (typed f t p m) h = form_good f t p m h.0 h.1 h.2

    form_good : (f : TypedForm) (t : CType) (p m : Place) → is_floating t ≡ false → IsFormed c.structs t → IsForm (scene c v) t f
        → IsGood c os rs (typed f t p m) (form_meaning c f (typed f t p m))
    form_good (tree.number n) t p m r g h = constant_good c os rs (typed (tree.number n) t p m) (pos n.value) h refl
    form_good (tree.character z) t p m r g h = constant_good c os rs (typed (tree.character z) t p m) z h refl
    form_good (tree.constant z) t p m r g h = constant_good c os rs (typed (tree.constant z) t p m) z h refl
    form_good (tree.object n) t p m r g h = object_good c os rs v stands (typed (tree.object n) t p m) n h g r
    form_good (tree.function n) t p m r g h = function_good c os rs v stands (typed (tree.function n) t p m) n h.0 h.1 g r
    form_good (tree.convert a) t p m r g h = conversion_good c os rs a (meaning c a) (tree_good a h.0) (tree.convert a) t p m h.1 g r (struct_place c v a h.0) refl
    form_good (tree.decay a) t p m r g h =
        decay_good c os rs a (meaning c a) (tree_good a h.0) (typed (tree.decay a) t p m) h.1 h.2 h.3 (tree_formed c v a h.0) (tree_floating c v a h.0) refl
    form_good (tree.index a b) t p m r g h =
        index_of_good c os rs a b (meaning c a) (meaning c b) (tree_good a h.0) (tree_good b h.1) (typed (tree.index a b) t p m) h.2 (tree_formed c v a h.0) g r
    form_good (tree.call f es) t p m r g h =
        call_good c os rs v stands (typed (tree.call f es) t p m) f (meaning c f) (tree_good f h.0) h.1 (tree_formed c v f h.0) (operands c es) (trees_good es h.2) h.3 g refl r
    form_good (tree.member a n) t p m r g h =
        member_of_good c os rs a (meaning c a) (tree_good a h.0) (typed (tree.member a n) t p m) n h.1 (struct_place c v a h.0 (struct_only c (of a) n t h.1)) g r
    form_good (tree.arrow a n) t p m r g h =
        arrow_of_good c os rs a (meaning c a) (tree_good a h.0) (typed (tree.arrow a n) t p m) n h.1 (tree_formed c v a h.0) g r
    form_good (tree.after op a) t p m r g h =
        step_after_good c os rs (typed (tree.after op a) t p m) a (meaning c a) (tree_good a h.0) h.1.0 g h.1.1 h.1.2 op refl
    form_good (tree.unary op a) t p m r g h = prefixed_good c os rs a (meaning c a) (tree_good a h.0) op t p m h.1 g r
    form_good (tree.cast a) t p m r g h = conversion_good c os rs a (meaning c a) (tree_good a h.0) (tree.cast a) t p m h.1 g r (struct_place c v a h.0) refl
    form_good (tree.binary op a b) t p m r g h =
        binary_good c os rs a b (meaning c a) (meaning c b) (tree_good a h.0) (tree_good b h.1) op t p m h.2 (tree_formed c v a h.0) g r
    form_good (tree.choice a b d) t p m r g h =
        conditional_good c os rs a b d (meaning c a) (meaning c b) (meaning c d) (tree_good a h.0) (tree_good b h.1) (tree_good d h.2) h.3 t p m h.4 g
    form_good (tree.assign op a b) t p m r g h =
        assignment_good c os rs a b (meaning c a) (meaning c b) (tree_good a h.0) (tree_good b h.1) op t p m h.2 (tree_formed c v a h.0) g h.3 h.4 h.5
    form_good (tree.comma a b) t p m r g h =
        in_turn_good c os rs a b (meaning c a) (meaning c b) (tree_good a h.0) (tree_good b h.1) t p m h.2

    trees_good : (es : TypedList) → AreArguments (scene c v) es → AllGood c os rs (operands c es)
    trees_good no_typed h = all_none
    trees_good (next_typed e es) h = all_next e (meaning c e) (tree_good e h.0) (tree_formed c v e h.0) h.1 (trees_good es h.2)
