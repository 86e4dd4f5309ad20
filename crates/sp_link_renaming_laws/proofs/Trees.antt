-- Well-typed expressions of a unit are well typed in its program.
use Rattle.std.proofs.Common.{◌≡◌, ℕ, Bool, List, Option, Some, None, true, false, refl, sym, ap, subst, pos}
use Rattle.sp_tree.specs.declared.token.Punct.TheVariants.{Star}
use Rattle.sp_tree.specs.declared.fault.Place.{Place}
use Rattle.sp_types.specs.Types.{Struct, CType, pointer, array, function}
use Rattle.sp_types.specs.Layout.{layout}
use Rattle.sp_types.specs.Structs.{IsFormed}
use Rattle.sp_types.specs.Typed.{Typed, typed, TypedForm, TypedList, no_typed, next_typed, of}
use Rattle.sp_types.specs.Typed as tree
use Rattle.sp_ir.specs.Formed.{is_floating, is_struct}
use Rattle.sp_link_renaming.specs.Renaming.{Renaming, number_in, renamed_type, told_by, type_in, renamed, renamed_form, all_renamed}
use Rattle.sp_check_typing.specs.Trees.{Scene, Names, has_place, IsTyped, IsForm, AreArguments}
use Rattle.sp_check_typing.specs.Refines.{MayName, names_void, names_integer, names_floating, names_pointer, names_array, names_struct, names_open, names_function, Refines}
use Rattle.sp_link_renaming_laws.specs.Follows.{lacks_layout, IsObjectIn, Follows}
use Rattle.sp_link_renaming_laws.specs.Laws.{IsRenamed, ExpressionsAreRenamed}
use Rattle.sp_link_renaming_laws.proofs.Types.{refines_self, named_through, told_refines, told_named, floating_kept, function_kept, decayed_kept, pointer_kept, scalar_kept, struct_kept, agrees_kept, value_kept, formed_kept, some_size, stored_kept, repeated_small, known_closed, stored_known, known_kept}
use Rattle.sp_link_renaming_laws.proofs.Operators.{member_kept, pointed_kept, index_kept, binary_kept, step_kept, unary_kept, converts_kept, choice_kept, assigned_kept, called_kept, number_kept}

element_formed : (ss : List Struct) (t : CType) (n : Option ℕ) → IsFormed ss (array t n) → IsFormed ss t
element_formed ss t None h = h
element_formed ss t (Some n) h = h.0

module _ (r : Renaming) where
  struct_placed : (t : CType) → is_struct t ≡ true → is_struct (renamed_type r.structs t) ≡ true
  struct_placed t h =
      struct_kept (λ k. false) (number_in r.structs) t (renamed_type r.structs t)
      (refines_self (λ k. false) r.structs t) h

  placed : (e : Typed) → has_place e ≡ true → has_place (renamed r e) ≡ true
  placed (typed (tree.object n) t p m) h = refl
  placed (typed (tree.function n) t p m) h = refl
  placed (typed (tree.index a b) t p m) h = refl
  placed (typed (tree.member a n) t p m) h = refl
  placed (typed (tree.arrow a n) t p m) h = refl
  placed (typed (tree.unary Star a) t p m) h = refl
  placed (typed (tree.comma a b) t p m) h = placed b h
  placed (typed (tree.unary op a) t p m) h = struct_placed t h
  placed (typed (tree.number n) t p m) h = struct_placed t h
  placed (typed (tree.character z) t p m) h = struct_placed t h
  placed (typed (tree.constant z) t p m) h = struct_placed t h
  placed (typed (tree.convert a) t p m) h = struct_placed t h
  placed (typed (tree.decay a) t p m) h = struct_placed t h
  placed (typed (tree.call a es) t p m) h = struct_placed t h
  placed (typed (tree.after op a) t p m) h = struct_placed t h
  placed (typed (tree.cast a) t p m) h = struct_placed t h
  placed (typed (tree.binary op a b) t p m) h = struct_placed t h
  placed (typed (tree.choice a b c) t p m) h = struct_placed t h
  placed (typed (tree.assign op a b) t p m) h = struct_placed t h

module _ (r : Renaming) (s p : Scene) (w : Follows r s p) where
  -- the type of a tree in the program
  abbrev here : CType → CType
  here t = renamed_type r.structs t

  abbrev o : ℕ → Bool
  o = lacks_layout s.structs

  abbrev f : ℕ → ℕ
  f = number_in r.structs

  self : (t : CType) → Refines o f t (here t)
  self t = refines_self o r.structs t

  tree_of : (t : CType) (x : TypedForm) (q m : Place) → type_in r x t ≡ here t
      → is_floating t ≡ false → IsFormed s.structs t → IsForm p (here t) (renamed_form r x)
      → IsRenamed o r p (typed x t q m)
  tree_of t x q m is fixed formed h = record {
    typed = subst (λ u. (is_floating u ≡ false) × IsFormed p.structs u × IsForm p u (renamed_form r x)) (sym is)
        (floating_kept o f t (here t) (self t) fixed, formed_kept r s p w t formed, h);
    refines = subst (λ u. Refines o f t u) (sym is) (self t);
  }

  -- a type that names an object is formed
  told_formed : (t u : CType) → MayName o f t u → IsFormed p.structs u → IsFormed s.structs t
      → IsFormed p.structs (told_by (Some u) (here t))
  told_formed t u names_void h formed = tt
  told_formed t u (names_integer k) h formed = tt
  told_formed t u (names_floating k) h formed = tt
  told_formed t u (names_pointer a b) h formed = formed_kept r s p w (pointer a) formed
  told_formed t u (names_array a b n None k) h formed = formed_kept r s p w a (element_formed s.structs a n formed)
  told_formed t u (names_array a b n (Some m) k) h formed =
      (formed_kept r s p w a (element_formed s.structs a n formed), h.1, repeated_small m (layout p.structs (here a)))
  told_formed t u (names_struct k) h formed = h
  told_formed t u (names_open k j e) h formed = h
  told_formed t u (names_function a b) h formed = formed_kept r s p w (function a) formed

  object_of : (t : CType) (n : ℕ) (q m : Place) → is_floating t ≡ false → IsFormed s.structs t → Names s n t
      → IsRenamed o r p (typed (tree.object n) t q m)
  object_of t n q m fixed formed h =
      let x : IsObjectIn r s.structs p n h.object.of = w.objects n h.object h.there h.visible in
      let u : CType = told_by (Some x.object.of) (here t) in
      let is : type_in r (tree.object n) t ≡ u = ap (λ z. told_by z (here t)) x.told in
      let named : MayName o f t x.object.of = named_through o f t h.object.of x.object.of h.told x.named in
      let refined : Refines o f t u = told_refines o r.structs t x.object.of named in
      record {
        typed = subst (λ v. (is_floating v ≡ false) × IsFormed p.structs v × Names p (number_in r.objects n) v) (sym is) (
          floating_kept o f t u refined fixed,
          told_formed t x.object.of named x.formed formed,
          record { object = x.object; there = x.there; visible = x.visible; told = told_named o r.structs t x.object.of named },
        );
        refines = subst (λ v. Refines o f t v) (sym is) refined;
      }

  mutual
    pub renamed_tree : (e : Typed) → IsTyped s e → IsRenamed o r p e
    renamed_tree (typed (tree.object n) t q m) h = object_of t n q m h.0 h.1 h.2
    renamed_tree (typed (tree.number n) t q m) h =
        tree_of t (tree.number n) q m refl h.0 h.1 (number_kept r s p w (pos n.value) t (here t) (self t) h.2)
    renamed_tree (typed (tree.character z) t q m) h =
        tree_of t (tree.character z) q m refl h.0 h.1 (number_kept r s p w z t (here t) (self t) h.2)
    renamed_tree (typed (tree.constant z) t q m) h =
        tree_of t (tree.constant z) q m refl h.0 h.1 (number_kept r s p w z t (here t) (self t) h.2)
    renamed_tree (typed (tree.function n) t q m) h =
        tree_of t (tree.function n) q m refl h.0 h.1
        (function_kept o f t (here t) (self t) h.2.0, w.functions n h.2.1)
    renamed_tree (typed (tree.convert a) t q m) h =
        let x : IsRenamed o r p a = renamed_tree a h.2.0 in
        tree_of t (tree.convert a) q m refl h.0 h.1 (
          x.typed,
          converts_kept r s p w (of a) (of (renamed r a)) t (here t) x.refines (self t) h.2.2 h.2.1,
          known_kept r s p w t (here t) (self t) h.2.2,
        )
    renamed_tree (typed (tree.decay a) t q m) h =
        let x : IsRenamed o r p a = renamed_tree a h.2.0 in
        tree_of t (tree.decay a) q m refl h.0 h.1 (
          x.typed,
          placed r a h.2.1,
          decayed_kept o f (of a) (of (renamed r a)) x.refines h.2.2,
          pointer_kept o f t (here t) (self t) h.2.3,
        )
    renamed_tree (typed (tree.index a b) t q m) h =
        let x : IsRenamed o r p a = renamed_tree a h.2.0 in
        let y : IsRenamed o r p b = renamed_tree b h.2.1 in
        tree_of t (tree.index a b) q m refl h.0 h.1 (
          x.typed,
          y.typed,
          index_kept r s p w (of a) (of (renamed r a)) (of b) (of (renamed r b)) x.refines y.refines h.2.2,
          some_size r s p w t (here t) (self t) h.2.3,
        )
    renamed_tree (typed (tree.call a es) t q m) h =
        let x : IsRenamed o r p a = renamed_tree a h.2.0 in
        tree_of t (tree.call a es) q m refl h.0 h.1 (
          x.typed,
          pointer_kept o f (of a) (of (renamed r a)) x.refines h.2.1,
          renamed_list es h.2.2,
          called_kept r s p w t (here t) (self t) h.2.3,
        )
    renamed_tree (typed (tree.member a n) t q m) h =
        let x : IsRenamed o r p a = renamed_tree a h.2.0 in
        tree_of t (tree.member a n) q m refl h.0 h.1
        (x.typed, member_kept r s p w (of a) (of (renamed r a)) n t x.refines h.2.1)
    renamed_tree (typed (tree.arrow a n) t q m) h =
        let x : IsRenamed o r p a = renamed_tree a h.2.0 in
        tree_of t (tree.arrow a n) q m refl h.0 h.1
        (x.typed, pointed_kept r s p w (of a) (of (renamed r a)) n t x.refines h.2.1)
    renamed_tree (typed (tree.after op a) t q m) h =
        let x : IsRenamed o r p a = renamed_tree a h.2.0 in
        tree_of t (tree.after op a) q m refl h.0 h.1
        (x.typed, step_kept r s p w a (renamed r a) (placed r a) x.refines t (here t) (self t) h.2.1)
    renamed_tree (typed (tree.unary op a) t q m) h =
        let x : IsRenamed o r p a = renamed_tree a h.2.0 in
        tree_of t (tree.unary op a) q m refl h.0 h.1
        (x.typed, unary_kept r s p w a (renamed r a) (placed r a) x.refines op t (here t) (self t) h.2.1)
    renamed_tree (typed (tree.cast a) t q m) h =
        let x : IsRenamed o r p a = renamed_tree a h.2.0 in
        tree_of t (tree.cast a) q m refl h.0 h.1 (
          x.typed,
          converts_kept r s p w (of a) (of (renamed r a)) t (here t) x.refines (self t) h.2.2 h.2.1,
          known_kept r s p w t (here t) (self t) h.2.2,
        )
    renamed_tree (typed (tree.binary op a b) t q m) h =
        let x : IsRenamed o r p a = renamed_tree a h.2.0 in
        let y : IsRenamed o r p b = renamed_tree b h.2.1 in
        tree_of t (tree.binary op a b) q m refl h.0 h.1 (
          x.typed,
          y.typed,
          binary_kept r s p w op (of a) (of (renamed r a)) (of b) (of (renamed r b)) t (here t) x.refines y.refines (self t) h.2.2,
        )
    renamed_tree (typed (tree.choice a b c) t q m) h =
        let x : IsRenamed o r p a = renamed_tree a h.2.0 in
        let y : IsRenamed o r p b = renamed_tree b h.2.1 in
        let z : IsRenamed o r p c = renamed_tree c h.2.2 in
        tree_of t (tree.choice a b c) q m refl h.0 h.1 (
          x.typed,
          y.typed,
          z.typed,
          scalar_kept o f (of a) (of (renamed r a)) x.refines h.2.3,
          choice_kept r s p w (of b) (of (renamed r b)) (of c) (of (renamed r c)) t (here t) y.refines z.refines (self t) h.2.4,
        )
    renamed_tree (typed (tree.assign op a b) t q m) h =
        let x : IsRenamed o r p a = renamed_tree a h.2.0 in
        let y : IsRenamed o r p b = renamed_tree b h.2.1 in
        tree_of t (tree.assign op a b) q m refl h.0 h.1 (
          x.typed,
          y.typed,
          placed r a h.2.2,
          stored_kept r s p w t (here t) (self t) h.2.3,
          value_kept o f (of a) (of (renamed r a)) t (here t) x.refines (self t)
              (known_closed r s p w t (stored_known r s p w t h.2.3)) h.2.4,
          assigned_kept r s p w op (of b) (of (renamed r b)) t (here t) y.refines (self t) h.2.3 h.2.5,
        )
    renamed_tree (typed (tree.comma a b) t q m) h =
        let x : IsRenamed o r p a = renamed_tree a h.2.0 in
        let y : IsRenamed o r p b = renamed_tree b h.2.1 in
        tree_of t (tree.comma a b) q m refl h.0 h.1 (
          x.typed,
          y.typed,
          agrees_kept o f (of b) (of (renamed r b)) t (here t) y.refines (self t) (known_closed r s p w t h.2.3) h.2.2,
          known_kept r s p w t (here t) (self t) h.2.3,
        )

    renamed_list : (es : TypedList) → AreArguments s es → AreArguments p (all_renamed r es)
    renamed_list no_typed h = tt
    renamed_list (next_typed e es) h =
        let x : IsRenamed o r p e = renamed_tree e h.0 in
        (x.typed, stored_kept r s p w (of e) (of (renamed r e)) x.refines h.1, renamed_list es h.2)

pub renamed_typed : ExpressionsAreRenamed
renamed_typed r s p e w h = renamed_tree r s p w e h
