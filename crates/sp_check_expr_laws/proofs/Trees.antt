-- Trees in a scene: as a rule makes them, as they stand, and as values (C90 6.2.2.1).
use Rattle.std.proofs.Common.{◌≡◌, ◌&&◌, not, if◌then◌else◌, Bool, true, false, Some, None, refl, ap, sym, ◌∙◌, true≢false}
use Rattle.sp_tree.specs.declared.fault.Place.{Place}
use Rattle.sp_tree.specs.declared.token.Punct.TheVariants.{Star}
use Rattle.sp_types.specs.Types.{CType, array, structure, function}
use Rattle.sp_types.specs.Typed.{Typed, typed, TypedForm, of, place_of, mark_of}
use Rattle.sp_types.specs.Typed as tree
use Rattle.sp_types.specs.Structs.{IsFormed}
use Rattle.sp_types.specs.Compatible.{convertible, same_type}
use Rattle.sp_tree.specs.declared.fault.FaultKind.TheVariants.{IncompleteType}
use Rattle.sp_base_checked.specs.Answers.{accepted, where_met}
use Rattle.sp_check_operands.specs.Conversions.{is_array, is_function, is_lvalue, designates, is_open_struct, is_complete, decayed_type, decayed, value, converted}
use Rattle.sp_check_binary_rules.specs.Rules.{not_floating}
use Rattle.sp_ir.specs.Formed.{is_floating}
use Rattle.sp_check_typing.specs.Trees.{Scene, IsTyped, Converts, has_place, form_has_place}
use Rattle.sp_check_typing.specs.Sorts.{IsKnown}
use Rattle.sp_check_formed_laws.proofs.Composites.{element_formed}
use Rattle.sp_check_formed_laws.proofs.After.{Gives, gives, gives_met}
use Rattle.sp_check_expr_laws.specs.Sound.{IsSound}
use Rattle.sp_check_expr_laws.specs.Laws.{IsValue}
use Rattle.sp_check_expr_laws.proofs.Types.{and_true, same_type_is, convertible_plain, floating_same, IsSoundTable, complete_sized, converted_known}

-- ---- kinds of trees

-- it is typed, unless its type is floating
pub record IsMade (s : Scene) (e : Typed) : Type 0 where
  pub formed : IsFormed s.structs (of e)
  pub sound : IsSound (of e)
  pub typed : is_floating (of e) ≡ false → IsTyped s e
  pub placed : is_function (of e) ≡ true → has_place e ≡ true

pub record IsTree (s : Scene) (e : Typed) : Type 0 where
  pub typed : IsTyped s e
  pub sound : IsSound (of e)
  pub placed : is_function (of e) ≡ true → has_place e ≡ true

pub record IsValued (s : Scene) (e : Typed) : Type 0 where
  pub tree : IsTree s e
  pub value : IsValue s.structs e

pub tree_formed : (s : Scene) (e : Typed) → IsTree s e → IsFormed s.structs (of e)
tree_formed s (typed f t p m) h = h.typed.1

pub solid_made : (s : Scene) (p : Place) (e : Typed) → IsMade s e
    → Gives (IsTree s) (not_floating p e)
solid_made s p e h =
    gives_met _ _ (λ solid. gives
    (record { typed = h.typed (floating_same (of e) solid); sound = h.sound; placed = h.placed }))

pub tree_made : (s : Scene) (e : Typed) → IsTree s e → IsMade s e
tree_made s e h = record {
  formed = tree_formed s e h;
  sound = h.sound;
  typed = λ solid. h.typed;
  placed = h.placed;
}

-- ---- lvalues

form_placed : (t : CType) (f : TypedForm) → designates f ≡ true → form_has_place t f ≡ true
form_placed t (tree.object n) h = refl
form_placed t (tree.index a b) h = refl
form_placed t (tree.arrow a n) h = refl
form_placed t (tree.unary Star a) h = refl
form_placed t (tree.member a n) h = refl
form_placed t f h = absurd (true≢false (sym h))

pub lvalue_placed : (e : Typed) → is_lvalue e ≡ true → has_place e ≡ true
lvalue_placed (typed f t p m) h = form_placed t f (and_true _ (designates f) h).1

-- ---- values

-- neither a function nor an array that is an lvalue
record IsPlain (s : Scene) (e : Typed) : Type 0 where
  tree : IsTree s e
  no_function : is_function (of e) ≡ false
  no_lvalue_array : (is_lvalue e && is_array (of e)) ≡ false

and_false : (b : Bool) → (b && false) ≡ false
and_false true = refl
and_false false = refl

module _ (s : Scene) where
  abbrev decayed_by : Bool → Typed → Typed
  decayed_by b e = elim
      (decayed_type b (of e))
      [ None ↦ e | Some u ↦ typed (tree.decay e) u (place_of e) (mark_of e) ]

  plain_by : (b : Bool) (t : CType) (f : TypedForm) (p m : Place) → is_lvalue (typed f t p m) ≡ b
      → IsTree s (typed f t p m) → IsPlain s (decayed_by b (typed f t p m))
  plain_by true (array t n) f p m l h = record {
    tree = record {
      typed = (
        refl,
        element_formed s.structs t n h.typed.1,
        (h.typed, lvalue_placed (typed f (array t n) p m) l, refl, refl),
      );
      sound = h.sound;
      placed = λ e. absurd (true≢false (sym e));
    };
    no_function = refl;
    no_lvalue_array = refl;
  }
  plain_by false (array t n) f p m l h =
      record { tree = h; no_function = refl; no_lvalue_array = ap (λ b. b && true) l }
  plain_by true (function r) f p m l h = record {
    tree = record {
      typed = (refl, h.typed.1, (h.typed, h.placed refl, refl, refl));
      sound = h.sound;
      placed = λ e. absurd (true≢false (sym e));
    };
    no_function = refl;
    no_lvalue_array = refl;
  }
  plain_by false (function r) f p m l h = record {
    tree = record {
      typed = (refl, h.typed.1, (h.typed, h.placed refl, refl, refl));
      sound = h.sound;
      placed = λ e. absurd (true≢false (sym e));
    };
    no_function = refl;
    no_lvalue_array = refl;
  }
  plain_by b t f p m l h =
      record {
        tree = h;
        no_function = refl;
        no_lvalue_array = and_false (is_lvalue (typed f t p m));
      }

  plain_decayed : (e : Typed) → IsTree s e → IsPlain s (decayed e)
  plain_decayed (typed f t p m) h = plain_by (is_lvalue (typed f t p m)) t f p m refl h

  known_closed : (t : CType) → IsSoundTable s.structs → IsFormed s.structs t
      → not (is_open_struct s.structs t) ≡ true → IsKnown s.structs t
  known_closed (structure k) table f h =
      (complete_sized s.structs table (structure k) f
      (twice (is_complete s.structs (structure k)) h)).0
    where
      twice : (b : Bool) → not (not b) ≡ true → b ≡ true
      twice true h = refl
      twice false h = h
  known_closed t table f h = tt

  pub tree_valued : (p : Place) (e : Typed) → IsSoundTable s.structs → IsTree s e
      → Gives (IsValued s) (value s.structs p e)
  tree_valued p e table h = by (decayed e) (plain_decayed e h)
    where
      by : (d : Typed) → IsPlain s d
          → Gives (IsValued s)
          (where_met (not (is_open_struct s.structs (of d))) IncompleteType p (accepted d))
      by d h = gives_met _ _ (λ closed. gives (record {
        tree = h.tree;
        value = record {
          no_function = h.no_function;
          no_lvalue_array = h.no_lvalue_array;
          known = known_closed (of d) table (tree_formed s d h.tree) closed;
        };
      }))

  -- ---- conversions

  -- the tree, with this type
  pub record IsOf (t : CType) (e : Typed) : Type 0 where
    pub tree : IsTree s e
    pub is : of e ≡ t

  pub tree_converted : (t : CType) (e : Typed) → IsTree s e → IsFormed s.structs t → IsSound t
      → convertible (of e) t ≡ true → IsOf t (converted t e)
  tree_converted t e h f g c = by (same_type (of e) t) refl
    where
      x : (is_floating t ≡ false) × (is_function t ≡ false) × Converts (of e) t
      x = convertible_plain (of e) t c

      by : (b : Bool) → same_type (of e) t ≡ b
          → IsOf t (if b then e else typed (tree.convert e) t (place_of e) (mark_of e))
      by true same = record { tree = h; is = same_type_is (of e) t same }
      by false other = record {
        tree = record {
          typed = (x.0, f, (h.typed, x.2, converted_known s.structs (of e) t c other));
          sound = g;
          placed = λ e. absurd (true≢false (sym e ∙ x.1));
        };
        is = refl;
      }
