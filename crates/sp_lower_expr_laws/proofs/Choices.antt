-- The conditional operator (C90 6.3.15).
use Rattle.std.proofs.Common.{◌≡◌, ℕ, true, false, List, ◌++◌, length, Some, None, slice_get, sym}
use Rattle.std.proofs.lemmas.List.Elements.{All-append}
use Rattle.sp_tree.specs.declared.fault.Place.{Place}
use Rattle.sp_types.specs.Types.{CType, void, integer, floating, pointer, array, structure, function}
use Rattle.sp_types.specs.Structs.{IsFormed}
use Rattle.sp_types.specs.Typed.{Typed, typed, of, place_of}
use Rattle.sp_types.specs.Typed as tree
use Rattle.sp_ir.specs.Commands.{Expression, Lvalue, Node}
use Rattle.sp_ir.specs.Regions.{Region}
use Rattle.sp_ir.specs.Programs.{Object}
use Rattle.sp_ir.specs.Formed.{is_scalar, is_floating}
use Rattle.sp_lower_draft.specs.Context.{Context}
use Rattle.sp_lower_draft.specs.Draft.{Draft, Left, Branch, with_loose, add, stored, temporary}
use Rattle.sp_lower_draft.specs.Expressions.{Meaning, operand_of, lvalue, chosen_place, chosen_unused, conditional}
use Rattle.sp_check_typing.specs.Sorts.{same_value, IsStored}
use Rattle.sp_check_typing.specs.Trees.{IsChoice}
use Rattle.sp_lower_expr_laws.specs.Stands.{Holds}
use Rattle.sp_lower_expr_laws.specs.Grown.{IsEnd, Grown, node, turned}
use Rattle.sp_lower_expr_laws.specs.Uses.{IsValue, Designates, Gives, GivesEnds, IsGood}
use Rattle.sp_lower_expr_laws.proofs.Growing.{Before, before_all, nodes_stay, onward, ready, back, new_end, plain_begins}
use Rattle.sp_lower_expr_laws.proofs.Sorts.{false_true, agrees_self, stored_there}
use Rattle.sp_lower_expr_laws.proofs.Keeps.{stored_floating, value_as, IsKept, temporary_good, store_good, store_plain}
use Rattle.sp_lower_expr_laws.proofs.Branches.{ends_before}
use Rattle.sp_lower_expr_laws.proofs.Plain.{lvalue_good}
use Rattle.sp_lower_expr_laws.proofs.Assignments.{stored_as, kept_whole}

module _ (c : Context) (os : List Object) (rs : List Region) (a b d : Typed) (ma mb md : Meaning) (ga : IsGood c os rs a ma) (gb : IsGood c os rs b mb) (gd : IsGood c os rs d md) (k : is_scalar (of a) ≡ true) where
  chosen_unused_good : (s : Draft) → Grown c os rs s (chosen_unused (operand_of ma a) (operand_of mb b) (operand_of md d) s)
  chosen_unused_good s =
      let branch : Branch = ma.branch s in
      let begun : Draft = with_loose branch.yes branch.after in
      let one : Draft = mb.unused begun in
      let again : Draft = with_loose branch.no one in
      let other : Draft = md.unused again in
      let g0 : GivesEnds c os rs s branch = ga.branch k s in
      let g1 : Grown c os rs s begun = turned branch.yes g0.grown g0.yes in
      let g2 : Grown c os rs begun one = gb.unused begun in
      let g3 : Grown c os rs s one = onward g1 g2 in
      let g4 : Grown c os rs s again = turned branch.no g3 (λ r. ends_before branch.after.nodes one.nodes c.function branch.no (nodes_stay g2) (g0.no r)) in
      let g5 : Grown c os rs again other = gd.unused again in
      turned (one.loose ++ other.loose) (onward g4 g5) (λ r. All-append (IsEnd other.nodes c.function) one.loose other.loose
      (ends_before one.nodes other.nodes c.function one.loose (nodes_stay g5) (ready g3 r)) (ready (onward g4 g5) r))

  module _ (e : Typed) (f : IsFormed c.structs (of e)) (st : IsStored c.structs (of e)) (left_to : same_value (of b) (of e) ≡ true) (right_to : same_value (of d) (of e) ≡ true) where
    chosen_place_good : (s : Draft) → Gives c os rs (Designates c os (of e)) s (chosen_place c e (operand_of ma a) (operand_of mb b) (operand_of md d) s)
    chosen_place_good s =
        let at : Place = place_of e in
        let branch : Branch = ma.branch s in
        let begun : Draft = with_loose branch.yes branch.after in
        let first : Left Expression = mb.value None begun in
        let tmp : Left Lvalue = temporary c (of e) first.after in
        let one : Draft = add c (stored tmp.pure (of e) first.pure) at tmp.after in
        let again : Draft = with_loose branch.no one in
        let second : Left Expression = md.value None again in
        let other : Draft = add c (stored tmp.pure (of e) second.pure) at second.after in
        let r : is_floating (of e) ≡ false = stored_floating c (of e) st in
        let g0 : GivesEnds c os rs s branch = ga.branch k s in
        let g1 : Grown c os rs s begun = turned branch.yes g0.grown g0.yes in
        let gf : Gives c os rs (IsValue c os (of b)) begun first = gb.value (stored_there c.structs (of b) (stored_as c (of b) (of e) left_to st)) None tt begun in
        let m : Gives c os rs (IsKept c os rs (of e)) first.after tmp = temporary_good c os rs (of e) first.after f r in
        let g2 : Grown c os rs s tmp.after = onward (onward g1 gf.grown) m.grown in
        let g3 : Grown c os rs s one = node (stored tmp.pure (of e) first.pure) at g2 (store_plain tmp.pure (of e) first.pure)
        (λ h. store_good c os rs (length tmp.after.nodes) tmp.pure (of e) first.pure (m.pure h).0 (agrees_self (of e) r) st
        ((gf.pure (back m.grown h)).0, value_as c (of b) (of e) first.pure left_to (gf.pure (back m.grown h)).1)) in
        let before : Before branch.after.nodes one.nodes = λ (i : ℕ) (x : Node) (q : slice_get branch.after.nodes i ≡ Some x). before_all first.after.nodes _ i x (nodes_stay gf.grown i x q) in
        let g4 : Grown c os rs s again = turned branch.no g3 (λ q. ends_before branch.after.nodes one.nodes c.function branch.no before (g0.no q)) in
        let gs : Gives c os rs (IsValue c os (of d)) again second = gd.value (stored_there c.structs (of d) (stored_as c (of d) (of e) right_to st)) None tt again in
        let stands : (Holds c os second.after → Holds c os tmp.after) = λ (h : Holds c os second.after). let w : Holds c os again = back gs.grown h in record { temporaries = w.temporaries; sites = w.sites } in
        let g6 : Grown c os rs s other = node (stored tmp.pure (of e) second.pure) at (onward g4 gs.grown) (store_plain tmp.pure (of e) second.pure)
        (λ h. store_good c os rs (length second.after.nodes) tmp.pure (of e) second.pure (m.pure (stands h)).0 (agrees_self (of e) r) st
        ((gs.pure h).0, value_as c (of d) (of e) second.pure right_to (gs.pure h).1)) in
        let behind : Before one.nodes other.nodes = λ (i : ℕ) (x : Node) (q : slice_get one.nodes i ≡ Some x). before_all second.after.nodes _ i x (nodes_stay gs.grown i x q) in
        record {
          grown = turned (one.loose ++ other.loose) g6 (λ q. All-append (IsEnd other.nodes c.function) one.loose other.loose
              (ends_before one.nodes other.nodes c.function one.loose behind (new_end c tmp.after (stored tmp.pure (of e) first.pure) at (plain_begins (stored tmp.pure (of e) first.pure) (store_plain tmp.pure (of e) first.pure))))
              (new_end c second.after (stored tmp.pure (of e) second.pure) at (plain_begins (stored tmp.pure (of e) second.pure) (store_plain tmp.pure (of e) second.pure))));
          pure = λ h. kept_whole c os rs (of e) tmp.pure st (m.pure (stands (record { temporaries = h.temporaries; sites = h.sites })));
        }

    stored_conditional : IsGood c os rs e (conditional c e (operand_of ma a) (operand_of mb b) (operand_of md d))
    stored_conditional =
        let base : IsGood c os rs e (lvalue c e (chosen_place c e (operand_of ma a) (operand_of mb b) (operand_of md d))) =
        lvalue_good c os rs e (chosen_place c e (operand_of ma a) (operand_of mb b) (operand_of md d)) f (stored_floating c (of e) st) chosen_place_good in
        record { value = base.value; place = base.place; unused = chosen_unused_good; branch = base.branch }

  pub conditional_good : (t : CType) (p m : Place) → IsChoice c.structs t (of b) (of d) → IsFormed c.structs t
      → IsGood c os rs (typed (tree.choice a b d) t p m) (conditional c (typed (tree.choice a b d) t p m) (operand_of ma a) (operand_of mb b) (operand_of md d))
  conditional_good void p m h f = record {
    value = λ v. false_true (sym v);
    place = λ q. false_true q;
    unused = chosen_unused_good;
    branch = λ q. false_true q;
  }
  conditional_good (integer i) p m h f = stored_conditional (typed (tree.choice a b d) (integer i) p m) f h.0 h.1 h.2
  conditional_good (pointer t) p m h f = stored_conditional (typed (tree.choice a b d) (pointer t) p m) f h.0 h.1 h.2
  conditional_good (structure i) p m h f = stored_conditional (typed (tree.choice a b d) (structure i) p m) f h.0 h.1 h.2
  conditional_good (floating i) p m h f = absurd h.0
  conditional_good (array t n) p m h f = absurd h.0
  conditional_good (function s) p m h f = absurd h.0
