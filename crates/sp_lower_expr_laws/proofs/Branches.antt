-- Conditions: forks, short circuits and their values (C90 6.3.13, 6.3.14).
use Rattle.std.proofs.Common.{◌≡◌, ℕ, true, false, List, [], ◌++◌, Some, refl, arith}
use Rattle.std.specs.Prelude.{pos, All}
use Rattle.std.proofs.lemmas.List.Elements.{All-nil, All-append, All-weaker}
use Rattle.sp_tree.specs.declared.fault.Place.{Place}
use Rattle.sp_tree.specs.declared.token.Punct.{Punct}
use Rattle.sp_tree.specs.declared.token.Punct.TheVariants.{Less, LessEqual, Greater, GreaterEqual, EqualEqual, NotEqual}
use Rattle.sp_types.specs.declared.ctype.IntKind.TheVariants.{Int}
use Rattle.sp_types.specs.Types.{integer}
use Rattle.sp_types.specs.Structs.{IsFormed}
use Rattle.sp_types.specs.Typed.{Typed, of, place_of}
use Rattle.sp_ir.specs.Commands.{Expression, number, address, decay, read, convert, unary, binary, compare, move, distance, Lvalue, Command, assign, assume, Node}
use Rattle.sp_ir.specs.Regions.{Region}
use Rattle.sp_ir.specs.Programs.{Object}
use Rattle.sp_ir.specs.Formed.{IsScalar, is_integer, is_relation, is_floating}
use Rattle.sp_lower_draft.specs.declared.operators.Circuit.{Circuit}
use Rattle.sp_lower_draft.specs.declared.operators.Circuit.TheVariants.{And, Or}
use Rattle.sp_lower_draft.specs.Context.{Context}
use Rattle.sp_lower_draft.specs.Draft.{Draft, Left, Branch, Condition, condition, opposite, fork, with_loose, add, temporary}
use Rattle.sp_lower_draft.specs.Steps.{truth, met}
use Rattle.sp_lower_draft.specs.Expressions.{Operand, swapped, circuit_branch}
use Rattle.sp_check_typing.specs.Sorts.{IsStored}
use Rattle.sp_lower_expr_laws.specs.Stands.{table, Holds}
use Rattle.sp_lower_expr_laws.specs.Grown.{IsEnd, Grown, same, node, turned}
use Rattle.sp_lower_expr_laws.specs.Uses.{IsValue, Gives, GivesEnds}
use Rattle.sp_lower_expr_laws.proofs.Growing.{Before, before_all, onward, back, ends_stay, new_end}
use Rattle.sp_lower_expr_laws.proofs.Keeps.{IsKept, temporary_good, kept_read, both_integers}

-- ---- conditions

opposite_relates : (p : Punct) → is_relation (opposite p) ≡ true
opposite_relates Less = refl
opposite_relates LessEqual = refl
opposite_relates Greater = refl
opposite_relates GreaterEqual = refl
opposite_relates EqualEqual = refl
opposite_relates p = refl

pub ends_before : (xs ys : List Node) (f : ℕ) (ends : List ℕ) → Before xs ys → All (IsEnd xs f) ends → All (IsEnd ys f) ends
ends_before xs ys f ends b h = All-weaker (IsEnd xs f) (IsEnd ys f) (λ n e. record { node = e.node; there = b n e.node e.there; function = e.function; begins = e.begins }) ends h

module _ (c : Context) (os : List Object) (rs : List Region) where
  abbrev IsScalarHere : Expression → Type 0
  IsScalarHere e = IsScalar (table c os) (Some c.function) e

  record IsCondition (d : Condition) : Type 0 where
    lhs : IsScalarHere d.lhs
    rhs : IsScalarHere d.rhs
    relation : is_relation d.relation ≡ true

  zero_formed : IsScalarHere (number (pos 0) Int)
  zero_formed = ((omega arith, omega arith), refl)

  against_zero : (e : Expression) → IsScalarHere e → IsCondition (record { lhs = e; relation = NotEqual; rhs = number (pos 0) Int })
  against_zero e h = record { lhs = h; rhs = zero_formed; relation = refl }

  condition_good : (e : Expression) → IsScalarHere e → IsCondition (condition e)
  condition_good (compare p a b) h = record { lhs = (h.0.0, h.0.2); rhs = (h.0.1, h.0.3); relation = h.0.4 }
  condition_good (number z k) h = against_zero (number z k) h
  condition_good (address l) h = against_zero (address l) h
  condition_good (decay l) h = against_zero (decay l) h
  condition_good (read l) h = against_zero (read l) h
  condition_good (convert t e) h = against_zero (convert t e) h
  condition_good (unary p k e) h = against_zero (unary p k e) h
  condition_good (binary p k a b at) h = against_zero (binary p k a b at) h
  condition_good (move a b back size) h = against_zero (move a b back size) h
  condition_good (distance a b size) h = against_zero (distance a b size) h

  pub fork_good : (e : Typed) (v : Expression) (s : Draft) → (Holds c os s → IsScalar (table c os) (Some c.function) v) → GivesEnds c os rs s (fork c e v s)
  fork_good e v s h =
      let d : Condition = condition v in
      let at : Place = place_of e in
      let one : Command = assume d.lhs d.relation d.rhs in
      let two : Command = assume d.lhs (opposite d.relation) d.rhs in
      let first : Draft = add c one at s in
      let begun : Draft = with_loose s.loose first in
      let second : Draft = add c two at begun in
      let good : (Holds c os s → IsCondition d) = λ (k : Holds c os s). condition_good v (h k) in
      let g1 : Grown c os rs s first = node one at same refl (λ k. ((good k).lhs, (good k).rhs, (good k).relation)) in
      let g2 : Grown c os rs s begun = turned s.loose g1 (λ r. ends_stay g1 s.loose r) in
      let g3 : Grown c os rs s second = node two at g2 refl (λ k. let w : IsCondition d = good (back g2 k) in (w.lhs, w.rhs, opposite_relates d.relation)) in
      record {
        grown = turned [] g3 (λ r. All-nil (IsEnd second.nodes c.function));
        yes = λ r. ends_before first.nodes second.nodes c.function first.loose (before_all first.nodes _) (new_end c s one at refl);
        no = λ r. new_end c begun two at refl;
      }

  pub swapped_good : (s : Draft) (b : Branch) → GivesEnds c os rs s b → GivesEnds c os rs s (swapped b)
  swapped_good s b g = record { grown = g.grown; yes = g.no; no = g.yes }

  -- all ends loose
  pub met_good : (s : Draft) (b : Branch) → GivesEnds c os rs s b → Grown c os rs s (met b)
  met_good s b g = turned (b.yes ++ b.no) g.grown (λ r. All-append (IsEnd b.after.nodes c.function) b.yes b.no (g.yes r) (g.no r))

  -- ---- short circuits

  pub circuit_good : (k : Circuit) (a b : Operand) → ((s : Draft) → GivesEnds c os rs s (a.meaning.branch s)) → ((s : Draft) → GivesEnds c os rs s (b.meaning.branch s))
      → (s : Draft) → GivesEnds c os rs s (circuit_branch k a b s)
  circuit_good And a b ga gb s =
      let first : Branch = a.meaning.branch s in
      let begun : Draft = with_loose first.yes first.after in
      let second : Branch = b.meaning.branch begun in
      let g : GivesEnds c os rs s first = ga s in
      let k : GivesEnds c os rs begun second = gb begun in
      record {
        grown = onward (turned first.yes g.grown g.yes) k.grown;
        yes = λ r. k.yes (g.yes r);
        no = λ r. All-append (IsEnd second.after.nodes c.function) first.no second.no (ends_stay k.grown first.no (g.no r)) (k.no (g.yes r));
      }
  circuit_good Or a b ga gb s =
      let first : Branch = a.meaning.branch s in
      let begun : Draft = with_loose first.no first.after in
      let second : Branch = b.meaning.branch begun in
      let g : GivesEnds c os rs s first = ga s in
      let k : GivesEnds c os rs begun second = gb begun in
      record {
        grown = onward (turned first.no g.grown g.no) k.grown;
        yes = λ r. All-append (IsEnd second.after.nodes c.function) first.yes second.yes (ends_stay k.grown first.yes (g.yes r)) (k.yes (g.no r));
        no = λ r. k.no (g.no r);
      }

  pub truth_good : (e : Typed) (b : Branch) (s : Draft) → IsFormed c.structs (of e) → is_integer (of e) ≡ true → is_floating (of e) ≡ false → IsStored c.structs (of e)
      → GivesEnds c os rs s b → Gives c os rs (IsValue c os (of e)) s (truth c e b)
  truth_good e b s f i r st g =
      let at : Place = place_of e in
      let tmp : Left Lvalue = temporary c (of e) b.after in
      let m : Gives c os rs (IsKept c os rs (of e)) b.after tmp = temporary_good c os rs (of e) b.after f r in
      let x : Command = assign tmp.pure (number (pos 1) Int) in
      let y : Command = assign tmp.pure (number (pos 0) Int) in
      let begun : Draft = with_loose b.yes tmp.after in
      let one : Draft = add c x at begun in
      let other : Draft = with_loose b.no one in
      let zero : Draft = add c y at other in
      let g1 : Grown c os rs s tmp.after = onward g.grown m.grown in
      let g2 : Grown c os rs s begun = turned b.yes g1 g.yes in
      let g3 : Grown c os rs s one = node x at g2 refl (λ h. ((m.pure (record { temporaries = h.temporaries; sites = h.sites })).0, (omega arith, omega arith), both_integers (of e) (integer Int) i refl)) in
      let g4 : Grown c os rs s other = turned b.no g3 (λ r. ends_before b.after.nodes one.nodes c.function b.no (before_all b.after.nodes _) (g.no r)) in
      let g5 : Grown c os rs s zero = node y at g4 refl (λ h. ((m.pure (record { temporaries = h.temporaries; sites = h.sites })).0, (omega arith, omega arith), both_integers (of e) (integer Int) i refl)) in
      record {
        grown = turned (one.loose ++ zero.loose) g5 (λ r. All-append (IsEnd zero.nodes c.function) one.loose zero.loose
            (ends_before one.nodes zero.nodes c.function one.loose (before_all one.nodes _) (new_end c begun x at refl)) (new_end c other y at refl));
        pure = λ h. kept_read c os rs (of e) tmp.pure (m.pure (record { temporaries = h.temporaries; sites = h.sites })) st;
      }
