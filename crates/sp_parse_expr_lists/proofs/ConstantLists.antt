-- The constants of an enumeration, over plain variables.
use Rattle.std.proofs.Common.{◌≡◌, ℕ, ◌+◌, ◌≤◌, Bool, true, false, List, [], ◌∷◌, ◌++◌, map, length, inl, inr, refl, sym, ap, ◌∙◌, subst, arith}
use Rattle.std.specs.Prelude.{max, Option}
use Rattle.sp_tree.specs.declared.fault.Place.{Place}
use Rattle.sp_tree.specs.declared.token.Token.{Token}
use Rattle.sp_parse_trees.specs.Depth.{enumerators_depth}
use Rattle.sp_parse_trees.specs.declared.tree.Expr.{Expr}
use Rattle.sp_parse_grammar.specs.CTokens as tokens
use Rattle.sp_parse_grammar.specs.CTokens.{is_mark, view}
use Rattle.sp_parse_grammar.specs.CTable as grammar
use Rattle.sp_parse_grammar.specs.CTable.{Context, at, get, next}
use Rattle.sp_parse_grammar.specs.Table.{ask, Reads}
use Rattle.sp_parse_tokens.specs.Sorts.{sort_of, c_tokens}
use Rattle.sp_parse_tokens.specs.SyntaxTrees.{c_table}
use Rattle.sp_parse_tokens.specs.Makers.{Enumerator, all_enumerators}
use Rattle.sp_parse_tokens.specs.Ended.{IsEnded}
use Rattle.sp_parse_tokens.proofs.Settled.{enumerators_snoc}
use Rattle.sp_parse_tokens.specs.declared.part.ReadError.{ReadError}
use Rattle.sp_parse_tokens.specs.declared.part.ReadError.TheVariants as stops
use Rattle.sp_parse_tokens.specs.declared.scope.Scope.{Scope}
use Rattle.sp_parse_expr_steps.specs.Reading.{IsRead, IsStop}
use Rattle.sp_parse_expr_steps.specs.Declaring.{constant_seen, IsConstantsStop, StopsInConstants, StopsAtEnd}
use Rattle.sp_parse_expr_steps.proofs.Steps.{begun, got, last}
use Rattle.sp_parse_expr_steps.proofs.Parts.{stop_part}
use Rattle.sp_parse_expr_steps.proofs.ListSteps.{choice_ends, enumerators_on, enumerators_more, map_more}
use Rattle.sp_parse_expr_lists.specs.Heads.{IsPastComma, Lacks}
use Rattle.sp_parse_expr_lists.specs.Bodies.{ConstantsAreBehind, ConstantsGoOn, HasConstants, IsBeforeConstant}
use Rattle.sp_parse_expr_lists.proofs.Opened.{past_ended}

module _ (g : Context) (scope : Scope) (depth : ℕ) (inside : List Token) where
  in_first : (s : ReadError) → IsStop g grammar.enumerator depth inside s → IsConstantsStop g scope depth inside s
  in_first (stops.Fault kind rest) h = inl h
  in_first (stops.TooDeep rest) h = inl h
  in_first stops.NoMemory h = tt

  in_later : (s : ReadError) → StopsInConstants g scope depth inside s → IsConstantsStop g scope depth inside s
  in_later (stops.Fault kind rest) h = inr (inl h)
  in_later (stops.TooDeep rest) h = inr (inl h)
  in_later stops.NoMemory h = tt

  pub at_end : (s : ReadError) → StopsAtEnd g scope inside s → IsConstantsStop g scope depth inside s
  at_end (stops.Fault kind rest) h = inr (inr h)
  at_end (stops.TooDeep rest) h = inr (inr h)
  at_end stops.NoMemory h = tt

  -- none is read
  pub first_constant : IsBeforeConstant g scope depth inside [] inside
  first_constant = record {
    takes = λ e later r. record { first = e; mid = later; one = r; step = begun (at g (grammar.enumerators (e ∷ []))) (c_tokens later) };
    stops = λ s h. in_first s h;
  }

  -- one is read behind those
  pub constants_go_on : (more : Bool) (es : List Enumerator) (mid rest : List Token) → ConstantsAreBehind g inside es mid → IsPastComma g.types mid more rest → ConstantsGoOn g scope depth inside more es rest
  constants_go_on true es mid rest b e =
      let on = enumerators_on g (b.first ∷ []) es b.mid mid rest e.first b.step e.whole e.stands in
      record {
        takes = λ v later r. record { first = b.first; mid = b.mid; one = b.one; step = last (got on r) };
        stops = λ s h. in_later s (record { first = b.first; mid = b.mid; one = b.one; why = stop_part g g g (grammar.enumerators (b.first ∷ [])) (grammar.enumerators es) grammar.enumerator (λ a. a) (enumerators_more g es) depth depth b.mid rest on (omega arith) s h });
      }
  constants_go_on false es mid rest b e = (subst (λ v. ConstantsAreBehind g inside es v) (sym e.0) b, subst (λ v. Lacks g.types tokens.comma v) (sym e.0) e.1)

-- no comma goes on with them
pub constants_end : (g : Context) (inside : List Token) (es : List Enumerator) (rest : List Token) → (b : ConstantsAreBehind g inside es rest) → Lacks g.types tokens.comma rest → Reads c_table (at g (grammar.enumerators (b.first ∷ []))) (ask (at g (grammar.enumerators (b.first ∷ [])))) (c_tokens b.mid) es (c_tokens rest)
constants_end g inside es rest b e = choice_ends g (grammar.enumerators (b.first ∷ [])) (grammar.enumerators es) (λ a. a) b.mid rest e.behind e.first b.step e.whole (is_mark tokens.comma (view g.types (sort_of e.first.kind))) es (next (λ y. get g grammar.enumerator (enumerators_more g es))) refl e.missing

-- ---- what the calls make of them

pub none_listed : (g : Context) (scope : Scope) (depth : ℕ) (inside : List Token) (cs : List (ℕ × Place × Option Expr)) → cs ≡ [] → IsEnded inside → HasConstants g scope depth inside true (map constant_seen cs) 0 inside
none_listed g scope depth inside cs none ended = subst (λ v. HasConstants g scope depth inside true (map constant_seen v) 0 inside) (sym none) (record { goes_on = first_constant g scope depth inside; deep = refl; shallow = omega arith; ended = ended; fewer = omega arith })

module _ (g : Context) (scope : Scope) (depth : ℕ) (inside : List Token) (cs now : List (ℕ × Place × Option Expr)) (c : ℕ × Place × Option Expr) (m n k : ℕ) (rest mid later : List Token) (more : Bool) where
  pub one_listed : HasConstants g scope depth inside true (map constant_seen cs) m rest → IsRead g grammar.enumerator depth rest (constant_seen c) n mid → now ≡ cs ++ c ∷ [] → k ≡ max m n → IsPastComma g.types mid more later → HasConstants g scope depth inside more (map constant_seen now) k later × (1 + length later ≤ length rest)
  one_listed b h items top past =
      let es = map constant_seen cs in
      let v = constant_seen c in
      let same : map constant_seen now ≡ es ++ v ∷ [] = ap (λ w. map constant_seen w) items ∙ map_more (λ w. constant_seen w) cs c in
      let ended = past_ended g.types more mid later past h.ended in
      let less = ended.1 in
      let deep : k ≡ enumerators_depth (all_enumerators (es ++ v ∷ [])) = omega (arith, top, b.deep, h.deep, enumerators_snoc es v) in (
        subst (λ w. HasConstants g scope depth inside more w k later) (sym same) (record {
          goes_on = constants_go_on g scope depth inside more (es ++ v ∷ []) mid later (b.goes_on.takes v mid h.reads) past;
          deep = deep;
          shallow = omega (arith, top, b.shallow, h.shallow);
          ended = ended.0;
          fewer = omega (arith, h.fewer, b.fewer, less);
        }),
        omega (arith, h.fewer, less),
      )
