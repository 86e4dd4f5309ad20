-- The arguments of a call, over plain variables.
use Rattle.std.proofs.Common.{◌≡◌, ℕ, ◌+◌, ◌≤◌, Bool, true, false, List, [], ◌∷◌, ◌++◌, map, length, refl, sym, ap, ◌∙◌, subst, arith}
use Rattle.std.specs.Prelude.{max}
use Rattle.sp_tree.specs.declared.token.Token.{Token}
use Rattle.sp_parse_trees.specs.Syntax.{Expression}
use Rattle.sp_parse_trees.specs.View.{expressions, tree_of}
use Rattle.sp_parse_trees.specs.Depth.{expressions_depth}
use Rattle.sp_parse_trees.specs.declared.tree.Expr.{Expr}
use Rattle.sp_parse_grammar.specs.CTokens.{view}
use Rattle.sp_parse_grammar.specs.CTable as grammar
use Rattle.sp_parse_grammar.specs.CTable.{Context, get, begins_expression}
use Rattle.sp_parse_grammar.specs.Table.{done}
use Rattle.sp_parse_tokens.specs.Sorts.{sort_of}
use Rattle.sp_parse_tokens.specs.Ended.{IsEnded}
use Rattle.sp_parse_tokens.specs.declared.part.Operand.{Operand}
use Rattle.sp_parse_expr_steps.specs.Reading.{IsRead, IsStep, operand_seen}
use Rattle.sp_parse_expr_steps.proofs.Steps.{got, last}
use Rattle.sp_parse_expr_steps.proofs.Parts.{stop_part}
use Rattle.sp_parse_expr_steps.proofs.Suffixes.{no_arguments, arguments_on, arguments_end, more_on, trees_more}
use Rattle.sp_parse_tokens.proofs.Settled.{args_snoc}
use Rattle.sp_parse_expr_lists.specs.Heads.{IsPastComma}
use Rattle.sp_parse_expr_lists.specs.Given.{HasArguments}
use Rattle.sp_parse_expr_lists.proofs.Opened.{past_ended}

module _ (g : Context) (depth : ℕ) (text : List Token) where
  none_listed_at : (more : Bool) (xs : List Token) (x : Token) → text ≡ x ∷ xs → more ≡ begins_expression (view g.types (sort_of x.kind)) → IsEnded text → HasArguments g depth text more [] 0 text
  none_listed_at true xs x e is ended =
      let on = arguments_on g text xs x e (sym is) in
      record {
        takes = λ o n later r. last (got on r.reads);
        stops = λ s h. stop_part g g g grammar.arguments grammar.arguments (grammar.level 12) (λ a. a) (λ o. get g (grammar.more_arguments (o.tree ∷ [])) (λ es. done es)) depth depth text text on (omega arith) s h;
        deep = refl;
        shallow = omega arith;
        ended = ended;
        fewer = omega arith;
      }
  none_listed_at false xs x e is ended = no_arguments g text xs x e depth (sym is) ended

  pub none_listed : (items : List Expr) → items ≡ [] → (more : Bool) (xs : List Token) (x : Token) → text ≡ x ∷ xs → more ≡ begins_expression (view g.types (sort_of x.kind)) → IsEnded text → HasArguments g depth text more (map tree_of items) 0 text
  none_listed items none more xs x e is ended = subst (λ v. HasArguments g depth text more (map tree_of v) 0 text) (sym none) (none_listed_at more xs x e is ended)

  -- one is read behind those
  go_on : (more : Bool) (es : List Expression) (k : ℕ) (mid later : List Token) → IsStep g grammar.arguments (grammar.more_arguments es) (λ a. a) text mid → IsPastComma g.types mid more later → k ≡ expressions_depth (expressions es) → k ≤ depth → IsEnded mid → length mid ≤ length text → HasArguments g depth text more es k later
  go_on true es k mid later step e deep shallow ended fewer =
      let on = more_on g es text mid later e.first step e.whole e.stands in
      let past = past_ended g.types true mid later e ended in
      let less = past.1 in
      record {
        takes = λ o n far r. last (got on r.reads);
        stops = λ s h. stop_part g g g grammar.arguments (grammar.more_arguments es) (grammar.level 12) (λ a. a) (λ o. get g (grammar.more_arguments (es ++ o.tree ∷ [])) (λ fs. done fs)) depth depth text later on (omega arith) s h;
        deep = deep;
        shallow = shallow;
        ended = past.0;
        fewer = omega (arith, less, fewer);
      }
  go_on false es k mid later step e deep shallow ended fewer = subst (λ v. IsRead g grammar.arguments depth text es k v) (sym e.0) (arguments_end g es text mid e.1.behind e.1.first step e.1.whole depth k e.1.missing deep shallow ended fewer)

  pub one_listed : (items now : List Expr) (o : Operand) (m n k : ℕ) (rest mid later : List Token) (more : Bool) → HasArguments g depth text true (map tree_of items) m rest → IsRead g (grammar.level 12) depth rest (operand_seen o) n mid → now ≡ items ++ o.tree ∷ [] → k ≡ max m n → IsPastComma g.types mid more later → HasArguments g depth text more (map tree_of now) k later × (1 + length later ≤ length rest)
  one_listed items now o m n k rest mid later more b h same top past =
      let es = map tree_of items in
      let e = tree_of o.tree in
      let all : map tree_of now ≡ es ++ e ∷ [] = ap (λ v. map tree_of v) same ∙ trees_more items o.tree in
      let past_end = past_ended g.types more mid later past h.ended in
      let less = past_end.1 in
      let deep : k ≡ expressions_depth (expressions (es ++ e ∷ [])) = omega (arith, top, b.deep, h.deep, args_snoc es e) in
      (subst (λ v. HasArguments g depth text more v k later) (sym all) (go_on more (es ++ e ∷ []) k mid later (b.takes (operand_seen o) n mid h) past deep (omega (arith, top, b.shallow, h.shallow)) h.ended (omega (arith, h.fewer, b.fewer))), omega (arith, h.fewer, less))
