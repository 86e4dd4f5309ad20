-- A declaration of members, over plain variables.
use Rattle.std.proofs.Common.{◌≡◌, ℕ, ◌+◌, ◌≤◌, Bool, true, false, List, [], ◌∷◌, ◌++◌, map, length, refl, sym, ap, subst, arith}
use Rattle.std.specs.Prelude.{max, if◌then◌else◌}
use Rattle.sp_tree.specs.declared.token.Token.{Token}
use Rattle.sp_parse_trees.specs.Syntax.{init_declarator, no_init}
use Rattle.sp_parse_trees.specs.View.{declarator_of}
use Rattle.sp_parse_trees.specs.Depth.{items_depth}
use Rattle.sp_parse_trees.specs.declared.tree.InitDeclarator.{InitDeclarator as CodeItem}
use Rattle.sp_parse_grammar.specs.CTokens as tokens
use Rattle.sp_parse_grammar.specs.CTable as grammar
use Rattle.sp_parse_grammar.specs.CTable.{Context}
use Rattle.sp_parse_tokens.specs.Makers.{all_items, first_place}
use Rattle.sp_parse_tokens.specs.Ended.{IsEnded}
use Rattle.sp_parse_tokens.specs.Scopes.{allowed_seen}
use Rattle.sp_parse_tokens.specs.declared.part.Declared.{Declared}
use Rattle.sp_parse_tokens.specs.declared.part.MemberDeclarators.{MemberDeclarators}
use Rattle.sp_parse_tokens.specs.declared.part.SpecifierList.{SpecifierList}
use Rattle.sp_parse_tokens.specs.declared.scope.AlsoAllowed.{AlsoAllowed}
use Rattle.sp_parse_expr_steps.specs.Declaring.{AreItems, AreSpecified, IsDeclared, item_seen}
use Rattle.sp_parse_expr_steps.proofs.Steps.{got}
use Rattle.sp_parse_expr_steps.proofs.Parts.{stop_part}
use Rattle.sp_parse_expr_steps.proofs.Concrete.{concrete_read}
use Rattle.sp_parse_expr_steps.proofs.DeclaratorParts.{declared_deep}
use Rattle.sp_parse_expr_steps.proofs.MemberSteps.{more_item_deep, first_items, first_item, next_item, items_on, items_more, items_seen, items_end, member_begun, member_more, member_closing}
use Rattle.sp_parse_expr_lists.specs.Heads.{IsPastComma, Lacks}
use Rattle.sp_parse_expr_lists.specs.Items.{HasItems, IsBeforeItem, ItemsAreBehind, ItemsGoOn}
use Rattle.sp_parse_expr_lists.proofs.Opened.{past_ended, past_fewer}

module _ (g : Context) (depth : ℕ) (text : List Token) (ss : SpecifierList) (m : ℕ) (mid : List Token) where
  -- none is read
  pub before_first : IsEnded text → AreSpecified g false depth text ss m mid → IsBeforeItem g depth text ss m mid [] mid
  before_first ended h = record {
    takes = λ d n later r now i back same one closed.
        record { specified = h; first = d; first_depth = n; far = later; one = r; so_far = first_item g d later now i back same one closed; fewer = omega arith };
    stops = λ s stop. stop_part g g g grammar.member grammar.member (grammar.declarator grammar.concrete) (λ a. a) (member_more g h.all) depth depth text mid (got (member_begun g text ended) h.read.reads) (omega arith) s stop;
  }

  -- one is read behind those
  pub items_go_on : IsEnded text → (more : Bool) (items : List CodeItem) (behind : AlsoAllowed) (here rest : List Token) → ItemsAreBehind g depth text ss m mid items behind here → IsPastComma g.types here more rest → ItemsGoOn g depth text ss m mid more items behind rest
  items_go_on ended true items behind here rest b e =
      let t = b.so_far in
      let shorter : length here ≡ length (e.first ∷ rest) = ap length e.whole in
      record {
        takes = λ d n later r now i back same one closed.
            let next = next_item g b.first b.far here rest e.first items behind t e.whole depth n later d now i back e.stands r same one closed in
            record { specified = b.specified; first = b.first; first_depth = b.first_depth; far = b.far; one = b.one; so_far = next; fewer = omega (arith, r.fewer, shorter, b.fewer) };
        stops = λ s stop. stop_part g g g grammar.member grammar.member (grammar.member_items (first_items b.first)) (λ a. a) (member_closing g b.specified.all) depth depth text b.far (got (got (member_begun g text ended) b.specified.read.reads) b.one.reads) (omega arith) s
            (stop_part g g g (grammar.member_items (first_items b.first)) (grammar.member_items (items_seen items t.names behind)) (grammar.declarator grammar.concrete) (λ a. a) (items_more g b.first b.far here rest e.first items behind t e.whole) depth depth b.far rest (items_on g b.first b.far here rest e.first items behind t e.whole e.stands) (omega arith) s stop);
      }
  items_go_on ended false items behind here rest b e = (subst (λ v. ItemsAreBehind g depth text ss m mid items behind v) (sym e.0) b, subst (λ v. Lacks g.types tokens.comma v) (sym e.0) e.1)

  -- no comma goes on with them
  pub items_ended : (is : MemberDeclarators) (reached : ℕ) (rest : List Token) → (b : ItemsAreBehind g depth text ss m mid is.all.items is.behind rest) → Lacks g.types tokens.comma rest → reached ≡ items_depth (all_items (map item_seen is.all.items)) → reached ≤ depth → IsEnded rest → AreItems g b.first depth b.far is reached rest
  items_ended is reached rest b e deep shallow ended = items_end g b.first b.far rest e.behind e.first is.all.items is.behind b.so_far e.whole depth reached is e.missing refl refl deep shallow ended b.fewer

-- ---- what the calls make of them

pub none_listed : (g : Context) (depth : ℕ) (text : List Token) (ss : SpecifierList) (m : ℕ) (mid : List Token) (items : List CodeItem) (behind : AlsoAllowed) → items ≡ [] → IsEnded text → AreSpecified g false depth text ss m mid → HasItems g depth text ss m mid true items behind 0 mid
none_listed g depth text ss m mid items behind none ended h = subst (λ v. HasItems g depth text ss m mid true v behind 0 mid) (sym none) (record { goes_on = before_first g depth text ss m mid ended h; deep = refl; shallow = omega arith; ended = h.read.ended; fewer = omega (arith, h.fewer) })

module _ (g : Context) (depth : ℕ) (text : List Token) (ss : SpecifierList) (a : ℕ) (mid : List Token) (items now : List CodeItem) (was behind : AlsoAllowed) (i : CodeItem) (d : Declared) (m n k : ℕ) (rest here later : List Token) (more : Bool) where
  pub one_listed : IsEnded text → HasItems g depth text ss a mid true items was m rest → IsDeclared g (grammar.declarator grammar.concrete) (λ v. v) depth rest d n here → now ≡ items ++ i ∷ [] → item_seen i ≡ init_declarator (declarator_of d.tree) no_init → allowed_seen behind ≡ grammar.closed (allowed_seen d.behind) → k ≡ max m n → IsPastComma g.types here more later → HasItems g depth text ss a mid more now behind k later × ((if more then 1 else 0) + length later ≤ length rest)
  one_listed ended b h same one closed top past =
      let read = concrete_read g depth n rest here d h in
      let past_end = past_ended g.types more here later past h.read.ended in
      let less = past_end.1 in
      let fewer = past_fewer g.types more here later past in
      let item = declared_deep (first_place here) (declarator_of d.tree) h.pending n h.settled h.read.deep in (
        record {
          goes_on = items_go_on g depth text ss a mid ended more now behind here later (b.goes_on.takes d n here read now i behind same one closed) past;
          deep = more_item_deep d items now i m n k same one b.deep item top;
          shallow = omega (arith, top, b.shallow, h.read.shallow);
          ended = past_end.0;
          fewer = omega (arith, h.read.fewer, b.fewer, less);
        },
        omega (arith, h.read.fewer, fewer),
      )
