-- The members of a structure, over plain variables.
use Rattle.std.proofs.Common.{◌≡◌, ℕ, ◌+◌, ◌-◌, ◌≤◌, Bool, true, false, List, [], ◌∷◌, ◌++◌, map, length, inl, inr, refl, sym, ap, ◌∙◌, subst, arith}
use Rattle.std.specs.Prelude.{max}
use Rattle.sp_tree.specs.declared.token.Token.{Token}
use Rattle.sp_parse_trees.specs.Syntax.{Declaration}
use Rattle.sp_parse_trees.specs.View.{declaration_of, declarations}
use Rattle.sp_parse_trees.specs.Depth.{declarations_depth}
use Rattle.sp_parse_trees.specs.declared.tree.Declaration.{Declaration as CodeDeclaration}
use Rattle.sp_parse_grammar.specs.CTokens.{view}
use Rattle.sp_parse_grammar.specs.CTable as grammar
use Rattle.sp_parse_grammar.specs.CTable.{Context, at, get, begins_specifiers}
use Rattle.sp_parse_grammar.specs.Table.{ask, Reads}
use Rattle.sp_parse_tokens.specs.Sorts.{sort_of, c_tokens}
use Rattle.sp_parse_tokens.specs.SyntaxTrees.{c_table}
use Rattle.sp_parse_tokens.specs.Ended.{IsEnded}
use Rattle.sp_parse_tokens.proofs.Settled.{declarations_snoc}
use Rattle.sp_parse_tokens.specs.declared.part.ReadError.{ReadError}
use Rattle.sp_parse_tokens.specs.declared.part.ReadError.TheVariants as stops
use Rattle.sp_parse_tokens.specs.declared.scope.Scope.{Scope}
use Rattle.sp_parse_expr_steps.specs.Reading.{IsRead, IsStop}
use Rattle.sp_parse_expr_steps.specs.Declaring.{IsBodyStop, StopsInBody, StopsAtBrace}
use Rattle.sp_parse_expr_steps.proofs.Steps.{begun, got, last}
use Rattle.sp_parse_expr_steps.proofs.Parts.{stop_part}
use Rattle.sp_parse_expr_steps.proofs.ListSteps.{choice_ends, members_on, members_more, map_more}
use Rattle.sp_parse_expr_lists.specs.Bodies.{HasMembers, IsBeforeMember, LacksSpecifier, MembersAreBehind, MembersGoOn}

module _ (g : Context) (scope : Scope) (depth : ℕ) (inside : List Token) where
  in_first : (s : ReadError) → IsStop (grammar.in_structure g) grammar.member (depth - 1) inside s → IsBodyStop g scope depth inside s
  in_first (stops.Fault kind rest) h = inl h
  in_first (stops.TooDeep rest) h = inl h
  in_first stops.NoMemory h = tt

  in_later : (s : ReadError) → StopsInBody g scope (depth - 1) inside s → IsBodyStop g scope depth inside s
  in_later (stops.Fault kind rest) h = inr (inl h)
  in_later (stops.TooDeep rest) h = inr (inl h)
  in_later stops.NoMemory h = tt

  pub at_brace : (s : ReadError) → StopsAtBrace g scope inside s → IsBodyStop g scope depth inside s
  at_brace (stops.Fault kind rest) h = inr (inr h)
  at_brace (stops.TooDeep rest) h = inr (inr h)
  at_brace stops.NoMemory h = tt

  -- none is read
  pub first_member : IsBeforeMember g scope depth inside [] inside
  first_member = record {
    takes = λ d later r. record { first = d; mid = later; one = r; step = begun (at (grammar.in_structure g) (grammar.members (d ∷ []))) (c_tokens later) };
    stops = λ s h. in_first s h;
  }

  -- one is read behind those
  pub members_go_on : (more : Bool) (ds : List Declaration) (rest xs : List Token) (x : Token) → MembersAreBehind g inside ds rest → rest ≡ x ∷ xs → more ≡ begins_specifiers false g.inside (view g.types (sort_of x.kind)) → MembersGoOn g scope depth inside more ds rest
  members_go_on true ds rest xs x b e is =
      let h = grammar.in_structure g in
      let on = members_on h (b.first ∷ []) ds b.mid rest xs x b.step e (sym is) in
      record {
        takes = λ v later r. record { first = b.first; mid = b.mid; one = b.one; step = last (got on r) };
        stops = λ s stop. in_later s (record { first = b.first; mid = b.mid; one = b.one; why = stop_part h h h (grammar.members (b.first ∷ [])) (grammar.members ds) grammar.member (λ a. a) (members_more h ds) (depth - 1) (depth - 1) b.mid rest on (omega arith) s stop });
      }
  members_go_on false ds rest xs x b e is = (b, record { first = x; behind = xs; whole = e; missing = sym is })

-- no specifier goes on with them
pub members_end : (g : Context) (inside : List Token) (ds : List Declaration) (rest : List Token) → (b : MembersAreBehind g inside ds rest) → LacksSpecifier g rest → Reads c_table (at (grammar.in_structure g) (grammar.members (b.first ∷ []))) (ask (at (grammar.in_structure g) (grammar.members (b.first ∷ [])))) (c_tokens b.mid) ds (c_tokens rest)
members_end g inside ds rest b e =
    let h = grammar.in_structure g in
    choice_ends h (grammar.members (b.first ∷ [])) (grammar.members ds) (λ a. a) b.mid rest e.behind e.first b.step e.whole (begins_specifiers false g.inside (view g.types (sort_of e.first.kind))) ds (get h grammar.member (members_more h ds)) refl e.missing

-- ---- what the calls make of them

pub none_listed : (g : Context) (scope : Scope) (depth : ℕ) (inside : List Token) (cs : List CodeDeclaration) → cs ≡ [] → IsEnded inside → HasMembers g scope depth inside true (map declaration_of cs) 0 inside
none_listed g scope depth inside cs none ended = subst (λ v. HasMembers g scope depth inside true (map declaration_of v) 0 inside) (sym none) (record { goes_on = first_member g scope depth inside; deep = refl; shallow = omega arith; ended = ended; fewer = omega arith })

module _ (g : Context) (scope : Scope) (depth : ℕ) (inside : List Token) (cs now : List CodeDeclaration) (c : CodeDeclaration) (m n k : ℕ) (rest mid : List Token) where
  pub one_listed : HasMembers g scope depth inside true (map declaration_of cs) m rest → IsRead (grammar.in_structure g) grammar.member (depth - 1) rest (declaration_of c) n mid → now ≡ cs ++ c ∷ [] → k ≡ max m n → (xs : List Token) (x : Token) → mid ≡ x ∷ xs → (more : Bool) → more ≡ begins_specifiers false g.inside (view g.types (sort_of x.kind)) → HasMembers g scope depth inside more (map declaration_of now) k mid × (1 + length mid ≤ length rest)
  one_listed b h items top xs x e more is =
      let ds = map declaration_of cs in
      let v = declaration_of c in
      let same : map declaration_of now ≡ ds ++ v ∷ [] = ap (λ w. map declaration_of w) items ∙ map_more (λ w. declaration_of w) cs c in
      let deep : k ≡ declarations_depth (declarations (ds ++ v ∷ [])) = omega (arith, top, b.deep, h.deep, declarations_snoc ds v) in (
        subst (λ w. HasMembers g scope depth inside more w k mid) (sym same) (record {
          goes_on = members_go_on g scope depth inside more (ds ++ v ∷ []) mid xs x (b.goes_on.takes v mid h.reads) e is;
          deep = deep;
          shallow = omega (arith, top, b.shallow, h.shallow);
          ended = h.ended;
          fewer = omega (arith, h.fewer, b.fewer);
        }),
        omega (arith, h.fewer),
      )
