-- Initialisers are read from their tokens.
use Rattle.std.proofs.Common.{◌≡◌, ◌<◌, Bool, true, false, List, [], ◌∷◌, ◌++◌, refl, ap, ap₂, ◌∙◌, arith, append_assoc}
use Rattle.std.specs.Prelude.{if◌then◌else◌, ◌||◌}
use Rattle.sp_tree.specs.declared.token.Kind.{Kind}
use Rattle.sp_tree.specs.declared.token.Kind.TheVariants as kinds
use Rattle.sp_tree.specs.declared.token.Punct.TheVariants as puncts
use Rattle.sp_parse_trees.specs.Syntax.{Init, one, list, Inits, no_inits, next_init}
use Rattle.sp_parse_trees.specs.Spelling.{init_tokens, inits_tokens}
use Rattle.sp_parse_trees.specs.Levels.{IsLevelledInit, AreLevelledInits}
use Rattle.sp_parse_trees.specs.View as view
use Rattle.sp_parse_grammar.specs.CTokens as tokens
use Rattle.sp_parse_grammar.specs.CTokens.{Sort, is_mark, looseness}
use Rattle.sp_parse_grammar.specs.CTable as grammar
use Rattle.sp_parse_grammar.specs.CTable.{Context, begins_expression}
use Rattle.sp_parse_grammar.proofs.CChecked.{if_true, if_false}
use Rattle.sp_parse_tokens.specs.Sorts.{Terminal}
use Rattle.sp_parse_tokens.specs.SyntaxTrees.{syntax_trees}
use Rattle.sp_parse_laws.specs.Spelled.{kinds_at}
use Rattle.sp_parse_laws.specs.Bare.{bare_init, bare_inits}
use Rattle.sp_parse_laws.proofs.CompleteParts.{Next, Commas, no_comma, a_comma}
use Rattle.sp_parse_laws.proofs.LevelledAnswers.{scope_of}
use Rattle.sp_parse_laws.proofs.Steps.{IsRead, next_kind, next_comma, next_maps, next_before, next_comma_or, part, last_part, mark, finish, finished, begun, from_first, none_read}
use Rattle.sp_parse_laws.proofs.PartsRead.{expression_read, expression_first, expression_no_brace}

-- the bare initialisers of a list, before others
abbrev pub before_inits : List Init → Inits → Inits
before_inits [] m = m
before_inits (i ∷ is) m = next_init (bare_init i) (before_inits is m)

no_init_behind : (is : List Init) → bare_inits (view.inits is) ≡ before_inits is no_inits
no_init_behind [] = refl
no_init_behind (i ∷ is) = ap (λ v. next_init (bare_init i) v) (no_init_behind is)

init_behind : (is : List Init) (i : Init) (m : Inits) → before_inits (is ++ i ∷ []) m ≡ before_inits is (next_init (bare_init i) m)
init_behind [] i m = refl
init_behind (x ∷ is) i m = ap (λ v. next_init (bare_init x) v) (init_behind is i m)

-- the comma before the closing brace
abbrev trail : Bool → List Kind
trail b = if b then kinds.Mark puncts.Comma ∷ [] else []

-- no initialiser begins, and no operator goes on
abbrev IsBehindInits : Sort → Type 0
IsBehindInits s = (is_mark tokens.brace s || begins_expression s ≡ false) × (13 < looseness s)

commas : (ms : Inits) (b : Bool) → Commas (inits_tokens (kinds.Mark puncts.Comma ∷ []) ms ++ trail b)
commas no_inits true = a_comma []
commas no_inits false = no_comma
commas (next_init i ms) b = a_comma _

or_second : (a b : Bool) → b ≡ true → a || b ≡ true
or_second true b e = refl
or_second false b e = e

init_first : (g : Context) (i : Init) → IsLevelledInit (scope_of g) i → (ws rest : List Terminal) → kinds_at ws ≡ init_tokens i → Next g (λ s. (is_mark tokens.brace s || begins_expression s) ≡ true) (ws ++ rest)
init_first g (one e) h ws rest is = next_maps g (λ s. begins_expression s ≡ true) (λ s. (is_mark tokens.brace s || begins_expression s) ≡ true) (ws ++ rest) (λ s b. or_second (is_mark tokens.brace s) (begins_expression s) b) (expression_first g e h.1 ws rest is)
init_first g (list is b) h ws rest e = next_kind g (λ s. (is_mark tokens.brace s || begins_expression s) ≡ true) (kinds.Mark puncts.LeftBrace) _ ws rest refl e

-- the rest of a list is read, behind these
abbrev InitsRead : Context → Inits → Bool → Type 0
InitsRead g ms b = (is : List Init) → IsRead g (grammar.inits is) IsBehindInits (inits_tokens (kinds.Mark puncts.Comma ∷ []) ms ++ trail b) (λ o. (bare_inits (view.inits o.all) ≡ before_inits is (bare_inits ms)) × (o.comma ≡ b))

abbrev InitRead : Context → Init → Type 0
InitRead g i = IsRead g grammar.init (λ s. 12 < looseness s) (init_tokens i) (λ o. bare_init o ≡ bare_init i)

loose : (s : Sort) → 13 < looseness s → 12 < looseness s
loose s h = omega (arith, h)

-- what is behind an initialiser of a list, before its closing brace or what comes there
behind_one : (g : Context) (ms : Inits) (b : Bool) (rest : List Terminal) → Next g IsBehindInits rest → (vs : List Terminal) → kinds_at vs ≡ inits_tokens (kinds.Mark puncts.Comma ∷ []) ms ++ trail b → Next g (λ s. 12 < looseness s) (vs ++ rest)
behind_one g ms b rest n vs e = next_comma g (λ s. 12 < looseness s) _ vs rest (commas ms b) (omega arith) e (next_maps g IsBehindInits (λ s. 12 < looseness s) rest (λ s h. loose s h.1) n)

no_more : (g : Context) (b : Bool) → InitsRead g no_inits b
no_more g false is = none_read g (grammar.inits is) IsBehindInits (λ o. (bare_inits (view.inits o.all) ≡ before_inits is no_inits) × (o.comma ≡ false)) refl (λ s f. f) (no_init_behind is, refl)
no_more g true is = record {
  read = λ ws rest e n.
      begun (kinds.Mark puncts.Comma) [] (tokens.mark tokens.comma) ws rest rest e refl (λ x. refl) (λ x vs k e1.
      last_part vs rest rest (none_read g (grammar.behind_init_comma is) IsBehindInits (λ o. (bare_inits (view.inits o.all) ≡ before_inits is no_inits) × (o.comma ≡ true)) refl (λ s f. f) (no_init_behind is, refl)) e1 n (λ o h. finished o rest h));
}

abbrev RestKinds : Inits → Bool → List Kind
RestKinds ms b = inits_tokens (kinds.Mark puncts.Comma ∷ []) ms ++ trail b

-- behind a comma
another : (g : Context) (i : Init) (ms : Inits) (b : Bool) → IsLevelledInit (scope_of g) i → InitRead g i → InitsRead g ms b → (is : List Init) → IsRead g (grammar.behind_init_comma is) IsBehindInits (init_tokens i ++ RestKinds ms b) (λ o. (bare_inits (view.inits o.all) ≡ before_inits is (bare_inits (next_init i ms))) × (o.comma ≡ b))
another g i ms b level inner more is = record {
  read = λ ws rest e n.
      from_first (ws ++ rest) rest (next_before g (λ s. (is_mark tokens.brace s || begins_expression s) ≡ true) (init_tokens i) (RestKinds ms b) ws rest (λ us others f. init_first g i level us others f) e) (λ x s f. if_true (is_mark tokens.brace s || begins_expression s) _ _ f)
      (part (init_tokens i) (RestKinds ms b) ws rest rest inner e (λ vs e1. behind_one g ms b rest n vs e1) (λ o vs same e1.
      last_part vs rest rest (more (is ++ o ∷ [])) e1 n (λ r h. finished r rest (h.0 ∙ init_behind is o (bare_inits ms) ∙ ap (λ v. before_inits is (next_init v (bare_inits ms))) same, h.1))));
}

one_more : (g : Context) (i : Init) (ms : Inits) (b : Bool) → IsLevelledInit (scope_of g) i → InitRead g i → InitsRead g ms b → InitsRead g (next_init i ms) b
one_more g i ms b level inner more is = record {
  read = λ ws rest e n.
      begun (kinds.Mark puncts.Comma) _ (tokens.mark tokens.comma) ws rest rest e refl (λ x. refl) (λ x vs k e1.
      last_part vs rest rest (another g i ms b level inner more is) (e1 ∙ append_assoc (init_tokens i) (inits_tokens (kinds.Mark puncts.Comma ∷ []) ms) (trail b)) n (λ o h. finished o rest h));
}

all_inits : (g : Context) (i : Init) (ms : Inits) (b : Bool) → InitRead g i → InitsRead g ms b → InitRead g (list (next_init i ms) b)
all_inits g i ms b inner more = record {
  read = λ ws rest e n.
      let same : ((init_tokens i ++ inits_tokens (kinds.Mark puncts.Comma ∷ []) ms) ++ trail b) ++ kinds.Mark puncts.RightBrace ∷ [] ≡ init_tokens i ++ (RestKinds ms b ++ kinds.Mark puncts.RightBrace ∷ []) = simp append_assoc refl in
      begun (kinds.Mark puncts.LeftBrace) _ (tokens.mark tokens.brace) ws rest rest e refl (λ x. refl) (λ x vs k e1.
      part (init_tokens i) (RestKinds ms b ++ kinds.Mark puncts.RightBrace ∷ []) vs rest rest inner (e1 ∙ same) (λ us e2. next_comma_or g (λ s. 12 < looseness s) (RestKinds ms b) (kinds.Mark puncts.RightBrace ∷ []) us rest (commas ms b) (omega arith) (λ ts e3. next_kind g (λ s. 12 < looseness s) (kinds.Mark puncts.RightBrace) [] ts rest (omega arith) e3) e2) (λ o us alike e2.
      part (RestKinds ms b) (kinds.Mark puncts.RightBrace ∷ []) us rest rest (more (o ∷ [])) e2 (λ ts e3. next_kind g IsBehindInits (kinds.Mark puncts.RightBrace) [] ts rest (refl, omega arith) e3) (λ r ts h e3.
      mark (kinds.Mark puncts.RightBrace) [] ts rest rest e3 refl (λ z us k1 e4. finish (syntax_trees.listed x r.all r.comma) us rest e4 (ap₂ (λ u v. list u v) (h.0 ∙ ap (λ v. next_init v (bare_inits ms)) alike) h.1)))));
}

mutual
  pub init_read : (g : Context) (i : Init) → IsLevelledInit (scope_of g) i → InitRead g i
  init_read g (one e) h = record {
    read = λ ws rest is n.
        from_first (ws ++ rest) rest (expression_first g e h.1 ws rest is) (λ x s b. if_false (is_mark tokens.brace s) _ _ (expression_no_brace s b))
        (last_part ws rest rest (expression_read g 12 e (omega arith) (let high = h.0 in omega (arith, high)) h.1) is n (λ o same. finished (one o.tree) rest (ap (λ v. one v) same)));
  }
  init_read g (list no_inits b) h = absurd (let none = h.0 in cc)
  init_read g (list (next_init i ms) b) h = all_inits g i ms b (init_read g i h.1.0) (inits_read g ms b h.1.1)

  inits_read : (g : Context) (ms : Inits) (b : Bool) → AreLevelledInits (scope_of g) ms → InitsRead g ms b
  inits_read g no_inits b h = no_more g b
  inits_read g (next_init i ms) b h = one_more g i ms b h.0 (init_read g i h.0) (inits_read g ms b h.1)
