-- Which production of the grammar a statement begins with, by its head.
use Rattle.std.proofs.Common.{◌≡◌, ℕ, Bool, true, false, List, ◌∷◌, Some, refl, sym, ap, ◌∙◌, subst}
use Rattle.sp_tree.specs.declared.token.Token.{Token}
use Rattle.sp_parse_trees.specs.Syntax as syntax
use Rattle.sp_parse_grammar.specs.CTokens as tokens
use Rattle.sp_parse_grammar.specs.CTokens.{Sort, view, is_name}
use Rattle.sp_parse_grammar.specs.CTable as grammar
use Rattle.sp_parse_grammar.specs.CTable.{Context, at, plan, c_symbols, get, next, expect, close_by, ordinary, if_missing}
use Rattle.sp_parse_grammar.specs.CTrees.{TokenOf}
use Rattle.sp_parse_grammar.specs.Table.{Plan, take, done}
use Rattle.sp_parse_tokens.specs.Sorts.{sort_of}
use Rattle.sp_parse_tokens.specs.SyntaxTrees.{syntax_trees}
use Rattle.sp_parse_tokens.specs.Ended.{IsEnded}
use Rattle.sp_parse_tokens.proofs.Viewing.{ended_other}
use Rattle.sp_parse_expr_steps.proofs.Faulting.{Begins}
use Rattle.sp_parse_statements.specs.Heads.{head_of, head_of_sort, is_labelled, least_of, takes_first}
use Rattle.sp_parse_statements.specs.Parts.{Rest, condition, clause, three_clauses, do_end, compound}
use Rattle.sp_parse_statements.specs.declared.heads.Head.{Head}
use Rattle.sp_parse_statements.specs.declared.heads.Head.TheVariants.{Block, If, Do, Prefix, Simple}
use Rattle.sp_parse_statements.specs.declared.heads.PrefixKind.TheVariants.{Label, Case, Default, Switch, While, For}
use Rattle.sp_parse_statements.specs.declared.heads.SimpleKind.TheVariants.{Empty, Named, Expression, Goto, Jump, Return}

abbrev pub Word : Type 0
Word = TokenOf syntax_trees

-- the head of a text, by its first token
pub head_at : (types : List ℕ) (text xs : List Token) (x : Token) (h : Head) → text ≡ x ∷ xs → head_of types text ≡ h → head_of_sort (is_labelled types xs) (view types (sort_of x.kind)) ≡ h
head_at types text xs x h e same = sym (ap (λ v. head_of types v) e) ∙ same

no_end_first : (types : List ℕ) (labelled : Bool) (h : Head) (s : Sort) → s ≡ tokens.mark tokens.end → head_of_sort labelled (view types s) ≡ h → takes_first h ≡ true → ⊥
no_end_first types labelled h s is same takes =
    let at_end : head_of_sort labelled (view types (tokens.mark tokens.end)) ≡ h = subst (λ v. head_of_sort labelled (view types v) ≡ h) is same in
    let no : takes_first (Simple Expression) ≡ true = subst (λ v. takes_first v ≡ true) (sym at_end) takes in
    cc

-- behind a first token that is taken the text goes on
pub ended_behind_head : (types : List ℕ) (text xs : List Token) (x : Token) (h : Head) → text ≡ x ∷ xs → IsEnded text → head_of types text ≡ h → takes_first h ≡ true → IsEnded xs
ended_behind_head types text xs x h e ended same takes =
    ended_other x xs (subst IsEnded e ended) (λ is. no_end_first types (is_labelled types xs) h (sort_of x.kind) is (head_at types text xs x h e same) takes)

-- ---- what is left of each production behind its first token

abbrev pub while_rest : (g : Context) → Word → Rest g
while_rest g x = condition g (λ e. get g grammar.statement (λ b. done (syntax_trees.while x e b)))

abbrev pub switch_rest : (g : Context) → Word → Rest g
switch_rest g x = condition g (λ e. get g grammar.statement (λ b. done (syntax_trees.switch x e b)))

abbrev pub for_rest : (g : Context) → Word → Rest g
for_rest g x = three_clauses g (λ u v w. get g grammar.statement (λ b. done (syntax_trees.for x u v w b)))

abbrev pub case_rest : (g : Context) → Word → Rest g
case_rest g x = get g (grammar.level 11) (λ o. expect g tokens.colon (λ z. get g grammar.statement (λ b. done (syntax_trees.case x o.tree b))))

abbrev pub default_rest : (g : Context) → Word → Rest g
default_rest g x = expect g tokens.colon (λ z. get g grammar.statement (λ b. done (syntax_trees.default x b)))

abbrev pub name_rest : (g : Context) → Word → Rest g
name_rest g x = get g (grammar.behind_name x) (λ r. done r)

-- behind a name that no `:` follows
abbrev pub named_tail : (g : Context) (x : Word) (o : grammar.Operand syntax_trees) → Plan (c_symbols syntax_trees) (at g (grammar.behind_name x))
named_tail g x o = expect g tokens.semicolon (λ z. done (syntax_trees.of o.tree z))

abbrev pub named_rest : (g : Context) (x : Word) (e : syntax.Expression) → Plan (c_symbols syntax_trees) (at g (grammar.behind_name x))
named_rest g x e = get g (grammar.tail 13 (grammar.operand e true)) (named_tail g x)

abbrev pub if_rest : (g : Context) → Word → Rest g
if_rest g x = condition g (λ e. get g grammar.statement (λ a. get g grammar.else_part (λ b. done (syntax_trees.if_else x e a b))))

abbrev pub do_rest : (g : Context) → Word → Rest g
do_rest g x = get g grammar.statement (λ a. do_end g (λ e u. done (syntax_trees.do_while x a e u)))

abbrev pub block_rest : (g : Context) → Word → Rest g
block_rest g x = compound g (λ ds ss z. done (syntax_trees.block x ds ss z))

abbrev pub goto_rest : (g : Context) → Word → Rest g
goto_rest g x = take (ordinary g) (λ n. expect g tokens.semicolon (λ z. done (syntax_trees.goto x n z)))

abbrev pub jump_rest : (g : Context) → Word → Rest g
jump_rest g x = expect g tokens.semicolon (λ z. done (syntax_trees.jump x z))

abbrev pub return_rest : (g : Context) → Word → Rest g
return_rest g x = clause g tokens.semicolon (λ a z. done (syntax_trees.return x a z))

abbrev pub empty_rest : (g : Context) → Word → Rest g
empty_rest g x = done (syntax_trees.empty x)

-- an expression is read from the first token on
abbrev pub expression_rest : (g : Context) → Rest g
expression_rest g = get g (grammar.level 13) (λ o. expect g tokens.semicolon (λ z. done (syntax_trees.of o.tree z)))

-- ---- by the head

abbrev Chooses : (g : Context) (x : Word) (s : Sort) → Rest g → Type 0
Chooses g x s p = plan {t = syntax_trees} g grammar.statement x s ≡ Some (next (λ y. p))

module _ (g : Context) (x : Word) where
  pub while_chosen : (b : Bool) (s : Sort) → head_of_sort b s ≡ Prefix While → Chooses g x s (while_rest g x)
  while_chosen true (tokens.name n) e = absurd cc
  while_chosen false (tokens.name n) e = absurd cc
  while_chosen b (tokens.mark tokens.while) e = refl
  while_chosen b _ e = absurd cc

  pub switch_chosen : (b : Bool) (s : Sort) → head_of_sort b s ≡ Prefix Switch → Chooses g x s (switch_rest g x)
  switch_chosen true (tokens.name n) e = absurd cc
  switch_chosen false (tokens.name n) e = absurd cc
  switch_chosen b (tokens.mark tokens.switch) e = refl
  switch_chosen b _ e = absurd cc

  pub for_chosen : (b : Bool) (s : Sort) → head_of_sort b s ≡ Prefix For → Chooses g x s (for_rest g x)
  for_chosen true (tokens.name n) e = absurd cc
  for_chosen false (tokens.name n) e = absurd cc
  for_chosen b (tokens.mark tokens.for) e = refl
  for_chosen b _ e = absurd cc

  pub case_chosen : (b : Bool) (s : Sort) → head_of_sort b s ≡ Prefix Case → Chooses g x s (case_rest g x)
  case_chosen true (tokens.name n) e = absurd cc
  case_chosen false (tokens.name n) e = absurd cc
  case_chosen b (tokens.mark tokens.case) e = refl
  case_chosen b _ e = absurd cc

  pub default_chosen : (b : Bool) (s : Sort) → head_of_sort b s ≡ Prefix Default → Chooses g x s (default_rest g x)
  default_chosen true (tokens.name n) e = absurd cc
  default_chosen false (tokens.name n) e = absurd cc
  default_chosen b (tokens.mark tokens.default) e = refl
  default_chosen b _ e = absurd cc

  pub if_chosen : (b : Bool) (s : Sort) → head_of_sort b s ≡ If → Chooses g x s (if_rest g x)
  if_chosen true (tokens.name n) e = absurd cc
  if_chosen false (tokens.name n) e = absurd cc
  if_chosen b (tokens.mark tokens.if_word) e = refl
  if_chosen b _ e = absurd cc

  pub do_chosen : (b : Bool) (s : Sort) → head_of_sort b s ≡ Do → Chooses g x s (do_rest g x)
  do_chosen true (tokens.name n) e = absurd cc
  do_chosen false (tokens.name n) e = absurd cc
  do_chosen b (tokens.mark tokens.do_word) e = refl
  do_chosen b _ e = absurd cc

  pub block_chosen : (b : Bool) (s : Sort) → head_of_sort b s ≡ Block → Chooses g x s (block_rest g x)
  block_chosen true (tokens.name n) e = absurd cc
  block_chosen false (tokens.name n) e = absurd cc
  block_chosen b (tokens.mark tokens.brace) e = refl
  block_chosen b _ e = absurd cc

  pub empty_chosen : (b : Bool) (s : Sort) → head_of_sort b s ≡ Simple Empty → Chooses g x s (empty_rest g x)
  empty_chosen true (tokens.name n) e = absurd cc
  empty_chosen false (tokens.name n) e = absurd cc
  empty_chosen b (tokens.mark tokens.semicolon) e = refl
  empty_chosen b _ e = absurd cc

  pub goto_chosen : (b : Bool) (s : Sort) → head_of_sort b s ≡ Simple Goto → Chooses g x s (goto_rest g x)
  goto_chosen true (tokens.name n) e = absurd cc
  goto_chosen false (tokens.name n) e = absurd cc
  goto_chosen b (tokens.mark tokens.goto) e = refl
  goto_chosen b _ e = absurd cc

  pub jump_chosen : (b : Bool) (s : Sort) → head_of_sort b s ≡ Simple Jump → Chooses g x s (jump_rest g x)
  jump_chosen true (tokens.name n) e = absurd cc
  jump_chosen false (tokens.name n) e = absurd cc
  jump_chosen b (tokens.mark tokens.continue) e = refl
  jump_chosen b (tokens.mark tokens.break) e = refl
  jump_chosen b _ e = absurd cc

  pub return_chosen : (b : Bool) (s : Sort) → head_of_sort b s ≡ Simple Return → Chooses g x s (return_rest g x)
  return_chosen true (tokens.name n) e = absurd cc
  return_chosen false (tokens.name n) e = absurd cc
  return_chosen b (tokens.mark tokens.return) e = refl
  return_chosen b _ e = absurd cc

  -- the sort is a name, and whether a `:` is behind it is known
  pub record IsNamed (b labelled : Bool) (s : Sort) : Type 0 where
    pub stands : is_name s ≡ true
    pub labels : b ≡ labelled
    pub chosen : Chooses g x s (name_rest g x)

  pub label_chosen : (b : Bool) (s : Sort) → head_of_sort b s ≡ Prefix Label → IsNamed b true s
  label_chosen true (tokens.name n) e = record { stands = refl; labels = refl; chosen = refl }
  label_chosen false (tokens.name n) e = absurd cc
  label_chosen b (tokens.mark tokens.brace) e = absurd cc
  label_chosen b _ e = absurd cc

  pub named_chosen : (b : Bool) (s : Sort) → head_of_sort b s ≡ Simple Named → IsNamed b false s
  named_chosen true (tokens.name n) e = absurd cc
  named_chosen false (tokens.name n) e = record { stands = refl; labels = refl; chosen = refl }
  named_chosen b (tokens.mark tokens.brace) e = absurd cc
  named_chosen b _ e = absurd cc

  pub expression_chosen : (b : Bool) (s : Sort) → head_of_sort b s ≡ Simple Expression → plan {t = syntax_trees} g grammar.statement x s ≡ Some (expression_rest g)
  expression_chosen true (tokens.name n) e = absurd cc
  expression_chosen false (tokens.name n) e = absurd cc
  expression_chosen b (tokens.mark tokens.semicolon) e = absurd cc
  expression_chosen b (tokens.mark tokens.brace) e = absurd cc
  expression_chosen b (tokens.mark tokens.if_word) e = absurd cc
  expression_chosen b (tokens.mark tokens.switch) e = absurd cc
  expression_chosen b (tokens.mark tokens.case) e = absurd cc
  expression_chosen b (tokens.mark tokens.default) e = absurd cc
  expression_chosen b (tokens.mark tokens.while) e = absurd cc
  expression_chosen b (tokens.mark tokens.do_word) e = absurd cc
  expression_chosen b (tokens.mark tokens.for) e = absurd cc
  expression_chosen b (tokens.mark tokens.goto) e = absurd cc
  expression_chosen b (tokens.mark tokens.continue) e = absurd cc
  expression_chosen b (tokens.mark tokens.break) e = absurd cc
  expression_chosen b (tokens.mark tokens.return) e = absurd cc
  expression_chosen b _ e = refl

  -- all others take their first token, and this deep they are at least
  pub first_begins : (b : Bool) (s : Sort) → takes_first (head_of_sort b s) ≡ true → Begins g grammar.statement x s (least_of (head_of_sort b s))
  first_begins true (tokens.name n) e = record { body = _; chosen = refl; deep = refl }
  first_begins false (tokens.name n) e = record { body = _; chosen = refl; deep = refl }
  first_begins b (tokens.mark tokens.semicolon) e = record { body = _; chosen = refl; deep = refl }
  first_begins b (tokens.mark tokens.brace) e = record { body = _; chosen = refl; deep = refl }
  first_begins b (tokens.mark tokens.if_word) e = record { body = _; chosen = refl; deep = refl }
  first_begins b (tokens.mark tokens.switch) e = record { body = _; chosen = refl; deep = refl }
  first_begins b (tokens.mark tokens.case) e = record { body = _; chosen = refl; deep = refl }
  first_begins b (tokens.mark tokens.default) e = record { body = _; chosen = refl; deep = refl }
  first_begins b (tokens.mark tokens.while) e = record { body = _; chosen = refl; deep = refl }
  first_begins b (tokens.mark tokens.do_word) e = record { body = _; chosen = refl; deep = refl }
  first_begins b (tokens.mark tokens.for) e = record { body = _; chosen = refl; deep = refl }
  first_begins b (tokens.mark tokens.goto) e = record { body = _; chosen = refl; deep = refl }
  first_begins b (tokens.mark tokens.continue) e = record { body = _; chosen = refl; deep = refl }
  first_begins b (tokens.mark tokens.break) e = record { body = _; chosen = refl; deep = refl }
  first_begins b (tokens.mark tokens.return) e = record { body = _; chosen = refl; deep = refl }
  first_begins b _ e = absurd cc

-- a name that is no type name is a name
pub name_seen : (types : List ℕ) (s : Sort) → is_name (view types s) ≡ true → is_name s ≡ true
name_seen types (tokens.name n) e = refl
name_seen types _ e = absurd cc
