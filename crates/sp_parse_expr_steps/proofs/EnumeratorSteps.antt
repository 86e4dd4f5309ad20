-- A constant of an enumeration, over plain variables.
use Rattle.std.proofs.Common.{◌≡◌, ◌≢◌, ℕ, ◌<◌, ◌==◌, Bool, true, false, List, ◌∷◌, Some, None, refl, ap, ◌∙◌, arith}
use Rattle.std.specs.Prelude.{if◌then◌else◌, Option}
use Rattle.std.specs.List.{list_any}
use Rattle.sp_tree.specs.declared.token.Keyword.{Keyword}
use Rattle.sp_tree.specs.declared.token.Keyword.TheVariants as words
use Rattle.sp_tree.specs.declared.token.Kind.{Kind}
use Rattle.sp_tree.specs.declared.token.Kind.TheVariants as kinds
use Rattle.sp_tree.specs.declared.token.Punct.{Punct}
use Rattle.sp_tree.specs.declared.token.Punct.TheVariants as puncts
use Rattle.sp_tree.specs.declared.token.Token.{Token}
use Rattle.sp_tree.specs.declared.fault.Place.{Place}
use Rattle.sp_parse_trees.specs.Syntax.{Expression}
use Rattle.sp_parse_tokens.specs.declared.sorts.Sort.{Sort as CodeSort}
use Rattle.sp_parse_tokens.specs.declared.sorts.Sort.TheVariants as sorts
use Rattle.sp_parse_grammar.specs.CTokens as tokens
use Rattle.sp_parse_grammar.specs.CTokens.{view, is_mark}
use Rattle.sp_parse_grammar.specs.CTable as grammar
use Rattle.sp_parse_grammar.specs.CTable.{Context, at, c_symbols, plan, get, next}
use Rattle.sp_parse_grammar.specs.CTrees.{TokenOf}
use Rattle.sp_parse_grammar.specs.Table.{Plan, done, open_take}
use Rattle.sp_parse_grammar.specs.Depth.{Nests}
use Rattle.sp_parse_tokens.specs.Sorts.{terminal, sort_of, word_sort, punct_sort, c_tokens}
use Rattle.sp_parse_tokens.specs.SyntaxTrees.{syntax_trees, c_table}
use Rattle.sp_parse_tokens.specs.Depths.{c_depths, item_least}
use Rattle.sp_parse_tokens.specs.Makers.{Enumerator, number_of}
use Rattle.sp_parse_tokens.specs.Codes.{sort_seen}
use Rattle.sp_parse_expr_steps.specs.Reading.{IsStep}
use Rattle.sp_parse_expr_steps.proofs.Steps.{last, passed}
use Rattle.sp_parse_expr_steps.proofs.Parts.{chosen}
use Rattle.sp_parse_expr_steps.proofs.ExpressionSteps.{first_taken}

-- the number of a token that is a name
module _ (types : List ℕ) (n : ℕ) where
  of_name : (m : ℕ) (b : Bool) → tokens.name n ≡ (if b then tokens.named_type m else tokens.name m) → m ≡ n
  of_name m true e = absurd cc
  of_name m false e = cc

  of_word : (k : Keyword) → tokens.name n ≡ view types (word_sort k) → ⊥
  of_word words.Auto e = cc
  of_word _ e = cc

  of_punct : (p : Punct) → tokens.name n ≡ view types (punct_sort p) → ⊥
  of_punct puncts.Comma e = cc
  of_punct _ e = cc

  pub name_number : (k : Kind) → tokens.name n ≡ view types (sort_of k) → number_of k ≡ n
  name_number (kinds.Name m) e = of_name m (list_any (λ t. t == m) types) e
  name_number (kinds.Word w) e = absurd (of_word w e)
  name_number (kinds.Mark p) e = absurd (of_punct p e)
  name_number (kinds.Number m) e = absurd cc
  name_number (kinds.Char z) e = absurd cc
  name_number (kinds.Text m) e = absurd cc
  name_number kinds.End e = absurd cc

-- only a name begins a constant
pub enumerator_none : (g : Context) (x : TokenOf syntax_trees) (s : CodeSort) → ((n : ℕ) → s ≢ sorts.Name n) → plan {t = syntax_trees} g grammar.enumerator x (sort_seen s) ≡ None
enumerator_none g x (sorts.Name n) other = absurd (other n refl)
enumerator_none g x (sorts.NamedType n) other = refl
enumerator_none g x sorts.Constant other = refl
enumerator_none g x sorts.Text other = refl
enumerator_none g x sorts.Storage other = refl
enumerator_none g x sorts.Qualifier other = refl
enumerator_none g x sorts.Assigning other = refl
enumerator_none g x (sorts.Basic w) other = refl
enumerator_none g x (sorts.Binary k) other = refl
enumerator_none g x (sorts.Mark m) other = refl

-- behind the name its value is left to be read
pub value_step : (g : Context) (text rest : List Token) (x : Token) (n : ℕ) → text ≡ x ∷ rest → tokens.name n ≡ view g.types (sort_of x.kind) → IsStep g grammar.enumerator grammar.value_of (λ v. syntax_trees.enumerator (terminal x) v) text rest
value_step g text rest x n e is = last (first_taken g grammar.enumerator text rest x (tokens.name n) e is (λ y. get g grammar.value_of (λ v. done (syntax_trees.enumerator (terminal x) v))) refl)

abbrev pub value_plan : (g : Context) → Plan (c_symbols syntax_trees) (at g grammar.value_of)
value_plan g = get g (grammar.level 11) (λ o. done (Some o.tree))

-- a value is at least one deep
pub value_deep : (g : Context) (text rest xs : List Token) (x y : Token) (d : ℕ) → IsStep g grammar.enumerator grammar.value_of (λ v. syntax_trees.enumerator (terminal x) v) text rest → rest ≡ y ∷ xs → is_mark tokens.equal (view g.types (sort_of y.kind)) ≡ true → d < 1 → Nests c_table c_depths (at g grammar.enumerator) d (c_tokens text) (c_tokens rest)
value_deep g text rest xs x y d step e stands less =
    let s = view g.types (sort_of y.kind) in
    let least : item_least g grammar.value_of s ≡ 1 = ap (λ b. if b then 1 else 0) stands in
    passed step (ap c_tokens e) (chosen g grammar.value_of y s (Some (next (λ z. value_plan g))) refl (ap (λ b. if b then Some (next (λ z. value_plan g)) else Some (done None)) stands)) (open_take refl) (omega (arith, least, less))

abbrev pub enumerator_of : ℕ → Place → Option Expression → Enumerator
enumerator_of n p v = record { name = n; place = p; value = v }

-- a name is not the end of a text
pub name_no_end : (types : List ℕ) (n : ℕ) (k : Kind) → tokens.name n ≡ view types (sort_of k) → sort_of k ≡ tokens.mark tokens.end → ⊥
name_no_end types n k e same = no_end (e ∙ ap (λ s. view types s) same)
  where
    no_end : tokens.name n ≡ view types (tokens.mark tokens.end) → ⊥
    no_end f = let wrong : tokens.name n ≡ tokens.mark tokens.end = f in cc
