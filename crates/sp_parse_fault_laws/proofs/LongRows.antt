-- Behind `long` and words like it `int` may stand where no type is missing: `(long x` is no fault of a missing type.
use Rattle.std.proofs.Common.{inl, inr, ℕ, List, [], ◌∷◌, ◌++◌, refl}
use Rattle.sp_tree.specs.declared.token.Kind.{Kind}
use Rattle.sp_tree.specs.declared.token.Kind.TheVariants.{Name, Word, Mark, End}
use Rattle.sp_tree.specs.declared.token.Keyword.TheVariants.{Int, Long}
use Rattle.sp_tree.specs.declared.token.Punct.TheVariants.{LeftParenthesis, RightParenthesis}
use Rattle.sp_tree.specs.declared.token.Token.{Token}
use Rattle.sp_parse_grammar.specs.Table.{ask, wanted}
use Rattle.sp_parse_grammar.specs.CTable as grammar
use Rattle.sp_parse_grammar.specs.CTokens as tokens
use Rattle.sp_parse_grammar.proofs.Running.{run, is_fault, is_read}
use Rattle.sp_parse_tokens.specs.Sorts.{c_tokens, nowhere}
use Rattle.sp_parse_tokens.specs.SyntaxTrees.{c_table}
use Rattle.sp_parse_laws.specs.Answers.{expressions, expression_ask}
use Rattle.sp_parse_laws.proofs.Calls.{expression_reader}
use Rattle.sp_parse_fault_laws.specs.Missing.{CouldBeWord, AreTypesTold}

abbrev token : Kind → ℕ → Token
token k c = record { kind = k; place = record { name = 0; line = 1; column = c } }

abbrev front : List Token
front = token (Mark LeftParenthesis) 1 ∷ token (Word Long) 2 ∷ []

abbrev bad : Token
bad = token (Name 0) 3

abbrev end : Token
end = token End 9

-- (long int)x
abbrev cast : List Token
cast = front ++ token (Word Int) 3 ∷ token (Mark RightParenthesis) 4 ∷ token (Name 0) 5 ∷ []

could : CouldBeWord Int expressions [] front
could =
    let r = is_read (run c_table 200 (ask (expression_ask [])) (c_tokens (cast ++ end ∷ []))) refl in
    record {
      tree = (expression_reader []).tree r.0 nowhere;
      rest = Mark RightParenthesis ∷ Name 0 ∷ [];
      levelled = (expression_reader []).levelled (c_tokens cast) (c_tokens (end ∷ [])) r.0 nowhere r.1;
      spells = (expression_reader []).spells (c_tokens cast) (c_tokens (end ∷ [])) r.0 nowhere r.1;
    }

-- (long x is a fault of no missing type, and `int` could be in the place of `x`
pub int_is_not_told : AreTypesTold Int expressions [] (expression_ask []) → ⊥
int_is_not_told told =
    let note = (told front bad (end ∷ []) (wanted (grammar.only (grammar.outside []) grammar.plainly tokens.closing)) (is_fault (run c_table 200 (ask (expression_ask [])) (c_tokens (front ++ bad ∷ end ∷ []))) (refl, refl)) refl).1 could in
    elim note [
      | inl e ↦ cc
      | inr e ↦ cc
    ]
