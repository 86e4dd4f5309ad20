-- A declarator of a name has its place at once, so no token behind it changes it.
use Rattle.std.proofs.Common.{◌≡◌, ℕ, List, sym, ◌∙◌, subst}
use Rattle.sp_tree.specs.declared.fault.Place.{Place}
use Rattle.sp_tree.specs.declared.token.Token.{Token}
use Rattle.sp_parse_trees.specs.View.{declarator_of}
use Rattle.sp_parse_grammar.specs.CTable as grammar
use Rattle.sp_parse_grammar.specs.CTable.{Context, at}
use Rattle.sp_parse_grammar.specs.Table.{ask, Reads}
use Rattle.sp_parse_grammar.proofs.Readings.{front_of, spelled, at_tokens}
use Rattle.sp_parse_tokens.specs.Sorts.{c_tokens}
use Rattle.sp_parse_tokens.specs.SyntaxTrees.{syntax_trees, c_table}
use Rattle.sp_parse_tokens.specs.Makers.{settle, first_place}
use Rattle.sp_parse_laws.proofs.SpelledTable.{is_spelled}
use Rattle.sp_parse_laws.proofs.SpellingDeclarators as spelling
use Rattle.sp_parse_tokens.specs.declared.part.Declared.{Declared}
use Rattle.sp_parse_expr_steps.specs.Reading.{IsRead}
use Rattle.sp_parse_expr_steps.specs.Declaring.{declared_seen, IsDeclared}

concrete_settled : (g : Context) (text rest : List Token) (d : grammar.Declared syntax_trees) → Reads c_table (at g (grammar.declarator grammar.concrete)) (ask (at g (grammar.declarator grammar.concrete))) (c_tokens text) d (c_tokens rest) → (p : Place) → settle p d.tree ≡ d.tree
concrete_settled g text rest d r p =
    let s = is_spelled (at g (grammar.declarator grammar.concrete)) (front_of r) (c_tokens rest) d (at_tokens (spelled r) r) in
    spelling.settled p d.tree s.1

pub concrete_same : (g : Context) (d n : ℕ) (text rest : List Token) (dd : Declared) → (h : IsDeclared g (grammar.declarator grammar.concrete) (λ a. a) d text dd n rest) → h.pending ≡ declarator_of dd.tree
concrete_same g d n text rest dd h = sym (h.settled ∙ concrete_settled g text rest (declared_seen dd h.pending) h.read.reads (first_place rest))

pub concrete_read : (g : Context) (d n : ℕ) (text rest : List Token) (dd : Declared) → IsDeclared g (grammar.declarator grammar.concrete) (λ a. a) d text dd n rest → IsRead g (grammar.declarator grammar.concrete) d text (declared_seen dd (declarator_of dd.tree)) n rest
concrete_read g d n text rest dd h = subst (λ v. IsRead g (grammar.declarator grammar.concrete) d text (declared_seen dd v) n rest) (concrete_same g d n text rest dd h) h.read
