use Rattle.std.proofs.Common.{◌≡◌, rules, sym, ap, ◌∙◌, w64}
use Rattle.std.proofs.lemmas.Int.{to_z-of_z}
use mir.Val.{SFits, of_z, to_z}
use Rattle.sp_parse_trees.specs.Syntax.{expression, name, character}
use Rattle.sp_parse_trees.specs.View.{tree_of}
use Rattle.sp_parse_grammar.specs.CTokens.{view}
use Rattle.sp_parse_tokens.specs.Makers.{constant_form}
use Rattle.sp_parse_tokens.specs.Sorts.{sort_of}
use Rattle.sp_parse_tokens.specs.Scopes.{there}
use Rattle.sp_parse_expr_steps.proofs.Leaves.{constant_leaf, name_leaf, texts_leaf, name_of}
use Rattle.sp_parse_expr_steps.proofs.primaries.read_leaf.Goals as goal

pub returns-in_ok-tree-in-Text : goal.returns-in_ok-tree-in-Text
returns-in_ok-tree-in-Text c =
    let g = there c.args.context.types.now c.args.context.scope in
    let x = c.args.token in
    let is = ap (λ k. view g.types (sort_of k)) (sym c.in-Text.is) in
    texts_leaf g x c.args.tokens.now c.in_ok-tree-in-Text.rest.now (tree_of c.in_ok-tree-in-Text.tree) is c.in_ok-tree-in-Text.ensures

pub returns-in-Number : goal.returns-in-Number
returns-in-Number c =
    let g = there c.args.context.types.now c.args.context.scope in
    let x = c.args.token in
    let is = ap (λ k. view g.types (sort_of k)) (sym c.in-Number.is) in
    constant_leaf g x c.args.tokens.now c.requires.ended (tree_of c.number.result) is (c.number.ensures ∙ ap (λ k. expression (constant_form k) x.place x.place) (sym c.in-Number.is))

pub returns-in-Char : goal.returns-in-Char
returns-in-Char c =
    let g = there c.args.context.types.now c.args.context.scope in
    let x = c.args.token in
    let is = ap (λ k. view g.types (sort_of k)) (sym c.in-Char.is) in
    let fits : SFits w64 c.in-Char.value = search rules in
    let same : to_z w64 (of_z w64 c.in-Char.value) ≡ c.in-Char.value = to_z-of_z w64 c.in-Char.value fits in
    constant_leaf g x c.args.tokens.now c.requires.ended (tree_of c.character.result) is (c.character.ensures ∙ (ap (λ v. expression (character v) x.place x.place) same ∙ ap (λ k. expression (constant_form k) x.place x.place) (sym c.in-Char.is)))

pub returns-in_default : goal.returns-in_default
returns-in_default c =
    let g = there c.args.context.types.now c.args.context.scope in
    let x = c.args.token in
    let named = name_of g.types x.kind c.requires.operand c.in_default.not-Text c.in_default.not-Number c.in_default.not-Char in
    name_leaf g x c.args.tokens.now c.requires.ended named.number (tree_of c.name.result) named.stands (c.name.ensures ∙ ap (λ n. expression (name n) x.place x.place) c.number_of.ensures)
