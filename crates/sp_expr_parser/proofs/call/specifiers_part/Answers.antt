use Rattle.std.proofs.Common.{true, sym, ap, ◌∙◌, arith}
use Rattle.sp_parse_trees.specs.View.{specifiers_of}
use Rattle.sp_parse_trees.specs.Depth.{specifiers_depth}
use Rattle.sp_parse_grammar.specs.CTable as grammar
use Rattle.sp_parse_grammar.specs.CTokens.{nothing_seen}
use Rattle.sp_parse_tokens.specs.Sorts.{c_tokens}
use Rattle.sp_parse_tokens.specs.Codes.{sort_seen}
use Rattle.sp_parse_tokens.specs.SyntaxTrees.{syntax_trees}
use Rattle.sp_parse_expr_steps.proofs.Parts.{stop_before}
use Rattle.sp_expr_parser.proofs.ParserSteps.{optional_step, no_specifiers_read, sort_of_head}
use Rattle.sp_expr_parser.proofs.call.specifiers_part.Goals as goal

pub returns-then-not-begins_specifiers : goal.returns-then-not-begins_specifiers
returns-then-not-begins_specifiers c =
    let types = c.args.types.now in
    let text = c.args.tokens.now in
    let s = sort_seen c.first_sort.result in
    let other = sym c.begins_specifiers.ensures ∙ c.if-not-begins_specifiers.true in
    let empty = ap (λ v. specifiers_of v) c.new.ensures.items in
    let flat = ap (λ v. specifiers_depth v) empty in
    record {
      all = grammar.no_specifiers;
      reads = no_specifiers_read (grammar.outside types) text c.requires s (sort_of_head types text s c.first_sort.ensures) other;
      same = empty;
      shallow = omega (arith, flat);
      ended = c.requires;
      fewer = omega arith;
    }

pub returns-in-Ok : goal.returns-in-Ok
returns-in-Ok c =
    let types = c.args.types.now in
    let g = grammar.outside types in
    let part = c.in-Ok.part in
    let text = c.args.tokens.now in
    let s = sort_seen c.first_sort.result in
    let h = c.in-Ok.ensures in
    let begins = sym c.begins_specifiers.ensures ∙ c.if-not-begins_specifiers.false in
    let step = optional_step g text c.requires s (sort_of_head types text s c.first_sort.ensures) begins in
    let all : grammar.Specified syntax_trees = record { all = h.all; typedefs = part.tree.typedefs } in
    let same = ap (λ v. specifiers_depth v) h.same ∙ sym h.read.deep in
    record {
      all = all;
      reads = step.reads all (c_tokens part.rest.now) h.read.reads;
      same = h.same;
      shallow = omega (arith, same, h.read.shallow);
      ended = h.read.ended;
      fewer = omega (arith, h.fewer);
    }

pub returns-in-Err : goal.returns-in-Err
returns-in-Err c =
    let types = c.args.types.now in
    let g = grammar.outside types in
    let text = c.args.tokens.now in
    let s = sort_seen c.first_sort.result in
    let begins = sym c.begins_specifiers.ensures ∙ c.if-not-begins_specifiers.false in
    let step = optional_step g text c.requires s (sort_of_head types text s c.first_sort.ensures) begins in
    stop_before g grammar.optional_specifiers (grammar.specifiers true nothing_seen grammar.no_specifiers) (λ sp. sp) c.args.depth text text step c.in-Err.stop c.in-Err.ensures
