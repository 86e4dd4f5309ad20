use Rattle.std.proofs.Common.{◌≡◌, ◌≤◌, ap, ◌∙◌, subst, arith}
use Rattle.sp_parse_grammar.specs.CTable as grammar
use Rattle.sp_parse_trees.specs.View.{type_name_of}
use Rattle.sp_parse_trees.specs.Depth.{type_name_depth}
use Rattle.sp_parse_tokens.specs.Makers.{first_place}
use Rattle.sp_parse_tokens.specs.Scopes.{allowed_seen}
use Rattle.sp_parse_tokens.proofs.Settled.{settle_type_depth}
use Rattle.sp_parse_laws.specs.Answers.{type_names, type_name_ask}
use Rattle.sp_parse_laws.proofs.Calls.{type_name_reader}
use Rattle.sp_parse_expr_steps.specs.Reading.{IsTypeName, IsStop}
use Rattle.sp_expr_parser.proofs.ParserSteps.{parsed}
use Rattle.sp_expr_parser.proofs.parser.parse_type_name.Goals as goal

pub returns-in-Ok : goal.returns-in-Ok
returns-in-Ok c =
    let types = c.args.types.now in
    let g = grammar.outside types in
    let part = c.in-Ok.part in
    let name = type_name_of part.tree.tree in
    let from = c.tokens_from-from.ensures.from in
    let h = subst (λ v. IsTypeName g c.args.depth v name part.tree.behind part.depth part.rest.now) from c.in-Ok.ensures in
    let same : type_name_depth name ≡ type_name_depth h.pending = ap (λ v. type_name_depth v) h.settled ∙ settle_type_depth (first_place part.rest.now) h.pending in
    let shallow : type_name_depth name ≤ c.args.depth = omega (arith, same, h.read.deep, h.read.shallow) in
    parsed type_names types (type_name_ask types) (type_name_reader types) c.args.depth c.args.tokens.now c.args.at part.rest.now (record { tree = h.pending; behind = allowed_seen part.tree.behind }) name c.count_before.result c.requires.within h.read.reads h.read.ended h.settled shallow c.count_before.ensures

pub error_of-requires-clause-stopped : goal.error_of-requires-clause-stopped
error_of-requires-clause-stopped c =
    subst (λ v. IsStop (grammar.outside c.args.types.now) grammar.type_name c.args.depth v c.in-Err.stop) c.tokens_from-from.ensures.from c.in-Err.ensures
