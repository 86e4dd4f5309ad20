use Rattle.std.proofs.Common.{◌∷◌, ◌-◌, sym, subst, arith}
use Rattle.std.proofs.lemmas.Result.{err_from_is_err_and, MatchResult-at_ok, MatchResult-at_err}
use Rattle.sp_parse_grammar.specs.CTokens.{view}
use Rattle.sp_parse_grammar.specs.CTokens as sorts_there
use Rattle.sp_parse_grammar.specs.CTable as grammar
use Rattle.sp_parse_tokens.specs.Sorts.{terminal, sort_of}
use Rattle.sp_parse_tokens.specs.Scopes.{there}
use Rattle.sp_parse_expr_steps.specs.Declaring.{declared_seen, IsFunction}
use Rattle.sp_parse_expr_steps.proofs.Steps.{got}
use Rattle.sp_parse_expr_steps.proofs.Parts.{stop_part, stop_mark}
use Rattle.sp_parse_expr_steps.proofs.Marks.{opening_is}
use Rattle.sp_parse_expr_steps.proofs.DeclaratorParts.{function_more, function_closing, function_on, parameters_seen, function_lengthened}
use Rattle.sp_parse_expr_ends.proofs.declarators.parametered.Goals as goal

pub returns-in_err-parameters : goal.returns-in_err-parameters
returns-in_err-parameters c =
    let p = err_from_is_err_and c.from_residual.result c.from_residual.ensures.1 in
    let types = c.args.context.types.now in
    let x = c.args.opening in
    let is = opening_is (view types (sort_of x.kind)) c.requires.opening in
    let g = there types c.args.context.scope in
    λ pending settled.
    let h = declared_seen c.args.head pending in
    rw (p.1, p.2) (stop_part g g g (grammar.declarator_suffixes h) (grammar.declarator_suffixes h) grammar.parameters (λ a. a) (function_closing g h (terminal x)) c.args.depth (c.args.depth - 1) (x ∷ c.args.tokens.now) c.args.tokens.now (function_on g h x c.args.tokens.now (sym is)) (omega arith) c.in_err-parameters.field-0.0 (MatchResult-at_err _ _ _ c.in_err-parameters.ensures c.requires.read))

pub returns-in_err-rest : goal.returns-in_err-rest
returns-in_err-rest c =
    let p = err_from_is_err_and c.from_residual-in_err-rest.result c.from_residual-in_err-rest.ensures.1 in
    let types = c.args.context.types.now in
    let x = c.args.opening in
    let is = opening_is (view types (sort_of x.kind)) c.requires.opening in
    let g = there types c.args.context.scope in
    let w = MatchResult-at_ok _ _ _ c.in_ok-parameters.ensures.0 c.requires.read in
    let ps = c.in_ok-parameters.parameters.tree in
    λ pending settled.
    let h = declared_seen c.args.head pending in
    rw (p.1, p.2) (stop_mark types c.args.context.scope g (grammar.declarator_suffixes h) (grammar.declarator_suffixes h) (λ a. a) sorts_there.closing ps.behind (function_more g h (terminal x) (parameters_seen ps w.pending)) g c.args.depth (x ∷ c.args.tokens.now) c.in_ok-parameters.parameters.rest.now (got (function_on g h x c.args.tokens.now (sym is)) w.read.reads) w.read.ended c.in_err-rest.field-0.0 (MatchResult-at_err _ _ _ c.in_err-rest.ensures c.expect-next.ensures))

pub returns : goal.returns
returns c =
    let types = c.args.context.types.now in
    let x = c.args.opening in
    let is = opening_is (view types (sort_of x.kind)) c.requires.opening in
    let made = subst (λ v. IsFunction v c.in_ok-parameters.parameters.tree c.in_ok-function_of.field-0) c.in_ok-parameters.ensures.1 (subst (λ v. IsFunction v.0 v.1 c.in_ok-function_of.field-0) c.in_ok-rest.ensures.1 c.in_ok-function_of.ensures) in
    λ pending settled. function_lengthened types c.args.context.scope c.args.head c.in_ok-function_of.field-0 pending x c.args.tokens.now c.in_ok-parameters.parameters.rest.now c.in_ok-rest.rest.now c.args.depth c.args.reached c.in_ok-parameters.parameters.depth c.max.result c.in_ok-parameters.parameters.tree settled (sym is) (MatchResult-at_ok _ _ _ c.in_ok-parameters.ensures.0 c.requires.read) (MatchResult-at_ok _ _ _ c.in_ok-rest.ensures.0 c.expect-next.ensures) made c.requires.deep c.requires.shallow c.max.ensures
