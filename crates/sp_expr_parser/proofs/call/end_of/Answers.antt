use Rattle.std.proofs.Common.{sym, subst}
use Rattle.sp_parse_tokens.specs.Scopes.{allowed_seen}
use Rattle.sp_parse_expr_steps.specs.Reading.{operand_seen}
use Rattle.sp_parse_expr_steps.specs.Declaring.{declared_seen}
use Rattle.sp_expr_parser.specs.declared.call.Call.TheVariants as calls
use Rattle.sp_expr_parser.specs.Calling.{IsEnd}
use Rattle.sp_expr_parser.proofs.call.end_of.Goals as goal

pub returns-in-Ok : goal.returns-in-Ok
returns-in-Ok c =
    let part = c.in-Ok.part in
    let h = c.in-Ok.ensures in
    let end : IsEnd calls.Expression c.args.types.now c.args.tokens.now part.rest.now = record { answer = operand_seen part.tree; reads = h.reads; ended = h.ended } in
    subst (λ v. IsEnd v c.args.types.now c.args.tokens.now part.rest.now) (sym c.in-Expression.is) end

pub returns-in-Ok-type_name_part : goal.returns-in-Ok-type_name_part
returns-in-Ok-type_name_part c =
    let part = c.in-Ok-type_name_part.part in
    let h = c.in-Ok-type_name_part.ensures in
    let end : IsEnd calls.TypeName c.args.types.now c.args.tokens.now part.rest.now = record { answer = record { tree = h.pending; behind = allowed_seen part.tree.behind }; reads = h.read.reads; ended = h.read.ended } in
    subst (λ v. IsEnd v c.args.types.now c.args.tokens.now part.rest.now) (sym c.in-TypeName.is) end

pub returns-in-Ok-specifiers_part : goal.returns-in-Ok-specifiers_part
returns-in-Ok-specifiers_part c =
    let read = c.in-Ok-specifiers_part.read in
    let h = c.in-Ok-specifiers_part.ensures in
    let end : IsEnd calls.Specifiers c.args.types.now c.args.tokens.now read.1.now = record { answer = h.all; reads = h.reads; ended = h.ended } in
    subst (λ v. IsEnd v c.args.types.now c.args.tokens.now read.1.now) (sym c.in-Specifiers.is) end

pub returns-in-Ok-declarator_part : goal.returns-in-Ok-declarator_part
returns-in-Ok-declarator_part c =
    let part = c.in-Ok-declarator_part.part in
    let h = c.in-Ok-declarator_part.ensures in
    let end : IsEnd calls.Declarator c.args.types.now c.args.tokens.now part.rest.now = record { answer = declared_seen part.tree h.pending; reads = h.read.reads; ended = h.read.ended } in
    subst (λ v. IsEnd v c.args.types.now c.args.tokens.now part.rest.now) (sym c.in-Declarator.is) end
