use Rattle.std.proofs.Common.{◌++◌, refl, sym, ap, ◌∙◌, subst, take, drop, arith}
use Rattle.sp_tree.specs.declared.fault.FaultKind.TheVariants.{OldStyleParameters, VariadicDefinition, BitField}
use Rattle.sp_parse_expr_steps.specs.Reading.{kind_at}
use Rattle.sp_expr_parser.specs.Parsing.{language_of, Failing}
use Rattle.sp_expr_parser.specs.Calling.{IsTold, IsUnanswered, IsFront, NoEnd}
use Rattle.sp_expr_parser.proofs.Errors.{located, part_is, before_is, front_is, open_is, fails_at, fault_refused, passed_refused}
use Rattle.sp_expr_parser.proofs.KindLaws.{kind_wanted, kind_told, not_wanted}
use Rattle.sp_expr_parser.proofs.error.fault_error.Goals as goal

pub count_before-count-requires : goal.count_before-count-requires
count_before-count-requires c =
    let l = located c.args.call c.args.types.now c.args.tokens.now c.args.at c.args.rest.now c.requires.stopped.0 c.requires.within c.requires.stopped.1 in
    let s = l.size in omega (arith, s)

pub part_of-front-requires-clause-forward : goal.part_of-front-requires-clause-forward
part_of-front-requires-clause-forward c =
    let l = located c.args.call c.args.types.now c.args.tokens.now c.args.at c.args.rest.now c.requires.stopped.0 c.requires.within c.requires.stopped.1 in
    let s = l.size in omega (arith, s, c.count_before-count.ensures)

pub kind_told-requires : goal.kind_told-requires
kind_told-requires c =
    let types = c.args.types.now in
    let tokens = c.args.tokens.now in
    let rest = c.args.rest.now in
    let stop = c.requires.stopped in
    let l = located c.args.call types tokens c.args.at rest stop.0 c.requires.within stop.1 in
    let same = sym (part_is tokens c.args.at rest l c.count_before-count.result c.count_before-count.ensures) ∙ sym c.part_of-front.ensures in
    record {
      front = subst (λ v. IsFront (language_of c.args.call) types v) same (front_is c.args.call types tokens c.args.at rest stop.0 stop.1 l c.next_token.result.0 c.next_token.result.1.now c.next_token.ensures);
      unended = subst NoEnd same (open_is tokens c.args.at rest l c.requires.ended c.requires.within c.next_token.result.0 c.next_token.result.1.now c.next_token.ensures);
    }

pub returns-then-is_wanted : goal.returns-then-is_wanted
returns-then-is_wanted c =
    let types = c.args.types.now in
    let tokens = c.args.tokens.now in
    let rest = c.args.rest.now in
    let bad = c.next_token.result.0 in
    let more = c.next_token.result.1.now in
    let stop = c.requires.stopped in
    let l = located c.args.call types tokens c.args.at rest stop.0 c.requires.within stop.1 in
    let whole = l.whole ∙ ap (λ v. l.front ++ v) c.next_token.ensures in
    let f : Failing = record { want = stop.0; before = take c.args.at tokens; front = l.front; bad = bad } in
    let told = stop.2 ∙ ap (kind_at stop.0) c.next_token.ensures in
    let is = kind_wanted (language_of c.args.call) types f c.args.kind (sym c.is_wanted.ensures ∙ c.if-is_wanted.true) told in
    fault_refused c.args.call types c.args.depth (take c.args.at tokens) (drop c.args.at tokens) l.front bad more whole stop.0 (fails_at c.args.call types (drop c.args.at tokens) rest stop.0 bad more c.next_token.ensures stop.1) c.args.kind is

pub returns-in-Ok : goal.returns-in-Ok
returns-in-Ok c =
    let types = c.args.types.now in
    let tokens = c.args.tokens.now in
    let rest = c.args.rest.now in
    let bad = c.next_token.result.0 in
    let more = c.next_token.result.1.now in
    let stop = c.requires.stopped in
    let l = located c.args.call types tokens c.args.at rest stop.0 c.requires.within stop.1 in
    let whole = l.whole ∙ ap (λ v. l.front ++ v) c.next_token.ensures in
    let f : Failing = record { want = stop.0; before = take c.args.at tokens; front = l.front; bad = bad } in
    let there = stop.2 ∙ ap (kind_at stop.0) c.next_token.ensures in
    let no = sym c.is_wanted.ensures ∙ c.if-is_wanted.false in
    let count = c.count_before-count.result in
    let front = c.part_of-front.ensures ∙ part_is tokens c.args.at rest l count c.count_before-count.ensures in
    let before = c.first_tokens-before.ensures ∙ before_is tokens c.args.at rest l count c.requires.within c.count_before-count.ensures in
    let told = subst (λ v. IsTold (language_of c.args.call) types c.first_tokens-before.result.now v bad c.in-Ok.kind) front c.in-Ok.ensures in
    let is = kind_told (language_of c.args.call) types f c.args.kind c.in-Ok.kind c.first_tokens-before.result.now before there (not_wanted c.args.kind OldStyleParameters no refl) (not_wanted c.args.kind VariadicDefinition no refl) (not_wanted c.args.kind BitField no refl) told in
    fault_refused c.args.call types c.args.depth (take c.args.at tokens) (drop c.args.at tokens) l.front bad more whole stop.0 (fails_at c.args.call types (drop c.args.at tokens) rest stop.0 bad more c.next_token.ensures stop.1) c.in-Ok.kind is

pub returns-in-Err : goal.returns-in-Err
returns-in-Err c =
    let types = c.args.types.now in
    let tokens = c.args.tokens.now in
    let rest = c.args.rest.now in
    let stop = c.requires.stopped in
    let l = located c.args.call types tokens c.args.at rest stop.0 c.requires.within stop.1 in
    let whole = l.whole ∙ ap (λ v. l.front ++ v) c.next_token.ensures in
    let front = c.part_of-front.ensures ∙ part_is tokens c.args.at rest l c.count_before-count.result c.count_before-count.ensures in
    let h = subst (λ v. IsUnanswered (language_of c.args.call) types c.args.depth v c.in-Err.error) front c.in-Err.ensures in
    passed_refused c.args.call types c.args.depth (take c.args.at tokens) (drop c.args.at tokens) l.front c.next_token.result.0 c.next_token.result.1.now whole c.in-Err.error h
