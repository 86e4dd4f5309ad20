-- The goals of the readers of lists: of arguments, parameters, members and their declarators, and
-- constants.
use Rattle.std.proofs.Common.{◌≡◌, ◌-◌, ℕ, true, false, map, length, refl, sym, ap, subst, arith, rules}
use Rattle.std.specs.Prelude.{MatchResult, if◌then◌else◌}
use Rattle.std.proofs.lemmas.Result.{err_from_is_err_and, MatchResult-at_ok, MatchResult-at_err}
use Rattle.sp_parse_trees.specs.View.{tree_of, declaration_of}
use Rattle.sp_parse_grammar.specs.CTokens as sorts_there
use Rattle.sp_parse_grammar.specs.CTable as grammar
use Rattle.sp_parse_grammar.specs.CTable.{get}
use Rattle.sp_parse_grammar.specs.Table.{done}
use Rattle.sp_parse_tokens.specs.Scopes.{there}
use Rattle.sp_parse_expr_steps.specs.Reading.{Answers, IsStop}
use Rattle.sp_parse_expr_steps.specs.Declaring.{IsGiven, constant_seen}
use Rattle.sp_parse_expr_steps.proofs.Parts.{stop_part}
use Rattle.sp_parse_expr_steps.proofs.DeclaratorSteps.{parameter_on, given_made}
use Rattle.sp_parse_expr_steps.proofs.MemberSteps.{member_begun, member_behind}
use Rattle.sp_parse_expr_steps.proofs.StructureSteps.{inner}
use Rattle.sp_parse_expr_lists.specs.Heads.{IsHead}
use Rattle.sp_parse_expr_lists.specs.Bodies.{HasConstants, HasMembers, IsConstantName}
use Rattle.sp_parse_expr_lists.specs.Items.{HasItems}
use Rattle.sp_parse_expr_lists.specs.Given.{HasArguments, HasParameters}
use Rattle.sp_parse_expr_reader.proofs.+reader.Goals as goal

-- ---- arguments

pub expressions::read_arguments-read_level-next-requires : goal.expressions::read_arguments-read_level-next-requires
expressions::read_arguments-read_level-next-requires t c =
    let g = there c.args.context.types.now c.args.context.scope in
    let now = c.arguments.arguments in
    let b = subst (λ v. HasArguments g c.args.depth c.args.tokens.now v (map tree_of now.all.items) now.depth now.rest.now) c.arguments-test.true c.arguments.invariant.so_far in
    (first_of (omega (arith, b.fewer), search rules), (b.ended, omega arith))

pub expressions::read_arguments-with_argument-requires : goal.expressions::read_arguments-with_argument-requires
expressions::read_arguments-with_argument-requires t c =
    let g = there c.args.context.types.now c.args.context.scope in
    let now = c.arguments.arguments in
    record {
      before = subst (λ v. HasArguments g c.args.depth c.args.tokens.now v (map tree_of now.all.items) now.depth now.rest.now) c.arguments-test.true c.arguments.invariant.so_far;
      read = c.read_level-next.ensures;
    }

pub expressions::read_arguments-returns-in_err-arguments : goal.expressions::read_arguments-returns-in_err-arguments
expressions::read_arguments-returns-in_err-arguments t c =
    let p = err_from_is_err_and c.from_residual.result c.from_residual.ensures.1 in
    rw (p.1, p.2) c.in_err-arguments.ensures

pub expressions::read_arguments-arguments-smaller : goal.expressions::read_arguments-arguments-smaller
expressions::read_arguments-arguments-smaller t c = omega (arith, c.in_ok-arguments.ensures.1)

pub expressions::read_arguments-arguments-preserved : goal.expressions::read_arguments-arguments-preserved
expressions::read_arguments-arguments-preserved t c = record { so_far = c.in_ok-arguments.ensures.0; same_tokens = refl; same_depth = refl; same_types = refl; same_scope = refl }

pub expressions::read_arguments-returns : goal.expressions::read_arguments-returns
expressions::read_arguments-returns t c =
    let g = there c.args.context.types.now c.args.context.scope in
    let now = c.arguments.arguments in
    subst (λ v. HasArguments g c.args.depth c.args.tokens.now v (map tree_of now.all.items) now.depth now.rest.now) c.arguments-test.false c.arguments.invariant.so_far

-- ---- parameters

pub declarators::read_parameters-read_specifiers-specifiers-requires : goal.declarators::read_parameters-read_specifiers-specifiers-requires
declarators::read_parameters-read_specifiers-specifiers-requires t c =
    let g = there c.args.context.types.now c.args.context.scope in
    let now = c.parameters.parameters in
    let b = subst (λ v. HasParameters g c.args.depth c.args.tokens.now now.given v now.depth now.rest.now) c.parameters-test.true c.parameters.invariant.so_far in
    (first_of (omega (arith, b.fewer), search rules), b.ended)

pub declarators::read_parameters-returns-in_err-specifiers : goal.declarators::read_parameters-returns-in_err-specifiers
declarators::read_parameters-returns-in_err-specifiers t c =
    let p = err_from_is_err_and c.from_residual.result c.from_residual.ensures.1 in
    let g = there c.args.context.types.now c.args.context.scope in
    let now = c.parameters.parameters in
    let b = subst (λ v. HasParameters g c.args.depth c.args.tokens.now now.given v now.depth now.rest.now) c.parameters-test.true c.parameters.invariant.so_far in
    let stop = c.in_err-specifiers.field-0.0 in
    rw (p.1, p.2) (b.stops stop (stop_part g g g grammar.parameter grammar.parameter (grammar.specifiers true sorts_there.nothing_seen grammar.no_specifiers) (λ a. a) (λ sp. get g (grammar.declarator grammar.either) (λ d. done (given_made sp.all d))) c.args.depth c.args.depth now.rest.now now.rest.now (parameter_on g now.rest.now b.ended) (omega arith) stop (MatchResult-at_err _ _ _ c.in_err-specifiers.ensures c.read_specifiers-specifiers.ensures)))

pub declarators::read_parameters-read_declarator-declared-requires : goal.declarators::read_parameters-read_declarator-declared-requires
declarators::read_parameters-read_declarator-declared-requires t c =
    let g = there c.args.context.types.now c.args.context.scope in
    let now = c.parameters.parameters in
    let b = subst (λ v. HasParameters g c.args.depth c.args.tokens.now now.given v now.depth now.rest.now) c.parameters-test.true c.parameters.invariant.so_far in
    let h = MatchResult-at_ok _ _ _ c.in_ok-specifiers.ensures.0 c.read_specifiers-specifiers.ensures in
    (first_of (omega (arith, b.fewer, h.fewer), search rules), (h.read.ended, c.requires.room))

pub declarators::read_parameters-parameter_named-next-requires : goal.declarators::read_parameters-parameter_named-next-requires
declarators::read_parameters-parameter_named-next-requires t c =
    let g = there c.args.context.types.now c.args.context.scope in
    let now = c.parameters.parameters in
    let b = subst (λ v. HasParameters g c.args.depth c.args.tokens.now now.given v now.depth now.rest.now) c.parameters-test.true c.parameters.invariant.so_far in
    record {
      ended = b.ended;
      specified = MatchResult-at_ok _ _ _ c.in_ok-specifiers.ensures.0 c.read_specifiers-specifiers.ensures;
      read = c.read_declarator-declared.ensures;
    }

pub declarators::read_parameters-with_parameter-requires : goal.declarators::read_parameters-with_parameter-requires
declarators::read_parameters-with_parameter-requires t c =
    let g = there c.args.context.types.now c.args.context.scope in
    let now = c.parameters.parameters in
    let b = subst (λ v. HasParameters g c.args.depth c.args.tokens.now now.given v now.depth now.rest.now) c.parameters-test.true c.parameters.invariant.so_far in
    record {
      before = subst (λ v. HasParameters g c.args.depth c.args.tokens.now v.given true v.depth v.rest.now) (sym c.in_ok-specifiers.ensures.1) b;
      read = subst (λ v. MatchResult c.parameter_named-next.result (λ part. IsGiven g c.args.depth v.rest.now part.tree.tree part.tree.behind part.depth part.rest.now) (IsStop g grammar.parameter c.args.depth v.rest.now)) (sym c.in_ok-specifiers.ensures.1) c.parameter_named-next.ensures;
    }

pub declarators::read_parameters-returns-in_err-parameters : goal.declarators::read_parameters-returns-in_err-parameters
declarators::read_parameters-returns-in_err-parameters t c =
    let p = err_from_is_err_and c.from_residual-in_err-parameters.result c.from_residual-in_err-parameters.ensures.1 in
    rw (p.1, p.2) c.in_err-parameters.ensures

pub declarators::read_parameters-parameters-smaller : goal.declarators::read_parameters-parameters-smaller
declarators::read_parameters-parameters-smaller t c =
    let same = ap (λ v. length v.rest.now) c.in_ok-specifiers.ensures.1 in
    omega (arith, c.in_ok-parameters.ensures.1, same)

pub declarators::read_parameters-parameters-preserved : goal.declarators::read_parameters-parameters-preserved
declarators::read_parameters-parameters-preserved t c = record { so_far = c.in_ok-parameters.ensures.0; same_tokens = refl; same_depth = refl; same_types = refl; same_scope = refl }

pub declarators::read_parameters-returns : goal.declarators::read_parameters-returns
declarators::read_parameters-returns t c =
    let g = there c.args.context.types.now c.args.context.scope in
    let now = c.parameters.parameters in
    subst (λ v. HasParameters g c.args.depth c.args.tokens.now now.given v now.depth now.rest.now) c.parameters-test.false c.parameters.invariant.so_far

-- ---- heads

pub specifiers::read_specifier-returns-in_err-head : goal.specifiers::read_specifier-returns-in_err-head
specifiers::read_specifier-returns-in_err-head t c =
    let p = err_from_is_err_and c.from_residual.result c.from_residual.ensures.1 in
    rw (p.1, p.2) c.in_err-head.ensures

pub specifiers::read_specifier-read_members-requires : goal.specifiers::read_specifier-read_members-requires
specifiers::read_specifier-read_members-requires t c =
    let g = there c.args.context.types.now c.args.context.scope in
    let head = c.in_ok-head.head in
    (first_of (omega arith, search rules), subst (λ v. IsHead g c.args.depth c.args.token c.args.tokens.now v head.tag head.rest.now) c.in-Members.is c.in_ok-head.ensures)

pub specifiers::read_specifier-read_constants-requires : goal.specifiers::read_specifier-read_constants-requires
specifiers::read_specifier-read_constants-requires t c =
    let g = there c.args.context.types.now c.args.context.scope in
    let head = c.in_ok-head.head in
    (first_of (omega arith, search rules), subst (λ v. IsHead g c.args.depth c.args.token c.args.tokens.now v head.tag head.rest.now) c.in-Constants.is c.in_ok-head.ensures)

pub specifiers::read_specifier-whole_specifier-requires : goal.specifiers::read_specifier-whole_specifier-requires
specifiers::read_specifier-whole_specifier-requires t c =
    let g = there c.args.context.types.now c.args.context.scope in
    let head = c.in_ok-head.head in
    record { head = subst (λ v. IsHead g c.args.depth c.args.token c.args.tokens.now v head.tag head.rest.now) c.in-Absent.is c.in_ok-head.ensures }

-- ---- members

pub specifiers::read_members-no_members-members-requires : goal.specifiers::read_members-no_members-members-requires
specifiers::read_members-no_members-members-requires t c = c.requires.head.2.ended

pub specifiers::read_members-read_member-next-requires : goal.specifiers::read_members-read_member-next-requires
specifiers::read_members-read_member-next-requires t c =
    let h = c.members.invariant.so_far in
    let room = c.requires.head.1 in
    let body = c.requires.head.2 in
    (first_of (omega (arith, h.fewer, body.fewer), search rules), (h.ended, omega (arith, room)))

pub specifiers::read_members-with_member-requires : goal.specifiers::read_members-with_member-requires
specifiers::read_members-with_member-requires t c =
    let types = c.args.context.types.now in
    let g = there types c.args.context.scope in
    let now = c.members.members in
    let room = c.args.depth - 1 in
    let next = c.read_member-next.result in
    record {
      head = c.requires.head;
      before = subst (λ v. HasMembers g (inner c.args.context.scope) c.args.depth c.args.head.rest.now v (map declaration_of now.all.items) now.depth now.rest.now) c.members-test.true c.members.invariant.so_far;
      read = subst (λ s. Answers (there types s) grammar.member room now.rest.now declaration_of next) c.inside_structure-inner.ensures.scope
          (subst (λ v. Answers (there v c.inside_structure-inner.result.scope) grammar.member room now.rest.now declaration_of next) c.inside_structure-inner.ensures.types c.read_member-next.ensures);
    }

pub specifiers::read_members-returns-in_err-members : goal.specifiers::read_members-returns-in_err-members
specifiers::read_members-returns-in_err-members t c =
    let p = err_from_is_err_and c.from_residual.result c.from_residual.ensures.1 in
    rw (p.1, p.2) c.in_err-members.ensures

pub specifiers::read_members-members-smaller : goal.specifiers::read_members-members-smaller
specifiers::read_members-members-smaller t c = omega (arith, c.in_ok-members.ensures.1)

pub specifiers::read_members-members-preserved : goal.specifiers::read_members-members-preserved
specifiers::read_members-members-preserved t c = record { so_far = c.in_ok-members.ensures.0 }

pub specifiers::read_members-closed_structure-requires : goal.specifiers::read_members-closed_structure-requires
specifiers::read_members-closed_structure-requires t c =
    let g = there c.args.context.types.now c.args.context.scope in
    let now = c.members.members in
    record {
      head = c.requires.head;
      behind = subst (λ v. HasMembers g (inner c.args.context.scope) c.args.depth c.args.head.rest.now v (map declaration_of now.all.items) now.depth now.rest.now) c.members-test.false c.members.invariant.so_far;
    }

-- ---- declarators of members

pub specifiers::read_member-returns-in_err-specifiers : goal.specifiers::read_member-returns-in_err-specifiers
specifiers::read_member-returns-in_err-specifiers t c =
    let p = err_from_is_err_and c.from_residual.result c.from_residual.ensures.1 in
    let g = there c.args.context.types.now c.args.context.scope in
    rw (p.1, p.2) (stop_part g g g grammar.member grammar.member (grammar.specifiers false sorts_there.nothing_seen grammar.no_specifiers) (λ a. a) (member_behind g) c.args.depth c.args.depth c.args.tokens.now c.args.tokens.now (member_begun g c.args.tokens.now c.requires.ended) (omega arith) c.in_err-specifiers.field-0.0 c.in_err-specifiers.ensures)

pub specifiers::read_member-member_of-member-requires : goal.specifiers::read_member-member_of-member-requires
specifiers::read_member-member_of-member-requires t c = record { ended = c.requires.ended; specified = c.in_ok-specifiers.ensures }

pub specifiers::read_member-read_declarator-next-requires : goal.specifiers::read_member-read_declarator-next-requires
specifiers::read_member-read_declarator-next-requires t c =
    let h = c.items.invariant.so_far in
    (first_of (omega (arith, h.fewer), search rules), (h.ended, c.requires.room))

pub specifiers::read_member-with_item-requires : goal.specifiers::read_member-with_item-requires
specifiers::read_member-with_item-requires t c =
    let g = there c.args.context.types.now c.args.context.scope in
    let m = c.items.member in
    record {
      ended = c.requires.ended;
      before = subst (λ v. HasItems g c.args.depth c.args.tokens.now m.specifiers.tree m.specifiers.depth m.specifiers.rest.now v m.declarators.all.items m.declarators.behind m.depth m.rest.now) c.items-test.true c.items.invariant.so_far;
      read = c.read_declarator-next.ensures;
    }

pub specifiers::read_member-returns-in_err-member : goal.specifiers::read_member-returns-in_err-member
specifiers::read_member-returns-in_err-member t c =
    let p = err_from_is_err_and c.from_residual-in_err-member.result c.from_residual-in_err-member.ensures.1 in
    rw (p.1, p.2) c.in_err-member.ensures

pub specifiers::read_member-items-smaller : goal.specifiers::read_member-items-smaller
specifiers::read_member-items-smaller t c =
    let was : ◌≡◌ {A = ℕ} (if c.items.member.more then 1 else 0) 1 = ap (λ v. if v then 1 else 0) c.items-test.true in
    omega (arith, was, c.in_ok-member.ensures.1)

pub specifiers::read_member-items-preserved : goal.specifiers::read_member-items-preserved
specifiers::read_member-items-preserved t c = record { so_far = c.in_ok-member.ensures.0 }

pub specifiers::read_member-closed_member-requires : goal.specifiers::read_member-closed_member-requires
specifiers::read_member-closed_member-requires t c =
    let g = there c.args.context.types.now c.args.context.scope in
    let m = c.items.member in
    record {
      ended = c.requires.ended;
      behind = subst (λ v. HasItems g c.args.depth c.args.tokens.now m.specifiers.tree m.specifiers.depth m.specifiers.rest.now v m.declarators.all.items m.declarators.behind m.depth m.rest.now) c.items-test.false c.items.invariant.so_far;
    }

-- ---- constants

pub specifiers::read_constants-no_constants-constants-requires : goal.specifiers::read_constants-no_constants-constants-requires
specifiers::read_constants-no_constants-constants-requires t c = c.requires.head.1.ended

pub specifiers::read_constants-read_constant-next-requires : goal.specifiers::read_constants-read_constant-next-requires
specifiers::read_constants-read_constant-next-requires t c =
    let h = c.constants.invariant.so_far in
    let body = c.requires.head.1 in
    (first_of (omega (arith, h.fewer, body.fewer), search rules), h.ended)

pub specifiers::read_constants-with_constant-requires : goal.specifiers::read_constants-with_constant-requires
specifiers::read_constants-with_constant-requires t c =
    let g = there c.args.context.types.now c.args.context.scope in
    let now = c.constants.constants in
    record {
      head = c.requires.head;
      before = subst (λ v. HasConstants g c.args.context.scope c.args.depth c.args.head.rest.now v (map constant_seen now.all.items) now.depth now.rest.now) c.constants-test.true c.constants.invariant.so_far;
      read = c.read_constant-next.ensures;
    }

pub specifiers::read_constants-returns-in_err-constants : goal.specifiers::read_constants-returns-in_err-constants
specifiers::read_constants-returns-in_err-constants t c =
    let p = err_from_is_err_and c.from_residual.result c.from_residual.ensures.1 in
    rw (p.1, p.2) c.in_err-constants.ensures

pub specifiers::read_constants-constants-smaller : goal.specifiers::read_constants-constants-smaller
specifiers::read_constants-constants-smaller t c = omega (arith, c.in_ok-constants.ensures.1)

pub specifiers::read_constants-constants-preserved : goal.specifiers::read_constants-constants-preserved
specifiers::read_constants-constants-preserved t c = record { so_far = c.in_ok-constants.ensures.0 }

pub specifiers::read_constants-closed_enumeration-requires : goal.specifiers::read_constants-closed_enumeration-requires
specifiers::read_constants-closed_enumeration-requires t c =
    let g = there c.args.context.types.now c.args.context.scope in
    let now = c.constants.constants in
    record {
      head = c.requires.head;
      behind = subst (λ v. HasConstants g c.args.context.scope c.args.depth c.args.head.rest.now v (map constant_seen now.all.items) now.depth now.rest.now) c.constants-test.false c.constants.invariant.so_far;
    }

pub specifiers::read_constant-returns-in_err-constant : goal.specifiers::read_constant-returns-in_err-constant
specifiers::read_constant-returns-in_err-constant t c =
    let p = err_from_is_err_and c.from_residual.result c.from_residual.ensures.1 in
    rw (p.1, p.2) c.in_err-constant.ensures

pub specifiers::read_constant-returns-then-not-constant : goal.specifiers::read_constant-returns-then-not-constant
specifiers::read_constant-returns-then-not-constant t c =
    let g = there c.args.context.types.now c.args.context.scope in
    let n = c.in_ok-constant.constant in
    subst (λ v. IsConstantName g c.args.depth c.args.tokens.now n.name n.place v n.rest.now) c.if-not-constant.true c.in_ok-constant.ensures

pub specifiers::read_constant-read_level-value-requires : goal.specifiers::read_constant-read_level-value-requires
specifiers::read_constant-read_level-value-requires t c =
    let g = there c.args.context.types.now c.args.context.scope in
    let n = c.in_ok-constant.constant in
    let v = subst (λ v. IsConstantName g c.args.depth c.args.tokens.now n.name n.place v n.rest.now) c.if-not-constant.false c.in_ok-constant.ensures in
    (first_of (omega (arith, v.2), search rules), (v.3, omega arith))

pub specifiers::read_constant-valued-requires : goal.specifiers::read_constant-valued-requires
specifiers::read_constant-valued-requires t c =
    let g = there c.args.context.types.now c.args.context.scope in
    let n = c.in_ok-constant.constant in
    record {
      named = subst (λ v. IsConstantName g c.args.depth c.args.tokens.now n.name n.place v n.rest.now) c.if-not-constant.false c.in_ok-constant.ensures;
      read = c.read_level-value.ensures;
    }
