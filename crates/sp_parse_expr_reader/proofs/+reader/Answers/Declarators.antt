-- The goals of the readers of declarators and type names.
use Rattle.std.proofs.Common.{◌≡◌, ◌∷◌, false, length, refl, sym, ap, ◌∙◌, subst, arith, rules}
use Rattle.std.proofs.lemmas.Result.{err_from_is_err_and}
use Rattle.sp_parse_trees.specs.View.{declarator_of}
use Rattle.sp_parse_grammar.specs.CTokens.{is_mark, view}
use Rattle.sp_parse_grammar.specs.CTokens as sorts_there
use Rattle.sp_parse_grammar.specs.CTable as grammar
use Rattle.sp_parse_grammar.specs.CTable.{get, is_concrete, is_parameters}
use Rattle.sp_parse_grammar.specs.Table.{done}
use Rattle.sp_parse_tokens.specs.Sorts.{terminal, sort_of, c_tokens}
use Rattle.sp_parse_tokens.specs.Ended.{IsEnded}
use Rattle.std.specs.Prelude.{not, ◌&&◌, ◌||◌}
use Rattle.sp_parse_tokens.specs.Scopes.{there}
use Rattle.sp_parse_expr_steps.specs.Reading.{IsStop, IsStep, first_sort}
use Rattle.sp_parse_expr_steps.proofs.Steps.{got, last, joined, before_at}
use Rattle.sp_parse_expr_steps.proofs.Parts.{stop_before, stop_part, IsOn}
use Rattle.sp_parse_expr_steps.proofs.Marks.{opening_is, star_is}
use Rattle.sp_parse_expr_steps.proofs.ExpressionSteps.{built, first_deep}
use Rattle.sp_parse_expr_steps.specs.Declaring.{form_seen, declared_seen, head_name, begins_array, begins_deeper, begins_part}
use Rattle.sp_parse_expr_steps.proofs.DeclaratorSteps.{type_on, type_made, star_on, direct_on, pointer_result, declared_before}
use Rattle.sp_parse_tokens.specs.Makers.{settle, first_place, make_absent}
use Rattle.sp_parse_expr_steps.proofs.DeclaratorParts.{parts_read, part_deep, settled_deep, declared_deep, array_plan, array_deep, array_settled, array_step, array_stop}
use Rattle.sp_parse_expr_steps.proofs.GroupSteps.{inner_deep, open_stop, open_suffixes, none_named, absent_seen, absent_tree, named_seen, named_settled, named_deep, named_ended, pending_of, group_deeper, group_star_on, group_open_on, group_named_on, group_array_on, group_refused}
use Rattle.sp_parse_expr_reader.proofs.+reader.Goals as goal

pub declarators::read_type_name-returns-in_err-specifiers : goal.declarators::read_type_name-returns-in_err-specifiers
declarators::read_type_name-returns-in_err-specifiers t c =
    let p = err_from_is_err_and c.from_residual.result c.from_residual.ensures.1 in
    let g = there c.args.context.types.now c.args.context.scope in
    rw (p.1, p.2) (stop_part g g g grammar.type_name grammar.type_name (grammar.specifiers false sorts_there.nothing_seen grammar.no_specifiers) (λ a. a) (λ sp. get g (grammar.declarator grammar.abstract) (λ d. done (type_made sp.all d))) c.args.depth c.args.depth c.args.tokens.now c.args.tokens.now (type_on g c.args.tokens.now c.requires.ended) (omega arith) c.in_err-specifiers.field-0.0 c.in_err-specifiers.ensures)

pub declarators::read_group-returns-then-begins_deeper : goal.declarators::read_group-returns-then-begins_deeper
declarators::read_group-returns-then-begins_deeper t c =
    let g = there c.args.context.types.now c.args.context.scope in
    let f = form_seen c.args.form in
    let x = c.next_token.result.0 in
    let s = view g.types (sort_of x.kind) in
    let stands = sym (c.begins_deeper.ensures ∙ ap (λ v. begins_deeper f v) c.sort_at-sort.ensures) ∙ c.if-begins_deeper.true in
    let w = group_deeper g f (terminal x) s stands in
    (first_deep g (grammar.group f) c.args.tokens.now c.next_token.result.1.now x s c.next_token.ensures refl c.args.depth w.body w.chosen (omega (arith, w.least)), c.requires.ended)

pub declarators::read_group-returns-then-is_mark : goal.declarators::read_group-returns-then-is_mark
declarators::read_group-returns-then-is_mark t c =
    let g = there c.args.context.types.now c.args.context.scope in
    let f = form_seen c.args.form in
    let x = c.next_token.result.0 in
    let xs = c.next_token.result.1.now in
    let is = star_is (view g.types (sort_of x.kind)) (sym (c.is_mark.ensures ∙ ap (λ s. is_mark sorts_there.star s) c.sort_at-sort.ensures) ∙ c.if-is_mark.true) in
    let shorter : length c.args.tokens.now ≡ length (x ∷ xs) = ap length c.next_token.ensures in
    pointer_result g (grammar.group f) (λ d. d) f x c.args.depth c.args.tokens.now xs (group_star_on g f c.args.tokens.now xs x c.next_token.ensures (sym is)) c.requires.room (λ a. refl) refl (omega (arith, shorter)) c.read_pointer.result c.read_pointer.ensures

pub declarators::read_group-returns-in_err-head : goal.declarators::read_group-returns-in_err-head
declarators::read_group-returns-in_err-head t c =
    let p = err_from_is_err_and c.from_residual.result c.from_residual.ensures.1 in
    let g = there c.args.context.types.now c.args.context.scope in
    let f = form_seen c.args.form in
    let x = c.next_token.result.0 in
    let xs = c.next_token.result.1.now in
    let is = opening_is (view g.types (sort_of x.kind)) (sym (c.is_mark-2.ensures ∙ ap (λ s. is_mark sorts_there.opening s) c.sort_at-sort.ensures) ∙ c.if-is_mark-2.true) in
    rw (p.1, p.2) (stop_part g g g (grammar.group f) (grammar.group f) (grammar.behind_group f (terminal x)) (λ a. a) (λ d. get g (grammar.declarator_suffixes d) (λ v. done v)) c.args.depth c.args.depth c.args.tokens.now xs (group_open_on g f c.args.tokens.now xs x c.next_token.ensures (sym is)) (omega arith) c.in_err-head.field-0.0 c.in_err-head.ensures)

pub declarators::read_group-returns-then-is_mark-2 : goal.declarators::read_group-returns-then-is_mark-2
declarators::read_group-returns-then-is_mark-2 t c =
    let g = there c.args.context.types.now c.args.context.scope in
    let f = form_seen c.args.form in
    let x = c.next_token.result.0 in
    let xs = c.next_token.result.1.now in
    let h = c.in_ok-head.ensures in
    let head = declared_seen c.in_ok-head.head.tree h.pending in
    let is = opening_is (view g.types (sort_of x.kind)) (sym (c.is_mark-2.ensures ∙ ap (λ s. is_mark sorts_there.opening s) c.sort_at-sort.ensures) ∙ c.if-is_mark-2.true) in
    let shorter : length c.args.tokens.now ≡ length (x ∷ xs) = ap length c.next_token.ensures in
    let on = group_open_on g f c.args.tokens.now xs x c.next_token.ensures (sym is) in
    declared_before g (grammar.group f) (grammar.declarator_suffixes head) (λ v. v) (λ v. v) c.args.depth c.args.tokens.now c.in_ok-head.head.rest.now (last (got on h.read.reads)) (λ a. refl) (omega (arith, h.read.fewer, shorter)) c.read_declarator_suffixes.result (c.read_declarator_suffixes.ensures h.pending h.settled h.named)

pub declarators::read_group-returns-in-Some : goal.declarators::read_group-returns-in-Some
declarators::read_group-returns-in-Some t c =
    let types = c.args.context.types.now in
    let g = there types c.args.context.scope in
    let f = form_seen c.args.form in
    let x = c.next_token.result.0 in
    let xs = c.next_token.result.1.now in
    let dd = c.named-head.result in
    let tree = declarator_of dd.tree in
    let n = c.in-Some.name in
    let is = sym (c.head_name.ensures ∙ ap (λ s. head_name f s) c.sort_at-sort.ensures) ∙ c.in-Some.is in
    let seen = named_seen types f x n dd is c.named-head.ensures in
    let shorter : length c.args.tokens.now ≡ length (x ∷ xs) = ap length c.next_token.ensures in
    let step = subst (λ v. IsStep g (grammar.group f) (grammar.declarator_suffixes v) (λ a. a) c.args.tokens.now xs) (sym seen) (last (group_named_on g f c.args.tokens.now xs x c.next_token.ensures n is)) in
    declared_before g (grammar.group f) (grammar.declarator_suffixes (declared_seen dd tree)) (λ v. v) (λ v. v) c.args.depth c.args.tokens.now xs step (λ a. refl) (omega (arith, shorter)) c.read_declarator_suffixes-in-Some.result (c.read_declarator_suffixes-in-Some.ensures tree (sym (named_settled types f x n dd is c.named-head.ensures (first_place xs))) (λ e. refl))

pub declarators::read_group-returns-in_err-part : goal.declarators::read_group-returns-in_err-part
declarators::read_group-returns-in_err-part t c =
    let p = err_from_is_err_and c.from_residual-in_err-part.result c.from_residual-in_err-part.ensures.1 in
    let types = c.args.context.types.now in
    let g = there types c.args.context.scope in
    let f = form_seen c.args.form in
    let x = c.next_token.result.0 in
    let xs = c.next_token.result.1.now in
    let head = c.absent-head.result in
    let stands = sym (c.begins_array.ensures ∙ ap (λ s. begins_array f s) c.sort_at-sort.ensures) ∙ c.if-begins_array.true in
    let on = subst (λ v. IsOn g g (grammar.group f) (grammar.group f) (λ a. a) (array_plan g (grammar.group f) (λ d. d) v (terminal x)) c.args.tokens.now xs) (sym (absent_seen head f x.place c.absent-head.ensures)) (group_array_on g f c.args.tokens.now xs x c.next_token.ensures stands) in
    rw (p.1, p.2) (array_stop types c.args.context.scope (grammar.group f) (λ e. e) head make_absent x (absent_tree head f x.place c.absent-head.ensures) c.args.depth c.args.tokens.now xs on refl c.requires.room c.in_err-part.field-0.0 c.in_err-part.ensures)

pub declarators::read_group-returns-then-begins_array : goal.declarators::read_group-returns-then-begins_array
declarators::read_group-returns-then-begins_array t c =
    let types = c.args.context.types.now in
    let g = there types c.args.context.scope in
    let f = form_seen c.args.form in
    let x = c.next_token.result.0 in
    let xs = c.next_token.result.1.now in
    let head = c.absent-head.result in
    let part = c.in_ok-part.part in
    let a = c.in_ok-part.ensures in
    let stands = sym (c.begins_array.ensures ∙ ap (λ s. begins_array f s) c.sort_at-sort.ensures) ∙ c.if-begins_array.true in
    let on = subst (λ v. IsOn g g (grammar.group f) (grammar.group f) (λ w. w) (array_plan g (grammar.group f) (λ d. d) v (terminal x)) c.args.tokens.now xs) (sym (absent_seen head f x.place c.absent-head.ensures)) (group_array_on g f c.args.tokens.now xs x c.next_token.ensures stands) in
    let step = array_step types c.args.context.scope (grammar.group f) (λ e. e) head make_absent x (absent_tree head f x.place c.absent-head.ensures) c.args.depth c.args.tokens.now xs on part.tree part.depth part.rest.now a in
    let shorter : length c.args.tokens.now ≡ length (x ∷ xs) = ap length c.next_token.ensures in
    let less : length a.mid ≡ length (a.closes.first ∷ part.rest.now) = ap length a.closes.whole in
    declared_before g (grammar.group f) (grammar.declarator_suffixes (declared_seen part.tree (declarator_of part.tree.tree))) (λ v. v) (λ v. v) c.args.depth c.args.tokens.now part.rest.now step (λ v. refl) (omega (arith, a.read.fewer, shorter, less)) c.read_declarator_suffixes-then-begins_array.result (c.read_declarator_suffixes-then-begins_array.ensures (declarator_of part.tree.tree) (sym (array_settled g head part.tree c.args.depth part.depth xs part.rest.now a (first_place part.rest.now))) (λ e. refl))

pub declarators::read_group-returns : goal.declarators::read_group-returns
declarators::read_group-returns t c =
    let types = c.args.context.types.now in
    let f = form_seen c.args.form in
    let x = c.next_token.result.0 in
    let star = sym (c.is_mark.ensures ∙ ap (λ s. is_mark sorts_there.star s) c.sort_at-sort.ensures) ∙ c.if-is_mark.false in
    let opening = sym (c.is_mark-2.ensures ∙ ap (λ s. is_mark sorts_there.opening s) c.sort_at-sort.ensures) ∙ c.if-is_mark-2.false in
    let none = none_named f c.head_name.result (view types (sort_of x.kind)) (c.head_name.ensures ∙ ap (λ s. head_name f s) c.sort_at-sort.ensures) c.in_default.not-Some in
    let array = sym (c.begins_array.ensures ∙ ap (λ s. begins_array f s) c.sort_at-sort.ensures) ∙ c.if-begins_array.false in
    group_refused types c.args.context.scope f c.args.depth c.args.tokens.now c.next_token.result.1.now x c.next_token.ensures star opening none array c.requires.ended c.group_fault.result c.group_fault.ensures

pub declarators::read_declarator_suffixes-returns-then-part-depth : goal.declarators::read_declarator_suffixes-returns-then-part-depth
declarators::read_declarator_suffixes-returns-then-part-depth t c =
    let g = there c.args.context.types.now c.args.context.scope in
    let i = c.suffixes.invariant in
    let part = c.suffixes.part in
    let x = c.next_token.result.0 in
    let stands = sym (c.begins_part.ensures ∙ ap (λ s. begins_part s) c.sort_at.ensures) ∙ c.if-not-begins_part.false in
    λ pending settled named.
    let s = i.so_far pending settled named in
    (part_deep g (declared_seen c.args.head pending) (declared_seen part.tree s.pending) c.args.tokens.now part.rest.now c.next_token.result.1.now x s.step c.next_token.ensures c.args.depth part.depth stands (settled_deep (first_place part.rest.now) (declarator_of part.tree.tree) s.pending part.depth i.deep s.settled) c.if-part-depth.true, i.ended)

pub declarators::read_declarator_suffixes-returns-in_err-part : goal.declarators::read_declarator_suffixes-returns-in_err-part
declarators::read_declarator_suffixes-returns-in_err-part t c =
    let p = err_from_is_err_and c.from_residual.result c.from_residual.ensures.1 in
    let g = there c.args.context.types.now c.args.context.scope in
    let i = c.suffixes.invariant in
    let part = c.suffixes.part in
    let x = c.next_token.result.0 in
    λ pending settled named.
    let s = i.so_far pending settled named in
    let now = declared_seen part.tree s.pending in
    let here = s.settled ∙ ap (λ v. settle (first_place v) s.pending) c.next_token.ensures in
    rw (p.1, p.2) (stop_before g (grammar.declarator_suffixes (declared_seen c.args.head pending)) (grammar.declarator_suffixes now) (λ a. a) c.args.depth c.args.tokens.now part.rest.now s.step c.in_err-part.field-0.0 (subst (λ v. IsStop g (grammar.declarator_suffixes now) c.args.depth v c.in_err-part.field-0.0) (sym c.next_token.ensures) (c.in_err-part.ensures s.pending here)))

pub declarators::read_declarator_suffixes-suffixes-smaller : goal.declarators::read_declarator_suffixes-suffixes-smaller
declarators::read_declarator_suffixes-suffixes-smaller t c =
    let i = c.suffixes.invariant in
    let s = i.so_far c.requires.pending.pending c.requires.pending.settled c.requires.pending.named in
    let here = s.settled ∙ ap (λ v. settle (first_place v) s.pending) c.next_token.ensures in
    let w = c.in_ok-part.ensures s.pending here in
    let shorter : length c.suffixes.part.rest.now ≡ length (c.next_token.result.0 ∷ c.next_token.result.1.now) = ap length c.next_token.ensures in
    omega (arith, w.fewer, shorter)

pub declarators::read_declarator_suffixes-suffixes-preserved : goal.declarators::read_declarator_suffixes-suffixes-preserved
declarators::read_declarator_suffixes-suffixes-preserved t c =
    let g = there c.args.context.types.now c.args.context.scope in
    let i = c.suffixes.invariant in
    let first = i.so_far c.requires.pending.pending c.requires.pending.settled c.requires.pending.named in
    let w = c.in_ok-part.ensures first.pending (first.settled ∙ ap (λ v. settle (first_place v) first.pending) c.next_token.ensures) in
    let new = c.in_ok-part.part in
    let shorter : length c.suffixes.part.rest.now ≡ length (c.next_token.result.0 ∷ c.next_token.result.1.now) = ap length c.next_token.ensures in
    record {
      so_far = λ pending settled named.
          let s = i.so_far pending settled named in
          let v = c.in_ok-part.ensures s.pending (s.settled ∙ ap (λ u. settle (first_place u) s.pending) c.next_token.ensures) in
          record {
            pending = declarator_of new.tree.tree;
            settled = sym (v.settled (first_place new.rest.now));
            named = λ e. refl;
            step = joined (before_at (ap c_tokens c.next_token.ensures) s.step) v.step;
          };
      deep = w.deep;
      shallow = w.shallow;
      ended = w.ended;
      fewer = omega (arith, w.fewer, shorter, i.fewer);
      same_depth = refl;
      same_types = refl;
      same_scope = refl;
    }

pub declarators::read_declarator_suffixes-returns : goal.declarators::read_declarator_suffixes-returns
declarators::read_declarator_suffixes-returns t c =
    let g = there c.args.context.types.now c.args.context.scope in
    let i = c.suffixes.invariant in
    let part = c.suffixes.part in
    let x = c.next_token.result.0 in
    let other = sym (c.begins_part.ensures ∙ ap (λ s. begins_part s) c.sort_at.ensures) ∙ c.if-not-begins_part.true in
    λ pending settled named.
    let s = i.so_far pending settled named in
    let now = declared_seen part.tree s.pending in
    record {
      pending = s.pending;
      settled = s.settled;
      named = s.named;
      read = built g (grammar.declarator_suffixes (declared_seen c.args.head pending)) c.args.depth part.depth c.args.tokens.now part.rest.now now now (parts_read g (declared_seen c.args.head pending) now c.args.tokens.now part.rest.now c.next_token.result.1.now x s.step c.next_token.ensures other) refl (settled_deep (first_place part.rest.now) (declarator_of part.tree.tree) s.pending part.depth i.deep s.settled) i.shallow i.ended (omega (arith, i.fewer));
    }

pub declarators::read_group-read_declarator_suffixes-requires : goal.declarators::read_group-read_declarator_suffixes-requires
declarators::read_group-read_declarator_suffixes-requires t c =
    let h = c.in_ok-head.ensures in
    let deep = declared_deep (first_place c.in_ok-head.head.rest.now) (declarator_of c.in_ok-head.head.tree.tree) h.pending c.in_ok-head.head.depth h.settled h.read.deep in
    let shorter : length c.args.tokens.now ≡ length (c.next_token.result.0 ∷ c.next_token.result.1.now) = ap length c.next_token.ensures in
    (first_of (omega (arith, h.read.fewer, shorter), search rules, grind (arith, h.read.fewer)), (h.read.ended, (deep, (h.read.shallow, record { pending = h.pending; settled = h.settled; named = h.named }))))

pub declarators::read_group-read_declarator_suffixes-requires-in-Some : goal.declarators::read_group-read_declarator_suffixes-requires-in-Some
declarators::read_group-read_declarator_suffixes-requires-in-Some t c =
    let types = c.args.context.types.now in
    let f = form_seen c.args.form in
    let x = c.next_token.result.0 in
    let xs = c.next_token.result.1.now in
    let dd = c.named-head.result in
    let n = c.in-Some.name in
    let is = sym (c.head_name.ensures ∙ ap (λ s. head_name f s) c.sort_at-sort.ensures) ∙ c.in-Some.is in
    let shorter : length c.args.tokens.now ≡ length (x ∷ xs) = ap length c.next_token.ensures in
    (first_of (omega (arith, shorter), search rules, grind arith), (named_ended types f x n dd is c.named-head.ensures xs (subst IsEnded c.next_token.ensures c.requires.ended), (named_deep types f x n dd is c.named-head.ensures, (c.requires.room, pending_of dd (first_place xs) (named_settled types f x n dd is c.named-head.ensures)))))

pub declarators::read_group-read_declarator_suffixes-requires-then-begins_array : goal.declarators::read_group-read_declarator_suffixes-requires-then-begins_array
declarators::read_group-read_declarator_suffixes-requires-then-begins_array t c =
    let g = there c.args.context.types.now c.args.context.scope in
    let x = c.next_token.result.0 in
    let xs = c.next_token.result.1.now in
    let head = c.absent-head.result in
    let part = c.in_ok-part.part in
    let a = c.in_ok-part.ensures in
    let shorter : length c.args.tokens.now ≡ length (x ∷ xs) = ap length c.next_token.ensures in
    let less : length a.mid ≡ length (a.closes.first ∷ part.rest.now) = ap length a.closes.whole in
    (first_of (omega (arith, a.read.fewer, shorter, less), search rules), (a.closes.ended, (array_deep g head part.tree c.args.depth part.depth xs part.rest.now a, (a.shallow, pending_of part.tree (first_place part.rest.now) (array_settled g head part.tree c.args.depth part.depth xs part.rest.now a)))))

pub declarators::read_declarator-returns-then-begins_inner : goal.declarators::read_declarator-returns-then-begins_inner
declarators::read_declarator-returns-then-begins_inner t c =
    let g = there c.args.context.types.now c.args.context.scope in
    let f = form_seen c.args.form in
    let x = c.next_token.result.0 in
    let stands = sym (c.begins_inner.ensures ∙ ap (λ v. is_mark sorts_there.star v || is_mark sorts_there.opening v) c.sort_at-sort.ensures) ∙ c.if-begins_inner.true in
    (inner_deep g f c.args.tokens.now c.next_token.result.1.now x c.next_token.ensures c.args.depth (omega arith) stands, c.requires.ended)

pub declarators::read_declarator-returns-then-is_mark : goal.declarators::read_declarator-returns-then-is_mark
declarators::read_declarator-returns-then-is_mark t c =
    let g = there c.args.context.types.now c.args.context.scope in
    let f = form_seen c.args.form in
    let x = c.next_token.result.0 in
    let xs = c.next_token.result.1.now in
    let is = star_is (view g.types (sort_of x.kind)) (sym (c.is_mark.ensures ∙ ap (λ s. is_mark sorts_there.star s) c.sort_at-sort.ensures) ∙ c.if-is_mark.true) in
    let shorter : length c.args.tokens.now ≡ length (x ∷ xs) = ap length c.next_token.ensures in
    pointer_result g (grammar.declarator f) (λ d. d) f x c.args.depth c.args.tokens.now xs (star_on g c.args.tokens.now xs x c.next_token.ensures f (sym is)) c.requires.room (λ a. refl) refl (omega (arith, shorter)) c.read_pointer.result c.read_pointer.ensures

pub declarators::read_declarator-returns-in_err-head : goal.declarators::read_declarator-returns-in_err-head
declarators::read_declarator-returns-in_err-head t c =
    let p = err_from_is_err_and c.from_residual.result c.from_residual.ensures.1 in
    let g = there c.args.context.types.now c.args.context.scope in
    let f = form_seen c.args.form in
    let x = c.next_token.result.0 in
    let is = opening_is (view g.types (sort_of x.kind)) (sym (c.is_mark-2.ensures ∙ ap (λ s. is_mark sorts_there.opening s) c.sort_at-sort.ensures) ∙ c.if-is_mark-2.true) in
    rw (p.1, p.2) (open_stop g f c.args.tokens.now c.next_token.result.1.now x c.next_token.ensures c.args.depth (sym is) c.in_err-head.field-0.0 c.in_err-head.ensures)

pub declarators::read_declarator-returns-then-is_mark-2 : goal.declarators::read_declarator-returns-then-is_mark-2
declarators::read_declarator-returns-then-is_mark-2 t c =
    let g = there c.args.context.types.now c.args.context.scope in
    let f = form_seen c.args.form in
    let x = c.next_token.result.0 in
    let xs = c.next_token.result.1.now in
    let h = c.in_ok-head.ensures in
    let part = c.in_ok-head.head in
    let head = declared_seen part.tree h.pending in
    let is = opening_is (view g.types (sort_of x.kind)) (sym (c.is_mark-2.ensures ∙ ap (λ s. is_mark sorts_there.opening s) c.sort_at-sort.ensures) ∙ c.if-is_mark-2.true) in
    let shorter : length c.args.tokens.now ≡ length (x ∷ xs) = ap length c.next_token.ensures in
    declared_before g (grammar.declarator f) (grammar.declarator_suffixes head) (λ v. v) (λ v. v) c.args.depth c.args.tokens.now part.rest.now (open_suffixes g f c.args.tokens.now xs x c.next_token.ensures c.args.depth (sym is) head part.rest.now h.read.reads) (λ a. refl) (omega (arith, h.read.fewer, shorter)) c.read_declarator_suffixes.result (c.read_declarator_suffixes.ensures h.pending h.settled h.named)

pub declarators::read_declarator-returns-in_err-head-2 : goal.declarators::read_declarator-returns-in_err-head-2
declarators::read_declarator-returns-in_err-head-2 t c =
    let p = err_from_is_err_and c.from_residual-in_err-head-2.result c.from_residual-in_err-head-2.ensures.1 in
    let g = there c.args.context.types.now c.args.context.scope in
    let f = form_seen c.args.form in
    let x = c.next_token.result.0 in
    let other = sym (c.is_mark.ensures ∙ ap (λ s. is_mark sorts_there.star s) c.sort_at-sort.ensures) ∙ c.if-is_mark.false in
    rw (p.1, p.2) (stop_part g g g (grammar.declarator f) (grammar.declarator f) (grammar.direct f) (λ a. a) (λ d. get g (grammar.declarator_suffixes d) (λ v. done v)) c.args.depth c.args.depth c.args.tokens.now c.args.tokens.now (direct_on g c.args.tokens.now c.next_token.result.1.now x c.next_token.ensures f other) (omega arith) c.in_err-head-2.field-0.0 (c.in_err-head-2.ensures c.args.depth c.requires.room))

pub declarators::read_declarator-returns : goal.declarators::read_declarator-returns
declarators::read_declarator-returns t c =
    let g = there c.args.context.types.now c.args.context.scope in
    let f = form_seen c.args.form in
    let x = c.next_token.result.0 in
    let part = c.in_ok-head-2.head in
    let h = c.in_ok-head-2.ensures c.args.depth c.requires.room in
    let head = declared_seen part.tree h.pending in
    let other = sym (c.is_mark.ensures ∙ ap (λ s. is_mark sorts_there.star s) c.sort_at-sort.ensures) ∙ c.if-is_mark.false in
    let on = direct_on g c.args.tokens.now c.next_token.result.1.now x c.next_token.ensures f other in
    declared_before g (grammar.declarator f) (grammar.declarator_suffixes head) (λ v. v) (λ v. v) c.args.depth c.args.tokens.now part.rest.now (last (got on h.read.reads)) (λ a. refl) (omega (arith, h.read.fewer)) c.read_declarator_suffixes-2.result (c.read_declarator_suffixes-2.ensures h.pending h.settled h.named)

pub declarators::read_declarator-read_declarator_suffixes-requires : goal.declarators::read_declarator-read_declarator_suffixes-requires
declarators::read_declarator-read_declarator_suffixes-requires t c =
    let h = c.in_ok-head.ensures in
    let part = c.in_ok-head.head in
    let deep = declared_deep (first_place part.rest.now) (declarator_of part.tree.tree) h.pending part.depth h.settled h.read.deep in
    let shorter : length c.args.tokens.now ≡ length (c.next_token.result.0 ∷ c.next_token.result.1.now) = ap length c.next_token.ensures in
    (first_of (omega (arith, h.read.fewer, shorter), search rules, grind (arith, h.read.fewer)), (h.read.ended, (deep, (h.read.shallow, record { pending = h.pending; settled = h.settled; named = h.named }))))

pub declarators::read_declarator-read_declarator_suffixes-requires-2 : goal.declarators::read_declarator-read_declarator_suffixes-requires-2
declarators::read_declarator-read_declarator_suffixes-requires-2 t c =
    let h = c.in_ok-head-2.ensures c.args.depth c.requires.room in
    let part = c.in_ok-head-2.head in
    let deep = declared_deep (first_place part.rest.now) (declarator_of part.tree.tree) h.pending part.depth h.settled h.read.deep in
    (first_of (omega (arith, h.read.fewer), search rules, grind (arith, h.read.fewer)), (h.read.ended, (deep, (h.read.shallow, record { pending = h.pending; settled = h.settled; named = h.named }))))

pub declarators::read_declarator_after_paren-absent_function-requires : goal.declarators::read_declarator_after_paren-absent_function-requires
declarators::read_declarator_after_paren-absent_function-requires t c =
    let types = c.args.context.types.now in
    let f = form_seen c.args.form in
    record {
      ended = c.requires.ended;
      room = c.requires.room;
      begun = ap (λ v. not (is_concrete f) && is_parameters (first_sort types v)) c.next_token.ensures ∙ sym (c.begins_parameters.ensures ∙ ap (λ s. not (is_concrete f) && is_parameters s) c.sort_at.ensures) ∙ c.if-begins_parameters.true;
      read = c.read_parameters-parameters.ensures;
    }

pub declarators::read_declarator_after_paren-enclosed-requires : goal.declarators::read_declarator_after_paren-enclosed-requires
declarators::read_declarator_after_paren-enclosed-requires t c =
    let types = c.args.context.types.now in
    let f = form_seen c.args.form in
    record {
      ended = c.requires.ended;
      room = c.requires.room;
      begun = ap (λ v. not (is_concrete f) && is_parameters (first_sort types v)) c.next_token.ensures ∙ sym (c.begins_parameters.ensures ∙ ap (λ s. not (is_concrete f) && is_parameters s) c.sort_at.ensures) ∙ c.if-begins_parameters.false;
      read = c.read_group-inner.ensures;
    }

pub declarators::read_type_name-type_named-requires : goal.declarators::read_type_name-type_named-requires
declarators::read_type_name-type_named-requires t c =
    record {
      ended = c.requires.ended;
      specified = c.in_ok-specifiers.ensures;
      read = c.read_declarator-declared.ensures;
    }

pub declarators::read_pointer-pointing-requires : goal.declarators::read_pointer-pointing-requires
declarators::read_pointer-pointing-requires t c =
    record {
      room = c.requires.room;
      qualified = c.in_ok-qualifiers.ensures;
      read = c.read_declarator-inner.ensures;
    }
