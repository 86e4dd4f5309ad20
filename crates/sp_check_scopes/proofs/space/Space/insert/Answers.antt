use Rattle.std.proofs.Common.{rules, ◌≡◌, ◌++◌, OnOk, OnErr, nat_eq, sym, ap, subst, ◌∙◌}
use Rattle.std.proofs.lemmas.List.{with_items_is, places}
use Rattle.std.specs.Map.{lookup, set_value}
use Rattle.indexmap.specs.IndexMap.{insert_entry}
use Rattle.sp_check_scopes.specs.Views.{entries_of, later_of, replaced_or}
use Rattle.sp_check_scopes.proofs.Spaces.{insert-first, insert-behind, set-lacking}
use Rattle.sp_check_scopes.proofs.space.Space.insert.Goals as goal

-- the first take what the name stands for
pub returns-in-Ok-clause-ok : goal.returns-in-Ok-clause-ok
unfolding entries_of
returns-in-Ok-clause-ok g c =
    let later = later_of c.args.self.now.later in
    let seen = c.deref_mut.ensures.value in
    let there = sym (ap (λ xs. replaced_or (lookup (nat_eq c.args.name) xs) c.args.what) seen) ∙ (sym c.replace.ensures.back ∙ c.in-Ok.is) in
    ap (λ xs. xs ++ later) (with_items_is c.args.self.now.first c.replace.new.these (search (rules, places)) ∙ c.replace.ensures.these ∙ ap (λ xs. set_value (nat_eq c.args.name) xs c.args.what) seen)
    ∙ insert-first c.args.self.now.first.items later c.args.name c.args.what there

-- the first stay, and it goes behind them
pub returns-in-Err-clause-ok : goal.returns-in-Err-clause-ok
unfolding entries_of
returns-in-Err-clause-ok g c =
    let later = later_of c.args.self.now.later in
    let seen = c.deref_mut.ensures.value in
    let lacks = sym (ap (λ xs. replaced_or (lookup (nat_eq c.args.name) xs) c.args.what) seen) ∙ (sym c.replace.ensures.back ∙ c.in-Err.is) in
    let same = with_items_is c.args.self.now.first c.replace.new.these (search (rules, places)) ∙ c.replace.ensures.these ∙ (ap (λ xs. set_value (nat_eq c.args.name) xs c.args.what) seen ∙ set-lacking c.args.self.now.first.items c.args.name c.args.what c.in-Err.what lacks) in
    subst (λ es. OnOk c.insert_behind.result (entries_of c.insert_behind.new.self ≡ es))
    (ap (λ xs. xs ++ insert_entry nat_eq later c.args.name c.in-Err.what) same ∙ insert-behind c.args.self.now.first.items later c.args.name c.args.what c.in-Err.what lacks)
    c.insert_behind.ensures.ok

pub returns-in-Err-clause-err : goal.returns-in-Err-clause-err
unfolding entries_of
returns-in-Err-clause-err g c =
    let later = later_of c.args.self.now.later in
    let seen = c.deref_mut.ensures.value in
    let lacks = sym (ap (λ xs. replaced_or (lookup (nat_eq c.args.name) xs) c.args.what) seen) ∙ (sym c.replace.ensures.back ∙ c.in-Err.is) in
    let same = with_items_is c.args.self.now.first c.replace.new.these (search (rules, places)) ∙ c.replace.ensures.these ∙ (ap (λ xs. set_value (nat_eq c.args.name) xs c.args.what) seen ∙ set-lacking c.args.self.now.first.items c.args.name c.args.what c.in-Err.what lacks) in
    subst (λ es. OnErr c.insert_behind.result (entries_of c.insert_behind.new.self ≡ es)) (ap (λ xs. xs ++ later) same) c.insert_behind.ensures.err
