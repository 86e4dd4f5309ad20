use Rattle.std.proofs.Common.{◌≡◌, true, false, [], ◌∷◌, ◌++◌, map, refl, sym, ap, ◌∙◌, subst, cond}
use Rattle.sp_tree.specs.Names.{has_name, AreDistinct, Extends}
use Rattle.sp_tree.proofs.Numbering.{has_name-keys, AreDistinct-push, found, added, stored, Extends-push}
use Rattle.sp_tree.proofs.names.Names.add.Goals as goal

pub returns-in-Some-clause-ok : goal.returns-in-Some-clause-ok
returns-in-Some-clause-ok c =
    let held : has_name c.args.self.now c.args.bytes.now ≡ true = has_name-keys (λ name. name.items) _ _ _ c.self.view_is ∙ sym c.in-Some.ensures.found in
    rw held refl

pub returns-in-Some-clause-stored : goal.returns-in-Some-clause-stored
returns-in-Some-clause-stored c = found (λ name. name.items) _ _ _ c.self.view_is _ (sym c.in-Some.ensures.index) c.in-Some.ensures.within

-- the bytes weren't held, and go last
new_name : (c : goal.In_ok-number) → has_name c.args.self.now c.args.bytes.now ≡ false
new_name c = has_name-keys (λ name. name.items) _ _ _ c.self.view_is ∙ sym c.in_default.ensures.found

names_after : (c : goal.In_ok-number) → map (λ name. name.items) c.insert_full.new.self.keys ≡ c.args.self.now ++ c.args.bytes.now ∷ []
names_after c = added (λ name. name.items) _ _ _ c.self.view_is _ _ c.in_ok-name.ensures.items (new_name c) c.in_ok-number.ensures.keys

all_distinct : (c : goal.In_ok-number) → AreDistinct (map (λ name. name.items) c.insert_full.new.self.keys)
all_distinct c = subst AreDistinct (sym (names_after c)) (AreDistinct-push _ _ (new_name c) (subst AreDistinct c.self.view_is c.self.invariant))

pub invariant_of-self-2 : goal.invariant_of-self-2
invariant_of-self-2 c = all_distinct c

pub returns-clause-ok : goal.returns-clause-ok
returns-clause-ok c = names_after c ∙ sym (ap (λ b. cond b c.args.self.now (c.args.self.now ++ c.args.bytes.now ∷ [])) (new_name c))

pub returns-clause-stored : goal.returns-clause-stored
returns-clause-stored c =
    let k = c.in_ok-number.ensures.stored in
    stored (λ name. name.items) c.args.bytes.now c.self.inside.set.keys c.args.self.now c.self.view_is c.insert_full.new.self.keys c.in_ok-number.number c.in_ok-name.name k.0 c.in_ok-name.ensures.items k.1 k.2

pub returns-clause-kept : goal.returns-clause-kept
returns-clause-kept c = subst (Extends c.args.self.now) (sym (names_after c)) (Extends-push c.args.self.now c.args.bytes.now)

pub returns-clause-distinct : goal.returns-clause-distinct
returns-clause-distinct c = all_distinct c
