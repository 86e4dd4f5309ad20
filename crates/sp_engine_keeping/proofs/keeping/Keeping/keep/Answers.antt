use Rattle.std.proofs.Common.{◌≡◌, ◌<◌, ◌≤◌, ◌^◌, length, refl, sym, ap, ◌∙◌, subst, arith}
use Rattle.std.specs.List.{All}
use Rattle.sp_bdd.specs.Ascending.{Ascends}
use Rattle.sp_bdd.specs.Listed.{listed}
use Rattle.sp_bdd.specs.Table.{diagram}
use Rattle.sp_engine_keeping.specs.Codes.{told_from, codes_from}
use Rattle.sp_engine_keeping.proofs.Coding.{all_ascend, told_again}
use Rattle.sp_engine_keeping.proofs.Telling.{small_rows, codes_fit}
use Rattle.sp_engine_keeping.proofs.keeping.Keeping.keep.Goals as goal

pub may_fit-requires-clause-ascending : goal.may_fit-requires-clause-ascending
may_fit-requires-clause-ascending c =
    let rows = c.args.rows in
    let small = small_rows c.args.locations rows c.if-locations-le-NUMBERS.true (omega (arith, c.len-nodes.ensures, c.if-nodes-le-NUMBERS.true)) c.requires.within in
    subst Ascends (sym (c.deref.ensures.value ∙ c.in_ok-codes.ensures)) (all_ascend 0 rows small c.requires.ascending)

pub may_fit-requires-clause-low : goal.may_fit-requires-clause-low
may_fit-requires-clause-low c =
    let rows = c.args.rows in
    let few : length rows ≤ 1048576 = omega (arith, c.len-nodes.ensures, c.if-nodes-le-NUMBERS.true) in
    let small = small_rows c.args.locations rows c.if-locations-le-NUMBERS.true few c.requires.within in
    subst (λ xs. All (λ x. x < 2 ^ 60) xs) (sym (c.deref.ensures.value ∙ c.in_ok-codes.ensures)) (codes_fit rows 60 refl few small)

pub set_of-requires-clause-ascending : goal.set_of-requires-clause-ascending
set_of-requires-clause-ascending c =
    let rows = c.args.rows in
    let small = small_rows c.args.locations rows c.if-locations-le-NUMBERS.true (omega (arith, c.len-nodes.ensures, c.if-nodes-le-NUMBERS.true)) c.requires.within in
    subst Ascends (sym (c.deref-then-branch.ensures.value ∙ c.in_ok-codes.ensures)) (all_ascend 0 rows small c.requires.ascending)

pub set_of-requires-clause-low : goal.set_of-requires-clause-low
set_of-requires-clause-low c =
    let rows = c.args.rows in
    let few : length rows ≤ 1048576 = omega (arith, c.len-nodes.ensures, c.if-nodes-le-NUMBERS.true) in
    let small = small_rows c.args.locations rows c.if-locations-le-NUMBERS.true few c.requires.within in
    subst (λ xs. All (λ x. x < 2 ^ c.new-manager.result.bits) xs) (sym (c.deref-then-branch.ensures.value ∙ c.in_ok-codes.ensures)) (codes_fit rows c.new-manager.result.bits c.new-manager.ensures.bits few small)

pub returns-in-Ok : goal.returns-in-Ok
returns-in-Ok c =
    let rows = c.args.rows in
    let few : length rows ≤ 1048576 = omega (arith, c.len-nodes.ensures, c.if-nodes-le-NUMBERS.true) in
    let small = small_rows c.args.locations rows c.if-locations-le-NUMBERS.true few c.requires.within in
    let d = diagram c.set_of.new.self c.in-Ok.set in
    let all : listed c.set_of.new.self.bits d 0 ≡ codes_from 0 rows =
    ap (λ b. listed b d 0) c.in-Ok.ensures.made.keeps.bits ∙ c.in-Ok.ensures.again ∙ c.deref-then-branch.ensures.value ∙ c.in_ok-codes.ensures in
    ap (λ n. told_from 0 n (listed c.set_of.new.self.bits d 0)) c.len-nodes.ensures ∙ ap (told_from 0 (length rows)) all ∙ told_again rows small
