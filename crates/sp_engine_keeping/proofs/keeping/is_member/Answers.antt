use Rattle.std.proofs.Common.{◌⊎◌, inl, inr, ℕ, ◌<◌, ◌≤◌, ◌^◌, ◌∙◌, sym, ap, arith}
use Rattle.sp_bdd.specs.Ascending.{has}
use Rattle.sp_bdd.specs.Listed.{listed}
use Rattle.sp_bdd.specs.Table.{diagram}
use Rattle.sp_engine_keeping.proofs.Finding.{told-code, told-never}
use Rattle.sp_engine_keeping.proofs.keeping.is_member.Goals as goal

past : (location to : ℕ) → (1048576 ≤ location) ⊎ ((location < 1048576) × (1048576 ≤ to)) → (1048576 ≤ location) ⊎ (1048576 ≤ to)
past location to (inl le) = inl le
past location to (inr both) = inr both.1

pub returns-then-location-ge-NUMBERS : goal.returns-then-location-ge-NUMBERS
returns-then-location-ge-NUMBERS c =
    let m = c.args.manager.now in
    let p : ℕ × ℕ = (c.args.location, c.args.to) in
    sym (told-never c.args.from p (listed m.bits (diagram m c.args.set) 0) (past c.args.location c.args.to c.then-location-ge-NUMBERS.either))

pub returns : goal.returns
returns c =
    let m = c.args.manager.now in
    let p : ℕ × ℕ = (c.args.location, c.args.to) in
    let all = listed m.bits (diagram m c.args.set) 0 in
    let small : c.code.result < 2 ^ m.bits =
    omega (arith, c.code.ensures, ap (λ b. 2 ^ b) c.requires.bits, c.requires.from, c.if-location-ge-NUMBERS.false, c.if-to-ge-NUMBERS.false) in
    c.member.ensures.listed small ∙ ap (λ row. has row all) c.code.ensures ∙ sym (told-code c.args.from p all c.if-location-ge-NUMBERS.false c.if-to-ge-NUMBERS.false)
