-- Laws of the values of digits.
use Rattle.std.proofs.Common.{◌≡◌, ℕ, suc, ◌+◌, ◌*◌, ◌≤◌, ◌<◌, List, [], ◌∷◌, length, drop, get_or, drop-cons, sym, ap, ◌∙◌, arith}
use Rattle.std.proofs.Math.Nat.{mul-le-mul_left}
use Rattle.sp_lexer.specs.Numerals.{value_after, digit_value}

-- more digits make no value smaller
pub value_after-grows : (base value : ℕ) (digits : List ℕ) → 1 ≤ base → value ≤ value_after base value digits
value_after-grows base value [] h = omega arith
value_after-grows base value (d ∷ ds) h =
    let more : value * base + digit_value d ≤ value_after base (value * base + digit_value d) ds = value_after-grows base (value * base + digit_value d) ds h in
    let scaled : value * 1 ≤ value * base = mul-le-mul_left value h in
    omega (arith, more, scaled)

-- the value with one more digit is no greater than that of all
pub value_after-next : (base value i : ℕ) (digits : List ℕ) (total : ℕ) → 1 ≤ base → i < length digits → value_after base value (drop i digits) ≡ total → value * base + digit_value (get_or digits i 0) ≤ total
value_after-next base value i digits total h within e =
    let parts : drop i digits ≡ get_or digits i 0 ∷ drop (suc i) digits = drop-cons digits i 0 within in
    let all : value_after base (value * base + digit_value (get_or digits i 0)) (drop (suc i) digits) ≡ total = sym (ap (value_after base value) parts) ∙ e in
    omega (arith, value_after-grows base (value * base + digit_value (get_or digits i 0)) (drop (suc i) digits) h, all)
