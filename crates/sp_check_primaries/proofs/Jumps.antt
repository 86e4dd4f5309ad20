-- Names of other lengths than those of the three functions that jump are none of them.
use Rattle.std.proofs.Common.{◌≡◌, ◌≢◌, ℕ, suc, Bool, true, false, ◌&&◌, ◌||◌, ◌==◌, List, [], ◌∷◌, length, refl, ap, sym, ◌∙◌, arith}
use Rattle.std.specs.Prelude.{codes, bytes_eq}
use Rattle.std.proofs.lemmas.Bool.{false_from_ne_true}
use Rattle.std.proofs.lemmas.Slice.Eq.{bytes_eq-Decides}
use Rattle.sp_check_binary_rules.specs.Rules.{is_jump}

or_none : (a : Bool) → (a || false || false) ≡ a
or_none true = refl
or_none false = refl

apart : (xs ys : List ℕ) → length xs ≢ length ys → bytes_eq xs ys ≡ false
apart xs ys h = false_from_ne_true (bytes_eq xs ys) (λ e. h (ap length ((bytes_eq-Decides xs ys).0 e)))

not_of : (name written : List ℕ) (n : ℕ) → length name ≡ n → n ≢ length written → bytes_eq name written ≡ false
not_of name written n is other = apart name written (λ e. other (sym is ∙ e))

pub jump_of_six : (name : List ℕ) → length name ≡ 6 → is_jump name ≡ bytes_eq name (codes "setjmp")
jump_of_six name h =
    rw (not_of name (codes "_setjmp") 6 h (λ e. absurd (omega (arith, e))))
    (rw (not_of name (codes "longjmp") 6 h (λ e. absurd (omega (arith, e))))
    (or_none (bytes_eq name (codes "setjmp"))))

pub jump_of_seven : (name : List ℕ) → length name ≡ 7 → is_jump name ≡ (bytes_eq name (codes "_setjmp") || bytes_eq name (codes "longjmp"))
jump_of_seven name h = rw (not_of name (codes "setjmp") 7 h (λ e. absurd (omega (arith, e)))) refl

pub no_jump : (name : List ℕ) → length name ≢ 6 → length name ≢ 7 → is_jump name ≡ false
no_jump name six seven =
    rw (apart name (codes "setjmp") six)
    (rw (apart name (codes "_setjmp") seven) (rw (apart name (codes "longjmp") seven) refl))

pub ruleset jumps = (jump_of_six, jump_of_seven, no_jump)
