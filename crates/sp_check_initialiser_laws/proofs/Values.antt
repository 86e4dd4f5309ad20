-- What a value converts to, and what a rule gives behind another.
use Rattle.std.proofs.Common.{◌≡◌, ℕ, Bool, true, refl, sym, subst, true≢false, eqb-true, List}
use Rattle.sp_types.specs.Types.{CType, integer, pointer, structure, Struct}
use Rattle.sp_types.specs.Compatible.{convertible}
use Rattle.sp_base_checked.specs.Answers.{Checked, accepted, refused, and_then}
use Rattle.sp_check_env.specs.Env.{Env}
use Rattle.sp_check_typing.specs.Sorts.{same_value, IsStored, IsKnown}
use Rattle.sp_check_formed_laws.proofs.After.{Gives, gives_none}
use Rattle.sp_check_expr_laws.proofs.Types.{number_equals}
use Rattle.sp_check_expr_laws.proofs.Envs.{Reaches}
use Rattle.sp_check_expr_laws.proofs.After.{After}

-- what a value converts to can be kept, and the value of the same type goes there
pub kept_type : (ss : List Struct) (t u : CType) → convertible t u ≡ true → IsKnown ss t
    → IsStored ss u × (same_value u u ≡ true)
kept_type ss (integer j) (integer k) h w = (tt, refl)
kept_type ss (integer j) (pointer u) h w = (tt, refl)
kept_type ss (pointer t) (integer k) h w = (tt, refl)
kept_type ss (pointer t) (pointer u) h w = (tt, refl)
kept_type ss (structure j) (structure k) h w =
    (subst (λ n. IsKnown ss (structure n)) (eqb-true j k h) w, number_equals k)
kept_type ss t u h w = absurd (true≢false (sym h))

-- an answer behind such a part
module _ {own : ℕ → Bool} {env : Env} {A B : Type 0} {P : B → Type 0} {Q : A → Env → Type 0}
    {c : Checked (A × Env)} {f : A × Env → Checked B} where
  pub gives_after : After own env Q c
      → ((x : A × Env) → Reaches own env x.1 → Q x.0 x.1 → Gives P (f x))
      → Gives P (and_then c f)
  gives_after h g = by c h
    where
      by : (c : Checked (A × Env)) → After own env Q c → Gives P (and_then c f)
      by (accepted x) h = g x (h.at x refl).0 (h.at x refl).1
      by (refused k p) h = gives_none

-- two facts of one answer
pub gives_both : {A : Type 0} {P Q : A → Type 0} {c : Checked A} → Gives P c → Gives Q c
    → Gives (λ a. P a × Q a) c
gives_both h g = record { at = λ a e. (h.at a e, g.at a e) }
