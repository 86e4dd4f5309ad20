-- What stands behind a rule that is accepted in a sound environment, put together from its parts.
use Rattle.std.proofs.Common.{◌≡◌, ℕ, Bool, true, false, if◌then◌else◌, Option, Some, None, refl, subst}
use Rattle.std.specs.Prelude.{⊤}
use Rattle.sp_tree.specs.declared.fault.FaultKind.{FaultKind}
use Rattle.sp_tree.specs.declared.fault.Place.{Place}
use Rattle.sp_base_checked.specs.Answers.{Checked, accepted, refused, and_then, where_met, where_given}
use Rattle.sp_check_env.specs.Env.{Env}
use Rattle.sp_expr_check.specs.Specifiers.{stays}
use Rattle.sp_check_formed_laws.proofs.After.{refused_not, accepted_is, Gives}
use Rattle.sp_check_expr_laws.proofs.Envs.{IsFit, Reaches, reaches_nowhere, reaches_on}

-- the environment is sound, and keeps what was there; besides this holds of the answer in it
pub record After (own : ℕ → Bool) {A : Type 0} (env : Env) (P : A → Env → Type 0)
    (c : Checked (A × Env)) : Type 0 where
  pub at : (x : A × Env) → c ≡ accepted x → Reaches own env x.1 × P x.0 x.1

-- of a rule that answers the environment alone
pub record Leads (own : ℕ → Bool) (env : Env) (c : Checked Env) : Type 0 where
  pub at : (later : Env) → c ≡ accepted later → Reaches own env later

abbrev pub Any : {A : Type 0} → A → Env → Type 0
Any x env = ⊤

module _ {own : ℕ → Bool} {A : Type 0} {env : Env} {P : A → Env → Type 0} where
  pub done : {x : A × Env} → Reaches own env x.1 → P x.0 x.1 → After own env P (accepted x)
  done {x = x} g h = record
      { at = λ y e. subst (λ y. Reaches own env y.1 × P y.0 y.1) (accepted_is x y e) (g, h) }

  pub after_none : {k : FaultKind} {p : Place} → After own env P (refused k p)
  after_none {k = k} {p = p} = record { at = λ x e. absurd (refused_not k p x e) }

  -- the parts start from environments of their own
  pub onto : {B : Type 0} {from : Env} {Q : B → Env → Type 0} {c : Checked (B × Env)}
      {f : B × Env → Checked (A × Env)}
      → After own from Q c
      → ((x : B × Env) → Reaches own from x.1 → Q x.0 x.1 → After own env P (f x))
      → After own env P (and_then c f)
  onto {c = accepted x} h g = g x (h.at x refl).0 (h.at x refl).1
  onto {c = refused k p} h g = after_none

  -- a part in which other objects are seen
  pub beside : {mine : ℕ → Bool} {B : Type 0} {from : Env} {Q : B → Env → Type 0}
      {c : Checked (B × Env)} {f : B × Env → Checked (A × Env)}
      → After mine from Q c
      → ((x : B × Env) → Reaches mine from x.1 → Q x.0 x.1 → After own env P (f x))
      → After own env P (and_then c f)
  beside {c = accepted x} h g = g x (h.at x refl).0 (h.at x refl).1
  beside {c = refused k p} h g = after_none

  pub carried : {from : Env} {c : Checked (A × Env)} → Reaches own env from → After own from P c
      → After own env P c
  carried {from = from} g h =
      record { at = λ x e. (reaches_on own env from x.1 g (h.at x e).0, (h.at x e).1) }

  -- the next part starts behind this one
  pub next : {B : Type 0} {Q : B → Env → Type 0} {c : Checked (B × Env)}
      {f : B × Env → Checked (A × Env)}
      → After own env Q c → ((x : B × Env) → Reaches own env x.1 → Q x.0 x.1
      → After own x.1 P (f x)) → After own env P (and_then c f)
  next h g = onto h (λ x k q. carried k (g x k q))

  pub lead : {c : Checked Env} {f : Env → Checked (A × Env)} → Leads own env c
      → ((later : Env) → Reaches own env later → After own later P (f later))
      → After own env P (and_then c f)
  lead {c = accepted x} h g = carried (h.at x refl) (g x (h.at x refl))
  lead {c = refused k p} h g = after_none

  pub taken : {B : Type 0} {Q : B → Type 0} {c : Checked B} {f : B → Checked (A × Env)} → Gives Q c
      → ((x : B) → Q x → After own env P (f x)) → After own env P (and_then c f)
  taken {c = accepted x} h g = g x (h.at x refl)
  taken {c = refused k p} h g = after_none

  pub met : {b : Bool} {c : Checked (A × Env)} (k : FaultKind) (p : Place)
      → (b ≡ true → After own env P c) → After own env P (where_met b k p c)
  met {b = true} k p h = h refl
  met {b = false} k p h = after_none

  pub given : {B : Type 0} {o : Option B} {f : B → Checked (A × Env)} (k : FaultKind) (p : Place)
      → ((x : B) → o ≡ Some x → After own env P (f x)) → After own env P (where_given o k p f)
  given {o = Some x} k p h = h x refl
  given {o = None} k p h = after_none

  pub either : {b : Bool} {c d : Checked (A × Env)} → (b ≡ true → After own env P c)
      → (b ≡ false → After own env P d) → After own env P (if b then c else d)
  either {b = true} h g = h refl
  either {b = false} h g = g refl

  -- a rule that leaves the environment
  pub staying : {c : Checked A} → IsFit own env → Gives (λ x. P x env) c
      → After own env P (stays env c)
  staying {c = accepted x} f h = done (reaches_nowhere own env f) (h.at x refl)
  staying {c = refused k p} f h = after_none

  pub after_more : {Q : A → Env → Type 0} {c : Checked (A × Env)}
      → ((x : A) (later : Env) → Q x later → P x later) → After own env Q c → After own env P c
  after_more m h = record { at = λ x e. ((h.at x e).0, m x.0 x.1 (h.at x e).1) }

-- ---- answers that are environments

module _ {own : ℕ → Bool} {env : Env} where
  pub leads : {later : Env} → Reaches own env later → Leads own env (accepted later)
  leads {later = later} g =
      record { at = λ y e. subst (λ y. Reaches own env y) (accepted_is later y e) g }

  pub leads_none : {k : FaultKind} {p : Place} → Leads own env (refused k p)
  leads_none {k = k} {p = p} = record { at = λ x e. absurd (refused_not k p x e) }

  pub leads_carried : {from : Env} {c : Checked Env} → Reaches own env from → Leads own from c
      → Leads own env c
  leads_carried {from = from} g h = record { at = λ x e. reaches_on own env from x g (h.at x e) }

  pub leads_after : {B : Type 0} {Q : B → Env → Type 0} {c : Checked (B × Env)}
      {f : B × Env → Checked Env}
      → After own env Q c → ((x : B × Env) → Reaches own env x.1 → Q x.0 x.1 → Leads own x.1 (f x))
      → Leads own env (and_then c f)
  leads_after {c = accepted x} h g =
      leads_carried (h.at x refl).0 (g x (h.at x refl).0 (h.at x refl).1)
  leads_after {c = refused k p} h g = leads_none

  pub leads_met : {b : Bool} {c : Checked Env} (k : FaultKind) (p : Place)
      → (b ≡ true → Leads own env c) → Leads own env (where_met b k p c)
  leads_met {b = true} k p h = h refl
  leads_met {b = false} k p h = leads_none

  pub leads_either : {b : Bool} {c d : Checked Env} → (b ≡ true → Leads own env c)
      → (b ≡ false → Leads own env d) → Leads own env (if b then c else d)
  leads_either {b = true} h g = h refl
  leads_either {b = false} h g = g refl
