-- What stands behind a rule that is accepted, put together from what stands behind its parts.
use Rattle.std.proofs.Common.{◌≡◌, Bool, true, false, if◌then◌else◌, Option, Some, None, refl, ap, sym, subst, true≢false}
use Rattle.sp_tree.specs.declared.fault.FaultKind.{FaultKind}
use Rattle.sp_tree.specs.declared.fault.Place.{Place}
use Rattle.sp_base_checked.specs.Answers.{Checked, accepted, refused, and_then, where_met, where_given}
use Rattle.std.specs.Prelude.{⊤}
use Rattle.sp_check_env.specs.Env.{Env}
use Rattle.sp_expr_check.specs.Specifiers.{stays}
use Rattle.sp_check_formed_laws.proofs.Envs.{IsFormedEnv, Goes, goes_nowhere, goes_on}

-- ---- answers

abbrev is_accepted : {A : Type 0} → Checked A → Bool
is_accepted (accepted x) = true
is_accepted (refused k p) = false

pub refused_not : {A : Type 0} (k : FaultKind) (p : Place) (x : A) → refused k p ≡ accepted x → ⊥
refused_not k p x e = true≢false (sym (ap is_accepted e))

abbrev answer_or : {A : Type 0} → A → Checked A → A
answer_or d (accepted x) = x
answer_or d (refused k p) = d

pub accepted_is : {A : Type 0} (x y : A) → accepted x ≡ accepted y → x ≡ y
accepted_is x y e = ap (answer_or x) e

pub record Gives {A : Type 0} (P : A → Type 0) (c : Checked A) : Type 0 where
  pub at : (x : A) → c ≡ accepted x → P x

pub gives : {A : Type 0} {P : A → Type 0} {x : A} → P x → Gives P (accepted x)
gives {P = P} {x = x} h = record { at = λ y e. subst P (accepted_is x y e) h }

pub gives_none : {A : Type 0} {P : A → Type 0} {k : FaultKind} {p : Place} → Gives P (refused k p)
gives_none {k = k} {p = p} = record { at = λ x e. absurd (refused_not k p x e) }

pub gives_then : {A B : Type 0} {Q : A → Type 0} {P : B → Type 0} {c : Checked A} {f : A → Checked B} → Gives Q c → ((x : A) → Q x → Gives P (f x)) → Gives P (and_then c f)
gives_then {c = accepted x} h g = g x (h.at x refl)
gives_then {c = refused k p} h g = gives_none

pub gives_met : {A : Type 0} {P : A → Type 0} {b : Bool} {c : Checked A} (k : FaultKind) (p : Place) → (b ≡ true → Gives P c) → Gives P (where_met b k p c)
gives_met {b = true} k p h = h refl
gives_met {b = false} k p h = gives_none

pub gives_given : {A B : Type 0} {P : B → Type 0} {o : Option A} {f : A → Checked B} (k : FaultKind) (p : Place) → ((x : A) → o ≡ Some x → Gives P (f x)) → Gives P (where_given o k p f)
gives_given {o = Some x} k p h = h x refl
gives_given {o = None} k p h = gives_none

pub gives_either : {A : Type 0} {P : A → Type 0} {b : Bool} {c d : Checked A} → (b ≡ true → Gives P c) → (b ≡ false → Gives P d) → Gives P (if b then c else d)
gives_either {b = true} h g = h refl
gives_either {b = false} h g = g refl

pub gives_more : {A : Type 0} {Q P : A → Type 0} {c : Checked A} → ((x : A) → Q x → P x) → Gives Q c → Gives P c
gives_more m h = record { at = λ x e. m x (h.at x e) }

-- ---- answers with an environment behind them

-- the environment is formed, and keeps what was there; besides this holds of the answer in it
pub record After {A : Type 0} (env : Env) (P : A → Env → Type 0) (c : Checked (A × Env)) : Type 0 where
  pub at : (x : A × Env) → c ≡ accepted x → Goes env x.1 × P x.0 x.1

-- of a rule that answers the environment alone
pub record Leads (env : Env) (c : Checked Env) : Type 0 where
  pub at : (later : Env) → c ≡ accepted later → Goes env later

abbrev pub Any : {A : Type 0} → A → Env → Type 0
Any x env = ⊤

module _ {A : Type 0} {env : Env} {P : A → Env → Type 0} where
  pub done : {x : A × Env} → Goes env x.1 → P x.0 x.1 → After env P (accepted x)
  done {x = x} g h = record { at = λ y e. subst (λ y. Goes env y.1 × P y.0 y.1) (accepted_is x y e) (g, h) }

  pub after_none : {k : FaultKind} {p : Place} → After env P (refused k p)
  after_none {k = k} {p = p} = record { at = λ x e. absurd (refused_not k p x e) }

  -- the parts start from environments of their own
  pub onto : {B : Type 0} {from : Env} {Q : B → Env → Type 0} {c : Checked (B × Env)} {f : B × Env → Checked (A × Env)}
      → After from Q c → ((x : B × Env) → Goes from x.1 → Q x.0 x.1 → After env P (f x)) → After env P (and_then c f)
  onto {c = accepted x} h g = g x (h.at x refl).0 (h.at x refl).1
  onto {c = refused k p} h g = after_none

  pub carried : {from : Env} {c : Checked (A × Env)} → Goes env from → After from P c → After env P c
  carried {from = from} g h = record { at = λ x e. (goes_on env from x.1 g (h.at x e).0, (h.at x e).1) }

  -- the next part starts behind this one
  pub next : {B : Type 0} {Q : B → Env → Type 0} {c : Checked (B × Env)} {f : B × Env → Checked (A × Env)}
      → After env Q c → ((x : B × Env) → Goes env x.1 → Q x.0 x.1 → After x.1 P (f x)) → After env P (and_then c f)
  next h g = onto h (λ x k q. carried k (g x k q))

  pub lead : {c : Checked Env} {f : Env → Checked (A × Env)} → Leads env c → ((later : Env) → Goes env later → After later P (f later)) → After env P (and_then c f)
  lead {c = accepted x} h g = carried (h.at x refl) (g x (h.at x refl))
  lead {c = refused k p} h g = after_none

  pub taken : {B : Type 0} {Q : B → Type 0} {c : Checked B} {f : B → Checked (A × Env)} → Gives Q c → ((x : B) → Q x → After env P (f x)) → After env P (and_then c f)
  taken {c = accepted x} h g = g x (h.at x refl)
  taken {c = refused k p} h g = after_none

  pub met : {b : Bool} {c : Checked (A × Env)} (k : FaultKind) (p : Place) → (b ≡ true → After env P c) → After env P (where_met b k p c)
  met {b = true} k p h = h refl
  met {b = false} k p h = after_none

  pub given : {B : Type 0} {o : Option B} {f : B → Checked (A × Env)} (k : FaultKind) (p : Place) → ((x : B) → o ≡ Some x → After env P (f x)) → After env P (where_given o k p f)
  given {o = Some x} k p h = h x refl
  given {o = None} k p h = after_none

  pub either : {b : Bool} {c d : Checked (A × Env)} → (b ≡ true → After env P c) → (b ≡ false → After env P d) → After env P (if b then c else d)
  either {b = true} h g = h refl
  either {b = false} h g = g refl

  -- a rule that leaves the environment
  pub staying : {c : Checked A} → IsFormedEnv env → Gives (λ x. P x env) c → After env P (stays env c)
  staying {c = accepted x} f h = done (goes_nowhere env f) (h.at x refl)
  staying {c = refused k p} f h = after_none

  pub after_more : {Q : A → Env → Type 0} {c : Checked (A × Env)} → ((x : A) (later : Env) → Q x later → P x later) → After env Q c → After env P c
  after_more m h = record { at = λ x e. ((h.at x e).0, m x.0 x.1 (h.at x e).1) }

pub anything : {A : Type 0} {c : Checked A} → Gives (λ x. ⊤) c
anything = record { at = λ x e. tt }

-- ---- answers that are environments

module _ {env : Env} where
  pub leads : {later : Env} → Goes env later → Leads env (accepted later)
  leads {later = later} g = record { at = λ y e. subst (λ y. Goes env y) (accepted_is later y e) g }

  pub leads_none : {k : FaultKind} {p : Place} → Leads env (refused k p)
  leads_none {k = k} {p = p} = record { at = λ x e. absurd (refused_not k p x e) }

  pub leads_carried : {from : Env} {c : Checked Env} → Goes env from → Leads from c → Leads env c
  leads_carried {from = from} g h = record { at = λ x e. goes_on env from x g (h.at x e) }

  pub leads_after : {B : Type 0} {Q : B → Env → Type 0} {c : Checked (B × Env)} {f : B × Env → Checked Env}
      → After env Q c → ((x : B × Env) → Goes env x.1 → Q x.0 x.1 → Leads x.1 (f x)) → Leads env (and_then c f)
  leads_after {c = accepted x} h g = leads_carried (h.at x refl).0 (g x (h.at x refl).0 (h.at x refl).1)
  leads_after {c = refused k p} h g = leads_none

  pub leads_then : {c : Checked Env} {f : Env → Checked Env} → Leads env c → ((later : Env) → Goes env later → Leads later (f later)) → Leads env (and_then c f)
  leads_then {c = accepted x} h g = leads_carried (h.at x refl) (g x (h.at x refl))
  leads_then {c = refused k p} h g = leads_none

  pub leads_taken : {B : Type 0} {Q : B → Type 0} {c : Checked B} {f : B → Checked Env} → Gives Q c → ((x : B) → Q x → Leads env (f x)) → Leads env (and_then c f)
  leads_taken {c = accepted x} h g = g x (h.at x refl)
  leads_taken {c = refused k p} h g = leads_none

  pub leads_met : {b : Bool} {c : Checked Env} (k : FaultKind) (p : Place) → (b ≡ true → Leads env c) → Leads env (where_met b k p c)
  leads_met {b = true} k p h = h refl
  leads_met {b = false} k p h = leads_none

  pub leads_given : {B : Type 0} {o : Option B} {f : B → Checked Env} (k : FaultKind) (p : Place) → ((x : B) → o ≡ Some x → Leads env (f x)) → Leads env (where_given o k p f)
  leads_given {o = Some x} k p h = h x refl
  leads_given {o = None} k p h = leads_none

  pub leads_either : {b : Bool} {c d : Checked Env} → (b ≡ true → Leads env c) → (b ≡ false → Leads env d) → Leads env (if b then c else d)
  leads_either {b = true} h g = h refl
  leads_either {b = false} h g = g refl
