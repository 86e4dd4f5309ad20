-- What stands behind a rule that is accepted, where its answer fits: put together from its parts.
use Rattle.std.proofs.Common.{◌≡◌, ℕ, Bool, true, false, if◌then◌else◌, Option, Some, None, refl, subst}
use Rattle.sp_tree.specs.declared.fault.FaultKind.{FaultKind}
use Rattle.sp_tree.specs.declared.fault.Place.{Place}
use Rattle.sp_base_checked.specs.Answers.{Checked, accepted, refused, and_then, where_met, where_given}
use Rattle.sp_check_env.specs.Env.{Env}
use Rattle.sp_expr_check.specs.Specifiers.{stays}
use Rattle.sp_check_formed_laws.proofs.After.{refused_not, accepted_is, Gives, gives, gives_none}
use Rattle.sp_check_expr_laws.proofs.Envs.{IsFit, Reaches, reaches_nowhere, reaches_on}
use Rattle.sp_check_expr_laws.proofs.After.{After, Leads}

-- where the answer fits, the environment is sound and keeps what was there, and this holds
pub record Shows (own : ℕ → Bool) {A : Type 0} (env : Env) (L : A → Type 0)
    (P : A → Env → Type 0) (c : Checked (A × Env)) : Type 0 where
  pub at : (x : A × Env) → c ≡ accepted x → L x.0 → Reaches own env x.1 × P x.0 x.1

module _ {own : ℕ → Bool} {A : Type 0} {env : Env} {L : A → Type 0} {P : A → Env → Type 0} where
  pub shown : {x : A × Env} → (L x.0 → Reaches own env x.1 × P x.0 x.1)
      → Shows own env L P (accepted x)
  shown {x = x} h = record
      { at = λ y e. subst (λ y. L y.0 → Reaches own env y.1 × P y.0 y.1) (accepted_is x y e) h }

  pub shows_none : {k : FaultKind} {p : Place} → Shows own env L P (refused k p)
  shows_none {k = k} {p = p} = record { at = λ x e. absurd (refused_not k p x e) }

  pub shows_carried : {from : Env} {c : Checked (A × Env)} → Reaches own env from
      → Shows own from L P c → Shows own env L P c
  shows_carried {from = from} g h =
      record { at = λ x e l. (reaches_on own env from x.1 g (h.at x e l).0, (h.at x e l).1) }

  -- the answer of the first part fits where the whole does; it may see other objects
  pub parted : {B : Type 0} {seen : ℕ → Bool} {from : Env} {M : B → Type 0} {Q : B → Env → Type 0}
      {c : Checked (B × Env)} {f : B × Env → Checked (A × Env)} → Shows seen from M Q c
      → ((x : B × Env) → Gives (λ y. L y.0 → M x.0) (f x))
      → ((x : B × Env) → Reaches seen from x.1 → Q x.0 x.1 → Shows own env L P (f x))
      → Shows own env L P (and_then c f)
  parted {c = accepted x} h b g = record {
    at = λ y e l.
        let m = h.at x refl ((b x).at y e l) in
        (g x m.0 m.1).at y e l;
  }
  parted {c = refused k p} h b g = shows_none

  pub hence : {B : Type 0} {M : B → Type 0} {Q : B → Env → Type 0}
      {c : Checked (B × Env)} {f : B × Env → Checked (A × Env)} → Shows own env M Q c
      → ((x : B × Env) → Gives (λ y. L y.0 → M x.0) (f x))
      → ((x : B × Env) → Reaches own env x.1 → Q x.0 x.1 → Shows own x.1 L P (f x))
      → Shows own env L P (and_then c f)
  hence h b g = parted h b (λ x k q. shows_carried k (g x k q))

  -- a part that fits in any case
  pub behind : {B : Type 0} {Q : B → Env → Type 0} {c : Checked (B × Env)}
      {f : B × Env → Checked (A × Env)} → After own env Q c
      → ((x : B × Env) → Reaches own env x.1 → Q x.0 x.1 → Shows own x.1 L P (f x))
      → Shows own env L P (and_then c f)
  behind {c = accepted x} h g = shows_carried (h.at x refl).0 (g x (h.at x refl).0 (h.at x refl).1)
  behind {c = refused k p} h g = shows_none

  pub shows_lead : {c : Checked Env} {f : Env → Checked (A × Env)} → Leads own env c
      → ((later : Env) → Reaches own env later → Shows own later L P (f later))
      → Shows own env L P (and_then c f)
  shows_lead {c = accepted x} h g = shows_carried (h.at x refl) (g x (h.at x refl))
  shows_lead {c = refused k p} h g = shows_none

  pub shows_taken : {B : Type 0} {Q : B → Type 0} {c : Checked B} {f : B → Checked (A × Env)}
      → Gives Q c → ((x : B) → Q x → Shows own env L P (f x)) → Shows own env L P (and_then c f)
  shows_taken {c = accepted x} h g = g x (h.at x refl)
  shows_taken {c = refused k p} h g = shows_none

  pub shows_met : {b : Bool} {c : Checked (A × Env)} (k : FaultKind) (p : Place)
      → (b ≡ true → Shows own env L P c) → Shows own env L P (where_met b k p c)
  shows_met {b = true} k p h = h refl
  shows_met {b = false} k p h = shows_none

  pub shows_given : {B : Type 0} {o : Option B} {f : B → Checked (A × Env)} (k : FaultKind)
      (p : Place) → ((x : B) → o ≡ Some x → Shows own env L P (f x))
      → Shows own env L P (where_given o k p f)
  shows_given {o = Some x} k p h = h x refl
  shows_given {o = None} k p h = shows_none

  pub shows_either : {b : Bool} {c d : Checked (A × Env)} → (b ≡ true → Shows own env L P c)
      → (b ≡ false → Shows own env L P d) → Shows own env L P (if b then c else d)
  shows_either {b = true} h g = h refl
  shows_either {b = false} h g = g refl

  -- a part that starts from an environment of its own
  pub ahead : {B : Type 0} {from : Env} {Q : B → Env → Type 0} {c : Checked (B × Env)}
      {f : B × Env → Checked (A × Env)} → After own from Q c
      → ((x : B × Env) → Reaches own from x.1 → Q x.0 x.1 → Shows own env L P (f x))
      → Shows own env L P (and_then c f)
  ahead {c = accepted x} h g = g x (h.at x refl).0 (h.at x refl).1
  ahead {c = refused k p} h g = shows_none

  -- what is known of an answer that fits may be asked before
  pub asked : {X : Type 0} {c : Checked (A × Env)} → (X → Shows own env L P c)
      → Gives (λ y. L y.0 → X) c → Shows own env L P c
  asked h b = record { at = λ y e l. (h (b.at y e l)).at y e l }

  -- a rule that leaves the environment
  pub shows_staying : {c : Checked A} → IsFit own env → Gives (λ x. L x → P x env) c
      → Shows own env L P (stays env c)
  shows_staying {c = accepted x} f h = shown (λ l. (reaches_nowhere own env f, h.at x refl l))
  shows_staying {c = refused k p} f h = shows_none

-- an answer behind such parts
module _ {own : ℕ → Bool} {env : Env} {A B : Type 0} {P : B → Type 0} {Q : A → Env → Type 0}
    {c : Checked (A × Env)} {f : A × Env → Checked B} where
  pub gives_shown : {L : A → Type 0} → Shows own env L Q c
      → ((x : A × Env) → (L x.0 → Reaches own env x.1 × Q x.0 x.1) → Gives P (f x))
      → Gives P (and_then c f)
  gives_shown {L = L} h g = by c h
    where
      by : (c : Checked (A × Env)) → Shows own env L Q c → Gives P (and_then c f)
      by (accepted x) h = g x (h.at x refl)
      by (refused k p) h = gives_none

-- what a rule that leaves the environment gives
pub gives_staying : {A : Type 0} (env : Env) {Q : A → Type 0} {c : Checked A} → Gives Q c
    → Gives (λ y. Q y.0) (stays env c)
gives_staying env {c = accepted x} h = gives {x = (x, env)} (h.at x refl)
gives_staying env {c = refused k p} h = gives_none
