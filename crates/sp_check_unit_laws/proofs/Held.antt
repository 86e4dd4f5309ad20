-- Environments in which declarations of objects are sound: besides, what has linkage lasts.
use Rattle.std.proofs.Common.{ℕ, Bool}
use Rattle.sp_check_env.specs.Env.{Env, entered}
use Rattle.sp_check_formed_laws.proofs.Lists.{Each}
use Rattle.sp_check_expr_laws.proofs.Envs.{IsFit, IsHome, Reaches}
use Rattle.sp_check_expr_laws.proofs.Updates.{fit_entered}

pub record IsHeld (own : ℕ → Bool) (env : Env) : Type 0 where
  pub fit : IsFit own env
  pub homes : Each IsHome env.tables.objects

pub held_on : {own : ℕ → Bool} {env later : Env} → IsHeld own env → Reaches own env later
    → IsHeld own later
held_on h g = record { fit = g.fit; homes = g.moves.homes h.homes }

pub held_entered : (own : ℕ → Bool) (env : Env) → IsHeld own env → IsHeld own (entered env)
held_entered own env h = record { fit = fit_entered own env h.fit; homes = h.homes }
