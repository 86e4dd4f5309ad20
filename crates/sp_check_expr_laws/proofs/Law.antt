-- The law.
use Rattle.std.proofs.Common.{ℕ, Bool}
use Rattle.sp_types.specs.Typed.{Typed}
use Rattle.sp_check_scopes.specs.Meanings.{Meaning}
use Rattle.sp_check_scopes.specs.Meanings as means
use Rattle.sp_check_env.specs.Env.{Env, unit_start}
use Rattle.sp_check_formed_laws.proofs.Lists.{none_some}
use Rattle.sp_check_formed_laws.proofs.Envs.{IsMeant}
use Rattle.sp_check_expr_laws.specs.Sound.{IsSoundMeaning, IsSoundEnv, scene_of}
use Rattle.sp_check_expr_laws.specs.Laws.{IsTypedBehind, ExpressionsAreTyped}
use Rattle.sp_check_expr_laws.proofs.Trees.{IsTree}
use Rattle.sp_check_expr_laws.proofs.Grows.{typed_stays}
use Rattle.sp_check_expr_laws.proofs.Envs.{IsFitting, IsFit, Reaches, grows_of}
use Rattle.sp_check_expr_laws.proofs.Expressions.{checked_typed, checked_value}

module _ (own : ℕ → Bool) (env : Env) where
  meant_of : (m : Meaning) → IsSoundMeaning own env m → IsMeant env.tables.structs m
  meant_of (means.object k) h = tt
  meant_of (means.function k) h = tt
  meant_of (means.constant z) h = tt
  meant_of (means.named t) h = h.0

  fitting_of : (m : Meaning) → IsSoundMeaning own env m
      → IsFitting own env.tables.structs env.tables.objects m
  fitting_of (means.object k) h = h
  fitting_of (means.function k) h = h
  fitting_of (means.constant z) h = h
  fitting_of (means.named t) h = (h.1, h.2)

  meaning_of : (m : Meaning) → IsMeant env.tables.structs m
      → IsFitting own env.tables.structs env.tables.objects m
      → IsSoundMeaning own env m
  meaning_of (means.object k) g h = h
  meaning_of (means.function k) g h = h
  meaning_of (means.constant z) g h = h
  meaning_of (means.named t) g h = (g, h.0, h.1)

  pub fit_of : IsSoundEnv own env → IsFit own env
  fit_of s = record {
    formed = record {
      table = s.table;
      objects = λ k o at. ((s.objects k o at).0, (s.objects k o at).1);
      functions = λ k f at.
          ((s.functions k f at).0, (s.functions k f at).2, (s.functions k f at).3);
      typings = s.typings;
      inner = λ k n at. meant_of n.1 (s.inner k n at);
      around = λ j x there k n at. meant_of n.1 (s.around j x there k n at);
    };
    structs = s.structs;
    objects = λ k o at. (s.objects k o at).2;
    functions = λ k f at. (s.functions k f at).1;
    inner = λ k n at. fitting_of n.1 (s.inner k n at);
    around = λ j x there k n at. fitting_of n.1 (s.around j x there k n at);
  }

  pub sound_of : IsFit own env → IsSoundEnv own env
  sound_of h = record {
    table = h.formed.table;
    structs = h.structs;
    objects = λ k o at. (
      (h.formed.objects k o at).0,
      (h.formed.objects k o at).1,
      h.objects k o at,
    );
    functions = λ k f at. (
      (h.formed.functions k f at).0,
      h.functions k f at,
      (h.formed.functions k f at).1,
      (h.formed.functions k f at).2,
    );
    typings = h.formed.typings;
    inner = λ k n at. meaning_of n.1 (h.formed.inner k n at) (h.inner k n at);
    around = λ j x there k n at. meaning_of n.1 (h.formed.around j x there k n at)
        (h.around j x there k n at);
  }

pub typed_behind : (own : ℕ → Bool) (env later : Env) (e : Typed) → IsFit own env
    → Reaches own env later → IsTree (scene_of own later) e → IsTypedBehind own env later e
typed_behind own env later e h g t = record {
  typed = t.typed;
  sound = t.sound;
  placed = t.placed;
  behind = sound_of own later g.fit;
  still = λ old was. typed_stays (scene_of own env) (scene_of own later)
      (grows_of own env later h g) old was;
}

pub expressions_typed : ExpressionsAreTyped
expressions_typed own names env e low s w = (
  λ x is.
      let a = (checked_typed names low own env e (fit_of own env s) w).at x is in
      typed_behind own env x.1 x.0 (fit_of own env s) a.0 a.1,
  λ x is.
      let a = (checked_value names low own env e (fit_of own env s) w).at x is in
      (typed_behind own env x.1 x.0 (fit_of own env s) a.0 a.1.tree, a.1.value),
)

-- before the first declaration the environment is sound
pub start_sound : (own : ℕ → Bool) → IsSoundEnv own unit_start
start_sound own = record {
  table = λ k s at. absurd (none_some s at);
  structs = λ k s at. absurd (none_some s at);
  objects = λ k o at. absurd (none_some o at);
  functions = λ k f at. absurd (none_some f at);
  typings = λ k t at. absurd (none_some t at);
  inner = λ k n at. absurd (none_some n at);
  around = λ k s at. absurd (none_some s at);
}
