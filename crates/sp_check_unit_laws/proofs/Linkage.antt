-- Names with linkage of a unit: two entries of one name are the same (C90 6.1.2.2).
use Rattle.std.proofs.Common.{◌≡◌, inl, inr, ℕ, Bool, true, false, Some, refl, ap, sym, subst, ◌∙◌}
use Rattle.std.specs.Prelude.{slice_get}
use Rattle.sp_types.specs.Programs.{Object, Function}
use Rattle.sp_types.specs.declared.program.Storage.TheVariants.{Formal}
use Rattle.sp_check_env.specs.declared.env.Entity.{Entity}
use Rattle.sp_check_env.specs.declared.env.Entity.TheVariants as entities
use Rattle.sp_check_env.specs.Env.{Env, linked}
use Rattle.sp_check_objects.specs.Objects.{has_linkage}
use Rattle.sp_check_formed_laws.proofs.Lists.{some_is}
use Rattle.sp_check_expr_laws.proofs.Named.{AreNamed}
use Rattle.sp_check_expr_laws.proofs.Envs.{IsHome, IsHomeStorage}

abbrev number_of : Entity → ℕ
number_of (entities.Object k) = k
number_of (entities.Function k) = k

module _ (env : Env) (named : AreNamed env) where
  pub objects_apart : (i k : ℕ) (o p : Object) → slice_get env.tables.objects i ≡ Some o
      → slice_get env.tables.objects k ≡ Some p → has_linkage o.linkage ≡ true
      → has_linkage p.linkage ≡ true → o.name ≡ p.name → i ≡ k
  objects_apart i k o p at there h g same =
      ap number_of (some_is (entities.Object i) (entities.Object k)
      (sym (named.0 i o at h) ∙ ap (λ n. linked env n) same ∙ named.0 k p there g))

  pub functions_apart : (i k : ℕ) (f g : Function) → slice_get env.tables.functions i ≡ Some f
      → slice_get env.tables.functions k ≡ Some g → f.name ≡ g.name → i ≡ k
  functions_apart i k f g at there same =
      ap number_of (some_is (entities.Function i) (entities.Function k)
      (sym (named.1 i f at) ∙ ap (λ n. linked env n) same ∙ named.1 k g there))

-- a formal has no linkage
formal_away : IsHomeStorage Formal → ⊥
formal_away (inl h) = absurd (cc)
formal_away (inr h) = absurd (cc)

pub formal_private : (o : Object) → IsHome o → o.storage ≡ Formal → has_linkage o.linkage ≡ false
formal_private o home formal = by (has_linkage o.linkage) refl
  where
    by : (b : Bool) → has_linkage o.linkage ≡ b → b ≡ false
    by false e = refl
    by true e =
        absurd (formal_away (subst (λ s. IsHomeStorage s) formal (home e)))
