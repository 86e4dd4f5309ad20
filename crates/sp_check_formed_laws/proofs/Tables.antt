-- A table of structs stays one where an incomplete struct is added, is begun, or takes its members.
use Rattle.std.proofs.Common.{◌≡◌, ℕ, ◌<◌, Bool, true, false, ◌==◌, List, [], ◌∷◌, ◌++◌, Option, Some, None, refl, ap, sym, ◌∙◌, eqb-true, arith}
use Rattle.std.proofs.lemmas.Int.{clamps}
use Rattle.std.specs.Prelude.{slice_get, slice_set}
use Rattle.sp_types.specs.Types.{CType, Struct}
use Rattle.sp_types.specs.Structs.{IsTable, IsWhole, level_above}
use Rattle.sp_types.specs.declared.extents.Extent.{Extent}
use Rattle.sp_check_formed_laws.proofs.Lists.{some_is, none_some, each_set, each_pushed, pushed_before, pushed_length, set_length, set_other}
use Rattle.sp_check_formed_laws.proofs.Stays.{Stays, whole_stays}

-- ---- a further struct

pub stays_pushed : (ss : List Struct) (s : Struct) → Stays ss (ss ++ s ∷ [])
stays_pushed ss s = record { longer = omega (arith, pushed_length ss s); complete = λ k t e at whole. pushed_before ss s t k at }

pub table_pushed : (ss : List Struct) (s : Struct) → IsTable ss → IsWhole (ss ++ s ∷ []) s s.members → IsTable (ss ++ s ∷ [])
table_pushed ss s table whole =
    each_pushed (λ t. IsWhole (ss ++ s ∷ []) t t.members) ss s (λ k t at. whole_stays ss (ss ++ s ∷ []) (stays_pushed ss s) t t.members (table k t at)) whole

-- ---- an incomplete struct that is changed

module _ (ss : List Struct) (k : ℕ) (b s : Struct) (there : slice_get ss k ≡ Some b) (incomplete : b.extent ≡ None) where
  pub stays_set : Stays ss (slice_set ss k s)
  stays_set = record {
    longer = omega (arith, set_length ss k s);
    complete = λ j t e at whole.
        set_other ss k s j t (λ same. none_some e (sym incomplete ∙ ap (λ z. z.extent) (some_is b t (sym there ∙ ap (slice_get ss) same ∙ at)) ∙ whole)) at;
  }

  pub table_set : IsTable ss → IsWhole ss s s.members → IsTable (slice_set ss k s)
  table_set table whole =
      each_set (λ t. IsWhole (slice_set ss k s) t t.members) ss k s
      (λ j t at. whole_stays ss (slice_set ss k s) stays_set t t.members (table j t at))
      (whole_stays ss (slice_set ss k s) stays_set s s.members whole)

-- ---- a complete struct isn't open

level_positive : (ss : List Struct) (ms : List (ℕ × CType)) → 0 < level_above ss ms
level_positive ss [] = omega arith
level_positive ss (m ∷ ms) = omega (arith, clamps)

pub not_zero : (n : ℕ) → 0 < n → (n == 0) ≡ false
not_zero n h = by (n == 0) refl
  where
    by : (b : Bool) → (n == 0) ≡ b → b ≡ false
    by true e = absurd (let z : n ≡ 0 = eqb-true n 0 e in omega (arith, z, h))
    by false e = refl

pub whole_level : (ss : List Struct) (s : Struct) (ms : Option (List (ℕ × CType))) (e : Extent) → s.extent ≡ Some e → IsWhole ss s ms → (s.level == 0) ≡ false
whole_level ss s None e h w = absurd (none_some e (sym w ∙ h))
whole_level ss s (Some ms) e h w =
    let up : 0 < level_above ss ms = level_positive ss ms in
    not_zero s.level (omega (arith, up, w.2))
