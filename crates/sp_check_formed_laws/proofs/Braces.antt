-- Structs that specifiers name, and the braces that complete one (C90 6.5.2.1 to 6.5.2.3).
use Rattle.std.proofs.Common.{◌≡◌, ℕ, ◌+◌, ◌<◌, Bool, true, false, ◌==◌, length, List, [], ◌∷◌, ◌++◌, Option, Some, None, refl, ap, sym, subst, ◌∙◌, true≢false, arith}
use Rattle.std.specs.Prelude.{slice_get, slice_set}
use Rattle.sp_tree.specs.declared.fault.Place.{Place}
use Rattle.sp_types.specs.Types.{CType, structure, Struct}
use Rattle.sp_types.specs.Structs.{IsFormed, IsWhole}
use Rattle.sp_types.specs.declared.extents.Extent.{Extent}
use Rattle.sp_base_checked.specs.Answers.{accepted, and_then}
use Rattle.sp_check_scopes.specs.declared.meaning.Tag.{Tag}
use Rattle.sp_check_scopes.specs.declared.meaning.Tag.TheVariants as tags
use Rattle.sp_check_env.specs.Env.{Env, with_struct, set_struct, with_depth}
use Rattle.sp_check_type_names.specs.Tags.{tag_found, open_struct, tagged, is_union, struct_at, struct_referred, enum_at, enum_referred}
use Rattle.sp_check_members.specs.Members.{is_open_level, begun_struct, begun, depth_above, completed}
use Rattle.sp_expr_check.specs.Specifiers.{struct_opened}
use Rattle.sp_check_formed_laws.proofs.Lists.{some_is, none_some, Each, get_below, pushed_length, pushed_before, set_length, set_other, set_there}
use Rattle.sp_check_formed_laws.proofs.Tables.{table_pushed, table_set, whole_level}
use Rattle.sp_check_formed_laws.proofs.Members.{IsMade, struct_made}
use Rattle.sp_check_formed_laws.proofs.Envs.{IsFormedEnv, Goes, goes_nowhere, goes_on, formed_over}
use Rattle.sp_check_formed_laws.proofs.After.{Gives, gives, gives_none, gives_then, gives_met, After, done, after_none, next, taken, met, given}
use Rattle.sp_check_formed_laws.proofs.Updates.{goes_tagged}

-- a type that is formed behind the rule
abbrev pub IsType : CType → Env → Type 0
IsType t env = IsFormed env.tables.structs t

-- the struct of a number is there
abbrev IsThere : ℕ → Env → Type 0
IsThere k env = k < length env.tables.structs

goes_opened : (env : Env) (tag : Option ℕ) (union : Bool) → IsFormedEnv env → Goes env (with_struct env (open_struct tag union))
goes_opened env tag union h =
    let longer : length (env.tables.structs ++ open_struct tag union ∷ []) ≡ length env.tables.structs + 1 = pushed_length env.tables.structs (open_struct tag union) in record {
      formed =
          formed_over env (env.tables.structs ++ open_struct tag union ∷ []) (omega (arith, longer))
          (table_pushed env.tables.structs (open_struct tag union) h.table refl) h;
      keeps = record {
        longer = omega (arith, longer);
        closed = λ k s at l. pushed_before env.tables.structs (open_struct tag union) s k at;
        objects = omega arith;
      };
    }

pub found_union : (o : Option Struct) (was : Bool) → is_union o ≡ Some was → (s : Struct) × (o ≡ Some s)
found_union None was e = absurd (none_some was e)
found_union (Some s) was e = (s, refl)

struct_there : (env : Env) (union : Bool) (tag : Option ℕ) (p : Place) (o : Option Tag) → IsFormedEnv env → After env IsThere (struct_at env union tag p o)
struct_there env union None p None h =
    done (goes_opened env None union h) (omega (arith, pushed_length env.tables.structs (open_struct None union)))
struct_there env union (Some n) p None h =
    let g : Goes env (with_struct env (open_struct (Some n) union)) = goes_opened env (Some n) union h in
    done (goes_on env (with_struct env (open_struct (Some n) union)) (tagged (with_struct env (open_struct (Some n) union)) (Some n) (length env.tables.structs)) g
    (goes_tagged (with_struct env (open_struct (Some n) union)) g.formed n (tags.Struct (length env.tables.structs))))
    (omega (arith, pushed_length env.tables.structs (open_struct (Some n) union)))
struct_there env union tag p (Some (tags.Struct k)) h =
    given _ _ (λ was e. met _ _ (λ same.
    let s : (s : Struct) × (slice_get env.tables.structs k ≡ Some s) = found_union (slice_get env.tables.structs k) was e in
    done (goes_nowhere env h) (get_below env.tables.structs k s.0 s.1)))
struct_there env union tag p (Some tags.Enum) h = after_none

pub struct_named : (env : Env) (alone union : Bool) (tag : Option ℕ) (p : Place) → IsFormedEnv env → After env IsType (struct_referred env alone union tag p)
struct_named env alone union tag p h =
    next (struct_there env union tag p (tag_found env alone tag) h) (λ x g there. done (goes_nowhere x.1 g.formed) there)

pub enum_named : (env : Env) (tag : Option ℕ) (p : Place) → Gives (λ t. IsType t env) (enum_referred env tag p)
enum_named env tag p = by (tag_found env false tag)
  where
    by : (o : Option Tag) → Gives (λ t. IsType t env) (enum_at p o)
    by None = gives_none
    by (Some tags.Enum) = gives tt
    by (Some (tags.Struct k)) = gives_none

-- ---- the struct whose members are about to be read

pub found_open : (o : Option Struct) → is_open_level o ≡ true → (s : Struct) × (o ≡ Some s) × ((s.level == 0) ≡ true)
found_open None e = absurd (true≢false (sym e))
found_open (Some s) e = (s, refl, e)

pub open_incomplete : (env : Env) (k : ℕ) (s : Struct) → IsFormedEnv env → slice_get env.tables.structs k ≡ Some s → (s.level == 0) ≡ true → s.extent ≡ None
open_incomplete env k s h at low = by s.extent refl
  where
    by : (o : Option Extent) → s.extent ≡ o → s.extent ≡ None
    by None e = e
    by (Some x) e = absurd (true≢false (sym low ∙ whole_level env.tables.structs s s.members x e (h.table k s at)))

-- it is open before, and begun behind the rule
pub record IsBegun (env : Env) (tag : Option ℕ) (union : Bool) (k : ℕ) (later : Env) : Type 0 where
  pub before : (s : Struct) → slice_get env.tables.structs k ≡ Some s → (s.level == 0) ≡ false → ⊥
  pub behind : slice_get later.tables.structs k ≡ Some (begun_struct tag union)

goes_begun : (env : Env) (k : ℕ) (tag : Option ℕ) (union : Bool) (s : Struct) → IsFormedEnv env → slice_get env.tables.structs k ≡ Some s → (s.level == 0) ≡ true → Goes env (begun env k tag union)
goes_begun env k tag union s h at low =
    let same : length (slice_set env.tables.structs k (begun_struct tag union)) ≡ length env.tables.structs = set_length env.tables.structs k (begun_struct tag union) in record {
      formed =
          formed_over env (slice_set env.tables.structs k (begun_struct tag union)) (omega (arith, same))
          (table_set env.tables.structs k s (begun_struct tag union) at (open_incomplete env k s h at low) h.table refl) h;
      keeps = record {
        longer = omega (arith, same);
        closed = λ j t there l.
            set_other env.tables.structs k (begun_struct tag union) j t
            (λ e. true≢false (sym low ∙ ap (λ z. z.level == 0) (some_is s t (sym at ∙ ap (slice_get env.tables.structs) e ∙ there)) ∙ l)) there;
        objects = omega arith;
      };
    }

pub struct_begun : (env : Env) (union : Bool) (tag : Option ℕ) (p : Place) → IsFormedEnv env → After env (IsBegun env tag union) (struct_opened env union tag p)
struct_begun env union tag p h =
    next (struct_there env union tag p (tag_found env true tag) h) (λ x g there. met _ _ (λ free. by x g (found_open (slice_get x.1.tables.structs x.0) free)))
  where
    by : (x : ℕ × Env) → Goes env x.1 → (s : Struct) × (slice_get x.1.tables.structs x.0 ≡ Some s) × ((s.level == 0) ≡ true)
        → After x.1 (IsBegun env tag union) (accepted (x.0, begun x.1 x.0 tag union))
    by x g s =
        done (goes_begun x.1 x.0 tag union s.0 g.formed s.1 s.2) (record {
          before = λ t at l.
              true≢false (sym s.2 ∙ ap (λ z. z.level == 0) (some_is s.0 t (sym s.1 ∙ g.keeps.closed x.0 t at l)) ∙ l);
          behind = set_there x.1.tables.structs x.0 (begun_struct tag union) (get_below x.1.tables.structs x.0 s.0 s.1);
        })

-- ---- the struct with its members

module _ (env first later : Env) (k : ℕ) (tag : Option ℕ) (union : Bool) (begun-is : IsBegun env tag union k first) (to-first : Goes env first) (to-later : Goes first later) where
  still : slice_get later.tables.structs k ≡ Some (begun_struct tag union)
  still = to-later.keeps.closed k (begun_struct tag union) begun-is.behind refl

  goes_completed : (s : Struct) → IsWhole later.tables.structs s s.members → Goes env (set_struct later k s)
  goes_completed s whole =
      let same : length (slice_set later.tables.structs k s) ≡ length later.tables.structs = set_length later.tables.structs k s in record {
        formed =
            formed_over later (slice_set later.tables.structs k s) (omega (arith, same))
            (table_set later.tables.structs k (begun_struct tag union) s still refl to-later.formed.table whole) to-later.formed;
        keeps = record {
          longer = omega (arith, same, to-first.keeps.longer, to-later.keeps.longer);
          closed = λ j t at l.
              set_other later.tables.structs k s j t (λ e. begun-is.before t (ap (slice_get env.tables.structs) e ∙ at) l)
              (to-later.keeps.closed j t (to-first.keeps.closed j t at l) l);
          objects = omega (arith, to-first.keeps.objects, to-later.keeps.objects);
        };
      }

  pub struct_done : (p : Place) (ms : List (ℕ × CType)) → Each (λ m. IsFormed later.tables.structs m.1) ms
      → After env IsType (and_then (completed later k union p ms) (λ e. accepted (structure k, e)))
  struct_done p ms formed = taken ready (λ e x. done x.0 x.1)
    where
      made : (s : Struct) → IsMade later.tables.structs ms s → Goes env (with_depth (set_struct later k s) k (depth_above later.depths ms)) × IsThere k (with_depth (set_struct later k s) k (depth_above later.depths ms))
      made s m =
          let g : Goes env (set_struct later k s) = goes_completed s (subst (λ o. IsWhole later.tables.structs s o) (sym m.members) m.whole) in
          let low : k < length later.tables.structs = get_below later.tables.structs k (begun_struct tag union) still in (
            record {
              formed = record { table = g.formed.table; objects = g.formed.objects; functions = g.formed.functions; typings = g.formed.typings; inner = g.formed.inner; around = g.formed.around };
              keeps = g.keeps;
            },
            omega (arith, low, set_length later.tables.structs k s),
          )

      ready : Gives (λ e. Goes env e × IsThere k e) (completed later k union p ms)
      ready = gives_then (struct_made later.tables.structs k union p ms (begun_struct tag union) still refl formed) (λ s m. gives_met _ _ (λ few. gives (made s m)))
