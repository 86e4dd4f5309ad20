-- Structs that specifiers name, and the braces that complete one (C90 6.5.2.1 to 6.5.2.3).
use Rattle.std.proofs.Common.{◌≡◌, inl, ℕ, ◌+◌, ◌<◌, Bool, true, false, ◌==◌, nat_le, length, List, [], ◌∷◌, ◌++◌, Option, Some, None, refl, ap, sym, subst, ◌∙◌, true≢false, arith}
use Rattle.std.specs.Prelude.{slice_get, slice_set}
use Rattle.sp_tree.specs.declared.fault.Place.{Place}
use Rattle.sp_types.specs.Types.{CType, structure, Struct}
use Rattle.sp_types.specs.Structs.{IsWhole}
use Rattle.sp_base_checked.specs.Answers.{accepted, and_then}
use Rattle.sp_check_scopes.specs.declared.meaning.Tag.{Tag}
use Rattle.sp_check_scopes.specs.declared.meaning.Tag.TheVariants as tags
use Rattle.sp_check_env.specs.Env.{Env, with_struct, set_struct, with_depth}
use Rattle.sp_check_type_names.specs.Tags.{tag_found, open_struct, tagged, struct_at, struct_referred, enum_at, enum_referred}
use Rattle.sp_check_members.specs.Members.{begun_struct, begun, depth_above, completed}
use Rattle.sp_expr_check.specs.Specifiers.{struct_opened}
use Rattle.sp_check_formed_laws.proofs.Lists.{some_is, none_some, each_pushed, each_set, get_below, pushed_length, pushed_before, set_length, set_other, set_there}
use Rattle.sp_check_formed_laws.proofs.Tables.{table_pushed, table_set}
use Rattle.sp_check_formed_laws.proofs.Members.{IsMade, struct_made}
use Rattle.sp_check_formed_laws.proofs.Envs.{IsFormedEnv, Goes, formed_over}
use Rattle.sp_check_scopes.specs.Meanings.{Meaning}
use Rattle.sp_check_scopes.specs.Meanings as means
use Rattle.sp_check_expr_laws.proofs.Elements.{elements_stay}
use Rattle.sp_check_formed_laws.proofs.After.{Gives, gives, gives_none, gives_then, gives_met}
use Rattle.sp_check_expr_laws.specs.Sound.{IsSoundStruct, lasting_alone, scene_of}
use Rattle.sp_check_expr_laws.proofs.Named.{names_nowhere}
use Rattle.sp_check_expr_laws.proofs.Envs.{IsFitting, IsFit, fit_table, kept_there, kept_function, Moves, moves_on, Reaches, reaches_nowhere, file_later, reaches_on}
use Rattle.sp_check_expr_laws.proofs.Grows.{Grows}
use Rattle.sp_check_expr_laws.proofs.Starts.{calm_on, starts_calm}
use Rattle.sp_check_expr_laws.proofs.After.{After, done, after_none, next, taken, met, given}
use Rattle.sp_check_expr_laws.proofs.Gains.{all_scopes, scopes_stay}
use Rattle.sp_check_expr_laws.proofs.Updates.{reaches_by, still, still_starts, reaches_tagged}
use Rattle.sp_check_expr_laws.proofs.Members.{is_filled, struct_sound}
use Rattle.sp_check_expr_laws.proofs.Leaves.{IsType, AreMembers}
use Rattle.sp_check_formed_laws.proofs.Braces.{found_union, found_open, open_incomplete, IsBegun}

-- the struct of a number is there
abbrev IsThere : ℕ → Env → Type 0
IsThere k env = k < length env.tables.structs

reaches_opened : (own : ℕ → Bool) (env : Env) (tag : Option ℕ) (union : Bool) → IsFit own env
    → Reaches own env (with_struct env (open_struct tag union))
reaches_opened own env tag union h =
    let longer : length (env.tables.structs ++ open_struct tag union ∷ [])
    ≡ length env.tables.structs + 1 =
    pushed_length env.tables.structs (open_struct tag union) in
    let g : Goes env (with_struct env (open_struct tag union)) = record {
      formed =
          formed_over env (env.tables.structs ++ open_struct tag union ∷ []) (omega (arith, longer))
          (table_pushed env.tables.structs (open_struct tag union) h.formed.table refl) h.formed;
      keeps = record {
        longer = omega (arith, longer);
        closed = λ k s at l. pushed_before env.tables.structs (open_struct tag union) s k at;
        objects = omega arith;
      };
    } in
    reaches_by own env h (with_struct env (open_struct tag union)) g (kept_there env.tables.objects)
    (λ x. x)
    (omega arith) (kept_function env.tables.functions) (scopes_stay (all_scopes env.scopes))
    (each_pushed IsSoundStruct env.tables.structs (open_struct tag union) h.structs (tt, tt))
    h.objects h.functions (λ all. still own env h (with_struct env (open_struct tag union)) refl)
    (still_starts own env h (with_struct env (open_struct tag union)) refl) (λ m j e. e) (names_nowhere env)

struct_there : (own : ℕ → Bool) (env : Env) (union : Bool) (tag : Option ℕ) (p : Place)
    (o : Option Tag) → IsFit own env → After own env IsThere (struct_at env union tag p o)
struct_there own env union None p None h =
    done (reaches_opened own env None union h)
    (omega (arith, pushed_length env.tables.structs (open_struct None union)))
struct_there own env union (Some n) p None h =
    let a : Env = with_struct env (open_struct (Some n) union) in
    let g : Reaches own env a = reaches_opened own env (Some n) union h in
    done (reaches_on own env a (tagged a (Some n) (length env.tables.structs)) g
    (reaches_tagged own a g.fit n (tags.Struct (length env.tables.structs))))
    (omega (arith, pushed_length env.tables.structs (open_struct (Some n) union)))
struct_there own env union tag p (Some (tags.Struct k)) h =
    given _ _ (λ was e. met _ _ (λ same.
    let s : (s : Struct) × (slice_get env.tables.structs k ≡ Some s) =
    found_union (slice_get env.tables.structs k) was e in
    done (reaches_nowhere own env h) (get_below env.tables.structs k s.0 s.1)))
struct_there own env union tag p (Some tags.Enum) h = after_none

pub struct_named : (own : ℕ → Bool) (env : Env) (alone union : Bool) (tag : Option ℕ) (p : Place)
    → IsFit own env → After own env IsType (struct_referred env alone union tag p)
struct_named own env alone union tag p h =
    next (struct_there own env union tag p (tag_found env alone tag) h)
    (λ x g there. done (reaches_nowhere own x.1 g.fit) (there, tt))

pub enum_named : (env : Env) (tag : Option ℕ) (p : Place)
    → Gives (λ t. IsType t env) (enum_referred env tag p)
enum_named env tag p = by (tag_found env false tag)
  where
    by : (o : Option Tag) → Gives (λ t. IsType t env) (enum_at p o)
    by None = gives_none
    by (Some tags.Enum) = gives (tt, tt)
    by (Some (tags.Struct k)) = gives_none

-- ---- the struct whose members are about to be read

reaches_begun : (own : ℕ → Bool) (env : Env) (k : ℕ) (tag : Option ℕ) (union : Bool) (s : Struct)
    → IsFit own env → slice_get env.tables.structs k ≡ Some s → (s.level == 0) ≡ true
    → Reaches own env (begun env k tag union)
reaches_begun own env k tag union s h at low =
    let same : length (slice_set env.tables.structs k (begun_struct tag union))
    ≡ length env.tables.structs = set_length env.tables.structs k (begun_struct tag union) in
    let g : Goes env (begun env k tag union) = record {
      formed =
          formed_over env (slice_set env.tables.structs k (begun_struct tag union))
          (omega (arith, same))
          (table_set env.tables.structs k s (begun_struct tag union) at
          (open_incomplete env k s h.formed at low) h.formed.table refl) h.formed;
      keeps = record {
        longer = omega (arith, same);
        closed = λ j t there l.
            set_other env.tables.structs k (begun_struct tag union) j t
            (λ e. true≢false (sym low ∙ ap (λ z. z.level == 0)
            (some_is s t (sym at ∙ ap (slice_get env.tables.structs) e ∙ there)) ∙ l)) there;
        objects = omega arith;
      };
    } in
    reaches_by own env h (begun env k tag union) g (kept_there env.tables.objects) (λ x. x)
    (omega arith) (kept_function env.tables.functions) (scopes_stay (all_scopes env.scopes))
    (each_set IsSoundStruct env.tables.structs k (begun_struct tag union) h.structs (tt, tt))
    h.objects h.functions (λ all. still own env h (begun env k tag union) refl)
    (still_starts own env h (begun env k tag union) refl) (λ m j e. e) (names_nowhere env)

pub struct_begun : (own : ℕ → Bool) (env : Env) (union : Bool) (tag : Option ℕ) (p : Place)
    → IsFit own env → After own env (IsBegun env tag union) (struct_opened env union tag p)
struct_begun own env union tag p h =
    next (struct_there own env union tag p (tag_found env true tag) h)
    (λ x g there. met _ _ (λ free. by x g (found_open (slice_get x.1.tables.structs x.0) free)))
  where
    by : (x : ℕ × Env) → Reaches own env x.1
        → (s : Struct) × (slice_get x.1.tables.structs x.0 ≡ Some s) × ((s.level == 0) ≡ true)
        → After own x.1 (IsBegun env tag union) (accepted (x.0, begun x.1 x.0 tag union))
    by x g s =
        done (reaches_begun own x.1 x.0 tag union s.0 g.fit s.1 s.2) (record {
          before = λ t at l.
              true≢false (sym s.2 ∙ ap (λ z. z.level == 0)
              (some_is s.0 t (sym s.1 ∙ g.moves.keeps.closed x.0 t at l)) ∙ l);
          behind = set_there x.1.tables.structs x.0 (begun_struct tag union)
              (get_below x.1.tables.structs x.0 s.0 s.1);
        })

-- ---- the struct with its members

module _ (own : ℕ → Bool) (env first later : Env) (k : ℕ) (tag : Option ℕ) (union : Bool)
    (begun-is : IsBegun env tag union k first) (to-first : Reaches own env first)
    (to-later : Reaches own first later) where
  begun_still : slice_get later.tables.structs k ≡ Some (begun_struct tag union)
  begun_still = to-later.moves.keeps.closed k (begun_struct tag union) begun-is.behind refl

  goes_completed : (s : Struct) → IsWhole later.tables.structs s s.members
      → Goes env (set_struct later k s)
  goes_completed s whole =
      let same : length (slice_set later.tables.structs k s) ≡ length later.tables.structs =
      set_length later.tables.structs k s in record {
        formed =
            formed_over later (slice_set later.tables.structs k s) (omega (arith, same))
            (table_set later.tables.structs k (begun_struct tag union) s begun_still refl
            to-later.fit.formed.table whole) to-later.fit.formed;
        keeps = record {
          longer = omega (arith, same, to-first.moves.keeps.longer, to-later.moves.keeps.longer);
          closed = λ j t at l.
              set_other later.tables.structs k s j t
              (λ e. begun-is.before t (ap (slice_get env.tables.structs) e ∙ at) l)
              (to-later.moves.keeps.closed j t (to-first.moves.keeps.closed j t at l) l);
          objects = omega (arith, to-first.moves.keeps.objects, to-later.moves.keeps.objects);
        };
      }

  between : Moves env later
  between = moves_on env first later to-first.moves to-later.moves

  abbrev whole_env : Struct → ℕ → Env
  whole_env s d = with_depth (set_struct later k s) k d

  completed_moves : (s : Struct) (d : ℕ) → Goes env (set_struct later k s)
      → Moves env (whole_env s d)
  completed_moves s d g = record {
    keeps = g.keeps;
    objects = between.objects;
    homes = between.homes;
    functions = between.functions;
    kept = between.kept;
    around = between.around;
    links = between.links;
    names = between.names;
  }

  -- what is complete stays so
  completed_grows : (s : Struct) (d : ℕ)
      → Grows (scene_of lasting_alone later) (scene_of lasting_alone (whole_env s d))
  completed_grows s d =
      let same : length (slice_set later.tables.structs k s) ≡ length later.tables.structs =
      set_length later.tables.structs k s in record {
        stays = record {
          longer = omega (arith, same);
          complete = λ j t e at x.
              set_other later.tables.structs k s j t
              (λ is. none_some e (ap (λ (z : Struct). z.extent)
              (some_is (begun_struct tag union) t
              (sym begun_still ∙ ap (slice_get later.tables.structs) is ∙ at)) ∙ x)) at;
        };
        functions = omega arith;
        names = λ n o at seen. record { object = o; there = at; visible = seen; same = λ t h. h };
      }

  completed_fits : (s : Struct) (d : ℕ) → IsFormedEnv later → (m : Meaning)
      → IsFitting own later.tables.structs later.tables.objects m
      → IsFitting own (slice_set later.tables.structs k s) later.tables.objects m
  completed_fits s d f (means.object j) h = h
  completed_fits s d f (means.function j) h = h
  completed_fits s d f (means.constant z) h = h
  completed_fits s d f (means.named t) h = (
    h.0,
    elements_stay later.tables.structs (slice_set later.tables.structs k s)
        (completed_grows s d).stays t h.1,
  )

  reaches_completed : (s : Struct) (d : ℕ) → IsWhole later.tables.structs s s.members
      → IsSoundStruct s → Reaches own env (whole_env s d)
  reaches_completed s d whole sound =
      let g : Goes env (set_struct later k s) = goes_completed s whole in record {
        fit = record {
          formed = record {
            table = g.formed.table;
            objects = g.formed.objects;
            functions = g.formed.functions;
            typings = g.formed.typings;
            inner = g.formed.inner;
            around = g.formed.around;
          };
          structs = each_set IsSoundStruct later.tables.structs k s to-later.fit.structs sound;
          objects = to-later.fit.objects;
          functions = to-later.fit.functions;
          inner = λ j n at.
              completed_fits s d to-later.fit.formed n.1 (to-later.fit.inner j n at);
          around = λ i t there j n at.
              completed_fits s d to-later.fit.formed n.1 (to-later.fit.around i t there j n at);
        };
        moves = completed_moves s d g;
        calm = λ all. calm_on env later (whole_env s d) between.keeps.objects
            (calm_on env first later to-first.moves.keeps.objects (to-first.calm all)
            (to-later.calm all)) (λ j o at. inl at);
        starts = λ waits w x.
            starts_calm waits later (whole_env s d) to-later.fit.formed.table
            (completed_grows s d) (λ j o at. inl at)
            (to-later.starts waits (λ file. w (file_later env first to-first.moves file))
            (to-first.starts waits w x));
      }

  pub struct_done : (p : Place) (ms : List (ℕ × CType)) → AreMembers ms later → is_filled ms ≡ true
      → After own env IsType
      (and_then (completed later k union p ms) (λ e. accepted (structure k, e)))
  struct_done p ms good filled = taken ready (λ e x. done x.0 (x.1, tt))
    where
      made : (s : Struct) → IsMade later.tables.structs ms s
          → Reaches own env (with_depth (set_struct later k s) k (depth_above later.depths ms)) ×
          IsThere k (with_depth (set_struct later k s) k (depth_above later.depths ms))
      made s m =
          let low : k < length later.tables.structs =
          get_below later.tables.structs k (begun_struct tag union) begun_still in (
            reaches_completed s (depth_above later.depths ms)
                (subst (λ o. IsWhole later.tables.structs s o) (sym m.members) m.whole)
                (struct_sound later.tables.structs s ms (fit_table own later to-later.fit) m.members
                m.whole (λ j n at. (good j n at).1) filled),
            omega (arith, low, set_length later.tables.structs k s),
          )

      ready : Gives (λ e. Reaches own env e × IsThere k e) (completed later k union p ms)
      ready =
          gives_then (struct_made later.tables.structs k union p ms
          (begun_struct tag union) begun_still refl (λ j n at. (good j n at).0))
          (λ s m. gives_met {b = nat_le (depth_above later.depths ms) 200} _ _
          (λ few. gives (made s m)))
