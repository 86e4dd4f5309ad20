-- Start values of objects that last are known before the program runs, and stay so (C90 6.1.2.4,
-- 6.5.7).
use Rattle.std.proofs.Common.{◌≡◌, ◌⊎◌, inl, inr, ℕ, zero, suc, ◌+◌, ◌*◌, ◌^◌, ◌≤◌, ◌<◌, nat_le, if◌then◌else◌, Bool, true, false, length, List, [], ◌∷◌, ◌++◌, Some, None, refl, ap, sym, subst, ◌∙◌, true≢false, arith}
use Rattle.std.specs.Prelude.{slice_get, ⊤}
use Rattle.std.proofs.lemmas.Bool.{le-leb}
use Rattle.sp_tree.specs.declared.fault.Place.{Place}
use Rattle.sp_types.specs.declared.ctype.IntKind.TheVariants.{Char}
use Rattle.sp_types.specs.declared.program.Storage.{Storage}
use Rattle.sp_types.specs.declared.program.Storage.TheVariants.{Static, Outside, Text, Auto, Formal}
use Rattle.sp_types.specs.Types.{CType, void, integer, floating, pointer, array, structure, function, Struct}
use Rattle.sp_types.specs.Typed.{Typed}
use Rattle.sp_types.specs.Layout.{extent}
use Rattle.sp_types.specs.Structs.{IsTable}
use Rattle.sp_types.specs.Programs.{Object}
use Rattle.sp_check_env.specs.Env.{Env}
use Rattle.sp_check_primaries.specs.Literals.{text_object}
use Rattle.sp_ir.specs.Shapes.{Shape}
use Rattle.sp_ir.specs.Terrain.{size_in, size_of}
use Rattle.sp_check_typing.specs.Trees.{Scene}
use Rattle.sp_check_typing.specs.Starts.{IsLeafValue, AreLeafValues, AreKnown, IsStaticStart}
use Rattle.sp_check_formed_laws.proofs.Lists.{each_pushed, pushed_length, none_some, some_is}
use Rattle.sp_check_expr_laws.specs.Sound.{KnowsElements, lasting_alone, scene_of}
use Rattle.sp_check_formed_laws.proofs.Stays.{Stays}
use Rattle.sp_check_operands.specs.Conversions.{is_complete}
use Rattle.sp_check_expr_laws.proofs.Elements.{complete_stays, elements_stay}
use Rattle.sp_check_expr_laws.proofs.Shapes.{shape_stays}
use Rattle.sp_check_expr_laws.proofs.Characters.{AreLow, bytes_held, characters_stored, characters_typed}
use Rattle.sp_check_expr_laws.proofs.Grows.{Grows, has_size, typed_stays}

-- ---- in a scene that grows

module _ (s r : Scene) (table : IsTable s.structs) (g : Grows s r) where
  leaf_stays : (shape : Shape) (e : ℕ × Typed) → IsLeafValue s shape e → IsLeafValue r shape e
  leaf_stays shape e h = record {
    low = h.low;
    typed = typed_stays s r g e.1 h.typed;
    leaf = h.leaf;
    there = h.there;
    scalar = h.scalar;
    same = h.same;
  }

  pub leaves_stay : (t : CType) (es : List (ℕ × Typed)) → AreLeafValues s t es
      → AreLeafValues r t es
  leaves_stay t es h = record {
    shape = h.shape;
    shaped = shape_stays s.structs r.structs table g.stays t h.shape h.shaped;
    values = λ k d low. leaf_stays h.shape _ (h.values k d low);
    apart = h.apart;
  }

  known_stay : (t : CType) (es : List (ℕ × Typed)) → AreKnown s t es → AreKnown r t es
  known_stay t es h = record {
    values = leaves_stay t es h.values;
    constants = h.constants;
  }

  pub static_stays : (o : Object) → IsStaticStart s o → IsStaticStart r o
  static_stays o h = record {
    sized = has_size s.structs r.structs g.stays o.of h.sized;
    known = known_stay o.of o.start h.known;
  }

-- ---- literals

-- the object of a literal, which is no larger than an object may be
pub record IsLiteral (o : Object) : Type 0 where
  pub bytes : List ℕ
  pub low : AreLow bytes
  pub few : length bytes + 1 ≤ 2 ^ 40
  pub place : Place
  pub is : o ≡ text_object bytes place

characters_sized : (ss : List Struct) (n : ℕ) → 1 ≤ n → n ≤ 2 ^ 40
    → 1 ≤ size_of ss (array (integer Char) (Some n))
characters_sized ss n some few = by (nat_le (1 * n) (2 ^ 40)) refl
  where
    by : (b : Bool) → nat_le (1 * n) (2 ^ 40) ≡ b
        → 1 ≤ size_in (if b then Some (extent (1 * n) 1) else None)
    by true e = omega (arith, some)
    by false e =
        let fits : 1 * n ≤ 2 ^ 40 = omega (arith, few) in
        absurd (true≢false (sym (le-leb (1 * n) (2 ^ 40) fits) ∙ e))

literal_start : (s : Scene) (bytes : List ℕ) (p : Place) → AreLow bytes
    → length bytes + 1 ≤ 2 ^ 40 → IsStaticStart s (text_object bytes p)
literal_start s bytes p low few =
    let all : AreLow (bytes ++ 0 ∷ []) = each_pushed (λ b. b < 256) bytes 0 low (omega arith) in
    let many : length (bytes ++ 0 ∷ []) ≡ length bytes + 1 = pushed_length bytes 0 in
    record {
      sized = characters_sized s.structs (length bytes + 1) (omega arith) few;
      known = record {
        values = characters_typed s Char (length bytes + 1) p bytes_held (bytes ++ 0 ∷ [])
            (omega (arith, many)) all;
        constants = characters_stored Char p 0 (bytes ++ 0 ∷ []) bytes_held all;
      };
    }

-- ---- objects of an environment

-- it may be completed later: an array whose length isn't told, or a struct that waits
abbrev pub IsWaiting : (ℕ → Bool) → List Struct → ℕ → CType → Type 0
IsWaiting waits ss k (array t None) = is_complete ss t ≡ true
IsWaiting waits ss k (array t (Some n)) = ⊥
IsWaiting waits ss k (structure j) = waits k ≡ true
IsWaiting waits ss k void = ⊥
IsWaiting waits ss k (integer j) = ⊥
IsWaiting waits ss k (floating j) = ⊥
IsWaiting waits ss k (pointer t) = ⊥
IsWaiting waits ss k (function s) = ⊥

waiting_stays : (waits : ℕ → Bool) (ss rs : List Struct) → Stays ss rs → (k : ℕ) (t : CType)
    → IsWaiting waits ss k t → IsWaiting waits rs k t
waiting_stays waits ss rs stays k (array t None) h = complete_stays ss rs stays t h
waiting_stays waits ss rs stays k (array t (Some n)) h = h
waiting_stays waits ss rs stays k (structure j) h = h
waiting_stays waits ss rs stays k void h = h
waiting_stays waits ss rs stays k (integer j) h = h
waiting_stays waits ss rs stays k (floating j) h = h
waiting_stays waits ss rs stays k (pointer t) h = h
waiting_stays waits ss rs stays k (function s) h = h

-- of the object of the number k with this storage
abbrev pub HasStart : (ℕ → Bool) → Env → ℕ → Object → Storage → Type 0
HasStart waits env k o Static =
    IsStaticStart (scene_of lasting_alone env) o
    ⊎ ((o.start ≡ []) × IsWaiting waits env.tables.structs k o.of)
HasStart waits env k o Text = IsStaticStart (scene_of lasting_alone env) o
HasStart waits env k o Outside =
    (o.start ≡ []) × KnowsElements env.tables.structs o.of
HasStart waits env k o Auto = ⊤
HasStart waits env k o Formal = ⊤

abbrev pub HaveStarts : (ℕ → Bool) → Env → Type 0
HaveStarts waits env = (k : ℕ) (o : Object) → slice_get env.tables.objects k ≡ Some o
    → HasStart waits env k o o.storage

pub start_stays : (waits : ℕ → Bool) (env later : Env) → IsTable env.tables.structs
    → Grows (scene_of lasting_alone env) (scene_of lasting_alone later) → (k : ℕ) (o : Object)
    (s : Storage) → HasStart waits env k o s → HasStart waits later k o s
start_stays waits env later table g k o Static (inl h) =
    inl (static_stays (scene_of lasting_alone env) (scene_of lasting_alone later) table g o h)
start_stays waits env later table g k o Static (inr h) =
    inr (h.0, waiting_stays waits env.tables.structs later.tables.structs g.stays k o.of h.1)
start_stays waits env later table g k o Text h =
    static_stays (scene_of lasting_alone env) (scene_of lasting_alone later) table g o h
start_stays waits env later table g k o Outside h =
    (h.0, elements_stay env.tables.structs later.tables.structs g.stays o.of h.1)
start_stays waits env later table g k o Auto h = tt
start_stays waits env later table g k o Formal h = tt

-- more may wait
waiting_more : (waits wide : ℕ → Bool) (ss : List Struct) (k : ℕ) (t : CType)
    → (waits k ≡ true → wide k ≡ true) → IsWaiting waits ss k t → IsWaiting wide ss k t
waiting_more waits wide ss k (array t None) w h = h
waiting_more waits wide ss k (array t (Some n)) w h = h
waiting_more waits wide ss k (structure j) w h = w h
waiting_more waits wide ss k void w h = h
waiting_more waits wide ss k (integer j) w h = h
waiting_more waits wide ss k (floating j) w h = h
waiting_more waits wide ss k (pointer t) w h = h
waiting_more waits wide ss k (function s) w h = h

pub starts_more : (waits wide : ℕ → Bool) (env : Env)
    → ((k : ℕ) → waits k ≡ true → wide k ≡ true) → HaveStarts waits env → HaveStarts wide env
starts_more waits wide env w h k o at = by o.storage (h k o at)
  where
    by : (s : Storage) → HasStart waits env k o s → HasStart wide env k o s
    by Static (inl x) = inl x
    by Static (inr x) = inr (x.0, waiting_more waits wide env.tables.structs k o.of (w k) x.1)
    by Text x = x
    by Outside x = x
    by Auto x = tt
    by Formal x = tt

-- ---- what expressions and types add

-- a literal, or a parameter
abbrev pub IsAside : Object → Type 0
IsAside o = IsLiteral o ⊎ (o.storage ≡ Formal)

pub aside_start : (waits : ℕ → Bool) (env : Env) (k : ℕ) (o : Object) → IsAside o
    → HasStart waits env k o o.storage
aside_start waits env k o (inl h) =
    subst (λ x. HasStart waits env k x x.storage) (sym h.is)
    (literal_start (scene_of lasting_alone env) h.bytes h.place h.low h.few)
aside_start waits env k o (inr h) = subst (λ s. HasStart waits env k o s) (sym h) tt

-- besides such objects none is added, and none changes
abbrev pub IsCalm : Env → Env → Type 0
IsCalm env later = (k : ℕ) (o : Object) → slice_get later.tables.objects k ≡ Some o
    → (slice_get env.tables.objects k ≡ Some o)
    ⊎ ((length env.tables.objects ≤ k) × IsAside o)

pub calm_on : (a b c : Env) → length a.tables.objects ≤ length b.tables.objects → IsCalm a b
    → IsCalm b c → IsCalm a c
calm_on a b c more h g k o at = by (g k o at)
  where
    by : (slice_get b.tables.objects k ≡ Some o) ⊎ ((length b.tables.objects ≤ k) × IsAside o)
        → (slice_get a.tables.objects k ≡ Some o) ⊎ ((length a.tables.objects ≤ k) × IsAside o)
    by (inl there) = h k o there
    by (inr x) = inr (omega (arith, more, x.0), x.1)

pub starts_calm : (waits : ℕ → Bool) (env later : Env) → IsTable env.tables.structs
    → Grows (scene_of lasting_alone env) (scene_of lasting_alone later) → IsCalm env later
    → HaveStarts waits env → HaveStarts waits later
starts_calm waits env later table g calm h k o at = by (calm k o at)
  where
    by : (slice_get env.tables.objects k ≡ Some o) ⊎ ((length env.tables.objects ≤ k) × IsAside o)
        → HasStart waits later k o o.storage
    by (inl there) = start_stays waits env later table g k o o.storage (h k o there)
    by (inr x) = aside_start waits later k o x.1

-- an entry behind the last
pub pushed_split : {A : Type 0} (xs : List A) (y x : A) (k : ℕ)
    → slice_get (xs ++ y ∷ []) k ≡ Some x
    → (slice_get xs k ≡ Some x) ⊎ ((k ≡ length xs) × (y ≡ x))
pushed_split [] y x zero at = inr (refl, some_is y x at)
pushed_split [] y x (suc k) at = absurd (none_some x at)
pushed_split (z ∷ zs) y x zero at = inl at
pushed_split (z ∷ zs) y x (suc k) at = by (pushed_split zs y x k at)
  where
    by : (slice_get zs k ≡ Some x) ⊎ ((k ≡ length zs) × (y ≡ x))
        → (slice_get (z ∷ zs) (suc k) ≡ Some x) ⊎ ((suc k ≡ length (z ∷ zs)) × (y ≡ x))
    by (inl h) = inl h
    by (inr h) = inr (ap suc h.0, h.1)
