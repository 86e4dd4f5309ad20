-- What an object has as its start before its initialiser, and behind a further declaration
-- (C90 6.1.2.6, 6.5.7, 6.7.2).
use Rattle.std.proofs.Common.{◌≡◌, ◌⊎◌, inl, inr, ℕ, ◌≤◌, Bool, true, false, List, [], Option, Some, None, refl, sym, subst, true≢false}
use Rattle.sp_tree.specs.declared.token.Keyword.{Keyword}
use Rattle.sp_tree.specs.declared.token.Keyword.TheVariants as words
use Rattle.sp_types.specs.declared.extents.Extent.{Extent}
use Rattle.sp_types.specs.Types.{CType, void, integer, floating, pointer, array, structure, function, Struct}
use Rattle.sp_types.specs.Typed.{Typed}
use Rattle.sp_types.specs.Layout.{layout}
use Rattle.sp_types.specs.Structs.{IsFormed}
use Rattle.sp_types.specs.Programs.{Object}
use Rattle.sp_types.specs.declared.program.Linkage.{Linkage}
use Rattle.sp_types.specs.declared.program.Linkage.TheVariants.{External, Internal, Inner}
use Rattle.sp_types.specs.declared.program.Storage.{Storage}
use Rattle.sp_types.specs.declared.program.Storage.TheVariants.{Outside, Static, Text, Auto, Formal}
use Rattle.sp_check_operands.specs.Conversions.{is_void, is_function, is_complete}
use Rattle.sp_check_env.specs.Env.{Env}
use Rattle.sp_check_primaries.specs.Composite.{composite}
use Rattle.sp_types.specs.Compatible.{compatible}
use Rattle.sp_check_typing.specs.Statements.{is_lasting}
use Rattle.sp_check_initialisers.specs.Initialisers.{is_unmeasured}
use Rattle.sp_check_objects.specs.Objects.{storage_for, is_outside}
use Rattle.sp_ir.specs.Terrain.{size_of}
use Rattle.sp_base_layouts.specs.Layouts.{layout_of}
use Rattle.sp_check_typing.specs.Trees.{Scene}
use Rattle.sp_check_typing.specs.Starts.{IsLeafValue, AreKnown, IsStaticStart}
use Rattle.sp_check_typing.specs.Constants.{is_stored}
use Rattle.sp_check_formed_laws.proofs.Lists.{none_some, nil_all}
use Rattle.sp_check_expr_laws.specs.Sound.{IsSound, KnowsElements, lasting_alone, scene_of}
use Rattle.sp_check_expr_laws.proofs.Types.{IsSoundTable, complete_sized, size_laid}
use Rattle.sp_check_expr_laws.proofs.Starts.{IsWaiting, HasStart}
use Rattle.sp_check_initialiser_laws.proofs.Complete.{IsWholeType, whole_type}
use Rattle.sp_check_unit_laws.proofs.Composed.{known_composed, size_composed, elements_composed, sized_elements}

-- ---- no value

-- a complete object without values has those that it starts with
empty_known : (s : Scene) (t : CType) → IsSoundTable s.structs → IsFormed s.structs t → IsSound t
    → 1 ≤ size_of s.structs t → AreKnown s t []
empty_known s t table formed sound sized =
    let e : (e : Extent) × (layout s.structs t ≡ Some e) = size_laid (layout s.structs t) sized in
    let w : IsWholeType s.structs t (layout_of s.structs t) =
    whole_type s.structs table t e.0 formed sound e.1 in
    record {
      values = record {
        shape = layout_of s.structs t;
        shaped = w.shaped;
        values = nil_all (IsLeafValue s (layout_of s.structs t));
        apart = λ i j d e at there same. absurd (none_some d at);
      };
      constants = nil_all (λ (e : ℕ × Typed). is_stored e.1 ≡ true);
    }

-- so it starts as it should
pub complete_start : (s : Scene) → IsSoundTable s.structs → (o : Object) → o.start ≡ []
    → IsFormed s.structs o.of → IsSound o.of → is_complete s.structs o.of ≡ true
    → IsStaticStart s o
complete_start s table o none formed sound whole =
    let sized : 1 ≤ size_of s.structs o.of =
    (complete_sized s.structs table o.of formed whole).0 in record {
      sized = sized;
      known = subst (λ es. AreKnown s o.of es) (sym none)
          (empty_known s o.of table formed sound sized);
    }

-- what the checks test where an object is defined (6.7.2): `l` is its linkage, `valued` says that
-- it has an initialiser
abbrev pub IsTested : List Struct → Linkage → Bool → CType → Type 0
IsTested ss l valued t = (is_complete ss t ≡ true) ⊎ (is_unmeasured t ≡ true)
    ⊎ ((l ≡ External) × (is_void t ≡ false) × (valued ≡ false))

-- a declaration tells of such a storage
abbrev pub is_declared : Storage → Bool
is_declared Static = true
is_declared Outside = true
is_declared Auto = true
is_declared Text = false
is_declared Formal = false

-- and an initialiser of such
abbrev pub holds_values : Storage → Bool
holds_values Static = true
holds_values Auto = true
holds_values Outside = false
holds_values Text = false
holds_values Formal = false

module _ (waits : ℕ → Bool) (env : Env) (table : IsSoundTable env.tables.structs) (k : ℕ)
    (l : Linkage) (valued : Bool) where
  abbrev alone : Scene
  alone = scene_of lasting_alone env

  -- a static object without values
  module _ (o : Object) (none : o.start ≡ []) (formed : IsFormed env.tables.structs o.of)
      (plain : is_function o.of ≡ false) (sound : IsSound o.of)
      (knows : KnowsElements env.tables.structs o.of) where
    abbrev IsBegunStatic : Type 0
    IsBegunStatic = IsStaticStart alone o
        ⊎ ((o.start ≡ []) × IsWaiting waits env.tables.structs k o.of)

    abbrev IsSettled : CType → Type 0
    IsSettled t =
        (is_complete env.tables.structs t ≡ true) ⊎ IsWaiting waits env.tables.structs k t

    pub settled_begun : IsSettled o.of → IsBegunStatic
    settled_begun (inr v) = inr (none, v)
    settled_begun (inl whole) = inl (complete_start alone table o none formed sound whole)

    unmeasured_waits : (t : CType) → KnowsElements env.tables.structs t → is_unmeasured t ≡ true
        → IsWaiting waits env.tables.structs k t
    unmeasured_waits (array t None) e h = e
    unmeasured_waits (array t (Some n)) e h = absurd (true≢false (sym h))
    unmeasured_waits void e h = absurd (true≢false (sym h))
    unmeasured_waits (integer j) e h = absurd (true≢false (sym h))
    unmeasured_waits (floating j) e h = absurd (true≢false (sym h))
    unmeasured_waits (pointer t) e h = absurd (true≢false (sym h))
    unmeasured_waits (structure j) e h = absurd (true≢false (sym h))
    unmeasured_waits (function s) e h = absurd (true≢false (sym h))

    -- what is no void is complete, or it waits
    tentative : (t : CType) → KnowsElements env.tables.structs t → is_void t ≡ false
        → is_function t ≡ false → waits k ≡ true → IsSettled t
    tentative (array t None) e v f w = inr e
    tentative (array t (Some n)) e v f w = inl e
    tentative (structure j) e v f w = inr w
    tentative (integer j) e v f w = inl refl
    tentative (floating j) e v f w = inl refl
    tentative (pointer t) e v f w = inl refl
    tentative void e v f w = absurd (true≢false v)
    tentative (function s) e v f w = absurd (true≢false f)

    pub static_begun : (l ≡ External → valued ≡ false → waits k ≡ true)
        → IsTested env.tables.structs l valued o.of
        → IsBegunStatic
    static_begun w (inl whole) = settled_begun (inl whole)
    static_begun w (inr (inl told)) = settled_begun (inr (unmeasured_waits o.of knows told))
    static_begun w (inr (inr x)) = settled_begun (tentative o.of knows x.1 plain (w x.0 x.2))

    pub begun_start : (s : Storage) → is_declared s ≡ true
        → (l ≡ External → is_outside s ≡ false → valued ≡ false → waits k ≡ true)
        → (is_outside s ≡ false → IsTested env.tables.structs l valued o.of)
        → HasStart waits env k o s
    begun_start Static d w tested = static_begun (λ e. w e refl) (tested refl)
    begun_start Outside d w tested = (none, knows)
    begun_start Auto d w tested = tt
    begun_start Text d w tested = absurd (true≢false (sym d))
    begun_start Formal d w tested = absurd (true≢false (sym d))

  -- ---- a further declaration tells more of the type

  waiting_elements : (t : CType) → IsWaiting waits env.tables.structs k t
      → KnowsElements env.tables.structs t
  waiting_elements (array t None) h = h
  waiting_elements (array t (Some n)) h = absurd h
  waiting_elements (structure j) h = tt
  waiting_elements void h = tt
  waiting_elements (integer j) h = tt
  waiting_elements (floating j) h = tt
  waiting_elements (pointer t) h = tt
  waiting_elements (function s) h = tt

  -- what has no values yet knows its elements
  pub none_elements : (o : Object) (s : Storage) → is_lasting s ≡ true → o.start ≡ []
      → HasStart waits env k o s → KnowsElements env.tables.structs o.of
  none_elements o Static d none (inl h) = sized_elements env.tables.structs o.of h.sized
  none_elements o Static d none (inr h) = waiting_elements o.of h.1
  none_elements o Outside d none h = h.1
  none_elements o Text d none h = sized_elements env.tables.structs o.of h.sized
  none_elements o Auto d none h = absurd (true≢false (sym d))
  none_elements o Formal d none h = absurd (true≢false (sym d))

  composed_waits : (t u : CType) → IsWaiting waits env.tables.structs k t
      → KnowsElements env.tables.structs (composite t u)
      → (is_complete env.tables.structs (composite t u) ≡ true)
      ⊎ IsWaiting waits env.tables.structs k (composite t u)
  composed_waits (array t None) (array u None) h e = inr e
  composed_waits (array t None) (array u (Some m)) h e = inl e
  composed_waits (array t None) u h e = inr h
  composed_waits (array t (Some n)) u h e = absurd h
  composed_waits (structure j) u h e = inr h
  composed_waits void u h e = absurd h
  composed_waits (integer j) u h e = absurd h
  composed_waits (floating j) u h e = absurd h
  composed_waits (pointer t) u h e = absurd h
  composed_waits (function s) u h e = absurd h

  composed_known : (o : Object) (u : CType) → AreKnown alone o.of o.start
      → 1 ≤ size_of env.tables.structs o.of
      → 1 ≤ size_of env.tables.structs (composite o.of u)
  composed_known o u h sized =
      subst (λ n. 1 ≤ n) (sym (size_composed alone o.of u o.start h)) sized

  module _ (o : Object) (u : CType) (formed : IsFormed env.tables.structs (composite o.of u))
      (plain : is_function (composite o.of u) ≡ false) (sound : IsSound (composite o.of u))
      (fits : compatible o.of u ≡ true) (knows : KnowsElements env.tables.structs u) where
    pub composed_start : (s : Storage) → HasStart waits env k o s
        → HasStart waits env k (record o { of = composite o.of u }) s
    composed_start Static (inl h) = inl (record {
      sized = composed_known o u h.known h.sized;
      known = known_composed alone o.of u o.start h.known;
    })
    composed_start Static (inr h) =
        let e : KnowsElements env.tables.structs (composite o.of u) =
        elements_composed env.tables.structs o.of u fits (waiting_elements o.of h.1) knows in
        settled_begun (record o { of = composite o.of u }) h.0 formed plain sound e
        (composed_waits o.of u h.1 e)
    composed_start Text h = record {
      known = known_composed alone o.of u o.start h.known;
      sized = composed_known o u h.known h.sized;
    }
    composed_start Outside h =
        (h.0, elements_composed env.tables.structs o.of u fits h.1 knows)
    composed_start Auto h = tt
    composed_start Formal h = tt

-- ---- storage

pub storage_declared : (l : Linkage) (class : Option Keyword) (valued : Bool)
    → is_declared (storage_for l class valued) ≡ true
storage_declared Inner (Some words.Static) valued = refl
storage_declared Inner class valued = refl
storage_declared External (Some words.Extern) true = refl
storage_declared External (Some words.Extern) false = refl
storage_declared Internal (Some words.Extern) true = refl
storage_declared Internal (Some words.Extern) false = refl
storage_declared External class valued = refl
storage_declared Internal class valued = refl

pub storage_valued : (l : Linkage) (class : Option Keyword) (valued : Bool) → valued ≡ true
    → holds_values (storage_for l class valued) ≡ true
storage_valued l class false h = absurd (true≢false (sym h))
storage_valued Inner (Some words.Static) true h = refl
storage_valued Inner class true h = refl
storage_valued External (Some words.Extern) true h = refl
storage_valued Internal (Some words.Extern) true h = refl
storage_valued External class true h = refl
storage_valued Internal class true h = refl

pub holds_inside : (s : Storage) → holds_values s ≡ true → is_outside s ≡ false
holds_inside Static h = refl
holds_inside Auto h = refl
holds_inside Outside h = absurd (true≢false (sym h))
holds_inside Text h = absurd (true≢false (sym h))
holds_inside Formal h = absurd (true≢false (sym h))
