-- What functions name stands in the lowered program.
use Rattle.std.proofs.Common.{◌≡◌, ℕ, zero, suc, ◌+◌, ◌≤◌, Bool, true, false, ◌||◌, List, [], ◌∷◌, ◌++◌, length, map, Option, Some, None, slice_get, refl, ap, sym, ◌∙◌, subst, arith, eqb-true, length-append}
use Rattle.std.specs.Prelude.{nat_eq}
use Rattle.std.specs.List.{list_any}
use Rattle.std.proofs.lemmas.Option.{none-some}
use Rattle.sp_types.specs.declared.program.Storage.{Storage}
use Rattle.sp_types.specs.declared.program.Storage.TheVariants as storage
use Rattle.sp_types.specs.Types.{result_of}
use Rattle.sp_types.specs.Layout.{layout}
use Rattle.sp_types.specs.declared.extents.Extent.{Extent}
use Rattle.sp_types.specs.Programs as program
use Rattle.sp_types.specs.Programs.{Function, Program}
use Rattle.sp_ir.specs.declared.program.ObjectKind.TheVariants as kinds
use Rattle.sp_ir.specs.Regions.{Region}
use Rattle.sp_ir.specs.Programs.{Object}
use Rattle.sp_ir.specs.Formed.{is_site, is_local}
use Rattle.sp_ir.specs.Terrain.{size_in}
use Rattle.sp_lower_draft.specs.Context.{Context}
use Rattle.sp_lower_draft.specs.Draft.{Left}
use Rattle.sp_lower_body.specs.Frames.{Initial}
use Rattle.sp_lower_body.specs.Declarations.{is_automatic}
use Rattle.sp_lower_functions.specs.Functions.{Part, result_count, frame_for, with_function, functions_at, temporary_counts}
use Rattle.sp_lower_objects.specs.Codes.{part_at}
use Rattle.sp_lower_objects.specs.Initials.{initials_from}
use Rattle.sp_lower_objects.specs.Names.{name_at}
use Rattle.sp_lower_objects.specs.Objects.{kind_of_storage, owner_of, function_names, program_objects, function_objects, own_objects, local_objects, start_sites, site_object}
use Rattle.sp_lower_objects.specs.Owners.{owners_of, codes_of, mark_at}
use Rattle.sp_lower_objects.specs.Regions.{all_regions}
use Rattle.sp_lower.specs.Programs.{defined, first_local, local_count, start_due, counts_in, context_of_lowered, objects_with, declared_with, made_with, IsNumbered}
use Rattle.sp_lower_program_laws.proofs.Pointers.{pointers-hold}
use Rattle.sp_check_typing.specs.Statements.{is_lasting, IsTypedBody}
use Rattle.sp_check_typing.specs.Programs.{lasts, sees, scene_of, Lists, IsTypedFunction, IsTypedProgram}
use Rattle.sp_lower_expr_laws.specs.Stands.{scene, Stands, Fits}
use Rattle.sp_lower_expr_laws.proofs.Sorts.{false_true, stored_there}
use Rattle.sp_lower_body_laws.specs.Frames.{FitsFrame}
use Rattle.sp_lower_body_laws.specs.Functions.{AreFit}
use Rattle.sp_lower_starts_laws.specs.Starts.{StartsStand}
use Rattle.sp_lower_starts_laws.proofs.Lists.{StandFrom, stand_all, stand_left, stand_right, some_is, below_there}
use Rattle.sp_lower_formed_laws.proofs.Owners.{IsIn, IsListed, listed, listed_owned}
use Rattle.sp_lower_formed_laws.proofs.Objects.{IsProgramObject, program_at, program_length, IsFunctionObject, function_at, function_length}
use Rattle.sp_lower_formed_laws.proofs.Locals.{result_stands, result_held, rest_stand, part_is, local_length, start_length}

-- ---- defined functions

-- each number is one of a function
abbrev pub AreThere : List Function → List ℕ → Type 0
AreThere fs ns = (k n : ℕ) → slice_get ns k ≡ Some n → (g : Function) × (slice_get fs n ≡ Some g)

behind_there : (fs : List Function) (m : ℕ) (ns : List ℕ) → AreThere fs (m ∷ ns) → AreThere fs ns
behind_there fs m ns h k n e = h (suc k) n e

found : (fs : List Function) (m : ℕ) (ns : List ℕ) → (g : Function) → slice_get fs m ≡ Some g → functions_at fs (m ∷ ns) ≡ g ∷ functions_at fs ns
found fs m ns g e = ap (λ o. with_function o (functions_at fs ns)) e

pub defined_at : (fs : List Function) (ns : List ℕ) → AreThere fs ns → (k n : ℕ) (g : Function) → slice_get ns k ≡ Some n → slice_get fs n ≡ Some g → slice_get (functions_at fs ns) k ≡ Some g
defined_at fs [] h k n g e there = absurd (none-some n e)
defined_at fs (m ∷ ns) h zero n g e there = ap (λ xs. slice_get xs 0) (found fs m ns g (ap (λ i. slice_get fs i) (some_is m n e) ∙ there))
defined_at fs (m ∷ ns) h (suc k) n g e there =
    let x : (g : Function) × (slice_get fs m ≡ Some g) = h 0 m refl in
    ap (λ xs. slice_get xs (suc k)) (found fs m ns x.0 x.1) ∙ defined_at fs ns (behind_there fs m ns h) k n g e there

pub defined_from : (fs : List Function) (ns : List ℕ) → AreThere fs ns → (k : ℕ) (g : Function) → slice_get (functions_at fs ns) k ≡ Some g → (n : ℕ) × (slice_get ns k ≡ Some n) × (slice_get fs n ≡ Some g)
defined_from fs [] h k g e = absurd (none-some g e)
defined_from fs (m ∷ ns) h zero g e =
    let x : (g : Function) × (slice_get fs m ≡ Some g) = h 0 m refl in
    (m, refl, x.1 ∙ sym (ap (λ xs. slice_get xs 0) (found fs m ns x.0 x.1)) ∙ e)
defined_from fs (m ∷ ns) h (suc k) g e =
    let x : (g : Function) × (slice_get fs m ≡ Some g) = h 0 m refl in
    defined_from fs ns (behind_there fs m ns h) k g (sym (ap (λ xs. slice_get xs (suc k)) (found fs m ns x.0 x.1)) ∙ e)

pub defined_length : (fs : List Function) (ns : List ℕ) → AreThere fs ns → length (functions_at fs ns) ≡ length ns
defined_length fs [] h = refl
defined_length fs (m ∷ ns) h =
    let x : (g : Function) × (slice_get fs m ≡ Some g) = h 0 m refl in
    ap length (found fs m ns x.0 x.1) ∙ ap suc (defined_length fs ns (behind_there fs m ns h))

-- ---- what is seen

any_in : (n : ℕ) (ns : List ℕ) → list_any (nat_eq n) ns ≡ true → IsIn ns n
any_in n [] h = false_true h
any_in n (m ∷ ms) h = by (nat_eq n m) refl h (λ q. any_in n ms q)
  where
    by : (b : Bool) → nat_eq n m ≡ b → (b || list_any (nat_eq n) ms) ≡ true → (list_any (nat_eq n) ms ≡ true → IsIn ms n) → IsIn (m ∷ ms) n
    by true e h rest = (0, ap (λ x. Some x) (sym (eqb-true n m e)))
    by false e h rest = let r : IsIn ms n = rest h in (suc r.0, r.1)

pub local_storage : (s : Storage) → is_local (kind_of_storage s) ≡ true → (is_lasting s ≡ false) × ((o : Option ℕ) → owner_of s o ≡ o)
local_storage storage.Auto h = (refl, λ o. refl)
local_storage storage.Formal h = (refl, λ o. refl)
local_storage storage.Static h = false_true h
local_storage storage.Outside h = false_true h
local_storage storage.Text h = false_true h

pub storage_site : (s : Storage) → is_site (kind_of_storage s) ≡ false
storage_site storage.Auto = refl
storage_site storage.Formal = refl
storage_site storage.Static = refl
storage_site storage.Outside = refl
storage_site storage.Text = refl

pub sized_layout : (o : Option Extent) → 1 ≤ size_in o → (e : Extent) × (o ≡ Some e)
sized_layout None h = absurd (omega (arith, h))
sized_layout (Some e) h = (e, refl)

abbrev pub own_of : Option Function → List ℕ
own_of None = []
own_of (Some g) = listed g

module _ (p : Program) (names : List (List ℕ)) (typed : IsTypedProgram p) (w : Left (List Part)) (numbered : IsNumbered p names w) where
  -- ---- the parts of the whole

  abbrev pub gs : List Function
  gs = defined p

  abbrev pub c : Context
  c = context_of_lowered p names

  abbrev pub is : List Initial
  is = initials_from p.structs 0 p.objects

  abbrev pub due : Bool
  due = start_due p names

  abbrev pub os : List Object
  os = objects_with p names c is due w

  abbrev pub rs : List Region
  rs = all_regions p.structs 0 os

  abbrev pub owners : List (Option ℕ)
  owners = owners_of p.objects gs

  abbrev pub codes : List (Option ℕ)
  codes = codes_of p.functions p.definitions

  abbrev pub unit_objects : List Object
  unit_objects = program_objects c names (function_names gs) owners is 0 0 p.objects

  abbrev pub functions : List Object
  functions = function_objects names codes 0 p.functions

  abbrev pub locals : List Object
  locals = local_objects names 0 gs w.pure

  abbrev pub sites : List Object
  sites = map site_object w.after.sites

  pub definitions_there : AreThere p.functions p.definitions
  definitions_there k n e = let h = typed.definitions k n e in (h.0, h.1)

  -- what the function k sees
  abbrev pub v : ℕ → ℕ → Bool
  v k = sees p.objects (own_of (slice_get gs k))

  -- ---- where each part stands

  pub units_stand : StandFrom os 0 unit_objects
  units_stand = stand_left os 0 unit_objects functions (stand_left os 0 (declared_with p names c is) (made_with p names due w) (stand_all os))

  pub functions_stand : StandFrom os (length p.objects) functions
  functions_stand =
      let n : 0 + length unit_objects ≡ length p.objects = omega (arith, program_length c names (function_names gs) owners is 0 0 p.objects) in
      subst (λ m. StandFrom os m functions) n (stand_right os 0 unit_objects functions (stand_left os 0 (declared_with p names c is) (made_with p names due w) (stand_all os)))

  pub declared_length : length (declared_with p names c is) ≡ first_local p
  declared_length =
      length-append unit_objects functions ∙ ap (λ n. n + length functions) (program_length c names (function_names gs) owners is 0 0 p.objects)
      ∙ ap (λ n. length p.objects + n) (function_length names codes 0 p.functions)

  made_stand : StandFrom os (first_local p) (made_with p names due w)
  made_stand =
      let n : 0 + length (declared_with p names c is) ≡ first_local p = omega (arith, declared_length) in
      subst (λ m. StandFrom os m (made_with p names due w)) n (stand_right os 0 (declared_with p names c is) (made_with p names due w) (stand_all os))

  pub locals_stand : StandFrom os (first_local p) locals
  locals_stand = stand_left os (first_local p) locals (start_sites due ++ sites) made_stand

  pub starts_stand : StandFrom os (first_local p + length locals) (start_sites due ++ sites)
  starts_stand = stand_right os (first_local p) locals (start_sites due ++ sites) made_stand

  locals_length : length locals ≡ local_count 0 gs (counts_in p names)
  locals_length = local_length names w.pure os 0 gs ∙ ap (λ ns. local_count 0 gs ns) numbered.counts

  pub site_number : first_local p + length locals + length (start_sites due) ≡ c.first_site
  site_number = ap (λ n. first_local p + n + length (start_sites due)) locals_length ∙ ap (λ n. first_local p + local_count 0 gs (counts_in p names) + n) (start_length due)

  pub sites_from : StandFrom os c.first_site sites
  sites_from = subst (λ n. StandFrom os n sites) site_number (stand_right os (first_local p + length locals) (start_sites due) sites starts_stand)

  -- ---- objects and functions

  pub unit_object : (n : ℕ) (o : program.Object) → slice_get p.objects n ≡ Some o → (x : Object) × (slice_get os n ≡ Some x) × IsProgramObject c owners is n o x
  unit_object n o e =
      let h : (x : Object) × (slice_get unit_objects n ≡ Some x) × IsProgramObject c owners is (0 + n) o x = program_at c names (function_names gs) owners is 0 0 p.objects n o e in
      let s : 0 + n ≡ n = omega arith in
      (h.0, subst (λ m. slice_get os m ≡ Some h.0) s (units_stand n h.0 h.1), subst (λ m. IsProgramObject c owners is m o h.0) s h.2)

  pub function_object_at : (n : ℕ) (g : Function) → slice_get p.functions n ≡ Some g → (x : Object) × (slice_get os (length p.objects + n) ≡ Some x) × IsFunctionObject codes n g x
  function_object_at n g e =
      let h : (x : Object) × (slice_get functions n ≡ Some x) × IsFunctionObject codes (0 + n) g x = function_at names codes 0 p.functions n g e in
      let s : 0 + n ≡ n = omega arith in
      (h.0, functions_stand n h.0 h.1, subst (λ m. IsFunctionObject codes m g h.0) s h.2)

  -- what is listed in the program's own words
  pub lists_of : (n k : ℕ) → IsListed 0 gs n k → Lists p k n
  lists_of n k h =
      let d : (m : ℕ) × (slice_get p.definitions h.index ≡ Some m) × (slice_get p.functions m ≡ Some h.function) = defined_from p.functions p.definitions definitions_there h.index h.function h.there in
      let s : h.index ≡ k = let a : 0 + h.index ≡ h.index = omega arith in sym (h.number ∙ a) in
      record { number = d.0; function = h.function; defined = subst (λ i. slice_get p.definitions i ≡ Some d.0) s d.1; there = d.2; index = h.own.0; listed = h.own.1 }

  -- an object that the function k lists has it as its owner
  pub owner_is : (k n : ℕ) (g : Function) (o : program.Object) → slice_get gs k ≡ Some g → IsIn (listed g) n → slice_get p.objects n ≡ Some o → mark_at owners n ≡ Some k
  owner_is k n g o e own there =
      let h : (j : ℕ) × (mark_at owners n ≡ Some j) × IsListed 0 gs n j = listed_owned p.objects gs n k g e own (below_there p.objects n o there) in
      let s : k ≡ 0 + k = omega arith in
      h.1 ∙ ap (λ j. Some j) (typed.owners h.0 k n (lists_of n h.0 h.2) (lists_of n k (record { index = k; function = g; there = e; number = s; own = own })))

  seen_own : (k n : ℕ) (g : Function) (o : program.Object) → slice_get gs k ≡ Some g → slice_get p.objects n ≡ Some o → v k n ≡ true → is_lasting o.storage ≡ false → IsIn (listed g) n
  seen_own k n g o e there seen local =
      any_in n (listed g) (sym (ap (λ b. b || list_any (nat_eq n) (listed g)) (ap lasts there ∙ local))
      ∙ sym (ap (λ f. lasts (slice_get p.objects n) || list_any (nat_eq n) (own_of f)) e) ∙ seen)

  pub names_fit : (k from : ℕ) (g : Function) → slice_get gs k ≡ Some g → Fits (record c { function = k; first_temporary = from }) os (v k)
  names_fit k from g e = record {
    objects = λ n o there seen. objects n o there seen;
    functions = λ n f there. let x = function_object_at n f there in
        record { object = x.0; there = x.1; of = x.2.of; no_site = ap is_site x.2.kind; own = λ local. false_true (sym (ap is_local x.2.kind) ∙ local) };
    pointers = λ t sized. let e : (e : Extent) × (layout p.structs t ≡ Some e) = sized_layout (layout p.structs t) sized in
        pointers-hold p.structs t os typed.structs typed.members e.0 e.1;
  }
    where
      objects : (n : ℕ) (o : program.Object) → slice_get p.objects n ≡ Some o → v k n ≡ true → Stands os k n o.of
      objects n o there seen =
          let x : (x : Object) × (slice_get os n ≡ Some x) × IsProgramObject c owners is n o x = unit_object n o there in
          record {
            object = x.0;
            there = x.1;
            of = x.2.of;
            no_site = ap is_site x.2.kind ∙ storage_site o.storage;
            own = λ local. let s : (is_lasting o.storage ≡ false) × ((m : Option ℕ) → owner_of o.storage m ≡ m) = local_storage o.storage (sym (ap is_local x.2.kind) ∙ local) in
                x.2.function ∙ s.1 (mark_at owners n) ∙ owner_is k n g o e (seen_own k n g o e there seen s.0) there;
          }

  -- ---- frames

  auto_kind : (s : Storage) → is_automatic s ≡ true → (kind_of_storage s ≡ kinds.Auto) × (is_lasting s ≡ false)
  auto_kind storage.Auto h = (refl, refl)
  auto_kind storage.Static h = false_true h
  auto_kind storage.Outside h = false_true h
  auto_kind storage.Text h = false_true h
  auto_kind storage.Formal h = false_true h

  -- what is stored isn't void
  module _ (starts : StartsStand p c os rs is) where
    frame_fits : (k from : ℕ) (g : Function) (rest : List Object) → slice_get gs k ≡ Some g → StandFrom os from (own_objects (name_at names g.name) k g (part_at w.pure k).temporaries ++ rest)
        → FitsFrame (frame_for c is k from (length (part_at w.pure k).temporaries) g) os rs (v k)
    frame_fits k from g rest e h = record {
      names = names_fit k from g e;
      result = λ st. result_held names w.pure os k (from + length (part_at w.pure k).temporaries) (result_of g.of) (result_stands names w.pure os k from g rest h (stored_there p.structs (result_of g.of) st));
      automatic = λ n o there seen auto. let x = unit_object n o there in record { object = x.0; there = x.1; kind = x.2.kind ∙ (auto_kind o.storage auto).0 };
      starts = λ n o there seen auto values ls leaves. starts.automatic k from (v k) (names_fit k from g e) n o there auto values ls leaves;
    }

    body_typed : (k : ℕ) (g : Function) → slice_get gs k ≡ Some g → IsTypedBody (scene c (v k)) (result_of g.of) g.body
    body_typed k g e =
        let d : (m : ℕ) × (slice_get p.definitions k ≡ Some m) × (slice_get p.functions m ≡ Some g) = defined_from p.functions p.definitions definitions_there k g e in
        let f : (h : Function) × (slice_get p.functions d.0 ≡ Some h) × IsTypedFunction p h = typed.definitions k d.0 d.1 in
        let same : f.0 ≡ g = some_is f.0 g (sym f.1 ∙ d.2) in
        let body : IsTypedBody (scene_of p (listed g)) (result_of g.of) g.body = subst (λ (h : Function). IsTypedBody (scene_of p (listed h)) (result_of h.of) h.body) same f.2.body in
        subst (λ (o : Option Function). IsTypedBody (scene c (sees p.objects (own_of o))) (result_of g.of) g.body) (sym e) body

    pub all_fit : (k from : ℕ) (hs : List Function) (ps : List Part) → ((i : ℕ) → slice_get w.pure (k + i) ≡ slice_get ps i) → ((i : ℕ) → slice_get gs (k + i) ≡ slice_get hs i) → length ps ≡ length hs
        → StandFrom os from (local_objects names k hs w.pure) → AreFit c is os rs v k from hs (temporary_counts ps)
    all_fit k from [] ps same there count h = tt
    all_fit k from (g ∷ hs) [] same there count h = absurd (omega (arith, count))
    all_fit k from (g ∷ hs) (q ∷ ps) same there count h =
        let z : k + 0 ≡ k = omega arith in
        let part : part_at w.pure k ≡ q = part_is names w.pure os k q (subst (λ j. slice_get w.pure j ≡ Some q) z (same 0)) in
        let at : slice_get gs k ≡ Some g = subst (λ j. slice_get gs j ≡ Some g) z (there 0) in
        let rest : List Object = local_objects names (k + 1) hs w.pure in
        let later : StandFrom os (from + length (part_at w.pure k).temporaries + result_count g) rest = rest_stand names w.pure os k from g rest h in (
          record {
            frame = subst (λ m. FitsFrame (frame_for c is k from (length m.temporaries) g) os rs (v k)) part (frame_fits k from g rest at h);
            body = body_typed k g at;
          },
          all_fit (k + 1) (from + length q.temporaries + result_count g) hs ps
              (λ i. let s : k + 1 + i ≡ k + suc i = omega arith in ap (λ j. slice_get w.pure j) s ∙ same (suc i))
              (λ i. let s : k + 1 + i ≡ k + suc i = omega arith in ap (λ j. slice_get gs j) s ∙ there (suc i))
              (omega (arith, count))
              (subst (λ m. StandFrom os (from + length m.temporaries + result_count g) rest) part later),
        )
