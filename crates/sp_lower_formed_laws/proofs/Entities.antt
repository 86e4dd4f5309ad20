-- Each object of a lowered program is formed.
use Rattle.std.proofs.Common.{◌≡◌, ◌⊎◌, inl, inr, ℕ, zero, suc, ◌+◌, ◌<◌, Bool, true, false, List, [], ◌++◌, length, Option, Some, None, slice_get, if◌then◌else◌, refl, ap, sym, ◌∙◌, subst, arith}
use Rattle.std.specs.Prelude.{All}
use Rattle.std.proofs.lemmas.Option.{none-some}
use Rattle.sp_types.specs.declared.program.Storage.{Storage}
use Rattle.sp_types.specs.declared.program.Storage.TheVariants as storage
use Rattle.sp_types.specs.Types.{CType, function, Signature, signature, result_of}
use Rattle.sp_types.specs.Structs.{IsFormed, IsFormedSignature}
use Rattle.sp_types.specs.Programs as program
use Rattle.sp_types.specs.Programs.{Function, Program}
use Rattle.sp_ir.specs.declared.program.ObjectKind.{ObjectKind}
use Rattle.sp_ir.specs.declared.program.ObjectKind.TheVariants as kinds
use Rattle.sp_ir.specs.Commands.{Leaf}
use Rattle.sp_ir.specs.Programs.{Object, Lowered}
use Rattle.sp_ir.specs.Formed.{table_of, is_site, is_local, starts, reads, IsStart, HasStart, HasOwner, HasType, NamesCode, IsObject}
use Rattle.sp_lower_draft.specs.Context.{Context}
use Rattle.sp_lower_draft.specs.Draft.{Site, Left}
use Rattle.sp_lower_body.specs.Frames.{known_initial}
use Rattle.sp_lower_functions.specs.Functions.{Part}
use Rattle.sp_lower_objects.specs.Codes.{known_part, part_at, known_number, number_in}
use Rattle.sp_lower_objects.specs.Objects.{kind_of_storage, owner_of, start_of, zero_of, function_names, start_sites, site_object}
use Rattle.sp_lower_objects.specs.Owners.{mark_at}
use Rattle.sp_lower.specs.Programs.{first_local, declared_with, made_with, IsNumbered}
use Rattle.sp_check_typing.specs.Programs.{Lists, IsTypedObject, IsTypedProgram}
use Rattle.sp_check_typing.specs.Statements.{is_lasting}
use Rattle.sp_lower_expr_laws.specs.Stands.{site_kind}
use Rattle.sp_lower_expr_laws.specs.Sound.{IsFormedSite}
use Rattle.sp_lower_starts_laws.specs.Starts.{StartsStand}
use Rattle.sp_lower_starts_laws.proofs.Lists.{place_cases, some_is}
use Rattle.sp_lower_formed_laws.proofs.Owners.{code_defines}
use Rattle.sp_lower_formed_laws.proofs.Objects.{IsProgramObject, program_from, program_length, IsFunctionObject, function_from, IsHolder, IsOwn, temporary, result, local_from}
use Rattle.sp_lower_formed_laws.proofs.Locals.{IsSiteLike, site_like, mapped_from}
use Rattle.sp_lower_formed_laws.proofs.Codes.{code_at}
use Rattle.sp_lower_formed_laws.proofs.Fits.{gs, c, is, due, os, rs, owners, codes, unit_objects, functions, locals, sites, definitions_there, defined_at, defined_from, locals_stand, owner_is}
use Rattle.sp_lower_formed_laws.proofs.Whole.{l, sound, lowered, temporaries_there, sites_there, begins_sound, function_below, listed_function, typed_as, no_owner, some_owner, no_start, none_read, no_code}

result_formed : (p : Program) (s : Signature) → IsFormedSignature p.structs s → IsFormed p.structs (result_of s)
result_formed p (signature r ps dots) h = h.0

site_heap : (s : Site) → (is_site (site_kind s) ≡ true) × (is_local (site_kind s) ≡ false) × (starts (site_kind s) ≡ false)
site_heap s = by s.heap
  where
    by : (b : Bool) → (is_site (if b then kinds.Heap s.node else kinds.Foreign s.node) ≡ true) × (is_local (if b then kinds.Heap s.node else kinds.Foreign s.node) ≡ false) × (starts (if b then kinds.Heap s.node else kinds.Foreign s.node) ≡ false)
    by true = (refl, refl, refl)
    by false = (refl, refl, refl)

module _ (p : Program) (names : List (List ℕ)) (typed : IsTypedProgram p) (w : Left (List Part)) (numbered : IsNumbered p names w)
    (starting : StartsStand p (c p names typed w numbered) (os p names typed w numbered) (rs p names typed w numbered) (is p names typed w numbered)) where
  abbrev low : Lowered
  low = l p names typed w numbered starting

  abbrev fs : List Function
  fs = gs p names typed w numbered

  abbrev ctx : Context
  ctx = c p names typed w numbered

  abbrev all : List Object
  all = os p names typed w numbered

  -- ---- objects of the units

  module _ (n : ℕ) (o : program.Object) (there : slice_get p.objects n ≡ Some o) (x : Object) (h : IsProgramObject ctx (owners p names typed w numbered) (is p names typed w numbered) n o x) where
    given : IsTypedObject p n o
    given = typed.objects n o there

    static_start : starts (kind_of_storage o.storage) ≡ true → HasStart low n x (starts x.kind)
    static_start k = subst (λ b. HasStart low n x b) (sym (ap starts h.kind ∙ k)) (
      o.of,
      h.of,
      subst (λ vs. IsStart (table_of low) low.regions None n o.of vs x.zero) (sym h.start)
          (subst (λ zs. IsStart (table_of low) low.regions None n o.of (start_of ctx o.storage (known_initial (slice_get (is p names typed w numbered) n)).cells o.start) zs) (sym h.zero)
          (starting.static n o there k)),
    )

    constant_start : All (λ (v : Leaf). reads v.value ≡ false) x.start
    constant_start = subst (All (λ (v : Leaf). reads v.value ≡ false)) (sym h.start) (starting.constant n o there)

    owned_by : is_local (kind_of_storage o.storage) ≡ true → is_lasting o.storage ≡ false → owner_of o.storage (mark_at (owners p names typed w numbered) n) ≡ mark_at (owners p names typed w numbered) n
        → HasOwner low x (is_local x.kind)
    owned_by k local same =
        let own : (j : ℕ) × Lists p j n = given.owned local in
        let g : (g : Function) × (slice_get fs own.0 ≡ Some g) = listed_function p names typed w numbered starting n own.0 own.1 in
        let same_g : own.1.function ≡ g.0 = some_is own.1.function g.0 (sym (defined_at p.functions p.definitions (definitions_there p names typed w numbered) own.0 own.1.number own.1.function own.1.defined own.1.there) ∙ g.1) in
        some_owner p names typed w numbered starting x (kind_of_storage o.storage) own.0 h.kind k
        (h.function ∙ same ∙ owner_is p names typed w numbered own.0 n g.0 o g.1 (subst (λ f. (i : ℕ) × (slice_get (f.formals ++ f.locals) i ≡ Some n)) same_g (own.1.index, own.1.listed)) there)
        (function_below p names typed w numbered starting own.0 g.0 g.1)

    plain_start : (s : Storage) → o.storage ≡ s → starts (kind_of_storage s) ≡ false → start_of ctx s (known_initial (slice_get (is p names typed w numbered) n)).cells o.start ≡ []
        → zero_of s (known_initial (slice_get (is p names typed w numbered) n)).zero ≡ [] → HasStart low n x (starts x.kind)
    plain_start s e k a b =
        no_start p names typed w numbered starting n x (kind_of_storage s) (h.kind ∙ ap kind_of_storage e) k
        (h.start ∙ ap (λ t. start_of ctx t (known_initial (slice_get (is p names typed w numbered) n)).cells o.start) e ∙ a)
        (h.zero ∙ ap (λ t. zero_of t (known_initial (slice_get (is p names typed w numbered) n)).zero) e ∙ b)

    plain_owner : (s : Storage) → o.storage ≡ s → is_local (kind_of_storage s) ≡ false → owner_of s (mark_at (owners p names typed w numbered) n) ≡ None → HasOwner low x (is_local x.kind)
    plain_owner s e k a = no_owner p names typed w numbered starting x (kind_of_storage s) (h.kind ∙ ap kind_of_storage e) k (h.function ∙ ap (λ t. owner_of t (mark_at (owners p names typed w numbered) n)) e ∙ a)

    local_owner : (s : Storage) → o.storage ≡ s → is_local (kind_of_storage s) ≡ true → is_lasting s ≡ false → owner_of s (mark_at (owners p names typed w numbered) n) ≡ mark_at (owners p names typed w numbered) n
        → HasOwner low x (is_local x.kind)
    local_owner s e k a b = owned_by (ap (λ t. is_local (kind_of_storage t)) e ∙ k) (ap is_lasting e ∙ a)
        (ap (λ t. owner_of t (mark_at (owners p names typed w numbered) n)) e ∙ b)

    unit_formed : (s : Storage) → o.storage ≡ s → IsObject low n x
    unit_formed storage.Static e = record {
      typed = typed_as p names typed w numbered starting x o.of h.of given.formed;
      owned = plain_owner storage.Static e refl refl;
      start = static_start (ap (λ t. starts (kind_of_storage t)) e);
      constant = constant_start;
      code = no_code p names typed w numbered starting n x h.code;
    }
    unit_formed storage.Text e = record {
      typed = typed_as p names typed w numbered starting x o.of h.of given.formed;
      owned = plain_owner storage.Text e refl refl;
      start = static_start (ap (λ t. starts (kind_of_storage t)) e);
      constant = constant_start;
      code = no_code p names typed w numbered starting n x h.code;
    }
    unit_formed storage.Outside e = record {
      typed = typed_as p names typed w numbered starting x o.of h.of given.formed;
      owned = plain_owner storage.Outside e refl refl;
      start = plain_start storage.Outside e refl refl refl;
      constant = constant_start;
      code = no_code p names typed w numbered starting n x h.code;
    }
    unit_formed storage.Auto e = record {
      typed = typed_as p names typed w numbered starting x o.of h.of given.formed;
      owned = local_owner storage.Auto e refl refl refl;
      start = plain_start storage.Auto e refl refl refl;
      constant = constant_start;
      code = no_code p names typed w numbered starting n x h.code;
    }
    unit_formed storage.Formal e = record {
      typed = typed_as p names typed w numbered starting x o.of h.of given.formed;
      owned = local_owner storage.Formal e refl refl refl;
      start = plain_start storage.Formal e refl refl refl;
      constant = constant_start;
      code = no_code p names typed w numbered starting n x h.code;
    }

  -- ---- functions

  -- a function's object and its code name one another
  code_named : (i : ℕ) (o : Option ℕ) → mark_at (codes p names typed w numbered) i ≡ o → NamesCode low (length p.objects + i) o
  code_named i None e = tt
  code_named i (Some k) e =
      let d : slice_get p.definitions k ≡ Some i = code_defines p.functions p.definitions i k e in
      let g = typed.definitions k i d in
      let at : slice_get fs k ≡ Some g.0 = defined_at p.functions p.definitions (definitions_there p names typed w numbered) k i g.0 d g.1 in
      let x = code_at names all (length p.objects) p.definitions w.pure 0 (first_local p) fs (locals_stand p names typed w numbered) k g.0 at in
      let s : 0 + k ≡ k = omega arith in
      (x.0, x.1, x.2.object ∙ ap (λ j. length p.objects + number_in p.definitions j) s ∙ ap (λ m. length p.objects + known_number m) d)

  function_formed : (i : ℕ) (f : Function) (x : Object) → slice_get p.functions i ≡ Some f → IsFunctionObject (codes p names typed w numbered) i f x → IsObject low (length p.objects + i) x
  function_formed i f x there h = record {
    typed = typed_as p names typed w numbered starting x (function f.of) h.of (typed.functions i f there);
    owned = no_owner p names typed w numbered starting x (kinds.Function i) h.kind refl h.owner;
    start = no_start p names typed w numbered starting (length p.objects + i) x (kinds.Function i) h.kind refl h.start h.zero;
    constant = none_read x h.start;
    code = subst (λ o. NamesCode low (length p.objects + i) o) (sym h.code) (code_named i (mark_at (codes p names typed w numbered) i) refl);
  }

  -- ---- temporaries and results

  held_formed : (n k : ℕ) (kind : ObjectKind) (t : CType) (x : Object) → is_local kind ≡ true → starts kind ≡ false → IsHolder kind k t x → IsFormed p.structs t → k < length low.functions → IsObject low n x
  held_formed n k kind t x local s h f below = record {
    typed = typed_as p names typed w numbered starting x t h.of f;
    owned = some_owner p names typed w numbered starting x kind k h.is local h.owner below;
    start = no_start p names typed w numbered starting n x kind h.is s h.plain.start h.plain.zero;
    constant = none_read x h.plain.start;
    code = no_code p names typed w numbered starting n x h.plain.code;
  }

  temporary_formed : (m i : ℕ) (t : CType) → slice_get (part_at w.pure m).temporaries i ≡ Some t → IsFormed p.structs t
  temporary_formed m i t e = by (slice_get w.pure m) refl
    where
      by : (o : Option Part) → slice_get w.pure m ≡ o → IsFormed p.structs t
      by None q = absurd (none-some t (ap (λ o. slice_get (known_part o).temporaries i) (sym q) ∙ e))
      by (Some r) q =
          (lowered p names typed w numbered starting).temporaries (temporaries_there p names typed w numbered starting) (sites_there p names typed w numbered starting) (begins_sound p names typed w numbered starting)
          m r q i t (ap (λ o. slice_get (known_part o).temporaries i) (sym q) ∙ e)

  own_formed : (n : ℕ) (x : Object) → IsOwn w.pure 0 fs x → IsObject low n x
  own_formed n x (temporary m i g t e there h) =
      held_formed n (0 + m) kinds.Temp t x refl refl h (temporary_formed (0 + m) i t there) (let s : m ≡ 0 + m = omega arith in subst (λ j. j < length low.functions) s (function_below p names typed w numbered starting m g e))
  own_formed n x (result m g e there h) =
      let d : (j : ℕ) × (slice_get p.definitions m ≡ Some j) × (slice_get p.functions j ≡ Some g) = defined_from p.functions p.definitions (definitions_there p names typed w numbered) m g e in
      held_formed n (0 + m) kinds.Result (result_of g.of) x refl refl h (result_formed p g.of (typed.functions d.0 g d.2))
      (let s : m ≡ 0 + m = omega arith in subst (λ j. j < length low.functions) s (function_below p names typed w numbered starting m g e))

  -- ---- sites

  site_typed : (x : Object) (s : Site) → IsSiteLike s x → IsFormedSite p.structs s.of → HasType low x.of (is_site x.kind)
  site_typed x s h f = subst (λ b. HasType low x.of b) (sym (ap is_site h.kind ∙ (site_heap s).0)) (subst (λ o. HasType low o true) (sym h.of) (by s.of f))
    where
      by : (o : Option CType) → IsFormedSite p.structs o → HasType low o true
      by None f = refl
      by (Some t) f = f

  site_formed : (n : ℕ) (x : Object) (s : Site) → IsSiteLike s x → IsFormedSite p.structs s.of → IsObject low n x
  site_formed n x s h f = record {
    typed = site_typed x s h f;
    owned = no_owner p names typed w numbered starting x (site_kind s) h.kind (site_heap s).1 h.owner;
    start = no_start p names typed w numbered starting n x (site_kind s) h.kind (site_heap s).2 h.plain.start h.plain.zero;
    constant = none_read x h.plain.start;
    code = no_code p names typed w numbered starting n x h.plain.code;
  }

  outside_formed : (b : Bool) (n m : ℕ) (x : Object) → slice_get (start_sites b) m ≡ Some x → IsObject low n x
  outside_formed true n zero x e =
      let like : IsSiteLike (record { node = 0; of = None; heap = false }) x = subst (λ y. IsSiteLike (record { node = 0; of = None; heap = false }) y) (some_is _ x e)
      (record { kind = refl; of = refl; owner = refl; plain = record { start = refl; zero = refl; code = refl } }) in
      site_formed n x (record { node = 0; of = None; heap = false }) like tt
  outside_formed true n (suc m) x e = absurd (none-some x e)
  outside_formed false n m x e = absurd (none-some x e)

  -- ---- all objects

  made_formed : (n m : ℕ) (x : Object) → slice_get (made_with p names (due p names typed w numbered) w) m ≡ Some x → IsObject low n x
  made_formed n m x e = first (place_cases (locals p names typed w numbered) (start_sites (due p names typed w numbered) ++ sites p names typed w numbered) m x e)
    where
      second : (i : ℕ) → (slice_get (start_sites (due p names typed w numbered)) i ≡ Some x) ⊎ ((j : ℕ) × (i ≡ length (start_sites (due p names typed w numbered)) + j) × (slice_get (sites p names typed w numbered) j ≡ Some x)) → IsObject low n x
      second i (inl e) = outside_formed (due p names typed w numbered) n i x e
      second i (inr e) =
          let s : (s : Site) × (slice_get w.after.sites e.0 ≡ Some s) × (site_object s ≡ x) = mapped_from site_object w.after.sites e.0 x e.2 in
          site_formed n x s.0 (subst (λ y. IsSiteLike s.0 y) s.2 (site_like s.0)) ((sound p names typed w numbered starting).elements e.0 s.0 s.1)

      first : (slice_get (locals p names typed w numbered) m ≡ Some x) ⊎ ((i : ℕ) × (m ≡ length (locals p names typed w numbered) + i) × (slice_get (start_sites (due p names typed w numbered) ++ sites p names typed w numbered) i ≡ Some x)) → IsObject low n x
      first (inl e) = own_formed n x (local_from names w.pure 0 fs m x e)
      first (inr e) = second e.0 (place_cases (start_sites (due p names typed w numbered)) (sites p names typed w numbered) e.0 x e.2)

  declared_formed : (n : ℕ) (x : Object) → slice_get (unit_objects p names typed w numbered ++ functions p names typed w numbered) n ≡ Some x → IsObject low n x
  declared_formed n x e = by (place_cases (unit_objects p names typed w numbered) (functions p names typed w numbered) n x e)
    where
      by : (slice_get (unit_objects p names typed w numbered) n ≡ Some x) ⊎ ((m : ℕ) × (n ≡ length (unit_objects p names typed w numbered) + m) × (slice_get (functions p names typed w numbered) m ≡ Some x)) → IsObject low n x
      by (inl e) =
          let h = program_from ctx names (function_names fs) (owners p names typed w numbered) (is p names typed w numbered) 0 0 p.objects n x e in
          let s : 0 + n ≡ n = omega arith in
          unit_formed n h.0 h.1 x (subst (λ m. IsProgramObject ctx (owners p names typed w numbered) (is p names typed w numbered) m h.0 x) s h.2) h.0.storage refl
      by (inr e) =
          let h = function_from names (codes p names typed w numbered) 0 p.functions e.0 x e.2 in
          let s : 0 + e.0 ≡ e.0 = omega arith in
          let number : length p.objects + e.0 ≡ n = omega (arith, e.1, program_length ctx names (function_names fs) (owners p names typed w numbered) (is p names typed w numbered) 0 0 p.objects) in
          subst (λ m. IsObject low m x) number (function_formed e.0 h.0 x h.1 (subst (λ m. IsFunctionObject (codes p names typed w numbered) m h.0 x) s h.2))

  pub object_formed : (n : ℕ) (x : Object) → slice_get all n ≡ Some x → IsObject low n x
  object_formed n x e = by (place_cases (declared_with p names ctx (is p names typed w numbered)) (made_with p names (due p names typed w numbered) w) n x e)
    where
      by : (slice_get (declared_with p names ctx (is p names typed w numbered)) n ≡ Some x) ⊎ ((m : ℕ) × (n ≡ length (declared_with p names ctx (is p names typed w numbered)) + m) × (slice_get (made_with p names (due p names typed w numbered) w) m ≡ Some x)) → IsObject low n x
      by (inl e) = declared_formed n x e
      by (inr e) = made_formed n e.0 x e.2
