-- Temporaries, results and sites stand under the numbers that lowering gives them.
use Rattle.std.proofs.Common.{◌≡◌, ℕ, zero, suc, ◌+◌, Bool, true, false, List, [], ◌∷◌, ◌++◌, length, map, Some, None, slice_get, if◌then◌else◌, refl, ap, sym, ◌∙◌, subst, arith, length-append}
use Rattle.std.proofs.lemmas.Option.{none-some}
use Rattle.sp_types.specs.Types.{CType, result_of}
use Rattle.sp_types.specs.Programs.{Function}
use Rattle.sp_ir.specs.declared.program.ObjectKind.TheVariants as kinds
use Rattle.sp_ir.specs.Programs.{Object}
use Rattle.sp_ir.specs.Formed.{is_site}
use Rattle.sp_lower_draft.specs.Context.{is_void}
use Rattle.sp_lower_draft.specs.Draft.{Site}
use Rattle.sp_lower_functions.specs.Functions.{Part, result_count, temporary_counts}
use Rattle.sp_lower_objects.specs.Codes.{known_part, part_at, number_in}
use Rattle.sp_lower_objects.specs.Names.{name_at, heap_name, foreign_name}
use Rattle.sp_lower_objects.specs.Objects.{plain_object, temporary_objects, result_objects, own_objects, local_objects, start_sites, site_object}
use Rattle.sp_lower.specs.Programs.{local_count, site_count}
use Rattle.sp_lower_expr_laws.specs.Stands.{Stands, site_kind}
use Rattle.sp_lower_body_laws.specs.Functions.{TemporariesStand, SitesStand}
use Rattle.sp_lower_starts_laws.proofs.Lists.{StandFrom, stand_left, stand_right, stand_first, some_is}
use Rattle.sp_lower_formed_laws.proofs.Objects.{IsHolder, IsPlain, temporary_at, temporary_length, result_at, result_length}

-- what holds a value of a function stands for it
held : (os : List Object) (k n : ℕ) (t : CType) (x : Object) → slice_get os n ≡ Some x → x.of ≡ Some t → x.function ≡ Some k → is_site x.kind ≡ false → Stands os k n t
held os k n t x there of owner site = record { object = x; there = there; of = of; no_site = site; own = λ local. owner }

own_length : (names : List (List ℕ)) (k : ℕ) (g : Function) (ts : List CType) → length (own_objects (name_at names g.name) k g ts) ≡ length ts + result_count g
own_length names k g ts =
    length-append (temporary_objects (name_at names g.name) k 1 ts) (result_objects (name_at names g.name) k (result_of g.of))
    ∙ ap (λ n. n + length (result_objects (name_at names g.name) k (result_of g.of))) (temporary_length (name_at names g.name) k 1 ts)
    ∙ ap (λ n. length ts + n) (result_length (name_at names g.name) k g)

module _ (names : List (List ℕ)) (all : List Part) (os : List Object) where
  -- the temporaries, and the result, of the function k
  pub own_stand : (k from : ℕ) (g : Function) (rest : List Object) → StandFrom os from (own_objects (name_at names g.name) k g (part_at all k).temporaries ++ rest)
      → (i : ℕ) (t : CType) → slice_get (part_at all k).temporaries i ≡ Some t → Stands os k (from + i) t
  own_stand k from g rest h i t e =
      let name : List ℕ = name_at names g.name in
      let ts : List CType = (part_at all k).temporaries in
      let own : StandFrom os from (temporary_objects name k 1 ts) =
      stand_left os from (temporary_objects name k 1 ts) (result_objects name k (result_of g.of)) (stand_left os from (own_objects name k g ts) rest h) in
      let x : (x : Object) × (slice_get (temporary_objects name k 1 ts) i ≡ Some x) × IsHolder kinds.Temp k t x = temporary_at name k 1 ts i t e in
      held os k (from + i) t x.0 (own i x.0 x.1) x.2.of x.2.owner (ap is_site x.2.is)

  pub result_stands : (k from : ℕ) (g : Function) (rest : List Object) → StandFrom os from (own_objects (name_at names g.name) k g (part_at all k).temporaries ++ rest) → is_void (result_of g.of) ≡ false
      → (x : Object) × (slice_get os (from + length (part_at all k).temporaries) ≡ Some x) × IsHolder kinds.Result k (result_of g.of) x
  result_stands k from g rest h there =
      let name : List ℕ = name_at names g.name in
      let ts : List CType = (part_at all k).temporaries in
      let x : (x : Object) × (result_objects name k (result_of g.of) ≡ x ∷ []) × IsHolder kinds.Result k (result_of g.of) x = result_at name k (result_of g.of) there in
      let behind : StandFrom os (from + length (temporary_objects name k 1 ts)) (result_objects name k (result_of g.of)) =
      stand_right os from (temporary_objects name k 1 ts) (result_objects name k (result_of g.of)) (stand_left os from (own_objects name k g ts) rest h) in
      let at : slice_get os (from + length (temporary_objects name k 1 ts)) ≡ Some x.0 =
      stand_first os (from + length (temporary_objects name k 1 ts)) x.0 [] (subst (λ xs. StandFrom os (from + length (temporary_objects name k 1 ts)) xs) x.1 behind) in
      (x.0, subst (λ n. slice_get os (from + n) ≡ Some x.0) (temporary_length name k 1 ts) at, x.2)

  pub result_held : (k n : ℕ) (t : CType) → ((x : Object) × (slice_get os n ≡ Some x) × IsHolder kinds.Result k t x) → Stands os k n t
  result_held k n t x = held os k n t x.0 x.1 x.2.of x.2.owner (ap is_site x.2.is)

  -- behind them those of the functions behind
  pub rest_stand : (k from : ℕ) (g : Function) (rest : List Object) → StandFrom os from (own_objects (name_at names g.name) k g (part_at all k).temporaries ++ rest)
      → StandFrom os (from + length (part_at all k).temporaries + result_count g) rest
  rest_stand k from g rest h =
      let ts : List CType = (part_at all k).temporaries in
      let n : from + length (own_objects (name_at names g.name) k g ts) ≡ from + length ts + result_count g = omega (arith, own_length names k g ts) in
      subst (λ m. StandFrom os m rest) n (stand_right os from (own_objects (name_at names g.name) k g ts) rest h)

  -- the part of the function k
  pub part_is : (k : ℕ) (p : Part) → slice_get all k ≡ Some p → part_at all k ≡ p
  part_is k p e = ap known_part e

  pub temporaries_stand : (k from : ℕ) (gs : List Function) (ps : List Part) → ((i : ℕ) → slice_get all (k + i) ≡ slice_get ps i) → StandFrom os from (local_objects names k gs all)
      → TemporariesStand os k from gs (temporary_counts ps) ps
  temporaries_stand k from [] ps same h = tt
  temporaries_stand k from (g ∷ gs) [] same h = tt
  temporaries_stand k from (g ∷ gs) (p ∷ ps) same h =
      let z : k + 0 ≡ k = omega arith in
      let is : part_at all k ≡ p = part_is k p (subst (λ j. slice_get all j ≡ Some p) z (same 0)) in
      let rest : List Object = local_objects names (k + 1) gs all in
      let later : StandFrom os (from + length (part_at all k).temporaries + result_count g) rest = rest_stand k from g rest h in (
        subst (λ q. (i : ℕ) (t : CType) → slice_get q.temporaries i ≡ Some t → Stands os k (from + i) t) is (own_stand k from g rest h),
        temporaries_stand (k + 1) (from + length p.temporaries + result_count g) gs ps (λ i. let s : k + 1 + i ≡ k + suc i = omega arith in ap (λ j. slice_get all j) s ∙ same (suc i))
            (subst (λ q. StandFrom os (from + length q.temporaries + result_count g) rest) is later),
      )

  -- how many there are
  counted : (ps : List Part) (k : ℕ) → number_in (temporary_counts ps) k ≡ length (part_at ps k).temporaries
  counted [] k = refl
  counted (p ∷ ps) zero = refl
  counted (p ∷ ps) (suc k) = counted ps k

  pub local_length : (k : ℕ) (gs : List Function) → length (local_objects names k gs all) ≡ local_count k gs (temporary_counts all)
  local_length k [] = refl
  local_length k (g ∷ gs) =
      let ts : List CType = (part_at all k).temporaries in
      let a : length (own_objects (name_at names g.name) k g ts ++ local_objects names (k + 1) gs all) ≡ length (own_objects (name_at names g.name) k g ts) + length (local_objects names (k + 1) gs all) =
      length-append (own_objects (name_at names g.name) k g ts) (local_objects names (k + 1) gs all) in
      a ∙ ap (λ n. n + length (local_objects names (k + 1) gs all)) (own_length names k g ts ∙ ap (λ n. n + result_count g) (sym (counted all k)))
      ∙ ap (λ n. number_in (temporary_counts all) k + result_count g + n) (local_length (k + 1) gs)

-- ---- sites

pub start_length : (b : Bool) → length (start_sites b) ≡ site_count b
start_length true = refl
start_length false = refl

pub record IsSiteLike (s : Site) (x : Object) : Type 0 where
  pub kind : x.kind ≡ site_kind s
  pub of : x.of ≡ s.of
  pub owner : x.function ≡ None
  pub plain : IsPlain x

pub site_like : (s : Site) → IsSiteLike s (site_object s)
site_like s = by s.heap
  where
    by : (b : Bool) → IsSiteLike (record { node = s.node; of = s.of; heap = b }) (if b then plain_object (kinds.Heap s.node) s.of (heap_name s.node) None else plain_object (kinds.Foreign s.node) s.of (foreign_name s.node) None)
    by true = record { kind = refl; of = refl; owner = refl; plain = record { start = refl; zero = refl; code = refl } }
    by false = record { kind = refl; of = refl; owner = refl; plain = record { start = refl; zero = refl; code = refl } }

pub mapped_at : {A B : Type 0} (f : A → B) (xs : List A) (i : ℕ) (x : A) → slice_get xs i ≡ Some x → slice_get (map f xs) i ≡ Some (f x)
mapped_at f [] i x e = absurd (none-some x e)
mapped_at f (y ∷ xs) zero x e = ap (λ z. Some (f z)) (some_is y x e)
mapped_at f (y ∷ xs) (suc i) x e = mapped_at f xs i x e

pub mapped_from : {A B : Type 0} (f : A → B) (xs : List A) (i : ℕ) (y : B) → slice_get (map f xs) i ≡ Some y → (x : A) × (slice_get xs i ≡ Some x) × (f x ≡ y)
mapped_from f [] i y e = absurd (none-some y e)
mapped_from f (z ∷ xs) zero y e = (z, refl, some_is (f z) y e)
mapped_from f (z ∷ xs) (suc i) y e = mapped_from f xs i y e

pub sites_stand : (os : List Object) (from : ℕ) (sites : List Site) → StandFrom os from (map site_object sites) → SitesStand os from sites
sites_stand os from sites h i x e = record { object = site_object x; there = h i (site_object x) (mapped_at site_object sites i x e); kind = (site_like x).kind }
