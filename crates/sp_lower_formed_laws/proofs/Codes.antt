-- The codes of defined functions.
use Rattle.std.proofs.Common.{◌≡◌, ℕ, zero, suc, ◌+◌, Bool, true, false, List, [], ◌∷◌, ◌++◌, length, Some, None, slice_get, if◌then◌else◌, refl, ap, subst, arith}
use Rattle.std.proofs.lemmas.Option.{none-some}
use Rattle.sp_types.specs.Types.{result_of}
use Rattle.sp_types.specs.Programs.{Function}
use Rattle.sp_ir.specs.declared.program.ObjectKind.TheVariants as kinds
use Rattle.sp_ir.specs.Programs.{Object, Code}
use Rattle.sp_ir.specs.Formed.{IsMaybeOwned}
use Rattle.sp_lower_draft.specs.Context.{Context, is_void}
use Rattle.sp_lower_draft.specs.Draft.{Draft}
use Rattle.sp_lower_body.specs.Frames.{Initial}
use Rattle.sp_lower_functions.specs.Functions.{Part, result_count, frame_for, first_count, counts_behind, lower_function, lower_functions}
use Rattle.sp_lower_objects.specs.Codes.{part_at, number_in, result_object, first_behind, code_for, codes_from}
use Rattle.sp_lower_objects.specs.Names.{name_at}
use Rattle.sp_lower_objects.specs.Objects.{own_objects, local_objects}
use Rattle.sp_lower_starts_laws.proofs.Lists.{StandFrom, some_is}
use Rattle.sp_lower_formed_laws.proofs.Objects.{IsHolder}
use Rattle.sp_lower_formed_laws.proofs.Locals.{result_stands, rest_stand}

-- each function has its part
pub parts_length : (c : Context) (is : List Initial) (k from : ℕ) (gs : List Function) (ns : List ℕ) (s : Draft) → length (lower_functions c is k from gs ns s).pure ≡ length gs
parts_length c is k from [] ns s = refl
parts_length c is k from (g ∷ gs) ns s =
    ap suc (parts_length c is (k + 1) (from + first_count ns + result_count g) gs (counts_behind ns) (lower_function (frame_for c is k from (first_count ns) g) g s))

-- what the code of the function k is
pub record IsCodeFor (os : List Object) (before : ℕ) (ns : List ℕ) (ps : List Part) (k : ℕ) (g : Function) (x : Code) : Type 0 where
  pub entry : x.entry ≡ (part_at ps k).entry
  pub exit : x.exit ≡ (part_at ps k).exit
  pub formals : x.formals ≡ g.formals
  pub object : x.object ≡ before + number_in ns k
  pub result : IsMaybeOwned os k kinds.Result x.result

module _ (names : List (List ℕ)) (os : List Object) (before : ℕ) (ns : List ℕ) (ps : List Part) where
  result_owned : (k from : ℕ) (g : Function) (rest : List Object) → StandFrom os from (own_objects (name_at names g.name) k g (part_at ps k).temporaries ++ rest)
      → IsMaybeOwned os k kinds.Result (result_object from g (part_at ps k))
  result_owned k from g rest h = by (is_void (result_of g.of)) refl
    where
      by : (b : Bool) → is_void (result_of g.of) ≡ b → IsMaybeOwned os k kinds.Result (if b then None else Some (from + length (part_at ps k).temporaries))
      by true e = tt
      by false e =
          let x : (x : Object) × (slice_get os (from + length (part_at ps k).temporaries) ≡ Some x) × IsHolder kinds.Result k (result_of g.of) x = result_stands names ps os k from g rest h e in
          record { object = x.0; there = x.1; is = x.2.is; of = x.2.owner }

  first_code : (k from : ℕ) (g : Function) (rest : List Object) → StandFrom os from (own_objects (name_at names g.name) k g (part_at ps k).temporaries ++ rest)
      → IsCodeFor os before ns ps k g (code_for (before + number_in ns k) from g (part_at ps k))
  first_code k from g rest h = record { entry = refl; exit = refl; formals = refl; object = refl; result = result_owned k from g rest h }

  pub code_from : (k from : ℕ) (gs : List Function) → StandFrom os from (local_objects names k gs ps) → (i : ℕ) (x : Code) → slice_get (codes_from before ns ps k from gs) i ≡ Some x
      → (g : Function) × (slice_get gs i ≡ Some g) × IsCodeFor os before ns ps (k + i) g x
  code_from k from [] h i x e = absurd (none-some x e)
  code_from k from (g ∷ gs) h zero x e =
      let rest : List Object = local_objects names (k + 1) gs ps in
      let s : k ≡ k + 0 = omega arith in
      (g, refl, subst (λ j. IsCodeFor os before ns ps j g x) s (subst (λ y. IsCodeFor os before ns ps k g y) (some_is (code_for (before + number_in ns k) from g (part_at ps k)) x e) (first_code k from g rest h)))
  code_from k from (g ∷ gs) h (suc i) x e =
      let rest : List Object = local_objects names (k + 1) gs ps in
      let w : (f : Function) × (slice_get gs i ≡ Some f) × IsCodeFor os before ns ps (k + 1 + i) f x =
      code_from (k + 1) (first_behind from g (part_at ps k)) gs (rest_stand names ps os k from g rest h) i x e in
      let s : k + 1 + i ≡ k + suc i = omega arith in
      (w.0, w.1, subst (λ j. IsCodeFor os before ns ps j w.0 x) s w.2)

  pub code_at : (k from : ℕ) (gs : List Function) → StandFrom os from (local_objects names k gs ps) → (i : ℕ) (g : Function) → slice_get gs i ≡ Some g
      → (x : Code) × (slice_get (codes_from before ns ps k from gs) i ≡ Some x) × IsCodeFor os before ns ps (k + i) g x
  code_at k from [] h i g e = absurd (none-some g e)
  code_at k from (f ∷ gs) h zero g e =
      let rest : List Object = local_objects names (k + 1) gs ps in
      let x : Code = code_for (before + number_in ns k) from f (part_at ps k) in
      let s : k ≡ k + 0 = omega arith in
      (x, refl, subst (λ j. IsCodeFor os before ns ps j g x) s (subst (λ z. IsCodeFor os before ns ps k z x) (some_is f g e) (first_code k from f rest h)))
  code_at k from (f ∷ gs) h (suc i) g e =
      let rest : List Object = local_objects names (k + 1) gs ps in
      let w : (x : Code) × (slice_get (codes_from before ns ps (k + 1) (first_behind from f (part_at ps k)) gs) i ≡ Some x) × IsCodeFor os before ns ps (k + 1 + i) g x =
      code_at (k + 1) (first_behind from f (part_at ps k)) gs (rest_stand names ps os k from f rest h) i g e in
      let s : k + 1 + i ≡ k + suc i = omega arith in
      (w.0, w.1, subst (λ j. IsCodeFor os before ns ps j g w.0) s w.2)

  pub codes_length : (k from : ℕ) (gs : List Function) → length (codes_from before ns ps k from gs) ≡ length gs
  codes_length k from [] = refl
  codes_length k from (g ∷ gs) = ap suc (codes_length (k + 1) (first_behind from g (part_at ps k)) gs)
