-- In a lowered program functions alone have function kind, and they have function type.
use Rattle.std.proofs.Common.{◌≡◌, ℕ, zero, suc, ◌+◌, Bool, true, false, if◌then◌else◌, List, [], ◌∷◌, ◌++◌, map, Option, Some, None, slice_get, refl, ap, sym, ◌∙◌, subst}
use Rattle.std.specs.Prelude.{⊤, unwrap_or}
use Rattle.std.proofs.lemmas.Option.{none-some}
use Rattle.sp_types.specs.declared.program.Storage.{Storage}
use Rattle.sp_types.specs.declared.program.Storage.TheVariants as storage
use Rattle.sp_ir.specs.declared.program.ObjectKind.TheVariants as kinds
use Rattle.sp_types.specs.Types.{CType, void, function, result_of}
use Rattle.sp_types.specs.Programs as checked
use Rattle.sp_types.specs.Programs.{Program, Function}
use Rattle.sp_types.specs.Structs.{IsTable}
use Rattle.sp_ir.specs.Programs.{Object, Lowered}
use Rattle.sp_ir.specs.Formed.{table_of, HaveRegions}
use Rattle.sp_base_layout_laws.specs.Laws.{HaveMembers}
use Rattle.sp_lower_draft.specs.Context.{Context, is_void}
use Rattle.sp_lower_draft.specs.Draft.{Site, Left}
use Rattle.sp_lower_body.specs.Frames.{Initial}
use Rattle.sp_lower_functions.specs.Functions.{Part}
use Rattle.sp_lower_objects.specs.Codes.{part_at}
use Rattle.sp_lower_objects.specs.Names.{name_at, result_name, heap_name, foreign_name}
use Rattle.sp_lower_objects.specs.Objects.{plain_object, kind_of_storage, texts_behind, program_objects, function_objects, temporary_objects, result_objects, own_objects, local_objects, start_sites, site_object}
use Rattle.sp_lower_objects.specs.Regions.{is_function}
use Rattle.sp_lower.specs.Programs.{IsLowering, objects_with, lowered_program, context_of_lowered, defined, start_due, made_with, declared_with}
use Rattle.sp_lower_objects.specs.Initials.{initials_from}
use Rattle.sp_lower_program_laws.specs.Laws.{HasFunctionType, HaveFunctionTypes, table_with, LoweredRegionsHold}
use Rattle.sp_lower_program_laws.proofs.Regions.{false-true, all-have}

abbrev AreTyped : List Object → Type 0
AreTyped [] = ⊤
AreTyped (o ∷ os) = HasFunctionType o × AreTyped os

typed-append : (xs ys : List Object) → AreTyped xs → AreTyped ys → AreTyped (xs ++ ys)
typed-append [] ys h k = k
typed-append (x ∷ xs) ys h k = (h.0, typed-append xs ys h.1 k)

typed-at : (os : List Object) → AreTyped os → HaveFunctionTypes os
typed-at [] h n o there = absurd (none-some o there)
typed-at (x ∷ os) h zero o there =
    let P : Option Object → Type 0 = λ m. HasFunctionType (unwrap_or m x) in
    subst P there h.0
typed-at (x ∷ os) h (suc n) o there = typed-at os h.1 n o there

-- ---- one object

storage-no : (s : Storage) → is_function (kind_of_storage s) ≡ false
storage-no storage.Static = refl
storage-no storage.Outside = refl
storage-no storage.Text = refl
storage-no storage.Auto = refl
storage-no storage.Formal = refl

-- ---- each list

program-typed : (c : Context) (names : List (List ℕ)) (fs : List ℕ) (owners : List (Option ℕ)) (is : List Initial) (texts n : ℕ) (os : List checked.Object)
    → AreTyped (program_objects c names fs owners is texts n os)
program-typed c names fs owners is texts n [] = tt
program-typed c names fs owners is texts n (o ∷ os) =
    ((λ t yes there. false-true (sym (storage-no o.storage) ∙ yes)), program-typed c names fs owners is (texts_behind o.storage texts) (n + 1) os)

functions-typed : (names : List (List ℕ)) (codes : List (Option ℕ)) (n : ℕ) (fs : List Function) → AreTyped (function_objects names codes n fs)
functions-typed names codes n [] = tt
functions-typed names codes n (f ∷ fs) =
    ((λ t yes there. (f.of, sym (ap (λ o. unwrap_or o void) there))), functions-typed names codes (n + 1) fs)

temporaries-typed : (name : List ℕ) (k n : ℕ) (ts : List CType) → AreTyped (temporary_objects name k n ts)
temporaries-typed name k n [] = tt
temporaries-typed name k n (t ∷ ts) = ((λ u yes there. false-true yes), temporaries-typed name k (n + 1) ts)

one-typed : (b : Bool) (o : Object) → HasFunctionType o → AreTyped (if b then [] else o ∷ [])
one-typed true o h = tt
one-typed false o h = (h, tt)

result-typed : (name : List ℕ) (k : ℕ) (t : CType) → AreTyped (result_objects name k t)
result-typed name k t =
    one-typed (is_void t) (plain_object kinds.Result (Some t) (result_name name) (Some k)) (λ u yes there. false-true yes)

locals-typed : (names : List (List ℕ)) (k : ℕ) (gs : List Function) (ps : List Part) → AreTyped (local_objects names k gs ps)
locals-typed names k [] ps = tt
locals-typed names k (g ∷ gs) ps =
    typed-append (own_objects (name_at names g.name) k g (part_at ps k).temporaries) _
    (typed-append (temporary_objects (name_at names g.name) k 1 (part_at ps k).temporaries) _
    (temporaries-typed (name_at names g.name) k 1 (part_at ps k).temporaries)
    (result-typed (name_at names g.name) k (result_of g.of)))
    (locals-typed names (k + 1) gs ps)

start-typed : (b : Bool) → AreTyped (start_sites b)
start-typed true = ((λ t yes there. false-true yes), tt)
start-typed false = tt

site-typed : (b : Bool) (x y : Object) → HasFunctionType x → HasFunctionType y → HasFunctionType (if b then x else y)
site-typed true x y h k = h
site-typed false x y h k = k

sites-typed : (ss : List Site) → AreTyped (map site_object ss)
sites-typed [] = tt
sites-typed (s ∷ ss) = (
  site-typed s.heap (plain_object (kinds.Heap s.node) s.of (heap_name s.node) None)
      (plain_object (kinds.Foreign s.node) s.of (foreign_name s.node) None)
      (λ t yes there. false-true yes) (λ t yes there. false-true yes),
  sites-typed ss,
)

objects-typed : (p : Program) (names : List (List ℕ)) (c : Context) (is : List Initial) (due : Bool) (w : Left (List Part)) → AreTyped (objects_with p names c is due w)
objects-typed p names c is due w =
    typed-append (declared_with p names c is) (made_with p names due w)
    (typed-append _ _ (program-typed c names _ _ is 0 0 p.objects) (functions-typed names _ 0 p.functions))
    (typed-append (local_objects names 0 (defined p) w.pure) _ (locals-typed names 0 (defined p) w.pure)
    (typed-append (start_sites due) _ (start-typed due) (sites-typed w.after.sites)))

-- ---- the whole

whole-holds : (p : Program) (names : List (List ℕ)) (w : Left (List Part)) → IsTable p.structs → HaveMembers p.structs
    → HaveRegions (table_of (lowered_program p names w)) 0 (lowered_program p names w).objects (lowered_program p names w).regions
whole-holds p names w table some =
    let os : List Object = (lowered_program p names w).objects in
    all-have (table_with p.structs os) table some 0 os
    (typed-at os (objects-typed p names (context_of_lowered p names) (initials_from p.structs 0 p.objects) (start_due p names) w))

pub lowered-holds : (p : Program) (names : List (List ℕ)) (l : Lowered) → LoweredRegionsHold p names l
lowered-holds p names l lowering table some =
    let P : Lowered → Type 0 = λ x. HaveRegions (table_of x) 0 x.objects x.regions in
    subst P (sym lowering.is) (whole-holds p names lowering.functions table some)
