-- The nodes, the codes and the sites of a lowered program are formed.
use Rattle.std.proofs.Common.{◌≡◌, ◌⊎◌, inl, inr, ℕ, suc, ◌+◌, ◌<◌, Bool, true, false, List, [], ◌∷◌, length, Option, Some, None, slice_get, if◌then◌else◌, refl, ap, sym, ◌∙◌, subst, arith}
use Rattle.std.specs.Prelude.{All}
use Rattle.std.proofs.lemmas.Option.{none-some}
use Rattle.std.proofs.lemmas.List.Elements.{All-nil, All-cons}
use Rattle.sp_types.specs.declared.program.Storage.{Storage}
use Rattle.sp_types.specs.declared.program.Storage.TheVariants as storage
use Rattle.sp_types.specs.Programs.{Function, Program}
use Rattle.sp_ir.specs.declared.command.Routine.{Routine}
use Rattle.sp_ir.specs.declared.program.ObjectKind.{ObjectKind}
use Rattle.sp_ir.specs.declared.program.ObjectKind.TheVariants as kinds
use Rattle.sp_ir.specs.Commands.{Expression, Lvalue, Command, start, entry, exit, library, outside, Node}
use Rattle.sp_ir.specs.Programs.{Object, Code, Lowered}
use Rattle.sp_ir.specs.Formed.{IsNode, IsCode, IsOwned, is_site}
use Rattle.sp_lower_draft.specs.Context.{Context}
use Rattle.sp_lower_draft.specs.Draft.{Site, Left}
use Rattle.sp_lower_functions.specs.Functions.{Part}
use Rattle.sp_lower_objects.specs.Codes.{known_part, known_number}
use Rattle.sp_lower_objects.specs.Objects.{kind_of_storage, owner_of}
use Rattle.sp_lower_objects.specs.Owners.{mark_at}
use Rattle.sp_lower.specs.Programs.{start_place, beginning, first_local, IsNumbered}
use Rattle.sp_check_typing.specs.Programs.{IsFormal, IsTypedFunction, IsTypedProgram}
use Rattle.sp_lower_expr_laws.specs.Stands.{site_kind}
use Rattle.sp_lower_expr_laws.specs.Grown.{GivesSite}
use Rattle.sp_lower_expr_laws.proofs.Sorts.{false_true}
use Rattle.sp_lower_body_laws.specs.Bodies.{is_inner}
use Rattle.sp_lower_body_laws.specs.Functions.{IsPlaced, IsOfPart, IsNodeOf, AreLowered}
use Rattle.sp_lower_body_laws.specs.Functions as placed
use Rattle.sp_lower_starts_laws.specs.Starts.{StartsStand}
use Rattle.sp_lower_starts_laws.proofs.Lists.{some_is, below_there, there_below}
use Rattle.sp_lower_formed_laws.proofs.Owners.{in_left, code_is}
use Rattle.sp_lower_formed_laws.proofs.Objects.{IsProgramObject, IsFunctionObject}
use Rattle.sp_lower_formed_laws.proofs.Codes.{IsCodeFor, code_from}
use Rattle.sp_lower_formed_laws.proofs.Fits.{gs, c, is, os, rs, owners, codes, definitions_there, defined_at, defined_from, locals_stand, owner_is, unit_object, function_object_at}
use Rattle.sp_lower_formed_laws.proofs.Whole.{l, sound, lowered, first_node, function_below, part_below, parts_counted}

-- ---- commands

abbrev is_entry : Command → Bool
is_entry (entry k) = true
is_entry x = false

abbrev is_exit : Command → Bool
is_exit (exit k) = true
is_exit x = false

abbrev number_of : Command → ℕ
number_of (entry k) = k
number_of (exit k) = k
number_of x = 0

entry_outside : (x : Command) (k : ℕ) → x ≡ entry k → is_inner x ≡ true → ⊥
entry_outside x k e h = false_true (sym (ap is_inner e) ∙ h)

exit_outside : (x : Command) (k : ℕ) → x ≡ exit k → is_inner x ≡ true → ⊥
exit_outside x k e h = false_true (sym (ap is_inner e) ∙ h)

pub gives_named : (x : Command) (m : ℕ) (heap : Bool) → GivesSite x m heap
    → ((which : Routine) × (to : Option Lvalue) × (args : List Expression) × (x ≡ library which to args (Some m))) ⊎ ((to : Option Lvalue) × (args : List Expression) × (x ≡ outside to args (Some m)))
gives_named (library which to args (Some k)) m heap h = inl (which, to, args, ap (λ j. library which to args (Some j)) h.0)
gives_named (outside to args (Some k)) m heap h = inr (to, args, ap (λ j. outside to args (Some j)) h.0)
gives_named x m heap h = absurd h

abbrev pub is_start : Command → Bool
is_start start = true
is_start x = false

pub gives_start : (x : Command) (m : ℕ) (heap : Bool) → GivesSite x m heap → is_start x ≡ false
gives_start (library which to args (Some k)) m heap h = refl
gives_start (outside to args (Some k)) m heap h = refl
gives_start x m heap h = absurd h

pub all_from : {A : Type 0} (P : A → Type 0) (xs : List A) → ((i : ℕ) (x : A) → slice_get xs i ≡ Some x → P x) → All P xs
all_from P [] h = All-nil P
all_from P (x ∷ xs) h = All-cons P x xs (h 0 x refl) (all_from P xs (λ i y e. h (suc i) y e))

-- ---- kinds

abbrev pub is_heap : ObjectKind → Bool
is_heap (kinds.Heap n) = true
is_heap k = false

abbrev pub site_node : ObjectKind → ℕ
site_node (kinds.Heap n) = n
site_node (kinds.Foreign n) = n
site_node k = 0

pub storage_no_site : (s : Storage) → is_site (kind_of_storage s) ≡ false
storage_no_site storage.Static = refl
storage_no_site storage.Outside = refl
storage_no_site storage.Text = refl
storage_no_site storage.Auto = refl
storage_no_site storage.Formal = refl

pub kind_node : (s : Site) → site_node (site_kind s) ≡ s.node
kind_node s = by s.heap
  where
    by : (b : Bool) → site_node (if b then kinds.Heap s.node else kinds.Foreign s.node) ≡ s.node
    by true = refl
    by false = refl

module _ (p : Program) (names : List (List ℕ)) (typed : IsTypedProgram p) (w : Left (List Part)) (numbered : IsNumbered p names w)
    (starting : StartsStand p (c p names typed w numbered) (os p names typed w numbered) (rs p names typed w numbered) (is p names typed w numbered)) where
  abbrev low : Lowered
  low = l p names typed w numbered starting

  abbrev fs : List Function
  fs = gs p names typed w numbered

  abbrev ctx : Context
  ctx = c p names typed w numbered

  abbrev all : List Object
  all = os p names typed w numbered

  abbrev nodes : List Node
  nodes = w.after.nodes

  placing : (n : ℕ) (x : Node) → slice_get nodes n ≡ Some x → ((n ≡ 0) × (x ≡ record { command = start; place = start_place; function = None })) ⊎ IsOfPart 0 w.pure n x
  placing n x e = by ((lowered p names typed w numbered starting).added n x e)
    where
      by : (slice_get beginning.nodes n ≡ Some x) ⊎ IsOfPart 0 w.pure n x → ((n ≡ 0) × (x ≡ record { command = start; place = start_place; function = None })) ⊎ IsOfPart 0 w.pure n x
      by (inl h) = inl (first_node p names typed w numbered starting n x h)
      by (inr h) = inr h

  pub start_there : slice_get nodes 0 ≡ Some (record { command = start; place = start_place; function = None })
  start_there = (lowered p names typed w numbered starting).nodes 0 (record { command = start; place = start_place; function = None }) refl

  node_zero : (n : ℕ) (x : Node) → slice_get nodes n ≡ Some x → n ≡ 0 → record { command = start; place = start_place; function = None } ≡ x
  node_zero n x e z = some_is (record { command = start; place = start_place; function = None }) x (sym start_there ∙ subst (λ m. slice_get nodes m ≡ Some x) z e)

  pub node_formed : (n : ℕ) (x : Node) → slice_get nodes n ≡ Some x → IsNode low n x
  node_formed n x e = record {
    formed = (sound p names typed w numbered starting).nodes n x e;
    first = (first (placing n x e), λ z. sym (ap (λ (y : Node). y.function) (node_zero n x e z)));
    started = λ z. sym (ap (λ (y : Node). y.command) (node_zero n x e z));
    inside = inside (placing n x e);
  }
    where
      first : ((n ≡ 0) × (x ≡ record { command = start; place = start_place; function = None })) ⊎ IsOfPart 0 w.pure n x → x.function ≡ None → n ≡ 0
      first (inl h) q = h.0
      first (inr h) q = absurd (none-some (0 + h.index) (sym q ∙ h.function))

      inside : ((n ≡ 0) × (x ≡ record { command = start; place = start_place; function = None })) ⊎ IsOfPart 0 w.pure n x → (k : ℕ) → x.function ≡ Some k → k < length low.functions
      inside (inl h) k q = absurd (none-some k (sym (ap (λ (y : Node). y.function) h.1) ∙ q))
      inside (inr h) k q =
          let s : 0 + h.index ≡ h.index = omega arith in
          let same : h.index ≡ k = sym s ∙ some_is (0 + h.index) k (sym h.function ∙ q) in
          subst (λ j. j < length low.functions) same (part_below p names typed w numbered starting h.index h.part h.there)

  -- ---- codes

  module _ (k : ℕ) (g : Function) (at : slice_get fs k ≡ Some g) (x : Code) (h : IsCodeFor all (length p.objects) p.definitions w.pure k g x) where
    part_there : (q : Part) × (slice_get w.pure k ≡ Some q)
    part_there = there_below w.pure k (omega (arith, below_there fs k g at, parts_counted p names typed w numbered starting))

    entry_place : x.entry ≡ part_there.0.entry
    entry_place = h.entry ∙ ap (λ o. (known_part o).entry) part_there.1

    exit_place : x.exit ≡ part_there.0.exit
    exit_place = h.exit ∙ ap (λ o. (known_part o).exit) part_there.1

    same_part : (i : ℕ) (q : Part) → slice_get w.pure i ≡ Some q → k ≡ 0 + i → part_there.0 ≡ q
    same_part i q e s = let z : k ≡ i = omega (arith, s) in some_is part_there.0 q (sym part_there.1 ∙ ap (λ j. slice_get w.pure j) z ∙ e)

    entry_is : (n : ℕ) → ((node : Node) × (slice_get nodes n ≡ Some node) × (node.command ≡ entry k)) → n ≡ x.entry
    entry_is n e = by (placing n e.0 e.1)
      where
        placed_at : (i : ℕ) (q : Part) → slice_get w.pure i ≡ Some q → IsPlaced (0 + i) q n e.0.command → n ≡ x.entry
        placed_at i q there (placed.first a b) = a ∙ ap (λ (r : Part). r.entry) (sym (same_part i q there (ap number_of (sym e.2 ∙ b)))) ∙ sym entry_place
        placed_at i q there (placed.last a b) = false_true (sym (ap is_entry b) ∙ ap is_entry e.2)
        placed_at i q there (placed.inside a) = absurd (entry_outside e.0.command k e.2 a)

        by : ((n ≡ 0) × (e.0 ≡ record { command = start; place = start_place; function = None })) ⊎ IsOfPart 0 w.pure n e.0 → n ≡ x.entry
        by (inl s) = false_true (sym (ap (λ (y : Node). is_entry y.command) s.1) ∙ ap is_entry e.2)
        by (inr o) = placed_at o.index o.part o.there o.placed

    exit_is : (n : ℕ) → ((node : Node) × (slice_get nodes n ≡ Some node) × (node.command ≡ exit k)) → n ≡ x.exit
    exit_is n e = by (placing n e.0 e.1)
      where
        placed_at : (i : ℕ) (q : Part) → slice_get w.pure i ≡ Some q → IsPlaced (0 + i) q n e.0.command → n ≡ x.exit
        placed_at i q there (placed.last a b) = a ∙ ap (λ (r : Part). r.exit) (sym (same_part i q there (ap number_of (sym e.2 ∙ b)))) ∙ sym exit_place
        placed_at i q there (placed.first a b) = false_true (sym (ap is_exit b) ∙ ap is_exit e.2)
        placed_at i q there (placed.inside a) = absurd (exit_outside e.0.command k e.2 a)

        by : ((n ≡ 0) × (e.0 ≡ record { command = start; place = start_place; function = None })) ⊎ IsOfPart 0 w.pure n e.0 → n ≡ x.exit
        by (inl s) = false_true (sym (ap (λ (y : Node). is_exit y.command) s.1) ∙ ap is_exit e.2)
        by (inr o) = placed_at o.index o.part o.there o.placed

    node_of : (n : ℕ) (y : Command) → IsNodeOf nodes (0 + k) n y → (m : ℕ) → m ≡ n → (node : Node) × (slice_get nodes m ≡ Some node) × (node.command ≡ y)
    node_of n y h m e = (h.node, subst (λ j. slice_get nodes j ≡ Some h.node) (sym e) h.there, h.command)

    zero_plus : 0 + k ≡ k
    zero_plus = omega arith

    typed_function : IsTypedFunction p g
    typed_function =
        let d : (m : ℕ) × (slice_get p.definitions k ≡ Some m) × (slice_get p.functions m ≡ Some g) = defined_from p.functions p.definitions (definitions_there p names typed w numbered) k g at in
        let f = typed.definitions k d.0 d.1 in
        subst (λ y. IsTypedFunction p y) (some_is f.0 g (sym f.1 ∙ d.2)) f.2

    formal_owned : (i n : ℕ) → slice_get g.formals i ≡ Some n → IsOwned all k kinds.Formal n
    formal_owned i n e =
        let f : IsFormal p n = typed_function.formals i n e in
        let y : (y : Object) × (slice_get all n ≡ Some y) × IsProgramObject ctx (owners p names typed w numbered) (is p names typed w numbered) n f.object y = unit_object p names typed w numbered n f.object f.there in
        record {
          object = y.0;
          there = y.1;
          is = y.2.kind ∙ ap kind_of_storage f.storage;
          of = y.2.function ∙ ap (λ s. owner_of s (mark_at (owners p names typed w numbered) n)) f.storage ∙ owner_is p names typed w numbered k n g f.object at (in_left g.formals g.locals n (i, e)) f.there;
        }

    code_formed : IsCode low k x
    code_formed = record {
      entry = λ n. (
        entry_is n,
        λ e. subst (λ j. (node : Node) × (slice_get nodes n ≡ Some node) × (node.command ≡ entry j)) zero_plus
            (node_of part_there.0.entry (entry (0 + k)) ((lowered p names typed w numbered starting).entries k part_there.0 part_there.1) n (e ∙ entry_place)),
      );
      exit = λ n. (
        exit_is n,
        λ e. subst (λ j. (node : Node) × (slice_get nodes n ≡ Some node) × (node.command ≡ exit j)) zero_plus
            (node_of part_there.0.exit (exit (0 + k)) ((lowered p names typed w numbered starting).exits k part_there.0 part_there.1) n (e ∙ exit_place)),
      );
      formals = subst (λ ns. All (IsOwned all k kinds.Formal) ns) (sym h.formals) (all_from (IsOwned all k kinds.Formal) g.formals formal_owned);
      distinct = λ i j n a b. typed_function.distinct i j n (subst (λ ns. slice_get ns i ≡ Some n) h.formals a) (subst (λ ns. slice_get ns j ≡ Some n) h.formals b);
      result = h.result;
    }

    object_named : (o : Object) × (slice_get all x.object ≡ Some o) × (o.code ≡ Some k) × ((n : ℕ) × (o.kind ≡ kinds.Function n))
    object_named =
        let d : (m : ℕ) × (slice_get p.definitions k ≡ Some m) × (slice_get p.functions m ≡ Some g) = defined_from p.functions p.definitions (definitions_there p names typed w numbered) k g at in
        let y : (y : Object) × (slice_get all (length p.objects + d.0) ≡ Some y) × IsFunctionObject (codes p names typed w numbered) d.0 g y = function_object_at p names typed w numbered d.0 g d.2 in
        let number : x.object ≡ length p.objects + d.0 = h.object ∙ ap (λ o. length p.objects + known_number o) d.1 in
        (y.0, subst (λ j. slice_get all j ≡ Some y.0) (sym number) y.1, y.2.code ∙ code_is p.functions p.definitions d.0 k typed.distinct d.1 (below_there p.functions d.0 g d.2), (d.0, y.2.kind))

  pub code_found : (k : ℕ) (x : Code) → slice_get low.functions k ≡ Some x → (g : Function) × (slice_get fs k ≡ Some g) × IsCodeFor all (length p.objects) p.definitions w.pure k g x
  code_found k x e =
      let h = code_from names all (length p.objects) p.definitions w.pure 0 (first_local p) fs (locals_stand p names typed w numbered) k x e in
      let s : 0 + k ≡ k = omega arith in
      (h.0, h.1, subst (λ j. IsCodeFor all (length p.objects) p.definitions w.pure j h.0 x) s h.2)

  pub each_code : (k : ℕ) (x : Code) → slice_get low.functions k ≡ Some x → IsCode low k x
  each_code k x e = let h = code_found k x e in code_formed k h.0 h.1 x h.2

  pub each_named : (k : ℕ) (x : Code) → slice_get low.functions k ≡ Some x → (o : Object) × (slice_get all x.object ≡ Some o) × (o.code ≡ Some k) × ((n : ℕ) × (o.kind ≡ kinds.Function n))
  each_named k x e = let h = code_found k x e in object_named k h.0 h.1 x h.2

  pub main_is : (k : ℕ) × (g : Function) × (slice_get p.functions p.main ≡ Some g) × (slice_get fs k ≡ Some g) × (low.main ≡ k)
  main_is =
      let d = typed.definitions typed.main.0 p.main typed.main.1 in (
        typed.main.0,
        d.0,
        d.1,
        defined_at p.functions p.definitions (definitions_there p names typed w numbered) typed.main.0 p.main d.0 typed.main.1 d.1,
        ap known_number (code_is p.functions p.definitions p.main typed.main.0 typed.distinct typed.main.1 (below_there p.functions p.main d.0 d.1)),
      )

  pub main_below : low.main < length low.functions
  main_below = subst (λ j. j < length low.functions) (sym main_is.4) (function_below p names typed w numbered starting main_is.0 main_is.1 main_is.3)
