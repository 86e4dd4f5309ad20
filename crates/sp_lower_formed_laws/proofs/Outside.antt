-- Sites stand for what their nodes give, and node 0 for what comes to `main` from outside.
use Rattle.std.proofs.Common.{◌≡◌, ◌≢◌, ◌⊎◌, inl, inr, ℕ, zero, suc, ◌+◌, ◌≤◌, Bool, true, false, ◌||◌, List, [], ◌∷◌, ◌++◌, length, Some, None, slice_get, refl, ap, sym, ◌∙◌, subst, arith}
use Rattle.std.specs.List.{list_any}
use Rattle.std.proofs.lemmas.Option.{none-some}
use Rattle.sp_types.specs.Types.{CType}
use Rattle.sp_types.specs.Layout.{layout}
use Rattle.sp_types.specs.declared.extents.Extent.{Extent}
use Rattle.sp_types.specs.Programs.{Function, Program}
use Rattle.sp_ir.specs.declared.program.ObjectKind.TheVariants as kinds
use Rattle.sp_ir.specs.Commands.{Node}
use Rattle.sp_ir.specs.Programs.{Object, Code, Lowered}
use Rattle.sp_ir.specs.Formed.{table_of, is_site, IsSiteOf, HasPointer, HasForeign, points}
use Rattle.sp_ir.specs.Terrain.{size_of}
use Rattle.sp_base_layouts.specs.Layouts.{layout_of, pointers_of}
use Rattle.sp_base_layout_laws.proofs.Shaped.{is-shaped}
use Rattle.sp_lower_draft.specs.Context.{Context, has_pointer, type_of_object, object_type}
use Rattle.sp_lower_draft.specs.Draft.{Site, Left}
use Rattle.sp_lower_functions.specs.Functions.{Part}
use Rattle.sp_lower_objects.specs.Objects.{function_names, start_sites, site_object, takes_pointer}
use Rattle.sp_lower.specs.Programs.{start_place, first_local, declared_with, made_with, program_context, IsNumbered}
use Rattle.sp_lower_program_laws.proofs.Pointers.{points-same}
use Rattle.sp_check_typing.specs.Programs.{IsFormal, IsTypedFunction, IsTypedProgram}
use Rattle.sp_lower_expr_laws.specs.Stands.{site_kind}
use Rattle.sp_lower_expr_laws.specs.Grown.{GivesSite}
use Rattle.sp_lower_expr_laws.specs.Sound.{IsSiteNode}
use Rattle.sp_lower_expr_laws.proofs.Sorts.{false_true}
use Rattle.sp_lower_starts_laws.specs.Starts.{StartsStand}
use Rattle.sp_lower_formed_laws.proofs.Shapes.{one_shape}
use Rattle.sp_lower_starts_laws.proofs.Lists.{StandFrom, place_cases, stand_left, stand_first, some_is}
use Rattle.sp_lower_formed_laws.proofs.Objects.{program_from, function_from, IsOwn, temporary, result, local_from}
use Rattle.sp_lower_formed_laws.proofs.Locals.{site_like, mapped_from}
use Rattle.sp_lower_formed_laws.proofs.Codes.{code_at}
use Rattle.sp_lower_formed_laws.proofs.Fits.{gs, c, is, due, os, rs, owners, codes, unit_objects, functions, locals, sites, locals_stand, starts_stand, unit_object, site_number, declared_length, sized_layout}
use Rattle.sp_lower_formed_laws.proofs.Whole.{l, sound}
use Rattle.sp_lower_formed_laws.proofs.Nodes.{gives_named, gives_start, is_start, is_heap, site_node, kind_node, storage_no_site, start_there, main_is}

-- ---- lists

any_from : (test : ℕ → Bool) (ns : List ℕ) → list_any test ns ≡ true → (i n : ℕ) × (slice_get ns i ≡ Some n) × (test n ≡ true)
any_from test [] h = false_true h
any_from test (m ∷ ms) h = by (test m) refl h (λ q. any_from test ms q)
  where
    by : (b : Bool) → test m ≡ b → (b || list_any test ms) ≡ true → (list_any test ms ≡ true → (i n : ℕ) × (slice_get ms i ≡ Some n) × (test n ≡ true)) → (i n : ℕ) × (slice_get (m ∷ ms) i ≡ Some n) × (test n ≡ true)
    by true e h rest = (0, m, refl, e)
    by false e h rest = let r = rest h in (suc r.0, r.1, r.2, r.3)

any_to : (test : ℕ → Bool) (ns : List ℕ) (i n : ℕ) → slice_get ns i ≡ Some n → test n ≡ true → list_any test ns ≡ true
any_to test [] i n e t = absurd (none-some n e)
any_to test (m ∷ ms) zero n e t = ap (λ b. b || list_any test ms) (ap test (some_is m n e) ∙ t)
any_to test (m ∷ ms) (suc i) n e t = by (test m) (any_to test ms i n e t)
  where
    by : (b : Bool) → list_any test ms ≡ true → (b || list_any test ms) ≡ true
    by true h = refl
    by false h = h

module _ (p : Program) (names : List (List ℕ)) (typed : IsTypedProgram p) (w : Left (List Part)) (numbered : IsNumbered p names w)
    (starting : StartsStand p (c p names typed w numbered) (os p names typed w numbered) (rs p names typed w numbered) (is p names typed w numbered)) where
  abbrev low : Lowered
  low = l p names typed w numbered starting

  abbrev ctx : Context
  ctx = c p names typed w numbered

  abbrev all : List Object
  all = os p names typed w numbered

  abbrev from_outside : Bool
  from_outside = due p names typed w numbered

  -- an object is no site, that of node 0, or one of a node
  data IsClass (n : ℕ) (x : Object) : Type 0 where
    other : is_site x.kind ≡ false → IsClass n x
    start_site : from_outside ≡ true → x.kind ≡ kinds.Foreign 0 → IsClass n x
    site : (j : ℕ) (s : Site) → slice_get w.after.sites j ≡ Some s → n ≡ ctx.first_site + j → x.kind ≡ site_kind s → IsClass n x

  class_of : (n : ℕ) (x : Object) → slice_get all n ≡ Some x → IsClass n x
  class_of n x e = by (place_cases (declared_with p names ctx (is p names typed w numbered)) (made_with p names from_outside w) n x e)
    where
      own : IsOwn w.pure 0 (gs p names typed w numbered) x → IsClass n x
      own (temporary m i g t e there h) = other (ap is_site h.is)
      own (result m g e there h) = other (ap is_site h.is)

      starts : (b : Bool) (i : ℕ) → from_outside ≡ b → slice_get (start_sites b) i ≡ Some x → IsClass n x
      starts true zero d e = start_site d (sym (ap (λ (y : Object). y.kind) (some_is _ x e)))
      starts true (suc i) d e = absurd (none-some x e)
      starts false i d e = absurd (none-some x e)

      declared : (slice_get (unit_objects p names typed w numbered) n ≡ Some x) ⊎ ((m : ℕ) × (n ≡ length (unit_objects p names typed w numbered) + m) × (slice_get (functions p names typed w numbered) m ≡ Some x)) → IsClass n x
      declared (inl e) =
          let h = program_from ctx names (function_names (gs p names typed w numbered)) (owners p names typed w numbered) (is p names typed w numbered) 0 0 p.objects n x e in
          other (ap is_site h.2.kind ∙ storage_no_site h.0.storage)
      declared (inr e) = let h = function_from names (codes p names typed w numbered) 0 p.functions e.0 x e.2 in other (ap is_site h.2.kind)

      last : (m : ℕ) → n ≡ first_local p + length (locals p names typed w numbered) + m
          → (slice_get (start_sites from_outside) m ≡ Some x) ⊎ ((j : ℕ) × (m ≡ length (start_sites from_outside) + j) × (slice_get (sites p names typed w numbered) j ≡ Some x)) → IsClass n x
      last m q (inl e) = starts from_outside m refl e
      last m q (inr e) =
          let s : (s : Site) × (slice_get w.after.sites e.0 ≡ Some s) × (site_object s ≡ x) = mapped_from site_object w.after.sites e.0 x e.2 in
          site e.0 s.0 s.1 (omega (arith, q, e.1, site_number p names typed w numbered)) (sym (ap (λ (y : Object). y.kind) s.2) ∙ (site_like s.0).kind)

      made : (m : ℕ) → n ≡ first_local p + m
          → (slice_get (locals p names typed w numbered) m ≡ Some x) ⊎ ((i : ℕ) × (m ≡ length (locals p names typed w numbered) + i) × (slice_get (start_sites from_outside ++ sites p names typed w numbered) i ≡ Some x)) → IsClass n x
      made m q (inl e) = own (local_from names w.pure 0 (gs p names typed w numbered) m x e)
      made m q (inr e) = last e.0 (omega (arith, q, e.1)) (place_cases (start_sites from_outside) (sites p names typed w numbered) e.0 x e.2)

      by : (slice_get (unit_objects p names typed w numbered ++ functions p names typed w numbered) n ≡ Some x) ⊎ ((m : ℕ) × (n ≡ length (declared_with p names ctx (is p names typed w numbered)) + m) × (slice_get (made_with p names from_outside w) m ≡ Some x)) → IsClass n x
      by (inl e) = declared (place_cases (unit_objects p names typed w numbered) (functions p names typed w numbered) n x e)
      by (inr e) = made e.0 (omega (arith, e.1, declared_length p names typed w numbered)) (place_cases (locals p names typed w numbered) (start_sites from_outside ++ sites p names typed w numbered) e.0 x e.2)

  -- ---- sites of nodes

  site_is : (j : ℕ) (s : Site) (m n : ℕ) → slice_get w.after.sites j ≡ Some s → m ≡ ctx.first_site + j → s.node ≡ n → IsSiteOf low n m
  site_is j s m n e q k =
      let h : IsSiteNode w.after.nodes (ctx.first_site + j) s = (sound p names typed w numbered starting).sites j s e in
      record {
        node = h.node;
        there = subst (λ i. slice_get w.after.nodes i ≡ Some h.node) k h.there;
        named = gives_named h.node.command m s.heap (subst (λ i. GivesSite h.node.command i s.heap) (sym q) h.names);
      }

  -- no site is of node 0
  site_later : (j : ℕ) (s : Site) → slice_get w.after.sites j ≡ Some s → s.node ≢ 0
  site_later j s e z =
      let h : IsSiteNode w.after.nodes (ctx.first_site + j) s = (sound p names typed w numbered starting).sites j s e in
      let same : record { command = _; place = start_place; function = None } ≡ h.node = some_is _ h.node (sym (start_there p names typed w numbered starting) ∙ subst (λ i. slice_get w.after.nodes i ≡ Some h.node) z h.there) in
      false_true (sym (gives_start h.node.command (ctx.first_site + j) s.heap h.names) ∙ sym (ap (λ (y : Node). is_start y.command) same))

  pub heap_is : (m n : ℕ) (x : Object) → slice_get all m ≡ Some x → x.kind ≡ kinds.Heap n → IsSiteOf low n m
  heap_is m n x e k = by (class_of m x e)
    where
      by : IsClass m x → IsSiteOf low n m
      by (other h) = false_true (sym h ∙ ap is_site k)
      by (start_site d h) = false_true (sym (ap is_heap h) ∙ ap is_heap k)
      by (site j s there q h) = site_is j s m n there q (sym (kind_node s) ∙ ap site_node (sym h ∙ k))

  pub foreign_is : (m n : ℕ) (x : Object) → slice_get all m ≡ Some x → x.kind ≡ kinds.Foreign n → n ≢ 0 → IsSiteOf low n m
  foreign_is m n x e k z = by (class_of m x e)
    where
      by : IsClass m x → IsSiteOf low n m
      by (other h) = false_true (sym h ∙ ap is_site k)
      by (start_site d h) = absurd (z (ap site_node (sym k ∙ h)))
      by (site j s there q h) = site_is j s m n there q (sym (kind_node s) ∙ ap site_node (sym h ∙ k))

  -- ---- what comes to `main`

  abbrev main_function : (g : Function) × (slice_get p.functions p.main ≡ Some g)
  main_function = let m = main_is p names typed w numbered starting in (m.1, m.2)

  points_to : (t : CType) → 1 ≤ size_of p.structs t → HasPointer (table_of low) t (has_pointer (pointers_of p.structs) t)
  points_to t big =
      let e : (e : Extent) × (layout p.structs t ≡ Some e) = sized_layout (layout p.structs t) big in
      (layout_of p.structs t, is-shaped p.structs t typed.structs typed.members e.0 e.1, sym (points-same p.structs t e.0 e.1))

  points_only : (t : CType) (b : Bool) → 1 ≤ size_of p.structs t → HasPointer (table_of low) t b → has_pointer (pointers_of p.structs) t ≡ b
  points_only t b big h =
      let k : HasPointer (table_of low) t (has_pointer (pointers_of p.structs) t) = points_to t big in
      sym k.2 ∙ ap points (one_shape p.structs (size_of p.structs) t k.0 h.0 k.1 h.1) ∙ h.2

  main_formals : (k : ℕ) (g : Function) → slice_get p.definitions k ≡ Some p.main → slice_get p.functions p.main ≡ Some g → IsTypedFunction p g
  main_formals k g d e = let f = typed.definitions k p.main d in subst (λ y. IsTypedFunction p y) (some_is f.0 g (sym f.1 ∙ e)) f.2

  due_is : from_outside ≡ list_any (λ n. has_pointer (pointers_of p.structs) (object_type ctx n)) main_function.0.formals
  due_is = ap (λ o. takes_pointer (program_context p names 0) o) main_function.1

  formal_type : (i n : ℕ) → slice_get main_function.0.formals i ≡ Some n → (f : IsFormal p n) × (object_type ctx n ≡ f.object.of)
  formal_type i n e = let f : IsFormal p n = (main_formals typed.main.0 main_function.0 typed.main.1 main_function.1).formals i n e in (f, ap type_of_object f.there)

  main_code : (x : Code) × (slice_get low.functions low.main ≡ Some x) × (x.formals ≡ main_function.0.formals)
  main_code =
      let m = main_is p names typed w numbered starting in
      let x = code_at names all (length p.objects) p.definitions w.pure 0 (first_local p) (gs p names typed w numbered) (locals_stand p names typed w numbered) m.0 m.1 m.3 in
      (x.0, subst (λ j. slice_get low.functions j ≡ Some x.0) (sym m.4) x.1, x.2.formals)

  pub foreign_start_is : HasForeign low
  foreign_start_is = (λ h. goes h (class_of h.0 h.1 h.2), comes)
    where
      goes : (h : (m : ℕ) × (o : Object) × (slice_get all m ≡ Some o) × (o.kind ≡ kinds.Foreign 0)) → IsClass h.0 h.1
          → (x : Code) × (i m : ℕ) × (o : Object) × (t : CType) × (slice_get low.functions low.main ≡ Some x) × (slice_get x.formals i ≡ Some m) × (slice_get all m ≡ Some o) × (o.of ≡ Some t) × HasPointer (table_of low) t true
      goes h (other k) = false_true (sym k ∙ ap is_site h.3)
      goes h (site j s there q k) = absurd (site_later j s there (sym (kind_node s) ∙ ap site_node (sym k ∙ h.3)))
      goes h (start_site d k) =
          let a = any_from (λ n. has_pointer (pointers_of p.structs) (object_type ctx n)) main_function.0.formals (sym due_is ∙ d) in
          let f = formal_type a.0 a.1 a.2 in
          let y = unit_object p names typed w numbered a.1 f.0.object f.0.there in (
            main_code.0,
            a.0,
            a.1,
            y.0,
            f.0.object.of,
            main_code.1,
            subst (λ ns. slice_get ns a.0 ≡ Some a.1) (sym main_code.2) a.2,
            y.1,
            y.2.of,
            subst (λ b. HasPointer (table_of low) f.0.object.of b) (ap (has_pointer (pointers_of p.structs)) (sym f.1) ∙ a.3) (points_to f.0.object.of f.0.sized),
          )

      comes : ((x : Code) × (i m : ℕ) × (o : Object) × (t : CType) × (slice_get low.functions low.main ≡ Some x) × (slice_get x.formals i ≡ Some m) × (slice_get all m ≡ Some o) × (o.of ≡ Some t) × HasPointer (table_of low) t true)
          → (m : ℕ) × (o : Object) × (slice_get all m ≡ Some o) × (o.kind ≡ kinds.Foreign 0)
      comes h =
          let x : main_code.0 ≡ h.0 = some_is main_code.0 h.0 (sym main_code.1 ∙ h.5) in
          let listed : slice_get main_function.0.formals h.1 ≡ Some h.2 = subst (λ ns. slice_get ns h.1 ≡ Some h.2) (sym (ap (λ (y : Code). y.formals) x) ∙ main_code.2) h.6 in
          let f = formal_type h.1 h.2 listed in
          let y = unit_object p names typed w numbered h.2 f.0.object f.0.there in
          let same : f.0.object.of ≡ h.4 = some_is f.0.object.of h.4 (sym y.2.of ∙ ap (λ (z : Object). z.of) (some_is y.0 h.3 (sym y.1 ∙ h.7)) ∙ h.8) in
          let yes : has_pointer (pointers_of p.structs) (object_type ctx h.2) ≡ true = ap (has_pointer (pointers_of p.structs)) f.1
          ∙ points_only f.0.object.of true f.0.sized (subst (λ t. HasPointer (table_of low) t true) (sym same) h.9) in
          let d : from_outside ≡ true = due_is ∙ any_to (λ n. has_pointer (pointers_of p.structs) (object_type ctx n)) main_function.0.formals h.1 h.2 listed yes in
          there d
        where
          there : from_outside ≡ true → (m : ℕ) × (o : Object) × (slice_get all m ≡ Some o) × (o.kind ≡ kinds.Foreign 0)
          there d =
              let n : ℕ = first_local p + length (locals p names typed w numbered) in
              let stand = stand_left all n (start_sites from_outside) (sites p names typed w numbered) (starts_stand p names typed w numbered) in
              (n, _, stand_first all n _ [] (subst (λ b. StandFrom all n (start_sites b)) d stand), refl)
