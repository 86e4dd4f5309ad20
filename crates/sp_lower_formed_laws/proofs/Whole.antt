-- The objects of a lowered program are formed, and so are its nodes and codes.
use Rattle.std.proofs.Common.{◌≡◌, ℕ, zero, suc, ◌+◌, ◌<◌, Bool, true, false, List, [], length, Some, None, slice_get, refl, ap, sym, ◌∙◌, subst, arith}
use Rattle.std.specs.Prelude.{All}
use Rattle.std.proofs.lemmas.Option.{none-some}
use Rattle.std.proofs.lemmas.List.Elements.{All-nil}
use Rattle.sp_types.specs.Types.{CType}
use Rattle.sp_types.specs.Structs.{IsFormed}
use Rattle.sp_types.specs.Programs.{Function, Program}
use Rattle.sp_ir.specs.declared.program.ObjectKind.{ObjectKind}
use Rattle.sp_ir.specs.Commands.{Leaf, Command, start, Node}
use Rattle.sp_ir.specs.Regions.{Region}
use Rattle.sp_ir.specs.Programs.{Object, Lowered}
use Rattle.sp_ir.specs.Formed.{is_site, is_local, starts, reads, HasStart, HasOwner, HasType, NamesCode, IsEdge, IsCommand}
use Rattle.sp_lower_draft.specs.Context.{Context}
use Rattle.sp_lower_draft.specs.Draft.{Left}
use Rattle.sp_lower_functions.specs.Functions.{Part}
use Rattle.sp_lower.specs.Programs.{start_place, beginning, first_local, counts_in, lowered_program, IsNumbered}
use Rattle.sp_check_typing.specs.Programs.{Lists, IsTypedProgram}
use Rattle.sp_lower_expr_laws.specs.Stands.{table}
use Rattle.sp_lower_expr_laws.specs.Sound.{IsSound}
use Rattle.sp_lower_expr_laws.proofs.Sorts.{false_true}
use Rattle.sp_lower_body_laws.specs.Functions.{AreFit, TemporariesStand, SitesStand, AreLowered}
use Rattle.sp_lower_body_laws.proofs.Functions.{functions_are}
use Rattle.sp_lower_starts_laws.specs.Starts.{StartsStand}
use Rattle.sp_lower_starts_laws.proofs.Lists.{some_is, below_there}
use Rattle.sp_lower_formed_laws.proofs.Locals.{temporaries_stand, sites_stand}
use Rattle.sp_lower_formed_laws.proofs.Codes.{parts_length, codes_length}
use Rattle.sp_lower_formed_laws.proofs.Fits.{gs, c, is, os, rs, definitions_there, v, defined_at, locals_stand, sites_from, all_fit}

-- without start values nothing is read
pub none_read : (x : Object) → x.start ≡ [] → All (λ (v : Leaf). reads v.value ≡ false) x.start
none_read x e = subst (All (λ (v : Leaf). reads v.value ≡ false)) (sym e) (All-nil (λ (v : Leaf). reads v.value ≡ false))

module _ (p : Program) (names : List (List ℕ)) (typed : IsTypedProgram p) (w : Left (List Part)) (numbered : IsNumbered p names w)
    (starting : StartsStand p (c p names typed w numbered) (os p names typed w numbered) (rs p names typed w numbered) (is p names typed w numbered)) where
  abbrev pub l : Lowered
  l = lowered_program p names w

  abbrev pub gs' : List Function
  gs' = gs p names typed w numbered

  abbrev pub c' : Context
  c' = c p names typed w numbered

  abbrev pub os' : List Object
  os' = os p names typed w numbered

  abbrev pub rs' : List Region
  rs' = rs p names typed w numbered

  -- ---- the functions' nodes

  same_place : (i : ℕ) → slice_get w.pure (0 + i) ≡ slice_get w.pure i
  same_place i = let s : 0 + i ≡ i = omega arith in ap (λ j. slice_get w.pure j) s

  pub same_function : (i : ℕ) → slice_get gs' (0 + i) ≡ slice_get gs' i
  same_function i = let s : 0 + i ≡ i = omega arith in ap (λ j. slice_get gs' j) s

  pub parts_counted : length w.pure ≡ length gs'
  parts_counted =
      ap (λ (r : Left (List Part)). length r.pure) numbered.functions
      ∙ parts_length c' (is p names typed w numbered) 0 (first_local p) gs' (counts_in p names) beginning

  fitting : AreFit c' (is p names typed w numbered) os' rs' (v p names typed w numbered) 0 (first_local p) gs' (counts_in p names)
  fitting = subst (λ ns. AreFit c' (is p names typed w numbered) os' rs' (v p names typed w numbered) 0 (first_local p) gs' ns) numbered.counts
      (all_fit p names typed w numbered starting 0 (first_local p) gs' w.pure same_place same_function parts_counted (locals_stand p names typed w numbered))

  pub lowered : AreLowered c' os' rs' 0 (first_local p) gs' (counts_in p names) beginning w
  lowered = subst (λ r. AreLowered c' os' rs' 0 (first_local p) gs' (counts_in p names) beginning r) (sym numbered.functions)
      (functions_are c' (is p names typed w numbered) os' rs' (v p names typed w numbered) 0 (first_local p) gs' (counts_in p names) beginning fitting)

  pub temporaries_there : TemporariesStand os' 0 (first_local p) gs' (counts_in p names) w.pure
  temporaries_there = subst (λ ns. TemporariesStand os' 0 (first_local p) gs' ns w.pure) numbered.counts
      (temporaries_stand names w.pure os' 0 (first_local p) gs' w.pure same_place (locals_stand p names typed w numbered))

  pub sites_there : SitesStand os' c'.first_site w.after.sites
  sites_there = sites_stand os' c'.first_site w.after.sites (sites_from p names typed w numbered)

  pub first_node : (n : ℕ) (x : Node) → slice_get beginning.nodes n ≡ Some x → (n ≡ 0) × (x ≡ record { command = start; place = start_place; function = None })
  first_node zero x e = (refl, sym (some_is (record { command = start; place = start_place; function = None }) x e))
  first_node (suc n) x e = absurd (none-some x e)

  pub start_is : (x : Node) → x ≡ record { command = start; place = start_place; function = None } → x.command ≡ start
  start_is x e = ap (λ y. y.command) e

  abbrev pub is_start : Command → Bool
  is_start start = true
  is_start x = false

  pub begins_sound : IsSound (table c' os') rs' c'.first_site beginning
  begins_sound = record {
    nodes = λ n x e. let f = first_node n x e in
        subst (λ y. IsCommand (table c' os') rs' n y.function y.command) (sym f.1) (f.0, refl);
    edges = All-nil (λ e. IsEdge beginning.nodes e.0 e.1);
    calls = λ n x callee args e k. let f = first_node n x e in false_true (sym (ap is_start (sym (start_is x f.1) ∙ k)));
    returns = λ n m x to e k. let f = first_node n x e in false_true (sym (ap is_start (sym (start_is x f.1) ∙ k)));
    sites = λ i x e. absurd (none-some x e);
    elements = λ i x e. absurd (none-some x e);
    temporaries = λ i t e. absurd (none-some t e);
  }

  pub sound : IsSound (table c' os') rs' c'.first_site w.after
  sound = lowered.sound temporaries_there sites_there begins_sound

  -- ---- how many functions there are

  pub functions_counted : length l.functions ≡ length gs'
  functions_counted = codes_length names os' (length p.objects) p.definitions w.pure 0 (first_local p) gs'

  pub function_below : (k : ℕ) (g : Function) → slice_get gs' k ≡ Some g → k < length l.functions
  function_below k g e = omega (arith, below_there gs' k g e, functions_counted)

  pub part_below : (k : ℕ) (q : Part) → slice_get w.pure k ≡ Some q → k < length l.functions
  part_below k q e = omega (arith, below_there w.pure k q e, parts_counted, functions_counted)

  pub listed_function : (n k : ℕ) → Lists p k n → (g : Function) × (slice_get gs' k ≡ Some g)
  listed_function n k h = (h.function, defined_at p.functions p.definitions (definitions_there p names typed w numbered) k h.number h.function h.defined h.there)

  -- ---- objects of the units

  pub typed_as : (x : Object) (t : CType) → x.of ≡ Some t → IsFormed p.structs t → HasType l x.of (is_site x.kind)
  typed_as x t e f = subst (λ o. HasType l o (is_site x.kind)) (sym e) f

  pub no_owner : (x : Object) (kind : ObjectKind) → x.kind ≡ kind → is_local kind ≡ false → x.function ≡ None → HasOwner l x (is_local x.kind)
  no_owner x kind e k f = subst (λ b. HasOwner l x b) (sym (ap is_local e ∙ k)) f

  pub some_owner : (x : Object) (kind : ObjectKind) (k : ℕ) → x.kind ≡ kind → is_local kind ≡ true → x.function ≡ Some k → k < length l.functions → HasOwner l x (is_local x.kind)
  some_owner x kind k e q f low = subst (λ b. HasOwner l x b) (sym (ap is_local e ∙ q)) (k, f, low)

  pub no_start : (n : ℕ) (x : Object) (kind : ObjectKind) → x.kind ≡ kind → starts kind ≡ false → x.start ≡ [] → x.zero ≡ [] → HasStart l n x (starts x.kind)
  no_start n x kind e k s z = subst (λ b. HasStart l n x b) (sym (ap starts e ∙ k)) (s, z)

  pub no_code : (n : ℕ) (x : Object) → x.code ≡ None → NamesCode l n x.code
  no_code n x e = subst (λ o. NamesCode l n o) (sym e) tt
