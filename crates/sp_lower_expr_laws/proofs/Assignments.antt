-- Assignments and steps (C90 6.3.2.4, 6.3.3.1, 6.3.16).
use Rattle.std.proofs.Common.{◌≡◌, ℕ, true, false, List, length, Some, None, refl, sym, ◌∙◌, subst, arith}
use Rattle.sp_tree.specs.declared.fault.Place.{Place}
use Rattle.sp_tree.specs.declared.token.Punct.{Punct}
use Rattle.sp_tree.specs.declared.token.Punct.TheVariants.{Assign}
use Rattle.sp_types.specs.declared.ctype.IntKind.{IntKind}
use Rattle.sp_types.specs.declared.ctype.IntKind.TheVariants.{Int}
use Rattle.sp_types.specs.Types.{CType, void, integer, floating, pointer, array, structure, function}
use Rattle.sp_types.specs.Structs.{IsFormed}
use Rattle.sp_types.specs.Typed.{Typed, typed, of, place_of, mark_of}
use Rattle.sp_types.specs.Typed as tree
use Rattle.sp_ir.specs.Commands.{Expression, read, Lvalue, direct, through, field, assign, lvalue_type}
use Rattle.sp_ir.specs.Regions.{Region}
use Rattle.sp_ir.specs.Programs.{Object}
use Rattle.sp_ir.specs.Formed.{IsLvalue, is_integer, is_struct}
use Rattle.sp_lower_draft.specs.Context.{Context, is_void, kind_of}
use Rattle.sp_lower_draft.specs.Draft.{Draft, Left, add, stored, save, keep_place}
use Rattle.sp_lower_draft.specs.Adds.{adds}
use Rattle.sp_lower_draft.specs.Operators.{operator_of, is_plain_assign}
use Rattle.sp_lower_draft.specs.Steps.{loaded, combined, assigned, assigned_used, updated, updated_used, one, stepped_used}
use Rattle.sp_lower_draft.specs.Expressions.{Meaning, Operand, operand_of, plain, valued, sides, assign_place, assign_value, assign_unused, assignment, step_unused, step_value, step_after}
use Rattle.sp_check_typing.specs.Sorts.{agrees, same_value, IsStored, IsStepped}
use Rattle.sp_check_typing.specs.Trees.{has_place, IsAssigned}
use Rattle.sp_lower_expr_laws.specs.Stands.{table, Holds}
use Rattle.sp_lower_expr_laws.specs.Grown.{Grown, same, node}
use Rattle.sp_lower_expr_laws.specs.Uses.{IsPlace, IsValue, Designates, Gives, IsGood}
use Rattle.sp_lower_expr_laws.proofs.Growing.{onward, back}
use Rattle.sp_lower_expr_laws.proofs.Sorts.{false_true, integer_scalar, agrees_as, agrees_self, agrees_struct, scalar_there, stored_there, scalar_stored, stepped_scalar}
use Rattle.sp_lower_expr_laws.proofs.Loads.{place_sized, loaded_good}
use Rattle.sp_lower_expr_laws.proofs.Keeps.{then_gives, then_grown, gives_made, stored_sized, stored_floating, value_as, IsAt, store_good, store_plain, IsKept, kept_read, save_good, IsWhole, keep_place_good}
use Rattle.sp_lower_expr_laws.proofs.Operators.{IsInteger, integer_value, combined_good}
use Rattle.sp_lower_expr_laws.proofs.Plain.{plain_good, valued_good}

pub stored_as : (c : Context) (a t : CType) → same_value a t ≡ true → IsStored c.structs t → IsStored c.structs a
stored_as c (integer j) t s h = tt
stored_as c (pointer a) t s h = tt
stored_as c (structure j) (structure k) s h = subst (λ v. IsStored c.structs v) (sym (agrees_struct (structure j) k s)) h
stored_as c (structure j) void s h = false_true s
stored_as c (structure j) (integer k) s h = false_true s
stored_as c (structure j) (floating k) s h = false_true s
stored_as c (structure j) (pointer t) s h = false_true s
stored_as c (structure j) (array t n) s h = false_true s
stored_as c (structure j) (function r) s h = false_true s
stored_as c void t s h = false_true s
stored_as c (floating k) t s h = false_true s
stored_as c (array a n) t s h = false_true s
stored_as c (function r) t s h = false_true s

stepped_stored : (c : Context) (t : CType) → IsStepped c.structs t → IsStored c.structs t
stepped_stored c t h = scalar_stored c.structs t (stepped_scalar c.structs t h)

stepped_placeless : (c : Context) (t : CType) → IsStepped c.structs t → is_struct t ≡ true → ⊥
stepped_placeless c (integer k) h p = false_true p
stepped_placeless c (pointer t) h p = false_true p
stepped_placeless c void h p = absurd h
stepped_placeless c (floating k) h p = absurd h
stepped_placeless c (array t n) h p = absurd h
stepped_placeless c (structure k) h p = absurd h
stepped_placeless c (function s) h p = absurd h

module _ (c : Context) (os : List Object) (rs : List Region) where
  whole_place : (l : Lvalue) → IsLvalue (table c os) (Some c.function) l → IsPlace c os l
  whole_place (direct n t) h = h
  whole_place (through e t at) h = (h.0, h.1, h.3, h.4)
  whole_place (field l k t) h = h

  whole_as : (a t : CType) (l : Lvalue) → same_value a t ≡ true → IsWhole c os rs a l → IsWhole c os rs t l
  whole_as a t l s h = (h.0, agrees_as (lvalue_type l) a t h.1 s)

  designated_whole : (t : CType) (l : Lvalue) → IsStored c.structs t → Designates c os t l → IsWhole c os rs t l
  designated_whole t l st d = (place_sized c os l d.0 (stored_sized c (lvalue_type l) t d.1 st), d.1)

  pub kept_whole : (t : CType) (l : Lvalue) → IsStored c.structs t → IsKept c os rs t l → Designates c os t l
  kept_whole t l st h = (whole_place l h.0, subst (λ u. agrees u t ≡ true) (sym h.1) (agrees_self t (stored_floating c t st)))

  -- the value that an integer or a pointer has
  read_whole : (t : CType) (l : Lvalue) → IsFormed c.structs t → IsStepped c.structs t → IsWhole c os rs t l → IsValue c os t (read l)
  read_whole (integer k) l f h w = loaded_good c os l (integer k) (whole_place l w.0, w.1) f refl refl
  read_whole (pointer t) l f h w = loaded_good c os l (pointer t) (whole_place l w.0, w.1) f refl refl
  read_whole void l f h w = absurd h
  read_whole (floating k) l f h w = absurd h
  read_whole (array t n) l f h w = absurd h
  read_whole (structure k) l f h w = absurd h
  read_whole (function s) l f h w = absurd h

  update_good : (n : ℕ) (t : CType) (l : Lvalue) (x : Expression) → IsStepped c.structs t → IsWhole c os rs t l → IsValue c os t x → IsAt c os rs n (assign l x)
  update_good n (integer k) l x h w v = store_good c os rs n l (integer k) x w.0 w.1 tt v
  update_good n (pointer t) l x h w v = store_good c os rs n l (pointer t) x w.0 w.1 tt v
  update_good n void l x h w v = absurd h
  update_good n (floating k) l x h w v = absurd h
  update_good n (array t m) l x h w v = absurd h
  update_good n (structure k) l x h w v = absurd h
  update_good n (function s) l x h w v = absurd h

  one_good : IsInteger c os one
  one_good = ((omega arith, omega arith), refl)

  -- ---- plain assignments

  assigned_good : (e : Typed) (to : Lvalue) (v : Expression) (s : Draft) → IsStored c.structs (of e) → (Holds c os s → IsWhole c os rs (of e) to × IsValue c os (of e) v)
      → Grown c os rs s (assigned c e to v s)
  assigned_good e to v s st h =
      node (stored to (of e) v) (place_of e) same (store_plain to (of e) v) (λ k. store_good c os rs (length s.nodes) to (of e) v (h k).0.0 (h k).0.1 st (h k).1)

  assigned_used_good : (e : Typed) (to : Lvalue) (v : Expression) (s : Draft) → IsFormed c.structs (of e) → IsStored c.structs (of e)
      → (Holds c os s → IsWhole c os rs (of e) to × IsValue c os (of e) v) → Gives c os rs (Designates c os (of e)) s (assigned_used c e to v s)
  assigned_used_good e to v s f st h =
      let saved : Left Lvalue = save c (of e) v (place_of e) s in
      let g : Gives c os rs (IsKept c os rs (of e)) s saved = save_good c os rs (of e) v (place_of e) s f st (λ k. (h k).1) in
      let k : Grown c os rs saved.after (assigned c e to (read saved.pure) saved.after) =
      assigned_good e to (read saved.pure) saved.after st (λ q. ((h (back g.grown q)).0, kept_read c os rs (of e) saved.pure (g.pure q) st)) in
      record { grown = onward g.grown k; pure = λ q. kept_whole (of e) saved.pure st (g.pure (back k q)) }

  -- ---- with an operator

  updated_good : (e : Typed) (p : Punct) (j : IntKind) (to : Lvalue) (v : Expression) (s : Draft) → IsFormed c.structs (of e) → IsStepped c.structs (of e)
      → (Holds c os s → IsWhole c os rs (of e) to × IsInteger c os v) → Grown c os rs s (updated c e (operator_of p) j to v s)
  updated_good e p j to v s f st h =
      node (assign to (combined c (of e) (operator_of p) (read to) j v (mark_of e))) (place_of e) same refl
      (λ k. update_good (length s.nodes) (of e) to (combined c (of e) (operator_of p) (read to) j v (mark_of e)) st (h k).0
      (combined_good c os (of e) p (read to) j v (mark_of e) st (read_whole (of e) to f st (h k).0) (h k).1))

  updated_used_good : (e : Typed) (p : Punct) (j : IntKind) (to : Lvalue) (v : Expression) (s : Draft) → IsFormed c.structs (of e) → IsStepped c.structs (of e)
      → (Holds c os s → IsWhole c os rs (of e) to × IsInteger c os v) → Gives c os rs (IsValue c os (of e)) s (updated_used c e (operator_of p) j to v s)
  updated_used_good e p j to v s f st h =
      let x : Expression = combined c (of e) (operator_of p) (read to) j v (mark_of e) in
      let saved : Left Lvalue = save c (of e) x (place_of e) s in
      let g : Gives c os rs (IsKept c os rs (of e)) s saved = save_good c os rs (of e) x (place_of e) s f (stepped_stored c (of e) st)
      (λ k. combined_good c os (of e) p (read to) j v (mark_of e) st (read_whole (of e) to f st (h k).0) (h k).1) in
      let k : Grown c os rs saved.after (add c (assign to (read saved.pure)) (place_of e) saved.after) =
      node (assign to (read saved.pure)) (place_of e) same refl
      (λ q. update_good (length saved.after.nodes) (of e) to (read saved.pure) st (h (back g.grown q)).0 (kept_read c os rs (of e) saved.pure (g.pure q) (stepped_stored c (of e) st))) in
      record { grown = onward g.grown k; pure = λ q. kept_read c os rs (of e) saved.pure (g.pure (back k q)) (stepped_stored c (of e) st) }

  stepped_used_good : (e : Typed) (p : Punct) (to : Lvalue) (s : Draft) → IsFormed c.structs (of e) → IsStepped c.structs (of e)
      → (Holds c os s → IsWhole c os rs (of e) to) → Gives c os rs (IsValue c os (of e)) s (stepped_used c e (operator_of p) to s)
  stepped_used_good e p to s f st h =
      let saved : Left Lvalue = save c (of e) (read to) (place_of e) s in
      let x : Expression = combined c (of e) (operator_of p) (read saved.pure) Int one (mark_of e) in
      let g : Gives c os rs (IsKept c os rs (of e)) s saved = save_good c os rs (of e) (read to) (place_of e) s f (stepped_stored c (of e) st) (λ k. read_whole (of e) to f st (h k)) in
      let k : Grown c os rs saved.after (add c (assign to x) (place_of e) saved.after) =
      node (assign to x) (place_of e) same refl
      (λ q. update_good (length saved.after.nodes) (of e) to x st (h (back g.grown q))
      (combined_good c os (of e) p (read saved.pure) Int one (mark_of e) st (kept_read c os rs (of e) saved.pure (g.pure q) (stepped_stored c (of e) st)) one_good)) in
      record { grown = onward g.grown k; pure = λ q. kept_read c os rs (of e) saved.pure (g.pure (back k q)) (stepped_stored c (of e) st) }

  -- ---- the two sides

  abbrev AreSides : CType → CType → Lvalue × Expression → Type 0
  AreSides t u v = IsWhole c os rs t v.0 × IsValue c os u v.1

  sides_good : (a b : Typed) (ma mb : Meaning) → IsGood c os rs a ma → IsGood c os rs b mb → has_place a ≡ true → IsFormed c.structs (of a) → IsStored c.structs (of a)
      → is_void (of b) ≡ false → (s : Draft) → Gives c os rs (AreSides (of a) (of b)) s (sides c (operand_of ma a) (operand_of mb b) s)
  sides_good a b ma mb ga gb p f st there s =
      let to : Left Lvalue = ma.place s in
      let kept : Left Lvalue = keep_place c (adds b) a to.pure to.after in
      let v : Left Expression = mb.value None kept.after in
      let gt : Gives c os rs (Designates c os (of a)) s to = ga.place p s in
      let gk : Gives c os rs (IsWhole c os rs (of a)) to.after kept = keep_place_good c os rs (adds b) a to.pure to.after f st (λ h. designated_whole (of a) to.pure st (gt.pure h)) in
      let gv : Gives c os rs (IsValue c os (of b)) kept.after v = gb.value there None tt kept.after in
      record { grown = onward gt.grown (onward gk.grown gv.grown); pure = λ h. (gk.pure (back gv.grown h), gv.pure h) }

  module _ (e a b : Typed) (ma mb : Meaning) (ga : IsGood c os rs a ma) (gb : IsGood c os rs b mb) (p : has_place a ≡ true) (f : IsFormed c.structs (of a)) (g : IsFormed c.structs (of e)) (to : same_value (of a) (of e) ≡ true) where
    -- `a = b`
    pub plain_assignment : (op : Punct) → IsStored c.structs (of e) → same_value (of b) (of e) ≡ true → is_plain_assign op ≡ true → IsGood c os rs e (assignment c op e (operand_of ma a) (operand_of mb b))
    plain_assignment op st from is = subst (λ k. IsGood c os rs e (record (plain c e (λ to s. assign_value c k op e l r s) (assign_place c k e l r)) { unused = assign_unused c k op e l r })) (sym is)
        (record { value = base.value; place = base.place; unused = unused; branch = base.branch })
      where
        l : Operand
        l = operand_of ma a

        r : Operand
        r = operand_of mb b

        there : is_void (of b) ≡ false
        there = stored_there c.structs (of b) (stored_as c (of b) (of e) from st)

        both : (s : Draft) → Gives c os rs (AreSides (of a) (of b)) s (sides c l r s)
        both = sides_good a b ma mb ga gb p f (stored_as c (of a) (of e) to st) there

        as_whole : (v : Lvalue × Expression) → AreSides (of a) (of b) v → IsWhole c os rs (of e) v.0 × IsValue c os (of e) v.1
        as_whole v h = (whole_as (of a) (of e) v.0 to h.0, (h.1.0, value_as c (of b) (of e) v.1 from h.1.1))

        place : (s : Draft) → Gives c os rs (Designates c os (of e)) s (assign_place c true e l r s)
        place s = then_gives (both s) (λ h. assigned_used_good e (sides c l r s).pure.0 (sides c l r s).pure.1 (sides c l r s).after g st (λ k. as_whole (sides c l r s).pure (h k)))

        value : (s : Draft) → Gives c os rs (IsValue c os (of e)) s (assign_value c true op e l r s)
        value s = gives_made (loaded c (of e) (assign_place c true e l r s).pure) (place s)
            (λ d. loaded_good c os (assign_place c true e l r s).pure (of e) d g (stored_there c.structs (of e) st) (stored_floating c (of e) st))

        unused : (s : Draft) → Grown c os rs s (assign_unused c true op e l r s)
        unused s = then_grown (both s) (λ h. assigned_good e (sides c l r s).pure.0 (sides c l r s).pure.1 (sides c l r s).after st (λ k. as_whole (sides c l r s).pure (h k)))

        base : IsGood c os rs e (plain c e (λ to s. assign_value c true op e l r s) (assign_place c true e l r))
        base = plain_good c os rs e (λ to s. assign_value c true op e l r s) (assign_place c true e l r) (stored_there c.structs (of e) st) (λ to h s. value s) (λ q s. place s)

    -- `a op= b`
    pub operator_assignment : (op : Punct) → IsStepped c.structs (of e) → is_integer (of b) ≡ true → is_plain_assign op ≡ false → has_place e ≡ is_struct (of e)
        → IsGood c os rs e (assignment c op e (operand_of ma a) (operand_of mb b))
    operator_assignment op st i is q = subst (λ k. IsGood c os rs e (record (plain c e (λ to s. assign_value c k op e l r s) (assign_place c k e l r)) { unused = assign_unused c k op e l r })) (sym is)
        (record { value = base.value; place = base.place; unused = unused; branch = base.branch })
      where
        l : Operand
        l = operand_of ma a

        r : Operand
        r = operand_of mb b

        both : (s : Draft) → Gives c os rs (AreSides (of a) (of b)) s (sides c l r s)
        both = sides_good a b ma mb ga gb p f (stored_as c (of a) (of e) to (stepped_stored c (of e) st)) (scalar_there (of b) (integer_scalar (of b) i))

        as_whole : (v : Lvalue × Expression) → AreSides (of a) (of b) v → IsWhole c os rs (of e) v.0 × IsInteger c os v.1
        as_whole v h = (whole_as (of a) (of e) v.0 to h.0, (h.1.0, integer_value c (of b) v.1 i h.1.1))

        value : (s : Draft) → Gives c os rs (IsValue c os (of e)) s (assign_value c false op e l r s)
        value s = then_gives (both s) (λ h. updated_used_good e op (kind_of (of b)) (sides c l r s).pure.0 (sides c l r s).pure.1 (sides c l r s).after g st (λ k. as_whole (sides c l r s).pure (h k)))

        unused : (s : Draft) → Grown c os rs s (assign_unused c false op e l r s)
        unused s = then_grown (both s) (λ h. updated_good e op (kind_of (of b)) (sides c l r s).pure.0 (sides c l r s).pure.1 (sides c l r s).after g st (λ k. as_whole (sides c l r s).pure (h k)))

        base : IsGood c os rs e (plain c e (λ to s. assign_value c false op e l r s) (assign_place c false e l r))
        base = plain_good c os rs e (λ to s. assign_value c false op e l r s) (assign_place c false e l r) (scalar_there (of e) (stepped_scalar c.structs (of e) st))
            (λ to h s. value s) (λ h. absurd (stepped_placeless c (of e) st (sym q ∙ h)))

  -- ---- steps

  module _ (e a : Typed) (ma : Meaning) (ga : IsGood c os rs a ma) (p : has_place a ≡ true) (g : IsFormed c.structs (of e)) (to : same_value (of a) (of e) ≡ true) (st : IsStepped c.structs (of e)) where
    here : (l : Lvalue) → Designates c os (of a) l → IsWhole c os rs (of e) l
    here l d = whole_as (of a) (of e) l to (designated_whole (of a) l (stored_as c (of a) (of e) to (stepped_stored c (of e) st)) d)

    there : is_void (of e) ≡ false
    there = scalar_there (of e) (stepped_scalar c.structs (of e) st)

    pub step_unused_good : (op : Punct) (s : Draft) → Grown c os rs s (step_unused c op e (operand_of ma a) s)
    step_unused_good op s = then_grown (ga.place p s) (λ h. updated_good e op Int (ma.place s).pure one (ma.place s).after g st (λ k. (here (ma.place s).pure (h k), one_good)))

    pub step_value_good : (op : Punct) (s : Draft) → Gives c os rs (IsValue c os (of e)) s (step_value c op e (operand_of ma a) s)
    step_value_good op s = then_gives (ga.place p s) (λ h. updated_used_good e op Int (ma.place s).pure one (ma.place s).after g st (λ k. (here (ma.place s).pure (h k), one_good)))

    pub step_after_good : (op : Punct) → has_place e ≡ is_struct (of e) → IsGood c os rs e (step_after c op e (operand_of ma a))
    step_after_good op q =
        let value : ((s : Draft) → Gives c os rs (IsValue c os (of e)) s (stepped_used c e (operator_of op) (ma.place s).pure (ma.place s).after)) =
        λ (s : Draft). then_gives (ga.place p s) (λ h. stepped_used_good e op (ma.place s).pure (ma.place s).after g st (λ k. here (ma.place s).pure (h k))) in
        let base : IsGood c os rs e (valued c e (λ s. stepped_used c e (operator_of op) (ma.place s).pure (ma.place s).after)) =
        valued_good c os rs e (λ s. stepped_used c e (operator_of op) (ma.place s).pure (ma.place s).after) there (λ h. stepped_placeless c (of e) st (sym q ∙ h)) value in
        record { value = base.value; place = base.place; unused = step_unused_good op; branch = base.branch }

  pub assignment_good : (a b : Typed) (ma mb : Meaning) → IsGood c os rs a ma → IsGood c os rs b mb → (op : Punct) (t : CType) (p m : Place) → has_place a ≡ true → IsFormed c.structs (of a)
      → IsFormed c.structs t → IsStored c.structs t → same_value (of a) t ≡ true → IsAssigned c.structs op t (of b)
      → IsGood c os rs (typed (tree.assign op a b) t p m) (assignment c op (typed (tree.assign op a b) t p m) (operand_of ma a) (operand_of mb b))
  assignment_good a b ma mb ga gb Assign t p m q fa g st to h =
      plain_assignment (typed (tree.assign Assign a b) t p m) a b ma mb ga gb q fa g to Assign st h refl
  assignment_good a b ma mb ga gb op t p m q fa g st to h =
      operator_assignment (typed (tree.assign op a b) t p m) a b ma mb ga gb q fa g to op h.0 h.1 refl refl
