-- The start value of a constant reads no cell.
use Rattle.std.proofs.Common.{◌≡◌, ◌==◌, ℕ, Bool, true, false, ◌||◌, ◌&&◌, Option, Some, None, ℤ, is_some, if◌then◌else◌, refl, sym}
use Rattle.std.proofs.lemmas.Option.{none-some}
use Rattle.sp_tree.specs.declared.fault.Place.{Place}
use Rattle.sp_tree.specs.declared.token.Punct.{Punct}
use Rattle.sp_tree.specs.declared.token.Punct.TheVariants.{Ampersand, Star, Plus, Minus, Tilde, Exclamation}
use Rattle.sp_types.specs.declared.ctype.IntKind.{IntKind}
use Rattle.sp_types.specs.Types.{CType, void, integer, floating, pointer, array, structure, function}
use Rattle.sp_types.specs.Typed.{Typed, typed, TypedForm, of, mark_of}
use Rattle.sp_types.specs.Typed as tree
use Rattle.sp_check_constants.specs.Constants.{is_constant_operator, is_constant_form, is_constant_operand, constant_value, constant_of}
use Rattle.sp_ir.specs.Commands.{Expression, number, address, decay, convert, binary, move, distance, Lvalue, direct, through, field}
use Rattle.sp_ir.specs.Formed.{is_pointer, is_array, is_struct, is_scalar, reads, lvalue_reads}
use Rattle.sp_ir.specs.Terrain.{size_of}
use Rattle.sp_lower_draft.specs.declared.operators.Circuit.{Circuit}
use Rattle.sp_lower_draft.specs.Context.{Context, is_void, kind_of, pointee_size}
use Rattle.sp_lower_draft.specs.Draft.{Draft, Left, keep}
use Rattle.sp_lower_draft.specs.Operators.{prefix_of, circuit_of}
use Rattle.sp_lower_draft.specs.Adds.{adds, form_adds, prefix_adds, circuit_adds}
use Rattle.sp_lower_draft.specs.Steps.{addressed, decayed, loaded, element_at, added, subtracted, operated}
use Rattle.sp_lower_draft.specs.Expressions.{Meaning, operand_of, meaning, form_meaning, both, index_place, prefix_value, binary_value, conversion_value}
use Rattle.sp_lower_starts.specs.Starts.{empty, plain_value, plain_place, start_value, start_with, start_place, start_part}
use Rattle.sp_check_typing.specs.Sorts.{is_function}
use Rattle.sp_check_typing.specs.Trees.{Scene, IsTyped, IsForm}
use Rattle.sp_check_typing.specs.Constants.{is_constant, is_address, is_fixed, designates_fixed, is_stored}
use Rattle.sp_lower_expr_laws.proofs.Sorts.{false_true}
use Rattle.sp_lower_starts_laws.proofs.Steady.{or_first, or_second, and_first, and_second}

-- ---- steps

none_of : (a b : Bool) → a ≡ false → b ≡ false → (a || b) ≡ false
none_of false b h g = g
none_of true b h g = h

-- what is chosen doesn't read where neither does
either_reads : (b : Bool) (x y : Expression) → reads x ≡ false → reads y ≡ false → reads (if b then x else y) ≡ false
either_reads true x y h g = h
either_reads false x y h g = g

module _ (c : Context) where
  addressed_reads : (t : CType) (l : Lvalue) → lvalue_reads l ≡ false → reads (addressed c t l) ≡ false
  addressed_reads t (direct n u) h = h
  addressed_reads t (field l n u) h = h
  addressed_reads t (through v u at) h = either_reads (size_of c.structs u == 0) (convert t v) (address (through v u at)) h h

  decayed_reads : (t : CType) (l : Lvalue) → lvalue_reads l ≡ false → reads (decayed c t l) ≡ false
  decayed_reads t (direct n u) h = h
  decayed_reads t (field l n u) h = h
  decayed_reads t (through v u at) h = either_reads (size_of c.structs u == 0) (convert t v) (decay (through v u at)) h h

  -- the value of an array or a function is an address
  loaded_reads : (t : CType) (l : Lvalue) → (is_array t || is_function t) ≡ true → lvalue_reads l ≡ false → reads (loaded c t l) ≡ false
  loaded_reads (array t n) l k h = decayed_reads (pointer t) l h
  loaded_reads (function s) l k h = addressed_reads (pointer (function s)) l h
  loaded_reads void l k h = false_true k
  loaded_reads (integer j) l k h = false_true k
  loaded_reads (floating j) l k h = false_true k
  loaded_reads (pointer t) l k h = false_true k
  loaded_reads (structure j) l k h = false_true k

  element_reads : (a b : CType) (x y : Expression) → reads x ≡ false → reads y ≡ false → reads (element_at c a b x y) ≡ false
  element_reads a b x y h g = by (is_pointer a)
    where
      by : (p : Bool) → reads (if p then move x y false (pointee_size c a) else move y x false (pointee_size c b)) ≡ false
      by true = none_of (reads x) (reads y) h g
      by false = none_of (reads y) (reads x) g h

  added_reads : (e a b : Typed) (x y : Expression) → reads x ≡ false → reads y ≡ false → reads (added c e a b x y) ≡ false
  added_reads e a b x y h g = by (is_pointer (of a)) (is_pointer (of b))
    where
      by : (p q : Bool) → reads (if p then move x y false (pointee_size c (of a)) else if q then move y x false (pointee_size c (of b)) else binary Plus (kind_of (of e)) x y (mark_of e)) ≡ false
      by true q = none_of (reads x) (reads y) h g
      by false true = none_of (reads y) (reads x) g h
      by false false = none_of (reads x) (reads y) h g

  subtracted_reads : (e a b : Typed) (x y : Expression) → reads x ≡ false → reads y ≡ false → reads (subtracted c e a b x y) ≡ false
  subtracted_reads e a b x y h g = by (is_pointer (of a)) (is_pointer (of b))
    where
      by : (p q : Bool) → reads (if p then (if q then distance x y (pointee_size c (of a)) else move x y true (pointee_size c (of a))) else binary Minus (kind_of (of e)) x y (mark_of e)) ≡ false
      by true true = none_of (reads x) (reads y) h g
      by true false = none_of (reads x) (reads y) h g
      by false q = none_of (reads x) (reads y) h g

  operated_reads : (op : Punct) (e a b : Typed) (x y : Expression) → reads x ≡ false → reads y ≡ false → reads (operated c op e a b x y) ≡ false
  operated_reads Plus e a b x y h g = added_reads e a b x y h g
  operated_reads Minus e a b x y h g = subtracted_reads e a b x y h g
  operated_reads op e a b x y h g = none_of (reads x) (reads y) h g

  -- ---- without nodes

  -- whatever stands before it
  abbrev IsSteady : Meaning → Type 0
  IsSteady m = (to : Option CType) (s : Draft) → reads (m.value to s).pure ≡ false

  abbrev HasSteadyPlace : Meaning → Type 0
  HasSteadyPlace m = (s : Draft) → lvalue_reads (m.place s).pure ≡ false

  kept_reads : (later : Bool) (a : Typed) (x : Left Expression) → later ≡ false → reads x.pure ≡ false → reads (keep c later a x.pure x.after).pure ≡ false
  kept_reads false a x none h = h
  kept_reads true a x none h = false_true (sym none)

  both_read : (a b : Typed) (ma mb : Meaning) → adds b ≡ false → IsSteady ma → IsSteady mb → (s : Draft)
      → (reads (both c (operand_of ma a) (operand_of mb b) s).pure.0 ≡ false) × (reads (both c (operand_of ma a) (operand_of mb b) s).pure.1 ≡ false)
  both_read a b ma mb none h g s = (
    kept_reads (adds b) a (ma.value None s) none (h None s),
    g None (keep c (adds b) a (ma.value None s).pure (ma.value None s).after).after,
  )

  binary_reads : (x : Option Circuit) (op : Punct) (e a b : Typed) (ma mb : Meaning) → circuit_adds x (adds a || adds b) ≡ false
      → (adds a ≡ false → IsSteady ma) → (adds b ≡ false → IsSteady mb) → (s : Draft)
      → reads (binary_value c x op e (operand_of ma a) (operand_of mb b) s).pure ≡ false
  binary_reads None op e a b ma mb none h g s =
      let last : adds b ≡ false = or_second (adds a) (adds b) none in
      let v = both_read a b ma mb last (h (or_first (adds a) (adds b) none)) (g last) s in
      operated_reads op e a b (both c (operand_of ma a) (operand_of mb b) s).pure.0 (both c (operand_of ma a) (operand_of mb b) s).pure.1 v.0 v.1
  binary_reads (Some x) op e a b ma mb none h g s = false_true (sym none)

  -- the operators of integer constant expressions
  prefix_reads : (op : Punct) (e a : Typed) (m : Meaning) → is_constant_operator op ≡ true → prefix_adds (prefix_of op) (adds a) ≡ false
      → (adds a ≡ false → IsSteady m) → (s : Draft) → reads (prefix_value c (prefix_of op) op e (operand_of m a) s).pure ≡ false
  prefix_reads Plus e a m k none h s = h none None s
  prefix_reads Minus e a m k none h s = h none None s
  prefix_reads Tilde e a m k none h s = h none None s
  prefix_reads Exclamation e a m k none h s = none_of (reads (m.value None s).pure) false (h none None s) refl
  prefix_reads op e a m k none h s = false_true k

  -- integer constant expressions
  mutual
    form_reads : (e : Typed) → adds e ≡ false → is_constant_form e ≡ true → IsSteady (meaning c e)
    form_reads (typed f (integer k) p m) none con to s = operand_reads f k p m none con to s
    form_reads (typed f void p m) none con to s = false_true con
    form_reads (typed f (floating k) p m) none con to s = false_true con
    form_reads (typed f (pointer t) p m) none con to s = false_true con
    form_reads (typed f (array t n) p m) none con to s = false_true con
    form_reads (typed f (structure k) p m) none con to s = false_true con
    form_reads (typed f (function g) p m) none con to s = false_true con

    operand_reads : (f : TypedForm) (k : IntKind) (p m : Place) → form_adds f ≡ false → is_constant_operand f ≡ true → IsSteady (form_meaning c f (typed f (integer k) p m))
    operand_reads (tree.number n) k p m none con to s = refl
    operand_reads (tree.character z) k p m none con to s = refl
    operand_reads (tree.constant z) k p m none con to s = refl
    operand_reads (tree.convert a) k p m none con to s = form_reads a none con (Some (integer k)) s
    operand_reads (tree.cast a) k p m none con to s = form_reads a none con (Some (integer k)) s
    operand_reads (tree.unary op a) k p m none con to s = prefix_reads op (typed (tree.unary op a) (integer k) p m) a (meaning c a)
        (and_first (is_constant_operator op) (is_constant_form a) con) none
        (λ n to s. form_reads a n (and_second (is_constant_operator op) (is_constant_form a) con) to s) s
    operand_reads (tree.binary op a b) k p m none con to s = binary_reads (circuit_of op) op (typed (tree.binary op a b) (integer k) p m) a b (meaning c a) (meaning c b) none
        (λ n to s. form_reads a n (and_first (is_constant_form a) (is_constant_form b) con) to s)
        (λ n to s. form_reads b n (and_second (is_constant_form a) (is_constant_form b) con) to s) s
    operand_reads (tree.choice a b d) k p m none con to s = false_true (sym none)
    operand_reads (tree.object n) k p m none con to s = false_true con
    operand_reads (tree.function n) k p m none con to s = false_true con
    operand_reads (tree.decay a) k p m none con to s = false_true con
    operand_reads (tree.index a b) k p m none con to s = false_true con
    operand_reads (tree.call g es) k p m none con to s = false_true con
    operand_reads (tree.member a n) k p m none con to s = false_true con
    operand_reads (tree.arrow a n) k p m none con to s = false_true con
    operand_reads (tree.after op a) k p m none con to s = false_true con
    operand_reads (tree.assign op a b) k p m none con to s = false_true con
    operand_reads (tree.comma a b) k p m none con to s = false_true con

  -- a number is of constant form
  formed_constant : (e : Typed) → is_some (constant_of e) ≡ true → is_constant_form e ≡ true
  formed_constant e h = by (is_constant_form e) h
    where
      by : (b : Bool) → is_some (if b then constant_value e else None) ≡ true → b ≡ true
      by true h = refl
      by false h = false_true h

  module _ (scene : Scene) where
    -- what is converted is no struct
    conversion_reads : (a e : Typed) (m : Meaning) → is_scalar (of e) ≡ true → IsSteady m → (s : Draft)
        → reads (conversion_value c (is_void (of e)) (is_struct (of e)) e (operand_of m a) s).pure ≡ false
    conversion_reads a (typed f (integer k) p q) m k' h s = h (Some (integer k)) s
    conversion_reads a (typed f (pointer t) p q) m k' h s = h (Some (pointer t)) s
    conversion_reads a (typed f void p q) m k' h s = false_true k'
    conversion_reads a (typed f (floating k) p q) m k' h s = false_true k'
    conversion_reads a (typed f (array t n) p q) m k' h s = false_true k'
    conversion_reads a (typed f (structure k) p q) m k' h s = false_true k'
    conversion_reads a (typed f (function g) p q) m k' h s = false_true k'

    index_reads : (e a b : Typed) (ma mb : Meaning) → adds b ≡ false → IsSteady ma → IsSteady mb → (s : Draft)
        → lvalue_reads (index_place c e (operand_of ma a) (operand_of mb b) s).pure ≡ false
    index_reads e a b ma mb none h g s =
        let v = both_read a b ma mb none h g s in
        element_reads (of a) (of b) (both c (operand_of ma a) (operand_of mb b) s).pure.0 (both c (operand_of ma a) (operand_of mb b) s).pure.1 v.0 v.1

    mutual
      constant_reads : (e : Typed) → IsTyped scene e → adds e ≡ false → is_constant e ≡ true → IsSteady (meaning c e)
      constant_reads (typed f (integer k) p m) h none con to s = form_reads (typed f (integer k) p m) none (formed_constant (typed f (integer k) p m) con) to s
      constant_reads (typed f (pointer t) p m) h none con to s = address_reads f t p m h.2 none con to s
      constant_reads (typed f void p m) h none con to s = false_true con
      constant_reads (typed f (floating k) p m) h none con to s = false_true con
      constant_reads (typed f (array t n) p m) h none con to s = false_true con
      constant_reads (typed f (structure k) p m) h none con to s = false_true con
      constant_reads (typed f (function g) p m) h none con to s = false_true con

      address_reads : (f : TypedForm) (t : CType) (p m : Place) → IsForm scene (pointer t) f → form_adds f ≡ false → is_address f ≡ true
          → IsSteady (form_meaning c f (typed f (pointer t) p m))
      address_reads (tree.decay a) t p m h none con to s = loaded_reads (of a) ((meaning c a).place s).pure h.2 (place_reads a h.0 none con s)
      address_reads (tree.unary Ampersand a) t p m h none con to s = addressed_reads (pointer t) ((meaning c a).place s).pure (place_reads a h.0 none con s)
      address_reads (tree.convert a) t p m h none con to s = constant_reads a h.0 none con (Some (pointer t)) s
      address_reads (tree.cast a) t p m h none con to s = constant_reads a h.0 none con (Some (pointer t)) s
      address_reads (tree.binary Plus a b) t p m h none con to s = binary_reads None Plus (typed (tree.binary Plus a b) (pointer t) p m) a b (meaning c a) (meaning c b) none
          (λ n to s. constant_reads a h.0 n (and_first (is_constant a) (is_constant b) con) to s)
          (λ n to s. constant_reads b h.1 n (and_second (is_constant a) (is_constant b) con) to s) s
      address_reads (tree.binary Minus a b) t p m h none con to s = binary_reads None Minus (typed (tree.binary Minus a b) (pointer t) p m) a b (meaning c a) (meaning c b) none
          (λ n to s. constant_reads a h.0 n (and_first (is_constant a) (is_constant b) con) to s)
          (λ n to s. constant_reads b h.1 n (and_second (is_constant a) (is_constant b) con) to s) s
      address_reads f t p m h none con to s = false_true con

      place_reads : (e : Typed) → IsTyped scene e → adds e ≡ false → is_fixed e ≡ true → HasSteadyPlace (meaning c e)
      place_reads (typed f t p m) h none con s = fixed_reads f t p m h.2 none con s

      fixed_reads : (f : TypedForm) (t : CType) (p m : Place) → IsForm scene t f → form_adds f ≡ false → designates_fixed f ≡ true
          → HasSteadyPlace (form_meaning c f (typed f t p m))
      fixed_reads (tree.object n) t p m h none con s = refl
      fixed_reads (tree.function n) t p m h none con s = refl
      fixed_reads (tree.index a b) t p m h none con s = index_reads (typed (tree.index a b) t p m) a b (meaning c a) (meaning c b) (or_second (adds a) (adds b) none)
          (λ to s. constant_reads a h.0 (or_first (adds a) (adds b) none) (and_first (is_constant a) (is_constant b) con) to s)
          (λ to s. constant_reads b h.1 (or_second (adds a) (adds b) none) (and_second (is_constant a) (is_constant b) con) to s) s
      fixed_reads (tree.member a n) t p m h none con s = place_reads a h.0 none con s
      fixed_reads (tree.arrow a n) t p m h none con s = constant_reads a h.0 none con None s
      fixed_reads (tree.unary Star a) t p m h none con s = constant_reads a h.0 none con None s
      fixed_reads f t p m h none con s = false_true con

    -- ---- with nodes

    if_reads : (b : Bool) (x y : Expression) → reads x ≡ false → (b ≡ false → reads y ≡ false) → reads (if b then x else y) ≡ false
    if_reads true x y h g = h
    if_reads false x y h g = g refl

    if_place_reads : (b : Bool) (x y : Lvalue) → (b ≡ true → lvalue_reads x ≡ false) → (b ≡ false → lvalue_reads y ≡ false) → lvalue_reads (if b then x else y) ≡ false
    if_place_reads true x y h g = h refl
    if_place_reads false x y h g = g refl

    -- a number, or what is made of the parts
    chosen_reads : (k : IntKind) (o : Option ℤ) (x : Expression) → (o ≡ None → reads x ≡ false) → reads (elim o [ None ↦ x | Some z ↦ number z k ]) ≡ false
    chosen_reads k None x h = h refl
    chosen_reads k (Some z) x h = refl

    never_none : (o : Option ℤ) (x : Expression) → is_some o ≡ true → o ≡ None → reads x ≡ false
    never_none None x h e = false_true h
    never_none (Some z) x h e = absurd (none-some z (sym e))

    mutual
      value_reads : (e : Typed) → IsTyped scene e → is_constant e ≡ true → reads (start_value c e) ≡ false
      value_reads (typed f (integer k) p m) h con =
          if_reads (form_adds f) (elim (constant_of (typed f (integer k) p m)) [ None ↦ start_with c f (typed f (integer k) p m) | Some z ↦ number z k ]) (plain_value c (typed f (integer k) p m))
          (chosen_reads k (constant_of (typed f (integer k) p m)) (start_with c f (typed f (integer k) p m))
          (never_none (constant_of (typed f (integer k) p m)) (start_with c f (typed f (integer k) p m)) con))
          (λ none. constant_reads (typed f (integer k) p m) h none con None empty)
      value_reads (typed f (pointer t) p m) h con =
          if_reads (form_adds f) (start_with c f (typed f (pointer t) p m)) (plain_value c (typed f (pointer t) p m))
          (with_reads f t p m h.2 con) (λ none. constant_reads (typed f (pointer t) p m) h none con None empty)
      value_reads (typed f void p m) h con = false_true con
      value_reads (typed f (floating k) p m) h con = false_true con
      value_reads (typed f (array t n) p m) h con = false_true con
      value_reads (typed f (structure k) p m) h con = false_true con
      value_reads (typed f (function g) p m) h con = false_true con

      with_reads : (f : TypedForm) (t : CType) (p m : Place) → IsForm scene (pointer t) f → is_address f ≡ true → reads (start_with c f (typed f (pointer t) p m)) ≡ false
      with_reads (tree.decay a) t p m h con = loaded_reads (of a) (start_place c a) h.2 (start_place_reads a h.0 con)
      with_reads (tree.unary Ampersand a) t p m h con = addressed_reads (pointer t) (start_place c a) (start_place_reads a h.0 con)
      with_reads (tree.convert a) t p m h con = value_reads a h.0 con
      with_reads (tree.cast a) t p m h con = value_reads a h.0 con
      with_reads (tree.binary Plus a b) t p m h con = operated_reads Plus (typed (tree.binary Plus a b) (pointer t) p m) a b (start_value c a) (start_value c b)
          (value_reads a h.0 (and_first (is_constant a) (is_constant b) con)) (value_reads b h.1 (and_second (is_constant a) (is_constant b) con))
      with_reads (tree.binary Minus a b) t p m h con = operated_reads Minus (typed (tree.binary Minus a b) (pointer t) p m) a b (start_value c a) (start_value c b)
          (value_reads a h.0 (and_first (is_constant a) (is_constant b) con)) (value_reads b h.1 (and_second (is_constant a) (is_constant b) con))
      with_reads f t p m h con = false_true con

      start_place_reads : (e : Typed) → IsTyped scene e → is_fixed e ≡ true → lvalue_reads (start_place c e) ≡ false
      start_place_reads (typed f t p m) h con =
          if_place_reads (form_adds f) (start_part c f (typed f t p m)) (plain_place c (typed f t p m))
          (part_reads f t p m h.2 con) (λ none. place_reads (typed f t p m) h none con empty)

      part_reads : (f : TypedForm) (t : CType) (p m : Place) → IsForm scene t f → designates_fixed f ≡ true → form_adds f ≡ true
          → lvalue_reads (start_part c f (typed f t p m)) ≡ false
      part_reads (tree.index a b) t p m h con some = element_reads (of a) (of b) (start_value c a) (start_value c b)
          (value_reads a h.0 (and_first (is_constant a) (is_constant b) con)) (value_reads b h.1 (and_second (is_constant a) (is_constant b) con))
      part_reads (tree.member a n) t p m h con some = start_place_reads a h.0 con
      part_reads (tree.arrow a n) t p m h con some = value_reads a h.0 con
      part_reads (tree.unary Star a) t p m h con some = value_reads a h.0 con
      part_reads (tree.object n) t p m h con some = false_true some
      part_reads (tree.function n) t p m h con some = false_true some
      part_reads f t p m h con some = false_true con

    -- ---- stored

    converted_reads : (a : Typed) (t : CType) (p m : Place) → IsTyped scene (typed (tree.convert a) t p m) → is_scalar t ≡ true → is_constant a ≡ true
        → reads (start_value c (typed (tree.convert a) t p m)) ≡ false
    converted_reads a t p m h scalar con =
        if_reads (adds a) (elim (constant_of (typed (tree.convert a) t p m)) [ None ↦ convert t (start_value c a) | Some z ↦ number z (kind_of t) ]) (plain_value c (typed (tree.convert a) t p m))
        (chosen_reads (kind_of t) (constant_of (typed (tree.convert a) t p m)) (convert t (start_value c a)) (λ none. value_reads a h.2.0 con))
        (λ none. conversion_reads a (typed (tree.convert a) t p m) (meaning c a) scalar (λ to s. constant_reads a h.2.0 none con to s) empty)

    either_stored : (a : Typed) (t : CType) (p m : Place) (b d : Bool) → is_constant (typed (tree.convert a) t p m) ≡ b → (is_scalar t && is_constant a) ≡ d → (b || d) ≡ true
        → IsTyped scene (typed (tree.convert a) t p m) → reads (start_value c (typed (tree.convert a) t p m)) ≡ false
    either_stored a t p m true d con both h typing = value_reads (typed (tree.convert a) t p m) typing con
    either_stored a t p m false true con both h typing = converted_reads a t p m typing (and_first (is_scalar t) (is_constant a) both) (and_second (is_scalar t) (is_constant a) both)
    either_stored a t p m false false con both h typing = false_true h

    pub start_value_reads : (e : Typed) → IsTyped scene e → is_stored e ≡ true → reads (start_value c e) ≡ false
    start_value_reads (typed (tree.convert a) t p m) h con =
        either_stored a t p m (is_constant (typed (tree.convert a) t p m)) (is_scalar t && is_constant a) refl refl con h
    start_value_reads e h con = value_reads e h con
