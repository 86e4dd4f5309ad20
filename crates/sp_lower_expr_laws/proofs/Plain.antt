-- Uses that are made of the value or of the place of an expression.
use Rattle.std.proofs.Common.{◌≡◌, ℕ, ◌<◌, zero, suc, ℤ, Bool, true, false, List, [], ◌∷◌, length, Option, Some, None, refl, ap, sym, ◌∙◌, subst, arith}
use Rattle.std.specs.Prelude.{slice_get}
use Rattle.sp_types.specs.Types.{CType, void, integer, floating, pointer, array, structure, function, Signature}
use Rattle.sp_types.specs.Structs.{IsFormed}
use Rattle.sp_types.specs.Programs.{Function}
use Rattle.sp_types.specs.Typed.{Typed, of, place_of}
use Rattle.sp_ir.specs.Commands.{Expression, number, Lvalue, direct, eval}
use Rattle.sp_ir.specs.Regions.{Region}
use Rattle.sp_ir.specs.Programs.{Object}
use Rattle.sp_ir.specs.Formed.{IsExpression, is_scalar, is_struct, is_floating}
use Rattle.sp_lower_draft.specs.Context.{Context, is_void, kind_of, type_of_object, object_type, type_of_function, function_type, function_object}
use Rattle.sp_lower_draft.specs.Draft.{Draft, Left, left, Branch, evaluated, fork, keep}
use Rattle.sp_lower_draft.specs.Adds.{adds}
use Rattle.sp_lower_draft.specs.Steps.{loaded}
use Rattle.sp_lower_draft.specs.Expressions.{Meaning, operand_of, plain, valued, constant, lvalue, both}
use Rattle.sp_check_typing.specs.Sorts.{agrees, IsStored, is_function}
use Rattle.sp_check_typing.specs.Trees.{Names, IsNumber, has_place}
use Rattle.sp_lower_expr_laws.specs.Stands.{table, scene, Fits}
use Rattle.sp_lower_expr_laws.specs.Grown.{Grown, same, node, IsMaybeFormed}
use Rattle.sp_lower_expr_laws.specs.Uses.{IsValue, Designates, Gives, GivesEnds, IsGood}
use Rattle.sp_lower_expr_laws.proofs.Growing.{onward, ready, back}
use Rattle.sp_lower_expr_laws.proofs.Sorts.{tells_agree, false_true, scalar_there, stored_there, agrees_floating}
use Rattle.sp_lower_expr_laws.proofs.Loads.{loaded_good, addressed_good}
use Rattle.sp_lower_expr_laws.proofs.Keeps.{gives_made, direct_of, keep_good}
use Rattle.sp_lower_expr_laws.proofs.Operators.{scalar_value}
use Rattle.sp_lower_expr_laws.proofs.Branches.{fork_good}

module _ {c : Context} {os : List Object} {rs : List Region} where
  pub then_ends : {s t : Draft} {b : Branch} → Grown c os rs s t → GivesEnds c os rs t b → GivesEnds c os rs s b
  then_ends g b = record { grown = onward g b.grown; yes = λ r. b.yes (ready g r); no = λ r. b.no (ready g r) }

-- ---- expressions with a value

module _ (c : Context) (os : List Object) (rs : List Region) where
  -- unused it is evaluated
  pub evaluated_good : (e : Typed) (s : Draft) (v : Left Expression) → Gives c os rs (IsExpression (table c os) (Some c.function)) s v → Grown c os rs s (evaluated c e v.pure v.after)
  evaluated_good e s v g = node (eval v.pure) (place_of e) g.grown refl g.pure

  -- as a condition it is compared
  pub compared_good : (e : Typed) (s : Draft) (v : Left Expression) → is_scalar (of e) ≡ true → Gives c os rs (IsValue c os (of e)) s v → GivesEnds c os rs s (fork c e v.pure v.after)
  compared_good e s v k g = then_ends g.grown (fork_good c os rs e v.pure v.after (λ h. ((g.pure h).0, scalar_value c (of e) v.pure k (g.pure h).1)))

  pub formed_of : (t : CType) {s : Draft} {v : Left Expression} → Gives c os rs (IsValue c os t) s v → Gives c os rs (IsExpression (table c os) (Some c.function)) s v
  formed_of t g = record { grown = g.grown; pure = λ h. (g.pure h).0 }

  -- a value that is no lvalue, and isn't void
  pub plain_good : (e : Typed) (value : Option CType → Draft → Left Expression) (place : Draft → Left Lvalue) → is_void (of e) ≡ false
      → ((to : Option CType) → IsMaybeFormed c to → (s : Draft) → Gives c os rs (IsValue c os (of e)) s (value to s))
      → (has_place e ≡ true → (s : Draft) → Gives c os rs (Designates c os (of e)) s (place s))
      → IsGood c os rs e (plain c e value place)
  plain_good e value place there gv gp = record {
    value = λ v to f s. gv to f s;
    place = gp;
    unused = λ s. evaluated_good e s (value None s) (formed_of (of e) (gv None tt s));
    branch = λ k s. compared_good e s (value None s) k (gv None tt s);
  }

  pub valued_good : (e : Typed) (value : Draft → Left Expression) → is_void (of e) ≡ false → (has_place e ≡ true → ⊥)
      → ((s : Draft) → Gives c os rs (IsValue c os (of e)) s (value s)) → IsGood c os rs e (valued c e value)
  valued_good e value there none gv = plain_good e (λ to s. value s) _ there (λ to f s. gv s) (λ p. absurd (none p))

  -- ---- literals

  number_good : (t : CType) (z : ℤ) → IsNumber t z → IsValue c os t (number z (kind_of t))
  number_good (integer k) z h = (h, refl)
  number_good void z h = absurd h
  number_good (floating k) z h = absurd h
  number_good (pointer t) z h = absurd h
  number_good (array t n) z h = absurd h
  number_good (structure k) z h = absurd h
  number_good (function s) z h = absurd h

  number_there : (t : CType) (z : ℤ) → IsNumber t z → is_void t ≡ false
  number_there (integer k) z h = refl
  number_there void z h = absurd h
  number_there (floating k) z h = refl
  number_there (pointer t) z h = refl
  number_there (array t n) z h = refl
  number_there (structure k) z h = refl
  number_there (function s) z h = refl

  number_placeless : (t : CType) (z : ℤ) → IsNumber t z → is_struct t ≡ true → ⊥
  number_placeless (integer k) z h p = false_true p
  number_placeless void z h p = absurd h
  number_placeless (floating k) z h p = absurd h
  number_placeless (pointer t) z h p = absurd h
  number_placeless (array t n) z h p = absurd h
  number_placeless (structure k) z h p = absurd h
  number_placeless (function s) z h p = absurd h

  pub constant_good : (e : Typed) (z : ℤ) → IsNumber (of e) z → has_place e ≡ is_struct (of e) → IsGood c os rs e (constant c e z)
  constant_good e z h p =
      let g : IsGood c os rs e (valued c e (left (number z (kind_of (of e))))) =
      valued_good e (left (number z (kind_of (of e)))) (number_there (of e) z h) (λ q. number_placeless (of e) z h (sym p ∙ q))
      (λ s. record { grown = same; pure = λ k. number_good (of e) z h }) in
      record { value = g.value; place = g.place; unused = λ s. same; branch = g.branch }

  -- ---- lvalues

  -- what the type lets be loaded; void has its address
  loaded_formed : (l : Lvalue) (t : CType) → Designates c os t l → IsFormed c.structs t → is_floating t ≡ false → (b : Bool) → is_void t ≡ b
      → IsExpression (table c os) (Some c.function) (loaded c t l)
  loaded_formed l t d f r false v = (loaded_good c os l t d f v r).0
  loaded_formed l void d f r true v = (addressed_good c os l (pointer void) d.0 refl tt).0
  loaded_formed l (integer k) d f r true v = false_true v
  loaded_formed l (floating k) d f r true v = false_true v
  loaded_formed l (pointer t) d f r true v = false_true v
  loaded_formed l (array t n) d f r true v = false_true v
  loaded_formed l (structure k) d f r true v = false_true v
  loaded_formed l (function s) d f r true v = false_true v

  -- ends of conditions, and values, where it isn't void
  pub lvalue_good : (e : Typed) (place : Draft → Left Lvalue) → IsFormed c.structs (of e) → is_floating (of e) ≡ false
      → ((s : Draft) → Gives c os rs (Designates c os (of e)) s (place s)) → IsGood c os rs e (lvalue c e place)
  lvalue_good e place f r gp = record {
    value = λ v to h s. gives_made (loaded c (of e) (place s).pure) (gp s) (λ d. loaded_good c os (place s).pure (of e) d f v r);
    place = λ p s. gp s;
    unused = λ s. evaluated_good e s (left (loaded c (of e) (place s).pure) (place s).after)
        (gives_made (loaded c (of e) (place s).pure) (gp s) (λ d. loaded_formed (place s).pure (of e) d f r (is_void (of e)) refl));
    branch = λ k s. compared_good e s (left (loaded c (of e) (place s).pure) (place s).after) k
        (gives_made (loaded c (of e) (place s).pure) (gp s) (λ d. loaded_good c os (place s).pure (of e) d f (scalar_there (of e) k) r));
  }

  -- ---- names

  module _ (v : ℕ → Bool) (fits : Fits c os v) where
    pub object_good : (e : Typed) (n : ℕ) → Names (scene c v) n (of e) → IsFormed c.structs (of e) → is_floating (of e) ≡ false
        → IsGood c os rs e (lvalue c e (left (direct n (object_type c n))))
    object_good e n h f r =
        let is : object_type c n ≡ h.object.of = ap type_of_object h.there in
        let a : agrees h.object.of (of e) ≡ true = tells_agree h.object.of (of e) h.told r in
        let d : Designates c os (of e) (direct n h.object.of) =
        (direct_of c os rs n h.object.of (fits.objects n h.object h.there h.visible) (agrees_floating h.object.of (of e) a), a) in
        lvalue_good e (left (direct n (object_type c n))) f r
        (λ s. record { grown = same; pure = λ k. subst (λ t. Designates c os (of e) (direct n t)) (sym is) d })

    there_below : {A : Type 0} (xs : List A) (n : ℕ) → n < length xs → (x : A) × (slice_get xs n ≡ Some x)
    there_below [] n low = absurd (omega arith)
    there_below (x ∷ xs) zero low = (x, refl)
    there_below (x ∷ xs) (suc n) low = there_below xs n (omega arith)

    function_agrees : (t : CType) (s : Signature) → is_function t ≡ true → agrees (function s) t ≡ true
    function_agrees (function r) s h = refl
    function_agrees void s h = h
    function_agrees (integer k) s h = h
    function_agrees (floating k) s h = h
    function_agrees (pointer t) s h = h
    function_agrees (array t n) s h = h
    function_agrees (structure k) s h = h

    pub function_good : (e : Typed) (n : ℕ) → is_function (of e) ≡ true → n < length c.functions → IsFormed c.structs (of e) → is_floating (of e) ≡ false
        → IsGood c os rs e (lvalue c e (left (direct (function_object c n) (function_type c n))))
    function_good e n k low f r =
        let g : (g : Function) × (slice_get c.functions n ≡ Some g) = there_below c.functions n low in
        let is : function_type c n ≡ function g.0.of = ap type_of_function g.1 in
        let d : Designates c os (of e) (direct (function_object c n) (function g.0.of)) =
        (direct_of c os rs (function_object c n) (function g.0.of) (fits.functions n g.0 g.1) refl, function_agrees (of e) g.0.of k) in
        lvalue_good e (left (direct (function_object c n) (function_type c n))) f r
        (λ s. record { grown = same; pure = λ q. subst (λ t. Designates c os (of e) (direct (function_object c n) t)) (sym is) d })

  -- ---- two operands

  abbrev pub AreValues : CType → CType → Expression × Expression → Type 0
  AreValues t u v = IsValue c os t v.0 × IsValue c os u v.1

  pub both_good : (a b : Typed) (ma mb : Meaning) → IsGood c os rs a ma → IsGood c os rs b mb → IsFormed c.structs (of a) → IsStored c.structs (of a) → is_void (of b) ≡ false
      → (s : Draft) → Gives c os rs (AreValues (of a) (of b)) s (both c (operand_of ma a) (operand_of mb b) s)
  both_good a b ma mb ga gb f st there s =
      let x : Left Expression = ma.value None s in
      let kept : Left Expression = keep c (adds b) a x.pure x.after in
      let y : Left Expression = mb.value None kept.after in
      let gx : Gives c os rs (IsValue c os (of a)) s x = ga.value (stored_there c.structs (of a) st) None tt s in
      let gk : Gives c os rs (IsValue c os (of a)) x.after kept = keep_good c os rs (adds b) a x.pure x.after f st gx.pure in
      let gy : Gives c os rs (IsValue c os (of b)) kept.after y = gb.value there None tt kept.after in
      record { grown = onward gx.grown (onward gk.grown gy.grown); pure = λ h. (gk.pure (back gy.grown h), gy.pure h) }
