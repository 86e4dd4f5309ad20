-- Values that go to objects: stores, temporaries, and what is kept where a later operand adds nodes.
use Rattle.std.proofs.Common.{◌≡◌, ℕ, ◌+◌, ◌≤◌, Bool, true, false, ◌&&◌, ◌||◌, List, length, Some, if◌then◌else◌, refl, ap, sym, ◌∙◌, subst}
use Rattle.sp_tree.specs.declared.fault.Place.{Place}
use Rattle.sp_types.specs.Types.{CType, void, integer, floating, pointer, array, structure, function}
use Rattle.sp_types.specs.Structs.{IsFormed}
use Rattle.sp_types.specs.Typed.{Typed, of, place_of}
use Rattle.sp_ir.specs.Commands.{Expression, number, address, decay, read, convert, unary, binary, compare, move, distance, Lvalue, through, Command, lvalue_type, expression_type, holds_read, lvalue_holds_read}
use Rattle.sp_ir.specs.Regions.{Region}
use Rattle.sp_ir.specs.Programs.{Object}
use Rattle.sp_ir.specs.Formed.{IsDirect, IsExpression, IsLvalue, IsCommand, is_integer, is_pointer, is_struct, is_scalar, is_floating, same_sort}
use Rattle.sp_ir.specs.Terrain.{size_of}
use Rattle.sp_lower_draft.specs.Context.{Context}
use Rattle.sp_lower_draft.specs.Draft.{Draft, Left, left, stored, struct_stored, temporary, save, keep, keep_place}
use Rattle.sp_check_typing.specs.Sorts.{agrees, same_value, IsStored}
use Rattle.sp_lower_expr_laws.specs.Stands.{table, Stands, Holds}
use Rattle.sp_lower_expr_laws.specs.Grown.{Grown, same, node, made, is_plain}
use Rattle.sp_lower_expr_laws.specs.Uses.{Yields, IsValue, Gives}
use Rattle.sp_lower_expr_laws.proofs.Growing.{onward, back, pushed_last}
use Rattle.sp_lower_expr_laws.proofs.Sorts.{false_true, agrees_self, agrees_integer, agrees_pointer, agrees_struct, integer_sized, pointer_sized}

module _ {c : Context} {os : List Object} {rs : List Region} where
  -- one step behind another
  pub then_gives : {A B : Type 0} {P : A → Type 0} {Q : B → Type 0} {s : Draft} {r : Left A} {q : Left B}
      → Gives c os rs P s r → ((Holds c os r.after → P r.pure) → Gives c os rs Q r.after q) → Gives c os rs Q s q
  then_gives g f = record { grown = onward g.grown (f g.pure).grown; pure = (f g.pure).pure }

  pub then_grown : {A : Type 0} {P : A → Type 0} {s t : Draft} {r : Left A}
      → Gives c os rs P s r → ((Holds c os r.after → P r.pure) → Grown c os rs r.after t) → Grown c os rs s t
  then_grown g f = onward g.grown (f g.pure)

  -- what is left is made into something else
  pub gives_made : {A B : Type 0} {P : A → Type 0} {Q : B → Type 0} {s : Draft} {r : Left A} (b : B)
      → Gives c os rs P s r → (P r.pure → Q b) → Gives c os rs Q s (left b r.after)
  gives_made b g f = record { grown = g.grown; pure = λ h. f (g.pure h) }

-- ---- stores

pub both_integers : (a b : CType) → is_integer a ≡ true → is_integer b ≡ true → same_sort a b ≡ true
both_integers (integer j) (integer k) h g = refl
both_integers (integer j) void h g = false_true g
both_integers (integer j) (floating k) h g = false_true g
both_integers (integer j) (pointer t) h g = false_true g
both_integers (integer j) (array t n) h g = false_true g
both_integers (integer j) (structure n) h g = false_true g
both_integers (integer j) (function s) h g = false_true g
both_integers void b h g = false_true h
both_integers (floating k) b h g = false_true h
both_integers (pointer t) b h g = false_true h
both_integers (array t n) b h g = false_true h
both_integers (structure n) b h g = false_true h
both_integers (function s) b h g = false_true h

pub both_pointers : (a b : CType) → is_pointer a ≡ true → is_pointer b ≡ true → same_sort a b ≡ true
both_pointers (pointer t) b h g = g
both_pointers void b h g = false_true h
both_pointers (integer k) b h g = false_true h
both_pointers (floating k) b h g = false_true h
both_pointers (array t n) b h g = false_true h
both_pointers (structure n) b h g = false_true h
both_pointers (function s) b h g = false_true h

pub stored_sized : (c : Context) (u t : CType) → agrees u t ≡ true → IsStored c.structs t → 1 ≤ size_of c.structs u
stored_sized c u (integer k) a h = integer_sized c.structs u (agrees_integer u k a)
stored_sized c u (pointer t) a h = pointer_sized c.structs u (agrees_pointer u t a)
stored_sized c u (structure k) a h = subst (λ v. 1 ≤ size_of c.structs v) (sym (agrees_struct u k a)) h
stored_sized c u void a h = absurd h
stored_sized c u (floating k) a h = absurd h
stored_sized c u (array t n) a h = absurd h
stored_sized c u (function s) a h = absurd h

pub stored_floating : (c : Context) (t : CType) → IsStored c.structs t → is_floating t ≡ false
stored_floating c (integer k) h = refl
stored_floating c (pointer t) h = refl
stored_floating c (structure k) h = refl
stored_floating c void h = absurd h
stored_floating c (floating k) h = absurd h
stored_floating c (array t n) h = absurd h
stored_floating c (function s) h = absurd h

-- a value of one type as one of another
pub value_as : (c : Context) (u t : CType) (e : Expression) → same_value u t ≡ true → Yields c u e → Yields c t e
value_as c (integer j) (integer k) e h y = y
value_as c (pointer u) (pointer t) e h y = y
value_as c (structure j) (structure k) e h y = subst (λ t. Yields c t e) (agrees_struct (structure j) k h) y
value_as c (integer j) void e h y = false_true h
value_as c (integer j) (floating k) e h y = false_true h
value_as c (integer j) (pointer t) e h y = false_true h
value_as c (integer j) (array t n) e h y = false_true h
value_as c (integer j) (structure k) e h y = false_true h
value_as c (integer j) (function s) e h y = false_true h
value_as c (pointer u) void e h y = false_true h
value_as c (pointer u) (integer k) e h y = false_true h
value_as c (pointer u) (floating k) e h y = false_true h
value_as c (pointer u) (array t n) e h y = false_true h
value_as c (pointer u) (structure k) e h y = false_true h
value_as c (pointer u) (function s) e h y = false_true h
value_as c (structure j) void e h y = false_true h
value_as c (structure j) (integer k) e h y = false_true h
value_as c (structure j) (floating k) e h y = false_true h
value_as c (structure j) (pointer t) e h y = false_true h
value_as c (structure j) (array t n) e h y = false_true h
value_as c (structure j) (function s) e h y = false_true h
value_as c void t e h y = false_true h
value_as c (floating k) t e h y = false_true h
value_as c (array u n) t e h y = false_true h
value_as c (function s) t e h y = false_true h

struct_plain : (l : Lvalue) (e : Expression) → is_plain (struct_stored l e) ≡ true
struct_plain l (read from) = refl
struct_plain l (number z k) = refl
struct_plain l (address m) = refl
struct_plain l (decay m) = refl
struct_plain l (convert t e) = refl
struct_plain l (unary p k e) = refl
struct_plain l (binary p k a b at) = refl
struct_plain l (compare p a b) = refl
struct_plain l (move a b back size) = refl
struct_plain l (distance a b size) = refl

pub store_plain : (l : Lvalue) (t : CType) (e : Expression) → is_plain (stored l t e) ≡ true
store_plain l (structure k) e = struct_plain l e
store_plain l void e = refl
store_plain l (integer k) e = refl
store_plain l (floating k) e = refl
store_plain l (pointer t) e = refl
store_plain l (array t n) e = refl
store_plain l (function s) e = refl

module _ (c : Context) (os : List Object) (rs : List Region) where
  -- the command is formed as the node of this number
  abbrev pub IsAt : ℕ → Command → Type 0
  IsAt n x = IsCommand (table c os) rs n (Some c.function) x

  struct_store : (n : ℕ) (l : Lvalue) (k : ℕ) (e : Expression) → IsLvalue (table c os) (Some c.function) l → lvalue_type l ≡ structure k → 1 ≤ size_of c.structs (structure k)
      → IsValue c os (structure k) e → IsAt n (struct_stored l e)
  struct_store n l k e h is big v = by e (v.1 big).0 (v.1 big).1 (v.1 big).2 v.0
    where
      by : (e : Expression) (from : Lvalue) → e ≡ read from → lvalue_type from ≡ structure k → IsExpression (table c os) (Some c.function) e → IsAt n (struct_stored l e)
      by e from is_read typed = subst (λ e. IsExpression (table c os) (Some c.function) e → IsAt n (struct_stored l e)) (sym is_read)
          (λ f. (h, f.0, ap is_struct is, is ∙ sym typed, subst (λ u. 1 ≤ size_of c.structs u) (sym is) big))

  pub store_good : (n : ℕ) (l : Lvalue) (t : CType) (e : Expression) → IsLvalue (table c os) (Some c.function) l → agrees (lvalue_type l) t ≡ true → IsStored c.structs t
      → IsValue c os t e → IsAt n (stored l t e)
  store_good n l (integer k) e h a st v = (h, v.0, both_integers (lvalue_type l) (expression_type e) (agrees_integer (lvalue_type l) k a) v.1)
  store_good n l (pointer t) e h a st v = (h, v.0, both_pointers (lvalue_type l) (expression_type e) (agrees_pointer (lvalue_type l) t a) v.1)
  store_good n l (structure k) e h a st v = struct_store n l k e h (agrees_struct (lvalue_type l) k a) st v
  store_good n l void e h a st v = absurd st
  store_good n l (floating k) e h a st v = absurd st
  store_good n l (array t m) e h a st v = absurd st
  store_good n l (function s) e h a st v = absurd st

  -- ---- temporaries

  pub direct_of : (n : ℕ) (t : CType) → Stands os c.function n t → is_floating t ≡ false → IsDirect (table c os) (Some c.function) n t
  direct_of n t h f = record { object = h.object; there = h.there; of = h.of; no_site = h.no_site; own = h.own; no_floating = f }

  -- it is an object of just this type
  abbrev pub IsKept : CType → Lvalue → Type 0
  IsKept t l = IsLvalue (table c os) (Some c.function) l × (lvalue_type l ≡ t)

  pub temporary_good : (t : CType) (s : Draft) → IsFormed c.structs t → is_floating t ≡ false → Gives c os rs (IsKept t) s (temporary c t s)
  temporary_good t s f r = record {
    grown = made t same f;
    pure = λ h. (direct_of (c.first_temporary + length s.temporaries) t (h.temporaries (length s.temporaries) t (pushed_last s.temporaries t)) r, refl);
  }

  pub kept_read : (t : CType) (l : Lvalue) → IsKept t l → IsStored c.structs t → IsValue c os t (read l)
  kept_read t l h st = by t h.1 st
    where
      by : (t : CType) → lvalue_type l ≡ t → IsStored c.structs t → IsValue c os t (read l)
      by (integer k) e st = ((h.0, ap (λ u. is_scalar u || is_struct u) e, subst (λ u. 1 ≤ size_of c.structs u) (sym e) (integer_sized c.structs (integer k) refl)), ap is_integer e)
      by (pointer t) e st = ((h.0, ap (λ u. is_scalar u || is_struct u) e, subst (λ u. 1 ≤ size_of c.structs u) (sym e) (pointer_sized c.structs (pointer t) refl)), ap is_pointer e)
      by (structure k) e st = ((h.0, ap (λ u. is_scalar u || is_struct u) e, subst (λ u. 1 ≤ size_of c.structs u) (sym e) st), λ big. (l, refl, e))
      by void e st = absurd st
      by (floating k) e st = absurd st
      by (array t n) e st = absurd st
      by (function s) e st = absurd st

  -- the value goes to a new temporary
  pub save_good : (t : CType) (e : Expression) (at : Place) (s : Draft) → IsFormed c.structs t → IsStored c.structs t → (Holds c os s → IsValue c os t e)
      → Gives c os rs (IsKept t) s (save c t e at s)
  save_good t e at s f st v =
      let r : is_floating t ≡ false = stored_floating c t st in
      let m : Gives c os rs (IsKept t) s (temporary c t s) = temporary_good t s f r in
      let g : Grown c os rs (temporary c t s).after (save c t e at s).after =
      node (stored (temporary c t s).pure t e) at same (store_plain (temporary c t s).pure t e)
      (λ h. store_good (length s.nodes) (temporary c t s).pure t e (m.pure h).0 (agrees_self t r) st (v (back m.grown h))) in
      record { grown = onward m.grown g; pure = λ h. m.pure (back g h) }

  pub keep_good : (later : Bool) (e : Typed) (v : Expression) (s : Draft) → IsFormed c.structs (of e) → IsStored c.structs (of e) → (Holds c os s → IsValue c os (of e) v)
      → Gives c os rs (IsValue c os (of e)) s (keep c later e v s)
  keep_good later e v s f st h = by (later && holds_read v)
    where
      by : (b : Bool) → Gives c os rs (IsValue c os (of e)) s (if b then left (read (save c (of e) v (place_of e) s).pure) (save c (of e) v (place_of e) s).after else left v s)
      by true =
          let g : Gives c os rs (IsKept (of e)) s (save c (of e) v (place_of e) s) = save_good (of e) v (place_of e) s f st h in
          record { grown = g.grown; pure = λ k. kept_read (of e) (save c (of e) v (place_of e) s).pure (g.pure k) st }
      by false = record { grown = same; pure = h }

  -- an lvalue with a layout
  abbrev pub IsWhole : CType → Lvalue → Type 0
  IsWhole t l = IsLvalue (table c os) (Some c.function) l × (agrees (lvalue_type l) t ≡ true)

  pub keep_place_good : (later : Bool) (e : Typed) (l : Lvalue) (s : Draft) → IsFormed c.structs (of e) → IsStored c.structs (of e) → (Holds c os s → IsWhole (of e) l)
      → Gives c os rs (IsWhole (of e)) s (keep_place c later e l s)
  keep_place_good later e l s f st h = by (later && lvalue_holds_read l)
    where
      saved : Left Lvalue
      saved = save c (pointer (of e)) (address l) (place_of e) s

      by : (b : Bool) → Gives c os rs (IsWhole (of e)) s (if b then left (through (read saved.pure) (of e) (place_of e)) saved.after else left l s)
      by true =
          let g : Gives c os rs (IsKept (pointer (of e))) s saved = save_good (pointer (of e)) (address l) (place_of e) s f tt (λ k. ((h k).0, refl)) in
          record {
            grown = g.grown;
            pure = λ k.
                let v : IsValue c os (pointer (of e)) (read saved.pure) = kept_read (pointer (of e)) saved.pure (g.pure k) tt in
                ((v.0, v.1, stored_sized c (of e) (of e) (agrees_self (of e) (stored_floating c (of e) st)) st, stored_floating c (of e) st, f), agrees_self (of e) (stored_floating c (of e) st));
          }
      by false = record { grown = same; pure = h }
