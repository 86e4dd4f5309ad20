-- Operators between formed values give formed values (C90 6.3.3 to 6.3.16).
use Rattle.std.proofs.Common.{◌≡◌, Bool, true, false, List, Some, None, if◌then◌else◌, refl, arith}
use Rattle.sp_tree.specs.declared.fault.Place.{Place}
use Rattle.sp_tree.specs.declared.token.Punct.{Punct}
use Rattle.sp_tree.specs.declared.token.Punct.TheVariants.{Plus, Minus, Less, LessEqual, Greater, GreaterEqual, EqualEqual, NotEqual, AndAnd, OrOr, StarAssign, SlashAssign, PercentAssign, PlusAssign, ShiftLeftAssign, ShiftRightAssign, AmpersandAssign, CaretAssign, BarAssign, Increment}
use Rattle.sp_types.specs.declared.ctype.IntKind.{IntKind}
use Rattle.sp_types.specs.Types.{CType, void, integer, floating, pointer, array, structure, function}
use Rattle.sp_types.specs.Typed.{Typed, of, mark_of}
use Rattle.sp_ir.specs.Commands.{Expression, convert, binary, compare, move, distance, expression_type}
use Rattle.sp_ir.specs.Programs.{Object}
use Rattle.sp_ir.specs.Formed.{IsExpression, is_integer, is_pointer, is_scalar, is_relation, is_operator}
use Rattle.sp_ir.specs.Terrain.{size_of}
use Rattle.sp_lower_draft.specs.declared.operators.Circuit.{Circuit}
use Rattle.sp_lower_draft.specs.Context.{Context, kind_of, pointee_size}
use Rattle.sp_lower_draft.specs.Operators.{circuit_of, operator_of, same_kind}
use Rattle.sp_lower_draft.specs.Steps.{operated, negated, as_kind, computing_kind, operand_kind, combined, element_at}
use Rattle.sp_check_typing.specs.Sorts.{IsStepped}
use Rattle.sp_check_typing.specs.Trees.{IsIndex, IsSum, IsDifference, AreCompared, AreIntegers, IsBinary}
use Rattle.sp_lower_expr_laws.specs.Stands.{table}
use Rattle.sp_lower_expr_laws.specs.Uses.{Yields, IsValue}
use Rattle.sp_lower_expr_laws.proofs.Sorts.{false_true, pointer_scalar, integer_scalar}
use Rattle.sp_lower_expr_laws.proofs.Loads.{IsPointer}

-- ---- sorts of values

pub yields_integer : (c : Context) (t : CType) (e : Expression) → is_integer t ≡ true → is_integer (expression_type e) ≡ true → Yields c t e
yields_integer c (integer k) e h y = y
yields_integer c void e h y = tt
yields_integer c (floating k) e h y = false_true h
yields_integer c (pointer t) e h y = false_true h
yields_integer c (array t n) e h y = false_true h
yields_integer c (structure k) e h y = false_true h
yields_integer c (function s) e h y = false_true h

pub yields_pointer : (c : Context) (t : CType) (e : Expression) → is_pointer t ≡ true → is_pointer (expression_type e) ≡ true → Yields c t e
yields_pointer c (pointer t) e h y = y
yields_pointer c void e h y = tt
yields_pointer c (integer k) e h y = false_true h
yields_pointer c (floating k) e h y = false_true h
yields_pointer c (array t n) e h y = false_true h
yields_pointer c (structure k) e h y = false_true h
yields_pointer c (function s) e h y = false_true h

pub integer_value : (c : Context) (t : CType) (e : Expression) → is_integer t ≡ true → Yields c t e → is_integer (expression_type e) ≡ true
integer_value c (integer k) e h y = y
integer_value c void e h y = false_true h
integer_value c (floating k) e h y = false_true h
integer_value c (pointer t) e h y = false_true h
integer_value c (array t n) e h y = false_true h
integer_value c (structure k) e h y = false_true h
integer_value c (function s) e h y = false_true h

pub pointer_value : (c : Context) (t : CType) (e : Expression) → is_pointer t ≡ true → Yields c t e → is_pointer (expression_type e) ≡ true
pointer_value c (pointer t) e h y = y
pointer_value c void e h y = false_true h
pointer_value c (integer k) e h y = false_true h
pointer_value c (floating k) e h y = false_true h
pointer_value c (array t n) e h y = false_true h
pointer_value c (structure k) e h y = false_true h
pointer_value c (function s) e h y = false_true h

pub scalar_value : (c : Context) (t : CType) (e : Expression) → is_scalar t ≡ true → Yields c t e → is_scalar (expression_type e) ≡ true
scalar_value c (integer k) e h y = integer_scalar (expression_type e) y
scalar_value c (pointer t) e h y = pointer_scalar (expression_type e) y
scalar_value c void e h y = false_true h
scalar_value c (floating k) e h y = false_true h
scalar_value c (array t n) e h y = false_true h
scalar_value c (structure k) e h y = false_true h
scalar_value c (function s) e h y = false_true h

-- each operator of an assignment is one between values
operator_is : (p : Punct) → is_operator (operator_of p) ≡ true
operator_is StarAssign = refl
operator_is SlashAssign = refl
operator_is PercentAssign = refl
operator_is PlusAssign = refl
operator_is ShiftLeftAssign = refl
operator_is ShiftRightAssign = refl
operator_is AmpersandAssign = refl
operator_is CaretAssign = refl
operator_is BarAssign = refl
operator_is Increment = refl
operator_is p = refl

module _ (c : Context) (os : List Object) where
  abbrev IsHere : Expression → Type 0
  IsHere e = IsExpression (table c os) (Some c.function) e

  -- ---- sums and differences

  sum_good : (a b t : CType) (x y : Expression) (mark : Place) → IsSum c.structs a b t → IsValue c os a x → IsValue c os b y
      → IsValue c os t (if is_pointer a then move x y false (pointee_size c a) else if is_pointer b then move y x false (pointee_size c b) else binary Plus (kind_of t) x y mark)
  sum_good (integer j) (integer k) t x y mark h v w = ((v.0, w.0, v.1, w.1, refl), yields_integer c t (binary Plus (kind_of t) x y mark) h refl)
  sum_good (pointer u) (integer k) t x y mark h v w = ((v.0, w.0, v.1, w.1, h.0.0, h.0.1), yields_pointer c t (move x y false (size_of c.structs u)) h.1 v.1)
  sum_good (integer k) (pointer u) t x y mark h v w = ((w.0, v.0, w.1, v.1, h.0.0, h.0.1), yields_pointer c t (move y x false (size_of c.structs u)) h.1 w.1)
  sum_good a b t x y mark h v w = absurd h

  difference_good : (a b t : CType) (x y : Expression) (mark : Place) → IsDifference c.structs a b t → IsValue c os a x → IsValue c os b y
      → IsValue c os t (if is_pointer a then (if is_pointer b then distance x y (pointee_size c a) else move x y true (pointee_size c a)) else binary Minus (kind_of t) x y mark)
  difference_good (integer j) (integer k) t x y mark h v w = ((v.0, w.0, v.1, w.1, refl), yields_integer c t (binary Minus (kind_of t) x y mark) h refl)
  difference_good (pointer u) (integer k) t x y mark h v w = ((v.0, w.0, v.1, w.1, h.0.0, h.0.1), yields_pointer c t (move x y true (size_of c.structs u)) h.1 v.1)
  difference_good (pointer u) (pointer z) t x y mark h v w = ((v.0, w.0, v.1, w.1, h.0.0, h.0.1), yields_integer c t (distance x y (size_of c.structs u)) h.1 refl)
  difference_good a b t x y mark h v w = absurd h

  compared_good : (p : Punct) (a b t : CType) (x y : Expression) → is_relation p ≡ true → AreCompared a b t → IsValue c os a x → IsValue c os b y → IsValue c os t (compare p x y)
  compared_good p a b t x y r h v w = ((v.0, w.0, scalar_value c a x h.0 v.1, scalar_value c b y h.1 w.1, r), yields_integer c t (compare p x y) h.2 refl)

  integers_good : (p : Punct) (a b t : CType) (x y : Expression) (mark : Place) → (is_operator p ≡ true) × AreIntegers a b t → IsValue c os a x → IsValue c os b y
      → IsValue c os t (binary p (kind_of t) x y mark)
  integers_good p a b t x y mark h v w =
      ((v.0, w.0, integer_value c a x h.1.0 v.1, integer_value c b y h.1.1 w.1, h.0), yields_integer c t (binary p (kind_of t) x y mark) h.1.2 refl)

  pub operated_good : (p : Punct) (e a b : Typed) (x y : Expression) → IsBinary c.structs p (of a) (of b) (of e) → circuit_of p ≡ None → IsValue c os (of a) x → IsValue c os (of b) y
      → IsValue c os (of e) (operated c p e a b x y)
  operated_good Plus e a b x y h n v w = sum_good (of a) (of b) (of e) x y (mark_of e) h v w
  operated_good Minus e a b x y h n v w = difference_good (of a) (of b) (of e) x y (mark_of e) h v w
  operated_good Less e a b x y h n v w = compared_good Less (of a) (of b) (of e) x y refl h v w
  operated_good LessEqual e a b x y h n v w = compared_good LessEqual (of a) (of b) (of e) x y refl h v w
  operated_good Greater e a b x y h n v w = compared_good Greater (of a) (of b) (of e) x y refl h v w
  operated_good GreaterEqual e a b x y h n v w = compared_good GreaterEqual (of a) (of b) (of e) x y refl h v w
  operated_good EqualEqual e a b x y h n v w = compared_good EqualEqual (of a) (of b) (of e) x y refl h v w
  operated_good NotEqual e a b x y h n v w = compared_good NotEqual (of a) (of b) (of e) x y refl h v w
  operated_good AndAnd e a b x y h n v w = absurd (some_none n)
    where
      some_none : {k : Circuit} → Some k ≡ None → ⊥
      some_none e = cc
  operated_good OrOr e a b x y h n v w = absurd (some_none n)
    where
      some_none : {k : Circuit} → Some k ≡ None → ⊥
      some_none e = cc
  operated_good p e a b x y h n v w = integers_good p (of a) (of b) (of e) x y (mark_of e) h v w

  pub negated_good : (t u : CType) (v : Expression) → is_scalar u ≡ true → is_integer t ≡ true → IsValue c os u v → IsValue c os t (negated v)
  negated_good t u v s i h = ((h.0, (omega arith, omega arith), scalar_value c u v s h.1, refl, refl), yields_integer c t (negated v) i refl)

  -- ---- assignments with an operator

  -- a formed integer
  abbrev pub IsInteger : Expression → Type 0
  IsInteger e = IsHere e × (is_integer (expression_type e) ≡ true)

  as_kind_good : (j k : IntKind) (v : Expression) → IsInteger v → IsInteger (as_kind j k v)
  as_kind_good j k v h = by (same_kind j k)
    where
      by : (b : Bool) → IsInteger (if b then v else convert (integer k) v)
      by true = h
      by false = ((h.0, integer_scalar (expression_type v) h.1, refl, tt), refl)

  pub combined_good : (t : CType) (p : Punct) (old : Expression) (j : IntKind) (v : Expression) (mark : Place) → IsStepped c.structs t → IsValue c os t old → IsInteger v
      → IsValue c os t (combined c t (operator_of p) old j v mark)
  combined_good (integer k) p old j v mark h o w =
      let op : Punct = operator_of p in
      let l : IsInteger (as_kind k (computing_kind op k j) old) = as_kind_good k (computing_kind op k j) old o in
      let r : IsInteger (as_kind j (operand_kind op k j) v) = as_kind_good j (operand_kind op k j) v w in
      as_kind_good (computing_kind op k j) k (binary op (computing_kind op k j) (as_kind k (computing_kind op k j) old) (as_kind j (operand_kind op k j) v) mark)
      ((l.0, r.0, l.1, r.1, operator_is p), refl)
  combined_good (pointer u) p old j v mark h o w = ((o.0, w.0, o.1, w.1, h.0, h.1), o.1)
  combined_good void p old j v mark h o w = absurd h
  combined_good (floating k) p old j v mark h o w = absurd h
  combined_good (array u n) p old j v mark h o w = absurd h
  combined_good (structure k) p old j v mark h o w = absurd h
  combined_good (function s) p old j v mark h o w = absurd h

  -- ---- elements

  pub element_good : (a b : CType) (x y : Expression) → IsIndex c.structs a b → IsValue c os a x → IsValue c os b y → IsPointer c os (element_at c a b x y)
  element_good (pointer u) (integer k) x y h v w = ((v.0, w.0, v.1, w.1, h.0, h.1), v.1)
  element_good (integer k) (pointer u) x y h v w = ((w.0, v.0, w.1, v.1, h.0, h.1), w.1)
  element_good a b x y h v w = absurd h
