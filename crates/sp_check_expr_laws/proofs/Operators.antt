-- What operators take, and to which types they convert their operands (C90 6.3.5 to 6.3.16).
use Rattle.std.proofs.Common.{◌≡◌, ◌==◌, ◌&&◌, if◌then◌else◌, Bool, true, false, List, Option, Some, None, refl, subst, true≢false}
use Rattle.sp_tree.specs.declared.token.Punct.{Punct}
use Rattle.sp_tree.specs.declared.token.Punct.TheVariants.{Star, Slash, Percent, Plus, Minus, ShiftLeft, ShiftRight, Less, Greater, LessEqual, GreaterEqual, EqualEqual, NotEqual, Ampersand, Caret, Bar, AndAnd, OrOr, PlusAssign, MinusAssign, ShiftLeftAssign, ShiftRightAssign}
use Rattle.sp_parse_trees.specs.Words.{binary_level}
use Rattle.sp_types.specs.declared.ctype.IntKind.{IntKind}
use Rattle.sp_types.specs.declared.ctype.IntKind.TheVariants.{Int}
use Rattle.sp_types.specs.Types.{CType, void, integer, pointer, Struct}
use Rattle.sp_types.specs.Structs.{IsFormed}
use Rattle.sp_types.specs.Arithmetic.{promoted_kind, common_kind}
use Rattle.sp_types.specs.Compatible.{convertible, compatible}
use Rattle.sp_check_operands.specs.Conversions.{is_complete, is_object, is_function}
use Rattle.sp_check_operands.specs.Operands.{Balance, int, integers, sum, difference, shift, relation, equality, logical, binary_balance, can_move, are_moved_whole, compound_type}
use Rattle.sp_ir.specs.Formed.{is_integer, is_scalar, is_operator}
use Rattle.sp_check_typing.specs.Sorts.{IsSized, IsStepped}
use Rattle.sp_check_typing.specs.Trees.{IsSum, IsDifference, AreCompared, AreIntegers, IsBinary}
use Rattle.sp_check_formed_laws.proofs.Lists.{some_is, none_some}
use Rattle.sp_check_expr_laws.specs.Sound.{IsSound}
use Rattle.sp_check_expr_laws.proofs.Types.{and_true, IsSoundTable, complete_sized}

-- ---- types of operands

-- formed, and sound
abbrev pub IsGood : List Struct → CType → Type 0
IsGood ss t = IsFormed ss t × IsSound t

-- the operands convert to the sides of the balance, which are as the operator takes them
pub record IsBalanced (ss : List Struct) (P : CType → CType → CType → Type 0) (a b : CType)
    (x : Balance) : Type 0 where
  pub left : convertible a x.left ≡ true
  pub right : convertible b x.right ≡ true
  pub left_good : IsGood ss x.left
  pub right_good : IsGood ss x.right
  pub good : IsGood ss x.result
  pub plain : is_function x.result ≡ false
  pub taken : P x.left x.right x.result

module _ (ss : List Struct) (table : IsSoundTable ss) where
  -- of the balance that there is
  abbrev Balances : (CType → CType → CType → Type 0) → CType → CType → Option Balance → Type 0
  Balances P a b o = (x : Balance) → o ≡ Some x → IsBalanced ss P a b x

  balances : {P : CType → CType → CType → Type 0} {a b : CType} {x : Balance}
      → IsBalanced ss P a b x → Balances P a b (Some x)
  balances {P = P} {a = a} {b = b} {x = x} h y e =
      subst (λ y. IsBalanced ss P a b y) (some_is x y e) h

  no_balance : {P : CType → CType → CType → Type 0} {a b : CType} → Balances P a b None
  no_balance y e = absurd (none_some y e)

  balances_if : {P : CType → CType → CType → Type 0} {a b : CType} (c : Bool) {x : Balance}
      → IsBalanced ss P a b x → Balances P a b (if c then Some x else None)
  balances_if true h = balances h
  balances_if false h = no_balance

  numbers : (j k l r t : IntKind) (P : CType → CType → CType → Type 0)
      → P (integer l) (integer r) (integer t)
      → IsBalanced ss P (integer j) (integer k)
      (record { left = integer l; right = integer r; result = integer t })
  numbers j k l r t P h =
      record {
        left = refl;
        right = refl;
        left_good = (tt, tt);
        right_good = (tt, tt);
        good = (tt, tt);
        plain = refl;
        taken = h;
      }

  integers_balanced : (a b : CType) → Balances AreIntegers a b (integers a b)
  integers_balanced (integer j) (integer k) =
      balances (numbers j k (common_kind j k) (common_kind j k) (common_kind j k) AreIntegers
      (refl, refl, refl))
  integers_balanced a b = no_balance

  shift_balanced : (a b : CType) → Balances AreIntegers a b (shift a b)
  shift_balanced (integer j) (integer k) =
      balances (numbers j k (promoted_kind j) (promoted_kind k) (promoted_kind j) AreIntegers
      (refl, refl, refl))
  shift_balanced a b = no_balance

  relation_balanced : (a b : CType) → IsGood ss a → IsGood ss b
      → Balances AreCompared a b (relation a b)
  relation_balanced (integer j) (integer k) g h =
      balances (numbers j k (common_kind j k) (common_kind j k) Int AreCompared (refl, refl, refl))
  relation_balanced (pointer t) (pointer u) g h =
      balances (record {
        left = refl;
        right = refl;
        left_good = g;
        right_good = h;
        good = (tt, tt);
        plain = refl;
        taken = (refl, refl, refl);
      })
  relation_balanced a b g h = no_balance

  pointers : (a b l r : CType) → convertible a l ≡ true → convertible b r ≡ true → IsGood ss l
      → IsGood ss r → (is_scalar l ≡ true) × (is_scalar r ≡ true)
      → IsBalanced ss AreCompared a b (record { left = l; right = r; result = int })
  pointers a b l r c d g h s =
      record {
        left = c;
        right = d;
        left_good = g;
        right_good = h;
        good = (tt, tt);
        plain = refl;
        taken = (s.0, s.1, refl);
      }

  equality_balanced : (a b : CType) → IsGood ss a → IsGood ss b
      → Balances AreCompared a b (equality a b)
  equality_balanced (pointer void) (pointer u) g h =
      balances (pointers (pointer void) (pointer u) (pointer void) (pointer void) refl refl (tt, tt)
      (tt, tt) (refl, refl))
  equality_balanced (pointer t) (pointer void) g h =
      balances (pointers (pointer t) (pointer void) (pointer void) (pointer void) refl refl (tt, tt)
      (tt, tt) (refl, refl))
  equality_balanced (pointer t) (pointer u) g h =
      balances (pointers (pointer t) (pointer u) (pointer t) (pointer u) refl refl g h (refl, refl))
  equality_balanced (pointer t) (integer k) g h =
      balances (pointers (pointer t) (integer k) (pointer t) (pointer t) refl refl g g (refl, refl))
  equality_balanced (integer k) (pointer t) g h =
      balances (pointers (integer k) (pointer t) (pointer t) (pointer t) refl refl h h (refl, refl))
  equality_balanced (integer j) (integer k) g h =
      balances (numbers j k (common_kind j k) (common_kind j k) Int AreCompared (refl, refl, refl))
  equality_balanced a b g h = no_balance

  logical_balanced : (a b : CType) → IsGood ss a → IsGood ss b
      → Balances AreCompared a b (logical a b)
  logical_balanced (integer j) (integer k) g h =
      balances (pointers (integer j) (integer k) (integer j) (integer k) refl refl g h (refl, refl))
  logical_balanced (integer j) (pointer u) g h =
      balances (pointers (integer j) (pointer u) (integer j) (pointer u) refl refl g h (refl, refl))
  logical_balanced (pointer t) (integer k) g h =
      balances (pointers (pointer t) (integer k) (pointer t) (integer k) refl refl g h (refl, refl))
  logical_balanced (pointer t) (pointer u) g h =
      balances (pointers (pointer t) (pointer u) (pointer t) (pointer u) refl refl g h (refl, refl))
  logical_balanced a b g h = no_balance

  moved : (u : CType) (c : Bool) → IsGood ss (pointer u) → (is_complete ss u && c) ≡ true
      → IsSized ss u
  moved u c g w = complete_sized ss table u g.0 (and_true (is_complete ss u) c w).0

  sum_balanced : (a b : CType) → IsGood ss a → IsGood ss b → (can_move ss a && can_move ss b) ≡ true
      → Balances (IsSum ss) a b (sum a b)
  sum_balanced (integer j) (integer k) g h w =
      balances (numbers j k (common_kind j k) (common_kind j k) (common_kind j k) (IsSum ss) refl)
  sum_balanced (pointer u) (integer k) g h w =
      balances_if (is_object u)
      (record {
        left = refl;
        right = refl;
        left_good = g;
        right_good = h;
        good = g;
        plain = refl;
        taken = (moved u true g w, refl);
      })
  sum_balanced (integer k) (pointer u) g h w =
      balances_if (is_object u)
      (record {
        left = refl;
        right = refl;
        left_good = g;
        right_good = h;
        good = h;
        plain = refl;
        taken = (complete_sized ss table u h.0 w, refl);
      })
  sum_balanced a b g h w = no_balance

  difference_balanced : (a b : CType) → IsGood ss a → IsGood ss b
      → (can_move ss a && can_move ss b) ≡ true → Balances (IsDifference ss) a b (difference a b)
  difference_balanced (integer j) (integer k) g h w =
      balances (numbers j k (common_kind j k) (common_kind j k) (common_kind j k)
      (IsDifference ss) refl)
  difference_balanced (pointer u) (integer k) g h w =
      balances_if (is_object u)
      (record {
        left = refl;
        right = refl;
        left_good = g;
        right_good = h;
        good = g;
        plain = refl;
        taken = (moved u true g w, refl);
      })
  difference_balanced (pointer t) (pointer u) g h w =
      balances_if (is_object t && compatible t u)
      (record {
        left = refl;
        right = refl;
        left_good = g;
        right_good = h;
        good = (tt, tt);
        plain = refl;
        taken = (moved t (is_complete ss u) g w, refl);
      })
  difference_balanced a b g h w = no_balance

  with_operator : (op : Punct) (a b : CType) (o : Option Balance) → is_operator op ≡ true
      → Balances AreIntegers a b o
      → Balances (λ l r t. (is_operator op ≡ true) × AreIntegers l r t) a b o
  with_operator op a b o is h x e =
      let w : IsBalanced ss AreIntegers a b x = h x e in
      record {
        left = w.left;
        right = w.right;
        left_good = w.left_good;
        right_good = w.right_good;
        good = w.good;
        plain = w.plain;
        taken = (is, w.taken);
      }

  pub binary_balanced : (op : Punct) (a b : CType) → (binary_level op == 0) ≡ false → IsGood ss a
      → IsGood ss b → are_moved_whole ss op a b ≡ true
      → Balances (IsBinary ss op) a b (binary_balance op a b)
  binary_balanced Plus a b l g h w = sum_balanced a b g h w
  binary_balanced Minus a b l g h w = difference_balanced a b g h w
  binary_balanced Less a b l g h w = relation_balanced a b g h
  binary_balanced Greater a b l g h w = relation_balanced a b g h
  binary_balanced LessEqual a b l g h w = relation_balanced a b g h
  binary_balanced GreaterEqual a b l g h w = relation_balanced a b g h
  binary_balanced EqualEqual a b l g h w = equality_balanced a b g h
  binary_balanced NotEqual a b l g h w = equality_balanced a b g h
  binary_balanced AndAnd a b l g h w = logical_balanced a b g h
  binary_balanced OrOr a b l g h w = logical_balanced a b g h
  binary_balanced ShiftLeft a b l g h w =
      with_operator ShiftLeft a b (shift a b) refl (shift_balanced a b)
  binary_balanced ShiftRight a b l g h w =
      with_operator ShiftRight a b (shift a b) refl (shift_balanced a b)
  binary_balanced Star a b l g h w =
      with_operator Star a b (integers a b) refl (integers_balanced a b)
  binary_balanced Slash a b l g h w =
      with_operator Slash a b (integers a b) refl (integers_balanced a b)
  binary_balanced Percent a b l g h w =
      with_operator Percent a b (integers a b) refl (integers_balanced a b)
  binary_balanced Ampersand a b l g h w =
      with_operator Ampersand a b (integers a b) refl (integers_balanced a b)
  binary_balanced Caret a b l g h w =
      with_operator Caret a b (integers a b) refl (integers_balanced a b)
  binary_balanced Bar a b l g h w =
      with_operator Bar a b (integers a b) refl (integers_balanced a b)
  binary_balanced op a b l g h w = absurd (true≢false l)

  -- ---- assignments with an operator (C90 6.3.16.2)

  -- the right side converts to an integer, and the left one can be moved
  pub record IsCompound (a b t : CType) : Type 0 where
    pub number : is_integer t ≡ true
    pub converts : convertible b t ≡ true
    pub good : IsGood ss t
    pub stepped : IsStepped ss a

  number_compound : (j k l : IntKind) (t : CType) → Some (integer l) ≡ Some t
      → IsCompound (integer j) (integer k) t
  number_compound j k l t e =
      subst (λ t. IsCompound (integer j) (integer k) t) (some_is (integer l) t e)
      (record { number = refl; converts = refl; good = (tt, tt); stepped = tt })

  pointer_compound : (u : CType) (k : IntKind) (c : Bool) (t : CType) → IsSized ss u
      → (if c then Some (integer k) else None) ≡ Some t → IsCompound (pointer u) (integer k) t
  pointer_compound u k true t s e =
      subst (λ t. IsCompound (pointer u) (integer k) t) (some_is (integer k) t e)
      (record { number = refl; converts = refl; good = (tt, tt); stepped = s })
  pointer_compound u k false t s e = absurd (none_some t e)

  pub compounded : (op : Punct) (a b t : CType) → IsGood ss a → are_moved_whole ss op a b ≡ true
      → compound_type op a b ≡ Some t → IsCompound a b t
  compounded ShiftLeftAssign (integer j) (integer k) t g w e =
      number_compound j k (promoted_kind k) t e
  compounded ShiftRightAssign (integer j) (integer k) t g w e =
      number_compound j k (promoted_kind k) t e
  compounded PlusAssign (pointer u) (integer k) t g w e =
      pointer_compound u k (is_object u) t (moved u true g w) e
  compounded MinusAssign (pointer u) (integer k) t g w e =
      pointer_compound u k (is_object u) t (moved u true g w) e
  compounded op (integer j) (integer k) t g w e = number_compound j k (common_kind j k) t e
  compounded op a b t g w e = absurd (none_some t e)
