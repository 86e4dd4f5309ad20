-- One lemma for each rule of expressions: of typed parts it makes a typed tree (C90 6.3).
use Rattle.std.proofs.Common.{◌≡◌, ◌⊎◌, inl, inr, ℕ, ◌≤◌, ◌==◌, ◌||◌, not, if◌then◌else◌, Bool, true, false, List, [], ◌∷◌, Option, Some, None, refl, ap, sym, subst, ◌∙◌, true≢false, eqb-true}
use Rattle.std.specs.Prelude.{slice_get, All}
use Rattle.sp_tree.specs.declared.fault.Place.{Place}
use Rattle.sp_tree.specs.declared.fault.FaultKind.TheVariants.{BadOperand}
use Rattle.sp_tree.specs.declared.token.Punct.{Punct}
use Rattle.sp_tree.specs.declared.token.Punct.TheVariants as marks
use Rattle.sp_parse_trees.specs.Words.{binary_level, is_step, is_unary}
use Rattle.sp_types.specs.declared.ctype.IntKind.TheVariants.{Int}
use Rattle.sp_types.specs.Types.{CType, void, integer, floating, pointer, array, structure, function, Signature, signature, Parameters, untold, listed, CTypes, no_types, next_type, Struct, parameters_of}
use Rattle.sp_types.specs.Typed.{Typed, typed, TypedList, no_typed, next_typed, of, place_of, mark_of}
use Rattle.sp_types.specs.Typed as tree
use Rattle.sp_types.specs.Layout.{struct_extent}
use Rattle.sp_types.specs.Structs.{IsFormed, IsFormedSignature, AreFormedParameters, AreFormed, IsAbove, IsWhole, held}
use Rattle.sp_types.specs.Arithmetic.{common_kind}
use Rattle.sp_types.specs.Compatible.{convertible}
use Rattle.sp_base_checked.specs.Answers.{accepted, and_then, where_given}
use Rattle.sp_check_operands.specs.Conversions.{is_array, is_function, is_lvalue, is_complete, is_void, converted, promoted_type, promoted}
use Rattle.sp_check_operands.specs.Conversions.{is_floating as is_floating_type, is_scalar as is_scalar_type}
use Rattle.sp_check_operands.specs.Operands.{Balance, binary_balance, can_move, are_moved_whole, pointers_type, choice_type, compound_type}
use Rattle.sp_check_constants.specs.Constants.{is_null_constant}
use Rattle.sp_check_binary_rules.specs.Rules.{indexed, member_type, members_of, member_in, member_taken, arrow_taken, cast_to, binary, choice, is_modifiable, compound, stored, assign, called_signature, told, wanted, behind, argument, typed_count, count_fits, called, addressed, followed, signed_or_inverted, denied, stepped_type, stepped_after, takes_object, unary_object, unary_value}
use Rattle.sp_ir.specs.Formed.{is_integer, is_pointer, is_scalar, is_floating}
use Rattle.sp_ir.specs.Terrain.{size_in, size_of}
use Rattle.sp_check_typing.specs.Sorts.{same_value, IsStored, IsStepped, IsKnown}
use Rattle.sp_check_typing.specs.Trees.{Scene, IsTyped, AreArguments, Converts, IsCalled, IsChoice, IsAssigned, IsIndex, IsStep, IsBinary, HasMember, HasMemberIn, IsUnary, IsSigned, has_place}
use Rattle.sp_check_formed_laws.proofs.Lists.{some_is, none_some, head_all, tail_all}
use Rattle.sp_check_formed_laws.proofs.After.{Gives, gives, gives_none, gives_then, gives_met, gives_given}
use Rattle.sp_check_expr_laws.specs.Sound.{IsSound, IsSoundSignature, AreSoundParameters, AreSound, AreSoundIn, AreSoundMembers, HasExtent}
use Rattle.sp_check_expr_laws.proofs.Types.{and_true, number_equals, agrees_self, convertible_plain, IsSoundTable, complete_sized, cast_known}
use Rattle.sp_check_expr_laws.proofs.Trees.{IsMade, IsTree, IsValued, tree_formed, lvalue_placed, IsOf, tree_converted}
use Rattle.sp_check_expr_laws.proofs.Operators.{IsGood, IsBalanced, binary_balanced, IsCompound, compounded}

module _ (s : Scene) (table : IsSoundTable s.structs) where
  -- ---- elements and members (C90 6.3.2.1, 6.3.2.3)

  not_placed : (t : CType) (e : Typed) → is_function t ≡ false → is_function t ≡ true
      → has_place e ≡ true
  not_placed t e h g = absurd (true≢false (sym g ∙ h))

  pub index_typed : (p m : Place) (a b : Typed) → IsValued s a → IsValued s b
      → Gives (IsMade s) (indexed s.structs p m a b)
  index_typed p m (typed f t q n) (typed g u r o) h k = by t u h.tree k.tree
    where
      made : (t u v : CType) → IsTree s (typed f t q n) → IsTree s (typed g u r o)
          → IsFormed s.structs v → IsSound v → is_complete s.structs v ≡ true
          → IsIndex s.structs t u
          → IsMade s (typed (tree.index (typed f t q n) (typed g u r o)) v p m)
      made t u v h k formed sound whole index = record {
        formed = formed;
        sound = sound;
        typed = λ solid. (
          solid,
          formed,
          (h.typed, k.typed, index, (complete_sized s.structs table v formed whole).0),
        );
        placed = λ e. refl;
      }

      by : (t u : CType) → IsTree s (typed f t q n) → IsTree s (typed g u r o)
          → Gives (IsMade s) (indexed s.structs p m (typed f t q n) (typed g u r o))
      by (pointer t) (integer k) h i =
          gives_met _ _ (λ whole. gives
          (made (pointer t) (integer k) t h i h.typed.1 h.sound whole
          (complete_sized s.structs table t h.typed.1 whole)))
      by (integer k) (pointer t) h i =
          gives_met _ _ (λ whole. gives
          (made (integer k) (pointer t) t h i i.typed.1 i.sound whole
          (complete_sized s.structs table t i.typed.1 whole)))
      by t u h i = gives_none

  -- a member of a struct
  abbrev IsMember : ℕ → ℕ → CType → Type 0
  IsMember k n t = IsFormed s.structs t × IsSound t ×
      (is_floating t ≡ false → HasMember s.structs (structure k) n t)

  abbrev IsAmong : List (ℕ × CType) → ℕ → CType → Type 0
  IsAmong ms n t = IsFormed s.structs t × IsSound t × (is_floating t ≡ false → HasMemberIn ms n t)

  among : (level : ℕ) (ms : List (ℕ × CType)) (n : ℕ) (t : CType)
      → All (λ m. IsFormed s.structs m.1 × IsAbove s.structs level (held m.1)) ms → AreSoundIn ms
      → member_type ms n ≡ Some t → IsAmong ms n t
  among level [] n t f g e = absurd (none_some t e)
  among level (m ∷ ms) n t f g e =
      by (m.0 == n) refl (λ e. among level ms n t
      (tail_all (λ m. IsFormed s.structs m.1 × IsAbove s.structs level (held m.1)) m ms f) g.1
      e) e
    where
      by : (b : Bool) → (m.0 == n) ≡ b → (member_type ms n ≡ Some t → IsAmong ms n t)
          → (if b then Some m.1 else member_type ms n) ≡ Some t → IsAmong (m ∷ ms) n t
      by true same rest e = subst (IsAmong (m ∷ ms) n) (some_is m.1 t e) (
        (head_all (λ m. IsFormed s.structs m.1 × IsAbove s.structs level (held m.1)) m ms f).0,
        g.0,
        λ solid. inl (same, agrees_self m.1 solid),
      )
      by false other rest e = ((rest e).0, (rest e).1, λ solid. inr (other, (rest e).2 solid))

  member_in_struct : (k : ℕ) (x : Struct) (ms : List (ℕ × CType)) (n : ℕ) (t : CType)
      → slice_get s.structs k ≡ Some x → x.members ≡ Some ms → member_type ms n ≡ Some t
      → IsMember k n t
  member_in_struct k x ms n t at is e =
      let w : IsWhole s.structs x (Some ms) = subst (IsWhole s.structs x) is (table.table k x at) in
      let g : AreSoundIn ms = subst AreSoundMembers is (table.structs k x at).1 in
      let size : (1 ≤ w.1.0.size) × (1 ≤ w.1.0.align) =
      subst HasExtent w.1.1 (table.structs k x at).0 in
      let found : IsAmong ms n t = among x.level ms n t w.0 g e in (
        found.0,
        found.1,
        λ solid. (
          subst (λ o. 1 ≤ size_in (struct_extent o)) (sym at)
              (subst (λ o. 1 ≤ size_in o) (sym w.1.1) size.0),
          (x, ms, at, is, found.2 solid),
        ),
      )

  struct_members : (o : Option Struct) (ms : List (ℕ × CType)) → members_of o ≡ Some ms
      → (x : Struct) × (o ≡ Some x) × (x.members ≡ Some ms)
  struct_members None ms e = absurd (none_some ms e)
  struct_members (Some x) ms e = (x, refl, e)

  member_found : (k n : ℕ) (p : Place) → Gives (IsMember k n) (member_in s.structs (Some k) n p)
  member_found k n p =
      gives_given {o = members_of (slice_get s.structs k)} _ _
      (λ ms e. gives_given {o = member_type ms n} _ _ (λ t h.
      let x : (x : Struct) × (slice_get s.structs k ≡ Some x) × (x.members ≡ Some ms) =
      struct_members (slice_get s.structs k) ms e in
      gives (member_in_struct k x.0 ms n t x.1 x.2 h)))

  pub member_typed : (n : ℕ) (p m : Place) (e : Typed) → IsTree s e
      → Gives (IsMade s) (member_taken s.structs n p m e)
  member_typed n p m (typed f t q o) h = by t h
    where
      by : (t : CType) → IsTree s (typed f t q o)
          → Gives (IsMade s) (member_taken s.structs n p m (typed f t q o))
      by (structure k) h = gives_then (member_found k n p) (λ u g. gives (record {
        formed = g.0;
        sound = g.1;
        typed = λ solid. (solid, g.0, (h.typed, g.2 solid));
        placed = λ e. refl;
      }))
      by t h = gives_none

  pub arrow_typed : (n : ℕ) (p m : Place) (e : Typed) → IsTree s e
      → Gives (IsMade s) (arrow_taken s.structs n p m e)
  arrow_typed n p m (typed f t q o) h = by t h
    where
      by : (t : CType) → IsTree s (typed f t q o)
          → Gives (IsMade s) (arrow_taken s.structs n p m (typed f t q o))
      by (pointer (structure k)) h = gives_then (member_found k n p) (λ u g. gives (record {
        formed = g.0;
        sound = g.1;
        typed = λ solid. (solid, g.0, (h.typed, g.2 solid));
        placed = λ e. refl;
      }))
      by t h = gives_none

  -- ---- one operand (C90 6.3.2.4, 6.3.3)

  abbrev IsSteppedBy : Typed → CType → Type 0
  IsSteppedBy e t = (t ≡ of e) × IsStep s.structs e t × (is_function t ≡ false)

  step_found : (p at : Place) (e : Typed) → IsTree s e
      → Gives (IsSteppedBy e) (stepped_type s.structs p at e)
  step_found p at (typed f t q o) h =
      gives_met {b = is_modifiable (typed f t q o)} _ _
      (λ lvalue. gives_met {b = is_scalar_type t} _ _
      (λ scalar. gives_met {b = can_move s.structs t} _ _ (λ moves.
      gives (by t h (lvalue_placed (typed f t q o)
      (and_true (is_lvalue (typed f t q o)) (not (is_array t)) lvalue).0) scalar moves))))
    where
      by : (t : CType) → IsTree s (typed f t q o) → has_place (typed f t q o) ≡ true
          → is_scalar_type t ≡ true → can_move s.structs t ≡ true → IsSteppedBy (typed f t q o) t
      by (integer k) h placed scalar moves = (refl, (placed, refl, tt), refl)
      by (pointer t) h placed scalar moves =
          (refl, (placed, refl, complete_sized s.structs table t h.typed.1 moves), refl)
      by t h placed scalar moves = absurd (true≢false (sym scalar))

  pub after_typed : (op : Punct) (p m at : Place) (e : Typed) → IsTree s e
      → Gives (IsMade s) (stepped_after s.structs op p m at e)
  after_typed op p m at e h = gives_then (step_found p at e h) (λ t g. gives (record {
    formed = subst (IsFormed s.structs) (sym g.0) (tree_formed s e h);
    sound = subst IsSound (sym g.0) h.sound;
    typed = λ solid. (
      solid,
      subst (IsFormed s.structs) (sym g.0) (tree_formed s e h),
      (h.typed, g.1),
    );
    placed = not_placed t (typed (tree.after op e) t p m) g.2;
  }))

  or_true : (a b : Bool) → (a || b) ≡ true → (a ≡ true) ⊎ (b ≡ true)
  or_true true b h = inl refl
  or_true false b h = inr h

  address_typed : (p m at : Place) (e : Typed) → IsTree s e → Gives (IsMade s) (addressed p m at e)
  address_typed p m at e h =
      gives_met _ _ (λ placed. gives {x = typed (tree.unary marks.Ampersand e) (pointer (of e)) p m}
      (record {
        formed = tree_formed s e h;
        sound = h.sound;
        typed = λ solid. (
          refl,
          tree_formed s e h,
          (h.typed, (by (or_true (is_lvalue e) (is_function (of e)) placed), refl)),
        );
        placed = λ g. absurd (true≢false (sym g));
      }))
    where
      by : (is_lvalue e ≡ true) ⊎ (is_function (of e) ≡ true) → has_place e ≡ true
      by (inl l) = lvalue_placed e l
      by (inr f) = h.placed f

  stepped_typed : (op : Punct) (p m at : Place) (e : Typed)
      → ((t : CType) → IsStep s.structs e t → IsUnary s.structs op e t) → IsTree s e
      → Gives (IsMade s) (and_then (stepped_type s.structs p at e)
      (λ t. accepted (typed (tree.unary op e) t p m)))
  stepped_typed op p m at e is h = gives_then (step_found p at e h) (λ t g. gives (record {
    formed = subst (IsFormed s.structs) (sym g.0) (tree_formed s e h);
    sound = subst IsSound (sym g.0) h.sound;
    typed = λ solid. (
      solid,
      subst (IsFormed s.structs) (sym g.0) (tree_formed s e h),
      (h.typed, is t g.1),
    );
    placed = not_placed t (typed (tree.unary op e) t p m) g.2;
  }))

  pub object_typed : (op : Punct) (p m at : Place) (e : Typed) → takes_object op ≡ true → IsTree s e
      → Gives (IsMade s) (unary_object s.structs op p m at e)
  object_typed marks.Ampersand p m at e takes h = address_typed p m at e h
  object_typed marks.Increment p m at e takes h =
      stepped_typed marks.Increment p m at e (λ t g. g) h
  object_typed marks.Decrement p m at e takes h =
      stepped_typed marks.Decrement p m at e (λ t g. g) h
  object_typed op p m at e takes h = absurd (true≢false (sym takes))

  follow_typed : (p m : Place) (e : Typed) → IsTree s e → Gives (IsMade s) (followed p m e)
  follow_typed p m (typed f t q o) h = by t h
    where
      if_some : (t u : CType) (b : Bool) → (if b then None else Some t) ≡ Some u → t ≡ u
      if_some t u true e = absurd (none_some u e)
      if_some t u false e = some_is t u e

      by : (t : CType) → IsTree s (typed f t q o) → Gives (IsMade s) (followed p m (typed f t q o))
      by (pointer t) h = gives_given {o = if is_void t then None else Some t} _ _
          (λ u e. gives (record {
            formed = subst (IsFormed s.structs) (if_some t u (is_void t) e) h.typed.1;
            sound = subst IsSound (if_some t u (is_void t) e) h.sound;
            typed = λ solid. (
              solid,
              subst (IsFormed s.structs) (if_some t u (is_void t) e) h.typed.1,
              (h.typed, refl),
            );
            placed = λ g. refl;
          }))
      by t h = gives_none

  scalar_same : (t : CType) → is_scalar_type t ≡ true → is_scalar t ≡ true
  scalar_same (integer k) h = refl
  scalar_same (pointer t) h = refl
  scalar_same t h = absurd (true≢false (sym h))

  deny_typed : (p m : Place) (e : Typed) → IsTree s e → Gives (IsMade s) (denied p m e)
  deny_typed p m e h =
      gives_met _ _ (λ scalar. gives {x = typed (tree.unary marks.Exclamation e) (integer Int) p m}
      (record {
        formed = tt;
        sound = tt;
        typed = λ solid. (refl, tt, (h.typed, (scalar_same (of e) scalar, refl)));
        placed = λ g. absurd (true≢false (sym g));
      }))

  -- an integer, promoted
  sign_typed : (op : Punct) (p m : Place) (e : Typed)
      → ((a : Typed) (t : CType) → IsSigned (of a) t → IsUnary s.structs op a t) → IsTree s e
      → Gives (IsMade s) (signed_or_inverted op p m e)
  sign_typed op p m (typed f t q o) is h = by t h
    where
      by : (t : CType) → IsTree s (typed f t q o)
          → Gives (IsMade s) (signed_or_inverted op p m (typed f t q o))
      by (integer k) h =
          let x : IsOf s (promoted_type (integer k)) (promoted (typed f (integer k) q o)) =
          tree_converted s (promoted_type (integer k)) (typed f (integer k) q o) h tt tt refl in
          gives (record {
            formed = tt;
            sound = tt;
            typed = λ solid. (
              refl,
              tt,
              (
                x.tree.typed,
                is (promoted (typed f (integer k) q o)) (promoted_type (integer k))
                    (ap is_integer x.is, refl, x.is),
              ),
            );
            placed = λ g. absurd (true≢false (sym g));
          })
      by t h = gives_none

  pub value_typed : (op : Punct) (p m : Place) (e : Typed) → takes_object op ≡ false
      → (is_step op || is_unary op) ≡ true → IsTree s e → Gives (IsMade s) (unary_value op p m e)
  value_typed marks.Star p m e takes is h = follow_typed p m e h
  value_typed marks.Exclamation p m e takes is h = deny_typed p m e h
  value_typed marks.Plus p m e takes is h = sign_typed marks.Plus p m e (λ a t g. g) h
  value_typed marks.Minus p m e takes is h = sign_typed marks.Minus p m e (λ a t g. g) h
  value_typed marks.Tilde p m e takes is h = sign_typed marks.Tilde p m e (λ a t g. g) h
  value_typed marks.Ampersand p m e takes is h = absurd (true≢false takes)
  value_typed marks.Increment p m e takes is h = absurd (true≢false takes)
  value_typed marks.Decrement p m e takes is h = absurd (true≢false takes)
  value_typed op p m e takes is h = absurd (true≢false (sym is))

  -- ---- casts and operators (C90 6.3.4 to 6.3.14)

  cast_plain : (t u : CType) → (is_void u || convertible t u) ≡ true
      → (is_function u ≡ false) × Converts t u
  cast_plain t void h = (refl, tt)
  cast_plain t (integer k) h = ((convertible_plain t (integer k) h).1, h)
  cast_plain t (pointer u) h = ((convertible_plain t (pointer u) h).1, h)
  cast_plain t (structure k) h = ((convertible_plain t (structure k) h).1, h)
  cast_plain t (floating k) h = absurd (true≢false (convertible_plain t (floating k) h).0)
  cast_plain t (array u n) h = (refl, h)
  cast_plain t (function r) h = ((convertible_plain t (function r) h).1, h)

  pub cast_typed : (t : CType) (p m at : Place) (e : Typed) → IsGood s.structs t → IsTree s e
      → IsKnown s.structs (of e) → Gives (IsMade s) (cast_to t p m at e)
  cast_typed t p m at e g h known =
      gives_met {b = not (is_floating_type t)} _ _
      (λ solid. gives_met {b = is_void t || convertible (of e) t} _ _
      (λ fits. gives {x = typed (tree.cast e) t p m} (record {
        formed = g.0;
        sound = g.1;
        typed = λ whole. (whole, g.0, (h.typed, (cast_plain (of e) t fits).1, cast_known s.structs (of e) t fits known));
        placed = not_placed t (typed (tree.cast e) t p m) (cast_plain (of e) t fits).0;
      })))

  pub tree_good : (e : Typed) → IsTree s e → IsGood s.structs (of e)
  tree_good e h = (tree_formed s e h, h.sound)

  pub binary_typed : (op : Punct) (p m : Place) (a b : Typed) → (binary_level op == 0) ≡ false
      → IsTree s a → IsTree s b → Gives (IsMade s) (binary s.structs op p m a b)
  binary_typed op p m a b l h k =
      gives_given {o = binary_balance op (of a) (of b)} _ _
      (λ x e. gives_met {b = are_moved_whole s.structs op (of a) (of b)} _ _ (λ moves.
      gives {x = typed (tree.binary op (converted x.left a) (converted x.right b)) x.result p m}
      (made x (binary_balanced s.structs table op (of a) (of b) l (tree_good a h)
      (tree_good b k) moves x e))))
    where
      made : (x : Balance) → IsBalanced s.structs (IsBinary s.structs op) (of a) (of b) x
          → IsMade s (typed (tree.binary op (converted x.left a) (converted x.right b)) x.result p
          m)
      made x g =
          let c : IsOf s x.left (converted x.left a) =
          tree_converted s x.left a h g.left_good.0 g.left_good.1 g.left in
          let d : IsOf s x.right (converted x.right b) =
          tree_converted s x.right b k g.right_good.0 g.right_good.1 g.right in
          record {
            formed = g.good.0;
            sound = g.good.1;
            typed = λ solid. (
              solid,
              g.good.0,
              (
                c.tree.typed,
                d.tree.typed,
                subst (λ t. IsBinary s.structs op t (of (converted x.right b)) x.result) (sym c.is)
                    (subst (λ u. IsBinary s.structs op x.left u x.result) (sym d.is) g.taken),
              ),
            );
            placed = not_placed x.result
                (typed (tree.binary op (converted x.left a) (converted x.right b)) x.result p m)
                g.plain;
          }

  -- ---- a choice (C90 6.3.15)

  same_number : (j k : ℕ) → (j == k) ≡ true → (k == j) ≡ true
  same_number j k h = subst (λ n. (n == j) ≡ true) (eqb-true j k h) (number_equals j)

  chosen : (t : CType) (p m : Place) (c a b : Typed) → IsTree s c → is_scalar_type (of c) ≡ true
      → is_function t ≡ false → IsGood s.structs t → IsOf s t (converted t a)
      → IsOf s t (converted t b)
      → IsChoice s.structs t t t
      → IsMade s (typed (tree.choice c (converted t a) (converted t b)) t p m)
  chosen t p m c a b h scalar plain g x y fits = record {
    formed = g.0;
    sound = g.1;
    typed = λ solid. (
      solid,
      g.0,
      (
        h.typed,
        x.tree.typed,
        y.tree.typed,
        scalar_same (of c) scalar,
        subst (λ u. IsChoice s.structs t u (of (converted t b))) (sym x.is)
            (subst (λ u. IsChoice s.structs t t u) (sym y.is) fits),
      ),
    );
    placed = not_placed t (typed (tree.choice c (converted t a) (converted t b)) t p m) plain;
  }

  pointers_good : (x y : Bool) (t u : CType) → IsGood s.structs t → IsGood s.structs u
      → (v : CType) × (pointers_type x y t u ≡ pointer v) × IsGood s.structs v
  pointers_good true false t u g h = (u, refl, h)
  pointers_good false true t u g h = (t, refl, g)
  pointers_good true true t u g h = by (is_void t || is_void u)
    where
      by : (b : Bool) → (v : CType) × ((if b then pointer void else pointer t) ≡ pointer v)
          × IsGood s.structs v
      by true = (void, refl, (tt, tt))
      by false = (t, refl, g)
  pointers_good false false t u g h = by (is_void t || is_void u)
    where
      by : (b : Bool) → (v : CType) × ((if b then pointer void else pointer t) ≡ pointer v)
          × IsGood s.structs v
      by true = (void, refl, (tt, tt))
      by false = (t, refl, g)

  pub choice_typed : (p m : Place) (c a b : Typed) → IsTree s c → IsValued s a → IsValued s b
      → Gives (IsMade s) (choice p m c a b)
  choice_typed p m c (typed f t q n) (typed g u r o) h k l =
      gives_met {b = is_scalar_type (of c)} _ _
      (λ scalar. by scalar t u k.tree l.tree k.value.known)
    where
      by : is_scalar_type (of c) ≡ true → (t u : CType) → IsTree s (typed f t q n)
          → IsTree s (typed g u r o) → IsKnown s.structs t
          → Gives (IsMade s) (where_given
          (choice_type (is_null_constant (typed f t q n)) (is_null_constant (typed g u r o)) t u)
          BadOperand p
          (λ v. accepted (typed
          (tree.choice c (converted v (typed f t q n)) (converted v (typed g u r o))) v p m)))
      by z (integer i) (integer j) k l w =
          gives (chosen (integer (common_kind i j)) p m c (typed f (integer i) q n)
          (typed g (integer j) r o) h z refl (tt, tt)
          (tree_converted s (integer (common_kind i j)) (typed f (integer i) q n) k tt tt refl)
          (tree_converted s (integer (common_kind i j)) (typed g (integer j) r o) l tt tt refl)
          (tt, refl, refl, refl, refl))
      by z (pointer t) (integer j) k l w =
          gives (chosen (pointer t) p m c (typed f (pointer t) q n)
          (typed g (integer j) r o) h z refl (tree_good (typed f (pointer t) q n) k)
          (tree_converted s (pointer t) (typed f (pointer t) q n) k k.typed.1 k.sound refl)
          (tree_converted s (pointer t) (typed g (integer j) r o) l k.typed.1 k.sound refl)
          (tt, refl, refl, tt, tt))
      by z (integer i) (pointer u) k l w =
          gives (chosen (pointer u) p m c (typed f (integer i) q n)
          (typed g (pointer u) r o) h z refl (tree_good (typed g (pointer u) r o) l)
          (tree_converted s (pointer u) (typed f (integer i) q n) k l.typed.1 l.sound refl)
          (tree_converted s (pointer u) (typed g (pointer u) r o) l l.typed.1 l.sound refl)
          (tt, refl, refl, tt, tt))
      by z (pointer t) (pointer u) k l w =
          let v : (v : CType) ×
          (pointers_type (is_null_constant (typed f (pointer t) q n))
          (is_null_constant (typed g (pointer u) r o)) t u ≡ pointer v) × IsGood s.structs v =
          pointers_good (is_null_constant (typed f (pointer t) q n))
          (is_null_constant (typed g (pointer u) r o)) t u
          (tree_good (typed f (pointer t) q n) k) (tree_good (typed g (pointer u) r o) l) in
          subst (λ v. Gives (IsMade s)
          (accepted (typed (tree.choice c (converted v (typed f (pointer t) q n))
          (converted v (typed g (pointer u) r o))) v p m))) (sym v.1)
          (gives (chosen (pointer v.0) p m c (typed f (pointer t) q n)
          (typed g (pointer u) r o) h z refl v.2
          (tree_converted s (pointer v.0) (typed f (pointer t) q n) k v.2.0 v.2.1 refl)
          (tree_converted s (pointer v.0) (typed g (pointer u) r o) l v.2.0 v.2.1 refl)
          (tt, refl, refl, tt, tt)))
      by z (structure i) (structure j) k l w =
          gives_given {o = if i == j then Some (structure i) else None} _ _
          (λ v e. one (i == j) refl v e)
        where
          one : (b : Bool) → (i == j) ≡ b → (v : CType)
              → (if b then Some (structure i) else None) ≡ Some v
              → Gives (IsMade s) (accepted
              (typed (tree.choice c (converted v (typed f (structure i) q n))
              (converted v (typed g (structure j) r o))) v p m))
          one false d v e = absurd (none_some v e)
          one true d v e =
              subst (λ v. Gives (IsMade s)
              (accepted (typed (tree.choice c (converted v (typed f (structure i) q n))
              (converted v (typed g (structure j) r o))) v p m))) (some_is (structure i) v e)
              (gives (chosen (structure i) p m c (typed f (structure i) q n)
              (typed g (structure j) r o) h z refl (tree_good (typed f (structure i) q n) k)
              (tree_converted s (structure i) (typed f (structure i) q n) k k.typed.1 tt
              (number_equals i)) (tree_converted s (structure i)
              (typed g (structure j) r o) l k.typed.1 tt (same_number i j d))
              (w, number_equals i, number_equals i, tt, tt)))
      by z void void k l w =
          gives (chosen void p m c (typed f void q n) (typed g void r o) h z refl (tt, tt)
          (record { tree = k; is = refl }) (record { tree = l; is = refl }) tt)
      by z t u k l w = gives_none

  -- ---- assignments (C90 6.3.16)

  abbrev IsKept : CType → Type 0
  IsKept t = IsStored s.structs t × (same_value t t ≡ true) × (is_function t ≡ false)

  stepped_kept : (t : CType) → IsStepped s.structs t → IsKept t
  stepped_kept (integer k) h = (tt, refl, refl)
  stepped_kept (pointer t) h = (tt, refl, refl)
  stepped_kept void h = absurd h
  stepped_kept (floating k) h = absurd h
  stepped_kept (array t n) h = absurd h
  stepped_kept (structure k) h = absurd h
  stepped_kept (function r) h = absurd h

  whole_kept : (u t : CType) → IsFormed s.structs t → is_complete s.structs t ≡ true
      → convertible u t ≡ true → IsKept t
  whole_kept u (integer k) f whole c = (tt, refl, refl)
  whole_kept u (pointer t) f whole c = (tt, refl, refl)
  whole_kept u (structure k) f whole c =
      ((complete_sized s.structs table (structure k) f whole).0, number_equals k, refl)
  whole_kept u void f whole c = absurd (true≢false (sym whole))
  whole_kept u (floating k) f whole c = absurd (true≢false (convertible_plain u (floating k) c).0)
  whole_kept u (array t n) f whole c = absurd (array_none u t n c)
    where
      array_none : (u t : CType) (n : Option ℕ) → convertible u (array t n) ≡ true → ⊥
      array_none (integer k) t n c = true≢false (sym c)
      array_none (pointer u) t n c = true≢false (sym c)
      array_none (structure k) t n c = true≢false (sym c)
      array_none u t n c = true≢false (sym c)
  whole_kept u (function r) f whole c = absurd (true≢false (sym whole))

  assigned : (op : Punct) (p m : Place) (a b : Typed) → IsTree s a → IsTree s b → has_place a ≡ true
      → IsKept (of a) → IsAssigned s.structs op (of a) (of b)
      → IsMade s (typed (tree.assign op a b) (of a) p m)
  assigned op p m a b h k placed kept fits = record {
    formed = tree_formed s a h;
    sound = h.sound;
    typed = λ solid. (solid, tree_formed s a h, (h.typed, k.typed, placed, kept.0, kept.1, fits));
    placed = not_placed (of a) (typed (tree.assign op a b) (of a) p m) kept.2;
  }

  compound_found : (op : Punct) (p : Place) (a b : CType) → IsGood s.structs a
      → Gives (IsCompound s.structs table a b) (compound s.structs op p a b)
  compound_found op p a b g =
      gives_given {o = compound_type op a b} _ _
      (λ t e. gives_met {b = are_moved_whole s.structs op a b} _ _
      (λ moves. gives (compounded s.structs table op a b t g moves e)))

  compound_typed : (op : Punct) (p m : Place) (a b : Typed)
      → ((t u : CType) → IsStepped s.structs t → is_integer u ≡ true → IsAssigned s.structs op t u)
      → IsTree s a → IsTree s b → has_place a ≡ true
      → Gives (IsMade s) (and_then (compound s.structs op p (of a) (of b))
      (λ t. accepted (typed (tree.assign op a (converted t b)) (of a) p m)))
  compound_typed op p m a b is h k placed =
      gives_then (compound_found op p (of a) (of b) (tree_good a h)) (λ t g.
      gives (by t g (tree_converted s t b k g.good.0 g.good.1 g.converts)))
    where
      by : (t : CType) → IsCompound s.structs table (of a) (of b) t → IsOf s t (converted t b)
          → IsMade s (typed (tree.assign op a (converted t b)) (of a) p m)
      by t g x = assigned op p m a (converted t b) h x.tree placed (stepped_kept (of a) g.stepped)
          (is (of a) (of (converted t b)) g.stepped (ap is_integer x.is ∙ g.number))

  stored_typed : (op : Punct) (p m there : Place) (a b : Typed) → IsTree s a → IsTree s b
      → has_place a ≡ true → is_complete s.structs (of a) ≡ true
      → Gives (IsMade s) (stored s.structs op p m there a b)
  stored_typed marks.Assign p m there a b h k placed whole =
      gives_met {b = convertible (of b) (of a)} _ _
      (λ fits. gives (by (tree_converted s (of a) b k (tree_formed s a h) h.sound fits)
      (whole_kept (of b) (of a) (tree_formed s a h) whole fits)))
    where
      by : IsOf s (of a) (converted (of a) b) → IsKept (of a)
          → IsMade s (typed (tree.assign marks.Assign a (converted (of a) b)) (of a) p m)
      by x kept = assigned marks.Assign p m a (converted (of a) b) h x.tree placed kept
          (ap (λ u. same_value u (of a)) x.is ∙ kept.1)
  stored_typed op p m there a b h k placed whole =
      compound_typed op p m a b (λ t u g i. (g, i)) h k placed

  pub assign_typed : (op : Punct) (p m at there : Place) (a b : Typed) → IsTree s a → IsTree s b
      → Gives (IsMade s) (assign s.structs op p m at there a b)
  assign_typed op p m at there a b h k =
      gives_met {b = is_modifiable a} _ _
      (λ lvalue. gives_met {b = is_complete s.structs (of a)} _ _ (λ whole.
      stored_typed op p m there a b h k
      (lvalue_placed a (and_true (is_lvalue a) (not (is_array (of a))) lvalue).0) whole))

  -- ---- a comma (C90 6.3.17)

  pub comma_made : (p m : Place) (a b : Typed) → IsTree s a → IsTree s b → IsKnown s.structs (of b)
      → IsMade s (typed (tree.comma a b) (of b) p m)
  comma_made p m a b h k known = record {
    formed = tree_formed s b k;
    sound = k.sound;
    typed = λ solid. (solid, tree_formed s b k, (h.typed, k.typed, agrees_self (of b) solid, known));
    placed = k.placed;
  }

  -- ---- calls (C90 6.3.2.2)

  pub signature_found : (at : Place) (t : CType) → Gives (λ r. t ≡ pointer (function r))
      (called_signature at t)
  signature_found at (pointer (function r)) = gives refl
  signature_found at t = gives_none

  result_called : (r : CType) → (is_void r || is_complete s.structs r) ≡ true → IsFormed s.structs r
      → is_array r ≡ false → (is_floating r ≡ false → IsCalled s.structs r) ×
      (is_function r ≡ false)
  result_called void h f g = (λ solid. tt, refl)
  result_called (integer k) h f g = (λ solid. tt, refl)
  result_called (pointer t) h f g = (λ solid. tt, refl)
  result_called (structure k) h f g =
      (λ solid. (complete_sized s.structs table (structure k) f h).0, refl)
  result_called (floating k) h f g = (λ solid. absurd (true≢false solid), refl)
  result_called (array t n) h f g = absurd (true≢false g)
  result_called (function r) h f g = absurd (true≢false (sym h))

  pub call_typed : (p m : Place) (r : Signature) (callee : Typed) (es : TypedList) → IsTree s callee
      → of callee ≡ pointer (function r) → AreArguments s es
      → Gives (IsMade s) (called s.structs p m r callee es)
  call_typed p m (signature r ps dots) callee es h is given =
      gives_then {Q = λ t. (t ≡ r) × ((is_void r || is_complete s.structs r) ≡ true)}
      (gives_met {b = count_fits (signature r ps dots) (typed_count es)} _ _
      (λ count. gives_met {b = is_void r || is_complete s.structs r} _ _
      (λ whole. gives {x = r} (refl, whole))))
      (λ t g. gives (subst (λ t. IsMade s (typed (tree.call callee es) t p m)) (sym g.0)
      (made g.1)))
    where
      formed : IsFormedSignature s.structs (signature r ps dots)
      formed = subst (IsFormed s.structs) is (tree_formed s callee h)

      sound : IsSoundSignature (signature r ps dots)
      sound = subst IsSound is h.sound

      made : (is_void r || is_complete s.structs r) ≡ true
          → IsMade s (typed (tree.call callee es) r p m)
      made whole =
          let x : (is_floating r ≡ false → IsCalled s.structs r) × (is_function r ≡ false) =
          result_called r whole formed.0 sound.0 in
          record {
            formed = formed.0;
            sound = sound.1;
            typed = λ solid. (solid, formed.0, (h.typed, ap is_pointer is, given, x.0 solid));
            placed = not_placed r (typed (tree.call callee es) r p m) x.1;
          }

  -- ---- arguments

  stored_by : (t u : CType) → convertible t u ≡ true → IsKnown s.structs t → IsStored s.structs u
  stored_by (integer j) (integer k) c h = tt
  stored_by (integer j) (pointer u) c h = tt
  stored_by (pointer t) (integer k) c h = tt
  stored_by (pointer t) (pointer u) c h = tt
  stored_by (structure j) (structure k) c h =
      subst (λ n. 1 ≤ size_of s.structs (structure n)) (eqb-true j k c) h
  stored_by t u c h = absurd (true≢false (sym c))

  abbrev pub IsArgument : Typed → Type 0
  IsArgument a = IsTyped s a × IsStored s.structs (of a)

  pub argument_typed : (t : CType) (at : Place) (e : Typed) → IsGood s.structs t → IsValued s e
      → Gives IsArgument (argument t at e)
  argument_typed t at e g h =
      gives_met {b = not (is_floating_type t)} _ _
      (λ solid. gives_met {b = convertible (of e) t} _ _ (λ fits.
      gives (by (tree_converted s t e h.tree g.0 g.1 fits)
      (stored_by (of e) t fits h.value.known))))
    where
      by : IsOf s t (converted t e) → IsStored s.structs t → IsArgument (converted t e)
      by x kept = (x.tree.typed, subst (IsStored s.structs) (sym x.is) kept)

  promoted_good : (t : CType) → IsGood s.structs t → IsGood s.structs (promoted_type t)
  promoted_good (integer k) g = (tt, tt)
  promoted_good void g = g
  promoted_good (floating k) g = g
  promoted_good (pointer t) g = g
  promoted_good (array t n) g = g
  promoted_good (structure k) g = g
  promoted_good (function r) g = g

  -- types of parameters, each formed and sound
  abbrev pub AreGood : CTypes → Type 0
  AreGood ts = AreFormed s.structs ts × AreSound ts

  pub wanted_good : (ts : CTypes) (t : CType) → AreGood ts → IsGood s.structs t
      → IsGood s.structs (wanted ts t)
  wanted_good no_types t h g = promoted_good t g
  wanted_good (next_type u us) t h g = (h.0.0, h.1.0)

  pub behind_good : (ts : CTypes) → AreGood ts → AreGood (behind ts)
  behind_good no_types h = h
  behind_good (next_type u us) h = (h.0.1, h.1.1)

  pub told_good : (ps : Parameters) → AreFormedParameters s.structs ps → AreSoundParameters ps
      → AreGood (told ps)
  told_good untold h g = (tt, tt)
  told_good (listed ts) h g = (h, g)

  pub callee_good : (e : Typed) (r : Signature) → IsTree s e → of e ≡ pointer (function r)
      → AreGood (told (parameters_of r))
  callee_good e (signature r ps dots) h is =
      let formed : IsFormedSignature s.structs (signature r ps dots) =
      subst (IsFormed s.structs) is (tree_formed s e h) in
      let sound : IsSoundSignature (signature r ps dots) = subst IsSound is h.sound in
      told_good ps formed.1 sound.2
