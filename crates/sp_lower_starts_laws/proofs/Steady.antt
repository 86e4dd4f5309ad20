-- A tree without nodes leaves the draft as it is, and what is left of it is the same in each function.
use Rattle.std.proofs.Common.{◌≡◌, ℕ, Bool, true, false, ◌||◌, ◌&&◌, Option, Some, None, refl, ap, sym, ◌∙◌, subst}
use Rattle.sp_tree.specs.declared.fault.Place.{Place}
use Rattle.sp_tree.specs.declared.token.Punct.{Punct}
use Rattle.sp_types.specs.Types.{CType}
use Rattle.sp_types.specs.Typed.{Typed, typed, TypedForm, of}
use Rattle.sp_types.specs.Typed as tree
use Rattle.sp_ir.specs.Commands.{Expression, convert, unary, Lvalue}
use Rattle.sp_ir.specs.Formed.{is_struct}
use Rattle.sp_lower_draft.specs.declared.operators.Circuit.{Circuit}
use Rattle.sp_lower_draft.specs.declared.operators.Prefix.{Prefix}
use Rattle.sp_lower_draft.specs.declared.operators.Prefix.TheVariants as prefixes
use Rattle.sp_lower_draft.specs.Context.{Context, is_void, kind_of}
use Rattle.sp_lower_draft.specs.Draft.{Draft, Left, left, keep}
use Rattle.sp_lower_draft.specs.Operators.{circuit_of, prefix_of}
use Rattle.sp_lower_draft.specs.Steps.{addressed, loaded, indexed, member_taken, arrow_taken, followed, operated, negated}
use Rattle.sp_lower_draft.specs.Adds.{adds, form_adds, prefix_adds, circuit_adds, adds_unused, form_adds_unused, prefix_adds_unused, conversion_adds_unused}
use Rattle.sp_lower_draft.specs.Expressions.{Meaning, operand_of, meaning, form_meaning, conversion_value, conversion_place, conversion_unused, prefix_value, prefix_place, prefix_unused, binary_value, both, index_place}
use Rattle.sp_lower_expr_laws.proofs.Sorts.{false_true}

-- ---- tests

pub or_first : (a b : Bool) → (a || b) ≡ false → a ≡ false
or_first false b h = refl
or_first true b h = h

pub or_second : (a b : Bool) → (a || b) ≡ false → b ≡ false
or_second false b h = h
or_second true b h = false_true (sym h)

pub and_first : (a b : Bool) → (a && b) ≡ true → a ≡ true
and_first true b h = refl
and_first false b h = h

pub and_second : (a b : Bool) → (a && b) ≡ true → b ≡ true
and_second true b h = h
and_second false b h = false_true h

-- the context in another function
abbrev pub at : Context → ℕ → Context
at c k = record c { function = k }

-- ---- what isn't used

-- it does nothing where its value isn't used
abbrev IsIdle : Meaning → Type 0
IsIdle m = (s : Draft) → m.unused s ≡ s

conversion_idle : (c : Context) (a e : Typed) (m : Meaning) (b u : Bool) → conversion_adds_unused b (adds_unused a) ≡ false → (adds_unused a ≡ false → IsIdle m)
    → (s : Draft) → conversion_unused c b u e (operand_of m a) s ≡ s
conversion_idle c a e m true u h f s = f h s
conversion_idle c a e m false u h f s = false_true (sym h)

prefix_idle : (c : Context) (x : Prefix) (p : Punct) (e a : Typed) (m : Meaning) → prefix_adds_unused x (adds_unused a) ≡ false → (adds_unused a ≡ false → IsIdle m)
    → (s : Draft) → prefix_unused c x p e (operand_of m a) s ≡ s
prefix_idle c prefixes.Address p e a m h f s = f h s
prefix_idle c prefixes.Pointee p e a m h f s = false_true (sym h)
prefix_idle c prefixes.Negation p e a m h f s = false_true (sym h)
prefix_idle c prefixes.Step p e a m h f s = false_true (sym h)
prefix_idle c prefixes.Sign p e a m h f s = false_true (sym h)

module _ (c : Context) where
  mutual
    pub unused_same : (e : Typed) → adds_unused e ≡ false → IsIdle (meaning c e)
    unused_same (typed f t p m) h s = form_unused f t p m h s

    form_unused : (f : TypedForm) (t : CType) (p m : Place) → form_adds_unused f (is_void t) ≡ false → IsIdle (form_meaning c f (typed f t p m))
    form_unused (tree.number n) t p m h s = refl
    form_unused (tree.character z) t p m h s = refl
    form_unused (tree.constant z) t p m h s = refl
    form_unused (tree.object n) t p m h s = false_true (sym h)
    form_unused (tree.function n) t p m h s = false_true (sym h)
    form_unused (tree.convert a) t p m h s = conversion_idle c a (typed (tree.convert a) t p m) (meaning c a) (is_void t) (is_struct t) h (λ g. unused_same a g) s
    form_unused (tree.decay a) t p m h s = false_true (sym h)
    form_unused (tree.index a b) t p m h s = false_true (sym h)
    form_unused (tree.call f es) t p m h s = false_true (sym h)
    form_unused (tree.member a n) t p m h s = false_true (sym h)
    form_unused (tree.arrow a n) t p m h s = false_true (sym h)
    form_unused (tree.after op a) t p m h s = false_true (sym h)
    form_unused (tree.unary op a) t p m h s = prefix_idle c (prefix_of op) op (typed (tree.unary op a) t p m) a (meaning c a) h (λ g. unused_same a g) s
    form_unused (tree.cast a) t p m h s = conversion_idle c a (typed (tree.cast a) t p m) (meaning c a) (is_void t) (is_struct t) h (λ g. unused_same a g) s
    form_unused (tree.binary op a b) t p m h s = false_true (sym h)
    form_unused (tree.choice a b d) t p m h s = false_true (sym h)
    form_unused (tree.assign op a b) t p m h s = false_true (sym h)
    form_unused (tree.comma a b) t p m h s =
        unused_same b (or_second (adds_unused a) (adds_unused b) h) ((meaning c a).unused s) ∙ unused_same a (or_first (adds_unused a) (adds_unused b) h) s

-- ---- values and places

-- the value in the second context leaves the draft, and is that in the first
abbrev pub SameValue : Meaning → Meaning → Type 0
SameValue m n = (to from : Option CType) (s d : Draft) → n.value to s ≡ left (m.value from d).pure s

abbrev pub SamePlace : Meaning → Meaning → Type 0
SamePlace m n = (s d : Draft) → n.place s ≡ left (m.place d).pure s

module _ (c : Context) (k : ℕ) where
  -- the values of both operands, where later says whether the first is kept
  abbrev both_by : Context → Bool → Typed → Meaning → Meaning → Draft → Left (Expression × Expression)
  both_by c later a ma mb s =
      let x : Left Expression = ma.value None s in
      let kept : Left Expression = keep c later a x.pure x.after in
      let y : Left Expression = mb.value None kept.after in
      left (kept.pure, y.pure) y.after

  both_plain : (a : Typed) (ma na mb nb : Meaning) → SameValue ma na → SameValue mb nb → (s d : Draft)
      → both_by (at c k) false a na nb s ≡ left (both_by c false a ma mb d).pure s
  both_plain a ma na mb nb ha hb s d =
      ap (λ (x : Left Expression). left (x.pure, (nb.value None x.after).pure) (nb.value None x.after).after) (ha None None s d)
      ∙ ap (λ (y : Left Expression). left ((ma.value None d).pure, y.pure) y.after) (hb None None s (ma.value None d).after)

  both_same : (a b : Typed) (ma na mb nb : Meaning) → SameValue ma na → SameValue mb nb → adds b ≡ false → (s d : Draft)
      → both (at c k) (operand_of na a) (operand_of nb b) s ≡ left (both c (operand_of ma a) (operand_of mb b) d).pure s
  both_same a b ma na mb nb ha hb h s d =
      subst (λ later. both_by (at c k) later a na nb s ≡ left (both_by c later a ma mb d).pure s) (sym h) (both_plain a ma na mb nb ha hb s d)

  -- what an operand without nodes is, in both contexts
  abbrev Values : Typed → Meaning → Meaning → Type 0
  Values a m n = adds a ≡ false → SameValue m n

  abbrev Places : Typed → Meaning → Meaning → Type 0
  Places a m n = adds a ≡ false → SamePlace m n

  loaded_same : (t : CType) (m n : Meaning) → SamePlace m n → (s d : Draft) → left (loaded (at c k) t (n.place s).pure) (n.place s).after ≡ left (loaded c t (m.place d).pure) s
  loaded_same t m n f s d = ap (λ (l : Left Lvalue). left (loaded (at c k) t l.pure) l.after) (f s d)

  converted_same : (a e : Typed) (m n : Meaning) (v u : Bool) → SameValue m n → SamePlace m n → (s d : Draft)
      → conversion_value (at c k) v u e (operand_of n a) s ≡ left (conversion_value c v u e (operand_of m a) d).pure s
  converted_same a e m n true u f g s d = f None None s d
  converted_same a e m n false true f g s d = loaded_same (of e) m n g s d
  converted_same a e m n false false f g s d = ap (λ (x : Left Expression). left (convert (of e) x.pure) x.after) (f (Some (of e)) (Some (of e)) s d)

  conversion_place_same : (a e : Typed) (m n : Meaning) (u : Bool) → SamePlace m n → (s d : Draft)
      → conversion_place u e (operand_of n a) s ≡ left (conversion_place u e (operand_of m a) d).pure s
  conversion_place_same a e m n true g s d = g s d
  conversion_place_same a e m n false g s d = refl

  index_same : (a b e : Typed) (ma na mb nb : Meaning) → (adds a || adds b) ≡ false → Values a ma na → Values b mb nb → (s d : Draft)
      → index_place (at c k) e (operand_of na a) (operand_of nb b) s ≡ left (index_place c e (operand_of ma a) (operand_of mb b) d).pure s
  index_same a b e ma na mb nb h f g s d =
      ap (λ (v : Left (Expression × Expression)). left (indexed (at c k) e a b v.pure.0 v.pure.1) v.after)
      (both_same a b ma na mb nb (f (or_first (adds a) (adds b) h)) (g (or_second (adds a) (adds b) h)) (or_second (adds a) (adds b) h) s d)

  prefix_value_same : (x : Prefix) (op : Punct) (e a : Typed) (m n : Meaning) → prefix_adds x (adds a) ≡ false → Values a m n → Places a m n → (s d : Draft)
      → prefix_value (at c k) x op e (operand_of n a) s ≡ left (prefix_value c x op e (operand_of m a) d).pure s
  prefix_value_same prefixes.Address op e a m n h f g s d = ap (λ (l : Left Lvalue). left (addressed (at c k) (of e) l.pure) l.after) (g h s d)
  prefix_value_same prefixes.Pointee op e a m n h f g s d = ap (λ (v : Left Expression). left (loaded (at c k) (of e) (followed e v.pure)) v.after) (f h None None s d)
  prefix_value_same prefixes.Negation op e a m n h f g s d = ap (λ (v : Left Expression). left (negated v.pure) v.after) (f h None None s d)
  prefix_value_same prefixes.Step op e a m n h f g s d = false_true (sym h)
  prefix_value_same prefixes.Sign op e a m n h f g s d = ap (λ (v : Left Expression). left (unary op (kind_of (of e)) v.pure) v.after) (f h None None s d)

  prefix_place_same : (x : Prefix) (e a : Typed) (m n : Meaning) → prefix_adds x (adds a) ≡ false → Values a m n → (s d : Draft)
      → prefix_place x e (operand_of n a) s ≡ left (prefix_place x e (operand_of m a) d).pure s
  prefix_place_same prefixes.Address e a m n h f s d = refl
  prefix_place_same prefixes.Pointee e a m n h f s d = ap (λ (v : Left Expression). left (followed e v.pure) v.after) (f h None None s d)
  prefix_place_same prefixes.Negation e a m n h f s d = refl
  prefix_place_same prefixes.Step e a m n h f s d = refl
  prefix_place_same prefixes.Sign e a m n h f s d = refl

  binary_same : (x : Option Circuit) (op : Punct) (e a b : Typed) (ma na mb nb : Meaning) → circuit_adds x (adds a || adds b) ≡ false → Values a ma na → Values b mb nb → (s d : Draft)
      → binary_value (at c k) x op e (operand_of na a) (operand_of nb b) s ≡ left (binary_value c x op e (operand_of ma a) (operand_of mb b) d).pure s
  binary_same None op e a b ma na mb nb h f g s d =
      ap (λ (v : Left (Expression × Expression)). left (operated (at c k) op e a b v.pure.0 v.pure.1) v.after)
      (both_same a b ma na mb nb (f (or_first (adds a) (adds b) h)) (g (or_second (adds a) (adds b) h)) (or_second (adds a) (adds b) h) s d)
  binary_same (Some x) op e a b ma na mb nb h f g s d = false_true (sym h)

  mutual
    pub value_same : (e : Typed) → adds e ≡ false → SameValue (meaning c e) (meaning (at c k) e)
    value_same (typed f t p m) h to from s d = form_value_same f t p m h to from s d

    pub place_same : (e : Typed) → adds e ≡ false → SamePlace (meaning c e) (meaning (at c k) e)
    place_same (typed f t p m) h s d = form_place_same f t p m h s d

    form_value_same : (f : TypedForm) (t : CType) (p m : Place) → form_adds f ≡ false → SameValue (form_meaning c f (typed f t p m)) (form_meaning (at c k) f (typed f t p m))
    form_value_same (tree.number n) t p m h to from s d = refl
    form_value_same (tree.character z) t p m h to from s d = refl
    form_value_same (tree.constant z) t p m h to from s d = refl
    form_value_same (tree.object n) t p m h to from s d = refl
    form_value_same (tree.function n) t p m h to from s d = refl
    form_value_same (tree.convert a) t p m h to from s d = converted_same a (typed (tree.convert a) t p m) (meaning c a) (meaning (at c k) a) (is_void t) (is_struct t) (λ to from s d. value_same a h to from s d) (λ s d. place_same a h s d) s d
    form_value_same (tree.decay a) t p m h to from s d = loaded_same (of a) (meaning c a) (meaning (at c k) a) (λ s d. place_same a h s d) s d
    form_value_same (tree.index a b) t p m h to from s d = ap (λ (l : Left Lvalue). left (loaded (at c k) t l.pure) l.after) (index_same a b (typed (tree.index a b) t p m) (meaning c a) (meaning (at c k) a) (meaning c b) (meaning (at c k) b) h (λ g to from s d. value_same a g to from s d) (λ g to from s d. value_same b g to from s d) s d)
    form_value_same (tree.call f es) t p m h to from s d = false_true (sym h)
    form_value_same (tree.member a n) t p m h to from s d = ap (λ (l : Left Lvalue). left (loaded (at c k) t (member_taken (at c k) a n l.pure)) l.after) (place_same a h s d)
    form_value_same (tree.arrow a n) t p m h to from s d =
        ap (λ (v : Left Expression). left (loaded (at c k) t (arrow_taken (at c k) (typed (tree.arrow a n) t p m) a n v.pure)) v.after) (value_same a h None None s d)
    form_value_same (tree.after op a) t p m h to from s d = false_true (sym h)
    form_value_same (tree.unary op a) t p m h to from s d = prefix_value_same (prefix_of op) op (typed (tree.unary op a) t p m) a (meaning c a) (meaning (at c k) a) h (λ g to from s d. value_same a g to from s d) (λ g s d. place_same a g s d) s d
    form_value_same (tree.cast a) t p m h to from s d = converted_same a (typed (tree.cast a) t p m) (meaning c a) (meaning (at c k) a) (is_void t) (is_struct t) (λ to from s d. value_same a h to from s d) (λ s d. place_same a h s d) s d
    form_value_same (tree.binary op a b) t p m h to from s d = binary_same (circuit_of op) op (typed (tree.binary op a b) t p m) a b (meaning c a) (meaning (at c k) a) (meaning c b) (meaning (at c k) b) h (λ g to from s d. value_same a g to from s d) (λ g to from s d. value_same b g to from s d) s d
    form_value_same (tree.choice a b q) t p m h to from s d = false_true (sym h)
    form_value_same (tree.assign op a b) t p m h to from s d = false_true (sym h)
    form_value_same (tree.comma a b) t p m h to from s d =
        ap (λ (q : Draft). (meaning (at c k) b).value None q) (unused_same (at c k) a (or_first (adds_unused a) (adds b) h) s)
        ∙ value_same b (or_second (adds_unused a) (adds b) h) None None s ((meaning c a).unused d)

    form_place_same : (f : TypedForm) (t : CType) (p m : Place) → form_adds f ≡ false → SamePlace (form_meaning c f (typed f t p m)) (form_meaning (at c k) f (typed f t p m))
    form_place_same (tree.number n) t p m h s d = refl
    form_place_same (tree.character z) t p m h s d = refl
    form_place_same (tree.constant z) t p m h s d = refl
    form_place_same (tree.object n) t p m h s d = refl
    form_place_same (tree.function n) t p m h s d = refl
    form_place_same (tree.convert a) t p m h s d = conversion_place_same a (typed (tree.convert a) t p m) (meaning c a) (meaning (at c k) a) (is_struct t) (λ s d. place_same a h s d) s d
    form_place_same (tree.decay a) t p m h s d = refl
    form_place_same (tree.index a b) t p m h s d = index_same a b (typed (tree.index a b) t p m) (meaning c a) (meaning (at c k) a) (meaning c b) (meaning (at c k) b) h (λ g to from s d. value_same a g to from s d) (λ g to from s d. value_same b g to from s d) s d
    form_place_same (tree.call f es) t p m h s d = false_true (sym h)
    form_place_same (tree.member a n) t p m h s d = ap (λ (l : Left Lvalue). left (member_taken (at c k) a n l.pure) l.after) (place_same a h s d)
    form_place_same (tree.arrow a n) t p m h s d =
        ap (λ (v : Left Expression). left (arrow_taken (at c k) (typed (tree.arrow a n) t p m) a n v.pure) v.after) (value_same a h None None s d)
    form_place_same (tree.after op a) t p m h s d = false_true (sym h)
    form_place_same (tree.unary op a) t p m h s d = prefix_place_same (prefix_of op) (typed (tree.unary op a) t p m) a (meaning c a) (meaning (at c k) a) h (λ g to from s d. value_same a g to from s d) s d
    form_place_same (tree.cast a) t p m h s d = conversion_place_same a (typed (tree.cast a) t p m) (meaning c a) (meaning (at c k) a) (is_struct t) (λ s d. place_same a h s d) s d
    form_place_same (tree.binary op a b) t p m h s d = refl
    form_place_same (tree.choice a b q) t p m h s d = false_true (sym h)
    form_place_same (tree.assign op a b) t p m h s d = false_true (sym h)
    form_place_same (tree.comma a b) t p m h s d =
        ap (λ (q : Draft). (meaning (at c k) b).place q) (unused_same (at c k) a (or_first (adds_unused a) (adds b) h) s)
        ∙ place_same b (or_second (adds_unused a) (adds b) h) s ((meaning c a).unused d)
