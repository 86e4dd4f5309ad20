-- Values that are given to leaves, in order (C90 6.5.7).
use Rattle.std.proofs.Common.{◌≡◌, ◌⊎◌, inl, inr, ℕ, zero, suc, ◌+◌, ◌<◌, true, length, List, [], ◌∷◌, ◌++◌, Some, refl, ap, sym, subst, arith}
use Rattle.std.specs.Prelude.{slice_get}
use Rattle.std.proofs.lemmas.List.{append_assoc, append-nil}
use Rattle.sp_tree.specs.declared.fault.Place.{Place}
use Rattle.sp_types.specs.declared.ctype.IntKind.{IntKind}
use Rattle.sp_types.specs.Types.{CType, integer}
use Rattle.sp_types.specs.Typed.{Typed, typed, of}
use Rattle.sp_types.specs.Typed as tree
use Rattle.sp_check_primaries.specs.Literals.{character_value, characters}
use Rattle.sp_check_initialisers.specs.Strings.{is_character_kind}
use Rattle.sp_ir.specs.Formed.{is_scalar}
use Rattle.sp_check_typing.specs.Sorts.{same_value}
use Rattle.sp_check_typing.specs.Trees.{Scene, IsTyped}
use Rattle.sp_check_formed_laws.proofs.Lists.{Each, each_none, each_pushed, each_behind, none_some, some_is, get_below}
use Rattle.sp_check_expr_laws.proofs.Grows.{Grows, typed_stays}
use Rattle.sp_check_expr_laws.proofs.Characters.{AreLow}
use Rattle.sp_check_initialiser_laws.proofs.Characters.{character_held}
use Rattle.sp_check_initialiser_laws.proofs.Spans.{Precedes, Places, precedes_through}

-- the value of a leaf that is there
pub record IsValue (P : Places) (s : Scene) (e : ℕ × Typed) : Type 0 where
  pub typed : IsTyped s e.1
  pub leaf : CType
  pub there : P e.0 leaf
  pub scalar : is_scalar leaf ≡ true
  pub same : same_value (of e.1) leaf ≡ true

-- each before the next, and all before this leaf
pub record AreValues (P : Places) (s : Scene) (end : ℕ) (vs : List (ℕ × Typed)) : Type 0 where
  pub values : Each (IsValue P s) vs
  pub order : (i j : ℕ) (d e : ℕ × Typed) → i < j → slice_get vs i ≡ Some d
      → slice_get vs j ≡ Some e → Precedes (suc d.0) e.0
  pub before : Each (λ e. Precedes (suc e.0) end) vs

pub value_stays : (P : Places) (s r : Scene) → Grows s r → (e : ℕ × Typed) → IsValue P s e
    → IsValue P r e
value_stays P s r g e h = record {
  typed = typed_stays s r g e.1 h.typed;
  leaf = h.leaf;
  there = h.there;
  scalar = h.scalar;
  same = h.same;
}

pub values_stay : (P : Places) (s r : Scene) (end : ℕ) (vs : List (ℕ × Typed)) → Grows s r
    → AreValues P s end vs → AreValues P r end vs
values_stay P s r end vs g h = record {
  values = λ k e at. value_stays P s r g e (h.values k e at);
  order = h.order;
  before = h.before;
}

module _ (P : Places) (s : Scene) where
  pub no_values : (end : ℕ) → AreValues P s end []
  no_values end = record {
    values = each_none (IsValue P s);
    order = λ i j d e l at there. absurd (none_some d at);
    before = each_none (λ e. Precedes (suc e.0) end);
  }

  pub values_later : (a b : ℕ) (vs : List (ℕ × Typed)) → Precedes a b → AreValues P s a vs
      → AreValues P s b vs
  values_later a b vs p h = record {
    values = h.values;
    order = h.order;
    before = λ k e at. precedes_through (suc e.0) a b (h.before k e at) p;
  }

  -- an entry of a list with one more is an old one or the last
  pushed_either : (vs : List (ℕ × Typed)) (v : ℕ × Typed) (i : ℕ) (e : ℕ × Typed)
      → slice_get (vs ++ v ∷ []) i ≡ Some e
      → (slice_get vs i ≡ Some e) ⊎ ((i ≡ length vs) × (v ≡ e))
  pushed_either [] v zero e at = inr (refl, some_is v e at)
  pushed_either [] v (suc i) e at = absurd (none_some e at)
  pushed_either (x ∷ xs) v zero e at = inl at
  pushed_either (x ∷ xs) v (suc i) e at = by (pushed_either xs v i e at)
    where
      by : (slice_get xs i ≡ Some e) ⊎ ((i ≡ length xs) × (v ≡ e))
          → (slice_get xs i ≡ Some e) ⊎ ((suc i ≡ suc (length xs)) × (v ≡ e))
      by (inl h) = inl h
      by (inr h) = inr (ap suc h.0, h.1)

  order_pushed : (a : ℕ) (vs : List (ℕ × Typed)) (v : ℕ × Typed) → Precedes a v.0
      → AreValues P s a vs → (i j : ℕ) (d e : ℕ × Typed) → i < j
      → slice_get (vs ++ v ∷ []) i ≡ Some d → slice_get (vs ++ v ∷ []) j ≡ Some e
      → Precedes (suc d.0) e.0
  order_pushed a vs v p h i j d e less at there =
      by (pushed_either vs v i d at) (pushed_either vs v j e there)
    where
      by : (slice_get vs i ≡ Some d) ⊎ ((i ≡ length vs) × (v ≡ d))
          → (slice_get vs j ≡ Some e) ⊎ ((j ≡ length vs) × (v ≡ e)) → Precedes (suc d.0) e.0
      by (inl x) (inl y) = h.order i j d e less x y
      by (inl x) (inr y) =
          subst (λ (z : ℕ × Typed). Precedes (suc d.0) z.0) y.1
          (precedes_through (suc d.0) a v.0 (h.before i d x) p)
      by (inr x) (inl y) =
          let low : j < length vs = get_below vs j e y in
          absurd (omega (arith, less, low, x.0))
      by (inr x) (inr y) = absurd (omega (arith, less, x.0, y.0))

  pub values_pushed : (a : ℕ) (vs : List (ℕ × Typed)) (v : ℕ × Typed) → Precedes a v.0
      → IsValue P s v → AreValues P s a vs → AreValues P s (suc v.0) (vs ++ v ∷ [])
  values_pushed a vs v p x h = record {
    values = each_pushed (IsValue P s) vs v h.values x;
    order = order_pushed a vs v p h;
    before = each_pushed (λ e. Precedes (suc e.0) (suc v.0)) vs v
        (λ k e at. precedes_through (suc e.0) a (suc v.0) (h.before k e at)
        (λ low. omega (arith, p (omega (arith, low))))) (λ low. omega arith);
  }

  -- ---- characters

  module _ (k : IntKind) (p : Place) (kind : is_character_kind k ≡ true) where
    character_value_of : (i b : ℕ) → P i (integer k) → b < 256
        → IsValue P s (i, typed (tree.constant (character_value k b)) (integer k) p p)
    character_value_of i b there low = record {
      typed = (refl, tt, character_held k kind b low);
      leaf = integer k;
      there = there;
      scalar = refl;
      same = refl;
    }

    -- in an array of characters that has room for them
    pub characters_added : (a i : ℕ) (vs : List (ℕ × Typed)) (bs : List ℕ) → Precedes a i
        → ((j : ℕ) → j < length bs → P (i + j) (integer k)) → AreLow bs → AreValues P s a vs
        → AreValues P s (i + length bs) (vs ++ characters k p i bs)
    characters_added a i vs [] at there low h =
        subst (AreValues P s (i + 0)) (sym (append-nil vs))
        (values_later a (i + 0) vs (λ l. omega (arith, at (omega (arith, l)))) h)
    characters_added a i vs (b ∷ bs) at there low h =
        let v : ℕ × Typed =
        (i, typed (tree.constant (character_value k b)) (integer k) p p) in
        let end : i + 1 + length bs ≡ i + suc (length bs) = omega arith in
        let same : i + 0 ≡ i = omega arith in
        subst (λ n. AreValues P s n (vs ++ v ∷ characters k p (i + 1) bs)) end
        (subst (AreValues P s (i + 1 + length bs))
        (append_assoc vs (v ∷ []) (characters k p (i + 1) bs))
        (characters_added (suc i) (i + 1) (vs ++ v ∷ []) bs (λ l. omega arith)
        (λ j l. subst (λ n. P n (integer k)) (next j) (there (suc j) (omega (arith, l))))
        (each_behind (λ b. b < 256) b bs low)
        (values_pushed a vs v at
        (character_value_of i b (subst (λ n. P n (integer k)) same (there 0 (omega arith)))
        (low 0 b refl)) h)))
      where
        next : (j : ℕ) → i + suc j ≡ i + 1 + j
        next j = omega arith
