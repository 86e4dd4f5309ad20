-- Values that the checks take for an object that lasts are constants, and typed where what lasts is
-- seen alone (C90 6.4, 6.5.7).
use Rattle.std.proofs.Common.{◌≡◌, ◌⊎◌, inl, inr, ℕ, ◌+◌, ℤ, ◌&&◌, ◌||◌, not, if◌then◌else◌, Bool, true, false, length, List, [], ◌∷◌, ◌++◌, refl, sym, subst, true≢false}
use Rattle.std.specs.Prelude.{get_or}
use Rattle.std.proofs.lemmas.Option.{slice_get-get_or}
use Rattle.sp_tree.specs.declared.fault.Place.{Place}
use Rattle.sp_parse_trees.specs.Syntax.{Expression}
use Rattle.sp_parse_trees.specs.Places.{place_of}
use Rattle.sp_types.specs.declared.ctype.IntKind.{IntKind}
use Rattle.sp_types.specs.Types.{CType, void, integer, floating, pointer, array, structure, function}
use Rattle.sp_types.specs.Typed.{Typed, typed, of}
use Rattle.sp_types.specs.Typed as tree
use Rattle.sp_types.specs.Compatible.{convertible, same_type}
use Rattle.sp_check_operands.specs.Conversions.{converted, is_floating}
use Rattle.sp_check_env.specs.Env.{Env}
use Rattle.sp_check_primaries.specs.Literals.{text_bytes, character_value, characters}
use Rattle.sp_check_initialisers.specs.declared.targets.Target.{Target}
use Rattle.sp_check_initialisers.specs.StaticValues.{is_static}
use Rattle.sp_check_initialisers.specs.Strings.{pieces_of, fits, ended, integers_in, string_added}
use Rattle.sp_check_initialisers.specs.Initialisers.{leaf_added}
use Rattle.sp_ir.specs.Formed.{is_scalar}
use Rattle.sp_ir.specs.Shapes.{Shape}
use Rattle.sp_check_typing.specs.Sorts.{same_value}
use Rattle.sp_check_typing.specs.Trees.{Scene, IsTyped, IsForm}
use Rattle.sp_check_typing.specs.Constants.{is_constant, is_stored}
use Rattle.sp_check_typing.specs.Starts.{IsLeafValue, AreLeafValues, AreKnown}
use Rattle.sp_check_formed_laws.proofs.Lists.{Each, each_none, each_pushed, each_appended, each_first}
use Rattle.sp_check_formed_laws.proofs.After.{Gives, gives, gives_then, gives_met, gives_given}
use Rattle.sp_check_expr_laws.specs.Sound.{lasting_alone, scene_of}
use Rattle.sp_check_expr_laws.proofs.Types.{or_left, or_right}
use Rattle.sp_check_expr_laws.proofs.Characters.{within_some}
use Rattle.sp_check_expr_laws.proofs.Grows.{Grows, typed_stays}
use Rattle.sp_check_initialiser_laws.proofs.Alone.{static_alone}
use Rattle.sp_check_initialiser_laws.proofs.Constants.{static_constant}

-- ---- values that are set before the program runs

-- a number
pub record IsNumeral (e : Typed) : Type 0 where
  pub number : ℤ
  pub of : CType
  pub place : Place
  pub mark : Place
  pub is : e ≡ typed (tree.constant number) of place mark

abbrev pub IsConverted : Typed → Typed → Type 0
IsConverted inner e = (t : CType) × (p : Place) × (m : Place)
    × (e ≡ typed (tree.convert inner) t p m)

-- a constant, perhaps converted
pub record IsConstant (s : Scene) (e : Typed) : Type 0 where
  pub inner : Typed
  pub is : (e ≡ inner) ⊎ IsConverted inner e
  pub constant : is_constant inner ≡ true
  pub typed : IsTyped s inner

abbrev pub IsSet : Scene → Typed → Type 0
IsSet s e = IsNumeral e ⊎ IsConstant s e

abbrev pub AreSet : Scene → List (ℕ × Typed) → Type 0
AreSet s es = Each (λ e. IsSet s e.1) es

-- those of an object that lasts, where what lasts is seen alone
abbrev pub AreSetIn : Target → List (ℕ × Typed) → Env → Type 0
AreSetIn w es env = w.fixed ≡ true → AreSet (scene_of lasting_alone env) es

set_stays : (s r : Scene) → Grows s r → (e : Typed) → IsSet s e → IsSet r e
set_stays s r g e (inl h) = inl h
set_stays s r g e (inr h) = inr (record {
  inner = h.inner;
  is = h.is;
  constant = h.constant;
  typed = typed_stays s r g h.inner h.typed;
})

pub all_set_stay : (s r : Scene) → Grows s r → (es : List (ℕ × Typed)) → AreSet s es → AreSet r es
all_set_stay s r g es h = λ k e at. set_stays s r g e.1 (h k e at)

-- ---- one value

converted_is : (t : CType) (e : Typed) → (converted t e ≡ e) ⊎ IsConverted e (converted t e)
converted_is t e = by (same_type (of e) t)
  where
    by : (b : Bool)
        → ((if b then e else typed (tree.convert e) t (tree.place_of e) (tree.mark_of e)) ≡ e)
        ⊎ IsConverted e
        (if b then e else typed (tree.convert e) t (tree.place_of e) (tree.mark_of e))
    by true = inl refl
    by false = inr (t, tree.place_of e, tree.mark_of e, refl)

static_of : (a b : Bool) → (not a || b) ≡ true → a ≡ true → b ≡ true
static_of true b h g = h
static_of false b h g = absurd (true≢false (sym g))

module _ (own : ℕ → Bool) (env : Env) (w : Target) where
  abbrev alone : Scene
  alone = scene_of lasting_alone env

  converted_set : (t : CType) (e : Typed) → IsTyped (scene_of own env) e
      → is_static env.tables.objects e ≡ true → IsSet alone (converted t e)
  converted_set t e h known = inr (record {
    inner = e;
    is = converted_is t e;
    constant = static_constant env.tables.objects e known;
    typed = static_alone own env e known h;
  })

  pub leaf_set : (at : Place) (vs : List (ℕ × Typed)) (t : CType) (k : ℕ) (e : Typed)
      → IsTyped (scene_of own env) e → AreSetIn w vs env
      → Gives (λ ys. AreSetIn w ys env) (leaf_added env.tables.objects w at vs t k e)
  leaf_set at vs t k e h set =
      gives_then {Q = λ v. w.fixed ≡ true → IsSet alone v}
      (gives_met {b = not (is_floating t)} _ _ (λ kind.
      gives_met {b = convertible (of e) t} _ _ (λ fits.
      gives_met {b = not w.fixed || is_static env.tables.objects e} _ _ (λ known.
      gives {x = converted t e} (λ fixed.
      converted_set t e h (static_of w.fixed (is_static env.tables.objects e) known fixed))))))
      (λ v q. gives {x = vs ++ (k, v) ∷ []} (λ fixed.
      each_pushed (λ (x : ℕ × Typed). IsSet alone x.1) vs (k, v) (set fixed) (q fixed)))

  -- ---- a literal

  characters_set : (k : IntKind) (p : Place) (i : ℕ) (bs : List ℕ)
      → AreSet alone (characters k p i bs)
  characters_set k p i [] = each_none (λ (x : ℕ × Typed). IsSet alone x.1)
  characters_set k p i (b ∷ bs) =
      each_first (λ (x : ℕ × Typed). IsSet alone x.1)
      (i, typed (tree.constant (character_value k b)) (integer k) p p)
      (characters k p (i + 1) bs)
      (inl (record {
        number = character_value k b;
        of = integer k;
        place = p;
        mark = p;
        is = refl;
      }))
      (characters_set k p (i + 1) bs)

  pub string_set : (names : List (List ℕ)) (vs : List (ℕ × Typed)) (t : CType) (k : ℕ)
      (name : Place) (e : Expression) → AreSetIn w vs env
      → Gives (λ ys. AreSetIn w ys env) (string_added names vs t k name e)
  string_set names vs t k name e set =
      gives_given {o = integers_in t} _ _ (λ x is.
      gives_met {b = fits x.1 (length (bytes e))} _ _ (λ room.
      gives {x = vs ++ characters x.0 (place_of e) k (ended x.1 (bytes e))} (λ fixed.
      each_appended (λ (y : ℕ × Typed). IsSet alone y.1) vs
      (characters x.0 (place_of e) k (ended x.1 (bytes e))) (set fixed)
      (characters_set x.0 (place_of e) k (ended x.1 (bytes e))))))
    where
      bytes : Expression → List ℕ
      bytes e = text_bytes names (pieces_of e)

-- ---- start values of leaves that are set

scalar_too : (t u : CType) → same_value t u ≡ true → is_scalar u ≡ true → is_scalar t ≡ true
scalar_too (integer j) (integer k) h g = refl
scalar_too (pointer t) (pointer u) h g = refl
scalar_too (structure j) (structure k) h g = absurd (true≢false (sym g))
scalar_too t u h g = absurd (true≢false (sym h))

constant_stored : (e : Typed) → is_constant e ≡ true → is_stored e ≡ true
constant_stored (typed (tree.convert e) t p m) h =
    or_left (is_constant (typed (tree.convert e) t p m)) (is_scalar t && is_constant e) h
constant_stored (typed f t p m) h = h

both : (a b : Bool) → a ≡ true → b ≡ true → (a && b) ≡ true
both true b h g = g
both false b h g = absurd (true≢false (sym h))

numeral_stored : (s : Scene) (z : ℤ) (t : CType) (p m : Place) → IsForm s t (tree.constant z)
    → is_stored (typed (tree.constant z) t p m) ≡ true
numeral_stored s z (integer k) p m h = within_some k z h
numeral_stored s z void p m h = absurd h
numeral_stored s z (floating k) p m h = absurd h
numeral_stored s z (pointer u) p m h = absurd h
numeral_stored s z (array u n) p m h = absurd h
numeral_stored s z (structure k) p m h = absurd h
numeral_stored s z (function q) p m h = absurd h

module _ (own : ℕ → Bool) (env : Env) where
  abbrev mine : Scene
  mine = scene_of own env

  abbrev lasts_alone : Scene
  lasts_alone = scene_of lasting_alone env

  set_typed : (e : Typed) → IsTyped mine e → IsSet lasts_alone e → IsTyped lasts_alone e
  set_typed e h (inl n) =
      let g : IsTyped mine (typed (tree.constant n.number) n.of n.place n.mark) =
      subst (λ x. IsTyped mine x) n.is h in
      subst (λ x. IsTyped lasts_alone x) (sym n.is) (g.0, g.1, g.2)
  set_typed e h (inr c) = by c.is
    where
      by : (e ≡ c.inner) ⊎ IsConverted c.inner e → IsTyped lasts_alone e
      by (inl same) = subst (λ x. IsTyped lasts_alone x) (sym same) c.typed
      by (inr v) =
          let g : IsTyped mine (typed (tree.convert c.inner) v.0 v.1 v.2) =
          subst (λ x. IsTyped mine x) v.3 h in
          subst (λ x. IsTyped lasts_alone x) (sym v.3) (g.0, g.1, (c.typed, g.2.1, g.2.2))

  set_stored : (shape : Shape) (e : ℕ × Typed) → IsLeafValue mine shape e
      → IsSet lasts_alone e.1 → is_stored e.1 ≡ true
  set_stored shape e h (inl n) =
      let g : IsTyped mine (typed (tree.constant n.number) n.of n.place n.mark) =
      subst (λ x. IsTyped mine x) n.is h.typed in
      subst (λ x. is_stored x ≡ true) (sym n.is)
      (numeral_stored mine n.number n.of n.place n.mark g.2)
  set_stored shape e h (inr c) = by c.is
    where
      by : (e.1 ≡ c.inner) ⊎ IsConverted c.inner e.1 → is_stored e.1 ≡ true
      by (inl same) =
          subst (λ x. is_stored x ≡ true) (sym same) (constant_stored c.inner c.constant)
      by (inr v) =
          let same : same_value v.0 h.leaf ≡ true =
          subst (λ x. same_value (of x) h.leaf ≡ true) v.3 h.same in
          subst (λ x. is_stored x ≡ true) (sym v.3)
          (or_right (is_constant (typed (tree.convert c.inner) v.0 v.1 v.2))
          (is_scalar v.0 && is_constant c.inner)
          (both (is_scalar v.0) (is_constant c.inner) (scalar_too v.0 h.leaf same h.scalar)
          c.constant))

  leaf_alone : (shape : Shape) (e : ℕ × Typed) → IsLeafValue mine shape e
      → IsSet lasts_alone e.1 → IsLeafValue lasts_alone shape e
  leaf_alone shape e h set = record {
    low = h.low;
    typed = set_typed e.1 h.typed set;
    leaf = h.leaf;
    there = h.there;
    scalar = h.scalar;
    same = h.same;
  }

  pub leaves_known : (t : CType) (es : List (ℕ × Typed)) → AreLeafValues mine t es
      → AreSet lasts_alone es → AreKnown lasts_alone t es
  leaves_known t es h set = record {
    values = record {
      shape = h.shape;
      shaped = h.shaped;
      values = λ k d low.
          leaf_alone h.shape (get_or es k d) (h.values k d low)
          (set k (get_or es k d) (slice_get-get_or es k d low));
      apart = h.apart;
    };
    constants = λ k d low.
        set_stored h.shape (get_or es k d) (h.values k d low)
        (set k (get_or es k d) (slice_get-get_or es k d low));
  }
