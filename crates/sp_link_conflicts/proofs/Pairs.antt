-- Of conflicts one stands first, and units agree on their names where any two declarations do.
use Rattle.std.proofs.Common.{◌≡◌, ℕ, zero, suc, ◌<◌, Bool, true, false, ◌&&◌, ◌||◌, nat_eq, take, length, List, [], ◌∷◌, Some, ◌⊎◌, inl, inr, refl, ap, sym, subst, ◌∙◌, true≢false, eqb-true, eq-eqb, arith}
use Rattle.std.specs.Prelude.{slice_get}
use Rattle.std.specs.List.{list_any}
use Rattle.sp_tree.specs.declared.fault.FaultKind.{FaultKind}
use Rattle.sp_tree.specs.declared.fault.Place.{Place}
use Rattle.sp_types.specs.Types.{Struct}
use Rattle.sp_link_conflicts.specs.Declarations.{Declaration, declarations}
use Rattle.sp_link_conflicts.specs.Conflicts.{AreCompatible, Fits, Clashes, defines_again, IsProper, StandsAt, AreProper, IsFirstFault, tables_of}
use Rattle.sp_link_conflicts.specs.Laws.{ConflictsAreOne, ConflictsExclude, AgreementIsHarmony}

-- ---- one stands first

fits_clashes : (us : List (List Struct)) (ds : List Declaration) (e : Declaration) → Fits us ds e → Clashes us ds e → ⊥
fits_clashes us ds e f c = c.4 (f c.0 c.1 c.2 c.3)

proper_stands : (us : List (List Struct)) (ds : List Declaration) (e : Declaration) (k : FaultKind) → IsProper us ds e → StandsAt us ds e k → ⊥
proper_stands us ds e k p (inl h) = fits_clashes us ds e p.0 h.0
proper_stands us ds e k p (inr h) = true≢false (sym h.1 ∙ p.1)

one_stands : (us : List (List Struct)) (ds : List Declaration) (e : Declaration) (k j : FaultKind) → StandsAt us ds e k → StandsAt us ds e j → k ≡ j
one_stands us ds e k j (inl h) (inl g) = h.1 ∙ sym g.1
one_stands us ds e k j (inl h) (inr g) = absurd (fits_clashes us ds e g.0 h.0)
one_stands us ds e k j (inr h) (inl g) = absurd (fits_clashes us ds e h.0 g.0)
one_stands us ds e k j (inr h) (inr g) = h.2 ∙ sym g.2

some_is : (p q : Declaration) → Some p ≡ Some q → p ≡ q
some_is p q e = cc

module _ (us : List (List Struct)) (es : List Declaration) (k : FaultKind) (p : Place) (j : FaultKind) (q : Place) where
  not_before : (a : IsFirstFault us es k p) (b : IsFirstFault us es j q) → a.number < b.number → ⊥
  not_before a b l = proper_stands us (take a.number es) a.declaration k (b.before a.number a.declaration l a.there) a.stands

  at_one : (a : IsFirstFault us es k p) (b : IsFirstFault us es j q) → a.number ≡ b.number → (k ≡ j) × (p ≡ q)
  at_one a b n =
      let same : a.declaration ≡ b.declaration = some_is a.declaration b.declaration (sym a.there ∙ ap (slice_get es) n ∙ b.there) in
      let stands : StandsAt us (take a.number es) a.declaration j =
      subst (λ m. StandsAt us (take m es) a.declaration j) (sym n) (subst (λ d. StandsAt us (take b.number es) d j) (sym same) b.stands) in
      (one_stands us (take a.number es) a.declaration k j a.stands stands, a.stands_there ∙ ap (λ d. d.place) same ∙ sym b.stands_there)

-- which of two numbers is less
order : (a b : ℕ) → (a < b) ⊎ ((b < a) ⊎ (a ≡ b))
order zero zero = inr (inr refl)
order zero (suc b) = inl (omega arith)
order (suc a) zero = inr (inl (omega arith))
order (suc a) (suc b) = by (order a b)
  where
    by : (a < b) ⊎ ((b < a) ⊎ (a ≡ b)) → (suc a < suc b) ⊎ ((suc b < suc a) ⊎ (suc a ≡ suc b))
    by (inl l) = inl (omega arith)
    by (inr (inl l)) = inr (inl (omega arith))
    by (inr (inr l)) = inr (inr (ap suc l))

pub first_is_one : (us : List (List Struct)) (es : List Declaration) (k : FaultKind) (p : Place) (j : FaultKind) (q : Place)
    → IsFirstFault us es k p → IsFirstFault us es j q → (k ≡ j) × (p ≡ q)
first_is_one us es k p j q a b = by (order a.number b.number)
  where
    by : (a.number < b.number) ⊎ ((b.number < a.number) ⊎ (a.number ≡ b.number)) → (k ≡ j) × (p ≡ q)
    by (inl l) = absurd (not_before us es k p j q a b l)
    by (inr (inl l)) = absurd (not_before us es j q k p b a l)
    by (inr (inr n)) = at_one us es k p j q a b n

pub conflicts_are_one : ConflictsAreOne
conflicts_are_one xs k p j q a b = first_is_one (tables_of xs) (declarations xs) k p j q a b

pub conflicts_exclude : ConflictsExclude
conflicts_exclude xs k p a h = proper_stands (tables_of xs) (take a.number (declarations xs)) a.declaration k (h a.number a.declaration a.there) a.stands

-- ---- any two

pub get_below : {A : Type 0} (xs : List A) (i : ℕ) (x : A) → slice_get xs i ≡ Some x → i < length xs
get_below [] i x e = absurd (cc)
get_below (y ∷ ys) zero x e = omega arith
get_below (y ∷ ys) (suc i) x e = let low : i < length ys = get_below ys i x e in omega arith

get_taken : {A : Type 0} (n : ℕ) (xs : List A) (i : ℕ) → i < n → slice_get (take n xs) i ≡ slice_get xs i
get_taken zero xs i l = absurd (omega arith)
get_taken (suc n) [] i l = refl
get_taken (suc n) (x ∷ xs) zero l = refl
get_taken (suc n) (x ∷ xs) (suc i) l = get_taken n xs i (omega arith)

taken_below : {A : Type 0} (n : ℕ) (xs : List A) (i : ℕ) (x : A) → slice_get (take n xs) i ≡ Some x → i < n
taken_below zero xs i x e = absurd (cc)
taken_below (suc n) [] i x e = absurd (cc)
taken_below (suc n) (y ∷ ys) zero x e = omega arith
taken_below (suc n) (y ∷ ys) (suc i) x e = let low : i < n = taken_below n ys i x e in omega arith

-- one of a name defines it
any_there : (n : ℕ) (ds : List Declaration) (i : ℕ) (d : Declaration) → slice_get ds i ≡ Some d → d.name ≡ n → d.defines ≡ true → list_any (λ d. nat_eq d.name n && d.defines) ds ≡ true
any_there n [] i d e same t = absurd (cc)
any_there n (x ∷ xs) zero d e same t =
    let is : x ≡ d = some_is x d e in
    let here : (nat_eq x.name n && x.defines) ≡ true = subst (λ z. (nat_eq z.name n && z.defines) ≡ true) (sym is) (λ i. eq-eqb d.name n same i && t i) in
    ap (λ b. b || list_any (λ d. nat_eq d.name n && d.defines) xs) here
any_there n (x ∷ xs) (suc i) d e same t = by (nat_eq x.name n && x.defines) (any_there n xs i d e same t)
  where
    by : (b : Bool) → list_any (λ d. nat_eq d.name n && d.defines) xs ≡ true → (b || list_any (λ d. nat_eq d.name n && d.defines) xs) ≡ true
    by true h = refl
    by false h = h

and_parts : (a b : Bool) → (a && b) ≡ true → (a ≡ true) × (b ≡ true)
and_parts true b h = (refl, h)
and_parts false b h = absurd (true≢false (sym h))

there_any : (n : ℕ) (ds : List Declaration) → list_any (λ d. nat_eq d.name n && d.defines) ds ≡ true → (i : ℕ) × (d : Declaration) × (slice_get ds i ≡ Some d) × (d.name ≡ n) × (d.defines ≡ true)
there_any n [] h = absurd (true≢false (sym h))
there_any n (x ∷ xs) h = by (nat_eq x.name n && x.defines) refl h (there_any n xs)
  where
    by : (b : Bool) → (nat_eq x.name n && x.defines) ≡ b → (b || list_any (λ d. nat_eq d.name n && d.defines) xs) ≡ true
        → (list_any (λ d. nat_eq d.name n && d.defines) xs ≡ true → (i : ℕ) × (d : Declaration) × (slice_get xs i ≡ Some d) × (d.name ≡ n) × (d.defines ≡ true))
        → (i : ℕ) × (d : Declaration) × (slice_get (x ∷ xs) i ≡ Some d) × (d.name ≡ n) × (d.defines ≡ true)
    by true e g ih = let w : (nat_eq x.name n ≡ true) × (x.defines ≡ true) = and_parts (nat_eq x.name n) x.defines e in (zero, x, refl, eqb-true x.name n w.0, w.1)
    by false e g ih = let w : (i : ℕ) × (d : Declaration) × (slice_get xs i ≡ Some d) × (d.name ≡ n) × (d.defines ≡ true) = ih g in (suc w.0, w.1, w.2, w.3, w.4)

not_true : (b : Bool) → (b ≡ true → ⊥) → b ≡ false
not_true true f = absurd (f refl)
not_true false f = refl

module _ (us : List (List Struct)) (es : List Declaration) where
  pub pairs_of : AreProper us es → (i j : ℕ) (d e : Declaration) → i < j → slice_get es i ≡ Some d → slice_get es j ≡ Some e → d.name ≡ e.name
      → AreCompatible us d e × ((d.defines && e.defines) ≡ true → ⊥)
  pairs_of h i j d e l a b same =
      let at : slice_get (take j es) i ≡ Some d = get_taken j es i l ∙ a in
      let p : IsProper us (take j es) e = h j e b in (
        p.0 i d at same,
        λ both.
            let w : (d.defines ≡ true) × (e.defines ≡ true) = and_parts d.defines e.defines both in
            let any : list_any (λ d. nat_eq d.name e.name && d.defines) (take j es) ≡ true = any_there e.name (take j es) i d at same w.0 in
            true≢false (sym (λ i. w.1 i && any i) ∙ p.1),
      )

  pub proper_of : ((i j : ℕ) (d e : Declaration) → i < j → slice_get es i ≡ Some d → slice_get es j ≡ Some e → d.name ≡ e.name → AreCompatible us d e × ((d.defines && e.defines) ≡ true → ⊥))
      → AreProper us es
  proper_of h j e b = (
    (λ i d at same.
        let l : i < j = taken_below j es i d at in
        (h i j d e l (sym (get_taken j es i l) ∙ at) b same).0),
    not_true (defines_again (take j es) e) (λ t.
        let w : (e.defines ≡ true) × (list_any (λ d. nat_eq d.name e.name && d.defines) (take j es) ≡ true) = and_parts e.defines (list_any (λ d. nat_eq d.name e.name && d.defines) (take j es)) t in
        let v : (i : ℕ) × (d : Declaration) × (slice_get (take j es) i ≡ Some d) × (d.name ≡ e.name) × (d.defines ≡ true) = there_any e.name (take j es) w.1 in
        let l : v.0 < j = taken_below j es v.0 v.1 v.2 in
        (h v.0 j v.1 e l (sym (get_taken j es v.0 l) ∙ v.2) b v.3).1 (λ i. v.4 i && w.0 i)),
  )

pub agreement_is_harmony : AgreementIsHarmony
agreement_is_harmony xs = (pairs_of (tables_of xs) (declarations xs), proper_of (tables_of xs) (declarations xs))
