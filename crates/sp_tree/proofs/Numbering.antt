-- Laws of names by number, over plain lists.
use Rattle.std.proofs.Common.{◌≡◌, ℕ, suc, zero, ◌<◌, Bool, true, false, cond, ◌||◌, List, [], ◌∷◌, ◌++◌, length, map, slice_get, Some, refl, sym, ap, ◌∙◌, ◌⊎◌, inl, inr, None, get_or, ◌≤◌, position, arith}
use Rattle.std.specs.List.{list_any}
use Rattle.std.specs.Option.{option_map}
use Rattle.std.proofs.lemmas.List.{map-append}
use Rattle.std.specs.Str.{bytes_eq}
use Rattle.indexmap.specs.IndexSet.{insert_key}
use Rattle.std.proofs.lemmas.Slice.Eq.{bytes_eq-Decides}
use Rattle.std.proofs.lemmas.Option.{slice_get_cases, slice_get-map}
use Rattle.std.proofs.lemmas.List.Quantifiers.{position-Some}
use Rattle.sp_tree.specs.Names.{has_name, AreDistinct, Extends}

-- a test of the elements that a function gives
pub list_any-map : {A B : Type 0} (p : B → Bool) (f : A → B) (xs : List A) → list_any p (map f xs) ≡ list_any (λ x. p (f x)) xs
list_any-map p f [] = refl
list_any-map p f (x ∷ xs) = ap (λ b. p (f x) || b) (list_any-map p f xs)

-- what goes last has the next number
pub last_name : {A : Type 0} (xs : List A) (x : A) → slice_get (xs ++ x ∷ []) (length xs) ≡ Some x
last_name [] x = refl
last_name (y ∷ xs) x = last_name xs x

-- the others keep theirs
pub earlier_name : {A : Type 0} (xs ys : List A) (i : ℕ) (x : A) → slice_get xs i ≡ Some x → slice_get (xs ++ ys) i ≡ Some x
earlier_name [] ys i x e = cc
earlier_name (z ∷ xs) ys zero x e = e
earlier_name (z ∷ xs) ys (suc i) x e = earlier_name xs ys i x e

-- and there is no further number
pub last_or_earlier : {A : Type 0} (xs : List A) (x : A) (i : ℕ) (y : A) → slice_get (xs ++ x ∷ []) i ≡ Some y → (slice_get xs i ≡ Some y) ⊎ ((i ≡ length xs) × (x ≡ y))
last_or_earlier [] x zero y e = inr (refl, cc)
last_or_earlier [] x (suc i) y e = inl (cc)
last_or_earlier (z ∷ xs) x zero y e = inl e
last_or_earlier (z ∷ xs) x (suc i) y e = elim (last_or_earlier xs x i y e) [ inl h ↦ inl h | inr h ↦ inr (ap suc h.0, h.1) ]

-- a name that the list lacks has no number in it
pub absent : (names : List (List ℕ)) (bytes : List ℕ) (i : ℕ) → has_name names bytes ≡ false → slice_get names i ≡ Some bytes → ⊥
absent [] bytes i none e = cc
absent (name ∷ names) bytes zero none e =
    let same : bytes_eq bytes name ≡ true = (bytes_eq-Decides bytes name).1 (cc) in
    let there : has_name (name ∷ names) bytes ≡ true = ap (λ b. b || list_any (bytes_eq bytes) names) same in
    cc
absent (name ∷ names) bytes (suc i) none e = absent names bytes i (second (bytes_eq bytes name) (list_any (bytes_eq bytes) names) none) e
  where
    second : (a b : Bool) → (a || b) ≡ false → b ≡ false
    second true b h = cc
    second false b h = h

pub AreDistinct-push : (names : List (List ℕ)) (bytes : List ℕ) → has_name names bytes ≡ false → AreDistinct names → AreDistinct (names ++ bytes ∷ [])
AreDistinct-push names bytes none distinct i j name at_i at_j =
    by (last_or_earlier names bytes i name at_i) (last_or_earlier names bytes j name at_j)
  where
    by : (slice_get names i ≡ Some name) ⊎ ((i ≡ length names) × (bytes ≡ name)) → (slice_get names j ≡ Some name) ⊎ ((j ≡ length names) × (bytes ≡ name)) → i ≡ j
    by (inl a) (inl b) = distinct i j name a b
    by (inl a) (inr b) = absurd (absent names bytes i none (a ∙ ap Some (sym b.1)))
    by (inr a) (inl b) = absurd (absent names bytes j none (b ∙ ap Some (sym a.1)))
    by (inr a) (inr b) = a.0 ∙ sym b.0

-- the names as the bytes of some keys
module _ {K : Type 0} (bytes_of : K → List ℕ) (bytes : List ℕ) (keys : List K) (names : List (List ℕ)) (view : map bytes_of keys ≡ names) where
  -- a key with the bytes is found exactly where they are a name
  pub has_name-keys : has_name names bytes ≡ list_any (λ k. bytes_eq bytes (bytes_of k)) keys
  has_name-keys = ap (λ ns. has_name ns bytes) (sym view) ∙ list_any-map (bytes_eq bytes) bytes_of keys

  -- and its place is their number
  pub found : (i : ℕ) → position (λ k. bytes_eq bytes (bytes_of k)) keys ≡ Some i → i < length keys → slice_get names i ≡ Some bytes
  found i at within = rw (← view) (by (slice_get_cases keys i).1)
    where
      by : ((x : K) × (i < length keys) × (slice_get keys i ≡ Some x) × (get_or keys i x ≡ x)) ⊎ ((length keys ≤ i) × (slice_get keys i ≡ None)) → slice_get (map bytes_of keys) i ≡ Some bytes
      by (inl h) =
          let passes : bytes_eq bytes (bytes_of (get_or keys i h.0)) ≡ true = (position-Some (λ k. bytes_eq bytes (bytes_of k)) keys i h.0 at).1 in
          let same : bytes ≡ bytes_of h.0 = (bytes_eq-Decides bytes (bytes_of h.0)).0 (rw h.3 at passes) in
          slice_get-map bytes_of keys i ∙ ap (option_map bytes_of) h.2 ∙ ap Some (sym same)
      by (inr h) = absurd (omega (arith, h.0))

  -- a key that no other equals goes last, and so do its bytes
  pub added : (new : List K) (key : K) → bytes_of key ≡ bytes → has_name names bytes ≡ false → new ≡ insert_key (λ a b. bytes_eq (bytes_of a) (bytes_of b)) keys key → map bytes_of new ≡ names ++ bytes ∷ []
  added new key is none put =
      let absent_key : list_any (λ k. bytes_eq (bytes_of key) (bytes_of k)) keys ≡ false = rw is (sym has_name-keys ∙ none) in
      let last : new ≡ keys ++ key ∷ [] = put ∙ ap (λ b. cond b keys (keys ++ key ∷ [])) absent_key in
      ap (map bytes_of) last ∙ map-append bytes_of keys (key ∷ []) ∙ ap (λ b. map bytes_of keys ++ b ∷ []) is ∙ ap (λ ns. ns ++ bytes ∷ []) view

  -- the place at which a key with the bytes stands
  pub stored : (new : List K) (i : ℕ) (key k : K) → bytes_of key ≡ bytes → slice_get new i ≡ Some k → bytes_eq (bytes_of key) (bytes_of k) ≡ true → slice_get (map bytes_of new) i ≡ Some bytes
  stored new i key k is at same =
      slice_get-map bytes_of new i ∙ ap (option_map bytes_of) at ∙ ap Some (sym ((bytes_eq-Decides (bytes_of key) (bytes_of k)).0 same) ∙ is)

pub Extends-push : (names : List (List ℕ)) (bytes : List ℕ) → Extends names (names ++ bytes ∷ [])
Extends-push names bytes i name at = earlier_name names (bytes ∷ []) i name at
