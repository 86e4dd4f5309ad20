-- Updates of a row, at a location and target by target.
use Rattle.std.proofs.Common.{◌≡◌, ◌≢◌, ◌⊎◌, inl, inr, ℕ, zero, suc, ◌<◌, ◌+◌, nat_eq, Bool, true, false, cond, List, [], ◌∷◌, ◌++◌, length, get_or, set, take, refl, sym, ap, ◌∙◌, arith, take-suc}
use Rattle.std.specs.List.Sorted.{IsStrictlyIncreasing}
use Rattle.sp_value.specs.declared.targets.Target.{Target}
use Rattle.sp_value.specs.declared.slots.Slot.{Slot}
use Rattle.sp_value.specs.declared.slots.Slot.TheVariants.{Nothing, Plain}
use Rattle.sp_value.specs.Slots.{slot_join}
use Rattle.sp_value.specs.SlotLaws.{slot-trans, slot-antisym, slot-left, slot-right, slot-least}
use Rattle.std.proofs.Common.{not, ◌&&◌}
use Rattle.sp_effect_rows.specs.Rows.{joins, kept_if}
use Rattle.sp_effect_rows.specs.Storing.{Destination, may_hit, kept_by}
use Rattle.sp_effect_rows.specs.Updates.{store_of, only_at, where_hit, slots_at}
use Rattle.sp_effect_rows.proofs.Numbers.{which, same_number, apart_numbers}
use Rattle.sp_effect_rows.proofs.Ordered.{written-at, written-set_same, written-set_other}

pub join-nothing : (x : Slot) → slot_join x Nothing ≡ x
join-nothing Nothing = refl
join-nothing (Plain v) = refl

pub join-assoc : (a b c : Slot) → slot_join (slot_join a b) c ≡ slot_join a (slot_join b c)
join-assoc a b c = slot-antisym (slot_join (slot_join a b) c) (slot_join a (slot_join b c))
    (slot-least (slot_join a b) c (slot_join a (slot_join b c))
    (slot-least a b (slot_join a (slot_join b c)) (slot-left a (slot_join b c)) (slot-trans b (slot_join b c) (slot_join a (slot_join b c)) (slot-left b c) (slot-right a (slot_join b c))))
    (slot-trans c (slot_join b c) (slot_join a (slot_join b c)) (slot-right b c) (slot-right a (slot_join b c))))
    (slot-least a (slot_join b c) (slot_join (slot_join a b) c)
    (slot-trans a (slot_join a b) (slot_join (slot_join a b) c) (slot-left a b) (slot-left (slot_join a b) c))
    (slot-least b c (slot_join (slot_join a b) c) (slot-trans b (slot_join a b) (slot_join (slot_join a b) c) (slot-right a b) (slot-left (slot_join a b) c)) (slot-right (slot_join a b) c)))

-- a row with one slot joined to what it has at a location
pub joined-at : (places : List ℕ) (row new : List Slot) (location p : ℕ) (d x : Slot) → IsStrictlyIncreasing places → p < length places → length row ≡ length places → get_or places p 0 ≡ location
    → new ≡ set row p (slot_join (get_or row p d) x) → (l : ℕ) → store_of places new l ≡ slot_join (store_of places row l) (only_at location x l)
joined-at places row new location p d x rises low long at is l = by (which l location)
  where
    by : (l ≡ location) ⊎ (l ≢ location) → store_of places new l ≡ slot_join (store_of places row l) (only_at location x l)
    by (inl e) =
        let there : l ≡ get_or places p 0 = e ∙ sym at in
        ap (λ vs. store_of places vs l) is
        ∙ ap (λ k. store_of places (set row p (slot_join (get_or row p d) x)) k) there
        ∙ written-set_same (λ k. Nothing) places row p (slot_join (get_or row p d) x) rises low (omega (arith, low, long))
        ∙ ap (λ y. slot_join y x) (sym (written-at (λ k. Nothing) places row p d rises low (omega (arith, low, long))) ∙ ap (λ k. store_of places row k) (sym there))
        ∙ ap (λ b. slot_join (store_of places row l) (cond b x Nothing)) (sym (ap (λ k. nat_eq k location) e ∙ same_number location))
    by (inr e) =
        ap (λ vs. store_of places vs l) is
        ∙ written-set_other (λ k. Nothing) places row p (slot_join (get_or row p d) x) l low (λ same. e (same ∙ at))
        ∙ sym (join-nothing (store_of places row l))
        ∙ ap (λ b. slot_join (store_of places row l) (cond b x Nothing)) (sym (apart_numbers l location e))

pub joins-snoc : (f : Target → Slot) (xs : List Target) (x : Target) → joins f (xs ++ x ∷ []) ≡ slot_join (joins f xs) (f x)
joins-snoc f [] x = join-nothing (f x)
joins-snoc f (y ∷ xs) x = ap (λ v. slot_join (f y) v) (joins-snoc f xs x) ∙ sym (join-assoc (f y) (joins f xs) (f x))

-- one more target
pub hit-next : (hits : ℕ → ℕ → Bool) (slots : ℕ → Slot) (xs : List Target) (i : ℕ) (d : Target) (old now new : Slot) (l : ℕ) → i < length xs
    → now ≡ slot_join old (where_hit hits slots (take i xs) l) → new ≡ slot_join now (cond (hits (get_or xs i d).region l) (slots l) Nothing)
    → new ≡ slot_join old (where_hit hits slots (take (i + 1) xs) l)
hit-next hits slots xs i d old now new l low h g =
    let one : i + 1 ≡ suc i = omega arith in
    g ∙ ap (λ x. slot_join x (cond (hits (get_or xs i d).region l) (slots l) Nothing)) h
    ∙ join-assoc old (where_hit hits slots (take i xs) l) (cond (hits (get_or xs i d).region l) (slots l) Nothing)
    ∙ ap (λ x. slot_join old x) (sym (joins-snoc (λ x. cond (hits x.region l) (slots l) Nothing) (take i xs) (get_or xs i d)))
    ∙ ap (λ ts. slot_join old (where_hit hits slots ts l)) (sym (ap (λ n. take n xs) one ∙ take-suc xs i d low))

-- ---- the rule of strong updates, by how many targets there are

pub stored-none : (d : Destination) (slots : ℕ → Slot) (old new : Slot) (xs : List Target) (l : ℕ) → length xs ≡ 0 → new ≡ cond (may_hit d l) Nothing old → new ≡ slot_join (kept_if (kept_by d xs l) old) (where_hit d.hits slots xs l)
stored-none d slots old new [] l h g = g ∙ by (may_hit d l)
  where
    by : (b : Bool) → cond b Nothing old ≡ slot_join (kept_if (not b) old) Nothing
    by true = refl
    by false = sym (join-nothing old)
stored-none d slots old new (x ∷ xs) l h g = absurd (omega (arith, h))

pub stored-one : (d : Destination) (slots : ℕ → Slot) (old new : Slot) (xs : List Target) (e : Target) (l : ℕ) → length xs ≡ 1
    → new ≡ slot_join (kept_if (not (d.hits (get_or xs 0 e).region l && not (d.summary l))) old) (cond (d.hits (get_or xs 0 e).region l) (slots l) Nothing)
    → new ≡ slot_join (kept_if (kept_by d xs l) old) (where_hit d.hits slots xs l)
stored-one d slots old new [] e l h g = absurd (omega (arith, h))
stored-one d slots old new (x ∷ []) e l h g = g ∙ ap (λ y. slot_join (kept_if (not (d.hits x.region l && not (d.summary l))) old) y) (sym (join-nothing (cond (d.hits x.region l) (slots l) Nothing)))
stored-one d slots old new (x ∷ y ∷ xs) e l h g = absurd (omega (arith, h))

pub stored-many : (d : Destination) (slots : ℕ → Slot) (old new : Slot) (xs : List Target) (l : ℕ) → 1 < length xs → new ≡ slot_join old (where_hit d.hits slots xs l) → new ≡ slot_join (kept_if (kept_by d xs l) old) (where_hit d.hits slots xs l)
stored-many d slots old new [] l h g = absurd (omega (arith, h))
stored-many d slots old new (x ∷ []) l h g = absurd (omega (arith, h))
stored-many d slots old new (x ∷ y ∷ xs) l h g = g

-- ---- slots that are placed

slots-snoc : (ps : List ℕ) (xs : List Slot) (i d : ℕ) (e : Slot) (l : ℕ) → i < length ps → length xs ≡ length ps
    → slots_at (take (suc i) ps) (take (suc i) xs) l ≡ slot_join (slots_at (take i ps) (take i xs) l) (cond (nat_eq l (get_or ps i d)) (get_or xs i e) Nothing)
slots-snoc [] xs i d e l low long = absurd (omega arith)
slots-snoc (p ∷ ps) [] i d e l low long = absurd (omega (arith, long))
slots-snoc (p ∷ ps) (x ∷ xs) zero d e l low long = join-nothing (cond (nat_eq l p) x Nothing)
slots-snoc (p ∷ ps) (x ∷ xs) (suc i) d e l low long =
    ap (λ y. slot_join (cond (nat_eq l p) x Nothing) y) (slots-snoc ps xs i d e l (omega arith) (omega (arith, long)))
    ∙ sym (join-assoc (cond (nat_eq l p) x Nothing) (slots_at (take i ps) (take i xs) l) (cond (nat_eq l (get_or ps i d)) (get_or xs i e) Nothing))

pub slots-next : (ps : List ℕ) (xs : List Slot) (i d : ℕ) (e old now new : Slot) (l : ℕ) → i < length ps → length xs ≡ length ps
    → now ≡ slot_join old (slots_at (take i ps) (take i xs) l) → new ≡ slot_join now (cond (nat_eq l (get_or ps i d)) (get_or xs i e) Nothing)
    → new ≡ slot_join old (slots_at (take (i + 1) ps) (take (i + 1) xs) l)
slots-next ps xs i d e old now new l low long h g =
    let one : i + 1 ≡ suc i = omega arith in
    g ∙ ap (λ y. slot_join y (cond (nat_eq l (get_or ps i d)) (get_or xs i e) Nothing)) h
    ∙ join-assoc old (slots_at (take i ps) (take i xs) l) (cond (nat_eq l (get_or ps i d)) (get_or xs i e) Nothing)
    ∙ ap (λ y. slot_join old y) (sym (slots-snoc ps xs i d e l low long))
    ∙ ap (λ n. slot_join old (slots_at (take n ps) (take n xs) l)) (sym one)
