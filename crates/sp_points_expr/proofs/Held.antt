-- The lists of regions hold what the relation gives.
use Rattle.std.proofs.Common.{◌≡◌, ◌⊎◌, inl, inr, ℕ, ◌<◌, Bool, true, false, cond, ◌||◌, ◌&&◌, eqb, List, [], ◌∷◌, refl, sym, ap, ◌∙◌, subst, eqb-true}
use Rattle.std.specs.Prelude.{filter, flat_map, map}
use Rattle.std.proofs.lemmas.Bool.{false≢true}
use Rattle.std.proofs.lemmas.List.Folds.{list_any-append}
use Rattle.sp_ir.specs.Commands.{Expression, number, address, decay, read, convert, unary, binary, compare, move, distance, Lvalue, direct, through, field}
use Rattle.sp_ir.specs.Terrain.{Terrain}
use Rattle.sp_ir.specs.Denoted.{keeps_targets, member_region, element_region, matched_regions, regions_of, address_regions, cells_of}
use Rattle.sp_base_sets.specs.Sets.{has}
use Rattle.sp_base_sets.proofs.Members.{eqb-refl}
use Rattle.sp_base_sets.proofs.Images.{or-cases, or-left, or-right}
use Rattle.sp_points_expr.specs.Tables.{Table, Within}
use Rattle.sp_points_expr.specs.Given.{Gives, Denotes, Stores, is_matched}
use Rattle.sp_points_expr.specs.Low.{IsBelow}

pub and-both : (a b : Bool) → a ≡ true → b ≡ true → (a && b) ≡ true
and-both true b h k = k
and-both false b h k = absurd (false≢true h)

-- ---- lists

one_in : (x r : ℕ) → has r (x ∷ []) ≡ true → x ≡ r
one_in x r h = by (or-cases (eqb r x) false h)
  where
    by : (eqb r x ≡ true) ⊎ (false ≡ true) → x ≡ r
    by (inl e) = sym (eqb-true r x e)
    by (inr e) = absurd (false≢true e)

one_there : (x r : ℕ) → x ≡ r → has r (x ∷ []) ≡ true
one_there x r e = or-left (eqb r x) false (ap (λ k. eqb r k) e ∙ eqb-refl r)

flat_in : (f : ℕ → List ℕ) (xs : List ℕ) (r : ℕ) → has r (flat_map f xs) ≡ true → (x : ℕ) × (has x xs ≡ true) × (has r (f x) ≡ true)
flat_in f [] r h = absurd (false≢true h)
flat_in f (x ∷ xs) r h = by (or-cases (has r (f x)) (has r (flat_map f xs)) (sym (list_any-append (eqb r) (f x) (flat_map f xs)) ∙ h)) (λ g. flat_in f xs r g)
  where
    by : (has r (f x) ≡ true) ⊎ (has r (flat_map f xs) ≡ true) → (has r (flat_map f xs) ≡ true → (y : ℕ) × (has y xs ≡ true) × (has r (f y) ≡ true)) → (y : ℕ) × (has y (x ∷ xs) ≡ true) × (has r (f y) ≡ true)
    by (inl g) rest = (x, or-left (eqb x x) (has x xs) (eqb-refl x), g)
    by (inr g) rest = let one = rest g in (one.0, or-right (eqb one.0 x) (has one.0 xs) one.1, one.2)

flat_there : (f : ℕ → List ℕ) (xs : List ℕ) (x r : ℕ) → has x xs ≡ true → has r (f x) ≡ true → has r (flat_map f xs) ≡ true
flat_there f [] x r h g = absurd (false≢true h)
flat_there f (y ∷ ys) x r h g = list_any-append (eqb r) (f y) (flat_map f ys) ∙ by (or-cases (eqb x y) (has x ys) h) (λ k. flat_there f ys x r k g)
  where
    by : (eqb x y ≡ true) ⊎ (has x ys ≡ true) → (has x ys ≡ true → has r (flat_map f ys) ≡ true) → (has r (f y) || has r (flat_map f ys)) ≡ true
    by (inl e) rest = or-left (has r (f y)) (has r (flat_map f ys)) (subst (λ z. has r (f z) ≡ true) (eqb-true x y e) g)
    by (inr k) rest = or-right (has r (f y)) (has r (flat_map f ys)) (rest k)

map_in : (f : ℕ → ℕ) (xs : List ℕ) (r : ℕ) → has r (map f xs) ≡ true → (x : ℕ) × (has x xs ≡ true) × (f x ≡ r)
map_in f [] r h = absurd (false≢true h)
map_in f (x ∷ xs) r h = by (or-cases (eqb r (f x)) (has r (map f xs)) h) (λ g. map_in f xs r g)
  where
    by : (eqb r (f x) ≡ true) ⊎ (has r (map f xs) ≡ true) → (has r (map f xs) ≡ true → (y : ℕ) × (has y xs ≡ true) × (f y ≡ r)) → (y : ℕ) × (has y (x ∷ xs) ≡ true) × (f y ≡ r)
    by (inl e) rest = (x, or-left (eqb x x) (has x xs) (eqb-refl x), sym (eqb-true r (f x) e))
    by (inr g) rest = let one = rest g in (one.0, or-right (eqb one.0 x) (has one.0 xs) one.1, one.2)

map_there : (f : ℕ → ℕ) (xs : List ℕ) (x r : ℕ) → has x xs ≡ true → f x ≡ r → has r (map f xs) ≡ true
map_there f [] x r h e = absurd (false≢true h)
map_there f (y ∷ ys) x r h e = by (or-cases (eqb x y) (has x ys) h) (λ k. map_there f ys x r k e)
  where
    by : (eqb x y ≡ true) ⊎ (has x ys ≡ true) → (has x ys ≡ true → has r (map f ys) ≡ true) → (eqb r (f y) || has r (map f ys)) ≡ true
    by (inl same) rest = or-left (eqb r (f y)) (has r (map f ys)) (ap (λ k. eqb r k) (ap f (sym (eqb-true x y same)) ∙ e) ∙ eqb-refl r)
    by (inr k) rest = or-right (eqb r (f y)) (has r (map f ys)) (rest k)

filter_in : (test : ℕ → Bool) (xs : List ℕ) (r : ℕ) → has r (filter test xs) ≡ true → (has r xs ≡ true) × (test r ≡ true)
filter_in test [] r h = absurd (false≢true h)
filter_in test (x ∷ xs) r h = by (test x) refl h (λ g. filter_in test xs r g)
  where
    by : (b : Bool) → test x ≡ b → has r (cond b (x ∷ filter test xs) (filter test xs)) ≡ true → (has r (filter test xs) ≡ true → (has r xs ≡ true) × (test r ≡ true)) → ((eqb r x || has r xs) ≡ true) × (test r ≡ true)
    by false e h rest = let one = rest h in (or-right (eqb r x) (has r xs) one.0, one.1)
    by true e h rest = deeper (or-cases (eqb r x) (has r (filter test xs)) h)
      where
        deeper : (eqb r x ≡ true) ⊎ (has r (filter test xs) ≡ true) → ((eqb r x || has r xs) ≡ true) × (test r ≡ true)
        deeper (inl same) = (or-left (eqb r x) (has r xs) same, ap test (eqb-true r x same) ∙ e)
        deeper (inr g) = let one = rest g in (or-right (eqb r x) (has r xs) one.0, one.1)

filter_there : (test : ℕ → Bool) (xs : List ℕ) (r : ℕ) → has r xs ≡ true → test r ≡ true → has r (filter test xs) ≡ true
filter_there test [] r h k = absurd (false≢true h)
filter_there test (x ∷ xs) r h k = by (test x) refl (or-cases (eqb r x) (has r xs) h) (λ g. filter_there test xs r g k)
  where
    by : (b : Bool) → test x ≡ b → (eqb r x ≡ true) ⊎ (has r xs ≡ true) → (has r xs ≡ true → has r (filter test xs) ≡ true) → has r (cond b (x ∷ filter test xs) (filter test xs)) ≡ true
    by true e (inl same) rest = or-left (eqb r x) (has r (filter test xs)) same
    by true e (inr g) rest = or-right (eqb r x) (has r (filter test xs)) (rest g)
    by false e (inl same) rest = absurd (false≢true (sym e ∙ sym (ap test (eqb-true r x same)) ∙ k))
    by false e (inr g) rest = rest g

-- ---- both ways

module _ (g : Terrain) (t : Table) where
  matched_in : (l : Lvalue) (xs : List ℕ) (r : ℕ) → has r (matched_regions g l xs) ≡ true → (has r xs ≡ true) × (is_matched g l r ≡ true)
  matched_in (direct o of) xs r h = (h, refl)
  matched_in (through e of at) xs r h = filter_in (λ q. g.accepts q of) xs r h
  matched_in (field l k of) xs r h = (h, refl)

  matched_there : (l : Lvalue) (xs : List ℕ) (r : ℕ) → has r xs ≡ true → is_matched g l r ≡ true → has r (matched_regions g l xs) ≡ true
  matched_there (direct o of) xs r h m = h
  matched_there (through e of at) xs r h m = filter_there (λ q. g.accepts q of) xs r h m
  matched_there (field l k of) xs r h m = h

  mutual
    pub gives_from : (e : Expression) (r : ℕ) → has r (regions_of g t e) ≡ true → Gives g t e r
    gives_from (number z k) r h = absurd (false≢true h)
    gives_from (address l) r h = denotes_from l r h
    gives_from (decay l) r h =
        let one = map_in (element_region g) (matched_regions g l (address_regions g t l)) r h in
        let two = matched_in l (address_regions g t l) one.0 one.1 in
        (one.0, denotes_from l one.0 two.0, two.1, one.2)
    gives_from (read l) r h =
        let one = flat_in t (matched_regions g l (address_regions g t l)) r h in
        let two = matched_in l (address_regions g t l) one.0 one.1 in
        (one.0, denotes_from l one.0 two.0, two.1, one.2)
    gives_from (convert to e) r h = by (keeps_targets to) h (λ k. gives_from e r k)
      where
        by : (b : Bool) → has r (cond b (regions_of g t e) []) ≡ true → (has r (regions_of g t e) ≡ true → Gives g t e r) → (b ≡ true) × Gives g t e r
        by true h rest = (refl, rest h)
        by false h rest = absurd (false≢true h)
    gives_from (unary s k e) r h = absurd (false≢true h)
    gives_from (binary op k e f at) r h = absurd (false≢true h)
    gives_from (compare op e f) r h = absurd (false≢true h)
    gives_from (move e f back size) r h = gives_from e r h
    gives_from (distance e f size) r h = absurd (false≢true h)

    pub denotes_from : (l : Lvalue) (r : ℕ) → has r (address_regions g t l) ≡ true → Denotes g t l r
    denotes_from (direct o of) r h = one_in (g.root o) r h
    denotes_from (through e of at) r h = gives_from e r h
    denotes_from (field l k of) r h =
        let one = map_in (member_region g k) (matched_regions g l (address_regions g t l)) r h in
        let two = matched_in l (address_regions g t l) one.0 one.1 in
        (one.0, denotes_from l one.0 two.0, two.1, one.2)

  mutual
    pub gives_to : (e : Expression) (r : ℕ) → Gives g t e r → has r (regions_of g t e) ≡ true
    gives_to (number z k) r h = absurd h
    gives_to (address l) r h = denotes_to l r h
    gives_to (decay l) r (q, h, m, s) = map_there (element_region g) (matched_regions g l (address_regions g t l)) q r (matched_there l (address_regions g t l) q (denotes_to l q h) m) s
    gives_to (read l) r (q, h, m, s) = flat_there t (matched_regions g l (address_regions g t l)) q r (matched_there l (address_regions g t l) q (denotes_to l q h) m) s
    gives_to (convert to e) r (k, h) = subst (λ b. has r (cond b (regions_of g t e) []) ≡ true) (sym k) (gives_to e r h)
    gives_to (unary s k e) r h = absurd h
    gives_to (binary op k e f at) r h = absurd h
    gives_to (compare op e f) r h = absurd h
    gives_to (move e f back size) r h = gives_to e r h
    gives_to (distance e f size) r h = absurd h

    pub denotes_to : (l : Lvalue) (r : ℕ) → Denotes g t l r → has r (address_regions g t l) ≡ true
    denotes_to (direct o of) r h = one_there (g.root o) r h
    denotes_to (through e of at) r h = gives_to e r h
    denotes_to (field l k of) r (q, h, m, s) = map_there (member_region g k) (matched_regions g l (address_regions g t l)) q r (matched_there l (address_regions g t l) q (denotes_to l q h) m) s

  pub stores_from : (l : Lvalue) (c : ℕ) → has c (cells_of g t l) ≡ true → Stores g t l c
  stores_from l c h = let two = matched_in l (address_regions g t l) c h in (denotes_from l c two.0, two.1)

  pub stores_to : (l : Lvalue) (c : ℕ) → Stores g t l c → has c (cells_of g t l) ≡ true
  stores_to l c (h, m) = matched_there l (address_regions g t l) c (denotes_to l c h) m

-- ---- more in the table, more given

module _ (g : Terrain) (t u : Table) (within : Within t u) where
  mutual
    gives_more : (e : Expression) (r : ℕ) → Gives g t e r → Gives g u e r
    gives_more (number z k) r h = h
    gives_more (address l) r h = denotes_more l r h
    gives_more (decay l) r (q, h, m, s) = (q, denotes_more l q h, m, s)
    gives_more (read l) r (c, h, m, s) = (c, denotes_more l c h, m, within c r s)
    gives_more (convert to e) r (k, h) = (k, gives_more e r h)
    gives_more (unary s k e) r h = h
    gives_more (binary op k e f at) r h = h
    gives_more (compare op e f) r h = h
    gives_more (move e f back size) r h = gives_more e r h
    gives_more (distance e f size) r h = h

    denotes_more : (l : Lvalue) (r : ℕ) → Denotes g t l r → Denotes g u l r
    denotes_more (direct o of) r h = h
    denotes_more (through e of at) r h = gives_more e r h
    denotes_more (field l k of) r (q, h, m, s) = (q, denotes_more l q h, m, s)

  pub regions_more : (e : Expression) (r : ℕ) → has r (regions_of g t e) ≡ true → has r (regions_of g u e) ≡ true
  regions_more e r h = gives_to g u e r (gives_more e r (gives_from g t e r h))

  pub cells_more : (l : Lvalue) (c : ℕ) → has c (cells_of g t l) ≡ true → has c (cells_of g u l) ≡ true
  cells_more l c h = let one = stores_from g t l c h in stores_to g u l c (denotes_more l c one.0, one.1)

-- ---- what is given is there

module _ (g : Terrain) (height : ℕ) (below : IsBelow height g) (t : Table) (low : (c r : ℕ) → has r (t c) ≡ true → r < height) where
  step_low : (b : Bool) (q s r : ℕ) → q < height → s < height → cond b q s ≡ r → r < height
  step_low true q s r h k e = subst (λ n. n < height) e h
  step_low false q s r h k e = subst (λ n. n < height) e k

  mutual
    gives_low : (e : Expression) (r : ℕ) → Gives g t e r → r < height
    gives_low (number z k) r h = absurd h
    gives_low (address l) r h = denotes_low l r h
    gives_low (decay l) r (q, h, m, s) = step_low (g.collapsed q) q (g.element q) r (denotes_low l q h) (below.element q) s
    gives_low (read l) r (c, h, m, s) = low c r s
    gives_low (convert to e) r (k, h) = gives_low e r h
    gives_low (unary s k e) r h = absurd h
    gives_low (binary op k e f at) r h = absurd h
    gives_low (compare op e f) r h = absurd h
    gives_low (move e f back size) r h = gives_low e r h
    gives_low (distance e f size) r h = absurd h

    denotes_low : (l : Lvalue) (r : ℕ) → Denotes g t l r → r < height
    denotes_low (direct o of) r h = subst (λ n. n < height) h (below.root o)
    denotes_low (through e of at) r h = gives_low e r h
    denotes_low (field l k of) r (q, h, m, s) = step_low (g.collapsed q) q (g.member q k) r (denotes_low l q h) (below.member q k) s

  pub regions_low : (e : Expression) (r : ℕ) → has r (regions_of g t e) ≡ true → r < height
  regions_low e r h = gives_low e r (gives_from g t e r h)

  pub cells_low : (l : Lvalue) (c : ℕ) → has c (cells_of g t l) ≡ true → c < height
  cells_low l c h = denotes_low l c (stores_from g t l c h).0
