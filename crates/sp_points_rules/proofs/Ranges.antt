-- Where the regions of a formed program are.
use Rattle.std.proofs.Common.{◌≡◌, ℕ, zero, suc, ◌+◌, ◌<◌, Bool, true, false, cond, List, [], ◌∷◌, ◌++◌, length, get_or, Option, Some, None, refl, sym, ap, ◌∙◌, subst, arith, eqb-true}
use Rattle.std.specs.Prelude.{slice_get, unwrap_or, nat_eq}
use Rattle.std.specs.Option.{option_eq}
use Rattle.std.proofs.lemmas.Bool.{false≢true}
use Rattle.std.proofs.lemmas.List.Quantifiers.{position-Some}
use Rattle.sp_ir.specs.declared.region.Step.{Step}
use Rattle.sp_ir.specs.declared.region.Step.TheVariants.{Field, Element}
use Rattle.sp_ir.specs.declared.program.ObjectKind.TheVariants.{Function}
use Rattle.sp_ir.specs.Paths.{same_path}
use Rattle.sp_ir.specs.Regions.{Region, number_at, child_at, child_of, stands_at, is_cell_at, is_cell_region}
use Rattle.sp_ir.specs.Programs.{Lowered, Object, Code}
use Rattle.sp_ir.specs.Terrain.{terrain_of, is_bytes}
use Rattle.sp_ir.specs.Shapes.{Shape, Shapes, scalar, floating_shape, union_of, array_of, struct_of, no_shapes, next_shape, is_floating_shape, regions, member_regions}
use Rattle.sp_ir.specs.Formed.{root_count, Table as Around, table_of, IsFormed, HasRegions, of_function, of_no_type, of_no_layout, of_shape, HaveRegions, no_regions, next_regions}
use Rattle.sp_base_sets.specs.Sets.{has}
use Rattle.sp_base_sets.specs.Reached.{row}
use Rattle.sp_points_expr.proofs.Adding.{parts}
use Rattle.sp_points_expr.specs.Low.{IsBelow}
use Rattle.sp_points_rules.specs.Paths.{step_to, descend, between, reaches, object_in, object_at}
use Rattle.sp_points_rules.proofs.Cases.{there_low, some_same}

pub there_element : {A : Type 0} (xs : List A) (i : ℕ) (d : A) → i < length xs → slice_get xs i ≡ Some (get_or xs i d)
there_element [] i d low = absurd (omega arith)
there_element (x ∷ xs) zero d low = refl
there_element (x ∷ xs) (suc i) d low = there_element xs i d (omega arith)

-- ---- numbers of regions

pub number_low : (rs : List Region) (o : ℕ) (path : List Step) (n : ℕ) → number_at rs o path ≡ Some n → n < length rs
number_low [] o path n h = absurd (cc)
number_low (r ∷ rs) o path n h = (position-Some (stands_at o path) (r ∷ rs) n r h).0

number_object : (rs : List Region) (o : ℕ) (path : List Step) (n : ℕ) → number_at rs o path ≡ Some n → object_in (slice_get rs n) ≡ o
number_object [] o path n h = absurd (cc)
number_object (r ∷ rs) o path n h =
    let found = position-Some (stands_at o path) (r ∷ rs) n r h in
    let d = get_or (r ∷ rs) n r in
    ap (λ x. object_in x) (there_element (r ∷ rs) n r found.0) ∙ sym (eqb-true o d.object (parts (nat_eq o d.object) (same_path path d.path) found.1).0)

-- ---- every region of a list

abbrev Each : (Region → Type 0) → List Region → Type 0
Each P [] = Unit {0}
Each P (r ∷ rs) = P r × Each P rs

each-append : (P : Region → Type 0) (rs ss : List Region) → Each P rs → Each P ss → Each P (rs ++ ss)
each-append P [] ss h k = k
each-append P (r ∷ rs) ss h k = (h.0, each-append P rs ss h.1 k)

each-map : (P Q : Region → Type 0) → ((r : Region) → P r → Q r) → (rs : List Region) → Each P rs → Each Q rs
each-map P Q f [] h = tt
each-map P Q f (r ∷ rs) h = (f r h.0, each-map P Q f rs h.1)

each-there : (P : Region → Type 0) (rs : List Region) (i : ℕ) (r : Region) → Each P rs → slice_get rs i ≡ Some r → P r
each-there P [] i r h e = absurd (cc)
each-there P (s ∷ rs) zero r h e = subst P (some_same e) h.0
each-there P (s ∷ rs) (suc i) r h e = each-there P rs i r h.1 e

mutual
  shape_objects : (o : ℕ) (path : List Step) (n : Option ℕ) (s : Shape) → Each (λ r. r.object ≡ o) (regions o path n s)
  shape_objects o path n (scalar t size) = (refl, tt)
  shape_objects o path n (floating_shape t size) = (refl, tt)
  shape_objects o path n (union_of size first) = (refl, tt)
  shape_objects o path n (array_of t size inner k) = (refl, shape_objects o (path ++ Element ∷ []) (Some k) inner)
  shape_objects o path n (struct_of t size ms) = (refl, member_objects o path 0 ms)

  member_objects : (o : ℕ) (path : List Step) (k : ℕ) (ms : Shapes) → Each (λ r. r.object ≡ o) (member_regions o path k ms)
  member_objects o path k no_shapes = tt
  member_objects o path k (next_shape m ms) =
      let inside : List Region = regions o (path ++ Field k ∷ []) (Some 1) m in
      each-append (λ r. r.object ≡ o) (cond (is_floating_shape m) [] inside) (member_regions o path (k + 1) ms)
      (unless (is_floating_shape m) inside (shape_objects o (path ++ Field k ∷ []) (Some 1) m)) (member_objects o path (k + 1) ms)
    where
      unless : (b : Bool) (rs : List Region) → Each (λ r. r.object ≡ o) rs → Each (λ r. r.object ≡ o) (cond b [] rs)
      unless true rs h = tt
      unless false rs h = h

module _ (p : Around) where
  its_regions : {n : ℕ} {o : Object} {rs : List Region} → HasRegions p n o rs → Each (λ r. r.object ≡ n) rs
  its_regions (of_function k t) = (refl, tt)
  its_regions (of_no_type t) = (refl, tt)
  its_regions (of_no_layout f t z) = (refl, tt)
  its_regions {n} {o} (of_shape {s = s} f t z h) = shape_objects n [] (root_count o.kind) s

  their_regions : {n : ℕ} {os : List Object} {rs : List Region} → HaveRegions p n os rs → Each (λ r. r.object < n + length os) rs
  their_regions no_regions = tt
  their_regions {n} (next_regions {o = o} {os = os} {rs = rs} {more = more} one others) =
      each-append (λ r. r.object < n + length (o ∷ os)) rs more
      (each-map (λ r. r.object ≡ n) (λ r. r.object < n + length (o ∷ os)) (λ r e. omega (arith, e)) rs (its_regions one))
      (each-map (λ r. r.object < (n + 1) + length os) (λ r. r.object < n + length (o ∷ os)) (λ r e. omega (arith, e)) more (their_regions others))

  -- a function has a region
  function_region : {n : ℕ} {o : Object} {rs : List Region} (k : ℕ) → HasRegions p n o rs → o.kind ≡ Function k → 0 < length rs
  function_region k (of_function l t) e = omega arith
  function_region k (of_no_type t) e = omega arith
  function_region k (of_no_layout f t z) e = omega arith
  function_region k (of_shape f t z h) e = absurd (f k e)

  some_region : {n : ℕ} {os : List Object} {rs : List Region} (i k : ℕ) (o : Object) → HaveRegions p n os rs → slice_get os i ≡ Some o → o.kind ≡ Function k → 0 < length rs
  some_region i k o no_regions h e = absurd (cc)
  some_region zero k o (next_regions {o = x} {rs = rs} {more = more} one others) h e =
      let here = function_region k one (ap (λ y. y.kind) (some_same h) ∙ e) in omega (arith, here, length-both rs more)
    where
      length-both : (xs ys : List Region) → length (xs ++ ys) ≡ length xs + length ys
      length-both [] ys = omega arith
      length-both (y ∷ xs) ys = omega (arith, length-both xs ys)
  some_region (suc i) k o (next_regions {o = x} {rs = rs} {more = more} one others) h e =
      let there = some_region i k o others h e in omega (arith, there, length-both rs more)
    where
      length-both : (xs ys : List Region) → length (xs ++ ys) ≡ length xs + length ys
      length-both [] ys = omega arith
      length-both (y ∷ xs) ys = omega (arith, length-both xs ys)

module _ (p : Lowered) (formed : IsFormed p) where
  pub regions_there : 0 < length p.regions
  regions_there =
      let code = main_code p.functions p.main formed.main in
      let object = formed.codes p.main code.0 code.1 in
      some_region (table_of p) code.0.object object.3.0 object.0 formed.regions object.1 object.3.1
    where
      main_code : (cs : List Code) (m : ℕ) → m < length cs → (d : Code) × (slice_get cs m ≡ Some d)
      main_code [] m low = absurd (omega arith)
      main_code (x ∷ cs) zero low = (x, refl)
      main_code (x ∷ cs) (suc m) low = main_code cs m (omega arith)

  or_none : (o : Option ℕ) → ((n : ℕ) → o ≡ Some n → n < length p.regions) → unwrap_or o 0 < length p.regions
  or_none None h = regions_there
  or_none (Some n) h = h n refl

  child_low : (o : Option Region) (s : Step) (n : ℕ) → child_of p.regions o s ≡ Some n → n < length p.regions
  child_low None s n h = absurd (cc)
  child_low (Some r) s n h = number_low p.regions r.object (r.path ++ s ∷ []) n h

  pub is_below : IsBelow (length p.regions) (terrain_of p)
  is_below = record {
    root = λ o. or_none (number_at p.regions o []) (λ n h. number_low p.regions o [] n h);
    member = λ r k. or_none (child_at p.regions r (Field k)) (λ n h. child_low (slice_get p.regions r) (Field k) n h);
    element = λ r. or_none (child_at p.regions r Element) (λ n h. child_low (slice_get p.regions r) Element n h);
  }

  object_low : (i : ℕ) (r : Region) → slice_get p.regions i ≡ Some r → r.object < length p.objects
  object_low i r h = subst (λ n. r.object < n) (omega (arith)) (each-there (λ s. s.object < 0 + length p.objects) p.regions i r (their_regions (table_of p) formed.regions) h)

-- ---- paths stay in their object

pub descend-none : (p : Lowered) (path : List Step) → descend p None path ≡ None
descend-none p [] = refl
descend-none p (s ∷ path) = descend-none p path

step_object : (p : Lowered) (q : ℕ) (s : Step) (n : ℕ) → step_to p q s ≡ Some n → object_at p n ≡ object_at p q
step_object p q s n h = by (is_bytes (slice_get p.regions q)) h
  where
    child : (o : Option Region) → child_of p.regions o s ≡ Some n → object_at p n ≡ object_in o
    child None g = absurd (cc)
    child (Some r) g = number_object p.regions r.object (r.path ++ s ∷ []) n g

    by : (b : Bool) → cond b (Some q) (child_at p.regions q s) ≡ Some n → object_at p n ≡ object_at p q
    by true g = ap (λ m. object_at p m) (sym (some_same g))
    by false g = child (slice_get p.regions q) g

pub descend_object : (p : Lowered) (q c : ℕ) (path : List Step) → descend p (Some q) path ≡ Some c → object_at p c ≡ object_at p q
descend_object p q c [] h = ap (λ m. object_at p m) (sym (some_same h))
descend_object p q c (s ∷ path) h = by (step_to p q s) refl h (λ n g. descend_object p n c path g)
  where
    by : (o : Option ℕ) → step_to p q s ≡ o → descend p o path ≡ Some c → ((n : ℕ) → descend p (Some n) path ≡ Some c → object_at p c ≡ object_at p n) → object_at p c ≡ object_at p q
    by None e g rest = absurd (none-some (sym (descend-none p path) ∙ g))
      where
        none-some : {a : ℕ} → None ≡ Some a → ⊥
        none-some x = cc
    by (Some n) e g rest = rest n g ∙ step_object p q s n e

pub cell_low : (p : Lowered) (c : ℕ) → is_cell_at p.regions c ≡ true → c < length p.regions
cell_low p c h = by (slice_get p.regions c) refl h
  where
    by : (o : Option Region) → slice_get p.regions c ≡ o → is_cell_region o ≡ true → c < length p.regions
    by None e g = absurd (false≢true g)
    by (Some r) e g = there_low p.regions c r e

pub same_number : (o : Option ℕ) (c : ℕ) → option_eq nat_eq o (Some c) ≡ true → o ≡ Some c
same_number None c h = absurd (false≢true h)
same_number (Some n) c h = ap (λ x. Some x) (eqb-true n c h)

pub reached_low : (p : Lowered) (q c : ℕ) → reaches p q c ≡ true → c < length p.regions
reached_low p q c h = cell_low p c (parts (is_cell_at p.regions c) (option_eq nat_eq (descend p (Some q) (between p q c)) (Some c)) h).0

pub all_groups : (p : Lowered) (formed : IsFormed p) (groups : List (List ℕ)) → length groups ≡ length p.objects → ((k : ℕ) → k < length p.regions → is_cell_at p.regions k ≡ true → object_at p k < length groups → has k (row groups (object_at p k)) ≡ true)
    → (q c : ℕ) → reaches p q c ≡ true → has c (row groups (object_at p q)) ≡ true
all_groups p formed groups long there q c h =
    let two = parts (is_cell_at p.regions c) (option_eq nat_eq (descend p (Some q) (between p q c)) (Some c)) h in
    let low = cell_low p c two.0 in
    let same = descend_object p q c (between p q c) (same_number (descend p (Some q) (between p q c)) c two.1) in
    subst (λ o. has c (row groups o) ≡ true) same (there c low two.0 (by (slice_get p.regions c) refl low))
  where
    past : (rs : List Region) (n : ℕ) → n < length rs → slice_get rs n ≡ None → ⊥
    past [] n low e = omega (arith, low)
    past (r ∷ rs) zero low e = cc
    past (r ∷ rs) (suc n) low e = past rs n (omega (arith, low)) e

    by : (o : Option Region) → slice_get p.regions c ≡ o → c < length p.regions → object_in o < length groups
    by None e low = absurd (past p.regions c low e)
    by (Some r) e low = let below = object_low p formed c r e in omega (arith, below, long)
