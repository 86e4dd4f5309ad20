-- The rows that are listed.
use Rattle.std.proofs.Common.{◌≡◌, ◌⊎◌, inl, inr, ℕ, zero, suc, ◌+◌, ◌-◌, ◌^◌, ◌<◌, ◌≤◌, Bool, true, false, ◌&&◌, ◌||◌, cond, eqb, leb, List, [], ◌∷◌, ◌++◌, length, get_or, filter, refl, sym, ap, ◌∙◌, arith, append_assoc, length-append}
use Rattle.std.specs.List.{All}
use Rattle.std.proofs.lemmas.Bool.{false≢true, cases_lt, and_from, and_left, and_right, and_parts, or_cases, or_left, or_right, eq-eqb, eqb-true, le-leb, lt-leb, leb-true, cond-true, cond-false}
use Rattle.std.proofs.lemmas.List.{get_or_append_left, get_or-append_right}
use Rattle.std.proofs.lemmas.List.Elements.{filter-append}
use Rattle.std.proofs.lemmas.List.Folds.{list_any-append, list_any_at}
use Rattle.std.proofs.lemmas.List.Kept.{AllPairs-filter}
use Rattle.sp_bdd.specs.declared.listing.Span.{Span}
use Rattle.sp_bdd.specs.declared.manager.Bdd.{Bdd}
use Rattle.sp_bdd.specs.Table.{Table, diagram}
use Rattle.sp_bdd.specs.Diagram.{Diagram, End, Test, holds, height, IsReduced}
use Rattle.sp_bdd.specs.Ascending.{has, Ascends, AreRows}
use Rattle.sp_bdd.specs.inner.Made.{low_at, high_at}
use Rattle.sp_bdd.specs.Listed.{listed, is_within}
use Rattle.sp_bdd.proofs.Making.{power, below, above, halves, parts_of}

-- a row of a diagram, counted from a base
pub record IsRowOf (v : ℕ) (d : Diagram) (base row : ℕ) : Type 0 where
  pub rest : ℕ
  pub low : rest < 2 ^ v
  pub is : row ≡ rest + base
  pub held : holds d rest ≡ true

pub listed_are : (v : ℕ) (d : Diagram) (base row : ℕ) → IsReduced d → height d ≤ v → has row (listed v d base) ≡ true → IsRowOf v d base row
unfolding listed
listed_are zero (End true) base row r low h = elim (or_cases (eqb row base) false h) [
  | inl e ↦ record { rest = 0; low = omega arith; is = omega (arith, eqb-true row base e); held = refl }
  | inr e ↦ absurd (false≢true e)
]
listed_are zero (End false) base row r low h = absurd (false≢true h)
listed_are zero (Test w l k) base row r low h = absurd (false≢true h)
listed_are (suc v) d base row r low h =
    let p = parts_of v d r low in
    elim (or_cases (has row (listed v (low_at v d) base)) (has row (listed v (high_at v d) (base + 2 ^ v))) (sym (list_any-append (eqb row) (listed v (low_at v d) base) (listed v (high_at v d) (base + 2 ^ v))) ∙ h)) [
      | inl e ↦
          let one = listed_are v (low_at v d) base row p.low_reduced p.low_under e in
          record { rest = one.rest; low = omega (arith, one.low, power v); is = one.is; held = p.below one.rest one.low ∙ one.held }
      | inr e ↦
          let one = listed_are v (high_at v d) (base + 2 ^ v) row p.high_reduced p.high_under e in
          record { rest = one.rest + 2 ^ v; low = omega (arith, one.low, power v); is = omega (arith, one.is); held = p.above one.rest one.low ∙ one.held }
    ]

pub are_listed : (v : ℕ) (d : Diagram) (base rest : ℕ) → IsReduced d → height d ≤ v → rest < 2 ^ v → holds d rest ≡ true → has (rest + base) (listed v d base) ≡ true
unfolding listed
are_listed zero (End true) base rest r low small held = or_left (eqb (rest + base) base) false (eq-eqb (rest + base) base (omega arith))
are_listed zero (End false) base rest r low small held = absurd (false≢true held)
are_listed zero (Test w l k) base rest r low small held = absurd (omega arith)
are_listed (suc v) d base rest r low small held =
    let p = parts_of v d r low in
    let lows = listed v (low_at v d) base in
    let highs = listed v (high_at v d) (base + 2 ^ v) in
    elim (halves v rest small) [
      | below under ↦
          let one = are_listed v (low_at v d) base rest p.low_reduced p.low_under under (sym (p.below rest under) ∙ held) in
          list_any-append (eqb (rest + base)) lows highs ∙ or_left (has (rest + base) lows) (has (rest + base) highs) one
      | above less under e ↦
          let one = are_listed v (high_at v d) (base + 2 ^ v) less p.high_reduced p.high_under under (sym (p.above less under) ∙ sym (ap (holds d) e) ∙ held) in
          let turned : less + (base + 2 ^ v) ≡ rest + base = omega (arith, e) in
          list_any-append (eqb (rest + base)) lows highs ∙ or_right (has (rest + base) lows) (has (rest + base) highs) (sym (ap (λ x. has x highs) turned) ∙ one)
    ]

-- what is listed lies within the bits
pub listed_from : (v : ℕ) (d : Diagram) (base : ℕ) → IsReduced d → height d ≤ v → All (λ row. base ≤ row) (listed v d base)
listed_from v d base r low k e h =
    let one = listed_are v d base (get_or (listed v d base) k e) r low (list_any_at (eqb (get_or (listed v d base) k e)) (listed v d base) k e h (eq-eqb _ _ refl)) in
    omega (arith, one.is)

pub listed_to : (v : ℕ) (d : Diagram) (base : ℕ) → IsReduced d → height d ≤ v → All (λ row. row < base + 2 ^ v) (listed v d base)
listed_to v d base r low k e h =
    let one = listed_are v d base (get_or (listed v d base) k e) r low (list_any_at (eqb (get_or (listed v d base) k e)) (listed v d base) k e h (eq-eqb _ _ refl)) in
    omega (arith, one.is, one.low)

ascends-append : (xs ys : List ℕ) (bound : ℕ) → Ascends xs → Ascends ys → All (λ x. x < bound) xs → All (λ y. bound ≤ y) ys → Ascends (xs ++ ys)
ascends-append xs ys bound a b under over i j d less low = by (cases_lt i (length xs)) (cases_lt j (length xs))
  where
    by : (i < length xs) ⊎ (length xs ≤ i) → (j < length xs) ⊎ (length xs ≤ j) → get_or (xs ++ ys) i d < get_or (xs ++ ys) j d
    by (inl p) (inl q) = omega (arith, a i j d less q, get_or_append_left xs ys d i p, get_or_append_left xs ys d j q)
    by (inl p) (inr q) =
        omega (arith, under i d p, over (j - length xs) d (omega (arith, length-append xs ys)), get_or_append_left xs ys d i p, get_or-append_right xs ys (length xs) j d refl q)
    by (inr p) (inl q) = absurd (omega arith)
    by (inr p) (inr q) =
        omega (arith, b (i - length xs) (j - length xs) d (omega arith) (omega (arith, length-append xs ys)), get_or-append_right xs ys (length xs) i d refl p, get_or-append_right xs ys (length xs) j d refl q)

pub listed_ascends : (v : ℕ) (d : Diagram) (base : ℕ) → IsReduced d → height d ≤ v → Ascends (listed v d base)
unfolding listed
listed_ascends zero (End true) base r low = λ i j d less h. absurd (omega arith)
listed_ascends zero (End false) base r low = λ i j d less h. absurd (omega arith)
listed_ascends zero (Test w l k) base r low = λ i j d less h. absurd (omega arith)
listed_ascends (suc v) d base r low =
    let p = parts_of v d r low in
    ascends-append (listed v (low_at v d) base) (listed v (high_at v d) (base + 2 ^ v)) (base + 2 ^ v)
    (listed_ascends v (low_at v d) base p.low_reduced p.low_under) (listed_ascends v (high_at v d) (base + 2 ^ v) p.high_reduced p.high_under)
    (listed_to v (low_at v d) base p.low_reduced p.low_under) (listed_from v (high_at v d) (base + 2 ^ v) p.high_reduced p.high_under)

-- a filter by a test of rows
filter-step : (b e h pass : Bool) (rest : List ℕ) (x row : ℕ) → eqb row x ≡ e → has row rest ≡ (h && pass) → (e ≡ true → pass ≡ b) → has row (cond b (x ∷ rest) rest) ≡ ((e || h) && pass)
filter-step true true h pass rest x row q f w = or_left (eqb row x) (has row rest) q ∙ sym (w refl)
filter-step true false h pass rest x row q f w = ap (λ b. b || has row rest) q ∙ f
filter-step false true h pass rest x row q f w = f ∙ and_right h pass (w refl) ∙ sym (w refl)
filter-step false false h pass rest x row q f w = f

has-filter : (p : ℕ → Bool) (rows : List ℕ) (row : ℕ) → has row (filter p rows) ≡ (has row rows && p row)
has-filter p [] row = refl
has-filter p (x ∷ xs) row = filter-step (p x) (eqb row x) (has row xs) (p row) (filter p xs) x row refl (has-filter p xs row) (λ e. ap p (eqb-true row x e))

-- nothing passes
pub filter-none : (p : ℕ → Bool) (rows : List ℕ) → All (λ row. p row ≡ false) rows → filter p rows ≡ []
filter-none p [] none = refl
filter-none p (x ∷ xs) none = cond-false (p x) (x ∷ filter p xs) (filter p xs) (none 0 x (omega arith)) ∙ filter-none p xs (λ k d low. none (suc k) d (omega arith))

pub listed_none : (v base : ℕ) → listed v (End false) base ≡ []
unfolding listed
listed_none zero base = refl
listed_none (suc v) base = ap (λ xs. xs ++ listed v (End false) (base + 2 ^ v)) (listed_none v base) ∙ listed_none v (base + 2 ^ v)

outside : (span : Span) (row : ℕ) → (row < span.first) ⊎ (span.last < row) → is_within span.first span.last row ≡ false
outside span row (inl less) = and_left (leb span.first row) (leb row span.last) (lt-leb span.first row less)
outside span row (inr more) = and_right (leb span.first row) (leb row span.last) (lt-leb row span.last more)

pub inside : (span : Span) (row : ℕ) → span.first ≤ row → row ≤ span.last → is_within span.first span.last row ≡ true
inside span row from to = and_from (leb span.first row) (leb row span.last) (le-leb span.first row from) (le-leb row span.last to)

-- no row lies within the span
pub none_within : (span : Span) (v : ℕ) (d : Diagram) (base : ℕ) → IsReduced d → height d ≤ v → (base + 2 ^ v ≤ span.first) ⊎ (span.last < base) → filter (is_within span.first span.last) (listed v d base) ≡ []
none_within span v d base r low (inl before) =
    filter-none (is_within span.first span.last) (listed v d base) (λ k e h. let one = listed_to v d base r low k e h in outside span (get_or (listed v d base) k e) (inl (omega (arith, one))))
none_within span v d base r low (inr behind) =
    filter-none (is_within span.first span.last) (listed v d base) (λ k e h. let one = listed_from v d base r low k e h in outside span (get_or (listed v d base) k e) (inr (omega (arith, one))))

-- a single row
pub one_within : (span : Span) (base : ℕ) → span.first ≤ base → base ≤ span.last → filter (is_within span.first span.last) (listed 0 (End true) base) ≡ base ∷ []
unfolding listed
one_within span base from to = cond-true (is_within span.first span.last base) (base ∷ []) [] (inside span base from to)

-- the row of the set of all, at no bits
pub one_listed : (span : Span) (level : ℕ) (d : Diagram) (base : ℕ) → level ≡ 0 → d ≡ End true → span.first ≤ base → base ≤ span.last → filter (is_within span.first span.last) (listed level d base) ≡ base ∷ []
one_listed span level d base none all from to =
    let e : listed level d base ≡ listed 0 (End true) base = ap (λ n. listed n d base) none ∙ ap (λ x. listed 0 x base) all in
    ap (filter (is_within span.first span.last)) e ∙ one_within span base from to

pub one_again : (found after rows : List ℕ) (base : ℕ) → after ≡ found ++ base ∷ [] → rows ≡ base ∷ [] → after ≡ found ++ rows
one_again found after rows base one is = one ∙ ap (λ xs. found ++ xs) (sym is)

-- both halves
pub listed_halves : (span : Span) (found : List ℕ) (v : ℕ) (d : Diagram) (base : ℕ) →
    (found ++ filter (is_within span.first span.last) (listed v (low_at v d) base)) ++ filter (is_within span.first span.last) (listed v (high_at v d) (base + 2 ^ v)) ≡ found ++ filter (is_within span.first span.last) (listed (suc v) d base)
unfolding listed
listed_halves span found v d base =
    append_assoc found (filter (is_within span.first span.last) (listed v (low_at v d) base)) (filter (is_within span.first span.last) (listed v (high_at v d) (base + 2 ^ v)))
    ∙ ap (λ xs. found ++ xs) (sym (filter-append (is_within span.first span.last) (listed v (low_at v d) base) (listed v (high_at v d) (base + 2 ^ v))))

-- both halves, as they are found one after the other
pub listed_again : (m : Table) (span : Span) (found first second : List ℕ) (level v : ℕ) (set low high : Bdd) (base half : ℕ) → level ≡ suc v →
    diagram m low ≡ low_at v (diagram m set) → diagram m high ≡ high_at v (diagram m set) → half ≡ 2 ^ v →
    first ≡ found ++ filter (is_within span.first span.last) (listed v (diagram m low) base) →
    second ≡ first ++ filter (is_within span.first span.last) (listed v (diagram m high) (base + half)) →
    second ≡ found ++ filter (is_within span.first span.last) (listed level (diagram m set) base)
listed_again m span found first second level v set low high base half next low_is high_is half_is one two =
    let kept = is_within span.first span.last in
    let d = diagram m set in
    let lows : first ≡ found ++ filter kept (listed v (low_at v d) base) = one ∙ ap (λ x. found ++ filter kept (listed v x base)) low_is in
    let highs : listed v (diagram m high) (base + half) ≡ listed v (high_at v d) (base + 2 ^ v) = ap (λ x. listed v x (base + half)) high_is ∙ ap (λ p. listed v (high_at v d) (base + p)) half_is in
    let whole : second ≡ found ++ filter kept (listed (suc v) d base) =
    two ∙ ap (λ xs. xs ++ filter kept (listed v (diagram m high) (base + half))) lows
    ∙ ap (λ xs. (found ++ filter kept (listed v (low_at v d) base)) ++ filter kept xs) highs ∙ listed_halves span found v d base in
    whole ∙ ap (λ n. found ++ filter kept (listed n d base)) (sym next)

-- what is found is what was asked for
pub rows_are : (bits first last : ℕ) (d : Diagram) → IsReduced d → height d ≤ bits → last < 2 ^ bits → AreRows (holds d) first last (filter (is_within first last) (listed bits d 0))
rows_are bits first last d r low small = record {
  ascending = AllPairs-filter (λ x y. x < y) (is_within first last) (listed bits d 0) (listed_ascends bits d 0 r low);
  exact = λ row. (
    (λ h.
        let both = and_parts (has row (listed bits d 0)) (is_within first last row) (sym (has-filter (is_within first last) (listed bits d 0) row) ∙ h) in
        let ends = and_parts (leb first row) (leb row last) both.1 in
        let one = listed_are bits d 0 row r low both.0 in
        let same : one.rest ≡ row = omega (arith, one.is) in
        (leb-true first row ends.0, leb-true row last ends.1, sym (ap (holds d) same) ∙ one.held)),
    (λ h.
        let same : row + 0 ≡ row = omega arith in
        let there : has row (listed bits d 0) ≡ true = sym (ap (λ x. has x (listed bits d 0)) same) ∙ are_listed bits d 0 row r low (omega (arith, h.1)) h.2 in
        has-filter (is_within first last) (listed bits d 0) row ∙ and_from _ _ there (and_from (leb first row) (leb row last) (le-leb first row h.0) (le-leb row last h.1))),
  );
}

-- a row is listed exactly where it is held
same-truth : (a b : Bool) → (a ≡ true → b ≡ true) → (b ≡ true → a ≡ true) → a ≡ b
same-truth true b to back = sym (to refl)
same-truth false true to back = back refl
same-truth false false to back = refl

pub has-listed : (v : ℕ) (d : Diagram) (row : ℕ) → IsReduced d → height d ≤ v → row < 2 ^ v → has row (listed v d 0) ≡ holds d row
has-listed v d row r low small = same-truth (has row (listed v d 0)) (holds d row) held listed_
  where
    held : has row (listed v d 0) ≡ true → holds d row ≡ true
    held h =
        let one = listed_are v d 0 row r low h in
        let same : row ≡ one.rest = omega (arith, one.is) in
        ap (holds d) same ∙ one.held

    listed_ : holds d row ≡ true → has row (listed v d 0) ≡ true
    listed_ h =
        let same : row + 0 ≡ row = omega arith in
        sym (ap (λ x. has x (listed v d 0)) same) ∙ are_listed v d 0 row r low small h
