-- A program has no two texts of its indirect calls.
use Rattle.std.proofs.Common.{◌≡◌, ◌∙◌, ◌⊎◌, inl, inr, ◌<◌, ℕ, suc, nat_eq, eqb-true, arith}
use Rattle.std.proofs.Common.{Bool, true, false, ◌||◌, true≢false, refl, sym, ap, ap₂, subst}
use Rattle.std.proofs.Common.{List, [], ◌∷◌, ◌++◌, length, get_or}
use Rattle.std.proofs.Math.Path.{fun_ext}
use Rattle.sp_ir.specs.Commands.{Node}
use Rattle.sp_ir.specs.Programs.{Lowered}
use Rattle.sp_base_sets.specs.Sets.{has, Ascends, Includes}
use Rattle.sp_base_sets.specs.Reached.{row}
use Rattle.sp_base_sets.proofs.Members.{eqb-refl}
use Rattle.sp_points_rules.specs.Puts.{CallsBy, as_call, command_at}
use Rattle.sp_graph.specs.Calls.{Callees}
use Rattle.sp_run_indirect.specs.Texts.{count_of, count_text, node_text, lines_from}
use Rattle.sp_run_indirect.specs.Told.{AreCallsOf}
use Rattle.sp_run_indirect.specs.Laws.{CallsEqual}

-- ---- ascending lists of the same members

member : (n x : ℕ) (xs : List ℕ) → has n (x ∷ xs) ≡ true → (n ≡ x) ⊎ (has n xs ≡ true)
member n x xs there = go (nat_eq n x) refl there
  where
    go : (b : Bool) → nat_eq n x ≡ b → (b || has n xs) ≡ true → (n ≡ x) ⊎ (has n xs ≡ true)
    go true e t = inl (eqb-true n x e)
    go false e t = inr t

kept_behind : (n x : ℕ) (xs : List ℕ) → has n xs ≡ true → has n (x ∷ xs) ≡ true
kept_behind n x xs there = ap (λ b. nat_eq n x || b) there ∙ or_true (nat_eq n x)
  where
    or_true : (b : Bool) → (b || true) ≡ true
    or_true true = refl
    or_true false = refl

first_there : (x : ℕ) (xs : List ℕ) → has x (x ∷ xs) ≡ true
first_there x xs = ap (λ b. b || has x xs) (eqb-refl x)

above : (x n : ℕ) (xs : List ℕ) → ((j : ℕ) → j < length xs → x < get_or xs j 0)
    → has n xs ≡ true → x < n
above x n [] each there = absurd (true≢false (sym there))
above x n (y ∷ ys) each there =
    go (member n y ys there) (above x n ys (λ j low. each (suc j) (omega (arith, low))))
  where
    go : (n ≡ y) ⊎ (has n ys ≡ true) → (has n ys ≡ true → x < n) → x < n
    go (inl e) rest = subst (λ m. x < m) (sym e) (each 0 (omega arith))
    go (inr t) rest = rest t

module _ (x : ℕ) (xs : List ℕ) (rises : Ascends (x ∷ xs)) where
  first_least : (n : ℕ) → has n xs ≡ true → x < n
  first_least n there =
      above x n xs (λ j low. rises 0 (suc j) 0 (omega arith) (omega (arith, low))) there

  rest_ascends : Ascends xs
  rest_ascends i j d less low =
      rises (suc i) (suc j) d (omega (arith, less)) (omega (arith, low))

same_first : (x y : ℕ) (xs ys : List ℕ) → Ascends (x ∷ xs) → Ascends (y ∷ ys)
    → has x (y ∷ ys) ≡ true → has y (x ∷ xs) ≡ true → x ≡ y
same_first x y xs ys a b f g = go (member x y ys f) (member y x xs g)
  where
    go : (x ≡ y) ⊎ (has x ys ≡ true) → (y ≡ x) ⊎ (has y xs ≡ true) → x ≡ y
    go (inl e) other = e
    go (inr t) (inl e) = sym e
    go (inr t) (inr u) =
        let one = first_least y ys b x t in
        let two = first_least x xs a y u in
        absurd (omega (arith, one, two))

rest_includes : (x y : ℕ) (xs ys : List ℕ) → Ascends (x ∷ xs) → x ≡ y
    → Includes (x ∷ xs) (y ∷ ys) → Includes xs ys
rest_includes x y xs ys a same f n there = go (member n y ys (f n (kept_behind n x xs there)))
  where
    go : (n ≡ y) ⊎ (has n ys ≡ true) → has n ys ≡ true
    go (inl e) = let more = first_least x xs a n there in absurd (omega (arith, more, e, same))
    go (inr t) = t

alike : (xs ys : List ℕ) → Ascends xs → Ascends ys → Includes xs ys → Includes ys xs → xs ≡ ys
alike [] [] a b f g = refl
alike [] (y ∷ ys) a b f g = absurd (true≢false (sym (g y (first_there y ys))))
alike (x ∷ xs) [] a b f g = absurd (true≢false (sym (f x (first_there x xs))))
alike (x ∷ xs) (y ∷ ys) a b f g =
    let same = same_first x y xs ys a b (f x (first_there x xs)) (g y (first_there y ys)) in
    ap₂ (λ n ns. n ∷ ns) same (alike xs ys (rest_ascends x xs a) (rest_ascends y ys b)
    (rest_includes x y xs ys a same f) (rest_includes y x ys xs b (sym same) g))

-- ---- texts

lines_same : (names : List (List ℕ)) (p : Lowered) (calls other : Callees)
    → ((n : ℕ) → row calls n ≡ row other n) → (k : ℕ) (nodes : List Node)
    → lines_from names p calls k nodes ≡ lines_from names p other k nodes
lines_same names p calls other same k [] = refl
lines_same names p calls other same k (n ∷ ns) =
    ap₂ (λ callees ls. node_text names p n callees ++ ls) (same k)
    (lines_same names p calls other same (suc k) ns)

calls_within : (p : Lowered) (names : List (List ℕ)) (xs ys : List ℕ) (a : AreCallsOf p names xs)
    (b : AreCallsOf p names ys) → a.points ≡ b.points → (n : ℕ)
    → Includes (row a.calls n) (row b.calls n)
calls_within p names xs ys a b same n f there = (b.exact.exact n f).1
    (subst (λ u. CallsBy p u (as_call (command_at p n)) f) same ((a.exact.exact n f).0 there))

pub calls_equal : CallsEqual
calls_equal p names xs ys a b =
    let points : a.points ≡ b.points = fun_ext (λ c. alike (a.points c) (b.points c)
    (a.ascending c) (b.ascending c) (a.least.least b.points b.least.closed c)
    (b.least.least a.points a.least.closed c)) in
    let rows : (n : ℕ) → row a.calls n ≡ row b.calls n = λ n. alike (row a.calls n) (row b.calls n) (a.in_order n) (b.in_order n)
    (calls_within p names xs ys a b points n)
    (calls_within p names ys xs b a (sym points) n) in
    a.bytes_are ∙ ap (λ l. l ++ count_text (count_of p.nodes))
    (lines_same names p a.calls b.calls rows 0 p.nodes) ∙ sym b.bytes_are
