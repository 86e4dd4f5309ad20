-- How the stretches of a system come about, and which touch a location.
use Rattle.std.proofs.Common.{◌≡◌, ◌≢◌, ◌⊎◌, inl, inr, ℕ, ◌+◌, ◌<◌, ◌≤◌, Bool, true, false, ◌||◌, eqb, List, [], ◌∷◌, ◌++◌, length, get_or, take, refl, sym, ap, ◌∙◌, subst, arith, eqb-true, length-set, get_or-set_same, get_or-set_other}
use Rattle.std.proofs.lemmas.Bool.{false≢true}
use Rattle.std.proofs.lemmas.List.{length_push, get_or_append_left, get_or_push}
use Rattle.std.proofs.lemmas.List.Elements.{All-push}
use Rattle.sp_lattice.specs.System.{Meaning, has}
use Rattle.sp_lattice.specs.Flat.{row_at}
use Rattle.sp_deps.specs.inner.Grouped.{added}
use Rattle.sp_deps.specs.inner.Stretches.{Follows, IsHead, AreHeads, HasTouching, AreReady}
use Rattle.sp_deps.specs.declared.stretches.Stretches.{Stretches}
use Rattle.sp_deps.proofs.Lists.{which, eqb-refl, eqb-apart, has-push, has-take_more}
use Rattle.sp_deps.proofs.Bools.{or-cases, or-left, or-right}

-- ---- marks

pub cleared_more : (places : List ℕ) (i d n : ℕ) → i < length places → has n (take i places) ≡ false → n ≢ get_or places i d → has n (take (i + 1) places) ≡ false
cleared_more places i d n low none apart = has-take_more n i d places low ∙ ap (λ b. b || eqb n (get_or places i d)) none ∙ eqb-apart n (get_or places i d) apart

-- ---- heads

get_or-front : (xs : List ℕ) (x k : ℕ) → k < length xs → get_or (xs ++ x ∷ []) k 0 ≡ get_or xs k 0
get_or-front xs x k low = get_or_append_left xs (x ∷ []) 0 k low

get_or-end : (xs : List ℕ) (x : ℕ) → get_or (xs ++ x ∷ []) (length xs) 0 ≡ x
get_or-end xs x = get_or_push xs x 0 (length xs) refl

module _ {V : Type 0} (m : Meaning V) where
  module _ (heads : List ℕ) (x : ℕ) where
    follows_still : (n head : ℕ) → n ≤ length heads → Follows m heads n head → Follows m (heads ++ x ∷ []) n head
    follows_still n head low f = record {
      first = f.first;
      edge = f.edge;
      each = λ p edge. let less = (f.each p edge).0 in (less, get_or-front heads x p (omega (arith, less, low)) ∙ (f.each p edge).1);
      passes = f.passes;
    }

    is_head_still : (n head : ℕ) → n ≤ length heads → IsHead m heads n head → IsHead m (heads ++ x ∷ []) n head
    is_head_still n head low (inl e) = inl e
    is_head_still n head low (inr f) = inr (follows_still n head low f)

    pub heads_more : x < m.nodes → IsHead m heads (length heads) x → AreHeads m heads → AreHeads m (heads ++ x ∷ [])
    heads_more x_low next are = record {
      low = All-push (λ h. h < m.nodes) heads x are.low x_low;
      each = λ n low. each n low (which n (length heads));
    }
      where
        each : (n : ℕ) → n < length (heads ++ x ∷ []) → (n ≡ length heads) ⊎ (n ≢ length heads) → IsHead m (heads ++ x ∷ []) n (get_or (heads ++ x ∷ []) n 0)
        each n low (inl e) =
            subst (λ k. IsHead m (heads ++ x ∷ []) k (get_or (heads ++ x ∷ []) k 0)) (sym e)
            (subst (λ h. IsHead m (heads ++ x ∷ []) (length heads) h) (sym (get_or-end heads x)) (is_head_still (length heads) x (omega arith) next))
        each n low (inr apart) =
            let less : n < length heads = omega (arith, low, apart, length_push heads x) in
            subst (λ h. IsHead m (heads ++ x ∷ []) n h) (sym (get_or-front heads x n less)) (is_head_still n (get_or heads n 0) (omega (arith, less)) (are.each n less))

  -- ---- which stretches touch a location

  -- those of the nodes below one are noted at what these define, and that one's at a part of what it defines
  pub record Touching (heads : List ℕ) (rows : List (List ℕ)) (node : ℕ) (part : List ℕ) : Type 0 where
    pub long : length rows ≡ m.locations
    pub before : (l k : ℕ) → k < node → has l (m.defs k) ≡ true → has (get_or heads k 0) (row_at rows l) ≡ true
    pub here : (l : ℕ) → has l part ≡ true → has (get_or heads node 0) (row_at rows l) ≡ true

  module _ (heads : List ℕ) (rows : List (List ℕ)) (node u h : ℕ) (u_low : u < m.locations) (is : h ≡ get_or heads node 0) where
    same_row : length rows ≡ m.locations → row_at (added rows u h) u ≡ row_at rows u ++ h ∷ []
    same_row long = get_or-set_same rows u (row_at rows u ++ h ∷ []) [] (omega (arith, u_low, long))

    still : length rows ≡ m.locations → (x l : ℕ) → has x (row_at rows l) ≡ true → has x (row_at (added rows u h) l) ≡ true
    still long x l there = by (which l u)
      where
        by : (l ≡ u) ⊎ (l ≢ u) → has x (row_at (added rows u h) l) ≡ true
        by (inl e) =
            ap (λ k. has x (row_at (added rows u h) k)) e ∙ ap (λ xs. has x xs) (same_row long) ∙ has-push x h (row_at rows u)
            ∙ or-left (has x (row_at rows u)) (eqb x h) (ap (λ k. has x (row_at rows k)) (sym e) ∙ there)
        by (inr apart) = ap (λ xs. has x xs) (get_or-set_other rows u l (row_at rows u ++ h ∷ []) [] apart) ∙ there

    new_here : length rows ≡ m.locations → (l : ℕ) → l ≡ u → has (get_or heads node 0) (row_at (added rows u h) l) ≡ true
    new_here long l e =
        ap (λ k. has (get_or heads node 0) (row_at (added rows u h) k)) e ∙ ap (λ xs. has (get_or heads node 0) xs) (same_row long) ∙ has-push (get_or heads node 0) h (row_at rows u)
        ∙ or-right (has (get_or heads node 0) (row_at rows u)) (eqb (get_or heads node 0) h) (ap (λ k. eqb k h) (sym is) ∙ eqb-refl h)

    pub touching_more : (part more : List ℕ) → ((l : ℕ) → has l more ≡ true → (has l part ≡ true) ⊎ (l ≡ u)) → Touching heads rows node part → Touching heads (added rows u h) node more
    touching_more part more grows so_far = record {
      long = length-set rows u (row_at rows u ++ h ∷ []) ∙ so_far.long;
      before = λ l k low defined. still so_far.long (get_or heads k 0) l (so_far.before l k low defined);
      here = λ l there. by l (grows l there);
    }
      where
        by : (l : ℕ) → (has l part ≡ true) ⊎ (l ≡ u) → has (get_or heads node 0) (row_at (added rows u h) l) ≡ true
        by l (inl there) = still so_far.long (get_or heads node 0) l (so_far.here l there)
        by l (inr e) = new_here so_far.long l e

  -- one more of a part
  pub part_more : (part : List ℕ) (i d u : ℕ) → i < length part → u ≡ get_or part i d → (l : ℕ) → has l (take (i + 1) part) ≡ true → (has l (take i part) ≡ true) ⊎ (l ≡ u)
  part_more part i d u low is l there = by (or-cases (has l (take i part)) (eqb l (get_or part i d)) (sym (has-take_more l i d part low) ∙ there))
    where
      by : (has l (take i part) ≡ true) ⊎ (eqb l (get_or part i d) ≡ true) → (has l (take i part) ≡ true) ⊎ (l ≡ u)
      by (inl h) = inl h
      by (inr e) = inr (eqb-true l (get_or part i d) e ∙ sym is)

  -- all of the node is noted
  pub touching_next : (heads : List ℕ) (rows : List (List ℕ)) (node : ℕ) → Touching heads rows node (m.defs node) → Touching heads rows (node + 1) []
  touching_next heads rows node so_far = record {
    long = so_far.long;
    before = λ l k low defined. by l k low defined (which k node);
    here = λ l there. absurd (false≢true there);
  }
    where
      by : (l k : ℕ) → k < node + 1 → has l (m.defs k) ≡ true → (k ≡ node) ⊎ (k ≢ node) → has (get_or heads k 0) (row_at rows l) ≡ true
      by l k low defined (inl e) = ap (λ j. has (get_or heads j 0) (row_at rows l)) e ∙ so_far.here l (ap (λ j. has l (m.defs j)) (sym e) ∙ defined)
      by l k low defined (inr apart) = so_far.before l k (omega (arith, low, apart)) defined

  pub touching_all : (heads : List ℕ) (rows : List (List ℕ)) (node : ℕ) (part : List ℕ) → m.nodes ≤ node → Touching heads rows node part → HasTouching m heads rows
  touching_all heads rows node part all so_far = record { long = so_far.long; each = λ l n low defined. so_far.before l n (omega (arith, low, all)) defined }

  -- where no mark stands at the heads that touch a location, the stretches are ready for it
  pub ready_from : (heads : List ℕ) (s : Stretches) (rows : List (List ℕ)) (l : ℕ) → l < m.locations → s.heads.items ≡ heads → length heads ≡ m.nodes → AreHeads m heads → HasTouching m heads rows
      → ((n : ℕ) → get_or s.is_passed.items n false ≡ true → has n (row_at rows l) ≡ false) → AreReady m l s
  ready_from heads s rows l l_low same long are touching marks = record {
    long = ap length same ∙ long;
    heads = subst (λ hs. AreHeads m hs) (sym same) are;
    free = λ n low passed. free n low (has l (m.defs n)) refl (ap (λ hs. get_or s.is_passed.items (get_or hs n 0) false) (sym same) ∙ passed);
  }
    where
      free : (n : ℕ) → n < m.nodes → (b : Bool) → has l (m.defs n) ≡ b → get_or s.is_passed.items (get_or heads n 0) false ≡ true → has l (m.defs n) ≡ false
      free n low false is passed = is
      free n low true is passed = absurd (false≢true (sym (marks (get_or heads n 0) passed) ∙ touching.each l n low is))
