-- What a walk reaches, step by step, and that in the end it has found the definitions that reach the use.
use Rattle.std.proofs.Common.{◌≡◌, ◌≢◌, ◌⊎◌, inl, inr, ℕ, zero, suc, ◌+◌, ◌<◌, ◌≤◌, Bool, true, false, cond, not, ◌&&◌, ◌||◌, eqb, List, [], ◌∷◌, ◌++◌, length, get_or, set, take, refl, sym, ap, ◌∙◌, subst, arith, eqb-true, length-set}
use Rattle.std.specs.List.{IsDistinct}
use Rattle.std.proofs.lemmas.Bool.{false≢true}
use Rattle.std.proofs.lemmas.List.{take-append-le, take_all, append_assoc, length-append}
use Rattle.std.proofs.lemmas.List.Elements.{All-contains}
use Rattle.std.proofs.lemmas.Map.Views.{Contains-from_any}
use Rattle.sp_lattice.specs.Lattice.{Order}
use Rattle.sp_lattice.specs.System.{Meaning, IsSystem, AllBelow, has}
use Rattle.sp_lattice.specs.Dependency.{Passing, Path, direct, onward}
use Rattle.sp_lattice.proofs.Paths.{prepend}
use Rattle.sp_deps.specs.inner.Stretches.{Follows, IsHead, AreHeads, IsSkip}
use Rattle.sp_deps.specs.inner.Walk.{reached, IsListed, IsFresh, AreMarked, Reaches, IsFound, IsFinding, AreKnown, GoesBehind}
use Rattle.sp_deps.specs.declared.earlier.Earlier.{Earlier}
use Rattle.sp_deps.specs.declared.walk.Walk.{Walk}
use Rattle.sp_deps.proofs.Lists.{which, eqb-refl, has-push, has-take_more, has-get_or, mark-set, mark_low, distinct-push, short}
use Rattle.sp_deps.proofs.Bools.{and-parts, and-both, or-cases, or-left, or-right}

-- ---- tests

or-assoc : (a b c : Bool) → ((a || b) || c) ≡ (a || (b || c))
or-assoc true b c = refl
or-assoc false b c = refl

-- a test at n, where k is n or isn't: the marks with n's set, and what the two lists then have
joins : (r d e : Bool) → (e ≡ true → r ≡ false) → (e ≡ true → d ≡ true) → ((r && d) || e) ≡ (cond e true r && d)
joins true d true new is = absurd (false≢true (sym (new refl)))
joins false true true new is = refl
joins false false true new is = absurd (false≢true (is refl))
joins true true false new is = refl
joins true false false new is = refl
joins false d false new is = refl

stays : (r d e : Bool) → (e ≡ true → d ≡ false) → (r && d) ≡ (cond e true r && d)
stays r true true is = absurd (false≢true (sym (is refl)))
stays true false true is = refl
stays false false true is = refl
stays r d false is = refl

not-true : (b : Bool) → not b ≡ true → b ≡ false
not-true true h = sym h
not-true false h = refl

widens : (r h p e : Bool) → (e ≡ true → p ≡ true) → ((r || h && p) || e) ≡ (r || (h || e) && p)
widens true h p e is = refl
widens false true true e is = refl
widens false true false true is = sym (is refl)
widens false true false false is = refl
widens false false p true is = sym (is refl)
widens false false p false is = refl

narrow : (r h p e : Bool) → (e ≡ true → p ≡ false) → (r || h && p) ≡ (r || (h || e) && p)
narrow true h p e is = refl
narrow false true p e is = refl
narrow false false p true is = sym (is refl)
narrow false false p false is = refl

none_once : IsDistinct eqb []
unfolding IsDistinct
none_once = tt

-- what stands in the two lists has a mark
pub waiting_marked : (w : Walk) → AreMarked w → AllBelow (length w.is_reached.items) w.waiting.items
waiting_marked w marked k d low =
    let n = get_or w.waiting.items k d in
    mark_low w.is_reached.items n (sym (marked n) ∙ or-left (has n w.waiting.items) (has n w.found.items) (has-get_or w.waiting.items k d low))

pub found_marked : (w : Walk) → AreMarked w → AllBelow (length w.is_reached.items) w.found.items
found_marked w marked k d low =
    let n = get_or w.found.items k d in
    mark_low w.is_reached.items n (sym (marked n) ∙ or-right (has n w.waiting.items) (has n w.found.items) (has-get_or w.found.items k d low))

-- one node more of a list is reached
pub reaches_node : (before w after : Walk) (nodes : List ℕ) (i d : ℕ) → i < length nodes → Reaches before w (λ k. has k (take i nodes)) → Reaches w after (λ k. eqb k (get_or nodes i d)) → Reaches before after (λ k. has k (take (i + 1) nodes))
reaches_node before w after nodes i d low so_far one = record {
  marks = λ k.
      one.marks k ∙ ap (λ b. b || eqb k (get_or nodes i d)) (so_far.marks k) ∙ or-assoc (reached before k) (has k (take i nodes)) (eqb k (get_or nodes i d))
      ∙ ap (λ b. reached before k || b) (sym (has-take_more k i d nodes low));
  rest = so_far.rest ++ one.rest;
  waiting = one.waiting ∙ ap (λ xs. xs ++ one.rest) so_far.waiting ∙ append_assoc before.waiting.items so_far.rest one.rest;
}

-- two paths, where the node between doesn't define the location
join_paths : {V : Type 0} {m : Meaning V} {l from mid to : ℕ} → Path m l from mid → has l (m.defs mid) ≡ false → Path m l mid to → Path m l from to
join_paths first free (direct p) = onward first free p
join_paths first free (onward q free' p) = onward (join_paths first free q) free' p

module _ {V : Type 0} (o : Order V) (m : Meaning V) (sys : IsSystem o m) (l : ℕ) where
  -- a path begins at a node that is there
  pub path_start : {from to : ℕ} → Path m l from to → from < m.nodes
  path_start {from} {to} (direct p) = All-contains (λ x. x < m.nodes) (m.into to) from (sys.into_below to p.there) (Contains-from_any eqb-true from (m.into to) p.edge)
  path_start (onward q free p) = path_start q

  -- so what is found is there
  pub found_low : (to : ℕ) (found : List ℕ) → IsFound m l to found → AllBelow m.nodes found
  found_low to found is_found k d low = path_start ((is_found.exact (get_or found k d)).0 (has-get_or found k d low)).1

module _ {V : Type 0} (m : Meaning V) (l : ℕ) where
  -- a walk goes on with one node more, which wasn't reached
  module _ (w after : Walk) (n : ℕ) (low : n < m.nodes) (listed : IsListed m l w) (new : reached w n ≡ false) (marks : after.is_reached.items ≡ set w.is_reached.items n true) where
    reached-after : (k : ℕ) → reached after k ≡ cond (eqb k n) true (reached w k)
    reached-after k = ap (λ bs. get_or bs k false) marks ∙ mark-set w.is_reached.items n k true (omega (arith, listed.nodes))

    nodes-after : length after.is_reached.items ≡ m.nodes
    nodes-after = ap length marks ∙ length-set w.is_reached.items n true ∙ listed.nodes

    new_at : (k : ℕ) → eqb k n ≡ true → reached w k ≡ false
    new_at k e = ap (λ j. reached w j) (eqb-true k n e) ∙ new

    defines_at : (k : ℕ) (b : Bool) → has l (m.defs n) ≡ b → eqb k n ≡ true → has l (m.defs k) ≡ b
    defines_at k b is e = ap (λ j. has l (m.defs j)) (eqb-true k n e) ∙ is

    not_found : has n w.found.items ≡ false
    not_found = listed.found n ∙ ap (λ b. b && has l (m.defs n)) new

    not_waiting : has n w.waiting.items ≡ false
    not_waiting = listed.waiting n ∙ ap (λ b. b && not (has l (m.defs n))) new

    -- it defines the location
    pub listed_found : has l (m.defs n) ≡ true → after.waiting.items ≡ w.waiting.items → after.found.items ≡ w.found.items ++ n ∷ [] → IsListed m l after
    listed_found is same more = record {
      nodes = nodes-after;
      waiting = λ k.
          ap (λ xs. has k xs) same ∙ listed.waiting k ∙ stays (reached w k) (not (has l (m.defs k))) (eqb k n) (λ e. ap not (defines_at k true is e))
          ∙ ap (λ b. b && not (has l (m.defs k))) (sym (reached-after k));
      found = λ k.
          ap (λ xs. has k xs) more ∙ has-push k n w.found.items ∙ ap (λ b. b || eqb k n) (listed.found k)
          ∙ joins (reached w k) (has l (m.defs k)) (eqb k n) (new_at k) (defines_at k true is) ∙ ap (λ b. b && has l (m.defs k)) (sym (reached-after k));
      waiting_once = subst (λ xs. IsDistinct eqb xs) (sym same) listed.waiting_once;
      found_once = subst (λ xs. IsDistinct eqb xs) (sym more) (distinct-push w.found.items n listed.found_once not_found);
    }

    -- it doesn't
    pub listed_waiting : has l (m.defs n) ≡ false → after.waiting.items ≡ w.waiting.items ++ n ∷ [] → after.found.items ≡ w.found.items → IsListed m l after
    listed_waiting is more same = record {
      nodes = nodes-after;
      waiting = λ k.
          ap (λ xs. has k xs) more ∙ has-push k n w.waiting.items ∙ ap (λ b. b || eqb k n) (listed.waiting k)
          ∙ joins (reached w k) (not (has l (m.defs k))) (eqb k n) (new_at k) (λ e. ap not (defines_at k false is e)) ∙ ap (λ b. b && not (has l (m.defs k))) (sym (reached-after k));
      found = λ k.
          ap (λ xs. has k xs) same ∙ listed.found k ∙ stays (reached w k) (has l (m.defs k)) (eqb k n) (defines_at k false is)
          ∙ ap (λ b. b && has l (m.defs k)) (sym (reached-after k));
      waiting_once = subst (λ xs. IsDistinct eqb xs) (sym more) (distinct-push w.waiting.items n listed.waiting_once not_waiting);
      found_once = subst (λ xs. IsDistinct eqb xs) (sym same) listed.found_once;
    }

  -- ---- the nodes behind one

  -- one edge more, which passes the location
  pub reaches_edge : (before w after : Walk) (n : ℕ) (edges : List ℕ) (i d : ℕ) → i < length edges → m.passes (get_or edges i d) n l ≡ true → Reaches before w (λ k. has k (take i edges) && m.passes k n l) → Reaches w after (λ k. eqb k (get_or edges i d))
      → Reaches before after (λ k. has k (take (i + 1) edges) && m.passes k n l)
  reaches_edge before w after n edges i d low passes so_far one = record {
    marks = λ k.
        one.marks k ∙ ap (λ b. b || eqb k (get_or edges i d)) (so_far.marks k)
        ∙ widens (reached before k) (has k (take i edges)) (m.passes k n l) (eqb k (get_or edges i d)) (λ e. ap (λ j. m.passes j n l) (eqb-true k (get_or edges i d) e) ∙ passes)
        ∙ ap (λ b. reached before k || b && m.passes k n l) (sym (has-take_more k i d edges low));
    rest = so_far.rest ++ one.rest;
    waiting = one.waiting ∙ ap (λ xs. xs ++ one.rest) so_far.waiting ∙ append_assoc before.waiting.items so_far.rest one.rest;
  }

  -- and one that doesn't
  pub reaches_no_edge : (before w : Walk) (n : ℕ) (edges : List ℕ) (i d : ℕ) → i < length edges → m.passes (get_or edges i d) n l ≡ false → Reaches before w (λ k. has k (take i edges) && m.passes k n l) → Reaches before w (λ k. has k (take (i + 1) edges) && m.passes k n l)
  reaches_no_edge before w n edges i d low passes so_far = record {
    marks = λ k.
        so_far.marks k ∙ narrow (reached before k) (has k (take i edges)) (m.passes k n l) (eqb k (get_or edges i d)) (λ e. ap (λ j. m.passes j n l) (eqb-true k (get_or edges i d) e) ∙ passes)
        ∙ ap (λ b. reached before k || b && m.passes k n l) (sym (has-take_more k i d edges low));
    rest = so_far.rest;
    waiting = so_far.waiting;
  }

  -- ---- the whole walk

  pub listed_fresh : (w : Walk) → IsFresh m.nodes w → IsListed m l w
  listed_fresh w fresh = record {
    nodes = fresh.nodes;
    waiting = λ k. ap (λ xs. has k xs) fresh.waiting ∙ sym (ap (λ b. b && not (has l (m.defs k))) (fresh.none k));
    found = λ k. ap (λ xs. has k xs) fresh.found ∙ sym (ap (λ b. b && has l (m.defs k)) (fresh.none k));
    waiting_once = subst (λ xs. IsDistinct eqb xs) (sym fresh.waiting) none_once;
    found_once = subst (λ xs. IsDistinct eqb xs) (sym fresh.found) none_once;
  }

  -- what stands behind a node is reached: all nodes from which an edge that passes the location leads there, or
  -- the head of its stretch, or all definitions from which a path does
  abbrev pub IsBehind : List ℕ → Walk → ℕ → Type 0
  IsBehind heads w n =
      (((from : ℕ) → Passing m l from n → reached w from ≡ true) ⊎ ((head : ℕ) × IsSkip m l heads n head × (reached w head ≡ true)))
      ⊎ ((from : ℕ) → has l (m.defs from) ≡ true → Path m l from n → reached w from ≡ true)

  -- a walk to a use, that has looked behind the first `at` of the nodes that wait
  pub record Walks (heads : List ℕ) (to : ℕ) (w : Walk) (at : ℕ) : Type 0 where
    pub listed : IsListed m l w
    pub within : at ≤ length w.waiting.items
    pub sound : (n : ℕ) → reached w n ≡ true → Path m l n to
    pub behind_use : (from : ℕ) → Passing m l from to → reached w from ≡ true
    pub behind : (n : ℕ) → has n (take at w.waiting.items) ≡ true → IsBehind heads w n

  leads_from : (n k : ℕ) → Passing m l k n → (has k (m.into n) && m.passes k n l) ≡ true
  leads_from n k p = and-both (has k (m.into n)) (m.passes k n l) p.edge p.passes

  passing : (n k : ℕ) → n < m.nodes → (has k (m.into n) && m.passes k n l) ≡ true → Passing m l k n
  passing n k low h = let parts = and-parts (has k (m.into n)) (m.passes k n l) h in record { there = low; edge = parts.0; passes = parts.1 }

  -- what an earlier walk found is all there is to find, and stands below the nodes
  pub finding_found : (e : Earlier) (n : ℕ) (found : List ℕ) → AreKnown m l e → IsFinding e n found → IsFound m l n found
  finding_found e n found known finding =
      subst (λ j. IsFound m l j found) finding.target
      (subst (λ xs. IsFound m l finding.finding.target xs) finding.is (All-contains (λ f. IsFound m l f.target f.found.items) e.findings.items finding.finding known.each finding.there))

  pub walks_first : (heads : List ℕ) (to : ℕ) (w after : Walk) → to < m.nodes → IsFresh m.nodes w → IsListed m l after → Reaches w after (λ k. has k (m.into to) && m.passes k to l) → Walks heads to after 0
  walks_first heads to w after low fresh listed reaches = record {
    listed = listed;
    within = omega arith;
    sound = λ n h. direct (passing to n low (sym (reaches.marks n ∙ ap (λ b. b || (has n (m.into to) && m.passes n to l)) (fresh.none n)) ∙ h));
    behind_use = λ k p. reaches.marks k ∙ or-right (reached w k) (has k (m.into to) && m.passes k to l) (leads_from to k p);
    behind = λ n h. absurd (false≢true h);
  }

  waits : (w : Walk) (n : ℕ) → IsListed m l w → has n w.waiting.items ≡ true → (reached w n ≡ true) × (has l (m.defs n) ≡ false)
  waits w n listed h =
      let parts = and-parts (reached w n) (not (has l (m.defs n))) (sym (listed.waiting n) ∙ h) in
      (parts.0, not-true (has l (m.defs n)) parts.1)

  pub waits_low : (w : Walk) (n : ℕ) → IsListed m l w → has n w.waiting.items ≡ true → n < m.nodes
  waits_low w n listed h = omega (arith, mark_low w.is_reached.items n (waits w n listed h).0, listed.nodes)

  pub waiting_short : (w : Walk) → IsListed m l w → length w.waiting.items ≤ m.nodes
  waiting_short w listed = short w.waiting.items m.nodes listed.waiting_once (λ n h. waits_low w n listed h)

  -- ---- stretches

  module _ (heads : List ℕ) (long : length heads ≡ m.nodes) (are : AreHeads m heads) where
    -- a node that isn't its own head follows others
    follows : (n head : ℕ) → n < m.nodes → IsSkip m l heads n head → Follows m heads n head
    follows n head low skip = by (are.each n (omega (arith, low, long)))
      where
        by : IsHead m heads n (get_or heads n 0) → Follows m heads n head
        by (inl e) = absurd (skip.apart (sym skip.is ∙ e))
        by (inr f) = subst (λ h. Follows m heads n h) skip.is f

    -- so does one before it, unless that is the head
    skip_before : (n head p : ℕ) → IsSkip m l heads n head → Follows m heads n head → has p (m.into n) ≡ true → p ≢ head → IsSkip m l heads p head
    skip_before n head p skip f edge apart = record { is = (f.each p edge).1; apart = λ e. apart (sym e); free = skip.free }

    free_before : (n head p : ℕ) → n < m.nodes → IsSkip m l heads n head → Follows m heads n head → has p (m.into n) ≡ true → has l (m.defs p) ≡ false
    free_before n head p low skip f edge = let less = (f.each p edge).0 in skip.free p (omega (arith, less, low)) (f.each p edge).1

    -- a path leads from the head, where one leads to the node before
    step_below : l < m.locations → (n head first : ℕ) → n < m.nodes → IsSkip m l heads n head → has first (m.into n) ≡ true
        → (first ≡ head) ⊎ (first ≢ head) → (first ≢ head → Path m l head first) → Path m l head n
    step_below l_low n head first low skip edge where_first earlier =
        let f = follows n head low skip in
        let last : Passing m l first n = record { there = low; edge = edge; passes = f.passes first l edge l_low } in
        elim where_first [ inl e ↦ subst (λ p. Path m l p n) e (direct last) | inr apart ↦ onward (earlier apart) (free_before n head first low skip f edge) last ]

    path_below : l < m.locations → (bound n head : ℕ) → n < bound → n < m.nodes → IsSkip m l heads n head → Path m l head n
    path_below l_low zero n head less low skip = absurd (omega arith)
    path_below l_low (suc bound) n head less low skip =
        let f = follows n head low skip in
        let earlier = (f.each f.first f.edge).0 in
        step_below l_low n head f.first low skip f.edge (which f.first head)
        (λ apart. path_below l_low bound f.first head (omega (arith, earlier, less)) (omega (arith, earlier, low)) (skip_before n head f.first skip f f.edge apart))

    pub path_from_head : l < m.locations → (n head : ℕ) → n < m.nodes → IsSkip m l heads n head → Path m l head n
    path_from_head l_low n head low skip = path_below l_low (n + 1) n head (omega arith) low skip

  -- what a location passes makes a step
  pub skip_ready : (heads : List ℕ) (marks : List Bool) (n head : ℕ) → get_or heads n 0 ≡ head → head ≢ n → get_or marks head false ≡ true
      → ((k : ℕ) → k < m.nodes → get_or marks (get_or heads k 0) false ≡ true → has l (m.defs k) ≡ false) → IsSkip m l heads n head
  skip_ready heads marks n head is apart passed free = record { is = is; apart = apart; free = λ k low same. free k low (ap (λ h. get_or marks h false) same ∙ passed) }

  -- one node more, where what an earlier walk found is all there is to find
  module _ (heads : List ℕ) (long : length heads ≡ m.nodes) (are : AreHeads m heads) (l_low : l < m.locations) (e : Earlier) (known : AreKnown m l e) (to : ℕ) (w after : Walk) (at n d : ℕ) (low : at < length w.waiting.items) (is : n ≡ get_or w.waiting.items at d) (walks : Walks heads to w at) where
    there : has n w.waiting.items ≡ true
    there = ap (λ j. has j w.waiting.items) is ∙ has-get_or w.waiting.items at d low

    marked_free : (reached w n ≡ true) × (has l (m.defs n) ≡ false)
    marked_free = waits w n walks.listed there

    -- what is reached: by which test, that a path leads from there, and that nothing behind the node is missing
    module _ (test : ℕ → Bool) (reaches : Reaches w after test) (paths : (k : ℕ) → test k ≡ true → Path m l k to) (behind_n : IsBehind heads after n) (listed : IsListed m l after) where
      still : (k : ℕ) → reached w k ≡ true → reached after k ≡ true
      still k h = reaches.marks k ∙ or-left (reached w k) (test k) h

      sound : (k : ℕ) → (reached w k ≡ true) ⊎ (test k ≡ true) → Path m l k to
      sound k (inl h) = walks.sound k h
      sound k (inr h) = paths k h

      front : (j : ℕ) → has j (take (at + 1) after.waiting.items) ≡ (has j (take at w.waiting.items) || eqb j n)
      front j =
          ap (λ xs. has j (take (at + 1) xs)) reaches.waiting ∙ ap (λ xs. has j xs) (take-append-le (at + 1) w.waiting.items reaches.rest (omega arith))
          ∙ has-take_more j at d w.waiting.items low ∙ ap (λ k. has j (take at w.waiting.items) || eqb j k) (sym is)

      behind_still : (j : ℕ) → IsBehind heads w j → IsBehind heads after j
      behind_still j (inl (inl f)) = inl (inl (λ k p. still k (f k p)))
      behind_still j (inl (inr s)) = inl (inr (s.0, s.1, still s.0 s.2))
      behind_still j (inr f) = inr (λ k defined path. still k (f k defined path))

      behind : (j : ℕ) → (has j (take at w.waiting.items) ≡ true) ⊎ (eqb j n ≡ true) → IsBehind heads after j
      behind j (inl h) = behind_still j (walks.behind j h)
      behind j (inr e) = subst (λ i. IsBehind heads after i) (sym (eqb-true j n e)) behind_n

      walks_by : Walks heads to after (at + 1)
      walks_by = record {
        listed = listed;
        within = omega (arith, ap length reaches.waiting, length-append w.waiting.items reaches.rest);
        sound = λ k h. sound k (or-cases (reached w k) (test k) (sym (reaches.marks k) ∙ h));
        behind_use = λ k p. still k (walks.behind_use k p);
        behind = λ j h. behind j (or-cases (has j (take at w.waiting.items)) (eqb j n) (sym (front j) ∙ h));
      }

    n_low : n < m.nodes
    n_low = waits_low w n walks.listed there

    by_edges : IsListed m l after → Reaches w after (λ k. has k (m.into n) && m.passes k n l) → Walks heads to after (at + 1)
    by_edges listed reaches =
        walks_by (λ k. has k (m.into n) && m.passes k n l) reaches (λ k h. prepend (passing n k n_low h) marked_free.1 (walks.sound n marked_free.0))
        (inl (inl (λ k p. reaches.marks k ∙ or-right (reached w k) (has k (m.into n) && m.passes k n l) (leads_from n k p)))) listed

    by_head : IsListed m l after → (head : ℕ) → IsSkip m l heads n head → Reaches w after (λ k. eqb k head) → Walks heads to after (at + 1)
    by_head listed head skip reaches =
        walks_by (λ k. eqb k head) reaches
        (λ k h. subst (λ j. Path m l j to) (sym (eqb-true k head h)) (join_paths (path_from_head heads long are l_low n head n_low skip) marked_free.1 (walks.sound n marked_free.0)))
        (inl (inr (head, skip, reaches.marks head ∙ or-right (reached w head) (eqb head head) (eqb-refl head)))) listed

    by_finding : IsListed m l after → (found : List ℕ) → IsFinding e n found → Reaches w after (λ k. has k found) → Walks heads to after (at + 1)
    by_finding listed found finding reaches =
        walks_by (λ k. has k found) reaches (λ k h. join_paths ((is_found.exact k).0 h).1 marked_free.1 (walks.sound n marked_free.0))
        (inr (λ k defined path. reaches.marks k ∙ or-right (reached w k) (has k found) ((is_found.exact k).1 (defined, path)))) listed
      where
        is_found : IsFound m l n found
        is_found = finding_found e n found known finding

    pub walks_more : IsListed m l after → GoesBehind m l heads e n w after → Walks heads to after (at + 1)
    walks_more listed (inl (inl reaches)) = by_edges listed reaches
    walks_more listed (inl (inr goes)) = by_head listed goes.0 goes.1 goes.2
    walks_more listed (inr goes) = by_finding listed goes.0 goes.1 goes.2

  -- behind all that wait, the definitions are found
  module _ (heads : List ℕ) (long : length heads ≡ m.nodes) (are : AreHeads m heads) (to : ℕ) (w : Walk) (at : ℕ) (walks : Walks heads to w at) (all : length w.waiting.items ≤ at) where
    front_all : take at w.waiting.items ≡ w.waiting.items
    front_all = take_all at w.waiting.items all

    -- all that is reached and doesn't define the location was looked behind
    looked : (n : ℕ) → reached w n ≡ true → has l (m.defs n) ≡ false → IsBehind heads w n
    looked n marked free =
        walks.behind n (ap (λ xs. has n xs) front_all ∙ walks.listed.waiting n ∙ and-both (reached w n) (not (has l (m.defs n))) marked (ap not free))

    -- before a node from which the walk went to a head comes that head, or a node from which it could go there
    before_skip : (n head mid : ℕ) → IsSkip m l heads n head → reached w head ≡ true → Passing m l mid n → has l (m.defs mid) ≡ false → IsBehind heads w mid
    before_skip n head mid skip marked p free = by (which mid head)
      where
        by : (mid ≡ head) ⊎ (mid ≢ head) → IsBehind heads w mid
        by (inl e) = looked mid (ap (λ k. reached w k) e ∙ marked) free
        by (inr apart) = inl (inr (head, skip_before heads long are n head mid skip (follows heads long are n head p.there skip) p.edge apart, marked))

    complete : (from : ℕ) {n : ℕ} → has l (m.defs from) ≡ true → IsBehind heads w n → Path m l from n → reached w from ≡ true
    complete from defined (inr all_of) path = all_of from defined path
    complete from defined (inl (inl edges)) (direct p) = edges from p
    complete from defined (inl (inl edges)) (onward {mid} q free p) = complete from defined (looked mid (edges mid p) free) q
    complete from {n} defined (inl (inr s)) (direct p) =
        absurd (false≢true (sym (free_before heads long are n s.0 from p.there s.1 (follows heads long are n s.0 p.there s.1) p.edge) ∙ defined))
    complete from {n} defined (inl (inr s)) (onward {mid} q free p) = complete from defined (before_skip n s.0 mid s.1 s.2 p free) q

    pub found_all : IsFound m l to w.found.items
    found_all = record {
      once = walks.listed.found_once;
      exact = λ from. (to_path from, from_path from);
    }
      where
        to_path : (from : ℕ) → has from w.found.items ≡ true → (has l (m.defs from) ≡ true) × Path m l from to
        to_path from h = let parts = and-parts (reached w from) (has l (m.defs from)) (sym (walks.listed.found from) ∙ h) in (parts.1, walks.sound from parts.0)

        from_path : (from : ℕ) → (has l (m.defs from) ≡ true) × Path m l from to → has from w.found.items ≡ true
        from_path from h = walks.listed.found from ∙ and-both (reached w from) (has l (m.defs from)) (complete from h.0 (inl (inl walks.behind_use)) h.1) h.0
