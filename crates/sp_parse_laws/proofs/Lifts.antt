-- From readings to levelled trees: what is read is the longest tree, and at a fault stands the failing token, for any kind of trees
-- whose ask reads exactly the levelled trees.
use Rattle.std.proofs.Common.{◌≡◌, ℕ, ◌<◌, ◌≤◌, List, [], ◌∷◌, ◌++◌, length, map, refl, sym, ap, ap₂, ◌∙◌, subst}
use Rattle.std.proofs.lemmas.List.{append-nil, map-append, length-map}
use Rattle.sp_tree.specs.declared.fault.Place.{Place}
use Rattle.sp_tree.specs.declared.token.Kind.{Kind}
use Rattle.sp_tree.specs.declared.token.Kind.TheVariants as kinds
use Rattle.sp_tree.specs.declared.token.Token.{Token}
use Rattle.sp_parse_trees.specs.Places.{Spells}
use Rattle.sp_parse_grammar.specs.Table.{ask, Reads, Fails}
use Rattle.sp_parse_grammar.specs.Whole.{IsWhole, BeginsWhole}
use Rattle.sp_parse_grammar.specs.Depth.{Nests}
use Rattle.sp_parse_grammar.specs.CTable.{Ask, Answer}
use Rattle.sp_parse_grammar.proofs.Readings.{at_tokens, fault_at_tokens}
use Rattle.sp_parse_grammar.proofs.Wholes as wholes
use Rattle.sp_parse_grammar.proofs.Nesting.{nesting}
use Rattle.sp_parse_grammar.proofs.CEndings.{c90_checked}
use Rattle.sp_parse_tokens.specs.Sorts.{Terminal, terminal, c_tokens, spare, nowhere}
use Rattle.sp_parse_tokens.specs.SyntaxTrees.{syntax_trees, c_table}
use Rattle.sp_parse_tokens.specs.Depths.{c_depths}
use Rattle.sp_parse_tokens.specs.Faults.{Wanted, fault_of}
use Rattle.sp_parse_laws.specs.Answers.{Language, kinds_of, BeginsTree, IsTree, IsFirstBad, IsLongest, IsFault, IsNested}
use Rattle.sp_parse_laws.specs.Spelled.{kinds_at}
use Rattle.sp_parse_laws.proofs.DepthsChecked.{are_depths}

-- the end of a text
abbrev pub the_end : Terminal
the_end = terminal (spare kinds.End)

-- The ask reads the levelled trees of this language, and no other: each answer's tree, before the token at a place.
pub record Reader (L : Language) (types : List ℕ) (n : Ask syntax_trees) : Type 0 where
  pub tree : Answer n → Place → L.Tree
  pub spells : (front ys : List Terminal) (a : Answer n) (p : Place) → Reads c_table n (ask n) (front ++ ys) a ys → L.kinds (tree a p) ≡ kinds_at front
  pub levelled : (front ys : List Terminal) (a : Answer n) (p : Place) → Reads c_table n (ask n) (front ++ ys) a ys → L.Levelled types (tree a p)
  pub placed : (tokens front : List Token) (next : Token) (more : List Token) (a : Answer n) → tokens ≡ front ++ next ∷ more → Reads c_table n (ask n) (c_tokens front ++ c_tokens (next ∷ more)) a (c_tokens (next ∷ more)) → L.Spelled tokens (tree a next.place) (next ∷ more)
  -- the tree without its places; a tree is given by it and the places of its tokens
  pub bare : L.Tree → L.Tree
  pub kept : (t : L.Tree) → L.kinds (bare t) ≡ L.kinds t
  pub spelled : (tokens rest : List Token) (t : L.Tree) → L.Spelled tokens t rest → Spells tokens (L.kinds t) rest
  pub one_placed : (tokens rest more : List Token) (a b : L.Tree) → bare a ≡ bare b → L.Spelled tokens a rest → L.Spelled tokens b more → a ≡ b
  pub complete : (t : L.Tree) → L.Levelled types t → (ws zs : List Terminal) → kinds_at ws ≡ L.kinds t → (a : Answer n) × Reads c_table n (ask n) (ws ++ the_end ∷ zs) a (the_end ∷ zs) × (c_depths.depth n a ≡ L.depth t) × ((p : Place) → bare (tree a p) ≡ bare t)
  pub stops : c_table.Stops n the_end

pub kinds_of_tokens : (xs : List Token) → kinds_at (c_tokens xs) ≡ kinds_of xs
kinds_of_tokens [] = refl
kinds_of_tokens (x ∷ xs) = ap (λ v. x.kind ∷ v) (kinds_of_tokens xs)

-- tokens of these kinds
abbrev pub of_kinds : List Kind → List Terminal
of_kinds ks = map (λ k. terminal (spare k)) ks

pub kinds_of_kinds : (ks : List Kind) → kinds_at (of_kinds ks) ≡ ks
kinds_of_kinds [] = refl
kinds_of_kinds (k ∷ ks) = ap (λ v. k ∷ v) (kinds_of_kinds ks)

what_of_tokens : (xs : List Token) → map (λ x. x.what) (c_tokens xs) ≡ xs
what_of_tokens [] = refl
what_of_tokens (x ∷ xs) = ap (λ v. x ∷ v) (what_of_tokens xs)

module _ (L : Language) (types : List ℕ) (n : Ask syntax_trees) (r : Reader L types n) where
  -- a whole is the tokens of a tree
  whole_tree : (front : List Terminal) (a : Answer n) (z : Terminal) → IsWhole c_table n front a z → IsTree L types (kinds_at front)
  whole_tree front a z w = record { tree = r.tree a nowhere; levelled = r.levelled front (z ∷ []) a nowhere (w.read []); spells = r.spells front (z ∷ []) a nowhere (w.read []) }

  begins_tree : (front : List Terminal) (z : Terminal) → BeginsWhole c_table n front z → BeginsTree L types (kinds_at front)
  begins_tree front z b =
      let t = whole_tree (front ++ b.rest) b.answer z b.whole in
      record { tree = t.tree; rest = kinds_at b.rest; levelled = t.levelled; spells = t.spells ∙ map-append (λ x. x.what.kind) front b.rest }

  -- a tree whose tokens begin so is a whole that does
  tree_whole : (front : List Terminal) (t : L.Tree) (rest : List Terminal) → L.Levelled types t → kinds_at (front ++ rest) ≡ L.kinds t → (a : Answer n) × IsWhole c_table n (front ++ rest) a the_end × (c_depths.depth n a ≡ L.depth t)
  tree_whole front t rest levelled same =
      let read = r.complete t levelled (front ++ rest) [] same in
      (read.0, wholes.whole c_table (c90_checked syntax_trees) n (front ++ rest) [] the_end read.0 read.1, read.2)

  pub tree_begins : (front : List Terminal) → BeginsTree L types (kinds_at front) → BeginsWhole c_table n front the_end
  tree_begins front b =
      let same : kinds_at (front ++ of_kinds b.rest) ≡ L.kinds b.tree = map-append (λ x. x.what.kind) front (of_kinds b.rest) ∙ ap (λ v. kinds_at front ++ v) (kinds_of_kinds b.rest) ∙ sym b.spells in
      let w = tree_whole front b.tree (of_kinds b.rest) b.levelled same in
      record { rest = of_kinds b.rest; answer = w.0; whole = w.1 }

  tree_is_whole : (front : List Terminal) → IsTree L types (kinds_at front) → (a : Answer n) × IsWhole c_table n front a the_end
  tree_is_whole front t =
      let same : kinds_at (front ++ []) ≡ L.kinds t.tree = ap kinds_at (append-nil front) ∙ sym t.spells in
      let w = tree_whole front t.tree [] t.levelled same in
      (w.0, subst (λ v. IsWhole c_table n v w.0 the_end) (append-nil front) w.1)

  -- What is read is the longest tree.
  pub longest_tree : (depth : ℕ) (front : List Token) (next : Token) (more : List Token) (a : Answer n) → Reads c_table n (ask n) (c_tokens (front ++ next ∷ more)) a (c_tokens (next ∷ more)) → L.depth (r.tree a next.place) ≤ depth
      → IsLongest L types depth (front ++ next ∷ more) (r.tree a next.place) (length front)
  longest_tree depth front next more a read shallow =
      let there : c_tokens (front ++ next ∷ more) ≡ c_tokens front ++ c_tokens (next ∷ more) = map-append terminal front (next ∷ more) in
      let here = at_tokens there read in
      let spelled_kinds : L.kinds (r.tree a next.place) ≡ kinds_of front = r.spells (c_tokens front) (c_tokens (next ∷ more)) a next.place here ∙ kinds_of_tokens front in
      record {
        next = next;
        more = more;
        spells = r.placed (front ++ next ∷ more) front next more a refl here;
        counted = sym (ap length spelled_kinds ∙ length-map front (λ x. x.kind));
        levelled = r.levelled (c_tokens front) (c_tokens (next ∷ more)) a next.place here;
        longest = λ b.
            let kinds_there : L.kinds (r.tree a next.place) ++ next.kind ∷ [] ≡ kinds_at (c_tokens front ++ terminal next ∷ []) = ap (λ v. v ++ next.kind ∷ []) (spelled_kinds ∙ sym (kinds_of_tokens front)) ∙ sym (map-append (λ x. x.what.kind) (c_tokens front) (terminal next ∷ [])) in
            wholes.longest c_table (c90_checked syntax_trees) n (c_tokens front) (c_tokens more) (terminal next) a here the_end (tree_begins (c_tokens front ++ terminal next ∷ []) (subst (λ v. BeginsTree L types v) kinds_there b));
        shallow = shallow;
      }

  -- At a fault stands the failing token.
  pub first_bad : (front : List Token) (bad : Token) (more : List Token) (want : Wanted) → Fails c_table n (ask n) (c_tokens (front ++ bad ∷ more)) want (c_tokens (bad ∷ more)) → IsFirstBad L types (kinds_of front) bad.kind
  first_bad front bad more want fails =
      let there : c_tokens (front ++ bad ∷ more) ≡ c_tokens front ++ c_tokens (bad ∷ more) = map-append terminal front (bad ∷ more) in
      let f = wholes.failing c_table (c90_checked syntax_trees) n (c_tokens front) (c_tokens more) (terminal bad) the_end want r.stops (fault_at_tokens there fails) in
      record {
        goes_on = subst (λ v. BeginsTree L types v) (kinds_of_tokens front) (begins_tree (c_tokens front) the_end f.goes_on);
        none_whole = λ t.
            let w = tree_is_whole (c_tokens front) (subst (λ v. IsTree L types v) (sym (kinds_of_tokens front)) t) in
            f.none_whole w.0 the_end w.1;
        nothing_goes_on = λ b.
            let same : kinds_of front ++ bad.kind ∷ [] ≡ kinds_at (c_tokens front ++ terminal bad ∷ []) = ap (λ v. v ++ bad.kind ∷ []) (sym (kinds_of_tokens front)) ∙ sym (map-append (λ x. x.what.kind) (c_tokens front) (terminal bad ∷ [])) in
            f.nothing_goes_on the_end (tree_begins (c_tokens front ++ terminal bad ∷ []) (subst (λ v. BeginsTree L types v) same b));
      }

  pub fault_tree : (front : List Token) (bad : Token) (more : List Token) (want : Wanted) → Fails c_table n (ask n) (c_tokens (front ++ bad ∷ more)) want (c_tokens (bad ∷ more)) → IsFault L n types (front ++ bad ∷ more) (fault_of want front bad) (length front)
  fault_tree front bad more want fails = record { front = front; bad = bad; more = more; whole = refl; counted = refl; failing = first_bad front bad more want fails; want = want; fails = fails; kind = refl }

  -- Where a depth is passed, some tree goes on up to that token, itself included.
  pub nested_begins : (depth : ℕ) (front : List Token) (bad : Token) (more : List Token) → Nests c_table c_depths n depth (c_tokens (front ++ bad ∷ more)) (c_tokens (bad ∷ more)) → BeginsTree L types (kinds_of front ++ bad.kind ∷ [])
  nested_begins depth front bad more deep =
      let there : c_tokens (front ++ bad ∷ more) ≡ c_tokens front ++ c_tokens (bad ∷ more) = map-append terminal front (bad ∷ more) in
      let t = nesting c_table (c90_checked syntax_trees) c_depths are_depths n depth (c_tokens front) (c_tokens more) (terminal bad) the_end r.stops (subst (λ v. Nests c_table c_depths n depth v (c_tokens (bad ∷ more))) there deep) in
      subst (λ v. BeginsTree L types v) (map-append (λ x. x.what.kind) (c_tokens front) (terminal bad ∷ []) ∙ ap (λ v. v ++ bad.kind ∷ []) (kinds_of_tokens front)) (begins_tree (c_tokens front ++ terminal bad ∷ []) the_end t.goes_on)

  -- Where a depth is passed, some tree goes on up to that token, itself included, and each that does is deeper.
  pub nested_tree : (depth : ℕ) (front : List Token) (bad : Token) (more : List Token) → Nests c_table c_depths n depth (c_tokens (front ++ bad ∷ more)) (c_tokens (bad ∷ more)) → IsNested L types depth (front ++ bad ∷ more) (length front)
  nested_tree depth front bad more deep =
      let there : c_tokens (front ++ bad ∷ more) ≡ c_tokens front ++ c_tokens (bad ∷ more) = map-append terminal front (bad ∷ more) in
      let t = nesting c_table (c90_checked syntax_trees) c_depths are_depths n depth (c_tokens front) (c_tokens more) (terminal bad) the_end r.stops (subst (λ v. Nests c_table c_depths n depth v (c_tokens (bad ∷ more))) there deep) in
      let here : kinds_at (c_tokens front ++ terminal bad ∷ []) ≡ kinds_of front ++ bad.kind ∷ [] = map-append (λ x. x.what.kind) (c_tokens front) (terminal bad ∷ []) ∙ ap (λ v. v ++ bad.kind ∷ []) (kinds_of_tokens front) in
      record {
        front = front;
        bad = bad;
        more = more;
        whole = refl;
        counted = refl;
        goes_on = nested_begins depth front bad more deep;
        deeper = λ tree rest levelled spells.
            let same : kinds_at ((c_tokens front ++ terminal bad ∷ []) ++ of_kinds rest) ≡ L.kinds tree = map-append (λ x. x.what.kind) (c_tokens front ++ terminal bad ∷ []) (of_kinds rest) ∙ ap₂ (λ v w. v ++ w) here (kinds_of_kinds rest) ∙ sym spells in
            let w = tree_whole (c_tokens front ++ terminal bad ∷ []) tree (of_kinds rest) levelled same in
            subst (λ v. depth < v) w.2 (t.deeper (of_kinds rest) w.0 the_end w.1);
      }
