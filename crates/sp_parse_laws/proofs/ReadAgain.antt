-- A levelled tree is read again as itself, for any kind of trees whose ask reads exactly the levelled trees.
use Rattle.std.proofs.Common.{◌≡◌, ℕ, ◌≤◌, List, [], ◌∷◌, ◌++◌, length, refl, sym, ap, ap₂, ◌∙◌, subst, arith, append_assoc, append-nil}
use Rattle.std.proofs.lemmas.List.{map-append, append_cancel_right}
use Rattle.sp_tree.specs.declared.fault.FaultKind.{FaultKind}
use Rattle.sp_tree.specs.declared.token.Kind.{Kind}
use Rattle.sp_tree.specs.declared.token.Kind.TheVariants.{End}
use Rattle.sp_tree.specs.declared.token.Token.{Token}
use Rattle.sp_parse_grammar.specs.Table.{ask}
use Rattle.sp_parse_grammar.specs.CTable.{Ask}
use Rattle.sp_parse_grammar.proofs.Readings.{one_reading}
use Rattle.sp_parse_grammar.proofs.Wholes as wholes
use Rattle.sp_parse_grammar.proofs.CEndings.{c90_checked}
use Rattle.sp_parse_tokens.specs.Sorts.{nowhere}
use Rattle.sp_parse_tokens.specs.SyntaxTrees.{syntax_trees, c_table}
use Rattle.sp_parse_laws.specs.Answers.{Language, kinds_of, BeginsTree, IsLongest, IsFault, IsNested}
use Rattle.sp_parse_laws.specs.ReadAgain.{IsOneAnswer, AreReadAgain}
use Rattle.sp_parse_laws.specs.Spelled.{kinds_at}
use Rattle.sp_parse_laws.proofs.Lifts.{Reader, the_end, of_kinds, kinds_of_kinds, tree_begins}

-- How two fronts of one list lie, each before a kind.
data Fronts (a b : List Kind) (x y : Kind) : Type 0 where
  shorter : (rest : List Kind) → b ≡ a ++ x ∷ rest → Fronts a b x y
  longer : (rest : List Kind) → a ≡ b ++ y ∷ rest → Fronts a b x y
  even : a ≡ b → x ≡ y → Fronts a b x y

fronts : (a b : List Kind) (x y : Kind) (xs ys : List Kind) → a ++ x ∷ xs ≡ b ++ y ∷ ys → Fronts a b x y
fronts [] [] x y xs ys e = even refl cc
fronts [] (k ∷ b) x y xs ys e = let same : x ≡ k = cc in shorter b (ap (λ v. v ∷ b) (sym same))
fronts (k ∷ a) [] x y xs ys e = let same : k ≡ y = cc in longer a (ap (λ v. v ∷ a) same)
fronts (j ∷ a) (k ∷ b) x y xs ys e =
    let same : j ≡ k = cc in
    let rest : a ++ x ∷ xs ≡ b ++ y ∷ ys = cc in
    on_both j k a b x y same (fronts a b x y xs ys rest)
  where
    on_both : (j k : Kind) (a b : List Kind) (x y : Kind) → j ≡ k → Fronts a b x y → Fronts (j ∷ a) (k ∷ b) x y
    on_both j k a b x y e (shorter rest f) = shorter rest (ap (λ v. v ∷ b) (sym e) ∙ ap (λ v. j ∷ v) f)
    on_both j k a b x y e (longer rest f) = longer rest (ap (λ v. v ∷ a) e ∙ ap (λ v. k ∷ v) f)
    on_both j k a b x y e (even f g) = even (ap (λ v. v ∷ a) e ∙ ap (λ v. k ∷ v) f) g

-- a front of tokens is a front of their kinds
kinds_in : (tokens front : List Token) (next : Token) (more : List Token) → tokens ≡ front ++ next ∷ more → kinds_of tokens ≡ kinds_of front ++ next.kind ∷ kinds_of more
kinds_in tokens front next more e = ap kinds_of e ∙ map-append (λ x. x.kind) front (next ∷ more)

module _ (L : Language) (types : List ℕ) (n : Ask syntax_trees) (r : Reader L types n) where
  one_shape : (a b : L.Tree) → L.Levelled types a → L.Levelled types b → L.kinds a ≡ L.kinds b → r.bare a ≡ r.bare b
  one_shape a b left right same =
      let ws = of_kinds (L.kinds a) in
      let there : kinds_at ws ≡ L.kinds a = kinds_of_kinds (L.kinds a) in
      let x = r.complete a left ws [] there in
      let y = r.complete b right ws [] (there ∙ same) in
      let both = one_reading c_table n (ask n) _ _ _ _ _ x.1 y.1 in
      sym (x.3 nowhere) ∙ ap (λ v. r.bare (r.tree v nowhere)) both.0 ∙ y.3 nowhere

  one_tree : (tokens rest : List Token) (a b : L.Tree) → L.Levelled types a → L.Levelled types b → L.Spelled tokens a rest → L.Spelled tokens b rest → a ≡ b
  one_tree tokens rest a b left right first second =
      let s = r.spelled tokens rest a first in
      let t = r.spelled tokens rest b second in
      let front : s.front ≡ t.front = append_cancel_right s.front t.front rest (sym s.whole ∙ t.whole) in
      r.one_placed tokens rest rest a b (one_shape a b left right (sym s.kinds_of ∙ ap kinds_of front ∙ t.kinds_of)) first second

  ended : (tree : L.Tree) → L.Levelled types tree → ¬ BeginsTree L types (L.kinds tree ++ End ∷ [])
  ended tree levelled b =
      let ws = of_kinds (L.kinds tree) in
      let there : kinds_at ws ≡ L.kinds tree = kinds_of_kinds (L.kinds tree) in
      let x = r.complete tree levelled ws [] there in
      let same : L.kinds tree ++ End ∷ [] ≡ kinds_at (ws ++ the_end ∷ []) = ap (λ v. v ++ End ∷ []) (sym there) ∙ sym (map-append (λ x. x.what.kind) ws (the_end ∷ [])) in
      wholes.longest c_table (c90_checked syntax_trees) n ws [] the_end x.0 x.1 the_end (tree_begins L types n r (ws ++ the_end ∷ []) (subst (λ v. BeginsTree L types v) same b))

  -- a tree that begins with more begins with less
  begins_less : (front less : List Kind) (k : Kind) (rest : List Kind) → front ≡ less ++ k ∷ rest → BeginsTree L types front → BeginsTree L types (less ++ k ∷ [])
  begins_less front less k rest e b = record {
    tree = b.tree;
    rest = rest ++ b.rest;
    levelled = b.levelled;
    spells = b.spells ∙ ap (λ v. v ++ b.rest) e ∙ append_assoc less (k ∷ rest) b.rest ∙ sym (append_assoc less (k ∷ []) (rest ++ b.rest));
  }

  begins_itself : (tree : L.Tree) → L.Levelled types tree → BeginsTree L types (L.kinds tree)
  begins_itself tree levelled = record { tree = tree; rest = []; levelled = levelled; spells = sym (append-nil (L.kinds tree)) }

  module _ (depth : ℕ) (tokens : List Token) (tree : L.Tree) (next : Token) (more : List Token) (levelled : L.Levelled types tree) (shallow : L.depth tree ≤ depth) (spells : L.Spelled tokens tree (next ∷ more)) (longest : ¬ BeginsTree L types (L.kinds tree ++ next.kind ∷ [])) where
    -- how a front of the tokens lies beside those of the tree
    beside : (front : List Token) (x : Token) (xs : List Token) → tokens ≡ front ++ x ∷ xs → Fronts (kinds_of front) (L.kinds tree) x.kind next.kind
    beside front x xs e =
        let s = r.spelled tokens (next ∷ more) tree spells in
        let here : kinds_of tokens ≡ L.kinds tree ++ next.kind ∷ kinds_of more = kinds_in tokens s.front next more s.whole ∙ ap (λ v. v ++ next.kind ∷ kinds_of more) s.kinds_of in
        fronts (kinds_of front) (L.kinds tree) x.kind next.kind (kinds_of xs) (kinds_of more) (sym (kinds_in tokens front x xs e) ∙ here)

    no_other : (other : L.Tree) (count : ℕ) → IsLongest L types depth tokens other count → (other ≡ tree) × (count ≡ length (L.kinds tree))
    no_other other count h =
        let s = r.spelled tokens (h.next ∷ h.more) other h.spells in
        by_fronts (subst (λ v. Fronts v (L.kinds tree) h.next.kind next.kind) s.kinds_of (beside s.front h.next h.more s.whole))
      where
        by_fronts : Fronts (L.kinds other) (L.kinds tree) h.next.kind next.kind → (other ≡ tree) × (count ≡ length (L.kinds tree))
        by_fronts (shorter rest e) = absurd (h.longest (begins_less (L.kinds tree) (L.kinds other) h.next.kind rest e (begins_itself tree levelled)))
        by_fronts (longer rest e) = absurd (longest (begins_less (L.kinds other) (L.kinds tree) next.kind rest e (begins_itself other h.levelled)))
        by_fronts (even e f) = (r.one_placed tokens (h.next ∷ h.more) (next ∷ more) other tree (one_shape other tree h.levelled levelled e) h.spells spells, h.counted ∙ ap length e)

    no_fault : (fault : FaultKind) (count : ℕ) → ¬ IsFault L n types tokens fault count
    no_fault fault count h = by_fronts (beside h.front h.bad h.more h.whole)
      where
        by_fronts : Fronts (kinds_of h.front) (L.kinds tree) h.bad.kind next.kind → ⊥
        by_fronts (shorter rest e) = h.failing.nothing_goes_on (begins_less (L.kinds tree) (kinds_of h.front) h.bad.kind rest e (begins_itself tree levelled))
        by_fronts (longer rest e) = longest (begins_less (kinds_of h.front) (L.kinds tree) next.kind rest e h.failing.goes_on)
        by_fronts (even e f) = h.failing.none_whole (record { tree = tree; levelled = levelled; spells = sym e })

    not_nested : (count : ℕ) → ¬ IsNested L types depth tokens count
    not_nested count h = by_fronts (beside h.front h.bad h.more h.whole)
      where
        by_fronts : Fronts (kinds_of h.front) (L.kinds tree) h.bad.kind next.kind → ⊥
        by_fronts (shorter rest e) = let deeper = h.deeper tree rest levelled (e ∙ sym (append_assoc (kinds_of h.front) (h.bad.kind ∷ []) rest)) in absurd (omega (arith, deeper, shallow))
        by_fronts (longer rest e) = longest (begins_less (kinds_of h.front ++ h.bad.kind ∷ []) (L.kinds tree) next.kind (rest ++ h.bad.kind ∷ []) (ap (λ v. v ++ h.bad.kind ∷ []) e ∙ append_assoc (L.kinds tree) (next.kind ∷ rest) (h.bad.kind ∷ [])) h.goes_on)
        by_fronts (even e f) = longest (begins_less (kinds_of h.front ++ h.bad.kind ∷ []) (L.kinds tree) next.kind [] (ap₂ (λ u v. u ++ v ∷ []) e f) h.goes_on)

  again : (depth : ℕ) (tokens : List Token) (tree : L.Tree) (next : Token) (more : List Token) → L.Levelled types tree → L.depth tree ≤ depth → L.Spelled tokens tree (next ∷ more) → ¬ BeginsTree L types (L.kinds tree ++ next.kind ∷ []) → IsOneAnswer L n types depth tokens tree
  again depth tokens tree next more levelled shallow spells longest = record {
    longest = record { next = next; more = more; spells = spells; counted = refl; levelled = levelled; longest = longest; shallow = shallow };
    no_other = no_other depth tokens tree next more levelled shallow spells longest;
    no_fault = no_fault depth tokens tree next more levelled shallow spells longest;
    not_nested = not_nested depth tokens tree next more levelled shallow spells longest;
  }

  pub read_again : AreReadAgain L r.bare n types
  read_again = record { kept = r.kept; one_placed = λ tokens rest a b same first second. r.one_placed tokens rest rest a b same first second; one_shape = one_shape; one_tree = one_tree; ended = ended; again = again }
