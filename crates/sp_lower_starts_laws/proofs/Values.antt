-- Leaves with the numbers, the cells and values of start values are a start of their object.
use Rattle.std.proofs.Common.{◌≡◌, ℕ, zero, suc, ◌+◌, ◌<◌, List, [], ◌∷◌, map, Option, Some, slice_get, refl, ap, sym, ◌∙◌, subst}
use Rattle.std.specs.Prelude.{⊤, All, Contains, ◌↔◌}
use Rattle.std.proofs.lemmas.Option.{none-some}
use Rattle.std.proofs.lemmas.List.Elements.{All-nil, All-cons, All-head, All-tail}
use Rattle.sp_types.specs.Types.{CType}
use Rattle.sp_types.specs.Typed.{Typed, of}
use Rattle.sp_ir.specs.Commands.{Expression, Leaf}
use Rattle.sp_ir.specs.Programs.{Object}
use Rattle.sp_ir.specs.Regions.{Region, number_at}
use Rattle.sp_ir.specs.Shapes.{Shape, regions, leaf_count, leaf_cell, HasShape}
use Rattle.sp_ir.specs.Terrain.{size_of}
use Rattle.sp_ir.specs.Formed.{IsExpression, LeafAt, IsLeaf, IsStart}
use Rattle.sp_base_layouts.specs.Leaves.{region_behind, leaf_region, start_cells, zero_cells, cell_leaves, cells_left}
use Rattle.sp_base_layout_laws.specs.Zeros.{AreApart as LeavesApart, AreLeaves}
use Rattle.sp_base_layout_laws.proofs.Left.{zeros_hold}
use Rattle.sp_lower_draft.specs.Context.{Context}
use Rattle.sp_check_typing.specs.Starts.{IsLeafValue, AreApart}
use Rattle.sp_check_typing.specs.Trees.{Scene}
use Rattle.sp_lower_expr_laws.specs.Stands.{table}
use Rattle.sp_lower_expr_laws.specs.Uses.{Yields}
use Rattle.sp_lower_expr_laws.proofs.Keeps.{value_as}
use Rattle.sp_lower_starts_laws.proofs.Lists.{StandFrom, some_is}
use Rattle.sp_lower_starts_laws.proofs.Leaves.{AreFloating, HasCell, leaf_has, fits_cell}

-- ---- leaves of start values

-- a formed value of this type's sort
abbrev pub IsFormedValue : Context → List Object → Option ℕ → CType → Expression → Type 0
IsFormedValue c os f t v = IsExpression (table c os) f v × Yields c t v

-- leaves with the numbers of these start values, their cells, and values of their types
abbrev pub AreFilled : Context → List Object → Option ℕ → Shape → ℕ → List (ℕ × Typed) → List Leaf → Type 0
AreFilled c os f s root [] [] = ⊤
AreFilled c os f s root [] (l ∷ ls) = ⊥
AreFilled c os f s root (e ∷ es) [] = ⊥
AreFilled c os f s root (e ∷ es) (l ∷ ls) = (l.number ≡ e.0) × (l.cell ≡ leaf_region s root e.0) × IsFormedValue c os f (of e.1) l.value
    × AreFilled c os f s root es ls

module _ (c : Context) (os : List Object) (rs : List Region) (f : Option ℕ) (n : ℕ) (s : Shape) (root : ℕ) where
  cells_are : (es : List (ℕ × Typed)) (ls : List Leaf) → AreFilled c os f s root es ls → map (λ (l : Leaf). l.cell) ls ≡ start_cells s root es
  cells_are [] [] h = refl
  cells_are [] (l ∷ ls) h = absurd h
  cells_are (e ∷ es) [] h = absurd h
  cells_are (e ∷ es) (l ∷ ls) h = ap (λ x. x ∷ map (λ (l : Leaf). l.cell) ls) h.1 ∙ ap (λ xs. leaf_region s root e.0 ∷ xs) (cells_are es ls h.3)

  number_is : (es : List (ℕ × Typed)) (ls : List Leaf) → AreFilled c os f s root es ls → (i : ℕ) (l : Leaf) → slice_get ls i ≡ Some l
      → (e : ℕ × Typed) × (slice_get es i ≡ Some e) × (l.number ≡ e.0)
  number_is [] [] h i l there = absurd (none-some l there)
  number_is [] (k ∷ ls) h i l there = absurd h
  number_is (e ∷ es) [] h i l there = absurd h
  number_is (e ∷ es) (k ∷ ls) h zero l there = (e, refl, ap (λ (x : Leaf). x.number) (sym (some_is k l there)) ∙ h.0)
  number_is (e ∷ es) (k ∷ ls) h (suc i) l there = number_is es ls h.3 i l there

  leaves_apart : (es : List (ℕ × Typed)) (ls : List Leaf) → AreFilled c os f s root es ls → AreApart es → LeavesApart ls
  leaves_apart es ls h apart i j l m a b same =
      let d = number_is es ls h i l a in
      let e = number_is es ls h j m b in
      apart i j d.0 e.0 d.1 e.1 (sym d.2 ∙ same ∙ e.2)

  module _ (stand : StandFrom rs root (regions n [] (Some 1) s)) (floating : AreFloating s) (scene : Scene) where
    leaf_good : (e : ℕ × Typed) (l : Leaf) → IsLeafValue scene s e → l.number ≡ e.0 → l.cell ≡ leaf_region s root e.0 → IsFormedValue c os f (of e.1) l.value
        → IsLeaf (table c os) rs f s root l
    leaf_good e l v number cell value =
        let w : HasCell (regions n [] (Some 1) s) (leaf_cell s e.0) v.leaf = leaf_has s floating n [] (Some 1) e.0 v.leaf v.low v.there v.scalar in
        let at : l.cell ≡ root + w.0 = cell ∙ ap (region_behind root) w.1 in
        record {
          formed = value.0;
          low = subst (λ k. k < leaf_count s) (sym number) v.low;
          at = (w.0, ap (leaf_cell s) number ∙ w.1, at);
          region = w.2.0;
          there = ap (slice_get rs) at ∙ stand w.0 w.2.0 w.2.1;
          fits = fits_cell c v.leaf l.value w.2.0.element v.scalar (value_as c (of e.1) v.leaf l.value v.same value.1) w.2.2;
        }

    leaves_good : (es : List (ℕ × Typed)) (ls : List Leaf) → AreFilled c os f s root es ls → All (IsLeafValue scene s) es → All (IsLeaf (table c os) rs f s root) ls
    leaves_good [] [] h all = All-nil (IsLeaf (table c os) rs f s root)
    leaves_good [] (l ∷ ls) h all = absurd h
    leaves_good (e ∷ es) [] h all = absurd h
    leaves_good (e ∷ es) (l ∷ ls) h all =
        All-cons (IsLeaf (table c os) rs f s root) l ls
        (leaf_good e l (All-head (IsLeafValue scene s) e es all) h.0 h.1 h.2)
        (leaves_good es ls h.3 (All-tail (IsLeafValue scene s) e es all))

    leaves_there : (es : List (ℕ × Typed)) (ls : List Leaf) → AreFilled c os f s root es ls → All (IsLeafValue scene s) es → AreLeaves s root ls
    leaves_there [] [] h all i l there = absurd (none-some l there)
    leaves_there [] (k ∷ ls) h all i l there = absurd h
    leaves_there (e ∷ es) [] h all i l there = absurd h
    leaves_there (e ∷ es) (k ∷ ls) h all zero l there =
        let x : IsLeaf (table c os) rs f s root k = leaf_good e k (All-head (IsLeafValue scene s) e es all) h.0 h.1 h.2 in
        let is : k ≡ l = some_is k l there in
        subst (λ (y : Leaf). (y.number < leaf_count s) × LeafAt s root y.number y.cell) is (x.low, x.at)
    leaves_there (e ∷ es) (k ∷ ls) h all (suc i) l there = leaves_there es ls h.3 (All-tail (IsLeafValue scene s) e es all) i l there

    pub filled_start : (t : CType) → HasShape c.structs (size_of c.structs) t s → number_at rs n [] ≡ Some root → (es : List (ℕ × Typed)) (ls : List Leaf)
        → All (IsLeafValue scene s) es → AreApart es → AreFilled c os f s root es ls
        → IsStart (table c os) rs f n t ls (zero_cells s root es)
    filled_start t shaped rooted es ls all apart h = record {
      shape = s;
      has_shape = shaped;
      root = root;
      rooted = rooted;
      leaves = leaves_good es ls h all;
      others = subst (λ cells. (x : ℕ) → Contains (cells_left cells root (cell_leaves 1 s)) x ↔ ((k : ℕ) × (k < leaf_count s) × LeafAt s root k x × (((i : ℕ) × (l : Leaf) × (slice_get ls i ≡ Some l) × (l.number ≡ k)) → ⊥))) (cells_are es ls h)
          (zeros_hold s root ls (leaves_apart es ls h apart) (leaves_there es ls h all));
    }
