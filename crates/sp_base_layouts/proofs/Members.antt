-- Loops over members, from the front.
use Rattle.std.proofs.Common.{◌≡◌, ℕ, suc, ◌+◌, ◌-◌, ◌≤◌, ◌<◌, nat_lt, cond, Bool, true, false, List, [], ◌∷◌, ◌++◌, length, get_or, drop, Option, Some, None, option_map, refl, ap, sym, ◌∙◌, arith, add-one, drop-cons, append_assoc, append-nil, if◌then◌else◌}
use Rattle.std.proofs.lemmas.Bool.Decides.{nat_tests}
use Rattle.std.proofs.lemmas.List.{drop_all}
use Rattle.sp_types.specs.Types.{CType}
use Rattle.sp_types.specs.View.{type_of}
use Rattle.sp_types.specs.declared.ctype.CType.{CType as CodeType}
use Rattle.sp_ir.specs.declared.region.Step.{Step}
use Rattle.sp_ir.specs.declared.region.Step.TheVariants.{Field}
use Rattle.sp_ir.specs.Regions.{Region}
use Rattle.sp_ir.specs.Shapes.{Shape, Shapes, no_shapes, next_shape, is_floating_shape, regions, member_regions, region_count, leaf_count, leaf_cell, member_leaf_cell}
use Rattle.sp_base_layouts.specs.Layouts.{member_shapes}
use Rattle.sp_base_layouts.specs.Leaves.{cell_leaves, member_cell_leaves, cells_left}
use Rattle.sp_base_layouts.specs.Seen.{seen_members}
use Rattle.sp_base_layouts.proofs.Cells.{next-left}

-- the shapes from a member on
pub rest-at : (f : CType → Shape) (ms : List (ℕ × CodeType)) (i : ℕ) (m : ℕ × CodeType) → i < length ms → m ≡ get_or ms i m
    → member_shapes f (seen_members (drop i ms)) ≡ next_shape (f (type_of m.1)) (member_shapes f (seen_members (drop (i + 1) ms)))
rest-at f ms i m h at =
    rw add-one (ap (λ xs. member_shapes f (seen_members xs)) (drop-cons ms i m h) ∙ ap (λ (x : ℕ × CodeType). next_shape (f (type_of x.1)) (member_shapes f (seen_members (drop (suc i) ms)))) (sym at))

pub none-at : (f : CType → Shape) (ms : List (ℕ × CodeType)) (i : ℕ) → length ms ≤ i → member_shapes f (seen_members (drop i ms)) ≡ no_shapes
none-at f ms i h = ap (λ xs. member_shapes f (seen_members xs)) (drop_all i ms h)

-- ---- regions

pub regions-turn : (r now after : List Region) (o : ℕ) (path : List Step) (f : CType → Shape) (ms : List (ℕ × CodeType)) (k : ℕ) (m : ℕ × CodeType)
    → k < length ms → m ≡ get_or ms k m → after ≡ now ++ member_regions o path k (next_shape (f (type_of m.1)) no_shapes)
    → now ++ member_regions o path k (member_shapes f (seen_members (drop k ms))) ≡ r
    → after ++ member_regions o path (k + 1) (member_shapes f (seen_members (drop (k + 1) ms))) ≡ r
regions-turn r now after o path f ms k m h at made so_far =
    let own : List Region = cond (is_floating_shape (f (type_of m.1))) [] (regions o (path ++ Field k ∷ []) (Some 1) (f (type_of m.1))) in
    let rest : List Region = member_regions o path (k + 1) (member_shapes f (seen_members (drop (k + 1) ms))) in
    ap (λ xs. xs ++ rest) made
    ∙ ap (λ xs. (now ++ xs) ++ rest) (append-nil own)
    ∙ append_assoc now own rest
    ∙ ap (λ x. now ++ member_regions o path k x) (sym (rest-at f ms k m h at))
    ∙ so_far

pub regions-end : (r now : List Region) (o : ℕ) (path : List Step) (f : CType → Shape) (ms : List (ℕ × CodeType)) (k : ℕ) → length ms ≤ k
    → now ++ member_regions o path k (member_shapes f (seen_members (drop k ms))) ≡ r → now ≡ r
regions-end r now o path f ms k h so_far =
    sym (append-nil now) ∙ ap (λ x. now ++ member_regions o path k x) (sym (none-at f ms k h)) ∙ so_far

-- ---- cells that are left

pub left-turn : (r now after cells : List ℕ) (region count own : ℕ) (f : CType → Shape) (ms : List (ℕ × CodeType)) (k : ℕ) (m : ℕ × CodeType)
    → k < length ms → m ≡ get_or ms k m → own ≡ cond (is_floating_shape (f (type_of m.1))) 0 (region_count (f (type_of m.1)))
    → after ≡ now ++ cells_left cells region (cell_leaves count (f (type_of m.1)))
    → now ++ cells_left cells region (member_cell_leaves count (member_shapes f (seen_members (drop k ms)))) ≡ r
    → after ++ cells_left cells (region + own) (member_cell_leaves count (member_shapes f (seen_members (drop (k + 1) ms)))) ≡ r
left-turn r now after cells region count own f ms k m h at owned made so_far =
    let rest : Shapes = member_shapes f (seen_members (drop (k + 1) ms)) in
    ap (λ xs. xs ++ cells_left cells (region + own) (member_cell_leaves count rest)) made
    ∙ append_assoc now (cells_left cells region (cell_leaves count (f (type_of m.1)))) (cells_left cells (region + own) (member_cell_leaves count rest))
    ∙ ap (λ xs. now ++ xs) (sym (next-left cells region count own (f (type_of m.1)) rest owned))
    ∙ ap (λ x. now ++ cells_left cells region (member_cell_leaves count x)) (sym (rest-at f ms k m h at))
    ∙ so_far

pub left-end : (r now cells : List ℕ) (region count : ℕ) (f : CType → Shape) (ms : List (ℕ × CodeType)) (k : ℕ) → length ms ≤ k
    → now ++ cells_left cells region (member_cell_leaves count (member_shapes f (seen_members (drop k ms)))) ≡ r → now ≡ r
left-end r now cells region count f ms k h so_far =
    sym (append-nil now) ∙ ap (λ x. now ++ cells_left cells region (member_cell_leaves count x)) (sym (none-at f ms k h)) ∙ so_far

-- ---- the cell of a leaf

is-less : (n count m : ℕ) → count ≡ m → n < count → nat_lt n m ≡ true
is-less n count m e h = grind (arith, nat_tests)

not-less : (n count m : ℕ) → count ≡ m → count ≤ n → nat_lt n m ≡ false
not-less n count m e h = grind (arith, nat_tests)

less-is : (b : Bool) → b ≡ true → (x y : Option ℕ) → (if b then x else y) ≡ x
less-is true e x y = refl
less-is false e x y = absurd cc

more-is : (b : Bool) → b ≡ false → (x y : Option ℕ) → (if b then x else y) ≡ y
more-is false e x y = refl
more-is true e x y = absurd cc

further-twice : (a b : ℕ) (x : Option ℕ) → option_map (λ c. (a + b) + c) x ≡ option_map (λ c. a + c) (option_map (λ c. b + c) x)
further-twice a b None = refl
further-twice a b (Some c) = ap Some (omega arith)

-- in this member
pub cell-here : (r : Option ℕ) (f : CType → Shape) (ms : List (ℕ × CodeType)) (i : ℕ) (m : ℕ × CodeType) (before left count : ℕ)
    → i < length ms → m ≡ get_or ms i m → count ≡ leaf_count (f (type_of m.1)) → left < count
    → option_map (λ c. before + c) (member_leaf_cell (member_shapes f (seen_members (drop i ms))) left) ≡ r
    → option_map (λ c. before + c) (leaf_cell (f (type_of m.1)) left) ≡ r
cell-here r f ms i m before left count h at counted less so_far =
    let s : Shape = f (type_of m.1) in
    let rest : Shapes = member_shapes f (seen_members (drop (i + 1) ms)) in
    ap (option_map (λ c. before + c)) (sym (less-is (nat_lt left (leaf_count s)) (is-less left count (leaf_count s) counted less) (leaf_cell s left)
    (option_map (λ c. cond (is_floating_shape s) 0 (region_count s) + c) (member_leaf_cell rest (left - leaf_count s)))))
    ∙ ap (λ x. option_map (λ c. before + c) (member_leaf_cell x left)) (sym (rest-at f ms i m h at))
    ∙ so_far

-- behind it
pub cell-next : (r : Option ℕ) (f : CType → Shape) (ms : List (ℕ × CodeType)) (i : ℕ) (m : ℕ × CodeType) (before left count own : ℕ)
    → i < length ms → m ≡ get_or ms i m → count ≡ leaf_count (f (type_of m.1)) → count ≤ left
    → own ≡ cond (is_floating_shape (f (type_of m.1))) 0 (region_count (f (type_of m.1)))
    → option_map (λ c. before + c) (member_leaf_cell (member_shapes f (seen_members (drop i ms))) left) ≡ r
    → option_map (λ c. (before + own) + c) (member_leaf_cell (member_shapes f (seen_members (drop (i + 1) ms))) (left - count)) ≡ r
cell-next r f ms i m before left count own h at counted more owned so_far =
    let s : Shape = f (type_of m.1) in
    let rest : Shapes = member_shapes f (seen_members (drop (i + 1) ms)) in
    further-twice before own (member_leaf_cell rest (left - count))
    ∙ ap (λ x. option_map (λ c. before + c) (option_map (λ c. x + c) (member_leaf_cell rest (left - count)))) owned
    ∙ ap (λ x. option_map (λ c. before + c) (option_map (λ c. cond (is_floating_shape s) 0 (region_count s) + c) (member_leaf_cell rest (left - x)))) counted
    ∙ ap (option_map (λ c. before + c)) (sym (more-is (nat_lt left (leaf_count s)) (not-less left count (leaf_count s) counted more) (leaf_cell s left)
    (option_map (λ c. cond (is_floating_shape s) 0 (region_count s) + c) (member_leaf_cell rest (left - leaf_count s)))))
    ∙ ap (λ x. option_map (λ c. before + c) (member_leaf_cell x left)) (sym (rest-at f ms i m h at))
    ∙ so_far

pub cell-none : (r : Option ℕ) (f : CType → Shape) (ms : List (ℕ × CodeType)) (i before left : ℕ) → length ms ≤ i
    → option_map (λ c. before + c) (member_leaf_cell (member_shapes f (seen_members (drop i ms))) left) ≡ r → None ≡ r
cell-none r f ms i before left h so_far =
    ap (λ x. option_map (λ c. before + c) (member_leaf_cell x left)) (sym (none-at f ms i h)) ∙ so_far
