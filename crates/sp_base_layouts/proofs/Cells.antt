-- The cells that are left, region by region.
use Rattle.std.proofs.Common.{◌≡◌, ℕ, ◌+◌, ◌*◌, ◌==◌, nat_lt, Bool, true, false, ◌||◌, cond, List, [], ◌∷◌, ◌++◌, length, count_by, refl, ap, sym, ◌∙◌, arith, length-append}
use Rattle.std.proofs.lemmas.Bool.Decides.{nat_tests}
use Rattle.std.proofs.lemmas.Bool.{false≢true}
use Rattle.sp_ir.specs.Shapes.{Shape, Shapes, scalar, floating_shape, union_of, array_of, struct_of, no_shapes, next_shape, is_floating_shape, region_count, member_region_count}
use Rattle.sp_base_layouts.specs.Leaves.{cell_leaves, member_cell_leaves, cells_left}
use Rattle.sp_base_layouts.specs.Summaries.{has_cell, member_has_cell}

none-below : (n : ℕ) → nat_lt n 0 ≡ false
none-below n = grind (arith, nat_tests)

kept-length : (b : Bool) (ns : List ℕ) (n : ℕ) → length ns ≡ n → length (cond b [] ns) ≡ cond b 0 n
kept-length true ns n e = refl
kept-length false ns n e = e

mutual
  pub length-cells : (n : ℕ) (s : Shape) → length (cell_leaves n s) ≡ region_count s
  length-cells n (scalar t size) = refl
  length-cells n (floating_shape t size) = refl
  length-cells n (union_of size first) = refl
  length-cells n (array_of t size inner k) = let e = length-cells (n * k) inner in omega (arith, e)
  length-cells n (struct_of t size ms) = let e = length-members n ms in omega (arith, e)

  length-members : (n : ℕ) (ms : Shapes) → length (member_cell_leaves n ms) ≡ member_region_count ms
  length-members n no_shapes = refl
  length-members n (next_shape m ms) =
      length-append (cond (is_floating_shape m) [] (cell_leaves n m)) (member_cell_leaves n ms)
      ∙ ap (λ x. x + length (member_cell_leaves n ms)) (kept-length (is_floating_shape m) (cell_leaves n m) (region_count m) (length-cells n m))
      ∙ ap (λ x. cond (is_floating_shape m) 0 (region_count m) + x) (length-members n ms)

-- a region without leaves is not left
pub zero-left : (cells : List ℕ) (r : ℕ) (ns : List ℕ) → cells_left cells r (0 ∷ ns) ≡ cells_left cells (r + 1) ns
zero-left cells r ns =
    ap (λ b. cond b (r ∷ cells_left cells (r + 1) ns) (cells_left cells (r + 1) ns)) (none-below (count_by (λ c. c == r) cells))

before-both : (b : Bool) (r : ℕ) (xs ys : List ℕ) → cond b (r ∷ (xs ++ ys)) (xs ++ ys) ≡ cond b (r ∷ xs) xs ++ ys
before-both true r xs ys = refl
before-both false r xs ys = refl

pub left-append : (cells : List ℕ) (r : ℕ) (ns ms : List ℕ) → cells_left cells r (ns ++ ms) ≡ cells_left cells r ns ++ cells_left cells (r + length ns) ms
left-append cells r [] ms = ap (λ x. cells_left cells x ms) (omega arith)
left-append cells r (n ∷ ns) ms =
    let more : Bool = nat_lt (count_by (λ c. c == r) cells) n in
    let rest : List ℕ = cells_left cells (r + 1) ns in
    ap (λ xs. cond more (r ∷ xs) xs) (left-append cells (r + 1) ns ms)
    ∙ before-both more r rest (cells_left cells ((r + 1) + length ns) ms)
    ∙ ap (λ x. cond more (r ∷ rest) rest ++ cells_left cells x ms) (omega arith)

both-false : (a b : Bool) → (a || b) ≡ false → (a ≡ false) × (b ≡ false)
both-false true b e = absurd (false≢true (sym e))
both-false false b e = (refl, e)

-- of a member of floating type no cell is left either way
pub member-left : (cells : List ℕ) (r n : ℕ) (s : Shape) → cells_left cells r (cond (is_floating_shape s) [] (cell_leaves n s)) ≡ cells_left cells r (cell_leaves n s)
member-left cells r n (scalar t size) = refl
member-left cells r n (floating_shape t size) = sym (zero-left cells r [])
member-left cells r n (union_of size first) = refl
member-left cells r n (array_of t size inner k) = refl
member-left cells r n (struct_of t size ms) = refl

-- those of a member, and those of others from where their regions begin
pub next-left : (cells : List ℕ) (r n own : ℕ) (m : Shape) (ms : Shapes) → own ≡ cond (is_floating_shape m) 0 (region_count m)
    → cells_left cells r (member_cell_leaves n (next_shape m ms))
    ≡ cells_left cells r (cell_leaves n m) ++ cells_left cells (r + own) (member_cell_leaves n ms)
next-left cells r n own m ms e =
    let kept : List ℕ = cond (is_floating_shape m) [] (cell_leaves n m) in
    left-append cells r kept (member_cell_leaves n ms)
    ∙ ap (λ xs. xs ++ cells_left cells (r + length kept) (member_cell_leaves n ms)) (member-left cells r n m)
    ∙ ap (λ x. cells_left cells r (cell_leaves n m) ++ cells_left cells (r + x) (member_cell_leaves n ms))
    (kept-length (is_floating_shape m) (cell_leaves n m) (region_count m) (length-cells n m) ∙ sym e)

-- without cells none is left
mutual
  pub none-left : (cells : List ℕ) (r n : ℕ) (s : Shape) → has_cell s ≡ false → cells_left cells r (cell_leaves n s) ≡ []
  none-left cells r n (scalar t size) e = absurd (false≢true (sym e))
  none-left cells r n (floating_shape t size) e = zero-left cells r []
  none-left cells r n (union_of size first) e = absurd (false≢true (sym e))
  none-left cells r n (array_of t size inner k) e = zero-left cells r (cell_leaves (n * k) inner) ∙ none-left cells (r + 1) (n * k) inner e
  none-left cells r n (struct_of t size ms) e = zero-left cells r (member_cell_leaves n ms) ∙ no-members-left cells (r + 1) n ms e

  no-members-left : (cells : List ℕ) (r n : ℕ) (ms : Shapes) → member_has_cell ms ≡ false → cells_left cells r (member_cell_leaves n ms) ≡ []
  no-members-left cells r n no_shapes e = refl
  no-members-left cells r n (next_shape m ms) e =
      let parts = both-false (has_cell m) (member_has_cell ms) e in
      let own : ℕ = cond (is_floating_shape m) 0 (region_count m) in
      next-left cells r n own m ms refl
      ∙ ap (λ xs. xs ++ cells_left cells (r + own) (member_cell_leaves n ms)) (none-left cells r n m parts.0)
      ∙ no-members-left cells (r + own) n ms parts.1
