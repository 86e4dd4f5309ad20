-- How many regions there are.
use Rattle.std.proofs.Common.{◌≡◌, ℕ, ◌+◌, ◌==◌, ◌||◌, Bool, true, false, cond, if◌then◌else◌, List, [], ◌∷◌, ◌++◌, length, Option, Some, None, refl, arith, length-append}
use Rattle.sp_types.specs.Types.{CType, Struct}
use Rattle.sp_ir.specs.declared.region.Step.{Step}
use Rattle.sp_ir.specs.declared.region.Step.TheVariants.{Field, Element}
use Rattle.sp_ir.specs.declared.program.ObjectKind.{ObjectKind}
use Rattle.sp_ir.specs.Regions.{Region}
use Rattle.sp_ir.specs.Programs.{Object}
use Rattle.sp_ir.specs.Terrain.{size_of}
use Rattle.sp_ir.specs.Formed.{root_count}
use Rattle.sp_ir.specs.Shapes.{Shape, Shapes, scalar, floating_shape, union_of, array_of, struct_of, no_shapes, next_shape, is_floating_shape, regions, member_regions, region_count, member_region_count}
use Rattle.sp_base_layouts.specs.Layouts.{layout_of}
use Rattle.sp_lower_objects.specs.Regions.{is_function, object_regions, all_regions, kind_count, all_counts}

kept : (b : Bool) (xs ys : List Region) (n m : ℕ) → length xs ≡ n → length ys ≡ m → length (cond b [] xs ++ ys) ≡ cond b 0 n + m
kept true xs ys n m h k = omega arith
kept false xs ys n m h k = omega (arith, length-append xs ys)

mutual
  pub length-regions : (o : ℕ) (path : List Step) (n : Option ℕ) (s : Shape) → length (regions o path n s) ≡ region_count s
  length-regions o path n (scalar t size) = refl
  length-regions o path n (floating_shape t size) = refl
  length-regions o path n (union_of size first) = refl
  length-regions o path n (array_of t size inner k) = omega (arith, length-regions o (path ++ Element ∷ []) (Some k) inner)
  length-regions o path n (struct_of t size ms) = omega (arith, length-members o path 0 ms)

  pub length-members : (o : ℕ) (path : List Step) (k : ℕ) (ms : Shapes) → length (member_regions o path k ms) ≡ member_region_count ms
  length-members o path k no_shapes = refl
  length-members o path k (next_shape m ms) =
      kept (is_floating_shape m) _ _ _ _ (length-regions o (path ++ Field k ∷ []) (Some 1) m) (length-members o path (k + 1) ms)

chosen : (f z : Bool) (a b c : List Region) (n : ℕ) → length a ≡ 1 → length b ≡ 1 → length c ≡ n
    → length (if f then a else if z then b else c) ≡ (if f || z then 1 else n)
chosen true z a b c n h k m = h
chosen false true a b c n h k m = k
chosen false false a b c n h k m = m

pub length-object : (ss : List Struct) (n : ℕ) (kind : ObjectKind) (of : Option CType) → length (object_regions ss n kind of) ≡ kind_count ss kind of
length-object ss n kind None = refl
length-object ss n kind (Some t) =
    chosen (is_function kind) (size_of ss t == 0) _ _ _ _ refl refl (length-regions n [] (root_count kind) (layout_of ss t))

pub length-all : (ss : List Struct) (n : ℕ) (os : List Object) → length (all_regions ss n os) ≡ all_counts ss os
length-all ss n [] = refl
length-all ss n (o ∷ os) =
    let first : length (object_regions ss n o.kind o.of) ≡ kind_count ss o.kind o.of = length-object ss n o.kind o.of in
    let rest : length (all_regions ss (n + 1) os) ≡ all_counts ss os = length-all ss (n + 1) os in
    omega (arith, length-append (object_regions ss n o.kind o.of) (all_regions ss (n + 1) os))
