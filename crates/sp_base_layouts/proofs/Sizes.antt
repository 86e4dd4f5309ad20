-- How large shapes are, so that going down a type ends.
use Rattle.std.proofs.Common.{◌≡◌, ℕ, zero, suc, ◌+◌, ◌≤◌, ◌<◌, Bool, true, false, List, [], ◌∷◌, length, get_or, slice_get, Option, Some, None, refl, ap, sym, ◌∙◌, arith}
use Rattle.sp_types.specs.Types.{CType, structure, Struct}
use Rattle.sp_types.specs.View.{type_of}
use Rattle.sp_types.specs.declared.ctype.CType.{CType as CodeType}
use Rattle.sp_ir.specs.Terrain.{size_of}
use Rattle.sp_ir.specs.Shapes.{Shape, Shapes, scalar, floating_shape, union_of, array_of, struct_of, no_shapes, next_shape}
use Rattle.sp_base_layouts.specs.Layouts.{layout_of, shape_of_struct, shape_of_members, member_shapes}
use Rattle.sp_base_layouts.specs.Seen.{seen_members}
use Rattle.sp_base_layouts.specs.Summaries.{AreSummaries}
use Rattle.sp_base_layouts.specs.declared.summaries.Summary.{Summary}

abbrev mutual
  pub size : Shape → ℕ
  size (scalar t n) = 1
  size (floating_shape t n) = 1
  size (union_of n first) = 10 + size first
  size (array_of t n inner k) = 10 + size inner
  size (struct_of t n ms) = 10 + sizes ms

  pub sizes : Shapes → ℕ
  sizes no_shapes = 0
  sizes (next_shape m ms) = 10 + size m + sizes ms

members-size : (t u : CType) (n m : ℕ) (f : CType → Shape) (union : Bool) (o : Option (List (ℕ × CType)))
    → size (shape_of_members t n f union o) ≡ size (shape_of_members u m f union o)
members-size t u n m f union None = refl
members-size t u n m f false (Some ms) = refl
members-size t u n m f true (Some []) = refl
members-size t u n m f true (Some (x ∷ ms)) = refl

found-size : (t u : CType) (n m : ℕ) (f : CType → Shape) (o : Option Struct) → size (shape_of_struct t n f o) ≡ size (shape_of_struct u m f o)
found-size t u n m f None = refl
found-size t u n m f (Some d) = members-size t u n m f d.union d.members

-- that of a struct of this number, whatever type is said
pub struct-size : (ss : List Struct) (all : List Summary) (t : CType) (n k : ℕ) (o : Option Struct) → AreSummaries ss all → slice_get ss k ≡ o
    → size (shape_of_struct t n (layout_of ss) o) ≡ size (layout_of ss (structure k))
struct-size ss all t n k o laid at =
    found-size t (structure k) n (size_of ss (structure k)) (layout_of ss) o
    ∙ ap (λ x. size (shape_of_struct (structure k) (size_of ss (structure k)) (layout_of ss) x)) (sym at)
    ∙ ap size (sym (laid.shapes k))

-- a member is smaller than all of them
pub member_smaller : (shape : CType → Shape) (ms : List (ℕ × CodeType)) (i : ℕ) (d : ℕ × CodeType) → i < length ms
    → size (shape (type_of (get_or ms i d).1)) + 10 ≤ sizes (member_shapes shape (seen_members ms))
member_smaller shape [] i d h = absurd (omega arith)
member_smaller shape (m ∷ ms) zero d h = omega arith
member_smaller shape (m ∷ ms) (suc i) d h =
    let rest : size (shape (type_of (get_or ms i d).1)) + 10 ≤ sizes (member_shapes shape (seen_members ms)) = member_smaller shape ms i d (omega arith) in
    omega arith

pub member-at : (f : CType → Shape) (ms : List (ℕ × CodeType)) (i : ℕ) (m : ℕ × CodeType) → i < length ms → m ≡ get_or ms i m
    → size (f (type_of m.1)) + 10 ≤ sizes (member_shapes f (seen_members ms))
member-at f ms i m h at =
    let small : size (f (type_of (get_or ms i m).1)) + 10 ≤ sizes (member_shapes f (seen_members ms)) = member_smaller f ms i m h in
    let same : size (f (type_of m.1)) ≡ size (f (type_of (get_or ms i m).1)) = ap (λ (x : ℕ × CodeType). size (f (type_of x.1))) at in
    omega arith
