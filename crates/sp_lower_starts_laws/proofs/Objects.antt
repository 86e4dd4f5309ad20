-- The start of an object of the program, from the values of its leaves.
use Rattle.std.proofs.Common.{◌≡◌, ℕ, ◌+◌, ◌≤◌, ◌==◌, ◌||◌, nat_lt, Bool, false, List, [], length, ◌∷◌, Option, Some, None, slice_get, if◌then◌else◌, refl, ap, sym, ◌∙◌, subst, arith}
use Rattle.std.specs.Prelude.{All}
use Rattle.std.proofs.lemmas.List.Elements.{All-head, All-tail}
use Rattle.std.proofs.lemmas.Bool.Decides.{nat_tests}
use Rattle.sp_types.specs.Types.{CType, Struct}
use Rattle.sp_types.specs.Structs.{IsTable}
use Rattle.sp_types.specs.Layout.{layout}
use Rattle.sp_types.specs.declared.extents.Extent.{Extent}
use Rattle.sp_types.specs.Typed.{Typed, of}
use Rattle.sp_types.specs.Programs as program
use Rattle.sp_ir.specs.Commands.{Leaf}
use Rattle.sp_ir.specs.Programs.{Object}
use Rattle.sp_ir.specs.Shapes.{Shape, region, regions, HasShape}
use Rattle.sp_ir.specs.Terrain.{size_in, size_of}
use Rattle.sp_ir.specs.Formed.{IsStart}
use Rattle.sp_base_layouts.specs.Layouts.{layout_of}
use Rattle.sp_base_layouts.specs.Leaves.{leaf_region, start_cells}
use Rattle.sp_base_layout_laws.specs.Laws.{HaveMembers}
use Rattle.sp_base_layout_laws.proofs.Shaped.{is-shaped}
use Rattle.sp_lower_draft.specs.Context.{Context}
use Rattle.sp_lower_starts.specs.Starts.{start_value}
use Rattle.sp_lower_body.specs.Frames.{Initial, known_initial}
use Rattle.sp_lower_objects.specs.Codes.{known_number}
use Rattle.sp_lower_objects.specs.Initials.{object_region_count, is_past, no_cells, all_cells, initials_from}
use Rattle.sp_lower_objects.specs.Objects.{start_leaves}
use Rattle.sp_lower_objects.specs.Regions.{all_regions, most_regions}
use Rattle.sp_check_typing.specs.Starts.{IsLeafValue, AreLeafValues}
use Rattle.sp_lower_expr_laws.specs.Stands.{table, scene}
use Rattle.sp_lower_body_laws.specs.Frames.{AreLeavesOf}
use Rattle.sp_lower_starts_laws.specs.Laws.{ObjectsStand}
use Rattle.sp_lower_starts_laws.proofs.Lists.{StandFrom, stand_first, stand_rest, stand_all}
use Rattle.sp_lower_starts_laws.proofs.Roots.{root_from, standing, root_number, regions_there, initial_is}
use Rattle.sp_lower_starts_laws.proofs.Leaves.{shape_floats}
use Rattle.sp_lower_starts_laws.proofs.Unique.{one_shape}
use Rattle.sp_lower_starts_laws.proofs.Values.{IsFormedValue, AreFilled, filled_start}

-- ---- sizes

zero_not : (n : ℕ) → 1 ≤ n → (n == 0) ≡ false
zero_not n h = grind (arith, nat_tests)

not_past : (m n : ℕ) → n ≤ m → nat_lt m n ≡ false
not_past m n h = grind (arith, nat_tests)

-- what has a size has a layout
sized_layout : (ss : List Struct) (t : CType) → 1 ≤ size_of ss t → (e : Extent) × (layout ss t ≡ Some e)
sized_layout ss t h = by (layout ss t) refl h
  where
    by : (o : Option Extent) → layout ss t ≡ o → 1 ≤ size_in o → (e : Extent) × (layout ss t ≡ Some e)
    by None is h = absurd (omega (arith, h))
    by (Some e) is h = (e, is)

-- ---- one object

module _ (c : Context) (os : List Object) (lowered : ObjectsStand c.objects os) (table_formed : IsTable c.structs) (some : HaveMembers c.structs)
    (few : length (all_regions c.structs 0 os) ≤ most_regions) (n : ℕ) (o : program.Object) (there : slice_get c.objects n ≡ Some o) (big : 1 ≤ size_of c.structs o.of) where
  abbrev root : ℕ
  root = root_from c.structs 0 c.objects n

  abbrev shape : Shape
  shape = layout_of c.structs o.of

  abbrev cells : Initial
  cells = all_cells c.structs (root_from c.structs 0 c.objects n) o

  within : is_past c.structs root o.of ≡ false
  within = let low = regions_there c.structs c.objects os lowered n o there in not_past most_regions (root + object_region_count c.structs o.of) (omega (arith, low, few))

  pub initial_here : known_initial (slice_get (initials_from c.structs 0 c.objects) n) ≡ cells
  initial_here = ap known_initial (initial_is c.structs c.objects 0 n o there) ∙ ap (λ b. if b || is_past c.structs root o.of then no_cells else cells) (zero_not (size_of c.structs o.of) big)
      ∙ ap (λ b. if b then no_cells else cells) within

  regions_here : StandFrom (all_regions c.structs 0 os) root (regions n [] (Some 1) shape)
  regions_here = subst (λ b. StandFrom (all_regions c.structs 0 os) root (if b then region n [] None 1 (Some 0) ∷ [] else regions n [] (Some 1) shape)) (zero_not (size_of c.structs o.of) big)
      (standing c.structs c.objects os lowered n o there).0

  has_shape : HasShape c.structs (size_of c.structs) o.of shape
  has_shape = let w : (e : Extent) × (layout c.structs o.of ≡ Some e) = sized_layout c.structs o.of big in is-shaped c.structs o.of table_formed some w.0 w.1

  -- leaves with their values, of the cells that are counted
  pub start_good : (v : ℕ → Bool) (f : Option ℕ) (ls : List Leaf) → AreLeafValues (scene c v) o.of o.start → AreFilled c os f shape root o.start ls
      → IsStart (table c os) (all_regions c.structs 0 os) f n o.of ls (known_initial (slice_get (initials_from c.structs 0 c.objects) n)).zero
  start_good v f ls values filled =
      let is : values.shape ≡ shape = one_shape c.structs (size_of c.structs) values.shaped has_shape in
      subst (λ (i : Initial). IsStart (table c os) (all_regions c.structs 0 os) f n o.of ls i.zero) (sym initial_here)
      (filled_start c os (all_regions c.structs 0 os) f n shape root regions_here (shape_floats has_shape) (scene c v) o.of has_shape
      (root_number c.structs c.objects os lowered n o there) o.start ls (subst (λ s. All (IsLeafValue (scene c v) s) o.start) is values.values) values.apart filled)

-- ---- the leaves of an automatic object

module _ (c : Context) (os : List Object) (s : Shape) (root : ℕ) where
  pub automatic_filled : (es : List (ℕ × Typed)) (ls : List Leaf) → AreLeavesOf c os (start_cells s root es) es ls → AreFilled c os (Some c.function) s root es ls
  automatic_filled [] [] h = tt
  automatic_filled [] (l ∷ ls) h = absurd h
  automatic_filled (e ∷ es) [] h = absurd h
  automatic_filled (e ∷ es) (l ∷ ls) h = (h.0, h.1, h.2, automatic_filled es ls h.3)

  -- ---- those of a static object

  static_from : (places : List ℕ) (m : ℕ) (es : List (ℕ × Typed)) → StandFrom places m (start_cells s root es)
      → All (λ (e : ℕ × Typed). IsFormedValue c os None (of e.1) (start_value c e.1)) es → AreFilled c os None s root es (start_leaves c places m es)
  static_from places m [] stand all = tt
  static_from places m (e ∷ es) stand all = (
    refl,
    ap known_number (stand_first places m (leaf_region s root e.0) (start_cells s root es) stand),
    All-head (λ (e : ℕ × Typed). IsFormedValue c os None (of e.1) (start_value c e.1)) e es all,
    static_from places (m + 1) es (stand_rest places m (leaf_region s root e.0) (start_cells s root es) stand)
        (All-tail (λ (e : ℕ × Typed). IsFormedValue c os None (of e.1) (start_value c e.1)) e es all),
  )

  pub static_filled : (es : List (ℕ × Typed)) → All (λ (e : ℕ × Typed). IsFormedValue c os None (of e.1) (start_value c e.1)) es
      → AreFilled c os None s root es (start_leaves c (start_cells s root es) 0 es)
  static_filled es all = static_from (start_cells s root es) 0 es (stand_all (start_cells s root es)) all
