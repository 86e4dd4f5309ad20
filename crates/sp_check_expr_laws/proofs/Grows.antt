-- Typed trees stay typed where the scene grows: structs are added or completed, what is named
-- stays, and more is there.
use Rattle.std.proofs.Common.{◌≡◌, ℕ, ◌^◌, ◌≤◌, ◌<◌, true, List, Some, ap, sym, subst, ◌∙◌, arith}
use Rattle.std.specs.Prelude.{slice_get}
use Rattle.sp_tree.specs.declared.token.Punct.{Punct}
use Rattle.sp_tree.specs.declared.token.Punct.TheVariants.{Plus, Minus, Increment, Decrement, Assign}
use Rattle.sp_types.specs.declared.extents.Extent.{Extent}
use Rattle.sp_types.specs.Types.{CType, void, integer, floating, pointer, array, structure, function, Struct}
use Rattle.sp_types.specs.Typed.{Typed, typed, TypedForm, TypedList, no_typed, next_typed, of}
use Rattle.sp_types.specs.Typed as tree
use Rattle.sp_types.specs.Layout.{layout}
use Rattle.sp_types.specs.Programs.{Object}
use Rattle.sp_ir.specs.Terrain.{size_in, size_of}
use Rattle.sp_check_typing.specs.Refines.{Tells}
use Rattle.sp_check_typing.specs.Sorts.{IsSized, IsStored, IsStepped, IsKnown}
use Rattle.sp_check_typing.specs.Trees.{Scene, Names, HasMember, PointsToMember, IsIndex, IsSum, IsDifference, IsBinary, IsStep, IsUnary, IsChoice, IsAssigned, IsCalled, IsTyped, IsForm, AreArguments}
use Rattle.sp_check_formed_laws.proofs.Lists.{some_is}
use Rattle.sp_check_formed_laws.proofs.Longer.{type_longer}
use Rattle.sp_check_formed_laws.proofs.Stays.{Stays, SameType, type_stays, struct_some}
use Rattle.sp_check_expr_laws.proofs.Types.{size_laid}
use Rattle.sp_check_expr_laws.proofs.Trees.{IsTree, IsValued}

-- an object of this number that tells all that this one tells
pub record IsStill (r : Scene) (n : ℕ) (o : Object) : Type 0 where
  pub object : Object
  pub there : slice_get r.objects n ≡ Some object
  pub visible : r.is_visible n ≡ true
  pub same : (t : CType) → Tells o.of t → Tells object.of t

pub record Grows (s r : Scene) : Type 0 where
  pub stays : Stays s.structs r.structs
  pub functions : s.functions ≤ r.functions
  pub names : (n : ℕ) (o : Object) → slice_get s.objects n ≡ Some o → s.is_visible n ≡ true
      → IsStill r n o

-- ---- sizes, members and operators over a table that grows

module _ (ss rs : List Struct) (stays : Stays ss rs) where
  pub size_stays : (t : CType) → 1 ≤ size_of ss t → size_of rs t ≡ size_of ss t
  size_stays t h =
      let x : (e : Extent) × (layout ss t ≡ Some e) = size_laid (layout ss t) h in
      let w : SameType ss rs t = type_stays ss rs stays t x.0 x.1 in
      ap size_in w.layouts

  pub has_size : (t : CType) → 1 ≤ size_of ss t → 1 ≤ size_of rs t
  has_size t h = subst (λ n. 1 ≤ n) (sym (size_stays t h)) h

  sized_stays : (t : CType) → IsSized ss t → IsSized rs t
  sized_stays t h = subst (λ n. (1 ≤ n) × (n ≤ 2 ^ 40)) (sym (size_stays t h.0)) h

  pub stored_stays : (t : CType) → IsStored ss t → IsStored rs t
  stored_stays (integer k) h = tt
  stored_stays (pointer t) h = tt
  stored_stays (structure k) h = has_size (structure k) h
  stored_stays void h = absurd h
  stored_stays (floating k) h = absurd h
  stored_stays (array t n) h = absurd h
  stored_stays (function r) h = absurd h

  stepped_stays : (t : CType) → IsStepped ss t → IsStepped rs t
  stepped_stays (integer k) h = tt
  stepped_stays (pointer t) h = sized_stays t h
  stepped_stays void h = absurd h
  stepped_stays (floating k) h = absurd h
  stepped_stays (array t n) h = absurd h
  stepped_stays (structure k) h = absurd h
  stepped_stays (function r) h = absurd h

  pub known_stays : (t : CType) → IsKnown ss t → IsKnown rs t
  known_stays (structure k) h = has_size (structure k) h
  known_stays void h = tt
  known_stays (integer k) h = tt
  known_stays (floating k) h = tt
  known_stays (pointer t) h = tt
  known_stays (array t n) h = tt
  known_stays (function r) h = tt

  struct_stays : (k : ℕ) (s : Struct) → 1 ≤ size_of ss (structure k) → slice_get ss k ≡ Some s
      → slice_get rs k ≡ Some s
  struct_stays k s h at =
      let x : (e : Extent) × (layout ss (structure k) ≡ Some e) =
      size_laid (layout ss (structure k)) h in
      let y : (t : Struct) × (slice_get ss k ≡ Some t) × (t.extent ≡ Some x.0) =
      struct_some (slice_get ss k) x.0 x.1 in
      stays.complete k s x.0 at (ap (λ t. t.extent) (some_is s y.0 (sym at ∙ y.1)) ∙ y.2)

  member_stays : (u : CType) (n : ℕ) (t : CType) → HasMember ss u n t → HasMember rs u n t
  member_stays (structure k) n t h =
      (has_size (structure k) h.0, (h.1.0, h.1.1, struct_stays k h.1.0 h.0 h.1.2, h.1.3, h.1.4))
  member_stays void n t h = absurd h
  member_stays (integer k) n t h = absurd h
  member_stays (floating k) n t h = absurd h
  member_stays (pointer u) n t h = absurd h
  member_stays (array u m) n t h = absurd h
  member_stays (function r) n t h = absurd h

  pointed_stays : (u : CType) (n : ℕ) (t : CType) → PointsToMember ss u n t
      → PointsToMember rs u n t
  pointed_stays (pointer u) n t h = member_stays u n t h
  pointed_stays void n t h = absurd h
  pointed_stays (integer k) n t h = absurd h
  pointed_stays (floating k) n t h = absurd h
  pointed_stays (structure k) n t h = absurd h
  pointed_stays (array u m) n t h = absurd h
  pointed_stays (function r) n t h = absurd h

  index_stays : (a b : CType) → IsIndex ss a b → IsIndex rs a b
  index_stays (pointer u) (integer k) h = sized_stays u h
  index_stays (integer k) (pointer u) h = sized_stays u h
  index_stays a b h = absurd h

  sum_stays : (a b t : CType) → IsSum ss a b t → IsSum rs a b t
  sum_stays (integer j) (integer k) t h = h
  sum_stays (pointer u) (integer k) t h = (sized_stays u h.0, h.1)
  sum_stays (integer k) (pointer u) t h = (sized_stays u h.0, h.1)
  sum_stays a b t h = absurd h

  difference_stays : (a b t : CType) → IsDifference ss a b t → IsDifference rs a b t
  difference_stays (integer j) (integer k) t h = h
  difference_stays (pointer u) (integer k) t h = (sized_stays u h.0, h.1)
  difference_stays (pointer u) (pointer v) t h = (sized_stays u h.0, h.1)
  difference_stays a b t h = absurd h

  binary_stays : (op : Punct) (a b t : CType) → IsBinary ss op a b t → IsBinary rs op a b t
  binary_stays Plus a b t h = sum_stays a b t h
  binary_stays Minus a b t h = difference_stays a b t h
  binary_stays op a b t h = h

  step_stays : (a : Typed) (t : CType) → IsStep ss a t → IsStep rs a t
  step_stays a t h = (h.0, h.1, stepped_stays t h.2)

  unary_stays : (op : Punct) (a : Typed) (t : CType) → IsUnary ss op a t → IsUnary rs op a t
  unary_stays Increment a t h = step_stays a t h
  unary_stays Decrement a t h = step_stays a t h
  unary_stays op a t h = h

  choice_stays : (t a b : CType) → IsChoice ss t a b → IsChoice rs t a b
  choice_stays void a b h = tt
  choice_stays (integer k) a b h = (stored_stays (integer k) h.0, h.1, h.2, h.3, h.4)
  choice_stays (floating k) a b h = (stored_stays (floating k) h.0, h.1, h.2, h.3, h.4)
  choice_stays (pointer t) a b h = (stored_stays (pointer t) h.0, h.1, h.2, h.3, h.4)
  choice_stays (array t n) a b h = (stored_stays (array t n) h.0, h.1, h.2, h.3, h.4)
  choice_stays (structure k) a b h = (stored_stays (structure k) h.0, h.1, h.2, h.3, h.4)
  choice_stays (function r) a b h = (stored_stays (function r) h.0, h.1, h.2, h.3, h.4)

  assigned_stays : (op : Punct) (t b : CType) → IsAssigned ss op t b → IsAssigned rs op t b
  assigned_stays Assign t b h = h
  assigned_stays op t b h = (stepped_stays t h.0, h.1)

  pub called_stays : (t : CType) → IsCalled ss t → IsCalled rs t
  called_stays void h = tt
  called_stays (integer k) h = stored_stays (integer k) h
  called_stays (floating k) h = stored_stays (floating k) h
  called_stays (pointer t) h = stored_stays (pointer t) h
  called_stays (array t n) h = stored_stays (array t n) h
  called_stays (structure k) h = stored_stays (structure k) h
  called_stays (function r) h = stored_stays (function r) h

-- ---- trees

module _ (s r : Scene) (g : Grows s r) where
  names_stay : (n : ℕ) (t : CType) → Names s n t → Names r n t
  names_stay n t h =
      let x : IsStill r n h.object = g.names n h.object h.there h.visible in
      record { object = x.object; there = x.there; visible = x.visible; told = x.same t h.told }

  mutual
    pub typed_stays : (e : Typed) → IsTyped s e → IsTyped r e
    typed_stays (typed f t p m) h =
        (h.0, type_longer s.structs r.structs g.stays.longer t h.1, form_stays t f h.2)

    form_stays : (t : CType) (f : TypedForm) → IsForm s t f → IsForm r t f
    form_stays t (tree.number n) h = h
    form_stays t (tree.character z) h = h
    form_stays t (tree.constant z) h = h
    form_stays t (tree.object n) h = names_stay n t h
    form_stays t (tree.function n) h = (
      h.0,
      let low : n < s.functions = h.1 in let more : s.functions ≤ r.functions =
          g.functions in omega arith,
    )
    form_stays t (tree.convert a) h = (typed_stays a h.0, h.1, known_stays s.structs r.structs g.stays t h.2)
    form_stays t (tree.decay a) h = (typed_stays a h.0, h.1, h.2, h.3)
    form_stays t (tree.index a b) h = (
      typed_stays a h.0,
      typed_stays b h.1,
      index_stays s.structs r.structs g.stays (of a)
          (of b) h.2,
      has_size s.structs r.structs g.stays t h.3,
    )
    form_stays t (tree.call f es) h = (
      typed_stays f h.0,
      h.1,
      arguments_stay es h.2,
      called_stays s.structs r.structs g.stays t
          h.3,
    )
    form_stays t (tree.member a n) h =
        (typed_stays a h.0, member_stays s.structs r.structs g.stays (of a) n t h.1)
    form_stays t (tree.arrow a n) h =
        (typed_stays a h.0, pointed_stays s.structs r.structs g.stays (of a) n t h.1)
    form_stays t (tree.after op a) h =
        (typed_stays a h.0, step_stays s.structs r.structs g.stays a t h.1)
    form_stays t (tree.unary op a) h =
        (typed_stays a h.0, unary_stays s.structs r.structs g.stays op a t h.1)
    form_stays t (tree.cast a) h = (typed_stays a h.0, h.1, known_stays s.structs r.structs g.stays t h.2)
    form_stays t (tree.binary op a b) h = (
      typed_stays a h.0,
      typed_stays b h.1,
      binary_stays s.structs r.structs g.stays op (of a)
          (of b) t h.2,
    )
    form_stays t (tree.choice a b d) h = (
      typed_stays a h.0,
      typed_stays b h.1,
      typed_stays d h.2,
      h.3,
      choice_stays s.structs r.structs g.stays t (of b) (of d) h.4,
    )
    form_stays t (tree.assign op a b) h = (
      typed_stays a h.0,
      typed_stays b h.1,
      h.2,
      stored_stays s.structs r.structs g.stays t h.3,
      h.4,
      assigned_stays s.structs r.structs g.stays op t (of b) h.5,
    )
    form_stays t (tree.comma a b) h =
        (typed_stays a h.0, typed_stays b h.1, h.2, known_stays s.structs r.structs g.stays t h.3)

    pub arguments_stay : (es : TypedList) → AreArguments s es → AreArguments r es
    arguments_stay no_typed h = tt
    arguments_stay (next_typed e es) h = (
      typed_stays e h.0,
      stored_stays s.structs r.structs g.stays (of e) h.1,
      arguments_stay es h.2,
    )

  pub tree_stays : (e : Typed) → IsTree s e → IsTree r e
  tree_stays e h = record { typed = typed_stays e h.typed; sound = h.sound; placed = h.placed }

  pub value_stays : (e : Typed) → IsValued s e → IsValued r e
  value_stays e h = record {
    tree = tree_stays e h.tree;
    value = record {
      no_function = h.value.no_function;
      no_lvalue_array = h.value.no_lvalue_array;
      known = known_stays s.structs r.structs g.stays (of e) h.value.known;
    };
  }

  pub argument_stays : (e : Typed) → IsTyped s e × IsStored s.structs (of e)
      → IsTyped r e × IsStored r.structs (of e)
  argument_stays e h = (typed_stays e h.0, stored_stays s.structs r.structs g.stays (of e) h.1)
