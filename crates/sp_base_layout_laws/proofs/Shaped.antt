-- Going down as deep as structs lie inside one another is enough.
use Rattle.std.proofs.Common.{◌≡◌, ◌≢◌, ℕ, zero, suc, ◌+◌, ◌*◌, ◌≤◌, ◌<◌, ◌^◌, max, nat_le, Bool, true, false, if◌then◌else◌, List, [], ◌∷◌, length, Option, Some, None, slice_get, slice_index_or, refl, ap, sym, ◌∙◌, subst, arith}
use Rattle.std.specs.Prelude.{All, ⊤}
use Rattle.std.proofs.lemmas.Option.{none-some}
use Rattle.sp_types.specs.Types.{CType, void, integer, floating, pointer, array, structure, function, Struct}
use Rattle.sp_types.specs.Layout.{extent, layout, repeated, struct_extent}
use Rattle.sp_types.specs.Structs.{IsTable, IsWhole, IsAbove, IsFormed, held, level_above, height_of, with_member, with_members, leaves_of_members, cells_of_members}
use Rattle.sp_types.specs.declared.extents.Extent.{Extent}
use Rattle.sp_ir.specs.Shapes.{Shape, Shapes, no_shapes, next_shape, HasShape, HaveShapes, has_integer, has_pointer, has_floating, has_array, has_struct, has_union, have_none, have_next}
use Rattle.sp_ir.specs.Terrain.{size_of}
use Rattle.sp_base_layouts.specs.Layouts.{shape_by, member_shapes, first_shape, shape_of_members, shape_of_struct, struct_shape, shape_within, depth, layout_of}
use Rattle.sp_base_layout_laws.specs.Laws.{HaveMembers, IsShaped}

-- ---- lists and options

head-all : {X : Type 0} (P : X → Type 0) (x : X) (xs : List X) → All P (x ∷ xs) → P x
head-all P x xs h = h 0 x (omega arith)

tail-all : {X : Type 0} (P : X → Type 0) (x : X) (xs : List X) → All P (x ∷ xs) → All P xs
tail-all P x xs h = λ k d low. h (suc k) d (omega arith)

pub repeated-some : (n : ℕ) (o : Option Extent) (e : Extent) → repeated n o ≡ Some e → (f : Extent) × (o ≡ Some f)
repeated-some n None e h = absurd (none-some e h)
repeated-some n (Some f) e h = (f, refl)

pub struct-some : (o : Option Struct) (e : Extent) → struct_extent o ≡ Some e → (s : Struct) × (o ≡ Some s) × (s.extent ≡ Some e)
struct-some None e h = absurd (none-some e h)
struct-some (Some s) e h = (s, refl, h)

-- the first member has a layout, and the others with it
member-some : (ss : List Struct) (union : Bool) (whole : Extent) (m : ℕ × CType) (ms : List (ℕ × CType)) (o : Option Extent) (e : Extent)
    → elim o [ None ↦ None | Some x ↦ with_members ss union (with_member union whole x) ms ] ≡ Some e
    → (f : Extent) × (o ≡ Some f) × (with_members ss union (with_member union whole f) ms ≡ Some e)
member-some ss union whole m ms None e h = absurd (none-some e h)
member-some ss union whole m ms (Some f) e h = (f, refl, h)

-- ---- members

-- each has its shape
abbrev Shaped : List Struct → (CType → Shape) → CType → Type 0
Shaped ss f t = HasShape ss (size_of ss) t (f t)

members-have : (ss : List Struct) (f : CType → Shape) (union : Bool) (whole : Extent) (ms : List (ℕ × CType)) (e : Extent) (P : ℕ × CType → Type 0)
    → All P ms → ((m : ℕ × CType) (g : Extent) → P m → layout ss m.1 ≡ Some g → Shaped ss f m.1)
    → with_members ss union whole ms ≡ Some e → HaveShapes ss (size_of ss) ms (member_shapes f ms)
members-have ss f union whole [] e P all each h = have_none
members-have ss f union whole (m ∷ ms) e P all each h =
    let first = member-some ss union whole m ms (layout ss m.1) e h in
    have_next (each m first.0 (head-all P m ms all) first.1)
    (members-have ss f union (with_member union whole first.0) ms e P (tail-all P m ms all) each first.2)

level-one : (ss : List Struct) (ms : List (ℕ × CType)) → 1 ≤ level_above ss ms
level-one ss [] = omega arith
level-one ss (m ∷ ms) = let rest : 1 ≤ level_above ss ms = level-one ss ms in omega arith

-- a struct or union of these members
made-has : (ss : List Struct) (f : CType → Shape) (k : ℕ) (s : Struct) (union : Bool) (members : Option (List (ℕ × CType))) (e : Extent)
    → slice_get ss k ≡ Some s → s.union ≡ union → s.members ≡ members → s.extent ≡ Some e → members ≢ Some [] → IsWhole ss s members
    → ((m : ℕ × CType) (g : Extent) → IsFormed ss m.1 × IsAbove ss s.level (held m.1) → layout ss m.1 ≡ Some g → Shaped ss f m.1)
    → HasShape ss (size_of ss) (structure k) (shape_of_members (structure k) (size_of ss (structure k)) f union members)
made-has ss f k s union None e there is known sized some whole each = absurd (none-some e (sym whole ∙ sized))
made-has ss f k s false (Some ms) e there is known sized some whole each =
    has_struct there is known (members-have ss f s.union (extent 0 1) ms whole.1.0 (λ m. IsFormed ss m.1 × IsAbove ss s.level (held m.1)) whole.0 each whole.1.2)
made-has ss f k s true (Some []) e there is known sized some whole each = absurd (some refl)
made-has ss f k s true (Some (m ∷ ms)) e there is known sized some whole each =
    let first = member-some ss s.union (extent 0 1) m ms (layout ss m.1) whole.1.0 whole.1.2 in
    has_union there is known (each m first.0 (head-all (λ m. IsFormed ss m.1 × IsAbove ss s.level (held m.1)) m ms whole.0) first.1)

-- ---- types

-- where structs of at most this level have their shape
abbrev Structs-have : List Struct → ℕ → Type 0
Structs-have ss n = (k : ℕ) (s : Struct) (e : Extent) → slice_get ss k ≡ Some s → s.extent ≡ Some e → s.level ≤ n
    → HasShape ss (size_of ss) (structure k) (struct_shape ss n k)

abbrev Is-below : List Struct → ℕ → Option ℕ → Type 0
Is-below ss n None = ⊤
Is-below ss n (Some k) = (s : Struct) → slice_get ss k ≡ Some s → s.level ≤ n

type-has : (ss : List Struct) (n : ℕ) → Structs-have ss n → (t : CType) (e : Extent) → Is-below ss n (held t) → layout ss t ≡ Some e
    → HasShape ss (size_of ss) t (shape_within ss n t)
type-has ss n structs void e below h = absurd (none-some e h)
type-has ss n structs (integer k) e below h = has_integer
type-has ss n structs (floating k) e below h = has_floating
type-has ss n structs (pointer t) e below h = has_pointer
type-has ss n structs (array t None) e below h = absurd (none-some e h)
type-has ss n structs (array t (Some m)) e below h =
    let inner = repeated-some m (layout ss t) e h in
    has_array (type-has ss n structs t inner.0 below inner.1)
type-has ss n structs (structure k) e below h =
    let found = struct-some (slice_get ss k) e h in
    structs k found.0 e found.1 found.2 (below found.0 found.1)
type-has ss n structs (function s) e below h = absurd (none-some e h)

below-above : (ss : List Struct) (level n : ℕ) (o : Option ℕ) → level ≤ suc n → IsAbove ss level o → Is-below ss n o
below-above ss level n None low h = tt
below-above ss level n (Some k) low h = λ s there. let less : s.level < level = h s there in omega arith

-- ---- structs

level-zero : (ss : List Struct) (s : Struct) (members : Option (List (ℕ × CType))) (e : Extent) → s.extent ≡ Some e → IsWhole ss s members → 1 ≤ s.level
level-zero ss s None e sized whole = absurd (none-some e (sym whole ∙ sized))
level-zero ss s (Some ms) e sized whole = let one : 1 ≤ level_above ss ms = level-one ss ms in let level : s.level ≡ level_above ss ms = whole.2 in omega arith

structs-have : (ss : List Struct) → IsTable ss → HaveMembers ss → (n : ℕ) → Structs-have ss n
structs-have ss table some zero k s e there sized low =
    let one : 1 ≤ s.level = level-zero ss s s.members e sized (table k s there) in absurd (omega arith)
structs-have ss table some (suc n) k s e there sized low =
    let P : Option Struct → Type 0 = λ o. HasShape ss (size_of ss) (structure k) (shape_of_struct (structure k) (size_of ss (structure k)) (shape_within ss n) o) in
    subst P (sym there)
    (made-has ss (shape_within ss n) k s s.union s.members e there refl refl sized (some k s there) (table k s there)
    (λ m g formed h. type-has ss n (structs-have ss table some n) m.1 g (below-above ss s.level n (held m.1) low formed.1) h))

-- ---- deep enough

depth-level : (ss : List Struct) (k : ℕ) (s : Struct) → slice_get ss k ≡ Some s → s.level ≤ depth ss
depth-level [] k s h = absurd (none-some s h)
depth-level (d ∷ ss) zero s h = let same : d.level ≡ s.level = ap height_of h in omega arith
depth-level (d ∷ ss) (suc k) s h = let rest : s.level ≤ depth ss = depth-level ss k s h in omega arith

below-depth : (ss : List Struct) (o : Option ℕ) → Is-below ss (depth ss) o
below-depth ss None = tt
below-depth ss (Some k) = λ s there. depth-level ss k s there

pub is-shaped : (ss : List Struct) (t : CType) → IsShaped ss t
is-shaped ss t table some e h = type-has ss (depth ss) (structs-have ss table some (depth ss)) t e (below-depth ss (held t)) h
