-- What members make of a struct or a union (C90 6.5.2.1).
use Rattle.std.specs.Prelude.{ℕ, suc, ◌^◌, max, Bool, false, ◌||◌, ◌==◌, List, [], ◌∷◌, Option, Some, None, if◌then◌else◌, nat_le, slice_get, unwrap_or}
use Rattle.sp_tree.specs.declared.fault.FaultKind.TheVariants.{OtherTagKind, IncompleteType, BadLength, NestingTooDeep, TooManyCells}
use Rattle.sp_tree.specs.declared.fault.Place.{Place}
use Rattle.sp_types.specs.declared.extents.Extent.{Extent}
use Rattle.sp_types.specs.Layout.{layout, extent}
use Rattle.sp_types.specs.Structs.{aligned, with_member, level_above, leaves_of_members, cells_of_members}
use Rattle.sp_types.specs.Types.{CType, array, structure, Struct}
use Rattle.sp_base_checked.specs.Answers.{Checked, accepted, and_then, where_met, where_given}
use Rattle.sp_check_scopes.specs.Scopes.{entry}
use Rattle.sp_check_env.specs.Env.{Env, set_struct, with_depth}

-- a struct whose members are being read is no longer open: it is marked by its level, which is 0 before
abbrev pub is_open_level : Option Struct → Bool
is_open_level None = false
is_open_level (Some s) = s.level == 0

abbrev pub is_open : Env → ℕ → Bool
is_open env k = is_open_level (slice_get env.tables.structs k)

-- a struct that is incomplete, and whose members are being read
abbrev pub begun_struct : Option ℕ → Bool → Struct
begun_struct tag union = record { tag = tag; union = union; members = None; extent = None; level = 1; leaves = 0; cells = 0 }

-- the struct of a number, with this tag and kind, as its members are about to be read
abbrev pub begun : Env → ℕ → Option ℕ → Bool → Env
begun env k tag union = set_struct env k (begun_struct tag union)

-- a name that the members have already
abbrev pub has_member : List (ℕ × CType) → ℕ → Bool
has_member [] n = false
has_member (m ∷ ms) n = m.0 == n || has_member ms n

-- no type has more than 2^40 bytes
abbrev pub fitting : Extent → Option Extent
fitting e = if nat_le e.size (2 ^ 40) then Some e else None

-- a struct ends where its alignment divides
abbrev pub closed : Extent → Extent
closed e = extent (aligned e.size e.align) e.align

-- a member of this type behind those that make up `whole`; `p` is the place of the specifier
abbrev pub next_extent : List Struct → Bool → Place → Extent → CType → Checked Extent
next_extent ss union p whole t =
    where_given (layout ss t) IncompleteType p (λ e.
    where_given (fitting (with_member union whole e)) BadLength p (λ w.
    accepted w))

abbrev pub members_extent : List Struct → Bool → Place → Extent → List (ℕ × CType) → Checked Extent
members_extent ss union p whole [] = where_given (fitting (closed whole)) BadLength p (λ e. accepted e)
members_extent ss union p whole (m ∷ ms) = and_then (next_extent ss union p whole m.1) (λ w. members_extent ss union p w ms)

-- its tag, and whether it is a union
abbrev pub head_of : Option Struct → Option (Option ℕ × Bool)
head_of None = None
head_of (Some s) = Some (s.tag, s.union)

-- the struct of a number with its members; at most 256 cells lie in it
abbrev pub with_members : List Struct → ℕ → Bool → Place → List (ℕ × CType) → Checked Struct
with_members ss k union p ms =
    where_given (head_of (slice_get ss k)) OtherTagKind p (λ h.
    and_then (members_extent ss union p (extent 0 1) ms) (λ e.
    where_met (nat_le (cells_of_members ss union ms) 256) TooManyCells p
    (accepted (record {
      tag = h.0;
      union = h.1;
      members = Some ms;
      extent = Some e;
      level = level_above ss ms;
      leaves = leaves_of_members ss union ms;
      cells = cells_of_members ss union ms;
    }))))

-- ---- how deep it is

-- how many structs and arrays lie inside one another in a type, held by value
abbrev pub depth : List (ℕ × ℕ) → CType → ℕ
depth ds (array t n) = suc (depth ds t)
depth ds (structure k) = unwrap_or (entry ds k) 0
depth ds _ = 0

-- in a struct of these members, itself included
abbrev pub depth_above : List (ℕ × ℕ) → List (ℕ × CType) → ℕ
depth_above ds [] = 1
depth_above ds (m ∷ ms) = max (suc (depth ds m.1)) (depth_above ds ms)

-- the struct of a number with its members; at most 200 structs and arrays lie inside one another in
-- it (5.2.4.1 asks for 15 structs and 12 arrays)
abbrev pub completed : Env → ℕ → Bool → Place → List (ℕ × CType) → Checked Env
completed env k union p ms =
    and_then (with_members env.tables.structs k union p ms) (λ s.
    where_met (nat_le (depth_above env.depths ms) 200) NestingTooDeep p
    (accepted (with_depth (set_struct env k s) k (depth_above env.depths ms))))
