-- Declarations with start values (C90 6.5.7): automatic objects are initialised where their block
-- is entered.
use Rattle.std.specs.Prelude.{ℕ, ◌||◌, ◌&&◌, Bool, true, false, List, [], ◌∷◌, Option, Some, None, slice_get, if◌then◌else◌}
use Rattle.std.specs.List.{list_any}
use Rattle.sp_tree.specs.declared.fault.Place.{Place}
use Rattle.sp_types.specs.declared.program.Storage.{Storage}
use Rattle.sp_types.specs.declared.program.Storage.TheVariants.{Auto}
use Rattle.sp_types.specs.Types.{CType}
use Rattle.sp_types.specs.Programs.{Object}
use Rattle.sp_types.specs.Typed.{Typed, of}
use Rattle.sp_ir.specs.Commands.{Expression, direct, Leaf, init}
use Rattle.sp_ir.specs.Formed.{is_scalar, is_struct}
use Rattle.sp_lower_draft.specs.Context.{Context}
use Rattle.sp_lower_draft.specs.Draft.{Draft, Left, left, add, stored, keep}
use Rattle.sp_lower_draft.specs.Adds.{adds}
use Rattle.sp_lower_draft.specs.Expressions.{operand, value_of}
use Rattle.sp_lower_body.specs.Frames.{Frame, Initial, initial_of}

abbrev pub first_cell : List ℕ → ℕ
first_cell [] = 0
first_cell (n ∷ ns) = n

abbrev pub cells_behind : List ℕ → List ℕ
cells_behind [] = []
cells_behind (n ∷ ns) = ns

-- whether one of these values has nodes
abbrev pub any_start_adds : List (ℕ × Typed) → Bool
any_start_adds starts = list_any (λ (e : ℕ × Typed). adds e.1) starts

-- the values of leaves with their cells, each kept where a later one adds nodes
abbrev pub leaves : Context → List ℕ → List (ℕ × Typed) → Draft → Left (List Leaf)
leaves c cells [] s = left [] s
leaves c cells (e ∷ es) s =
    let v : Left Expression = value_of (operand c e.1) s in
    let kept : Left Expression = keep c (any_start_adds es) e.1 v.pure v.after in
    let rest : Left (List Leaf) = leaves c (cells_behind cells) es kept.after in
    left (record { number = e.0; cell = first_cell cells; value = kept.pure } ∷ rest.pure)
    rest.after

-- an array, a struct or a union: its values, then one node
abbrev pub initialised : Context → Initial → ℕ → Place → List (ℕ × Typed) → Draft → Draft
initialised c i n place es s =
    let vs : Left (List Leaf) = leaves c i.cells es s in
    add c (init n vs.pure i.zero) place vs.after

-- a scalar, or a struct that one expression of its type initialises
abbrev pub set_to : Context → ℕ → CType → Place → Typed → Draft → Draft
set_to c n t place e s =
    let v : Left Expression = value_of (operand c e) s in
    add c (stored (direct n t) t v.pure) place v.after

abbrev pub is_whole : CType → Typed → List (ℕ × Typed) → Bool
is_whole t e [] = is_scalar t || (is_struct t && is_struct (of e))
is_whole t e (f ∷ fs) = is_scalar t

abbrev pub started : Context → Initial → ℕ → CType → Place → List (ℕ × Typed) → Draft → Draft
started c i n t place [] s = s
started c i n t place (e ∷ es) s =
    if is_whole t e.1 es then set_to c n t place e.1 s
    else initialised c i n place (e ∷ es) s

abbrev pub is_automatic : Storage → Bool
is_automatic Auto = true
is_automatic storage = false

abbrev pub declared : Frame → ℕ → Option Object → Draft → Draft
declared f n None s = s
declared f n (Some o) s =
    if is_automatic o.storage then started f.context (initial_of f n) n o.of o.place o.start s
    else s

-- the objects of a block
abbrev pub declare_all : Frame → List ℕ → Draft → Draft
declare_all f [] s = s
declare_all f (n ∷ ns) s = declare_all f ns (declared f n (slice_get f.context.objects n) s)
