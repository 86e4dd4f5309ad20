-- What each form of expression does with its operands once these are lowered. `e` is the whole
-- expression: nodes stand at its place, operators at its mark.
use Rattle.std.specs.Prelude.{ℕ, ◌==◌, Bool, true, false, pos, List, [], ◌∷◌, ◌++◌, if◌then◌else◌}
use Rattle.sp_tree.specs.declared.token.Punct.{Punct}
use Rattle.sp_tree.specs.declared.token.Punct.TheVariants.{Plus, Minus, Less, LessEqual, Greater, GreaterEqual, EqualEqual, NotEqual}
use Rattle.sp_tree.specs.declared.fault.Place.{Place}
use Rattle.sp_types.specs.declared.ctype.IntKind.{IntKind}
use Rattle.sp_types.specs.declared.ctype.IntKind.TheVariants.{Int}
use Rattle.sp_types.specs.Types.{CType, void, integer, pointer, array, structure, function}
use Rattle.sp_types.specs.Typed.{Typed, of, place_of, mark_of}
use Rattle.sp_types.specs.Arithmetic.{promoted_kind, common_kind}
use Rattle.sp_ir.specs.Commands.{Expression, number, address, decay, read, convert, unary, binary, compare, move, distance, Lvalue, direct, through, field, assign}
use Rattle.sp_ir.specs.Terrain.{size_of}
use Rattle.sp_ir.specs.Formed.{is_pointer}
use Rattle.sp_lower_draft.specs.Context.{Context, kind_of, pointee, pointee_size, member_of}
use Rattle.sp_lower_draft.specs.Draft.{Draft, Left, left, Branch, with_loose, add, stored, temporary, save}
use Rattle.sp_lower_draft.specs.Operators.{is_shift, is_minus, same_kind}

-- ---- lvalues

-- what a pointer points to and has no layout: an array of unknown length, a function
abbrev pub is_bare : Context → Lvalue → Bool
is_bare c (through v t at) = size_of c.structs t == 0
is_bare c l = false

-- the pointer that is followed
abbrev pub pointer_in : Lvalue → Expression
pointer_in (through v t at) = v
pointer_in l = address l

-- the address of an lvalue, as a value of this type (C90 6.3.3.2); where it has no layout, it is
-- the pointer itself
abbrev pub addressed : Context → CType → Lvalue → Expression
addressed c t l = if is_bare c l then convert t (pointer_in l) else address l

-- the address of an array's first element, as a value of this type (C90 6.2.2.1)
abbrev pub decayed : Context → CType → Lvalue → Expression
decayed c t l = if is_bare c l then convert t (pointer_in l) else decay l

-- of a struct; one that isn't complete has no value, and unused its address is left (C90 6.2.2.1)
abbrev pub struct_loaded : Context → CType → Lvalue → Expression
struct_loaded c t l = if size_of c.structs t == 0 then addressed c (pointer t) l else read l

-- the value of an lvalue of this type: that of an array is its first element's address, that of a
-- function its own (C90 6.2.2.1). What `extern void x;` declares has none; unused its address is left
abbrev pub loaded : Context → CType → Lvalue → Expression
loaded c void l = addressed c (pointer void) l
loaded c (array t n) l = decayed c (pointer t) l
loaded c (function s) l = addressed c (pointer (function s)) l
loaded c (structure n) l = struct_loaded c (structure n) l
loaded c t l = read l

-- `a[b]`: one of the two is a pointer (C90 6.3.2.1)
abbrev pub element_at : Context → CType → CType → Expression → Expression → Expression
element_at c a b x y =
    if is_pointer a then move x y false (pointee_size c a) else move y x false (pointee_size c b)

abbrev pub indexed : Context → Typed → Typed → Typed → Expression → Expression → Lvalue
indexed c e a b x y = through (element_at c (of a) (of b) x y) (of e) (place_of e)

-- `l.name` (C90 6.3.2.3)
abbrev pub member_taken : Context → Typed → ℕ → Lvalue → Lvalue
member_taken c a name l = field l (member_of c (of a) name).0 (member_of c (of a) name).1

-- `v->name`
abbrev pub arrow_taken : Context → Typed → Typed → ℕ → Expression → Lvalue
arrow_taken c e a name v =
    field (through v (pointee (of a)) (place_of e))
    (member_of c (pointee (of a)) name).0 (member_of c (pointee (of a)) name).1

-- `*v`
abbrev pub followed : Typed → Expression → Lvalue
followed e v = through v (of e) (place_of e)

-- ---- values

-- a sum or a difference, of numbers or with a pointer (C90 6.3.6)
abbrev pub added : Context → Typed → Typed → Typed → Expression → Expression → Expression
added c e a b x y =
    if is_pointer (of a) then move x y false (pointee_size c (of a))
    else if is_pointer (of b) then move y x false (pointee_size c (of b))
    else binary Plus (kind_of (of e)) x y (mark_of e)

abbrev pub subtracted : Context → Typed → Typed → Typed → Expression → Expression → Expression
subtracted c e a b x y =
    if is_pointer (of a) then
    (if is_pointer (of b) then distance x y (pointee_size c (of a))
    else move x y true (pointee_size c (of a)))
    else binary Minus (kind_of (of e)) x y (mark_of e)

-- an operator between two values (C90 6.3.5 to 6.3.12)
abbrev pub operated : Context → Punct → Typed → Typed → Typed → Expression → Expression
    → Expression
operated c Plus e a b x y = added c e a b x y
operated c Minus e a b x y = subtracted c e a b x y
operated c Less e a b x y = compare Less x y
operated c LessEqual e a b x y = compare LessEqual x y
operated c Greater e a b x y = compare Greater x y
operated c GreaterEqual e a b x y = compare GreaterEqual x y
operated c EqualEqual e a b x y = compare EqualEqual x y
operated c NotEqual e a b x y = compare NotEqual x y
operated c p e a b x y = binary p (kind_of (of e)) x y (mark_of e)

-- `!v` (C90 6.3.3.3)
abbrev pub negated : Expression → Expression
negated v = compare EqualEqual v (number (pos 0) Int)

-- ---- conditions

-- the value of a short circuit: 1 on the true ends, 0 on the false ends
abbrev pub truth : Context → Typed → Branch → Left Expression
truth c e b =
    let made : Left Lvalue = temporary c (of e) b.after in
    let one : Draft = add c (assign made.pure (number (pos 1) Int)) (place_of e)
    (with_loose b.yes made.after) in
    let zero : Draft = add c (assign made.pure (number (pos 0) Int)) (place_of e)
    (with_loose b.no one) in
    left (read made.pure) (with_loose (one.loose ++ zero.loose) zero)

-- the ends of a condition, all loose
abbrev pub met : Branch → Draft
met b = with_loose (b.yes ++ b.no) b.after

-- ---- assignments (C90 6.3.16)

-- `l = v`, unused; used, the value goes to a temporary first
abbrev pub assigned : Context → Typed → Lvalue → Expression → Draft → Draft
assigned c e to v s = add c (stored to (of e) v) (place_of e) s

abbrev pub assigned_used : Context → Typed → Lvalue → Expression → Draft → Left Lvalue
assigned_used c e to v s =
    let saved : Left Lvalue = save c (of e) v (place_of e) s in
    left saved.pure (assigned c e to (read saved.pure) saved.after)

-- a conversion between integer types, written only where they differ
abbrev pub as_kind : IntKind → IntKind → Expression → Expression
as_kind from to v = if same_kind from to then v else convert (integer to) v

-- the kind in which `k op j` is computed, and that to which its right side is converted
abbrev pub computing_kind : Punct → IntKind → IntKind → IntKind
computing_kind op k j = if is_shift op then promoted_kind k else common_kind k j

abbrev pub operand_kind : Punct → IntKind → IntKind → IntKind
operand_kind op k j = if is_shift op then promoted_kind j else common_kind k j

-- the value of `old op v`, converted to the type of the left side, where v is of the kind j
-- (C90 6.3.16.2)
abbrev pub combined : Context → CType → Punct → Expression → IntKind → Expression → Place
    → Expression
combined c (integer k) op old j v mark =
    as_kind (computing_kind op k j) k
    (binary op (computing_kind op k j) (as_kind k (computing_kind op k j) old)
    (as_kind j (operand_kind op k j) v) mark)
combined c t op old j v mark = move old v (is_minus op) (pointee_size c t)

-- `l op= v`, `++l`, unused and used
abbrev pub updated : Context → Typed → Punct → IntKind → Lvalue → Expression → Draft → Draft
updated c e op j to v s =
    add c (assign to (combined c (of e) op (read to) j v (mark_of e))) (place_of e) s

abbrev pub updated_used : Context → Typed → Punct → IntKind → Lvalue → Expression → Draft
    → Left Expression
updated_used c e op j to v s =
    let saved : Left Lvalue = save c (of e) (combined c (of e) op (read to) j v (mark_of e))
    (place_of e) s in
    left (read saved.pure) (add c (assign to (read saved.pure)) (place_of e) saved.after)

-- 1, by which `++` and `--` change
abbrev pub one : Expression
one = number (pos 1) Int

-- `l++`, used: the old value is left
abbrev pub stepped_used : Context → Typed → Punct → Lvalue → Draft → Left Expression
stepped_used c e op to s =
    let saved : Left Lvalue = save c (of e) (read to) (place_of e) s in
    left (read saved.pure)
    (add c (assign to (combined c (of e) op (read saved.pure) Int one (mark_of e))) (place_of e)
    saved.after)
