-- Sizes and alignments in bytes (C90 6.3.3.4).
use Rattle.std.specs.Prelude.{ℕ, ◌*◌, ◌^◌, nat_le, if◌then◌else◌, List, Option, Some, None, slice_get}
use Rattle.sp_types.specs.Types.{CType, void, integer, floating, pointer, array, structure, function, Struct}
use Rattle.sp_types.specs.declared.ctype.IntKind.{IntKind}
use Rattle.sp_types.specs.declared.ctype.IntKind.TheVariants.{Char, SChar, UChar, Short, UShort, Int, UInt, Long, ULong}
use Rattle.sp_types.specs.declared.ctype.FloatKind.{FloatKind}
use Rattle.sp_types.specs.declared.ctype.FloatKind.TheVariants.{Float, Double, LongDouble}
use Rattle.sp_types.specs.declared.extents.Extent.{Extent}

abbrev pub extent : ℕ → ℕ → Extent
extent size align = record { size = size; align = align }

abbrev pub integer_size : IntKind → ℕ
integer_size Char = 1
integer_size SChar = 1
integer_size UChar = 1
integer_size Short = 2
integer_size UShort = 2
integer_size Int = 4
integer_size UInt = 4
integer_size Long = 8
integer_size ULong = 8

abbrev pub floating_size : FloatKind → ℕ
floating_size Float = 4
floating_size Double = 8
floating_size LongDouble = 16

abbrev pub integer_extent : IntKind → Extent
integer_extent k = extent (integer_size k) (integer_size k)

abbrev pub floating_extent : FloatKind → Extent
floating_extent k = extent (floating_size k) (floating_size k)

-- an array of so many; none is larger than 2^40 bytes
abbrev pub repeated : ℕ → Option Extent → Option Extent
repeated n None = None
repeated n (Some e) = if nat_le (e.size * n) (2 ^ 40) then Some (extent (e.size * n) e.align) else None

-- what the table tells of a struct
abbrev pub struct_extent : Option Struct → Option Extent
struct_extent None = None
struct_extent (Some s) = s.extent

-- the size and the alignment of a complete type
abbrev pub layout : List Struct → CType → Option Extent
layout ss void = None
layout ss (integer k) = Some (integer_extent k)
layout ss (floating k) = Some (floating_extent k)
layout ss (pointer t) = Some (extent 8 8)
layout ss (array t None) = None
layout ss (array t (Some n)) = repeated n (layout ss t)
layout ss (structure k) = struct_extent (slice_get ss k)
layout ss (function s) = None
