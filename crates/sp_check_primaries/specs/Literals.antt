-- Literals (C90 6.1.3, 6.1.4) and `sizeof` (6.3.3.4): what they are as expressions, and what they leave in the tables.
use Rattle.std.specs.Prelude.{ℕ, ◌+◌, ◌^◌, ℤ, pos, neg_ℤ, ◌+ℤ◌, nat_le, List, [], ◌∷◌, ◌++◌, length, Some, if◌then◌else◌}
use Rattle.sp_tree.specs.declared.fault.FaultKind.TheVariants.{IncompleteType, BadLength}
use Rattle.sp_tree.specs.declared.fault.Place.{Place}
use Rattle.sp_tree.specs.declared.token.Number.{Number}
use Rattle.sp_types.specs.declared.ctype.IntKind.{IntKind}
use Rattle.sp_types.specs.declared.ctype.IntKind.TheVariants.{Char, UChar, ULong}
use Rattle.sp_types.specs.declared.program.Linkage.TheVariants.{Inner}
use Rattle.sp_types.specs.declared.program.Storage.TheVariants.{Text}
use Rattle.sp_types.specs.Layout.{layout}
use Rattle.sp_types.specs.Programs.{Object}
use Rattle.sp_types.specs.Types.{CType, integer, array}
use Rattle.sp_types.specs.Typed.{Typed, typed}
use Rattle.sp_types.specs.Typed as tree
use Rattle.sp_types.specs.TypedView.{typed_of}
use Rattle.sp_types.specs.declared.typed.TypedExpr.{TypedExpr}
use Rattle.sp_base_checked.specs.Answers.{Checked, accepted, where_met, where_given}
use Rattle.sp_check_operands.specs.Operands.{int}
use Rattle.sp_check_constants.specs.Constants.{literal_kind}
use Rattle.sp_check_env.specs.Env.{Env, with_object, with_constant}
use Rattle.sp_check_primaries.specs.Names.{bytes_of}

-- every literal is a constant of the ladder
abbrev pub number_checked : Env → Number → Place → Place → Checked (Typed × Env)
number_checked env n p m = accepted (typed (tree.number n) (integer (literal_kind n)) p m, with_constant env (pos n.value))

abbrev pub character_checked : Env → ℤ → Place → Place → Checked (Typed × Env)
character_checked env z p m = accepted (typed (tree.character z) int p m, with_constant env z)

-- 6.3.3.4
abbrev pub size_checked : Env → Place → Place → CType → Checked (Typed × Env)
size_checked env p m t = where_given (layout env.tables.structs t) IncompleteType p (λ e. accepted (typed (tree.constant (pos e.size)) (integer ULong) p m, with_constant env (pos e.size)))

-- ---- strings (6.1.4)

-- the bytes of adjacent literals
abbrev pub text_bytes : List (List ℕ) → List ℕ → List ℕ
text_bytes names [] = []
text_bytes names (n ∷ ns) = bytes_of names n ++ text_bytes names ns

-- a byte is a signed char, but in an array of unsigned ones
abbrev pub character_value : IntKind → ℕ → ℤ
character_value UChar b = pos b
character_value k b = if nat_le b 127 then pos b else pos b +ℤ neg_ℤ (pos 256)

-- the values of characters, from this leaf on
abbrev pub characters : IntKind → Place → ℕ → List ℕ → List (ℕ × Typed)
characters k p i [] = []
characters k p i (b ∷ bs) = (i, typed (tree.constant (character_value k b)) (integer k) p p) ∷ characters k p (i + 1) bs

-- what an entry of the code's start values stands for
abbrev pub leaf_seen : ℕ × TypedExpr → ℕ × Typed
leaf_seen s = (s.0, typed_of s.1)

-- with the zero that ends it
abbrev pub text_type : List ℕ → CType
text_type bytes = array (integer Char) (Some (length bytes + 1))

abbrev pub text_object : List ℕ → Place → Object
text_object bytes p = record { name = 0; of = text_type bytes; storage = Text; linkage = Inner; start = characters Char p 0 (bytes ++ 0 ∷ []); place = p }

-- a string is an object of its own, and its length a constant of the ladder
abbrev pub with_text : Env → List ℕ → Place → Env
with_text env bytes p = with_constant (with_object env (text_object bytes p)) (pos (length bytes + 1))

-- what is larger than an object may be is none
abbrev pub text_checked : List (List ℕ) → Env → List ℕ → Place → Place → Checked (Typed × Env)
text_checked names env ns p m =
    where_met (nat_le (length (text_bytes names ns) + 1) (2 ^ 40)) BadLength p
    (accepted (typed (tree.object (length env.tables.objects)) (text_type (text_bytes names ns)) p m, with_text env (text_bytes names ns) p))
