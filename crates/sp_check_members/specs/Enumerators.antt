-- The constants of enumerations (C90 6.5.2.2).
use Rattle.std.specs.Prelude.{ℕ, ℤ, pos, ◌+ℤ◌, ◌&&◌, Option, Some, None, int_le, is_none}
use Rattle.sp_tree.specs.declared.fault.FaultKind.TheVariants.{OtherTagKind, BadOperand}
use Rattle.sp_tree.specs.declared.fault.Place.{Place}
use Rattle.sp_types.specs.declared.ctype.IntKind.TheVariants.{Int}
use Rattle.sp_base_checked.specs.Answers.{Checked, accepted, and_then, where_met}
use Rattle.sp_check_constants.specs.Constants.{least, greatest}
use Rattle.sp_check_scopes.specs.declared.meaning.Tag.TheVariants as tags
use Rattle.sp_check_scopes.specs.Meanings.{constant}
use Rattle.sp_check_scopes.specs.Scopes.{entry}
use Rattle.sp_check_env.specs.Env.{Env, with_tag, with_constant, declared}

-- 6.5.2.3: braces define the tag, which its scope may have but once
abbrev pub with_enum_tag : Env → Option ℕ → Place → Checked Env
with_enum_tag env None p = accepted env
with_enum_tag env (Some n) p = where_met (is_none (entry env.scopes.inner.tags n)) OtherTagKind p (accepted (with_tag env n tags.Enum))

-- its value is one of int, and a constant of the ladder; `p` is the place of its name. The next constant is one more
abbrev pub enumerator : Env → ℕ → Place → ℤ → Checked (ℤ × Env)
enumerator env n p z =
    where_met (int_le (least Int) z && int_le z (greatest Int)) BadOperand p
    (and_then (declared (with_constant env z) n (constant z) p) (λ env'. accepted (z +ℤ pos 1, env')))
