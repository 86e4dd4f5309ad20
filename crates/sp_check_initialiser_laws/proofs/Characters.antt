-- Arrays of characters of each kind hold the bytes of a literal (C90 6.1.4, 6.5.7).
use Rattle.std.proofs.Common.{◌≡◌, nat_le, true, refl, sym, true≢false, arith}
use Rattle.std.proofs.lemmas.Int.{ints}
use Rattle.sp_types.specs.declared.ctype.IntKind.{IntKind}
use Rattle.sp_types.specs.declared.ctype.IntKind.TheVariants.{Char, SChar, UChar}
use Rattle.sp_check_initialisers.specs.Strings.{is_character_kind}
use Rattle.sp_check_expr_laws.proofs.Characters.{HoldsBytes, signed_character}

pub character_held : (k : IntKind) → is_character_kind k ≡ true → HoldsBytes k
character_held Char h b low = signed_character b low (nat_le b 127) refl
character_held SChar h b low = signed_character b low (nat_le b 127) refl
character_held UChar h b low = (omega (arith, ints), omega (arith, ints, low))
character_held k h b low = absurd (true≢false (sym h))
