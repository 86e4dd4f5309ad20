-- The law.
use Rattle.std.proofs.Common.{List, [], ◌∷◌, ◌++◌, map, All, subst}
use Rattle.std.proofs.lemmas.List.Elements.{All-head, All-tail}
use Rattle.sp_tree.specs.declared.token.Token.{Token}
use Rattle.sp_check_written_laws.specs.Laws.{UnitsAreWritten}
use Rattle.sp_check_written_laws.proofs.Ranges.{AreInRange}
use Rattle.sp_check_written_laws.proofs.Tokens.{IsRanged, tokens_in_range}
use Rattle.sp_check_written_laws.proofs.LevelledStatements.{written_externals}

first_kinds : (xs ys : List Token) → All IsRanged (xs ++ ys) → AreInRange (map (λ t. t.kind) xs)
first_kinds [] ys h = tt
first_kinds (x ∷ xs) ys h = (All-head IsRanged x (xs ++ ys) h, first_kinds xs ys (All-tail IsRanged x (xs ++ ys) h))

pub written_units : UnitsAreWritten
written_units names text from room tokens rest es bytes answer spells levelled =
    let all : All IsRanged tokens = tokens_in_range names text from room tokens bytes answer in
    written_externals [] es levelled (subst AreInRange spells.0.kinds_of
    (first_kinds spells.0.front rest (subst (All IsRanged) spells.0.whole all)))
