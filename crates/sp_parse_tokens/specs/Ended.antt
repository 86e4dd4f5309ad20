-- Texts that end.
use Rattle.std.specs.Prelude.{◌≡◌, ◌≢◌, List, [], ◌∷◌}
use Rattle.sp_tree.specs.declared.token.Kind.TheVariants.{End}
use Rattle.sp_tree.specs.declared.token.Token.{Token}

-- The tokens end with `End`, which is nowhere else.
abbrev pub IsEnded : List Token → Type 0
IsEnded [] = ⊥
IsEnded (x ∷ []) = x.kind ≡ End
IsEnded (x ∷ y ∷ ys) = (x.kind ≢ End) × IsEnded (y ∷ ys)
