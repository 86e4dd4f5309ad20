-- Kinds of tokens that are in range.
use Rattle.std.proofs.Common.{◌^◌, ◌<◌, List, [], ◌∷◌, ◌++◌}
use Rattle.std.specs.Prelude.{⊤}
use Rattle.sp_tree.specs.declared.token.Kind.{Kind}
use Rattle.sp_tree.specs.declared.token.Kind.TheVariants.{Number, Char}
use Rattle.sp_types.specs.declared.ctype.IntKind.TheVariants.{Int}
use Rattle.sp_ir.specs.Formed.{InKind}

-- a number is one of 64 bits, a character is an int
abbrev pub IsInRange : Kind → Type 0
IsInRange (Number n) = n.value < 2 ^ 64
IsInRange (Char z) = InKind Int z
IsInRange k = ⊤

abbrev pub AreInRange : List Kind → Type 0
AreInRange [] = ⊤
AreInRange (k ∷ ks) = IsInRange k × AreInRange ks

pub parts : (xs ys : List Kind) → AreInRange (xs ++ ys) → AreInRange xs × AreInRange ys
parts [] ys h = (tt, h)
parts (x ∷ xs) ys h = let rest : AreInRange xs × AreInRange ys = parts xs ys h.1 in
    ((h.0, rest.0), rest.1)

pub three_parts : (xs ys zs : List Kind) → AreInRange ((xs ++ ys) ++ zs)
    → AreInRange xs × AreInRange ys × AreInRange zs
three_parts xs ys zs h =
    let x : AreInRange (xs ++ ys) × AreInRange zs = parts (xs ++ ys) zs h in
    let y : AreInRange xs × AreInRange ys = parts xs ys x.0 in
    (y.0, y.1, x.1)
