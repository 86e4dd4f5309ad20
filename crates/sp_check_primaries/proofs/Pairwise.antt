-- The composites of the types of two lists.
use Rattle.std.proofs.Common.{◌≡◌, ℕ, ◌≤◌, List, [], ◌∷◌, ◌++◌, length, map, drop, refl, ap, sym, ◌∙◌, Some}
use Rattle.std.proofs.lemmas.List.{append-nil, drop_all}
use Rattle.sp_types.specs.Types.{CType, next_type}
use Rattle.sp_types.specs.View.{type_of, types}
use Rattle.sp_types.specs.declared.ctype.CType.{CType as CodeType}
use Rattle.sp_check_primaries.specs.Composite.{composites, composite_with}

-- each type of the first list with that of its number in the second, where there is one
abbrev pub pairwise : List CType → List CType → List CType
pairwise [] us = []
pairwise (t ∷ ts) [] = t ∷ pairwise ts []
pairwise (t ∷ ts) (u ∷ us) = composite_with t (Some u) ∷ pairwise ts us

alone : (ts : List CType) → pairwise ts [] ≡ ts
alone [] = refl
alone (t ∷ ts) = ap (λ us. t ∷ us) (alone ts)

pub pairwise-composites : (ts us : List CType) → types (pairwise ts us) ≡ composites (types ts) (types us)
pairwise-composites [] us = refl
pairwise-composites (t ∷ ts) [] = ap (λ us. next_type t (types us)) (alone ts)
pairwise-composites (t ∷ ts) (u ∷ us) = ap (next_type (composite_with t (Some u))) (pairwise-composites ts us)

-- once the first list is through
pub all_paired : (done : List CType) (ts us : List CodeType) (i : ℕ) → length ts ≤ i → done ++ pairwise (map type_of (drop i ts)) (map type_of (drop i us)) ≡ pairwise (map type_of ts) (map type_of us) → types done ≡ composites (types (map type_of ts)) (types (map type_of us))
all_paired done ts us i h e =
    let none : drop i ts ≡ [] = drop_all i ts h in
    let whole : done ≡ pairwise (map type_of ts) (map type_of us) = sym (append-nil done) ∙ rw none at e in
    ap types whole ∙ pairwise-composites (map type_of ts) (map type_of us)

pub ruleset zipped = (pairwise-composites)
