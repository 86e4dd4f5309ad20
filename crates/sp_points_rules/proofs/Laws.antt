-- Steps one after another.
use Rattle.std.proofs.Common.{◌≡◌, ◌∙◌, ◌+◌, ◌<◌, Option, List, [], ◌∷◌, ◌++◌, ℕ, length, take, get_or, refl, sym, ap, add-one}
use Rattle.std.proofs.Math.Seq.{take-suc}
use Rattle.sp_ir.specs.declared.region.Step.{Step}
use Rattle.sp_ir.specs.Programs.{Lowered}
use Rattle.sp_types.specs.Types.{CType, Struct}
use Rattle.sp_base_region_laws.specs.Parts.{part_of, type_along}
use Rattle.sp_points_rules.specs.Paths.{next, descend}

pub descend-snoc : (p : Lowered) (o : Option ℕ) (xs : List Step) (s : Step) → descend p o (xs ++ s ∷ []) ≡ next p (descend p o xs) s
descend-snoc p o [] s = refl
descend-snoc p o (x ∷ xs) s = descend-snoc p (next p o x) xs s

pub descend-more : (p : Lowered) (o at new : Option ℕ) (xs : List Step) (i : ℕ) (d : Step) → i < length xs → at ≡ descend p o (take i xs) → new ≡ next p at (get_or xs i d) → new ≡ descend p o (take (i + 1) xs)
descend-more p o at new xs i d low is step =
    step ∙ ap (λ x. next p x (get_or xs i d)) is ∙ sym (descend-snoc p o (take i xs) (get_or xs i d)) ∙ ap (λ l. descend p o l) (sym (take-suc xs i d low)) ∙ ap (λ n. descend p o (take n xs)) (sym (add-one i))

pub along-snoc : (ss : List Struct) (o : Option CType) (path : List Step) (s : Step) → type_along ss o (path ++ s ∷ []) ≡ part_of ss (type_along ss o path) s
along-snoc ss o [] s = refl
along-snoc ss o (x ∷ path) s = along-snoc ss (part_of ss o x) path s

pub along-more : (ss : List Struct) (o at new : Option CType) (xs : List Step) (i : ℕ) (d : Step) → i < length xs → at ≡ type_along ss o (take i xs) → new ≡ part_of ss at (get_or xs i d) → new ≡ type_along ss o (take (i + 1) xs)
along-more ss o at new xs i d low is step =
    step ∙ ap (λ x. part_of ss x (get_or xs i d)) is ∙ sym (along-snoc ss o (take i xs) (get_or xs i d)) ∙ ap (λ l. type_along ss o l) (sym (take-suc xs i d low)) ∙ ap (λ n. type_along ss o (take n xs)) (sym (add-one i))
