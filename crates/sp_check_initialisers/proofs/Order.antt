-- Runs and values in the order of the code's lists.
use Rattle.std.proofs.Common.{◌≡◌, ℕ, suc, true, Some, List, [], ◌∷◌, ◌++◌, length, map, get_or, refl, ap, sym, arith, None}
use Rattle.std.specs.Prelude.{◌≢◌, reverse}
use Rattle.std.proofs.lemmas.List.{reverse-append, map-append}
use Rattle.sp_parse_trees.specs.View.{inits}
use Rattle.sp_parse_trees.specs.declared.tree.Init.{Init as CodeInit}
use Rattle.sp_check_initialisers.specs.InitView.{init_of}
use Rattle.sp_types.specs.Types.{Struct}
use Rattle.sp_parse_trees.specs.Syntax.{Init}
use Rattle.sp_check_initialisers.specs.Runs.{Run, Part, is_structure, into_struct, inwards}
use Rattle.sp_check_initialisers.specs.Strings.{one_value, only_value}

-- what is put last comes first
pub reverse-last : (rs : List Run) (r : Run) → reverse (rs ++ r ∷ []) ≡ r ∷ reverse rs
reverse-last rs r = reverse-append rs (r ∷ [])

-- a list has one value, or another number of them
pub value_alone : (xs : List CodeInit) (x : CodeInit) → length xs ≡ 1 → x ≡ get_or xs 0 x → only_value (inits (map init_of xs)) ≡ one_value (init_of x)
value_alone [] x h e = absurd (omega arith)
value_alone (y ∷ []) x h e = ap (λ z. one_value (init_of z)) (sym e)
value_alone (y ∷ z ∷ zs) x h e = absurd (omega arith)

pub values_together : (xs : List CodeInit) → length xs ≢ 1 → only_value (inits (map init_of xs)) ≡ None
values_together [] h = refl
values_together (x ∷ []) h = absurd (h refl)
values_together (x ∷ y ∷ ys) h = refl

pub ruleset order = (reverse-last, map-append, value_alone, values_together)

-- a struct is entered, and one level less is left
pub inwards_step : (ss : List Struct) (i : Init) (n m : ℕ) (x y : Part) → n ≡ suc m → is_structure x.of ≡ true → into_struct ss i x ≡ Some y → inwards ss i n x ≡ inwards ss i m y
inwards_step ss i n m x y e s g = rw (e, s, g) refl
