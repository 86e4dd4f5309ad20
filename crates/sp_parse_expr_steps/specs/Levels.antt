-- Which level of operators (C90 6.3) goes on, and which take nothing.
use Rattle.std.specs.Prelude.{ℕ, List, [], ◌∷◌, ◌<◌, ◌==◌, ◌&&◌, nat_lt, if◌then◌else◌, false, ◌≡◌, ⊤}
use Rattle.sp_tree.specs.declared.token.Token.{Token}
use Rattle.sp_parse_grammar.specs.CTokens.{looseness, view}
use Rattle.sp_parse_tokens.specs.Sorts.{sort_of}
use Rattle.sp_parse_expr_steps.specs.Reading.{first_sort}

-- the first token is no operator of a level between these two, where these are the type names
abbrev pub NoneBetween : List ℕ → List Token → ℕ → ℕ → Type 0
NoneBetween types [] j k = ⊤
NoneBetween types (x ∷ xs) j k = (i : ℕ) → j < i → i < k → (looseness (view types (sort_of x.kind)) == i) ≡ false

-- The next level behind level j: that of the first token, where it lies between j and k, and else k.
abbrev pub next_level : List ℕ → List Token → ℕ → ℕ → ℕ
next_level types text j k = let found = looseness (first_sort types text) in if nat_lt j found && nat_lt found k then found else k
