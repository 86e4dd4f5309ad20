-- Which object is of which function, and which function has which code.
use Rattle.std.specs.Prelude.{ℕ, ◌+◌, List, [], ◌∷◌, Option, Some, None, slice_get, slice_set, map}
use Rattle.sp_types.specs.Programs.{Object, Function}

-- these are of k
abbrev pub marked : ℕ → List ℕ → List (Option ℕ) → List (Option ℕ)
marked k [] marks = marks
marked k (n ∷ ns) marks = marked k ns (slice_set marks n (Some k))

-- what the functions from the number k on list is theirs: formals, and the objects of blocks
abbrev pub owned : ℕ → List Function → List (Option ℕ) → List (Option ℕ)
owned k [] marks = marks
owned k (g ∷ gs) marks = owned (k + 1) gs (marked k g.locals (marked k g.formals marks))

abbrev pub nothing_for : {A : Type 0} → List A → List (Option ℕ)
nothing_for xs = map (λ x. None) xs

-- of each object the defined function that lists it
abbrev pub owners_of : List Object → List Function → List (Option ℕ)
owners_of objects gs = owned 0 gs (nothing_for objects)

-- each has its place in the list, from k on
abbrev pub numbered : ℕ → List ℕ → List (Option ℕ) → List (Option ℕ)
numbered k [] marks = marks
numbered k (n ∷ ns) marks = numbered (k + 1) ns (slice_set marks n (Some k))

-- of each function the number of its definition
abbrev pub codes_of : List Function → List ℕ → List (Option ℕ)
codes_of functions definitions = numbered 0 definitions (nothing_for functions)

abbrev pub known_mark : Option (Option ℕ) → Option ℕ
known_mark None = None
known_mark (Some m) = m

abbrev pub mark_at : List (Option ℕ) → ℕ → Option ℕ
mark_at marks n = known_mark (slice_get marks n)
