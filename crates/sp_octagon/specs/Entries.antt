-- The entries of an octagon: bounds on differences, by row and column.
use Rattle.std.specs.Prelude.{ℕ, ◌+◌, ◌-◌, ◌*◌, ◌%◌, ◌^◌, ◌&&◌, List, slice_index_or, if◌then◌else◌, ℤ, pos, neg_ℤ, ◌+ℤ◌, ◌<ℤ◌, int_lt}
use Rattle.std.specs.Int.{int_max, int_shr}

-- what stands in row r and column c
abbrev pub Entries : Type 0
Entries = ℕ → ℕ → ℤ

-- what stands where there is no bound. It is greater than every bound, so bounds are ordered as
-- numbers are
abbrev pub unbounded : ℤ
unbounded = pos (2 ^ 120)

abbrev pub IsBound : ℤ → Type 0
IsBound z = z <ℤ unbounded

-- bounds lie from here
abbrev pub least_bound : ℤ
least_bound = neg_ℤ (pos (2 ^ 100))

-- to here
abbrev pub greatest_bound : ℤ
greatest_bound = pos (2 ^ 100)

-- a lesser bound is raised to the least, and a greater one is taken away
abbrev pub cut : ℤ → ℤ
cut z = if int_lt greatest_bound z then unbounded else int_max least_bound z

-- half of z, rounded down
abbrev pub half : ℤ → ℤ
half z = int_shr z 1

-- twice a bound
abbrev pub doubled : ℤ → ℤ
doubled z = if int_lt z unbounded then z +ℤ z else unbounded

-- the sum of two bounds, none where one is missing
abbrev pub sum_of : ℤ → ℤ → ℤ
sum_of a b = if int_lt a unbounded && int_lt b unbounded then a +ℤ b else unbounded

-- half of that sum, rounded down
abbrev pub half_sum : ℤ → ℤ → ℤ
half_sum a b = if int_lt a unbounded && int_lt b unbounded then half (a +ℤ b) else unbounded

-- the row, or column, that stands for the negative of what r stands for: 2i+1 for 2i, and 2i for
-- 2i+1
abbrev pub negative : ℕ → ℕ
negative r = r + 1 - 2 * (r % 2)

-- the entries that a list of 16 rows of 16 has
abbrev pub entries_of : List ℤ → Entries
entries_of bounds r c = slice_index_or bounds (16 * r + c) unbounded
