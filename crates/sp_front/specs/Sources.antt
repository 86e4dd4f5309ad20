-- Files as they are read: their names and their texts.
use Rattle.std.specs.Prelude.{◌+◌, ◌<◌, ◌≤◌, ℕ, List, [], ◌∷◌, length, All}
use Rattle.sp_front.specs.declared.sources.Source.{Source as CodeSource}

pub record Source : Type 0 where
  pub name : List ℕ
  pub text : List ℕ

abbrev pub source_of : CodeSource → Source
source_of s = record { name = s.name.items; text = s.text.items }

-- its name and its text are bytes
pub record IsOfBytes (s : Source) : Type 0 where
  pub name : All (λ b. b < 256) s.name
  pub text : All (λ b. b < 256) s.text

-- the bytes of all files
abbrev pub total_length : List Source → ℕ
total_length [] = 0
total_length (s ∷ sources) = length s.text + total_length sources

-- the most files, and the most bytes of all of them
abbrev pub most_files : ℕ
most_files = 64

abbrev pub max_text : ℕ
max_text = 16777216

-- so many files and bytes are read
pub record AreWithin (sources : List Source) : Type 0 where
  pub files : length sources ≤ most_files
  pub bytes : total_length sources ≤ max_text
