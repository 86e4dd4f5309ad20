-- Words by hand, each by computing.
use Rattle.std.proofs.Common.{◌≡◌, true, false, List, [], ◌∷◌, Option, Some, None, codes}
use Rattle.std.proofs.Common.{refl}
use Rattle.sp_run_words.specs.declared.request.Engine.TheVariants.{Sparse, Dense}
use Rattle.sp_run_words.specs.declared.request.Task.{Task}
use Rattle.sp_run_words.specs.declared.request.Task.TheVariants.{Report, Calls}
use Rattle.sp_run_words.specs.Words.{Word, Asked, fits}

abbrev sharp : Word
sharp = codes "--sharp"

abbrev values : Word
values = codes "--values"

abbrev nodes : Word
nodes = codes "--nodes"

abbrev end : Word
end = codes "--"

abbrev asks : Task → List Word → Option Asked
asks task files = Some (record { task = task; files = files })

one_file : fits (codes "analyse" ∷ codes "a.c" ∷ [])
    ≡ asks (Report Sparse false false false) (codes "a.c" ∷ [])
one_file = refl

-- a flag stands anywhere, and the files keep their order
flag_last : fits (codes "dense" ∷ codes "b.c" ∷ codes "a.c" ∷ values ∷ [])
    ≡ asks (Report Dense false true false) (codes "b.c" ∷ codes "a.c" ∷ [])
flag_last = refl

-- the flags are wanted in any order
both_flags : fits (codes "analyse" ∷ nodes ∷ codes "a.c" ∷ values ∷ [])
    ≡ asks (Report Sparse false true true) (codes "a.c" ∷ [])
both_flags = refl

other_flag : fits (codes "analyse" ∷ nodes ∷ codes "a.c" ∷ [])
    ≡ asks (Report Sparse false false true) (codes "a.c" ∷ [])
other_flag = refl

sharp_flag : fits (codes "dense" ∷ codes "a.c" ∷ sharp ∷ [])
    ≡ asks (Report Dense true false false) (codes "a.c" ∷ [])
sharp_flag = refl

all_flags : fits (codes "analyse" ∷ values ∷ codes "b.c" ∷ nodes ∷ codes "a.c" ∷ sharp ∷ [])
    ≡ asks (Report Sparse true true true) (codes "b.c" ∷ codes "a.c" ∷ [])
all_flags = refl

-- `-` alone and the empty word are files
odd_files : fits (codes "dense" ∷ codes "-" ∷ values ∷ [] ∷ [])
    ≡ asks (Report Dense false true false) (codes "-" ∷ [] ∷ [])
odd_files = refl

-- after `--` each word is a file
after_end : fits (codes "dense" ∷ codes "a.c" ∷ end ∷ values ∷ end ∷ codes "-x" ∷ [])
    ≡ asks (Report Dense false false false) (codes "a.c" ∷ values ∷ end ∷ codes "-x" ∷ [])
after_end = refl

calls : fits (codes "calls" ∷ codes "b.c" ∷ end ∷ nodes ∷ [])
    ≡ asks Calls (codes "b.c" ∷ nodes ∷ [])
calls = refl

no_word : fits [] ≡ None
no_word = refl

no_file : fits (codes "analyse" ∷ values ∷ end ∷ []) ≡ None
no_file = refl

flag_twice : fits (codes "analyse" ∷ values ∷ codes "a.c" ∷ values ∷ []) ≡ None
flag_twice = refl

other_flag_twice : fits (codes "dense" ∷ nodes ∷ values ∷ nodes ∷ codes "a.c" ∷ []) ≡ None
other_flag_twice = refl

sharp_twice : fits (codes "analyse" ∷ sharp ∷ sharp ∷ codes "a.c" ∷ []) ≡ None
sharp_twice = refl

flag_with_value : fits (codes "analyse" ∷ codes "--values=x" ∷ codes "a.c" ∷ []) ≡ None
flag_with_value = refl

other_option : fits (codes "analyse" ∷ codes "a.c" ∷ codes "-v" ∷ []) ≡ None
other_option = refl

part_of_flag : fits (codes "analyse" ∷ codes "--value" ∷ codes "a.c" ∷ []) ≡ None
part_of_flag = refl

other_command : fits (codes "analyze" ∷ codes "a.c" ∷ []) ≡ None
other_command = refl

-- `calls` has no flag, and wants a file too
calls_with_sharp : fits (codes "calls" ∷ sharp ∷ codes "a.c" ∷ []) ≡ None
calls_with_sharp = refl

calls_with_values : fits (codes "calls" ∷ values ∷ codes "a.c" ∷ []) ≡ None
calls_with_values = refl

calls_with_nodes : fits (codes "calls" ∷ codes "a.c" ∷ nodes ∷ []) ≡ None
calls_with_nodes = refl

calls_of_nothing : fits (codes "calls" ∷ []) ≡ None
calls_of_nothing = refl
