-- The words of the command line: when they fit, and what they ask for then.
use Rattle.std.specs.Prelude.{ℕ, Bool, true, false, not, ◌==◌, ◌||◌, List, [], ◌∷◌, ◌++◌, map, filter}
use Rattle.std.specs.Prelude.{Option, Some, None, option_and_then, if◌then◌else◌, codes, bytes_eq}
use Rattle.std.specs.List.{before_first, after_first, list_all}
use Rattle.sp_run_words.specs.declared.request.Engine.TheVariants.{Sparse, Dense}
use Rattle.sp_run_words.specs.declared.request.Command.{Command}
use Rattle.sp_run_words.specs.declared.request.Command.TheVariants as command
use Rattle.sp_run_words.specs.declared.request.Task.{Task}
use Rattle.sp_run_words.specs.declared.request.Task.TheVariants as task
use Rattle.sp_run_words.specs.declared.request.Read.{Read as CodeRead}
use Rattle.sp_run_words.specs.declared.request.Request.{Request}

abbrev pub Word : Type 0
Word = List ℕ

-- what is wanted, and the FILEs in their order
pub record Asked : Type 0 where
  pub task : Task
  pub files : List Word

abbrev pub asked_of : Request → Asked
asked_of r = record { task = r.task; files = map (λ file. file.now) r.files.items }

-- ---- the words behind the command

-- which flags stand, and the FILEs
pub record Read : Type 0 where
  pub sharp : Bool
  pub values : Bool
  pub nodes : Bool
  pub files : List Word

abbrev pub read_of : CodeRead → Read
read_of r = record {
  sharp = r.sharp;
  values = r.values;
  nodes = r.nodes;
  files = map (λ file. file.now) r.files.items;
}

abbrev pub sharp_flag : Word
sharp_flag = codes "--sharp"

abbrev pub values_flag : Word
values_flag = codes "--values"

abbrev pub nodes_flag : Word
nodes_flag = codes "--nodes"

abbrev pub is_flag : Word → Bool
is_flag word = bytes_eq word sharp_flag || bytes_eq word values_flag || bytes_eq word nodes_flag

abbrev pub ends_flags : Word → Bool
ends_flags word = bytes_eq word (codes "--")

-- the word begins with `-` (45) and isn't `-` alone
abbrev pub is_option : Word → Bool
is_option (b ∷ c ∷ bs) = b == 45
is_option word = false

abbrev pub options_of : List Word → List Word
options_of words = filter is_option (before_first ends_flags words)

-- after `--` each word is a FILE
abbrev pub files_of : List Word → List Word
files_of words = filter (λ word. not (is_option word)) (before_first ends_flags words)
    ++ after_first ends_flags words

-- once more: it stood nowhere before
abbrev pub once : Option Bool → Option Bool
once (Some false) = Some true
once (Some true) = None
once None = None

-- whether a flag is one of the options; none where it stands twice
abbrev pub stands : Word → List Word → Option Bool
stands flag [] = Some false
stands flag (word ∷ more) = if bytes_eq word flag then once (stands flag more) else stands flag more

-- the options are flags, each at most once, and there is at least one FILE
abbrev pub read : Bool → Option Bool → Option Bool → Option Bool → List Word → Option Read
read true (Some sharp) (Some values) (Some nodes) (file ∷ files) =
    Some (record { sharp = sharp; values = values; nodes = nodes; files = file ∷ files })
read known sharp values nodes files = None

abbrev pub read_by : List Word → Option Read
read_by words = read (list_all is_flag (options_of words)) (stands sharp_flag (options_of words))
    (stands values_flag (options_of words)) (stands nodes_flag (options_of words)) (files_of words)

-- ---- all the words

abbrev pub command_of : Word → Option Command
command_of word = if bytes_eq word (codes "analyse") then Some (command.Analysis Sparse)
    else if bytes_eq word (codes "dense") then Some (command.Analysis Dense)
    else if bytes_eq word (codes "calls") then Some command.Calls else None

-- what a command wants with these flags; `calls` has none
abbrev pub task_by : Command → Bool → Bool → Bool → Option Task
task_by (command.Analysis engine) sharp values nodes = Some (task.Report engine sharp values nodes)
task_by command.Calls sharp values nodes =
    if sharp || values || nodes then None else Some task.Calls

abbrev pub asked : List Word → Option Task → Option Asked
asked files None = None
asked files (Some wanted) = Some (record { task = wanted; files = files })

abbrev pub asked_by : Command → Read → Option Asked
asked_by c r = asked r.files (task_by c r.sharp r.values r.nodes)

-- what the words ask for, or none where they don't fit
abbrev pub fits : List Word → Option Asked
fits [] = None
fits (word ∷ words) =
    option_and_then (λ c. option_and_then (asked_by c) (read_by words)) (command_of word)
