-- Where a walk of `clap` over the words stands, and what it finds at its end.
use Rattle.std.proofs.Common.{◌≡◌, ◌∙◌, Bool, true, false, cond, ◌||◌, refl, sym, ap, ap₂}
use Rattle.std.proofs.Common.{List, [], ◌∷◌, ◌++◌, append-nil, append_assoc, codes, fold}
use Rattle.std.proofs.Common.{Option, Some, None, is_some, option_map, subst}
use Rattle.std.specs.Prelude.{option_and_then}
use Rattle.std.specs.Str.{bytes_eq}
use Rattle.std.specs.List.{list_all}
use Rattle.clap.specs.Walk.{Held, Row, Rule, Text, Waiting, Walk, idle, positional}
use Rattle.clap.specs.Walk.{all_of, finished, has_row, one_of, row_text, settled, with_default}
use Rattle.clap.specs.Walk.{without}
use Rattle.clap.specs.Simple.{Shape, built}
use Rattle.clap.specs.Kinds.{Kinds, or_else}
use Rattle.clap.specs.Faults.{check_fault, defaults_fault, settle_fault}
use Rattle.clap.specs.declared.error.kind.ErrorKind.TheVariants.{MissingRequiredArgument}
use Rattle.clap.specs.declared.parser.matches.ValueSource.TheVariants.{CommandLine, DefaultValue}
use Rattle.clap.specs.declared.builder.value_parser.Reading.TheVariants.{AsWritten}
use Rattle.sp_run_words.specs.Reader.{reader_app}
use Rattle.sp_run_words.specs.Words.{Read, Word, is_flag, nodes_flag, once, read, sharp_flag, stands}
use Rattle.sp_run_words.specs.Words.{values_flag}
use Rattle.sp_run_words.proofs.RowLaws.{found, given, has_row_found, none_lost, other_row, own_row, row_with}

abbrev pub top : Shape
top = (built reader_app).top

abbrev pub rules : List Rule
rules = top.rules

abbrev pub sharp_id : Text
sharp_id = codes "sharp"

abbrev pub values_id : Text
values_id = codes "values"

abbrev pub nodes_id : Text
nodes_id = codes "nodes"

abbrev pub files_id : Text
files_id = codes "files"

-- ---- where the walk stands: what was seen, and the rows that tell it

abbrev pub row : Text → List Text → Row
row id values = record {
  id = id;
  values = values;
  count = None;
  source = Some CommandLine;
  reading = AsWritten;
}

abbrev pub flag_row : Text → Bool → Option Row
flag_row id stands = cond stands (Some (row id (codes "true" ∷ []))) None

abbrev pub file_row : List Word → Option Row
file_row [] = None
file_row (f ∷ fs) = Some (row files_id (f ∷ fs))

pub record Holds (s : Read) (rows : List Row) : Type 0 where
  pub sharp : found sharp_id rows ≡ flag_row sharp_id s.sharp
  pub values : found values_id rows ≡ flag_row values_id s.values
  pub nodes : found nodes_id rows ≡ flag_row nodes_id s.nodes
  pub files : found files_id rows ≡ file_row s.files

abbrev pub nothing : Read
nothing = record { sharp = false; values = false; nodes = false; files = [] }

pub nothing_holds : Holds nothing []
nothing_holds = record { sharp = refl; values = refl; nodes = refl; files = refl }

-- a file is used
abbrev pub with_file : Word → Read → Read
with_file w s = record s { files = s.files ++ w ∷ [] }

abbrev pub file_used : Word → List Row → List Row
file_used w rows = given files_id CommandLine (w ∷ []) rows

pub file_holds : (w : Word) (s : Read) (rows : List Row) → Holds s rows
    → Holds (with_file w s) (file_used w rows)
file_holds w s rows h = record {
  sharp = other_row files_id CommandLine (w ∷ []) sharp_id refl rows ∙ h.sharp;
  values = other_row files_id CommandLine (w ∷ []) values_id refl rows ∙ h.values;
  nodes = other_row files_id CommandLine (w ∷ []) nodes_id refl rows ∙ h.nodes;
  files = own_row files_id CommandLine (w ∷ []) refl rows ∙ by_files s.files h.files;
}
  where
    by_files : (fs : List Word) → found files_id rows ≡ file_row fs
        → Some (row_with files_id CommandLine (w ∷ []) (found files_id rows))
        ≡ file_row (fs ++ w ∷ [])
    by_files [] e = rw e refl
    by_files (f ∷ fs) e = rw e refl

-- the flag of this id is used
abbrev pub flag_used : Text → List Row → List Row
flag_used id rows = given id CommandLine (codes "true" ∷ []) (without id rows)

abbrev pub with_sharp : Read → Read
with_sharp s = record s { sharp = true }

abbrev pub with_values : Read → Read
with_values s = record s { values = true }

abbrev pub with_nodes : Read → Read
with_nodes s = record s { nodes = true }

module _ (id : Text) (rows : List Row) (none : found id rows ≡ None) where
  flag_alone : flag_used id rows ≡ given id CommandLine (codes "true" ∷ []) rows
  flag_alone = ap (given id CommandLine (codes "true" ∷ [])) (none_lost id rows none)

  flag_has : bytes_eq id id ≡ true → found id (flag_used id rows) ≡ flag_row id true
  flag_has same = ap (found id) flag_alone ∙ own_row id CommandLine (codes "true" ∷ []) same rows
      ∙ ap (λ o. Some (row_with id CommandLine (codes "true" ∷ []) o)) none

  flag_keeps : (other : Text) → bytes_eq id other ≡ false
      → found other (flag_used id rows) ≡ found other rows
  flag_keeps other differs = ap (found other) flag_alone
      ∙ other_row id CommandLine (codes "true" ∷ []) other differs rows

module _ (s : Read) (rows : List Row) (h : Holds s rows) where
  pub sharp_holds : s.sharp ≡ false → Holds (with_sharp s) (flag_used sharp_id rows)
  sharp_holds first =
      let none : found sharp_id rows ≡ None = h.sharp ∙ ap (flag_row sharp_id) first in
      record {
        sharp = flag_has sharp_id rows none refl;
        values = flag_keeps sharp_id rows none values_id refl ∙ h.values;
        nodes = flag_keeps sharp_id rows none nodes_id refl ∙ h.nodes;
        files = flag_keeps sharp_id rows none files_id refl ∙ h.files;
      }

  pub values_hold : s.values ≡ false → Holds (with_values s) (flag_used values_id rows)
  values_hold first =
      let none : found values_id rows ≡ None = h.values ∙ ap (flag_row values_id) first in
      record {
        sharp = flag_keeps values_id rows none sharp_id refl ∙ h.sharp;
        values = flag_has values_id rows none refl;
        nodes = flag_keeps values_id rows none nodes_id refl ∙ h.nodes;
        files = flag_keeps values_id rows none files_id refl ∙ h.files;
      }

  pub nodes_hold : s.nodes ≡ false → Holds (with_nodes s) (flag_used nodes_id rows)
  nodes_hold first =
      let none : found nodes_id rows ≡ None = h.nodes ∙ ap (flag_row nodes_id) first in
      record {
        sharp = flag_keeps nodes_id rows none sharp_id refl ∙ h.sharp;
        values = flag_keeps nodes_id rows none values_id refl ∙ h.values;
        nodes = flag_has nodes_id rows none refl;
        files = flag_keeps nodes_id rows none files_id refl ∙ h.files;
      }

has_flag_row : (id : Text) (b : Bool) → is_some (flag_row id b) ≡ b
has_flag_row id true = refl
has_flag_row id false = refl

-- whether a flag has a row
pub has_sharp : (s : Read) (rows : List Row) → Holds s rows → has_row sharp_id rows ≡ s.sharp
has_sharp s rows h =
    has_row_found sharp_id rows ∙ ap is_some h.sharp ∙ has_flag_row sharp_id s.sharp

pub has_values : (s : Read) (rows : List Row) → Holds s rows → has_row values_id rows ≡ s.values
has_values s rows h =
    has_row_found values_id rows ∙ ap is_some h.values ∙ has_flag_row values_id s.values

pub has_nodes : (s : Read) (rows : List Row) → Holds s rows → has_row nodes_id rows ≡ s.nodes
has_nodes s rows h =
    has_row_found nodes_id rows ∙ ap is_some h.nodes ∙ has_flag_row nodes_id s.nodes

-- the file that waits is used
abbrev pub settle : Option Word → Read → Read
settle None s = s
settle (Some w) s = with_file w s

abbrev pub settled_rows : Option Word → List Row → List Row
settled_rows None rows = rows
settled_rows (Some w) rows = file_used w rows

pub settled_holds : (p : Option Word) (s : Read) (rows : List Row) → Holds s rows
    → Holds (settle p s) (settled_rows p rows)
settled_holds None s rows h = h
settled_holds (Some w) s rows h = file_holds w s rows h

abbrev pub pending : Option Word → Option (Text × List Text)
pending None = None
pending (Some w) = Some (files_id, w ∷ [])

abbrev pub waiting : Option Word → Waiting
waiting None = idle
waiting (Some w) = positional

abbrev pub held : Option Word → List Row → Held
held p rows = record { rows = rows; pending = pending p; skip = 0 }

abbrev pub at : Bool → Option Word → List Row → Walk
at trailing p rows = record {
  held = held p rows;
  waiting = waiting p;
  position = 1;
  is_trailing = trailing;
  stopped = None;
}

-- ---- what the words say, where some were seen and others are to come

abbrev pub stands_from : Bool → Word → List Word → Option Bool
stands_from seen flag options = cond seen (once (stands flag options)) (stands flag options)

abbrev pub read_at : Read → List Word → List Word → Option Read
read_at s options more = read (list_all is_flag options)
    (stands_from s.sharp sharp_flag options) (stands_from s.values values_flag options)
    (stands_from s.nodes nodes_flag options) (s.files ++ more)

pub read_file : (w : Word) (s : Read) (options more : List Word)
    → read_at (with_file w s) options more ≡ read_at s options (w ∷ more)
read_file w s options more = ap (read (list_all is_flag options)
    (stands_from s.sharp sharp_flag options) (stands_from s.values values_flag options)
    (stands_from s.nodes nodes_flag options)) (append_assoc s.files (w ∷ []) more)

module _ (s : Read) (options more : List Word) where
  pub read_sharp : s.sharp ≡ false
      → read_at (with_sharp s) options more ≡ read_at s (sharp_flag ∷ options) more
  read_sharp first = rw first refl

  pub read_values : s.values ≡ false
      → read_at (with_values s) options more ≡ read_at s (values_flag ∷ options) more
  read_values first = rw first refl

  pub read_nodes : s.nodes ≡ false
      → read_at (with_nodes s) options more ≡ read_at s (nodes_flag ∷ options) more
  read_nodes first = rw first refl

  twice : (o : Option Bool) → once (once o) ≡ None
  twice None = refl
  twice (Some true) = refl
  twice (Some false) = refl

  no_sharp : (b : Bool) (values nodes : Option Bool) (files : List Word)
      → read b None values nodes files ≡ None
  no_sharp true values nodes files = refl
  no_sharp false values nodes files = refl

  no_values : (b : Bool) (sharp nodes : Option Bool) (files : List Word)
      → read b sharp None nodes files ≡ None
  no_values true None nodes files = refl
  no_values true (Some s) nodes files = refl
  no_values false sharp nodes files = refl

  no_nodes : (b : Bool) (sharp values : Option Bool) (files : List Word)
      → read b sharp values None files ≡ None
  no_nodes true None values files = refl
  no_nodes true (Some s) None files = refl
  no_nodes true (Some s) (Some v) files = refl
  no_nodes false sharp values files = refl

  pub sharp_twice : s.sharp ≡ true → read_at s (sharp_flag ∷ options) more ≡ None
  sharp_twice second = let none = twice (stands sharp_flag options) in
      rw (second, none) (no_sharp _ _ _ _)

  pub values_twice : s.values ≡ true → read_at s (values_flag ∷ options) more ≡ None
  values_twice second = let none = twice (stands values_flag options) in
      rw (second, none) (no_values _ _ _ _)

  pub nodes_twice : s.nodes ≡ true → read_at s (nodes_flag ∷ options) more ≡ None
  nodes_twice second = let none = twice (stands nodes_flag options) in
      rw (second, none) (no_nodes _ _ _ _)

-- ---- the end of a walk

-- the kinds of fault after the walk
abbrev pub end_fault : Held → Kinds
end_fault h = or_else (settle_fault rules false h)
    (or_else (defaults_fault (settled rules h).rows rules)
    (check_fault top (finished rules h) false))

-- nothing fails and the rows are those of what is read; or something fails
abbrev pub Agrees : Option Read → Kinds → List Row → Type 0
Agrees None kinds rs = kinds ≡ [] → ⊥
Agrees (Some r) kinds rs = (kinds ≡ [])
    × (one_of sharp_id rs ≡ Some (cond r.sharp (codes "true") (codes "false")))
    × (one_of values_id rs ≡ Some (cond r.values (codes "true") (codes "false")))
    × (one_of nodes_id rs ≡ Some (cond r.nodes (codes "true") (codes "false")))
    × (all_of files_id rs ≡ Some r.files)

abbrev pub EndAgrees : Option Word → Read → List Row → Type 0
EndAgrees p s rows = Agrees (read_at (settle p s) [] []) (end_fault (held p rows))
    (finished rules (held p rows))

-- a flag without a row gets one
abbrev defaulted : Text → List Row → List Row
defaulted id rows =
    cond (has_row id rows) rows (given id DefaultValue (codes "false" ∷ []) rows)

either : {X : Type 0} (b : Bool) (x : X) → cond b x x ≡ x
either true x = refl
either false x = refl

flag_told : (id : Text) (b : Bool) (rows : List Row) → bytes_eq id id ≡ true
    → found id rows ≡ flag_row id b
    → one_of id (defaulted id rows) ≡ Some (cond b (codes "true") (codes "false"))
flag_told id b rows same e = go b e (has_row_found id rows ∙ ap is_some e ∙ has_flag_row id b)
  where
    go : (b : Bool) → found id rows ≡ flag_row id b → has_row id rows ≡ b
        → one_of id (defaulted id rows) ≡ Some (cond b (codes "true") (codes "false"))
    go true e has = rw (has, e) refl
    go false e has =
        let own = own_row id DefaultValue (codes "false" ∷ []) same rows in
        rw has (ap (option_and_then row_text)
        (own ∙ ap (λ o. Some (row_with id DefaultValue (codes "false" ∷ []) o)) e))

others_kept : (id other : Text) (rows : List Row) → bytes_eq id other ≡ false
    → found other (defaulted id rows) ≡ found other rows
others_kept id other rows differs = go (has_row id rows) refl
  where
    go : (b : Bool) → has_row id rows ≡ b → found other (defaulted id rows) ≡ found other rows
    go true e = rw e refl
    go false e = rw e (other_row id DefaultValue (codes "false" ∷ []) other differs rows)

abbrev all_defaulted : List Row → List Row
all_defaulted rows = defaulted nodes_id (defaulted values_id (defaulted sharp_id rows))

rows_end : (rows : List Row) → fold with_default rows rules ≡ all_defaulted rows
rows_end rows = either (has_row files_id (all_defaulted rows)) (all_defaulted rows)

abbrev no_kinds : Kinds
no_kinds = []

defaults_pass : (rows : List Row) → defaults_fault rows rules ≡ []
unfolding defaults_fault
defaults_pass rows = ap₂ or_else (passes (has_row sharp_id rows || false))
    (ap₂ or_else (passes (has_row values_id one || false))
    (ap₂ or_else (passes (has_row nodes_id (defaulted values_id one) || false))
    (ap₂ or_else (passes (has_row files_id (all_defaulted rows) || true)) refl)))
  where
    one : List Row
    one = defaulted sharp_id rows

    passes : (b : Bool) → cond b no_kinds no_kinds ≡ no_kinds
    passes b = either b no_kinds

-- what is read where no word is left
abbrev read_last : Read → List Word → Option Read
read_last s files = read true (Some s.sharp) (Some s.values) (Some s.nodes) files

read_end : (s : Read) → read_at s [] [] ≡ read_last s s.files
read_end s = λ i. read true (flag_end s.sharp i) (flag_end s.values i) (flag_end s.nodes i)
    (append-nil s.files i)
  where
    flag_end : (b : Bool) → cond b (Some true) (Some false) ≡ Some b
    flag_end true = refl
    flag_end false = refl

module _ (s : Read) (rows : List Row) (h : Holds s rows) where
  -- the rows after the default of `--sharp`, and after that of `--values`
  abbrev first : List Row
  first = defaulted sharp_id rows

  abbrev second : List Row
  second = defaulted values_id first

  abbrev last : List Row
  last = all_defaulted rows

  files_last : found files_id last ≡ file_row s.files
  files_last = others_kept nodes_id files_id second refl
      ∙ others_kept values_id files_id first refl ∙ others_kept sharp_id files_id rows refl
      ∙ h.files

  sharp_last : one_of sharp_id last ≡ Some (cond s.sharp (codes "true") (codes "false"))
  sharp_last = ap (option_and_then row_text)
      (others_kept nodes_id sharp_id second refl ∙ others_kept values_id sharp_id first refl)
      ∙ flag_told sharp_id s.sharp rows refl h.sharp

  values_last : one_of values_id last ≡ Some (cond s.values (codes "true") (codes "false"))
  values_last = ap (option_and_then row_text) (others_kept nodes_id values_id second refl)
      ∙ flag_told values_id s.values first refl
      (others_kept sharp_id values_id rows refl ∙ h.values)

  nodes_last : one_of nodes_id last ≡ Some (cond s.nodes (codes "true") (codes "false"))
  nodes_last = flag_told nodes_id s.nodes second refl
      (others_kept values_id nodes_id first refl ∙ others_kept sharp_id nodes_id rows refl
      ∙ h.nodes)

  last_agrees : Agrees (read_last s s.files) (check_fault top last false) last
  last_agrees = go s.files files_last
    where
      go : (fs : List Word) → found files_id last ≡ file_row fs
          → Agrees (read_last s fs) (check_fault top last false) last
      go [] e = λ none. let bad : MissingRequiredArgument ∷ [] ≡ [] = rw e at none in cc
      go (f ∷ fs) e =
          (rw e refl, sharp_last, values_last, nodes_last, ap (option_map (λ r. r.values)) e)

  settled_end : Agrees (read_at s [] [])
      (or_else (defaults_fault rows rules) (check_fault top (fold with_default rows rules) false))
      (fold with_default rows rules)
  settled_end = subst (λ k. Agrees (read_at s [] [])
      (or_else k (check_fault top (fold with_default rows rules) false))
      (fold with_default rows rules)) (sym (defaults_pass rows))
      (subst (λ l. Agrees (read_at s [] []) (check_fault top l false) l) (sym (rows_end rows))
      (subst (λ r. Agrees r (check_fault top last false) last) (sym (read_end s)) last_agrees))

pub end_agrees : (p : Option Word) (s : Read) (rows : List Row) → Holds s rows
    → EndAgrees p s rows
end_agrees None s rows h = settled_end s rows h
end_agrees (Some w) s rows h = settled_end (with_file w s) (file_used w rows) (file_holds w s rows h)
