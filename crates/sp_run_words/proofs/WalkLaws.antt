-- The walk of `clap` over the words says what `specs.Words` says of them.
use Rattle.std.proofs.Common.{◌≡◌, ◌∙◌, Bool, true, false, cond, refl, sym, ap, ap₂}
use Rattle.std.proofs.Common.{subst, List, [], ◌∷◌, fold, Option, Some, None, codes}
use Rattle.std.specs.List.{AllByRecursion}
use Rattle.std.specs.Str.{IsUtf8}
use Rattle.clap.specs.Walk.{Row, Walk, finished, has_row, nothing_held, walked}
use Rattle.clap.specs.Kinds.{Kinds, or_else}
use Rattle.clap.specs.Faults.{fault_of, other_fault, turn_fault, walk_fault}
use Rattle.clap.specs.Simple.{built, matches_of}
use Rattle.clap.specs.declared.error.kind.ErrorKind.TheVariants.{ArgumentConflict}
use Rattle.clap.proofs.FaultLemmas.{leaf_fault}
use Rattle.sp_run_words.specs.Reader.{reader_app}
use Rattle.sp_run_words.specs.Words.{Read, Word, files_of, is_option, nodes_flag, options_of}
use Rattle.sp_run_words.specs.Words.{read_by, sharp_flag, values_flag}
use Rattle.sp_run_words.proofs.SeenLaws.{Agrees, Holds, at, end_agrees, end_fault, flag_used}
use Rattle.sp_run_words.proofs.SeenLaws.{has_nodes, has_sharp, has_values, held, nodes_hold, nodes_id}
use Rattle.sp_run_words.proofs.SeenLaws.{nodes_twice, nothing, nothing_holds, read_at, read_file}
use Rattle.sp_run_words.proofs.SeenLaws.{read_nodes, read_sharp, read_values, rules, settle}
use Rattle.sp_run_words.proofs.SeenLaws.{settled_holds, sharp_holds, sharp_id, sharp_twice}
use Rattle.sp_run_words.proofs.SeenLaws.{settled_rows, top, values_hold, values_id, values_twice}
use Rattle.sp_run_words.proofs.SeenLaws.{with_nodes, with_sharp, with_values}
use Rattle.sp_run_words.proofs.WordLaws.{IsOther, IsRefused, IsValue, Sort, sort_of, options_more}
use Rattle.sp_run_words.proofs.WordLaws.{files_more}
use Rattle.sp_run_words.proofs.WordLaws.{end as sort_end, sharp as sort_sharp, values as sort_values}
use Rattle.sp_run_words.proofs.WordLaws.{nodes as sort_nodes, file as sort_file, other as sort_other}

-- ---- one step

-- the kinds of fault of the words that are left, and the rows that they leave
abbrev kinds : Walk → List Word → Kinds
kinds w words =
    or_else (walk_fault top [] w words) (end_fault (fold (walked rules []) w words).held)

abbrev rows_left : Walk → List Word → List Row
rows_left w words = finished rules (fold (walked rules []) w words).held

abbrev LeftAgrees : Option Read → Walk → List Word → Type 0
LeftAgrees a w words = Agrees a (kinds w words) (rows_left w words)

-- nothing fails at the word's turn, and the walk goes on from `after`
abbrev Leads : Walk → Word → Walk → Type 0
Leads w word after = (turn_fault top [] w word ≡ []) × (walked rules [] w word ≡ after)

abbrev Fails : Walk → Word → Type 0
Fails w word = turn_fault top [] w word ≡ [] → ⊥

module _ (w : Walk) (word : Word) (words : List Word) (a b : Option Read) where
  abbrev next : Walk
  next = walked rules [] w word

  leads_on : (after : Walk) → Leads w word after → a ≡ b → LeftAgrees a after words
      → LeftAgrees b w (word ∷ words)
  unfolding walk_fault
  leads_on after step same agrees =
      let there = subst (λ v. LeftAgrees a v words) (sym step.1) agrees in
      let then = walk_fault top [] next words in
      let at_end = end_fault (fold (walked rules []) next words).held in
      let faults : kinds next words ≡ kinds w (word ∷ words) =
      ap (λ k. or_else (or_else k then) at_end) (sym step.0) in
      subst (λ o. LeftAgrees o w (word ∷ words)) same
      (subst (λ k. Agrees a k (rows_left next words)) faults there)

or_else_nil : (a b : Kinds) → or_else a b ≡ [] → a ≡ []
or_else_nil [] b e = refl
or_else_nil (k ∷ ks) b e = e

fails_at : (w : Walk) (word : Word) (words : List Word) (a : Option Read)
    → Fails w word → a ≡ None → LeftAgrees a w (word ∷ words)
unfolding walk_fault
fails_at w word words a refused none =
    subst (λ o. LeftAgrees o w (word ∷ words)) (sym none)
    (λ e. refused (or_else_nil _ _ (or_else_nil _ _ e)))

-- ---- one word

module _ (rows : List Row) where
  -- behind `--` a word is a file
  trailing_file : (p : Option Word) (word : Word)
      → Leads (at true p rows) word (at true (Some word) (settled_rows p rows))
  unfolding walked
  trailing_file None word = (refl, refl)
  trailing_file (Some w) word = (refl, refl)

  -- before it a value is one
  value_file : (p : Option Word) (word : Word) → IsValue word
      → Leads (at false p rows) word (at false (Some word) (settled_rows p rows))
  unfolding walked
  value_file None word v = (rw (v.ends, v.long, v.short) refl, rw (v.ends, v.long, v.short) refl)
  value_file (Some w) word v =
      (rw (v.ends, v.long, v.short) refl, rw (v.ends, v.long, v.short) refl)

  end_of_flags : (p : Option Word) → Leads (at false p rows) (codes "--") (at true p rows)
  unfolding walked
  end_of_flags None = (refl, refl)
  end_of_flags (Some w) = (refl, refl)

  first_sharp : (p : Option Word) → has_row sharp_id (settled_rows p rows) ≡ false
      → Leads (at false p rows) sharp_flag
      (at false None (flag_used sharp_id (settled_rows p rows)))
  unfolding walked
  first_sharp None first = (rw first refl, refl)
  first_sharp (Some w) first = (rw first refl, refl)

  first_values : (p : Option Word) → has_row values_id (settled_rows p rows) ≡ false
      → Leads (at false p rows) values_flag
      (at false None (flag_used values_id (settled_rows p rows)))
  unfolding walked
  first_values None first = (rw first refl, refl)
  first_values (Some w) first = (rw first refl, refl)

  first_nodes : (p : Option Word) → has_row nodes_id (settled_rows p rows) ≡ false
      → Leads (at false p rows) nodes_flag
      (at false None (flag_used nodes_id (settled_rows p rows)))
  unfolding walked
  first_nodes None first = (rw first refl, refl)
  first_nodes (Some w) first = (rw first refl, refl)

  second_sharp : (p : Option Word) → has_row sharp_id (settled_rows p rows) ≡ true
      → Fails (at false p rows) sharp_flag
  second_sharp None second e =
      let bad : ArgumentConflict ∷ [] ≡ [] = rw second at e in cc
  second_sharp (Some w) second e =
      let bad : ArgumentConflict ∷ [] ≡ [] = rw second at e in cc

  second_values : (p : Option Word) → has_row values_id (settled_rows p rows) ≡ true
      → Fails (at false p rows) values_flag
  second_values None second e =
      let bad : ArgumentConflict ∷ [] ≡ [] = rw second at e in cc
  second_values (Some w) second e =
      let bad : ArgumentConflict ∷ [] ≡ [] = rw second at e in cc

  second_nodes : (p : Option Word) → has_row nodes_id (settled_rows p rows) ≡ true
      → Fails (at false p rows) nodes_flag
  second_nodes None second e =
      let bad : ArgumentConflict ∷ [] ≡ [] = rw second at e in cc
  second_nodes (Some w) second e =
      let bad : ArgumentConflict ∷ [] ≡ [] = rw second at e in cc

  -- another option fails
  refused_fails : (p : Option Word) (word : Word) → IsRefused word → Fails (at false p rows) word
  refused_fails None word refused e =
      let none = or_else_nil (other_fault top None word (held None rows)) _ e in
      let bad : (refused None rows).0 ∷ [] ≡ [] = sym (refused None rows).1 ∙ none in
      cc
  refused_fails (Some w) word refused e =
      let none = or_else_nil (other_fault top None word (held (Some w) rows)) _ e in
      let bad : (refused (Some w) rows).0 ∷ [] ≡ [] = sym (refused (Some w) rows).1 ∙ none in
      cc

-- ---- all the words

-- behind `--`
trailing_agrees : (p : Option Word) (s : Read) (rows : List Row) (words : List Word)
    → Holds s rows → LeftAgrees (read_at (settle p s) [] words) (at true p rows) words
unfolding walk_fault
trailing_agrees p s rows [] h = end_agrees p s rows h
trailing_agrees p s rows (word ∷ words) h =
    leads_on (at true p rows) word words _ _ (at true (Some word) (settled_rows p rows))
    (trailing_file rows p word) (read_file word (settle p s) [] words)
    (trailing_agrees (Some word) (settle p s) (settled_rows p rows) words
    (settled_holds p s rows h))

-- before it: what the definitions say of the words that are left, and the walk
abbrev WalkAgrees : Option Word → Read → List Row → List Word → Type 0
WalkAgrees p s rows words =
    LeftAgrees (read_at (settle p s) (options_of words) (files_of words)) (at false p rows) words

-- whatever was seen before
abbrev Onward : List Word → Type 0
Onward words = (p : Option Word) (s : Read) (rows : List Row) → Holds s rows
    → WalkAgrees p s rows words

module _ (words : List Word) (rest : Onward words) (p : Option Word) (s : Read) (rows : List Row)
    (h : Holds s rows) where
  abbrev now : Read
  now = settle p s

  abbrev rows_now : List Row
  rows_now = settled_rows p rows

  holds : Holds now rows_now
  holds = settled_holds p s rows h

  end_leads : WalkAgrees p s rows (codes "--" ∷ words)
  end_leads = leads_on (at false p rows) (codes "--") words _ _ (at true p rows)
      (end_of_flags rows p) refl (trailing_agrees p s rows words h)

  -- a flag first
  module _ (flag : Word) (options : options_of (flag ∷ words) ≡ flag ∷ options_of words)
      (left : files_of (flag ∷ words) ≡ files_of words) where
    abbrev asked_with : Option Read
    asked_with = read_at now (options_of (flag ∷ words)) (files_of (flag ∷ words))

    apart : asked_with ≡ read_at now (flag ∷ options_of words) (files_of words)
    apart = ap₂ (read_at now) options left

    flag_leads : (s' : Read) (rows' : List Row) → Holds s' rows'
        → Leads (at false p rows) flag (at false None rows')
        → read_at s' (options_of words) (files_of words)
        ≡ read_at now (flag ∷ options_of words) (files_of words)
        → WalkAgrees p s rows (flag ∷ words)
    flag_leads s' rows' h' step same = leads_on (at false p rows) flag words _ _
        (at false None rows') step (same ∙ sym apart) (rest None s' rows' h')

    flag_fails : Fails (at false p rows) flag
        → read_at now (flag ∷ options_of words) (files_of words) ≡ None
        → WalkAgrees p s rows (flag ∷ words)
    flag_fails fails none = fails_at (at false p rows) flag words _ fails (apart ∙ none)

  sharp_leads : WalkAgrees p s rows (sharp_flag ∷ words)
  sharp_leads = go now.sharp refl
    where
      options : options_of (sharp_flag ∷ words) ≡ sharp_flag ∷ options_of words
      options = options_more sharp_flag words refl

      left : files_of (sharp_flag ∷ words) ≡ files_of words
      left = files_more sharp_flag words refl

      go : (b : Bool) → now.sharp ≡ b → WalkAgrees p s rows (sharp_flag ∷ words)
      go false first = flag_leads sharp_flag options left (with_sharp now)
          (flag_used sharp_id rows_now) (sharp_holds now rows_now holds first)
          (first_sharp rows p (has_sharp now rows_now holds ∙ first))
          (read_sharp now (options_of words) (files_of words) first)
      go true second = flag_fails sharp_flag options left
          (second_sharp rows p (has_sharp now rows_now holds ∙ second))
          (sharp_twice now (options_of words) (files_of words) second)

  values_lead : WalkAgrees p s rows (values_flag ∷ words)
  values_lead = go now.values refl
    where
      options : options_of (values_flag ∷ words) ≡ values_flag ∷ options_of words
      options = options_more values_flag words refl

      left : files_of (values_flag ∷ words) ≡ files_of words
      left = files_more values_flag words refl

      go : (b : Bool) → now.values ≡ b → WalkAgrees p s rows (values_flag ∷ words)
      go false first = flag_leads values_flag options left (with_values now)
          (flag_used values_id rows_now) (values_hold now rows_now holds first)
          (first_values rows p (has_values now rows_now holds ∙ first))
          (read_values now (options_of words) (files_of words) first)
      go true second = flag_fails values_flag options left
          (second_values rows p (has_values now rows_now holds ∙ second))
          (values_twice now (options_of words) (files_of words) second)

  nodes_lead : WalkAgrees p s rows (nodes_flag ∷ words)
  nodes_lead = go now.nodes refl
    where
      options : options_of (nodes_flag ∷ words) ≡ nodes_flag ∷ options_of words
      options = options_more nodes_flag words refl

      left : files_of (nodes_flag ∷ words) ≡ files_of words
      left = files_more nodes_flag words refl

      go : (b : Bool) → now.nodes ≡ b → WalkAgrees p s rows (nodes_flag ∷ words)
      go false first = flag_leads nodes_flag options left (with_nodes now)
          (flag_used nodes_id rows_now) (nodes_hold now rows_now holds first)
          (first_nodes rows p (has_nodes now rows_now holds ∙ first))
          (read_nodes now (options_of words) (files_of words) first)
      go true second = flag_fails nodes_flag options left
          (second_nodes rows p (has_nodes now rows_now holds ∙ second))
          (nodes_twice now (options_of words) (files_of words) second)

  file_leads : (word : Word) → is_option word ≡ false → IsValue word
      → WalkAgrees p s rows (word ∷ words)
  file_leads word plain v =
      let options = options_more word words v.ends
      ∙ ap (λ b. cond b (word ∷ options_of words) (options_of words)) plain in
      let left = files_more word words v.ends
      ∙ ap (λ b. cond b (files_of words) (word ∷ files_of words)) plain in
      leads_on (at false p rows) word words _ _ (at false (Some word) rows_now)
      (value_file rows p word v) (read_file word now (options_of words) (files_of words)
      ∙ sym (ap₂ (read_at now) options left)) (rest (Some word) now rows_now holds)

  -- an option that is no flag fits nowhere
  other_agrees : (word : Word) → IsOther word → WalkAgrees p s rows (word ∷ words)
  other_agrees word other =
      let options = options_more word words other.ends
      ∙ ap (λ b. cond b (word ∷ options_of words) (options_of words)) other.option in
      fails_at (at false p rows) word words _ (refused_fails rows p word other.refused)
      (ap (λ o. read_at now o (files_of (word ∷ words))) options ∙ other_fits)
    where
      other_fits : read_at now (word ∷ options_of words) (files_of (word ∷ words)) ≡ None
      other_fits = rw other.differs refl

walk_agrees : (words : List Word) → AllByRecursion IsUtf8 words → Onward words
unfolding walk_fault
walk_agrees [] utf8 p s rows h = end_agrees p s rows h
walk_agrees (word ∷ words) utf8 p s rows h = go (sort_of word utf8.0) (walk_agrees words utf8.1)
  where
    go : Sort word → Onward words → WalkAgrees p s rows (word ∷ words)
    go (sort_end e) rest = subst (λ w. WalkAgrees p s rows (w ∷ words)) (sym e)
        (end_leads words rest p s rows h)
    go (sort_sharp e) rest = subst (λ w. WalkAgrees p s rows (w ∷ words)) (sym e)
        (sharp_leads words rest p s rows h)
    go (sort_values e) rest = subst (λ w. WalkAgrees p s rows (w ∷ words)) (sym e)
        (values_lead words rest p s rows h)
    go (sort_nodes e) rest = subst (λ w. WalkAgrees p s rows (w ∷ words)) (sym e)
        (nodes_lead words rest p s rows h)
    go (sort_file plain v) rest = file_leads words rest p s rows h word plain v
    go (sort_other other) rest = other_agrees words rest p s rows h word other

-- where the words fit, nothing fails and the rows are those that are read; else something fails
pub reader_agrees : (words : List Word) → AllByRecursion IsUtf8 words
    → Agrees (read_by words) (fault_of reader_app words) (matches_of reader_app words)
reader_agrees words utf8 =
    let level = leaf_fault (built reader_app) nothing_held words refl in
    subst (λ k. Agrees (read_by words) k (matches_of reader_app words)) (sym level)
    (walk_agrees words utf8 None nothing [] nothing_holds)
