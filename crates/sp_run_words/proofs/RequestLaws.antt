-- What `clap` answers, and what the words ask for.
use Rattle.std.proofs.Common.{◌≡◌, ◌∙◌, inl, inr, Bool, true, false, cond, refl, sym, ap, subst, ℕ}
use Rattle.std.proofs.Common.{List, [], ◌∷◌, map, Option, Some, None, unwrap_or, option_map}
use Rattle.std.proofs.Common.{codes, string_bytes}
use Rattle.std.specs.Prelude.{String}
use Rattle.std.specs.Borrow.{Bor}
use Rattle.std.specs.List.{AllByRecursion}
use Rattle.std.specs.Str.{IsUtf8}
use Rattle.std.specs.declared.alloc.Global.{Global}
use Rattle.std.proofs.lemmas.Str.{IsUtf8-string_bytes}
use Rattle.clap.specs.Words.{App, HasKind, IsAmong, all_of, fault_of, found_of, kind_of, matched_of}
use Rattle.clap.specs.Words.{matches_of, one_of, one_text, raw_values, rows_of}
use Rattle.clap.specs.declared.error.Error.{Error}
use Rattle.clap.specs.declared.error.kind.ErrorKind.TheVariants.{OutOfMemory}
use Rattle.clap.specs.declared.parser.matches.ArgMatches.{ArgMatches}
use Rattle.clap.proofs.WalkLemmas.{one_text-rows, raw_values-rows}
use Rattle.sp_run_words.specs.Words.{Read, Word, read_by}
use Rattle.sp_run_words.specs.Reader.{reader_app}
use Rattle.sp_run_words.proofs.SeenLaws.{Agrees}
use Rattle.sp_run_words.proofs.WalkLaws.{reader_agrees}

all_utf8 : (words : List (String Global)) → AllByRecursion IsUtf8 (map string_bytes words)
all_utf8 [] = tt
all_utf8 (word ∷ words) = (IsUtf8-string_bytes word, all_utf8 words)

-- the texts behind references
abbrev Texts : Type 0
Texts = List (Bor (List ℕ))

abbrev texts_of : Texts → List Word
texts_of = map (λ v. v.now)

module _ (words : List (String Global)) (app : App) (reads : app ≡ reader_app) where
  abbrev texts : List Word
  texts = map string_bytes words

  abbrev AppAgrees : App → Option Read → Type 0
  AppAgrees a o = Agrees o (fault_of a texts) (matches_of a texts)

  agrees : AppAgrees app (read_by texts)
  agrees = subst (λ a. AppAgrees a (read_by texts)) (sym reads)
      (reader_agrees texts (all_utf8 words))

  -- an error that isn't one of memory comes where the words don't fit
  pub nothing_read : (e : Error) → HasKind (fault_of app texts) e
      → (kind_of e ≡ OutOfMemory → ⊥) → read_by texts ≡ None
  nothing_read e (inl memory) other = absurd (other memory)
  nothing_read e (inr among) other = go (read_by texts) refl agrees
    where
      go : (o : Option Read) → read_by texts ≡ o → AppAgrees app o → read_by texts ≡ None
      go None is h = is
      go (Some a) is h = absurd (subst (IsAmong (kind_of e)) h.0 among)

  -- the flag of a name that stands, and one that doesn't
  abbrev Told : ArgMatches → Word → Bool → Type 0
  Told m name stands = (one_text (found_of m) name ≡ Some (codes "true") → stands ≡ true)
      × (one_text (found_of m) name ≡ Some (codes "false") → stands ≡ false)

  -- and matches have what the words say
  pub is_read : (m : ArgMatches) (sharp values nodes : Bool) (slice : Option (Bor Texts)) (files : Texts)
      → fault_of app texts ≡ [] → rows_of (found_of m) ≡ matches_of app texts
      → Told m (codes "sharp") sharp → Told m (codes "values") values
      → Told m (codes "nodes") nodes
      → option_map (λ s. texts_of s.now) slice
      ≡ option_map raw_values (matched_of (found_of m) (codes "files"))
      → ((s : Bor Texts) → slice ≡ Some s → files ≡ s.now)
      → Some (record {
        sharp = sharp;
        values = values;
        nodes = nodes;
        files = texts_of files;
      }) ≡ read_by texts
  is_read m sharp values nodes slice files passes rows if_sharp if_values if_nodes given copied =
      go (read_by texts) refl agrees
    where
      made : Read
      made = record { sharp = sharp; values = values; nodes = nodes; files = texts_of files }

      flag_is : (name : Word) (stands b : Bool) → Told m name stands
          → one_text (found_of m) name ≡ Some (cond b (codes "true") (codes "false"))
          → stands ≡ b
      flag_is name stands true told e = told.0 e
      flag_is name stands false told e = told.1 e

      one_is : (name : Word) (text : Word) → one_of name (matches_of app texts) ≡ Some text
          → one_text (found_of m) name ≡ Some text
      one_is name text e = one_text-rows (found_of m) name ∙ ap (one_of name) rows ∙ e

      files_are : (o : Option (Bor Texts)) (fs : List Word)
          → option_map (λ s. texts_of s.now) o ≡ Some fs
          → ((s : Bor Texts) → o ≡ Some s → files ≡ s.now) → texts_of files ≡ fs
      files_are None fs e same = cc
      files_are (Some s) fs e same =
          ap texts_of (same s refl) ∙ ap (λ (x : Option (List Word)). unwrap_or x fs) e

      go : (o : Option Read) → read_by texts ≡ o → AppAgrees app o
          → Some made ≡ read_by texts
      go None is h = absurd (h passes)
      go (Some a) is h =
          let first = flag_is (codes "sharp") sharp a.sharp if_sharp (one_is _ _ h.1) in
          let second = flag_is (codes "values") values a.values if_values (one_is _ _ h.2) in
          let third = flag_is (codes "nodes") nodes a.nodes if_nodes (one_is _ _ h.3) in
          let all = files_are slice a.files
          (given ∙ raw_values-rows (found_of m) (codes "files") ∙ ap (all_of (codes "files")) rows
          ∙ h.4) copied in
          let same : made ≡ a =
          λ i. record { sharp = first i; values = second i; nodes = third i; files = all i } in
          ap Some same ∙ sym is
