-- What a word is to the definitions and to `clap`, by its first bytes.
use Rattle.std.proofs.Common.{◌≡◌, ◌∙◌, ◌+◌, ◌==◌, ℕ, suc, Bool, true, false, not, cond, true≢false}
use Rattle.std.proofs.Common.{refl, sym, ap, ap₂, subst, arith, eqb-true, Option, Some, None, codes}
use Rattle.std.proofs.Common.{List, [], ◌∷◌, ◌++◌, slice_get, drop, take, length, filter}
use Rattle.std.specs.Str.{bytes_eq, chars, IsUtf8, encode_utf8_all}
use Rattle.std.specs.List.{before_first, after_first, position_or_len}
use Rattle.std.proofs.lemmas.Str.{IsUtf8-past_char, encode_ascii, chars-encodes}
use Rattle.std.proofs.lemmas.Slice.Eq.{bytes_eq-Decides}
use Rattle.clap.specs.Lexer.{long_of, short_of, has_byte}
use Rattle.clap.specs.Faults.{bundle_fault, bundle_step_fault, flags_fault, other_fault}
use Rattle.clap.specs.declared.error.kind.ErrorKind.{ErrorKind}
use Rattle.clap.specs.declared.error.kind.ErrorKind.TheVariants.{UnknownArgument, TooManyValues}
use Rattle.clap.specs.Walk.{Row}
use Rattle.sp_run_words.specs.Words.{Word, ends_flags, files_of, is_flag, is_option, nodes_flag}
use Rattle.sp_run_words.specs.Words.{options_of, sharp_flag, values_flag}
use Rattle.sp_run_words.proofs.SeenLaws.{held, nodes_id, rules, sharp_id, top, values_id}

-- `clap` refuses the word before `--`
abbrev pub IsRefused : Word → Type 0
IsRefused word = (p : Option Word) (rows : List Row)
    → (kind : ErrorKind) × (other_fault top None word (held p rows) ≡ kind ∷ [])

-- `clap` takes the word for a value
pub record IsValue (word : Word) : Type 0 where
  pub ends : ends_flags word ≡ false
  pub long : long_of word ≡ None
  pub short : short_of word ≡ None

-- an option that is no flag
pub record IsOther (word : Word) : Type 0 where
  pub option : is_option word ≡ true
  pub ends : ends_flags word ≡ false
  pub differs : is_flag word ≡ false
  pub refused : IsRefused word

pub data Sort (word : Word) : Type 0 where
  end : word ≡ codes "--" → Sort word
  sharp : word ≡ sharp_flag → Sort word
  values : word ≡ values_flag → Sort word
  nodes : word ≡ nodes_flag → Sort word
  file : is_option word ≡ false → IsValue word → Sort word
  other : IsOther word → Sort word

-- ---- what stands before and after the first that passes

module _ {X : Type 0} (p : X → Bool) (x : X) (xs : List X) (fails : p x ≡ false) where
  before_more : before_first p (x ∷ xs) ≡ x ∷ before_first p xs
  before_more =
      let one : 1 + position_or_len p xs ≡ suc (position_or_len p xs) = omega arith in
      rw fails (ap (λ k. take k (x ∷ xs)) one)

  after_more : after_first p (x ∷ xs) ≡ after_first p xs
  after_more =
      let one : 1 + position_or_len p xs + 1 ≡ suc (position_or_len p xs + 1) = omega arith in
      rw fails (ap (λ k. drop k (x ∷ xs)) one)

-- the options and the files of the words, by the first word
pub options_more : (word : Word) (words : List Word) → ends_flags word ≡ false
    → options_of (word ∷ words) ≡ cond (is_option word) (word ∷ options_of words) (options_of words)
options_more word words e = ap (filter is_option) (before_more ends_flags word words e)

pub files_more : (word : Word) (words : List Word) → ends_flags word ≡ false
    → files_of (word ∷ words) ≡ cond (is_option word) (files_of words) (word ∷ files_of words)
files_more word words e =
    ap₂ (λ before after. plain before ++ after) (before_more ends_flags word words e)
    (after_more ends_flags word words e) ∙ go (is_option word)
  where
    plain : List Word → List Word
    plain = filter (λ w. not (is_option w))

    before : List Word
    before = plain (before_first ends_flags words)

    go : (b : Bool) → cond (not b) (word ∷ before) before ++ after_first ends_flags words
        ≡ cond b (files_of words) (word ∷ files_of words)
    go true = refl
    go false = refl

-- ---- `-` and other bytes

-- a text that isn't empty has a first character
first_char : (b : ℕ) (bs : List ℕ) → IsUtf8 (b ∷ bs)
    → (x : ℕ) × (slice_get (chars (b ∷ bs)) 0 ≡ Some x)
first_char b bs u = go u.0 (sym (ap chars u.1.1) ∙ chars-encodes u.0 u.1.0) u.1.1
  where
    go : (cs : List ℕ) → chars (b ∷ bs) ≡ cs → encode_utf8_all cs ≡ b ∷ bs
        → (x : ℕ) × (slice_get (chars (b ∷ bs)) 0 ≡ Some x)
    go [] e made = let bad : 0 ≡ length (b ∷ bs) = ap length made in absurd (omega arith)
    go (x ∷ xs) e made = (x, ap (λ l. slice_get l 0) e)

-- no argument has a short name
bundle_refused : (c : ℕ) (bs : List ℕ) (x : ℕ) → slice_get (chars (c ∷ bs)) 0 ≡ Some x
    → (p : Option Word) (rows : List Row)
    → bundle_fault rules false (c ∷ bs) (held p rows) ≡ UnknownArgument ∷ []
unfolding flags_fault
bundle_refused c bs x e p rows = ap (λ o.
    bundle_step_fault rules false o (c ∷ bs) 0 (held p rows) (flags_fault rules false (length bs))) e

short_refused : (c : ℕ) (bs : List ℕ) → IsUtf8 (c ∷ bs) → (c == 45) ≡ false
    → IsRefused (45 ∷ c ∷ bs)
short_refused c bs u e p rows =
    let first = first_char c bs u in
    let no_end : ends_flags (45 ∷ c ∷ bs) ≡ false = rw e refl in
    let no_long : long_of (45 ∷ c ∷ bs) ≡ None = rw e refl in
    let is_short : short_of (45 ∷ c ∷ bs) ≡ Some (c ∷ bs) = rw e refl in
    let read : other_fault top None (45 ∷ c ∷ bs) (held p rows)
    ≡ bundle_fault rules false (c ∷ bs) (held p rows) = rw (no_end, no_long, is_short) refl in
    (UnknownArgument, read ∙ bundle_refused c bs first.0 first.1 p rows)

-- ---- `--` and other bytes

-- what stands before `=` (61)
abbrev name_in : List ℕ → List ℕ
name_in = before_first (λ x. x == 61)

-- a text without `=` is its own name
whole_name : (t : List ℕ) → has_byte 61 t ≡ false → name_in t ≡ t
whole_name [] e = refl
whole_name (x ∷ xs) e = go (x == 61) refl (whole_name xs) e
  where
    go : (b : Bool) → (x == 61) ≡ b → (has_byte 61 xs ≡ false → name_in xs ≡ xs)
        → has_byte 61 (x ∷ xs) ≡ false → name_in (x ∷ xs) ≡ x ∷ xs
    go true t rest none = let bad : true ≡ false = rw t at none in absurd (true≢false bad)
    go false t rest none =
        let left : has_byte 61 xs ≡ false = rw t at none in
        before_more (λ y. y == 61) x xs t ∙ ap (λ l. x ∷ l) (rest left)

module _ (x : ℕ) (xs : List ℕ) where
  abbrev text : List ℕ
  text = x ∷ xs

  -- the name of the word is this one, and the word another
  with_value : (id : List ℕ) → bytes_eq id (name_in text) ≡ true → bytes_eq text id ≡ false
      → has_byte 61 text ≡ true
  with_value id same differs = go (has_byte 61 text) refl
    where
      go : (b : Bool) → has_byte 61 text ≡ b → has_byte 61 text ≡ true
      go true has = has
      go false has =
          let is : id ≡ text = (bytes_eq-Decides _ _).0 same ∙ whole_name text has in
          let again = (bytes_eq-Decides text id).1 (sym is) in
          absurd (true≢false (sym again ∙ differs))

  long_refused : bytes_eq text sharp_id ≡ false → bytes_eq text values_id ≡ false
      → bytes_eq text nodes_id ≡ false → IsRefused (45 ∷ 45 ∷ text)
  long_refused no_sharp no_values no_nodes = go (bytes_eq sharp_id (name_in text))
      (bytes_eq values_id (name_in text)) (bytes_eq nodes_id (name_in text)) refl refl refl
    where
      go : (s v n : Bool) → bytes_eq sharp_id (name_in text) ≡ s
          → bytes_eq values_id (name_in text) ≡ v → bytes_eq nodes_id (name_in text) ≡ n
          → IsRefused (45 ∷ 45 ∷ text)
      go true v n d e f p rows =
          let has = with_value sharp_id d no_sharp in (TooManyValues, rw (d, has) refl)
      go false true n d e f p rows =
          let has = with_value values_id e no_values in (TooManyValues, rw (d, e, has) refl)
      go false false true d e f p rows =
          let has = with_value nodes_id f no_nodes in (TooManyValues, rw (d, e, f, has) refl)
      go false false false d e f p rows = (UnknownArgument, rw (d, e, f) refl)

  long_sort : Sort (45 ∷ 45 ∷ text)
  long_sort = go (bytes_eq text sharp_id) (bytes_eq text values_id) (bytes_eq text nodes_id)
      refl refl refl
    where
      go : (s v n : Bool) → bytes_eq text sharp_id ≡ s → bytes_eq text values_id ≡ v
          → bytes_eq text nodes_id ≡ n → Sort (45 ∷ 45 ∷ text)
      go true v n d e f = sharp (ap (λ l. 45 ∷ 45 ∷ l) ((bytes_eq-Decides _ _).0 d))
      go false true n d e f = values (ap (λ l. 45 ∷ 45 ∷ l) ((bytes_eq-Decides _ _).0 e))
      go false false true d e f = nodes (ap (λ l. 45 ∷ 45 ∷ l) ((bytes_eq-Decides _ _).0 f))
      go false false false d e f = other (record {
        option = refl;
        ends = refl;
        differs = rw (d, e, f) refl;
        refused = long_refused d e f;
      })

-- ---- each word

double_sort : (bs : List ℕ) → Sort (45 ∷ 45 ∷ bs)
double_sort [] = end refl
double_sort (x ∷ xs) = long_sort x xs

option_sort : (c : ℕ) (bs : List ℕ) → IsUtf8 (45 ∷ c ∷ bs) → Sort (45 ∷ c ∷ bs)
option_sort c bs u = go (c == 45) refl
  where
    go : (b : Bool) → (c == 45) ≡ b → Sort (45 ∷ c ∷ bs)
    go true e = subst (λ x. Sort (45 ∷ x ∷ bs)) (sym (eqb-true c 45 e)) (double_sort bs)
    go false e =
        let one = ap (λ l. l ++ c ∷ bs) (sym (encode_ascii 45 (omega arith))) in
        let rest = IsUtf8-past_char (45 ∷ c ∷ bs) (c ∷ bs) 45 u one in
        other (record {
          option = refl;
          ends = rw e refl;
          differs = rw e refl;
          refused = short_refused c bs rest e;
        })

pub sort_of : (word : Word) → IsUtf8 word → Sort word
sort_of [] u = file refl (record { ends = refl; long = refl; short = refl })
sort_of (b ∷ []) u = file refl (go (b == 45) refl)
  where
    go : (t : Bool) → (b == 45) ≡ t → IsValue (b ∷ [])
    go true e = record { ends = rw e refl; long = rw e refl; short = rw e refl }
    go false e = record { ends = rw e refl; long = rw e refl; short = rw e refl }
sort_of (b ∷ c ∷ bs) u = go (b == 45) refl
  where
    go : (t : Bool) → (b == 45) ≡ t → Sort (b ∷ c ∷ bs)
    go true e =
        let is = eqb-true b 45 e in
        let utf8 = subst (λ x. IsUtf8 (x ∷ c ∷ bs)) is u in
        subst (λ x. Sort (x ∷ c ∷ bs)) (sym is) (option_sort c bs utf8)
    go false e = file e (record { ends = rw e refl; long = rw e refl; short = rw e refl })
