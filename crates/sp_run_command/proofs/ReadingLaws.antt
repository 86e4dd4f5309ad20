-- Files that are read one after another.
use Rattle.std.proofs.Common.{◌≡◌, ◌+◌, ◌≤◌, ◌<◌, ℕ, zero, suc, Bool, List, [], ◌∷◌, ◌++◌, map, length, get_or, Option, Bor, refl, sym, ap, ◌∙◌, subst, arith, append_assoc}
use Rattle.std.proofs.lemmas.List.{length-append, length-map, map-append}
use Rattle.sp_outside.specs.Told.{Told, untold, missing, held}
use Rattle.sp_front.specs.Sources.{Source, total_length, most_files, max_text, AreWithin}
use Rattle.sp_front.proofs.Totals.{total_last}
use Rattle.sp_run_command.specs.declared.reading.Unread.{Unread}
use Rattle.sp_run_command.specs.declared.reading.Unread.TheVariants.{TooLong, Fault, NoMemory}
use Rattle.sp_run_command.specs.Reading.{IfReadable, AreRead, none, another, IsPastFiles, IsNext, IsPastBytes, Explains, IsCauseAt}

readable-weaker : (t : Told) {P Q : List ℕ → Type 0} → ((text : List ℕ) → P text → Q text) → IfReadable t P → IfReadable t Q
readable-weaker untold f p = tt
readable-weaker missing f p = absurd p
readable-weaker (held text) f p = f text p

pub same-length : (texts : List ℕ → Told) (names : List (List ℕ)) (sources : List Source) → AreRead texts names sources → length names ≡ length sources
same-length texts names sources none = refl
same-length texts names sources (another {names = ns} {sources = ss} read s text) =
    let before = same-length texts ns ss read in
    let one : length (ns ++ s.name ∷ []) ≡ length ns + 1 = length-append ns (s.name ∷ []) in
    let other : length (ss ++ s ∷ []) ≡ length ss + 1 = length-append ss (s ∷ []) in
    omega (arith, before, one, other)

-- a list at a place that it has
split-at : {A : Type 0} (xs : List A) (i : ℕ) (x : A) → i < length xs → x ≡ get_or xs i x
    → (before : List A) × (after : List A) × (xs ≡ before ++ x ∷ after) × (length before ≡ i)
split-at [] i x low is = absurd (omega (arith, low))
split-at (y ∷ ys) zero x low is = ([], ys, ap (λ z. z ∷ ys) (sym is), refl)
split-at (y ∷ ys) (suc i) x low is =
    let more = split-at ys i x (omega (arith, low)) is in
    (y ∷ more.0, more.1, ap (λ zs. y ∷ zs) more.2, ap suc more.3)

abbrev pub bytes : List (Bor (List ℕ)) → List (List ℕ)
bytes names = map (λ n. n.now) names

pub past-files : (names : List (Bor (List ℕ))) (name : Bor (List ℕ)) → most_files < length names → name ≡ get_or names most_files name
    → IsPastFiles (bytes names) name.now
past-files names name low is =
    let at = split-at names most_files name low is in
    record {
      before = bytes at.0;
      after = bytes at.1;
      whole_is = ap bytes at.2 ∙ map-append (λ (n : Bor (List ℕ)). n.now) at.0 (name ∷ at.1);
      most = length-map at.0 (λ (n : Bor (List ℕ)). n.now) ∙ at.3;
    }

pub few-files : (names : List (Bor (List ℕ))) → length names ≤ most_files → length (bytes names) ≤ most_files
few-files names few = let same = length-map names (λ (n : Bor (List ℕ)). n.now) in omega (arith, few, same)

pub within-limits : (texts : List ℕ → Told) (names : List (Bor (List ℕ))) (sources : List Source) → length names ≤ most_files
    → AreRead texts (bytes names) sources → total_length sources ≤ max_text → AreWithin sources
within-limits texts names sources few read fits =
    let same = same-length texts (bytes names) sources read in
    let least = few-files names few in
    record { files = omega (arith, same, least); bytes = fits }

-- of all names these are left; those before them are read
pub record IsAt (texts : List ℕ → Told) (whole rest : List (List ℕ)) (room : ℕ) (sources : List Source) : Type 0 where
  pub done : List (List ℕ)
  pub is : whole ≡ done ++ rest
  pub read : AreRead texts done sources
  pub fits : room + total_length sources ≡ max_text

pub begun : (texts : List ℕ → Told) (whole : List (List ℕ)) (sources : List Source) → sources ≡ [] → IsAt texts whole whole max_text sources
begun texts whole sources e = record {
  done = [];
  is = refl;
  read = subst (AreRead texts []) (sym e) none;
  fits = ap (λ ss. max_text + total_length ss) e;
}

module _ (texts : List ℕ → Told) (whole rest : List (List ℕ)) (name : List ℕ) (room : ℕ) (sources : List Source) (at : IsAt texts whole (name ∷ rest) room sources) where
  pub more : (s : Source) (left : ℕ) → s.name ≡ name → IfReadable (texts name) (λ text. s.text ≡ text) → left + length s.text ≡ room
      → IsAt texts whole rest left (sources ++ s ∷ [])
  more s left named text fits = record {
    done = at.done ++ name ∷ [];
    is = at.is ∙ sym (append_assoc at.done (name ∷ []) rest);
    read = subst (λ n. AreRead texts (at.done ++ n ∷ []) (sources ++ s ∷ [])) named
        (another at.read s (subst (λ n. IfReadable (texts n) (λ t. s.text ≡ t)) (sym named) text));
    fits = let total = total_last sources s in omega (arith, total, fits, at.fits);
  }

  next : IsNext texts whole name sources
  next = record { before = at.done; after = rest; whole_is = at.is; read = at.read; fits = omega (arith, at.fits) }

  -- why the next isn't read
  pub stopped : (error : Unread) (asked : Option (List ℕ)) (begun : Bool) (before after : ℕ) → IsCauseAt texts name room asked begun before after error
      → Explains texts whole asked begun before after error
  stopped (TooLong given) asked begun before after cause = subst (IsPastBytes texts whole) (sym cause.0) (record {
    sources = sources;
    next = next;
    past = readable-weaker (texts name) (λ text long. omega (arith, long, at.fits)) cause.1;
  })
  stopped Fault asked begun before after cause = record { name = name; sources = sources; next = next; fault = cause }
  stopped NoMemory asked begun before after cause = tt
