-- What `clap` keeps for each argument: rows, of which each id has at most one.
use Rattle.std.proofs.Common.{◌≡◌, ◌∙◌, Bool, true, false, cond, refl, sym, ap}
use Rattle.std.proofs.Common.{List, [], ◌∷◌, ◌++◌, Option, Some, None, is_some}
use Rattle.std.specs.Prelude.{find}
use Rattle.std.specs.Str.{bytes_eq}
use Rattle.std.proofs.lemmas.Slice.Eq.{bytes_eq-Decides}
use Rattle.clap.specs.Walk.{Row, Text, has_row, stronger, with_values, without}
use Rattle.clap.specs.declared.parser.matches.ValueSource.{ValueSource}
use Rattle.clap.specs.declared.builder.value_parser.Reading.TheVariants.{AsWritten}

-- the row of an id
abbrev pub found : Text → List Row → Option Row
found id rows = find (λ r. bytes_eq r.id id) rows

pub has_row_found : (id : Text) (rows : List Row) → has_row id rows ≡ is_some (found id rows)
has_row_found id [] = refl
has_row_found id (r ∷ rs) = go (bytes_eq r.id id) refl (has_row_found id rs)
  where
    go : (b : Bool) → bytes_eq r.id id ≡ b → has_row id rs ≡ is_some (found id rs)
        → has_row id (r ∷ rs) ≡ is_some (found id (r ∷ rs))
    go true e rest = rw e refl
    go false e rest = rw e rest

-- an id without a row loses none
pub none_lost : (id : Text) (rows : List Row) → found id rows ≡ None → without id rows ≡ rows
none_lost id [] none = refl
none_lost id (r ∷ rs) none = go (bytes_eq r.id id) refl (none_lost id rs) none
  where
    go : (b : Bool) → bytes_eq r.id id ≡ b → (found id rs ≡ None → without id rs ≡ rs)
        → found id (r ∷ rs) ≡ None → without id (r ∷ rs) ≡ r ∷ rs
    go true e rest absent = let bad : Some r ≡ None = rw e at absent in cc
    go false e rest absent =
        let also : found id rs ≡ None = rw e at absent in rw e (ap (λ l. r ∷ l) (rest also))

module _ (id : Text) (source : ValueSource) (values : List Text) where
  abbrev pub given : List Row → List Row
  given rows = with_values id AsWritten source values rows

  -- the row with the values, where there was this one or none
  abbrev pub row_with : Option Row → Row
  row_with None = record {
    id = id;
    values = values;
    count = None;
    source = Some source;
    reading = AsWritten;
  }
  row_with (Some r) =
      record r { values = r.values ++ values; source = Some (stronger r.source source) }

  -- values that are given come to the row of their id, and to no other
  pub own_row : bytes_eq id id ≡ true → (rows : List Row)
      → found id (given rows) ≡ Some (row_with (found id rows))
  own_row same [] = rw same refl
  own_row same (r ∷ rs) = go (bytes_eq r.id id) refl (own_row same rs)
    where
      go : (b : Bool) → bytes_eq r.id id ≡ b
          → found id (given rs) ≡ Some (row_with (found id rs))
          → found id (given (r ∷ rs)) ≡ Some (row_with (found id (r ∷ rs)))
      go true e rest =
          let before : found id (r ∷ rs) ≡ Some r = rw e refl in
          let after : found id (given (r ∷ rs)) ≡ Some (row_with (Some r)) = rw (e, e) refl in
          after ∙ ap (λ o. Some (row_with o)) (sym before)
      go false e rest =
          let before : found id (r ∷ rs) ≡ found id rs = rw e refl in
          let after : found id (given (r ∷ rs)) ≡ found id (given rs) = rw (e, e) refl in
          after ∙ rest ∙ ap (λ o. Some (row_with o)) (sym before)

  pub other_row : (other : Text) → bytes_eq id other ≡ false → (rows : List Row)
      → found other (given rows) ≡ found other rows
  other_row other differs [] = rw differs refl
  other_row other differs (r ∷ rs) = go (bytes_eq r.id id) refl (other_row other differs rs)
    where
      skips : bytes_eq r.id id ≡ true → bytes_eq r.id other ≡ false
      skips e = ap (λ n. bytes_eq n other) ((bytes_eq-Decides _ _).0 e) ∙ differs

      also : (b : Bool) → found other (given rs) ≡ found other rs
          → cond b (Some r) (found other (given rs)) ≡ cond b (Some r) (found other rs)
      also true rest = refl
      also false rest = rest

      go : (b : Bool) → bytes_eq r.id id ≡ b → found other (given rs) ≡ found other rs
          → found other (given (r ∷ rs)) ≡ found other (r ∷ rs)
      go true e rest = let skip = skips e in rw (e, skip) refl
      go false e rest = rw e (also (bytes_eq r.id other) rest)
