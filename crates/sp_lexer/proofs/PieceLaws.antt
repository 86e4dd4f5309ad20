-- Laws of passing one piece.
use Rattle.std.proofs.Common.{◌≡◌, ℕ, suc, ◌+◌, ◌^◌, ◌<◌, ◌≤◌, Bool, true, false, cond, not, ◌&&◌, List, [], ◌∷◌, length, take, drop, Some, None, refl, ap, ◌∙◌, ◌⊎◌, inl, inr, true≢false, length-append, length-take-le, length-drop, arith}
use Rattle.std.specs.Prelude.{◌==◌}
use Rattle.std.proofs.lemmas.Bool.{eqb-true}
use Rattle.sp_tree.specs.declared.fault.Place.{Place}
use Rattle.sp_lexer.specs.declared.spot.Spot.{Spot}
use Rattle.sp_lexer.specs.declared.spot.Piece.{Piece}
use Rattle.sp_lexer.specs.declared.spot.Piece.TheVariants.{Blank, Spelling}
use Rattle.sp_lexer.specs.declared.stop.Stop.{Stop}
use Rattle.sp_lexer.specs.declared.stop.Stop.TheVariants as stops
use Rattle.sp_lexer.specs.Bytes.{is_between, is_blank, is_not_newline, begins, front, after}
use Rattle.sp_lexer.specs.Scan.{piece_at, place_after, next_line, columns_on, beyond_comment, along, line_of, after_line, IsBlockComment, malformed, open_literal, bad_byte}
use Rattle.sp_lexer.specs.Steps.{Fits, Passed, IfFaulty, IfStands, bad_spelling, no_quote, no_spelling}
use Rattle.sp_lexer.proofs.Cases.{which, chosen}
use Rattle.sp_lexer.proofs.ByteLaws.{front-after}

-- ---- the first byte of a piece

-- where a piece begins, some text is left
pub piece_some : (fresh : Bool) (text : List ℕ) (piece : Piece) → piece_at fresh text ≡ Some piece → 0 < length text
unfolding piece_at
piece_some fresh [] piece e = cc
piece_some fresh (b ∷ bs) piece e = omega arith

-- where none begins, none is
pub piece_none : (fresh : Bool) (text : List ℕ) → piece_at fresh text ≡ None → text ≡ []
unfolding piece_at
piece_none fresh [] e = refl
piece_none fresh (b ∷ bs) e =
    elim (chosen (is_blank b) e) [
      | inl h ↦ cc
      | inr h ↦ elim (chosen (b == 47 && begins (λ c. c == 47) bs) h.1) [
        | inl k ↦ cc
        | inr k ↦ elim (chosen (b == 47 && begins (λ c. c == 42) bs) k.1)
            [ inl m ↦ cc | inr m ↦ elim (chosen (b == 35 && fresh) m.1) [ inl n ↦ cc | inr n ↦ cc ] ]
      ]
    ]

newline_blank : (b : ℕ) → is_blank b ≡ false → is_not_newline b ≡ true
unfolding is_blank is_not_newline is_between
newline_blank b h = by (which (b == 10))
  where
    by : ((b == 10) ≡ true) ⊎ ((b == 10) ≡ false) → not (b == 10) ≡ true
    by (inl e) = let same : b ≡ 10 = eqb-true b 10 e in absurd (true≢false (rw same at h))
    by (inr e) = rw e refl

-- a piece other than a blank doesn't begin with a newline
pub no_newline : (fresh : Bool) (text : List ℕ) (piece : Piece) → piece_at fresh text ≡ Some piece → (piece ≡ Blank → ⊥) → begins is_not_newline text ≡ true
unfolding piece_at
no_newline fresh [] piece e other = cc
no_newline fresh (b ∷ bs) piece e other =
    elim (chosen (is_blank b) e) [ inl h ↦ absurd (other (cc)) | inr h ↦ newline_blank b h.0 ]

-- ---- lines

pub line_some : (text : List ℕ) → begins is_not_newline text ≡ true → 0 < length (line_of text)
line_some [] h = cc
line_some (b ∷ bs) h = rw h (omega arith)

pub line_parts : (text : List ℕ) → length text ≡ length (line_of text) + length (after_line text)
line_parts text = ap length (front-after is_not_newline text) ∙ length-append (line_of text) (after_line text)

newline_stops : (x : ℕ) → is_not_newline x ≡ false → x ≡ 10
unfolding is_not_newline
newline_stops x h = elim (which (x == 10)) [ inl e ↦ eqb-true x 10 e | inr e ↦ absurd (true≢false (rw e at h)) ]

-- what stands behind a line begins with a newline
pub newline-after : (text : List ℕ) (b : ℕ) (bs : List ℕ) → after_line text ≡ b ∷ bs → after_line text ≡ 10 ∷ bs
newline-after [] b bs e = cc
newline-after (x ∷ xs) b bs e = by (which (is_not_newline x)) e (newline-after xs b bs)
  where
    by : (is_not_newline x ≡ true) ⊎ (is_not_newline x ≡ false) → cond (is_not_newline x) (after is_not_newline xs) (x ∷ xs) ≡ b ∷ bs → (after_line xs ≡ b ∷ bs → after_line xs ≡ 10 ∷ bs) → cond (is_not_newline x) (after is_not_newline xs) (x ∷ xs) ≡ 10 ∷ bs
    by (inl h) k rest = rw h (rest (rw h at k))
    by (inr h) k rest =
        let same : ◌≡◌ {A = List ℕ} (x ∷ xs) (b ∷ bs) = rw h at k in
        let tail : xs ≡ bs = cc in
        rw (h, newline_stops x h) (ap (λ zs. 10 ∷ zs) tail)

-- ---- places after comments

pub place_line : (place : Place) (bs : List ℕ) → (place_after place bs).line ≤ place.line + length bs
place_line place [] = omega arith
place_line place (b ∷ bs) = by (b == 10) (place_line (next_line place) bs) (place_line (columns_on place 1) bs)
  where
    by : (t : Bool) → (place_after (next_line place) bs).line ≤ place.line + 1 + length bs → (place_after (columns_on place 1) bs).line ≤ place.line + length bs → (place_after (cond t (next_line place) (columns_on place 1)) bs).line ≤ place.line + suc (length bs)
    by true h k = omega (arith, h)
    by false h k = omega (arith, k)

pub place_column : (place : Place) (bs : List ℕ) → (place_after place bs).column ≤ place.column + length bs
place_column place [] = omega arith
place_column place (b ∷ bs) = by (b == 10) (place_column (next_line place) bs) (place_column (columns_on place 1) bs)
  where
    by : (t : Bool) → (place_after (next_line place) bs).column ≤ 1 + length bs → (place_after (columns_on place 1) bs).column ≤ place.column + 1 + length bs → (place_after (cond t (next_line place) (columns_on place 1)) bs).column ≤ place.column + suc (length bs)
    by true h k = omega (arith, h)
    by false h k = omega (arith, k)

pub comment-passed : (spot : Spot) (text : List ℕ) (n : ℕ) → IsBlockComment text n → Fits spot text → Passed text (drop n text) (beyond_comment spot (take n text))
comment-passed spot text n comment fits =
    let front : length (take n text) ≡ n = length-take-le n text comment.within in
    let back = length-drop n text in
    record {
      shorter = omega (arith, back, comment.opened, comment.within);
      fits = record {
        line = omega (arith, place_line spot.place (take n text), front, back, comment.within, fits.line);
        column = omega (arith, place_column spot.place (take n text), front, back, comment.within, fits.column);
        bytes = omega (arith, back, fits.bytes);
      };
    }

-- a piece on a line is passed
pub line-passed : (spot beyond : Spot) (text next : List ℕ) (n : ℕ) → beyond.place ≡ columns_on spot.place n → length text ≡ n + length next → 0 < n → Fits spot text → Passed text next beyond
line-passed spot beyond text next n is parts some fits = record {
  shorter = omega (arith, parts, some);
  fits = record {
    line = omega (arith, ap (λ p. p.line) is, parts, fits.line);
    column = omega (arith, ap (λ p. p.column) is, parts, fits.column);
    bytes = omega (arith, parts, fits.bytes);
  };
}

-- ---- faults

pub stands : (text : List ℕ) (spot : Spot) (stop : Stop) → piece_at spot.fresh text ≡ Some Spelling → IfFaulty text stop → IfStands text spot stop
stands text spot stops.NoMemory piece h = tt
stands text spot (stops.Fault kind) piece (bad_spelling front next begun reading) = malformed front next piece begun reading
stands text spot (stops.Fault kind) piece (no_quote quote none is) = open_literal piece quote none is
stands text spot (stops.Fault kind) piece (no_spelling quote none is) = bad_byte piece quote none is

-- the rest of a line is passed
pub rest-passed : (spot beyond : Spot) (text line next : List ℕ) (piece : Piece) → piece_at spot.fresh text ≡ Some piece → (piece ≡ Blank → ⊥) → line ≡ line_of text → next ≡ after_line text → beyond ≡ along spot (length line) → Fits spot text → Passed text next beyond
rest-passed spot beyond text line next piece begun other line_is next_is is fits =
    line-passed spot beyond text next (length line) (ap (λ s. s.place) is)
    (rw (line_is, next_is) (line_parts text))
    (rw line_is (line_some text (no_newline spot.fresh text piece begun other)))
    fits

-- a marker line is passed with its newline
pub marker-passed : (spot beyond : Spot) (text next : List ℕ) → after_line text ≡ 10 ∷ next → beyond.place.line < 2 ^ 31 → beyond.place.column ≡ 1 → Fits spot text → Passed text next beyond
marker-passed spot beyond text next e line column fits =
    let parts = line_parts text in
    let tail : length (after_line text) ≡ suc (length next) = ap length e in
    record {
      shorter = omega (arith, parts, tail);
      fits = record {
        line = omega (arith, parts, tail, line, fits.bytes);
        column = omega (arith, parts, tail, column, fits.bytes);
        bytes = omega (arith, parts, tail, fits.bytes);
      };
    }
