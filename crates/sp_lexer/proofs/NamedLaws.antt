-- Which names each piece adds.
use Rattle.std.proofs.Common.{◌≡◌, ℕ, List, slice_get, Option, Some, Result, Ok, Err, IfOk, refl, sym, ap, ◌∙◌, subst}
use Rattle.sp_tree.specs.declared.token.Token.{Token}
use Rattle.sp_tree.specs.declared.token.Kind.{Kind}
use Rattle.sp_tree.specs.Names.{with_name}
use Rattle.sp_lexer.specs.declared.spot.Spot.{Spot}
use Rattle.sp_lexer.specs.declared.spot.Piece.{Piece}
use Rattle.sp_lexer.specs.declared.stop.Stop.{Stop}
use Rattle.sp_lexer.specs.declared.spot.Piece.TheVariants.{MarkerLine, Spelling}
use Rattle.sp_lexer.specs.Scan.{Lexeme, identifier, keyword, integer, character, string, punctuator, IsKind, piece_at, Step, over_blank, over_line_comment, over_block_comment, over_pragma_line, over_marker_line, over_last_line, over_spelling}
use Rattle.sp_lexer.specs.Named.{with_lexeme, with_piece, Adds, AddsName, AddsKind}

-- a number has one name
same_name : (old new : List (List ℕ)) (n m : ℕ) (bytes : List ℕ) → slice_get new n ≡ Some bytes → m ≡ n → AddsName old new m → new ≡ with_name old bytes
same_name old new n m bytes at same (other, it, is) =
    let both : Some other ≡ Some bytes = sym it ∙ ap (slice_get new) same ∙ at in
    let one : other ≡ bytes = cc in
    is ∙ ap (with_name old) one

-- the names after a token are those after its lexeme
pub lexeme_adds : (old new : List (List ℕ)) (x : Lexeme) (k : Kind) → IsKind new x k → AddsKind old new k → new ≡ with_lexeme old x
lexeme_adds old new (identifier bytes) k (n, at, is) h = same_name old new n n bytes at refl (subst (AddsKind old new) is h)
lexeme_adds old new (keyword w) k is h = subst (AddsKind old new) is h
lexeme_adds old new (integer v) k is h = subst (AddsKind old new) is h
lexeme_adds old new (character v) k is h = subst (AddsKind old new) is h
lexeme_adds old new (string bytes) k (n, at, is) h = same_name old new n n bytes at refl (subst (AddsKind old new) is h)
lexeme_adds old new (punctuator p) k is h = subst (AddsKind old new) is h

-- a blank or a comment adds none
module _ (names : List (List ℕ)) (text : List ℕ) (spot : Spot) (piece : Piece) (at : piece_at spot.fresh text ≡ Some piece) (unlike_marker : piece ≡ MarkerLine → ⊥) (unlike_spelling : piece ≡ Spelling → ⊥) where
  is_marker : piece_at spot.fresh text ≡ Some MarkerLine → ⊥
  is_marker e = let same : Some piece ≡ Some MarkerLine = sym at ∙ e in unlike_marker cc

  is_spelling : piece_at spot.fresh text ≡ Some Spelling → ⊥
  is_spelling e = let same : Some piece ≡ Some Spelling = sym at ∙ e in unlike_spelling cc

  same_names : (t : Option Token) (n : List ℕ) (b : Spot) (s : Step names text spot t n b) → names ≡ with_piece names s
  same_names t n b (over_blank x p w e y) = refl
  same_names t n b (over_line_comment p e w y) = refl
  same_names t n b (over_block_comment k p h e w y) = refl
  same_names t n b (over_pragma_line p m e w y) = refl
  same_names t n b (over_marker_line l x i p m s e w y) = absurd (is_marker p)
  same_names t n b (over_last_line l x p m e r w y) = refl
  same_names t n b (over_spelling f x k p h r i e y) = absurd (is_spelling p)

  pub gap_adds : (t : Option Token) (n : List ℕ) (b : Spot) → Step names text spot t n b → Adds names names text spot n b
  gap_adds t n b s = record { token = t; step = s; names_are = same_names t n b s }

-- a token that adds no name under any names adds none under these
pub none_added : (names : List (List ℕ)) (r : Result (Kind × ℕ) Stop) → IfOk r (λ p. (ns : List (List ℕ)) → AddsKind ns ns p.0) → IfOk r (λ p. AddsKind names names p.0)
none_added names (Ok p) h = h names
none_added names (Err stop) h = h
