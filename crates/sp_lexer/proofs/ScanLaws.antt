-- A text has one answer.
use Rattle.std.proofs.Common.{◌≡◌, ℕ, ◌-◌, ◌<◌, ◌≤◌, Bool, true, List, [], ◌∷◌, length, take, drop, slice_get, Option, Some, None, Result, Ok, Err, sym, ap, ◌∙◌, subst, ◌⊎◌, inl, inr, true≢false, arith}
use Rattle.std.proofs.lemmas.Bool.{cases_lt}
use Rattle.sp_tree.specs.declared.fault.FaultKind.{FaultKind}
use Rattle.sp_tree.specs.declared.token.Token.{Token}
use Rattle.sp_tree.specs.declared.token.Kind.{Kind}
use Rattle.sp_tree.specs.declared.token.Kind.TheVariants as kinds
use Rattle.sp_tree.specs.Names.{AreDistinct}
use Rattle.sp_lexer.specs.declared.spot.Spot.{Spot}
use Rattle.sp_lexer.specs.declared.spot.Piece.{Piece}
use Rattle.sp_lexer.specs.declared.spot.Piece.TheVariants.{Blank, LineComment, BlockComment, MarkerLine, Spelling}
use Rattle.sp_lexer.specs.Spelling.{BeginsWith}
use Rattle.sp_lexer.specs.Markers.{named, pragma, marker_of}
use Rattle.sp_lexer.specs.Scan.{Lexeme, identifier, keyword, integer, character, string, punctuator, IsKind, Reads, piece_at, after_blank, along, beyond_comment, line_of, after_line, IsBlockComment, Step, over_blank, over_line_comment, over_block_comment, over_pragma_line, over_marker_line, over_last_line, over_spelling, StandsAt, malformed, open_literal, bad_byte, open_comment, bad_marker, TokenBegins}
use Rattle.sp_lexer.proofs.UniqueLaws.{one_spelling, one_reading, not_none, no_token_and_fault}

-- ---- one step

-- two pieces don't begin at one spot
clash : (fresh : Bool) (text : List ℕ) (P Q : Piece) → piece_at fresh text ≡ Some P → piece_at fresh text ≡ Some Q → P ≡ Q
clash fresh text P Q e f = let same : Some P ≡ Some Q = sym e ∙ f in cc

-- a lexeme has one kind
one_kind : (names : List (List ℕ)) → AreDistinct names → (x : Lexeme) (k m : Kind) → IsKind names x k → IsKind names x m → k ≡ m
one_kind names distinct (identifier bytes) k m h g = h.2 ∙ ap kinds.Name (distinct h.0 g.0 bytes h.1 g.1) ∙ sym g.2
one_kind names distinct (keyword w) k m h g = h ∙ sym g
one_kind names distinct (integer v) k m h g = h ∙ sym g
one_kind names distinct (character v) k m h g = h ∙ sym g
one_kind names distinct (string bytes) k m h g = h.2 ∙ ap kinds.Text (distinct h.0 g.0 bytes h.1 g.1) ∙ sym g.2
one_kind names distinct (punctuator p) k m h g = h ∙ sym g

-- a comment has one end
one_comment : (text : List ℕ) (n m : ℕ) → IsBlockComment text n → IsBlockComment text m → n ≡ m
one_comment text n m a b = by (cases_lt n m) (cases_lt m n)
  where
    by : (n < m) ⊎ (m ≤ n) → (m < n) ⊎ (n ≤ m) → n ≡ m
    by (inl h) k = absurd (true≢false (sym a.closed ∙ b.first (n - 2) (omega (arith, a.opened)) (omega (arith, a.opened, h))))
    by (inr h) (inl k) = absurd (true≢false (sym b.closed ∙ a.first (m - 2) (omega (arith, b.opened)) (omega (arith, b.opened, k))))
    by (inr h) (inr k) = omega (arith, h, k)

-- what two steps from one spot have in common: everything
pub record SameStep (t u : Option Token) (n m : List ℕ) (b c : Spot) : Type 0 where
  pub token : t ≡ u
  pub next : n ≡ m
  pub beyond : b ≡ c

module _ (names : List (List ℕ)) (distinct : AreDistinct names) (text : List ℕ) (spot : Spot) where
  same_blank : (t u : Option Token) (n m : List ℕ) (b c : Spot) (x y : ℕ) → text ≡ x ∷ n → text ≡ y ∷ m → t ≡ None → u ≡ None → b ≡ after_blank spot x → c ≡ after_blank spot y → SameStep t u n m b c
  same_blank t u n m b c x y e f g h i j =
      let both : x ∷ n ≡ y ∷ m = sym e ∙ f in
      let head : x ≡ y = cc in
      let tail : n ≡ m = cc in
      record { token = g ∙ sym h; next = tail; beyond = i ∙ ap (after_blank spot) head ∙ sym j }

  same_marker : (t u : Option Token) (n m : List ℕ) (b c : Spot) (l k : ℕ) (x y : List ℕ) (i j : ℕ) → marker_of (line_of text) ≡ Some (named l x) → marker_of (line_of text) ≡ Some (named k y) → slice_get names i ≡ Some x → slice_get names j ≡ Some y → t ≡ None → u ≡ None → after_line text ≡ 10 ∷ n → after_line text ≡ 10 ∷ m → b ≡ record { place = record { name = i; line = l; column = 1 }; fresh = true } → c ≡ record { place = record { name = j; line = k; column = 1 }; fresh = true } → SameStep t u n m b c
  same_marker t u n m b c l k x y i j e f at bt g h v w p q =
      let both : Some (named l x) ≡ Some (named k y) = sym e ∙ f in
      let lines : l ≡ k = cc in
      let names_are : x ≡ y = cc in
      let tails : 10 ∷ n ≡ 10 ∷ m = sym v ∙ w in
      let tail : n ≡ m = cc in
      let number : i ≡ j = distinct i j y (at ∙ ap Some names_are) bt in
      let spots : (a d : ℕ) → Spot = λ a d. record { place = record { name = a; line = d; column = 1 }; fresh = true } in
      record { token = g ∙ sym h; next = tail; beyond = p ∙ ap (λ a. spots a l) number ∙ ap (spots j) lines ∙ sym q }

  same_spelling : (t u : Option Token) (n m : List ℕ) (b c : Spot) (f g : List ℕ) (x y : Lexeme) (k j : Kind) → BeginsWith text f n → BeginsWith text g m → Reads f n (Ok x) → Reads g m (Ok y) → IsKind names x k → IsKind names y j → t ≡ Some (record { kind = k; place = spot.place }) → u ≡ Some (record { kind = j; place = spot.place }) → b ≡ along spot (length f) → c ≡ along spot (length g) → SameStep t u n m b c
  same_spelling t u n m b c f g x y k j a d h i kx ky v w p q =
      let same = one_spelling text f n g m a d in
      let one : Ok x ≡ Ok y = one_reading g m (Ok x) (Ok y) (subst (λ z. Reads g z (Ok x)) same.1 (subst (λ z. Reads z n (Ok x)) same.0 h)) i in
      let lexeme : x ≡ y = cc in
      let kind : k ≡ j = one_kind names distinct y k j (subst (λ z. IsKind names z k) lexeme kx) ky in
      let token_of : Kind → Option Token = λ z. Some (record { kind = z; place = spot.place }) in
      record { token = v ∙ ap token_of kind ∙ sym w; next = same.1; beyond = p ∙ ap (λ z. along spot (length z)) same.0 ∙ sym q }

  pub one_step : (t u : Option Token) (n m : List ℕ) (b c : Spot) → Step names text spot t n b → Step names text spot u m c → SameStep t u n m b c
  one_step t u n m b c (over_blank b1 p1 w1 t1 y1) (over_blank b2 p2 w2 t2 y2) = same_blank t u n m b c b1 b2 w1 w2 t1 t2 y1 y2
  one_step t u n m b c (over_blank b1 p1 w1 t1 y1) (over_line_comment p2 t2 w2 y2) = let e : Blank ≡ LineComment = clash spot.fresh text Blank LineComment p1 p2 in cc
  one_step t u n m b c (over_blank b1 p1 w1 t1 y1) (over_block_comment n2 p2 h2 t2 w2 y2) = let e : Blank ≡ BlockComment = clash spot.fresh text Blank BlockComment p1 p2 in cc
  one_step t u n m b c (over_blank b1 p1 w1 t1 y1) (over_pragma_line p2 m2 t2 w2 y2) = let e : Blank ≡ MarkerLine = clash spot.fresh text Blank MarkerLine p1 p2 in cc
  one_step t u n m b c (over_blank b1 p1 w1 t1 y1) (over_marker_line l2 nm2 i2 p2 m2 s2 t2 w2 y2) = let e : Blank ≡ MarkerLine = clash spot.fresh text Blank MarkerLine p1 p2 in cc
  one_step t u n m b c (over_blank b1 p1 w1 t1 y1) (over_last_line l2 nm2 p2 m2 t2 r2 w2 y2) = let e : Blank ≡ MarkerLine = clash spot.fresh text Blank MarkerLine p1 p2 in cc
  one_step t u n m b c (over_blank b1 p1 w1 t1 y1) (over_spelling f2 x2 k2 p2 h2 r2 i2 t2 y2) = let e : Blank ≡ Spelling = clash spot.fresh text Blank Spelling p1 p2 in cc
  one_step t u n m b c (over_line_comment p1 t1 w1 y1) (over_blank b2 p2 w2 t2 y2) = let e : LineComment ≡ Blank = clash spot.fresh text LineComment Blank p1 p2 in cc
  one_step t u n m b c (over_line_comment p1 t1 w1 y1) (over_line_comment p2 t2 w2 y2) = record { token = t1 ∙ sym t2; next = w1 ∙ sym w2; beyond = y1 ∙ sym y2 }
  one_step t u n m b c (over_line_comment p1 t1 w1 y1) (over_block_comment n2 p2 h2 t2 w2 y2) = let e : LineComment ≡ BlockComment = clash spot.fresh text LineComment BlockComment p1 p2 in cc
  one_step t u n m b c (over_line_comment p1 t1 w1 y1) (over_pragma_line p2 m2 t2 w2 y2) = let e : LineComment ≡ MarkerLine = clash spot.fresh text LineComment MarkerLine p1 p2 in cc
  one_step t u n m b c (over_line_comment p1 t1 w1 y1) (over_marker_line l2 nm2 i2 p2 m2 s2 t2 w2 y2) = let e : LineComment ≡ MarkerLine = clash spot.fresh text LineComment MarkerLine p1 p2 in cc
  one_step t u n m b c (over_line_comment p1 t1 w1 y1) (over_last_line l2 nm2 p2 m2 t2 r2 w2 y2) = let e : LineComment ≡ MarkerLine = clash spot.fresh text LineComment MarkerLine p1 p2 in cc
  one_step t u n m b c (over_line_comment p1 t1 w1 y1) (over_spelling f2 x2 k2 p2 h2 r2 i2 t2 y2) = let e : LineComment ≡ Spelling = clash spot.fresh text LineComment Spelling p1 p2 in cc
  one_step t u n m b c (over_block_comment n1 p1 h1 t1 w1 y1) (over_blank b2 p2 w2 t2 y2) = let e : BlockComment ≡ Blank = clash spot.fresh text BlockComment Blank p1 p2 in cc
  one_step t u n m b c (over_block_comment n1 p1 h1 t1 w1 y1) (over_line_comment p2 t2 w2 y2) = let e : BlockComment ≡ LineComment = clash spot.fresh text BlockComment LineComment p1 p2 in cc
  one_step t u n m b c (over_block_comment n1 p1 h1 t1 w1 y1) (over_block_comment n2 p2 h2 t2 w2 y2) = let e = one_comment text n1 n2 h1 h2 in record { token = t1 ∙ sym t2; next = w1 ∙ ap (λ k. drop k text) e ∙ sym w2; beyond = y1 ∙ ap (λ k. beyond_comment spot (take k text)) e ∙ sym y2 }
  one_step t u n m b c (over_block_comment n1 p1 h1 t1 w1 y1) (over_pragma_line p2 m2 t2 w2 y2) = let e : BlockComment ≡ MarkerLine = clash spot.fresh text BlockComment MarkerLine p1 p2 in cc
  one_step t u n m b c (over_block_comment n1 p1 h1 t1 w1 y1) (over_marker_line l2 nm2 i2 p2 m2 s2 t2 w2 y2) = let e : BlockComment ≡ MarkerLine = clash spot.fresh text BlockComment MarkerLine p1 p2 in cc
  one_step t u n m b c (over_block_comment n1 p1 h1 t1 w1 y1) (over_last_line l2 nm2 p2 m2 t2 r2 w2 y2) = let e : BlockComment ≡ MarkerLine = clash spot.fresh text BlockComment MarkerLine p1 p2 in cc
  one_step t u n m b c (over_block_comment n1 p1 h1 t1 w1 y1) (over_spelling f2 x2 k2 p2 h2 r2 i2 t2 y2) = let e : BlockComment ≡ Spelling = clash spot.fresh text BlockComment Spelling p1 p2 in cc
  one_step t u n m b c (over_pragma_line p1 m1 t1 w1 y1) (over_blank b2 p2 w2 t2 y2) = let e : MarkerLine ≡ Blank = clash spot.fresh text MarkerLine Blank p1 p2 in cc
  one_step t u n m b c (over_pragma_line p1 m1 t1 w1 y1) (over_line_comment p2 t2 w2 y2) = let e : MarkerLine ≡ LineComment = clash spot.fresh text MarkerLine LineComment p1 p2 in cc
  one_step t u n m b c (over_pragma_line p1 m1 t1 w1 y1) (over_block_comment n2 p2 h2 t2 w2 y2) = let e : MarkerLine ≡ BlockComment = clash spot.fresh text MarkerLine BlockComment p1 p2 in cc
  one_step t u n m b c (over_pragma_line p1 m1 t1 w1 y1) (over_pragma_line p2 m2 t2 w2 y2) = record { token = t1 ∙ sym t2; next = w1 ∙ sym w2; beyond = y1 ∙ sym y2 }
  one_step t u n m b c (over_pragma_line p1 m1 t1 w1 y1) (over_marker_line l2 nm2 i2 p2 m2 s2 t2 w2 y2) = let e : Some pragma ≡ Some (named l2 nm2) = sym m1 ∙ m2 in cc
  one_step t u n m b c (over_pragma_line p1 m1 t1 w1 y1) (over_last_line l2 nm2 p2 m2 t2 r2 w2 y2) = let e : Some pragma ≡ Some (named l2 nm2) = sym m1 ∙ m2 in cc
  one_step t u n m b c (over_pragma_line p1 m1 t1 w1 y1) (over_spelling f2 x2 k2 p2 h2 r2 i2 t2 y2) = let e : MarkerLine ≡ Spelling = clash spot.fresh text MarkerLine Spelling p1 p2 in cc
  one_step t u n m b c (over_marker_line l1 nm1 i1 p1 m1 s1 t1 w1 y1) (over_blank b2 p2 w2 t2 y2) = let e : MarkerLine ≡ Blank = clash spot.fresh text MarkerLine Blank p1 p2 in cc
  one_step t u n m b c (over_marker_line l1 nm1 i1 p1 m1 s1 t1 w1 y1) (over_line_comment p2 t2 w2 y2) = let e : MarkerLine ≡ LineComment = clash spot.fresh text MarkerLine LineComment p1 p2 in cc
  one_step t u n m b c (over_marker_line l1 nm1 i1 p1 m1 s1 t1 w1 y1) (over_block_comment n2 p2 h2 t2 w2 y2) = let e : MarkerLine ≡ BlockComment = clash spot.fresh text MarkerLine BlockComment p1 p2 in cc
  one_step t u n m b c (over_marker_line l1 nm1 i1 p1 m1 s1 t1 w1 y1) (over_pragma_line p2 m2 t2 w2 y2) = let e : Some (named l1 nm1) ≡ Some pragma = sym m1 ∙ m2 in cc
  one_step t u n m b c (over_marker_line l1 nm1 i1 p1 m1 s1 t1 w1 y1) (over_marker_line l2 nm2 i2 p2 m2 s2 t2 w2 y2) = same_marker t u n m b c l1 l2 nm1 nm2 i1 i2 m1 m2 s1 s2 t1 t2 w1 w2 y1 y2
  one_step t u n m b c (over_marker_line l1 nm1 i1 p1 m1 s1 t1 w1 y1) (over_last_line l2 nm2 p2 m2 t2 r2 w2 y2) = let e : ◌≡◌ {A = List ℕ} (10 ∷ n) [] = sym w1 ∙ r2 in cc
  one_step t u n m b c (over_marker_line l1 nm1 i1 p1 m1 s1 t1 w1 y1) (over_spelling f2 x2 k2 p2 h2 r2 i2 t2 y2) = let e : MarkerLine ≡ Spelling = clash spot.fresh text MarkerLine Spelling p1 p2 in cc
  one_step t u n m b c (over_last_line l1 nm1 p1 m1 t1 r1 w1 y1) (over_blank b2 p2 w2 t2 y2) = let e : MarkerLine ≡ Blank = clash spot.fresh text MarkerLine Blank p1 p2 in cc
  one_step t u n m b c (over_last_line l1 nm1 p1 m1 t1 r1 w1 y1) (over_line_comment p2 t2 w2 y2) = let e : MarkerLine ≡ LineComment = clash spot.fresh text MarkerLine LineComment p1 p2 in cc
  one_step t u n m b c (over_last_line l1 nm1 p1 m1 t1 r1 w1 y1) (over_block_comment n2 p2 h2 t2 w2 y2) = let e : MarkerLine ≡ BlockComment = clash spot.fresh text MarkerLine BlockComment p1 p2 in cc
  one_step t u n m b c (over_last_line l1 nm1 p1 m1 t1 r1 w1 y1) (over_pragma_line p2 m2 t2 w2 y2) = let e : Some (named l1 nm1) ≡ Some pragma = sym m1 ∙ m2 in cc
  one_step t u n m b c (over_last_line l1 nm1 p1 m1 t1 r1 w1 y1) (over_marker_line l2 nm2 i2 p2 m2 s2 t2 w2 y2) = let e : ◌≡◌ {A = List ℕ} [] (10 ∷ m) = sym r1 ∙ w2 in cc
  one_step t u n m b c (over_last_line l1 nm1 p1 m1 t1 r1 w1 y1) (over_last_line l2 nm2 p2 m2 t2 r2 w2 y2) = record { token = t1 ∙ sym t2; next = w1 ∙ sym w2; beyond = y1 ∙ sym y2 }
  one_step t u n m b c (over_last_line l1 nm1 p1 m1 t1 r1 w1 y1) (over_spelling f2 x2 k2 p2 h2 r2 i2 t2 y2) = let e : MarkerLine ≡ Spelling = clash spot.fresh text MarkerLine Spelling p1 p2 in cc
  one_step t u n m b c (over_spelling f1 x1 k1 p1 h1 r1 i1 t1 y1) (over_blank b2 p2 w2 t2 y2) = let e : Spelling ≡ Blank = clash spot.fresh text Spelling Blank p1 p2 in cc
  one_step t u n m b c (over_spelling f1 x1 k1 p1 h1 r1 i1 t1 y1) (over_line_comment p2 t2 w2 y2) = let e : Spelling ≡ LineComment = clash spot.fresh text Spelling LineComment p1 p2 in cc
  one_step t u n m b c (over_spelling f1 x1 k1 p1 h1 r1 i1 t1 y1) (over_block_comment n2 p2 h2 t2 w2 y2) = let e : Spelling ≡ BlockComment = clash spot.fresh text Spelling BlockComment p1 p2 in cc
  one_step t u n m b c (over_spelling f1 x1 k1 p1 h1 r1 i1 t1 y1) (over_pragma_line p2 m2 t2 w2 y2) = let e : Spelling ≡ MarkerLine = clash spot.fresh text Spelling MarkerLine p1 p2 in cc
  one_step t u n m b c (over_spelling f1 x1 k1 p1 h1 r1 i1 t1 y1) (over_marker_line l2 nm2 i2 p2 m2 s2 t2 w2 y2) = let e : Spelling ≡ MarkerLine = clash spot.fresh text Spelling MarkerLine p1 p2 in cc
  one_step t u n m b c (over_spelling f1 x1 k1 p1 h1 r1 i1 t1 y1) (over_last_line l2 nm2 p2 m2 t2 r2 w2 y2) = let e : Spelling ≡ MarkerLine = clash spot.fresh text Spelling MarkerLine p1 p2 in cc
  one_step t u n m b c (over_spelling f1 x1 k1 p1 h1 r1 i1 t1 y1) (over_spelling f2 x2 k2 p2 h2 r2 i2 t2 y2) = same_spelling t u n m b c f1 f2 x1 x2 k1 k2 h1 h2 r1 r2 i1 i2 t1 t2 y1 y2

-- ---- spots where no piece is passed

-- no piece begins where the text ends
at_end : (fresh : Bool) (piece : Piece) → piece_at fresh [] ≡ Some piece → ⊥
unfolding piece_at
at_end fresh piece e = cc

-- which piece a step passes
abbrev pub IsStuck : List (List ℕ) → List ℕ → Spot → Type 0
IsStuck names text spot = (t : Option Token) (n : List ℕ) (b : Spot) → Step names text spot t n b → ⊥

pub stuck_at_end : (names : List (List ℕ)) (spot : Spot) → IsStuck names [] spot
stuck_at_end names spot t n b (over_blank x p w e y) = at_end spot.fresh Blank p
stuck_at_end names spot t n b (over_line_comment p e w y) = at_end spot.fresh LineComment p
stuck_at_end names spot t n b (over_block_comment k p h e w y) = at_end spot.fresh BlockComment p
stuck_at_end names spot t n b (over_pragma_line p m e w y) = at_end spot.fresh MarkerLine p
stuck_at_end names spot t n b (over_marker_line l x i p m s e w y) = at_end spot.fresh MarkerLine p
stuck_at_end names spot t n b (over_last_line l x p m e r w y) = at_end spot.fresh MarkerLine p
stuck_at_end names spot t n b (over_spelling f x k p h r i e y) = at_end spot.fresh Spelling p

-- a spelling where no token stands isn't passed
spelling_stuck : (names : List (List ℕ)) (text : List ℕ) (spot : Spot) → piece_at spot.fresh text ≡ Some Spelling → ((f m : List ℕ) (x : Lexeme) → BeginsWith text f m → Reads f m (Ok x) → ⊥) → IsStuck names text spot
spelling_stuck names text spot q none t n b (over_blank x p w e y) = let c : Spelling ≡ Blank = clash spot.fresh text Spelling Blank q p in cc
spelling_stuck names text spot q none t n b (over_line_comment p e w y) = let c : Spelling ≡ LineComment = clash spot.fresh text Spelling LineComment q p in cc
spelling_stuck names text spot q none t n b (over_block_comment k p h e w y) = let c : Spelling ≡ BlockComment = clash spot.fresh text Spelling BlockComment q p in cc
spelling_stuck names text spot q none t n b (over_pragma_line p m e w y) = let c : Spelling ≡ MarkerLine = clash spot.fresh text Spelling MarkerLine q p in cc
spelling_stuck names text spot q none t n b (over_marker_line l x i p m s e w y) = let c : Spelling ≡ MarkerLine = clash spot.fresh text Spelling MarkerLine q p in cc
spelling_stuck names text spot q none t n b (over_last_line l x p m e r w y) = let c : Spelling ≡ MarkerLine = clash spot.fresh text Spelling MarkerLine q p in cc
spelling_stuck names text spot q none t n b (over_spelling f x k p h r i e y) = none f n x h r

comment_stuck : (names : List (List ℕ)) (text : List ℕ) (spot : Spot) → piece_at spot.fresh text ≡ Some BlockComment → ((k : ℕ) → IsBlockComment text k → ⊥) → IsStuck names text spot
comment_stuck names text spot q none t n b (over_blank x p w e y) = let c : BlockComment ≡ Blank = clash spot.fresh text BlockComment Blank q p in cc
comment_stuck names text spot q none t n b (over_line_comment p e w y) = let c : BlockComment ≡ LineComment = clash spot.fresh text BlockComment LineComment q p in cc
comment_stuck names text spot q none t n b (over_block_comment k p h e w y) = none k h
comment_stuck names text spot q none t n b (over_pragma_line p m e w y) = let c : BlockComment ≡ MarkerLine = clash spot.fresh text BlockComment MarkerLine q p in cc
comment_stuck names text spot q none t n b (over_marker_line l x i p m s e w y) = let c : BlockComment ≡ MarkerLine = clash spot.fresh text BlockComment MarkerLine q p in cc
comment_stuck names text spot q none t n b (over_last_line l x p m e r w y) = let c : BlockComment ≡ MarkerLine = clash spot.fresh text BlockComment MarkerLine q p in cc
comment_stuck names text spot q none t n b (over_spelling f x k p h r i e y) = let c : BlockComment ≡ Spelling = clash spot.fresh text BlockComment Spelling q p in cc

marker_stuck : (names : List (List ℕ)) (text : List ℕ) (spot : Spot) → piece_at spot.fresh text ≡ Some MarkerLine → marker_of (line_of text) ≡ None → IsStuck names text spot
marker_stuck names text spot q none t n b (over_blank x p w e y) = let c : MarkerLine ≡ Blank = clash spot.fresh text MarkerLine Blank q p in cc
marker_stuck names text spot q none t n b (over_line_comment p e w y) = let c : MarkerLine ≡ LineComment = clash spot.fresh text MarkerLine LineComment q p in cc
marker_stuck names text spot q none t n b (over_block_comment k p h e w y) = let c : MarkerLine ≡ BlockComment = clash spot.fresh text MarkerLine BlockComment q p in cc
marker_stuck names text spot q none t n b (over_pragma_line p m e w y) = let c : None ≡ Some pragma = sym none ∙ m in cc
marker_stuck names text spot q none t n b (over_marker_line l x i p m s e w y) = let c : None ≡ Some (named l x) = sym none ∙ m in cc
marker_stuck names text spot q none t n b (over_last_line l x p m e r w y) = let c : None ≡ Some (named l x) = sym none ∙ m in cc
marker_stuck names text spot q none t n b (over_spelling f x k p h r i e y) = let c : MarkerLine ≡ Spelling = clash spot.fresh text MarkerLine Spelling q p in cc

-- where a fault stands
pub stuck_at_fault : (names : List (List ℕ)) (text : List ℕ) (spot : Spot) (kind : FaultKind) → StandsAt text spot kind → IsStuck names text spot
stuck_at_fault names text spot kind (malformed f n p h r) = spelling_stuck names text spot p (λ g m x k q. no_token_and_fault text g m f n x kind k q h r)
stuck_at_fault names text spot kind (open_literal p q none is) = spelling_stuck names text spot p (λ g m x k r. not_none text g m k none)
stuck_at_fault names text spot kind (bad_byte p q none is) = spelling_stuck names text spot p (λ g m x k r. not_none text g m k none)
stuck_at_fault names text spot kind (open_comment p none is) = comment_stuck names text spot p none
stuck_at_fault names text spot kind (bad_marker p none is) = marker_stuck names text spot p none

-- where a token begins nothing is passed without one
pub token_not_passed : (names : List (List ℕ)) (text : List ℕ) (spot : Spot) → TokenBegins text spot → (n : List ℕ) (b : Spot) → Step names text spot None n b → ⊥
token_not_passed names text spot q n b (over_blank x p w e y) = let c : Spelling ≡ Blank = clash spot.fresh text Spelling Blank q.piece p in cc
token_not_passed names text spot q n b (over_line_comment p e w y) = let c : Spelling ≡ LineComment = clash spot.fresh text Spelling LineComment q.piece p in cc
token_not_passed names text spot q n b (over_block_comment k p h e w y) = let c : Spelling ≡ BlockComment = clash spot.fresh text Spelling BlockComment q.piece p in cc
token_not_passed names text spot q n b (over_pragma_line p m e w y) = let c : Spelling ≡ MarkerLine = clash spot.fresh text Spelling MarkerLine q.piece p in cc
token_not_passed names text spot q n b (over_marker_line l x i p m s e w y) = let c : Spelling ≡ MarkerLine = clash spot.fresh text Spelling MarkerLine q.piece p in cc
token_not_passed names text spot q n b (over_last_line l x p m e r w y) = let c : Spelling ≡ MarkerLine = clash spot.fresh text Spelling MarkerLine q.piece p in cc
token_not_passed names text spot q n b (over_spelling f x k p h r i e y) = cc

-- one fault
pub one_fault : (text : List ℕ) (spot : Spot) (k m : FaultKind) → StandsAt text spot k → StandsAt text spot m → k ≡ m
one_fault text spot k m (malformed f n p h r) (malformed g o q i s) =
    let same = one_spelling text f n g o h i in
    let one : ◌≡◌ {A = Result Lexeme FaultKind} (Err k) (Err m) = one_reading g o (Err k) (Err m) (subst (λ z. Reads g z (Err k)) same.1 (subst (λ z. Reads z n (Err k)) same.0 r)) s in
    cc
one_fault text spot k m (malformed f n p h r) (open_literal q e none is) = absurd (not_none text f n h none)
one_fault text spot k m (malformed f n p h r) (bad_byte q e none is) = absurd (not_none text f n h none)
one_fault text spot k m (malformed f n p h r) (open_comment q none is) = let c : Spelling ≡ BlockComment = clash spot.fresh text Spelling BlockComment p q in cc
one_fault text spot k m (malformed f n p h r) (bad_marker q none is) = let c : Spelling ≡ MarkerLine = clash spot.fresh text Spelling MarkerLine p q in cc
one_fault text spot k m (open_literal p d none is) (malformed g o q i s) = absurd (not_none text g o i none)
one_fault text spot k m (open_literal p d none is) (open_literal q e other it) = is ∙ sym it
one_fault text spot k m (open_literal p d none is) (bad_byte q e other it) = absurd (true≢false (sym d ∙ e))
one_fault text spot k m (open_literal p d none is) (open_comment q other it) = let c : Spelling ≡ BlockComment = clash spot.fresh text Spelling BlockComment p q in cc
one_fault text spot k m (open_literal p d none is) (bad_marker q other it) = let c : Spelling ≡ MarkerLine = clash spot.fresh text Spelling MarkerLine p q in cc
one_fault text spot k m (bad_byte p d none is) (malformed g o q i s) = absurd (not_none text g o i none)
one_fault text spot k m (bad_byte p d none is) (open_literal q e other it) = absurd (true≢false (sym e ∙ d))
one_fault text spot k m (bad_byte p d none is) (bad_byte q e other it) = is ∙ sym it
one_fault text spot k m (bad_byte p d none is) (open_comment q other it) = let c : Spelling ≡ BlockComment = clash spot.fresh text Spelling BlockComment p q in cc
one_fault text spot k m (bad_byte p d none is) (bad_marker q other it) = let c : Spelling ≡ MarkerLine = clash spot.fresh text Spelling MarkerLine p q in cc
one_fault text spot k m (open_comment p none is) (malformed g o q i s) = let c : BlockComment ≡ Spelling = clash spot.fresh text BlockComment Spelling p q in cc
one_fault text spot k m (open_comment p none is) (open_literal q e other it) = let c : BlockComment ≡ Spelling = clash spot.fresh text BlockComment Spelling p q in cc
one_fault text spot k m (open_comment p none is) (bad_byte q e other it) = let c : BlockComment ≡ Spelling = clash spot.fresh text BlockComment Spelling p q in cc
one_fault text spot k m (open_comment p none is) (open_comment q other it) = is ∙ sym it
one_fault text spot k m (open_comment p none is) (bad_marker q other it) = let c : BlockComment ≡ MarkerLine = clash spot.fresh text BlockComment MarkerLine p q in cc
one_fault text spot k m (bad_marker p none is) (malformed g o q i s) = let c : MarkerLine ≡ Spelling = clash spot.fresh text MarkerLine Spelling p q in cc
one_fault text spot k m (bad_marker p none is) (open_literal q e other it) = let c : MarkerLine ≡ Spelling = clash spot.fresh text MarkerLine Spelling p q in cc
one_fault text spot k m (bad_marker p none is) (bad_byte q e other it) = let c : MarkerLine ≡ Spelling = clash spot.fresh text MarkerLine Spelling p q in cc
one_fault text spot k m (bad_marker p none is) (open_comment q other it) = let c : MarkerLine ≡ BlockComment = clash spot.fresh text MarkerLine BlockComment p q in cc
one_fault text spot k m (bad_marker p none is) (bad_marker q other it) = is ∙ sym it

-- no token begins where a fault stands, and none where the text ends
pub token_and_fault : (text : List ℕ) (spot : Spot) (kind : FaultKind) → TokenBegins text spot → StandsAt text spot kind → ⊥
token_and_fault text spot kind q (malformed f n p h r) = no_token_and_fault text q.front q.next f n q.lexeme kind q.spelled q.reading h r
token_and_fault text spot kind q (open_literal p d none is) = not_none text q.front q.next q.spelled none
token_and_fault text spot kind q (bad_byte p d none is) = not_none text q.front q.next q.spelled none
token_and_fault text spot kind q (open_comment p none is) = let c : Spelling ≡ BlockComment = clash spot.fresh text Spelling BlockComment q.piece p in cc
token_and_fault text spot kind q (bad_marker p none is) = let c : Spelling ≡ MarkerLine = clash spot.fresh text Spelling MarkerLine q.piece p in cc

pub no_token_at_end : (spot : Spot) → TokenBegins [] spot → ⊥
no_token_at_end spot q = at_end spot.fresh Spelling q.piece

pub no_fault_at_end : (spot : Spot) (kind : FaultKind) → StandsAt [] spot kind → ⊥
no_fault_at_end spot kind (malformed f n p h r) = at_end spot.fresh Spelling p
no_fault_at_end spot kind (open_literal p d none is) = at_end spot.fresh Spelling p
no_fault_at_end spot kind (bad_byte p d none is) = at_end spot.fresh Spelling p
no_fault_at_end spot kind (open_comment p none is) = at_end spot.fresh BlockComment p
no_fault_at_end spot kind (bad_marker p none is) = at_end spot.fresh MarkerLine p
