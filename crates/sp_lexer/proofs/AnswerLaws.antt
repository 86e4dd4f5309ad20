-- A text has one answer, and how a scan comes to it.
use Rattle.std.proofs.Common.{◌≡◌, ℕ, ◌+◌, ◌^◌, ◌<◌, ◌≤◌, List, [], ◌∷◌, ◌++◌, length, Option, Some, None, Result, Ok, Err, refl, sym, ap, ◌∙◌, subst, ◌⊎◌, inl, inr, length-append, append-nil, arith}
use Rattle.sp_tree.specs.declared.fault.Place.{Place}
use Rattle.sp_tree.specs.declared.fault.Fault.{Fault}
use Rattle.sp_tree.specs.declared.fault.FaultKind.{FaultKind}
use Rattle.sp_tree.specs.declared.fault.FaultKind.TheVariants.{TooManyTokens}
use Rattle.sp_tree.specs.declared.token.Token.{Token}
use Rattle.sp_tree.specs.declared.token.Kind.{Kind}
use Rattle.sp_tree.specs.Names.{AreDistinct, Extends}
use Rattle.sp_lexer.specs.declared.spot.Spot.{Spot}
use Rattle.sp_lexer.specs.Scan.{Lexeme, identifier, keyword, integer, character, string, punctuator, IsKind, Step, over_blank, over_line_comment, over_block_comment, over_pragma_line, over_marker_line, over_last_line, over_spelling, Passes, here, past, onward, StandsAt, TokenBegins, end_token, start, IsAnswer, scanned, refused, past_room}
use Rattle.sp_lexer.specs.Answers.{IsOnlyAnswer, Answers, error_at}
use Rattle.sp_lexer.specs.declared.stop.Stop.{Stop}
use Rattle.sp_lexer.specs.declared.stop.Stop.TheVariants as stops
use Rattle.sp_lexer.specs.Steps.{Fits, Passed, Grows, IfStands}
use Rattle.sp_lexer.specs.Named.{Adds, Collects, none_yet, one_more, CollectsAll}
use Rattle.sp_lexer.proofs.ScanLaws.{one_step, IsStuck, stuck_at_end, stuck_at_fault, token_not_passed, one_fault, token_and_fault, no_token_at_end, no_fault_at_end}

-- ---- two runs over one text

-- nothing is passed from a stuck spot
pub record Stays (tokens : List Token) (text rest : List ℕ) (spot end : Spot) : Type 0 where
  pub none : tokens ≡ []
  pub text_is : text ≡ rest
  pub spot_is : spot ≡ end

stays : (names : List (List ℕ)) (text rest : List ℕ) (spot end : Spot) (tokens : List Token) → IsStuck names text spot → Passes names text spot tokens rest end → Stays tokens text rest spot end
stays names text rest spot end [] stuck here = record { none = refl; text_is = refl; spot_is = refl }
stays names text rest spot end tokens stuck (past {next = n} {beyond = b} s p) = absurd (stuck None n b s)
stays names text rest spot end (t ∷ ts) stuck (onward {next = n} {beyond = b} s p) = absurd (stuck (Some t) n b s)

-- where a token begins, nothing is passed without it
waits : (names : List (List ℕ)) (text rest : List ℕ) (spot end : Spot) (tokens : List Token) → TokenBegins text spot → tokens ≡ [] → Passes names text spot tokens rest end → Stays tokens text rest spot end
waits names text rest spot end [] begun none here = record { none = refl; text_is = refl; spot_is = refl }
waits names text rest spot end tokens begun none (past {next = n} {beyond = b} s p) = absurd (token_not_passed names text spot begun n b s)
waits names text rest spot end (t ∷ ts) begun none (onward s p) = cc

-- the run that goes further begins as the other does
pub record Ahead (names : List (List ℕ)) (text rest : List ℕ) (spot end : Spot) (tokens others : List Token) : Type 0 where
  pub more : List Token
  pub run : Passes names text spot more rest end
  pub all : others ≡ tokens ++ more

module _ (names : List (List ℕ)) (distinct : AreDistinct names) where
  meet : (text r q : List ℕ) (spot e f : Spot) (ts us : List Token) → Passes names text spot ts r e → Passes names text spot us q f → Ahead names r q e f ts us ⊎ Ahead names q r f e us ts
  meet text r q spot e f [] us here k = inl (record { more = us; run = k; all = refl })
  meet text r q spot e f ts [] h here = inr (record { more = ts; run = h; all = refl })
  meet text r q spot e f ts us (past {next = n} {beyond = b} s h) (past {next = m} {beyond = c} t k) =
      let same = one_step names distinct text spot None None n m b c s t in
      meet m r q c e f ts us (subst (λ z. Passes names z c ts r e) same.next (subst (λ z. Passes names n z ts r e) same.beyond h)) k
  meet text r q spot e f ts (u ∷ us) (past {next = n} {beyond = b} s h) (onward {next = m} {beyond = c} t k) =
      let same = one_step names distinct text spot None (Some u) n m b c s t in
      let no_token : None ≡ Some u = same.token in
      absurd (cc)
  meet text r q spot e f (t ∷ ts) us (onward {next = n} {beyond = b} s h) (past {next = m} {beyond = c} v k) =
      let same = one_step names distinct text spot (Some t) None n m b c s v in
      let no_token : Some t ≡ None = same.token in
      absurd (cc)
  meet text r q spot e f (t ∷ ts) (u ∷ us) (onward {next = n} {beyond = b} s h) (onward {next = m} {beyond = c} v k) =
      let same = one_step names distinct text spot (Some t) (Some u) n m b c s v in
      let some : Some t ≡ Some u = same.token in
      let token : t ≡ u = cc in
      let later = meet m r q c e f ts us (subst (λ z. Passes names z c ts r e) same.next (subst (λ z. Passes names n z ts r e) same.beyond h)) k in
      elim later [
        | inl a ↦ inl (record { more = a.more; run = a.run; all = ap (λ z. z ∷ us) (sym token) ∙ ap (λ zs. t ∷ zs) a.all })
        | inr a ↦ inr (record { more = a.more; run = a.run; all = ap (λ z. z ∷ ts) token ∙ ap (λ zs. u ∷ zs) a.all })
      ]

-- ---- one answer

abbrev fault_at : FaultKind → Place → Result (List Token) Fault
fault_at kind place = Err (record { kind = kind; place = place })

no_more_tokens : (a b more : List Token) (room : ℕ) → a ≡ b ++ more → length a ≤ room → length b ≡ room → more ≡ []
no_more_tokens a b [] room e few full = refl
no_more_tokens a b (t ∷ ts) room e few full = absurd (omega (arith, ap length e, length-append b (t ∷ ts), few, full))

module _ (names : List (List ℕ)) (distinct : AreDistinct names) (text : List ℕ) (from : Spot) (room : ℕ) where
  -- what two ends of runs have in common: everything
  both_scanned : (ts us : List Token) (e f : Spot) → Passes names text from ts [] e → Passes names text from us [] f → ◌≡◌ {A = List Token} (ts ++ end_token e ∷ []) (us ++ end_token f ∷ [])
  both_scanned ts us e f h k = by (meet names distinct text [] [] from e f ts us h k)
    where
      by : Ahead names [] [] e f ts us ⊎ Ahead names [] [] f e us ts → ◌≡◌ {A = List Token} (ts ++ end_token e ∷ []) (us ++ end_token f ∷ [])
      by (inl a) =
          let s = stays names [] [] e f a.more (stuck_at_end names e) a.run in
          let same : us ≡ ts = a.all ∙ ap (λ m. ts ++ m) s.none ∙ append-nil ts in
          ap (λ z. ts ++ end_token z ∷ []) s.spot_is ∙ ap (λ z. z ++ end_token f ∷ []) (sym same)
      by (inr a) =
          let s = stays names [] [] f e a.more (stuck_at_end names f) a.run in
          let same : ts ≡ us = a.all ∙ ap (λ m. us ++ m) s.none ∙ append-nil us in
          ap (λ z. z ++ end_token e ∷ []) same ∙ ap (λ z. us ++ end_token z ∷ []) (sym s.spot_is)

  scanned_and_refused : (ts us : List Token) (e f : Spot) (rest : List ℕ) (kind : FaultKind) → Passes names text from ts [] e → Passes names text from us rest f → StandsAt rest f kind → ⊥
  scanned_and_refused ts us e f rest kind h k fault = by (meet names distinct text [] rest from e f ts us h k)
    where
      by : Ahead names [] rest e f ts us ⊎ Ahead names rest [] f e us ts → ⊥
      by (inl a) = let s = stays names [] rest e f a.more (stuck_at_end names e) a.run in no_fault_at_end f kind (subst (λ z. StandsAt z f kind) (sym s.text_is) fault)
      by (inr a) = let s = stays names rest [] f e a.more (stuck_at_fault names rest f kind fault) a.run in no_fault_at_end f kind (subst (λ z. StandsAt z f kind) s.text_is fault)

  scanned_and_past : (ts us : List Token) (e f : Spot) (rest : List ℕ) → Passes names text from ts [] e → length ts ≤ room → Passes names text from us rest f → length us ≡ room → TokenBegins rest f → ⊥
  scanned_and_past ts us e f rest h few k full begun = by (meet names distinct text [] rest from e f ts us h k)
    where
      by : Ahead names [] rest e f ts us ⊎ Ahead names rest [] f e us ts → ⊥
      by (inl a) = let s = stays names [] rest e f a.more (stuck_at_end names e) a.run in no_token_at_end f (subst (λ z. TokenBegins z f) (sym s.text_is) begun)
      by (inr a) = let s = waits names rest [] f e a.more begun (no_more_tokens ts us a.more room a.all few full) a.run in no_token_at_end f (subst (λ z. TokenBegins z f) s.text_is begun)

  both_refused : (ts us : List Token) (e f : Spot) (r q : List ℕ) (k m : FaultKind) → Passes names text from ts r e → Passes names text from us q f → StandsAt r e k → StandsAt q f m → fault_at k e.place ≡ fault_at m f.place
  both_refused ts us e f r q k m h i a b = by (meet names distinct text r q from e f ts us h i)
    where
      by : Ahead names r q e f ts us ⊎ Ahead names q r f e us ts → fault_at k e.place ≡ fault_at m f.place
      by (inl c) =
          let s = stays names r q e f c.more (stuck_at_fault names r e k a) c.run in
          let kind : k ≡ m = one_fault q f k m (subst (λ z. StandsAt q z k) s.spot_is (subst (λ z. StandsAt z e k) s.text_is a)) b in
          ap (λ z. fault_at z e.place) kind ∙ ap (λ z. fault_at m z.place) s.spot_is
      by (inr c) =
          let s = stays names q r f e c.more (stuck_at_fault names q f m b) c.run in
          let kind : k ≡ m = one_fault r e k m a (subst (λ z. StandsAt r z m) s.spot_is (subst (λ z. StandsAt z f m) s.text_is b)) in
          ap (λ z. fault_at z e.place) kind ∙ ap (λ z. fault_at m z.place) (sym s.spot_is)

  refused_and_past : (ts us : List Token) (e f : Spot) (r q : List ℕ) (k : FaultKind) → Passes names text from ts r e → length ts ≤ room → StandsAt r e k → Passes names text from us q f → length us ≡ room → TokenBegins q f → ⊥
  refused_and_past ts us e f r q k h few a i full begun = by (meet names distinct text r q from e f ts us h i)
    where
      by : Ahead names r q e f ts us ⊎ Ahead names q r f e us ts → ⊥
      by (inl c) = let s = stays names r q e f c.more (stuck_at_fault names r e k a) c.run in token_and_fault q f k begun (subst (λ z. StandsAt q z k) s.spot_is (subst (λ z. StandsAt z e k) s.text_is a))
      by (inr c) = let s = waits names q r f e c.more begun (no_more_tokens ts us c.more room c.all few full) c.run in token_and_fault r e k (subst (λ z. TokenBegins r z) s.spot_is (subst (λ z. TokenBegins z f) s.text_is begun)) a

  both_past : (ts us : List Token) (e f : Spot) (r q : List ℕ) → Passes names text from ts r e → length ts ≡ room → TokenBegins r e → Passes names text from us q f → length us ≡ room → TokenBegins q f → fault_at TooManyTokens e.place ≡ fault_at TooManyTokens f.place
  both_past ts us e f r q h full a i full_too b = by (meet names distinct text r q from e f ts us h i)
    where
      by : Ahead names r q e f ts us ⊎ Ahead names q r f e us ts → fault_at TooManyTokens e.place ≡ fault_at TooManyTokens f.place
      by (inl c) = let s = waits names r q e f c.more a (no_more_tokens us ts c.more room c.all (omega (arith, full_too)) full) c.run in ap (λ z. fault_at TooManyTokens z.place) s.spot_is
      by (inr c) = let s = waits names q r f e c.more b (no_more_tokens ts us c.more room c.all (omega (arith, full)) full_too) c.run in ap (λ z. fault_at TooManyTokens z.place) (sym s.spot_is)

  pub one_answer : (a b : Result (List Token) Fault) → IsAnswer names text from room a → IsAnswer names text from room b → a ≡ b
  one_answer a b (scanned ts e h few is) (scanned us f k all it) = is ∙ ap (λ z. Ok z) (both_scanned ts us e f h k) ∙ sym it
  one_answer a b (scanned ts e h few is) (refused us q f m k all fault it) = absurd (scanned_and_refused ts us e f q m h k fault)
  one_answer a b (scanned ts e h few is) (past_room us q f k full begun it) = absurd (scanned_and_past ts us e f q h few k full begun)
  one_answer a b (refused ts r e k h few fault is) (scanned us f i all it) = absurd (scanned_and_refused us ts f e r k i h fault)
  one_answer a b (refused ts r e k h few fault is) (refused us q f m i all other it) = is ∙ both_refused ts us e f r q k m h i fault other ∙ sym it
  one_answer a b (refused ts r e k h few fault is) (past_room us q f i full begun it) = absurd (refused_and_past ts us e f r q k h few fault i full begun)
  one_answer a b (past_room ts r e h full begun is) (scanned us f i all it) = absurd (scanned_and_past us ts f e r i all h full begun)
  one_answer a b (past_room ts r e h full begun is) (refused us q f m i all fault it) = absurd (refused_and_past us ts f e q r m i all fault h full begun)
  one_answer a b (past_room ts r e h full begun is) (past_room us q f i all other it) = is ∙ both_past ts us e f r q h full begun i all other ∙ sym it

-- ---- a run with more names, and one piece further

kind_kept : (old new : List (List ℕ)) → Extends old new → (x : Lexeme) (k : Kind) → IsKind old x k → IsKind new x k
kind_kept old new kept (identifier bytes) k h = (h.0, kept h.0 bytes h.1, h.2)
kind_kept old new kept (keyword w) k h = h
kind_kept old new kept (integer v) k h = h
kind_kept old new kept (character v) k h = h
kind_kept old new kept (string bytes) k h = (h.0, kept h.0 bytes h.1, h.2)
kind_kept old new kept (punctuator p) k h = h

step_kept : (old new : List (List ℕ)) → Extends old new → (text : List ℕ) (spot : Spot) (t : Option Token) (n : List ℕ) (b : Spot) → Step old text spot t n b → Step new text spot t n b
step_kept old new kept text spot t n b (over_blank x p w e y) = over_blank x p w e y
step_kept old new kept text spot t n b (over_line_comment p e w y) = over_line_comment p e w y
step_kept old new kept text spot t n b (over_block_comment k p h e w y) = over_block_comment k p h e w y
step_kept old new kept text spot t n b (over_pragma_line p m e w y) = over_pragma_line p m e w y
step_kept old new kept text spot t n b (over_marker_line l x i p m s e w y) = over_marker_line l x i p m (kept i x s) e w y
step_kept old new kept text spot t n b (over_last_line l x p m e r w y) = over_last_line l x p m e r w y
step_kept old new kept text spot t n b (over_spelling f x k p h r i e y) = over_spelling f x k p h r (kind_kept old new kept x k i) e y

pub passes_kept : (old new : List (List ℕ)) → Extends old new → (text rest : List ℕ) (spot end : Spot) (tokens : List Token) → Passes old text spot tokens rest end → Passes new text spot tokens rest end
passes_kept old new kept text rest spot end [] here = here
passes_kept old new kept text rest spot end tokens (past {next = n} {beyond = b} s p) = past (step_kept old new kept text spot None n b s) (passes_kept old new kept n rest b end tokens p)
passes_kept old new kept text rest spot end (t ∷ ts) (onward {next = n} {beyond = b} s p) = onward (step_kept old new kept text spot (Some t) n b s) (passes_kept old new kept n rest b end ts p)

pub one_past : (names : List (List ℕ)) (text rest next : List ℕ) (spot end beyond : Spot) (tokens : List Token) → Passes names text spot tokens rest end → Step names rest end None next beyond → Passes names text spot tokens next beyond
one_past names text rest next spot end beyond [] here s = past s here
one_past names text rest next spot end beyond tokens (past {next = n} {beyond = b} t p) s = past t (one_past names n rest next b end beyond tokens p s)
one_past names text rest next spot end beyond (t ∷ ts) (onward {next = n} {beyond = b} u p) s = onward u (one_past names n rest next b end beyond ts p s)

pub one_onward : (names : List (List ℕ)) (text rest next : List ℕ) (spot end beyond : Spot) (tokens : List Token) (token : Token) → Passes names text spot tokens rest end → Step names rest end (Some token) next beyond → Passes names text spot (tokens ++ token ∷ []) next beyond
one_onward names text rest next spot end beyond [] token here s = onward s here
one_onward names text rest next spot end beyond tokens token (past {next = n} {beyond = b} t p) s = past t (one_onward names n rest next b end beyond tokens token p s)
one_onward names text rest next spot end beyond (t ∷ ts) token (onward {next = n} {beyond = b} u p) s = onward u (one_onward names n rest next b end beyond ts token p s)

-- a step with a token is one over a spelling
pub token_begins : (names : List (List ℕ)) (text : List ℕ) (spot : Spot) (token : Token) (next : List ℕ) (beyond : Spot) → Step names text spot (Some token) next beyond → TokenBegins text spot
token_begins names text spot token next beyond (over_blank x p w e y) = cc
token_begins names text spot token next beyond (over_line_comment p e w y) = cc
token_begins names text spot token next beyond (over_block_comment k p h e w y) = cc
token_begins names text spot token next beyond (over_pragma_line p m e w y) = cc
token_begins names text spot token next beyond (over_marker_line l x i p m s e w y) = cc
token_begins names text spot token next beyond (over_last_line l x p m e r w y) = cc
token_begins names text spot token next beyond (over_spelling f x k p h r i e y) = record { front = f; next = next; lexeme = x; piece = p; spelled = h; reading = r }

-- ---- what a scan keeps

-- the text is passed up to a rest, with these tokens
pub record Scanning (old names : List (List ℕ)) (text : List ℕ) (from : Spot) (room : ℕ) (tokens : List Token) (rest : List ℕ) (spot : Spot) : Type 0 where
  pub passed : Passes names text from tokens rest spot
  pub fits : Fits spot rest
  pub few : length tokens ≤ room
  pub kept : Extends old names
  pub named : Collects text from old rest spot names
  pub distinct : AreDistinct names
  pub count : length names + length rest ≤ length old + length text

pub scanning_from : (names : List (List ℕ)) (text : List ℕ) (name room : ℕ) → AreDistinct names → length names + length text < 2 ^ 32 → Scanning names names text (start name) room [] text (start name)
scanning_from names text name room distinct held = record {
  passed = here;
  fits = record { line = omega (arith, held); column = omega (arith, held); bytes = omega (arith, held) };
  few = omega arith;
  kept = λ i bytes h. h;
  named = none_yet;
  distinct = distinct;
  count = omega arith;
}

module _ (old names now : List (List ℕ)) (text : List ℕ) (from : Spot) (room : ℕ) (tokens : List Token) (rest : List ℕ) (spot : Spot) (so_far : Scanning old names text from room tokens rest spot) (grown : Grows names now) where
  -- the run so far, under the names that there are now
  run_now : Passes now text from tokens rest spot
  run_now = passes_kept names now grown.kept text rest from spot tokens so_far.passed

  pub still_distinct : AreDistinct now
  still_distinct = grown.distinct so_far.distinct

  pub still_kept : Extends old now
  still_kept = λ i bytes h. grown.kept i bytes (so_far.kept i bytes h)

  pub still_count : 0 < length rest → length now ≤ length old + length text
  still_count some = omega (arith, grown.count, so_far.count, some)

  pub scanning_past : (next : List ℕ) (beyond : Spot) → Step now rest spot None next beyond → Adds names now rest spot next beyond → Passed rest next beyond → Scanning old now text from room tokens next beyond
  scanning_past next beyond step added passed = record {
    passed = one_past now text rest next from spot beyond tokens run_now step;
    fits = passed.fits;
    few = so_far.few;
    kept = still_kept;
    named = one_more so_far.named added;
    distinct = still_distinct;
    count = omega (arith, grown.count, so_far.count, passed.shorter);
  }

  pub scanning_onward : (token : Token) (next : List ℕ) (beyond : Spot) → Step now rest spot (Some token) next beyond → Adds names now rest spot next beyond → Passed rest next beyond → (length tokens ≡ room → ⊥) → Scanning old now text from room (tokens ++ token ∷ []) next beyond
  scanning_onward token next beyond step added passed unlike = record {
    passed = one_onward now text rest next from spot beyond tokens token run_now step;
    fits = passed.fits;
    few = omega (arith, length-append tokens (token ∷ []), so_far.few, unlike);
    kept = still_kept;
    named = one_more so_far.named added;
    distinct = still_distinct;
    count = omega (arith, grown.count, so_far.count, passed.shorter);
  }

  only : (answer : Result (List Token) Fault) → IsAnswer now text from room answer → IsOnlyAnswer now text from room answer
  only answer found = record { found = found; only = λ other h. one_answer now still_distinct text from room other answer h found }

  pub answer_stop : (stop : Stop) → IfStands rest spot stop → Answers now text from room (Err (error_at stop spot.place))
  answer_stop (stops.Fault kind) fault = only _ (refused tokens rest spot kind run_now so_far.few fault refl)
  answer_stop stops.NoMemory fault = tt

  pub answer_past : (token : Token) (next : List ℕ) (beyond : Spot) → Step now rest spot (Some token) next beyond → length tokens ≡ room → IsOnlyAnswer now text from room (Err (record { kind = TooManyTokens; place = spot.place }))
  answer_past token next beyond step full = only _ (past_room tokens rest spot run_now full (token_begins now rest spot token next beyond step) refl)

  pub answer_end : rest ≡ [] → IsOnlyAnswer now text from room (Ok (tokens ++ end_token spot ∷ []))
  answer_end ended = only _ (scanned tokens spot (subst (λ r. Passes now text from tokens r spot) ended run_now) so_far.few refl)

pub grows_none : (names : List (List ℕ)) → Grows names names
grows_none names = record { kept = λ i bytes h. h; distinct = λ h. h; count = omega arith }

pub named_end : (old names : List (List ℕ)) (text : List ℕ) (from : Spot) (room : ℕ) (tokens : List Token) (rest : List ℕ) (spot : Spot) → Scanning old names text from room tokens rest spot → rest ≡ [] → CollectsAll text from old names
named_end old names text from room tokens rest spot so_far ended = (spot, subst (λ r. Collects text from old r spot names) ended so_far.named)
