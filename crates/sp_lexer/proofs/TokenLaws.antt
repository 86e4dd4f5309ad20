-- Laws of the token that begins a text.
use Rattle.std.proofs.Common.{◌≡◌, ℕ, ◌+◌, ◌<◌, true, false, List, [], ◌∷◌, ◌++◌, length, take, drop, Some, None, Ok, Err, refl, sym, ap, ◌∙◌, length-append, length-take, arith}
use Rattle.std.proofs.lemmas.List.{drop_at}
use Rattle.sp_tree.specs.declared.token.Kind.{Kind}
use Rattle.sp_lexer.specs.Bytes.{is_letter, is_word_byte, is_quote, begins, front, after}
use Rattle.sp_lexer.specs.Spelling.{is_word, is_run, IsSpelling, BeginsWith}
use Rattle.sp_lexer.specs.Extents.{before_quote, run_len, starts_run}
use Rattle.sp_lexer.specs.Scan.{Lexeme, IsKind, Reads}
use Rattle.sp_tree.specs.declared.fault.FaultKind.TheVariants.{BadByte, OpenLiteral}
use Rattle.sp_tree.specs.declared.token.Punct.{Punct}
use Rattle.sp_tree.specs.Spellings.{mark_spelling}
use Rattle.sp_lexer.specs.Marks.{marks, mark_among}
use Rattle.sp_lexer.specs.declared.stop.Stop.{Stop}
use Rattle.sp_lexer.specs.declared.stop.Stop.TheVariants as stops
use Rattle.sp_lexer.specs.Steps.{TokenAt, KindOf, IsFaulty, IfFaulty, bad_spelling, no_quote, no_spelling}
use Rattle.sp_lexer.proofs.Cases.{together}
use Rattle.sp_lexer.proofs.SpellingLaws.{no_empty, front-passes, letter-word, word-begins, run-begins, run-spelled, literal-begins, no-literal-begins, mark-begins, nothing-begins}

some_bytes : (xs : List ℕ) → IsSpelling xs → 0 < length xs
some_bytes [] h = absurd (no_empty h)
some_bytes (x ∷ xs) h = omega arith

-- a spelling with its reading is a token
pub token-at : (names : List (List ℕ)) (text front next : List ℕ) (lexeme : Lexeme) (kind : Kind) (n : ℕ) → BeginsWith text front next → Reads front next (Ok lexeme) → IsKind names lexeme kind → length front ≡ n → TokenAt names text kind n
token-at names text front next lexeme kind n begun reading kind_is size = record {
  lexeme = lexeme;
  next = next;
  front = front;
  spelled = begun;
  reading = reading;
  kind_is = kind_is;
  rest = sym (drop_at front next n size) ∙ sym (ap (drop n) begun.whole);
  size = size;
  some = omega (arith, some_bytes front begun.spelled, size);
  within = omega (arith, size, ap length begun.whole, length-append front next);
}

-- a spelling with its fault is a fault
pub fault-at : (names : List (List ℕ)) (text front next : List ℕ) (stop : Stop) → BeginsWith text front next → KindOf names front next (Err stop) → IfFaulty text stop
fault-at names text front next (stops.Fault kind) begun reading = bad_spelling front next begun reading
fault-at names text front next stops.NoMemory begun reading = tt

-- the word that begins a text
pub first-word : (text : List ℕ) → begins is_letter text ≡ true → BeginsWith text (front is_word_byte text) (after is_word_byte text)
first-word [] h = cc
first-word (b ∷ bs) h = word-begins b bs h

pub first-word-is : (text : List ℕ) → begins is_letter text ≡ true → is_word (front is_word_byte text) ≡ true
first-word-is [] h = cc
first-word-is (b ∷ bs) h = rw (letter-word b h) (together (is_letter b) _ h (front-passes is_word_byte bs))

-- the number run that begins a text
pub first-run : (text : List ℕ) → starts_run text ≡ true → BeginsWith text (take (run_len 48 text) text) (drop (run_len 48 text) text)
first-run [] h = cc
first-run (b ∷ bs) h = run-begins b bs h

pub first-run-is : (text : List ℕ) → starts_run text ≡ true → is_run (take (run_len 48 text) text) ≡ true
first-run-is [] h = cc
first-run-is (b ∷ bs) h = run-spelled b bs h

-- the literal that begins a text, where its quote is found
pub first-literal : (q n : ℕ) (bs : List ℕ) → is_quote q ≡ true → Some n ≡ before_quote false q bs → BeginsWith (q ∷ bs) (q ∷ take n bs ++ q ∷ []) (drop (n + 1) bs)
first-literal q n bs quote at = literal-begins q bs n quote (sym at)

-- no literal, and nothing else
pub no-literal : (q : ℕ) (bs : List ℕ) → is_quote q ≡ true → None ≡ before_quote false q bs → IsFaulty (q ∷ bs) OpenLiteral
no-literal q bs quote none = no_quote quote (no-literal-begins q bs quote (sym none)) refl

pub literal-size : (q n : ℕ) (bs : List ℕ) → n < length bs → length (q ∷ take n bs ++ q ∷ []) ≡ n + 2
literal-size q n bs within = omega (arith, length-append (take n bs) (q ∷ []), length-take n bs, within)

-- the mark that begins a text
pub first-mark : (text : List ℕ) (m : Punct) → 0 < length text → begins is_letter text ≡ false → starts_run text ≡ false → begins is_quote text ≡ false → Some m ≡ mark_among text marks → BeginsWith text (mark_spelling m) (drop (length (mark_spelling m)) text)
first-mark [] m some letter run quote at = absurd (omega (arith, some))
first-mark (b ∷ bs) m some letter run quote at = mark-begins b bs m letter run quote (sym at)

pub no-mark : (text : List ℕ) → 0 < length text → begins is_letter text ≡ false → starts_run text ≡ false → begins is_quote text ≡ false → None ≡ mark_among text marks → IsFaulty text BadByte
no-mark [] some letter run quote none = absurd (omega (arith, some))
no-mark (b ∷ bs) some letter run quote none = no_spelling quote (nothing-begins b bs letter run quote (sym none)) refl
