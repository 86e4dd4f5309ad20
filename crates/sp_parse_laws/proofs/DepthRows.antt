-- Where the table tells that a depth is passed, on small texts: at the first token with which each tree is too deep.
use Rattle.std.proofs.Common.{◌≡◌, ℕ, zero, suc, List, [], ◌∷◌, Some, None, refl}
use Rattle.std.specs.Prelude.{length, map, ◌-◌, nat_lt, if◌then◌else◌}
use Rattle.sp_tree.specs.declared.token.Keyword.TheVariants as words
use Rattle.sp_tree.specs.declared.token.Kind.{Kind}
use Rattle.sp_tree.specs.declared.token.Kind.TheVariants.{Name, Word, Mark, End}
use Rattle.sp_tree.specs.declared.token.Punct.TheVariants as puncts
use Rattle.sp_parse_grammar.specs.Table.{Plan, done, take, call}
use Rattle.sp_parse_grammar.specs.CTable as grammar
use Rattle.sp_parse_grammar.specs.CTable.{Ask, Answer, at, outside, whole, c_symbols, accepts}
use Rattle.sp_parse_tokens.specs.Sorts.{Terminal, c_tokens, nowhere}
use Rattle.sp_parse_tokens.specs.SyntaxTrees.{syntax_trees, c_table}
use Rattle.sp_parse_tokens.specs.Depths.{c_depths}
use Rattle.sp_parse_laws.specs.Answers.{expression_ask, type_name_ask, specifiers_ask, declarator_ask}

-- What comes of reading no deeper than allowed: an answer and what is left, the token at which the depth is passed and those behind it,
-- or neither.
data Outcome (m : Ask syntax_trees) : Type 0 where
  read : Answer m → List Terminal → Outcome m
  passed : List Terminal → Outcome m
  unknown : Outcome m

-- a part may be as deep as its whole but for what the whole is deeper at least
abbrev mutual
  run : {m : Ask syntax_trees} → ℕ → Plan (c_symbols syntax_trees) m → ℕ → List Terminal → Outcome m
  run zero p d xs = unknown
  run (suc f) (done o) d xs = read o xs
  run (suc f) (take c k) d [] = unknown
  run (suc f) (take c k) d (x ∷ xs) = if accepts c x then run f (k x) d xs else unknown
  run {m} (suc f) (call n k) d xs = elim (part f n (d - c_depths.down m n) xs) [ read a ys ↦ run f (k a) d ys | passed ys ↦ passed ys | unknown ↦ unknown ]

  part : ℕ → (n : Ask syntax_trees) → ℕ → List Terminal → Outcome n
  part zero n d xs = unknown
  part (suc f) n d [] = unknown
  part (suc f) n d (x ∷ xs) = if nat_lt d (c_depths.least n x) then passed (x ∷ xs) else elim (c_table.predict n x) [ None ↦ unknown | Some q ↦ run f q d (x ∷ xs) ]

-- the number of tokens before the one at which the depth is passed, or of those read
data Told : Type 0 where
  reads : ℕ → Told
  passes : ℕ → Told
  nothing : Told

abbrev told_of : (n : Ask syntax_trees) → List Terminal → Outcome n → Told
told_of n tokens (read a xs) = reads (length tokens - length xs)
told_of n tokens (passed xs) = passes (length tokens - length xs)
told_of n tokens unknown = nothing

abbrev text : List Kind → List Terminal
text ks = c_tokens (map (λ k. record { kind = k; place = nowhere }) ks)

abbrev tell : Ask syntax_trees → ℕ → List Kind → Told
tell n d ks = told_of n (text ks) (part 600 n d (text ks))

-- (a), of depth 2
row_1 : tell (expression_ask []) 1 (Mark puncts.LeftParenthesis ∷ Name 0 ∷ Mark puncts.RightParenthesis ∷ End ∷ []) ≡ passes 0
row_1 = refl

row_2 : tell (expression_ask []) 2 (Mark puncts.LeftParenthesis ∷ Name 0 ∷ Mark puncts.RightParenthesis ∷ End ∷ []) ≡ reads 3
row_2 = refl

-- ((a)): with the second `(` it is of depth 3
row_3 : tell (expression_ask []) 2 (Mark puncts.LeftParenthesis ∷ Mark puncts.LeftParenthesis ∷ Name 0 ∷ Mark puncts.RightParenthesis ∷ Mark puncts.RightParenthesis ∷ End ∷ []) ≡ passes 1
row_3 = refl

-- sizeof a
row_4 : tell (expression_ask []) 1 (Word words.Sizeof ∷ Name 0 ∷ End ∷ []) ≡ passes 0
row_4 = refl

-- sizeof(a): a type name could make it a tree of depth 2, the name can't
row_5 : tell (expression_ask []) 2 (Word words.Sizeof ∷ Mark puncts.LeftParenthesis ∷ Name 0 ∷ Mark puncts.RightParenthesis ∷ End ∷ []) ≡ passes 2
row_5 = refl

-- a+b*c, of depth 3 with its `*`
row_6 : tell (expression_ask []) 2 (Name 0 ∷ Mark puncts.Plus ∷ Name 1 ∷ Mark puncts.Star ∷ Name 2 ∷ End ∷ []) ≡ passes 3
row_6 = refl

-- a,b,c
row_7 : tell (expression_ask []) 2 (Name 0 ∷ Mark puncts.Comma ∷ Name 1 ∷ Mark puncts.Comma ∷ Name 2 ∷ End ∷ []) ≡ passes 3
row_7 = refl

-- a?(b):c
row_8 : tell (expression_ask []) 2 (Name 0 ∷ Mark puncts.Question ∷ Mark puncts.LeftParenthesis ∷ Name 1 ∷ Mark puncts.RightParenthesis ∷ Mark puncts.Colon ∷ Name 2 ∷ End ∷ []) ≡ passes 2
row_8 = refl

-- f(a,(b))
row_9 : tell (expression_ask []) 2 (Name 0 ∷ Mark puncts.LeftParenthesis ∷ Name 1 ∷ Mark puncts.Comma ∷ Mark puncts.LeftParenthesis ∷ Name 2 ∷ Mark puncts.RightParenthesis ∷ Mark puncts.RightParenthesis ∷ End ∷ []) ≡ passes 4
row_9 = refl

-- (int*)a
row_10 : tell (expression_ask []) 2 (Mark puncts.LeftParenthesis ∷ Word words.Int ∷ Mark puncts.Star ∷ Mark puncts.RightParenthesis ∷ Name 0 ∷ End ∷ []) ≡ passes 2
row_10 = refl

-- int, with its absent declarator
row_11 : tell (type_name_ask []) 0 (Word words.Int ∷ End ∷ []) ≡ passes 0
row_11 = refl

-- int([3])
row_12 : tell (type_name_ask []) 2 (Word words.Int ∷ Mark puncts.LeftParenthesis ∷ Mark puncts.LeftBracket ∷ Mark puncts.RightBracket ∷ Mark puncts.RightParenthesis ∷ End ∷ []) ≡ passes 2
row_12 = refl

-- struct{int a;}
row_13 : tell (specifiers_ask []) 1 (Word words.Struct ∷ Mark puncts.LeftBrace ∷ Word words.Int ∷ Name 0 ∷ Mark puncts.Semicolon ∷ Mark puncts.RightBrace ∷ End ∷ []) ≡ passes 1
row_13 = refl

-- enum{a=b}: the value alone counts
row_14 : tell (specifiers_ask []) 0 (Word words.Enum ∷ Mark puncts.LeftBrace ∷ Name 0 ∷ Mark puncts.Assign ∷ Name 1 ∷ Mark puncts.RightBrace ∷ End ∷ []) ≡ passes 3
row_14 = refl

-- a[(b)]
row_15 : tell (declarator_ask []) 2 (Name 0 ∷ Mark puncts.LeftBracket ∷ Mark puncts.LeftParenthesis ∷ Name 1 ∷ Mark puncts.RightParenthesis ∷ Mark puncts.RightBracket ∷ End ∷ []) ≡ passes 2
row_15 = refl

-- (*a)
row_16 : tell (declarator_ask []) 2 (Mark puncts.LeftParenthesis ∷ Mark puncts.Star ∷ Name 0 ∷ Mark puncts.RightParenthesis ∷ End ∷ []) ≡ passes 1
row_16 = refl

-- f(int*)
row_17 : tell (declarator_ask []) 2 (Name 0 ∷ Mark puncts.LeftParenthesis ∷ Word words.Int ∷ Mark puncts.Star ∷ Mark puncts.RightParenthesis ∷ End ∷ []) ≡ passes 3
row_17 = refl

-- int a={b};
row_18 : tell whole 2 (Word words.Int ∷ Name 0 ∷ Mark puncts.Assign ∷ Mark puncts.LeftBrace ∷ Name 1 ∷ Mark puncts.RightBrace ∷ Mark puncts.Semicolon ∷ End ∷ []) ≡ passes 3
row_18 = refl

-- if(a)b;
row_19 : tell (at (outside []) grammar.statement) 2 (Word words.If ∷ Mark puncts.LeftParenthesis ∷ Name 0 ∷ Mark puncts.RightParenthesis ∷ Name 1 ∷ Mark puncts.Semicolon ∷ End ∷ []) ≡ passes 4
row_19 = refl

-- a:b;
row_20 : tell (at (outside []) grammar.statement) 2 (Name 0 ∷ Mark puncts.Colon ∷ Name 1 ∷ Mark puncts.Semicolon ∷ End ∷ []) ≡ passes 2
row_20 = refl
