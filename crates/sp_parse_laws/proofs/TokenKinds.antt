-- What kind a token is, by its sort: how the grammar's sorts give the kinds back.
use Rattle.std.proofs.Common.{◌≡◌, ℕ, ℤ, ◌+◌, Bool, true, false, ◌⊎◌, inl, inr, List, [], ◌∷◌, get_or, refl, sym, ap, ◌∙◌, subst, eqb-true, arith, ◌≤◌}
use Rattle.std.specs.Prelude.{if◌then◌else◌, ◌==◌}
use Rattle.std.specs.List.{list_any}
use Rattle.sp_tree.specs.declared.token.Keyword.{Keyword}
use Rattle.sp_tree.specs.declared.token.Keyword.TheVariants as words
use Rattle.sp_tree.specs.declared.token.Kind.{Kind}
use Rattle.sp_tree.specs.declared.token.Kind.TheVariants as kinds
use Rattle.sp_tree.specs.declared.token.Number.{Number}
use Rattle.sp_tree.specs.declared.token.Punct.{Punct}
use Rattle.sp_tree.specs.declared.token.Punct.TheVariants as puncts
use Rattle.sp_parse_trees.specs.Words.{is_storage, is_typedef, is_qualifier, is_step, is_unary, is_assignment, binary_level}
use Rattle.sp_parse_grammar.specs.CTokens as tokens
use Rattle.sp_parse_grammar.specs.CTokens.{Mark, Sort, TypeWord, view, is_mark, number_of}
use Rattle.sp_parse_tokens.specs.Sorts.{Terminal, sort_of, word_sort, punct_sort, mark_kind}

-- a mark that stands for itself, or one of two
abbrev pub OfMark : Mark → Kind → Type 0
OfMark tokens.member k = (p : Punct) × (k ≡ kinds.Mark p) × ((p ≡ puncts.Dot) ⊎ (p ≡ puncts.Arrow))
OfMark tokens.step k = (p : Punct) × (k ≡ kinds.Mark p) × (is_step p ≡ true)
OfMark tokens.additive k = (p : Punct) × (k ≡ kinds.Mark p) × (is_step p ≡ false) × (is_unary p ≡ true) × (binary_level p ≡ 11)
OfMark tokens.tilde k = (p : Punct) × (k ≡ kinds.Mark p) × (is_step p ≡ false) × (is_unary p ≡ true)
OfMark tokens.struct k = (w : Keyword) × (k ≡ kinds.Word w) × ((w ≡ words.Struct) ⊎ (w ≡ words.Union))
OfMark m k = k ≡ mark_kind m

abbrev pub Of : Sort → Kind → Type 0
Of (tokens.name n) k = k ≡ kinds.Name n
Of (tokens.named_type n) k = k ≡ kinds.Name n
Of tokens.constant k = ((n : Number) × (k ≡ kinds.Number n)) ⊎ ((z : ℤ) × (k ≡ kinds.Char z))
Of tokens.text k = (n : ℕ) × (k ≡ kinds.Text n)
Of tokens.storage k = (w : Keyword) × (k ≡ kinds.Word w) × (is_storage w ≡ true) × (is_typedef w ≡ false)
Of tokens.qualifier k = (w : Keyword) × (k ≡ kinds.Word w) × (is_storage w ≡ false) × (is_qualifier w ≡ true)
Of (tokens.basic t) k = (w : Keyword) × (k ≡ kinds.Word w) × (is_storage w ≡ false) × (is_qualifier w ≡ false) × (word_sort w ≡ tokens.basic t)
Of tokens.assigning k = (p : Punct) × (k ≡ kinds.Mark p) × (is_assignment p ≡ true)
Of (tokens.binary j) k = (p : Punct) × (k ≡ kinds.Mark p) × (binary_level p + j ≡ 13) × (j ≤ 10)
Of (tokens.mark m) k = OfMark m k

of_word : (w : Keyword) → Of (word_sort w) (kinds.Word w)
of_word words.Auto = (words.Auto, refl, refl, refl)
of_word words.Break = refl
of_word words.Case = refl
of_word words.Char = (words.Char, refl, refl, refl, refl)
of_word words.Const = (words.Const, refl, refl, refl)
of_word words.Continue = refl
of_word words.Default = refl
of_word words.Do = refl
of_word words.Double = (words.Double, refl, refl, refl, refl)
of_word words.Else = refl
of_word words.Enum = refl
of_word words.Extern = (words.Extern, refl, refl, refl)
of_word words.Float = (words.Float, refl, refl, refl, refl)
of_word words.For = refl
of_word words.Goto = refl
of_word words.If = refl
of_word words.Int = (words.Int, refl, refl, refl, refl)
of_word words.Long = (words.Long, refl, refl, refl, refl)
of_word words.Register = (words.Register, refl, refl, refl)
of_word words.Return = refl
of_word words.Short = (words.Short, refl, refl, refl, refl)
of_word words.Signed = (words.Signed, refl, refl, refl, refl)
of_word words.Sizeof = refl
of_word words.Static = (words.Static, refl, refl, refl)
of_word words.Struct = (words.Struct, refl, inl refl)
of_word words.Switch = refl
of_word words.Typedef = refl
of_word words.Union = (words.Union, refl, inr refl)
of_word words.Unsigned = (words.Unsigned, refl, refl, refl, refl)
of_word words.Void = (words.Void, refl, refl, refl, refl)
of_word words.Volatile = (words.Volatile, refl, refl, refl)
of_word words.While = refl

of_mark : (p : Punct) → Of (punct_sort p) (kinds.Mark p)
of_mark puncts.LeftBracket = refl
of_mark puncts.RightBracket = refl
of_mark puncts.LeftParenthesis = refl
of_mark puncts.RightParenthesis = refl
of_mark puncts.LeftBrace = refl
of_mark puncts.RightBrace = refl
of_mark puncts.Dot = (puncts.Dot, refl, inl refl)
of_mark puncts.Arrow = (puncts.Arrow, refl, inr refl)
of_mark puncts.Increment = (puncts.Increment, refl, refl)
of_mark puncts.Decrement = (puncts.Decrement, refl, refl)
of_mark puncts.Ampersand = refl
of_mark puncts.Star = refl
of_mark puncts.Plus = (puncts.Plus, refl, refl, refl, refl)
of_mark puncts.Minus = (puncts.Minus, refl, refl, refl, refl)
of_mark puncts.Tilde = (puncts.Tilde, refl, refl, refl)
of_mark puncts.Exclamation = (puncts.Exclamation, refl, refl, refl)
of_mark puncts.Slash = (puncts.Slash, refl, refl, omega arith)
of_mark puncts.Percent = (puncts.Percent, refl, refl, omega arith)
of_mark puncts.ShiftLeft = (puncts.ShiftLeft, refl, refl, omega arith)
of_mark puncts.ShiftRight = (puncts.ShiftRight, refl, refl, omega arith)
of_mark puncts.Less = (puncts.Less, refl, refl, omega arith)
of_mark puncts.Greater = (puncts.Greater, refl, refl, omega arith)
of_mark puncts.LessEqual = (puncts.LessEqual, refl, refl, omega arith)
of_mark puncts.GreaterEqual = (puncts.GreaterEqual, refl, refl, omega arith)
of_mark puncts.EqualEqual = (puncts.EqualEqual, refl, refl, omega arith)
of_mark puncts.NotEqual = (puncts.NotEqual, refl, refl, omega arith)
of_mark puncts.Caret = (puncts.Caret, refl, refl, omega arith)
of_mark puncts.Bar = (puncts.Bar, refl, refl, omega arith)
of_mark puncts.AndAnd = (puncts.AndAnd, refl, refl, omega arith)
of_mark puncts.OrOr = (puncts.OrOr, refl, refl, omega arith)
of_mark puncts.Question = refl
of_mark puncts.Colon = refl
of_mark puncts.Semicolon = refl
of_mark puncts.Ellipsis = refl
of_mark puncts.Assign = refl
of_mark puncts.StarAssign = (puncts.StarAssign, refl, refl)
of_mark puncts.SlashAssign = (puncts.SlashAssign, refl, refl)
of_mark puncts.PercentAssign = (puncts.PercentAssign, refl, refl)
of_mark puncts.PlusAssign = (puncts.PlusAssign, refl, refl)
of_mark puncts.MinusAssign = (puncts.MinusAssign, refl, refl)
of_mark puncts.ShiftLeftAssign = (puncts.ShiftLeftAssign, refl, refl)
of_mark puncts.ShiftRightAssign = (puncts.ShiftRightAssign, refl, refl)
of_mark puncts.AmpersandAssign = (puncts.AmpersandAssign, refl, refl)
of_mark puncts.CaretAssign = (puncts.CaretAssign, refl, refl)
of_mark puncts.BarAssign = (puncts.BarAssign, refl, refl)
of_mark puncts.Comma = refl

pub of : (k : Kind) → Of (sort_of k) k
of (kinds.Name n) = refl
of (kinds.Word w) = of_word w
of (kinds.Number n) = inl (n, refl)
of (kinds.Char z) = inr (z, refl)
of (kinds.Text n) = (n, refl)
of (kinds.Mark p) = of_mark p
of kinds.End = refl

-- ---- with names of types

abbrev pub There : List ℕ → Sort → Kind → Type 0
There types (tokens.name n) k = (k ≡ kinds.Name n) × (list_any (λ t. t == n) types ≡ false)
There types (tokens.named_type n) k = (k ≡ kinds.Name n) × (list_any (λ t. t == n) types ≡ true)
There types s k = Of s k

there_name : (types : List ℕ) (n : ℕ) (b : Bool) → list_any (λ t. t == n) types ≡ b → There types (if b then tokens.named_type n else tokens.name n) (kinds.Name n)
there_name types n true e = (refl, e)
there_name types n false e = (refl, e)

pub there : (types : List ℕ) (k : Kind) → There types (view types (sort_of k)) k
there types (kinds.Name n) = there_name types n (list_any (λ t. t == n) types) refl
there types (kinds.Word words.Auto) = of_word words.Auto
there types (kinds.Word words.Break) = of_word words.Break
there types (kinds.Word words.Case) = of_word words.Case
there types (kinds.Word words.Char) = of_word words.Char
there types (kinds.Word words.Const) = of_word words.Const
there types (kinds.Word words.Continue) = of_word words.Continue
there types (kinds.Word words.Default) = of_word words.Default
there types (kinds.Word words.Do) = of_word words.Do
there types (kinds.Word words.Double) = of_word words.Double
there types (kinds.Word words.Else) = of_word words.Else
there types (kinds.Word words.Enum) = of_word words.Enum
there types (kinds.Word words.Extern) = of_word words.Extern
there types (kinds.Word words.Float) = of_word words.Float
there types (kinds.Word words.For) = of_word words.For
there types (kinds.Word words.Goto) = of_word words.Goto
there types (kinds.Word words.If) = of_word words.If
there types (kinds.Word words.Int) = of_word words.Int
there types (kinds.Word words.Long) = of_word words.Long
there types (kinds.Word words.Register) = of_word words.Register
there types (kinds.Word words.Return) = of_word words.Return
there types (kinds.Word words.Short) = of_word words.Short
there types (kinds.Word words.Signed) = of_word words.Signed
there types (kinds.Word words.Sizeof) = of_word words.Sizeof
there types (kinds.Word words.Static) = of_word words.Static
there types (kinds.Word words.Struct) = of_word words.Struct
there types (kinds.Word words.Switch) = of_word words.Switch
there types (kinds.Word words.Typedef) = of_word words.Typedef
there types (kinds.Word words.Union) = of_word words.Union
there types (kinds.Word words.Unsigned) = of_word words.Unsigned
there types (kinds.Word words.Void) = of_word words.Void
there types (kinds.Word words.Volatile) = of_word words.Volatile
there types (kinds.Word words.While) = of_word words.While
there types (kinds.Number n) = inl (n, refl)
there types (kinds.Char z) = inr (z, refl)
there types (kinds.Text n) = (n, refl)
there types (kinds.Mark puncts.LeftBracket) = of_mark puncts.LeftBracket
there types (kinds.Mark puncts.RightBracket) = of_mark puncts.RightBracket
there types (kinds.Mark puncts.LeftParenthesis) = of_mark puncts.LeftParenthesis
there types (kinds.Mark puncts.RightParenthesis) = of_mark puncts.RightParenthesis
there types (kinds.Mark puncts.LeftBrace) = of_mark puncts.LeftBrace
there types (kinds.Mark puncts.RightBrace) = of_mark puncts.RightBrace
there types (kinds.Mark puncts.Dot) = of_mark puncts.Dot
there types (kinds.Mark puncts.Arrow) = of_mark puncts.Arrow
there types (kinds.Mark puncts.Increment) = of_mark puncts.Increment
there types (kinds.Mark puncts.Decrement) = of_mark puncts.Decrement
there types (kinds.Mark puncts.Ampersand) = of_mark puncts.Ampersand
there types (kinds.Mark puncts.Star) = of_mark puncts.Star
there types (kinds.Mark puncts.Plus) = of_mark puncts.Plus
there types (kinds.Mark puncts.Minus) = of_mark puncts.Minus
there types (kinds.Mark puncts.Tilde) = of_mark puncts.Tilde
there types (kinds.Mark puncts.Exclamation) = of_mark puncts.Exclamation
there types (kinds.Mark puncts.Slash) = of_mark puncts.Slash
there types (kinds.Mark puncts.Percent) = of_mark puncts.Percent
there types (kinds.Mark puncts.ShiftLeft) = of_mark puncts.ShiftLeft
there types (kinds.Mark puncts.ShiftRight) = of_mark puncts.ShiftRight
there types (kinds.Mark puncts.Less) = of_mark puncts.Less
there types (kinds.Mark puncts.Greater) = of_mark puncts.Greater
there types (kinds.Mark puncts.LessEqual) = of_mark puncts.LessEqual
there types (kinds.Mark puncts.GreaterEqual) = of_mark puncts.GreaterEqual
there types (kinds.Mark puncts.EqualEqual) = of_mark puncts.EqualEqual
there types (kinds.Mark puncts.NotEqual) = of_mark puncts.NotEqual
there types (kinds.Mark puncts.Caret) = of_mark puncts.Caret
there types (kinds.Mark puncts.Bar) = of_mark puncts.Bar
there types (kinds.Mark puncts.AndAnd) = of_mark puncts.AndAnd
there types (kinds.Mark puncts.OrOr) = of_mark puncts.OrOr
there types (kinds.Mark puncts.Question) = of_mark puncts.Question
there types (kinds.Mark puncts.Colon) = of_mark puncts.Colon
there types (kinds.Mark puncts.Semicolon) = of_mark puncts.Semicolon
there types (kinds.Mark puncts.Ellipsis) = of_mark puncts.Ellipsis
there types (kinds.Mark puncts.Assign) = of_mark puncts.Assign
there types (kinds.Mark puncts.StarAssign) = of_mark puncts.StarAssign
there types (kinds.Mark puncts.SlashAssign) = of_mark puncts.SlashAssign
there types (kinds.Mark puncts.PercentAssign) = of_mark puncts.PercentAssign
there types (kinds.Mark puncts.PlusAssign) = of_mark puncts.PlusAssign
there types (kinds.Mark puncts.MinusAssign) = of_mark puncts.MinusAssign
there types (kinds.Mark puncts.ShiftLeftAssign) = of_mark puncts.ShiftLeftAssign
there types (kinds.Mark puncts.ShiftRightAssign) = of_mark puncts.ShiftRightAssign
there types (kinds.Mark puncts.AmpersandAssign) = of_mark puncts.AmpersandAssign
there types (kinds.Mark puncts.CaretAssign) = of_mark puncts.CaretAssign
there types (kinds.Mark puncts.BarAssign) = of_mark puncts.BarAssign
there types (kinds.Mark puncts.Comma) = of_mark puncts.Comma
there types kinds.End = refl

-- what a token is where it has this sort
pub at_sort : (types : List ℕ) (x : Terminal) (s : Sort) → view types x.sort ≡ s → There types s x.what.kind
at_sort types x s e = subst (λ v. There types v x.what.kind) (ap (view types) x.right ∙ e) (there types x.what.kind)

-- ---- a mark that was taken

abbrev marks : List Mark
marks = tokens.opening ∷ tokens.closing ∷ tokens.bracket ∷ tokens.unbracket ∷ tokens.brace ∷ tokens.unbrace ∷ tokens.semicolon ∷ tokens.colon ∷ tokens.question ∷ tokens.ellipsis ∷ tokens.comma ∷ tokens.equal ∷ tokens.member ∷ tokens.step ∷ tokens.star ∷ tokens.ampersand ∷ tokens.additive ∷ tokens.tilde ∷ tokens.sizeof ∷ tokens.if_word ∷ tokens.else_word ∷ tokens.switch ∷ tokens.case ∷ tokens.default ∷ tokens.while ∷ tokens.do_word ∷ tokens.for ∷ tokens.goto ∷ tokens.continue ∷ tokens.break ∷ tokens.return ∷ tokens.struct ∷ tokens.enum ∷ tokens.typedef ∷ tokens.end ∷ []

mark_of_number : (m : Mark) → get_or marks (number_of m) tokens.end ≡ m
mark_of_number tokens.opening = refl
mark_of_number tokens.closing = refl
mark_of_number tokens.bracket = refl
mark_of_number tokens.unbracket = refl
mark_of_number tokens.brace = refl
mark_of_number tokens.unbrace = refl
mark_of_number tokens.semicolon = refl
mark_of_number tokens.colon = refl
mark_of_number tokens.question = refl
mark_of_number tokens.ellipsis = refl
mark_of_number tokens.comma = refl
mark_of_number tokens.equal = refl
mark_of_number tokens.member = refl
mark_of_number tokens.step = refl
mark_of_number tokens.star = refl
mark_of_number tokens.ampersand = refl
mark_of_number tokens.additive = refl
mark_of_number tokens.tilde = refl
mark_of_number tokens.sizeof = refl
mark_of_number tokens.if_word = refl
mark_of_number tokens.else_word = refl
mark_of_number tokens.switch = refl
mark_of_number tokens.case = refl
mark_of_number tokens.default = refl
mark_of_number tokens.while = refl
mark_of_number tokens.do_word = refl
mark_of_number tokens.for = refl
mark_of_number tokens.goto = refl
mark_of_number tokens.continue = refl
mark_of_number tokens.break = refl
mark_of_number tokens.return = refl
mark_of_number tokens.struct = refl
mark_of_number tokens.enum = refl
mark_of_number tokens.typedef = refl
mark_of_number tokens.end = refl

mark_is : (m : Mark) (s : Sort) → is_mark m s ≡ true → s ≡ tokens.mark m
mark_is m (tokens.mark k) e =
    let same = eqb-true (number_of m) (number_of k) e in
    ap tokens.mark (sym (mark_of_number k) ∙ ap (λ n. get_or marks n tokens.end) (sym same) ∙ mark_of_number m)
mark_is m _ e = absurd cc

-- a mark, where names are viewed
pub at_viewed : (types : List ℕ) (x : Terminal) (m : Mark) (s : Sort) → view types x.sort ≡ s → is_mark m s ≡ true → OfMark m x.what.kind
at_viewed types x m s v b = at_sort types x (tokens.mark m) (v ∙ mark_is m s b)

pub at_mark : (m : Mark) (x : Terminal) → is_mark m x.sort ≡ true → OfMark m x.what.kind
at_mark m x e = subst (λ v. Of v x.what.kind) (x.right ∙ mark_is m x.sort e) (of x.what.kind)

name_is : (s : Sort) (k : Kind) → Of s k → tokens.is_name s ≡ true → (n : ℕ) × (k ≡ kinds.Name n)
name_is (tokens.name n) k o e = (n, o)
name_is _ k o e = absurd cc

-- a name, whether it is a type name or not
pub at_name : (x : Terminal) → tokens.is_name x.sort ≡ true → (n : ℕ) × (x.what.kind ≡ kinds.Name n)
at_name x e = name_is x.sort x.what.kind (subst (λ v. Of v x.what.kind) x.right (of x.what.kind)) e
