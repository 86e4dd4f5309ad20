-- How statements begin, by their first tokens.
use Rattle.std.specs.Prelude.{ℕ, Bool, true, false, List, [], ◌∷◌}
use Rattle.sp_tree.specs.declared.token.Token.{Token}
use Rattle.sp_parse_grammar.specs.CTokens as tokens
use Rattle.sp_parse_grammar.specs.CTokens.{Sort, Mark, view, is_mark}
use Rattle.sp_parse_tokens.specs.Sorts.{sort_of}
use Rattle.sp_parse_statements.specs.declared.heads.Head.{Head}
use Rattle.sp_parse_statements.specs.declared.heads.Head.TheVariants.{Block, If, Do, Prefix, Simple}
use Rattle.sp_parse_statements.specs.declared.heads.PrefixKind.TheVariants.{Label, Case, Default, Switch, While, For}
use Rattle.sp_parse_statements.specs.declared.heads.SimpleKind.{SimpleKind}
use Rattle.sp_parse_statements.specs.declared.heads.SimpleKind.TheVariants.{Empty, Named, Expression, Goto, Jump, Return}

abbrev pub head_of_mark : Mark → Head
head_of_mark tokens.brace = Block
head_of_mark tokens.if_word = If
head_of_mark tokens.do_word = Do
head_of_mark tokens.case = Prefix Case
head_of_mark tokens.default = Prefix Default
head_of_mark tokens.switch = Prefix Switch
head_of_mark tokens.while = Prefix While
head_of_mark tokens.for = Prefix For
head_of_mark tokens.semicolon = Simple Empty
head_of_mark tokens.goto = Simple Goto
head_of_mark tokens.continue = Simple Jump
head_of_mark tokens.break = Simple Jump
head_of_mark tokens.return = Simple Return
head_of_mark _ = Simple Expression

abbrev pub head_of_name : Bool → Head
head_of_name true = Prefix Label
head_of_name false = Simple Named

-- by the first token, and whether `:` is behind it
abbrev pub head_of_sort : Bool → Sort → Head
head_of_sort labelled (tokens.name n) = head_of_name labelled
head_of_sort labelled (tokens.mark m) = head_of_mark m
head_of_sort labelled _ = Simple Expression

abbrev pub is_labelled : List ℕ → List Token → Bool
is_labelled types [] = false
is_labelled types (x ∷ xs) = is_mark tokens.colon (view types (sort_of x.kind))

-- where these are the type names
abbrev pub head_of : List ℕ → List Token → Head
head_of types [] = Simple Expression
head_of types (x ∷ xs) = head_of_sort (is_labelled types xs) (view types (sort_of x.kind))

-- ---- the least depth of a statement that begins so

abbrev pub least_simple : SimpleKind → ℕ
least_simple Named = 2
least_simple Expression = 2
least_simple _ = 1

abbrev pub least_of : Head → ℕ
least_of Block = 1
least_of (Simple s) = least_simple s
least_of _ = 2

-- the production takes the first token, but for an expression that begins with no name
abbrev pub takes_first : Head → Bool
takes_first (Simple Expression) = false
takes_first _ = true
