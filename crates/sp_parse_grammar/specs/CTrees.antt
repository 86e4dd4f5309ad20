-- What a parser of C90 makes of what it reads: its trees, with a maker for each production.
--
-- The grammar is stated over any such trees, so that the same table serves a parser whose trees carry places and one that only
-- tells whether a text is in the language. A maker gets the tokens that its tree needs: also one that ends a part, where a
-- declarator without a name may end at it.
use Rattle.std.specs.Prelude.{◌≡◌, ℕ, Bool, List, Option}
use Rattle.sp_parse_grammar.specs.CTokens.{Mark, Sort, Token, name, constant, basic, int, mark}

pub record Trees : Type 1 where
  -- what is known of a token, and the sort that follows from it; and the tokens by which a text that was begun is completed
  pub Payload : Type 0
  pub sort_of : Payload → Sort
  pub spare_name : ℕ → Payload
  pub spare_constant : Payload
  pub spare_int : Payload
  pub spare_mark : Mark → Payload
  pub name_right : (n : ℕ) → sort_of (spare_name n) ≡ name n
  pub constant_right : sort_of spare_constant ≡ constant
  pub int_right : sort_of spare_int ≡ basic int
  pub mark_right : (m : Mark) → sort_of (spare_mark m) ≡ mark m
  pub Expr : Type 0
  pub TypeName : Type 0
  pub Specifier : Type 0
  pub Enumerator : Type 0
  pub Declarator : Type 0
  pub Parameter : Type 0
  pub Parameters : Type 0
  pub Init : Type 0
  pub Item : Type 0
  pub Declaration : Type 0
  pub Statement : Type 0
  pub External : Type 0
  -- expressions (C90 6.3)
  pub name : Token Payload sort_of → Expr
  pub constant : Token Payload sort_of → Expr
  pub texts : List (Token Payload sort_of) → Expr
  pub paren : Token Payload sort_of → Expr → Expr
  pub index : Expr → Token Payload sort_of → Expr → Expr
  pub call : Expr → Token Payload sort_of → List Expr → Expr
  pub member : Expr → Token Payload sort_of → Token Payload sort_of → Expr
  pub postfix : Expr → Token Payload sort_of → Expr
  pub prefix : Token Payload sort_of → Expr → Expr
  pub sizeof_expr : Token Payload sort_of → Expr → Expr
  pub sizeof_type : Token Payload sort_of → TypeName → Token Payload sort_of → Expr
  pub cast : Token Payload sort_of → TypeName → Token Payload sort_of → Expr → Expr
  pub binary : Token Payload sort_of → Expr → Expr → Expr
  pub choice : Token Payload sort_of → Expr → Expr → Expr → Expr
  pub assign : Token Payload sort_of → Expr → Expr → Expr
  pub sequence : Token Payload sort_of → Expr → Expr → Expr
  -- specifiers and type names (6.5.1 to 6.5.3, 6.5.5)
  pub word : Token Payload sort_of → Specifier
  pub structure : Token Payload sort_of → Option (Token Payload sort_of) → Option (List Declaration) → Specifier
  pub enumeration : Token Payload sort_of → Option (Token Payload sort_of) → Option (List Enumerator) → Specifier
  pub enumerator : Token Payload sort_of → Option Expr → Enumerator
  pub type_name : List Specifier → Declarator → TypeName
  -- declarators (6.5.4): `*` with its qualifiers, `[`, `(` and `)`
  pub absent : Declarator
  pub named : Token Payload sort_of → Declarator
  pub group : Token Payload sort_of → Declarator → Token Payload sort_of → Declarator
  pub pointer : Token Payload sort_of → List (Token Payload sort_of) → Declarator → Declarator
  pub array : Declarator → Token Payload sort_of → Option Expr → Declarator
  pub function : Declarator → Token Payload sort_of → Parameters → Bool → Token Payload sort_of → Declarator
  -- parameters, with the comma before each but the first, and before `...`
  pub parameter : List Specifier → Declarator → Parameter
  pub no_parameters : Parameters
  pub first_parameter : Parameter → Parameters
  pub next_parameter : Parameters → Token Payload sort_of → Parameter → Parameters
  pub before_dots : Parameters → Token Payload sort_of → Parameters
  -- initialisers and declarations (6.5, 6.5.7)
  pub single : Expr → Init
  pub listed : Token Payload sort_of → List Init → Bool → Init
  pub item : Declarator → Option Init → Item
  pub declaration : List Specifier → List Item → Declaration
  -- statements (6.6); the last token of each that ends in one
  pub label : Token Payload sort_of → Statement → Statement
  pub case : Token Payload sort_of → Expr → Statement → Statement
  pub default : Token Payload sort_of → Statement → Statement
  pub block : Token Payload sort_of → List Declaration → List Statement → Token Payload sort_of → Statement
  pub empty : Token Payload sort_of → Statement
  pub of : Expr → Token Payload sort_of → Statement
  pub if_else : Token Payload sort_of → Expr → Statement → Option Statement → Statement
  pub switch : Token Payload sort_of → Expr → Statement → Statement
  pub while : Token Payload sort_of → Expr → Statement → Statement
  pub do_while : Token Payload sort_of → Statement → Expr → Token Payload sort_of → Statement
  pub for : Token Payload sort_of → Option Expr → Option Expr → Option Expr → Statement → Statement
  pub goto : Token Payload sort_of → Token Payload sort_of → Token Payload sort_of → Statement
  pub jump : Token Payload sort_of → Token Payload sort_of → Statement
  pub return : Token Payload sort_of → Option Expr → Token Payload sort_of → Statement
  -- external declarations (6.7)
  pub definition : List Specifier → Declarator → Statement → External
  pub declared : Declaration → External
  pub nothing : Token Payload sort_of → External

abbrev pub TokenOf : Trees → Type 0
TokenOf t = Token t.Payload t.sort_of
