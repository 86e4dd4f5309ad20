-- The grammar of C90 (6.3 to 6.7) as a table, over any trees.
--
-- It is that of the standard with these choices: `sizeof (`, casts, groups of declarators and labels are told apart by the token
-- behind the one that opens them; parameters are typed; a specifier list has at most one storage class and words of one type;
-- type names are those of earlier external declarations; declarations stand before statements; `else` belongs to the nearest
-- `if`; the parameter list of a function that is defined has no `...`.
use Rattle.std.specs.Prelude.{◌≡◌, ℕ, zero, suc, ◌-◌, ◌<◌, Bool, true, false, ◌||◌, ◌&&◌, ◌==◌, not, is_some, List, [], ◌∷◌, ◌++◌, Option, Some, None, if◌then◌else◌, ⊤}
use Rattle.sp_parse_grammar.specs.Table.{Symbols, Plan, done, take, call, Table}
use Rattle.sp_parse_grammar.specs.CTokens as tokens
use Rattle.sp_parse_grammar.specs.CTokens.{Token, Mark, Sort, Seen, view, is_mark, is_name, looseness, is_specifier, is_declaring, nothing_seen, is_typed, whole_seen, add, above}
use Rattle.sp_parse_grammar.specs.CTrees.{Trees, TokenOf}

-- ---- what is asked for

-- the type names, and whether it stands in a function, and between the braces of a structure
pub record Context : Type 0 where
  pub types : List ℕ
  pub inside : Bool
  pub members : Bool

-- What might stand where a mark is wanted besides it: nothing that matters, a name, a parameter, a member, an external
-- declaration, or, but for its `...`, the body of a function. It tells the kind of a fault there.
pub data AlsoAllowed : Type 0 where
  plainly for_name for_parameter for_member for_external for_body : AlsoAllowed

-- an expression, and whether it is a unary expression, so that it may stand left of an assignment
pub record Operand (t : Trees) : Type 0 where
  pub tree : t.Expr
  pub unary : Bool

-- a specifier list, and whether `typedef` is in it
pub record Specified (t : Trees) : Type 0 where
  pub all : List t.Specifier
  pub typedefs : Bool

-- what a declarator makes of its name: nothing yet, a function with `...`, or something else
pub data Shape : Type 0 where
  bare variadic other : Shape

-- a declarator, the number of the name that it declares, what it makes of it, and what might stand behind it
pub record Declared (t : Trees) : Type 0 where
  pub tree : t.Declarator
  pub declares : Option ℕ
  pub shape : Shape
  pub behind : AlsoAllowed

-- a type name or a parameter, and what might stand behind it
pub record Named (t : Trees) : Type 0 where
  pub tree : t.TypeName
  pub behind : AlsoAllowed

pub record Given (t : Trees) : Type 0 where
  pub tree : t.Parameter
  pub behind : AlsoAllowed

pub record Parameters (t : Trees) : Type 0 where
  pub all : t.Parameters
  pub dots : Bool
  pub behind : AlsoAllowed

pub record Inits (t : Trees) : Type 0 where
  pub all : List t.Init
  pub comma : Bool

-- a list of declarators with their initialisers, the names that they declare, and what might stand behind the last
pub record Items (t : Trees) : Type 0 where
  pub all : List t.Item
  pub names : List ℕ
  pub behind : AlsoAllowed

-- an external declaration, and the names that it makes type names
pub record Declares (t : Trees) : Type 0 where
  pub tree : t.External
  pub types : List ℕ

-- a declarator with a name, without one, or either
pub data Form : Type 0 where
  concrete abstract either : Form

-- What can be asked for inside an external declaration.
pub data Item (t : Trees) : Type 0 where
  -- an expression of the level: 0 casts, 1 to 10 binary operators, 11 conditional, 12 assignment, 13 comma
  level : ℕ → Item t
  -- what stands after a left part of that level, and of the last so many levels
  after tail : ℕ → Operand t → Item t
  -- behind `(` where a cast may stand
  behind_open : TokenOf t → Item t
  unary primary arguments : Item t
  behind_sizeof : TokenOf t → Item t
  inside_sizeof : TokenOf t → TokenOf t → Item t
  texts : List (TokenOf t) → Item t
  suffixes : t.Expr → Item t
  more_arguments : List t.Expr → Item t
  type_name optional_specifiers : Item t
  -- the specifiers behind those that were read; whether a storage class may stand there
  specifiers : Bool → Seen → Specified t → Item t
  behind_struct behind_enum : TokenOf t → Item t
  struct_body enum_body : TokenOf t → TokenOf t → Item t
  member enumerator value_of : Item t
  members : List t.Declaration → Item t
  member_items : Items t → Item t
  enumerators : List t.Enumerator → Item t
  qualifiers : List (TokenOf t) → Item t
  declarator direct group : Form → Item t
  behind_group : Form → TokenOf t → Item t
  declarator_suffixes : Declared t → Item t
  array_length parameters parameter : Item t
  more_parameters : Parameters t → Item t
  behind_comma : TokenOf t → Parameters t → Item t
  init : Item t
  inits behind_init_comma : List t.Init → Item t
  declaration items item initial : Item t
  declarations : List t.Declaration → Item t
  more_items : Items t → Item t
  statement else_part optional_expression : Item t
  behind_name : TokenOf t → Item t
  statements : List t.Statement → Item t
  external : Item t
  external_items : Specified t → Item t
  behind_declarator : Specified t → Declared t → Item t

-- the answers
abbrev pub ItemAnswer : {t : Trees} → Item t → Type 0
ItemAnswer {t} (level k) = Operand t
ItemAnswer {t} (after k l) = Operand t
ItemAnswer {t} (tail k l) = Operand t
ItemAnswer {t} (behind_open x) = Operand t
ItemAnswer {t} unary = t.Expr
ItemAnswer {t} primary = t.Expr
ItemAnswer {t} arguments = List t.Expr
ItemAnswer {t} (behind_sizeof x) = t.Expr
ItemAnswer {t} (inside_sizeof x y) = t.Expr
ItemAnswer {t} (texts xs) = List (TokenOf t)
ItemAnswer {t} (suffixes e) = t.Expr
ItemAnswer {t} (more_arguments es) = List t.Expr
ItemAnswer {t} type_name = Named t
ItemAnswer {t} optional_specifiers = Specified t
ItemAnswer {t} (specifiers stores seen s) = Specified t
ItemAnswer {t} (behind_struct x) = t.Specifier
ItemAnswer {t} (behind_enum x) = t.Specifier
ItemAnswer {t} (struct_body x y) = t.Specifier
ItemAnswer {t} (enum_body x y) = t.Specifier
ItemAnswer {t} member = t.Declaration
ItemAnswer {t} enumerator = t.Enumerator
ItemAnswer {t} value_of = Option t.Expr
ItemAnswer {t} (members ds) = List t.Declaration
ItemAnswer {t} (member_items is) = Items t
ItemAnswer {t} (enumerators es) = List t.Enumerator
ItemAnswer {t} (qualifiers xs) = List (TokenOf t)
ItemAnswer {t} (declarator f) = Declared t
ItemAnswer {t} (direct f) = Declared t
ItemAnswer {t} (group f) = Declared t
ItemAnswer {t} (behind_group f x) = Declared t
ItemAnswer {t} (declarator_suffixes d) = Declared t
ItemAnswer {t} array_length = Option t.Expr
ItemAnswer {t} parameters = Parameters t
ItemAnswer {t} parameter = Given t
ItemAnswer {t} (more_parameters ps) = Parameters t
ItemAnswer {t} (behind_comma x ps) = Parameters t
ItemAnswer {t} init = t.Init
ItemAnswer {t} (inits is) = Inits t
ItemAnswer {t} (behind_init_comma is) = Inits t
ItemAnswer {t} declaration = t.Declaration
ItemAnswer {t} items = Items t
ItemAnswer {t} item = Items t
ItemAnswer {t} initial = Option t.Init
ItemAnswer {t} (declarations ds) = List t.Declaration
ItemAnswer {t} (more_items is) = Items t
ItemAnswer {t} statement = t.Statement
ItemAnswer {t} else_part = Option t.Statement
ItemAnswer {t} optional_expression = Option t.Expr
ItemAnswer {t} (behind_name x) = t.Statement
ItemAnswer {t} (statements ss) = List t.Statement
ItemAnswer {t} external = Declares t
ItemAnswer {t} (external_items s) = Declares t
ItemAnswer {t} (behind_declarator s d) = Declares t

-- an item in its context; the rest of a unit; or a unit with the end of the text
pub data Ask (t : Trees) : Type 0 where
  at : Context → Item t → Ask t
  unit : List ℕ → Ask t
  whole : Ask t

abbrev pub Answer : {t : Trees} → Ask t → Type 0
Answer (at g i) = ItemAnswer i
Answer {t} (unit types) = List t.External
Answer {t} whole = List t.External

-- any token, where the next one chose the production; a name, whether it is a type name or not; or a mark, with what might
-- stand there besides
pub data Class : Type 0 where
  any : Class
  ordinary : Context → Class
  only : Context → AlsoAllowed → Mark → Class

abbrev pub accepts : {P : Type 0} {f : P → Sort} → Class → Token P f → Bool
accepts any x = true
accepts (ordinary g) x = is_name x.sort
accepts (only g p m) x = is_mark m x.sort

abbrev pub c_symbols : Trees → Symbols
c_symbols t = record { Token = TokenOf t; Class = Class; Ask = Ask t; Answer = Answer; accepts = accepts }

-- ---- productions

-- a part, in its context
abbrev pub get : {t : Trees} {m : Ask t} (g : Context) (i : Item t) → (ItemAnswer i → Plan (c_symbols t) m) → Plan (c_symbols t) m
get g i k = call (at g i) k

abbrev pub next : {t : Trees} {m : Ask t} → (TokenOf t → Plan (c_symbols t) m) → Plan (c_symbols t) m
next k = take any k

abbrev pub expect : {t : Trees} {m : Ask t} → Context → Mark → (TokenOf t → Plan (c_symbols t) m) → Plan (c_symbols t) m
expect g m k = take (only g plainly m) k

abbrev pub close_by : {t : Trees} {m : Ask t} → Context → AlsoAllowed → Mark → (TokenOf t → Plan (c_symbols t) m) → Plan (c_symbols t) m
close_by g p m k = take (only g p m) k

-- where nothing is read yet, a name may be read
abbrev pub at_first : {A : Type 0} → List A → AlsoAllowed
at_first [] = for_name
at_first (x ∷ xs) = plainly

abbrev pub if_missing : {A : Type 0} → Option A → AlsoAllowed
if_missing None = for_name
if_missing (Some x) = plainly

abbrev pub operand : {t : Trees} → t.Expr → Bool → Operand t
operand e b = record { tree = e; unary = b }

-- the operator behind a left part of level k, which the token is: its right part, and what stands after that
abbrev pub operator_plan : {t : Trees} (g : Context) (k : ℕ) (l : Operand t) → TokenOf t → Sort → Plan (c_symbols t) (at g (after k l))
operator_plan {t} g k l x (tokens.mark tokens.question) = next (λ y. get g (level 13) (λ a. expect g tokens.colon (λ z. get g (level 11) (λ b. done (operand (t.choice x l.tree a.tree b.tree) false)))))
operator_plan {t} g k l x (tokens.mark tokens.comma) = next (λ y. get g (level 12) (λ r. get g (after k (operand (t.sequence x l.tree r.tree) false)) (λ o. done o)))
operator_plan {t} g k l x (tokens.mark tokens.equal) = next (λ y. get g (level 12) (λ r. done (operand (t.assign x l.tree r.tree) false)))
operator_plan {t} g k l x tokens.assigning = next (λ y. get g (level 12) (λ r. done (operand (t.assign x l.tree r.tree) false)))
operator_plan {t} g k l x _ = next (λ y. get g (level (k - 1)) (λ r. get g (after k (operand (t.binary x l.tree r.tree) false)) (λ o. done o)))

-- an assignment stands behind a unary expression alone
abbrev pub stands_behind : ℕ → Bool → Sort → Bool
stands_behind k u (tokens.mark tokens.equal) = u && (12 == k)
stands_behind k u tokens.assigning = u && (12 == k)
stands_behind k u s = looseness s == k

-- a group of declarators, or the parameters of an absent one
abbrev pub is_parameters : Sort → Bool
is_parameters s = is_specifier s || is_mark tokens.closing s

abbrev pub is_concrete : Form → Bool
is_concrete concrete = true
is_concrete _ = false

abbrev pub is_abstract : Form → Bool
is_abstract abstract = true
is_abstract _ = false

-- a suffix makes something of the name where nothing was made of it yet
abbrev pub shaped : Shape → Shape → Shape
shaped bare s = s
shaped s _ = s

abbrev pub of_parameters : Bool → Shape
of_parameters true = variadic
of_parameters false = other

abbrev pub is_variadic : Shape → Bool
is_variadic variadic = true
is_variadic _ = false

-- behind a parameter without a name a name may stand
abbrev pub behind_absent : Form → AlsoAllowed
behind_absent either = for_name
behind_absent _ = plainly

abbrev pub absent_declarator : {t : Trees} → Form → Declared t
absent_declarator {t} f = record { tree = t.absent; declares = None; shape = bare; behind = behind_absent f }

abbrev pub named_declarator : {t : Trees} → TokenOf t → ℕ → Declared t
named_declarator {t} x n = record { tree = t.named x; declares = Some n; shape = bare; behind = plainly }

-- once `...` was read, a body can't stand
abbrev pub closed : AlsoAllowed → AlsoAllowed
closed for_body = for_body
closed _ = plainly

abbrev pub behind_parameters : AlsoAllowed → Bool → AlsoAllowed
behind_parameters p true = for_body
behind_parameters p false = closed p

abbrev pub number_named : Sort → Option ℕ
number_named (tokens.name n) = Some n
number_named _ = None

-- the names that a list of declarators makes type names
abbrev pub with_name : Option ℕ → List ℕ → List ℕ
with_name None ns = ns
with_name (Some n) ns = n ∷ ns

-- the token begins an expression
abbrev pub begins_expression : Sort → Bool
begins_expression (tokens.name n) = true
begins_expression tokens.constant = true
begins_expression tokens.text = true
begins_expression (tokens.mark tokens.opening) = true
begins_expression (tokens.mark tokens.step) = true
begins_expression (tokens.mark tokens.star) = true
begins_expression (tokens.mark tokens.ampersand) = true
begins_expression (tokens.mark tokens.additive) = true
begins_expression (tokens.mark tokens.tilde) = true
begins_expression (tokens.mark tokens.sizeof) = true
begins_expression _ = false

-- the token begins a statement that is no expression
abbrev pub begins_other : Sort → Bool
begins_other (tokens.mark tokens.semicolon) = true
begins_other (tokens.mark tokens.brace) = true
begins_other (tokens.mark tokens.if_word) = true
begins_other (tokens.mark tokens.switch) = true
begins_other (tokens.mark tokens.case) = true
begins_other (tokens.mark tokens.default) = true
begins_other (tokens.mark tokens.while) = true
begins_other (tokens.mark tokens.do_word) = true
begins_other (tokens.mark tokens.for) = true
begins_other (tokens.mark tokens.goto) = true
begins_other (tokens.mark tokens.continue) = true
begins_other (tokens.mark tokens.break) = true
begins_other (tokens.mark tokens.return) = true
begins_other _ = false

-- the token begins a list of declarators
abbrev pub begins_items : Sort → Bool
begins_items (tokens.name n) = true
begins_items (tokens.mark tokens.star) = true
begins_items (tokens.mark tokens.opening) = true
begins_items _ = false

-- the token begins a list of specifiers
abbrev pub begins_specifiers : Bool → Bool → Sort → Bool
begins_specifiers stores inside s = is_some (add stores inside nothing_seen s)

abbrev pub no_specifiers : {t : Trees} → Specified t
no_specifiers = record { all = []; typedefs = false }

-- the specifiers with one more, where it may stand; else they end, where some type specifier was seen
abbrev pub specifiers_plan : {t : Trees} (g : Context) (stores : Bool) (seen : Seen) (sp : Specified t) → TokenOf t → Sort → Option Seen → Option (Plan (c_symbols t) (at g (specifiers stores seen sp)))
specifiers_plan {t} g stores seen sp x s None = if is_typed seen then Some (done sp) else None
specifiers_plan {t} g stores seen sp x (tokens.mark tokens.struct) (Some new) = Some (next (λ y. get g (behind_struct x) (λ r. get g (specifiers stores (whole_seen seen) (record { all = sp.all ++ r ∷ []; typedefs = sp.typedefs })) (λ o. done o))))
specifiers_plan {t} g stores seen sp x (tokens.mark tokens.enum) (Some new) = Some (next (λ y. get g (behind_enum x) (λ r. get g (specifiers stores (whole_seen seen) (record { all = sp.all ++ r ∷ []; typedefs = sp.typedefs })) (λ o. done o))))
specifiers_plan {t} g stores seen sp x s (Some new) = Some (next (λ y. get g (specifiers stores new (record { all = sp.all ++ t.word x ∷ []; typedefs = sp.typedefs || is_mark tokens.typedef s })) (λ o. done o)))

-- `*`, qualifiers and the declarator behind them
abbrev pub pointed : {t : Trees} → TokenOf t → List (TokenOf t) → Declared t → Declared t
pointed {t} x qs d = record { tree = t.pointer x qs d.tree; declares = d.declares; shape = shaped d.shape other; behind = d.behind }

abbrev pub without_parameters : {t : Trees} → Parameters t
without_parameters {t} = record { all = t.no_parameters; dots = false; behind = for_parameter }

abbrev pub with_dots : {t : Trees} → Parameters t → TokenOf t → Parameters t
with_dots {t} ps c = record { all = t.before_dots ps.all c; dots = true; behind = plainly }

-- an array, a function and a group of what stands before
abbrev pub array_of : {t : Trees} → Declared t → TokenOf t → Option t.Expr → Declared t
array_of {t} d x n = record { tree = t.array d.tree x n; declares = d.declares; shape = shaped d.shape other; behind = closed d.behind }

abbrev pub function_of : {t : Trees} → Declared t → TokenOf t → Parameters t → TokenOf t → Declared t
function_of {t} d x ps z = record { tree = t.function d.tree x ps.all ps.dots z; declares = d.declares; shape = shaped d.shape (of_parameters ps.dots); behind = behind_parameters d.behind ps.dots }

abbrev pub group_of : {t : Trees} → TokenOf t → Declared t → TokenOf t → Declared t
group_of {t} x d z = record { tree = t.group x d.tree z; declares = d.declares; shape = d.shape; behind = closed d.behind }

-- the head of a declarator that begins with no `*`: a name, a group, or nothing
abbrev pub direct_plan : {t : Trees} (g : Context) (f : Form) → TokenOf t → Sort → Option (Plan (c_symbols t) (at g (direct f)))
direct_plan {t} g concrete x (tokens.name n) = Some (next (λ y. done (named_declarator x n)))
direct_plan {t} g either x (tokens.name n) = Some (next (λ y. done (named_declarator x n)))
direct_plan {t} g concrete x (tokens.mark tokens.opening) = Some (next (λ y. get g (behind_group concrete x) (λ d. done d)))
direct_plan {t} g abstract x (tokens.mark tokens.opening) = Some (next (λ y. get g (behind_group abstract x) (λ d. done d)))
direct_plan {t} g either x (tokens.mark tokens.opening) = Some (next (λ y. get g (behind_group either x) (λ d. done d)))
direct_plan {t} g concrete x s = None
direct_plan {t} g abstract x s = Some (done (absent_declarator abstract))
direct_plan {t} g either x s = Some (done (absent_declarator either))

-- a declarator that isn't absent
abbrev pub group_plan : {t : Trees} (g : Context) (f : Form) → TokenOf t → Sort → Option (Plan (c_symbols t) (at g (group f)))
group_plan {t} g f x (tokens.mark tokens.star) = Some (next (λ y. get g (qualifiers []) (λ qs. get g (declarator f) (λ d. done (pointed x qs d)))))
group_plan {t} g f x (tokens.mark tokens.opening) = Some (next (λ y. get g (behind_group f x) (λ d. get g (declarator_suffixes d) (λ e. done e))))
group_plan {t} g concrete x (tokens.name n) = Some (next (λ y. get g (declarator_suffixes (named_declarator x n)) (λ e. done e)))
group_plan {t} g either x (tokens.name n) = Some (next (λ y. get g (declarator_suffixes (named_declarator x n)) (λ e. done e)))
group_plan {t} g abstract x (tokens.mark tokens.bracket) = Some (next (λ y. get g array_length (λ n. close_by g (if_missing n) tokens.unbracket (λ z. get g (declarator_suffixes (array_of (absent_declarator abstract) x n)) (λ e. done e)))))
group_plan {t} g either x (tokens.mark tokens.bracket) = Some (next (λ y. get g array_length (λ n. close_by g (if_missing n) tokens.unbracket (λ z. get g (declarator_suffixes (array_of (absent_declarator either) x n)) (λ e. done e)))))
group_plan {t} g f x s = None

-- a list of declarators with their initialisers, and the names that they declare
abbrev pub no_items : {t : Trees} → Items t
no_items = record { all = []; names = []; behind = for_name }

-- behind an initialiser no body stands
abbrev pub behind_item : {A : Type 0} → AlsoAllowed → Option A → AlsoAllowed
behind_item p None = closed p
behind_item p (Some v) = plainly

abbrev pub one_item : {t : Trees} → Declared t → Option t.Init → Items t
one_item {t} d v = record { all = t.item d.tree v ∷ []; names = with_name d.declares []; behind = behind_item d.behind v }

abbrev pub both_items : {t : Trees} → Items t → Items t → Items t
both_items is js = record { all = is.all ++ js.all; names = is.names ++ js.names; behind = js.behind }

abbrev pub in_function : Context → Context
in_function g = record { types = g.types; inside = true; members = g.members }

abbrev pub in_structure : Context → Context
in_structure g = record { types = g.types; inside = g.inside; members = true }

abbrev pub outside : List ℕ → Context
outside types = record { types = types; inside = false; members = false }

abbrev pub new_types : {t : Trees} → Specified t → List ℕ → List ℕ
new_types sp names = if sp.typedefs then names else []

abbrev pub plan : {t : Trees} (g : Context) (i : Item t) (x : TokenOf t) (s : Sort) → Option (Plan (c_symbols t) (at g i))
-- expressions
plan {t} g (level zero) x s = if is_mark tokens.opening s then Some (next (λ y. get g (behind_open x) (λ o. done o))) else Some (get g unary (λ e. done (operand e true)))
plan {t} g (level (suc k)) x s = Some (get g (level k) (λ l. get g (after (suc k) l) (λ o. done o)))
plan {t} g (after k l) x s = if stands_behind k l.unary s then Some (operator_plan g k l x s) else Some (done l)
plan {t} g (tail zero l) x s = Some (done l)
plan {t} g (tail (suc k) l) x s = Some (get g (after (13 - k) l) (λ o. get g (tail k o) (λ p. done p)))
plan {t} g (behind_open y) x s =
    if is_specifier s then Some (get g type_name (λ n. close_by g n.behind tokens.closing (λ z. get g (level 0) (λ o. done (operand (t.cast y n.tree z o.tree) false)))))
    else Some (get g (level 13) (λ o. expect g tokens.closing (λ z. get g (suffixes (t.paren y o.tree)) (λ e. done (operand e true)))))
plan {t} g unary x (tokens.mark tokens.step) = Some (next (λ y. get g unary (λ e. done (t.prefix x e))))
plan {t} g unary x (tokens.mark tokens.star) = Some (next (λ y. get g (level 0) (λ o. done (t.prefix x o.tree))))
plan {t} g unary x (tokens.mark tokens.ampersand) = Some (next (λ y. get g (level 0) (λ o. done (t.prefix x o.tree))))
plan {t} g unary x (tokens.mark tokens.additive) = Some (next (λ y. get g (level 0) (λ o. done (t.prefix x o.tree))))
plan {t} g unary x (tokens.mark tokens.tilde) = Some (next (λ y. get g (level 0) (λ o. done (t.prefix x o.tree))))
plan {t} g unary x (tokens.mark tokens.sizeof) = Some (next (λ y. get g (behind_sizeof x) (λ e. done e)))
plan {t} g unary x s = Some (get g primary (λ e. get g (suffixes e) (λ f. done f)))
plan {t} g (behind_sizeof y) x s =
    if is_mark tokens.opening s then Some (next (λ z. get g (inside_sizeof y x) (λ e. done e))) else Some (get g unary (λ e. done (t.sizeof_expr y e)))
plan {t} g (inside_sizeof y z) x s =
    if is_specifier s then Some (get g type_name (λ n. close_by g n.behind tokens.closing (λ w. done (t.sizeof_type y n.tree w))))
    else Some (get g (level 13) (λ o. expect g tokens.closing (λ w. get g (suffixes (t.paren z o.tree)) (λ e. done (t.sizeof_expr y e)))))
plan {t} g primary x (tokens.name n) = Some (next (λ y. done (t.name x)))
plan {t} g primary x tokens.constant = Some (next (λ y. done (t.constant x)))
plan {t} g primary x tokens.text = Some (next (λ y. get g (texts (x ∷ [])) (λ xs. done (t.texts xs))))
plan {t} g primary x (tokens.mark tokens.opening) = Some (next (λ y. get g (level 13) (λ o. expect g tokens.closing (λ z. done (t.paren x o.tree)))))
plan {t} g primary x s = None
plan {t} g (texts xs) x tokens.text = Some (next (λ y. get g (texts (xs ++ x ∷ [])) (λ ys. done ys)))
plan {t} g (texts xs) x s = Some (done xs)
plan {t} g (suffixes e) x (tokens.mark tokens.bracket) = Some (next (λ y. get g (level 13) (λ o. expect g tokens.unbracket (λ z. get g (suffixes (t.index e x o.tree)) (λ f. done f)))))
plan {t} g (suffixes e) x (tokens.mark tokens.opening) = Some (next (λ y. get g arguments (λ es. close_by g (at_first es) tokens.closing (λ z. get g (suffixes (t.call e x es)) (λ f. done f)))))
plan {t} g (suffixes e) x (tokens.mark tokens.member) = Some (next (λ y. take (ordinary g) (λ z. get g (suffixes (t.member e x z)) (λ f. done f))))
plan {t} g (suffixes e) x (tokens.mark tokens.step) = Some (next (λ y. get g (suffixes (t.postfix e x)) (λ f. done f)))
plan {t} g (suffixes e) x s = Some (done e)
plan {t} g arguments x s = if begins_expression s then Some (get g (level 12) (λ o. get g (more_arguments (o.tree ∷ [])) (λ es. done es))) else Some (done [])
plan {t} g (more_arguments es) x s = if is_mark tokens.comma s then Some (next (λ y. get g (level 12) (λ o. get g (more_arguments (es ++ o.tree ∷ [])) (λ fs. done fs)))) else Some (done es)
-- specifiers and type names
plan {t} g type_name x s = Some (get g (specifiers false nothing_seen no_specifiers) (λ sp. get g (declarator abstract) (λ d. done (record { tree = t.type_name sp.all d.tree; behind = d.behind }))))
plan {t} g optional_specifiers x s = if begins_specifiers true g.inside s then Some (get g (specifiers true nothing_seen no_specifiers) (λ sp. done sp)) else Some (done no_specifiers)
plan {t} g (specifiers stores seen sp) x s = specifiers_plan g stores seen sp x s (add stores g.inside seen s)
plan {t} g (behind_struct y) x (tokens.mark tokens.brace) = Some (next (λ z. get (in_structure g) member (λ d. get (in_structure g) (members (d ∷ [])) (λ ds. close_by (in_structure g) for_member tokens.unbrace (λ w. done (t.structure y None (Some ds)))))))
plan {t} g (behind_struct y) x (tokens.name n) = Some (next (λ z. get g (struct_body y x) (λ r. done r)))
plan {t} g (behind_struct y) x (tokens.named_type n) = Some (next (λ z. get g (struct_body y x) (λ r. done r)))
plan {t} g (behind_struct y) x s = None
plan {t} g (struct_body y z) x s =
    if is_mark tokens.brace s then Some (next (λ w. get (in_structure g) member (λ d. get (in_structure g) (members (d ∷ [])) (λ ds. close_by (in_structure g) for_member tokens.unbrace (λ v. done (t.structure y (Some z) (Some ds)))))))
    else Some (done (t.structure y (Some z) None))
plan {t} g member x s = Some (get g (specifiers false nothing_seen no_specifiers) (λ sp. get g (declarator concrete) (λ d. get g (member_items (one_item d None)) (λ is. close_by g is.behind tokens.semicolon (λ y. done (t.declaration sp.all is.all))))))
plan {t} g (members ds) x s = if begins_specifiers false g.inside s then Some (get g member (λ d. get g (members (ds ++ d ∷ [])) (λ es. done es))) else Some (done ds)
plan {t} g (member_items is) x s = if is_mark tokens.comma s then Some (next (λ y. get g (declarator concrete) (λ d. get g (member_items (both_items is (one_item d None))) (λ js. done js)))) else Some (done is)
plan {t} g (behind_enum y) x (tokens.mark tokens.brace) = Some (next (λ z. get g enumerator (λ e. get g (enumerators (e ∷ [])) (λ es. expect g tokens.unbrace (λ w. done (t.enumeration y None (Some es)))))))
plan {t} g (behind_enum y) x (tokens.name n) = Some (next (λ z. get g (enum_body y x) (λ r. done r)))
plan {t} g (behind_enum y) x (tokens.named_type n) = Some (next (λ z. get g (enum_body y x) (λ r. done r)))
plan {t} g (behind_enum y) x s = None
plan {t} g (enum_body y z) x s =
    if is_mark tokens.brace s then Some (next (λ w. get g enumerator (λ e. get g (enumerators (e ∷ [])) (λ es. expect g tokens.unbrace (λ v. done (t.enumeration y (Some z) (Some es)))))))
    else Some (done (t.enumeration y (Some z) None))
plan {t} g enumerator x (tokens.name n) = Some (next (λ y. get g value_of (λ v. done (t.enumerator x v))))
plan {t} g enumerator x s = None
plan {t} g value_of x s = if is_mark tokens.equal s then Some (next (λ y. get g (level 11) (λ o. done (Some o.tree)))) else Some (done None)
plan {t} g (enumerators es) x s = if is_mark tokens.comma s then Some (next (λ y. get g enumerator (λ e. get g (enumerators (es ++ e ∷ [])) (λ fs. done fs)))) else Some (done es)
-- declarators
plan {t} g (qualifiers xs) x tokens.qualifier = Some (next (λ y. get g (qualifiers (xs ++ x ∷ [])) (λ ys. done ys)))
plan {t} g (qualifiers xs) x s = Some (done xs)
plan {t} g (declarator f) x s = if is_mark tokens.star s then Some (next (λ y. get g (qualifiers []) (λ qs. get g (declarator f) (λ d. done (pointed x qs d))))) else Some (get g (direct f) (λ d. get g (declarator_suffixes d) (λ e. done e)))
plan {t} g (direct f) x s = direct_plan g f x s
plan {t} g (group f) x s = group_plan g f x s
plan {t} g (behind_group f y) x s =
    if not (is_concrete f) && is_parameters s then Some (get g parameters (λ ps. close_by g ps.behind tokens.closing (λ z. done (function_of (absent_declarator f) y ps z))))
    else Some (get g (group f) (λ d. close_by g d.behind tokens.closing (λ z. done (group_of y d z))))
plan {t} g (declarator_suffixes d) x (tokens.mark tokens.bracket) = Some (next (λ y. get g array_length (λ n. close_by g (if_missing n) tokens.unbracket (λ z. get g (declarator_suffixes (array_of d x n)) (λ e. done e)))))
plan {t} g (declarator_suffixes d) x (tokens.mark tokens.opening) = Some (next (λ y. get g parameters (λ ps. close_by g ps.behind tokens.closing (λ z. get g (declarator_suffixes (function_of d x ps z)) (λ e. done e)))))
plan {t} g (declarator_suffixes d) x s = Some (done d)
plan {t} g array_length x s = if begins_expression s then Some (get g (level 11) (λ o. done (Some o.tree))) else Some (done None)
plan {t} g parameters x s = if begins_specifiers true g.inside s then Some (get g parameter (λ p. get g (more_parameters (record { all = t.first_parameter p.tree; dots = false; behind = p.behind })) (λ ps. done ps))) else Some (done without_parameters)
plan {t} g parameter x s = Some (get g (specifiers true nothing_seen no_specifiers) (λ sp. get g (declarator either) (λ d. done (record { tree = t.parameter sp.all d.tree; behind = d.behind }))))
plan {t} g (more_parameters ps) x s = if is_mark tokens.comma s then Some (next (λ y. get g (behind_comma x ps) (λ qs. done qs))) else Some (done ps)
plan {t} g (behind_comma c ps) x s =
    if is_mark tokens.ellipsis s then Some (next (λ y. done (with_dots ps c)))
    else Some (get g parameter (λ p. get g (more_parameters (record { all = t.next_parameter ps.all c p.tree; dots = false; behind = p.behind })) (λ qs. done qs)))
-- initialisers and declarations
plan {t} g init x s =
    if is_mark tokens.brace s then Some (next (λ y. get g init (λ i. get g (inits (i ∷ [])) (λ r. close_by g (if r.comma then for_name else plainly) tokens.unbrace (λ z. done (t.listed x r.all r.comma))))))
    else Some (get g (level 12) (λ o. done (t.single o.tree)))
plan {t} g (inits is) x s = if is_mark tokens.comma s then Some (next (λ y. get g (behind_init_comma is) (λ r. done r))) else Some (done (record { all = is; comma = false }))
plan {t} g (behind_init_comma is) x s =
    if is_mark tokens.brace s || begins_expression s then Some (get g init (λ i. get g (inits (is ++ i ∷ [])) (λ r. done r)))
    else Some (done (record { all = is; comma = true }))
plan {t} g declaration x s = Some (get g (specifiers true nothing_seen no_specifiers) (λ sp. get g items (λ is. close_by g is.behind tokens.semicolon (λ y. done (t.declaration sp.all is.all)))))
plan {t} g items x s = if begins_items s then Some (get g item (λ i. get g (more_items i) (λ is. done is))) else Some (done no_items)
plan {t} g item x s = Some (get g (declarator concrete) (λ d. get g initial (λ v. done (one_item d v))))
plan {t} g initial x s = if is_mark tokens.equal s then Some (next (λ y. get g init (λ i. done (Some i)))) else Some (done None)
plan {t} g (more_items is) x s = if is_mark tokens.comma s then Some (next (λ y. get g item (λ i. get g (more_items (both_items is i)) (λ js. done js)))) else Some (done is)
plan {t} g (declarations ds) x s = if begins_specifiers true g.inside s then Some (get g declaration (λ d. get g (declarations (ds ++ d ∷ [])) (λ es. done es))) else Some (done ds)
-- statements
plan {t} g statement x (tokens.name n) = Some (next (λ y. get g (behind_name x) (λ r. done r)))
plan {t} g statement x (tokens.mark tokens.semicolon) = Some (next (λ y. done (t.empty x)))
plan {t} g statement x (tokens.mark tokens.brace) = Some (next (λ y. get g (declarations []) (λ ds. get g (statements []) (λ ss. close_by g for_name tokens.unbrace (λ z. done (t.block x ds ss z))))))
plan {t} g statement x (tokens.mark tokens.case) = Some (next (λ y. get g (level 11) (λ o. expect g tokens.colon (λ z. get g statement (λ b. done (t.case x o.tree b))))))
plan {t} g statement x (tokens.mark tokens.default) = Some (next (λ y. expect g tokens.colon (λ z. get g statement (λ b. done (t.default x b)))))
plan {t} g statement x (tokens.mark tokens.if_word) = Some (next (λ y. expect g tokens.opening (λ z. get g (level 13) (λ o. expect g tokens.closing (λ w. get g statement (λ a. get g else_part (λ b. done (t.if_else x o.tree a b))))))))
plan {t} g statement x (tokens.mark tokens.switch) = Some (next (λ y. expect g tokens.opening (λ z. get g (level 13) (λ o. expect g tokens.closing (λ w. get g statement (λ a. done (t.switch x o.tree a)))))))
plan {t} g statement x (tokens.mark tokens.while) = Some (next (λ y. expect g tokens.opening (λ z. get g (level 13) (λ o. expect g tokens.closing (λ w. get g statement (λ a. done (t.while x o.tree a)))))))
plan {t} g statement x (tokens.mark tokens.do_word) = Some (next (λ y. get g statement (λ a. expect g tokens.while (λ z. expect g tokens.opening (λ w. get g (level 13) (λ o. expect g tokens.closing (λ v. expect g tokens.semicolon (λ u. done (t.do_while x a o.tree u)))))))))
plan {t} g statement x (tokens.mark tokens.for) =
    Some (next (λ y. expect g tokens.opening (λ z. get g optional_expression (λ a. close_by g (if_missing a) tokens.semicolon (λ w. get g optional_expression (λ b. close_by g (if_missing b) tokens.semicolon (λ v. get g optional_expression (λ c. close_by g (if_missing c) tokens.closing (λ u. get g statement (λ d. done (t.for x a b c d)))))))))))
plan {t} g statement x (tokens.mark tokens.goto) = Some (next (λ y. take (ordinary g) (λ n. expect g tokens.semicolon (λ z. done (t.goto x n z)))))
plan {t} g statement x (tokens.mark tokens.continue) = Some (next (λ y. expect g tokens.semicolon (λ z. done (t.jump x z))))
plan {t} g statement x (tokens.mark tokens.break) = Some (next (λ y. expect g tokens.semicolon (λ z. done (t.jump x z))))
plan {t} g statement x (tokens.mark tokens.return) = Some (next (λ y. get g optional_expression (λ a. close_by g (if_missing a) tokens.semicolon (λ z. done (t.return x a z)))))
plan {t} g statement x s = Some (get g (level 13) (λ o. expect g tokens.semicolon (λ z. done (t.of o.tree z))))
plan {t} g (behind_name y) x s =
    if is_mark tokens.colon s then Some (next (λ z. get g statement (λ b. done (t.label y b))))
    else Some (get g (suffixes (t.name y)) (λ e. get g (tail 13 (operand e true)) (λ o. expect g tokens.semicolon (λ z. done (t.of o.tree z)))))
plan {t} g else_part x s = if is_mark tokens.else_word s then Some (next (λ y. get g statement (λ a. done (Some a)))) else Some (done None)
plan {t} g optional_expression x s = if begins_expression s then Some (get g (level 13) (λ o. done (Some o.tree))) else Some (done None)
plan {t} g (statements ss) x s = if begins_expression s || begins_other s then Some (get g statement (λ a. get g (statements (ss ++ a ∷ [])) (λ bs. done bs))) else Some (done ss)
-- external declarations
plan {t} g external x s =
    if is_mark tokens.semicolon s then Some (next (λ y. done (record { tree = t.nothing x; types = [] })))
    else Some (get g (specifiers true nothing_seen no_specifiers) (λ sp. get g (external_items sp) (λ r. done r)))
plan {t} g (external_items sp) x s =
    if is_mark tokens.semicolon s then Some (next (λ y. done (record { tree = t.declared (t.declaration sp.all []); types = [] })))
    else Some (get g (declarator concrete) (λ d. get g (behind_declarator sp d) (λ r. done r)))
plan {t} g (behind_declarator sp d) x s =
    if is_mark tokens.brace s && not (is_variadic d.shape) then
    Some (next (λ y. get (in_function g) (declarations []) (λ ds. get (in_function g) (statements []) (λ ss. close_by (in_function g) for_name tokens.unbrace (λ z. done (record { tree = t.definition sp.all d.tree (t.block x ds ss z); types = new_types sp (with_name d.declares []) }))))))
    else Some (get g initial (λ v. get g (more_items (one_item d v)) (λ is. close_by g is.behind tokens.semicolon (λ z. done (record { tree = t.declared (t.declaration sp.all is.all); types = new_types sp is.names })))))

-- the rest of a unit: external declarations, each with the type names of those before
abbrev pub predict : {t : Trees} (n : Ask t) → TokenOf t → Option (Plan (c_symbols t) n)
predict (at g i) x = plan g i x (view g.types x.sort)
predict {t} (unit types) x =
    if is_mark tokens.semicolon (view types x.sort) || begins_specifiers true false (view types x.sort) then
    Some (get (outside types) external (λ e. call (unit (types ++ e.types)) (λ es. done (e.tree ∷ es))))
    else Some (done [])
predict {t} whole x = Some (call (unit []) (λ es. close_by (outside []) for_external tokens.end (λ z. done es)))

-- ---- completions

abbrev pub a_constant : (t : Trees) → TokenOf t
a_constant t = record { sort = tokens.constant; what = t.spare_constant; right = t.constant_right }

abbrev pub a_mark : (t : Trees) → Mark → TokenOf t
a_mark t m = record { sort = tokens.mark m; what = t.spare_mark m; right = t.mark_right m }

abbrev pub a_name : (t : Trees) → ℕ → TokenOf t
a_name t n = record { sort = tokens.name n; what = t.spare_name n; right = t.name_right n }

-- a name that is no type name
abbrev pub fresh : (t : Trees) → Context → TokenOf t
fresh t g = a_name t (above g.types)

abbrev pub zero_number : (t : Trees) → t.Expr
zero_number t = t.constant (a_constant t)

abbrev pub int_word : (t : Trees) → TokenOf t
int_word t = record { sort = tokens.basic tokens.int; what = t.spare_int; right = t.int_right }

abbrev pub with_int : {t : Trees} → Specified t → Specified t
with_int {t} s = record { all = s.all ++ t.word (int_word t) ∷ []; typedefs = s.typedefs }

abbrev pub fresh_declarator : (t : Trees) → Context → Declared t
fresh_declarator t g = named_declarator (fresh t g) (above g.types)

abbrev pub form_ending : (t : Trees) → Context → Form → List (TokenOf t)
form_ending t g concrete = (fresh t g) ∷ []
form_ending t g _ = []

abbrev pub form_value : (t : Trees) → Context → Form → Declared t
form_value t g concrete = (fresh_declarator t g)
form_value t g f = absent_declarator f

abbrev pub group_ending : (t : Trees) → Context → Form → List (TokenOf t)
group_ending t g concrete = (fresh t g) ∷ []
group_ending t g _ = a_mark t tokens.star ∷ []

abbrev pub group_value : (t : Trees) → Context → Form → Declared t
group_value t g concrete = (fresh_declarator t g)
group_value t g f = pointed (a_mark t tokens.star) [] (absent_declarator f)

abbrev pub behind_group_ending : (t : Trees) → Context → Form → List (TokenOf t)
behind_group_ending t g concrete = (fresh t g) ∷ a_mark t tokens.closing ∷ []
behind_group_ending t g _ = a_mark t tokens.closing ∷ []

abbrev pub behind_group_value : (t : Trees) → Context → Form → TokenOf t → Declared t
behind_group_value t g concrete y = group_of y (fresh_declarator t g) (a_mark t tokens.closing)
behind_group_value t g f y = function_of (absent_declarator f) y without_parameters (a_mark t tokens.closing)

-- no specifier, no declarator and no body of a structure goes on
abbrev pub IsBehindSpecifiers : Sort → Type 0
IsBehindSpecifiers s = (is_specifier s ≡ false) × (is_mark tokens.brace s ≡ false)

abbrev pub IsOutside : Sort → Type 0
IsOutside s = IsBehindSpecifiers s × (is_declaring s ≡ false)

abbrev pub IsBehindItem : Sort → Type 0
IsBehindItem s = (13 < looseness s) × (is_declaring s ≡ false)

abbrev pub is_qualifier : Sort → Bool
is_qualifier tokens.qualifier = true
is_qualifier _ = false

-- the token is the head of a declarator
abbrev pub is_declaring_head : Sort → Bool
is_declaring_head (tokens.name n) = true
is_declaring_head (tokens.mark tokens.opening) = true
is_declaring_head _ = false

abbrev pub item_ending : {t : Trees} → Context → Item t → List (TokenOf t)
item_ending {t} g (level k) = a_constant t ∷ []
item_ending {t} g (behind_open x) = a_constant t ∷ a_mark t tokens.closing ∷ []
item_ending {t} g unary = a_constant t ∷ []
item_ending {t} g primary = a_constant t ∷ []
item_ending {t} g (behind_sizeof x) = a_constant t ∷ []
item_ending {t} g (inside_sizeof x y) = a_constant t ∷ a_mark t tokens.closing ∷ []
item_ending {t} g type_name = (int_word t) ∷ []
item_ending {t} g (specifiers stores seen sp) = if is_typed seen then [] else (int_word t) ∷ []
item_ending {t} g (behind_struct x) = (fresh t g) ∷ []
item_ending {t} g (behind_enum x) = (fresh t g) ∷ []
item_ending {t} g member = (int_word t) ∷ (fresh t g) ∷ a_mark t tokens.semicolon ∷ []
item_ending {t} g enumerator = (fresh t g) ∷ []
item_ending {t} g (declarator f) = form_ending t g f
item_ending {t} g (direct f) = form_ending t g f
item_ending {t} g (group f) = group_ending t g f
item_ending {t} g (behind_group f x) = behind_group_ending t g f
item_ending {t} g parameter = (int_word t) ∷ []
item_ending {t} g (behind_comma c ps) = a_mark t tokens.ellipsis ∷ []
item_ending {t} g init = a_constant t ∷ []
item_ending {t} g declaration = (int_word t) ∷ a_mark t tokens.semicolon ∷ []
item_ending {t} g item = (fresh t g) ∷ []
item_ending {t} g statement = a_mark t tokens.semicolon ∷ []
item_ending {t} g (behind_name x) = a_mark t tokens.semicolon ∷ []
item_ending {t} g external = a_mark t tokens.semicolon ∷ []
item_ending {t} g (external_items sp) = a_mark t tokens.semicolon ∷ []
item_ending {t} g (behind_declarator sp d) = a_mark t tokens.semicolon ∷ []
item_ending {t} g _ = []

abbrev pub item_value : {t : Trees} (g : Context) (i : Item t) → ItemAnswer i
item_value {t} g (level k) = operand (zero_number t) true
item_value {t} g (after k l) = l
item_value {t} g (tail k l) = l
item_value {t} g (behind_open y) = operand (t.paren y (zero_number t)) true
item_value {t} g unary = (zero_number t)
item_value {t} g primary = (zero_number t)
item_value {t} g arguments = []
item_value {t} g (behind_sizeof y) = t.sizeof_expr y (zero_number t)
item_value {t} g (inside_sizeof y z) = t.sizeof_expr y (t.paren z (zero_number t))
item_value {t} g (texts xs) = xs
item_value {t} g (suffixes e) = e
item_value {t} g (more_arguments es) = es
item_value {t} g type_name = record { tree = t.type_name (t.word (int_word t) ∷ []) t.absent; behind = plainly }
item_value {t} g optional_specifiers = no_specifiers
item_value {t} g (specifiers stores seen sp) = if is_typed seen then sp else with_int sp
item_value {t} g (behind_struct y) = t.structure y (Some (fresh t g)) None
item_value {t} g (behind_enum y) = t.enumeration y (Some (fresh t g)) None
item_value {t} g (struct_body y z) = t.structure y (Some z) None
item_value {t} g (enum_body y z) = t.enumeration y (Some z) None
item_value {t} g member = t.declaration (t.word (int_word t) ∷ []) (t.item (t.named (fresh t g)) None ∷ [])
item_value {t} g enumerator = t.enumerator (fresh t g) None
item_value {t} g value_of = None
item_value {t} g (members ds) = ds
item_value {t} g (member_items is) = is
item_value {t} g (enumerators es) = es
item_value {t} g (qualifiers xs) = xs
item_value {t} g (declarator f) = form_value t g f
item_value {t} g (direct f) = form_value t g f
item_value {t} g (group f) = group_value t g f
item_value {t} g (behind_group f y) = behind_group_value t g f y
item_value {t} g (declarator_suffixes d) = d
item_value {t} g array_length = None
item_value {t} g parameters = without_parameters
item_value {t} g parameter = record { tree = t.parameter (t.word (int_word t) ∷ []) t.absent; behind = for_name }
item_value {t} g (more_parameters ps) = ps
item_value {t} g (behind_comma c ps) = with_dots ps c
item_value {t} g init = t.single (zero_number t)
item_value {t} g (inits is) = record { all = is; comma = false }
item_value {t} g (behind_init_comma is) = record { all = is; comma = true }
item_value {t} g declaration = t.declaration (t.word (int_word t) ∷ []) []
item_value {t} g items = no_items
item_value {t} g item = one_item (fresh_declarator t g) None
item_value {t} g initial = None
item_value {t} g (declarations ds) = ds
item_value {t} g (more_items is) = is
item_value {t} g statement = t.empty (a_mark t tokens.semicolon)
item_value {t} g else_part = None
item_value {t} g optional_expression = None
item_value {t} g (behind_name y) = t.of (t.name y) (a_mark t tokens.semicolon)
item_value {t} g (statements ss) = ss
item_value {t} g external = record { tree = t.nothing (a_mark t tokens.semicolon); types = [] }
item_value {t} g (external_items sp) = record { tree = t.declared (t.declaration sp.all []); types = [] }
item_value {t} g (behind_declarator sp d) = record { tree = t.declared (t.declaration sp.all (t.item d.tree None ∷ [])); types = new_types sp (with_name d.declares []) }

-- before these sorts a part may end
abbrev pub ItemStops : {t : Trees} → Context → Item t → Sort → Type 0
ItemStops g (level k) s = k < looseness s
ItemStops g (after k l) s = k < looseness s
ItemStops g (tail k l) s = 13 < looseness s
ItemStops g (behind_open x) s = 0 < looseness s
ItemStops g unary s = 0 < looseness s
ItemStops g primary s = 0 < looseness s
ItemStops g arguments s = (begins_expression s ≡ false) × (13 < looseness s)
ItemStops g (behind_sizeof x) s = 0 < looseness s
ItemStops g (inside_sizeof x y) s = 0 < looseness s
ItemStops g (texts xs) s = 0 < looseness s
ItemStops g (suffixes e) s = 0 < looseness s
ItemStops g (more_arguments es) s = 13 < looseness s
ItemStops g type_name s = IsOutside s
ItemStops g optional_specifiers s = IsBehindSpecifiers s
ItemStops g (specifiers stores seen sp) s = IsBehindSpecifiers s
ItemStops g (behind_struct x) s = is_mark tokens.brace s ≡ false
ItemStops g (behind_enum x) s = is_mark tokens.brace s ≡ false
ItemStops g (struct_body x y) s = is_mark tokens.brace s ≡ false
ItemStops g (enum_body x y) s = is_mark tokens.brace s ≡ false
ItemStops g member s = ⊤
ItemStops g enumerator s = 12 < looseness s
ItemStops g value_of s = 12 < looseness s
ItemStops g (members ds) s = begins_specifiers false g.inside s ≡ false
ItemStops g (member_items is) s = (is_mark tokens.comma s ≡ false) × (is_declaring s ≡ false)
ItemStops g (enumerators es) s = 13 < looseness s
ItemStops g (qualifiers xs) s = is_qualifier s ≡ false
ItemStops g (declarator f) s = is_declaring s ≡ false
ItemStops g (direct f) s = is_declaring_head s ≡ false
ItemStops g (group f) s = is_declaring s ≡ false
ItemStops g (behind_group f x) s = ⊤
ItemStops g (declarator_suffixes d) s = is_declaring s ≡ false
ItemStops g array_length s = (begins_expression s ≡ false) × (11 < looseness s)
ItemStops g parameters s = (begins_specifiers true g.inside s ≡ false) × (13 < looseness s) × IsOutside s
ItemStops g parameter s = IsOutside s
ItemStops g (more_parameters ps) s = (13 < looseness s) × IsOutside s
ItemStops g (behind_comma c ps) s = (13 < looseness s) × IsOutside s
ItemStops g init s = 12 < looseness s
ItemStops g (inits is) s = (is_mark tokens.brace s || begins_expression s ≡ false) × (13 < looseness s)
ItemStops g (behind_init_comma is) s = (is_mark tokens.brace s || begins_expression s ≡ false) × (13 < looseness s)
ItemStops g declaration s = ⊤
ItemStops g items s = (begins_items s ≡ false) × IsBehindItem s
ItemStops g item s = (12 < looseness s) × (is_declaring s ≡ false)
ItemStops g initial s = 12 < looseness s
ItemStops g (declarations ds) s = begins_specifiers true g.inside s ≡ false
ItemStops g (more_items is) s = IsBehindItem s
ItemStops g statement s = is_mark tokens.else_word s ≡ false
ItemStops g else_part s = is_mark tokens.else_word s ≡ false
ItemStops g optional_expression s = (begins_expression s ≡ false) × (13 < looseness s)
ItemStops g (behind_name x) s = is_mark tokens.else_word s ≡ false
ItemStops g (statements ss) s = (begins_expression s || begins_other s ≡ false) × (is_mark tokens.else_word s ≡ false)
ItemStops g external s = ⊤
ItemStops g (external_items sp) s = ⊤
ItemStops g (behind_declarator sp d) s = ⊤

abbrev pub token_of : (t : Trees) → Class → TokenOf t
token_of t any = a_constant t
token_of t (ordinary g) = a_name t 0
token_of t (only g p m) = a_mark t m

abbrev pub ending : {t : Trees} → Ask t → List (TokenOf t)
ending (at g i) = item_ending g i
ending (unit types) = []
ending {t} whole = a_mark t tokens.end ∷ []

abbrev pub value : {t : Trees} (n : Ask t) → Answer n
value (at g i) = item_value g i
value (unit types) = []
value whole = []

abbrev pub Stops : {t : Trees} → Ask t → TokenOf t → Type 0
Stops (at g i) z = ItemStops g i (view g.types z.sort)
Stops (unit types) z = z.sort ≡ tokens.mark tokens.end
Stops whole z = ⊤

-- The grammar of C90 over these trees.
abbrev pub c90 : (t : Trees) → Table (c_symbols t)
c90 t = record { predict = predict; token = token_of t; ending = ending; value = value; Stops = Stops }
