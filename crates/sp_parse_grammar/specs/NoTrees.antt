-- Trees that say nothing.
use Rattle.std.specs.Prelude.{refl, ⊤}
use Rattle.sp_parse_grammar.specs.CTokens as tokens
use Rattle.sp_parse_grammar.specs.CTokens.{Sort}
use Rattle.sp_parse_grammar.specs.CTrees.{Trees}

-- The trees of a parser that only tells whether a text is in the language: its tokens are their sorts, and its trees say nothing.
abbrev pub no_trees : Trees
no_trees = record {
  Payload = Sort;
  sort_of = λ s. s;
  spare_name = tokens.name;
  spare_constant = tokens.constant;
  spare_int = tokens.basic tokens.int;
  spare_mark = tokens.mark;
  name_right = λ n. refl;
  constant_right = refl;
  int_right = refl;
  mark_right = λ m. refl;
  Expr = ⊤;
  TypeName = ⊤;
  Specifier = ⊤;
  Enumerator = ⊤;
  Declarator = ⊤;
  Parameter = ⊤;
  Parameters = ⊤;
  Init = ⊤;
  Item = ⊤;
  Declaration = ⊤;
  Statement = ⊤;
  External = ⊤;
  name = λ x. tt;
  constant = λ x. tt;
  texts = λ xs. tt;
  paren = λ x e. tt;
  index = λ e x i. tt;
  call = λ e x es. tt;
  member = λ e x y. tt;
  postfix = λ e x. tt;
  prefix = λ x e. tt;
  sizeof_expr = λ x e. tt;
  sizeof_type = λ x n y. tt;
  cast = λ x n y e. tt;
  binary = λ x a b. tt;
  choice = λ x a b c. tt;
  assign = λ x a b. tt;
  sequence = λ x a b. tt;
  word = λ x. tt;
  structure = λ x y ds. tt;
  enumeration = λ x y es. tt;
  enumerator = λ x v. tt;
  type_name = λ ss d. tt;
  absent = tt;
  named = λ x. tt;
  group = λ x d y. tt;
  pointer = λ x qs d. tt;
  array = λ d x n. tt;
  function = λ d x ps dots y. tt;
  parameter = λ ss d. tt;
  no_parameters = tt;
  first_parameter = λ p. tt;
  next_parameter = λ ps x p. tt;
  before_dots = λ ps x. tt;
  single = λ e. tt;
  listed = λ x is comma. tt;
  item = λ d v. tt;
  declaration = λ ss is. tt;
  label = λ x s. tt;
  case = λ x e s. tt;
  default = λ x s. tt;
  block = λ x ds ss y. tt;
  empty = λ x. tt;
  of = λ e x. tt;
  if_else = λ x e a b. tt;
  switch = λ x e s. tt;
  while = λ x e s. tt;
  do_while = λ x s e y. tt;
  for = λ x a b c s. tt;
  goto = λ x y z. tt;
  jump = λ x y. tt;
  return = λ x e y. tt;
  definition = λ ss d s. tt;
  declared = λ d. tt;
  nothing = λ x. tt;
}
