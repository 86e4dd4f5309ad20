-- The grammar of C90 over the trees of this repository, with their places.
use Rattle.std.specs.Prelude.{List, [], ◌∷◌, ◌++◌, map, option_map, refl, if◌then◌else◌}
use Rattle.sp_tree.specs.declared.token.Kind.TheVariants as kinds
use Rattle.sp_tree.specs.declared.token.Keyword.TheVariants.{Int}
use Rattle.sp_tree.specs.declared.token.Token.{Token}
use Rattle.sp_parse_trees.specs.Syntax as syntax
use Rattle.sp_parse_trees.specs.Syntax.{expression, statement}
use Rattle.sp_parse_trees.specs.Places.{place_of}
use Rattle.sp_parse_trees.specs.View as view
use Rattle.sp_parse_grammar.specs.Table.{Table}
use Rattle.sp_parse_grammar.specs.CTrees.{Trees}
use Rattle.sp_parse_grammar.specs.CTable.{c_symbols, c90}
use Rattle.sp_parse_tokens.specs.Sorts.{sort_of, mark_kind, mark_sort, spare, spare_number}
use Rattle.sp_parse_tokens.specs.Makers as make

abbrev pub syntax_trees : Trees
syntax_trees = record {
  Payload = Token;
  sort_of = λ x. sort_of x.kind;
  spare_name = λ n. spare (kinds.Name n);
  spare_constant = spare (kinds.Number spare_number);
  spare_int = spare (kinds.Word Int);
  spare_mark = λ m. spare (mark_kind m);
  name_right = λ n. refl;
  constant_right = refl;
  int_right = refl;
  mark_right = mark_sort;
  Expr = syntax.Expression;
  TypeName = syntax.TypeName;
  Specifier = make.SpecifierAt;
  Enumerator = make.Enumerator;
  Declarator = syntax.Declarator;
  Parameter = syntax.Param;
  Parameters = List syntax.Param;
  Init = syntax.Init;
  Item = syntax.InitDeclarator;
  Declaration = syntax.Declaration;
  Statement = syntax.Statement;
  External = syntax.External;
  name = λ x. make.make_name x.what;
  constant = λ x. make.make_constant x.what;
  texts = λ xs. make.make_texts (map (λ x. x.what) xs);
  paren = λ x e. make.leaf (syntax.paren e) x.what;
  index = λ e x i. make.behind (syntax.index e i) e x.what;
  call = λ e x es. make.behind (syntax.call e (view.expressions es)) e x.what;
  member = λ e x n. make.make_member e x.what n.what;
  postfix = λ e x. make.behind (syntax.after (make.punct_of x.what.kind) e) e x.what;
  prefix = λ x e. make.leaf (syntax.unary (make.punct_of x.what.kind) e) x.what;
  sizeof_expr = λ x e. make.leaf (syntax.sizeof_expr e) x.what;
  sizeof_type = λ x n z. make.leaf (syntax.sizeof_type (make.settle_type z.what.place n)) x.what;
  cast = λ x n z e. make.leaf (syntax.cast (make.settle_type z.what.place n) e) x.what;
  binary = λ x l r. make.behind (syntax.binary (make.punct_of x.what.kind) l r) l x.what;
  choice = λ x c l r. make.behind (syntax.choice c l r) c x.what;
  assign = λ x l r. make.behind (syntax.assign (make.punct_of x.what.kind) l r) l x.what;
  sequence = λ x l r. make.behind (syntax.comma l r) l x.what;
  word = λ x. make.make_word x.what;
  structure = λ x tag ds. make.make_structure x.what (option_map (λ y. y.what) tag) ds;
  enumeration = λ x tag es. make.make_enumeration x.what (option_map (λ y. y.what) tag) es;
  enumerator = λ x v. make.make_enumerator x.what v;
  type_name = λ ss d. syntax.type_name (make.all_specifiers ss) d;
  absent = make.make_absent;
  named = λ x. make.make_named x.what;
  group = λ x d z. make.make_group x.what d z.what;
  pointer = λ x qs d. make.make_pointer x.what (map (λ q. q.what) qs) d;
  array = λ d x n. make.make_array d x.what n;
  function = λ d x ps dots z. make.make_function d x.what ps dots z.what;
  parameter = λ ss d. syntax.param (make.all_specifiers ss) d;
  no_parameters = [];
  first_parameter = λ p. p ∷ [];
  next_parameter = λ ps x p. make.settle_last x.what.place ps ++ p ∷ [];
  before_dots = λ ps x. make.settle_last x.what.place ps;
  single = λ e. syntax.one e;
  listed = λ x is comma. syntax.list (view.inits is) comma;
  item = λ d v. make.make_item d v;
  declaration = λ ss is. make.make_declaration ss is;
  label = λ x s. statement (syntax.label (make.number_of x.what.kind) s) x.what.place (make.end_of s);
  case = λ x e s. statement (syntax.case_label e s) x.what.place (make.end_of s);
  default = λ x s. statement (syntax.default_label s) x.what.place (make.end_of s);
  block = λ x ds ss z. statement (syntax.block (view.declarations ds) (make.all_statements ss)) x.what.place z.what.place;
  empty = λ x. statement syntax.empty x.what.place x.what.place;
  of = λ e z. statement (syntax.of e) (place_of e) z.what.place;
  if_else = λ x e a b. statement (syntax.if_else e a (make.some_statement b)) x.what.place (make.end_of_branches a b);
  switch = λ x e s. statement (syntax.switch_on e s) x.what.place (make.end_of s);
  while = λ x e s. statement (syntax.while_loop e s) x.what.place (make.end_of s);
  do_while = λ x s e z. statement (syntax.do_loop s e) x.what.place z.what.place;
  for = λ x a b c s. statement (syntax.for_loop (view.maybe_expression a) (view.maybe_expression b) (view.maybe_expression c) s) x.what.place (make.end_of s);
  goto = λ x n z. statement (syntax.goto_name (make.number_of n.what.kind)) x.what.place z.what.place;
  jump = λ x z. statement (if make.is_break x.what.kind then syntax.break_out else syntax.continue_loop) x.what.place z.what.place;
  return = λ x e z. statement (syntax.return_value (view.maybe_expression e)) x.what.place z.what.place;
  definition = λ ss d b. syntax.definition (make.all_specifiers ss) d b;
  declared = λ d. syntax.external_declaration d;
  nothing = λ x. syntax.semicolon;
}

-- the grammar
abbrev pub c_table : Table (c_symbols syntax_trees)
c_table = c90 syntax_trees
