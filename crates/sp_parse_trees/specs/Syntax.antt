-- The trees without pointers: what contracts and definitions speak of.
--
-- A value of the code has the pointers of its boxes in it. Here each type of the trees stands once more as plain data, with its
-- constructors named as in the code. A list of parts is a type of its own, and so is a part that may be missing.
use Rattle.std.specs.Prelude.{ℕ, ℤ, Bool, List, Option}
use Rattle.sp_tree.specs.declared.fault.Place.{Place}
use Rattle.sp_tree.specs.declared.token.Keyword.{Keyword}
use Rattle.sp_tree.specs.declared.token.Number.{Number}
use Rattle.sp_tree.specs.declared.token.Punct.{Punct}

mutual
  -- its form, its place and its mark
  pub data Expression : Type 0 where
    expression : ExpressionForm → Place → Place → Expression

  pub data ExpressionForm : Type 0 where
    name : ℕ → ExpressionForm
    number : Number → ExpressionForm
    character : ℤ → ExpressionForm
    text : List ℕ → ExpressionForm
    paren : Expression → ExpressionForm
    index : Expression → Expression → ExpressionForm
    call : Expression → Expressions → ExpressionForm
    member : Expression → ℕ → ExpressionForm
    arrow : Expression → ℕ → ExpressionForm
    after : Punct → Expression → ExpressionForm
    unary : Punct → Expression → ExpressionForm
    sizeof_expr : Expression → ExpressionForm
    sizeof_type : TypeName → ExpressionForm
    cast : TypeName → Expression → ExpressionForm
    binary : Punct → Expression → Expression → ExpressionForm
    choice : Expression → Expression → Expression → ExpressionForm
    assign : Punct → Expression → Expression → ExpressionForm
    comma : Expression → Expression → ExpressionForm

  pub data Expressions : Type 0 where
    no_expressions : Expressions
    next_expression : Expression → Expressions → Expressions

  pub data MaybeExpression : Type 0 where
    no_expression : MaybeExpression
    some_expression : Expression → MaybeExpression

  pub data Specifier : Type 0 where
    storage : Keyword → Specifier
    qualifier : Keyword → Specifier
    basic : Keyword → Specifier
    named : ℕ → Specifier
    struct_specifier : StructSpec → Specifier
    enum_specifier : EnumSpec → Specifier

  pub data Specifiers : Type 0 where
    no_specifiers : Specifiers
    next_specifier : Specifier → Specifiers → Specifiers

  -- whether it is a union, its tag, its members and its place
  pub data StructSpec : Type 0 where
    struct_spec : Bool → Option ℕ → Members → Place → StructSpec

  pub data Members : Type 0 where
    no_members : Members
    some_members : Declarations → Members

  -- its tag, its constants and its place
  pub data EnumSpec : Type 0 where
    enum_spec : Option ℕ → Constants → Place → EnumSpec

  pub data Constants : Type 0 where
    no_constants : Constants
    some_constants : Enumerators → Constants

  -- each with its name, the place of its name, and its value
  pub data Enumerators : Type 0 where
    no_enumerators : Enumerators
    next_enumerator : ℕ → Place → MaybeExpression → Enumerators → Enumerators

  -- its form and its place
  pub data Declarator : Type 0 where
    declarator : DeclaratorForm → Place → Declarator

  pub data DeclaratorForm : Type 0 where
    absent : DeclaratorForm
    declared : ℕ → DeclaratorForm
    group : Declarator → DeclaratorForm
    pointer : List Keyword → Declarator → DeclaratorForm
    array : Declarator → MaybeExpression → DeclaratorForm
    function : Declarator → Params → Bool → DeclaratorForm

  pub data Param : Type 0 where
    param : Specifiers → Declarator → Param

  pub data Params : Type 0 where
    no_params : Params
    next_param : Param → Params → Params

  pub data TypeName : Type 0 where
    type_name : Specifiers → Declarator → TypeName

  -- a list, and whether a comma stands before its closing brace
  pub data Init : Type 0 where
    one : Expression → Init
    list : Inits → Bool → Init

  pub data Inits : Type 0 where
    no_inits : Inits
    next_init : Init → Inits → Inits

  pub data MaybeInit : Type 0 where
    no_init : MaybeInit
    some_init : Init → MaybeInit

  pub data InitDeclarator : Type 0 where
    init_declarator : Declarator → MaybeInit → InitDeclarator

  pub data InitDeclarators : Type 0 where
    no_items : InitDeclarators
    next_item : InitDeclarator → InitDeclarators → InitDeclarators

  -- its specifiers, its declarators and its place
  pub data Declaration : Type 0 where
    declaration : Specifiers → InitDeclarators → Place → Declaration

  pub data Declarations : Type 0 where
    no_declarations : Declarations
    next_declaration : Declaration → Declarations → Declarations

mutual
  -- its form, its place and its end
  pub data Statement : Type 0 where
    statement : StatementForm → Place → Place → Statement

  pub data StatementForm : Type 0 where
    label : ℕ → Statement → StatementForm
    case_label : Expression → Statement → StatementForm
    default_label : Statement → StatementForm
    block : Declarations → Statements → StatementForm
    empty : StatementForm
    of : Expression → StatementForm
    if_else : Expression → Statement → MaybeStatement → StatementForm
    switch_on : Expression → Statement → StatementForm
    while_loop : Expression → Statement → StatementForm
    do_loop : Statement → Expression → StatementForm
    for_loop : MaybeExpression → MaybeExpression → MaybeExpression → Statement → StatementForm
    goto_name : ℕ → StatementForm
    continue_loop : StatementForm
    break_out : StatementForm
    return_value : MaybeExpression → StatementForm

  pub data MaybeStatement : Type 0 where
    no_statement : MaybeStatement
    some_statement : Statement → MaybeStatement

  pub data Statements : Type 0 where
    no_statements : Statements
    next_statement : Statement → Statements → Statements

pub data External : Type 0 where
  definition : Specifiers → Declarator → Statement → External
  external_declaration : Declaration → External
  semicolon : External
