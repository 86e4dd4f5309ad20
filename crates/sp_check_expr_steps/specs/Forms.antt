-- What a form of expression gives once its parts are typed (C90 6.3): each of these is what `form_checked` does behind its last part.
-- A pair is the last part with the environment behind it.
use Rattle.std.specs.Prelude.{if◌then◌else◌}
use Rattle.sp_tree.specs.declared.fault.FaultKind.TheVariants.{BadOperand}
use Rattle.sp_tree.specs.declared.fault.Place.{Place}
use Rattle.sp_parse_trees.specs.Syntax.{ExpressionForm}
use Rattle.sp_parse_trees.specs.Syntax as syntax
use Rattle.sp_parse_trees.specs.Places.{place_of}
use Rattle.sp_types.specs.Typed.{Typed, typed, of}
use Rattle.sp_types.specs.Typed as tree
use Rattle.sp_base_checked.specs.Answers.{Checked, accepted, refused, and_then}
use Rattle.sp_check_operands.specs.Conversions.{value}
use Rattle.sp_check_binary_rules.specs.Rules.{indexed, member_taken, arrow_taken, binary, assign, not_floating, stepped_after, takes_object, unary_object, unary_value}
use Rattle.sp_check_env.specs.Env.{Env}
use Rattle.sp_check_primaries.specs.Literals.{size_checked}
use Rattle.sp_check_expr_steps.specs.Specifiers.{stays}

-- an expression as a value (6.2.2.1)
abbrev pub as_value : Place → Typed × Env → Checked (Typed × Env)
as_value p x = and_then (not_floating p x.0) (λ e. stays x.1 (value x.1.tables.structs p e))

-- a form of one expression
abbrev pub operated : Place → Place → ExpressionForm → Typed × Env → Checked (Typed × Env)
operated p m (syntax.member e n) x = stays x.1 (member_taken x.1.tables.structs n p m x.0)
operated p m (syntax.arrow e n) x = stays x.1 (arrow_taken x.1.tables.structs n p m x.0)
operated p m (syntax.after op e) x = stays x.1 (stepped_after x.1.tables.structs op p m (place_of e) x.0)
operated p m (syntax.unary op e) x =
    if takes_object op then stays x.1 (unary_object x.1.tables.structs op p m (place_of e) x.0)
    else stays x.1 (unary_value op p m x.0)
operated p m (syntax.sizeof_expr e) x = size_checked x.1 p m (of x.0)
operated p m f x = refused BadOperand p

-- a form of two, of which the first is typed before
abbrev pub paired : Place → Place → ExpressionForm → Typed → Typed × Env → Checked (Typed × Env)
paired p m (syntax.index a b) x y = stays y.1 (indexed y.1.tables.structs p m x y.0)
paired p m (syntax.binary op a b) x y = stays y.1 (binary y.1.tables.structs op p m x y.0)
paired p m (syntax.assign op a b) x y = stays y.1 (assign y.1.tables.structs op p m (place_of a) (place_of b) x y.0)
paired p m (syntax.comma a b) x y = accepted (typed (tree.comma x y.0) (of y.0) p m, y.1)
paired p m f x y = refused BadOperand p
