-- The start values of static objects: constant expressions, whose values are known before the
-- program runs, so that no node stands for one (C90 6.4, 6.5.7).
use Rattle.std.specs.Prelude.{[], Option, Some, None, if◌then◌else◌}
use Rattle.sp_types.specs.Typed.{Typed, typed, TypedForm, of}
use Rattle.sp_types.specs.Typed as tree
use Rattle.sp_check_constants.specs.Constants.{constant_of}
use Rattle.sp_ir.specs.Commands.{Expression, number, convert, Lvalue}
use Rattle.sp_lower_draft.specs.Context.{Context, kind_of}
use Rattle.sp_lower_draft.specs.Draft.{Draft}
use Rattle.sp_lower_draft.specs.Steps.{addressed, loaded, indexed, member_taken, arrow_taken, followed, operated}
use Rattle.sp_lower_draft.specs.Expressions.{operand, value_of, meaning}
use Rattle.sp_lower_draft.specs.Adds.{form_adds}

-- no node yet
abbrev pub empty : Draft
empty = record { nodes = []; edges = []; loose = []; temporaries = []; sites = [] }

-- of an expression without nodes, what a function's expressions have
abbrev pub plain_value : Context → Typed → Expression
plain_value c e = (value_of (operand c e) empty).pure

abbrev pub plain_place : Context → Typed → Lvalue
plain_place c e = ((meaning c e).place empty).pure

-- Where `?:`, `&&` or `||` stands in a constant, nodes would come of it in a function. Here the
-- integer constant expression around it is its value, and a conversion of that, or an address
-- constant, is made of it.
abbrev mutual
  pub start_value : Context → Typed → Expression
  start_value c (typed f t p m) =
      if form_adds f then
      (elim (constant_of (typed f t p m)) [ None ↦ start_with c f (typed f t p m) | Some z ↦ number z (kind_of t) ])
      else plain_value c (typed f t p m)

  -- the expression e of this form, which is no integer constant expression
  pub start_with : Context → TypedForm → Typed → Expression
  start_with c (tree.convert a) e = convert (of e) (start_value c a)
  start_with c (tree.cast a) e = convert (of e) (start_value c a)
  start_with c (tree.decay a) e = loaded c (of a) (start_place c a)
  start_with c (tree.unary op a) e = addressed c (of e) (start_place c a)
  start_with c (tree.binary op a b) e =
      operated c op e a b (start_value c a) (start_value c b)
  start_with c f e = plain_value c e

  -- an object or a function whose address is taken, or a part of an object
  pub start_place : Context → Typed → Lvalue
  start_place c (typed f t p m) =
      if form_adds f then start_part c f (typed f t p m) else plain_place c (typed f t p m)

  pub start_part : Context → TypedForm → Typed → Lvalue
  start_part c (tree.index a b) e = indexed c e a b (start_value c a) (start_value c b)
  start_part c (tree.member a n) e = member_taken c a n (start_place c a)
  start_part c (tree.arrow a n) e = arrow_taken c e a n (start_value c a)
  start_part c (tree.unary op a) e = followed e (start_value c a)
  start_part c f e = plain_place c e
