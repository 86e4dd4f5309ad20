-- Whether an expression adds nodes.
use Rattle.std.specs.Prelude.{ℕ, ◌||◌, Bool, true, false, Option, Some, None}
use Rattle.sp_tree.specs.declared.token.Punct.{Punct}
use Rattle.sp_types.specs.Types.{CType}
use Rattle.sp_types.specs.Typed.{Typed, typed, TypedForm, number, character, constant, object, function, convert, decay, index, call, member, arrow, after, unary, cast, binary, choice, assign, comma, TypedList, no_typed, next_typed}
use Rattle.sp_lower_draft.specs.declared.operators.Prefix.{Prefix}
use Rattle.sp_lower_draft.specs.declared.operators.Prefix.TheVariants.{Address, Pointee, Negation, Step, Sign}
use Rattle.sp_lower_draft.specs.declared.operators.Circuit.{Circuit}
use Rattle.sp_lower_draft.specs.Context.{is_void}
use Rattle.sp_lower_draft.specs.Operators.{prefix_of, circuit_of}

-- a step does; the others do where their operand does
abbrev pub prefix_adds : Prefix → Bool → Bool
prefix_adds Step inner = true
prefix_adds p inner = inner

-- an address does unused what its operand does
abbrev pub prefix_adds_unused : Prefix → Bool → Bool
prefix_adds_unused Address inner = inner
prefix_adds_unused p inner = true

abbrev pub circuit_adds : Option Circuit → Bool → Bool
circuit_adds None inner = inner
circuit_adds (Some c) inner = true

-- a conversion to void is the expression itself, unused
abbrev pub conversion_adds_unused : Bool → Bool → Bool
conversion_adds_unused true inner = inner
conversion_adds_unused false inner = true

abbrev mutual
  -- whether its value has nodes
  pub adds : Typed → Bool
  adds (typed form t place mark) = form_adds form

  pub form_adds : TypedForm → Bool
  form_adds (number n) = false
  form_adds (character z) = false
  form_adds (constant z) = false
  form_adds (object n) = false
  form_adds (function n) = false
  form_adds (convert e) = adds e
  form_adds (decay e) = adds e
  form_adds (index a b) = adds a || adds b
  form_adds (call f es) = true
  form_adds (member e n) = adds e
  form_adds (arrow e n) = adds e
  form_adds (after p e) = true
  form_adds (unary p e) = prefix_adds (prefix_of p) (adds e)
  form_adds (cast e) = adds e
  form_adds (binary p a b) = circuit_adds (circuit_of p) (adds a || adds b)
  form_adds (choice a b d) = true
  form_adds (assign p a b) = true
  form_adds (comma a b) = adds_unused a || adds b

  -- whether it has nodes where its value isn't used
  pub adds_unused : Typed → Bool
  adds_unused (typed form t place mark) = form_adds_unused form (is_void t)

  pub form_adds_unused : TypedForm → Bool → Bool
  form_adds_unused (number n) empty = false
  form_adds_unused (character z) empty = false
  form_adds_unused (constant z) empty = false
  form_adds_unused (object n) empty = true
  form_adds_unused (function n) empty = true
  form_adds_unused (convert e) empty = conversion_adds_unused empty (adds_unused e)
  form_adds_unused (decay e) empty = true
  form_adds_unused (index a b) empty = true
  form_adds_unused (call f es) empty = true
  form_adds_unused (member e n) empty = true
  form_adds_unused (arrow e n) empty = true
  form_adds_unused (after p e) empty = true
  form_adds_unused (unary p e) empty = prefix_adds_unused (prefix_of p) (adds_unused e)
  form_adds_unused (cast e) empty = conversion_adds_unused empty (adds_unused e)
  form_adds_unused (binary p a b) empty = true
  form_adds_unused (choice a b d) empty = true
  form_adds_unused (assign p a b) empty = true
  form_adds_unused (comma a b) empty = adds_unused a || adds_unused b

-- whether one of these has nodes
abbrev pub any_adds : TypedList → Bool
any_adds no_typed = false
any_adds (next_typed e es) = adds e || any_adds es
