-- How large a typed expression is: what a recursion over it falls by.
use Rattle.std.specs.Prelude.{ℕ, ◌+◌}
use Rattle.sp_types.specs.Typed.{Typed, typed, TypedForm, number, character, constant, object, function, convert, decay, index, call, member, arrow, after, unary, cast, binary, choice, assign, comma, TypedList, no_typed, next_typed}

abbrev mutual
  pub size : Typed → ℕ
  size (typed form t place mark) = 10 + form_size form

  pub form_size : TypedForm → ℕ
  form_size (number n) = 0
  form_size (character z) = 0
  form_size (constant z) = 0
  form_size (object n) = 0
  form_size (function n) = 0
  form_size (convert e) = size e
  form_size (decay e) = size e
  form_size (index a b) = size a + size b
  form_size (call f es) = size f + sizes es
  form_size (member e n) = size e
  form_size (arrow e n) = size e
  form_size (after p e) = size e
  form_size (unary p e) = size e
  form_size (cast e) = size e
  form_size (binary p a b) = size a + size b
  form_size (choice a b d) = size a + size b + size d
  form_size (assign p a b) = size a + size b
  form_size (comma a b) = size a + size b

  pub sizes : TypedList → ℕ
  sizes no_typed = 0
  sizes (next_typed e es) = size e + sizes es
