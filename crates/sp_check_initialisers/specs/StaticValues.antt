-- Values that are known before the program runs (C90 6.4): they initialise what lives as long as
-- the program does.
use Rattle.std.specs.Prelude.{Bool, true, false, ◌&&◌, List, Option, Some, None, slice_get, is_some}
use Rattle.sp_tree.specs.declared.token.Punct.TheVariants as marks
use Rattle.sp_types.specs.Types.{integer, pointer}
use Rattle.sp_types.specs.Typed.{Typed, typed, TypedForm}
use Rattle.sp_types.specs.Typed as tree
use Rattle.sp_types.specs.Programs.{Object}
use Rattle.sp_types.specs.declared.program.Storage.{Storage}
use Rattle.sp_types.specs.declared.program.Storage.TheVariants.{Static, Outside, Text}
use Rattle.sp_check_constants.specs.Constants.{constant_of}

-- 6.1.2.4
abbrev pub is_static_storage : Storage → Bool
is_static_storage Static = true
is_static_storage Outside = true
is_static_storage Text = true
is_static_storage _ = false

abbrev pub is_static_object : Option Object → Bool
is_static_object None = false
is_static_object (Some o) = is_static_storage o.storage

-- 6.4: an integer constant expression; an address constant, also converted or moved by an integer
-- constant expression. An address constant points to an object of static storage duration or to a
-- function, and is made without reading an object
abbrev mutual
  pub is_static : List Object → Typed → Bool
  is_static os (typed f (integer k) p m) = is_some (constant_of (typed f (integer k) p m))
  is_static os (typed f (pointer t) p m) = is_address os f
  is_static os (typed f t p m) = false

  -- a value of pointer type
  pub is_address : List Object → TypedForm → Bool
  is_address os (tree.decay e) = is_place os e
  is_address os (tree.unary marks.Ampersand e) = is_place os e
  is_address os (tree.convert e) = is_static os e
  is_address os (tree.cast e) = is_static os e
  is_address os (tree.binary marks.Plus a b) = is_static os a && is_static os b
  is_address os (tree.binary marks.Minus a b) = is_static os a && is_static os b
  is_address os f = false

  -- a function, or an lvalue of a static object
  pub is_place : List Object → Typed → Bool
  is_place os (typed f t p m) = designates_static os f

  pub designates_static : List Object → TypedForm → Bool
  designates_static os (tree.object k) = is_static_object (slice_get os k)
  designates_static os (tree.function k) = true
  designates_static os (tree.member e n) = is_place os e
  designates_static os (tree.arrow e n) = is_static os e
  designates_static os (tree.unary marks.Star e) = is_static os e
  designates_static os (tree.index a b) = is_static os a && is_static os b
  designates_static os f = false
