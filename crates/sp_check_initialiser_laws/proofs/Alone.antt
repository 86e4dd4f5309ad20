-- A value that the checks take for a static object names objects that last alone (C90 6.4), so it is
-- typed wherever it stands.
use Rattle.std.proofs.Common.{◌≡◌, ℕ, ◌&&◌, Bool, true, false, is_some, if◌then◌else◌, List, Option, Some, None, refl, sym, true≢false, ℤ}
use Rattle.std.specs.Prelude.{slice_get}
use Rattle.sp_tree.specs.declared.token.Punct.TheVariants.{Ampersand, Star, Plus, Minus}
use Rattle.sp_types.specs.declared.program.Storage.{Storage}
use Rattle.sp_types.specs.declared.program.Storage.TheVariants.{Static, Outside, Text, Auto, Formal}
use Rattle.sp_types.specs.Types.{CType, integer, pointer}
use Rattle.sp_types.specs.Typed.{Typed, typed, TypedForm}
use Rattle.sp_types.specs.Typed as tree
use Rattle.sp_types.specs.Programs.{Object}
use Rattle.sp_check_constants.specs.Constants.{is_constant_operator, is_constant_form, is_constant_operand, constant_value}
use Rattle.sp_check_env.specs.Env.{Env}
use Rattle.sp_check_initialisers.specs.StaticValues.{is_static_storage, is_static_object, is_static, is_address, is_place, designates_static}
use Rattle.sp_check_typing.specs.Trees.{Scene, IsTyped, IsForm}
use Rattle.sp_check_typing.specs.Statements.{is_lasting}
use Rattle.sp_check_typing.specs.Programs.{lasts}
use Rattle.sp_check_expr_laws.specs.Sound.{scene_of, lasting_alone}
use Rattle.sp_check_expr_laws.proofs.Types.{and_true}

form_known : (b : Bool) (o : Option ℤ) → is_some (if b then o else None) ≡ true → b ≡ true
form_known true o h = refl
form_known false o h = absurd (true≢false (sym h))

storage_same : (s : Storage) → is_static_storage s ≡ true → is_lasting s ≡ true
storage_same Static h = refl
storage_same Outside h = refl
storage_same Text h = refl
storage_same Auto h = h
storage_same Formal h = h

object_same : (o : Option Object) → is_static_object o ≡ true → lasts o ≡ true
object_same None h = h
object_same (Some o) h = storage_same o.storage h

module _ (own : ℕ → Bool) (env : Env) where
  abbrev here : Scene
  here = scene_of own env

  abbrev alone : Scene
  alone = scene_of lasting_alone env

  abbrev os : List Object
  os = env.tables.objects

  mutual
    constant_alone : (e : Typed) → is_constant_form e ≡ true → IsTyped here e → IsTyped alone e
    constant_alone (typed f (integer k) p m) h w =
        (w.0, w.1, operand_alone (integer k) f h w.2)
    constant_alone (typed f t p m) h w = absurd (true≢false (sym h))

    operand_alone : (t : CType) (f : TypedForm) → is_constant_operand f ≡ true → IsForm here t f
        → IsForm alone t f
    operand_alone t (tree.number n) h w = w
    operand_alone t (tree.character z) h w = w
    operand_alone t (tree.constant z) h w = w
    operand_alone t (tree.convert e) h w = (constant_alone e h w.0, w.1, w.2)
    operand_alone t (tree.cast e) h w = (constant_alone e h w.0, w.1, w.2)
    operand_alone t (tree.unary op e) h w =
        (constant_alone e (and_true (is_constant_operator op) (is_constant_form e) h).1 w.0, w.1)
    operand_alone t (tree.binary op a b) h w =
        let x = and_true (is_constant_form a) (is_constant_form b) h in
        (constant_alone a x.0 w.0, constant_alone b x.1 w.1, w.2)
    operand_alone t (tree.choice c a b) h w =
        let x = and_true (is_constant_form c && is_constant_form a) (is_constant_form b) h in
        let y = and_true (is_constant_form c) (is_constant_form a) x.0 in (
          constant_alone c y.0 w.0,
          constant_alone a y.1 w.1,
          constant_alone b x.1 w.2,
          w.3,
          w.4,
        )
    operand_alone t f h w = absurd (true≢false (sym h))

  mutual
    pub static_alone : (e : Typed) → is_static os e ≡ true → IsTyped here e → IsTyped alone e
    static_alone (typed f (integer k) p m) h w =
        constant_alone (typed f (integer k) p m)
        (form_known (is_constant_form (typed f (integer k) p m))
        (constant_value (typed f (integer k) p m)) h) w
    static_alone (typed f (pointer t) p m) h w = (w.0, w.1, address_alone (pointer t) f h w.2)
    static_alone (typed f t p m) h w = absurd (true≢false (sym h))

    address_alone : (t : CType) (f : TypedForm) → is_address os f ≡ true → IsForm here t f
        → IsForm alone t f
    address_alone t (tree.decay e) h w = (place_alone e h w.0, w.1, w.2, w.3)
    address_alone t (tree.unary Ampersand e) h w = (place_alone e h w.0, w.1)
    address_alone t (tree.convert e) h w = (static_alone e h w.0, w.1, w.2)
    address_alone t (tree.cast e) h w = (static_alone e h w.0, w.1, w.2)
    address_alone t (tree.binary Plus a b) h w =
        let x = and_true (is_static os a) (is_static os b) h in
        (static_alone a x.0 w.0, static_alone b x.1 w.1, w.2)
    address_alone t (tree.binary Minus a b) h w =
        let x = and_true (is_static os a) (is_static os b) h in
        (static_alone a x.0 w.0, static_alone b x.1 w.1, w.2)
    address_alone t f h w = absurd (true≢false (sym h))

    place_alone : (e : Typed) → is_place os e ≡ true → IsTyped here e → IsTyped alone e
    place_alone (typed f t p m) h w = (w.0, w.1, designated_alone t f h w.2)

    designated_alone : (t : CType) (f : TypedForm) → designates_static os f ≡ true
        → IsForm here t f → IsForm alone t f
    designated_alone t (tree.object k) h w = record {
      object = w.object;
      there = w.there;
      visible = object_same (slice_get os k) h;
      told = w.told;
    }
    designated_alone t (tree.function k) h w = w
    designated_alone t (tree.index a b) h w =
        let x = and_true (is_static os a) (is_static os b) h in
        (static_alone a x.0 w.0, static_alone b x.1 w.1, w.2, w.3)
    designated_alone t (tree.member e n) h w = (place_alone e h w.0, w.1)
    designated_alone t (tree.arrow e n) h w = (static_alone e h w.0, w.1)
    designated_alone t (tree.unary Star e) h w = (static_alone e h w.0, w.1)
    designated_alone t f h w = absurd (true≢false (sym h))
