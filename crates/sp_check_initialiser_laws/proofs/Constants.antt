-- A value that the checks take for a static object is a constant (C90 6.4).
use Rattle.std.proofs.Common.{◌≡◌, ◌&&◌, Bool, true, false, List, refl, sym, true≢false}
use Rattle.sp_tree.specs.declared.token.Punct.TheVariants.{Ampersand, Star, Plus, Minus}
use Rattle.sp_types.specs.Types.{integer, pointer}
use Rattle.sp_types.specs.Typed.{Typed, typed, TypedForm}
use Rattle.sp_types.specs.Typed as tree
use Rattle.sp_types.specs.Programs.{Object}
use Rattle.sp_check_initialisers.specs.StaticValues.{is_static, is_address as is_static_address, is_place, designates_static}
use Rattle.sp_check_typing.specs.Constants.{is_constant, is_address, is_fixed, designates_fixed}

both_true : (a b c d : Bool) → (a ≡ true → c ≡ true) → (b ≡ true → d ≡ true) → (a && b) ≡ true
    → (c && d) ≡ true
both_true true true true true f g h = refl
both_true true true true false f g h = g refl
both_true true true false d f g h = f refl
both_true true false c d f g h = absurd (true≢false (sym h))
both_true false b c d f g h = absurd (true≢false (sym h))

module _ (os : List Object) where
  mutual
    pub static_constant : (e : Typed) → is_static os e ≡ true → is_constant e ≡ true
    static_constant (typed f (integer k) p m) h = h
    static_constant (typed f (pointer t) p m) h = static_address f h
    static_constant (typed f t p m) h = h

    static_address : (f : TypedForm) → is_static_address os f ≡ true → is_address f ≡ true
    static_address (tree.decay e) h = static_fixed e h
    static_address (tree.unary Ampersand e) h = static_fixed e h
    static_address (tree.convert e) h = static_constant e h
    static_address (tree.cast e) h = static_constant e h
    static_address (tree.binary Plus a b) h =
        both_true (is_static os a) (is_static os b) (is_constant a) (is_constant b)
        (static_constant a) (static_constant b) h
    static_address (tree.binary Minus a b) h =
        both_true (is_static os a) (is_static os b) (is_constant a) (is_constant b)
        (static_constant a) (static_constant b) h
    static_address f h = h

    static_fixed : (e : Typed) → is_place os e ≡ true → is_fixed e ≡ true
    static_fixed (typed f t p m) h = static_designates f h

    static_designates : (f : TypedForm) → designates_static os f ≡ true → designates_fixed f ≡ true
    static_designates (tree.object k) h = refl
    static_designates (tree.function k) h = refl
    static_designates (tree.index a b) h =
        both_true (is_static os a) (is_static os b) (is_constant a) (is_constant b)
        (static_constant a) (static_constant b) h
    static_designates (tree.member e n) h = static_fixed e h
    static_designates (tree.arrow e n) h = static_constant e h
    static_designates (tree.unary Star e) h = static_constant e h
    static_designates f h = h
