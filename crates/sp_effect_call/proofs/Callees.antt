-- The functions of a call, their formals and their results.
use Rattle.std.proofs.Common.{◌≡◌, ℕ, zero, suc, Bool, true, false, cond, nat_eq, ◌&&◌, ◌∷◌, [], List, length, Option, Some, None, refl, sym, ap, ◌∙◌, subst, eqb-true}
use Rattle.std.specs.Prelude.{slice_get, All}
use Rattle.std.proofs.lemmas.Bool.{false≢true}
use Rattle.sp_base_sets.specs.Sets.{has}
use Rattle.sp_base_sets.specs.Reached.{row}
use Rattle.sp_base_sets.proofs.Members.{eqb-refl}
use Rattle.sp_types.specs.Types.{CType, void, integer, floating, pointer, array, structure, function}
use Rattle.sp_ir.specs.Commands.{Expression, number, address, decay, read, convert, unary, binary, compare, move, distance, Lvalue, lvalue_type}
use Rattle.sp_ir.specs.Programs.{Lowered, Object, Code}
use Rattle.sp_ir.specs.Terrain.{terrain_of}
use Rattle.sp_points_expr.specs.Tables.{Table}
use Rattle.sp_eval.proofs.Among.{among-left}
use Rattle.sp_effect_rows.proofs.Choices.{or_left, or_right}
use Rattle.sp_points_rules.specs.declared.sources.Test.{Test}
use Rattle.sp_points_rules.specs.declared.sources.Test.TheVariants.{Aggregate}
use Rattle.sp_points_rules.specs.Leaves.{type_in}
use Rattle.sp_points_rules.specs.Sources.{is_of, typed_root, root_where, formal_in, formal_at, Calls}
use Rattle.sp_points_rules.specs.Puts.{struct_in, struct_read, as_struct, CallsBy}
use Rattle.sp_effect_entry.specs.Starts.{formals_in}
use Rattle.sp_effect_entry.proofs.Lists.{all_from}
use Rattle.sp_effect_call.specs.Passed.{formals_of}

some_same : {A : Type 0} {x y : A} → Some x ≡ Some y → x ≡ y
some_same e = cc

none-some : {A : Type 0} {x : A} → None ≡ Some x → ⊥
none-some e = cc

-- what holds of each member holds of all
member-there : (xs : List ℕ) (i x : ℕ) → slice_get xs i ≡ Some x → has x xs ≡ true
member-there [] i x e = absurd (none-some e)
member-there (y ∷ xs) zero x e = or_left (nat_eq x y) (has x xs) (ap (nat_eq x) (some_same e) ∙ eqb-refl x)
member-there (y ∷ xs) (suc i) x e = or_right (nat_eq x y) (has x xs) (member-there xs i x e)

pub each-member : (P : ℕ → Type 0) (xs : List ℕ) → ((x : ℕ) → has x xs ≡ true → P x) → All P xs
each-member P xs each = all_from P xs (λ i x e. each x (member-there xs i x e))

-- the root of an object whose type passes is found
pub root-found : (p : Lowered) (test : Test) (o : ℕ) (t : CType) → type_in (slice_get p.objects o) ≡ Some t → is_of test t ≡ true → root_where p test (Some o) ≡ Some ((terrain_of p).root o)
root-found p test o t is h = by (type_in (slice_get p.objects o)) is
  where
    taken : (x : CType) → x ≡ t → cond (is_of test x) (Some ((terrain_of p).root o)) None ≡ Some ((terrain_of p).root o)
    taken x e = ap (λ b. cond b (Some ((terrain_of p).root o)) None) (ap (is_of test) e ∙ h)

    by : (x : Option CType) → x ≡ Some t → typed_root p test o x ≡ Some ((terrain_of p).root o)
    by None e = absurd (none-some e)
    by (Some x) e = taken x (some_same e)

-- the object that has a type is there
pub typed-there : (p : Lowered) (o : ℕ) (t : CType) → type_in (slice_get p.objects o) ≡ Some t → (object : Object) × (slice_get p.objects o ≡ Some object) × (object.of ≡ Some t)
typed-there p o t h = by (slice_get p.objects o) refl h
  where
    by : (x : Option Object) → slice_get p.objects o ≡ x → type_in x ≡ Some t → (object : Object) × (slice_get p.objects o ≡ Some object) × (object.of ≡ Some t)
    by None e g = absurd (none-some g)
    by (Some x) e g = (x, e, g)

-- the formal at a place
pub formal-there : (p : Lowered) (f i o : ℕ) → slice_get (formals_of p f) i ≡ Some o → formal_at p f i ≡ Some o
formal-there p f i o h = by (slice_get p.functions f) h
  where
    by : (x : Option Code) → slice_get (formals_in x) i ≡ Some o → formal_in x i ≡ Some o
    by None e = absurd (none-some e)
    by (Some x) e = e

-- ---- structs

pub struct-in : (t : CType) (n : ℕ) → struct_in t ≡ Some n → t ≡ structure n
struct-in (structure k) n h = ap structure (some_same h)
struct-in void n h = absurd (none-some h)
struct-in (integer k) n h = absurd (none-some h)
struct-in (floating k) n h = absurd (none-some h)
struct-in (pointer t) n h = absurd (none-some h)
struct-in (array t k) n h = absurd (none-some h)
struct-in (function s) n h = absurd (none-some h)

pub of-struct : (n : ℕ) (t : CType) → is_of (Aggregate n) t ≡ true → t ≡ structure n
of-struct n (structure k) h = ap structure (sym (eqb-true n k h))
of-struct n void h = absurd (false≢true h)
of-struct n (integer k) h = absurd (false≢true h)
of-struct n (floating k) h = absurd (false≢true h)
of-struct n (pointer t) h = absurd (false≢true h)
of-struct n (array t k) h = absurd (false≢true h)
of-struct n (function s) h = absurd (false≢true h)

-- an argument that is a struct is read from an lvalue of its type
pub struct-argument : (e : Expression) (s : ℕ × Lvalue) → as_struct e ≡ Some s → (e ≡ read s.1) × (lvalue_type s.1 ≡ structure s.0)
struct-argument (read l) s h = by (struct_in (lvalue_type l)) refl h
  where
    by : (o : Option ℕ) → struct_in (lvalue_type l) ≡ o → struct_read o l ≡ Some s → (read l ≡ read s.1) × (lvalue_type s.1 ≡ structure s.0)
    by None is g = absurd (none-some g)
    by (Some n) is g =
        let same : (n, l) ≡ s = some_same g in
        let one : l ≡ s.1 = ap (λ (x : ℕ × Lvalue). x.1) same in
        let two : n ≡ s.0 = ap (λ (x : ℕ × Lvalue). x.0) same in
        (ap read one, ap lvalue_type (sym one) ∙ struct-in (lvalue_type l) n is ∙ ap structure two)
struct-argument (number z k) s h = absurd (none-some h)
struct-argument (address l) s h = absurd (none-some h)
struct-argument (decay l) s h = absurd (none-some h)
struct-argument (convert t e) s h = absurd (none-some h)
struct-argument (unary op k e) s h = absurd (none-some h)
struct-argument (binary op k e f at) s h = absurd (none-some h)
struct-argument (compare op e f) s h = absurd (none-some h)
struct-argument (move e f back size) s h = absurd (none-some h)
struct-argument (distance e f size) s h = absurd (none-some h)
