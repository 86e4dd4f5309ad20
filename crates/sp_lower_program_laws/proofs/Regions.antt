-- Each object has its regions.
use Rattle.std.proofs.Common.{◌≡◌, ◌≢◌, ℕ, zero, suc, ◌+◌, ◌≤◌, ◌==◌, Bool, true, false, if◌then◌else◌, List, [], ◌∷◌, ◌++◌, Option, Some, None, refl, ap, sym, ◌∙◌, subst, arith}
use Rattle.std.proofs.lemmas.Bool.Decides.{nat_tests}
use Rattle.sp_types.specs.Types.{CType, function, Struct}
use Rattle.sp_types.specs.Layout.{layout}
use Rattle.sp_types.specs.Structs.{IsTable}
use Rattle.sp_types.specs.declared.extents.Extent.{Extent}
use Rattle.sp_ir.specs.declared.program.ObjectKind.{ObjectKind}
use Rattle.sp_ir.specs.declared.program.ObjectKind.TheVariants.{Static, Outside, Text, Auto, Formal, Temp, Result, Function, Heap, Foreign}
use Rattle.sp_ir.specs.Programs.{Object}
use Rattle.sp_ir.specs.Regions.{Region}
use Rattle.sp_ir.specs.Shapes.{region, regions}
use Rattle.sp_ir.specs.Formed.{Table, root_count, HasRegions, of_function, of_no_type, of_no_layout, of_shape, HaveRegions, no_regions, next_regions}
use Rattle.sp_ir.specs.Terrain.{size_in, size_of}
use Rattle.sp_base_layouts.specs.Layouts.{layout_of}
use Rattle.sp_base_layout_laws.specs.Laws.{HaveMembers}
use Rattle.sp_base_layout_laws.proofs.Shaped.{is-shaped}
use Rattle.sp_lower_program_laws.specs.Laws.{HasFunctionType, HaveFunctionTypes}
use Rattle.sp_lower_objects.specs.Regions.{is_function, typed_regions, object_regions, all_regions}

size-some : (o : Option Extent) (m : ℕ) → size_in o ≡ suc m → (e : Extent) × (o ≡ Some e)
size-some None m h = absurd (omega arith)
size-some (Some e) m h = (e, refl)

pub false-true : {P : Type 0} → false ≡ true → P
false-true h = cc

function-kind : (kind : ObjectKind) → is_function kind ≡ true → (k : ℕ) × (kind ≡ Function k)
function-kind (Function k) h = (k, refl)
function-kind Static h = false-true h
function-kind Outside h = false-true h
function-kind Text h = false-true h
function-kind Auto h = false-true h
function-kind Formal h = false-true h
function-kind Temp h = false-true h
function-kind Result h = false-true h
function-kind (Heap n) h = false-true h
function-kind (Foreign n) h = false-true h

no-function : (kind : ObjectKind) → is_function kind ≡ false → (k : ℕ) → kind ≢ Function k
no-function kind h k e = false-true (sym h ∙ ap is_function e)

zero-is : (n : ℕ) → (n == 0) ≡ true → n ≡ 0
zero-is n h = grind (arith, nat_tests)

zero-not : (n : ℕ) → (n == 0) ≡ false → 1 ≤ n
zero-not n h = grind (arith, nat_tests)

not-zero : (n : ℕ) → 1 ≤ n → (m : ℕ) × (n ≡ suc m)
not-zero zero h = absurd (omega arith)
not-zero (suc m) h = (m, refl)

typed-has : (p : Table) → IsTable p.structs → HaveMembers p.structs → (n : ℕ) (o : Object) (t : CType) → is_function o.kind ≡ false → o.of ≡ Some t
    → (z : Bool) → (size_of p.structs t == 0) ≡ z
    → HasRegions p n o (if z then region n [] None 1 (Some 0) ∷ [] else regions n [] (root_count o.kind) (layout_of p.structs t))
typed-has p table some n o t kind there true e = of_no_layout (no-function o.kind kind) there (zero-is (size_of p.structs t) e)
typed-has p table some n o t kind there false e =
    let big : 1 ≤ size_of p.structs t = zero-not (size_of p.structs t) e in
    let behind = not-zero (size_of p.structs t) big in
    let sized = size-some (layout p.structs t) behind.0 behind.1 in
    of_shape (no-function o.kind kind) there big (is-shaped p.structs t table some sized.0 sized.1)

kind-has : (p : Table) → IsTable p.structs → HaveMembers p.structs → (n : ℕ) (o : Object) (t : CType) → HasFunctionType o → o.of ≡ Some t → (f : Bool) → is_function o.kind ≡ f
    → HasRegions p n o (if f then region n [] (Some t) 1 (Some 1) ∷ [] else typed_regions p.structs n (root_count o.kind) t)
kind-has p table some n o t typed there true f =
    let signed = typed t f there in
    let P : CType → Type 0 = λ u. HasRegions p n o (region n [] (Some u) 1 (Some 1) ∷ []) in
    subst P (sym signed.1) (of_function (function-kind o.kind f).1 (there ∙ ap Some signed.1))
kind-has p table some n o t typed there false f = typed-has p table some n o t f there (size_of p.structs t == 0) refl

object-has : (p : Table) → IsTable p.structs → HaveMembers p.structs → (n : ℕ) (o : Object) → HasFunctionType o → (of : Option CType) → o.of ≡ of
    → HasRegions p n o (object_regions p.structs n o.kind of)
object-has p table some n o typed None e = of_no_type e
object-has p table some n o typed (Some t) e = kind-has p table some n o t typed e (is_function o.kind) refl

pub all-have : (p : Table) → IsTable p.structs → HaveMembers p.structs → (n : ℕ) (os : List Object) → HaveFunctionTypes os → HaveRegions p n os (all_regions p.structs n os)
all-have p table some n [] typed = no_regions
all-have p table some n (o ∷ os) typed =
    next_regions (object-has p table some n o (typed 0 o refl) o.of refl) (all-have p table some (n + 1) os (λ k x there. typed (suc k) x there))
