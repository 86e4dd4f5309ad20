-- Puts of commands, from those of their parts.
use Rattle.std.proofs.Common.{◌≡◌, ℕ, zero, suc, ◌<◌, Bool, true, List, [], ◌∷◌, map, length, get_or, Some, refl, sym, ap, ◌∙◌, subst, arith}
use Rattle.std.specs.Prelude.{slice_get}
use Rattle.sp_ir.specs.declared.program.ObjectKind.{ObjectKind}
use Rattle.sp_ir.specs.Commands.{Leaf, Expression}
use Rattle.sp_ir.specs.Programs.{Lowered, Object, Code}
use Rattle.sp_points_expr.specs.Tables.{Table}
use Rattle.sp_points_rules.specs.Sources.{region, regions}
use Rattle.sp_points_rules.specs.Puts.{all_of, Product, PutsLeaf, PutsStart, PutsForeign, is_foreign, PassesAs, Passes, as_struct}
use Rattle.sp_points_rules.specs.Foreign.{PutsForeignTo, PutsForeignAt}
use Rattle.sp_points_rules.specs.Gathered.{Adds}
use Rattle.sp_points_rules.specs.declared.gathered.Gathered.{Gathered}
use Rattle.sp_points_rules.proofs.Finding.{adds_as}

pub mapped_at : {A B : Type 0} (f : A → B) (xs : List A) (i : ℕ) (x : A) → i < length xs → x ≡ get_or xs i x → slice_get (map f xs) i ≡ Some (f x)
mapped_at f [] i x low is = absurd (omega arith)
mapped_at f (y ∷ ys) zero x low is = ap (λ z. Some (f z)) (sym is)
mapped_at f (y ∷ ys) (suc i) x low is = mapped_at f ys i x (omega arith) is

pub there_low : {A : Type 0} (xs : List A) (i : ℕ) (x : A) → slice_get xs i ≡ Some x → i < length xs
there_low [] i x h = cc
there_low (y ∷ ys) zero x h = omega arith
there_low (y ∷ ys) (suc i) x h = omega (arith, there_low ys i x h)

pub some_same : {A : Type 0} {a b : A} → Some a ≡ Some b → a ≡ b
some_same h = cc

number_there : (xs : List ℕ) (i x : ℕ) → slice_get xs i ≡ Some x → get_or xs i 0 ≡ x
number_there [] i x h = cc
number_there (y ∷ ys) zero x h = some_same h
number_there (y ∷ ys) (suc i) x h = number_there ys i x h

there_number : (xs : List ℕ) (i : ℕ) → i < length xs → slice_get xs i ≡ Some (get_or xs i 0)
there_number [] i low = absurd (omega arith)
there_number (y ∷ ys) zero low = refl
there_number (y ∷ ys) (suc i) low = there_number ys i (omega arith)

-- ---- loops over lists: what is put at the place k

abbrev pub LeafAt : Lowered → Table → List Leaf → ℕ → ℕ → ℕ → Type 0
LeafAt p u leaves k c r = (leaf : Leaf) × (slice_get leaves k ≡ Some leaf) × Product p u (all_of (region leaf.cell)) (all_of (regions leaf.value)) c r

abbrev pub StartAt : Lowered → Table → ℕ → ℕ → ℕ → Type 0
StartAt p u k c r = (o : Object) × (slice_get p.objects k ≡ Some o) × PutsLeaf p u o.start c r

abbrev pub ForeignAt : Lowered → Table → ℕ → ℕ → ℕ → Type 0
ForeignAt p u k c r = (o : Object) × (slice_get p.objects k ≡ Some o) × PutsForeignAt p u k o.kind c r

abbrev pub PassAt : Lowered → Table → Expression → List Expression → ℕ → ℕ → ℕ → Type 0
PassAt p u callee args k c r = (arg : Expression) × (slice_get args k ≡ Some arg) × PassesAs p u callee (length args) k (as_struct arg) arg c r

module _ (rows : List (List ℕ)) (a b : Gathered) where
  -- the one at a place
  pub item_adds : {A : Type 0} (xs : List A) (k : ℕ) (x : A) (F : A → Table → ℕ → ℕ → Type 0) → slice_get xs k ≡ Some x → Adds rows (F x) a b → Adds rows (λ u c r. (y : A) × (slice_get xs k ≡ Some y) × F y u c r) a b
  item_adds xs k x F is adds = adds_as rows (F x) (λ u c r. (y : _) × (slice_get xs k ≡ Some y) × F y u c r) a b adds
      (λ u c r f. (x, is, f))
      (λ u c r (y, there, f). subst (λ z. F z u c r) (some_same (sym there ∙ is)) f)

  pub leaves_adds : (p : Lowered) (leaves : List Leaf) (n : ℕ) → n ≡ length leaves → Adds rows (λ u c r. (k : ℕ) × (k < n) × LeafAt p u leaves k c r) a b → Adds rows (λ u c r. PutsLeaf p u leaves c r) a b
  leaves_adds p leaves n is adds = adds_as rows (λ u c r. (k : ℕ) × (k < n) × LeafAt p u leaves k c r) (λ u c r. PutsLeaf p u leaves c r) a b adds
      (λ u c r (k, low, (leaf, there, put)). record { place = k; leaf = leaf; there = there; puts = put })
      (λ u c r h. (h.place, omega (arith, there_low leaves h.place h.leaf h.there, is), (h.leaf, h.there, h.puts)))

  pub start_adds : (p : Lowered) (n : ℕ) → n ≡ length p.objects → Adds rows (λ u c r. (k : ℕ) × (k < n) × StartAt p u k c r) a b → Adds rows (λ u c r. PutsStart p u c r) a b
  start_adds p n is adds = adds_as rows (λ u c r. (k : ℕ) × (k < n) × StartAt p u k c r) (λ u c r. PutsStart p u c r) a b adds
      (λ u c r (k, low, (o, there, put)). record { number = k; object = o; there = there; puts = put })
      (λ u c r h. (h.number, omega (arith, there_low p.objects h.number h.object h.there, is), (h.object, h.there, h.puts)))

  pub foreign_adds : (p : Lowered) (n : ℕ) → n ≡ length p.objects → Adds rows (λ u c r. (k : ℕ) × (k < n) × ForeignAt p u k c r) a b → Adds rows (λ u c r. PutsForeign p u c r) a b
  foreign_adds p n is adds = adds_as rows (λ u c r. (k : ℕ) × (k < n) × ForeignAt p u k c r) (λ u c r. PutsForeign p u c r) a b adds
      (λ u c r (k, low, (o, there, h)). record { number = k; object = o; there = there; foreign = h.foreign; place = h.place; formal = h.formal; code = h.code; main = h.main; at = h.at; puts = h.puts })
      (λ u c r h. (h.number, omega (arith, there_low p.objects h.number h.object h.there, is), (h.object, h.there, record { foreign = h.foreign; place = h.place; formal = h.formal; code = h.code; main = h.main; at = h.at; puts = h.puts })))

  pub foreign_at_adds : (p : Lowered) (number : ℕ) (kind : ObjectKind) (code : Code) → is_foreign kind 0 ≡ true → slice_get p.functions p.main ≡ Some code → Adds rows (λ u c r. (k : ℕ) × (k < length code.formals) × PutsForeignTo p u number (get_or code.formals k 0) c r) a b → Adds rows (λ u c r. PutsForeignAt p u number kind c r) a b
  foreign_at_adds p number kind code foreign main adds = adds_as rows (λ u c r. (k : ℕ) × (k < length code.formals) × PutsForeignTo p u number (get_or code.formals k 0) c r) (λ u c r. PutsForeignAt p u number kind c r) a b adds
      (λ u c r (k, low, put). record { foreign = foreign; place = k; formal = get_or code.formals k 0; code = code; main = main; at = there_number code.formals k low; puts = put })
      (λ u c r h. let at = subst (λ d. slice_get d.formals h.place ≡ Some h.formal) (some_same (sym h.main ∙ main)) h.at in
      (h.place, there_low code.formals h.place h.formal at, subst (λ f. PutsForeignTo p u number f c r) (sym (number_there code.formals h.place h.formal at)) h.puts))

  pub passes_adds : (p : Lowered) (callee : Expression) (args : List Expression) (n : ℕ) → n ≡ length args → Adds rows (λ u c r. (k : ℕ) × (k < n) × PassAt p u callee args k c r) a b → Adds rows (λ u c r. Passes p u callee args c r) a b
  passes_adds p callee args n is adds = adds_as rows (λ u c r. (k : ℕ) × (k < n) × PassAt p u callee args k c r) (λ u c r. Passes p u callee args c r) a b adds
      (λ u c r (k, low, (arg, there, put)). record { place = k; arg = arg; there = there; puts = put })
      (λ u c r h. (h.place, omega (arith, there_low args h.place h.arg h.there, is), (h.arg, h.there, h.puts)))

  pub kept_adds : (B : Bool) (F : Table → ℕ → ℕ → Type 0) → B ≡ true → Adds rows F a b → Adds rows (λ u c r. (B ≡ true) × F u c r) a b
  kept_adds B F is adds = adds_as rows F (λ u c r. (B ≡ true) × F u c r) a b adds (λ u c r f. (is, f)) (λ u c r (e, f). f)
