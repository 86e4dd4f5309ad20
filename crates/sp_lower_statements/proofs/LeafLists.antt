-- Start values, lowered from the front.
use Rattle.std.proofs.Common.{◌≡◌, ℕ, zero, suc, ◌+◌, ◌-◌, ◌<◌, Bool, true, false, ◌||◌, nat_lt, if◌then◌else◌, List, [], ◌∷◌, ◌++◌, map, length, get_or, drop, refl, ap, ◌∙◌, sym, arith, add-one, drop-cons, append_assoc, append-nil}
use Rattle.std.proofs.lemmas.List.{map-append}
use Rattle.std.proofs.lemmas.Bool.Decides.{nat_tests}
use Rattle.std.proofs.Math.Seq.{drop-nil}
use Rattle.sp_types.specs.Typed.{Typed}
use Rattle.sp_types.specs.TypedView.{typed_of}
use Rattle.sp_types.specs.declared.typed.TypedExpr.{TypedExpr}
use Rattle.sp_ir.specs.Commands.{Expression, Leaf}
use Rattle.sp_ir.specs.View.{leaf_of}
use Rattle.sp_ir.specs.declared.command.Leaf.{Leaf as CodeLeaf}
use Rattle.sp_lower_draft.specs.Context.{Context}
use Rattle.sp_lower_draft.specs.Draft.{Draft, Left, left, keep}
use Rattle.sp_lower_draft.specs.Adds.{adds}
use Rattle.sp_lower_draft.specs.Expressions.{operand, value_of}
use Rattle.sp_lower_body.specs.Declarations.{first_cell, cells_behind, any_start_adds, leaves}
use Rattle.sp_lower_statements.specs.Starts.{starts_of, adding_starts, adding_behind}

-- these values before the others
abbrev pub with_leaves : List Leaf → Left (List Leaf) → Left (List Leaf)
with_leaves values others = left (values ++ others.pure) others.after

counted : (b x : Bool) (n : ℕ) → x ≡ nat_lt 0 n → (b || x) ≡ nat_lt 0 (if b then suc n else n)
counted true x n h = grind (arith, nat_tests)
counted false x n h = h

-- one of them adds nodes where their count isn't 0
any-starts : (es : List (ℕ × Typed)) → any_start_adds es ≡ nat_lt 0 (adding_starts es)
any-starts [] = refl
any-starts (e ∷ es) = counted (adds e.1) _ (adding_starts es) (any-starts es)

behind : (e : ℕ × Typed) (es : List (ℕ × Typed)) → adding_behind (adding_starts (e ∷ es)) e.1 ≡ adding_starts es
behind e es = elim (adds e.1) as (λ b. (if b then (if b then suc (adding_starts es) else adding_starts es) - 1 else (if b then suc (adding_starts es) else adding_starts es)) ≡ adding_starts es) [
  | true ↦ omega arith
  | false ↦ refl
]

cells-next : (cells : List ℕ) (i : ℕ) → cells_behind (drop i cells) ≡ drop (suc i) cells
cells-next [] i = rw (drop-nil, drop-nil) refl
cells-next (c ∷ cs) zero = refl
cells-next (c ∷ cs) (suc i) = cells-next cs i

-- the rest of a list is its next item and what is behind it
pub starts-rest : (es : List (ℕ × TypedExpr)) (i : ℕ) (e : ℕ × TypedExpr) → i < length es → e ≡ get_or es i e → starts_of (drop i es) ≡ (e.0, typed_of e.1) ∷ starts_of (drop (i + 1) es)
starts-rest es i e h at =
    rw add-one (ap starts_of (drop-cons es i e h) ∙ ap (λ (x : ℕ × TypedExpr). (x.0, typed_of x.1) ∷ starts_of (drop (suc i) es)) (sym at))

kept : (c : Context) (t : Typed) (es : List (ℕ × Typed)) (s s1 : Draft) (v : Expression) (n : ℕ) → left v s1 ≡ value_of (operand c t) s → n ≡ adding_starts es
    → keep c (nat_lt 0 n) t v s1 ≡ keep c (any_start_adds es) t (value_of (operand c t) s).pure (value_of (operand c t) s).after
kept c t es s s1 v n value count =
    ap (λ m. keep c (nat_lt 0 m) t v s1) count
    ∙ ap (λ b. keep c b t v s1) (sym (any-starts es))
    ∙ ap (λ (w : Left Expression). keep c (any_start_adds es) t w.pure w.after) value

abbrev leaf : ℕ → ℕ → Expression → Leaf
leaf n cell v = record { number = n; cell = cell; value = v }

-- one more value
step : (c : Context) (cells : List ℕ) (e : ℕ × Typed) (es : List (ℕ × Typed)) (values : List Leaf) (s s1 s2 : Draft) (v w : Expression) (n : ℕ)
    → left v s1 ≡ value_of (operand c e.1) s → n ≡ adding_starts es → left w s2 ≡ keep c (nat_lt 0 n) e.1 v s1
    → with_leaves values (leaves c cells (e ∷ es) s) ≡ with_leaves (values ++ leaf e.0 (first_cell cells) w ∷ []) (leaves c (cells_behind cells) es s2)
step c cells e es values s s1 s2 v w n value count keeping =
    let others : Left Expression → Left (List Leaf) = λ (k : Left Expression). leaves c (cells_behind cells) es k.after in
    let whole : Left Expression → Left (List Leaf) = λ (k : Left Expression). left (values ++ (leaf e.0 (first_cell cells) k.pure ∷ (others k).pure)) (others k).after in
    ap whole (sym (keeping ∙ kept c e.1 es s s1 v n value count))
    ∙ ap (λ xs. left xs (others (left w s2)).after) (sym (append_assoc values (leaf e.0 (first_cell cells) w ∷ []) (others (left w s2)).pure))

-- a turn of the loop over start values
pub leaf-turn : (c : Context) (r : Left (List Leaf)) (cells : List ℕ) (i cell : ℕ) (e : ℕ × Typed) (rest es : List (ℕ × Typed)) (values all : List Leaf) (s s1 s2 : Draft) (v w : Expression) (m n : ℕ)
    → rest ≡ e ∷ es → r ≡ with_leaves values (leaves c (drop i cells) rest s) → m ≡ adding_starts rest
    → left v s1 ≡ value_of (operand c e.1) s → n ≡ adding_behind m e.1 → left w s2 ≡ keep c (nat_lt 0 n) e.1 v s1
    → cell ≡ first_cell (drop i cells) → all ≡ values ++ leaf e.0 cell w ∷ []
    → (r ≡ with_leaves all (leaves c (drop (i + 1) cells) es s2)) × (n ≡ adding_starts es)
leaf-turn c r cells i cell e rest es values all s s1 s2 v w m n next so_far many value fewer keeping stands pushed =
    let count : n ≡ adding_starts es = fewer ∙ ap (λ k. adding_behind k e.1) (many ∙ ap adding_starts next) ∙ behind e es in (
      so_far ∙ ap (λ us. with_leaves values (leaves c (drop i cells) us s)) next
          ∙ step c (drop i cells) e es values s s1 s2 v w n value count keeping
          ∙ ap (λ k. with_leaves (values ++ leaf e.0 k w ∷ []) (leaves c (cells_behind (drop i cells)) es s2)) (sym stands)
          ∙ ap (λ xs. with_leaves xs (leaves c (cells_behind (drop i cells)) es s2)) (sym pushed)
          ∙ ap (λ cs. with_leaves all (leaves c cs es s2)) (rw add-one (cells-next cells i)),
      count,
    )

-- no value is left
pub leaves-end : (c : Context) (r : Left (List Leaf)) (cells : List ℕ) (values : List Leaf) (s : Draft) → r ≡ with_leaves values (leaves c cells [] s)
    → (s ≡ r.after) × (values ≡ r.pure)
leaves-end c r cells values s h = (sym (ap (λ (x : Left (List Leaf)). x.after) h), sym (ap (λ (x : Left (List Leaf)). x.pure) h ∙ append-nil values))

pub pushed-leaf : (xs ys : List CodeLeaf) (x : CodeLeaf) → ys ≡ xs ++ x ∷ [] → map leaf_of ys ≡ map leaf_of xs ++ leaf_of x ∷ []
pushed-leaf xs ys x h = ap (map leaf_of) h ∙ map-append leaf_of xs (x ∷ [])

-- what a call gave, as one
pub given : {A : Type 0} (v : Left A) (s : Draft) (x : A) → s ≡ v.after → x ≡ v.pure → left x s ≡ v
given v s x e f = ap (λ t. left x t) e ∙ ap (λ y. left y v.after) f
