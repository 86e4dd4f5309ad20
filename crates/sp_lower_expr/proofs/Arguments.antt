-- Lists of operands, lowered from the front.
use Rattle.std.proofs.Common.{◌≡◌, ℕ, zero, suc, ◌+◌, ◌-◌, ◌≤◌, ◌<◌, Bool, true, false, ◌||◌, nat_lt, if◌then◌else◌, List, [], ◌∷◌, ◌++◌, map, length, get_or, drop, refl, ap, ◌∙◌, sym, arith, add-one, drop-cons, append_assoc, append-nil}
use Rattle.std.proofs.lemmas.List.{length-map, map-append}
use Rattle.std.specs.List.{list_any}
use Rattle.std.proofs.lemmas.Bool.Decides.{nat_tests}
use Rattle.sp_types.specs.Typed.{Typed}
use Rattle.sp_types.specs.TypedView.{typed_of, typed_list}
use Rattle.sp_types.specs.declared.typed.TypedExpr.{TypedExpr}
use Rattle.sp_ir.specs.Commands.{Expression}
use Rattle.sp_ir.specs.View.{expression_of}
use Rattle.sp_ir.specs.declared.expr.Expr.{Expr}
use Rattle.sp_lower_draft.specs.Context.{Context}
use Rattle.sp_lower_draft.specs.Draft.{Draft, Left, left, keep}
use Rattle.sp_lower_draft.specs.Adds.{adds}
use Rattle.sp_lower_draft.specs.Expressions.{Operand, operand, operands, trees, arguments, callee_and_arguments, value_of}
use Rattle.sp_lower_expr.specs.Size.{size, sizes}
use Rattle.sp_lower_expr.specs.Adding.{adding, adding_behind}

-- these values before the others
abbrev pub with_front : List Expression → Left (List Expression) → Left (List Expression)
with_front values others = left (values ++ others.pure) others.after

pub trees-operands : (c : Context) (ts : List Typed) → trees (operands c (typed_list ts)) ≡ ts
trees-operands c [] = refl
trees-operands c (t ∷ ts) = ap (λ us. t ∷ us) (trees-operands c ts)

counted : (b x : Bool) (n : ℕ) → x ≡ nat_lt 0 n → (b || x) ≡ nat_lt 0 (if b then suc n else n)
counted true x n h = grind (arith, nat_tests)
counted false x n h = h

-- one of them adds nodes where their count isn't 0
pub any-operands : (c : Context) (ts : List Typed) → list_any (λ (b : Operand). adds b.tree) (operands c (typed_list ts)) ≡ nat_lt 0 (adding ts)
any-operands c [] = refl
any-operands c (t ∷ ts) = counted (adds t) _ (adding ts) (any-operands c ts)

-- each is no larger than all
size-item : (ts : List Typed) (i : ℕ) (t : Typed) → i < length ts → size (get_or ts i t) ≤ sizes (typed_list ts)
size-item [] i t h = absurd (omega arith)
size-item (u ∷ us) zero t h = omega arith
size-item (u ∷ us) (suc i) t h = omega (arith, size-item us i t (omega arith))

-- what the code's list has at a place, as a tree
typed-at : (es : List TypedExpr) (i : ℕ) (e : TypedExpr) → get_or (map typed_of es) i (typed_of e) ≡ typed_of (get_or es i e)
typed-at [] i e = refl
typed-at (x ∷ xs) zero e = refl
typed-at (x ∷ xs) (suc i) e = typed-at xs i e

pub size-at : (es : List TypedExpr) (i : ℕ) (e : TypedExpr) → i < length es → e ≡ get_or es i e → size (typed_of e) ≤ sizes (typed_list (map typed_of es))
size-at es i e h at =
    let bound : size (get_or (map typed_of es) i (typed_of e)) ≤ sizes (typed_list (map typed_of es)) =
    size-item (map typed_of es) i (typed_of e) (omega (arith, length-map {A = TypedExpr} {B = Typed})) in
    let same : size (get_or (map typed_of es) i (typed_of e)) ≡ size (typed_of e) =
    ap size (typed-at es i e ∙ ap typed_of (sym at)) in
    omega arith

-- the rest of a list is its next item and what is behind it
pub rest-at : (es : List TypedExpr) (i : ℕ) (e : TypedExpr) → i < length es → e ≡ get_or es i e → map typed_of (drop i es) ≡ typed_of e ∷ map typed_of (drop (i + 1) es)
rest-at es i e h at =
    rw add-one (ap (map typed_of) (drop-cons es i e h) ∙ ap (λ x. typed_of x ∷ map typed_of (drop (suc i) es)) (sym at))

-- what a call gave, as one
pub given : {A : Type 0} (v : Left A) (s : Draft) (x : A) → s ≡ v.after → x ≡ v.pure → left x s ≡ v
given v s x e f = ap (λ t. left x t) e ∙ ap (λ y. left y v.after) f

-- an operand's value, kept where one of these adds nodes
kept : (c : Context) (t : Typed) (ts : List Typed) (s s1 : Draft) (v : Expression) (n : ℕ) → left v s1 ≡ value_of (operand c t) s → n ≡ adding ts
    → keep c (nat_lt 0 n) t v s1 ≡ keep c (list_any (λ (b : Operand). adds b.tree) (operands c (typed_list ts))) t (value_of (operand c t) s).pure (value_of (operand c t) s).after
kept c t ts s s1 v n value count =
    ap (λ m. keep c (nat_lt 0 m) t v s1) count
    ∙ ap (λ b. keep c b t v s1) (sym (any-operands c ts))
    ∙ ap (λ (w : Left Expression). keep c (list_any (λ (b : Operand). adds b.tree) (operands c (typed_list ts))) t w.pure w.after) value

-- one more argument
pub argument-step : (c : Context) (t : Typed) (ts : List Typed) (values : List Expression) (s s1 s2 : Draft) (v w : Expression) (n : ℕ)
    → left v s1 ≡ value_of (operand c t) s → n ≡ adding ts → left w s2 ≡ keep c (nat_lt 0 n) t v s1
    → with_front values (arguments c (operands c (typed_list (t ∷ ts))) s) ≡ with_front (values ++ w ∷ []) (arguments c (operands c (typed_list ts)) s2)
argument-step c t ts values s s1 s2 v w n value count keeping =
    let others : Left Expression → Left (List Expression) = λ (k : Left Expression). arguments c (operands c (typed_list ts)) k.after in
    let whole : Left Expression → Left (List Expression) = λ (k : Left Expression). left (values ++ (k.pure ∷ (others k).pure)) (others k).after in
    ap whole (sym (keeping ∙ kept c t ts s s1 v n value count))
    ∙ ap (λ xs. left xs (others (left w s2)).after) (sym (append_assoc values (w ∷ []) (others (left w s2)).pure))

-- no argument is left
pub arguments-end : (c : Context) (r : Left (List Expression)) (values : List Expression) (s : Draft) → r ≡ with_front values (arguments c (operands c (typed_list [])) s)
    → (s ≡ r.after) × (values ≡ r.pure)
arguments-end c r values s h = (sym (ap (λ (x : Left (List Expression)). x.after) h), sym (ap (λ (x : Left (List Expression)). x.pure) h ∙ append-nil values))

-- the callee, then the arguments
pub callee-given : (c : Context) (f : Typed) (ts : List Typed) (s s1 s2 s3 : Draft) (v w : Expression) (vs : List Expression) (n : ℕ)
    → left v s1 ≡ value_of (operand c f) s → n ≡ adding ts → left w s2 ≡ keep c (nat_lt 0 n) f v s1 → left vs s3 ≡ arguments c (operands c (typed_list ts)) s2
    → left (w, vs) s3 ≡ callee_and_arguments c (operand c f) (operands c (typed_list ts)) s
callee-given c f ts s s1 s2 s3 v w vs n value count keeping args =
    ap (λ (r : Left (List Expression)). left (w, r.pure) r.after) args
    ∙ ap (λ (k : Left Expression). left (k.pure, (arguments c (operands c (typed_list ts)) k.after).pure) (arguments c (operands c (typed_list ts)) k.after).after) (keeping ∙ kept c f ts s s1 v n value count)

behind : (t : Typed) (ts : List Typed) → adding_behind (adding (t ∷ ts)) t ≡ adding ts
behind t ts = elim (adds t) as (λ b. (if b then (if b then suc (adding ts) else adding ts) - 1 else (if b then suc (adding ts) else adding ts)) ≡ adding ts) [
  | true ↦ omega arith
  | false ↦ refl
]

-- a turn of the loop over arguments
pub argument-turn : (c : Context) (r : Left (List Expression)) (t : Typed) (rest ts : List Typed) (values all : List Expression) (s s1 s2 : Draft) (v w : Expression) (m n : ℕ)
    → rest ≡ t ∷ ts → r ≡ with_front values (arguments c (operands c (typed_list rest)) s) → m ≡ adding rest
    → left v s1 ≡ value_of (operand c t) s → n ≡ adding_behind m t → left w s2 ≡ keep c (nat_lt 0 n) t v s1 → all ≡ values ++ w ∷ []
    → (r ≡ with_front all (arguments c (operands c (typed_list ts)) s2)) × (n ≡ adding ts)
argument-turn c r t rest ts values all s s1 s2 v w m n next so_far many value fewer keeping pushed =
    let count : n ≡ adding ts = fewer ∙ ap (λ k. adding_behind k t) (many ∙ ap adding next) ∙ behind t ts in (
      so_far ∙ ap (λ us. with_front values (arguments c (operands c (typed_list us)) s)) next
          ∙ argument-step c t ts values s s1 s2 v w n value count keeping
          ∙ ap (λ xs. with_front xs (arguments c (operands c (typed_list ts)) s2)) (sym pushed),
      count,
    )

pub pushed-view : (xs ys : List Expr) (x : Expr) → ys ≡ xs ++ x ∷ [] → map expression_of ys ≡ map expression_of xs ++ expression_of x ∷ []
pushed-view xs ys x h = ap (map expression_of) h ∙ map-append expression_of xs (x ∷ [])
