-- The functions that a node calls are there, and lists that are made one after the other.
use Rattle.std.proofs.Common.{◌≡◌, ◌↔◌, ◌∙◌, ◌<◌, ◌+◌, ◌++◌, ℕ, zero, suc, eqb, true, false, List, [], ◌∷◌, length, cond, Bool, Option, Some, None, inl, inr, ◌⊎◌, ◌≢◌, ◌≤◌, map, get_or, refl, sym, ap, subst, arith}
use Rattle.std.specs.Prelude.{slice_get}
use Rattle.std.proofs.lemmas.Bool.{false≢true}
use Rattle.sp_ir.specs.Commands.{Expression}
use Rattle.sp_ir.specs.Programs.{Lowered, Code}
use Rattle.sp_ir.specs.Functions.{function_at, taking, with_formals, code_at}
use Rattle.sp_base_sets.specs.Sets.{has}
use Rattle.sp_base_sets.specs.Reached.{row}
use Rattle.sp_base_sets.proofs.Members.{which}
use Rattle.sp_points_expr.specs.Tables.{Table}
use Rattle.sp_graph.specs.Calls.{AreCallees}
use Rattle.sp_points_rules.specs.Puts.{CallsBy, as_call, command_at, command_in}
use Rattle.sp_pre.specs.PointsTo.{AreCalls}

some_same : {x y : ℕ} → Some x ≡ Some y → x ≡ y
some_same h = cc

there_low : {A : Type 0} (xs : List A) (n : ℕ) (x : A) → slice_get xs n ≡ Some x → n < length xs
there_low [] n x h = absurd (cc)
there_low (y ∷ xs) zero x h = omega arith
there_low (y ∷ xs) (suc n) x h = omega (arith, there_low xs n x h)

function_low : (p : Lowered) (r count f : ℕ) → function_at p r count ≡ Some f → f < length p.functions
function_low p r count f h = by (code_at p (slice_get p.regions r)) h
  where
    tested : (g : ℕ) (c : Code) (b : Bool) → slice_get p.functions g ≡ Some c → cond b (Some g) None ≡ Some f → f < length p.functions
    tested g c true e k = subst (λ x. x < length p.functions) (some_same k) (there_low p.functions g c e)
    tested g c false e k = absurd (cc)

    formals : (g : ℕ) (o : Option Code) → slice_get p.functions g ≡ o → with_formals g count o ≡ Some f → f < length p.functions
    formals g None e k = absurd (cc)
    formals g (Some c) e k = tested g c (eqb (length c.formals) count) e k

    by : (o : Option ℕ) → taking p count o ≡ Some f → f < length p.functions
    by None k = absurd (cc)
    by (Some g) k = formals g (slice_get p.functions g) refl k

calls_low : (p : Lowered) (u : Table) (x : Option (Expression × ℕ)) (f : ℕ) → CallsBy p u x f → f < length p.functions
calls_low p u None f h = absurd h
calls_low p u (Some x) f (r, there, is) = function_low p r x.1 f is

pub are_callees : (p : Lowered) (u : Table) (calls : List (List ℕ)) → AreCalls p u calls → AreCallees p calls
are_callees p u calls are = record {
  long = are.long;
  low = λ n f h. calls_low p u (as_call (command_at p n)) f ((are.exact n f).0 h);
}

row_pushed : (lists : List (List ℕ)) (x : List ℕ) (n : ℕ) → n < length lists → row (lists ++ x ∷ []) n ≡ row lists n
row_pushed [] x n low = absurd (omega (arith, low))
row_pushed (y ∷ lists) x zero low = refl
row_pushed (y ∷ lists) x (suc n) low = row_pushed lists x n (omega (arith, low))

row_last : (lists : List (List ℕ)) (x : List ℕ) → row (lists ++ x ∷ []) (length lists) ≡ x
row_last [] x = refl
row_last (y ∷ lists) x = row_last lists x

abbrev pub ExactAt : Lowered → Table → ℕ → List ℕ → Type 0
ExactAt p u n set = (f : ℕ) → (has f set ≡ true) ↔ CallsBy p u (as_call (command_at p n)) f

pub pushed : (P : ℕ → List ℕ → Type 0) (lists : List (List ℕ)) (x : List ℕ) (count : ℕ) → length lists ≡ count → ((n : ℕ) → n < count → P n (row lists n)) → P count x → (n : ℕ) → n < count + 1 → P n (row (lists ++ x ∷ []) n)
pushed P lists x count long before new n low = by (which n (length lists))
  where
    by : (n ≡ length lists) ⊎ (n ≢ length lists) → P n (row (lists ++ x ∷ []) n)
    by (inl e) = subst (λ m. P m (row (lists ++ x ∷ []) m)) (sym e) (subst (λ s. P (length lists) s) (sym (row_last lists x)) (subst (λ m. P m x) (sym long) new))
    by (inr apart) = let less : n < length lists = below n (length lists) apart (omega (arith, low, long)) in
        subst (λ s. P n s) (sym (row_pushed lists x n less)) (before n (omega (arith, less, long)))
      where
        below : (k m : ℕ) → k ≢ m → k < m + 1 → k < m
        below k m apart low = omega (arith, apart, low)

-- a node that is there, and one that isn't
pub mapped_at : {A B : Type 0} (f : A → B) (xs : List A) (i : ℕ) (x : A) → i < length xs → x ≡ get_or xs i x → slice_get (map f xs) i ≡ Some (f x)
mapped_at f [] i x low is = absurd (omega (arith, low))
mapped_at f (y ∷ ys) zero x low is = ap (λ z. Some (f z)) (sym is)
mapped_at f (y ∷ ys) (suc i) x low is = mapped_at f ys i x (omega (arith, low)) is

pub mapped_past : {A B : Type 0} (f : A → B) (xs : List A) (i : ℕ) → length xs ≤ i → slice_get (map f xs) i ≡ None
mapped_past f [] i past = refl
mapped_past f (y ∷ ys) zero past = absurd (omega (arith, past))
mapped_past f (y ∷ ys) (suc i) past = mapped_past f ys i (omega (arith, past))

row_past : (lists : List (List ℕ)) (n : ℕ) → (n < length lists → ⊥) → row lists n ≡ []
row_past [] n past = refl
row_past (y ∷ lists) zero past = absurd (past (omega arith))
row_past (y ∷ lists) (suc n) past = row_past lists n (λ low. past (omega (arith, low)))

get_past : {A : Type 0} (xs : List A) (n : ℕ) → (n < length xs → ⊥) → slice_get xs n ≡ None
get_past [] n past = refl
get_past (y ∷ xs) zero past = absurd (past (omega arith))
get_past (y ∷ xs) (suc n) past = get_past xs n (λ low. past (omega (arith, low)))

decide : (n m : ℕ) → (n < m) ⊎ (n < m → ⊥)
decide zero zero = inr (λ h. omega (arith, h))
decide zero (suc m) = inl (omega arith)
decide (suc n) zero = inr (λ h. omega (arith, h))
decide (suc n) (suc m) = step (decide n m)
  where
    step : (n < m) ⊎ (n < m → ⊥) → (suc n < suc m) ⊎ (suc n < suc m → ⊥)
    step (inl h) = inl (omega (arith, h))
    step (inr h) = inr (λ k. h (omega (arith, k)))

pub all_calls : (p : Lowered) (u : Table) (lists : List (List ℕ)) → length lists ≡ length p.nodes → ((n : ℕ) → n < length p.nodes → ExactAt p u n (row lists n)) → AreCalls p u lists
all_calls p u lists long exact = record { long = long; exact = λ n f. by n f (decide n (length p.nodes)) }
  where
    by : (n f : ℕ) → (n < length p.nodes) ⊎ (n < length p.nodes → ⊥) → (has f (row lists n) ≡ true) ↔ CallsBy p u (as_call (command_at p n)) f
    by n f (inl low) = exact n low f
    by n f (inr past) = (
      λ h. absurd (false≢true (sym (ap (λ xs. has f xs) (row_past lists n (λ low. past (omega (arith, low, long))))) ∙ h)),
      λ h. absurd (subst (λ o. CallsBy p u (as_call (command_in o)) f) (get_past p.nodes n past) h),
    )
