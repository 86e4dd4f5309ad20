-- Lists of locations.
use Rattle.std.proofs.Common.{◌≡◌, ◌⊎◌, inl, inr, ℕ, ◌<◌, ◌≤◌, ◌^◌, Bool, true, false, nat_eq, ◌&&◌, ◌||◌, List, [], length, get_or, Some, None, refl, sym, ap, ◌∙◌, arith, eqb-true}
use Rattle.std.specs.List.{list_any}
use Rattle.std.proofs.lemmas.Bool.{false≢true, or_cases}
use Rattle.std.proofs.lemmas.List.{get_or_default, get_or_past}
use Rattle.sp_lattice.specs.System.{has, AllBelow}
use Rattle.sp_base_sets.specs.Sets.{Ascends}
use Rattle.sp_base_sets.proofs.Members.{below, has_there}
use Rattle.sp_ir.specs.Commands.{Command, start, entry, exit, skip, assign, copy, init, assume, eval, call, return, library, outside}
use Rattle.sp_effect_rows.specs.Setting.{cell_of, count}
use Rattle.sp_effect_scene.specs.Analysed.{Analysed, setting_of, locations_of}
use Rattle.sp_effect_scene.specs.Cells.{rising}
use Rattle.sp_effect_call.specs.Copies.{result_defines}
use Rattle.sp_effect_call.proofs.StoringSteps.{low-member}
use Rattle.sp_transfer.specs.Effects.{defined_by, used_by}
use Rattle.sp_transfer.specs.Equations.{AreLocations}
use Rattle.sp_effect_uses.specs.Parts.{Adds, reads_of, keeps_at, joins_at}
use Rattle.sp_effect_uses.proofs.Steps.{or-none, or-true, any-alike, eq-swap}
use Rattle.sp_effect_uses.proofs.Picked.{any-members, both-true, and-none}

or-swap : (a b : Bool) → (a || b) ≡ (b || a)
or-swap true true = refl
or-swap true false = refl
or-swap false true = refl
or-swap false false = refl

-- ---- regions and locations

pub region-low : (a : Analysed) (region l : ℕ) → region < 2 ^ 32 → nat_eq region (cell_of (setting_of a) l) ≡ true → l < count (setting_of a)
region-low a region l fits h = by (below l (count (setting_of a)))
  where
    by : (l < count (setting_of a)) ⊎ (count (setting_of a) ≤ l) → l < count (setting_of a)
    by (inl low) = low
    by (inr past) =
        let same : region ≡ cell_of (setting_of a) l = eqb-true region (cell_of (setting_of a) l) h in
        let gone : cell_of (setting_of a) l ≡ 2 ^ 32 = get_or_past (locations_of a.program) l (2 ^ 32) past in
        absurd (omega (arith, fits, same, gone))

pub located : (a : Analysed) (region location : ℕ) (old new : List ℕ) → ((l : ℕ) → nat_eq region (cell_of (setting_of a) l) ≡ nat_eq l location) → ((n : ℕ) → has n new ≡ (nat_eq n location || has n old))
    → Adds (λ l. nat_eq region (cell_of (setting_of a) l)) old new
located a region location old new at is l = is l ∙ or-swap (nat_eq l location) (has l old) ∙ ap (λ b. has l old || b) (sym (at l))

pub unlocated : (a : Analysed) (region : ℕ) (set : List ℕ) → ((l : ℕ) → nat_eq region (cell_of (setting_of a) l) ≡ false) → Adds (λ l. nat_eq region (cell_of (setting_of a) l)) set set
unlocated a region set none l = or-none (has l set) ∙ ap (λ b. has l set || b) (sym (none l))

pub low-more : (bound : ℕ) (test : ℕ → Bool) (old new : List ℕ) → ((k : ℕ) → has k old ≡ true → k < bound) → Adds test old new → ((k : ℕ) → test k ≡ true → k < bound) → (k : ℕ) → has k new ≡ true → k < bound
low-more bound test old new low adds more k h = by (or_cases (has k old) (test k) (sym (adds k) ∙ h))
  where
    by : (has k old ≡ true) ⊎ (test k ≡ true) → k < bound
    by (inl there) = low k there
    by (inr new) = more k new

pub none-low : (bound : ℕ) (set : List ℕ) → set ≡ [] → (k : ℕ) → has k set ≡ true → k < bound
none-low bound set none k h = absurd (false≢true (sym (ap (has k) none) ∙ h))

pub any-has : (r : ℕ) (xs : List ℕ) → list_any (λ x. nat_eq x r) xs ≡ has r xs
any-has r xs = any-alike (λ x. nat_eq x r) (nat_eq r) xs (λ x. eq-swap x r)

get-same : (xs : List ℕ) (i d e : ℕ) → i < length xs → get_or xs i d ≡ get_or xs i e
get-same xs i d e low = get_or_default xs i d e low

all-below : (bound : ℕ) (xs : List ℕ) → ((l : ℕ) → has l xs ≡ true → l < bound) → AllBelow bound xs
all-below bound xs low k d less = low (get_or xs k d) (has_there xs (get_or xs k d) k less (get-same xs k 0 d less))

pub are-locations : (a : Analysed) (test : ℕ → Bool) (places list : List ℕ) → list ≡ places → Ascends list → ((l : ℕ) → has l places ≡ test l) → ((l : ℕ) → has l places ≡ true → l < count (setting_of a)) → AreLocations a test list
are-locations a test places list is ascends are low = record {
  ascend = rising list ascends;
  below = all-below (count (setting_of a)) list (λ l h. low l (sym (ap (has l) is) ∙ h));
  are = λ l. ap (has l) is ∙ are l;
}

-- ---- uses

-- where nothing is joined
with-none : (r d : Bool) → (r || d) ≡ ((r || false) || d)
with-none r d = ap (λ b. b || d) (or-none r)

kept-read : (k r : Bool) → (k || r) ≡ ((r || false) || k)
kept-read k r = or-swap k r ∙ with-none r k

read-alone : (r d : Bool) → r ≡ ((r || false) || (d && false))
read-alone r d = or-none r ∙ ap (λ b. r || b) (sym (and-none d false refl)) ∙ with-none r (d && false)

and-true : (b : Bool) → b ≡ (b && true)
and-true true = refl
and-true false = refl

-- what is joined is kept, and of the rest that which may be
joined-alone : (w r : Bool) → (w || r) ≡ ((r || w) || ((w || false) && false))
joined-alone true r = sym (ap (λ b. b || false) (or-true r))
joined-alone false r = read-alone r false

joined-kept : (w d k r : Bool) → (w || ((d && k) || r)) ≡ ((r || w) || ((w || d) && k))
joined-kept true d k r = sym (ap (λ b. b || k) (or-true r))
joined-kept false d k r = kept-read (d && k) r

-- what is read, what is joined to, and of what is defined that which may be kept
pub used-parts : (a : Analysed) (n : ℕ) (c : Command) (l : ℕ) → used_by a n c l ≡ ((has (cell_of (setting_of a) l) (reads_of a n c) || joins_at a c l) || (defined_by a n c l && keeps_at a c l))
used-parts a n start l = read-alone (has (cell_of (setting_of a) l) (reads_of a n start)) (defined_by a n start l)
used-parts a n (entry f) l = sym (and-none (defined_by a n (entry f) l) false refl)
used-parts a n (exit f) l = refl
used-parts a n skip l = refl
used-parts a n (assign to e) l = kept-read (defined_by a n (assign to e) l && keeps_at a (assign to e) l) (has (cell_of (setting_of a) l) (reads_of a n (assign to e)))
used-parts a n (copy to from) l = kept-read (defined_by a n (copy to from) l && keeps_at a (copy to from) l) (has (cell_of (setting_of a) l) (reads_of a n (copy to from)))
used-parts a n (init o values zeros) l = kept-read (defined_by a n (init o values zeros) l && keeps_at a (init o values zeros) l) (has (cell_of (setting_of a) l) (reads_of a n (init o values zeros)))
used-parts a n (assume e op f) l = kept-read (defined_by a n (assume e op f) l) (has (cell_of (setting_of a) l) (reads_of a n (assume e op f))) ∙ ap (λ b. (has (cell_of (setting_of a) l) (reads_of a n (assume e op f)) || false) || b) (and-true (defined_by a n (assume e op f) l))
used-parts a n (eval e) l = read-alone (has (cell_of (setting_of a) l) (reads_of a n (eval e))) false
used-parts a n (call callee args) l = kept-read (defined_by a n (call callee args) l && keeps_at a (call callee args) l) (has (cell_of (setting_of a) l) (reads_of a n (call callee args)))
used-parts a n (return c None) l = read-alone (has (cell_of (setting_of a) l) (reads_of a n (return c None))) false
used-parts a n (return c (Some to)) l = kept-read (defined_by a n (return c (Some to)) l && keeps_at a (return c (Some to)) l) (has (cell_of (setting_of a) l) (reads_of a n (return c (Some to))))
used-parts a n (library which None args site) l = joined-alone (joins_at a (library which None args site) l) (has (cell_of (setting_of a) l) (reads_of a n (library which None args site)))
used-parts a n (library which (Some to) args site) l = joined-kept (joins_at a (library which (Some to) args site) l) (result_defines a (Some to) l) (keeps_at a (library which (Some to) args site) l) (has (cell_of (setting_of a) l) (reads_of a n (library which (Some to) args site)))
used-parts a n (outside None args site) l = read-alone (has (cell_of (setting_of a) l) (reads_of a n (outside None args site))) false
used-parts a n (outside (Some to) args site) l = kept-read (defined_by a n (outside (Some to) args site) l && keeps_at a (outside (Some to) args site) l) (has (cell_of (setting_of a) l) (reads_of a n (outside (Some to) args site)))

pub used-made : (a : Analysed) (n : ℕ) (c : Command) (defs old new : List ℕ) → AreLocations a (defined_by a n c) defs → ((l : ℕ) → has l old ≡ (has (cell_of (setting_of a) l) (reads_of a n c) || joins_at a c l))
    → Adds (λ l. list_any (λ x. keeps_at a c x && nat_eq l x) defs) old new → (l : ℕ) → has l new ≡ used_by a n c l
used-made a n c defs old new are read adds l =
    adds l
    ∙ ap (λ b. b || list_any (λ x. keeps_at a c x && nat_eq l x) defs) (read l)
    ∙ ap (λ b. (has (cell_of (setting_of a) l) (reads_of a n c) || joins_at a c l) || b) (any-members (keeps_at a c) l defs ∙ ap (λ b. b && keeps_at a c l) (are.are l))
    ∙ sym (used-parts a n c l)

pub used-low : (a : Analysed) (n : ℕ) (c : Command) (defs old new : List ℕ) → AreLocations a (defined_by a n c) defs → ((l : ℕ) → has l old ≡ true → l < count (setting_of a))
    → Adds (λ l. list_any (λ x. keeps_at a c x && nat_eq l x) defs) old new → (l : ℕ) → has l new ≡ true → l < count (setting_of a)
used-low a n c defs old new are low adds = low-more (count (setting_of a)) (λ l. list_any (λ x. keeps_at a c x && nat_eq l x) defs) old new low adds
    (λ l h. low-member (count (setting_of a)) defs l are.below (both-true (has l defs) (keeps_at a c l) (sym (any-members (keeps_at a c) l defs) ∙ h)).0)
