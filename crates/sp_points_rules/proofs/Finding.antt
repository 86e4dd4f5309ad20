-- Sets that are found, and puts that are added.
use Rattle.std.proofs.Common.{◌≡◌, ◌≢◌, ◌⊎◌, inl, inr, ℕ, ◌+◌, ◌<◌, true, ◌||◌, eqb, eqb-true, List, [], ◌∷◌, ◌++◌, refl, sym, ap, ◌∙◌, subst, arith}
use Rattle.sp_base_sets.specs.Sets.{has, Includes, Images}
use Rattle.sp_base_sets.specs.Reached.{row}
use Rattle.sp_base_sets.proofs.Members.{which}
use Rattle.sp_base_sets.proofs.Images.{or-cases, or-left, or-right}
use Rattle.sp_points_expr.specs.Tables.{Table, Limited}
use Rattle.sp_points_expr.specs.Growing.{in_put, in_puts}
use Rattle.sp_points_expr.specs.declared.growing.Put.{Put}
use Rattle.sp_points_expr.proofs.Adding.{parts, both, puts_pushed}
use Rattle.sp_ir.specs.Programs.{Lowered}
use Rattle.sp_base_sets.proofs.Members.{eqb-refl}
use Rattle.sp_points_rules.specs.declared.sources.Only.{Only}
use Rattle.sp_points_rules.specs.Sources.{InSource, region, narrows}
use Rattle.sp_points_rules.specs.Puts.{all_of, only_of}
use Rattle.sp_points_rules.specs.Gathered.{Finds, Adds}
use Rattle.sp_points_rules.specs.declared.gathered.Gathered.{Gathered}

-- ---- sets

pub finds_images : (rows : List (List ℕ)) (F : Table → ℕ → Type 0) (G : ℕ → ℕ → Type 0) (seen set images : List ℕ) → Finds rows F seen set → Images G set images → Finds rows (λ u r. (x : ℕ) × F u x × G x r) seen images
finds_images rows F G seen set images finds are = record {
  sound = λ r h. let one = are.origin r h in (one.0, finds.sound one.0 one.1, one.2);
  whole = λ u limited r (x, f, g). are.all x r (finds.whole u limited x f) g;
}

pub finds_as : (rows : List (List ℕ)) (F G : Table → ℕ → Type 0) (seen set : List ℕ) → Finds rows F seen set → ((u : Table) (r : ℕ) → F u r → G u r) → ((u : Table) (r : ℕ) → G u r → F u r) → Finds rows G seen set
finds_as rows F G seen set finds to from = record {
  sound = λ r h. to (row rows) r (finds.sound r h);
  whole = λ u limited r g. finds.whole u limited r (from u r g);
}

pub limited_fewer : (rows : List (List ℕ)) (seen more : List ℕ) (u : Table) → Includes seen more → Limited rows more u → Limited rows seen u
limited_fewer rows seen more u includes limited c r h g = limited c r (includes c h) g

pub finds_later : (rows : List (List ℕ)) (F : Table → ℕ → Type 0) (seen more set : List ℕ) → Finds rows F seen set → Includes seen more → Finds rows F more set
finds_later rows F seen more set finds includes = record {
  sound = finds.sound;
  whole = λ u limited r f. finds.whole u (limited_fewer rows seen more u includes limited) r f;
}

-- ---- puts

pub adds_nothing : (rows : List (List ℕ)) (F : Table → ℕ → ℕ → Type 0) (a : Gathered) → ((u : Table) (c r : ℕ) → F u c r → ⊥) → Adds rows F a a
adds_nothing rows F a none = record {
  sees = λ n h. h;
  kept = λ c r h. h;
  origin = λ c r h. inl h;
  all = λ u limited c r f. absurd (none u c r f);
}

pub adds_as : (rows : List (List ℕ)) (F G : Table → ℕ → ℕ → Type 0) (a b : Gathered) → Adds rows F a b → ((u : Table) (c r : ℕ) → F u c r → G u c r) → ((u : Table) (c r : ℕ) → G u c r → F u c r) → Adds rows G a b
adds_as rows F G a b adds to from = record {
  sees = adds.sees;
  kept = adds.kept;
  origin = λ c r h. by c r (adds.origin c r h);
  all = λ u limited c r g. adds.all u limited c r (from u c r g);
}
  where
    by : (c r : ℕ) → (in_puts a.puts.items c r ≡ true) ⊎ F (row rows) c r → (in_puts a.puts.items c r ≡ true) ⊎ G (row rows) c r
    by c r (inl h) = inl h
    by c r (inr f) = inr (to (row rows) c r f)

pub adds_then : (rows : List (List ℕ)) (F G : Table → ℕ → ℕ → Type 0) (a b d : Gathered) → Adds rows F a b → Adds rows G b d → Adds rows (λ u c r. F u c r ⊎ G u c r) a d
adds_then rows F G a b d first second = record {
  sees = λ n h. second.sees n (first.sees n h);
  kept = λ c r h. second.kept c r (first.kept c r h);
  origin = λ c r h. from c r (second.origin c r h);
  all = λ u limited c r h. all u limited c r h;
}
  where
    deeper : (c r : ℕ) → (in_puts a.puts.items c r ≡ true) ⊎ F (row rows) c r → (in_puts a.puts.items c r ≡ true) ⊎ (F (row rows) c r ⊎ G (row rows) c r)
    deeper c r (inl h) = inl h
    deeper c r (inr f) = inr (inl f)

    from : (c r : ℕ) → (in_puts b.puts.items c r ≡ true) ⊎ G (row rows) c r → (in_puts a.puts.items c r ≡ true) ⊎ (F (row rows) c r ⊎ G (row rows) c r)
    from c r (inl h) = deeper c r (first.origin c r h)
    from c r (inr g) = inr (inr g)

    all : (u : Table) → Limited rows d.seen u → (c r : ℕ) → F u c r ⊎ G u c r → in_puts d.puts.items c r ≡ true
    all u limited c r (inl f) = second.kept c r (first.all u (limited_fewer rows b.seen d.seen u second.sees limited) c r f)
    all u limited c r (inr g) = second.all u limited c r g

pub adds_loop : (rows : List (List ℕ)) (F : ℕ → Table → ℕ → ℕ → Type 0) (i : ℕ) (a b d : Gathered) → Adds rows (λ u c r. (k : ℕ) × (k < i) × F k u c r) a b → Adds rows (F i) b d → Adds rows (λ u c r. (k : ℕ) × (k < i + 1) × F k u c r) a d
adds_loop rows F i a b d first second =
    adds_as rows (λ u c r. ((k : ℕ) × (k < i) × F k u c r) ⊎ F i u c r) (λ u c r. (k : ℕ) × (k < i + 1) × F k u c r) a d (adds_then rows (λ u c r. (k : ℕ) × (k < i) × F k u c r) (F i) a b d first second) to from
  where
    to : (u : Table) (c r : ℕ) → ((k : ℕ) × (k < i) × F k u c r) ⊎ F i u c r → (k : ℕ) × (k < i + 1) × F k u c r
    to u c r (inl (k, low, f)) = (k, omega (arith, low), f)
    to u c r (inr f) = (i, omega arith, f)

    from : (u : Table) (c r : ℕ) → (k : ℕ) × (k < i + 1) × F k u c r → ((k : ℕ) × (k < i) × F k u c r) ⊎ F i u c r
    from u c r (k, low, f) = by (which k i)
      where
        by : (k ≡ i) ⊎ (k ≢ i) → ((k : ℕ) × (k < i) × F k u c r) ⊎ F i u c r
        by (inl same) = inr (subst (λ j. F j u c r) same f)
        by (inr apart) = inl (k, omega (arith, low, apart), f)

pub adds_begin : (rows : List (List ℕ)) (F : ℕ → Table → ℕ → ℕ → Type 0) (a : Gathered) → Adds rows (λ u c r. (k : ℕ) × (k < 0) × F k u c r) a a
adds_begin rows F a = adds_nothing rows (λ u c r. (k : ℕ) × (k < 0) × F k u c r) a (λ u c r (k, low, f). omega (arith, low))

-- one put comes
pub put_adds : (rows : List (List ℕ)) (C R : Table → ℕ → Type 0) (a b : Gathered) (put : Put) → Includes a.seen b.seen → b.puts.items ≡ a.puts.items ++ put ∷ []
    → Finds rows C b.seen put.rows → Finds rows R b.seen put.numbers → Adds rows (λ u c r. C u c × R u r) a b
put_adds rows C R a b put sees items cells numbers = record {
  sees = sees;
  kept = λ c r h. is c r ∙ or-left (in_puts a.puts.items c r) (in_put put c r) h;
  origin = λ c r h. from c r (or-cases (in_puts a.puts.items c r) (in_put put c r) (sym (is c r) ∙ h));
  all = λ u limited c r (f, g). is c r ∙ or-right (in_puts a.puts.items c r) (in_put put c r) (both (has c put.rows) (has r put.numbers) (cells.whole u limited c f) (numbers.whole u limited r g));
}
  where
    is : (c r : ℕ) → in_puts b.puts.items c r ≡ (in_puts a.puts.items c r || in_put put c r)
    is c r = ap (λ ps. in_puts ps c r) items ∙ puts_pushed a.puts.items put c r

    from : (c r : ℕ) → (in_puts a.puts.items c r ≡ true) ⊎ (in_put put c r ≡ true) → (in_puts a.puts.items c r ≡ true) ⊎ (C (row rows) c × R (row rows) r)
    from c r (inl h) = inl h
    from c r (inr h) = let two = parts (has c put.rows) (has r put.numbers) h in inr (cells.sound c two.0, numbers.sound r two.1)

pub product_adds : (rows : List (List ℕ)) (C R : Table → ℕ → Type 0) (a b : Gathered) (first second : List ℕ) (put : Put) → Includes a.seen first → Includes first second → b.seen ≡ second → b.puts.items ≡ a.puts.items ++ put ∷ []
    → Finds rows C first put.rows → Finds rows R second put.numbers → Adds rows (λ u c r. C u c × R u r) a b
product_adds rows C R a b first second put one two same items cells numbers =
    put_adds rows C R a b put (λ n h. ap (λ s. has n s) same ∙ two n (one n h)) items
    (subst (λ s. Finds rows C s put.rows) (sym same) (finds_later rows C first second put.rows cells two))
    (subst (λ s. Finds rows R s put.numbers) (sym same) numbers)

-- one region is found without looking
pub region_finds : (p : Lowered) (rows : List (List ℕ)) (n : ℕ) (seen set : List ℕ) → ((r : ℕ) → has r set ≡ eqb r n) → Finds rows (λ u r. InSource p u (all_of (region n)) r) seen set
region_finds p rows n seen set is = record {
  sound = λ r h. record { of = n; there = refl; narrowed = both (eqb n r) true (ap (λ k. eqb n k) (eqb-true r n (sym (is r) ∙ h)) ∙ eqb-refl n) refl };
  whole = λ u limited r h. is r ∙ ap (λ k. eqb k n) (sym (eqb-true h.of r (parts (eqb h.of r) true h.narrowed).0) ∙ sym h.there) ∙ eqb-refl n;
}

pub narrowed_finds : (p : Lowered) (rows : List (List ℕ)) (only : Only) (n : ℕ) (seen above set : List ℕ) → ((r : ℕ) → has r above ≡ eqb r n) → Images (λ q r. narrows p only q r ≡ true) above set → Finds rows (λ u r. InSource p u (only_of only (region n)) r) seen set
narrowed_finds p rows only n seen above set is images = record {
  sound = λ r h. let one = images.origin r h in record { of = one.0; there = sym (eqb-true one.0 n (sym (is one.0) ∙ one.1)); narrowed = one.2 };
  whole = λ u limited r h. images.all h.of r (is h.of ∙ ap (λ k. eqb k n) (sym h.there) ∙ eqb-refl n) h.narrowed;
}
