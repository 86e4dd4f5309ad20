-- Cells that take over what others point to.
use Rattle.std.proofs.Common.{◌≡◌, ◌⊎◌, inl, inr, ℕ, ◌<◌, Bool, true, false, cond, eqb, List, [], ◌∷◌, ◌++◌, length, get_or, Some, None, refl, sym, ap, ◌∙◌, subst, eqb-true}
use Rattle.sp_ir.specs.Programs.{Lowered}
use Rattle.sp_base_sets.specs.Sets.{has, Includes, Images}
use Rattle.sp_base_sets.specs.Reached.{row}
use Rattle.sp_base_sets.proofs.Members.{eqb-refl, has_there}
use Rattle.sp_base_sets.proofs.Images.{place_of}
use Rattle.sp_points_expr.specs.Tables.{Table, Limited}
use Rattle.sp_points_expr.specs.Growing.{in_puts}
use Rattle.sp_points_rules.specs.declared.groups.Groups.{Groups}
use Rattle.sp_points_rules.specs.Paths.{mirrored, reaches, pairs, object_at, AreGroups, only_cell, descend, between}
use Rattle.sp_points_rules.specs.Sources.{Source, InSource}
use Rattle.sp_points_rules.specs.Puts.{Copies, Corresponds}
use Rattle.sp_points_rules.specs.Gathered.{Finds, Adds}
use Rattle.sp_points_rules.specs.Copying.{TakesOver, Mirrors, MirrorsBack, CopiesPair, CopiesFrom}
use Rattle.sp_points_rules.specs.declared.gathered.Gathered.{Gathered}
use Rattle.sp_points_rules.proofs.Finding.{adds_as, adds_then, product_adds, limited_fewer}

some_same : {a b : ℕ} → Some a ≡ Some b → a ≡ b
some_same h = cc

pub taking_adds : (rows : List (List ℕ)) (a b : Gathered) (cell source : ℕ) (cells held numbers seen : List ℕ) → ((r : ℕ) → has r cells ≡ eqb r cell) → ((r : ℕ) → has r held ≡ eqb r source)
    → Images (λ c r. has r (row rows c) ≡ true) held numbers → Includes a.seen seen → Includes held seen → b.seen ≡ seen → b.puts.items ≡ a.puts.items ++ record { rows = cells; numbers = numbers } ∷ []
    → Adds rows (λ u c r. TakesOver u cell source c r) a b
taking_adds rows a b cell source cells held numbers seen cells_are held_is contents sees saw same items =
    adds_as rows (λ u c r. (c ≡ cell) × (has r (u source) ≡ true)) (λ u c r. TakesOver u cell source c r) a b
    (product_adds rows (λ u c. c ≡ cell) (λ u r. has r (u source) ≡ true) a b seen seen (record { rows = cells; numbers = numbers }) sees (λ n h. h) same items
    (record { sound = λ r h. eqb-true r cell (sym (cells_are r) ∙ h); whole = λ u limited r e. cells_are r ∙ ap (λ k. eqb k cell) e ∙ eqb-refl cell })
    (record {
      sound = λ r h. let one = contents.origin r h in subst (λ c. has r (row rows c) ≡ true) (eqb-true one.0 source (sym (held_is one.0) ∙ one.1)) one.2;
      whole = λ u limited r h. contents.all source r there (limited source r (saw source there) h);
    }))
    (λ u c r (is, h). record { is = is; holds = h })
    (λ u c r t. (t.is, t.holds))
  where
    there : has source held ≡ true
    there = held_is source ∙ eqb-refl source

pub mirror_adds : (p : Lowered) (rows : List (List ℕ)) (a b : Gathered) (target source cell other : ℕ) → mirrored p target source cell ≡ Some other → Adds rows (λ u c r. TakesOver u cell other c r) a b → Adds rows (λ u c r. Mirrors p u target source cell c r) a b
mirror_adds p rows a b target source cell other is adds =
    adds_as rows (λ u c r. TakesOver u cell other c r) (λ u c r. Mirrors p u target source cell c r) a b adds
    (λ u c r t. record { other = other; alike = is; takes = t })
    (λ u c r m. subst (λ o. TakesOver u cell o c r) (some_same (sym m.alike ∙ is)) m.takes)

pub mirror_back_adds : (p : Lowered) (rows : List (List ℕ)) (a b : Gathered) (target source cell other : ℕ) → mirrored p source target cell ≡ Some other → Adds rows (λ u c r. TakesOver u other cell c r) a b → Adds rows (λ u c r. MirrorsBack p u target source cell c r) a b
mirror_back_adds p rows a b target source cell other is adds =
    adds_as rows (λ u c r. TakesOver u other cell c r) (λ u c r. MirrorsBack p u target source cell c r) a b adds
    (λ u c r t. record { other = other; alike = is; takes = t })
    (λ u c r m. subst (λ o. TakesOver u o cell c r) (some_same (sym m.alike ∙ is)) m.takes)

-- where a cell is mirrored, it is under the region
mirrored_reaches : (p : Lowered) (q s c b : ℕ) → mirrored p q s c ≡ Some b → reaches p q c ≡ true
mirrored_reaches p q s c b h = by (reaches p q c) h
  where
    by : (t : Bool) → cond t (only_cell p (descend p (Some s) (between p q c))) None ≡ Some b → t ≡ true
    by true e = refl
    by false e = absurd (cc)

pub pair_adds : (p : Lowered) (rows : List (List ℕ)) (groups : Groups) (a b d : Gathered) (target source : ℕ) (cells others : List ℕ) → AreGroups p groups → pairs p target source ≡ true → cells ≡ row groups.objects.items (object_at p target) → others ≡ row groups.objects.items (object_at p source)
    → Adds rows (λ u c r. (k : ℕ) × (k < length cells) × Mirrors p u target source (get_or cells k 0) c r) a b
    → Adds rows (λ u c r. (k : ℕ) × (k < length others) × MirrorsBack p u target source (get_or others k 0) c r) b d
    → Adds rows (λ u c r. CopiesPair p u target source c r) a d
pair_adds p rows groups a b d target source cells others grouped fits cells_are others_are first second =
    adds_as rows (λ u c r. F u c r ⊎ G u c r) (λ u c r. CopiesPair p u target source c r) a d (adds_then rows F G a b d first second) to from
  where
    F : Table → ℕ → ℕ → Type 0
    F u c r = (k : ℕ) × (k < length cells) × Mirrors p u target source (get_or cells k 0) c r

    G : Table → ℕ → ℕ → Type 0
    G u c r = (k : ℕ) × (k < length others) × MirrorsBack p u target source (get_or others k 0) c r

    to : (u : Table) (c r : ℕ) → F u c r ⊎ G u c r → CopiesPair p u target source c r
    to u c r (inl (k, low, m)) = record {
      cell = m.other;
      fits = fits;
      alike = inl (subst (λ x. mirrored p target source x ≡ Some m.other) (sym m.takes.is) m.alike);
      holds = m.takes.holds;
    }
    to u c r (inr (k, low, m)) = record {
      cell = get_or others k 0;
      fits = fits;
      alike = inr (m.alike ∙ ap (λ x. Some x) (sym m.takes.is));
      holds = m.takes.holds;
    }

    from : (u : Table) (c r : ℕ) → CopiesPair p u target source c r → F u c r ⊎ G u c r
    from u c r pair = by pair.alike
      where
        by : (mirrored p target source c ≡ Some pair.cell) ⊎ (mirrored p source target pair.cell ≡ Some c) → F u c r ⊎ G u c r
        by (inl e) =
            let at = place_of cells c (ap (λ xs. has c xs) cells_are ∙ grouped.under target c (mirrored_reaches p target source c pair.cell e)) in
            inl (at.0, at.1, record { other = pair.cell; alike = subst (λ x. mirrored p target source x ≡ Some pair.cell) (sym at.2) e; takes = record { is = sym at.2; holds = pair.holds } })
        by (inr e) =
            let at = place_of others pair.cell (ap (λ xs. has pair.cell xs) others_are ∙ grouped.under source pair.cell (mirrored_reaches p source target pair.cell c e)) in
            inr (at.0, at.1, record { other = c; alike = subst (λ x. mirrored p source target x ≡ Some c) (sym at.2) e; takes = record { is = refl; holds = subst (λ x. has r (u x) ≡ true) (sym at.2) pair.holds } })

pub copies_add : (p : Lowered) (rows : List (List ℕ)) (a b : Gathered) (to from : Source) (targets sources first second : List ℕ) → Includes a.seen first → Includes first second
    → Finds rows (λ u r. InSource p u to r) first targets → Finds rows (λ u r. InSource p u from r) second sources
    → Adds rows (λ u c r. (k : ℕ) × (k < length targets) × CopiesFrom p u (get_or targets k 0) sources c r) (record a { seen = second }) b
    → Adds rows (λ u c r. Copies p u to from c r) a b
copies_add p rows a b to from targets sources first second one two finds_to finds_from adds = record {
  sees = λ n h. adds.sees n (two n (one n h));
  kept = adds.kept;
  origin = λ c r h. origin c r (adds.origin c r h);
  all = λ u limited c r h. all u limited c r h;
}
  where
    origin : (c r : ℕ) → (in_puts a.puts.items c r ≡ true) ⊎ ((k : ℕ) × (k < length targets) × CopiesFrom p (row rows) (get_or targets k 0) sources c r) → (in_puts a.puts.items c r ≡ true) ⊎ Copies p (row rows) to from c r
    origin c r (inl h) = inl h
    origin c r (inr (k, low, (i, i_low, pair))) = inr (record {
      target = get_or targets k 0;
      source = get_or sources i 0;
      cell = pair.cell;
      goes = finds_to.sound (get_or targets k 0) (has_there targets (get_or targets k 0) k low refl);
      comes = finds_from.sound (get_or sources i 0) (has_there sources (get_or sources i 0) i i_low refl);
      fits = pair.fits;
      alike = pair.alike;
      holds = pair.holds;
    })

    all : (u : Table) → Limited rows b.seen u → (c r : ℕ) → Copies p u to from c r → in_puts b.puts.items c r ≡ true
    all u limited c r h =
        let at_to = place_of targets h.target (finds_to.whole u (limited_fewer rows first b.seen u (λ n m. adds.sees n (two n m)) limited) h.target h.goes) in
        let at_from = place_of sources h.source (finds_from.whole u (limited_fewer rows second b.seen u adds.sees limited) h.source h.comes) in
        adds.all u limited c r (
          at_to.0,
          at_to.1,
          (
            at_from.0,
            at_from.1,
            record {
              cell = h.cell;
              fits = subst (λ x. pairs p x (get_or sources at_from.0 0) ≡ true) (sym at_to.2) (subst (λ x. pairs p h.target x ≡ true) (sym at_from.2) h.fits);
              alike = subst (λ x. Corresponds p x (get_or sources at_from.0 0) c h.cell) (sym at_to.2) (subst (λ x. Corresponds p h.target x c h.cell) (sym at_from.2) h.alike);
              holds = h.holds;
            },
          ),
        )
