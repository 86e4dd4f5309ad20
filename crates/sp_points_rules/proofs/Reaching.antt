-- What paths reach: a region reaches itself, and whatever a path leads to.
use Rattle.std.proofs.Common.{◌≡◌, ◌∙◌, ℕ, Bool, true, false, cond, List, [], ◌∷◌, ◌++◌, length, drop, get_or, Option, Some, None, nat_eq, refl, sym, ap, append_assoc}
use Rattle.std.specs.Prelude.{slice_get}
use Rattle.std.specs.Option.{option_eq}
use Rattle.std.proofs.Math.Seq.{drop-append_seam}
use Rattle.std.proofs.lemmas.List.{append-nil}
use Rattle.std.proofs.lemmas.List.Quantifiers.{position-Some}
use Rattle.sp_ir.specs.declared.region.Step.{Step}
use Rattle.sp_ir.specs.Paths.{same_path}
use Rattle.sp_ir.specs.PathLaws.{path-decides}
use Rattle.sp_ir.specs.Regions.{Region, number_at, child_at, child_of, stands_at, is_cell_at}
use Rattle.sp_ir.specs.Programs.{Lowered}
use Rattle.sp_ir.specs.Terrain.{is_bytes}
use Rattle.sp_base_sets.proofs.Members.{eqb-refl}
use Rattle.sp_points_expr.proofs.Adding.{parts, both}
use Rattle.sp_points_rules.specs.Paths.{descend, path_in, between, reaches, only_cell, mirrored}
use Rattle.sp_points_rules.proofs.Cases.{some_same}
use Rattle.sp_points_rules.proofs.Ranges.{there_element, descend-none, same_number}

none-some : {A : Type 0} {x : A} → None ≡ Some x → ⊥
none-some e = cc

-- the path of a region that is found
number-path : (rs : List Region) (o : ℕ) (path : List Step) (n : ℕ) → number_at rs o path ≡ Some n → path_in (slice_get rs n) ≡ path
number-path [] o path n h = absurd (cc)
number-path (r ∷ rs) o path n h =
    let found = position-Some (stands_at o path) (r ∷ rs) n r h in
    let d = get_or (r ∷ rs) n r in
    ap path_in (there_element (r ∷ rs) n r found.0) ∙ sym ((path-decides path d.path).0 (parts (nat_eq o d.object) (same_path path d.path) found.1).1)

module _ (p : Lowered) where
  child-path : (r : ℕ) (s : Step) (q : ℕ) → child_at p.regions r s ≡ Some q → path_in (slice_get p.regions q) ≡ path_in (slice_get p.regions r) ++ s ∷ []
  child-path r s q e = by (slice_get p.regions r) e
    where
      by : (o : Option Region) → child_of p.regions o s ≡ Some q → path_in (slice_get p.regions q) ≡ path_in o ++ s ∷ []
      by None g = absurd (none-some g)
      by (Some x) g = number-path p.regions x.object (x.path ++ s ∷ []) q g

  -- inside a region that is kept as bytes each path stays
  pub descend-bytes : (r : ℕ) (path : List Step) → is_bytes (slice_get p.regions r) ≡ true → descend p (Some r) path ≡ Some r
  descend-bytes r [] h = refl
  descend-bytes r (s ∷ path) h = ap (λ b. descend p (cond b (Some r) (child_at p.regions r s)) path) h ∙ descend-bytes r path h

  -- the path of what is under a region goes on from that region's, and leads there
  pub record IsUnder (r b : ℕ) : Type 0 where
    pub steps : List Step
    pub longer : path_in (slice_get p.regions b) ≡ path_in (slice_get p.regions r) ++ steps
    pub leads : descend p (Some r) steps ≡ Some b

  under-from : (r : ℕ) (path : List Step) (b : ℕ) → descend p (Some r) path ≡ Some b → IsUnder r b
  under-from r [] b h = record { steps = []; longer = ap (λ n. path_in (slice_get p.regions n)) (sym (some_same h)) ∙ sym (append-nil (path_in (slice_get p.regions r))); leads = h }
  under-from r (s ∷ path) b h = by (is_bytes (slice_get p.regions r)) refl h (λ g. under-from r path b g) (λ q g. under-from q path b g)
    where
      goes : (o : Option ℕ) → child_at p.regions r s ≡ o → is_bytes (slice_get p.regions r) ≡ false → descend p o path ≡ Some b → ((q : ℕ) → descend p (Some q) path ≡ Some b → IsUnder q b) → IsUnder r b
      goes None e kept g next = absurd (none-some (sym (descend-none p path) ∙ g))
      goes (Some q) e kept g next =
          let x = next q g in
          record {
            steps = s ∷ x.steps;
            longer = x.longer ∙ ap (λ xs. xs ++ x.steps) (child-path r s q e) ∙ append_assoc (path_in (slice_get p.regions r)) (s ∷ []) x.steps;
            leads = ap (λ c. descend p (cond c (Some r) (child_at p.regions r s)) x.steps) kept ∙ ap (λ o. descend p o x.steps) e ∙ x.leads;
          }

      by : (c : Bool) → is_bytes (slice_get p.regions r) ≡ c → descend p (cond c (Some r) (child_at p.regions r s)) path ≡ Some b → (descend p (Some r) path ≡ Some b → IsUnder r b)
          → ((q : ℕ) → descend p (Some q) path ≡ Some b → IsUnder q b) → IsUnder r b
      by true e g here next = here g
      by false e g here next = goes (child_at p.regions r s) refl e g next

  -- a cell to which a path leads is reached
  pub reached : (r : ℕ) (path : List Step) (b : ℕ) → is_cell_at p.regions b ≡ true → descend p (Some r) path ≡ Some b → reaches p r b ≡ true
  reached r path b cell h =
      let x = under-from r path b h in
      let steps : between p r b ≡ x.steps = ap (λ xs. drop (length (path_in (slice_get p.regions r))) xs) x.longer ∙ drop-append_seam (path_in (slice_get p.regions r)) x.steps in
      both (is_cell_at p.regions b) (option_eq nat_eq (descend p (Some r) (between p r b)) (Some b)) cell
      (ap (λ xs. option_eq nat_eq (descend p (Some r) xs) (Some b)) steps ∙ ap (λ o. option_eq nat_eq o (Some b)) x.leads ∙ eqb-refl b)

  pub reaches-self : (r : ℕ) → is_cell_at p.regions r ≡ true → reaches p r r ≡ true
  reaches-self r cell = reached r [] r cell refl

  only-is : (o : Option ℕ) (b : ℕ) → only_cell p o ≡ Some b → (is_cell_at p.regions b ≡ true) × (o ≡ Some b)
  only-is None b h = absurd (none-some h)
  only-is (Some n) b h = by (is_cell_at p.regions n) refl h
    where
      by : (c : Bool) → is_cell_at p.regions n ≡ c → cond c (Some n) None ≡ Some b → (is_cell_at p.regions b ≡ true) × (Some n ≡ Some b)
      by true e g = (ap (is_cell_at p.regions) (sym (some_same g)) ∙ e, g)
      by false e g = absurd (none-some g)

  -- what mirrors a cell is reached
  pub mirrored-reached : (q s c b : ℕ) → mirrored p q s c ≡ Some b → reaches p s b ≡ true
  mirrored-reached q s c b h = by (reaches p q c) h
    where
      by : (t : Bool) → cond t (only_cell p (descend p (Some s) (between p q c))) None ≡ Some b → reaches p s b ≡ true
      by true g = let x = only-is (descend p (Some s) (between p q c)) b g in reached s (between p q c) b x.0 x.1
      by false g = absurd (none-some g)

  -- the only cell under a region that is kept as bytes is itself
  pub bytes-reach : (q c : ℕ) → is_bytes (slice_get p.regions q) ≡ true → reaches p q c ≡ true → q ≡ c
  bytes-reach q c bytes h =
      some_same (sym (descend-bytes q (between p q c) bytes) ∙ same_number (descend p (Some q) (between p q c)) c (parts (is_cell_at p.regions c) (option_eq nat_eq (descend p (Some q) (between p q c)) (Some c)) h).1)

  -- each cell under another region has it for its mirror
  pub bytes-mirror : (q s b : ℕ) → is_bytes (slice_get p.regions q) ≡ true → is_cell_at p.regions q ≡ true → reaches p s b ≡ true → mirrored p s q b ≡ Some q
  bytes-mirror q s b bytes cell h =
      ap (λ t. cond t (only_cell p (descend p (Some q) (between p s b))) None) h
      ∙ ap (only_cell p) (descend-bytes q (between p s b) bytes) ∙ ap (λ t. cond t (Some q) None) cell

  pub reached-cell : (q c : ℕ) → reaches p q c ≡ true → is_cell_at p.regions c ≡ true
  reached-cell q c h = (parts (is_cell_at p.regions c) (option_eq nat_eq (descend p (Some q) (between p q c)) (Some c)) h).0
