-- More in the table, more in what commands put; and what they put is there.
use Rattle.std.proofs.Common.{◌≡◌, ◌⊎◌, inl, inr, ℕ, zero, suc, ◌<◌, Bool, true, false, cond, eqb, nat_eq, ◌||◌, List, [], ◌∷◌, length, Option, Some, None, refl, sym, ap, ◌∙◌, subst, arith, eqb-true}
use Rattle.std.specs.Prelude.{slice_get}
use Rattle.std.specs.List.{All}
use Rattle.sp_ir.specs.Commands.{Expression, Lvalue, lvalue_type, Leaf, Command, start, entry, exit, skip, assign, copy, init, assume, eval, call, return, library, outside, Node}
use Rattle.sp_ir.specs.Regions.{is_cell_at}
use Rattle.sp_ir.specs.Programs.{Lowered, Object}
use Rattle.sp_ir.specs.Terrain.{terrain_of}
use Rattle.sp_ir.specs.Formed.{IsFormed, IsLeaf, IsStart, starts, HasStart, table_of, IsCommand}
use Rattle.sp_base_sets.specs.Sets.{has}
use Rattle.sp_points_expr.specs.Tables.{Table, Within, AreRules}
use Rattle.sp_points_expr.proofs.Adding.{parts}
use Rattle.sp_points_expr.proofs.Held.{regions_more, cells_more, regions_low, cells_low}
use Rattle.sp_points_rules.specs.declared.sources.Test.TheVariants.{KeptScalar, AnyScalar, Aggregate}
use Rattle.sp_points_rules.specs.declared.sources.Only.{Only}
use Rattle.sp_points_rules.specs.declared.sources.Only.TheVariants.{Every, Texts, HeapRoots, Pointers, PointerLeaves}
use Rattle.sp_points_rules.specs.declared.library.Given.{Given}
use Rattle.sp_points_rules.specs.declared.library.Given.TheVariants.{Allocated, Reallocated, Argument, NoPointer}
use Rattle.sp_points_rules.specs.declared.library.Moved.{Moved}
use Rattle.sp_points_rules.specs.declared.library.Moved.TheVariants.{AllCells, Text, NoCells}
use Rattle.sp_points_rules.specs.Paths.{mirrored, reaches, only_cell, descend, between, pointer_region}
use Rattle.sp_points_rules.specs.Leaves.{type_in, leaf_points}
use Rattle.sp_points_rules.specs.Sources.{Base, regions, cells, region, formals, results, Source, Calls, InBase, InOnly, InEither, InSource, narrows, passes, root_where, typed_root, is_of, formal_at, result_of}
use Rattle.sp_points_rules.specs.Puts.{all_of, only_of, read_of, Product, Copies, PutsLeaf, PassesAs, as_struct, struct_in, ReturnsAs, Returns, as_call, Site, First, GivesBack, GivesResult, given_by, MovesFrom, Moves, moved_by, FromOutside, Puts, command_at, command_in, rules_of}
use Rattle.sp_points_rules.proofs.Cases.{there_low, some_same}
use Rattle.sp_points_rules.proofs.Ranges.{is_below, cell_low, reached_low}

-- ---- more

module _ (p : Lowered) (t u : Table) (within : Within t u) where
  calls_more : (callee : Expression) (count f : ℕ) → Calls p t callee count f → Calls p u callee count f
  calls_more callee count f (r, h, is) = (r, regions_more (terrain_of p) t u within callee r h, is)

  base_more : (b : Base) (r : ℕ) → InBase p t b r → InBase p u b r
  base_more (regions e) r h = regions_more (terrain_of p) t u within e r h
  base_more (cells l) r h = cells_more (terrain_of p) t u within l r h
  base_more (region n) r h = h
  base_more (formals callee count place test) r (f, calls, is) = (f, calls_more callee count f calls, is)
  base_more (results callee count test) r (f, calls, is) = (f, calls_more callee count f calls, is)

  only_more : (b : Base) (only : Only) (r : ℕ) → InOnly p t b only r → InOnly p u b only r
  only_more b only r h = record { of = h.of; there = base_more b h.of h.there; narrowed = h.narrowed }

  either_more : (read : Bool) (b : Base) (only : Only) (r : ℕ) → InEither read p t b only r → InEither read p u b only r
  either_more false b only r h = only_more b only r h
  either_more true b only r h = record { cell = h.cell; there = only_more b only h.cell h.there; holds = within h.cell r h.holds }

  source_more : (s : Source) (r : ℕ) → InSource p t s r → InSource p u s r
  source_more s r h = either_more s.read s.base s.only r h

  product_more : (to from : Source) (c r : ℕ) → Product p t to from c r → Product p u to from c r
  product_more to from c r (h, g) = (source_more to c h, source_more from r g)

  copies_more : (to from : Source) (c r : ℕ) → Copies p t to from c r → Copies p u to from c r
  copies_more to from c r h = record {
    target = h.target;
    source = h.source;
    cell = h.cell;
    goes = source_more to h.target h.goes;
    comes = source_more from h.source h.comes;
    fits = h.fits;
    alike = h.alike;
    holds = within h.cell r h.holds;
  }

  leaf_more : (leaves : List Leaf) (c r : ℕ) → PutsLeaf p t leaves c r → PutsLeaf p u leaves c r
  leaf_more leaves c r h = record { place = h.place; leaf = h.leaf; there = h.there; puts = product_more (all_of (region h.leaf.cell)) (all_of (regions h.leaf.value)) c r h.puts }

  passes_more : (callee : Expression) (count place : ℕ) (s : Option (ℕ × Lvalue)) (arg : Expression) (c r : ℕ) → PassesAs p t callee count place s arg c r → PassesAs p u callee count place s arg c r
  passes_more callee count place None arg c r h = product_more (all_of (formals callee count place KeptScalar)) (all_of (regions arg)) c r h
  passes_more callee count place (Some s) arg c r h = copies_more (all_of (formals callee count place (Aggregate s.0))) (all_of (cells s.1)) c r h

  return_more : (callee : Expression) (count : ℕ) (n : Option ℕ) (to : Lvalue) (c r : ℕ) → ReturnsAs p t callee count n to c r → ReturnsAs p u callee count n to c r
  return_more callee count None to c r (k, h) = (k, product_more (all_of (cells to)) (read_of Every (results callee count AnyScalar)) c r h)
  return_more callee count (Some n) to c r h = copies_more (all_of (cells to)) (all_of (results callee count (Aggregate n))) c r h

  returns_more : (x : Option (Expression × ℕ)) (to : Option Lvalue) (c r : ℕ) → Returns p t x to c r → Returns p u x to c r
  returns_more None to c r h = h
  returns_more (Some x) None c r h = h
  returns_more (Some x) (Some to) c r h = return_more x.0 x.1 (struct_in (lvalue_type to)) to c r h

  site_more : (to : Lvalue) (site : Option ℕ) (c r : ℕ) → Site p t to site c r → Site p u to site c r
  site_more to None c r h = h
  site_more to (Some n) c r h = product_more (all_of (cells to)) (all_of (region ((terrain_of p).root n))) c r h

  first_more : (only : Only) (to : Lvalue) (e : Option Expression) (c r : ℕ) → First p t only to e c r → First p u only to e c r
  first_more only to None c r h = h
  first_more only to (Some e) c r h = product_more (all_of (cells to)) (only_of only (regions e)) c r h

  back_more : (given : Given) (to : Lvalue) (args : List Expression) (site : Option ℕ) (c r : ℕ) → GivesBack p t given to args site c r → GivesBack p u given to args site c r
  back_more Allocated to args site c r h = site_more to site c r h
  back_more Reallocated to args site c r (inl h) = inl (site_more to site c r h)
  back_more Reallocated to args site c r (inr h) = inr (first_more HeapRoots to (slice_get args 0) c r h)
  back_more Argument to args site c r h = first_more Every to (slice_get args 0) c r h
  back_more NoPointer to args site c r h = h

  result_more : (given : Given) (to : Option Lvalue) (args : List Expression) (site : Option ℕ) (c r : ℕ) → GivesResult p t given to args site c r → GivesResult p u given to args site c r
  result_more given None args site c r h = h
  result_more given (Some to) args site c r (k, h) = (k, back_more given to args site c r h)

  from_more : (moved : Moved) (d s : Expression) (c r : ℕ) → MovesFrom p t moved d s c r → MovesFrom p u moved d s c r
  from_more AllCells d s c r h = copies_more (all_of (regions d)) (all_of (regions s)) c r h
  from_more Text d s c r h = product_more (only_of Texts (regions d)) (read_of Texts (regions s)) c r h
  from_more NoCells d s c r h = h

  moves_more : (moved : Moved) (d s : Option Expression) (c r : ℕ) → Moves p t moved d s c r → Moves p u moved d s c r
  moves_more moved None s c r h = h
  moves_more moved (Some d) None c r h = h
  moves_more moved (Some d) (Some s) c r h = from_more moved d s c r h

  outside_more : (to : Option Lvalue) (site : Option ℕ) (c r : ℕ) → FromOutside p t to site c r → FromOutside p u to site c r
  outside_more None site c r h = h
  outside_more (Some to) None c r h = h
  outside_more (Some to) (Some site) c r h = product_more (only_of Pointers (cells to)) (all_of (region ((terrain_of p).root site))) c r h

  pub puts_more : (command : Command) (c r : ℕ) → Puts p t command c r → Puts p u command c r
  puts_more start c r (inl h) = inl (record { number = h.number; object = h.object; there = h.there; puts = leaf_more h.object.start c r h.puts })
  puts_more start c r (inr h) = inr (record { number = h.number; object = h.object; there = h.there; foreign = h.foreign; place = h.place; formal = h.formal; code = h.code; main = h.main; at = h.at; puts = product_more (only_of PointerLeaves (region ((terrain_of p).root h.formal))) (all_of (region ((terrain_of p).root h.number))) c r h.puts })
  puts_more (entry f) c r h = h
  puts_more (exit f) c r h = h
  puts_more skip c r h = h
  puts_more (assign to e) c r h = product_more (all_of (cells to)) (all_of (regions e)) c r h
  puts_more (copy to from) c r h = copies_more (all_of (cells to)) (all_of (cells from)) c r h
  puts_more (init o values zeros) c r h = leaf_more values c r h
  puts_more (assume a op b) c r h = h
  puts_more (eval e) c r h = h
  puts_more (call callee args) c r h = record { place = h.place; arg = h.arg; there = h.there; puts = passes_more callee (length args) h.place (as_struct h.arg) h.arg c r h.puts }
  puts_more (return n to) c r h = returns_more (as_call (command_at p n)) to c r h
  puts_more (library which to args site) c r (inl h) = inl (result_more (given_by which) to args site c r h)
  puts_more (library which to args site) c r (inr h) = inr (moves_more (moved_by which) (slice_get args 0) (slice_get args 1) c r h)
  puts_more (outside to args site) c r h = outside_more to site c r h

-- ---- in range

module _ (p : Lowered) (formed : IsFormed p) (t : Table) (low : (d q : ℕ) → has q (t d) ≡ true → q < length p.regions) where
  abbrev IsLow : ℕ → Type 0
  IsLow r = r < length p.regions

  -- a region that is named by its number is there
  abbrev Named : Base → Type 0
  Named (region n) = IsLow n
  Named (regions e) = Unit {0}
  Named (cells l) = Unit {0}
  Named (formals callee count place test) = Unit {0}
  Named (results callee count test) = Unit {0}

  root_low : (test : _) (o : Option ℕ) (r : ℕ) → root_where p test o ≡ Some r → IsLow r
  root_low test None r h = absurd (cc)
  root_low test (Some o) r h = typed (type_in (slice_get p.objects o)) h
    where
      test_low : (b : Bool) → cond b (Some ((terrain_of p).root o)) None ≡ Some r → IsLow r
      test_low true g = subst (λ x. IsLow x) (some_same g) ((is_below p formed).root o)
      test_low false g = absurd (cc)

      typed : (x : Option _) → typed_root p test o x ≡ Some r → IsLow r
      typed None g = absurd (cc)
      typed (Some of) g = test_low (is_of test of) g

  base_low : (b : Base) (r : ℕ) → Named b → InBase p t b r → IsLow r
  base_low (regions e) r n h = regions_low (terrain_of p) (length p.regions) (is_below p formed) t low e r h
  base_low (cells l) r n h = cells_low (terrain_of p) (length p.regions) (is_below p formed) t low l r h
  base_low (region m) r n h = subst (λ x. IsLow x) h n
  base_low (formals callee count place test) r n (f, calls, is) = root_low test (formal_at p f place) r is
  base_low (results callee count test) r n (f, calls, is) = root_low test (result_of p f) r is

  narrow_low : (only : Only) (q r : ℕ) → IsLow q → narrows p only q r ≡ true → IsLow r
  narrow_low Every q r h e = subst (λ x. IsLow x) (eqb-true q r (parts (eqb q r) (passes p Every q) e).0) h
  narrow_low Texts q r h e = subst (λ x. IsLow x) (eqb-true q r (parts (eqb q r) (passes p Texts q) e).0) h
  narrow_low HeapRoots q r h e = subst (λ x. IsLow x) (eqb-true q r (parts (eqb q r) (passes p HeapRoots q) e).0) h
  narrow_low Pointers q r h e = reached_low p q r (parts (reaches p q r) (pointer_region (nat_eq q r || leaf_points p r) (slice_get p.regions r)) e).0
  narrow_low PointerLeaves q r h e = reached_low p q r (parts (reaches p q r) (pointer_region (leaf_points p r) (slice_get p.regions r)) e).0

  source_low : (s : Source) (r : ℕ) → Named s.base → InSource p t s r → IsLow r
  source_low s r n h = by s.read h
    where
      by : (b : Bool) → InEither b p t s.base s.only r → IsLow r
      by false g = narrow_low s.only g.of r (base_low s.base g.of n g.there) g.narrowed
      by true g = low g.cell r g.holds

  product_low : (to from : Source) (c r : ℕ) → Named to.base → Named from.base → Product p t to from c r → IsLow c × IsLow r
  product_low to from c r n m (h, g) = (source_low to c n h, source_low from r m g)

  mirror_low : (q s c b : ℕ) → mirrored p q s c ≡ Some b → IsLow c × IsLow b
  mirror_low q s c b h = by (reaches p q c) refl h
    where
      cell : (o : Option ℕ) → only_cell p o ≡ Some b → IsLow b
      cell None g = absurd (cc)
      cell (Some x) g = test (is_cell_at p.regions x) refl g
        where
          test : (k : Bool) → is_cell_at p.regions x ≡ k → cond k (Some x) None ≡ Some b → IsLow b
          test true e f = subst (λ y. IsLow y) (some_same f) (cell_low p x e)
          test false e f = absurd (cc)

      by : (k : Bool) → reaches p q c ≡ k → cond k (only_cell p (descend p (Some s) (between p q c))) None ≡ Some b → IsLow c × IsLow b
      by true e g = (reached_low p q c e, cell (descend p (Some s) (between p q c)) g)
      by false e g = absurd (cc)

  copies_low : (to from : Source) (c r : ℕ) → Copies p t to from c r → IsLow c × IsLow r
  copies_low to from c r h = (by h.alike, low h.cell r h.holds)
    where
      by : (mirrored p h.target h.source c ≡ Some h.cell) ⊎ (mirrored p h.source h.target h.cell ≡ Some c) → IsLow c
      by (inl e) = (mirror_low h.target h.source c h.cell e).0
      by (inr e) = (mirror_low h.source h.target h.cell c e).1

  root_there : (o : ℕ) → IsLow ((terrain_of p).root o)
  root_there o = (is_below p formed).root o

  leaf_low : (leaves : List Leaf) → ((k : ℕ) (l : Leaf) → slice_get leaves k ≡ Some l → IsLow l.cell) → (c r : ℕ) → PutsLeaf p t leaves c r → IsLow c × IsLow r
  leaf_low leaves there c r h = product_low (all_of (region h.leaf.cell)) (all_of (regions h.leaf.value)) c r (there h.place h.leaf h.there) tt h.puts

  element_at : {A : Type 0} (P : A → Type 0) (xs : List A) (k : ℕ) (x : A) → All P xs → slice_get xs k ≡ Some x → P x
  element_at P [] k x all h = absurd (cc)
  element_at P (y ∷ ys) zero x all h = subst P (some_same h) (all 0 y (omega arith))
  element_at P (y ∷ ys) (suc k) x all h = element_at P ys k x (λ i d low. all (suc i) d (omega (arith, low))) h

  start_leaves : (f : Option ℕ) (n : ℕ) (of : _) (values : List Leaf) (zeros : List ℕ) → IsStart (table_of p) p.regions f n of values zeros → (k : ℕ) (l : Leaf) → slice_get values k ≡ Some l → IsLow l.cell
  start_leaves f n of values zeros is k l h = leaf_there (element_at (IsLeaf (table_of p) p.regions f is.shape is.root) values k l is.leaves h)
    where
      leaf_there : IsLeaf (table_of p) p.regions f is.shape is.root l → IsLow l.cell
      leaf_there leaf = there_low p.regions l.cell leaf.region leaf.there

  object_leaves : (n : ℕ) (o : Object) (b : Bool) → HasStart p n o b → (k : ℕ) (l : Leaf) → slice_get o.start k ≡ Some l → IsLow l.cell
  object_leaves n o true h k l e = start_leaves None n h.0 o.start o.zero h.2 k l e
  object_leaves n o false h k l e = absurd (none-there (sym (ap (λ xs. slice_get xs k) h.0) ∙ e))
    where
      none-there : {A : Type 0} {x : A} → slice_get [] k ≡ Some x → ⊥
      none-there g = cc

  passes_low : (callee : Expression) (count place : ℕ) (s : Option (ℕ × Lvalue)) (arg : Expression) (c r : ℕ) → PassesAs p t callee count place s arg c r → IsLow c × IsLow r
  passes_low callee count place None arg c r h = product_low (all_of (formals callee count place KeptScalar)) (all_of (regions arg)) c r tt tt h
  passes_low callee count place (Some s) arg c r h = copies_low (all_of (formals callee count place (Aggregate s.0))) (all_of (cells s.1)) c r h

  return_low : (callee : Expression) (count : ℕ) (n : Option ℕ) (to : Lvalue) (c r : ℕ) → ReturnsAs p t callee count n to c r → IsLow c × IsLow r
  return_low callee count None to c r (k, h) = product_low (all_of (cells to)) (read_of Every (results callee count AnyScalar)) c r tt tt h
  return_low callee count (Some n) to c r h = copies_low (all_of (cells to)) (all_of (results callee count (Aggregate n))) c r h

  returns_low : (x : Option (Expression × ℕ)) (to : Option Lvalue) (c r : ℕ) → Returns p t x to c r → IsLow c × IsLow r
  returns_low None to c r h = absurd h
  returns_low (Some x) None c r h = absurd h
  returns_low (Some x) (Some to) c r h = return_low x.0 x.1 (struct_in (lvalue_type to)) to c r h

  site_low : (to : Lvalue) (site : Option ℕ) (c r : ℕ) → Site p t to site c r → IsLow c × IsLow r
  site_low to None c r h = absurd h
  site_low to (Some n) c r h = product_low (all_of (cells to)) (all_of (region ((terrain_of p).root n))) c r tt (root_there n) h

  first_low : (only : Only) (to : Lvalue) (e : Option Expression) (c r : ℕ) → First p t only to e c r → IsLow c × IsLow r
  first_low only to None c r h = absurd h
  first_low only to (Some e) c r h = product_low (all_of (cells to)) (only_of only (regions e)) c r tt tt h

  back_low : (given : Given) (to : Lvalue) (args : List Expression) (site : Option ℕ) (c r : ℕ) → GivesBack p t given to args site c r → IsLow c × IsLow r
  back_low Allocated to args site c r h = site_low to site c r h
  back_low Reallocated to args site c r (inl h) = site_low to site c r h
  back_low Reallocated to args site c r (inr h) = first_low HeapRoots to (slice_get args 0) c r h
  back_low Argument to args site c r h = first_low Every to (slice_get args 0) c r h
  back_low NoPointer to args site c r h = absurd h

  result_low : (given : Given) (to : Option Lvalue) (args : List Expression) (site : Option ℕ) (c r : ℕ) → GivesResult p t given to args site c r → IsLow c × IsLow r
  result_low given None args site c r h = absurd h
  result_low given (Some to) args site c r (k, h) = back_low given to args site c r h

  from_low : (moved : Moved) (d s : Expression) (c r : ℕ) → MovesFrom p t moved d s c r → IsLow c × IsLow r
  from_low AllCells d s c r h = copies_low (all_of (regions d)) (all_of (regions s)) c r h
  from_low Text d s c r h = product_low (only_of Texts (regions d)) (read_of Texts (regions s)) c r tt tt h
  from_low NoCells d s c r h = absurd h

  moves_low : (moved : Moved) (d s : Option Expression) (c r : ℕ) → Moves p t moved d s c r → IsLow c × IsLow r
  moves_low moved None s c r h = absurd h
  moves_low moved (Some d) None c r h = absurd h
  moves_low moved (Some d) (Some s) c r h = from_low moved d s c r h

  outside_low : (to : Option Lvalue) (site : Option ℕ) (c r : ℕ) → FromOutside p t to site c r → IsLow c × IsLow r
  outside_low None site c r h = absurd h
  outside_low (Some to) None c r h = absurd h
  outside_low (Some to) (Some site) c r h = product_low (only_of Pointers (cells to)) (all_of (region ((terrain_of p).root site))) c r tt (root_there site) h

  -- of a command that is formed
  puts_low : (n : ℕ) (f : Option ℕ) (command : Command) → IsCommand (table_of p) p.regions n f command → (c r : ℕ) → Puts p t command c r → IsLow c × IsLow r
  puts_low n f start is c r (inl h) = leaf_low h.object.start (object_leaves h.number h.object (starts h.object.kind) (formed.objects h.number h.object h.there).start) c r h.puts
  puts_low n f start is c r (inr h) = product_low (only_of PointerLeaves (region ((terrain_of p).root h.formal))) (all_of (region ((terrain_of p).root h.number))) c r (root_there h.formal) (root_there h.number) h.puts
  puts_low n f (entry g) is c r h = absurd h
  puts_low n f (exit g) is c r h = absurd h
  puts_low n f skip is c r h = absurd h
  puts_low n f (assign to e) is c r h = product_low (all_of (cells to)) (all_of (regions e)) c r tt tt h
  puts_low n f (copy to from) is c r h = copies_low (all_of (cells to)) (all_of (cells from)) c r h
  puts_low n f (init o values zeros) is c r h = leaf_low values (start_leaves f o is.0 values zeros is.4) c r h
  puts_low n f (assume a op b) is c r h = absurd h
  puts_low n f (eval e) is c r h = absurd h
  puts_low n f (call callee args) is c r h = passes_low callee (length args) h.place (as_struct h.arg) h.arg c r h.puts
  puts_low n f (return m to) is c r h = returns_low (as_call (command_at p m)) to c r h
  puts_low n f (library which to args site) is c r (inl h) = result_low (given_by which) to args site c r h
  puts_low n f (library which to args site) is c r (inr h) = moves_low (moved_by which) (slice_get args 0) (slice_get args 1) c r h
  puts_low n f (outside to args site) is c r h = outside_low to site c r h

  rule_low : (n c r : ℕ) → rules_of p t n c r → IsLow c × IsLow r
  rule_low n c r h = by (slice_get p.nodes n) refl h
    where
      by : (o : Option Node) → slice_get p.nodes n ≡ o → Puts p t (command_in o) c r → IsLow c × IsLow r
      by None e g = absurd g
      by (Some node) e g = puts_low n node.function node.command (formed.nodes n node e).formed c r g

pub program_rules : (p : Lowered) → IsFormed p → AreRules (rules_of p) (length p.regions) (length p.nodes)
program_rules p formed = record {
  few = λ t n c r h. few t n c r (slice_get p.nodes n) refl h;
  low = λ t n c r low h. rule_low p formed t low n c r h;
  more = λ t u n c r within h. puts_more p t u within (command_at p n) c r h;
}
  where
    few : (t : Table) (n c r : ℕ) (o : Option Node) → slice_get p.nodes n ≡ o → Puts p t (command_in o) c r → n < length p.nodes
    few t n c r None e h = absurd h
    few t n c r (Some node) e h = there_low p.nodes n node e
