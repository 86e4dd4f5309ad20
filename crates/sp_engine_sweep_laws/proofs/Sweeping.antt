-- A path is a line of bridges.
use Rattle.std.proofs.Common.{◌≡◌, ◌⊎◌, inl, inr, ℕ, Bool, true, false, ◌||◌, sym, ap, ◌∙◌}
use Rattle.std.proofs.lemmas.Bool.{cases_Bool, or_left, or_parts}
use Rattle.sp_lattice.specs.System.{Meaning, has}
use Rattle.sp_lattice.specs.Dependency.{Passing, Path, direct, onward, Depends}
use Rattle.sp_engine_sweep_laws.specs.Sweep.{touches, Bridge, edge, across, Reaches, begins, behind, IsSwept}

module _ {V : Type 0} (m : Meaning V) (l : ℕ) where
  join_paths : {from mid to : ℕ} → Path m l from mid → has l (m.defs mid) ≡ false → Path m l mid to → Path m l from to
  join_paths first free (direct p) = onward first free p
  join_paths first free (onward rest still p) = onward (join_paths first free rest) still p

  -- a bridge is a path
  crossed : {from to : ℕ} → Bridge m l from to → Path m l from to
  crossed (edge p) = direct p
  crossed (across {mid = mid} b out p) = onward (crossed b) (or_parts (has l (m.defs mid)) (has l (m.uses mid)) out).0 p

  pub swept_path : {to from : ℕ} → Reaches m l to from → Path m l from to
  swept_path (begins b touched) = crossed b
  swept_path (behind rest free b touched) = join_paths (crossed b) free (swept_path rest)

  -- the same line of bridges, from its beginning, to any node
  data Line (from : ℕ) : ℕ → Type 0 where
    one : {to : ℕ} → Bridge m l from to → Line from to
    more : {mid to : ℕ} → Line from mid → touches m l mid ≡ true → has l (m.defs mid) ≡ false → Bridge m l mid to → Line from to

  -- a line goes on over a node that doesn't touch l, and by one that does
  extended : {from mid to : ℕ} → Line from mid → touches m l mid ≡ false → Passing m l mid to → Line from to
  extended (one b) out p = one (across b out p)
  extended (more line touched free b) out p = more line touched free (across b out p)

  line_of : {from to : ℕ} → Path m l from to → Line from to
  line_of (direct p) = one (edge p)
  line_of (onward {mid = mid} path free p) =
      let line = line_of path in
      elim (cases_Bool (touches m l mid)) [
        | inl touched ↦ more line touched free (edge p)
        | inr out ↦ extended line out p
      ]

  -- backward along a line from what is reached
  back : {from mid to : ℕ} → touches m l from ≡ true → Line from mid → has l (m.defs mid) ≡ false → Reaches m l to mid → Reaches m l to from
  back start (one b) free rest = behind rest free b start
  back start (more line touched still b) free rest = back start line still (behind rest free b touched)

  reached_by : {from to : ℕ} → touches m l from ≡ true → Line from to → Reaches m l to from
  reached_by start (one b) = begins b start
  reached_by start (more line touched free b) = back start line free (begins b touched)

  pub swept_depends : (from to : ℕ) → IsSwept m from l to → Depends m from l to
  swept_depends from to s = record { defined = s.defined; used = s.used; path = swept_path s.reached }

  pub depends_swept : (from to : ℕ) → Depends m from l to → IsSwept m from l to
  depends_swept from to d = record { defined = d.defined; used = d.used; reached = reached_by (or_left (has l (m.defs from)) (has l (m.uses from)) d.defined) (line_of d.path) }
