-- What a keeping tells.
use Rattle.std.proofs.Common.{◌≡◌, ◌^◌, ◌<◌, ◌≤◌, ℕ, List, length, ap, arith}
use Rattle.std.specs.List.{All}
use Rattle.sp_engine_keeping.specs.declared.keeping.Form.{Form}
use Rattle.sp_engine_keeping.specs.declared.keeping.Form.TheVariants.{Rows, Diagram}
use Rattle.sp_bdd.specs.Listed.{listed}
use Rattle.sp_bdd.specs.Table.{diagram}
use Rattle.sp_engine_keeping.specs.Triples.{AreWithin}
use Rattle.sp_engine_keeping.specs.Codes.{AreSmall, codes_from}
use Rattle.sp_engine_keeping.specs.Kept.{rows_of, IsKept}
use Rattle.sp_engine_keeping.proofs.Coding.{length-told, all_high}

pub length-rows_of : (nodes : ℕ) (k : Form) → IsKept nodes k → length (rows_of nodes k) ≡ nodes
length-rows_of nodes (Rows rows) kept = kept.0
length-rows_of nodes (Diagram manager set) kept = length-told 0 nodes (listed manager.bits (diagram manager set) 0)

pub small_rows : (locations : ℕ) (rows : List (List (ℕ × ℕ))) → locations ≤ 1048576 → length rows ≤ 1048576 → All (AreWithin locations (length rows)) rows → All AreSmall rows
small_rows locations rows a b bounds k d low i e h = let one = bounds k d low i e h in (omega (arith, one.0), omega (arith, one.1))

pub codes_fit : (rows : List (List (ℕ × ℕ))) (bits : ℕ) → bits ≡ 60 → length rows ≤ 1048576 → All AreSmall rows → All (λ x. x < 2 ^ bits) (codes_from 0 rows)
codes_fit rows bits e few small i d h = let one = all_high 0 rows small i d h in omega (arith, one, ap (λ b. 2 ^ b) e)
