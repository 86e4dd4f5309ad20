-- What a node defines, by parts: what its command may change, and what its accesses cut.
use Rattle.std.specs.Prelude.{◌≡◌, ℕ, Bool, false, Option, Some, None}
use Rattle.sp_effect_scene.specs.Analysed.{Analysed}
use Rattle.sp_transfer.specs.Effects.{own_at, cut_at}
use Rattle.sp_transfer.specs.Equations.{AreLocations}
use Rattle.sp_transfer.specs.declared.effects.Cuts.{Cuts}

-- none where nothing is cut
abbrev pub AreCuts : Analysed → Bool → ℕ → Option Cuts → Type 0
AreCuts a sharp n None = (l : ℕ) → cut_at a sharp n l ≡ false
AreCuts a sharp n (Some cuts) =
    AreLocations a (own_at a n) cuts.own.items × AreLocations a (cut_at a sharp n) cuts.cut.items
