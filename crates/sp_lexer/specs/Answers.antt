-- What `scan` answers.
use Rattle.std.specs.Prelude.{◌≡◌, ℕ, List, Result, Ok, Err}
use Rattle.std.specs.declared.alloc.Global.{Global}
use Rattle.std.specs.declared.vec.Vec.{Vec}
use Rattle.sp_tree.specs.declared.fault.Fault.{Fault}
use Rattle.sp_tree.specs.declared.token.Token.{Token}
use Rattle.sp_lexer.specs.declared.scanner.ScanError.{ScanError}
use Rattle.sp_lexer.specs.declared.scanner.ScanError.TheVariants as errors
use Rattle.sp_tree.specs.declared.fault.Place.{Place}
use Rattle.sp_lexer.specs.declared.stop.Stop.{Stop}
use Rattle.sp_lexer.specs.declared.stop.Stop.TheVariants as stops
use Rattle.sp_lexer.specs.declared.spot.Spot.{Spot}
use Rattle.sp_lexer.specs.Scan.{IsAnswer}

-- a text's answer, and no other one
pub record IsOnlyAnswer (names : List (List ℕ)) (text : List ℕ) (from : Spot) (room : ℕ) (answer : Result (List Token) Fault) : Type 0 where
  pub found : IsAnswer names text from room answer
  pub only : (other : Result (List Token) Fault) → IsAnswer names text from room other → other ≡ answer

-- the answer of a text, unless memory ran out
abbrev pub Answers : List (List ℕ) → List ℕ → Spot → ℕ → Result (Vec Token Global) ScanError → Type 0
Answers names text from room (Ok tokens) = IsOnlyAnswer names text from room (Ok tokens.items)
Answers names text from room (Err (errors.Fault fault)) = IsOnlyAnswer names text from room (Err fault)
Answers names text from room (Err errors.NoMemory) = Unit {0}

-- the error of a piece that isn't passed, at its place
abbrev pub error_at : Stop → Place → ScanError
error_at (stops.Fault kind) place = errors.Fault (record { kind = kind; place = place })
error_at stops.NoMemory place = errors.NoMemory
