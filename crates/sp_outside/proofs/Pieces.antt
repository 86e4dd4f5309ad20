-- One piece more: of a text in memory, of what goes out, and of the room that is left.
use Rattle.std.proofs.Common.{◌≡◌, ℕ, ◌+◌, ◌-◌, List, take, drop, length, Option, Some, None, sym, ◌∙◌, ap, subst, arith, take-add}
use Rattle.std.specs.Io.KnownBytes.{Appends, Consumes}
use Rattle.std.proofs.KnownBytes.{Appends-trans}
use Rattle.std.proofs.lemmas.List.{drop-drop, take-append-drop, take_rest}
use Rattle.sp_outside.specs.Told.{Told, untold, missing, held, bytes_left, rest_of, TakesRoom}

-- what is left of a text n bytes further on
bytes_left-further : (text_of : List ℕ → Told) (asked : Option (List ℕ)) (position n : ℕ) (rest : List ℕ)
    → bytes_left text_of asked (Some position) ≡ Some rest → bytes_left text_of asked (Some (position + n)) ≡ Some (drop n rest)
bytes_left-further text_of None position n rest e = cc
bytes_left-further text_of (Some name) position n rest e = further (text_of name) e
  where
    further : (told : Told) → rest_of told (Some position) ≡ Some rest → rest_of told (Some (position + n)) ≡ Some (drop n rest)
    further untold e = cc
    further missing e = cc
    further (held text) e = let same : drop position text ≡ rest = cc in ap Some (sym (drop-drop n position text) ∙ ap (drop n) same)

-- a piece that begins with the front of what is left consumes that front
pub Consumes-piece : (text_of : List ℕ → Told) (asked : Option (List ℕ)) (position n : ℕ) (rest piece : List ℕ)
    → bytes_left text_of asked (Some position) ≡ Some rest → take n piece ≡ take n rest
    → Consumes (bytes_left text_of asked (Some position)) (bytes_left text_of asked (Some (position + n))) (take n piece)
Consumes-piece text_of asked position n rest piece p e =
    rw (p, bytes_left-further text_of asked position n rest p, e) (sym (take-append-drop n rest))

-- the first `sent` bytes went out, and then `count` of the rest
pub Appends-take_more : (a b c : Option (List ℕ)) (bytes : List ℕ) (sent count : ℕ)
    → Appends a b (take sent bytes) → Appends b c (take count (take (length bytes - sent) (drop sent bytes))) → Appends a c (take (sent + count) bytes)
Appends-take_more a b c bytes sent count p q =
    subst (Appends a c) (sym (take-add sent count bytes)) (Appends-trans a b c _ _ p (rw take_rest at q))

-- m bytes had room, and then n had
pub TakesRoom-trans : (a b c : Option ℕ) (m n : ℕ) → TakesRoom a b m → TakesRoom b c n → TakesRoom a c (m + n)
TakesRoom-trans None b c m n p q = tt
TakesRoom-trans (Some x) b c m n p q =
    let left = rw p.1 at q in
    let same : x - m - n ≡ x - (m + n) = omega arith in
    (omega (arith, p.0, left.0), left.1 ∙ ap Some same)

-- what one piece more changes
pub ruleset pieces = (Consumes-piece, Appends-take_more, TakesRoom-trans)
