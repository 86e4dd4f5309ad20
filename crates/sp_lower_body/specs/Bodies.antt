-- A body as far as it is lowered, and what jumps, labels and loops do to it (C90 6.6).
use Rattle.std.specs.Prelude.{ℕ, Bool, List, [], ◌∷◌, ◌++◌, map, if◌then◌else◌}
use Rattle.sp_tree.specs.declared.fault.Place.{Place}
use Rattle.sp_ir.specs.Commands.{skip}
use Rattle.sp_lower_draft.specs.Context.{Context}
use Rattle.sp_lower_draft.specs.Draft.{Draft, Branch, next, with_loose, join, add}

pub record Body : Type 0 where
  pub draft : Draft
  -- the ends that leave the innermost loop or switch, go on with the innermost loop, and leave the
  -- function
  pub breaks : List ℕ
  pub continues : List ℕ
  pub returns : List ℕ
  -- ends with the label that each goes to, and labels with their nodes
  pub gotos : List (ℕ × ℕ)
  pub labels : List (ℕ × ℕ)
  -- of the innermost switch: the nodes that assume the cases to come, in the order of the text, and
  -- the node of its default
  pub cases : List ℕ
  pub otherwise : ℕ

abbrev pub with_draft : Draft → Body → Body
with_draft s b = record b { draft = s }

-- the loose ends leave; none is left
abbrev pub leaving : Draft → Draft
leaving s = with_loose [] s

-- these ends are loose before those that are
abbrev pub meeting : List ℕ → Body → Body
meeting ends b = with_draft (with_loose (ends ++ b.draft.loose) b.draft) b

-- ---- jumps (C90 6.6.6)

abbrev pub gone : ℕ → Body → Body
gone n b = record b {
  draft = leaving b.draft;
  gotos = b.gotos ++ map (λ m. (m, n)) b.draft.loose;
}

abbrev pub continued : Body → Body
continued b = record b { draft = leaving b.draft; continues = b.continues ++ b.draft.loose }

abbrev pub broken : Body → Body
broken b = record b { draft = leaving b.draft; breaks = b.breaks ++ b.draft.loose }

abbrev pub returned : Body → Body
returned b = record b { draft = leaving b.draft; returns = b.returns ++ b.draft.loose }

-- ---- labels (C90 6.6.1)

abbrev pub labelled : Context → ℕ → Place → Body → Body
labelled c n place b = record b {
  draft = add c skip place b.draft;
  labels = b.labels ++ (n, next b.draft) ∷ [];
}

-- a node that is reached also from this end
abbrev pub marked : Context → ℕ → Place → Body → Body
marked c from place b =
    with_draft (add c skip place (with_loose (b.draft.loose ++ from ∷ []) b.draft)) b

-- the case that comes next: its node, and the cases behind it
abbrev pub next_case : List ℕ → ℕ → ℕ
next_case [] otherwise = otherwise
next_case (n ∷ ns) otherwise = n

abbrev pub cases_behind : List ℕ → List ℕ
cases_behind [] = []
cases_behind (n ∷ ns) = ns

-- a case is reached also from the node that assumes its value
abbrev pub case_marked : Context → Place → Body → Body
case_marked c place b = record (marked c (next_case b.cases b.otherwise) place b) {
  cases = cases_behind b.cases;
}

-- ---- loops (C90 6.6.5)

-- inside a loop with these loose ends; the ends that leave it and go on with it are its own
abbrev pub in_loop : List ℕ → Draft → Body → Body
in_loop ends s b = record b { draft = with_loose ends s; breaks = []; continues = [] }

-- the node to which the body's ends and `continue` go
abbrev pub at_end : Context → Place → Body → Body
at_end c place b =
    with_draft (add c skip place (with_loose (b.draft.loose ++ b.continues) b.draft)) b

-- behind a loop, in whose place these are the ends that leave the loop outside and go on with it:
-- these ends and those that left it are loose
abbrev pub out_of_loop : List ℕ → List ℕ → List ℕ → Draft → Body → Body
out_of_loop breaks continues ends s b = record b {
  draft = with_loose (ends ++ b.breaks) s;
  breaks = breaks;
  continues = continues;
}

-- behind the body of a `while`: its ends and its `continue`s go to the head; the false ends leave
abbrev pub out_of_while : List ℕ → List ℕ → ℕ → List ℕ → Body → Body
out_of_while breaks continues head ends b =
    out_of_loop breaks continues ends (join head (b.draft.loose ++ b.continues) b.draft) b

-- behind the branch of a `do`: its true ends go to the head, its false ends leave
abbrev pub out_of_do : List ℕ → List ℕ → ℕ → Branch → Body → Body
out_of_do breaks continues head branch b =
    out_of_loop breaks continues branch.no (join head branch.yes branch.after) b

-- behind the last expression of a `for`: its ends go to the head
abbrev pub out_of_for : List ℕ → List ℕ → ℕ → List ℕ → Body → Body
out_of_for breaks continues head ends b =
    out_of_loop breaks continues ends (join head b.draft.loose b.draft) b

-- ---- switch (C90 6.6.4.2)

-- inside a switch with these nodes of cases and this one of its default; no end is loose
abbrev pub in_switch : List ℕ → ℕ → Draft → Body → Body
in_switch cases otherwise s b = record b {
  draft = s;
  breaks = [];
  cases = cases;
  otherwise = otherwise;
}

-- behind a switch inside of the body `outer`: without a default its node is loose too
abbrev pub out_of_switch : List ℕ → List ℕ → ℕ → Bool → Body → Body
out_of_switch breaks cases otherwise has_default b = record b {
  draft = with_loose
      (b.draft.loose ++ b.breaks ++ (if has_default then [] else b.otherwise ∷ [])) b.draft;
  breaks = breaks;
  cases = cases;
  otherwise = otherwise;
}
