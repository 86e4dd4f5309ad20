use Rattle.rows_domain.proofs.diagrams.tell.Goals as goal

-- each call keeps the sets that were there
pub show-requires-3-clause-set : goal.show-requires-3-clause-set
show-requires-3-clause-set c =
    let left = c.in_ok-left.left in
    let behind_row = c.in_ok-right.ensures.made.keeps.belongs left c.in_ok-left.ensures.made.belongs in
    c.in_ok-both.ensures.made.keeps.belongs left (c.in_ok-either.ensures.made.keeps.belongs left behind_row)
