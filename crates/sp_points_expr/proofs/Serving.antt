-- A rule that is served is settled, or waits again, and the others still are.
use Rattle.std.proofs.Common.{◌≡◌, ◌≢◌, ◌⊎◌, inl, inr, ℕ, zero, suc, ◌<◌, ◌≤◌, Bool, true, false, List, [], ◌∷◌, length, get_or, refl, sym, ap, ◌∙◌, subst, arith}
use Rattle.std.proofs.lemmas.Bool.{false≢true}
use Rattle.sp_base_sets.specs.Sets.{has, Ascends}
use Rattle.sp_base_sets.specs.Reached.{row}
use Rattle.sp_base_sets.proofs.Members.{which}
use Rattle.sp_points_expr.specs.Tables.{Table, Rules, IsClosed, IsLeastClosed, AreRules, Limited}
use Rattle.sp_points_expr.specs.Queue.{Waiting}
use Rattle.sp_points_expr.specs.Growing.{table, reads, waits, in_puts, Grows, Registers, InRange, Settled, Working}
use Rattle.sp_points_expr.specs.declared.growing.Growing.{Growing}
use Rattle.sp_points_expr.specs.declared.growing.Put.{Put}

-- what lists have is in one of them
pub row_low : (rows : List (List ℕ)) (c r : ℕ) → has r (row rows c) ≡ true → c < length rows
row_low [] c r h = absurd (false≢true h)
row_low (xs ∷ rows) zero r h = omega arith
row_low (xs ∷ rows) (suc c) r h = omega (arith, row_low rows c r h)

decide : (b : Bool) → (b ≡ true) ⊎ (b ≡ false)
decide true = inl refl
decide false = inr refl

module _ (rules : Rules) (height count : ℕ) (are : AreRules rules height count) where
  pub served : (s a b : Growing) (rule : ℕ) (seen : List ℕ) (puts : List Put) → Working rules height count rule s → rule < count →
      Registers seen rule s a → a.rows ≡ s.rows → a.queue ≡ s.queue → Grows (λ c r. in_puts puts c r ≡ true) a b →
      ((c r : ℕ) → in_puts puts c r ≡ true → rules (table s) rule c r) →
      ((u : Table) → Limited s.rows.items seen u → (c r : ℕ) → rules u rule c r → in_puts puts c r ≡ true) →
      Working rules height count count b
  served s a b rule seen puts working low registers same_rows same_queue grows sound whole = record {
    sound = λ other closed c r h. covered other closed c r (from c r h);
    settled = λ n n_low apart. settles n n_low (decide (waits b n)) (which n rule);
    rows = grows.rows ∙ ap (λ v. length v.items) same_rows ∙ working.rows;
    readers = ap length grows.readers ∙ registers.long ∙ working.readers;
    counted = grows.count ∙ ap (λ q. q.count) same_queue ∙ working.counted;
    few = grows.few (subst (λ q. length q.numbers ≤ q.count) (sym same_queue) working.few);
    low = λ c r h. lower c r (from c r h);
    known = λ n c h. knows n c (registers.origin n c (sym (ap (λ xs. has n (get_or xs c [])) grows.readers) ∙ h));
    ascending = grows.ascending (subst (λ v. (c : ℕ) → Ascends (row v.items c)) (sym same_rows) working.ascending);
  }
    where
      old : (c r : ℕ) → has r (table a c) ≡ true → has r (table s c) ≡ true
      old c r h = sym (ap (λ v. has r (row v.items c)) same_rows) ∙ h

      from : (c r : ℕ) → has r (table b c) ≡ true → (has r (table s c) ≡ true) ⊎ (in_puts puts c r ≡ true)
      from c r h = by (grows.origin c r h)
        where
          by : (has r (table a c) ≡ true) ⊎ (in_puts puts c r ≡ true) → (has r (table s c) ≡ true) ⊎ (in_puts puts c r ≡ true)
          by (inl g) = inl (old c r g)
          by (inr g) = inr g

      more : (c r : ℕ) → has r (table s c) ≡ true → has r (table b c) ≡ true
      more c r h = grows.more c r (ap (λ v. has r (row v.items c)) same_rows ∙ h)

      covered : (other : Table) → IsClosed rules other → (c r : ℕ) → (has r (table s c) ≡ true) ⊎ (in_puts puts c r ≡ true) → has r (other c) ≡ true
      covered other closed c r (inl h) = working.sound other closed c r h
      covered other closed c r (inr h) = closed rule c r (are.more (table s) other rule c r (working.sound other closed) (sound c r h))

      lower : (c r : ℕ) → (has r (table s c) ≡ true) ⊎ (in_puts puts c r ≡ true) → r < height
      lower c r (inl h) = working.low c r h
      lower c r (inr h) = (are.low (table s) rule c r working.low (sound c r h)).1

      knows : (n c : ℕ) → (reads s n c ≡ true) ⊎ (n ≡ rule) → n < count
      knows n c (inl h) = working.known n c h
      knows n c (inr e) = omega (arith, e, low)

      reader_of : (n c : ℕ) → reads a n c ≡ true → reads b n c ≡ true
      reader_of n c h = ap (λ xs. has n (get_or xs c [])) grows.readers ∙ h

      -- where a rule doesn't wait, the rows that it reads haven't grown
      still : (n : ℕ) → waits b n ≡ false → (c r : ℕ) → reads a n c ≡ true → has r (table b c) ≡ true → has r (table s c) ≡ true
      still n idle c r reader h = by (grows.woken c r n h reader)
        where
          by : (has r (table a c) ≡ true) ⊎ (waits b n ≡ true) → has r (table s c) ≡ true
          by (inl g) = old c r g
          by (inr w) = absurd (false≢true (sym idle ∙ w))

      count_is : length b.rows.items ≡ length s.rows.items
      count_is = grows.rows ∙ ap (λ v. length v.items) same_rows

      settles : (n : ℕ) → n < count → (waits b n ≡ true) ⊎ (waits b n ≡ false) → (n ≡ rule) ⊎ (n ≢ rule) → (waits b n ≡ true) ⊎ Settled rules b n
      settles n n_low (inl w) which = inl w
      settles n n_low (inr idle) (inl e) = inr (λ u range limited c r put. grows.all c r (whole u (λ k q h g. bounded u range limited k q h g) c r (subst (λ m. rules u m c r) e put)))
        where
          bounded : (u : Table) → InRange (length b.rows.items) u → ((c r : ℕ) → reads b n c ≡ true → has r (u c) ≡ true → has r (table b c) ≡ true) → (k q : ℕ) → has k seen ≡ true → has q (u k) ≡ true → has q (table s k) ≡ true
          bounded u range limited k q h g =
              let k_low : k < length s.readers.items = omega (arith, range k q g, count_is, working.rows, working.readers) in
              let reader : reads a n k ≡ true = subst (λ m. reads a m k ≡ true) (sym e) (registers.all k k_low h) in
              still n idle k q reader (limited k q (reader_of n k reader) g)
      settles n n_low (inr idle) (inr apart) = by (working.settled n n_low apart)
        where
          by : (waits s n ≡ true) ⊎ Settled rules s n → (waits b n ≡ true) ⊎ Settled rules b n
          by (inl w) = inl (grows.kept n (ap (λ q. has n q.numbers) same_queue ∙ w))
          by (inr settled) = inr (λ u range limited c r put. more c r (settled u (λ k q g. omega (arith, range k q g, count_is))
              (λ k q reader g. let reader_now = registers.kept n k reader in still n idle k q reader_now (limited k q (reader_of n k reader_now) g)) c r put))

  -- a rule is taken out of the queue
  pub popped : (s : Growing) (rule : ℕ) (queue : Waiting) → Working rules height count count s → ((n : ℕ) → n ≢ rule → has n s.queue.numbers ≡ true → has n queue.numbers ≡ true) → queue.count ≡ s.queue.count → length queue.numbers ≤ queue.count → Working rules height count rule (record s { queue = queue })
  popped s rule queue working others counted few = record {
    sound = working.sound;
    settled = λ n low apart. by n apart (working.settled n low (omega (arith, low)));
    rows = working.rows;
    readers = working.readers;
    counted = counted ∙ working.counted;
    few = few;
    low = working.low;
    known = working.known;
    ascending = working.ascending;
  }
    where
      by : (n : ℕ) → n ≢ rule → (waits s n ≡ true) ⊎ Settled rules s n → (has n queue.numbers ≡ true) ⊎ Settled rules s n
      by n apart (inl w) = inl (others n apart w)
      by n apart (inr settled) = inr settled

  -- where none waits, the table is closed, and the least that is
  pub done : (s : Growing) → Working rules height count count s → s.queue.numbers ≡ [] → IsLeastClosed rules (table s)
  done s working empty = record {
    closed = λ n c r put. at n c r put (are.few (table s) n c r put);
    least = working.sound;
  }
    where
      at : (n c r : ℕ) → rules (table s) n c r → n < count → has r (table s c) ≡ true
      at n c r put low = by (working.settled n low (omega (arith, low)))
        where
          by : (waits s n ≡ true) ⊎ Settled rules s n → has r (table s c) ≡ true
          by (inl w) = absurd (false≢true (sym (ap (λ xs. has n xs) empty) ∙ w))
          by (inr settled) = settled (table s) (row_low s.rows.items) (λ k q reader g. g) c r put

  -- at first nothing is in the table, and all rules wait
  pub first : (s : Growing) → ((c r : ℕ) → has r (table s c) ≡ true → ⊥) → ((n c : ℕ) → reads s n c ≡ true → ⊥) → length s.rows.items ≡ height → length s.readers.items ≡ height → s.queue.count ≡ count → length s.queue.numbers ≤ s.queue.count → ((n : ℕ) → n < count → waits s n ≡ true) → ((c : ℕ) → Ascends (row s.rows.items c)) → Working rules height count count s
  first s empty unread rows readers counted few all ascending = record {
    sound = λ other closed c r h. absurd (empty c r h);
    settled = λ n low apart. inl (all n low);
    rows = rows;
    readers = readers;
    counted = counted;
    few = few;
    low = λ c r h. absurd (empty c r h);
    known = λ n c h. absurd (unread n c h);
    ascending = ascending;
  }
