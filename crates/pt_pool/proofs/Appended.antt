-- The front of the free list goes to the back of a queue.
use Rattle.std.proofs.Common.{◌≡◌, ◌≢◌, ℕ, zero, suc, ◌+◌, ◌-◌, ◌<◌, ◌≤◌, List, [], ◌∷◌, ◌++◌, length, get_or, set, map, sum_by, refl, sym, ap, ap₂, ◌∙◌, subst, arith, length-set}
use Rattle.std.proofs.lemmas.List.{length-map, get_or-set_same}
use Rattle.std.proofs.lemmas.List.Sums.{sum_by-set}
use Rattle.std.proofs.Math.Dec.{eqb-suc-zero}
use Rattle.pt_pool.specs.declared.links.Ends.{Ends}
use Rattle.pt_pool.specs.Chains.{chain, after, times, times_in}
use Rattle.pt_pool.specs.Linked.{chain_of, chains_of, EndsAtTail, IsRegion, no_ends, relinked, lengthened}
use Rattle.pt_pool.proofs.Counts.{times-append, times-self, times_in-set, times-le, times-two}
use Rattle.pt_pool.proofs.ChainLaws.{AgreeBut, less-one, chain-snoc, after-suc, chain-agree, chain-kept, after-agree, tail-kept}
use Rattle.pt_pool.proofs.Lists.{map-set_other, each-set}
use Rattle.pt_pool.proofs.Regions.{total, inside, chain-at, agree-set}

-- what the step comes to, where the links are next' and the ends of the queue e'
pub record IsAppended (next : List ℕ) (queues : List Ends) (free m q : ℕ) (next' : List ℕ) (e' : Ends) : Type 0 where
  pub chains : chains_of next' (set queues q e') ≡ set (chains_of next queues) q (get_or (chains_of next queues) q [] ++ free ∷ [])
  pub rest : chain next' m (get_or next free 0) ≡ chain next m (get_or next free 0)
  pub tails : (r : ℕ) → r < length (set queues q e') → EndsAtTail next' (get_or (set queues q e') r no_ends)
  pub size : length next' ≡ length next

module _ (next : List ℕ) (queues : List Ends) (free m reserved : ℕ) (region : IsRegion next queues free (suc m) reserved) (q : ℕ) (given : q < length queues) where
  abbrev C : List (List ℕ)
  C = chains_of next queues

  abbrev F : List ℕ
  F = chain next m (get_or next free 0)

  pub free_cell : free < length next
  free_cell = inside next queues free (suc m) reserved region free (omega (arith, times-self free F))

  free_one : times free (free ∷ F) + times_in free C ≡ 1
  free_one = region.once free free_cell

  wide : q < length C
  wide = omega (arith, given, length-map queues (chain_of next))

  module _ (h t s : ℕ) where
    empty : get_or queues q no_ends ≡ record { head = h; tail = t; len = 0; spare = s } → IsAppended next queues free m q next (lengthened (record { head = h; tail = t; len = 0; spare = s }) free)
    empty is = record {
      chains = map-set_other (chain_of next) (chain_of next) queues q (lengthened (record { head = h; tail = t; len = 0; spare = s }) free) no_ends (λ r within other. refl) ∙ ap (λ w. set C q (w ++ free ∷ [])) (sym (chain-at next queues q given ∙ ap (chain_of next) is));
      rest = refl;
      tails = each-set (EndsAtTail next) queues q (lengthened (record { head = h; tail = t; len = 0; spare = s }) free) no_ends given (λ some. refl) (λ r within other. region.tails r within);
      size = refl;
    }

    module _ (k : ℕ) (is : get_or queues q no_ends ≡ record { head = h; tail = t; len = suc k; spare = s }) where
      abbrev e : Ends
      e = record { head = h; tail = t; len = suc k; spare = s }

      abbrev next' : List ℕ
      next' = set next t free

      agree : AgreeBut t next next'
      agree = agree-set next t free

      at_end : after next k h ≡ t
      at_end = let was : EndsAtTail next e = subst (λ x. EndsAtTail next x) is (region.tails q given) in ap (λ n. after next n h) (sym (less-one k)) ∙ was (omega arith)

      spelled : get_or C q [] ≡ chain next k h ++ t ∷ []
      spelled = chain-at next queues q given ∙ ap (chain_of next) is ∙ chain-snoc next k h ∙ ap (λ w. chain next k h ++ w ∷ []) at_end

      counts : times t (get_or C q []) ≡ times t (chain next k h) + 1
      counts = omega (arith, ap (times t) spelled, times-append t (chain next k h) (t ∷ []), times-self t [])

      tail_cell : t < length next
      tail_cell = inside next queues free (suc m) reserved region t (omega (arith, counts, times-le t C q))

      tail_one : times t (free ∷ F) + times_in t C ≡ 1
      tail_one = region.once t tail_cell

      no_front : times t (chain next k h) ≡ 0
      no_front = omega (arith, tail_one, counts, times-le t C q)

      no_free : times t F ≡ 0
      no_free = omega (arith, tail_one, counts, times-le t C q)

      no_other : (r : ℕ) → r < length queues → r ≢ q → times t (chain_of next (get_or queues r no_ends)) ≡ 0
      no_other r within other = omega (arith, tail_one, counts, times-two t C q r other, ap (times t) (chain-at next queues r within))

      linked : after next' (suc k) h ≡ free
      linked = after-suc next' k h ∙ ap (λ w. get_or next' w 0) (after-agree t next next' agree k h no_front ∙ at_end) ∙ get_or-set_same next t free 0 tail_cell

      longer : chain next' (suc (suc k)) h ≡ get_or C q [] ++ free ∷ []
      longer =
          chain-snoc next' (suc k) h
          ∙ ap₂ (λ v w. v ++ w ∷ []) (chain-agree t next next' agree k h no_front ∙ sym (chain-at next queues q given ∙ ap (chain_of next) is)) linked

      abbrev e' : Ends
      e' = record { head = h; tail = free; len = suc (suc k); spare = s - 1 }

      at_end' : 0 < suc (suc k) → after next' (suc (suc k) - 1) h ≡ free
      at_end' some = ap (λ n. after next' n h) (less-one (suc k)) ∙ linked

      filled' : IsAppended next queues free m q next' e'
      filled' = record {
        chains = map-set_other (chain_of next) (chain_of next') queues q e' no_ends (λ r within other. let x = get_or queues r no_ends in chain-kept t next next' agree x.len x.head (no_other r within other)) ∙ ap (set C q) longer;
        rest = chain-kept t next next' agree m (get_or next free 0) no_free;
        tails = each-set (EndsAtTail next') queues q e' no_ends given at_end' (λ r within other. let x = get_or queues r no_ends in tail-kept t next next' agree x.len x.head x.tail (no_other r within other) (region.tails r within));
        size = length-set next t free;
      }

      links' : next' ≡ relinked next e free
      links' = rw (eqb-suc-zero k) refl

      ends' : e' ≡ lengthened e free
      ends' = rw (eqb-suc-zero k) (ap (λ n. record { head = h; tail = free; len = n; spare = s - 1 }) (omega arith))

      filled : IsAppended next queues free m q (relinked next e free) (lengthened e free)
      filled =
          subst (λ v. IsAppended next queues free m q v (lengthened e free)) links' (subst (λ v. IsAppended next queues free m q next' v) ends' filled')

    pub appended : (n : ℕ) → get_or queues q no_ends ≡ record { head = h; tail = t; len = n; spare = s } → IsAppended next queues free m q (relinked next (record { head = h; tail = t; len = n; spare = s }) free) (lengthened (record { head = h; tail = t; len = n; spare = s }) free)
    appended zero is = empty is
    appended (suc k) is = filled k is

  pub tail-cell : (e : Ends) → get_or queues q no_ends ≡ e → 0 < e.len → e.tail < length next
  tail-cell e is some = go e.len refl
    where
      go : (n : ℕ) → e.len ≡ n → e.tail < length next
      go zero empty = omega (arith, some, empty)
      go (suc k) more = tail_cell e.head e.tail e.spare k (is ∙ ap (λ n. record e { len = n }) more)

  module _ (e : Ends) (is : get_or queues q no_ends ≡ e) (some : 0 < e.spare) where
    step : IsAppended next queues free m q (relinked next e free) (lengthened e free)
    step = appended e.head e.tail e.spare e.len is

    every : (c : ℕ) → total (relinked next e free) (set queues q (lengthened e free)) (get_or next free 0) m c ≡ total next queues free (suc m) c
    every c =
        omega (arith, ap (times c) step.rest, ap (times_in c) step.chains, times_in-set c C q (get_or C q [] ++ free ∷ []) wide, times-append c (get_or C q []) (free ∷ []))

    pub chains' : chains_of (relinked next e free) (set queues q (lengthened e free)) ≡ set C q (get_or C q [] ++ free ∷ [])
    chains' = step.chains

    pub size' : length (relinked next e free) ≡ length next
    size' = step.size

    pub reserved-above : 0 < reserved
    reserved-above = omega (arith, region.promised, sum_by-set (λ ends. ends.spare) queues q (lengthened e free) no_ends given, ap (λ ends. ends.spare) is)

    pub region' : IsRegion (relinked next e free) (set queues q (lengthened e free)) (get_or next free 0) m (reserved - 1)
    region' = record {
      once = λ c within. every c ∙ region.once c (omega (arith, within, step.size));
      within = λ c past. every c ∙ region.within c (omega (arith, past, step.size));
      tails = step.tails;
      counted = omega (arith, region.counted, step.size, sum_by-set (λ ends. ends.len) queues q (lengthened e free) no_ends given, ap (λ ends. ends.len) is);
      promised = omega (arith, region.promised, sum_by-set (λ ends. ends.spare) queues q (lengthened e free) no_ends given, ap (λ ends. ends.spare) is, reserved-above);
      covered = omega (arith, region.covered, reserved-above);
    }
