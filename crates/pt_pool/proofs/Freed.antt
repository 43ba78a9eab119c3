-- The front of a queue goes to the front of the free list.
use Rattle.std.proofs.Common.{◌≡◌, ◌≢◌, ℕ, zero, suc, ◌+◌, ◌-◌, ◌<◌, ◌≤◌, List, [], ◌∷◌, length, get_or, set, map, sum_by, refl, sym, ap, ◌∙◌, subst, arith, length-set}
use Rattle.std.proofs.lemmas.List.{length-map, get_or-set_same}
use Rattle.std.proofs.lemmas.List.Sums.{sum_by-set}
use Rattle.pt_pool.specs.declared.links.Ends.{Ends}
use Rattle.pt_pool.specs.Chains.{chain, after, times, times_in}
use Rattle.pt_pool.specs.Linked.{chain_of, chains_of, EndsAtTail, IsRegion, no_ends}
use Rattle.pt_pool.proofs.Counts.{times-self, times_in-set, times-le, times-two}
use Rattle.pt_pool.proofs.ChainLaws.{chain-kept, tail-kept, tail-behind}
use Rattle.pt_pool.proofs.Lists.{map-set_other, each-set}
use Rattle.pt_pool.proofs.Regions.{total, inside, chain-at, agree-set}

-- the front of queue q, whose ends are these, goes to the front of the free list
module _ (next : List ℕ) (queues : List Ends) (free free_len reserved : ℕ) (region : IsRegion next queues free free_len reserved) (q : ℕ) (given : q < length queues) (h t n s : ℕ) (is : get_or queues q no_ends ≡ record { head = h; tail = t; len = suc n; spare = s }) where
  abbrev C : List (List ℕ)
  C = chains_of next queues

  abbrev F : List ℕ
  F = chain next free_len free

  abbrev R : List ℕ
  R = chain next n (get_or next h 0)

  abbrev next' : List ℕ
  next' = set next h free

  abbrev e' : Ends
  e' = record { head = get_or next h 0; tail = t; len = n; spare = s + 1 }

  pub front : get_or C q [] ≡ h ∷ R
  front = chain-at next queues q given ∙ ap (chain_of next) is

  wide : q < length C
  wide = omega (arith, given, length-map queues (chain_of next))

  counts : times h (get_or C q []) ≡ 1 + times h R
  counts = ap (times h) front ∙ times-self h R

  pub cell : h < length next
  cell = inside next queues free free_len reserved region h (omega (arith, counts, times-le h C q))

  one : times h F + times_in h C ≡ 1
  one = region.once h cell

  no_free : times h F ≡ 0
  no_free = omega (arith, one, counts, times-le h C q)

  no_rest : times h R ≡ 0
  no_rest = omega (arith, one, counts, times-le h C q)

  no_other : (r : ℕ) → r < length queues → r ≢ q → times h (chain_of next (get_or queues r no_ends)) ≡ 0
  no_other r within other = omega (arith, one, counts, times-two h C q r other, ap (times h) (chain-at next queues r within))

  free' : chain next' (suc free_len) h ≡ h ∷ F
  free' = rw (get_or-set_same next h free 0 cell) (ap (λ w. h ∷ w) (chain-kept h next next' (agree-set next h free) free_len free no_free))

  rest' : chain next' n (get_or next h 0) ≡ R
  rest' = chain-kept h next next' (agree-set next h free) n (get_or next h 0) no_rest

  pub chains' : chains_of next' (set queues q e') ≡ set C q R
  chains' =
      map-set_other (chain_of next) (chain_of next') queues q e' no_ends (λ r within other. let e = get_or queues r no_ends in chain-kept h next next' (agree-set next h free) e.len e.head (no_other r within other))
      ∙ ap (set C q) rest'

  every : (c : ℕ) → total next' (set queues q e') h (suc free_len) c ≡ total next queues free free_len c
  every c = omega (arith, ap (times c) free', ap (times_in c) chains', times_in-set c C q R wide, ap (times c) front)

  pub apart : times_in h (chains_of next' (set queues q e')) ≡ 0
  apart = omega (arith, every h, one, ap (times h) free', times-self h F)

  was_tail : 0 < suc n → after next (suc n - 1) h ≡ t
  was_tail = subst (λ e. EndsAtTail next e) is (region.tails q given)

  tail' : 0 < n → after next' (n - 1) (get_or next h 0) ≡ t
  tail' = tail-kept h next next' (agree-set next h free) n (get_or next h 0) t no_rest (tail-behind next n h t was_tail)

  pub region' : IsRegion next' (set queues q e') h (free_len + 1) (reserved + 1)
  region' = record {
    once = λ c within. let e : free_len + 1 ≡ suc free_len = omega arith in rw e (every c ∙ region.once c (omega (arith, within, length-set next h free)));
    within = λ c past. let e : free_len + 1 ≡ suc free_len = omega arith in rw e (every c ∙ region.within c (omega (arith, past, length-set next h free)));
    tails = each-set (EndsAtTail next') queues q e' no_ends given tail' (λ r within other. let e = get_or queues r no_ends in tail-kept h next next' (agree-set next h free) e.len e.head e.tail (no_other r within other) (region.tails r within));
    counted = omega (arith, region.counted, length-set next h free, sum_by-set (λ ends. ends.len) queues q e' no_ends given, ap (λ ends. ends.len) is);
    promised = omega (arith, region.promised, sum_by-set (λ ends. ends.spare) queues q e' no_ends given, ap (λ ends. ends.spare) is);
    covered = omega (arith, region.covered);
  }
