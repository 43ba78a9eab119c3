-- The steps on the links, as the code makes them.
use Rattle.std.proofs.Common.{◌≡◌, ℕ, zero, suc, ◌+◌, ◌-◌, ◌<◌, ◌≤◌, List, [], ◌∷◌, ◌++◌, drop, length, get_or, set, map, sum_by, refl, sym, ap, ap₂, ◌∙◌, subst, arith}
use Rattle.std.proofs.lemmas.List.{get_or-map, get_or_default, map-set}
use Rattle.std.proofs.lemmas.List.Sums.{sum_by-set, sum_by-cons}
use Rattle.pt_pool.specs.declared.links.Ends.{Ends}
use Rattle.pt_pool.specs.Chains.{chain, times_in}
use Rattle.pt_pool.specs.Linked.{chain_of, chains_of, IsRegion, no_ends, relinked, lengthened}
use Rattle.pt_pool.specs.Queues.{spare_at, raised, lowered}
use Rattle.pt_pool.proofs.ChainLaws.{length-chain}
use Rattle.pt_pool.proofs.Regions.{chain-at}
use Rattle.pt_pool.proofs.Appended as appended
use Rattle.pt_pool.proofs.Freed as freed

abbrev pub spares_of : List Ends → List ℕ
spares_of queues = map (λ ends. ends.spare) queues

-- the ends once the front is gone
abbrev pub shortened : List ℕ → Ends → ℕ → Ends
shortened next e head = record { head = head; tail = e.tail; len = e.len - 1; spare = e.spare + 1 }

pub record IsAppendStep (next : List ℕ) (queues : List Ends) (free free_len reserved q : ℕ) (e : Ends) (f : ℕ) : Type 0 where
  pub cell : free < length next
  pub tail : 0 < e.len → e.tail < length next
  pub linked : IsRegion (relinked next e free) (set queues q (lengthened e free)) f (free_len - 1) (reserved - 1)
  pub chains : chains_of (relinked next e free) (set queues q (lengthened e free)) ≡ set (chains_of next queues) q (get_or (chains_of next queues) q [] ++ free ∷ [])
  pub spares : spares_of (set queues q (lengthened e free)) ≡ lowered (spares_of queues) q
  pub size : length (relinked next e free) ≡ length next

pub record IsFreeStep (next : List ℕ) (queues : List Ends) (free free_len reserved q : ℕ) (e : Ends) (head : ℕ) : Type 0 where
  pub cell : e.head < length next
  pub linked : IsRegion (set next e.head free) (set queues q (shortened next e head)) e.head (free_len + 1) (reserved + 1)
  pub front : get_or (chains_of next queues) q [] ≡ e.head ∷ drop 1 (get_or (chains_of next queues) q [])
  pub chains : chains_of (set next e.head free) (set queues q (shortened next e head)) ≡ set (chains_of next queues) q (drop 1 (get_or (chains_of next queues) q []))
  pub spares : spares_of (set queues q (shortened next e head)) ≡ raised (spares_of queues) q
  pub apart : times_in e.head (chains_of (set next e.head free) (set queues q (shortened next e head))) ≡ 0

-- the cells of queue q
pub chain-is : (next : List ℕ) (queues : List Ends) (q : ℕ) → q < length queues → (e : Ends) → e ≡ get_or queues q e → get_or (chains_of next queues) q [] ≡ chain next e.len e.head
chain-is next queues q given e is =
    chain-at next queues q given ∙ ap (chain_of next) (get_or_default queues q no_ends e given ∙ sym is)

-- how many cells queue q has
pub len-is : (next : List ℕ) (queues : List Ends) (q : ℕ) → q < length queues → (e : Ends) → e ≡ get_or queues q e → e.len ≡ length (get_or (chains_of next queues) q [])
len-is next queues q given e is =
    sym (ap length (chain-is next queues q given e is) ∙ length-chain next e.len e.head)

module _ (next : List ℕ) (queues : List Ends) (free free_len reserved : ℕ) (region : IsRegion next queues free free_len reserved) (q : ℕ) (given : q < length queues) (e : Ends) (is : e ≡ get_or queues q e) where
  ends : get_or queues q no_ends ≡ e
  ends = get_or_default queues q no_ends e given ∙ sym is

  spare : get_or (spares_of queues) q 0 ≡ e.spare
  spare = get_or-map (λ x. x.spare) queues q no_ends 0 given ∙ ap (λ x. x.spare) ends

  module _ (some : 0 < spare_at (spares_of queues) q) where
    has : 0 < e.spare
    has = omega (arith, some, spare)

    positive : free_len ≡ suc (free_len - 1)
    positive = omega (arith, region.covered, region.promised, sum_by-set (λ x. x.spare) queues q no_ends no_ends given, has, ap (λ x. x.spare) ends)

    region' : IsRegion next queues free (suc (free_len - 1)) reserved
    region' = subst (λ n. IsRegion next queues free n reserved) positive region

    pub free-cell : free < length next
    free-cell = appended.free_cell next queues free (free_len - 1) reserved region' q given

    module _ (f : ℕ) (follows : f ≡ get_or next free f) where
      f-is : get_or next free 0 ≡ f
      f-is = get_or_default next free 0 f free-cell ∙ sym follows

      pub append-step : IsAppendStep next queues free free_len reserved q e f
      append-step = record {
        cell = free-cell;
        tail = appended.tail-cell next queues free (free_len - 1) reserved region' q given e ends;
        linked = subst (λ x. IsRegion (relinked next e free) (set queues q (lengthened e free)) x (free_len - 1) (reserved - 1)) f-is (appended.region' next queues free (free_len - 1) reserved region' q given e ends has);
        chains = appended.chains' next queues free (free_len - 1) reserved region' q given e ends has;
        spares = map-set (λ x. x.spare) queues q (lengthened e free) ∙ ap (λ n. set (spares_of queues) q (n - 1)) (sym spare);
        size = appended.size' next queues free (free_len - 1) reserved region' q given e ends has;
      }

  module _ (filled : 0 < length (get_or (chains_of next queues) q [])) where
    more : e.len ≡ suc (e.len - 1)
    more = omega (arith, filled, ap length (chain-at next queues q given ∙ ap (chain_of next) ends), length-chain next e.len e.head)

    ends-more : get_or queues q no_ends ≡ record { head = e.head; tail = e.tail; len = suc (e.len - 1); spare = e.spare }
    ends-more = ends ∙ ap (λ n. record { head = e.head; tail = e.tail; len = n; spare = e.spare }) more

    pub front-cell : e.head < length next
    front-cell = freed.cell next queues free free_len reserved region q given e.head e.tail (e.len - 1) e.spare ends-more

    module _ (head : ℕ) (follows : head ≡ get_or next e.head head) where
      head-is : get_or next e.head 0 ≡ head
      head-is = get_or_default next e.head 0 head front-cell ∙ sym follows

      front : get_or (chains_of next queues) q [] ≡ e.head ∷ chain next (e.len - 1) (get_or next e.head 0)
      front = freed.front next queues free free_len reserved region q given e.head e.tail (e.len - 1) e.spare ends-more

      rest : drop 1 (get_or (chains_of next queues) q []) ≡ chain next (e.len - 1) (get_or next e.head 0)
      rest = ap (drop 1) front

      pub free-step : IsFreeStep next queues free free_len reserved q e head
      free-step = record {
        cell = front-cell;
        linked = subst (λ x. IsRegion (set next e.head free) (set queues q (shortened next e x)) e.head (free_len + 1) (reserved + 1)) head-is (freed.region' next queues free free_len reserved region q given e.head e.tail (e.len - 1) e.spare ends-more);
        front = front ∙ ap (λ w. e.head ∷ w) (sym rest);
        chains = subst (λ x. chains_of (set next e.head free) (set queues q (shortened next e x)) ≡ set (chains_of next queues) q (drop 1 (get_or (chains_of next queues) q []))) head-is (freed.chains' next queues free free_len reserved region q given e.head e.tail (e.len - 1) e.spare ends-more ∙ ap (set (chains_of next queues) q) (sym rest));
        spares = map-set (λ x. x.spare) queues q (shortened next e head) ∙ ap (λ n. set (spares_of queues) q (n + 1)) (sym spare);
        apart = subst (λ x. times_in e.head (chains_of (set next e.head free) (set queues q (shortened next e x))) ≡ 0) head-is (freed.apart next queues free free_len reserved region q given e.head e.tail (e.len - 1) e.spare ends-more);
      }

spare-le : (queues : List Ends) (q : ℕ) → spare_at (spares_of queues) q ≤ sum_by (λ x. x.spare) queues
spare-le [] q = omega arith
spare-le (e ∷ es) zero = omega (arith, sum_by-cons (λ x. x.spare) e es)
spare-le (e ∷ es) (suc q) = omega (arith, spare-le es q, sum_by-cons (λ x. x.spare) e es)

-- where a queue has a spare, a cell is free
pub spare-free : (next : List ℕ) (queues : List Ends) (free free_len reserved : ℕ) → IsRegion next queues free free_len reserved → (q : ℕ) → 0 < spare_at (spares_of queues) q → 0 < free_len
spare-free next queues free free_len reserved region q some = omega (arith, some, spare-le queues q, region.promised, region.covered)
