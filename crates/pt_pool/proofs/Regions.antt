-- Regions of cells.
use Rattle.std.proofs.Common.{◌≡◌, ◌≢◌, ◌⊎◌, inl, inr, ℕ, suc, ◌+◌, ◌-◌, ◌<◌, ◌≤◌, List, [], length, get_or, set, ap, ◌∙◌, arith, leb, true, false}
use Rattle.std.proofs.lemmas.List.{get_or-map, get_or-set_other}
use Rattle.std.proofs.lemmas.Bool.Decides.{leb_tells}
use Rattle.pt_pool.specs.declared.links.Ends.{Ends}
use Rattle.pt_pool.specs.Chains.{chain, times, times_in}
use Rattle.pt_pool.specs.Linked.{chain_of, chains_of, IsRegion, no_ends}
use Rattle.pt_pool.proofs.Counts.{times-self}
use Rattle.pt_pool.proofs.ChainLaws.{AgreeBut}

-- how often a cell stands in the free list and the queues together
abbrev pub total : List ℕ → List Ends → ℕ → ℕ → ℕ → ℕ
total next queues free free_len c = times c (chain next free_len free) + times_in c (chains_of next queues)

-- what stands in some list is a cell, and stands there alone
pub inside : (next : List ℕ) (queues : List Ends) (free free_len reserved : ℕ) → IsRegion next queues free free_len reserved → (c : ℕ) → 0 < total next queues free free_len c → c < length next
inside next queues free free_len reserved region c some = go (leb_tells (length next) c)
  where
    go : ((leb (length next) c ≡ true) × (length next ≤ c)) ⊎ ((leb (length next) c ≡ false) × (c < length next)) → c < length next
    go (inl past) = omega (arith, some, region.within c past.1)
    go (inr before) = before.1

-- the cells of queue q among those of all queues
pub chain-at : (next : List ℕ) (queues : List Ends) (q : ℕ) → q < length queues → get_or (chains_of next queues) q [] ≡ chain_of next (get_or queues q no_ends)
chain-at next queues q given = get_or-map (chain_of next) queues q no_ends [] given

-- a link was changed
pub agree-set : (next : List ℕ) (c v : ℕ) → AgreeBut c next (set next c v)
agree-set next c v i other = get_or-set_other next c i v 0 other

suc-less : (n : ℕ) → 0 < n → n ≡ suc (n - 1)
suc-less n some = omega (arith, some)

-- the first free cell is in no queue
module _ (next : List ℕ) (queues : List Ends) (free free_len reserved : ℕ) (region : IsRegion next queues free free_len reserved) (some : 0 < free_len) where
  first-free : times free (chain next free_len free) ≡ 1 + times free (chain next (free_len - 1) (get_or next free 0))
  first-free = ap (λ n. times free (chain next n free)) (suc-less free_len some) ∙ times-self free (chain next (free_len - 1) (get_or next free 0))

  pub free-within : free < length next
  free-within = inside next queues free free_len reserved region free (omega (arith, first-free))

  pub free-apart : times_in free (chains_of next queues) ≡ 0
  free-apart = omega (arith, region.once free free-within, first-free)
