-- Queues of cells and a list of free cells in one region, in which each cell stands exactly once.
use Rattle.std.specs.Prelude.{◌≡◌, ℕ, ◌+◌, ◌-◌, ◌<◌, ◌≤◌, List, [], ◌∷◌, map, sum_by, length, slice_index_or, slice_set, if◌then◌else◌, ◌==◌}
use Rattle.pt_pool.specs.declared.links.Ends.{Ends}
use Rattle.pt_pool.specs.declared.links.Links.{Links}
use Rattle.pt_pool.specs.Chains.{chain, after, times, times_in}

-- the cells of a queue, from front to back
abbrev pub chain_of : List ℕ → Ends → List ℕ
chain_of next ends = chain next ends.len ends.head

-- the cells of each queue
abbrev pub chains_of : List ℕ → List Ends → List (List ℕ)
chains_of next queues = map (chain_of next) queues

abbrev pub chains : Links → List (List ℕ)
chains links = chains_of links.next.items links.queues.items

-- how many free cells each queue has reserved
abbrev pub spares : Links → List ℕ
spares links = map (λ ends. ends.spare) links.queues.items

-- how many free cells no queue has reserved
abbrev pub unreserved : Links → ℕ
unreserved links = links.free_len - links.reserved

-- a queue that isn't empty ends at its tail
abbrev pub EndsAtTail : List ℕ → Ends → Type 0
EndsAtTail next ends = 0 < ends.len → after next (ends.len - 1) ends.head ≡ ends.tail

-- the ends of no queue
abbrev pub no_ends : Ends
no_ends = record { head = 0; tail = 0; len = 0; spare = 0 }

-- each cell stands exactly once, in one queue or in the free list, and the free cells suffice for all that is reserved
pub record IsRegion (next : List ℕ) (queues : List Ends) (free free_len reserved : ℕ) : Type 0 where
  pub once : (cell : ℕ) → cell < length next → times cell (chain next free_len free) + times_in cell (chains_of next queues) ≡ 1
  pub within : (cell : ℕ) → length next ≤ cell → times cell (chain next free_len free) + times_in cell (chains_of next queues) ≡ 0
  pub tails : (q : ℕ) → q < length queues → EndsAtTail next (slice_index_or queues q no_ends)
  pub counted : free_len + sum_by (λ ends. ends.len) queues ≡ length next
  pub promised : sum_by (λ ends. ends.spare) queues ≡ reserved
  pub covered : reserved ≤ free_len

abbrev pub AreLinked : Links → Type 0
AreLinked links = IsRegion links.next.items links.queues.items links.free links.free_len links.reserved

-- the links after this cell goes to the back of a queue with these ends
abbrev pub relinked : List ℕ → Ends → ℕ → List ℕ
relinked next ends cell = if ends.len == 0 then next else slice_set next ends.tail cell

-- and the queue's ends, with one reserved cell less
abbrev pub lengthened : Ends → ℕ → Ends
lengthened ends cell = record { head = if ends.len == 0 then cell else ends.head; tail = cell; len = ends.len + 1; spare = ends.spare - 1 }
