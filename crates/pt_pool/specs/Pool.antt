-- The queues that a pool's cells stand for.
use Rattle.std.specs.Prelude.{ℕ, ◌≤◌, List, map, length, Option}
use Rattle.pt_pool.specs.declared.links.Links.{Links}
use Rattle.pt_pool.specs.Linked.{AreLinked, chains, spares, unreserved}
use Rattle.pt_pool.specs.Queues.{Queues}
use Rattle.pt_pool.specs.Values.{values_at, AreAllFull}

module _ {T : Type 0} where
  -- each queue has the values of its cells
  abbrev pub queues_of : List (Option T) → Links → Queues T
  queues_of values links = record { lists = map (values_at values) (chains links); spares = spares links; unreserved = unreserved links }

  -- each cell is in exactly one list, and has a value where that is a queue
  pub record IsSound (values : List (Option T)) (links : Links) : Type 0 where
    pub linked : AreLinked links
    pub within : length links.next.items ≤ length values
    pub full : AreAllFull values (chains links)
