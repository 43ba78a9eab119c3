-- The two heaps of the queue of events: the later entries by tag, and those that are due by depth.
use Rattle.std.specs.Prelude.{◌≡◌, ◌+◌, ◌≤◌, true, List, [], ◌++◌, map, All, Contains, Option, MatchOption}
use Rattle.std.specs.Ordering.{nat_cmp, ordering_then}
use Rattle.std.specs.BinaryHeap.{heap_items, heap_len, heap_capacity, IsHeap}
use Rattle.std.specs.declared.cmp.Ordering.{Ordering}
use Rattle.std.specs.declared.cmp.Reverse.{Reverse}
use Rattle.std.specs.declared.collections.binary_heap.BinaryHeap.{BinaryHeap}
use Rattle.pt_meaning.specs.Tag.{Tag, tag_le}
use Rattle.pt_events.specs.Placed.{in_order}
use Rattle.pt_events.specs.Entries.{Entry, by_tag}
use Rattle.pt_events.specs.Queue.{is_due}
use Rattle.pt_events.specs.declared.stores.ByTag.{ByTag}
use Rattle.pt_events.specs.declared.stores.ByDepth.{ByDepth}

-- the entry that an element of the first heap stands for
abbrev pub later_entry : Reverse ByTag → Entry
later_entry r = record { tag = r.0.tag; depth = r.0.depth; actor = r.0.actor }

-- the entry that an element of the second heap stands for
abbrev pub due_entry : Reverse ByDepth → Entry
due_entry r = record { tag = r.0.tag; depth = r.0.depth; actor = r.0.actor }

-- all entries of both heaps, in the order of a queue
abbrev pub queue_of : List (Reverse ByTag) → List (Reverse ByDepth) → List Entry
queue_of later due = in_order by_tag (map later_entry later ++ map due_entry due)

-- the order of tags: by time, then by microstep
abbrev pub tag_cmp : Tag → Tag → Ordering
tag_cmp a b = ordering_then (nat_cmp a.time b.time) (nat_cmp a.step b.step)

-- the order of the first heap, whose greatest element is the least by tag, depth and number
abbrev pub later_cmp : Reverse ByTag → Reverse ByTag → Ordering
later_cmp x y = ordering_then (tag_cmp y.0.tag x.0.tag) (ordering_then (nat_cmp y.0.depth x.0.depth) (nat_cmp y.0.actor x.0.actor))

-- the order of the second heap, whose greatest element is the least by depth, number and tag
abbrev pub due_cmp : Reverse ByDepth → Reverse ByDepth → Ordering
due_cmp x y = ordering_then (nat_cmp y.0.depth x.0.depth) (ordering_then (nat_cmp y.0.actor x.0.actor) (tag_cmp y.0.tag x.0.tag))

-- each store is a heap in its order
pub record AreHeaps (later : List (Reverse ByTag)) (due : List (Reverse ByDepth)) : Type 0 where
  pub by_tag : IsHeap later_cmp later
  pub by_depth : IsHeap due_cmp due

-- each store has room for all entries, so that they can move from one to the other
pub record HaveRoom {Z : Type 0} (later : BinaryHeap (Reverse ByTag) Z) (due : BinaryHeap (Reverse ByDepth) Z) : Type 0 where
  pub in_first : heap_len later + heap_len due ≤ heap_capacity later
  pub in_second : heap_len later + heap_len due ≤ heap_capacity due

-- all entries of the second store are due at the tag
abbrev pub AreDue : Tag → List (Reverse ByDepth) → Type 0
AreDue tag due = All (λ e. is_due tag (due_entry e) ≡ true) due

-- what the two stores keep
pub record AreStored {Z : Type 0} (tag : Tag) (later : BinaryHeap (Reverse ByTag) Z) (due : BinaryHeap (Reverse ByDepth) Z) : Type 0 where
  pub heaps : AreHeaps (heap_items later) (heap_items due)
  pub room : HaveRoom later due
  pub past : AreDue tag (heap_items due)

-- the least tag of some entries, or none where there are none
abbrev pub IsLeastTag : List Entry → Option Tag → Type 0
IsLeastTag entries result = MatchOption result (entries ≡ []) (λ tag. Contains (map (λ e. e.tag) entries) tag × All (λ e. tag_le tag e.tag ≡ true) entries)
