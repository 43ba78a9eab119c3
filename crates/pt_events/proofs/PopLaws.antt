-- What the calls of the queue make of it.
use Rattle.std.proofs.Common.{◌≡◌, ℕ, ◌+◌, true, false, List, ◌∷◌, ◌++◌, length, map, Option, Some, None, All, sym, ap, subst, ◌∙◌, arith, IfSome, IfNone, OnSome, option_map}
use Rattle.std.proofs.lemmas.List.{nil_from_length}
use Rattle.std.proofs.lemmas.List.Elements.{All-tail}
use Rattle.std.proofs.lemmas.List.Sorted.{All-permutation}
use Rattle.std.specs.BinaryHeap.{heap_items, heap_len, heap_capacity, IsHeap, PopsGreatest, HeapUnchanged}
use Rattle.std.specs.List.Sorted.{IsPermutation}
use Rattle.std.specs.declared.cmp.Reverse.{Reverse}
use Rattle.std.specs.declared.collections.binary_heap.BinaryHeap.{BinaryHeap}
use Rattle.pt_meaning.specs.Tag.{Tag, earlier}
use Rattle.pt_events.specs.Entries.{Entry, by_tag}
use Rattle.pt_events.specs.Queue.{first, is_due, taken, left, less}
use Rattle.pt_events.specs.Stores.{later_entry, due_entry, due_cmp, queue_of, AreHeaps, HaveRoom, AreDue, AreStored, IsLeastTag}
use Rattle.pt_events.specs.declared.stores.ByTag.{ByTag}
use Rattle.pt_events.specs.declared.stores.ByDepth.{ByDepth}
use Rattle.pt_events.proofs.Orders.{by_tag-order}
use Rattle.pt_events.proofs.PlacedLaws.{in_order-same}
use Rattle.pt_events.proofs.LeastLaws.{first-is, earlier-least}
use Rattle.pt_events.proofs.QueueLaws.{next-top, left-top, next-empty}

-- the least tag of both heaps is the first of the queue
pub first-at : (later : List (Reverse ByTag)) (due ds : List (Reverse ByDepth)) (a b result : Option Tag) → ds ≡ due → result ≡ earlier a b → IsLeastTag (map later_entry later) a → IsLeastTag (map due_entry ds) b → result ≡ first (queue_of later due)
first-at later due ds a b result e is h k =
    let all : List Entry = map later_entry later ++ map due_entry due in
    is ∙ first-is all (queue_of later due) (earlier a b) (in_order-same by_tag by_tag-order all) (earlier-least (map later_entry later) (map due_entry due) a b h (subst (λ l. IsLeastTag (map due_entry l) b) e k))

-- after the top of the second heap is taken the stores keep what they keep
pub stored-popped : {Z : Type 0} (tag : Tag) (later : BinaryHeap (Reverse ByTag) Z) (due rest : BinaryHeap (Reverse ByDepth) Z) (result : Option (Reverse ByDepth)) → AreHeaps (heap_items later) (heap_items due) → HaveRoom later due → AreDue tag (heap_items due) → OnSome result (heap_len rest + 1 ≡ heap_len due) → heap_capacity rest ≡ heap_capacity due → IfSome result (λ x. IsPermutation (heap_items due) (x ∷ heap_items rest)) → IfSome result (λ x. PopsGreatest due_cmp (heap_items due) x (heap_items rest)) → IfNone result (HeapUnchanged due rest) → AreStored tag later rest
stored-popped tag later due rest (Some x) heaps room past len capacity items order same = record {
  heaps = record { by_tag = heaps.by_tag; by_depth = (order heaps.by_depth).0 };
  room = record { in_first = omega (arith, room.in_first, len); in_second = omega (arith, room.in_second, len, capacity) };
  past = All-tail (λ e. is_due tag (due_entry e) ≡ true) x (heap_items rest) (All-permutation (λ e. is_due tag (due_entry e) ≡ true) (heap_items due) (x ∷ heap_items rest) items past);
}
stored-popped tag later due rest None heaps room past len capacity items order same = record {
  heaps = record { by_tag = heaps.by_tag; by_depth = subst (IsHeap due_cmp) (sym same.0) heaps.by_depth };
  room = record { in_first = omega (arith, room.in_first, same.1); in_second = omega (arith, room.in_second, same.1, capacity) };
  past = subst (AreDue tag) (sym same.0) past;
}

module _ (tag : Tag) (later : List (Reverse ByTag)) (due rest : List (Reverse ByDepth)) (waits : All (λ e. is_due tag (later_entry e) ≡ false) later) (past : AreDue tag due) (heap : IsHeap due_cmp due) where
  -- the actor that is given is that of the next entry
  pub taken-popped : (result : Option (Reverse ByDepth)) → IfSome result (λ x. IsPermutation due (x ∷ rest)) → IfSome result (λ x. PopsGreatest due_cmp due x rest) → IfNone result (length due ≡ 0) → option_map (λ x. x.0.actor) result ≡ taken tag (queue_of later due)
  taken-popped (Some x) items order none = sym (ap (option_map (λ e. e.actor)) (next-top tag later due waits past x rest items (order heap).1))
  taken-popped None items order none = sym (ap (option_map (λ e. e.actor)) (next-empty tag later due waits (nil_from_length due none)))

  -- and the rest of the heaps is the rest of the queue
  pub left-popped : (result : Option (Reverse ByDepth)) → IfSome result (λ x. IsPermutation due (x ∷ rest)) → IfSome result (λ x. PopsGreatest due_cmp due x rest) → IfNone result (length due ≡ 0) → IfNone result (rest ≡ due) → queue_of later rest ≡ left tag (queue_of later due)
  left-popped (Some x) items order none same = left-top tag later due waits past x rest items (order heap).1
  left-popped None items order none same = ap (queue_of later) same ∙ sym (ap (λ o. less o (queue_of later due)) (next-empty tag later due waits (nil_from_length due none)))

-- a heap that lacks a length has no elements
pub none-counted : {X : Type 0} (result : Option X) (n m : ℕ) → n ≡ m → IfNone result (n ≡ 0) → IfNone result (m ≡ 0)
none-counted None n m e h = sym e ∙ h
none-counted (Some x) n m e h = tt

pub none-same : {X Z : Type 0} (result : Option X) (old new : BinaryHeap X Z) → IfNone result (HeapUnchanged old new) → IfNone result (heap_items new ≡ heap_items old)
none-same None old new h = h.0
none-same (Some x) old new h = tt
