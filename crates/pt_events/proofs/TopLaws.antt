-- What the top of the first heap says of all its entries.
use Rattle.std.proofs.Common.{◌≡◌, ◌<◌, true, false, List, [], length, map, get_or, Some, None, All, Contains, sym, ap, subst, ◌∙◌, inl, inr}
use Rattle.std.proofs.lemmas.Bool.{false≢true, cases_Bool}
use Rattle.std.proofs.lemmas.List.Elements.{All-nil, All-map, All-weaker}
use Rattle.std.specs.BinaryHeap.{IsUpperBound}
use Rattle.std.specs.declared.cmp.Reverse.{Reverse}
use Rattle.pt_meaning.specs.Tag.{Tag, tag_le}
use Rattle.pt_events.specs.Entries.{by_tag}
use Rattle.pt_events.specs.Queue.{is_due}
use Rattle.pt_events.specs.Stores.{later_entry, due_entry, later_cmp, IsLeastTag, AreDue}
use Rattle.pt_events.specs.declared.stores.ByTag.{ByTag}
use Rattle.pt_events.specs.declared.stores.ByDepth.{ByDepth}
use Rattle.pt_events.proofs.Orders.{tag_le-order}
use Rattle.pt_events.proofs.LeastLaws.{contains-map}
use Rattle.pt_events.proofs.HeapLaws.{later-first, tags-in_order}

-- it is in the heap, where there is any entry
pub top-there : {X : Type 0} (xs : List X) (x : X) → 0 < length xs → x ≡ get_or xs 0 x → Contains xs x
top-there xs x some at = (0, some, sym at)

module _ (later : List (Reverse ByTag)) (x : Reverse ByTag) (bound : IsUpperBound later_cmp x later) where
  tags : All (λ y. tag_le (later_entry x).tag (later_entry y).tag ≡ true) later
  tags = All-weaker (λ y. by_tag (later_entry x) (later_entry y) ≡ true) (λ y. tag_le (later_entry x).tag (later_entry y).tag ≡ true) (λ y l. tags-in_order (later_entry x) (later_entry y) l) later (later-first x later bound)

  pub top-least : Contains later x → IsLeastTag (map later_entry later) (Some x.0.tag)
  top-least there = (contains-map (λ e. e.tag) (map later_entry later) (later_entry x) (contains-map later_entry later x there), All-map (λ e. tag_le x.0.tag e.tag ≡ true) later_entry later tags)

  -- where it isn't due none is
  pub top-waits : (tag : Tag) → tag_le x.0.tag tag ≡ false → All (λ y. is_due tag (later_entry y) ≡ false) later
  top-waits tag fails = All-weaker (λ y. tag_le (later_entry x).tag (later_entry y).tag ≡ true) (λ y. is_due tag (later_entry y) ≡ false) (λ y l. elim (cases_Bool (tag_le (later_entry y).tag tag)) [
    | inl k ↦ absurd (false≢true (sym fails ∙ tag_le-order.trans x.0.tag (later_entry y).tag tag l k))
    | inr k ↦ k
  ]) later tags

-- what was due at a tag is so at each later one
pub due-on : (at tag : Tag) (due : List (Reverse ByDepth)) → tag_le at tag ≡ true → AreDue at due → AreDue tag due
due-on at tag due l h = All-weaker (λ e. is_due at (due_entry e) ≡ true) (λ e. is_due tag (due_entry e) ≡ true) (λ e k. tag_le-order.trans (due_entry e).tag at tag k l) due h

pub none-due : (tag : Tag) (due : List (Reverse ByDepth)) → due ≡ [] → AreDue tag due
none-due tag due e = subst (λ l. AreDue tag l) (sym e) (All-nil (λ x. is_due tag (due_entry x) ≡ true))

pub none-later : (tag : Tag) (later : List (Reverse ByTag)) → later ≡ [] → All (λ y. is_due tag (later_entry y) ≡ false) later
none-later tag later e = subst (λ l. All (λ y. is_due tag (later_entry y) ≡ false) l) (sym e) (All-nil (λ y. is_due tag (later_entry y) ≡ false))

pub none-least : (later : List (Reverse ByTag)) → later ≡ [] → IsLeastTag (map later_entry later) None
none-least later e = ap (map later_entry) e
