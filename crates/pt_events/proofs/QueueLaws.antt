-- The queue that two heaps stand for, and what their moves do to it.
use Rattle.std.proofs.Common.{◌≡◌, zero, suc, Bool, true, false, cond, List, [], ◌∷◌, ◌++◌, length, map, get_or, Option, Some, None, All, Contains, refl, sym, ap, subst, ◌∙◌, arith, inl, inr, MatchOption}
use Rattle.std.proofs.lemmas.Bool.{false≢true, cases_Bool, and_parts, and_from}
use Rattle.std.proofs.lemmas.List.Elements.{All-map, All-append, All-weaker, All-filter, filter_passes, Contains-append_right, All-head, All-tail, All-contains, All-nil, All-cons, Contains-get_or}
use Rattle.std.proofs.lemmas.List.Sorted.{IsPermutation-refl, IsPermutation-cons, IsPermutation-swap, IsPermutation-trans, IsPermutation-sym, IsPermutation-map, IsPermutation-append_left, IsPermutation-append_right, IsPermutation-middle, All-permutation, Contains-permutation}
use Rattle.std.specs.BinaryHeap.{IsUpperBound}
use Rattle.std.specs.List.{filter}
use Rattle.std.specs.List.Sorted.{IsPermutation}
use Rattle.std.specs.declared.cmp.Reverse.{Reverse}
use Rattle.pt_meaning.specs.Tag.{Tag}
use Rattle.pt_events.specs.Placed.{placed, ties, without, lesser, least_of}
use Rattle.pt_events.specs.Entries.{Entry, by_tag, by_depth}
use Rattle.pt_events.specs.Queue.{is_due, due, next_due, less, left}
use Rattle.pt_events.specs.Stores.{later_entry, due_entry, due_cmp, queue_of, AreDue}
use Rattle.pt_events.specs.Laws.{IsNextDue, TakesTheLeast, EntriesCount}
use Rattle.pt_events.specs.declared.stores.ByTag.{ByTag}
use Rattle.pt_events.specs.declared.stores.ByDepth.{ByDepth}
use Rattle.pt_events.proofs.Orders.{itself, by_tag-order, by_depth-order}
use Rattle.pt_events.proofs.PlacedLaws.{in_order-permutation, in_order-same, placed-permutation, without-placed}
use Rattle.pt_events.proofs.LeastLaws.{IsLeast, is_least, least_of-is, contains-head, contains-tail, contains-cases, contains-map}
use Rattle.pt_events.proofs.HeapLaws.{due-first}

-- an entry of the second heap stands anywhere in the queue
out : (later : List (Reverse ByTag)) (due rest : List (Reverse ByDepth)) (x : Reverse ByDepth) → IsPermutation due (x ∷ rest) → IsPermutation (map later_entry later ++ map due_entry due) (due_entry x ∷ (map later_entry later ++ map due_entry rest))
out later due rest x p =
    IsPermutation-trans (map later_entry later ++ map due_entry due) (map later_entry later ++ due_entry x ∷ map due_entry rest) (due_entry x ∷ (map later_entry later ++ map due_entry rest))
    (IsPermutation-append_right (map later_entry later) (map due_entry due) (due_entry x ∷ map due_entry rest) (IsPermutation-map due_entry due (x ∷ rest) p))
    (IsPermutation-middle (map later_entry later) (due_entry x) (map due_entry rest))

-- so does one of the first
into : (later more : List (Reverse ByTag)) (due : List (Reverse ByDepth)) (y : Reverse ByTag) → IsPermutation (y ∷ later) more → IsPermutation (later_entry y ∷ (map later_entry later ++ map due_entry due)) (map later_entry more ++ map due_entry due)
into later more due y p = IsPermutation-append_left (map due_entry due) (later_entry y ∷ map later_entry later) (map later_entry more) (IsPermutation-map later_entry (y ∷ later) more p)

pub queue-out : (later : List (Reverse ByTag)) (due rest : List (Reverse ByDepth)) (x : Reverse ByDepth) → IsPermutation due (x ∷ rest) → queue_of later due ≡ placed by_tag (due_entry x) (queue_of later rest)
queue-out later due rest x p = in_order-permutation by_tag by_tag-order (map later_entry later ++ map due_entry due) (due_entry x ∷ (map later_entry later ++ map due_entry rest)) (out later due rest x p)

pub queue-into : (later more : List (Reverse ByTag)) (due : List (Reverse ByDepth)) (y : Reverse ByTag) → IsPermutation (y ∷ later) more → queue_of more due ≡ placed by_tag (later_entry y) (queue_of later due)
queue-into later more due y p = sym (in_order-permutation by_tag by_tag-order (later_entry y ∷ (map later_entry later ++ map due_entry due)) (map later_entry more ++ map due_entry due) (into later more due y p))

-- an entry moves from the second heap to the first, or back, and the queue stays
pub moved-back : (later more : List (Reverse ByTag)) (due rest : List (Reverse ByDepth)) (x : Reverse ByDepth) (y : Reverse ByTag) → IsPermutation due (x ∷ rest) → IsPermutation (y ∷ later) more → later_entry y ≡ due_entry x → queue_of more rest ≡ queue_of later due
moved-back later more due rest x y p q e = queue-into later more rest y q ∙ ap (λ z. placed by_tag z (queue_of later rest)) e ∙ sym (queue-out later due rest x p)

pub moved-on : (later rest : List (Reverse ByTag)) (due more : List (Reverse ByDepth)) (x : Reverse ByDepth) (y : Reverse ByTag) → later_entry y ≡ due_entry x → IsPermutation later (y ∷ rest) → IsPermutation (x ∷ due) more → queue_of rest more ≡ queue_of later due
moved-on later rest due more x y e p q = sym (moved-back rest later more due x y (IsPermutation-sym (x ∷ due) more q) (IsPermutation-sym later (y ∷ rest) p) e)

-- what is in a list and passes is in what a filter keeps
contains-filter : {X : Type 0} (p : X → Bool) (xs : List X) (x : X) → Contains xs x → p x ≡ true → Contains (filter p xs) x
contains-filter p [] x h e = absurd (omega (arith, h.1))
contains-filter p (y ∷ ys) x (zero, l, at) e =
    subst (λ b. Contains (cond b (y ∷ filter p ys) (filter p ys)) x) (sym (ap p at ∙ e)) (subst (λ z. Contains (y ∷ filter p ys) z) at (contains-head y (filter p ys)))
contains-filter p (y ∷ ys) x (suc k, l, at) e =
    let rest : Contains (filter p ys) x = contains-filter p ys x (k, omega (arith, l), at) e in
    elim (cases_Bool (p y)) [
      | inl t ↦ subst (λ b. Contains (cond b (y ∷ filter p ys) (filter p ys)) x) (sym t) (contains-tail y (filter p ys) x rest)
      | inr f ↦ subst (λ b. Contains (cond b (y ∷ filter p ys) (filter p ys)) x) (sym f) rest
    ]

-- what holds of each element that passes holds of each that a filter keeps
all-filter : {X : Type 0} (p : X → Bool) (P : X → Type 0) (xs : List X) → All (λ x. p x ≡ true → P x) xs → All P (filter p xs)
all-filter p P xs h = λ k d l. All-filter p (λ x. p x ≡ true → P x) xs h k d l (filter_passes p xs k d l)

none-pass : {X : Type 0} (p : X → Bool) (xs : List X) → All (λ x. p x ≡ false) xs → filter p xs ≡ []
none-pass p [] h = refl
none-pass p (x ∷ xs) h = ap (λ b. cond b (x ∷ filter p xs) (filter p xs)) (All-head (λ y. p y ≡ false) x xs h) ∙ none-pass p xs (All-tail (λ y. p y ≡ false) x xs h)

-- the entry that comes before all that are due is the next
pub next-is : (tag : Tag) (queue : List Entry) (e : Entry) → IsNextDue tag queue e → next_due tag queue ≡ Some e
next-is tag queue e h = least_of-is by_depth by_depth-order (due tag queue) e (record {
  there = contains-filter (is_due tag) queue e h.there h.due;
  least = all-filter (is_due tag) (λ other. by_depth e other ≡ true) queue h.least;
})

pub next-none : (tag : Tag) (queue : List Entry) → All (λ e. is_due tag e ≡ false) queue → next_due tag queue ≡ None
next-none tag queue h = ap (least_of by_depth) (none-pass (is_due tag) queue h)

module _ (tag : Tag) (later : List (Reverse ByTag)) (due : List (Reverse ByDepth)) (rest : All (λ e. is_due tag (later_entry e) ≡ false) later) (past : AreDue tag due) where
  -- the top of the second heap is the next entry
  pub next-top : (x : Reverse ByDepth) (others : List (Reverse ByDepth)) → IsPermutation due (x ∷ others) → IsUpperBound due_cmp x due → next_due tag (queue_of later due) ≡ Some (due_entry x)
  next-top x others p bound =
      let all : List Entry = map later_entry later ++ map due_entry due in
      let q : List Entry = queue_of later due in
      let same : IsPermutation all q = in_order-same by_tag by_tag-order all in
      let inside : Contains due x = Contains-permutation (x ∷ others) due x (IsPermutation-sym due (x ∷ others) p) (contains-head x others) in
      let least : All (λ e. is_due tag e ≡ true → by_depth (due_entry x) e ≡ true) all =
      All-append (λ e. is_due tag e ≡ true → by_depth (due_entry x) e ≡ true) (map later_entry later) (map due_entry due)
      (All-map (λ e. is_due tag e ≡ true → by_depth (due_entry x) e ≡ true) later_entry later (All-weaker (λ e. is_due tag (later_entry e) ≡ false) (λ e. is_due tag (later_entry e) ≡ true → by_depth (due_entry x) (later_entry e) ≡ true) (λ e no yes. absurd (false≢true (sym no ∙ yes))) later rest))
      (All-map (λ e. is_due tag e ≡ true → by_depth (due_entry x) e ≡ true) due_entry due (All-weaker (λ e. by_depth (due_entry x) (due_entry e) ≡ true) (λ e. is_due tag (due_entry e) ≡ true → by_depth (due_entry x) (due_entry e) ≡ true) (λ e l _. l) due (due-first x due bound)))
      in
      next-is tag q (due_entry x) (record {
        there = Contains-permutation all q (due_entry x) same (Contains-append_right (map later_entry later) (map due_entry due) (due_entry x) (contains-map due_entry due x inside));
        due = All-contains (λ e. is_due tag (due_entry e) ≡ true) due x past inside;
        least = All-permutation (λ e. is_due tag e ≡ true → by_depth (due_entry x) e ≡ true) all q same least;
      })

  -- without it the queue is that of the heaps without it
  pub left-top : (x : Reverse ByDepth) (others : List (Reverse ByDepth)) → IsPermutation due (x ∷ others) → IsUpperBound due_cmp x due → queue_of later others ≡ left tag (queue_of later due)
  left-top x others p bound =
      sym (ap (λ o. less o (queue_of later due)) (next-top x others p bound) ∙ ap (without by_tag (due_entry x)) (queue-out later due others x p) ∙ without-placed by_tag by_tag-order (due_entry x) (queue_of later others))

-- nothing is due where the second heap is empty
pub next-empty : (tag : Tag) (later : List (Reverse ByTag)) (due : List (Reverse ByDepth)) → All (λ e. is_due tag (later_entry e) ≡ false) later → due ≡ [] → next_due tag (queue_of later due) ≡ None
next-empty tag later due rest e =
    next-none tag (queue_of later due) (All-permutation (λ x. is_due tag x ≡ false) (map later_entry later ++ map due_entry due) (queue_of later due) (in_order-same by_tag by_tag-order (map later_entry later ++ map due_entry due))
    (All-append (λ x. is_due tag x ≡ false) (map later_entry later) (map due_entry due) (All-map (λ x. is_due tag x ≡ false) later_entry later rest) (subst (λ l. All (λ x. is_due tag x ≡ false) (map due_entry l)) (sym e) (All-nil (λ x. is_due tag x ≡ false)))))

-- what is in what a filter keeps is in the list, and passes
from-filter : {X : Type 0} (p : X → Bool) (xs : List X) (x : X) → Contains (filter p xs) x → Contains xs x
from-filter p [] x h = absurd (omega (arith, h.1))
from-filter p (y ∷ ys) x h = elim (cases_Bool (p y)) [
  | inl t ↦ elim (contains-cases y (filter p ys) x (subst (λ b. Contains (cond b (y ∷ filter p ys) (filter p ys)) x) t h)) [
    | inl e ↦ subst (λ z. Contains (y ∷ ys) z) e (contains-head y ys)
    | inr k ↦ contains-tail y ys x (from-filter p ys x k)
  ]
  | inr f ↦ contains-tail y ys x (from-filter p ys x (subst (λ b. Contains (cond b (y ∷ filter p ys) (filter p ys)) x) f h))
]

-- all of a list pass or not, where a filter keeps nothing
all-fail : {X : Type 0} (p : X → Bool) (xs : List X) → filter p xs ≡ [] → All (λ x. p x ≡ false) xs
all-fail p [] h = All-nil (λ x. p x ≡ false)
all-fail p (x ∷ xs) h = elim (cases_Bool (p x)) [
  | inl t ↦ absurd (omega (arith, ap length (sym (ap (λ b. cond b (x ∷ filter p xs) (filter p xs)) t) ∙ h)))
  | inr f ↦ All-cons (λ y. p y ≡ false) x xs f (all-fail p xs (sym (ap (λ b. cond b (x ∷ filter p xs) (filter p xs)) f) ∙ h))
]

-- what passes a filter of all
before-all : {X : Type 0} (p : X → Bool) (P : X → Type 0) (xs : List X) → All P (filter p xs) → All (λ x. p x ≡ true → P x) xs
before-all p P xs h = λ k d l t. All-contains P (filter p xs) (get_or xs k d) h (contains-filter p xs (get_or xs k d) (Contains-get_or xs k d l) t)

takes-from : (tag : Tag) (queue kept : List Entry) → due tag queue ≡ kept → MatchOption (least_of by_depth kept) (All (λ e. is_due tag e ≡ false) queue) (IsNextDue tag queue)
takes-from tag queue [] e = all-fail (is_due tag) queue e
takes-from tag queue (x ∷ xs) e =
    let m : Entry = lesser by_depth x (least_of by_depth xs) in
    let l : IsLeast by_depth (due tag queue) m = subst (λ ys. IsLeast by_depth ys m) (sym e) (is_least by_depth by_depth-order x xs) in
    record {
      there = from-filter (is_due tag) queue m l.there;
      due = All-contains (λ y. is_due tag y ≡ true) (due tag queue) m (filter_passes (is_due tag) queue) l.there;
      least = before-all (is_due tag) (λ y. by_depth m y ≡ true) queue l.least;
    }

pub takes-least : TakesTheLeast
takes-least tag queue = takes-from tag queue (due tag queue) refl

-- one entry less
left-one : (queue : List Entry) (e : Entry) → Contains queue e → IsPermutation queue (e ∷ without by_tag e queue)
left-one [] e h = absurd (omega (arith, h.1))
left-one (y ∷ ys) e h = elim (cases_Bool (ties by_tag e y)) [
  | inl t ↦
      let both = and_parts (by_tag e y) (by_tag y e) t in
      let same : y ≡ e = by_tag-order.antisymm y e both.1 both.0 in
      subst (λ b. IsPermutation (y ∷ ys) (e ∷ cond b ys (y ∷ without by_tag e ys))) (sym t) (subst (λ z. IsPermutation (y ∷ ys) (z ∷ ys)) same (IsPermutation-refl (y ∷ ys)))
  | inr f ↦ subst (λ b. IsPermutation (y ∷ ys) (e ∷ cond b ys (y ∷ without by_tag e ys))) (sym f) (elim (contains-cases y ys e h) [
    | inl s ↦ absurd (false≢true (sym f ∙ ap (λ z. ties by_tag e z) s ∙ and_from (by_tag e e) (by_tag e e) (itself by_tag-order e) (itself by_tag-order e)))
    | inr k ↦ IsPermutation-trans (y ∷ ys) (y ∷ e ∷ without by_tag e ys) (e ∷ y ∷ without by_tag e ys) (IsPermutation-cons y ys (e ∷ without by_tag e ys) (left-one ys e k)) (IsPermutation-swap (y ∷ e ∷ without by_tag e ys) (e ∷ y ∷ without by_tag e ys) 0 1 (omega arith) (omega arith) refl)
  ])
]

left-by : (tag : Tag) (queue : List Entry) (next : Option Entry) → MatchOption next (All (λ e. is_due tag e ≡ false) queue) (IsNextDue tag queue) → MatchOption next (less next queue ≡ queue) (λ e. IsPermutation queue (e ∷ less next queue))
left-by tag queue None h = refl
left-by tag queue (Some e) h = left-one queue e h.there

pub entries-count : EntriesCount
entries-count = record {
  order = λ entries others p. in_order-permutation by_tag by_tag-order entries others p;
  same = λ entries. in_order-same by_tag by_tag-order entries;
  put = λ e queue. placed-permutation by_tag by_tag-order e queue;
  left = λ tag queue. left-by tag queue (next_due tag queue) (takes-least tag queue);
}
