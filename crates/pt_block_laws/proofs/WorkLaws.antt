-- The firings of a top whose children are library actors, in a block.
use Rattle.std.proofs.Common.{◌≡◌, ℕ, zero, suc, ◌+◌, ◌*◌, ◌≤◌, ◌<◌, max, List, [], ◌∷◌, ◌++◌, length, take, drop, get_or, Option, Some, None, refl, sym, ap, ap₂, subst, ◌∙◌, arith, append-nil}
use Rattle.std.proofs.lemmas.List.{length-append}
use Rattle.pt_meaning.specs.Tag.{Tag}
use Rattle.pt_meaning.specs.Streams.{Streams, at}
use Rattle.pt_meaning.specs.Log.{Log, own, log_then, log_below, within_firing}
use Rattle.pt_meaning.specs.Machine.{Outcome, Done, Stepping, Facts, recorded}
use Rattle.pt_meaning.specs.Net.{Source, Own, Output, Net, Inside}
use Rattle.pt_meaning.specs.Kahn.{Leaving, kahn, arrived, skip_places, lengths, firsts, behind}
use Rattle.pt_meaning.specs.Sdf.{SdfPlan, all_allow, iterations, sdf_limits, fired_all, times, leaves, leaving, sdf}
use Rattle.pt_meaning.specs.Running.{total}
use Rattle.pt_meaning.specs.Meetings.{Meets, below_child}
use Rattle.pt_meaning.specs.Children.{Child, numbered, nodes, child_facts, child_step}
use Rattle.pt_meaning.specs.Tree.{Rows, Core, Sdf, Past, Node, Nodes, Actor, Composite, none, more, list_of, nodes_of, fired_at, height, heights}
use Rattle.pt_meaning.specs.NodeFacts.{facts_of}
use Rattle.pt_meaning.specs.Step.{as_node, step_at, Step}
use Rattle.pt_laws.specs.CompositeRuns.{steps_below}
use Rattle.pt_laws.proofs.Indexed.{streams-same}
use Rattle.pt_laws.proofs.CompositeLaws.{actors-react, as-done}
use Rattle.pt_laws.proofs.HeightLaws.{any-level}
use Rattle.pt_block_laws.specs.Firings.{Firings, later, AreMade}
use Rattle.pt_block_laws.specs.Iteration.{first_place, states_after, all_logged, lefts, fuel_for}
use Rattle.pt_block_laws.specs.Block.{IsInner, IsPassed, IsBlock, empty, from_iteration, states_at, sent_in}
use Rattle.pt_block_laws.specs.Workers.{Worker, past_after, IsWorked, IsWorkedBlock, as_child, all_children, workers_at, top_at, log_in_iteration, BlockIsRun}
use Rattle.pt_block_laws.proofs.PartLaws.{later-state}
use Rattle.pt_block_laws.proofs.RoundLaws.{iteration-is-done}
use Rattle.pt_block_laws.proofs.BlockLaws.{at-empty, empty-length, drop-count, inner-all, block-iteration}

-- ---- children

module _ {T A : Type 0} (rows : Rows T A) (tag : Tag) (meets : Meets) (k : ℕ) where
  abbrev kid_facts : Facts T (Child (Node T A))
  kid_facts = child_facts (facts_of rows)

  abbrev kid_steps : Stepping T (Child (Node T A))
  kid_steps = steps_below rows k 1 meets

  child-made : (needs rates : List ℕ) (n i : ℕ) (w : Worker T A) → ((j : ℕ) → j < n → IsWorked rows tag needs rates w.does j) → AreMade (child_facts (facts_of rows)) (steps_below rows k 1 meets) tag needs rates n (as_child tag i w)
  child-made needs rates n i w h j l =
      let m = h j l in
      record { need = m.need; takes = m.takes; gives = m.gives; done = actors-react rows k 0 meets tag i (past_after tag j w.past) w.start (w.does.state j) (w.does.takes j) ∙ rw m.done refl }

-- the children are numbered as they stand
numbered-workers : {T A : Type 0} (tag : Tag) (t b : ℕ) (qs : List ℕ) (number : ℕ → ℕ) (workers : ℕ → Worker T A) → ((i : ℕ) → b + i ≡ number i) → numbered b (list_of (nodes_of (workers_at tag t qs workers))) ≡ states_at t qs (λ i. as_child tag (number i) (workers i))
numbered-workers tag t b [] number workers h = refl
numbered-workers {T} {A} tag t b (q ∷ qs) number workers h =
    let first : b ≡ b + 0 = omega arith in
    ap₂ (λ (n : ℕ) (ss : List (Child (Node T A))). let c : Child (Node T A) = record { number = n; node = Actor (past_after tag (t * q) (workers 0).past) (workers 0).start ((workers 0).does.state (t * q)) } in c ∷ ss)
    (first ∙ h 0)
    (numbered-workers tag t (suc b) qs (λ i. number (suc i)) (λ i. workers (suc i)) (λ i. let e : suc b + i ≡ b + suc i = omega arith in e ∙ h (suc i)))

nodes-workers : {T A : Type 0} (tag : Tag) (t : ℕ) (qs : List ℕ) (number : ℕ → ℕ) (workers : ℕ → Worker T A) → nodes (states_at t qs (λ i. as_child tag (number i) (workers i))) ≡ workers_at tag t qs workers
nodes-workers tag t [] number workers = refl
nodes-workers tag t (q ∷ qs) number workers =
    ap (λ v. Actor (past_after tag (t * q) (workers 0).past) (workers 0).start ((workers 0).does.state (t * q)) ∷ v) (nodes-workers tag t qs (λ i. number (suc i)) (λ i. workers (suc i)))

-- the next iteration begins where one ends
states-next : {T S : Type 0} (t : ℕ) (qs : List ℕ) (does : ℕ → Firings T S) → states_after 1 qs (from_iteration t qs does) ≡ states_at (suc t) qs does
states-next t [] does = refl
states-next t (q ∷ qs) does =
    let e : t * q + 1 * q ≡ suc t * q = (let a : suc t * q ≡ t * q + q = omega arith in let b : 1 * q ≡ q = omega arith in omega (arith, a, b)) in
    ap₂ (λ x y. x ∷ y) (later-state (t * q) (1 * q) (does 0) ∙ ap (λ n. (does 0).state n) e) (states-next t qs (λ i. does (suc i)))

-- ---- channels that begin at children, and hold nothing

arrived-inner : {T : Type 0} (order : List ℕ) (cs : List Source) (X : Streams T) → length X ≡ length cs → ((c : ℕ) → c < length cs → IsInner order (get_or cs c (Own 0))) → arrived cs [] X ≡ X
arrived-inner order [] X e h = refl
arrived-inner order (c ∷ cs) [] e h = absurd (omega (arith, e))
arrived-inner order (Own port ∷ cs) (xs ∷ X) e h = absurd (h 0 (omega arith))
arrived-inner order (Output j port ∷ cs) (xs ∷ X) e h = ap₂ (λ a b. a ∷ b) (append-nil xs) (arrived-inner order cs X (omega (arith, e)) (λ c l. h (suc c) (omega (arith, l))))

allow-inner : {T : Type 0} (order takes : List ℕ) (cs : List Source) (X : Streams T) → ((c : ℕ) → c < length cs → IsInner order (get_or cs c (Own 0))) → all_allow takes cs X ≡ None
allow-inner order takes [] X h = refl
allow-inner order takes (c ∷ cs) [] h = refl
allow-inner order takes (Own port ∷ cs) (xs ∷ X) h = absurd (h 0 (omega arith))
allow-inner order takes (Output j port ∷ cs) (xs ∷ X) h = allow-inner order takes cs X (λ c l. h (suc c) (omega (arith, l)))

none-behind : {A : Type 0} (ns : List ℕ) (X : List A) → length X ≡ total ns → skip_places ns X ≡ []
none-behind [] [] e = refl
none-behind [] (x ∷ X) e = absurd (omega (arith, e))
none-behind (n ∷ ns) X e = none-behind ns (drop n X) (let h = drop-count n X (omega (arith, e)) in omega (arith, e, h))

behind-none : {T : Type 0} (ns : List ℕ) → behind {T = T} ns [] ≡ []
behind-none [] = refl
behind-none (n ∷ ns) = refl

firsts-none : {T : Type 0} (ns : List ℕ) → firsts {T = T} ns [] ≡ []
firsts-none [] = refl
firsts-none (n ∷ ns) = refl

at-both : {T : Type 0} (X Y : Streams T) → ((c : ℕ) → at X c ≡ []) → ((c : ℕ) → at Y c ≡ []) → (c : ℕ) → at (X ++ Y) c ≡ []
at-both [] Y a b c = b c
at-both (x ∷ X) Y a b zero = a 0
at-both (x ∷ X) Y a b (suc c) = at-both X Y (λ d. a (suc d)) b c

at-lefts : {T : Type 0} (qs : List ℕ) (left : ℕ → Streams T) → ((i c : ℕ) → at (left i) c ≡ []) → (c : ℕ) → at (lefts qs left) c ≡ []
at-lefts [] left h c = refl
at-lefts (q ∷ qs) left h c = at-both (left 0) (lefts qs (λ i. left (suc i))) (h 0) (λ d. at-lefts qs (λ i. left (suc i)) (λ i. h (suc i)) d) c

lefts-length : {T : Type 0} (ns qs : List ℕ) (left : ℕ → Streams T) → length qs ≡ length ns → ((i : ℕ) → i < length ns → length (left i) ≡ get_or ns i 0) → length (lefts qs left) ≡ total ns
lefts-length [] [] left e h = refl
lefts-length [] (q ∷ qs) left e h = absurd (omega (arith, e))
lefts-length (n ∷ ns) [] left e h = absurd (omega (arith, e))
lefts-length (n ∷ ns) (q ∷ qs) left e h =
    let a = h 0 (omega arith) in
    let b = lefts-length ns qs (λ i. left (suc i)) (omega (arith, e)) (λ i l. h (suc i) (omega (arith, l))) in
    length-append (left 0) (lefts qs (λ i. left (suc i))) ∙ ap₂ (λ x y. x + y) a b

-- ---- one iteration

height-workers : {T A : Type 0} (tag : Tag) (t : ℕ) (qs : List ℕ) (workers : ℕ → Worker T A) → heights (nodes_of (workers_at tag t qs workers)) ≤ 1
height-workers tag t [] workers = omega arith
height-workers tag t (q ∷ qs) workers = let h = height-workers tag t qs (λ i. workers (suc i)) in omega (arith, h)

module _ {T A : Type 0} (rows : Rows T A) (tag : Tag) (m : ℕ) (h : Past) (c : Core T) (p : SdfPlan) (needs : ℕ → List ℕ) (workers : ℕ → Worker T A) (row : ℕ → List T) (order : List ℕ) (b : IsWorkedBlock rows tag m p needs workers row order) (meets : Meets) (t : ℕ) (some : t < m) (k : ℕ) (fuel : fuel_for 1 p.repetitions order ≤ k) where
  abbrev facts : Facts T (Child (Node T A))
  facts = child_facts (facts_of rows)

  abbrev steps : Stepping T (Child (Node T A))
  steps = steps_below rows k 1 meets

  abbrev does : ℕ → Firings T (Child (Node T A))
  does = all_children tag workers

  X : Streams T
  X = empty p.net.sources

  is-block : IsBlock facts steps tag m p.net p.repetitions p.rates needs does row order
  is-block = record { make = λ i l. child-made rows tag meets k (needs i) (get_or p.rates i []) (m * get_or p.repetitions i 0) i (workers i) (b.work i l); passed = b.passed }

  kahn-done : kahn facts steps tag p.net (sdf_limits 1 p.repetitions p.rates) (fired_all 1 p.repetitions) (leaving 1 p) (states_at t p.repetitions does) (empty p.net.sources) k ≡
      Done (record { held = empty p.net.sources; kids = states_at (suc t) p.repetitions does }) [] (log_below (all_logged facts tag 1 p.repetitions (from_iteration t p.repetitions does)))
  kahn-done =
      let it = block-iteration facts steps tag m p.net p.repetitions p.rates needs does row order is-block t some in
      let all : Streams T = sent_in t p.repetitions does p.net.sources in
      let own : skip_places p.net.places all ≡ [] = none-behind p.net.places all (it.channels ∙ b.passed.placed) in
      let left : lefts p.repetitions (λ i. empty (needs i)) ≡ empty p.net.sources =
      (let long = lefts-length p.net.places p.repetitions (λ i. empty (needs i)) b.passed.repetitions (λ i l. empty-length T (needs i) ∙ b.passed.wide i l) in
      streams-same (lefts p.repetitions (λ i. empty (needs i))) (empty p.net.sources) (long ∙ sym b.passed.placed ∙ sym (empty-length T p.net.sources))
      (λ d l. at-lefts p.repetitions (λ i. empty (needs i)) (λ i e. at-empty (needs i) e) d ∙ sym (at-empty p.net.sources d)))
      in
      iteration-is-done facts steps tag 1 p.net p.repetitions p.rates (states_at t p.repetitions does) (empty p.net.sources) all needs (from_iteration t p.repetitions does) (λ i. empty (needs i)) order it (leaving 1 p) k fuel ∙
      ap₂ (λ (Y : Streams T) (Z : Streams T). let r : Outcome T (Inside (Streams T) (Child (Node T A))) = Done (record { held = Z ++ behind ((leaving 1 p).gone (lengths Y)) Y; kids = states_after 1 p.repetitions (from_iteration t p.repetitions does) }) (firsts ((leaving 1 p).given (lengths Y)) Y) (log_below (all_logged facts tag 1 p.repetitions (from_iteration t p.repetitions does))) in r) own left ∙
      done-plain
    where
      done-plain : (let r : Outcome T (Inside (Streams T) (Child (Node T A))) = Done (record { held = empty p.net.sources ++ behind ((leaving 1 p).gone []) []; kids = states_after 1 p.repetitions (from_iteration t p.repetitions does) }) (firsts ((leaving 1 p).given []) []) (log_below (all_logged facts tag 1 p.repetitions (from_iteration t p.repetitions does))) in r) ≡
          Done (record { held = empty p.net.sources; kids = states_at (suc t) p.repetitions does }) [] (log_below (all_logged facts tag 1 p.repetitions (from_iteration t p.repetitions does)))
      done-plain = rw (behind-none {T = T} (times 1 (leaves p)), firsts-none {T = T} (times 1 p.gives), append-nil (empty {T = T} p.net.sources), states-next t p.repetitions does) refl

  sdf-done : sdf facts steps p k tag (record { held = empty p.net.sources; kids = numbered 0 (list_of (nodes_of (workers_at tag t p.repetitions workers))) }) [] ≡
      Done (record { held = empty p.net.sources; kids = states_at (suc t) p.repetitions does }) [] (log_below (all_logged facts tag 1 p.repetitions (from_iteration t p.repetitions does)))
  sdf-done =
      let long : length (empty {T = T} p.net.sources) ≡ length p.net.sources = empty-length T p.net.sources in
      let inner = inner-all m p.net p.repetitions p.rates needs (λ i. (workers i).does.takes) (λ i. (workers i).does.gives) row order b.passed in
      let kids = numbered-workers tag t 0 p.repetitions (λ i. i) workers (λ i. omega arith) in
      let start : arrived p.net.sources [] (empty {T = T} p.net.sources) ≡ empty p.net.sources = arrived-inner order p.net.sources (empty p.net.sources) long inner in
      let once : all_allow p.takes p.net.sources (empty {T = T} p.net.sources) ≡ None = allow-inner order p.takes p.net.sources (empty p.net.sources) inner in
      rw (kids, start, once) kahn-done

  pub iteration-steps : Step k rows meets (top_at tag h c p workers t) tag [] ≡ Done (top_at tag h c p workers (suc t)) [] (log_in_iteration rows tag h p workers t)
  unfolding step_at
  iteration-steps =
      let low = height-workers tag t p.repetitions workers in
      let inside = as-done tag (past_after tag t h) c (Sdf p) _ _ _ _ sdf-done in
      any-level rows k 2 meets tag (top_at tag h c p workers t) [] (omega (arith, low)) ∙
      ap (λ r. recorded (past_after tag t h).made tag [] r)
      (inside ∙ ap (λ (ns : List (Node T A)). let r : Outcome T (Node T A) = Done (Composite (fired_at tag (past_after tag t h)) c (Sdf p (empty p.net.sources)) (nodes_of ns)) [] (within_firing (past_after tag t h).made (log_below (all_logged facts tag 1 p.repetitions (from_iteration t p.repetitions does)))) in r)
      (nodes-workers tag (suc t) p.repetitions (λ i. i) workers))

pub block-is-run : {T A : Type 0} → BlockIsRun T A
block-is-run rows tag m h c p needs workers row order b meets t some k fuel = iteration-steps rows tag m h c p needs workers row order b meets t some k fuel
