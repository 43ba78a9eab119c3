-- A block of a top under SDF whose children are library actors, and which takes and gives nothing: a run of firings of the top.
use Rattle.std.specs.Prelude.{◌≡◌, ℕ, zero, suc, ◌+◌, ◌*◌, ◌<◌, ◌≤◌, List, [], ◌∷◌, length, get_or, true}
use Rattle.pt_meaning.specs.Tag.{Tag}
use Rattle.pt_meaning.specs.Streams.{Streams}
use Rattle.pt_meaning.specs.Log.{Log, silent, log_then, own, log_below, within_firing}
use Rattle.pt_meaning.specs.Machine.{Counts, Done}
use Rattle.pt_meaning.specs.Rounds.{has_rates}
use Rattle.pt_meaning.specs.Kahn.{lengths}
use Rattle.pt_meaning.specs.Sdf.{SdfPlan}
use Rattle.pt_meaning.specs.Meetings.{Meets}
use Rattle.pt_meaning.specs.Children.{Child, child_facts}
use Rattle.pt_meaning.specs.Tree.{Answer, Gives, Rows, Core, Sdf, Past, Node, Actor, Composite, nodes_of, fired_at}
use Rattle.pt_meaning.specs.NodeFacts.{facts_of}
use Rattle.pt_meaning.specs.Step.{Step}
use Rattle.pt_block_laws.specs.Firings.{Firings}
use Rattle.pt_block_laws.specs.Iteration.{all_logged, fuel_for}
use Rattle.pt_block_laws.specs.Block.{IsPassed, empty, from_iteration}

-- a library actor in a block: its past and its start, and what it does from its state on
pub record Worker (T A : Type 0) : Type 0 where
  pub past : Past
  pub start : A
  pub does : Firings T A

-- after so many firings at a tag
abbrev pub past_after : Tag → ℕ → Past → Past
past_after tag zero h = h
past_after tag (suc n) h = fired_at tag (past_after tag n h)

module _ {T A : Type 0} where
  -- firing k is one of the library, which takes what the actor needs and gives as many on each port as its rates say
  pub record IsWorked (rows : Rows T A) (tag : Tag) (needs rates : List ℕ) (does : Firings T A) (k : ℕ) : Type 0 where
    pub need : rows.need (does.state k) ≡ Counts needs
    pub takes : lengths (does.takes k) ≡ needs
    pub gives : has_rates rates (does.gives k) ≡ true
    pub done : rows.react tag (does.state k) (does.takes k) ≡ Gives (does.state (suc k)) (does.gives k)

  -- The firings of m iterations of a plan.
  pub record IsWorkedBlock (rows : Rows T A) (tag : Tag) (m : ℕ) (p : SdfPlan) (needs : ℕ → List ℕ) (workers : ℕ → Worker T A) (row : ℕ → List T) (order : List ℕ) : Type 0 where
    pub work : (i : ℕ) → i < length p.net.places → (k : ℕ) → k < m * get_or p.repetitions i 0 → IsWorked rows tag (needs i) (get_or p.rates i []) (workers i).does k
    pub passed : IsPassed m p.net p.repetitions p.rates needs (λ i. (workers i).does.takes) (λ i. (workers i).does.gives) row order

  -- a worker as a child of that number: what its node does
  abbrev pub as_child : Tag → ℕ → Worker T A → Firings T (Child (Node T A))
  as_child tag i w = record {
    state = λ k. record { number = i; node = Actor (past_after tag k w.past) w.start (w.does.state k) };
    takes = w.does.takes;
    gives = w.does.gives;
    inside = λ k. silent;
  }

  abbrev pub all_children : Tag → (ℕ → Worker T A) → ℕ → Firings T (Child (Node T A))
  all_children tag workers i = as_child tag i (workers i)

  -- the children before iteration t
  abbrev pub workers_at : Tag → ℕ → List ℕ → (ℕ → Worker T A) → List (Node T A)
  workers_at tag t [] workers = []
  workers_at tag t (q ∷ qs) workers = Actor (past_after tag (t * q) (workers 0).past) (workers 0).start ((workers 0).does.state (t * q)) ∷ workers_at tag t qs (λ i. workers (suc i))

  -- the top before iteration t
  abbrev pub top_at : Tag → Past → Core T → SdfPlan → (ℕ → Worker T A) → ℕ → Node T A
  top_at tag h c p workers t = Composite (past_after tag t h) c (Sdf p (empty p.net.sources)) (nodes_of (workers_at tag t p.repetitions workers))

  -- what it logs in it, with its own record
  abbrev pub log_in_iteration : Rows T A → Tag → Past → SdfPlan → (ℕ → Worker T A) → ℕ → Log T
  log_in_iteration rows tag h p workers t =
      log_then (within_firing (past_after tag t h).made (log_below (all_logged (child_facts (facts_of rows)) tag 1 p.repetitions (from_iteration t p.repetitions (all_children tag workers)))))
      (own (record { number = (past_after tag t h).made; tag = tag; inputs = []; outputs = [] }))

-- Each of the m iterations is a firing of the top, under any meetings and at enough fuel.
abbrev pub BlockIsRun : Type 0 → Type 0 → Type 0
BlockIsRun T A = (rows : Rows T A) (tag : Tag) (m : ℕ) (h : Past) (c : Core T) (p : SdfPlan) (needs : ℕ → List ℕ) (workers : ℕ → Worker T A) (row : ℕ → List T) (order : List ℕ) → IsWorkedBlock rows tag m p needs workers row order → (meets : Meets) (t : ℕ) → t < m → (k : ℕ) → fuel_for 1 p.repetitions order ≤ k →
    Step k rows meets (top_at tag h c p workers t) tag [] ≡ Done (top_at tag h c p workers (suc t)) [] (log_in_iteration rows tag h p workers t)
