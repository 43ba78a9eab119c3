-- How a director's firing is made up of firings of its children: which were made, what they took, and where it came from.
use Rattle.std.specs.Prelude.{◌≡◌, ◌⊎◌, ℕ, ◌≤◌, List, [], ◌∷◌, ◌++◌, true, false, length, Option, Some, None}
use Rattle.pt_meaning.specs.Basics.{Tag, Streams, at, Log, Firing, Meeting, Event, firings_in, silent, log_then, own, log_below}
use Rattle.pt_meaning.specs.Streams.{IsPrefix}
use Rattle.pt_meaning.specs.Machine.{Outcome, Done, Stuck, Stepping, Facts, Partial, Unknown, Known, partial_at}
use Rattle.pt_meaning.specs.Rounds.{Source, Own, Output}
use Rattle.pt_meaning.specs.Dataflow.{Inside}
use Rattle.pt_meaning.specs.Modal.{get}
use Rattle.pt_meaning.specs.Rendezvous.{with_meetings}
use Rattle.pt_meaning.specs.Node.{Core}
use Rattle.pt_meaning.specs.Asked.{IsAsked}
use Rattle.pt_laws.specs.Channels as channels
use Rattle.pt_meaning.specs.Closed.{Begun, inputs_at, outputs_at, begun_at, is_modal, keeps_tokens, IsTagBelow}
use Rattle.pt_laws.specs.LogsOfRuns.{log_at, log_in}
use Rattle.pt_laws.specs.SoundRuns.{IsBare, on_place, IsWired, IsSamePlan}

-- a finished firing of a child, with what was logged within it
pub record Turned (T : Type 0) : Type 0 where
  pub record_of : Firing T
  pub inside : Log T

-- firings of a child one after another, from s to z, which log l
abbrev pub ChainOf : {T S : Type 0} → Facts T S → Stepping T S → S → List (Turned T) → S → Log T → Type 0
ChainOf facts step s [] z l = (z ≡ s) × (l ≡ silent)
ChainOf {T} {S} facts step s (t ∷ ts) z l =
    (y : S) × (rest : Log T) × (t.record_of.number ≡ facts.made s) × (step t.record_of.tag s t.record_of.inputs ≡ Done y t.record_of.outputs t.inside) × ChainOf facts step y ts z rest × (l ≡ log_then (log_then t.inside (own t.record_of)) rest)

-- what a child logs after these: nothing, or what it logs within a firing that it doesn't finish
abbrev pub EndsWith : {T S : Type 0} → Stepping T S → S → Option (Begun T) → Log T → Type 0
EndsWith step z None l = l ≡ silent
EndsWith step z (Some b) l = l ≡ log_in (step b.tag z b.inputs)

-- the part of a child in a firing of its composite
pub record PartOf {T S : Type 0} (facts : Facts T S) (step : Stepping T S) (s : S) (l : Log T) (ts : List (Turned T)) (way : Option (Begun T)) (z : S) : Type 0 where
  pub first : Log T
  pub rest : Log T
  pub chain : ChainOf facts step s ts z first
  pub ends : EndsWith step z way rest
  pub whole : l ≡ log_then first rest

-- all that is picked of these firings, in order
abbrev pub of_turns : {T : Type 0} → (Firing T → List T) → List (Turned T) → List T
of_turns pick [] = []
of_turns pick (t ∷ ts) = pick t.record_of ++ of_turns pick ts

-- all that child i takes at a place in this firing, in order, the firing that it doesn't finish with it
abbrev pub takes_in : {T : Type 0} → (ℕ → List (Turned T)) → (ℕ → Option (Begun T)) → (child place : ℕ) → List T
takes_in turns way i q = of_turns (inputs_at q) (turns i) ++ begun_at (way i) q

-- all that a source gives in this firing, in order
abbrev pub gives_in : {T : Type 0} → Streams T → (ℕ → List (Turned T)) → Option Source → List T
gives_in inputs turns None = []
gives_in inputs turns (Some (Own port)) = at inputs port
gives_in inputs turns (Some (Output j port)) = of_turns (outputs_at port) (turns j)

-- what may be known of a place in this firing: nothing, or absence; what its source gives; or what its source gives early, from what may be known of its own places
pub data MaySay {T S : Type 0} (facts : Facts T S) (d : Core T) (ks : List S) (inputs : Streams T) (turns : ℕ → List (Turned T)) (tag : Tag) : (child place : ℕ) → Partial T → Type 0 where
  Nothing : (i q : ℕ) → MaySay facts d ks inputs turns tag i q Unknown
  Absence : (i q : ℕ) → MaySay facts d ks inputs turns tag i q (Known [])
  Gives : (i q : ℕ) → MaySay facts d ks inputs turns tag i q (Known (gives_in inputs turns (channels.source_of d i q)))
  Early : (i q j port : ℕ) (s : S) (vs : List (Partial T)) (xs : List T) → channels.source_of d i q ≡ Some (Output j port) → get ks j ≡ Some s → ((place : ℕ) → MaySay facts d ks inputs turns tag j place (partial_at vs place)) → partial_at (facts.early tag s vs) port ≡ Known xs → MaySay facts d ks inputs turns tag i q (Known xs)

-- what child i takes at a place is the beginning of what was on the place and of what its source gives, or at a tick of what may be known of it
abbrev pub IsTakenWell : {T S : Type 0} → Facts T S → Core T → List S → Streams T → (ℕ → List (Turned T)) → (ℕ → Option (Begun T)) → Tag → (child place : ℕ) → Type 0
IsTakenWell {T} facts d ks inputs turns way tag i q =
    IsPrefix (takes_in turns way i q) (on_place d i q ++ gives_in inputs turns (channels.source_of d i q)) ⊎ ((keeps_tokens d ≡ false) × (xs : List T) × MaySay facts d ks inputs turns tag i q (Known xs) × IsPrefix (takes_in turns way i q) xs)

-- Where it is done: no firing of a child is unfinished, the plan stays, all that was taken was there or was given, what is left is then on its place, and each child has come to where its firings led, or was reset.
pub record DoneWell {T S H : Type 0} (facts : Facts T S) (inputs : Streams T) (d : Core T) (core : H → Core T) (ks : List S) (turns : ℕ → List (Turned T)) (way : ℕ → Option (Begun T)) (ends : ℕ → S) (x : Inside H S) : Type 0 where
  pub whole : (i : ℕ) → way i ≡ None
  pub wired : IsWired (core x.held)
  pub count : length x.kids ≡ length ks
  pub kids : (i : ℕ) (s : S) → get x.kids i ≡ Some s → (s ≡ ends i) ⊎ ((is_modal d ≡ true) × (s ≡ facts.reset (ends i)))
  pub same_plan : IsSamePlan (core x.held) d
  pub counted : (i q : ℕ) → IsPrefix (of_turns (inputs_at q) (turns i)) (on_place d i q ++ gives_in inputs turns (channels.source_of d i q))
  pub left : keeps_tokens d ≡ true → (i q : ℕ) → of_turns (inputs_at q) (turns i) ++ on_place (core x.held) i q ≡ on_place d i q ++ gives_in inputs turns (channels.source_of d i q)

abbrev pub IfDone : {T S H : Type 0} → Facts T S → Streams T → Core T → (H → Core T) → List S → (ℕ → List (Turned T)) → (ℕ → Option (Begun T)) → (ℕ → S) → Outcome T (Inside H S) → Type 0
IfDone facts inputs d core ks turns way ends (Done x out l) = DoneWell facts inputs d core ks turns way ends x
IfDone facts inputs d core ks turns way ends (Stuck fs l) = Unit {0}

-- A firing of a director over the children ks, the composite's firing of number made under the meetings ms, explained: its log is what the children log, below their numbers, and what stands at its own path (meetings).
pub record Explained {T S H : Type 0} (facts : Facts T S) (step : Stepping T S) (ms : List Meeting) (made : ℕ) (tag : Tag) (inputs : Streams T) (d : Core T) (core : H → Core T) (ks : List S) (r : Outcome T (Inside H S)) : Type 0 where
  pub events : List (Event T)
  pub bare : IsBare events
  pub quiet : firings_in events ≡ 0
  pub logs : List (Log T)
  pub log : log_in r ≡ with_meetings events (log_below logs)
  pub turns : ℕ → List (Turned T)
  pub way : ℕ → Option (Begun T)
  pub ends : ℕ → S
  pub parts : (i : ℕ) (s : S) → get ks i ≡ Some s → PartOf facts step s (log_at logs i) (turns i) (way i) (ends i)
  pub beyond : (i : ℕ) → length ks ≤ i → (log_at logs i ≡ silent) × (turns i ≡ []) × (way i ≡ None)
  pub tagged : (i : ℕ) (b : Begun T) → way i ≡ Some b → IsTagBelow (is_modal d) tag b.tag
  pub counted : (i q : ℕ) → IsTakenWell facts d ks inputs turns way tag i q
  pub asked : (i : ℕ) (b : Begun T) → way i ≡ Some b → IsAsked facts step ms made d ks tag inputs i (ends i) b.tag b.inputs
  pub done : IfDone facts inputs d core ks turns way ends r
