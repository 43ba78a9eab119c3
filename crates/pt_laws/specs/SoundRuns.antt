-- Closed logs level by level: of a tree at its start, of what is under way in it, and of the state that a run has come to.
use Rattle.std.specs.Prelude.{◌≡◌, ◌⊎◌, ℕ, zero, suc, ◌<◌, ◌≤◌, List, [], ◌∷◌, ◌++◌, Bool, true, ◌||◌, length, Option, Some, None}
use Rattle.pt_meaning.specs.Basics.{Tag, Streams, at, Log, Path, Firing, Event, Finished, Met, firings_in, log_then, own}
use Rattle.pt_meaning.specs.Machine.{Done, Stepping}
use Rattle.pt_laws.specs.LogsOfRuns.{log_in}
use Rattle.pt_laws.specs.Heights.{IsFitting}
use Rattle.pt_meaning.specs.Running.{total}
use Rattle.pt_meaning.specs.Rounds.{Source, Own, Output, Net}
use Rattle.pt_meaning.specs.Streams.{get}
use Rattle.pt_meaning.specs.Rendezvous.{Places}
use Rattle.pt_meaning.specs.Places.{tokens_on}
use Rattle.pt_laws.specs.Channels as channels
use Rattle.pt_meaning.specs.Closed.{Has, Begun, UnderWay, rounds_of, is_modal, keeps_tokens, state_after, begun_at, taken_from, given_from, taken_by_numbers, inputs_at, outputs_at, HasBegun, IsCausedIf, IsTagBelow}
use Rattle.pt_laws.specs.Channels.{channel_at, tokens_in}
use Rattle.pt_meaning.specs.Process.{Put}
use Rattle.pt_meaning.specs.Node.{Rows, Core, Sdf, Pn, Sr, De, Rv, Modal, Past, Node, Nodes, Actor, Composite, none, more, list_of, made_of}

-- an event as it is seen from the child below whose composite it came: without the number of the composite's firing
abbrev pub rest_of_rounds : List ℕ → List ℕ
rest_of_rounds [] = []
rest_of_rounds (n ∷ ns) = ns

abbrev pub unmarked : {T : Type 0} → Event T → Event T
unmarked (Finished within f) = Finished (rest_of_rounds within) f
unmarked (Met within i m) = Met (rest_of_rounds within) i m

abbrev pub all_unmarked : {T : Type 0} → List (Event T) → List (Event T)
all_unmarked [] = []
all_unmarked (e ∷ es) = unmarked e ∷ all_unmarked es

-- the log of child i, and what is under way in it
abbrev pub log_in_child : {T : Type 0} → ℕ → Log T → Log T
log_in_child i l = λ p. all_unmarked (l (i ∷ p))

abbrev pub way_in_child : {T : Type 0} → ℕ → UnderWay T → UnderWay T
way_in_child i u = λ p. u (i ∷ p)

abbrev pub idle : {T : Type 0} → UnderWay T
idle p = None

-- an event that came within firing n of the composite, of which so many firings are finished: n is one of these, or it is under way
abbrev pub CameByNow : {T : Type 0} → ℕ → Option (Begun T) → List ℕ → Type 0
CameByNow made way [] = ⊥
CameByNow {T} made way (n ∷ ns) = (n < suc made) × (n ≡ made → (b : Begun T) × (way ≡ Some b))

-- The closed log of one composite: each token that a child took has its cause, a firing under way stands within one of the composite, and what came within it came within one of its firings.
pub record LevelClosed {T A : Type 0} (rows : Rows T A) (resettable : Bool) (top : Node T A) (c : Core T) (count : ℕ) (l : Log T) (way : UnderWay T) : Type 0 where
  pub caused : (i q n : ℕ) → HasBegun l way [] n → IsCausedIf rows top l way resettable [] c i q n
  pub enclosed : (i : ℕ) (b : Begun T) → way (i ∷ []) ≡ Some b → (round : Begun T) × (way [] ≡ Some round) × IsTagBelow (is_modal c) round.tag b.tag
  pub within : (i : ℕ) (p : Path) (e : Event T) → Has e (l (i ∷ p)) → CameByNow (firings_in (l [])) (way []) (rounds_of e)
  pub beyond : (i : ℕ) (p : Path) → count ≤ i → (l (i ∷ p) ≡ []) × (way (i ∷ p) ≡ None)

-- what stands at a path itself came within nothing
abbrev pub IsBare : {T : Type 0} → List (Event T) → Type 0
IsBare {T} es = (e : Event T) → Has e es → rounds_of e ≡ []

-- a log that is closed in a tree at its start, level by level; what is below a Modal may be reset
abbrev mutual
  pub ClosedIn : {T A : Type 0} → Rows T A → (resettable : Bool) → Node T A → Log T → UnderWay T → Type 0
  ClosedIn rows u (Actor h a b) l way = IsBare (l []) × ((i : ℕ) (p : Path) → (l (i ∷ p) ≡ []) × (way (i ∷ p) ≡ None))
  ClosedIn rows u (Composite h c d kids) l way = IsBare (l []) × LevelClosed rows u (Composite h c d kids) c (length (list_of kids)) l way × AllClosedIn rows (u || is_modal c) kids 0 l way

  pub AllClosedIn : {T A : Type 0} → Rows T A → (resettable : Bool) → Nodes T A → ℕ → Log T → UnderWay T → Type 0
  AllClosedIn rows u none i l way = Unit {0}
  AllClosedIn rows u (more n ns) i l way = ClosedIn rows u n (log_in_child i l) (way_in_child i way) × AllClosedIn rows u ns (suc i) l way

-- what child i has gathered
abbrev pub got_by : {T : Type 0} → List (Streams T) → ℕ → Streams T
got_by [] i = []
got_by (X ∷ Xs) zero = X
got_by (X ∷ Xs) (suc i) = got_by Xs i

-- the puts of a sender that still wait: of an own input, or of a child
abbrev pub waiting_in : {T : Type 0} → Places T → Option Source → List (Put T)
waiting_in X None = []
waiting_in X (Some (Own j)) = at X.inputs j
waiting_in X (Some (Output j port)) = at X.puts j

-- what is on its way to a place that its child has, in order: what is gathered there, and then the puts on its channel that wait
abbrev pub on_its_way : {T : Type 0} → Net → Places T → (child place : ℕ) → Option ℕ → List T
on_its_way net X i q None = []
on_its_way net X i q (Some c) = at (got_by X.got i) q ++ tokens_on c (waiting_in X (get net.sources c))

-- the tokens that are at a place of a child already, or on the way to it, in order
abbrev pub on_place : {T : Type 0} → Core T → (child place : ℕ) → List T
on_place (Sdf p X) i q = tokens_in X (channel_at p.net.places i q)
on_place (Pn p X) i q = tokens_in X (channel_at p.net.places i q)
on_place (Sr p) i q = []
on_place (De p) i q = []
on_place (Rv p X) i q = on_its_way p.net X i q (channel_at p.net.places i q)
on_place (Modal chart m) i q = []

-- the number of places of a child
abbrev pub count_at : List ℕ → ℕ → ℕ
count_at [] i = 0
count_at (n ∷ ns) zero = n
count_at (n ∷ ns) (suc i) = count_at ns i

-- each process gathers at its own places, and each own input from which a channel begins has its puts
pub record HasRooms {T : Type 0} (net : Net) (X : Places T) : Type 0 where
  pub gathers : (i : ℕ) → length (got_by X.got i) ≡ count_at net.places i
  pub sends : (c j : ℕ) → get net.sources c ≡ Some (Own j) → j < length X.inputs

-- each place of a child has its channel
abbrev pub IsWired : {T : Type 0} → Core T → Type 0
IsWired (Sdf p X) = total p.net.places ≤ length X
IsWired (Pn p X) = total p.net.places ≤ length X
IsWired (Sr p) = Unit {0}
IsWired (De p) = Unit {0}
IsWired (Rv p X) = HasRooms p.net X
IsWired (Modal chart m) = Unit {0}

-- the same director on the same channels
pub record IsSamePlan {T : Type 0} (c d : Core T) : Type 0 where
  pub sources : (i q : ℕ) → channels.source_of c i q ≡ channels.source_of d i q
  pub modal : is_modal c ≡ is_modal d
  pub keeps : keeps_tokens c ≡ keeps_tokens d

-- a record of a number below this
abbrev pub AllBelow : {T : Type 0} → ℕ → List (Event T) → Type 0
AllBelow {T} made es = (within : List ℕ) (f : Firing T) → Has (Finished within f) es → f.number < made

-- what a source has given within firings r to n, as far as it is finished: what the composite took at the own input, or what the child gave
abbrev pub given_by : {T : Type 0} → Log T → Option Source → (r n : ℕ) → List T
given_by l None r n = []
given_by l (Some (Own port)) r n = taken_by_numbers r n port (l [])
given_by l (Some (Output j port)) r n = given_from 0 r n port (l (j ∷ []))

-- A composite in the middle of a run: it has made as many firings as its log tells, its plan is that of its start, and since a firing (the first, or that after a reset)
-- what its children took from a place, with what is on the place now, is what the place held at the start and what its source gave.
pub record LevelKept {T : Type 0} (resettable : Bool) (h : Past) (c₀ c d : Core T) (count₀ count : ℕ) (l : Log T) : Type 0 where
  pub made : firings_in (l []) ≡ h.made
  pub start : c ≡ c₀
  pub counts : count ≡ count₀
  pub plan : IsSamePlan d c₀
  pub first : (i q : ℕ) → on_place c₀ i q ≡ channels.held_at c₀ i q
  pub wired : IsWired d
  pub first_wired : IsWired c₀
  pub numbers : AllBelow h.made (l [])
  pub since : ℕ
  pub before : since ≤ h.made
  pub from : (since ≡ 0) ⊎ (resettable ≡ true)
  pub tokens : keeps_tokens c₀ ≡ true → (i q : ℕ) → taken_from 0 since h.made q (l (i ∷ [])) ++ on_place d i q ≡ channels.held_at c₀ i q ++ given_by l (channels.source_of c₀ i q) since h.made

-- the state of a library actor after the events of its path, from its start, or since a reset where there may be one
abbrev pub IsLedTo : {T A : Type 0} → Rows T A → (resettable : Bool) → A → A → List (Event T) → Type 0
IsLedTo {T} rows u start state es = (before since : List (Event T)) × (es ≡ before ++ since) × (state_after rows since start ≡ Some state) × ((before ≡ []) ⊎ (u ≡ true))

-- a node that a run has come to from its start, with what it has logged
abbrev mutual
  pub KeptIn : {T A : Type 0} → Rows T A → (resettable : Bool) → Node T A → Node T A → Log T → Type 0
  KeptIn rows u (Actor h₀ a₀ b₀) (Actor h a b) l = (firings_in (l []) ≡ h.made) × (a ≡ a₀) × IsLedTo rows u a₀ b (l [])
  KeptIn rows u (Composite h₀ c₀ d₀ kids₀) (Composite h c d kids) l = LevelKept u h c₀ c d (length (list_of kids₀)) (length (list_of kids)) l × AllKeptIn rows (u || is_modal c₀) kids₀ kids 0 l
  KeptIn rows u (Actor h₀ a₀ b₀) (Composite h c d kids) l = ⊥
  KeptIn rows u (Composite h₀ c₀ d₀ kids₀) (Actor h a b) l = ⊥

  pub AllKeptIn : {T A : Type 0} → Rows T A → (resettable : Bool) → Nodes T A → Nodes T A → ℕ → Log T → Type 0
  AllKeptIn rows u none none i l = Unit {0}
  AllKeptIn rows u (more n₀ ns₀) (more n ns) i l = KeptIn rows u n₀ n (log_in_child i l) × AllKeptIn rows u ns₀ ns (suc i) l
  AllKeptIn rows u none (more n ns) i l = ⊥
  AllKeptIn rows u (more n₀ ns₀) none i l = ⊥

-- what the children log in a firing, each below its number
abbrev pub part : {T : Type 0} → ℕ → Log T → Log T
part i new = λ p. new (i ∷ p)

-- all that is picked of these records, in order
abbrev pub all_of : {T : Type 0} → (Firing T → List T) → List (Event T) → List T
all_of pick [] = []
all_of pick (Finished within f ∷ es) = pick f ++ all_of pick es
all_of pick (Met within i m ∷ es) = all_of pick es

-- all that child i takes at a place in a firing of the composite, in which the children log new: by firings that are finished, and by the one under way
abbrev pub takes_now : {T : Type 0} → Log T → UnderWay T → (child place : ℕ) → List T
takes_now new way i q = all_of (inputs_at q) (new (i ∷ [])) ++ begun_at (way (i ∷ [])) q

-- all that a source gives in it
abbrev pub gives_now : {T : Type 0} → Streams T → Log T → Option Source → List T
gives_now inputs new None = []
gives_now inputs new (Some (Own port)) = at inputs port
gives_now inputs new (Some (Output j port)) = all_of (outputs_at port) (new (j ∷ []))

-- A step that keeps logs closed: while a firing is under way, and where it is done, with the node's own record.
pub record SoundStep {T A : Type 0} (rows : Rows T A) (step : Stepping T (Node T A)) : Type 0 where
  pub own_path : (u : Bool) (n₀ n : Node T A) (l : Log T) → IsFitting n → ClosedIn rows u n₀ l idle → KeptIn rows u n₀ n l → (t : Tag) (X : Streams T) → IsBare (log_in (step t n X) []) × (firings_in (log_in (step t n X) []) ≡ 0)
  pub fits : (t : Tag) (n z : Node T A) (X out : Streams T) (l : Log T) → IsFitting n → step t n X ≡ Done z out l → IsFitting z
  pub under_way : (u : Bool) (n₀ n : Node T A) (l : Log T) → IsFitting n → ClosedIn rows u n₀ l idle → KeptIn rows u n₀ n l → (t : Tag) (X : Streams T) → (way : UnderWay T) × (way [] ≡ Some (record { tag = t; inputs = X })) × ClosedIn rows u n₀ (log_then l (log_in (step t n X))) way
  pub done : (u : Bool) (n₀ n z : Node T A) (l : Log T) → IsFitting n → ClosedIn rows u n₀ l idle → KeptIn rows u n₀ n l → (t : Tag) (X out : Streams T) (k : Log T) → step t n X ≡ Done z out k →
      ClosedIn rows u n₀ (log_then l (log_then k (own (record { number = made_of n; tag = t; inputs = X; outputs = out })))) idle × KeptIn rows u n₀ z (log_then l (log_then k (own (record { number = made_of n; tag = t; inputs = X; outputs = out }))))
