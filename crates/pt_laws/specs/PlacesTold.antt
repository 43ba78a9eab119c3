-- What the events of a PN firing tell of its places: the tokens that a process has gathered and not used, those on the channel, and those still to be put are what was given to the channel without what was used of it. So the full lines of a jam tell the lengths.
use Rattle.std.specs.Prelude.{◌≡◌, ℕ, ◌+◌, ◌<◌, List, ◌++◌, [], ◌∷◌, length, Some, get_or}
use Rattle.pt_meaning.specs.Tag.{Tag}
use Rattle.pt_meaning.specs.Streams.{Streams, at, get}
use Rattle.pt_meaning.specs.Machine.{Stepping, Facts}
use Rattle.pt_meaning.specs.Net.{Net}
use Rattle.pt_meaning.specs.Kahn.{logs_of}
use Rattle.pt_meaning.specs.Pn.{pn_limits}
use Rattle.pt_meaning.specs.Process.{puts_of}
use Rattle.pt_meaning.specs.Running.{runs}
use Rattle.pt_meaning.specs.Places.{Halfway, Consistent, due}
use Rattle.pt_meaning.specs.Jam.{Jam, IsPutting, WaitsFor, waited_for, IsFull}
use Rattle.pt_laws.specs.LogsOfRuns.{log_at}
use Rattle.pt_meaning.specs.Closed.{Has, inputs_at}
use Rattle.pt_laws.specs.Channels.{channel_at}
use Rattle.pt_laws.specs.Explained.{Turned, ChainOf, of_turns, gives_in}

-- the finished firings of process i, of which the run's log tells: as many as it has made, from its state at the start to the one now
pub record AreFirings {T S : Type 0} (facts : Facts T S) (step : Stepping T S) (tag : Tag) (net : Net) (kids : List S) (all : Streams T) (ms : List ℕ) (now : List S) (i : ℕ) (s : S) (ts : List (Turned T)) : Type 0 where
  pub end : S
  pub there : get now i ≡ Some end
  pub chain : ChainOf facts step s ts end (log_at (logs_of (runs facts step tag net.places (pn_limits net.places) ms kids all)) i)
  pub count : length ts ≡ get_or ms i 0

-- On each channel that ends at a place of a process, what it held at the start and what its source gave is what the process used, and then what it has gathered, what is in the queue and what is still to be put.
pub record AreTold {T S : Type 0} (facts : Facts T S) (step : Stepping T S) (tag : Tag) (net : Net) (kids : List S) (start : Streams T) (ms : List ℕ) (now : List S) (h : Halfway T) (all : Streams T) : Type 0 where
  pub firings : ℕ → List (Turned T)
  pub made : (i : ℕ) (s : S) → get kids i ≡ Some s → AreFirings facts step tag net kids all ms now i s (firings i)
  pub tokens : (i q c : ℕ) → channel_at net.places i q ≡ Some c → at start c ++ gives_in [] firings (get net.sources c) ≡ of_turns (inputs_at q) (firings i) ++ (at h.gathered c ++ (at h.queued c ++ due net h.puts c))

-- so it is at all consistent places
abbrev pub PlacesAreTold : Type 0 → Type 0 → Type 0
PlacesAreTold T S = (facts : Facts T S) (step : Stepping T S) (tag : Tag) (net : Net) (kids : List S) (start : Streams T) (ms : List ℕ) (now : List S) (h : Halfway T) → length kids ≡ length net.places →
    (k : Consistent facts step tag net kids start ms now h) → AreTold facts step tag net kids start ms now h k.running.all

-- A full line is of a channel that a process waits for, with its length; and each such channel has its line.
pub record LinesTell (T : Type 0) : Type 0 where
  pub told : (h : Halfway T) (c n : ℕ) → Has (c, n) (waited_for h) → (n ≡ length (at h.queued c)) × (i : ℕ) × WaitsFor h i c
  pub each : (h : Halfway T) (i c : ℕ) → WaitsFor h i c → c < length h.queued → Has (c, length (at h.queued c)) (waited_for h)

-- In a jam the number on a full line is that of the tokens that the channel had in all, without those used, gathered, or still to be put.
abbrev pub FullLinesTell : Type 0 → Type 0 → Type 0
FullLinesTell T S = (facts : Facts T S) (step : Stepping T S) (tag : Tag) (net : Net) (kids : List S) (start : Streams T) (greatest : ℕ → ℕ) (full : List (ℕ × ℕ)) → length kids ≡ length net.places → (jam : IsFull facts step tag net kids start greatest full) →
    (told : AreTold facts step tag net kids start jam.made jam.now jam.halfway jam.jam.consistent.running.all) ×
    ((i q c n : ℕ) → channel_at net.places i q ≡ Some c → Has (c, n) full →
    length (at start c) + length (gives_in [] told.firings (get net.sources c)) ≡ length (of_turns (inputs_at q) (told.firings i)) + (length (at jam.halfway.gathered c) + (n + length (due net jam.halfway.puts c))))

-- The puts that a process has still to make are those of its last firing of which the log tells: its outputs in order of ports, tokens and channels, without the puts that are made.
abbrev pub LastPutsAreTold : Type 0 → Type 0 → Type 0
LastPutsAreTold T S = (facts : Facts T S) (step : Stepping T S) (tag : Tag) (net : Net) (kids : List S) (start : Streams T) (ms : List ℕ) (now : List S) (h : Halfway T) → length kids ≡ length net.places → (k : Consistent facts step tag net kids start ms now h) →
    (told : AreTold facts step tag net kids start ms now h k.running.all) ×
    ((i : ℕ) → (putting : IsPutting facts step tag net kids k.running.all ms h i) → (s : S) → get kids i ≡ Some s →
    (before : List (Turned T)) × (last : Turned T) × (told.firings i ≡ before ++ (last ∷ [])) × (length before ≡ putting.before) × ((port : ℕ) → at putting.outputs port ≡ at last.record_of.outputs port) × (puts_of net.sources i 0 putting.outputs ≡ putting.put ++ at h.puts i))

-- In a jam what was given to a channel is the puts that are made, and then those still to be made. What its receiver has got in all, used or gathered, is the beginning of what the channel held at the start and of the puts made; the rest is in the queue.
abbrev pub GetsFollowPuts : Type 0 → Type 0 → Type 0
GetsFollowPuts T S = (facts : Facts T S) (step : Stepping T S) (tag : Tag) (net : Net) (kids : List S) (start : Streams T) (greatest : ℕ → ℕ) (ms : List ℕ) (now : List S) (h : Halfway T) → length kids ≡ length net.places → (jam : Jam facts step tag net kids start greatest ms now h) →
    (told : AreTold facts step tag net kids start ms now h jam.consistent.running.all) ×
    ((i q c : ℕ) → channel_at net.places i q ≡ Some c → (put : List T) × (gives_in [] told.firings (get net.sources c) ≡ put ++ due net h.puts c) × (at start c ++ put ≡ (of_turns (inputs_at q) (told.firings i) ++ at h.gathered c) ++ at h.queued c))
