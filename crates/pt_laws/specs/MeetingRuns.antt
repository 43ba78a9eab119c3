-- A Rendezvous firing by index, as code with flat lists meets it, and from its end to the composite's firing.
use Rattle.std.specs.Prelude.{◌≡◌, ℕ, suc, ◌+◌, ◌≤◌, ◌<◌, List, [], ◌∷◌, ◌++◌, Bool, true, false, ◌&&◌, not, nat_eq, length, take, Option, None, Some, get_or}
use Rattle.pt_meaning.specs.Basics.{Tag, Streams, at, Log, LogBelow, Meeting, Channel, Barrier, silent, log_then, own, log_below, within_firing}
use Rattle.pt_meaning.specs.Machine.{Counts, Fault, Done, Stuck, Stepping, Facts}
use Rattle.pt_meaning.specs.Rounds.{Source, Own, Net}
use Rattle.pt_meaning.specs.Modal.{get, change_at}
use Rattle.pt_meaning.specs.Process.{Put, Well, Broken, Party, Fires, Gets, Joins, by_need, next_event, is_source, listed_if, channels_from, puts_of, puts_of_port, emptied, advance, due_puts, next_at, is_joining, at_rest, all_rest, party_faults, party_logs}
use Rattle.pt_meaning.specs.Meetings.{Meets, Scene, puts_at, offer, offers, all_there, Place, Outlet, target_from, receives, Hop, hops_in, is_legal, any_legal, sent, received, passed, noted_in, meet}
use Rattle.pt_meaning.specs.Rendezvous.{RvPlan, Places, arriving, with_meetings, scene_log, left_in, under_meetings, seated, outlets}
use Rattle.pt_meaning.specs.Children.{Child, numbered, nodes, child_facts}
use Rattle.pt_meaning.specs.Node.{Rows, Core, Rv, Past, Node, Nodes, Composite, list_of, nodes_of, fired_at, facts_of, step_at}
use Rattle.pt_meaning.specs.Running.{total}
use Rattle.pt_laws.specs.LogsOfRuns.{logs_then, log_in}
use Rattle.pt_laws.specs.CompositeRuns.{steps_below}
use Rattle.pt_meaning.specs.AnyOrder.{Underway, fire_at}
use Rattle.pt_meaning.specs.Laws.{IsIn}

-- a list in which one entry is changed
pub record ChangesAre (A : Type 0) : Type 0 where
  pub here : (j : ℕ) (f : A → A) (xs : List A) (x : A) → get xs j ≡ Some x → get (change_at j f xs) j ≡ Some (f x)
  pub others : (i j : ℕ) (f : A → A) (xs : List A) → nat_eq i j ≡ false → get (change_at j f xs) i ≡ get xs i
  pub same_length : (j : ℕ) (f : A → A) (xs : List A) → length (change_at j f xs) ≡ length xs

-- where channels end, and the channels of a Barrier's meeting: those of its places, in order
pub record TargetsAre : Type 0 where
  pub places : (ns : List ℕ) (i q : ℕ) → i < length ns → q < get_or ns i 0 → target_from 0 ns (total (take i ns) + q) ≡ Place i q
  pub outlets : (ns : List ℕ) (o : ℕ) → target_from 0 ns (total ns + o) ≡ Outlet o
  pub hops : (net : Net) (b q : ℕ) → b < length net.places → q < get_or net.places b 0 → get (hops_in net (Barrier b)) q ≡ Some (record { channel = total (take b net.places) + q; target = Place b q })
  pub how_many : (net : Net) (b : ℕ) → b < length net.places → length (hops_in net (Barrier b)) ≡ get_or net.places b 0

-- what a process does next: where it has what it needs, and where place q is the first that lacks a token
pub record NextIs (T S : Type 0) : Type 0 where
  pub of_party : (facts : Facts T S) (ps : List (Party T S)) (i : ℕ) (p : Party T S) → get ps i ≡ Some p → next_at facts ps i ≡ next_event facts p
  pub due_of : (ps : List (Party T S)) (i : ℕ) (p : Party T S) → get ps i ≡ Some p → puts_at ps i ≡ due_puts p.mood p.puts
  pub enough : (barrier : Bool) (ns : List ℕ) (X : Streams T) → ((q : ℕ) → q < length ns → get_or ns q 0 ≤ length (at X q)) → by_need barrier (Counts ns) X ≡ Fires
  pub lacks : (ns : List ℕ) (X : Streams T) (q : ℕ) → q < length ns → q < length X → length (at X q) < get_or ns q 0 → ((r : ℕ) → r < q → get_or ns r 0 ≤ length (at X r)) → (by_need false (Counts ns) X ≡ Gets q) × (by_need true (Counts ns) X ≡ Joins)

-- whether a meeting is legal
pub record LegalIs (T S : Type 0) : Type 0 where
  pub channel : (facts : Facts T S) (net : Net) (sc : Scene T S) (c : ℕ) (x : T) → offer net sc c ≡ Some x → receives facts sc.parties (target_from 0 net.places c) ≡ true → is_legal facts net sc (Channel c) ≡ true
  pub no_offer : (facts : Facts T S) (net : Net) (sc : Scene T S) (c : ℕ) → offer net sc c ≡ None → is_legal facts net sc (Channel c) ≡ false
  pub not_received : (facts : Facts T S) (net : Net) (sc : Scene T S) (c : ℕ) → receives facts sc.parties (target_from 0 net.places c) ≡ false → is_legal facts net sc (Channel c) ≡ false
  pub barrier : (facts : Facts T S) (net : Net) (sc : Scene T S) (b : ℕ) → b < length net.places → ((q : ℕ) → q < get_or net.places b 0 → (x : T) × (offer net sc (total (take b net.places) + q) ≡ Some x)) → is_joining (next_at facts sc.parties b) ≡ true → is_legal facts net sc (Barrier b) ≡ true
  pub one_missing : (facts : Facts T S) (net : Net) (sc : Scene T S) (b q : ℕ) → b < length net.places → q < get_or net.places b 0 → offer net sc (total (take b net.places) + q) ≡ None → is_legal facts net sc (Barrier b) ≡ false
  pub not_joining : (facts : Facts T S) (net : Net) (sc : Scene T S) (b : ℕ) → is_joining (next_at facts sc.parties b) ≡ false → is_legal facts net sc (Barrier b) ≡ false
  pub none : (facts : Facts T S) (net : Net) (sc : Scene T S) → ((c : ℕ) → c < length net.sources → is_legal facts net sc (Channel c) ≡ false) → ((b : ℕ) → b < length sc.parties → is_legal facts net sc (Barrier b) ≡ false) → any_legal facts net sc ≡ false
  pub some_channel : (facts : Facts T S) (net : Net) (sc : Scene T S) (c : ℕ) → c < length net.sources → is_legal facts net sc (Channel c) ≡ true → any_legal facts net sc ≡ true
  pub some_barrier : (facts : Facts T S) (net : Net) (sc : Scene T S) (b : ℕ) → b < length sc.parties → is_legal facts net sc (Barrier b) ≡ true → any_legal facts net sc ≡ true
  pub all_at_rest : (facts : Facts T S) (ps : List (Party T S)) → ((i : ℕ) (p : Party T S) → get ps i ≡ Some p → at_rest (next_event facts p) ≡ true) → all_rest facts ps ≡ true

-- What a meeting does. On a channel one token passes; at a Barrier's meeting one passes on each channel in turn, and what is offered on those to come stays.
pub record MeetIs (T S : Type 0) : Type 0 where
  pub channel : (net : Net) (n : ℕ) (sc : Scene T S) (c : ℕ) (x : T) → offer net sc c ≡ Some x → meet net n (Channel c) sc ≡ noted_in n (Channel c) (received x (target_from 0 net.places c) (sent (get net.sources c) sc))
  pub barrier : (net : Net) (n : ℕ) (sc : Scene T S) (b : ℕ) → meet net n (Barrier b) sc ≡ noted_in n (Barrier b) (passed net (hops_in net (Barrier b)) (offers net sc (hops_in net (Barrier b))) sc)
  pub begins : (net : Net) (hs : List Hop) (xs : List (Option T)) (sc : Scene T S) → passed net (take 0 hs) (take 0 xs) sc ≡ sc
  pub passes : (net : Net) (hs : List Hop) (xs : List (Option T)) (sc : Scene T S) (q : ℕ) (h : Hop) (x : T) → all_there xs ≡ true → get hs q ≡ Some h → get xs q ≡ Some (Some x) →
      passed net (take (suc q) hs) (take (suc q) xs) sc ≡ received x h.target (sent (get net.sources h.channel) (passed net (take q hs) (take q xs) sc))
  pub stays : (facts : Facts T S) (net : Net) (sc : Scene T S) (b q : ℕ) → b < length net.places → is_legal facts net sc (Barrier b) ≡ true → q < get_or net.places b 0 →
      offer net (passed net (take q (hops_in net (Barrier b))) (take q (offers net sc (hops_in net (Barrier b)))) sc) (total (take b net.places) + q) ≡ offer net sc (total (take b net.places) + q)

-- what a process comes to that fires
pub record FiresAre (T S : Type 0) : Type 0 where
  pub change : (facts : Facts T S) (step : Stepping T S) (tag : Tag) (net : Net) (n i : ℕ) (ps : List (Party T S)) → fire_at facts step tag net n 0 i ps ≡ change_at i (advance facts step tag net.sources i) ps
  pub done : (facts : Facts T S) (step : Stepping T S) (tag : Tag) (sources : List Source) (i : ℕ) (p : Party T S) (s' : S) (out : Streams T) (l : Log T) → next_event facts p ≡ Fires → step tag p.state p.got ≡ Done s' out l →
      advance facts step tag sources i p ≡
      record { barrier = p.barrier; state = s'; got = emptied p.got; puts = puts_of sources i 0 out; mood = Well; log = log_then p.log (log_then l (own (record { number = facts.made p.state; tag = tag; inputs = p.got; outputs = out }))) }
  pub stuck : (facts : Facts T S) (step : Stepping T S) (tag : Tag) (sources : List Source) (i : ℕ) (p : Party T S) (fs : List Fault) (l : Log T) → next_event facts p ≡ Fires → step tag p.state p.got ≡ Stuck fs l →
      advance facts step tag sources i p ≡ record { barrier = p.barrier; state = p.state; got = p.got; puts = p.puts; mood = Broken fs; log = log_then p.log l }

-- the channels of a source, channel by channel, and the start of a firing
pub record StartsAre (T S : Type 0) : Type 0 where
  pub channels : (c : ℕ) (s : Source) (ds : List Source) (d : Source) → channels_from c s (ds ++ (d ∷ [])) ≡ channels_from c s ds ++ listed_if (is_source s d) (c + length ds) []
  pub inlets : (sources : List Source) (kept : List (List (Put T))) (X : Streams T) (j : ℕ) → j < length kept → at (arriving sources 0 kept X) j ≡ at kept j ++ puts_of_port (channels_from 0 (Own j) sources) (at X j)
  pub seats : (bs : List Bool) (gs : List (Streams T)) (us : List (List (Put T))) (ss : List S) (i : ℕ) (b : Bool) (g : Streams T) (u : List (Put T)) (s : S) → get bs i ≡ Some b → get gs i ≡ Some g → get us i ≡ Some u → get ss i ≡ Some s →
      get (seated bs gs us ss) i ≡ Some (record { barrier = b; state = s; got = g; puts = u; mood = Well; log = silent })

-- what the processes have logged in the middle, with what process i has logged within the firing that it was asked for, is the beginning of the log of the whole firing, however the list of meetings goes on
abbrev pub OrderIsPrefix : Type 0 → Type 0 → Type 0
OrderIsPrefix T S = (facts : Facts T S) (step : Stepping T S) (tag : Tag) (net : Net) (n : ℕ) (start : Scene T S) (count : ℕ) (ms : List Meeting) (sc : Scene T S) → Underway facts step tag net n start count ms sc → (more : List Meeting) (k : ℕ) → count ≤ k →
    LogBelow (scene_log sc) (log_in (under_meetings facts step tag net k n (ms ++ more) start))

abbrev pub AskedInOrder : Type 0 → Type 0 → Type 0
AskedInOrder T S = (facts : Facts T S) (step : Stepping T S) (tag : Tag) (net : Net) (n : ℕ) (start : Scene T S) (count : ℕ) (ms : List Meeting) (sc : Scene T S) → Underway facts step tag net n start count ms sc → (more : List Meeting) →
    (i : ℕ) (p : Party T S) → get sc.parties i ≡ Some p → next_event facts p ≡ Fires → (inside : Log T) → LogBelow inside (log_in (step tag p.state p.got)) → (k : ℕ) → count < k →
    LogBelow (with_meetings sc.met (log_below (logs_then i inside (party_logs sc.parties)))) (log_in (under_meetings facts step tag net k n (ms ++ more) start))

-- a Rendezvous composite: its processes before the firing, and its firing under way, of which ms are the meetings made
abbrev pub rv_start : {T A : Type 0} → RvPlan → Places T → Nodes T A → Streams T → Scene T (Child (Node T A))
rv_start p X kids inputs = record { parties = seated p.barriers X.got X.puts (numbered 0 (list_of kids)); inputs = arriving p.net.sources 0 X.inputs inputs; outputs = outlets p.net.places p.net.sources; met = [] }

abbrev pub RvRun : {T A : Type 0} → Rows T A → ℕ → ℕ → Meets → Tag → Past → RvPlan → Places T → Nodes T A → Streams T → ℕ → List Meeting → Scene T (Child (Node T A)) → Type 0
RvRun rows k d m tag h p X kids inputs count ms sc = Underway (child_facts (facts_of rows)) (steps_below rows k d m) tag p.net h.made (rv_start p X kids inputs) count ms sc

-- Where all rest and no meeting is legal, and the meetings made are those of this firing, the composite's firing is done.
abbrev pub RvEnds : Type 0 → Type 0 → Type 0
RvEnds T A = (rows : Rows T A) (k d : ℕ) (m : Meets) (tag : Tag) (h : Past) (c : Core T) (p : RvPlan) (X : Places T) (kids : Nodes T A) (inputs : Streams T) (count : ℕ) (ms : List Meeting) (sc : Scene T (Child (Node T A))) →
    RvRun rows k d m tag h p X kids inputs count ms sc → (all_rest (child_facts (facts_of rows)) sc.parties && not (any_legal (child_facts (facts_of rows)) p.net sc)) ≡ true → m [] h.made ≡ ms → count ≤ k →
    step_at rows k (suc d) m tag (Composite h c (Rv p X) kids) inputs ≡ Done (Composite (fired_at tag h) c (Rv p (left_in sc).held) (nodes_of (nodes (left_in sc).kids))) sc.outputs (within_firing h.made (scene_log sc))

-- where a process is stuck, so is the composite, at its place
abbrev pub RvSticks : Type 0 → Type 0 → Type 0
RvSticks T A = (rows : Rows T A) (k d : ℕ) (m : Meets) (tag : Tag) (h : Past) (c : Core T) (p : RvPlan) (X : Places T) (kids : Nodes T A) (inputs : Streams T) (count : ℕ) (ms : List Meeting) (sc : Scene T (Child (Node T A))) →
    RvRun rows k d m tag h p X kids inputs count ms sc → (f : Fault) → IsIn f (party_faults 0 sc.parties) → m [] h.made ≡ ms → count ≤ k →
    (gs : List Fault) × (l : Log T) × (step_at rows k (suc d) m tag (Composite h c (Rv p X) kids) inputs ≡ Stuck gs l) × IsIn f gs × LogBelow (within_firing h.made (scene_log sc)) l

-- what the processes have logged in the middle is the beginning of the firing's log, also with what process i has logged within the firing that it was asked for
abbrev pub RvIsPrefix : Type 0 → Type 0 → Type 0
RvIsPrefix T A = (rows : Rows T A) (k d : ℕ) (m : Meets) (tag : Tag) (h : Past) (c : Core T) (p : RvPlan) (X : Places T) (kids : Nodes T A) (inputs : Streams T) (count : ℕ) (ms more : List Meeting) (sc : Scene T (Child (Node T A))) →
    RvRun rows k d m tag h p X kids inputs count ms sc → m [] h.made ≡ ms ++ more → count ≤ k → LogBelow (within_firing h.made (scene_log sc)) (log_in (step_at rows k (suc d) m tag (Composite h c (Rv p X) kids) inputs))

abbrev pub RvAskedIsPrefix : Type 0 → Type 0 → Type 0
RvAskedIsPrefix T A = (rows : Rows T A) (k d : ℕ) (m : Meets) (tag : Tag) (h : Past) (c : Core T) (p : RvPlan) (X : Places T) (kids : Nodes T A) (inputs : Streams T) (count : ℕ) (ms more : List Meeting) (sc : Scene T (Child (Node T A))) →
    RvRun rows k d m tag h p X kids inputs count ms sc → (i : ℕ) (q : Party T (Child (Node T A))) → get sc.parties i ≡ Some q → next_event (child_facts (facts_of rows)) q ≡ Fires → (inside : Log T) → LogBelow inside (log_in (steps_below rows k d m tag q.state q.got)) →
    m [] h.made ≡ ms ++ more → count < k →
    LogBelow (within_firing h.made (with_meetings sc.met (log_below (logs_then i inside (party_logs sc.parties))))) (log_in (step_at rows k (suc d) m tag (Composite h c (Rv p X) kids) inputs))
