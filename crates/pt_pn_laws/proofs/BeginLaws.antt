-- A firing begins, and what a process takes that may fire.
use Rattle.std.proofs.Common.{◌≡◌, inl, ℕ, zero, suc, ◌+◌, ◌<◌, ◌≤◌, List, [], ◌∷◌, ◌++◌, Bool, true, false, ◌&&◌, nat_eq, nat_le, length, take, drop, get_or, Option, Some, None, refl, sym, ap, ap₂, subst, ◌∙◌, arith, append-nil, append_assoc, leb-true, le-leb, length-append}
use Rattle.std.proofs.lemmas.List.{length-take-le, length-map}
use Rattle.std.proofs.Math.Seq.{take-append_seam}
use Rattle.std.proofs.lemmas.Bool.Decides.{nat_tests}
use Rattle.pt_meaning.specs.Tag.{Tag}
use Rattle.pt_meaning.specs.Streams.{Streams, at, get}
use Rattle.pt_meaning.specs.Log.{Log, Firing}
use Rattle.pt_meaning.specs.Machine.{Need, Over, Counts, Any, Stuck, Stepping, Facts, Fault, Front, Lacks, Ends, Takes, front, counted, if_long}
use Rattle.pt_meaning.specs.Net.{Source, Own, Output, Net}
use Rattle.pt_meaning.specs.Rounds.{Limit, rated}
use Rattle.pt_meaning.specs.Kahn.{arrived, behind, lengths}
use Rattle.pt_meaning.specs.Pn.{pn_limits}
use Rattle.pt_meaning.specs.Process.{Put, is_source, listed_if, channels_from, to_each, puts_of_port, puts_of}
use Rattle.pt_meaning.specs.Running.{Fits, Fires, Asks, total, zeros}
use Rattle.pt_meaning.specs.Places.{due_from, due, tokens_on}
use Rattle.pt_meaning.specs.Jam.{is_fed}
use Rattle.pt_meaning.specs.Laws.{IsIn}
use Rattle.pt_laws.specs.LogsOfRuns.{RunningWith, FiresWith, SticksWith, silents, rates_at}
use Rattle.pt_laws.proofs.LogLaws.{begins-with}
use Rattle.pt_laws.proofs.FiringLaws.{arrived-long}
use Rattle.pt_laws.proofs.Order.{at-joined}
use Rattle.pt_pn_laws.specs.State.{PnState, net_of, capacity_of, start_of, held_of, begun}
use Rattle.pt_pn_laws.specs.Lawful.{IsFor}
use Rattle.pt_pn_laws.specs.Chain.{AllFeed, Underway}
use Rattle.pt_pn_laws.proofs.ListLaws.{length-joined, arrival_at, arrived-at}

-- the limits of PN
pub limits-length : (ns : List ℕ) → length (pn_limits ns) ≡ length ns
limits-length [] = refl
limits-length (n ∷ ns) = ap (λ v. suc v) (limits-length ns)

abbrev pub unlimited : Limit
unlimited = record { firings = None; rates = None }

pub limits-none : (ns : List ℕ) (i : ℕ) → get_or (pn_limits ns) i unlimited ≡ unlimited
limits-none [] i = refl
limits-none (n ∷ ns) zero = refl
limits-none (n ∷ ns) (suc i) = limits-none ns i

pub rates-none : (ns : List ℕ) (i : ℕ) → rates_at (pn_limits ns) i ≡ None
rates-none [] i = refl
rates-none (n ∷ ns) zero = refl
rates-none (n ∷ ns) (suc i) = rates-none ns i

pub all-fit : {T : Type 0} (ps : List ℕ) (X : Streams T) → total ps ≤ length X → Fits ps X
all-fit [] X h = tt
all-fit (p ∷ ps) X h = (omega (arith, h), all-fit ps (drop p X) (let d = drop-long p X in omega (arith, h, d)))
  where
    drop-long : {T : Type 0} (p : ℕ) (X : Streams T) → length X ≤ p + length (drop p X)
    drop-long zero X = omega arith
    drop-long (suc p) [] = omega arith
    drop-long (suc p) (x ∷ X) = let r = drop-long p X in omega (arith, r)

-- where no process has a put to make nothing is due
pub nothing-due : {T : Type 0} (puts : List (List (Put T))) → ((i : ℕ) → at puts i ≡ []) → (o : Option Source) (c : ℕ) → due_from puts o c ≡ []
nothing-due puts h None c = refl
nothing-due puts h (Some (Own j)) c = refl
nothing-due puts h (Some (Output i p)) c = ap (λ us. tokens_on c us) (h i)

-- nothing arrives for a channel that a process feeds
fed-nothing : {T : Type 0} (cs : List Source) (inputs : Streams T) (c : ℕ) → is_fed (get cs c) ≡ true → arrival_at cs inputs c ≡ []
fed-nothing [] inputs c e = refl
fed-nothing (Own p ∷ cs) inputs zero e = absurd (cc)
fed-nothing (Output i p ∷ cs) inputs zero e = refl
fed-nothing (s ∷ cs) inputs (suc c) e = fed-nothing cs inputs c e

module _ {T S : Type 0} (facts : Facts T S) (step : Stepping T S) (before : PnState T) (kids : List S) (tag : Tag) (inputs : Streams T) (f : IsFor facts before kids) where
  abbrev net : Net
  net = net_of before

  abbrev start : Streams T
  start = start_of before inputs

  start-long : length start ≡ length net.sources
  start-long =
      let g = f.sized.gathered in
      let q = f.sized.queued in
      let l = f.lawful.channels in
      arrived-long net.sources inputs (held_of before) ∙ length-joined before.halfway.gathered before.halfway.queued (omega (arith, g, q, l)) ∙ q

  children : length kids ≡ length net.places
  children = sym (length-map kids (λ c. facts.need c)) ∙ ap (λ v. length v) (sym f.needs) ∙ f.sized.needs

  run : RunningWith facts step tag net (pn_limits net.places) kids start (zeros net.places) kids start (silents kids)
  run = begins-with facts step tag net (pn_limits net.places) kids start (limits-length net.places) children (all-fit net.places start (let a = start-long in let l = f.lawful.channels in omega (arith, a, l)))

  parts : (c : ℕ) → at start c ≡ at before.halfway.gathered c ++ (at (arrived net.sources inputs before.halfway.queued) c ++ due net before.halfway.puts c)
  parts c =
      let G : List T = at before.halfway.gathered c in
      let Q : List T = at before.halfway.queued c in
      let A : List T = arrival_at net.sources inputs c in
      let g = f.sized.gathered in
      let q = f.sized.queued in
      let l = f.lawful.channels in
      arrived-at net.sources inputs (held_of before) c (length-joined before.halfway.gathered before.halfway.queued (omega (arith, g, q, l)) ∙ q) ∙ ap (λ v. v ++ A) (at-joined before.halfway.gathered before.halfway.queued c) ∙ append_assoc G Q A ∙
      ap (λ v. G ++ v)
      (sym (arrived-at net.sources inputs before.halfway.queued c q) ∙ sym (append-nil (at (arrived net.sources inputs before.halfway.queued) c)) ∙
      ap (λ v. at (arrived net.sources inputs before.halfway.queued) c ++ v) (sym (nothing-due before.halfway.puts f.none (get net.sources c) c)))

  pub calls-begin : Underway facts step before kids inputs (begun tag inputs before) (zeros net.places) kids (silents kids)
  calls-begin = record {
    lawful = f.lawful;
    network = refl;
    sized = record { capacity = f.sized.capacity; gathered = f.sized.gathered; queued = arrived-long net.sources inputs before.halfway.queued ∙ f.sized.queued; puts = f.sized.puts; needs = f.sized.needs };
    needs = f.needs;
    counts = f.counts;
    children = children;
    consistent = record { held = start; wide = start-long; running = run.running; split = parts };
    logs = run.logs;
    gathers = f.gathers;
    feeds = λ i. subst (λ us. AllFeed net i us) (sym (f.none i)) tt;
    putting = λ i. inl (f.none i);
    short = λ c b.
        subst (λ xs. length xs ≤ capacity_of before c) (sym (arrived-at net.sources inputs before.halfway.queued c f.sized.queued ∙ ap (λ v. at before.halfway.queued c ++ v) (fed-nothing net.sources inputs c b.0) ∙ append-nil (at before.halfway.queued c))) (f.short c b);
    capped = f.capped;
  }

-- what is behind the first of each
pub at-behind : {T : Type 0} (X H : Streams T) (q : ℕ) → length X ≡ length H → at (behind (lengths X) H) q ≡ drop (length (at X q)) (at H q)
at-behind [] [] q e = refl
at-behind [] (h ∷ H) q e = absurd (omega (arith, e))
at-behind (x ∷ X) [] q e = absurd (omega (arith, e))
at-behind (x ∷ X) (h ∷ H) zero e = refl
at-behind (x ∷ X) (h ∷ H) (suc q) e = at-behind X H q (omega (arith, e))

-- a need that what is gathered meets, and that uses all of it, is met by what begins with it
takes-one : {T : Type 0} (n : ℕ) (xs hs ys : List T) (X left rest : Streams T) (b : Bool) (f g : Front T) → nat_le n (length xs) ≡ b → hs ≡ xs ++ ys → ((l : Streams T) → f ≡ Takes X l → g ≡ Takes X rest) → if_long b n xs f ≡ Takes (xs ∷ X) left → if_long (nat_le n (length hs)) n hs g ≡ Takes (xs ∷ X) (drop (length xs) hs ∷ rest)
takes-one n xs hs ys X left rest false f g e h ih t = absurd (cc)
takes-one n xs hs ys X left rest true Lacks g e h ih t = absurd (cc)
takes-one n xs hs ys X left rest true Ends g e h ih t = absurd (cc)
takes-one n xs hs ys X left rest true (Takes a l) g e h ih t =
    let n_le : n ≤ length xs = leb-true n (length xs) e in
    let first : take n xs ≡ xs = cc in
    let same : a ≡ X = cc in
    let short : length (take n xs) ≡ n = length-take-le n xs n_le in
    let long : n ≡ length xs = sym short ∙ ap (λ v. length v) first in
    let more : length hs ≡ length xs + length ys = ap (λ v. length v) h ∙ length-append xs ys in
    let enough : nat_le n (length hs) ≡ true = le-leb n (length hs) (omega (arith, more, long)) in
    let taken : take n hs ≡ xs = ap₂ (λ v w. take v w) long h ∙ take-append_seam xs ys in
    ap₂ (λ v w. if_long v n hs w) enough (ih l (ap (λ v. Takes v l) same)) ∙ ap₂ (λ v w. Takes (v ∷ X) (drop w hs ∷ rest)) taken long

pub exact-counts : {T : Type 0} (ns : List ℕ) (X H left : Streams T) → counted ns X ≡ Takes X left → length X ≡ length H → ((q : ℕ) → q < length X → (ys : List T) × (at H q ≡ at X q ++ ys)) → counted ns H ≡ Takes X (behind (lengths X) H)
exact-counts [] [] [] left t e h = refl
exact-counts [] [] (x ∷ H) left t e h = absurd (omega (arith, e))
exact-counts [] (x ∷ X) H left t e h = absurd (cc)
exact-counts (n ∷ ns) [] H left t e h = absurd (cc)
exact-counts (n ∷ ns) (x ∷ X) [] left t e h = absurd (omega (arith, e))
exact-counts (n ∷ ns) (xs ∷ X) (hs ∷ H) left t e h =
    let z = h 0 (omega arith) in
    takes-one n xs hs z.0 X left (behind (lengths X) H) (nat_le n (length xs)) (counted ns X) (counted ns H) refl z.1 (λ l w. exact-counts ns X H l w (omega (arith, e)) (λ q v. h (suc q) (omega (arith, v)))) t

pub exact-front : {T : Type 0} (need : Need) (X H left : Streams T) → front need X ≡ Takes X left → length X ≡ length H → ((q : ℕ) → q < length X → (ys : List T) × (at H q ≡ at X q ++ ys)) → front need H ≡ Takes X (behind (lengths X) H)
exact-front Over X H left t e h = absurd (cc)
exact-front (Counts ns) X H left t e h = exact-counts ns X H left t e h
exact-front Any X H left t e h = absurd (cc)

-- a firing without its record
pub fires-plain : {T S : Type 0} (facts : Facts T S) (step : Stepping T S) (tag : Tag) (i : ℕ) (ns : List ℕ) (cs : List Limit) (ms : List ℕ) (ss : List S) (held : Streams T) (ms' : List ℕ) (ss' : List S) (held' : Streams T) (inside : Log T) (f : Firing T) →
    FiresWith facts step tag i ns cs ms ss held ms' ss' held' inside f → Fires facts step tag i ns cs ms ss held ms' ss' held' f.outputs
fires-plain facts step tag zero (n ∷ ns) (c ∷ cs) (m ∷ ms) (s ∷ ss) held ms' ss' held' inside f w = (w.0, w.1, record { got = f.inputs; log = inside; allowed = w.2.allowed; there = w.2.there; done = w.2.done }, w.3, w.4, w.5)
fires-plain facts step tag (suc i) (n ∷ ns) (c ∷ cs) (m ∷ ms) (s ∷ ss) held ms' ss' held' inside f w = (w.0, w.1, w.2, fires-plain facts step tag i ns cs ms ss (drop n held) w.0 w.1 w.2 inside f w.3, w.4, w.5, w.6)
fires-plain facts step tag i [] cs ms ss held ms' ss' held' inside f w = absurd w
fires-plain facts step tag i (n ∷ ns) [] ms ss held ms' ss' held' inside f w = absurd w
fires-plain facts step tag i (n ∷ ns) (c ∷ cs) [] ss held ms' ss' held' inside f w = absurd w
fires-plain facts step tag i (n ∷ ns) (c ∷ cs) (m ∷ ms) [] held ms' ss' held' inside f w = absurd w

-- a process that was asked for, and is stuck
pub asked-sticks : {T S : Type 0} (facts : Facts T S) (step : Stepping T S) (tag : Tag) (i : ℕ) (ns : List ℕ) (cs : List Limit) (ms : List ℕ) (ss : List S) (held got held' : Streams T) (d : S) (fs : List Fault) (l : Log T) (f : Fault) → Asks facts i ns cs ms ss held got held' →
    rated facts (rates_at cs i) step tag (get_or ss i d) got ≡ Stuck fs l → IsIn f fs → SticksWith facts step tag i ns cs ms ss held l f
asked-sticks facts step tag zero (n ∷ ns) (c ∷ cs) (m ∷ ms) (s ∷ ss) held got held' d fs l f a e x = (got, a.0, fs, a.1, a.2, e, x)
asked-sticks facts step tag (suc i) (n ∷ ns) (c ∷ cs) (m ∷ ms) (s ∷ ss) held got held' d fs l f a e x = asked-sticks facts step tag i ns cs ms ss (drop n held) got a.0 d fs l f a.1 e x
asked-sticks facts step tag i [] cs ms ss held got held' d fs l f a e x = absurd a
asked-sticks facts step tag i (n ∷ ns) [] ms ss held got held' d fs l f a e x = absurd a
asked-sticks facts step tag i (n ∷ ns) (c ∷ cs) [] ss held got held' d fs l f a e x = absurd a
asked-sticks facts step tag i (n ∷ ns) (c ∷ cs) (m ∷ ms) [] held got held' d fs l f a e x = absurd a

-- the puts of a firing are on channels that begin at the process
abbrev AllFrom : List Source → Source → List ℕ → Type 0
AllFrom sources s [] = Unit {0}
AllFrom sources s (c ∷ cs) = (get sources c ≡ Some s) × AllFrom sources s cs

same-source : (s d : Source) → is_source s d ≡ true → s ≡ d
same-source (Own i) (Own j) e = let z : i ≡ j = grind (arith, nat_tests) in ap Own z
same-source (Own i) (Output j q) e = absurd (cc)
same-source (Output i p) (Own j) e = absurd (cc)
same-source (Output i p) (Output j q) e = by (nat_eq i j) (nat_eq p q) refl refl e
  where
    by : (a b : Bool) → nat_eq i j ≡ a → nat_eq p q ≡ b → (a && b) ≡ true → Output i p ≡ Output j q
    by true true x y e = let z : i ≡ j = grind (arith, nat_tests) in let w : p ≡ q = grind (arith, nat_tests) in ap₂ (λ v u. Output v u) z w
    by true false x y e = absurd (cc)
    by false b x y e = absurd (cc)

from-channels : (sources : List Source) (c : ℕ) (s : Source) (ds : List Source) → ((k : ℕ) → get sources (c + k) ≡ get ds k) → AllFrom sources s (channels_from c s ds)
from-channels sources c s [] h = tt
from-channels sources c s (d ∷ ds) h = by (is_source s d) refl (from-channels sources (suc c) s ds (λ k. ap (λ v. get sources v) (next c k) ∙ h (suc k)))
  where
    next : (c k : ℕ) → suc c + k ≡ c + suc k
    next c k = omega arith

    here : (c : ℕ) → c ≡ c + 0
    here c = omega arith

    by : (b : Bool) → is_source s d ≡ b → AllFrom sources s (channels_from (suc c) s ds) → AllFrom sources s (listed_if b c (channels_from (suc c) s ds))
    by true e r = (ap (λ v. get sources v) (here c) ∙ h 0 ∙ ap (λ v. Option.Some v) (sym (same-source s d e)), r)
    by false e r = r

feed-append : {T : Type 0} (plan : Net) (i : ℕ) (us vs : List (Put T)) → AllFeed plan i us → AllFeed plan i vs → AllFeed plan i (us ++ vs)
feed-append plan i [] vs a b = b
feed-append plan i (u ∷ us) vs a b = (a.0, feed-append plan i us vs a.1 b)

feed-each : {T : Type 0} (plan : Net) (i port : ℕ) (x : T) (cs : List ℕ) → AllFrom plan.sources (Output i port) cs → AllFeed plan i (to_each x cs)
feed-each plan i port x [] a = tt
feed-each plan i port x (c ∷ cs) a = ((port, a.0), feed-each plan i port x cs a.1)

feed-port : {T : Type 0} (plan : Net) (i port : ℕ) (cs : List ℕ) (xs : List T) → AllFrom plan.sources (Output i port) cs → AllFeed plan i (puts_of_port cs xs)
feed-port plan i port cs [] a = tt
feed-port plan i port cs (x ∷ xs) a = feed-append plan i (to_each x cs) (puts_of_port cs xs) (feed-each plan i port x cs a) (feed-port plan i port cs xs a)

pub feed-puts : {T : Type 0} (plan : Net) (i port : ℕ) (out : Streams T) → AllFeed plan i (puts_of plan.sources i port out)
feed-puts plan i port [] = tt
feed-puts plan i port (xs ∷ X) =
    feed-append plan i (puts_of_port (channels_from 0 (Output i port) plan.sources) xs) (puts_of plan.sources i (suc port) X)
    (feed-port plan i port (channels_from 0 (Output i port) plan.sources) xs (from-channels plan.sources 0 (Output i port) plan.sources (λ k. ap (λ v. get plan.sources v) (nothing k)))) (feed-puts plan i (suc port) X)
  where
    nothing : (k : ℕ) → 0 + k ≡ k
    nothing k = omega arith
