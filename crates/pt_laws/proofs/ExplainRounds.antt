-- The firings of SDF and PN explained.
use Rattle.std.proofs.Common.{◌≡◌, ℕ, zero, suc, ◌≤◌, ◌<◌, List, [], ◌∷◌, ◌++◌, Bool, true, false, ◌&&◌, length, take, drop, Option, Some, None, inl, refl, sym, ap, subst, arith, ◌∙◌, append_assoc, append-nil, length-append, nat_lt, if◌then◌else◌}
use Rattle.std.proofs.lemmas.List.{length-take-le, length-drop}
use Rattle.std.proofs.Math.Path.{fun_ext}
use Rattle.pt_meaning.specs.Basics.{Tag, Streams, at, Log, Path, Meeting, silent, log_below}
use Rattle.pt_meaning.specs.Machine.{Stepping, Facts}
use Rattle.pt_meaning.specs.Flow.{Flow, flow}
use Rattle.pt_meaning.specs.Rounds.{Source, Own, Output, Net, Limit, within, rated, gave, fed, refill, flows, round, all_at_rest}
use Rattle.pt_meaning.specs.Dataflow.{arrival, arrived, Leaving, kahn, settled, if_settled, states_of, left_by, logs_of, skip_places, behind, lengths, faults_of}
use Rattle.pt_meaning.specs.Modal.{get}
use Rattle.pt_meaning.specs.Rendezvous.{with_meetings}
use Rattle.pt_meaning.specs.Node.{Core}
use Rattle.pt_meaning.specs.Running.{total}
use Rattle.pt_laws.specs.LogsOfRuns.{log_at}
use Rattle.pt_meaning.specs.Streams.{IsPrefix}
use Rattle.pt_meaning.specs.Asked.{AsksOn, AsksInRounds, IsAsked}
use Rattle.pt_laws.specs.Channels as channels
use Rattle.pt_meaning.specs.Closed.{Begun, if_there, inputs_at, outputs_at, begun_at, is_modal, IsTagBelow}
use Rattle.pt_laws.specs.Channels.{further, channel_at, tokens_in}
use Rattle.pt_laws.specs.SoundRuns.{on_place, IsWired, IsSamePlan}
use Rattle.pt_laws.specs.Explained.{Turned, PartOf, DoneWell, IfDone, Explained, of_turns, takes_in, gives_in}
use Rattle.pt_laws.proofs.ChannelLaws.{at-first, tokens-further, tokens-append, at-append-if, channel-within}
use Rattle.pt_laws.proofs.Order.{IsPrefix-refl, IsPrefix-trans, IsPrefix-after, IsPrefix-append}
use Rattle.pt_laws.proofs.RoundLaws.{grows-refl, round-below, gave-below, flows-below}
use Rattle.pt_laws.proofs.RunLaws.{left-length}
use Rattle.pt_laws.proofs.KahnLaws.{and-left, and-right, at-rest, fixed}
use Rattle.pt_laws.proofs.LogLaws.{log-of-settled}
use Rattle.pt_laws.proofs.SettledLaws.{round-long, rest-free}
use Rattle.pt_laws.proofs.FiringLaws.{arrived-long, flows-left, flows-count}
use Rattle.pt_laws.proofs.ExplainFlows.{turns_of, stuck_of, FlowIs, flow-is, stopping, free-unstuck}

-- the firings of each child, by its number
module _ {T S : Type 0} (facts : Facts T S) (step : Stepping T S) (tag : Tag) where
  abbrev pub turns_at : List ℕ → List Limit → ℕ → List S → Streams T → ℕ → List (Turned T)
  turns_at (n ∷ ns) (c ∷ cs) k (s ∷ ss) X zero = turns_of facts (rated facts c.rates step) tag (within c.firings k) s (take n X)
  turns_at (n ∷ ns) (c ∷ cs) k (s ∷ ss) X (suc i) = turns_at ns cs k ss (drop n X) i
  turns_at [] cs k ss X i = []
  turns_at (n ∷ ns) [] k ss X i = []
  turns_at (n ∷ ns) (c ∷ cs) k [] X i = []

  abbrev pub stuck_at : List ℕ → List Limit → ℕ → List S → Streams T → ℕ → Option (Begun T)
  stuck_at (n ∷ ns) (c ∷ cs) k (s ∷ ss) X zero = stuck_of facts (rated facts c.rates step) tag (within c.firings k) s (take n X)
  stuck_at (n ∷ ns) (c ∷ cs) k (s ∷ ss) X (suc i) = stuck_at ns cs k ss (drop n X) i
  stuck_at [] cs k ss X i = None
  stuck_at (n ∷ ns) [] k ss X i = None
  stuck_at (n ∷ ns) (c ∷ cs) k [] X i = None

  abbrev pub end_at : List (Flow T S) → S → ℕ → S
  end_at [] d i = d
  end_at (f ∷ fs) d zero = f.state
  end_at (f ∷ fs) d (suc i) = end_at fs d i

  parts-at : (ns : List ℕ) (cs : List Limit) (k : ℕ) (ss : List S) (X : Streams T) (d : S) → length cs ≡ length ns → length ss ≡ length ns → (i : ℕ) (s : S) → get ss i ≡ Some s →
      PartOf facts step s (log_at (logs_of (flows facts step tag ns cs k ss X)) i) (turns_at ns cs k ss X i) (stuck_at ns cs k ss X i) (end_at (flows facts step tag ns cs k ss X) d i)
  parts-at [] cs k [] X d a b i s e = absurd (cc)
  parts-at [] cs k (z ∷ ss) X d a b i s e = absurd (omega arith)
  parts-at (n ∷ ns) [] k ss X d a b i s e = absurd (omega arith)
  parts-at (n ∷ ns) (c ∷ cs) k [] X d a b i s e = absurd (omega arith)
  parts-at (n ∷ ns) (c ∷ cs) k (z ∷ ss) X d a b zero s e =
      let same : z ≡ s = cc in
      subst (λ v. PartOf facts step v (flow facts (rated facts c.rates step) tag (within c.firings k) z (take n X)).log (turns_of facts (rated facts c.rates step) tag (within c.firings k) z (take n X)) (stuck_of facts (rated facts c.rates step) tag (within c.firings k) z (take n X)) (flow facts (rated facts c.rates step) tag (within c.firings k) z (take n X)).state) same
      (flow-is facts step c.rates tag (within c.firings k) z (take n X)).part_is
  parts-at (n ∷ ns) (c ∷ cs) k (z ∷ ss) X d a b (suc i) s e = parts-at ns cs k ss (drop n X) d (omega (arith, a)) (omega (arith, b)) i s e

  beyond-at : (ns : List ℕ) (cs : List Limit) (k : ℕ) (ss : List S) (X : Streams T) (i : ℕ) → length ss ≤ i → (log_at (logs_of (flows facts step tag ns cs k ss X)) i ≡ silent) × (turns_at ns cs k ss X i ≡ []) × (stuck_at ns cs k ss X i ≡ None)
  beyond-at [] cs k ss X i h = (refl, refl, refl)
  beyond-at (n ∷ ns) [] k ss X i h = (refl, refl, refl)
  beyond-at (n ∷ ns) (c ∷ cs) k [] X i h = (refl, refl, refl)
  beyond-at (n ∷ ns) (c ∷ cs) k (s ∷ ss) X zero h = absurd (omega arith)
  beyond-at (n ∷ ns) (c ∷ cs) k (s ∷ ss) X (suc i) h = beyond-at ns cs k ss (drop n X) i (omega (arith, h))

  -- as often as it takes and gives them
  takes-at : (ns : List ℕ) (cs : List Limit) (k : ℕ) (ss : List S) (X : Streams T) (i q : ℕ) → IsPrefix (of_turns (inputs_at q) (turns_at ns cs k ss X i) ++ begun_at (stuck_at ns cs k ss X i) q) (tokens_in X (channel_at ns i q))
  takes-at [] cs k ss X i q = tt
  takes-at (n ∷ ns) [] k ss X i q = tt
  takes-at (n ∷ ns) (c ∷ cs) k [] X i q = tt
  takes-at (n ∷ ns) (c ∷ cs) k (s ∷ ss) X zero q =
      let f = flow-is facts step c.rates tag (within c.firings k) s (take n X) in
      let way = stuck_of facts (rated facts c.rates step) tag (within c.firings k) s (take n X) in
      subst (λ v. IsPrefix (of_turns (inputs_at q) (turns_of facts (rated facts c.rates step) tag (within c.firings k) s (take n X)) ++ begun_at way q) v) (sym (f.used q) ∙ at-first n q X)
      (IsPrefix-after (of_turns (inputs_at q) (turns_of facts (rated facts c.rates step) tag (within c.firings k) s (take n X))) (begun_at way q) (at (flow facts (rated facts c.rates step) tag (within c.firings k) s (take n X)).left q) (f.begins q))
  takes-at (n ∷ ns) (c ∷ cs) k (s ∷ ss) X (suc i) q = subst (λ v. IsPrefix (of_turns (inputs_at q) (turns_at ns cs k ss (drop n X) i) ++ begun_at (stuck_at ns cs k ss (drop n X) i) q) v) (tokens-further n X (channel_at ns i q)) (takes-at ns cs k ss (drop n X) i q)

  gives-at : (ns : List ℕ) (cs : List Limit) (k : ℕ) (ss : List S) (X : Streams T) (j port : ℕ) → gave (flows facts step tag ns cs k ss X) j port ≡ of_turns (outputs_at port) (turns_at ns cs k ss X j)
  gives-at [] cs k ss X j port = refl
  gives-at (n ∷ ns) [] k ss X j port = refl
  gives-at (n ∷ ns) (c ∷ cs) k [] X j port = refl
  gives-at (n ∷ ns) (c ∷ cs) k (s ∷ ss) X zero port = (flow-is facts step c.rates tag (within c.firings k) s (take n X)).gives port
  gives-at (n ∷ ns) (c ∷ cs) k (s ∷ ss) X (suc j) port = gives-at ns cs k ss (drop n X) j port

  stuck-tagged : (ns : List ℕ) (cs : List Limit) (k : ℕ) (ss : List S) (X : Streams T) (i : ℕ) (b : Begun T) → stuck_at ns cs k ss X i ≡ Some b → b.tag ≡ tag
  stuck-tagged [] cs k ss X i b e = absurd (cc)
  stuck-tagged (n ∷ ns) [] k ss X i b e = absurd (cc)
  stuck-tagged (n ∷ ns) (c ∷ cs) k [] X i b e = absurd (cc)
  stuck-tagged (n ∷ ns) (c ∷ cs) k (s ∷ ss) X zero b e = (flow-is facts step c.rates tag (within c.firings k) s (take n X)).tagged b e
  stuck-tagged (n ∷ ns) (c ∷ cs) k (s ∷ ss) X (suc i) b e = stuck-tagged ns cs k ss (drop n X) i b e

  -- and what is left is behind it
  rest-at : (ns : List ℕ) (cs : List Limit) (k : ℕ) (ss : List S) (X own : Streams T) → length cs ≡ length ns → length ss ≡ length ns → total ns ≤ length X → (i q : ℕ) →
      tokens_in X (channel_at ns i q) ≡ of_turns (inputs_at q) (turns_at ns cs k ss X i) ++ tokens_in (left_by (flows facts step tag ns cs k ss X) ++ own) (channel_at ns i q)
  rest-at [] cs k ss X own a b w i q = refl
  rest-at (n ∷ ns) [] k ss X own a b w i q = absurd (omega arith)
  rest-at (n ∷ ns) (c ∷ cs) k [] X own a b w i q = absurd (omega arith)
  rest-at (n ∷ ns) (c ∷ cs) k (s ∷ ss) X own a b w zero q = sym (at-first n q X) ∙ f.used q ∙ ap (λ v. of_turns (inputs_at q) (turns_of facts (rated facts c.rates step) tag (within c.firings k) s (take n X)) ++ v) (inner ∙ ap (λ v. tokens_in v (if nat_lt q n then Some q else None)) (sym (append_assoc F L own)))
    where
      F : Streams T
      F = (flow facts (rated facts c.rates step) tag (within c.firings k) s (take n X)).left

      L : Streams T
      L = left_by (flows facts step tag ns cs k ss (drop n X))

      len : length F ≡ n
      len = left-length facts (rated facts c.rates step) tag (within c.firings k) s (take n X) ∙ length-take-le n X (omega (arith, w))

      f : FlowIs facts step tag s (take n X) (flow facts (rated facts c.rates step) tag (within c.firings k) s (take n X)) (turns_of facts (rated facts c.rates step) tag (within c.firings k) s (take n X)) (stuck_of facts (rated facts c.rates step) tag (within c.firings k) s (take n X))
      f = flow-is facts step c.rates tag (within c.firings k) s (take n X)

      inner : at F q ≡ tokens_in (F ++ (L ++ own)) (if nat_lt q n then Some q else None)
      inner = at-append-if n q F (L ++ own) len
  rest-at (n ∷ ns) (c ∷ cs) k (s ∷ ss) X own a b w (suc i) q =
      sym (tokens-further n X (channel_at ns i q)) ∙ rest-at ns cs k ss (drop n X) own (omega (arith, a)) (omega (arith, b)) (omega (arith, w, length-drop n X)) i q ∙
      ap (λ v. of_turns (inputs_at q) (turns_at ns cs k ss (drop n X) i) ++ v) (sym (tokens-append n F (L ++ own) len (channel_at ns i q)) ∙ ap (λ v. tokens_in v (further n (channel_at ns i q))) (sym (append_assoc F L own)))
    where
      F : Streams T
      F = (flow facts (rated facts c.rates step) tag (within c.firings k) s (take n X)).left

      L : Streams T
      L = left_by (flows facts step tag ns cs k ss (drop n X))

      len : length F ≡ n
      len = left-length facts (rated facts c.rates step) tag (within c.firings k) s (take n X) ∙ length-take-le n X (omega (arith, w))

  -- rounds: what a channel has stood there, or came of the inputs and of the firings
  module _ (net : Net) (limits : List Limit) (ks : List S) (X inputs : Streams T) where
    abbrev pub now_turns : ℕ → ℕ → List (Turned T)
    now_turns k i = turns_at net.places limits k ks (round facts step tag net limits ks (arrived net.sources inputs X) k) i

    -- in order
    arrived-as : (ts : ℕ → List (Turned T)) (s : Source) (z : List T) → IsPrefix (z ++ arrival s inputs) (z ++ gives_in inputs ts (Some s))
    arrived-as ts (Own port) z = IsPrefix-refl (z ++ at inputs port)
    arrived-as ts (Output j port) z = IsPrefix-after z [] (of_turns (outputs_at port) (ts j)) tt

    arrived-at : (ts : ℕ → List (Turned T)) (cs : List Source) (Z : Streams T) (c : ℕ) → IsPrefix (at (arrived cs inputs Z) c) (at Z c ++ gives_in inputs ts (get cs c))
    arrived-at ts [] Z c = IsPrefix-append (at Z c) []
    arrived-at ts (s ∷ cs) [] c = tt
    arrived-at ts (s ∷ cs) (z ∷ Z) zero = arrived-as ts s z
    arrived-at ts (s ∷ cs) (z ∷ Z) (suc c) = arrived-at ts cs Z c

    refilled-as : (fs : List (Flow T S)) (ts : ℕ → List (Turned T)) → ((j port : ℕ) → IsPrefix (gave fs j port) (of_turns (outputs_at port) (ts j))) → (s : Source) (z : List T) → IsPrefix ((z ++ arrival s inputs) ++ fed fs s) (z ++ gives_in inputs ts (Some s))
    refilled-as fs ts f (Own port) z = subst (λ v. IsPrefix v (z ++ at inputs port)) (sym (append-nil (z ++ at inputs port))) (IsPrefix-refl (z ++ at inputs port))
    refilled-as fs ts f (Output j port) z = subst (λ v. IsPrefix (v ++ gave fs j port) (z ++ of_turns (outputs_at port) (ts j))) (sym (append-nil z)) (IsPrefix-after z (gave fs j port) (of_turns (outputs_at port) (ts j)) (f j port))

    pub refilled-at : (fs : List (Flow T S)) (ts : ℕ → List (Turned T)) → ((j port : ℕ) → IsPrefix (gave fs j port) (of_turns (outputs_at port) (ts j))) → (cs : List Source) (Z : Streams T) (c : ℕ) → IsPrefix (at (refill fs cs (arrived cs inputs Z)) c) (at Z c ++ gives_in inputs ts (get cs c))
    refilled-at fs ts f [] Z c = IsPrefix-append (at Z c) []
    refilled-at fs ts f (s ∷ cs) [] c = tt
    refilled-at fs ts f (s ∷ cs) (z ∷ Z) zero = refilled-as fs ts f s z
    refilled-at fs ts f (s ∷ cs) (z ∷ Z) (suc c) = refilled-at fs ts f cs Z c

    round-at : (K k : ℕ) → k ≤ K → (c : ℕ) → IsPrefix (at (round facts step tag net limits ks (arrived net.sources inputs X) k) c) (at X c ++ gives_in inputs (now_turns K) (get net.sources c))
    unfolding round
    round-at K zero o c = arrived-at (now_turns K) net.sources X c
    round-at K (suc k) o c = refilled-at (flows facts step tag net.places limits (suc k) ks (round facts step tag net limits ks (arrived net.sources inputs X) k)) (now_turns K) later net.sources X c
      where
        later : (j port : ℕ) → IsPrefix (gave (flows facts step tag net.places limits (suc k) ks (round facts step tag net limits ks (arrived net.sources inputs X) k)) j port) (of_turns (outputs_at port) (now_turns K j))
        later j port =
            subst (λ v. IsPrefix (gave (flows facts step tag net.places limits (suc k) ks (round facts step tag net limits ks (arrived net.sources inputs X) k)) j port) v) (gives-at net.places limits K ks (round facts step tag net limits ks (arrived net.sources inputs X) K) j port)
            (gave-below _ _ (flows-below facts step step tag (grows-refl step) net.places limits (suc k) K o ks _ _ (round-below facts step step tag (grows-refl step) net limits ks (arrived net.sources inputs X) k K (omega (arith, o)))) j port)

    -- and in all where the round is settled
    filled-as : (fs : List (Flow T S)) (ts : ℕ → List (Turned T)) → ((j port : ℕ) → gave fs j port ≡ of_turns (outputs_at port) (ts j)) → (s : Source) (z : List T) → (z ++ arrival s inputs) ++ fed fs s ≡ z ++ gives_in inputs ts (Some s)
    filled-as fs ts f (Own port) z = append-nil (z ++ at inputs port)
    filled-as fs ts f (Output j port) z = ap (λ v. v ++ gave fs j port) (append-nil z) ∙ ap (λ v. z ++ v) (f j port)

    filled-at : (fs : List (Flow T S)) (ts : ℕ → List (Turned T)) → ((j port : ℕ) → gave fs j port ≡ of_turns (outputs_at port) (ts j)) → (cs : List Source) (Z : Streams T) (c : ℕ) → c < length Z → at (refill fs cs (arrived cs inputs Z)) c ≡ at Z c ++ gives_in inputs ts (get cs c)
    filled-at fs ts f [] Z c h = sym (append-nil (at Z c))
    filled-at fs ts f (s ∷ cs) [] c h = absurd (omega (arith, h))
    filled-at fs ts f (s ∷ cs) (z ∷ Z) zero h = filled-as fs ts f s z
    filled-at fs ts f (s ∷ cs) (z ∷ Z) (suc c) h = filled-at fs ts f cs Z c (omega (arith, h))

    settled-at : (k : ℕ) → settled facts step tag net limits ks (arrived net.sources inputs X) k ≡ true → (c : ℕ) → c < length X → at (round facts step tag net limits ks (arrived net.sources inputs X) k) c ≡ at X c ++ gives_in inputs (now_turns k) (get net.sources c)
    settled-at k e c h =
        let Y = round facts step tag net limits ks (arrived net.sources inputs X) k in
        ap (λ v. at v c) (fixed facts step step tag (grows-refl step) net limits ks (arrived net.sources inputs X) k e) ∙
        filled-at (flows facts step tag net.places limits k ks Y) (now_turns k) (λ j port. gives-at net.places limits k ks Y j port) net.sources X c h

  -- children at rest have no unfinished firing, and are where their firings led
  unstuck-at : (ns : List ℕ) (cs : List Limit) (k : ℕ) (ss : List S) (X : Streams T) → all_at_rest cs (flows facts step tag ns cs k ss X) ≡ true → (i : ℕ) → stuck_at ns cs k ss X i ≡ None
  unstuck-at [] cs k ss X e i = refl
  unstuck-at (n ∷ ns) [] k ss X e i = refl
  unstuck-at (n ∷ ns) (c ∷ cs) k [] X e i = refl
  unstuck-at (n ∷ ns) (c ∷ cs) k (s ∷ ss) X e zero =
      let F = flow facts (rated facts c.rates step) tag (within c.firings k) s (take n X) in free-unstuck facts (rated facts c.rates step) tag (within c.firings k) s (take n X) (rest-free c.firings F.fired F.stop (and-left _ _ e))
  unstuck-at (n ∷ ns) (c ∷ cs) k (s ∷ ss) X e (suc i) = unstuck-at ns cs k ss (drop n X) (and-right _ _ e) i

  states-at : (fs : List (Flow T S)) (d : S) (i : ℕ) (z : S) → get (states_of fs) i ≡ Some z → z ≡ end_at fs d i
  states-at [] d i z e = absurd (cc)
  states-at (f ∷ fs) d zero z e = some-same f.state z e
    where
      some-same : (u v : S) → Some u ≡ Some v → v ≡ u
      some-same u v e = cc
  states-at (f ∷ fs) d (suc i) z e = states-at fs d i z e

  states-count : (fs : List (Flow T S)) → length (states_of fs) ≡ length fs
  states-count [] = refl
  states-count (f ∷ fs) = ap (λ n. suc n) (states-count fs)

-- a firing that a child doesn't finish is one that it is asked for
within-limit : (c : Option ℕ) (m k : ℕ) → suc m ≤ within c k → suc m ≤ within c (suc m)
within-limit None m k h = omega arith
within-limit (Some c) m k h = omega arith

module _ {T S : Type 0} (facts : Facts T S) (step : Stepping T S) (tag : Tag) where
  asks-at : (ns : List ℕ) (cs : List Limit) (k : ℕ) (ss : List S) (X : Streams T) (d : S) (i : ℕ) (b : Begun T) → stuck_at facts step tag ns cs k ss X i ≡ Some b → AsksOn facts step tag i ns cs ss X (end_at facts step tag (flows facts step tag ns cs k ss X) d i) b.inputs
  asks-at [] cs k ss X d i b e = absurd (cc)
  asks-at (n ∷ ns) [] k ss X d i b e = absurd (cc)
  asks-at (n ∷ ns) (c ∷ cs) k [] X d i b e = absurd (cc)
  asks-at (n ∷ ns) (c ∷ cs) k (s ∷ ss) X d zero b e =
      let r = stopping facts (rated facts c.rates step) tag (within c.firings k) s (take n X) b e in
      record { made = r.made; left = r.left; fired = r.fired; state = r.state; takes = r.takes; allowed = within-limit c.firings r.made k r.before }
  asks-at (n ∷ ns) (c ∷ cs) k (s ∷ ss) X d (suc i) b e = asks-at ns cs k ss (drop n X) d i b e

-- a firing of rounds, explained
module _ {T S : Type 0} (facts : Facts T S) (step : Stepping T S) (tag : Tag) (net : Net) (limits : List Limit) (enough : List (Flow T S) → Bool) (leaving : Leaving) (ks : List S) (X inputs : Streams T) (d : Core T) (core : Streams T → Core T) (any : S) (k : ℕ) (ms : List Meeting) (made : ℕ) where
  abbrev start : Streams T
  start = arrived net.sources inputs X

  abbrev end_round : Streams T
  end_round = round facts step tag net limits ks start k

  abbrev end_flows : List (Flow T S)
  end_flows = flows facts step tag net.places limits k ks end_round

  pub record Reads : Type 0 where
    pub core_wired : (Y : Streams T) → total net.places ≤ length Y → IsWired (core Y)
    pub place : (i q : ℕ) → on_place d i q ≡ tokens_in X (channel_at net.places i q)
    pub core_place : (Y : Streams T) (i q : ℕ) → on_place (core Y) i q ≡ tokens_in Y (channel_at net.places i q)
    pub source : (i q : ℕ) → channels.source_of d i q ≡ channels.source_in net i q
    pub at_tag : IsTagBelow (is_modal d) tag tag
    pub same : (Y : Streams T) → IsSamePlan (core Y) d
    pub asks : (i : ℕ) (child : S) (got : Streams T) → AsksInRounds facts step tag net limits ks start i child got → IsAsked facts step ms made d ks tag inputs i child tag got

  module _ (reads : Reads) (a : length limits ≡ length net.places) (b : length ks ≡ length net.places) (w : total net.places ≤ length X) where
    wide : total net.places ≤ length end_round
    wide = omega (arith, w, arrived-long net.sources inputs X, round-long facts step tag net limits ks start k)

    round-place : (o : Option ℕ) → IsPrefix (tokens_in end_round o) (tokens_in X o ++ gives_in inputs (now_turns facts step tag net limits ks X inputs k) (if_there (get net.sources) o))
    round-place None = tt
    round-place (Some c) = round-at facts step tag net limits ks X inputs k k (omega arith) c

    settled-place : settled facts step tag net limits ks start k ≡ true → (o : Option ℕ) → ((c : ℕ) → o ≡ Some c → c < length X) → tokens_in end_round o ≡ tokens_in X o ++ gives_in inputs (now_turns facts step tag net limits ks X inputs k) (if_there (get net.sources) o)
    settled-place e None f = refl
    settled-place e (Some c) f = settled-at facts step tag net limits ks X inputs k e c (f c refl)

    -- each token that is taken, as often as it is
    all-taken : (i q : ℕ) → IsPrefix (takes_in (now_turns facts step tag net limits ks X inputs k) (λ i. stuck_at facts step tag net.places limits k ks end_round i) i q) (on_place d i q ++ gives_in inputs (now_turns facts step tag net limits ks X inputs k) (channels.source_of d i q))
    all-taken i q =
        subst (λ v. IsPrefix (takes_in (now_turns facts step tag net limits ks X inputs k) (λ i. stuck_at facts step tag net.places limits k ks end_round i) i q) (v ++ gives_in inputs (now_turns facts step tag net limits ks X inputs k) (channels.source_of d i q))) (sym (reads.place i q))
        (subst (λ v. IsPrefix (takes_in (now_turns facts step tag net limits ks X inputs k) (λ i. stuck_at facts step tag net.places limits k ks end_round i) i q) (tokens_in X (channel_at net.places i q) ++ gives_in inputs (now_turns facts step tag net limits ks X inputs k) v)) (sym (reads.source i q))
        (IsPrefix-trans _ _ _ (takes-at facts step tag net.places limits k ks end_round i q) (round-place (channel_at net.places i q))))

    all-left : settled facts step tag net limits ks start k ≡ true → (ms : List ℕ) → (i q : ℕ) →
        of_turns (inputs_at q) (now_turns facts step tag net limits ks X inputs k i) ++ on_place (core (left_by end_flows ++ behind ms (skip_places net.places end_round))) i q ≡ on_place d i q ++ gives_in inputs (now_turns facts step tag net limits ks X inputs k) (channels.source_of d i q)
    all-left e ms i q =
        ap (λ v. of_turns (inputs_at q) (now_turns facts step tag net limits ks X inputs k i) ++ v) (reads.core_place _ i q) ∙
        sym (rest-at facts step tag net.places limits k ks end_round (behind ms (skip_places net.places end_round)) a b wide i q) ∙
        settled-place e (channel_at net.places i q) (λ c g. let h = channel-within net.places i q c g in omega (arith, h, w)) ∙
        ap (λ v. v ++ gives_in inputs (now_turns facts step tag net limits ks X inputs k) (channels.source_in net i q)) (sym (reads.place i q)) ∙
        ap (λ v. on_place d i q ++ gives_in inputs (now_turns facts step tag net limits ks X inputs k) v) (sym (reads.source i q))

    no-meetings : (l : List (Log T)) → log_below l ≡ with_meetings [] (log_below l)
    no-meetings l = fun_ext one
      where
        one : (p : Path) → log_below l p ≡ with_meetings [] (log_below l) p
        one [] = refl
        one (i ∷ p) = refl

    held-wide : (own : Streams T) → total net.places ≤ length (left_by end_flows ++ own)
    held-wide own = omega (arith, length-append (left_by end_flows) own, flows-left facts step tag net.places limits k ks end_round a b wide)

    well : settled facts step tag net limits ks start k ≡ true → (ms : List ℕ) →
        DoneWell facts inputs d core ks (now_turns facts step tag net limits ks X inputs k) (λ i. stuck_at facts step tag net.places limits k ks end_round i) (λ i. end_at facts step tag end_flows any i) (record { held = left_by end_flows ++ behind ms (skip_places net.places end_round); kids = states_of end_flows })
    well e ms = record {
      whole = λ i. unstuck-at facts step tag net.places limits k ks end_round (at-rest facts step step tag (grows-refl step) net limits ks start k e) i;
      wired = reads.core_wired _ (held-wide (behind ms (skip_places net.places end_round)));
      count = states-count facts step tag end_flows ∙ flows-count facts step tag net.places limits k ks end_round a b ∙ sym b;
      kids = λ i s e. inl (states-at facts step tag end_flows any i s e);
      same_plan = reads.same _;
      counted = λ i q. subst (λ v. IsPrefix v (on_place d i q ++ gives_in inputs (now_turns facts step tag net limits ks X inputs k) (channels.source_of d i q))) (no-way (of_turns (inputs_at q) (now_turns facts step tag net limits ks X inputs k i)) _ q (unstuck-at facts step tag net.places limits k ks end_round (at-rest facts step step tag (grows-refl step) net limits ks start k e) i)) (all-taken i q);
      left = λ g i q. all-left e ms i q;
    }
      where
        no-way : (xs : List T) (o : Option (Begun T)) (q : ℕ) → o ≡ None → xs ++ begun_at o q ≡ xs
        no-way xs None q g = append-nil xs
        no-way xs (Some b) q g = absurd (cc)

    if-well : (g : Bool) → (g ≡ true → settled facts step tag net limits ks start k ≡ true) → (ms : List ℕ) (out : Streams T) →
        IfDone facts inputs d core ks (now_turns facts step tag net limits ks X inputs k) (λ i. stuck_at facts step tag net.places limits k ks end_round i) (λ i. end_at facts step tag end_flows any i)
        (if_settled g (record { held = left_by end_flows ++ behind ms (skip_places net.places end_round); kids = states_of end_flows }) out (log_below (logs_of end_flows)) (faults_of 0 end_flows))
    if-well true e ms out = well (e refl) ms
    if-well false e ms out = tt

    pub kahn-explained : Explained facts step ms made tag inputs d core ks (kahn facts step tag net limits enough leaving ks start k)
    unfolding kahn
    kahn-explained = record {
      events = [];
      bare = λ e h. absurd h;
      quiet = refl;
      logs = logs_of end_flows;
      log = sym (log-of-settled (settled facts step tag net limits ks start k && enough end_flows) _ _ (log_below (logs_of end_flows)) _) ∙ no-meetings (logs_of end_flows);
      turns = now_turns facts step tag net limits ks X inputs k;
      way = λ i. stuck_at facts step tag net.places limits k ks end_round i;
      ends = λ i. end_at facts step tag end_flows any i;
      parts = λ i s e. parts-at facts step tag net.places limits k ks end_round any a b i s e;
      beyond = λ i h. beyond-at facts step tag net.places limits k ks end_round i h;
      tagged = λ i w e. subst (λ v. IsTagBelow (is_modal d) tag v) (sym (stuck-tagged facts step tag net.places limits k ks end_round i w e)) reads.at_tag;
      counted = λ i q. inl (all-taken i q);
      asked = λ i w e.
          subst (λ v. IsAsked facts step ms made d ks tag inputs i (end_at facts step tag end_flows any i) v w.inputs) (sym (stuck-tagged facts step tag net.places limits k ks end_round i w e))
          (reads.asks i (end_at facts step tag end_flows any i) w.inputs (k, asks-at facts step tag net.places limits k ks end_round any i w e));
      done = if-well (settled facts step tag net limits ks start k && enough end_flows) (λ e. and-left _ _ e) (leaving.gone (lengths (skip_places net.places end_round))) _;
    }
