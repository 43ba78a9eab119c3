-- The children of a dataflow composite in the middle of a firing: what each has made, taken and given.
use Rattle.std.proofs.Common.{◌≡◌, ℕ, zero, suc, ◌≤◌, List, [], ◌∷◌, ◌++◌, length, take, drop, Option, Some, None, refl, sym, ap, subst, arith, ◌∙◌}
use Rattle.pt_meaning.specs.Tag.{Tag}
use Rattle.pt_meaning.specs.Streams.{IsPrefix, Streams, at, get}
use Rattle.pt_meaning.specs.Log.{Log, silent}
use Rattle.pt_meaning.specs.Machine.{Stepping, Facts}
use Rattle.pt_meaning.specs.Flow.{Flow}
use Rattle.pt_meaning.specs.Net.{Net}
use Rattle.pt_meaning.specs.Rounds.{Limit, gave}
use Rattle.pt_meaning.specs.Dataflow.{arrived}
use Rattle.pt_meaning.specs.Kahn.{states_of, logs_of, skip_places}
use Rattle.pt_meaning.specs.Children.{numbered, child_facts}
use Rattle.pt_meaning.specs.Running.{runs, Asks}
use Rattle.pt_meaning.specs.Closed.{Begun, if_there, inputs_at, begun_at}
use Rattle.pt_laws.specs.LogsOfRuns.{RunningWith, log_at}
use Rattle.pt_laws.specs.Channels.{channel_at, tokens_in, source_in}
use Rattle.pt_laws.specs.Explained.{Turned, ChainOf, of_turns, gives_in}
use Rattle.pt_laws.proofs.Order.{IsPrefix-refl, IsPrefix-trans, IsPrefix-after, IsPrefix-append}
use Rattle.pt_laws.proofs.ChannelLaws.{at-first, tokens-further}
use Rattle.pt_laws.proofs.ExplainFlows.{front-parts}
use Rattle.pt_laws.proofs.ExplainRounds.{refilled-at}
use Rattle.pt_laws.proofs.PlaceCounts.{turns_run, made-run, gives-run, rest-run}

-- what a child that was asked takes stands at the front of its places
pub asked-there : {T S : Type 0} (facts : Facts T S) (i : ℕ) (ns : List ℕ) (cs : List Limit) (ms : List ℕ) (ss : List S) (held got left : Streams T) → Asks facts i ns cs ms ss held got left → (q : ℕ) → IsPrefix (at got q) (tokens_in held (channel_at ns i q))
asked-there facts zero (n ∷ ns) (c ∷ cs) (m ∷ ms) (s ∷ ss) held got left a q =
    subst (λ v. IsPrefix (at got q) v) (at-first n q held) (subst (λ v. IsPrefix (at got q) v) (sym (front-parts (facts.need s) (take n held) got a.0 a.2 q)) (IsPrefix-append (at got q) (at a.0 q)))
asked-there facts (suc i) (n ∷ ns) (c ∷ cs) (m ∷ ms) (s ∷ ss) held got left a q = subst (λ v. IsPrefix (at got q) v) (tokens-further n held (channel_at ns i q)) (asked-there facts i ns cs ms ss (drop n held) got a.0 a.1 q)
asked-there facts i [] cs ms ss held got left a q = absurd a
asked-there facts i (n ∷ ns) [] ms ss held got left a q = absurd a
asked-there facts i (n ∷ ns) (c ∷ cs) [] ss held got left a q = absurd a
asked-there facts i (n ∷ ns) (c ∷ cs) (m ∷ ms) [] held got left a q = absurd a

-- so it is of the children with their numbers
pub asks-numbered : {T S : Type 0} (facts : Facts T S) (b i : ℕ) (ns : List ℕ) (cs : List Limit) (ms : List ℕ) (ss : List S) (held got left : Streams T) → Asks facts i ns cs ms ss held got left → Asks (child_facts facts) i ns cs ms (numbered b ss) held got left
asks-numbered facts b zero (n ∷ ns) (c ∷ cs) (m ∷ ms) (s ∷ ss) held got left a = a
asks-numbered facts b (suc i) (n ∷ ns) (c ∷ cs) (m ∷ ms) (s ∷ ss) held got left a = (a.0, asks-numbered facts (suc b) i ns cs ms ss (drop n held) got a.0 a.1, a.2)
asks-numbered facts b i [] cs ms ss held got left a = absurd a
asks-numbered facts b i (n ∷ ns) [] ms ss held got left a = absurd a
asks-numbered facts b i (n ∷ ns) (c ∷ cs) [] ss held got left a = absurd a
asks-numbered facts b i (n ∷ ns) (c ∷ cs) (m ∷ ms) [] held got left a = absurd a

module _ {T S : Type 0} (facts : Facts T S) (step : Stepping T S) (tag : Tag) where
  -- nothing is made beyond the children
  runs-beyond : (ns : List ℕ) (cs : List Limit) (ms : List ℕ) (ss : List S) (X : Streams T) (i : ℕ) → length ss ≤ i → (log_at (logs_of (runs facts step tag ns cs ms ss X)) i ≡ silent) × (turns_run facts step tag ns cs ms ss X i ≡ [])
  unfolding turns_run
  runs-beyond [] cs ms ss X i h = (refl, refl)
  runs-beyond (n ∷ ns) [] ms ss X i h = (refl, refl)
  runs-beyond (n ∷ ns) (c ∷ cs) [] ss X i h = (refl, refl)
  runs-beyond (n ∷ ns) (c ∷ cs) (m ∷ ms) [] X i h = (refl, refl)
  runs-beyond (n ∷ ns) (c ∷ cs) (m ∷ ms) (s ∷ ss) X zero h = absurd (omega (arith, h))
  runs-beyond (n ∷ ns) (c ∷ cs) (m ∷ ms) (s ∷ ss) X (suc i) h = runs-beyond ns cs ms ss (drop n X) i (omega (arith, h))

  -- as many logs as states
  pub logs-long : (fs : List (Flow T S)) → length (logs_of fs) ≡ length (states_of fs)
  logs-long [] = refl
  logs-long (f ∷ fs) = ap (λ n. suc n) (logs-long fs)

-- a run in the middle, on what the channels held at first with the inputs
module _ {T S : Type 0} (facts : Facts T S) (step : Stepping T S) (tag : Tag) (net : Net) (limits : List Limit) (kids : List S) (X inputs : Streams T) (ms : List ℕ) (now : List S) (held : Streams T) (ls : List (Log T)) (w : RunningWith facts step tag net limits kids (arrived net.sources inputs X) ms now held ls)
    (cs-long : length limits ≡ length net.places) (ss-long : length kids ≡ length net.places) where
  abbrev pub turns_now : ℕ → List (Turned T)
  turns_now i = turns_run facts step tag net.places limits ms kids w.running.all i

  abbrev flows_now : List (Flow T S)
  flows_now = runs facts step tag net.places limits ms kids w.running.all

  pub record MadeNow (s : S) (i : ℕ) : Type 0 where
    pub end : S
    pub there : get now i ≡ Some end
    pub chain : ChainOf facts step s (turns_now i) end (log_at ls i)

  pub made-now : (i : ℕ) (s : S) → get kids i ≡ Some s → MadeNow s i
  made-now i s e =
      let y = made-run facts step tag net.places limits ms kids w.running.all cs-long w.running.each ss-long w.running.made i s e in
      record {
        end = y.end;
        there = ap (λ v. get v i) w.running.states ∙ y.there;
        chain = subst (λ v. ChainOf facts step s (turns_now i) y.end (log_at v i)) (sym w.logs) y.chain;
      }

  pub none-now : (i : ℕ) → length kids ≤ i → (log_at ls i ≡ silent) × (turns_now i ≡ [])
  none-now i h = let y = runs-beyond facts step tag net.places limits ms kids w.running.all i h in (ap (λ v. log_at v i) w.logs ∙ y.0, y.1)

  pub now-long : length ls ≡ length now
  now-long = ap (λ v. length v) w.logs ∙ logs-long facts step tag flows_now ∙ sym (ap (λ v. length v) w.running.states)

  -- what a channel got stood there, or its source gave it
  fed-place : (o : Option ℕ) → IsPrefix (tokens_in w.running.all o) (tokens_in X o ++ gives_in inputs turns_now (if_there (get net.sources) o))
  fed-place None = tt
  fed-place (Some c) =
      subst (λ v. IsPrefix (at v c) (at X c ++ gives_in inputs turns_now (get net.sources c))) (sym w.running.fed)
      (refilled-at facts step tag net limits kids X inputs flows_now turns_now (λ j port. subst (λ v. IsPrefix (gave flows_now j port) v) (gives-run facts step tag net.places limits ms kids w.running.all j port) (IsPrefix-refl (gave flows_now j port))) net.sources X c)

  -- so what a child took, with what it takes in a firing that it doesn't finish, stood there or was given
  pub taken-now : (i q : ℕ) (b : Option (Begun T)) → IsPrefix (begun_at b q) (tokens_in held (channel_at net.places i q)) → IsPrefix (of_turns (inputs_at q) (turns_now i) ++ begun_at b q) (tokens_in X (channel_at net.places i q) ++ gives_in inputs turns_now (source_in net i q))
  taken-now i q b h =
      let rest = rest-run facts step tag net.places limits ms kids w.running.all (skip_places net.places w.running.all) cs-long w.running.each ss-long w.running.fits i q in
      let all : tokens_in w.running.all (channel_at net.places i q) ≡ of_turns (inputs_at q) (turns_now i) ++ tokens_in held (channel_at net.places i q) = rest ∙ ap (λ v. of_turns (inputs_at q) (turns_now i) ++ tokens_in v (channel_at net.places i q)) (sym w.running.left) in
      IsPrefix-trans _ _ _ (subst (λ v. IsPrefix (of_turns (inputs_at q) (turns_now i) ++ begun_at b q) v) (sym all) (IsPrefix-after (of_turns (inputs_at q) (turns_now i)) (begun_at b q) (tokens_in held (channel_at net.places i q)) h)) (fed-place (channel_at net.places i q))
