-- What the events of a PN firing tell of its places.
use Rattle.std.proofs.Common.{◌≡◌, ◌⊎◌, ℕ, zero, suc, ◌+◌, ◌<◌, List, [], ◌∷◌, ◌++◌, Bool, true, false, ◌||◌, nat_eq, nat_lt, length, take, drop, get_or, Option, Some, None, if◌then◌else◌, inl, inr, refl, sym, ap, subst, arith, ◌∙◌, append_assoc, append-nil, length-append}
use Rattle.std.proofs.lemmas.Bool.Decides.{nat_tests}
use Rattle.std.proofs.lemmas.List.{length-take-le, append_cancel_left, append_cancel_right}
use Rattle.std.proofs.Math.Path.{fun_ext}
use Rattle.pt_meaning.specs.Basics.{Tag, Streams, at, Log, log_then}
use Rattle.pt_meaning.specs.Streams.{get, change_at}
use Rattle.pt_meaning.specs.Machine.{Outcome, Done, Stuck, Stepping, Facts, Front, Lacks, Ends, Takes, front}
use Rattle.pt_meaning.specs.Flow.{Capped, Flow, flow, on_outcome, on_front}
use Rattle.pt_meaning.specs.Rounds.{Source, Own, Output, Limit, rated, gave, refill}
use Rattle.pt_meaning.specs.Kahn.{left_by, logs_of, states_of, skip_places}
use Rattle.pt_meaning.specs.Pn.{pn_limits}
use Rattle.pt_meaning.specs.Process.{Put, puts_of}
use Rattle.pt_meaning.specs.Running.{runs, MadeAll, Fits}
use Rattle.pt_meaning.specs.Places.{taken_if, tokens_on, due_from, due, puts_from}
use Rattle.pt_meaning.specs.Jam.{IsPutting, is_next_put, waited_from, waited_for}
use Rattle.pt_laws.specs.LogsOfRuns.{log_at}
use Rattle.pt_meaning.specs.Closed.{Has, Begun, inputs_at, outputs_at}
use Rattle.pt_laws.specs.Channels.{further, channel_at, tokens_in}
use Rattle.pt_laws.specs.Explained.{Turned, ChainOf, PartOf, of_turns, gives_in}
use Rattle.pt_laws.specs.PlacesTold.{PlacesAreTold, AreTold, LinesTell, FullLinesTell, LastPutsAreTold, GetsFollowPuts}
use Rattle.pt_laws.proofs.ChannelLaws.{at-first, tokens-further, tokens-append, at-append-if, fits-channel}
use Rattle.pt_laws.proofs.FlowLaws.{IsFree}
use Rattle.pt_laws.proofs.RunLaws.{left-length, flow-capped}
use Rattle.pt_laws.proofs.PlaceEnds.{puts-are}
use Rattle.pt_laws.proofs.PlaceEnds as ends
use Rattle.pt_laws.proofs.ExplainParties.{turns-append}
use Rattle.pt_laws.proofs.ExplainFlows.{turns_of, turns_on, turns_front, stuck_of, flow-is, free-unstuck}

-- as many turns as firings
module _ {T S : Type 0} (facts : Facts T S) (step : Stepping T S) (tag : Tag) where
  on-count : (n : ℕ) → ((s : S) (X : Streams T) → length (turns_of facts step tag n s X) ≡ (flow facts step tag n s X).fired) → (s : S) (X got left : Streams T) (o : Outcome T S) →
      length (turns_on facts step tag (turns_of facts step tag n) s got left o) ≡ (on_outcome facts step tag (flow facts step tag n) s X got left o).fired
  on-count n ih s X got left (Done z out l) = ap (λ v. suc v) (ih z left)
  on-count n ih s X got left (Stuck fs l) = refl

  front-count : (n : ℕ) → ((s : S) (X : Streams T) → length (turns_of facts step tag n s X) ≡ (flow facts step tag n s X).fired) → (s : S) (X : Streams T) (f : Front T) → length (turns_front facts step tag (turns_of facts step tag n) s f) ≡ (on_front facts step tag (flow facts step tag n) s X f).fired
  front-count n ih s X Lacks = refl
  front-count n ih s X Ends = refl
  front-count n ih s X (Takes got left) = on-count n ih s X got left (step tag s got)

  turns-count : (n : ℕ) (s : S) (X : Streams T) → length (turns_of facts step tag n s X) ≡ (flow facts step tag n s X).fired
  unfolding flow
  turns-count zero s X = refl
  turns-count (suc n) s X = front-count n (turns-count n) s X (front (facts.need s) X)

-- the last of them
module _ {T S : Type 0} (facts : Facts T S) (step : Stepping T S) (tag : Tag) where
  turns-last : (n : ℕ) (s : S) (X : Streams T) → (flow facts step tag (suc n) s X).fired ≡ suc n → (t : Turned T) × (turns_of facts step tag (suc n) s X ≡ turns_of facts step tag n s X ++ (t ∷ []))
  unfolding flow
  turns-last zero s X e = go (front (facts.need s) X) e
    where
      by_outcome : (got left : Streams T) (o : Outcome T S) → (on_outcome facts step tag (flow facts step tag 0) s X got left o).fired ≡ 1 → (t : Turned T) × (turns_on facts step tag (turns_of facts step tag 0) s got left o ≡ t ∷ [])
      by_outcome got left (Done z out l) e = (record { record_of = record { number = facts.made s; tag = tag; inputs = got; outputs = out }; inside = l }, refl)
      by_outcome got left (Stuck fs l) e = absurd (omega (arith, e))

      go : (f : Front T) → (on_front facts step tag (flow facts step tag 0) s X f).fired ≡ 1 → (t : Turned T) × (turns_front facts step tag (turns_of facts step tag 0) s f ≡ t ∷ [])
      go Lacks e = absurd (omega (arith, e))
      go Ends e = absurd (omega (arith, e))
      go (Takes got left) e = by_outcome got left (step tag s got) e
  turns-last (suc n) s X e = go (front (facts.need s) X) e (λ z left g. turns-last n z left g)
    where
      by_outcome : (got left : Streams T) (o : Outcome T S) → (on_outcome facts step tag (flow facts step tag (suc n)) s X got left o).fired ≡ suc (suc n) →
          ((z : S) (Y : Streams T) → (flow facts step tag (suc n) z Y).fired ≡ suc n → (t : Turned T) × (turns_of facts step tag (suc n) z Y ≡ turns_of facts step tag n z Y ++ (t ∷ []))) →
          (t : Turned T) × (turns_on facts step tag (turns_of facts step tag (suc n)) s got left o ≡ turns_on facts step tag (turns_of facts step tag n) s got left o ++ (t ∷ []))
      by_outcome got left (Done z out l) e ih =
          let r = ih z left (omega (arith, e)) in
          (r.0, ap (λ (v : List (Turned T)). let u : Turned T = record { record_of = record { number = facts.made s; tag = tag; inputs = got; outputs = out }; inside = l } in u ∷ v) r.1)
      by_outcome got left (Stuck fs l) e ih = absurd (omega (arith, e))

      go : (f : Front T) → (on_front facts step tag (flow facts step tag (suc n)) s X f).fired ≡ suc (suc n) → ((z : S) (Y : Streams T) → (flow facts step tag (suc n) z Y).fired ≡ suc n → (t : Turned T) × (turns_of facts step tag (suc n) z Y ≡ turns_of facts step tag n z Y ++ (t ∷ []))) →
          (t : Turned T) × (turns_front facts step tag (turns_of facts step tag (suc n)) s f ≡ turns_front facts step tag (turns_of facts step tag n) s f ++ (t ∷ []))
      go Lacks e ih = absurd (omega (arith, e))
      go Ends e ih = absurd (omega (arith, e))
      go (Takes got left) e ih = by_outcome got left (step tag s got) e ih

-- a part of which no firing is unfinished is a chain
whole-chain : {T S : Type 0} (facts : Facts T S) (step : Stepping T S) (s z : S) (l : Log T) (ts : List (Turned T)) (way : Option (Begun T)) → PartOf facts step s l ts way z → way ≡ None → ChainOf facts step s ts z l
whole-chain {T} facts step s z l ts None p e = subst (λ v. ChainOf facts step s ts z v) (sym (p.whole ∙ ap (λ v. log_then p.first v) p.ends ∙ fun_ext (λ x. append-nil (p.first x)))) p.chain
whole-chain facts step s z l ts (Some b) p e = absurd (cc)

-- the processes of a run, each with its firings
module _ {T S : Type 0} (facts : Facts T S) (step : Stepping T S) (tag : Tag) where
  unfoldable pub turns_run : List ℕ → List Limit → List ℕ → List S → Streams T → ℕ → List (Turned T)
  turns_run (n ∷ ns) (c ∷ cs) (m ∷ ms) (s ∷ ss) X zero = turns_of facts (rated facts c.rates step) tag m s (take n X)
  turns_run (n ∷ ns) (c ∷ cs) (m ∷ ms) (s ∷ ss) X (suc i) = turns_run ns cs ms ss (drop n X) i
  turns_run [] cs ms ss X i = []
  turns_run (n ∷ ns) [] ms ss X i = []
  turns_run (n ∷ ns) (c ∷ cs) [] ss X i = []
  turns_run (n ∷ ns) (c ∷ cs) (m ∷ ms) [] X i = []

  -- what holds of one
  pub record IsMade (s : S) (states : List S) (log : Log T) (ts : List (Turned T)) (i m : ℕ) : Type 0 where
    pub end : S
    pub there : get states i ≡ Some end
    pub chain : ChainOf facts step s ts end log
    pub count : length ts ≡ m

  some-same : (a b : S) → Some a ≡ Some b → a ≡ b
  some-same a b e = cc

  pub made-run : (ns : List ℕ) (cs : List Limit) (ms : List ℕ) (ss : List S) (X : Streams T) → length cs ≡ length ns → length ms ≡ length ns → length ss ≡ length ns → MadeAll ms (runs facts step tag ns cs ms ss X) → (i : ℕ) (s : S) → get ss i ≡ Some s →
      IsMade s (states_of (runs facts step tag ns cs ms ss X)) (log_at (logs_of (runs facts step tag ns cs ms ss X)) i) (turns_run ns cs ms ss X i) i (get_or ms i 0)
  unfolding turns_run
  made-run [] cs ms [] X a b d made i s e = absurd (cc)
  made-run [] cs ms (z ∷ ss) X a b d made i s e = absurd (omega (arith, d))
  made-run (n ∷ ns) [] ms ss X a b d made i s e = absurd (omega (arith, a))
  made-run (n ∷ ns) (c ∷ cs) [] ss X a b d made i s e = absurd (omega (arith, b))
  made-run (n ∷ ns) (c ∷ cs) (m ∷ ms) [] X a b d made i s e = absurd (omega (arith, d))
  made-run (n ∷ ns) (c ∷ cs) (m ∷ ms) (z ∷ ss) X a b d made zero s e =
      let same : z ≡ s = some-same z s e in
      let f = flow facts (rated facts c.rates step) tag m z (take n X) in
      let stop : f.stop ≡ Capped = flow-capped facts (rated facts c.rates step) tag m z (take n X) made.0 in
      let none = free-unstuck facts (rated facts c.rates step) tag m z (take n X) (subst (λ v. IsFree v) (sym stop) tt) in
      record {
        end = f.state;
        there = refl;
        chain = subst (λ v. ChainOf facts step v (turns_of facts (rated facts c.rates step) tag m z (take n X)) f.state f.log) same (whole-chain facts step z f.state f.log (turns_of facts (rated facts c.rates step) tag m z (take n X)) (stuck_of facts (rated facts c.rates step) tag m z (take n X)) (flow-is facts step c.rates tag m z (take n X)).part_is none);
        count = turns-count facts (rated facts c.rates step) tag m z (take n X) ∙ made.0;
      }
  made-run (n ∷ ns) (c ∷ cs) (m ∷ ms) (z ∷ ss) X a b d made (suc i) s e =
      let r = made-run ns cs ms ss (drop n X) (omega (arith, a)) (omega (arith, b)) (omega (arith, d)) made.1 i s e in record { end = r.end; there = r.there; chain = r.chain; count = r.count }

  pub gives-run : (ns : List ℕ) (cs : List Limit) (ms : List ℕ) (ss : List S) (X : Streams T) (j port : ℕ) → gave (runs facts step tag ns cs ms ss X) j port ≡ of_turns (outputs_at port) (turns_run ns cs ms ss X j)
  unfolding turns_run
  gives-run [] cs ms ss X j port = refl
  gives-run (n ∷ ns) [] ms ss X j port = refl
  gives-run (n ∷ ns) (c ∷ cs) [] ss X j port = refl
  gives-run (n ∷ ns) (c ∷ cs) (m ∷ ms) [] X j port = refl
  gives-run (n ∷ ns) (c ∷ cs) (m ∷ ms) (s ∷ ss) X zero port = (flow-is facts step c.rates tag m s (take n X)).gives port
  gives-run (n ∷ ns) (c ∷ cs) (m ∷ ms) (s ∷ ss) X (suc j) port = gives-run ns cs ms ss (drop n X) j port

  last-run : (ns : List ℕ) (cs : List Limit) (ms : List ℕ) (ss : List S) (X : Streams T) → length cs ≡ length ns → length ms ≡ length ns → length ss ≡ length ns → MadeAll ms (runs facts step tag ns cs ms ss X) → (i before : ℕ) → get ms i ≡ Some (suc before) → (s : S) → get ss i ≡ Some s →
      (t : Turned T) × (turns_run ns cs ms ss X i ≡ turns_run ns cs (change_at i (λ m. before) ms) ss X i ++ (t ∷ []))
  unfolding turns_run
  last-run [] cs ms [] X a b d made i n e s f = absurd (cc)
  last-run [] cs ms (z ∷ ss) X a b d made i n e s f = absurd (omega (arith, d))
  last-run (k ∷ ns) [] ms ss X a b d made i n e s f = absurd (omega (arith, a))
  last-run (k ∷ ns) (c ∷ cs) [] ss X a b d made i n e s f = absurd (omega (arith, b))
  last-run (k ∷ ns) (c ∷ cs) (m ∷ ms) [] X a b d made i n e s f = absurd (omega (arith, d))
  last-run (k ∷ ns) (c ∷ cs) (m ∷ ms) (z ∷ ss) X a b d made zero n e s f =
      let same : m ≡ suc n = cc in
      let r = turns-last facts (rated facts c.rates step) tag n z (take k X) (subst (λ v. (flow facts (rated facts c.rates step) tag v z (take k X)).fired ≡ v) same made.0) in
      (r.0, ap (λ v. turns_of facts (rated facts c.rates step) tag v z (take k X)) same ∙ r.1)
  last-run (k ∷ ns) (c ∷ cs) (m ∷ ms) (z ∷ ss) X a b d made (suc i) n e s f = last-run ns cs ms ss (drop k X) (omega (arith, a)) (omega (arith, b)) (omega (arith, d)) made.1 i n e s f

  -- what is used, and behind it what is left
  pub rest-run : (ns : List ℕ) (cs : List Limit) (ms : List ℕ) (ss : List S) (X own : Streams T) → length cs ≡ length ns → length ms ≡ length ns → length ss ≡ length ns → Fits ns X → (i q : ℕ) →
      tokens_in X (channel_at ns i q) ≡ of_turns (inputs_at q) (turns_run ns cs ms ss X i) ++ tokens_in (left_by (runs facts step tag ns cs ms ss X) ++ own) (channel_at ns i q)
  unfolding turns_run
  rest-run [] cs ms ss X own a b d w i q = refl
  rest-run (n ∷ ns) [] ms ss X own a b d w i q = absurd (omega (arith, a))
  rest-run (n ∷ ns) (c ∷ cs) [] ss X own a b d w i q = absurd (omega (arith, b))
  rest-run (n ∷ ns) (c ∷ cs) (m ∷ ms) [] X own a b d w i q = absurd (omega (arith, d))
  rest-run (n ∷ ns) (c ∷ cs) (m ∷ ms) (s ∷ ss) X own a b d w zero q =
      sym (at-first n q X) ∙ (flow-is facts step c.rates tag m s (take n X)).used q ∙ ap (λ v. of_turns (inputs_at q) (turns_of facts (rated facts c.rates step) tag m s (take n X)) ++ v) (at-append-if n q F (L ++ own) len ∙ ap (λ v. tokens_in v (if nat_lt q n then Some q else None)) (sym (append_assoc F L own)))
    where
      F : Streams T
      F = (flow facts (rated facts c.rates step) tag m s (take n X)).left

      L : Streams T
      L = left_by (runs facts step tag ns cs ms ss (drop n X))

      len : length F ≡ n
      len = left-length facts (rated facts c.rates step) tag m s (take n X) ∙ length-take-le n X w.0
  rest-run (n ∷ ns) (c ∷ cs) (m ∷ ms) (s ∷ ss) X own a b d w (suc i) q =
      sym (tokens-further n X (channel_at ns i q)) ∙ rest-run ns cs ms ss (drop n X) own (omega (arith, a)) (omega (arith, b)) (omega (arith, d)) w.1 i q ∙
      ap (λ v. of_turns (inputs_at q) (turns_run ns cs ms ss (drop n X) i) ++ v) (sym (tokens-append n F (L ++ own) len (channel_at ns i q)) ∙ ap (λ v. tokens_in v (further n (channel_at ns i q))) (sym (append_assoc F L own)))
    where
      F : Streams T
      F = (flow facts (rated facts c.rates step) tag m s (take n X)).left

      L : Streams T
      L = left_by (runs facts step tag ns cs ms ss (drop n X))

      len : length F ≡ n
      len = left-length facts (rated facts c.rates step) tag m s (take n X) ∙ length-take-le n X w.0

refill-long : {T S : Type 0} (fs : List (Flow T S)) (cs : List Source) (X : Streams T) → length (refill fs cs X) ≡ length X
refill-long fs [] X = refl
refill-long fs (c ∷ cs) [] = refl
refill-long fs (c ∷ cs) (xs ∷ X) = ap (λ n. suc n) (refill-long fs cs X)

-- what a channel has had is what it began with, and what its source gave
fed-at : {T S : Type 0} (fs : List (Flow T S)) (ts : ℕ → List (Turned T)) → ((j port : ℕ) → gave fs j port ≡ of_turns (outputs_at port) (ts j)) → (cs : List Source) (X : Streams T) (c : ℕ) → c < length X → at (refill fs cs X) c ≡ at X c ++ gives_in [] ts (get cs c)
fed-at fs ts f [] X c h = sym (append-nil (at X c))
fed-at fs ts f (s ∷ cs) [] c h = absurd (omega (arith, h))
fed-at fs ts f (Own port ∷ cs) (xs ∷ X) zero h = refl
fed-at fs ts f (Output j port ∷ cs) (xs ∷ X) zero h = ap (λ v. xs ++ v) (f j port)
fed-at fs ts f (s ∷ cs) (xs ∷ X) (suc c) h = fed-at fs ts f cs X c (omega (arith, h))

limits-long : (ns : List ℕ) → length (pn_limits ns) ≡ length ns
limits-long [] = refl
limits-long (n ∷ ns) = ap (λ m. suc m) (limits-long ns)

pub places-are-told : {T S : Type 0} → PlacesAreTold T S
places-are-told {T} {S} facts step tag net kids start ms now h long k = record {
  firings = λ j. turns_run facts step tag net.places (pn_limits net.places) ms kids k.running.all j;
  made = λ i s e.
      let r = made-run facts step tag net.places (pn_limits net.places) ms kids k.running.all (limits-long net.places) k.running.each long k.running.made i s e in
      record { end = r.end; there = ap (λ v. get v i) k.running.states ∙ r.there; chain = r.chain; count = r.count };
  tokens = tokens;
}
  where
    tokens : (i q c : ℕ) → channel_at net.places i q ≡ Some c → at start c ++ gives_in [] (λ j. turns_run facts step tag net.places (pn_limits net.places) ms kids k.running.all j) (get net.sources c) ≡ of_turns (inputs_at q) (turns_run facts step tag net.places (pn_limits net.places) ms kids k.running.all i) ++ (at h.gathered c ++ (at h.queued c ++ due net h.puts c))
    tokens i q c e =
        let there : c < length k.running.all = fits-channel net.places k.running.all i q c k.running.fits e in
        let long_all : length k.running.all ≡ length start = ap (λ v. length v) k.running.fed ∙ refill-long (runs facts step tag net.places (pn_limits net.places) ms kids k.running.all) net.sources start in
        let had : at k.running.all c ≡ at start c ++ gives_in [] (λ j. turns_run facts step tag net.places (pn_limits net.places) ms kids k.running.all j) (get net.sources c) =
        ap (λ v. at v c) k.running.fed ∙
        fed-at (runs facts step tag net.places (pn_limits net.places) ms kids k.running.all) (λ j. turns_run facts step tag net.places (pn_limits net.places) ms kids k.running.all j) (λ j port. gives-run facts step tag net.places (pn_limits net.places) ms kids k.running.all j port) net.sources start c (omega (arith, there, long_all))
        in
        let used =
        subst (λ o. tokens_in k.running.all o ≡ of_turns (inputs_at q) (turns_run facts step tag net.places (pn_limits net.places) ms kids k.running.all i) ++ tokens_in (left_by (runs facts step tag net.places (pn_limits net.places) ms kids k.running.all) ++ skip_places net.places k.running.all) o) e
        (rest-run facts step tag net.places (pn_limits net.places) ms kids k.running.all (skip_places net.places k.running.all) (limits-long net.places) k.running.each long k.running.fits i q)
        in
        sym had ∙ used ∙ ap (λ v. of_turns (inputs_at q) (turns_run facts step tag net.places (pn_limits net.places) ms kids k.running.all i) ++ v) (ap (λ v. at v c) (sym k.running.left) ∙ k.split c)

-- the lines of the channels that processes wait for
same-nat : (a b : ℕ) → nat_eq a b ≡ true → a ≡ b
same-nat a b e = grind (arith, nat_tests, e)

nat-same : (a : ℕ) → nat_eq a a ≡ true
nat-same a = grind (arith, nat_tests)

next-told : {T : Type 0} (c : ℕ) (puts : List (List (Put T))) → is_next_put c puts ≡ true → (i : ℕ) × (u : Put T) × (us : List (Put T)) × (at puts i ≡ u ∷ us) × (u.channel ≡ c)
next-told c [] e = absurd (cc)
next-told c ([] ∷ puts) e = let r = next-told c puts e in (suc r.0, r.1, r.2, r.3, r.4)
next-told {T} c ((u ∷ us) ∷ puts) e = go (nat_eq u.channel c) refl e (next-told c puts)
  where
    go : (b : Bool) → nat_eq u.channel c ≡ b → (b || is_next_put c puts) ≡ true → (is_next_put c puts ≡ true → (i : ℕ) × (v : Put T) × (vs : List (Put T)) × (at puts i ≡ v ∷ vs) × (v.channel ≡ c)) → (i : ℕ) × (v : Put T) × (vs : List (Put T)) × (at ((u ∷ us) ∷ puts) i ≡ v ∷ vs) × (v.channel ≡ c)
    go true h e ih = (0, u, us, refl, same-nat u.channel c h)
    go false h e ih = let r = ih e in (suc r.0, r.1, r.2, r.3, r.4)

or-right : (a b : Bool) → b ≡ true → (a || b) ≡ true
or-right true b e = refl
or-right false b e = e

waits-told : {T : Type 0} (c : ℕ) (puts : List (List (Put T))) (i : ℕ) (u : Put T) (us : List (Put T)) → at puts i ≡ u ∷ us → u.channel ≡ c → is_next_put c puts ≡ true
waits-told c [] i u us e f = absurd (cc)
waits-told c ([] ∷ puts) zero u us e f = absurd (cc)
waits-told c ([] ∷ puts) (suc i) u us e f = waits-told c puts i u us e f
waits-told {T} c ((v ∷ vs) ∷ puts) zero u us e f =
    let same : v ≡ u = cc in
    ap (λ b. b || is_next_put c puts) (ap (λ (w : Put T). nat_eq w.channel c) same ∙ ap (λ n. nat_eq n c) f ∙ nat-same c)
waits-told c ((v ∷ vs) ∷ puts) (suc i) u us e f = or-right (nat_eq v.channel c) (is_next_put c puts) (waits-told c puts i u us e f)

line-told : {T : Type 0} (c : ℕ) (X : Streams T) (puts : List (List (Put T))) (d n : ℕ) → Has (d, n) (waited_from c X puts) → (j : ℕ) × (d ≡ c + j) × (n ≡ length (at X j)) × (is_next_put d puts ≡ true)
line-told c [] puts d n h = absurd h
line-told {T} c (xs ∷ X) puts d n h = go (is_next_put c puts) refl h (line-told (suc c) X puts d n)
  where
    up : ((j : ℕ) × (d ≡ suc c + j) × (n ≡ length (at X j)) × (is_next_put d puts ≡ true)) → (j : ℕ) × (d ≡ c + j) × (n ≡ length (at (xs ∷ X) j)) × (is_next_put d puts ≡ true)
    up r = let a : d ≡ c + suc r.0 = omega (arith, r.1) in (suc r.0, a, r.2, r.3)

    go : (b : Bool) → is_next_put c puts ≡ b → Has (d, n) (taken_if b (c, length xs) (waited_from (suc c) X puts)) → (Has (d, n) (waited_from (suc c) X puts) → (j : ℕ) × (d ≡ suc c + j) × (n ≡ length (at X j)) × (is_next_put d puts ≡ true)) →
        (j : ℕ) × (d ≡ c + j) × (n ≡ length (at (xs ∷ X) j)) × (is_next_put d puts ≡ true)
    go true e (inl g) ih =
        let a : d ≡ c = ap (λ (p : ℕ × ℕ). p.0) g in
        let b : n ≡ length xs = ap (λ (p : ℕ × ℕ). p.1) g in
        let z : d ≡ c + 0 = omega (arith, a) in
        (0, z, b, ap (λ v. is_next_put v puts) a ∙ e)
    go true e (inr g) ih = up (ih g)
    go false e g ih = up (ih g)

line-each : {T : Type 0} (c : ℕ) (X : Streams T) (puts : List (List (Put T))) (j : ℕ) → is_next_put (c + j) puts ≡ true → j < length X → Has (c + j, length (at X j)) (waited_from c X puts)
line-each c [] puts j e h = absurd (omega (arith, h))
line-each {T} c (xs ∷ X) puts zero e h =
    let z : c + 0 ≡ c = omega arith in
    subst (λ b. Has (c + 0, length xs) (taken_if b (c, length xs) (waited_from (suc c) X puts))) (sym (ap (λ v. is_next_put v puts) (sym z) ∙ e)) (inl (ap (λ (v : ℕ). let p : ℕ × ℕ = (v, length xs) in p) z))
line-each {T} c (xs ∷ X) puts (suc j) e h =
    let a : c + suc j ≡ suc c + j = omega arith in
    behind (is_next_put c puts) (subst (λ v. Has (v, length (at X j)) (waited_from (suc c) X puts)) (sym a) (line-each (suc c) X puts j (ap (λ v. is_next_put v puts) (sym a) ∙ e) (omega (arith, h))))
  where
    behind : (b : Bool) → Has (c + suc j, length (at X j)) (waited_from (suc c) X puts) → Has (c + suc j, length (at X j)) (taken_if b (c, length xs) (waited_from (suc c) X puts))
    behind true g = inr g
    behind false g = g

pub lines-tell : {T : Type 0} → LinesTell T
lines-tell {T} = record {
  told = λ h c n g.
      let r = line-told 0 h.queued h.puts c n g in
      let a : r.0 ≡ c = omega (arith, r.1) in
      let w = next-told c h.puts r.3 in
      (r.2 ∙ ap (λ v. length (at h.queued v)) a, w.0, (w.1, w.2, w.3, w.4));
  each = λ h i c w b.
      let z : 0 + c ≡ c = omega arith in
      subst (λ v. Has (v, length (at h.queued c)) (waited_for h)) z (line-each 0 h.queued h.puts c (ap (λ v. is_next_put v h.puts) z ∙ waits-told c h.puts i w.0 w.1 w.2 w.3) b);
}

pub full-lines-tell : {T S : Type 0} → FullLinesTell T S
full-lines-tell {T} facts step tag net kids start greatest full long jam =
    let told = places-are-told facts step tag net kids start jam.made jam.now jam.halfway long jam.jam.consistent in (
      told,
      λ i q c n e g.
          let line : n ≡ length (at jam.halfway.queued c) = (lines-tell.told jam.halfway c n (subst (λ v. Has (c, n) v) jam.lengths g)).0 in
          let all = ap (λ v. length v) (told.tokens i q c e) in
          let left = length-append (at start c) (gives_in [] told.firings (get net.sources c)) in
          let right = length-append (of_turns (inputs_at q) (told.firings i)) (at jam.halfway.gathered c ++ (at jam.halfway.queued c ++ due net jam.halfway.puts c)) in
          let inner = length-append (at jam.halfway.gathered c) (at jam.halfway.queued c ++ due net jam.halfway.puts c) in
          let last = length-append (at jam.halfway.queued c) (due net jam.halfway.puts c) in
          omega (arith, line, all, left, right, inner, last),
    )

number-at : (xs : List ℕ) (j n : ℕ) → get xs j ≡ Some n → get_or xs j 0 ≡ n
number-at [] j n e = absurd (cc)
number-at (x ∷ xs) zero n e = cc
number-at (x ∷ xs) (suc j) n e = number-at xs j n e

-- the last firing of a process
pub last-puts-are-told : {T S : Type 0} → LastPutsAreTold T S
unfolding places-are-told
last-puts-are-told {T} {S} facts step tag net kids start ms now h long k = (places-are-told facts step tag net kids start ms now h long k, λ i putting s e. last i putting s e)
  where
    last : (i : ℕ) (putting : IsPutting facts step tag net kids k.running.all ms h i) (s : S) → get kids i ≡ Some s →
        (before : List (Turned T)) × (last : Turned T) × (turns_run facts step tag net.places (pn_limits net.places) ms kids k.running.all i ≡ before ++ (last ∷ [])) × (length before ≡ putting.before) × ((port : ℕ) → at putting.outputs port ≡ at last.record_of.outputs port) × (puts_of net.sources i 0 putting.outputs ≡ putting.put ++ at h.puts i)
    last i putting s e =
        let r = last-run facts step tag net.places (pn_limits net.places) ms kids k.running.all (limits-long net.places) k.running.each long k.running.made i putting.before putting.fired s e in
        let before = turns_run facts step tag net.places (pn_limits net.places) (change_at i (λ m. putting.before) ms) kids k.running.all i in
        let made = made-run facts step tag net.places (pn_limits net.places) ms kids k.running.all (limits-long net.places) k.running.each long k.running.made i s e in
        let counts : suc (length before) ≡ get_or ms i 0 = let a = length-append before (r.0 ∷ []) in let b = ap (λ (v : List (Turned T)). length v) r.1 in omega (arith, a, b, made.count) in
        let number : get_or ms i 0 ≡ suc putting.before = number-at ms i (suc putting.before) putting.fired in
        (before, r.0, r.1, omega (arith, counts, number), λ port. outputs port r.0 r.1, putting.rest)
      where
        outputs : (port : ℕ) (t : Turned T) → turns_run facts step tag net.places (pn_limits net.places) ms kids k.running.all i ≡ turns_run facts step tag net.places (pn_limits net.places) (change_at i (λ m. putting.before) ms) kids k.running.all i ++ (t ∷ []) → at putting.outputs port ≡ at t.record_of.outputs port
        outputs port t r =
            let before = turns_run facts step tag net.places (pn_limits net.places) (change_at i (λ m. putting.before) ms) kids k.running.all i in
            let all = gives-run facts step tag net.places (pn_limits net.places) ms kids k.running.all i port ∙ ap (λ ts. of_turns (outputs_at port) ts) r ∙ turns-append (outputs_at port) before (t ∷ []) in
            let some = putting.last port ∙ ap (λ v. v ++ at putting.outputs port) (gives-run facts step tag net.places (pn_limits net.places) (change_at i (λ m. putting.before) ms) kids k.running.all i port) in
            append_cancel_left (of_turns (outputs_at port) before) (at putting.outputs port) (at t.record_of.outputs port ++ []) (sym some ∙ all) ∙ append-nil (at t.record_of.outputs port)

child-there : {A B : Type 0} (xs : List A) (ys : List B) (i : ℕ) (x : A) → length xs ≡ length ys → get xs i ≡ Some x → (y : B) × (get ys i ≡ Some y)
child-there [] ys i x l e = absurd (cc)
child-there (a ∷ xs) [] i x l e = absurd (omega (arith, l))
child-there (a ∷ xs) (b ∷ ys) zero x l e = (b, refl)
child-there (a ∷ xs) (b ∷ ys) (suc i) x l e = child-there xs ys i x (omega (arith, l)) e

-- what is got follows what is put
pub gets-follow-puts : {T S : Type 0} → GetsFollowPuts T S
gets-follow-puts {T} {S} facts step tag net kids start greatest ms now h long jam =
    let last = last-puts-are-told facts step tag net kids start ms now h long jam.consistent in
    (last.0, λ i q c e. let p = by_source last.0 last.1 c (get net.sources c) refl in (p.0, p.1, follows last.0 i q c e p.0 p.1))
  where
    by_last : (told : AreTold facts step tag net kids start ms now h jam.consistent.running.all) (c j port : ℕ) → get net.sources c ≡ Some (Output j port) → (putting : IsPutting facts step tag net kids jam.consistent.running.all ms h j) →
        ((before : List (Turned T)) × (last : Turned T) × (told.firings j ≡ before ++ (last ∷ [])) × (length before ≡ putting.before) × ((port : ℕ) → at putting.outputs port ≡ at last.record_of.outputs port) × (puts_of net.sources j 0 putting.outputs ≡ putting.put ++ at h.puts j)) →
        (put : List T) × (of_turns (outputs_at port) (told.firings j) ≡ put ++ tokens_on c (at h.puts j))
    by_last told c j port f putting l =
        let given : of_turns (outputs_at port) (told.firings j) ≡ of_turns (outputs_at port) l.0 ++ at putting.outputs port =
        ap (λ ts. of_turns (outputs_at port) ts) l.2 ∙ turns-append (outputs_at port) l.0 (l.1 ∷ []) ∙ ap (λ v. of_turns (outputs_at port) l.0 ++ v) (append-nil (at l.1.record_of.outputs port) ∙ sym (l.4 port))
        in
        let parts : at putting.outputs port ≡ tokens_on c putting.put ++ tokens_on c (at h.puts j) =
        sym (puts-are net j putting.outputs c ∙ ap (λ o. puts_from j putting.outputs o) f ∙ ap (λ b. if b then at putting.outputs port else []) (nat-same j)) ∙ ap (λ us. tokens_on c us) l.5 ∙ ends.tokens-append c putting.put (at h.puts j)
        in
        (of_turns (outputs_at port) l.0 ++ tokens_on c putting.put, given ∙ ap (λ v. of_turns (outputs_at port) l.0 ++ v) parts ∙ sym (append_assoc (of_turns (outputs_at port) l.0) (tokens_on c putting.put) (tokens_on c (at h.puts j))))

    by_source : (told : AreTold facts step tag net kids start ms now h jam.consistent.running.all) →
        ((i : ℕ) (putting : IsPutting facts step tag net kids jam.consistent.running.all ms h i) (s : S) → get kids i ≡ Some s →
        (before : List (Turned T)) × (last : Turned T) × (told.firings i ≡ before ++ (last ∷ [])) × (length before ≡ putting.before) × ((port : ℕ) → at putting.outputs port ≡ at last.record_of.outputs port) × (puts_of net.sources i 0 putting.outputs ≡ putting.put ++ at h.puts i)) →
        (c : ℕ) (s : Option Source) → get net.sources c ≡ s → (put : List T) × (gives_in [] told.firings s ≡ put ++ due_from h.puts s c)
    by_source told last c None f = ([], refl)
    by_source told last c (Some (Own j)) f = ([], refl)
    by_source told last c (Some (Output j port)) f = go (jam.puts j)
      where
        go : (at h.puts j ≡ []) ⊎ IsPutting facts step tag net kids jam.consistent.running.all ms h j → (put : List T) × (of_turns (outputs_at port) (told.firings j) ≡ put ++ tokens_on c (at h.puts j))
        go (inl none) = (of_turns (outputs_at port) (told.firings j), sym (append-nil (of_turns (outputs_at port) (told.firings j))) ∙ ap (λ us. of_turns (outputs_at port) (told.firings j) ++ tokens_on c us) (sym none))
        go (inr putting) = let s = child-there ms kids j (suc putting.before) (jam.consistent.running.each ∙ sym long) putting.fired in by_last told c j port f putting (last j putting s.0 s.1)

    follows : (told : AreTold facts step tag net kids start ms now h jam.consistent.running.all) (i q c : ℕ) → channel_at net.places i q ≡ Some c → (put : List T) → gives_in [] told.firings (get net.sources c) ≡ put ++ due net h.puts c →
        at start c ++ put ≡ (of_turns (inputs_at q) (told.firings i) ++ at h.gathered c) ++ at h.queued c
    follows told i q c e put f =
        let used = of_turns (inputs_at q) (told.firings i) in
        let left = due net h.puts c in
        append_cancel_right (at start c ++ put) ((used ++ at h.gathered c) ++ at h.queued c) left
        (append_assoc (at start c) put left ∙ ap (λ v. at start c ++ v) (sym f) ∙ told.tokens i q c e ∙ sym (append_assoc used (at h.gathered c) (at h.queued c ++ left)) ∙ sym (append_assoc (used ++ at h.gathered c) (at h.queued c) left))
