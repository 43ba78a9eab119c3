-- A tick of SR or DE only moves tokens.
use Rattle.std.proofs.Common.{◌≡◌, ℕ, zero, suc, ◌+◌, ◌≤◌, List, [], ◌∷◌, ◌++◌, Bool, true, false, ◌&&◌, not, length, take, drop, Option, Some, None, refl, sym, ap, subst, arith, ◌∙◌, length-drop}
use Rattle.pt_meaning.specs.Basics.{Tag, Streams, at, Path, Event, log_below}
use Rattle.pt_meaning.specs.Streams.{get}
use Rattle.pt_meaning.specs.Machine.{Fault, Outcome, Done, Stuck, Stepping, Facts, Partial, Unknown, Known, partial_at}
use Rattle.pt_meaning.specs.Net.{Source, Own, Output, Net, Inside}
use Rattle.pt_meaning.specs.Running.{total}
use Rattle.pt_meaning.specs.Kahn.{skip_places, if_settled}
use Rattle.pt_meaning.specs.Valuation.{Activity, Earliness, known_then, known, Reaction, reacted, if_active, on_known, reaction, reactions, told_by, valued, unknowns, all_fired, all_free, reaction_faults, reaction_logs, reaction_states, tokens_of, skip, told_if, valuation, is_least, tick}
use Rattle.pt_meaning.specs.Closed.{Has, first_channel}
use Rattle.pt_laws.specs.SoundRuns.{count_at}
use Rattle.pt_kinds.specs.Directors.{KeepsChannels}
use Rattle.pt_kinds.specs.Moves.{On, MayCome, given, MayGive, arrives, tells, MayStand, MayTake, takes, knows, MayLog, MovedTo, OnlyMoves}
use Rattle.pt_kinds.proofs.MemberLaws.{length-take-within}
use Rattle.pt_kinds.proofs.TurnMoves.{MayEnd, BeginAt, begin-all, begin-next, first-is, count-is}
use Rattle.pt_kinds.proofs.FlowMoves.{AreStanding, AreSources, all-stand, all-sources}
use Rattle.pt_kinds.proofs.RoundMoves.{skip-length}

-- ---- what is known, by number

no-known : {T : Type 0} {A : Type 0} (xs : List T) → Unknown ≡ Known xs → A
no-known xs e = absurd (cc)

same-known : {T : Type 0} (xs ys : List T) → Known xs ≡ Known ys → xs ≡ ys
same-known xs ys e = cc

-- a token is known there
abbrev pub IsKnownIn : {T : Type 0} → T → Partial T → Type 0
IsKnownIn {T} x v = (xs : List T) × (v ≡ Known xs) × Has x xs

known-in-take : {T : Type 0} (n : ℕ) (V : List (Partial T)) (q : ℕ) (xs : List T) → partial_at (take n V) q ≡ Known xs → partial_at V q ≡ Known xs
known-in-take zero V q xs e = no-known xs e
known-in-take (suc n) [] q xs e = e
known-in-take (suc n) (v ∷ V) zero xs e = e
known-in-take (suc n) (v ∷ V) (suc q) xs e = known-in-take n V q xs e

partial-drop : {T : Type 0} (n : ℕ) (V : List (Partial T)) (q : ℕ) → partial_at (drop n V) q ≡ partial_at V (n + q)
partial-drop zero V q = let a : q ≡ 0 + q = omega arith in ap (λ v. partial_at V v) a
partial-drop (suc n) [] q = refl
partial-drop (suc n) (v ∷ V) q = let a : suc (n + q) ≡ suc n + q = omega arith in partial-drop n V q ∙ ap (λ w. partial_at (v ∷ V) w) a

partial-skip : {T : Type 0} (ns : List ℕ) (V : List (Partial T)) (q : ℕ) → partial_at (skip ns V) q ≡ partial_at V (total ns + q)
partial-skip [] V q = let a : q ≡ 0 + q = omega arith in ap (λ v. partial_at V v) a
partial-skip (n ∷ ns) V q = let a : n + (total ns + q) ≡ (n + total ns) + q = omega arith in partial-skip ns (drop n V) q ∙ partial-drop n V (total ns + q) ∙ ap (λ v. partial_at V v) a

skip-known-length : {T : Type 0} (ns : List ℕ) (V : List (Partial T)) → total ns ≤ length V → total ns + length (skip ns V) ≡ length V
skip-known-length [] V r = omega arith
skip-known-length (n ∷ ns) V r = let e = skip-known-length ns (drop n V) (omega (arith, r, length-drop n V)) in omega (arith, e, r, length-drop n V)

tokens-length : {T : Type 0} (V : List (Partial T)) → length (tokens_of V) ≡ length V
tokens-length [] = refl
tokens-length (Unknown ∷ V) = ap (λ n. suc n) (tokens-length V)
tokens-length (Known xs ∷ V) = ap (λ n. suc n) (tokens-length V)

in-tokens : {T : Type 0} (V : List (Partial T)) (q : ℕ) (x : T) → Has x (at (tokens_of V) q) → IsKnownIn x (partial_at V q)
in-tokens [] q x h = absurd h
in-tokens (Unknown ∷ V) zero x h = absurd h
in-tokens (Unknown ∷ V) (suc q) x h = in-tokens V q x h
in-tokens (Known xs ∷ V) zero x h = (xs, refl, h)
in-tokens (Known xs ∷ V) (suc q) x h = in-tokens V q x h

-- known inputs are as many as places, and what is known there
abbrev pub AreKnown : {T : Type 0} → List (Partial T) → Option (Streams T) → Type 0
AreKnown vs None = Unit {0}
AreKnown {T} vs (Some X) = (length X ≡ length vs) × ((q : ℕ) (x : T) → Has x (at X q) → IsKnownIn x (partial_at vs q))

are-known : {T : Type 0} (vs : List (Partial T)) → AreKnown vs (known vs)
are-known [] = (refl, λ q x h. absurd h)
are-known {T} (v ∷ vs) = go v (known vs) (are-known vs)
  where
    go : (v : Partial T) (o : Option (Streams T)) → AreKnown vs o → AreKnown (v ∷ vs) (known_then v o)
    go v None a = tt
    go Unknown (Some X) a = tt
    go (Known xs) (Some X) a = (ap (λ n. suc n) a.0, by_place)
      where
        by_place : (q : ℕ) (x : T) → Has x (at (xs ∷ X) q) → IsKnownIn x (partial_at (Known xs ∷ vs) q)
        by_place zero x h = (xs, refl, h)
        by_place (suc q) x h = a.1 q x h

module _ {T S : Type 0} (facts : Facts T S) (step : Stepping T S) (tag : Tag) (net : Net) (kids : List S) (inputs : Streams T) (early : Earliness T S) (active : Activity T S) (turn : Stepping T S)
    (tells-early : (s : S) (vs : List (Partial T)) (port : ℕ) (xs : List T) → partial_at (early tag s vs) port ≡ Known xs → partial_at (facts.early tag s vs) port ≡ Known xs)
    (turns : (i : ℕ) (s : S) (X : Streams T) → MayTake facts step tag net kids (On []) inputs i s X → MayEnd facts step tag net kids (On []) inputs i (turn tag s X)) where
  -- ---- the reaction of child i

  pub record ReactionMay (i : ℕ) (r : Reaction T S) : Type 0 where
    pub outputs : (port : ℕ) (xs : List T) (x : T) → r.outputs port ≡ Known xs → Has x xs → MayGive facts step tag net kids (On []) inputs (Output i port) x
    pub state : MayStand facts step tag net kids (On []) inputs i r.state
    pub log : (p : Path) (e : Event T) → Has e (r.log p) → MayLog facts step tag net kids (On []) inputs i p e

  module _ (i : ℕ) (s : S) (vs : List (Partial T)) (stands : MayStand facts step tag net kids (On []) inputs i s) (long : length vs ≡ count_at net.places i)
      (come : (q : ℕ) (xs : List T) (x : T) → partial_at vs q ≡ Known xs → Has x xs → MayCome facts step tag net kids (On []) inputs (first_channel net.places i + q) x) where
    told-early : (port : ℕ) (xs : List T) (x : T) → partial_at (early tag s vs) port ≡ Known xs → Has x xs → MayGive facts step tag net kids (On []) inputs (Output i port) x
    told-early port xs x e h = tells i port s vs xs x (knows i s vs stands long come) (tells-early s vs port xs e) h

    reacted-may : (r : Outcome T S) → MayEnd facts step tag net kids (On []) inputs i r → ReactionMay i (reacted early active turn tag s vs r)
    reacted-may (Done z out l) m = record { outputs = λ port xs x e h. m.1 port x (subst (λ ys. Has x ys) (sym (same-known (at out port) xs e)) h); state = m.0; log = m.2 }
    reacted-may (Stuck fs l) m = record { outputs = told-early; state = stands; log = m }

    active-may : (b : Bool) (X : Streams T) → MayTake facts step tag net kids (On []) inputs i s X → ReactionMay i (if_active early active turn tag b s vs X)
    active-may true X t = reacted-may (turn tag s X) (turns i s X t)
    active-may false X t = record { outputs = λ port xs x e h. absurd (subst (λ ys. Has x ys) (sym (same-known [] xs e)) h); state = stands; log = λ p e h. absurd h }

    known-may : (o : Option (Streams T)) → AreKnown vs o → ReactionMay i (on_known early active turn tag s vs o)
    known-may None a = record { outputs = told-early; state = stands; log = λ p e h. absurd h }
    known-may (Some X) a = active-may (active tag s X) X (takes i s X stands (a.0 ∙ long) (λ q x h. let w = a.1 q x h in come q w.0 x w.1 w.2))

    pub reaction-may : ReactionMay i (reaction early active turn tag s vs)
    reaction-may = known-may (known vs) (are-known vs)

  -- ---- the children from child i on, whose channels are those from b on

  -- what is known of these channels may come there
  abbrev pub AreKnownToCome : ℕ → List (Partial T) → Type 0
  AreKnownToCome b V = (q : ℕ) (xs : List T) (x : T) → partial_at V q ≡ Known xs → Has x xs → MayCome facts step tag net kids (On []) inputs (b + q) x

  known-drop : (n b : ℕ) (V : List (Partial T)) → AreKnownToCome b V → AreKnownToCome (b + n) (drop n V)
  known-drop n b V a q xs x k h =
      let e : b + (n + q) ≡ (b + n) + q = omega arith in
      subst (λ c. MayCome facts step tag net kids (On []) inputs c x) e (a (n + q) xs x (sym (partial-drop n V q) ∙ k) h)

  standing-next : (i : ℕ) (s : S) (ss : List S) → AreStanding facts step tag net kids (On []) inputs i (s ∷ ss) → AreStanding facts step tag net kids (On []) inputs (suc i) ss
  standing-next i s ss a j z g = let e : i + suc j ≡ suc i + j = omega arith in subst (λ v. MayStand facts step tag net kids (On []) inputs v z) e (a (suc j) z g)

  abbrev pub ReactionsMay : ℕ → List ℕ → List (Reaction T S) → Type 0
  ReactionsMay i [] [] = Unit {0}
  ReactionsMay i (n ∷ ns) (r ∷ rs) = ReactionMay i r × ReactionsMay (suc i) ns rs
  ReactionsMay i [] (r ∷ rs) = ⊥
  ReactionsMay i (n ∷ ns) [] = ⊥

  reactions-may : (i b : ℕ) (ns : List ℕ) (ss : List S) (V : List (Partial T)) → BeginAt facts step tag net kids (On []) inputs i b ns → length ss ≡ length ns → AreStanding facts step tag net kids (On []) inputs i ss → total ns ≤ length V → AreKnownToCome b V → ReactionsMay i ns (reactions early active turn tag ns ss V)
  reactions-may i b [] ss V a e st r m = tt
  reactions-may i b (n ∷ ns) [] V a e st r m = absurd (omega (arith, e))
  reactions-may i b (n ∷ ns) (s ∷ ss) V a e st r m = (
    (
        let z : i + 0 ≡ i = omega arith in
        reaction-may i s (take n V) (subst (λ v. MayStand facts step tag net kids (On []) inputs v s) z (st 0 s refl)) (length-take-within n V (omega (arith, r)) ∙ sym (count-is facts step tag net kids (On []) inputs i b n ns a))
        (λ q xs x k h. subst (λ v. MayCome facts step tag net kids (On []) inputs (v + q) x) (sym (first-is facts step tag net kids (On []) inputs i b n ns a)) (m q xs x (known-in-take n V q xs k) h))
        ),
    reactions-may (suc i) (b + n) ns ss (drop n V) (begin-next facts step tag net kids (On []) inputs i b n ns a) (omega (arith, e)) (standing-next i s ss st) (omega (arith, r, length-drop n V)) (known-drop n b V m),
  )

  -- ---- what they tell, leave and log: child j is at number m behind child i

  told-may : (i j m port : ℕ) (xs : List T) (x : T) (ns : List ℕ) (rs : List (Reaction T S)) → j ≡ i + m → ReactionsMay i ns rs → told_by rs m port ≡ Known xs → Has x xs → MayGive facts step tag net kids (On []) inputs (Output j port) x
  told-may i j m port xs x ns [] e g k h = no-known xs k
  told-may i j m port xs x [] (r ∷ rs) e g k h = absurd g
  told-may i j zero port xs x (n ∷ ns) (r ∷ rs) e g k h = let same : i ≡ j = omega (arith, e) in subst (λ v. MayGive facts step tag net kids (On []) inputs (Output v port) x) same (g.0.outputs port xs x k h)
  told-may i j (suc m) port xs x (n ∷ ns) (r ∷ rs) e g k h = told-may (suc i) j m port xs x ns rs (omega (arith, e)) g.1 k h

  logs-may : (i j m : ℕ) (p : Path) (ev : Event T) (ns : List ℕ) (rs : List (Reaction T S)) → j ≡ i + m → ReactionsMay i ns rs → Has ev (log_below (reaction_logs rs) (m ∷ p)) → MayLog facts step tag net kids (On []) inputs j p ev
  logs-may i j m p ev ns [] e g h = absurd h
  logs-may i j m p ev [] (r ∷ rs) e g h = absurd g
  logs-may i j zero p ev (n ∷ ns) (r ∷ rs) e g h = let same : i ≡ j = omega (arith, e) in subst (λ v. MayLog facts step tag net kids (On []) inputs v p ev) same (g.0.log p ev h)
  logs-may i j (suc m) p ev (n ∷ ns) (r ∷ rs) e g h = logs-may (suc i) j m p ev ns rs (omega (arith, e)) g.1 h

  states-may : (i j m : ℕ) (s : S) (ns : List ℕ) (rs : List (Reaction T S)) → j ≡ i + m → ReactionsMay i ns rs → get (reaction_states rs) m ≡ Some s → MayStand facts step tag net kids (On []) inputs j s
  states-may i j m s ns [] e g h = absurd (cc)
  states-may i j m s [] (r ∷ rs) e g h = absurd g
  states-may i j zero s (n ∷ ns) (r ∷ rs) e g h =
      let same : i ≡ j = omega (arith, e) in
      let is : r.state ≡ s = cc in
      subst (λ v. MayStand facts step tag net kids (On []) inputs v s) same (subst (λ z. MayStand facts step tag net kids (On []) inputs i z) is g.0.state)
  states-may i j (suc m) s (n ∷ ns) (r ∷ rs) e g h = states-may (suc i) j m s ns rs (omega (arith, e)) g.1 h

  states-counted : (i : ℕ) (ns : List ℕ) (rs : List (Reaction T S)) → ReactionsMay i ns rs → length (reaction_states rs) ≡ length ns
  states-counted i [] [] g = refl
  states-counted i [] (r ∷ rs) g = absurd g
  states-counted i (n ∷ ns) [] g = absurd g
  states-counted i (n ∷ ns) (r ∷ rs) g = ap (λ v. suc v) (states-counted (suc i) ns rs g.1)

  -- ---- the valuations

  unknowns-come : (b : ℕ) (cs : List Source) → AreKnownToCome b (unknowns cs)
  unknowns-come b [] q xs x k h = no-known xs k
  unknowns-come b (c ∷ cs) zero xs x k h = no-known xs k
  unknowns-come b (c ∷ cs) (suc q) xs x k h = let e : suc b + q ≡ b + suc q = omega arith in subst (λ v. MayCome facts step tag net kids (On []) inputs v x) e (unknowns-come (suc b) cs q xs x k h)

  sources-next : (b : ℕ) (c : Source) (cs : List Source) → AreSources facts step tag net kids (On []) inputs b (c ∷ cs) → AreSources facts step tag net kids (On []) inputs (suc b) cs
  sources-next b c cs a j s g = let e : suc b + j ≡ b + suc j = omega arith in ap (λ v. get net.sources v) e ∙ a (suc j) s g

  valued-comes : (rs : List (Reaction T S)) → ReactionsMay 0 net.places rs → (b : ℕ) (cs : List Source) → AreSources facts step tag net kids (On []) inputs b cs → AreKnownToCome b (valued rs inputs cs)
  valued-comes rs g b [] s q xs x k h = no-known xs k
  valued-comes rs g b (Own port ∷ cs) s zero xs x k h = given (b + 0) (Own port) x (s 0 (Own port) refl) (arrives port x (subst (λ ys. Has x ys) (sym (same-known (at inputs port) xs k)) h))
  valued-comes rs g b (Output child port ∷ cs) s zero xs x k h = given (b + 0) (Output child port) x (s 0 (Output child port) refl) (told-may 0 child child port xs x net.places rs (omega arith) g k h)
  valued-comes rs g b (c ∷ cs) s (suc q) xs x k h = let e : suc b + q ≡ b + suc q = omega arith in subst (λ v. MayCome facts step tag net kids (On []) inputs v x) e (valued-comes rs g (suc b) cs (sources-next b c cs s) q xs x k h)

  unknowns-length : (cs : List Source) → length (unknowns {T = T} cs) ≡ length cs
  unknowns-length [] = refl
  unknowns-length (c ∷ cs) = ap (λ n. suc n) (unknowns-length cs)

  valued-length : (rs : List (Reaction T S)) (cs : List Source) → length (valued rs inputs cs) ≡ length cs
  valued-length rs [] = refl
  valued-length rs (c ∷ cs) = ap (λ n. suc n) (valued-length rs cs)

  valuation-length : (k : ℕ) → length (valuation early active turn tag net kids inputs k) ≡ length net.sources
  unfolding valuation
  valuation-length zero = unknowns-length net.sources
  valuation-length (suc k) = valued-length (reactions early active turn tag net.places kids (valuation early active turn tag net kids inputs k)) net.sources

  module _ (counted : length kids ≡ length net.places) (room : total net.places ≤ length net.sources) where
    reactions-of : (k : ℕ) → AreKnownToCome 0 (valuation early active turn tag net kids inputs k) → ReactionsMay 0 net.places (reactions early active turn tag net.places kids (valuation early active turn tag net kids inputs k))
    reactions-of k a =
        reactions-may 0 0 net.places kids (valuation early active turn tag net kids inputs k) (begin-all facts step tag net kids (On []) inputs) counted (all-stand facts step tag net kids (On []) inputs) (omega (arith, room, valuation-length k)) a

    valuation-comes : (k : ℕ) → AreKnownToCome 0 (valuation early active turn tag net kids inputs k)
    unfolding valuation
    valuation-comes zero = unknowns-come 0 net.sources
    valuation-comes (suc k) = valued-comes (reactions early active turn tag net.places kids (valuation early active turn tag net kids inputs k)) (reactions-of k (valuation-comes k)) 0 net.sources (all-sources facts step tag net kids (On []) inputs)

    settled-moves : (b : Bool) (outputs : ℕ) (x : Inside (Streams T) S) (out : Streams T) (rs : List (Reaction T S)) (faults : List Fault) → ReactionsMay 0 net.places rs → MovedTo facts step tag net kids (On []) inputs On (KeepsChannels net []) outputs x out →
        OnlyMoves facts step tag net kids (On []) inputs On (KeepsChannels net []) outputs (if_settled b x out (log_below (reaction_logs rs)) faults)
    settled-moves true outputs x out rs faults g m = record { quiet = λ e h. absurd h; logged = λ i p e h. logs-may 0 i i p e net.places rs (omega arith) g h; done = m }
    settled-moves false outputs x out rs faults g m = record { quiet = λ e h. absurd h; logged = λ i p e h. logs-may 0 i i p e net.places rs (omega arith) g h; done = tt }

    pub tick-moves : (blame : List Fault) (k : ℕ) → OnlyMoves facts step tag net kids (On []) inputs On (KeepsChannels net []) (length (skip_places net.places net.sources)) (tick early active turn tag net blame kids inputs k)
    unfolding tick
    tick-moves blame k =
        let V = valuation early active turn tag net kids inputs k in
        let rs = reactions early active turn tag net.places kids V in
        let g = reactions-of k (valuation-comes k) in
        let least = is_least early active turn tag net kids inputs k in
        settled-moves (least && all_fired rs) (length (skip_places net.places net.sources)) (record { held = []; kids = reaction_states rs }) (tokens_of (skip net.places V)) rs
        (reaction_faults 0 rs ++ told_if (least && (all_free rs && not (all_fired rs))) blame) g
        record {
          kids_counted = states-counted 0 net.places rs g ∙ sym counted;
          stand = λ i s h. states-may 0 i i s net.places rs (omega arith) g h;
          kept = (omega arith, λ r. r);
          left = λ q x h. absurd h;
          outputs_counted = omega (arith, tokens-length (skip net.places V), skip-known-length net.places V (omega (arith, room, valuation-length k)), skip-length net.places net.sources room, valuation-length k);
          gave = λ port x h. let w = in-tokens (skip net.places V) port x h in
              let e : 0 + (total net.places + port) ≡ total net.places + port = omega arith in
              subst (λ c. MayCome facts step tag net kids (On []) inputs c x) e (valuation-comes k (total net.places + port) w.0 x (sym (partial-skip net.places V port) ∙ w.1) w.2);
        }
