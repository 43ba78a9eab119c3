-- What a firing of a composite logs at the composite's own path: under Rendezvous a beginning of the meetings that are given for it, and nothing under the other directors.
use Rattle.std.proofs.Common.{◌≡◌, ℕ, List, [], ◌∷◌, ◌++◌, Bool, true, false, ◌&&◌, nat_eq, Option, Some, None, refl, sym, ap, subst, ◌∙◌, append-nil, append_assoc, arith}
use Rattle.std.proofs.lemmas.Bool.Decides.{nat_tests}
use Rattle.pt_meaning.specs.Basics.{Tag, Streams, Log, Event, Met, Meeting, silent, log_below, meetings_in}
use Rattle.pt_meaning.specs.Log.{if_same}
use Rattle.pt_meaning.specs.Streams.{IsPrefix, get}
use Rattle.pt_meaning.specs.Machine.{Fault, Outcome, Done, Stuck, Stepping, Facts, causality_code}
use Rattle.pt_meaning.specs.Net.{Source, Own, Output, Net, Inside}
use Rattle.pt_meaning.specs.Kahn.{Leaving, arrived, if_settled, firing, kahn}
use Rattle.pt_meaning.specs.Kahn as dataflow
use Rattle.pt_meaning.specs.Rounds.{Limit, round, flows}
use Rattle.pt_meaning.specs.Flow.{Flow}
use Rattle.pt_meaning.specs.Tick.{Activity, Earliness, tick, sr_active, sr_turn, sr, de_early, de_active, de_turn, de}
use Rattle.pt_meaning.specs.Sdf.{SdfPlan, iterations, sdf_limits, fired_all, leaving, sdf}
use Rattle.pt_meaning.specs.Pn.{PnPlan, pn_limits, always, all_leave, pn}
use Rattle.pt_meaning.specs.Modal.{Chart, Modes, Choice, Nothing, One, Wrong, Acted, Acts, Fails, modal, preempted, with_refinement, at_refinement, on_refinement, afterwards, taken, chosen, change_at, below_number, shown, put_state}
use Rattle.pt_meaning.specs.Meetings.{Scene, Target, Place, Outlet, Hop, hops_in, offers, is_legal, sent, received, passed, meet}
use Rattle.pt_meaning.specs.Rendezvous as rendezvous
use Rattle.pt_meaning.specs.Rendezvous.{RvPlan, Places, rv, under_meetings, opening, if_ended, if_meets}
use Rattle.pt_meaning.specs.Children.{Child, child_facts, numbered}
use Rattle.pt_meaning.specs.Tree.{Rows, Core, Sdf, Pn, Sr, De, Rv, Modal, Past, Node, Nodes, list_of}
use Rattle.pt_meaning.specs.NodeFacts.{facts_of}
use Rattle.pt_meaning.specs.Step.{as_node, director}
use Rattle.pt_laws.specs.LogsOfRuns.{log_in}
use Rattle.pt_laws.proofs.CompositeLaws.{log-as-node}

-- meetings of the firing of that number
abbrev pub met_events : {T : Type 0} → ℕ → List Meeting → List (Event T)
met_events n [] = []
met_events n (m ∷ ms) = Met [] n m ∷ met_events n ms

-- these are the first of those given
abbrev pub AreFirst : {T : Type 0} → ℕ → List Meeting → List (Event T) → Type 0
AreFirst n ms es = (js : List Meeting) × (es ≡ met_events n js) × IsPrefix js ms

-- read off by the number of a firing
same-number : (n : ℕ) → nat_eq n n ≡ true
same-number n = grind (arith, nat_tests)

in-these : (T : Type 0) (n : ℕ) (js : List Meeting) → meetings_in {T = T} n (met_events n js) ≡ js
in-these T n [] = refl
in-these T n (m ∷ js) = subst (λ b. if_same b m (meetings_in {T = T} n (met_events n js)) ≡ m ∷ js) (sym (same-number n)) (ap (λ v. m ∷ v) (in-these T n js))

in-others : (T : Type 0) (n i : ℕ) (js : List Meeting) → nat_eq n i ≡ false → meetings_in {T = T} i (met_events n js) ≡ []
in-others T n i [] e = refl
in-others T n i (m ∷ js) e = subst (λ b. if_same b m (meetings_in {T = T} i (met_events n js)) ≡ []) (sym e) (in-others T n i js e)

pub first-own : {T : Type 0} (n : ℕ) (ms : List Meeting) (es : List (Event T)) → AreFirst n ms es → IsPrefix (meetings_in n es) ms
first-own {T} n ms es h = subst (λ v. IsPrefix v ms) (sym (ap (λ v. meetings_in n v) h.1 ∙ in-these T n h.0)) h.2

pub first-others : {T : Type 0} (n i : ℕ) (ms : List Meeting) (es : List (Event T)) → AreFirst n ms es → nat_eq n i ≡ false → meetings_in i es ≡ []
first-others {T} n i ms es h e = ap (λ v. meetings_in i v) h.1 ∙ in-others T n i h.0 e

-- ---- dataflow

kahn-own : {T S : Type 0} (facts : Facts T S) (step : Stepping T S) (tag : Tag) (net : Net) (limits : List Limit) (enough : List (Flow T S) → Bool) (leaving : Leaving) (kids : List S) (X : Streams T) (k : ℕ) → log_in (kahn facts step tag net limits enough leaving kids X k) [] ≡ []
unfolding kahn
kahn-own {T} {S} facts step tag net limits enough leaving kids X k =
    let Y = round facts step tag net limits kids X k in
    let fs = flows facts step tag net.places limits k kids Y in
    by_settled (dataflow.settled facts step tag net limits kids X k && enough fs) fs Y
  where
    by_settled : (b : Bool) (fs : List (Flow T S)) (Y : Streams T) → log_in (firing b leaving net.places fs Y) [] ≡ []
    by_settled true fs Y = refl
    by_settled false fs Y = refl

-- ---- ticks

tick-own : {T S : Type 0} (early : Earliness T S) (active : Activity T S) (turn : Stepping T S) (tag : Tag) (net : Net) (blame : List Fault) (kids : List S) (X : Streams T) (k : ℕ) → log_in (tick early active turn tag net blame kids X k) [] ≡ []
unfolding tick
tick-own {T} {S} early active turn tag net blame kids X k = by_settled _ _ _ _ _
  where
    by_settled : (b : Bool) (x : Inside (Streams T) S) (out : Streams T) (ls : List (Log T)) (fs : List Fault) → log_in (if_settled b x out (log_below ls) fs) [] ≡ []
    by_settled true x out ls fs = refl
    by_settled false x out ls fs = refl

-- ---- Modal

module _ {T S : Type 0} (chart : Chart T) (facts : Facts T S) (step : Stepping T S) (made : ℕ) (tag : Tag) (m : Modes T) (inputs : Streams T) where
  abbrev NoneOwn : Outcome T (Inside (Modes T) S) → Type 0
  NoneOwn r = log_in r [] ≡ []

  taken-own : (early : Bool) (n : ℕ) (kids : List S) (l : Log T) → l [] ≡ [] → (a : Acted T) → NoneOwn (taken chart facts step made tag early n m kids l a)
  taken-own early n kids l e (Fails code) = e
  taken-own early n kids l e (Acts out values) = e

  after-own : (kids : List S) (out : Streams T) (l : Log T) → l [] ≡ [] → (c : Choice) → NoneOwn (afterwards chart facts step made tag m kids inputs out l c)
  after-own kids out l e Nothing = e
  after-own kids out l e (One n) = taken-own false n kids l e (chart.act false m.mode n m.values inputs out)
  after-own kids out l e (Wrong code) = e

  fired-own : (i : ℕ) (kids : List S) (r : Outcome T S) → NoneOwn (on_refinement chart facts step made tag i m kids inputs r)
  fired-own i kids (Stuck fs l) = refl
  fired-own i kids (Done s out l) = let given : Streams T = shown (chart.out_ports i) out in after-own (change_at i (put_state chart facts step s) kids) given (below_number i l) refl (chosen 0 (chart.others m.mode m.values inputs given))

  at-own : (i : ℕ) (kids : List S) (o : Option S) → NoneOwn (at_refinement chart facts step made tag m kids inputs i o)
  at-own i kids None = refl
  at-own i kids (Some s) = fired-own i kids _

  with-own : (kids : List S) (o : Option ℕ) → NoneOwn (with_refinement chart facts step made tag m kids inputs o)
  with-own kids None = after-own kids _ silent refl _
  with-own kids (Some i) = at-own i kids (get kids i)

  preempted-own : (kids : List S) (c : Choice) → NoneOwn (preempted chart facts step made tag m kids inputs c)
  preempted-own kids Nothing = with-own kids (chart.refinement m.mode)
  preempted-own kids (One n) = taken-own true n kids silent refl _
  preempted-own kids (Wrong code) = refl

  modal-own : (kids : List S) → NoneOwn (modal chart facts step made tag m kids inputs)
  modal-own kids = preempted-own kids _

-- ---- Rendezvous

-- only the meeting itself is noted
sent-met : {T S : Type 0} (o : Option Source) (sc : Scene T S) → (sent o sc).met ≡ sc.met
sent-met None sc = refl
sent-met (Some (Own j)) sc = refl
sent-met (Some (Output i p)) sc = refl

received-met : {T S : Type 0} (x : T) (t : Target) (sc : Scene T S) → (received x t sc).met ≡ sc.met
received-met x (Place i q) sc = refl
received-met x (Outlet o) sc = refl

passed-met : {T S : Type 0} (net : Net) (hs : List Hop) (xs : List (Option T)) (sc : Scene T S) → (passed net hs xs sc).met ≡ sc.met
passed-met net [] xs sc = refl
passed-met net (h ∷ hs) [] sc = refl
passed-met net (h ∷ hs) (None ∷ xs) sc = refl
passed-met net (h ∷ hs) (Some x ∷ xs) sc = passed-met net hs xs (received x h.target (sent (get net.sources h.channel) sc)) ∙ received-met x h.target (sent (get net.sources h.channel) sc) ∙ sent-met (get net.sources h.channel) sc

ended-met : {T S : Type 0} (b : Bool) (sc : Scene T S) → log_in (if_ended b sc) [] ≡ sc.met
ended-met true sc = refl
ended-met false sc = refl

module _ {T S : Type 0} (facts : Facts T S) (step : Stepping T S) (tag : Tag) (net : Net) (k n : ℕ) where
  abbrev settled : Scene T S → Scene T S
  settled z = rendezvous.settled facts step tag net k n z

  abbrev Noted : List Meeting → Scene T S → Outcome T (Inside (Places T) S) → Type 0
  Noted ms sc r = (js : List Meeting) × (log_in r [] ≡ sc.met ++ met_events n js) × IsPrefix js ms

  under-own : (ms : List Meeting) (sc : Scene T S) → Noted ms sc (under_meetings facts step tag net k n ms sc)
  unfolding under_meetings
  under-own [] sc = ([], ended-met _ _ ∙ sym (append-nil sc.met), tt)
  under-own (m ∷ ms) sc = go (is_legal facts net (settled sc) m) (λ z. under-own ms z)
    where
      go : (b : Bool) → ((z : Scene T S) → Noted ms z (under_meetings facts step tag net k n ms z)) → Noted (m ∷ ms) sc (if_meets facts step tag net k n b (under_meetings facts step tag net k n ms) m (settled sc))
      go true ih =
          let z : Scene T S = meet net n m (settled sc) in
          let r = ih z in
          let more : z.met ≡ sc.met ++ (Met [] n m ∷ []) = ap (λ v. v ++ (Met [] n m ∷ [])) (passed-met net (hops_in net m) (offers net (settled sc) (hops_in net m)) (settled sc)) in
          (m ∷ r.0, r.1 ∙ ap (λ v. v ++ met_events n r.0) more ∙ append_assoc sc.met (Met [] n m ∷ []) (met_events n r.0), (refl, r.2))
      go false ih = ([], ended-met false (settled sc) ∙ sym (append-nil sc.met), tt)

-- ---- each director

module _ {T A : Type 0} (rows : Rows T A) (step : Stepping T (Child (Node T A))) (k : ℕ) (ms : List Meeting) (tag : Tag) (h : Past) (c : Core T) (kids : Nodes T A) (inputs : Streams T) where
  abbrev facts : Facts T (Child (Node T A))
  facts = child_facts (facts_of rows)

  abbrev its : List (Child (Node T A))
  its = numbered 0 (list_of kids)

  -- as the composite's own
  as-own : {H : Type 0} (core : H → Core T) (r : Outcome T (Inside H (Child (Node T A)))) → log_in (as_node tag h c core r) [] ≡ log_in r []
  as-own core r = ap (λ (v : Log T). v []) (log-as-node tag h c core r)

  sdf-own : (p : SdfPlan) (X : Streams T) → log_in (sdf facts step p k tag (record { held = X; kids = its }) inputs) [] ≡ []
  sdf-own p X =
      let Y : Streams T = arrived p.net.sources inputs X in
      let m : ℕ = iterations p Y in
      kahn-own facts step tag p.net (sdf_limits m p.repetitions p.rates) (fired_all m p.repetitions) (leaving m p) its Y k

  pn-own : (p : PnPlan) (X : Streams T) → log_in (pn facts step p k tag (record { held = X; kids = its }) inputs) [] ≡ []
  pn-own p X = kahn-own facts step tag p.net (pn_limits p.net.places) always all_leave its (arrived p.net.sources inputs X) k

  pub director-own : (e : Core T) → AreFirst h.made ms (log_in (director facts step k ms tag h c e its inputs) [])
  director-own (Sdf p X) = ([], as-own (Sdf p) (sdf facts step p k tag (record { held = X; kids = its }) inputs) ∙ sdf-own p X, tt)
  director-own (Pn p X) = ([], as-own (Pn p) (pn facts step p k tag (record { held = X; kids = its }) inputs) ∙ pn-own p X, tt)
  director-own (Sr p) = ([], as-own {H = Streams T} (λ X. Sr p) (sr facts step p k h.made tag its inputs) ∙ tick-own facts.early sr_active (sr_turn facts step) tag p.net (record { path = []; firing = h.made; code = causality_code } ∷ []) its inputs k, tt)
  director-own (De p) = ([], as-own {H = Streams T} (λ X. De p) (de facts step p k tag its inputs) ∙ tick-own (de_early facts) (de_active facts) (de_turn facts step) tag p.net [] its inputs k, tt)
  director-own (Rv p X) = let r = under-own facts step tag p.net k h.made ms (opening p X its inputs) in (r.0, as-own (Rv p) (rv facts step p k h.made ms tag X its inputs) ∙ r.1, r.2)
  director-own (Modal chart m) = ([], as-own (Modal chart) (modal chart facts step h.made tag m its inputs) ∙ modal-own chart facts step h.made tag m inputs its, tt)
