-- The meetings that a composite's firing tells at its own path, by its director.
use Rattle.std.proofs.Common.{◌≡◌, ℕ, List, [], ◌∷◌, Bool, true, false, nat_eq, length, Option, Some, None, refl, sym, ap, subst, ◌∙◌}
use Rattle.pt_meaning.specs.Tag.{Tag, local}
use Rattle.pt_meaning.specs.Streams.{Streams, get, change_at}
use Rattle.pt_meaning.specs.Log.{Log, Event, Meeting, meetings_in, if_same, log_below, within_firing}
use Rattle.pt_meaning.specs.Machine.{Fault, Outcome, Done, Stuck, Stepping, Facts, recorded}
use Rattle.pt_meaning.specs.Net.{Net, Inside}
use Rattle.pt_meaning.specs.Kahn.{Leaving, kahn, if_settled}
use Rattle.pt_meaning.specs.Flow.{Flow}
use Rattle.pt_meaning.specs.Rounds.{Limit}
use Rattle.pt_meaning.specs.Valuation.{Activity, Earliness, tick}
use Rattle.pt_meaning.specs.Sdf.{sdf}
use Rattle.pt_meaning.specs.Pn.{pn}
use Rattle.pt_meaning.specs.Sr.{sr}
use Rattle.pt_meaning.specs.De.{de}
use Rattle.pt_meaning.specs.Modal.{Chart, Modes, Choice, Nothing, One, Wrong, Acted, Acts, Fails, chosen, taken, afterwards, put_state, on_refinement, at_refinement, with_refinement, preempted, modal, shown, unfired_outputs, below_number, picked, lag_of}
use Rattle.pt_meaning.specs.Rendezvous.{Places, opening, rv}
use Rattle.pt_meaning.specs.Children.{Child}
use Rattle.pt_meaning.specs.Tree.{Core, Sdf, Pn, Sr, De, Rv, Modal, Past, Node, Nodes, Composite, fired_at}
use Rattle.pt_meaning.specs.Step.{director}
use Rattle.pt_laws.specs.LogsOfRuns.{log_in}
use Rattle.pt_laws.proofs.CompositeLaws.{log-as-node}
use Rattle.pt_laws.proofs.FiringLaws.{done-within}
use Rattle.pt_meeting_laws.specs.There.{Extent, extent_of, AreOf}
use Rattle.pt_meeting_laws.proofs.Scenes.{as_events, Behind, seats-most, under-met}

-- ---- the other directors tell nothing there

settled-own : {T S : Type 0} (b : Bool) (x : Inside (Streams T) S) (out : Streams T) (ls : List (Log T)) (fs : List Fault) → log_in (if_settled b x out (log_below ls) fs) [] ≡ []
settled-own true x out ls fs = refl
settled-own false x out ls fs = refl

kahn-own : {T S : Type 0} (facts : Facts T S) (step : Stepping T S) (tag : Tag) (net : Net) (limits : List Limit) (enough : List (Flow T S) → Bool) (leaving : Leaving) (kids : List S) (X : Streams T) (k : ℕ) → log_in (kahn facts step tag net limits enough leaving kids X k) [] ≡ []
unfolding kahn
kahn-own facts step tag net limits enough leaving kids X k = settled-own _ _ _ _ _

tick-own : {T S : Type 0} (early : Earliness T S) (active : Activity T S) (turn : Stepping T S) (tag : Tag) (net : Net) (blame : List Fault) (kids : List S) (X : Streams T) (k : ℕ) → log_in (tick early active turn tag net blame kids X k) [] ≡ []
unfolding tick
tick-own early active turn tag net blame kids X k = settled-own _ _ _ _ _

module _ {T S : Type 0} (chart : Chart T) (facts : Facts T S) (step : Stepping T S) (made : ℕ) (tag : Tag) (m : Modes T) (inputs : Streams T) where
  taken-own : (early : Bool) (n : ℕ) (kids : List S) (l : Log T) → l [] ≡ [] → (a : Acted T) → log_in (taken chart facts step made tag early n m kids l a) [] ≡ []
  taken-own early n kids l h (Fails code) = h
  taken-own early n kids l h (Acts out values) = h

  after-own : (kids : List S) (out : Streams T) (l : Log T) → l [] ≡ [] → (c : Choice) → log_in (afterwards chart facts step made tag m kids inputs out l c) [] ≡ []
  after-own kids out l h Nothing = h
  after-own kids out l h (One n) = taken-own false n kids l h (chart.act false m.mode n m.values inputs out)
  after-own kids out l h (Wrong code) = h

  fired-own : (i : ℕ) (kids : List S) (r : Outcome T S) → log_in (on_refinement chart facts step made tag i m kids inputs r) [] ≡ []
  fired-own i kids (Stuck fs l) = refl
  fired-own i kids (Done s out l) =
      let given : Streams T = shown (chart.out_ports i) out in
      after-own (change_at i (put_state chart facts step s) kids) given (below_number i l) refl (chosen 0 (chart.others m.mode m.values inputs given))

  at-own : (i : ℕ) (kids : List S) (o : Option S) → log_in (at_refinement chart facts step made tag m kids inputs i o) [] ≡ []
  at-own i kids None = refl
  at-own i kids (Some s) =
      let within : Tag = local tag (lag_of m.stays i) in
      let got : Streams T = picked (chart.in_ports i) inputs in
      fired-own i kids (recorded (facts.made s) within got (step within s got))

  with-own : (kids : List S) (o : Option ℕ) → log_in (with_refinement chart facts step made tag m kids inputs o) [] ≡ []
  with-own kids None = after-own kids (unfired_outputs chart) (λ p. []) refl (chosen 0 (chart.others m.mode m.values inputs (unfired_outputs chart)))
  with-own kids (Some i) = at-own i kids (get kids i)

  preempted-own : (kids : List S) (c : Choice) → log_in (preempted chart facts step made tag m kids inputs c) [] ≡ []
  preempted-own kids Nothing = with-own kids (chart.refinement m.mode)
  preempted-own kids (One n) = taken-own true n kids (λ p. []) refl (chart.act true m.mode n m.values inputs (unfired_outputs chart))
  preempted-own kids (Wrong code) = refl

  modal-own : (kids : List S) → log_in (modal chart facts step made tag m kids inputs) [] ≡ []
  modal-own kids = preempted-own kids (chosen 0 (chart.preemptive m.mode m.values inputs))

-- ---- all directors

module _ {T A : Type 0} (facts : Facts T (Child (Node T A))) (step : Stepping T (Child (Node T A))) (k : ℕ) (ms : List Meeting) (tag : Tag) (h : Past) (c : Core T) (kids : List (Child (Node T A))) (X : Streams T) where
  nothing-own : {H : Type 0} (e : Option Extent) (core : H → Core T) (r : Outcome T (Inside H (Child (Node T A)))) → log_in r [] ≡ [] → (l : Log T) → l ≡ within_firing h.made (log_in r) → Behind e h.made ms [] (l [])
  nothing-own e core r quiet l g = record { made = []; first = tt; there = tt; is = ap (λ (v : Log T). v []) g ∙ quiet }

  pub director-own : (d : Core T) → Behind (extent_of d (length kids)) h.made ms [] (log_in (director facts step k ms tag h c d kids X) [])
  director-own (Sdf p Y) =
      let r : Outcome T (Inside (Streams T) (Child (Node T A))) = sdf facts step p k tag (record { held = Y; kids = kids }) X in
      nothing-own None (Sdf p) r (kahn-own facts step tag p.net _ _ _ kids _ k) _ (log-as-node tag h c (Sdf p) r)
  director-own (Pn p Y) =
      let r : Outcome T (Inside (Streams T) (Child (Node T A))) = pn facts step p k tag (record { held = Y; kids = kids }) X in
      nothing-own None (Pn p) r (kahn-own facts step tag p.net _ _ _ kids _ k) _ (log-as-node tag h c (Pn p) r)
  director-own (Sr p) =
      let r : Outcome T (Inside (Streams T) (Child (Node T A))) = sr facts step p k h.made tag kids X in
      nothing-own None (λ Y. Sr p) r (tick-own _ _ _ tag p.net _ kids X k) _ (log-as-node tag h c (λ Y. Sr p) r)
  director-own (De p) =
      let r : Outcome T (Inside (Streams T) (Child (Node T A))) = de facts step p k tag kids X in
      nothing-own None (λ Y. De p) r (tick-own _ _ _ tag p.net _ kids X k) _ (log-as-node tag h c (λ Y. De p) r)
  director-own (Rv p Y) =
      let r : Outcome T (Inside (Places T) (Child (Node T A))) = rv facts step p k h.made ms tag Y kids X in
      let o = under-met facts step tag p.net k h.made (length kids) ms (opening p Y kids X) (seats-most p.barriers Y.got Y.puts kids) in
      record { made = o.made; first = o.first; there = o.there; is = ap (λ (v : Log T). v []) (log-as-node tag h c (Rv p) r) ∙ o.is }
  director-own (Modal chart n) =
      let r : Outcome T (Inside (Modes T) (Child (Node T A))) = modal chart facts step h.made tag n kids X in
      nothing-own None (Modal chart) r (modal-own chart facts step h.made tag n X kids) _ (log-as-node tag h c (Modal chart) r)

  -- what it holds where it is done, of the same extent
  pub record CoreAfter (d : Core T) (z : Node T A) : Type 0 where
    pub core : Core T
    pub kids_now : Nodes T A
    pub state : z ≡ Composite (fired_at tag h) c core kids_now
    pub same : (n : ℕ) → extent_of core n ≡ extent_of d n

  pub director-core : (d : Core T) (z : Node T A) (out : Streams T) (l : Log T) → director facts step k ms tag h c d kids X ≡ Done z out l → CoreAfter d z
  director-core (Sdf p Y) z out l e = let y = done-within tag h c (Sdf p) _ z out l e in record { core = Sdf p y.inside.held; kids_now = _; state = y.state; same = λ n. refl }
  director-core (Pn p Y) z out l e = let y = done-within tag h c (Pn p) _ z out l e in record { core = Pn p y.inside.held; kids_now = _; state = y.state; same = λ n. refl }
  director-core (Sr p) z out l e = let y = done-within tag h c (λ Y. Sr p) _ z out l e in record { core = Sr p; kids_now = _; state = y.state; same = λ n. refl }
  director-core (De p) z out l e = let y = done-within tag h c (λ Y. De p) _ z out l e in record { core = De p; kids_now = _; state = y.state; same = λ n. refl }
  director-core (Rv p Y) z out l e = let y = done-within tag h c (Rv p) _ z out l e in record { core = Rv p y.inside.held; kids_now = _; state = y.state; same = λ n. refl }
  director-core (Modal chart n) z out l e = let y = done-within tag h c (Modal chart) _ z out l e in record { core = Modal chart y.inside.held; kids_now = _; state = y.state; same = λ n. refl }

-- ---- of each firing

abbrev kept_if : Bool → List Meeting → List Meeting
kept_if true ms = ms
kept_if false ms = []

none-kept : (b : Bool) → kept_if b [] ≡ []
none-kept true = refl
none-kept false = refl

one-kept : (b : Bool) (m : Meeting) (ms : List Meeting) → if_same b m (kept_if b ms) ≡ kept_if b (m ∷ ms)
one-kept true m ms = refl
one-kept false m ms = refl

in-events : (T : Type 0) (n j : ℕ) (ms : List Meeting) → meetings_in j (as_events {T = T} n ms) ≡ kept_if (nat_eq n j) ms
in-events T n j [] = sym (none-kept (nat_eq n j))
in-events T n j (m ∷ ms) = ap (λ v. if_same (nat_eq n j) m v) (in-events T n j ms) ∙ one-kept (nat_eq n j) m ms

pub own-there : {T : Type 0} (x : Option Extent) (n : ℕ) (es : List (Event T)) (ms : List Meeting) → Behind x n ms [] es → (j : ℕ) → AreOf x (meetings_in j es)
own-there {T} x n es ms h j = subst (λ v. AreOf x v) (sym (ap (λ v. meetings_in j v) h.is ∙ in-events T n j h.made)) (by_test (nat_eq n j))
  where
    by_test : (b : Bool) → AreOf x (kept_if b h.made)
    by_test true = h.there
    by_test false = tt
