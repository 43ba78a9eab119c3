-- A firing of a typed tree keeps to the kinds of its nodes, and so does the meaning of a job: it asks of each director only that it moves tokens.
use Rattle.std.proofs.Common.{◌≡◌, ℕ, zero, suc, ◌≤◌, List, [], ◌∷◌, length, Some, refl, sym, ap, subst, arith, ◌∙◌, length-append}
use Rattle.std.specs.List.{AllByRecursion}
use Rattle.pt_meaning.specs.Basics.{Tag, Streams, Log, Meeting, Event, Finished, Met, own, all_marked, within_firing}
use Rattle.pt_meaning.specs.Machine.{Outcome, Done, Stuck, Stepping, Facts, Partial, recorded}
use Rattle.pt_meaning.specs.Net.{Inside, Net}
use Rattle.pt_meaning.specs.Running.{total}
use Rattle.pt_meaning.specs.Kahn.{skip_places}
use Rattle.pt_meaning.specs.Sdf.{unfed, sdf}
use Rattle.pt_meaning.specs.Pn.{pn}
use Rattle.pt_meaning.specs.Sr.{sr}
use Rattle.pt_meaning.specs.De.{de}
use Rattle.pt_meaning.specs.Rendezvous.{rv}
use Rattle.pt_meaning.specs.Modal.{Chart, Modes, modal}
use Rattle.pt_meaning.specs.Streams.{get}
use Rattle.pt_meaning.specs.Meetings.{Meets, below_child}
use Rattle.pt_meaning.specs.Children.{Child, numbered, nodes, child_facts, with_number, child_step}
use Rattle.pt_meaning.specs.Node.{Rows, Core, Sdf, Pn, Sr, De, Rv, Modal, Past, Answer, Gives, Fails, Node, Nodes, Actor, Composite, none, more, list_of, nodes_of, reset_of, reset_all, early_of, facts_of, as_node, director, step_at, actor_outcome, made_of, height, Step}
use Rattle.pt_meaning.specs.Job.{Schedule, Turn, Fire, Ends, Limit as AtLimit, Course, Standing, Goes, Ended, Halted, on_step, on_turn, goes_on, after, log_of, begin}
use Rattle.pt_laws.specs.LogsOfRuns.{log_in}
use Rattle.pt_kinds.specs.Moves.{On, OnlyMoves}
use Rattle.pt_kinds.specs.Directors.{KeepsChannels, InPlaces, IsSeated, DirectorsOnlyMove}
use Rattle.pt_kinds.specs.Signature.{Signature, Signatures, below, AreOf, AreAllOf, AreKnownOf, AreAllKnownOf, IsTypedEvent, IsTypedLog}
use Rattle.pt_kinds.specs.TypedTree.{kinds_from, kinds_at, kinds_in, IsTypedNet, IsTypedModal, IsTypedCore, IsTypedNode, AreTypedNodes}
use Rattle.pt_kinds.specs.TypedRuns.{ActorsKeepKinds, KindsWiden, IsTypedOutcome, StepsKeepKinds, AreTypedTurns, MeaningKeepsKinds}
use Rattle.pt_kinds.proofs.StreamLaws.{on-of, of-count, each-of}
use Rattle.pt_kinds.proofs.RoundMoves.{skip-length}
use Rattle.pt_kinds.proofs.KindLaws.{GoodOutcome, KeepsKinds, typed-silent, typed-then, typed-own, AreGood, kinds-counted, sources-counted, inside-typed, logs-typed}
use Rattle.pt_kinds.proofs.ModalKinds.{IsGoodReaction, modal-good}
use Rattle.pt_kinds.proofs.DirectorLaws.{directors-move}

module _ {T K A : Type 0} (Has : K → T → Type 0) (Below : K → K → Type 0) (Fits : Signature K → A → Type 0) (rows : Rows T A) (widens : KindsWiden {T = T} {K = K} {A = A} Has Below Fits rows) (acts : ActorsKeepKinds Has Below Fits rows) where
  -- a child is of its number, and typed below it
  abbrev GoodChild : Signatures K → ℕ → Child (Node T A) → Type 0
  GoodChild sigs i c = (c.number ≡ i) × IsTypedNode Has Below Fits (below sigs i) c.node

  numbered-good : (sigs : Signatures K) (i : ℕ) (kids : Nodes T A) → AreTypedNodes Has Below Fits sigs i kids → AreGood {A = A} Has Below Fits widens sigs (GoodChild sigs) i (numbered i (list_of kids))
  numbered-good sigs i none t = tt
  numbered-good sigs i (more n ns) t = ((refl, t.0), numbered-good sigs (suc i) ns t.1)

  nodes-typed : (sigs : Signatures K) (i : ℕ) (cs : List (Child (Node T A))) → AreGood {A = A} Has Below Fits widens sigs (GoodChild sigs) i cs → AreTypedNodes Has Below Fits sigs i (nodes_of (nodes cs))
  nodes-typed sigs i [] g = tt
  nodes-typed sigs i (c ∷ cs) g = (g.0.1, nodes-typed sigs (suc i) cs g.1)

  -- a reset brings back a typed node
  reset-length : (kids : Nodes T A) → length (list_of (reset_all kids)) ≡ length (list_of kids)
  reset-length none = refl
  reset-length (more n ns) = ap (λ v. suc v) (reset-length ns)

  mutual
    reset-typed : (sigs : Signatures K) (node : Node T A) → IsTypedNode Has Below Fits sigs node → IsTypedNode Has Below Fits sigs (reset_of node)
    reset-typed sigs (Actor h a b) t = (t.0, t.0)
    reset-typed sigs (Composite h c d kids) t =
        let start = subst (λ n. IsTypedCore {A = A} Has Below Fits sigs n c) (sym (reset-length kids)) t.0 in
        (start, start, resets-typed sigs 0 kids t.2)

    resets-typed : (sigs : Signatures K) (i : ℕ) (kids : Nodes T A) → AreTypedNodes Has Below Fits sigs i kids → AreTypedNodes Has Below Fits sigs i (reset_all kids)
    resets-typed sigs i none t = tt
    resets-typed sigs i (more n ns) t = (reset-typed (below sigs i) n t.0, resets-typed sigs (suc i) ns t.1)

  child-reset : (sigs : Signatures K) (i : ℕ) (c : Child (Node T A)) → GoodChild sigs i c → GoodChild sigs i ((child_facts {T = T} (facts_of rows)).reset c)
  child-reset sigs i c g = (g.0, reset-typed (below sigs i) c.node g.1)

  numbered-length : {S : Type 0} (i : ℕ) (ss : List S) → length (numbered i ss) ≡ length ss
  numbered-length i [] = refl
  numbered-length i (s ∷ ss) = ap (λ v. suc v) (numbered-length (suc i) ss)

  nodes-length : (ss : List (Child (Node T A))) → length (list_of (nodes_of (nodes ss))) ≡ length ss
  nodes-length [] = refl
  nodes-length (s ∷ ss) = ap (λ v. suc v) (nodes-length ss)

  -- marks of firings change nothing here
  marked-typed : (s : Signature K) (n : ℕ) (es : List (Event T)) → AllByRecursion (IsTypedEvent Has s) es → AllByRecursion (IsTypedEvent Has s) (all_marked n es)
  marked-typed s n [] t = tt
  marked-typed s n (Finished within f ∷ es) t = (t.0, marked-typed s n es t.1)
  marked-typed s n (Met within i m ∷ es) t = (tt, marked-typed s n es t.1)

  within-typed : (sigs : Signatures K) (n : ℕ) (l : Log T) → IsTypedLog Has sigs l → IsTypedLog Has sigs (within_firing n l)
  within-typed sigs n l t [] = t []
  within-typed sigs n l t (i ∷ p) = marked-typed (sigs (i ∷ p)) n (l (i ∷ p)) (t (i ∷ p))

  numbered-outcome : (sigs : Signatures K) (i j : ℕ) (r : Outcome T (Node T A)) → j ≡ i → IsTypedOutcome Has Below Fits rows (below sigs i) r → GoodOutcome Has (below sigs i) (GoodChild sigs i) (with_number j r)
  numbered-outcome sigs i j (Done s out l) e t = ((e, t.0), t.1, t.2)
  numbered-outcome sigs i j (Stuck fs l) e t = t

  -- what a node gives early is of its kinds: a composite gives nothing so
  node-tells : (sigs : Signatures K) (tag : Tag) (node : Node T A) (vs : List (Partial T)) → IsTypedNode Has Below Fits sigs node → AreAllKnownOf Has (sigs []).places vs → AreKnownOf Has (sigs []).outputs (early_of rows tag node vs)
  node-tells sigs tag (Actor h a b) vs t k = acts.tells (sigs []) b tag vs t.1 k
  node-tells sigs tag (Composite h c d kids) vs t k = tt

  counted-net : (sigs : Signatures K) (m n : ℕ) (net : Net) (ends : List K) → m ≡ n → IsTypedNet {A = A} Has Below Fits sigs m net ends → IsTypedNet {A = A} Has Below Fits sigs n net ends
  counted-net sigs m n net ends e t = record { places_counted = t.places_counted ∙ e; sized = t.sized; fed = t.fed }

  -- the firing of a composite whose children keep to their kinds
  module _ (sigs : Signatures K) (step : Stepping T (Child (Node T A))) (keeps : (i : ℕ) → KeepsKinds Has (below sigs i) (GoodChild sigs i) step) (tag : Tag) (h : Past) (c : Core T) (kids : Nodes T A) (b : IsTypedCore Has Below Fits sigs (length (list_of kids)) c) (s : AreTypedNodes Has Below Fits sigs 0 kids) (inputs : Streams T) (a : AreAllOf Has (sigs []).places inputs) where
    abbrev its : List (Child (Node T A))
    its = numbered 0 (list_of kids)

    abbrev its-facts : Facts T (Child (Node T A))
    its-facts = child_facts (facts_of rows)

    its-count : length its ≡ length (list_of kids)
    its-count = numbered-length 0 (list_of kids)

    its-tell : (i : ℕ) (k : Child (Node T A)) (vs : List (Partial T)) → GoodChild sigs i k → AreAllKnownOf Has (sigs (i ∷ [])).places vs → AreKnownOf Has (sigs (i ∷ [])).outputs (its-facts.early tag k vs)
    its-tell i k vs g v = node-tells (below sigs i) tag k.node vs g.1 v

    -- the start stays typed, as there are as many children
    started : (ks : List (Child (Node T A))) → length (list_of (nodes_of (nodes ks))) ≡ length (list_of kids) → IsTypedCore {A = A} Has Below Fits sigs (length (list_of (nodes_of (nodes ks)))) c
    started ks e = subst (λ n. IsTypedCore {A = A} Has Below Fits sigs n c) (sym e) b

    -- what is typed on a net of which each channel has this kind
    abbrev OfKinds : Net → List K → ((channel : ℕ) → T → Type 0) → Type 0
    OfKinds net ends Stands = (n : ℕ) (k : K) (x : T) → Stands n x → get (kinds_from sigs ends 0 net.places) n ≡ Some k → Has k x

    module _ {H : Type 0} (net : Net) (ends : List K) (Stood : (channel : ℕ) → T → Type 0) (After : H → (channel : ℕ) → T → Type 0) (IsKept : H → Type 0) (t : IsTypedNet {A = A} Has Below Fits sigs (length (list_of kids)) net ends) (of : OfKinds net ends Stood) (outputs : ℕ) (few : outputs ≤ length (sigs []).outputs) (core : H → Core T)
        (stays : (n : ℕ) (Y : H) → n ≡ length (list_of kids) → IsTypedNet {A = A} Has Below Fits sigs n net ends → IsKept Y → OfKinds net ends (After Y) → IsTypedCore {A = A} Has Below Fits sigs n (core Y)) where
      its-net : IsTypedNet {A = A} Has Below Fits sigs (length its) net ends
      its-net = counted-net sigs (length (list_of kids)) (length its) net ends (sym its-count) t

      its-log : (r : Outcome T (Inside H (Child (Node T A)))) → OnlyMoves its-facts step tag net its Stood inputs After IsKept outputs r → IsTypedLog Has sigs (log_in r)
      its-log r m = logs-typed {A = A} Has Below Fits widens sigs (GoodChild sigs) its-facts step tag keeps its-tell net its Stood inputs ends its-net (numbered-good sigs 0 kids s) a.1 of After IsKept outputs r m

      moved-typed : (r : Outcome T (Inside H (Child (Node T A)))) → OnlyMoves its-facts step tag net its Stood inputs After IsKept outputs r → IsTypedOutcome Has Below Fits rows sigs (as_node tag h c core r)
      moved-typed (Done x out l) m =
          let g = inside-typed {A = A} Has Below Fits widens sigs (GoodChild sigs) its-facts step tag keeps its-tell net its Stood inputs ends its-net (numbered-good sigs 0 kids s) a.1 of After IsKept outputs few x out m.done in
          let same : length (list_of (nodes_of (nodes x.kids))) ≡ length (list_of kids) = nodes-length x.kids ∙ g.kids_counted ∙ its-count in (
            (
              started x.kids same,
              stays (length (list_of (nodes_of (nodes x.kids)))) x.held same (counted-net sigs (length (list_of kids)) (length (list_of (nodes_of (nodes x.kids)))) net ends (sym same) t) g.kept g.left_of,
              nodes-typed sigs 0 x.kids g.kids_good,
            ),
            g.gave_of,
            within-typed sigs h.made l (its-log (Done x out l) m),
          )
      moved-typed (Stuck fs l) m = within-typed sigs h.made l (its-log (Stuck fs l) m)

    -- the channels of SDF and PN, and those of the others
    kept-of : (net : Net) (ends : List K) (X Y : Streams T) → AreOf Has (kinds_from sigs ends 0 net.places) X → KeepsChannels net X Y → OfKinds net ends (On Y) → AreOf Has (kinds_from sigs ends 0 net.places) Y
    kept-of net ends X Y b kept left = each-of Has (kinds_from sigs ends 0 net.places) Y (omega (arith, kept.0, of-count Has (kinds_from sigs ends 0 net.places) X b)) (λ n k x e h. left n k x h e)

    net-room : (net : Net) → IsTypedNet {A = A} Has Below Fits sigs (length (list_of kids)) net [] → total net.places ≤ length net.sources
    net-room net t = omega (arith, sources-counted {A = A} Has Below Fits widens sigs (GoodChild sigs) (length (list_of kids)) net [] t)

    net-outputs : (net : Net) → IsTypedNet {A = A} Has Below Fits sigs (length (list_of kids)) net [] → length (skip_places net.places net.sources) ≤ length (sigs []).outputs
    net-outputs net t = omega (arith, sources-counted {A = A} Has Below Fits widens sigs (GoodChild sigs) (length (list_of kids)) net [] t, skip-length net.places net.sources (net-room net t))

    pn-outputs : (net : Net) (X : Streams T) → IsTypedNet {A = A} Has Below Fits sigs (length (list_of kids)) net [] → total net.places ≤ length X → AreOf Has (kinds_from sigs [] 0 net.places) X → length (skip_places net.places X) ≤ length (sigs []).outputs
    pn-outputs net X t room held = omega (arith, skip-length net.places X room, of-count Has (kinds_from sigs [] 0 net.places) X held, kinds-counted sigs [] 0 net.places t.sized, length-append (sigs []).outputs [])

    abbrev moves : DirectorsOnlyMove T (Child (Node T A))
    moves = directors-move T (Child (Node T A))

    -- the reaction of a Modal
    module _ (chart : Chart T) (m : Modes T) (t : IsTypedModal {A = A} Has Below Fits sigs (length (list_of kids)) chart m) where
      abbrev GoodReaction : Outcome T (Inside (Modes T) (Child (Node T A))) → Type 0
      GoodReaction r = IsGoodReaction {A = A} Has Below Fits widens sigs (GoodChild sigs) its-facts step keeps (child-reset sigs) chart (length (list_of kids)) m t r

      reaction-typed : (r : Outcome T (Inside (Modes T) (Child (Node T A)))) → GoodReaction r → IsTypedOutcome Has Below Fits rows sigs (as_node tag h c (Modal chart) r)
      reaction-typed (Done x out l) g =
          let same : length (list_of (nodes_of (nodes x.kids))) ≡ length (list_of kids) = nodes-length x.kids ∙ g.0 in
          let typed : IsTypedModal {A = A} Has Below Fits sigs (length (list_of kids)) chart x.held = record { variables = t.variables; held = g.2; outputs_counted = t.outputs_counted; refinements = t.refinements; acts = t.acts } in (
            (
              started x.kids same,
              subst (λ n. IsTypedModal {A = A} Has Below Fits sigs n chart x.held) (sym same) typed,
              nodes-typed sigs 0 x.kids g.1,
            ),
            g.3,
            within-typed sigs h.made l g.4,
          )
      reaction-typed (Stuck fs l) g = within-typed sigs h.made l g

      modal-typed : IsTypedOutcome Has Below Fits rows sigs (as_node tag h c (Modal chart) (modal chart its-facts step h.made tag m its inputs))
      modal-typed =
          reaction-typed (modal chart its-facts step h.made tag m its inputs)
          (modal-good {A = A} Has Below Fits widens sigs (GoodChild sigs) its-facts step keeps (child-reset sigs) chart (length (list_of kids)) m t h.made tag inputs a m t.held its its-count (numbered-good sigs 0 kids s))

    director-typed : (k : ℕ) (ms : List Meeting) (d : Core T) → IsTypedCore Has Below Fits sigs (length (list_of kids)) d → IsTypedOutcome Has Below Fits rows sigs (director its-facts step k ms tag h c d its inputs)
    director-typed k ms (Sdf p X) t =
        moved-typed p.net (kinds_at sigs (unfed p)) (On X) On (KeepsChannels p.net X) t.typed_net (on-of Has (kinds_in sigs p) X t.held) (length p.gives) (omega (arith, t.gives_counted)) (λ Y. Sdf p Y)
        (λ n Y e u kept left. record {
          typed_net = u;
          repetitions_counted = t.repetitions_counted ∙ sym e;
          rates_counted = t.rates_counted ∙ sym e;
          gives_counted = t.gives_counted;
          room = kept.1 t.room;
          held = kept-of p.net (kinds_at sigs (unfed p)) X Y t.held kept left;
        })
        (sdf its-facts step p k tag (record { held = X; kids = its }) inputs)
        (moves.sdf_moves its-facts step p k tag (record { held = X; kids = its }) inputs (t.typed_net.places_counted ∙ sym its-count, t.repetitions_counted ∙ sym its-count, t.rates_counted ∙ sym its-count) t.room)
    director-typed k ms (Pn p X) t =
        moved-typed p.net [] (On X) On (KeepsChannels p.net X) t.typed_net (on-of Has (kinds_from sigs [] 0 p.net.places) X t.held) (length (skip_places p.net.places X)) (pn-outputs p.net X t.typed_net t.room t.held) (λ Y. Pn p Y)
        (λ n Y e u kept left. record { typed_net = u; room = kept.1 t.room; held = kept-of p.net [] X Y t.held kept left })
        (pn its-facts step p k tag (record { held = X; kids = its }) inputs)
        (moves.pn_moves its-facts step p k tag (record { held = X; kids = its }) inputs (t.typed_net.places_counted ∙ sym its-count) t.room)
    director-typed k ms (Sr p) t =
        moved-typed p.net [] (On []) On (KeepsChannels p.net []) t (on-of Has (kinds_from sigs [] 0 p.net.places) [] tt) (length (skip_places p.net.places p.net.sources)) (net-outputs p.net t) (λ Y. Sr p) (λ n Y e u kept left. u)
        (sr its-facts step p k h.made tag its inputs) (moves.sr_moves its-facts step p k h.made tag its inputs (t.places_counted ∙ sym its-count) (net-room p.net t))
    director-typed k ms (De p) t =
        moved-typed p.net [] (On []) On (KeepsChannels p.net []) t (on-of Has (kinds_from sigs [] 0 p.net.places) [] tt) (length (skip_places p.net.places p.net.sources)) (net-outputs p.net t) (λ Y. De p) (λ n Y e u kept left. u)
        (de its-facts step p k tag its inputs) (moves.de_moves its-facts step p k tag its inputs (t.places_counted ∙ sym its-count) (net-room p.net t))
    director-typed k ms (Rv p X) t =
        moved-typed p.net [] (InPlaces p.net X) (InPlaces p.net) (IsSeated p.net (length its)) t.typed_net t.held (length (skip_places p.net.places p.net.sources)) (net-outputs p.net t.typed_net) (λ Y. Rv p Y)
        (λ n Y e u kept left. record { typed_net = u; barriers_counted = t.barriers_counted ∙ sym e; seated = subst (λ m. IsSeated p.net m Y) (its-count ∙ sym e) kept; held = left })
        (rv its-facts step p k h.made ms tag X its inputs)
        (moves.rv_moves its-facts step p k h.made ms tag X its inputs (t.barriers_counted ∙ sym its-count) (subst (λ m. IsSeated p.net m X) (sym its-count) t.seated))
    director-typed k ms (Modal chart m) t = modal-typed chart m t

  actor-typed : (sigs : Signatures K) (tag : Tag) (h : Past) (a b : A) (inputs : Streams T) → Fits (sigs []) a → Fits (sigs []) b → AreAllOf Has (sigs []).places inputs → (r : Answer T A) → rows.react tag b inputs ≡ r → IsTypedOutcome Has Below Fits rows sigs (actor_outcome tag h a r)
  actor-typed sigs tag h a b inputs g f i (Gives z out) e = let w = acts.gives (sigs []) b z tag inputs out f i e in ((g, w.1), w.0, typed-silent Has sigs)
  actor-typed sigs tag h a b inputs g f i (Fails code) e = typed-silent Has sigs

  pub level-typed : (sigs : Signatures K) (k d : ℕ) (m : Meets) (tag : Tag) (node : Node T A) (inputs : Streams T) → IsTypedNode Has Below Fits sigs node → AreAllOf Has (sigs []).places inputs → IsTypedOutcome Has Below Fits rows sigs (step_at rows k d m tag node inputs)
  unfolding step_at
  level-typed sigs k zero m tag node inputs t a = typed-silent Has sigs
  level-typed sigs k (suc d) m tag (Actor h a b) inputs t i = actor-typed sigs tag h a b inputs t.0 t.1 i (rows.react tag b inputs) refl
  level-typed sigs k (suc d) m tag (Composite h c e kids) inputs t i =
      director-typed sigs (child_step (λ j. step_at rows k d (below_child j m)))
      (λ j tag' s X g a. numbered-outcome sigs j s.number (step_at rows k d (below_child s.number m) tag' s.node X) g.0 (level-typed (below sigs j) k d (below_child s.number m) tag' s.node X g.1 a))
      tag h c kids t.0 t.2 inputs i k (m [] h.made) e t.1

  recorded-typed : (sigs : Signatures K) (n : ℕ) (tag : Tag) (inputs : Streams T) (r : Outcome T (Node T A)) → AreAllOf Has (sigs []).places inputs → IsTypedOutcome Has Below Fits rows sigs r → IsTypedOutcome Has Below Fits rows sigs (recorded n tag inputs r)
  recorded-typed sigs n tag inputs (Done s out l) a t = (t.0, t.1, typed-then Has sigs l (own (record { number = n; tag = tag; inputs = inputs; outputs = out })) t.2 (typed-own Has sigs n tag inputs out a t.1))
  recorded-typed sigs n tag inputs (Stuck fs l) a t = t

  pub steps-typed : StepsKeepKinds Has Below Fits rows
  steps-typed sigs k m node tag inputs t a = recorded-typed sigs (made_of node) tag inputs (step_at rows k (height node) m tag node inputs) a (level-typed sigs k (height node) m tag node inputs t a)

  -- ---- a job

  -- a run whose top is typed, and whose log keeps to the signatures
  abbrev IsTypedStanding : Signatures K → Standing T A → Type 0
  IsTypedStanding sigs (Goes c) = IsTypedNode Has Below Fits sigs c.top × IsTypedLog Has sigs c.log
  IsTypedStanding sigs (Ended e c) = IsTypedLog Has sigs c.log
  IsTypedStanding sigs (Halted fs l) = IsTypedLog Has sigs l

  on-step-typed : (sigs : Signatures K) (c : Course T A) (tag : Tag) (r : Outcome T (Node T A)) → IsTypedLog Has sigs c.log → IsTypedOutcome Has Below Fits rows sigs r → IsTypedStanding sigs (on_step c tag r)
  on-step-typed sigs c tag (Done top out l) t o = (o.0, typed-then Has sigs c.log l t o.2)
  on-step-typed sigs c tag (Stuck fs l) t o = typed-then Has sigs c.log l t o

  turn-typed : (sigs : Signatures K) (k : ℕ) (m : Meets) (c : Course T A) (turn : Turn T) → IsTypedNode Has Below Fits sigs c.top → IsTypedLog Has sigs c.log → ((tag : Tag) (inputs : Streams T) → turn ≡ Fire tag inputs → AreAllOf Has (sigs []).places inputs) → IsTypedStanding sigs (on_turn k rows m c turn)
  turn-typed sigs k m c (Fire tag inputs) t l a = on-step-typed sigs c tag (Step k rows m c.top tag inputs) l (steps-typed sigs k m c.top tag inputs t (a tag inputs refl))
  turn-typed sigs k m c (Ends e) t l a = l
  turn-typed sigs k m c AtLimit t l a = l

  goes-typed : (sigs : Signatures K) (go : Course T A → Standing T A) → ((c : Course T A) → IsTypedNode Has Below Fits sigs c.top → IsTypedLog Has sigs c.log → IsTypedStanding sigs (go c)) → (s : Standing T A) → IsTypedStanding sigs s → IsTypedStanding sigs (goes_on go s)
  goes-typed sigs go h (Goes c) t = h c t.0 t.1
  goes-typed sigs go h (Ended e c) t = t
  goes-typed sigs go h (Halted fs l) t = t

  after-typed : (sigs : Signatures K) (k : ℕ) (m : Meets) (plan : Schedule T A) → AreTypedTurns Has Below Fits rows sigs plan → (n : ℕ) (c : Course T A) → IsTypedNode Has Below Fits sigs c.top → IsTypedLog Has sigs c.log → IsTypedStanding sigs (after k rows m plan n c)
  unfolding after
  after-typed sigs k m plan turns zero c t l = (t, l)
  after-typed sigs k m plan turns (suc n) c t l =
      goes-typed sigs (after k rows m plan n) (λ d u v. after-typed sigs k m plan turns n d u v) (on_turn k rows m c (plan c.fired c.last c.top))
      (turn-typed sigs k m c (plan c.fired c.last c.top) t l (λ tag inputs e. turns c.fired c.last c.top tag inputs e))

  standing-log : (sigs : Signatures K) (s : Standing T A) → IsTypedStanding sigs s → IsTypedLog Has sigs (log_of s)
  standing-log sigs (Goes c) t = t.1
  standing-log sigs (Ended e c) t = t
  standing-log sigs (Halted fs l) t = t

  pub meaning-typed : MeaningKeepsKinds Has Below Fits rows
  meaning-typed sigs m plan top t turns k = standing-log sigs (after k rows m plan k (begin top)) (after-typed sigs k m plan turns k (begin top) t (typed-silent Has sigs))
