-- A firing keeps the height of its node, and levels above the height change nothing.
use Rattle.std.proofs.Common.{◌≡◌, ℕ, zero, suc, ◌≤◌, max, List, [], ◌∷◌, Bool, true, false, length, drop, Option, Some, None, refl, sym, ap, ap₂, subst, arith, ◌∙◌}
use Rattle.pt_meaning.specs.Basics.{Tag, Streams, Log, Meeting}
use Rattle.pt_meaning.specs.Machine as machine
use Rattle.pt_meaning.specs.Machine.{Fault, Outcome, Done, Stuck, Stepping, Facts, Partial, recorded}
use Rattle.pt_meaning.specs.Flow.{Flow}
use Rattle.pt_meaning.specs.Rounds.{Net, Limit, Source, Own, Output, flows, round}
use Rattle.pt_meaning.specs.Dataflow.{Inside, states_of, Leaving, kahn, if_settled, sdf_limits, pn_limits}
use Rattle.pt_meaning.specs.Tick.{Activity, Earliness, reactions, reaction_states, tick}
use Rattle.pt_meaning.specs.Modal.{unfired_outputs, Chart, Modes, Choice, Nothing, One, Wrong, Acted, Acts, Fails, taken, afterwards, on_refinement, at_refinement, with_refinement, preempted, change_at, change_if, left_at, entered_at, fresh_unless, get}
use Rattle.pt_meaning.specs.Process.{Put, Party, all_advanced, all_got, all_puts, party_states, with_put_made, with_token}
use Rattle.pt_meaning.specs.Meetings.{Meets, Scene, offers, Target, Place, Outlet, Hop, hops_in, sent, received, passed, meet, below_child}
use Rattle.pt_meaning.specs.Rendezvous as rendezvous
use Rattle.pt_meaning.specs.Rendezvous.{RvPlan, Places, ended, if_ended, if_meets, under_meetings, left_in, seated, rv}
use Rattle.pt_meaning.specs.Children.{Child, numbered, nodes, child_facts, with_number, child_step}
use Rattle.pt_meaning.specs.Node.{Rows, Core, Sdf, Pn, Sr, De, Rv, Modal, Past, Answer, Gives, Fails, Node, Nodes, Actor, Composite, none, more, list_of, nodes_of, facts_of, as_node, director, step_at, actor_outcome, made_of, height, heights, reset_of, reset_all}
use Rattle.pt_laws.specs.Heights.{FitsRefinements, HasEntries, IsFitting, AllFitting, KeepsHeight, FiringKeepsHeight, StepKeepsHeight, ResetKeepsHeight, LevelsAgree, StepIsAtAnyLevel}
use Rattle.pt_laws.proofs.AlikeLaws.{Alike, AllFrom, KidsFrom, kahn-alike, kahn-from, tick-alike, tick-from, sr-alike, de-alike, modal-alike, modal-from, under-alike, under-from, seated-from}

-- the director of a composite, where the steps of its children agree on all that they come to
module _ {T A : Type 0} (facts : Facts T (Child (Node T A))) (step more : Stepping T (Child (Node T A))) (From : Child (Node T A) → Child (Node T A) → Type 0) (alike : Alike facts step more From) (k : ℕ) (ms : List Meeting) (tag : Tag) (h : Past) (c : Core T) (kids : List (Child (Node T A))) (from : AllFrom From kids kids) (inputs : Streams T) where
  pub director-alike : (d : Core T) → director facts more k ms tag h c d kids inputs ≡ director facts step k ms tag h c d kids inputs
  director-alike (Sdf p X) = ap (λ r. as_node tag h c (Sdf p) r) (kahn-alike facts step more From alike tag p.net _ kids kids from _ _ _ k)
  director-alike (Pn p X) = ap (λ r. as_node tag h c (Pn p) r) (kahn-alike facts step more From alike tag p.net _ kids kids from _ _ _ k)
  director-alike (Sr p) = ap (λ r. as_node tag h c (λ X. Sr p) r) (tick-alike facts _ _ _ _ From (sr-alike facts step more From alike) tag p.net kids kids from inputs _ k)
  director-alike (De p) = ap (λ r. as_node tag h c (λ X. De p) r) (tick-alike facts _ _ _ _ From (de-alike facts step more From alike) tag p.net kids kids from inputs _ k)
  director-alike (Rv p X) = ap (λ r. as_node tag h c (Rv p) r) (under-alike facts step more From alike tag p.net k h.made ms kids _ (seated-from From p.barriers X.got X.puts kids kids from))
  director-alike (Modal chart m) = ap (λ r. as_node tag h c (Modal chart) r) (modal-alike facts step more From alike chart h.made tag m kids kids from inputs)

-- how many children there are after a firing
abbrev pub KidsCount : {T H S : Type 0} → ℕ → Outcome T (Inside H S) → Type 0
KidsCount n (Done x out l) = length x.kids ≡ n
KidsCount n (Stuck fs l) = Unit {0}

module _ {T S : Type 0} (facts : Facts T S) (step : Stepping T S) (tag : Tag) (n : ℕ) where
  flows-count : (n : ℕ) (ns : List ℕ) (cs : List Limit) (k : ℕ) (ss : List S) (X : Streams T) → length ns ≡ n → length cs ≡ n → length ss ≡ n → length (states_of (flows facts step tag ns cs k ss X)) ≡ n
  flows-count n [] cs k ss X a b c = a
  flows-count n (m ∷ ns) [] k ss X a b c = absurd (omega arith)
  flows-count n (m ∷ ns) (c ∷ cs) k [] X a b e = absurd (omega arith)
  flows-count zero (m ∷ ns) (c ∷ cs) k (s ∷ ss) X a b e = absurd (omega arith)
  flows-count (suc n) (m ∷ ns) (c ∷ cs) k (s ∷ ss) X a b e = ap (λ v. suc v) (flows-count n ns cs k ss (drop m X) (omega arith) (omega arith) (omega arith))

  if_count : (b : Bool) (x : Inside (Streams T) S) (out : Streams T) (l : Log T) (fs : List Fault) → length x.kids ≡ n → KidsCount {T = T} n (if_settled b x out l fs)
  if_count true x out l fs e = e
  if_count false x out l fs e = tt

  pub kahn-count : (net : Net) (limits : List Limit) (enough : List (Flow T S) → Bool) (leaving : Leaving) (kids : List S) (X : Streams T) (k : ℕ) → length net.places ≡ n → length limits ≡ n → length kids ≡ n → KidsCount n (kahn facts step tag net limits enough leaving kids X k)
  unfolding kahn
  kahn-count net limits enough leaving kids X k a b e = if_count _ _ _ _ _ (flows-count n net.places limits k kids (round facts step tag net limits kids X k) a b e)

  module _ (early : Earliness T S) (active : Activity T S) (turn : Stepping T S) where
    reactions-count : (n : ℕ) (ns : List ℕ) (ss : List S) (V : List (machine.Partial T)) → length ns ≡ n → length ss ≡ n → length (reaction_states (reactions early active turn tag ns ss V)) ≡ n
    reactions-count n [] ss V a b = a
    reactions-count n (m ∷ ns) [] V a b = absurd (omega arith)
    reactions-count zero (m ∷ ns) (s ∷ ss) V a b = absurd (omega arith)
    reactions-count (suc n) (m ∷ ns) (s ∷ ss) V a b = ap (λ v. suc v) (reactions-count n ns ss (drop m V) (omega arith) (omega arith))

    tick-count : (net : Net) (blame : List Fault) (kids : List S) (inputs : Streams T) (k : ℕ) → length net.places ≡ n → length kids ≡ n → KidsCount n (tick early active turn tag net blame kids inputs k)
    unfolding tick
    tick-count net blame kids inputs k a b = if_count _ _ _ _ _ (reactions-count n net.places kids _ a b)

  change-count : {B : Type 0} (i : ℕ) (f : B → B) (xs : List B) → length (change_at i f xs) ≡ length xs
  change-count i f [] = refl
  change-count zero f (x ∷ xs) = refl
  change-count (suc i) f (x ∷ xs) = ap (λ v. suc v) (change-count i f xs)

  if-changed-count : {B : Type 0} (o : Option ℕ) (f : B → B) (xs : List B) → length (change_if o f xs) ≡ length xs
  if-changed-count None f xs = refl
  if-changed-count (Some i) f xs = change-count i f xs

  -- a Modal: the times of its refinements stay as many
  StaysCount : Outcome T (Inside (Modes T) S) → Type 0
  StaysCount (Done x out l) = (length x.kids ≡ n) × (length x.held.stays ≡ n)
  StaysCount (Stuck fs l) = Unit {0}

  module _ (chart : Chart T) (made : ℕ) (m : Modes T) (stays : length m.stays ≡ n) where
    taken-count : (early : Bool) (t : ℕ) (kids : List S) (l : Log T) (a : Acted T) → length kids ≡ n → StaysCount (taken chart facts step made tag early t m kids l a)
    unfolding StaysCount
    taken-count early t kids l (Acts out values) e =
        let to = chart.refinement (chart.target early m.mode t) in
        let left = change_if (chart.refinement m.mode) (left_at tag.time) m.stays in
        let fresh = change_if to (fresh_unless (chart.keeps_history early m.mode t)) left in
        (if-changed-count _ _ kids ∙ e, if-changed-count to (entered_at tag.time) fresh ∙ if-changed-count to (fresh_unless (chart.keeps_history early m.mode t)) left ∙ if-changed-count (chart.refinement m.mode) (left_at tag.time) m.stays ∙ stays)
    taken-count early t kids l (Fails code) e = tt

    after-count : (kids : List S) (inputs out : Streams T) (l : Log T) (c : Choice) → length kids ≡ n → StaysCount (afterwards chart facts step made tag m kids inputs out l c)
    unfolding StaysCount
    after-count kids inputs out l Nothing e = (e, stays)
    after-count kids inputs out l (One t) e = taken-count false t kids l _ e
    after-count kids inputs out l (Wrong code) e = tt

    refined-count : (i : ℕ) (kids : List S) (inputs : Streams T) (r : Outcome T S) → length kids ≡ n → StaysCount (on_refinement chart facts step made tag i m kids inputs r)
    unfolding StaysCount
    refined-count i kids inputs (Stuck fs l) e = tt
    refined-count i kids inputs (Done s out l) e = after-count _ inputs _ _ _ (change-count i _ kids ∙ e)

    at-count : (kids : List S) (inputs : Streams T) (i : ℕ) (o : Option S) → length kids ≡ n → StaysCount (at_refinement chart facts step made tag m kids inputs i o)
    unfolding StaysCount
    at-count kids inputs i None e = tt
    at-count kids inputs i (Some s) e = refined-count i kids inputs _ e

    with-count : (kids : List S) (inputs : Streams T) (o : Option ℕ) → length kids ≡ n → StaysCount (with_refinement chart facts step made tag m kids inputs o)
    with-count kids inputs None e = after-count kids inputs (unfired_outputs chart) _ _ e
    with-count kids inputs (Some i) e = at-count kids inputs i (get kids i) e

    cases-count : (kids : List S) (inputs : Streams T) (c : Choice) → length kids ≡ n → StaysCount (preempted chart facts step made tag m kids inputs c)
    unfolding StaysCount
    cases-count kids inputs Nothing e = with-count kids inputs (chart.refinement m.mode) e
    cases-count kids inputs (One t) e = taken-count true t kids _ _ e
    cases-count kids inputs (Wrong code) e = tt

  -- Rendezvous
  PlacesCount : Outcome T (Inside (Places T) S) → Type 0
  PlacesCount (Done x out l) = (length x.kids ≡ n) × (length x.held.got ≡ n) × (length x.held.puts ≡ n)
  PlacesCount (Stuck fs l) = Unit {0}

  module _ (net : Net) (k w : ℕ) where
    all-count : (i : ℕ) (ps : List (Party T S)) → length (all_advanced facts step tag net.sources k i ps) ≡ length ps
    all-count i [] = refl
    all-count i (p ∷ ps) = ap (λ v. suc v) (all-count (suc i) ps)

    sent-count : (o : Option Source) (sc : Scene T S) → length (sent o sc).parties ≡ length sc.parties
    sent-count None sc = refl
    sent-count (Some (Own j)) sc = refl
    sent-count (Some (Output i p)) sc = change-count i with_put_made sc.parties

    received-count : (x : T) (t : Target) (sc : Scene T S) → length (received x t sc).parties ≡ length sc.parties
    received-count x (Place i q) sc = change-count i (with_token q x) sc.parties
    received-count x (Outlet o) sc = refl

    passed-count : (hs : List Hop) (xs : List (Option T)) (sc : Scene T S) → length (passed net hs xs sc).parties ≡ length sc.parties
    passed-count [] xs sc = refl
    passed-count (h ∷ hs) [] sc = refl
    passed-count (h ∷ hs) (None ∷ xs) sc = refl
    passed-count (h ∷ hs) (Some x ∷ xs) sc = passed-count hs xs (received x h.target (sent (get net.sources h.channel) sc)) ∙ received-count x h.target (sent (get net.sources h.channel) sc) ∙ sent-count (get net.sources h.channel) sc

    states-count : (ps : List (Party T S)) → length (party_states ps) ≡ length ps
    states-count [] = refl
    states-count (p ∷ ps) = ap (λ v. suc v) (states-count ps)

    got-count : (ps : List (Party T S)) → length (all_got ps) ≡ length ps
    got-count [] = refl
    got-count (p ∷ ps) = ap (λ v. suc v) (got-count ps)

    puts-count : (ps : List (Party T S)) → length (all_puts ps) ≡ length ps
    puts-count [] = refl
    puts-count (p ∷ ps) = ap (λ v. suc v) (puts-count ps)

    ended-count : (b : Bool) (sc : Scene T S) → length sc.parties ≡ n → PlacesCount (if_ended b sc)
    unfolding PlacesCount
    ended-count true sc e = (states-count sc.parties ∙ e, got-count sc.parties ∙ e, puts-count sc.parties ∙ e)
    ended-count false sc e = tt

    meets-count : (b : Bool) (next : Scene T S → Outcome T (Inside (Places T) S)) → ((sc : Scene T S) → length sc.parties ≡ n → PlacesCount (next sc)) → (m : Meeting) (sc : Scene T S) → length sc.parties ≡ n → PlacesCount (if_meets facts step tag net k w b next m sc)
    unfolding PlacesCount
    meets-count true next h m sc e = h (meet net w m sc) (passed-count (hops_in net m) (offers net sc (hops_in net m)) sc ∙ e)
    meets-count false next h m sc e = tt

    under-count : (ms : List Meeting) (sc : Scene T S) → length sc.parties ≡ n → PlacesCount (under_meetings facts step tag net k w ms sc)
    unfolding under_meetings
    under-count [] sc e = ended-count _ (rendezvous.settled facts step tag net k w sc) (all-count 0 sc.parties ∙ e)
    under-count (m ∷ ms) sc e = meets-count _ (under_meetings facts step tag net k w ms) (under-count ms) m (rendezvous.settled facts step tag net k w sc) (all-count 0 sc.parties ∙ e)

  seated-count : (n : ℕ) (bs : List Bool) (gs : List (Streams T)) (us : List (List (Put T))) (ss : List S) → length bs ≡ n → length gs ≡ n → length us ≡ n → length ss ≡ n → length (seated bs gs us ss) ≡ n
  seated-count n [] gs us ss a b c d = a
  seated-count n (x ∷ bs) [] us ss a b c d = absurd (omega arith)
  seated-count n (x ∷ bs) (g ∷ gs) [] ss a b c d = absurd (omega arith)
  seated-count n (x ∷ bs) (g ∷ gs) (u ∷ us) [] a b c d = absurd (omega arith)
  seated-count zero (x ∷ bs) (g ∷ gs) (u ∷ us) (s ∷ ss) a b c d = absurd (omega arith)
  seated-count (suc n) (x ∷ bs) (g ∷ gs) (u ∷ us) (s ∷ ss) a b c d = ap (λ v. suc v) (seated-count n bs gs us ss (omega arith) (omega arith) (omega arith) (omega arith))

-- the tree: a reset
reset-length : {T A : Type 0} (kids : Nodes T A) → length (list_of (reset_all kids)) ≡ length (list_of kids)
reset-length none = refl
reset-length (more n ns) = ap (λ v. suc v) (reset-length ns)

mutual
  reset-height : {T A : Type 0} (node : Node T A) → height (reset_of node) ≡ height node
  reset-height (Actor h a b) = refl
  reset-height (Composite h c d kids) = ap (λ v. suc v) (reset-heights kids)

  reset-heights : {T A : Type 0} (kids : Nodes T A) → heights (reset_all kids) ≡ heights kids
  reset-heights none = refl
  reset-heights (more n ns) = ap₂ (λ a b. max a b) (reset-height n) (reset-heights ns)

mutual
  reset-fitting : {T A : Type 0} (node : Node T A) → IsFitting node → IsFitting (reset_of node)
  reset-fitting (Actor h a b) f = tt
  reset-fitting (Composite h c d kids) f =
      let e = reset-length kids in
      let g = subst (λ n. HasEntries n c) (sym e) f.0 in
      (g, g, resets-fitting kids f.2)

  resets-fitting : {T A : Type 0} (kids : Nodes T A) → AllFitting kids → AllFitting (reset_all kids)
  resets-fitting none f = tt
  resets-fitting (more n ns) f = (reset-fitting n f.0, resets-fitting ns f.1)

pub reset-keeps : {T A : Type 0} → ResetKeepsHeight T A
reset-keeps node = (omega (arith, reset-height node), λ f. (reset-fitting node f, reset-height node))

-- one after another
keeps-refl : {T A : Type 0} (a : Node T A) → KeepsHeight a a
keeps-refl a = (omega arith, λ f. (f, refl))

keeps-trans : {T A : Type 0} (a b c : Node T A) → KeepsHeight a b → KeepsHeight b c → KeepsHeight a c
keeps-trans a b c p q = (omega (arith, p.0, q.0), λ f. let g = p.1 f in let h = q.1 g.0 in (h.0, h.1 ∙ g.1))

pub Keeps : {T A : Type 0} → Child (Node T A) → Child (Node T A) → Type 0
Keeps s z = KeepsHeight s.node z.node

-- the children after a firing
kids-below : {T A : Type 0} (ss zs : List (Child (Node T A))) → AllFrom Keeps ss zs → heights (nodes_of (nodes zs)) ≤ heights (nodes_of (nodes ss))
unfolding Keeps
kids-below ss [] f = omega arith
kids-below [] (z ∷ zs) f = absurd f
kids-below (s ∷ ss) (z ∷ zs) f = omega (arith, f.0.0, kids-below ss zs f.1)

kids-fitting : {T A : Type 0} (ss zs : List (Child (Node T A))) → AllFrom Keeps ss zs → length zs ≡ length ss → AllFitting (nodes_of (nodes ss)) → AllFitting (nodes_of (nodes zs)) × (heights (nodes_of (nodes zs)) ≡ heights (nodes_of (nodes ss)))
unfolding Keeps
kids-fitting [] [] f e g = (tt, refl)
kids-fitting (s ∷ ss) [] f e g = absurd (omega arith)
kids-fitting [] (z ∷ zs) f e g = absurd f
kids-fitting (s ∷ ss) (z ∷ zs) f e g = let a = f.0.1 g.0 in let b = kids-fitting ss zs f.1 (omega arith) g.1 in ((a.0, b.0), ap₂ (λ x y. max x y) a.1 b.1)

nodes-length : {T A : Type 0} (ss : List (Child (Node T A))) → length (list_of (nodes_of (nodes ss))) ≡ length ss
nodes-length [] = refl
nodes-length (s ∷ ss) = ap (λ v. suc v) (nodes-length ss)

pub numbered-length : {S : Type 0} (i : ℕ) (ss : List S) → length (numbered i ss) ≡ length ss
numbered-length i [] = refl
numbered-length i (s ∷ ss) = ap (λ v. suc v) (numbered-length (suc i) ss)

numbered-nodes : {T A : Type 0} (i : ℕ) (kids : Nodes T A) → nodes_of (nodes (numbered i (list_of kids))) ≡ kids
numbered-nodes i none = refl
numbered-nodes i (more n ns) = ap (λ v. Nodes.more n v) (numbered-nodes (suc i) ns)

all-keep : {T A : Type 0} (ss : List (Child (Node T A))) → AllFrom Keeps ss ss
unfolding Keeps
all-keep [] = tt
all-keep (s ∷ ss) = (keeps-refl s.node, all-keep ss)

-- the node after a firing that is done
NodeKeeps : {T A : Type 0} → Node T A → Outcome T (Node T A) → Type 0
NodeKeeps node (Done next out l) = KeepsHeight node next
NodeKeeps node (Stuck fs l) = Unit {0}

-- the entries of a director after its firing
EntriesOf : {T A H : Type 0} → ℕ → (H → Core T) → Outcome T (Inside H (Child (Node T A))) → Type 0
EntriesOf n core (Done x out l) = (length x.kids ≡ n) × HasEntries n (core x.held)
EntriesOf n core (Stuck fs l) = Unit {0}

as-node-keeps : {T A H : Type 0} (tag : Tag) (h : Past) (c d : Core T) (core : H → Core T) (kids : Nodes T A) (r : Outcome T (Inside H (Child (Node T A)))) → KidsFrom Keeps (numbered 0 (list_of kids)) r →
    (HasEntries (length (list_of kids)) d → EntriesOf (length (list_of kids)) core r) → NodeKeeps (Composite h c d kids) (as_node tag h c core r)
unfolding NodeKeeps EntriesOf
as-node-keeps tag h c d core kids (Stuck fs l) k e = tt
as-node-keeps tag h c d core kids (Done x out l) k e =
    let ss = numbered 0 (list_of kids) in
    let same = numbered-nodes 0 kids in
    let low = subst (λ v. heights (nodes_of (nodes x.kids)) ≤ heights v) same (kids-below ss x.kids k) in (
      omega (arith, low),
      λ f.
          let w = e f.1 in
          let g = kids-fitting ss x.kids k (w.0 ∙ sym (numbered-length 0 (list_of kids))) (subst (λ v. AllFitting v) (sym same) f.2) in
          let count = nodes-length x.kids ∙ w.0 in
          ((subst (λ n. HasEntries n c) (sym count) f.0, subst (λ n. HasEntries n (core x.held)) (sym count) w.1, g.0), ap (λ v. suc v) (g.1 ∙ ap (λ v. heights v) same)),
    )

-- the directors
plain-entries : {T A H : Type 0} (n : ℕ) (core : H → Core T) (r : Outcome T (Inside H (Child (Node T A)))) → KidsCount n r → ((x : H) → HasEntries n (core x)) → EntriesOf n core r
unfolding EntriesOf
plain-entries n core (Done x out l) e g = (e, g x.held)
plain-entries n core (Stuck fs l) e g = tt

stays-entries : {T A : Type 0} (facts : Facts T (Child (Node T A))) (step : Stepping T (Child (Node T A))) (tag : Tag) (n : ℕ) (chart : Chart T) (r : Outcome T (Inside (Modes T) (Child (Node T A)))) → StaysCount facts step tag n r → FitsRefinements n chart → EntriesOf n (Modal chart) r
unfolding EntriesOf StaysCount
stays-entries facts step tag n chart (Done x out l) e g = (e.0, (e.1, g))
stays-entries facts step tag n chart (Stuck fs l) e g = tt

places-entries : {T A : Type 0} (facts : Facts T (Child (Node T A))) (step : Stepping T (Child (Node T A))) (tag : Tag) (n : ℕ) (p : RvPlan) (r : Outcome T (Inside (Places T) (Child (Node T A)))) → PlacesCount facts step tag n r → length p.barriers ≡ n → EntriesOf n (Rv p) r
unfolding EntriesOf PlacesCount
places-entries facts step tag n p (Done x out l) e g = (e.0, (g, e.1, e.2))
places-entries facts step tag n p (Stuck fs l) e g = tt

pub sdf-bounds-count : (m : ℕ) (qs : List ℕ) (rs : List (List ℕ)) (n : ℕ) → length qs ≡ n → length rs ≡ n → length (sdf_limits m qs rs) ≡ n
sdf-bounds-count m [] rs n a b = a
sdf-bounds-count m (q ∷ qs) [] n a b = absurd (omega arith)
sdf-bounds-count m (q ∷ qs) (r ∷ rs) zero a b = absurd (omega arith)
sdf-bounds-count m (q ∷ qs) (r ∷ rs) (suc n) a b = ap (λ v. suc v) (sdf-bounds-count m qs rs n (omega arith) (omega arith))

pub pn-bounds-count : (ns : List ℕ) → length (pn_limits ns) ≡ length ns
pn-bounds-count [] = refl
pn-bounds-count (n ∷ ns) = ap (λ v. suc v) (pn-bounds-count ns)

module _ {T A : Type 0} (facts : Facts T (Child (Node T A))) (step : Stepping T (Child (Node T A))) (alike : Alike facts step step Keeps) (k : ℕ) (ms : List Meeting) (tag : Tag) (h : Past) (c : Core T) (kids : Nodes T A) (inputs : Streams T) where
  abbrev its : List (Child (Node T A))
  its = numbered 0 (list_of kids)

  count : length its ≡ length (list_of kids)
  count = numbered-length 0 (list_of kids)

  director-keeps : (d : Core T) → NodeKeeps (Composite h c d kids) (director facts step k ms tag h c d its inputs)
  director-keeps (Sdf p X) =
      as-node-keeps tag h c (Sdf p X) (Sdf p) kids _ (kahn-from facts step step Keeps alike tag p.net _ its its (all-keep its) _ _ _ k)
      (λ e. plain-entries _ (Sdf p) _ (kahn-count facts step tag _ p.net _ _ _ its _ k e.0 (sdf-bounds-count _ p.repetitions p.rates _ e.1 e.2) count) (λ X. e))
  director-keeps (Pn p X) =
      as-node-keeps tag h c (Pn p X) (Pn p) kids _ (kahn-from facts step step Keeps alike tag p.net _ its its (all-keep its) _ _ _ k)
      (λ e. plain-entries _ (Pn p) _ (kahn-count facts step tag _ p.net _ _ _ its _ k e (pn-bounds-count p.net.places ∙ e) count) (λ X. e))
  director-keeps (Sr p) =
      as-node-keeps tag h c (Sr p) (λ X. Sr p) kids _ (tick-from facts _ _ _ _ Keeps (sr-alike facts step step Keeps alike) tag p.net its its (all-keep its) inputs _ k)
      (λ e. plain-entries {H = Streams T} _ (λ X. Sr p) _ (tick-count facts step tag _ _ _ _ p.net _ its inputs k e count) (λ X. e))
  director-keeps (De p) =
      as-node-keeps tag h c (De p) (λ X. De p) kids _ (tick-from facts _ _ _ _ Keeps (de-alike facts step step Keeps alike) tag p.net its its (all-keep its) inputs _ k)
      (λ e. plain-entries {H = Streams T} _ (λ X. De p) _ (tick-count facts step tag _ _ _ _ p.net _ its inputs k e count) (λ X. e))
  director-keeps (Rv p X) =
      as-node-keeps tag h c (Rv p X) (Rv p) kids _ (under-from facts step step Keeps alike tag p.net k h.made ms its _ (seated-from Keeps p.barriers X.got X.puts its its (all-keep its)))
      (λ e. places-entries facts step tag _ p _ (under-count facts step tag _ p.net k h.made ms _ (seated-count facts step tag 0 _ p.barriers X.got X.puts its e.0 e.1 e.2 count)) e.0)
  director-keeps (Modal chart m) =
      as-node-keeps tag h c (Modal chart m) (Modal chart) kids _ (modal-from facts step step Keeps alike chart h.made tag m its its (all-keep its) inputs)
      (λ e. stays-entries facts step tag _ chart _ (cases-count facts step tag _ chart h.made m e.0 its inputs _ count) e.1)

-- any node, at any number of levels
as-kept : {T A : Type 0} (node next : Node T A) (r : Outcome T (Node T A)) (out : Streams T) (l : Log T) → NodeKeeps node r → r ≡ Done next out l → KeepsHeight node next
unfolding NodeKeeps
as-kept node next r out l k e = subst (λ v. NodeKeeps node v) e k

pub with-number-done : {T S : Type 0} (i : ℕ) (r : Outcome T S) (s : Child S) (out : Streams T) (l : Log T) → with_number i r ≡ Done s out l → r ≡ Done s.node out l
with-number-done {T} {S} i r s out l e = sym (unnumbered i r) ∙ ap bare e
  where
    bare : Outcome T (Child S) → Outcome T S
    bare (Done c out l) = Done c.node out l
    bare (Stuck fs l) = Stuck fs l

    unnumbered : (i : ℕ) (r : Outcome T S) → bare (with_number i r) ≡ r
    unnumbered i (Done z o m) = refl
    unnumbered i (Stuck fs m) = refl

steps-alike : {T A : Type 0} (rows : Rows T A) (steps : ℕ → Stepping T (Node T A)) → ((i : ℕ) (tag : Tag) (node next : Node T A) (X out : Streams T) (l : Log T) → steps i tag node X ≡ Done next out l → KeepsHeight node next) →
    Alike (child_facts (facts_of rows)) (child_step steps) (child_step steps) Keeps
unfolding Keeps
steps-alike rows steps h = record {
  steps = λ s z f tag X z' out l e. keeps-trans s.node z.node z'.node f (h z.number tag z.node z'.node X out l (with-number-done z.number (steps z.number tag z.node X) z' out l e));
  resets = λ s z f. keeps-trans s.node z.node (reset_of z.node) f (reset-keeps z.node);
  same = λ s z f tag X. refl;
}

actor-keeps : {T A : Type 0} (tag : Tag) (h : Past) (a b : A) (r : Answer T A) → NodeKeeps (Actor h a b) (actor_outcome tag h a r)
unfolding NodeKeeps
actor-keeps tag h a b (Gives c out) = (omega arith, λ f. (tt, refl))
actor-keeps tag h a b (Fails code) = tt

level-keeps : {T A : Type 0} (rows : Rows T A) (k d : ℕ) (m : Meets) (tag : Tag) (node : Node T A) (inputs : Streams T) → NodeKeeps node (step_at rows k d m tag node inputs)
unfolding NodeKeeps step_at
level-keeps rows k zero m tag node inputs = tt
level-keeps rows k (suc d) m tag (Actor h a b) inputs = actor-keeps tag h a b (rows.react tag b inputs)
level-keeps rows k (suc d) m tag (Composite h c e kids) inputs =
    director-keeps (child_facts (facts_of rows)) (child_step (λ i. step_at rows k d (below_child i m)))
    (steps-alike rows (λ i. step_at rows k d (below_child i m)) (λ i tag node next X out l f. as-kept node next (step_at rows k d (below_child i m) tag node X) out l (level-keeps rows k d (below_child i m) tag node X) f))
    k (m [] h.made) tag h c kids inputs e

pub firing-keeps : {T A : Type 0} → FiringKeepsHeight T A
firing-keeps rows k d m tag node next inputs out l e = as-kept node next (step_at rows k d m tag node inputs) out l (level-keeps rows k d m tag node inputs) e

recorded-was : {T S : Type 0} (n : ℕ) (tag : Tag) (X : Streams T) (r : Outcome T S) (z' : S) (out : Streams T) (l : Log T) → recorded n tag X r ≡ Done z' out l → (k : Log T) × (r ≡ Done z' out k)
recorded-was n tag X (Done z o k) z' out l e = (k, cc)
recorded-was n tag X (Stuck fs k) z' out l e = absurd (cc)

pub step-keeps : {T A : Type 0} → StepKeepsHeight T A
step-keeps rows k m tag node next inputs out l e = let w = recorded-was (made_of node) tag inputs (step_at rows k (height node) m tag node inputs) next out l e in firing-keeps rows k (height node) m tag node next inputs out w.0 w.1

-- levels above the height
Lower : {T A : Type 0} → ℕ → ℕ → Child (Node T A) → Child (Node T A) → Type 0
Lower d d' s z = (height z.node ≤ d) × (height z.node ≤ d')

lower-alike : {T A : Type 0} (rows : Rows T A) (d d' : ℕ) (steps higher : ℕ → Stepping T (Node T A)) → ((i : ℕ) (tag : Tag) (node next : Node T A) (X out : Streams T) (l : Log T) → steps i tag node X ≡ Done next out l → KeepsHeight node next) →
    ((i : ℕ) (tag : Tag) (node : Node T A) (X : Streams T) → height node ≤ d → height node ≤ d' → higher i tag node X ≡ steps i tag node X) → Alike (child_facts (facts_of rows)) (child_step steps) (child_step higher) (Lower d d')
unfolding Lower
lower-alike rows d d' steps higher h g = record {
  steps = λ s z f tag X z' out l e. let low = (h z.number tag z.node z'.node X out l (with-number-done z.number (steps z.number tag z.node X) z' out l e)).0 in (omega (arith, low, f.0), omega (arith, low, f.1));
  resets = λ s z f. let same = reset-height z.node in (omega (arith, same, f.0), omega (arith, same, f.1));
  same = λ s z f tag X. ap (λ r. with_number z.number r) (g z.number tag z.node X f.0 f.1);
}

all-lower : {T A : Type 0} (d d' i : ℕ) (kids : Nodes T A) → heights kids ≤ d → heights kids ≤ d' → AllFrom (Lower d d') (numbered i (list_of kids)) (numbered i (list_of kids))
unfolding Lower
all-lower d d' i none a b = tt
all-lower d d' i (more n ns) a b = ((omega (arith, a), omega (arith, b)), all-lower d d' (suc i) ns (omega (arith, a)) (omega (arith, b)))

pub levels-agree : {T A : Type 0} → LevelsAgree T A
unfolding step_at
levels-agree rows k zero d' m tag (Actor h a b) inputs x y = absurd (omega (arith, x))
levels-agree rows k zero d' m tag (Composite h c e kids) inputs x y = absurd (omega (arith, x))
levels-agree rows k (suc d) zero m tag (Actor h a b) inputs x y = absurd (omega (arith, y))
levels-agree rows k (suc d) zero m tag (Composite h c e kids) inputs x y = absurd (omega (arith, y))
levels-agree rows k (suc d) (suc d') m tag (Actor h a b) inputs x y = refl
levels-agree rows k (suc d) (suc d') m tag (Composite h c e kids) inputs x y =
    sym
    (director-alike (child_facts (facts_of rows)) (child_step (λ i. step_at rows k d (below_child i m))) (child_step (λ i. step_at rows k d' (below_child i m))) (Lower d d')
    (lower-alike rows d d' (λ i. step_at rows k d (below_child i m)) (λ i. step_at rows k d' (below_child i m)) (λ i tag node next X out l f. firing-keeps rows k d (below_child i m) tag node next X out l f)
    (λ i tag node X p q. sym (levels-agree rows k d d' (below_child i m) tag node X p q)))
    k (m [] h.made) tag h c (numbered 0 (list_of kids)) (all-lower d d' 0 kids (omega (arith, x)) (omega (arith, y))) inputs e)

pub any-level : {T A : Type 0} → StepIsAtAnyLevel T A
any-level rows k d m tag node inputs h = ap (λ r. recorded (made_of node) tag inputs r) (levels-agree rows k (height node) d m tag node inputs (omega arith) h)
