-- Trees whose nodes fit their signatures: along each channel what its source gives is of a kind that its place takes.
use Rattle.std.specs.Prelude.{◌≡◌, ℕ, suc, ◌≤◌, ◌<◌, List, [], ◌∷◌, ◌++◌, Bool, Option, Some, None, length}
use Rattle.pt_meaning.specs.Basics.{Streams}
use Rattle.pt_meaning.specs.Streams.{get}
use Rattle.pt_meaning.specs.Net.{Source, Own, Output, Net}
use Rattle.pt_meaning.specs.Running.{total}
use Rattle.pt_meaning.specs.Sdf.{SdfPlan, unfed}
use Rattle.pt_meaning.specs.Pn.{PnPlan}
use Rattle.pt_meaning.specs.Rendezvous.{RvPlan, Places}
use Rattle.pt_meaning.specs.Modal.{Chart, Modes, Acts}
use Rattle.pt_meaning.specs.Tree.{Core, Sdf, Pn, Sr, De, Rv, Modal, Node, Nodes, Actor, Composite, none, more, list_of}
use Rattle.pt_kinds.specs.Directors.{InPlaces, IsSeated}
use Rattle.pt_kinds.specs.Signature.{Signature, Signatures, below, AreOf, AreAllOf, AreEach}

-- the kind of what a source gives within a composite: that of the own input, or that of the child's output; none where there is no such port
abbrev pub kind_of : {K : Type 0} → Signatures K → Source → Option K
kind_of sigs (Own port) = get (sigs []).places port
kind_of sigs (Output child port) = get (sigs (child ∷ [])).outputs port

-- the kinds of the channels of a composite, in the order of their numbers: those at the places of its children from child i on, so many children, then those of its own outputs, and then these, of channels that end nowhere
abbrev pub kinds_from : {K : Type 0} → Signatures K → List K → (i : ℕ) → List ℕ → List K
kinds_from sigs ks i [] = (sigs []).outputs ++ ks
kinds_from sigs ks i (n ∷ ns) = (sigs (i ∷ [])).places ++ kinds_from sigs ks (suc i) ns

-- a kind before others, where there is one
abbrev pub kind_before : {K : Type 0} → Option K → List K → List K
kind_before None ks = ks
kind_before (Some k) ks = k ∷ ks

-- the kinds of what these sources give
abbrev pub kinds_at : {K : Type 0} → Signatures K → List Source → List K
kinds_at sigs [] = []
kinds_at sigs (c ∷ cs) = kind_before (kind_of sigs c) (kinds_at sigs cs)

-- the kinds of all channels of a composite of SDF: a channel that ends nowhere has the kind of the own input at which it begins
abbrev pub kinds_in : {K : Type 0} → Signatures K → SdfPlan → List K
kinds_in sigs p = kinds_from sigs (kinds_at sigs (unfed p)) 0 p.net.places

-- each child from child i on has as many places as the net says
abbrev pub AreSized : {K : Type 0} → Signatures K → (i : ℕ) → List ℕ → Type 0
AreSized sigs i [] = Unit {0}
AreSized sigs i (n ∷ ns) = (length (sigs (i ∷ [])).places ≡ n) × AreSized sigs (suc i) ns

module _ {T K A : Type 0} (Has : K → T → Type 0) (Below : K → K → Type 0) (Fits : Signature K → A → Type 0) where
  -- what comes from a source is of the kind; nothing comes from a port that isn't there
  abbrev pub IsFed : Option K → K → Type 0
  IsFed None k = Unit {0}
  IsFed (Some j) k = Below j k

  -- channel by channel
  abbrev pub AreFed : Signatures K → List Source → List K → Type 0
  AreFed sigs [] [] = Unit {0}
  AreFed sigs (c ∷ cs) (k ∷ ks) = IsFed (kind_of sigs c) k × AreFed sigs cs ks
  AreFed sigs [] (k ∷ ks) = ⊥
  AreFed sigs (c ∷ cs) [] = ⊥

  -- The net of a composite of so many children, with channels of these kinds that end nowhere: it has an entry for each child, and its channels lead from kind to kind.
  pub record IsTypedNet (sigs : Signatures K) (count : ℕ) (net : Net) (ends : List K) : Type 0 where
    pub places_counted : length net.places ≡ count
    pub sized : AreSized sigs 0 net.places
    pub fed : AreFed sigs net.sources (kinds_from sigs ends 0 net.places)

  -- A composite of SDF: its plan has an entry for each child and for each own output, each place of a child has its channel, and the tokens that the channels hold are of their kinds.
  pub record IsTypedSdf (sigs : Signatures K) (count : ℕ) (p : SdfPlan) (X : Streams T) : Type 0 where
    pub typed_net : IsTypedNet sigs count p.net (kinds_at sigs (unfed p))
    pub repetitions_counted : length p.repetitions ≡ count
    pub rates_counted : length p.rates ≡ count
    pub gives_counted : length p.gives ≡ length (sigs []).outputs
    pub room : total p.net.places ≤ length X
    pub held : AreOf Has (kinds_in sigs p) X

  -- of PN
  pub record IsTypedPn (sigs : Signatures K) (count : ℕ) (p : PnPlan) (X : Streams T) : Type 0 where
    pub typed_net : IsTypedNet sigs count p.net []
    pub room : total p.net.places ≤ length X
    pub held : AreOf Has (kinds_from sigs [] 0 p.net.places) X

  -- of Rendezvous: what is gathered or has still to be put is of the kind of its channel
  pub record IsTypedRv (sigs : Signatures K) (count : ℕ) (p : RvPlan) (X : Places T) : Type 0 where
    pub typed_net : IsTypedNet sigs count p.net []
    pub barriers_counted : length p.barriers ≡ count
    pub seated : IsSeated p.net count X
    pub held : (c : ℕ) (k : K) (x : T) → InPlaces p.net X c x → get (kinds_from sigs [] 0 p.net.places) c ≡ Some k → Has k x

  -- The refinement of number i: what comes to its places from like-named own inputs is of their kinds, and so is what the own outputs have of it.
  pub record IsTypedRefinement (sigs : Signatures K) (chart : Chart T) (i : ℕ) : Type 0 where
    pub places_counted : length (chart.in_ports i) ≡ length (sigs (i ∷ [])).places
    pub outputs_counted : length (chart.out_ports i) ≤ length (sigs []).outputs
    pub fed : (q p : ℕ) (k : K) → get (chart.in_ports i) q ≡ Some p → get (sigs (i ∷ [])).places q ≡ Some k → IsFed (get (sigs []).places p) k
    pub shown : (o p : ℕ) (k : K) → get (chart.out_ports i) o ≡ Some (Some p) → get (sigs []).outputs o ≡ Some k → IsFed (get (sigs (i ∷ [])).outputs p) k

  -- Of Modal, whose Variables are of kinds of their own: from tokens of these kinds its actions give such tokens alone.
  pub record IsTypedModal (sigs : Signatures K) (count : ℕ) (chart : Chart T) (m : Modes T) : Type 0 where
    pub variables : List K
    pub held : AreEach Has variables m.values
    pub outputs_counted : chart.outputs ≤ length (sigs []).outputs
    pub refinements : (i : ℕ) → i < count → IsTypedRefinement sigs chart i
    pub acts : (early : Bool) (mode n : ℕ) (values new : List T) (inputs given out : Streams T) → AreEach Has variables values → AreAllOf Has (sigs []).places inputs → AreOf Has (sigs []).outputs given →
        chart.act early mode n values inputs given ≡ Acts out new → AreOf Has (sigs []).outputs out × AreEach Has variables new

  -- a composite by its director: SR and DE keep no tokens on their channels
  abbrev pub IsTypedCore : Signatures K → ℕ → Core T → Type 0
  IsTypedCore sigs n (Sdf p X) = IsTypedSdf sigs n p X
  IsTypedCore sigs n (Pn p X) = IsTypedPn sigs n p X
  IsTypedCore sigs n (Sr p) = IsTypedNet sigs n p.net []
  IsTypedCore sigs n (De p) = IsTypedNet sigs n p.net []
  IsTypedCore sigs n (Rv p X) = IsTypedRv sigs n p X
  IsTypedCore sigs n (Modal chart m) = IsTypedModal sigs n chart m

  -- Each library actor fits its signature, and each composite is such a one: as it stands, and as a reset brings it back.
  abbrev mutual
    pub IsTypedNode : Signatures K → Node T A → Type 0
    IsTypedNode sigs (Actor h a b) = Fits (sigs []) a × Fits (sigs []) b
    IsTypedNode sigs (Composite h c d kids) = IsTypedCore sigs (length (list_of kids)) c × IsTypedCore sigs (length (list_of kids)) d × AreTypedNodes sigs 0 kids

    -- the children from child i on
    pub AreTypedNodes : Signatures K → (i : ℕ) → Nodes T A → Type 0
    AreTypedNodes sigs i none = Unit {0}
    AreTypedNodes sigs i (more n ns) = IsTypedNode (below sigs i) n × AreTypedNodes sigs (suc i) ns
