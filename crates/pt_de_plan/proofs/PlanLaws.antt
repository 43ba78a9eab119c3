-- Depths by edges are the depths of the children, and with them a plan is lawful; where there is a loop none is.
use Rattle.std.proofs.Common.{◌≡◌, ℕ, zero, suc, ◌+◌, ◌-◌, ◌<◌, ◌≤◌, List, [], ◌∷◌, Bool, nat_lt, length, get_or, All, Contains, Some, inl, inr, sym, subst, ◌∙◌, arith}
use Rattle.std.specs.Prelude.{IfErr, IfOk, Result, Ok, Err, Vec}
use Rattle.std.specs.Global.{Global}
use Rattle.std.proofs.lemmas.Bool.{cases_Bool}
use Rattle.std.proofs.lemmas.Bool.Decides.{nat_tests}
use Rattle.std.proofs.lemmas.List.{length-map, ext_get_or, get_or_past}
use Rattle.std.proofs.lemmas.List.Elements.{All-map, All-contains, Contains-get_or}
use Rattle.pt_meaning.specs.Streams.{get}
use Rattle.pt_meaning.specs.Net as net
use Rattle.pt_meaning.specs.Valuation.{TickPlan}
use Rattle.pt_laws.specs.StartedRuns.{IsThere}
use Rattle.pt_core.specs.Source.{source_of}
use Rattle.pt_events.specs.declared.depth.DepthFault.{DepthFault}
use Rattle.pt_events.specs.declared.depth.DepthFault.TheVariants.{Loop, Memory}
use Rattle.pt_events.specs.Depths as graph
use Rattle.pt_events.specs.Depths.{AreBetween, AreDepths, Feeds, IsBetween, IsCycle, IsLoop, feeders, depth_after}
use Rattle.pt_events.proofs.DepthLaws.{depth_after-above, feeder-from, feeds-from}
use Rattle.pt_events.proofs.LeastLaws.{contains-head, contains-tail}
use Rattle.pt_de_laws.specs.State.{Roles}
use Rattle.pt_de_laws.specs.Lawful.{IsNamed, IsLawful}
use Rattle.pt_de_laws.proofs.PlaceLaws.{get-or-of, get-short}
use Rattle.pt_de_plan.specs.declared.inside.DeInside.{DeInside}
use Rattle.pt_de_plan.specs.Inside.{plan_of, roles_of, IsInside}
use Rattle.pt_de_plan.specs.Feeds.{FeedsAtOnce, IsZeroDelayLoop}
use Rattle.pt_de_plan.specs.Depths.{AreDepthsIn, FaultStands}
use Rattle.pt_de_plan.specs.Edges.{edges_from}
use Rattle.pt_de_plan.proofs.EdgeLaws.{Edge, channel-edge, edge-channel, among}

-- ---- edges and what they say

-- the edges of a composite
abbrev pub edges_in : TickPlan → List Bool → List (ℕ × ℕ)
edges_in p delayed = edges_from 0 p.net.places p.net.sources delayed

same-zero : (n : ℕ) → 0 + n ≡ n
same-zero n = omega arith

pub feeds-edge : (p : TickPlan) (delayed : List Bool) (j i : ℕ) → length delayed ≡ length p.net.sources → FeedsAtOnce p delayed j i → Feeds (edges_in p delayed) j i
feeds-edge p delayed j i l f =
    subst (λ t. Contains (edges_in p delayed) (j, t)) (same-zero i) (channel-edge 0 p.net.places p.net.sources delayed j i l (record { place = f.place; port = f.port; source = f.source; undelayed = f.undelayed }))

pub edge-feeds : (p : TickPlan) (delayed : List Bool) (j i : ℕ) → Feeds (edges_in p delayed) j i → FeedsAtOnce p delayed j i
edge-feeds p delayed j i h =
    let e : Edge 0 p.net.sources delayed p.net.places j i = edge-channel 0 p.net.places p.net.sources delayed j i h in
    let f : FeedsAtOnce p delayed j e.child = record { place = e.channel.place; port = e.channel.port; source = e.channel.source; undelayed = e.channel.undelayed } in
    subst (λ t. FeedsAtOnce p delayed j t) (sym (e.ends ∙ same-zero e.child)) f

-- a loop of edges is a loop without a delay
pub loop-is : (p : TickPlan) (delayed : List Bool) (children : List ℕ) → IsLoop (edges_in p delayed) children → IsZeroDelayLoop p delayed children
loop-is p delayed children l = record {
  some = l.some;
  next = λ k h. edge-feeds p delayed (get_or children k 0) (get_or children (k + 1) 0) (l.next k h);
  closed = edge-feeds p delayed (get_or children (length children - 1) 0) (get_or children 0 0) l.closed;
}

-- ---- both ends are children

get-of : {B : Type 0} (P : B → Type 0) (xs : List B) → All P xs → (k : ℕ) (x : B) → get xs k ≡ Some x → P x
get-of P xs all k x e = subst P (get-or-of xs k x x e) (all k x (get-short xs k x e))

pub sources-there : (x : DeInside) → IsInside x → All (IsThere x.inputs (length x.places)) (plan_of x).net.sources
sources-there x h = All-map (IsThere x.inputs (length x.places)) source_of x.sources.items h.there

feeder-there : (x : DeInside) → IsInside x → (j i : ℕ) → FeedsAtOnce (plan_of x) x.delayed.items j i → j < length x.places
feeder-there x h j i f =
    let k : (k : ℕ) × (get (plan_of x).net.sources k ≡ Some (net.Output j f.port)) = among (plan_of x).net.sources x.places i f.place (net.Output j f.port) f.source in
    get-of (IsThere x.inputs (length x.places)) (plan_of x).net.sources (sources-there x h) k.0 (net.Output j f.port) k.1

pub between : (x : DeInside) → IsInside x → AreBetween (length x.places) (edges_in (plan_of x) x.delayed.items)
between x h = λ k d l.
    let p : TickPlan = plan_of x in
    let es : List (ℕ × ℕ) = edges_in p x.delayed.items in
    let edge : ℕ × ℕ = get_or es k d in
    let there : Contains es (edge.0, edge.1) = Contains-get_or es k d l in
    let e : Edge 0 p.net.sources x.delayed.items x.places edge.0 edge.1 = edge-channel 0 x.places p.net.sources x.delayed.items edge.0 edge.1 there in (
      feeder-there x h edge.0 edge.1 (edge-feeds p x.delayed.items edge.0 edge.1 there),
      omega (arith, e.ends, e.inside),
    )

-- ---- depths

-- one child's depth is the greatest behind some, if any is above 0
depth_after-reached : (depths children : List ℕ) → 0 < depth_after depths children → (c : ℕ) × Contains children c × (depth_after depths children ≡ get_or depths c 0 + 1)
depth_after-reached depths [] h = absurd (omega (arith, h))
depth_after-reached depths (c ∷ cs) h = elim (cases_Bool (nat_lt (get_or depths c 0) (depth_after depths cs))) [
  | inl t ↦
      let below : get_or depths c 0 < depth_after depths cs = grind (arith, nat_tests, t) in
      let r : (b : ℕ) × Contains cs b × (depth_after depths cs ≡ get_or depths b 0 + 1) = depth_after-reached depths cs (omega (arith, below)) in
      (r.0, contains-tail c cs r.0 r.1, omega (arith, r.2, below))
  | inr f ↦
      let above : depth_after depths cs ≤ get_or depths c 0 = grind (arith, nat_tests, f) in
      (c, contains-head c cs, omega (arith, above))
]

pub depths-in : (x : DeInside) → IsInside x → (depths : List ℕ) → AreDepths (length x.places) (edges_in (plan_of x) x.delayed.items) depths → AreDepthsIn (plan_of x) x.delayed.items depths
depths-in x h depths d = record { counted = d.counted; above = above; reached = reached }
  where
    long : length x.delayed.items ≡ length (plan_of x).net.sources
    long = h.delayed ∙ sym (length-map x.sources.items source_of)

    above : (j i : ℕ) → FeedsAtOnce (plan_of x) x.delayed.items j i → get_or depths j 0 < get_or depths i 0
    above j i f =
        let e : Feeds (edges_in (plan_of x) x.delayed.items) j i = feeds-edge (plan_of x) x.delayed.items j i long f in
        let inside : i < length x.places = (All-contains (IsBetween (length x.places)) (edges_in (plan_of x) x.delayed.items) (j, i) (between x h) e).1 in
        omega (arith, d.each i inside, depth_after-above depths (feeders (edges_in (plan_of x) x.delayed.items) i) j (feeder-from (edges_in (plan_of x) x.delayed.items) j i e))

    reached : (i : ℕ) → 0 < get_or depths i 0 → (j : ℕ) × FeedsAtOnce (plan_of x) x.delayed.items j i × (get_or depths i 0 ≡ get_or depths j 0 + 1)
    reached i up = elim (cases_Bool (nat_lt i (length x.places))) [
      | inl t ↦
          let inside : i < length x.places = grind (arith, nat_tests, t) in
          let fs : List ℕ = feeders (edges_in (plan_of x) x.delayed.items) i in
          let r : (c : ℕ) × Contains fs c × (depth_after depths fs ≡ get_or depths c 0 + 1) = depth_after-reached depths fs (omega (arith, up, d.each i inside)) in
          (r.0, edge-feeds (plan_of x) x.delayed.items r.0 i (feeds-from (edges_in (plan_of x) x.delayed.items) r.0 i r.1), d.each i inside ∙ r.2)
      | inr f ↦
          let past : length depths ≤ i = grind (arith, nat_tests, f, d.counted) in
          absurd (omega (arith, up, get_or_past depths i 0 past))
    ]

-- ---- the plan

named-as : (x : DeInside) (c : net.Source) → IsThere x.inputs (length x.places) c → IsNamed (plan_of x) c
named-as x (net.Own port) h = h
named-as x (net.Output child port) h = h

pub plan-lawful : (x : DeInside) → IsInside x → (depths : List ℕ) → AreDepthsIn (plan_of x) x.delayed.items depths → IsLawful (plan_of x) (roles_of x depths)
plan-lawful x h depths d = record {
  depths = d.counted;
  early = h.early;
  whole = h.whole;
  starts = h.starts;
  delayed = h.delayed ∙ sym (length-map x.sources.items source_of);
  channels = omega (arith, h.channels, length-map x.sources.items source_of);
  named = λ c source e. named-as x source (get-of (IsThere x.inputs (length x.places)) (plan_of x).net.sources (sources-there x h) c source e);
  delays = h.delays;
  deeper = λ i q j port e f. d.above j i (record { place = q; port = port; source = e; undelayed = f });
}

-- ---- loops

module _ (p : TickPlan) (roles : Roles) (lawful : IsLawful p roles) where
  rises : (j i : ℕ) → FeedsAtOnce p roles.delayed j i → get_or roles.depths j 0 < get_or roles.depths i 0
  rises j i f = lawful.deeper i f.place j f.port f.source f.undelayed

  -- along a loop no depth is below the first
  along : (children : List ℕ) → IsZeroDelayLoop p roles.delayed children → (k : ℕ) → k < length children → get_or roles.depths (get_or children 0 0) 0 ≤ get_or roles.depths (get_or children k 0) 0
  along children l zero short = omega arith
  along children l (suc k) short =
      let up : get_or roles.depths (get_or children k 0) 0 < get_or roles.depths (get_or children (k + 1) 0) 0 = rises (get_or children k 0) (get_or children (k + 1) 0) (l.next k (omega (arith, short))) in
      let e : k + 1 ≡ suc k = omega arith in
      omega (arith, along children l k (omega (arith, short)), subst (λ j. get_or roles.depths (get_or children k 0) 0 < get_or roles.depths (get_or children j 0) 0) e up)

  no-loop : (children : List ℕ) → IsZeroDelayLoop p roles.delayed children → ⊥
  no-loop children l =
      omega (arith, along children l (length children - 1) (omega (arith, l.some)), rises (get_or children (length children - 1) 0) (get_or children 0 0) l.closed)

pub loop-unlawful : (p : TickPlan) (roles : Roles) (children : List ℕ) → IsZeroDelayLoop p roles.delayed children → IsLawful p roles → ⊥
loop-unlawful p roles children l lawful = no-loop p roles lawful children l

-- ---- depths are alone

module _ (p : TickPlan) (delayed : List Bool) where
  -- no depth is below that of the other list, up to a depth, which counts the steps of the induction
  no-less : (a b : List ℕ) → AreDepthsIn p delayed a → AreDepthsIn p delayed b → (bound i : ℕ) → get_or a i 0 < bound → get_or a i 0 ≤ get_or b i 0
  no-less a b h k zero i l = absurd (omega (arith, l))
  no-less a b h k (suc bound) i l = elim (cases_Bool (nat_lt 0 (get_or a i 0))) [
    | inl t ↦
        let r : (j : ℕ) × FeedsAtOnce p delayed j i × (get_or a i 0 ≡ get_or a j 0 + 1) = h.reached i (grind (arith, nat_tests, t)) in
        omega (arith, r.2, no-less a b h k bound r.0 (omega (arith, l, r.2)), k.above r.0 i r.1)
    | inr f ↦
        let none : get_or a i 0 ≤ 0 = grind (arith, nat_tests, f) in
        omega (arith, none)
  ]

  pub depths-alone : (a b : List ℕ) → AreDepthsIn p delayed a → AreDepthsIn p delayed b → a ≡ b
  depths-alone a b h k =
      ext_get_or 0 a b (h.counted ∙ sym k.counted) (λ i l.
      let up : get_or a i 0 ≤ get_or b i 0 = no-less a b h k (suc (get_or a i 0)) i (omega arith) in
      let down : get_or b i 0 ≤ get_or a i 0 = no-less b a k h (suc (get_or b i 0)) i (omega arith) in
      omega (arith, up, down))

-- ---- what the planner is told

pub between-of : (x : DeInside) → IsInside x → (n : ℕ) (es : List (ℕ × ℕ)) → n ≡ length x.places → es ≡ edges_in (plan_of x) x.delayed.items → AreBetween n es
between-of x h n es count is = subst (λ m. AreBetween m es) (sym count) (subst (λ fs. AreBetween (length x.places) fs) (sym is) (between x h))

pub depths-of : (x : DeInside) → IsInside x → (n : ℕ) (es : List (ℕ × ℕ)) → n ≡ length x.places → es ≡ edges_in (plan_of x) x.delayed.items → (r : Result (Vec ℕ Global) DepthFault) → IfOk r (λ depths. AreDepths n es depths.items) → IfOk r (λ depths. AreDepthsIn (plan_of x) x.delayed.items depths.items)
depths-of x h n es count is (Ok depths) d = depths-in x h depths.items (subst (λ fs. AreDepths (length x.places) fs depths.items) is (subst (λ m. AreDepths m es depths.items) count d))
depths-of x h n es count is (Err fault) d = tt

stands-of : (x : DeInside) (es : List (ℕ × ℕ)) → es ≡ edges_in (plan_of x) x.delayed.items → (fault : DepthFault) → graph.FaultStands es fault → FaultStands x fault
stands-of x es is (Loop children) l = loop-is (plan_of x) x.delayed.items children.items (subst (λ fs. IsLoop fs children.items) is l)
stands-of x es is Memory l = tt

pub fault-of : (x : DeInside) (es : List (ℕ × ℕ)) → es ≡ edges_in (plan_of x) x.delayed.items → (r : Result (Vec ℕ Global) DepthFault) → IfErr r (graph.FaultStands es) → IfErr r (FaultStands x)
fault-of x es is (Ok depths) d = tt
fault-of x es is (Err fault) d = stands-of x es is fault d
