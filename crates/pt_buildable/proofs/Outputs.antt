-- Where the channels of a composite begin that begin at a child which answers early: at its output. It is an actor of timed models, and these have one.
use Rattle.std.proofs.Common.{◌≡◌, ◌<◌, inl, inr, ℕ, zero, suc, List, [], ◌∷◌, Bool, true, false, not, cond, Option, Some, None, length, map, filter, take, refl, sym, ap, ap₂, subst, ◌∙◌, arith, if◌then◌else◌}
use Rattle.std.specs.List.{All, Contains, slice_get, count_by}
use Rattle.std.proofs.lemmas.Bool.{ne_eqb, eq-eqb, eqb-true}
use Rattle.std.proofs.lemmas.List.Elements.{All-nil, All-cons}
use Rattle.std.proofs.lemmas.Option.{none-some, same_Some}
use Rattle.pt_meaning.specs.Net as net_spec
use Rattle.pt_meaning.specs.Streams.{get}
use Rattle.pt_meaning.specs.Tree as tree
use Rattle.pt_document.specs.declared.job.Direction.{Direction}
use Rattle.pt_document.specs.declared.job.Port.{Port}
use Rattle.pt_document.specs.Classes.{ClassPort, Actor, kind_of}
use Rattle.pt_document.specs.Document.{PortTree}
use Rattle.pt_document.specs.View.{port_view}
use Rattle.pt_net.specs.declared.net.Channel.{Channel}
use Rattle.pt_net.specs.declared.net.Net.{Net}
use Rattle.pt_net.specs.declared.net.NetEntity.{NetEntity}
use Rattle.pt_net.specs.Table.{joined_ports}
use Rattle.pt_net.specs.Net.{NetEntityTree, row_port, entity_view}
use Rattle.pt_net.specs.Inside.{children_of, child_number, is_inward, is_input, is_output, number_by, port_number, ports_in, ports_at, source_of, is_within}
use Rattle.pt_scopes.specs.declared.values.Values.{Values}
use Rattle.pt_scopes.proofs.Places.{count-below}
use Rattle.pt_typing.specs.Least.{Assignment}
use Rattle.pt_flow_base.specs.declared.params.Params.{Params}
use Rattle.pt_lib_flow.specs.FlowActor as flow_actor
use Rattle.pt_lib_data.specs.DataActor as data_actor
use Rattle.pt_lib_time.specs.TimeActor as time_actor
use Rattle.pt_lib_timed.specs.declared.timed_actor.Class.{Class as TimedClass}
use Rattle.pt_lib_timed.specs.declared.timed_actor.Class.TheVariants as timed_class
use Rattle.pt_lib_timed.specs.declared.timed_actor.TimedActor.{TimedActor}
use Rattle.pt_lib_timed.specs.TimedActor as timed_actor
use Rattle.pt_library.specs.declared.library_actor.LibraryActor.{LibraryActor}
use Rattle.pt_library.specs.declared.library_actor.LibraryActor.TheVariants.{Flow, Data, Time, Timed}
use Rattle.pt_library.specs.LibraryActor as library
use Rattle.pt_scopes.specs.Scopes.{is_composite_class}
use Rattle.pt_start.proofs.Outward.{view-at}
use Rattle.pt_node.specs.View.{Tree}
use Rattle.pt_trees.specs.De.{BeginsAtOutput, HasOutput, HasOutputIf, IsOutputIf}
use Rattle.pt_trees.specs.Trees.{IsEntity, around_in, Starts, StartsAs, IsTree, of_actor, of_composite, AreTrees, no_trees, more_trees}
use Rattle.pt_order.specs.ClassPorts.{HasClassPorts, HaveClassPorts}
use Rattle.pt_order.specs.Wired.{BeginsIn, at_own, at_child, IsWired}
use Rattle.pt_order.proofs.Children.{child-number}
use Rattle.pt_typed.specs.RowLaw.{AreStartedIn}
use Rattle.pt_typed.proofs.ClassPorts.{class_head, heads_in, declares_in}
use Rattle.pt_typed.proofs.RowsMet.{one-of-four}
use Rattle.pt_typed.proofs.TimedClasses.{heads_of, heads-are, declares-none}
use Rattle.pt_typed.proofs.TimedStarts.{name_of, class-named, timed-in}

-- ---- the outputs of a class

abbrev is_outward : Direction → Bool
is_outward d = not (is_inward d)

-- how many of these directions lead out
abbrev outs : List Direction → ℕ
outs [] = 0
outs (d ∷ ds) = cond (is_outward d) (suc (outs ds)) (outs ds)

one-output : (c : TimedClass) → outs (map (λ (h : List ℕ × Direction). h.1) (heads_of c)) ≡ 1
one-output timed_class.CurrentTime = refl
one-output timed_class.DiscreteClock = refl
one-output timed_class.Register = refl
one-output timed_class.Sampler = refl
one-output timed_class.Server = refl
one-output timed_class.SingleEvent = refl
one-output timed_class.TimeDelay = refl

-- ---- the outputs of an entity

filtered : (ps : List Port) → length (filter is_output ps) ≡ outs (map (λ (p : Port). p.direction) ps)
filtered [] = refl
filtered (p ∷ ps) = chosen (is_output p) (filtered ps)
  where
    chosen : (b : Bool) → length (filter is_output ps) ≡ outs (map (λ (q : Port). q.direction) ps) → length (cond b (p ∷ filter is_output ps) (filter is_output ps)) ≡ cond b (suc (outs (map (λ (q : Port). q.direction) ps))) (outs (map (λ (q : Port). q.direction) ps))
    chosen true e = ap (λ n. suc n) e
    chosen false e = e

of-views : (ps : List Port) → map (λ (p : PortTree). p.direction) (map port_view ps) ≡ map (λ (p : Port). p.direction) ps
of-views [] = refl
of-views (p ∷ ps) = ap (λ ds. p.direction ∷ ds) (of-views ps)

of-rows : (ps : List ClassPort) → map (λ (p : PortTree). p.direction) (map row_port ps) ≡ map (λ (h : List ℕ × Direction). h.1) (map class_head ps)
of-rows [] = refl
of-rows (p ∷ ps) = ap (λ ds. p.direction ∷ ds) (of-rows ps)

module _ (net : Net) (k : ℕ) (e : NetEntity) (has : HasClassPorts net k e) (c : TimedClass) (named : e.class ≡ name_of c) where
  kind : kind_of (name_of c) ≡ Some (Actor has.class)
  kind = ap kind_of (sym named) ∙ has.kind

  undeclared : has.class.declares ≡ None
  undeclared = sym (ap declares_in kind) ∙ declares-none c

  rows-are : (entity_view e).ports ≡ map row_port has.class.ports
  rows-are = has.ports ∙ ap₂ (λ d ps. joined_ports d ps (map row_port has.class.ports)) undeclared (has.none undeclared)

  directions : map (λ (p : Port). p.direction) e.ports.items ≡ map (λ (h : List ℕ × Direction). h.1) (heads_of c)
  directions =
      sym (of-views e.ports.items) ∙ ap (λ (ps : List PortTree). map (λ (p : PortTree). p.direction) ps) rows-are ∙ of-rows has.class.ports ∙ ap (λ (hs : List (List ℕ × Direction)). map (λ (h : List ℕ × Direction). h.1) hs) (sym (ap heads_in kind) ∙ heads-are c)

  pub its-output : length (filter is_output e.ports.items) ≡ 1
  its-output = filtered e.ports.items ∙ ap outs directions ∙ one-output c

inward-not : (b : Bool) → not b ≡ true → b ≡ false
inward-not true e = sym e
inward-not false e = refl

-- the number of an output among the outputs
output-number : (ports : List Port) (i : ℕ) (p : Port) → slice_get ports i ≡ Some p → is_output p ≡ true → port_number ports i < length (filter is_output ports)
output-number ports i p at output =
    let is : port_number ports i ≡ count_by is_output (take i ports) = ap (number_by (take i ports)) at ∙ ap (λ b. if b then count_by is_input (take i ports) else count_by is_output (take i ports)) (inward-not (is_input p) output) in
    let below = count-below is_output ports i p at output in
    omega (arith, is, below)

-- ---- the channels of a composite

-- the tree of the child of that number
tree-of : (net : Net) (starts : Starts) {cs : List ℕ} {ts : List Tree} → AreTrees net starts cs ts → (i j : ℕ) → get cs i ≡ Some j → (t : Tree) × (get ts i ≡ Some t) × IsTree net starts j t
tree-of net starts no_trees i j e = absurd (none-some j e)
tree-of net starts (more_trees k ks t ts one all) zero j e = (t, refl, subst (λ n. IsTree net starts n t) (same_Some k j e) one)
tree-of net starts (more_trees k ks t ts one all) (suc i) j e = tree-of net starts all i j e

output-if : (b : Bool) (port : ℕ) → port < 1 → IsOutputIf b port 1
output-if true port h = h
output-if false port h = tt

begin-all : (es : List NetEntity) (kids : List Tree) (k : ℕ) (xs : List Channel) → ((x : Channel) → Contains xs x → is_within k x ≡ true → BeginsAtOutput kids (source_of es x)) → All (BeginsAtOutput kids) (map (source_of es) (filter (is_within k) xs))
begin-all es kids k [] h = All-nil (BeginsAtOutput kids)
begin-all es kids k (x ∷ xs) h = chosen (is_within k x) refl (begin-all es kids k xs (λ y c. h y (suc c.0, omega (arith, c.1), c.2)))
  where
    chosen : (b : Bool) → is_within k x ≡ b → All (BeginsAtOutput kids) (map (source_of es) (filter (is_within k) xs)) → All (BeginsAtOutput kids) (map (source_of es) (cond b (x ∷ filter (is_within k) xs) (filter (is_within k) xs)))
    chosen true is rest = All-cons (BeginsAtOutput kids) (source_of es x) (map (source_of es) (filter (is_within k) xs)) (h x (0, omega arith, refl) is) rest
    chosen false is rest = rest

module _ (net : Net) (values : Values) (typing : Assignment) (starts : Starts) (ports : HaveClassPorts net) (started : AreStartedIn net values typing starts) (k : ℕ) (owner : NetEntity) (there : IsEntity net k owner) (kids : List Tree) (trees : AreTrees net starts (children_of net.entities.items k) kids) where
  abbrev es : List NetEntity
  es = net.entities.items

  -- an actor of timed models has one output
  timed-output : (j : ℕ) (e : NetEntity) (a : TimedActor) → IsEntity net j e → StartsAs starts j (Timed a) → length (filter is_output e.ports.items) ≡ 1
  timed-output j e a at starts_as =
      let s = started j (Timed a) starts_as in
      let same : s.0 ≡ e = same_Some s.0 e (sym s.1 ∙ at) in
      let params : Params = s.3.params in
      let from = s.3.started_from in
      let view : from.entity ≡ entity_view e = same_Some from.entity (entity_view e) (sym from.at ∙ view-at entity_view es j e at) in
      let classed : params.class ≡ e.class = from.from.class_is ∙ ap (λ (x : NetEntityTree). x.class) view in
      let has : HasClassPorts net j e = ports j e at (ap (λ (x : NetEntity). is_composite_class x.class) (sym same) ∙ s.2) in
      let timed : timed_actor.start params ≡ Some a = timed-start params a s.3.is in
      let c = timed-in (timed_actor.class_of params.class) params a timed in
      its-output net j e has c.0 (sym classed ∙ class-named params.class c.0 c.1)
    where
      timed-start : (params : Params) (a : TimedActor) → library.start params ≡ Some (Timed a) → timed_actor.start params ≡ Some a
      timed-start params a is = elim (one-of-four Flow Data Time Timed (flow_actor.start params) (data_actor.start params.class params.values params.ports) (time_actor.start params) (timed_actor.start params) (Timed a) is) [
        | inl w ↦ absurd (let no : Flow w.0 ≡ Timed a = w.2 in cc)
        | inr (inl w) ↦ absurd (let no : Data w.0 ≡ Timed a = w.2 in cc)
        | inr (inr (inl w)) ↦ absurd (let no : Time w.0 ≡ Timed a = w.2 in cc)
        | inr (inr (inr w)) ↦ (let same : Timed w.0 ≡ Timed a = w.2 in let here : w.0 ≡ a = cc in w.1 ∙ ap (λ (v : TimedActor). Option.Some v) here)
      ]

  actor-output : (j : ℕ) (e : NetEntity) (a : LibraryActor) (port : ℕ) → IsEntity net j e → StartsAs starts j a → port < length (filter is_output e.ports.items) → HasOutput (tree.actor a) port
  actor-output j e (Flow a) port at starts_as h = tt
  actor-output j e (Data a) port at starts_as h = tt
  actor-output j e (Time a) port at starts_as h = tt
  actor-output j e (Timed a) port at starts_as h = output-if (timed_actor.whole a) port (omega (arith, h, timed-output j e a at starts_as))

  tree-output : (j : ℕ) (f : NetEntity) (t : Tree) (port : ℕ) → IsTree net starts j t → IsEntity net j f → port < length (filter is_output f.ports.items) → HasOutput t port
  tree-output j f t port (of_actor k e a at undirected starts_as) is h = actor-output j f a port is starts_as h
  tree-output j f t port (of_composite k e director ks core at by all has) is h = tt

  source-begins : (x : Channel) → x.composite ≡ k → BeginsIn net x → BeginsAtOutput kids (source_of es x)
  source-begins x in_k (at_own e p own at at-port input) =
      let is : source_of es x ≡ net_spec.Own (port_number (ports_at es x.from.entity) x.from.port) = ap (λ b. if b then net_spec.Own (port_number (ports_at es x.from.entity) x.from.port) else net_spec.Output (child_number es x.from.entity) (port_number (ports_at es x.from.entity) x.from.port)) (eq-eqb x.from.entity x.composite own) in
      subst (λ (s : net_spec.Source). BeginsAtOutput kids s) (sym is) tt
  source-begins x in_k (at_child e p other at parent at-port output) =
      let port : ℕ = port_number (ports_at es x.from.entity) x.from.port in
      let is : source_of es x ≡ net_spec.Output (child_number es x.from.entity) port = ap (λ b. if b then net_spec.Own (port_number (ports_at es x.from.entity) x.from.port) else net_spec.Output (child_number es x.from.entity) (port_number (ports_at es x.from.entity) x.from.port)) (ne_eqb x.from.entity x.composite other) in
      let number = child-number es x.from.entity k e owner at (parent ∙ ap (λ c. Some c) in_k) there in
      let w = tree-of net starts trees (child_number es x.from.entity) x.from.entity number in
      let its : ports_at es x.from.entity ≡ e.ports.items = ap ports_in at in
      let below : port < length (filter is_output e.ports.items) = subst (λ (ps : List Port). port_number ps x.from.port < length (filter is_output e.ports.items)) (sym its) (output-number e.ports.items x.from.port p at-port output) in
      subst (λ (s : net_spec.Source). BeginsAtOutput kids s) (sym is) (subst (λ (o : Option Tree). HasOutputIf o port) (sym w.1) (tree-output x.from.entity e w.0 port w.2 at below))

  pub begin-at-outputs : IsWired net → All (BeginsAtOutput kids) (around_in net starts k owner).sources
  begin-at-outputs wired = begin-all es kids k net.channels.items (λ x c within. source-begins x (eqb-true x.composite k within) (wired.begin x c))
