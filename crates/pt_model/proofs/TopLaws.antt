-- What is known of the node at the top of a net.
use Rattle.std.proofs.Common.{◌≡◌, ◌⊎◌, inl, inr, ℕ, ◌+◌, List, [], ◌∷◌, length, map, filter, refl, sym, ap, subst, ◌∙◌, Bool, true, false, not, cond, arith}
use Rattle.std.specs.Prelude.{Option, Some, None, IsSome, option_map, count_by, nat_eq, ◌&&◌, bytes_eq, codes, Vec, if◌then◌else◌}
use Rattle.std.specs.Global.{Global}
use Rattle.std.proofs.lemmas.List.{length-map}
use Rattle.std.proofs.lemmas.Option.{none-some, same_Some}
use Rattle.std.proofs.lemmas.List.Recursion.{is_count_by}
use Rattle.std.specs.Option.{is_none}
use Rattle.std.proofs.lemmas.Slice.Eq.{bytes_eq-Decides}
use Rattle.pt_meaning.specs.Tree as tree
use Rattle.pt_document.specs.declared.classes.Director.{Director}
use Rattle.pt_document.specs.declared.classes.Director.TheVariants.{Sdf, Pn, Rendezvous, Sr, De}
use Rattle.pt_document.specs.declared.code.Code.TheVariants as code
use Rattle.pt_document.specs.Classes.{DirectorClass, director_in as row_in, director_row, directors}
use Rattle.pt_document.specs.declared.job.Direction.{Direction}
use Rattle.pt_document.specs.declared.job.Direction.TheVariants.{Input, Output}
use Rattle.pt_document.specs.declared.job.Port.{Port}
use Rattle.pt_document.specs.Document.{PropertyTree, PortTree}
use Rattle.pt_document.specs.View.{port_view}
use Rattle.pt_value.specs.declared.token.Token.{Token}
use Rattle.pt_net.specs.declared.net.Net.{Net}
use Rattle.pt_net.specs.declared.net.NetDirector.{NetDirector}
use Rattle.pt_net.specs.declared.net.NetEntity.{NetEntity}
use Rattle.pt_net.specs.Net.{director_view, entity_view}
use Rattle.pt_net.specs.Inside.{is_inward, is_input, is_output}
use Rattle.pt_scopes.specs.declared.values.Values.{Values}
use Rattle.pt_scopes.specs.Scopes.{net_view}
use Rattle.pt_scopes.specs.Valued.{IsValued}
use Rattle.pt_scopes.specs.Sites.{is_input_port, port_name, inputs_of}
use Rattle.pt_start.specs.Places.{director_in}
use Rattle.pt_start.specs.Misplaced.{undirected}
use Rattle.pt_start.proofs.Outward.{view-at}
use Rattle.pt_job.specs.Inputs.{inputs_at, own_inputs, ComeTo, AreSupplied, has_ticks, ticks_at, may_lack, has_time, time_at, is_timed}
use Rattle.pt_job.specs.Iterations.{iterations}
use Rattle.pt_core.specs.declared.either.Either.TheVariants.{First, Other}
use Rattle.pt_sdf.specs.Clauses as sdf
use Rattle.pt_sr.specs.Clauses as sr
use Rattle.pt_de_laws.specs.DeActs as de
use Rattle.pt_pn_laws.specs.PnActs as pn
use Rattle.pt_chart.specs.Machine.{Machine}
use Rattle.pt_modal_laws.specs.ModalActs as modal
use Rattle.pt_rv_laws.specs.RvActs as rv
use Rattle.pt_directors.specs.Directors.{Director as DirectorState, of_pn, of_modal, of_rendezvous}
use Rattle.pt_node.specs.declared.body.Body.{Body}
use Rattle.pt_node.specs.declared.body.Body.TheVariants.{Actor, Composite}
use Rattle.pt_past.specs.Recorded.{RecordedPort}
use Rattle.pt_node.specs.Shown.{Shown, AllShown, Branch, none, more, all_of, list_of}
use Rattle.pt_node.specs.View.{Tree, Trees, core_of, node_of, nodes_of, node_with}
use Rattle.pt_library.specs.LibraryActor.{rows}
use Rattle.pt_trees.specs.Composite.{children_in, trees_of}
use Rattle.pt_trees.specs.Fresh as fresh
use Rattle.pt_trees.specs.Fresh.{IsFresh}
use Rattle.pt_trees.specs.Trees.{IsEntity, around_in, Starts}
use Rattle.pt_trees.specs.declared.directing.Directing.{Directing}
use Rattle.pt_trees.specs.declared.directing.Directing.TheVariants.{By, Modal}
use Rattle.pt_trees.specs.Directors.{named, IsDirectedBy, composing}
use Rattle.pt_trees.specs.Built.{IsBuilt, AreBuilt, built_actor, built_composite, none_built, more_built}
use Rattle.pt_trees.specs.Start.{IsBranched, HasLeaves, AllHaveLeaves, AreUntold, IsUnrecorded, AllUnrecorded, IsRunnable}
use Rattle.pt_agenda.specs.Events as agenda
use Rattle.pt_agenda.specs.Events.{AllAscend, events_of, tokens_in}
use Rattle.pt_trees.specs.declared.top.DeJob.{DeJob}
use Rattle.pt_trees.specs.declared.top.OnceJob.{OnceJob}
use Rattle.pt_trees.specs.declared.top.SdfJob.{SdfJob}
use Rattle.pt_trees.specs.declared.top.SrJob.{SrJob}
use Rattle.pt_trees.specs.declared.top.Top.{Top}
use Rattle.pt_trees.specs.declared.top.Top.TheVariants as top
use Rattle.pt_trees.specs.Top.{supply_of, IsJobFor}
use Rattle.pt_trees.proofs.DirectorLaws.{named-of, is-modal}
use Rattle.pt_order.specs.Laws.{IsNetOfDocument}
use Rattle.pt_buildable.proofs.Joined.{tops-iterate}
use Rattle.pt_elaboration.specs.Resolved.{IsPlaced}
use Rattle.pt_model.specs.Model.{IsCompositeBody}
use Rattle.pt_elaboration.proofs.Lists.{zip-length}

-- ---- the top is a composite

top-misplaced : (d : Option NetDirector) → d ≡ None → (nat_eq 0 0 && is_none (director_in (option_map director_view d))) ≡ true
top-misplaced d e = ap (λ (x : Option NetDirector). nat_eq 0 0 && is_none (director_in (option_map director_view x))) e

-- where each entity may stand where it stands, the top has a director
pub top-directed : (net : Net) (values : Values) (e : NetEntity) → IsPlaced net values → IsEntity net 0 e → e.director ≡ None → ⊥
top-directed net values e placed at is =
    placed code.Place 0 (record { entity = entity_view e; at = view-at entity_view net.entities.items 0 e at; refused = undirected (top-misplaced e.director is) })

-- a core that an entity may have, with so many own inputs
abbrev pub IsCoreOf : NetEntity → tree.Core Token → Type 0
IsCoreOf e (tree.Sdf p X) = IsDirectedBy e (By Sdf) × (length p.takes ≡ count_by is_input e.ports.items)
IsCoreOf e (tree.Pn p X) = IsDirectedBy e (By Pn) × (length p.takes ≡ count_by is_input e.ports.items)
IsCoreOf e (tree.Sr p) = IsDirectedBy e (By Sr) × (p.inputs ≡ count_by is_input e.ports.items)
IsCoreOf e (tree.De p) = IsDirectedBy e (By De) × (p.inputs ≡ count_by is_input e.ports.items)
IsCoreOf e (tree.Rv p X) = IsDirectedBy e (By Rendezvous) × (length p.takes ≡ count_by is_input e.ports.items)
IsCoreOf e (tree.Modal chart m) = ⊥

-- the node at the top is a composite
pub record HasCore (net : Net) (s : Shown) : Type 0 where
  pub entity : NetEntity
  pub at : IsEntity net 0 entity
  pub core : tree.Core Token
  pub kids : List Tree
  pub node : node_of s ≡ tree.composite core kids
  pub is : IsCoreOf entity core

-- so is each that its director makes, where it is no Modal entity
core-made : (by : Directing) (net : Net) (starts : Starts) (k : ℕ) (e : NetEntity) (kids : List Tree) (c : tree.Core Token) → (IsDirectedBy e Modal → ⊥) → IsDirectedBy e by → (composing by).IsCore (around_in net starts k e) kids c → IsCoreOf e c
core-made (By Sdf) net starts k e kids c plain directed has = subst (λ v. IsCoreOf e v) (sym has.is) (directed, has.planned.takes ∙ has.is_inside.inputs)
core-made (By Sr) net starts k e kids c plain directed has = subst (λ v. IsCoreOf e v) (sym has.is) (directed, refl)
core-made (By De) net starts k e kids c plain directed has = subst (λ v. IsCoreOf e v) (sym has.is) (directed, refl)
core-made (By Pn) net starts k e kids c plain directed has = subst (λ v. IsCoreOf e v) (sym has.is) (directed, has.wired.lawful.takes)
core-made (By Rendezvous) net starts k e kids c plain directed has = subst (λ v. IsCoreOf e v) (sym has.is) (directed, has.wired.rated.takes)
core-made Modal net starts k e kids c plain directed has = absurd (plain directed)

core-at : {net : Net} {starts : Starts} {k : ℕ} {s : Shown} (values : Values) → IsPlaced net values → k ≡ 0 → IsBuilt net starts k s → HasCore net s
core-at {net = net} values placed first (built_actor k e a at is starts_as) = absurd (top-directed net values e placed (subst (λ j. IsEntity net j e) first at) is.unnamed)
core-at {net = net} {starts = starts} values placed first (built_composite k e by kids s at directed all is) =
    let top = subst (λ j. IsEntity net j e) first at in
    record {
      entity = e;
      at = top;
      core = is.core;
      kids = trees_of kids;
      node = is.node;
      is = core-made by net starts k e (trees_of kids) is.core (λ modal. top-directed net values e placed top (is-modal e modal).unnamed) directed is.is_core;
    }

pub top-core : (net : Net) (values : Values) (starts : Starts) (s : Shown) → IsPlaced net values → IsBuilt net starts 0 s → HasCore net s
top-core net values starts s placed is = core-at values placed refl is

-- ---- what comes to its inputs

inward : (name : List ℕ) (d : Direction) (declared : Option (List ℕ)) (properties : List PropertyTree) → is_input_port (record { name = name; direction = d; declared = declared; properties = properties }) ≡ is_inward d
inward name Input declared properties = refl
inward name Output declared properties = refl

if-counted : (b : Bool) (p : PortTree) (ps : List PortTree) → length (map port_name (cond b (p ∷ ps) ps)) ≡ cond b (1 + length (map port_name ps)) (length (map port_name ps))
if-counted true p ps = omega arith
if-counted false p ps = refl

input-more : (p : Port) (ps : List Port) → length (map port_name (filter is_input_port (map port_view (p ∷ ps)))) ≡ cond (is_input p) (1 + length (map port_name (filter is_input_port (map port_view ps)))) (length (map port_name (filter is_input_port (map port_view ps))))
input-more p ps =
    let v : PortTree = port_view p in
    let vs : List PortTree = filter is_input_port (map port_view ps) in
    if-counted (is_input_port v) v vs ∙ ap (λ b. cond b (1 + length (map port_name vs)) (length (map port_name vs))) (inward v.name v.direction v.declared v.properties)

inputs-counted : (ps : List Port) → length (map port_name (filter is_input_port (map port_view ps))) ≡ count_by is_input ps
inputs-counted ps = is_count_by (λ (qs : List Port). length (map port_name (filter is_input_port (map port_view qs)))) is_input refl input-more ps

pub lists-counted : (net : Net) (values : Values) (e : NetEntity) (lists : List (List (Option Token))) → IsEntity net 0 e → AreSupplied (net_view net) values lists → length lists ≡ count_by is_input e.ports.items
lists-counted net values e lists at supplied =
    let own : own_inputs (net_view net) ≡ inputs_of (entity_view e) = ap inputs_at (view-at entity_view net.entities.items 0 e at) in
    sym (zip-length (ComeTo (net_view net) values) (own_inputs (net_view net)) lists supplied) ∙ ap (λ (v : List (List ℕ)). length v) own ∙ inputs-counted e.ports.items

-- how many ports pass a test, as they are seen
ports-counted : (test : PortTree → Bool) (own : Port → Bool) → ((p : Port) → test (port_view p) ≡ own p) → (ps : List Port) → length (filter test (map port_view ps)) ≡ count_by own ps
ports-counted test own same ps = is_count_by (λ (qs : List Port). length (filter test (map port_view qs))) own refl more ps
  where
    if-longer : (b : Bool) (p : PortTree) (qs : List PortTree) → length (cond b (p ∷ qs) qs) ≡ cond b (1 + length qs) (length qs)
    if-longer true p qs = omega arith
    if-longer false p qs = refl

    more : (p : Port) (qs : List Port) → length (filter test (map port_view (p ∷ qs))) ≡ cond (own p) (1 + length (filter test (map port_view qs))) (length (filter test (map port_view qs)))
    more p qs = let rest : List PortTree = filter test (map port_view qs) in if-longer (test (port_view p)) (port_view p) rest ∙ ap (λ b. cond b (1 + length rest) (length rest)) (same p)

pub inputs-viewed : (ps : List Port) → length (filter is_input_port (map port_view ps)) ≡ count_by is_input ps
inputs-viewed ps = ports-counted is_input_port is_input (λ p. let v : PortTree = port_view p in inward v.name v.direction v.declared v.properties) ps

pub outputs-viewed : (ps : List Port) → length (filter (λ (p : PortTree). not (is_input_port p)) (map port_view ps)) ≡ count_by is_output ps
outputs-viewed ps = ports-counted (λ (p : PortTree). not (is_input_port p)) is_output (λ p. let v : PortTree = port_view p in ap not (inward v.name v.direction v.declared v.properties)) ps

-- ---- its director

-- what a node is
abbrev pub body_of : Shown → Body
body_of (Branch f ks) = f.body

-- a composite has a director
directed : (h : tree.Past) (b : Body) (kids : Trees) (c : tree.Core Token) (ns : List Tree) → node_with h b kids ≡ tree.composite c ns → IsCompositeBody b
directed h (Actor held) kids c ns e = absurd (cc)
directed h (Composite director) kids c ns e = tt

pub top-directs : (net : Net) (s : Shown) → HasCore net s → IsCompositeBody (body_of s)
top-directs net (Branch f ks) has = directed f.past f.body (nodes_of ks) has.core has.kids has.node

-- the core of its director
core-in : tree.Core Token → Tree → tree.Core Token
core-in d (tree.Actor h a b) = d
core-in d (tree.Composite h c e kids) = e

core-is : (net : Net) (s : Shown) (has : HasCore net s) (d : DirectorState) → body_of s ≡ Composite d → IsCoreOf has.entity (core_of d)
unfolding core-in
core-is net (Branch f ks) has d e = subst (λ v. IsCoreOf has.entity v) (ap (core-in has.core) (sym has.node ∙ ap (λ b. node_with f.past b (nodes_of ks)) e)) has.is

-- under a director other than SR no token may be absent
class-director : List ℕ → Option Director
class-director class = option_map (λ (r : DirectorClass). r.director) (director_row class)

sr-director : class-director (codes "SR") ≡ Some Sr
unfolding class-director director_row directors
sr-director = refl

full-under : (by : Director) → (Sr ≡ by → ⊥) → (d : Option NetDirector) → named d ≡ Some by → has_ticks (option_map director_view d) ≡ false
unfolding class-director
full-under by other None e = refl
full-under by other (Some d) e = by-class (bytes_eq d.class (codes "SR")) refl
  where
    by-class : (b : Bool) → bytes_eq d.class (codes "SR") ≡ b → bytes_eq d.class (codes "SR") ≡ false
    by-class false is = is
    by-class true is = absurd (other (same_Some Sr by (sym sr-director ∙ ap class-director (sym ((bytes_eq-Decides d.class (codes "SR")).0 is)) ∙ e)))

present-under : (by : Director) → (Sr ≡ by → ⊥) → (net : Net) (e : NetEntity) → IsEntity net 0 e → IsDirectedBy e (By by) → may_lack (net_view net) ≡ false
present-under by other net e at directed = ap (λ o. ticks_at o) (view-at entity_view net.entities.items 0 e at) ∙ full-under by other e.director (named-of e by directed)

-- under DE the net is timed

-- each row of that director has this name
AreNamed : Director → List ℕ → List DirectorClass → Type 0
AreNamed want name [] = Unit {0}
AreNamed want name (r ∷ rows) = (r.director ≡ want → r.name ≡ name) × AreNamed want name rows

de-named : AreNamed De (codes "DE") directors
unfolding AreNamed directors
de-named = ((λ e. absurd (cc)), ((λ e. absurd (cc)), ((λ e. refl), ((λ e. absurd (cc)), ((λ e. absurd (cc)), tt)))))

row-name : (want : Director) (name : List ℕ) (rows : List DirectorClass) (class : List ℕ) → AreNamed want name rows → option_map (λ (r : DirectorClass). r.director) (row_in rows class) ≡ Some want → class ≡ name
unfolding AreNamed
row-name want name [] class all e = absurd (none-some want e)
row-name want name (r ∷ rows) class all e = by-test (bytes_eq r.name class) refl e (row-name want name rows class all.1)
  where
    by-test : (b : Bool) → bytes_eq r.name class ≡ b → option_map (λ (r : DirectorClass). r.director) (if b then Some r else row_in rows class) ≡ Some want → (option_map (λ (r : DirectorClass). r.director) (row_in rows class) ≡ Some want → class ≡ name) → class ≡ name
    by-test true is h rest = sym ((bytes_eq-Decides r.name class).0 is) ∙ all.0 (same_Some r.director want h)
    by-test false is h rest = rest h

pn-named : AreNamed Pn (codes "PN") directors
unfolding AreNamed directors
pn-named = ((λ e. absurd (cc)), ((λ e. absurd (cc)), ((λ e. absurd (cc)), ((λ e. refl), ((λ e. absurd (cc)), tt)))))

rv-named : AreNamed Rendezvous (codes "Rendezvous") directors
unfolding AreNamed directors
rv-named = ((λ e. absurd (cc)), ((λ e. absurd (cc)), ((λ e. absurd (cc)), ((λ e. absurd (cc)), ((λ e. refl), tt)))))

-- the director of a process network has this class, and that of processes that meet this one
pub pn-class : (d : NetDirector) → named (Some d) ≡ Some Pn → bytes_eq d.class (codes "PN") ≡ true
unfolding director_row
pn-class d e = (bytes_eq-Decides d.class (codes "PN")).1 (row-name Pn (codes "PN") directors d.class pn-named e)

pub rv-class : (d : NetDirector) → named (Some d) ≡ Some Rendezvous → bytes_eq d.class (codes "Rendezvous") ≡ true
unfolding director_row
rv-class d e = (bytes_eq-Decides d.class (codes "Rendezvous")).1 (row-name Rendezvous (codes "Rendezvous") directors d.class rv-named e)

de-has-time : (d : Option NetDirector) → named d ≡ Some De → has_time (option_map director_view d) ≡ true
unfolding director_row
de-has-time None e = absurd (none-some De e)
de-has-time (Some d) e = (bytes_eq-Decides d.class (codes "DE")).1 (row-name De (codes "DE") directors d.class de-named e)

pub de-timed : (net : Net) (s : Shown) (has : HasCore net s) (st : de.State) → body_of s ≡ Composite (Other (Other (First st))) → is_timed (net_view net) ≡ true
de-timed net s has st e =
    let by = (core-is net s has (Other (Other (First st))) e).0 in
    ap (λ o. time_at o) (view-at entity_view net.entities.items 0 has.entity has.at) ∙ de-has-time has.entity.director (named-of has.entity De by)

-- ---- how long the top lasts

some-number : (o : Option ℕ) (n : ℕ) → o ≡ Some n → IsSome o
some-number o n e = subst (λ (v : Option ℕ). IsSome v) (sym e) refl

iterates : (net : Net) (values : Values) (e : NetEntity) → IsNetOfDocument net → IsValued (net_view net) values → IsEntity net 0 e → IsDirectedBy e (By Sdf) ⊎ IsDirectedBy e (By Sr) → IsSome (iterations (net_view net) values)
iterates net values e doc valued at by = let n = tops-iterate net values e doc valued at by in some-number (iterations (net_view net) values) n.0 n.1

-- a top of SDF or SR has a number of iterations or ticks
pub sdf-iterates : (net : Net) (values : Values) (s : Shown) → IsNetOfDocument net → IsValued (net_view net) values → (has : HasCore net s) (st : sdf.State) → body_of s ≡ Composite (First st) → IsSome (iterations (net_view net) values)
sdf-iterates net values s doc valued has st e = iterates net values has.entity doc valued has.at (inl (core-is net s has (First st) e).0)

pub sr-iterates : (net : Net) (values : Values) (s : Shown) → IsNetOfDocument net → IsValued (net_view net) values → (has : HasCore net s) (st : sr.State) → body_of s ≡ Composite (Other (First st)) → IsSome (iterations (net_view net) values)
sr-iterates net values s doc valued has st e = iterates net values has.entity doc valued has.at (inr (core-is net s has (Other (First st)) e).0)

-- ---- the job of the top

pub sdf-top : (net : Net) (s : Shown) (has : HasCore net s) (st : sdf.State) → body_of s ≡ Composite (First st) → may_lack (net_view net) ≡ false
sdf-top net s has st e = present-under Sdf (λ same. (let no : Sr ≡ Sdf = same in cc)) net has.entity has.at (core-is net s has (First st) e).0

pub pn-top : (net : Net) (s : Shown) (has : HasCore net s) (st : pn.State) → body_of s ≡ Composite (of_pn st) → may_lack (net_view net) ≡ false
pn-top net s has st e = present-under Pn (λ same. (let no : Sr ≡ Pn = same in cc)) net has.entity has.at (core-is net s has (of_pn st) e).0

pub rv-top : (net : Net) (s : Shown) (has : HasCore net s) (st : rv.State) → body_of s ≡ Composite (of_rendezvous st) → may_lack (net_view net) ≡ false
rv-top net s has st e = present-under Rendezvous (λ same. (let no : Sr ≡ Rendezvous = same in cc)) net has.entity has.at (core-is net s has (of_rendezvous st) e).0

-- no top is Modal
pub modal-top : (net : Net) (s : Shown) (has : HasCore net s) (st : modal.State Machine) → body_of s ≡ Composite (of_modal st) → ⊥
modal-top net s has st e = core-is net s has (of_modal st) e

pub sdf-fits : (net : Net) (values : Values) (s : Shown) (has : HasCore net s) (st : sdf.State) (j : SdfJob) → body_of s ≡ Composite (First st) → AreSupplied (net_view net) values (supply_of (top.Sdf j)) → j.takes ≡ st.plan.takes → IsJobFor (top.Sdf j) (node_of s)
sdf-fits net values (Branch f ks) has st j e supplied takes =
    let is = core-is net (Branch f ks) has (First st) e in
    let long : length j.inputs.items ≡ length j.takes =
    sym (length-map j.inputs.items (λ (ts : List Token). map Some ts)) ∙ lists-counted net values has.entity (supply_of (top.Sdf j)) has.at supplied ∙ sym is.1 ∙ ap (λ (v : List ℕ). length v) (sym takes) in
    subst (λ b. IsJobFor (top.Sdf j) (node_with f.past b (nodes_of ks))) (sym e) (sym takes, long)

pub sr-fits : (net : Net) (values : Values) (s : Shown) (has : HasCore net s) (st : sr.State) (j : SrJob) → body_of s ≡ Composite (Other (First st)) → AreSupplied (net_view net) values (supply_of (top.Sr j)) → IsJobFor (top.Sr j) (node_of s)
sr-fits net values (Branch f ks) has st j e supplied =
    let is = core-is net (Branch f ks) has (Other (First st)) e in
    let long : length j.inputs.items ≡ st.tick.plan.inputs =
    sym (length-map j.inputs.items (λ (ts : Vec (Option Token) Global). ts.items)) ∙ lists-counted net values has.entity (supply_of (top.Sr j)) has.at supplied ∙ sym is.1 in
    subst (λ b. IsJobFor (top.Sr j) (node_with f.past b (nodes_of ks))) (sym e) long

pub de-fits : (net : Net) (values : Values) (s : Shown) (has : HasCore net s) (st : de.State) (j : DeJob) → body_of s ≡ Composite (Other (Other (First st))) → AreSupplied (net_view net) values (supply_of (top.De j)) → AllAscend j.inputs.items → IsJobFor (top.De j) (node_of s)
de-fits net values (Branch f ks) has st j e supplied ascend =
    let is = core-is net (Branch f ks) has (Other (Other (First st))) e in
    let E : List (List agenda.Event) = events_of j.inputs.items in
    let long : length j.inputs.items ≡ st.plan.inputs =
    sym (length-map j.inputs.items (λ (input : agenda.Input). input.items)) ∙ sym (length-map E tokens_in) ∙ lists-counted net values has.entity (supply_of (top.De j)) has.at supplied ∙ sym is.1 in
    subst (λ b. IsJobFor (top.De j) (node_with f.past b (nodes_of ks))) (sym e) (long, ascend)

pub pn-fits : (net : Net) (values : Values) (s : Shown) (has : HasCore net s) (st : pn.State) (j : OnceJob) → body_of s ≡ Composite (of_pn st) → AreSupplied (net_view net) values (supply_of (top.Once j)) → IsJobFor (top.Once j) (node_of s)
pn-fits net values (Branch f ks) has st j e supplied =
    let is = core-is net (Branch f ks) has (of_pn st) e in
    let long : length j.inputs.items ≡ length st.network.plan.takes =
    sym (length-map j.inputs.items (λ (ts : List Token). map Some ts)) ∙ lists-counted net values has.entity (supply_of (top.Once j)) has.at supplied ∙ sym is.1 in
    subst (λ b. IsJobFor (top.Once j) (node_with f.past b (nodes_of ks))) (sym e) long

pub rv-fits : (net : Net) (values : Values) (s : Shown) (has : HasCore net s) (st : rv.State) (j : OnceJob) → body_of s ≡ Composite (of_rendezvous st) → AreSupplied (net_view net) values (supply_of (top.Once j)) → IsJobFor (top.Once j) (node_of s)
rv-fits net values (Branch f ks) has st j e supplied =
    let is = core-is net (Branch f ks) has (of_rendezvous st) e in
    let long : length j.inputs.items ≡ length st.processes.plan.takes =
    sym (length-map j.inputs.items (λ (ts : List Token). map Some ts)) ∙ lists-counted net values has.entity (supply_of (top.Once j)) has.at supplied ∙ sym is.1 in
    subst (λ b. IsJobFor (top.Once j) (node_with f.past b (nodes_of ks))) (sym e) long

-- ---- library actors have no children

all-list : (ks : AllShown) → all_of (list_of ks) ≡ ks
all-list none = refl
all-list (more s ss) = ap (λ v. more s v) (all-list ss)

branched : (h : tree.Past) (b : Body) (ks : AllShown) (c : tree.Core Token) (ns : List Tree) → node_with h b (nodes_of ks) ≡ tree.composite c ns → IsBranched b ks
branched h (Actor held) ks c ns e = absurd (cc)
branched h (Composite director) ks c ns e = tt

composite-leaves : (s : Shown) (kids : List Shown) (c : tree.Core Token) (ns : List Tree) → node_of s ≡ tree.composite c ns → children_in s ≡ kids → AllHaveLeaves (all_of kids) → HasLeaves s
composite-leaves (Branch f ks) kids c ns e children leaves = (branched f.past f.body ks c ns e, subst (λ v. AllHaveLeaves v) (sym (ap all_of children) ∙ all-list ks) leaves)

mutual
  pub built-leaves : {net : Net} {starts : Starts} {k : ℕ} {s : Shown} → IsBuilt net starts k s → HasLeaves s
  built-leaves (built_actor k e a at is starts_as) = (refl, tt)
  built-leaves (built_composite k e by kids s at directed all is) = composite-leaves s kids _ _ is.node is.children (all-leaves all)

  all-leaves : {net : Net} {starts : Starts} {ks : List ℕ} {ss : List Shown} → AreBuilt net starts ks ss → AllHaveLeaves (all_of ss)
  all-leaves none_built = tt
  all-leaves (more_built k ks s ss one all) = (built-leaves one, all-leaves all)

-- ---- nothing is recorded

are-untold : (rs : List RecordedPort) → fresh.AreEmpty rs → AreUntold rs
are-untold [] h = tt
are-untold (r ∷ rs) h = (h.0, are-untold rs h.2)

mutual
  is-unrecorded : (s : Shown) → fresh.IsUnrecorded s → IsUnrecorded s
  is-unrecorded (Branch f ks) h = (are-untold f.records h.0, h.1, all-unrecorded ks h.2)

  all-unrecorded : (ss : AllShown) → fresh.AllUnrecorded ss → AllUnrecorded ss
  all-unrecorded none h = tt
  all-unrecorded (more s ss) h = (is-unrecorded s h.0, all-unrecorded ss h.1)

-- a top that is fresh and built may be run
pub is-runnable : (net : Net) (starts : Starts) (s : Shown) (job : Top) → IsBuilt net starts 0 s → IsFresh s → IsJobFor job (node_of s) → IsRunnable job s
is-runnable net starts s job built is fits = record {
  live = (is.live, is.fit);
  start = is.start;
  fitting = is.fitting;
  planned = is.plans;
  leaves = built-leaves built;
  unrecorded = is-unrecorded s is.unrecorded;
  fits = fits;
}
