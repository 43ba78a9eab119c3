-- The children of a composite of SDF: how many tokens each needs, gives and has at first.
use Rattle.std.proofs.Common.{◌≡◌, ◌≤◌, ◌-◌, ℕ, List, false, Option, Some, None, length, replicate, refl, sym, ap, subst, ◌∙◌, arith}
use Rattle.std.specs.Prelude.{slice_get, count_by}
use Rattle.std.proofs.lemmas.List.{length-replicate}
use Rattle.std.proofs.lemmas.Option.{none-some, same_Some}
use Rattle.pt_meaning.specs.Machine.{Counts}
use Rattle.pt_meaning.specs.NodeFacts.{core_need, need_of}
use Rattle.pt_meaning.specs.Running.{total}
use Rattle.pt_meaning.specs.Start.{first_of_node}
use Rattle.pt_meaning.specs.Tree as tree
use Rattle.pt_value.specs.declared.token.Token.{Token}
use Rattle.pt_document.specs.declared.code.Code.{Code}
use Rattle.pt_document.specs.declared.classes.Director.TheVariants.{Sdf, Pn, Rendezvous, Sr, De}
use Rattle.pt_net.specs.declared.net.Net.{Net}
use Rattle.pt_net.specs.declared.net.NetEntity.{NetEntity}
use Rattle.pt_net.specs.Inside.{is_input, is_output}
use Rattle.pt_net.specs.Net.{NetEntityTree, entity_view}
use Rattle.pt_scopes.specs.declared.values.Values.{Values}
use Rattle.pt_scopes.specs.Scopes.{net_view, is_composite_class}
use Rattle.pt_scopes.specs.Valued.{IsValued}
use Rattle.pt_typing.specs.Least.{Assignment}
use Rattle.pt_machine.specs.Machines.{AreMachines}
use Rattle.pt_library.specs.declared.library_actor.LibraryActor.{LibraryActor}
use Rattle.pt_library.specs.LibraryActor.{rows}
use Rattle.pt_start.specs.Misplaced.{IsMisplaced}
use Rattle.pt_start.specs.Places.{director_over}
use Rattle.pt_start.specs.Started.{ports_of}
use Rattle.pt_start.proofs.Outward.{view-at}
use Rattle.pt_stated.specs.Laws.{StatedIsLawful}
use Rattle.pt_stated.specs.Networks.{AreStated}
use Rattle.pt_node.specs.View.{Tree}
use Rattle.pt_trees.specs.declared.directing.Directing.{Directing}
use Rattle.pt_trees.specs.declared.directing.Directing.TheVariants.{By, Modal}
use Rattle.pt_trees.specs.Around.{Around}
use Rattle.pt_trees.specs.Directors.{IsDirectedBy, composing}
use Rattle.pt_trees.specs.Rates.{core_rates, rates_of, rates_given}
use Rattle.pt_trees.specs.Trees.{IsEntity, Starts, StartsAs, declared_by, around_in, IsTree, of_actor, of_composite}
use Rattle.pt_order.specs.ClassPorts.{HaveClassPorts}
use Rattle.pt_typed.specs.RowLaw.{types_of_ports, AreStartedIn}
use Rattle.pt_buildable.proofs.Kids.{over-sdf}
use Rattle.pt_buildable.proofs.Steady.{IsSteadyStart, steady-started}
use Rattle.pt_plannable.proofs.Counts.{AreRates, ones-rates, actor-needs, actor-rates, takes-rates, gives-rates}
use Rattle.pt_plannable.proofs.Declared.{AreGiven, stated-takes, declared-gives}
use Rattle.pt_plannable.proofs.Firsts.{first-few}
use Rattle.pt_plannable.proofs.Ports.{actor-outputs}
use Rattle.pt_plannable.proofs.Seen.{tokens-short}

-- The tree of an entity needs and gives rates where what it gives is declared so, one for each of its outputs, and it has few first tokens.
pub record IsPlannable (e : NetEntity) (declared : Option (List ℕ)) (kid : Tree) : Type 0 where
  pub needs : (ns : List ℕ) → need_of rows kid ≡ Counts ns → AreRates ns
  pub gives : (rs : List ℕ) → rates_given declared kid ≡ Some rs → AreGiven e rs
  pub first : length (first_of_node rows (Some kid)) ≤ 65536

counts-same : (ms ns : List ℕ) → Counts ms ≡ Counts ns → ms ≡ ns
counts-same ms ns e = cc

-- what is declared is so, and else what its tree gives
gives-by : (e : NetEntity) (declared : Option (List ℕ)) (kid : Tree) (rs : List ℕ) → ((xs : List ℕ) → declared ≡ Some xs → AreGiven e xs) → ((xs : List ℕ) → rates_of kid ≡ Some xs → AreGiven e xs) → rates_given declared kid ≡ Some rs → AreGiven e rs
gives-by e None kid rs own its given = its rs given
gives-by e (Some xs) kid rs own its given = subst (AreGiven e) (same_Some xs rs given) (own xs refl)

module _ (law : StatedIsLawful) (net : Net) (values : Values) (typing : Assignment) (starts : Starts) (ports : HaveClassPorts net) (valued : IsValued (net_view net) values) (placed : (cause : Code) (n : ℕ) → IsMisplaced (net_view net) values cause n → ⊥) (started : AreStartedIn net values typing starts) (stated : AreStated (net_view net) values starts.stated) (machines : AreMachines net values typing starts.machines) where
  -- ---- composites

  core-needs : (k : ℕ) (e : NetEntity) (director : Directing) (kids : List Tree) (core : tree.Core Token) (ns : List ℕ) → IsEntity net k e → (composing director).IsCore (around_in net starts k e) kids core → core_need core ≡ Counts ns → AreRates ns
  core-needs k e (By Sdf) kids core ns at is needs = subst AreRates (counts-same is.plan.takes ns (sym (ap core_need is.is) ∙ needs)) (takes-rates is.inside is.plan is.planned is.within)
  core-needs k e (By Sr) kids core ns at is needs = let n = count_by is_input e.ports.items in subst AreRates (counts-same (replicate n 1) ns (sym (ap core_need is.is) ∙ needs)) (ones-rates n)
  core-needs k e (By De) kids core ns at is needs = let n = count_by is_input e.ports.items in subst AreRates (counts-same (replicate n 1) ns (sym (ap core_need is.is) ∙ needs)) (ones-rates n)
  core-needs k e (By Pn) kids core ns at is needs = subst AreRates (counts-same is.wired.stated.takes ns (sym (ap core_need is.is) ∙ needs)) (stated-takes law net values typing starts stated machines k e is.wired.stated at is.wired.is)
  core-needs k e (By Rendezvous) kids core ns at is needs = subst AreRates (counts-same is.wired.stated.takes ns (sym (ap core_need is.is) ∙ needs)) (stated-takes law net values typing starts stated machines k e is.wired.stated at is.wired.is)
  core-needs k e Modal kids core ns at is needs = let n = length is.wired.machine.names.inputs in subst AreRates (counts-same (replicate n 1) ns (sym (ap core_need is.is) ∙ needs)) (ones-rates n)

  core-gives : (k : ℕ) (e : NetEntity) (director : Directing) (kids : List Tree) (core : tree.Core Token) (rs : List ℕ) → (composing director).IsCore (around_in net starts k e) kids core → core_rates core ≡ Some rs → AreGiven e rs
  core-gives k e (By Sdf) kids core rs is gives =
      let same : is.plan.gives ≡ rs = same_Some is.plan.gives rs (sym (ap core_rates is.is) ∙ gives) in
      subst (AreGiven e) same (record { rates = gives-rates is.inside is.plan is.planned is.within; counted = is.planned.gives ∙ is.is_inside.outputs })
  core-gives k e (By Sr) kids core rs is gives =
      let around : Around = around_in net starts k e in
      let n = length around.sources - total around.places in
      let same : replicate n 1 ≡ rs = same_Some (replicate n 1) rs (sym (ap core_rates is.is) ∙ gives) in
      let channels = is.wired.channels in
      let many : n ≡ count_by is_output e.ports.items = omega (arith, channels) in
      let long : length (replicate n 1) ≡ n = length-replicate n 1 in
      subst (AreGiven e) same (record { rates = ones-rates n; counted = long ∙ many })
  core-gives k e (By De) kids core rs is gives = absurd (none-some rs (sym (ap core_rates is.is) ∙ gives))
  core-gives k e (By Pn) kids core rs is gives = absurd (none-some rs (sym (ap core_rates is.is) ∙ gives))
  core-gives k e (By Rendezvous) kids core rs is gives = absurd (none-some rs (sym (ap core_rates is.is) ∙ gives))
  core-gives k e Modal kids core rs is gives = absurd (none-some rs (sym (ap core_rates is.is) ∙ gives))

  -- ---- entities

  -- an entity of a composite of SDF
  module _ (k c : ℕ) (e child : NetEntity) (at : IsEntity net k e) (sdf : IsDirectedBy e (By Sdf)) (there : IsEntity net c child) (parent : child.parent ≡ Some k) where
    actor-plannable : (a : LibraryActor) → StartsAs starts c a → IsPlannable child (declared_by starts c) (tree.actor a)
    actor-plannable a is =
        let s = started c a is in
        let params = s.3.params in
        let from = s.3.started_from in
        let same : s.0 ≡ child = same_Some s.0 child (sym s.1 ∙ there) in
        let view : from.entity ≡ entity_view child = same_Some from.entity (entity_view child) (sym from.at ∙ view-at entity_view net.entities.items c child there) in
        let plain : is_composite_class child.class ≡ false = ap (λ (x : NetEntity). is_composite_class x.class) (sym same) ∙ s.2 in
        let actor : is_composite_class from.entity.class ≡ false = ap (λ (x : NetEntityTree). is_composite_class x.class) view ∙ plain in
        let over : director_over (net_view net) from.entity.parent ≡ Some Sdf = ap (λ (x : NetEntityTree). director_over (net_view net) x.parent) view ∙ ap (director_over (net_view net)) parent ∙ over-sdf net k e at sdf in
        let steady : IsSteadyStart a = steady-started net values (types_of_ports typing) c valued (λ cause. placed cause c) params from over a s.3.is in
        let classed = from.from.class_is ∙ ap (λ (x : NetEntityTree). x.class) view in
        let listed = from.from.ports_are ∙ ap (λ (x : NetEntityTree). ports_of net.channels.items c x) view in
        record {
          needs = λ ns needs. actor-needs params a ns s.3.is steady.steady steady.rated needs;
          gives = λ rs given. gives-by child (declared_by starts c) (tree.actor a) rs (λ xs own. declared-gives law net values typing starts stated machines c child xs there own) (λ xs its. record { rates = actor-rates params a xs s.3.is its; counted = actor-outputs net c child (ports c child there plain) params a xs classed listed s.3.is its }) given;
          first = first-few params a (tokens-short net values (types_of_ports typing) c params valued from actor) s.3.is;
        }

    tree-plannable : {n : ℕ} {kid : Tree} → IsTree net starts n kid → n ≡ c → IsPlannable child (declared_by starts c) kid
    tree-plannable (of_actor n f a its undirected begins) is = actor-plannable a (subst (λ m. StartsAs starts m a) is begins)
    tree-plannable (of_composite n f director kids core its by all has) is =
        let same : f ≡ child = same_Some f child (sym its ∙ ap (λ m. slice_get net.entities.items m) is ∙ there) in
        record {
          needs = λ ns needs. core-needs n f director kids core ns its has needs;
          gives = λ rs given. gives-by child (declared_by starts c) (tree.composite core kids) rs (λ xs own. declared-gives law net values typing starts stated machines c child xs there own) (λ xs gives. subst (λ (x : NetEntity). AreGiven x xs) same (core-gives n f director kids core xs has gives)) given;
          first = omega arith;
        }

    pub plannable : (kid : Tree) → IsTree net starts c kid → IsPlannable child (declared_by starts c) kid
    plannable kid is = tree-plannable is refl
