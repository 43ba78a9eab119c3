-- The children of a composite of SDF need and give the same at each firing.
use Rattle.std.proofs.Common.{◌≡◌, inl, inr, ℕ, zero, suc, List, [], ◌∷◌, map, get_or, true, false, Option, Some, None, option_map, refl, sym, ap, subst, ◌∙◌}
use Rattle.std.specs.List.{slice_get}
use Rattle.std.proofs.lemmas.Bool.{both_ways}
use Rattle.std.proofs.lemmas.Option.{none-some, same_Some}
use Rattle.pt_meaning.specs.Streams.{get}
use Rattle.pt_document.specs.declared.code.Code.{Code}
use Rattle.pt_document.specs.declared.code.Code.TheVariants as code
use Rattle.pt_document.specs.declared.classes.Director.TheVariants.{Sdf, Pn, Rendezvous, Sr, De}
use Rattle.pt_value.specs.declared.token.Token.{Token}
use Rattle.pt_meaning.specs.Tree as tree
use Rattle.pt_net.specs.declared.net.Net.{Net}
use Rattle.pt_net.specs.declared.net.NetDirector.{NetDirector}
use Rattle.pt_net.specs.declared.net.NetEntity.{NetEntity}
use Rattle.pt_net.specs.Net.{NetEntityTree, director_view, entity_view}
use Rattle.pt_net.specs.Inside.{children_of}
use Rattle.pt_scopes.specs.declared.values.Values.{Values}
use Rattle.pt_scopes.specs.Scopes.{net_view}
use Rattle.pt_scopes.specs.Valued.{IsValued}
use Rattle.pt_typing.specs.Least.{Assignment}
use Rattle.pt_library.specs.declared.library_actor.LibraryActor.{LibraryActor}
use Rattle.pt_library.specs.LibraryActor as library
use Rattle.pt_start.specs.Places.{director_in, director_at, director_over, is_untimed, HasUntimedAbove, here}
use Rattle.pt_start.specs.Misplaced.{is_de, IsMisplaced, timed}
use Rattle.pt_start.proofs.Outward.{view-at}
use Rattle.pt_node.specs.View.{Tree}
use Rattle.pt_stated.specs.declared.stated.Stated.{Stated}
use Rattle.pt_chart.specs.Machine.{Machine}
use Rattle.pt_trees.specs.declared.directing.Directing.{Directing}
use Rattle.pt_trees.specs.declared.directing.Directing.TheVariants.{By, Modal}
use Rattle.pt_trees.specs.Rates.{tick_gives, core_rates, rates_of, rates_given, IsUnsteady, HasUnsteady}
use Rattle.pt_trees.specs.Around.{Around, ones_of, declared_as, declared_at}
use Rattle.pt_trees.specs.Directors.{named, IsDirectedBy, composing}
use Rattle.pt_trees.specs.Sr.{tick_plan}
use Rattle.pt_trees.specs.Trees.{Starts, StartsAs, IsEntity, stated_at, machine_at, declared_by, around_in, IsTree, of_actor, of_composite, AreTrees, no_trees, more_trees}
use Rattle.pt_trees.proofs.DirectorLaws.{named-of}
use Rattle.pt_order.proofs.Children.{child-stands}
use Rattle.pt_typed.specs.RowLaw.{types_of_ports, AreStartedIn}
use Rattle.pt_buildable.specs.Composites.{has_processes, HasUnstatedProcesses}
use Rattle.pt_buildable.proofs.Steady.{IsSteadyStart, steady-started}

-- ---- the director round an entity

same-director : (o : Option NetDirector) → director_in (option_map director_view o) ≡ named o
same-director None = refl
same-director (Some d) = refl

pub over-sdf : (net : Net) (k : ℕ) (e : NetEntity) → IsEntity net k e → IsDirectedBy e (By Sdf) → director_over (net_view net) (Some k) ≡ Some Sdf
over-sdf net k e at sdf = ap director_at (view-at entity_view net.entities.items k e at) ∙ same-director e.director ∙ named-of e Sdf sdf

-- ---- its children

tree-among : (net : Net) (starts : Starts) {cs : List ℕ} {ts : List Tree} → AreTrees net starts cs ts → (i : ℕ) (kid : Tree) → get ts i ≡ Some kid → (c : ℕ) × (slice_get cs i ≡ Some c) × IsTree net starts c kid
tree-among net starts no_trees i kid at = absurd (none-some kid at)
tree-among net starts (more_trees k ks t ts one all) zero kid at = (k, refl, subst (λ x. IsTree net starts k x) (same_Some t kid at) one)
tree-among net starts (more_trees k ks t ts one all) (suc i) kid at = tree-among net starts all i kid at

-- something is declared of what has a machine
machine-declares : (o : Option Stated) (machine : Option Machine) (m : Machine) → machine ≡ Some m → declared_as o machine ≡ None → ⊥
machine-declares None machine m has e = none-some (ones_of m) (sym e ∙ ap (λ (v : Option Machine). option_map ones_of v) has)
machine-declares (Some s) machine m has e = none-some s.gives (sym e)

-- a core that a composite has at its start has rates, but for that of DE, and those of processes; those of a Modal entity are declared
unrated-core : (director : Directing) (around : Around) (kids : List Tree) (core : tree.Core Token) (o : Option Stated) → (director ≡ By De → ⊥) → (composing director).IsCore around kids core → declared_as o around.machine ≡ None → core_rates core ≡ None → has_processes director ≡ true
unrated-core (By Sdf) around kids core o untimed is declared unrated = absurd (none-some is.plan.gives (sym unrated ∙ ap core_rates is.is))
unrated-core (By Sr) around kids core o untimed is declared unrated = absurd (none-some (tick_gives (tick_plan around)) (sym unrated ∙ ap core_rates is.is))
unrated-core (By De) around kids core o untimed is declared unrated = absurd (untimed refl)
unrated-core (By Pn) around kids core o untimed is declared unrated = refl
unrated-core (By Rendezvous) around kids core o untimed is declared unrated = refl
unrated-core Modal around kids core o untimed is declared unrated = absurd (machine-declares o around.machine is.wired.machine is.wired.is declared)

-- what is given of a child is what is declared of it, where it is
given-none : (declared : Option (List ℕ)) (kid : Tree) → rates_given declared kid ≡ None → (declared ≡ None) × (rates_of kid ≡ None)
given-none None kid e = (refl, e)
given-none (Some rates) kid e = absurd (none-some rates (sym e))

-- what declares nothing states nothing
nothing-stated : (o : Option Stated) (machine : Option Machine) → declared_as o machine ≡ None → o ≡ None
nothing-stated None machine e = refl
nothing-stated (Some s) machine e = absurd (none-some s.gives (sym e))

get-mapped : {A B : Type 0} (f : A → B) (d : B) (xs : List A) (i : ℕ) (x : A) → slice_get xs i ≡ Some x → get_or (map f xs) i d ≡ f x
get-mapped f d [] i x at = absurd (none-some x at)
get-mapped f d (y ∷ xs) zero x at = ap f (same_Some y x at)
get-mapped f d (y ∷ xs) (suc i) x at = get-mapped f d xs i x at

-- a composite that may be unsteady is one of processes of which nothing is stated, and no actor is that starts so
unsteady-kid : (net : Net) (starts : Starts) {c : ℕ} {kid : Tree} → IsTree net starts c kid → ((a : LibraryActor) → StartsAs starts c a → IsSteadyStart a) → ((e : NetEntity) → IsEntity net c e → IsDirectedBy e (By De) → ⊥) → IsUnsteady (declared_by starts c) kid → HasUnstatedProcesses net starts
unsteady-kid net starts (of_actor k e a at undirected started) steady untimed (inl unsteady) = absurd (both_ways (library.is_steady a) unsteady (steady a started).steady)
unsteady-kid net starts (of_actor k e a at undirected started) steady untimed (inr unrated) = absurd ((steady a started).rated (given-none (declared_by starts k) (tree.actor a) unrated).1)
unsteady-kid net starts (of_composite k e director kids core at by all is) steady untimed (inl unsteady) = absurd (let h : true ≡ false = unsteady in cc)
unsteady-kid net starts (of_composite k e director kids core at by all is) steady untimed (inr unrated) =
    let none = given-none (declared_by starts k) (tree.composite core kids) unrated in
    let processes = unrated-core director (around_in net starts k e) kids core (stated_at starts k) (λ de. untimed e at (by ∙ ap (λ (d : Directing). Option.Some d) de)) is none.0 none.1 in
    record { number = k; entity = e; at = at; director = director; by = by; processes = processes; unstated = nothing-stated (stated_at starts k) (machine_at starts k) none.0 }

-- a composite of DE may not stand in one of SDF
untimed-kid : (net : Net) (values : Values) → ((cause : Code) (k : ℕ) → IsMisplaced (net_view net) values cause k → ⊥) → (k c : ℕ) (e kid : NetEntity) → IsEntity net k e → IsDirectedBy e (By Sdf) → IsEntity net c kid → kid.parent ≡ Some k → IsDirectedBy kid (By De) → ⊥
untimed-kid net values placed k c e kid at sdf there parent de =
    let round : HasUntimedAbove (net_view net) (Some k) = here k (entity_view e) (view-at entity_view net.entities.items k e at) (ap is_untimed (same-director e.director ∙ named-of e Sdf sdf)) in
    let below : HasUntimedAbove (net_view net) (entity_view kid).parent = subst (λ (o : Option ℕ). HasUntimedAbove (net_view net) o) (sym parent) round in
    placed code.Timed c (record {
      entity = entity_view kid;
      at = view-at entity_view net.entities.items c kid there;
      refused = timed (record { timed = ap is_de (same-director kid.director ∙ named-of kid De de); below = below });
    })

pub unsteady-network : (net : Net) (values : Values) (typing : Assignment) (starts : Starts) → IsValued (net_view net) values → ((cause : Code) (k : ℕ) → IsMisplaced (net_view net) values cause k → ⊥) → AreStartedIn net values typing starts → (k : ℕ) (e : NetEntity) (kids : List Tree) → IsEntity net k e → IsDirectedBy e (By Sdf) →
    AreTrees net starts (children_of net.entities.items k) kids → HasUnsteady (around_in net starts k e) kids → HasUnstatedProcesses net starts
unsteady-network net values typing starts valued placed started k e kids at sdf all unsteady =
    let w = tree-among net starts all unsteady.0 unsteady.1 unsteady.2 in
    let child = child-stands k net.entities.items unsteady.0 w.0 w.1 in
    let declared : declared_at (around_in net starts k e).declared unsteady.0 ≡ declared_by starts w.0 = get-mapped (declared_by starts) None (children_of net.entities.items k) unsteady.0 w.0 w.1 in
    unsteady-kid net starts w.2 (λ a is. (
    let s = started w.0 a is in
    let same : s.0 ≡ child.0 = same_Some s.0 child.0 (sym s.1 ∙ child.1) in
    let from = s.3.started_from in
    let view : from.entity ≡ entity_view s.0 = same_Some from.entity (entity_view s.0) (sym from.at ∙ view-at entity_view net.entities.items w.0 s.0 s.1) in
    let parent : from.entity.parent ≡ Some k = ap (λ (x : NetEntityTree). x.parent) view ∙ ap (λ (x : NetEntity). x.parent) same ∙ child.2 in
    steady-started net values (types_of_ports typing) w.0 valued (λ cause. placed cause w.0) s.3.params from (ap (director_over (net_view net)) parent ∙ over-sdf net k e at sdf) a s.3.is)) (λ x there de. (
    let same : x ≡ child.0 = same_Some x child.0 (sym there ∙ child.1) in
    untimed-kid net values placed k w.0 e x at sdf there (ap (λ (y : NetEntity). y.parent) same ∙ child.2) de)) (subst (λ (d : Option (List ℕ)). IsUnsteady d unsteady.1) declared unsteady.3)
