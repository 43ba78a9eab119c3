-- What a child takes, by what is lent to it. This speaks of each director.
use Rattle.std.proofs.Common.{◌≡◌, ℕ, zero, suc, length, replicate, refl, ap, ◌∙◌}
use Rattle.pt_meaning.specs.Basics.{Tag, Streams}
use Rattle.pt_meaning.specs.Tree as tree
use Rattle.pt_value.specs.declared.token.Token.{Token}
use Rattle.pt_core.specs.Lawful.{IsLentTo}
use Rattle.pt_core.specs.declared.either.Either.TheVariants.{First, Other}
use Rattle.pt_chart.specs.Chart.{chart_of}
use Rattle.pt_directors.specs.Directors.{Director}
use Rattle.pt_library.specs.declared.library_actor.LibraryActor.{LibraryActor}
use Rattle.pt_library.specs.declared.library_actor.LibraryActor.TheVariants.{Flow, Data, Time, Timed}
use Rattle.pt_library.specs.LibraryActor as library
use Rattle.pt_library.specs.LibraryActor.{rows}
use Rattle.pt_node.specs.declared.body.Body.{Body}
use Rattle.pt_node.specs.declared.body.Body.TheVariants as body
use Rattle.pt_node.specs.Shown.{Shown, AllShown, Branch}
use Rattle.pt_node.specs.View.{node_of, nodes_of, node_with}
use Rattle.pt_node.specs.Live.{Takes, TakesBody, TakenBy}

actor-takes : (tag : Tag) (actor : LibraryActor) (X : Streams Token) → library.Takes tag actor X
actor-takes tag (Flow actor) X = tt
actor-takes tag (Data actor) X = tt
actor-takes tag (Time actor) X = tt
actor-takes tag (Timed actor) X = tt

long-replicate : (n m : ℕ) → length (replicate n m) ≡ n
long-replicate zero m = refl
long-replicate (suc n) m = ap (λ k. suc k) (long-replicate n m)

director-takes : (h : tree.Past) (d : Director) (ks : AllShown) (X : Streams Token) → IsLentTo rows (node_with h (body.Composite d) (nodes_of ks)) X → TakenBy d X
director-takes h (First s) ks X l = l.places s.plan.takes refl
director-takes h (Other (First s)) ks X l = l.places (replicate s.tick.plan.inputs 1) refl ∙ long-replicate s.tick.plan.inputs 1
director-takes h (Other (Other (First s))) ks X l = l.places (replicate s.plan.inputs 1) refl ∙ long-replicate s.plan.inputs 1
director-takes h (Other (Other (Other (First s)))) ks X l = l.places s.network.plan.takes refl
director-takes h (Other (Other (Other (Other (First s))))) ks X l = l.places (replicate (chart_of s.plan.machine).inputs 1) refl ∙ long-replicate (chart_of s.plan.machine).inputs 1
director-takes h (Other (Other (Other (Other (Other s))))) ks X l = l.places s.processes.plan.takes refl

body-takes : (tag : Tag) (h : tree.Past) (b : Body) (ks : AllShown) (X : Streams Token) → IsLentTo rows (node_with h b (nodes_of ks)) X → TakesBody tag b X
body-takes tag h (body.Actor held) ks X l = actor-takes tag held.actor X
body-takes tag h (body.Composite d) ks X l = director-takes h d ks X l

pub lent-takes : (tag : Tag) (s : Shown) (X : Streams Token) → IsLentTo rows (node_of s) X → Takes tag s X
lent-takes tag (Branch f ks) X l = body-takes tag f.past f.body ks X l
