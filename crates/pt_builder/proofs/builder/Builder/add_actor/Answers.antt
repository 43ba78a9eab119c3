use Rattle.std.proofs.Common.{◌≡◌, ℕ, List, refl, sym, ap, subst, ◌∙◌}
use Rattle.pt_library.specs.declared.library_actor.LibraryActor.{LibraryActor}
use Rattle.pt_node.specs.declared.body.Held.{Held}
use Rattle.pt_past.specs.Recorded.{RecordedPort}
use Rattle.pt_node.specs.Shown.{Shown}
use Rattle.pt_trees.specs.Fresh.{IsFresh}
use Rattle.pt_trees.specs.Recorded.{recorded_at, recorded_of, numbers_at}
use Rattle.pt_trees.specs.Built.{IsBuilt, built_actor, unstarted, held_node, actor_node}
use Rattle.pt_builder.proofs.TreeLaws.{actor-fresh, recorded-empty}
use Rattle.pt_builder.specs.Starts.{starts_in}
use Rattle.pt_builder.proofs.builder.Builder.add_actor.Goals as goal

shows : (s : Shown) (held : Held) (a : LibraryActor) (path text : List ℕ) (records rs : List RecordedPort) → s ≡ held_node held path records → held ≡ record { start = a; actor = a } → path ≡ text → records ≡ rs → s ≡ actor_node a text rs
shows s held a path text records rs is held_is path_is records_are =
    is ∙ ap (λ (h : Held). held_node h path records) held_is ∙ ap (λ (p : List ℕ). actor_node a p records) path_is ∙ ap (λ (v : List RecordedPort). actor_node a text v) records_are

pub returns-in_default-clause-stands : goal.returns-in_default-clause-stands
returns-in_default-clause-stands c = unstarted c.args.k c.args.entity.now c.requires.entity c.requires.undirected c.in_default.ensures.none

pub returns-clause-added : goal.returns-clause-added
returns-clause-added c =
    let net = c.args.self.now.net.now in
    let e = c.args.entity.now in
    let a = c.in-Some.actor.now in
    let same = sym (shows _ c.in_ok-held.held a c.in_ok-path.path e.path c.in_ok-records.records (recorded_of net c.args.k e) c.actor_node.ensures c.in_ok-held.ensures c.in_ok-path.ensures c.in_ok-records.ensures) in
    record {
      node = c.actor_node.result;
      is_last = c.in_ok-push.ensures.items;
      built = subst (λ (s : Shown). IsBuilt net (starts_in c.args.self.now) c.args.k s) same (built_actor c.args.k e a c.requires.entity c.requires.undirected c.in-Some.ensures.some);
      fresh = subst (λ (s : Shown). IsFresh s) same (actor-fresh a e.path (recorded_of net c.args.k e) (recorded-empty (recorded_at net e) (λ n. (refl, refl)) (numbers_at c.args.k net.recorded.items)));
    }
