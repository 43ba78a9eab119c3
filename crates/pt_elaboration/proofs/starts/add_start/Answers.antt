use Rattle.std.proofs.Common.{◌≡◌, List, None, map, ap, ◌∙◌}
use Rattle.std.specs.List.{enumerate_from}
use Rattle.pt_document.specs.declared.job.Port.{Port}
use Rattle.pt_document.specs.View.{port_view}
use Rattle.pt_types.specs.declared.ty.Ty.{Ty}
use Rattle.pt_types.specs.Ty.{type_of}
use Rattle.pt_typing.specs.Least.{assignment}
use Rattle.pt_start.specs.Started.{type_at}
use Rattle.pt_elaboration.specs.Resolved.{port_typing}
use Rattle.pt_elaboration.proofs.StartLaws.{is-actor, are-types, starts-actor, starts-none}
use Rattle.pt_elaboration.proofs.starts.add_start.Goals as goal

pub actor-requires-clause-actor : goal.actor-requires-clause-actor
actor-requires-clause-actor c = is-actor c.args.starts.now.net.now c.args.number c.args.entity.now c.requires.entity (c.is_undirected.ensures.yes c.if-not-is_undirected.false)

pub returns-then-not-is_undirected : goal.returns-then-not-is_undirected
returns-then-not-is_undirected c = record {
  start = None;
  is_last = c.in_ok-push.ensures.items;
  is_start = starts-none c.args.starts.now.net.now c.args.starts.now.values.now (assignment c.args.typing.now) c.args.number c.args.entity.now (c.is_undirected.ensures.no c.if-not-is_undirected.true);
}

pub has_tree-requires-clause-actor : goal.has_tree-requires-clause-actor
has_tree-requires-clause-actor c = is-actor c.args.starts.now.net.now c.args.number c.args.entity.now c.requires.entity (c.is_undirected.ensures.yes c.if-not-is_undirected.false)

pub treeless_actor-requires-clause-actor : goal.treeless_actor-requires-clause-actor
treeless_actor-requires-clause-actor c = is-actor c.args.starts.now.net.now c.args.number c.args.entity.now c.requires.entity (c.is_undirected.ensures.yes c.if-not-is_undirected.false)

pub returns-then-not-has_tree : goal.returns-then-not-has_tree
returns-then-not-has_tree c =
    let net = c.args.starts.now.net.now in
    let typing = assignment c.args.typing.now in
    record {
      start = c.in_ok-treeless_actor.field-0;
      is_last = c.in_ok-push-2.ensures.items;
      is_start = starts-actor net c.args.starts.now.values.now typing c.args.number c.args.entity.now c.in_ok-treeless_actor.field-0 (c.is_undirected.ensures.yes c.if-not-is_undirected.false) (c.in_ok-treeless_actor.ensures (port_typing typing));
    }

pub returns : goal.returns
returns c =
    let net = c.args.starts.now.net.now in
    let typing = assignment c.args.typing.now in
    let k = c.args.number in
    let e = c.args.entity.now in
    let types = c.deref-2.result.now in
    let types_are : map type_of types ≡ map (type_at (port_typing typing) k) (enumerate_from 0 (map port_view e.ports.items)) =
    ap (λ (ts : List Ty). map type_of ts) c.deref-2.ensures.value ∙ c.in_ok-types.ensures ∙ ap (λ (ps : List Port). map (type_at (port_typing typing) k) (enumerate_from 0 (map port_view ps))) c.deref.ensures.value in
    record {
      start = c.in_ok-actor.field-0;
      is_last = c.in_ok-push-3.ensures.items;
      is_start = starts-actor net c.args.starts.now.values.now typing k e c.in_ok-actor.field-0 (c.is_undirected.ensures.yes c.if-not-is_undirected.false) (c.in_ok-actor.ensures (port_typing typing) (are-types net (port_typing typing) k e (map type_of types) c.requires.entity types_are));
    }
