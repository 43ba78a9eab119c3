use Rattle.std.proofs.Common.{◌≡◌, [], get_or, ◌∙◌, arith}
use Rattle.std.proofs.lemmas.List.{get_or_default}
use Rattle.std.proofs.lemmas.Result.{IfOk-weaker}
use Rattle.pt_start.proofs.Made.{number-below, values-below, counts-below, read-at, round-at, is-treeless}
use Rattle.pt_start.proofs.starts.Starts.treeless_actor.Goals as goal

pub index-requires : goal.index-requires
index-requires c = omega (arith, values-below c.args.self.now c.args.number c.requires.ready c.requires.actor, c.args.self.now.values.now.entities.ok.0)

pub index-requires-2 : goal.index-requires-2
index-requires-2 c = omega (arith, counts-below c.args.self.now c.args.number c.requires.ready c.requires.actor, c.args.self.now.counts.ok.0)

pub params-requires-clause-round : goal.params-requires-clause-round
params-requires-clause-round c =
    let s = c.args.self.now in
    let k = c.args.number in
    let at = read-at s.net.now.entities.items k c.index-entity.result.now (number-below s k c.requires.actor) c.index-entity.ensures in
    round-at s k c.index-entity.result.now c.requires.ready at

pub returns : goal.returns
returns c =
    let s = c.args.self.now in
    let k = c.args.number in
    let at = read-at s.net.now.entities.items k c.index-entity.result.now (number-below s k c.requires.actor) c.index-entity.ensures in
    let held_at = read-at s.values.now.entities.items k c.index.result.now (values-below s k c.requires.ready c.requires.actor) c.index.ensures in
    let counts_at : c.index-2.result.now ≡ get_or s.counts.items k [] = c.index-2.ensures ∙ get_or_default s.counts.items k c.index-2.result.now [] (counts-below s k c.requires.ready c.requires.actor) in
    IfOk-weaker c.started.result _ _ (is-treeless s k c.index-entity.result.now c.index.result.now c.index-2.result.now [] c.in_ok-params.params c.requires.ready c.requires.actor at held_at counts_at c.in_ok-params.ensures (c.requires.treeless c.index.result.now held_at)) c.started.ensures
