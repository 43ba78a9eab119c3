use Rattle.std.proofs.Common.{refl, arith}
use Rattle.pt_node.specs.declared.node.Node.{Node, roll-Node, out-Node}
use Rattle.pt_node.specs.declared.node.Node.TheViews.{roll-out-Node}
use Rattle.pt_node.specs.declared.node.Node.TheOpen as opens
use Rattle.pt_node.specs.declared.body.Body.TheVariants as body
use Rattle.pt_node.specs.declared.body.Held.{Held}
use Rattle.pt_turns.proofs.Entering.{not-live, no-longer-live}
use Rattle.pt_stretches.proofs.Together.{row-made}
use Rattle.pt_stretches.proofs.stretch.make_row.Goals as goal

pub returns-else-firings-eq0-clause-goes : goal.returns-else-firings-eq0-clause-goes
returns-else-firings-eq0-clause-goes c =
    let n : Node = c.args.child.now in
    let r : opens.Node-F Node = out-Node n in
    let held : Held = c.in-Actor.held in
    let held' : Held = record { start = held.start; actor = c.stretch-firings.new.self } in
    let written : opens.Node-F Node = record { past = r.past; body = body.Actor held'; children = r.children; records = r.records; path = r.path; labels = r.labels; meetings = r.meetings; live = r.live } in
    let r' : opens.Node-F Node = not-live (out-Node (roll-Node written)) in
    row-made n (roll-Node r') r r' held held' (roll-out-Node n) refl c.in-Actor.is refl (no-longer-live written) c.args.core.now c.args.number c.args.most c.in_ok-rows-in-Actor.rate c.stretch-firings.result c.in_ok-rows-in-Actor.rows c.stretch-firings.new.given.items c.in_ok-rows-in-Actor.ensures c.stretch-firings.ensures (omega (arith, c.if-firings-eq0.false)) (omega (arith, c.stretch-firings.ensures.few, c.firings.ensures, c.if-firings-most.false)) c.requires.fit
