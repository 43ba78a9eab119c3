use Rattle.std.proofs.Common.{[], ◌∷◌, refl, sym, ap, subst, ◌∙◌}
use Rattle.pt_meaning.specs.Basics.{Streams}
use Rattle.pt_value.specs.declared.token.Token.{Token}
use Rattle.pt_library.specs.LibraryActor.{signal_of}
use Rattle.pt_node.specs.declared.node.Node.{Node, roll-Node, out-Node}
use Rattle.pt_node.specs.declared.node.Node.TheViews.{roll-out-Node}
use Rattle.pt_node.specs.declared.node.Node.TheOpen as opens
use Rattle.pt_node.specs.declared.body.Body.TheVariants as body
use Rattle.pt_node.specs.declared.body.Held.{Held}
use Rattle.pt_directors.specs.Directors.{Director}
use Rattle.pt_node.specs.Shown.{shown_node}
use Rattle.pt_node.specs.Live.{Takes}
use Rattle.pt_turns.specs.Within.{GaveAt}
use Rattle.pt_turns.proofs.Entering.{gave-at, not-live, no-longer-live}
use Rattle.pt_event_rows.proofs.AtOnce.{was-idle, gave-at-once}
use Rattle.pt_event_rows.proofs.events.fire_signal.Goals as goal

pub returns-in_ok-given-in-Actor-clause-goes : goal.returns-in_ok-given-in-Actor-clause-goes
returns-in_ok-given-in-Actor-clause-goes c =
    let n : Node = c.args.node.now in
    let r : opens.Node-F Node = out-Node n in
    let held : Held = c.in-Actor.held in
    let held' : Held = record { start = held.start; actor = c.signal.new.self } in
    let out : Streams Token = signal_of c.in_ok-given-in-Actor.given ∷ [] in
    let written : opens.Node-F Node = record { past = r.past; body = body.Actor held'; children = r.children; records = r.records; path = r.path; labels = r.labels; meetings = r.meetings; live = r.live } in
    let r' : opens.Node-F Node = not-live (out-Node (roll-Node written)) in
    subst (λ X. GaveAt c.args.tag (shown_node n) X out (shown_node (roll-Node r'))) c.lent.ensures
    (gave-at n (roll-Node r') r r' held held' (roll-out-Node n) refl c.in-Actor.is c.args.tag c.lent.result out c.in_ok-given-in-Actor.ensures refl (no-longer-live written) c.requires.fit)

pub fire_at_once-requires : goal.fire_at_once-requires
fire_at_once-requires c = was-idle c.args.node.now (out-Node c.args.node.now) c.get_mut.result.now (roll-out-Node c.args.node.now) (c.in-Composite.is ∙ ap (λ (d : Director). body.Composite d) (sym c.get_mut.ensures.value)) c.requires.fit

pub returns-in_ok-given-in-Composite-clause-goes : goal.returns-in_ok-given-in-Composite-clause-goes
returns-in_ok-given-in-Composite-clause-goes c =
    let n : Node = c.args.node.now in
    let r : opens.Node-F Node = out-Node n in
    let director : Director = c.get_mut.result.now in
    let director' : Director = c.fire_at_once.new.director in
    let out : Streams Token = signal_of c.in_ok-given-in-Composite.given ∷ [] in
    let written : opens.Node-F Node = record { past = r.past; body = body.Composite director'; children = r.children; records = r.records; path = r.path; labels = r.labels; meetings = r.meetings; live = r.live } in
    let r' : opens.Node-F Node = not-live (out-Node (roll-Node written)) in
    subst (λ X. GaveAt c.args.tag (shown_node n) X out (shown_node (roll-Node r'))) c.lent-in-Composite.ensures
    (gave-at-once n r director (roll-out-Node n) (c.in-Composite.is ∙ ap (λ (d : Director). body.Composite d) (sym c.get_mut.ensures.value)) c.args.tag c.lent-in-Composite.result c.requires.fit (subst (λ X. Takes c.args.tag (shown_node n) X) (sym c.lent-in-Composite.ensures) c.requires.takes) c.in_ok-given-in-Composite.given director' (c.in_ok-given-in-Composite.ensures c.args.tag) (roll-Node r') r' refl (no-longer-live written))
