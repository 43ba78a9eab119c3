use Rattle.std.proofs.Common.{ℤ, w64, SFits, rules, [], ◌∷◌, refl, sym, subst}
use Rattle.std.proofs.lemmas.Int.{to_z-of_z}
use Rattle.pt_value.specs.declared.token.Token.TheVariants.{Int}
use Rattle.pt_directors.specs.Directors.{director_calls}
use Rattle.pt_node.specs.declared.node.Node.{Node, roll-Node, out-Node}
use Rattle.pt_node.specs.declared.node.Node.TheViews.{roll-out-Node}
use Rattle.pt_node.specs.declared.node.Node.TheOpen as opens
use Rattle.pt_node.specs.declared.body.Body.TheVariants as body
use Rattle.pt_node.specs.declared.body.Held.{Held}
use Rattle.pt_node.specs.Shown.{shown_node}
use Rattle.pt_turns.specs.Within.{Gave}
use Rattle.pt_turns.proofs.Entering.{gave-out, not-live, no-longer-live}
use Rattle.pt_number_rows.proofs.numbers.fire_number.Goals as goal

pub returns-in_ok-given-in-Actor-clause-goes : goal.returns-in_ok-given-in-Actor-clause-goes
returns-in_ok-given-in-Actor-clause-goes g c =
    let n : Node = c.args.node.now in
    let r : opens.Node-F Node = out-Node n in
    let held : Held = c.in-Actor.held in
    let held' : Held = record { start = held.start; actor = c.number.new.self } in
    let given : ℤ = c.in_ok-given-in-Actor.given in
    let fits : SFits w64 given = search rules in
    let written : opens.Node-F Node = record { past = r.past; body = body.Actor held'; children = r.children; records = r.records; path = r.path; labels = r.labels; meetings = r.meetings; live = r.live } in
    let r' : opens.Node-F Node = not-live (out-Node (roll-Node written)) in
    subst (λ z. Gave (shown_node n) (director_calls.lent_of (g.C.NumberCore.director c.args.core.now)) ((Int z ∷ []) ∷ []) (shown_node (roll-Node r'))) (sym (to_z-of_z w64 given fits))
    (subst (λ X. Gave (shown_node n) X ((Int given ∷ []) ∷ []) (shown_node (roll-Node r'))) c.in_ok-inputs-in-Actor.ensures
    (gave-out n (roll-Node r') r r' held held' (roll-out-Node n) refl c.in-Actor.is c.in_ok-inputs-in-Actor.inputs ((Int given ∷ []) ∷ []) c.in_ok-given-in-Actor.ensures refl (no-longer-live written) c.requires.fit))
