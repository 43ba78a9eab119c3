use Rattle.std.proofs.Common.{[], ◌∷◌, map, refl, subst}
use Rattle.pt_value.specs.declared.token.Token.TheVariants.{Int}
use Rattle.pt_library.specs.LibraryActor as library
use Rattle.pt_library.specs.LibraryActor.{GivesNumbers}
use Rattle.pt_node.specs.declared.node.Node.{Node, roll-Node, out-Node}
use Rattle.pt_node.specs.declared.node.Node.TheViews.{roll-out-Node}
use Rattle.pt_node.specs.declared.node.Node.TheOpen as opens
use Rattle.pt_node.specs.declared.body.Body.TheVariants as body
use Rattle.pt_node.specs.declared.body.Held.{Held}
use Rattle.pt_node.specs.Shown.{shown_node}
use Rattle.pt_turns.specs.Within.{Gave}
use Rattle.pt_turns.proofs.Entering.{gave-out, not-live, only-not-live}
use Rattle.pt_several.proofs.numbers.several.Goals as goal

pub returns-else-not-numbers-clause-goes : goal.returns-else-not-numbers-clause-goes
returns-else-not-numbers-clause-goes c =
    let n : Node = c.args.node.now in
    let r : opens.Node-F Node = out-Node n in
    let held : Held = c.in-Actor.held in
    let gave = subst (λ b. GivesNumbers library.step held.actor c.in-Some.inputs b c.numbers.new.given.items held.actor) c.if-not-numbers.false c.numbers.ensures in
    subst (λ X. Gave (shown_node n) X (map Int c.numbers.new.given.items ∷ []) (shown_node (roll-Node (not-live r)))) c.in-Some.ensures
    (gave-out n (roll-Node (not-live r)) r (not-live r) held held (roll-out-Node n) refl c.in-Actor.is c.in-Some.inputs (map Int c.numbers.new.given.items ∷ []) gave refl (only-not-live r (body.Actor held) c.in-Actor.is) c.requires.fit)
