use Rattle.std.proofs.Common.{◌≡◌, ℕ, List, [], ◌<◌, length, set, refl, sym, ap, subst, ◌∙◌, arith}
use Rattle.std.proofs.lemmas.List.{get_or_default}
use Rattle.std.specs.Vec.{with_item}
use Rattle.pt_rates.specs.declared.parts.Parts.{Parts}
use Rattle.pt_rates.specs.Parts.{members_of}
use Rattle.pt_rates.proofs.Moves.{IsMoving, moving-start, moving-step, moved-held, moved-all}
use Rattle.pt_rates.proofs.parts.Parts.relabel.Goals as goal

pub loop-node-init : goal.loop-node-init
loop-node-init c =
    let nodes : c.as_slice-node-items.result.now ≡ members_of c.args.self.now c.args.from = c.as_slice-node-items.ensures ∙ c.replace-nodes.ensures.value ∙ c.index_mut.ensures.value ∙ get_or_default c.args.self.now.members.items c.args.from _ [] c.requires.from in
    let taken : c.replace-nodes.new.dest ≡ [] = c.replace-nodes.ensures.after ∙ c.new.ensures in
    let emptied : Parts = record c.args.self.now { members = with_item c.args.self.now.members c.args.from c.replace-nodes.new.dest } in
    subst (λ ns. IsMoving ns 0 c.args.from c.args.to c.args.times c.args.self.now emptied) (sym nodes) (moving-start c.args.from c.args.to c.args.times c.args.self.now emptied c.requires.held c.requires.small refl refl (ap (λ (ns : List ℕ). set c.args.self.now.members.items c.args.from ns) taken) refl)

pub loop-node-preserved : goal.loop-node-preserved
loop-node-preserved c =
    let inside : c.loop-node.node-index < length c.as_slice-node-items.result.now = omega (arith, c.loop-node-test.true) in
    moving-step c.as_slice-node-items.result.now c.loop-node.node-index c.args.from c.args.to c.args.times c.args.self.now c.loop-node.self c.move_node.new.self c.requires.apart c.requires.to c.requires.times inside c.loop-node.invariant c.in_ok-move_node.ensures

pub returns-clause-held : goal.returns-clause-held
returns-clause-held c = moved-held c.as_slice-node-items.result.now c.loop-node.node-index c.args.from c.args.to c.args.times c.args.self.now c.loop-node.self (omega (arith, c.loop-node-test.false)) c.loop-node.invariant

pub returns-clause-moved : goal.returns-clause-moved
returns-clause-moved c = moved-all c.as_slice-node-items.result.now c.loop-node.node-index c.args.from c.args.to c.args.times c.args.self.now c.loop-node.self (omega (arith, c.loop-node-test.false)) c.loop-node.invariant
