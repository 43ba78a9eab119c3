use Rattle.std.proofs.Common.{◌≡◌, ◌<◌, true, false, length, set, get_or, sym, ap, ◌∙◌, arith}
use Rattle.std.proofs.lemmas.List.{get_or_read}
use Rattle.pt_wakes.specs.Keys.{key_of}
use Rattle.pt_wakes.proofs.KeyLaws.{kept, there, without}
use Rattle.pt_wakes.proofs.due.DueChildren.insert.Goals as goal

pub put-requires-clause-there : goal.put-requires-clause-there
put-requires-clause-there c = there c.self.inside.depths.items c.self.inside.due.items c.self.inside.queue c.self.invariant c.args.self.now c.self.view_is c.args.child c.requires

pub put-requires-clause-out : goal.put-requires-clause-out
put-requires-clause-out c =
    let l : c.args.child < length c.self.inside.due.items = omega (arith, c.requires, ap (λ s. length s.due) c.self.view_is) in
    without c.self.inside.depths.items c.self.inside.due.items c.self.inside.queue c.self.invariant c.args.self.now c.self.view_is c.args.child c.requires (sym (get_or_read c.self.inside.due.items c.args.child c.index.result.now l c.index.ensures false) ∙ c.if-not-index.true)

pub invariant_of-self : goal.invariant_of-self
invariant_of-self c =
    let l : c.args.child < length c.self.inside.depths.items = omega (arith, c.requires, ap (λ s. length s.due) c.self.view_is, c.self.invariant.each) in
    let read : c.index-then-not-index.result.now ≡ get_or c.self.inside.depths.items c.args.child 0 = get_or_read c.self.inside.depths.items c.args.child c.index-then-not-index.result.now l c.index-then-not-index.ensures 0 in
    kept c.self.inside.depths.items c.self.inside.due.items c.self.inside.queue c.self.invariant c.args.child true c.put.new.self (c.put.ensures ∙ ap (λ d. set c.self.inside.queue c.args.child (key_of true d)) read)
