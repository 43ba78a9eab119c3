use Rattle.std.proofs.Common.{◌<◌, ℕ, List, length, take, sym, subst, arith}
use Rattle.std.proofs.lemmas.List.{take_more, length-take-le}
use Rattle.pt_net.specs.declared.net.NetPort.{NetPort}
use Rattle.pt_trees.specs.Recorded.{AreRecordLists}
use Rattle.pt_within.proofs.numbering.record_lists.Goals as goal

pub loop-number-preserved : goal.loop-number-preserved
loop-number-preserved c =
    let ports : List NetPort = c.args.recorded.now in
    let n : ℕ = c.loop-number.number in
    let within : n < length ports = omega arith in
    subst (λ (v : List NetPort). AreRecordLists c.args.count v c.add_number.new.lists.items) (sym (take_more ports n (record { entity = 0; port = 0 }) within))
    (c.in_ok-add_number.ensures c.args.count (take n ports) (length-take-le n ports (omega (arith, within))) c.loop-number.invariant)
