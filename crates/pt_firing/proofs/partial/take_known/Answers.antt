use Rattle.std.proofs.Common.{◌≡◌, ◌<◌, [], ◌∷◌, ◌++◌, map, take, length, ap, ◌∙◌, add-one, arith}
use Rattle.std.proofs.lemmas.List.{length-map, length-take-le, length-set, map-append}
use Rattle.pt_meaning.specs.Machine as machine
use Rattle.pt_meaning.specs.Basics.{at}
use Rattle.pt_firing.specs.TriState.{partial_of}
use Rattle.pt_firing.proofs.Known.{drop-taken, drop-more, same-at, take-more}
use Rattle.pt_firing.proofs.partial.take_known.Goals as goal

pub loop-port-preserved : goal.loop-port-preserved
loop-port-preserved c =
    let X = c.args.outputs.now in
    let n = c.loop-port.port in
    let inv = c.loop-port.invariant in
    let short : n < length X = omega (arith, c.loop-port-test.true, c.requires.ports) in
    let pushed : c.push_reserved.new.self.items ≡ c.loop-port.states.items ++ c.known.result ∷ [] = c.push_reserved.ensures.items in
    let taken : partial_of c.known.result ≡ machine.Known (at X n) = c.known.ensures ∙ ap machine.Known (c.take.ensures.taken ∙ same-at c.loop-port.outputs X n inv.rest) in
    record {
      known = rw (add-one, take-more X n short, map-append, pushed, map-append, inv.known) (ap (λ v. map machine.Known (take n X) ++ v ∷ []) taken);
      rest = rw (add-one, c.take.ensures.left, drop-taken) (drop-more c.loop-port.outputs X n inv.rest);
      long = ap length c.take.ensures.left ∙ length-set c.loop-port.outputs n [] ∙ inv.long;
      room = c.push_reserved.ensures.capacity ∙ inv.room;
    }

pub push_reserved-requires : goal.push_reserved-requires
push_reserved-requires c =
    let inv = c.loop-port.invariant in
    let X = c.args.outputs.now in
    let n = c.loop-port.port in
    omega (arith, ap length inv.known, length-map c.loop-port.states.items partial_of, length-map (take n X) machine.Known, length-take-le n X (omega (arith, c.loop-port-test.true, c.requires.ports)), inv.room, c.requires.room, c.loop-port-test.true)
