use Rattle.std.proofs.Common.{◌≡◌, ◌+◌, ◌-◌, length}
use Rattle.pt_said.specs.SaidWords.{leads, place_view, type_in}
use Rattle.pt_said.proofs.said.type_in.Given as goal

abbrev pub invariant-loop : goal.invariant-loop
invariant-loop l = leads (length l.text + 1 - l.counter) (place_view l.place) ≡ type_in l.text
