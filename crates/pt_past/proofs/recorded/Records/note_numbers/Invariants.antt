use Rattle.std.proofs.Common.{◌≡◌, [], ◌∷◌, map}
use Rattle.pt_value.specs.declared.token.Token.TheVariants.{Int}
use Rattle.pt_past.specs.Recorded.{noting}
use Rattle.pt_past.proofs.RecordedLaws.{changed_to}
use Rattle.pt_past.proofs.recorded.Records.note_numbers.Given as goal

abbrev pub invariant-loop-k : goal.invariant-loop-k
invariant-loop-k l = l.self-inside.ports.items ≡ changed_to (noting l.tag (map Int l.numbers ∷ [])) l.k l.fn.self
