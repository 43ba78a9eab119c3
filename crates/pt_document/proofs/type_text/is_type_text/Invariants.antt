use Rattle.std.proofs.Common.{◌≡◌, ◌+◌, ◌-◌, length}
use Rattle.pt_document.specs.TypeWords.{leads, place_view, is_type_text}
use Rattle.pt_document.proofs.type_text.is_type_text.Given as goal

abbrev pub invariant-loop : goal.invariant-loop
invariant-loop l = leads (length l.text + 1 - l.counter) (place_view l.place) ≡ is_type_text l.text
