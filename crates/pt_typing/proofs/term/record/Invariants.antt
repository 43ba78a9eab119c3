use Rattle.std.proofs.Common.{◌≡◌, map, take}
use Rattle.pt_types.specs.Ty as ty
use Rattle.pt_types.specs.Entry.{typed_entry}
use Rattle.pt_typing.specs.Terms.{entry_in}
use Rattle.pt_typing.specs.Views.{assigned}
use Rattle.pt_typing.proofs.term.record.Given as goal

abbrev pub invariant-loop-name : goal.invariant-loop-name
invariant-loop-name l = map typed_entry l.pairs.items ≡ map (entry_in (assigned l.numbers (map ty.type_of l.types))) (take l.name-index l.fields)
