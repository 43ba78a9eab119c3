use Rattle.std.proofs.Common.{◌≡◌, ◌++◌, drop, map}
use Rattle.pt_value.specs.Token.{entry_of_pair}
use Rattle.pt_lib_data.specs.RecordAssembler.{fields}
use Rattle.pt_lib_data.proofs.record_assembler.fields_of.Given as goal

abbrev pub invariant-loop-place : goal.invariant-loop-place
invariant-loop-place l = map entry_of_pair l.pairs.items ++ fields (drop l.place l.names) (drop l.place l.inputs) ≡ fields l.names l.inputs
