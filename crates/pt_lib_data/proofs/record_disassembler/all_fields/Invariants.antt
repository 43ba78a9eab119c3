use Rattle.std.proofs.Common.{◌≡◌, map, take}
use Rattle.pt_lib_data.specs.RecordDisassembler.{field}
use Rattle.pt_lib_data.proofs.record_disassembler.all_fields.Given as goal

abbrev pub invariant-loop-name : goal.invariant-loop-name
invariant-loop-name l = l.lists.items ≡ map (field l.fields) (take l.name-index l.names)
