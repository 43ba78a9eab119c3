use Rattle.std.proofs.Common.{◌≡◌, ◌++◌, flat_map, string_bytes}
use Rattle.std.specs.Str.Iter.{chars_rest}
use Rattle.pt_value.specs.Printed.{escaped}
use Rattle.pt_expr_print.proofs.words.write_quoted.Given as goal

abbrev pub invariant-loop-c : goal.invariant-loop-c
invariant-loop-c l = string_bytes l.out ++ flat_map escaped (chars_rest l.c-iterator) ≡ string_bytes l.initial.out ++ flat_map escaped l.fn.text
