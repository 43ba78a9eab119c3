-- What an own input keeps.
use Rattle.std.specs.Prelude.{◌+◌, ◌≤◌, length}
use Rattle.std.specs.VecDeque.{deque_capacity}
use Rattle.pt_puts.specs.Puts.{puts_in}
use Rattle.pt_rv_plan.specs.declared.inlet.Inlet.TheInside.{Inside}
use Rattle.pt_rv_plan.specs.Ends.{Arriving}

abbrev pub seen_inlet : Inside → Arriving
seen_inlet i = record { puts = puts_in i.puts.items; coming = puts_in i.coming.items }

-- there is room for what is to come
abbrev pub HasComing : Inside → Type 0
HasComing i = length i.puts.items + length i.coming.items ≤ deque_capacity i.puts
