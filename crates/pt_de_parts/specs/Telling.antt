-- Who is due once tokens come to a channel.
use Rattle.std.specs.Prelude.{ℕ, List, false, ◌&&◌, not, get_or}
use Rattle.pt_wakes.specs.Due.{DueSet}
use Rattle.pt_de_laws.specs.State.{Turn, Over}
use Rattle.pt_de_due.specs.Due.{due_if, is_waiting}
use Rattle.pt_de_parts.specs.Net.{Planned, reader_in}

-- where the child at whose place a channel ends has had no turn, it is due once tokens come there, or comes last where the channel ends at a delay
abbrev pub told_due : Planned → List Turn → ℕ → DueSet → DueSet
told_due p turns c d = due_if (is_waiting (get_or turns (reader_in p c) Over) && not (get_or p.roles.delayed c false)) (reader_in p c) d

abbrev pub told_last : Planned → List Turn → ℕ → DueSet → DueSet
told_last p turns c d = due_if (is_waiting (get_or turns (reader_in p c) Over) && get_or p.roles.delayed c false) (reader_in p c) d
