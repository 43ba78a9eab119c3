-- The last lines of a report: what is full, and how the run ended.
use Rattle.std.specs.Prelude.{ℕ, List, ◌++◌, length, codes, decimal, flat_map}
use Rattle.pt_firing.specs.declared.answer.Place.{Place}
use Rattle.pt_firing.specs.declared.answer.Blocked.{Blocked}
use Rattle.pt_firing.specs.RunFault.{code_of}
use Rattle.pt_trace.specs.declared.run_end.RunEnd.{RunEnd}
use Rattle.pt_trace.specs.declared.run_end.RunEnd.TheVariants.{Stop, Idle, Iterations, Inputs, Deadlock, Fault, Budget, Queue}

-- a full channel: the text of its place, and how many tokens stand there
abbrev pub full_line : List ℕ → ℕ → List ℕ
full_line place length = codes "full " ++ (place ++ (codes " " ++ (decimal length ++ codes "\n")))

abbrev pub full_lines : List (List ℕ × ℕ) → List ℕ
full_lines rows = flat_map (λ row. full_line row.0 row.1) rows

-- a stuck place: its code, its path, and the number of the firing
abbrev pub fault_end : Place → List ℕ
fault_end place = codes "end fault " ++ (decimal (code_of place.kind) ++ (codes " " ++ (place.path ++ (codes " " ++ (decimal place.firing ++ codes "\n")))))

abbrev pub budget_end : ℕ → List ℕ
budget_end count = codes "end budget " ++ (decimal count ++ codes "\n")

-- the full channels of a process network, then its path and how many there are
abbrev pub queue_end : Blocked → List ℕ
queue_end blocked = full_lines blocked.channels ++ (codes "end queue " ++ (blocked.path ++ (codes " " ++ (decimal (length blocked.channels) ++ codes "\n"))))

abbrev pub end_text : RunEnd → List ℕ
end_text Stop = codes "end stop\n"
end_text Idle = codes "end idle\n"
end_text Iterations = codes "end iterations\n"
end_text Inputs = codes "end inputs\n"
end_text Deadlock = codes "end deadlock\n"
end_text (Fault place) = fault_end place
end_text (Budget count) = budget_end count
end_text (Queue blocked) = queue_end blocked
