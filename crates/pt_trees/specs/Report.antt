-- How a report tells the end of a run.
use Rattle.pt_trace.specs.declared.run_end.RunEnd.{RunEnd}
use Rattle.pt_trace.specs.declared.run_end.RunEnd.TheVariants as ends
use Rattle.pt_trees.specs.declared.ended.Ended.{Ended}
use Rattle.pt_trees.specs.declared.ended.Ended.TheVariants as ended

abbrev pub end_of : Ended → RunEnd
end_of ended.Iterations = ends.Iterations
end_of ended.Inputs = ends.Inputs
end_of ended.Stop = ends.Stop
end_of ended.Idle = ends.Idle
end_of ended.Deadlock = ends.Deadlock
end_of (ended.Fault place) = ends.Fault place
end_of (ended.Full blocked) = ends.Queue blocked
end_of (ended.Spent firings) = ends.Budget firings
