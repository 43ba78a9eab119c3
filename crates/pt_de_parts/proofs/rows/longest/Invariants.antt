use Rattle.std.proofs.Common.{◌≡◌, take, drop}
use Rattle.pt_meaning.specs.De as de
use Rattle.pt_reaction.specs.Channels.{lists_of}
use Rattle.pt_de_parts.proofs.rows.longest.Given as goal

abbrev pub invariant-loop-place : goal.invariant-loop-place
invariant-loop-place l = l.most ≡ de.longest (drop l.place (lists_of (take l.places l.lines)))
