use Rattle.std.proofs.Common.{◌≡◌, ◌++◌, drop}
use Rattle.std.specs.List.{filter_map}
use Rattle.pt_scopes.specs.Scopes.{Bindings, net_view}
use Rattle.pt_start.specs.Started.{seen_token}
use Rattle.pt_start.specs.Seen.{SeesIn}
use Rattle.pt_start.proofs.starts.Starts.add_seen.Given as goal

abbrev pub invariant-loop-name : goal.invariant-loop-name
invariant-loop-name l = (seen : Bindings) → SeesIn (net_view l.self.net.now) l.here seen → l.tokens.items ++ filter_map (seen_token seen) (drop l.name-index l.names) ≡ l.initial.tokens.items ++ filter_map (seen_token seen) l.names
