use Rattle.std.proofs.Common.{◌≡◌, ℕ, ◌<◌, false, length, take, get_or}
use Rattle.pt_plan.specs.Unfed.{feeds}
use Rattle.pt_plan.proofs.unfed.fed_inputs.Given as goal

abbrev pub invariant-loop-source : goal.invariant-loop-source
invariant-loop-source l = record {
  count : length l.fed.items ≡ l.inputs;
  each : (port : ℕ) → port < l.inputs → get_or l.fed.items port false ≡ feeds (take l.source-index l.sources) port;
}
