use Rattle.std.proofs.Common.{◌≡◌, drop}
use Rattle.std.specs.List.{list_any}
use Rattle.pt_links.specs.Recorded.{begins_with}
use Rattle.pt_links.proofs.records.is_begun.Given as goal

abbrev pub invariant-loop-text : goal.invariant-loop-text
invariant-loop-text l = list_any (begins_with l.path) (drop l.text-index l.texts) ≡ list_any (begins_with l.path) l.texts
