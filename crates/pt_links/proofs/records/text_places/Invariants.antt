use Rattle.std.proofs.Common.{◌≡◌, map, take}
use Rattle.pt_links.proofs.records.text_places.Given as goal

abbrev pub invariant-loop-text : goal.invariant-loop-text
invariant-loop-text l = map (λ k. k.now) l.keys.items ≡ take l.text-index l.texts
