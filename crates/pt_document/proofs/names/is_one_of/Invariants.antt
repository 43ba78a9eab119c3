use Rattle.std.proofs.Common.{◌≡◌, map, drop}
use Rattle.pt_document.specs.Names.{is_among}
use Rattle.pt_document.proofs.names.is_one_of.Given as goal

abbrev pub invariant-loop-one : goal.invariant-loop-one
invariant-loop-one l = is_among (map (λ k. k.now) (drop l.one-index l.texts)) l.text ≡ is_among (map (λ k. k.now) l.texts) l.text
