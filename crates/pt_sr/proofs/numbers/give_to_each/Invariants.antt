use Rattle.std.proofs.Common.{◌≡◌, [], ◌∷◌, length, map, drop}
use Rattle.pt_value.specs.declared.token.Token.TheVariants.{Int}
use Rattle.pt_sr.specs.State.{all_of}
use Rattle.pt_sr.specs.Feeds.{target_of}
use Rattle.pt_sr.specs.Given.{learn_on}
use Rattle.pt_sr.proofs.numbers.give_to_each.Given as goal

abbrev pub invariant-loop-k : goal.invariant-loop-k
invariant-loop-k l = record {
  counted : length l.signals ≡ length l.fn.signals;
  learnt : learn_on (all_of ((Int l.number ∷ []) ∷ [])) (map target_of (drop l.k l.feeds)) l.signals ≡ learn_on (all_of ((Int l.number ∷ []) ∷ [])) (map target_of l.feeds) l.fn.signals;
}
