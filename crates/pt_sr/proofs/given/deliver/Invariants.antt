use Rattle.std.proofs.Common.{◌≡◌, ℕ, List, Option, length, map, drop}
use Rattle.pt_value.specs.declared.token.Token.{Token}
use Rattle.pt_sr.specs.Feeds.{target_of}
use Rattle.pt_sr.specs.Given.{gifts, learn_on}
use Rattle.pt_sr.proofs.given.deliver.Given as goal

abbrev pub invariant-loop-k : goal.invariant-loop-k
invariant-loop-k l = record {
  counted : length l.signals ≡ length l.fn.signals;
  staged : (given : ℕ → Option (List Token)) → l.fn.staged.items ≡ gifts given l.feeds → l.staged.items ≡ gifts given (drop l.k l.feeds);
  learnt : (given : ℕ → Option (List Token)) → l.fn.staged.items ≡ gifts given l.feeds → learn_on given (map target_of (drop l.k l.feeds)) l.signals ≡ learn_on given (map target_of l.feeds) l.fn.signals;
}
