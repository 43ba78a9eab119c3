use Rattle.std.proofs.Common.{◌≡◌, length, OnOk, ap, sym, subst, ◌∙◌}
use Rattle.pt_firing.specs.Need.{need_of}
use Rattle.pt_rv_laws.specs.Lawful.{HasPlaces}
use Rattle.pt_rv_parts.specs.Process.{renewed}
use Rattle.pt_rv_parts.proofs.process.Process.renew.Goals as goal

pub need_counts-requires-clause-places : goal.need_counts-requires-clause-places
need_counts-requires-clause-places c = subst (λ n. HasPlaces (length c.args.self.now.got) (need_of n)) c.in-All.is c.requires.places

pub returns-in-Over-clause-renewed : goal.returns-in-Over-clause-renewed
returns-in-Over-clause-renewed c = c.need_nothing.ensures ∙ ap (λ n. renewed (need_of n) c.args.self.now) (sym c.in-Over.is)

pub returns-in-All-clause-renewed : goal.returns-in-All-clause-renewed
returns-in-All-clause-renewed c = subst (λ n. OnOk c.need_counts.result (c.need_counts.new.self ≡ renewed (need_of n) c.args.self.now)) (sym c.in-All.is) c.need_counts.ensures.renewed

pub returns-in-Any-clause-renewed : goal.returns-in-Any-clause-renewed
returns-in-Any-clause-renewed c = c.need_any.ensures ∙ ap (λ n. renewed (need_of n) c.args.self.now) (sym c.in-Any.is)
