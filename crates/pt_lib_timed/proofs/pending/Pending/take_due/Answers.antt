use Rattle.std.proofs.Common.{◌≡◌, length, sym, ◌∙◌, rules}
use Rattle.pt_lib_timed.specs.Pending.{due}
use Rattle.pt_lib_timed.proofs.PendingLaws.{none-taken}
use Rattle.pt_lib_timed.proofs.pending.Pending.take_due.Goals as goal

pub returns-then-count-eq0-clause-left : goal.returns-then-count-eq0-clause-left
returns-then-count-eq0-clause-left c =
    let none : length (due c.args.tag c.args.self.now) ≡ 0 = first_of (cc, search rules) in
    sym (none-taken c.args.tag c.args.self.now none).1

pub returns-then-count-eq0-clause-tokens : goal.returns-then-count-eq0-clause-tokens
returns-then-count-eq0-clause-tokens c =
    let none : length (due c.args.tag c.args.self.now) ≡ 0 = first_of (cc, search rules) in
    c.new.ensures ∙ sym (none-taken c.args.tag c.args.self.now none).0
