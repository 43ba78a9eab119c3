use Rattle.std.proofs.Common.{◌≡◌, false, rules}
use Rattle.pt_lib_timed.specs.PendingStore.{is_front_due}
use Rattle.pt_lib_timed.proofs.PendingLaws.{not-front}
use Rattle.pt_lib_timed.proofs.pending.pop_due.Goals as goal

pub returns-then-not-is_front_due-clause-none : goal.returns-then-not-is_front_due-clause-none
returns-then-not-is_front_due-clause-none c =
    let none : is_front_due c.args.tag c.args.events.now.items ≡ false = first_of (cc, search rules) in
    not-front c.args.tag c.args.events.now.items c.requires none
