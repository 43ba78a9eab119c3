use Rattle.std.proofs.Common.{◌≤◌, length, ap, arith}
use Rattle.pt_lib_timed.specs.Register.{count_known}
use Rattle.pt_lib_timed.proofs.ArrivalLaws.{known-past}
use Rattle.pt_lib_timed.proofs.register.known_count.Goals as goal

pub returns-else-place-places : goal.returns-else-place-places
returns-else-place-places c =
    let past : length c.args.partial.now ≤ c.args.place = omega arith in
    ap (λ v. count_known v) (known-past c.args.partial.now c.args.place past)
