use Rattle.std.proofs.Common.{◌≤◌, length, arith}
use Rattle.pt_lib_timed.proofs.ArrivalLaws.{at-past}
use Rattle.pt_lib_timed.proofs.arrivals.list_at.Goals as goal

pub returns-else-place-places : goal.returns-else-place-places
returns-else-place-places c =
    let past : length c.args.inputs.now ≤ c.args.place = omega arith in
    at-past c.args.inputs.now c.args.place past
