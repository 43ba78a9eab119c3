use Rattle.std.proofs.Common.{◌≤◌, length, sym, ap, arith}
use Rattle.pt_firing.specs.Row.{first_in}
use Rattle.pt_firing.specs.TriState.{tokens_known}
use Rattle.pt_lib_time.proofs.Early.{known-past}
use Rattle.pt_lib_time.proofs.signal.known_token.Goals as goal

pub returns-else-place-places : goal.returns-else-place-places
returns-else-place-places c =
    let past : length c.args.partial.now ≤ c.args.place = omega arith in
    ap (λ v. first_in (tokens_known v)) (sym (known-past c.args.partial.now c.args.place past))
