use Rattle.std.proofs.Common.{◌≡◌, ℕ, ◌+◌, ◌-◌, ◌++◌, pos, set, replicate, length, w64, ap₂, ◌∙◌, arith}
use Rattle.std.proofs.lemmas.Int.{to_z-of_z}
use Rattle.std.proofs.lemmas.Grind.{common_steps}
use Rattle.pt_flow_base.proofs.Zeros.{among-behind}
use Rattle.pt_flow_streams.proofs.up_sample.put_among_zeros.Goals as goal

pub returns-clause-put : goal.returns-clause-put
returns-clause-put c =
    let before = c.args.before in
    let ns = c.args.given.now.items in
    let more : ℕ = c.in_ok-count.count - length ns in
    let place : c.in_ok-at.at ≡ length ns + before = grind (arith, common_steps) in
    let size : more ≡ before + 1 + c.args.after = grind (arith, common_steps) in
    let all : c.resize.new.self.items ≡ ns ++ replicate more (pos 0) = grind (arith, common_steps) in
    ap₂ (λ v n. set v c.in_ok-at.at n) all (to_z-of_z w64 c.args.number c.ranges.number) ∙ among-behind ns before c.args.after more c.in_ok-at.at c.args.number size place
