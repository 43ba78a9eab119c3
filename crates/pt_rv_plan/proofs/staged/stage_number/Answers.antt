use Rattle.std.proofs.Common.{◌≡◌, w64, SFits, rules, [], ◌∷◌, ap, subst}
use Rattle.std.proofs.lemmas.Int.{to_z-of_z}
use Rattle.pt_meaning.specs.Process.{puts_of}
use Rattle.pt_value.specs.declared.token.Token.TheVariants.{Int}
use Rattle.pt_puts.specs.Puts.{puts_in}
use Rattle.pt_puts.proofs.PutLaws.{number-puts}
use Rattle.pt_rv_plan.proofs.staged.stage_number.Goals as goal

pub returns : goal.returns
returns c =
    let fits : SFits w64 c.args.number = search rules in
    subst (λ z. puts_in c.stage_token.new.staged.items ≡ puts_of c.args.plan.now.plan.net.sources c.args.process 0 ((Int z ∷ []) ∷ [])) (to_z-of_z w64 c.args.number fits)
    (number-puts c.args.plan.now.plan.net.sources c.args.process _ (puts_in c.clear.new.self.items) (puts_in c.stage_token.new.staged.items) c.fan.result.now (ap puts_in c.clear.ensures.items) c.fan.ensures c.in_ok-stage_token.ensures)
