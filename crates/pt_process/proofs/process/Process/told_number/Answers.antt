use Rattle.std.proofs.Common.{w64, ap, ◌∙◌}
use Rattle.std.proofs.lemmas.Int.{to_z-of_z}
use Rattle.pt_meaning.specs.Process.{to_each}
use Rattle.pt_value.specs.declared.token.Token.TheVariants.{Int}
use Rattle.pt_process.specs.Process.{Standing}
use Rattle.pt_puts.specs.Puts.{puts_in}
use Rattle.pt_firing.specs.Need.{need_of}
use Rattle.pt_process.proofs.StepLaws.{told-is}
use Rattle.pt_process.proofs.process.Process.told_number.Goals as goal

pub put_on_each-requires : goal.put_on_each-requires
put_on_each-requires c = ap (λ (s : Standing). s.puts) c.self.view_is ∙ c.requires.none

pub returns-in-Ok-clause-told : goal.returns-in-Ok-clause-told
returns-in-Ok-clause-told c =
    told-is c.self.inside c.args.self.now (need_of c.args.need) (puts_in c.put_on_each.new.puts.items) (to_each (Int c.args.number) c.args.fan.now) c.renew.new.self c.self.view_is
    (c.in_ok-put_on_each.ensures.put ∙ ap (λ z. to_each (Int z) c.args.fan.now) (to_z-of_z w64 c.args.number c.ranges.number)) c.in-Ok.ensures.renewed
