use Rattle.std.proofs.Common.{ap, ◌∙◌, subst, refl}
use Rattle.pt_value.specs.declared.token.Token.{Token}
use Rattle.pt_sr.specs.declared.tick.Next.TheVariants as next
use Rattle.pt_sr.specs.State.{TickState, MayFire, MayAnswer, Listens, Closed, asked, listening, in_stage}
use Rattle.pt_sr.specs.Tick.{Comes}
use Rattle.pt_sr.specs.Clauses.{State}
use Rattle.pt_sr.proofs.sr.Core.ask_next.Goals as goal

pub returns-in-Fire : goal.returns-in-Fire
returns-in-Fire c = (
  c.requires,
  subst (λ (s : State). MayFire s.tick c.in-Fire.child) c.self.view_is c.in-Fire.ensures,
  ap (λ (s : State). s.tag) c.self.view_is,
  ap (λ (s : State). asked c.in-Fire.child s) c.self.view_is,
)

pub returns-in-Early : goal.returns-in-Early
returns-in-Early c = (
  c.requires,
  subst (λ (s : State). MayAnswer s.tick c.in-Early.child) c.self.view_is c.in-Early.ensures,
  ap (λ (s : State). s.tag) c.self.view_is,
  ap (λ (t : TickState Token). let s : State = record { tick = t; tag = c.self.inside.tag; stage = Listens c.in-Early.child } in s) c.listen.ensures ∙ ap (λ (s : State). listening c.in-Early.child s) c.self.view_is,
)

pub returns-in-Finished : goal.returns-in-Finished
returns-in-Finished c = (c.requires, subst (λ (s : State). Comes s.tick next.Finished) c.self.view_is c.in-Finished.ensures, ap (λ (s : State). in_stage Closed s) c.self.view_is)

pub returns-in-Stuck : goal.returns-in-Stuck
returns-in-Stuck c = (refl, c.requires, subst (λ (s : State). Comes s.tick next.Stuck) c.self.view_is c.in-Stuck.ensures, c.self.view_is)
