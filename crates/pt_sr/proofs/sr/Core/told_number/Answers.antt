use Rattle.std.proofs.Common.{◌≡◌, w64, SFits, rules, [], ◌∷◌, true, ap, subst, ◌∙◌}
use Rattle.std.proofs.lemmas.Int.{to_z-of_z}
use Rattle.pt_value.specs.declared.token.Token.{Token}
use Rattle.pt_value.specs.declared.token.Token.TheVariants.{Int}
use Rattle.pt_sr.specs.State.{TickState, Open, asked_child, if_told, fired_tick}
use Rattle.pt_sr.specs.Clauses.{State}
use Rattle.pt_sr.proofs.CoreLaws.{asked-there}
use Rattle.pt_sr.proofs.sr.Core.told_number.Goals as goal

pub told_number-requires : goal.told_number-requires
told_number-requires c = asked-there c.self.inside.stage c.self.inside.tick c.args.child c.self.invariant (ap (λ (s : State). asked_child s.stage) c.self.view_is ∙ c.requires.asked)

pub returns : goal.returns
returns c =
    let fits : SFits w64 c.args.number = search rules in
    let told : c.told_number.new.self ≡ fired_tick c.args.child ((Int c.args.number ∷ []) ∷ []) c.self.inside.tick = subst (λ z. c.told_number.new.self ≡ fired_tick c.args.child ((Int z ∷ []) ∷ []) c.self.inside.tick) (to_z-of_z w64 c.args.number fits) c.told_number.ensures in
    record {
      told = ap (λ (t : TickState Token). let s : State = record { tick = t; tag = c.self.inside.tag; stage = Open } in s) told ∙ ap (λ (s : State). if_told true c.args.child ((Int c.args.number ∷ []) ∷ []) s) c.self.view_is;
    }
