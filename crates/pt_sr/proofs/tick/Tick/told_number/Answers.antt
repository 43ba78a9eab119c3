use Rattle.std.proofs.Common.{◌≡◌, w64, SFits, rules, true, [], ◌∷◌, map, subst, ◌∙◌, arith, length-set}
use Rattle.std.proofs.lemmas.Int.{to_z-of_z}
use Rattle.pt_value.specs.declared.token.Token.TheVariants.{Int}
use Rattle.pt_sr.specs.State.{all_of}
use Rattle.pt_sr.specs.Feeds.{target_of}
use Rattle.pt_sr.specs.Given.{learn_on}
use Rattle.pt_sr.proofs.TickLaws.{child-there, given-channels, given-long, told-is}
use Rattle.pt_sr.proofs.tick.Tick.told_number.Goals as goal

pub index-row-requires : goal.index-row-requires
index-row-requires c = omega (arith, child-there c.self.inside c.args.self.now c.args.giver c.self.view_is c.requires, c.self.invariant.fed.targets.counted, c.self.inside.feeds.ok.0)

pub give_number-requires : goal.give_number-requires
give_number-requires c = record { there = given-channels c.self.inside c.self.invariant c.args.giver (child-there c.self.inside c.args.self.now c.args.giver c.self.view_is c.requires) c.index-row.result.now c.index-row.ensures c.deref.result.now c.deref.ensures.value }

pub index_mut-requires : goal.index_mut-requires
index_mut-requires c = omega (arith, child-there c.self.inside c.args.self.now c.args.giver c.self.view_is c.requires, c.self.invariant.fired, c.self.inside.fired.ok.0)

pub invariant_of-self : goal.invariant_of-self
invariant_of-self c =
    let fits : SFits w64 c.args.number = search rules in
    record {
      lawful = c.self.invariant.lawful;
      offsets = c.self.invariant.offsets;
      fed = c.self.invariant.fed;
      signals =
          given-long c.self.inside c.self.invariant c.args.giver (child-there c.self.inside c.args.self.now c.args.giver c.self.view_is c.requires) c.index-row.result.now c.index-row.ensures (all_of ((Int c.args.number ∷ []) ∷ [])) c.deref.result.now c.give_number.new.signals c.deref.ensures.value
          (subst (λ z. c.give_number.new.signals ≡ learn_on (all_of ((Int z ∷ []) ∷ [])) (map target_of c.deref.result.now) c.self.inside.signals) (to_z-of_z w64 c.args.number fits) c.give_number.ensures);
      fired = length-set c.self.inside.fired.items c.args.giver true ∙ c.self.invariant.fired;
      heard = c.self.invariant.heard;
    }

pub returns : goal.returns
returns c =
    let fits : SFits w64 c.args.number = search rules in
    told-is c.self.inside c.self.invariant c.args.giver (child-there c.self.inside c.args.self.now c.args.giver c.self.view_is c.requires) c.index-row.result.now c.index-row.ensures ((Int c.args.number ∷ []) ∷ []) c.deref.result.now c.give_number.new.signals c.deref.ensures.value
    (subst (λ z. c.give_number.new.signals ≡ learn_on (all_of ((Int z ∷ []) ∷ [])) (map target_of c.deref.result.now) c.self.inside.signals) (to_z-of_z w64 c.args.number fits) c.give_number.ensures) c.args.self.now c.self.view_is
