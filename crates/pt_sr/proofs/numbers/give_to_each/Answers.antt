use Rattle.std.proofs.Common.{◌≡◌, ℕ, ◌<◌, w64, SFits, rules, [], ◌∷◌, length, map, get_or, ap, subst, ◌∙◌, sym, arith, refl, length-set}
use Rattle.std.proofs.lemmas.Int.{to_z-of_z}
use Rattle.pt_value.specs.declared.token.Token.TheVariants.{Int}
use Rattle.pt_sr.specs.State.{all_of}
use Rattle.pt_sr.specs.Feeds.{no_feed, target_of}
use Rattle.pt_sr.specs.Given.{learn_on}
use Rattle.pt_sr.proofs.GivenLaws.{next-learnt, all-learnt}
use Rattle.pt_sr.proofs.numbers.give_to_each.Goals as goal

pub loop-k-init : goal.loop-k-init
loop-k-init c = record { counted = refl; learnt = refl }

pub give_to-requires : goal.give_to-requires
give_to-requires c = omega (arith, c.requires.there c.loop-k.k c.loop-k-test.true, c.loop-k.invariant.counted)

pub loop-k-preserved : goal.loop-k-preserved
loop-k-preserved c =
    let k : ℕ = c.loop-k.k in
    let l : k < length c.args.feeds.now = c.loop-k-test.true in
    record {
      counted = ap (λ v. length v) c.give_to.ensures ∙ length-set c.loop-k.signals (get_or c.args.feeds.now k no_feed).channel _ ∙ c.loop-k.invariant.counted;
      learnt = next-learnt c.args.feeds.now k l _ c.loop-k.signals c.give_to.new.signals (get_or c.args.feeds.now k no_feed).channel _ refl refl c.give_to.ensures ∙ c.loop-k.invariant.learnt;
    }

pub returns : goal.returns
returns c =
    let fits : SFits w64 c.args.number = search rules in
    subst (λ z. c.loop-k.signals ≡ learn_on (all_of ((Int z ∷ []) ∷ [])) (map target_of c.args.feeds.now) c.args.signals.now) (to_z-of_z w64 c.args.number fits)
    (sym (all-learnt _ c.args.feeds.now c.loop-k.k c.loop-k.signals (omega (arith, c.loop-k-test.false))) ∙ c.loop-k.invariant.learnt)
