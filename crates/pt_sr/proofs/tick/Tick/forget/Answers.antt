use Rattle.std.proofs.Common.{◌<◌, length, get_or, ap, ◌∙◌, sym, subst, arith}
use Rattle.pt_sr.specs.State.{unheard}
use Rattle.pt_sr.proofs.TickLaws.{places-small, forgotten-is, forgotten-signals, forgotten-flags, forgotten-numbers}
use Rattle.pt_sr.proofs.tick.Tick.forget.Goals as goal

pub unhear-requires-clause-counted : goal.unhear-requires-clause-counted
unhear-requires-clause-counted c = c.self.invariant.heard ∙ sym (ap (λ v. length v) c.as_slice.ensures)

pub unhear-requires-clause-small : goal.unhear-requires-clause-small
unhear-requires-clause-small c i h =
    let a = places-small c.self.inside c.self.invariant i (subst (λ v. i < length v) c.as_slice.ensures h) in
    let b = ap (λ v. get_or v i 0) c.as_slice.ensures in
    omega (arith, a, b)

pub invariant_of-self : goal.invariant_of-self
invariant_of-self c = record {
  lawful = c.self.invariant.lawful;
  offsets = c.self.invariant.offsets;
  fed = c.self.invariant.fed;
  signals = forgotten-signals c.self.inside c.self.invariant c.forget.new.self c.forget.ensures;
  fired = forgotten-flags c.self.inside c.self.invariant c.lower.new.flags.items c.lower.ensures;
  heard = forgotten-numbers c.self.inside c.unhear.new.heard.items (c.unhear.ensures ∙ ap (λ v. unheard v) c.as_slice.ensures);
}

pub returns : goal.returns
returns c = forgotten-is c.self.inside c.self.invariant c.forget.new.self c.lower.new.flags.items c.unhear.new.heard.items c.forget.ensures c.lower.ensures (c.unhear.ensures ∙ ap (λ v. unheard v) c.as_slice.ensures) c.args.self.now c.self.view_is
