use Rattle.std.proofs.Common.{◌<◌, length, get_or, drop, ap, ◌∙◌, sym, subst, arith}
use Rattle.pt_meaning.specs.Valuation.{tokens_of}
use Rattle.pt_value.specs.declared.token.Token.{Token}
use Rattle.pt_sr.specs.State.{TickState, unheard, outlets_of}
use Rattle.pt_sr.proofs.TickLaws.{end-there, end-within, end-is, places-small, forgotten-is, forgotten-signals, forgotten-flags, forgotten-numbers}
use Rattle.pt_sr.proofs.tick.Tick.hand_out.Goals as goal

pub index-from-requires : goal.index-from-requires
index-from-requires c = omega (arith, end-there c.self.inside c.self.invariant, c.len.ensures, c.self.inside.offsets.ok.0)

pub hand_out-requires : goal.hand_out-requires
hand_out-requires c = end-within c.self.inside c.self.invariant c.index-from.result.now (c.index-from.ensures ∙ ap (λ n. get_or c.self.inside.offsets.items n c.index-from.result.now) c.len.ensures)

pub returns-clause-given : goal.returns-clause-given
returns-clause-given c =
    c.in_ok-outputs.ensures.given ∙ ap (λ n. tokens_of (drop n c.self.inside.signals)) (end-is c.self.inside c.self.invariant c.index-from.result.now (c.index-from.ensures ∙ ap (λ n. get_or c.self.inside.offsets.items n c.index-from.result.now) c.len.ensures)) ∙
    ap (λ (s : TickState Token). tokens_of (outlets_of s)) c.self.view_is

pub unhear-requires-clause-counted : goal.unhear-requires-clause-counted
unhear-requires-clause-counted c = c.self.invariant.heard ∙ sym (ap (λ v. length v) c.as_slice.ensures)

pub unhear-requires-clause-small : goal.unhear-requires-clause-small
unhear-requires-clause-small c i h =
    let a = places-small c.self.inside c.self.invariant i (subst (λ v. i < length v) c.as_slice.ensures h) in
    let b = ap (λ v. get_or v i 0) c.as_slice.ensures in
    omega (arith, a, b)

pub invariant_of-self-2 : goal.invariant_of-self-2
invariant_of-self-2 c = record {
  lawful = c.self.invariant.lawful;
  offsets = c.self.invariant.offsets;
  fed = c.self.invariant.fed;
  signals = forgotten-signals c.self.inside c.self.invariant c.hand_out.new.self c.in_ok-outputs.ensures.left;
  fired = forgotten-flags c.self.inside c.self.invariant c.lower.new.flags.items c.lower.ensures;
  heard = forgotten-numbers c.self.inside c.unhear.new.heard.items (c.unhear.ensures ∙ ap (λ v. unheard v) c.as_slice.ensures);
}

pub returns-clause-left : goal.returns-clause-left
returns-clause-left c = forgotten-is c.self.inside c.self.invariant c.hand_out.new.self c.lower.new.flags.items c.unhear.new.heard.items c.in_ok-outputs.ensures.left c.lower.ensures (c.unhear.ensures ∙ ap (λ v. unheard v) c.as_slice.ensures) c.args.self.now c.self.view_is
