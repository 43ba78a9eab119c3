use Rattle.std.proofs.Common.{◌≡◌, ◌-◌, ℕ, length, get_or, ap, ap₂, ◌∙◌, sym, arith}
use Rattle.std.proofs.lemmas.List.{length-map}
use Rattle.pt_meaning.specs.Running.{total}
use Rattle.pt_value.specs.declared.token.Token.{Token}
use Rattle.pt_core.specs.Source.{source_of}
use Rattle.pt_sr.specs.State.{TickState}
use Rattle.pt_sr.proofs.TickLaws.{end-there, end-is}
use Rattle.pt_sr.proofs.tick.Tick.outlets.Goals as goal

pub index-end-requires : goal.index-end-requires
index-end-requires c = omega (arith, end-there c.self.inside c.self.invariant, c.len.ensures, c.self.inside.offsets.ok.0)

pub overflow_sub-result : goal.overflow_sub-result
overflow_sub-result c =
    let end = end-is c.self.inside c.self.invariant c.index-end.result.now (c.index-end.ensures ∙ ap (λ n. get_or c.self.inside.offsets.items n c.index-end.result.now) c.len.ensures) in
    omega (arith, end, c.self.invariant.lawful.channels, c.len-2.ensures, c.self.inside.plan.sources.ok.0, length-map c.self.inside.plan.sources.items source_of)

pub returns : goal.returns
returns c =
    let end = end-is c.self.inside c.self.invariant c.index-end.result.now (c.index-end.ensures ∙ ap (λ n. get_or c.self.inside.offsets.items n c.index-end.result.now) c.len.ensures) in
    let count : c.len-2.result ≡ length c.self.inside.plan.sources.items = omega (arith, c.len-2.ensures, c.self.inside.plan.sources.ok.0) in
    ap₂ (λ (m n : ℕ). m - n) (count ∙ sym (length-map c.self.inside.plan.sources.items source_of)) end ∙ ap (λ (s : TickState Token). length s.plan.net.sources - total s.plan.net.places) c.self.view_is
