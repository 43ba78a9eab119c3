use Rattle.std.proofs.Common.{◌≡◌, length, ap, sym, ◌∙◌, arith}
use Rattle.pt_reaction.specs.Channels.{lists_of}
use Rattle.pt_puts.proofs.LineLaws.{same-lines}
use Rattle.pt_rv_parts.proofs.CopyLaws.{gathers-again, copied-is}
use Rattle.pt_rv_parts.proofs.process.Process.copy.Goals as goal

pub invariant_of-result : goal.invariant_of-result
invariant_of-result c =
    let lists : lists_of c.in_ok-lines.lines.items ≡ lists_of c.self.inside.lines.items = c.in_ok-lines.ensures.lists ∙ ap lists_of c.deref.ensures.value in
    let row = c.in_ok-row.ensures ∙ c.deref-2.ensures.value in
    record {
      row = ap (λ v. length v) row ∙ c.self.invariant.row ∙ sym (same-lines c.self.inside.lines.items c.in_ok-lines.lines.items lists);
      gathers = gathers-again c.self.inside.is_barrier c.self.inside.need c.in_ok-need.need c.counts_of.result.now c.self.inside.is_handed c.self.inside.full c.self.inside.filled c.self.inside.row.items c.in_ok-row.row.items c.self.inside.lines.items c.in_ok-lines.lines.items c.in_ok-need.ensures row lists c.counts_of.ensures
          (λ q l. c.in_ok-lines.ensures.rooms q (let e = ap (λ v. length v) c.deref.ensures.value in omega (arith, l, e))) c.self.invariant.gathers;
    }

pub returns : goal.returns
returns c =
    copied-is c.self.inside c.args.self.now c.in_ok-need.need c.in_ok-row.row.items c.in_ok-lines.lines.items c.in_ok-puts.puts.items c.in_ok-need.ensures (c.in_ok-row.ensures ∙ c.deref-2.ensures.value) (c.in_ok-lines.ensures.lists ∙ ap lists_of c.deref.ensures.value) c.in_ok-puts.ensures c.self.view_is
