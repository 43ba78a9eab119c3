use Rattle.std.proofs.Common.{◌≡◌, ℕ, ◌<◌, length, ap, sym, subst, ◌∙◌, arith}
use Rattle.pt_reaction.specs.Channels.{lists_of}
use Rattle.pt_process.specs.Process.{Gathers, lined_in}
use Rattle.pt_process.proofs.CopyLaws.{HasRoomAt, gathers-same, copied-is}
use Rattle.pt_puts.proofs.LineLaws.{same-lines}
use Rattle.pt_process.proofs.process.Process.copy.Goals as goal

pub invariant_of-result : goal.invariant_of-result
invariant_of-result c =
    let lists : lists_of c.in_ok-lines.lines.items ≡ lists_of c.self.inside.lines.items = c.in_ok-lines.ensures.lists ∙ ap lists_of c.deref.ensures.value in
    let rooms : (q : ℕ) → q < length c.self.inside.lines.items → HasRoomAt (lined_in c.self.inside.need) c.in_ok-lines.lines.items q = λ q l. subst (λ ns. HasRoomAt ns c.in_ok-lines.lines.items q) c.lined.ensures (c.in_ok-lines.ensures.rooms q (let e = ap (λ v. length v) c.deref.ensures.value in omega (arith, l, e))) in
    record {
      row = ap (λ v. length v) (c.in_ok-row.ensures ∙ c.deref-2.ensures.value) ∙ c.self.invariant.row ∙ sym (same-lines c.self.inside.lines.items c.in_ok-lines.lines.items lists);
      gathers = subst (λ m. Gathers m c.self.inside.is_handed c.self.inside.full c.in_ok-row.row.items c.in_ok-lines.lines.items) (sym c.in_ok-need.ensures)
          (gathers-same c.self.inside.is_handed c.self.inside.full c.self.inside.row.items c.in_ok-row.row.items c.self.inside.lines.items c.in_ok-lines.lines.items (c.in_ok-row.ensures ∙ c.deref-2.ensures.value) lists c.self.inside.need rooms c.self.invariant.gathers);
    }

pub returns : goal.returns
returns c =
    copied-is c.self.inside c.args.self.now c.in_ok-need.need c.in_ok-row.row.items c.in_ok-lines.lines.items c.in_ok-puts.puts.items c.in_ok-need.ensures (c.in_ok-row.ensures ∙ c.deref-2.ensures.value) (c.in_ok-lines.ensures.lists ∙ ap lists_of c.deref.ensures.value) c.in_ok-puts.ensures c.self.view_is
