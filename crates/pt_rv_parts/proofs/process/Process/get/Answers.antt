use Rattle.std.proofs.Common.{◌∙◌, inl, sym, subst, ap, length, length-set}
use Rattle.pt_puts.specs.declared.need.KeptNeed.TheVariants.{Any}
use Rattle.pt_rv_parts.specs.Process.{Gathers}
use Rattle.pt_rv_parts.proofs.StepLaws.{over-takes, need-is, takes-there, takes-is, takes-gathers, one-there, one-gathers, alone-is}
use Rattle.pt_rv_parts.proofs.process.Process.get.Goals as goal

pub unreachable-requires : goal.unreachable-requires
unreachable-requires c = over-takes c.self.inside c.args.self.now c.args.place c.self.view_is c.in-Over.is c.requires

pub put_in_line-requires : goal.put_in_line-requires
put_in_line-requires c =
    let t = takes-there c.self.inside c.args.self.now c.args.place _ c.self.invariant c.self.view_is c.requires c.in-Counts.is in
    record { there = t.there; room = t.room }

pub invariant_of-self : goal.invariant_of-self
invariant_of-self c =
    let t = takes-there c.self.inside c.args.self.now c.args.place _ c.self.invariant c.self.view_is c.requires c.in-Counts.is in
    record {
      row = c.self.invariant.row ∙ sym c.put_in_line.ensures.counted;
      gathers = takes-gathers c.self.inside c.args.place t c.put_in_line.new.lines.items c.args.token c.put_in_line.ensures.lists c.put_in_line.ensures.counted c.put_in_line.ensures.room c.put_in_line.ensures.others;
    }

pub returns-in-Counts : goal.returns-in-Counts
returns-in-Counts c =
    let t = takes-there c.self.inside c.args.self.now c.args.place _ c.self.invariant c.self.view_is c.requires c.in-Counts.is in
    takes-is c.self.inside c.args.self.now c.args.place t c.put_in_line.new.lines.items c.args.token c.self.view_is c.put_in_line.ensures.lists

pub put_alone-requires : goal.put_alone-requires
put_alone-requires c = (one-there c.self.inside c.args.self.now c.args.place c.self.invariant c.self.view_is c.requires c.in-One.is).0

pub invariant_of-self-in-One : goal.invariant_of-self-in-One
invariant_of-self-in-One c =
    let t = one-there c.self.inside c.args.self.now c.args.place c.self.invariant c.self.view_is c.requires c.in-One.is in
    record {
      row = ap (λ v. length v) c.put_alone.ensures.row ∙ length-set c.self.inside.row.items c.args.place _ ∙ c.self.invariant.row;
      gathers = subst (λ f. Gathers c.self.inside.is_barrier c.self.inside.need c.self.inside.is_handed c.self.inside.full f c.put_alone.new.row.items c.self.inside.lines.items) (sym c.put_alone.ensures.filled)
          (one-gathers c.self.inside c.args.place c.args.token c.put_alone.new.row.items c.self.inside.lines.items c.self.invariant c.in-One.is t.0 t.1 c.put_alone.ensures.row);
    }

pub returns-in-One : goal.returns-in-One
returns-in-One c =
    let t = one-there c.self.inside c.args.self.now c.args.place c.self.invariant c.self.view_is c.requires c.in-One.is in
    alone-is c.self.inside c.args.self.now c.args.place c.args.token c.put_alone.new.row.items c.self.view_is (inl c.in-One.is) t.1 c.put_alone.ensures.row

pub get_any-requires : goal.get_any-requires
get_any-requires c = record {
  may = c.requires;
  any = need-is c.self.inside c.args.self.now Any c.self.view_is c.in-Any.is;
}
