use Rattle.std.proofs.Common.{◌∙◌, inr, sym, subst, ap, length, length-set}
use Rattle.pt_rv_parts.specs.Process.{Gathers}
use Rattle.pt_rv_parts.proofs.StepLaws.{any-need, any-there, any-gathers, alone-is}
use Rattle.pt_rv_parts.proofs.process.Process.get_any.Goals as goal

pub put_alone-requires : goal.put_alone-requires
put_alone-requires c = (any-there c.self.inside c.args.self.now c.args.place c.self.view_is c.requires.may c.requires.any).0

pub invariant_of-self : goal.invariant_of-self
invariant_of-self c =
    let t = any-there c.self.inside c.args.self.now c.args.place c.self.view_is c.requires.may c.requires.any in
    record {
      row = ap (λ v. length v) c.put_alone.ensures.row ∙ length-set c.self.inside.row.items c.args.place _ ∙ c.self.invariant.row;
      gathers = subst (λ f. Gathers c.self.inside.is_barrier c.self.inside.need c.self.inside.is_handed c.self.inside.full f c.put_alone.new.row.items c.self.inside.lines.items) (sym c.put_alone.ensures.filled)
          (any-gathers c.self.inside c.args.place c.args.token c.put_alone.new.row.items c.self.inside.lines.items (any-need c.self.inside c.args.self.now c.self.view_is c.requires.any) t.0 t.1 c.put_alone.ensures.row);
    }

pub returns : goal.returns
returns c =
    let t = any-there c.self.inside c.args.self.now c.args.place c.self.view_is c.requires.may c.requires.any in
    alone-is c.self.inside c.args.self.now c.args.place c.args.token c.put_alone.new.row.items c.self.view_is (inr (any-need c.self.inside c.args.self.now c.self.view_is c.requires.any)) t.1 c.put_alone.ensures.row
