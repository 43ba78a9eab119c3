use Rattle.std.proofs.Common.{◌-◌, ◌<◌, Bool, List, false, true, get_or, length, refl, ap, sym, ◌∙◌, arith, length-set}
use Rattle.pt_rv_parts.proofs.FlagLaws.{listed-fewer}
use Rattle.pt_rv_parts.proofs.ListLaws.{read-as}
use Rattle.pt_rv_parts.proofs.flags.Flags.clear.Goals as goal

pub invariant_of-self : goal.invariant_of-self
invariant_of-self c =
    let there : c.args.number < length c.self.inside.flags.items = let a = ap (λ (v : List Bool). length v) c.self.view_is in omega (arith, a, c.requires) in
    let marked = sym (read-as c.self.inside.flags.items c.args.number c.index-before.result.now false there c.index-before.ensures) ∙ c.if-before.true in
    let w = c.self.invariant.listed in
    let some = (w.listed c.args.number marked).0 in
    record {
      listed = listed-fewer c.self.inside.flags.items c.self.inside.numbers.items c.self.inside.places.items c.args.number (length c.self.inside.numbers.items - 1) (get_or c.self.inside.places.items c.args.number 0) (get_or c.self.inside.numbers.items (length c.self.inside.numbers.items - 1) 0) w marked refl refl (omega (arith, some)) c.leave.new.numbers.items c.leave.new.places.items c.leave.ensures.numbers c.leave.ensures.places;
      room = let a = length-set c.self.inside.flags.items c.args.number false in omega (arith, a, c.leave.ensures.capacity, c.self.invariant.room);
    }
