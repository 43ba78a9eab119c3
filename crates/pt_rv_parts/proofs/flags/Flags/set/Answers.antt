use Rattle.std.proofs.Common.{◌<◌, Bool, List, false, true, length, ap, sym, ◌∙◌, arith, length-set}
use Rattle.pt_rv_parts.proofs.FlagLaws.{listed-room, listed-more}
use Rattle.pt_rv_parts.proofs.ListLaws.{read-as}
use Rattle.pt_rv_parts.proofs.flags.Flags.set.Goals as goal

pub enter-requires-clause-room : goal.enter-requires-clause-room
enter-requires-clause-room c =
    let there : c.args.number < length c.self.inside.flags.items = let a = ap (λ (v : List Bool). length v) c.self.view_is in omega (arith, a, c.requires) in
    let unset = sym (read-as c.self.inside.flags.items c.args.number c.index-before.result.now false there c.index-before.ensures) ∙ c.if-before.false in
    let r = listed-room c.self.inside.flags.items c.self.inside.numbers.items c.self.inside.places.items c.args.number c.self.invariant.listed there unset in
    omega (arith, r, c.self.invariant.room)

pub invariant_of-self : goal.invariant_of-self
invariant_of-self c =
    let there : c.args.number < length c.self.inside.flags.items = let a = ap (λ (v : List Bool). length v) c.self.view_is in omega (arith, a, c.requires) in
    let unset = sym (read-as c.self.inside.flags.items c.args.number c.index-before.result.now false there c.index-before.ensures) ∙ c.if-before.false in
    record {
      listed = listed-more c.self.inside.flags.items c.self.inside.numbers.items c.self.inside.places.items c.args.number c.self.invariant.listed there unset c.enter.new.numbers.items c.enter.new.places.items c.enter.ensures.numbers c.enter.ensures.places;
      room = let a = length-set c.self.inside.flags.items c.args.number true in omega (arith, a, c.enter.ensures.capacity, c.self.invariant.room);
    }
