use Rattle.std.proofs.Common.{◌≡◌, List, ℕ, [], ◌∷◌, sym, ap, subst, length, ◌∙◌}
use Rattle.pt_meaning.specs.Machine as machine
use Rattle.pt_reaction.specs.Channels.{lists_of}
use Rattle.pt_puts.specs.declared.need.KeptNeed.TheVariants.{Counts}
use Rattle.pt_rv_parts.specs.Process.{HaveRoom, renewed}
use Rattle.pt_rv_parts.proofs.GatherLaws.{room-empty, gathers-first}
use Rattle.pt_rv_parts.proofs.StepLaws.{renewed-is, lines-emptied, got-long}
use Rattle.pt_rv_parts.proofs.process.Process.need_now.Goals as goal

pub invariant_of-self-2 : goal.invariant_of-self-2
invariant_of-self-2 c = record {
  row = c.self.invariant.row ∙ sym c.in_ok-make_rooms.ensures.counted;
  gathers = λ _.
      gathers-first c.self.inside.is_barrier c.in_ok-copy.copy c.make_rooms.new.lines.items (ap (λ v. length v) c.in_ok-copy.ensures ∙ c.requires.places ∙ got-long c.self.inside c.args.self.now c.self.invariant c.self.view_is ∙ sym c.in_ok-make_rooms.ensures.counted)
      (subst (λ v. HaveRoom c.self.inside.is_barrier v c.make_rooms.new.lines.items) (c.as_slice-2.ensures ∙ sym c.in_ok-copy.ensures) c.in_ok-make_rooms.ensures.rooms);
}

pub returns-clause-renewed : goal.returns-clause-renewed
returns-clause-renewed c =
    renewed-is c.self.inside c.args.self.now (Counts c.in_ok-copy.copy) (machine.Counts c.args.counts.now) (lists_of c.make_rooms.new.lines.items)
    (lines-emptied c.self.inside c.args.self.now c.make_rooms.new.lines.items c.self.invariant c.self.view_is (room-empty c.self.inside.is_barrier c.as_slice-2.result.now c.make_rooms.new.lines.items c.in_ok-make_rooms.ensures.rooms) c.in_ok-make_rooms.ensures.counted) (ap machine.Counts c.in_ok-copy.ensures) c.self.view_is

pub one_now-requires-clause-place : goal.one_now-requires-clause-place
one_now-requires-clause-place c =
    let one : c.args.counts.now ≡ 1 ∷ [] = sym c.as_slice.ensures ∙ c.is_one.ensures c.if-is_one.true in
    sym c.requires.places ∙ ap (λ v. length v) one

pub returns-then-is_one-clause-renewed : goal.returns-then-is_one-clause-renewed
returns-then-is_one-clause-renewed c =
    let one : c.args.counts.now ≡ 1 ∷ [] = sym c.as_slice.ensures ∙ c.is_one.ensures c.if-is_one.true in
    c.one_now.ensures ∙ ap (λ (ns : List ℕ). renewed (machine.Counts ns) c.args.self.now) (sym one)
