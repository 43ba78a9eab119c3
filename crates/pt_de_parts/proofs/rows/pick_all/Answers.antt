use Rattle.std.proofs.Common.{ℕ, ◌<◌, length, set, refl, ◌∙◌, arith, length-set}
use Rattle.pt_de_parts.proofs.RowLaws.{picked-more, picked-all, behind-more, left-all, rest-same}
use Rattle.pt_de_parts.proofs.rows.pick_all.Goals as goal

pub loop-place-preserved : goal.loop-place-preserved
loop-place-preserved c =
    let k : ℕ = c.loop-place.place in
    let row : k < length c.loop-place.row.items = omega (arith, c.loop-place-test.true, c.requires.room, c.requires.same, c.loop-place.invariant.rows) in
    let line : k < length c.loop-place.lines.items = omega (arith, c.loop-place-test.true, c.requires.room, c.loop-place.invariant.lines) in
    let first : k < length c.args.lines.now.items = omega (arith, c.loop-place-test.true, c.requires.room) in
    record {
      row =
          picked-more c.args.number c.loop-place.row.items (set c.loop-place.row.items k c.pick-tokens.result) c.loop-place.lines.items c.args.lines.now.items k c.index_mut.result.now c.pick-tokens.result row line first c.index_mut.ensures.value c.loop-place.invariant.rest c.pick-tokens.ensures.picked refl
          c.loop-place.invariant.row;
      left =
          behind-more c.args.number c.loop-place.lines.items (set c.loop-place.lines.items k c.pick-tokens.new.self) c.args.lines.now.items k c.pick-tokens.new.self c.index_mut.result.now line first c.index_mut.ensures.value c.loop-place.invariant.rest c.pick-tokens.ensures.behind refl c.loop-place.invariant.left;
      rest = rest-same c.loop-place.lines.items c.args.lines.now.items (set c.loop-place.lines.items k c.pick-tokens.new.self) k c.pick-tokens.new.self c.loop-place.invariant.rest refl;
      rows = length-set c.loop-place.row.items k c.pick-tokens.result ∙ c.loop-place.invariant.rows;
      lines = length-set c.loop-place.lines.items k c.pick-tokens.new.self ∙ c.loop-place.invariant.lines;
    }

pub returns-clause-row : goal.returns-clause-row
returns-clause-row c = picked-all c.args.number c.loop-place.place c.args.places c.loop-place.row.items c.args.lines.now.items (omega (arith, c.loop-place-test.false, c.loop-place.auto.place-end)) c.loop-place.invariant.row

pub returns-clause-left : goal.returns-clause-left
returns-clause-left c = left-all c.args.number c.loop-place.place c.args.places c.loop-place.lines.items c.args.lines.now.items (omega (arith, c.loop-place-test.false, c.loop-place.auto.place-end)) c.loop-place.invariant.left
