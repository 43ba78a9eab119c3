use Rattle.std.proofs.Common.{rules, ◌≡◌, true, false, ◌∙◌}
use Rattle.std.specs.Str.{bytes_eq}
use Rattle.pt_name_map.proofs.Entries.{listed-passed, place-found, place-passed}
use Rattle.pt_name_map.proofs.name_map.place_of.Goals as goal

pub returns-then-eq-clause-some : goal.returns-then-eq-clause-some
returns-then-eq-clause-some g c =
    let same : bytes_eq c.index-entries-place.result.name c.args.name.now ≡ true = search rules in
    place-found c.args.entries.now c.loop-place.place c.index-entries-place.result c.args.name.now c.loop-place-test.true c.index-entries-place.is same c.loop-place.invariant.1

pub loop-place-preserved : goal.loop-place-preserved
loop-place-preserved g c =
    let differs : bytes_eq c.index-entries-place.result.name c.args.name.now ≡ false = search rules in (
      c.loop-place.invariant.0 ∙ listed-passed c.args.entries.now c.loop-place.place c.index-entries-place.result c.args.name.now c.loop-place-test.true c.index-entries-place.is differs,
      place-passed c.args.entries.now c.loop-place.place c.index-entries-place.result c.args.name.now c.loop-place-test.true c.index-entries-place.is differs c.loop-place.invariant.1,
    )
