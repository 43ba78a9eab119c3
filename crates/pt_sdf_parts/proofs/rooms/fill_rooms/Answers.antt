use Rattle.std.proofs.Common.{ℕ, ◌+◌, ◌<◌, length, length-set, get_or, inl, inr, Option, None, Vec, Global, ◌∙◌, arith}
use Rattle.std.proofs.lemmas.Bool.{cases_lt}
use Rattle.pt_value.specs.declared.token.Token.{Token}
use Rattle.pt_sdf_parts.specs.Rooms.{HasRoom}
use Rattle.pt_sdf_parts.proofs.Lists.{set-each}
use Rattle.pt_sdf_parts.proofs.rooms.fill_rooms.Goals as goal

pub loop-k-preserved : goal.loop-k-preserved
loop-k-preserved c =
    let at = c.args.from + c.loop-k.k in
    let rooms = c.loop-k.rooms.items in
    let room = c.fill_room-in-loop-k.new.room in
    let Fits : ℕ → Option (Vec Token Global) → Type 0 = λ j r. HasRoom (get_or c.args.needs.now j 0) r in
    let short : at < length rooms = omega (arith, c.loop-k-test.true, c.requires.places, c.loop-k.invariant.counted) in
    record {
      counted = length-set rooms at room ∙ c.loop-k.invariant.counted;
      kept = λ j h. set-each Fits rooms at room None short c.in_ok-fill_room.ensures.made j (λ _. c.loop-k.invariant.kept j h);
      made = λ j below. set-each Fits rooms at room None short c.in_ok-fill_room.ensures.made (c.args.from + j) (λ other. elim (cases_lt j c.loop-k.k) [
        | inl low ↦ c.loop-k.invariant.made j low
        | inr high ↦ absurd (other (omega (arith, below, high)))
      ]);
    }
