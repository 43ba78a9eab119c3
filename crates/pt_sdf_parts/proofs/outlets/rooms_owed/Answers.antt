use Rattle.std.proofs.Common.{◌≡◌, ℕ, ◌+◌, ◌*◌, ◌<◌, List, length, min, get_or, Option, None, Vec, Global, sym, ap, subst, ◌∙◌, arith}
use Rattle.pt_value.specs.declared.token.Token.{Token}
use Rattle.pt_recv.specs.Lines.{list_at}
use Rattle.pt_sdf_parts.specs.Rooms.{HasRoom}
use Rattle.pt_sdf_parts.proofs.Lists.{each-more}
use Rattle.pt_sdf_parts.proofs.outlets.rooms_owed.Goals as goal

pub loop-k-preserved : goal.loop-k-preserved
loop-k-preserved c =
    let k = c.loop-k.k in
    let Fits : ℕ → Option (Vec Token Global) → Type 0 = λ j room. HasRoom (min (c.args.turns * get_or c.args.gives.now j 0) (length (list_at c.args.channels.now.lists (c.args.from + j)))) room in
    let long : length c.loop-k.rooms.items ≡ k = omega (arith, c.loop-k.invariant.counted, c.loop-k.rooms.ok.0) in
    let one : Fits k c.in_ok-room.room = subst (λ n. HasRoom n c.in_ok-room.room) c.owed_on.ensures c.in_ok-room.ensures in
    record {
      counted = c.push_reserved.ensures.len ∙ ap (λ n. n + 1) c.loop-k.invariant.counted;
      room = c.push_reserved.ensures.capacity ∙ c.loop-k.invariant.room;
      made = subst (λ (rooms : List (Option (Vec Token Global))). (j : ℕ) → j < k + 1 → Fits j (get_or rooms j None)) (sym c.push_reserved.ensures.items) (each-more Fits c.loop-k.rooms.items k c.in_ok-room.room None long c.loop-k.invariant.made one);
    }

pub returns-clause-made : goal.returns-clause-made
returns-clause-made c k short = c.loop-k.invariant.made k (omega (arith, short, c.loop-k-test.false))
