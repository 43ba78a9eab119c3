use Rattle.std.proofs.Common.{◌≡◌, ℕ, zero, suc, ◌≤◌, List, [], ◌∷◌, length, get_or, refl, arith}
use Rattle.pt_rv_parts.proofs.renew.room_of.Goals as goal

past : (ns : List ℕ) (r : ℕ) → length ns ≤ r → get_or ns r 0 ≡ 0
past [] r l = refl
past (n ∷ ns) zero l = absurd (omega (arith, l))
past (n ∷ ns) (suc r) l = past ns r (omega (arith, l))

pub returns-then-place-places : goal.returns-then-place-places
returns-then-place-places c = let e = past c.args.counts.now c.args.place c.if-place-places.true in omega (arith, e)
