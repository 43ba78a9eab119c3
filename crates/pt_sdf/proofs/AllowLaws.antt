-- When a child may be asked for.
use Rattle.std.proofs.Common.{◌≡◌, ℕ, suc, ◌≤◌, ◌<◌, ◌+◌, ◌*◌, List, ◌++◌, length, take, drop, get_or, sym, ap, subst, ◌∙◌, arith, None}
use Rattle.pt_meaning.specs.Streams.{at}
use Rattle.pt_meaning.specs.Machine.{Over, front}
use Rattle.pt_meaning.specs.Rounds.{Limit, within}
use Rattle.pt_meaning.specs.Kahn.{behind}
use Rattle.pt_meaning.specs.Sdf.{sdf_limits}
use Rattle.pt_meaning.specs.Running.{total}
use Rattle.pt_laws.proofs.Indexed.{asks-at}
use Rattle.pt_sdf_parts.specs.ByNeed.{by_need, planned, place_of}
use Rattle.pt_sdf.specs.State.{SdfState, Allows, needs_at, lent_of, left_of}
use Rattle.pt_sdf_parts.proofs.NeedLaws.{part-fits, length-part, get-part, at-part, limits-length, limits-cap, planned-length, planned-get, counted-takes, skip-is}

-- a child that fired less often than it may, and whose places have what it needs, may be asked for
pub allows : {T : Type 0} (s : SdfState T) (i : ℕ) → length s.plan.repetitions ≡ length s.plan.net.places → length s.plan.rates ≡ length s.plan.net.places → length s.fired ≡ length s.plan.net.places → length s.needs ≡ total s.plan.net.places → total s.plan.net.places ≤ length s.held →
    i < length s.plan.net.places → get_or s.fired i 0 < s.turns * get_or s.plan.repetitions i 0 →
    ((k : ℕ) → k < get_or s.plan.net.places i 0 → get_or s.needs (place_of s.plan.net.places i + k) 0 ≤ length (at s.held (place_of s.plan.net.places i + k))) → Allows s i
allows {T} s i reps rates fired needs held l f e =
    let ps : List ℕ = s.plan.net.places in
    let o : ℕ = place_of ps i in
    let n : ℕ = get_or ps i 0 in
    let fit : o + n ≤ total ps = part-fits ps i l in
    let ns : List ℕ = needs_at s i in
    let nl : length ns ≡ n = length-part o n s.needs (omega (arith, needs)) in
    let cs : List Limit = sdf_limits s.turns s.plan.repetitions s.plan.rates in
    let d : Limit = record { firings = None; rates = None } in
    let cap = limits-cap s.turns s.plan.repetitions s.plan.rates i d (reps ∙ sym rates) (omega (arith, reps)) in
    asks-at by_need i ps cs s.fired (planned ps s.needs) s.held (lent_of s i) (behind ns (take n (drop o s.held))) (left_of s i) Over d
    (limits-length s.turns s.plan.repetitions s.plan.rates (reps ∙ sym rates) ∙ reps) fired (planned-length ps s.needs) l
    (subst (λ x. suc (get_or s.fired i 0) ≤ within x (suc (get_or s.fired i 0))) (sym cap) (omega arith))
    (ap (λ x. front x (take n (drop o s.held))) (planned-get ps s.needs i Over l) ∙
    counted-takes ns (take n (drop o s.held)) (nl ∙ sym (length-part o n s.held (omega (arith, held))))
    (λ k b. let b' : k < n = omega arith in rw (get-part o n k s.needs b', at-part o n k s.held b') (e k b')))
    (skip-is o ns s.held (omega (arith, held)) ∙ ap (λ j. take o s.held ++ (behind ns (take j (drop o s.held)) ++ drop j (drop o s.held))) nl)
