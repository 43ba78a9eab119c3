use Rattle.std.proofs.Common.{◌≡◌, List, Bool, false, true, length, sym, ap, subst, ◌∙◌, arith}
use Rattle.std.specs.List.{list_all}
use Rattle.std.proofs.lemmas.List.{length-replicate}
use Rattle.pt_machine_parts.specs.Claims.{itself, IsTaken, shared, idle}
use Rattle.pt_machine_parts.proofs.ClaimLaws.{taken-first, all-apart, each-claimed, one-idle}
use Rattle.pt_machine_parts.proofs.claims.check_claims.Goals as goal

pub take_all-requires-clause-start : goal.take_all-requires-clause-start
take_all-requires-clause-start c = taken-first c.args.count c.args.claims.now c.in_ok-taken.taken.items c.in_ok-taken.ensures

pub take_all-requires-clause-within : goal.take_all-requires-clause-within
take_all-requires-clause-within c = λ i r at.
    let counted : length c.in_ok-taken.taken.items ≡ c.args.count = ap (λ (t : List Bool). length t) c.in_ok-taken.ensures ∙ length-replicate c.args.count false in
    let below = c.requires i r at in
    omega (arith, below, counted)

pub returns-then-not-take_all-clause-told : goal.returns-then-not-take_all-clause-told
returns-then-not-take_all-clause-told c = shared (c.take_all.ensures.shared c.if-not-take_all.true)

pub returns-then-not-are_taken-clause-told : goal.returns-then-not-are_taken-clause-told
returns-then-not-are_taken-clause-told c =
    let counted : length c.in_ok-taken.taken.items ≡ c.args.count = ap (λ (t : List Bool). length t) c.in_ok-taken.ensures ∙ length-replicate c.args.count false in
    let t : IsTaken c.args.count c.args.claims.now (length c.args.claims.now) c.take_all.new.taken.items = subst (λ k. IsTaken k c.args.claims.now (length c.args.claims.now) c.take_all.new.taken.items) counted (c.take_all.ensures.apart c.if-not-take_all.false) in
    let low : list_all itself c.take_all.new.taken.items ≡ false = ap (λ (ts : List Bool). list_all itself ts) (sym c.deref.ensures.value) ∙ sym c.are_taken.ensures ∙ c.if-not-are_taken.true in
    idle (one-idle c.args.count c.args.claims.now c.take_all.new.taken.items t low)

pub returns-clause-apart : goal.returns-clause-apart
returns-clause-apart c = all-apart (length c.in_ok-taken.taken.items) c.args.claims.now c.take_all.new.taken.items (c.take_all.ensures.apart c.if-not-take_all.false)

pub returns-clause-each : goal.returns-clause-each
returns-clause-each c =
    let counted : length c.in_ok-taken.taken.items ≡ c.args.count = ap (λ (t : List Bool). length t) c.in_ok-taken.ensures ∙ length-replicate c.args.count false in
    let t : IsTaken c.args.count c.args.claims.now (length c.args.claims.now) c.take_all.new.taken.items = subst (λ k. IsTaken k c.args.claims.now (length c.args.claims.now) c.take_all.new.taken.items) counted (c.take_all.ensures.apart c.if-not-take_all.false) in
    let all : list_all itself c.take_all.new.taken.items ≡ true = ap (λ (ts : List Bool). list_all itself ts) (sym c.deref.ensures.value) ∙ sym c.are_taken.ensures ∙ c.if-not-are_taken.false in
    each-claimed c.args.count c.args.claims.now c.take_all.new.taken.items t all
