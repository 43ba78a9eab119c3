use Rattle.std.proofs.Common.{◌≡◌, ◌++◌, ◌∷◌, [], ◌+◌, ◌∙◌, List, ℤ, take, subst, ap, sym, to_z, of_z, w64, is_ok, true, rules, arith, if◌then◌else◌}
use Rattle.std.proofs.lemmas.Int.{to_z-of_z}
use Rattle.pt_chart.specs.Names.{names_in}
use Rattle.pt_guards.specs.Placed.{AreGiven}
use Rattle.pt_guards.specs.Reads.{reads_view}
use Rattle.pt_guards.proofs.PlacedLaws.{given-more, given-all}
use Rattle.pt_guards.proofs.quick.given_quickly.Goals as goal

pub loop-action-preserved : goal.loop-action-preserved
loop-action-preserved c table actions says =
    let s = names_in table (reads_view c.args.reads.now) in
    let k = c.loop-action.action-index in
    let row = c.loop-action.given.items in
    let n = c.in-Some.n in
    let room : is_ok c.push.result ≡ true = first_of (cc, search rules) in
    let passed : to_z w64 (of_z w64 n) ≡ n = first_of (search rules, grind (arith, to_z-of_z)) in
    let put : c.push.new.self.items ≡ row ++ (n ∷ []) = c.push.ensures.items ∙ ap (λ b. if b then row ++ (to_z w64 (of_z w64 n) ∷ []) else row) room ∙ ap (λ m. row ++ (m ∷ [])) passed in
    subst (λ (ns : List ℤ). AreGiven s (take (k + 1) actions) ns) (sym put)
    (given-more table s c.args.placed.now actions k c.action-item.result n row says c.loop-action-test.true c.action-item.is (λ tree told. c.in-Some.ensures table tree told) (c.loop-action.invariant table actions says))

pub returns : goal.returns
returns c table actions says =
    given-all table (names_in table (reads_view c.args.reads.now)) c.args.placed.now actions c.loop-action.action-index c.loop-action.given.items says c.loop-action-test.false (c.loop-action.invariant table actions says)
