use Rattle.std.proofs.Common.{ℕ, ◌<◌, Vec, Global, length, get_or, map, ap, ap₂, ◌∙◌, sym, subst, arith}
use Rattle.pt_meaning.specs.Streams.{Streams}
use Rattle.pt_meaning.specs.Sdf.{or_one}
use Rattle.pt_value.specs.declared.token.Token.{Token}
use Rattle.pt_sdf_parts.specs.declared.feeds.Feed.{Feed}
use Rattle.pt_sdf.specs.declared.sdf.Stage.TheVariants as code
use Rattle.pt_sdf.specs.State.{begun}
use Rattle.pt_sdf.specs.Clauses.{State}
use Rattle.pt_sdf_parts.specs.Stretches.{left_at_first}
use Rattle.pt_sdf_parts.specs.Feeds.{target_of, put_back, allowed_by, no_feed, AreThere, AreApart, MovesOnce}
use Rattle.pt_sched.specs.Stretches.{spread}
use Rattle.pt_sdf_parts.proofs.StretchLaws.{first-within}
use Rattle.pt_sdf.proofs.CoreLaws.{is-idle, seen-at, begin-there, begin-apart, begin-moves, begin-long, begun-sound, begun-state}
use Rattle.pt_sdf.proofs.sdf.Core.begin.Goals as goal

pub scatter-requires-clause-there : goal.scatter-requires-clause-there
scatter-requires-clause-there c =
    let e = c.index-arrivals.ensures ∙ ap (λ n. get_or c.self.inside.tables.feeds.items n c.index-arrivals.result.now) c.len.ensures in
    subst (λ v. AreThere (length c.self.inside.channels.lists) (length c.in_ok-arrived.arrived) v) (sym c.deref.ensures.value)
    (begin-there c.self.inside c.self.invariant.sound c.index-arrivals.result.now e c.in_ok-arrived.arrived (ap (λ v. length v) c.in_ok-arrived.ensures ∙ c.requires.inputs ∙ ap (λ (s : State). length s.plan.takes) (sym (seen-at c.self.inside code.Idle (is-idle c.self.inside c.args.self.now c.self.view_is c.requires.idle) ∙ c.self.view_is))))

pub scatter-requires-clause-apart : goal.scatter-requires-clause-apart
scatter-requires-clause-apart c =
    let e = c.index-arrivals.ensures ∙ ap (λ n. get_or c.self.inside.tables.feeds.items n c.index-arrivals.result.now) c.len.ensures in
    subst (λ v. AreApart v) (sym c.deref.ensures.value) (begin-apart c.self.inside c.self.invariant.sound c.index-arrivals.result.now e)

pub scatter-requires-clause-moves : goal.scatter-requires-clause-moves
scatter-requires-clause-moves c =
    let e = c.index-arrivals.ensures ∙ ap (λ n. get_or c.self.inside.tables.feeds.items n c.index-arrivals.result.now) c.len.ensures in
    subst (λ v. MovesOnce v) (sym c.deref.ensures.value) (begin-moves c.self.inside c.self.invariant.sound c.index-arrivals.result.now e)

pub iterations-self-inside-requires : goal.iterations-self-inside-requires
iterations-self-inside-requires c =
    let row : Vec Feed Global = c.index-arrivals.result.now in
    let e = c.index-arrivals.ensures ∙ ap (λ n. get_or c.self.inside.tables.feeds.items n c.index-arrivals.result.now) c.len.ensures in
    let d = c.in_ok-scatter.ensures.lists ∙ ap (λ v. put_back (map target_of v) c.in_ok-arrived.arrived c.self.inside.channels.lists) c.deref.ensures.value in
    let there = begin-there c.self.inside c.self.invariant.sound row e c.in_ok-arrived.arrived (ap (λ v. length v) c.in_ok-arrived.ensures ∙ c.requires.inputs ∙ ap (λ (s : State). length s.plan.takes) (sym (seen-at c.self.inside code.Idle (is-idle c.self.inside c.args.self.now c.self.view_is c.requires.idle) ∙ c.self.view_is))) in
    subst (λ v. (k : ℕ) → k < length v → (get_or v k no_feed).channel < length c.scatter.new.channels.lists) (sym c.deref-2.ensures.value)
    (λ k h. omega (arith, there.channels k h, begin-long c.self.inside c.self.invariant.sound row e c.in_ok-arrived.arrived c.scatter.new.channels.lists d))

pub invariant_of-self-2 : goal.invariant_of-self-2
invariant_of-self-2 c =
    let row : Vec Feed Global = c.index-arrivals.result.now in
    let e = c.index-arrivals.ensures ∙ ap (λ n. get_or c.self.inside.tables.feeds.items n c.index-arrivals.result.now) c.len.ensures in
    let d = c.in_ok-scatter.ensures.lists ∙ ap (λ v. put_back (map target_of v) c.in_ok-arrived.arrived c.self.inside.channels.lists) c.deref.ensures.value in
    record {
      sound =
          begun-sound c.self.inside c.self.invariant.sound row e c.in_ok-arrived.arrived c.scatter.new.channels.lists d (is-idle c.self.inside c.args.self.now c.self.view_is c.requires.idle) c.iterations-self-inside.result c.turns_of-self-inside.result
          (c.iterations-self-inside.ensures ∙ ap₂ (λ x y. or_one (allowed_by x (map target_of y) c.scatter.new.channels.lists)) c.as_slice.ensures c.deref-2.ensures.value)
          (c.turns_of-self-inside.ensures ∙ ap (λ v. left_at_first (spread v) c.iterations-self-inside.result) c.deref-3.ensures.value) c.scatter.new.staged.list c.in_ok-scatter.ensures.empty;
      stretch = first-within c.self.inside.plan.order.items c.iterations-self-inside.result c.turns_of-self-inside.result (c.turns_of-self-inside.ensures ∙ ap (λ v. left_at_first (spread v) c.iterations-self-inside.result) c.deref-3.ensures.value);
      lanes = c.self.invariant.lanes;
    }

pub returns-clause-begun : goal.returns-clause-begun
returns-clause-begun c =
    let row : Vec Feed Global = c.index-arrivals.result.now in
    let e = c.index-arrivals.ensures ∙ ap (λ n. get_or c.self.inside.tables.feeds.items n c.index-arrivals.result.now) c.len.ensures in
    let d = c.in_ok-scatter.ensures.lists ∙ ap (λ v. put_back (map target_of v) c.in_ok-arrived.arrived c.self.inside.channels.lists) c.deref.ensures.value in
    begun-state c.self.inside c.self.invariant.sound row e c.in_ok-arrived.arrived c.scatter.new.channels.lists d (is-idle c.self.inside c.args.self.now c.self.view_is c.requires.idle) c.iterations-self-inside.result c.turns_of-self-inside.result
    (c.iterations-self-inside.ensures ∙ ap₂ (λ x y. or_one (allowed_by x (map target_of y) c.scatter.new.channels.lists)) c.as_slice.ensures c.deref-2.ensures.value)
    (c.turns_of-self-inside.ensures ∙ ap (λ v. left_at_first (spread v) c.iterations-self-inside.result) c.deref-3.ensures.value) c.args.tag ∙
    ap₂ (λ (x : Streams Token) (s : State). begun c.args.tag x s) c.in_ok-arrived.ensures (seen-at c.self.inside code.Idle (is-idle c.self.inside c.args.self.now c.self.view_is c.requires.idle) ∙ c.self.view_is)
