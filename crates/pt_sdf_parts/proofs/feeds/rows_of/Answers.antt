use Rattle.std.proofs.Common.{◌≡◌, ◌+◌, List, [], ◌∷◌, ◌++◌, length, map, take, get_or, ap, sym, ◌∙◌, arith, subst, set, false}
use Rattle.std.proofs.lemmas.List.{map_more, length-take-le, length-map}
use Rattle.pt_meaning.specs.Net as net
use Rattle.pt_core.specs.declared.source.Source as plan
use Rattle.pt_core.specs.declared.source.Source.TheVariants.{Own}
use Rattle.pt_core.specs.Source.{source_of}
use Rattle.pt_sdf_parts.specs.Feeds.{rows_in, AreTargets}
use Rattle.pt_sdf_parts.proofs.FeedLaws.{added, skipped}
use Rattle.pt_sdf_parts.proofs.feeds.rows_of.Goals as goal
use Rattle.pt_sdf_parts.proofs.feeds.rows_of.Goals.{then-r-n+in_ok-add, else-r-n}

pub loop-c-preserved : goal.loop-c-preserved
loop-c-preserved c =
    let ss : List plan.Source = c.args.sources.now in
    let before : List net.Source = map source_of (take c.loop-c.c ss) in
    let s : net.Source = source_of (get_or ss c.loop-c.c (Own 0)) in
    let more : map source_of (take (c.loop-c.c + 1) ss) ≡ before ++ s ∷ [] = map_more source_of ss c.loop-c.c (Own 0) c.loop-c-test.true in
    let long : c.loop-c.c ≡ length before = sym (length-map (take c.loop-c.c ss) source_of ∙ length-take-le c.loop-c.c ss (omega (arith, c.loop-c-test.true))) in
    elim c.if-r-n.branch [
      | then-r-n+in_ok-add w ↦
          subst (λ v. AreTargets c.args.n (map source_of (take (c.loop-c.c + 1) ss)) v.items) (sym w.rows-is)
          (subst (λ v. AreTargets c.args.n v w.add.new.rows.items) (sym more)
          (added c.args.n before s c.loop-c.rows.items w.add.new.rows.items _ c.loop-c.invariant (omega (arith, w.if-r-n.true, c.row_in-r.ensures)) long w.port_in.ensures
          (w.in_ok-add.ensures ∙ ap (λ r. set (rows_in c.loop-c.rows.items) r (get_or (rows_in c.loop-c.rows.items) r [] ++ record { channel = c.loop-c.c; port = w.port_in.result; moves = false } ∷ [])) c.row_in-r.ensures)))
      | else-r-n w ↦
          subst (λ v. AreTargets c.args.n (map source_of (take (c.loop-c.c + 1) ss)) v.items) (sym w.rows-is)
          (subst (λ v. AreTargets c.args.n v c.loop-c.rows.items) (sym more) (skipped c.args.n before s c.loop-c.rows.items c.loop-c.invariant (omega (arith, w.if-r-n.false, c.row_in-r.ensures))))
    ]
