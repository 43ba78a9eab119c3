use Rattle.std.proofs.Common.{◌<◌, map, length, sym, ap, ◌∙◌, arith}
use Rattle.std.proofs.lemmas.List.{length-map}
use Rattle.pt_directors.specs.Directors.{Director}
use Rattle.pt_node.specs.declared.body.Body.TheVariants.{Composite}
use Rattle.pt_node.specs.Shown.{shown, all_of}
use Rattle.pt_node.proofs.ResetLaws.{reset-none, reset-end, keep-all, all-reset, restarted-maximum}
use Rattle.pt_node.proofs.ResetLoop.{kids-long, next-fit, next-depth, next-keeps, next-reset}
use Rattle.pt_node.proofs.node.+reset.Goals as goal

pub reset_all-loop-k-init : goal.reset_all-loop-k-init
reset_all-loop-k-init t c = (reset-none (map shown c.args.children.now.items), keep-all (all_of (map shown c.args.children.now.items)))

pub reset_all-reset-requires : goal.reset_all-reset-requires
reset_all-reset-requires t c =
    let b : c.loop-k.k < length c.loop-k.children.items = omega (arith, c.loop-k-test.true, c.len-k-end.ensures, kids-long c.loop-k.k c.args.children.now.items c.loop-k.children.items c.loop-k.invariant.0) in
    let deep = next-depth c.loop-k.k (map shown c.args.children.now.items) c.loop-k.children.items c.loop-k.invariant.0 b c.index_mut-child.result.now c.index_mut-child.ensures.value in (
      omega (arith, c.decreases, deep),
      next-fit c.loop-k.k (map shown c.args.children.now.items) c.loop-k.children.items c.loop-k.invariant.0 b c.index_mut-child.result.now c.index_mut-child.ensures.value c.requires,
    )

pub reset_all-returns-in_err-reset-clause-kept : goal.reset_all-returns-in_err-reset-clause-kept
reset_all-returns-in_err-reset-clause-kept t c =
    let b : c.loop-k.k < length c.loop-k.children.items = omega (arith, c.loop-k-test.true, c.len-k-end.ensures, kids-long c.loop-k.k c.args.children.now.items c.loop-k.children.items c.loop-k.invariant.0) in
    next-keeps c.loop-k.k (map shown c.args.children.now.items) c.loop-k.children.items c.loop-k.invariant.0 b c.index_mut-child.result.now c.index_mut-child.ensures.value c.reset.new.self c.loop-k.invariant.1 c.reset.ensures.kept

pub reset_all-loop-k-preserved : goal.reset_all-loop-k-preserved
reset_all-loop-k-preserved t c =
    let b : c.loop-k.k < length c.loop-k.children.items = omega (arith, c.loop-k-test.true, c.len-k-end.ensures, kids-long c.loop-k.k c.args.children.now.items c.loop-k.children.items c.loop-k.invariant.0) in (
      next-reset c.loop-k.k (map shown c.args.children.now.items) c.loop-k.children.items c.loop-k.invariant.0 b c.index_mut-child.result.now c.index_mut-child.ensures.value c.reset.new.self c.in_ok-reset.ensures.reset,
      next-keeps c.loop-k.k (map shown c.args.children.now.items) c.loop-k.children.items c.loop-k.invariant.0 b c.index_mut-child.result.now c.index_mut-child.ensures.value c.reset.new.self c.loop-k.invariant.1 c.reset.ensures.kept,
    )

pub reset_all-returns-clause-reset : goal.reset_all-returns-clause-reset
reset_all-returns-clause-reset t c = reset-end c.loop-k.k (map shown c.args.children.now.items) (map shown c.loop-k.children.items) c.loop-k.invariant.0 (omega (arith, c.loop-k-test.false, c.len-k-end.ensures, length-map c.args.children.now.items shown))

pub reset_body-returns-in_ok-reset-in-Composite-clause-reset : goal.reset_body-returns-in_ok-reset-in-Composite-clause-reset
reset_body-returns-in_ok-reset-in-Composite-clause-reset t c =
    all-reset c.reset_all.result c.args.body.now c.get_mut.result.now c.reset-in-Composite.new.self (all_of (map shown c.args.children.now.items)) (all_of (map shown c.reset_all.new.children.items)) (c.in-Composite.is ∙ ap (λ (d : Director). Composite d) (sym c.get_mut.ensures.value)) c.requires.ready c.in_ok-reset-in-Composite.ensures.reset c.reset_all.ensures.reset

pub reset_body-returns-in_ok-reset-in-Composite-clause-maximum : goal.reset_body-returns-in_ok-reset-in-Composite-clause-maximum
reset_body-returns-in_ok-reset-in-Composite-clause-maximum t c =
    restarted-maximum c.args.body.now c.get_mut.result.now c.reset-in-Composite.new.self (c.in-Composite.is ∙ ap (λ (d : Director). Composite d) (sym c.get_mut.ensures.value)) c.in_ok-reset-in-Composite.ensures.reset
