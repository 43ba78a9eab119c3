use Rattle.std.proofs.Common.{List, map, ap, ◌∙◌, arith}
use Rattle.pt_net.specs.declared.net.Transparent.{Transparent}
use Rattle.pt_net.specs.Net.{transparent_view}
use Rattle.pt_machine.specs.Children.{has_transparent}
use Rattle.pt_machines.proofs.ground.Ground.of.Goals as goal

pub returns-clause-prepared : goal.returns-clause-prepared
returns-clause-prepared c =
    let n = c.args.net.now in
    record {
      frames = c.in_ok-frames.ensures;
      listed = c.in_ok-insides.ensures.children_counted;
      children = λ m short. (c.in_ok-insides.ensures.each m short).children_are;
      counted = omega (arith, c.in_ok-parted.ensures.counted, c.len.ensures, n.entities.ok.0);
      parted = λ m short. c.in_ok-parted.ensures.each m (omega (arith, short, c.len.ensures, n.entities.ok.0)) ∙ ap (λ (ts : List Transparent). has_transparent (map transparent_view ts) m) c.deref.ensures.value;
    }
