use Rattle.std.proofs.Common.{◌≡◌, ◌+◌, true, false, sym, ap, ◌∙◌, arith, if◌then◌else◌}
use Rattle.std.specs.Prelude.{count_by, not}
use Rattle.pt_net.specs.Inside.{is_input, is_output, is_inward}
use Rattle.pt_wiring.proofs.PortLaws.{port-more, count-snoc}
use Rattle.pt_wiring.proofs.ports.PortCounts.next.Goals as goal

pub returns-in-Input : goal.returns-in-Input
returns-in-Input c = λ ports port numbers is counts are.
    let inward : is_input port ≡ true = ap is_inward (is ∙ c.in-Input.is) in (
      record { inputs = ap (λ n. n + 1) counts.inputs ∙ sym (count-snoc is_input ports port true inward); outputs = counts.outputs ∙ omega arith ∙ sym (count-snoc is_output ports port false (ap not inward)) },
      port-more ports port numbers _ are (counts.inputs ∙ sym (ap (λ b. if b then count_by is_input ports else count_by is_output ports) inward)),
    )

pub returns-in-Output : goal.returns-in-Output
returns-in-Output c = λ ports port numbers is counts are.
    let outward : is_input port ≡ false = ap is_inward (is ∙ c.in-Output.is) in (
      record { inputs = counts.inputs ∙ omega arith ∙ sym (count-snoc is_input ports port false outward); outputs = ap (λ n. n + 1) counts.outputs ∙ sym (count-snoc is_output ports port true (ap not outward)) },
      port-more ports port numbers _ are (counts.outputs ∙ sym (ap (λ b. if b then count_by is_input ports else count_by is_output ports) outward)),
    )
