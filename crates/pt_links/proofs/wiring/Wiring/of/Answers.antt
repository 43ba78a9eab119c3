use Rattle.std.proofs.Common.{◌≡◌, ℕ, List, length, sym, subst, ◌∙◌, arith, Vec, Global}
use Rattle.std.proofs.lemmas.List.{length-map}
use Rattle.std.specs.List.{All}
use Rattle.pt_net.specs.declared.wire.Wire.{Wire}
use Rattle.pt_survey.specs.declared.tables.PlacedPort.{PlacedPort}
use Rattle.pt_survey.specs.Survey.{tables_view, ports_view, port_at}
use Rattle.pt_net.specs.Wires.{wire_of}
use Rattle.pt_links.specs.Ties.{IsPortWithin, AreTied}
use Rattle.pt_net.specs.Net.{wires}
use Rattle.pt_links.proofs.WireFacts.{gives_some, wires_are, wires_within, ports_within}
use Rattle.pt_links.proofs.wiring.Wiring.of.Goals as goal

count : (ports : Vec PlacedPort Global) (n : ℕ) → n ≡ ports.len → n ≡ length (ports_view ports.items)
count ports n e = omega (arith, length-map ports.items port_at, ports.ok.0)

pub of-requires : goal.of-requires
of-requires c =
    let t = tables_view c.args.tables.now in
    let all : All (IsPortWithin (length t.ports)) (wires t) = ports_within (length t.ports) (length t.relations) (wires t) (wires_within t) in
    subst (λ (ws : List Wire). All (IsPortWithin c.len.result) ws) (sym (c.deref.ensures.value ∙ wires_are t c.in_ok-wires.wires.items c.in_ok-wires.ensures.ok))
    (subst (λ (n : ℕ). All (IsPortWithin n) (wires t)) (sym (count c.args.tables.now.ports c.len.result c.len.ensures)) all)

pub returns-clause-wiring : goal.returns-clause-wiring
returns-clause-wiring c =
    let t = tables_view c.args.tables.now in
    let held = wires_are t c.in_ok-wires.wires.items c.in_ok-wires.ensures.ok in
    record {
      owned = c.requires;
      wires_are = held;
      within = wires_within t;
      tied =
          subst (λ (n : ℕ). AreTied n (wires t) c.in_ok-ties.ties.outside.items c.in_ok-ties.ties.inside.items) (count c.args.tables.now.ports c.len.result c.len.ensures)
          (subst (λ (ws : List Wire). AreTied c.len.result ws c.in_ok-ties.ties.outside.items c.in_ok-ties.ties.inside.items) (c.deref.ensures.value ∙ held) c.in_ok-ties.ensures);
    }

pub returns-clause-named : goal.returns-clause-named
returns-clause-named c = λ l w none. let t = tables_view c.args.tables.now in gives_some (wire_of t.ports t.relations) t.links c.in_ok-wires.wires.items c.in_ok-wires.ensures.ok l w none
