use Rattle.std.proofs.Common.{◌≡◌, ℕ, ◌+◌, ◌<◌, length, get_or, min, ap, ◌∙◌, arith}
use Rattle.std.proofs.lemmas.List.{length-map, get_or_default}
use Rattle.pt_survey.specs.Survey.{tables_view, port_at}
use Rattle.pt_links.proofs.Told.{read_view}
use Rattle.pt_links.proofs.Counts.{counts_read, owned_read}
use Rattle.pt_links.proofs.checks.count_port.Goals as goal

pub index-requires : goal.index-requires
index-requires c =
    let t = tables_view c.args.wiring.now.tables.now in
    let items = c.args.wiring.now.tables.now.ports.items in
    let port = c.index-port.result.now in
    let inside : c.args.number < length items = omega (arith, length-map items port_at, c.requires.number) in
    let read = read_view port_at items c.args.number port inside c.index-port.ensures in
    let own = owned_read t c.args.number (port_at port) (omega (arith, inside, length-map items port_at)) read c.requires.wiring.owned in
    omega (arith, own, c.requires.counts.each, c.args.counts.now.ok.0)

pub index_mut-requires : goal.index_mut-requires
index_mut-requires c =
    let t = tables_view c.args.wiring.now.tables.now in
    let items = c.args.wiring.now.tables.now.ports.items in
    let port = c.index-port.result.now in
    let inside : c.args.number < length items = omega (arith, length-map items port_at, c.requires.number) in
    let read = read_view port_at items c.args.number port inside c.index-port.ensures in
    let own = owned_read t c.args.number (port_at port) (omega (arith, inside, length-map items port_at)) read c.requires.wiring.owned in
    omega (arith, own, c.requires.counts.each, c.args.counts.now.ok.0)

pub returns : goal.returns
returns c =
    let t = tables_view c.args.wiring.now.tables.now in
    let items = c.args.wiring.now.tables.now.ports.items in
    let port = c.index-port.result.now in
    let inside : c.args.number < length items = omega (arith, length-map items port_at, c.requires.number) in
    let read = read_view port_at items c.args.number port inside c.index-port.ensures in
    let within : c.args.number < length t.ports = omega (arith, inside, length-map items port_at) in
    let own = owned_read t c.args.number (port_at port) within read c.requires.wiring.owned in
    let had : c.index.result.now ≡ get_or c.args.counts.now.items port.entity 0 = c.index.ensures ∙ get_or_default c.args.counts.now.items port.entity c.index.result.now 0 (omega (arith, own, c.requires.counts.each)) in
    counts_read t c.args.number (port_at port) within read c.args.counts.now.items c.input_channels-channels.result c.saturating_add.result own c.input_channels-channels.ensures (c.saturating_add.ensures ∙ ap (λ (n : ℕ). min (n + c.input_channels-channels.result) 18446744073709551615) had) c.requires.counts

pub input_channels-channels-requires-clause-number : goal.input_channels-channels-requires-clause-number
input_channels-channels-requires-clause-number c = c.requires.number

pub index-port-requires : goal.index-port-requires
index-port-requires c = omega (arith, length-map c.args.wiring.now.tables.now.ports.items port_at, c.args.wiring.now.tables.now.ports.ok.0, c.requires.number)
