use Rattle.std.proofs.Common.{◌≡◌, ◌+◌, ◌++◌, ap, ◌∙◌, drop, map}
use Rattle.std.specs.Prelude.{option_map, slice_get}
use Rattle.pt_types.specs.Ty.{type_of}
use Rattle.pt_document.specs.View.{port_view}
use Rattle.pt_types.specs.Entry.{typed_entry}
use Rattle.pt_start.specs.PortTypes.{named_types, with_type}
use Rattle.pt_start.proofs.Loops.{get-is}
use Rattle.pt_start.proofs.Tokens.{put-some}
use Rattle.pt_start.proofs.Types.{typed-step}
use Rattle.pt_start.proofs.ports.typed_ports.Goals as goal

pub loop-number-preserved : goal.loop-number-preserved
loop-number-preserved c =
    let ps = c.args.ports.now in
    let ts = c.args.types.now in
    let i = c.loop-number.number in
    let p = c.index-ports-number.result in
    let some = with_type p.name (option_map type_of (slice_get ts i)) in
    let put : map typed_entry c.add_type.new.typed.items ≡ map typed_entry c.loop-number.typed.items ++ some =
    c.in_ok-add_type.ensures ∙ ap (λ o. map typed_entry c.loop-number.typed.items ++ with_type p.name (option_map type_of o)) (get-is ts i c.get.result c.get.ensures.lookup) in
    put-some (map typed_entry c.loop-number.typed.items) (map typed_entry c.add_type.new.typed.items) some
    (named_types (map port_view (drop i ps)) (map type_of (drop i ts))) (named_types (map port_view (drop (i + 1) ps)) (map type_of (drop (i + 1) ts))) (named_types (map port_view ps) (map type_of ts))
    put (typed-step ps ts i p c.loop-number-test.true c.index-ports-number.is) c.loop-number.invariant
