use Rattle.std.proofs.Common.{◌≡◌, ℕ, ◌<◌, Some, List, [], length, get_or, map, bytes_eq, sym, ap, subst, ◌∙◌}
use Rattle.std.proofs.lemmas.Bool.{both_ways}
use Rattle.std.proofs.lemmas.List.{get_or_default}
use Rattle.std.proofs.lemmas.Option.{slice_get-get_or}
use Rattle.std.specs.List.{position, slice_get}
use Rattle.pt_document.specs.declared.code.Code.TheVariants as code
use Rattle.pt_net.specs.declared.net.NetPort.{NetPort}
use Rattle.pt_net.specs.Table.{shown}
use Rattle.pt_survey.specs.Survey.{tables_view}
use Rattle.pt_net.specs.Net.{Records}
use Rattle.pt_links.specs.Recorded.{sought_in}
use Rattle.pt_net.specs.Stands.{IsRecordFault}
use Rattle.pt_links.proofs.Told.{told}
use Rattle.pt_links.proofs.RecordSteps.{repeated_told, unnamed_told, named, place_below}
use Rattle.pt_links.proofs.records.Recorder.port.Goals as goal

text_at : (records : List (List ℕ)) (i : ℕ) (text x : List ℕ) → i < length records → text ≡ get_or records i x → slice_get records i ≡ Some text
text_at records i text x within same = slice_get-get_or records i x within ∙ ap Some (sym same)

pub returns-then-not-is_first-clause-told : goal.returns-then-not-is_first-clause-told
returns-then-not-is_first-clause-told c =
    let t = tables_view c.args.self.now.tables.now in
    let records = c.args.self.now.records.now in
    let text = c.as_str-text.result.now in
    let at = text_at records c.args.number text c.index-self-number.result c.requires.number c.as_str-text.ensures in
    told c.refused_record.result code.Record (shown text) (IsRecordFault t records) c.refused_record.ensures
    (repeated_told t records c.args.number text at (λ e. both_ways c.is_first.result c.if-not-is_first.true (c.is_first.ensures.1 e)))

pub returns-in-Some-clause-ok : goal.returns-in-Some-clause-ok
returns-in-Some-clause-ok c =
    let t = tables_view c.args.self.now.tables.now in
    let records = c.args.self.now.records.now in
    let text = c.as_str-text.result.now in
    let same : text ≡ get_or records c.args.number [] = c.as_str-text.ensures ∙ get_or_default records c.args.number c.index-self-number.result [] c.requires.number in
    let first : position (bytes_eq text) records ≡ Some c.args.number = c.is_first.ensures.0 c.if-not-is_first.false in
    let place : position (bytes_eq text) (map (λ o. o.path) (sought_in records t.ports)) ≡ Some c.in-Some.place = sym c.in-Some.ensures in
    let held = map (λ o. o.port) (sought_in records t.ports) in
    let d : NetPort = record { entity = 0; port = 0 } in
    let port = get_or c.args.self.now.ports.now c.in-Some.place d in
    let at : slice_get held c.in-Some.place ≡ Some port = slice_get-get_or held c.in-Some.place d (place_below t records text c.in-Some.place place) ∙ ap (λ (ps : List NetPort). Some (get_or ps c.in-Some.place d)) (sym c.requires.recorder.ports) in
    record {
      first = subst (λ (x : List ℕ). position (bytes_eq x) records ≡ Some c.args.number) same first;
      named = subst (λ (x : List ℕ). Records t x port) same (named t records text c.in-Some.place port place at);
    }

pub returns-in-None-clause-told : goal.returns-in-None-clause-told
returns-in-None-clause-told c =
    let t = tables_view c.args.self.now.tables.now in
    let records = c.args.self.now.records.now in
    let text = c.as_str-text.result.now in
    let at = text_at records c.args.number text c.index-self-number.result c.requires.number c.as_str-text.ensures in
    told c.refused_record-in-None.result code.Record (shown text) (IsRecordFault t records) c.refused_record-in-None.ensures (unnamed_told t records c.args.number text at (sym c.in-None.ensures))
