use Rattle.std.proofs.Common.{List, ℕ, IsPermutation, subst, sym}
use Rattle.pt_value.specs.Value.{Value}
use Rattle.pt_readback.specs.Reading.{Records}
use Rattle.pt_readback.proofs.Records.{record_found, no_repeated, all_names}
use Rattle.pt_readback.proofs.open.Pairs.record.Goals as goal

pub returns-in-Ok : goal.returns-in-Ok
returns-in-Ok c = λ v r.
    let P : List (List ℕ × Value) → Type 0 = λ ps. IsPermutation ps c.in-Ok.fields in
    record_found c.args.self c.in-Ok.fields v (subst P c.self.view_is c.in-Ok.ensures.ok) c.in-Ok.ensures.lawful r

pub returns-in-Err-Repeated : goal.returns-in-Err-Repeated
returns-in-Err-Repeated c = λ v r.
    let P : List (List ℕ × Value) → Type 0 = λ ps. Records ps v in
    absurd (no_repeated c.self.inside.pairs.items v _ (subst P (sym c.self.view_is) r) (rw c.in-Err-Repeated.field-0-is at c.in-Err-Repeated.ensures.err))

pub returns : goal.returns
returns c = λ v r.
    let P : List (List ℕ × Value) → Type 0 = λ ps. Records ps v in
    let h = rw c.in-Err-Name.field-0-is at c.in-Err-Name.ensures.err in
    absurd (all_names c.self.inside.pairs.items v _ (subst P (sym c.self.view_is) r) h.0 h.1)
