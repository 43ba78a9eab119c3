-- The number of a port, by the numbers of all.
use Rattle.std.proofs.Common.{◌≡◌, ℕ, ◌≤◌, List, [], ◌∷◌, ◌++◌, ◌+◌, ◌<◌, length, take, get_or, map, sym, ap, ap₂, ◌∙◌, arith, inl, inr}
use Rattle.std.proofs.Math.ListN.{get_or-eq_default}
use Rattle.std.proofs.lemmas.Option.{slice_get_past}
use Rattle.std.proofs.lemmas.Bool.{cases_order}
use Rattle.std.proofs.lemmas.List.{map_more}
use Rattle.pt_document.specs.declared.job.Port.{Port}
use Rattle.pt_net.specs.Inside.{port_number, number_by}
use Rattle.pt_wiring.specs.Ports.{ArePortNumbers}
use Rattle.pt_past.specs.Recorded.{RecordedPort}

pub row-at : (ports : List Port) (row : List ℕ) → ArePortNumbers ports row → (p : ℕ) → get_or row p 0 ≡ port_number ports p
row-at ports row are p = elim (cases_order p (length ports)) [ inl same ↦ past (omega (arith, same)) | inr other ↦ elim other [ inl below ↦ are.each p below | inr above ↦ past (omega (arith, above)) ] ]
  where
    past : length ports ≤ p → get_or row p 0 ≡ port_number ports p
    past h = get_or-eq_default row 0 (omega (arith, h, are.counted)) ∙ sym (ap (λ o. number_by (take p ports) o) (slice_get_past ports p h))

-- one recorded output more
pub record-more : (f : ℕ → RecordedPort) (ns : List ℕ) (i : ℕ) (rs : List RecordedPort) (r : RecordedPort) → i < length ns → rs ≡ map f (take i ns) → r ≡ f (get_or ns i 0) → rs ++ r ∷ [] ≡ map f (take (i + 1) ns)
record-more f ns i rs r h e g = ap₂ (λ v w. v ++ w ∷ []) e g ∙ sym (map_more f ns i 0 h)
