-- The numbers of ports, by entity and port.
use Rattle.std.proofs.Common.{◌≡◌, ℕ, ◌≤◌, List, [], length, take, get_or, refl, sym, ap, ◌∙◌, arith, inl, inr}
use Rattle.std.proofs.Math.ListN.{get_or-eq_default}
use Rattle.std.proofs.lemmas.Option.{slice_get_past}
use Rattle.std.proofs.lemmas.Bool.{cases_order}
use Rattle.pt_document.specs.declared.job.Port.{Port}
use Rattle.pt_net.specs.declared.net.NetEntity.{NetEntity}
use Rattle.pt_net.specs.Inside.{port_number, number_by, ports_at, ports_in}
use Rattle.pt_wiring.specs.Ports.{ArePortNumbers}
use Rattle.pt_wiring.specs.Channels.{AreNumbers}

number-past : (ports : List Port) (p : ℕ) → length ports ≤ p → port_number ports p ≡ 0
number-past ports p h = ap (λ o. number_by (take p ports) o) (slice_get_past ports p h)

row-at : (ports : List Port) (row : List ℕ) → ArePortNumbers ports row → (p : ℕ) → get_or row p 0 ≡ port_number ports p
row-at ports row are p = elim (cases_order p (length ports)) [ inl same ↦ past (omega (arith, same)) | inr other ↦ elim other [ inl below ↦ are.each p below | inr above ↦ past (omega (arith, above)) ] ]
  where
    past : length ports ≤ p → get_or row p 0 ≡ port_number ports p
    past h = get_or-eq_default row 0 (omega (arith, h, are.counted)) ∙ sym (number-past ports p h)

pub port-at : (es : List NetEntity) (numbers : List ℕ) (rows : List (List ℕ)) → AreNumbers es numbers rows → (i p : ℕ) → get_or (get_or rows i []) p 0 ≡ port_number (ports_at es i) p
port-at es numbers rows are i p = elim (cases_order i (length es)) [ inl same ↦ past (omega (arith, same)) | inr other ↦ elim other [ inl below ↦ row-at (ports_at es i) (get_or rows i []) (are.ports i below) p | inr above ↦ past (omega (arith, above)) ] ]
  where
    past : length es ≤ i → get_or (get_or rows i []) p 0 ≡ port_number (ports_at es i) p
    past h = ap (λ row. get_or row p 0) (get_or-eq_default rows [] (omega (arith, h, are.rows_counted))) ∙ refl ∙ sym (ap (λ o. port_number (ports_in o) p) (slice_get_past es i h) ∙ number-past [] p (omega arith))
