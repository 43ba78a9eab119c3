-- What stands in a Modal entity, one thing after the other.
use Rattle.std.proofs.Common.{◌≡◌, ℕ, ◌+◌, ◌<◌, ◌≤◌, List, [], ◌∷◌, ◌++◌, length, map, take, get_or, sym, subst, Bor}
use Rattle.std.specs.List.{AllZip, Contains}
use Rattle.pt_net.specs.declared.net.NetEntity.{NetEntity}
use Rattle.pt_net.specs.Net.{NetEntityTree, entity_view}
use Rattle.pt_net.proofs.Members.{contains_map}
use Rattle.pt_scopes.proofs.Pushed.{zip-more, zip-all}
use Rattle.pt_chart.specs.declared.written.Ports.{Ports}
use Rattle.pt_chart.specs.Machine.{PortMap}
use Rattle.pt_chart.specs.Views.{ports_view}
use Rattle.pt_machine_parts.specs.Views.{kid_view, kids_view}
use Rattle.pt_machine_parts.proofs.ListLaws.{at-place}

pub kid-there : (cs es : List (Bor NetEntity)) → cs ≡ es → (i : ℕ) (k : Bor NetEntity) → i < length cs → k ≡ get_or cs i k → Contains (kids_view es) (entity_view k.now)
kid-there cs es same i k short is =
    subst (λ (xs : List (Bor NetEntity)). Contains (kids_view xs) (entity_view k.now)) same (contains_map kid_view cs k (at-place cs i k short is))

module _ (R : NetEntityTree → PortMap → Type 0) (cs : List (Bor NetEntity)) where
  pub ports-more : (i : ℕ) (k : Bor NetEntity) → i < length cs → k ≡ get_or cs i k → (ps new : List Ports) (p : Ports) → AllZip R (kids_view (take i cs)) (map ports_view ps) → R (entity_view k.now) (ports_view p) → new ≡ ps ++ p ∷ [] → AllZip R (kids_view (take (i + 1) cs)) (map ports_view new)
  ports-more i k short is ps new p each here more =
      subst (λ (qs : List Ports). AllZip R (kids_view (take (i + 1) cs)) (map ports_view qs)) (sym more)
      (zip-more R kid_view ports_view cs i k short is ps p each here)

  pub ports-all : (es : List (Bor NetEntity)) → cs ≡ es → (i : ℕ) (ms : List PortMap) → length cs ≤ i → AllZip R (kids_view (take i cs)) ms → AllZip R (kids_view es) ms
  ports-all es same i ms past each = subst (λ (xs : List (Bor NetEntity)). AllZip R (kids_view xs) ms) same (zip-all R kid_view cs i ms past each)
