-- How many places the ports of an entity have together: to each input so many as channels end there.
use Rattle.std.proofs.Common.{◌≡◌, ℕ, suc, ◌+◌, List, [], ◌∷◌, length, map, replicate, refl, ap, ap₂, ◌∙◌}
use Rattle.std.specs.Prelude.{count_by}
use Rattle.std.specs.List.{enumerate_from}
use Rattle.std.proofs.lemmas.List.{length-append, length-replicate}
use Rattle.pt_document.specs.declared.job.Direction.{Direction}
use Rattle.pt_document.specs.declared.job.Direction.TheVariants.{Input, Output}
use Rattle.pt_document.specs.Document.{PortTree}
use Rattle.pt_net.specs.declared.net.Channel.{Channel}
use Rattle.pt_start.specs.Started.{ends_at, counted_port}
use Rattle.pt_order.specs.ClassPorts.{ends_from}

-- ---- widths

abbrev pub wide : Direction → (count rest : ℕ) → ℕ
wide Input count rest = count + rest
wide Output count rest = rest

-- of ports of these directions, numbered from here on
abbrev pub width : (ℕ → ℕ) → ℕ → List Direction → ℕ
width counts i [] = 0
width counts i (d ∷ ds) = wide d (counts i) (width counts (suc i) ds)

pub ends-width : (counts : ℕ → ℕ) (i : ℕ) (ds : List Direction) → length (ends_from counts i ds) ≡ width counts i ds
ends-width counts i [] = refl
ends-width counts i (Input ∷ ds) = length-append (replicate (counts i) i) (ends_from counts (suc i) ds) ∙ ap₂ (λ m n. m + n) (length-replicate (counts i) i) (ends-width counts (suc i) ds)
ends-width counts i (Output ∷ ds) = ends-width counts (suc i) ds

-- ---- ports by name

-- each name with how many channels end there, numbered from here on
abbrev pub counted_from : (ℕ → ℕ) → ℕ → List (List ℕ × Direction) → List (List ℕ × ℕ)
counted_from counts i [] = []
counted_from counts i (h ∷ hs) = (h.0, counts i) ∷ counted_from counts (i + 1) hs

abbrev pub port_head : PortTree → List ℕ × Direction
port_head p = (p.name, p.direction)

pub ports-counted : (ks : List Channel) (k i : ℕ) (ps : List PortTree) → map (counted_port ks k) (enumerate_from i ps) ≡ counted_from (λ j. count_by (ends_at k j) ks) i (map port_head ps)
ports-counted ks k i [] = refl
ports-counted ks k i (p ∷ ps) = ap (λ rest. (p.name, count_by (ends_at k i) ks) ∷ rest) (ports-counted ks k (i + 1) ps)
