-- What is kept of a top of library actors, and how it goes on in a block.
use Rattle.std.specs.Prelude.{ℕ, zero, suc, ◌*◌, List, [], ◌∷◌, ◌++◌, map}
use Rattle.pt_meaning.specs.Tag.{Tag}
use Rattle.pt_meaning.specs.Streams.{Streams, at}
use Rattle.pt_meaning.specs.Log.{Log, silent, log_then, with_tag}
use Rattle.pt_meaning.specs.Sdf.{SdfPlan}
use Rattle.pt_meaning.specs.Tree.{Rows, Past}
use Rattle.pt_records.specs.Kept.{Recorded, Entry, Kept, kept_by, GrewBy}
use Rattle.pt_block_laws.specs.Workers.{Worker, log_in_iteration}

-- what is kept of one path after one firing more, which gave this at a tag
abbrev pub told : {T : Type 0} → Tag → Streams T → Entry T → Entry T
told tag out e = record { count = suc e.count; recorded = map (λ r. record { port = r.port; trace = r.trace ++ with_tag tag (at out r.port) }) e.recorded; meetings = e.meetings }

-- after so many
abbrev pub told_times : {T : Type 0} → Tag → (gives : ℕ → Streams T) → ℕ → Entry T → Entry T
told_times tag gives zero e = e
told_times tag gives (suc k) e = told tag (gives k) (told_times tag gives k e)

-- of the children before iteration t, by what was kept of each itself before the first; what was kept below it stays
abbrev pub kept_before : {T A : Type 0} → Tag → ℕ → List ℕ → (ℕ → Worker T A) → (ℕ → Entry T) → (below : ℕ → List (Kept T)) → List (Kept T)
kept_before tag t [] workers es below = []
kept_before tag t (q ∷ qs) workers es below = kept_by (told_times tag (workers 0).does.gives (t * q) (es 0)) (below 0) ∷ kept_before tag t qs (λ i. workers (suc i)) (λ i. es (suc i)) (λ i. below (suc i))

-- what the first t iterations log
abbrev pub log_of_block : {T A : Type 0} → Rows T A → Tag → Past → SdfPlan → (ℕ → Worker T A) → ℕ → Log T
log_of_block rows tag h p workers zero = silent
log_of_block rows tag h p workers (suc t) = log_then (log_of_block rows tag h p workers t) (log_in_iteration rows tag h p workers t)

-- What is kept goes on by it.
abbrev pub BlockGrows : Type 0 → Type 0 → Type 0
BlockGrows T A = (rows : Rows T A) (tag : Tag) (h : Past) (p : SdfPlan) (workers : ℕ → Worker T A) (e : Entry T) (es : ℕ → Entry T) (below : ℕ → List (Kept T)) (m : ℕ) →
    GrewBy (log_of_block rows tag h p workers m) (kept_by e (kept_before tag 0 p.repetitions workers es below)) (kept_by (told_times tag (λ k. []) m e) (kept_before tag m p.repetitions workers es below))
