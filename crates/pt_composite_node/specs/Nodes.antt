-- The node of a composite as it is built.
use Rattle.std.specs.Prelude.{ℕ, List, true, Option}
use Rattle.pt_meaning.specs.Tree as tree
use Rattle.pt_records.specs.Kept.{Made}
use Rattle.pt_directors.specs.Directors.{Director}
use Rattle.pt_node.specs.declared.body.Body.TheVariants as body
use Rattle.pt_past.specs.Recorded.{RecordedPort}
use Rattle.pt_node.specs.Shown.{Shown, Branch, all_of}

-- it is live and has not fired, with this record of meetings and these children, under this path, with these recorded outputs and its channels told so
abbrev pub built : Director → Option Made → List Shown → (path : List ℕ) → List RecordedPort → (labels : List (List ℕ)) → Shown
built director meetings kids path records labels = Branch (record { past = tree.unfired; body = body.Composite director; records = records; path = path; labels = labels; meetings = meetings; live = true }) (all_of kids)
