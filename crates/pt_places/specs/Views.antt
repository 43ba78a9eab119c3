-- What the program holds while it makes inequalities.
use Rattle.std.specs.Prelude.{◌≡◌, ◌++◌, ◌∷◌, [], ℕ, List, map, bytes_eq, if◌then◌else◌}
use Rattle.std.specs.Borrow.{Bor}
use Rattle.pt_document.specs.declared.job.Port.{Port}
use Rattle.pt_document.specs.Document.{PortTree}
use Rattle.pt_document.specs.View.{port_view}
use Rattle.pt_inequalities.specs.Rows.{PortRow, port_rows}
use Rattle.pt_typing.specs.declared.term.Inequality.{Inequality as GivenInequality}
use Rattle.pt_typing.specs.Views.{Inequality, inequality_view}
use Rattle.pt_language.specs.Types.{Types}
use Rattle.pt_places.specs.declared.place.Place.{Place}
use Rattle.pt_inequalities.specs.Frames.{seen_types}
use Rattle.pt_frames.specs.Views.{frames_view}

-- the types of the parameters that are seen round an entity
abbrev pub types_at : Place → Types
types_at p = seen_types (frames_view p.frames.now) p.entity.now.within p.entity.now.parent

-- the ports of some entities and transparent composites
abbrev pub port_lists : List (Bor (List Port)) → List (List PortTree)
port_lists lists = map (λ ps. map port_view ps.now) lists

-- the rows from the first one of a class on
abbrev pub rows_behind : List PortRow → List ℕ → List PortRow
rows_behind [] class = []
rows_behind (r ∷ rs) class = if bytes_eq r.class class then r ∷ rs else rows_behind rs class

-- the same of the whole table. They say of the ports of the class what the whole table says
abbrev pub class_rows : List ℕ → List PortRow
class_rows class = rows_behind port_rows class

-- some more inequalities behind those that there were
abbrev pub IsAdded : List GivenInequality → List GivenInequality → List Inequality → Type 0
IsAdded old new qs = map inequality_view new ≡ map inequality_view old ++ qs
