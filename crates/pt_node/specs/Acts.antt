-- How the directors make firings of composites of nodes.
use Rattle.pt_core.specs.Acts.{Acts}
use Rattle.pt_directors.specs.Directors.{Director, director_acts}
use Rattle.pt_library.specs.LibraryActor.{rows}

abbrev pub acts : Acts rows Director
acts = director_acts rows
