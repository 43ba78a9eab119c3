-- Notes and records of a firing change no name of a tree.
use Rattle.std.proofs.Common.{◌≡◌, List, [], ◌∷◌, map, refl, sym, ap, ◌∙◌}
use Rattle.pt_meaning.specs.Basics.{Tag, Streams}
use Rattle.pt_value.specs.declared.token.Token.{Token}
use Rattle.pt_past.specs.Recorded.{RecordedPort, noting, recording, unnoted}
use Rattle.pt_node.specs.Shown.{Shown, Branch}
use Rattle.pt_node.specs.Firing.{noted, bare, recorded}
use Rattle.pt_node.specs.View.{heading_of, maximum_in, Named, outline_of, outlines_of}

headings-stay : (f : RecordedPort → RecordedPort) → ((r : RecordedPort) → heading_of (f r) ≡ heading_of r) → (rs : List RecordedPort) → map heading_of (map f rs) ≡ map heading_of rs
headings-stay f h [] = refl
headings-stay f h (r ∷ rs) = ap (λ v. v ∷ map heading_of (map f rs)) (h r) ∙ ap (λ vs. heading_of r ∷ vs) (headings-stay f h rs)

pub outline_noted : (tag : Tag) (out : Streams Token) (s : Shown) → outline_of (noted tag out s) ≡ outline_of s
outline_noted tag out (Branch g ks) = ap (λ hs. Named g.path hs (maximum_in g.body) g.labels (outlines_of ks)) (headings-stay (noting tag out) (λ r. refl) g.records)

pub outline_recorded : (tag : Tag) (s : Shown) → outline_of (recorded tag s) ≡ outline_of s
outline_recorded tag (Branch g ks) = ap (λ hs. Named g.path hs (maximum_in g.body) g.labels (outlines_of ks)) (headings-stay recording (λ r. refl) g.records)

outline-bare : (s : Shown) → outline_of (bare s) ≡ outline_of s
outline-bare (Branch g ks) = ap (λ hs. Named g.path hs (maximum_in g.body) g.labels (outlines_of ks)) (headings-stay unnoted (λ r. refl) g.records)

pub outline_bare : (s t : Shown) → bare s ≡ bare t → outline_of s ≡ outline_of t
outline_bare s t e = sym (outline-bare s) ∙ ap (λ v. outline_of v) e ∙ outline-bare t
