-- What a check tells of a net with these types and this tree of nodes.
use Rattle.std.specs.Prelude.{◌≡◌, ℕ, List, map}
use Rattle.pt_typing.specs.Least.{Assignment}
use Rattle.pt_net.specs.declared.net.Net.{Net}
use Rattle.pt_node.specs.Shown.{Shown}
use Rattle.pt_facts.specs.declared.facts.Facts.{Facts}
use Rattle.pt_facts.specs.CheckText.{typed, check_text}
use Rattle.pt_check.specs.Types.{port_types}
use Rattle.pt_check.specs.Children.{told_in, repetitions_of, depths_of}

pub record AreFacts (net : Net) (typing : Assignment) (top : Shown) (facts : Facts) : Type 0 where
  pub types : map typed facts.types.items ≡ port_types net typing
  pub repetitions : facts.repetitions.items ≡ told_in repetitions_of top
  pub depths : facts.depths.items ≡ told_in depths_of top

-- the text of these facts
abbrev pub text_of : Net → Assignment → Shown → List ℕ
text_of net typing top = check_text (port_types net typing) (told_in repetitions_of top) (told_in depths_of top)
