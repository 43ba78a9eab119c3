-- A Modal entity in its net, as the program holds it.
use Rattle.std.specs.Prelude.{List}
use Rattle.pt_net.specs.Net.{NetEntityTree}
use Rattle.pt_scopes.specs.Valued.{EntityView, entity_view}
use Rattle.pt_typing.specs.Least.{Assignment, assignment}
use Rattle.pt_inequalities.specs.ModalScopes.{ModalScope, modal_scope}
use Rattle.pt_frames.specs.Views.{frames_view}
use Rattle.pt_machine_parts.specs.Own.{entity_of, kids_of}
use Rattle.pt_machines.specs.declared.site.Site.{Site}

abbrev pub entity_at : Site → NetEntityTree
entity_at s = entity_of s.modal

abbrev pub kids_at : Site → List NetEntityTree
kids_at s = kids_of s.modal

abbrev pub values_at : Site → EntityView
values_at s = entity_view s.values.now

abbrev pub typing_at : Site → Assignment
typing_at s = assignment s.typing.now

-- what its guards and actions may name
abbrev pub scope_at : Site → ModalScope
scope_at s = modal_scope (frames_view s.frames.now) s.number (entity_at s) (values_at s)
