use Rattle.std.proofs.Common.{◌≡◌, ◌+◌, ◌*◌, drop}
use Rattle.pt_json.specs.View.{items_view}
use Rattle.pt_moml.specs.Limits as limits
use Rattle.pt_moml.proofs.limits.+limits.Given as goal

abbrev pub decreases-room_behind : goal.decreases-room_behind
decreases-room_behind l = 2 * l.levels + 1

abbrev pub decreases-room_behind_items : goal.decreases-room_behind_items
decreases-room_behind_items l = 2 * l.levels

abbrev pub invariant-room_behind_items-loop-item : goal.invariant-room_behind_items-loop-item
invariant-room_behind_items-loop-item l = limits.room_behind l.levels l.left (limits.nest_items (items_view (drop l.item-index l.items))) ≡ limits.room_behind l.levels l.initial.left (limits.nest_items (items_view l.items))
