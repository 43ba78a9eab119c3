-- No finished firing in a run of the model of the net of a document takes or gives a token of another type than its port's.
use Rattle.std.specs.Prelude.{ℕ}
use Rattle.pt_meaning.specs.Meetings.{Meets}
use Rattle.pt_meaning.specs.Job.{meaning}
use Rattle.pt_net.specs.declared.net.Net.{Net}
use Rattle.pt_library.specs.LibraryActor.{rows}
use Rattle.pt_node.specs.Shown.{Shown}
use Rattle.pt_node.specs.View.{node_of}
use Rattle.pt_trees.specs.declared.top.Top.{Top}
use Rattle.pt_trees.specs.Run.{schedule}
use Rattle.pt_kinds.specs.Signature.{IsTypedLog}
use Rattle.pt_typed.specs.TokenTypes.{IsTokenOf}
use Rattle.pt_typed.specs.NetTypes.{types_below}
use Rattle.pt_order.specs.Laws.{IsNetOfDocument}
use Rattle.pt_model.specs.Model.{IsModel}

-- In the meaning of a model of a net, under any meetings, at each fuel, each finished firing took at each place only tokens of the type that the net has there, and gave on each output only tokens of the type of that.
abbrev pub KeepsTypes : (net : Net) (top : Shown) (j : Top) → IsModel net top j → Type 0
KeepsTypes net top j model = (m : Meets) (k : ℕ) → IsTypedLog IsTokenOf (types_below net model.typing 0) (meaning k rows m (schedule j) (node_of top))

-- So it is of each model of the net of a document.
abbrev pub ModelsKeepTypes : Type 0
ModelsKeepTypes = (net : Net) (top : Shown) (j : Top) → IsNetOfDocument net → (model : IsModel net top j) → KeepsTypes net top j model
