use Rattle.std.proofs.Common.{◌≡◌, List, sym, subst}
use Rattle.std.specs.Prelude.{Option}
use Rattle.pt_typing.specs.Least.{assignment}
use Rattle.pt_library.specs.declared.library_actor.LibraryActor.{LibraryActor}
use Rattle.pt_chart.specs.declared.written.Written.{Written}
use Rattle.pt_stated.specs.declared.stated.Stated.{Stated}
use Rattle.pt_trees.specs.declared.build_fault.BuildFault.{BuildFault}
use Rattle.pt_trees.specs.declared.build_fault.BuildFault.TheVariants as fault
use Rattle.pt_node.specs.Shown.{shown_node}
use Rattle.pt_node.specs.View.{node_of}
use Rattle.pt_trees.specs.Trees.{Starts, AreStarted, IsTree}
use Rattle.pt_trees.specs.Built as built
use Rattle.pt_trees.specs.Built.{IsBuilt, BuildFaultStands}
use Rattle.pt_builder.specs.Starts.{starts_of}
use Rattle.pt_elaboration.specs.Begun.{starts_in}
use Rattle.pt_elaboration.specs.Refused.{for_plan}
use Rattle.pt_elaboration.proofs.StartLaws.{are-started}
use Rattle.pt_model.proofs.TreesBuilt.{has-tree}
use Rattle.pt_model.proofs.tree.tree_of.Goals as goal

-- what is lent of the lists is what the net starts with
same-starts : (a b : List (Option LibraryActor)) (s t : List (Option Stated)) (m n : List (Option Written)) → a ≡ b → s ≡ t → m ≡ n → starts_of a s m ≡ starts_of b t n
same-starts a b s t m n e f g = λ i. starts_of (e i) (f i) (g i)

pub build-requires : goal.build-requires
build-requires c =
    let s = c.args.started.now in
    let same : starts_of c.deref.result.now c.deref-2.result.now c.deref-3.result.now ≡ starts_in s = same-starts c.deref.result.now s.starts.items c.deref-2.result.now s.stated.items c.deref-3.result.now s.machines.items c.deref.ensures.value c.deref-2.ensures.value c.deref-3.ensures.value in
    subst (λ (v : Starts). AreStarted v) (sym same) (are-started c.args.net.now s.values (assignment s.typing) (starts_in s) c.requires.started.started)

pub returns-in-Ok-clause-tree : goal.returns-in-Ok-clause-tree
returns-in-Ok-clause-tree c =
    let s = c.args.started.now in
    let same : starts_of c.deref.result.now c.deref-2.result.now c.deref-3.result.now ≡ starts_in s = same-starts c.deref.result.now s.starts.items c.deref-2.result.now s.stated.items c.deref-3.result.now s.machines.items c.deref.ensures.value c.deref-2.ensures.value c.deref-3.ensures.value in
    subst (λ (v : Starts). IsTree c.args.net.now v 0 (node_of (shown_node c.in-Ok.top))) same c.in-Ok.ensures.tree

pub returns-in-Ok-clause-built : goal.returns-in-Ok-clause-built
returns-in-Ok-clause-built c =
    let s = c.args.started.now in
    let same : starts_of c.deref.result.now c.deref-2.result.now c.deref-3.result.now ≡ starts_in s = same-starts c.deref.result.now s.starts.items c.deref-2.result.now s.stated.items c.deref-3.result.now s.machines.items c.deref.ensures.value c.deref-2.ensures.value c.deref-3.ensures.value in
    subst (λ (v : Starts). IsBuilt c.args.net.now v 0 (shown_node c.in-Ok.top)) same c.in-Ok.ensures.built

pub returns-in-Err-Refused-clause-stands : goal.returns-in-Err-Refused-clause-stands
returns-in-Err-Refused-clause-stands c =
    let net = c.args.net.now in
    let s = c.args.started.now in
    let refusal = c.in-Err-Refused.refusal in
    let given = starts_of c.deref.result.now c.deref-2.result.now c.deref-3.result.now in
    let same : given ≡ starts_in s = same-starts c.deref.result.now s.starts.items c.deref-2.result.now s.stated.items c.deref-3.result.now s.machines.items c.deref.ensures.value c.deref-2.ensures.value c.deref-3.ensures.value in
    let stands : BuildFaultStands net given (fault.Refused refusal) = subst (λ (f : BuildFault). BuildFaultStands net given f) c.in-Err-Refused.field-0-is c.in-Err-Refused.ensures.stands in
    for_plan s.values (assignment s.typing) (starts_in s) c.requires.started (subst (λ (v : Starts). built.IsRefused net v refusal) same stands)

pub unreachable-requires : goal.unreachable-requires
unreachable-requires c =
    let net = c.args.net.now in
    let s = c.args.started.now in
    let given = starts_of c.deref.result.now c.deref-2.result.now c.deref-3.result.now in
    let same : given ≡ starts_in s = same-starts c.deref.result.now s.starts.items c.deref-2.result.now s.stated.items c.deref-3.result.now s.machines.items c.deref.ensures.value c.deref-2.ensures.value c.deref-3.ensures.value in
    let stands : BuildFaultStands net given fault.Unbuilt = subst (λ (f : BuildFault). BuildFaultStands net given f) c.in-Err-Unbuilt.field-0-is c.in-Err-Unbuilt.ensures.stands in
    has-tree c.stated_is_lawful.ensures c.processes_are_stated.ensures net s.values (assignment s.typing) (starts_in s) c.requires.document c.requires.started (subst (λ (v : Starts). built.IsUnbuilt net v) same stands)
