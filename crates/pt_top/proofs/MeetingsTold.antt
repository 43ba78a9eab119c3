-- What a run has recorded of meetings can be told.
use Rattle.std.proofs.Common.{◌≡◌, ℕ, List, All, sym, subst}
use Rattle.pt_meaning.specs.Log.{Path}
use Rattle.pt_meaning.specs.Headline.{Ending, Defined, Faulty, Spent, Queued}
use Rattle.pt_meaning.specs.Job as job
use Rattle.pt_meaning.specs.Meetings.{Meets}
use Rattle.pt_records.specs.Made.{meets_of}
use Rattle.pt_meeting_laws.specs.There.{extent_at, AreOf}
use Rattle.pt_meeting_laws.proofs.Meanings.{meetings-are-there}
use Rattle.pt_net.specs.declared.net.Net.{Net}
use Rattle.pt_trace.specs.Report.{Meetings}
use Rattle.pt_trace.specs.ReportForm.{AreMeetings}
use Rattle.pt_library.specs.LibraryActor.{rows}
use Rattle.pt_library.proofs.RowLaws.{rows_lawful}
use Rattle.pt_node.specs.Shown.{Shown}
use Rattle.pt_node.specs.Stuck.{fault_of}
use Rattle.pt_node.specs.View.{Outline, node_of, kept_of, outline_of}
use Rattle.pt_trees.specs.declared.top.Top.{Top}
use Rattle.pt_trees.specs.declared.ended.Ended.{Ended}
use Rattle.pt_trees.specs.declared.ended.Ended.TheVariants as ended
use Rattle.pt_trees.specs.Run.{schedule, Reports, IsRun}
use Rattle.pt_trees.specs.Start.{IsRunnable}
use Rattle.pt_cover.specs.Leaves.{AreStartedByClass}
use Rattle.pt_order.specs.Laws.{IsNetOfDocument, IsInOrder}
use Rattle.pt_order.proofs.NetsInOrder.{nets-in-order}
use Rattle.pt_elaboration.proofs.StartLaws.{started-by-class}
use Rattle.pt_model.specs.Model.{IsModel}
use Rattle.pt_model.proofs.TopLaws.{top-core}
use Rattle.pt_model.proofs.TypedLaws.{directed-top}
use Rattle.pt_meetings.specs.Sites.{CanBeTold, sites_in}
use Rattle.pt_meetings.specs.Standing.{StandsFor, HasOwnTexts}
use Rattle.pt_meetings.specs.Laws.{AreListed}
use Rattle.pt_meetings.proofs.Building.{built-nodes}
use Rattle.pt_tellable.proofs.OwnTexts as texts
use Rattle.pt_tellable.proofs.Telling.{can-be-told}
use Rattle.pt_tellable.proofs.Forms.{have-form}

-- under the meetings of a report, those of each path are of the composite there
of-report : (m : Meets) (j : Top) (budget count : ℕ) (old new : Shown) (e : Ending) → IsRunnable j old → Reports m j budget count old new e → (p : Path) (n : ℕ) → AreOf (extent_at (node_of old) p) (m p n)
of-report m j budget count old new e run r p n =
    let l = r.legal p n in
    subst (λ ms. AreOf (extent_at (node_of old) p) ms) l.1 (meetings-are-there rows rows_lawful m (schedule j) (node_of old) run.fitting run.planned run.start l.0 p n)

of-run : (m : Meets) (j : Top) (budget : ℕ) (old new : Shown) (e : Ended) → IsRunnable j old → IsRun m j budget old new e → (p : Path) (n : ℕ) → AreOf (extent_at (node_of old) p) (m p n)
of-run m j budget old new ended.Iterations run r = of-report m j budget 0 old new (Defined job.Iterations) run (r 0)
of-run m j budget old new ended.Inputs run r = of-report m j budget 0 old new (Defined job.Inputs) run (r 0)
of-run m j budget old new ended.Stop run r = of-report m j budget 0 old new (Defined job.Stop) run (r 0)
of-run m j budget old new ended.Idle run r = of-report m j budget 0 old new (Defined job.Idle) run (r 0)
of-run m j budget old new ended.Deadlock run r = of-report m j budget 0 old new (Defined job.Deadlock) run (r 0)
of-run m j budget old new (ended.Fault place) run r = of-report m j budget 0 old new (Faulty (fault_of r.0 place)) run (r.2 0)
of-run m j budget old new (ended.Full blocked) run r = of-report m j budget 0 old new (Queued r.0 r.1) run (r.3 0)
of-run m j budget old new (ended.Spent firings) run r = of-report m j budget 0 old new (Spent firings) run (r 0)

module _ (net : Net) (top : Shown) (j : Top) (after : Shown) (doc : IsNetOfDocument net) (model : IsModel net top j) where
  by-class : AreStartedByClass net model.starts
  by-class = started-by-class net model.values model.typing model.starts model.started.started

  in-order : IsInOrder net
  in-order =
      let has = top-core net model.values model.starts top model.started.placed model.built in
      let d = directed-top net model.values has.entity model.started.placed has.at in
      nets-in-order net model.starts has.entity d.0 (node_of top) doc by-class model.tree has.at d.1

  module _ (same : outline_of after ≡ outline_of top) where
    pub all-stand : StandsFor net.entities.items 0 (outline_of after)
    all-stand = subst (λ (o : Outline). StandsFor net.entities.items 0 o) (sym same) (built-nodes net model.starts 0 top model.built)

    pub own-texts : HasOwnTexts (outline_of after)
    own-texts = subst (λ (o : Outline). HasOwnTexts o) (sym same) (texts.own-texts net model.starts top doc by-class model.built)

  module _ (budget : ℕ) (e : Ended) (run : IsRunnable j top) (is : IsRun (meets_of (kept_of after)) j budget top after e) where
    all : (p : Path) (n : ℕ) → AreOf (extent_at (node_of top) p) (meets_of (kept_of after) p n)
    all = of-run (meets_of (kept_of after)) j budget top after e run is

    pub all-told : All (CanBeTold net) (sites_in net.entities.items 0 after)
    all-told = can-be-told net model.starts top after doc in-order model.built all

    pub all-formed : (told : List Meetings) → AreListed net after told → All AreMeetings told
    all-formed told listed = have-form net model.starts top after told doc in-order model.built all listed
