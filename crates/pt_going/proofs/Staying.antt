-- A firing keeps the top such that the job is one for it.
use Rattle.std.proofs.Common.{◌≡◌, ℕ, suc, sym, subst}
use Rattle.pt_meaning.specs.Basics.{Tag, Streams, Log}
use Rattle.pt_meaning.specs.Machine.{Done}
use Rattle.pt_meaning.specs.Meetings.{Meets}
use Rattle.pt_meaning.specs.Tree as tree
use Rattle.pt_meaning.specs.Step.{step_at, Step}
use Rattle.pt_laws.proofs.FiringLaws.{done-within}
use Rattle.pt_value.specs.declared.token.Token.{Token}
use Rattle.pt_records.proofs.SoFarLaws.{recorded-done}
use Rattle.pt_library.specs.declared.library_actor.LibraryActor.{LibraryActor}
use Rattle.pt_library.specs.LibraryActor.{rows}
use Rattle.pt_node.specs.View.{Tree}
use Rattle.pt_trees.specs.declared.top.DeJob.{DeJob}
use Rattle.pt_trees.specs.declared.top.OnceJob.{OnceJob}
use Rattle.pt_trees.specs.declared.top.SdfJob.{SdfJob}
use Rattle.pt_trees.specs.declared.top.SrJob.{SrJob}
use Rattle.pt_trees.specs.declared.top.Top.{Top}
use Rattle.pt_trees.specs.declared.top.Top.TheVariants.{Sdf, Sr, De, Once}
use Rattle.pt_trees.specs.Top.{SdfFits, SrFits, DeFits, OnceFits, FitsCore, IsJobFor}

module _ (k d : ℕ) (m : Meets) (z : Tree) (tag : Tag) (X out : Streams Token) (l : Log Token) (h : tree.Past) (c : tree.Core Token) (kids : tree.Nodes Token LibraryActor) where
  sdf-stays : (j : SdfJob) (e : tree.Core Token) → SdfFits j e → step_at rows k (suc d) m tag (tree.Composite h c e kids) X ≡ Done z out l → IsJobFor (Sdf j) z
  unfolding step_at
  sdf-stays j (tree.Sdf p Y) f g = subst (λ (v : Tree). IsJobFor (Sdf j) v) (sym (done-within tag h c (tree.Sdf p) _ z out l g).state) f
  sdf-stays j (tree.Pn p Y) f g = absurd f
  sdf-stays j (tree.Sr p) f g = absurd f
  sdf-stays j (tree.De p) f g = absurd f
  sdf-stays j (tree.Rv p Y) f g = absurd f
  sdf-stays j (tree.Modal chart n) f g = absurd f

  sr-stays : (j : SrJob) (e : tree.Core Token) → SrFits j e → step_at rows k (suc d) m tag (tree.Composite h c e kids) X ≡ Done z out l → IsJobFor (Sr j) z
  unfolding step_at
  sr-stays j (tree.Sdf p Y) f g = absurd f
  sr-stays j (tree.Pn p Y) f g = absurd f
  sr-stays j (tree.Sr p) f g = subst (λ (v : Tree). IsJobFor (Sr j) v) (sym (done-within tag h c (λ Y. tree.Sr p) _ z out l g).state) f
  sr-stays j (tree.De p) f g = absurd f
  sr-stays j (tree.Rv p Y) f g = absurd f
  sr-stays j (tree.Modal chart n) f g = absurd f

  de-stays : (j : DeJob) (e : tree.Core Token) → DeFits j e → step_at rows k (suc d) m tag (tree.Composite h c e kids) X ≡ Done z out l → IsJobFor (De j) z
  unfolding step_at
  de-stays j (tree.Sdf p Y) f g = absurd f
  de-stays j (tree.Pn p Y) f g = absurd f
  de-stays j (tree.Sr p) f g = absurd f
  de-stays j (tree.De p) f g = subst (λ (v : Tree). IsJobFor (De j) v) (sym (done-within tag h c (λ Y. tree.De p) _ z out l g).state) f
  de-stays j (tree.Rv p Y) f g = absurd f
  de-stays j (tree.Modal chart n) f g = absurd f

  once-stays : (j : OnceJob) (e : tree.Core Token) → OnceFits j e → step_at rows k (suc d) m tag (tree.Composite h c e kids) X ≡ Done z out l → IsJobFor (Once j) z
  unfolding step_at
  once-stays j (tree.Sdf p Y) f g = absurd f
  once-stays j (tree.Pn p Y) f g = subst (λ (v : Tree). IsJobFor (Once j) v) (sym (done-within tag h c (tree.Pn p) _ z out l g).state) f
  once-stays j (tree.Sr p) f g = absurd f
  once-stays j (tree.De p) f g = absurd f
  once-stays j (tree.Rv p Y) f g = subst (λ (v : Tree). IsJobFor (Once j) v) (sym (done-within tag h c (tree.Rv p) _ z out l g).state) f
  once-stays j (tree.Modal chart n) f g = absurd f

  core-stays : (j : Top) (e : tree.Core Token) → FitsCore j e → step_at rows k (suc d) m tag (tree.Composite h c e kids) X ≡ Done z out l → IsJobFor j z
  core-stays (Sdf j) e f g = sdf-stays j e f g
  core-stays (Sr j) e f g = sr-stays j e f g
  core-stays (De j) e f g = de-stays j e f g
  core-stays (Once j) e f g = once-stays j e f g

node-stays : (j : Top) (k : ℕ) (m : Meets) (n z : Tree) (tag : Tag) (X out : Streams Token) (l : Log Token) → IsJobFor j n → step_at rows k (tree.height n) m tag n X ≡ Done z out l → IsJobFor j z
node-stays j k m (tree.Actor h a b) z tag X out l f g = absurd f
node-stays j k m (tree.Composite h c d kids) z tag X out l f g = core-stays k (tree.heights kids) m z tag X out l h c kids j d f g

pub step-stays : (j : Top) (k : ℕ) (m : Meets) (n z : Tree) (tag : Tag) (X out : Streams Token) (l : Log Token) → IsJobFor j n → Step k rows m n tag X ≡ Done z out l → IsJobFor j z
step-stays j k m n z tag X out l f g =
    let r = recorded-done (tree.made_of n) tag X (step_at rows k (tree.height n) m tag n X) z out l g in
    node-stays j k m n z tag X out r.0 f r.1
