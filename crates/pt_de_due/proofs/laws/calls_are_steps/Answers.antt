use Rattle.pt_de_due.proofs.CallLaws.{begun-is, told-is, told-early-is, heard-is}
use Rattle.pt_de_due.proofs.laws.calls_are_steps.Goals as goal

pub returns : goal.returns
returns g c = record {
  begun = λ s tag inputs h. begun-is s tag inputs h;
  told = λ s i out wake w h e. told-is s i out wake w h e;
  told_early = λ s i out wake e. told-early-is s i out wake e;
  heard = λ s i early w h. heard-is s i early w h;
}
