use Rattle.pt_de_due.proofs.ComesLaws.{comes-put}
use Rattle.pt_de_due.proofs.laws.tokens_come.Goals as goal

pub returns : goal.returns
returns g c = λ ns delayed X channels a b delay c ts j h. comes-put ns delayed X channels a b delay c ts j h
