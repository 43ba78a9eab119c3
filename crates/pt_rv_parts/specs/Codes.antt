-- How what contracts see of a process of a Rendezvous composite is told apart from others.
use Rattle.std.specs.Prelude.{List, Bool, refl}
use Rattle.std.specs.Coded.{Coded, code_by, coded×, coded_bool, coded_list}
use Rattle.pt_meaning.specs.Streams.{Streams}
use Rattle.pt_meaning.specs.Machine.{Need}
use Rattle.pt_meaning.specs.Process.{Put}
use Rattle.pt_value.specs.declared.token.Token.{Token}
use Rattle.pt_puts.specs.Codes.{coded_need, coded_put, coded_streams}
use Rattle.pt_rv_work.specs.Core.{Standing}

abbrev pub coded_standing : Coded (Standing Token)
coded_standing =
    code_by
    (Bool × (Need × (Streams Token × (List (Put Token) × Bool))))
    (coded× coded_bool (coded× coded_need (coded× coded_streams (coded× (coded_list coded_put) coded_bool))))
    (λ s. (s.barrier, (s.need, (s.got, (s.puts, s.handed)))))
    (λ c. record { barrier = c.0; need = c.1.0; got = c.1.1.0; puts = c.1.1.1.0; handed = c.1.1.1.1 })
    (λ _. refl)
