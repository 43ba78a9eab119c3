-- The numbers and names of refusals.
use Rattle.std.specs.Prelude.{ℕ, List, codes}
use Rattle.pt_document.specs.declared.code.Code.{Code}
use Rattle.pt_document.specs.declared.code.Code.TheVariants.{Json, Shape, Name, Class, Parameter, Link, TwoSources, ExprSyntax, ExprName, «Type», Place, Rates, SdfDeadlock, ZeroDelayLoop, Timed, States, Record, Inputs, Limit, Value}

-- the number under which a refusal is printed
abbrev pub code_number : Code → ℕ
code_number Json = 10
code_number Shape = 11
code_number Name = 12
code_number Class = 13
code_number Parameter = 14
code_number Link = 15
code_number TwoSources = 16
code_number ExprSyntax = 17
code_number ExprName = 18
code_number «Type» = 19
code_number Place = 20
code_number Rates = 21
code_number SdfDeadlock = 22
code_number ZeroDelayLoop = 23
code_number Timed = 24
code_number States = 25
code_number Record = 26
code_number Inputs = 27
code_number Limit = 28
code_number Value = 29

-- the name under which a refusal is printed
abbrev pub code_name : Code → List ℕ
code_name Json = codes "Json"
code_name Shape = codes "Shape"
code_name Name = codes "Name"
code_name Class = codes "Class"
code_name Parameter = codes "Parameter"
code_name Link = codes "Link"
code_name TwoSources = codes "TwoSources"
code_name ExprSyntax = codes "ExprSyntax"
code_name ExprName = codes "ExprName"
code_name «Type» = codes "Type"
code_name Place = codes "Place"
code_name Rates = codes "Rates"
code_name SdfDeadlock = codes "SdfDeadlock"
code_name ZeroDelayLoop = codes "ZeroDelayLoop"
code_name Timed = codes "Timed"
code_name States = codes "States"
code_name Record = codes "Record"
code_name Inputs = codes "Inputs"
code_name Limit = codes "Limit"
code_name Value = codes "Value"
