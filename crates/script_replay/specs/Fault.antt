-- How the program ends at a fault.
use Rattle.std.specs.Prelude.{ℕ, List, codes, ⊤}
use Rattle.script_replay.specs.declared.fault.Fault.{Fault}
use Rattle.script_replay.specs.declared.fault.Fault.TheVariants.{Words, Plans, Script, Memory, Io}

-- the status of each fault
abbrev pub status_of : Fault → ℕ
status_of Words = 2
status_of Plans = 3
status_of Script = 4
status_of Memory = 5
status_of Io = 6

-- the line of each fault, without its LF
abbrev pub line_of : Fault → List ℕ
line_of Words = codes "connect_gateway: bad arguments"
line_of Plans = codes "connect_gateway: bad plan file"
line_of Script = codes "connect_gateway: bad script"
line_of Memory = codes "connect_gateway: no memory"
line_of Io = codes "connect_gateway: input or output fault"

-- the faults that reading a script may give
abbrev pub IsOfInput : Fault → Type 0
IsOfInput Script = ⊤
IsOfInput Memory = ⊤
IsOfInput Io = ⊤
IsOfInput _ = ⊥

-- the faults that reading a plan file may give
abbrev pub IsOfPlanInput : Fault → Type 0
IsOfPlanInput Plans = ⊤
IsOfPlanInput Memory = ⊤
IsOfPlanInput Io = ⊤
IsOfPlanInput _ = ⊥

-- and reading or writing any text
abbrev pub IsOfReading : Fault → Type 0
IsOfReading Memory = ⊤
IsOfReading Io = ⊤
IsOfReading _ = ⊥
