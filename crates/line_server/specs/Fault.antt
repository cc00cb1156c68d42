-- What the program reports when it ends early.
use Rattle.std.specs.Prelude.{ℕ, List, codes}
use Rattle.line_server.specs.declared.fault.ServeFault.{ServeFault}
use Rattle.line_server.specs.declared.fault.ServeFault.TheVariants.{Input, Output, Memory, Usage}

-- the line on standard error
abbrev pub line_of : ServeFault → List ℕ
line_of Input = codes "markers: input failed"
line_of Output = codes "markers: output failed"
line_of Memory = codes "markers: out of memory"
line_of Usage = codes "usage: markers"

-- the status of the process
abbrev pub status_of : ServeFault → ℕ
status_of Input = 1
status_of Output = 1
status_of Memory = 1
status_of Usage = 2
