-- A file descriptor that is written to (02, 2.3).
use Rattle.std.specs.Prelude.{ℕ, ◌+◌, List, ℤ, length}
use Rattle.soak.specs.declared.output.Output.{Output}

-- a descriptor to which nothing was written
abbrev pub output_of : ℤ → Output
output_of fd = record { fd = fd; bytes = 0 }

-- bytes handed to it
abbrev pub wrote : Output → List ℕ → Output
wrote o bytes = record { fd = o.fd; bytes = o.bytes + length bytes }
