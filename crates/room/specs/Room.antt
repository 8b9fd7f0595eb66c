-- The area that a line's call has (docs/SCRIPT.md): what it holds before the call, and what the call must not have changed.
use Rattle.std.specs.Prelude.{ℕ, true, List, replicate}
use Rattle.words.specs.Words.{first_from, sought}

-- "The area holds `A5` in every byte before each call"
unfoldable pub filled : ℕ → List ℕ
filled size = replicate size 165

-- the first place behind what was written that does not hold A5, else the area's end
abbrev pub changed_at : List ℕ → ℕ → ℕ
changed_at area written = first_from (sought 165 true) area written
