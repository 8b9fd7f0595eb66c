-- What is proved of the dump of a file beside the functions (02, 2.10).
use Rattle.std.specs.Prelude.{ℕ, true, false, cond, List, [], ◌++◌, ◌≡◌, Option, None, is_none}
use Rattle.std.specs.Option.{option_map}
use Rattle.pieces.specs.Pieces.{joined}
use Rattle.verdict.specs.Changes.{changes_of}
use Rattle.verdict.specs.Refusal.{refusal_of}
use Rattle.dump.specs.Dump.{dump_of}
use Rattle.dump.specs.Claims.{read_back}
use Rattle.soak.specs.declared.refusal.Refusal.{Refusal}
use Rattle.soak.specs.declared.refusal.Refusal.TheVariants as refusal
use Rattle.soak.specs.declared.input.Input.{Input}
use Rattle.soak.specs.declared.Outcome.{Outcome}
use Rattle.soak.specs.Input.{failed, ended}
use Rattle.soak.specs.Files.{standard_output, Dumps}

-- a pass over a file of these bytes in which nothing fails: its chunks are the file's from the start, and all of it where its end was reached
pub record OfFile (log : List ℕ) (i : Input) (chunks : List (List ℕ)) : Type 0 where
  pub fine : failed i ≡ false
  pub rest : List ℕ
  pub bytes : log ≡ joined chunks ++ rest
  pub end : ended i ≡ true → rest ≡ []

-- the refusal is the log's; standard output gets its dump, and nothing where it is refused; the changes can be read back
pub record DumpsLog (log : List ℕ) (r : Option Refusal) (out : List ℕ) : Type 0 where
  pub refusal : r ≡ option_map refusal.Log (refusal_of log)
  pub output : out ≡ cond (is_none (refusal_of log)) (dump_of log) []
  pub back : refusal_of log ≡ None → read_back out ≡ changes_of log

-- EveryLog: so it is for every log that both passes read, of whatever length and however it is cut: nobody else writes the file meanwhile
abbrev pub EveryLog : Type 0
EveryLog = (log : List ℕ) (r : Outcome) (d : Dumps r) → OfFile log r.first d.first → OfFile log r.second d.second → DumpsLog log r.refusal (standard_output r.first d.first r.second d.second)
