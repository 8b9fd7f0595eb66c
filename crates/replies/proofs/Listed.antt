-- What `listed` promises, of what its callees do.
use Prim.Native.Nat.{ℕ}
use mathlib.Core.List.{List}
use mathlib.Core.Path.{◌≡◌}
use Rattle.answers.specs.declared.Answer.{Answer}
use Rattle.held.specs.declared.calls.Called.{Called}
use Rattle.held.specs.Reply.{Holds}
use Rattle.held.proofs.Answers.{told-serves}
use Rattle.writes.specs.declared.Written.{Written}
use Rattle.writes.specs.Writes.{Listed, Lists, reason_of}
use Rattle.replies.specs.Lists.{Ends}

-- the core's list, its timer held and its reason in numbers
pub ends : (x : Listed) (w : Written) (a : Answer) (c : Called) (zs : List ℕ) → Lists x w zs → a ≡ reason_of w.why → Holds (record { answer = a; timer = w.timer; written = w.written }) c
    → Ends x (record { timer = c.held; done = w.done; reply = c.reply }) zs
ends x w a c zs e ea k = record { done = e.done; told = told-serves {r = record { answer = a; timer = w.timer; written = w.written }} (rw ea e.told) k.timer k.kept k.reply }
