-- A call's answer in numbers, with the next event of the timer that the call leaves (02, 2.2).
use Rattle.std.specs.Prelude.{ℕ, ◌+◌, cond, List, ◌≡◌}
use Rattle.counter.specs.declared.next.Next.TheVariants as next
use Rattle.counter.specs.declared.state.Timer.{Timer}
use Rattle.counter.specs.Next.{next_of}
use Rattle.passage.specs.Passage.{ticks}
use Rattle.answers.specs.Answers.{Values, refused, none, byte, event, reached, paused, Told, turned, number_of, values_of}
use Rattle.answers.specs.declared.Outcome.{Outcome}
use Rattle.timer.specs.declared.calls.Call.{Call}
use Rattle.timer.specs.declared.calls.Call.TheVariants as call
use Rattle.timer.specs.Calls.{answered}
use Rattle.held.specs.declared.calls.Called.{Called}
use Rattle.held.specs.declared.reply.Reply.{Reply}
use Rattle.held.specs.declared.state.Held.{Held}
use Rattle.held.specs.Held.{Kept, code_of, flags_in}

-- 0 no value, 1 a byte, 2 the next event, 3 none to come, 4 a sync cycle, 5 a refusal, 6 an advance that came to its cycle
abbrev pub what_of : Values → ℕ
what_of refused = 5
what_of none = 0
what_of (byte v) = 1
what_of (event (next.At c f)) = 2
what_of (event next.Never) = 3
what_of (reached f) = 6
what_of (paused c f) = 4

abbrev pub value_of : Values → ℕ
value_of refused = 0
value_of none = 0
value_of (byte v) = v
value_of (event (next.At c f)) = c.0
value_of (event next.Never) = 0
value_of (reached f) = 0
value_of (paused c f) = c

-- a number beside an answer; a refusal returns its number only (01, "Calls turned away"; 02, 2.2)
abbrev pub beside : Values → ℕ → ℕ
beside refused n = 0
beside none n = n
beside (byte v) n = n
beside (event e) n = n
beside (reached f) n = n
beside (paused c f) n = n

-- a reply from its numbers
abbrev pub replied : ℕ → ℕ → ℕ → ℕ → ℕ → ℕ → Reply
replied number what value written next flags = record { number = number; what = what; flags = flags; value = value; written = written; next = next }

-- the reply to a call: number and value, and of one that is accepted the next event of the timer as it is left
abbrev pub reply_of : Told → Reply
reply_of x = replied x.number (what_of x.values) (value_of x.values) x.written (beside x.values (code_of (next_of x.timer))) (beside x.values (flags_in (next_of x.timer)))

-- the held timer after a call, the reply, and every byte of the area; and what is kept is kept
pub record Serves (x : Told) (h : Held) (r : Reply) (after : List ℕ) : Type 0 where
  pub timer : h.timer ≡ x.timer
  pub reply : r ≡ reply_of x
  pub area : after ≡ x.area
  pub kept : Kept h

-- what is made of a call's outcome: its timer held, its answer in numbers
pub record Holds (o : Outcome) (r : Called) : Type 0 where
  pub timer : r.held.timer ≡ o.timer
  pub kept : Kept r.held
  pub reply : r.reply ≡ replied (number_of o.answer) (what_of (values_of o.answer)) (value_of (values_of o.answer)) o.written (beside (values_of o.answer) r.held.next) (beside (values_of o.answer) r.held.flags)

-- the low byte of TCNTn
abbrev pub count_low : Timer → Call
count_low t = call.Read t.config.tcnt

-- its high byte: 4 where the timer is narrow, and no register is there
abbrev pub count_high : Timer → ℕ → List ℕ → Told
count_high t cycle area = cond t.config.wide (answered ticks t (call.Read (t.config.tcnt + 1)) cycle area) (turned 4 t area)

-- a call without an area, which leaves every area as it is
abbrev pub Served : Timer → Call → ℕ → Held → Reply → Type 0
Served t c cycle h r = (area : List ℕ) → Serves (answered ticks t c cycle area) h r area
