-- What a call works and yields where it leaves what is kept.
use Prim.Native.Nat.{ℕ, ◌/◌, ◌%◌}
use mathlib.Core.Path.{◌≡◌, refl, sym, ap}
use mathlib.Core.Bool.{Bool, true, false, cond, not, ◌&&◌, ◌||◌, true≢false}
use mathlib.Core.List.{[]}
use lib.Dec.{eqb}
use borrow.Author.Tests.{not-true, eqb-true}
use Rattle.time.specs.Halts.{route_to}
use Rattle.tick.proofs.Choices.{and_left}
use Rattle.counter.specs.declared.state.Timer.{Timer}
use Rattle.counter.specs.Halts.{routed_to}
use Rattle.counter.specs.Logs.{Noted, silent}
use Rattle.counter.specs.Next.{next_of}
use Rattle.counter.specs.Registers.{temp_to, read_timer, word_of}
use Rattle.counter.specs.Valid.{Valid}
use Rattle.answers.specs.declared.Answer.{Answer}
use Rattle.answers.specs.declared.Answer.TheVariants as answer
use Rattle.answers.specs.Answers.{event, number_of, values_of}
use Rattle.timer.specs.declared.calls.Call.{Call}
use Rattle.timer.specs.declared.calls.Call.TheVariants as call
use Rattle.timer.specs.Calls.{placed, edge_captures, edge_ticks, output_captures, asks, works, says}
use Rattle.timer.proofs.Outcomes.{Turning, sleeping, reducing, changing, prescaling, wakes-not}
use Rattle.held.specs.Held.{code_of, never}
use Rattle.held.specs.Reply.{what_of, value_of, beside}
use Rattle.held.proofs.Answers.{event-what, event-value}
use Rattle.held.proofs.Stores.{and_right}
use Rattle.serving.specs.declared.looking.Work.{Work}
use Rattle.serving.specs.Looking.{stays_of, yielding, work_of}

-- a timer with what such a call changes
abbrev pub worked_to : Timer → Work → Timer
worked_to t w = record {
  config = t.config;
  counter = t.counter;
  ocr = t.ocr;
  buffer = t.buffer;
  oc = t.oc;
  drives = t.drives;
  registers = record { tccra = t.registers.tccra; tccrb = t.registers.tccrb; icr = t.registers.icr; temp = w.temp };
  flags = w.flags;
  clock = t.clock;
  halts = route_to t.halts w.routed;
}

-- the definition's work and answer
pub record Does (s : Timer) (c : Call) (cycle : ℕ) (w : Work) : Type 0 where
  pub timer : worked_to s w ≡ (works s c cycle).timer
  pub log : (works s c cycle).log ≡ []
  pub answer : Answer
  pub values : values_of answer ≡ says s c
  pub number : number_of answer ≡ 0
  pub what : w.what ≡ what_of (values_of answer)
  pub value : w.value ≡ value_of (values_of answer)
  pub beside : (n : ℕ) → n ≡ beside (values_of answer) n

-- nothing is worked and nothing yielded
idle : (s : Timer) (c : Call) (cycle : ℕ) → s ≡ (works s c cycle).timer → (works s c cycle).log ≡ [] → says s c ≡ values_of answer.Done → Does s c cycle (yielding s 0 0)
idle s c cycle e l v = record { timer = e; log = l; answer = answer.Done; values = sym v; number = refl; what = refl; value = refl; beside = λ n. refl }

-- ---- the calls that are tested in their work, on the timer as it is
module _ (t : Timer) (cycle : ℕ) where
  edge-idle : (pin level : ℕ) → edge_captures t pin level ≡ false → edge_ticks t pin level ≡ false → works t (call.Edge pin level) cycle ≡ silent t
  unfolding works
  edge-idle pin level a b = rw (a, b) refl

  output-idle : (level : ℕ) → output_captures t level ≡ false → works t (call.Output level) cycle ≡ silent t
  unfolding works
  output-idle level a = rw a refl

-- a call that works silently on the timer as it is
still : (t s : Timer) (c : Call) (cycle : ℕ) → s ≡ t → works t c cycle ≡ silent t → says t c ≡ values_of answer.Done → Does s c cycle (yielding s 0 0)
still t s c cycle e w v = rw e (idle t c cycle (ap (λ (y : Noted). y.timer) (sym w)) (ap (λ (y : Noted). y.log) w) v)

-- a call that finds what it turns so
unmoved : {t : Timer} {c : Call} {cycle : ℕ} {turns : Bool} {made : Timer → Timer} → Turning t c cycle turns made → turns ≡ false → works t c cycle ≡ silent t
unmoved {t} g o = rw o at (g.works {x = t} (record { config = refl; registers = refl; halts = refl }))

-- ---- the next event, and a register read
next-does : (s : Timer) (cycle next : ℕ) → Valid s → next ≡ code_of (next_of s) → Does s call.Next cycle (work_of s call.Next next)
unfolding work_of works says
next-does s cycle next v e = go (eqb next never) refl
  where
    go : (b : Bool) → eqb next never ≡ b → Does s call.Next cycle (cond b (yielding s 3 0) (yielding s 2 next))
    go true q =
        let w : 3 ≡ what_of (event (next_of s)) = rw (← e, q) at (event-what s v) in
        let x : 0 ≡ value_of (event (next_of s)) = rw (← e, q) at (event-value s v) in
        record { timer = refl; log = refl; answer = answer.Next (next_of s); values = refl; number = refl; what = w; value = x; beside = λ n. refl }
    go false q =
        let w : 2 ≡ what_of (event (next_of s)) = rw (← e, q) at (event-what s v) in
        let x : next ≡ value_of (event (next_of s)) = rw (← e, q) at (event-value s v) in
        record { timer = refl; log = refl; answer = answer.Next (next_of s); values = refl; number = refl; what = w; value = x; beside = λ n. refl }

read-does : (s : Timer) (address cycle next : ℕ) → Does s (call.Read address) cycle (work_of s (call.Read address) next)
unfolding work_of works says read_timer
read-does s address cycle next = record { timer = go ((eqb (placed s address) 0 || eqb (placed s address) 8) && s.config.wide); log = refl; answer = answer.Value _; values = refl; number = refl; what = refl; value = refl; beside = λ n. refl }
  where
    go : (b : Bool) → let u = cond b (temp_to s (word_of s (placed s address) / 256 % 256)) s in
        worked_to s (record { what = 1; value = 0; temp = u.registers.temp; flags = s.flags; routed = s.halts.routed }) ≡ u
    go true = refl
    go false = refl

-- a high byte fills nothing
pub fills-low : (place : ℕ) (wide : Bool) → eqb place 1 || eqb place 9 ≡ true → (eqb place 0 || eqb place 8) && wide ≡ false
fills-low place wide e = go (eqb place 1) (eqb place 9) refl refl e
  where
    go : (a b : Bool) → eqb place 1 ≡ a → eqb place 9 ≡ b → a || b ≡ true → (eqb place 0 || eqb place 8) && wide ≡ false
    go true b p q e = rw (eqb-true place 1 p) refl
    go false true p q e = rw (eqb-true place 9 q) refl
    go false false p q e = absurd (true≢false (sym e))

route-does : (s : Timer) (level cycle next : ℕ) → Does s (call.Route level) cycle (work_of s (call.Route level) next)
unfolding work_of works says routed_to
route-does s level cycle next = record { timer = go s.config.icr.present; log = refl; answer = answer.Done; values = refl; number = refl; what = refl; value = refl; beside = λ n. refl }
  where
    go : (b : Bool) → worked_to s (record { what = 0; value = 0; temp = s.registers.temp; flags = s.flags; routed = cond b (eqb level 1) s.halts.routed }) ≡ cond b (routed_to s (eqb level 1)) s
    go true = refl
    go false = refl

-- ---- any call

-- s is the timer whose time has passed where the call lets it
pub works-so : (t s : Timer) (c : Call) (cycle next : ℕ) → stays_of t (asks t c).syncs c ≡ true → ((asks t c).syncs ≡ false → s ≡ t) → Valid s → next ≡ code_of (next_of s) → Does s c cycle (work_of s c next)
unfolding stays_of asks work_of works says
works-so t s call.Advance cycle next e u v n = absurd (true≢false (sym e))
works-so t s call.Next cycle next e u v n = next-does s cycle next v n
works-so t s (call.Read address) cycle next e u v n = read-does s address cycle next
works-so t s (call.Peek address) cycle next e u v n = record { timer = refl; log = refl; answer = answer.Value _; values = refl; number = refl; what = refl; value = refl; beside = λ n. refl }
works-so t s (call.Write address value) cycle next e u v n = absurd (true≢false (sym e))
works-so t s call.Tifr cycle next e u v n = record { timer = refl; log = refl; answer = answer.Value _; values = refl; number = refl; what = refl; value = refl; beside = λ n. refl }
works-so t s call.Timsk cycle next e u v n = record { timer = refl; log = refl; answer = answer.Value _; values = refl; number = refl; what = refl; value = refl; beside = λ n. refl }
works-so t s (call.WriteTifr ones) cycle next e u v n = record { timer = refl; log = refl; answer = answer.Done; values = refl; number = refl; what = refl; value = refl; beside = λ n. refl }
works-so t s (call.WriteTimsk mask) cycle next e u v n = record { timer = refl; log = refl; answer = answer.Done; values = refl; number = refl; what = refl; value = refl; beside = λ n. refl }
works-so t s (call.Edge pin level) cycle next e u v n =
    let a = not-true _ (and_left _ _ e) in
    still t s (call.Edge pin level) cycle (u a) (edge-idle t cycle pin level a (not-true _ (and_right (not (edge_captures t pin level)) _ e))) refl
works-so t s (call.Output level) cycle next e u v n = let a = not-true _ e in still t s (call.Output level) cycle (u a) (output-idle t cycle level a) refl
works-so t s (call.Route level) cycle next e u v n = route-does s level cycle next
works-so t s (call.Sleep mode) cycle next e u v n = let a = not-true _ e in still t s (call.Sleep mode) cycle (u a) (unmoved (sleeping t cycle mode) a) refl
works-so t s call.Wake cycle next e u v n = let a = not-true _ e in still t s call.Wake cycle (u refl) (ap silent (sym (wakes-not t cycle a))) refl
works-so t s (call.Reduce mask) cycle next e u v n = let a = not-true _ e in still t s (call.Reduce mask) cycle (u a) (unmoved (reducing t cycle mask) a) refl
works-so t s (call.Tsm level) cycle next e u v n = let a = not-true _ e in still t s (call.Tsm level) cycle (u a) (unmoved (changing t cycle level) a) refl
works-so t s (call.Prescale mask) cycle next e u v n = let a = not-true _ e in still t s (call.Prescale mask) cycle (u a) (unmoved (prescaling t cycle mask) a) refl
works-so t s call.Reset cycle next e u v n = absurd (true≢false (sym e))

-- such a call is not the advance
pub stays_put : (t : Timer) (c : Call) → stays_of t (asks t c).syncs c ≡ true → (asks t c).advances ≡ false
unfolding stays_of asks
stays_put t call.Advance e = absurd (true≢false (sym e))
stays_put t call.Next e = refl
stays_put t (call.Read address) e = refl
stays_put t (call.Peek address) e = refl
stays_put t (call.Write address value) e = refl
stays_put t call.Tifr e = refl
stays_put t call.Timsk e = refl
stays_put t (call.WriteTifr ones) e = refl
stays_put t (call.WriteTimsk mask) e = refl
stays_put t (call.Edge pin level) e = refl
stays_put t (call.Output level) e = refl
stays_put t (call.Route level) e = refl
stays_put t (call.Sleep mode) e = refl
stays_put t call.Wake e = refl
stays_put t (call.Reduce mask) e = refl
stays_put t (call.Tsm level) e = refl
stays_put t (call.Prescale mask) e = refl
stays_put t call.Reset e = refl
