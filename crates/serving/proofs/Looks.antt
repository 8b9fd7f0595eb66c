-- A call that leaves what is kept: the parts that it changes are put back, and what is kept stands.
use Prim.Native.Nat.{ℕ}
use mathlib.Core.Path.{◌≡◌, refl, sym, ap, subst, ◌∙◌}
use mathlib.Core.Bool.{Bool, true, false, true≢false}
use mathlib.Core.List.{List}
use Rattle.tick.specs.Distance.{flags_ahead}
use Rattle.tick.specs.Skip.{linear}
use Rattle.tick.specs.Tick.{events_at, raised}
use Rattle.scene.specs.declared.state.Scene.{Scene}
use Rattle.scene.specs.Scene.{scene_of}
use Rattle.wave.specs.Count.{falls}
use Rattle.counter.specs.declared.state.Timer.{Timer}
use Rattle.counter.specs.Halts.{latest_to}
use Rattle.counter.specs.Modes.{mode_of, wave_of, divisor_of, held_of, running_of}
use Rattle.counter.specs.Next.{next_at, next_of}
use Rattle.counter.specs.Setting.{setting_at}
use Rattle.counter.specs.Valid.{Valid}
use Rattle.passage.specs.Passage.{ticks}
use Rattle.answers.specs.Answers.{Tells, turned}
use Rattle.timer.specs.declared.calls.Call.{Call}
use Rattle.timer.specs.Calls.{answered, asks}
use Rattle.timer.proofs.Outcomes.{plainly}
use Rattle.held.specs.declared.state.Held.{Held}
use Rattle.held.specs.declared.reply.Reply.{Reply}
use Rattle.held.specs.Held.{Kept}
use Rattle.held.specs.Reply.{replied, Serves, Served}
use Rattle.held.proofs.Answers.{turned-serves, told-serves}
use Rattle.held.proofs.Puts.{timer_to}
use Rattle.serving.specs.declared.asked.Wanted.{Wanted}
use Rattle.serving.specs.declared.asked.Wanted.TheVariants as wanted
use Rattle.serving.specs.declared.looking.Looked.{Looked}
use Rattle.serving.specs.declared.looking.Work.{Work}
use Rattle.serving.specs.Asks.{asks_in}
use Rattle.serving.specs.Looking.{refused_by, passed_of, stays_of, work_of, timsk_to, looked_in, Left, Looks, LooksFor}
use Rattle.serving.proofs.Laws.{refused-is, passed-ready, passed-kept}
use Rattle.serving.proofs.Works.{Does, worked_to, works-so, stays_put}

-- ---- nothing is changed
abbrev pub unchanged : Bool → Timer → Reply → Looked
unchanged done t reply = record { done = done; counter = t.counter; clock = t.clock; temp = t.registers.temp; flags = t.flags; routed = t.halts.routed; reply = reply }

scene_same : (h : Held) → Kept h → timsk_to h.scene h.timer.flags.timsk ≡ h.scene
unfolding scene_of setting_at
scene_same h k = ap (λ (x : Scene). timsk_to x h.timer.flags.timsk) k.scene ∙ sym k.scene

pub same-looked : (h : Held) (done : Bool) (reply : Reply) → Kept h → looked_in h (unchanged done h.timer reply) ≡ h
same-looked h done reply k = ap (λ (x : Scene). record { timer = h.timer; scene = x; next = h.next; top = h.top; flags = h.flags; shift = h.shift; down = h.down }) (scene_same h k)

-- refused
pub refused-looks : (h : Held) (c : Call) (cycle n : ℕ) → Kept h → n ≡ refused_by (asks_in (asks h.timer c)) h.timer.clock.latest.0 h.next cycle → (n ≡ 0 → ⊥)
    → Looks h c cycle (unchanged true h.timer (replied n 5 0 0 0 0))
refused-looks h c cycle n k e z = record {
  done = λ _. subst (λ (g : Held). Served h.timer c cycle g (replied n 5 0 0 0 0)) (sym (same-looked h true (replied n 5 0 0 0 0) k)) (turned-serves h c cycle n k (sym (refused-is h c cycle k) ∙ sym e) z);
  same = λ f. absurd (true≢false f);
  left = λ f. absurd (true≢false f);
}

-- left to others
pub left-looks : (h : Held) (c : Call) (cycle : ℕ) (reply : Reply) → Kept h → Left h c cycle → Looks h c cycle (unchanged false h.timer reply)
left-looks h c cycle reply k l = record { done = λ f. absurd (true≢false (sym f)); same = λ _. same-looked h false reply k; left = λ _. l }

-- ---- done
abbrev pub changed : Timer → Work → ℕ → Reply → Looked
changed s w cycle reply = record { done = true; counter = s.counter; clock = record { sync = s.clock.sync; origin = s.clock.origin; latest = record { 0 = cycle } }; temp = w.temp; flags = w.flags; routed = w.routed; reply = reply }

-- the whole with the parts
abbrev whole : Held → Timer → Work → ℕ → Held
whole h s w cycle = record { timer = latest_to (worked_to s w) cycle; scene = timsk_to h.scene w.flags.timsk; next = h.next; top = h.top; flags = h.flags; shift = h.shift; down = h.down }

put_is : (h : Held) (syncs : Bool) (w : Work) (cycle : ℕ) (reply : Reply) → looked_in h (changed (passed_of h syncs cycle) w cycle reply) ≡ whole h (passed_of h syncs cycle) w cycle
unfolding passed_of
put_is h true w cycle reply = refl
put_is h false w cycle reply = refl

kept-worked : (h : Held) (s : Timer) (w : Work) (cycle : ℕ) → Kept (timer_to h s) → Valid (latest_to (worked_to s w) cycle) → Kept (whole h s w cycle)
unfolding next_of next_at running_of divisor_of held_of mode_of wave_of falls setting_at scene_of flags_ahead events_at linear raised
kept-worked h s w cycle k v =
    record { valid = v; next = k.next; flags = k.flags; shift = k.shift; idle = k.idle; small = k.small; down = k.down; scene = ap (λ (x : Scene). timsk_to x w.flags.timsk) k.scene; top = k.top }

module _ (h : Held) (c : Call) (cycle : ℕ) (k : Kept h) (e : refused_by (asks_in (asks h.timer c)) h.timer.clock.latest.0 h.next cycle ≡ 0) (y : stays_of h.timer (asks h.timer c).syncs c ≡ true) where
  abbrev t : Timer
  t = h.timer

  abbrev s : Timer
  s = passed_of h (asks t c).syncs cycle

  abbrev w : Work
  w = work_of s c h.next

  -- where no time passes it is the timer as it is
  unpassed : (asks t c).syncs ≡ false → s ≡ t
  unfolding passed_of
  unpassed o = rw o refl

  so : Does s c cycle w
  so = works-so t s c cycle h.next y unpassed (passed-kept h c cycle k e).valid (passed-kept h c cycle k e).next

  told : (area : List ℕ) → Tells (answered ticks t c cycle area) (record { answer = so.answer; timer = latest_to (worked_to s w) cycle; written = 0 }) area
  told area = plainly t c cycle area (passed-ready h c cycle k e area (stays_put t c y)) (worked_to s w) {a = so.answer} so.timer so.log so.values so.number refl

  serves : Served t c cycle (whole h s w cycle) (replied 0 w.what w.value 0 h.next h.flags)
  serves area = told-serves (told area) refl (kept-worked h s w cycle (passed-kept h c cycle k e) (told area).valid)
      (λ i. replied (sym so.number i) (so.what i) (so.value i) 0 (so.beside h.next i) (so.beside h.flags i))

  pub done-looks : Looks h c cycle (changed s w cycle (replied 0 w.what w.value 0 h.next h.flags))
  done-looks = record {
    done = λ _. subst (λ (g : Held). Served t c cycle g (replied 0 w.what w.value 0 h.next h.flags)) (sym (put_is h (asks t c).syncs w cycle (replied 0 w.what w.value 0 h.next h.flags))) serves;
    same = λ f. absurd (true≢false f);
    left = λ f. absurd (true≢false f);
  }

-- ---- by its number
pub known-looks : (w : Wanted) (h : Held) (c : Call) (cycle : ℕ) (r : Looked) → w ≡ wanted.Known c → Looks h c cycle r → LooksFor h w cycle r
known-looks w h c cycle r e l = rw e (record { done = l.done; same = l.same; left = l.left })

pub unknown-looks : (w : Wanted) (h : Held) (cycle : ℕ) → Kept h → w ≡ wanted.Unknown → LooksFor h w cycle (unchanged true h.timer (replied 255 5 0 0 0 0))
unknown-looks w h cycle k e = rw e
    (record {
      done = λ _ area. subst (λ (g : Held). Serves (turned 255 h.timer area) g (replied 255 5 0 0 0 0) area) (sym (same-looked h true (replied 255 5 0 0 0 0) k)) (record { timer = refl; reply = refl; area = refl; kept = k });
      same = λ f. absurd (true≢false f);
      left = λ f. absurd (true≢false f);
    })
