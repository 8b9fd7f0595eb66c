-- What a list of writes tells, as its line does.
use Rattle.std.proofs.Common.{◌≡◌, ℕ, ◌%◌, ◌<◌, ◌≤◌, List, [], ◌++◌, length, drop, refl, ap, Option, Some, IfSome}
use borrow.Author.Tests.{eq-eqb, ne_eqb, lt-ltb, le-ltb}
use Rattle.figures.specs.Figures.{text, number}
use Rattle.page.specs.Page.{Puts}
use Rattle.counter.specs.Valid.{Valid}
use Rattle.counter.specs.declared.state.Timer.{Timer}
use Rattle.room.specs.Room.{changed_at}
use Rattle.writes.specs.declared.Written.{Written}
use Rattle.writes.specs.Writes.{Listed, Lists}
use Rattle.list_lines.specs.declared.worked.Left.{Left}
use Rattle.list_lines.specs.Lists.{Lined, ended_of, told_of, worked_of, on_timer, of_bytes, Leaves}

module _ (x : Listed) (w : Written) (after old new : List ℕ) (g : Lists x w after) (end : ℕ) (e : end ≡ changed_at after w.written) (list : List ℕ) where
  -- the area changed beyond what was written
  pub told_changed : end < length after → Puts old new (text "area changed at " ++ number end) → Leaves (told_of list x) old new after list (record { timer = Some w.timer; written = 0 })
  unfolding told_of
  told_changed h p =
      rw (← g.told.area, ← g.told.written, ← e, lt-ltb end (length after) h)
      (record { timer = rw g.told.timer; items = refl; area = refl; written = refl; puts = p; valid = g.told.valid })

  -- or not
  pub told_ended : length after ≤ end → Puts old new (ended_of w.done w.why after w.written) → Leaves (told_of list x) old new after list (record { timer = Some w.timer; written = w.written })
  unfolding told_of
  told_ended h p =
      rw (← g.told.area, ← g.told.written, ← g.done, ← g.why, ← e, le-ltb end (length after) h)
      (record { timer = rw g.told.timer; items = refl; area = refl; written = refl; puts = p; valid = g.told.valid })

-- ---- on the first bytes of an area

module _ {old new part list : List ℕ} {r : Left} (t : Timer) (items work area : List ℕ) (size n : ℕ) (e : n ≡ size) where
  -- what lies behind them stays
  pub part_worked : Leaves (worked_of t list work n) old new part list r → Leaves (on_timer (Some t) items list work size area) old new (part ++ drop size area) list r
  unfolding on_timer
  part_worked l =
      let m : Leaves (worked_of t list work size) old new part list r = rw (← e) l in
      record { timer = m.timer; items = m.items; area = ap (λ (p : List ℕ). p ++ drop size area) m.area; written = m.written; puts = m.puts; valid = m.valid }

-- a list of the line's own, of ten bytes an item
pub own_worked : {old new after items : List ℕ} {r : Left} (t : Timer) (work area : List ℕ) (size : ℕ) → length work % 10 ≡ 0 → Leaves (on_timer (Some t) items items work size area) old new after items r
    → Leaves (of_bytes (Some t) items work size area) old new after items r
unfolding of_bytes
own_worked t work area size h l = rw (eq-eqb (length work % 10) 0 h) l

-- or of others
pub not_tens : {old new area items : List ℕ} (t : Option Timer) (work : List ℕ) (size : ℕ) → (length work % 10 ≡ 0 → ⊥) → IfSome t Valid → Puts old new (text "refused 12")
    → Leaves (of_bytes t items work size area) old new area items (record { timer = t; written = 0 })
unfolding of_bytes
not_tens t work size h v p = rw (ne_eqb (length work % 10) 0 h) (record { timer = refl; items = refl; area = refl; written = refl; puts = p; valid = v })

-- a list that was emptied
pub emptied : {x : Lined} {old new after items : List ℕ} {r : Left} → items ≡ [] → Leaves x old new after [] r → Leaves x old new after items r
emptied e l = rw e l
