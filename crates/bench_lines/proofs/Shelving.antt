-- What a line leaves of the shelf.
use Rattle.std.proofs.Common.{◌≡◌, ℕ, Bool, ◌&&◌, List, [], ◌∷◌, ◌++◌, refl, ap, ◌∙◌, Option}
use Rattle.page.specs.Page.{Puts}
use Rattle.page.proofs.Sheets.{then}
use Rattle.sched_lines.specs.Sched.{Leaves}
use Rattle.scheduler.specs.declared.Scheduler.{Scheduler}
use Rattle.board.specs.Calls.{Areas}
use Rattle.board.specs.declared.state.Board.{Board}
use Rattle.board_lines.specs.Ordered as order
use Rattle.board_lines.specs.declared.ordered.Left as ordered
use Rattle.bench_lines.specs.declared.desk.Desk.{Desk}
use Rattle.bench_lines.specs.Desk.{Sound, Stable}
use Rattle.bench_lines.specs.Shelved.{Worked, Works, working, scheduled_of, board_kept, on_board, filed, taken_of}

module _ (d : Desk) (sound : Sound d.bench) (stable : Stable d.shelf) (old new : List ℕ) where
  -- the scheduler's line
  pub scheduled_works : (areas : Areas) (x : Scheduler × List ℕ) (r : Scheduler) → Leaves old new r x
      → Works (scheduled_of d.bench d.shelf areas x) old new areas.zero areas.one areas.two (record { bench = d.bench; shelf = record { scheduler = r; board = d.shelf.board } })
  scheduled_works areas x r l = record {
    bench = refl;
    shelf = ap (λ (y : Scheduler). record { scheduler = y; board = d.shelf.board }) l.after;
    puts = l.bytes;
    areas = refl;
    sound = sound;
    stable = record { board = stable.board };
  }

  -- the board's
  pub taken_works : (x : order.Lined) (zero one two : List ℕ) (r : ordered.Left) (k : ℕ) (f : Bool) → order.Leaves x old new zero one two r → k ≡ board_kept d.bench.whose r.written → f ≡ on_board d.bench.whose
      → Works (taken_of d.bench d.shelf x) old new zero one two (record { bench = filed d.bench k (r.fresh && f); shelf = record { scheduler = d.shelf.scheduler; board = r.board } })
  taken_works x zero one two r k f l e g = record {
    bench =
        ap (λ (n : ℕ). filed d.bench n (r.fresh && f)) (e ∙ ap (board_kept d.bench.whose) l.written)
        ∙ ap (λ (h : Bool). filed d.bench (board_kept d.bench.whose x.written) (h && f)) l.fresh
        ∙ ap (λ (h : Bool). filed d.bench (board_kept d.bench.whose x.written) (x.fresh && h)) g;
    shelf = ap (λ (y : Option Board). record { scheduler = d.shelf.scheduler; board = y }) l.board;
    puts = l.puts;
    areas = rw (l.zero, l.one, l.two);
    sound = record { timer = sound.timer; watchdog = sound.watchdog; door = sound.door; ring = sound.ring };
    stable = record { board = l.valid };
  }

-- with the line feed
pub fed_works : (x : Worked) (old mid new zero one two : List ℕ) (d : Desk) → Works x old mid zero one two d → Puts mid new (10 ∷ [])
    → Works (working x.bench x.shelf x.areas (x.bytes ++ 10 ∷ [])) old new zero one two d
fed_works x old mid new zero one two d w p = record { bench = w.bench; shelf = w.shelf; puts = then w.puts p; areas = w.areas; sound = w.sound; stable = w.stable }
