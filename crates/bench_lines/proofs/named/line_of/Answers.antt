use Rattle.std.proofs.Common.{ℕ, List, refl, ap}
use Rattle.page.proofs.Sheets.{put_none}
use Rattle.bench_lines.specs.Named.{named_of, lent}
use Rattle.bench_lines.proofs.named.line_of.Goals as goal

pub returns-in-Timer : goal.returns-in-Timer
unfolding named_of
returns-in-Timer c = rw c.in-Timer.is (record { says = c.timed.ensures.0; lent = ap (λ (r : List ℕ). lent r c.args.area.now c.args.items.now) c.timed.ensures.1 })

pub returns-in-Config : goal.returns-in-Config
unfolding named_of
returns-in-Config c = rw c.in-Config.is (record { says = c.configured.ensures; lent = refl })

pub returns-in-Preset : goal.returns-in-Preset
unfolding named_of
returns-in-Preset c = rw c.in-Preset.is (record { says = c.configured-in-Preset.ensures; lent = refl })

pub returns-in-Pin : goal.returns-in-Pin
unfolding named_of
returns-in-Pin c = rw c.in-Pin.is (record { says = record { bench = refl; puts = c.pin_line.ensures; sound = c.requires }; lent = refl })

pub returns-in-Wdt : goal.returns-in-Wdt
unfolding named_of
returns-in-Wdt c = rw c.in-Wdt.is (record { says = c.watched.ensures.0; lent = ap (λ (r : List ℕ). lent r c.args.area.now c.args.items.now) c.watched.ensures.1 })

pub returns-in-Writes : goal.returns-in-Writes
unfolding named_of
returns-in-Writes c = rw c.in-Writes.is (record { says = c.listed.ensures.0; lent = rw (c.listed.ensures.1, c.listed.ensures.2) refl })

pub returns-in-Item : goal.returns-in-Item
unfolding named_of
returns-in-Item c =
    rw c.in-Item.is (record { says = record { bench = refl; puts = c.item_line.ensures.puts; sound = c.requires }; lent = ap (λ (r : List ℕ). lent c.args.room.now c.args.area.now r) c.item_line.ensures.list })

pub returns-in-Door : goal.returns-in-Door
unfolding named_of
returns-in-Door c = rw c.in-Door.is (record { says = c.doored.ensures; lent = refl })

pub returns-in-Log : goal.returns-in-Log
unfolding named_of
returns-in-Log c = rw c.in-Log.is (record { says = c.logged.ensures.0; lent = ap (λ (r : List ℕ). lent c.args.room.now r c.args.items.now) c.logged.ensures.1 })

pub returns-in-Record : goal.returns-in-Record
unfolding named_of
returns-in-Record c = rw c.in-Record.is (record { says = c.recorded.ensures; lent = refl })

pub returns-in-Shelf : goal.returns-in-Shelf
unfolding named_of
returns-in-Shelf c = rw c.in-Shelf.is (record { says = record { bench = refl; puts = put_none _; sound = c.requires }; lent = refl })
