-- How long the answer of a list's line, or an item's, may be.
use Rattle.std.proofs.Common.{ℕ, ◌+◌, ◌*◌, ◌/◌, ◌%◌, ◌≤◌, List, [], ◌++◌, length, arith, length-append, Option, Some, None, Result, Ok, Err, IfOk, is_ok, eqb, ltb, leb}
use lib.ListN.{length-replicate}
use Rattle.figures.proofs.Writing.{number_short}
use Rattle.words.specs.Words.{exactly_of, and_then}
use Rattle.words.specs.Numbers.{next_of}
use Rattle.words.specs.declared.Taken.{Taken}
use Rattle.words.specs.declared.Unreadable.{Unreadable}
use Rattle.words.proofs.Numerals.{and_then-ok, next-most}
use Rattle.page.proofs.Lengths.{Upto, said, numbered, either, codes-length, unreadable-short}
use Rattle.passage.specs.Passage.{ticks}
use Rattle.counter.specs.declared.state.Timer.{Timer}
use Rattle.display.proofs.Lengths.{records-short}
use Rattle.digits.specs.Spelling.{bytes_of}
use Rattle.room.specs.Room.{filled, changed_at}
use Rattle.writes.specs.Writes.{Listed, listing}
use Rattle.writes.specs.declared.Why.{Why}
use Rattle.writes.specs.declared.Why.TheVariants as why
use Rattle.items.specs.declared.Item.{Item}
use Rattle.list_lines.specs.declared.worked.Asked.{Asked}
use Rattle.list_lines.specs.Items.{Added, item_of, added_of, item_read, asked_of as item_asked}
use Rattle.list_lines.specs.Lists.{Lined, reason_of, reason_in, ended_of, told_of, worked_of, on_timer, of_bytes, of_list, word_of, asked_of, heard_of}
use Rattle.list_lines.specs.Claims.{Short, ShortItem}
use Rattle.list_lines.proofs.Lengths.{listing-area}

reason-short : (w : Why) → Upto 40 (reason_of w)
unfolding reason_of
reason-short why.AllDone = said _ (omega arith)
reason-short (why.Paused cycle f) = numbered _ _ cycle.0 (omega arith)
reason-short (why.Refused n) = numbered _ _ n (omega arith)

ended-short : (done : ℕ) (w : Why) (area : List ℕ) (written : ℕ) → Upto (105 + 2 * length area) (ended_of done w area written)
unfolding ended_of
ended-short done w area written =
    let h = number_short done in
    let k = reason-short w in
    let l = records-short area written in
    simp (length-append, codes-length) (omega arith)

told-short : (items : List ℕ) (x : Listed) → length (told_of items x).bytes ≤ 105 + 2 * length x.told.area
unfolding told_of
told-short items x =
    let end = changed_at x.told.area x.told.written in
    either (λ (y : Lined). length y.bytes ≤ 105 + 2 * length x.told.area) (ltb end (length x.told.area))
    (numbered _ _ end (omega arith)) (ended-short x.done (reason_in x) x.told.area x.told.written)

abbrev Brief : Lined → Type 0
Brief x = length x.bytes ≤ 105 + 2 * 4096

worked-short : (t : Timer) (items list : List ℕ) (size : ℕ) → size ≤ 4096 → Brief (worked_of t items list size)
unfolding filled
worked-short t items list size h =
    omega (arith, told-short items (listing ticks t list (filled size)), listing-area t list (filled size), length-replicate {A = ℕ} size 165)

timer-short : (t : Option Timer) (items left list : List ℕ) (size : ℕ) (area : List ℕ) → size ≤ 4096 → Brief (on_timer t items left list size area)
unfolding on_timer
timer-short (Some t) items left list size area h = worked-short t left list size h
timer-short None items left list size area h = said _ (omega arith)

list-short : (t : Option Timer) (items : List ℕ) (list : Option (List ℕ)) (size : ℕ) (area : List ℕ) → size ≤ 4096 → Brief (of_list t items list size area)
unfolding of_list of_bytes
list-short t items (Some list) size area h = either Brief _ (timer-short t items items list size area h) (said _ (omega arith))
list-short t items None size area h = timer-short t items [] items size area h

-- at most 4,096 bytes are asked for
abbrev Small : Result Asked Unreadable → Type 0
Small r = IfOk r (λ q. q.size ≤ 4096)

size-small : (size : Result Taken Unreadable) (f : Taken → Result Asked Unreadable) → IfOk size (λ t. t.value ≤ 4096) → ((t : Taken) → t.value ≤ 4096 → Small (f t)) → Small (and_then size f)
unfolding and_then
size-small (Ok t) f h k = k t h
size-small (Err e) f h k = tt

word-small : (line : List ℕ) (at : ℕ) → Small (word_of line at)
unfolding word_of
word-small line at = and_then-ok _ _ _ (λ _ _. size-small (next_of line at 10 4096) _ (next-most line at 10 4096) (λ t h. and_then-ok _ (bytes_of line t.end 250) _ (λ list _. h)))

asked-small : (line : List ℕ) (at : ℕ) → Small (asked_of line at)
unfolding asked_of
asked-small line at = either Small (is_ok (exactly_of line at 1)) (size-small (next_of line at 10 4096) _ (next-most line at 10 4096) (λ t h. h)) (word-small line at)

heard-short : (t : Option Timer) (nth : ℕ) (items : List ℕ) (q : Result Asked Unreadable) (area : List ℕ) → Small q → Brief (heard_of t nth items q area)
unfolding heard_of
heard-short t nth items (Ok q) area h = list-short t items q.list q.size area h
heard-short t nth items (Err e) area h = omega (arith, unreadable-short nth e)

pub short : Short
short t nth line at items area = heard-short t nth items (asked_of line at) area (asked-small line at)

-- ---- items

abbrev Few : Added → Type 0
Few x = length x.bytes ≤ 49

added-short : (nth : ℕ) (list item : List ℕ) → Few (added_of nth list item)
unfolding added_of
added-short nth list item = either Few (leb 4000 (length list)) (unreadable-short nth _) (numbered _ _ (length (list ++ item) / 10) (omega arith))

read_short : (nth : ℕ) (list : List ℕ) (q : Result Item Unreadable) → Few (item_read nth list q)
unfolding item_read
read_short nth list (Ok item) = added-short nth list (item_of item.address item.value item.cycle.0)
read_short nth list (Err e) = unreadable-short nth e

pub short-item : ShortItem
short-item nth line at list = read_short nth list (item_asked line at)
