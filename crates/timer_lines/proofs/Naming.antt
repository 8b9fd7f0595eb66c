-- Which commands a line's first word names.
use Rattle.std.proofs.Common.{◌≡◌, ℕ, Bool, true, false, cond, List, refl, sym, ap, ◌∙◌, Option, Some, None}
use Rattle.std.specs.Option.{option_map}
use Rattle.std.specs.Str.{bytes_eq}
use Rattle.figures.specs.Figures.{text}
use mathlib.Core.Bool.{false≢true}
use Rattle.timer_lines.specs.declared.asked.Name.{Name}
use Rattle.timer_lines.specs.declared.asked.Name.TheVariants as name
use Rattle.timer_lines.specs.declared.named.Command.{Command}
use Rattle.timer_lines.specs.declared.named.Command.TheVariants as command
use Rattle.timer_lines.specs.Named.{call_named, named_of}
use Rattle.timer_lines.specs.Claims.{NamedAlone}

-- is it the call beyond the names
unfoldable beyond : Name → Bool
beyond name.Advance = false
beyond name.Next = false
beyond name.Reset = false
beyond name.Wake = false
beyond name.Tifr = false
beyond name.Timsk = false
beyond name.Read = false
beyond name.Peek = false
beyond name.Prr = false
beyond name.Wtifr = false
beyond name.Wtimsk = false
beyond name.Presc = false
beyond name.Route = false
beyond name.Acout = false
beyond name.Sleep = false
beyond name.Tsm = false
beyond name.Write = false
beyond name.Edge = false
beyond name.Beyond = true

unfoldable called : Option Name → Bool
called None = false
called (Some n) = beyond n

unfoldable commanded : Option Command → Bool
commanded None = false
commanded (Some command.State) = false
commanded (Some command.Distance) = false
commanded (Some command.Shift) = false
commanded (Some (command.Call n)) = beyond n

-- where neither of two is
neither : {A : Type 0} (f : A → Bool) (t : Bool) (x y : A) → f x ≡ false → f y ≡ false → f (cond t x y) ≡ false
neither f true x y a b = a
neither f false x y a b = b

-- a name, and others after it
one : (n : Name) (t : Bool) (y : Option Name) → beyond n ≡ false → called y ≡ false → called (cond t (Some n) y) ≡ false
unfolding called
one n true y e h = e
one n false y e h = h

none : called None ≡ false
unfolding called
none = refl

call-named : (word : List ℕ) → called (call_named word) ≡ false
unfolding call_named beyond
call-named word =
    let from-edge = one name.Edge (bytes_eq word (text "edge")) None refl none in
    let from-write = one name.Write (bytes_eq word (text "write")) _ refl from-edge in
    let from-tsm = one name.Tsm (bytes_eq word (text "tsm")) _ refl from-write in
    let from-sleep = one name.Sleep (bytes_eq word (text "sleep")) _ refl from-tsm in
    let from-acout = one name.Acout (bytes_eq word (text "acout")) _ refl from-sleep in
    let from-route = one name.Route (bytes_eq word (text "route")) _ refl from-acout in
    let from-presc = one name.Presc (bytes_eq word (text "presc")) _ refl from-route in
    let from-wtimsk = one name.Wtimsk (bytes_eq word (text "wtimsk")) _ refl from-presc in
    let from-wtifr = one name.Wtifr (bytes_eq word (text "wtifr")) _ refl from-wtimsk in
    let from-prr = one name.Prr (bytes_eq word (text "prr")) _ refl from-wtifr in
    let from-peek = one name.Peek (bytes_eq word (text "peek")) _ refl from-prr in
    let from-read = one name.Read (bytes_eq word (text "read")) _ refl from-peek in
    let from-timsk = one name.Timsk (bytes_eq word (text "timsk")) _ refl from-read in
    let from-tifr = one name.Tifr (bytes_eq word (text "tifr")) _ refl from-timsk in
    let from-wake = one name.Wake (bytes_eq word (text "wake")) _ refl from-tifr in
    let from-reset = one name.Reset (bytes_eq word (text "reset")) _ refl from-wake in
    let from-next = one name.Next (bytes_eq word (text "next")) _ refl from-reset in
    one name.Advance (bytes_eq word (text "advance")) _ refl from-next

call-commanded : (o : Option Name) → called o ≡ false → commanded (option_map command.Call o) ≡ false
unfolding called commanded
call-commanded None h = refl
call-commanded (Some n) h = h

shown : (commanded (Some command.State) ≡ false) × (commanded (Some command.Distance) ≡ false) × (commanded (Some command.Shift) ≡ false)
unfolding commanded
shown = (refl, refl, refl)

command-named : (word : List ℕ) → commanded (named_of word) ≡ false
unfolding named_of
command-named word = neither commanded _ _ _ shown.0 (neither commanded _ _ _ shown.1 (neither commanded _ _ _ shown.2 (call-commanded (call_named word) (call-named word))))

beyond-commanded : commanded (Some (command.Call name.Beyond)) ≡ true
unfolding commanded beyond
beyond-commanded = refl

pub named-alone : NamedAlone
named-alone word e = false≢true (sym (command-named word) ∙ ap commanded e ∙ beyond-commanded)
