-- What a page shows: bytes behind those that stood there, none of them cut off.
use Prim.Native.Nat.{ℕ, ◌+◌, ◌-◌, ◌≤◌}
use native.Mathlib.Omega.{arith}
use mathlib.Core.Bool.{true}
use mathlib.Core.List.{List, ◌++◌}
use mathlib.Core.Path.{◌≡◌, ap, sym, ◌∙◌}
use native.Mathlib.Decide.{dec_le}
use borrow.Author.Tests.{leb-true, le-leb, lt-leb}
use lib.Dec.{leb}
use lib.ListN.{length, length-append}
use Rattle.page.specs.Page.{size, Puts}
use Rattle.page.proofs.Claims.{fits}
use Rattle.bench_lines.specs.declared.desk.Desk.{Desk}
use Rattle.bench_lines.specs.Named.{Lent}
use Rattle.bench_lines.specs.Steps.{State, step_of}
use Rattle.bench_lines.specs.Claims.{longest, Stepped}
use Rattle.bench_lines.proofs.Claims.{longest-holds}
use Rattle.session.specs.Runs.{roomy_of, Leaves}

-- bytes that are not more than the longest answer, where the page has room for that
pub put_shows : {old new bytes : List ℕ} → Puts old new bytes → roomy_of old ≡ true → length bytes ≤ longest → new ≡ old ++ bytes
put_shows {old} {new} {bytes} p h k = let g = leb-true (length old + longest) size h in p.after ∙ fits old bytes (omega arith)

-- a line's answer is one of those
pub step-leaves : (s : State) (line old new : List ℕ) (d : Desk) (l : Lent) (one two : List ℕ)
    → Stepped s line old new d.bench d.shelf l one two → roomy_of old ≡ true → Leaves s (step_of s line) old d l one two new
step-leaves s line old new d l one two w h =
    let e : length (s.answers ++ w.bytes) ≡ length (step_of s line).answers = ap (λ (t : State). length t.answers) w.step in
    let k = longest-holds.0 s line in
    let m = length-append s.answers w.bytes in
    record { said = w.bytes; state = w.step; shows = put_shows w.puts h (omega arith) }

-- the test for room
pub room_is : (n : ℕ) → leb n (size - longest) ≡ leb (n + longest) size
room_is n = go (dec_le n (size - longest))
  where
    go : Dec (n ≤ size - longest) → leb n (size - longest) ≡ leb (n + longest) size
    go (yes h) = le-leb n (size - longest) h ∙ sym (le-leb (n + longest) size (omega arith))
    go (no h) = lt-leb n (size - longest) (omega arith) ∙ sym (lt-leb (n + longest) size (omega arith))
