-- What is proved of the board's lines beside the functions.
use Rattle.std.proofs.Common.{◌≡◌, ℕ, ◌+◌, ◌*◌, ◌≤◌, List, length, arith, eqb, Some, None, Result, Ok, Err, IfOk}
use lib.ListN.{length-replicate}
use Rattle.std.specs.Str.{bytes_eq}
use Rattle.figures.specs.Figures.{codes, text}
use Rattle.words.specs.Words.{skip_of, find_of, and_then}
use Rattle.words.specs.Numbers.{between, next_of}
use Rattle.words.specs.declared.Taken.{Taken}
use Rattle.words.specs.declared.Unreadable.{Unreadable}
use Rattle.words.proofs.Numerals.{and_then-ok, next-most}
use Rattle.tick.proofs.Choices.{cond-all}
use Rattle.room.specs.Room.{filled}
use Rattle.aims.specs.declared.Order.{Order}
use Rattle.board.specs.Calls.{Areas}
use Rattle.board.specs.declared.outcome.Outcome.{Outcome}
use Rattle.board.specs.declared.state.Board.{Board}
use Rattle.board_lines.specs.declared.asked.Asked.{Asked}
use Rattle.board_lines.specs.declared.asked.Asked.TheVariants as asked
use Rattle.board_lines.specs.declared.asked.Name.{Name}
use Rattle.board_lines.specs.Asked.{order_of, call_of, alone, asked_of, size_of}
use Rattle.board_lines.specs.Ordered.{Lined, spoilt_of, told_of, filled_to, called_of, order_line}
use Rattle.board_lines.specs.Claims.{Sized, Short}
use Rattle.board_lines.proofs.Areas.{told-long}
use Rattle.board_lines.proofs.Lengths.{answer-short, board-short}

-- ---- sizes

-- at most 4,096 bytes are asked for
abbrev Small : Result Asked Unreadable → Type 0
Small r = IfOk r (λ q. size_of q ≤ 4096)

size-small : (line : List ℕ) (at cycle : ℕ) (order : Order) → Small (and_then (next_of line at 10 4096) (λ size. Ok (asked.Call order cycle size.value)))
unfolding and_then
size-small line at cycle order = go (next_of line at 10 4096) (next-most line at 10 4096)
  where
    go : (r : Result Taken Unreadable) → IfOk r (λ t. t.value ≤ 4096) → Small (and_then r (λ size. Ok (asked.Call order cycle size.value)))
    go (Ok size) h = h
    go (Err why) h = tt

call-small : (line : List ℕ) (at : ℕ) (name : Name) → Small (call_of line at name)
unfolding call_of
call-small line at name =
    and_then-ok _ _ _ (λ w _. and_then-ok _ _ _ (λ a _. and_then-ok _ _ _ (λ b _. and_then-ok _ _ _ (λ c _. and_then-ok _ _ _ (λ cycle _.
    size-small line cycle.end cycle.value (order_of name a.value b.value c.value))))))

alone-small : (line : List ℕ) (at : ℕ) (q : Asked) → size_of q ≤ 4096 → Small (alone line at q)
alone-small line at q h = and_then-ok _ _ _ (λ w _. h)

pub sized : Sized
unfolding asked_of
sized line at =
    let start = skip_of line at in
    let end = find_of line start 32 in
    let name = between line start end in
    cond-all Small (eqb start (length line)) tt
    (cond-all Small (bytes_eq name (text "new")) (alone-small line end asked.New (omega arith))
    (cond-all Small (bytes_eq name (text "state")) (alone-small line end asked.State (omega arith)) (and_then-ok _ _ _ (λ n _. call-small line end n))))

-- ---- answers

-- an answer of at most so many bytes
record Brief (x : Lined) : Type 0 where
  brief : length x.bytes ≤ 200 + 6 * 4096

told-brief : (o : Outcome) (areas : Areas) → length areas.zero ≤ 4096 → length areas.one ≤ 4096 → length areas.two ≤ 4096 → Brief (told_of o areas)
unfolding codes told_of
told-brief o areas hz ho ht = cond-all Brief (spoilt_of areas o.written) (record { brief = omega arith }) (record { brief = let h = answer-short o areas in omega (arith, h, hz, ho, ht) })

filled-length : (n : ℕ) → length (filled n) ≡ n
unfolding filled
filled-length n = length-replicate n 165

called-brief : (b : Board) (order : Order) (cycle size : ℕ) → size ≤ 4096 → Brief (called_of b order cycle (filled_to size size size))
called-brief b order cycle size h =
    let l = told-long b order cycle (filled_to size size size) in
    let f = filled-length size in
    told-brief _ _ (omega (arith, h, f, l.zero)) (omega (arith, h, f, l.one)) (omega (arith, h, f, l.two))

pub short : Short
unfolding codes order_line
short b asked.New areas h = omega arith
short None asked.State areas h = omega arith
short None (asked.Call order cycle size) areas h = omega arith
short (Some b) asked.State areas h = let s = board-short b in omega (arith, s)
short (Some b) (asked.Call order cycle size) areas h = (called-brief b order cycle size h).brief
