-- What an order to the board does (02, 2.6): through the timers' own `answered`, by a passage of time.
use Rattle.std.specs.Prelude.{ℕ, cond, List, ◌≡◌, eqb}
use Rattle.passage.specs.Passage.{Passage}
use Rattle.answers.specs.declared.Outcome.{Outcome as Timer-as-Outcome}
use Rattle.answers.specs.Answers.{Values, refused, none, byte, number_of, values_of, Told as Timer-as-Told}
use Rattle.timer.specs.Calls.{answered}
use Rattle.m328p.specs.declared.Id.{Id}
use Rattle.m328p.specs.declared.Id.TheVariants as id
use Rattle.aims.specs.declared.Order.{Order}
use Rattle.aims.specs.declared.Aim.{Aim}
use Rattle.aims.specs.declared.Aim.TheVariants as aim
use Rattle.aims.specs.Aims.{aim_of}
use Rattle.casts.specs.Casts.{reached, lowest}
use Rattle.board.specs.declared.state.Board.{Board}
use Rattle.board.specs.declared.outcome.Written.{Written}
use Rattle.board.specs.declared.outcome.Outcome.{Outcome}
use Rattle.board.specs.State.{Valid, timer_of, board_to, board_all}

-- ---- three areas

-- each timer writes to an area of its own
pub record Areas : Type 0 where
  pub zero : List ℕ
  pub one : List ℕ
  pub two : List ℕ

-- three areas
abbrev pub areas_of : List ℕ → List ℕ → List ℕ → Areas
areas_of zero one two = record { zero = zero; one = one; two = two }

-- the area of an id
abbrev pub area_of : Areas → Id → List ℕ
area_of a id.Zero = a.zero
area_of a id.One = a.one
area_of a id.Two = a.two

-- one area after a call, the two others as they were
abbrev pub areas_to : Areas → Id → List ℕ → Areas
areas_to a id.Zero area = record { zero = area; one = a.one; two = a.two }
areas_to a id.One area = record { zero = a.zero; one = area; two = a.two }
areas_to a id.Two area = record { zero = a.zero; one = a.one; two = area }

-- so many bytes in the area of an id
abbrev pub written_of : Id → ℕ → Written
written_of id.Zero n = record { zero = n; one = 0; two = 0 }
written_of id.One n = record { zero = 0; one = n; two = 0 }
written_of id.Two n = record { zero = 0; one = 0; two = n }

-- no byte
abbrev pub nothing : Written
nothing = record { zero = 0; one = 0; two = 0 }

-- ---- what an order tells

-- the board after it, the number (0 where it is accepted), the values, the bytes written in each area, and the three areas
pub record Told : Type 0 where
  pub board : Board
  pub number : ℕ
  pub values : Values
  pub written : Written
  pub areas : Areas

-- a refusal returns its number only, and leaves board and areas as they were
abbrev pub turned : ℕ → Board → Areas → Told
turned n b areas = record { board = b; number = n; values = refused; written = nothing; areas = areas }

-- ---- one timer

-- a timer's own call: what it tells, the board with it where it is accepted, its area
unfoldable pub own_told : Board → Id → Areas → Timer-as-Told → Told
own_told b i areas x =
    record { board = cond (eqb x.number 0) (board_to b i x.timer) b; number = x.number; values = x.values; written = written_of i x.written; areas = areas_to areas i x.area }

-- ---- all three

-- refused with the lowest number if one of them would refuse, and then none is changed, no area either
unfoldable pub all_told : Board → ℕ → Areas → Timer-as-Told → Timer-as-Told → Timer-as-Told → Told
all_told b gtccr areas x y z =
    cond (eqb (lowest x.number (lowest y.number z.number)) 0)
    (record {
      board = board_all b x.timer y.timer z.timer gtccr;
      number = 0;
      values = none;
      written = record { zero = x.written; one = y.written; two = z.written };
      areas = record { zero = x.area; one = y.area; two = z.area };
    })
    (turned (lowest x.number (lowest y.number z.number)) b areas)

-- ---- the orders

-- 16 before everything else; a GTCCR read takes any cycle and reaches no timer
unfoldable pub aimed : Passage → Board → Aim → ℕ → Areas → Told
aimed p b aim.Nowhere cycle areas = turned 16 b areas
aimed p b aim.Shown cycle areas = record { board = b; number = 0; values = byte b.gtccr; written = nothing; areas = areas }
aimed p b (aim.Own i c) cycle areas = own_told b i areas (answered p (timer_of b i) c cycle (area_of areas i))
aimed p b (aim.All s gtccr) cycle areas =
    all_told b gtccr areas (reached p b.zero s cycle areas.zero) (reached p b.one s cycle areas.one) (reached p b.two s cycle areas.two)

-- an order told
unfoldable pub told : Passage → Board → Order → ℕ → Areas → Told
told p b o cycle areas = aimed p b (aim_of o b.gtccr) cycle areas

-- ---- what the code says

-- the code's outcome, and every byte of the three areas; the board that comes out is valid
pub record Tells (x : Told) (r : Outcome) (a b c : List ℕ) : Type 0 where
  pub board : r.board ≡ x.board
  pub number : number_of r.answer ≡ x.number
  pub values : values_of r.answer ≡ x.values
  pub written : r.written ≡ x.written
  pub zero : a ≡ x.areas.zero
  pub one : b ≡ x.areas.one
  pub two : c ≡ x.areas.two
  pub valid : Valid r.board

-- what the code keeps of a timer's own call
pub record Took (b : Board) (i : Id) (o : Timer-as-Outcome) (r : Outcome) : Type 0 where
  pub outcome : r ≡ record { answer = o.answer; board = cond (eqb (number_of o.answer) 0) (board_to b i o.timer) b; written = written_of i o.written }
  pub valid : Valid r.board
