-- What is claimed of the board (02, 2.6): statements, proved in proofs/.
use Rattle.std.specs.Prelude.{ℕ, Bool, true, false, cond, List, [], ◌∷◌, ◌++◌, ◌≡◌, eqb}
use Rattle.counter.specs.declared.next.Next.{Next}
use Rattle.counter.specs.declared.state.Timer.{Timer}
use Rattle.counter.specs.Next.{next_of}
use Rattle.passage.specs.Passage.{Passage, ticks, events}
use Rattle.answers.specs.Answers.{byte, number_of, values_of}
use Rattle.timer.specs.declared.calls.Call.{Call}
use Rattle.timer.specs.declared.calls.Call.TheVariants as call
use Rattle.timer.specs.Claims.{Request as Timer-as-Request, last as Timer·last, Always, HeldOf, QuietOf}
use Rattle.outlook.specs.Announced.{AnnouncedOf}
use Rattle.scheduler.specs.Runs.{Sound}
use Rattle.m328p.specs.declared.Id.{Id}
use Rattle.plans.specs.Plans.{key_of, Exact, Apart}
use Rattle.aims.specs.declared.Order.{Order}
use Rattle.aims.specs.declared.Order.TheVariants as order
use Rattle.aims.specs.declared.Cast.{Cast}
use Rattle.aims.specs.declared.Cast.TheVariants as cast
use Rattle.aims.specs.declared.Aim.{Aim}
use Rattle.aims.specs.declared.Aim.TheVariants as aim
use Rattle.aims.specs.Aims.{stored_of, aim_of}
use Rattle.board.specs.declared.state.Board.{Board}
use Rattle.board.specs.declared.outcome.Outcome.{Outcome}
use Rattle.board.specs.State.{Valid, timer_of, fresh_board}
use Rattle.board.specs.Calls.{Areas, area_of, nothing as noByte, Told, told, Tells}

-- an order with its cycle and its three areas
pub record Request : Type 0 where
  pub order : Order
  pub cycle : ℕ
  pub areas : Areas

-- a request told, by a passage of time
abbrev pub tells : Passage → Board → Request → Told
tells p b q = told p b q.order q.cycle q.areas

-- what a list of requests tells, each on the board as the last one left it
unfoldable pub outcomes : Passage → Board → List Request → List Told
outcomes p b [] = []
outcomes p b (q ∷ qs) = tells p b q ∷ outcomes p (tells p b q).board qs

-- the board after a list of requests
unfoldable pub last : Passage → Board → List Request → Board
last p b [] = b
last p b (q ∷ qs) = last p (tells p b q).board qs

-- ---- the skipping rule (01, demand 3) for each timer of the board

-- the same outcomes (refusal or answer, values, bytes, paused cycle, every byte of the three areas) and the same board, the three timers in it
pub record Same (qs : List Request) : Type 0 where
  pub outcomes : outcomes events fresh_board qs ≡ outcomes ticks fresh_board qs
  pub last : last events fresh_board qs ≡ last ticks fresh_board qs

-- Alike: for every list of orders, refused ones among them, the board whose timers skip and the board of three plain counters are the same
abbrev pub Alike : Type 0
Alike = (qs : List Request) → Same qs

-- ---- the scheduler

-- the next event of each timer
abbrev pub nexts_of : Board → Id → Next
nexts_of b i = next_of (timer_of b i)

-- the scheduler holds exactly the next events that the three timers have, under a key each
abbrev pub Schedules : Board → Type 0
Schedules b = (Sound b.scheduler) × Exact (nexts_of b) b.scheduler

-- Scheduled: after any list of orders it does
abbrev pub Scheduled : Type 0
Scheduled = (qs : List Request) → Schedules (last ticks fresh_board qs)

-- ---- each timer of the board is one that its own calls make: the rest of the skipping rule (01, demand 3; 02, 2.2) carries over

-- a timer's own calls of what reaches all three
abbrev pub calls_of : Cast → List Call
calls_of (cast.Sleep mode) = call.Sleep mode ∷ []
calls_of cast.Wake = call.Wake ∷ []
calls_of (cast.Reduce value) = call.Reduce value ∷ []
calls_of (cast.Prescale mask) = call.Prescale mask ∷ []
calls_of (cast.Synchronise level mask) = call.Tsm level ∷ call.Prescale mask ∷ []

-- those of an aim, for the timer of an id
unfoldable pub calls_to : Aim → Id → List Call
calls_to aim.Nowhere i = []
calls_to aim.Shown i = []
calls_to (aim.Own j c) i = cond (eqb (key_of i).owner (key_of j).owner) (c ∷ []) []
calls_to (aim.All s gtccr) i = calls_of s

-- calls at one cycle, with one area
unfoldable pub asking : ℕ → List ℕ → List Call → List Timer-as-Request
asking cycle area [] = []
asking cycle area (c ∷ cs) = record { call = c; cycle = cycle; area = area } ∷ asking cycle area cs

-- a timer's own calls of an order, at its cycle and with the timer's area; none where it is refused
abbrev pub own_of : Board → Request → Id → List Timer-as-Request
own_of b q i = cond (eqb (tells ticks b q).number 0) (asking q.cycle (area_of q.areas i) (calls_to (aim_of q.order b.gtccr) i)) []

-- of a list of orders
unfoldable pub own : Board → List Request → Id → List Timer-as-Request
own b [] i = []
own b (q ∷ qs) i = own_of b q i ++ own (tells ticks b q).board qs i

-- OwnCalls: orders leave each timer as its own calls leave it
abbrev pub OwnCalls : Type 0
OwnCalls = (b : Board) (qs : List Request) (i : Id) → Valid b → timer_of (last ticks b qs) i ≡ Timer·last ticks (timer_of b i) (own b qs i)

-- of each timer of the board, after any list of orders
abbrev pub OnBoard : (Timer → Type 0) → Type 0
OnBoard P = (qs : List Request) (i : Id) → P (timer_of (last ticks fresh_board qs) i)

-- Carries: what holds of every timer that calls make holds of each timer of the board
abbrev pub Carries : Type 1
Carries = (P : Timer → Type 0) → Always P → OnBoard P

-- SkippingRule: so do the claims of the skipping rule beside `Alike`
pub record SkippingRule : Type 0 where
  pub held : OnBoard HeldOf
  pub quiet : OnBoard QuietOf
  pub announced : OnBoard AnnouncedOf

-- ---- which timers an order reaches

-- GTCCR writes, sleep, wake and power reduction reach all three
unfoldable pub reaches_all : Order → Bool
reaches_all (order.Advance i) = false
reaches_all (order.Next i) = false
reaches_all (order.Reset i) = false
reaches_all (order.Edge i pin level) = false
reaches_all (order.Route i level) = false
reaches_all (order.Output i level) = false
reaches_all (order.Read address) = false
reaches_all (order.Peek address) = false
reaches_all (order.Write address value) = eqb address 0x43
reaches_all (order.Sleep mode) = true
reaches_all order.Wake = true
reaches_all (order.Reduce value) = true
reaches_all (order.Tifr i) = false
reaches_all (order.Timsk i) = false
reaches_all (order.WriteTifr i ones) = false
reaches_all (order.WriteTimsk i mask) = false

-- Four: nothing else does
abbrev pub Four : Type 0
Four = (o : Order) (gtccr : ℕ) (s : Cast) (g : ℕ) → aim_of o gtccr ≡ aim.All s g → reaches_all o ≡ true

-- the two others and their areas are as they were, and GTCCR is
pub record Alone (b : Board) (areas : Areas) (i : Id) (x : Told) : Type 0 where
  pub timers : (j : Id) → Apart j i → timer_of x.board j ≡ timer_of b j
  pub others : (j : Id) → Apart j i → area_of x.areas j ≡ area_of areas j
  pub gtccr : x.board.gtccr ≡ b.gtccr

-- Untouched: calls on one timer leave the other two as they were
abbrev pub Untouched : Type 0
Untouched = (p : Passage) (b : Board) (q : Request) (i : Id) (c : Call) → aim_of q.order b.gtccr ≡ aim.Own i c → Alone b q.areas i (tells p b q)

-- ---- two advances to one cycle

-- an advance of one timer, and then of another
abbrev pub advances : Passage → Board → Id → Id → ℕ → Areas → Told
advances p b i j cycle areas = told p (told p b (order.Advance i) cycle areas).board (order.Advance j) cycle (told p b (order.Advance i) cycle areas).areas

-- the same answer
pub record Agrees (x y : Told) : Type 0 where
  pub number : x.number ≡ y.number
  pub values : x.values ≡ y.values
  pub written : x.written ≡ y.written

-- each advance answers as it does in the other order; in the end the three states, the areas, the next events and GTCCR are the same, and the scheduler holds exactly those events, in whatever order of ties
pub record Commutes (p : Passage) (b : Board) (i j : Id) (cycle : ℕ) (areas : Areas) : Type 0 where
  pub first : Agrees (told p b (order.Advance i) cycle areas) (advances p b j i cycle areas)
  pub second : Agrees (advances p b i j cycle areas) (told p b (order.Advance j) cycle areas)
  pub timers : (k : Id) → timer_of (advances p b i j cycle areas).board k ≡ timer_of (advances p b j i cycle areas).board k
  pub bytes : (advances p b i j cycle areas).areas ≡ (advances p b j i cycle areas).areas
  pub nexts : (k : Id) → nexts_of (advances p b i j cycle areas).board k ≡ nexts_of (advances p b j i cycle areas).board k
  pub gtccr : (advances p b i j cycle areas).board.gtccr ≡ (advances p b j i cycle areas).board.gtccr
  pub scheduler : Schedules b → (Schedules (advances p b i j cycle areas).board) × Schedules (advances p b j i cycle areas).board

-- Commuting: in either order
abbrev pub Commuting : Type 0
Commuting = (p : Passage) (b : Board) (i j : Id) (cycle : ℕ) (areas : Areas) → Apart j i → Apart i j → Commutes p b i j cycle areas

-- ---- GTCCR

-- a read takes any cycle, is never refused, reaches no timer and moves nothing; an accepted write is read back by the sheet
pub record ReadsBack (p : Passage) (b : Board) (cycle : ℕ) (areas : Areas) : Type 0 where
  pub read : told p b (order.Read 0x43) cycle areas ≡ record { board = b; number = 0; values = byte b.gtccr; written = noByte; areas = areas }
  pub peek : told p b (order.Peek 0x43) cycle areas ≡ record { board = b; number = 0; values = byte b.gtccr; written = noByte; areas = areas }
  pub write : (value : ℕ) → (told p b (order.Write 0x43 value) cycle areas).number ≡ 0 → (told p b (order.Write 0x43 value) cycle areas).board.gtccr ≡ stored_of value

-- GtccrReads: of every board
abbrev pub GtccrReads : Type 0
GtccrReads = (p : Passage) (b : Board) (cycle : ℕ) (areas : Areas) → ReadsBack p b cycle areas

-- ---- the code is that run

-- what the code's outcome and the areas after it say
abbrev pub heard : Outcome → Areas → Told
heard r after = record { board = r.board; number = number_of r.answer; values = values_of r.answer; written = r.written; areas = after }

-- a history of `call`: each on the board as the one before gave it back, each with its promise
pub data History : Board → List Request → List Told → Board → Type 0 where
  nothing : (b : Board) → History b [] [] b
  called : (b : Board) (q : Request) (r : Outcome) (after : Areas) (qs : List Request) (xs : List Told) (u : Board)
      → Tells (tells ticks b q) r after.zero after.one after.two → History r.board qs xs u → History b (q ∷ qs) (heard r after ∷ xs) u

-- it is the run of the board whose timers skip
pub record Heard (qs : List Request) (xs : List Told) (u : Board) : Type 0 where
  pub outcomes : xs ≡ outcomes events fresh_board qs
  pub last : u ≡ last events fresh_board qs

-- for every history from a fresh board
abbrev pub CodeIsRun : Type 0
CodeIsRun = (qs : List Request) (xs : List Told) (u : Board) → History fresh_board qs xs u → Heard qs xs u
