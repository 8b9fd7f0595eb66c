-- The claims of specs/Claims.antt.
use Prim.Native.Nat.{ℕ}
use native.Mathlib.Omega.{arith}
use mathlib.Core.Path.{◌≡◌, refl, sym, ap, ◌∙◌}
use mathlib.Core.Bool.{Bool, true, false, cond, ◌&&◌, true≢false}
use mathlib.Core.List.{List, [], ◌∷◌}
use lib.Dec.{eqb}
use native.Mathlib.Nat.{not-suc-le-zero}
use borrow.Author.Tests.{eqb-true, eqb-false}
use Rattle.counter.specs.declared.next.Next.{Next}
use Rattle.counter.specs.declared.state.Timer.{Timer}
use Rattle.counter.specs.Fresh.{fresh_of}
use Rattle.counter.specs.Modes.{divisor_at, divisor_of, held_of, running_of}
use Rattle.counter.specs.declared.next.Next.TheVariants as next
use Rattle.time.specs.declared.units.Cycle.{Cycle}
use Rattle.counter.specs.Next.{next_of}
use Rattle.counter.specs.Valid.{Valid as Running}
use Rattle.counter.proofs.Keeps.{fresh-is-valid}
use Rattle.passage.specs.Passage.{Passage, ticks, events}
use Rattle.answers.specs.Answers.{Told as Timer-as-Told}
use Rattle.tick.proofs.Choices.{cond-case, cond-all}
use Rattle.timer.specs.declared.calls.Call.{Call}
use Rattle.timer.specs.declared.calls.Call.TheVariants as call
use Rattle.timer.specs.Calls.{answered}
use Rattle.timer.proofs.Alike.{told-alike}
use Rattle.timer.proofs.Keeps.{call-keeps}
use Rattle.scheduler.specs.declared.Scheduler.{Scheduler}
use Rattle.scheduler.specs.Runs.{run}
use Rattle.scheduler.proofs.Runs.{always}
use Rattle.m328p.specs.declared.Id.{Id}
use Rattle.m328p.specs.declared.Id.TheVariants as id
use Rattle.m328p.specs.Timers.{timer0, timer1, timer2}
use Rattle.m328p.specs.declared.Place.{Place}
use Rattle.m328p.specs.declared.Place.TheVariants as place
use Rattle.m328p.specs.Places.{is_of, register_at, place_at}
use Rattle.m328p.proofs.Claims.{all-accepted}
use Rattle.plans.specs.Plans.{key_of, planned_of, event_of, Kept as In, Exact, Apart}
use Rattle.plans.proofs.Exact.{one-id, planned, exact_same}
use Rattle.aims.specs.declared.Order.TheVariants as order
use Rattle.aims.specs.declared.Cast.{Cast}
use Rattle.aims.specs.declared.Cast.TheVariants as cast
use Rattle.aims.specs.declared.Aim.{Aim}
use Rattle.aims.specs.declared.Aim.TheVariants as aim
use Rattle.aims.specs.Aims.{stored_of, looked_at, written_at, aim_of}
use Rattle.board.specs.declared.state.Board.{Board}
use Rattle.board.specs.declared.outcome.Outcome.{Outcome}
use Rattle.board.specs.State.{timer_of, board_to, board_all, fresh_board}
use Rattle.casts.specs.Casts.{prescaled, reached, lowest}
use Rattle.board.specs.Calls.{Areas, area_of, areas_to, Told, own_told, all_told, aimed, told, Tells}
use Rattle.board_claims.specs.Claims.{Request, tells, outcomes, last, Alike, nexts_of, Schedules, Scheduled, reaches_all, Four, Alone, Untouched, advances, Agrees, Commuting, GtccrReads, heard, History, nothing, called, CodeIsRun}

-- ---- each timer's calls keep it valid, and skipping and ticking are alike

reached-keeps : (t : Timer) (s : Cast) (cycle : ℕ) (area : List ℕ) → Running t → Running (reached ticks t s cycle area).timer
unfolding reached prescaled
reached-keeps t (cast.Sleep mode) cycle area v = call-keeps t (record { call = call.Sleep mode; cycle = cycle; area = area }) v
reached-keeps t cast.Wake cycle area v = call-keeps t (record { call = call.Wake; cycle = cycle; area = area }) v
reached-keeps t (cast.Reduce value) cycle area v = call-keeps t (record { call = call.Reduce value; cycle = cycle; area = area }) v
reached-keeps t (cast.Prescale mask) cycle area v = call-keeps t (record { call = call.Prescale mask; cycle = cycle; area = area }) v
reached-keeps t (cast.Synchronise level mask) cycle area v =
    let x = answered ticks t (call.Tsm level) cycle area in
    let k = call-keeps t (record { call = call.Tsm level; cycle = cycle; area = area }) v in
    cond-all (λ (y : Timer-as-Told). Running y.timer) (eqb x.number 0)
    (cond-all (λ (y : Timer-as-Told). Running y.timer) (eqb (answered ticks x.timer (call.Prescale mask) cycle x.area).number 0)
    (call-keeps x.timer (record { call = call.Prescale mask; cycle = cycle; area = x.area }) k) v)
    k

reached-alike : (t : Timer) (s : Cast) (cycle : ℕ) (area : List ℕ) → Running t → reached events t s cycle area ≡ reached ticks t s cycle area
unfolding reached prescaled
reached-alike t (cast.Sleep mode) cycle area v = told-alike t (record { call = call.Sleep mode; cycle = cycle; area = area }) v
reached-alike t cast.Wake cycle area v = told-alike t (record { call = call.Wake; cycle = cycle; area = area }) v
reached-alike t (cast.Reduce value) cycle area v = told-alike t (record { call = call.Reduce value; cycle = cycle; area = area }) v
reached-alike t (cast.Prescale mask) cycle area v = told-alike t (record { call = call.Prescale mask; cycle = cycle; area = area }) v
reached-alike t (cast.Synchronise level mask) cycle area v =
    let x = answered ticks t (call.Tsm level) cycle area in
    let k = call-keeps t (record { call = call.Tsm level; cycle = cycle; area = area }) v in
    rw (told-alike t (record { call = call.Tsm level; cycle = cycle; area = area }) v, told-alike x.timer (record { call = call.Prescale mask; cycle = cycle; area = x.area }) k)

-- ---- one timer after its call

to-self : (b : Board) (i : Id) (t : Timer) → timer_of (board_to b i t) i ≡ t
unfolding board_to
to-self b id.Zero t = refl
to-self b id.One t = refl
to-self b id.Two t = refl

to-plan : (b : Board) (i : Id) (t : Timer) → (board_to b i t).scheduler ≡ planned_of b.scheduler i (next_of t)
unfolding board_to
to-plan b id.Zero t = refl
to-plan b id.One t = refl
to-plan b id.Two t = refl

to-gtccr : (b : Board) (i : Id) (t : Timer) → (board_to b i t).gtccr ≡ b.gtccr
unfolding board_to
to-gtccr b id.Zero t = refl
to-gtccr b id.One t = refl
to-gtccr b id.Two t = refl

to-others : (b : Board) (i : Id) (t : Timer) (j : Id) → Apart j i → timer_of (board_to b i t) j ≡ timer_of b j
unfolding board_to
to-others b id.Zero t id.Zero e = absurd (true≢false e)
to-others b id.Zero t id.One e = refl
to-others b id.Zero t id.Two e = refl
to-others b id.One t id.Zero e = refl
to-others b id.One t id.One e = absurd (true≢false e)
to-others b id.One t id.Two e = refl
to-others b id.Two t id.Zero e = refl
to-others b id.Two t id.One e = refl
to-others b id.Two t id.Two e = absurd (true≢false e)

areas-others : (a : Areas) (i : Id) (area : List ℕ) (j : Id) → Apart j i → area_of (areas_to a i area) j ≡ area_of a j
areas-others a id.Zero area id.Zero e = absurd (true≢false e)
areas-others a id.Zero area id.One e = refl
areas-others a id.Zero area id.Two e = refl
areas-others a id.One area id.Zero e = refl
areas-others a id.One area id.One e = absurd (true≢false e)
areas-others a id.One area id.Two e = refl
areas-others a id.Two area id.Zero e = refl
areas-others a id.Two area id.One e = refl
areas-others a id.Two area id.Two e = absurd (true≢false e)

-- ---- every order leaves the three timers valid

abbrev pub Runs : Board → Type 0
Runs b = (i : Id) → Running (timer_of b i)

to-runs : (b : Board) (i : Id) (t : Timer) → Runs b → Running t → Runs (board_to b i t)
to-runs b i t k r j = go (eqb (key_of j).owner (key_of i).owner) refl
  where
    go : (d : Bool) → eqb (key_of j).owner (key_of i).owner ≡ d → Running (timer_of (board_to b i t) j)
    go true h = rw (one-id j i h, to-self b i t) r
    go false h = rw (to-others b i t j h) (k j)

all-run : (b : Board) (x y z : Timer) (gtccr : ℕ) → Running x → Running y → Running z → Runs (board_all b x y z gtccr)
unfolding board_all
all-run b x y z gtccr rx ry rz id.Zero = rx
all-run b x y z gtccr rx ry rz id.One = ry
all-run b x y z gtccr rx ry rz id.Two = rz

aimed-runs : (b : Board) (a : Aim) (cycle : ℕ) (areas : Areas) → Runs b → Runs (aimed ticks b a cycle areas).board
unfolding aimed own_told all_told
aimed-runs b aim.Nowhere cycle areas k = k
aimed-runs b aim.Shown cycle areas k = k
aimed-runs b (aim.Own i c) cycle areas k =
    let x = answered ticks (timer_of b i) c cycle (area_of areas i) in
    cond-all Runs (eqb x.number 0) (to-runs b i x.timer k (call-keeps (timer_of b i) (record { call = c; cycle = cycle; area = area_of areas i }) (k i))) k
aimed-runs b (aim.All s gtccr) cycle areas k =
    let x = reached ticks b.zero s cycle areas.zero in
    let y = reached ticks b.one s cycle areas.one in
    let z = reached ticks b.two s cycle areas.two in
    cond-all (λ (r : Told). Runs r.board) (eqb (lowest x.number (lowest y.number z.number)) 0)
    (all-run b x.timer y.timer z.timer gtccr (reached-keeps b.zero s cycle areas.zero (k id.Zero)) (reached-keeps b.one s cycle areas.one (k id.One)) (reached-keeps b.two s cycle areas.two (k id.Two)))
    k

pub told-runs : (b : Board) (q : Request) → Runs b → Runs (tells ticks b q).board
unfolding told
told-runs b q k = aimed-runs b (aim_of q.order b.gtccr) q.cycle q.areas k

pub fresh-runs : Runs fresh_board
fresh-runs id.Zero = fresh-is-valid timer0 (all-accepted id.Zero)
fresh-runs id.One = fresh-is-valid timer1 (all-accepted id.One)
fresh-runs id.Two = fresh-is-valid timer2 (all-accepted id.Two)

-- ---- and the scheduler with exactly their next events

-- of a scheduler that is the same
exact-in : {n : Id → Next} {s t : Scheduler} → s ≡ t → Exact n t → Exact n s
exact-in e x = rw e x

to-plans : (b : Board) (i : Id) (t : Timer) → Schedules b → Schedules (board_to b i t)
to-plans b i t (s, e) =
    let h : (board_to b i t).scheduler ≡ planned_of b.scheduler i (nexts_of (board_to b i t) i) = rw (to-self b i t) (to-plan b i t) in
    let p = planned b.scheduler (nexts_of b) (nexts_of (board_to b i t)) i s e (λ j a. ap next_of (to-others b i t j a)) in
    (rw h p.0, exact-in h p.1)

own-plans : (b : Board) (i : Id) (areas : Areas) (x : Timer-as-Told) → Schedules b → Schedules (own_told b i areas x).board
unfolding own_told
own-plans b i areas x k = cond-all Schedules (eqb x.number 0) (to-plans b i x.timer k) k

all-plan : (b : Board) (x y z : Timer) (gtccr : ℕ) → Schedules b → Schedules (board_all b x y z gtccr)
unfolding board_all board_to
all-plan b x y z gtccr k =
    let (s, e) = to-plans (board_to (board_to b id.Zero x) id.One y) id.Two z (to-plans (board_to b id.Zero x) id.One y (to-plans b id.Zero x k)) in
    (s, exact_same (nexts_of (board_to (board_to (board_to b id.Zero x) id.One y) id.Two z)) (nexts_of (board_all b x y z gtccr)) _ same e)
  where
    same : (i : Id) → nexts_of (board_all b x y z gtccr) i ≡ nexts_of (board_to (board_to (board_to b id.Zero x) id.One y) id.Two z) i
    same id.Zero = refl
    same id.One = refl
    same id.Two = refl

all-plans : (b : Board) (gtccr : ℕ) (areas : Areas) (x y z : Timer-as-Told) → Schedules b → Schedules (all_told b gtccr areas x y z).board
unfolding all_told
all-plans b gtccr areas x y z k = cond-all (λ (r : Told). Schedules r.board) (eqb (lowest x.number (lowest y.number z.number)) 0) (all-plan b x.timer y.timer z.timer gtccr k) k

aimed-plans : (b : Board) (a : Aim) (cycle : ℕ) (areas : Areas) → Schedules b → Schedules (aimed ticks b a cycle areas).board
unfolding aimed
aimed-plans b aim.Nowhere cycle areas k = k
aimed-plans b aim.Shown cycle areas k = k
aimed-plans b (aim.Own i c) cycle areas k = own-plans b i areas (answered ticks (timer_of b i) c cycle (area_of areas i)) k
aimed-plans b (aim.All s gtccr) cycle areas k =
    all-plans b gtccr areas (reached ticks b.zero s cycle areas.zero) (reached ticks b.one s cycle areas.one) (reached ticks b.two s cycle areas.two) k

told-plans : (b : Board) (q : Request) → Schedules b → Schedules (tells ticks b q).board
unfolding told
told-plans b q k = aimed-plans b (aim_of q.order b.gtccr) q.cycle q.areas k

fresh-planned : Schedules fresh_board
unfolding run next_of fresh_of running_of divisor_of divisor_at held_of
fresh-planned = (always [], record { sound = λ p w. absurd (not-suc-le-zero w); whole = whole; size = refl })
  where
    no-event : (c : Cycle) (f : ℕ) → next.Never ≡ next.At c f → ⊥
    no-event c f e = let z : ◌≡◌ {A = ℕ} 0 1 = cc in omega arith

    whole : (i : Id) (c : Cycle) (f : ℕ) → nexts_of fresh_board i ≡ next.At c f → In [] (event_of i c)
    whole id.Zero c f e = absurd (no-event c f e)
    whole id.One c f e = absurd (no-event c f e)
    whole id.Two c f e = absurd (no-event c f e)

last-planned : (b : Board) (qs : List Request) → Schedules b → Schedules (last ticks b qs)
unfolding last
last-planned b [] k = k
last-planned b (q ∷ qs) k = last-planned (tells ticks b q).board qs (told-plans b q k)

pub scheduled : Scheduled
scheduled qs = last-planned fresh_board qs fresh-planned

-- ---- alike

aimed-alike : (b : Board) (a : Aim) (cycle : ℕ) (areas : Areas) → Runs b → aimed events b a cycle areas ≡ aimed ticks b a cycle areas
unfolding aimed
aimed-alike b aim.Nowhere cycle areas k = refl
aimed-alike b aim.Shown cycle areas k = refl
aimed-alike b (aim.Own i c) cycle areas k = ap (own_told b i areas) (told-alike (timer_of b i) (record { call = c; cycle = cycle; area = area_of areas i }) (k i))
aimed-alike b (aim.All s gtccr) cycle areas k =
    rw (reached-alike b.zero s cycle areas.zero (k id.Zero), reached-alike b.one s cycle areas.one (k id.One), reached-alike b.two s cycle areas.two (k id.Two))

tells_alike : (b : Board) (q : Request) → Runs b → tells events b q ≡ tells ticks b q
unfolding told
tells_alike b q k = aimed-alike b (aim_of q.order b.gtccr) q.cycle q.areas k

outcomes-alike : (b : Board) (qs : List Request) → Runs b → outcomes events b qs ≡ outcomes ticks b qs
unfolding outcomes
outcomes-alike b [] k = refl
outcomes-alike b (q ∷ qs) k = rw (tells_alike b q k, outcomes-alike (tells ticks b q).board qs (told-runs b q k))

last-alike : (b : Board) (qs : List Request) → Runs b → last events b qs ≡ last ticks b qs
unfolding last
last-alike b [] k = refl
last-alike b (q ∷ qs) k = rw (tells_alike b q k) (last-alike (tells ticks b q).board qs (told-runs b q k))

pub alike : Alike
alike qs = record { outcomes = outcomes-alike fresh_board qs fresh-runs; last = last-alike fresh_board qs fresh-runs }

-- ---- the code is that run

heard-is : {x : Told} {r : Outcome} {after : Areas} → Tells x r after.zero after.one after.two → heard r after ≡ x
heard-is k = rw (k.board, k.number, k.values, k.written, k.zero, k.one, k.two)

history-outcomes : {b : Board} {qs : List Request} {xs : List Told} {u : Board} → History b qs xs u → xs ≡ outcomes ticks b qs
unfolding outcomes
history-outcomes (nothing b) = refl
history-outcomes (called b q r after qs xs u k h) = rw (heard-is {after = after} k, history-outcomes h, k.board)

history-last : {b : Board} {qs : List Request} {xs : List Told} {u : Board} → History b qs xs u → u ≡ last ticks b qs
unfolding last
history-last (nothing b) = refl
history-last (called b q r after qs xs u k h) = history-last h ∙ rw k.board

pub code-is-run : CodeIsRun
code-is-run qs xs u h = let a = alike qs in record { outcomes = history-outcomes h ∙ sym a.outcomes; last = history-last h ∙ sym a.last }

-- ---- untouched

own_alone : (b : Board) (i : Id) (areas : Areas) (x : Timer-as-Told) → Alone b areas i (own_told b i areas x)
unfolding own_told
own_alone b i areas x =
    record {
      timers = λ j e. cond-all (λ (c : Board). timer_of c j ≡ timer_of b j) (eqb x.number 0) (to-others b i x.timer j e) refl;
      others = areas-others areas i x.area;
      gtccr = cond-all (λ (c : Board). c.gtccr ≡ b.gtccr) (eqb x.number 0) (to-gtccr b i x.timer) refl;
    }

pub untouched : Untouched
unfolding told aimed
untouched p b q i c e = rw e (own_alone b i q.areas (answered p (timer_of b i) c q.cycle (area_of q.areas i)))

-- ---- GTCCR

all-gtccr : (b : Board) (g : ℕ) (areas : Areas) (x y z : Timer-as-Told) → (all_told b g areas x y z).number ≡ 0 → (all_told b g areas x y z).board.gtccr ≡ g
unfolding all_told board_all
all-gtccr b g areas x y z =
    let n = lowest x.number (lowest y.number z.number) in
    cond-case (λ (r : Told). r.number ≡ 0 → r.board.gtccr ≡ g) (eqb n 0) (λ e h. refl) (λ e h. absurd (eqb-false n 0 e h))

pub gtccr-reads : GtccrReads
unfolding told aimed aim_of place_at
gtccr-reads p b cycle areas = record { read = refl; peek = refl; write = λ value z. all-gtccr b (stored_of value) areas _ _ _ z }

-- ---- only four reach all three

looked-none : (x : Place) (c : Call) (s : Cast) (g : ℕ) → looked_at x c ≡ aim.All s g → false ≡ true
looked-none place.Gtccr c s g e = cc
looked-none (place.Tifr i) c s g e = cc
looked-none (place.Timsk i) c s g e = cc
looked-none (place.Register i) c s g e = cc
looked-none place.Nowhere c s g e = cc

written-gtccr : (x : Place) (address value gtccr : ℕ) (s : Cast) (g : ℕ) → written_at x address value gtccr ≡ aim.All s g → x ≡ place.Gtccr
written-gtccr place.Gtccr address value gtccr s g e = refl
written-gtccr (place.Tifr i) address value gtccr s g e = cc
written-gtccr (place.Timsk i) address value gtccr s g e = cc
written-gtccr (place.Register i) address value gtccr s g e = cc
written-gtccr place.Nowhere address value gtccr s g e = cc

-- another place is passed over
pass : (c : Bool) (x y : Place) → (x ≡ place.Gtccr → false ≡ true) → cond c x y ≡ place.Gtccr → y ≡ place.Gtccr
pass true x y h e = absurd (true≢false (sym (h e)))
pass false x y h e = e

tifr-not : (i : Id) → place.Tifr i ≡ place.Gtccr → false ≡ true
tifr-not i e = cc

timsk-not : (i : Id) → place.Timsk i ≡ place.Gtccr → false ≡ true
timsk-not i e = cc

register-not : (i : Id) → place.Register i ≡ place.Gtccr → false ≡ true
register-not i e = cc

nowhere-not : place.Nowhere ≡ place.Gtccr → false ≡ true
nowhere-not e = cc

registers-not : (a : ℕ) → register_at a ≡ place.Gtccr → false ≡ true
unfolding register_at
registers-not a e =
    nowhere-not
    (pass (is_of timer2 a) (place.Register id.Two) place.Nowhere (register-not id.Two)
    (pass (is_of timer1 a) (place.Register id.One) (cond (is_of timer2 a) (place.Register id.Two) place.Nowhere) (register-not id.One)
    (pass (is_of timer0 a) (place.Register id.Zero) (cond (is_of timer1 a) (place.Register id.One) (cond (is_of timer2 a) (place.Register id.Two) place.Nowhere)) (register-not id.Zero) e)))

gtccr-at : (a : ℕ) → place_at a ≡ place.Gtccr → eqb a 0x43 ≡ true
unfolding place_at
gtccr-at a e = go (eqb a 0x43) (pass (eqb a 0x37) _ _ (tifr-not id.Two) (pass (eqb a 0x36) _ _ (tifr-not id.One) (pass (eqb a 0x35) _ _ (tifr-not id.Zero) e)))
  where
    go : (c : Bool)
        → cond c place.Gtccr (cond (eqb a 0x6E) (place.Timsk id.Zero) (cond (eqb a 0x6F) (place.Timsk id.One) (cond (eqb a 0x70) (place.Timsk id.Two) (register_at a)))) ≡ place.Gtccr
        → c ≡ true
    go true h = refl
    go false h =
        registers-not a
        (pass (eqb a 0x70) (place.Timsk id.Two) (register_at a) (timsk-not id.Two)
        (pass (eqb a 0x6F) (place.Timsk id.One) (cond (eqb a 0x70) (place.Timsk id.Two) (register_at a)) (timsk-not id.One)
        (pass (eqb a 0x6E) (place.Timsk id.Zero) (cond (eqb a 0x6F) (place.Timsk id.One) (cond (eqb a 0x70) (place.Timsk id.Two) (register_at a))) (timsk-not id.Zero) h)))

pub four : Four
unfolding aim_of reaches_all
four (order.Advance i) gtccr s g e = cc
four (order.Next i) gtccr s g e = cc
four (order.Reset i) gtccr s g e = cc
four (order.Edge i pin level) gtccr s g e = cc
four (order.Route i level) gtccr s g e = cc
four (order.Output i level) gtccr s g e = cc
four (order.Read address) gtccr s g e = looked-none (place_at address) (call.Read address) s g e
four (order.Peek address) gtccr s g e = looked-none (place_at address) (call.Peek address) s g e
four (order.Write address value) gtccr s g e = gtccr-at address (written-gtccr (place_at address) address value gtccr s g e)
four (order.Sleep mode) gtccr s g e = refl
four order.Wake gtccr s g e = refl
four (order.Reduce value) gtccr s g e = refl
four (order.Tifr i) gtccr s g e = cc
four (order.Timsk i) gtccr s g e = cc
four (order.WriteTifr i ones) gtccr s g e = cc
four (order.WriteTimsk i mask) gtccr s g e = cc

-- ---- two advances to one cycle

pub timer-after : (c : Bool) (b : Board) (i : Id) (t : Timer) (k : Id) → timer_of (cond c (board_to b i t) b) k ≡ cond (c && eqb (key_of k).owner (key_of i).owner) t (timer_of b k)
unfolding board_to
timer-after false b i t k = refl
timer-after true b id.Zero t id.Zero = refl
timer-after true b id.Zero t id.One = refl
timer-after true b id.Zero t id.Two = refl
timer-after true b id.One t id.Zero = refl
timer-after true b id.One t id.One = refl
timer-after true b id.One t id.Two = refl
timer-after true b id.Two t id.Zero = refl
timer-after true b id.Two t id.One = refl
timer-after true b id.Two t id.Two = refl

areas-swap : (a : Areas) (i j : Id) (x y : List ℕ) → Apart j i → areas_to (areas_to a i x) j y ≡ areas_to (areas_to a j y) i x
areas-swap a id.Zero id.Zero x y e = absurd (true≢false e)
areas-swap a id.Zero id.One x y e = refl
areas-swap a id.Zero id.Two x y e = refl
areas-swap a id.One id.Zero x y e = refl
areas-swap a id.One id.One x y e = absurd (true≢false e)
areas-swap a id.One id.Two x y e = refl
areas-swap a id.Two id.Zero x y e = refl
areas-swap a id.Two id.One x y e = refl
areas-swap a id.Two id.Two x y e = absurd (true≢false e)

and_right : (a b : Bool) → a && b ≡ true → b ≡ true
and_right true b e = e
and_right false b e = absurd (true≢false (sym e))

cond-swap : {A : Type 0} (c d : Bool) (x y z : A) → (c ≡ true → d ≡ true → ⊥) → cond c x (cond d y z) ≡ cond d y (cond c x z)
cond-swap true true x y z h = absurd (h refl refl)
cond-swap true false x y z h = refl
cond-swap false true x y z h = refl
cond-swap false false x y z h = refl

module _ (p : Passage) (b : Board) (cycle : ℕ) (areas : Areas) where
  -- what a timer's advance tells
  moved : Id → Timer-as-Told
  moved i = answered p (timer_of b i) call.Advance cycle (area_of areas i)

  first-is : (i : Id) → told p b (order.Advance i) cycle areas ≡ own_told b i areas (moved i)
  unfolding told aimed aim_of moved
  first-is i = refl

  advances-are : (i j : Id) → Apart j i → advances p b i j cycle areas ≡ own_told (own_told b i areas (moved i)).board j (own_told b i areas (moved i)).areas (moved j)
  unfolding told aimed aim_of moved
  advances-are i j a =
      let f = own_alone b i areas (answered p (timer_of b i) call.Advance cycle (area_of areas i)) in
      rw (f.timers j a, f.others j a)

  -- the second advance answers as if it were the first
  agrees : (i j : Id) → Apart j i → Agrees (told p b (order.Advance j) cycle areas) (advances p b i j cycle areas)
  unfolding own_told
  agrees i j a = rw (first-is j, advances-are i j a) (record { number = refl; values = refl; written = refl })

  timer-is : (i j k : Id) → Apart j i
      → timer_of (advances p b i j cycle areas).board k
      ≡ cond (eqb (moved j).number 0 && eqb (key_of k).owner (key_of j).owner) (moved j).timer (cond (eqb (moved i).number 0 && eqb (key_of k).owner (key_of i).owner) (moved i).timer (timer_of b k))
  unfolding own_told
  timer-is i j k a =
      ap (λ (x : Told). timer_of x.board k) (advances-are i j a) ∙ timer-after (eqb (moved j).number 0) (cond (eqb (moved i).number 0) (board_to b i (moved i).timer) b) j (moved j).timer k
      ∙ ap (cond (eqb (moved j).number 0 && eqb (key_of k).owner (key_of j).owner) (moved j).timer) (timer-after (eqb (moved i).number 0) b i (moved i).timer k)

  areas-are : (i j : Id) → Apart j i → (advances p b i j cycle areas).areas ≡ areas_to (areas_to areas i (moved i).area) j (moved j).area
  unfolding own_told
  areas-are i j a = ap (λ (x : Told). x.areas) (advances-are i j a)

  gtccr-is : (i j : Id) → Apart j i → (advances p b i j cycle areas).board.gtccr ≡ b.gtccr
  gtccr-is i j a =
      ap (λ (x : Told). x.board.gtccr) (advances-are i j a)
      ∙ (own_alone (own_told b i areas (moved i)).board j (own_told b i areas (moved i)).areas (moved j)).gtccr ∙ (own_alone b i areas (moved i)).gtccr

  -- a timer is not both
  not-both : (i j k : Id) → Apart j i → eqb (moved j).number 0 && eqb (key_of k).owner (key_of j).owner ≡ true → eqb (moved i).number 0 && eqb (key_of k).owner (key_of i).owner ≡ true → ⊥
  not-both i j k a e h =
      eqb-false (key_of j).owner (key_of i).owner a
      (sym (eqb-true (key_of k).owner (key_of j).owner (and_right (eqb (moved j).number 0) _ e)) ∙ eqb-true (key_of k).owner (key_of i).owner (and_right (eqb (moved i).number 0) _ h))

  plans-are : (i j : Id) → Apart j i → Schedules b → Schedules (advances p b i j cycle areas).board
  plans-are i j a k = rw (advances-are i j a) (own-plans _ j _ (moved j) (own-plans b i areas (moved i) k))

  same-timers : (i j : Id) → Apart j i → Apart i j → (k : Id) → timer_of (advances p b i j cycle areas).board k ≡ timer_of (advances p b j i cycle areas).board k
  same-timers i j a c k = timer-is i j k a ∙ cond-swap _ _ _ _ _ (not-both i j k a) ∙ sym (timer-is j i k c)

pub commuting : Commuting
commuting p b i j cycle areas a c =
    let h = agrees p b cycle areas i j a in
    record {
      first = agrees p b cycle areas j i c;
      second = record { number = sym h.number; values = sym h.values; written = sym h.written };
      timers = same-timers p b cycle areas i j a c;
      bytes = areas-are p b cycle areas i j a ∙ areas-swap areas i j _ _ a ∙ sym (areas-are p b cycle areas j i c);
      nexts = λ k. ap next_of (same-timers p b cycle areas i j a c k);
      gtccr = gtccr-is p b cycle areas i j a ∙ sym (gtccr-is p b cycle areas j i c);
      scheduler = λ k. (plans-are p b cycle areas i j a k, plans-are p b cycle areas j i c k);
    }
