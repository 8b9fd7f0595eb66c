-- Each timer of the board is one that its own calls make, and what holds of those holds of it.
use Prim.Native.Nat.{ℕ}
use native.Mathlib.Omega.{arith}
use mathlib.Core.Path.{◌≡◌, refl, sym, ap, ◌∙◌}
use mathlib.Core.Bool.{Bool, true, false, cond, ◌&&◌}
use mathlib.Core.List.{List, [], ◌∷◌, ◌++◌}
use lib.Dec.{eqb}
use borrow.Author.Tests.{eqb-true, eqb-false}
use Rattle.counter.specs.declared.state.Timer.{Timer}
use Rattle.counter.specs.Valid.{Valid as Running}
use Rattle.passage.specs.Passage.{Passage, ticks}
use Rattle.answers.specs.Answers.{Told as Timer-as-Told}
use Rattle.tick.proofs.Choices.{cond-case}
use Rattle.timer.specs.declared.calls.Call.{Call}
use Rattle.timer.specs.declared.calls.Call.TheVariants as call
use Rattle.timer.specs.Calls.{asks, works, answered}
use Rattle.timer.specs.Claims.{Request as Timer-as-Request, told as Timer·told, last as Timer·last, HeldOf, QuietOf}
use Rattle.timer.proofs.Held.{held}
use Rattle.timer.proofs.Quiet.{quiet}
use Rattle.outlook.specs.Announced.{AnnouncedOf}
use Rattle.outlook.proofs.Announced.{announced}
use Rattle.m328p.specs.declared.Id.{Id}
use Rattle.m328p.specs.declared.Id.TheVariants as id
use Rattle.m328p.specs.Timers.{timer0, timer1, timer2}
use Rattle.m328p.proofs.Claims.{all-accepted}
use Rattle.plans.specs.Plans.{key_of}
use Rattle.plans.proofs.Exact.{one-id}
use Rattle.aims.specs.declared.Cast.{Cast}
use Rattle.aims.specs.declared.Cast.TheVariants as cast
use Rattle.aims.specs.declared.Aim.{Aim}
use Rattle.aims.specs.declared.Aim.TheVariants as aim
use Rattle.aims.specs.Aims.{aim_of}
use Rattle.casts.specs.Casts.{prescaled, reached, lowest}
use Rattle.casts.proofs.Silent.{answered-silent}
use Rattle.board.specs.declared.state.Board.{Board}
use Rattle.board.specs.State.{Valid, timer_of, board_all, fresh_board}
use Rattle.board.specs.Calls.{Areas, area_of, Told, own_told, all_told, aimed, told}
use Rattle.board_claims.specs.Claims.{Request, tells, last, calls_of, calls_to, asking, own_of, own, OwnCalls, Carries, SkippingRule}
use Rattle.board_claims.proofs.Claims.{Runs, told-runs, fresh-runs, timer-after}

-- the calls of two lists, one after the other
last-append : (p : Passage) (t : Timer) (qs rs : List Timer-as-Request) → Timer·last p t (qs ++ rs) ≡ Timer·last p (Timer·last p t qs) rs
unfolding Timer·last
last-append p t [] rs = refl
last-append p t (q ∷ qs) rs = last-append p (Timer·told p t q).timer qs rs

-- ---- a call of its own

-- of the timer of an id, where it is accepted and that timer's
one-own : (b : Board) (i j : Id) (c : Call) (cycle : ℕ) (areas : Areas) (e s : Bool) → (s ≡ true → i ≡ j)
    → cond (e && s) (answered ticks (timer_of b j) c cycle (area_of areas j)).timer (timer_of b i)
    ≡ Timer·last ticks (timer_of b i) (cond e (asking cycle (area_of areas i) (cond s (c ∷ []) [])) [])
unfolding Timer·last asking
one-own b i j c cycle areas true true h = rw (h refl)
one-own b i j c cycle areas true false h = refl
one-own b i j c cycle areas false s h = refl

-- ---- what reaches all three

-- where it is accepted, by the timer's own calls
reached-own : (t : Timer) (s : Cast) (cycle : ℕ) (area : List ℕ) → Running t → (reached ticks t s cycle area).number ≡ 0 → (reached ticks t s cycle area).timer ≡ Timer·last ticks t (asking cycle area (calls_of s))
unfolding reached prescaled Timer·last asking asks works
reached-own t (cast.Sleep mode) cycle area v = λ z. refl
reached-own t cast.Wake cycle area v = λ z. refl
reached-own t (cast.Reduce value) cycle area v = λ z. refl
reached-own t (cast.Prescale mask) cycle area v = λ z. refl
reached-own t (cast.Synchronise level mask) cycle area v =
    let x = answered ticks t (call.Tsm level) cycle area in
    let y = answered ticks x.timer (call.Prescale mask) cycle x.area in
    let same : y.timer ≡ (answered ticks x.timer (call.Prescale mask) cycle area).timer = ap (λ (a : List ℕ). (answered ticks x.timer (call.Prescale mask) cycle a).timer) (answered-silent t (call.Tsm level) cycle area v refl refl (λ u. refl)).area in
    let made = (answered ticks x.timer (call.Prescale mask) cycle area).timer in
    cond-case (λ (r : Timer-as-Told). r.number ≡ 0 → r.timer ≡ made) (eqb x.number 0)
    (λ e. cond-case (λ (r : Timer-as-Told). r.number ≡ 0 → r.timer ≡ made) (eqb y.number 0) (λ f z. same) (λ f z. absurd (eqb-false y.number 0 f z)))
    (λ e z. absurd (eqb-false x.number 0 e z))

-- no number of the two is told
lowest-none : (a b : ℕ) → lowest a b ≡ 0 → (a ≡ 0) × (b ≡ 0)
unfolding lowest
lowest-none a b =
    cond-case (λ (n : ℕ). n ≡ 0 → (a ≡ 0) × (b ≡ 0)) (eqb a 0) (λ e z. (eqb-true a 0 e, z))
    (λ e. cond-case (λ (n : ℕ). n ≡ 0 → (a ≡ 0) × (b ≡ 0)) (eqb b 0) (λ f z. absurd (eqb-false a 0 e z)) (λ f z. let g = eqb-false a 0 e in let h = eqb-false b 0 f in absurd (omega arith)))

module _ (b : Board) (s : Cast) (gtccr cycle : ℕ) (areas : Areas) (k : Runs b) where
  answer : Id → Timer-as-Told
  answer i = reached ticks (timer_of b i) s cycle (area_of areas i)

  number : ℕ
  number = lowest (answer id.Zero).number (lowest (answer id.One).number (answer id.Two).number)

  -- all three accept
  taken_own : number ≡ 0 → (i : Id) → timer_of (board_all b (answer id.Zero).timer (answer id.One).timer (answer id.Two).timer gtccr) i ≡ Timer·last ticks (timer_of b i) (asking cycle (area_of areas i) (calls_of s))
  unfolding board_all answer number
  taken_own z id.Zero = reached-own b.zero s cycle areas.zero (k id.Zero) (lowest-none _ _ z).0
  taken_own z id.One = reached-own b.one s cycle areas.one (k id.One) (lowest-none _ _ (lowest-none _ _ z).1).0
  taken_own z id.Two = reached-own b.two s cycle areas.two (k id.Two) (lowest-none _ _ (lowest-none _ _ z).1).1

  all_own : (i : Id) → let r = all_told b gtccr areas (answer id.Zero) (answer id.One) (answer id.Two) in
      timer_of r.board i ≡ Timer·last ticks (timer_of b i) (cond (eqb r.number 0) (asking cycle (area_of areas i) (calls_of s)) [])
  unfolding all_told number Timer·last
  all_own i =
      cond-case (λ (r : Told). timer_of r.board i ≡ Timer·last ticks (timer_of b i) (cond (eqb r.number 0) (asking cycle (area_of areas i) (calls_of s)) [])) (eqb number 0)
      (λ e. taken_own (eqb-true number 0 e) i) (λ e. rw e refl)

-- ---- an order, and a list of them

aimed-own : (b : Board) (a : Aim) (i : Id) (cycle : ℕ) (areas : Areas) → Runs b
    → timer_of (aimed ticks b a cycle areas).board i ≡ Timer·last ticks (timer_of b i) (cond (eqb (aimed ticks b a cycle areas).number 0) (asking cycle (area_of areas i) (calls_to a i)) [])
unfolding aimed own_told calls_to Timer·last asking answer
aimed-own b aim.Nowhere i cycle areas k = refl
aimed-own b aim.Shown i cycle areas k = refl
aimed-own b (aim.Own j c) i cycle areas k =
    let x = answered ticks (timer_of b j) c cycle (area_of areas j) in
    timer-after (eqb x.number 0) b j x.timer i ∙ one-own b i j c cycle areas (eqb x.number 0) (eqb (key_of i).owner (key_of j).owner) (one-id i j)
aimed-own b (aim.All s gtccr) i cycle areas k = all_own b s gtccr cycle areas k i

order-own : (b : Board) (q : Request) (i : Id) → Runs b → timer_of (tells ticks b q).board i ≡ Timer·last ticks (timer_of b i) (own_of b q i)
unfolding told
order-own b q i k = aimed-own b (aim_of q.order b.gtccr) i q.cycle q.areas k

runs_own : (b : Board) (qs : List Request) (i : Id) → Runs b → timer_of (last ticks b qs) i ≡ Timer·last ticks (timer_of b i) (own b qs i)
unfolding last own Timer·last
runs_own b [] i k = refl
runs_own b (q ∷ qs) i k =
    runs_own (tells ticks b q).board qs i (told-runs b q k) ∙ ap (λ (t : Timer). Timer·last ticks t (own (tells ticks b q).board qs i)) (order-own b q i k)
    ∙ sym (last-append ticks (timer_of b i) (own_of b q i) (own (tells ticks b q).board qs i))

valid-runs : {b : Board} → Valid b → Runs b
valid-runs v id.Zero = v.zero
valid-runs v id.One = v.one
valid-runs v id.Two = v.two

pub own-calls : OwnCalls
own-calls b qs i v = runs_own b qs i (valid-runs v)

-- ---- so a claim carries over

pub carries : Carries
carries P h qs id.Zero = rw (runs_own fresh_board qs id.Zero fresh-runs) (h timer0 (all-accepted id.Zero) (own fresh_board qs id.Zero))
carries P h qs id.One = rw (runs_own fresh_board qs id.One fresh-runs) (h timer1 (all-accepted id.One) (own fresh_board qs id.One))
carries P h qs id.Two = rw (runs_own fresh_board qs id.Two fresh-runs) (h timer2 (all-accepted id.Two) (own fresh_board qs id.Two))

pub skipping-rule : SkippingRule
skipping-rule = record { held = carries HeldOf held; quiet = carries QuietOf quiet; announced = carries AnnouncedOf announced }
