use mathlib.Core.Bool.{Bool, true, false, not, ◌&&◌, true≢false}
use mathlib.Core.Path.{◌≡◌, refl, sym, ap, ◌∙◌}
use Rattle.counter.specs.Capture.{captures}
use Rattle.timer.specs.Calls.{is_pin, edge_captures}
use Rattle.serving.proofs.asks.edge_captures.Goals as goal

-- a third test is asked where the first two hold
asked : (a b c : Bool) → a && b ≡ true → c ≡ a && b && c
asked true true c e = refl
asked true false c e = absurd (true≢false (sym e))
asked false b c e = absurd (true≢false (sym e))

unasked : (a b c : Bool) → a && b ≡ false → false ≡ a && b && c
unasked true true c e = absurd (true≢false e)
unasked true false c e = refl
unasked false b c e = refl

pub returns-then-is_pin-halts : goal.returns-then-is_pin-halts
unfolding edge_captures
returns-then-is_pin-halts c = let x = c.args in
    c.captures-2.ensures ∙ asked (is_pin x.t.config.icr.wire x.pin) (not x.t.halts.routed) (captures x.t x.level) (ap (λ (b : Bool). b && not x.t.halts.routed) (sym c.is_pin.ensures) ∙ c.if-is_pin-halts.true)

pub returns-else-is_pin-halts : goal.returns-else-is_pin-halts
unfolding edge_captures
returns-else-is_pin-halts c = let x = c.args in
    unasked (is_pin x.t.config.icr.wire x.pin) (not x.t.halts.routed) (captures x.t x.level) (ap (λ (b : Bool). b && not x.t.halts.routed) (sym c.is_pin.ensures) ∙ c.if-is_pin-halts.false)
