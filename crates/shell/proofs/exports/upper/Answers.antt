-- `shell::exports::upper` meets its contract: a way below 32 takes the byte, and a write that is refused is not left.
use Rattle.std.proofs.Common.{◌≡◌, ℕ, ◌-◌, ◌≤◌, ◌<◌, sym, subst}
use Rattle.config.specs.Config.{place_of}
use Rattle.held.specs.Write.{way_of}
use Rattle.held.specs.declared.state.Held.{Held}
use Rattle.held.proofs.Stores.{takes}
use Rattle.rewriting.specs.Writing.{Takes}
use Rattle.shell.proofs.Lefts.{write-left}
use Rattle.shell.proofs.exports.upper.Goals as goal

-- a way from 16 on and below 32 is 16 more than the place of a register that takes the byte
ways : (h : Held) (cycle address way : ℕ) → way ≡ way_of h address cycle → 16 ≤ way → way < 32 → (place_of h.timer.config address ≡ way - 16) × Takes h (way - 16) cycle
ways h cycle address way e n z =
    let t = takes h address cycle (subst (λ (m : ℕ). 16 ≤ m) e n) (subst (λ (m : ℕ). m < 32) e z) in
    subst (λ (m : ℕ). (place_of h.timer.config address ≡ m - 16) × Takes h (m - 16) cycle) (sym e) (t.0, record { address = address; placed = t.0; there = t.1; low = t.2; quiet = t.3 })

pub rewrite-requires : goal.rewrite-requires
rewrite-requires c = (c.requires.0, (ways c.args.t.now c.args.cycle c.args.address c.args.way c.requires.1 c.requires.2 c.if-way-lt32.true).1)

pub returns-then-way-lt32 : goal.returns-then-way-lt32
returns-then-way-lt32 c = c.rewrite.ensures c.args.address (ways c.args.t.now c.args.cycle c.args.address c.args.way c.requires.1 c.requires.2 c.if-way-lt32.true).0

pub glance-requires : goal.glance-requires
glance-requires c = (c.requires.0, λ l. absurd (write-left c.args.t.now c.args.address c.args.value c.args.cycle (subst (λ (m : ℕ). 32 ≤ m) c.requires.1 c.if-way-lt32.false) l))
