-- What `start` promises, of what its callees do.
use Prim.Native.Nat.{ℕ}
use mathlib.Core.Path.{◌≡◌, sym}
use Rattle.counter.specs.declared.fresh.Started.{Started}
use Rattle.held.specs.declared.state.Held.{Held}
use Rattle.held.specs.Held.{Kept}
use Rattle.replies.specs.Starts.{Begins}

pub begins : (s x : Started) (h : Held) {n : ℕ} → s ≡ x → n ≡ s.number → (h.timer ≡ s.timer) × (Kept h) → Begins x (record { number = n; timer = h })
begins s x h e en k = rw (sym e) (record { number = en; timer = k.0; kept = k.1 })
