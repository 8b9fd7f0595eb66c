-- What was read of the piece fed the script on, with what the file answered.
use native.Mathlib.Omega.{arith}
use mathlib.Core.Path.{sym, ap}
use Rattle.bench_lines.specs.Steps.{State}
use Rattle.session.proofs.Carrying.{carries-none, carries-reads, carries-asks, carries-all}
use Rattle.bench.proofs.piece.Goals as goal

pub loop-next-init : goal.loop-next-init
loop-next-init g c = (c.requires.0, c.requires.1, omega arith, λ answers bytes h. carries-none _ _ _ _ _ _ answers bytes c.args.input.now 0 h, λ h. h, λ h. absurd (omega (arith, h)))

pub loop-next-preserved-in-Some : goal.loop-next-preserved-in-Some
loop-next-preserved-in-Some g c =
    let a = c.args in
    let l = c.loop-next in
    let w = c.next_lines-went in
    let f = c.settled-desk in (
      f.ensures.0,
      f.ensures.1,
      w.ensures.2,
      λ answers bytes h.
          let x = l.invariant.3 answers bytes h in
          let went = w.ensures.0 x.answers x.rest x.held in
          let y = rw c.in-Some.is at went in
          let z = f.ensures.2 y.was y.text y.page _ _ _ (rw c.in-Some.asked-is (sym (ap (λ (s : State). s.bench) y.before.state))) (rw c.in-Some.asked-is (sym (ap (λ (s : State). s.shelf) y.before.state))) (rw c.in-Some.asked-is y.from) y.roomy y.after in
          carries-asks _ bytes a.input.now 0 l.next w.result.next _ _ _ _ _ _ x (omega arith) w.ensures.1 _ _ _ _ _ _ _ _ y _ _ _ z,
      λ h. w.ensures.7 (l.invariant.4 h),
      λ h. w.ensures.8 (w.ensures.3 c.turned.ensures),
    )

pub loop-next-preserved : goal.loop-next-preserved
loop-next-preserved g c =
    let a = c.args in
    let l = c.loop-next in
    let w = c.next_lines-went in (
      w.ensures.4,
      w.ensures.5,
      w.ensures.2,
      λ answers bytes h.
          let x = l.invariant.3 answers bytes h in
          let went = w.ensures.0 x.answers x.rest x.held in
          carries-reads _ bytes a.input.now 0 l.next w.result.next _ _ _ _ _ _ x (omega arith) w.ensures.1 _ _ _ _ _ _ _ (rw c.in_default.is at went),
      λ h. w.ensures.7 (l.invariant.4 h),
      λ h. w.ensures.8 (w.ensures.3 c.turned.ensures),
    )

pub returns : goal.returns
returns g c =
    let a = c.args in
    let l = c.loop-next in
    (l.invariant.0, l.invariant.1, λ answers bytes h. carries-all _ bytes a.input.now l.next _ _ _ _ _ _ (l.invariant.3 answers bytes h) c.loop-next-test.false, l.invariant.4, λ h. l.invariant.5 (omega (arith, h, c.loop-next-test.false)))
