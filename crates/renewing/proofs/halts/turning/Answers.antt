use mathlib.Core.Bool.{not}
use mathlib.Core.Path.{◌≡◌, subst}
use lib.Dec.{eqb}
use Rattle.counter.specs.declared.state.Timer.{Timer}
use Rattle.held.specs.Held.{Foresees}
use Rattle.renewing.proofs.Turns.{left, passing-asks, waking-asks, passed-keeps, turned-valid, scene-stands, top-stands, down-stands, turned-serves}
use Rattle.renewing.proofs.halts.turning.Goals as goal

pub passed-s-requires : goal.passed-s-requires
passed-s-requires c = let x = c.args in let p = c.requires in passing-asks x.h x.asked p.0 p.1 p.2 p.3

pub made-requires : goal.made-requires
made-requires c = let x = c.args in let p = c.requires in rw c.passed-s.ensures (waking-asks x.h x.asked p.0 p.1 p.2 p.3)

pub foreseen-e-requires : goal.foreseen-e-requires
foreseen-e-requires c =
    let x = c.args in
    let p = c.requires in
    let k = passed-keeps x.h x.asked p.0 p.1 p.2 p.3 in
    let b = not (eqb x.asked.kind 13) in
    let left_is : c.accepted-u.result ≡ left x.h x.asked (not (eqb x.asked.kind 13)) = rw (c.accepted-u.ensures, c.made.ensures, c.passed-s.ensures) in
    rw left_is (turned-valid x.h x.asked p.0 p.1 p.2 p.3, scene-stands x.h x.asked b k, top-stands x.h x.asked b k, down-stands x.h x.asked b k)

pub returns : goal.returns
returns c =
    let x = c.args in
    let p = c.requires in
    let left_is : c.accepted-u.result ≡ left x.h x.asked (not (eqb x.asked.kind 13)) = rw (c.accepted-u.ensures, c.made.ensures, c.passed-s.ensures) in
    rw left_is (turned-serves x.h x.asked p.0 p.1 p.2 p.3 (subst (λ (u : Timer). Foresees u c.foreseen-e.result) left_is c.foreseen-e.ensures) c.new.ensures)
