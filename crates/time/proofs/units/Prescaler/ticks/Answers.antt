use native.Mathlib.Nat.{div-one}
use mathlib.Core.Path.{refl}
use borrow.Author.Rules.{rules}
use Rattle.time.specs.Units.{ticks_at}
use Rattle.time.proofs.units.Prescaler.ticks.Goals as goal

pub returns-in-1 : goal.returns-in-1
unfolding ticks_at
returns-in-1 c = simp (c.in-1.is, div-one)

pub returns-in-8 : goal.returns-in-8
unfolding ticks_at
returns-in-8 c = simp c.in-8.is

pub returns-in-32 : goal.returns-in-32
unfolding ticks_at
returns-in-32 c = simp c.in-32.is

pub returns-in-64 : goal.returns-in-64
unfolding ticks_at
returns-in-64 c = simp c.in-64.is

pub returns-in-128 : goal.returns-in-128
unfolding ticks_at
returns-in-128 c = simp c.in-128.is

pub returns-in-256 : goal.returns-in-256
unfolding ticks_at
returns-in-256 c = simp c.in-256.is

pub returns-in-1024 : goal.returns-in-1024
unfolding ticks_at
returns-in-1024 c = simp c.in-1024.is

pub returns-in_default : goal.returns-in_default
unfolding ticks_at
returns-in_default c = refl
