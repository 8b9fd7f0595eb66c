-- The sheet's tables hold of the configurations, by computation.
use mathlib.Core.Path.{refl}
use Rattle.m328p.specs.Sheet.{Sheet}

pub sheet : Sheet
sheet = record { zero = refl; one = refl; two = refl; prr = refl; sleeprun = refl }
