-- How long a timer's answers may be.
use Rattle.tick.specs.Distance.{distance_of}
use Rattle.counter.specs.Setting.{setting_of, moving_of}
use Rattle.display.specs.Claims.{ShortAnswer, ShortState, ShortDistance}
use Rattle.display.proofs.Lengths.{answer-short, state-short, distance-short}

pub short-answer : ShortAnswer
short-answer = answer-short

pub short-state : ShortState
short-state = state-short

pub short-distance : ShortDistance
short-distance t = distance-short (distance_of (setting_of t) (moving_of t))
