-- What a call of a log answers, in numbers (02, 2.12).
use Rattle.std.specs.Prelude.{List, ℕ, Result}
use Rattle.std.specs.Result.{result_unwrap_or}
use Rattle.record_ring.specs.declared.Ring.{Ring}
use Rattle.record_ring.specs.declared.Refusal.{Refusal}
use Rattle.record_ring.specs.Log.{answer_number}
use Rattle.doorlog.specs.declared.rings.Answer.{Answer}

-- 0 and the log after a call, or its refusal's number and the log as it was
abbrev pub answer_of : Ring → Result Ring Refusal → Answer
answer_of before after = record { number = answer_number after; ring = result_unwrap_or after before }

-- the same beside the area after the call
abbrev pub answered : Ring → Result Ring Refusal × List ℕ → Answer × List ℕ
answered before x = (answer_of before x.0, x.1)
