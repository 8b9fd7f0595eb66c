-- What a call is tested for, and whether time passes before its work, as the code has it (timer's `asks`).
use Rattle.timer.specs.Calls.{Asks as Asking}
use Rattle.serving.specs.declared.asks.Asks.{Asks}

abbrev pub asks_in : Asking → Asks
asks_in a = record { absent = a.absent; wrong = a.wrong; tested = a.tested; halted = a.halted; syncs = a.syncs }
