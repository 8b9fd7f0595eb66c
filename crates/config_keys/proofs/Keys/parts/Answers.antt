-- `config_keys::Keys::parts` meets its contract. The loop's invariant: the parts that are left make of the keys what all made of the first.
use Rattle.std.proofs.Common.{sym, ◌∙◌, rules}
use Rattle.config_keys.proofs.Reading.{parts_stopped}
use Rattle.config_keys.proofs.Keys.parts.Goals as goal

pub returns-in_err-read : goal.returns-in_err-read
returns-in_err-read c =
    let loop = c.loop-key in
    let e = parts_stopped loop.self c.args.word.now loop.key loop.at c.find-end.result c.loop-key-test.true c.find-end.ensures.2 c.in_err-read.field-0.0 (sym c.read.ensures ∙ c.in_err-read.was) in
    rw (← loop.invariant.1, e) (search rules)
