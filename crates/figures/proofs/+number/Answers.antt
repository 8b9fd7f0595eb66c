use Rattle.std.proofs.Common.{arith, ◌+◌, ◌/◌, ◌%◌, [], ◌∷◌, length, refl, ap, ◌∙◌, length-append}
use Rattle.figures.specs.Figures.{decimal}
use Rattle.figures.proofs.Writing.{decimal-one, decimal-more, wrote_then}
use Rattle.figures.proofs.+number.Goals as goal

pub bounds-out-at : goal.bounds-out-at
bounds-out-at t c =
    let e = ap length (decimal-one c.args.n c.if-n-lt10.true) in
    omega arith

pub returns-then-n-lt10 : goal.returns-then-n-lt10
returns-then-n-lt10 t c = rw (decimal-one c.args.n c.if-n-lt10.true) (record { place = omega arith; area = refl })

pub number-next-requires : goal.number-next-requires
number-next-requires t c =
    let e = ap length (decimal-more c.args.n c.if-n-lt10.false) ∙ length-append (decimal (c.args.n / 10)) ((48 + c.args.n % 10) ∷ []) in
    (omega arith, omega arith)

pub bounds-out-next : goal.bounds-out-next
bounds-out-next t c =
    let e = ap length (decimal-more c.args.n c.if-n-lt10.false) ∙ length-append (decimal (c.args.n / 10)) ((48 + c.args.n % 10) ∷ []) in
    omega arith

pub overflow_add-result-2 : goal.overflow_add-result-2
overflow_add-result-2 t c =
    let e = ap length (decimal-more c.args.n c.if-n-lt10.false) ∙ length-append (decimal (c.args.n / 10)) ((48 + c.args.n % 10) ∷ []) in
    omega arith

pub returns : goal.returns
returns t c =
    rw (decimal-more c.args.n c.if-n-lt10.false)
    (wrote_then c.number-next.ensures (record { place = omega arith; area = refl }))
