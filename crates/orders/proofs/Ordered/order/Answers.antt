use Rattle.orders.proofs.Obeyed.{nobody, further}
use mathlib.Core.Path.{sym}
use native.Mathlib.Omega.{arith}
use Rattle.orders.proofs.Ordered.order.Goals as goal

pub returns-in-0 : goal.returns-in-0
returns-in-0 c = rw (c.to.ensures, c.in-0.is)

pub returns-in-1 : goal.returns-in-1
returns-in-1 c = rw (c.to-in-1.ensures, c.in-1.is)

pub returns-in-2 : goal.returns-in-2
returns-in-2 c = rw (c.to-in-2.ensures, c.in-2.is)

pub returns-in-3-to-255 : goal.returns-in-3-to-255
returns-in-3-to-255 c = sym (nobody c.args.self c.args.self.id (further 2 _ (further 1 _ (further 0 _ (omega arith) c.in-3-to-255.in-3-to-255-own.rest.0.0.1) c.in-3-to-255.in-3-to-255-own.rest.0.1) c.in-3-to-255.in-3-to-255-own.rest.1))
