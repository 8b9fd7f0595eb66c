-- A history of orders through the export is the run of its orders.
use mathlib.Core.Path.{◌≡◌, refl, sym, ap, ◌∙◌}
use mathlib.Core.List.{List}
use Rattle.passage.specs.Passage.{ticks}
use Rattle.aims.specs.declared.Order.{Order}
use Rattle.board.specs.declared.state.Board.{Board}
use Rattle.board.specs.Calls.{Areas, Told}
use Rattle.board_claims.specs.Claims.{Request, tells, outcomes, last}
use Rattle.board_claims.proofs.Claims.{alike}
use Rattle.orders.specs.declared.Ordered.{Ordered}
use Rattle.orders.specs.declared.Replied.{Replied}
use Rattle.orders.specs.declared.Meant.TheVariants as meant
use Rattle.orders.specs.Orders.{order_of, told_to, Obeys}
use Rattle.shell.specs.Runs.{replied, asking, History, nothing, ordered, unnamed, ExportIsRun}
use Rattle.counter.specs.declared.next.Next.TheVariants as next
use Rattle.answers.specs.Answers.{Values, refused, none, byte, event, reached, paused}
use Rattle.held.specs.Reply.{what_of, value_of}
use Rattle.orders.specs.Orders.{flags_of}
use Rattle.shell.specs.Histories.{values_in}

-- a reply's numbers say the values that they were made from
values-back : (v : Values) → values_in (what_of v) (flags_of v) (value_of v) ≡ v
unfolding values_in
values-back refused = refl
values-back none = refl
values-back (byte v) = refl
values-back (event (next.At c f)) = refl
values-back (event next.Never) = refl
values-back (reached f) = refl
values-back (paused c f) = refl

replied-is : {x : Told} {c : Board} {r : Replied} {after : Areas} → Obeys x c r after.zero after.one after.two → replied c r after ≡ x
replied-is {x} k = rw (k.board, k.reply, k.zero, k.one, k.two, values-back x.values) refl

-- an exported order is the order that its numbers name; where they name none the board stays
named : (b : Board) (a : Ordered) (o : Order) (areas : Areas) {c : Board} {r : Replied} {after : Areas} → order_of a ≡ meant.Known o → Obeys (told_to b (order_of a) a.cycle areas) c r after.zero after.one after.two
    → Obeys (tells ticks b (asking a o areas)) c r after.zero after.one after.two
named b a o areas e k = rw e at k

stays : (b : Board) (a : Ordered) (areas : Areas) {c : Board} {r : Replied} {after : Areas} → order_of a ≡ meant.Unknown → Obeys (told_to b (order_of a) a.cycle areas) c r after.zero after.one after.two → c ≡ b
stays b a areas e k = rw e at k.board

history-outcomes : {b : Board} {qs : List Request} {xs : List Told} {u : Board} → History b qs xs u → xs ≡ outcomes ticks b qs
unfolding outcomes
history-outcomes (nothing b) = refl
history-outcomes (ordered b a o areas c r after qs xs u e k h) = let n = named b a o areas {after = after} e k in rw (replied-is {after = after} n, history-outcomes h, n.board) refl
history-outcomes (unnamed b a areas c r after qs xs u e k h) = history-outcomes h ∙ ap (λ (z : Board). outcomes ticks z qs) (stays b a areas {after = after} e k)

history-last : {b : Board} {qs : List Request} {xs : List Told} {u : Board} → History b qs xs u → u ≡ last ticks b qs
unfolding last
history-last (nothing b) = refl
history-last (ordered b a o areas c r after qs xs u e k h) = history-last h ∙ rw (named b a o areas {after = after} e k).board refl
history-last (unnamed b a areas c r after qs xs u e k h) = history-last h ∙ ap (λ (z : Board). last ticks z qs) (stays b a areas {after = after} e k)

pub export-is-run : ExportIsRun
export-is-run qs xs u h = let a = alike qs in record { outcomes = history-outcomes h ∙ sym a.outcomes; last = history-last h ∙ sym a.last }
