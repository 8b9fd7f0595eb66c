use Rattle.std.proofs.Common.{◌≡◌, ◌≤◌, length, take, true, false, sym, ap, subst, ◌∙◌, Option, IfSome}
use Rattle.linewise.specs.declared.Reached.{Reached}
use Rattle.bench_lines.specs.declared.named.Later.{Later}
use Rattle.bench_lines.specs.Named.{Asking, Hears, lent}
use Rattle.bench_lines.specs.Steps.{so_far}
use Rattle.bench_lines.proofs.Feeding.{held_more, held_on}
use Rattle.bench_lines.proofs.Hearing.{hears_none}
use Rattle.bench_lines.proofs.Stepping.{first_within, first_short, first_held, first_asked, turn_feeds}
use Rattle.bench_lines.proofs.turns.next_turn.Goals as goal

pub returns : goal.returns
returns c =
    let a = c.args in
    let r = c.next_cut-reached.result in
    let cuts = c.next_cut-reached.ensures.2 in
    let e : r.ended ≡ false = c.if-reached.false in (
      c.requires.0,
      tt,
      c.next_cut-reached.ensures.0,
      c.next_cut-reached.ensures.1,
      λ bytes h.
          let more = held_more _ _ bytes _ h cuts.held in
          record {
            cut = (ap (λ (x : Reached). x.at) cuts.cut, sym e ∙ ap (λ (x : Reached). x.ended) cuts.cut);
            feeds = λ s. turn_feeds s bytes a.input.now a.start r false c.requires.1 cuts.cut e;
            hears = hears_none a.b a.page.now a.room.now a.area.now a.items.now c.requires.0;
            held = more;
            kept = held_on c.next_cut-reached.new.self (so_far bytes a.input.now a.start) false (c.next_cut-reached.ensures.3 ∙ e) more;
            asked = tt;
          },
      c.next_cut-reached.ensures.3 ∙ e,
      tt,
    )

pub returns-then-reached : goal.returns-then-reached
returns-then-reached c =
    let a = c.args in
    let r = c.next_cut-reached.result in
    let cuts = c.next_cut-reached.ensures.2 in
    let text = c.next_cut-reached.new.self in
    let line = text.bytes in
    let l = lent a.room.now a.area.now a.items.now in
    let hears = c.step-heard.ensures in
    let e : r.ended ≡ true = c.if-reached.true in (
      hears.leaves.says.sound,
      subst (λ (o : Option Later). IfSome o (λ q. q.end ≤ length line)) (sym hears.later) (first_within a.b line l),
      c.next_cut-reached.ensures.0,
      c.next_cut-reached.ensures.1,
      λ bytes h.
          let ln = so_far bytes a.input.now a.start in
          let more = held_more _ line bytes _ h cuts.held in
          record {
            cut = (ap (λ (x : Reached). x.at) cuts.cut, sym e ∙ ap (λ (x : Reached). x.ended) cuts.cut);
            feeds = λ s. turn_feeds s bytes a.input.now a.start r true c.requires.1 cuts.cut e;
            hears = subst (λ (x : Asking). Hears x a.page.now c.step-heard.new.page c.step-heard.new.room c.step-heard.new.area c.step-heard.new.items c.step-heard.result) (first_held line ln more a.b l) hears;
            held = more;
            kept = held_on text ln true (c.next_cut-reached.ensures.3 ∙ e) more;
            asked = subst (λ (o : Option Later). IfSome o (λ q. take q.end line ≡ take q.end ln)) (sym hears.later) (first_asked line ln more a.b l);
          },
      c.next_cut-reached.ensures.3 ∙ e,
      subst (λ (o : Option Later). IfSome o (λ q. q.end ≤ 500)) (sym hears.later) (first_short a.b line l),
    )
