use Rattle.std.proofs.Common.{sym, ◌∙◌, arith}
use Rattle.scene.specs.Scene.{on}
use Rattle.scene.proofs.Driven.{Hit, hit-raised, hit-left, hit-long, hits-wrote, driven-bottom, driven-else}
use Rattle.scene.proofs.state.Scene.driven.Goals as goal
use Rattle.scene.proofs.state.Scene.driven.Goals.{then-on, else-on, then-on-2, else-on-2, then-on-3, else-on-3}

-- the matches, one after the other
pub matched-o-requires : goal.matched-o-requires
matched-o-requires c = (omega arith, omega (arith, c.requires))

pub matched-o-requires-then-on-2 : goal.matched-o-requires-then-on-2
matched-o-requires-then-on-2 c =
    let hit1 : Hit c.args.self.kind c.args.self.a 0 (on c.args.up c.args.self.fa) c.args.cycle.0 c.args.start c.args.area.now c.if-on.o c.if-on.area =
    elim c.if-on.branch [
      | then-on w ↦ hit-raised (sym c.on.ensures ∙ w.if-on.true) w.matched-o.ensures w.area-is w.o-is
      | else-on w ↦ hit-left (sym c.on.ensures ∙ w.if-on.false) w.area-is w.o-is
    ] in
    (omega arith, omega (arith, c.requires, hit1.most, hit-long hit1))

pub matched-o-requires-then-on-3 : goal.matched-o-requires-then-on-3
matched-o-requires-then-on-3 c =
    let hit1 : Hit c.args.self.kind c.args.self.a 0 (on c.args.up c.args.self.fa) c.args.cycle.0 c.args.start c.args.area.now c.if-on.o c.if-on.area =
    elim c.if-on.branch [
      | then-on w ↦ hit-raised (sym c.on.ensures ∙ w.if-on.true) w.matched-o.ensures w.area-is w.o-is
      | else-on w ↦ hit-left (sym c.on.ensures ∙ w.if-on.false) w.area-is w.o-is
    ] in
    let hit2 : Hit c.args.self.kind c.args.self.b 1 (on c.args.up c.args.self.fb) c.args.cycle.0 c.if-on.o c.if-on.area c.if-on-2.o c.if-on-2.area =
    elim c.if-on-2.branch [
      | then-on-2 w ↦ hit-raised (sym c.on-2.ensures ∙ w.if-on-2.true) w.matched-o-then-on-2.ensures w.area-is w.o-is
      | else-on-2 w ↦ hit-left (sym c.on-2.ensures ∙ w.if-on-2.false) w.area-is w.o-is
    ] in
    (omega arith, omega (arith, c.requires, hit1.most, hit-long hit1, hit2.most, hit-long hit2))

pub bottoms-o-requires : goal.bottoms-o-requires
bottoms-o-requires c =
    let hit1 : Hit c.args.self.kind c.args.self.a 0 (on c.args.up c.args.self.fa) c.args.cycle.0 c.args.start c.args.area.now c.if-on.o c.if-on.area =
    elim c.if-on.branch [
      | then-on w ↦ hit-raised (sym c.on.ensures ∙ w.if-on.true) w.matched-o.ensures w.area-is w.o-is
      | else-on w ↦ hit-left (sym c.on.ensures ∙ w.if-on.false) w.area-is w.o-is
    ] in
    let hit2 : Hit c.args.self.kind c.args.self.b 1 (on c.args.up c.args.self.fb) c.args.cycle.0 c.if-on.o c.if-on.area c.if-on-2.o c.if-on-2.area =
    elim c.if-on-2.branch [
      | then-on-2 w ↦ hit-raised (sym c.on-2.ensures ∙ w.if-on-2.true) w.matched-o-then-on-2.ensures w.area-is w.o-is
      | else-on-2 w ↦ hit-left (sym c.on-2.ensures ∙ w.if-on-2.false) w.area-is w.o-is
    ] in
    let hit3 : Hit c.args.self.kind c.args.self.c 2 (on c.args.up c.args.self.fc) c.args.cycle.0 c.if-on-2.o c.if-on-2.area c.if-on-3.o c.if-on-3.area =
    elim c.if-on-3.branch [
      | then-on-3 w ↦ hit-raised (sym c.on-3.ensures ∙ w.if-on-3.true) w.matched-o-then-on-3.ensures w.area-is w.o-is
      | else-on-3 w ↦ hit-left (sym c.on-3.ensures ∙ w.if-on-3.false) w.area-is w.o-is
    ] in
    omega (arith, c.requires, hit1.most, hit-long hit1, hit2.most, hit-long hit2, hit3.most, hit-long hit3)

pub returns-then-bottom : goal.returns-then-bottom
returns-then-bottom c =
    let hit1 : Hit c.args.self.kind c.args.self.a 0 (on c.args.up c.args.self.fa) c.args.cycle.0 c.args.start c.args.area.now c.if-on.o c.if-on.area =
    elim c.if-on.branch [
      | then-on w ↦ hit-raised (sym c.on.ensures ∙ w.if-on.true) w.matched-o.ensures w.area-is w.o-is
      | else-on w ↦ hit-left (sym c.on.ensures ∙ w.if-on.false) w.area-is w.o-is
    ] in
    let hit2 : Hit c.args.self.kind c.args.self.b 1 (on c.args.up c.args.self.fb) c.args.cycle.0 c.if-on.o c.if-on.area c.if-on-2.o c.if-on-2.area =
    elim c.if-on-2.branch [
      | then-on-2 w ↦ hit-raised (sym c.on-2.ensures ∙ w.if-on-2.true) w.matched-o-then-on-2.ensures w.area-is w.o-is
      | else-on-2 w ↦ hit-left (sym c.on-2.ensures ∙ w.if-on-2.false) w.area-is w.o-is
    ] in
    let hit3 : Hit c.args.self.kind c.args.self.c 2 (on c.args.up c.args.self.fc) c.args.cycle.0 c.if-on-2.o c.if-on-2.area c.if-on-3.o c.if-on-3.area =
    elim c.if-on-3.branch [
      | then-on-3 w ↦ hit-raised (sym c.on-3.ensures ∙ w.if-on-3.true) w.matched-o-then-on-3.ensures w.area-is w.o-is
      | else-on-3 w ↦ hit-left (sym c.on-3.ensures ∙ w.if-on-3.false) w.area-is w.o-is
    ] in
    (driven-bottom _ _ _ c.if-bottom.true (hits-wrote _ _ hit1 hit2 hit3) c.bottoms-o.ensures.0, omega (arith, hit1.most, hit-long hit1, hit2.most, hit-long hit2, hit3.most, hit-long hit3, c.bottoms-o.ensures.1))

pub returns-else-bottom : goal.returns-else-bottom
returns-else-bottom c =
    let hit1 : Hit c.args.self.kind c.args.self.a 0 (on c.args.up c.args.self.fa) c.args.cycle.0 c.args.start c.args.area.now c.if-on.o c.if-on.area =
    elim c.if-on.branch [
      | then-on w ↦ hit-raised (sym c.on.ensures ∙ w.if-on.true) w.matched-o.ensures w.area-is w.o-is
      | else-on w ↦ hit-left (sym c.on.ensures ∙ w.if-on.false) w.area-is w.o-is
    ] in
    let hit2 : Hit c.args.self.kind c.args.self.b 1 (on c.args.up c.args.self.fb) c.args.cycle.0 c.if-on.o c.if-on.area c.if-on-2.o c.if-on-2.area =
    elim c.if-on-2.branch [
      | then-on-2 w ↦ hit-raised (sym c.on-2.ensures ∙ w.if-on-2.true) w.matched-o-then-on-2.ensures w.area-is w.o-is
      | else-on-2 w ↦ hit-left (sym c.on-2.ensures ∙ w.if-on-2.false) w.area-is w.o-is
    ] in
    let hit3 : Hit c.args.self.kind c.args.self.c 2 (on c.args.up c.args.self.fc) c.args.cycle.0 c.if-on-2.o c.if-on-2.area c.if-on-3.o c.if-on-3.area =
    elim c.if-on-3.branch [
      | then-on-3 w ↦ hit-raised (sym c.on-3.ensures ∙ w.if-on-3.true) w.matched-o-then-on-3.ensures w.area-is w.o-is
      | else-on-3 w ↦ hit-left (sym c.on-3.ensures ∙ w.if-on-3.false) w.area-is w.o-is
    ] in
    (driven-else _ _ _ c.if-bottom.false (hits-wrote _ _ hit1 hit2 hit3), omega (arith, hit1.most, hit-long hit1, hit2.most, hit-long hit2, hit3.most, hit-long hit3))
