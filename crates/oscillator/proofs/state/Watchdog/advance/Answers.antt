use Rattle.std.proofs.Common.{◌≡◌, max, rules}
use Rattle.std.specs.Prelude.{option_map}
use Rattle.time.specs.declared.units.Ticks.{Ticks}
use Rattle.time.specs.Units.{cycle_at}
use Rattle.oscillator.specs.Oscillator.{oscillator}
use Rattle.oscillator.proofs.Advances.{run-ready, advances}
use Rattle.oscillator.proofs.state.Watchdog.advance.Goals as goal

pub run-run-requires : goal.run-run-requires
run-run-requires c = run-ready c.args.self c.args.cycle.0 c.requires.0 c.requires.1 c.requires.2 c.ticks-first.ensures c.ticks-end.ensures

pub returns : goal.returns
returns c =
    let paused : c.map-paused.result ≡ option_map (λ (at : Ticks). record { 0 = max c.args.self.sync.0 (cycle_at oscillator at.0) }) c.run-run.result.paused = search rules in
    advances c.args.self c.args.cycle.0 c.requires.0 c.requires.1 c.requires.2 c.ticks-first.ensures c.ticks-end.ensures c.run-run.ensures c.run-run.auto.area (cc) paused
