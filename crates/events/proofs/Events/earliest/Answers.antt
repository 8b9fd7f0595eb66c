-- `events::Events::earliest` meets its contract: the chain yields the cycles of the list.
use mathlib.Core.Path.{sym, ap, ◌∙◌}
use Prim.Native.Nat.{ℕ, ◌-◌, ◌^◌}
use borrow.Author.Rules.{rules}
use Rattle.std.specs.Prelude.{Option, unwrap_or}
use Rattle.std.proofs.lemmas.Iterator.{YieldsList-from_slice, YieldsList-from_map}
use Rattle.std.proofs.lemmas.Iterator.Adapters.{option_map_id}
use Rattle.std.proofs.lemmas.Iterator.Consumers.{min_from_yields_List}
use Rattle.events.specs.Events.{earliest}
use Rattle.events.proofs.Events.earliest.Goals as goal

pub returns : goal.returns
unfolding earliest
returns c =
    c.unwrap_or.ensures
    ∙ ap (λ (o : Option ℕ). unwrap_or o (2 ^ 64 - 1))
    (sym (option_map_id _)
    ∙ min_from_yields_List _ _ c.min.ensures.ran
    (YieldsList-from_map _ (λ e. e.cycle) (YieldsList-from_slice c.args.self cc) c.map.ensures.closure (λ x r q k. search rules)))
