-- Its ten bytes stand behind the others.
use Rattle.std.proofs.Common.{◌+◌, ◌*◌, ◌++◌, List, ℕ, take, ap, ◌∙◌, arith, rules}
use Rattle.std.proofs.lemmas.Slice.{take-put_mid}
use Rattle.list_lines.specs.Items.{item_of}
use Rattle.list_lines.proofs.Adding.{low_bytes}
use Rattle.list_lines.proofs.Packing.{push_kept}
use Rattle.list_lines.proofs.made.Items.push.Goals as goal

pub invariant_of-self : goal.invariant_of-self
invariant_of-self c = push_kept c.self.inside.bytes c.copy_from_slice.new.self c.self.inside.items _ (search rules) (search rules) (search rules) (search rules) c.self.invariant.behind

pub returns : goal.returns
unfolding item_of
returns c =
    let items = c.self.inside.items in
    let bytes = c.self.inside.bytes in
    let item = c.copy_from_slice.new.self in
    rw (← c.self.view_is) (take-put_mid (10 * items) _ bytes item (10 * (items + 1)) (search rules) (search rules) ∙ ap (λ (l : List ℕ). take (10 * items) bytes ++ l) (c.copy_from_slice.ensures.after ∙ rw c.to_be_bytes.ensures (low_bytes _ _ (omega arith))))
