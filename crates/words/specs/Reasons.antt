-- Why a line cannot be read, by its number.
use Rattle.std.specs.Prelude.{ℕ, cond, ◌==◌}
use Rattle.words.specs.declared.Unreadable.{Unreadable}
use Rattle.words.specs.declared.Unreadable.TheVariants as unreadable

-- the reason of a number, 8 and every other that is none of these a line too long
unfoldable pub numbered : ℕ → Unreadable
numbered why =
    cond (why == 1) unreadable.UnknownCommand
    (cond (why == 2) unreadable.UnknownKey
    (cond (why == 3) unreadable.UnknownName
    (cond (why == 4) unreadable.MissingWord
    (cond (why == 5) unreadable.ExtraWord
    (cond (why == 6) unreadable.Malformed
    (cond (why == 7) unreadable.TooLarge
    (cond (why == 9) unreadable.NotOpened unreadable.TooLong)))))))
