-- Lists of a few numbers.
use Rattle.std.specs.Prelude.{ℕ, ◌+◌, Bool, true, false, cond, not, ◌&&◌, ◌||◌, List, [], ◌∷◌, ◌++◌, take, get_or, eqb, leb}
use Rattle.few.specs.declared.Few.{Few}

-- the numbers that the code holds
abbrev pub held : Few → List ℕ
held f = take f.len f.items

-- one more, where it is wanted
unfoldable pub also : Bool → ℕ → List ℕ → List ℕ
also wanted x l = cond wanted (l ++ (x ∷ [])) l

-- those of five that are wanted
abbrev pub five : List Bool → List ℕ → List ℕ
five wanted items =
    also (get_or wanted 4 false) (get_or items 4 0)
    (also (get_or wanted 3 false) (get_or items 3 0)
    (also (get_or wanted 2 false) (get_or items 2 0)
    (also (get_or wanted 1 false) (get_or items 1 0)
    (also (get_or wanted 0 false) (get_or items 0 0) []))))

-- a register's address, with that of its high byte when wide
abbrev pub register : Bool → Bool → ℕ → List ℕ → List ℕ
register present wide address l = also (present && wide) (address + 1) (also present address l)

-- a number is among them
unfoldable pub has : ℕ → List ℕ → Bool
has x [] = false
has x (y ∷ l) = eqb y x || has x l

-- no two are the same
unfoldable pub distinct : List ℕ → Bool
distinct [] = true
distinct (x ∷ l) = not (has x l) && distinct l

-- all are at most a bound
unfoldable pub within : ℕ → List ℕ → Bool
within bound [] = true
within bound (x ∷ l) = leb x bound && within bound l
