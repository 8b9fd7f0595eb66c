-- What is proved of pages beside the functions: bytes that fit are put behind those that stand there, nothing before them is lost, a page never holds more than its size, a page that is not full says that all bytes had room, how long an answer may be, and which words the number of a reason has.
use Rattle.std.specs.Prelude.{ℕ, ◌+◌, ◌≤◌, ◌<◌, ◌≡◌, cond, eqb, List, ◌++◌, length, take}
use Rattle.figures.specs.Figures.{text}
use Rattle.words.specs.Reasons.{numbered}
use Rattle.words.specs.declared.Unreadable.{Unreadable}
use Rattle.page.specs.Page.{size, puts, reason_of, unreadable_of}

-- bytes that fit are put behind those that stand there, in their order
abbrev pub Fits : Type 0
Fits = (page bytes : List ℕ) → length page + length bytes ≤ size → puts page bytes ≡ page ++ bytes

-- nothing that stood before is lost, whether the bytes fit or not
abbrev pub NothingLost : Type 0
NothingLost = (page bytes : List ℕ) → take (length page) (puts page bytes) ≡ page

-- a page never holds more than its size
abbrev pub Bounded : Type 0
Bounded = (page bytes : List ℕ) → length page ≤ size → length (puts page bytes) ≤ size

-- a page that has room left says that all bytes had room
abbrev pub RoomSeen : Type 0
RoomSeen = (page bytes : List ℕ) → length (puts page bytes) < size → length page + length bytes ≤ size

-- "`error line L: WHY`" has so many bytes at most, for every line and every reason
abbrev pub Short : Type 0
Short = (nth : ℕ) (why : Unreadable) → length (unreadable_of nth why) ≤ 49

-- the words of a reason by its number
abbrev pub numbered_words : ℕ → List ℕ
numbered_words why =
    cond (eqb why 1) (text ": unknown command")
    (cond (eqb why 2) (text ": unknown key")
    (cond (eqb why 3) (text ": unknown name")
    (cond (eqb why 4) (text ": missing word")
    (cond (eqb why 5) (text ": extra word")
    (cond (eqb why 6) (text ": malformed number")
    (cond (eqb why 7) (text ": number too large")
    (cond (eqb why 9) (text ": file not opened") (text ": line too long"))))))))

-- a reason given by its number says those words
abbrev pub Numbered : Type 0
Numbered = (why : ℕ) → reason_of (numbered why) ≡ numbered_words why
