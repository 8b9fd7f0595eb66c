-- The flag records among a call's bytes, by its entries.
use Prim.Native.Nat.{ℕ, ◌+◌, ◌*◌, ◌/◌, ◌%◌, ◌^◌}
use native.Mathlib.Omega.{arith}
use native.Mathlib.Nat.{add-zero, zero-add, suc-add, add_assoc}
use mathlib.Core.Path.{◌≡◌, refl, ◌∙◌}
use mathlib.Core.Bool.{Bool, ◌&&◌}
use mathlib.Core.List.{List, [], ◌∷◌, ◌++◌, append_assoc}
use lib.Dec.{eqb}
use lib.ListN.{length, drop, length-append}
use Rattle.records.specs.declared.Entry.{Entry}
use Rattle.records.specs.Records.{bytes_of, record_of, records_of}
use Rattle.records.proofs.Records.{records-length}
use Rattle.tick.specs.Outputs.{bit}
use Rattle.account.specs.Account.{raises, raisings}

-- an entry that raises a flag
abbrev pub raiser : ℕ → Entry → Bool
raiser flag e = eqb (e.kind % 4) 1 && eqb (e.body / 256 % 256 / flag % 2) 1

-- how many of them do
unfoldable pub raisers : ℕ → List Entry → ℕ
raisers flag [] = 0
raisers flag (e ∷ es) = bit (raiser flag e) + raisers flag es

pub raisers-append : (flag : ℕ) (ds es : List Entry) → raisers flag (ds ++ es) ≡ raisers flag ds + raisers flag es
unfolding raisers
raisers-append flag [] es = omega arith
raisers-append flag (d ∷ ds) es = let h = raisers-append flag ds es in omega arith

top-kind : (kind cycle : ℕ) → (kind % 4 * 2 ^ 62 + cycle % 2 ^ 62) / 256 ^ 7 % 256 / 64 ≡ kind % 4
top-kind kind cycle = omega arith

raises-record : (flag cycle : ℕ) (e : Entry) (rest : List ℕ) → raises flag (record_of cycle e ++ rest) ≡ raiser flag e
unfolding raises record_of bytes_of
raises-record flag cycle e rest = rw (top-kind e.kind cycle)

drop-record : (cycle : ℕ) (e : Entry) (rest : List ℕ) → drop 10 (record_of cycle e ++ rest) ≡ rest
unfolding record_of bytes_of
drop-record cycle e rest = refl

raisings-records : (flag cycle : ℕ) (es : List Entry) (n : ℕ) (rest : List ℕ) → raisings flag (length es + n) (records_of cycle es ++ rest) ≡ raisers flag es + raisings flag n rest
unfolding raisers records_of raisings
raisings-records flag cycle [] n rest = simp zero-add
raisings-records flag cycle (e ∷ es) n rest =
    let h = raisings-records flag cycle es n rest in
    rw (suc-add, append_assoc (record_of cycle e) (records_of cycle es) rest, raises-record, drop-record) (omega arith)

-- bytes that are records, so many of which raise a flag
pub record Worth (flag : ℕ) (bytes : List ℕ) (worth : ℕ) : Type 0 where
  pub size : ℕ
  pub long : length bytes ≡ 10 * size
  pub adds : (n : ℕ) (rest : List ℕ) → raisings flag (size + n) (bytes ++ rest) ≡ worth + raisings flag n rest

pub worth-none : (flag : ℕ) → Worth flag [] 0
worth-none flag = record { size = 0; long = refl; adds = λ n rest. simp zero-add }

pub worth-then : {flag : ℕ} {bytes : List ℕ} {worth : ℕ} → Worth flag bytes worth → (cycle : ℕ) (es : List Entry) → Worth flag (bytes ++ records_of cycle es) (worth + raisers flag es)
worth-then {flag} {bytes} {worth} w cycle es =
    record {
      size = w.size + length es;
      long = (let a = length-append bytes (records_of cycle es) in let b = records-length cycle es in let c = w.long in omega arith);
      adds = λ n rest. rw (append_assoc bytes (records_of cycle es) rest, add_assoc w.size (length es) n, w.adds (length es + n) (records_of cycle es ++ rest), raisings-records flag cycle es n rest) (omega arith);
    }

-- so many are found in an area that begins with them
pub worth-is : {flag : ℕ} {bytes : List ℕ} {worth : ℕ} → Worth flag bytes worth → (rest : List ℕ) → raisings flag (length bytes / 10) (bytes ++ rest) ≡ worth
unfolding raisings
worth-is {flag} {bytes} {worth} w rest =
    let l = w.long in
    let s : length bytes / 10 ≡ w.size + 0 = omega arith in
    rw s (w.adds 0 rest ∙ add-zero worth)
