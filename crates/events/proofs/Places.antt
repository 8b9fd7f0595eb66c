-- The 64 places that hold a list, and what a store does to the list.
use Prim.Native.Nat.{ℕ, suc, ◌+◌, ◌-◌, ◌≤◌, ◌<◌}
use native.Mathlib.Omega.{arith}
use mathlib.Core.Path.{◌≡◌, refl, sym, ap, ◌∙◌}
use mathlib.Core.List.{List, [], ◌∷◌, ◌++◌}
use lib.ListN.{length, get_or, set, drop, replicate, length-set, length-append, drop_of_length-le}
use lib.Seq.{get_or-take, take-append_seam, set-append_seam, set-append_left, set_split, append_snoc}
use Rattle.events.specs.declared.Event.{Event}
use Rattle.events.specs.declared.Events.TheInside.{Inside}
use Rattle.events.specs.Events.{blank, swap_removed}
use Rattle.events.specs.Places.{listed, list_in, Packed}
use Rattle.events.proofs.Lists.{length-swap}

-- the count is the list's length
pub count-is : {v : Inside} → Packed v → length (list_in v) ≡ v.count
count-is p = sym (ap (λ (w : Inside). w.count) p.whole)

-- the places of a list of at most 64 hold that list
pub kept : {v : Inside} {l : List Event} → v ≡ listed l → length l ≤ 64 → (list_in v ≡ l) × Packed v
kept {v} {l} e h =
    let same : list_in (listed l) ≡ l = take-append_seam l (replicate (64 - length l) blank) in
    rw e (same, record { room = h; whole = ap listed (sym same) })

-- one event anew
set-listed : (l : List Event) (i : ℕ) (e : Event) → i < length l → record { places = set (listed l).places i e; count = length l } ≡ listed (set l i e)
set-listed l i e h = simp (set-append_left, length-set)

-- one event more
push-listed : (l : List Event) (e : Event) → length l < 64 → record { places = set (listed l).places (length l) e; count = length l + 1 } ≡ listed (l ++ e ∷ [])
push-listed l e h =
    let m : 64 - length l ≡ suc (64 - (length l + 1)) = omega arith in
    rw (m, set-append_seam, length-append, append_snoc)

-- the last event at place i, and a blank in its own
swap-listed : (l : List Event) (i : ℕ) (last none : Event) → i < length l → length l ≤ 64 → last ≡ get_or l (length l - 1) blank → none ≡ blank
    → record { places = set (set (listed l).places i last) (length l - 1) none; count = length l - 1 } ≡ listed (swap_removed i l)
unfolding swap_removed
swap-listed l i last none h q e b =
    let m : ℕ = length l - 1 in
    let front : List Event = set l i (get_or l m blank) in
    let rest : List Event = replicate (64 - length l) blank in
    let n = length-set l i (get_or l m blank) in
    let inside : m < length front = omega arith in
    let end : drop (suc m) front ≡ [] = drop_of_length-le front {i = suc m} (omega arith) in
    let room : 64 - m ≡ suc (64 - length l) = omega arith in
    rw (e, b, length-swap i l, room, set-append_left l rest i, set-append_left front rest m, set_split front m, end, append_snoc)

module _ {v : Inside} (p : Packed v) where
  pub set-kept : (i : ℕ) (e : Event) → i < length (list_in v) → (list_in (record { places = set v.places i e; count = v.count }) ≡ set (list_in v) i e) × Packed (record { places = set v.places i e; count = v.count })
  set-kept i e h =
      kept
      (ap (λ (w : Inside). record { places = set w.places i e; count = w.count }) p.whole ∙ set-listed (list_in v) i e h)
      (rw (length-set, count-is p) p.room)

  pub push-kept : (e : Event) → length (list_in v) < 64
      → (list_in (record { places = set v.places v.count e; count = v.count + 1 }) ≡ list_in v ++ e ∷ []) × Packed (record { places = set v.places v.count e; count = v.count + 1 })
  push-kept e h =
      kept
      (ap (λ (w : Inside). record { places = set w.places w.count e; count = w.count + 1 }) p.whole ∙ push-listed (list_in v) e h)
      (simp length-append (omega arith))

  pub swap-kept : (i : ℕ) → i < length (list_in v)
      → (list_in (record { places = set (set v.places i (get_or v.places (v.count - 1) blank)) (v.count - 1) blank; count = v.count - 1 }) ≡ swap_removed i (list_in v))
      × Packed (record { places = set (set v.places i (get_or v.places (v.count - 1) blank)) (v.count - 1) blank; count = v.count - 1 })
  swap-kept i h =
      let last : Event = get_or v.places (v.count - 1) blank in
      let n = count-is p in
      let m = p.room in
      let q : last ≡ get_or (list_in v) (length (list_in v) - 1) blank = rw n (sym (get_or-take v.count v.places (v.count - 1) blank (omega arith))) in
      kept
      (ap (λ (w : Inside). record { places = set (set w.places i last) (w.count - 1) blank; count = w.count - 1 }) p.whole
      ∙ swap-listed (list_in v) i last blank h (omega arith) q refl)
      (rw length-swap (omega arith))
