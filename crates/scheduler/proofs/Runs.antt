-- The theorem of specs/Runs.antt, by induction over the calls.
use Prim.Native.Nat.{ℕ, ◌-◌, ◌≤◌, ◌<◌, ◌^◌}
use native.Mathlib.Omega.{arith}
use native.Mathlib.Nat.{not-suc-le-zero, suc-ne-zero}
use native.Mathlib.Decide.{dec_lt}
use mathlib.Core.Path.{◌≡◌, refl, sym, ap, ◌∙◌}
use mathlib.Core.Bool.{Bool, true, false, cond, not, ◌&&◌}
use mathlib.Core.List.{List, [], ◌∷◌, ◌++◌}
use Rattle.std.specs.Prelude.{Some, None, Result, Ok, Err}
use Rattle.std.specs.Result.{result_unwrap_or}
use Rattle.std.proofs.lemmas.List.Sums.{passes_at_first}
use lib.Dec.{eqb, ltb, leb}
use lib.ListN.{length, get_or, set, length-set, length-append, get_or-append}
use lib.Seq.{get_or-set_same, get_or-set_other, get_or-append_seam}
use borrow.Author.Tests.{eqb-true, eqb-false, eq-eqb, ltb-true, ltb-false}
use Rattle.events.specs.declared.EventKey.{EventKey}
use Rattle.events.specs.declared.Event.{Event}
use Rattle.scheduler.specs.declared.Scheduler.{Scheduler}
use Rattle.scheduler.specs.declared.Full.{Full}
use Rattle.scheduler.specs.declared.Popping.{Popping}
use Rattle.events.specs.Events.{blank, same, place_of, earliest, foremost, swap_removed}
use Rattle.scheduler.specs.Scheduler.{holds, refuses, put, scheduled, removed, popped}
use Rattle.scheduler.specs.Runs.{Call, at, cancel, is_scheduled, pop_due, clear, next, after, run, Sound, Always}
use Rattle.events.proofs.Lists.{position-within, earliest-low, earliest-met, foremost-within, from, length-swap, get_or-swap, from-within}

-- ---- keys

pub same_refl : (a : EventKey) → same a a ≡ true
same_refl a = simp (eq-eqb a.owner a.owner refl, eq-eqb a.tag a.tag refl)

pub same_key : (a b : EventKey) → same a b ≡ true → a ≡ b
same_key a b e = go (eqb a.owner b.owner) refl (eqb a.tag b.tag) refl e
  where
    go : (o : Bool) → eqb a.owner b.owner ≡ o → (t : Bool) → eqb a.tag b.tag ≡ t → o && t ≡ true → a ≡ b
    go true p true q r =
        ap (λ (o : ℕ). record { owner = o; tag = a.tag }) (eqb-true a.owner b.owner p)
        ∙ ap (λ (t : ℕ). record { owner = b.owner; tag = t }) (eqb-true a.tag b.tag q)
    go true p false q r = cc
    go false p t q r = cc

-- ---- what each call keeps of the list held: no key twice, at most 64 events

record Good (l : List Event) : Type 0 where
  once : (i j : ℕ) → i < length l → j < length l → (get_or l i blank).key ≡ (get_or l j blank).key → i ≡ j
  room : length l ≤ 64

none-good : Good []
none-good = record { once = λ i j h. absurd (not-suc-le-zero h); room = omega arith }

-- an event goes to the place of its key
set-good : (l : List Event) (e : Event) → Good l → place_of e.key l < length l → Good (set l (place_of e.key l) e)
set-good l e g h =
    let n = length-set l (place_of e.key l) e in
    record { once = λ i j p q s. g.once i j (omega arith) (omega arith) (sym (key i (eqb i (place_of e.key l)) refl) ∙ s ∙ key j (eqb j (place_of e.key l)) refl); room = rw n g.room }
  where
    key : (i : ℕ) (b : Bool) → eqb i (place_of e.key l) ≡ b → (get_or (set l (place_of e.key l) e) i blank).key ≡ (get_or l i blank).key
    key i true t =
        rw (eqb-true i (place_of e.key l) t)
        (ap (λ (x : Event). x.key) (get_or-set_same l (place_of e.key l) e blank h)
        ∙ sym (same_key (get_or l (place_of e.key l) blank).key e.key (passes_at_first (λ x. same x.key e.key) l blank h)))
    key i false t = ap (λ (x : Event). x.key) (get_or-set_other l (place_of e.key l) i e blank (eqb-false i (place_of e.key l) t))

-- an event of a new key goes to the end
push-good : (l : List Event) (e : Event) → Good l → length l ≤ place_of e.key l → length l < 64 → Good (l ++ e ∷ [])
push-good l e g new h =
    record { once = λ i j p q k. once i j (dec_lt i (length l)) (dec_lt j (length l)) p q k; room = rw (length-append l (e ∷ [])) (omega arith) }
  where
    old : (i : ℕ) → i < length l → (get_or (l ++ e ∷ []) i blank).key ≡ (get_or l i blank).key
    old i p = ap (λ (x : Event). x.key) (get_or-append l (e ∷ []) blank i p)

    last : (i : ℕ) → i < length (l ++ e ∷ []) → (i < length l → ⊥) → i ≡ length l
    last i p q = let n = length-append l (e ∷ []) in omega (arith, q)

    other : (i j : ℕ) → i < length l → j ≡ length l → (get_or (l ++ e ∷ []) i blank).key ≡ (get_or (l ++ e ∷ []) j blank).key → ⊥
    other i j p q k =
        let here : (get_or l i blank).key ≡ e.key = sym (old i p) ∙ k ∙ rw q (ap (λ (x : Event). x.key) (get_or-append_seam l e [] blank)) in
        let t = position-within (λ x. same x.key e.key) l i p (rw here (same_refl e.key)) in
        omega arith

    once : (i j : ℕ) → Dec (i < length l) → Dec (j < length l) → i < length (l ++ e ∷ []) → j < length (l ++ e ∷ [])
        → (get_or (l ++ e ∷ []) i blank).key ≡ (get_or (l ++ e ∷ []) j blank).key → i ≡ j
    once i j (yes a) (yes b) p q k = g.once i j a b (sym (old i a) ∙ k ∙ old j b)
    once i j (yes a) (no b) p q k = absurd (other i j a (last j q b) k)
    once i j (no a) (yes b) p q k = absurd (other j i b (last i p a) (sym k))
    once i j (no a) (no b) p q k = last i p a ∙ sym (last j q b)

-- an event is taken out
swap-good : (l : List Event) (i : ℕ) → Good l → i < length l → Good (swap_removed i l)
swap-good l i g h =
    let n = length-swap i l in
    record { once = once; room = rw n (let r = g.room in omega arith) }
  where
    back : (k j : ℕ) → k < length l - 1 → j < length l - 1 → (b : Bool) → eqb k i ≡ b → (d : Bool) → eqb j i ≡ d
        → cond b (length l - 1) k ≡ cond d (length l - 1) j → k ≡ j
    back k j p q true s true t e = eqb-true k i s ∙ sym (eqb-true j i t)
    back k j p q true s false t e = omega arith
    back k j p q false s true t e = omega arith
    back k j p q false s false t e = e

    once : (k j : ℕ) → k < length (swap_removed i l) → j < length (swap_removed i l) → (get_or (swap_removed i l) k blank).key ≡ (get_or (swap_removed i l) j blank).key → k ≡ j
    once k j p q e =
        let n = length-swap i l in
        let p : k < length l - 1 = omega arith in
        let q : j < length l - 1 = omega arith in
        let s = ap (λ (x : Event). x.key) (get_or-swap i l h k p) in
        let t = ap (λ (x : Event). x.key) (get_or-swap i l h j q) in
        back k j p q (eqb k i) refl (eqb j i) refl (g.once (from i l k) (from i l j) (from-within i l h k p) (from-within i l h j q) (sym s ∙ e ∙ t))

put-good : (key : EventKey) (cycle : ℕ) (l : List Event) → Good l → refuses key l ≡ false → Good (put key cycle l)
unfolding put
put-good key cycle l g r = go (holds key l) refl r
  where
    go : (b : Bool) → holds key l ≡ b → not b && eqb (length l) 64 ≡ false
        → Good (cond b (set l (place_of key l) (record { key = key; cycle = cycle })) (l ++ record { key = key; cycle = cycle } ∷ []))
    go true t r = set-good l (record { key = key; cycle = cycle }) g (ltb-true (place_of key l) (length l) t)
    go false t r =
        let m = g.room in
        push-good l (record { key = key; cycle = cycle }) g (ltb-false (place_of key l) (length l) t) (omega (arith, eqb-false (length l) 64 r))

removed-good : (key : EventKey) (l : List Event) → Good l → Good (removed key l)
unfolding removed
removed-good key l g = go (holds key l) refl
  where
    go : (b : Bool) → holds key l ≡ b → Good (cond b (swap_removed (place_of key l) l) l)
    go true t = swap-good l (place_of key l) g (ltb-true (place_of key l) (length l) t)
    go false t = g

-- ---- the calls

after-good : (s : Scheduler) (call : Call) → Good s → Good (after s call)
unfolding after scheduled popped
after-good s (at key cycle) g = go (refuses key s) refl
  where
    go : (b : Bool) → refuses key s ≡ b → Good (result_unwrap_or (cond {A = Result Scheduler Full} b (Err (record {})) (Ok (put key cycle s))) s)
    go true r = g
    go false r = put-good key cycle s g r
after-good s (cancel key) g = removed-good key s g
after-good s (is_scheduled key) g = g
after-good s (pop_due now) g = go (leb (earliest s) now) (ltb 0 (length s)) refl
  where
    go : (a b : Bool) → ltb 0 (length s) ≡ b
        → Good (cond {A = Popping} (a && b) (record { due = Some (get_or s (foremost s) blank); scheduler = swap_removed (foremost s) s }) (record { due = None; scheduler = s })).scheduler
    go true true r = swap-good s (foremost s) g (foremost-within s (ltb-true 0 (length s) r))
    go true false r = g
    go false b r = g
after-good s clear g = none-good
after-good s next g = g

run-good : (s : Scheduler) (calls : List Call) → Good s → Good (run s calls)
unfolding run
run-good s [] g = g
run-good s (call ∷ calls) g = run-good (after s call) calls (after-good s call g)

-- nothing is held
empty : (l : List Event) → length l ≡ 0 → earliest l ≡ 2 ^ 64 - 1
unfolding earliest
empty [] h = refl
empty (e ∷ l) h = absurd (suc-ne-zero (length l) h)

good-sound : {s : Scheduler} → Good s → Sound s
good-sound {s} g = record { once = g.once; room = g.room; low = earliest-low s; met = earliest-met s; none = empty s }

pub always : Always
always calls = good-sound (run-good [] calls none-good)

-- one call more
pub after-sound : (s : Scheduler) (call : Call) → Sound s → Sound (after s call)
after-sound s call x = good-sound (after-good s call (record { once = x.once; room = x.room }))
