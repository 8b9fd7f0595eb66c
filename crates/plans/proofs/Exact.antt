-- A timer's event planned: what is held is again exactly the next events.
use Prim.Native.Nat.{ℕ, ◌+◌, ◌-◌, ◌≤◌, ◌<◌}
use native.Mathlib.Omega.{arith}
use mathlib.Core.Path.{◌≡◌, refl, sym, ap, ◌∙◌}
use mathlib.Core.Bool.{Bool, true, false, cond, not, ◌&&◌, false≢true}
use mathlib.Core.List.{List, [], ◌∷◌, ◌++◌}
use lib.Dec.{eqb, ltb}
use lib.ListN.{length, get_or, set, length-set, length-append, get_or-append}
use lib.Seq.{get_or-set_same, get_or-set_other, get_or-append_seam}
use borrow.Author.Tests.{eqb-true, eqb-false, eq-eqb, ne_eqb, ltb-true, ltb-false}
use Rattle.std.specs.Prelude.{Result, Ok, Err}
use Rattle.std.proofs.lemmas.List.Sums.{passes_at_first}
use Rattle.time.specs.declared.units.Cycle.{Cycle}
use Rattle.counter.specs.declared.next.Next.{Next}
use Rattle.counter.specs.declared.next.Next.TheVariants as next
use Rattle.events.specs.declared.EventKey.{EventKey}
use Rattle.events.specs.declared.Event.{Event}
use Rattle.events.specs.Events.{blank, same, place_of, swap_removed}
use Rattle.events.proofs.Lists.{position-within, from, length-swap, get_or-swap, from-within}
use Rattle.scheduler.specs.declared.Scheduler.{Scheduler}
use Rattle.scheduler.specs.declared.Full.{Full}
use Rattle.scheduler.specs.Scheduler.{holds, put, scheduled, removed}
use Rattle.scheduler.specs.Runs.{at, cancel, after, Sound}
use Rattle.scheduler.proofs.Runs.{same_refl, same_key, after-sound}
use Rattle.m328p.specs.declared.Id.{Id}
use Rattle.m328p.specs.declared.Id.TheVariants as id
use Rattle.plans.specs.Plans.{key_of, planned_of, event_of, From, Kept, many, Exact, Apart, Planned}

-- ---- ids

pub one-id : (j i : Id) → eqb (key_of j).owner (key_of i).owner ≡ true → j ≡ i
one-id id.Zero id.Zero e = refl
one-id id.Zero id.One e = absurd (false≢true e)
one-id id.Zero id.Two e = absurd (false≢true e)
one-id id.One id.Zero e = absurd (false≢true e)
one-id id.One id.One e = refl
one-id id.One id.Two e = absurd (false≢true e)
one-id id.Two id.Zero e = absurd (false≢true e)
one-id id.Two id.One e = absurd (false≢true e)
one-id id.Two id.Two e = refl

-- a key tells its id
apart-keys : (j i : Id) → Apart j i → key_of j ≡ key_of i → ⊥
apart-keys j i e h = eqb-false (key_of j).owner (key_of i).owner e (ap (λ (k : EventKey). k.owner) h)

never-at : (c : Cycle) (f : ℕ) → next.Never ≡ next.At c f → ⊥
never-at c f e = let z : ◌≡◌ {A = ℕ} 0 1 = cc in omega arith

-- ---- how many there are

module _ (n m : Id → Next) where
  counted : (i : Id) → ((j : Id) → Apart j i → m j ≡ n j)
      → many (m id.Zero) + (many (m id.One) + many (m id.Two)) + many (n i) ≡ many (n id.Zero) + (many (n id.One) + many (n id.Two)) + many (m i)
  counted id.Zero h = rw (h id.One refl, h id.Two refl) (omega arith)
  counted id.One h = rw (h id.Zero refl, h id.Two refl) (omega arith)
  counted id.Two h = rw (h id.Zero refl, h id.One refl) (omega arith)

most : (x : Next) → many x ≤ 1
most (next.At c f) = omega arith
most next.Never = omega arith

-- ---- one list

module _ (l : List Event) (n m : Id → Next) (i : Id) (once : (p q : ℕ) → p < length l → q < length l → (get_or l p blank).key ≡ (get_or l q blank).key → p ≡ q)
    (x : Exact n l) (others : (j : Id) → Apart j i → m j ≡ n j) where
  -- the key is held at a place
  module _ (h : place_of (key_of i) l < length l) where
    here : (get_or l (place_of (key_of i) l) blank).key ≡ key_of i
    here = same_key _ _ (passes_at_first (λ e. same e.key (key_of i)) l blank h)

    -- an event at another place is another timer's
    not-here : (q : ℕ) (j : Id) → q < length l → (q ≡ place_of (key_of i) l → ⊥) → (get_or l q blank).key ≡ key_of j → Apart j i
    not-here q j w d e = go (eqb (key_of j).owner (key_of i).owner) refl
      where
        go : (b : Bool) → eqb (key_of j).owner (key_of i).owner ≡ b → b ≡ false
        go true f = absurd (d (once q (place_of (key_of i) l) w h (e ∙ ap key_of (one-id j i f) ∙ sym here)))
        go false f = refl

    -- another timer's event is at another place
    elsewhere : (q : ℕ) (j : Id) → Apart j i → (get_or l q blank).key ≡ key_of j → q ≡ place_of (key_of i) l → ⊥
    elsewhere q j a e d = apart-keys j i a (sym e ∙ ap (λ (k : ℕ). (get_or l k blank).key) d ∙ here)

    -- the timer has an event
    has : many (n i) ≡ 1
    has =
        let f = x.sound (place_of (key_of i) l) h in
        go f (eqb (key_of f.owner).owner (key_of i).owner) refl
      where
        go : (f : From n (get_or l (place_of (key_of i) l) blank)) (b : Bool) → eqb (key_of f.owner).owner (key_of i).owner ≡ b → many (n i) ≡ 1
        go f true e = rw (sym (ap n (one-id f.owner i e)) ∙ f.next)
        go f false e = absurd (apart-keys f.owner i e (sym (ap (λ (y : Event). y.key) f.event) ∙ here))

  -- the key is held nowhere
  module _ (h : length l ≤ place_of (key_of i) l) where
    -- every event is another timer's
    not-held : (q : ℕ) (j : Id) → q < length l → (get_or l q blank).key ≡ key_of j → Apart j i
    not-held q j w e = go (eqb (key_of j).owner (key_of i).owner) refl
      where
        go : (b : Bool) → eqb (key_of j).owner (key_of i).owner ≡ b → b ≡ false
        go true f =
            let t = position-within (λ y. same y.key (key_of i)) l q w (rw (e ∙ ap key_of (one-id j i f)) (same_refl (key_of i))) in
            absurd (omega arith)
        go false f = refl

    has-none : many (n i) ≡ 0
    has-none = go (n i) refl
      where
        go : (k : Next) → n i ≡ k → many k ≡ 0
        go (next.At c f) e =
            let k = x.whole i c f e in
            let t = position-within (λ y. same y.key (key_of i)) l k.place k.within (rw k.event (same_refl (key_of i))) in
            absurd (omega arith)
        go next.Never e = refl

  -- a timer's event that stays
  stays : (j : Id) {e : Event} → Apart j i → (f : From n e) → f.owner ≡ j → From m e
  stays j a f e = record { owner = f.owner; cycle = f.cycle; flags = f.flags; next = others f.owner (rw e a) ∙ f.next; event = f.event }

  key-of : {e : Event} (f : From n e) → e.key ≡ key_of f.owner
  key-of f = ap (λ (y : Event). y.key) f.event

  -- ---- put
  module _ (c : Cycle) (flags : ℕ) (g : m i ≡ next.At c flags) where
    mine : From m (event_of i c)
    mine = record { owner = i; cycle = c; flags = flags; next = g; event = refl }

    same-cycle : (d : Cycle) (r : ℕ) → m i ≡ next.At d r → d ≡ c
    same-cycle d r e = cc

    set-exact : place_of (key_of i) l < length l → Exact m (set l (place_of (key_of i) l) (event_of i c))
    set-exact h = record { sound = sound; whole = whole; size = size }
      where
        p : ℕ
        p = place_of (key_of i) l

        sound : (q : ℕ) → q < length (set l (place_of (key_of i) l) (event_of i c)) → From m (get_or (set l (place_of (key_of i) l) (event_of i c)) q blank)
        sound q w = go (eqb q (place_of (key_of i) l)) refl
          where
            go : (b : Bool) → eqb q (place_of (key_of i) l) ≡ b → From m (get_or (set l (place_of (key_of i) l) (event_of i c)) q blank)
            go true e = rw (eqb-true q (place_of (key_of i) l) e, get_or-set_same l (place_of (key_of i) l) (event_of i c) blank h) mine
            go false e =
                let d = eqb-false q (place_of (key_of i) l) e in
                let w : q < length l = rw (length-set l (place_of (key_of i) l) (event_of i c)) at w in
                let f = x.sound q w in
                rw (get_or-set_other l (place_of (key_of i) l) q (event_of i c) blank d) (stays f.owner (not-here h q f.owner w d (key-of f)) f refl)

        whole : (j : Id) (d : Cycle) (r : ℕ) → m j ≡ next.At d r → Kept (set l (place_of (key_of i) l) (event_of i c)) (event_of j d)
        whole j d r e = go (eqb (key_of j).owner (key_of i).owner) refl
          where
            go : (b : Bool) → eqb (key_of j).owner (key_of i).owner ≡ b → Kept (set l (place_of (key_of i) l) (event_of i c)) (event_of j d)
            go true f =
                let u = one-id j i f in
                let v = same-cycle d r (sym (ap m u) ∙ e) in
                record { place = place_of (key_of i) l; within = rw (length-set l (place_of (key_of i) l) (event_of i c)) h; event = rw (u, v) (get_or-set_same l (place_of (key_of i) l) (event_of i c) blank h) }
            go false f =
                let k = x.whole j d r (sym (others j f) ∙ e) in
                record {
                  place = k.place;
                  within = rw (length-set l (place_of (key_of i) l) (event_of i c)) k.within;
                  event = get_or-set_other l (place_of (key_of i) l) k.place (event_of i c) blank (elsewhere h k.place j f (ap (λ (y : Event). y.key) k.event)) ∙ k.event;
                }

        size : length (set l (place_of (key_of i) l) (event_of i c)) ≡ many (m id.Zero) + (many (m id.One) + many (m id.Two))
        size =
            let e : many (m i) ≡ 1 = rw g in
            omega (arith, length-set l (place_of (key_of i) l) (event_of i c), x.size, counted n m i others, has h)

    push-exact : length l ≤ place_of (key_of i) l → Exact m (l ++ event_of i c ∷ [])
    push-exact h = record { sound = sound; whole = whole; size = size }
      where
        sound : (q : ℕ) → q < length (l ++ event_of i c ∷ []) → From m (get_or (l ++ event_of i c ∷ []) q blank)
        sound q w = go (ltb q (length l)) refl
          where
            go : (b : Bool) → ltb q (length l) ≡ b → From m (get_or (l ++ event_of i c ∷ []) q blank)
            go true e =
                let v = ltb-true q (length l) e in
                let f = x.sound q v in
                rw (get_or-append l (event_of i c ∷ []) blank q v) (stays f.owner (not-held h q f.owner v (key-of f)) f refl)
            go false e =
                let v : q ≡ length l = omega (arith, ltb-false q (length l) e, length-append l (event_of i c ∷ [])) in
                rw (v, get_or-append_seam l (event_of i c) [] blank) mine

        whole : (j : Id) (d : Cycle) (r : ℕ) → m j ≡ next.At d r → Kept (l ++ event_of i c ∷ []) (event_of j d)
        whole j d r e = go (eqb (key_of j).owner (key_of i).owner) refl
          where
            go : (b : Bool) → eqb (key_of j).owner (key_of i).owner ≡ b → Kept (l ++ event_of i c ∷ []) (event_of j d)
            go true f =
                let u = one-id j i f in
                let v = same-cycle d r (sym (ap m u) ∙ e) in
                record { place = length l; within = omega (arith, length-append l (event_of i c ∷ [])); event = rw (u, v) (get_or-append_seam l (event_of i c) [] blank) }
            go false f =
                let k = x.whole j d r (sym (others j f) ∙ e) in
                let w = k.within in
                record { place = k.place; within = omega (arith, length-append l (event_of i c ∷ [])); event = get_or-append l (event_of i c ∷ []) blank k.place w ∙ k.event }

        size : length (l ++ event_of i c ∷ []) ≡ many (m id.Zero) + (many (m id.One) + many (m id.Two))
        size =
            let e : many (m i) ≡ 1 = rw g in
            omega (arith, length-append l (event_of i c ∷ []), x.size, counted n m i others, has-none h)

    put-exact : Exact m (put (key_of i) c.0 l)
    unfolding put
    put-exact = go (holds (key_of i) l) refl
      where
        go : (b : Bool) → holds (key_of i) l ≡ b → Exact m (cond b (set l (place_of (key_of i) l) (event_of i c)) (l ++ event_of i c ∷ []))
        go true e = set-exact (ltb-true (place_of (key_of i) l) (length l) e)
        go false e = push-exact (ltb-false (place_of (key_of i) l) (length l) e)

  -- ---- removed
  module _ (g : m i ≡ next.Never) where
    -- another timer has it
    another : (j : Id) (d : Cycle) (r : ℕ) → m j ≡ next.At d r → Apart j i
    another j d r e = go (eqb (key_of j).owner (key_of i).owner) refl
      where
        go : (b : Bool) → eqb (key_of j).owner (key_of i).owner ≡ b → b ≡ false
        go true f = absurd (never-at d r (sym g ∙ sym (ap m (one-id j i f)) ∙ e))
        go false f = refl

    swap-exact : place_of (key_of i) l < length l → Exact m (swap_removed (place_of (key_of i) l) l)
    swap-exact h = record { sound = sound; whole = whole; size = size }
      where
        moved : (q : ℕ) → q < length l - 1 → from (place_of (key_of i) l) l q ≡ place_of (key_of i) l → ⊥
        moved q w = go (eqb q (place_of (key_of i) l)) refl
          where
            go : (b : Bool) → eqb q (place_of (key_of i) l) ≡ b → cond b (length l - 1) q ≡ place_of (key_of i) l → ⊥
            go true e d = let u = eqb-true q (place_of (key_of i) l) e in omega arith
            go false e d = eqb-false q (place_of (key_of i) l) e d

        sound : (q : ℕ) → q < length (swap_removed (place_of (key_of i) l) l) → From m (get_or (swap_removed (place_of (key_of i) l) l) q blank)
        sound q w =
            let v : q < length l - 1 = rw (length-swap (place_of (key_of i) l) l) at w in
            let r = from (place_of (key_of i) l) l q in
            let u = from-within (place_of (key_of i) l) l h q v in
            let f = x.sound r u in
            rw (get_or-swap (place_of (key_of i) l) l h q v) (stays f.owner (not-here h r f.owner u (moved q v) (key-of f)) f refl)

        whole : (j : Id) (d : Cycle) (r : ℕ) → m j ≡ next.At d r → Kept (swap_removed (place_of (key_of i) l) l) (event_of j d)
        whole j d r e =
            let a = another j d r e in
            let k = x.whole j d r (sym (others j a) ∙ e) in
            go k.place k.within k.event (elsewhere h k.place j a (ap (λ (y : Event). y.key) k.event)) (ltb k.place (length l - 1)) refl
          where
            go : (q : ℕ) → q < length l → get_or l q blank ≡ event_of j d → (q ≡ place_of (key_of i) l → ⊥) → (b : Bool) → ltb q (length l - 1) ≡ b → Kept (swap_removed (place_of (key_of i) l) l) (event_of j d)
            go q w f s true t =
                let v = ltb-true q (length l - 1) t in
                record { place = q; within = rw (length-swap (place_of (key_of i) l) l) v; event = get_or-swap (place_of (key_of i) l) l h q v ∙ rw (ne_eqb q (place_of (key_of i) l) s) f }
            go q w f s false t =
                let u : q ≡ length l - 1 = omega (arith, ltb-false q (length l - 1) t) in
                let v : place_of (key_of i) l < length l - 1 = omega (arith, s) in
                record { place = place_of (key_of i) l; within = rw (length-swap (place_of (key_of i) l) l) v; event = get_or-swap (place_of (key_of i) l) l h (place_of (key_of i) l) v ∙ rw (eq-eqb (place_of (key_of i) l) (place_of (key_of i) l) refl, ← u) f }

        size : length (swap_removed (place_of (key_of i) l) l) ≡ many (m id.Zero) + (many (m id.One) + many (m id.Two))
        size =
            let e : many (m i) ≡ 0 = rw g in
            omega (arith, length-swap (place_of (key_of i) l) l, x.size, counted n m i others, has h)

    left-exact : length l ≤ place_of (key_of i) l → Exact m l
    left-exact h = record { sound = sound; whole = whole; size = size }
      where
        sound : (q : ℕ) → q < length l → From m (get_or l q blank)
        sound q w = let f = x.sound q w in stays f.owner (not-held h q f.owner w (key-of f)) f refl

        whole : (j : Id) (d : Cycle) (r : ℕ) → m j ≡ next.At d r → Kept l (event_of j d)
        whole j d r e = x.whole j d r (sym (others j (another j d r e)) ∙ e)

        size : length l ≡ many (m id.Zero) + (many (m id.One) + many (m id.Two))
        size =
            let e : many (m i) ≡ 0 = rw g in
            omega (arith, x.size, counted n m i others, has-none h)

    removed-exact : Exact m (removed (key_of i) l)
    unfolding removed
    removed-exact = go (holds (key_of i) l) refl
      where
        go : (b : Bool) → holds (key_of i) l ≡ b → Exact m (cond b (swap_removed (place_of (key_of i) l) l) l)
        go true e = swap-exact (ltb-true (place_of (key_of i) l) (length l) e)
        go false e = left-exact (ltb-false (place_of (key_of i) l) (length l) e)

-- ---- the scheduler

sound-of : (s : Scheduler) (i : Id) (k : Next) → Sound s → Sound (planned_of s i k)
unfolding planned_of after
sound-of s i (next.At c f) h = after-sound s (at (key_of i) c.0) h
sound-of s i next.Never h = after-sound s (cancel (key_of i)) h

-- three events at most are held, so no key is refused
taken : (s : Scheduler) (i : Id) (cycle : ℕ) → length s ≤ 3 → scheduled (key_of i) cycle s ≡ Ok (put (key_of i) cycle s)
unfolding scheduled
taken s i cycle h = go (holds (key_of i) s)
  where
    go : (b : Bool) → cond {A = Result Scheduler Full} (not b && eqb (length s) 64) (Err (record {})) (Ok (put (key_of i) cycle s)) ≡ Ok (put (key_of i) cycle s)
    go true = refl
    go false = rw (ne_eqb (length s) 64 (λ e. omega arith))

exact-of : (s : Scheduler) (n m : Id → Next) (i : Id) (k : Next) → Sound s → Exact n s → ((j : Id) → Apart j i → m j ≡ n j) → m i ≡ k → Exact m (planned_of s i k)
unfolding planned_of
exact-of s n m i (next.At c f) h x others e =
    let few : length s ≤ 3 = omega (arith, x.size, most (n id.Zero), most (n id.One), most (n id.Two)) in
    rw (taken s i c.0 few) (put-exact s n m i h.once x others c f e)
exact-of s n m i next.Never h x others e = removed-exact s n m i h.once x others e

pub planned : Planned
planned s n m i sound x others = (sound-of s i (m i) sound, exact-of s n m i (m i) sound x others refl)

-- the same next events
pub exact_same : (n m : Id → Next) (l : List Event) → ((i : Id) → m i ≡ n i) → Exact n l → Exact m l
exact_same n m l h x =
    record {
      sound = λ p w. let f = x.sound p w in record { owner = f.owner; cycle = f.cycle; flags = f.flags; next = h f.owner ∙ f.next; event = f.event };
      whole = λ i c f e. x.whole i c f (sym (h i) ∙ e);
      size = rw (h id.Zero, h id.One, h id.Two) x.size;
    }
