-- What the code leaves is a step of the script.
use Rattle.std.proofs.Common.{◌≡◌, ℕ, Bool, true, false, cond, eqb, ltb, List, [], ◌++◌, length, take, sym, refl, ap, ◌∙◌, subst, Option, Some, None, IfSome}
use Rattle.words.specs.Words.{skip_of, find_of}
use Rattle.words.specs.Numbers.{between}
use Rattle.page.specs.Page.{Puts}
use Rattle.page.proofs.Lengths.{either}
use Rattle.board.specs.Calls.{Areas, areas_of}
use Rattle.bench_lines.specs.declared.desk.Bench.{Bench}
use Rattle.bench_lines.specs.declared.desk.Shelf.{Shelf}
use Rattle.bench_lines.specs.declared.named.Command.{Command}
use Rattle.bench_lines.specs.declared.named.Command.TheVariants as command
use Rattle.bench_lines.specs.declared.named.Later.{Later}
use Rattle.bench_lines.specs.Named.{Lent, lent, Asking, named_of, later_of, command_of, commanded_of, worded_of, Hears}
use Rattle.bench_lines.specs.Shelved.{shelved_of}
use Rattle.bench_lines.specs.Steps.{State, counted, saying, ended_by, heard_of, first_of, plain, after, shelving, later, then_by, step_of, so_far}
use Rattle.bench_lines.specs.Claims.{left, Stepped, TurnIsStep, ShelvedIsStep, CodeIsStep}

-- ---- a line that asks something of the shelf has said nothing

abbrev Silent : Asking → Type 0
Silent x = (q : Later) → x.later ≡ Some q → x.lined.told.bytes ≡ []

-- what asks nothing
none-asked : {P : Type 0} (q : Later) → ◌≡◌ {A = Option Later} None (Some q) → P
none-asked q e = absurd (subst (λ (o : Option Later). IfSome o (λ _. ⊥)) e tt)

commanded-silent : (b : Bench) (line : List ℕ) (at : ℕ) (c : Option Command) (l : Lent) → Silent (commanded_of b line at c l)
unfolding commanded_of named_of later_of
commanded-silent b line at None l = none-asked
commanded-silent b line at (Some (command.Timer name)) l = none-asked
commanded-silent b line at (Some command.Config) l = none-asked
commanded-silent b line at (Some command.Preset) l = none-asked
commanded-silent b line at (Some command.Pin) l = none-asked
commanded-silent b line at (Some command.Wdt) l = none-asked
commanded-silent b line at (Some command.Writes) l = none-asked
commanded-silent b line at (Some command.Item) l = none-asked
commanded-silent b line at (Some command.Door) l = none-asked
commanded-silent b line at (Some command.Log) l = none-asked
commanded-silent b line at (Some command.Record) l = none-asked
commanded-silent b line at (Some (command.Shelf d)) l = λ q e. refl

ended-silent : (x : Asking) (asked : Option Later) → Silent x → Silent (ended_by x asked)
unfolding ended_by
ended-silent x None s = none-asked
ended-silent x (Some q) s = s

first-silent : (b : Bench) (line : List ℕ) (l : Lent) → Silent (first_of b line l)
unfolding first_of heard_of
first-silent b line l =
    let p = plain line in
    let x = worded_of (counted b) p (skip_of p 0) l in
    let at = find_of p (skip_of p 0) 32 in
    either Silent (ltb 500 (length line)) none-asked
    (either Silent (eqb (skip_of p 0) (length p)) none-asked
    (ended-silent x x.later (commanded-silent (counted b) p at (command_of (between p (skip_of p 0) at)) l)))

-- ---- a step, by what is asked

step-now : (s : State) (line : List ℕ) → (first_of s.bench line s.lent).later ≡ None → step_of s line ≡ after s (first_of s.bench line s.lent)
unfolding step_of then_by
step-now s line e = rw e refl

step-later : (s : State) (line : List ℕ) (q : Later) → (first_of s.bench line s.lent).later ≡ Some q → step_of s line ≡ later s line (first_of s.bench line s.lent) q
unfolding step_of then_by
step-later s line q e = rw e refl

-- ---- the code

turn-steps : TurnIsStep
turn-steps s bytes input start old new room area items line r t e z =
    let ln = so_far bytes input start in
    let x = first_of s.bench ln s.lent in
    let h = subst (λ (u : Bool). Hears (cond u x (saying s.bench [] s.lent)) old new room area items (record { bench = r.bench; later = r.later })) e t.hears in
    let answers = s.answers ++ x.lined.told.bytes in
    record {
      bytes = x.lined.told.bytes;
      puts = h.leaves.says.puts;
      step =
          ap (λ (b : Bench). left b s.shelf (lent room area items) s.one s.two answers) h.leaves.says.bench
          ∙ ap (λ (l : Lent). left x.lined.told.bench s.shelf l s.one s.two answers) h.leaves.lent
          ∙ sym (step-now s ln (sym h.later ∙ z));
    }

shelved-steps : ShelvedIsStep
shelved-steps s bytes input start old new room area items line r q t n last room' one two y w = go r.ended t.hears
  where
    ln : List ℕ
    ln = so_far bytes input start

    x : Asking
    x = first_of s.bench ln s.lent

    go : (u : Bool) → Hears (cond u x (saying s.bench [] s.lent)) old new room area items (record { bench = r.bench; later = r.later })
        → Stepped s ln old last y.bench y.shelf (lent room' area items) one two
    go false h = none-asked q (sym h.later ∙ n)
    go true h =
        let m : x.later ≡ Some q = sym h.later ∙ n in
        let same : new ≡ old = (subst (λ (k : List ℕ). Puts old new k) (first-silent s.bench ln s.lent q m) h.leaves.says.puts).after in
        let worked = shelved_of r.bench s.shelf (areas_of room s.one s.two) (take q.end line.bytes) q.device q.at in
        let answers = s.answers ++ worked.bytes in
        record {
          bytes = worked.bytes;
          puts = subst (λ (p : List ℕ). Puts p last worked.bytes) same w.puts;
          step =
              ap (λ (b : Bench). left b y.shelf (lent room' area items) one two answers) w.bench
              ∙ ap (λ (k : Shelf). left worked.bench k (lent room' area items) one two answers) w.shelf
              ∙ ap (λ (a : Areas). left worked.bench worked.shelf (lent a.zero area items) a.one a.two answers) w.areas
              ∙ ap (λ (b : Bench). of b (lent room area items) (take q.end line.bytes)) h.leaves.says.bench
              ∙ ap (λ (l : Lent). of x.lined.told.bench l (take q.end line.bytes)) h.leaves.lent
              ∙ ap (of x.lined.told.bench x.lined.lent) (subst (λ (o : Option Later). IfSome o (λ p. take p.end line.bytes ≡ take p.end ln)) n t.asked)
              ∙ sym (step-later s ln q m);
        }
      where
        of : Bench → Lent → List ℕ → State
        of b l text = shelving s l (shelved_of b s.shelf (areas_of l.room s.one s.two) text q.device q.at)

pub code-is-step : CodeIsStep
code-is-step = (turn-steps, shelved-steps)
