-- A line with its line feed, and without its comment.
use Rattle.std.proofs.Common.{◌≡◌, ℕ, List, [], ◌∷◌, length, sym, refl, subst, ◌∙◌, eq-eqb, ne_eqb, Option, Some, None}
use Rattle.words.specs.Words.{skip_of}
use Rattle.page.specs.Page.{Puts}
use Rattle.page.proofs.Sheets.{then, put_none}
use Rattle.bench_lines.specs.declared.desk.Bench.{Bench}
use Rattle.bench_lines.specs.declared.named.Heard.{Heard}
use Rattle.bench_lines.specs.declared.named.Later.{Later}
use Rattle.bench_lines.specs.Desk.{Sound}
use Rattle.bench_lines.specs.Named.{Lent, lent, Asking, Hears, worded_of}
use Rattle.bench_lines.specs.Steps.{saying, ended_by, ended_of, heard_of}

-- nothing said, and nothing asked
pub hears_none : (b : Bench) (page room area items : List ℕ) → Sound b → Hears (saying b [] (lent room area items)) page page room area items (record { bench = b; later = None })
hears_none b page room area items s = record { leaves = record { says = record { bench = refl; puts = put_none page; sound = s }; lent = refl }; later = refl }

-- ---- its line feed

module _ (x : Asking) (old mid room area items : List ℕ) (h : Heard) (l : Hears x old mid room area items h) where
  pub ended_later : (q : Later) → h.later ≡ Some q → Hears (ended_of x) old mid room area items h
  unfolding ended_by
  ended_later q e = subst (λ (o : Option Later). Hears (ended_by x o) old mid room area items h) (sym (sym l.later ∙ e)) l

  pub ended_now : (new : List ℕ) → h.later ≡ None → Puts mid new (10 ∷ []) → Hears (ended_of x) old new room area items h
  unfolding ended_by
  ended_now new e p =
      let w = l.leaves in
      rw (sym l.later ∙ e)
      (record { leaves = record { says = record { bench = w.says.bench; puts = then w.says.puts p; sound = w.says.sound }; lent = w.lent }; later = e })

-- ---- without its comment

module _ (b : Bench) (line : List ℕ) (l : Lent) (start : ℕ) (es : start ≡ skip_of line 0) where
  pub heard_none : start ≡ length line → heard_of b line l ≡ saying b [] l
  unfolding heard_of
  heard_none h = rw (← es, eq-eqb start (length line) h) refl

  pub heard_words : (start ≡ length line → ⊥) → heard_of b line l ≡ ended_of (worded_of b line start l)
  unfolding heard_of
  heard_words h = rw (← es, ne_eqb start (length line) h) refl
