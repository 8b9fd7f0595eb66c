-- A file whose log the first pass refuses, and one that the second pass writes.
use mathlib.Core.Path.{◌≡◌, refl, sym, ap, ◌∙◌}
use mathlib.Core.Bool.{true, false}
use lib.IntN.{pos}
use Rattle.std.specs.Prelude.{Option, None, Some, is_some}
use Rattle.std.specs.Option.{option_or}
use Rattle.verdict.specs.declared.Check.{Check}
use Rattle.dump.specs.Claims.{passes}
use Rattle.soak.specs.declared.refusal.Refusal.{Refusal}
use Rattle.soak.specs.declared.input.Input.{Input}
use Rattle.soak.specs.declared.output.Output.{Output}
use Rattle.soak.specs.Output.{output_of, wrote}
use Rattle.soak.specs.Passes.{first_refusal, second_refusal, Checks, Writes}
use Rattle.soak.specs.Files.{refused_first, refused_file, standard_output, standard_error, Dumps}
use Rattle.soak.proofs.SecondPass.{wrote_none}

first-one : (r s : Option Refusal) → is_some r ≡ true → r ≡ option_or r s
first-one None s e = cc
first-one (Some f) s e = refl

second-one : (r s : Option Refusal) → is_some r ≡ false → s ≡ option_or r s
second-one None s e = refl
second-one (Some f) s e = cc

module _ (i : Input) (c : Check) (r : Option Refusal) (o e : Output) (x : Checks i c) (k : r ≡ first_refusal i c) (p : o ≡ output_of (pos 1)) (q : e ≡ output_of (pos 2)) where
  refusal-first : refused_first i x.chunks ≡ r
  refusal-first = sym (k ∙ ap (first_refusal i) x.check)

  pub dumps-refused : (s : Option Refusal) (j : Input) (last e' : Output) → is_some r ≡ true → s ≡ r → j ≡ i → last ≡ o → e' ≡ wrote e (standard_error s) → Dumps (record { refusal = s; first = i; second = j; out = last; err = e' })
  unfolding refused_file standard_output
  dumps-refused s j last e' some same again none w = record {
    first = x.chunks;
    second = x.chunks;
    checks = x.pass;
    writes = rw again x.pass;
    refusal = same ∙ rw refusal-first (first-one r (second_refusal j) some);
    out = none ∙ p ∙ rw (refusal-first, some) (wrote_none (output_of (pos 1)));
    err = w ∙ ap (λ (d : Output). wrote d (standard_error s)) q;
  }

  pub dumps-written : (s : Option Refusal) (j : Input) (last e' : Output) → is_some r ≡ false → s ≡ second_refusal j → Writes c o j last → e' ≡ wrote e (standard_error s) → Dumps (record { refusal = s; first = i; second = j; out = last; err = e' })
  unfolding refused_file standard_output passes
  dumps-written s j last e' none same y w = record {
    first = x.chunks;
    second = y.chunks;
    checks = x.pass;
    writes = y.pass;
    refusal = same ∙ rw refusal-first (second-one r (second_refusal j) none);
    out = y.output ∙ rw (refusal-first, none, p, x.check);
    err = w ∙ ap (λ (d : Output). wrote d (standard_error s)) q;
  }
