use Rattle.std.proofs.Common.{◌<◌, ◌≤◌, [], length, get_or, sym, ◌∙◌, refl, arith}
use Rattle.std.specs.Prelude.{◌≢◌}
use Rattle.command_words.specs.Words.{taken_names}
use Rattle.command_words.specs.Views.{run_request, taken_name}
use Rattle.command_words.proofs.NameLemmas.{differ_at, more_firsts, up_to}
use Rattle.command_words.proofs.command.RunWords.has_distinct_names.Goals as goal

pub returns-then-is : goal.returns-then-is
returns-then-is c = (
  λ wrong. cc,
  λ all. absurd (
      let after : c.firsts.i < c.seconds.j = omega arith in
      let within : c.seconds.j < length (taken_names (run_request c.args.self.now)) = omega (arith, c.taken_len-count.ensures) in
      all c.firsts.i c.seconds.j [] after within (sym c.taken.ensures ∙ c.if-is.ensures.0 refl ∙ c.taken-in-seconds.ensures)),
)

pub seconds-preserved : goal.seconds-preserved
seconds-preserved c = λ b d above below.
    let names = taken_names (run_request c.args.self.now) in
    up_to (λ k. get_or names c.firsts.i d ≢ get_or names k d) c.firsts.i c.seconds.j (λ k. c.seconds.invariant k d)
    (differ_at names c.firsts.i c.seconds.j (omega (arith, c.taken_len-count.ensures)) (omega (arith, c.taken_len-count.ensures))
    (taken_name c.taken.result) (taken_name c.taken-in-seconds.result) c.taken.ensures c.taken-in-seconds.ensures
    (λ same. let wrong = c.if-is.ensures.1 same in cc) d)
    b above below

pub firsts-preserved : goal.firsts-preserved
firsts-preserved c = λ a b d lt above below.
    let all : c.taken_len-count.result ≤ c.seconds.j = omega arith in
    more_firsts (taken_names (run_request c.args.self.now)) c.firsts.i c.seconds.j c.taken_len-count.result all c.firsts.invariant c.seconds.invariant a b d lt above below

pub returns : goal.returns
returns c = (
  λ yes i j d above below. c.firsts.invariant i j d (omega (arith, c.taken_len-count.ensures)) above (omega (arith, c.taken_len-count.ensures)),
  λ all. refl,
)
