use Rattle.std.specs.Prelude.{◌≡◌, ◌⊎◌, ◌<◌}
use Rattle.store_rule.specs.StoreRelation.ReadLaws.{Answers}
use Rattle.pass_steps.specs.Asking.{word_kept}
use Rattle.pass_steps.specs.Passes.{state_in}
use Rattle.pass_steps.proofs.states.look.Given as given

abbrev pub ghosts-load_as : given.ghosts-load_as
ghosts-load_as a = record {
  next = λ n v. word_kept a._about.now.0 a._about.now.1 n v;
  told = λ n v. Answers (state_in v a._about.now.0).seen a._about.now.1 n × ((n ≡ 1) ⊎ (2 < n));
}
