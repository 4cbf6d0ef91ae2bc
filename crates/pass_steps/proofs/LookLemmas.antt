-- A pass may load the word of a writer of a record that it holds, and keep it.
use Rattle.std.proofs.Common.{◌≡◌, ◌⊎◌, ◌<◌, ℕ, subst}
use Rattle.std.specs.declared.alloc.Global.{Global}
use Rattle.atomic_table.specs.Table.{Me}
use Rattle.graph_model.specs.declared.journal.TxnName.{TxnName}
use Rattle.txn_manager.specs.declared.config.Config.{Config}
use Rattle.store_rule.specs.StoreRelation.ReadLaws.{Answers}
use Rattle.store_rule.specs.RuleModel.Places.{lines}
use Rattle.store_rule.specs.RuleModel.Sight.{HasPass, Sight}
use Rattle.store_rule.specs.RuleModel.Steps.{AllowsLoad}
use Rattle.store_rule.proofs.RuleModel.NoteStepLemmas.{look_is_kept}
use Rattle.pass_steps.specs.Asking.{HasWriter, word_kept}
use Rattle.pass_steps.specs.Passes.{state_in}

pub look_may_be_kept : (z : Config) (heap : Global) (slots id : ℕ) (me : Me (Unit {0}) Sight) (p : ℕ) (by : TxnName)
    (place : ℕ) → (lines z.passes).pass by.job ≡ place → HasPass me.0 p (state_in me.0 p) → HasWriter z me.0 by
    → AllowsLoad z (lines z.passes) heap slots id me place (λ n. word_kept p by n me.0)
    (λ n. Answers (state_in me.0 p).seen by n × ((n ≡ 1) ⊎ (2 < n)))
look_may_be_kept z heap slots id me p by place at has w =
    subst (λ k. AllowsLoad z (lines z.passes) heap slots id me k (λ n. word_kept p by n me.0)
    (λ n. Answers (state_in me.0 p).seen by n × ((n ≡ 1) ⊎ (2 < n)))) at
    (subst (λ (b : TxnName). AllowsLoad z (lines z.passes) heap slots id me ((lines z.passes).pass b.job)
    (λ n. word_kept p b n me.0)
    (λ n. Answers (state_in me.0 p).seen b n × ((n ≡ 1) ⊎ (2 < n)))) w.by
    (λ s r homes here small.
    let y = look_is_kept z (lines z.passes) heap slots id me p (state_in me.0 p) w.number w.cell w.key w.stamped has
    w.record_in w.bare s r homes here small in
    (y.0, y.1, y.2, y.3, (y.4.0, (y.4.1.answers, y.4.1.open_or_stamped)))))
