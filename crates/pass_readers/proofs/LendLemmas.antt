-- A reader is split off a pass and joined with it, and what its own pass knows goes with it.
use Rattle.std.proofs.Common.{◌≡◌, ◌≢◌, ℕ, ◌+◌, ◌-◌, List, [], ◌∷◌, ◌++◌, refl, sym, ◌∙◌, ap, subst, arith, append-nil}
use Rattle.std.specs.Prelude.{None}
use Rattle.atomic_table.specs.Table.{Joins, Splits}
use Rattle.graph_model.specs.declared.journal.Commit.{Commit}
use Rattle.graph_model.specs.Legal.{IsLegal}
use Rattle.txn_manager.specs.declared.config.Config.{Config}
use Rattle.pass_steps.specs.RuleModel.Places.{lines}
use Rattle.pass_steps.specs.RuleModel.Sight.{HasPass, PinState, ReadState, Sight, no_reads, no_sight, with_pass}
use Rattle.pass_steps.specs.RuleModel.ViewSteps.{reader_seat}
use Rattle.pass_steps.proofs.RuleModel.ViewLemmas.{heap_is_of_no_account, reader_is_joined, reader_is_split}
use Rattle.pass_steps.specs.StoreRelation.Passes.{PassState}
use Rattle.pass_steps.specs.StoreRelation.Readers.{ReaderState}
use Rattle.pass_steps.specs.StoreRelation.Steps.{with_reader, with_readers, without_reader}
use Rattle.pass_steps.specs.StoreRelationDeclared.stage.Stage.TheVariants.{Open}
use Rattle.pass_steps.specs.StoreWords.Steps.{IsAccountTable}
use Rattle.pass_steps.specs.StoreRule.Passes.{OnlyAccount}
use Rattle.pass_steps.specs.StoreRuleDeclared.store.Pass.{Pass}
use Rattle.pass_steps.specs.StoreRuleDeclared.store.Store.{Store}
use Rattle.pass_steps.specs.Passes.{HasOpenTxn, IsOpenPass, IsSamePass, pin_of, state_in, state_of}
use Rattle.pass_steps.proofs.PassLemmas.{none_after, pass_after, pin_is, same_after, state_is}
use Rattle.pass_steps.proofs.SightLemmas.{own_rows, state_here}
use Rattle.pass_readers.specs.Readers.{IsReaderSeat, MayJoin, MaySplit, reader_in}

pub may_split : (z : Config) (v : Sight) (p : ℕ) → HasPass v p (state_in v p) → (state_in v p).stage ≡ Open
    → MaySplit z v (with_pass v p (with_reader (state_in v p))) (reader_seat (reader_in v p) [] no_reads)
may_split z v p has opened id =
    heap_is_of_no_account z (lines z.passes) id v _ _
    (λ heap. reader_is_split z (lines z.passes) heap id v p (state_in v p) has opened)

joins_seat : (z : Config) (v : Sight) (p : ℕ) → HasPass v p (state_in v p) → (x : ReaderState) → x.by.job ≡ p
    → (told : List Commit) (reads : ReadState)
    → MayJoin z v (reader_seat x told reads) (with_pass v p (without_reader (state_in v p)))
joins_seat z v p has x of told reads id other s r here apart there =
    (r.0, reader_is_joined z (lines z.passes) r.0 id v p (state_in v p) other x told reads has of s r.1 here apart there)

pub may_join : (z : Config) (v : Sight) (p : ℕ) (w : Sight) → HasPass v p (state_in v p) → IsReaderSeat p w
    → MayJoin z v w (with_pass v p (without_reader (state_in v p)))
may_join z v p w has seat =
    subst (λ (u : Sight). MayJoin z v u (with_pass v p (without_reader (state_in v p)))) (sym seat.is)
    (joins_seat z v p has seat.reader seat.of seat.told seat.reads)

-- ---- the pass that lends

-- its transaction is the same, with so many readers out
module _ (store : Store) (old new : Pass) (n : ℕ) (was : IsOpenPass store old)
    (step : OnlyAccount old new (with_pass old.account.me.0 old.number (with_readers (state_of old) n))) where
  abbrev after : Sight
  after = with_pass old.account.me.0 old.number (with_readers (state_of old) n)

  here : state_in after old.number ≡ with_readers (state_of old) n
  here = state_here old.account.me.0 old.number (with_readers (state_of old) n) []

  pub state_after : state_of new ≡ with_readers (state_of old) n
  state_after = state_is store old new after step ∙ here

  pub pin_after : pin_of new ≡ pin_of old
  pin_after = pin_is store old new after step

  pub same_pass : IsSamePass old new
  same_pass = same_after store old new after step refl

  pub stays_open : IsOpenPass store new
  stays_open = record {
    of = pass_after store old new after step was.of (own_rows was.of.sight (with_readers (state_of old) n) [])
        (subst (λ (st : PassState). IsLegal store.accounts.config.kind st.seen) (sym here) was.of.legal);
    none = none_after store old new after step was.none (record {
      cells = was.none.contents.cells;
      indexes = was.none.contents.indexes;
      journals = was.none.contents.journals;
    });
    opened = subst (λ (u : PassState × PinState). HasOpenTxn u.0 u.1) (λ i. (sym state_after i, sym pin_after i))
        (record {
          stage = was.opened.stage;
          laid = was.opened.laid;
          started = was.opened.started;
          stamped = was.opened.stamped;
          pinned = was.opened.pinned;
        });
  }
