-- The steps of a begin and of a commit, one behind the other, with the journal in hand.
use Rattle.std.proofs.Common.{◌≡◌, ℕ, ◌+◌, ◌≤◌, [], ◌∷◌, ◌++◌, refl, ◌∙◌, subst, arith}
use Rattle.std.specs.Prelude.{true}
use Rattle.graph_model.specs.declared.journal.Commit.{Commit}
use Rattle.graph_model.specs.Legal.{IsLegal}
use Rattle.graph_model.proofs.HistoryLemmas.{each_item}
use Rattle.items.specs.Room.{WithRoom}
use Rattle.txn_manager.specs.declared.config.Config.{Config}
use Rattle.store_rule.specs.StoreRelation.Keys.{changed_keys}
use Rattle.store_rule.specs.StoreRelation.Passes.{PassState}
use Rattle.store_rule.specs.StoreRelation.Shared.{IsMet, JournalState, entries, entry_of}
use Rattle.store_rule.proofs.StoreRelation.MeetLemmas.{later_found}
use Rattle.store_rule.specs.StoreRelation.Steps.{begun, committed, committing, published_now, refreshed, with_entry}
use Rattle.store_rule.specs.RuleModel.Sight.{PinState, with_commit, with_pass, with_pin}
use Rattle.store_rule.specs.RuleModel.TxnSteps.{TellsClock, TellsJournal}
use Rattle.store_rule.specs.Passes.{OnlyAccount}
use Rattle.store_rule.specs.Slots.{IsListOf}
use Rattle.store_rule.specs.declared.store.Pass.{Pass}
use Rattle.store_rule.specs.declared.store.Store.{Store}
use Rattle.pass_steps.specs.Journal.{HasTaken}
use Rattle.pass_steps.specs.Passes.{journal_in, pin_of, state_of}
use Rattle.pass_steps.specs.Txns.{Opens, Refreshes}
use Rattle.pass_steps.proofs.PassLemmas.{taken_commit, taken_pass, taken_pin}
use Rattle.pass_steps.proofs.SightLemmas.{journal_is}

-- what the clock has told, of a pass whose state and journal are these
pub clock_told : (store : Store) (pass : Pass) (st : PassState) (x : PinState) (j : JournalState) (n : ℕ)
    → HasTaken store pass st x j
    → TellsClock store.accounts.config (state_of pass) (journal_in pass.account.me.0) n
    → TellsClock store.accounts.config st j n
clock_told store pass st x j n taken =
    subst (λ (u : PassState × JournalState). TellsClock store.accounts.config u.0 u.1 n)
    (λ i. (taken.state i, journal_is pass.account.me.0 j taken.journal i))

-- BEGIN: announced, and begun
pub hand_announced : (store : Store) (old new : Pass) (st : PassState) (x : PinState) (j : JournalState)
    → HasTaken store old st x j
    → OnlyAccount old new (with_pin old.account.me.0 old.number (record (pin_of old) { announced = true }))
    → HasTaken store new st (record x { announced = true }) j
hand_announced store old new st x j taken step =
    taken_pin store old new st x j taken (record x { announced = true })
    (subst (λ (u : PinState). OnlyAccount old new (with_pin old.account.me.0 old.number
    (record u { announced = true }))) taken.pin step)

pub hand_begun : (store : Store) (old new : Pass) (st : PassState) (x : PinState) (j : JournalState)
    → HasTaken store old st x j → IsLegal store.accounts.config.kind j.commits
    → OnlyAccount old new (with_pass old.account.me.0 old.number
    (begun (state_of old) (journal_in old.account.me.0)))
    → HasTaken store new (begun st j) x j
hand_begun store old new st x j taken legal step =
    taken_pass store old new st x j taken (begun st j) legal
    (subst (λ (u : PassState × JournalState). OnlyAccount old new
    (with_pass old.account.me.0 old.number (begun u.0 u.1)))
    (λ i. (taken.state i, journal_is old.account.me.0 j taken.journal i)) step)

-- COMMIT: the stamp is stored, and published
pub hand_stamped : (store : Store) (old new : Pass) (st : PassState) (x : PinState) (j : JournalState)
    → HasTaken store old st x j
    → OnlyAccount old new (with_commit old.account.me.0 old.number (committing (state_of old))
    (with_entry (journal_in old.account.me.0) old.number (state_of old)))
    → HasTaken store new (committing st) x (with_entry j old.number st)
hand_stamped store old new st x j taken step =
    taken_commit store old new st x j taken (committing st) (with_entry j old.number st)
    (subst (λ (u : PassState). IsLegal store.accounts.config.kind u.seen) taken.state taken.of.legal)
    (subst (λ (u : PassState × JournalState). OnlyAccount old new (with_commit old.account.me.0 old.number
    (committing u.0) (with_entry u.1 old.number u.0)))
    (λ i. (taken.state i, journal_is old.account.me.0 j taken.journal i)) step)

pub hand_published : (store : Store) (old new : Pass) (st : PassState) (x : PinState) (j : JournalState)
    → HasTaken store old st x j → IsLegal store.accounts.config.kind (entries (journal_in old.account.me.0))
    → OnlyAccount old new (with_commit old.account.me.0 old.number
    (committed (state_of old) (journal_in old.account.me.0)
    (changed_keys store.accounts.config.kind (state_of old).own))
    (published_now (journal_in old.account.me.0)))
    → HasTaken store new (committed st j (changed_keys store.accounts.config.kind st.own)) x (published_now j)
hand_published store old new st x j taken legal step =
    let keys = changed_keys store.accounts.config.kind st.own in
    let is = journal_is old.account.me.0 j taken.journal in
    taken_commit store old new st x j taken (committed st j keys) (published_now j)
    (subst (λ (u : JournalState). IsLegal store.accounts.config.kind (entries u)) is legal)
    (subst (λ (u : PassState × JournalState). OnlyAccount old new (with_commit old.account.me.0 old.number
    (committed u.0 u.1 (changed_keys store.accounts.config.kind u.0.own)) (published_now u.1)))
    (λ i. (taken.state i, is i)) step)

-- the list has the entry
pub list_published : (j : JournalState) (p : ℕ) (st : PassState) (v1 v2 : WithRoom Commit) (c : Commit)
    → IsListOf j v1 → c ≡ entry_of j p st → v2.items ≡ v1.items ++ c ∷ [] → v1.spare ≤ v2.spare + 1
    → IsListOf (published_now (with_entry j p st)) v2
list_published j p st v1 v2 c list is items spare =
    let room : j.room ≤ v1.spare = list.room in
    record {
      commits = items ∙ (λ i. list.commits i ++ is i ∷ []);
      next = refl;
      room = omega (arith, room, spare);
    }

-- REFRESH
pub journal_told : (store : Store) (pass : Pass) (st : PassState) (x : PinState) (j : JournalState) (n : ℕ)
    → HasTaken store pass st x j
    → TellsJournal store.accounts.config (state_of pass) (journal_in pass.account.me.0) n
    → TellsJournal store.accounts.config st j n
journal_told store pass st x j n taken =
    subst (λ (u : PassState × JournalState). TellsJournal store.accounts.config u.0 u.1 n)
    (λ i. (taken.state i, journal_is pass.account.me.0 j taken.journal i))

pub hand_seen : (store : Store) (old new : Pass) (st : PassState) (x : PinState) (j : JournalState)
    → HasTaken store old st x j → IsLegal store.accounts.config.kind j.commits
    → OnlyAccount old new (with_pass old.account.me.0 old.number
    (refreshed (state_of old) (journal_in old.account.me.0).commits))
    → HasTaken store new (refreshed st j.commits) x j
hand_seen store old new st x j taken legal step =
    taken_pass store old new st x j taken (refreshed st j.commits) legal
    (subst (λ (u : PassState × JournalState). OnlyAccount old new
    (with_pass old.account.me.0 old.number (refreshed u.0 u.1.commits)))
    (λ i. (taken.state i, journal_is old.account.me.0 j taken.journal i)) step)

pub refresh_sees : (z : Config) (st new : PassState) (j : JournalState) (clock : ℕ) → TellsJournal z st j clock
    → new ≡ refreshed st j.commits → Refreshes z st clock new
refresh_sees z st new j clock told is = record {
  commits = j.commits;
  front = told.seen;
  is = is;
  clock_is = told.is;
  met = λ i m at start up low.
      later_found z.kind j m (each_item (IsMet z.kind j) st.met told.met i m at) told.legal start up
      (let same = told.is in omega (arith, low, same));
}

-- what is begun at the clock that was told
pub opens_by : (z : Config) (st new : PassState) (j : JournalState) (start : ℕ) → TellsClock z st j start
    → new ≡ begun st j → Opens st start new
opens_by z st new j start told is = record { journal = j; front = told.seen; is = is; start_is = told.is }
