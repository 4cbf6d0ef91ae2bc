-- Which rows of a commit are still to be stamped.
use Rattle.std.specs.Prelude.{◌≡◌, ◌++◌, true, false, List}
use Rattle.graph_model.specs.declared.journal.TxnName.{TxnName}
use Rattle.graph_model.specs.declared.row.Key.{Key}
use Rattle.graph_model.specs.declared.write.Kind.{Kind}
use Rattle.graph_model.specs.declared.write.Write.{Write}
use Rattle.pass_prunes.specs.StoreRelation.Keys.{changed_keys, has_key}
use Rattle.pass_prunes.specs.StoreRelation.Passes.{PassState}
use Rattle.pass_prunes.specs.StoreRelation.Steps.{with_unstamped}
use Rattle.pass_prunes.specs.StoreRelationDeclared.stage.Stage.TheVariants.{Aborting}
use Rattle.pass_prunes.specs.StoreRuleDeclared.store.Pass.{Pass}
use Rattle.pass_prunes.specs.PassSteps.Passes.{name_of_pass, state_of}
use Rattle.pass_prunes.specs.RowWrites.Written.{rows_of, touched_keys, written_keys}

-- only rows that these writes change
abbrev pub AreLeft : Kind → List Write → List Key → Type 0
AreLeft kind ws keys = (q : Key) → has_key keys q ≡ true → has_key (changed_keys kind ws) q ≡ true

-- the keys of the rows that a write changes
abbrev pub keys_changed : Kind → Write → List Key
keys_changed kind w = written_keys (rows_of kind w) ++ touched_keys (rows_of kind w)

-- these rows are left, more words may have been found, and nothing else of the pass has changed
abbrev pub LeavesRows : List Key → PassState → PassState → Type 0
LeavesRows keys old new = new ≡ record (with_unstamped old keys) { looks = new.looks }

-- those of one write are stamped, and maybe others, more words may have been found, and nothing else has changed
pub record AreStampedTo (kind : Kind) (w : Write) (old new : PassState) : Type 0 where
  pub is : LeavesRows new.unstamped old new
  pub left : (q : Key) → has_key new.unstamped q ≡ true → has_key old.unstamped q ≡ true
  pub gone : (q : Key) → has_key (keys_changed kind w) q ≡ true → has_key new.unstamped q ≡ false

-- the pass takes the writes of this transaction back
pub record IsAborting (pass : Pass) (by : TxnName) : Type 0 where
  pub stage : (state_of pass).stage ≡ Aborting
  pub name : by ≡ name_of_pass pass
