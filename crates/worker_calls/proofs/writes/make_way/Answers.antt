use Rattle.std.proofs.Common.{refl, subst, sym}
use Rattle.graph_model.specs.declared.row.Key.{Key}
use Rattle.graph_model.specs.Rows.{end_key, is_below}
use Rattle.std.specs.Prelude.{◌≡◌, ◌≤◌, true}
use Rattle.reader_parts.specs.SharedStore.Passes.{account_of}
use Rattle.worker_calls.proofs.RoomLemmas.{full_writes, memory_writes, one_or_two, written_below}
use Rattle.worker_calls.proofs.writes.make_way.Goals as goal

pub room_for-requires-clause-asked : goal.room_for-requires-clause-asked
room_for-requires-clause-asked g c =
    let counted = one_or_two _ c.requires.needs.1 in
    record {
      below = subst (λ (k : Key). is_below k end_key ≡ true) (sym c.key.ensures)
          (written_below c.args.store.now.accounts.config.kind c.args.write _ c.requires.within c.requires.needs.0);
      some = subst (λ n. 1 ≤ n) (sym c.need.ensures) counted.0;
      few = subst (λ n. n ≤ 2) (sym c.need.ensures) counted.1;
    }

pub returns-in-Err-Full-clause-refused : goal.returns-in-Err-Full-clause-refused
returns-in-Err-Full-clause-refused g c =
    let old = account_of c.args.store.now c.args.pass.now in
    let is = rw c.in-Err-Full.field-0-is at c.in-Err-Full.ensures in
    full_writes old old (account_of c.args.store.now c.room_for.new.pass) c.args.write c.in-Err-Full.leaves refl
    c.requires.allowed c.requires.needs.2 is.refused is.account

pub returns-in-Err-NoMemory-clause-refused : goal.returns-in-Err-NoMemory-clause-refused
returns-in-Err-NoMemory-clause-refused g c =
    let is = rw c.in-Err-NoMemory.field-0-is at c.in-Err-NoMemory.ensures in
    memory_writes (account_of c.args.store.now c.args.pass.now) (account_of c.args.store.now c.room_for.new.pass)
    c.args.write is.account
