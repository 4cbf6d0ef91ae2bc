use Rattle.std.proofs.Common.{◌≡◌, ◌+◌, ◌≤◌, length, take}
use Rattle.leaf_index.specs.Idle.{leaves_of, stamped}
use Rattle.leaf_index.proofs.ReleaseLemmas.{Sorts, freed_so}
use Rattle.leaf_index.proofs.release.release.Given as goal

abbrev pub invariant-retired : goal.invariant-retired
invariant-retired l = record {
  sorts : Sorts (length l.fn.links.items) l.until l.upto l.place l.stamps.items (leaves_of l.fn.links.items l.fn.free) (stamped l.stamps.items (leaves_of l.fn.links.items l.fn.retired)) (leaves_of l.links.items l.freed) (leaves_of l.links.items l.kept) (leaves_of l.links.items l.waiting);
  waiting_count : l.place + l.waiting.count ≡ l.fn.retired.count;
  counted : l.count ≡ length (freed_so l.until l.upto (take l.place (stamped l.stamps.items (leaves_of l.fn.links.items l.fn.retired))));
  small : l.count ≤ l.place;
  same_length : length l.links.items ≡ length l.fn.links.items;
}
