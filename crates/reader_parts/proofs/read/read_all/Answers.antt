use Rattle.std.proofs.Common.{◌≡◌, ◌++◌, drop, length, arith, subst, sym}
use Rattle.std.specs.List.{AllByRecursion, AllZip}
use Rattle.reader_parts.specs.Parts.{HasRead, MayRead}
use Rattle.reader_parts.proofs.ListLemmas.{front_of}
use Rattle.reader_parts.proofs.SplitLemmas.{as_many}
use Rattle.reader_parts.proofs.read.read_all.Goals as goal

pub read_each-requires-clause-unread : goal.read_each-requires-clause-unread
read_each-requires-clause-unread g c κs within =
    subst (AllByRecursion (MayRead c.args.store.now)) (sym c.as_mut_slice.ensures.value) c.requires.unread

pub returns : goal.returns
returns g c =
    let store = c.args.store.now in
    let old = c.as_mut_slice.result.now in
    let new = c.read_each.new.parts in
    let many = as_many store old new c.read_each.ensures.read in
    let count : c.args.parts.now.len ≡ length new =
    omega (arith, many, c.args.parts.now.ok, c.as_mut_slice.ensures) in
    record {
      read = subst (AllZip (HasRead store) c.args.parts.now.items)
          (sym (front_of c.args.parts.now.len new (drop (length new) c.args.parts.now.items) count))
          (subst (λ xs. AllZip (HasRead store) xs new) c.as_mut_slice.ensures.value c.read_each.ensures.read);
    }
