use Rattle.std.proofs.Common.{◌≡◌, ◌++◌, ◌∷◌, [], sym, ◌∙◌, ap, subst}
use Rattle.leaf_index.specs.Index.{Index}
use Rattle.leaf_store.specs.Changes.{MovesRows}
use Rattle.leaf_store.specs.Merging.{KeepsParts}
use Rattle.leaf_store.specs.Table.{IsKept, leaves_of, segments_at}
use Rattle.leaf_store.proofs.HalfLemmas.{half_divides, half_halves, half_moved, live_at, split_refused}
use Rattle.leaf_store.proofs.SameLemmas.{keeps_parts, one_same, same_self}
use Rattle.leaf_store.proofs.SplitLemmas.{nothing_kept}
use Rattle.leaf_store.proofs.split.split_at.Goals as goal

pub split_with-requires-clause-live : goal.split_with-requires-clause-live
split_with-requires-clause-live c =
    let p = c.requires.can in
    (live_at c.args.index.now c.args.leaves.now.items p.key c.args.place c.take_free.new.self.entries c.requires.kept p.at p.below (sym (ap (λ (i : Index). i.entries) c.in-Some.ensures.0))).live

pub returns-in-Ok-clause-ok : goal.returns-in-Ok-clause-ok
returns-in-Ok-clause-ok c =
    let p = c.requires.can in
    let l = live_at c.args.index.now c.args.leaves.now.items p.key c.args.place c.take_free.new.self.entries c.requires.kept p.at p.below (sym (ap (λ (i : Index). i.entries) c.in-Some.ensures.0)) in
    record {
      room = λ key is below.
          let l = live_at c.args.index.now c.args.leaves.now.items key c.args.place c.take_free.new.self.entries c.requires.kept is below (sym (ap (λ (i : Index). i.entries) c.in-Some.ensures.0)) in
          (half_moved c.args.index.now c.take_free.new.self c.split_with.new.index c.args.leaves.now.items c.split_with.new.leaves.items key c.args.place c.in-Some.leaf c.requires.kept is below c.in-Some.ensures.0 c.in-Some.ensures.1
          (c.in-Ok.ensures.ok l.live l.number) c.requires.can.many c.is_index.ensures.index).room;
      divides = half_divides c.args.index.now c.take_free.new.self c.split_with.new.index c.args.leaves.now.items c.split_with.new.leaves.items p.key c.args.place c.in-Some.leaf c.requires.kept p.at p.below c.in-Some.ensures.0 c.in-Some.ensures.1
          (c.in-Ok.ensures.ok l.live l.number) c.requires.can.many c.is_index.ensures.index;
      halves = half_halves c.args.index.now c.take_free.new.self c.split_with.new.index c.args.leaves.now.items c.split_with.new.leaves.items p.key c.args.place c.in-Some.leaf c.requires.kept p.at p.below c.in-Some.ensures.0 c.in-Some.ensures.1
          (c.in-Ok.ensures.ok l.live l.number) c.requires.can.many c.is_index.ensures.index;
    }

pub returns-in-Ok-clause-moved : goal.returns-in-Ok-clause-moved
returns-in-Ok-clause-moved c =
    let p = c.requires.can in
    let l = live_at c.args.index.now c.args.leaves.now.items p.key c.args.place c.take_free.new.self.entries c.requires.kept p.at p.below (sym (ap (λ (i : Index). i.entries) c.in-Some.ensures.0)) in
    let moved = half_moved c.args.index.now c.take_free.new.self c.split_with.new.index c.args.leaves.now.items c.split_with.new.leaves.items p.key c.args.place c.in-Some.leaf c.requires.kept p.at p.below c.in-Some.ensures.0 c.in-Some.ensures.1
    (c.in-Ok.ensures.ok l.live l.number) c.requires.can.many c.is_index.ensures.index in
    record {
      kept = moved.kept;
      moves = moved.moves;
      retired = ap (λ (i : Index). i.retired) (c.in-Ok.ensures.ok l.live l.number).index_is ∙ sym (ap (λ (i : Index). i.retired) c.in-Some.ensures.0);
    }

pub returns-in-Err-clause-err : goal.returns-in-Err-clause-err
returns-in-Err-clause-err c =
    let same : c.give_back.new.self ≡ c.args.index.now = c.give_back.ensures ∙ ap (λ (i : Index). record i { free = i.free ++ c.in-Some.leaf ∷ [] }) c.in-Err.ensures.err.same ∙ sym c.in-Some.ensures.0 in
    subst (λ (i : Index). KeepsParts (leaves_of c.args.index.now c.args.leaves.now.items) (leaves_of i c.split_with.new.leaves.items)) (sym same)
    (keeps_parts c.args.index.now c.args.leaves.now.items c.split_with.new.leaves.items (one_same c.args.leaves.now.items c.split_with.new.leaves.items c.args.place.leaf c.in-Err.ensures.err.keeps.others c.in-Err.ensures.err.keeps.same))

pub returns-in_default-clause-err : goal.returns-in_default-clause-err
returns-in_default-clause-err c =
    let table = c.args.leaves.now.items in
    subst (λ (i : Index). KeepsParts (leaves_of c.args.index.now table) (leaves_of i table)) (sym c.in_default.ensures.1) (keeps_parts c.args.index.now table table (λ n. same_self (segments_at table n)))

pub returns-in-Err-clause-moved : goal.returns-in-Err-clause-moved
returns-in-Err-clause-moved c =
    let p = c.requires.can in
    let same : c.give_back.new.self ≡ c.args.index.now = c.give_back.ensures ∙ ap (λ (i : Index). record i { free = i.free ++ c.in-Some.leaf ∷ [] }) c.in-Err.ensures.err.same ∙ sym c.in-Some.ensures.0 in
    let refused = split_refused c.args.index.now c.args.leaves.now.items c.split_with.new.leaves.items p.key c.args.place c.requires.kept p.at p.below c.in-Err.ensures.err.keeps in
    record {
      kept = subst (λ (i : Index). IsKept i c.split_with.new.leaves.items) (sym same) refused.kept;
      moves = subst (λ (i : Index). MovesRows (leaves_of c.args.index.now c.args.leaves.now.items) (leaves_of i c.split_with.new.leaves.items)) (sym same) refused.moves;
      retired = ap (λ (i : Index). i.retired) same;
    }

pub returns-in_default-clause-moved : goal.returns-in_default-clause-moved
returns-in_default-clause-moved c =
    let p = c.requires.can in
    let table = c.args.leaves.now.items in
    let same = c.in_default.ensures.1 in
    let stays = split_refused c.args.index.now table table p.key c.args.place c.requires.kept p.at p.below (nothing_kept table c.args.place.leaf) in
    record {
      kept = subst (λ (i : Index). IsKept i table) (sym same) stays.kept;
      moves = subst (λ (i : Index). MovesRows (leaves_of c.args.index.now table) (leaves_of i table)) (sym same) stays.moves;
      retired = ap (λ (i : Index). i.retired) same;
    }
