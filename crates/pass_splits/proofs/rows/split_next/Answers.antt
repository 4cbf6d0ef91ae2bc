use Rattle.std.proofs.Common.{◌≡◌, ◌++◌, ◌∷◌, [], ℕ, List, sym, ◌∙◌, ap, subst}
use Rattle.leaf_index.specs.Index.{Entry, Index}
use Rattle.pass_moves.specs.LeafStore.Ranges.{IsLive}
use Rattle.pass_moves.specs.Moving.{values_of}
use Rattle.pass_splits.specs.Splitting.{DividesCells, TakesLeaf}
use Rattle.pass_splits.proofs.FreeLemmas.{never_none, one_last, takes_leaf}
use Rattle.pass_splits.proofs.rows.split_next.Goals as goal

pub unreachable-requires : goal.unreachable-requires
unreachable-requires c = never_none c.requires.next.0 c.args.other (sym c.requires.next.1 ∙ c.in_default.ensures.0)

pub split_rows-requires-clause-live : goal.split_rows-requires-clause-live
split_rows-requires-clause-live c =
    subst (λ es. IsLive es (values_of c.args.left.now)) (ap (λ (i : Index). i.entries) c.in-Some.ensures.0)
    c.requires.live

pub returns-in-Ok-clause-ok : goal.returns-in-Ok-clause-ok
returns-in-Ok-clause-ok c =
    let old = c.args.index.now in
    let mid = c.take_free.new.self in
    let new = c.split_rows.new.index in
    let leaf = c.in-Some.leaf in
    let takes = c.in-Some.ensures.0 in
    let same : leaf ≡ c.args.other = one_last mid.free c.requires.next.0 leaf c.args.other
    (sym (ap (λ (i : Index). i.free) takes) ∙ c.requires.next.1) in
    let divides = subst (λ es. (live : IsLive es (values_of c.args.left.now)) → DividesCells leaf es new.entries
    c.args.left.now c.args.right.now c.split_rows.new.left c.split_rows.new.right live)
    (sym (ap (λ (i : Index). i.entries) takes)) c.in-Ok.ensures.ok in (
      subst (λ n. TakesLeaf n old new) same
          (takes_leaf old mid leaf takes new c.in-Some.ensures.1 c.split_rows.ensures.others),
      subst (λ n. (live : IsLive old.entries (values_of c.args.left.now)) → DividesCells n old.entries new.entries
          c.args.left.now c.args.right.now c.split_rows.new.left c.split_rows.new.right live) same divides,
    )

pub returns-in-Err-clause-err : goal.returns-in-Err-clause-err
returns-in-Err-clause-err c =
    let err = c.in-Err.ensures.err in (
      c.give_back.ensures ∙ ap (λ (i : Index). record i { free = i.free ++ c.in-Some.leaf ∷ [] }) err.0
          ∙ sym c.in-Some.ensures.0,
      err.1,
      err.2,
    )
