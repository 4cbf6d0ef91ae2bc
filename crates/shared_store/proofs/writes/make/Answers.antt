use Rattle.std.proofs.Common.{◌≡◌, ◌∙◌, refl, sym, subst}
use Rattle.leaf_rows.specs.RowWrites.Checks.{TellsEdges}
use Rattle.pass_writes.specs.PassSteps.Passes.{state_of}
use Rattle.pass_writes.specs.StoreRuleDeclared.store.Pass.{Pass as Seats}
use Rattle.pass_writes.specs.Making.{Makes}
use Rattle.shared_store.proofs.PassLemmas.{makes_kept, open_in, view_is}
use Rattle.shared_store.proofs.writes.make.Goals as goal

pub write-written-requires-clause-opened : goal.write-written-requires-clause-opened
write-written-requires-clause-opened g c =
    open_in c.args.store.now c.args.pass.now c.latest-begun.result c.requires.opened c.latest-begun.ensures.by
    c.latest-begun.ensures.start

pub write-written-requires-clause-known : goal.write-written-requires-clause-known
write-written-requires-clause-known g c = record {
  within = c.requires.within;
  edges = subst (λ graph. TellsEdges (λ v answer. answer ≡ c.args.has_edges) graph c.args.write)
      (view_is c.args.store.now c.args.pass.now c.requires.opened) c.requires.edges;
}

pub returns-clause-opened : goal.returns-clause-opened
returns-clause-opened g c =
    makes_kept c.args.store.now c.args.pass.now _ c.keep.new.pass c.args.write c.write-written.result
    c.requires.opened c.requires.within c.write-written.ensures.back.none c.write-written.ensures.makes
    c.write-written.ensures.back.pin c.write-written.ensures.back.same refl refl refl refl c.keep.ensures

pub returns-clause-makes : goal.returns-clause-makes
returns-clause-makes g c =
    let old = c.args.pass.now in
    subst (λ (s : Seats). Makes c.args.store.now.accounts.config old.seats.number (state_of old.seats) c.args.write
    c.write-written.result (state_of s)) (sym c.keep.ensures.seats) c.write-written.ensures.makes

pub returns-clause-number : goal.returns-clause-number
returns-clause-number g c = (λ i. (c.keep.ensures.seats i).number) ∙ c.write-written.ensures.back.same.number
