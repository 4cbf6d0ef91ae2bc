use Rattle.std.proofs.Common.{◌≡◌, ◌-◌, ◌<◌, true, false, length, refl, sym, ◌∙◌, ap, arith, inl, inr}
use Rattle.std.specs.Prelude.{slice_get, Some}
use Rattle.std.proofs.lemmas.Bool.{cases_eq}
use Rattle.std.proofs.lemmas.Option.{slice_get_read}
use Rattle.graph_model.proofs.PlaceLemmas.{some_eq}
use Rattle.serial_model.specs.Footprints.{writes_in}
use Rattle.serial_model.proofs.CommitLemmas.{newest_none, newest_here}
use Rattle.serial_check.specs.Ranges.{covers}
use Rattle.serial_check.proofs.against.check.Goals as goal

pub returns-then-writes_in : goal.returns-then-writes_in
returns-then-writes_in c =
    let journal = c.args.journal.now in
    let place = c.commits.place - 1 in
    let commit = c.index-journal-place.result in
    let after : c.args.start < c.commits.place = c.commits-test.true in
    let inside : place < length journal = omega (arith, after, c.commits.invariant.within) in
    let at : slice_get journal place ≡ Some commit = slice_get_read journal (length journal) place commit refl inside c.index-journal-place.is in
    let foot = covers c.args.footprint.now.items in
    let wrote : writes_in c.args.kind foot commit.writes ≡ true = ap (writes_in c.args.kind foot) (sym c.as_slice.ensures) ∙ sym c.writes_in.ensures ∙ c.if-writes_in.true in
    sym (newest_here c.args.kind journal c.args.start foot (λ i d e. (c.requires.each i d e).stamped) place commit at (omega (arith, after)) wrote
    (λ i d lt e. c.commits.invariant.clear i d (omega (arith, lt)) e))

pub commits-preserved : goal.commits-preserved
commits-preserved c =
    let journal = c.args.journal.now in
    let place = c.commits.place - 1 in
    let commit = c.index-journal-place.result in
    let after : c.args.start < c.commits.place = c.commits-test.true in
    let inside : place < length journal = omega (arith, after, c.commits.invariant.within) in
    let at : slice_get journal place ≡ Some commit = slice_get_read journal (length journal) place commit refl inside c.index-journal-place.is in
    let foot = covers c.args.footprint.now.items in
    let none : writes_in c.args.kind foot commit.writes ≡ false = ap (writes_in c.args.kind foot) (sym c.as_slice.ensures) ∙ sym c.writes_in.ensures ∙ c.if-writes_in.false in
    record {
      within = omega (arith, c.commits.invariant.within);
      clear = λ i d le e. elim (cases_eq i place) as (λ _. writes_in c.args.kind foot d.writes ≡ false) [
        | inl same ↦ ap (λ x. writes_in c.args.kind foot x.writes) (some_eq d commit (sym e ∙ ap (slice_get journal) same ∙ at)) ∙ none
        | inr other ↦ c.commits.invariant.clear i d (omega (arith, le, other, after)) e
      ];
    }

pub returns : goal.returns
returns c = sym (newest_none c.args.kind c.args.journal.now c.args.start (covers c.args.footprint.now.items) (λ i d e. (c.requires.each i d e).stamped)
    (λ i d le e. c.commits.invariant.clear i d (omega (arith, le, c.commits-test.false)) e))
