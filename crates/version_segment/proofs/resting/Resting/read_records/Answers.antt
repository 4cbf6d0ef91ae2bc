use Rattle.std.proofs.Common.{◌≡◌, ◌∙◌, subst, sym}
use Rattle.std.specs.Prelude.{slice_get, IfSome}
use Rattle.store_model.specs.Stamped.{read_stamped}
use Rattle.row_table.specs.UndoChain.Chains.{list_at}
use Rattle.row_table.specs.UndoChain.Records.{value_of}
use Rattle.row_table.specs.UndoChain.States.{AreNamed}
use Rattle.row_table.specs.Checks.{IsNamed}
use Rattle.row_table.specs.HeadMap.Heads.{heads_placed}
use Rattle.row_table.specs.HeadMapDeclared.heads.Heads.{Heads}
use Rattle.version_segment.specs.Resting.{value_in_word, with_newest, RestingRows}
use Rattle.version_segment.proofs.StampLemmas.{named_at, read_at}
use Rattle.version_segment.proofs.resting.Resting.read_records.Goals as goal

pub value_at-requires-clause-named : goal.value_at-requires-clause-named
value_at-requires-clause-named g c =
    let names = (g.S.States.knowledge c.args.states.now).names in
    let r = c.self.inside.heads in
    let newest = value_in_word c.args.word in
    let named = subst (λ (x : RestingRows). IfSome (slice_get x.rows c.args.place) (λ h. IsNamed names (with_newest newest h.versions))) (sym c.self.view_is) c.requires.named in
    subst (λ (h : Heads). AreNamed names (list_at r.chains h.undos)) (sym c.get-row.ensures)
    (named_at r.chains names newest r.count (heads_placed r.heads.entries) c.args.place c.self.invariant.0 named)

pub returns-clause-value : goal.returns-clause-value
returns-clause-value g c =
    let stamps = (g.S.States.knowledge c.args.states.now).stamps in
    let snapshot = c.args.snapshot.now in
    let r = c.self.inside.heads in
    let newest = value_in_word c.args.word in
    let is = c.value_at.ensures.value
    ∙ (λ i. value_of stamps snapshot (c.value_in_word-newest.ensures i) (list_at r.chains (c.get-row.ensures i).undos)) in
    subst (λ (x : RestingRows). IfSome (slice_get x.rows c.args.place)
    (λ h. c.value_at.result ≡ read_stamped stamps snapshot.start snapshot.own (with_newest newest h.versions))) c.self.view_is
    (read_at r.chains stamps snapshot r.count (heads_placed r.heads.entries) c.args.place newest c.value_at.result is)
