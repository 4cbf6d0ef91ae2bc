use Rattle.std.proofs.Common.{◌∙◌, ◌-◌, refl, sym, ap, subst, arith}
use Rattle.std.specs.Prelude.{◌||◌}
use Rattle.std.proofs.lemmas.Bool.{true≢false}
use Rattle.std.proofs.lemmas.Result.{on_ok_weaker}
use Rattle.graph_model.specs.Legal.{IsLegal}
use Rattle.graph_model.specs.Account.{Account}
use Rattle.graph_model.proofs.PlaceLemmas.{some_eq}
use Rattle.serial_model.specs.Footprints.{depends}
use Rattle.serial_check.specs.Ranges.{covers}
use Rattle.job_runner.specs.Progress.{is_over}
use Rattle.serial_runner.proofs.PrepareLemmas.{prepares_line, prepares_commit, is_request}
use Rattle.serial_runner.proofs.run.prepare.Goals as goal

pub prepare_commit-requires-clause-legal : goal.prepare_commit-requires-clause-legal
prepare_commit-requires-clause-legal g c =
    let core = g.E.StepEngine.core c.args.engine.now in
    subst (λ kind. IsLegal kind core.journal) (sym c.requires.under.1.kind) c.requires.under.1.state.transactions.legal

pub prepare_commit-requires-clause-going : goal.prepare_commit-requires-clause-going
prepare_commit-requires-clause-going g c = λ job at.
    let here = c.in-Some.ensures.some in
    ap is_over (some_eq job here.0 (sym at ∙ here.2)) ∙ here.3

pub returns-then-is_commit-clause-ok : goal.returns-then-is_commit-clause-ok
returns-then-is_commit-clause-ok g c =
    let core = g.E.StepEngine.core c.args.engine.now in
    let here = c.in-Some.ensures.some in
    on_ok_weaker c.prepare_commit.result (λ says.
    (let p = says here.0 here.2 in
    prepares_commit core c.args.jobs.now (c.args.number - 1) here.0 here.2 here.3 c.in-Some.command.now here.1 here.4 (sym c.is_commit.ensures ∙ c.if-is_commit.true) c.args.number (omega (arith, c.requires.numbered)) c.args.check.now c.prepare_commit.new.jobs _ p.0 p.1
    p.2))
    c.prepare_commit.ensures.ok

pub returns-then-is_begin-clause-ok : goal.returns-then-is_begin-clause-ok
returns-then-is_begin-clause-ok g c =
    let core = g.E.StepEngine.core c.args.engine.now in
    let here = c.in-Some.ensures.some in
    prepares_line core c.args.jobs.now (c.args.number - 1) here.0 here.2 here.3 c.in-Some.command.now here.1 here.4 c.args.check.now _ (sym c.is_commit.ensures ∙ c.if-is_commit.false) refl
    (record { begins = λ _. c.clear.ensures; others = λ e. absurd (true≢false (sym c.if-is_begin.true ∙ c.is_begin.ensures ∙ e)) })

pub add-requires : goal.add-requires
add-requires g c =
    let here = c.in-Some.ensures.some in
    is_request c.requires.under.0 (g.E.StepEngine.core c.args.engine.now) c.args.jobs.now c.requires.under.1 (c.args.number - 1) here.0 here.2 c.in-Some.command.now here.1 here.4

pub returns-clause-ok : goal.returns-clause-ok
returns-clause-ok g c =
    let core = g.E.StepEngine.core c.args.engine.now in
    let here = c.in-Some.ensures.some in
    on_ok_weaker c.add.result (λ adds.
    (prepares_line core c.args.jobs.now (c.args.number - 1) here.0 here.2 here.3 c.in-Some.command.now here.1 here.4 c.args.check.now _ (sym c.is_commit.ensures ∙ c.if-is_commit.false) refl
    (record { begins = λ e. absurd (true≢false (sym e ∙ sym c.is_begin.ensures ∙ c.if-is_begin.false)); others = λ _ q row. adds q row ∙ ap (λ kind. covers c.args.check.now.footprint.items q || depends kind c.in-Some.command.now q) c.kind.ensures ∙ ap (λ (a : Account). covers c.args.check.now.footprint.items q || depends a.kind c.in-Some.command.now q) (g.met.E.StepEngine.accounts c.args.engine.now) })))
    c.add.ensures.ok
