use Rattle.std.proofs.Common.{◌≡◌, ◌≤◌, ◌∙◌, ap, length, subst, sym}
use Rattle.graph_model.specs.declared.state.State.{State}
use Rattle.undo_chain.specs.States.{Grows, IsAnswer}
use Rattle.pass_steps.specs.RuleModel.Sight.{Sight}
use Rattle.pass_steps.specs.Asking.{is_writer, state_at}
use Rattle.pass_steps.proofs.AskLemmas.{word_answers}
use Rattle.std.specs.Prelude.{true}
use Rattle.pass_readers.specs.Looks.{knowledge_in}
use Rattle.pass_readers.specs.Readers.{read_in}
use Rattle.pass_readers.proofs.looks.ReaderStatesStates.state.Goals as goal

pub returns-clause-answer : goal.returns-clause-answer
returns-clause-answer g c =
    let asking = g.B.Reading.asking in
    let inv = c.self.invariant in
    let v = c.self.inside.seat.me.0 in
    let n = c.look-word.result in
    let near = inv.published in
    let low : length (read_in v).seen ≤ asking.clock =
    subst (λ (u : Sight). length (read_in u).seen ≤ asking.clock) (sym inv.sight_is) near in
    let right = word_answers asking.clock (read_in v).seen c.args.by n (is_writer asking.config v)
    (λ by state. true) low c.look-word.ensures.word c.look-word.ensures.answers in
    subst (λ (u : Sight × State). IsAnswer (knowledge_in asking.config u.0) c.args.by u.1)
    (λ i. (c.self.view_is i, sym (c.state_by.ensures ∙ ap (λ k. state_at k n) inv.clock_is) i)) right
