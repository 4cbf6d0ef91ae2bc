use Rattle.std.proofs.Common.{◌≡◌, ◌≤◌, ◌∙◌, ap, length, subst, sym}
use Rattle.graph_model.specs.declared.state.State.{State}
use Rattle.store_rule.specs.StoreRelation.ReadLaws.{Answers}
use Rattle.undo_chain.specs.States.{Grows, IsAnswer}
use Rattle.store_rule.specs.RuleModel.Sight.{Sight}
use Rattle.pass_steps.specs.Asking.{is_writer, is_vouched, knowledge_at, state_at, word_kept}
use Rattle.pass_steps.specs.Passes.{state_in}
use Rattle.pass_steps.proofs.AskLemmas.{looked_seen, word_answers, word_grows}
use Rattle.pass_steps.proofs.states.PassStatesStates.state.Goals as goal

pub returns-clause-answer : goal.returns-clause-answer
returns-clause-answer g c =
    let asking = g.B.Asker.asking in
    let inv = c.self.invariant in
    let v = c.self.inside.seat.me.0 in
    let p = c.self.inside.number in
    let n = c.look-word.result in
    let seen = looked_seen asking.number asking.sight v inv.looked in
    let near = inv.published in
    let low : length (state_in v asking.number).seen ≤ asking.clock =
    subst (λ cs. length cs ≤ asking.clock) (sym seen) near in
    let answers = subst (λ q. Answers (state_in v q).seen c.args.by n) inv.number_is c.look-word.ensures.answers in
    let right = word_answers asking.clock (state_in v asking.number).seen c.args.by n (is_writer asking.config v)
    (is_vouched asking.clock (state_in v asking.number).looks) low c.look-word.ensures.word answers in
    subst (λ (u : Sight × State). IsAnswer (knowledge_at asking.config asking.number asking.clock u.0) c.args.by u.1)
    (λ i. (c.self.view_is i, sym (c.state_by.ensures ∙ ap (λ k. state_at k n) inv.clock_is) i)) right

pub returns-clause-grows : goal.returns-clause-grows
returns-clause-grows g c =
    let asking = g.B.Asker.asking in
    let v = c.self.inside.seat.me.0 in
    let n = c.look-word.result in
    let now : c.look-word.new.seat.me.0 ≡ word_kept asking.number c.args.by n v =
    ap (λ m. m.0) c.look-word.ensures.kept.me ∙ ap (λ q. word_kept q c.args.by n v) c.self.invariant.number_is in
    subst (λ (u : Sight × Sight). Grows (knowledge_at asking.config asking.number asking.clock u.0)
    (knowledge_at asking.config asking.number asking.clock u.1))
    (λ i. (c.self.view_is i, sym now i)) (word_grows asking.config asking.number asking.clock c.args.by n v)
