use Rattle.leaf_rows.proofs.KnownLemmas.{answers}
use Rattle.leaf_rows.proofs.reader.KnownStates.state.Goals as goal

pub returns-clause-answer : goal.returns-clause-answer
returns-clause-answer c = rw c.state.ensures.state (answers c.args.self.now.manager.now c.args.by)
