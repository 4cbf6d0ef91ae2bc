use Rattle.std.proofs.Common.{◌∙◌, inl, inr}
use Rattle.row_table.proofs.TableLemmas.{table_there, table_put, found_below, behind_put}
use Rattle.row_table.proofs.rows.RowTable.put.Goals as goal

pub put-requires-clause-room : goal.put-requires-clause-room
put-requires-clause-room c =
    let at = rw (← c.self.view_is) at c.requires.at in
    let room = rw (← c.self.view_is) at c.requires.room in
    elim room [ inl lt ↦ inl lt | inr stays ↦ inr (λ e. stays (table_there c.self.inside.rows.rows _ c.args.key c.args.place c.is_fenced.ensures.fenced.sorted at ∙ e)) ]

pub invariant_of-self : goal.invariant_of-self
invariant_of-self c =
    let at = rw (← c.self.view_is) at c.requires.at in
    behind_put _ _ _ c.args.place c.self.invariant _ (found_below _ c.self.inside.rows.rows c.args.place at) c.put.ensures.heads

pub returns-clause-heads : goal.returns-clause-heads
returns-clause-heads c =
    let at = rw (← c.self.view_is) at c.requires.at in
    rw (← c.self.view_is) (table_put c.self.inside.rows.rows _ _ c.args.key c.args.place c.args.heads c.is_fenced.ensures.fenced.sorted at c.put.ensures.heads)

pub returns-clause-kept : goal.returns-clause-kept
returns-clause-kept c =
    let at = rw (← c.self.view_is) at c.requires.at in
    rw (← c.self.view_is) (λ stays. c.put.ensures.kept (λ e. stays (table_there c.self.inside.rows.rows _ c.args.key c.args.place c.is_fenced.ensures.fenced.sorted at ∙ e)))
