use Rattle.std.proofs.Common.{◌+◌, ◌*◌}
use Rattle.script_lang.proofs.early.+texts.Given as goal

abbrev pub decreases-read_texts : goal.decreases-read_texts
decreases-read_texts g l = 4 * l.cuts + 3

abbrev pub decreases-read_both : goal.decreases-read_both
decreases-read_both g l = 4 * l.cuts + 2

abbrev pub decreases-read_both-join+arg2 : goal.decreases-read_both-join+arg2
decreases-read_both-join+arg2 g l = 4 * l.cuts + 1

abbrev pub decreases-read_both-join+arg3 : goal.decreases-read_both-join+arg3
decreases-read_both-join+arg3 g l = 4 * l.cuts + 1
