use Rattle.std.proofs.Common.{rules}
use Rattle.script_lang.specs.Early.{IsEarly}
use Rattle.script_lang.proofs.EarlyLemmas.{held, zip_append}
use Rattle.script_lang.proofs.early.+texts.Goals as goal

pub read_both-returns : goal.read_both-returns
read_both-returns g t c =
    let first = held c.join-first.result.0 c.in_ok-early.early _ c.join-first.ensures.first (search rules) in
    let second = held c.join-first.result.1 c.in_ok-second.second _ c.join-first.ensures.second (search rules) in
    rw c.in_ok-append.ensures.items
    (zip_append (IsEarly c.args.taken.now) c.args.front.now c.in_ok-early.early.items c.args.behind.now c.in_ok-second.second.items first second)
