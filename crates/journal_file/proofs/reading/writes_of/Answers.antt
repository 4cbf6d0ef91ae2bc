use Rattle.std.proofs.Common.{◌≡◌, ◌+◌, ◌-◌, ◌*◌, take, drop, sym, ◌∙◌, arith}
use Rattle.std.specs.Prelude.{Some, None}
use Rattle.journal_file.specs.Reading.{write_of, writes_of}
use Rattle.journal_file.proofs.ReadLemmas.{put_all, writes_next, writes_none}
use Rattle.journal_file.proofs.reading.writes_of.Goals as goal

pub returns-in-None : goal.returns-in-None
returns-in-None c =
    let place = c.writes.place in
    let bytes = c.args.bytes.now in
    let len : 25 ≡ 25 * place + 25 - 25 * place = omega arith in
    sym (writes_none c.args.count place bytes c.writes.writes.items c.writes-test.true c.writes.invariant
    ((λ i. write_of (take (len i) (drop (25 * place) bytes))) ∙ sym c.write_of.ensures ∙ c.in-None.is))

pub writes-preserved : goal.writes-preserved
writes-preserved c =
    let place = c.writes.place in
    let bytes = c.args.bytes.now in
    let len : 25 ≡ 25 * place + 25 - 25 * place = omega arith in
    writes_next c.args.count place bytes c.writes.writes.items c.writes-test.true c.writes.invariant c.in-Some.write
    ((λ i. write_of (take (len i) (drop (25 * place) bytes))) ∙ sym c.write_of.ensures ∙ c.in-Some.is)
    ∙ (λ i. put_all (sym c.in_ok-push-in-Some.ensures.items i) (writes_of (c.args.count - (place + 1)) (drop (25 * (place + 1)) bytes)))
