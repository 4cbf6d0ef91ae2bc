use Rattle.std.proofs.Common.{◌≡◌, ◌+◌, ◌-◌, ◌≤◌, length, ◌∙◌, ap, arith}
use Rattle.journal_disk.specs.Disk.{content}
use Rattle.journal_file.proofs.ReadLemmas.{piece_len, piece_more, told_piece}
use Rattle.journal_file.proofs.recovery.fill.Goals as goal

pub pieces-preserved : goal.pieces-preserved
pieces-preserved g c =
    let done = c.pieces.done in
    let buffer = c.pieces.buffer in
    let count = c.in_ok-count.count in
    let some = c.read.new.buffer in
    let le : done ≤ length buffer = omega (arith, c.pieces-test.true) in
    let room : length some ≡ length buffer - done = omega (arith, c.read.auto.buffer) in
    let bound : count ≤ length some = omega (arith, c.in_ok-count.ensures.bound, c.read.auto.buffer) in
    let len = piece_len done buffer some le room in
    record {
      within = omega (arith, len, bound, room, le);
      len = len ∙ c.pieces.invariant.len;
      same = c.in_ok-count.ensures.ok ∙ c.pieces.invariant.same;
      front = λ file told.
          piece_more done buffer some le room count c.args.at file bound (c.pieces.invariant.front file told)
          (told_piece (content (g.K.Disk.state c.pieces.disk)) file (c.args.at + done) some count (ap content c.pieces.invariant.same ∙ told) c.in_ok-count.ensures.bytes);
    }
