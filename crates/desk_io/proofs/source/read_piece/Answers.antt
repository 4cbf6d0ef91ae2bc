use Rattle.std.proofs.Common.{arith, ◌≡◌, ◌+◌, ◌++◌, ◌≤◌, ◌∙◌, ap, length, take, length-append, length-take}
use Rattle.std.proofs.lemmas.List.{take-append-le}
use Rattle.desk_io.proofs.FilesLemmas.{IsFront-append}
use Rattle.desk_io.proofs.source.read_piece.Goals as goal

pub returns-clause-piece : goal.returns-clause-piece
returns-clause-piece g c =
    let place : c.len-at.result ≡ length c.args.bytes.now.items = omega (arith, c.len-at.ensures) in
    let bound : c.in_ok-count.count ≤ length c.read.new.buffer = omega (arith, c.in_ok-count.ensures.bound, c.read.auto.buffer) in
    let part = take c.in_ok-count.count c.read.new.buffer in
    let items : c.extend_from_slice.new.self.items ≡ c.args.bytes.now.items ++ part =
    c.in_ok-extend_from_slice.ensures.items ∙ ap (λ more. c.args.bytes.now.items ++ more) (take-append-le _ _ _ bound) in
    let longer : length c.extend_from_slice.new.self.items ≡ length c.args.bytes.now.items + c.in_ok-count.count =
    rw items (omega (arith, length-append c.args.bytes.now.items part, length-take c.in_ok-count.count c.read.new.buffer)) in (
      omega (arith, c.if-count-eq0.false),
      omega (arith, c.if-count-room.false),
      IsFront-append _ _ _ _ _ _ _ place bound items c.requires.front c.in_ok-count.ensures.bytes,
    )
