-- A part may go to another thread.
use denote.Param.Send.{IsSend, sendable}
use denote.Param.SendFields.{declared_send}
use Rattle.std.proofs.Crossing.{crosses}
use Rattle.shared_readers.proofs.SendLemmas.{reader_send}
use Rattle.reader_parts.specs.contracts.part.ReaderPart as Part

-- in the order of its fields
pub part_send : IsSend Part.the_row
part_send = declared_send Part.the_type
    (reader_send, (search sendable, (search sendable, (search (sendable, crosses) depth 60 fits 100000, (search sendable, tt)))))
