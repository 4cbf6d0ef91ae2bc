use Rattle.std.proofs.Common.{[], refl, ◌∙◌}
use Rattle.journal_disk.specs.Disk.{content}
use Rattle.journal_file.specs.Format.{file_of}
use Rattle.journal_file.proofs.WriteLemmas.{cut_read, new_is, new_gate, read_then, only_then}
use Rattle.journal_file.proofs.file.JournalFile.create.Goals as goal

pub returns-clause-settled : goal.returns-clause-settled
returns-clause-settled g c =
    let bytes = c.new_file-bytes.result in
    let empty = cut_read (content (g.K.Disk.state c.choose.new.self)) (content (g.K.Disk.state c.cut.new.self)) c.in_ok-cut.ensures.cut in
    let whole = new_is bytes ∙ c.new_file-bytes.ensures in
    record {
      entries = tt;
      count = refl;
      gate = new_gate c.args.kind;
      reads = read_then 0 bytes _ _ _ c.in_ok-write_and_sync.ensures.lays [] (file_of c.args.kind []) empty whole;
      durable = only_then 0 bytes _ _ _ c.in_ok-write_and_sync.ensures.lays [] (file_of c.args.kind []) empty whole;
    }
