-- `log::record::Log::note_free` meets its contract.
use Rattle.buslog.specs.Note.{written}
use Rattle.buslog.specs.Record.{four_bytes}
use Rattle.buslog.proofs.Records.{behind}
use Rattle.buslog.proofs.log.Log.note_free.Goals as goal

pub returns : goal.returns
unfolding written four_bytes
returns c = behind _ _ c.begin.ensures c.put_all.ensures c.to_be_bytes.ensures
