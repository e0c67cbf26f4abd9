use Rattle.csv.specs.Records.{fields_of}
use Rattle.record_rows.proofs.ReadLemmas.{read-left}
use Rattle.record_rows.proofs.rows.read_next.Goals as goal

pub returns : goal.returns
returns c = λ left has.
    read-left c.args.rdr.now c.read_byte_record.new.self c.in-Ok.found (fields_of c.read_byte_record.new.row) left has
    (c.in-Ok.ensures.reads has.trim has.ready) (c.in-Ok.ensures.ready has.trim) c.in-Ok.ensures.flexible
