use Rattle.std.proofs.Common.{inl, inr, refl, ◌∙◌}
use Rattle.csv.specs.Reading.{strip_bom}
use Rattle.record_rows.specs.Rows.{records_of}
use Rattle.record_rows.proofs.rows.reader_of.Goals as goal

pub returns : goal.returns
unfolding records_of
returns c =
    let fr = c.from_reader.ensures in
    let e = c.flexible.ensures in
    let h = c.has_headers.ensures in
    record {
      trim = rw (e, h) at fr.trim ∙ c.new.ensures.trim;
      ready = inr (inr (rw (e, h) at fr.has_headers, fr.headers));
      flexible = rw e at fr.flexible;
      config = rw (e, h) at fr.config ∙ c.new.ensures.config;
      bytes = strip_bom c.args.text.now;
      source = fr.source;
      between = inl fr.state;
      records = rw fr.state refl;
    }
