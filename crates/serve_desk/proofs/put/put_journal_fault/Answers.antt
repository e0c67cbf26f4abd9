use Rattle.std.proofs.Common.{◌∙◌, [], ◌∷◌, refl, sym, inr}
use Rattle.caller_lines.specs.LineCalls.{PutText}
use Rattle.serve_desk.specs.Texts.{journal_fault}
use Rattle.serve_desk.proofs.ToldLemmas.{with_all-one}
use Rattle.serve_desk.proofs.put.put_journal_fault.Goals as goal

pub returns-then-put-clause-puts : goal.returns-then-put-clause-puts
returns-then-put-clause-puts g c = record {
  texts = journal_fault ∷ [];
  tells = inr refl;
  told = c.finish-written.ensures.told ∙ c.if-put.ensures.puts ∙ sym (with_all-one _ (PutText journal_fault));
}
