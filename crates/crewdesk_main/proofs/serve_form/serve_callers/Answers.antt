use Rattle.std.proofs.Common.{◌≡◌, ◌∙◌, length, rules}
use Rattle.std.proofs.lemmas.List.{length-map}
use Rattle.day_replay.proofs.EndsLemmas.{EndsDay-done}
use Rattle.crewdesk_main.specs.Callers.{ServesNames}
use Rattle.crewdesk_main.proofs.serve_form.serve_callers.Goals as goal

pub returns-clause-ends : goal.returns-clause-ends
returns-clause-ends g c =
    let each : length c.loop-name.lines.items ≡ length c.args.names.now = search rules in
    EndsDay-done _ _ (ServesNames c.args.sessions (length c.args.names.now) _ _) _ _ _ _ _ _ _ _
    (λ Writes served. record { lines = _; later = _; count = length-map _ _ ∙ each; serves = served }) c.serve_by.ensures.ends
