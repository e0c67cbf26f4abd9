use Rattle.std.proofs.Common.{◌≡◌}
use Rattle.std.proofs.lemmas.Bool.{OnFalse_from}
use Rattle.desk_io.specs.Giving.{AddsFront}
use Rattle.desk_model.specs.histories.History.{History}
use Rattle.desk_model.specs.texts.Journal.{journal}
use Rattle.day_replay.specs.Replay.{goes_on}
use Rattle.crewdesk_main.proofs.ContinueLemmas.{AddsFront-goes_on}
use Rattle.crewdesk_main.proofs.go_on.write_more.Goals as goal

pub returns-else-put_all-clause-front : goal.returns-else-put_all-clause-front
returns-else-put_all-clause-front g c = OnFalse_from c.put_all.result ((h : History) → g.C.DeskCore.stands c.args.core.now h → c.args.text.now ≡ journal h
    → AddsFront (g.K.Sink.held c.args.sink.now) (g.K.Sink.held c.put_all.new.sink) (journal (goes_on h c.args.commands.now)))
    (λ failed h stands is. AddsFront-goes_on _ _ h c.args.commands.now c.args.text.now is c.if-put_all.ensures.front)
