use Rattle.std.proofs.Common.{[], ◌∷◌, refl, Some}
use Rattle.desk_model.specs.histories.History.{step_of, steps}
use Rattle.desk_model.proofs.LegalLemmas.{IsRight}
use Rattle.desk_model.proofs.SaidLemmas.{steps-snoc}
use Rattle.std.proofs.lemmas.List.Elements.{All-pop}
use Rattle.board_window.proofs.laws.the_last_entry_is_next.Goals as goal

pub returns-clause-legal : goal.returns-clause-legal
returns-clause-legal c h e legal = c.the_first_entries_are_legal.ensures.begins _ _ _ (e ∷ [], refl) legal

pub returns-clause-next : goal.returns-clause-next
returns-clause-next c h e legal = let parts = All-pop IsRight _ (steps h) (Some (step_of h e)) (steps-snoc h e) legal.each in parts.1
