use Rattle.desk_model.proofs.SettledLemmas.{makes, next-offers, offer-offers, accepts, declines, is-silent, withdraws, annuls, drops}
use Rattle.desk_model.proofs.laws.commands.what_vacancies_and_offers_change.Goals as goal

pub returns-clause-vacancy : goal.returns-clause-vacancy
returns-clause-vacancy c job = makes job

pub returns-clause-next : goal.returns-clause-next
returns-clause-next c v p k b = next-offers v p k b

pub returns-clause-offer : goal.returns-clause-offer
returns-clause-offer c v q p k b = offer-offers v q p k b

pub returns-clause-accept : goal.returns-clause-accept
returns-clause-accept c v p = accepts v p

pub returns-clause-decline : goal.returns-clause-decline
returns-clause-decline c v p = declines v p

pub returns-clause-no_answer : goal.returns-clause-no_answer
returns-clause-no_answer c v p = is-silent v p

pub returns-clause-withdraw : goal.returns-clause-withdraw
returns-clause-withdraw c v p = withdraws v p

pub returns-clause-annul : goal.returns-clause-annul
returns-clause-annul c v = annuls v

pub returns-clause-drop : goal.returns-clause-drop
returns-clause-drop c p = drops p
