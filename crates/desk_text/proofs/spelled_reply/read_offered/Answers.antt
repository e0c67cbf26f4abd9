use Rattle.std.proofs.Common.{◌∷◌, ◌++◌, Some, decimal, ap, sym, arith}
use Rattle.command_parser.proofs.SpelledLemmas.{same}
use Rattle.desk_text.proofs.ReplyApartLemmas.{decimal-unbroken}
use Rattle.desk_text.proofs.SpelledReplyLemmas.{offered}
use Rattle.desk_text.proofs.spelled_reply.read_offered.Goals as goal

pub returns-in_err-person-clause-only : goal.returns-in_err-person-clause-only
returns-in_err-person-clause-only c = λ reply tells.
    let o = offered _ reply tells in
    absurd (c.in_err-person.ensures.only (decimal o.person) (o.board ++ 32 ∷ decimal o.position) (decimal-unbroken o.person (omega (arith, o.person_in))) o.kept_is)

pub returns-in_err-person-2-clause-only : goal.returns-in_err-person-2-clause-only
returns-in_err-person-2-clause-only c = λ reply tells.
    let o = offered _ reply tells in
    let both = c.in_ok-person.ensures.only (decimal o.person) (o.board ++ 32 ∷ decimal o.position) (decimal-unbroken o.person (omega (arith, o.person_in))) o.kept_is in
    let none = c.in_err-person-2.ensures.only o.person o.person_in both.0 in cc

pub returns-in_err-board-clause-only : goal.returns-in_err-board-clause-only
returns-in_err-board-clause-only c = λ reply tells.
    let o = offered _ reply tells in
    let both = c.in_ok-person.ensures.only (decimal o.person) (o.board ++ 32 ∷ decimal o.position) (decimal-unbroken o.person (omega (arith, o.person_in))) o.kept_is in
    let none = c.in_err-board.ensures.only o.board o.position o.board_in o.some o.most both.1 in cc

pub returns-clause-only : goal.returns-clause-only
returns-clause-only c = λ reply tells.
    let o = offered _ reply tells in
    let both = c.in_ok-person.ensures.only (decimal o.person) (o.board ++ 32 ∷ decimal o.position) (decimal-unbroken o.person (omega (arith, o.person_in))) o.kept_is in
    let person = same _ _ (c.in_ok-person-2.ensures.only o.person o.person_in both.0) in
    let index = same _ _ (c.in_ok-board.ensures.only o.board o.position o.board_in o.some o.most both.1) in
    rw (person, ap (λ p. p.0) index, ap (λ p. p.1) index) (ap Some (sym o.is))
