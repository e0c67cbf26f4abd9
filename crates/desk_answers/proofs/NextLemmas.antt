-- The entry that the rules give, by its parts.
use Rattle.std.proofs.Common.{◌≡◌, ℕ, ap, ◌∙◌}
use Rattle.desk_model.specs.declared.reply.Reply.{Reply}
use Rattle.desk_model.specs.statements.Statement.{StatedValue}
use Rattle.desk_model.specs.statements.Entry.{EntryValue, entry_of}
use Rattle.desk_model.specs.histories.History.{History}
use Rattle.desk_model.specs.histories.Legal.{moment, answer, next}

-- an entry of the moment and the answer is the next one
pub next-is : (h : History) (caller : ℕ) (s : StatedValue) (m : ℕ) (reply : Reply) (e : EntryValue)
    → m ≡ moment h s.minute → reply ≡ answer h s → e ≡ entry_of caller s m reply → e ≡ next h caller s
unfolding next
next-is h caller s m reply e m-is reply-is e-is =
    e-is ∙ ap (λ x. entry_of caller s x reply) m-is ∙ ap (entry_of caller s (moment h s.minute)) reply-is
