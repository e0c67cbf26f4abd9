-- What an entry says whose command was done, and one whose wasn't.
use Rattle.std.proofs.Common.{◌≡◌, true, false, cond, Option, None, ap, ◌∙◌}
use Rattle.desk_model.specs.declared.command.Cmd.{Cmd}
use Rattle.desk_model.specs.statements.Entry.{EntryValue}
use Rattle.desk_model.specs.histories.History.{is_done, said}

pub said-done : {X : Type 0} (f : Cmd → Option X) (e : EntryValue) (c : Cmd) → is_done e.reply ≡ true → e.stated.cmd ≡ c → said f e ≡ f c
said-done f e c done of = ap (λ d. cond d (f e.stated.cmd) None) done ∙ ap f of

pub said-refused : {X : Type 0} (f : Cmd → Option X) (e : EntryValue) → is_done e.reply ≡ false → said f e ≡ None
said-refused f e refused = ap (λ d. cond d (f e.stated.cmd) None) refused
