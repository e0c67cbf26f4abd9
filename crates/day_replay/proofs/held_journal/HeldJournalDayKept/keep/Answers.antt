use Rattle.std.proofs.Common.{◌-◌, [], ◌∷◌, ◌++◌, ◌∙◌, ap, arith}
use Rattle.day_replay.specs.Held.{held_lines}
use Rattle.day_replay.proofs.JournalLemmas.{HoldsJournal-line}
use Rattle.day_replay.proofs.held_journal.HeldJournalDayKept.keep.Goals as goal

pub returns : goal.returns
returns c = λ h held few zero spelled.
    let added = c.in_ok-add_text.ensures in
    let more = HoldsJournal-line c.args.self.now.opening.items c.args.self.now.lines.items c.push.new.self.items c.args.self.now.texts.items c.add_text.new.self.texts.items
    (record { stated = c.bytes_or_none-stated_bytes.result; bytes = c.len.result - c.len-before.result }) h c.args.entry.now
    (c.in_ok-push.ensures.items ∙ ap (λ ls. ls.items ++ record { stated = c.bytes_or_none-stated_bytes.result; bytes = c.len.result - c.len-before.result } ∷ []) added.lines)
    added.added (omega (arith, c.len.ensures, c.len-before.ensures)) zero (c.bytes_or_none-stated_bytes.ensures c.args.entry.now spelled) held.text held.bytes in
    record {
      text = ap (λ o. o.items ++ held_lines c.push.new.self.items c.add_text.new.self.texts.items) added.opening ∙ more.0;
      bytes = more.1;
    }
