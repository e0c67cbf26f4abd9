use Rattle.std.proofs.Common.{◌≡◌, Bool, Decides, sym, arith, ◌∙◌, length-append, [], ◌∷◌}
use Rattle.line_writer.specs.declared.reply_sort.ReplySort.TheVariants as sort
use Rattle.line_writer.specs.declared.reply_sort.ReplySort.{ReplySort}
use Rattle.line_writer.proofs.TallyLemmas.{count-raised, sort-told}
use Rattle.line_writer.proofs.tally.Tally.count.Goals as goal

pub returns : goal.returns
returns c = λ h few counts.
    let e = c.args.entry.now in
    let told = λ (s : ReplySort) (so : Bool) (is : Decides so (c.of-sort.result ≡ s)).
    sort-told s c.of-sort.result e.reply so is (rw (← c.reply.ensures) c.of-sort.ensures.is) (rw (← c.reply.ensures) c.of-sort.ensures.only) in
    record {
      commands = omega (arith, few, counts.commands, c.raised-self.ensures, length-append h.entries (e ∷ []));
      done = count-raised sort.Done h.entries e _ _ _ few counts.done (told sort.Done _ c.is.ensures) c.raised-self-2.ensures;
      offered = count-raised sort.Offered h.entries e _ _ _ few counts.offered (told sort.Offered _ c.is-2.ensures) c.raised-self-3.ensures;
      unfilled = count-raised sort.Unfilled h.entries e _ _ _ few counts.unfilled (told sort.Unfilled _ c.is-3.ensures) c.raised-self-4.ensures;
      denied = count-raised sort.Denied h.entries e _ _ _ few counts.denied (told sort.Denied _ c.is-4.ensures) c.raised-self-5.ensures;
      told = count-raised sort.Told h.entries e _ _ _ few counts.told (told sort.Told _ c.is-5.ensures) c.raised-self-6.ensures;
      refused = count-raised sort.Refused h.entries e _ _ _ few counts.refused (told sort.Refused _ c.is-6.ensures) c.raised-self-7.ensures;
      moment = c.moment-self.ensures ∙ sym (c.what_an_entry_makes_of_the_desk.ensures.moment h e);
    }
