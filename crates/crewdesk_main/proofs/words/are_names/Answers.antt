use Rattle.std.proofs.Common.{◌≡◌, ◌∙◌, ◌+◌, ◌-◌, false, true, if◌then◌else◌, length, take, drop, sym, ap, rules, arith, length-drop}
use Rattle.std.proofs.lemmas.List.{take_all}
use Rattle.std.specs.Prelude.{string_bytes}
use Rattle.crewdesk_main.specs.Words.{are_names, is_before}
use Rattle.crewdesk_main.proofs.NameLemmas.{names-at, names-all}
use Rattle.crewdesk_main.proofs.words.are_names.Goals as goal

pub returns-then-not-is_before : goal.returns-then-not-is_before
returns-then-not-is_before c =
    let rest = drop (c.loop-at.at + 1) c.args.words.now in
    let whole : take (length c.args.words.now - (c.loop-at.at + 1)) rest ≡ rest = take_all _ rest (omega (arith, length-drop (c.loop-at.at + 1) c.args.words.now)) in
    let told : is_before (string_bytes c.index-words-at.result) (take (length c.args.words.now - (c.loop-at.at + 1)) rest) ≡ false = search rules in
    let stops = ap (λ l. is_before (string_bytes c.index-words-at.result) l) (sym whole) ∙ told in
    sym (c.loop-at.invariant ∙ names-at c.args.words.now c.loop-at.at c.index-words-at.result c.loop-at-test.true c.index-words-at.is ∙ ap (λ b. if b then are_names rest else false) stops)

pub loop-at-preserved : goal.loop-at-preserved
loop-at-preserved c =
    let rest = drop (c.loop-at.at + 1) c.args.words.now in
    let whole : take (length c.args.words.now - (c.loop-at.at + 1)) rest ≡ rest = take_all _ rest (omega (arith, length-drop (c.loop-at.at + 1) c.args.words.now)) in
    let told : is_before (string_bytes c.index-words-at.result) (take (length c.args.words.now - (c.loop-at.at + 1)) rest) ≡ true = search rules in
    let goes_on = ap (λ l. is_before (string_bytes c.index-words-at.result) l) (sym whole) ∙ told in
    c.loop-at.invariant ∙ names-at c.args.words.now c.loop-at.at c.index-words-at.result c.loop-at-test.true c.index-words-at.is ∙ ap (λ b. if b then are_names rest else false) goes_on

pub returns : goal.returns
returns c = sym (c.loop-at.invariant ∙ names-all c.args.words.now c.loop-at.at (omega (arith, c.loop-at-test.false)))
