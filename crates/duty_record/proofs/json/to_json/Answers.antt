use Rattle.std.proofs.Common.{◌∙◌, ap, arith, map, ◌≡◌, take}
use Rattle.std.proofs.lemmas.Grind.{common_steps}
use Rattle.serde_json.specs.Written.{compact_text, has_float}
use Rattle.duty_record.specs.Json.{tour_data, json_text}
use Rattle.duty_record.proofs.JsonLemmas.{plain-tours, view-tours}
use Rattle.duty_record.proofs.json.to_json.Goals as goal

pub returns : goal.returns
unfolding json_text
returns c =
    let ts = c.args.records.now in
    let whole : take c.loop-tour.tour-index ts ≡ ts = grind (arith, common_steps) in
    let built = view-tours c.loop-tour.values ts (c.loop-tour.invariant ∙ ap (map tour_data) whole) in
    c.in_ok-to_string.ensures.text (ap has_float built ∙ plain-tours ts) ∙ ap compact_text built
