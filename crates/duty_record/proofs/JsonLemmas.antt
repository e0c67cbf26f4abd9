-- The values that stand for records, and that none has a float in it.
use Rattle.std.proofs.Common.{◌≡◌, false, List, [], ◌∷◌, map, Vec, Global, refl, ap, ◌∙◌}
use Rattle.serde_json.specs.Data.{array}
use Rattle.serde_json.specs.View.{view, items_of}
use Rattle.serde_json.specs.Written.{has_float, items_have_float}
use Rattle.serde_json.specs.declared.value.Value.{Value}
use Rattle.serde_json.specs.declared.value.Value.TheVariants.{Array}
use Rattle.serde_json.proofs.Views.{view-Array}
use Rattle.duty_record.specs.declared.tour_record.TourRecord.{TourRecord}
use Rattle.duty_record.specs.Json.{tour_object, tour_data}

plain-tour : (t : TourRecord) → has_float (tour_data t) ≡ false
unfolding tour_object
plain-tour t = refl

pub plain-tours : (ts : List TourRecord) → items_have_float (items_of (map tour_data ts)) ≡ false
plain-tours [] = refl
plain-tours (t ∷ ts) = rw (plain-tour t) (plain-tours ts)

pub view-tours : (vs : Vec Value Global) (ts : List TourRecord) → map view vs.items ≡ map tour_data ts → view (Array vs) ≡ array (items_of (map tour_data ts))
view-tours vs ts are = view-Array vs ∙ ap (λ ds. array (items_of ds)) are
