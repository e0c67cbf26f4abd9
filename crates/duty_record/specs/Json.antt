-- The JSON text of records: one object a tour, without spaces, keys in the order of their bytes. This desk's own form.
use Rattle.std.specs.Prelude.{ℕ, List, map, codes}
use Rattle.serde_json.specs.Data.{Data, unsigned, boolean, number, string, array, object, member, no_members}
use Rattle.serde_json.specs.View.{items_of}
use Rattle.serde_json.specs.Written.{compact_text}
use Rattle.desk_base.specs.Minute.{minute_text}
use Rattle.duty_record.specs.declared.tour_record.TourRecord.{TourRecord}

abbrev pub count : ℕ → Data
count n = number (unsigned n)

-- a tour's object, with the texts of its minutes and of its place
unfoldable pub tour_object : TourRecord → List ℕ → List ℕ → List ℕ → Data
tour_object t start end place =
    object (member (codes "capped") (count t.capped) (member (codes "end") (string end) (member (codes "excess") (count t.excess)
    (member (codes "limbo") (count t.limbo) (member (codes "on_duty") (count t.on_duty) (member (codes "over") (boolean t.over)
    (member (codes "person") (count t.person) (member (codes "place") (string place) (member (codes "start") (string start)
    (member (codes "vacancy") (count t.vacancy) no_members))))))))))

abbrev pub tour_data : TourRecord → Data
tour_data t = tour_object t (minute_text t.start) (minute_text t.end) t.place

-- the text of all of them: their objects in an array
unfoldable pub json_text : List TourRecord → List ℕ
json_text ts = compact_text (array (items_of (map tour_data ts)))
