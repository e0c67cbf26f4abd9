-- The texts of what is stated: the fields of its record.
use Rattle.std.specs.Prelude.{ℕ, Bool, true, false, List, [], ◌∷◌, codes, decimal}
use Rattle.desk_base.specs.Minute.{minute_text}
use Rattle.desk_base.specs.Month.{month_text}
use Rattle.duty_events.specs.declared.kind.Kind.{Kind}
use Rattle.duty_events.specs.declared.kind.Kind.TheVariants as kind
use Rattle.duty_events.specs.declared.event.Event.{Event}
use Rattle.duty_events.specs.declared.event.Event.TheVariants as event
use Rattle.qualifications.specs.Craft.{craft_text}
use Rattle.qualifications.specs.Quals.{quals_text}
use Rattle.desk_model.specs.declared.command.Cmd.{Cmd}
use Rattle.desk_model.specs.declared.command.Cmd.TheVariants as cmd
use Rattle.desk_model.specs.statements.Chain.{chain_text}
use Rattle.desk_model.specs.statements.Job.{JobValue}
use Rattle.desk_model.specs.statements.Statement.{StatedValue}

-- the word of a board's sort
abbrev pub sort_text : Bool → List ℕ
sort_text true = codes "extra"
sort_text false = codes "pool"

-- the word of a job: a relief one has its own
abbrev pub job_word : Bool → List ℕ
job_word true = codes "relief"
job_word false = codes "vacancy"

-- the fields of a job: its vacancy, craft, qualifications, place, report, duty, limbo and chain
abbrev pub job_fields : JobValue → List (List ℕ)
job_fields job =
    decimal job.vac
    ∷ craft_text job.craft
    ∷ quals_text job.quals
    ∷ job.place
    ∷ minute_text job.report
    ∷ decimal job.duty
    ∷ decimal job.limbo
    ∷ chain_text job.chain
    ∷ []

-- the letter of an interim's kind
abbrev pub kind_text : Kind → List ℕ
kind_text kind.D = codes "D"
kind_text kind.P = codes "P"
kind_text kind.O = codes "O"

-- the fields of an event: its word, its minutes, the kind and the place that it has
abbrev pub event_fields : Event → List (List ℕ)
event_fields (event.Ride t) = codes "ride" ∷ minute_text t ∷ []
event_fields (event.Duty t) = codes "duty" ∷ minute_text t ∷ []
event_fields (event.Interim t kind place) = codes "interim" ∷ minute_text t ∷ kind_text kind ∷ place ∷ []
event_fields (event.Resume t) = codes "resume" ∷ minute_text t ∷ []
event_fields (event.Relieve t) = codes "relieve" ∷ minute_text t ∷ []
event_fields (event.RideHome t) = codes "ridehome" ∷ minute_text t ∷ []
event_fields (event.Final t place) = codes "final" ∷ minute_text t ∷ place ∷ []
event_fields (event.Other span place) = codes "other" ∷ minute_text span.from ∷ minute_text span.to ∷ place ∷ []

-- the fields of a command: its word, and what it is about
abbrev pub command_fields : Cmd → List (List ℕ)
command_fields (cmd.Enrol person craft home quals) = codes "enrol" ∷ decimal person ∷ craft_text craft ∷ home ∷ quals_text quals ∷ []
command_fields (cmd.Board board extra place) = codes "board" ∷ board ∷ sort_text extra ∷ place ∷ []
command_fields (cmd.List person board) = codes "list" ∷ decimal person ∷ board ∷ []
command_fields (cmd.Unlist person board) = codes "unlist" ∷ decimal person ∷ board ∷ []
command_fields (cmd.MarkOff person) = codes "off" ∷ decimal person ∷ []
command_fields (cmd.MarkOn person) = codes "on" ∷ decimal person ∷ []
command_fields (cmd.Qualify person quals) = codes "qualify" ∷ decimal person ∷ quals_text quals ∷ []
command_fields (cmd.Past person event) = codes "past" ∷ decimal person ∷ event_fields event
command_fields (cmd.Happened person event) = codes "event" ∷ decimal person ∷ event_fields event
command_fields (cmd.Vacancy job) = job_word job.relief ∷ job_fields job
command_fields (cmd.Next vac) = codes "next" ∷ decimal vac ∷ []
command_fields (cmd.Offer vac person) = codes "offer" ∷ decimal vac ∷ decimal person ∷ []
command_fields (cmd.Accept vac person) = codes "accept" ∷ decimal vac ∷ decimal person ∷ []
command_fields (cmd.Decline vac person) = codes "decline" ∷ decimal vac ∷ decimal person ∷ []
command_fields (cmd.NoAnswer vac person) = codes "noanswer" ∷ decimal vac ∷ decimal person ∷ []
command_fields (cmd.Withdraw vac person) = codes "withdraw" ∷ decimal vac ∷ decimal person ∷ []
command_fields (cmd.Annul vac) = codes "annul" ∷ decimal vac ∷ []
command_fields (cmd.Drop person) = codes "drop" ∷ decimal person ∷ []
command_fields (cmd.Hours person month) = codes "hours" ∷ decimal person ∷ month_text month ∷ []
command_fields (cmd.At board place) = codes "at" ∷ board ∷ decimal place ∷ []
command_fields (cmd.Explain vac person) = codes "explain" ∷ decimal vac ∷ decimal person ∷ []
command_fields (cmd.Vac vac) = codes "vac" ∷ decimal vac ∷ []

-- the fields of a command's record: the minute at which it was stated, and the command's
abbrev pub stated_fields : StatedValue → List (List ℕ)
stated_fields s = minute_text s.minute ∷ command_fields s.cmd
