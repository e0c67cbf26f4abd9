-- The words of commands and of events.
use Rattle.std.specs.Prelude.{ℕ, List, codes}
use Rattle.command_parser.specs.declared.word.Word.{Word}
use Rattle.command_parser.specs.declared.word.Word.TheVariants as word
use Rattle.command_parser.specs.declared.event_word.EventWord.{EventWord}
use Rattle.command_parser.specs.declared.event_word.EventWord.TheVariants as event_word

-- the word as it is written
abbrev pub word_text : Word → List ℕ
word_text word.Enrol = codes "enrol"
word_text word.Board = codes "board"
word_text word.List = codes "list"
word_text word.Unlist = codes "unlist"
word_text word.Off = codes "off"
word_text word.On = codes "on"
word_text word.Qualify = codes "qualify"
word_text word.Past = codes "past"
word_text word.Event = codes "event"
word_text word.Vacancy = codes "vacancy"
word_text word.Relief = codes "relief"
word_text word.Next = codes "next"
word_text word.Offer = codes "offer"
word_text word.Accept = codes "accept"
word_text word.Decline = codes "decline"
word_text word.NoAnswer = codes "noanswer"
word_text word.Withdraw = codes "withdraw"
word_text word.Annul = codes "annul"
word_text word.Drop = codes "drop"
word_text word.Hours = codes "hours"
word_text word.At = codes "at"
word_text word.Explain = codes "explain"
word_text word.Vac = codes "vac"

-- the word of an event as it is written
abbrev pub event_word_text : EventWord → List ℕ
event_word_text event_word.Ride = codes "ride"
event_word_text event_word.Duty = codes "duty"
event_word_text event_word.Interim = codes "interim"
event_word_text event_word.Resume = codes "resume"
event_word_text event_word.Relieve = codes "relieve"
event_word_text event_word.RideHome = codes "ridehome"
event_word_text event_word.Final = codes "final"
event_word_text event_word.Other = codes "other"
