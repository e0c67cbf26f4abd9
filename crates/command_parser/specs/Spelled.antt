-- What a record's fields state.
use Rattle.std.specs.Prelude.{◌≡◌, ℕ, List, ◌∷◌}
use Rattle.std.specs.List.{join_with_byte}
use Rattle.desk_model.specs.declared.command.Cmd.{Cmd}
use Rattle.duty_events.specs.declared.event.Event.{Event}
use Rattle.desk_model.specs.statements.Statement.{StatedValue}
use Rattle.desk_model.specs.statements.Fits.{IsEvent, IsCommand, IsStated}
use Rattle.desk_model.specs.texts.StatedTexts.{event_fields, command_fields, stated_fields}
use Rattle.command_parser.specs.declared.word.Word.{Word}
use Rattle.command_parser.specs.Word.{word_text}

-- the fields are this command's
pub record SpellsCommand (fields : List (List ℕ)) (cmd : Cmd) : Type 0 where
  pub valid : IsCommand cmd
  pub fields_are : fields ≡ command_fields cmd

-- the word, and behind it these fields, are this command's
abbrev pub Spells : Word → List (List ℕ) → Cmd → Type 0
Spells word about cmd = SpellsCommand (word_text word ∷ about) cmd

-- the fields are this event's
pub record SpellsEvent (fields : List (List ℕ)) (event : Event) : Type 0 where
  pub valid : IsEvent event
  pub fields_are : fields ≡ event_fields event

-- the fields are those of this command and of the minute at which it was stated
pub record StatesCommand (fields : List (List ℕ)) (s : StatedValue) : Type 0 where
  pub valid : IsStated s
  pub fields_are : fields ≡ stated_fields s

-- the fields are those of some command and of the minute at which it was stated
pub record StatesSome (fields : List (List ℕ)) : Type 0 where
  pub stated : StatedValue
  pub states : StatesCommand fields stated

-- the text is that of this command and of the minute at which it was stated: its fields with commas between them
pub record SpellsStated (text : List ℕ) (s : StatedValue) : Type 0 where
  pub valid : IsStated s
  pub text_is : text ≡ join_with_byte 44 (stated_fields s)
