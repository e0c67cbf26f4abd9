-- Which status comes where, of a journal that is read as it stands.
use Rattle.std.proofs.Common.{◌≡◌, ◌≢◌, ℕ, ◌≤◌, List, [], length, refl, ap, subst, arith, length-append, inl, inr, Option, Some, None}
use Rattle.std.specs.Prelude.{◌⊎◌}
use Rattle.desk_io.specs.Input.{TookMore}
use Rattle.desk_io.specs.declared.status.Status.{Status}
use Rattle.desk_io.specs.declared.status.Status.TheVariants.{Fine, Usage, ReadFault, WriteFault, TooLong, NoMemory, AuditWrong, NoOpening, Unreadable}
use Rattle.desk_model.specs.histories.History.{History}
use Rattle.audit_desk.specs.declared.journal.TheConstants.{JOURNAL_BYTES}
use Rattle.audit_desk.specs.Found.{HasNoOpening}
use Rattle.day_replay.specs.Ends.{WasRead, TellsMore, EndsAs}
use Rattle.crewdesk_main.specs.Lines.{HasTooManyLines, HasFewLines}
use Rattle.crewdesk_main.specs.Records.{Tells, TellsLine, EndsByTheLines}
use Rattle.crewdesk_main.proofs.OneJournalLemmas.{StartsWith-no_line, StartsWith-opening}

-- what was read of a source that told its bytes holds of them
was-told : (limit : ℕ) (left left' : Option (List ℕ)) (bytes : List ℕ) (P : List ℕ → Type 0) → left ≡ Some bytes → WasRead limit left left' P → (length bytes ≤ limit) × P bytes
was-told limit None left' bytes P told read = cc
was-told limit (Some all) left' bytes P told read =
    let same : all ≡ bytes = cc in
    (subst (λ b. length b ≤ limit) same read.0, subst P same read.2)

-- more was taken than the source told
more-told : (limit : ℕ) (left left' : Option (List ℕ)) (bytes : List ℕ) → left ≡ Some bytes → length bytes ≤ limit → ¬ TookMore left left' limit
more-told limit None left' bytes told within took = cc
more-told limit (Some all) None bytes told within took = took.taken
more-told limit (Some all) (Some rest) bytes told within took =
    let same : all ≡ bytes = cc in
    omega (arith, took.more, within, ap length same, ap length took.taken, length-append took.bytes rest)

-- a run ends so where each other end that it may have can't be
ends-so : (result status : Status) → (result ≡ Fine → result ≡ status) → (result ≡ WriteFault → result ≡ status) → (result ≡ TooLong → result ≡ status)
    → (result ≡ NoOpening → result ≡ status) → (result ≡ Unreadable → result ≡ status) → result ≢ Usage → result ≢ AuditWrong → EndsAs result status
ends-so Fine status fine fault long opening line form wrong = λ a b. fine refl
ends-so WriteFault status fine fault long opening line form wrong = λ a b. fault refl
ends-so TooLong status fine fault long opening line form wrong = λ a b. long refl
ends-so NoOpening status fine fault long opening line form wrong = λ a b. opening refl
ends-so Unreadable status fine fault long opening line form wrong = λ a b. line refl
ends-so Usage status fine fault long opening line form wrong = absurd (form refl)
ends-so AuditWrong status fine fault long opening line form wrong = absurd (wrong refl)
ends-so ReadFault status fine fault long opening line form wrong = λ a b. absurd (a refl)
ends-so NoMemory status fine fault long opening line form wrong = λ a b. absurd (b refl)

module _ (result : Status) (left left' : Option (List ℕ)) (text : History → List ℕ) (Whole Front : List ℕ → Type 0) (Line : List ℕ → Type 0)
    (fine : result ≡ Fine → Tells left left' text Whole) (fault : result ≡ WriteFault → Tells left left' text Front)
    (long : result ≡ TooLong → TookMore left left' JOURNAL_BYTES ⊎ WasRead JOURNAL_BYTES left left' HasTooManyLines)
    (opening : result ≡ NoOpening → WasRead JOURNAL_BYTES left left' (λ bytes. HasFewLines bytes × HasNoOpening bytes))
    (unread : result ≡ Unreadable → TellsLine left left' Line) (form : result ≢ Usage) (wrong : result ≢ AuditWrong) where
  -- more bytes than the limit were not read
  all-within : (P : List ℕ → Type 0) → TellsMore JOURNAL_BYTES left → ¬ WasRead JOURNAL_BYTES left left' P
  all-within P more read = omega (arith, more.more, (was-told JOURNAL_BYTES left left' more.bytes P more.told read).0)

  -- what has few lines is not too long
  few-long : (bytes : List ℕ) → left ≡ Some bytes → length bytes ≤ JOURNAL_BYTES → HasFewLines bytes → result ≢ TooLong
  few-long bytes told within few is = go (long is)
    where
      go : TookMore left left' JOURNAL_BYTES ⊎ WasRead JOURNAL_BYTES left left' HasTooManyLines → ⊥
      go (inl took) = more-told JOURNAL_BYTES left left' bytes told within took
      go (inr read) = omega (arith, few, (was-told JOURNAL_BYTES left left' bytes HasTooManyLines told read).1)

  pub EndsByTheLines-causes : EndsByTheLines result left
  EndsByTheLines-causes = record {
    more_bytes = λ more. ends-so result TooLong
        (λ is. absurd (all-within _ more (fine is).read)) (λ is. absurd (all-within _ more (fault is).read)) (λ is. is)
        (λ is. absurd (all-within _ more (opening is))) (λ is. absurd (all-within _ more (unread is).read)) form wrong;
    too_many = λ t. ends-so result TooLong
        (λ is. absurd (many t.bytes t.has (was-told _ left left' t.bytes _ t.told (fine is).read).1.0))
        (λ is. absurd (many t.bytes t.has (was-told _ left left' t.bytes _ t.told (fault is).read).1.0)) (λ is. is)
        (λ is. absurd (many t.bytes t.has (was-told _ left left' t.bytes _ t.told (opening is)).1.0))
        (λ is. absurd (many t.bytes t.has (was-told _ left left' t.bytes _ t.told (unread is).read).1.0)) form wrong;
    no_opening = λ t. ends-so result NoOpening
        (λ is. absurd (StartsWith-opening t.bytes [] _ (was-told _ left left' t.bytes _ t.told (fine is).read).1.1 t.has.1))
        (λ is. absurd (StartsWith-opening t.bytes [] _ (was-told _ left left' t.bytes _ t.told (fault is).read).1.1 t.has.1))
        (λ is. absurd (few-long t.bytes t.told t.within t.has.0 is)) (λ is. is)
        (λ is. let line = (was-told _ left left' t.bytes _ t.told (unread is).read).1.1 in absurd (StartsWith-opening t.bytes _ _ line.starts t.has.1)) form wrong;
    unreadable = λ line t. ends-so result Unreadable
        (λ is. absurd (StartsWith-no_line t.bytes _ line (was-told _ left left' t.bytes _ t.told (fine is).read).1.1 t.has.1))
        (λ is. absurd (StartsWith-no_line t.bytes _ line (was-told _ left left' t.bytes _ t.told (fault is).read).1.1 t.has.1))
        (λ is. absurd (few-long t.bytes t.told t.within t.has.0 is))
        (λ is. absurd (StartsWith-opening t.bytes _ _ t.has.1.starts (was-told _ left left' t.bytes _ t.told (opening is)).1.1)) (λ is. is) form wrong;
    journal = λ h t sound. ends-so result Fine
        (λ is. is) (λ is. absurd (sound is)) (λ is. absurd (few-long t.bytes t.told t.within t.has.0 is))
        (λ is. absurd (StartsWith-opening t.bytes [] h t.has.1 (was-told _ left left' t.bytes _ t.told (opening is)).1.1))
        (λ is. absurd (StartsWith-no_line t.bytes h _ t.has.1 (was-told _ left left' t.bytes _ t.told (unread is).read).1.1)) form wrong;
  }
    where
      many : (bytes : List ℕ) → HasTooManyLines bytes → ¬ HasFewLines bytes
      many bytes more few = omega (arith, more, few)
