-- Defines when a key was revoked in a run, with example runs in which the office replaces a key's
-- root.
use Rattle.club_core.specs.declared.refusal.Refusal.TheVariants as refusals
use Rattle.club_core.specs.declared.request.Request.TheVariants as asked
use Rattle.std.specs.{Prelude.{◌≡◌, ℕ, List, ◌∷◌, ◌++◌, Some, [], Ok, replicate, codes}, Str.bytes_eq}
use Rattle.club_core.specs.{Answer.verdict_in, Basis.key_of, Club.Club, Examples.{RunsAs, root, slot_at, noon, late, served_booking, account}, Laws.IsServed}
use Rattle.club_core.specs.{Request.Words, Run.{Event, Commanded, step, club_after, ToOffice, Asked, ToMember}, declared.command.Command.TheVariants.RevokeKey}
use Rattle.club_core.specs.declared.{command.{Command.TheVariants.RotateKey, OfficeAnswer.TheVariants.{Done, NewKey}}, reply.Reply.TheVariants.Refused}
use Rattle.club_core.specs.declared.request.Request.{Request}

-- The office revoked the key within the history.
pub record WasRevoked (club : Club) (history : List Event) (name : List ℕ) : Type 0 where
  pub front : List Event
  pub rest : List Event
  pub place : history ≡ front ++ Commanded (RevokeKey name) ∷ rest
  pub reply_is : (step (club_after club front) (Commanded (RevokeKey name))).reply ≡ ToOffice Done

-- After the office revoked a key, the desk serves no request under that key.
abbrev pub ServesNoRevokedKey : Type 0
ServesNoRevokedKey =
    (club : Club) (history : List Event) (name : List ℕ) (words : Words) (moment : ℕ)
    → WasRevoked club history name
    → key_of words.pass ≡ Some name
    → ¬ IsServed (verdict_in (club_after club history) words moment).reply

-- A request with a pass of the key amy-1. The pass is signed under this root only.
abbrev pub ask_under : List ℕ → Request → ℕ → Event
ask_under root request moment =
    Asked (record { pass = Ok (record { key = Some (codes "amy-1"); caveats = []; is_signed = λ other. bytes_eq other root }); request = request }) moment

-- The roots that the office sets in the example runs.
abbrev pub second_root : List ℕ
second_root = replicate 16 8

abbrev pub third_root : List ℕ
third_root = replicate 64 9

-- The moments of the example requests. `midnight` is 2026-04-25T00:00, and `before_midnight` is a
-- minute earlier.
abbrev pub midnight : ℕ
midnight = 29_617_920

abbrev pub before_midnight : ℕ
before_midnight = 29_617_919

abbrev pub rotate : List ℕ → ℕ → Event
rotate root until = Commanded (RotateKey (codes "amy-1") root until)

-- After a rotation, the older root is valid only before the moment that the office set. A repeat of
-- a booking under the new root gets the first reply and charges nothing.
abbrev pub RepeatsUnderANewRoot : Type 0
RepeatsUnderANewRoot =
    RunsAs
    ((ask_under root (asked.Book (slot_at 18) 7 2) noon, served_booking 7 600 1)
    ∷ (rotate second_root midnight, ToOffice (NewKey (codes "amy-1") second_root))
    ∷ (ask_under root asked.Account before_midnight, account 9_400 1 600)
    ∷ (ask_under root asked.Account midnight, ToMember (Refused refusals.NotVerified))
    ∷ (ask_under second_root (asked.Book (slot_at 18) 7 2) late, served_booking 7 600 1)
    ∷ (ask_under second_root asked.Account midnight, account 9_400 1 600)
    ∷ [])

-- A second rotation drops the older root that the first rotation kept. A revoked key stays revoked
-- after a rotation.
abbrev pub DropsTheOldestRoot : Type 0
DropsTheOldestRoot =
    RunsAs
    ((rotate second_root midnight, ToOffice (NewKey (codes "amy-1") second_root))
    ∷ (rotate third_root midnight, ToOffice (NewKey (codes "amy-1") third_root))
    ∷ (ask_under root asked.Account noon, ToMember (Refused refusals.NotVerified))
    ∷ (ask_under second_root asked.Account noon, account 10_000 0 0)
    ∷ (Commanded (RevokeKey (codes "amy-1")), ToOffice Done)
    ∷ (rotate root midnight, ToOffice (NewKey (codes "amy-1") root))
    ∷ (ask_under root asked.Account noon, ToMember (Refused refusals.KeyRevoked))
    ∷ [])
